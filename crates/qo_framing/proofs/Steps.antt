-- The cut byte by byte, which shows that it is the same anywhere.
use Rattle.std.proofs.Common.{◌≡◌, ℕ, zero, suc, ◌+◌, ◌-◌, ◌<◌, Bool, true, false, ◌==◌, List, [], ◌∷◌, ◌++◌, length, reverse, take, drop, Option, Some, None, refl, sym, ◌∙◌, ap, subst, arith, if◌then◌else◌, append_assoc, length-append}
use Rattle.std.specs.Prelude.{option_to_list}
use Rattle.std.proofs.lemmas.Bool.Decides.{nat_tests}
use Rattle.std.proofs.lemmas.List.{reverse-append, append-nil}
use Rattle.std.proofs.Math.Seq.{take-append-add, drop-append-add, drop-append_seam}
use Rattle.qo_framing.proofs.Cuts.{Shrinks, weight, first_shrinks, cuts_by_parts}
use Rattle.qo_framing.proofs.Scans.{end_here, no_end_here, later_twice}
use Rattle.qo_framing.specs.Classes.{is_passed, ends_skipping}
use Rattle.qo_framing.specs.Cut.{Cut, Framing, Part, between, inside, skipping, stops, goes_on, after_skipping, between_part, cut, cut_of_part, first_part, followed, buffered, item_of, object_part, skipping_part, trimmed}
use Rattle.qo_framing.specs.Fronts.{End, end_after, ending, later}
use Rattle.qo_framing.specs.Laws.{CutsAnywhere}
use Rattle.qo_framing.specs.declared.items.Item.{Item}
use Rattle.qo_framing.specs.declared.items.Item.TheVariants as item
use Rattle.qo_framing.specs.declared.scanner.Ending.{Ending}
use Rattle.qo_framing.specs.declared.scanner.Ending.TheVariants.{Whole, Broken, TooLong, TooDeep}

-- an item or none, and the state after a byte
pub record One : Type 0 where
  pub item : Option Item
  pub state : Framing

-- where skipping stands after a byte
abbrev pub skip : ℕ → Framing
skip b = if ends_skipping b then between else skipping

-- the state after the byte that ended an object: where the stream skips, that byte is skipped
abbrev pub after : Ending → ℕ → Framing
after Whole b = between
after Broken b = between
after TooLong b = skip b
after TooDeep b = skip b

-- one byte more of an object
abbrev pub inside_step : List ℕ → ℕ → Option Ending → One
inside_step front b None = record { item = None; state = inside (front ++ b ∷ []) }
inside_step front b (Some how) = record { item = Some (item_of how (front ++ b ∷ [])); state = after how b }

-- one byte
abbrev pub step : Framing → ℕ → One
step between b =
    if is_passed b then record { item = None; state = between }
    else (if b == 123 then record { item = None; state = inside (123 ∷ []) } else record { item = Some item.Junk; state = skipping })
step (inside front) b = inside_step front b (ending (b ∷ reverse front))
step skipping b = record { item = None; state = skip b }

-- byte by byte
abbrev pub steps : Framing → List ℕ → Cut
steps state [] = record { items = []; state = state }
steps state (b ∷ bytes) = followed (option_to_list (step state b).item) (steps (step state b).state bytes)

followed_twice : (xs ys : List Item) (c : Cut) → followed xs (followed ys c) ≡ followed (xs ++ ys) c
followed_twice xs ys c = ap (λ (l : List Item). record { items = l; state = c.state }) (sym (append_assoc xs ys c.items))

-- in two stretches
steps_more : (a b : List ℕ) (state : Framing) → steps state (a ++ b) ≡ followed (steps state a).items (steps (steps state a).state b)
steps_more [] b state = refl
steps_more (x ∷ a) b state =
    let one = step state x in
    ap (followed (option_to_list one.item)) (steps_more a b one.state)
    ∙ followed_twice (option_to_list one.item) (steps one.state a).items (steps (steps one.state a).state b)

-- where the bytes of an unfinished object are taken again
abbrev pub base : Framing → Framing
base between = between
base (inside front) = between
base skipping = skipping

-- from a state, with the bytes that it holds
abbrev pub whole_steps : Framing → List ℕ → Cut
whole_steps state bytes = steps (base state) (buffered state ++ bytes)

-- skipping
skipping_steps : (bytes : List ℕ) → cut_of_part (skipping_part (after_skipping bytes)) whole_steps ≡ steps skipping bytes
skipping_steps [] = refl
skipping_steps (b ∷ bytes) = by_end (ends_skipping b) refl (skipping_steps bytes)
  where
    by_end : (ends : Bool) → ends_skipping b ≡ ends → cut_of_part (skipping_part (after_skipping bytes)) whole_steps ≡ steps skipping bytes
        → cut_of_part (skipping_part (after_skipping (b ∷ bytes))) whole_steps ≡ steps skipping (b ∷ bytes)
    by_end true e further = rw e refl
    by_end false e further = rw e further

-- an object
object_none : (bytes front : List ℕ) (b : ℕ) (found : Option End)
    → (cut_of_part (object_part ((front ++ b ∷ []) ++ bytes) (later (length (front ++ b ∷ [])) found)) whole_steps ≡ steps (inside (front ++ b ∷ [])) bytes)
    → cut_of_part (object_part (front ++ b ∷ bytes) (later (length front) (later 1 found))) whole_steps ≡ steps (inside (front ++ b ∷ [])) bytes
object_none bytes front b found further =
    ap (λ (f : Option End). cut_of_part (object_part (front ++ b ∷ bytes) f) whole_steps)
    (later_twice (length front) 1 found ∙ ap (λ (n : ℕ). later n found) (sym (length-append front (b ∷ []))))
    ∙ (ap (λ (l : List ℕ). cut_of_part (object_part l (later (length (front ++ b ∷ [])) found)) whole_steps) (sym (append_assoc front (b ∷ []) bytes))
    ∙ further)

object_some : (bytes front : List ℕ) (b : ℕ) (how : Ending)
    → cut_of_part (object_part (front ++ b ∷ bytes) (Some (record { how = how; count = length front + 1 }))) whole_steps
    ≡ followed (item_of how (front ++ b ∷ []) ∷ []) (steps (after how b) bytes)
object_some bytes front b how = by_how how
  where
    taken : take (length front + 1) (front ++ b ∷ bytes) ≡ front ++ b ∷ []
    taken = take-append-add front (b ∷ bytes) 1

    left : drop (length front + 1) (front ++ b ∷ bytes) ≡ bytes
    left = drop-append-add front (b ∷ bytes) 1

    left_with : drop (length front + 1 - 1) (front ++ b ∷ bytes) ≡ b ∷ bytes
    left_with = ap (λ (n : ℕ). drop n (front ++ b ∷ bytes)) (omega arith) ∙ drop-append_seam front (b ∷ bytes)

    by_how : (how : Ending) → cut_of_part (object_part (front ++ b ∷ bytes) (Some (record { how = how; count = length front + 1 }))) whole_steps
        ≡ followed (item_of how (front ++ b ∷ []) ∷ []) (steps (after how b) bytes)
    by_how Whole =
        ap (λ (l : List ℕ). followed (item.Object l ∷ []) (steps between (drop (length front + 1) (front ++ b ∷ bytes)))) taken
        ∙ ap (λ (l : List ℕ). followed (item.Object (front ++ b ∷ []) ∷ []) (steps between l)) left
    by_how Broken = ap (λ (l : List ℕ). followed (item.Broken ∷ []) (steps between l)) left
    by_how TooLong = ap (λ (l : List ℕ). followed (item.TooLong ∷ []) (steps skipping l)) left_with
    by_how TooDeep = ap (λ (l : List ℕ). followed (item.TooDeep ∷ []) (steps skipping l)) left_with

object_steps : (bytes front : List ℕ)
    → cut_of_part (object_part (front ++ bytes) (later (length front) (end_after (reverse front) bytes))) whole_steps ≡ steps (inside front) bytes
object_steps [] front = ap (λ (l : List ℕ). record { items = []; state = inside l }) (append-nil front)
object_steps (b ∷ bytes) front = by_ending (ending (b ∷ reverse front)) refl (object_steps bytes (front ++ b ∷ []))
  where
    by_ending : (how : Option Ending) → ending (b ∷ reverse front) ≡ how
        → (cut_of_part (object_part ((front ++ b ∷ []) ++ bytes) (later (length (front ++ b ∷ [])) (end_after (reverse (front ++ b ∷ [])) bytes))) whole_steps
        ≡ steps (inside (front ++ b ∷ [])) bytes)
        → cut_of_part (object_part (front ++ b ∷ bytes) (later (length front) (end_after (reverse front) (b ∷ bytes)))) whole_steps
        ≡ steps (inside front) (b ∷ bytes)
    by_ending None is further =
        ap (λ (f : Option End). cut_of_part (object_part (front ++ b ∷ bytes) (later (length front) f)) whole_steps) (no_end_here (reverse front) b bytes is)
        ∙ (object_none bytes front b (end_after (b ∷ reverse front) bytes)
        (subst (λ (l : List ℕ). cut_of_part (object_part ((front ++ b ∷ []) ++ bytes) (later (length (front ++ b ∷ [])) (end_after l bytes))) whole_steps
        ≡ steps (inside (front ++ b ∷ [])) bytes) (reverse-append front (b ∷ [])) further)
        ∙ ap (λ (h : Option Ending). followed (option_to_list (inside_step front b h).item) (steps (inside_step front b h).state bytes)) (sym is))
    by_ending (Some how) is further =
        ap (λ (f : Option End). cut_of_part (object_part (front ++ b ∷ bytes) (later (length front) f)) whole_steps) (end_here (reverse front) b bytes how is)
        ∙ (object_some bytes front b how
        ∙ ap (λ (h : Option Ending). followed (option_to_list (inside_step front b h).item) (steps (inside_step front b h).state bytes)) (sym is))

-- between objects
brace_steps : (b : ℕ) (bytes : List ℕ) → b ≡ 123 → cut_of_part (between_part (b ∷ bytes)) whole_steps ≡ steps between (b ∷ bytes)
brace_steps b bytes is =
    subst (λ (x : ℕ). cut_of_part (between_part (x ∷ bytes)) whole_steps ≡ steps between (x ∷ bytes)) (sym is) (object_steps bytes (123 ∷ []))

junk_steps : (b : ℕ) (bytes : List ℕ) → is_passed b ≡ false → (b == 123) ≡ false
    → cut_of_part (between_part (b ∷ bytes)) whole_steps ≡ steps between (b ∷ bytes)
junk_steps b bytes plain no_brace =
    let stays : ends_skipping b ≡ false = grind (arith, nat_tests) in
    let one : step between b ≡ record { item = Some item.Junk; state = skipping } = rw (plain, no_brace) refl in
    ap (λ (v : Bool).
    cut_of_part (if v then object_part (b ∷ bytes) (end_after [] (b ∷ bytes)) else goes_on (Some item.Junk) skipping (b ∷ bytes)) whole_steps) no_brace
    ∙ (ap (λ (v : Bool). followed (item.Junk ∷ []) (steps (if v then between else skipping) bytes)) stays
    ∙ sym (ap (λ (o : One). followed (option_to_list o.item) (steps o.state bytes)) one))

between_steps : (bytes : List ℕ) → cut_of_part (between_part (trimmed bytes)) whole_steps ≡ steps between bytes
between_steps [] = refl
between_steps (b ∷ bytes) = by_class (is_passed b) (b == 123) refl refl (between_steps bytes)
  where
    by_class : (passed brace : Bool) → is_passed b ≡ passed → (b == 123) ≡ brace → cut_of_part (between_part (trimmed bytes)) whole_steps ≡ steps between bytes
        → cut_of_part (between_part (trimmed (b ∷ bytes))) whole_steps ≡ steps between (b ∷ bytes)
    by_class true brace is_passed_over is_brace further = rw is_passed_over further
    by_class false true plain is_brace further =
        ap (λ (v : Bool). cut_of_part (between_part (if v then trimmed bytes else b ∷ bytes)) whole_steps) plain
        ∙ brace_steps b bytes (grind (arith, nat_tests))
    by_class false false plain no_brace further =
        ap (λ (v : Bool). cut_of_part (between_part (if v then trimmed bytes else b ∷ bytes)) whole_steps) plain ∙ junk_steps b bytes plain no_brace

-- from any state
first_steps : (state : Framing) (bytes : List ℕ) → cut_of_part (first_part state bytes) whole_steps ≡ whole_steps state bytes
first_steps between bytes = between_steps bytes
first_steps (inside front) bytes = between_steps (front ++ bytes)
first_steps skipping bytes = skipping_steps bytes

parts_steps : (part : Part) (n : ℕ) → Shrinks n part → ((state : Framing) (bytes : List ℕ) → weight state bytes < n → cut state bytes ≡ whole_steps state bytes)
    → cut_of_part part cut ≡ cut_of_part part whole_steps
parts_steps (stops state) n h further = refl
parts_steps (goes_on item state rest) n h further = ap (followed (option_to_list item)) (further state rest h)

cut_steps_within : (n : ℕ) (state : Framing) (bytes : List ℕ) → weight state bytes < n → cut state bytes ≡ whole_steps state bytes
cut_steps_within zero state bytes few = absurd (omega arith)
cut_steps_within (suc n) state bytes few =
    cuts_by_parts state bytes
    ∙ (parts_steps (first_part state bytes) (weight state bytes) (first_shrinks state bytes) (λ t rest h. cut_steps_within n t rest (omega arith))
    ∙ first_steps state bytes)

-- the cut is that byte by byte
pub cut_is_steps : (state : Framing) (bytes : List ℕ) → cut state bytes ≡ whole_steps state bytes
cut_is_steps state bytes = cut_steps_within (suc (weight state bytes)) state bytes (omega arith)

-- a state in which nothing that is held comes to an end
abbrev pub IsSettled : Framing → Type 0
IsSettled state = steps (base state) (buffered state) ≡ record { items = []; state = state }

skip_settled : (b : ℕ) → IsSettled (skip b)
skip_settled b = by_end (ends_skipping b)
  where
    by_end : (ends : Bool) → IsSettled (if ends then between else skipping)
    by_end true = refl
    by_end false = refl

after_settled : (how : Ending) (b : ℕ) → IsSettled (after how b)
after_settled Whole b = refl
after_settled Broken b = refl
after_settled TooLong b = skip_settled b
after_settled TooDeep b = skip_settled b

inside_settled : (front : List ℕ) (b : ℕ) → IsSettled (inside front) → (how : Option Ending) → ending (b ∷ reverse front) ≡ how
    → IsSettled (inside_step front b how).state
inside_settled front b held_so (Some how) is = after_settled how b
inside_settled front b held_so None is =
    steps_more front (b ∷ []) between
    ∙ (ap (λ (c : Cut). followed c.items (steps c.state (b ∷ []))) held_so
    ∙ ap (λ (h : Option Ending). followed (option_to_list (inside_step front b h).item) (record { items = []; state = (inside_step front b h).state })) is)

step_settled : (state : Framing) (b : ℕ) → IsSettled state → IsSettled (step state b).state
step_settled between b h = by_class (is_passed b) (b == 123)
  where
    by_class : (passed brace : Bool) → IsSettled (if◌then◌else◌ {A = One} passed (record { item = None; state = between })
        (if◌then◌else◌ {A = One} brace (record { item = None; state = inside (123 ∷ []) }) (record { item = Some item.Junk; state = skipping }))).state
    by_class true brace = refl
    by_class false true = refl
    by_class false false = refl
step_settled (inside front) b h = inside_settled front b h (ending (b ∷ reverse front)) refl
step_settled skipping b h = skip_settled b

steps_settled : (bytes : List ℕ) (state : Framing) → IsSettled state → IsSettled (steps state bytes).state
steps_settled [] state h = h
steps_settled (b ∷ bytes) state h = steps_settled bytes (step state b).state (step_settled state b h)

base_settled : (state : Framing) → IsSettled (base state)
base_settled between = refl
base_settled (inside front) = refl
base_settled skipping = refl

settled_steps : (state : Framing) (bytes : List ℕ) → IsSettled state → whole_steps state bytes ≡ steps state bytes
settled_steps state bytes h =
    steps_more (buffered state) bytes (base state) ∙ ap (λ (c : Cut). followed c.items (steps c.state bytes)) h

-- the cut of two stretches
whole_more : (state : Framing) (a b : List ℕ) → whole_steps state (a ++ b) ≡ followed (whole_steps state a).items (whole_steps (whole_steps state a).state b)
whole_more state a b =
    ap (steps (base state)) (sym (append_assoc (buffered state) a b))
    ∙ (steps_more (buffered state ++ a) b (base state)
    ∙ ap (followed (whole_steps state a).items)
    (sym (settled_steps (whole_steps state a).state b (steps_settled (buffered state ++ a) (base state) (base_settled state)))))

pub cuts_anywhere : CutsAnywhere
cuts_anywhere state a b =
    cut_is_steps state (a ++ b)
    ∙ (whole_more state a b
    ∙ (ap (λ (c : Cut). followed c.items (whole_steps c.state b)) (sym (cut_is_steps state a))
    ∙ ap (followed (cut state a).items) (sym (cut_is_steps (cut state a).state b))))
