-- The cut goes by parts, and is the same anywhere.
use Rattle.std.proofs.Common.{◌≡◌, ℕ, zero, suc, ◌+◌, ◌-◌, ◌*◌, ◌<◌, ◌≤◌, Bool, true, false, ◌==◌, List, [], ◌∷◌, ◌++◌, length, Option, Some, None, refl, sym, ◌∙◌, ap, arith, length-append, length-drop, if◌then◌else◌}
use Rattle.std.specs.Prelude.{option_to_list}
use Rattle.qo_framing.specs.Classes.{is_passed, ends_skipping}
use Rattle.qo_framing.specs.Cut.{Framing, Part, between, inside, skipping, stops, goes_on, after_skipping, between_part, cut, cut_of_part, cut_within, first_part, followed, buffered, left_after, object_part, skipping_part, framing_after, trimmed}
use Rattle.qo_framing.specs.Fronts.{End, end_after, ending, here_or_later}
use Rattle.qo_framing.specs.Laws.{CutsByParts}
use Rattle.qo_framing.specs.declared.items.Item.TheVariants as item
use Rattle.qo_framing.specs.declared.scanner.Ending.{Ending}
use Rattle.qo_framing.specs.declared.scanner.Ending.TheVariants.{Whole, Broken, TooLong, TooDeep}

-- how many parts there may still be
abbrev pub weight : Framing → List ℕ → ℕ
weight between bytes = 2 * length bytes + 1
weight (inside front) bytes = 2 * (length front + length bytes) + 1
weight skipping bytes = 2 * length bytes

-- a part that goes on leaves fewer
abbrev pub Shrinks : ℕ → Part → Type 0
Shrinks n (stops state) = Unit {0}
Shrinks n (goes_on item state rest) = weight state rest < n

shrinks_more : (m n : ℕ) (part : Part) → m ≤ n → Shrinks m part → Shrinks n part
shrinks_more m n (stops state) le h = h
shrinks_more m n (goes_on item state rest) le h = omega arith

trimmed_short : (bytes : List ℕ) → length (trimmed bytes) ≤ length bytes
trimmed_short [] = omega arith
trimmed_short (b ∷ bytes) = by_passed (is_passed b) refl (trimmed_short bytes)
  where
    by_passed : (passed : Bool) → is_passed b ≡ passed → length (trimmed bytes) ≤ length bytes → length (trimmed (b ∷ bytes)) ≤ length (b ∷ bytes)
    by_passed true e short = rw e (omega arith)
    by_passed false e short = rw e (omega arith)

skipping_shrinks : (bytes : List ℕ) → Shrinks (2 * length bytes) (skipping_part (after_skipping bytes))
skipping_shrinks [] = tt
skipping_shrinks (b ∷ bytes) = by_end (ends_skipping b) refl (skipping_shrinks bytes)
  where
    by_end : (ends : Bool) → ends_skipping b ≡ ends → Shrinks (2 * length bytes) (skipping_part (after_skipping bytes))
        → Shrinks (2 * length (b ∷ bytes)) (skipping_part (after_skipping (b ∷ bytes)))
    by_end true e short = rw e (omega arith)
    by_end false e short = rw e (shrinks_more (2 * length bytes) (2 * length (b ∷ bytes)) (skipping_part (after_skipping bytes)) (omega arith) short)

-- an end takes a byte
counts_some : (front bytes : List ℕ) (e : End) → end_after front bytes ≡ Some e → 0 < e.count
counts_some front [] e is = cc
counts_some front (b ∷ bytes) e is = by_ending (ending (b ∷ front)) (end_after (b ∷ front) bytes) is
  where
    by_ending : (how : Option Ending) (found : Option End) → here_or_later how found ≡ Some e → 0 < e.count
    by_ending (Some x) found h = let one : 1 ≡ e.count = cc in omega arith
    by_ending None (Some d) h = let more : 1 + d.count ≡ e.count = cc in omega arith
    by_ending None None h = cc

object_shrinks : (b : ℕ) (bytes : List ℕ) (found : Option End) → ((e : End) → found ≡ Some e → 0 < e.count)
    → Shrinks (2 * length (b ∷ bytes) + 1) (object_part (b ∷ bytes) found)
object_shrinks b bytes None some = tt
object_shrinks b bytes (Some e) some = by_how e.how
  where
    by_how : (how : Ending) → weight (framing_after how) (left_after how e.count (b ∷ bytes)) < 2 * length (b ∷ bytes) + 1
    by_how Whole = omega (arith, some e refl, length-drop e.count (b ∷ bytes))
    by_how Broken = omega (arith, some e refl, length-drop e.count (b ∷ bytes))
    by_how TooLong = omega (arith, some e refl, length-drop (e.count - 1) (b ∷ bytes))
    by_how TooDeep = omega (arith, some e refl, length-drop (e.count - 1) (b ∷ bytes))

between_shrinks : (bytes : List ℕ) → Shrinks (2 * length bytes + 1) (between_part bytes)
between_shrinks [] = tt
between_shrinks (b ∷ bytes) = by_brace (b == 123)
  where
    by_brace : (brace : Bool) → Shrinks (2 * length (b ∷ bytes) + 1)
        (if brace then object_part (b ∷ bytes) (end_after [] (b ∷ bytes)) else goes_on (Some item.Junk) skipping (b ∷ bytes))
    by_brace true = object_shrinks b bytes (end_after [] (b ∷ bytes)) (counts_some [] (b ∷ bytes))
    by_brace false = omega arith

-- a first part leaves fewer parts
pub first_shrinks : (state : Framing) (bytes : List ℕ) → Shrinks (weight state bytes) (first_part state bytes)
first_shrinks between bytes =
    shrinks_more (2 * length (trimmed bytes) + 1) (2 * length bytes + 1) (between_part (trimmed bytes)) (omega (arith, trimmed_short bytes))
    (between_shrinks (trimmed bytes))
first_shrinks (inside front) bytes =
    shrinks_more (2 * length (trimmed (front ++ bytes)) + 1) (2 * (length front + length bytes) + 1) (between_part (trimmed (front ++ bytes)))
    (omega (arith, trimmed_short (front ++ bytes), length-append front bytes)) (between_shrinks (trimmed (front ++ bytes)))
first_shrinks skipping bytes = skipping_shrinks bytes

-- more parts than there are change nothing
same_parts : (m n : ℕ) (part : Part) (k : ℕ) → Shrinks k part → k ≤ m → k ≤ n
    → ((state : Framing) (bytes : List ℕ) → weight state bytes < m → weight state bytes < n → cut_within m state bytes ≡ cut_within n state bytes)
    → cut_of_part part (cut_within m) ≡ cut_of_part part (cut_within n)
same_parts m n (stops state) k h km kn further = refl
same_parts m n (goes_on item state rest) k h km kn further =
    ap (followed (option_to_list item)) (further state rest (omega arith) (omega arith))

enough : (m n : ℕ) (state : Framing) (bytes : List ℕ) → weight state bytes < m → weight state bytes < n → cut_within m state bytes ≡ cut_within n state bytes
enough zero n state bytes few_m few_n = absurd (omega arith)
enough (suc m) zero state bytes few_m few_n = absurd (omega arith)
enough (suc m) (suc n) state bytes few_m few_n =
    same_parts m n (first_part state bytes) (weight state bytes) (first_shrinks state bytes) (omega arith) (omega arith) (enough m n)

all_parts : (state : Framing) (bytes : List ℕ) → weight state bytes < 2 * (length (buffered state) + length bytes) + 2
all_parts between bytes = omega arith
all_parts (inside front) bytes = omega arith
all_parts skipping bytes = omega arith

within_is_cut : (n : ℕ) (state : Framing) (bytes : List ℕ) → weight state bytes < n → cut_within n state bytes ≡ cut state bytes
unfolding cut
within_is_cut n state bytes few =
    enough n (2 * (length (buffered state) + length bytes) + 2) state bytes few (all_parts state bytes)

cut_of_parts : (part : Part) (n : ℕ) → Shrinks n part → cut_of_part part (cut_within n) ≡ cut_of_part part cut
cut_of_parts (stops state) n h = refl
cut_of_parts (goes_on item state rest) n h = ap (followed (option_to_list item)) (within_is_cut n state rest h)

pub cuts_by_parts : CutsByParts
cuts_by_parts state bytes =
    sym (within_is_cut (suc (weight state bytes)) state bytes (omega arith))
    ∙ cut_of_parts (first_part state bytes) (weight state bytes) (first_shrinks state bytes)
