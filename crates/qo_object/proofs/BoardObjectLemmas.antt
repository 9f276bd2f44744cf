-- What an object is on the board, after each change.
use Rattle.std.proofs.Common.{◌≡◌, ℕ, zero, suc, Bool, true, false, ◌||◌, ◌==◌, cond, position, find, List, [], ◌∷◌, ◌++◌, map, length, slice_get, Option, Some, None, option_map, is_some, count_by, refl, ap, ◌∙◌}
use Rattle.std.proofs.lemmas.Cmp.{nat_list_eq_equiv}
use Rattle.std.specs.Option.{option_and_then}
use Rattle.std.specs.Str.{bytes_eq}
use Rattle.std.proofs.lemmas.List.{map-append}
use Rattle.std.proofs.lemmas.List.Sums.{sum_by-cons}
use Rattle.std.specs.List.{list_any}
use Rattle.qo_slots.specs.declared.keys.Key.{Key}
use Rattle.qo_model.specs.Board as board
use Rattle.qo_model.specs.References as references
use Rattle.qo_model.specs.Release as release
use Rattle.qo_model.specs.Paths as paths
use Rattle.qo_model.proofs.StepLemmas.{is_some-map}
use Rattle.qo_object.specs.declared.slots.Slot.{Slot}
use Rattle.qo_object.specs.declared.slots.Slot.TheVariants.{Plain, Child, Link, Alias}
use Rattle.qo_object.specs.Slots.{Named, slot_in, target_of, referent, holds, names_child, unless_born, forgotten_in, let_go_at, each_changed}
use Rattle.qo_values.proofs.ListLemmas.{find-at_place}
use Rattle.qo_object.specs.Content.{Content, with_slot, dropped_at, forgotten, holding, is_parent, reference_count}
use Rattle.qo_object.specs.BoardObject.{birth_of, shown_slot, shown_slots, shown}

-- one slot

pub shown-target : (s : Slot) → board.target_of (shown_slot s) ≡ birth_of (target_of s)
shown-target (Plain val) = refl
shown-target (Child key) = refl
shown-target (Link ty true target) = refl
shown-target (Link ty false target) = refl
shown-target (Alias key name) = refl

pub shown-held : (s : Slot) → board.referent (shown_slot s) ≡ birth_of (referent s)
shown-held (Plain val) = refl
shown-held (Child key) = refl
shown-held (Link ty true target) = refl
shown-held (Link ty false target) = refl
shown-held (Alias key name) = refl

some-held : (s : Slot) → is_some (board.referent (shown_slot s)) ≡ is_some (referent s)
some-held s = rw (shown-held s) (by (referent s))
  where
    by : (key : Option Key) → is_some (birth_of key) ≡ is_some key
    by None = refl
    by (Some key) = refl

pub shown-holds : (n : ℕ) (s : Slot) → references.holds_it n (shown_slot s) ≡ holds n s
shown-holds n (Plain val) = refl
shown-holds n (Child key) = refl
shown-holds n (Link ty true None) = refl
shown-holds n (Link ty true (Some key)) = refl
shown-holds n (Link ty false target) = refl
shown-holds n (Alias key name) = refl

unless-shown : (n : ℕ) (key : Key) → birth_of (unless_born n (Some key)) ≡ cond (key.birth == n) None (Some key.birth)
unless-shown n key = by (key.birth == n)
  where
    by : (b : Bool) → birth_of (cond b None (Some key)) ≡ cond b None (Some key.birth)
    by true = refl
    by false = refl

pub shown-forgotten : (n : ℕ) (s : Slot) → shown_slot (forgotten_in n s) ≡ release.forgotten_in n (shown_slot s)
shown-forgotten n (Plain val) = refl
shown-forgotten n (Child key) = refl
shown-forgotten n (Link ty true None) = refl
shown-forgotten n (Link ty true (Some key)) = refl
shown-forgotten n (Link ty false None) = refl
shown-forgotten n (Link ty false (Some key)) = ap (board.weak ty) (unless-shown n key)
shown-forgotten n (Alias key name) = refl

-- the slots

pub length-shown : (slots : List Named) → length (shown_slots slots) ≡ length slots
length-shown [] = refl
length-shown (s ∷ slots) = ap suc (length-shown slots)

pub slice_get-shown : (slots : List Named) (i : ℕ) → slice_get (shown_slots slots) i ≡ option_map (λ (s : Named). (s.0, shown_slot s.1)) (slice_get slots i)
slice_get-shown [] i = refl
slice_get-shown (s ∷ slots) zero = refl
slice_get-shown (s ∷ slots) (suc i) = slice_get-shown slots i

let_go-shown : (i : ℕ) (slots : List Named) → shown_slots (let_go_at i slots) ≡ release.without_hold i (shown_slots slots)
let_go-shown i [] = refl
let_go-shown zero ((name, Plain val) ∷ slots) = refl
let_go-shown zero ((name, Child key) ∷ slots) = refl
let_go-shown zero ((name, Link ty true target) ∷ slots) = refl
let_go-shown zero ((name, Link ty false target) ∷ slots) = refl
let_go-shown zero ((name, Alias key property) ∷ slots) = refl
let_go-shown (suc i) (s ∷ slots) = ap (λ ss. (s.0, shown_slot s.1) ∷ ss) (let_go-shown i slots)

forgotten-shown : (n : ℕ) (slots : List Named)
    → shown_slots (each_changed (forgotten_in n) slots) ≡ map (λ (s : List ℕ × board.Slot). (s.0, release.forgotten_in n s.1)) (shown_slots slots)
forgotten-shown n [] = refl
forgotten-shown n (s ∷ slots) = λ j. (s.0, shown-forgotten n s.1 j) ∷ forgotten-shown n slots j

holding-shown : (n : ℕ) (slots : List Named)
    → count_by (λ (s : List ℕ × board.Slot). references.holds_it n s.1) (shown_slots slots) ≡ count_by (λ (s : Named). holds n s.1) slots
holding-shown n [] = refl
holding-shown n (s ∷ slots) =
    let rest : count_by (λ (t : List ℕ × board.Slot). references.holds_it n t.1) (shown_slots slots) ≡ count_by (λ (t : Named). holds n t.1) slots =
    holding-shown n slots in
    rw (
      sum_by-cons (λ (t : List ℕ × board.Slot). cond {A = ℕ} (references.holds_it n t.1) 1 0) (s.0, shown_slot s.1) (shown_slots slots),
      sum_by-cons (λ (t : Named). cond {A = ℕ} (holds n t.1) 1 0) s slots,
      shown-holds n s.1,
      rest,
    ) refl

-- the object

pub shown-dropped : (n i : ℕ) (c : Content) → shown n (dropped_at i c) ≡ release.with_dropped i (shown n c)
shown-dropped n i c = ap (λ slots. record (shown n c) { slots = slots }) (let_go-shown i c.slots)

pub forgotten_is_shown : (n m : ℕ) (c : Content) → shown n (forgotten m c) ≡ release.forgotten m (shown n c)
forgotten_is_shown n m c = ap (λ slots. record (shown n c) { slots = slots }) (forgotten-shown m c.slots)

pub shown-with_slot : (n : ℕ) (name : List ℕ) (s : Slot) (c : Content)
    → shown n (with_slot name s c) ≡ record (shown n c) { slots = shown_slots c.slots ++ (name, shown_slot s) ∷ [] }
shown-with_slot n name s c = ap (λ slots. record (shown n c) { slots = slots }) (map-append (λ (t : Named). (t.0, shown_slot t.1)) c.slots ((name, s) ∷ []))

pub refs-shown : (n m : ℕ) (c : Content) → references.refs_in m (shown n c) ≡ holding m c
refs-shown n m c = holding-shown m c.slots

pub reference_count-shown : (n : ℕ) (c : Content) → count_by (λ (s : List ℕ × board.Slot). is_some (board.referent s.1)) (shown n c).slots ≡ reference_count c
reference_count-shown n c = go c.slots
  where
    go : (slots : List Named)
        → count_by (λ (s : List ℕ × board.Slot). is_some (board.referent s.1)) (shown_slots slots) ≡ count_by (λ (s : Named). is_some (referent s.1)) slots
    go [] = refl
    go (s ∷ slots) =
        let rest : count_by (λ (t : List ℕ × board.Slot). is_some (board.referent t.1)) (shown_slots slots)
        ≡ count_by (λ (t : Named). is_some (referent t.1)) slots =
        go slots in
        rw (
          sum_by-cons (λ (t : List ℕ × board.Slot). cond {A = ℕ} (is_some (board.referent t.1)) 1 0) (s.0, shown_slot s.1) (shown_slots slots),
          sum_by-cons (λ (t : Named). cond {A = ℕ} (is_some (referent t.1)) 1 0) s slots,
          some-held s.1,
          rest,
        ) refl

pub parent-shown : (n m : ℕ) (c : Content) → is_some (paths.place_in m (shown n c)) ≡ is_parent m c
parent-shown n m c = is_some-map _ (find (λ s. paths.is_child m s.1) (shown_slots c.slots)) ∙ go c.slots
  where
    one : (s : Slot) → paths.is_child m (shown_slot s) ≡ names_child m s
    one (Plain val) = refl
    one (Child key) = refl
    one (Link ty true target) = refl
    one (Link ty false target) = refl
    one (Alias key name) = refl

    go : (slots : List Named) → is_some (find (λ s. paths.is_child m s.1) (shown_slots slots)) ≡ list_any (λ (s : Named). names_child m s.1) slots
    go [] = refl
    go (s ∷ slots) = rw (one s.1) (by (names_child m s.1) (go slots))
      where
        by : (b : Bool) → is_some (find (λ t. paths.is_child m t.1) (shown_slots slots)) ≡ list_any (λ (t : Named). names_child m t.1) slots
            → is_some (cond b (Some (s.0, shown_slot s.1)) (find (λ t. paths.is_child m t.1) (shown_slots slots))) ≡ b
            || list_any (λ (t : Named). names_child m t.1) slots
        by true rest = refl
        by false rest = rest

pub child-shown : (m : ℕ) (slots : List Named)
    → list_any (λ (k : ℕ). k == m) (paths.children_in (shown_slots slots)) ≡ list_any (λ (s : Named). names_child m s.1) slots
child-shown m [] = refl
child-shown m ((name, Plain val) ∷ slots) = child-shown m slots
child-shown m ((name, Child key) ∷ slots) = ap (λ b. (key.birth == m) || b) (child-shown m slots)
child-shown m ((name, Link ty true target) ∷ slots) = child-shown m slots
child-shown m ((name, Link ty false target) ∷ slots) = child-shown m slots
child-shown m ((name, Alias key property) ∷ slots) = child-shown m slots

-- the board finds by its name what stands at the place of the name
pub named-shown : (name : List ℕ) (slots : List Named) → option_map (λ (s : List ℕ × board.Slot). s.1) (find (λ s. bytes_eq s.0 name) (shown_slots slots))
    ≡ option_map shown_slot (option_and_then (slot_in slots) (position (λ (s : Named). bytes_eq name s.0) slots))
named-shown name slots =
    first slots
    ∙ ap (option_map (λ (s : Named). shown_slot s.1)) (find-at_place (λ (s : Named). bytes_eq name s.0) slots)
    ∙ there (position (λ (s : Named). bytes_eq name s.0) slots)
  where
    first : (ss : List Named) → option_map (λ (s : List ℕ × board.Slot). s.1) (find (λ s. bytes_eq s.0 name) (shown_slots ss))
        ≡ option_map (λ (s : Named). shown_slot s.1) (find (λ s. bytes_eq name s.0) ss)
    first [] = refl
    first (s ∷ ss) = rw (nat_list_eq_equiv.symm s.0 name) (by (bytes_eq name s.0) (first ss))
      where
        by : (b : Bool) → option_map (λ (t : List ℕ × board.Slot). t.1) (find (λ t. bytes_eq t.0 name) (shown_slots ss))
            ≡ option_map (λ (t : Named). shown_slot t.1) (find (λ t. bytes_eq name t.0) ss)
            → option_map (λ (t : List ℕ × board.Slot). t.1) (cond b (Some (s.0, shown_slot s.1)) (find (λ t. bytes_eq t.0 name) (shown_slots ss)))
            ≡ option_map (λ (t : Named). shown_slot t.1) (cond b (Some s) (find (λ t. bytes_eq name t.0) ss))
        by true rest = refl
        by false rest = rest

    twice : (o : Option Named) → option_map (λ (s : Named). shown_slot s.1) o ≡ option_map shown_slot (option_map (λ (s : Named). s.1) o)
    twice None = refl
    twice (Some s) = refl

    there : (place : Option ℕ)
        → option_map (λ (s : Named). shown_slot s.1) (option_and_then (slice_get slots) place) ≡ option_map shown_slot (option_and_then (slot_in slots) place)
    there None = refl
    there (Some i) = twice (slice_get slots i)
