-- The kids of a bus by the names of its slots, and what a walk over slots gives first.
use Rattle.std.proofs.Common.{◌≡◌, refl, ap, sym, ◌∙◌, ℕ, zero, suc, ◌+◌, ◌-◌, ◌<◌, ◌≤◌, Bool, true, false, List, [], ◌∷◌, length, drop, find, slice_get}
use Rattle.std.proofs.Common.{Option, Some, None, is_some, option_map, arith}
use Rattle.std.specs.Prelude.{filter_map}
use Rattle.std.specs.List.{cons_option, list_any}
use Rattle.std.specs.Option.{option_and_then}
use Rattle.std.specs.Str.{bytes_eq}
use Rattle.qo_values.specs.Placing.{least}
use Rattle.qo_object.specs.BoardObject.{shown_slots}
use Rattle.qo_object.specs.Slots.{Named}
use Rattle.qo_model.specs.Board as board
use Rattle.qo_model.specs.Devices.{buses_of, first_bus, kid_name}
use Rattle.qo_paths.proofs.EndLemmas.{given-drop}
use Rattle.std.proofs.lemmas.Cmp.{nat_list_eq_equiv}
use Rattle.std.proofs.lemmas.Option.{slice_get_within}
use Rattle.qo_model.specs.Objects.{has_slot}
use Rattle.qo_model.specs.Unplug.{first_of}
use Rattle.qo_heap.specs.Objects.{Objects, slots_of}
use Rattle.qo_heap.specs.Board.{Shows}
use Rattle.qo_heap.proofs.HeapLemmas.{is_some-find}
use Rattle.qo_heap.proofs.BoardReads.{shows-slots}

-- a walk that is past the last
pub given-end : {X : Type 0} (f : X → Option ℕ) (xs : List X) (i : ℕ) → slice_get xs i ≡ None → filter_map f (drop i xs) ≡ []
given-end f [] zero e = refl
given-end f [] (suc i) e = refl
given-end f (x ∷ xs) zero e = cc
given-end f (x ∷ xs) (suc i) e = given-end f xs i e

-- the least free slot, turn by turn
pub least-here : (test : ℕ → Bool) (i n : ℕ) → i < n → test i ≡ true → least test i (n - i) ≡ Some i
unfolding least
least-here test i n below is = let more : n - i ≡ suc (n - (i + 1)) = omega arith in rw (more, least, is) refl

pub least-next : (test : ℕ → Bool) (i n : ℕ) → i < n → test i ≡ false → least test i (n - i) ≡ least test (i + 1) (n - (i + 1))
unfolding least
least-next test i n below is = let more : n - i ≡ suc (n - (i + 1)) = omega arith in rw (more, least, is) refl

pub least-past : (test : ℕ → Bool) (i n : ℕ) → n ≤ i → least test i (n - i) ≡ None
unfolding least
least-past test i n past = let none : n - i ≡ 0 = omega arith in rw none refl

-- whether there is a slot of a name
any-shown : (name : List ℕ) (slots : List Named)
    → list_any (λ (s : List ℕ × board.Slot). bytes_eq s.0 name) (shown_slots slots) ≡ list_any (λ (t : Named). bytes_eq name t.0) slots
any-shown name [] = refl
any-shown name (t ∷ slots) = rw (nat_list_eq_equiv.symm t.0 name, any-shown name slots) refl

some-map : {X Y : Type 0} (f : X → Y) (o : Option X) → is_some o ≡ is_some (option_map f o)
some-map f None = refl
some-map f (Some x) = refl

pub has-shown : {X : Type 0} (f : X → Named) (o : Option X) (b : board.Board) (v : Objects) → Shows b v → (n : ℕ) (name : List ℕ)
    → option_map f o ≡ find (λ (t : Named). bytes_eq name t.0) (slots_of v n) → is_some o ≡ has_slot b n name
has-shown f o b v s n name found =
    some-map f o ∙ ap is_some found ∙ is_some-find (λ (t : Named). bytes_eq name t.0) (slots_of v n)
    ∙ sym (ap (list_any (λ (t : List ℕ × board.Slot). bytes_eq t.0 name)) (shows-slots b v s n) ∙ any-shown name (slots_of v n))

-- what a look at a place of the slots says of the walk
module _ {X : Type 0} (f : X → Named) (o : Option X) (xs : List Named) (i : ℕ) (e : option_map f o ≡ slice_get xs i) where
  pub none-at : is_some o ≡ false → slice_get xs i ≡ None
  none-at none = go o none e
    where
      go : (p : Option X) → is_some p ≡ false → option_map f p ≡ slice_get xs i → slice_get xs i ≡ None
      go None q r = sym r
      go (Some x) q r = cc

  pub some-within : is_some o ≡ true → i < length xs
  some-within some = go o some e
    where
      go : (p : Option X) → is_some p ≡ true → option_map f p ≡ slice_get xs i → i < length xs
      go None q r = cc
      go (Some x) q r = slice_get_within xs i (f x) (sym r)

-- the first that slots give
module _ {X : Type 0} (f : X → Option ℕ) (xs : List X) (i : ℕ) (whole : List ℕ) (so : filter_map f (drop i xs) ≡ whole) where
  pub given-here : (n : ℕ) → Some n ≡ option_and_then f (slice_get xs i) → Some n ≡ first_of whole
  given-here n e = ap first_of (sym (ap (λ (o : Option ℕ). cons_option o (filter_map f (drop (i + 1) xs))) (sym e)) ∙ sym (given-drop f xs i) ∙ so)

  pub given-next : None ≡ option_and_then f (slice_get xs i) → filter_map f (drop (i + 1) xs) ≡ whole
  given-next e = sym (ap (λ (o : Option ℕ). cons_option o (filter_map f (drop (i + 1) xs))) (sym e)) ∙ sym (given-drop f xs i) ∙ so

  pub given-none : slice_get xs i ≡ None → None ≡ first_of whole
  given-none e = ap first_of (sym (given-end f xs i e) ∙ so)

pub first-is : (b : board.Board) (n : ℕ) → first_of (buses_of b n) ≡ first_bus b n
first-is b n = go (buses_of b n)
  where
    go : (xs : List ℕ) → first_of xs ≡ elim xs as (λ _. Option ℕ) [ [] ↦ None | m ∷ _ ↦ Some m ]
    go [] = refl
    go (m ∷ ms) = refl
