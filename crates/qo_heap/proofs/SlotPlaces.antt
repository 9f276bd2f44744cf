-- The place of a slot, as a board shows it.
use Rattle.std.proofs.Common.{◌≡◌, refl, ap, ◌∙◌, ℕ, zero, suc, ◌+◌, ◌-◌, ◌<◌, Bool, true, false, not, cond, nat_lt, List, [], ◌∷◌, length, drop}
use Rattle.std.proofs.Common.{slice_get, position, Option, Some, None, arith}
use Rattle.std.specs.List.{position_or_len}
use Rattle.std.specs.Str.{bytes_eq}
use Rattle.std.proofs.lemmas.Bool.Decides.{nat_tests}
use Rattle.std.proofs.lemmas.Cmp.{nat_list_eq_equiv}
use Rattle.std.proofs.lemmas.Option.{same_Some, slice_get_within}
use Rattle.qo_model.specs.Board as board
use Rattle.qo_model.specs.Objects.{index_from}
use Rattle.qo_model.specs.Unplug.{is_named}
use Rattle.qo_object.specs.BoardObject.{shown_slot, shown_slots}
use Rattle.qo_object.specs.Slots.{Named}

-- one after another

-- fewer slots are left after one
pub slots-fewer : (i : ℕ) (slots : List Named) (s : Named) → slice_get slots i ≡ Some s → length slots - (i + 1) < length slots - i
slots-fewer i slots s e = let within : i < length slots = slice_get_within slots i s e in omega arith

module _ (p : List ℕ × board.Slot → Bool) where
  abbrev pub place_after : ℕ → List Named → Option ℕ
  place_after i slots = index_from p i (shown_slots (drop i slots))

  step : (i k : ℕ) (slots : List Named) (s : Named) → slice_get slots i ≡ Some s
      → index_from p k (shown_slots (drop i slots)) ≡ cond (p (s.0, shown_slot s.1)) (Some k) (index_from p (suc k) (shown_slots (drop (suc i) slots)))
  step i k [] s e = cc
  step zero k (x ∷ slots) s e = let same : x ≡ s = same_Some x s e in
      ap (λ (y : Named). cond (p (y.0, shown_slot y.1)) (Some k) (index_from p (suc k) (shown_slots slots))) same
  step (suc i) k (x ∷ slots) s e = step i k slots s e

  past : (i k : ℕ) (slots : List Named) → slice_get slots i ≡ None → index_from p k (shown_slots (drop i slots)) ≡ None
  past zero k [] e = refl
  past (suc i) k [] e = refl
  past zero k (x ∷ slots) e = cc
  past (suc i) k (x ∷ slots) e = past i k slots e

  pub place-here : (i : ℕ) (slots : List Named) (s : Named) → slice_get slots i ≡ Some s → p (s.0, shown_slot s.1) ≡ true → place_after i slots ≡ Some i
  place-here i slots s e is = step i i slots s e ∙ ap (λ (b : Bool). cond b (Some i) (place_after (suc i) slots)) is

  pub place-next : (i : ℕ) (slots : List Named) (s : Named) → slice_get slots i ≡ Some s → p (s.0, shown_slot s.1) ≡ false
      → place_after i slots ≡ place_after (i + 1) slots
  place-next i slots s e is =
      let more : suc i ≡ i + 1 = omega arith in
      step i i slots s e ∙ ap (λ (b : Bool). cond b (Some i) (place_after (suc i) slots)) is ∙ ap (λ (j : ℕ). place_after j slots) more

  pub place-past : (i : ℕ) (slots : List Named) → slice_get slots i ≡ None → place_after i slots ≡ None
  place-past i slots e = past i i slots e

-- the place of a slot, as a look-up finds it

later : (m n : ℕ) → nat_lt m n ≡ nat_lt (1 + m) (suc n)
later m n = grind (arith, nat_tests)

abbrev first_at : (Named → Bool) → ℕ → List Named → Option ℕ
first_at q k slots = cond (nat_lt (position_or_len q slots) (length slots)) (Some (k + position_or_len q slots)) None

module _ (p : List ℕ × board.Slot → Bool) (q : Named → Bool) (same : (t : Named) → p (t.0, shown_slot t.1) ≡ q t) where
  first-place : (k : ℕ) (slots : List Named) → index_from p k (shown_slots slots) ≡ first_at q k slots
  first-place k [] = refl
  first-place k (t ∷ slots) = rw (same t) (go (q t) (first-place (suc k) slots))
    where
      go : (b : Bool) → index_from p (suc k) (shown_slots slots) ≡ first_at q (suc k) slots
          → cond b (Some k) (index_from p (suc k) (shown_slots slots))
          ≡ cond (nat_lt (cond {A = ℕ} (not b) (1 + position_or_len q slots) 0) (suc (length slots)))
          (Some (k + cond {A = ℕ} (not b) (1 + position_or_len q slots) 0)) None
      go true rest =
          let none : k ≡ k + 0 = omega arith in
          let low : nat_lt 0 (suc (length slots)) ≡ true = grind (arith, nat_tests) in
          rw low (ap Some none)
      go false rest =
          let x : ℕ = position_or_len q slots in
          let more : suc k + x ≡ k + (1 + x) = omega arith in
          let low : nat_lt x (length slots) ≡ nat_lt (1 + x) (suc (length slots)) = later x (length slots) in
          rest ∙ (λ j. cond (low j) (Some (more j)) None)

  pub found-place : (slots : List Named) → index_from p 0 (shown_slots slots) ≡ position q slots
  found-place slots =
      let x : ℕ = position_or_len q slots in
      let none : 0 + x ≡ x = omega arith in
      first-place 0 slots ∙ ap (λ (k : ℕ). cond (nat_lt x (length slots)) (Some k) None) none

pub named-place : (name : List ℕ) (slots : List Named) → index_from (is_named name) 0 (shown_slots slots) ≡ position (λ (t : Named). bytes_eq name t.0) slots
named-place name slots = found-place (is_named name) (λ (t : Named). bytes_eq name t.0) (λ t. nat_list_eq_equiv.symm t.0 name) slots
