-- What is planned for the slot of a property, by its place.
use Rattle.std.proofs.Common.{◌≡◌, refl, sym, subst, ℕ, zero, suc, ◌<◌, ◌≤◌, true, false, List, [], ◌∷◌, length, slice_get, Option, Some, None, is_some, option_map, Bor, arith}
use Rattle.std.specs.List.{AllZip}
use Rattle.std.specs.Slice.{IsItemAt}
use Rattle.std.proofs.lemmas.Bool.Decides.{nat_tests}
use Rattle.std.proofs.lemmas.Option.{same_Some, slice_get_past, slice_get_read}
use Rattle.qo_values.specs.declared.kinds.TypeId.{TypeId}
use Rattle.qo_model.specs.Board.{Board}
use Rattle.qo_model.specs.Objects.{Given}
use Rattle.qo_model.specs.Properties.{property_named}
use Rattle.qo_model.specs.RowNames.{property_name}
use Rattle.qo_object.specs.declared.slots.Slot.{Slot}
use Rattle.qo_properties.specs.declared.adding.filling.InitialValue.{InitialValue}
use Rattle.qo_properties.specs.declared.adding.planning.PlacedRow.{PlacedRow}
use Rattle.qo_properties.specs.Filling.{IsGiven}
use Rattle.qo_properties.specs.NewSlots.{begun, new_slots, slot_begun}
use Rattle.qo_properties.specs.Plans.{IsPlan, TellsGiven, own_slot_for}
use Rattle.qo_properties.specs.Planning.{StandsAt}

pub zip-at : {X Y : Type 0} (R : X → Y → Type 0) (xs : List X) (ys : List Y) (i : ℕ) (y : Y) → AllZip R xs ys → slice_get ys i ≡ Some y
    → (x : X) × (slice_get xs i ≡ Some x) × R x y
zip-at R xs [] i y all at = absurd (let clash : None ≡ Some y = at in cc)
zip-at R [] (z ∷ ys) i y all at = absurd all
zip-at R (x ∷ xs) (z ∷ ys) zero y all at = (x, refl, subst (R x) (same_Some z y at) all.0)
zip-at R (x ∷ xs) (z ∷ ys) (suc i) y all at = zip-at R xs ys i y all.1 at

pub got : {X : Type 0} (xs : List X) (i : ℕ) (r : Option (Bor X)) → IsItemAt xs i r → option_map (λ (x : Bor X). x.now) r ≡ slice_get xs i
got xs i None at = let over : length xs ≤ i = grind (arith, nat_tests, at.0) in sym (slice_get_past xs i over)
got xs i (Some x) at = let below : i < length xs = grind (arith, nat_tests, at.0) in sym (slice_get_read xs (length xs) i x.now refl below at.1)

module _ (b : Board) (props : List Given) (t : TypeId) (name : List ℕ) (plan : List InitialValue) (has : IsPlan b t props plan) where
  pub absent-told : (p : PlacedRow) → property_named t name ≡ Some p.row → is_some (begun t p.row.role) ≡ false → TellsGiven b props None (own_slot_for t name)
  absent-told p row absent = rw row (go (begun t p.row.role) absent)
    where
      go : (o : Option Slot) → is_some o ≡ false → TellsGiven b props None (option_map (λ (s : Slot). (property_name p.row.name, s)) o)
      go None e = refl
      go (Some s) e = absurd (let clash : true ≡ false = e in cc)

  pub place-told : (p : PlacedRow) → property_named t name ≡ Some p.row → StandsAt t p → is_some (begun t p.row.role) ≡ true → (o : Option InitialValue)
      → o ≡ slice_get plan p.place → TellsGiven b props o (own_slot_for t name)
  place-told p row stands own o is = rw row (go (begun t p.row.role) refl)
    where
      go : (s : Option Slot) → begun t p.row.role ≡ s → TellsGiven b props o (slot_begun t p.row)
      go None e = absurd (let clash : false ≡ true = rw e at own in cc)
      go (Some s) e =
          let (f, here, given) = zip-at (IsGiven b props) plan (new_slots t) p.place (property_name p.row.name, s) has (rw e at stands) in
          rw (e, is, here) given
