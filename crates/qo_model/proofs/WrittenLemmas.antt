-- What is after `qom-set`: the board as it was, the slot of the name with another value, or a link of the name with another target.
use Rattle.std.proofs.Common.{◌≡◌, refl, ap, ◌∙◌, ℕ, ◌<◌, Bool, true, false, List, [], length, position, slice_get, Option, Some, None, Result, Ok, Err}
use Rattle.qo_model.proofs.Common.{get_or, option_map, bytes_eq, admits, Code, TypeId, PropType, Val, Board, Slot, plain, child, strong, weak, alias, kind_of, slot_at, slots_at, set, after_write, link_target, link_written, linked, may_set, relinked, property_named, write, written, written_by, emptied, child_of}
use Rattle.qo_model.specs.declared.properties.First.{First}
use Rattle.qo_model.specs.declared.properties.Property.{Property}
use Rattle.qo_model.specs.declared.properties.PropertyRole.{PropertyRole}
use Rattle.std.specs.Prelude.{option_and_then}
use Rattle.std.proofs.lemmas.List.Quantifiers.{position-Some}
use Rattle.std.proofs.lemmas.Option.{slice_get-get_or}
use Rattle.std.proofs.lemmas.Slice.Eq.{bytes_eq-Decides}
use Rattle.qo_values.specs.declared.properties.Val.TheVariants as val
use Rattle.qo_model.specs.declared.properties.PropertyRole.TheVariants as row

-- the slots that are links to objects of a type
pub data IsLink (t : TypeId) : Slot → Type 0 where
  holding : (target : Option ℕ) → IsLink t (strong t target)
  seeing : (target : Option ℕ) → IsLink t (weak t target)

pub link-childless : (t : TypeId) (s : Slot) → IsLink t s → child_of s ≡ None
link-childless t s (holding target) = refl
link-childless t s (seeing target) = refl

-- the slot at a place that is found
pub record SlotFound (name : List ℕ) (slots : List (List ℕ × Slot)) (i : ℕ) : Type 0 where
  pub entry : List ℕ × Slot
  pub at : slice_get slots i ≡ Some entry
  pub passes : bytes_eq entry.0 name ≡ true

pub position-slot : (name : List ℕ) (slots : List (List ℕ × Slot)) (i : ℕ) → position (λ (s : List ℕ × Slot). bytes_eq s.0 name) slots ≡ Some i
    → SlotFound name slots i
position-slot name slots i e =
    let d : List ℕ × Slot = ([], plain val.Nothing) in
    let h : (i < length slots) × (bytes_eq (get_or slots i d).0 name ≡ true) × ((k : ℕ) → k < i → bytes_eq (get_or slots k d).0 name ≡ false) =
    position-Some (λ (s : List ℕ × Slot). bytes_eq s.0 name) slots i d e in
    record { entry = get_or slots i d; at = slice_get-get_or slots i d h.0; passes = h.1 }

-- what is to be shown of a property with a row: of each slot of its name, where it takes the value, and where it is a link that takes a target
pub record Writes (P : Board → Type 0) (b : Board) (n i : ℕ) (name : List ℕ) (kind : PropertyRole) (v : Val) : Type 0 where
  pub value : (old : Val) → slice_get (slots_at b n) i ≡ Some (name, plain old) → (type : PropType) (first : First) → kind ≡ row.Plain type first
      → admits type v ≡ true → P (set n i v b)
  pub link : (t : TypeId) (s left : Slot) → IsLink t s → emptied s ≡ Some left → slice_get (slots_at b n) i ≡ Some (name, s) → (u : TypeId) (holds : Bool)
      → kind ≡ row.Link u holds → (path : List ℕ) (target : Option ℕ) → link_target b t path ≡ Ok target → P (relinked b n i target)

module _ (P : Board → Type 0) (b : Board) (none : P b) (n : ℕ) (name : List ℕ) (v : Val) where
  to-link : (i : ℕ) (t : TypeId) → ((path : List ℕ) (target : Option ℕ) → link_target b t path ≡ Ok target → P (relinked b n i target)) → (w : Val)
      → P (after_write b (link_written b n i t w))
  to-link i t keeps (val.Text path) = go (link_target b t path) refl
    where
      go : (target : Result (Option ℕ) Code) → link_target b t path ≡ target → P (after_write b (linked b n i target))
      go (Ok target) told = keeps path target told
      go (Err code) told = none
  to-link i t keeps (val.Bool w) = none
  to-link i t keeps (val.Int w) = none
  to-link i t keeps (val.Uint w) = none
  to-link i t keeps val.Nothing = none

  to-slot : (i : ℕ) (kind : PropertyRole) → Writes P b n i name kind v → (s : Slot) → slice_get (slots_at b n) i ≡ Some (name, s)
      → P (after_write b (written b n i kind (Some s) v))
  to-slot i (row.Plain type first) keeps (plain old) at = go (admits type v) refl
    where
      go : (t : Bool) → admits type v ≡ t → P (after_write b (written b n i (row.Plain type first) (Some (plain old)) v))
      go true p = rw (written, p) (keeps.value old at type first refl p)
      go false p = rw (written, p) none
  to-slot i (row.Link t holds) keeps (strong u target) at =
      to-link i u (keeps.link u (strong u target) (strong u None) (holding target) refl at t holds refl) v
  to-slot i (row.Link t holds) keeps (weak u target) at = to-link i u (keeps.link u (weak u target) (weak u None) (seeing target) refl at t holds refl) v
  to-slot i (row.Plain type first) keeps (child m) at = none
  to-slot i (row.Plain type first) keeps (strong t target) at = none
  to-slot i (row.Plain type first) keeps (weak t target) at = none
  to-slot i (row.Plain type first) keeps (alias m property) at = none
  to-slot i (row.Link t holds) keeps (plain old) at = none
  to-slot i (row.Link t holds) keeps (child m) at = none
  to-slot i (row.Link t holds) keeps (alias m property) at = none
  to-slot i (row.Child t) keeps s at = none
  to-slot i (row.Alias owner property) keeps s at = none

  pub write-comes : ((i : ℕ) (t : TypeId) (p : Property) → kind_of b n ≡ Some t → property_named t name ≡ Some p → may_set p.access ≡ true
      → Writes P b n i name p.role v) → P (after_write b (write b n name v))
  write-comes keeps = go (position (λ (s : List ℕ × Slot). bytes_eq s.0 name) (slots_at b n)) refl
    where
      by : (i : ℕ) → SlotFound name (slots_at b n) i → (t : TypeId) → kind_of b n ≡ Some t → (p : Property) → property_named t name ≡ Some p → (u : Bool)
          → may_set p.access ≡ u → P (after_write b (written_by b n i (Some p) v))
      by i f t kind p e false m = rw (written_by, m) none
      by i f t kind p e true m =
          let there : slot_at b n i ≡ Some f.entry.1 = ap (option_map (λ (x : List ℕ × Slot). x.1)) f.at in
          let at : slice_get (slots_at b n) i ≡ Some (name, f.entry.1) =
          f.at ∙ ap (λ (own : List ℕ). Some (own, f.entry.1)) ((bytes_eq-Decides f.entry.0 name).0 f.passes) in
          rw (written_by, m, there) (to-slot i p.role (keeps i t p kind e m) f.entry.1 at)

      by_row : (i : ℕ) → SlotFound name (slots_at b n) i → (t : TypeId) → kind_of b n ≡ Some t → (o : Option Property) → property_named t name ≡ o
          → P (after_write b (written_by b n i o v))
      by_row i f t kind None e = none
      by_row i f t kind (Some p) e = by i f t kind p e (may_set p.access) refl

      by_kind : (i : ℕ) → SlotFound name (slots_at b n) i → (o : Option TypeId) → kind_of b n ≡ o
          → P (after_write b (written_by b n i (option_and_then (λ t. property_named t name) o) v))
      by_kind i f None kind = none
      by_kind i f (Some t) kind = by_row i f t kind (property_named t name) refl

      go : (place : Option ℕ) → position (λ (s : List ℕ × Slot). bytes_eq s.0 name) (slots_at b n) ≡ place → P (after_write b (write b n name v))
      go None p = rw (write, p) none
      go (Some i) p = rw (write, p) (by_kind i (position-slot name (slots_at b n) i p) (kind_of b n) refl)
