-- The steps by which `qom-set` and `x-sever` change a board, each with what is known where it is taken: what these keep, the command keeps.
use Rattle.std.proofs.Common.{◌≡◌, refl, ap, ◌∙◌, ℕ, true, false, List, length, slice_get, Option, Some, None, Ok}
use Rattle.qo_model.proofs.Common.{option_map, admits, TypeId, PropType, Val, Board, Slot, plain, strong, kind_of, is_live, slot_at, slots_at, point, set, after_write, sever, severed_from, attached, link_target, may_set, pointed_at, property_named, relinked, write, drop_slot, emptied, pin}
use Rattle.qo_model.specs.declared.properties.First.{First}
use Rattle.qo_model.specs.declared.properties.Property.{Property}
use Rattle.qo_model.specs.Board.{referent}
use Rattle.qo_model.specs.declared.properties.PropertyRole.TheVariants as row
use Rattle.qo_model.proofs.ComesToLemmas.{sever-comes, severed-comes}
use Rattle.qo_model.proofs.WrittenLemmas.{IsLink, write-comes}
use Rattle.qo_sound.proofs.DetachmentStepsLemmas.{KeepsEnds}
use Rattle.qo_steps.proofs.ReleasesLemmas.{KeepsPin, KeepsUnpin, let_go-by, unpin-by}

-- the property of a name, of the type of n, which `qom-set` may write
pub record IsWritten (b : Board) (n : ℕ) (name : List ℕ) (p : Property) : Type 0 where
  pub type : TypeId
  pub kind : kind_of b n ≡ Some type
  pub row : property_named type name ≡ Some p
  pub may : may_set p.access ≡ true

-- `qom-set`: a value; or a link lets its target go, and points at the one that the text names, if it names one; and what follows
pub record WriteSteps (P : Board → Type 0) (b : Board) (n : ℕ) (name : List ℕ) (v : Val) : Type 0 where
  pub value : (i : ℕ) (p : Property) → IsWritten b n name p → (old : Val) → slice_get (slots_at b n) i ≡ Some (name, plain old) → (type : PropType)
      (first : First) → p.role ≡ row.Plain type first → admits type v ≡ true → P (set n i v b)
  pub drops : (i : ℕ) (p : Property) → IsWritten b n name p → (t : TypeId) (s : Slot) → IsLink t s → slice_get (slots_at b n) i ≡ Some (name, s)
      → P (drop_slot b n i)
  pub points : (i : ℕ) (p : Property) → IsWritten b n name p → (t : TypeId) (s left : Slot) → IsLink t s → emptied s ≡ Some left
      → slice_get (slots_at b n) i ≡ Some (name, s) → (path : List ℕ) (m : ℕ) → link_target b t path ≡ Ok (Some m) → P (drop_slot b n i)
      → P (point n i m (drop_slot b n i))
  pub ends : KeepsEnds P

pub write-by : (P : Board → Type 0) (b : Board) (n : ℕ) (name : List ℕ) (v : Val) → WriteSteps P b n name v → P b → P (after_write b (write b n name v))
write-by P b n name v k h =
    write-comes P b h n name v (λ i t p kind row may.
    let is : IsWritten b n name p = record { type = t; kind = kind; row = row; may = may } in
    record {
      value = λ old at type first role fits. k.value i p is old at type first role fits;
      link = λ u s left link leaves at to holds role path target told.
          let dropped : P (drop_slot b n i) = k.drops i p is u s link at in
          let there : slot_at b n i ≡ Some s = ap (option_map (λ (x : List ℕ × Slot). x.1)) at in
          let points : (o : Option ℕ) → target ≡ o → P (pointed_at o n i (drop_slot b n i)) =
          λ o. elim o as (λ o. target ≡ o → P (pointed_at o n i (drop_slot b n i))) [
            | None ↦ λ e. dropped
            | Some m ↦ λ e. k.points i p is u s left link leaves at path m (told ∙ ap Ok e) dropped
          ] in
          rw (relinked, there) (k.ends (referent s) (pointed_at target n i (drop_slot b n i)) (points target refl));
    })

-- `x-sever` of an object that is there and not attached: it is held meanwhile, and lets its strong links go
pub record SeverSteps (P : Board → Type 0) (b : Board) (n : ℕ) : Type 0 where
  pub pins : KeepsPin P
  pub unpins : KeepsUnpin P
  pub drops : is_live b n ≡ true → attached b n ≡ false → (i : ℕ) (t : TypeId) (target : Option ℕ) (c : Board) → slot_at c n i ≡ Some (strong t target) → P c
      → P (drop_slot c n i)
  pub ends : KeepsEnds P

pub sever-by : (P : Board → Type 0) (b : Board) (n : ℕ) → SeverSteps P b n → P b → P (sever b n).board
sever-by P b n k h =
    sever-comes P b n h (λ there away.
    unpin-by P k.unpins k.ends n (severed_from (length (slots_at b n)) 0 n (pin b n))
    (severed-comes P n (λ c i t target at e. let_go-by P k.ends n i c (λ s is. k.drops there away i t target c at e) e) (length (slots_at b n)) 0 (pin b n)
    (k.pins n b h)))
