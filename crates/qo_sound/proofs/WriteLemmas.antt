-- `object-del` and `qom-set` keep a board at rest, taken or refused.
use Rattle.std.proofs.Common.{◌≡◌, refl, ap, ◌∙◌, ℕ, List, Option, Some, None, option_map}
use Rattle.qo_model.proofs.Common.{OBJECTS_BIRTH, TypeId, Val, Board, Slot, kind_of, slot_at, point, set, after_write, object_del, pointed_at, relinked, write, drop_slot}
use Rattle.qo_model.specs.Board.{referent}
use Rattle.qo_model.proofs.ComesToLemmas.{deletion-comes}
use Rattle.qo_model.proofs.ReleaseScopeLemmas.{let_go-leaves}
use Rattle.qo_model.proofs.PinLemmas.{release-pins}
use Rattle.qo_sound.proofs.FirmBoardLemmas.{FitsKind}
use Rattle.qo_sound.proofs.ViewLemmas.{PinsRootAlone}
use Rattle.qo_model.proofs.WrittenLemmas.{IsLink}
use Rattle.qo_sound.proofs.TargetLemmas.{target-fit}
use Rattle.qo_sound.proofs.ChangeLemmas.{near-deleted, near-relinked, near-set}
use Rattle.qo_model.proofs.WrittenLemmas.{write-comes}

-- `object-del`
pub object_del-rest : (b : Board) (id : List ℕ) → PinsRootAlone b → PinsRootAlone (object_del b id).board
object_del-rest b id h =
    deletion-comes PinsRootAlone b id h (λ i e. record { used = near-deleted b i h.used; pinned = (let_go-leaves b OBJECTS_BIRTH i).pins ∙ h.pinned })

-- `qom-set`
pointed-pins : (b : Board) (n i : ℕ) (target : Option ℕ) → (pointed_at target n i (drop_slot b n i)).pins ≡ b.pins
unfolding point drop_slot
pointed-pins b n i None = refl
pointed-pins b n i (Some m) = refl

set-pins : (b : Board) (n i : ℕ) (v : Val) → (set n i v b).pins ≡ b.pins
unfolding set
set-pins b n i v = refl

relinked-rest : (b : Board) (n i : ℕ) (t : TypeId) (s : Slot) → IsLink t s → slot_at b n i ≡ Some s → (target : Option ℕ) → FitsKind (kind_of b) t target
    → PinsRootAlone b → PinsRootAlone (relinked b n i target)
relinked-rest b n i t s link e target fits h = record {
  used = near-relinked b n i t s link e target fits h.used;
  pinned = rw (relinked, e) (release-pins (pointed_at target n i (drop_slot b n i)) (referent s)) ∙ pointed-pins b n i target ∙ h.pinned;
}

pub write-rest : (b : Board) (n : ℕ) (name : List ℕ) (v : Val) → PinsRootAlone b → PinsRootAlone (after_write b (write b n name v))
write-rest b n name v h = write-comes PinsRootAlone b h n name v (λ i t p kind e may. record {
  value = λ old at type first is fits.
      record { used = near-set b n i v old (ap (option_map (λ (x : List ℕ × Slot). x.1)) at) h.used; pinned = set-pins b n i v ∙ h.pinned };
  link = λ u s left link leaves at to holds is path target told.
      relinked-rest b n i u s link (ap (option_map (λ (x : List ℕ × Slot). x.1)) at) target (target-fit b u path target told) h;
})
