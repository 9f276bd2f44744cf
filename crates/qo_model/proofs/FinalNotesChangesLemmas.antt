-- The commands on objects keep the notes of a board in order.
use Rattle.std.proofs.Common.{◌≡◌, refl, ℕ, true, false, List, Option, Some, None, length}
use Rattle.qo_model.proofs.Common.{OBJECTS_BIRTH, Code, TypeId, Val, Board, Slot, slot_at, slots_at, point, set, with_changed, with_val, pointed, NotesInOrder, Change, added, deleted, wrote, severed, after_write, changed, Given, added_as, object_add, object_del, sever, severed_from, pointed_at, relinked, write, drop_slot, pin, put_in_order, with_dropped}
use Rattle.qo_model.specs.Board.{referent}
use Rattle.qo_model.proofs.ComesToLemmas.{addition-comes, deletion-comes, sever-comes, severed-comes}
use Rattle.qo_model.proofs.WrittenLemmas.{write-comes}
use Rattle.qo_model.proofs.FinalNotesLemmas.{after-keeps, edit-keeps, let_go-keeps, pins-keep, unpin-keeps}
use Rattle.qo_model.proofs.FinalNotesGrowthLemmas.{attempt-grows, grown-keeps, object-grows}

-- `object-add`
added_as-keeps : (b : Board) (t : TypeId) (id : List ℕ) (props : List Given) (refusal : Option Code) → NotesInOrder b
    → NotesInOrder (added_as b t id props refusal).board
added_as-keeps b t id props None o = grown-keeps b _ t false (object-grows b t id props o) o
added_as-keeps b t id props (Some code) o = grown-keeps b _ t true (attempt-grows b t o) o

pub object_add-keeps : (b : Board) (driver id : List ℕ) (props : List Given) → NotesInOrder b → NotesInOrder (object_add b driver id props).board
object_add-keeps b driver id props o = addition-comes NotesInOrder b driver id props o (λ row e refusal is. added_as-keeps b row.id id props refusal o)

-- `object-del`
pub object_del-keeps : (b : Board) (id : List ℕ) → NotesInOrder b → NotesInOrder (object_del b id).board
object_del-keeps b id o = deletion-comes NotesInOrder b id o (λ i e. let_go-keeps b OBJECTS_BIRTH i o)

-- `qom-set`
drop-keeps : (b : Board) (n i : ℕ) → NotesInOrder b → NotesInOrder (drop_slot b n i)
unfolding drop_slot
drop-keeps b n i o = edit-keeps n (with_dropped i) (λ r. refl) (λ r. refl) b o

pointed-keeps : (b : Board) (n i : ℕ) (target : Option ℕ) → NotesInOrder b → NotesInOrder (pointed_at target n i b)
unfolding point
pointed-keeps b n i None o = o
pointed-keeps b n i (Some m) o = edit-keeps n (with_changed (pointed m) i) (λ r. refl) (λ r. refl) b o

set-keeps : (b : Board) (n i : ℕ) (v : Val) → NotesInOrder b → NotesInOrder (set n i v b)
unfolding set
set-keeps b n i v o = edit-keeps n (with_changed (with_val v) i) (λ r. refl) (λ r. refl) b o

pub relinked-keeps : (b : Board) (n i : ℕ) (target : Option ℕ) → NotesInOrder b → NotesInOrder (relinked b n i target)
relinked-keeps b n i target o = go (slot_at b n i) refl
  where
    go : (s : Option Slot) → slot_at b n i ≡ s → NotesInOrder (relinked b n i target)
    go None p = rw (relinked, p) o
    go (Some s) p =
        rw (relinked, p) (after-keeps (pointed_at target n i (drop_slot b n i)) (referent s) (pointed-keeps (drop_slot b n i) n i target (drop-keeps b n i o)))

pub write-keeps : (b : Board) (n : ℕ) (name : List ℕ) (v : Val) → NotesInOrder b → NotesInOrder (after_write b (write b n name v))
write-keeps b n name v o = write-comes NotesInOrder b o n name v (λ i t p kind e may. record {
  value = λ old at type first is fits. set-keeps b n i v o;
  link = λ u s left link leaves at to holds is path target told. relinked-keeps b n i target o;
})

-- `x-sever`
severed_from-keeps : (places i n : ℕ) (b : Board) → NotesInOrder b → NotesInOrder (severed_from places i n b)
severed_from-keeps places i n b o = severed-comes NotesInOrder n (λ c j t target e k. let_go-keeps c n j k) places i b o

pin-keeps : (b : Board) (n : ℕ) → NotesInOrder b → NotesInOrder (pin b n)
unfolding pin
pin-keeps b n o = pins-keep b (put_in_order n b.pins) o

pub sever-keeps : (b : Board) (n : ℕ) → NotesInOrder b → NotesInOrder (sever b n).board
sever-keeps b n o =
    sever-comes NotesInOrder b n o (λ there away.
    unpin-keeps (severed_from (length (slots_at b n)) 0 n (pin b n)) n (severed_from-keeps (length (slots_at b n)) 0 n (pin b n) (pin-keeps b n o)))

-- each change
pub changed-keeps : (b : Board) (change : Change) → NotesInOrder b → NotesInOrder (changed b change)
changed-keeps b (added driver id props) o = object_add-keeps b driver id props o
changed-keeps b (deleted id) o = object_del-keeps b id o
changed-keeps b (wrote n name v) o = write-keeps b n name v o
changed-keeps b (severed n) o = sever-keeps b n o
