-- The commands on objects leave all but objects, births, pins, notes and events.
use Rattle.std.proofs.Common.{◌≡◌, refl, ◌∙◌, ℕ, Bool, true, false, ◌==◌, List, [], ◌∷◌, length, Option, Some, None}
use Rattle.qo_model.proofs.Common.{OBJECTS_BIRTH, Code, TypeId, Val, Board, Slot, slot_at, slots_at, point, set, Change, added, deleted, wrote, severed, after_changes, after_write, changed, Given, added_as, attempted_as, barred_by, object_add, object_del, sever, severed_from, with_attempt, pointed_at, relinked, write, refs, after, drop_slot, finalize, let_go, pin, unpin, Leaves, TypeInfo, type_named, Stays, StaysLaw}
use Rattle.qo_model.specs.Board.{referent}
use Rattle.qo_model.proofs.ComesToLemmas.{addition-comes, deletion-comes, sever-comes, severed-comes}
use Rattle.qo_model.proofs.WrittenLemmas.{write-comes}
use Rattle.qo_model.proofs.ReleaseScopeLemmas.{let_go-leaves, release_leaves, unpin-leaves}

pub stays-none : (b : Board) → Stays b b
stays-none b = record { anonymous = refl; now = refl; running = refl; holds = refl; pending = refl; notices = refl; rings = refl }

pub stays-then : (b c d : Board) → Stays b c → Stays c d → Stays b d
stays-then b c d h k =
    record {
      anonymous = k.anonymous ∙ h.anonymous;
      now = k.now ∙ h.now;
      running = k.running ∙ h.running;
      holds = k.holds ∙ h.holds;
      pending = k.pending ∙ h.pending;
      notices = k.notices ∙ h.notices;
      rings = k.rings ∙ h.rings;
    }

left-stays : (b c : Board) → Leaves b c → Stays b c
left-stays b c h =
    record { anonymous = h.anonymous; now = h.now; running = h.running; holds = h.holds; pending = h.pending; notices = h.notices; rings = h.rings }

after-stays : (b : Board) (o : Option ℕ) → Stays b (after finalize b o)
after-stays b None = stays-none b
after-stays b (Some m) = go (refs b m == 0) refl
  where
    go : (t : Bool) → (refs b m == 0) ≡ t → Stays b (after finalize b (Some m))
    go true p = rw (after, p) (left-stays b (finalize b m) (release_leaves b m))
    go false p = rw (after, p) (stays-none b)

-- `object-add`
attempt-stays : (b : Board) (t : TypeId) → Stays b (with_attempt b t)
attempt-stays b t = record { anonymous = refl; now = refl; running = refl; holds = refl; pending = refl; notices = refl; rings = refl }

pub attempted_as-stays : (b : Board) (driver id : List ℕ) → Stays b (attempted_as b driver id)
attempted_as-stays b driver id = go (barred_by b driver id) refl (type_named driver) refl
  where
    go : (code : Option Code) → barred_by b driver id ≡ code → (row : Option TypeInfo) → type_named driver ≡ row → Stays b (attempted_as b driver id)
    go (Some code) p row q = rw (attempted_as, p) (stays-none b)
    go None p None q = rw (attempted_as, p, q) (stays-none b)
    go None p (Some row) q = rw (attempted_as, p, q) (attempt-stays b row.id)

added_as-stays : (b : Board) (t : TypeId) (id : List ℕ) (props : List Given) (refusal : Option Code) → Stays b (added_as b t id props refusal).board
added_as-stays b t id props None = record { anonymous = refl; now = refl; running = refl; holds = refl; pending = refl; notices = refl; rings = refl }
added_as-stays b t id props (Some code) = attempt-stays b t

object_add-stays : (b : Board) (driver id : List ℕ) (props : List Given) → Stays b (object_add b driver id props).board
object_add-stays b driver id props =
    addition-comes (Stays b) b driver id props (stays-none b) (λ row e refusal is. added_as-stays b row.id id props refusal)

-- `object-del`
object_del-stays : (b : Board) (id : List ℕ) → Stays b (object_del b id).board
object_del-stays b id =
    deletion-comes (Stays b) b id (stays-none b) (λ i e. left-stays b (let_go b OBJECTS_BIRTH i) (let_go-leaves b OBJECTS_BIRTH i))

-- `qom-set`
pub set-stays : (b : Board) (n i : ℕ) (v : Val) → Stays b (set n i v b)
unfolding set
set-stays b n i v = record { anonymous = refl; now = refl; running = refl; holds = refl; pending = refl; notices = refl; rings = refl }

pointed-stays : (b : Board) (n i : ℕ) (target : Option ℕ) → Stays b (pointed_at target n i (drop_slot b n i))
unfolding point drop_slot
pointed-stays b n i None = record { anonymous = refl; now = refl; running = refl; holds = refl; pending = refl; notices = refl; rings = refl }
pointed-stays b n i (Some m) = record { anonymous = refl; now = refl; running = refl; holds = refl; pending = refl; notices = refl; rings = refl }

relinked-stays : (b : Board) (n i : ℕ) (target : Option ℕ) → Stays b (relinked b n i target)
relinked-stays b n i target = go (slot_at b n i) refl
  where
    go : (s : Option Slot) → slot_at b n i ≡ s → Stays b (relinked b n i target)
    go None p = rw (relinked, p) (stays-none b)
    go (Some s) p =
        let c : Board = pointed_at target n i (drop_slot b n i) in
        rw (relinked, p) (stays-then b c (after finalize c (referent s)) (pointed-stays b n i target) (after-stays c (referent s)))

write-stays : (b : Board) (n : ℕ) (name : List ℕ) (v : Val) → Stays b (after_write b (write b n name v))
write-stays b n name v = write-comes (Stays b) b (stays-none b) n name v (λ i t p kind e may. record {
  value = λ old at type first is fits. set-stays b n i v;
  link = λ u s left link leaves at to holds is path target told. relinked-stays b n i target;
})

-- `x-sever`
severed-stays : (places i n : ℕ) (b : Board) → Stays b (severed_from places i n b)
severed-stays places i n b =
    severed-comes (Stays b) n (λ c j t target e k. stays-then b c (let_go c n j) k (left-stays c (let_go c n j) (let_go-leaves c n j))) places i b
    (stays-none b)

pin-stays : (b : Board) (n : ℕ) → Stays b (pin b n)
unfolding pin
pin-stays b n = record { anonymous = refl; now = refl; running = refl; holds = refl; pending = refl; notices = refl; rings = refl }

unpin-stays : (b : Board) (n : ℕ) → Stays b (unpin b n)
unpin-stays b n =
    let h : Leaves (record b { pins = (unpin b n).pins }) (unpin b n) = unpin-leaves b n in
    record { anonymous = h.anonymous; now = h.now; running = h.running; holds = h.holds; pending = h.pending; notices = h.notices; rings = h.rings }

sever-stays : (b : Board) (n : ℕ) → Stays b (sever b n).board
sever-stays b n = sever-comes (Stays b) b n (stays-none b) (λ there away.
    all (pin b n) (severed_from (length (slots_at b n)) 0 n (pin b n)) (pin-stays b n) (severed-stays (length (slots_at b n)) 0 n (pin b n)))
  where
    all : (c d : Board) → Stays b c → Stays c d → Stays b (unpin d n)
    all c d h k = stays-then b d (unpin d n) (stays-then b c d h k) (unpin-stays d n)

pub changed-stays : (b : Board) (change : Change) → Stays b (changed b change)
changed-stays b (added driver id props) = object_add-stays b driver id props
changed-stays b (deleted id) = object_del-stays b id
changed-stays b (wrote n name v) = write-stays b n name v
changed-stays b (severed n) = sever-stays b n

after_changes-stays : (b : Board) (changes : List Change) → Stays b (after_changes b changes)
after_changes-stays b [] = stays-none b
after_changes-stays b (change ∷ changes) =
    stays-then b (changed b change) (after_changes (changed b change) changes) (changed-stays b change) (after_changes-stays (changed b change) changes)

pub stays_lem : StaysLaw
stays_lem = record { change = changed-stays; attempt = attempt-stays; run = after_changes-stays }
