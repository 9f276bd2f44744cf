-- The calls of the board are the steps of rebuilding.
use Rattle.std.proofs.Common.{◌≡◌, refl, ap, ◌∙◌, subst, ℕ, [], ◌∷◌, ◌++◌, codes, drop, Option, Some, None, Result, Ok, Err}
use Rattle.qo_values.specs.declared.codes.Code.{Code}
use Rattle.qo_model.specs.Board.{Board}
use Rattle.qo_model.specs.Objects.{Changed, object_add}
use Rattle.qo_model.specs.Plug.{Plugged, plug}
use Rattle.qo_properties.specs.declared.refusals.Refusal.{Refusal}
use Rattle.qo_properties.specs.declared.refusals.Refusal.TheVariants.{Memory, Refused}
use Rattle.qo_realize.specs.Answers.{Adds, Changes, Writes}
use Rattle.qo_realize.specs.Chardevs.{by_code, chardev_added}
use Rattle.qo_realize.specs.Guest.{polled}
use Rattle.qo_realize.specs.Parts.{Parts}
use Rattle.qo_realize.specs.Representation.{Stands}
use Rattle.qo_save.specs.Description.{DeviceItem, ObjectItem, RingItem}
use Rattle.qo_save.specs.Rebuilding.{add_device, add_object, add_ring, by_changed, by_plugged, ring_barred, wanted_by}

abbrev Answer : Type 0
Answer = Result (Unit {0}) Refusal

-- a change that is done, or refused by its code
changed-done : (change : Changed) → change.refusal ≡ None → by_changed change ≡ Ok change.board
changed-done change none = ap (λ (o : Option Code). elim o as (λ _. Result Board Code) [ Some code ↦ Err code | None ↦ Ok change.board ]) none

changed-refused : (change : Changed) (code : Code) → change.refusal ≡ Some code → by_changed change ≡ Err code
changed-refused change code is = ap (λ (o : Option Code). elim o as (λ _. Result Board Code) [ Some why ↦ Err why | None ↦ Ok change.board ]) is

-- a ring
ring-change : (b : Board) (r : RingItem) → by_changed (chardev_added b r.id (codes "ringbuf") (Some r.size)) ≡ add_ring r b
ring-change b r = go (ring_barred b r)
  where
    go : (o : Option Code) → by_changed (by_code b (record b { rings = b.rings ++ record { id = r.id; size = r.size; bytes = [] } ∷ [] }) o)
        ≡ elim o as (λ _. Result Board Code) [
          | Some code ↦ Err code
          | None ↦ Ok (record b { rings = b.rings ++ record { id = r.id; size = r.size; bytes = [] } ∷ [] })
        ]
    go None = refl
    go (Some code) = refl

changes-writes : (change : Changed) (b : Board) (p : Parts) (r : Answer) → Changes change b r p → Writes p r (by_changed change)
changes-writes change b p (Ok done) came = (change.board, changed-done change came.0, came.1)
changes-writes change b p (Err (Refused code)) came = changed-refused change code (ap (λ (c : Changed). c.refusal) came.0)
changes-writes change b p (Err Memory) came = tt

pub ring-writes : (b : Board) (r : RingItem) (p : Parts) (answer : Answer) → Changes (chardev_added b r.id (codes "ringbuf") (Some r.size)) b answer p
    → Writes p answer (add_ring r b)
ring-writes b r p answer came =
    subst (λ (x : Result Board Code). Writes p answer x) (ring-change b r)
    (changes-writes (chardev_added b r.id (codes "ringbuf") (Some r.size)) b p answer came)

-- an object
pub object-writes : (b : Board) (o : ObjectItem) (p : Parts) (answer : Answer) → Adds b o.kind o.id o.props answer p → Writes p answer (add_object o b)
object-writes b o p (Ok done) came =
    ((object_add b o.kind o.id o.props).board, changed-done (object_add b o.kind o.id o.props) came.0, came.1)
object-writes b o p (Err (Refused code)) came = changed-refused (object_add b o.kind o.id o.props) code came.0
object-writes b o p (Err Memory) came = tt

-- a device, whose notice is taken
plugged-done : (add : Plugged) → add.refusal ≡ None → by_plugged add ≡ Ok (polled add.board)
plugged-done add none =
    ap (λ (o : Option (ℕ × Code)).
    elim o as (λ _. Result Board Code) [ Some refusal ↦ Err refusal.1 | None ↦ Ok (record add.board { notices = drop 1 add.board.notices }) ]) none

pub device-done : (b : Board) (d : DeviceItem) (p : Parts) → (plug b (wanted_by d)).refusal ≡ None → Stands (polled (plug b (wanted_by d)).board) p
    → Writes p (Ok tt) (add_device d b)
device-done b d p none stands = (polled (plug b (wanted_by d)).board, plugged-done (plug b (wanted_by d)) none, stands)

pub device-refused : (b : Board) (d : DeviceItem) (stage : ℕ) (code : Code) → (plug b (wanted_by d)).refusal ≡ Some (stage, code) → add_device d b ≡ Err code
device-refused b d stage code is =
    ap (λ (o : Option (ℕ × Code)). elim o as (λ _. Result Board Code) [
      | Some refusal ↦ Err refusal.1
      | None ↦ Ok (record (plug b (wanted_by d)).board { notices = drop 1 (plug b (wanted_by d)).board.notices })
    ]) is
