-- For proofs alone. The work of a release as it stands in the objects of a heap: each object that waits has the place from which its slots are still to be let
-- go, and the one whose release goes on after its end.
use Rattle.std.specs.Prelude.{◌≡◌, ℕ, ◌+◌, ◌*◌, ◌<◌, ◌==◌, if◌then◌else◌, List, Option, Some, option_map, sum_by, count_by}
use Rattle.std.specs.Option.{option_and_then}
use Rattle.qo_model.specs.Board.{Board, Record, Slot}
use Rattle.qo_model.specs.ReleaseBound.{names_weakly, objects_and_slots, weak_in, weak_links}
use Rattle.qo_slots.specs.declared.keys.Key.{Key}
use Rattle.qo_object.specs.declared.room.Work.{Work}
use Rattle.qo_object.specs.Content.{Content, with_work}
use Rattle.qo_heap.specs.Objects.{Objects, content_of, refs_of, with_edit}
use Rattle.qo_life.specs.declared.release.Front.{Front}

-- the place of an object in the work
abbrev pub work_of : Objects → ℕ → Option Work
work_of v n = option_map (λ (c : Content). c.work) (content_of v n)

-- the front of the work, where it goes on with an object
abbrev pub front_at : Objects → Option Key → Option Front
front_at v next = option_and_then (λ (o : Key). option_map (λ (w : Work). record { o = o; at = w.at; next = w.next }) (work_of v o.birth)) next

-- the work goes on, where a slot of the front was let go that held an object or none: with the front's next slot, where nothing is free, and else with the
-- object that is free, after which the front waits at its next slot
pub data GoesOn (was : Option Key) (front : Front) (next : ℕ) (v w : Objects) (now : Front) : Type 0 where
  kept : ((m : Key) → was ≡ Some m → 0 < refs_of v m.birth) → w ≡ v → now ≡ record { o = front.o; at = next; next = front.next } → GoesOn was front next v w now
  freed : (m : Key) → was ≡ Some m → refs_of v m.birth ≡ 0 → w ≡ with_edit front.o.birth (with_work (record { next = front.next; at = next })) v
      → now ≡ record { o = m; at = 0; next = Some front.o } → GoesOn was front next v w now

-- what the steps of a release are paid by: eight for each object and for each slot of a board, and four for each weak link that is not empty
abbrev pub worth : Board → ℕ
worth b = 8 * objects_and_slots b + 4 * weak_links b

-- the weak links of a board that are not empty and that name n or are its own
abbrev pub weak_ends : Board → ℕ → ℕ
weak_ends b n = sum_by (λ (r : Record). if r.birth == n then weak_in r else count_by (λ (s : List ℕ × Slot). names_weakly n s.1) r.slots) b.records
