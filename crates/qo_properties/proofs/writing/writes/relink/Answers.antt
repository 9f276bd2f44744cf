use Rattle.std.proofs.Common.{refl, subst, ◌∙◌}
use Rattle.std.proofs.lemmas.Option.{IfSome_then}
use Rattle.qo_heap.specs.Rows.{IsLive}
use Rattle.qo_object.specs.Content.{dropped_at}
use Rattle.qo_object.specs.BoardObject.{birth_of}
use Rattle.qo_model.specs.Board.{Board}
use Rattle.qo_model.specs.Properties.{pointed_at}
use Rattle.qo_model.specs.Release.{drop_slot}
use Rattle.qo_heap.specs.Board.{Shows}
use Rattle.qo_heap.proofs.HeapLemmas.{live-edit}
use Rattle.qo_heap.proofs.BoardEdits.{shows-drop_slot}
use Rattle.qo_properties.proofs.ClaimLemmas.{edit-keeps}
use Rattle.qo_properties.proofs.PinLemmas.{edited-pins, hold-pins}
use Rattle.qo_properties.proofs.WriteLemmas.{emptied-link, held-live_dropped, relinked-is}
use Rattle.qo_properties.proofs.KeptLemmas.{edit-kept, goes-kept}
use Rattle.qo_properties.proofs.writing.writes.relink.Goals as goal

pub point_at-requires-clause-live : goal.point_at-requires-clause-live
point_at-requires-clause-live g c = rw c.empty.ensures.now (live-edit c.args.o.birth (dropped_at c.args.at) c.args.heap.now.rows c.args.o c.requires.live)

pub point_at-requires-clause-target : goal.point_at-requires-clause-target
point_at-requires-clause-target g c =
    IfSome_then c.args.target {P = IsLive c.args.heap.now.rows} {Q = IsLive c.empty.new.self.rows} c.requires.target
    (λ key live. rw c.empty.ensures.now (live-edit c.args.o.birth (dropped_at c.args.at) c.args.heap.now.rows key live))

pub point_at-requires-clause-link : goal.point_at-requires-clause-link
point_at-requires-clause-link g c = rw c.empty.ensures.now (emptied-link c.args.heap.now c.args.o c.args.at c.requires.live c.requires.link)

pub drop_hold-requires : goal.drop_hold-requires
drop_hold-requires g c =
    IfSome_then c.held_at-held.result {P = IsLive c.empty.new.self.rows} {Q = IsLive c.point_at.new.heap.rows}
    (rw c.empty.ensures.now
    (held-live_dropped c.args.heap.now c.reveal_invariant.ensures c.args.o.birth c.args.at c.held_at-held.result c.held_at-held.ensures))
    c.point_at.ensures.names

pub returns-clause-shown : goal.returns-clause-shown
returns-clause-shown g c = λ b s.
    let dropped : Shows (drop_slot b c.args.o.birth c.args.at) c.empty.new.self =
    rw c.empty.ensures.now (shows-drop_slot b c.args.heap.now s c.args.o.birth c.args.at) in
    let there = c.point_at.ensures.shown (drop_slot b c.args.o.birth c.args.at) dropped in
    subst (λ (x : Board). Shows x c.drop_hold.new.heap)
    (relinked-is b c.args.heap.now s c.args.o.birth c.args.at (birth_of c.args.target) c.held_at-held.result c.requires.link c.held_at-held.ensures)
    (c.drop_hold.ensures.release (pointed_at (birth_of c.args.target) c.args.o.birth c.args.at (drop_slot b c.args.o.birth c.args.at)) there)

pub returns-clause-pins : goal.returns-clause-pins
returns-clause-pins g c =
    hold-pins (birth_of c.held_at-held.result) c.point_at.new.heap c.drop_hold.new.heap c.drop_hold.ensures.goes
    ∙ c.point_at.ensures.pins
    ∙ edited-pins c.args.heap.now c.empty.new.self c.args.o.birth (dropped_at c.args.at) (λ d. refl) c.empty.ensures.now

pub returns-clause-book : goal.returns-clause-book
returns-clause-book g c = λ out h.
    c.drop_hold.ensures.goes.book out
    (c.point_at.ensures.book out (edit-keeps c.args.heap.now c.empty.new.self c.args.o.birth (dropped_at c.args.at) (λ d. refl) c.empty.ensures.now out h))

pub returns-clause-kept : goal.returns-clause-kept
returns-clause-kept g c = λ n k e.
    edit-kept c.args.heap.now c.empty.new.self c.args.o.birth (dropped_at c.args.at) (λ d. refl) c.empty.ensures.now n k
    (c.point_at.ensures.kept n k (goes-kept c.point_at.new.heap c.drop_hold.new.heap c.drop_hold.ensures.goes n k e))
