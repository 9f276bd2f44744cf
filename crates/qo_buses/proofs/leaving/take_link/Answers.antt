-- The link is let go, removed, and what it held ends where nothing refers to it.
use Rattle.std.proofs.lemmas.Option.{IfSome_then}
use Rattle.qo_heap.specs.Rows.{IsLive}
use Rattle.qo_object.specs.Content.{cut_at, dropped_at}
use Rattle.qo_heap.specs.Objects.{with_edit}
use Rattle.qo_heap.proofs.HeapLemmas.{live-edit}
use Rattle.qo_buses.proofs.LeavingLemmas.{goes-taken, link-emptied, link-held, link-live}
use Rattle.qo_buses.proofs.leaving.take_link.Goals as goal

pub cut-requires-clause-live : goal.cut-requires-clause-live
cut-requires-clause-live g c = rw c.empty-held.ensures.now (live-edit c.args.o.birth (dropped_at c.args.at) c.args.heap.now.rows c.args.o c.requires.live)

pub cut-requires-clause-link : goal.cut-requires-clause-link
cut-requires-clause-link g c = rw c.empty-held.ensures.now (link-emptied c.args.heap.now c.args.o c.args.at c.requires.live c.requires.link)

pub drop_hold-requires : goal.drop_hold-requires
drop_hold-requires g c =
    IfSome_then c.empty-held.result {P = IsLive c.args.heap.now.rows} {Q = IsLive c.cut.new.self.rows}
    (link-live c.args.heap.now c.reveal_invariant.ensures c.args.o c.requires.live c.args.at c.empty-held.result c.empty-held.ensures.answer)
    (λ key live. rw (c.cut.ensures.now, c.empty-held.ensures.now)
    (live-edit c.args.o.birth (cut_at c.args.at) (with_edit c.args.o.birth (dropped_at c.args.at) c.args.heap.now).rows key
    (live-edit c.args.o.birth (dropped_at c.args.at) c.args.heap.now.rows key live)))

pub returns : goal.returns
returns g c =
    goes-taken c.args.heap.now c.empty-held.new.self c.cut.new.self c.drop_hold.new.heap c.args.o.birth c.args.at c.empty-held.result c.requires.link
    (link-held c.args.heap.now c.args.o.birth c.args.at c.empty-held.result c.empty-held.ensures.answer c.requires.link)
    c.empty-held.ensures.now c.cut.ensures.now c.drop_hold.ensures.goes
