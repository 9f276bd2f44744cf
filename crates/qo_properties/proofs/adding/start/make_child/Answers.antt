use Rattle.qo_properties.proofs.OpeningLemmas.{live-child, pinned-child, is-child, shows-child}
use Rattle.qo_properties.proofs.adding.start.make_child.Goals as goal

pub unpin-requires-clause-live : goal.unpin-requires-clause-live
unpin-requires-clause-live g c =
    rw c.in_ok-add_child.ensures.added (live-child c.args.heap.now c.make_new.new.heap c.reveal_invariant.ensures c.args.parent c.in_ok-child.child c.args.kind
    c.own.result c.requires.live c.in_ok-child.ensures.made)

pub unpin-requires-clause-pinned : goal.unpin-requires-clause-pinned
unpin-requires-clause-pinned g c =
    rw c.in_ok-add_child.ensures.added
    (pinned-child c.args.heap.now c.make_new.new.heap c.reveal_invariant.ensures c.args.parent c.in_ok-child.child c.args.kind
    c.own.result c.requires.live c.in_ok-child.ensures.made)

pub returns-clause-made : goal.returns-clause-made
returns-clause-made g c =
    rw (c.unpin.ensures.now, c.in_ok-add_child.ensures.added) (is-child c.args.heap.now c.make_new.new.heap c.reveal_invariant.ensures c.args.parent
    c.in_ok-child.child c.args.kind c.own.result c.requires.live c.in_ok-child.ensures.made)

pub returns-clause-shown : goal.returns-clause-shown
returns-clause-shown g c =
    λ b s. rw (c.unpin.ensures.now, c.in_ok-add_child.ensures.added, ← c.in_ok-name.ensures, ← c.own.ensures) (shows-child c.args.heap.now
    c.make_new.new.heap c.reveal_invariant.ensures c.args.parent c.in_ok-child.child c.args.kind c.own.result c.requires.live c.in_ok-child.ensures.made b s
    (c.in_ok-child.ensures.shown b s) (rw c.in_ok-add_child.ensures.added at c.reveal_invariant-2.ensures))
