-- The object that was made holds nothing, and ends.
use Rattle.std.proofs.Common.{refl}
use Rattle.qo_kinds.proofs.BodyLemmas.{fresh-bare}
use Rattle.qo_object.specs.Content.{fresh}
use Rattle.qo_properties.proofs.AddLemmas.{newest-alone, newest-bare, newest-ends, newest-live, newest-pinned}
use Rattle.qo_properties.proofs.adding.failed_add.failed_add.Goals as goal

pub give_up-requires-clause-live : goal.give_up-requires-clause-live
give_up-requires-clause-live g c =
    newest-live c.args.heap.now c.create.new.heap c.in_ok-o.o (fresh c.args.kind) c.reveal_invariant.ensures c.in_ok-o.ensures.made.0 c.in_ok-o.ensures.made.1

pub give_up-requires-clause-pinned : goal.give_up-requires-clause-pinned
give_up-requires-clause-pinned g c =
    newest-pinned c.args.heap.now c.create.new.heap c.in_ok-o.o (fresh c.args.kind) c.reveal_invariant.ensures c.in_ok-o.ensures.made.0 c.in_ok-o.ensures.made.1
    refl

pub give_up-requires-clause-alone : goal.give_up-requires-clause-alone
give_up-requires-clause-alone g c =
    newest-alone c.args.heap.now c.create.new.heap c.in_ok-o.o (fresh c.args.kind) c.reveal_invariant.ensures c.in_ok-o.ensures.made.0 c.in_ok-o.ensures.made.1
    refl refl

pub give_up-requires-clause-bare : goal.give_up-requires-clause-bare
give_up-requires-clause-bare g c =
    newest-bare c.args.heap.now c.create.new.heap c.in_ok-o.o (fresh c.args.kind) c.reveal_invariant.ensures c.in_ok-o.ensures.made.0 c.in_ok-o.ensures.made.1
    refl

pub returns-clause-ok : goal.returns-clause-ok
returns-clause-ok g c =
    newest-ends c.args.heap.now c.create.new.heap c.in_ok-o.o (fresh c.args.kind) c.reveal_invariant.ensures c.in_ok-o.ensures.made.0 c.in_ok-o.ensures.made.1
    (fresh-bare c.args.kind) refl refl c.give_up.new.heap c.give_up.ensures
