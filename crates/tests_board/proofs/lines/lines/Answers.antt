-- The board of a machine is sound.
use Rattle.std.proofs.Common.{sym, subst}
use Rattle.qo_heap.specs.Objects.{Objects}
use Rattle.qo_layout.proofs.TimeLemmas.{timely_lem}
use Rattle.qo_layout.specs.Registers.{AreTimely}
use Rattle.tests_board.proofs.lines.lines.Goals as goal

pub make-requires : goal.make-requires
make-requires g c =
    let (b, s, good) = c.reveal_board.ensures.stands in
    subst (λ (v : Objects). AreTimely v) (sym c.heap.ensures) (timely_lem b c.args.board.now.objects s.shows good.run.times)
