use Rattle.std.proofs.Common.{◌∙◌, sym}
use Rattle.qo_reset.proofs.BoardLemmas.{shows-count}
use Rattle.qo_reset.proofs.CountLemmas.{kept-is}
use Rattle.qo_reset.proofs.LiveLemmas.{live-there}
use Rattle.qo_reset.proofs.resets.Resets.count.Goals as goal

pub returns-clause-count : goal.returns-clause-count
returns-clause-count g c = λ b s.
    c.kept_count.ensures.count
    ∙ kept-is c.args.heap.now c.args.self.now.births c.requires.counts c.args.o.birth (live-there c.args.heap.now c.args.o c.requires.live)
    ∙ sym (shows-count b c.args.heap.now s.0 c.args.self.now.births s.1 c.args.o.birth)
