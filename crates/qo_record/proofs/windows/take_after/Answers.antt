-- What the source gave stands after the front.
use Rattle.std.proofs.Common.{refl, rules, arith}
use Rattle.std.proofs.lemmas.Grind.{common_steps}
use Rattle.std.proofs.lemmas.Slice.{take-put_mid}
use Rattle.qo_record.proofs.WindowLemmas.{took_after}
use Rattle.qo_record.proofs.windows.take_after.Goals as goal

pub returns-clause-bytes : goal.returns-clause-bytes
returns-clause-bytes g c =
    took_after _ _ c.take.result c.args.buffer.now _ c.take.new.buf c.args.end c.requires (grind (arith, common_steps, c.take.auto.buf)) (search rules)
    (take-put_mid c.args.end _ c.args.buffer.now c.take.new.buf _ refl c.requires) c.take.ensures.bound c.take.ensures.bytes
