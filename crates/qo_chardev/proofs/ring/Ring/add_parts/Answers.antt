-- Each part is added, and all of them in the end.
use Rattle.std.proofs.Common.{arith}
use Rattle.qo_chardev.proofs.RingLemmas.{all_added, none_added, part_added}
use Rattle.qo_chardev.proofs.ring.Ring.add_parts.Goals as goal

pub loop-rest-init : goal.loop-rest-init
loop-rest-init c = none_added c.args.text.now c.args.self.now c.requires c.reveal_invariant.ensures

pub loop-rest-preserved : goal.loop-rest-preserved
loop-rest-preserved c =
    part_added c.args.text.now c.loop-rest.rest.now c.in-Some.bytes.now c.in-Some.after.now c.args.self.now c.loop-rest.self c.add.new.self
    c.loop-rest.invariant c.in-Some.ensures.part c.add.ensures

pub returns : goal.returns
returns c =
    all_added c.args.text.now c.loop-rest.rest.now c.args.self.now c.loop-rest.self (λ i. let fits = c.type_inv.text i in omega arith)
    c.loop-rest-test.ensures c.loop-rest.invariant
