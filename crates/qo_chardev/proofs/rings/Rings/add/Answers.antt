use Rattle.std.proofs.Common.{◌≡◌, false, is_ok}
use Rattle.std.specs.List.{list_any}
use Rattle.qo_chardev.specs.Rings.{is_ring}
use Rattle.qo_chardev.proofs.RingsLemmas.{differ-pushed}
use Rattle.qo_chardev.proofs.rings.Rings.add.Goals as goal

pub invariant_of-self : goal.invariant_of-self
invariant_of-self c =
    let free : list_any (is_ring c.args.id) c.self.inside.list.items ≡ false = rw c.self.view_is c.requires.has in
    rw (c.push.ensures.items, c.new-2.ensures)
    (differ-pushed c.args.id c.in_ok-ring.ring.size c.self.inside.list.items (is_ok c.push.result) c.self.invariant free)
