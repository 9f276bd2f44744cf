use Rattle.std.proofs.Common.{◌≡◌, rules}
use Rattle.std.proofs.lemmas.Fn.{filter_same}
use Rattle.qo_chardev.specs.Rings.{without_ring}
use Rattle.qo_chardev.proofs.RingsLemmas.{differ-without}
use Rattle.qo_chardev.proofs.rings.Rings.remove.Goals as goal

pub invariant_of-self : goal.invariant_of-self
invariant_of-self c =
    let kept : c.retain.new.self.items ≡ without_ring c.args.id.now c.self.inside.list.items =
    filter_same _ _ _ (λ x b f' k. search rules) _ _ c.retain.ensures.filtered in
    rw kept (differ-without c.args.id.now c.self.inside.list.items c.self.invariant)

pub returns : goal.returns
returns c =
    let kept : c.retain.new.self.items ≡ without_ring c.args.id.now c.self.inside.list.items =
    filter_same _ _ _ (λ x b f' k. search rules) _ _ c.retain.ensures.filtered in
    rw (← c.self.view_is) kept
