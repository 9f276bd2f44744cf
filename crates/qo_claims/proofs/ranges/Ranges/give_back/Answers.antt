-- without one of them the ranges still lie apart
use Rattle.std.proofs.Common.{◌≡◌, ◌∙◌, sym}
use Rattle.qo_values.specs.Placing.{window_start}
use Rattle.qo_claims.specs.Lists.{range_eq, without_range}
use Rattle.qo_claims.proofs.DisjointRanges.{apart-without, remove_key-found, remove_key-none}
use Rattle.qo_claims.proofs.ranges.Ranges.give_back.Goals as goal

removed : (c : goal.After-remove) → c.remove.new.self.items ≡ without_range c.args.range c.self.inside.list.items
removed c =
    c.remove.ensures.items
    ∙ sym (remove_key-found (range_eq c.args.range) c.self.inside.list.items c.in-Some.index (rw (← c.deref.ensures.value) (sym c.in-Some.ensures)))

pub invariant_of-self : goal.invariant_of-self
invariant_of-self c = rw (removed c) (apart-without (range_eq c.args.range) window_start c.self.inside.list.items c.self.invariant)

pub returns-in-Some : goal.returns-in-Some
returns-in-Some c = rw (← c.self.view_is) (removed c)

pub returns-in_default : goal.returns-in_default
returns-in_default c =
    rw (← c.self.view_is) (sym (remove_key-none (range_eq c.args.range) c.self.inside.list.items (rw (← c.deref.ensures.value) (sym c.in_default.ensures))))
