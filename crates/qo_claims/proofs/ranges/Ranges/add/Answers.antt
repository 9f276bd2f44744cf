-- the ranges still lie apart
use Rattle.std.proofs.Common.{◌≡◌, ◌∙◌, sym}
use Rattle.qo_values.specs.Placing.{window_start}
use Rattle.qo_claims.specs.Lists.{with_range}
use Rattle.qo_claims.proofs.DisjointRanges.{apart-with, with_range-insert, in-window}
use Rattle.qo_claims.proofs.ranges.Ranges.add.Goals as goal

added : (c : goal.In_ok-insert) → c.insert.new.self.items ≡ with_range c.args.range c.self.inside.list.items
added c =
    c.in_ok-insert.ensures.items
    ∙ (rw (c.index_after-index.ensures.index, c.deref.ensures.value) (sym (with_range-insert c.args.range c.self.inside.list.items)))

pub invariant_of-self-2 : goal.invariant_of-self-2
invariant_of-self-2 c =
    let window = in-window c.args.range c.requires.inside in
    rw (added c) (apart-with c.args.range window_start c.self.inside.list.items c.requires.some window.0 window.1 (rw (← c.self.view_is) at c.requires.free)
    c.self.invariant)

pub returns-clause-added : goal.returns-clause-added
returns-clause-added c = rw (← c.self.view_is) (added c)
