use Rattle.std.proofs.Common.{◌≡◌, ◌<◌, ◌≤◌, length, slice_set, arith}
use Rattle.qo_object.specs.Slots.{changed_at, forgotten_in}
use Rattle.qo_object.proofs.ObjectLemmas.{names-changed}
use Rattle.qo_object.proofs.SlotLemmas.{changed-past, changed-there}
use Rattle.qo_object.proofs.slot_map.SlotMap.forget.Goals as goal

module _ (c : goal.After-self-1) where
  there : slice_set c.self.inside.slots.items c.args.at (c.index_mut.result.now.0, c.forget.new.self)
      ≡ changed_at (forgotten_in c.args.birth) c.args.at c.self.inside.slots.items
  there =
      let slots = c.self.inside.slots.items in
      let low : c.args.at < length slots = omega (arith, c.if-at-len.true, c.len.ensures) in
      changed-there (forgotten_in c.args.birth) slots c.args.at c.index_mut.result.now c.forget.new.self low c.index_mut.ensures.value c.forget.ensures

pub invariant_of-self : goal.invariant_of-self
invariant_of-self c = rw (there c, names-changed (forgotten_in c.args.birth) c.args.at c.self.inside.slots.items) c.self.invariant

pub returns-then-at-len : goal.returns-then-at-len
returns-then-at-len c = rw (← c.self.view_is) (there c)

pub returns-else-at-len : goal.returns-else-at-len
returns-else-at-len c =
    let past : length c.self.inside.slots.items ≤ c.args.at = omega (arith, c.if-at-len.false, c.len.ensures) in
    rw (← c.self.view_is) (changed-past (forgotten_in c.args.birth) c.self.inside.slots.items c.args.at past)
