use Rattle.std.proofs.Common.{◌≡◌, ◌∙◌, ◌<◌, ◌≤◌, length, Some, slice_set, ap, sym, arith}
use Rattle.std.specs.Option.{option_and_then}
use Rattle.qo_object.specs.Slots.{changed_at, child_of, slot_in, target_of, unlinked}
use Rattle.qo_object.proofs.ObjectLemmas.{names-changed}
use Rattle.qo_object.proofs.SlotLemmas.{changed-past, changed-there, slot-past, slot-there}
use Rattle.qo_object.proofs.slot_map.SlotMap.unlink.Goals as goal

module _ (c : goal.Then-at-len) where
  past : length c.self.inside.slots.items ≤ c.args.at
  past = omega (arith, c.if-at-len.true, c.len.ensures)

pub returns-then-at-len-clause-now : goal.returns-then-at-len-clause-now
returns-then-at-len-clause-now c = rw (← c.self.view_is) (changed-past unlinked c.self.inside.slots.items c.args.at (past c))

pub returns-then-at-len-clause-answer : goal.returns-then-at-len-clause-answer
returns-then-at-len-clause-answer c =
    rw (← c.self.view_is) (sym (ap (option_and_then target_of) (slot-past c.self.inside.slots.items c.args.at (past c))))

pub unlink-requires : goal.unlink-requires
unlink-requires c =
    let slots = c.self.inside.slots.items in
    let low : c.args.at < length slots = omega (arith, c.if-at-len.false, c.len.ensures) in
    let there = slot-there slots c.args.at c.index_mut.result.now low c.index_mut.ensures.value in
    sym (ap (option_and_then child_of) there) ∙ (rw (← c.self.view_is) at c.requires)

module _ (c : goal.After-self-1) where
  within : c.args.at < length c.self.inside.slots.items
  within = omega (arith, c.if-at-len.false, c.len.ensures)

  there : slice_set c.self.inside.slots.items c.args.at (c.index_mut.result.now.0, c.unlink.new.self)
      ≡ changed_at unlinked c.args.at c.self.inside.slots.items
  there =
      let was = c.index_mut.result.now in
      changed-there unlinked c.self.inside.slots.items c.args.at was c.unlink.new.self within c.index_mut.ensures.value c.unlink.ensures.now

pub invariant_of-self : goal.invariant_of-self
invariant_of-self c = rw (there c, names-changed unlinked c.args.at c.self.inside.slots.items) c.self.invariant

pub returns-clause-now : goal.returns-clause-now
returns-clause-now c = rw (← c.self.view_is) (there c)

pub returns-clause-answer : goal.returns-clause-answer
returns-clause-answer c =
    let stands : slot_in c.self.inside.slots.items c.args.at ≡ Some c.index_mut.result.now.1 =
    slot-there c.self.inside.slots.items c.args.at c.index_mut.result.now (within c) c.index_mut.ensures.value in
    rw (← c.self.view_is) (c.unlink.ensures.answer ∙ sym (ap (option_and_then target_of) stands))
