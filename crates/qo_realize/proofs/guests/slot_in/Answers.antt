-- The slots are looked at one after another.
use Rattle.std.proofs.Common.{◌≡◌, ℕ, Option, unwrap_or, true, false, ap, sym, ◌∙◌, arith}
use Rattle.qo_realize.specs.Guest.{is_in_slot}
use Rattle.qo_buses.proofs.KidLemmas.{least-here, least-next, least-past}
use Rattle.qo_realize.proofs.guests.slot_in.Goals as goal

pub returns-then-is_in_slot : goal.returns-then-is_in_slot
returns-then-is_in_slot g c = λ b s.
    let here : is_in_slot b c.args.bus.birth c.args.dev.birth c.loop-slot.slot ≡ true = sym (c.is_in_slot.ensures b s) ∙ c.if-is_in_slot.true in
    ap (λ (o : Option ℕ). unwrap_or o 0)
    (sym (least-here (is_in_slot b c.args.bus.birth c.args.dev.birth) c.loop-slot.slot 8 (omega arith) here) ∙ c.loop-slot.invariant b s)

pub loop-slot-preserved : goal.loop-slot-preserved
loop-slot-preserved g c = λ b s.
    let other : is_in_slot b c.args.bus.birth c.args.dev.birth c.loop-slot.slot ≡ false = sym (c.is_in_slot.ensures b s) ∙ c.if-is_in_slot.false in
    sym (least-next (is_in_slot b c.args.bus.birth c.args.dev.birth) c.loop-slot.slot 8 (omega arith) other) ∙ c.loop-slot.invariant b s

pub returns : goal.returns
returns g c = λ b s.
    ap (λ (o : Option ℕ). unwrap_or o 0)
    (sym (least-past (is_in_slot b c.args.bus.birth c.args.dev.birth) c.loop-slot.slot 8 (omega arith)) ∙ c.loop-slot.invariant b s)
