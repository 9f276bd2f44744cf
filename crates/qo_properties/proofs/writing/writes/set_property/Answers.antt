-- A write that is no clock's leaves what is kept.
use Rattle.std.proofs.Common.{◌≡◌, ◌∙◌, ap, sym, true, false, is_some, not}
use Rattle.qo_properties.proofs.ClockLemmas.{same-clocks}
use Rattle.qo_properties.proofs.KeptLemmas.{claims-before, counts-before}
use Rattle.qo_properties.proofs.writing.writes.set_property.Goals as goal

pub returns-then-is_none-clause-claims : goal.returns-then-is_none-clause-claims
returns-then-is_none-clause-claims g c = claims-before c.args.heap.now c.write.new.heap c.write.ensures.kept

pub returns-then-is_none-clause-counts : goal.returns-then-is_none-clause-counts
returns-then-is_none-clause-counts g c = counts-before c.args.heap.now c.write.new.heap c.write.ensures.kept

pub returns-then-is_none-clause-kept : goal.returns-then-is_none-clause-kept
returns-then-is_none-clause-kept g c = λ b s no. c.write.ensures.kept

pub returns-then-is_none-clause-clocks : goal.returns-then-is_none-clause-clocks
returns-then-is_none-clause-clocks g c = λ b s is.
    absurd (let clash : true ≡ false = sym is ∙ sym (ap is_some (c.set_row.ensures b s)) ∙ c.is_none.ensures ∙ ap not c.if-is_none.true in cc)

pub returns-in_err-clock-clause-clocks : goal.returns-in_err-clock-clause-clocks
returns-in_err-clock-clause-clocks g c = λ b s is. same-clocks c.args.heap.now
