-- What is found by name is read, and nothing of an object that is not there.
use Rattle.std.proofs.Common.{ℕ, Some, None, ap, sym, ◌∙◌, option_map}
use Rattle.qo_model.specs.Board as board
use Rattle.qo_model.specs.Properties.{own_value}
use Rattle.qo_properties.specs.Reads.{is_derived}
use Rattle.qo_properties.proofs.ReadLemmas.{named-gone, named-is}
use Rattle.qo_properties.proofs.reading.values.passed_on.Goals as goal

pub returns-in_default : goal.returns-in_default
returns-in_default g c = λ b s fit.
    ap (option_map (own_value b c.args.birth c.args.of.now)) (sym (named-gone b c.args.heap.now s c.args.birth c.args.of.now c.in_default.ensures.none))

pub returns-in_default-slot : goal.returns-in_default-slot
returns-in_default-slot g c = λ b s fit.
    ap (option_map (own_value b c.args.birth c.args.of.now)) (sym (ap (λ n. board.slot_named b n c.args.of.now) (sym c.in-Some.ensures.born)
    ∙ named-is b c.args.heap.now s c.in-Some.o.birth c.args.of.now None c.in_default-slot.ensures.slot))

pub returns : goal.returns
returns g c = λ b s fit.
    let same = ap (λ (n : ℕ). is_derived b n c.args.of.now) (sym c.in-Some.ensures.born) in
    ap Some (c.in_ok-own_value.ensures b s (λ e. fit (same ∙ e)))
    ∙ ap (option_map (own_value b c.in-Some.o.birth c.args.of.now))
    (sym (named-is b c.args.heap.now s c.in-Some.o.birth c.args.of.now (Some (c.in-Some-slot.slot.name.now, c.in-Some-slot.slot.what.now))
    c.in-Some-slot.ensures.slot))
    ∙ ap (λ (n : ℕ). option_map (own_value b n c.args.of.now) (board.slot_named b n c.args.of.now)) c.in-Some.ensures.born
