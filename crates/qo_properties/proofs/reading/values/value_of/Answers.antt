-- What is found by name is read: an alias as what it passes on to, any other slot as its own.
use Rattle.std.proofs.Common.{◌≡◌, ℕ, List, IfOk, Some, None, ap, sym, subst, ◌∙◌, option_map, Option}
use Rattle.qo_values.specs.declared.properties.Val.{Val}
use Rattle.std.specs.Option.{option_and_then}
use Rattle.qo_model.specs.Board as board
use Rattle.qo_model.specs.Properties.{own_value, slot_value, value_of}
use Rattle.qo_properties.specs.Reads.{is_derived}
use Rattle.qo_properties.proofs.ReadLemmas.{derived-alias, derived-own, named-is, read-alias, read-own}
use Rattle.qo_properties.proofs.reading.values.value_of.Goals as goal

pub returns-in_default : goal.returns-in_default
returns-in_default g c = λ b s fit.
    ap (option_and_then (slot_value b c.args.o.birth c.args.name.now))
    (sym (named-is b c.args.heap.now s c.args.o.birth c.args.name.now None c.in_default.ensures.slot))

pub returns-in-Alias : goal.returns-in-Alias
returns-in-Alias g c = λ b s fit.
    let passed : option_map (own_value b c.in-Alias.target.birth c.as_str.result.now) (board.slot_named b c.in-Alias.target.birth c.as_str.result.now)
    ≡ value_of b c.args.o.birth c.args.name.now =
    ap (λ (of : List ℕ). option_map (own_value b c.in-Alias.target.birth of) (board.slot_named b c.in-Alias.target.birth of)) c.as_str.ensures.value
    ∙ read-alias b c.args.heap.now s c.args.o.birth c.args.name.now (c.in-Some.slot.name.now, c.in-Some.slot.what.now) c.in-Some.ensures.slot c.in-Alias.target
    c.in-Alias.of c.in-Alias.is in
    let derived =
    derived-alias b c.args.heap.now s c.args.o.birth c.args.name.now (c.in-Some.slot.name.now, c.in-Some.slot.what.now)
    c.in-Some.ensures.slot c.in-Alias.target c.in-Alias.of c.in-Alias.is in
    let same = ap (is_derived b c.in-Alias.target.birth) c.as_str.ensures.value in
    subst (λ (x : Option Val). IfOk c.passed_on.result (λ val. val ≡ x)) passed (c.passed_on.ensures b s (λ e. fit (derived ∙ sym same ∙ e)))

pub returns : goal.returns
returns g c = λ b s fit.
    let derived =
    derived-own b c.args.heap.now s c.args.o.birth c.args.name.now (c.in-Some.slot.name.now, c.in-Some.slot.what.now)
    c.in-Some.ensures.slot (λ key of e. c.in_default-what.not-Alias key of e) in
    ap Some (c.in_ok-own_value.ensures b s (λ e. fit (derived ∙ e)))
    ∙ sym (read-own b c.args.o.birth c.args.name.now c.in-Some.slot.what.now (λ key of e. c.in_default-what.not-Alias key of e))
    ∙ ap (option_and_then (slot_value b c.args.o.birth c.args.name.now))
    (sym (named-is b c.args.heap.now s c.args.o.birth c.args.name.now (Some (c.in-Some.slot.name.now, c.in-Some.slot.what.now)) c.in-Some.ensures.slot))
