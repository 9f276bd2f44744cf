-- Each option is a property, or is passed over.
use Rattle.std.proofs.Common.{◌≡◌, refl, ◌∙◌, ap, sym, ◌+◌, ◌∷◌, ◌++◌, List, drop, false, arith, rules}
use Rattle.std.proofs.lemmas.List.{drop_more}
use Rattle.qo_values.proofs.NameOrder.{above_those_before, rises_without}
use Rattle.qo_values.specs.PropertyLists.{names_of, NamesRise}
use Rattle.qo_text.specs.Joined.{keys_of}
use Rattle.qo_text.specs.Options.{is_property, properties}
use Rattle.qo_text.proofs.OptionLemmas.{Pair, passed-over}
use Rattle.qo_text.proofs.options.properties.Goals as goal

pub loop-option-init : goal.loop-option-init
loop-option-init c = rw c.new-props.ensures (record { read = refl; rise = c.requires })

pub put-requires : goal.put-requires
put-requires c =
    let all = c.args.found.now in
    let i = c.loop-option.option-index in
    let p : Pair = c.option-item.result in
    let here : drop i all ≡ p ∷ drop (i + 1) all = drop_more all i p (omega arith) ∙ ap (λ (q : Pair). q ∷ drop (i + 1) all) (sym c.option-item.is) in
    let done = names_of c.loop-option.props in
    let name : c.from_string-name.result ≡ p.0 = search rules in
    let rise : NamesRise (done ++ p.0 ∷ keys_of (drop (i + 1) all)) = rw here at c.loop-option.invariant.rise in
    rw name (above_those_before done (keys_of (drop (i + 1) all)) p.0 rise)

pub loop-option-preserved-then-not-is_property : goal.loop-option-preserved-then-not-is_property
loop-option-preserved-then-not-is_property c =
    let all = c.args.found.now in
    let i = c.loop-option.option-index in
    let p : Pair = c.option-item.result in
    let left = drop (i + 1) all in
    let here : drop i all ≡ p ∷ left = drop_more all i p (omega arith) ∙ ap (λ (q : Pair). q ∷ left) (sym c.option-item.is) in
    let done = c.loop-option.props in
    let other : is_property p ≡ false = search rules in
    let rise : NamesRise (names_of done ++ p.0 ∷ keys_of left) = rw here at c.loop-option.invariant.rise in
    record {
      read = c.loop-option.invariant.read ∙ ap (λ (l : List Pair). done ++ properties l) here ∙ ap (λ more. done ++ more) (passed-over p left other);
      rise = rises_without (names_of done) (keys_of left) p.0 rise;
    }
