use Rattle.std.proofs.Common.{◌≡◌, ◌∙◌, ℕ, List, [], ◌∷◌, ◌++◌, ap, sym, remove, slice_index_or, Some, None, rules}
use Rattle.qo_model.specs.Release.{without_first}
use Rattle.qo_reset.specs.Phases.{births_of}
use Rattle.qo_reset.proofs.HoldLemmas.{last-hold, last-none, place-none, hold_index}
use Rattle.qo_reset.proofs.resets.Resets.put_last.Goals as goal

pub returns-in-Some-clause-holds : goal.returns-in-Some-clause-holds
returns-in-Some-clause-holds c =
    let eq : c.args.self.now.births ≡ births_of c.deref.result.now = search rules in
    let place : hold_index c.args.birth c.deref.result.now ≡ Some c.in-Some.at = sym c.in-Some.ensures in
    let items : c.push_reserved.new.self.items ≡ remove c.deref.result.now c.in-Some.at ++ c.remove-hold.result ∷ [] = search rules in
    let hold : c.remove-hold.result ≡ slice_index_or c.deref.result.now c.in-Some.at c.remove-hold.result = search rules in
    ap births_of items
    ∙ last-hold c.args.birth c.deref.result.now c.in-Some.at c.remove-hold.result place hold
    ∙ ap (λ (l : List ℕ). without_first c.args.birth (l ++ c.args.birth ∷ [])) (sym eq)

pub returns-in_default-clause-holds : goal.returns-in_default-clause-holds
returns-in_default-clause-holds c =
    let eq : c.args.self.now.births ≡ births_of c.deref.result.now = search rules in
    let none : hold_index c.args.birth c.deref.result.now ≡ None = sym c.hold_index.ensures ∙ c.in_default.is in
    eq
    ∙ sym (last-none c.args.birth (births_of c.deref.result.now) (place-none c.args.birth c.deref.result.now none))
    ∙ ap (λ (l : List ℕ). without_first c.args.birth (l ++ c.args.birth ∷ [])) (sym eq)
