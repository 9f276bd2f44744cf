-- An object with these names, or none.
use Rattle.std.proofs.Common.{◌≡◌, ◌∙◌, ℕ, true, false, map, sym, rules}
use Rattle.std.proofs.lemmas.List.{length-map}
use Rattle.qo_json.specs.View.{view}
use Rattle.qo_shape.proofs.ReadLemmas.{many-same, values-else, values-found, values-none}
use Rattle.qo_shape.proofs.members.members_in.Goals as goal

pub returns-in_default-clause-values : goal.returns-in_default-clause-values
returns-in_default-clause-values c = values-none (map (λ n. n.now) c.args.names.now) (view c.args.value.now) c.in_default.ensures

pub returns-then-not-have_names-clause-values : goal.returns-then-not-have_names-clause-values
returns-then-not-have_names-clause-values c =
    let other : c.have_names.result ≡ false = search rules in
    values-else (map (λ n. n.now) c.args.names.now) (view c.args.value.now) c.in-Some.members.now c.in-Some.ensures (sym c.have_names.ensures ∙ other)

pub returns-clause-values : goal.returns-clause-values
returns-clause-values c =
    let same : c.have_names.result ≡ true = search rules in
    values-found (map (λ n. n.now) c.args.names.now) (view c.args.value.now) c.in-Some.members.now c.in-Some.ensures (sym c.have_names.ensures ∙ same)

pub returns-clause-many : goal.returns-clause-many
returns-clause-many c =
    let same : c.have_names.result ≡ true = search rules in
    many-same (map (λ n. n.now) c.args.names.now) c.in-Some.members.now (sym c.have_names.ensures ∙ same) ∙ length-map c.args.names.now (λ n. n.now)
