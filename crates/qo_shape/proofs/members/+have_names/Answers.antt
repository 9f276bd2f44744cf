-- Where no member is left there is no name left.
use Rattle.std.proofs.Common.{ℕ, ◌==◌, ◌∙◌, ap, map, sym}
use Rattle.std.proofs.lemmas.List.{length-map}
use Rattle.qo_shape.proofs.ReadLemmas.{none-left}
use Rattle.qo_shape.proofs.members.+have_names.Goals as goal

pub returns-in_default : goal.returns-in_default
returns-in_default t c =
    none-left (map (λ n. n.now) c.args.names.now) c.args.members.now c.is_empty.result c.in_default.ensures.cases
    (c.is_empty.ensures ∙ ap (λ (k : ℕ). k == 0) (sym (length-map c.args.names.now (λ n. n.now))))
