use Rattle.std.proofs.Common.{◌≡◌, ◌∙◌, ap, sym, eqb, None, rules}
use Rattle.std.specs.Option.{option_and_then}
use Rattle.qo_values.proofs.ListLemmas.{position-find, position-none}
use Rattle.qo_heap.specs.declared.weak_links.Node.{Node}
use Rattle.qo_heap.proofs.weak_links.WeakLinks.next_of.Goals as goal

pub returns-in_err-place : goal.returns-in_err-place
returns-in_err-place c =
    let none : c.from_residual.result ≡ None = search rules in
    none ∙ sym (ap (option_and_then (λ (x : Node). x.next)) (position-none (λ (x : Node). eqb x.id c.args.id) c.args.self.now.nodes (sym c.in_err-place.ensures)))

pub returns-in_err-node : goal.returns-in_err-node
returns-in_err-node c =
    let none : c.from_residual-in_err-node.result ≡ None = search rules in
    none ∙ ap (option_and_then (λ (x : Node). x.next))
    (c.in_err-node.ensures ∙ position-find (λ (x : Node). eqb x.id c.args.id) c.args.self.now.nodes c.in_ok-place.place (sym c.in_ok-place.ensures))

pub returns : goal.returns
returns c =
    ap (option_and_then (λ (x : Node). x.next))
    (c.in_ok-node.ensures ∙ position-find (λ (x : Node). eqb x.id c.args.id) c.args.self.now.nodes c.in_ok-place.place (sym c.in_ok-place.ensures))
