use Rattle.std.proofs.Common.{refl, ap, sym, ◌∙◌, eqb, List, None, position}
use Rattle.qo_heap.specs.WeakLinks.{Links, with_both}
use Rattle.qo_heap.specs.declared.weak_links.Node.{Node}
use Rattle.qo_heap.proofs.WeakNodes.{changed-found, changed-none}
use Rattle.qo_heap.proofs.weak_links.WeakLinks.set_front.Goals as goal

pub returns-in-Some : goal.returns-in-Some
returns-in-Some c =
    rw (← c.self.view_is) (ap (λ (ns : List Node). record { first = c.self.inside.first; nodes = ns })
    (changed-found c.args.id (with_both None c.args.next) c.self.inside.nodes.items c.in-Some.place c.index.result.now
    (with_both None c.args.next c.index.result.now)
    (ap (λ (l : Links). position (λ (n : Node). eqb n.id c.args.id) l.nodes) c.self.view_is ∙ sym c.place_of.ensures ∙ c.in-Some.is) c.index.ensures refl))

pub returns-in_default : goal.returns-in_default
returns-in_default c =
    ap (λ (ns : List Node). record c.args.self.now { nodes = ns })
    (changed-none c.args.id (with_both None c.args.next) c.args.self.now.nodes (sym c.place_of.ensures ∙ c.in_default.is))
