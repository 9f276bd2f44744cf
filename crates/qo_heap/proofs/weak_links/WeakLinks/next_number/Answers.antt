use Rattle.std.proofs.Common.{◌≡◌, ap, sym, ◌∙◌, ◌<◌, ◌+◌, ◌-◌, ◌^◌, length, slice_get, IfSome, SomeIff, Option, Some, None, List, ℕ, arith}
use Rattle.std.specs.List.{AllByRecursion}
use Rattle.std.specs.Option.{option_copied}
use Rattle.qo_heap.specs.WeakLinks.{Links}
use Rattle.qo_heap.specs.declared.weak_links.Node.{Node}
use Rattle.qo_heap.proofs.WeakNodes.{last-above}
use Rattle.qo_heap.proofs.weak_links.WeakLinks.next_number.Goals as goal

pub returns-in-Some : goal.returns-in-Some
returns-in-Some c = go c.checked_add.result c.checked_add.ensures
  where
    nodes : List Node
    nodes = c.args.self.now.nodes

    same : c.deref.result.now ≡ c.args.self.now.nodes
    same = c.deref.ensures.value ∙ ap (λ (l : Links). l.nodes) c.self.view_is

    last : slice_get c.args.self.now.nodes (length c.args.self.now.nodes - 1) ≡ Some c.in-Some.node.now
    last =
        ap (λ (ns : List Node). slice_get ns (length ns - 1)) (sym same)
        ∙ sym c.last.ensures.value ∙ ap (λ (o : Option _). option_copied o) c.in-Some.is

    go : (o : Option ℕ) → SomeIff o (c.in-Some.node.now.id + 1 < 2 ^ 64) (c.in-Some.node.now.id + 1)
        → IfSome o (λ id. AllByRecursion (λ (x : Node). x.id < id) c.args.self.now.nodes)
    go None none = tt
    go (Some id) both = last-above c.args.self.now.nodes c.in-Some.node.now id c.requires last (omega (arith, both.1))
