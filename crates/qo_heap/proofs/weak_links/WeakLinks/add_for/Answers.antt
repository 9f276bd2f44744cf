use Rattle.std.proofs.Common.{◌≡◌, ◌+◌, List, [], ◌∷◌, ◌++◌, ap, sym, subst, true, length, option_to_list, is_some, Option, None, Some, rules, arith}
use Rattle.qo_slots.specs.declared.keys.Key.{Key}
use Rattle.qo_heap.specs.WeakLinks.{Links, NumbersRise, new_node, weak_name}
use Rattle.qo_heap.specs.declared.weak_links.Node.{Node}
use Rattle.qo_heap.proofs.WeakNodes.{rise-added}
use Rattle.qo_heap.proofs.weak_links.WeakLinks.add_for.Goals as goal

one-more : (ns : List Node) (x : Node) → length (ns ++ x ∷ []) ≡ length ns + 1
one-more [] x = omega arith
one-more (n ∷ ns) x = omega (arith, one-more ns x)

some-one : (o : Option (Option Key)) → is_some o ≡ true → length (option_to_list o) ≡ 1
some-one None is = cc
some-one (Some t) is = omega arith

pub returns-in-Some-clause-more : goal.returns-in-Some-clause-more
returns-in-Some-clause-more c =
    let weak : is_some (weak_name c.args.slot.now) ≡ true = search rules in
    omega (
      arith,
      ap (λ (l : Links). length l.nodes) c.in-Some.ensures.added,
      one-more c.args.self.now.nodes (new_node c.in-Some._id),
      some-one (weak_name c.args.slot.now) weak,
    )

pub returns-in-Some-clause-rise : goal.returns-in-Some-clause-rise
returns-in-Some-clause-rise c =
    subst (λ (l : Links). NumbersRise l.nodes) (sym c.in-Some.ensures.added)
    (rise-added c.args.self.now.nodes c.in-Some._id c.requires c.in-Some.ensures.above)
