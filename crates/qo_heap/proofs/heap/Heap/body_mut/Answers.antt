use Rattle.std.proofs.Common.{ap, sym, refl, option_map, Some, ◌∙◌}
use Rattle.qo_kinds.specs.declared.bodies.Body.{Body}
use Rattle.qo_object.specs.Content.{Content}
use Rattle.qo_heap.proofs.InsideObjects.{EditedInside, quiet-inside, with_content, with_written}
use Rattle.qo_heap.proofs.heap.Heap.body_mut.Goals as goal
use Rattle.qo_heap.proofs.heap.Heap.body_mut.Goals.{After-entry_mut}

abbrev at : Body → Content → Content
at w x = record x { body = w }

edited : (g : _) (c : After-entry_mut g) (w : Body)
    → EditedInside c.self.inside c.args.o (at w) (with_written c.self.inside c.args.o (with_content c.entry_mut.result.now (at w c.entry_mut.result.now.object)))
edited g c w =
    quiet-inside c.self.inside c.self.invariant c.args.o (rw (← c.self.view_is) at c.requires.live) (at w) c.entry_mut.result.now
    (at w c.entry_mut.result.now.object) c.entry_mut.ensures.kept refl (λ x. refl) (λ x. refl)

pub invariant_of-self-lent : goal.invariant_of-self-lent
invariant_of-self-lent g c w = (edited g (goal.at.invariant_of-self-lent g c).After-entry_mut w).good

pub returns : goal.returns
returns g c =
    rw (← c.self.view_is) (
      (refl, λ w. (edited g (goal.at.returns g c).After-entry_mut w).now),
      record {
        writes_back = tt;
        body = ap (option_map (λ (x : Content). x.body)) c.entry_mut.ensures.object ∙ ap Some (sym c.body_mut.ensures.body);
        cost = c.entry_mut.ensures.cost;
      },
    )
