-- Of an object that was made no hold is counted.
use Rattle.std.proofs.Common.{rules, ◌≡◌, refl, ap, sym, subst, ℕ, ◌+◌, List, [], ◌∷◌, ◌++◌}
use Rattle.std.specs.Prelude.{IfOk, OnErr, Result, Ok, Err}
use Rattle.qo_values.specs.declared.kinds.TypeId.{TypeId}
use Rattle.qo_values.specs.declared.kinds.TypeId.TheVariants.{Machine}
use Rattle.qo_slots.specs.declared.keys.Key.{Key}
use Rattle.qo_object.specs.Content.{fresh}
use Rattle.qo_heap.specs.Acts.{counts_of}
use Rattle.qo_heap.specs.Objects.{Objects, no_objects_made}
use Rattle.qo_properties.proofs.AddKept.{fresh-kept, more-kept, none-new}
use Rattle.qo_properties.proofs.KeptLemmas.{none-empty}
use Rattle.qo_properties.specs.KeptClaims.{NoneKept}
use Rattle.qo_reset.specs.Counts.{CountsKept}
use Rattle.qo_reset.specs.Phases.{count_on}
use Rattle.tests_objects.proofs.reset.held_and_released.Goals as goal

none-counted : (w : Objects) → NoneKept w → CountsKept [] w
unfolding count_on
none-counted w bare n c there =
    let new : counts_of c ≡ (0, 0) = (bare n c there).1 in
    record { count = ap (λ (k : ℕ × ℕ). k.0) new; unmarked = ap (λ (k : ℕ × ℕ). k.1) new }

made-counts : {E : Type 0} (r : Result Key E) (w : Objects) (kind : TypeId)
    → IfOk r (λ o. (o.birth ≡ no_objects_made.born + 1) × (w ≡ record no_objects_made { rows = no_objects_made.rows ++ (o, fresh kind) ∷ []; born = no_objects_made.born + 1 }))
    → OnErr r (w ≡ no_objects_made) → CountsKept [] w
made-counts (Ok o) w kind made err =
    none-counted w (none-new no_objects_made w (more-kept no_objects_made w o (fresh kind) (fresh-kept kind) (ap (λ (v : Objects). v.rows) made.1)) none-empty)
made-counts (Err e) w kind made err = none-counted w (subst NoneKept (sym err) none-empty)

-- src/reset.rt:24:5
pub hold-requires-clause-counts : goal.hold-requires-clause-counts
hold-requires-clause-counts g c =
    let empty : c.in_ok-heap.heap ≡ no_objects_made = search rules in
    let none : c.reserve.new.self.births ≡ [] = search rules in
    let made : IfOk c.make.result (λ o. (o.birth ≡ no_objects_made.born + 1) × (c.make.new.self ≡ record no_objects_made { rows = no_objects_made.rows ++ (o, fresh Machine) ∷ []; born = no_objects_made.born + 1 })) =
    subst (λ (v : Objects). IfOk c.make.result (λ o. (o.birth ≡ v.born + 1) × (c.make.new.self ≡ record v { rows = v.rows ++ (o, fresh Machine) ∷ []; born = v.born + 1 }))) empty c.make.ensures.made in
    let err : OnErr c.make.result (c.make.new.self ≡ no_objects_made) = subst (λ (v : Objects). OnErr c.make.result (c.make.new.self ≡ v)) empty c.make.ensures.err in
    subst (λ (holds : List ℕ). CountsKept holds c.make.new.self) (sym none) (made-counts c.make.result c.make.new.self Machine made err)
