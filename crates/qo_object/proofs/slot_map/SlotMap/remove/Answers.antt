-- The names of the slots that are left.
use Rattle.std.proofs.Common.{◌≡◌, ◌∙◌, List, ℕ, remove, ap, sym}
use Rattle.std.specs.List.{IsDistinct}
use Rattle.std.specs.Str.{bytes_eq}
use Rattle.indexmap.proofs.SetLemmas.{map-remove}
use Rattle.qo_object.specs.Slots.{Named, names_of}
use Rattle.qo_object.proofs.ObjectLemmas.{distinct-removed}
use Rattle.qo_object.proofs.slot_map.SlotMap.remove.Goals as goal
use Rattle.qo_object.proofs.slot_map.SlotMap.remove.Goals.{in-Some, in_default}

module _ (c : goal.Joined-self) where
  differ : IsDistinct bytes_eq (names_of c.remove.new.self.items)
  differ = rw c.remove.ensures.items (distinct-removed c.args.at c.self.inside.slots.items c.self.invariant.0)

  left : remove (names_of c.self.inside.slots.items) c.args.at ≡ names_of c.remove.new.self.items
  left = sym (ap names_of c.remove.ensures.items ∙ map-remove (λ (s : Named). s.0) c.self.inside.slots.items c.args.at)

pub invariant_of-self : goal.invariant_of-self
invariant_of-self c = elim c.match-self.branch [
  | in-Some w ↦
      let names : w.in-Some.names ≡ names_of c.self.inside.slots.items = rw w.in-Some.is at c.self.invariant.1 in
      rw w.self-inside-is (differ c, w.remove-in-Some.ensures ∙ ap (λ (ns : List (List ℕ)). remove ns c.args.at) names ∙ left c)
  | in_default w ↦ rw (w.self-inside-is, w.in_default.is) (differ c, tt)
]
