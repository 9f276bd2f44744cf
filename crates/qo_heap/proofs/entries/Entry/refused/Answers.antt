use Rattle.std.proofs.Common.{◌≡◌, refl, ap, sym, ◌∙◌, true, false, is_some, List, ℕ, Option}
use Rattle.std.specs.Str.{bytes_eq}
use Rattle.qo_object.specs.Slots.{Named, has_name}
use Rattle.qo_object.proofs.SlotLemmas.{found-any}
use Rattle.qo_heap.proofs.entries.Entry.refused.Goals as goal

pub returns-then-is_some : goal.returns-then-is_some
returns-then-is_some c =
    let there : has_name c.args.name.now c.args.self.now.object.slots ≡ true =
    ap (λ (n : List ℕ). has_name n c.args.self.now.object.slots) (sym c.as_str.ensures.value)
    ∙ sym (found-any (λ (s : Named). bytes_eq c.as_str.result.now s.0) c.args.self.now.object.slots)
    ∙ ap (λ (o : Option ℕ). is_some o) (sym c.find.ensures) ∙ sym c.is_some.ensures ∙ c.if-is_some.true in
    rw there refl

pub returns-else-is_some : goal.returns-else-is_some
returns-else-is_some c =
    let there : has_name c.args.name.now c.args.self.now.object.slots ≡ false =
    ap (λ (n : List ℕ). has_name n c.args.self.now.object.slots) (sym c.as_str.ensures.value)
    ∙ sym (found-any (λ (s : Named). bytes_eq c.as_str.result.now s.0) c.args.self.now.object.slots)
    ∙ ap (λ (o : Option ℕ). is_some o) (sym c.find.ensures) ∙ sym c.is_some.ensures ∙ c.if-is_some.false in
    rw there refl
