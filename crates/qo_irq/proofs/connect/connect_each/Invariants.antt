use Rattle.std.proofs.Common.{◌≡◌, ℕ, ◌≢◌, true, take, eqb}
use Rattle.std.specs.List.{list_any}
use Rattle.qo_irq.specs.Kept.{depends, dependants_at}
use Rattle.qo_irq.proofs.connect.connect_each.Given as goal

abbrev pub invariant-loop-x : goal.invariant-loop-x
invariant-loop-x l = record {
  kept : (i x : ℕ) → i ≢ l.line → depends i (dependants_at l.dependants x) ≡ depends i (dependants_at l.fn.dependants x);
  added : (x : ℕ) → list_any (λ y. eqb x y) (take l.x-index l.named) ≡ true → depends l.line (dependants_at l.dependants x) ≡ true;
}
