-- Who may act in a change, of a board that is good: whoever a reset goes over, and the others that the changes go to. On any board anyone may.
use Rattle.std.proofs.Common.{◌≡◌, ℕ, ◌+◌, ◌∷◌, Some, None, slice_get}
use Rattle.qo_model.proofs.Common.{⊤, AllByRecursion, MACHINE_BIRTH, Board, Wanted, barred_late, bus_births, resources_of, with_device, post, TypeInfo, detach}
use Rattle.qo_values.specs.declared.kinds.ResetKind.{ResetKind}
use Rattle.qo_model.specs.Board.{Removal}
use Rattle.qo_model.specs.Paths.{parent_of}
use Rattle.qo_model.specs.Reset.{after_hold}
use Rattle.qo_sound.specs.PlugOutcomes.{IsAttempted}
use Rattle.qo_sound.proofs.AdditionStepsLemmas.{all-any}
use Rattle.qo_steps.proofs.ActingLemmas.{IsSteady}
use Rattle.qo_steps.proofs.DetachStepsLemmas.{ActsBelow}
use Rattle.qo_steps.proofs.PlugStepsLemmas.{StartsOn}

pub record Reaches (Good : Board → Type 0) (On : Board → ℕ → Type 0) : Type 0 where
  -- who may act may where the same objects are there; and so may the parent of a clock that is called back
  pub steady : IsSteady On
  pub parents : (b : Board) (n d : ℕ) → parent_of b n ≡ Some d → On b d
  -- what a reset goes over from one that may, and what is below a device
  pub post : (b : Board) (n : ℕ) → Good b → On b n → AllByRecursion (On b) (post b n)
  pub below : (b : Board) → Good b → ActsBelow (On b) b
  -- a hold keeps the board good
  pub held_so : (b : Board) (n : ℕ) (kind : ResetKind) → Good b → On b n → Good (after_hold b n kind)
  -- the reset of the whole board: the machine, and the first device whose removal is pending, with which the board stays good
  pub machine : (b : Board) → Good b → On b MACHINE_BIRTH
  pub pending : (b : Board) (r : Removal) → Good b → slice_get b.pending 0 ≡ Some r → On b r.birth
  pub completed : (b : Board) (r : Removal) → Good b → slice_get b.pending 0 ≡ Some r → Good (detach b r.birth)
  -- a device that is added, with what is below it
  pub starts : (b : Board) (a : Wanted) (row : TypeInfo) (bus : ℕ) → Good b → IsAttempted b a row bus → barred_late b row.id bus a.props ≡ None
      → StartsOn On (b.born + 1) row.id (with_device b row.id a (resources_of b row.id bus a.props))

pub reach-any : Reaches (λ b. ⊤) (λ b n. ⊤)
reach-any =
    record {
      steady = λ b c same n on. tt;
      parents = λ b n d e. tt;
      post = λ b n good on. all-any _;
      below = λ b good. record { buses = λ d. all-any _; kids = λ m. all-any _ };
      held_so = λ b n kind good on. tt;
      machine = λ b good. tt;
      pending = λ b r good e. tt;
      completed = λ b r good e. tt;
      starts = λ b a row bus good tried late. record { own = all-any ((b.born + 1) ∷ bus_births (b.born + 1) row.id); below = all-any _ };
    }
