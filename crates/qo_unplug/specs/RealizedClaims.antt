-- For proofs alone. What the bodies of objects keep of claims, by whether each is realized.
use Rattle.std.specs.Prelude.{◌≡◌, ℕ, Bool, if◌then◌else◌, Some}
use Rattle.qo_kinds.specs.Bodies.{none_kept}
use Rattle.qo_kinds.specs.declared.kept_set.KeptSet.{KeptSet}
use Rattle.qo_model.specs.Board.{Board}
use Rattle.qo_model.specs.Devices.{is_realized}
use Rattle.qo_heap.specs.Objects.{Objects}
use Rattle.qo_properties.specs.KeptClaims.{kept_by}

-- what is due to an object that is realized, or is not
abbrev pub due_if : (ℕ → KeptSet) → Bool → ℕ → KeptSet
due_if due realized n = if realized then due n else none_kept

-- each object of the board keeps what is due to it while it is realized, and no claim otherwise
abbrev pub KeepsDue : (ℕ → KeptSet) → Board → Objects → Type 0
KeepsDue due b v = (n : ℕ) (k : KeptSet) → kept_by v n ≡ Some k → k ≡ due_if due (is_realized b n) n
