-- For proofs alone. What is kept of objects, while a device is added in stages.
use Rattle.std.specs.Prelude.{◌≡◌, ◌⊎◌, ◌==◌, ℕ, false, true, None, Some}
use Rattle.qo_kinds.specs.Bodies.{none_kept}
use Rattle.qo_kinds.specs.declared.kept_set.KeptSet.{KeptSet}
use Rattle.qo_model.specs.Board.{Board}
use Rattle.qo_model.specs.Depth.{among}
use Rattle.qo_model.specs.Reset.{count, post}
use Rattle.qo_heap.specs.Acts.{counted_in}
use Rattle.qo_heap.specs.Objects.{Objects}
use Rattle.qo_properties.specs.KeptClaims.{CountsBefore, KeptBefore, KeptOrNew, kept_by}
use Rattle.qo_plug.specs.declared.placing.Plugging.{Plugging}
use Rattle.qo_plug.specs.declared.placing.Plugging.TheVariants.{Attached, NoticesFull}

-- of who is there, but for one object, the body kept the same claims before
abbrev pub ClaimsBut : ℕ → Objects → Objects → Type 0
ClaimsBut one v w = (n : ℕ) (k : KeptSet) → (n == one) ≡ false → kept_by w n ≡ Some k → kept_by v n ≡ Some k

-- the same, but that of who was not there nothing is kept
abbrev pub ClaimsOrNewBut : ℕ → Objects → Objects → Type 0
ClaimsOrNewBut one v w =
    (n : ℕ) (k : KeptSet) → (n == one) ≡ false → kept_by w n ≡ Some k → (kept_by v n ≡ Some k) ⊎ ((kept_by v n ≡ None) × (k ≡ none_kept))

-- of who is there what is kept of holds was kept before; or it was not there, and nothing is
abbrev pub CountsOrNew : Objects → Objects → Type 0
CountsOrNew v w = (n : ℕ) (k : ℕ × ℕ) → counted_in w n ≡ Some k → (counted_in v n ≡ Some k) ⊎ ((counted_in v n ≡ None) × (k ≡ (0, 0)))

-- a device was placed: it keeps claims, and no other one; or none does, since it stands nowhere
abbrev pub KeptAs : ℕ → Plugging → Objects → Objects → Type 0
KeptAs one (Attached path) v w = ClaimsBut one v w × CountsBefore v w
KeptAs one (NoticesFull out) v w = KeptBefore v w

-- so of a device that was begun, and then placed
abbrev pub KeptSoFar : ℕ → Plugging → Objects → Objects → Type 0
KeptSoFar one (Attached path) v w = ClaimsOrNewBut one v w × CountsOrNew v w
KeptSoFar one (NoticesFull out) v w = KeptOrNew v w

-- of a device that was plugged into a board, and of all below it, the count that is kept is the board's, and there is no mark
abbrev pub CountedOn : Board → ℕ → Objects → Type 0
CountedOn c one w = (n : ℕ) (k : ℕ × ℕ) → counted_in w n ≡ Some k → among (post c one) n ≡ true → k ≡ (count c n, 0)

-- of each other one that is there, what is kept of holds was kept before; or it was not there, and nothing is
abbrev pub OthersBefore : Board → ℕ → Objects → Objects → Type 0
OthersBefore c one v w = (n : ℕ) (k : ℕ × ℕ) → counted_in w n ≡ Some k → among (post c one) n ≡ false → counted_in v n ≡ Some k

abbrev pub OthersOrNew : Board → ℕ → Objects → Objects → Type 0
OthersOrNew c one v w =
    (n : ℕ) (k : ℕ × ℕ) → counted_in w n ≡ Some k → among (post c one) n ≡ false → (counted_in v n ≡ Some k) ⊎ ((counted_in v n ≡ None) × (k ≡ (0, 0)))
