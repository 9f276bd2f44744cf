-- For proofs alone. What is kept of objects, over a change of a heap: the claims of their bodies, and what stands beside the tree, the counts of holds and the
-- periods of clocks.
use Rattle.std.specs.Prelude.{◌≡◌, ◌⊎◌, ℕ, Option, None, Some, option_map}
use Rattle.qo_kinds.specs.Bodies.{kept_of, none_kept}
use Rattle.qo_kinds.specs.declared.kept_set.KeptSet.{KeptSet}
use Rattle.qo_object.specs.declared.room.Side.{Side}
use Rattle.qo_object.specs.Content.{Content}
use Rattle.qo_object.specs.Room.{no_side}
use Rattle.qo_heap.specs.Acts.{counted_in, counts_of}
use Rattle.qo_heap.specs.Objects.{Objects, content_of}

-- the claims that the body of an object keeps, if it is there
abbrev pub kept_by : Objects → ℕ → Option KeptSet
kept_by v n = option_map (λ (c : Content). kept_of c.body) (content_of v n)

-- these, and what is kept of it beside the tree: how many holds are on it and above it, its marks, and its periods as a clock
abbrev pub Kept : Type 0
Kept = KeptSet × Side

abbrev pub kept_with : Content → Kept
kept_with c = (kept_of c.body, c.side)

abbrev pub all_kept : Objects → ℕ → Option Kept
all_kept v n = option_map kept_with (content_of v n)

-- no claim, no hold, no mark and no period
abbrev pub new_kept : Kept
new_kept = (none_kept, no_side)

-- of all objects the same is kept
abbrev pub SameKept : Objects → Objects → Type 0
SameKept v w = (n : ℕ) → all_kept w n ≡ all_kept v n

-- no body keeps a claim, and there is no hold and no mark
abbrev pub NoneKept : Objects → Type 0
NoneKept v = (n : ℕ) (c : Content) → content_of v n ≡ Some c → (kept_of c.body ≡ none_kept) × (counts_of c ≡ (0, 0))

-- of who is there the same was kept before
abbrev pub KeptBefore : Objects → Objects → Type 0
KeptBefore v w = (n : ℕ) (k : Kept) → all_kept w n ≡ Some k → all_kept v n ≡ Some k

-- the same, but that of who was not there nothing is kept
abbrev pub KeptOrNew : Objects → Objects → Type 0
KeptOrNew v w = (n : ℕ) (k : Kept) → all_kept w n ≡ Some k → (all_kept v n ≡ Some k) ⊎ ((all_kept v n ≡ None) × (k ≡ new_kept))

-- the same of the claims alone
abbrev pub SameClaims : Objects → Objects → Type 0
SameClaims v w = (n : ℕ) → kept_by w n ≡ kept_by v n

abbrev pub ClaimsBefore : Objects → Objects → Type 0
ClaimsBefore v w = (n : ℕ) (k : KeptSet) → kept_by w n ≡ Some k → kept_by v n ≡ Some k

abbrev pub ClaimsOrNew : Objects → Objects → Type 0
ClaimsOrNew v w = (n : ℕ) (k : KeptSet) → kept_by w n ≡ Some k → (kept_by v n ≡ Some k) ⊎ ((kept_by v n ≡ None) × (k ≡ none_kept))

-- and of the counts of holds
abbrev pub CountsBefore : Objects → Objects → Type 0
CountsBefore v w = (n : ℕ) (k : ℕ × ℕ) → counted_in w n ≡ Some k → counted_in v n ≡ Some k
