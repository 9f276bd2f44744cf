-- For proofs alone. What is held, recounted: each claim is kept by an object or is out.
use Rattle.std.specs.Prelude.{◌≡◌, ℕ, ◌+◌, Bool, false, ◌==◌, if◌then◌else◌, List, count_by, sum_by, Option, option_map}
use Rattle.std.specs.Option.{option_map_or}
use Rattle.std.specs.Str.{bytes_eq}
use Rattle.qo_claims.specs.Book.{ClaimsTaken}
use Rattle.qo_claims.specs.Lists.{slot_eq, range_eq}
use Rattle.qo_claims.specs.declared.claims.Claimed.{Claimed}
use Rattle.qo_claims.specs.declared.claims.Claimed.TheVariants as on
use Rattle.qo_kinds.specs.Bodies.{kept_of}
use Rattle.qo_kinds.specs.declared.kept_set.KeptSet.{KeptSet}
use Rattle.qo_slots.specs.declared.keys.Key.{Key}
use Rattle.qo_object.specs.Content.{Content}
use Rattle.qo_heap.specs.Objects.{Objects}

-- two claims are on the same
abbrev pub claim_eq : Claimed → Claimed → Bool
claim_eq (on.Device a) (on.Device b) = bytes_eq a b
claim_eq (on.Slot a) (on.Slot b) = slot_eq a b
claim_eq (on.Ring a) (on.Ring b) = bytes_eq a b
claim_eq (on.Backend a) (on.Backend b) = a == b
claim_eq (on.Range a) (on.Range b) = range_eq a b
claim_eq _ _ = false

-- how often it is held
abbrev pub counted : Claimed → ClaimsTaken → ℕ
counted (on.Device a) h = count_by (bytes_eq a) h.devices
counted (on.Slot a) h = count_by (slot_eq a) h.slots
counted (on.Ring a) h = count_by (bytes_eq a) h.rings
counted (on.Backend a) h = count_by (λ b. a == b) h.backends
counted (on.Range a) h = count_by (range_eq a) h.ranges

abbrev pub one : Claimed → Option Claimed → ℕ
one x o = option_map_or (λ (y : Claimed). if claim_eq x y then 1 else 0) o 0

abbrev pub kept_times : Claimed → KeptSet → ℕ
kept_times x k = one x k.slot + (one x k.ring + (one x k.backend + one x k.range))

-- how often an object keeps a claim: its body does, or it is on the id of its device
abbrev pub owned : Claimed → Key × Content → ℕ
owned x row = kept_times x (kept_of row.1.body) + one x (option_map on.Device row.1.device_id)

-- each claim is held as often as it is out or kept by an object
abbrev pub IsBook : List Claimed → Objects → Type 0
IsBook out v = (x : Claimed) → counted x v.claims ≡ count_by (claim_eq x) out + sum_by (owned x) v.rows
