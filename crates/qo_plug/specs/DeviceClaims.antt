-- For proofs alone. The claims of a device: on its id, if it has one, and those that its body keeps.
use Rattle.std.specs.Prelude.{ℕ, List, [], ◌∷◌, ◌++◌, Option, Some, None, option_map}
use Rattle.qo_claims.specs.Book.{ClaimsTaken, with_claim}
use Rattle.qo_claims.specs.Lists.{bus_slot}
use Rattle.qo_claims.specs.declared.claims.Claimed.{Claimed}
use Rattle.qo_claims.specs.declared.claims.Claimed.TheVariants as on
use Rattle.qo_kinds.specs.declared.kept_set.KeptSet.{KeptSet}
use Rattle.qo_plug.specs.declared.claiming.IdClaim.{IdClaim}
use Rattle.qo_plug.specs.declared.claiming.DeviceClaims.{DeviceClaims}
use Rattle.qo_plug.specs.declared.resources.Memory.{Memory}
use Rattle.qo_plug.specs.declared.resources.Resources.{Resources}

-- the claims of a device with its resources on a bus
abbrev pub kept_on : ℕ → Resources → KeptSet
kept_on bus s =
    record {
      slot = Some (on.Slot (bus_slot bus s.slot));
      ring = option_map on.Ring s.ring;
      backend = option_map (λ (m : Memory). on.Backend m.backend) s.memory;
      range = option_map (λ (m : Memory). on.Range m.range) s.memory;
    }

-- the claims that are out
abbrev pub one_out : Option Claimed → List Claimed
one_out None = []
one_out (Some claim) = claim ∷ []

abbrev pub kept_out : KeptSet → List Claimed
kept_out k = one_out k.range ++ one_out k.backend ++ one_out k.ring ++ one_out k.slot

abbrev pub id_claims_out : Option IdClaim → List Claimed
id_claims_out None = []
id_claims_out (Some l) = l.claim ∷ []

abbrev pub taken_out : DeviceClaims → List Claimed
taken_out t = kept_out t.kept ++ id_claims_out t.id_claim

-- one claim more is held, if there is one
abbrev pub with_one : Option Claimed → ClaimsTaken → ClaimsTaken
with_one None h = h
with_one (Some claim) h = with_claim claim h
