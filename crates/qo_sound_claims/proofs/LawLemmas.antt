-- The law: what keeps the rings of a board sound, and what its devices claim.
use Rattle.std.proofs.Common.{refl}
use Rattle.qo_sound_claims.specs.ClaimsKept.{ClaimsKeptLaw}
use Rattle.qo_sound_claims.proofs.OpeningLemmas.{opening-claims, opening-rings}
use Rattle.qo_sound_claims.proofs.PlugLemmas.{plugged-backends}
use Rattle.qo_sound_claims.proofs.RingLemmas.{ring-added, ring-filled, ring-removed}
use Rattle.qo_sound_claims.proofs.StepsLemmas.{acted-backends, asked-backends, backends-beside, changed-backends, detach-backends, held-backends, pulse-backends, released-backends, reset-backends, scaled-backends, set-backends, wrote-backends}

pub claims_kept_lem : ClaimsKeptLaw
claims_kept_lem =
    record {
      opening = record { rings = opening-rings; claims = opening-claims };
      beside = backends-beside;
      attempt = λ b t h. backends-beside b _ refl refl h;
      given_up = λ b t bus stage h. backends-beside b _ refl refl h;
      cut = λ b t i joined h. backends-beside b _ refl refl h;
      asked_for = asked-backends;
      refused_by = λ b d h. backends-beside b _ refl refl h;
      ring_added = ring-added;
      ring_removed = ring-removed;
      ring_filled = ring-filled;
      wrote = wrote-backends;
      acts = acted-backends;
      held_so = held-backends;
      released_so = released-backends;
      pulsed = pulse-backends;
      set = set-backends;
      scaled = scaled-backends;
      change = changed-backends;
      plugged = plugged-backends;
      detached = detach-backends;
      reset = reset-backends;
    }
