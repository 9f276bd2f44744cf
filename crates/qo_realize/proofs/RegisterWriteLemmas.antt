-- What a write of the guest to a register keeps.
use Rattle.std.proofs.Common.{◌≡◌, refl, subst, ◌∙◌, ℕ, List, Option, None, Some}
use Rattle.std.specs.Option.{option_map_or}
use Rattle.std.proofs.lemmas.Option.{same_Some}
use Rattle.qo_values.specs.Registers.{Effect, byte, nothing, Registers}
use Rattle.qo_values.specs.Registers as effect
use Rattle.qo_values.specs.declared.kinds.ResetKind.TheVariants.{Cold}
use Rattle.qo_buses.specs.Rings.{claimed_ring}
use Rattle.qo_model.specs.Board.{Board}
use Rattle.qo_model.specs.Devices.{first_bus}
use Rattle.qo_model.specs.Reset.{pulse}
use Rattle.qo_sound.specs.DeviceScope.{ResetLeaves}
use Rattle.qo_sound.proofs.DeviceScopeLemmas.{devices_stay_lem}
use Rattle.qo_sound_clocks.specs.RegisterWrites.{registers_set}
use Rattle.qo_realize.specs.Registers.{after_effect, guest_written, pushed, registers_written}

-- what the board with the registers has, and a byte that goes to a ring and a pulse of a device's bus keep, the board after the write has
pub written-all : (P : Board → Type 0) (b : Board) (d reg value : ℕ)
    → ((registers : Registers) (e : Effect) → registers_written b d reg value ≡ Some (registers, e) → P (registers_set b d registers))
    → ((x : Board) (n : ℕ) (id : List ℕ) → P x → P (pushed n x id))
    → ((x : Board) (m : ℕ) → first_bus x d ≡ Some m → P x → P (pulse x m Cold)) → (c : Board) → guest_written b d reg value ≡ Some c → P c
written-all P b d reg value set gains pulsed c is = go (registers_written b d reg value) refl
  where
    beside : (x : Board) (e : Effect) → P x → P (after_effect d e x)
    beside x nothing h = h
    beside x (byte n) h = by (claimed_ring x d)
      where
        by : (claimed : Option (List ℕ)) → P (option_map_or (pushed n x) claimed x)
        by None = h
        by (Some id) = gains x n id h
    beside x effect.pulse h = by (first_bus x d) refl
      where
        by : (bus : Option ℕ) → first_bus x d ≡ bus → P (option_map_or (λ m. pulse x m Cold) bus x)
        by None is = h
        by (Some m) is = pulsed x m is h

    go : (o : Option (Registers × Effect)) → registers_written b d reg value ≡ o → P c
    go None e = absurd (let clash : None ≡ Some c = rw (guest_written, e) at is in cc)
    go (Some w) e =
        let its : Some (after_effect d w.1 (registers_set b d w.0)) ≡ Some c = rw (guest_written, e) at is in
        subst P (same_Some (after_effect d w.1 (registers_set b d w.0)) c its) (beside (registers_set b d w.0) w.1 (set w.0 w.1 e))

-- what stands beside the objects stays, but for the rings
pub record WriteLeaves (b c : Board) : Type 0 where
  pub anonymous : c.anonymous ≡ b.anonymous
  pub running : c.running ≡ b.running
  pub pending : c.pending ≡ b.pending
  pub notices : c.notices ≡ b.notices

leaves-then : (b x c : Board) → WriteLeaves b x → ResetLeaves x c → WriteLeaves b c
leaves-then b x c h k =
    record {
      anonymous = k.anonymous ∙ h.anonymous;
      running = k.running ∙ h.running;
      pending = k.pending ∙ h.pending;
      notices = k.notices ∙ h.notices;
    }

pub written-leaves : (b : Board) (d reg value : ℕ) (c : Board) → guest_written b d reg value ≡ Some c → WriteLeaves b c
written-leaves b d reg value =
    written-all (WriteLeaves b) b d reg value
    (λ registers e is. record { anonymous = refl; running = refl; pending = refl; notices = refl })
    (λ x n id h. record { anonymous = h.anonymous; running = h.running; pending = h.pending; notices = h.notices })
    (λ x m is h. leaves-then b x (pulse x m Cold) h (devices_stay_lem.pulsed x m Cold))
