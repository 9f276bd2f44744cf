-- What acts keep, and devices that go, the reset of the whole board keeps.
use Rattle.std.proofs.Common.{◌≡◌, refl, ℕ, zero, suc, true, length, Option, Some, None, slice_get}
use Rattle.qo_model.proofs.Common.{MACHINE_BIRTH, Act, Board, acted, all_completed, completed, reset_whole, detach}
use Rattle.qo_model.specs.Board.{Removal}
use Rattle.qo_sound.proofs.QuietStepsLemmas.{quiet-pulse}
use Rattle.qo_sound_devices.specs.SoundDevices.{SoundDevices}
use Rattle.qo_sound_devices.specs.SoundLists.{IsOn}
use Rattle.qo_sound_devices.specs.SoundPlaces.{stands}
use Rattle.qo_sound_devices.proofs.ResetLemmas.{detached-below, first-on}
use Rattle.qo_values.specs.declared.kinds.ResetKind.TheVariants.{Cold}

module _ (P : Board → Type 0) (same : (b c : Board) → c.records ≡ b.records → P b → P c)
    (acts : (act : Act) (n period : ℕ) (b : Board) → P b → P (acted act n period b)) where
  module _ (goes : (b : Board) (d : ℕ) → SoundDevices b → stands b d ≡ true → P b → P (detach b d)) where
    quiet-completed : (times : ℕ) (b : Board) → SoundDevices b → P b → P (all_completed times b)
    quiet-completed zero b devices h = h
    quiet-completed (suc times) b devices h = go (slice_get b.pending 0) refl (quiet-completed times)
      where
        go : (o : Option Removal) → slice_get b.pending 0 ≡ o → ((c : Board) → SoundDevices c → P c → P (all_completed times c))
            → P (all_completed (suc times) b)
        go None e rest = rw (all_completed, e) h
        go (Some d) e rest =
            let there : stands b d.birth ≡ true = (first-on (IsOn b) b.pending devices.lists.pending d e).0 in
            rw (all_completed, e) (rest (completed b d.birth) (detached-below b d.birth devices there) (goes b d.birth devices there h))

    pub quiet-reset : (b : Board) → SoundDevices b → P b → P (reset_whole b)
    unfolding reset_whole
    quiet-reset b devices h = quiet-pulse P same acts (all_completed (length b.pending) b) MACHINE_BIRTH Cold (quiet-completed (length b.pending) b devices h)
