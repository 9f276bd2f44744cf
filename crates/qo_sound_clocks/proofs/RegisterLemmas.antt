-- The law: what other registers of an object keep. None of it speaks of registers but the moments of timers.
use Rattle.std.proofs.Common.{◌≡◌, refl, ap, sym, ◌∙◌, ℕ, false, None, option_map, arith}
use Rattle.qo_model.proofs.Common.{Registers, Board, record_of, slots_at, edited}
use Rattle.qo_model.proofs.FinalNotesLemmas.{edit-keeps}
use Rattle.qo_model.proofs.FirstSlotLemmas.{slots_in}
use Rattle.qo_model.proofs.StepLemmas.{found-edited, map-edited, slots-edited}
use Rattle.qo_sound.specs.TreeKept.{SoundTree}
use Rattle.qo_sound.proofs.CutLemmas.{near-same_slots}
use Rattle.qo_sound.proofs.FirmBoardLemmas.{WellFormed}
use Rattle.qo_sound.proofs.ViewLemmas.{PinsRootAlone, rest-from_sound, sound-from_rest}
use Rattle.qo_sound.proofs.WorkLemmas.{InvariantBut}
use Rattle.qo_sound_devices.specs.SoundDevices.{SoundDevices}
use Rattle.qo_sound_devices.specs.SoundPlaces.{PlacesBut}
use Rattle.qo_sound_devices.proofs.LikenessLemmas.{Alike, bodiless, alike-same}
use Rattle.qo_sound_devices.proofs.ListsLemmas.{lists-same}
use Rattle.qo_sound_devices.proofs.DepthLemmas.{moved-dimmed, stands-dimmed}
use Rattle.qo_sound_devices.proofs.RemovalLemmas.{places-moved}
use Rattle.qo_sound_devices.proofs.UnrealizingLemmas.{Dims, dims-alike}
use Rattle.qo_sound_clocks.specs.RegisterWrites.{RegistersKeptLaw, registers_set, with_registers}
use Rattle.qo_sound_clocks.proofs.GrowthLemmas.{same-sound}
use Rattle.qo_sound_clocks.proofs.NumbersLemmas.{same-numbers}
use Rattle.qo_sound_clocks.proofs.TimesLemmas.{edit-times}

module _ (b : Board) (n : ℕ) (registers : Registers) where
  abbrev set : Board
  set = registers_set b n registers

  found : (x : ℕ) → record_of set x ≡ option_map (edited n (with_registers registers)) (record_of b x)
  found x = found-edited n (with_registers registers) (λ r. refl) x b.records

  slots-set : (x : ℕ) → slots_at set x ≡ slots_at b x
  slots-set x = ap slots_in (found x) ∙ slots-edited n (with_registers registers) (λ r. refl) (record_of b x)

  body-set : (x : ℕ) → option_map bodiless (record_of set x) ≡ option_map bodiless (record_of b x)
  body-set x = ap (option_map bodiless) (found x) ∙ map-edited bodiless n (with_registers registers) (λ r. refl) (record_of b x)

  alike-set : (x : ℕ) → Alike b set x
  alike-set x = alike-same b set x (slots-set x) (body-set x)

  dims-set : Dims b set
  dims-set = dims-alike b set refl alike-set

  near-set : InvariantBut None b → InvariantBut None set
  near-set near = near-same_slots n (with_registers registers) (λ r. refl) (λ r. refl) (λ r. refl) None b near

  tree-set : SoundTree b → SoundTree set
  tree-set h =
      let rest : PinsRootAlone b = rest-from_sound b h in
      sound-from_rest set (record { used = near-set rest.used; pinned = rest.pinned })

  places-set : (depth : ℕ → ℕ) → WellFormed set → PlacesBut depth None (λ x. false) b → PlacesBut depth None (λ x. false) set
  places-set depth firm h =
      let d : Dims b set = dims-set in
      places-moved b set depth None None (λ x. false) (λ x. false) (moved-dimmed depth None (λ x. false) b set firm h d.dimmed) h (λ x e k. k)
      (λ x there lit s. stands-dimmed b set d.dimmed x ∙ s)
      (λ x s k. d.same x ∙ h.each x (sym (stands-dimmed b set d.dimmed x) ∙ s) refl)

  devices-set : SoundDevices b → SoundDevices set
  devices-set h =
      let rest : PinsRootAlone b = rest-from_sound b h.tree in
      let near : InvariantBut None set = near-set rest.used in
      let d : Dims b set = dims-set in
      record {
        tree = tree-set h.tree;
        places = (h.places.0, places-set h.places.0 near.firm h.places.1);
        lists = lists-same b set refl refl (omega arith) (λ x on. (stands-dimmed b set d.dimmed x ∙ on.0, d.same x ∙ on.1)) h.lists;
      }

pub registers_kept_lem : RegistersKeptLaw
registers_kept_lem =
    record {
      tree = tree-set;
      devices = devices-set;
      clocks = λ b n registers h. same-sound b (registers_set b n registers) (slots-set b n registers) h;
      numbers = λ b n registers h. same-numbers b (registers_set b n registers) (slots-set b n registers) h;
      notes = λ b n registers h. edit-keeps n (with_registers registers) (λ r. refl) (λ r. refl) b h;
      times = λ b n registers timely h. edit-times n (with_registers registers) b (λ r k. timely) h;
    }
