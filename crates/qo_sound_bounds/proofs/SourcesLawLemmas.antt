-- The law: what keeps the sources of clocks sound.
use Rattle.std.proofs.Common.{◌≡◌, refl, ap, sym, ◌∙◌, rules, ℕ, Bool, true, false, List, find, Option, Some, None, is_none, option_map, option_and_then, codes}
use Rattle.qo_model.proofs.Common.{AllByRecursion, bytes_eq, Record, Slot, record_of, source_of, is_realized, refused, with_attempt, opening_board, cut_attempt, plug_attempt, types}
use Rattle.qo_model.specs.Clocks.{weak_in}
use Rattle.qo_model.proofs.FirstSlotLemmas.{slots_in}
use Rattle.qo_sound.proofs.SearchLemmas.{all-found}
use Rattle.qo_sound.proofs.TestLemmas.{clash}
use Rattle.qo_sound_devices.specs.SoundPlaces.{stands}
use Rattle.qo_sound_devices.proofs.DevicesLawLemmas.{devices_kept_lem}
use Rattle.qo_sound_phases.proofs.ResetTreeLemmas.{Placed, placed}
use Rattle.qo_sound_bounds.specs.SoundSources.{SoundSources}
use Rattle.qo_sound_bounds.specs.SourcesKept.{SourcesKeptLaw}
use Rattle.qo_sound_bounds.proofs.FeedLemmas.{plug-sources}
use Rattle.qo_sound_bounds.proofs.LeavingLemmas.{detach-sources, reset-sources}
use Rattle.qo_sound_bounds.proofs.SourceLemmas.{acted-sources, asked-sources, beside-sources, changed-sources, held-sources, pulse-sources, registers-sources, released-sources, scaled-sources, set-sources}

-- on the opening board no device is realized, and no clock has a source

none-stands : (d : ℕ) → stands opening_board d ≡ false
unfolding opening_board types
none-stands d = refl

none-realized : (d : ℕ) → is_realized opening_board d ≡ true → {A : Type 0} → A
none-realized d r =
    let k : Placed opening_board = placed opening_board devices_kept_lem.opening in
    clash (sym (k.places.only d r) ∙ none-stands d)

abbrev sourceless : List (List ℕ × Slot) → Bool
sourceless xs = is_none (option_and_then weak_in (option_map (λ (s : List ℕ × Slot). s.1) (find (λ s. bytes_eq s.0 (codes "source")) xs)))

all-sourceless : AllByRecursion (λ (r : Record). sourceless r.slots ≡ true) opening_board.records
unfolding opening_board types
all-sourceless = search rules

opening-sourceless : (c : ℕ) → is_none (source_of opening_board c) ≡ true
opening-sourceless c = go (record_of opening_board c) refl
  where
    go : (o : Option Record) → record_of opening_board c ≡ o → sourceless (slots_in o) ≡ true
    go None e = refl
    go (Some r) e = all-found (λ (x : Record). sourceless x.slots ≡ true) c opening_board.records all-sourceless r e

opening-sources : SoundSources opening_board
unfolding opening_board types
opening-sources =
    record {
      fed = λ d bus c r on its. none-realized d r;
      only = λ c s e. clash (sym (opening-sourceless c) ∙ ap is_none e);
      clocks = λ d c r its. none-realized d r;
      system = refl;
    }

pub sources_kept_lem : SourcesKeptLaw
sources_kept_lem =
    record {
      opening = opening-sources;
      beside = beside-sources;
      attempt = λ b t h. beside-sources b (with_attempt b t) refl h;
      given_up = λ b t bus stage h. beside-sources b (plug_attempt b t bus stage) refl h;
      cut = λ b t i joined h. beside-sources b (cut_attempt b t i joined) refl h;
      asked_for = asked-sources;
      refused_by = λ b d h. beside-sources b (refused b d) refl h;
      acts = acted-sources;
      held_so = held-sources;
      released_so = released-sources;
      pulsed = pulse-sources;
      set = set-sources;
      scaled = scaled-sources;
      registers = registers-sources;
      change = changed-sources;
      plugged = plug-sources;
      detached = detach-sources;
      reset = reset-sources;
    }
