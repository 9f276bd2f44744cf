-- The law: what keeps the places of devices sound.
use Rattle.std.proofs.Common.{ℕ, false, List, [], ◌∷◌, None}
use Rattle.qo_model.proofs.Common.{Board, Change, added, after_changes, deleted, wrote, severed, changed, opening_board}
use Rattle.qo_sound.specs.TreeKept.{SoundTree}
use Rattle.qo_sound.proofs.FirmBoardLemmas.{WellFormed}
use Rattle.qo_sound.proofs.TreeKeptLemmas.{changed-sound, sound_kept_lem}
use Rattle.qo_sound.proofs.ViewLemmas.{PinsRootAlone, rest-from_sound}
use Rattle.qo_sound_devices.specs.PlacesKept.{PlacesKeptLaw}
use Rattle.qo_sound_devices.specs.SoundPlaces.{PlacesBut, SoundPlaces}
use Rattle.qo_sound_devices.proofs.AddLemmas.{attempt-places, object_add-places}
use Rattle.qo_sound_devices.proofs.DependenceLemmas.{asked-places, beside-places, refused-places}
use Rattle.qo_sound_devices.proofs.CommandLemmas.{object_del-places, sever-places}
use Rattle.qo_sound_devices.proofs.DetachmentLemmas.{detach-places}
use Rattle.qo_sound_devices.proofs.PlacesLemmas.{Keeps}
use Rattle.qo_sound_devices.proofs.PlaceRows.{opening-places}
use Rattle.qo_sound_devices.proofs.PlugLemmas.{cut_attempt-places, plug_attempt-places}
use Rattle.qo_sound_devices.proofs.PlugStageLemmas.{plugged-places}
use Rattle.qo_sound_devices.proofs.WriteLemmas.{write-places}

-- each change keeps places, and the same devices stand
pub changed-keeps : (depth : ℕ → ℕ) (b : Board) (change : Change) → PinsRootAlone b → PlacesBut depth None (λ x. false) b → Keeps depth b (changed b change)
changed-keeps depth b (added driver id props) rest h = object_add-places depth b driver id props rest h
changed-keeps depth b (deleted id) rest h = object_del-places depth b id rest h
changed-keeps depth b (wrote n name v) rest h = write-places depth b n name v rest h
changed-keeps depth b (severed n) rest h = sever-places depth b n rest h

pub changed-places : (depth : ℕ → ℕ) (b : Board) (change : Change) → PinsRootAlone b → PlacesBut depth None (λ x. false) b
    → PlacesBut depth None (λ x. false) (changed b change)
changed-places depth b change rest h = (changed-keeps depth b change rest h).places

after_changes-places : (b : Board) (changes : List Change) → SoundTree b → SoundPlaces b → SoundPlaces (after_changes b changes)
after_changes-places b [] tree h = h
after_changes-places b (change ∷ changes) tree h =
    after_changes-places (changed b change) changes (changed-sound b change tree) (h.0, changed-places h.0 b change (rest-from_sound b tree) h.1)

firm : (b : Board) → SoundTree b → WellFormed b
firm b tree = (rest-from_sound b tree).used.firm

pub places_kept_lem : PlacesKeptLaw
places_kept_lem =
    record {
      opening = opening-places;
      run = λ changes. after_changes-places opening_board changes (sound_kept_lem.run [], sound_kept_lem.run_aliases []) opening-places;
      change = λ b change tree h. (h.0, changed-places h.0 b change (rest-from_sound b tree) h.1);
      attempt = λ b t tree h. (h.0, attempt-places h.0 b t (rest-from_sound b tree) h.1);
      given_up = λ b t bus stage tree h. (h.0, plug_attempt-places h.0 b t bus stage (rest-from_sound b tree) h.1);
      cut = λ b t i joined tree h. (h.0, cut_attempt-places h.0 b t i joined (rest-from_sound b tree) h.1);
      asked_for = λ b id tree h. (h.0, asked-places h.0 b (firm b tree) h.1 id);
      refused_by = λ b d tree h. (h.0, refused-places h.0 b (firm b tree) h.1 d);
      beside = λ b c same grows anonymous tree h. (h.0, beside-places h.0 None (λ x. false) b c (firm b tree) same grows anonymous h.1);
      plugged = λ b a tree h. plugged-places h.0 b a (rest-from_sound b tree) h.1;
      detached = λ b d tree h e. (h.0, detach-places h.0 b d (rest-from_sound b tree) h.1 e);
    }
