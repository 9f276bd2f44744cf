-- The law: what keeps the lists of pending removals and of notices.
use Rattle.std.proofs.Common.{List, [], ◌∷◌}
use Rattle.qo_model.proofs.Common.{Board, Change, after_changes, changed, opening_board}
use Rattle.qo_sound.proofs.TreeKeptLemmas.{changed-sound, sound_kept_lem}
use Rattle.qo_sound.proofs.ViewLemmas.{PinsRootAlone, rest-from_sound}
use Rattle.qo_sound_devices.specs.ListsKept.{ListsKeptLaw}
use Rattle.qo_sound_devices.specs.SoundDevices.{SoundDevices}
use Rattle.qo_sound_devices.proofs.LawLemmas.{changed-places}
use Rattle.qo_sound_devices.proofs.ListsKeptLemmas.{asked-lists, attempt-lists, changed-lists, cut_attempt-lists, opening-lists, plug_attempt-lists, plugged-lists, read-lists, refused-lists}
use Rattle.qo_sound_devices.proofs.PlaceRows.{opening-places}
use Rattle.qo_sound_devices.proofs.UnlistingLemmas.{detach-lists}

at_rest : (b : Board) → SoundDevices b → PinsRootAlone b
at_rest b h = rest-from_sound b h.tree

pub changed-below : (b : Board) (change : Change) → SoundDevices b → SoundDevices (changed b change)
changed-below b change h =
    record {
      tree = changed-sound b change h.tree;
      places = (h.places.0, changed-places h.places.0 b change (at_rest b h) h.places.1);
      lists = changed-lists h.places.0 b change (at_rest b h) h.places.1 h.lists;
    }

pub after-below : (b : Board) (changes : List Change) → SoundDevices b → SoundDevices (after_changes b changes)
after-below b [] h = h
after-below b (change ∷ changes) h = after-below (changed b change) changes (changed-below b change h)

pub opening-below : SoundDevices opening_board
opening-below = record { tree = (sound_kept_lem.run [], sound_kept_lem.run_aliases []); places = opening-places; lists = opening-lists }

pub lists_kept_lem : ListsKeptLaw
lists_kept_lem =
    record {
      opening = opening-lists;
      run = λ changes. (after-below opening_board changes opening-below).lists;
      change = λ b change h. (changed-below b change h).lists;
      attempt = attempt-lists;
      given_up = plug_attempt-lists;
      cut = cut_attempt-lists;
      asked_for = λ b id h. asked-lists h.places.0 b (at_rest b h) h.places.1 id h.lists;
      refused_by = refused-lists;
      read = read-lists;
      plugged = λ b a h. plugged-lists h.places.0 b (at_rest b h) h.places.1 a h.lists;
      detached = λ b d h e. detach-lists h.places.0 b d (at_rest b h) h.places.1 e h.lists;
    }
