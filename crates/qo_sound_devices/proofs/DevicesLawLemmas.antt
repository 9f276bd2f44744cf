-- The law: what keeps a board sound as far as devices go.
use Rattle.std.proofs.Common.{◌≡◌, refl, ℕ, Bool, true, false, List, [], ◌∷◌, arith, subst, ◌==◌}
use Rattle.qo_model.proofs.Common.{TypeId, Board, Notice, opening_board, Wanted, cut_attempt, plug}
use Rattle.std.specs.List.{AllByRecursion, list_any}
use Rattle.std.proofs.lemmas.Bool.{eqb-true}
use Rattle.qo_model.specs.Board.{Removal, is_pending, is_of_device}
use Rattle.qo_sound.proofs.TreeKeptLemmas.{sound_kept_lem}
use Rattle.qo_sound.proofs.ViewLemmas.{rest-from_sound}
use Rattle.qo_sound_devices.specs.DeviceRuns.{DeviceStep, commands, adds, cuts, asks, refuses, lets_go, reads, acts, holds, releases, resets, sends, after_steps, notice_read, stepped}
use Rattle.qo_sound_devices.specs.DevicesKept.{DevicesKeptLaw}
use Rattle.qo_sound_devices.specs.SoundDevices.{SoundDevices}
use Rattle.qo_sound_devices.specs.SoundLists.{IsOn}
use Rattle.qo_sound_devices.proofs.ListsKeptLemmas.{cut_attempt-lists, plugged-lists}
use Rattle.qo_sound_devices.proofs.ListsLawLemmas.{changed-below, opening-below}
use Rattle.qo_sound_devices.proofs.PlugLemmas.{cut_attempt-places}
use Rattle.qo_sound_devices.proofs.PlugStageLemmas.{plugged-places}
use Rattle.qo_sound_devices.proofs.ResetLemmas.{acted-below, detached-below, held-below, pulse-below, released-below, reset-below}
use Rattle.qo_sound_devices.proofs.EqualObjectLemmas.{asked-below, attempt-below, given_up-below, read-below, refused-below, same-below}

plugged-below : (b : Board) (a : Wanted) → SoundDevices b → SoundDevices (plug b a).board
plugged-below b a h =
    record {
      tree = sound_kept_lem.plugged b a h.tree;
      places = plugged-places h.places.0 b a (rest-from_sound b h.tree) h.places.1;
      lists = plugged-lists h.places.0 b (rest-from_sound b h.tree) h.places.1 a h.lists;
    }

cut-below : (b : Board) (t : TypeId) (i : ℕ) (joined : Bool) → SoundDevices b → SoundDevices (cut_attempt b t i joined)
cut-below b t i joined h =
    record {
      tree = sound_kept_lem.cut b t i joined h.tree;
      places = (h.places.0, cut_attempt-places h.places.0 b t i joined (rest-from_sound b h.tree) h.places.1);
      lists = cut_attempt-lists b t i joined h.lists;
    }

pub removal-all : (P : ℕ → Type 0) (rs : List Removal) → AllByRecursion (λ (r : Removal). P r.birth) rs → (d : ℕ) → list_any (is_of_device d) rs ≡ true → P d
removal-all P [] h d e = absurd (let clash : false ≡ true = e in cc)
removal-all P (r ∷ rs) h d e = go (r.birth == d) refl (removal-all P rs h.1 d)
  where
    go : (t : Bool) → (r.birth == d) ≡ t → (list_any (is_of_device d) rs ≡ true → P d) → P d
    go true p rest = subst P (eqb-true r.birth d p) h.0
    go false p rest = rest (rw p at e)

-- a device is let go whose removal is pending
let_go-below : (b : Board) (d : ℕ) → SoundDevices b → SoundDevices (stepped b (lets_go d))
let_go-below b d h = go (is_pending b d) refl
  where
    go : (t : Bool) → is_pending b d ≡ t → SoundDevices (stepped b (lets_go d))
    go true e = rw (stepped, e) (detached-below b d h (removal-all (IsOn b) b.pending h.lists.pending d e).0)
    go false e = rw (stepped, e) h

-- the first notice is read
notice_read-below : (b : Board) → SoundDevices b → SoundDevices (notice_read b)
notice_read-below b h = go b.notices refl
  where
    go : (xs : List Notice) → b.notices ≡ xs → SoundDevices (notice_read b)
    go [] e = rw (notice_read, e) h
    go (notice ∷ others) e = rw (notice_read, e) (read-below b notice others e h)

pub stepped-below : (b : Board) (step : DeviceStep) → SoundDevices b → SoundDevices (stepped b step)
stepped-below b (commands change) h = changed-below b change h
stepped-below b (adds a) h = plugged-below b a h
stepped-below b (cuts t i joined) h = cut-below b t i joined h
stepped-below b (asks id) h = asked-below b id h
stepped-below b (refuses d) h = refused-below b d h
stepped-below b (lets_go d) h = let_go-below b d h
stepped-below b reads h = notice_read-below b h
stepped-below b (acts act n period) h = acted-below act n period b h
stepped-below b (holds n kind) h = held-below b n kind h
stepped-below b (releases n) h = released-below b n h
stepped-below b resets h = reset-below b h
stepped-below b sends h = same-below b (record b { events = [] }) refl refl refl refl refl refl (omega arith) h

steps-below : (b : Board) (steps : List DeviceStep) → SoundDevices b → SoundDevices (after_steps b steps)
steps-below b [] h = h
steps-below b (step ∷ steps) h = steps-below (stepped b step) steps (stepped-below b step h)

pub devices_kept_lem : DevicesKeptLaw
devices_kept_lem =
    record {
      opening = opening-below;
      run = λ steps. steps-below opening_board steps opening-below;
      change = changed-below;
      attempt = attempt-below;
      given_up = given_up-below;
      asked_for = asked-below;
      refused_by = refused-below;
      read = read-below;
      beside = same-below;
      plugged = plugged-below;
      cut = cut-below;
      detached = detached-below;
      acts = acted-below;
      held_so = held-below;
      released_so = released-below;
      pulsed = pulse-below;
      reset = reset-below;
    }
