-- Acts, phases and the reset of the whole board keep the tree, the places and the lists sound.
use Rattle.std.proofs.Common.{◌≡◌, refl, sym, ◌∙◌, ℕ, zero, suc, true, false, List, [], ◌∷◌, ◌++◌, filter, length, Option, Some, None, subst, arith, slice_get}
use Rattle.qo_model.proofs.Common.{AllByRecursion, MACHINE_BIRTH, Act, Hold, Exit, Board, acted, all_completed, completed, reset_whole, without_first, is_not_in_reset, phased, post, pulse, released, detach}
use Rattle.std.proofs.lemmas.Option.{same_Some}
use Rattle.qo_model.specs.Reset.{after_hold}
use Rattle.qo_model.specs.Board.{Removal}
use Rattle.qo_sound.proofs.CutLemmas.{near-beside}
use Rattle.qo_sound.proofs.FirmBoardLemmas.{WellFormed}
use Rattle.qo_sound.proofs.TreeKeptLemmas.{sound_kept_lem}
use Rattle.qo_sound.proofs.UnplugLemmas.{HasPins, held-acted}
use Rattle.qo_sound.proofs.ViewLemmas.{PinsRootAlone, rest-from_sound, sound-from_rest}
use Rattle.qo_sound.proofs.WorkLemmas.{InvariantBut}
use Rattle.qo_sound_devices.specs.SoundDevices.{SoundDevices}
use Rattle.qo_sound_devices.specs.SoundLists.{IsOn, SoundLists}
use Rattle.qo_sound_devices.specs.SoundPlaces.{PlacesBut, stands}
use Rattle.qo_sound_devices.proofs.DependenceLemmas.{beside-places}
use Rattle.qo_sound_devices.proofs.DetachmentLemmas.{detach-places}
use Rattle.qo_sound_devices.proofs.ListsLemmas.{lists-same}
use Rattle.qo_sound_devices.proofs.DepthLemmas.{moved-dimmed, stands-dimmed}
use Rattle.qo_sound_devices.proofs.RemovalLemmas.{places-moved}
use Rattle.qo_sound_devices.proofs.UnlistingLemmas.{detach-lists}
use Rattle.qo_sound_devices.proofs.UnrealizingLemmas.{Dims, dims-acted}
use Rattle.qo_values.specs.declared.kinds.ResetKind.{ResetKind}
use Rattle.qo_values.specs.declared.kinds.ResetKind.TheVariants.{Cold}
use Rattle.qo_values.specs.Kinds.{entering}

-- what changes nothing that places speak of keeps them
dims-places : (depth : ℕ → ℕ) (b c : Board) → WellFormed c → Dims b c → PlacesBut depth None (λ x. false) b → PlacesBut depth None (λ x. false) c
dims-places depth b c firm d h =
    places-moved b c depth None None (λ x. false) (λ x. false) (moved-dimmed depth None (λ x. false) b c firm h d.dimmed) h (λ x e k. k)
    (λ x there lit s. stands-dimmed b c d.dimmed x ∙ s)
    (λ x s k. d.same x ∙ h.each x (sym (stands-dimmed b c d.dimmed x) ∙ s) refl)

dims-on : (b c : Board) → Dims b c → (x : ℕ) → IsOn b x → IsOn c x
dims-on b c d x on = (stands-dimmed b c d.dimmed x ∙ on.0, d.same x ∙ on.1)

-- an act
acted-lists : (act : Act) (n period : ℕ) (b : Board) → SoundLists b → SoundLists (acted act n period b)
unfolding acted
acted-lists act n period b h = lists-same b (acted act n period b) refl refl (omega arith) (dims-on b (acted act n period b) (dims-acted act n period b)) h

pub acted-below : (act : Act) (n period : ℕ) (b : Board) → SoundDevices b → SoundDevices (acted act n period b)
acted-below act n period b h =
    record {
      tree = sound-from_rest (acted act n period b) (record { used = sits.near; pinned = sits.pins });
      places = (h.places.0, dims-places h.places.0 b (acted act n period b) sits.near.firm (dims-acted act n period b) h.places.1);
      lists = acted-lists act n period b h.lists;
    }
  where
    rest : PinsRootAlone b
    rest = rest-from_sound b h.tree

    sits : HasPins (1 ∷ []) (acted act n period b)
    sits = held-acted (1 ∷ []) act n period b (record { near = rest.used; pins = rest.pinned })

phased-below : (act : Act) (ns : List ℕ) (b : Board) → SoundDevices b → SoundDevices (phased act ns b)
phased-below act [] b h = h
phased-below act (n ∷ ns) b h = phased-below act ns (acted act n 0 b) (acted-below act n 0 b h)

-- a device that is detached
pub detached-below : (b : Board) (d : ℕ) → SoundDevices b → stands b d ≡ true → SoundDevices (detach b d)
detached-below b d h e =
    record {
      tree = sound_kept_lem.detached b d h.tree;
      places = (h.places.0, detach-places h.places.0 b d (rest-from_sound b h.tree) h.places.1 e);
      lists = detach-lists h.places.0 b d (rest-from_sound b h.tree) h.places.1 e h.lists;
    }

-- the removals that are pending come to their end
pub first-on : (P : ℕ → Type 0) (rs : List Removal) → AllByRecursion (λ (r : Removal). P r.birth) rs → (d : Removal) → slice_get rs 0 ≡ Some d → P d.birth
first-on P [] h d e = cc
first-on P (r ∷ rs) h d e = subst (λ (x : Removal). P x.birth) (same_Some r d e) h.0

completed-below : (times : ℕ) (b : Board) → SoundDevices b → SoundDevices (all_completed times b)
completed-below zero b h = h
completed-below (suc times) b h = go (slice_get b.pending 0) refl (completed-below times)
  where
    go : (o : Option Removal) → slice_get b.pending 0 ≡ o → ((c : Board) → SoundDevices c → SoundDevices (all_completed times c))
        → SoundDevices (all_completed (suc times) b)
    go None e rest = rw (all_completed, e) h
    go (Some d) e rest = rw (all_completed, e) (rest (completed b d.birth) (detached-below b d.birth h (first-on (IsOn b) b.pending h.lists.pending d e).0))

-- holds
holds-below : (b : Board) (holds : List ℕ) → SoundDevices b → SoundDevices (record b { holds = holds })
holds-below b holds h =
    record {
      tree = sound-from_rest (record b { holds = holds }) (record { used = near; pinned = rest.pinned });
      places = (h.places.0, beside-places h.places.0 None (λ x. false) b (record b { holds = holds }) rest.used.firm refl (omega arith) refl h.places.1);
      lists = lists-same b (record b { holds = holds }) refl refl (omega arith) (λ x on. on) h.lists;
    }
  where
    rest : PinsRootAlone b
    rest = rest-from_sound b h.tree

    near : InvariantBut None (record b { holds = holds })
    near = near-beside None b holds b.pending b.notices b.notes rest.used

pub held-below : (b : Board) (n : ℕ) (kind : ResetKind) → SoundDevices b → SoundDevices (after_hold b n kind)
unfolding after_hold
held-below b n kind h =
    holds-below _ (b.holds ++ n ∷ [])
    (phased-below Hold (filter (is_not_in_reset b) (post b n)) _ (phased-below (entering kind) (filter (is_not_in_reset b) (post b n)) b h))

pub released-below : (b : Board) (n : ℕ) → SoundDevices b → SoundDevices (released b n)
unfolding released
released-below b n h =
    let c : Board = record b { holds = without_first n b.holds } in
    phased-below Exit (filter (is_not_in_reset c) (post c n)) c (holds-below b (without_first n b.holds) h)

pub pulse-below : (b : Board) (n : ℕ) (kind : ResetKind) → SoundDevices b → SoundDevices (pulse b n kind)
unfolding pulse
pulse-below b n kind h = released-below (after_hold b n kind) n (held-below b n kind h)

pub reset-below : (b : Board) → SoundDevices b → SoundDevices (reset_whole b)
unfolding reset_whole
reset-below b h = pulse-below (all_completed (length b.pending) b) MACHINE_BIRTH Cold (completed-below (length b.pending) b h)
