-- The law: what writes of clocks keep beside the clocks.
use Rattle.std.proofs.Common.{◌≡◌, refl, sym, ◌∙◌, ℕ, false, [], ◌∷◌, Option, Some, None, arith}
use Rattle.qo_model.proofs.Common.{Act, Board, slots_at, set, acted, period, index_from, is_named, set_named}
use Rattle.qo_values.specs.declared.properties.Val.TheVariants as val
use Rattle.qo_sound.specs.TreeKept.{SoundTree}
use Rattle.qo_sound.proofs.UnplugLemmas.{held-acted, held-set, HasPins}
use Rattle.qo_sound.proofs.ViewLemmas.{PinsRootAlone, rest-from_sound, sound-from_rest}
use Rattle.qo_sound_devices.specs.SoundDevices.{SoundDevices}
use Rattle.qo_sound_devices.specs.SoundLists.{IsOn, SoundLists}
use Rattle.qo_sound_devices.specs.SoundPlaces.{PlacesBut}
use Rattle.qo_sound_devices.proofs.ListsLemmas.{lists-same}
use Rattle.qo_sound_devices.proofs.DepthLemmas.{moved-dimmed, stands-dimmed}
use Rattle.qo_sound_devices.proofs.RemovalLemmas.{places-moved}
use Rattle.qo_sound_devices.proofs.ResetLemmas.{acted-below}
use Rattle.qo_sound_devices.proofs.UnrealizingLemmas.{Dims, dims-set}
use Rattle.qo_sound_clocks.specs.ClockWrites.{WritesKeepLaw}
use Rattle.qo_sound_clocks.proofs.NotesLemmas.{scaled-notes, set-notes}
use Rattle.qo_sound_clocks.proofs.StepsLemmas.{kept-scaled, kept-set, KeepsNumbers, calls-kept}

-- the tree

sits-sound : (c : Board) → HasPins (1 ∷ []) c → SoundTree c
sits-sound c h = sound-from_rest c (record { used = h.near; pinned = h.pins })

sits-from : (c : Board) → SoundTree c → HasPins (1 ∷ []) c
sits-from c h = let rest : PinsRootAlone c = rest-from_sound c h in record { near = rest.used; pins = rest.pinned }

tree-acted : (act : Act) (n period : ℕ) (b : Board) → SoundTree b → SoundTree (acted act n period b)
tree-acted act n period b h = sits-sound (acted act n period b) (held-acted (1 ∷ []) act n period b (sits-from b h))

tree-set : KeepsNumbers SoundTree
tree-set name no_slot no_mark n v b h =
    sits-sound (set_named n name (val.Uint v) b) (held-set (1 ∷ []) n name (val.Uint v) b (sits-from b h))

-- where devices stand

devices-set : KeepsNumbers SoundDevices
unfolding set
devices-set name no_slot no_mark n v b h =
    record {
      tree = sits-sound c sits;
      places = (h.places.0, places);
      lists = lists;
    }
  where
    c : Board
    c = set_named n name (val.Uint v) b

    sits : HasPins (1 ∷ []) c
    sits = held-set (1 ∷ []) n name (val.Uint v) b (sits-from b h.tree)

    d : Dims b c
    d = dims-set n name (val.Uint v) no_slot no_mark b

    places : PlacesBut h.places.0 None (λ x. false) c
    places =
        places-moved b c h.places.0 None None (λ x. false) (λ x. false)
        (moved-dimmed h.places.0 None (λ x. false) b c sits.near.firm h.places.1 d.dimmed) h.places.1 (λ x e k. k)
        (λ x there lit s. stands-dimmed b c d.dimmed x ∙ s)
        (λ x s k. d.same x ∙ h.places.1.each x (sym (stands-dimmed b c d.dimmed x) ∙ s) refl)

    on : (x : ℕ) → IsOn b x → IsOn c x
    on x k = (stands-dimmed b c d.dimmed x ∙ k.0, d.same x ∙ k.1)

    lists : SoundLists c
    lists = go (index_from (is_named name) 0 (slots_at b n)) refl
      where
        go : (o : Option ℕ) → index_from (is_named name) 0 (slots_at b n) ≡ o → SoundLists c
        go None e = lists-same b c (rw (set_named, e) refl) (rw (set_named, e) refl) (rw (set_named, e) (omega arith)) on h.lists
        go (Some i) e = lists-same b c (rw (set_named, e) refl) (rw (set_named, e) refl) (rw (set_named, e) (omega arith)) on h.lists

pub writes_keep_lem : WritesKeepLaw
writes_keep_lem =
    record {
      set_tree = kept-set SoundTree (calls-kept SoundTree tree-acted) tree-set;
      scaled_tree = kept-scaled SoundTree (calls-kept SoundTree tree-acted) tree-set;
      set_devices = kept-set SoundDevices (calls-kept SoundDevices acted-below) devices-set;
      scaled_devices = kept-scaled SoundDevices (calls-kept SoundDevices acted-below) devices-set;
      set_notes = set-notes;
      scaled_notes = scaled-notes;
    }
