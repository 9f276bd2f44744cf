-- A device that is detached, and the reset of the whole board, keep the shape.
use Rattle.std.proofs.Common.{◌≡◌, inl, refl, ap, ◌∙◌, ℕ, zero, suc, true, false, List, length, codes, Option, Some, None, option_map, slice_get}
use Rattle.qo_model.proofs.Common.{AllByRecursion, MACHINE_BIRTH, Board, Record, Slot, kind_of, all_completed, completed, reset_whole, is_of, detach}
use Rattle.qo_model.specs.Board.{Removal}
use Rattle.qo_model.proofs.StepLemmas.{found-birth}
use Rattle.qo_sound.proofs.FirmBoardLemmas.{Linked}
use Rattle.qo_sound.proofs.SearchLemmas.{all-found}
use Rattle.qo_sound.proofs.ViewLemmas.{rest-from_sound}
use Rattle.qo_sound_devices.specs.SoundDevices.{SoundDevices}
use Rattle.qo_sound_devices.specs.SoundLists.{IsOn}
use Rattle.qo_sound_devices.specs.SoundPlaces.{stands}
use Rattle.qo_sound_devices.proofs.PlugLemmas.{stands-device}
use Rattle.qo_sound_devices.proofs.ResetLemmas.{detached-below, first-on}
use Rattle.qo_sound_shapes.specs.SoundShape.{SoundShape}
use Rattle.qo_sound_shapes.proofs.BoardLemmas.{all-imply_of, AllOf, good-all, shape-all}
use Rattle.qo_sound_shapes.proofs.CommandLemmas.{live-devices}
use Rattle.qo_sound_shapes.proofs.CommandTypeLemmas.{detached-typed}
use Rattle.qo_sound_shapes.proofs.DetachmentLemmas.{Kinded, keeps-detach}
use Rattle.qo_sound_shapes.proofs.ShapeLemmas.{Good}
use Rattle.qo_sound_shapes.proofs.QuietChangeLemmas.{pulse-shape}
use Rattle.qo_sound_shapes.proofs.ChildLemmas.{stays, whole-stays}
use Rattle.qo_values.specs.declared.kinds.ResetKind.TheVariants.{Cold}

-- on a board that is sound as far as devices go
keeps-all : (b : Board) → SoundDevices b → SoundShape b → AllOf (Kinded (kind_of b)) b
keeps-all b devices h x r e =
    record {
      good = good-all b h x r e;
      linked =
          all-found (λ (y : Record). AllByRecursion (λ (s : List ℕ × Slot). Linked (kind_of b) s.1) y.slots) x b.records
          (rest-from_sound b devices.tree).used.firm.linked r e;
      kind = ap (kind_of b) (found-birth x b.records r e) ∙ ap (option_map (λ (y : Record). y.kind)) e;
    }

pub detach-shape : (b : Board) (d : ℕ) → SoundDevices b → stands b d ≡ true → SoundShape b → SoundShape (detach b d)
detach-shape b d devices e h =
    shape-all (detach b d) (live-devices (detach b d) (detached-below b d devices e))
    (whole-stays b (detach b d) (good-all b h) good (λ x k. inl (stays b d devices e x k)) is-device h.whole)
    (detached-typed b d devices e h.children) good
  where
    is-device : (x : ℕ) → stands b x ≡ true → is_of b (codes "device") x ≡ true
    is-device x k = stands-device devices.places.0 None (λ y. false) b devices.places.1 x k

    good : AllOf Good (detach b d)
    good = all-imply_of (Kinded (kind_of b)) Good (λ r k. k.good) (detach b d) (keeps-detach (kind_of b) b d (is-device d e) (keeps-all b devices h))

-- the reset of the whole board

completed-shape : (times : ℕ) (b : Board) → SoundDevices b → SoundShape b → SoundShape (all_completed times b)
completed-shape zero b devices h = h
completed-shape (suc times) b devices h = go (slice_get b.pending 0) refl (completed-shape times)
  where
    go : (o : Option Removal) → slice_get b.pending 0 ≡ o → ((c : Board) → SoundDevices c → SoundShape c → SoundShape (all_completed times c))
        → SoundShape (all_completed (suc times) b)
    go None e rest = rw (all_completed, e) h
    go (Some d) e rest =
        let there : stands b d.birth ≡ true = (first-on (IsOn b) b.pending devices.lists.pending d e).0 in
        rw (all_completed, e) (rest (completed b d.birth) (detached-below b d.birth devices there) (detach-shape b d.birth devices there h))

pub reset-shape : (b : Board) → SoundDevices b → SoundShape b → SoundShape (reset_whole b)
unfolding reset_whole
reset-shape b devices h = pulse-shape (all_completed (length b.pending) b) MACHINE_BIRTH Cold (completed-shape (length b.pending) b devices h)
