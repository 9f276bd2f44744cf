-- What stands where the guest lets a device go.
use Rattle.std.proofs.Common.{◌≡◌, ap, ◌∙◌, ℕ, Bool, true, List, []}
use Rattle.qo_hotplug.specs.Hotplug.{Asked}
use Rattle.qo_model.specs.Board.{Board, Ring}
use Rattle.qo_model.specs.Hotplug.{completed}
use Rattle.qo_model.specs.Unplug.{detach}
use Rattle.qo_heap.specs.Board.{Shows}
use Rattle.qo_heap.specs.Objects.{Objects}
use Rattle.qo_heap.specs.Moments.{Timely}
use Rattle.qo_clocks.specs.Kept.{PeriodsKept}
use Rattle.qo_properties.specs.Claims.{KeepsBook}
use Rattle.qo_properties.specs.Pins.{OnlyRootPinned}
use Rattle.qo_reset.specs.Counts.{CountsKept}
use Rattle.qo_reset.specs.HoldList.{HoldList}
use Rattle.qo_sound.specs.DeviceScope.{DetachLeaves}
use Rattle.qo_sound.proofs.DeviceScopeLemmas.{devices_stay_lem}
use Rattle.qo_unplug.specs.BoardParts.{Beside}
use Rattle.qo_unplug.proofs.MomentLemmas.{times-timely}
use Rattle.qo_realize.specs.SoundBoard.{SoundBoard}
use Rattle.qo_kinds.specs.declared.kept_set.KeptSet.{KeptSet}
use Rattle.qo_sound_claims.proofs.StayLawLemmas.{claims_stay_lem}
use Rattle.qo_sound_devices.specs.SoundLists.{IsOn}
use Rattle.qo_sound_devices.proofs.DevicesLawLemmas.{removal-all}
use Rattle.qo_unplug.specs.Feeding.{MayDetach}
use Rattle.qo_unplug.specs.RealizedClaims.{KeepsDue}
use Rattle.qo_unplug.specs.Unrealizing.{KeepsHeld}
use Rattle.qo_realize.specs.BoardClaims.{KeepsClaims, claims_due}
use Rattle.qo_realize.proofs.ClaimsLemmas.{all-claims}
use Rattle.qo_realize.proofs.CountedLemmas.{detached-counts}
use Rattle.qo_realize.proofs.DueLemmas.{stay-due}
use Rattle.qo_realize.specs.Parts.{Parts, parts_of}
use Rattle.qo_realize.specs.Removals.{is_listed}
use Rattle.qo_realize.specs.Representation.{Stands, StandsForGood}
use Rattle.qo_realize.proofs.GoodBoardLemmas.{completed-good, good-pinned}

-- no timer of the heap is ahead of its time
pub timely-heap : (p : Parts) → StandsForGood p → Timely p.objects
timely-heap p (b, s, good) = times-timely b p.objects s.shows good.run.times

-- what is beside the heap is the board's
pub is_beside : (b : Board) (rings : List Ring) (anonymous : ℕ) (running : Bool) (holds : HoldList) (asked : Asked) (v : Objects)
    → Stands b (parts_of rings anonymous running holds asked v) → Beside b v holds.births asked
is_beside b rings anonymous running holds asked v s = record { shown = s.shows; holds = s.holds; pending = s.pending; notices = s.notices }

-- the board without the device stands
pub completed-stands : (b : Board) (n : ℕ) (rings : List Ring) (anonymous : ℕ) (running : Bool) (held holds : HoldList) (old new : Asked) (v w : Objects)
    → Stands b (parts_of rings anonymous running held old v) → Beside (detach b n) w holds.births new → KeepsBook v w
    → Stands (completed b n) (parts_of rings anonymous running holds new w)
completed-stands b n rings anonymous running held holds old new v w s beside keeps =
    let l : DetachLeaves b (detach b n) = devices_stay_lem.detached b n in
    record {
      shows = beside.shown;
      anonymous = l.anonymous ∙ s.anonymous;
      running = l.running ∙ s.running;
      holds = beside.holds;
      pending = beside.pending;
      notices = beside.notices;
      rings = l.rings ∙ s.rings;
      book = keeps [] s.book;
    }

-- a device of a sound board whose removal is pending may be detached
pub may-detach : (b : Board) (n : ℕ) (v : Objects) → SoundBoard b → is_listed n b.pending ≡ true → PeriodsKept v → MayDetach b n v
may-detach b n v good pending periods =
    record {
      devices = good.run.devices;
      clocks = good.run.clocks;
      sources = good.sources;
      stood = (removal-all (IsOn b) b.pending good.run.devices.lists.pending n pending).0;
      kept = periods;
    }

pub completed-sound : (n : ℕ) (rings : List Ring) (anonymous : ℕ) (running : Bool) (held holds : HoldList) (old new : Asked) (v w : Objects)
    → is_listed n old.pending ≡ true → StandsForGood (parts_of rings anonymous running held old v) → PeriodsKept v
    → ((b : Board) → MayDetach b n v → Beside b v held.births old → Beside (detach b n) w holds.births new) → KeepsBook v w
    → OnlyRootPinned w × StandsForGood (parts_of rings anonymous running holds new w)
completed-sound n rings anonymous running held holds old new v w pending (b, s, good) periods detaches keeps =
    let may : MayDetach b n v = may-detach b n v good (ap (is_listed n) s.pending ∙ pending) periods in
    let after : SoundBoard (completed b n) = completed-good b n (ap (is_listed n) s.pending ∙ pending) good in
    let stands : Stands (completed b n) (parts_of rings anonymous running holds new w) = completed-stands b n rings anonymous running held holds old new v w s
    (detaches b may (is_beside b rings anonymous running held old v s)) keeps in
    good-pinned (completed b n) (parts_of rings anonymous running holds new w) stands after

-- and what is kept of holds is right
pub completed-counts : (n : ℕ) (rings : List Ring) (anonymous : ℕ) (running : Bool) (held holds : HoldList) (old new : Asked) (v w : Objects)
    → is_listed n old.pending ≡ true → StandsForGood (parts_of rings anonymous running held old v) → PeriodsKept v
    → ((b : Board) → MayDetach b n v → Beside b v held.births old → Beside (detach b n) w holds.births new)
    → ((b : Board) → MayDetach b n v → Shows b v → Shows (detach b n) w)
    → ((b : Board) → MayDetach b n v → Shows b v → (m : ℕ) (was : ℕ × ℕ) → KeepsHeld m was b v → KeepsHeld m was (detach b n) w)
    → CountsKept held.births v → CountsKept holds.births w
completed-counts n rings anonymous running held holds old new v w pending (b, s, good) periods detaches seen keeps kept =
    let beside : Beside b v held.births old = is_beside b rings anonymous running held old v s in
    let may : MayDetach b n v = may-detach b n v good (ap (is_listed n) s.pending ∙ pending) periods in
    let after : Beside (detach b n) w holds.births new = detaches b may beside in
    detached-counts b n held.births holds.births v w good.run good.holds may.stood good.sources periods s.shows s.holds after.shown after.holds seen keeps kept

-- and of clocks
pub completed-periods : (n : ℕ) (rings : List Ring) (anonymous : ℕ) (running : Bool) (held : HoldList) (old : Asked) (v w : Objects)
    → is_listed n old.pending ≡ true → StandsForGood (parts_of rings anonymous running held old v) → PeriodsKept v
    → ((b : Board) → MayDetach b n v → Shows b v → PeriodsKept w) → PeriodsKept w
completed-periods n rings anonymous running held old v w pending (b, s, good) periods stay =
    stay b (may-detach b n v good (ap (is_listed n) s.pending ∙ pending) periods) s.shows

-- it keeps no claim any more, and the others theirs
pub completed-claims : (n : ℕ) (rings : List Ring) (anonymous : ℕ) (running : Bool) (held holds : HoldList) (old new : Asked) (v w : Objects)
    → is_listed n old.pending ≡ true → StandsForGood (parts_of rings anonymous running held old v) → PeriodsKept v
    → ((b : Board) → MayDetach b n v → Beside b v held.births old → Beside (detach b n) w holds.births new)
    → ((b : Board) → MayDetach b n v → Beside b v held.births old → (due : ℕ → KeptSet) → KeepsDue due b v → KeepsDue due (detach b n) w)
    → KeepsClaims v → KeepsClaims w
completed-claims n rings anonymous running held holds old new v w pending (b, s, good) periods detaches claims h =
    let beside : Beside b v held.births old = is_beside b rings anonymous running held old v s in
    let may : MayDetach b n v = may-detach b n v good (ap (is_listed n) s.pending ∙ pending) periods in
    all-claims (detach b n) w (detaches b may beside).shown
    (stay-due b (detach b n) w (claims_stay_lem.detached b n good.run.devices may.stood good.backends)
    (claims b may beside (claims_due b) (h b s.shows)))
