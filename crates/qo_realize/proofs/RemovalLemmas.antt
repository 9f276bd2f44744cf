-- What stands where the removal of a device is asked for, and where the guest refuses one or takes a notice.
use Rattle.std.proofs.Common.{◌≡◌, ◌≤◌, refl, ap, sym, subst, ◌∙◌, ℕ, Bool, true, false, List, ◌∷◌, length, Result, Ok, Err, OnErr, inl, inr, arith}
use Rattle.std.specs.Cmp.{nat_eq_equiv}
use Rattle.std.specs.List.{AllByRecursion, IsDistinct}
use Rattle.std.specs.Prelude.{drop}
use Rattle.std.proofs.lemmas.List.{length-map}
use Rattle.std.proofs.lemmas.Map.Made.{length-le_from_is_member}
use Rattle.qo_values.specs.declared.codes.Code.{Code}
use Rattle.qo_hotplug.specs.Hotplug as hotplug
use Rattle.qo_hotplug.specs.Hotplug.{Asked}
use Rattle.qo_slots.specs.declared.keys.Key.{Key}
use Rattle.qo_heap.specs.Rows.{IsLive}
use Rattle.qo_model.specs.Board.{Board, Notice, Record, Removal, Ring, is_live, is_pending}
use Rattle.qo_model.specs.Depth.{among}
use Rattle.qo_model.specs.Objects.{Changed}
use Rattle.qo_model.specs.Paths.{births}
use Rattle.qo_model.proofs.AmongLemmas.{among-all, among-apart}
use Rattle.qo_model.proofs.StepLemmas.{live-among}
use Rattle.qo_heap.specs.Board.{Shows}
use Rattle.qo_heap.specs.Objects.{Objects}
use Rattle.qo_heap.proofs.BoardReads.{shows-live_key}
use Rattle.qo_reset.specs.HoldList.{HoldList}
use Rattle.qo_sound.proofs.RecordLemmas.{all-map}
use Rattle.qo_sound.proofs.ViewLemmas.{rest-from_sound}
use Rattle.qo_sound_devices.specs.SoundLists.{IsOn, births_of}
use Rattle.qo_sound_devices.proofs.ListsKeptLemmas.{new-birth}
use Rattle.qo_sound_devices.proofs.PlacesLemmas.{stands-live}
use Rattle.qo_realize.specs.Answers.{IsAnswered}
use Rattle.qo_realize.specs.SoundBoard.{SoundBoard}
use Rattle.qo_realize.specs.Guest.{polled}
use Rattle.qo_realize.specs.Parts.{Parts, parts_of}
use Rattle.qo_realize.specs.Removals.{Asks, HasRoom, IsAsked, with_asked}
use Rattle.qo_realize.specs.Representation.{Stands, StandsForGood}

-- the board with other removals and notices
with_asked-shows : (b : Board) (h : Asked) (v : Objects) → Shows b v → Shows (with_asked b h) v
with_asked-shows b h v s = record { records = s.records; born = s.born; pins = s.pins; notes = s.notes; events = s.events; now = s.now }

with_asked-stands : (b : Board) (rings : List Ring) (anonymous : ℕ) (running : Bool) (holds : HoldList) (old new : Asked) (v : Objects)
    → Stands b (parts_of rings anonymous running holds old v) → Stands (with_asked b new) (parts_of rings anonymous running holds new v)
with_asked-stands b rings anonymous running holds old new v s =
    record {
      shows = with_asked-shows b new v s.shows;
      anonymous = s.anonymous;
      running = s.running;
      holds = s.holds;
      pending = refl;
      notices = refl;
      rings = s.rings;
      book = s.book;
    }

-- what is asked for is the board's
pub is_asked : (b : Board) (rings : List Ring) (anonymous : ℕ) (running : Bool) (holds : HoldList) (asked : Asked) (v : Objects)
    → Stands b (parts_of rings anonymous running holds asked v) → IsAsked b asked
is_asked b rings anonymous running holds asked v s = record { pending = s.pending; notices = s.notices }

pub asks-sound : (b : Board) (rings : List Ring) (anonymous : ℕ) (running : Bool) (holds : HoldList) (old new : Asked) (v : Objects)
    (change : Changed) (result : Result Unit Code)
    → Stands b (parts_of rings anonymous running holds old v) → SoundBoard b → SoundBoard change.board → Asks b change result new → OnErr result (new ≡ old)
    → StandsForGood (parts_of rings anonymous running holds new v)
asks-sound b rings anonymous running holds old new v change (Ok u) s sound after is same =
    (with_asked b new, with_asked-stands b rings anonymous running holds old new v s, subst SoundBoard (ap (λ (c : Changed). c.board) is) after)
asks-sound b rings anonymous running holds old new v change (Err e) s sound after is same =
    (b, subst (λ (h : Asked). Stands b (parts_of rings anonymous running holds h v)) (sym same) s, sound)

pub asks-answer : (b : Board) (rings : List Ring) (anonymous : ℕ) (running : Bool) (holds : HoldList) (old new : Asked) (v : Objects)
    (change : Changed) (result : Result Unit Code)
    → Stands b (parts_of rings anonymous running holds old v) → Asks b change result new → OnErr result (new ≡ old)
    → IsAnswered change result (parts_of rings anonymous running holds new v)
asks-answer b rings anonymous running holds old new v change (Ok u) s is same =
    record {
      refusal = ap (λ (c : Changed). c.refusal) is;
      board =
          subst (λ (c : Changed). Stands c.board (parts_of rings anonymous running holds new v)) (sym is)
          (with_asked-stands b rings anonymous running holds old new v s);
    }
asks-answer b rings anonymous running holds old new v change (Err code) s is same =
    record {
      refusal = ap (λ (c : Changed). c.refusal) is;
      board =
          subst (λ (c : Changed). Stands c.board (parts_of rings anonymous running holds new v)) (sym is)
          (subst (λ (h : Asked). Stands b (parts_of rings anonymous running holds h v)) (sym same) s);
    }

-- there is room for the removal of an object that is there: each that is pending is there, and none twice
asking-room : (b : Board) (d : ℕ) → SoundBoard b → is_live b d ≡ true → HasRoom b.pending d
unfolding IsDistinct
asking-room b d good live = by (is_pending b d) refl
  where
    devices : List ℕ
    devices = births_of b.pending

    on : AllByRecursion (λ n. among (births b) n ≡ true) devices
    on =
        all-map (λ (r : Removal). IsOn b r.birth) (λ n. among (births b) n ≡ true) (λ (r : Removal). r.birth)
        (λ r on. sym (live-among b r.birth) ∙ stands-live b (rest-from_sound b good.run.devices.tree).used.firm r.birth on.0) b.pending
        good.run.devices.lists.pending

    by : (t : Bool) → is_pending b d ≡ t → HasRoom b.pending d
    by true e = inl e
    by false e =
        let few : length (d ∷ devices) ≤ length (births b) =
        length-le_from_is_member nat_eq_equiv (d ∷ devices) (births b) (among-apart d devices (new-birth b.pending d e), good.run.devices.lists.once)
        (among-all (λ n. among (births b) n ≡ true) (d ∷ devices) (sym (live-among b d) ∙ live, on)) in
        let same : length devices ≡ length b.pending = length-map b.pending (λ (r : Removal). r.birth) in
        let all : length (births b) ≡ length b.records = length-map b.records (λ (r : Record). r.birth) in
        inr (omega (arith, few, same, all, good.bounds.room))

pub has-room : (p : Parts) → StandsForGood p → (o : Key) → IsLive p.objects.rows o → HasRoom p.pending o.birth
has-room p (b, s, good) o live =
    subst (λ (pending : List Removal). HasRoom pending o.birth) s.pending (asking-room b o.birth good (shows-live_key b p.objects s.shows o live))

-- a notice was taken
pub polled-stands : (b : Board) (rings : List Ring) (anonymous : ℕ) (running : Bool) (holds : HoldList) (old : Asked) (v : Objects)
    → Stands b (parts_of rings anonymous running holds old v) → Stands (polled b) (parts_of rings anonymous running holds (hotplug.after_first old) v)
polled-stands b rings anonymous running holds old v s =
    record {
      shows = record { records = s.shows.records; born = s.shows.born; pins = s.shows.pins; notes = s.shows.notes; events = s.shows.events; now = s.shows.now };
      anonymous = s.anonymous;
      running = s.running;
      holds = s.holds;
      pending = s.pending;
      notices = ap (λ (ns : List Notice). drop 1 ns) s.notices;
      rings = s.rings;
      book = s.book;
    }
