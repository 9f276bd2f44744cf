-- Another moment, and a machine that stands still or runs again: the board of that stands, and it is sound.
use Rattle.std.proofs.Common.{◌≡◌, ◌≤◌, ◌+◌, ℕ, Bool, true, false, None, Some, arith, if◌then◌else◌, refl, subst, sym, List}
use Rattle.std.specs.Prelude.{nat_lt}
use Rattle.qo_values.specs.declared.limits.TheConstants.{TIME_MAX}
use Rattle.qo_model.specs.Board.{Board, Ring}
use Rattle.qo_heap.specs.Objects.{Objects}
use Rattle.qo_hotplug.specs.Hotplug.{Asked}
use Rattle.qo_reset.specs.HoldList.{HoldList}
use Rattle.qo_realize.specs.Parts.{parts_of}
use Rattle.qo_realize.specs.Representation.{Stands, StandsForGood}
use Rattle.qo_realize.specs.Time.{at_time, with_running}
use Rattle.qo_realize.proofs.GoodBoardLemmas.{switched-good, timed-good}

-- the heap's time is the board's
pub timed-stands : (b : Board) (rings : List Ring) (anonymous : ℕ) (running : Bool) (holds : HoldList) (asked : Asked) (v : Objects) (time : ℕ)
    → Stands b (parts_of rings anonymous running holds asked v)
    → Stands (at_time time b) (parts_of rings anonymous running holds asked (record v { time = time }))
timed-stands b rings anonymous running holds asked v time s =
    record {
      shows = record { records = s.shows.records; born = s.shows.born; pins = s.shows.pins; notes = s.shows.notes; events = s.shows.events; now = refl };
      anonymous = s.anonymous;
      running = s.running;
      holds = s.holds;
      pending = s.pending;
      notices = s.notices;
      rings = s.rings;
      book = s.book;
    }

-- the moment that is told for later is no earlier, and no later than the greatest
pub later-is : (now ns time : ℕ) → Some time ≡ (if nat_lt TIME_MAX (now + ns) then None else Some (now + ns)) → (now ≤ time) × (time ≤ TIME_MAX)
later-is now ns time is = go (nat_lt TIME_MAX (now + ns)) refl
  where
    go : (past : Bool) → nat_lt TIME_MAX (now + ns) ≡ past → (now ≤ time) × (time ≤ TIME_MAX)
    go true e = absurd (let clash : Some time ≡ None = rw e at is in cc)
    go false e =
        let same : Some time ≡ Some (now + ns) = rw e at is in
        let its : time ≡ now + ns = cc in
        let low : now + ns ≤ TIME_MAX = grind (arith, e) in
        (omega (arith, its), subst (λ (n : ℕ). n ≤ TIME_MAX) (sym its) low)

pub timed-for-good : (rings : List Ring) (anonymous : ℕ) (running : Bool) (holds : HoldList) (asked : Asked) (v : Objects) (time : ℕ) → v.time ≤ time
    → time ≤ TIME_MAX → StandsForGood (parts_of rings anonymous running holds asked v)
    → StandsForGood (parts_of rings anonymous running holds asked (record v { time = time }))
timed-for-good rings anonymous running holds asked v time on low (b, s, good) = (
  at_time time b,
  timed-stands b rings anonymous running holds asked v time s,
  timed-good b time (subst (λ (now : ℕ). now ≤ time) (sym s.shows.now) on) low good,
)

-- it runs, or stands still
pub switched-stands : (b : Board) (rings : List Ring) (anonymous : ℕ) (was on : Bool) (holds : HoldList) (asked : Asked) (v : Objects)
    → Stands b (parts_of rings anonymous was holds asked v) → Stands (with_running on b) (parts_of rings anonymous on holds asked v)
switched-stands b rings anonymous was on holds asked v s =
    record {
      shows = record { records = s.shows.records; born = s.shows.born; pins = s.shows.pins; notes = s.shows.notes; events = s.shows.events; now = s.shows.now };
      anonymous = s.anonymous;
      running = refl;
      holds = s.holds;
      pending = s.pending;
      notices = s.notices;
      rings = s.rings;
      book = s.book;
    }

pub switched-for-good : (rings : List Ring) (anonymous : ℕ) (was on : Bool) (holds : HoldList) (asked : Asked) (v : Objects)
    → StandsForGood (parts_of rings anonymous was holds asked v) → StandsForGood (parts_of rings anonymous on holds asked v)
switched-for-good rings anonymous was on holds asked v (b, s, good) =
    (with_running on b, switched-stands b rings anonymous was on holds asked v s, switched-good b on good)
