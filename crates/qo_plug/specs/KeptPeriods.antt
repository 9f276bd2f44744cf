-- For proofs alone. The periods that are kept of clocks, while a device is added in stages.
use Rattle.std.specs.Prelude.{◌≡◌, ◌⊎◌, ◌==◌, ℕ, true, false, None, Some}
use Rattle.qo_slots.specs.declared.keys.Key.{Key}
use Rattle.qo_model.specs.Board.{Board, is_live}
use Rattle.qo_model.specs.Devices.{clock_of}
use Rattle.qo_model.specs.Plug.{source_for}
use Rattle.qo_object.specs.Content.{Content}
use Rattle.qo_heap.specs.Acts.{KeepsPeriods, clocked_in}
use Rattle.qo_heap.specs.Board.{Shows}
use Rattle.qo_heap.specs.Objects.{Objects, content_of}
use Rattle.qo_clocks.specs.Kept.{IsClocked}
use Rattle.qo_clocks.specs.Reads.{source_on}
use Rattle.qo_properties.specs.KeptPeriods.{PeriodsBefore}
use Rattle.qo_plug.specs.declared.placing.Plugging.{Plugging}
use Rattle.qo_plug.specs.declared.placing.Plugging.TheVariants.{Attached, NoticesFull}

-- the clock that the clock of a device on a bus goes by is there, whichever bus
abbrev pub SourcesThere : Board → Type 0
SourcesThere b = (bus : ℕ) → is_live b (source_for b bus) ≡ true

-- what is kept of a clock is right, where it goes by another
abbrev pub IsFed : Objects → ℕ → Type 0
IsFed w n = (source : Key) (c : Content) → source_on w n ≡ Some source → (source.birth == n) ≡ false → content_of w n ≡ Some c → IsClocked w n c

-- a clock was connected: what is kept of it is right, and of others the same as before
pub record ClockFed (n : ℕ) (v w : Objects) : Type 0 where
  pub others : (m : ℕ) → (m == n) ≡ false → clocked_in w m ≡ clocked_in v m
  pub its : IsFed w n

-- a device was placed: its clock, if it has one, was connected; or none was, since it stands nowhere
abbrev pub FedAs : ℕ → Plugging → Objects → Objects → Type 0
FedAs one (Attached path) v w =
    (x : Board) → Shows x w → ((n : ℕ) → clock_of x one ≡ Some n → ClockFed n v w) × (clock_of x one ≡ None → KeepsPeriods v w)
FedAs one (NoticesFull out) v w = PeriodsBefore v w

-- a device was plugged into a board: what is kept of its clock is right; of who else is there the periods were kept before, or it was not there, and none
-- are
pub record FedOrNew (c : Board) (one : ℕ) (v w : Objects) : Type 0 where
  pub others : (m : ℕ) (k : ℕ × ℕ) → (clock_of c one ≡ Some m → ⊥) → clocked_in w m ≡ Some k
      → (clocked_in v m ≡ Some k) ⊎ ((clocked_in v m ≡ None) × (k ≡ (0, 0)))
  pub its : (n : ℕ) → clock_of c one ≡ Some n → IsFed w n

-- so of a device that was begun, and then placed
abbrev pub PeriodsOrNew : Objects → Objects → Type 0
PeriodsOrNew v w = (m : ℕ) (k : ℕ × ℕ) → clocked_in w m ≡ Some k → (clocked_in v m ≡ Some k) ⊎ ((clocked_in v m ≡ None) × (k ≡ (0, 0)))

abbrev pub FedSoFar : ℕ → Plugging → Objects → Objects → Type 0
FedSoFar one (Attached path) v w = (x : Board) → Shows x w → FedOrNew x one v w
FedSoFar one (NoticesFull out) v w = PeriodsOrNew v w

-- a placed device was plugged into a board: its clock is the one that it had, and where what is kept of it was right, it is
pub record FedStays (c : Board) (one : ℕ) (v w : Objects) : Type 0 where
  pub clock : (b : Board) → Shows b v → clock_of c one ≡ clock_of b one
  pub its : (n : ℕ) → IsFed v n → IsFed w n
