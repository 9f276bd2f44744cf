-- For laws alone. What lines say of a board, and when they are those of another.
use Rattle.std.specs.Prelude.{◌≡◌, ℕ}
use Rattle.qo_values.specs.declared.births.TheConstants.{ROOT_BUS_BIRTH}
use Rattle.qo_heap.specs.Board.{Shows}
use Rattle.qo_heap.specs.Objects.{Objects}
use Rattle.qo_irq.specs.Wires.{line_level}
use Rattle.qo_layout.specs.Layout.{mapped}
use Rattle.qo_model.specs.Board.{Board}
use Rattle.qo_model.specs.Devices.{kid_at}
use Rattle.qo_model.specs.Reset.{below}
use Rattle.qo_sound_clocks.specs.SoundTimes.{SoundTimes}
use Rattle.qo_sound_devices.specs.SoundDevices.{SoundDevices}
use Rattle.qo_layout.specs.Lines.{line, line_turn}
use Rattle.qo_layout.specs.Registers.{AreTimely, registers_at}
use Rattle.qo_layout.specs.Rows.{AreShaped, HasRow, LinesAre, Wired, wiring}

-- on a board whose places are sound the line of each object is what its registers make of the lines of all that is below it
abbrev pub TurnsLaw : Type 0
TurnsLaw = (b : Board) → SoundDevices b → (o : ℕ) → line b o ≡ line_turn b (line b) o

-- and the level of each line of a net is the line of the object that it stands for
abbrev pub LinesLaw : Type 0
LinesLaw = (b : Board) → SoundDevices b → (l : Wired) → LinesAre b l → (o n : ℕ) → HasRow l.rows o n → line_level l.wires n ≡ line b o

-- the same objects are below the buses of two boards, with bodies whose lines are driven in the same way
pub record SameDevices (b c : Board) : Type 0 where
  pub objects : mapped b ≡ mapped c
  pub below_it : (o : ℕ) → below b o ≡ below c o
  pub slots : (n : ℕ) → kid_at b ROOT_BUS_BIRTH n ≡ kid_at c ROOT_BUS_BIRTH n
  pub bodies : (o : ℕ) → wiring (registers_at b o) ≡ wiring (registers_at c o)

-- a heap is timely where it shows a board whose moments are sound
abbrev pub TimelyLaw : Type 0
TimelyLaw = (b : Board) (v : Objects) → Shows b v → SoundTimes b → AreTimely v

pub record SameLinesLaw : Type 0 where
  -- lines that were made for the one are made for the other
  pub made : (b c : Board) → SameDevices b c → (l : Wired) → AreShaped b l → AreShaped c l
  -- so it is where no object changes, as where time goes on
  pub beside : (b c : Board) → b.records ≡ c.records → SameDevices b c
