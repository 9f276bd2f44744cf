-- When what clocks go by is sound (docs/devel/clocks.rst, "Connecting two clocks together"; which are connected is the profile's).
use Rattle.std.specs.Prelude.{◌≡◌, ℕ, true, Some}
use Rattle.qo_values.specs.declared.births.TheConstants.{SYSTEM_CLOCK_BIRTH}
use Rattle.qo_values.specs.declared.kinds.TypeId.TheVariants.{Clock}
use Rattle.qo_model.specs.Board.{Board, kind_of}
use Rattle.qo_model.specs.Clocks.{source_of}
use Rattle.qo_model.specs.Devices.{bus_of, clock_of, is_realized}
use Rattle.qo_model.specs.Plug.{source_for}

-- a clock is that of a realized device
pub record IsDeviceClock (b : Board) (c : ℕ) : Type 0 where
  pub device : ℕ
  pub realized : is_realized b device ≡ true
  pub its : clock_of b device ≡ Some c

-- what clocks go by is sound
pub record SoundSources (b : Board) : Type 0 where
  -- the clock of a realized device goes by that of the bridge whose bus the device is on, or by the system's
  pub fed : (d bus c : ℕ) → is_realized b d ≡ true → bus_of b d ≡ Some bus → clock_of b d ≡ Some c → source_of b c ≡ Some (source_for b bus)
  -- and no other clock goes by one
  pub only : (c s : ℕ) → source_of b c ≡ Some s → IsDeviceClock b c
  -- the clock of a realized device is a clock, and so is the system's
  pub clocks : (d c : ℕ) → is_realized b d ≡ true → clock_of b d ≡ Some c → kind_of b c ≡ Some Clock
  pub system : kind_of b SYSTEM_CLOCK_BIRTH ≡ Some Clock
