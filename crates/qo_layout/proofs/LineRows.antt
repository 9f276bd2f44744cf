-- The lines of a board with a UART in slot 0 of the root bus and a bridge in slot 1, and a timer in slot 0 behind it, worked out. The timer counts down from 1
-- since the moment 0, with a tick each 10 ns.
use Rattle.std.proofs.Common.{◌≡◌, refl, ℕ, Bool, true, false, [], ◌∷◌, Some, None, codes}
use Rattle.qo_values.specs.Registers.{bare, bridge, timer, uart}
use Rattle.qo_values.specs.declared.kinds.TypeId.TheVariants.{Clock, Device, SlotBridge, SlotBus, SlotTimer, SlotUart}
use Rattle.qo_values.specs.declared.properties.Val.TheVariants.{Uint}
use Rattle.qo_model.specs.Board.{Board, child, plain, strong}
use Rattle.qo_model.specs.Clocks.{period}
use Rattle.qo_model.specs.Devices.{kid_name}
use Rattle.qo_model.specs.Opening.{opening_board}
use Rattle.qo_model.specs.Types.{types}
use Rattle.qo_layout.specs.Lines.{irq_of, line}

-- SCRATCH of the UART, whether bit 0 of the bridge's CTRL is raised, and the virtual time
abbrev board : ℕ → Bool → ℕ → Board
board scratch raised now = record opening_board {
  now = now;
  records =
      record {
        birth = 6;
        kind = SlotBus;
        slots = (kid_name 0, strong Device (Some 9)) ∷ (kid_name 1, strong Device (Some 10)) ∷ [];
        registers = bare;
        device_id = None;
        kept_path = None;
      }
      ∷ record {
        birth = 9;
        kind = SlotUart;
        slots = [];
        registers = uart (record { ready = true; divisor = 1; scratch = scratch; sent = 0; holds = 1 });
        device_id = None;
        kept_path = None;
      }
      ∷ record {
        birth = 10;
        kind = SlotBridge;
        slots = (codes "bus", child 11) ∷ [];
        registers = bridge (record { raised = raised; holds = 1 });
        device_id = None;
        kept_path = None;
      }
      ∷ record { birth = 11; kind = SlotBus; slots = (kid_name 0, strong Device (Some 12)) ∷ []; registers = bare; device_id = None; kept_path = None }
      ∷ record {
        birth = 12;
        kind = SlotTimer;
        slots = (codes "clk", child 13) ∷ [];
        registers = timer (record { enabled = true; reload = 1; done = 0; began = Some 0; last = 0; holds = 1 });
        device_id = None;
        kept_path = None;
      }
      ∷ record { birth = 13; kind = Clock; slots = (codes "period", plain (Uint 42949672960)) ∷ []; registers = bare; device_id = None; kept_path = None }
      ∷ [];
}

-- the UART asks where its SCRATCH is not 0
pub quiet-row : irq_of (board 0 false 0) ≡ 0
unfolding line period types
quiet-row = refl

pub uart-row : irq_of (board 1 false 0) ≡ 1
unfolding line period types
uart-row = refl

-- the timer asks where it has counted down to 0, and goes on
pub timer-row : irq_of (board 1 false 10) ≡ 3
unfolding line period types
timer-row = refl

pub later-row : irq_of (board 1 false 20) ≡ 1
unfolding line period types
later-row = refl

-- a bridge whose bit is raised hides it
pub hidden-row : irq_of (board 1 true 10) ≡ 1
unfolding line period types
hidden-row = refl

-- no device is there at the beginning
pub opening-row : irq_of opening_board ≡ 0
unfolding line opening_board types
opening-row = refl
