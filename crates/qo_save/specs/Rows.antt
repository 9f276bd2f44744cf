-- For a law alone. The worked rows of descriptions.
use Rattle.std.specs.Prelude.{◌≡◌, List, [], ◌∷◌, ◌++◌, codes, Some, None, Ok, Err}
use Rattle.qo_values.specs.declared.codes.Code.TheVariants.{E36}
use Rattle.qo_values.specs.declared.properties.Val.TheVariants as val
use Rattle.qo_model.specs.Board.{Board}
use Rattle.qo_model.specs.Hotplug.{asked}
use Rattle.qo_model.specs.Opening.{opening_board}
use Rattle.qo_model.specs.Plug.{plug}
use Rattle.qo_save.specs.Described.{described}
use Rattle.qo_save.specs.Description.{ClockNumbers, Description, LinkItem, RingItem}
use Rattle.qo_save.specs.Like.{Like}
use Rattle.qo_save.specs.Rebuilding.{Step, add_ring, all_done, by_changed, by_plugged, rebuilt, set_link}

-- the opening board
abbrev pub clock_at_first : ClockNumbers
clock_at_first = record { div = 1; mul = 1; period = 42949672960 }

abbrev pub opening_row : Description
opening_row = record { clock = clock_at_first; clocks = []; devices = []; links = []; objects = []; rings = [] }

-- a ring, a UART that has claimed it, and a link of the UART to itself
abbrev pub ring_row : RingItem
ring_row = record { id = codes "r0"; size = 16 }

abbrev pub add_uart : Step
add_uart b =
    by_plugged (plug b (record { driver = codes "slot-uart"; id = Some (codes "u0"); bus = None; props = (codes "chardev", val.Text (codes "r0")) ∷ [] }))

abbrev pub peer_row : LinkItem
peer_row = record { path = codes "/machine/peripheral/u0"; property = codes "peer"; value = codes "/machine/peripheral/u0" }

abbrev pub uart_steps : List Step
uart_steps = add_ring ring_row ∷ add_uart ∷ set_link peer_row ∷ []

abbrev pub uart_row : Description
uart_row =
    record {
      clock = clock_at_first;
      clocks = [];
      devices =
          record { bus = codes "/machine/root.0"; driver = codes "slot-uart"; id = codes "u0"; props = (codes "chardev", val.Text (codes "r0")) ∷ []; slot = 0 }
          ∷ [];
      links = peer_row ∷ [];
      objects = [];
      rings = ring_row ∷ [];
    }

-- commands make a board of this description, which is rebuilt to one that is like it and has the same description
pub record ComesBack (steps : List Step) (d : Description) : Type 0 where
  pub board : Board
  pub made : all_done steps opening_board ≡ Ok board
  pub says : described board ≡ Some d
  pub again : Board
  pub remade : rebuilt d ≡ Ok again
  pub alike : Like board again
  pub same : described again ≡ Some d

-- a board that has no description
abbrev pub ask_removal : Step
ask_removal b = by_changed (asked b (codes "u0"))

pub record HasNone (steps : List Step) : Type 0 where
  pub board : Board
  pub made : all_done steps opening_board ≡ Ok board
  pub none : described board ≡ None

pub record RowsLaw : Type 0 where
  pub opening : ComesBack [] opening_row
  pub uart : ComesBack uart_steps uart_row
  -- without the ring its description is refused
  pub ringless : rebuilt (record uart_row { rings = [] }) ≡ Err E36
  -- and while the removal of the UART is pending it has none
  pub leaving : HasNone (uart_steps ++ ask_removal ∷ [])
