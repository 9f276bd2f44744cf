-- The worked rows of descriptions, computed.
use Rattle.std.proofs.Common.{refl}
use lib.Count.{ones}
use Rattle.qo_values.specs.Placing.{least}
use Rattle.qo_model.specs.Changes.{add, point, set}
use Rattle.qo_model.specs.Clocks.{acted, clocks_below, period}
use Rattle.qo_model.specs.Devices.{depth_of, is_going}
use Rattle.qo_model.specs.Opening.{opening_board}
use Rattle.qo_model.specs.Paths.{attached, path_down_to}
use Rattle.qo_model.specs.Plug.{plug}
use Rattle.qo_model.specs.Release.{drop_slot}
use Rattle.qo_model.specs.Reset.{plugged, post}
use Rattle.qo_model.specs.Types.{types}
use Rattle.qo_save.specs.Described.{described}
use Rattle.qo_save.specs.Like.{preorder}
use Rattle.qo_save.specs.Rebuilding.{rebuilt}
use Rattle.qo_save.specs.Rows.{ComesBack, HasNone, RowsLaw, ask_removal, opening_row, uart_row, uart_steps}
use Rattle.std.specs.Prelude.{◌++◌, ◌∷◌, []}

opening : ComesBack [] opening_row
unfolding described rebuilt preorder types acted clocks_below period depth_of is_going attached path_down_to plug drop_slot post point set add opening_board ones plugged least
opening = record { board = opening_board; made = refl; says = refl; again = _; remade = refl; alike = record { tree = refl; rings = refl }; same = refl }

uart : ComesBack uart_steps uart_row
unfolding described rebuilt preorder types acted clocks_below period depth_of is_going attached path_down_to plug drop_slot post point set add opening_board ones plugged least
uart = record { board = _; made = refl; says = refl; again = _; remade = refl; alike = record { tree = refl; rings = refl }; same = refl }

leaving : HasNone (uart_steps ++ ask_removal ∷ [])
unfolding described rebuilt preorder types acted clocks_below period depth_of is_going attached path_down_to plug drop_slot post point set add opening_board ones plugged least
leaving = record { board = _; made = refl; none = refl }

pub rows_lem : RowsLaw
unfolding described rebuilt preorder types acted clocks_below period depth_of is_going attached path_down_to plug drop_slot post point set add opening_board ones plugged least
rows_lem = record { opening = opening; uart = uart; ringless = refl; leaving = leaving }
