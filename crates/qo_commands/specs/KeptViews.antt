-- For proofs alone. The flat view that is kept beside a board is its own (docs/devel/memory.rst, "Visibility").
use Rattle.std.specs.Prelude.{Bool, true, false}
use Rattle.qo_guest.specs.declared.lines.GuestAct.{GuestAct}
use Rattle.qo_guest.specs.declared.lines.GuestAct.TheVariants.{Ack, Reset}
use Rattle.qo_layout.specs.Kept.{IsViewOf, Kept}
use Rattle.qo_model.specs.Board.{Board}
use Rattle.qo_realize.specs.Parts.{Parts}
use Rattle.qo_realize.specs.Representation.{Stands}
use Rattle.qo_requests.specs.declared.calls.Alteration.{Alteration}
use Rattle.qo_requests.specs.declared.calls.Alteration.TheVariants.{XGuest}

-- what is kept is of the view of each board that stands at these parts
unfoldable pub HasView : Parts → Kept → Type 0
HasView p kept = (b : Board) → Stands b p → IsViewOf b kept

-- whether an act of the guest leaves all objects where they are: it lets no device go
abbrev pub leaves_objects : GuestAct → Bool
leaves_objects (Ack at) = false
leaves_objects Reset = false
leaves_objects act = true

-- whether a command is a line of the guest
abbrev pub is_guest_line : Alteration → Bool
is_guest_line (XGuest line) = true
is_guest_line alteration = false
