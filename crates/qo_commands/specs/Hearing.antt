-- What a line of the guest does to the board, and what it is answered (docs/PROFILE.md, guest lines).
use Rattle.std.specs.Prelude.{◌≡◌, ℕ, Bool, true, false, not, ◌||◌, ◌==◌, if◌then◌else◌, List, [], ◌∷◌, codes, option_to_list, Option, Some, None}
use Rattle.qo_guest.specs.Lines.{guest_line}
use Rattle.qo_guest.specs.declared.answers.GuestAnswer.{GuestAnswer}
use Rattle.qo_guest.specs.declared.answers.GuestAnswer.TheVariants.{Fine, Plug, Unplug, NoNotice, Value, NoLine, NoStopped, NoAddress, NoDevice, NoPending, NoRegister}
use Rattle.qo_guest.specs.declared.lines.GuestAct.{GuestAct}
use Rattle.qo_guest.specs.declared.lines.GuestAct.TheVariants.{Ack, Nack, Poll, Read, Write, Peek, Poke, Irq, Reset as start_over, Shutdown as power_off}
use Rattle.qo_model.specs.Board.{Board, Notice, is_pending}
use Rattle.qo_model.specs.Hotplug.{completed, refused, reset_whole}
use Rattle.qo_model.specs.Paths.{is_of}
use Rattle.qo_layout.specs.Layout.{register_at}
use Rattle.qo_layout.specs.Lines.{irq_of}
use Rattle.qo_layout.specs.declared.addresses.TheConstants.{BOOT_LEAF}
use Rattle.qo_layout.specs.declared.views.RegisterPlace.{RegisterPlace}
use Rattle.qo_buses.specs.Addresses.{addressed}
use Rattle.qo_replies.specs.declared.events.Event.{Event}
use Rattle.qo_replies.specs.declared.events.Event.TheVariants.{Reset, Shutdown}
use Rattle.qo_realize.specs.Guest.{address_of, first_notice, polled}
use Rattle.qo_realize.specs.Parts.{Parts}
use Rattle.qo_realize.specs.Registers.{guest_read, guest_written}
use Rattle.qo_realize.specs.Representation.{Stands}
use Rattle.qo_commands.specs.declared.hearing.Heard.{Heard}

-- what a line comes to: its answer, the board after it, its own events, and whether it ends the run
pub record Outcome : Type 0 where
  pub answer : GuestAnswer
  pub board : Board
  pub events : List Event
  pub ends : Bool

-- an answer that leaves the board
abbrev pub answered : Board → GuestAnswer → Outcome
answered b answer = record { answer = answer; board = b; events = []; ends = false }

-- it is done, and this is the board then
abbrev pub fine : Board → Outcome
fine b = answered b Fine

-- of a device whose removal is pending
abbrev pub if_pending : Board → ℕ → Board → Outcome
if_pending b d after = if is_pending b d then fine after else answered b NoPending

-- the guest lets a device go, or refuses to
abbrev pub acked : Board → Option ℕ → Outcome
acked b None = answered b NoDevice
acked b (Some d) = if_pending b d (completed b d)

abbrev pub nacked : Board → Option ℕ → Outcome
nacked b None = answered b NoDevice
nacked b (Some d) = if_pending b d (refused b d)

-- what the guest is told by a notice
abbrev pub notice_answer : Board → Option Notice → GuestAnswer
notice_answer b None = NoNotice
notice_answer b (Some notice) = if notice.plug then Plug (address_of b notice.birth) else Unplug (address_of b notice.birth)

-- it takes the notice that has waited longest
abbrev pub polled_by : Board → Outcome
polled_by b = answered (polled b) (notice_answer b (first_notice b))

-- it reads a register of a device
abbrev pub value_answer : Option ℕ → GuestAnswer
value_answer None = NoRegister
value_answer (Some value) = Value value

abbrev pub read_by : Board → ℕ → Option ℕ → Outcome
read_by b reg None = answered b NoDevice
read_by b reg (Some d) = answered b (value_answer (guest_read b d reg))

-- or writes one
abbrev pub if_written : Board → Option Board → Outcome
if_written b None = answered b NoRegister
if_written b (Some after) = fine after

abbrev pub written_by : Board → ℕ → ℕ → Option ℕ → Outcome
written_by b reg value None = answered b NoDevice
written_by b reg value (Some d) = if_written b (guest_written b d reg value)

-- neither what a board boots from nor memory has registers, whatever those are that say where a DIMM stands
abbrev pub has_registers : Board → ℕ → Bool
has_registers b d = not (d == BOOT_LEAF || is_of b (codes "mem-dimm") d)

-- it reads the register that shows at a hardware address, if one does
abbrev pub peeked : Board → Option RegisterPlace → Outcome
peeked b None = answered b NoAddress
peeked b (Some place) = if has_registers b place.device then read_by b place.register (Some place.device) else answered b NoRegister

-- or writes it
abbrev pub poked : Board → ℕ → Option RegisterPlace → Outcome
poked b value None = answered b NoAddress
poked b value (Some place) =
    if has_registers b place.device then written_by b place.register value (Some place.device) else answered b NoRegister

-- it reads the interrupt lines of the devices in the slots of the root bus
abbrev pub irq_by : Board → Outcome
irq_by b = answered b (Value (irq_of b))

-- it resets the whole board, and sessions are told that it did
abbrev pub reset_by : Board → Outcome
reset_by b = record { answer = Fine; board = reset_whole b; events = Reset true ∷ []; ends = false }

-- it ends the run
abbrev pub shut_down : Board → Outcome
shut_down b = record { answer = Fine; board = b; events = Shutdown true ∷ []; ends = true }

-- what an act of the guest comes to where the machine runs
abbrev pub acted : Board → GuestAct → Outcome
acted b (Ack at) = acked b (addressed b at)
acted b (Nack at) = nacked b (addressed b at)
acted b Poll = polled_by b
acted b (Read at reg) = read_by b reg (addressed b at)
acted b (Write at reg value) = written_by b reg value (addressed b at)
acted b (Peek at) = peeked b (register_at b at)
acted b (Poke at value) = poked b value (register_at b at)
acted b Irq = irq_by b
acted b start_over = reset_by b
acted b power_off = shut_down b

-- what a line comes to, without its line end
abbrev pub heard_act : Board → Option GuestAct → Outcome
heard_act b None = answered b NoLine
heard_act b (Some act) = if b.running then acted b act else answered b NoStopped

unfoldable pub heard : Board → List ℕ → Outcome
heard b line = heard_act b (guest_line line)

-- the outcome that the code tells, where this board stands after it
abbrev pub outcome_of : Board → Heard → Outcome
outcome_of b h = record { answer = h.answer; board = b; events = option_to_list h.event; ends = h.ends }

-- a line came to what is defined, but for the events on devices that wait
abbrev pub Came : Outcome → Heard → Parts → Type 0
Came outcome h p = Stands outcome.board p × (outcome_of outcome.board h ≡ outcome)
