-- Rings by command (QEMU's QAPI, `chardev-add`, `chardev-remove`, `ringbuf-read` and `ringbuf-write`; the refusals and their order are the profile's).
use Rattle.std.specs.Prelude.{◌≡◌, ℕ, not, if◌then◌else◌, List, [], ◌∷◌, ◌++◌, codes, Option, Some, None, unwrap_or, Result, Ok, Err, ⊤}
use Rattle.std.specs.List.{list_any}
use Rattle.std.specs.Str.{bytes_eq}
use Rattle.qo_values.specs.Ids.{is_id}
use Rattle.qo_values.specs.Rings.{is_ring_size, ring_add, ring_drop, ring_oldest}
use Rattle.qo_values.specs.declared.codes.Code.{Code}
use Rattle.qo_values.specs.declared.codes.Code.TheVariants.{E19, E20, E23, E24, E36, E37, E51, E52}
use Rattle.qo_values.specs.declared.forms.Form.{Form}
use Rattle.qo_values.specs.declared.forms.Form.TheVariants.{Utf8}
use Rattle.qo_chardev.specs.Texts.{encoded}
use Rattle.qo_model.specs.Board.{Board, Ring}
use Rattle.qo_model.specs.Objects.{Changed}
use Rattle.qo_model.specs.Plug.{claims_ring, has_ring}
use Rattle.qo_chardev.specs.Rings.{bytes_in, given_bytes, new_ring, ring_changed, ring_named, without_ring}
use Rattle.qo_chardev.specs.declared.rings.TheConstants.{RING_SIZE_DEFAULT}
use Rattle.qo_properties.specs.declared.refusals.Refusal.{Refusal}
use Rattle.qo_properties.specs.declared.refusals.Refusal.TheVariants.{Refused, Memory}
use Rattle.qo_realize.specs.Parts.{Parts}
use Rattle.qo_realize.specs.Representation.{Stands}

-- a board with other rings, and one that refuses
abbrev pub with_rings : List Ring → Board → Board
with_rings rings b = record b { rings = rings }

abbrev pub by_code : Board → Board → Option Code → Changed
by_code b c None = record { refusal = None; board = c }
by_code b c (Some code) = record { refusal = Some code; board = b }

-- why no ring is added, if it is not: its type is no `ringbuf`, or its id is none, or taken, or its size none of a ring
abbrev pub chardev_barred : Board → List ℕ → List ℕ → ℕ → Option Code
chardev_barred b id kind size =
    if not (bytes_eq kind (codes "ringbuf")) then Some E20
    else if not (is_id id) then Some E23
    else if has_ring b id then Some E24
    else if not (is_ring_size size) then Some E51
    else None

-- a ring more, without bytes
abbrev pub ring_added : Board → List ℕ → List ℕ → ℕ → Changed
ring_added b id kind size = by_code b (with_rings (b.rings ++ new_ring id size ∷ []) b) (chardev_barred b id kind size)

abbrev pub chardev_added : Board → List ℕ → List ℕ → Option ℕ → Changed
chardev_added b id kind size = ring_added b id kind (unwrap_or size RING_SIZE_DEFAULT)

-- a ring less, which no UART has claimed
abbrev pub removal_barred : Board → List ℕ → Option Code
removal_barred b id = if not (has_ring b id) then Some E36 else if list_any (claims_ring b id) b.records then Some E37 else None

abbrev pub chardev_removed : Board → List ℕ → Changed
chardev_removed b id = by_code b (with_rings (without_ring id b.rings) b) (removal_barred b id)

-- what reading a ring comes to: the text, or the code that refuses it; and the board after it
pub record Reading : Type 0 where
  pub text : Result (List ℕ) Code
  pub board : Board

-- its oldest bytes, at most so many, are told and taken
abbrev pub taken_as : Board → List ℕ → ℕ → Option (List ℕ) → Reading
taken_as b id most None = record { text = Err E52; board = b }
taken_as b id most (Some text) = record { text = Ok text; board = with_rings (ring_changed (λ m. ring_drop m most) id b.rings) b }

abbrev pub ring_read : Board → List ℕ → ℕ → Form → Reading
ring_read b id most form =
    elim (ring_named id b.rings) [ None ↦ record { text = Err E36; board = b } | Some r ↦ taken_as b id most (encoded form (ring_oldest (bytes_in r) most)) ]

abbrev pub ringbuf_read : Board → List ℕ → ℕ → Option Form → Reading
ringbuf_read b id most form = ring_read b id most (unwrap_or form Utf8)

-- bytes go after those of a ring
abbrev pub written_as : Board → List ℕ → Option (List ℕ) → Changed
written_as b id None = record { refusal = Some E19; board = b }
written_as b id (Some bytes) = record { refusal = None; board = with_rings (ring_changed (λ m. ring_add m bytes) id b.rings) b }

abbrev pub ring_written : Board → List ℕ → List ℕ → Form → Changed
ring_written b id text form =
    elim (ring_named id b.rings) [ None ↦ record { refusal = Some E36; board = b } | Some r ↦ written_as b id (given_bytes form text) ]

abbrev pub ringbuf_written : Board → List ℕ → List ℕ → Option Form → Changed
ringbuf_written b id text form = ring_written b id text (unwrap_or form Utf8)

-- a ring was read as is defined; or the reading is refused by its code, which leaves the board; there may be want of memory
abbrev pub ReadsRing : Reading → Result (List ℕ) Refusal → Parts → Type 0
ReadsRing reading (Ok text) p = (reading.text ≡ Ok text) × Stands reading.board p
ReadsRing reading (Err (Refused code)) p = (reading.text ≡ Err code) × Stands reading.board p
ReadsRing reading (Err Memory) p = ⊤

-- the same of the rings alone: they are those of the change's board, or it is refused
abbrev pub ChangesRings : Board → Changed → Result (Unit {0}) Refusal → List Ring → Type 0
ChangesRings b change (Ok done) rings = change ≡ by_code b (with_rings rings b) None
ChangesRings b change (Err (Refused code)) rings = change ≡ by_code b b (Some code)
ChangesRings b change (Err Memory) rings = ⊤

abbrev pub AnswersRings : Board → Changed → Result (Unit {0}) Code → List Ring → Type 0
AnswersRings b change (Ok done) rings = change ≡ by_code b (with_rings rings b) None
AnswersRings b change (Err code) rings = change ≡ by_code b b (Some code)

abbrev pub TakesRing : Board → Reading → Result (List ℕ) Refusal → List Ring → Type 0
TakesRing b reading (Ok text) rings = reading ≡ record { text = Ok text; board = with_rings rings b }
TakesRing b reading (Err (Refused code)) rings = reading ≡ record { text = Err code; board = b }
TakesRing b reading (Err Memory) rings = ⊤
