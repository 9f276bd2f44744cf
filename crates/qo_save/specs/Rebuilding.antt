-- How a board is rebuilt of its description: by commands on the opening board (the profile's).
use Rattle.std.specs.Prelude.{ℕ, not, if◌then◌else◌, List, [], ◌∷◌, ◌++◌, drop, map, codes, Option, Some, None, option_map, Result, Ok, Err}
use Rattle.std.specs.Cmp.Lexicographic.{slice_cmp}
use Rattle.std.specs.List.{flat_map}
use Rattle.std.specs.Ordering.{match_ordering, nat_cmp}
use Rattle.qo_values.specs.Ids.{is_id}
use Rattle.qo_values.specs.Rings.{is_ring_size}
use Rattle.qo_values.specs.declared.codes.Code.{Code}
use Rattle.qo_values.specs.declared.codes.Code.TheVariants.{E23, E24, E51}
use Rattle.qo_values.specs.declared.properties.Val.TheVariants as val
use Rattle.qo_model.specs.Access.{write_at}
use Rattle.qo_model.specs.Board.{Board}
use Rattle.qo_model.specs.Objects.{Changed, Given, object_add}
use Rattle.qo_model.specs.Opening.{opening_board}
use Rattle.qo_model.specs.Plug.{has_ring, plug, Plugged, Wanted}
use Rattle.qo_save.specs.Description.{ClockItem, ClockNumbers, Description, DeviceItem, LinkItem, ObjectItem, RingItem}
use Rattle.qo_save.specs.Shape.{description_from}

-- a command: what it makes of a board, or the code that refuses it
abbrev pub Step : Type 0
Step = Board → Result Board Code

-- one after another, up to the first that is refused
abbrev pub all_done : List Step → Step
all_done [] b = Ok b
all_done (step ∷ steps) b = elim (step b) [ Ok c ↦ all_done steps c | Err code ↦ Err code ]

-- a number of a clock is written (`qom-set`)
abbrev pub set_number : List ℕ → List ℕ → ℕ → Step
set_number path name n b = write_at b path name (val.Uint n)

-- those of the system clock, and how another divides and multiplies; the divider comes first, so that no period is too long on the way
abbrev pub clock_steps : ClockNumbers → List Step
clock_steps c =
    let path = codes "/machine/sysclk" in
    set_number path (codes "div") c.div ∷ set_number path (codes "period") c.period ∷ set_number path (codes "mul") c.mul ∷ []

abbrev pub factor_steps : ClockItem → List Step
factor_steps c = set_number c.path (codes "div") c.div ∷ set_number c.path (codes "mul") c.mul ∷ []

-- a ring is added (`chardev-add`)
abbrev pub ring_barred : Board → RingItem → Option Code
ring_barred b r = if not (is_id r.id) then Some E23 else if has_ring b r.id then Some E24 else if not (is_ring_size r.size) then Some E51 else None

abbrev pub add_ring : RingItem → Step
add_ring r b =
    elim (ring_barred b r) [ Some code ↦ Err code | None ↦ Ok (record b { rings = b.rings ++ record { id = r.id; size = r.size; bytes = [] } ∷ [] }) ]

-- an object is added (`object-add`)
abbrev pub by_changed : Changed → Result Board Code
by_changed change = elim change.refusal [ Some code ↦ Err code | None ↦ Ok change.board ]

abbrev pub add_object : ObjectItem → Step
add_object o b = by_changed (object_add b o.kind o.id o.props)

-- a device is added (`device_add`), with its slot among its properties, which stand in byte order; and the guest takes the notice of it
abbrev pub with_slot : ℕ → List Given → List Given
with_slot slot [] = (codes "slot", val.Uint slot) ∷ []
with_slot slot (p ∷ props) =
    match_ordering (slice_cmp nat_cmp (codes "slot") p.0) ((codes "slot", val.Uint slot) ∷ p ∷ props) ((codes "slot", val.Uint slot) ∷ props)
    (p ∷ with_slot slot props)

abbrev pub wanted_by : DeviceItem → Wanted
wanted_by d = record { driver = d.driver; id = Some d.id; bus = Some d.bus; props = with_slot d.slot d.props }

abbrev pub by_plugged : Plugged → Result Board Code
by_plugged add = elim add.refusal [ Some refusal ↦ Err refusal.1 | None ↦ Ok (record add.board { notices = drop 1 add.board.notices }) ]

abbrev pub add_device : DeviceItem → Step
add_device d b = by_plugged (plug b (wanted_by d))

-- a link is written (`qom-set`)
abbrev pub set_link : LinkItem → Step
set_link l b = write_at b l.path l.property (val.Text l.value)

-- the board of a description, or the first code that refuses it
abbrev pub steps_of : Description → List Step
steps_of d =
    clock_steps d.clock ++ map add_ring d.rings ++ map add_object d.objects ++ map add_device d.devices ++ flat_map factor_steps d.clocks
    ++ map set_link d.links

unfoldable pub rebuilt : Description → Result Board Code
rebuilt d = all_done (steps_of d) opening_board

-- what a text is rebuilt to; nothing where it is no description
abbrev pub rebuilt_from : List ℕ → Option (Result Board Code)
rebuilt_from text = option_map rebuilt (description_from text)
