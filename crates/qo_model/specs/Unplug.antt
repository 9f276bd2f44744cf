-- Unplugging: a device is unrealized, with all that is below it, and let go (include/hw/qdev-core.h, "Realization" and `unparent`; include/hw/hotplug.h; the
-- order is the profile's).
use Rattle.std.specs.Prelude.{◌&&◌, ℕ, zero, suc, Bool, false, not, ◌==◌, List, [], ◌∷◌, filter, length, codes, Option, Some, None}
use Rattle.std.specs.Str.{bytes_eq}
use Rattle.qo_values.specs.declared.births.TheConstants.{ANONYMOUS_BIRTH, PERIPHERAL_BIRTH}
use Rattle.qo_values.specs.declared.kinds.Act.TheVariants.{Unrealize}
use Rattle.qo_values.specs.declared.properties.Val.{Val}
use Rattle.qo_values.specs.declared.properties.Val.TheVariants as val
use Rattle.qo_model.specs.Board.{Board, Notice, Slot, strong, weak, slots_at, slot_at, referent, Removal}
use Rattle.qo_model.specs.Changes.{cut, set, with_changed}
use Rattle.qo_model.specs.Clocks.{acted, device_period}
use Rattle.qo_model.specs.Depth.{by_objects}
use Rattle.qo_model.specs.Devices.{clock_name, bus_of, buses_of, clock_of, kids_of}
use Rattle.qo_model.specs.Objects.{index_from}
use Rattle.qo_model.specs.Paths.{births, is_child}
use Rattle.qo_model.specs.Release.{after, drop_slot, edit, finalize, let_go, pin, unpin}

-- lists of the board without what concerns n
abbrev pub without_all : ℕ → List ℕ → List ℕ
without_all n ms = filter (λ m. not (m == n)) ms

abbrev pub without_removal : ℕ → List Removal → List Removal
without_removal n rs = filter (λ (r : Removal). not (r.birth == n)) rs

abbrev pub unheld : ℕ → Board → Board
unheld n b = record b { holds = without_all n b.holds }

abbrev pub unnoticed : ℕ → Board → Board
unnoticed n b = record b { notices = filter (λ (x : Notice). not (x.birth == n)) b.notices; pending = without_removal n b.pending }

-- a plain slot of a name is set; another slot, and an object without such a slot, stay
abbrev pub is_named : List ℕ → List ℕ × Slot → Bool
is_named name s = bytes_eq s.0 name

abbrev pub set_named : ℕ → List ℕ → Val → Board → Board
set_named n name v b = elim (index_from (is_named name) 0 (slots_at b n)) [ None ↦ b | Some i ↦ set n i v b ]

-- the first slot of n that passes is let go
abbrev pub let_go_where : (List ℕ × Slot → Bool) → ℕ → Board → Board
let_go_where p n b = elim (index_from p 0 (slots_at b n)) [ None ↦ b | Some i ↦ let_go b n i ]

-- a weak link is emptied; any other slot stays
abbrev pub unseen : Slot → Slot
unseen (weak t target) = weak t None
unseen s = s

abbrev pub unseen_named : ℕ → List ℕ → Board → Board
unseen_named n name b = elim (index_from (is_named name) 0 (slots_at b n)) [ None ↦ b | Some i ↦ edit n (with_changed unseen i) b ]

-- a clock loses its source and stands still; nobody is called back
abbrev pub disconnected : Option ℕ → Board → Board
disconnected None b = b
disconnected (Some c) b = set_named c (codes "period") (val.Uint 0) (unseen_named c (codes "source") b)

-- the own step of a bus, and of a device
abbrev pub unrealized_bus : ℕ → Board → Board
unrealized_bus m b = unheld m (acted Unrealize m 0 b)

abbrev pub unrealized_device : ℕ → Board → Board
unrealized_device d b =
    unnoticed d (unheld d (set_named d (codes "realized") (val.Bool false) (disconnected (clock_of b d) (acted Unrealize d (device_period b d) b))))

-- each of some, in order
abbrev pub each : (ℕ → Board → Board) → List ℕ → Board → Board
each f [] b = b
each f (n ∷ ns) b = each f ns (f n b)

-- the kids of each bus, the bus, and then the device; kids and buses are those of the board before, which no step changes
abbrev pub unrealize_turn : Board → (ℕ → Board → Board) → ℕ → Board → Board
unrealize_turn b f d c = unrealized_device d (each (λ m. λ e. unrealized_bus m (each f (kids_of b m) e)) (buses_of b d) c)

unfoldable pub unrealize : Board → ℕ → Board
unrealize b d = by_objects (unrealize_turn b) (λ d c. c) (births b) d b

-- the first link that passes is let go and removed
abbrev pub take_slot : Board → ℕ → ℕ → Board
take_slot b n i = elim (slot_at b n i) [ None ↦ b | Some s ↦ after finalize (cut n i (drop_slot b n i)) (referent s) ]

abbrev pub take_where : (List ℕ × Slot → Bool) → ℕ → Board → Board
take_where p n b = elim (index_from p 0 (slots_at b n)) [ None ↦ b | Some i ↦ take_slot b n i ]

abbrev pub names_kid : ℕ → List ℕ × Slot → Bool
names_kid d (name, strong t (Some m)) = m == d
names_kid d s = false

abbrev pub is_child_slot : ℕ → List ℕ × Slot → Bool
is_child_slot d s = is_child d s.1

abbrev pub is_bus_child : ℕ → List ℕ × Slot → Bool
is_bus_child m s = is_child m s.1 && not (bytes_eq s.0 clock_name)

-- the first kid of a bus
abbrev pub first_of : List ℕ → Option ℕ
first_of [] = None
first_of (n ∷ ns) = Some n

-- at most so many times the first kid of a bus is detached, if there is one
abbrev pub drained : (ℕ → Board → Board) → ℕ → ℕ → Board → Board
drained f zero m b = b
drained f (suc times) m b = elim (first_of (kids_of b m)) [ None ↦ b | Some k ↦ drained f times m (f k b) ]

-- a bus of a device: its kids are detached, and it is let go
abbrev pub lost_bus : (ℕ → Board → Board) → ℕ → ℕ → Board → Board
lost_bus f d m b = let_go_where (is_bus_child m) d (drained f (length (slots_at b m)) m b)

-- at most so many times the first bus of a device is lost, if there is one
abbrev pub lost_buses : (ℕ → Board → Board) → ℕ → ℕ → Board → Board
lost_buses f zero d b = b
lost_buses f (suc times) d b = elim (first_of (buses_of b d)) [ None ↦ b | Some m ↦ lost_buses f times d (lost_bus f d m b) ]

-- a device leaves its bus; it leaves the container of devices that it is in
abbrev pub left_bus : ℕ → Board → Board
left_bus d b = elim (bus_of b d) [ None ↦ b | Some m ↦ let_go_where (is_named (codes "parent_bus")) d (take_where (names_kid d) m b) ]

abbrev pub left_parent : ℕ → Board → Board
left_parent d b = let_go_where (is_child_slot d) ANONYMOUS_BIRTH (let_go_where (is_child_slot d) PERIPHERAL_BIRTH b)

-- a device that is unrealized and held is taken out, with all that is below it
abbrev pub taken_by : (ℕ → Board → Board) → ℕ → Board → Board
taken_by f d b = left_parent d (left_bus d (lost_buses f (length (slots_at b d)) d b))

abbrev pub apart_turn : (ℕ → Board → Board) → ℕ → Board → Board
apart_turn f d b = unpin (taken_by f d (pin b d)) d

-- to a depth
unfoldable pub apart_within : ℕ → ℕ → Board → Board
apart_within zero d b = b
apart_within (suc depth) d b = apart_turn (apart_within depth) d b

-- a device is unrealized and taken out, while it is held
unfoldable pub detach : Board → ℕ → Board
detach b d = let c = unrealize (pin b d) d in unpin (taken_by (apart_within (length (births b))) d c) d
