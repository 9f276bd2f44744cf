-- Worked rows: what the rows of types and the opening board give, by computing.
use Rattle.std.proofs.Common.{rules, ◌≡◌, refl, ℕ, zero, suc, List, [], ◌∷◌, ◌++◌, length, map, filter, codes}
use Rattle.qo_model.proofs.Common.{bytes_eq, type_name, TypeId, Object, Container, Device, SlotDevice, SlotUart, SlotBridge, MemDimm, SlotBus, Clock, MemoryBackend, MemoryBackendRam, Tag, Board, listing, opening_board, opening_records, fresh_record, slots_with, canonical, path_down_to, attached, resolve_absolute, components, walk, refs, TypeInfo, type_named, types, chain, is_a, slots_of, inits, finals, property_name}
use Rattle.qo_model.specs.declared.properties.Property.{Property}
use Rattle.std.proofs.Common.{true, false, not, ◌&&◌, if◌then◌else◌, Option, Some, None, option_map}
use Rattle.qo_values.proofs.EachLemmas.{each}

-- chains, and what is of which name
chain-of-uart : chain SlotUart ≡ SlotUart ∷ SlotDevice ∷ Device ∷ Object ∷ []
unfolding types
chain-of-uart = refl

-- a chain by names: the row of a name, that of its parent's name, and so on
abbrev chain_named : ℕ → List ℕ → List TypeId
chain_named zero name = []
chain_named (suc steps) name =
    elim (type_named name) [
      | None ↦ []
      | Some row ↦ row.id ∷ elim (option_map type_name row.parent) [ None ↦ [] | Some parent ↦ chain_named steps parent ]
    ]

chains-by-names : (t : TypeId) → chain_named (length types) (type_name t) ≡ chain t
unfolding types
chains-by-names = each (λ (t : TypeId). chain_named (length types) (type_name t) ≡ chain t) (search rules)

bridge-is-resettable : is_a SlotBridge (codes "resettable") ≡ true
unfolding types
bridge-is-resettable = refl

bus-is-no-device : is_a SlotBus (codes "device") ≡ false
unfolding types
bus-is-no-device = refl

slots-of-uart : map (λ (p : Property). property_name p.name) (slots_of SlotUart)
    ≡ codes "type" ∷ codes "realized" ∷ codes "parent_bus" ∷ codes "slot" ∷ codes "peer" ∷ codes "watch"
    ∷ codes "clk" ∷ codes "clock-period" ∷ codes "chardev" ∷ []
unfolding types
slots-of-uart = refl

inits-of-uart : inits SlotUart ≡ Device ∷ SlotDevice ∷ SlotUart ∷ []
unfolding types
inits-of-uart = refl

finals-of-backend : finals MemoryBackendRam ≡ MemoryBackendRam ∷ MemoryBackend ∷ []
unfolding types
finals-of-backend = refl

finals-of-container : finals Container ≡ []
unfolding types
finals-of-container = refl

inits-of-dimm : inits MemDimm ≡ Device ∷ MemDimm ∷ []
unfolding types
inits-of-dimm = refl

finals-of-uart : finals SlotUart ≡ SlotUart ∷ SlotDevice ∷ Device ∷ []
unfolding types
finals-of-uart = refl

creatable : map (λ (r : TypeInfo). r.id) (filter (λ r. is_a r.id (codes "user-creatable") && not r.is_abstract) types) ≡ MemoryBackendRam ∷ Tag ∷ []
unfolding types
creatable = refl

-- paths on the opening board
components-of-path : components (codes "//machine/sysclk/") ≡ codes "machine" ∷ codes "sysclk" ∷ []
components-of-path = refl

clock-found : resolve_absolute opening_board (codes "//machine/sysclk") (codes "clock") ≡ Some 5
unfolding types opening_board
clock-found = refl

machine-found : resolve_absolute opening_board (codes "/machine/") (codes "resettable") ≡ Some 2
unfolding types opening_board
machine-found = refl

root-found : resolve_absolute opening_board (codes "/") (codes "container") ≡ Some 1
unfolding types opening_board
root-found = refl

nowhere-missed : resolve_absolute opening_board (codes "/nowhere") (codes "object") ≡ None
unfolding types opening_board
nowhere-missed = refl

bus-of-another-type : resolve_absolute opening_board (codes "/machine/mem.0") (codes "slot-bus") ≡ None
unfolding types opening_board
bus-of-another-type = refl

relative-missed : resolve_absolute opening_board (codes "machine") (codes "object") ≡ None
unfolding types opening_board
relative-missed = refl

path-of-clock : canonical opening_board 5 ≡ Some (codes "/machine/sysclk")
unfolding types opening_board path_down_to
path-of-clock = refl

no-path-of-nine : canonical opening_board 9 ≡ None
unfolding types opening_board path_down_to
no-path-of-nine = refl

clock-attached : attached opening_board 5 ≡ true
unfolding types opening_board attached
clock-attached = refl

-- what `qom-list` says of the clock and of the machine
listing-of-clock :
    listing opening_board 5
    ≡ (codes "type", codes "string")
    ∷ (codes "period", codes "uint64")
    ∷ (codes "mul", codes "uint64")
    ∷ (codes "div", codes "uint64")
    ∷ (codes "source", codes "link<clock>")
    ∷ []
unfolding types opening_board
listing-of-clock = refl

listing-of-machine :
    listing opening_board 2
    ≡ (codes "type", codes "string")
    ∷ (codes "peripheral", codes "child<container>")
    ∷ (codes "peripheral-anon", codes "child<container>")
    ∷ (codes "sysclk", codes "child<clock>")
    ∷ (codes "root.0", codes "child<slot-bus>")
    ∷ (codes "mem.0", codes "child<mem-bus>")
    ∷ []
unfolding types opening_board
listing-of-machine = refl

listing-of-root :
    listing opening_board 1
    ≡ (codes "type", codes "string")
    ∷ (codes "machine", codes "child<machine>")
    ∷ (codes "objects", codes "child<container>")
    ∷ []
unfolding types opening_board
listing-of-root = refl

-- a UART with its clock: the alias has the type of the clock's period
uart_births : List ℕ → Option ℕ
uart_births name = if bytes_eq name (codes "clk") then Some 10 else None

uart_board : Board
uart_board = record opening_board {
  records = opening_records ++ record (fresh_record 9 SlotUart) { slots = slots_with uart_births SlotUart } ∷ fresh_record 10
      Clock ∷ [];
}

listing-of-uart :
    listing uart_board 9
    ≡ (codes "type", codes "string")
    ∷ (codes "realized", codes "bool")
    ∷ (codes "parent_bus", codes "link<bus>")
    ∷ (codes "slot", codes "uint64")
    ∷ (codes "peer", codes "link<device>")
    ∷ (codes "watch", codes "link<device>")
    ∷ (codes "clk", codes "child<clock>")
    ∷ (codes "clock-period", codes "uint64")
    ∷ (codes "chardev", codes "string")
    ∷ []
unfolding types uart_board uart_births
listing-of-uart = refl

-- the references of the opening board: 1 by its pin, the clock by the machine's child slot
refs-of-opening : map (refs opening_board) (1 ∷ 2 ∷ 5 ∷ 9 ∷ []) ≡ 1 ∷ 1 ∷ 1 ∷ 0 ∷ []
unfolding types opening_board
refs-of-opening = refl

-- a path does not go on through an alias, and a weak link that is empty leads nowhere
no-way-through-alias : walk uart_board 9 (codes "clock-period" ∷ []) ≡ None
unfolding types uart_board uart_births
no-way-through-alias = refl

no-way-through-empty : walk uart_board 9 (codes "watch" ∷ []) ≡ None
unfolding types uart_board uart_births
no-way-through-empty = refl

-- a detached object has no path
no-path-of-detached : canonical uart_board 9 ≡ None
unfolding types uart_board uart_births path_down_to
no-path-of-detached = refl
