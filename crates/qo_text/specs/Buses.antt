-- What `info qtree` tells of a board (QEMU's hmp-commands-info.hx; the text is the profile's).
use Rattle.std.specs.Prelude.{ℕ, ◌+◌, List, [], ◌∷◌, ◌++◌, codes, Option, option_and_then, option_map, replicate, unwrap_or}
use Rattle.std.specs.List.{filter_map, flat_map}
use Rattle.qo_values.specs.declared.births.TheConstants.{ROOT_BUS_BIRTH, MEMORY_BUS_BIRTH}
use Rattle.qo_model.specs.Board.{Board, Record, Slot, kind_of, record_of, slots_at}
use Rattle.qo_model.specs.Depth.{by_objects}
use Rattle.qo_model.specs.Devices.{bus_in, kids_of}
use Rattle.qo_model.specs.Paths.{births}
use Rattle.qo_text.specs.Trees.{kind_text}

-- the id of a device; empty where it has none
abbrev pub id_text : Board → ℕ → List ℕ
id_text b n = unwrap_or (option_and_then (λ (r : Record). r.device_id) (record_of b n)) []

-- a line so many spaces in
abbrev pub line_in : ℕ → List ℕ → List ℕ
line_in spaces text = replicate spaces 32 ++ (text ++ 10 ∷ [])

-- the name of the slot of a bus, and the bus
abbrev pub bus_entry : Board → List ℕ × Slot → Option (List ℕ × ℕ)
bus_entry b s = option_map (λ (m : ℕ). (s.0, m)) (bus_in b s)

-- the buses of a device under their names, in order
abbrev pub bus_entries : Board → ℕ → List (List ℕ × ℕ)
bus_entries b n = filter_map (bus_entry b) (slots_at b n)

-- the line of a device, and the lines of a bus under a name
abbrev pub device_line : Board → ℕ → ℕ → List ℕ
device_line b spaces n = line_in (spaces + 2) (codes "dev: " ++ (kind_text (kind_of b n) ++ (codes ", id \"" ++ (id_text b n ++ codes "\""))))

abbrev pub bus_lines : Board → ℕ → List ℕ → ℕ → List ℕ
bus_lines b m name spaces = line_in spaces (codes "bus: " ++ name) ++ line_in (spaces + 2) (codes "type " ++ kind_text (kind_of b m))

-- a device on a bus, and its buses, where f says what a bus under a name has
abbrev pub device_text : Board → (ℕ → List ℕ → ℕ → List ℕ) → ℕ → ℕ → List ℕ
device_text b f spaces n = device_line b spaces n ++ flat_map (λ (e : List ℕ × ℕ). f e.1 e.0 (spaces + 4)) (bus_entries b n)

-- a bus under a name, and the devices on it in the order of plugging
abbrev pub bus_turn : Board → (ℕ → List ℕ → ℕ → List ℕ) → ℕ → List ℕ → ℕ → List ℕ
bus_turn b f m name spaces = bus_lines b m name spaces ++ flat_map (device_text b f spaces) (kids_of b m)

unfoldable pub bus_text : Board → ℕ → List ℕ → ℕ → List ℕ
bus_text b m name spaces = by_objects (bus_turn b) (λ _ _ _. []) (births b) m name spaces

-- `info qtree`
abbrev pub buses_text : Board → List ℕ
buses_text b = bus_text b ROOT_BUS_BIRTH (codes "root.0") 0 ++ bus_text b MEMORY_BUS_BIRTH (codes "mem.0") 0
