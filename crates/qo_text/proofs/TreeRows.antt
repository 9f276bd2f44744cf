-- Worked rows: what the monitor tells of the opening board, and of a bridge with another one on its bus.
use Rattle.std.proofs.Common.{◌≡◌, refl, [], ◌∷◌, codes, Some}
use Rattle.qo_values.specs.declared.properties.Val.TheVariants as val
use Rattle.qo_model.proofs.Common.{Board, add, cut, set, acted, clocks_below, period, depth_of, is_going, opening_board, attached, path_down_to, plug, drop_slot, finish, finalize, finalize_within, let_go, pin, unpin, plugged, post, pulse, released, types, least}
use Rattle.qo_model.specs.Reset.{after_hold}
use Rattle.qo_text.specs.Trees.{rows_below, tree_text}
use Rattle.qo_text.specs.Buses.{bus_text, buses_text}

opening-tree : tree_text opening_board
    ≡ codes "/ (container)\n  /machine (machine)\n    /peripheral (container)\n    /peripheral-anon (container)\n    /sysclk (clock)\n    /root.0 (slot-bus)\n    /mem.0 (mem-bus)\n  /objects (container)\n"
unfolding opening_board rows_below types
opening-tree = refl

opening-buses : buses_text opening_board ≡ codes "bus: root.0\n  type slot-bus\nbus: mem.0\n  type mem-bus\n"
unfolding opening_board types bus_text
opening-buses = refl

-- a bridge in slot 3, and another one on its bus
abbrev one : Board
one =
    (plug opening_board (record { driver = codes "slot-bridge"; id = Some (codes "br"); bus = Some (codes "root.0"); props = (codes "slot", val.Uint 3) ∷ [] })).board

abbrev two : Board
two = (plug one (record { driver = codes "slot-bridge"; id = Some (codes "nb"); bus = Some (codes "br/bus.0"); props = [] })).board

bridged-buses : buses_text two
    ≡ codes "bus: root.0\n  type slot-bus\n  dev: slot-bridge, id \"br\"\n    bus: bus.0\n      type slot-bus\n      dev: slot-bridge, id \"nb\"\n        bus: bus.0\n          type slot-bus\nbus: mem.0\n  type mem-bus\n"
unfolding types opening_board path_down_to attached drop_slot finish finalize finalize_within let_go pin unpin add set cut acted period clocks_below depth_of
    is_going plug plugged post after_hold released pulse least bus_text
bridged-buses = refl

bridged-tree : tree_text two
    ≡ codes "/ (container)\n  /machine (machine)\n    /peripheral (container)\n      /br (slot-bridge)\n        /clk (clock)\n        /bus.0 (slot-bus)\n      /nb (slot-bridge)\n        /clk (clock)\n        /bus.0 (slot-bus)\n    /peripheral-anon (container)\n    /sysclk (clock)\n    /root.0 (slot-bus)\n    /mem.0 (mem-bus)\n  /objects (container)\n"
unfolding types opening_board path_down_to attached drop_slot finish finalize finalize_within let_go pin unpin add set cut acted period clocks_below depth_of
    is_going plug plugged post after_hold released pulse least rows_below
bridged-tree = refl
