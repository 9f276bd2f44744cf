-- Worked rows of devices: bridges that are added, refused and removed.
use Rattle.std.proofs.Common.{◌≡◌, refl, ℕ, ◌^◌, ◌-◌, true, List, [], ◌∷◌, map, drop, codes, Option, Some, None, Result, Ok, Err}
use Rattle.qo_model.proofs.Common.{Code, E17, E18, E19, E20, E21, E22, E23, E24, E25, E26, E28, E29, E36, E38, E42, E45, E46, E47, MemoryBackend, Board, DeviceEvent, Slot, plain, strong, slots_at, add, cut, set, clock_scaled, clock_set, acted, clocks_below, period, depth_of, is_going, deed_word, deed_type, option_map_or, type_name, Given, object_add, opening_board, attached, births, path_down_to, Wanted, Plugged, plug, drop_slot, finish, finalize, finalize_within, let_go, pin, unpin, plugged, post, pulse, released, types, apart_within, detach, unrealize, least}
use Rattle.qo_values.specs.declared.kinds.ResetKind.TheVariants.{Cold, Wakeup}
use Rattle.qo_model.specs.declared.notes.Note.{Note}
use Rattle.qo_values.specs.declared.properties.Val.TheVariants as val
use Rattle.qo_model.specs.Reset.{after_hold}
use Rattle.qo_model.proofs.RowTerms.{wanted, then_set, then_scaled}

-- a note, as its word, its birth and its type's name
abbrev told : Note → List ℕ × ℕ × List ℕ
told x = (deed_word x.deed, x.birth, option_map_or type_name (deed_type x.deed) [])

abbrev on : List ℕ → Wanted → Wanted
on bus a = record { driver = a.driver; id = a.id; bus = Some bus; props = a.props }

abbrev with : List Given → Wanted → Wanted
with props a = record { driver = a.driver; id = a.id; bus = a.bus; props = props }

abbrev one : Board
one = (plug opening_board (wanted (codes "slot-bridge") (codes "br"))).board

-- a bridge
one-notes : map told one.notes
    ≡ (codes "init", 9, codes "device") ∷ (codes "init", 9, codes "slot-device") ∷ (codes "init", 9, codes "slot-bridge") ∷ (codes "init", 10, codes "clock")
    ∷ (codes "init", 11, codes "bus") ∷ (codes "init", 11, codes "slot-bus") ∷ (codes "realize", 9, []) ∷ (codes "realize", 11, []) ∷ (codes "enter", 11, [])
    ∷ (codes "enter", 9, []) ∷ (codes "hold", 11, []) ∷ (codes "hold", 9, []) ∷ (codes "exit", 11, []) ∷ (codes "exit", 9, []) ∷ []
unfolding types opening_board path_down_to attached drop_slot finish finalize finalize_within let_go pin unpin add set cut acted period clocks_below depth_of
    is_going plug plugged post after_hold released pulse least
one-notes = refl

-- another in its slot
abbrev taken : Plugged
taken = plug one (with ((codes "slot", val.Uint 0) ∷ []) (wanted (codes "slot-bridge") (codes "c")))

taken-code : taken.refusal ≡ Some (5, E29)
unfolding types opening_board path_down_to attached drop_slot finish finalize finalize_within let_go pin unpin add set cut acted period clocks_below depth_of
    is_going plug plugged post after_hold released pulse least
taken-code = refl

taken-notes : map told (drop 14 taken.board.notes) ≡ (codes "init", 12, codes "device") ∷ (codes "init", 12, codes "slot-device")
    ∷ (codes "init", 12, codes "slot-bridge") ∷ (codes "init", 13, codes "clock") ∷ (codes "init", 14, codes "bus") ∷ (codes "init", 14, codes "slot-bus")
    ∷ (codes "final", 13, codes "clock") ∷ (codes "final", 14, codes "slot-bus") ∷ (codes "final", 14, codes "bus") ∷ (codes "final", 12, codes "slot-bridge")
    ∷ (codes "final", 12, codes "slot-device") ∷ (codes "final", 12, codes "device") ∷ []
unfolding types opening_board path_down_to attached drop_slot finish finalize finalize_within let_go pin unpin add set cut acted period clocks_below depth_of
    is_going plug plugged post after_hold released pulse least
taken-notes = refl

-- one below the other, and the upper one removed
abbrev two : Board
two = (plug one (on (codes "br/bus.0") (wanted (codes "slot-bridge") (codes "nb")))).board

two-births : births two ≡ 1 ∷ 2 ∷ 3 ∷ 4 ∷ 5 ∷ 6 ∷ 7 ∷ 8 ∷ 9 ∷ 10 ∷ 11 ∷ 12 ∷ 13 ∷ 14 ∷ []
unfolding types opening_board path_down_to attached drop_slot finish finalize finalize_within let_go pin unpin add set cut acted period clocks_below depth_of
    is_going plug plugged post after_hold released pulse least
two-births = refl

removed-notes : map told (drop 28 (detach two 9).notes) ≡ (codes "unrealize", 14, []) ∷ (codes "unrealize", 12, []) ∷ (codes "unrealize", 11, [])
    ∷ (codes "unrealize", 9, []) ∷ (codes "final", 14, codes "slot-bus") ∷ (codes "final", 14, codes "bus") ∷ (codes "final", 13, codes "clock")
    ∷ (codes "final", 12, codes "slot-bridge") ∷ (codes "final", 12, codes "slot-device") ∷ (codes "final", 12, codes "device")
    ∷ (codes "final", 11, codes "slot-bus") ∷ (codes "final", 11, codes "bus") ∷ (codes "final", 10, codes "clock") ∷ (codes "final", 9, codes "slot-bridge")
    ∷ (codes "final", 9, codes "slot-device") ∷ (codes "final", 9, codes "device") ∷ []
unfolding types opening_board path_down_to attached drop_slot finish finalize finalize_within let_go pin unpin add set cut acted period clocks_below depth_of
    is_going plug plugged post after_hold released pulse least unrealize apart_within detach
removed-notes = refl

removed-events : map (λ (e : DeviceEvent). e.path) (detach two 9).events ≡ codes "/machine/peripheral/nb" ∷ codes "/machine/peripheral/br" ∷ []
unfolding types opening_board path_down_to attached drop_slot finish finalize finalize_within let_go pin unpin add set cut acted period clocks_below depth_of
    is_going plug plugged post after_hold released pulse least unrealize apart_within detach
removed-events = refl

removed-rest : (detach two 9).records ≡ opening_board.records
unfolding types opening_board path_down_to attached drop_slot finish finalize finalize_within let_go pin unpin add set cut acted period clocks_below depth_of
    is_going plug plugged post after_hold released pulse least unrealize apart_within detach
removed-rest = refl

-- bridges one below the other, up to the depth that is the limit
abbrev deeper : List ℕ → List ℕ → Board → Board
deeper id bus b = (plug b (on bus (wanted (codes "slot-bridge") id))).board

abbrev eight : Board
eight = deeper (codes "b8") (codes "b7/bus.0") (deeper (codes "b7") (codes "b6/bus.0")
    (deeper (codes "b6") (codes "b5/bus.0") (deeper (codes "b5") (codes "b4/bus.0") (deeper (codes "b4") (codes "b3/bus.0")
    (deeper (codes "b3") (codes "b2/bus.0") (deeper (codes "b2") (codes "b1/bus.0") (plug opening_board (wanted (codes "slot-bridge") (codes "b1"))).board))))))

ninth : (plug eight (on (codes "b8/bus.0") (wanted (codes "slot-bridge") (codes "b9")))).refusal ≡ Some (5, E42)
unfolding types opening_board path_down_to attached drop_slot finish finalize finalize_within let_go pin unpin add set cut acted period clocks_below depth_of
    is_going plug plugged post after_hold released pulse least unrealize apart_within detach
ninth = refl

-- each refusal of the type, the id, the bus and the properties
abbrev code_of : Wanted → Option (ℕ × Code)
code_of a = (plug one a).refusal

refused-codes : map code_of
    (wanted (codes "nope") (codes "a")
    ∷ wanted (codes "device") (codes "a")
    ∷ wanted (codes "tag") (codes "a")
    ∷ wanted (codes "slot-bridge") (codes "9x")
    ∷ wanted (codes "slot-bridge") (codes "type")
    ∷ wanted (codes "slot-bridge") (codes "br")
    ∷ on (codes "/machine/mem.0") (wanted (codes "slot-bridge") (codes "a"))
    ∷ on (codes "/machine") (wanted (codes "slot-bridge") (codes "a"))
    ∷ with ((codes "hue", val.Uint 1) ∷ []) (wanted (codes "slot-bridge") (codes "a"))
    ∷ with ((codes "realized", val.Bool true) ∷ []) (wanted (codes "slot-bridge") (codes "a"))
    ∷ with ((codes "slot", val.Uint 256) ∷ []) (wanted (codes "slot-bridge") (codes "a"))
    ∷ with ((codes "slot", val.Uint 8) ∷ []) (wanted (codes "slot-bridge") (codes "a"))
    ∷ wanted (codes "mem-dimm") (codes "a")
    ∷ with ((codes "chardev", val.Text (codes "no")) ∷ []) (wanted (codes "slot-uart") (codes "a"))
    ∷ []) ≡ Some (1, E20) ∷ Some (1, E21) ∷ Some (1, E22) ∷ Some (2, E23) ∷ Some (2, E24) ∷ Some (2, E24) ∷ Some (3, E26) ∷ Some (3, E25) ∷ Some (4, E17)
    ∷ Some (4, E18) ∷ Some (4, E19) ∷ Some (5, E28) ∷ Some (5, E38) ∷ Some (6, E36) ∷ []
unfolding types opening_board path_down_to attached drop_slot finish finalize finalize_within let_go pin unpin add set cut acted period clocks_below depth_of
    is_going plug plugged post after_hold released pulse least unrealize apart_within detach
refused-codes = refl

-- holds: a timer plugged below a held bridge, and both let go
abbrev timed : Board
timed = (plug (after_hold one 9 Cold) (on (codes "br/bus.0") (wanted (codes "slot-timer") (codes "t")))).board

held-notes : map told (drop 14 (released (released (after_hold timed 2 Cold) 9) 2).notes) ≡
    (codes "enter", 11, []) ∷ (codes "enter", 9, []) ∷ (codes "hold", 11, []) ∷ (codes "hold", 9, [])
    ∷ (codes "init", 12, codes "device") ∷ (codes "init", 12, codes "slot-device") ∷ (codes "init", 12, codes "slot-timer") ∷ (codes "init", 13, codes "clock")
    ∷ (codes "realize", 12, []) ∷ (codes "enter", 12, []) ∷ (codes "hold", 12, [])
    ∷ (codes "enter", 6, []) ∷ (codes "enter", 7, []) ∷ (codes "enter", 2, []) ∷ (codes "hold", 6, []) ∷ (codes "hold", 7, []) ∷ (codes "hold", 2, [])
    ∷ (codes "exit", 12, []) ∷ (codes "exit", 11, []) ∷ (codes "exit", 9, []) ∷ (codes "exit", 6, []) ∷ (codes "exit", 7, []) ∷ (codes "exit", 2, []) ∷ []
unfolding types opening_board path_down_to attached drop_slot finish finalize finalize_within let_go pin unpin add set cut acted period clocks_below depth_of
    is_going plug plugged post after_hold released pulse least unrealize apart_within detach
held-notes = refl

-- the system clock is written: the notes after the first eight, or the code that refuses it
abbrev uart : Board
uart = (plug opening_board (wanted (codes "slot-uart") (codes "u"))).board

abbrev notes_or_code : Result Board Code → List (List ℕ × ℕ × List ℕ) × Option Code
notes_or_code (Ok b) = (map told (drop 8 b.notes), None)
notes_or_code (Err code) = ([], Some code)

clock-notes : notes_or_code (clock_set uart 5 (2 ^ 64 - 1)) ≡ ((codes "pre", 9, []) ∷ (codes "update", 9, []) ∷ [], None)
unfolding types opening_board path_down_to attached drop_slot finish finalize finalize_within let_go pin unpin add set cut acted period clocks_below depth_of
    is_going plug plugged post after_hold released pulse least unrealize apart_within detach
clock-notes = refl

clock-over : notes_or_code (then_scaled 5 2 1 (clock_set uart 5 (2 ^ 64 - 1))) ≡ ([], Some E47)
unfolding types opening_board path_down_to attached drop_slot finish finalize finalize_within let_go pin unpin add set cut acted period clocks_below depth_of
    is_going plug plugged post after_hold released pulse least unrealize apart_within detach
clock-over = refl

-- nobody is called back where no period changes
clock-stopped : notes_or_code (then_set 5 3 (then_scaled 5 0 2 (clock_scaled uart 5 0 1))) ≡ ((codes "pre", 9, []) ∷ (codes "update", 9, []) ∷ [], None)
unfolding types opening_board path_down_to attached drop_slot finish finalize finalize_within let_go pin unpin add set cut acted period clocks_below depth_of
    is_going plug plugged post after_hold released pulse least unrealize apart_within detach
clock-stopped = refl

clock-sourced : notes_or_code (clock_set uart 10 1) ≡ ([], Some E45)
unfolding types opening_board path_down_to attached drop_slot finish finalize finalize_within let_go pin unpin add set cut acted period clocks_below depth_of
    is_going plug plugged post after_hold released pulse least unrealize apart_within detach
clock-sourced = refl

clock-undivided : notes_or_code (clock_scaled uart 5 1 0) ≡ ([], Some E46)
unfolding types opening_board path_down_to attached drop_slot finish finalize finalize_within let_go pin unpin add set cut acted period clocks_below depth_of
    is_going plug plugged post after_hold released pulse least unrealize apart_within detach
clock-undivided = refl

-- a DIMM at an address, over a backend
abbrev backed : Board
backed = (object_add opening_board (codes "memory-backend-ram") (codes "m1") []).board

abbrev dimm_given : Wanted
dimm_given = with ((codes "addr", val.Uint 4294967296) ∷ (codes "memdev", val.Text (codes "/objects/m1")) ∷ []) (wanted (codes "mem-dimm") (codes "d"))

dimm-added : (plug backed dimm_given).refusal ≡ None
unfolding types opening_board path_down_to attached drop_slot finish finalize finalize_within let_go pin unpin add set cut acted period clocks_below depth_of
    is_going plug plugged post after_hold released pulse least
dimm-added = refl

dimm-slots : map (λ (s : List ℕ × Slot). s.1) (drop 6 (slots_at (plug backed dimm_given).board 10))
    ≡ strong MemoryBackend (Some 9) ∷ plain (val.Uint 4294967296) ∷ []
unfolding types opening_board path_down_to attached drop_slot finish finalize finalize_within let_go pin unpin add set cut acted period clocks_below depth_of
    is_going plug plugged post after_hold released pulse least
dimm-slots = refl

-- a wakeup of the whole board with a timer, and a hold by a wakeup below which a cold one goes through no phase
abbrev with_timer : Board
with_timer = (plug opening_board (wanted (codes "slot-timer") (codes "t"))).board

woken-notes : map told (drop 8 (pulse with_timer 2 Wakeup).notes) ≡
    (codes "wake", 9, []) ∷ (codes "wake", 6, []) ∷ (codes "wake", 7, []) ∷ (codes "wake", 2, [])
    ∷ (codes "hold", 9, []) ∷ (codes "hold", 6, []) ∷ (codes "hold", 7, []) ∷ (codes "hold", 2, [])
    ∷ (codes "exit", 9, []) ∷ (codes "exit", 6, []) ∷ (codes "exit", 7, []) ∷ (codes "exit", 2, []) ∷ []
unfolding types opening_board path_down_to attached drop_slot finish finalize finalize_within let_go pin unpin add set cut acted period clocks_below depth_of
    is_going plug plugged post after_hold released pulse least unrealize apart_within detach
woken-notes = refl

held-twice : map told (released (released (after_hold (after_hold opening_board 2 Wakeup) 2 Cold) 2) 2).notes ≡
    (codes "wake", 6, []) ∷ (codes "wake", 7, []) ∷ (codes "wake", 2, []) ∷ (codes "hold", 6, []) ∷ (codes "hold", 7, []) ∷ (codes "hold", 2, [])
    ∷ (codes "exit", 6, []) ∷ (codes "exit", 7, []) ∷ (codes "exit", 2, []) ∷ []
unfolding types opening_board path_down_to attached drop_slot finish finalize finalize_within let_go pin unpin add set cut acted period clocks_below depth_of
    is_going plug plugged post after_hold released pulse least unrealize apart_within detach
held-twice = refl
