-- Worked rows of release: two devices that hold each other, let go one after the other, and then severed.
use Rattle.std.proofs.Common.{◌≡◌, refl, ℕ, List, [], ◌∷◌, ◌++◌, map, codes, true, ◌==◌, if◌then◌else◌, Some, None}
use Rattle.qo_model.proofs.Common.{bytes_eq, Object, Device, SlotDevice, SlotUart, Clock, Tag, Board, Record, Slot, strong, weak, slot_named, opening_board, opening_records, fresh_record, slots_with, with_child, births, refs, drop_slot, finish, finalize, finalize_within, let_go, pin, unpin, types}
use Rattle.qo_model.specs.declared.notes.Deed.TheVariants.{Final}

-- an object whose slot of a name is another
abbrev with_slot : List ℕ → Slot → Record → Record
with_slot name s r = record r { slots = map (λ (x : List ℕ × Slot). if bytes_eq x.0 name then (name, s) else x) r.slots }

-- a UART with its clock, which has another device as its peer, and whose path was kept
abbrev uart_with : ℕ → ℕ → ℕ → Record
uart_with birth clock peer =
    with_slot (codes "peer") (strong Device (Some peer)) (record (fresh_record birth
    SlotUart) { slots = slots_with (λ name. if bytes_eq name (codes "clk") then Some clock else None) SlotUart; kept_path = Some (codes "/kept") })

-- two such under `/machine/peripheral`, and a tag that sees the first
abbrev peers : Board
peers =
    record opening_board {
      records =
          map (λ (r : Record). if r.birth == 3 then with_child (codes "b") 11 (with_child (codes "a") 9 r) else r) opening_records
          ++ uart_with 9 10 11
          ∷ fresh_record 10 Clock
          ∷ uart_with 11 12 9
          ∷ fresh_record 12 Clock
          ∷ with_slot (codes "seen") (weak Object (Some 9)) (fresh_record 13 Tag)
          ∷ [];
      pins = 1 ∷ 13 ∷ [];
    }

-- both let go: the second stands at the place of the first then
abbrev detached : Board
detached = let_go (let_go peers 3 1) 3 1

detached-stay : map (refs detached) (9 ∷ 10 ∷ 11 ∷ 12 ∷ []) ≡ 1 ∷ 1 ∷ 1 ∷ 1 ∷ []
unfolding types opening_board drop_slot finish finalize finalize_within let_go
detached-stay = refl

detached-births : births detached ≡ 1 ∷ 2 ∷ 3 ∷ 4 ∷ 5 ∷ 6 ∷ 7 ∷ 8 ∷ 9 ∷ 10 ∷ 11 ∷ 12 ∷ 13 ∷ []
unfolding types opening_board drop_slot finish finalize finalize_within let_go
detached-births = refl

detached-notes : detached.notes ≡ []
unfolding types opening_board drop_slot finish finalize finalize_within let_go
detached-notes = refl

-- the first one's link let go: the second is free, in its end the first, and in this one's end its clock
abbrev severed : Board
severed = let_go detached 9 4

severed-births : births severed ≡ 1 ∷ 2 ∷ 3 ∷ 4 ∷ 5 ∷ 6 ∷ 7 ∷ 8 ∷ 13 ∷ []
unfolding types opening_board drop_slot finish finalize finalize_within let_go
severed-births = refl

severed-notes :
    severed.notes
    ≡ record { birth = 10; deed = Final Clock }
    ∷ record { birth = 9; deed = Final SlotUart }
    ∷ record { birth = 9; deed = Final SlotDevice }
    ∷ record { birth = 9; deed = Final Device }
    ∷ record { birth = 12; deed = Final Clock }
    ∷ record { birth = 11; deed = Final SlotUart }
    ∷ record { birth = 11; deed = Final SlotDevice }
    ∷ record { birth = 11; deed = Final Device }
    ∷ []
unfolding types opening_board drop_slot finish finalize finalize_within let_go
severed-notes = refl

-- two events, and the tag sees nothing any more
severed-events :
    severed.events
    ≡ record { deleted = true; id = None; path = codes "/kept" }
    ∷ record { deleted = true; id = None; path = codes "/kept" }
    ∷ []
unfolding types opening_board drop_slot finish finalize finalize_within let_go
severed-events = refl

severed-weak : slot_named severed 13 (codes "seen") ≡ Some (weak Object None)
unfolding types opening_board drop_slot finish finalize finalize_within let_go
severed-weak = refl

-- a pin keeps the clock when the machine lets it go, and with the end of the pin the clock ends; without a pin nothing is taken
abbrev pinned : Board
pinned = let_go (pin opening_board 5) 2 3

pinned-stays : births pinned ≡ 1 ∷ 2 ∷ 3 ∷ 4 ∷ 5 ∷ 6 ∷ 7 ∷ 8 ∷ []
unfolding types opening_board drop_slot finish finalize finalize_within let_go pin
pinned-stays = refl

unpinned-ends : births (unpin pinned 5) ≡ 1 ∷ 2 ∷ 3 ∷ 4 ∷ 6 ∷ 7 ∷ 8 ∷ []
unfolding types opening_board drop_slot finish finalize finalize_within let_go pin unpin
unpinned-ends = refl

unpinned-pins : (unpin pinned 5).pins ≡ 1 ∷ []
unfolding types opening_board drop_slot finish finalize finalize_within let_go pin unpin
unpinned-pins = refl

nothing-unpinned : births (unpin opening_board 5) ≡ 1 ∷ 2 ∷ 3 ∷ 4 ∷ 5 ∷ 6 ∷ 7 ∷ 8 ∷ []
unfolding types opening_board drop_slot finish finalize finalize_within unpin
nothing-unpinned = refl
