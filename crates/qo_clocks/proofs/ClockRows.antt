-- Worked rows of clocks that are written, in a tree three deep: the system clock, the clock of a UART after it, and that of a timer after this one.
use Rattle.std.proofs.Common.{◌≡◌, refl, ℕ, ◌^◌, ◌-◌, List, [], ◌∷◌, map, drop, codes, Option, Some, None, Result, Ok, Err}
use Rattle.qo_values.specs.Placing.{least}
use Rattle.qo_values.specs.declared.codes.Code.{Code}
use Rattle.qo_values.specs.declared.codes.Code.TheVariants.{E45, E46, E47}
use Rattle.qo_model.specs.Board.{Board}
use Rattle.qo_model.specs.Changes.{add, set}
use Rattle.qo_model.specs.ClockChanges.{clock_scaled, clock_set}
use Rattle.qo_model.specs.Clocks.{acted, clocks_below, period}
use Rattle.qo_model.specs.Devices.{depth_of, is_going}
use Rattle.qo_model.specs.Opening.{opening_board}
use Rattle.qo_model.specs.Paths.{attached, path_down_to}
use Rattle.qo_model.specs.Plug.{plug, with_source}
use Rattle.qo_model.specs.Release.{drop_slot, finish, let_go, pin, unpin}
use Rattle.qo_model.specs.Reset.{plugged, post}
use Rattle.qo_model.specs.Types.{types}
use Rattle.qo_model.specs.Unplug.{unseen_named}
use Rattle.qo_model.proofs.RowTerms.{told, wanted, then_set, then_scaled}

-- what was noted after the sixteenth note, as its word and its birth; and the periods of the three clocks, or the code of a refusal
abbrev noted : Result Board Code → List (List ℕ × ℕ)
noted (Ok b) = map told (drop 16 b.notes)
noted (Err code) = []

abbrev periods : Result Board Code → List ℕ × Option Code
periods (Ok b) = (period b 5 ∷ period b 10 ∷ period b 12 ∷ [], None)
periods (Err code) = ([], Some code)

abbrev two : Board
two = (plug (plug opening_board (wanted (codes "slot-uart") (codes "u"))).board (wanted (codes "slot-timer") (codes "t"))).board

abbrev three : Board
three = with_source 10 (Some 12) (unseen_named 12 (codes "source") two)

-- a period of 10 by 3 is 3, and times 3 it is 9: each clock rounds
abbrev rounded : Result Board Code
rounded = then_scaled 10 3 1 (then_scaled 5 1 3 (clock_set three 5 10))

rounded-periods : periods rounded ≡ (10 ∷ 3 ∷ 9 ∷ [], None)
unfolding types opening_board path_down_to attached drop_slot finish let_go pin unpin add set acted period clocks_below depth_of is_going plug plugged post
    least
rounded-periods = refl

-- the UART before the timer, the first two times; then the timer alone
rounded-notes : noted rounded ≡
    (codes "pre", 9) ∷ (codes "update", 9) ∷ (codes "pre", 11) ∷ (codes "update", 11)
    ∷ (codes "pre", 9) ∷ (codes "update", 9) ∷ (codes "pre", 11) ∷ (codes "update", 11)
    ∷ (codes "pre", 11) ∷ (codes "update", 11) ∷ []
unfolding types opening_board path_down_to attached drop_slot finish let_go pin unpin add set acted period clocks_below depth_of is_going plug plugged post
    least
rounded-notes = refl

-- what only the last clock cannot have, and that it can have half of it
last-over : periods (then_scaled 10 2 1 (clock_set three 5 (2 ^ 63))) ≡ ([], Some E47)
unfolding types opening_board path_down_to attached drop_slot finish let_go pin unpin add set acted period clocks_below depth_of is_going plug plugged post
    least
last-over = refl

last-fits : periods (then_scaled 10 2 1 (clock_set three 5 (2 ^ 63 - 1))) ≡ ((2 ^ 63 - 1) ∷ (2 ^ 63 - 1) ∷ (2 ^ 64 - 2) ∷ [], None)
unfolding types opening_board path_down_to attached drop_slot finish let_go pin unpin add set acted period clocks_below depth_of is_going plug plugged post
    least
last-fits = refl

over-below : periods (then_set 5 (2 ^ 63) (clock_scaled three 10 2 1)) ≡ ([], Some E47)
unfolding types opening_board path_down_to attached drop_slot finish let_go pin unpin add set acted period clocks_below depth_of is_going plug plugged post
    least
over-below = refl

sourced : periods (clock_set three 12 1) ≡ ([], Some E45)
unfolding types opening_board path_down_to attached drop_slot finish let_go pin unpin add set acted period clocks_below depth_of is_going plug plugged post
    least
sourced = refl

undivided : periods (clock_scaled three 12 1 0) ≡ ([], Some E46)
unfolding types opening_board path_down_to attached drop_slot finish let_go pin unpin add set acted period clocks_below depth_of is_going plug plugged post
    least
undivided = refl
