-- Worked rows of the numbers of clocks, read and written as properties: those of the system clock, and of a UART after it.
use Rattle.std.proofs.Common.{◌≡◌, refl, ℕ, ◌^◌, ◌-◌, true, List, [], ◌∷◌, map, drop, codes, Option, Some, None, Ok, Err}
use Rattle.qo_model.proofs.Common.{least, Code, E17, E18, E19, E45, E46, E47, Val, Board, add, set, set_property, acted, clocks_below, period, depth_of, is_going, opening_board, attached, path_down_to, plug, value_of, drop_slot, finish, let_go, pin, unpin, plugged, post, types}
use Rattle.qo_values.specs.declared.properties.Val.TheVariants as val
use Rattle.qo_model.proofs.RowTerms.{told}

-- a UART; a number to a property of the system clock; the code of a refusal
abbrev uart : Board
uart = (plug opening_board (record { driver = codes "slot-uart"; id = Some (codes "u"); bus = None; props = [] })).board

abbrev written : List ℕ → ℕ → Board → Board
written name n b = elim (set_property b 5 name (val.Uint n)) [ Ok c ↦ c | Err code ↦ b ]

abbrev refusal : ℕ → List ℕ → Val → Board → Option Code
refusal n name v b = elim (set_property b n name v) [ Ok c ↦ None | Err code ↦ Some code ]

-- what is noted after the UART's own notes, as word and birth; and what is read of its clock's period, by either name
abbrev noted : Board → List (List ℕ × ℕ)
noted b = map told (drop 8 b.notes)

abbrev reads : Board → List (Option Val)
reads b = value_of b 10 (codes "period") ∷ value_of b 9 (codes "clock-period") ∷ []

-- refusals in their order: no such property, one that nobody writes, a value that does not fit, and then what clocks refuse
refusals :
    refusal 5 (codes "none") (val.Uint 1) uart
    ∷ refusal 5 (codes "source") (val.Text []) uart
    ∷ refusal 9 (codes "clk") (val.Uint 1) uart
    ∷ refusal 10 (codes "period") (val.Bool true) uart
    ∷ refusal 9 (codes "clock-period") (val.Text []) uart
    ∷ refusal 5 (codes "div") (val.Uint (2 ^ 32)) uart
    ∷ refusal 5 (codes "mul") (val.Uint (2 ^ 32)) uart
    ∷ refusal 10 (codes "period") (val.Uint 1) uart
    ∷ refusal 9 (codes "clock-period") (val.Uint 1) uart
    ∷ refusal 5 (codes "div") (val.Uint 0) uart
    ∷ refusal 5 (codes "mul") (val.Uint 2) (written (codes "period") (2 ^ 64 - 1) uart)
    ∷ refusal 5 (codes "period") (val.Uint 1) uart
    ∷ []
    ≡ Some E17 ∷ Some E18 ∷ Some E18 ∷ Some E19 ∷ Some E19 ∷ Some E19 ∷ Some E19 ∷ Some E45 ∷ Some E45 ∷ Some E46 ∷ Some E47 ∷ None ∷ []
unfolding types opening_board path_down_to attached drop_slot finish let_go pin unpin add set acted period clocks_below depth_of is_going plug plugged post
    least
refusals = refl

-- the greatest period, nothing of it, a third of it that is nothing too, all of it, and less of it, which is nothing again
abbrev most : Board
most = written (codes "period") (2 ^ 64 - 1) uart

abbrev stopped : Board
stopped = written (codes "mul") 0 most

abbrev slow : Board
slow = written (codes "mul") 1 (written (codes "period") 3 (written (codes "div") 2 stopped))

reads-all : reads most ∷ reads stopped ∷ reads slow ∷ reads (written (codes "period") 2 slow) ∷ []
    ≡ (Some (val.Uint (2 ^ 64 - 1)) ∷ Some (val.Uint (2 ^ 64 - 1)) ∷ [])
    ∷ (Some (val.Uint 0) ∷ Some (val.Uint 0) ∷ [])
    ∷ (Some (val.Uint 1) ∷ Some (val.Uint 1) ∷ [])
    ∷ (Some (val.Uint 1) ∷ Some (val.Uint 1) ∷ [])
    ∷ []
unfolding types opening_board path_down_to attached drop_slot finish let_go pin unpin add set acted period clocks_below depth_of is_going plug plugged post
    least
reads-all = refl

-- the UART is called back where its period changes, and only there
noted-all : noted (written (codes "period") 2 slow) ≡
    (codes "pre", 9) ∷ (codes "update", 9) ∷ (codes "pre", 9) ∷ (codes "update", 9) ∷ (codes "pre", 9) ∷ (codes "update", 9) ∷ []
unfolding types opening_board path_down_to attached drop_slot finish let_go pin unpin add set acted period clocks_below depth_of is_going plug plugged post
    least
noted-all = refl
