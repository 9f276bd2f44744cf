-- Worked rows of the commands on objects: tags that link to each other, removed and severed.
use Rattle.std.proofs.Common.{◌≡◌, refl, ℕ, List, [], ◌∷◌, map, drop, ◌++◌, decimal, codes, true, Option, Some, None, Ok, Err}
use Rattle.qo_model.proofs.Common.{Code, E15, E17, E18, E19, E20, E21, E22, E23, E24, E33, E50, Tag, Val, Init, Board, Record, point, set, Given, detached, object_add, object_del, sever, opening_board, attached, births, path_down_to, value_of, write, refs, drop_slot, finish, finalize, finalize_within, let_go, pin, unpin, types}
use Rattle.qo_model.specs.declared.notes.Deed.TheVariants.{Did, Final}
use Rattle.qo_values.specs.declared.properties.Val.TheVariants as val
use Rattle.qo_model.proofs.RowTerms.{note}

-- a tag of a name
abbrev tagged : List ℕ → Board → Board
tagged id b = (object_add b (codes "tag") id []).board

-- a value written, where it is not refused
abbrev wrote : ℕ → List ℕ → Val → Board → Board
wrote n name v b = elim (write b n name v) [ Ok c ↦ c | Err code ↦ b ]

-- two tags, each the next of the other, both removed
abbrev crossed : Board
crossed = wrote 10 (codes "next") (val.Text (codes "/objects/a"))
    (wrote 9 (codes "next") (val.Text (codes "/objects/b")) (tagged (codes "b") (tagged (codes "a") opening_board)))

abbrev removed : Board
removed = (object_del (object_del crossed (codes "a")).board (codes "b")).board

removed-are-detached : map (λ (r : Record). r.birth) (detached removed) ≡ 9 ∷ 10 ∷ []
unfolding types opening_board path_down_to attached drop_slot finish finalize finalize_within let_go pin unpin point set
removed-are-detached = refl

removed-hold-each-other : map (refs removed) (9 ∷ 10 ∷ []) ≡ 1 ∷ 1 ∷ []
unfolding types opening_board path_down_to attached drop_slot finish finalize finalize_within let_go pin unpin point set
removed-hold-each-other = refl

removed-is-named : value_of removed 9 (codes "next") ≡ Some (val.Text (codes "detached:" ++ decimal 10))
unfolding types opening_board path_down_to attached drop_slot finish finalize finalize_within let_go pin unpin point set
removed-is-named = refl

-- severed, the one ends and then the other
severed-notes : (sever removed 9).board.notes ≡ note 9 (Did (Init Tag)) ∷ note 10 (Did (Init Tag)) ∷ note 10 (Final Tag) ∷ note 9 (Final Tag) ∷ []
unfolding types opening_board path_down_to attached drop_slot finish finalize finalize_within let_go pin unpin point set
severed-notes = refl

severed-births : births (sever removed 9).board ≡ 1 ∷ 2 ∷ 3 ∷ 4 ∷ 5 ∷ 6 ∷ 7 ∷ 8 ∷ []
unfolding types opening_board path_down_to attached drop_slot finish finalize finalize_within let_go pin unpin point set
severed-births = refl

-- one tag holds the other, which sees it: removed in the order other, one, they end, and no link keeps either
abbrev seen : Board
seen = wrote 10 (codes "seen") (val.Text (codes "/objects/a"))
    (wrote 9 (codes "next") (val.Text (codes "/objects/b")) (tagged (codes "b") (tagged (codes "a") opening_board)))

seen-notes : drop 2 (object_del (object_del seen (codes "b")).board (codes "a")).board.notes ≡ note 10 (Final Tag) ∷ note 9 (Final Tag) ∷ []
unfolding types opening_board path_down_to attached drop_slot finish finalize finalize_within let_go pin unpin point set
seen-notes = refl

-- refusals of `object-add`, in their order
abbrev refusal : List ℕ → List ℕ → List Given → Option Code
refusal driver id props = (object_add (tagged (codes "a") opening_board) driver id props).refusal

refusals :
    refusal (codes "nothing") (codes "1") []
    ∷ refusal (codes "memory-backend") (codes "1") []
    ∷ refusal (codes "clock") (codes "1") []
    ∷ refusal (codes "tag") (codes "1") []
    ∷ refusal (codes "tag") (codes "a") []
    ∷ refusal (codes "tag") (codes "type") []
    ∷ refusal (codes "tag") (codes "b") ((codes "none", val.Uint 1) ∷ [])
    ∷ refusal (codes "tag") (codes "b") ((codes "type", val.Text []) ∷ [])
    ∷ refusal (codes "tag") (codes "b") ((codes "flag", val.Uint 1) ∷ [])
    ∷ refusal (codes "tag") (codes "b") ((codes "next", val.Text (codes "/nowhere")) ∷ [])
    ∷ refusal (codes "tag") (codes "b") ((codes "flag", val.Bool true) ∷ (codes "next", val.Text (codes "a")) ∷ [])
    ∷ []
    ≡ Some E20 ∷ Some E21 ∷ Some E22 ∷ Some E23 ∷ Some E24 ∷ Some E24 ∷ Some E17 ∷ Some E18 ∷ Some E19 ∷ Some E15 ∷ None ∷ []
unfolding types opening_board path_down_to attached
refusals = refl

-- an attempt that was given up: the births are one higher, and its notes are there
given_up : (object_add opening_board (codes "tag") (codes "b") ((codes "flag", val.Uint 1) ∷ [])).board.notes
    ≡ note 9 (Did (Init Tag)) ∷ note 9 (Final Tag) ∷ []
unfolding types opening_board
given_up = refl

-- refusals of `x-sever`
sever-refusals : (sever (tagged (codes "a") opening_board) 10).refusal ∷ (sever (tagged (codes "a") opening_board) 9).refusal ∷ [] ≡ Some E33 ∷ Some E50 ∷ []
unfolding types opening_board path_down_to attached
sever-refusals = refl
