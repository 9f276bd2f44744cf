-- That birth 1 alone is pinned, once, before and after the calls on a board.
use Rattle.std.proofs.Common.{◌≡◌, refl, ap, sym, ◌∙◌, ℕ, zero, suc, ◌+◌, ◌<◌, ◌≤◌, ◌^◌, Bool, true, false, ◌==◌, eqb, nat_eq, List, [], ◌∷◌, ◌++◌, length, replicate, Option, Some, None, arith}
use Rattle.std.specs.Option.{option_map_or}
use Rattle.std.specs.List.{list_any}
use Rattle.qo_slots.specs.declared.keys.Key.{Key}
use Rattle.qo_heap.specs.Rows.{object_at}
use Rattle.qo_model.specs.Board.{Board, slots_at}
use Rattle.qo_model.specs.Opening.{opening_board}
use Rattle.qo_model.specs.Objects.{severed_from}
use Rattle.qo_model.specs.References.{refs}
use Rattle.qo_model.specs.Release.{after, finalize, let_go, pin, put_in_order, without_first}
use Rattle.qo_model.proofs.PinLemmas.{put-among, put-back, severed-pins, unpin-pins}
use Rattle.qo_model.proofs.ReleaseScopeLemmas.{let_go-leaves, release_leaves}
use Rattle.qo_heap.specs.Log.{empty_log}
use Rattle.qo_object.specs.Content.{Content}
use Rattle.qo_heap.specs.Board.{Shows, pins_in}
use Rattle.qo_heap.specs.Objects.{Objects, pins_of, with_edit}
use Rattle.qo_heap.proofs.BoardEdits.{pins-edited}
use Rattle.qo_life.specs.Life.{Goes}
use Rattle.qo_life.proofs.TreeLemmas.{tree, tree-shows}
use Rattle.qo_properties.specs.Changes.{severed}
use Rattle.qo_properties.specs.Pins.{OnlyRootPinned}

length-more : (k m : ℕ) (xs : List ℕ) → length (replicate k m ++ xs) ≡ k + length xs
length-more zero m xs = omega arith
length-more (suc k) m xs = omega (arith, length-more k m xs)

-- an object is pinned no more often than there are pins
pins-within : (n : ℕ) (rows : List (Key × Content)) → option_map_or (λ (c : Content). c.pins) (object_at rows n) 0 ≤ length (pins_in rows)
pins-within n [] = omega arith
pins-within n (row ∷ rows) = go (eqb row.0.birth n) refl (pins-within n rows)
  where
    go : (b : Bool) → eqb row.0.birth n ≡ b → option_map_or (λ (c : Content). c.pins) (object_at rows n) 0 ≤ length (pins_in rows)
        → option_map_or (λ (c : Content). c.pins) (object_at (row ∷ rows) n) 0 ≤ length (pins_in (row ∷ rows))
    go true p rest = rw p (omega (arith, length-more row.1.pins row.0.birth (pins_in rows)))
    go false p rest = rw p (omega (arith, rest, length-more row.1.pins row.0.birth (pins_in rows)))

pub pins-room : (v : Objects) → OnlyRootPinned v → (n : ℕ) → pins_of v n < 2 ^ 32
pins-room v only n =
    let one : length (pins_in v.rows) ≡ 1 = ap (λ (l : List ℕ). length l) only in
    omega (arith, pins-within n v.rows, one)

-- the same pins

-- an object of a heap was changed, but not its pins
pub edited-pins : (v w : Objects) (n : ℕ) (f : Content → Content) → ((c : Content) → (f c).pins ≡ c.pins) → w ≡ with_edit n f v
    → pins_in w.rows ≡ pins_in v.rows
edited-pins v w n f same is = ap (λ (x : Objects). pins_in x.rows) is ∙ pins-edited n f same v.rows

-- what was held is let go
pub hold-pins : (held : Option ℕ) (v w : Objects) → Goes (λ b. after finalize b held) v w → pins_in w.rows ≡ pins_in v.rows
hold-pins held v w goes =
    let s = goes.shown (tree v) empty_log (tree-shows v) in
    sym s.pins ∙ go held
  where
    by : (n : ℕ) (t : Bool) → (refs (tree v) n == 0) ≡ t → (after finalize (tree v) (Some n)).pins ≡ pins_in v.rows
    by n true p = rw (after, p) (release_leaves (tree v) n).pins
    by n false p = rw (after, p) refl

    go : (o : Option ℕ) → (after finalize (tree v) o).pins ≡ pins_in v.rows
    go None = refl
    go (Some n) = by n (refs (tree v) n == 0) refl

-- the opening board
pub opening-pinned : (v : Objects) → Shows opening_board v → OnlyRootPinned v
unfolding opening_board
opening-pinned v s = sym s.pins

-- a step that keeps the pins of boards of which birth 1 alone is pinned
pub goes-pins : (step : Board → Board) (v w : Objects) → Goes step v w → OnlyRootPinned v → ((b : Board) → b.pins ≡ 1 ∷ [] → (step b).pins ≡ 1 ∷ [])
    → OnlyRootPinned w
goes-pins step v w goes only keeps =
    let s = goes.shown (tree v) empty_log (tree-shows v) in
    sym s.pins ∙ keeps (tree v) only

-- letting a slot go keeps the pins
pub let_go-same : (n i : ℕ) (v w : Objects) → Goes (λ b. let_go b n i) v w → pins_in w.rows ≡ pins_in v.rows
let_go-same n i v w goes =
    let s = goes.shown (tree v) empty_log (tree-shows v) in
    sym s.pins ∙ (let_go-leaves (tree v) n i).pins

-- severing: the pin of meanwhile goes again

pub severed-keeps : (n : ℕ) (b : Board) → b.pins ≡ 1 ∷ [] → (severed b n).pins ≡ 1 ∷ []
unfolding pin
severed-keeps n b only =
    let c : Board = severed_from (length (slots_at b n)) 0 n (pin b n) in
    let pins : c.pins ≡ put_in_order n (1 ∷ []) = severed-pins (length (slots_at b n)) 0 n (pin b n) ∙ ap (put_in_order n) only in
    unpin-pins c n (ap (list_any (nat_eq n)) pins ∙ put-among n (1 ∷ [])) ∙ ap (without_first n) pins ∙ put-back n (1 ∷ []) (tt, tt)
