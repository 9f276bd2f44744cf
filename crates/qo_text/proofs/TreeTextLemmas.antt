-- The lines of the tree of objects, one after another.
use Rattle.std.proofs.Common.{◌≡◌, ℕ, suc, ◌+◌, ◌-◌, List, [], ◌∷◌, ◌++◌, codes, length, refl, sym, ap, ◌∙◌, subst, append_assoc, append-nil, arith}
use Rattle.std.proofs.Common.{Option, None, Some, option_map, true, false}
use Rattle.std.specs.Prelude.{flat_map}
use Rattle.std.specs.Option.{option_map_or}
use Rattle.std.proofs.lemmas.List.Concat.{flat_map-append}
use Rattle.qo_slots.specs.declared.keys.Key.{Key}
use Rattle.qo_object.specs.declared.slots.Slot.{Slot}
use Rattle.qo_object.specs.declared.slots.Slot.TheVariants.{Plain, Child, Link, Alias}
use Rattle.qo_object.specs.BoardObject.{shown_slot, shown_slots}
use Rattle.qo_object.specs.Content.{Content}
use Rattle.qo_object.proofs.BoardObjectLemmas.{length-shown}
use Rattle.qo_heap.specs.Board.{Shows}
use Rattle.qo_heap.specs.Objects.{Objects, content_of, slots_of}
use Rattle.qo_heap.proofs.BoardReads.{shows-kind, shows-size, shows-slots}
use Rattle.qo_model.specs.Board as board
use Rattle.qo_model.specs.Depth.{by_depth}
use Rattle.qo_model.specs.Paths.{births}
use Rattle.qo_model.proofs.DepthLemmas.{one-less}
use Rattle.qo_text.specs.Trees.{Row, below_turn, child_entries, child_entry, child_rows, row_of, row_text, rows_below, tree_text}

abbrev Entry : Type 0
Entry = List ℕ × ℕ

-- what is below an object, so many levels deep
abbrev pub rows_to : board.Board → ℕ → ℕ → ℕ → List Row
rows_to b levels n depth = by_depth (below_turn b) (λ _ _. []) levels n depth

-- the lines of a child, and of what is below it
abbrev pub child_text : board.Board → ℕ → ℕ → Entry → List ℕ
child_text b levels depth e = flat_map row_text (child_rows b (rows_to b levels) depth e)

-- as many slots as the heap has there
pub all-slots : (b : board.Board) (v : Objects) → Shows b v → (n count : ℕ) → count ≡ length (slots_of v n) → length (board.slots_at b n) ≡ count
all-slots b v s n count is = ap (λ (l : List (List ℕ × board.Slot)). length l) (shows-slots b v s n) ∙ length-shown (slots_of v n) ∙ sym is

-- an object that is not there has no slots and no type
pub slots-gone : (b : board.Board) (v : Objects) → Shows b v → (n : ℕ) → content_of v n ≡ None → board.slots_at b n ≡ []
slots-gone b v s n gone = shows-slots b v s n ∙ ap (λ (o : Option Content). shown_slots (option_map_or (λ (c : Content). c.slots) o [])) gone

pub kind-gone : (b : board.Board) (v : Objects) → Shows b v → (n : ℕ) → content_of v n ≡ None → board.kind_of b n ≡ None
kind-gone b v s n gone = shows-kind b v s n ∙ ap (option_map (λ (c : Content). c.kind)) gone

-- no child stands in a slot that is none of a child
pub no-child : (name : List ℕ) (what : Slot) → ((key : Key) → what ≡ Child key → ⊥) → child_entry (name, shown_slot what) ≡ None
no-child name (Plain val) other = refl
no-child name (Child key) other = absurd (other key refl)
no-child name (Link ty true target) other = refl
no-child name (Link ty false target) other = refl
no-child name (Alias key of) other = refl

-- nothing is put where there is nothing
pub put-none : {T : Type 0} (g : T → List ℕ) (o : Option T) (text : List ℕ) → None ≡ o → text ≡ text ++ option_map_or g o []
put-none {T} g o text is = subst (λ (x : Option T). text ≡ text ++ option_map_or g x []) is (sym (append-nil text))

-- what is put where there is one
pub put-some : {T : Type 0} (g : T → List ℕ) (y : T) (o : Option T) (text next : List ℕ) → next ≡ text ++ g y → Some y ≡ o → next ≡ text ++ option_map_or g o []
put-some {T} g y o text next so is = subst (λ (x : Option T). next ≡ text ++ option_map_or g x []) is so

-- the line of a child, and then the lines of what is below it
pub child-put : (b : board.Board) (levels depth : ℕ) (e : Entry) (o : Option Entry) (text row below : List ℕ)
    → row ≡ text ++ row_text (row_of b (depth + 1) e) → below ≡ row ++ flat_map row_text (rows_to b levels e.1 (depth + 1)) → Some e ≡ o
    → below ≡ text ++ option_map_or (child_text b levels depth) o []
child-put b levels depth e o text row below first then is =
    let one : depth + 1 ≡ suc depth = omega arith in
    put-some (child_text b levels depth) e o text below
    (
    then ∙ ap (λ (l : List ℕ). l ++ flat_map row_text (rows_to b levels e.1 (depth + 1))) first
    ∙ append_assoc text (row_text (row_of b (depth + 1) e)) (flat_map row_text (rows_to b levels e.1 (depth + 1)))
    ∙ ap (λ (k : ℕ). text ++ (row_text (row_of b k e) ++ flat_map row_text (rows_to b levels e.1 k))) one
    )
    is

nested : (h : Entry → List Row) (es : List Entry) → flat_map row_text (flat_map h es) ≡ flat_map (λ (e : Entry). flat_map row_text (h e)) es
nested h [] = refl
nested h (e ∷ es) = flat_map-append row_text (h e) (flat_map h es) ∙ ap (λ (l : List ℕ). flat_map row_text (h e) ++ l) (nested h es)

-- the lines of all children are those of what is below
pub below-text : (b : board.Board) (levels n depth : ℕ) → (levels ≡ 0 → ⊥)
    → flat_map (child_text b (levels - 1) depth) (child_entries b n) ≡ flat_map row_text (rows_to b levels n depth)
below-text b levels n depth some =
    sym (
    ap (λ (k : ℕ). flat_map row_text (rows_to b k n depth)) (one-less levels some)
    ∙ nested (child_rows b (rows_to b (levels - 1)) depth) (child_entries b n)
    )

-- no levels, no lines
pub below-none : (b : board.Board) (levels n depth : ℕ) (text : List ℕ) → levels ≡ 0 → text ≡ text ++ flat_map row_text (rows_to b levels n depth)
below-none b levels n depth text none = rw none (sym (append-nil text))

-- the whole tree
pub tree-empty : (b : board.Board) (v : Objects) → Shows b v → content_of v 1 ≡ None → codes "/ ()\n" ≡ tree_text b
unfolding rows_below
tree-empty b v s gone =
    let slots : board.slots_at b 1 ≡ [] = slots-gone b v s 1 gone in
    let kind : board.kind_of b 1 ≡ None = kind-gone b v s 1 gone in
    rw (kind, slots) refl

pub tree-whole : (b : board.Board) (v : Objects) → Shows b v → (levels root : ℕ) (empty row whole : List ℕ) → root ≡ 1 → levels ≡ length v.rows
    → empty ≡ [] → row ≡ empty ++ row_text (row_of b 0 ([], root)) → whole ≡ row ++ flat_map row_text (rows_to b (levels + 1) root 0)
    → whole ≡ tree_text b
unfolding rows_below
tree-whole b v s levels root empty row whole first size none so then =
    let all : levels + 1 ≡ suc (length (births b)) = let k = shows-size b v s in omega (arith, k, size) in
    then ∙ ap (λ (l : List ℕ). l ++ flat_map row_text (rows_to b (levels + 1) root 0)) (so ∙ ap (λ (l : List ℕ). l ++ row_text (row_of b 0 ([], root))) none)
    ∙ ap (λ (n : ℕ). row_text (row_of b 0 ([], n)) ++ flat_map row_text (rows_to b (levels + 1) n 0)) first
    ∙ ap (λ (k : ℕ). row_text (row_of b 0 ([], 1)) ++ flat_map row_text (rows_to b k 1 0)) all
