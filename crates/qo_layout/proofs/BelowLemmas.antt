-- The lines of all that is below an object, slot after slot.
use Rattle.std.proofs.Common.{◌≡◌, refl, ap, sym, subst, ◌∙◌, append-nil, ℕ, zero, suc, ◌+◌, ◌<◌, ◌≤◌, Bool, true, false, List, [], ◌∷◌, ◌++◌, filter_map, length, slice_get, take, option_and_then, Option, Some, None, Result, Err, codes, arith}
use Rattle.std.specs.Prelude.{IfErr, IfSome}
use Rattle.std.specs.List.{cons_option}
use Rattle.std.specs.Option.{option_to_list}
use Rattle.std.proofs.lemmas.Bool.{lt-ltb}
use Rattle.std.proofs.lemmas.List.{take_all}
use Rattle.qo_irq.specs.Wires.{Wire, names_below, or}
use Rattle.qo_irq.specs.declared.errors.NetError.{NetError}
use Rattle.qo_irq.specs.declared.errors.NetError.TheVariants.{Memory}
use Rattle.qo_model.specs.Board.{Board, Slot, slots_at}
use Rattle.qo_model.specs.Paths.{is_of}
use Rattle.qo_model.specs.Reset.{below}
use Rattle.qo_heap.specs.Board.{Shows}
use Rattle.qo_heap.specs.Objects.{Objects, slots_of}
use Rattle.qo_sound_shapes.specs.SoundShape.{SoundShape}
use Rattle.qo_layout.specs.Numbering.{NoneBefore, below_at, below_in, first_below, is_leaf}
use Rattle.qo_layout.specs.Growth.{HasAll, HasMore}
use Rattle.qo_layout.specs.Registers.{registers_at}
use Rattle.qo_layout.specs.Rows.{AreLines, AreRows, HasRow, wiring}
use Rattle.qo_layout.specs.declared.wiring.Row.{Row}
use Rattle.qo_layout.specs.declared.wiring.Wiring.{Wiring}
use Rattle.qo_layout.specs.declared.wiring.Wiring.TheVariants.{Joined, Masked, Own}
use Rattle.qo_layout.proofs.LeafLemmas.{none-first}
use Rattle.qo_layout.proofs.NumberingLemmas.{below-all, slots-shown}

-- one line more
lines-push : (rows : List Row) (os lines : List ℕ) (o line : ℕ) → AreLines rows os lines → HasRow rows o line
    → AreLines rows (os ++ o ∷ []) (lines ++ line ∷ [])
lines-push rows [] [] o line are has = (has, tt)
lines-push rows [] (l ∷ lines) o line are has = absurd are
lines-push rows (x ∷ os) [] o line are has = absurd are
lines-push rows (x ∷ os) (l ∷ lines) o line are has = (are.0, lines-push rows os lines o line are.1 has)

-- one slot more
filter-next : {X : Type 0} (g : X → Option ℕ) (xs : List X) (i : ℕ) → i < length xs
    → filter_map g (take (i + 1) xs) ≡ filter_map g (take i xs) ++ option_to_list (option_and_then g (slice_get xs i))
filter-next g [] i low = absurd (omega (arith, low))
filter-next g (x ∷ xs) zero low = first (g x)
  where
    first : (o : Option ℕ) → cons_option o [] ≡ option_to_list o
    first None = refl
    first (Some m) = refl
filter-next g (x ∷ xs) (suc i) low =
    let next : suc i + 1 ≡ suc (i + 1) = omega arith in
    ap (λ (n : ℕ). filter_map g (take n (x ∷ xs))) next ∙ ap (λ (ms : List ℕ). cons_option (g x) ms) (filter-next g xs i (omega (arith, low)))
    ∙ apart (g x) (filter_map g (take i xs)) (option_to_list (option_and_then g (slice_get xs i)))
  where
    apart : (o : Option ℕ) (ms more : List ℕ) → cons_option o (ms ++ more) ≡ cons_option o ms ++ more
    apart None ms more = refl
    apart (Some m) ms more = refl

pub lines-first : (b : Board) (rows : List Row) (n at : ℕ) (bus : Bool) (lines : List ℕ) → bus ≡ is_of b (codes "bus") n → NoneBefore b n at → lines ≡ []
    → AreLines rows (filter_map (below_in b bus) (take at (slots_at b n))) lines
lines-first b rows n at bus lines is none e = rw (is, none, e) tt

pub lines-next : (b : Board) (v : Objects) → Shows b v → (rows : List Row) (n at count : ℕ) (bus : Bool) (old new : List ℕ) → count ≡ length (slots_of v n)
    → at < count
    → AreLines rows (filter_map (below_in b bus) (take at (slots_at b n))) old → HasMore rows (below_at b bus n at) old new
    → AreLines rows (filter_map (below_in b bus) (take (at + 1) (slots_at b n))) new
lines-next b v s rows n at count bus old new all low before more =
    subst (λ (os : List ℕ). AreLines rows os new) (sym (filter-next (below_in b bus) (slots_at b n) at (omega (arith, slots-shown b v s n, all, low))))
    (go (below_at b bus n at) more)
  where
    os : List ℕ
    os = filter_map (below_in b bus) (take at (slots_at b n))

    go : (o : Option ℕ) → HasMore rows o old new → AreLines rows (os ++ option_to_list o) new
    go None same = rw (append-nil os, same) before
    go (Some m) (line, has, is) = rw is (lines-push rows os old m line before has)

-- all slots
pub lines-all : (b : Board) (v : Objects) → Shows b v → (rows : List Row) (n at count : ℕ) (bus : Bool) (lines : List ℕ) → count ≡ length (slots_of v n)
    → count ≤ at
    → bus ≡ is_of b (codes "bus") n → AreLines rows (filter_map (below_in b bus) (take at (slots_at b n))) lines → AreLines rows (below b n) lines
lines-all b v s rows n at count bus lines all last is before =
    subst (λ (os : List ℕ). AreLines rows os lines)
    (ap (λ (xs : List (List ℕ × Slot)). filter_map (below_in b bus) xs) (take_all at (slots_at b n) (omega (arith, slots-shown b v s n, all, last)))
    ∙ below-all b n bus is)
    before

-- nothing is below an object in whose slots nothing can be
pub lines-none : (b : Board) (v : Objects) → Shows b v → SoundShape b → (rows : List Row) (o : ℕ) (driven : Wiring) (count first : ℕ)
    → driven ≡ wiring (registers_at b o) → count ≡ length (slots_of v o) → first ≡ first_below driven count → first ≡ count
    → AreLines rows (below b o) []
lines-none b v s shape rows o driven count first is all e last =
    let none : NoneBefore b o first = none-first b v s shape o driven count first is all e in
    lines-all b v s rows o first count (is_of b (codes "bus") o) [] all (omega (arith, last)) refl
    (lines-first b rows o first (is_of b (codes "bus") o) [] refl none refl)

leaf-last : (driven : Wiring) (count : ℕ) → is_leaf driven ≡ true → count ≡ first_below driven count
leaf-last Own count e = refl
leaf-last Masked count e = absurd (let clash : false ≡ true = e in cc)
leaf-last Joined count e = absurd (let clash : false ≡ true = e in cc)

-- so it is with a leaf
pub leaf-none : (b : Board) (v : Objects) → Shows b v → SoundShape b → (rows : List Row) (o : ℕ) (driven : Wiring) → driven ≡ wiring (registers_at b o)
    → is_leaf driven ≡ true → AreLines rows (below b o) []
leaf-none b v s shape rows o driven is leaf =
    let count = length (slots_of v o) in
    lines-none b v s shape rows o driven count count is refl (leaf-last driven count leaf) refl

-- what is in a slot has a line, where all that is below the object has one
all-at : {X : Type 0} (rows : List Row) (g : X → Option ℕ) (xs : List X) (i : ℕ) → HasAll rows (filter_map g xs)
    → IfSome (option_and_then g (slice_get xs i)) (λ o. (line : ℕ) × HasRow rows o line)
all-at rows g [] i all = tt
all-at {X} rows g (x ∷ xs) zero all = go (g x) all
  where
    go : (o : Option ℕ) → HasAll rows (cons_option o (filter_map g xs)) → IfSome o (λ o. (line : ℕ) × HasRow rows o line)
    go None h = tt
    go (Some m) h = h.0
all-at {X} rows g (x ∷ xs) (suc i) all = all-at rows g xs i (go (g x) all)
  where
    go : (o : Option ℕ) → HasAll rows (cons_option o (filter_map g xs)) → HasAll rows (filter_map g xs)
    go None h = h
    go (Some m) h = h.1

pub all-slot : (b : Board) (rows : List Row) (n at : ℕ) (bus : Bool) → bus ≡ is_of b (codes "bus") n → HasAll rows (below b n)
    → IfSome (below_at b bus n at) (λ o. (line : ℕ) × HasRow rows o line)
all-slot b rows n at bus is all =
    all-at rows (below_in b bus) (slots_at b n) at (subst (λ (os : List ℕ). HasAll rows os) (sym (below-all b n bus is)) all)

-- each of these lines is there
pub lines-there : (rows : List Row) (wires : List Wire) → AreRows rows wires → (os lines : List ℕ) → AreLines rows os lines
    → names_below (length wires) (or lines) ≡ true
lines-there rows wires r [] [] are = refl
lines-there rows wires r [] (line ∷ lines) are = absurd are
lines-there rows wires r (o ∷ os) [] are = absurd are
lines-there rows wires r (o ∷ os) (line ∷ lines) are =
    let has = are.0 in
    let low : line < length wires = omega (arith, r.within has.place has.within, has.line_is) in
    rw (lt-ltb line (length wires) low, lines-there rows wires r os lines are.1) refl

-- an answer that is this error
pub err-memory : {T : Type 0} (r : Result T NetError) (e : NetError) → r ≡ Err e → e ≡ Memory → IfErr r (λ x. x ≡ Memory)
err-memory r e is memory = subst (λ x. IfErr x (λ y. y ≡ Memory)) (sym is) memory
