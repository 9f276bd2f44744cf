-- The levels of lines whose gates name lower lines.
use Rattle.std.proofs.Common.{◌≡◌, ℕ, zero, suc, ◌<◌, Bool, true, false, List, [], ◌∷◌, length, ltb, eqb, refl, arith, ◌∙◌}
use Rattle.std.proofs.lemmas.Bool.{and_parts, or_parts, ltb-true, eqb-false}
use Rattle.std.specs.List.{list_any, list_all}
use Rattle.qo_irq.specs.declared.gate.Gate.{Gate}
use Rattle.qo_irq.specs.declared.gate.Gate.TheVariants.{Input, Or, Copy, Off}
use Rattle.qo_irq.specs.Wires.{Wire, input, or, copy, off, wire_of, wire_at, names_below, gate_level, level_within, line_level}
use Rattle.qo_irq.specs.Laws.{NamesLower, LawGates}
use Rattle.qo_irq.specs.Kept.{names}

-- levels that agree below a number
any-agree : (f g : ℕ → Bool) (n : ℕ) (xs : List ℕ) → list_all (λ x. ltb x n) xs ≡ true → ((x : ℕ) → x < n → f x ≡ g x) → list_any f xs ≡ list_any g xs
any-agree f g n [] below same = refl
any-agree f g n (x ∷ xs) below same =
    let parts = and_parts (ltb x n) (list_all (λ y. ltb y n) xs) below in
    rw (same x (ltb-true x n parts.0), any-agree f g n xs parts.1 same) refl

pub gate_level-agree : (f g : ℕ → Bool) (n : ℕ) (wire : Wire) → names_below n wire ≡ true → ((x : ℕ) → x < n → f x ≡ g x) → gate_level f wire ≡ gate_level g wire
gate_level-agree f g n (input high) below same = refl
gate_level-agree f g n (or lines) below same = any-agree f g n lines below same
gate_level-agree f g n (copy line) below same = same line (ltb-true line n below)
gate_level-agree f g n (off line by) below same =
    let parts = and_parts (ltb line n) (ltb by n) below in
    rw (same line (ltb-true line n parts.0), same by (ltb-true by n parts.1)) refl

-- levels that agree at all lines but one, which is not named
any-other : (f g : ℕ → Bool) (x : ℕ) (ys : List ℕ) → list_any (λ y. eqb x y) ys ≡ false → ((y : ℕ) → (x ≡ y → ⊥) → f y ≡ g y) → list_any f ys ≡ list_any g ys
any-other f g x [] unnamed same = refl
any-other f g x (y ∷ ys) unnamed same =
    let parts = or_parts (eqb x y) (list_any (λ z. eqb x z) ys) unnamed in
    rw (same y (eqb-false x y parts.0), any-other f g x ys parts.1 same) refl

pub gate_level-other : (f g : ℕ → Bool) (x : ℕ) (gate : Gate) (b : Bool) → names x gate ≡ false → ((y : ℕ) → (x ≡ y → ⊥) → f y ≡ g y)
    → gate_level f (wire_of gate b) ≡ gate_level g (wire_of gate b)
gate_level-other f g x Input b unnamed same = refl
gate_level-other f g x (Or lines) b unnamed same = any-other f g x lines.items unnamed same
gate_level-other f g x (Copy line) b unnamed same = same line (eqb-false x line unnamed)
gate_level-other f g x (Off line by) b unnamed same =
    let parts = or_parts (eqb x line) (eqb x by) unnamed in
    rw (same line (eqb-false x line parts.0), same by (eqb-false x by parts.1)) refl

-- more gates in a row than the number of the line make no difference
pub enough : (wires : List Wire) (m n line : ℕ) → NamesLower wires → line < m → line < n → line < length wires
    → level_within m wires line ≡ level_within n wires line
unfolding level_within
enough wires zero n line lower below-m below-n within = absurd (omega arith)
enough wires (suc m) zero line lower below-m below-n within = absurd (omega arith)
enough wires (suc m) (suc n) line lower below-m below-n within = step (λ x less. enough wires m n x lower (omega arith) (omega arith) (omega arith))
  where
    step : ((x : ℕ) → x < line → level_within m wires x ≡ level_within n wires x) → level_within (suc m) wires line ≡ level_within (suc n) wires line
    step same = gate_level-agree (level_within m wires) (level_within n wires) line (wire_at wires line) (lower line within) same

pub law-gates : LawGates
unfolding level_within
law-gates wires lower line within =
    gate_level-agree (level_within line wires) (line_level wires) line (wire_at wires line) (lower line within)
    (λ x less. enough wires line (suc x) x lower less (omega arith) (omega arith))

-- levels that each gate agrees with are the levels of the lines
settled-within : (f : ℕ → Bool) (wires : List Wire) (n line : ℕ) → NamesLower wires → ((i : ℕ) → i < length wires → f i ≡ gate_level f (wire_at wires i))
    → line < n → line < length wires → f line ≡ level_within n wires line
unfolding level_within
settled-within f wires zero line lower settled below within = absurd (omega arith)
settled-within f wires (suc n) line lower settled below within =
    step (λ x less. settled-within f wires n x lower settled (omega arith) (omega arith))
  where
    step : ((x : ℕ) → x < line → f x ≡ level_within n wires x) → f line ≡ level_within (suc n) wires line
    step same = settled line within ∙ gate_level-agree f (level_within n wires) line (wire_at wires line) (lower line within) same

pub settled-levels : (f : ℕ → Bool) (wires : List Wire) (line : ℕ) → NamesLower wires → ((i : ℕ) → i < length wires → f i ≡ gate_level f (wire_at wires i))
    → line < length wires → f line ≡ line_level wires line
settled-levels f wires line lower settled within = settled-within f wires (suc line) line lower settled (omega arith) within
