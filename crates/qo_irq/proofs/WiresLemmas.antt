-- Gates with the values last set.
use Rattle.std.proofs.Common.{◌≡◌, ℕ, zero, suc, ◌+◌, ◌<◌, Bool, true, false, cond, List, [], ◌∷◌, ◌++◌, length, refl, ap, ap₂, arith, sym, ◌∙◌, count_by}
use Rattle.std.proofs.Math.ListN.{set}
use Rattle.std.proofs.lemmas.List.Sums.{sum_by-cons}
use Rattle.qo_irq.specs.declared.gate.Gate.{Gate}
use Rattle.qo_irq.specs.declared.gate.Gate.TheVariants.{Input, Or, Copy, Off}
use Rattle.qo_irq.specs.Wires.{input, wire_of, is_input, wire_at, names_below, level_at}
use Rattle.qo_irq.specs.Kept.{wires_of, gate_at, input_count}

pub wires-length : (gates : List Gate) (levels : List Bool) → length (wires_of gates levels) ≡ length gates
wires-length [] levels = refl
wires-length (g ∷ gates) [] = ap suc (wires-length gates [])
wires-length (g ∷ gates) (b ∷ levels) = ap suc (wires-length gates levels)

pub wires-at : (gates : List Gate) (levels : List Bool) (line : ℕ) → line < length gates
    → wire_at (wires_of gates levels) line ≡ wire_of (gate_at gates line) (level_at levels line)
wires-at [] levels line within = absurd (omega arith)
wires-at (g ∷ gates) [] zero within = refl
wires-at (g ∷ gates) [] (suc line) within = wires-at gates [] line (omega arith)
wires-at (g ∷ gates) (b ∷ levels) zero within = refl
wires-at (g ∷ gates) (b ∷ levels) (suc line) within = wires-at gates levels line (omega arith)

pub wires-append : (gates : List Gate) (levels : List Bool) (g : Gate) (b : Bool) → length levels ≡ length gates
    → wires_of (gates ++ g ∷ []) (levels ++ b ∷ []) ≡ wires_of gates levels ++ wire_of g b ∷ []
wires-append [] [] g b same = refl
wires-append [] (c ∷ levels) g b same = absurd (omega arith)
wires-append (h ∷ gates) [] g b same = absurd (omega arith)
wires-append (h ∷ gates) (c ∷ levels) g b same = ap (λ ws. wire_of h c ∷ ws) (wires-append gates levels g b (omega arith))

-- whether it is an input does not depend on what was set
pub input-any : (g : Gate) (a b : Bool) → is_input (wire_of g a) ≡ is_input (wire_of g b)
input-any Input a b = refl
input-any (Or lines) a b = refl
input-any (Copy line) a b = refl
input-any (Off line by) a b = refl

pub below-any : (n : ℕ) (g : Gate) (a b : Bool) → names_below n (wire_of g a) ≡ names_below n (wire_of g b)
below-any n Input a b = refl
below-any n (Or lines) a b = refl
below-any n (Copy line) a b = refl
below-any n (Off line by) a b = refl

-- only the value of an input counts
pub wire-same : (g : Gate) (a b : Bool) → (is_input (wire_of g false) ≡ true → a ≡ b) → wire_of g a ≡ wire_of g b
wire-same Input a b same = ap input (same refl)
wire-same (Or lines) a b same = refl
wire-same (Copy line) a b same = refl
wire-same (Off line by) a b same = refl

wire-input : (g : Gate) (b : Bool) → is_input (wire_of g false) ≡ true → wire_of g b ≡ input b
wire-input Input b is = refl
wire-input (Or lines) b is = cc
wire-input (Copy line) b is = cc
wire-input (Off line by) b is = cc

wires-same : (gates : List Gate) (old new : List Bool) → length old ≡ length gates → length new ≡ length gates
    → ((i : ℕ) → is_input (wire_of (gate_at gates i) false) ≡ true → level_at new i ≡ level_at old i) → wires_of gates new ≡ wires_of gates old
wires-same [] old new olds news same = refl
wires-same (g ∷ gates) [] new olds news same = absurd (omega arith)
wires-same (g ∷ gates) (a ∷ old) [] olds news same = absurd (omega arith)
wires-same (g ∷ gates) (a ∷ old) (b ∷ new) olds news same =
    ap₂ (λ w ws. w ∷ ws) (wire-same g b a (same zero)) (wires-same gates old new (omega arith) (omega arith) (λ i is. same (suc i) is))

-- an input is set, and the other inputs stay
pub wires-set : (gates : List Gate) (old new : List Bool) (line : ℕ) (high : Bool) → length old ≡ length gates → length new ≡ length gates
    → line < length gates → is_input (wire_of (gate_at gates line) false) ≡ true → level_at new line ≡ high
    → ((i : ℕ) → is_input (wire_of (gate_at gates i) false) ≡ true → level_at new i ≡ level_at (set old line high) i)
    → wires_of gates new ≡ set (wires_of gates old) line (input high)
wires-set [] old new line high olds news within is now same = absurd (omega arith)
wires-set (g ∷ gates) [] new line high olds news within is now same = absurd (omega arith)
wires-set (g ∷ gates) (a ∷ old) [] line high olds news within is now same = absurd (omega arith)
wires-set (g ∷ gates) (a ∷ old) (b ∷ new) zero high olds news within is now same =
    ap₂ (λ w ws. w ∷ ws) (wire-input g b is ∙ ap input now) (wires-same gates old new (omega arith) (omega arith) (λ i is'. same (suc i) is'))
wires-set (g ∷ gates) (a ∷ old) (b ∷ new) (suc line) high olds news within is now same =
    ap₂ (λ w ws. w ∷ ws) (wire-same g b a (same zero))
    (wires-set gates old new line high (omega arith) (omega arith) (omega arith) is now (λ i is'. same (suc i) is'))

count-cons : {X : Type 0} (p : X → Bool) (x : X) (xs : List X) → count_by p (x ∷ xs) ≡ cond (p x) 1 0 + count_by p xs
count-cons p x xs = sum_by-cons (λ y. cond (p y) 1 0) x xs

pub inputs-counted : (gates : List Gate) (levels : List Bool) → count_by is_input (wires_of gates levels) ≡ input_count gates
inputs-counted [] levels = refl
inputs-counted (g ∷ gates) [] =
    count-cons is_input (wire_of g false) (wires_of gates []) ∙ ap (λ n. cond (is_input (wire_of g false)) 1 0 + n) (inputs-counted gates [])
    ∙ sym (count-cons (λ h. is_input (wire_of h false)) g gates)
inputs-counted (g ∷ gates) (b ∷ levels) =
    count-cons is_input (wire_of g b) (wires_of gates levels)
    ∙ ap₂ (λ (is : Bool) (n : ℕ). cond is 1 0 + n) (input-any g b false) (inputs-counted gates levels)
    ∙ sym (count-cons (λ h. is_input (wire_of h false)) g gates)
