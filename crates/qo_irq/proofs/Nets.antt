-- What a net keeps, and how it grows.
use Rattle.std.proofs.Common.{◌≡◌, ◌≢◌, ℕ, zero, suc, ◌+◌, ◌<◌, ◌≤◌, Bool, true, false, cond, List, [], ◌∷◌, ◌++◌, length, get_or, take, drop, refl, ap, arith, sym, ◌∙◌, ◌⊎◌, inl, inr, ⊎_elim, length-append, get_or-set_same, get_or-set_other}
use mathlib.Core.Bool.{beq}
use Rattle.std.proofs.Math.ListN.{set}
use Rattle.std.proofs.Math.Seq.{get_or-append_seam, take-append_seam}
use Rattle.std.proofs.lemmas.Bool.{cases_eq, cases_lt, true≢false}
use Rattle.std.proofs.lemmas.List.{get_or_past, get_or_append_left}
use Rattle.std.proofs.lemmas.List.Sums.{sum_by_push}
use Rattle.qo_irq.specs.declared.gate.Gate.{Gate}
use Rattle.qo_irq.specs.declared.gate.Gate.TheVariants.{Input, Or, Copy, Off}
use Rattle.qo_irq.specs.declared.net.TheConstants.{MAX_LINES}
use Rattle.qo_irq.specs.Wires.{input, wire_of, wire_at, is_input, names_below, gate_level, line_level, level_at}
use Rattle.qo_irq.specs.Laws.{NamesLower}
use Rattle.qo_irq.specs.Kept.{wires_of, gate_at, names, depends, dependants_at, IsSettled, AreWired, AreCalm, input_count, IsKept}
use Rattle.qo_irq.proofs.Levels.{settled-levels, gate_level-agree}
use Rattle.qo_irq.proofs.Spreads.{stays-settled, unnamed, input-level}
use Rattle.qo_irq.proofs.WiresLemmas.{wires-length, wires-at, wires-append, wires-set, below-any, input-any, wire-same}

-- each gate names lower lines
pub kept-lower : (gates : List Gate) (levels : List Bool) (dependants : List (List ℕ)) → AreWired gates dependants → NamesLower (wires_of gates levels)
kept-lower gates levels dependants wired line within =
    let there : line < length gates = rw (← wires-length gates levels) within in
    rw (wires-at gates levels line there, below-any line (gate_at gates line) (level_at levels line) false) (wired.lower line there)

-- the level that is kept is the line's
pub kept-level : (gates : List Gate) (dependants : List (List ℕ)) (levels pending : List Bool) (inputs line : ℕ) → IsKept gates dependants levels pending inputs
    → line < length gates → level_at levels line ≡ line_level (wires_of gates levels) line
kept-level gates dependants levels pending inputs line kept within =
    settled-levels (level_at levels) (wires_of gates levels) line (kept-lower gates levels dependants kept.wired)
    (λ i there. let in_gates : i < length gates = rw (← wires-length gates levels) there in rw (wires-at gates levels i in_gates) (kept.settled i in_gates))
    (rw (wires-length gates levels) within)

-- one more of what stands behind the end makes no difference
append-default : {X : Type 0} (xs : List X) (d : X) (i : ℕ) → get_or (xs ++ d ∷ []) i d ≡ get_or xs i d
append-default [] d zero = refl
append-default [] d (suc i) = refl
append-default (x ∷ xs) d zero = refl
append-default (x ∷ xs) d (suc i) = append-default xs d i

-- the level of a line that is added
own-grown : (g : Gate) (levels : List Bool) (b : Bool) → names_below (length levels) (wire_of g false) ≡ true
    → b ≡ gate_level (level_at levels) (wire_of g (level_at levels (length levels)))
    → b ≡ gate_level (level_at (levels ++ b ∷ [])) (wire_of g b)
own-grown Input levels b below is = refl
own-grown (Or lines) levels b below is =
    is ∙ gate_level-agree (level_at levels) (level_at (levels ++ b ∷ [])) (length levels) (wire_of (Or lines) b) below
    (λ x less. sym (get_or_append_left levels (b ∷ []) false x less))
own-grown (Copy line) levels b below is =
    is ∙ gate_level-agree (level_at levels) (level_at (levels ++ b ∷ [])) (length levels) (wire_of (Copy line) b) below
    (λ x less. sym (get_or_append_left levels (b ∷ []) false x less))
own-grown (Off line by) levels b below is =
    is ∙ gate_level-agree (level_at levels) (level_at (levels ++ b ∷ [])) (length levels) (wire_of (Off line by) b) below
    (λ x less. sym (get_or_append_left levels (b ∷ []) false x less))

-- the gate of a line that was there, and of the new one
gate-old : (gates : List Gate) (g : Gate) (line : ℕ) → line < length gates → gate_at (gates ++ g ∷ []) line ≡ gate_at gates line
gate-old gates g line within = get_or_append_left gates (g ∷ []) Input line within

gate-new : (gates : List Gate) (g : Gate) (line : ℕ) → line ≡ length gates → gate_at (gates ++ g ∷ []) line ≡ g
gate-new gates g line last = rw last (get_or-append_seam gates g [] Input)

-- a line is one that was there, or the new one
new-or-old : (gates : List Gate) (g : Gate) (line : ℕ) → line < length (gates ++ g ∷ []) → (line < length gates) ⊎ (line ≡ length gates)
new-or-old gates g line within = ⊎_elim (λ old. inl old) (λ past. inr (omega (arith, length-append gates (g ∷ [])))) (cases_lt line (length gates))

-- a line that is settled stays so
old-settled : (gates : List Gate) (g : Gate) (levels : List Bool) (b : Bool) (line : ℕ) → line < length gates → length levels ≡ length gates
    → names_below line (wire_of (gate_at gates line) false) ≡ true → IsSettled gates levels line → IsSettled (gates ++ g ∷ []) (levels ++ b ∷ []) line
old-settled gates g levels b line within same below settled =
    let there : line < length levels = omega arith in
    let now : level_at (levels ++ b ∷ []) line ≡ level_at levels line = get_or_append_left levels (b ∷ []) false line there in
    rw (gate-old gates g line within, now) (settled ∙ gate_level-agree (level_at levels) (level_at (levels ++ b ∷ [])) line (wire_of (gate_at gates line) (level_at levels line))
    (rw (below-any line (gate_at gates line) (level_at levels line) false) below)
    (λ x less. let there' : x < length levels = omega arith in sym (get_or_append_left levels (b ∷ []) false x there')))

-- the new line of a net
pub grown : (gates : List Gate) (dependants more : List (List ℕ)) (levels pending : List Bool) (inputs n : ℕ) (g : Gate) (b : Bool)
    → IsKept gates dependants levels pending inputs → length more ≡ length dependants
    → ((i x : ℕ) → i ≢ length gates → depends i (dependants_at more x) ≡ depends i (dependants_at dependants x))
    → ((x : ℕ) → names x g ≡ true → depends (length gates) (dependants_at more x) ≡ true)
    → names_below (length gates) (wire_of g false) ≡ true → length gates < MAX_LINES
    → b ≡ gate_level (level_at levels) (wire_of g (level_at levels (length gates)))
    → n ≡ cond (is_input (wire_of g false)) 1 0
    → IsKept (gates ++ g ∷ []) (more ++ [] ∷ []) (levels ++ b ∷ []) (pending ++ false ∷ []) (inputs + n)
grown gates dependants more levels pending inputs n g b kept same unmoved added below room is counts = record {
  wired = record {
    lower = λ line within. ⊎_elim
        (λ old. rw (gate-old gates g line old) (kept.wired.lower line old))
        (λ last. rw (gate-new gates g line last, last) below)
        (new-or-old gates g line within);
    named = λ line x within is_named. rw (append-default more [] x) (⊎_elim
        (λ old. let apart : line ≢ length gates = (λ e. absurd (omega arith)) in
        unmoved line x apart ∙ kept.wired.named line x old (sym (ap (names x) (gate-old gates g line old)) ∙ is_named))
        (λ last. rw last (added x (sym (ap (names x) (gate-new gates g line last)) ∙ is_named)))
        (new-or-old gates g line within));
    above = λ line x on. above line x (sym (ap (depends line) (append-default more [] x)) ∙ on);
  };
  dependants_all = omega (arith, length-append more ([] ∷ []), length-append gates (g ∷ []), same, kept.dependants_all);
  levels_all = omega (arith, length-append levels (b ∷ []), length-append gates (g ∷ []), kept.levels_all);
  pending_all = omega (arith, length-append pending (false ∷ []), length-append gates (g ∷ []), kept.pending_all);
  bounded = omega (arith, length-append gates (g ∷ []));
  settled = λ line within. ⊎_elim
      (λ old. old-settled gates g levels b line old kept.levels_all (kept.wired.lower line old) (kept.settled line old))
      (λ last. last-settled line last)
      (new-or-old gates g line within);
  calm = λ line. append-default pending false line ∙ kept.calm line;
  counted = ap (λ m. m + n) kept.counted ∙ ap (λ m. input_count gates + m) counts ∙ sym (sum_by_push (λ h. cond (is_input (wire_of h false)) 1 0) gates g);
}
  where
    above : (line x : ℕ) → depends line (dependants_at more x) ≡ true → x < line
    above line x on = ⊎_elim
        (λ last. ⊎_elim
        (λ (there : x < length more). omega (arith, same, kept.dependants_all, last))
        (λ (past : length more ≤ x). absurd (true≢false (sym on ∙ ap (depends line) (get_or_past more x [] past))))
        (cases_lt x (length more)))
        (λ other. kept.wired.above line x (sym (unmoved line x other) ∙ on))
        (cases_eq line (length gates))

    last-settled : (line : ℕ) → line ≡ length gates → IsSettled (gates ++ g ∷ []) (levels ++ b ∷ []) line
    last-settled line last =
        let end : line ≡ length levels = last ∙ sym kept.levels_all in
        let now : level_at (levels ++ b ∷ []) line ≡ b = rw end (get_or-append_seam levels b [] false) in
        rw (gate-new gates g line last, now) (own-grown g levels b (rw kept.levels_all below) (rw kept.levels_all is))

-- an input is set: the lines that do not depend on it are settled
pub set-settled : (gates : List Gate) (dependants : List (List ℕ)) (levels pending : List Bool) (inputs line i : ℕ) (b : Bool)
    → IsKept gates dependants levels pending inputs → line < length gates → is_input (wire_of (gate_at gates line) false) ≡ true
    → i < length gates → depends i (dependants_at dependants line) ≡ false → IsSettled gates (set levels line b) i
set-settled gates dependants levels pending inputs line i b kept within is there apart = ⊎_elim
    (λ same. rw (← same) (sym (input-level (gate_at gates line) (level_at (set levels line b)) (level_at (set levels line b) line) is)))
    (λ other. stays-settled gates levels line i b other (unnamed gates dependants i line kept.wired there apart) (kept.settled i there))
    (cases_eq line i)

-- the levels of a net have changed
pub settled-kept : (gates : List Gate) (dependants : List (List ℕ)) (levels pending levels' pending' : List Bool) (inputs : ℕ)
    → IsKept gates dependants levels pending inputs → length levels' ≡ length gates → length pending' ≡ length gates
    → ((line : ℕ) → line < length gates → IsSettled gates levels' line) → AreCalm pending' → IsKept gates dependants levels' pending' inputs
settled-kept gates dependants levels pending levels' pending' inputs kept levels_all pending_all settled calm = record {
  wired = kept.wired;
  dependants_all = kept.dependants_all;
  levels_all = levels_all;
  pending_all = pending_all;
  bounded = kept.bounded;
  settled = settled;
  calm = calm;
  counted = kept.counted;
}

-- a list that is written back whole
pub refilled : {X : Type 0} (n : ℕ) (new old : List X) → length new ≡ n → take n (new ++ drop (length new) old) ≡ new
refilled n new old same = rw (← same) (take-append_seam new (drop (length new) old))

-- a line that can be set is driven by an input
pub settable : (gates : List Gate) (levels : List Bool) (line : ℕ) → line < length gates → is_input (wire_at (wires_of gates levels) line) ≡ true
    → is_input (wire_of (gate_at gates line) false) ≡ true
settable gates levels line within is = sym (ap is_input (wires-at gates levels line within) ∙ input-any (gate_at gates line) (level_at levels line) false) ∙ is

-- an input that is set to what it is
pub set-same : (gates : List Gate) (levels : List Bool) (line : ℕ) (high : Bool) → length levels ≡ length gates → line < length gates
    → is_input (wire_of (gate_at gates line) false) ≡ true → level_at levels line ≡ high
    → wires_of gates levels ≡ set (wires_of gates levels) line (input high)
set-same gates levels line high same within is now = wires-set gates levels levels line high same same within is now
    (λ i is'. ⊎_elim
    (λ e. let there : line < length levels = omega arith in rw (← e) (now ∙ sym (get_or-set_same levels line high false there)))
    (λ other. let apart : i ≢ line = (λ e. other (sym e)) in sym (get_or-set_other levels line i high false apart))
    (cases_eq line i))

-- what is added begins low
pub added-wires : (gates : List Gate) (levels : List Bool) (g : Gate) (b : Bool) → length levels ≡ length gates
    → b ≡ gate_level (level_at levels) (wire_of g (level_at levels (length gates)))
    → wires_of (gates ++ g ∷ []) (levels ++ b ∷ []) ≡ wires_of gates levels ++ wire_of g false ∷ []
added-wires gates levels g b same is =
    wires-append gates levels g b same ∙ ap (λ w. wires_of gates levels ++ w ∷ []) (wire-same g b false low)
  where
    low : is_input (wire_of g false) ≡ true → b ≡ false
    low set_outside =
        let past : length levels ≤ length gates = omega arith in
        is ∙ input-level g (level_at levels) (level_at levels (length gates)) set_outside ∙ get_or_past levels (length gates) false past

pub beq-same : (a b : Bool) → beq a b ≡ true → a ≡ b
beq-same true true is = refl
beq-same true false is = cc
beq-same false true is = cc
beq-same false false is = refl
