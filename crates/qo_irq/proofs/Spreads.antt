-- How a changed level is spread.
use Rattle.std.proofs.Common.{◌≡◌, ◌≢◌, ℕ, ◌+◌, ◌<◌, ◌≤◌, Bool, true, false, List, length, refl, arith, sym, ◌∙◌, ⊎_elim, get_or-set_same, get_or-set_other, length-set}
use Rattle.std.proofs.Math.ListN.{set}
use Rattle.std.proofs.lemmas.Bool.{cases_eq, cases_lt, cases_Bool, true≢false}
use Rattle.std.proofs.lemmas.List.{get_or_past}
use Rattle.qo_irq.specs.declared.gate.Gate.{Gate}
use Rattle.qo_irq.specs.declared.gate.Gate.TheVariants.{Input, Or, Copy, Off}
use Rattle.qo_irq.specs.Wires.{wire_of, is_input, gate_level, level_at}
use Rattle.qo_irq.specs.Kept.{gate_at, names, depends, dependants_at, IsSettled, AreMarked, AreWired, InputsStay, IsSpreading}
use Rattle.qo_irq.proofs.Levels.{gate_level-other}

-- a line waits no longer
pub unmarked : (pending : List Bool) (line i : ℕ) → level_at (set pending line false) i ≡ true → (level_at pending i ≡ true) × (line ≡ i → ⊥)
unmarked pending line i waits = ⊎_elim
    (λ same. absurd (here same))
    (λ other. (let apart : i ≢ line = (λ same. other (sym same)) in sym (get_or-set_other pending line i false false apart) ∙ waits, other))
    (cases_eq line i)
  where
    here : line ≡ i → ⊥
    here same = ⊎_elim
        (λ (within : line < length pending). true≢false (sym waits ∙ rw (← same) (get_or-set_same pending line false false within)))
        (λ (past : length pending ≤ line).
        let long : length (set pending line false) ≤ i = omega (arith, length-set pending line false, same) in
        true≢false (sym waits ∙ get_or_past (set pending line false) i false long))
        (cases_lt line (length pending))

-- a line that does not wait: nothing is done
pub passes : (gates : List Gate) (levels pending : List Bool) (line last : ℕ) → IsSpreading gates levels pending line last
    → level_at pending line ≡ false → IsSpreading gates levels pending (line + 1) last
passes gates levels pending line last spreading rests = record {
  waits = λ i waits. (⊎_elim (λ same. absurd (true≢false (sym waits ∙ rw (← same) rests))) (λ other. let from = (spreading.waits i waits).0 in omega arith) (cases_eq line i), (spreading.waits i waits).1);
  settled = spreading.settled;
  levels_all = spreading.levels_all;
  pending_all = spreading.pending_all;
  within = spreading.within;
}

-- a line that waits and has its level: it is settled
pub rests : (gates : List Gate) (levels pending : List Bool) (line last : ℕ) → IsSpreading gates levels pending line last → line < length gates
    → IsSettled gates levels line → IsSpreading gates levels (set pending line false) (line + 1) last
rests gates levels pending line last spreading within settled = record {
  waits = λ i waits. let before = unmarked pending line i waits in let range = spreading.waits i before.0 in let apart : line ≢ i = before.1 in (omega arith, range.1);
  settled = λ i there calm. ⊎_elim (λ same. rw (← same) settled) (λ other. spreading.settled i there (let apart : i ≢ line = (λ same. other (sym same)) in sym (get_or-set_other pending line i false false apart) ∙ calm)) (cases_eq line i);
  levels_all = spreading.levels_all;
  pending_all = length-set pending line false ∙ spreading.pending_all;
  within = spreading.within;
}

-- a line that is marked is there
marked-there : (pending : List Bool) (i : ℕ) → level_at pending i ≡ true → i < length pending
marked-there pending i waits = ⊎_elim (λ within. within) (λ past. absurd (true≢false (sym waits ∙ get_or_past pending i false past))) (cases_lt i (length pending))

-- a line whose gate names no line of a changed level stays settled
pub stays-settled : (gates : List Gate) (levels : List Bool) (line i : ℕ) (b : Bool) → (line ≡ i → ⊥) → names line (gate_at gates i) ≡ false
    → IsSettled gates levels i → IsSettled gates (set levels line b) i
stays-settled gates levels line i b other unnamed settled =
    let apart : i ≢ line = (λ same. other (sym same)) in
    let kept : level_at (set levels line b) i ≡ level_at levels i = get_or-set_other levels line i b false apart in
    rw kept (settled ∙ gate_level-other (level_at levels) (level_at (set levels line b)) line (gate_at gates i) (level_at levels i) unnamed
    (λ y differs. let apart' : y ≢ line = (λ same. differs (sym same)) in sym (get_or-set_other levels line y b false apart')))

-- the level of an input stays, and that of a gate does not depend on its line
own-level : (gate : Gate) (levels : List Bool) (line : ℕ) (b : Bool) → line < length levels → names line gate ≡ false
    → b ≡ gate_level (level_at levels) (wire_of gate (level_at levels line))
    → level_at (set levels line b) line ≡ gate_level (level_at (set levels line b)) (wire_of gate (level_at (set levels line b) line))
own-level Input levels line b within unnamed is = refl
own-level (Or lines) levels line b within unnamed is =
    get_or-set_same levels line b false within ∙ is ∙ gate_level-other (level_at levels) (level_at (set levels line b)) line (Or lines) false unnamed
    (λ y differs. let apart' : y ≢ line = (λ same. differs (sym same)) in sym (get_or-set_other levels line y b false apart'))
own-level (Copy x) levels line b within unnamed is =
    get_or-set_same levels line b false within ∙ is ∙ gate_level-other (level_at levels) (level_at (set levels line b)) line (Copy x) false unnamed
    (λ y differs. let apart' : y ≢ line = (λ same. differs (sym same)) in sym (get_or-set_other levels line y b false apart'))
own-level (Off x y) levels line b within unnamed is =
    get_or-set_same levels line b false within ∙ is ∙ gate_level-other (level_at levels) (level_at (set levels line b)) line (Off x y) false unnamed
    (λ y' differs. let apart' : y' ≢ line = (λ same. differs (sym same)) in sym (get_or-set_other levels line y' b false apart'))

-- an input has the level that it has
pub input-level : (gate : Gate) (at : ℕ → Bool) (b : Bool) → is_input (wire_of gate false) ≡ true → gate_level at (wire_of gate b) ≡ b
input-level Input at b is = refl
input-level (Or lines) at b is = cc
input-level (Copy line) at b is = cc
input-level (Off line by) at b is = cc

-- a line that names no dependant of another does not name it
pub unnamed : (gates : List Gate) (dependants : List (List ℕ)) (i x : ℕ) → AreWired gates dependants → i < length gates
    → depends i (dependants_at dependants x) ≡ false → names x (gate_at gates i) ≡ false
unnamed gates dependants i x wired there apart =
    ⊎_elim (λ is. absurd (true≢false (sym (wired.named i x there is) ∙ apart))) (λ no. no) (cases_Bool (names x (gate_at gates i)))

-- no line depends on itself
own-apart : (gates : List Gate) (dependants : List (List ℕ)) (line : ℕ) → AreWired gates dependants → depends line (dependants_at dependants line) ≡ false
own-apart gates dependants line wired =
    ⊎_elim (λ is. absurd (let up = wired.above line line is in omega arith)) (λ no. no) (cases_Bool (depends line (dependants_at dependants line)))

-- a line that waits and changes its level: those that depend on it wait
pub changes : (gates : List Gate) (dependants : List (List ℕ)) (levels pending marked : List Bool) (line last highest : ℕ) (b : Bool)
    → AreWired gates dependants → IsSpreading gates levels pending line last → line < length gates
    → b ≡ gate_level (level_at levels) (wire_of (gate_at gates line) (level_at levels line))
    → AreMarked (dependants_at dependants line) (set pending line false) marked last highest
    → IsSpreading gates (set levels line b) marked (line + 1) highest
changes gates dependants levels pending marked line last highest b wired spreading within is marks = record {
  waits = λ i waits. ⊎_elim
      (λ on. let there = marked-there marked i waits in let up = wired.above i line on in
      (omega arith, marks.above i (rw (← marks.same) there) on))
      (λ apart. let before = unmarked pending line i (sym (marks.others i apart) ∙ waits) in
      let range = spreading.waits i before.0 in let differs : line ≢ i = before.1 in (omega arith, omega (arith, range.1, marks.least)))
      (cases_Bool (depends i (dependants_at dependants line)));
  settled = λ i there calm. ⊎_elim
      (λ on. absurd (true≢false (sym (marks.marked i (rw (length-set, spreading.pending_all) there) on) ∙ calm)))
      (λ apart. ⊎_elim
      (λ same. rw (← same) (own-level (gate_at gates line) levels line b (rw (spreading.levels_all) within) (unnamed gates dependants line line wired within (own-apart gates dependants line wired)) is))
      (λ other. stays-settled gates levels line i b other (unnamed gates dependants i line wired there apart)
      (spreading.settled i there (let differs : i ≢ line = (λ same. other (sym same)) in sym (get_or-set_other pending line i false false differs) ∙ sym (marks.others i apart) ∙ calm)))
      (cases_eq line i))
      (cases_Bool (depends i (dependants_at dependants line)));
  levels_all = length-set levels line b ∙ spreading.levels_all;
  pending_all = marks.same ∙ length-set pending line false ∙ spreading.pending_all;
  within = omega (arith, marks.within, length-set pending line false, spreading.pending_all);
}

-- a line has changed, and those that depend on it wait
pub begins : (gates : List Gate) (dependants : List (List ℕ)) (levels pending marked : List Bool) (changed highest : ℕ)
    → AreWired gates dependants → length levels ≡ length gates → length pending ≡ length gates → ((i : ℕ) → level_at pending i ≡ false)
    → ((i : ℕ) → i < length gates → depends i (dependants_at dependants changed) ≡ false → IsSettled gates levels i)
    → AreMarked (dependants_at dependants changed) pending marked changed highest
    → IsSpreading gates levels marked (changed + 1) highest
begins gates dependants levels pending marked changed highest wired levels_all pending_all calm settled marks = record {
  waits = λ i waits. ⊎_elim
      (λ on. let there = marked-there marked i waits in let up = wired.above i changed on in (omega arith, marks.above i (rw (← marks.same) there) on))
      (λ apart. absurd (true≢false (sym waits ∙ marks.others i apart ∙ calm i)))
      (cases_Bool (depends i (dependants_at dependants changed)));
  settled = λ i there rests. ⊎_elim
      (λ on. absurd (true≢false (sym (marks.marked i (rw pending_all there) on) ∙ rests)))
      (λ apart. settled i there apart)
      (cases_Bool (depends i (dependants_at dependants changed)));
  levels_all = levels_all;
  pending_all = marks.same ∙ pending_all;
  within = omega (arith, marks.within);
}

-- once the highest that waits has been passed, none waits
pub none-waits : (gates : List Gate) (levels pending : List Bool) (line last i : ℕ) → IsSpreading gates levels pending line last → last < line
    → level_at pending i ≡ false
none-waits gates levels pending line last i spreading past =
    ⊎_elim (λ waits. absurd (let range = spreading.waits i waits in omega (arith, range.0, range.1))) (λ calm. calm) (cases_Bool (level_at pending i))

-- inputs keep their levels where a line gets what its gate makes
pub inputs-stay : (gates : List Gate) (levels : List Bool) (line : ℕ) (b : Bool) → line < length levels
    → b ≡ gate_level (level_at levels) (wire_of (gate_at gates line) (level_at levels line)) → InputsStay gates levels (set levels line b)
inputs-stay gates levels line b within is i set_outside = ⊎_elim
    (λ same. rw (← same) (get_or-set_same levels line b false within ∙ is ∙ input-level (gate_at gates line) (level_at levels) (level_at levels line) (rw same set_outside)))
    (λ other. let differs : i ≢ line = (λ same. other (sym same)) in get_or-set_other levels line i b false differs)
    (cases_eq line i)
