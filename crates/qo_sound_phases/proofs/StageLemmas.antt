-- Phases, one after another: the stage that an object is in by its notes.
use Rattle.std.proofs.Common.{◌≡◌, refl, ap, ap₂, sym, ◌∙◌, ℕ, Bool, true, false, eqb, List, [], ◌∷◌, ◌++◌, map, Option, Some, None, is_some, option_and_then}
use Rattle.qo_model.proofs.Common.{if◌then◌else◌, IsDistinct, Act, Init, Realize, Unrealize, Enter, Hold, Exit, Pre, Update, among, did}
use Rattle.qo_values.specs.declared.kinds.Act.TheVariants.{Wake}
use Rattle.qo_model.specs.declared.notes.Deed.TheVariants.{Did}
use Rattle.qo_model.specs.declared.notes.Note.{Note}
use Rattle.std.proofs.lemmas.List.Elements.{filter_map-append}
use Rattle.qo_sound_phases.specs.Phases.{IsInTurn, Stage, entered, held, out, passed, passed_all, phase_in, phase_of, phases_of, stage_of, rounds}
use Rattle.qo_sound_phases.proofs.ListLemmas.{phases-did}
use Rattle.qo_values.specs.declared.kinds.ResetKind.{ResetKind}
use Rattle.qo_values.specs.declared.kinds.ResetKind.TheVariants.{Cold, Wakeup}
use Rattle.qo_values.specs.Kinds.{entering}

-- the rest of a reset, from a stage on
abbrev rest_of : Stage → List Act
rest_of out = []
rest_of entered = Hold ∷ Exit ∷ []
rest_of held = Exit ∷ []

record Turns (stage : Stage) (acts : List Act) : Type 0 where
  kinds : List ResetKind
  to_come : List Act
  in_turn : acts ++ to_come ≡ rest_of stage ++ rounds kinds

turns-from : (stage : Stage) (acts : List Act) (t : Stage) → passed_all stage acts ≡ Some t → Turns stage acts
turns-from stage [] t e = record { kinds = []; to_come = rest_of stage ++ []; in_turn = refl }
turns-from out (Enter ∷ acts) t e =
    let h : Turns entered acts = turns-from entered acts t e in
    record { kinds = Cold ∷ h.kinds; to_come = h.to_come; in_turn = ap (λ (xs : List Act). Enter ∷ xs) h.in_turn }
turns-from out (Wake ∷ acts) t e =
    let h : Turns entered acts = turns-from entered acts t e in
    record { kinds = Wakeup ∷ h.kinds; to_come = h.to_come; in_turn = ap (λ (xs : List Act). Wake ∷ xs) h.in_turn }
turns-from entered (Hold ∷ acts) t e =
    let h : Turns held acts = turns-from held acts t e in
    record { kinds = h.kinds; to_come = h.to_come; in_turn = ap (λ (xs : List Act). Hold ∷ xs) h.in_turn }
turns-from held (Exit ∷ acts) t e =
    let h : Turns out acts = turns-from out acts t e in
    record { kinds = h.kinds; to_come = h.to_come; in_turn = ap (λ (xs : List Act). Exit ∷ xs) h.in_turn }
turns-from out (Init k ∷ acts) t e = cc
turns-from out (Realize ∷ acts) t e = cc
turns-from out (Unrealize ∷ acts) t e = cc
turns-from out (Hold ∷ acts) t e = cc
turns-from out (Exit ∷ acts) t e = cc
turns-from out (Pre ∷ acts) t e = cc
turns-from out (Update ∷ acts) t e = cc
turns-from entered (Init k ∷ acts) t e = cc
turns-from entered (Realize ∷ acts) t e = cc
turns-from entered (Unrealize ∷ acts) t e = cc
turns-from entered (Enter ∷ acts) t e = cc
turns-from entered (Wake ∷ acts) t e = cc
turns-from entered (Exit ∷ acts) t e = cc
turns-from entered (Pre ∷ acts) t e = cc
turns-from entered (Update ∷ acts) t e = cc
turns-from held (Init k ∷ acts) t e = cc
turns-from held (Realize ∷ acts) t e = cc
turns-from held (Unrealize ∷ acts) t e = cc
turns-from held (Enter ∷ acts) t e = cc
turns-from held (Wake ∷ acts) t e = cc
turns-from held (Hold ∷ acts) t e = cc
turns-from held (Pre ∷ acts) t e = cc
turns-from held (Update ∷ acts) t e = cc

-- phases that lead somewhere are in turn
pub turns-some : (n : ℕ) (notes : List Note) → is_some (stage_of n notes) ≡ true → IsInTurn (phases_of n notes)
turns-some n notes e = go (stage_of n notes) refl
  where
    go : (o : Option Stage) → stage_of n notes ≡ o → IsInTurn (phases_of n notes)
    go None p = absurd (let clash : false ≡ true = sym (ap is_some p) ∙ e in cc)
    go (Some t) p =
        let h : Turns out (phases_of n notes) = turns-from out (phases_of n notes) t p in
        record { kinds = h.kinds; to_come = h.to_come; in_turn = h.in_turn }

-- phases after phases
passed-append : (stage : Stage) (xs ys : List Act) → passed_all stage (xs ++ ys) ≡ option_and_then (λ (t : Stage). passed_all t ys) (passed_all stage xs)
passed-append stage [] ys = refl
passed-append stage (act ∷ acts) ys = go (passed stage act) refl (λ t. passed-append t acts ys)
  where
    go : (o : Option Stage) → passed stage act ≡ o
        → ((t : Stage) → passed_all t (acts ++ ys) ≡ option_and_then (λ (u : Stage). passed_all u ys) (passed_all t acts))
        → passed_all stage (act ∷ acts ++ ys) ≡ option_and_then (λ (t : Stage). passed_all t ys) (passed_all stage (act ∷ acts))
    go None p rest = rw (passed_all, p) refl
    go (Some next) p rest = rw (passed_all, p) (rest next)

pub stage-append : (n : ℕ) (xs ys : List Note) → stage_of n (xs ++ ys) ≡ option_and_then (λ (t : Stage). passed_all t (phases_of n ys)) (stage_of n xs)
stage-append n xs ys = ap (passed_all out) (filter_map-append (phase_in n) xs ys) ∙ passed-append out (phases_of n xs) (phases_of n ys)

-- a phase that is noted of some objects
noted : (act : Act) → phase_of (Did act) ≡ Some act → (os : List ℕ) → IsDistinct eqb os → (notes : List Note) (n : ℕ)
    → stage_of n (notes ++ map (did act) os) ≡ option_and_then (λ (t : Stage). passed_all t (if among os n then act ∷ [] else [])) (stage_of n notes)
noted act is os once notes n =
    stage-append n notes (map (did act) os)
    ∙ ap (λ (acts : List Act). option_and_then (λ (t : Stage). passed_all t acts) (stage_of n notes)) (phases-did act is n os once)

pub noted-in : (act : Act) → phase_of (Did act) ≡ Some act → (os : List ℕ) → IsDistinct eqb os → (notes : List Note) (n : ℕ) → among os n ≡ true
    → (stage next : Stage) → stage_of n notes ≡ Some stage → passed stage act ≡ Some next → stage_of n (notes ++ map (did act) os) ≡ Some next
noted-in act is os once notes n e stage next at leads =
    noted act is os once notes n
    ∙ ap₂ (λ (t : Bool) (o : Option Stage). option_and_then (λ (u : Stage). passed_all u (if t then act ∷ [] else [])) o) e at
    ∙ ap (λ (o : Option Stage). elim o as (λ _. Option Stage) [ None ↦ None | Some u ↦ Some u ]) leads

none-more : (o : Option Stage) → option_and_then (λ (t : Stage). passed_all t []) o ≡ o
none-more None = refl
none-more (Some t) = refl

pub noted-out : (act : Act) → phase_of (Did act) ≡ Some act → (os : List ℕ) → IsDistinct eqb os → (notes : List Note) (n : ℕ) → among os n ≡ false
    → stage_of n (notes ++ map (did act) os) ≡ stage_of n notes
noted-out act is os once notes n e =
    noted act is os once notes n
    ∙ ap (λ (t : Bool). option_and_then (λ (u : Stage). passed_all u (if t then act ∷ [] else [])) (stage_of n notes)) e
    ∙ none-more (stage_of n notes)

-- notes without a phase of an object
pub noted-none : (n : ℕ) (notes more : List Note) → phases_of n more ≡ [] → stage_of n (notes ++ more) ≡ stage_of n notes
noted-none n notes more e =
    stage-append n notes more
    ∙ ap (λ (acts : List Act). option_and_then (λ (t : Stage). passed_all t acts) (stage_of n notes)) e
    ∙ none-more (stage_of n notes)

-- the enter phase of a reset of each type is one, and leads on
pub entering-phase : (kind : ResetKind) → phase_of (Did (entering kind)) ≡ Some (entering kind)
entering-phase Cold = refl
entering-phase Wakeup = refl

pub entering-leads : (kind : ResetKind) → passed out (entering kind) ≡ Some entered
entering-leads Cold = refl
entering-leads Wakeup = refl
