-- An attempt at a device that was given up or cut keeps phases sound: its objects went through their phases in turn, and are gone.
use Rattle.std.proofs.Common.{◌≡◌, refl, ap, ap₂, sym, ◌∙◌, ℕ, suc, ◌+◌, ◌<◌, ◌≤◌, Bool, true, false, ◌==◌, eqb, List, [], ◌∷◌, ◌++◌, filter, length, map, take, append_assoc, Some, is_some, arith, codes}
use Rattle.qo_model.proofs.Common.{if◌then◌else◌, AllByRecursion, IsDistinct, Realize, Unrealize, Enter, Hold, Exit, TypeId, Board, among, ending, init_notes, begun_notes, born_from, bus_births, cut_attempt, cut_order, device_last, did, ended_notes, further_of, is_bus, passed_notes, plug_attempt, types_in, with_ended, count, finals, is_a}
use Rattle.qo_model.specs.declared.notes.Deed.TheVariants.{Final}
use Rattle.qo_model.specs.declared.notes.Note.{Note}
use Rattle.std.specs.List.{flat_map}
use Rattle.std.proofs.lemmas.List.Elements.{filter_map-append}
use Rattle.qo_model.proofs.DraftEndsLemmas.{born-length}
use Rattle.qo_sound.proofs.AttemptNotesLemmas.{buses-within}
use Rattle.qo_sound.proofs.RecordLemmas.{all-append}
use Rattle.qo_values.proofs.ListLemmas.{all-imply}
use Rattle.qo_sound.proofs.TestLemmas.{decide}
use Rattle.qo_sound_devices.proofs.AdditionLemmas.{device-no_bus}
use Rattle.qo_model.proofs.AmongLemmas.{among-all, among-one}
use Rattle.qo_sound_phases.specs.Phases.{stage_of, phase_in, phases_of}
use Rattle.qo_sound_phases.specs.Phases as stage
use Rattle.qo_sound_phases.specs.SoundPhases.{SoundPhases}
use Rattle.qo_sound_phases.proofs.ResetTreeLemmas.{Placed}
use Rattle.qo_sound_phases.proofs.ListLemmas.{distinct-append, phases-none}
use Rattle.qo_sound_phases.proofs.QuietChangeLemmas.{Aside, aside-phases, phases-init, phases-made, quiet-aside}
use Rattle.qo_sound_phases.proofs.ShapeLemmas.{shape-records}
use Rattle.qo_sound_phases.proofs.StageLemmas.{noted-in, noted-none, noted-out}

-- notes of beginnings and ends
phases-each : (f : ℕ → TypeId → List Note) → ((m : ℕ) (t : TypeId) (n : ℕ) → phases_of n (f m t) ≡ []) → (os : List (ℕ × TypeId)) (n : ℕ)
    → phases_of n (flat_map (λ (o : ℕ × TypeId). f o.0 o.1) os) ≡ []
phases-each f none [] n = refl
phases-each f none (o ∷ os) n =
    filter_map-append (phase_in n) (f o.0 o.1) (flat_map (λ (p : ℕ × TypeId). f p.0 p.1) os)
    ∙ ap₂ (λ xs ys. xs ++ ys) (none o.0 o.1 n) (phases-each f none os n)

pub phases-begun : (os : List (ℕ × TypeId)) (n : ℕ) → phases_of n (begun_notes os) ≡ []
phases-begun os n = phases-each init_notes phases-init os n

pub phases-ended : (os : List (ℕ × TypeId)) (n : ℕ) → phases_of n (ended_notes os) ≡ []
phases-ended os n = phases-each ending (λ m t x. phases-made m Final (λ k. refl) (finals t) x) os n

-- around what was noted between
around : (b : Board) (made : List (ℕ × TypeId)) (passed : List Note) (ended : List (ℕ × TypeId)) (n : ℕ)
    → stage_of n (with_ended b made passed ended).notes ≡ stage_of n ((b.notes ++ begun_notes made) ++ passed)
around b made passed ended n = noted-none n ((b.notes ++ begun_notes made) ++ passed) (ended_notes ended) (phases-ended ended n)

pub cut-phases : (b : Board) (t : TypeId) (i : ℕ) (joined : Bool) → Placed b → SoundPhases b → SoundPhases (cut_attempt b t i joined)
cut-phases b t i joined k h = aside-phases b c k (quiet-aside b c (shape-records b c refl) refl (omega arith) quiet h) h
  where
    os : List (ℕ × TypeId)
    os = take i (born_from (suc b.born) (types_in t))

    c : Board
    c = cut_attempt b t i joined

    quiet : (n : ℕ) → stage_of n c.notes ≡ stage_of n b.notes
    quiet n =
        around b os [] (cut_order joined i os) n
        ∙ noted-none n (b.notes ++ begun_notes os) [] refl
        ∙ noted-none n b.notes (begun_notes os) (phases-begun os n)

abbrev births_in : ℕ → List TypeId → List ℕ
births_in n ts = map (λ (o : ℕ × TypeId). o.0) (filter is_bus (born_from n ts))

above-apart : (n : ℕ) (ms : List ℕ) → AllByRecursion (λ m. n < m) ms → AllByRecursion (λ m. eqb n m ≡ false) ms
above-apart n ms h = all-imply (λ m. n < m) (λ m. eqb n m ≡ false) (λ m low. grind (arith, low)) ms h

later : (n : ℕ) (ts : List TypeId) → AllByRecursion (λ m. n < m) (births_in (suc n) ts)
later n ts =
    all-imply (λ m. (n < m) × (m ≤ suc n + length ts)) (λ m. n < m) (λ m k. k.0) (births_in (suc n) ts)
    (buses-within n (suc n) ts (suc n + length ts) (omega arith) (omega arith))

births-once : (n : ℕ) (ts : List TypeId) → IsDistinct eqb (births_in n ts)
unfolding IsDistinct
births-once n [] = tt
births-once n (t ∷ ts) = go (is_bus (n, t)) refl (births-once (suc n) ts)
  where
    go : (u : Bool) → is_bus (n, t) ≡ u → IsDistinct eqb (births_in (suc n) ts) → IsDistinct eqb (births_in n (t ∷ ts))
    go true e rest = rw e (above-apart n (births_in (suc n) ts) (later n ts), rest)
    go false e rest = rw e rest

module _ (n : ℕ) (t : TypeId) (its : is_a t (codes "device") ≡ true) where
  buses-later : AllByRecursion (λ m. n < m) (bus_births n t)
  buses-later = rw (device-no_bus t its) (later n (map (λ (f : List ℕ × TypeId). f.1) (further_of t)))

  single : (m : ℕ) → IsDistinct eqb (m ∷ [])
  unfolding IsDistinct
  single m = (tt, tt)

  pub objects-once : IsDistinct eqb (bus_births n t ++ n ∷ [])
  objects-once =
      distinct-append (bus_births n t) (n ∷ []) (births-once n (types_in t)) (single n)
      (λ x e f.
      let high : n < x = among-all (λ m. n < m) (bus_births n t) buses-later x e in
      let is : x ≡ n = among-one x n f in
      omega (arith, high, is))

-- the phases of a device that is given up after them
module _ (b : Board) (bus : ℕ) (t : TypeId) (its : is_a t (codes "device") ≡ true) (h : SoundPhases b) where
  abbrev n : ℕ
  n = suc b.born

  abbrev os : List ℕ
  os = bus_births (suc b.born) t ++ suc b.born ∷ []

  abbrev exits : List ℕ
  exits = if count b bus == 0 then bus_births (suc b.born) t ++ suc b.born ∷ [] else []

  abbrev made : List (ℕ × TypeId)
  made = born_from (suc b.born) (types_in t)

  abbrev first : List Note
  first = b.notes ++ begun_notes (born_from (suc b.born) (types_in t))

  abbrev all : List Note
  all = ((((first ++ map (did Realize) (suc b.born ∷ bus_births (suc b.born) t)) ++ map (did Enter) os) ++ map (did Hold) os) ++ map (did Exit) exits)
      ++ map (did Unrealize) os

  reshape : (xs a c d e f : List Note) → xs ++ (a ++ c ++ d ++ e ++ f) ≡ ((((xs ++ a) ++ c) ++ d) ++ e) ++ f
  reshape xs a c d e f =
      sym (append_assoc xs (a ++ c ++ d ++ e) f)
      ∙ ap (λ ys. ys ++ f)
      (sym (append_assoc xs (a ++ c ++ d) e) ∙ ap (λ ys. ys ++ e) (sym (append_assoc xs (a ++ c) d) ∙ ap (λ ys. ys ++ d) (sym (append_assoc xs a c))))

  exits-once : IsDistinct eqb exits
  unfolding IsDistinct
  exits-once = decide (count b bus == 0) (λ e. rw e (objects-once (suc b.born) t its)) (λ e. rw e tt)

  begun : (x : ℕ) → stage_of x (first ++ map (did Realize) (suc b.born ∷ bus_births (suc b.born) t)) ≡ stage_of x b.notes
  begun x =
      noted-none x first (map (did Realize) (suc b.born ∷ bus_births (suc b.born) t)) (phases-none Realize refl x (suc b.born ∷ bus_births (suc b.born) t))
      ∙ noted-none x b.notes (begun_notes made) (phases-begun made x)

  shaped : (x : ℕ)
      → stage_of x (first ++ passed_notes b bus (suc b.born) t) ≡ stage_of x
      ((((first ++ map (did Realize) (suc b.born ∷ bus_births (suc b.born) t)) ++ map (did Enter) os) ++ map (did Hold) os) ++ map (did Exit) exits)
  shaped x =
      ap (stage_of x)
      (reshape first (map (did Realize) (suc b.born ∷ bus_births (suc b.born) t)) (map (did Enter) os) (map (did Hold) os) (map (did Exit) exits)
      (map (did Unrealize) os))
      ∙ noted-none x _ (map (did Unrealize) os) (phases-none Unrealize refl x os)

  -- others note nothing
  others : (x : ℕ) → among os x ≡ false → stage_of x (first ++ passed_notes b bus (suc b.born) t) ≡ stage_of x b.notes
  others x e =
      shaped x
      ∙ noted-out Exit refl exits exits-once _ x (none-exits)
      ∙ noted-out Hold refl os (objects-once (suc b.born) t its) _ x e
      ∙ noted-out Enter refl os (objects-once (suc b.born) t its) _ x e
      ∙ begun x
    where
      none-exits : among exits x ≡ false
      none-exits = decide (count b bus == 0) (λ q. rw q e) (λ q. rw q refl)

  -- these are held or out
  own : (x : ℕ) → among os x ≡ true → b.born < x → is_some (stage_of x (first ++ passed_notes b bus (suc b.born) t)) ≡ true
  own x e high = ap is_some (shaped x) ∙ ends
    where
      at_hold : stage_of x
          (((first ++ map (did Realize) (suc b.born ∷ bus_births (suc b.born) t)) ++ map (did Enter) os) ++ map (did Hold) os) ≡ Some stage.held
      at_hold =
          noted-in Hold refl os (objects-once (suc b.born) t its) _ x e stage.entered stage.held
          (noted-in Enter refl os (objects-once (suc b.born) t its) _ x e stage.out stage.entered (begun x ∙ h.unborn x high) refl) refl

      ends : is_some
          (stage_of x
          ((((first ++ map (did Realize) (suc b.born ∷ bus_births (suc b.born) t)) ++ map (did Enter) os) ++ map (did Hold) os) ++ map
          (did Exit) exits)) ≡ true
      ends =
          decide (among exits x) (λ q. ap is_some (noted-in Exit refl exits exits-once _ x q stage.held stage.out at_hold refl))
          (λ q. ap is_some (noted-out Exit refl exits exits-once _ x q ∙ at_hold))

  within : AllByRecursion (λ m. (b.born < m) × (m ≤ b.born + length (types_in t))) os
  within =
      all-append (λ m. (b.born < m) × (m ≤ b.born + length (types_in t))) (bus_births (suc b.born) t) (suc b.born ∷ [])
      (buses-within b.born (suc b.born) (types_in t) (b.born + length (types_in t)) (omega arith) (omega arith))
      ((omega arith, omega arith), tt)

  in-range : (x : ℕ) → among os x ≡ true → (b.born < x) × (x ≤ b.born + length (types_in t))
  in-range x e = among-all (λ m. (b.born < m) × (m ≤ b.born + length (types_in t))) os within x e

  abbrev c : Board
  c = with_ended b made (passed_notes b bus (suc b.born) t) (device_last made)

  passed-aside : Aside b c
  passed-aside =
      record {
        shape = shape-records b c refl;
        holds = refl;
        older = omega arith;
        quiet = λ x low.
            around b made (passed_notes b bus (suc b.born) t) (device_last made) x
            ∙ others x (decide (among os x) (λ e. absurd (let r : b.born < x = (in-range x e).0 in omega (arith, r, low))) (λ e. e));
        in_turn = λ x high.
            ap is_some (around b made (passed_notes b bus (suc b.born) t) (device_last made) x)
            ∙ decide (among os x) (λ e. own x e high) (λ e. ap is_some (others x e) ∙ h.in_turn x);
        unborn = λ x high. around b made (passed_notes b bus (suc b.born) t) (device_last made) x ∙ beyond x high;
      }
    where
      beyond : (x : ℕ) → b.born + length made < x → stage_of x (first ++ passed_notes b bus (suc b.born) t) ≡ Some stage.out
      beyond x high =
          decide (among os x)
          (λ e. absurd (let r : x ≤ b.born + length (types_in t) = (in-range x e).1 in omega (arith, r, high, born-length (suc b.born) (types_in t))))
          (λ e. others x e ∙ h.unborn x (omega (arith, high)))

pub plug_attempt-phases : (b : Board) (t : TypeId) (bus at : ℕ) → is_a t (codes "device") ≡ true → Placed b → SoundPhases b
    → SoundPhases (plug_attempt b t bus at)
plug_attempt-phases b t bus at its k h = go (at == 8) refl
  where
    os : List (ℕ × TypeId)
    os = born_from (suc b.born) (types_in t)

    none : Board
    none = with_ended b os [] (device_last os)

    go : (u : Bool) → (at == 8) ≡ u → SoundPhases (plug_attempt b t bus at)
    go true e = rw e (aside-phases b _ k (passed-aside b bus t its h) h)
    go false e =
        rw e (aside-phases b none k
        (quiet-aside b none (shape-records b none refl) refl (omega arith)
        (λ n. around b os [] (device_last os) n ∙ noted-none n (b.notes ++ begun_notes os) [] refl
        ∙ noted-none n b.notes (begun_notes os) (phases-begun os n)) h) h)
