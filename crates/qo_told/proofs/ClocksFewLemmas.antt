-- The clocks below a clock are no more than there are objects, and a write of a clock notes two things for each of them at most.
use Rattle.std.proofs.Common.{◌≡◌, refl, ap, sym, subst, ◌∙◌, ℕ, zero, suc, ◌+◌, ◌*◌, ◌≤◌, Bool, true, false, ◌==◌, List, [], ◌∷◌, length, Option, Some, None, Result, Ok, Err, codes, arith}
use Rattle.std.specs.List.{flat_map}
use Rattle.std.proofs.lemmas.Bool.{and_parts, eqb-true}
use Rattle.std.proofs.lemmas.List.{length-append, length-map}
use Rattle.std.proofs.lemmas.Map.Made.{length-le_from_is_member}
use Rattle.std.proofs.lemmas.Option.{same_Some}
use Rattle.qo_values.specs.declared.properties.Val.TheVariants as val
use Rattle.qo_model.proofs.Common.{list_any, nat_eq_equiv, Code, E47, Pre, Update, Val, Board, Record, set, acted, among, by_depth, births, clock_scaled, clock_set, clock_written, called, called_all, clocks_below, fed_by, fed_turn, is_source, leads, overflows, period, Rises, set_named, source_of, spread}
use Rattle.qo_model.specs.Paths.{parent_of}
use Rattle.qo_model.specs.declared.notes.Note.{Note}
use Rattle.qo_sound_clocks.specs.SoundClocks.{SoundClocks}
use Rattle.qo_sound_phases.proofs.ForestLemmas.{IsForest, Reach, further, itself, listed-once, listed-reach, turn}
use Rattle.qo_sound_phases.proofs.ListLemmas.{among-filter, among-left, among-right, distinct-filter, one-among}
use Rattle.qo_steps.proofs.ClockStepsLemmas.{IsNumber, clock_scaled-by, clock_set-by}
use Rattle.qo_steps.proofs.NamedLemmas.{Named}
use Rattle.qo_told.proofs.BelowFewLemmas.{acted-notes, rising-once, set-notes}

module _ (b : Board) (clocks : SoundClocks b) (rising : Rises (births b)) where
  source-is : (p m : ℕ) → is_source b p m ≡ true → source_of b m ≡ Some p
  source-is p m e = go (source_of b m) refl
    where
      go : (o : Option ℕ) → source_of b m ≡ o → source_of b m ≡ Some p
      go None q = absurd (let clash : false ≡ true = rw q at e in cc)
      go (Some s) q = let same : (s == p) ≡ true = rw q at e in q ∙ ap Some (eqb-true s p same)

  fed-parts : (p m : ℕ) → leads (fed_by b) p m ≡ true → (among (births b) m ≡ true) × (is_source b p m ≡ true)
  fed-parts p m e = and_parts (among (births b) m) (is_source b p m) (sym (among-filter (is_source b p) m (births b)) ∙ e)

  fed-source : (p m : ℕ) → leads (fed_by b) p m ≡ true → source_of b m ≡ Some p
  fed-source p m e = source-is p m (fed-parts p m e).1

  forest : IsForest (fed_by b) (births b)
  forest =
      record {
        rank = λ n. n;
        rises = λ p m e. clocks.older m p (fed-source p m e);
        one_above = λ p q m e f. same_Some p q (sym (fed-source p m e) ∙ fed-source q m f);
        once = λ p. distinct-filter (is_source b p) (births b) (rising-once (births b) rising);
        there = λ p m e. (fed-parts p m e).0;
      }

  -- the clocks below, and those with the clock itself
  abbrev fed : ℕ → ℕ → List ℕ
  fed depth = by_depth (fed_turn b) (λ _. []) depth

  abbrev whole : ℕ → ℕ → List ℕ
  whole depth = by_depth (turn (fed_by b)) (λ _. []) depth

  sums : (f g : ℕ → List ℕ) → ((n : ℕ) → length (f n) + 1 ≡ length (g n)) → (ns : List ℕ)
      → length (flat_map (λ (n : ℕ). n ∷ f n) ns) ≡ length (flat_map g ns)
  sums f g h [] = refl
  sums f g h (n ∷ ns) =
      omega (arith, h n, sums f g h ns, length-append (n ∷ f n) (flat_map (λ (m : ℕ). m ∷ f m) ns), length-append (g n) (flat_map g ns))

  nothing : (ns : List ℕ) → length (flat_map (whole zero) ns) ≡ 0
  nothing [] = refl
  nothing (n ∷ ns) = nothing ns

  one-less : (depth c : ℕ) → length (fed depth c) + 1 ≡ length (whole (suc depth) c)
  one-less zero c = omega (arith, nothing (fed_by b c), length-append (flat_map (whole zero) (fed_by b c)) (c ∷ []))
  one-less (suc depth) c =
      omega (
        arith,
        sums (fed depth) (whole (suc depth)) (one-less depth) (fed_by b c),
        length-append (flat_map (whole (suc depth)) (fed_by b c)) (c ∷ []),
      )

  reach-there : (c o : ℕ) → Reach (fed_by b) c o → among (c ∷ births b) o ≡ true
  reach-there c o itself = among-left c (c ∷ []) (births b) (one-among c)
  reach-there c o (further {p} h e) = among-right o (c ∷ []) (births b) (forest.there p o e)

  pub clocks-few : (c : ℕ) → length (clocks_below b c) ≤ length b.records
  unfolding clocks_below
  clocks-few c =
      let depth : ℕ = suc (length (births b)) in
      let few : length (whole (suc depth) c) ≤ length (c ∷ births b) =
      length-le_from_is_member nat_eq_equiv (whole (suc depth) c) (c ∷ births b) (listed-once (fed_by b) (births b) forest (suc depth) c)
      (λ o there. reach-there c o (listed-reach (fed_by b) (suc depth) c o there)) in
      omega (arith, few, one-less depth c, length-map b.records (λ (x : Record). x.birth))

-- a device is called back
called-few : (old new e : Board) (c : ℕ) → length (called old new e c).notes ≤ length e.notes + 2
called-few old new e c = go (period old c == period new c) refl (parent_of new c) refl
  where
    go : (t : Bool) → (period old c == period new c) ≡ t → (o : Option ℕ) → parent_of new c ≡ o → length (called old new e c).notes ≤ length e.notes + 2
    go true p o q = rw (called, p) (omega arith)
    go false p None q = rw (called, p, q) (omega arith)
    go false p (Some d) q =
        rw (called, p, q)
        (omega (arith, acted-notes Update d (period new c) (acted Pre d (period old c) e), acted-notes Pre d (period old c) e))

all-few : (old new : Board) (cs : List ℕ) (e : Board) → length (called_all old new cs e).notes ≤ length e.notes + 2 * length cs
all-few old new [] e = omega arith
all-few old new (c ∷ cs) e = omega (arith, all-few old new cs (called old new e c), called-few old new e c)

-- a write that is not refused
same_ok : (x d : Board) → ◌≡◌ {A = Result Board Code} (Ok x) (Ok d) → x ≡ d
same_ok x d e = ap (λ (r : Result Board Code). elim r as (λ _. Board) [ Ok y ↦ y | Err code ↦ x ]) e

written-few : (old new d : Board) (c : ℕ) → clock_written old new c ≡ Ok d → length d.notes ≤ length new.notes + 2 * length (clocks_below old c)
written-few old new d c e = go (list_any (overflows new) (c ∷ clocks_below old c)) refl
  where
    go : (t : Bool) → list_any (overflows new) (c ∷ clocks_below old c) ≡ t → length d.notes ≤ length new.notes + 2 * length (clocks_below old c)
    go true p = absurd (let clash : Err E47 ≡ Ok d = rw (clock_written, p) at e in cc)
    go false p =
        let is : Ok (spread old new c) ≡ Ok d = rw (clock_written, p) at e in
        subst (λ (x : Board). length x.notes ≤ length new.notes + 2 * length (clocks_below old c)) (same_ok (spread old new c) d is)
        (all-few old new (clocks_below old c) new)

set-same : (n i : ℕ) (v : Val) (c : Board) → (set n i v c).notes ≡ c.notes
unfolding set
set-same n i v c = refl

module _ (b d : Board) (c : ℕ) where
  -- no more than two for each clock below
  abbrev Few : Board → Type 0
  Few x = length x.notes ≤ length b.notes + 2 * length (clocks_below b c)

  numbers : (name : List ℕ) → IsNumber name → (n i v : ℕ) (x : Board) → Named x n i name → Few x → Few (set n i (val.Uint v) x)
  numbers name is n i v x at h =
      subst (λ (xs : List Note). length xs ≤ length b.notes + 2 * length (clocks_below b c)) (sym (set-same n i (val.Uint v) x)) h

  pub set-few : (k : ℕ) → clock_set b c k ≡ Ok d → length d.notes ≤ length b.notes + 2 * length (clocks_below b c)
  set-few k e =
      clock_set-by Few numbers b d c k e (omega arith)
      (λ h is.
      let new : Board = set_named c (codes "period") (val.Uint k) b in
      let same : length new.notes ≡ length b.notes = ap (λ (xs : List Note). length xs) (set-notes c (codes "period") (val.Uint k) b) in
      omega (arith, written-few b new d c is, same))

  pub scaled-few : (mul div : ℕ) → clock_scaled b c mul div ≡ Ok d → length d.notes ≤ length b.notes + 2 * length (clocks_below b c)
  scaled-few mul div e =
      clock_scaled-by Few numbers b d c mul div e (omega arith)
      (λ h is.
      let one : Board = set_named c (codes "mul") (val.Uint mul) b in
      let new : Board = set_named c (codes "div") (val.Uint div) one in
      let same : length new.notes ≡ length b.notes =
      ap (λ (xs : List Note). length xs) (set-notes c (codes "div") (val.Uint div) one ∙ set-notes c (codes "mul") (val.Uint mul) b) in
      omega (arith, written-few b new d c is, same))
