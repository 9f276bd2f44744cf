-- What is kept of clocks is what the boards say that the heap shows.
use Rattle.std.proofs.Common.{◌≡◌, refl, ap, subst, sym, ◌∙◌, ℕ, zero, suc, ◌≤◌, ◌||◌, Bool, true, false, eqb, nat_eq, List, [], ◌∷◌, Option, Some, None, option_map, arith}
use Rattle.std.specs.List.{flat_map}
use Rattle.std.specs.Option.{option_map_or, option_to_list}
use Rattle.std.proofs.Math.Path.{fun_ext}
use Rattle.std.proofs.lemmas.Bool.{eq-eqb, eqb-true, or_left, or_right}
use Rattle.std.proofs.lemmas.List.Folds.{list_any-append}
use Rattle.std.proofs.lemmas.Option.{same_Some}
use Rattle.qo_slots.specs.declared.keys.Key.{Key}
use Rattle.qo_model.specs.Board.{Board}
use Rattle.qo_model.specs.Clocks.{ClocksFit, child_period, div_of, mul_of, own_period, period, scaled, source_of}
use Rattle.qo_model.specs.Depth.{IsLocal, IsTree, Leads, among, by_objects, leads}
use Rattle.qo_model.specs.Paths.{births}
use Rattle.qo_model.proofs.DepthLemmas.{by_objects_is}
use Rattle.qo_model.proofs.PeriodLemmas.{period-fed, period-own, scaled-zero, with-source}
use Rattle.qo_object.specs.declared.room.Side.{Side}
use Rattle.qo_object.specs.BoardObject.{birth_of}
use Rattle.qo_object.specs.Content.{Content}
use Rattle.qo_heap.specs.Acts.{Acts}
use Rattle.qo_heap.specs.Board.{Shows}
use Rattle.qo_heap.specs.Objects.{Objects, content_of, slots_of}
use Rattle.qo_heap.proofs.ActsReads.{acts-slots}
use Rattle.qo_clocks.specs.Kept.{Clocked, PeriodsKept, child_kept, sources}
use Rattle.qo_clocks.specs.Reads.{own_on, source_on}
use Rattle.qo_clocks.proofs.FitLemmas.{fits-acts}
use Rattle.qo_clocks.proofs.KeptLemmas.{ReadsAlike, scaled-alike, slots-alike, turn_by}
use Rattle.qo_clocks.proofs.PeriodLemmas.{child-before}
use Rattle.qo_clocks.proofs.ReadLemmas.{shows-own, shows-source}

-- a clock leads to its source, and so each clock has a rank

in-flat : (f : ℕ → List ℕ) (xs : List ℕ) (n m : ℕ) → among xs n ≡ true → among (f n) m ≡ true → among (flat_map f xs) m ≡ true
in-flat f [] n m e u = cc
in-flat f (x ∷ xs) n m e u = go (eqb n x) refl e (λ there. in-flat f xs n m there u)
  where
    go : (t : Bool) → eqb n x ≡ t → (t || among xs n) ≡ true → (among xs n ≡ true → among (flat_map f xs) m ≡ true) → among (flat_map f (x ∷ xs)) m ≡ true
    go true p q rest =
        list_any-append (nat_eq m) (f x) (flat_map f xs)
        ∙ or_left (among (f x) m) (among (flat_map f xs) m) (subst (λ (k : ℕ). among (f k) m ≡ true) (eqb-true n x p) u)
    go false p q rest = list_any-append (nat_eq m) (f x) (flat_map f xs) ∙ or_right (among (f x) m) (among (flat_map f xs) m) (rest q)

module _ (b : Board) (none_round : (c : ℕ) → Leads (sources b) c c → ⊥) where
  leads-source : (n s : ℕ) → source_of b n ≡ Some s → leads (sources b) n s ≡ true
  leads-source n s q = ap (λ (o : Option ℕ). among (option_to_list o) s) q ∙ ap (λ (t : Bool). t || false) (eq-eqb s s refl)

  source-leads : (n m : ℕ) → leads (sources b) n m ≡ true → source_of b n ≡ Some m
  source-leads n m e = go (source_of b n) e
    where
      go : (o : Option ℕ) → among (option_to_list o) m ≡ true → o ≡ Some m
      go None q = cc
      go (Some k) q = by (nat_eq m k) refl q
        where
          by : (t : Bool) → nat_eq m k ≡ t → (t || false) ≡ true → Some k ≡ Some m
          by true p r = ap (λ (x : ℕ). Some x) (sym (eqb-true m k p))
          by false p r = cc

  abbrev all : List ℕ
  all = flat_map (sources b) (births b)

  tree : IsTree (sources b) all
  tree = record { none_round = none_round; lives = λ n m e. in-flat (sources b) (births b) n m (with-source b n m (source-leads n m e)) e }

  abbrev rank_by : (ℕ → ℕ) → Option ℕ → ℕ
  rank_by f o = elim o as (λ _. ℕ) [ None ↦ 0 | Some s ↦ suc (f s) ]

  abbrev rank_turn : (ℕ → ℕ) → ℕ → ℕ
  rank_turn f n = rank_by f (source_of b n)

  local : IsLocal (sources b) rank_turn
  local n f g same = go (source_of b n) refl
    where
      go : (o : Option ℕ) → source_of b n ≡ o → rank_by f o ≡ rank_by g o
      go None e = refl
      go (Some s) e = ap suc (same s (leads-source n s e))

  abbrev rank : ℕ → ℕ
  rank n = by_objects rank_turn (λ _. 0) all n

  rank-up : (n s : ℕ) → source_of b n ≡ Some s → rank n ≡ suc (rank s)
  rank-up n s e = by_objects_is (sources b) rank_turn (λ _. 0) all local tree n ∙ ap (rank_by rank) e

-- an object without slots has no periods
absent : (b : Board) (v : Objects) → Shows b v → (n : ℕ) → slots_of v n ≡ [] → child_period b n ≡ 0
absent b v s n none =
    let no_source : source_of b n ≡ None = shows-source b v s n ∙ (let gone : birth_of (source_on v n) ≡ None = rw none refl in gone) in
    let no_own : own_period b n ≡ 0 = shows-own b v s n ∙ (let gone : own_on v n ≡ 0 = rw none refl in gone) in
    ap (scaled b n) (period-own b n no_source ∙ no_own) ∙ scaled-zero (mul_of b n) (div_of b n)

-- what is kept right is what the board says

module _ (b : Board) (v : Objects) (s : Shows b v) (fit : ClocksFit b) (none_round : (c : ℕ) → Leads (sources b) c c → ⊥) (kept : PeriodsKept v) where
  child-as : (m : ℕ) → ((d : Content) → content_of v m ≡ Some d → d.side.period ≡ period b m) → child_kept v m ≡ child_period b m
  child-as m rec = go (content_of v m) refl
    where
      go : (o : Option Content) → content_of v m ≡ o → option_map_or (λ (c : Content). c.side.child) o 0 ≡ child_period b m
      go None e = sym (absent b v s m (ap (λ (o : Option Content). option_map_or (λ (c : Content). c.slots) o []) e))
      go (Some d) e = (kept m d e).child ∙ child-before b v s fit m d.side.period (rec d e)

  by-source : (n : ℕ) (c : Content) → content_of v n ≡ Some c
      → ((m : ℕ) → source_of b n ≡ Some m → (d : Content) → content_of v m ≡ Some d → d.side.period ≡ period b m) → c.side.period ≡ period b n
  by-source n c there rec = (kept n c there).period ∙ go (source_on v n) refl
    where
      go : (o : Option Key) → source_on v n ≡ o → turn_by v n o ≡ period b n
      go None e = sym (period-own b n (shows-source b v s n ∙ ap birth_of e) ∙ shows-own b v s n)
      go (Some key) e =
          let source : source_of b n ≡ Some key.birth = shows-source b v s n ∙ ap birth_of e in
          child-as key.birth (rec key.birth source) ∙ sym (period-fed b n key.birth source)

  within : (k n : ℕ) (c : Content) → rank b none_round n ≤ k → content_of v n ≡ Some c → c.side.period ≡ period b n
  within zero n c low there =
      by-source n c there (λ m e d at. absurd (let up : rank b none_round n ≡ suc (rank b none_round m) = rank-up b none_round n m e in omega (arith, up, low)))
  within (suc k) n c low there =
      by-source n c there
      (λ m e d at.
      within k m d (let up : rank b none_round n ≡ suc (rank b none_round m) = rank-up b none_round n m e in omega (arith, up, low)) at)

  pub kept-period : (n : ℕ) (c : Content) → content_of v n ≡ Some c → c.side.period ≡ period b n
  kept-period n c there = within (rank b none_round n) n c (omega arith) there

  pub kept-child : (n : ℕ) (c : Content) → content_of v n ≡ Some c → c.side.child ≡ child_period b n
  kept-child n c there = (kept n c there).child ∙ child-before b v s fit n c.side.period (kept-period n c there)

  pub child-kept : (n : ℕ) → child_kept v n ≡ child_period b n
  child-kept n = child-as n (λ d at. kept-period n d at)

-- what the board says is kept right

module _ (b : Board) (u w : Objects) (s : Shows b u) (fit : ClocksFit b) (same : (n : ℕ) → slots_of w n ≡ slots_of u n)
    (is : (n : ℕ) (c : Content) → content_of w n ≡ Some c → (c.side.period ≡ period b n) × (c.side.child ≡ child_period b n)) where
  alike : (n : ℕ) → ReadsAlike u w n
  alike n = slots-alike u w n (same n)

  child-is : (m : ℕ) → child_kept w m ≡ child_period b m
  child-is m = go (content_of w m) refl
    where
      go : (o : Option Content) → content_of w m ≡ o → option_map_or (λ (c : Content). c.side.child) o 0 ≡ child_period b m
      go None e = sym (absent b u s m (sym (same m) ∙ ap (λ (o : Option Content). option_map_or (λ (c : Content). c.slots) o []) e))
      go (Some d) e = (is m d e).1

  pub kept-by-board : PeriodsKept w
  kept-by-board n c there =
      let both = is n c there in
      record {
        period = both.0 ∙ sym (ap (turn_by w n) (alike n).source ∙ go (source_on u n) refl);
        child = both.1 ∙ sym (child-before b u s fit n c.side.period both.0) ∙ sym (scaled-alike u w n (alike n) c.side.period);
      }
    where
      go : (o : Option Key) → source_on u n ≡ o → turn_by w n o ≡ period b n
      go None e = (alike n).own ∙ sym (period-own b n (shows-source b u s n ∙ ap birth_of e) ∙ shows-own b u s n)
      go (Some key) e = child-is key.birth ∙ sym (period-fed b n key.birth (shows-source b u s n ∙ ap birth_of e))

-- the clocks are as they should be on each board that is shown after acts, where what is kept is right

pub sources-acts : (b x : Board) (v y : Objects) → Shows b v → Shows x y → Acts v y → sources x ≡ sources b
sources-acts b x v y s t acts = fun_ext (λ n. ap option_to_list (one n))
  where
    one : (n : ℕ) → source_of x n ≡ source_of b n
    one n =
        let same : source_on y n ≡ source_on v n = rw (acts-slots v y acts n) refl in
        shows-source x y t n ∙ ap birth_of same ∙ sym (shows-source b v s n)

pub clocked-acts : (b x : Board) (v y : Objects) → Shows b v → Shows x y → Acts v y → ClocksFit b → ((c : ℕ) → Leads (sources b) c c → ⊥) → PeriodsKept y
    → Clocked x y
clocked-acts b x v y s t acts fit none_round kept =
    record {
      fits = fits-acts b x v y s t acts fit;
      none_round = λ c. subst (λ (next : ℕ → List ℕ). Leads next c c → ⊥) (sym (sources-acts b x v y s t acts)) (none_round c);
      kept = kept;
    }

-- what is read of an object that is there
pub clocked-read : (b : Board) (v : Objects) → Shows b v → Clocked b v → (n : ℕ) (x : Side) → option_map (λ (c : Content). c.side) (content_of v n) ≡ Some x
    → (x.period ≡ period b n) × (x.child ≡ child_period b n)
clocked-read b v s k n x e = go (content_of v n) refl e
  where
    go : (o : Option Content) → content_of v n ≡ o → option_map (λ (c : Content). c.side) o ≡ Some x
        → (x.period ≡ period b n) × (x.child ≡ child_period b n)
    go None at is = cc
    go (Some c) at is =
        let same : x ≡ c.side = sym (same_Some c.side x is) in (
          ap (λ (y : Side). y.period) same ∙ kept-period b v s k.fits k.none_round k.kept n c at,
          ap (λ (y : Side). y.child) same ∙ kept-child b v s k.fits k.none_round k.kept n c at,
        )
