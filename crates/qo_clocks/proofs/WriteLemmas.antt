-- A clock is written: the periods below it, before and after, are those that the recursion on the heap carries down.
use Rattle.std.proofs.Common.{◌≡◌, refl, ap, ap₂, subst, sym, ◌∙◌, ℕ, zero, suc, ◌^◌, ◌<◌, Bool, true, false, not, ◌||◌, nat_eq, nat_le, cond, eqb, List, [], ◌∷◌, ◌++◌, map, length, filter, Option, Some, None, option_map, arith}
use Rattle.std.specs.Prelude.{Ok, Err}
use Rattle.std.specs.List.{flat_map, list_any}
use Rattle.std.specs.Option.{option_map_or}
use Rattle.std.proofs.Math.Path.{fun_ext}
use Rattle.std.proofs.lemmas.Bool.{eq-eqb, eqb-true, or_parts}
use Rattle.std.proofs.lemmas.Bool.Decides.{nat_tests}
use Rattle.std.proofs.lemmas.List.{map-append}
use Rattle.std.proofs.lemmas.List.Folds.{list_any-append}
use Rattle.std.proofs.lemmas.Option.{same_Some}
use Rattle.qo_values.specs.declared.codes.Code.TheVariants.{E47}
use Rattle.qo_values.specs.declared.kinds.Act.TheVariants.{Pre, Update}
use Rattle.qo_slots.specs.declared.keys.Key.{Key}
use Rattle.qo_model.specs.Board.{Board}
use Rattle.qo_model.specs.Clocks.{ClocksFit, acted, called_all, child_period, clock_written, clocks_below, fed_by, fed_turn, is_source, overflows, period, scaled, scaled_by, source_of, spread}
use Rattle.qo_model.specs.Depth.{among, by_depth}
use Rattle.qo_model.specs.Paths as paths
use Rattle.qo_model.specs.Paths.{births}
use Rattle.qo_model.proofs.ClockFitLemmas.{IsWritten, with_below}
use Rattle.qo_model.proofs.PeriodLemmas.{period-fed}
use Rattle.qo_object.specs.BoardObject.{birth_of}
use Rattle.qo_object.specs.Content.{Content}
use Rattle.qo_heap.specs.Acts.{Acts, clocked_in, periods_of}
use Rattle.qo_heap.specs.Board.{Shows}
use Rattle.qo_heap.specs.Objects.{Objects, content_of, parent_of, with_edit}
use Rattle.qo_heap.proofs.ActsLemmas.{acts-none, acts-then}
use Rattle.qo_heap.proofs.BoardActs.{shows-acted}
use Rattle.qo_heap.proofs.BoardReads.{shows-births, shows-parent}
use Rattle.qo_clocks.specs.declared.errors.ClockError.TheVariants.{Overflow}
use Rattle.qo_clocks.specs.Kept.{child_kept, with_periods}
use Rattle.qo_clocks.specs.Overflows.{over_at, over_turn, overflows_on}
use Rattle.qo_clocks.specs.Subtree.{fed_on, goes_by}
use Rattle.qo_clocks.specs.Periods.{fitting, scaled_on, wide_on}
use Rattle.qo_clocks.specs.Reads.{source_on}
use Rattle.qo_clocks.specs.Spread.{Change, acted_on, all_changed_on, change_at, changed_on, changes_on, changes_turn, spread_on}
use Rattle.qo_clocks.specs.Writes.{Answers, all_fit}
use Rattle.qo_clocks.proofs.BelowLemmas.{differs, period-elsewhere}
use Rattle.qo_clocks.proofs.PeriodLemmas.{cut-low, shows-wide}
use Rattle.qo_clocks.proofs.ReadLemmas.{shows-source}
use Rattle.qo_clocks.proofs.CycleLemmas.{Under, one, more, round-at, scaled-same, under-new}
use Rattle.qo_clocks.proofs.KeptLemmas.{periods-acts, periods-elsewhere, periods-here, periods-shown}
use Rattle.qo_clocks.proofs.SpreadLemmas.{acts-parent, called-periods, changed-acts}

-- lists of clocks with those below each

or-assoc : (s t u : Bool) → ((s || t) || u) ≡ (s || (t || u))
or-assoc true t u = refl
or-assoc false t u = refl

any-below : (p h : ℕ → Bool) (g : ℕ → List ℕ) (q : ℕ → Bool) (xs : List ℕ) → ((n : ℕ) → q n ≡ true → h n ≡ (p n || list_any p (g n)))
    → list_any h (filter q xs) ≡ list_any p (flat_map (with_below g) (filter q xs))
any-below p h g q [] each = refl
any-below p h g q (x ∷ xs) each = go (q x) refl (any-below p h g q xs each)
  where
    go : (t : Bool) → q x ≡ t → list_any h (filter q xs) ≡ list_any p (flat_map (with_below g) (filter q xs))
        → list_any h (cond t (x ∷ filter q xs) (filter q xs)) ≡ list_any p (flat_map (with_below g) (cond t (x ∷ filter q xs) (filter q xs)))
    go true e rest =
        let others : List ℕ = flat_map (with_below g) (filter q xs) in
        ap₂ (λ (s t : Bool). s || t) (each x e) rest
        ∙ or-assoc (p x) (list_any p (g x)) (list_any p others)
        ∙ ap (λ (t : Bool). p x || t) (sym (list_any-append p (g x) others))
    go false e rest = rest

filter-append : (q : ℕ → Bool) (xs ys : List ℕ) → filter q (xs ++ ys) ≡ filter q xs ++ filter q ys
filter-append q [] ys = refl
filter-append q (x ∷ xs) ys = go (q x) (filter-append q xs ys)
  where
    go : (t : Bool) → filter q (xs ++ ys) ≡ filter q xs ++ filter q ys
        → cond t (x ∷ filter q (xs ++ ys)) (filter q (xs ++ ys)) ≡ cond t (x ∷ filter q xs) (filter q xs) ++ filter q ys
    go true rest = ap (λ (l : List ℕ). x ∷ l) rest
    go false rest = rest

map-below : (f : ℕ → List Change) (m : ℕ → Change) (r p : ℕ → Bool) (g : ℕ → List ℕ) (q : ℕ → Bool) (xs : List ℕ)
    → ((n : ℕ) → q n ≡ true → (p n || list_any p (g n)) ≡ false → f n ≡ map m (filter r (n ∷ g n)))
    → list_any p (flat_map (with_below g) (filter q xs)) ≡ false → flat_map f (filter q xs) ≡ map m (filter r (flat_map (with_below g) (filter q xs)))
map-below f m r p g q [] each none = refl
map-below f m r p g q (x ∷ xs) each none = go (q x) refl none (map-below f m r p g q xs each)
  where
    others : List ℕ
    others = flat_map (with_below g) (filter q xs)

    go : (t : Bool) → q x ≡ t → list_any p (flat_map (with_below g) (cond t (x ∷ filter q xs) (filter q xs))) ≡ false
        → (list_any p (flat_map (with_below g) (filter q xs)) ≡ false → flat_map f (filter q xs) ≡ map m (filter r (flat_map (with_below g) (filter q xs))))
        → flat_map f (cond t (x ∷ filter q xs) (filter q xs)) ≡ map m (filter r (flat_map (with_below g) (cond t (x ∷ filter q xs) (filter q xs))))
    go true e clear rest =
        let (own, left) = or_parts (p x || list_any p (g x)) (list_any p (flat_map (with_below g) (filter q xs)))
        (sym (list_any-append p (x ∷ g x) (flat_map (with_below g) (filter q xs))) ∙ clear) in
        ap₂ (λ (k l : List Change). k ++ l) (each x e own) (rest left)
        ∙ sym (map-append m (filter r (x ∷ g x)) (filter r (flat_map (with_below g) (filter q xs))))
        ∙ ap (map m) (sym (filter-append r (x ∷ g x) (flat_map (with_below g) (filter q xs))))
    go false e clear rest = rest clear

-- where none is one or the other, none is the one, nor the other

any-either : (p q : ℕ → Bool) (xs : List ℕ) → list_any (λ (k : ℕ). p k || q k) xs ≡ false → (filter p xs ≡ []) × (list_any q xs ≡ false)
any-either p q [] none = (refl, refl)
any-either p q (x ∷ xs) none = go (or_parts (p x || q x) (list_any (λ (k : ℕ). p k || q k) xs) none) (any-either p q xs)
  where
    go : ((p x || q x) ≡ false) × (list_any (λ (k : ℕ). p k || q k) xs ≡ false)
        → (list_any (λ (k : ℕ). p k || q k) xs ≡ false → (filter p xs ≡ []) × (list_any q xs ≡ false))
        → (filter p (x ∷ xs) ≡ []) × (list_any q (x ∷ xs) ≡ false)
    go parts rest =
        let here : (p x ≡ false) × (q x ≡ false) = or_parts (p x) (q x) parts.0 in
        let later : (filter p xs ≡ []) × (list_any q xs ≡ false) = rest parts.1 in (
          ap (λ (t : Bool). cond t (x ∷ filter p xs) (filter p xs)) here.0 ∙ later.0,
          ap₂ (λ (s t : Bool). s || t) here.1 later.1,
        )

any-none : (xs : List ℕ) → list_any (λ (k : ℕ). false) xs ≡ false
any-none [] = refl
any-none (x ∷ xs) = any-none xs

-- who goes by whom, and scaled periods

goes-shown : (c : ℕ) (o : Option Key) → option_map_or (λ (s : Key). eqb s.birth c) o false ≡ option_map_or (λ (s : ℕ). eqb s c) (birth_of o) false
goes-shown c None = refl
goes-shown c (Some s) = refl

pub shows-goes : (b : Board) (v : Objects) → Shows b v → (c : ℕ) → goes_by v c ≡ is_source b c
shows-goes b v s c =
    fun_ext
    (λ n. goes-shown c (source_on v n) ∙ sym (ap (λ (o : Option ℕ). option_map_or (λ (x : ℕ). eqb x c) o false) (shows-source b v s n)))

shows-fed : (b : Board) (v : Objects) → Shows b v → (c : ℕ) → fed_on v c ≡ fed_by b c
shows-fed b v s c = ap₂ (λ (p : ℕ → Bool) (l : List ℕ). filter p l) (shows-goes b v s c) (sym (shows-births b v s))

fed-source : (b : Board) (c n : ℕ) → is_source b c n ≡ true → source_of b n ≡ Some c
fed-source b c n e = go (source_of b n) refl e
  where
    go : (o : Option ℕ) → source_of b n ≡ o → option_map_or (λ (s : ℕ). eqb s c) o false ≡ true → source_of b n ≡ Some c
    go None p q = cc
    go (Some s) p q = p ∙ ap (λ (k : ℕ). Some k) (eqb-true s c q)

module _ (b new : Board) (c : ℕ) (w : IsWritten b new c) where
  abbrev below : ℕ → ℕ → List ℕ
  below d n = by_depth (fed_turn b) (λ _. []) d n

  -- what goes by n is below c
  abbrev IsWay : ℕ → Type 0
  IsWay n = (m : ℕ) → source_of b m ≡ Some n → Under b c m

  way-more : (n m : ℕ) → IsWay n → source_of b m ≡ Some n → IsWay m
  way-more n m way q = λ k r. more r (way m q)

  new-fed : (n m : ℕ) → source_of b m ≡ Some n → period new m ≡ child_period new n
  new-fed n m q = period-fed new m n (w.sources m ∙ q)

  old-below : (m : ℕ) → Under b c m → scaled new m (period b m) ≡ child_period b m
  old-below m u = sym (scaled-same b new c w m (period b m) (λ e. round-at b c m u e))

  new-below : (m : ℕ) → Under b c m → scaled b m (period new m) ≡ child_period new m
  new-below m u = scaled-same b new c w m (period new m) (λ e. round-at new c m (under-new b new c w u) e)

  -- overflows

  abbrev over_within : Objects → ℕ → ℕ → ℕ → Bool
  over_within v d = by_depth (over_turn v) (λ _ _. false) d

  over-one : (v : Objects) → Shows b v → (d n m : ℕ) → Under b c m → source_of b m ≡ Some n
      → over_within v d m (child_period new m) ≡ list_any (overflows new) (below d m)
      → over_at v (over_within v d) (child_period new n) m ≡ (overflows new m || list_any (overflows new) (below d m))
  over-one v s d n m u q rest =
      let wide : wide_on v m (child_period new n) ≡ child_period new m =
      ap (wide_on v m) (sym (new-fed n m q)) ∙ shows-wide b v s m (period new m) ∙ new-below m u in
      ap (λ (x : ℕ). nat_le (2 ^ 64) x || over_within v d m x) wide ∙ ap (λ (t : Bool). overflows new m || t) rest

  -- where the period of those that go by a clock stays, no period below it differs, and none overflows

  abbrev moves : ℕ → Bool
  moves n = differs b new c w n || overflows new n

  period-stays : (n m : ℕ) → source_of b m ≡ Some n → child_period b n ≡ child_period new n → period b m ≡ period new m
  period-stays n m q same = period-fed b m n q ∙ same ∙ sym (new-fed n m q)

  child-stays : (m : ℕ) → Under b c m → period b m ≡ period new m → child_period b m ≡ child_period new m
  child-stays m u same = sym (old-below m u) ∙ ap (scaled new m) same

  one-stays : ClocksFit b → (n m : ℕ) → Under b c m → source_of b m ≡ Some n → child_period b n ≡ child_period new n → moves m ≡ false
  one-stays fit n m u q same =
      let period_same : period b m ≡ period new m = period-stays n m q same in
      let child_same : child_period b m ≡ child_period new m = child-stays m u period_same in
      let low : child_period b m < 2 ^ 64 = fit.fits m in
      let fits : overflows new m ≡ false = grind (arith, nat_tests, child_same, low) in
      ap₂ (λ (s t : Bool). not s || t) (eq-eqb (period b m) (period new m) period_same) fits

  stays : ClocksFit b → (d n : ℕ) → IsWay n → child_period b n ≡ child_period new n → list_any moves (below d n) ≡ false
  stays fit zero n way same = refl
  stays fit (suc d) n way same =
      sym
      (any-below moves (λ (k : ℕ). false) (below d) (is_source b n) (births b)
      (λ m e.
      let q : source_of b m ≡ Some n = fed-source b n m e in
      let u : Under b c m = way m q in
      sym
      (ap₂ (λ (s t : Bool). s || t) (one-stays fit n m u q same)
      (stays fit d m (way-more n m way q) (child-stays m u (period-stays n m q same))))))
      ∙ any-none (filter (is_source b n) (births b))

  over-is : (v : Objects) → Shows b v → ClocksFit b → ((n : ℕ) → child_kept v n ≡ child_period b n) → (d n : ℕ) → IsWay n
      → over_within v d n (child_period new n) ≡ list_any (overflows new) (below d n)
  over-is v s fit kept zero n way = refl
  over-is v s fit kept (suc d) n way =
      go (eqb (child_kept v n) (child_period new n)) refl
      (ap (list_any (over_at v (over_within v d) (child_period new n))) (shows-fed b v s n)
      ∙ any-below (overflows new) (over_at v (over_within v d) (child_period new n)) (below d) (is_source b n) (births b)
      (λ m e. over-one v s d n m (way m (fed-source b n m e)) (fed-source b n m e) (over-is v s fit kept d m (way-more n m way (fed-source b n m e)))))
    where
      go : (t : Bool) → eqb (child_kept v n) (child_period new n) ≡ t
          → list_any (over_at v (over_within v d) (child_period new n)) (fed_on v n) ≡ list_any (overflows new) (below (suc d) n)
          → cond (eqb (child_kept v n) (child_period new n)) false (list_any (over_at v (over_within v d) (child_period new n)) (fed_on v n))
          ≡ list_any (overflows new) (below (suc d) n)
      go true e rest =
          let same : child_period b n ≡ child_period new n = sym (kept n) ∙ eqb-true (child_kept v n) (child_period new n) e in
          ap (λ (t : Bool). cond t false (list_any (over_at v (over_within v d) (child_period new n)) (fed_on v n))) e
          ∙ sym (any-either (differs b new c w) (overflows new) (below (suc d) n) (stays fit (suc d) n way same)).1
      go false e rest = ap (λ (t : Bool). cond t false (list_any (over_at v (over_within v d) (child_period new n)) (fed_on v n))) e ∙ rest

  pub over-below : (v : Objects) → Shows b v → ClocksFit b → ((n : ℕ) → child_kept v n ≡ child_period b n) → (levels : ℕ) → levels ≡ suc (length (births b))
      → (nat_le (2 ^ 64) (child_period new c) || overflows_on v levels c (child_period new c)) ≡ list_any (overflows new) (c ∷ clocks_below b c)
  unfolding overflows_on clocks_below
  over-below v s fit kept levels full =
      ap (λ (d : ℕ). overflows new c || over_within v d c (child_period new c)) full
      ∙ ap (λ (t : Bool). overflows new c || t) (over-is v s fit kept (suc (length (births b))) c (λ m q. one q))

  -- changes

  abbrev pub changed : ℕ → Change
  changed n = record { clock = n; before = period b n; after = period new n; child = child_period new n }

  new-fed_by : (n : ℕ) → fed_by new n ≡ fed_by b n
  new-fed_by n =
      ap₂ (λ (source : ℕ → Option ℕ) (l : List ℕ). filter (λ (m : ℕ). option_map_or (λ (s : ℕ). eqb s n) (source m) false) l) (fun_ext w.sources) w.births

  abbrev changes_within : Objects → ℕ → ℕ → ℕ → ℕ → List Change
  changes_within v d = by_depth (changes_turn v) (λ _ _ _. []) d

  change-one : (v : Objects) → Shows new v → ClocksFit b → (d n m : ℕ) → Under b c m → source_of b m ≡ Some n → overflows new m ≡ false
      → eqb (child_period b n) (child_period new n) ≡ false
      → changes_within v d m (child_period b m) (child_period new m) ≡ map changed (filter (differs b new c w) (below d m))
      → change_at v (changes_within v d) (child_period b n) (child_period new n) m ≡ map changed (filter (differs b new c w) (m ∷ below d m))
  change-one v s fit d n m u q fits apart rest =
      let before : ℕ = child_period b n in
      let after : ℕ = child_period new n in
      let old : before ≡ period b m = sym (period-fed b m n q) in
      let now : after ≡ period new m = sym (new-fed n m q) in
      let low : scaled_on v m (child_period b n) ≡ child_period b m =
      cut-low (wide_on v m (child_period b n)) (child_period b m)
      (ap (wide_on v m) old ∙ shows-wide new v s m (period b m) ∙ old-below m u) (fit.fits m) in
      let under : child_period new m < 2 ^ 64 = grind (arith, nat_tests, fits) in
      let high : scaled_on v m (child_period new n) ≡ child_period new m =
      cut-low (wide_on v m (child_period new n)) (child_period new m) (ap (wide_on v m) now ∙ shows-wide new v s m (period new m)) under in
      let differ : differs b new c w m ≡ true = ap₂ (λ (x y : ℕ). not (eqb x y)) (sym old) (sym now) ∙ ap not apart in
      ap₂ (λ (x y : ℕ). record { clock = m; before = x; after = y; child = scaled_on v m after } ∷ changes_within v d m (scaled_on v m before) (scaled_on v m after))
      old now
      ∙ ap₂ (λ (x y : ℕ). record { clock = m; before = period b m; after = period new m; child = y } ∷ changes_within v d m x y) low high
      ∙ ap (λ (l : List Change). changed m ∷ l) rest
      ∙ ap (λ (t : Bool). map changed (cond t (m ∷ filter (differs b new c w) (below d m)) (filter (differs b new c w) (below d m)))) (sym differ)

  changes-are : (v : Objects) → Shows new v → ClocksFit b → (d n : ℕ) → IsWay n → list_any (overflows new) (below d n) ≡ false
      → changes_within v d n (child_period b n) (child_period new n) ≡ map changed (filter (differs b new c w) (below d n))
  changes-are v s fit zero n way none = refl
  changes-are v s fit (suc d) n way none =
      go (eqb (child_period b n) (child_period new n)) refl
      (λ apart.
      ap (flat_map (change_at v (changes_within v d) (child_period b n) (child_period new n))) (shows-fed new v s n ∙ new-fed_by n)
      ∙ map-below (change_at v (changes_within v d) (child_period b n) (child_period new n)) changed (differs b new c w) (overflows new) (below d)
      (is_source b n) (births b)
      (λ m e clear.
      let parts : (overflows new m ≡ false) × (list_any (overflows new) (below d m) ≡ false) =
      or_parts (overflows new m) (list_any (overflows new) (below d m)) clear in
      change-one v s fit d n m (way m (fed-source b n m e)) (fed-source b n m e) parts.0 apart
      (changes-are v s fit d m (way-more n m way (fed-source b n m e)) parts.1))
      none)
    where
      go : (t : Bool) → eqb (child_period b n) (child_period new n) ≡ t
          → (eqb (child_period b n) (child_period new n) ≡ false
          → flat_map (change_at v (changes_within v d) (child_period b n) (child_period new n)) (fed_on v n)
          ≡ map changed (filter (differs b new c w) (below (suc d) n)))
          → cond (eqb (child_period b n) (child_period new n)) []
          (flat_map (change_at v (changes_within v d) (child_period b n) (child_period new n)) (fed_on v n))
          ≡ map changed (filter (differs b new c w) (below (suc d) n))
      go true e rest =
          let same : child_period b n ≡ child_period new n = eqb-true (child_period b n) (child_period new n) e in
          ap (λ (t : Bool). cond t [] (flat_map (change_at v (changes_within v d) (child_period b n) (child_period new n)) (fed_on v n))) e
          ∙ sym (ap (map changed) (any-either (differs b new c w) (overflows new) (below (suc d) n) (stays fit (suc d) n way same)).0)
      go false e rest =
          ap (λ (t : Bool). cond t [] (flat_map (change_at v (changes_within v d) (child_period b n) (child_period new n)) (fed_on v n))) e ∙ rest e

  -- calls

  abbrev parent_on : Board → ℕ → Option ℕ → Board
  parent_on x n o = elim o [ None ↦ x | Some d ↦ acted Update d (period new n) (acted Pre d (period b n) x) ]

  abbrev parent_called : Objects → ℕ → Option Key → Objects
  parent_called v n o = elim o as (λ _. Objects) [ None ↦ v | Some d ↦ acted_on Update d.birth (period new n) (acted_on Pre d.birth (period b n) v) ]

  -- a clock whose period differs
  shows-one : (v y : Objects) (x : Board) → Shows new v → Acts v y → Shows x y → (n : ℕ) → Shows (parent_on x n (paths.parent_of new n)) (changed_on (changed n) y)
  shows-one v y x s acts t n =
      subst (λ (o : Option ℕ). Shows (parent_on x n o) (parent_called (with_edit n (with_periods (period new n) (child_period new n)) y) n (parent_of (with_edit n (with_periods (period new n) (child_period new n)) y) n))) (sym parent) (by (parent_of (with_edit n (with_periods (period new n) (child_period new n)) y) n))
    where
      shown : Shows x (with_edit n (with_periods (period new n) (child_period new n)) y)
      shown = periods-shown n (period new n) (child_period new n) y x t

      by : (o : Option Key)
          → Shows (parent_on x n (birth_of o)) (parent_called (with_edit n (with_periods (period new n) (child_period new n)) y) n o)
      by None = shown
      by (Some d) =
          shows-acted (acted Pre d.birth (period b n) x) (acted_on Pre d.birth (period b n) (with_edit n (with_periods (period new n) (child_period new n)) y))
          (shows-acted x (with_edit n (with_periods (period new n) (child_period new n)) y) shown Pre d.birth (period b n)) Update d.birth
          (period new n)

      parent : paths.parent_of new n ≡ birth_of (parent_of (with_edit n (with_periods (period new n) (child_period new n)) y) n)
      parent =
          shows-parent new v s n
          ∙ ap birth_of
          (sym
          (acts-parent v (with_edit n (with_periods (period new n) (child_period new n)) y)
          (acts-then v y (with_edit n (with_periods (period new n) (child_period new n)) y) acts
          (periods-acts n (period new n) (child_period new n) y)) n))

  shows-all : (v : Objects) → Shows new v → (ns : List ℕ) (x : Board) (y : Objects) → Acts v y → Shows x y
      → Shows (called_all b new ns x) (all_changed_on (map changed (filter (differs b new c w) ns)) y)
  unfolding all_changed_on
  shows-all v s [] x y acts t = t
  shows-all v s (n ∷ ns) x y acts t =
      go (eqb (period b n) (period new n)) (shows-all v s ns x y acts t)
      (shows-all v s ns (parent_on x n (paths.parent_of new n)) (changed_on (changed n) y)
      (acts-then v y (changed_on (changed n) y) acts (changed-acts (changed n) y)) (shows-one v y x s acts t n))
    where
      go : (e : Bool) → Shows (called_all b new ns x) (all_changed_on (map changed (filter (differs b new c w) ns)) y)
          → Shows (called_all b new ns (parent_on x n (paths.parent_of new n)))
          (all_changed_on (map changed (filter (differs b new c w) ns)) (changed_on (changed n) y))
          → Shows (called_all b new ns (elim e as (λ _. Board) [ true ↦ x | false ↦ parent_on x n (paths.parent_of new n) ]))
          (all_changed_on (map changed (cond (not e) (n ∷ filter (differs b new c w) ns) (filter (differs b new c w) ns))) y)
      go true still moved = still
      go false still moved = moved

  -- what is made of the heap by the clocks whose periods differ
  pub spread-is : (v : Objects) → Shows new v → ClocksFit b → (levels : ℕ) → levels ≡ suc (length (births b))
      → list_any (overflows new) (clocks_below b c) ≡ false
      → spread_on v levels c (child_period b c) (child_period new c) ≡ all_changed_on (map changed (filter (differs b new c w) (clocks_below b c))) v
  unfolding spread_on changes_on clocks_below
  spread-is v s fit levels full none =
      ap (λ (l : List Change). all_changed_on l v)
      (ap (λ (d : ℕ). changes_within v d c (child_period b c) (child_period new c)) full
      ∙ changes-are v s fit (suc (length (births b))) c (λ m q. one q) none)

  shows-spread : (v : Objects) → Shows new v → ClocksFit b → (levels : ℕ) → levels ≡ suc (length (births b))
      → list_any (overflows new) (clocks_below b c) ≡ false → Shows (spread b new c) (spread_on v levels c (child_period b c) (child_period new c))
  shows-spread v s fit levels full none =
      rw (spread-is v s fit levels full none) (shows-all v s (clocks_below b c) new v (acts-none v) s)

  -- what the code decides, and what it answers

  fit-none : (v : Objects) (levels p : ℕ) → None ≡ all_fit v levels c (fitting p) → (nat_le (2 ^ 64) p || overflows_on v levels c p) ≡ true
  fit-none v levels p e = go (nat_le (2 ^ 64) p) e
    where
      by : (t : Bool) → None ≡ cond t None (Some p) → t ≡ true
      by true q = refl
      by false q = cc

      go : (t : Bool) → None ≡ all_fit v levels c (cond t None (Some p)) → (t || overflows_on v levels c p) ≡ true
      go true q = refl
      go false q = by (overflows_on v levels c p) q

  pub fit-some : (v : Objects) (levels p a : ℕ) → Some a ≡ all_fit v levels c (fitting p)
      → ((nat_le (2 ^ 64) p || overflows_on v levels c p) ≡ false) × (a ≡ p)
  fit-some v levels p a e = go (nat_le (2 ^ 64) p) e
    where
      by : (t : Bool) → Some a ≡ cond t None (Some p) → (t ≡ false) × (a ≡ p)
      by true q = cc
      by false q = (refl, same_Some a p q)

      go : (t : Bool) → Some a ≡ all_fit v levels c (cond t None (Some p)) → ((t || overflows_on v levels c p) ≡ false) × (a ≡ p)
      go true q = cc
      go false q = by (overflows_on v levels c p) q

  pub answer-over : (v x : Objects) → Shows b v → ClocksFit b → ((n : ℕ) → child_kept v n ≡ child_period b n) → (levels p : ℕ) → levels ≡ suc (length (births b)) → p ≡ child_period new c
      → None ≡ all_fit v levels c (fitting p) → Answers {A = Unit {0}} x (Err Overflow) (clock_written b new c)
  answer-over v x s fit kept levels p full is e =
      let over : list_any (overflows new) (c ∷ clocks_below b c) ≡ true =
      sym (over-below v s fit kept levels full)
      ∙ ap (λ (k : ℕ). nat_le (2 ^ 64) k || overflows_on v levels c k) (sym is)
      ∙ fit-none v levels p e in
      subst (λ (t : Bool). Answers {A = Unit {0}} x (Err Overflow) (cond t (Err E47) (Ok (spread b new c)))) (sym over) refl

  pub none-over : (v : Objects) → Shows b v → ClocksFit b → ((n : ℕ) → child_kept v n ≡ child_period b n) → (levels p a : ℕ) → levels ≡ suc (length (births b)) → p ≡ child_period new c
      → Some a ≡ all_fit v levels c (fitting p) → (overflows new c ≡ false) × (list_any (overflows new) (clocks_below b c) ≡ false)
  none-over v s fit kept levels p a full is e =
      or_parts (overflows new c) (list_any (overflows new) (clocks_below b c))
      (sym (over-below v s fit kept levels full)
      ∙ ap (λ (k : ℕ). nat_le (2 ^ 64) k || overflows_on v levels c k) (sym is)
      ∙ (fit-some v levels p a e).0)

  pub answer-done : (v v₁ x : Objects) → Shows b v → Shows new v₁ → ClocksFit b → ((n : ℕ) → child_kept v n ≡ child_period b n) → (levels p a before : ℕ) → levels ≡ suc (length (births b))
      → p ≡ child_period new c → before ≡ child_period b c → Some a ≡ all_fit v levels c (fitting p) → x ≡ spread_on v₁ levels c before a
      → Answers {A = Unit {0}} x (Ok tt) (clock_written b new c)
  answer-done v v₁ x s t fit kept levels p a before full is was e now =
      let parts : (overflows new c ≡ false) × (list_any (overflows new) (clocks_below b c) ≡ false) = none-over v s fit kept levels p a full is e in
      let fits : list_any (overflows new) (c ∷ clocks_below b c) ≡ false = ap₂ (λ (t u : Bool). t || u) parts.0 parts.1 in
      let same : a ≡ p = (fit-some v levels p a e).1 in
      let there : x ≡ spread_on v₁ levels c (child_period b c) (child_period new c) = now ∙ ap₂ (λ (k l : ℕ). spread_on v₁ levels c k l) was (same ∙ is) in
      let shown : Shows (spread b new c) x = rw there (shows-spread v₁ t fit levels full parts.1) in
      subst (λ (u : Bool). Answers {A = Unit {0}} x (Ok tt) (cond u (Err E47) (Ok (spread b new c)))) (sym fits) shown

  -- what is kept afterwards

  abbrev put : ℕ → Option (ℕ × ℕ) → Option (ℕ × ℕ)
  put m o = option_map (λ (_ : ℕ × ℕ). (period new m, child_period new m)) o

  put-twice : (m : ℕ) (o : Option (ℕ × ℕ)) → put m (put m o) ≡ put m o
  put-twice m None = refl
  put-twice m (Some p) = refl

  one-put : (y : Objects) (n m : ℕ) → clocked_in (changed_on (changed n) y) m ≡ cond (nat_eq m n) (put m (clocked_in y m)) (clocked_in y m)
  one-put y n m =
      called-periods n (period b n) (period new n) (with_edit n (with_periods (period new n) (child_period new n)) y) m ∙ go (nat_eq m n) refl
    where
      two : (o : Option Content) → option_map (λ (x : Content). (period new n, child_period new n)) o ≡ put n (option_map periods_of o)
      two None = refl
      two (Some x) = refl

      go : (t : Bool) → nat_eq m n ≡ t
          → clocked_in (with_edit n (with_periods (period new n) (child_period new n)) y) m ≡ cond t (put m (clocked_in y m)) (clocked_in y m)
      go true e =
          subst (λ (k : ℕ). clocked_in (with_edit n (with_periods (period new n) (child_period new n)) y) k ≡ put k (clocked_in y k)) (sym (eqb-true m n e))
          (periods-here n (period new n) (child_period new n) y ∙ two (content_of y n))
      go false e = periods-elsewhere n (period new n) (child_period new n) y m e

  all-put : (ns : List ℕ) (y : Objects) (m : ℕ)
      → clocked_in (all_changed_on (map changed ns) y) m ≡ cond (among ns m) (put m (clocked_in y m)) (clocked_in y m)
  unfolding all_changed_on
  all-put [] y m = refl
  all-put (n ∷ ns) y m =
      all-put ns (changed_on (changed n) y) m
      ∙ ap (λ (o : Option (ℕ × ℕ)). cond (among ns m) (put m o) o) (one-put y n m)
      ∙ go (nat_eq m n) (among ns m)
    where
      go : (s t : Bool) → cond t (put m (cond s (put m (clocked_in y m)) (clocked_in y m))) (cond s (put m (clocked_in y m)) (clocked_in y m))
          ≡ cond (s || t) (put m (clocked_in y m)) (clocked_in y m)
      go true true = put-twice m (clocked_in y m)
      go true false = refl
      go false true = refl
      go false false = refl

  -- where what was kept was right, but for the clock itself, which keeps its new periods
  module _ (v v₁ x : Objects)
      (was : (n : ℕ) (d : Content) → content_of v n ≡ Some d → (d.side.period ≡ period b n) × (d.side.child ≡ child_period b n))
      (same : (m : ℕ) → eqb m c ≡ false → clocked_in v₁ m ≡ clocked_in v m)
      (own : (d : Content) → content_of v₁ c ≡ Some d → (d.side.period ≡ period new c) × (d.side.child ≡ child_period new c))
      (now : x ≡ all_changed_on (map changed (filter (differs b new c w) (clocks_below b c))) v₁) where
    pub kept-now : (m : ℕ) (d : Content) → content_of x m ≡ Some d → (d.side.period ≡ period new m) × (d.side.child ≡ child_period new m)
    kept-now m d there = go (among (filter (differs b new c w) (clocks_below b c)) m) refl
      where
        found : clocked_in x m ≡ Some (periods_of d)
        found = ap (option_map periods_of) there

        read : Some (periods_of d)
            ≡ cond (among (filter (differs b new c w) (clocks_below b c)) m) (put m (clocked_in v₁ m)) (clocked_in v₁ m)
        read =
            sym found
            ∙ ap (λ (z : Objects). clocked_in z m) now
            ∙ all-put (filter (differs b new c w) (clocks_below b c)) v₁ m

        parts : (p q : ℕ) → periods_of d ≡ (p, q) → (d.side.period ≡ p) × (d.side.child ≡ q)
        parts p q e = (ap (λ (y : ℕ × ℕ). y.0) e, ap (λ (y : ℕ × ℕ). y.1) e)

        put-is : (o : Option (ℕ × ℕ)) → Some (periods_of d) ≡ put m o → (d.side.period ≡ period new m) × (d.side.child ≡ child_period new m)
        put-is None e = cc
        put-is (Some p) e = parts (period new m) (child_period new m) (same_Some (periods_of d) (period new m, child_period new m) e)

        at : (o : Option Content) (p q : ℕ) → ((z : Content) → o ≡ Some z → (z.side.period ≡ p) × (z.side.child ≡ q))
            → Some (periods_of d) ≡ option_map periods_of o → (d.side.period ≡ p) × (d.side.child ≡ q)
        at None p q is e = cc
        at (Some z) p q is e =
            let both : periods_of d ≡ periods_of z = same_Some (periods_of d) (periods_of z) e in
            let here = is z refl in
            (ap (λ (y : ℕ × ℕ). y.0) both ∙ here.0, ap (λ (y : ℕ × ℕ). y.1) both ∙ here.1)

        rest : among (filter (differs b new c w) (clocks_below b c)) m ≡ false → Some (periods_of d) ≡ clocked_in v₁ m → (t : Bool) → eqb m c ≡ t
            → (d.side.period ≡ period new m) × (d.side.child ≡ child_period new m)
        rest none e true is =
            let here : m ≡ c = eqb-true m c is in
            subst (λ (k : ℕ). (d.side.period ≡ period new k) × (d.side.child ≡ child_period new k)) (sym here)
            (at (content_of v₁ c) (period new c) (child_period new c) own (e ∙ ap (clocked_in v₁) here))
        rest none e false is =
            let old = at (content_of v m) (period b m) (child_period b m) (was m) (e ∙ same m is) in
            let period_same : period new m ≡ period b m = period-elsewhere b new c w m is none in
            let child_same : child_period new m ≡ child_period b m =
            ap (scaled new m) period_same ∙ ap₂ (λ (mul div : ℕ). scaled_by mul div (period b m)) (w.mul m is) (w.div m is) in
            (old.0 ∙ sym period_same, old.1 ∙ sym child_same)

        go : (t : Bool) → among (filter (differs b new c w) (clocks_below b c)) m ≡ t
            → (d.side.period ≡ period new m) × (d.side.child ≡ child_period new m)
        go true e = put-is (clocked_in v₁ m) (read ∙ ap (λ (t : Bool). cond t (put m (clocked_in v₁ m)) (clocked_in v₁ m)) e)
        go false e =
            rest e (read ∙ ap (λ (t : Bool). cond t (put m (clocked_in v₁ m)) (clocked_in v₁ m)) e) (eqb m c) refl
