-- The period of a clock that goes by another is by that one's period, on every board, also where sources lead round.
use Rattle.std.proofs.Common.{◌≡◌, refl, ap, subst, sym, ◌∙◌, ℕ, zero, suc, ◌+◌, ◌*◌, ◌/◌, ◌≤◌, ◌||◌, Bool, true, false, cond, eqb, nat_eq, List, [], ◌∷◌, map, length, find, Option, Some, None, option_map, unwrap_or, codes, arith}
use Rattle.qo_model.proofs.Common.{nat_eq_equiv, AllByRecursion, IsDistinct, option_map_or, bytes_eq, Board, Record, Slot, child_period, div_of, mul_of, own_period, period, period_turn, scaled, scaled_by, source_of, among, by_depth, leads, Leads, one, more, number_in, plain_in, PeriodsLaw, births}
use Rattle.std.specs.Prelude.{option_and_then}
use Rattle.std.proofs.Math.Nat.{zero-div}
use Rattle.std.proofs.lemmas.Bool.{eq-eqb, eqb-true}
use Rattle.std.proofs.lemmas.Bool.Decides.{nat_tests}
use Rattle.std.proofs.lemmas.Map.Made.{length-le_from_is_member}
use Rattle.std.proofs.lemmas.Option.{same_Some}
use Rattle.qo_model.specs.Clocks.{weak_in}
use Rattle.qo_model.proofs.DepthLemmas.{Leads-push}
use Rattle.qo_model.proofs.AmongLemmas.{among-apart}

pub scaled-zero : (mul div : ℕ) → scaled_by mul div 0 ≡ 0
scaled-zero mul div = go (eqb div 0)
  where
    go : (t : Bool) → cond t 0 (0 * mul / div) ≡ 0
    go true = refl
    go false = let none : 0 * mul ≡ 0 = omega arith in ap (λ (k : ℕ). k / div) none ∙ zero-div div

-- an object that is not there has no slots
no-record : (n : ℕ) (rs : List Record) → among (map (λ (r : Record). r.birth) rs) n ≡ false → find (λ (r : Record). eqb r.birth n) rs ≡ None
no-record n [] e = refl
no-record n (r ∷ rs) e = go (eqb n r.birth) refl e (no-record n rs)
  where
    go : (t : Bool) → eqb n r.birth ≡ t → (t || among (map (λ (x : Record). x.birth) rs) n) ≡ false
        → (among (map (λ (x : Record). x.birth) rs) n ≡ false → find (λ (x : Record). eqb x.birth n) rs ≡ None)
        → find (λ (x : Record). eqb x.birth n) (r ∷ rs) ≡ None
    go true p q rest = cc
    go false p q rest =
        let other : eqb r.birth n ≡ false = grind (arith, nat_tests, p) in
        rw other (rest q)

module _ (b : Board) where
  abbrev slot_in_record : List ℕ → Option Record → Option Slot
  slot_in_record name o =
      option_map (λ (s : List ℕ × Slot). s.1) (find (λ (s : List ℕ × Slot). bytes_eq s.0 name) (option_map_or (λ (r : Record). r.slots) o []))

  no-source : (n : ℕ) → among (births b) n ≡ false → source_of b n ≡ None
  no-source n e = ap (λ (o : Option Record). option_and_then weak_in (slot_in_record (codes "source") o)) (no-record n b.records e)

  no-own : (n : ℕ) → among (births b) n ≡ false → own_period b n ≡ 0
  no-own n e =
      ap (λ (o : Option Record). unwrap_or (option_and_then number_in (option_and_then plain_in (slot_in_record (codes "period") o))) 0)
      (no-record n b.records e)

  pub with-source : (n s : ℕ) → source_of b n ≡ Some s → among (births b) n ≡ true
  with-source n s q = go (among (births b) n) refl
    where
      go : (t : Bool) → among (births b) n ≡ t → t ≡ true
      go true e = refl
      go false e = let none : source_of b n ≡ None = no-source n e in cc

  -- a clock leads to its source

  abbrev sources : ℕ → List ℕ
  sources n = elim (source_of b n) [ None ↦ [] | Some s ↦ s ∷ [] ]

  leads-source : (n s : ℕ) → source_of b n ≡ Some s → leads sources n s ≡ true
  leads-source n s q =
      ap (λ (o : Option ℕ). among (elim o as (λ _. List ℕ) [ None ↦ [] | Some k ↦ k ∷ [] ]) s) q ∙ ap (λ (t : Bool). t || false) (eq-eqb s s refl)

  source-leads : (n m : ℕ) → leads sources n m ≡ true → source_of b n ≡ Some m
  source-leads n m e = go (source_of b n) e
    where
      go : (o : Option ℕ) → among (elim o as (λ _. List ℕ) [ None ↦ [] | Some k ↦ k ∷ [] ]) m ≡ true → o ≡ Some m
      go None q = cc
      go (Some k) q = by (nat_eq m k) refl q
        where
          by : (t : Bool) → nat_eq m k ≡ t → (t || false) ≡ true → Some k ≡ Some m
          by true p r = ap (λ (x : ℕ). Some x) (sym (eqb-true m k p))
          by false p r = cc

  -- on a round each clock stands still

  first-source : {n m : ℕ} → Leads sources n m → (s : ℕ) × (source_of b n ≡ Some s)
  first-source (one {n} {m} e) = (m, source-leads n m e)
  first-source (more {n} {m} {k} e l) = (m, source-leads n m e)

  around : {n m : ℕ} → Leads sources n m → n ≡ m → (s : ℕ) → source_of b n ≡ Some s → Leads sources s s
  around (one {n} {m} e) same s q =
      let to : m ≡ s = same_Some m s (sym (source-leads n m e) ∙ q) in
      let turned : leads sources m m ≡ true = subst (λ (k : ℕ). leads sources k m ≡ true) same e in
      subst (λ (k : ℕ). Leads sources k k) to (one turned)
  around (more {n} {m} {k} e l) same s q =
      let to : m ≡ s = same_Some m s (sym (source-leads n m e) ∙ q) in
      let turned : leads sources k m ≡ true = subst (λ (x : ℕ). leads sources x m ≡ true) same e in
      subst (λ (x : ℕ). Leads sources x x) to (Leads-push l turned)

  abbrev pub to_depth : ℕ → ℕ → ℕ
  to_depth d n = by_depth (period_turn b) (λ _. 0) d n

  abbrev pub turn_by : (ℕ → ℕ) → ℕ → Option ℕ → ℕ
  turn_by f n o = elim o [ None ↦ own_period b n | Some s ↦ scaled b s (f s) ]

  round-zero : (k n : ℕ) → Leads sources n n → to_depth k n ≡ 0
  round-zero zero n l = refl
  round-zero (suc k) n l =
      let first : (s : ℕ) × (source_of b n ≡ Some s) = first-source l in
      ap (turn_by (to_depth k) n) first.1
      ∙ ap (scaled b first.0) (round-zero k first.0 (around l refl first.0 first.1))
      ∙ scaled-zero (mul_of b first.0) (div_of b first.0)

  -- the clocks passed on the way to m

  record IsPassed (passed : List ℕ) (m : ℕ) : Type 0 where
    distinct : IsDistinct eqb passed
    live : AllByRecursion (λ x. among (births b) x ≡ true) passed
    ahead : AllByRecursion (λ x. Leads sources x m) passed

  none-passed : (m : ℕ) → IsPassed [] m
  unfolding IsDistinct
  none-passed m = record { distinct = tt; live = tt; ahead = tt }

  passed-round : (m : ℕ) (passed : List ℕ) → among passed m ≡ true → AllByRecursion (λ x. Leads sources x m) passed → Leads sources m m
  passed-round m [] e all = cc
  passed-round m (x ∷ xs) e all = go (eqb m x) refl e (passed-round m xs)
    where
      go : (t : Bool) → eqb m x ≡ t → (t || among xs m) ≡ true → (among xs m ≡ true → AllByRecursion (λ y. Leads sources y m) xs → Leads sources m m)
          → Leads sources m m
      go true p q rest = subst (λ (k : ℕ). Leads sources k m) (sym (eqb-true m x p)) all.0
      go false p q rest = rest q all.1

  further : (m k : ℕ) (passed : List ℕ) → leads sources m k ≡ true → AllByRecursion (λ x. Leads sources x m) passed
      → AllByRecursion (λ x. Leads sources x k) passed
  further m k [] s all = tt
  further m k (x ∷ xs) s all = (Leads-push all.0 s, further m k xs s all.1)

  passed-more : (m s : ℕ) (passed : List ℕ) → IsPassed passed m → among passed m ≡ false → source_of b m ≡ Some s → IsPassed (m ∷ passed) s
  unfolding IsDistinct
  passed-more m s passed w not q =
      let step : leads sources m s ≡ true = leads-source m s q in
      record {
        distinct = (among-apart m passed not, w.distinct);
        live = (with-source m s q, w.live);
        ahead = (one step, further m s passed step w.ahead);
      }

  live-among : (xs : List ℕ) → AllByRecursion (λ x. among (births b) x ≡ true) xs → (q : ℕ) → among xs q ≡ true → among (births b) q ≡ true
  live-among [] h q e = cc
  live-among (x ∷ xs) h q e = go (eqb q x) refl (live-among xs h.1 q)
    where
      go : (t : Bool) → eqb q x ≡ t → (among xs q ≡ true → among (births b) q ≡ true) → among (births b) q ≡ true
      go true p rest = subst (λ k. among (births b) k ≡ true) (sym (eqb-true q x p)) h.0
      go false p rest = rest (rw p at e)

  few : (m : ℕ) (passed : List ℕ) → IsPassed passed m → among passed m ≡ false → among (births b) m ≡ true → length passed + 1 ≤ length (births b)
  unfolding IsDistinct
  few m passed w not live =
      let short : length (m ∷ passed) ≤ length (births b) =
      length-le_from_is_member nat_eq_equiv (m ∷ passed) (births b) (among-apart m passed not, w.distinct) (live-among (m ∷ passed) (live, w.live)) in
      omega arith

  -- after as many clocks as there are objects nothing follows but rounds

  last : (m : ℕ) (passed : List ℕ) → IsPassed passed m → length (births b) ≤ length passed → 0 ≡ to_depth 1 m
  last m passed w room = go (among passed m) refl
    where
      gone : among (births b) m ≡ false → 0 ≡ to_depth 1 m
      gone e = sym (ap (turn_by (to_depth 0) m) (no-source m e) ∙ no-own m e)

      by : among passed m ≡ false → (t : Bool) → among (births b) m ≡ t → 0 ≡ to_depth 1 m
      by not true live = absurd (let more_than : length passed + 1 ≤ length (births b) = few m passed w not live in omega arith)
      by not false e = gone e

      go : (t : Bool) → among passed m ≡ t → 0 ≡ to_depth 1 m
      go true e = sym (round-zero 1 m (passed-round m passed e w.ahead))
      go false e = by e (among (births b) m) refl

  stable : (depth m : ℕ) (passed : List ℕ) → IsPassed passed m → length (births b) ≤ length passed + depth → to_depth depth m ≡ to_depth (suc depth) m
  stable zero m passed w room = last m passed w (omega arith)
  stable (suc d) m passed w room = go (among passed m) refl (λ not s q. stable d s (m ∷ passed) (passed-more m s passed w not q) (omega arith))
    where
      by : (o : Option ℕ) → source_of b m ≡ o → ((s : ℕ) → source_of b m ≡ Some s → to_depth d s ≡ to_depth (suc d) s)
          → to_depth (suc d) m ≡ to_depth (suc (suc d)) m
      by None q rest = ap (turn_by (to_depth d) m) q ∙ sym (ap (turn_by (to_depth (suc d)) m) q)
      by (Some s) q rest = ap (turn_by (to_depth d) m) q ∙ ap (scaled b s) (rest s q) ∙ sym (ap (turn_by (to_depth (suc d)) m) q)

      go : (t : Bool) → among passed m ≡ t → (among passed m ≡ false → (s : ℕ) → source_of b m ≡ Some s → to_depth d s ≡ to_depth (suc d) s)
          → to_depth (suc d) m ≡ to_depth (suc (suc d)) m
      go true e rest = round-zero (suc d) m (passed-round m passed e w.ahead) ∙ sym (round-zero (suc (suc d)) m (passed-round m passed e w.ahead))
      go false e rest = by (source_of b m) refl (rest e)

  -- the period of a clock is its own where it has no source, and else its source's child period
  pub period-own : (c : ℕ) → source_of b c ≡ None → period b c ≡ own_period b c
  unfolding period
  period-own c q = ap (turn_by (to_depth (length (births b))) c) q

  pub period-fed : (c s : ℕ) → source_of b c ≡ Some s → period b c ≡ child_period b s
  unfolding period
  period-fed c s q = ap (turn_by (to_depth (length (births b))) c) q ∙ ap (scaled b s) (stable (length (births b)) s [] (none-passed s) (omega arith))

pub periods_lem : PeriodsLaw
periods_lem b c = go (source_of b c) refl
  where
    go : (o : Option ℕ) → source_of b c ≡ o → period b c ≡ elim o [ None ↦ own_period b c | Some s ↦ child_period b s ]
    go None q = period-own b c q
    go (Some s) q = period-fed b c s q
