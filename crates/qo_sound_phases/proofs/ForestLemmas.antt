-- What is gone over below an object, where each object is below one other at most: none is gone over twice.
use Rattle.std.proofs.Common.{◌≡◌, refl, ap, sym, subst, ◌∙◌, ℕ, zero, suc, ◌<◌, ◌≤◌, true, false, eqb, List, [], ◌∷◌, ◌++◌, arith}
use Rattle.qo_model.proofs.Common.{IsDistinct, among, by_depth, by_objects, IsLocal, IsTree, leads, Leads, one, more}
use Rattle.std.specs.List.{flat_map}
use Rattle.std.proofs.lemmas.Bool.{eqb-true, eq-eqb}
use Rattle.qo_model.proofs.DepthLemmas.{by_objects_is, Leads-push}
use Rattle.qo_sound.proofs.TestLemmas.{decide, clash, clash-back}
use Rattle.qo_sound_phases.proofs.ListLemmas.{among-cases, among-left, among-right, distinct-append, distinct-joined, From, from-joined, joined-among, one-among}
use Rattle.qo_model.proofs.AmongLemmas.{among-one}

-- o is r, or below it
pub data Reach (next : ℕ → List ℕ) (r : ℕ) : ℕ → Type 0 where
  itself : Reach next r r
  further : {p m : ℕ} → Reach next r p → leads next p m ≡ true → Reach next r m

-- each object is below one other at most, once, and none is below itself
pub record IsForest (next : ℕ → List ℕ) (all : List ℕ) : Type 0 where
  pub rank : ℕ → ℕ
  pub rises : (p m : ℕ) → leads next p m ≡ true → rank p < rank m
  pub one_above : (p q m : ℕ) → leads next p m ≡ true → leads next q m ≡ true → p ≡ q
  pub once : (p : ℕ) → IsDistinct eqb (next p)
  pub there : (p m : ℕ) → leads next p m ≡ true → among all m ≡ true

pub reach-front : (next : ℕ → List ℕ) (r m o : ℕ) → leads next r m ≡ true → Reach next m o → Reach next r o
reach-front next r m o e itself = further itself e
reach-front next r m o e (further h k) = further (reach-front next r m _ e h) k

-- the turn that lists all that is below an object, and then the object
abbrev pub turn : (ℕ → List ℕ) → (ℕ → List ℕ) → ℕ → List ℕ
turn next f o = flat_map f (next o) ++ o ∷ []

module _ (next : ℕ → List ℕ) where
  abbrev listed : ℕ → ℕ → List ℕ
  listed depth = by_depth (turn next) (λ _. []) depth

  -- what is listed is below
  pub listed-reach : (depth r o : ℕ) → among (by_depth (turn next) (λ _. []) depth r) o ≡ true → Reach next r o
  listed-reach zero r o e = clash-back e
  listed-reach (suc depth) r o e = go (listed-reach depth)
    where
      go : ((m k : ℕ) → among (by_depth (turn next) (λ _. []) depth m) k ≡ true → Reach next m k) → Reach next r o
      go rest =
          among-cases o (flat_map (by_depth (turn next) (λ _. []) depth) (next r)) (r ∷ []) e
          (λ i. came (from-joined (by_depth (turn next) (λ _. []) depth) (next r) o i))
          (λ i. subst (Reach next r) (sym (among-one o r i)) itself)
        where
          came : From (by_depth (turn next) (λ _. []) depth) (next r) o → Reach next r o
          came h = reach-front next r h.source o h.there (rest h.source o h.comes)

  turn-local : IsLocal next (turn next)
  turn-local n f g same = ap (λ (xs : List ℕ). xs ++ n ∷ []) (go (next n) (λ m e. same m e))
    where
      go : (ms : List ℕ) → ((m : ℕ) → among ms m ≡ true → f m ≡ g m) → flat_map f ms ≡ flat_map g ms
      go [] k = refl
      go (m ∷ ms) k = rw (k m (rw (eq-eqb m m refl) refl)) (ap (λ (xs : List ℕ). g m ++ xs) (go ms (λ x e. k x (later x e))))
        where
          later : (x : ℕ) → among ms x ≡ true → among (m ∷ ms) x ≡ true
          later x e = among-right x (m ∷ []) ms e

  module _ (all : List ℕ) (h : IsForest next all) where
    pub reach-rank : (r o : ℕ) → Reach next r o → h.rank r ≤ h.rank o
    reach-rank r o itself = omega arith
    reach-rank r o (further k e) = omega (arith, reach-rank r _ k, h.rises _ o e)

    leads-rank : {n m : ℕ} → Leads next n m → h.rank n < h.rank m
    leads-rank (one {n} {m} e) = h.rises n m e
    leads-rank (more {n} {m} {k} e l) = omega (arith, h.rises n m e, leads-rank l)

    tree : IsTree next all
    tree = record { none_round = λ n l. let rank : h.rank n < h.rank n = leads-rank l in omega (arith, rank); lives = h.there }

    -- of two objects above a third one is above the other
    pub above : (r s o : ℕ) → Reach next r o → Reach next s o → {A : Type 0} → (Reach next r s → A) → (Reach next s r → A) → A
    above r s o itself k f g = g k
    above r s o (further i e) itself f g = f (further i e)
    above r s o (further {p} i e) (further {p = q} j d) f g =
        above r s p i (subst (Reach next s) (sym (h.one_above p q o e d)) j) f g

    -- what is above an object and is not it is above the one above it
    pub before : (r p m : ℕ) → Reach next r m → leads next p m ≡ true → (eqb r m ≡ false) → Reach next r p
    before r p m itself e apart = clash (sym (eq-eqb m m refl) ∙ apart)
    before r p m (further {p = q} k i) e apart = subst (Reach next r) (h.one_above q p m i e) k

    same-above : (n x y o : ℕ) → leads next n x ≡ true → leads next n y ≡ true → Reach next x o → Reach next y o → x ≡ y
    same-above n x y o e d i j = decide (eqb x y) (λ t. eqb-true x y t) apart
      where
        lower : (v w : ℕ) → leads next n v ≡ true → leads next n w ≡ true → Reach next v w → eqb v w ≡ false → x ≡ y
        lower v w a b k t =
            let up : Reach next v n = before v n w k b t in
            let low : h.rank v ≤ h.rank n = reach-rank v n up in
            absurd (omega (arith, low, h.rises n v a))

        turned : eqb x y ≡ false → eqb y x ≡ false
        turned t = grind (arith, t)

        apart : eqb x y ≡ false → x ≡ y
        apart t = above x y o i j (λ k. lower x y e d k t) (λ k. lower y x d e k (turned t))

    -- none is listed twice
    pub listed-once : (depth r : ℕ) → IsDistinct eqb (by_depth (turn next) (λ _. []) depth r)
    unfolding IsDistinct
    listed-once zero r = tt
    listed-once (suc depth) r = go (listed-once depth)
      where
        single : IsDistinct eqb (r ∷ [])
        single = (tt, tt)

        apart : (o : ℕ) → among (flat_map (by_depth (turn next) (λ _. []) depth) (next r)) o ≡ true → among (r ∷ []) o ≡ true → ⊥
        apart o i j =
            let s : From (by_depth (turn next) (λ _. []) depth) (next r) o = from-joined (by_depth (turn next) (λ _. []) depth) (next r) o i in
            let low : h.rank s.source ≤ h.rank o = reach-rank s.source o (listed-reach depth s.source o s.comes) in
            let up : h.rank r < h.rank s.source = h.rises r s.source s.there in
            let is : h.rank o ≡ h.rank r = ap h.rank (among-one o r j) in
            omega (arith, low, up, is)

        go : ((m : ℕ) → IsDistinct eqb (by_depth (turn next) (λ _. []) depth m))
            → IsDistinct eqb (flat_map (by_depth (turn next) (λ _. []) depth) (next r) ++ r ∷ [])
        go rest =
            distinct-append (flat_map (by_depth (turn next) (λ _. []) depth) (next r)) (r ∷ [])
            (distinct-joined (by_depth (turn next) (λ _. []) depth) (next r) (h.once r) (λ m e. rest m)
            (λ x y o e d i j. same-above r x y o e d (listed-reach depth x o i) (listed-reach depth y o j)))
            single apart

    -- what is below is listed
    abbrev whole : ℕ → List ℕ
    whole = by_objects (turn next) (λ _. []) all

    is-turn : (n : ℕ) → by_objects (turn next) (λ _. []) all n ≡ flat_map (by_objects (turn next) (λ _. []) all) (next n) ++ n ∷ []
    is-turn n = by_objects_is next (turn next) (λ _. []) all turn-local tree n

    own : (n : ℕ) → among (by_objects (turn next) (λ _. []) all n) n ≡ true
    own n = ap (λ (xs : List ℕ). among xs n) (is-turn n) ∙ among-right n (flat_map whole (next n)) (n ∷ []) (one-among n)

    step : (n m o : ℕ) → leads next n m ≡ true → among (by_objects (turn next) (λ _. []) all m) o ≡ true
        → among (by_objects (turn next) (λ _. []) all n) o ≡ true
    step n m o e i =
        ap (λ (xs : List ℕ). among xs o) (is-turn n) ∙ among-left o (flat_map whole (next n)) (n ∷ []) (joined-among whole (next n) m o e i)

    leads-listed : {n o : ℕ} → Leads next n o → among (by_objects (turn next) (λ _. []) all n) o ≡ true
    leads-listed (one {n} {m} e) = step n m m e (own m)
    leads-listed (more {n} {m} {k} e l) = step n m k e (leads-listed l)

    as-leads : (r o : ℕ) → Reach next r o → {A : Type 0} → (r ≡ o → A) → (Leads next r o → A) → A
    as-leads r o itself f g = f refl
    as-leads r o (further {p} k e) f g =
        as-leads r p k (λ is. g (one (subst (λ (x : ℕ). leads next x o ≡ true) (sym is) e))) (λ l. g (Leads-push l e))

    pub reach-listed : (r o : ℕ) → Reach next r o → among (by_objects (turn next) (λ _. []) all r) o ≡ true
    reach-listed r o k = as-leads r o k (λ is. subst (λ (x : ℕ). among (by_objects (turn next) (λ _. []) all r) x ≡ true) is (own r)) leads-listed
