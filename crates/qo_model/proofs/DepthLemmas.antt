-- The law of recursion by objects: its answer is one turn over its own answers.
use Rattle.std.proofs.Common.{◌≡◌, refl, sym, subst, ℕ, zero, suc, ◌+◌, ◌-◌, ◌<◌, ◌≤◌, Bool, true, false, List, [], ◌∷◌, length, eqb, arith}
use Rattle.qo_model.proofs.Common.{AllByRecursion, IsDistinct, nat_eq_equiv, by_depth, by_objects, among, leads, Leads, one, more, IsTree, IsLocal}
use Rattle.std.proofs.lemmas.Bool.{eqb-true}
use Rattle.std.proofs.lemmas.Map.Made.{length-le_from_is_member}
use Rattle.qo_model.proofs.AmongLemmas.{among-all}

-- one level less, where there are levels
pub one-less : (n : ℕ) → (n ≡ 0 → ⊥) → n ≡ suc (n - 1)
one-less zero not_zero = absurd (not_zero refl)
one-less (suc n) not_zero = omega arith

-- one step more after others
pub Leads-push : {next : ℕ → List ℕ} {n m k : ℕ} → Leads next n m → leads next m k ≡ true → Leads next n k
Leads-push (one e) s = more e (one s)
Leads-push (more e l) s = more e (Leads-push l s)

-- where each step goes up, the whole way goes up
pub Leads-up : (next : ℕ → List ℕ) → ((n m : ℕ) → leads next n m ≡ true → n < m) → {n m : ℕ} → Leads next n m → n < m
Leads-up next up (one {n} {m} e) = up n m e
Leads-up next up (more {n} {m} {k} e l) = let a : n < m = up n m e in let b : m < k = Leads-up next up l in omega arith

-- the way back, where each step has one back
pub Leads-back : (next back : ℕ → List ℕ) → ((n m : ℕ) → leads next n m ≡ true → leads back m n ≡ true) → {n m : ℕ} → Leads next n m → Leads back m n
Leads-back next back turned (one {n} {m} e) = one (turned n m e)
Leads-back next back turned (more {n} {m} {k} e l) = Leads-push (Leads-back next back turned l) (turned n m e)

module _ (next : ℕ → List ℕ) (all : List ℕ) (tree : IsTree next all) where
  -- the objects passed on the way to m: they differ, they are among all objects, and each leads to m
  record IsWay (passed : List ℕ) (m : ℕ) : Type 0 where
    distinct : IsDistinct eqb passed
    live : AllByRecursion (λ x. among all x ≡ true) passed
    ahead : AllByRecursion (λ x. Leads next x m) passed
    here : among all m ≡ true

  -- none that leads to m is m
  apart : (m : ℕ) (passed : List ℕ) → AllByRecursion (λ x. Leads next x m) passed → AllByRecursion (λ x. eqb m x ≡ false) passed
  apart m [] h = tt
  apart m (x ∷ xs) h = (go (eqb m x) refl, apart m xs h.1)
    where
      go : (t : Bool) → eqb m x ≡ t → eqb m x ≡ false
      go false e = e
      go true e = absurd (tree.none_round m (subst (λ k. Leads next k m) (sym (eqb-true m x e)) h.0))

  -- each of them leads to what m leads to
  further : (m k : ℕ) (passed : List ℕ) → leads next m k ≡ true → AllByRecursion (λ x. Leads next x m) passed → AllByRecursion (λ x. Leads next x k) passed
  further m k [] s h = tt
  further m k (x ∷ xs) s h = (Leads-push h.0 s, further m k xs s h.1)

  way-more : (m k : ℕ) (passed : List ℕ) → IsWay passed m → leads next m k ≡ true → IsWay (m ∷ passed) k
  unfolding IsDistinct
  way-more m k passed w s =
      record {
        distinct = (apart m passed w.ahead, w.distinct);
        live = (w.here, w.live);
        ahead = (one s, further m k passed s w.ahead);
        here = tree.lives m k s;
      }

  way-none : (m : ℕ) → among all m ≡ true → IsWay [] m
  unfolding IsDistinct
  way-none m h = record { distinct = tt; live = tt; ahead = tt; here = h }

  -- with m itself there are no more of them than objects
  way-length : (m : ℕ) (passed : List ℕ) → IsWay passed m → length passed + 1 ≤ length all
  unfolding IsDistinct
  way-length m passed w =
      let short : length (m ∷ passed) ≤ length all =
      length-le_from_is_member nat_eq_equiv (m ∷ passed) all (apart m passed w.ahead, w.distinct)
      (among-all (λ k. among all k ≡ true) (m ∷ passed) (w.here, w.live)) in
      omega arith

module _ {A : Type 0} (next : ℕ → List ℕ) (turn : (ℕ → A) → ℕ → A) (base : ℕ → A) (all : List ℕ) (local : IsLocal next turn) (tree : IsTree next all) where
  -- after d passed objects a depth that leaves room for the others is enough
  enough : (depth : ℕ) (m : ℕ) (passed : List ℕ) → IsWay next all tree passed m → length all ≤ length passed + depth
      → by_depth turn base depth m ≡ by_depth turn base (suc depth) m
  enough zero m passed w room = absurd (let long : length passed + 1 ≤ length all = way-length next all tree m passed w in omega arith)
  enough (suc depth) m passed w room =
      local m (by_depth turn base depth) (by_depth turn base (suc depth))
      (λ k s. enough depth k (m ∷ passed) (way-more next all tree m k passed w s) (omega arith))

  -- the answer at each object, also where none is, is a turn over the answers
  pub by_objects_is : (n : ℕ) → by_objects turn base all n ≡ turn (by_objects turn base all) n
  by_objects_is n =
      local n (by_depth turn base (length all)) (by_depth turn base (suc (length all)))
      (λ m s. enough (length all) m [] (way-none next all tree m (tree.lives n m s)) (omega arith))
