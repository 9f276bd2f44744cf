-- Lists over which two functions agree; and what leads to objects of a higher rank alone.
use Rattle.std.proofs.Common.{◌≡◌, refl, ap, ap₂, ◌∙◌, ℕ, ◌<◌, true, List, [], ◌∷◌, ◌++◌, arith}
use Rattle.qo_model.proofs.Common.{Board, among, IsTree, leads, Leads, more, one, each}
use Rattle.std.specs.List.{flat_map}
use Rattle.std.proofs.lemmas.Bool.{eq-eqb}
use Rattle.qo_sound_phases.proofs.ListLemmas.{among-right}

first-among : (m : ℕ) (ms : List ℕ) → among (m ∷ ms) m ≡ true
first-among m ms = rw (eq-eqb m m refl) refl

pub flat-same : (f g : ℕ → List ℕ) (ms : List ℕ) → ((m : ℕ) → among ms m ≡ true → f m ≡ g m) → flat_map f ms ≡ flat_map g ms
flat-same f g [] same = refl
flat-same f g (m ∷ ms) same =
    ap₂ (λ (xs ys : List ℕ). xs ++ ys) (same m (first-among m ms)) (flat-same f g ms (λ x e. same x (among-right x (m ∷ []) ms e)))

pub each-same : (f g : ℕ → Board → Board) (ms : List ℕ) → ((m : ℕ) → among ms m ≡ true → (c : Board) → f m c ≡ g m c) → (c : Board) → each f ms c ≡ each g ms c
each-same f g [] same c = refl
each-same f g (m ∷ ms) same c =
    each-same f g ms (λ x e. same x (among-right x (m ∷ []) ms e)) (f m c) ∙ ap (each g ms) (same m (first-among m ms) c)

-- what rises leads to nothing twice
pub rises-all : (next : ℕ → List ℕ) (rank : ℕ → ℕ) → ((p m : ℕ) → leads next p m ≡ true → rank p < rank m) → (n k : ℕ) → Leads next n k → rank n < rank k
rises-all next rank rises n k (one e) = rises n k e
rises-all next rank rises n k (more {m = m} e w) = omega (arith, rises n m e, rises-all next rank rises m k w)

pub tree-rises : (next : ℕ → List ℕ) (all : List ℕ) (rank : ℕ → ℕ) → ((p m : ℕ) → leads next p m ≡ true → rank p < rank m)
    → ((p m : ℕ) → leads next p m ≡ true → among all m ≡ true) → IsTree next all
tree-rises next all rank rises there =
    record { none_round = λ n w. let low : rank n < rank n = rises-all next rank rises n n w in absurd (omega (arith, low)); lives = there }
