-- An object that is there, and held from outside the tree, stays so where others are released.
use Rattle.std.proofs.Common.{◌≡◌, refl, ap, ◌∙◌, ℕ, ◌+◌, ◌<◌, Bool, true, false, cond, nat_eq, eqb, ◌==◌, List, [], ◌∷◌, count_by, Option, arith}
use Rattle.std.specs.List.{AllByRecursion, list_any}
use Rattle.std.proofs.lemmas.Bool.{eqb-true}
use Rattle.std.proofs.lemmas.List.Sums.{sum_by-cons}
use Rattle.qo_model.specs.Board.{Board, is_live}
use Rattle.qo_model.specs.References.{refs}
use Rattle.qo_model.specs.Release.{after, drop_slot, finalize, finish}
use Rattle.qo_model.specs.ReleaseInduction.{KeepsRelease}
use Rattle.qo_model.proofs.ReleaseInductionLemmas.{after_keeps}
use Rattle.qo_model.proofs.StepLemmas.{drop-live, finish-live}

pub record IsHeld (x : ℕ) (b : Board) : Type 0 where
  pub live : is_live b x ≡ true
  pub pinned : list_any (nat_eq x) b.pins ≡ true

pinned-count : (x : ℕ) (pins : List ℕ) → list_any (nat_eq x) pins ≡ true → 0 < count_by (λ m. m == x) pins
pinned-count x [] e = cc
pinned-count x (m ∷ ms) e = rw (sum_by-cons (λ (y : ℕ). cond {A = ℕ} (eqb y x) 1 0) m ms) (go (eqb m x) refl (pinned-count x ms))
  where
    go : (t : Bool) → eqb m x ≡ t → (list_any (nat_eq x) ms ≡ true → 0 < count_by (λ y. y == x) ms) → 0 < cond {A = ℕ} t 1 0 + count_by (λ y. y == x) ms
    go true p rest = omega arith
    go false p rest =
        let other : nat_eq x m ≡ false = grind (arith, p) in
        let later : 0 < count_by (λ y. y == x) ms = rest (rw other at e) in
        omega arith

module _ (x : ℕ) where
  pub held-drop : (b : Board) (n i : ℕ) → IsHeld x b → IsHeld x (drop_slot b n i)
  unfolding drop_slot
  held-drop b n i h = record { live = drop-live b n i x ∙ h.live; pinned = h.pinned }

  held-finish : (b : Board) (n : ℕ) → (x == n) ≡ false → IsHeld x b → IsHeld x (finish b n)
  unfolding finish
  held-finish b n apart h = record { live = finish-live b n x ∙ rw (apart, h.live) refl; pinned = h.pinned }

  pub held-apart : (b : Board) (m : ℕ) → IsHeld x b → refs b m ≡ 0 → (x == m) ≡ false
  held-apart b m h free = go (x == m) refl
    where
      go : (t : Bool) → (x == m) ≡ t → t ≡ false
      go true p =
          let some : 0 < count_by (λ k. k == x) b.pins = pinned-count x b.pins h.pinned in
          let none : refs b x ≡ 0 = ap (refs b) (eqb-true x m p) ∙ free in
          absurd (omega (arith, some, none))
      go false p = refl

  abbrev Others : List (ℕ × ℕ) → Board → Type 0
  Others work b = IsHeld x b × AllByRecursion (λ (t : ℕ × ℕ). (x == t.0) ≡ false) work

  others-keep : KeepsRelease Others
  others-keep =
      record {
        ended = λ b n j work p e. (held-finish b n p.1.0 p.0, p.1.1);
        freed = λ b n j work s m p e h free. (held-drop b n j p.0, (held-apart (drop_slot b n j) m (held-drop b n j p.0) free, (p.1.0, p.1.1)));
        kept = λ b n j work s p e held_on. (held-drop b n j p.0, (p.1.0, p.1.1));
      }

  pub held-after : (b : Board) (o : Option ℕ) → IsHeld x b → IsHeld x (after finalize b o)
  held-after b o h = (after_keeps Others others-keep b o [] (λ m e free. (h, (held-apart b m h free, tt))) (λ held_on. (h, tt))).0
