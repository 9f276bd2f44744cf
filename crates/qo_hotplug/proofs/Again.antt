-- The first removals of a list changed, and then all of them.
use Rattle.std.proofs.Common.{◌≡◌, refl, ap, ℕ, zero, suc, ◌<◌, List, [], ◌∷◌, map, length, slice_index_or, slice_set, arith}
use Rattle.qo_model.specs.Board.{Removal}

abbrev pub changed_to : (Removal → Removal) → ℕ → List Removal → List Removal
changed_to f zero rs = rs
changed_to f (suc n) [] = []
changed_to f (suc n) (r ∷ rs) = f r ∷ changed_to f n rs

pub changed-all : (f : Removal → Removal) (rs : List Removal) → changed_to f (length rs) rs ≡ map f rs
changed-all f [] = refl
changed-all f (r ∷ rs) = ap (λ (xs : List Removal). f r ∷ xs) (changed-all f rs)

pub changed-length : (f : Removal → Removal) (n : ℕ) (rs : List Removal) → length (changed_to f n rs) ≡ length rs
changed-length f zero rs = refl
changed-length f (suc n) [] = refl
changed-length f (suc n) (r ∷ rs) = ap suc (changed-length f n rs)

pub changed-at : (f : Removal → Removal) (n : ℕ) (rs : List Removal) (d : Removal) → slice_index_or (changed_to f n rs) n d ≡ slice_index_or rs n d
changed-at f zero rs d = refl
changed-at f (suc n) [] d = refl
changed-at f (suc n) (r ∷ rs) d = changed-at f n rs d

pub changed-more : (f : Removal → Removal) (n : ℕ) (rs : List Removal) (d : Removal) → n < length rs
    → slice_set (changed_to f n rs) n (f (slice_index_or rs n d)) ≡ changed_to f (suc n) rs
changed-more f zero [] d h = absurd (omega (arith, h))
changed-more f zero (r ∷ rs) d h = refl
changed-more f (suc n) [] d h = absurd (omega (arith, h))
changed-more f (suc n) (r ∷ rs) d h = ap (λ (xs : List Removal). f r ∷ xs) (changed-more f n rs d (omega (arith, h)))
