-- Lists of keys as sets.
use Rattle.std.proofs.Common.{◌≡◌, Bool, true, false, cond, ◌||◌, List, [], ◌∷◌, ◌++◌, map, refl, ap}
use Rattle.std.specs.List.{list_any}
use Rattle.std.specs.Set.{remove_key}
use Rattle.indexmap.specs.IndexSet.{insert_key}

-- a new key goes last
pub insert_key-new : {T : Type 0} (eq : T → T → Bool) (ks : List T) (k : T) → list_any (eq k) ks ≡ false → insert_key eq ks k ≡ ks ++ k ∷ []
insert_key-new eq ks k new = rw new refl

module _ {A B : Type 0} (f : A → B) (test : B → Bool) where
  -- a test of what the keys stand for
  pub list_any-map : (xs : List A) → list_any test (map f xs) ≡ list_any (λ x. test (f x)) xs
  list_any-map [] = refl
  list_any-map (x ∷ xs) = ap (λ b. test (f x) || b) (list_any-map xs)

  pub remove_key-map : (xs : List A) → remove_key test (map f xs) ≡ map f (remove_key (λ x. test (f x)) xs)
  remove_key-map [] = refl
  remove_key-map (x ∷ xs) = by (test (f x)) (remove_key-map xs)
    where
      by : (b : Bool) → remove_key test (map f xs) ≡ map f (remove_key (λ y. test (f y)) xs)
          → cond b (map f xs) (f x ∷ remove_key test (map f xs)) ≡ map f (cond b xs (x ∷ remove_key (λ y. test (f y)) xs))
      by true rest = refl
      by false rest = ap (λ ys. f x ∷ ys) rest
