-- What the slots of an object give, one after another, as text.
use Rattle.std.proofs.Common.{◌≡◌, ℕ, zero, suc, ◌+◌, ◌≤◌, List, [], ◌∷◌, ◌++◌, length, take, refl, sym, ap, ◌∙◌, append_assoc, append-nil, arith}
use Rattle.std.proofs.Common.{Option, None, Some}
use Rattle.std.specs.Prelude.{filter_map, flat_map, option_and_then, slice_get}
use Rattle.std.specs.List.{cons_option}
use Rattle.std.specs.Option.{option_map_or}
use Rattle.std.proofs.lemmas.List.{take_all}

module _ {X Y : Type 0} (g : Y → List ℕ) (f : X → Option Y) where
  -- a slot more
  walked : (i : ℕ) (xs : List X)
      → flat_map g (filter_map f (take (suc i) xs)) ≡ flat_map g (filter_map f (take i xs)) ++ option_map_or g (option_and_then f (slice_get xs i)) []
  walked zero [] = refl
  walked (suc i) [] = refl
  walked zero (x ∷ xs) = go (f x)
    where
      go : (o : Option Y) → flat_map g (cons_option o (filter_map f (take 0 xs))) ≡ option_map_or g o []
      go None = refl
      go (Some y) = append-nil (g y)
  walked (suc i) (x ∷ xs) = go (f x) (walked i xs)
    where
      go : (o : Option Y)
          → flat_map g (filter_map f (take (suc i) xs)) ≡ flat_map g (filter_map f (take i xs)) ++ option_map_or g (option_and_then f (slice_get xs i)) []
          → flat_map g (cons_option o (filter_map f (take (suc i) xs)))
          ≡ flat_map g (cons_option o (filter_map f (take i xs))) ++ option_map_or g (option_and_then f (slice_get xs i)) []
      go None rest = rest
      go (Some y) rest = ap (λ (l : List ℕ). g y ++ l) rest ∙ sym (append_assoc (g y) (flat_map g (filter_map f (take i xs))) _)

  -- of a text, after a front
  pub walk-more : (i : ℕ) (xs : List X) (front text next : List ℕ) → text ≡ front ++ flat_map g (filter_map f (take i xs))
      → next ≡ text ++ option_map_or g (option_and_then f (slice_get xs i)) [] → next ≡ front ++ flat_map g (filter_map f (take (i + 1) xs))
  walk-more i xs front text next so more =
      let one : suc i ≡ i + 1 = omega arith in
      more ∙ ap (λ (l : List ℕ). l ++ option_map_or g (option_and_then f (slice_get xs i)) []) so
      ∙ append_assoc front (flat_map g (filter_map f (take i xs))) (option_map_or g (option_and_then f (slice_get xs i)) [])
      ∙ ap (λ (l : List ℕ). front ++ l) (sym (walked i xs)) ∙ ap (λ (k : ℕ). front ++ flat_map g (filter_map f (take k xs))) one

  pub walk-all : (i : ℕ) (xs : List X) (front text : List ℕ) → length xs ≤ i → text ≡ front ++ flat_map g (filter_map f (take i xs))
      → text ≡ front ++ flat_map g (filter_map f xs)
  walk-all i xs front text le so = so ∙ ap (λ (l : List X). front ++ flat_map g (filter_map f l)) (take_all i xs le)
