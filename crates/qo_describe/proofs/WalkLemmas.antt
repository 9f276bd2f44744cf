-- What the slots of an object give, one after another, as a list.
use Rattle.std.proofs.Common.{◌≡◌, ℕ, zero, suc, ◌+◌, ◌≤◌, List, [], ◌∷◌, ◌++◌, length, map, take, refl, sym, ap, ◌∙◌, append_assoc, append-nil, arith}
use Rattle.std.proofs.Common.{Option, None, Some, subst, Result, Ok, Err, IfOk, OnOk}
use Rattle.std.specs.Prelude.{filter_map, flat_map, option_and_then, slice_get}
use Rattle.std.specs.List.{cons_option}
use Rattle.std.specs.Option.{option_map_or}
use Rattle.std.proofs.lemmas.List.{take_all}

module _ {X Y Z : Type 0} (g : Y → List Z) (f : X → Option Y) where
  -- a slot more
  walked : (i : ℕ) (xs : List X)
      → flat_map g (filter_map f (take (suc i) xs)) ≡ flat_map g (filter_map f (take i xs)) ++ option_map_or g (option_and_then f (slice_get xs i)) []
  walked zero [] = refl
  walked (suc i) [] = refl
  walked zero (x ∷ xs) = go (f x)
    where
      go : (o : Option Y) → flat_map g (cons_option o (filter_map f (take 0 xs))) ≡ option_map_or g o []
      go None = refl
      go (Some y) = append-nil (g y)
  walked (suc i) (x ∷ xs) = go (f x) (walked i xs)
    where
      go : (o : Option Y)
          → flat_map g (filter_map f (take (suc i) xs)) ≡ flat_map g (filter_map f (take i xs)) ++ option_map_or g (option_and_then f (slice_get xs i)) []
          → flat_map g (cons_option o (filter_map f (take (suc i) xs)))
          ≡ flat_map g (cons_option o (filter_map f (take i xs))) ++ option_map_or g (option_and_then f (slice_get xs i)) []
      go None rest = rest
      go (Some y) rest = ap (λ (l : List Z). g y ++ l) rest ∙ sym (append_assoc (g y) (flat_map g (filter_map f (take i xs))) _)

  -- of a list, after a front
  pub walk-more : (i : ℕ) (xs : List X) (front all next : List Z) → all ≡ front ++ flat_map g (filter_map f (take i xs))
      → next ≡ all ++ option_map_or g (option_and_then f (slice_get xs i)) [] → next ≡ front ++ flat_map g (filter_map f (take (i + 1) xs))
  walk-more i xs front all next so more =
      let one : suc i ≡ i + 1 = omega arith in
      more ∙ ap (λ (l : List Z). l ++ option_map_or g (option_and_then f (slice_get xs i)) []) so
      ∙ append_assoc front (flat_map g (filter_map f (take i xs))) (option_map_or g (option_and_then f (slice_get xs i)) [])
      ∙ ap (λ (l : List Z). front ++ l) (sym (walked i xs)) ∙ ap (λ (k : ℕ). front ++ flat_map g (filter_map f (take k xs))) one

  pub walk-all : (i : ℕ) (xs : List X) (front all : List Z) → length xs ≤ i → all ≡ front ++ flat_map g (filter_map f (take i xs))
      → all ≡ front ++ flat_map g (filter_map f xs)
  walk-all i xs front all le so = so ∙ ap (λ (l : List X). front ++ flat_map g (filter_map f l)) (take_all i xs le)

-- what each gives alone
pub one-by-one : {X Z : Type 0} (f : X → Z) (xs : List X) → flat_map (λ (x : X). f x ∷ []) xs ≡ map f xs
one-by-one f [] = refl
one-by-one f (x ∷ xs) = ap (λ l. f x ∷ l) (one-by-one f xs)

-- what those give that give something
pub each-given : {X Y Z : Type 0} (g : Y → Z) (f : X → Option Y) (xs : List X)
    → flat_map (λ (x : X). map g (filter_map f (x ∷ []))) xs ≡ map g (filter_map f xs)
each-given g f [] = refl
each-given {X} {Y} {Z} g f (x ∷ xs) = go (f x) (each-given g f xs)
  where
    go : (o : Option Y) → flat_map (λ (z : X). map g (filter_map f (z ∷ []))) xs ≡ map g (filter_map f xs)
        → map g (cons_option o []) ++ flat_map (λ (z : X). map g (filter_map f (z ∷ []))) xs ≡ map g (cons_option o (filter_map f xs))
    go None rest = rest
    go (Some y) rest = ap (λ (l : List Z). g y ∷ l) rest

-- what is put after others where there is nothing, and where there is one
pub put-none : {T Z : Type 0} (g : T → List Z) (o : Option T) (all : List Z) → None ≡ o → all ≡ all ++ option_map_or g o []
put-none {T} g o all is = subst (λ (x : Option T). all ≡ all ++ option_map_or g x []) is (sym (append-nil all))

pub put-some : {T Z : Type 0} (g : T → List Z) (y : T) (o : Option T) (all next : List Z) → next ≡ all ++ g y → Some y ≡ o → next ≡ all ++ option_map_or g o []
put-some {T} g y o all next so is = subst (λ (x : Option T). next ≡ all ++ option_map_or g x []) is so

-- what is so of a call is so of one that ends as it does
pub then-ok : {T E P Q : Type 0} (r : Result T E) → OnOk r P → (P → Q) → OnOk r Q
then-ok (Ok x) p then = then p
then-ok (Err e) p then = tt

pub ok-as : {T E X : Type 0} (f : T → X) (r : Result T E) (d e : X) → d ≡ e → IfOk r (λ v. f v ≡ d) → IfOk r (λ v. f v ≡ e)
ok-as f (Ok v) d e same is = is ∙ same
ok-as f (Err x) d e same is = tt

-- what is made of equals is equal
pub same-two : {A B C : Type 0} (f : A → B → C) (a x : A) (b y : B) → a ≡ x → b ≡ y → f a b ≡ f x y
same-two {A} {B} f a x b y p q = ap (λ (z : A). f z b) p ∙ ap (λ (z : B). f x z) q

pub same-four : {A B C D E : Type 0} (f : A → B → C → D → E) (a k : A) (b l : B) (c m : C) (d n : D) → a ≡ k → b ≡ l → c ≡ m → d ≡ n → f a b c d ≡ f k l m n
same-four {A} {B} {C} {D} {E} f a k b l c m d n p q r s =
    same-two (λ (z : A) (w : B). f z w c d) a k b l p q ∙ same-two (λ (z : C) (w : D). f k l z w) c m d n r s

pub same-six : {A B : Type 0} (f : A → A → A → A → A → A → B) (a k b l c m d n e o g h : A) → a ≡ k → b ≡ l → c ≡ m → d ≡ n → e ≡ o → g ≡ h
    → f a b c d e g ≡ f k l m n o h
same-six {A} f a k b l c m d n e o g h p q r s t u =
    same-four (λ (z w x y : A). f z w x y e g) a k b l c m d n p q r s ∙ same-two (λ (z w : A). f k l m n z w) e o g h t u
