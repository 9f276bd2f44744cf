-- What is made of some of a list's members, in order.
use Rattle.std.proofs.Common.{◌≡◌, ◌⊎◌, inl, inr, refl, ap, sym, subst, ◌∙◌, ℕ, ◌<◌, true, ◌==◌, ◌&&◌, List, [], ◌∷◌, ◌++◌, filter_map, map, Option, Some, None, append_assoc, arith}
use Rattle.qo_model.proofs.Common.{AllByRecursion, bytes_eq}
use Rattle.std.proofs.lemmas.Bool.{eq-eqb}
use Rattle.std.proofs.lemmas.Slice.Eq.{bytes_eq-Decides}
use Rattle.std.proofs.Math.Bool.{or-true}
use Rattle.qo_model.specs.SoundGraph.{Rises}
use Rattle.qo_values.proofs.ListLemmas.{all-imply}
use Rattle.qo_sound_devices.specs.SoundPlaces.{has_entry}
use Rattle.qo_good.specs.Good.{EachAfter, Give, gives, none, OneOf, passed}

pub one-append : {X : Type 0} (P : X → Type 0) (xs ys : List X) → OneOf P xs ⊎ OneOf P ys → OneOf P (xs ++ ys)
one-append P [] ys (inl h) = absurd h
one-append P [] ys (inr h) = h
one-append P (x ∷ xs) ys (inl (inl h)) = inl h
one-append P (x ∷ xs) ys (inl (inr h)) = inr (one-append P xs ys (inl h))
one-append P (x ∷ xs) ys (inr h) = inr (one-append P xs ys (inr h))

pub one-imply : {X : Type 0} (P Q : X → Type 0) → ((x : X) → P x → Q x) → (xs : List X) → OneOf P xs → OneOf Q xs
one-imply P Q from [] h = h
one-imply P Q from (x ∷ xs) (inl h) = inl (from x h)
one-imply P Q from (x ∷ xs) (inr h) = inr (one-imply P Q from xs h)

-- one that something is made of makes one
pub one-mapped : {X Y : Type 0} (P : X → Type 0) (Q : Y → Type 0) (f : X → Option Y) → ((x : X) → P x → (y : Y) × ((f x ≡ Some y) × Q y)) → (xs : List X)
    → OneOf P xs → OneOf Q (filter_map f xs)
one-mapped P Q f from [] h = absurd h
one-mapped P Q f from (x ∷ xs) (inl h) = let (y, (is, k)) = from x h in rw is (inl k)
one-mapped {Y = Y} P Q f from (x ∷ xs) (inr h) = go (f x) refl (one-mapped P Q f from xs h)
  where
    go : (o : Option Y) → f x ≡ o → OneOf Q (filter_map f xs) → OneOf Q (filter_map f (x ∷ xs))
    go None q rest = rw q rest
    go (Some y) q rest = rw q (inr rest)

pub one-map : {X Y : Type 0} (P : X → Type 0) (Q : Y → Type 0) (f : X → Y) → ((x : X) → P x → Q (f x)) → (xs : List X) → OneOf P xs → OneOf Q (map f xs)
one-map P Q f from [] h = absurd h
one-map P Q f from (x ∷ xs) (inl h) = inl (from x h)
one-map P Q f from (x ∷ xs) (inr h) = inr (one-map P Q f from xs h)

-- one of those that all have something has it too
pub one-both : {X : Type 0} (P Q : X → Type 0) (xs : List X) → AllByRecursion P xs → OneOf Q xs → OneOf (λ (x : X). P x × Q x) xs
one-both P Q [] all h = h
one-both P Q (x ∷ xs) all (inl h) = inl (all.0, h)
one-both P Q (x ∷ xs) all (inr h) = inr (one-both P Q xs all.1 h)

pub all-both : {X : Type 0} (P Q : X → Type 0) (xs : List X) → AllByRecursion P xs → AllByRecursion Q xs → AllByRecursion (λ (x : X). P x × Q x) xs
all-both P Q [] h k = tt
all-both P Q (x ∷ xs) h k = ((h.0, k.0), all-both P Q xs h.1 k.1)

pub all-some : {X : Type 0} (P : X → Type 0) → ((x : X) → P x) → (xs : List X) → AllByRecursion P xs
all-some P h [] = tt
all-some P h (x ∷ xs) = (h x, all-some P h xs)

pub all-append : {X : Type 0} (P : X → Type 0) (xs ys : List X) → AllByRecursion P xs → AllByRecursion P ys → AllByRecursion P (xs ++ ys)
all-append P [] ys h k = k
all-append P (x ∷ xs) ys h k = (h.0, all-append P xs ys h.1 k)

pub all-after : {X : Type 0} (P : X → Type 0) (xs ys : List X) → AllByRecursion P (xs ++ ys) → AllByRecursion P ys
all-after P [] ys h = h
all-after P (x ∷ xs) ys h = all-after P xs ys h.1

-- what is made of each, as another list
pub filter_map-all : {X Y : Type 0} (f : X → Option Y) (g : X → Y) → (xs : List X) → AllByRecursion (λ (x : X). f x ≡ Some (g x)) xs → filter_map f xs ≡ map g xs
filter_map-all f g [] h = refl
filter_map-all f g (x ∷ xs) h = rw h.0 (ap (λ ys. g x ∷ ys) (filter_map-all f g xs h.1))

pub filter_map-map : {X Y Z : Type 0} (f : X → Y) (g : Y → Option Z) (xs : List X) → filter_map g (map f xs) ≡ filter_map (λ (x : X). g (f x)) xs
filter_map-map f g [] = refl
filter_map-map {Z = Z} f g (x ∷ xs) = go (g (f x)) refl (filter_map-map f g xs)
  where
    go : (o : Option Z) → g (f x) ≡ o → filter_map g (map f xs) ≡ filter_map (λ x. g (f x)) xs → filter_map g (map f (x ∷ xs)) ≡ filter_map (λ x. g (f x)) (x ∷ xs)
    go None q rest = rw q rest
    go (Some z) q rest = rw q (ap (λ zs. z ∷ zs) rest)

pub filter_map-same : {X Y : Type 0} (f g : X → Option Y) (xs : List X) → AllByRecursion (λ (x : X). f x ≡ g x) xs → filter_map f xs ≡ filter_map g xs
filter_map-same f g [] h = refl
filter_map-same {Y = Y} f g (x ∷ xs) h = go (g x) refl (filter_map-same f g xs h.1)
  where
    go : (o : Option Y) → g x ≡ o → filter_map f xs ≡ filter_map g xs → filter_map f (x ∷ xs) ≡ filter_map g (x ∷ xs)
    go None q rest = rw (h.0 ∙ q, q) rest
    go (Some y) q rest = rw (h.0 ∙ q, q) (ap (λ ys. y ∷ ys) rest)

-- each of a list after those before it, where it is so of the members that the list is made of
pub each-mapped : {X Y : Type 0} (P : List Y → Y → Type 0) (f : X → Y) (all : List X)
    → ((done : List X) (x : X) (more : List X) → all ≡ done ++ x ∷ more → P (map f done) (f x)) → (done xs : List X) → all ≡ done ++ xs
    → EachAfter P (map f done) (map f xs)
each-mapped P f all from done [] e = tt
each-mapped {X = X} P f all from done (x ∷ xs) e =
    let on : all ≡ (done ++ x ∷ []) ++ xs = e ∙ sym (append_assoc done (x ∷ []) xs) in
    (from done x xs e, subst (λ ys. EachAfter P ys (map f xs)) (map-end done) (each-mapped P f all from (done ++ x ∷ []) xs on))
  where
    map-end : (ys : List X) → map f (ys ++ x ∷ []) ≡ map f ys ++ f x ∷ []
    map-end [] = refl
    map-end (y ∷ ys) = ap (λ zs. f y ∷ zs) (map-end ys)

-- some give what is made of them
pub give-mapped : {X Y : Type 0} (R : X → Y → Type 0) (f : X → Option Y) → (xs : List X) → AllByRecursion (λ (x : X). (y : Y) → f x ≡ Some y → R x y) xs
    → Give R xs (filter_map f xs)
give-mapped R f [] h = none
give-mapped {Y = Y} R f (x ∷ xs) h = go (f x) refl (give-mapped R f xs h.1)
  where
    go : (o : Option Y) → f x ≡ o → Give R xs (filter_map f xs) → Give R (x ∷ xs) (filter_map f (x ∷ xs))
    go None q rest = rw q (passed rest)
    go (Some y) q rest = rw q (gives (h.0 y q) rest)

pub give-append : {X Y : Type 0} (R : X → Y → Type 0) {xs us : List X} {ys vs : List Y} → Give R xs ys → Give R us vs → Give R (xs ++ us) (ys ++ vs)
give-append R none more = more
give-append R (gives h rest) more = gives h (give-append R rest more)
give-append R (passed rest) more = passed (give-append R rest more)

-- ---- entries

-- each of some entries is there
pub all-here : (es : List (List ℕ × ℕ)) → AllByRecursion (λ e. has_entry e es ≡ true) es
all-here [] = tt
all-here (x ∷ es) =
    let own : (x.1 == x.1) ≡ true = eq-eqb x.1 x.1 refl in
    let same : bytes_eq x.0 x.0 ≡ true = (bytes_eq-Decides x.0 x.0).1 refl in
    (rw (own, same) refl, all-imply (λ e. has_entry e es ≡ true) (λ e. has_entry e (x ∷ es) ≡ true) (λ e h. rw h (or-true (x.1 == e.1 && bytes_eq x.0 e.0))) es (all-here es))

-- births of entries that rise
abbrev pub births_in : List (List ℕ × ℕ) → List ℕ
births_in es = map (λ (e : List ℕ × ℕ). e.1) es

pub rises-before : (done : List (List ℕ × ℕ)) (x : List ℕ × ℕ) (more : List (List ℕ × ℕ)) → Rises (births_in (done ++ x ∷ more))
    → AllByRecursion (λ (e : List ℕ × ℕ). e.1 < x.1) done
rises-before [] x more h = tt
rises-before (e ∷ done) x more h = (last done h.0, rises-before done x more h.1)
  where
    last : (es : List (List ℕ × ℕ)) → AllByRecursion (λ m. e.1 < m) (births_in (es ++ x ∷ more)) → e.1 < x.1
    last [] k = k.0
    last (y ∷ es) k = last es k.1

pub rises-after : (done : List (List ℕ × ℕ)) (x : List ℕ × ℕ) (more : List (List ℕ × ℕ)) → Rises (births_in (done ++ x ∷ more))
    → AllByRecursion (λ (e : List ℕ × ℕ). x.1 < e.1) more
rises-after [] x more h = above more h.0
  where
    above : (es : List (List ℕ × ℕ)) → AllByRecursion (λ m. x.1 < m) (births_in es) → AllByRecursion (λ (e : List ℕ × ℕ). x.1 < e.1) es
    above [] k = tt
    above (y ∷ es) k = (k.0, above es k.1)
rises-after (e ∷ done) x more h = rises-after done x more h.1

-- an entry of a lower birth stands before
pub one-before : (m : ℕ) (done : List (List ℕ × ℕ)) (x : List ℕ × ℕ) (more : List (List ℕ × ℕ)) → Rises (births_in (done ++ x ∷ more)) → m < x.1
    → OneOf (λ (e : List ℕ × ℕ). e.1 ≡ m) (done ++ x ∷ more) → OneOf (λ (e : List ℕ × ℕ). e.1 ≡ m) done
one-before m [] x more h low (inl is) = absurd (let clash : m < m = subst (λ k. m < k) is low in omega arith)
one-before m [] x more h low (inr one) = absurd (not_after more (rises-after [] x more h) one)
  where
    not_after : (es : List (List ℕ × ℕ)) → AllByRecursion (λ (e : List ℕ × ℕ). x.1 < e.1) es → OneOf (λ (e : List ℕ × ℕ). e.1 ≡ m) es → ⊥
    not_after [] k one = one
    not_after (e ∷ es) k (inl is) = let high : x.1 < m = subst (λ j. x.1 < j) is k.0 in omega arith
    not_after (e ∷ es) k (inr one) = not_after es k.1 one
one-before m (e ∷ done) x more h low (inl is) = inl is
one-before m (e ∷ done) x more h low (inr one) = inr (one-before m done x more h.1 low one)

-- ---- what each makes

pub all-map : {X Y : Type 0} (P : X → Type 0) (Q : Y → Type 0) (f : X → Y) → ((x : X) → P x → Q (f x)) → (xs : List X) → AllByRecursion P xs
    → AllByRecursion Q (map f xs)
all-map P Q f from [] h = tt
all-map P Q f from (x ∷ xs) h = (from x h.0, all-map P Q f from xs h.1)

pub all-front : {X : Type 0} (P : X → Type 0) (xs ys : List X) → AllByRecursion P (xs ++ ys) → AllByRecursion P xs
all-front P [] ys h = tt
all-front P (x ∷ xs) ys h = (h.0, all-front P xs ys h.1)

pub one-unmap : {X Y : Type 0} (Q : Y → Type 0) (f : X → Y) (xs : List X) → OneOf Q (map f xs) → OneOf (λ (x : X). Q (f x)) xs
one-unmap Q f [] h = h
one-unmap Q f (x ∷ xs) (inl h) = inl h
one-unmap Q f (x ∷ xs) (inr h) = inr (one-unmap Q f xs h)

-- where none is such, that one is says anything
pub one-none : {X : Type 0} (P Q : X → Type 0) → ((x : X) → P x → Q x → ⊥) → (xs : List X) → AllByRecursion P xs → OneOf Q xs → ⊥
one-none P Q clash [] h one = one
one-none P Q clash (x ∷ xs) h (inl k) = clash x h.0 k
one-none P Q clash (x ∷ xs) h (inr one) = one-none P Q clash xs h.1 one

-- the one of which something is said
pub one-of : {X : Type 0} (P : X → Type 0) (xs : List X) → OneOf P xs → (x : X) × P x
one-of P [] one = absurd one
one-of P (x ∷ xs) (inl h) = (x, h)
one-of P (x ∷ xs) (inr one) = one-of P xs one
