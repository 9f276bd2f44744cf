-- Lists of records whose births rise: what a change of the record of one birth does to facts of each, and to sums over all.
use Rattle.std.proofs.Common.{◌≡◌, refl, ap, sym, ◌∙◌, ℕ, ◌+◌, ◌<◌, Bool, true, false, not, ◌==◌, List, [], ◌∷◌, ◌++◌, map, filter, sum_by, Some, None, arith}
use Rattle.qo_model.proofs.Common.{AllByRecursion, Record, edited, Rises}
use Rattle.std.proofs.lemmas.Bool.{eqb-true}
use Rattle.std.proofs.lemmas.List.Sums.{sum_by-cons}
use Rattle.std.proofs.lemmas.Option.{same_Some}
use Rattle.qo_model.proofs.GraphLemmas.{births_at}
use Rattle.qo_model.proofs.StepLemmas.{found_at}

pub all-map : {A B : Type 0} (P : A → Type 0) (Q : B → Type 0) (f : A → B) → ((x : A) → P x → Q (f x)) → (xs : List A) → AllByRecursion P xs
    → AllByRecursion Q (map f xs)
all-map P Q f is [] h = tt
all-map P Q f is (x ∷ xs) h = (is x h.0, all-map P Q f is xs h.1)

pub all-unmap : {A B : Type 0} (P : A → Type 0) (Q : B → Type 0) (f : A → B) → ((x : A) → Q (f x) → P x) → (xs : List A) → AllByRecursion Q (map f xs)
    → AllByRecursion P xs
all-unmap P Q f is [] h = tt
all-unmap P Q f is (x ∷ xs) h = (is x h.0, all-unmap P Q f is xs h.1)

pub all-filter : {A : Type 0} (P : A → Type 0) (p : A → Bool) (xs : List A) → AllByRecursion P xs → AllByRecursion P (filter p xs)
all-filter P p [] h = tt
all-filter P p (x ∷ xs) h = go (p x) refl (all-filter P p xs h.1)
  where
    go : (t : Bool) → p x ≡ t → AllByRecursion P (filter p xs) → AllByRecursion P (filter p (x ∷ xs))
    go true q rest = rw q (h.0, rest)
    go false q rest = rw q rest

-- of those that pass, where a fact is wanted of these alone
pub all-passing : {A : Type 0} (P Q : A → Type 0) (p : A → Bool) → ((x : A) → p x ≡ true → P x → Q x) → (xs : List A) → AllByRecursion P xs
    → AllByRecursion Q (filter p xs)
all-passing P Q p is [] h = tt
all-passing P Q p is (x ∷ xs) h = go (p x) refl (all-passing P Q p is xs h.1)
  where
    go : (t : Bool) → p x ≡ t → AllByRecursion Q (filter p xs) → AllByRecursion Q (filter p (x ∷ xs))
    go true q rest = rw q (is x q h.0, rest)
    go false q rest = rw q rest

-- two facts of each are one
pub all-both : {A : Type 0} (P Q : A → Type 0) (xs : List A) → AllByRecursion P xs → AllByRecursion Q xs → AllByRecursion (λ (x : A). P x × Q x) xs
all-both P Q [] h k = tt
all-both P Q (x ∷ xs) h k = ((h.0, k.0), all-both P Q xs h.1 k.1)

pub all-append : {A : Type 0} (P : A → Type 0) (xs ys : List A) → AllByRecursion P xs → AllByRecursion P ys → AllByRecursion P (xs ++ ys)
all-append P [] ys h k = k
all-append P (x ∷ xs) ys h k = (h.0, all-append P xs ys h.1 k)

-- among births above n there is none that is n
pub above-none : (n : ℕ) (rs : List Record) → AllByRecursion (λ m. n < m) (births_at rs) → found_at n rs ≡ None
above-none n [] h = refl
above-none n (r ∷ rs) h =
    let above : n < r.birth = h.0 in
    let differs : (r.birth == n) ≡ false = grind arith in
    rw differs (above-none n rs h.1)

-- a fact of each, where it is kept by the change at the record that is found, and by each other
pub all-edited : (P Q : Record → Type 0) (n : ℕ) (change : Record → Record) (rs : List Record) → Rises (births_at rs)
    → ((r : Record) → (r.birth == n) ≡ false → P r → Q r) → ((r : Record) → found_at n rs ≡ Some r → P r → Q (change r)) → AllByRecursion P rs
    → AllByRecursion Q (map (edited n change) rs)
all-edited P Q n change [] up others here h = tt
all-edited P Q n change (r ∷ rs) up others here h = go (r.birth == n) refl (all-edited P Q n change rs up.1 others)
  where
    go : (t : Bool) → (r.birth == n) ≡ t
        → (((x : Record) → found_at n rs ≡ Some x → P x → Q (change x)) → AllByRecursion P rs → AllByRecursion Q (map (edited n change) rs))
        → AllByRecursion Q (map (edited n change) (r ∷ rs))
    go true p rest =
        let none : found_at n rs ≡ None = rw (eqb-true r.birth n p) at (above-none r.birth rs up.0) in
        (rw (edited, p) (here r (rw p refl) h.0), rest (λ x e k. absurd (let clash : None ≡ Some x = sym none ∙ e in cc)) h.1)
    go false p rest = (rw (edited, p) (others r p h.0), rest (λ x e k. here x (rw p e) k) h.1)

-- where no record is found, an edit changes nothing
pub edited-none : (n : ℕ) (change : Record → Record) (rs : List Record) → found_at n rs ≡ None → map (edited n change) rs ≡ rs
edited-none n change [] e = refl
edited-none n change (r ∷ rs) e = go (r.birth == n) refl (edited-none n change rs)
  where
    go : (t : Bool) → (r.birth == n) ≡ t → (found_at n rs ≡ None → map (edited n change) rs ≡ rs) → map (edited n change) (r ∷ rs) ≡ r ∷ rs
    go true p rest = absurd (let clash : Some r ≡ None = rw p at e in cc)
    go false p rest = rw (edited, p) (ap (λ (ys : List Record). r ∷ ys) (rest (rw p at e)))

-- an edit changes a sum by the record that is found alone
pub sum-edited : (f : Record → ℕ) (n : ℕ) (change : Record → Record) (rs : List Record) → Rises (births_at rs) → (x : Record) → found_at n rs ≡ Some x
    → sum_by f (map (edited n change) rs) + f x ≡ sum_by f rs + f (change x)
sum-edited f n change [] up x e = cc
sum-edited f n change (r ∷ rs) up x e = go (r.birth == n) refl (sum-edited f n change rs up.1 x)
  where
    go : (t : Bool) → (r.birth == n) ≡ t → (found_at n rs ≡ Some x → sum_by f (map (edited n change) rs) + f x ≡ sum_by f rs + f (change x))
        → sum_by f (map (edited n change) (r ∷ rs)) + f x ≡ sum_by f (r ∷ rs) + f (change x)
    go true p rest =
        let none : found_at n rs ≡ None = rw (eqb-true r.birth n p) at (above-none r.birth rs up.0) in
        let is : r ≡ x = same_Some r x (rw p at e) in
        rw (p, edited-none n change rs none, is) (omega (arith, sum_by-cons f (change x) rs, sum_by-cons f x rs))
    go false p rest = rw (edited, p) (omega (arith, rest (rw p at e), sum_by-cons f r (map (edited n change) rs), sum_by-cons f r rs))

-- without the record of a birth that has no number, a sum stays
pub sum-filtered : (f : Record → ℕ) (n : ℕ) (rs : List Record) → Rises (births_at rs) → ((x : Record) → found_at n rs ≡ Some x → f x ≡ 0)
    → sum_by f (filter (λ (r : Record). not (r.birth == n)) rs) ≡ sum_by f rs
sum-filtered f n [] up none = refl
sum-filtered f n (r ∷ rs) up none = go (r.birth == n) refl (sum-filtered f n rs up.1)
  where
    go : (t : Bool) → (r.birth == n) ≡ t
        → (((x : Record) → found_at n rs ≡ Some x → f x ≡ 0) → sum_by f (filter (λ (y : Record). not (y.birth == n)) rs) ≡ sum_by f rs)
        → sum_by f (filter (λ (y : Record). not (y.birth == n)) (r ∷ rs)) ≡ sum_by f (r ∷ rs)
    go true p rest =
        let gone : found_at n rs ≡ None = rw (eqb-true r.birth n p) at (above-none r.birth rs up.0) in
        rw p (omega (arith, rest (λ x e. absurd (let clash : None ≡ Some x = sym gone ∙ e in cc)), none r (rw p refl), sum_by-cons f r rs))
    go false p rest =
        rw p (omega (arith, rest (λ x e. none x (rw p e)), sum_by-cons f r (filter (λ (y : Record). not (y.birth == n)) rs), sum_by-cons f r rs))
