-- Calls of the board, one after another.
use Rattle.std.proofs.Common.{◌≡◌, refl, sym, ap, ◌∙◌, subst, ℕ, ◌+◌, List, [], ◌∷◌, ◌++◌, ◌<◌, ◌≤◌, length, get_or, map, take, drop, append-nil, Result, Ok, Err}
use Rattle.std.specs.Prelude.{flat_map}
use Rattle.std.proofs.lemmas.List.{map-append, take-append-drop, take_all, take_more}
use Rattle.std.proofs.lemmas.List.Concat.{flat_map-append}
use Rattle.qo_values.specs.declared.codes.Code.{Code}
use Rattle.qo_model.specs.Board.{Board}
use Rattle.qo_properties.specs.declared.refusals.Refusal.{Refusal}
use Rattle.qo_properties.specs.declared.refusals.Refusal.TheVariants.{Memory, Refused}
use Rattle.qo_realize.specs.Answers.{Writes}
use Rattle.qo_realize.specs.Parts.{Parts}
use Rattle.qo_realize.specs.Representation.{Stands}
use Rattle.qo_save.specs.Rebuilding.{Step, all_done}

abbrev Answer : Type 0
Answer = Result (Unit {0}) Refusal

-- one more of a list
taken-more : {A : Type 0} (xs : List A) (i : ℕ) (x : A) → i < length xs → x ≡ get_or xs i x → take (i + 1) xs ≡ take i xs ++ x ∷ []
taken-more xs i x low is = take_more xs i x low ∙ ap (λ y. take i xs ++ y ∷ []) (sym is)

ok-is : (b c : Board) → all_done [] b ≡ Ok c → b ≡ c
ok-is b c is = let same : Ok b ≡ Ok c = is in cc

ok-err : (b : Board) (code : Code) → all_done [] b ≡ Err code → ⊥
ok-err b code is = let clash : Ok b ≡ Err code = is in cc

-- further steps on what the first ones made
pub done-on : (xs ys : List Step) (b c : Board) → all_done xs b ≡ Ok c → all_done (xs ++ ys) b ≡ all_done ys c
done-on [] ys b c is = ap (all_done ys) (ok-is b c is)
done-on (x ∷ xs) ys b c is = go (x b) (λ d so. done-on xs ys d c so) is
  where
    go : (r : Result Board Code) → ((d : Board) → all_done xs d ≡ Ok c → all_done (xs ++ ys) d ≡ all_done ys c)
        → elim r as (λ _. Result Board Code) [ Ok d ↦ all_done xs d | Err code ↦ Err code ] ≡ Ok c
        → elim r as (λ _. Result Board Code) [ Ok d ↦ all_done (xs ++ ys) d | Err code ↦ Err code ] ≡ all_done ys c
    go (Ok d) rest so = rest d so
    go (Err code) rest clash = absurd (let no : Err code ≡ Ok c = clash in cc)

-- and none where one of the first ones is refused
pub done-stops : (xs ys : List Step) (b : Board) (code : Code) → all_done xs b ≡ Err code → all_done (xs ++ ys) b ≡ Err code
done-stops [] ys b code is = absurd (ok-err b code is)
done-stops (x ∷ xs) ys b code is = go (x b) (λ d so. done-stops xs ys d code so) is
  where
    go : (r : Result Board Code) → ((d : Board) → all_done xs d ≡ Err code → all_done (xs ++ ys) d ≡ Err code)
        → elim r as (λ _. Result Board Code) [ Ok d ↦ all_done xs d | Err why ↦ Err why ] ≡ Err code
        → elim r as (λ _. Result Board Code) [ Ok d ↦ all_done (xs ++ ys) d | Err why ↦ Err why ] ≡ Err code
    go (Ok d) rest so = rest d so
    go (Err why) rest so = so

-- a step alone
pub one-done : (x : Step) (b : Board) → all_done (x ∷ []) b ≡ x b
one-done x b = go (x b)
  where
    go : (r : Result Board Code) → elim r as (λ _. Result Board Code) [ Ok d ↦ Ok d | Err code ↦ Err code ] ≡ r
    go (Ok d) = refl
    go (Err code) = refl

-- what was refused stays refused
pub refused-stays : (p q : Parts) (e : Refusal) (given more : Result Board Code) → Writes p (Err e) given → ((code : Code) → given ≡ Err code → more ≡ Err code)
    → Writes q (Err e) more
refused-stays p q (Refused code) given more was stays = stays code was
refused-stays p q Memory given more was stays = tt

pub refused-by : (p q : Parts) (r : Answer) (e : Refusal) (given more : Result Board Code) → r ≡ Err e → Writes p (Err e) given
    → ((code : Code) → given ≡ Err code → more ≡ Err code) → Writes q r more
refused-by p q r e given more is was stays = subst (λ (x : Answer). Writes q x more) (sym is) (refused-stays p q e given more was stays)

-- a step, and further ones on what it made
pub step-goes : (x : Step) (xs : List Step) (b c : Board) → x b ≡ Ok c → all_done (x ∷ xs) b ≡ all_done xs c
step-goes x xs b c is = ap (λ (r : Result Board Code). elim r as (λ _. Result Board Code) [ Ok d ↦ all_done xs d | Err code ↦ Err code ]) is

pub step-stops : (x : Step) (xs : List Step) (b : Board) (p q : Parts) (r : Answer) (e : Refusal) → r ≡ Err e → Writes p (Err e) (x b)
    → Writes q r (all_done (x ∷ xs) b)
step-stops x xs b p q r e is was =
    refused-by p q r e (x b) (all_done (x ∷ xs) b) is was
    (λ code so. ap (λ (s : Result Board Code). elim s as (λ _. Result Board Code) [ Ok d ↦ all_done xs d | Err why ↦ Err why ]) so)

-- the same where the steps before went
pub then-writes : (q : Parts) (r : Answer) (given more : Result Board Code) → more ≡ given → Writes q r given → Writes q r more
then-writes q r given more is was = subst (λ (x : Result Board Code). Writes q r x) (sym is) was

-- the board that stands after some steps
pub record Went (xs : List Step) (b : Board) (p : Parts) : Type 0 where
  pub board : Board
  pub done : all_done xs b ≡ Ok board
  pub stands : Stands board p

pub went-none : (b : Board) (p : Parts) → Stands b p → Went [] b p
went-none b p stands = record { board = b; done = refl; stands = stands }

pub went-on : (xs ys : List Step) (b : Board) (p q : Parts) → Went xs b p → ((c : Board) → Stands c p → Writes q (Ok tt) (all_done ys c)) → Went (xs ++ ys) b q
went-on xs ys b p q went more =
    let next = more went.board went.stands in
    record { board = next.0; done = done-on xs ys b went.board went.done ∙ next.1; stands = next.2 }

pub went-first : (xs : List Step) (b : Board) (p : Parts) → Writes p (Ok tt) (all_done xs b) → Went xs b p
went-first xs b p was = record { board = was.0; done = was.1; stands = was.2 }

pub went-refused : (xs ys : List Step) (b : Board) (p q : Parts) (e : Refusal) → Went xs b p → ((c : Board) → Stands c p → Writes q (Err e) (all_done ys c))
    → Writes q (Err e) (all_done (xs ++ ys) b)
went-refused xs ys b p q e went more =
    refused-stays q q e (all_done ys went.board) (all_done (xs ++ ys) b) (more went.board went.stands) (λ code so. done-on xs ys b went.board went.done ∙ so)

pub stays-refused : (xs ys : List Step) (b : Board) (q : Parts) (e : Refusal) → Writes q (Err e) (all_done xs b) → Writes q (Err e) (all_done (xs ++ ys) b)
stays-refused xs ys b q e was = refused-stays q q e (all_done xs b) (all_done (xs ++ ys) b) was (λ code so. done-stops xs ys b code so)

pub by-error : (q : Parts) (r : Answer) (e : Refusal) (given : Result Board Code) → r ≡ Err e → Writes q (Err e) given → Writes q r given
by-error q r e given is was = subst (λ (x : Answer). Writes q x given) (sym is) was

pub went-ends : (xs ys : List Step) (b : Board) (p q : Parts) (r : Answer) → Went xs b p → ((c : Board) → Stands c p → Writes q r (all_done ys c))
    → Writes q r (all_done (xs ++ ys) b)
went-ends xs ys b p q r went more =
    then-writes q r (all_done ys went.board) (all_done (xs ++ ys) b) (done-on xs ys b went.board went.done) (more went.board went.stands)

pub went-stops : (xs ys : List Step) (b : Board) (p q : Parts) (r : Answer) (e : Refusal) → Went xs b p → r ≡ Err e
    → ((c : Board) → Stands c p → Writes q (Err e) (all_done ys c)) → (zs : List Step) → Writes q r (all_done ((xs ++ ys) ++ zs) b)
went-stops xs ys b p q r e went is more zs =
    refused-by q q r e (all_done ys went.board) (all_done ((xs ++ ys) ++ zs) b) is (more went.board went.stands)
    (λ code so. done-stops (xs ++ ys) zs b code (done-on xs ys b went.board went.done ∙ so))

pub went-writes : (xs : List Step) (b : Board) (p : Parts) → Went xs b p → Writes p (Ok tt) (all_done xs b)
went-writes xs b p went = (went.board, went.done, went.stands)

-- over a list, a step for each, or steps
module _ {A B : Type 0} (step : B → Step) (said : A → B) where
  each-next : (xs : List A) (i : ℕ) (x : A) → i < length xs → x ≡ get_or xs i x
      → map step (map said (take (i + 1) xs)) ≡ map step (map said (take i xs)) ++ step (said x) ∷ []
  each-next xs i x low is =
      ap (λ (l : List A). map step (map said l)) (taken-more xs i x low is)
      ∙ ap (map step) (map-append said (take i xs) (x ∷ [])) ∙ map-append step (map said (take i xs)) (said x ∷ [])

  pub list-next : (xs : List A) (i : ℕ) (x : A) → i < length xs → x ≡ get_or xs i x → (b : Board) (p q : Parts)
      → Went (map step (map said (take i xs))) b p → ((c : Board) → Stands c p → Writes q (Ok tt) (step (said x) c))
      → Went (map step (map said (take (i + 1) xs))) b q
  list-next xs i x low is b p q went more =
      subst (λ (l : List Step). Went l b q) (sym (each-next xs i x low is))
      (went-on (map step (map said (take i xs))) (step (said x) ∷ []) b p q went
      (λ c stands. subst (λ (r : Result Board Code). Writes q (Ok tt) r) (sym (one-done (step (said x)) c)) (more c stands)))

  pub list-stops : (xs : List A) (i : ℕ) (x : A) → i < length xs → x ≡ get_or xs i x → (b : Board) (p q : Parts) (r : Answer) (e : Refusal)
      → Went (map step (map said (take i xs))) b p → r ≡ Err e → ((c : Board) → Stands c p → Writes q (Err e) (step (said x) c))
      → Writes q r (all_done (map step (map said xs)) b)
  list-stops xs i x low is b p q r e went err more =
      subst (λ (l : List Step). Writes q r (all_done l b)) (sym (whole i low is))
      (went-stops (map step (map said (take i xs))) (step (said x) ∷ []) b p q r e went err
      (λ c stands. subst (λ (s : Result Board Code). Writes q (Err e) s) (sym (one-done (step (said x)) c)) (more c stands))
      (map step (map said (drop (i + 1) xs))))
    where
      whole : (k : ℕ) → k < length xs → x ≡ get_or xs k x
          → map step (map said xs) ≡ (map step (map said (take k xs)) ++ step (said x) ∷ []) ++ map step (map said (drop (k + 1) xs))
      whole k less same =
          ap (λ (l : List A). map step (map said l)) (sym (take-append-drop (k + 1) xs))
          ∙ ap (map step) (map-append said (take (k + 1) xs) (drop (k + 1) xs))
          ∙ map-append step (map said (take (k + 1) xs)) (map said (drop (k + 1) xs))
          ∙ ap (λ (l : List Step). l ++ map step (map said (drop (k + 1) xs))) (each-next xs k x less same)

  pub list-all : (xs : List A) (i : ℕ) → length xs ≤ i → (b : Board) (p : Parts) → Went (map step (map said (take i xs))) b p
      → Writes p (Ok tt) (all_done (map step (map said xs)) b)
  list-all xs i high b p went =
      went-writes (map step (map said xs)) b p (subst (λ (l : List A). Went (map step (map said l)) b p) (take_all i xs high) went)

module _ {A B : Type 0} (steps : B → List Step) (said : A → B) where
  many-next : (xs : List A) (i : ℕ) (x : A) → i < length xs → x ≡ get_or xs i x
      → flat_map steps (map said (take (i + 1) xs)) ≡ flat_map steps (map said (take i xs)) ++ steps (said x)
  many-next xs i x low is =
      ap (λ (l : List A). flat_map steps (map said l)) (taken-more xs i x low is)
      ∙ ap (flat_map steps) (map-append said (take i xs) (x ∷ [])) ∙ flat_map-append steps (map said (take i xs)) (said x ∷ [])
      ∙ ap (λ (l : List Step). flat_map steps (map said (take i xs)) ++ l) (append-nil (steps (said x)))

  pub flat-next : (xs : List A) (i : ℕ) (x : A) → i < length xs → x ≡ get_or xs i x → (b : Board) (p q : Parts)
      → Went (flat_map steps (map said (take i xs))) b p → ((c : Board) → Stands c p → Writes q (Ok tt) (all_done (steps (said x)) c))
      → Went (flat_map steps (map said (take (i + 1) xs))) b q
  flat-next xs i x low is b p q went more =
      subst (λ (l : List Step). Went l b q) (sym (many-next xs i x low is)) (went-on (flat_map steps (map said (take i xs))) (steps (said x)) b p q went more)

  pub flat-stops : (xs : List A) (i : ℕ) (x : A) → i < length xs → x ≡ get_or xs i x → (b : Board) (p q : Parts) (r : Answer) (e : Refusal)
      → Went (flat_map steps (map said (take i xs))) b p → r ≡ Err e → ((c : Board) → Stands c p → Writes q (Err e) (all_done (steps (said x)) c))
      → Writes q r (all_done (flat_map steps (map said xs)) b)
  flat-stops xs i x low is b p q r e went err more =
      subst (λ (l : List Step). Writes q r (all_done l b)) (sym (whole i low is))
      (went-stops (flat_map steps (map said (take i xs))) (steps (said x)) b p q r e went err more (flat_map steps (map said (drop (i + 1) xs))))
    where
      whole : (k : ℕ) → k < length xs → x ≡ get_or xs k x
          → flat_map steps (map said xs) ≡ (flat_map steps (map said (take k xs)) ++ steps (said x)) ++ flat_map steps (map said (drop (k + 1) xs))
      whole k less same =
          ap (λ (l : List A). flat_map steps (map said l)) (sym (take-append-drop (k + 1) xs))
          ∙ ap (flat_map steps) (map-append said (take (k + 1) xs) (drop (k + 1) xs))
          ∙ flat_map-append steps (map said (take (k + 1) xs)) (map said (drop (k + 1) xs))
          ∙ ap (λ (l : List Step). l ++ flat_map steps (map said (drop (k + 1) xs))) (many-next xs k x less same)

  pub flat-all : (xs : List A) (i : ℕ) → length xs ≤ i → (b : Board) (p : Parts) → Went (flat_map steps (map said (take i xs))) b p
      → Writes p (Ok tt) (all_done (flat_map steps (map said xs)) b)
  flat-all xs i high b p went =
      went-writes (flat_map steps (map said xs)) b p (subst (λ (l : List A). Went (flat_map steps (map said l)) b p) (take_all i xs high) went)
