-- What clocks read of the slots of an object, whatever stands between: values of plain slots and targets of weak links. Slots that read no more than others do.
use Rattle.std.proofs.Common.{◌≡◌, ◌⊎◌, inl, inr, refl, ap, sym, subst, ◌∙◌, ℕ, zero, suc, ◌≤◌, Bool, true, false, cond, ◌&&◌, ◌||◌, ◌==◌, List, [], ◌∷◌, ◌++◌, remove, slice_get, Option, Some, None, option_and_then, unwrap_or, codes, arith}
use Rattle.qo_model.proofs.Common.{list_any, option_or, bytes_eq, Val, Slot, plain, child, strong, weak, alias, changed_at, pointed, with_val, number_in, plain_in, forgotten_in, without_hold, unseen}
use Rattle.std.proofs.lemmas.Bool.{and_parts, or_right}
use Rattle.std.proofs.lemmas.Option.{same_Some}
use Rattle.std.proofs.lemmas.Slice.Eq.{bytes_eq-Decides}
use Rattle.qo_values.specs.declared.properties.Val.TheVariants as val
use Rattle.qo_model.specs.Clocks.{weak_in}
use Rattle.qo_sound.proofs.ReadLemmas.{plain-forgotten, plain-unseen, plain-pointed}
use Rattle.qo_sound.proofs.SlotLemmas.{each_slot}

abbrev pub Slots : Type 0
Slots = List (List ℕ × Slot)

-- the value of the first plain slot of a name
abbrev pub plain_named : List ℕ → List ℕ × Slot → Option Val
plain_named name s = cond (bytes_eq s.0 name) (plain_in s.1) None

abbrev pub plain_of : List ℕ → Slots → Option Val
plain_of name [] = None
plain_of name (s ∷ slots) = option_or (plain_named name s) (plain_of name slots)

abbrev pub number_of : List ℕ → ℕ → Slots → ℕ
number_of name none slots = unwrap_or (option_and_then number_in (plain_of name slots)) none

abbrev pub own_in : Slots → ℕ
own_in slots = number_of (codes "period") 0 slots

abbrev pub mul_in : Slots → ℕ
mul_in slots = number_of (codes "mul") 1 slots

abbrev pub div_in : Slots → ℕ
div_in slots = number_of (codes "div") 1 slots

-- whether a weak link that is a source points at s
abbrev pub is_target : ℕ → Option ℕ → Bool
is_target s None = false
is_target s (Some m) = m == s

abbrev pub sees_it : ℕ → List ℕ × Slot → Bool
sees_it s x = bytes_eq x.0 (codes "source") && is_target s (weak_in x.1)

abbrev pub sees : ℕ → Slots → Bool
sees s slots = list_any (sees_it s) slots

-- no clock, or one as new
pub record Blank (xs : Slots) : Type 0 where
  pub own : own_in xs ≡ 0
  pub mul : mul_in xs ≡ 1
  pub div : div_in xs ≡ 1
  pub source : (s : ℕ) → sees s xs ≡ false

-- the second go by nothing that the first do not go by, have no longer a period, and the same scale or none
pub record Less (xs ys : Slots) : Type 0 where
  pub source : (s : ℕ) → sees s ys ≡ true → sees s xs ≡ true
  pub own : own_in ys ≤ own_in xs
  pub scale : ((mul_in ys ≡ mul_in xs) × (div_in ys ≡ div_in xs)) ⊎ Blank ys

pub less-none : (xs : Slots) → Less xs xs
less-none xs = record { source = λ s e. e; own = omega arith; scale = inl (refl, refl) }

pub less-then : (xs ys zs : Slots) → Less xs ys → Less ys zs → Less xs zs
less-then xs ys zs h k =
    record {
      source = λ s e. h.source s (k.source s e);
      own = omega (arith, h.own, k.own);
      scale = go h.scale k.scale;
    }
  where
    go : ((mul_in ys ≡ mul_in xs) × (div_in ys ≡ div_in xs)) ⊎ Blank ys → ((mul_in zs ≡ mul_in ys) × (div_in zs ≡ div_in ys)) ⊎ Blank zs
        → ((mul_in zs ≡ mul_in xs) × (div_in zs ≡ div_in xs)) ⊎ Blank zs
    go first (inr blank) = inr blank
    go (inl same) (inl also) = inl (also.0 ∙ same.0, also.1 ∙ same.1)
    go (inr blank) (inl also) =
        inr
        (record {
          own = let none : own_in ys ≡ 0 = blank.own in omega (arith, none, k.own);
          mul = also.0 ∙ blank.mul;
          div = also.1 ∙ blank.div;
          source = λ s. none s (sees s zs) refl;
        })
      where
        none : (s : ℕ) (t : Bool) → sees s zs ≡ t → sees s zs ≡ false
        none s false e = e
        none s true e = absurd (let clash : true ≡ false = sym (k.source s e) ∙ blank.source s in cc)

pub less-blank : (xs ys : Slots) → Blank ys → Less xs ys
less-blank xs ys blank =
    record {
      source = λ s e. absurd (let clash : true ≡ false = sym e ∙ blank.source s in cc);
      own = let none : own_in ys ≡ 0 = blank.own in omega (arith, none);
      scale = inr blank;
    }

pub blank-none : Blank []
blank-none = record { own = refl; mul = refl; div = refl; source = λ s. refl }

-- the same values, and no more sources
pub record SameValues (xs ys : Slots) : Type 0 where
  pub period : plain_of (codes "period") ys ≡ plain_of (codes "period") xs
  pub mul : plain_of (codes "mul") ys ≡ plain_of (codes "mul") xs
  pub div : plain_of (codes "div") ys ≡ plain_of (codes "div") xs

pub number-same : (name : List ℕ) (none : ℕ) (xs ys : Slots) → plain_of name ys ≡ plain_of name xs → number_of name none ys ≡ number_of name none xs
number-same name none xs ys e = ap (λ (o : Option Val). unwrap_or (option_and_then number_in o) none) e

pub less-same : (xs ys : Slots) → SameValues xs ys → ((s : ℕ) → sees s ys ≡ true → sees s xs ≡ true) → Less xs ys
less-same xs ys same fewer =
    record {
      source = fewer;
      own = let is : own_in ys ≡ own_in xs = number-same (codes "period") 0 xs ys same.period in omega (arith, is);
      scale = inl (number-same (codes "mul") 1 xs ys same.mul, number-same (codes "div") 1 xs ys same.div);
    }

-- a change of each slot

any-each : (p : List ℕ × Slot → Bool) (g : Slot → Slot) → ((s : List ℕ × Slot) → p (s.0, g s.1) ≡ true → p s ≡ true) → (xs : Slots)
    → list_any p (each_slot g xs) ≡ true → list_any p xs ≡ true
any-each p g less [] e = e
any-each p g less (x ∷ xs) e = go (p (x.0, g x.1)) refl (any-each p g less xs)
  where
    right : (t : Bool) → list_any p xs ≡ true → (t || list_any p xs) ≡ true
    right true k = refl
    right false k = k

    go : (t : Bool) → p (x.0, g x.1) ≡ t → (list_any p (each_slot g xs) ≡ true → list_any p xs ≡ true) → list_any p (x ∷ xs) ≡ true
    go true q rest = rw (less x q) refl
    go false q rest = right (p x) (rest (rw q at e))

pub plain-each : (g : Slot → Slot) → ((s : Slot) → plain_in (g s) ≡ plain_in s) → (name : List ℕ) (xs : Slots)
    → plain_of name (each_slot g xs) ≡ plain_of name xs
plain-each g same name [] = refl
plain-each g same name (x ∷ xs) = rw (same x.1, plain-each g same name xs) refl

sees-forgotten : (n s : ℕ) (x : List ℕ × Slot) → sees_it s (x.0, forgotten_in n x.1) ≡ true → sees_it s x ≡ true
sees-forgotten n s (name, plain v) e = e
sees-forgotten n s (name, child m) e = e
sees-forgotten n s (name, strong t target) e = e
sees-forgotten n s (name, weak t None) e = e
sees-forgotten n s (name, weak t (Some m)) e = go (m == n) refl
  where
    go : (u : Bool) → (m == n) ≡ u → sees_it s (name, weak t (Some m)) ≡ true
    go true p = absurd (let clash : false ≡ true = (and_parts (bytes_eq name (codes "source")) false (rw p at e)).1 in cc)
    go false p = rw p at e
sees-forgotten n s (name, alias m property) e = e

pub less-forgotten : (n : ℕ) (xs : Slots) → Less xs (each_slot (forgotten_in n) xs)
less-forgotten n xs =
    less-same xs (each_slot (forgotten_in n) xs)
    (record { period = same (codes "period"); mul = same (codes "mul"); div = same (codes "div") })
    (λ s e. any-each (sees_it s) (forgotten_in n) (sees-forgotten n s) xs e)
  where
    same : (name : List ℕ) → plain_of name (each_slot (forgotten_in n) xs) ≡ plain_of name xs
    same name = plain-each (forgotten_in n) (plain-forgotten n) name xs

-- one slot is let go

pub absent : {A : Type 0} (t : Bool) (o : Option A) → option_or (cond t None None) o ≡ o
absent true o = refl
absent false o = refl

pub plain-dropped : (name : List ℕ) (i : ℕ) (xs : Slots) → plain_of name (without_hold i xs) ≡ plain_of name xs
plain-dropped name i [] = refl
plain-dropped name (suc i) (x ∷ xs) = ap (option_or (plain_named name x)) (plain-dropped name i xs)
plain-dropped name zero ((own, plain v) ∷ xs) = refl
plain-dropped name zero ((own, child m) ∷ xs) = sym (absent (bytes_eq own name) (plain_of name xs))
plain-dropped name zero ((own, strong t target) ∷ xs) = refl
plain-dropped name zero ((own, weak t target) ∷ xs) = refl
plain-dropped name zero ((own, alias m property) ∷ xs) = refl

pub or-less : (t u v w : Bool) → (t ≡ true → v ≡ true) → (u ≡ true → w ≡ true) → (t || u) ≡ true → (v || w) ≡ true
or-less true u v w first rest e = rw (first refl) refl
or-less false u v w first rest e = or_right v w (rest e)

sees-dropped : (s i : ℕ) (xs : Slots) → sees s (without_hold i xs) ≡ true → sees s xs ≡ true
sees-dropped s i [] e = e
sees-dropped s (suc i) (x ∷ xs) e = or-less (sees_it s x) (sees s (without_hold i xs)) (sees_it s x) (sees s xs) (λ k. k) (sees-dropped s i xs) e
sees-dropped s zero ((own, plain v) ∷ xs) e = e
sees-dropped s zero ((own, child m) ∷ xs) e = or_right (sees_it s (own, child m)) (sees s xs) e
sees-dropped s zero ((own, strong t target) ∷ xs) e = e
sees-dropped s zero ((own, weak t target) ∷ xs) e =
    or-less (sees_it s (own, weak t None)) (sees s xs) (sees_it s (own, weak t target)) (sees s xs)
    (λ k. absurd (let clash : false ≡ true = (and_parts (bytes_eq own (codes "source")) false k).1 in cc)) (λ k. k) e
sees-dropped s zero ((own, alias m property) ∷ xs) e = e

pub less-dropped : (i : ℕ) (xs : Slots) → Less xs (without_hold i xs)
less-dropped i xs =
    less-same xs (without_hold i xs)
    (record { period = plain-dropped (codes "period") i xs; mul = plain-dropped (codes "mul") i xs; div = plain-dropped (codes "div") i xs })
    (λ s e. sees-dropped s i xs e)

-- a strong link is let go and removed

pub plain-taken : (name : List ℕ) (i : ℕ) (xs : Slots) (x : List ℕ × Slot) → slice_get xs i ≡ Some x → plain_in x.1 ≡ None
    → plain_of name (remove xs i) ≡ plain_of name xs
plain-taken name zero [] x e none = refl
plain-taken name (suc i) [] x e none = refl
plain-taken name zero (y ∷ xs) x e none =
    let gone : plain_in y.1 ≡ None = ap (λ (z : List ℕ × Slot). plain_in z.1) (same_Some y x e) ∙ none in
    sym (rw gone (absent (bytes_eq y.0 name) (plain_of name xs)))
plain-taken name (suc i) (y ∷ xs) x e none = ap (option_or (plain_named name y)) (plain-taken name i xs x e none)

sees-taken : (s i : ℕ) (xs : Slots) → sees s (remove xs i) ≡ true → sees s xs ≡ true
sees-taken s zero [] e = e
sees-taken s (suc i) [] e = e
sees-taken s zero (x ∷ xs) e = or_right (sees_it s x) (sees s xs) e
sees-taken s (suc i) (x ∷ xs) e = or-less (sees_it s x) (sees s (remove xs i)) (sees_it s x) (sees s xs) (λ k. k) (sees-taken s i xs) e

pub less-taken : (i : ℕ) (xs : Slots) (own : List ℕ) (t : Slot) → slice_get xs i ≡ Some (own, t) → plain_in t ≡ None → Less xs (remove xs i)
less-taken i xs own t e none =
    less-same xs (remove xs i)
    (record {
      period = plain-taken (codes "period") i xs (own, t) e none;
      mul = plain-taken (codes "mul") i xs (own, t) e none;
      div = plain-taken (codes "div") i xs (own, t) e none;
    })
    (λ s k. sees-taken s i xs k)

-- one slot is changed

pub plain-changed : (g : Slot → Slot) → ((s : Slot) → plain_in (g s) ≡ plain_in s) → (name : List ℕ) (i : ℕ) (xs : Slots)
    → plain_of name (changed_at g i xs) ≡ plain_of name xs
plain-changed g same name i [] = refl
plain-changed g same name zero (x ∷ xs) = rw (same x.1) refl
plain-changed g same name (suc i) (x ∷ xs) = ap (option_or (plain_named name x)) (plain-changed g same name i xs)

sees-changed : (g : Slot → Slot) (s : ℕ) → ((x : List ℕ × Slot) → sees_it s (x.0, g x.1) ≡ true → sees_it s x ≡ true) → (i : ℕ) (xs : Slots)
    → sees s (changed_at g i xs) ≡ true → sees s xs ≡ true
sees-changed g s less i [] e = e
sees-changed g s less zero (x ∷ xs) e = or-less (sees_it s (x.0, g x.1)) (sees s xs) (sees_it s x) (sees s xs) (less x) (λ k. k) e
sees-changed g s less (suc i) (x ∷ xs) e =
    or-less (sees_it s x) (sees s (changed_at g i xs)) (sees_it s x) (sees s xs) (λ k. k) (sees-changed g s less i xs) e

sees-unseen : (s : ℕ) (x : List ℕ × Slot) → sees_it s (x.0, unseen x.1) ≡ true → sees_it s x ≡ true
sees-unseen s (name, plain v) e = e
sees-unseen s (name, child m) e = e
sees-unseen s (name, strong t target) e = e
sees-unseen s (name, weak t target) e = absurd (let clash : false ≡ true = (and_parts (bytes_eq name (codes "source")) false e).1 in cc)
sees-unseen s (name, alias m property) e = e

pub less-unseen : (i : ℕ) (xs : Slots) → Less xs (changed_at unseen i xs)
less-unseen i xs =
    less-same xs (changed_at unseen i xs)
    (record { period = same (codes "period"); mul = same (codes "mul"); div = same (codes "div") })
    (λ s e. sees-changed unseen s (sees-unseen s) i xs e)
  where
    same : (name : List ℕ) → plain_of name (changed_at unseen i xs) ≡ plain_of name xs
    same name = plain-changed unseen plain-unseen name i xs

-- a value is set

plain-set : (v : Val) (name : List ℕ) (i : ℕ) (xs : Slots)
    → (plain_of name (changed_at (with_val v) i xs) ≡ Some v) ⊎ (plain_of name (changed_at (with_val v) i xs) ≡ plain_of name xs)
plain-set v name i [] = inr refl
plain-set v name (suc i) (x ∷ xs) = go (plain_named name x) refl (plain-set v name i xs)
  where
    go : (o : Option Val) → plain_named name x ≡ o
        → (plain_of name (changed_at (with_val v) i xs) ≡ Some v) ⊎ (plain_of name (changed_at (with_val v) i xs) ≡ plain_of name xs)
        → (plain_of name (x ∷ changed_at (with_val v) i xs) ≡ Some v) ⊎ (plain_of name (x ∷ changed_at (with_val v) i xs) ≡ plain_of name (x ∷ xs))
    go (Some w) e rest = inr (rw e refl)
    go None e (inl is) = inl (rw e is)
    go None e (inr same) = inr (rw e same)
plain-set v name zero ((own, plain w) ∷ xs) = go (bytes_eq own name) refl
  where
    go : (t : Bool) → bytes_eq own name ≡ t
        → (plain_of name ((own, plain v) ∷ xs) ≡ Some v) ⊎ (plain_of name ((own, plain v) ∷ xs) ≡ plain_of name ((own, plain w) ∷ xs))
    go true e = inl (rw e refl)
    go false e = inr (rw e refl)
plain-set v name zero ((own, child m) ∷ xs) = inr refl
plain-set v name zero ((own, strong t target) ∷ xs) = inr refl
plain-set v name zero ((own, weak t target) ∷ xs) = inr refl
plain-set v name zero ((own, alias m property) ∷ xs) = inr refl

pub plain-apart : (g : Slot → Slot) (name : List ℕ) (i : ℕ) (xs : Slots) (x : List ℕ × Slot) → slice_get xs i ≡ Some x → bytes_eq x.0 name ≡ false
    → plain_of name (changed_at g i xs) ≡ plain_of name xs
plain-apart g name i [] x e apart = refl
plain-apart g name zero (y ∷ xs) x e apart =
    let other : bytes_eq y.0 name ≡ false = ap (λ (z : List ℕ × Slot). bytes_eq z.0 name) (same_Some y x e) ∙ apart in
    rw other refl
plain-apart g name (suc i) (y ∷ xs) x e apart = ap (option_or (plain_named name y)) (plain-apart g name i xs x e apart)

sees-val : (v : Val) (s : ℕ) (x : List ℕ × Slot) → sees_it s (x.0, with_val v x.1) ≡ true → sees_it s x ≡ true
sees-val v s (name, plain w) e = e
sees-val v s (name, child m) e = e
sees-val v s (name, strong t target) e = e
sees-val v s (name, weak t target) e = e
sees-val v s (name, alias m property) e = e

-- the names of what is read of clocks
pub record OtherName (name : List ℕ) : Type 0 where
  pub period : bytes_eq name (codes "period") ≡ false
  pub mul : bytes_eq name (codes "mul") ≡ false
  pub div : bytes_eq name (codes "div") ≡ false
  pub source : bytes_eq name (codes "source") ≡ false

pub less-set : (v : Val) (i : ℕ) (xs : Slots) (x : List ℕ × Slot) → slice_get xs i ≡ Some x → OtherName x.0 → Less xs (changed_at (with_val v) i xs)
less-set v i xs x e other =
    less-same xs (changed_at (with_val v) i xs)
    (record {
      period = plain-apart (with_val v) (codes "period") i xs x e other.period;
      mul = plain-apart (with_val v) (codes "mul") i xs x e other.mul;
      div = plain-apart (with_val v) (codes "div") i xs x e other.div;
    })
    (λ s k. sees-changed (with_val v) s (sees-val v s) i xs k)

-- a period is set to 0
pub less-set_period : (i : ℕ) (xs : Slots) (x : List ℕ × Slot) → slice_get xs i ≡ Some x → bytes_eq x.0 (codes "period") ≡ true
    → Less xs (changed_at (with_val (val.Uint 0)) i xs)
less-set_period i xs x e named =
    record {
      source = λ s k. sees-changed (with_val (val.Uint 0)) s (sees-val (val.Uint 0) s) i xs k;
      own = own (plain-set (val.Uint 0) (codes "period") i xs);
      scale = inl (number-same (codes "mul") 1 xs ys (same (codes "mul") refl), number-same (codes "div") 1 xs ys (same (codes "div") refl));
    }
  where
    ys : Slots
    ys = changed_at (with_val (val.Uint 0)) i xs

    is : codes "period" ≡ x.0
    is = sym ((bytes_eq-Decides x.0 (codes "period")).0 named)

    same : (name : List ℕ) → bytes_eq (codes "period") name ≡ false → plain_of name ys ≡ plain_of name xs
    same name apart = plain-apart (with_val (val.Uint 0)) name i xs x e (subst (λ (own : List ℕ). bytes_eq own name ≡ false) is apart)

    own : (plain_of (codes "period") ys ≡ Some (val.Uint 0)) ⊎ (plain_of (codes "period") ys ≡ plain_of (codes "period") xs) → own_in ys ≤ own_in xs
    own (inl k) = rw k (omega arith)
    own (inr k) = let same_own : own_in ys ≡ own_in xs = number-same (codes "period") 0 xs ys k in omega (arith, same_own)

-- a slot more that is neither plain nor a weak link
pub less-added : (name : List ℕ) (t : Slot) → plain_in t ≡ None → weak_in t ≡ None → (xs : Slots) → Less xs (xs ++ (name, t) ∷ [])
less-added name t none blind xs =
    less-same xs (xs ++ (name, t) ∷ [])
    (record { period = same (codes "period") xs; mul = same (codes "mul") xs; div = same (codes "div") xs })
    (λ s e. fewer s xs e)
  where
    last : (other : List ℕ) → plain_of other ((name, t) ∷ []) ≡ None
    last other = rw none (absent (bytes_eq name other) None)

    same : (other : List ℕ) (ys : Slots) → plain_of other (ys ++ (name, t) ∷ []) ≡ plain_of other ys
    same other [] = last other
    same other (y ∷ ys) = ap (option_or (plain_named other y)) (same other ys)

    fewer : (s : ℕ) (ys : Slots) → sees s (ys ++ (name, t) ∷ []) ≡ true → sees s ys ≡ true
    fewer s [] e = go (sees_it s (name, t)) refl
      where
        go : (u : Bool) → sees_it s (name, t) ≡ u → false ≡ true
        go true p =
            (and_parts (bytes_eq name (codes "source")) false (sym (ap (λ (o : Option ℕ). bytes_eq name (codes "source") && is_target s o) blind) ∙ p)).1
        go false p = rw p at e
    fewer s (y ∷ ys) e = or-less (sees_it s y) (sees s (ys ++ (name, t) ∷ [])) (sees_it s y) (sees s ys) (λ k. k) (fewer s ys) e

-- a link of another name is pointed
sees-apart : (g : Slot → Slot) (s i : ℕ) (xs : Slots) (x : List ℕ × Slot) → slice_get xs i ≡ Some x → bytes_eq x.0 (codes "source") ≡ false
    → sees s (changed_at g i xs) ≡ true → sees s xs ≡ true
sees-apart g s i [] x e apart k = k
sees-apart g s zero (y ∷ xs) x e apart k =
    let other : bytes_eq y.0 (codes "source") ≡ false = ap (λ (z : List ℕ × Slot). bytes_eq z.0 (codes "source")) (same_Some y x e) ∙ apart in
    rw other (rw other at k)
sees-apart g s (suc i) (y ∷ xs) x e apart k =
    or-less (sees_it s y) (sees s (changed_at g i xs)) (sees_it s y) (sees s xs) (λ j. j) (sees-apart g s i xs x e apart) k

pub less-pointed : (m i : ℕ) (xs : Slots) (x : List ℕ × Slot) → slice_get xs i ≡ Some x → OtherName x.0 → Less xs (changed_at (pointed m) i xs)
less-pointed m i xs x e other =
    less-same xs (changed_at (pointed m) i xs)
    (record { period = same (codes "period"); mul = same (codes "mul"); div = same (codes "div") })
    (λ s k. sees-apart (pointed m) s i xs x e other.source k)
  where
    same : (name : List ℕ) → plain_of name (changed_at (pointed m) i xs) ≡ plain_of name xs
    same name = plain-changed (pointed m) (plain-pointed m) name i xs
