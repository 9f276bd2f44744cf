-- What claims read of the slots of an object, whatever stands between: values of plain slots, and targets of strong links under names that pass.
-- Slots that claim no more than others do.
use Rattle.std.proofs.Common.{◌≡◌, ◌⊎◌, inl, inr, refl, ap, sym, ◌∙◌, ℕ, zero, suc, Bool, true, false, ◌&&◌, ◌||◌, List, [], ◌∷◌, ◌++◌, remove, slice_get, Option, Some, None, codes}
use Rattle.qo_model.proofs.Common.{list_any, option_map_or, option_or, bytes_eq, Val, Slot, plain, child, strong, weak, alias, changed_at, pointed, with_val, is_true, plain_in, strong_in, forgotten_in, without_hold, unseen}
use Rattle.std.proofs.Math.Bool.{and-false}
use Rattle.std.proofs.lemmas.Bool.{or_right}
use Rattle.std.proofs.lemmas.Option.{same_Some}
use Rattle.qo_sound.proofs.ReadLemmas.{plain-forgotten, strong-forgotten, plain-unseen, strong-unseen, plain-pointed}
use Rattle.qo_sound.proofs.SlotLemmas.{each_slot}
use Rattle.qo_sound_clocks.proofs.SlotLemmas.{is_target, plain_named, plain_of, Slots, or-less, absent, plain-each, plain-dropped, plain-changed, plain-apart, plain-taken}

-- strong links under names that pass, to k
abbrev pub Names : Type 0
Names = List ℕ → Bool

abbrev pub points_it : Names → ℕ → List ℕ × Slot → Bool
points_it p k s = p s.0 && is_target k (strong_in s.1)

abbrev pub points : Names → ℕ → Slots → Bool
points p k slots = list_any (points_it p k) slots

-- under the name of a backend's link
abbrev pub is_memdev : Names
is_memdev name = bytes_eq name (codes "memdev")

-- under the name of a device's link to its bus
abbrev pub is_home : Names
is_home name = bytes_eq name (codes "parent_bus")

-- under any name
abbrev pub is_any : Names
is_any name = true

-- a name that is neither
pub record OtherLink (name : List ℕ) : Type 0 where
  pub memdev : is_memdev name ≡ false
  pub home : is_home name ≡ false

abbrev pub lit_in : Slots → Bool
lit_in slots = option_map_or is_true (plain_of (codes "realized") slots) false

-- the second claim no more: of a DIMM the backend stays while it is realized, of a bus no strong link comes
pub record ClaimsLess (is_dimm is_bus : Bool) (xs ys : Slots) : Type 0 where
  pub chardev : plain_of (codes "chardev") ys ≡ plain_of (codes "chardev") xs
  pub addr : plain_of (codes "addr") ys ≡ plain_of (codes "addr") xs
  pub size : plain_of (codes "size") ys ≡ plain_of (codes "size") xs
  pub place : plain_of (codes "slot") ys ≡ plain_of (codes "slot") xs
  pub lit : lit_in ys ≡ true → lit_in xs ≡ true
  pub back : (k : ℕ) → points is_memdev k ys ≡ true → points is_memdev k xs ≡ true
  pub home : (k : ℕ) → points is_home k ys ≡ true → points is_home k xs ≡ true
  pub on : (k : ℕ) → is_dimm ≡ true → lit_in ys ≡ true → points is_memdev k xs ≡ true → points is_memdev k ys ≡ true
  pub strongs : (k : ℕ) → is_bus ≡ true → points is_any k ys ≡ true → points is_any k xs ≡ true

pub less-none : (is_dimm is_bus : Bool) (xs : Slots) → ClaimsLess is_dimm is_bus xs xs
less-none is_dimm is_bus xs =
    record {
      chardev = refl;
      addr = refl;
      size = refl;
      place = refl;
      lit = λ e. e;
      back = λ k e. e;
      home = λ k e. e;
      on = λ k d l e. e;
      strongs = λ k d e. e;
    }

pub less-then : (is_dimm is_bus : Bool) (xs ys zs : Slots) → ClaimsLess is_dimm is_bus xs ys → ClaimsLess is_dimm is_bus ys zs
    → ClaimsLess is_dimm is_bus xs zs
less-then is_dimm is_bus xs ys zs h k =
    record {
      chardev = k.chardev ∙ h.chardev;
      addr = k.addr ∙ h.addr;
      size = k.size ∙ h.size;
      place = k.place ∙ h.place;
      lit = λ e. h.lit (k.lit e);
      back = λ m e. h.back m (k.back m e);
      home = λ m e. h.home m (k.home m e);
      on = λ m d l e. k.on m d l (h.on m d (k.lit l) e);
      strongs = λ m d e. h.strongs m d (k.strongs m d e);
    }

-- the same values, and some of the strong links
pub record SameValues (xs ys : Slots) : Type 0 where
  pub chardev : plain_of (codes "chardev") ys ≡ plain_of (codes "chardev") xs
  pub addr : plain_of (codes "addr") ys ≡ plain_of (codes "addr") xs
  pub size : plain_of (codes "size") ys ≡ plain_of (codes "size") xs
  pub place : plain_of (codes "slot") ys ≡ plain_of (codes "slot") xs
  pub lit : lit_in ys ≡ true → lit_in xs ≡ true

-- where values stay under every name
pub all-same : (xs ys : Slots) → ((name : List ℕ) → plain_of name ys ≡ plain_of name xs) → SameValues xs ys
all-same xs ys same =
    record {
      chardev = same (codes "chardev");
      addr = same (codes "addr");
      size = same (codes "size");
      place = same (codes "slot");
      lit = λ e. sym (ap (λ (o : Option Val). option_map_or is_true o false) (same (codes "realized"))) ∙ e;
    }

-- where strong links stay too
pub less-same : (is_dimm is_bus : Bool) (xs ys : Slots) → SameValues xs ys → ((p : Names) (k : ℕ) → points p k ys ≡ points p k xs)
    → ClaimsLess is_dimm is_bus xs ys
less-same is_dimm is_bus xs ys h same =
    record {
      chardev = h.chardev;
      addr = h.addr;
      size = h.size;
      place = h.place;
      lit = h.lit;
      back = λ k e. sym (same is_memdev k) ∙ e;
      home = λ k e. sym (same is_home k) ∙ e;
      on = λ k d l e. same is_memdev k ∙ e;
      strongs = λ k d e. sym (same is_any k) ∙ e;
    }

-- where some go, but not the backend's
pub less-fewer : (is_dimm is_bus : Bool) (xs ys : Slots) → SameValues xs ys → ((p : Names) (k : ℕ) → points p k ys ≡ true → points p k xs ≡ true)
    → ((k : ℕ) → is_dimm ≡ true → lit_in ys ≡ true → points is_memdev k xs ≡ true → points is_memdev k ys ≡ true)
    → ClaimsLess is_dimm is_bus xs ys
less-fewer is_dimm is_bus xs ys h fewer stays =
    record {
      chardev = h.chardev;
      addr = h.addr;
      size = h.size;
      place = h.place;
      lit = h.lit;
      back = λ k e. fewer is_memdev k e;
      home = λ k e. fewer is_home k e;
      on = stays;
      strongs = λ k d e. fewer is_any k e;
    }

-- a slot points where a test passes
pub points-none : (p : Names) (k : ℕ) (x : List ℕ × Slot) → (strong_in x.1 ≡ None) ⊎ (p x.0 ≡ false) → points_it p k x ≡ false
points-none p k x (inl e) = rw e (and-false (p x.0))
points-none p k x (inr e) = rw e refl

-- a change of each slot

points-each : (g : Slot → Slot) → ((s : Slot) → strong_in (g s) ≡ strong_in s) → (p : Names) (k : ℕ) (xs : Slots)
    → points p k (each_slot g xs) ≡ points p k xs
points-each g same p k [] = refl
points-each g same p k (x ∷ xs) = rw (same x.1, points-each g same p k xs) refl

pub less-forgotten : (is_dimm is_bus : Bool) (n : ℕ) (xs : Slots) → ClaimsLess is_dimm is_bus xs (each_slot (forgotten_in n) xs)
less-forgotten is_dimm is_bus n xs =
    less-same is_dimm is_bus xs (each_slot (forgotten_in n) xs)
    (all-same xs (each_slot (forgotten_in n) xs) (λ name. plain-each (forgotten_in n) (plain-forgotten n) name xs))
    (λ p k. points-each (forgotten_in n) (strong-forgotten n) p k xs)

-- one slot is let go

points-dropped : (p : Names) (k i : ℕ) (xs : Slots) → points p k (without_hold i xs) ≡ true → points p k xs ≡ true
points-dropped p k i [] e = e
points-dropped p k (suc i) (x ∷ xs) e =
    or-less (points_it p k x) (points p k (without_hold i xs)) (points_it p k x) (points p k xs) (λ q. q) (points-dropped p k i xs) e
points-dropped p k zero ((own, plain v) ∷ xs) e = e
points-dropped p k zero ((own, child m) ∷ xs) e = or_right (points_it p k (own, child m)) (points p k xs) e
points-dropped p k zero ((own, strong t target) ∷ xs) e = or_right (points_it p k (own, strong t target)) (points p k xs) (rw (and-false (p own)) at e)
points-dropped p k zero ((own, weak t target) ∷ xs) e = e
points-dropped p k zero ((own, alias m property) ∷ xs) e = e

-- a slot that names no such target
pub spared-dropped : (p : Names) (k i : ℕ) (xs : Slots) (x : List ℕ × Slot) → slice_get xs i ≡ Some x → points_it p k x ≡ false
    → points p k xs ≡ true → points p k (without_hold i xs) ≡ true
spared-dropped p k i [] x at none e = e
spared-dropped p k (suc i) (y ∷ xs) x at none e =
    or-less (points_it p k y) (points p k xs) (points_it p k y) (points p k (without_hold i xs)) (λ q. q) (spared-dropped p k i xs x at none) e
spared-dropped p k zero (y ∷ xs) x at none e = go y (sym (ap (λ (z : List ℕ × Slot). points_it p k z) (sym (same_Some y x at))) ∙ none) e
  where
    go : (z : List ℕ × Slot) → points_it p k z ≡ false → points p k (z ∷ xs) ≡ true → points p k (without_hold zero (z ∷ xs)) ≡ true
    go (own, plain v) q f = f
    go (own, child m) q f = rw q at f
    go (own, strong t target) q f = or_right (p own && false) (points p k xs) (rw q at f)
    go (own, weak t target) q f = f
    go (own, alias m property) q f = f

pub less-dropped : (is_dimm is_bus : Bool) (i : ℕ) (xs : Slots)
    → ((k : ℕ) → is_dimm ≡ true → lit_in xs ≡ true → points is_memdev k xs ≡ true → points is_memdev k (without_hold i xs) ≡ true)
    → ClaimsLess is_dimm is_bus xs (without_hold i xs)
less-dropped is_dimm is_bus i xs stays =
    less-fewer is_dimm is_bus xs (without_hold i xs) same (λ p k. points-dropped p k i xs) (λ k d l e. stays k d (same.lit l) e)
  where
    same : SameValues xs (without_hold i xs)
    same = all-same xs (without_hold i xs) (λ name. plain-dropped name i xs)

-- a strong link is removed

points-taken : (p : Names) (k i : ℕ) (xs : Slots) → points p k (remove xs i) ≡ true → points p k xs ≡ true
points-taken p k zero [] e = e
points-taken p k (suc i) [] e = e
points-taken p k zero (x ∷ xs) e = or_right (points_it p k x) (points p k xs) e
points-taken p k (suc i) (x ∷ xs) e =
    or-less (points_it p k x) (points p k (remove xs i)) (points_it p k x) (points p k xs) (λ q. q) (points-taken p k i xs) e

spared-taken : (p : Names) (k i : ℕ) (xs : Slots) (x : List ℕ × Slot) → slice_get xs i ≡ Some x → points_it p k x ≡ false
    → points p k xs ≡ true → points p k (remove xs i) ≡ true
spared-taken p k zero [] x at none e = e
spared-taken p k (suc i) [] x at none e = e
spared-taken p k zero (y ∷ xs) x at none e =
    let own : points_it p k y ≡ false = ap (points_it p k) (same_Some y x at) ∙ none in
    rw own at e
spared-taken p k (suc i) (y ∷ xs) x at none e =
    or-less (points_it p k y) (points p k xs) (points_it p k y) (points p k (remove xs i)) (λ q. q) (spared-taken p k i xs x at none) e

-- one that is empty
pub less-taken : (is_dimm is_bus : Bool) (i : ℕ) (xs : Slots) (x : List ℕ × Slot) → slice_get xs i ≡ Some x → plain_in x.1 ≡ None → strong_in x.1 ≡ None
    → ClaimsLess is_dimm is_bus xs (remove xs i)
less-taken is_dimm is_bus i xs x at none blind =
    less-fewer is_dimm is_bus xs (remove xs i) (all-same xs (remove xs i) (λ name. plain-taken name i xs x at none)) (λ p k. points-taken p k i xs)
    (λ k d l e. spared-taken is_memdev k i xs x at (points-none is_memdev k x (inl blind)) e)

-- one slot is changed

pub points-changed : (g : Slot → Slot) → ((s : Slot) → strong_in (g s) ≡ strong_in s) → (p : Names) (k i : ℕ) (xs : Slots)
    → points p k (changed_at g i xs) ≡ points p k xs
points-changed g same p k i [] = refl
points-changed g same p k zero (x ∷ xs) = rw (same x.1) refl
points-changed g same p k (suc i) (x ∷ xs) = ap (λ (t : Bool). points_it p k x || t) (points-changed g same p k i xs)

pub less-changed : (is_dimm is_bus : Bool) (g : Slot → Slot) → ((s : Slot) → plain_in (g s) ≡ plain_in s) → ((s : Slot) → strong_in (g s) ≡ strong_in s)
    → (i : ℕ) (xs : Slots) → ClaimsLess is_dimm is_bus xs (changed_at g i xs)
less-changed is_dimm is_bus g plains strongs i xs =
    less-same is_dimm is_bus xs (changed_at g i xs) (all-same xs (changed_at g i xs) (λ name. plain-changed g plains name i xs))
    (λ p k. points-changed g strongs p k i xs)

pub less-unseen : (is_dimm is_bus : Bool) (i : ℕ) (xs : Slots) → ClaimsLess is_dimm is_bus xs (changed_at unseen i xs)
less-unseen is_dimm is_bus i xs = less-changed is_dimm is_bus unseen plain-unseen strong-unseen i xs

-- a value is set

pub strong-val : (v : Val) (s : Slot) → strong_in (with_val v s) ≡ strong_in s
strong-val v (plain w) = refl
strong-val v (child m) = refl
strong-val v (strong t target) = refl
strong-val v (weak t target) = refl
strong-val v (alias m property) = refl

-- a value that is no truth, or false, lights nothing
unlit-set : (v : Val) → is_true v ≡ false → (i : ℕ) (xs : Slots) → lit_in (changed_at (with_val v) i xs) ≡ true → lit_in xs ≡ true
unlit-set v dark i [] e = e
unlit-set v dark (suc i) (x ∷ xs) e = go (plain_named (codes "realized") x) refl (unlit-set v dark i xs)
  where
    go : (o : Option Val) → plain_named (codes "realized") x ≡ o → (lit_in (changed_at (with_val v) i xs) ≡ true → lit_in xs ≡ true) → lit_in (x ∷ xs) ≡ true
    go None q rest = rw q (rest (rw q at e))
    go (Some w) q rest = rw q (rw q at e)
unlit-set v dark zero ((own, plain w) ∷ xs) e = go (bytes_eq own (codes "realized")) refl
  where
    go : (t : Bool) → bytes_eq own (codes "realized") ≡ t → lit_in ((own, plain w) ∷ xs) ≡ true
    go true q = absurd (let clash : false ≡ true = sym dark ∙ (rw q at e) in cc)
    go false q = rw q (rw q at e)
unlit-set v dark zero ((own, child m) ∷ xs) e = e
unlit-set v dark zero ((own, strong t target) ∷ xs) e = e
unlit-set v dark zero ((own, weak t target) ∷ xs) e = e
unlit-set v dark zero ((own, alias m property) ∷ xs) e = e

-- the names of values that are claimed
pub record OtherName (name : List ℕ) : Type 0 where
  pub chardev : bytes_eq name (codes "chardev") ≡ false
  pub addr : bytes_eq name (codes "addr") ≡ false
  pub size : bytes_eq name (codes "size") ≡ false
  pub slot : bytes_eq name (codes "slot") ≡ false

pub less-set : (is_dimm is_bus : Bool) (v : Val) (i : ℕ) (xs : Slots) (x : List ℕ × Slot) → slice_get xs i ≡ Some x → OtherName x.0
    → (is_true v ≡ false) ⊎ (bytes_eq x.0 (codes "realized") ≡ false) → ClaimsLess is_dimm is_bus xs (changed_at (with_val v) i xs)
less-set is_dimm is_bus v i xs x e other dark =
    less-same is_dimm is_bus xs (changed_at (with_val v) i xs)
    (record {
      chardev = plain-apart (with_val v) (codes "chardev") i xs x e other.chardev;
      addr = plain-apart (with_val v) (codes "addr") i xs x e other.addr;
      size = plain-apart (with_val v) (codes "size") i xs x e other.size;
      place = plain-apart (with_val v) (codes "slot") i xs x e other.slot;
      lit = lit dark;
    })
    (λ p k. points-changed (with_val v) (strong-val v) p k i xs)
  where
    lit : (is_true v ≡ false) ⊎ (bytes_eq x.0 (codes "realized") ≡ false) → lit_in (changed_at (with_val v) i xs) ≡ true → lit_in xs ≡ true
    lit (inl dim) q = unlit-set v dim i xs q
    lit (inr apart) q = sym (ap (λ (o : Option Val). option_map_or is_true o false) (plain-apart (with_val v) (codes "realized") i xs x e apart)) ∙ q

-- a link of another name is pointed

points-apart : (g : Slot → Slot) (p : Names) (k i : ℕ) (xs : Slots) (x : List ℕ × Slot) → slice_get xs i ≡ Some x → p x.0 ≡ false
    → points p k (changed_at g i xs) ≡ points p k xs
points-apart g p k i [] x e apart = refl
points-apart g p k zero (y ∷ xs) x e apart =
    let other : p y.0 ≡ false = ap (λ (z : List ℕ × Slot). p z.0) (same_Some y x e) ∙ apart in
    rw other refl
points-apart g p k (suc i) (y ∷ xs) x e apart = ap (λ (t : Bool). points_it p k y || t) (points-apart g p k i xs x e apart)

pub less-pointed : (is_dimm is_bus : Bool) (m i : ℕ) (xs : Slots) (x : List ℕ × Slot) → slice_get xs i ≡ Some x → OtherLink x.0 → is_bus ≡ false
    → ClaimsLess is_dimm is_bus xs (changed_at (pointed m) i xs)
less-pointed is_dimm is_bus m i xs x e other no_bus =
    record {
      chardev = plain-changed (pointed m) (plain-pointed m) (codes "chardev") i xs;
      addr = plain-changed (pointed m) (plain-pointed m) (codes "addr") i xs;
      size = plain-changed (pointed m) (plain-pointed m) (codes "size") i xs;
      place = plain-changed (pointed m) (plain-pointed m) (codes "slot") i xs;
      lit = λ q. sym (ap (λ (o : Option Val). option_map_or is_true o false) (plain-changed (pointed m) (plain-pointed m) (codes "realized") i xs)) ∙ q;
      back = λ k q. sym (points-apart (pointed m) is_memdev k i xs x e other.memdev) ∙ q;
      home = λ k q. sym (points-apart (pointed m) is_home k i xs x e other.home) ∙ q;
      on = λ k d l q. points-apart (pointed m) is_memdev k i xs x e other.memdev ∙ q;
      strongs = λ k d q. absurd (let clash : true ≡ false = sym d ∙ no_bus in cc);
    }

-- a link of another name is filled
pub less-filled : (is_dimm : Bool) (g : Slot → Slot) → ((s : Slot) → plain_in (g s) ≡ plain_in s) → (i : ℕ) (xs : Slots) (x : List ℕ × Slot)
    → slice_get xs i ≡ Some x → OtherLink x.0 → ClaimsLess is_dimm false xs (changed_at g i xs)
less-filled is_dimm g same i xs x e other =
    record {
      chardev = plain-changed g same (codes "chardev") i xs;
      addr = plain-changed g same (codes "addr") i xs;
      size = plain-changed g same (codes "size") i xs;
      place = plain-changed g same (codes "slot") i xs;
      lit = λ q. sym (ap (λ (o : Option Val). option_map_or is_true o false) (plain-changed g same (codes "realized") i xs)) ∙ q;
      back = λ k q. sym (points-apart g is_memdev k i xs x e other.memdev) ∙ q;
      home = λ k q. sym (points-apart g is_home k i xs x e other.home) ∙ q;
      on = λ k d l q. points-apart g is_memdev k i xs x e other.memdev ∙ q;
      strongs = λ k d q. absurd (let clash : false ≡ true = d in cc);
    }

-- a slot more after the others

pub plain-added : (name own : List ℕ) (t : Slot) → plain_in t ≡ None → (xs : Slots) → plain_of name (xs ++ (own, t) ∷ []) ≡ plain_of name xs
plain-added name own t none [] = rw none (absent (bytes_eq own name) None)
plain-added name own t none (x ∷ xs) = ap (option_or (plain_named name x)) (plain-added name own t none xs)

pub points-added : (p : Names) (k : ℕ) (x : List ℕ × Slot) → points_it p k x ≡ false → (xs : Slots) → points p k (xs ++ x ∷ []) ≡ points p k xs
points-added p k x none [] = rw none refl
points-added p k x none (y ∷ xs) = ap (λ (t : Bool). points_it p k y || t) (points-added p k x none xs)

-- a slot that is not plain, and no link of a backend or to a device's bus; to a bus, no strong link at all
pub less-added : (is_dimm is_bus : Bool) (own : List ℕ) (t : Slot) → plain_in t ≡ None → (strong_in t ≡ None) ⊎ OtherLink own
    → (strong_in t ≡ None) ⊎ (is_bus ≡ false) → (xs : Slots) → ClaimsLess is_dimm is_bus xs (xs ++ (own, t) ∷ [])
less-added is_dimm is_bus own t none other bus xs =
    record {
      chardev = plain-added (codes "chardev") own t none xs;
      addr = plain-added (codes "addr") own t none xs;
      size = plain-added (codes "size") own t none xs;
      place = plain-added (codes "slot") own t none xs;
      lit = λ q. sym (ap (λ (o : Option Val). option_map_or is_true o false) (plain-added (codes "realized") own t none xs)) ∙ q;
      back = λ k q. sym (points-added is_memdev k (own, t) (none_at is_memdev other (λ o. o.memdev) k) xs) ∙ q;
      home = λ k q. sym (points-added is_home k (own, t) (none_at is_home other (λ o. o.home) k) xs) ∙ q;
      on = λ k d l q. points-added is_memdev k (own, t) (none_at is_memdev other (λ o. o.memdev) k) xs ∙ q;
      strongs = λ k d q. strongs k d bus q;
    }
  where
    none_at : (p : Names) → (strong_in t ≡ None) ⊎ OtherLink own → (OtherLink own → p own ≡ false) → (k : ℕ) → points_it p k (own, t) ≡ false
    none_at p (inl blind) name k = points-none p k (own, t) (inl blind)
    none_at p (inr o) name k = points-none p k (own, t) (inr (name o))

    strongs : (k : ℕ) → is_bus ≡ true → (strong_in t ≡ None) ⊎ (is_bus ≡ false) → points is_any k (xs ++ (own, t) ∷ []) ≡ true → points is_any k xs ≡ true
    strongs k d (inl blind) q = sym (points-added is_any k (own, t) (points-none is_any k (own, t) (inl blind)) xs) ∙ q
    strongs k d (inr other) q = absurd (let clash : true ≡ false = sym d ∙ other in cc)
