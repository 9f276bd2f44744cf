-- What `qom-set` does: it writes as the command that adds an object does, or the number of a clock, no wider than its property.
use Rattle.std.proofs.Common.{◌≡◌, refl, subst, ℕ, ◌^◌, ◌-◌, ◌%◌, ◌<◌, ◌≤◌, Bool, true, false, ◌&&◌, nat_le, cond, List, Option, Some, None, is_some, Result, Ok, Err, arith, rules}
use Rattle.qo_model.proofs.Common.{◌==◌, AllByRecursion, bytes_eq, admits, Code, E17, E19, TypeId, PropType, Val, write_at, Board, Slot, kind_of, slot_named, plain, child, strong, weak, alias, clock_scaled, clock_set, clock_property_written, in_slot, is_set, role_written, led_by, led_to, number_written, only_set, own_property, set_property, set_row, typed_written, div_of, mul_of, object_at, property_named, write, property_name, slots_of, types, uint64, up_to}
use Rattle.qo_model.specs.declared.properties.Access.{Access}
use Rattle.qo_model.specs.declared.properties.Property.{Property}
use Rattle.qo_model.specs.declared.properties.PropertyName.{PropertyName}
use Rattle.qo_model.specs.declared.properties.PropertyRole.{PropertyRole}
use Rattle.std.specs.Prelude.{option_and_then}
use Rattle.std.proofs.lemmas.Bool.{leb-true}
use Rattle.qo_values.proofs.ListLemmas.{found-has}
use Rattle.qo_values.specs.declared.kinds.TypeId.TheVariants as type
use Rattle.qo_values.specs.declared.properties.Val.TheVariants as val
use Rattle.qo_values.proofs.EachLemmas.{each}
use Rattle.qo_model.specs.declared.properties.Access.TheVariants as access
use Rattle.qo_model.specs.declared.properties.PropertyName.TheVariants as prop
use Rattle.qo_model.specs.declared.properties.PropertyRole.TheVariants as row

-- what fits in a number of a clock
abbrev Fits : PropertyName → ℕ → Type 0
Fits prop.Mul n = n < 2 ^ 32
Fits prop.Div n = n < 2 ^ 32
Fits name n = n < 2 ^ 64

-- the type of the property takes no more
abbrev FitsKind : PropertyName → PropertyRole → Type 0
FitsKind name (row.Plain t first) = (n : ℕ) → admits t (val.Uint n) ≡ true → Fits name n
FitsKind name kind = Unit {0}

abbrev FitsAccess : Property → Access → Type 0
FitsAccess p access.Set = FitsKind p.name p.role
FitsAccess p m = Unit {0}

abbrev FitsRow : Property → Type 0
FitsRow p = FitsAccess p p.access

below : (n hi : ℕ) (t : Bool) → (nat_le 0 n && nat_le n hi && t) ≡ true → n ≤ hi
below n hi t e = go (nat_le 0 n) (nat_le n hi) refl e
  where
    go : (low up : Bool) → nat_le n hi ≡ up → (low && up && t) ≡ true → n ≤ hi
    go true true is q = leb-true n hi is
    go true false is q = cc
    go false true is q = cc
    go false false is q = cc

period-fits : (n : ℕ) → admits uint64 (val.Uint n) ≡ true → n < 2 ^ 64
period-fits n e = let most : n ≤ 2 ^ 64 - 1 = below n (2 ^ 64 - 1) (n % 1 == 0) e in omega arith

ratio-fits : (n : ℕ) → admits (up_to 4294967295) (val.Uint n) ≡ true → n < 2 ^ 32
ratio-fits n e = let most : n ≤ 4294967295 = below n 4294967295 (n % 1 == 0) e in omega arith

rows-fit : (t : TypeId) → AllByRecursion FitsRow (slots_of t)
unfolding types
rows-fit = each (λ (t : TypeId). AllByRecursion FitsRow (slots_of t)) (search (rules, period-fits, ratio-fits))

-- so does that of the property that is found
abbrev FitsProperty : Property → Type 0
FitsProperty p = FitsKind p.name p.role

only-fits : (q p : Property) → FitsRow q → only_set q ≡ Some p → FitsProperty p
only-fits q p fits e = go q.access fits e
  where
    go : (m : Access) → FitsAccess q m → cond (is_set m) (Some q) None ≡ Some p → FitsProperty p
    go access.Set f is = let same : q ≡ p = cc in subst FitsProperty same f
    go access.Never f is = cc
    go access.Add f is = cc
    go access.Both f is = cc

row-fits : (b : Board) (n : ℕ) (name : List ℕ) (p : Property) → set_row b n name ≡ Some p → FitsProperty p
row-fits b n name p e = of (kind_of b n) e
  where
    by : (t : TypeId) (o : Option Property) → property_named t name ≡ o → option_and_then only_set o ≡ Some p → FitsProperty p
    by t None is q = cc
    by t (Some row) is q = only-fits row p (found-has FitsRow (λ (x : Property). bytes_eq (property_name x.name) name) (slots_of t) row (rows-fit t) is) q

    of : (k : Option TypeId) → option_and_then (λ t. option_and_then only_set (property_named t name)) k ≡ Some p → FitsProperty p
    of None q = cc
    of (Some t) q = by t (property_named t name) refl q

slot-fits : (n : ℕ) (s : Slot) (o : Option Property) (q : ℕ × Property) → in_slot n s o ≡ Ok q → ((p : Property) → o ≡ Some p → FitsProperty p)
    → FitsProperty q.1
slot-fits n (plain old) (Some p) q e fits = let same : p ≡ q.1 = cc in subst FitsProperty same (fits p refl)
slot-fits n (plain old) None q e fits = cc
slot-fits n (child m) o q e fits = cc
slot-fits n (strong t target) o q e fits = cc
slot-fits n (weak t target) o q e fits = cc
slot-fits n (alias m of) o q e fits = cc

own-fits : (b : Board) (n : ℕ) (name : List ℕ) (q : ℕ × Property) → own_property b n name ≡ Ok q → FitsProperty q.1
own-fits b n name q e = go (slot_named b n name) e
  where
    go : (o : Option Slot) → elim o as (λ _. Result (ℕ × Property) Code) [ None ↦ Err E17 | Some s ↦ in_slot n s (set_row b n name) ] ≡ Ok q → FitsProperty q.1
    go None is = cc
    go (Some s) is = slot-fits n s (set_row b n name) q is (λ p. row-fits b n name p)

led-fits : (b : Board) (n : ℕ) (name : List ℕ) (q : ℕ × Property) → led_to b n name ≡ Ok q → FitsProperty q.1
led-fits b n name q e = go (slot_named b n name) e
  where
    go : (o : Option Slot) → elim o as (λ _. Result (ℕ × Property) Code) [ None ↦ Err E17 | Some s ↦ led_by b n name s ] ≡ Ok q → FitsProperty q.1
    go None is = cc
    go (Some (plain old)) is = own-fits b n name q is
    go (Some (child m)) is = own-fits b n name q is
    go (Some (strong t target)) is = own-fits b n name q is
    go (Some (weak t target)) is = own-fits b n name q is
    go (Some (alias m of)) is = own-fits b m of q is

-- what is so after each of these is so after `qom-set`
module _
    (P : Type 0) (b d : Board)
    (wrote : (n : ℕ) (name : List ℕ) (v : Val) → write b n name v ≡ Ok d → P)
    (sets : (c period : ℕ) → period < 2 ^ 64 → clock_set b c period ≡ Ok d → P)
    (multiplies : (c mul : ℕ) → mul < 2 ^ 32 → clock_scaled b c mul (div_of b c) ≡ Ok d → P)
    (divides : (c div : ℕ) → div < 2 ^ 32 → clock_scaled b c (mul_of b c) div ≡ Ok d → P) where
  number-cases : (c : ℕ) (name : PropertyName) (n : ℕ) → Fits name n → number_written b c name n ≡ Ok d → P
  number-cases c prop.Period n fits e = sets c n fits e
  number-cases c prop.Mul n fits e = multiplies c n fits e
  number-cases c prop.Div n fits e = divides c n fits e
  number-cases c name n fits e = cc

  typed-cases : (c : ℕ) (name : PropertyName) (t : PropType) (v : Val) → ((n : ℕ) → admits t (val.Uint n) ≡ true → Fits name n)
      → typed_written b c name t v ≡ Ok d → P
  typed-cases c name t (val.Uint n) fits e = go (admits t (val.Uint n)) refl e
    where
      go : (x : Bool) → admits t (val.Uint n) ≡ x → cond x (number_written b c name n) (Err E19) ≡ Ok d → P
      go true is q = number-cases c name n (fits n is) q
      go false is q = cc
  typed-cases c name t (val.Bool x) fits e = cc
  typed-cases c name t (val.Int x) fits e = cc
  typed-cases c name t (val.Text x) fits e = cc
  typed-cases c name t val.Nothing fits e = cc

  kind-cases : (c : ℕ) (name : PropertyName) (kind : PropertyRole) (v : Val) → FitsKind name kind → role_written b c name kind v ≡ Ok d → P
  kind-cases c name (row.Plain t first) v fits e = typed-cases c name t v fits e
  kind-cases c name (row.Child t) v fits e = cc
  kind-cases c name (row.Link t holds) v fits e = cc
  kind-cases c name (row.Alias of on) v fits e = cc

  pub set-cases : (n : ℕ) (name : List ℕ) (v : Val) → set_property b n name v ≡ Ok d → P
  set-cases n name v e = go (is_some (set_row b n name)) e
    where
      by : (r : Result (ℕ × Property) Code) → led_to b n name ≡ r → clock_property_written b v r ≡ Ok d → P
      by (Ok p) is q = kind-cases p.0 p.1.name p.1.role v (led-fits b n name p is) q
      by (Err code) is q = cc

      go : (t : Bool) → cond t (clock_property_written b v (led_to b n name)) (write b n name v) ≡ Ok d → P
      go true q = by (led_to b n name) refl q
      go false q = wrote n name v q

  pub write_at-cases : (path name : List ℕ) (v : Val) → write_at b path name v ≡ Ok d → P
  write_at-cases path name v e = go (object_at b path) e
    where
      go : (r : Result ℕ Code) → elim r as (λ _. Result Board Code) [ Ok n ↦ set_property b n name v | Err code ↦ Err code ] ≡ Ok d → P
      go (Ok n) q = set-cases n name v q
      go (Err code) q = cc
