-- The steps by which a clock is written, each with what is known where it is taken: what these keep, the write keeps.
use Rattle.std.proofs.Common.{◌≡◌, refl, ap, subst, ℕ, Bool, true, false, eqb, List, [], ◌∷◌, codes, Option, Some, None, is_some, Result, Ok, Err}
use Rattle.qo_model.proofs.Common.{list_any, Code, E45, E46, E47, Pre, Update, Board, set, clock_scaled, clock_set, acted, called, called_all, clock_written, clocks_below, overflows, period, source_of, spread, set_named}
use Rattle.qo_values.specs.declared.properties.Val.TheVariants as val
use Rattle.qo_model.specs.Paths.{parent_of}
use Rattle.qo_steps.proofs.NamedLemmas.{Named, set-by}

-- the numbers of a clock
pub data IsNumber : List ℕ → Type 0 where
  a_period : IsNumber (codes "period")
  a_mul : IsNumber (codes "mul")
  a_div : IsNumber (codes "div")

-- a device is called back as the period of its clock changes, before and after
abbrev pub KeepsCalls : (ℕ → Type 0) → (Board → Type 0) → Type 0
KeepsCalls On P = (n old new : ℕ) (c : Board) → On n → P c → P (acted Update n new (acted Pre n old c))

-- the board after a write that is not refused
same_ok : (x d : Board) → ◌≡◌ {A = Result Board Code} (Ok x) (Ok d) → x ≡ d
same_ok x d e = ap (λ (r : Result Board Code). elim r as (λ _. Board) [ Ok y ↦ y | Err code ↦ x ]) e

-- the clocks below are called back, whose parents may act
module _ (P : Board → Type 0) (On : ℕ → Type 0) (calls : KeepsCalls On P) (old new : Board) (parents : (c d : ℕ) → parent_of new c ≡ Some d → On d) where
  by-called : (c : ℕ) (e : Board) → P e → P (called old new e c)
  by-called c e h = go (eqb (period old c) (period new c)) refl (parent_of new c) refl
    where
      go : (t : Bool) → eqb (period old c) (period new c) ≡ t → (o : Option ℕ) → parent_of new c ≡ o → P (called old new e c)
      go true p o q = rw (called, p) h
      go false p None q = rw (called, p, q) h
      go false p (Some d) q = rw (called, p, q) (calls d (period old c) (period new c) e (parents c d q) h)

  by-all : (cs : List ℕ) (e : Board) → P e → P (called_all old new cs e)
  by-all [] e h = h
  by-all (c ∷ cs) e h = by-all cs (called old new e c) (by-called c e h)

  pub written-by : (d : Board) (c : ℕ) → P new → clock_written old new c ≡ Ok d → P d
  written-by d c h e = go (list_any (overflows new) (c ∷ clocks_below old c)) refl
    where
      go : (t : Bool) → list_any (overflows new) (c ∷ clocks_below old c) ≡ t → P d
      go true p = absurd (let clash : Err E47 ≡ Ok d = rw (clock_written, p) at e in cc)
      go false p =
          let is : Ok (spread old new c) ≡ Ok d = rw (clock_written, p) at e in
          subst P (same_ok (spread old new c) d is) (by-all (clocks_below old c) new h)

-- a number is written, and those below are called back
module _ (P : Board → Type 0) (numbers : (name : List ℕ) → IsNumber name → (n i v : ℕ) (c : Board) → Named c n i name → P c → P (set n i (val.Uint v) c)) where
  by-number : (name : List ℕ) → IsNumber name → (n v : ℕ) (c : Board) → P c → P (set_named n name (val.Uint v) c)
  by-number name is n v c h = set-by P n name c h (val.Uint v) (λ i at. numbers name is n i v c at h)

  pub clock_set-by : (b d : Board) (c k : ℕ) → clock_set b c k ≡ Ok d → P b
      → (P (set_named c (codes "period") (val.Uint k) b) → clock_written b (set_named c (codes "period") (val.Uint k) b) c ≡ Ok d → P d) → P d
  clock_set-by b d c k e h written = go (is_some (source_of b c)) refl
    where
      go : (t : Bool) → is_some (source_of b c) ≡ t → P d
      go true p = absurd (let clash : Err E45 ≡ Ok d = rw (clock_set, p) at e in cc)
      go false p = written (by-number (codes "period") a_period c k b h) (rw (clock_set, p) at e)

  pub clock_scaled-by : (b d : Board) (c mul div : ℕ) → clock_scaled b c mul div ≡ Ok d → P b
      → (P (set_named c (codes "div") (val.Uint div) (set_named c (codes "mul") (val.Uint mul) b))
      → clock_written b (set_named c (codes "div") (val.Uint div) (set_named c (codes "mul") (val.Uint mul) b)) c ≡ Ok d → P d)
      → P d
  clock_scaled-by b d c mul div e h written = go (eqb div 0) refl
    where
      go : (t : Bool) → eqb div 0 ≡ t → P d
      go true p = absurd (let clash : Err E46 ≡ Ok d = rw (clock_scaled, p) at e in cc)
      go false p =
          written (by-number (codes "div") a_div c div _ (by-number (codes "mul") a_mul c mul b h)) (rw (clock_scaled, p) at e)
