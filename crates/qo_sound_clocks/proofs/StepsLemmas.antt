-- What acts keep, and numbers that are written, writes of clocks keep.
use Rattle.std.proofs.Common.{◌≡◌, refl, ap, subst, ℕ, Bool, true, false, eqb, List, [], ◌∷◌, codes, Option, Some, None, is_some, Result, Ok, Err}
use Rattle.qo_model.proofs.Common.{list_any, bytes_eq, Code, E45, E46, E47, Act, Pre, Update, Board, clock_scaled, clock_set, acted, called, called_all, clock_written, clocks_below, overflows, period, source_of, spread, set_named}
use Rattle.qo_values.specs.declared.properties.Val.TheVariants as val
use Rattle.qo_model.specs.Paths.{parent_of}

-- the board after a write that is not refused
pub same_ok : (x d : Board) → ◌≡◌ {A = Result Board Code} (Ok x) (Ok d) → x ≡ d
same_ok x d e = ap (λ (r : Result Board Code). elim r as (λ _. Board) [ Ok y ↦ y | Err code ↦ x ]) e

-- numbers under other names than those of places keep P
abbrev pub KeepsNumbers : (Board → Type 0) → Type 0
KeepsNumbers P =
    (name : List ℕ) → bytes_eq name (codes "slot") ≡ false → bytes_eq name (codes "realized") ≡ false → (n v : ℕ) (b : Board) → P b
    → P (set_named n name (val.Uint v) b)

-- a call back, which is Pre with the Update that follows it, keeps P
abbrev pub KeepsCalls : (Board → Type 0) → Type 0
KeepsCalls P = (d old new : ℕ) (c : Board) → P c → P (acted Update d new (acted Pre d old c))

pub calls-kept : (P : Board → Type 0) → ((act : Act) (n period : ℕ) (b : Board) → P b → P (acted act n period b)) → KeepsCalls P
calls-kept P acts d old new c h = acts Update d new (acted Pre d old c) (acts Pre d old c h)

-- the clocks below are called back
module _ (P : Board → Type 0) (calls : KeepsCalls P) where
  kept-called : (old new e : Board) (c : ℕ) → P e → P (called old new e c)
  kept-called old new e c h = go (eqb (period old c) (period new c)) refl (parent_of new c) refl
    where
      go : (t : Bool) → eqb (period old c) (period new c) ≡ t → (o : Option ℕ) → parent_of new c ≡ o → P (called old new e c)
      go true p o q = rw (called, p) h
      go false p None q = rw (called, p, q) h
      go false p (Some d) q = rw (called, p, q) (calls d (period old c) (period new c) e h)

  pub kept-all : (old new : Board) (cs : List ℕ) (e : Board) → P e → P (called_all old new cs e)
  kept-all old new [] e h = h
  kept-all old new (c ∷ cs) e h = kept-all old new cs (called old new e c) (kept-called old new e c h)

  pub kept-written : (b new d : Board) (c : ℕ) → P new → clock_written b new c ≡ Ok d → P d
  kept-written b new d c h e = go (list_any (overflows new) (c ∷ clocks_below b c)) refl
    where
      go : (t : Bool) → list_any (overflows new) (c ∷ clocks_below b c) ≡ t → P d
      go true p = absurd (let clash : Err E47 ≡ Ok d = rw (clock_written, p) at e in cc)
      go false p =
          let is : Ok (spread b new c) ≡ Ok d = rw (clock_written, p) at e in
          subst P (same_ok (spread b new c) d is) (kept-all b new (clocks_below b c) new h)

  -- the whole write
  module _ (numbers : KeepsNumbers P) where
    pub kept-set : (b d : Board) (c period : ℕ) → clock_set b c period ≡ Ok d → P b → P d
    kept-set b d c period e h = go (is_some (source_of b c)) refl
      where
        go : (t : Bool) → is_some (source_of b c) ≡ t → P d
        go true p = absurd (let clash : Err E45 ≡ Ok d = rw (clock_set, p) at e in cc)
        go false p =
            kept-written b (set_named c (codes "period") (val.Uint period) b) d c (numbers (codes "period") refl refl c period b h) (rw (clock_set, p) at e)

    pub kept-scaled : (b d : Board) (c mul div : ℕ) → clock_scaled b c mul div ≡ Ok d → P b → P d
    kept-scaled b d c mul div e h = go (eqb div 0) refl
      where
        mid : Board
        mid = set_named c (codes "mul") (val.Uint mul) b

        go : (t : Bool) → eqb div 0 ≡ t → P d
        go true p = absurd (let clash : Err E46 ≡ Ok d = rw (clock_scaled, p) at e in cc)
        go false p =
            kept-written b (set_named c (codes "div") (val.Uint div) mid) d c
            (numbers (codes "div") refl refl c div mid (numbers (codes "mul") refl refl c mul b h)) (rw (clock_scaled, p) at e)
