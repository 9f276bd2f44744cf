-- Writes of clocks leave all but objects and notes, and so `qom-set` leaves what the other commands on objects leave.
use Rattle.std.proofs.Common.{◌≡◌, refl, ap, subst, ℕ, Bool, true, false, ◌==◌, cond, List, [], ◌∷◌, codes, Option, None, Some, is_some, Ok, Err}
use Rattle.qo_model.proofs.Common.{list_any, E45, E46, E47, Act, Pre, Update, Val, write_at, Board, slots_at, clock_scaled, clock_set, acted, called, called_all, clock_written, clocks_below, div_of, mul_of, overflows, period, source_of, spread, after_write, wrote, index_from, write, Stays, is_named, set_named}
use Rattle.qo_values.specs.declared.properties.Val.TheVariants as val
use Rattle.qo_model.specs.Paths.{parent_of}
use Rattle.qo_model.proofs.ClockPropertyLemmas.{write_at-cases}
use Rattle.qo_model.proofs.ChangeScopeLemmas.{set-stays, stays_lem, stays-none, stays-then}

acted-stays : (act : Act) (n period : ℕ) (b : Board) → Stays b (acted act n period b)
unfolding acted
acted-stays act n period b = record { anonymous = refl; now = refl; running = refl; holds = refl; pending = refl; notices = refl; rings = refl }

called-stays : (old new b : Board) (c : ℕ) → Stays b (called old new b c)
called-stays old new b c = go (period old c == period new c) (parent_of new c)
  where
    by : (o : Option ℕ) → Stays b (elim o as (λ _. Board) [ None ↦ b | Some d ↦ acted Update d (period new c) (acted Pre d (period old c) b) ])
    by None = stays-none b
    by (Some d) =
        stays-then b (acted Pre d (period old c) b) (acted Update d (period new c) (acted Pre d (period old c) b))
        (acted-stays Pre d (period old c) b)
        (acted-stays Update d (period new c) (acted Pre d (period old c) b))

    go : (t : Bool) (o : Option ℕ)
        → Stays b (elim t as (λ _. Board) [ true ↦ b | false ↦ elim o [ None ↦ b | Some d ↦ acted Update d (period new c) (acted Pre d (period old c) b) ] ])
    go true o = stays-none b
    go false o = by o

called_all-stays : (old new : Board) (cs : List ℕ) (b : Board) → Stays b (called_all old new cs b)
called_all-stays old new [] b = stays-none b
called_all-stays old new (c ∷ cs) b =
    stays-then b (called old new b c) (called_all old new cs (called old new b c)) (called-stays old new b c) (called_all-stays old new cs (called old new b c))

named-stays : (n : ℕ) (name : List ℕ) (v : Val) (b : Board) → Stays b (set_named n name v b)
named-stays n name v b = go (index_from (is_named name) 0 (slots_at b n)) refl
  where
    go : (o : Option ℕ) → index_from (is_named name) 0 (slots_at b n) ≡ o → Stays b (set_named n name v b)
    go None e = rw (set_named, e) (stays-none b)
    go (Some i) e = rw (set_named, e) (set-stays b n i v)

written-stays : (old new d : Board) (c : ℕ) → Stays old new → clock_written old new c ≡ Ok d → Stays old d
written-stays old new d c stays e = go (list_any (overflows new) (c ∷ clocks_below old c)) e
  where
    go : (t : Bool) → cond t (Err E47) (Ok (spread old new c)) ≡ Ok d → Stays old d
    go true q = cc
    go false q =
        let same : spread old new c ≡ d = cc in
        subst (Stays old) same (stays-then old new (spread old new c) stays (called_all-stays old new (clocks_below old c) new))

pub clock_set-stays : (b d : Board) (c period : ℕ) → clock_set b c period ≡ Ok d → Stays b d
clock_set-stays b d c period e = go (is_some (source_of b c)) e
  where
    new : Board
    new = set_named c (codes "period") (val.Uint period) b

    go : (t : Bool) → cond t (Err E45) (clock_written b new c) ≡ Ok d → Stays b d
    go true q = cc
    go false q = written-stays b new d c (named-stays c (codes "period") (val.Uint period) b) q

pub clock_scaled-stays : (b d : Board) (c mul div : ℕ) → clock_scaled b c mul div ≡ Ok d → Stays b d
clock_scaled-stays b d c mul div e = go (div == 0) e
  where
    half : Board
    half = set_named c (codes "mul") (val.Uint mul) b

    new : Board
    new = set_named c (codes "div") (val.Uint div) half

    go : (t : Bool) → cond t (Err E46) (clock_written b new c) ≡ Ok d → Stays b d
    go true q = cc
    go false q =
        written-stays b new d c
        (stays-then b half new (named-stays c (codes "mul") (val.Uint mul) b) (named-stays c (codes "div") (val.Uint div) half)) q

wrote-stays : (b d : Board) (n : ℕ) (name : List ℕ) (v : Val) → write b n name v ≡ Ok d → Stays b d
wrote-stays b d n name v e = subst (Stays b) (ap (after_write b) e) (stays_lem.change b (wrote n name v))

pub write_at-stays : (b d : Board) (path name : List ℕ) (v : Val) → write_at b path name v ≡ Ok d → Stays b d
write_at-stays b d path name v e =
    write_at-cases (Stays b d) b d
    (λ n name v q. wrote-stays b d n name v q)
    (λ c period fits q. clock_set-stays b d c period q)
    (λ c mul fits q. clock_scaled-stays b d c mul (div_of b c) q)
    (λ c div fits q. clock_scaled-stays b d c (mul_of b c) div q)
    path name v e
