-- Where a write of a clock's numbers is not refused, the clocks are sound after it.
use Rattle.std.proofs.Common.{◌≡◌, ◌⊎◌, inl, inr, refl, ap, subst, sym, ◌∙◌, ℕ, zero, suc, Bool, true, false, eqb, List, [], ◌∷◌, slice_get, Option, Some, None, option_map, option_and_then, unwrap_or, codes, Ok, Err}
use Rattle.qo_model.proofs.Common.{list_any, bytes_eq, E45, E46, E47, Val, Board, Record, Slot, plain, child, strong, weak, alias, record_of, slots_at, changed_at, set, with_changed, with_val, clock_scaled, clock_set, clock_written, clocks_below, div_of, overflows, own_period, period, source_of, spread, number_at, number_in, plain_in, index_from, births, edited, is_named, set_named}
use Rattle.std.proofs.lemmas.Bool.{eqb-true, eq-eqb}
use Rattle.std.proofs.lemmas.Option.{same_Some}
use Rattle.std.proofs.lemmas.Slice.Eq.{bytes_eq-Decides}
use Rattle.qo_values.specs.declared.properties.Val.TheVariants as val
use Rattle.qo_model.specs.Clocks.{weak_in}
use Rattle.qo_model.proofs.ClockFitLemmas.{fits-new, IsWritten, written-then}
use Rattle.qo_model.proofs.FirstSlotLemmas.{slots_in, named_in, Found, found-at}
use Rattle.qo_model.proofs.StepLemmas.{found-edited, found-birth}
use Rattle.qo_sound.proofs.FirmBoardLemmas.{edited-births}
use Rattle.qo_sound.proofs.ReadLemmas.{weak-val}
use Rattle.qo_sound_clocks.specs.SoundClocks.{SoundClocks}
use Rattle.qo_sound_clocks.proofs.SlotLemmas.{Slots}
use Rattle.qo_sound_clocks.proofs.GrowthLemmas.{same-sound}
use Rattle.qo_sound_clocks.proofs.DependenceLemmas.{kept-acted}
use Rattle.qo_sound_clocks.proofs.StepsLemmas.{kept-all, same_ok, calls-kept}

abbrev pub plain_at_name : List ℕ → Slots → Option Val
plain_at_name name xs = option_and_then plain_in (named_in name xs)

-- what is read of slots where a value is set at a name

-- the same is read by every other name, and by this name the value or what was read
pub record IsSet (name : List ℕ) (v : Val) (xs ys : Slots) : Type 0 where
  pub source : option_and_then weak_in (named_in (codes "source") ys) ≡ option_and_then weak_in (named_in (codes "source") xs)
  pub others : (other : List ℕ) → bytes_eq name other ≡ false → plain_at_name other ys ≡ plain_at_name other xs
  pub here : (plain_at_name name ys ≡ Some v) ⊎ (plain_at_name name ys ≡ plain_at_name name xs)

is_set-none : (name : List ℕ) (v : Val) (xs : Slots) → IsSet name v xs xs
is_set-none name v xs = record { source = refl; others = λ other e. refl; here = inr refl }

read-same : {A : Type 0} (f : Slot → Option A) (g : Slot → Slot) → ((s : Slot) → f (g s) ≡ f s) → (name : List ℕ) (i : ℕ) (xs : Slots)
    → option_and_then f (named_in name (changed_at g i xs)) ≡ option_and_then f (named_in name xs)
read-same f g same name i [] = refl
read-same f g same name zero (x ∷ xs) = go (bytes_eq x.0 name) refl
  where
    go : (t : Bool) → bytes_eq x.0 name ≡ t → option_and_then f (named_in name ((x.0, g x.1) ∷ xs)) ≡ option_and_then f (named_in name (x ∷ xs))
    go true p = rw p (same x.1)
    go false p = rw p refl
read-same f g same name (suc i) (x ∷ xs) = go (bytes_eq x.0 name) refl (read-same f g same name i xs)
  where
    go : (t : Bool) → bytes_eq x.0 name ≡ t → option_and_then f (named_in name (changed_at g i xs)) ≡ option_and_then f (named_in name xs)
        → option_and_then f (named_in name (x ∷ changed_at g i xs)) ≡ option_and_then f (named_in name (x ∷ xs))
    go true p rest = rw p refl
    go false p rest = rw p rest

read-apart : (g : Slot → Slot) (name : List ℕ) (i : ℕ) (xs : Slots) (x : List ℕ × Slot) → slice_get xs i ≡ Some x → bytes_eq x.0 name ≡ false
    → named_in name (changed_at g i xs) ≡ named_in name xs
read-apart g name i [] x e apart = refl
read-apart g name zero (y ∷ xs) x e apart =
    let other : bytes_eq y.0 name ≡ false = ap (λ (z : List ℕ × Slot). bytes_eq z.0 name) (same_Some y x e) ∙ apart in
    rw other refl
read-apart g name (suc i) (y ∷ xs) x e apart = go (bytes_eq y.0 name) refl (read-apart g name i xs x e apart)
  where
    go : (t : Bool) → bytes_eq y.0 name ≡ t → named_in name (changed_at g i xs) ≡ named_in name xs
        → named_in name (y ∷ changed_at g i xs) ≡ named_in name (y ∷ xs)
    go true p rest = rw p refl
    go false p rest = rw p rest

read-here : (v : Val) (name : List ℕ) (i : ℕ) (xs : Slots)
    → (plain_at_name name (changed_at (with_val v) i xs) ≡ Some v) ⊎ (plain_at_name name (changed_at (with_val v) i xs) ≡ plain_at_name name xs)
read-here v name i [] = inr refl
read-here v name zero (x ∷ xs) = go (bytes_eq x.0 name) refl x.1 refl
  where
    go : (t : Bool) → bytes_eq x.0 name ≡ t → (s : Slot) → x.1 ≡ s
        → (plain_at_name name ((x.0, with_val v x.1) ∷ xs) ≡ Some v) ⊎ (plain_at_name name ((x.0, with_val v x.1) ∷ xs) ≡ plain_at_name name (x ∷ xs))
    go false p s q = inr (rw p refl)
    go true p (plain w) q = inl (rw (p, q) refl)
    go true p (child m) q = inr (rw (p, q) refl)
    go true p (strong t target) q = inr (rw (p, q) refl)
    go true p (weak t target) q = inr (rw (p, q) refl)
    go true p (alias m property) q = inr (rw (p, q) refl)
read-here v name (suc i) (x ∷ xs) = go (bytes_eq x.0 name) refl (read-here v name i xs)
  where
    go : (t : Bool) → bytes_eq x.0 name ≡ t
        → (plain_at_name name (changed_at (with_val v) i xs) ≡ Some v) ⊎ (plain_at_name name (changed_at (with_val v) i xs) ≡ plain_at_name name xs)
        → (plain_at_name name (x ∷ changed_at (with_val v) i xs) ≡ Some v)
        ⊎ (plain_at_name name (x ∷ changed_at (with_val v) i xs) ≡ plain_at_name name (x ∷ xs))
    go true p rest = inr (rw p refl)
    go false p (inl is) = inl (rw p is)
    go false p (inr same) = inr (rw p same)

set-slots : (name : List ℕ) (v : Val) (i : ℕ) (xs : Slots) (x : List ℕ × Slot) → slice_get xs i ≡ Some x → bytes_eq x.0 name ≡ true
    → IsSet name v xs (changed_at (with_val v) i xs)
set-slots name v i xs x e named =
    record {
      source = read-same weak_in (with_val v) (weak-val v) (codes "source") i xs;
      others = λ other apart.
          ap (option_and_then plain_in)
          (read-apart (with_val v) other i xs x e (subst (λ (own : List ℕ). bytes_eq own other ≡ false) (sym ((bytes_eq-Decides x.0 name).0 named)) apart));
      here = read-here v name i xs;
    }

-- on the board
pub record IsSetAt (n : ℕ) (name : List ℕ) (v : Val) (b c : Board) : Type 0 where
  pub at : IsSet name v (slots_at b n) (slots_at c n)
  pub apart : (x : ℕ) → eqb x n ≡ false → slots_at c x ≡ slots_at b x
  pub births : births c ≡ births b

pub set-at : (n : ℕ) (name : List ℕ) (v : Val) (b : Board) → IsSetAt n name v b (set_named n name v b)
unfolding set
set-at n name v b = go (index_from (is_named name) 0 (slots_at b n)) refl
  where
    go : (o : Option ℕ) → index_from (is_named name) 0 (slots_at b n) ≡ o → IsSetAt n name v b (set_named n name v b)
    go None e = rw (set_named, e) (record { at = is_set-none name v (slots_at b n); apart = λ x p. refl; births = refl })
    go (Some i) e =
        rw (set_named, e) (record {
          at = rw (found-edited n change (λ r. refl) n b.records) (here (record_of b n) refl);
          apart = λ x p. rw (found-edited n change (λ r. refl) x b.records) (there x p (record_of b x) refl);
          births = edited-births n change (λ r. refl) (λ r. refl) b.records;
        })
      where
        change : Record → Record
        change = with_changed (with_val v) i

        f : Found (is_named name) (slots_at b n) i
        f = found-at (is_named name) i (slots_at b n) e

        here : (o : Option Record) → record_of b n ≡ o → IsSet name v (slots_in o) (slots_in (option_map (edited n change) o))
        here None q = is_set-none name v []
        here (Some r) q =
            let own : eqb r.birth n ≡ true = eq-eqb r.birth n (found-birth n b.records r q) in
            let at : slice_get r.slots i ≡ Some f.entry = sym (ap (λ (o : Option Record). slice_get (slots_in o) i) q) ∙ f.at in
            rw (edited, own) (set-slots name v i r.slots f.entry at f.passes)

        there : (x : ℕ) → eqb x n ≡ false → (o : Option Record) → record_of b x ≡ o → slots_in (option_map (edited n change) o) ≡ slots_in o
        there x p None q = refl
        there x p (Some r) q =
            let other : eqb r.birth n ≡ false = ap (λ (k : ℕ). eqb k n) (found-birth x b.records r q) ∙ p in
            rw (edited, other) refl

-- what is read of the clocks
module _ (n : ℕ) (name : List ℕ) (v : Val) (b c : Board) (h : IsSetAt n name v b c) where
  read-at : {A : Type 0} (f : Slots → A) (x : ℕ) → eqb x n ≡ false → f (slots_at c x) ≡ f (slots_at b x)
  read-at f x p = ap f (h.apart x p)

  source-at : (x : ℕ) (t : Bool) → eqb x n ≡ t → source_of c x ≡ source_of b x
  source-at x true p = subst (λ (k : ℕ). source_of c k ≡ source_of b k) (sym (eqb-true x n p)) h.at.source
  source-at x false p = read-at (λ (xs : Slots). option_and_then weak_in (named_in (codes "source") xs)) x p

  pub number-at : (other : List ℕ) (x : ℕ) → eqb x n ≡ false → number_at c x other ≡ number_at b x other
  number-at other x p = read-at (λ (xs : Slots). option_and_then number_in (plain_at_name other xs)) x p

  pub number-here : (other : List ℕ) → bytes_eq name other ≡ false → number_at c n other ≡ number_at b n other
  number-here other p = ap (option_and_then number_in) (h.at.others other p)

  set-written : IsWritten b c n
  set-written =
      record {
        births = h.births;
        sources = λ x. source-at x (eqb x n) refl;
        mul = λ x p. ap (λ (o : Option ℕ). unwrap_or o 1) (number-at (codes "mul") x p);
        div = λ x p. ap (λ (o : Option ℕ). unwrap_or o 1) (number-at (codes "div") x p);
        own = λ x p. ap (λ (o : Option ℕ). unwrap_or o 0) (number-at (codes "period") x p);
      }

-- a clock whose numbers were written
module _ (b new : Board) (c : ℕ) (w : IsWritten b new c) (h : SoundClocks b) where
  written-sound : ((s : ℕ) → source_of b c ≡ Some s → own_period new c ≡ own_period b c) → (div_of new c ≡ 0 → ⊥)
      → overflows new c ≡ false → list_any (overflows new) (clocks_below b c) ≡ false → SoundClocks new
  written-sound kept not_zero own clear =
      record {
        older = λ n s e. h.older n s (sym (w.sources n) ∙ e);
        none_own = λ n s e. none n s (sym (w.sources n) ∙ e) (eqb n c) refl;
        fit = fits-new b new c w h.fit not_zero own clear;
      }
    where
      none : (n s : ℕ) → source_of b n ≡ Some s → (t : Bool) → eqb n c ≡ t → own_period new n ≡ 0
      none n s e true p =
          let is : n ≡ c = eqb-true n c p in
          ap (own_period new) is ∙ kept s (ap (source_of b) (sym is) ∙ e) ∙ ap (own_period b) (sym is) ∙ h.none_own n s e
      none n s e false p = w.own n p ∙ h.none_own n s e

  written-clocks : (d : Board) → ((s : ℕ) → source_of b c ≡ Some s → own_period new c ≡ own_period b c) → (div_of new c ≡ 0 → ⊥)
      → clock_written b new c ≡ Ok d → SoundClocks d
  written-clocks d kept not_zero e = go (overflows new c) refl (list_any (overflows new) (clocks_below b c)) refl
    where
      go : (t : Bool) → overflows new c ≡ t → (u : Bool) → list_any (overflows new) (clocks_below b c) ≡ u → SoundClocks d
      go true p u q = absurd (let clash : Err E47 ≡ Ok d = rw (clock_written, p) at e in cc)
      go false p true q = absurd (let clash : Err E47 ≡ Ok d = rw (clock_written, p, q) at e in cc)
      go false p false q =
          let is : Ok (spread b new c) ≡ Ok d = rw (clock_written, p, q) at e in
          subst SoundClocks (same_ok (spread b new c) d is)
          (kept-all SoundClocks (calls-kept SoundClocks (kept-acted SoundClocks same-sound)) b new (clocks_below b c) new (written-sound kept not_zero p q))

-- the writes

pub set-clocks : (b d : Board) (c period : ℕ) → clock_set b c period ≡ Ok d → SoundClocks b → SoundClocks d
set-clocks b d c period e h = go (source_of b c) refl
  where
    new : Board
    new = set_named c (codes "period") (val.Uint period) b

    at : IsSetAt c (codes "period") (val.Uint period) b new
    at = set-at c (codes "period") (val.Uint period) b

    divides : div_of new c ≡ 0 → ⊥
    divides z =
        h.fit.divides c
        (sym (ap (λ (o : Option ℕ). unwrap_or o 1) (number-here c (codes "period") (val.Uint period) b new at (codes "div") refl)) ∙ z)

    go : (o : Option ℕ) → source_of b c ≡ o → SoundClocks d
    go (Some s) p = absurd (let clash : Err E45 ≡ Ok d = rw (clock_set, p) at e in cc)
    go None p =
        written-clocks b new c (set-written c (codes "period") (val.Uint period) b new at) h d
        (λ s q. absurd (let clash : None ≡ Some s = sym p ∙ q in cc)) divides (rw (clock_set, p) at e)

pub scaled-clocks : (b d : Board) (c mul div : ℕ) → clock_scaled b c mul div ≡ Ok d → SoundClocks b → SoundClocks d
scaled-clocks b d c mul div e h = go (eqb div 0) refl
  where
    mid : Board
    mid = set_named c (codes "mul") (val.Uint mul) b

    new : Board
    new = set_named c (codes "div") (val.Uint div) mid

    at : IsSetAt c (codes "mul") (val.Uint mul) b mid
    at = set-at c (codes "mul") (val.Uint mul) b

    and : IsSetAt c (codes "div") (val.Uint div) mid new
    and = set-at c (codes "div") (val.Uint div) mid

    kept : own_period new c ≡ own_period b c
    kept =
        ap (λ (o : Option ℕ). unwrap_or o 0)
        (number-here c (codes "div") (val.Uint div) mid new and (codes "period") refl
        ∙ number-here c (codes "mul") (val.Uint mul) b mid at (codes "period") refl)

    divides : eqb div 0 ≡ false → div_of new c ≡ 0 → ⊥
    divides some z = by and.at.here
      where
        by : (plain_at_name (codes "div") (slots_at new c) ≡ Some (val.Uint div))
            ⊎ (plain_at_name (codes "div") (slots_at new c) ≡ plain_at_name (codes "div") (slots_at mid c)) → ⊥
        by (inl is) =
            let zero_div : div ≡ 0 = sym (ap (λ (o : Option Val). unwrap_or (option_and_then number_in o) 1) is) ∙ z in
            let clash : true ≡ false = sym (eq-eqb div 0 zero_div) ∙ some in
            cc
        by (inr same) =
            h.fit.divides c
            (sym (ap (λ (o : Option ℕ). unwrap_or o 1) (number-here c (codes "mul") (val.Uint mul) b mid at (codes "div") refl))
            ∙ sym (ap (λ (o : Option Val). unwrap_or (option_and_then number_in o) 1) same)
            ∙ z)

    go : (t : Bool) → eqb div 0 ≡ t → SoundClocks d
    go true p = absurd (let clash : Err E46 ≡ Ok d = rw (clock_scaled, p) at e in cc)
    go false p =
        written-clocks b new c
        (written-then b mid new c (set-written c (codes "mul") (val.Uint mul) b mid at) (set-written c (codes "div") (val.Uint div) mid new and)) h d
        (λ s q. kept) (divides p) (rw (clock_scaled, p) at e)
