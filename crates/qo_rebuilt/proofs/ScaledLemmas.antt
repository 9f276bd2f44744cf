-- What a write of a clock's mul and div leaves of a board, where it is taken.
use Rattle.std.proofs.Common.{◌≡◌, refl, ap, sym, ◌∙◌, ℕ, Bool, true, false, eqb, List, Option, Some, None, option_map, option_and_then, unwrap_or, codes, Ok, Err, arith}
use Rattle.std.proofs.lemmas.Bool.{eq-eqb}
use Rattle.qo_model.proofs.Common.{bytes_eq, Val, E46, Clock, Board, Record, Slot, plain, kind_of, record_of, slot_named, slots_at, changed_at, set, with_changed, with_val, clock_scaled, clock_written, div_of, index_from, is_named, mul_of, number_at, number_in, plain_in, edited, set_named}
use Rattle.qo_values.specs.declared.properties.Val.TheVariants as val
use Rattle.qo_model.proofs.ClockFitLemmas.{IsWritten}
use Rattle.qo_model.proofs.ClockScopeLemmas.{clock_scaled-stays}
use Rattle.qo_model.proofs.FirstSlotLemmas.{first-changed, Found, found-at, named-other, named_in, none-found, other-name, slots_in}
use Rattle.qo_model.proofs.StepLemmas.{found-birth, found-edited}
use Rattle.qo_sound_bounds.proofs.ClockWriteLemmas.{set-source, Written, written-acts, written-none, written-numbers}
use Rattle.qo_sound_clocks.proofs.DependenceLemmas.{acted-slots}
use Rattle.qo_sound_clocks.proofs.StepsLemmas.{calls-kept, kept-scaled, kept-written}
use Rattle.qo_sound_clocks.proofs.WriteLemmas.{IsSetAt, number-at, set-at}
use Rattle.qo_sound_devices.proofs.PlacesLemmas.{kind-alike}
use Rattle.qo_sound_shapes.proofs.FactLemmas.{shapes_say_lem}
use Rattle.qo_good.specs.GoodBoards.{IsWhole}
use Rattle.qo_rebuilt.proofs.WrittenLemmas.{IsRewritten}

-- ---- a value that is set is read

slots-set : (n i : ℕ) (v : Val) (b : Board) → slots_at (set n i v b) n ≡ changed_at (with_val v) i (slots_at b n)
unfolding set
slots-set n i v b =
    ap slots_in (found-edited n (with_changed (with_val v) i) (λ r. refl) n b.records) ∙ go (record_of b n) refl
  where
    go : (o : Option Record) → record_of b n ≡ o → slots_in (option_map (edited n (with_changed (with_val v) i)) o) ≡ changed_at (with_val v) i (slots_in o)
    go None e = refl
    go (Some r) e = let own : eqb r.birth n ≡ true = eq-eqb r.birth n (found-birth n b.records r e) in rw (edited, own) refl

set-read : (n : ℕ) (name : List ℕ) (v w : Val) (b : Board) → slot_named b n name ≡ Some (plain w) → slot_named (set_named n name v b) n name ≡ Some (plain v)
set-read n name v w b at = go (index_from (is_named name) 0 (slots_at b n)) refl
  where
    go : (o : Option ℕ) → index_from (is_named name) 0 (slots_at b n) ≡ o → slot_named (set_named n name v b) n name ≡ Some (plain v)
    go None e = absurd (let clash : None ≡ Some (plain w) = sym (none-found name (slots_at b n) 0 e) ∙ at in cc)
    go (Some i) e =
        rw (set_named, e)
        (ap (named_in name) (slots-set n i v b) ∙ first-changed (with_val v) name (slots_at b n) 0 i i e (omega arith) ∙ ap (option_map (with_val v)) at)

set-other : (n : ℕ) (name other : List ℕ) (v : Val) (b : Board) → bytes_eq name other ≡ false
    → slot_named (set_named n name v b) n other ≡ slot_named b n other
set-other n name other v b apart = go (index_from (is_named name) 0 (slots_at b n)) refl
  where
    go : (o : Option ℕ) → index_from (is_named name) 0 (slots_at b n) ≡ o → slot_named (set_named n name v b) n other ≡ slot_named b n other
    go None e = rw (set_named, e) refl
    go (Some i) e =
        let f : Found (is_named name) (slots_at b n) i = found-at (is_named name) i (slots_at b n) e in
        rw (set_named, e)
        (ap (named_in other) (slots-set n i v b)
        ∙ named-other (with_val v) other i (slots_at b n) f.entry f.at (other-name name other apart f.entry f.passes))

-- ---- the numbers of a clock are set

abbrev number_in_slot : ℕ → Option Slot → ℕ
number_in_slot first o = unwrap_or (option_and_then number_in (option_and_then plain_in o)) first

module _ (b : Board) (k mul div : ℕ) where
  abbrev mid : Board
  mid = set_named k (codes "mul") (val.Uint mul) b

  -- the board with the numbers set
  abbrev pub new : Board
  new = set_named k (codes "div") (val.Uint div) (set_named k (codes "mul") (val.Uint mul) b)

  first_set : IsSetAt k (codes "mul") (val.Uint mul) b (set_named k (codes "mul") (val.Uint mul) b)
  first_set = set-at k (codes "mul") (val.Uint mul) b

  second_set : IsSetAt k (codes "div") (val.Uint div) (set_named k (codes "mul") (val.Uint mul) b)
      (set_named k (codes "div") (val.Uint div) (set_named k (codes "mul") (val.Uint mul) b))
  second_set = set-at k (codes "div") (val.Uint div) (set_named k (codes "mul") (val.Uint mul) b)

  number-apart : (name : List ℕ) (x : ℕ) → eqb x k ≡ false → number_at new x name ≡ number_at b x name
  number-apart name x p =
      number-at k (codes "div") (val.Uint div) mid new second_set name x p ∙ number-at k (codes "mul") (val.Uint mul) b mid first_set name x p

  pub set-written : IsWritten b (set_named k (codes "div") (val.Uint div) (set_named k (codes "mul") (val.Uint mul) b)) k
  set-written =
      record {
        births = second_set.births ∙ first_set.births;
        sources = λ x. set-source k (codes "div") (val.Uint div) mid x ∙ set-source k (codes "mul") (val.Uint mul) b x;
        mul = λ x p. ap (λ (o : Option ℕ). unwrap_or o 1) (number-apart (codes "mul") x p);
        div = λ x p. ap (λ (o : Option ℕ). unwrap_or o 1) (number-apart (codes "div") x p);
        own = λ x p. ap (λ (o : Option ℕ). unwrap_or o 0) (number-apart (codes "period") x p);
      }

  module _ (h : IsWhole b) (clock : kind_of b k ≡ Some Clock) where
    pub new-div : div_of (set_named k (codes "div") (val.Uint div) (set_named k (codes "mul") (val.Uint mul) b)) k ≡ div
    new-div =
        let (old, slot) = (shapes_say_lem.clock b h.order.shape k clock).1.1.0 in
        ap (number_in_slot 1)
        (set-read k (codes "div") (val.Uint div) (val.Uint old) mid (set-other k (codes "mul") (codes "div") (val.Uint mul) b refl ∙ slot))

    pub new-mul : mul_of (set_named k (codes "div") (val.Uint div) (set_named k (codes "mul") (val.Uint mul) b)) k ≡ mul
    new-mul =
        let (old, slot) = (shapes_say_lem.clock b h.order.shape k clock).1.0 in
        ap (number_in_slot 1)
        (set-other k (codes "div") (codes "mul") (val.Uint div) mid refl ∙ set-read k (codes "mul") (val.Uint mul) (val.Uint old) b slot)

  -- ---- and what is told of it, where the write is taken

  module _ (d : Board) (taken : clock_scaled b k mul div ≡ Ok d) where
    written : clock_written b (set_named k (codes "div") (val.Uint div) (set_named k (codes "mul") (val.Uint mul) b)) k ≡ Ok d
    written = go (eqb div 0) refl
      where
        go : (t : Bool) → eqb div 0 ≡ t → clock_written b (set_named k (codes "div") (val.Uint div) (set_named k (codes "mul") (val.Uint mul) b)) k ≡ Ok d
        go true p = absurd (let clash : Err E46 ≡ Ok d = rw (clock_scaled, p) at taken in cc)
        go false p = rw (clock_scaled, p) at taken

    slots-new : (x : ℕ) → slots_at d x ≡ slots_at (set_named k (codes "div") (val.Uint div) (set_named k (codes "mul") (val.Uint mul) b)) x
    slots-new =
        kept-written (λ (z : Board). (x : ℕ) → slots_at z x ≡ slots_at new x)
        (calls-kept (λ (z : Board). (x : ℕ) → slots_at z x ≡ slots_at new x) (λ act n p z h x. acted-slots act n p z x ∙ h x)) b new d k (λ x. refl) written

    -- other objects have the same slots
    pub slots-other : (x : ℕ) → eqb x k ≡ false → slots_at d x ≡ slots_at b x
    slots-other x p = slots-new x ∙ second_set.apart x p ∙ first_set.apart x p

    shape : Written b d
    shape = kept-scaled (Written b) (calls-kept (Written b) (written-acts b)) (written-numbers b) b d k mul div taken (written-none b)

    pub scaled-rewritten : IsRewritten b d
    scaled-rewritten =
        record {
          kinds = λ n. kind-alike b d n (shape.dims.dimmed.body n);
          children = shape.dims.dimmed.children;
          pending = (clock_scaled-stays b d k mul div taken).pending;
        }

    -- and its numbers are those that were written
    module _ (h : IsWhole b) (clock : kind_of b k ≡ Some Clock) where
      pub div-written : div_of d k ≡ div
      div-written = ap (λ (xs : List (List ℕ × Slot)). number_in_slot 1 (named_in (codes "div") xs)) (slots-new k) ∙ new-div h clock

      pub mul-written : mul_of d k ≡ mul
      mul-written = ap (λ (xs : List (List ℕ × Slot)). number_in_slot 1 (named_in (codes "mul") xs)) (slots-new k) ∙ new-mul h clock
