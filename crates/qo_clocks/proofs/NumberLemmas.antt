-- What the numbers of a clock read once they are written, and what else reads as before.
use Rattle.std.proofs.Common.{◌≡◌, refl, ap, ap₂, sym, ◌∙◌, ℕ, suc, ◌+◌, Bool, true, false, cond, List, length, Option, Some, None, option_map, unwrap_or, codes, arith}
use Rattle.std.specs.Prelude.{option_and_then}
use Rattle.std.specs.Option.{option_map_or}
use Rattle.std.proofs.lemmas.List.{length-map}
use Rattle.qo_values.specs.declared.properties.Val.TheVariants as val
use Rattle.qo_model.specs.Board as board
use Rattle.qo_model.specs.Board.{Board, slot_named}
use Rattle.qo_model.specs.Changes.{with_val}
use Rattle.qo_model.specs.Clocks.{child_period, div_of, mul_of, own_period, period, scaled, scaled_by, source_of, weak_in}
use Rattle.qo_model.specs.Devices.{number_in, plain_in}
use Rattle.qo_model.specs.Paths as paths
use Rattle.qo_model.specs.Unplug.{set_named}
use Rattle.qo_model.proofs.ClockFitLemmas.{IsWritten}
use Rattle.qo_model.proofs.PeriodLemmas.{period-own}
use Rattle.qo_object.specs.declared.slots.Slot.{Slot}
use Rattle.qo_object.specs.declared.slots.Slot.TheVariants.{Plain, Child, Link, Alias}
use Rattle.qo_object.specs.BoardObject.{birth_of, shown_slot}
use Rattle.qo_object.specs.Slots as slots
use Rattle.qo_heap.specs.Board.{Shows}
use Rattle.qo_heap.specs.Objects.{Objects}
use Rattle.qo_heap.proofs.BoardReads.{shows-births, shows-slot_named}
use Rattle.qo_clocks.specs.Links.{changed_named}
use Rattle.qo_clocks.specs.Periods.{wide_on}
use Rattle.qo_clocks.specs.Reads.{slot_on, source_on}
use Rattle.qo_clocks.specs.Writes.{is_plain, with_period, with_scale, written_on}
use Rattle.qo_clocks.proofs.LinkLemmas.{shows-set_named}
use Rattle.qo_clocks.proofs.ReadLemmas.{shows-source}
use Rattle.qo_clocks.proofs.CycleLemmas.{period-kept}
use Rattle.qo_clocks.proofs.SettingLemmas.{births-set, slot-elsewhere, slot-other, slot-own}
use Rattle.qo_clocks.proofs.PeriodLemmas.{shows-wide}

-- a number in a slot, and that in a slot that it is written to

abbrev read : ℕ → Option board.Slot → ℕ
read none o = unwrap_or (option_and_then number_in (option_and_then plain_in o)) none

read-written : (n none : ℕ) (o : Option Slot)
    → read none (option_map (with_val (val.Uint n)) (option_map shown_slot o)) ≡ cond (option_map_or is_plain o false) n none
read-written n none None = refl
read-written n none (Some (Plain v)) = refl
read-written n none (Some (Child k)) = refl
read-written n none (Some (Link ty true target)) = refl
read-written n none (Some (Link ty false target)) = refl
read-written n none (Some (Alias k name)) = refl

written-is : (b : Board) (v : Objects) → Shows b v → (c n none : ℕ) (name : List ℕ) (o : Option board.Slot)
    → o ≡ option_map (with_val (val.Uint n)) (slot_named b c name) → read none o ≡ written_on v c name n none
written-is b v s c n none name o e =
    ap (read none) (e ∙ ap (option_map (with_val (val.Uint n))) (shows-slot_named b v s c name)) ∙ read-written n none (slot_on v c name)

-- as many births as objects
pub full-depth : (b : Board) (v : Objects) → Shows b v → (levels : ℕ) → levels ≡ length v.rows + 1 → levels ≡ suc (length (paths.births b))
full-depth b v s levels e =
    let rows : length (paths.births b) ≡ length v.rows = ap (λ (l : List ℕ). length l) (shows-births b v s) ∙ length-map v.rows (λ row. row.0.birth) in
    omega (arith, rows, e)

pub no-source : (b : Board) (v : Objects) → Shows b v → (c : ℕ) → source_on v c ≡ None → source_of b c ≡ None
no-source b v s c e = shows-source b v s c ∙ ap birth_of e

-- a period is written

module _ (b : Board) (v : Objects) (s : Shows b v) (c p : ℕ) where
  abbrev with_own : Board
  with_own = set_named c (codes "period") (val.Uint p) b

  pub shows-own_written : Shows with_own (with_period c p v)
  shows-own_written = shows-set_named b v s c (codes "period") (val.Uint p)

  own-mul : (n : ℕ) → mul_of with_own n ≡ mul_of b n
  own-mul n = ap (read 1) (slot-other b c (codes "period") (val.Uint p) n (codes "mul") refl)

  pub own-div : (n : ℕ) → div_of with_own n ≡ div_of b n
  own-div n = ap (read 1) (slot-other b c (codes "period") (val.Uint p) n (codes "div") refl)

  pub own-written : IsWritten b with_own c
  own-written =
      record {
        births = births-set b c (codes "period") (val.Uint p);
        sources = λ n. ap (option_and_then weak_in) (slot-other b c (codes "period") (val.Uint p) n (codes "source") refl);
        mul = λ n e. own-mul n;
        div = λ n e. own-div n;
        own = λ n e. ap (read 0) (slot-elsewhere b c (codes "period") (val.Uint p) n (codes "period") e);
      }

  pub own-period : source_of b c ≡ None → period with_own c ≡ written_on v c (codes "period") p 0
  own-period none =
      period-own with_own c (own-written.sources c ∙ none)
      ∙ written-is b v s c p 0 (codes "period") (slot_named with_own c (codes "period")) (slot-own b c (codes "period") (val.Uint p))

  pub own-child : source_of b c ≡ None → wide_on v c (written_on v c (codes "period") p 0) ≡ child_period with_own c
  own-child none =
      let now : period with_own c ≡ written_on v c (codes "period") p 0 = own-period none in
      shows-wide b v s c (written_on v c (codes "period") p 0)
      ∙ ap (scaled b c) (sym now)
      ∙ ap₂ (λ (mul div : ℕ). scaled_by mul div (period with_own c)) (sym (own-mul c)) (sym (own-div c))

-- mul and div are written

module _ (b : Board) (v : Objects) (s : Shows b v) (c m d : ℕ) where
  abbrev with_mul : Board
  with_mul = set_named c (codes "mul") (val.Uint m) b

  abbrev with_both : Board
  with_both = set_named c (codes "div") (val.Uint d) with_mul

  pub shows-both : Shows with_both (with_scale c m d v)
  shows-both =
      shows-set_named with_mul (changed_named c (codes "mul") (slots.with_val (val.Uint m)) v) (shows-set_named b v s c (codes "mul") (val.Uint m)) c
      (codes "div") (val.Uint d)

  both-source : (n : ℕ) → source_of with_both n ≡ source_of b n
  both-source n =
      ap (option_and_then weak_in)
      (slot-other with_mul c (codes "div") (val.Uint d) n (codes "source") refl ∙ slot-other b c (codes "mul") (val.Uint m) n (codes "source") refl)

  both-own : (n : ℕ) → own_period with_both n ≡ own_period b n
  both-own n =
      ap (read 0)
      (slot-other with_mul c (codes "div") (val.Uint d) n (codes "period") refl ∙ slot-other b c (codes "mul") (val.Uint m) n (codes "period") refl)

  pub both-written : IsWritten b with_both c
  both-written =
      record {
        births = births-set with_mul c (codes "div") (val.Uint d) ∙ births-set b c (codes "mul") (val.Uint m);
        sources = both-source;
        mul =
            λ n e.
            ap (read 1)
            (slot-elsewhere with_mul c (codes "div") (val.Uint d) n (codes "mul") e ∙ slot-elsewhere b c (codes "mul") (val.Uint m) n (codes "mul") e);
        div =
            λ n e.
            ap (read 1)
            (slot-elsewhere with_mul c (codes "div") (val.Uint d) n (codes "div") e ∙ slot-elsewhere b c (codes "mul") (val.Uint m) n (codes "div") e);
        own = λ n e. both-own n;
      }

  both-div : div_of with_both c ≡ written_on v c (codes "div") d 1
  both-div =
      written-is b v s c d 1 (codes "div") (slot_named with_both c (codes "div"))
      (slot-own with_mul c (codes "div") (val.Uint d)
      ∙ ap (option_map (with_val (val.Uint d))) (slot-other b c (codes "mul") (val.Uint m) c (codes "div") refl))

  pub both-divides : (d ≡ 0 → ⊥) → div_of with_both c ≡ 0 → ⊥
  both-divides not_zero z = go (option_map_or is_plain (slot_on v c (codes "div")) false) (sym both-div ∙ z)
    where
      go : (t : Bool) → cond t d 1 ≡ 0 → ⊥
      go true e = not_zero e
      go false e = let no : ⊥ = omega arith in no

  pub both-period : (own : ℕ) → own ≡ period b c → own ≡ period with_both c
  both-period own e = e ∙ sym (period-kept b with_both c both-written both-own)

  pub both-child : (own : ℕ) → own ≡ period b c
      → scaled_by (written_on v c (codes "mul") m 1) (written_on v c (codes "div") d 1) own ≡ child_period with_both c
  both-child own e =
      let mul : mul_of with_both c ≡ written_on v c (codes "mul") m 1 =
      written-is b v s c m 1 (codes "mul") (slot_named with_both c (codes "mul"))
      (slot-other with_mul c (codes "div") (val.Uint d) c (codes "mul") refl ∙ slot-own b c (codes "mul") (val.Uint m)) in
      let same : own ≡ period with_both c = both-period own e in
      ap₂ (λ (x y : ℕ). scaled_by x y own) (sym mul) (sym both-div) ∙ ap (scaled with_both c) same
