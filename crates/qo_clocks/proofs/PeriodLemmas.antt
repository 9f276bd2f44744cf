-- Scaled periods on the heap are those of the boards that it shows, where all fit in 64 bits.
use Rattle.std.proofs.Common.{◌≡◌, refl, ap, ap₂, sym, ◌∙◌, ℕ, ◌-◌, ◌^◌, ◌<◌, ◌≤◌, min, Bool, true, false, cond, nat_le, unwrap_or, Option, Some, None, arith}
use Rattle.std.specs.Option.{option_map_or}
use Rattle.std.proofs.lemmas.Bool.Decides.{nat_tests}
use Rattle.qo_slots.specs.declared.keys.Key.{Key}
use Rattle.qo_model.specs.Board.{Board}
use Rattle.qo_model.specs.Clocks.{ClocksFit, child_period, device_period, period, scaled, scaled_by}
use Rattle.qo_object.specs.BoardObject.{birth_of}
use Rattle.qo_heap.specs.Board.{Shows}
use Rattle.qo_heap.specs.Objects.{Objects}
use Rattle.qo_clocks.specs.Periods.{fitting, scaled_on, wide_on}
use Rattle.qo_clocks.specs.Reads.{clock_on}
use Rattle.qo_clocks.proofs.ReadLemmas.{shows-clock, shows-div, shows-mul}

-- what fits, or else the greatest number

pub fitting-cut : (n : ℕ) → unwrap_or (fitting n) (2 ^ 64 - 1) ≡ min n (2 ^ 64 - 1)
fitting-cut n = go (nat_le (2 ^ 64) n) refl
  where
    go : (t : Bool) → nat_le (2 ^ 64) n ≡ t → unwrap_or (cond t None (Some n)) (2 ^ 64 - 1) ≡ min n (2 ^ 64 - 1)
    go true e = let high : 2 ^ 64 ≤ n = grind (arith, nat_tests, e) in omega arith
    go false e = let low : n < 2 ^ 64 = grind (arith, nat_tests, e) in omega arith

-- a period as it is scaled

pub cut-low : (n m : ℕ) → n ≡ m → m < 2 ^ 64 → min n (2 ^ 64 - 1) ≡ m
cut-low n m same low = omega arith

pub shows-wide : (b : Board) (v : Objects) → Shows b v → (n p : ℕ) → wide_on v n p ≡ scaled b n p
shows-wide b v s n p = ap₂ (λ (mul div : ℕ). scaled_by mul div p) (sym (shows-mul b v s n)) (sym (shows-div b v s n))

pub child-before : (b : Board) (v : Objects) → Shows b v → ClocksFit b → (c p : ℕ) → p ≡ period b c → scaled_on v c p ≡ child_period b c
child-before b v s fit c p e = cut-low (wide_on v c p) (child_period b c) (shows-wide b v s c p ∙ ap (scaled b c) e) (fit.fits c)

-- the clock of a device

pub device-none : (b : Board) (v : Objects) → Shows b v → (n : ℕ) → clock_on v n ≡ None → 0 ≡ device_period b n
device-none b v s n e = sym (ap (λ (o : Option ℕ). option_map_or (period b) o 0) (shows-clock b v s n ∙ ap birth_of e))

pub device-some : (b : Board) (v : Objects) → Shows b v → (n : ℕ) (key : Key) → clock_on v n ≡ Some key → period b key.birth ≡ device_period b n
device-some b v s n key e = sym (ap (λ (o : Option ℕ). option_map_or (period b) o 0) (shows-clock b v s n ∙ ap birth_of e))
