-- Where a write of a clock is not refused, all periods fit afterwards.
use Rattle.std.proofs.Common.{◌≡◌, refl, ap, subst, sym, ◌∙◌, ℕ, suc, ◌^◌, ◌<◌, length, Some, None}
use Rattle.qo_model.specs.Board.{Board}
use Rattle.qo_model.specs.Clocks.{ClocksFit, child_period, div_of, mul_of, own_period, period, scaled_by, source_of}
use Rattle.qo_model.specs.Depth.{by_depth}
use Rattle.qo_model.specs.Paths.{births}
use Rattle.qo_object.specs.BoardObject.{birth_of}
use Rattle.qo_heap.specs.Acts.{Acts}
use Rattle.qo_heap.specs.Board.{Shows}
use Rattle.qo_heap.specs.Objects.{Objects}
use Rattle.qo_heap.proofs.ActsReads.{acts-slots}
use Rattle.qo_heap.proofs.BoardReads.{shows-births}
use Rattle.qo_clocks.specs.Reads.{div_on, mul_on, own_on, source_on}
use Rattle.qo_clocks.proofs.ReadLemmas.{shows-div, shows-mul, shows-own, shows-source}
use Rattle.qo_clocks.proofs.SpreadLemmas.{acts-births}

-- acts leave the periods

pub fits-acts : (b x : Board) (v y : Objects) → Shows b v → Shows x y → Acts v y → ClocksFit b → ClocksFit x
unfolding period
fits-acts b x v y s t acts fit =
    record { fits = λ n. subst (λ (k : ℕ). k < 2 ^ 64) (sym (child n)) (fit.fits n); divides = λ n z. fit.divides n (sym (divs n) ∙ z) }
  where
    sources : (n : ℕ) → source_of x n ≡ source_of b n
    sources n =
        let same : source_on y n ≡ source_on v n = rw (acts-slots v y acts n) refl in
        shows-source x y t n ∙ ap birth_of same ∙ sym (shows-source b v s n)

    owns : (n : ℕ) → own_period x n ≡ own_period b n
    owns n = let same : own_on y n ≡ own_on v n = rw (acts-slots v y acts n) refl in shows-own x y t n ∙ same ∙ sym (shows-own b v s n)

    muls : (n : ℕ) → mul_of x n ≡ mul_of b n
    muls n = let same : mul_on y n ≡ mul_on v n = rw (acts-slots v y acts n) refl in shows-mul x y t n ∙ same ∙ sym (shows-mul b v s n)

    divs : (n : ℕ) → div_of x n ≡ div_of b n
    divs n = let same : div_on y n ≡ div_on v n = rw (acts-slots v y acts n) refl in shows-div x y t n ∙ same ∙ sym (shows-div b v s n)

    all : births x ≡ births b
    all = shows-births x y t ∙ acts-births v y acts ∙ sym (shows-births b v s)

    child : (n : ℕ) → child_period x n ≡ child_period b n
    child n = λ j.
        scaled_by (muls n j) (divs n j)
        (by_depth (λ (f : ℕ → ℕ) (m : ℕ). elim (sources m j) as (λ _. ℕ) [ None ↦ owns m j | Some k ↦ scaled_by (muls k j) (divs k j) (f k) ])
        (λ _. 0) (suc (length (all j))) n)
