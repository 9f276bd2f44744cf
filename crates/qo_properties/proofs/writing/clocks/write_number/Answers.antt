-- The number that stays is read before, and what the clocks answer is told by its code.
use Rattle.qo_values.specs.declared.codes.Code.TheVariants.{E18}
use Rattle.qo_model.specs.ClockProperties.{number_written}
use Rattle.std.proofs.Common.{rules, Err, ◌≡◌, refl, ap, sym, subst, ◌∙◌, ℕ, Result}
use Rattle.qo_values.specs.declared.codes.Code.{Code}
use Rattle.qo_model.specs.Board.{Board}
use Rattle.qo_model.specs.ClockChanges.{clock_scaled, clock_set}
use Rattle.qo_model.specs.Clocks.{div_of, mul_of}
use Rattle.qo_clocks.specs.Writes.{Answers, with_period, with_scale}
use Rattle.qo_clocks.proofs.ReadLemmas.{shows-div, shows-mul}
use Rattle.qo_properties.proofs.ActsKept.{clock-claims, clock-counts, period-kept, scale-kept}
use Rattle.qo_properties.proofs.ClockLemmas.{same-clocks, clock-pins, clock-writes, period-pins, scale-pins}
use Rattle.qo_properties.proofs.writing.clocks.write_number.Goals as goal

pub returns-in-Period-clause-written : goal.returns-in-Period-clause-written
returns-in-Period-clause-written g c = λ b s clocked.
    rw (c.in-Period.is, c.refused_as.ensures)
    (clock-writes c.set.new.heap c.set.result (clock_set b c.args.c.birth c.args.number) (c.set.ensures.answer b s clocked))

pub returns-in_default : goal.returns-in_default
returns-in_default g c =
    let none : (b : Board) → number_written b c.args.c.birth c.args.name c.args.number ≡ Err E18 = search rules in
    record {
      written = λ b s clocked. none b;
      err = refl;
      pins = refl;
      book = λ out h. h;
      claims = λ n k e. e;
      counts = λ n k e. e;
      clocks = same-clocks c.args.heap.now;
    }

pub returns-in-Period-clause-pins : goal.returns-in-Period-clause-pins
returns-in-Period-clause-pins g c =
    clock-pins c.args.heap.now c.set.new.heap (with_period c.args.c.birth c.args.number c.args.heap.now) c.set.result
    (period-pins c.args.heap.now c.args.c.birth c.args.number) c.set.ensures.acts c.set.ensures.err

pub returns-in-Mul-clause-written : goal.returns-in-Mul-clause-written
returns-in-Mul-clause-written g c = λ b s fit.
    let n = c.args.c.birth in
    let same : clock_scaled b n c.args.number c.div-div.result ≡ clock_scaled b n c.args.number (div_of b n) =
    ap (clock_scaled b n c.args.number) (c.div-div.ensures ∙ sym (shows-div b c.args.heap.now s n)) in
    rw (c.in-Mul.is, c.refused_as-in-Mul.ensures)
    (clock-writes c.set_mul_div.new.heap c.set_mul_div.result (clock_scaled b n c.args.number (div_of b n))
    (subst (λ (x : Result Board Code). Answers c.set_mul_div.new.heap c.set_mul_div.result x) same (c.set_mul_div.ensures.answer b s fit)))

pub returns-in-Mul-clause-pins : goal.returns-in-Mul-clause-pins
returns-in-Mul-clause-pins g c =
    clock-pins c.args.heap.now c.set_mul_div.new.heap (with_scale c.args.c.birth c.args.number c.div-div.result c.args.heap.now) c.set_mul_div.result
    (scale-pins c.args.heap.now c.args.c.birth c.args.number c.div-div.result) c.set_mul_div.ensures.acts c.set_mul_div.ensures.err

pub returns-in-Div-clause-written : goal.returns-in-Div-clause-written
returns-in-Div-clause-written g c = λ b s fit.
    let n = c.args.c.birth in
    let same : clock_scaled b n c.mul-mul.result c.args.number ≡ clock_scaled b n (mul_of b n) c.args.number =
    ap (λ (mul : ℕ). clock_scaled b n mul c.args.number) (c.mul-mul.ensures ∙ sym (shows-mul b c.args.heap.now s n)) in
    rw (c.in-Div.is, c.refused_as-in-Div.ensures)
    (clock-writes c.set_mul_div-in-Div.new.heap c.set_mul_div-in-Div.result (clock_scaled b n (mul_of b n) c.args.number)
    (subst (λ (x : Result Board Code). Answers c.set_mul_div-in-Div.new.heap c.set_mul_div-in-Div.result x) same (c.set_mul_div-in-Div.ensures.answer b s fit)))

pub returns-in-Div-clause-pins : goal.returns-in-Div-clause-pins
returns-in-Div-clause-pins g c =
    clock-pins c.args.heap.now c.set_mul_div-in-Div.new.heap (with_scale c.args.c.birth c.mul-mul.result c.args.number c.args.heap.now)
    c.set_mul_div-in-Div.result (scale-pins c.args.heap.now c.args.c.birth c.mul-mul.result c.args.number) c.set_mul_div-in-Div.ensures.acts
    c.set_mul_div-in-Div.ensures.err

pub returns-in-Period-clause-claims : goal.returns-in-Period-clause-claims
returns-in-Period-clause-claims g c =
    clock-claims c.args.heap.now c.set.new.heap (with_period c.args.c.birth c.args.number c.args.heap.now) c.set.result
    (period-kept c.args.heap.now c.args.c.birth c.args.number) c.set.ensures.acts c.set.ensures.err

pub returns-in-Period-clause-counts : goal.returns-in-Period-clause-counts
returns-in-Period-clause-counts g c =
    clock-counts c.args.heap.now c.set.new.heap (with_period c.args.c.birth c.args.number c.args.heap.now) c.set.result
    (period-kept c.args.heap.now c.args.c.birth c.args.number) c.set.ensures.counts c.set.ensures.err

pub returns-in-Period-clause-clocks : goal.returns-in-Period-clause-clocks
returns-in-Period-clause-clocks g c = c.set.ensures.fits

pub returns-in-Mul-clause-claims : goal.returns-in-Mul-clause-claims
returns-in-Mul-clause-claims g c =
    clock-claims c.args.heap.now c.set_mul_div.new.heap (with_scale c.args.c.birth c.args.number c.div-div.result c.args.heap.now) c.set_mul_div.result
    (scale-kept c.args.heap.now c.args.c.birth c.args.number c.div-div.result) c.set_mul_div.ensures.acts c.set_mul_div.ensures.err

pub returns-in-Mul-clause-counts : goal.returns-in-Mul-clause-counts
returns-in-Mul-clause-counts g c =
    clock-counts c.args.heap.now c.set_mul_div.new.heap (with_scale c.args.c.birth c.args.number c.div-div.result c.args.heap.now) c.set_mul_div.result
    (scale-kept c.args.heap.now c.args.c.birth c.args.number c.div-div.result) c.set_mul_div.ensures.counts c.set_mul_div.ensures.err

pub returns-in-Mul-clause-clocks : goal.returns-in-Mul-clause-clocks
returns-in-Mul-clause-clocks g c = c.set_mul_div.ensures.fits

pub returns-in-Div-clause-claims : goal.returns-in-Div-clause-claims
returns-in-Div-clause-claims g c =
    clock-claims c.args.heap.now c.set_mul_div-in-Div.new.heap (with_scale c.args.c.birth c.mul-mul.result c.args.number c.args.heap.now) c.set_mul_div-in-Div.result
    (scale-kept c.args.heap.now c.args.c.birth c.mul-mul.result c.args.number) c.set_mul_div-in-Div.ensures.acts c.set_mul_div-in-Div.ensures.err

pub returns-in-Div-clause-counts : goal.returns-in-Div-clause-counts
returns-in-Div-clause-counts g c =
    clock-counts c.args.heap.now c.set_mul_div-in-Div.new.heap (with_scale c.args.c.birth c.mul-mul.result c.args.number c.args.heap.now) c.set_mul_div-in-Div.result
    (scale-kept c.args.heap.now c.args.c.birth c.mul-mul.result c.args.number) c.set_mul_div-in-Div.ensures.counts c.set_mul_div-in-Div.ensures.err

pub returns-in-Div-clause-clocks : goal.returns-in-Div-clause-clocks
returns-in-Div-clause-clocks g c = c.set_mul_div-in-Div.ensures.fits
