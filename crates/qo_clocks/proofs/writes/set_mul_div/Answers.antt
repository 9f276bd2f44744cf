use Rattle.std.proofs.Common.{◌≡◌, refl, ◌∙◌, ◌+◌, ℕ, Some, ap, sym, codes}
use Rattle.qo_values.specs.declared.properties.Val.TheVariants as val
use Rattle.qo_model.specs.Clocks.{scaled_by}
use Rattle.qo_object.specs.Slots.{with_val}
use Rattle.qo_heap.specs.Acts.{Acts}
use Rattle.qo_heap.proofs.ActsLemmas.{acts-none}
use Rattle.qo_clocks.specs.Periods.{fitting}
use Rattle.qo_clocks.specs.Writes.{all_fit, with_scale, written_on}
use Rattle.qo_clocks.proofs.AnswerLemmas.{all-acts, all-counts, all-now, all-timely, fits-scaled, kept-live, kept-timely, scale-clocked, scale-done, scale-over, scaled-heap}
use Rattle.qo_clocks.proofs.KeptBoards.{clocked-acts, clocked-read}
use Rattle.qo_clocks.proofs.ScopeLemmas.{scale-book, scale-live, scale-names, scale-timely}
use Rattle.qo_clocks.proofs.LinkLemmas.{live-changed}
use Rattle.qo_clocks.proofs.writes.set_mul_div.Goals as goal

pub returns-in_default-clause-answer : goal.returns-in_default-clause-answer
returns-in_default-clause-answer g c = λ b s k.
    scale-over b c.args.heap.now c.args.heap.now s c.args.c.birth k c.args.mul c.args.div c.side-side.result.period (c.live-levels.result + 1)
    c.if-div-eq0.false (ap (λ (k : ℕ). k + 1) c.live-levels.ensures)
    (clocked-read b c.args.heap.now s k c.args.c.birth c.side-side.result c.side-side.ensures.side).0
    (sym c.in_default.is ∙ c.all_fit.ensures
    ∙ fits-scaled c.args.heap.now (c.live-levels.result + 1) c.args.c.birth c.side-side.result.period c.args.mul c.args.div c.args.mul c.args.div
    c.written-mul_after.result c.written.result c.fitting-child.result refl refl c.written-mul_after.ensures c.written.ensures c.fitting-child.ensures)

pub set_number-requires-2 : goal.set_number-requires-2
set_number-requires-2 g c =
    rw c.set_number.ensures
    (live-changed c.args.c.birth (codes "mul") (with_val (val.Uint c.args.mul)) c.args.heap.now c.args.c c.requires.live)

pub keep-requires : goal.keep-requires
keep-requires g c =
    rw
    (scaled-heap c.args.heap.now c.set_number.new.heap c.set_number-2.new.heap c.args.c.birth c.args.mul c.args.div c.args.mul c.args.div c.set_number.ensures
    c.set_number-2.ensures refl refl)
    (scale-live c.args.heap.now c.args.c.birth c.args.mul c.args.div c.args.c c.requires.live)

pub spread-requires-clause-live : goal.spread-requires-clause-live
spread-requires-clause-live g c =
    kept-live (with_scale c.args.c.birth c.args.mul c.args.div c.args.heap.now) c.set_number-2.new.heap c.keep.new.heap c.args.c.birth c.side-side.result.period c.in-Some.after
    (scaled-heap c.args.heap.now c.set_number.new.heap c.set_number-2.new.heap c.args.c.birth c.args.mul c.args.div c.args.mul c.args.div c.set_number.ensures
    c.set_number-2.ensures refl refl)
    c.keep.ensures c.args.c (scale-live c.args.heap.now c.args.c.birth c.args.mul c.args.div c.args.c c.requires.live)

pub spread-requires-clause-timely : goal.spread-requires-clause-timely
spread-requires-clause-timely g c =
    kept-timely (with_scale c.args.c.birth c.args.mul c.args.div c.args.heap.now) c.set_number-2.new.heap c.keep.new.heap c.args.c.birth c.side-side.result.period c.in-Some.after
    (scaled-heap c.args.heap.now c.set_number.new.heap c.set_number-2.new.heap c.args.c.birth c.args.mul c.args.div c.args.mul c.args.div c.set_number.ensures
    c.set_number-2.ensures refl refl)
    c.keep.ensures (scale-timely c.args.heap.now c.args.c.birth c.args.mul c.args.div c.requires.timely)

-- what was written, and what was decided

written : (g : _) (c : goal.After-spread g) → c.set_number-2.new.heap ≡ with_scale c.args.c.birth c.args.mul c.args.div c.args.heap.now
written g c =
    scaled-heap c.args.heap.now c.set_number.new.heap c.set_number-2.new.heap c.args.c.birth c.args.mul c.args.div c.args.mul c.args.div c.set_number.ensures
    c.set_number-2.ensures refl refl

decided : (g : _) (c : goal.After-spread g)
    → Some c.in-Some.after
    ≡ all_fit c.args.heap.now (c.live-levels.result + 1) c.args.c.birth
    (fitting (scaled_by (written_on c.args.heap.now c.args.c.birth (codes "mul") c.args.mul 1)
    (written_on c.args.heap.now c.args.c.birth (codes "div") c.args.div 1) c.side-side.result.period))
decided g c =
    c.in-Some.ensures
    ∙ fits-scaled c.args.heap.now (c.live-levels.result + 1) c.args.c.birth c.side-side.result.period c.args.mul c.args.div c.args.mul c.args.div
    c.written-mul_after.result c.written.result c.fitting-child.result refl refl c.written-mul_after.ensures c.written.ensures c.fitting-child.ensures

pub returns-clause-answer : goal.returns-clause-answer
returns-clause-answer g c = λ b s k.
    scale-done b c.args.heap.now c.spread.new.heap s c.args.c.birth k c.args.mul c.args.div (c.live-levels.result + 1) c.side-side.result.period
    c.in-Some.after c.side-side.result.child c.if-div-eq0.false (ap (λ (k : ℕ). k + 1) c.live-levels.ensures)
    (clocked-read b c.args.heap.now s k c.args.c.birth c.side-side.result c.side-side.ensures.side).0
    (clocked-read b c.args.heap.now s k c.args.c.birth c.side-side.result c.side-side.ensures.side).1 (decided g c)
    (all-now (with_scale c.args.c.birth c.args.mul c.args.div c.args.heap.now) c.set_number-2.new.heap c.keep.new.heap c.spread.new.heap c.args.c.birth c.side-side.result.period
    c.in-Some.after (c.live-levels.result + 1) c.side-side.result.child (written g c) c.keep.ensures c.spread.ensures)

-- beside the number that is written only bodies act, and what is kept changes

later : (g : _) (c : goal.After-spread g) → Acts (with_scale c.args.c.birth c.args.mul c.args.div c.args.heap.now) c.spread.new.heap
later g c =
    all-acts (with_scale c.args.c.birth c.args.mul c.args.div c.args.heap.now) c.set_number-2.new.heap c.keep.new.heap c.spread.new.heap c.args.c.birth c.side-side.result.period
    c.in-Some.after (c.live-levels.result + 1) c.side-side.result.child (written g c) c.keep.ensures c.spread.ensures

pub returns-clause-acts : goal.returns-clause-acts
returns-clause-acts g c = later g c

pub returns-clause-counts : goal.returns-clause-counts
returns-clause-counts g c =
    all-counts (with_scale c.args.c.birth c.args.mul c.args.div c.args.heap.now) c.set_number-2.new.heap c.keep.new.heap c.spread.new.heap c.args.c.birth c.side-side.result.period
    c.in-Some.after (c.live-levels.result + 1) c.side-side.result.child (written g c) c.keep.ensures c.spread.ensures

pub returns-clause-names : goal.returns-clause-names
returns-clause-names g c = scale-names c.args.heap.now c.spread.new.heap c.args.c.birth c.args.mul c.args.div (later g c)

pub returns-clause-book : goal.returns-clause-book
returns-clause-book g c = scale-book c.args.heap.now c.spread.new.heap c.args.c.birth c.args.mul c.args.div (later g c)

pub returns-clause-timely : goal.returns-clause-timely
returns-clause-timely g c =
    all-timely (with_scale c.args.c.birth c.args.mul c.args.div c.args.heap.now) c.set_number-2.new.heap c.keep.new.heap c.spread.new.heap c.args.c.birth c.side-side.result.period
    c.in-Some.after (c.live-levels.result + 1) c.side-side.result.child (written g c) c.keep.ensures c.spread.ensures
    (scale-timely c.args.heap.now c.args.c.birth c.args.mul c.args.div c.requires.timely)

pub returns-then-div-eq0-clause-fits : goal.returns-then-div-eq0-clause-fits
returns-then-div-eq0-clause-fits g c = λ b s k x t.
    clocked-acts b x c.args.heap.now c.args.heap.now s t (acts-none c.args.heap.now) k.fits k.none_round k.kept

pub returns-in_default-clause-fits : goal.returns-in_default-clause-fits
returns-in_default-clause-fits g c = λ b s k x t.
    clocked-acts b x c.args.heap.now c.args.heap.now s t (acts-none c.args.heap.now) k.fits k.none_round k.kept

pub returns-clause-fits : goal.returns-clause-fits
returns-clause-fits g c = λ b s k.
    scale-clocked b c.args.heap.now c.spread.new.heap s c.args.c.birth k c.args.mul c.args.div (c.live-levels.result + 1) c.side-side.result.period
    c.in-Some.after c.side-side.result.child c.if-div-eq0.false (ap (λ (k : ℕ). k + 1) c.live-levels.ensures)
    (clocked-read b c.args.heap.now s k c.args.c.birth c.side-side.result c.side-side.ensures.side).0
    (clocked-read b c.args.heap.now s k c.args.c.birth c.side-side.result c.side-side.ensures.side).1 (decided g c)
    (all-now (with_scale c.args.c.birth c.args.mul c.args.div c.args.heap.now) c.set_number-2.new.heap c.keep.new.heap c.spread.new.heap c.args.c.birth c.side-side.result.period
    c.in-Some.after (c.live-levels.result + 1) c.side-side.result.child (written g c) c.keep.ensures c.spread.ensures)
    (later g c)
