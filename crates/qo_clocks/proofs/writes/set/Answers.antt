use Rattle.std.proofs.Common.{◌≡◌, ◌∙◌, ◌+◌, ℕ, Some, ap, codes, false, is_some, sym}
use Rattle.qo_values.specs.declared.properties.Val.TheVariants as val
use Rattle.qo_object.specs.Slots.{with_val}
use Rattle.qo_heap.specs.Acts.{Acts}
use Rattle.qo_heap.proofs.ActsLemmas.{acts-none}
use Rattle.qo_clocks.specs.Periods.{fitting, wide_on}
use Rattle.qo_clocks.specs.Reads.{source_on}
use Rattle.qo_clocks.specs.Writes.{all_fit, with_period, written_on}
use Rattle.qo_clocks.proofs.AnswerLemmas.{all-acts, all-counts, all-now, all-timely, kept-live, kept-timely, set-clocked, set-done, set-over, set-sourced}
use Rattle.qo_clocks.proofs.KeptBoards.{clocked-acts, clocked-read}
use Rattle.qo_clocks.proofs.ScopeLemmas.{period-book, period-names, period-timely}
use Rattle.qo_clocks.proofs.LinkLemmas.{live-changed}
use Rattle.qo_clocks.proofs.writes.set.Goals as goal

pub returns-then-is_some-clause-answer : goal.returns-then-is_some-clause-answer
returns-then-is_some-clause-answer g c = λ b s k.
    set-sourced b c.args.heap.now c.args.heap.now s c.args.c.birth c.args.period
    (sym (ap is_some c.source_of.ensures.source) ∙ sym c.is_some.ensures ∙ c.if-is_some.true)

pub returns-in_default-clause-answer : goal.returns-in_default-clause-answer
returns-in_default-clause-answer g c = λ b s k.
    set-over b c.args.heap.now c.args.heap.now s c.args.c.birth k c.args.period (c.live-levels.result + 1)
    (sym (ap is_some c.source_of.ensures.source) ∙ sym c.is_some.ensures ∙ c.if-is_some.false)
    (ap (λ (k : ℕ). k + 1) c.live-levels.ensures)
    (sym c.in_default.is
    ∙ c.all_fit.ensures
    ∙ ap (all_fit c.args.heap.now (c.live-levels.result + 1) c.args.c.birth)
    (c.child_period-child.ensures ∙ ap (λ (k : ℕ). fitting (wide_on c.args.heap.now c.args.c.birth k)) c.written-own.ensures))

pub keep-requires : goal.keep-requires
keep-requires g c =
    rw c.set_number.ensures
    (live-changed c.args.c.birth (codes "period") (with_val (val.Uint c.args.period)) c.args.heap.now c.args.c c.requires.live)

pub spread-requires-clause-live : goal.spread-requires-clause-live
spread-requires-clause-live g c =
    kept-live (with_period c.args.c.birth c.args.period c.args.heap.now) c.set_number.new.heap c.keep.new.heap c.args.c.birth c.written-own.result c.in-Some.after
    c.set_number.ensures c.keep.ensures c.args.c
    (live-changed c.args.c.birth (codes "period") (with_val (val.Uint c.args.period)) c.args.heap.now c.args.c c.requires.live)

pub spread-requires-clause-timely : goal.spread-requires-clause-timely
spread-requires-clause-timely g c =
    kept-timely (with_period c.args.c.birth c.args.period c.args.heap.now) c.set_number.new.heap c.keep.new.heap c.args.c.birth c.written-own.result
    c.in-Some.after c.set_number.ensures c.keep.ensures (period-timely c.args.heap.now c.args.c.birth c.args.period c.requires.timely)

-- what was decided

none : (g : _) (c : goal.After-spread g) → is_some (source_on c.args.heap.now c.args.c.birth) ≡ false
none g c = sym (ap is_some c.source_of.ensures.source) ∙ sym c.is_some.ensures ∙ c.if-is_some.false

decided : (g : _) (c : goal.After-spread g)
    → Some c.in-Some.after
    ≡ all_fit c.args.heap.now (c.live-levels.result + 1) c.args.c.birth
    (fitting (wide_on c.args.heap.now c.args.c.birth (written_on c.args.heap.now c.args.c.birth (codes "period") c.args.period 0)))
decided g c =
    c.in-Some.ensures
    ∙ ap (all_fit c.args.heap.now (c.live-levels.result + 1) c.args.c.birth)
    (c.child_period-child.ensures ∙ ap (λ (k : ℕ). fitting (wide_on c.args.heap.now c.args.c.birth k)) c.written-own.ensures)

pub returns-clause-answer : goal.returns-clause-answer
returns-clause-answer g c = λ b s k.
    set-done b c.args.heap.now c.spread.new.heap s c.args.c.birth k c.args.period (c.live-levels.result + 1) c.written-own.result c.in-Some.after
    c.side-side.result.child (none g c) (ap (λ (k : ℕ). k + 1) c.live-levels.ensures) c.written-own.ensures
    (clocked-read b c.args.heap.now s k c.args.c.birth c.side-side.result c.side-side.ensures.side).1 (decided g c)
    (all-now (with_period c.args.c.birth c.args.period c.args.heap.now) c.set_number.new.heap c.keep.new.heap c.spread.new.heap c.args.c.birth
    c.written-own.result c.in-Some.after (c.live-levels.result + 1) c.side-side.result.child c.set_number.ensures c.keep.ensures c.spread.ensures)

-- beside the number that is written only bodies act, and what is kept changes

later : (g : _) (c : goal.After-spread g) → Acts (with_period c.args.c.birth c.args.period c.args.heap.now) c.spread.new.heap
later g c =
    all-acts (with_period c.args.c.birth c.args.period c.args.heap.now) c.set_number.new.heap c.keep.new.heap c.spread.new.heap c.args.c.birth
    c.written-own.result c.in-Some.after (c.live-levels.result + 1) c.side-side.result.child c.set_number.ensures c.keep.ensures c.spread.ensures

pub returns-clause-acts : goal.returns-clause-acts
returns-clause-acts g c = later g c

pub returns-clause-counts : goal.returns-clause-counts
returns-clause-counts g c =
    all-counts (with_period c.args.c.birth c.args.period c.args.heap.now) c.set_number.new.heap c.keep.new.heap c.spread.new.heap c.args.c.birth
    c.written-own.result c.in-Some.after (c.live-levels.result + 1) c.side-side.result.child c.set_number.ensures c.keep.ensures c.spread.ensures

pub returns-clause-names : goal.returns-clause-names
returns-clause-names g c = period-names c.args.heap.now c.spread.new.heap c.args.c.birth c.args.period (later g c)

pub returns-clause-book : goal.returns-clause-book
returns-clause-book g c = period-book c.args.heap.now c.spread.new.heap c.args.c.birth c.args.period (later g c)

pub returns-clause-timely : goal.returns-clause-timely
returns-clause-timely g c =
    all-timely (with_period c.args.c.birth c.args.period c.args.heap.now) c.set_number.new.heap c.keep.new.heap c.spread.new.heap c.args.c.birth
    c.written-own.result c.in-Some.after (c.live-levels.result + 1) c.side-side.result.child c.set_number.ensures c.keep.ensures c.spread.ensures
    (period-timely c.args.heap.now c.args.c.birth c.args.period c.requires.timely)

pub returns-then-is_some-clause-fits : goal.returns-then-is_some-clause-fits
returns-then-is_some-clause-fits g c = λ b s k x t.
    clocked-acts b x c.args.heap.now c.args.heap.now s t (acts-none c.args.heap.now) k.fits k.none_round k.kept

pub returns-in_default-clause-fits : goal.returns-in_default-clause-fits
returns-in_default-clause-fits g c = λ b s k x t.
    clocked-acts b x c.args.heap.now c.args.heap.now s t (acts-none c.args.heap.now) k.fits k.none_round k.kept

pub returns-clause-fits : goal.returns-clause-fits
returns-clause-fits g c = λ b s k.
    set-clocked b c.args.heap.now c.spread.new.heap s c.args.c.birth k c.args.period (c.live-levels.result + 1) c.written-own.result c.in-Some.after
    c.side-side.result.child (none g c) (ap (λ (k : ℕ). k + 1) c.live-levels.ensures) c.written-own.ensures
    (clocked-read b c.args.heap.now s k c.args.c.birth c.side-side.result c.side-side.ensures.side).1 (decided g c)
    (all-now (with_period c.args.c.birth c.args.period c.args.heap.now) c.set_number.new.heap c.keep.new.heap c.spread.new.heap c.args.c.birth
    c.written-own.result c.in-Some.after (c.live-levels.result + 1) c.side-side.result.child c.set_number.ensures c.keep.ensures c.spread.ensures)
    (later g c)
