use Rattle.std.proofs.Common.{◌≡◌, ◌∙◌, ap, codes}
use Rattle.qo_values.specs.declared.properties.Val.TheVariants as val
use Rattle.qo_object.specs.Slots.{with_val}
use Rattle.qo_heap.specs.Objects.{Objects}
use Rattle.qo_clocks.specs.Kept.{kept_afresh}
use Rattle.qo_clocks.specs.Links.{changed_named, unseen_on}
use Rattle.qo_clocks.proofs.KeptLinks.{disconnect-counts, disconnect-kept, disconnect-shown}
use Rattle.qo_clocks.proofs.LinkLemmas.{live-changed}
use Rattle.qo_clocks.proofs.links.disconnect.Goals as goal

pub set_number-requires : goal.set_number-requires
set_number-requires g c = rw c.unlink.ensures (live-changed c.args.c.birth (codes "source") unseen_on c.args.heap.now c.args.c c.requires)

pub keep_afresh-requires : goal.keep_afresh-requires
keep_afresh-requires g c =
    rw (c.set_number.ensures, c.unlink.ensures)
    (live-changed c.args.c.birth (codes "period") (with_val (val.Uint 0)) (changed_named c.args.c.birth (codes "source") unseen_on c.args.heap.now) c.args.c
    (live-changed c.args.c.birth (codes "source") unseen_on c.args.heap.now c.args.c c.requires))

now : (g : _) (c : goal.After-keep_afresh g)
    → c.keep_afresh.new.heap
    ≡ kept_afresh c.args.c.birth
    (changed_named c.args.c.birth (codes "period") (with_val (val.Uint 0)) (changed_named c.args.c.birth (codes "source") unseen_on c.args.heap.now))
now g c =
    c.keep_afresh.ensures
    ∙ ap (kept_afresh c.args.c.birth)
    (c.set_number.ensures ∙ ap (λ (y : Objects). changed_named c.args.c.birth (codes "period") (with_val (val.Uint 0)) y) c.unlink.ensures)

pub returns-clause-shown : goal.returns-clause-shown
returns-clause-shown g c = λ b. disconnect-shown c.args.heap.now c.args.c.birth b c.keep_afresh.new.heap (now g c)

pub returns-clause-counts : goal.returns-clause-counts
returns-clause-counts g c = disconnect-counts c.args.heap.now c.args.c.birth c.keep_afresh.new.heap (now g c)

pub returns-clause-kept : goal.returns-clause-kept
returns-clause-kept g c = disconnect-kept c.args.heap.now c.args.c.birth c.keep_afresh.new.heap (now g c)
