use Rattle.std.proofs.Common.{◌≡◌, ◌∙◌, ap, codes}
use Rattle.qo_clocks.specs.Kept.{kept_afresh}
use Rattle.qo_clocks.specs.Links.{changed_named, fitted_on}
use Rattle.qo_clocks.proofs.KeptLinks.{connect-counts, connect-kept, connect-shown}
use Rattle.qo_clocks.proofs.LinkLemmas.{live-changed}
use Rattle.qo_clocks.proofs.links.connect.Goals as goal

pub keep_afresh-requires : goal.keep_afresh-requires
keep_afresh-requires g c =
    rw c.link.ensures
    (live-changed c.args.c.birth (codes "source") (fitted_on c.args.heap.now c.args.source) c.args.heap.now c.args.c c.requires.live)

now : (g : _) (c : goal.After-keep_afresh g)
    → c.keep_afresh.new.heap ≡ kept_afresh c.args.c.birth (changed_named c.args.c.birth (codes "source") (fitted_on c.args.heap.now c.args.source) c.args.heap.now)
now g c = c.keep_afresh.ensures ∙ ap (kept_afresh c.args.c.birth) c.link.ensures

pub returns-clause-shown : goal.returns-clause-shown
returns-clause-shown g c = λ b. connect-shown c.args.heap.now c.args.c.birth c.args.source b c.keep_afresh.new.heap (now g c)

pub returns-clause-counts : goal.returns-clause-counts
returns-clause-counts g c = connect-counts c.args.heap.now c.args.c.birth c.args.source c.keep_afresh.new.heap (now g c)

pub returns-clause-kept : goal.returns-clause-kept
returns-clause-kept g c = connect-kept c.args.heap.now c.args.c.birth c.args.source c.keep_afresh.new.heap (now g c)
