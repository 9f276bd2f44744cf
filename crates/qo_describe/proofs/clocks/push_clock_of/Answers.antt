-- The clock of the device, or none.
use Rattle.std.proofs.Common.{◌++◌, ◌∙◌, List, ap, map, sym, append-nil}
use Rattle.serde_json.specs.Data.{Data}
use Rattle.serde_json.specs.View.{view}
use Rattle.qo_describe.proofs.ItemLemmas.{clock-of-none, clock-of-some}
use Rattle.qo_describe.proofs.WalkLemmas.{then-ok}
use Rattle.qo_describe.proofs.clocks.push_clock_of.Goals as goal

pub returns-in-Some : goal.returns-in-Some
returns-in-Some g c =
    then-ok c.push_clock.result c.push_clock.ensures (λ told. λ b s name.
    told b s
    ∙ ap (λ (l : List Data). map view c.args.values.now.items ++ l) (clock-of-some b name c.args.dev.birth c.in-Some.clock.birth (c.in-Some.ensures.clock b s)))

pub returns-in-None : goal.returns-in-None
returns-in-None g c = λ b s name.
    sym (append-nil (map view c.args.values.now.items))
    ∙ ap (λ (l : List Data). map view c.args.values.now.items ++ l) (clock-of-none b name c.args.dev.birth (c.in-None.ensures.clock b s))
