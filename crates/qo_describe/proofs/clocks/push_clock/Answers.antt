-- The clock is put at the end, where it divides or multiplies.
use Rattle.std.proofs.Common.{◌≡◌, ◌++◌, ◌∙◌, List, true, false, not, ap, map, sym, append-nil, rules}
use Rattle.serde_json.specs.Data.{Data}
use Rattle.serde_json.specs.View.{view}
use Rattle.qo_describe.proofs.ItemLemmas.{clock-quiet, clock-told}
use Rattle.qo_describe.proofs.ValueLemmas.{pushed}
use Rattle.qo_describe.proofs.clocks.push_clock.Goals as goal

pub returns-then-not-scales : goal.returns-then-not-scales
returns-then-not-scales g c = λ b s.
    let quiet : c.scales.result ≡ false = search rules in
    sym (append-nil (map view c.args.values.now.items))
    ∙ ap (λ (l : List Data). map view c.args.values.now.items ++ l) (sym (clock-quiet b c.args.clock.birth (c.scales.ensures b s ∙ ap not quiet)))

pub returns : goal.returns
returns g c = λ b s.
    let scales : c.scales.result ≡ true = search rules in
    pushed c.args.values.now.items c.push.new.self.items _ _ c.in_ok-push.ensures.items (c.in_ok-item_value.ensures b s)
    ∙ ap (λ (l : List Data). map view c.args.values.now.items ++ l) (sym (clock-told b c.args.clock.birth (c.scales.ensures b s ∙ ap not scales)))
