use Rattle.std.proofs.Common.{◌≡◌, ◌∙◌, ap, not, nat_eq, filter, rules}
use Rattle.std.proofs.lemmas.Fn.{filter_same}
use Rattle.qo_slots.specs.declared.keys.Key.{Key}
use Rattle.qo_model.specs.Unplug.{without_all}
use Rattle.qo_reset.specs.HoldList.{HoldList}
use Rattle.qo_reset.specs.Phases.{births_of}
use Rattle.qo_reset.proofs.HoldLemmas.{births-without}
use Rattle.qo_reset.proofs.resets.Resets.gone.Goals as goal

pub returns-clause-holds : goal.returns-clause-holds
returns-clause-holds g c =
    let left : c.retain.new.self.items ≡ filter (λ (k : Key). not (nat_eq k.birth c.args.o.birth)) c.self.inside.holds.items =
    filter_same _ (λ (k : Key). not (nat_eq k.birth c.args.o.birth)) _ (λ x b f' k. search rules) _ _ c.retain.ensures.filtered in
    ap births_of left
    ∙ births-without c.args.o.birth c.self.inside.holds.items
    ∙ ap (λ (h : HoldList). without_all c.args.o.birth h.births) c.self.view_is
