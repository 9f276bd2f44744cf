use Rattle.std.proofs.Common.{◌≡◌, ◌∙◌, None, Some, position, sym, ap}
use Rattle.std.proofs.lemmas.Option.{none-some, same_Some}
use Rattle.qo_values.specs.Rings.{ring_drop, ring_oldest}
use Rattle.qo_chardev.specs.Texts.{encoded}
use Rattle.qo_chardev.specs.Rings.{bytes_in, is_ring, ring_text}
use Rattle.qo_chardev.proofs.RingsLemmas.{changed-to, differ-answered, text-at, text-none}
use Rattle.std.proofs.lemmas.Result.{IfOk-weaker, on_ok_weaker}
use Rattle.qo_chardev.proofs.rings.Rings.take.Goals as goal

pub returns-in_default-clause-only_not_found : goal.returns-in_default-clause-only_not_found
returns-in_default-clause-only_not_found c same = text-none c.args.id.now c.args.most c.args.form c.args.self.now (sym c.place.ensures ∙ c.in_default.is)

pub returns-in_default-clause-not_ascii : goal.returns-in_default-clause-not_ascii
returns-in_default-clause-not_ascii c none =
    absurd (none-some None (sym (text-none c.args.id.now c.args.most c.args.form c.args.self.now (sym c.place.ensures ∙ c.in_default.is)) ∙ none))

module _ (c : goal.After-self-1) where
  found : position (is_ring c.args.id.now) c.self.inside.list.items ≡ Some c.in-Some.at
  found = rw c.self.view_is (sym c.place.ensures ∙ c.in-Some.is)

  its : ring_text c.args.id.now c.args.most c.args.form c.args.self.now ≡ Some (encoded c.args.form (ring_oldest (bytes_in c.index_mut.result.now) c.args.most))
  its =
      let text = text-at c.args.id.now c.args.most c.args.form c.self.inside.list.items c.in-Some.at c.index_mut.result.now found c.index_mut.ensures.value in
      rw (← c.self.view_is) text

pub invariant_of-self : goal.invariant_of-self
invariant_of-self c =
    differ-answered c.take.result c.args.id.now c.self.inside.list.items c.in-Some.at c.index_mut.result.now c.take.new.self c.self.invariant
    (found c) c.index_mut.ensures.value (on_ok_weaker c.take.result (λ is. ((λ m. ring_drop m c.args.most), is)) c.take.ensures.taken) c.take.ensures.err

pub returns-clause-text : goal.returns-clause-text
returns-clause-text c = IfOk-weaker c.take.result _ _ (λ x is. its c ∙ ap Some is) c.take.ensures.text

pub returns-clause-taken : goal.returns-clause-taken
returns-clause-taken c =
    on_ok_weaker c.take.result
    (λ is. rw (← c.self.view_is)
    (changed-to (λ m. ring_drop m c.args.most) c.args.id.now c.self.inside.list.items c.in-Some.at c.index_mut.result.now c.take.new.self
    c.self.invariant (found c) c.index_mut.ensures.value is))
    c.take.ensures.taken

pub returns-clause-not_found : goal.returns-clause-not_found
returns-clause-not_found c none = absurd (none-some _ (sym none ∙ its c))

pub returns-clause-not_ascii : goal.returns-clause-not_ascii
returns-clause-not_ascii c none = c.take.ensures.not_ascii (same_Some _ _ (sym (its c) ∙ none))

pub returns-clause-only_not_ascii : goal.returns-clause-only_not_ascii
returns-clause-only_not_ascii c same = its c ∙ ap Some (c.take.ensures.only_not_ascii same)
