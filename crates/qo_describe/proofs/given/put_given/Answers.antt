-- It is left out, or put.
use Rattle.std.proofs.Common.{◌≡◌, true, false, sym, ◌∙◌, rules}
use Rattle.serde_json.specs.View.{members_view, view}
use Rattle.qo_model.specs.RowNames.{property_name}
use Rattle.qo_describe.proofs.GivenLemmas.{left-alone, put-told}
use Rattle.qo_describe.proofs.given.put_given.Goals as goal

pub returns-then-leaves_out : goal.returns-then-leaves_out
returns-then-leaves_out g c = λ b s.
    let left : c.leaves_out.result ≡ true = search rules in
    left-alone b c.args.owner c.args.o.birth (property_name c.args.name) c.in_ok-given.given (members_view c.args.members.now.entries)
    (c.in_ok-given.ensures b s) (sym c.leaves_out.ensures ∙ left)

pub returns : goal.returns
returns g c = λ b s.
    let told : c.leaves_out.result ≡ false = search rules in
    put-told b c.args.owner c.args.o.birth (property_name c.args.name) c.in_ok-given.given (members_view c.args.members.now.entries)
    (members_view c.put.new.map.entries) c.as_str.result.now (view c.in_ok-value.value) c.in_ok-put.ensures.ok c.as_str.ensures c.in_ok-value.ensures
    (c.in_ok-given.ensures b s) (sym c.leaves_out.ensures ∙ told)
