-- A name more.
use Rattle.std.proofs.Common.{◌∙◌, ap, refl, arith}
use Rattle.serde_json.specs.Data.{object}
use Rattle.serde_json.specs.View.{members_view}
use Rattle.serde_json.proofs.Views.{view-Object}
use Rattle.qo_describe.proofs.GivenLemmas.{name-at, next-prop, props-all}
use Rattle.qo_describe.proofs.given.props_value.Goals as goal

pub loop-name-init : goal.loop-name-init
loop-name-init g c = λ b s. rw c.new-members.ensures.empty refl

pub loop-name-preserved : goal.loop-name-preserved
loop-name-preserved g c = λ b s.
    next-prop b c.args.owner c.args.o.birth c.loop-name.name-index _ (members_view c.loop-name.members.entries) (members_view c.put_given.new.members.entries)
    (name-at c.args.owner c.names-names.result.now c.loop-name.name-index _ c.loop-name-test.true c.names-names.ensures) (c.loop-name.invariant b s)
    (c.in_ok-put_given.ensures b s)

pub returns : goal.returns
returns g c = λ b s.
    view-Object c.loop-name.members
    ∙ ap object (c.loop-name.invariant b s ∙ props-all b c.args.owner c.args.o.birth c.names-names.result.now c.loop-name.name-index (omega arith) c.names-names.ensures)
