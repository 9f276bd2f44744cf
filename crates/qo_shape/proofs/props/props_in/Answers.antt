-- The members of an object rise.
use Rattle.std.proofs.Common.{◌≡◌, ◌∙◌}
use Rattle.qo_json.specs.View.{view}
use Rattle.qo_save.specs.Shape.{props_of}
use Rattle.qo_shape.proofs.ReadLemmas.{members-rise, props-within, props-without}
use Rattle.qo_shape.proofs.props.props_in.Goals as goal

pub props_of-requires : goal.props_of-requires
props_of-requires c = members-rise (view c.args.value.now) c.in-Some.members.now c.requires c.in-Some.ensures

pub returns-in-Some : goal.returns-in-Some
returns-in-Some c = props-within (view c.args.value.now) c.in-Some.members.now c.props_of.result c.in-Some.ensures c.props_of.ensures

pub returns-in-None : goal.returns-in-None
returns-in-None c = props-without (view c.args.value.now) c.in-None.ensures
