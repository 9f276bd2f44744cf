-- For proofs alone. The properties given to a new object.
use Rattle.std.specs.Prelude.{if◌then◌else◌, Option, Some, None}
use Rattle.qo_values.specs.Properties.{admits}
use Rattle.qo_values.specs.declared.codes.Code.{Code}
use Rattle.qo_values.specs.declared.codes.Code.TheVariants.{E19}
use Rattle.qo_values.specs.declared.kinds.TypeId.{TypeId}
use Rattle.qo_values.specs.declared.properties.PropType.{PropType}
use Rattle.qo_values.specs.declared.properties.Val.{Val}
use Rattle.qo_values.specs.declared.properties.Val.TheVariants as val
use Rattle.qo_model.specs.Board.{Board}
use Rattle.qo_model.specs.Objects.{code_of}
use Rattle.qo_model.specs.Properties.{link_target}

-- why a value is refused for a plain property, and for a link
abbrev pub plain_misfit : PropType → Val → Option Code
plain_misfit type v = if admits type v then None else Some E19

abbrev pub link_misfit : Board → TypeId → Val → Option Code
link_misfit b t (val.Text path) = code_of (link_target b t path)
link_misfit b t v = Some E19
