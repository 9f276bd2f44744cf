-- For proofs alone. Which properties a description tells of whom.
use Rattle.std.specs.Prelude.{ℕ, Bool, List, Option, Some, None}
use Rattle.serde_json.specs.Data.{Members, put}
use Rattle.qo_values.specs.PlainValues.{data_of}
use Rattle.qo_values.specs.declared.properties.Val.{Val}
use Rattle.qo_model.specs.Objects.{Given}
use Rattle.qo_save.specs.Described.{device_given, is_nothing, is_unset, object_given}
use Rattle.qo_describe.specs.declared.given.Owner.{Owner}
use Rattle.qo_describe.specs.declared.given.Owner.TheVariants.{Device, Object}

-- the names of what is told, and which values are left out
abbrev pub given_names : Owner → List (List ℕ)
given_names Device = device_given
given_names Object = object_given

abbrev pub left_out : Owner → Val → Bool
left_out Device v = is_unset v
left_out Object v = is_nothing v

-- members with a property, if there is one
abbrev pub with_prop : Option Given → Members → Members
with_prop None ms = ms
with_prop (Some p) ms = put p.0 (data_of p.1) ms
