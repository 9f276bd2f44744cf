-- The members of a message that were read in one pass, over the same message; for proofs alone.
use Rattle.std.specs.Prelude.{◌≡◌, Bool, not, ◌&&◌, true, false, Option, is_some, option_map}
use Rattle.std.specs.Option.{option_map_or}
use Rattle.serde_json.specs.Data.{Data, Members as Stood}
use Rattle.serde_json.specs.Find.{as_object, as_str, get_member}
use Rattle.qo_json.specs.View.{view}
use Rattle.qo_requests.specs.Arguments.{all_named, has_only}
use Rattle.qo_requests.specs.Fields.{argument, field_name}
use Rattle.qo_requests.specs.Messages.{message_members}
use Rattle.qo_requests.specs.declared.fields.Field.TheVariants.{Arguments, Execute, Id}
use Rattle.qo_requests.specs.declared.members.Members.{Members}

-- they are the members of those names that stand in an object, and there are others where it has others
pub record AreMembers (m : Members) (stood : Stood) : Type 0 where
  pub execute : option_map (λ v. view v.now) m.execute ≡ get_member (field_name Execute) stood
  pub arguments : option_map (λ v. view v.now) m.arguments ≡ get_member (field_name Arguments) stood
  pub id : option_map (λ v. view v.now) m.id ≡ get_member (field_name Id) stood
  pub others : not m.others ≡ all_named message_members stood

-- the same of a value, which has none where it is no object
pub record AreOf (m : Members) (d : Data) : Type 0 where
  pub execute : option_map (λ v. view v.now) m.execute ≡ argument Execute d
  pub arguments : option_map (λ v. view v.now) m.arguments ≡ argument Arguments d
  pub id : option_map (λ v. view v.now) m.id ≡ argument Id d
  pub others : not m.others ≡ has_only message_members d

-- there is no other, `execute` is a text, and `arguments`, where it stands there, an object
abbrev pub is_whole : Bool → Option Data → Option Data → Bool
is_whole others execute arguments =
    not others && option_map_or (λ d. is_some (as_str d)) execute false && option_map_or (λ d. is_some (as_object d)) arguments true
