-- The members of an object that were read in one pass, over the same object; for proofs alone.
use Rattle.std.specs.Prelude.{◌≡◌, ◌≤◌, ℕ, Bool, true, false, not, List, length, Option, None, Some, is_some, option_and_then, option_map, slice_get}
use Rattle.std.specs.Option.{option_map_or}
use Rattle.std.specs.Str.{bytes_eq}
use Rattle.serde_json.specs.Data.{Data, Members}
use Rattle.serde_json.specs.Find.{get_member}
use Rattle.qo_json.specs.View.{view}
use Rattle.qo_requests.specs.Arguments.{field_of, type_of, fits, all_named, all_plain, has_only, plain_beside}
use Rattle.qo_requests.specs.Fields.{argument, field_name}
use Rattle.qo_requests.specs.declared.arguments.Argument.{Argument}
use Rattle.qo_requests.specs.declared.arguments.Argument.TheVariants.{Needed, Optional}
use Rattle.qo_requests.specs.declared.argument_values.ArgumentValues.{ArgumentValues}

-- the member that a row names, where there is such a row, among members and in a value
abbrev pub member_of : Option Argument → Members → Option Data
member_of row members = option_and_then (λ r. get_member (field_name (field_of r)) members) row

abbrev pub part_of : Option Argument → Data → Option Data
part_of row d = option_and_then (λ r. argument (field_of r) d) row

-- the row, where there is one, has this name
abbrev pub names : Option Argument → List ℕ → Bool
names row name = option_map_or (λ r. bytes_eq (field_name (field_of r)) name) row false

-- the member that a row, where there is one, asks for stands there; it is of its kind, where it stands there
abbrev pub stands_by : Option Argument → Option Data → Bool
stands_by None part = true
stands_by (Some (Needed field kind)) part = is_some part
stands_by (Some (Optional field kind)) part = true

abbrev pub is_fit_by : Option Argument → Option Data → Bool
is_fit_by None part = true
is_fit_by (Some row) part = option_map_or (fits (type_of row)) part true

-- the parts are those that the rows name among members, and there are others, all plain or not, as there are
pub record AreRead (g : ArgumentValues) (members : Members) : Type 0 where
  pub first : option_map (λ v. view v.now) g.first ≡ member_of (slice_get g.rows.now 0) members
  pub second : option_map (λ v. view v.now) g.second ≡ member_of (slice_get g.rows.now 1) members
  pub third : option_map (λ v. view v.now) g.third ≡ member_of (slice_get g.rows.now 2) members
  pub others : not g.others ≡ all_named g.rows.now members
  pub plain : g.plain ≡ all_plain g.rows.now members

-- the same in the value that they were read of
pub record AreGiven (g : ArgumentValues) : Type 0 where
  pub few : length g.rows.now ≤ 3
  pub first : option_map (λ v. view v.now) g.first ≡ part_of (slice_get g.rows.now 0) (view g.place.now)
  pub second : option_map (λ v. view v.now) g.second ≡ part_of (slice_get g.rows.now 1) (view g.place.now)
  pub third : option_map (λ v. view v.now) g.third ≡ part_of (slice_get g.rows.now 2) (view g.place.now)
  pub others : not g.others ≡ has_only g.rows.now (view g.place.now)
  pub plain : g.plain ≡ plain_beside g.rows.now (view g.place.now)
