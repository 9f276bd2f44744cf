-- The parts of a value that stands in order stand in order.
use Rattle.std.proofs.Common.{ℕ, List, Option, Some, Ordering, Less, Equal, Greater, unwrap_or}
use Rattle.std.specs.Cmp.Lexicographic.{slice_cmp}
use Rattle.std.specs.Ordering.{match_ordering, nat_cmp}
use Rattle.serde_json.specs.Data.{Data, null, boolean, number, string, array, object, Members, no_members, member}
use Rattle.serde_json.specs.Find.{get_member}
use Rattle.qo_json.specs.Order.{HaveOrder, IsOrdered}
use Rattle.qo_requests.specs.Fields.{argument, field_name}
use Rattle.qo_requests.specs.declared.fields.Field.{Field}

-- a value stands in order, where there is one
abbrev StandsThere : Option Data → Type 0
StandsThere part = IsOrdered (unwrap_or part null)

member_at : (o : Ordering) (d : Data) (rest : Option Data) → IsOrdered d → StandsThere rest → StandsThere (match_ordering o rest (Some d) rest)
member_at Less d rest here later = later
member_at Equal d rest here later = here
member_at Greater d rest here later = later

member_ordered : (name : List ℕ) (ms : Members) → HaveOrder ms → StandsThere (get_member name ms)
member_ordered name no_members all = tt
member_ordered name (member other d ms) all = member_at (slice_cmp nat_cmp name other) d (get_member name ms) all.0 (member_ordered name ms all.1)

pub part_ordered : (field : Field) (d : Data) → IsOrdered d → StandsThere (argument field d)
part_ordered field null all = tt
part_ordered field (boolean b) all = tt
part_ordered field (number n) all = tt
part_ordered field (string s) all = tt
part_ordered field (array ds) all = tt
part_ordered field (object ms) all = member_ordered (field_name field) ms all.1
