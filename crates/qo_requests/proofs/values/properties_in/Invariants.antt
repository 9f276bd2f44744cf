use Rattle.std.proofs.Common.{drop, ◌≡◌, ◌++◌}
use Rattle.qo_json.specs.View.{members_view}
use Rattle.qo_values.specs.PropertyLists.{names_of, NamesRise}
use Rattle.qo_requests.specs.Values.{properties_in}
use Rattle.qo_requests.proofs.NameOrder.{names_left}
use Rattle.qo_requests.proofs.values.properties_in.Given as goal

-- all properties are those read so far, and after them what is left; the names of both rise
abbrev pub invariant-loop-member : goal.invariant-loop-member
invariant-loop-member l = record {
  read : properties_in l.rows (members_view l.members) ≡ l.props ++ properties_in l.rows (members_view (drop l.member-index l.members));
  rise : NamesRise (names_of l.props ++ names_left (drop l.member-index l.members));
}
