-- The member of each row is among those read, or else among those left.
use Rattle.std.proofs.Common.{◌≡◌, drop, not, option_map}
use Rattle.std.specs.Prelude.{◌&&◌, slice_get}
use Rattle.qo_json.specs.View.{members_view, view}
use Rattle.qo_requests.specs.Arguments.{all_named, all_plain}
use Rattle.qo_requests.proofs.ArgumentMemberLemmas.{IsJoined}
use Rattle.qo_requests.proofs.argument_values.ArgumentValues.among.Given as goal

abbrev pub invariant-loop-member : goal.invariant-loop-member
invariant-loop-member l = record {
  first : IsJoined (slice_get l.rows 0) l.members (option_map (λ v. view v.now) l.first) (drop l.member-index l.members);
  second : IsJoined (slice_get l.rows 1) l.members (option_map (λ v. view v.now) l.second) (drop l.member-index l.members);
  third : IsJoined (slice_get l.rows 2) l.members (option_map (λ v. view v.now) l.third) (drop l.member-index l.members);
  others : all_named l.rows (members_view l.members) ≡ (not l.others && all_named l.rows (members_view (drop l.member-index l.members)));
  plain : all_plain l.rows (members_view l.members) ≡ (l.plain && all_plain l.rows (members_view (drop l.member-index l.members)));
}
