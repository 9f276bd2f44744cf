-- One member more.
use Rattle.std.proofs.Common.{refl, arith}
use Rattle.std.specs.Prelude.{slice_get}
use Rattle.qo_json.specs.View.{members_view}
use Rattle.qo_requests.specs.Arguments.{all_named, all_plain}
use Rattle.qo_requests.specs.ArgumentMembers.{member_of}
use Rattle.qo_requests.proofs.ArgumentMemberLemmas.{part_on, plain_by}
use Rattle.qo_requests.proofs.MemberLemmas.{beside_three, next_left, others_on}
use Rattle.qo_requests.proofs.argument_values.ArgumentValues.among.Goals as goal

pub loop-member-preserved : goal.loop-member-preserved
loop-member-preserved c =
    let whole = members_view c.args.members.now in
    let rows = c.args.rows.now in
    let steps = next_left c.args.members.now c.loop-member.member-index c.member-item.result (omega arith) c.member-item.is in
    let was = c.loop-member.invariant in
    let is_first = c.is_at-is_first.ensures in
    let is_second = c.is_at-is_second.ensures in
    let is_third = c.is_at-is_third.ensures in
    let named = c.is_one-named.ensures in
    record {
      first = part_on (slice_get rows 0) (member_of (slice_get rows 0) whole) _ _ _ _ _ _ _ was.first steps refl is_first c.found-first.ensures;
      second = part_on (slice_get rows 1) (member_of (slice_get rows 1) whole) _ _ _ _ _ _ _ was.second steps refl is_second c.found-second.ensures;
      third = part_on (slice_get rows 2) (member_of (slice_get rows 2) whole) _ _ _ _ _ _ _ was.third steps refl is_third c.found-third.ensures;
      others = others_on rows (all_named rows whole) _ _ _ _ _ _ was.others steps refl
          (beside_three rows _ _ _ _ _ _ _ c.requires is_first is_second is_third named c.is_beside-others.ensures);
      plain = plain_by rows (all_plain rows whole) _ _ _ _ _ _ _ _ _ _ c.requires was.plain steps refl is_first is_second is_third named
          c.stays_plain-plain.ensures;
    }
