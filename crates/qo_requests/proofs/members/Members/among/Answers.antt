-- One member more.
use Rattle.std.proofs.Common.{lit≤, refl, arith}
use Rattle.qo_json.specs.View.{members_view}
use Rattle.serde_json.specs.Find.{get_member}
use Rattle.qo_requests.specs.Arguments.{all_named}
use Rattle.qo_requests.specs.Fields.{field_name}
use Rattle.qo_requests.specs.Messages.{message_members}
use Rattle.qo_requests.specs.declared.fields.Field.TheVariants.{Arguments, Execute, Id}
use Rattle.qo_requests.proofs.MemberLemmas.{beside_three, found_by, next_left, others_on}
use Rattle.qo_requests.proofs.members.Members.among.Goals as goal

pub loop-member-preserved : goal.loop-member-preserved
loop-member-preserved c =
    let whole = members_view c.args.members.now in
    let steps = next_left c.args.members.now c.loop-member.member-index c.member-item.result (omega arith) c.member-item.is in
    let was = c.loop-member.invariant in
    record {
      execute = found_by (field_name Execute) (get_member (field_name Execute) whole) _ _ _ _ _ _ _ was.execute steps refl
          c.is_named-is_execute.ensures c.found-execute.ensures;
      arguments = found_by (field_name Arguments) (get_member (field_name Arguments) whole) _ _ _ _ _ _ _ was.arguments steps refl
          c.is_named-is_arguments.ensures c.found-arguments.ensures;
      id = found_by (field_name Id) (get_member (field_name Id) whole) _ _ _ _ _ _ _ was.id steps refl
          c.is_named-is_id.ensures c.found-id.ensures;
      others = others_on message_members (all_named message_members whole) _ _ _ _ _ _ was.others steps refl
          (beside_three message_members c.member-item.result.0.now _ _ _ _ _ _ (lit≤ tt) c.is_named-is_execute.ensures c.is_named-is_arguments.ensures
          c.is_named-is_id.ensures c.is_one.ensures c.is_beside-others.ensures);
    }
