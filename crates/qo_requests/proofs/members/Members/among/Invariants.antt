-- The first of each name is among the members read, or else among those left.
use Rattle.std.proofs.Common.{◌≡◌, drop, not, option_map}
use Rattle.std.specs.Prelude.{◌&&◌}
use Rattle.std.specs.Option.{option_or}
use Rattle.serde_json.specs.Find.{get_member}
use Rattle.qo_json.specs.View.{members_view, view}
use Rattle.qo_requests.specs.Arguments.{all_named}
use Rattle.qo_requests.specs.Fields.{field_name}
use Rattle.qo_requests.specs.Messages.{message_members}
use Rattle.qo_requests.specs.declared.fields.Field.TheVariants.{Arguments, Execute, Id}
use Rattle.qo_requests.proofs.members.Members.among.Given as goal

abbrev pub invariant-loop-member : goal.invariant-loop-member
invariant-loop-member l =
    let all = members_view l.members in
    let left = members_view (drop l.member-index l.members) in
    record {
      execute : get_member (field_name Execute) all ≡ option_or (option_map (λ v. view v.now) l.execute) (get_member (field_name Execute) left);
      arguments : get_member (field_name Arguments) all ≡ option_or (option_map (λ v. view v.now) l.arguments) (get_member (field_name Arguments) left);
      id : get_member (field_name Id) all ≡ option_or (option_map (λ v. view v.now) l.id) (get_member (field_name Id) left);
      others : all_named message_members all ≡ (not l.others && all_named message_members left);
    }
