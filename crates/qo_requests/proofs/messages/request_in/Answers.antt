-- The call that the members of a message make.
use Rattle.std.proofs.Common.{◌≡◌, ◌∙◌, sym, ap, subst, Option, option_and_then, option_map}
use Rattle.serde_json.specs.Data.{Data}
use Rattle.qo_requests.specs.Fields.{argument}
use Rattle.qo_requests.specs.Values.{text_at}
use Rattle.qo_requests.specs.declared.fields.Field.TheVariants.{Arguments, Execute}
use Rattle.qo_json.specs.View.{view}
use Rattle.serde_json.specs.Find.{as_str}
use Rattle.qo_requests.specs.Commands.{command_of}
use Rattle.qo_requests.specs.Messages.{GivesCode, is_message}
use Rattle.qo_requests.specs.Members.{is_whole}
use Rattle.qo_requests.proofs.MemberLemmas.{request_by, whole_is}
use Rattle.qo_requests.proofs.PartLemmas.{part_ordered}
use Rattle.qo_requests.proofs.messages.request_in.Goals as goal

pub call_in-requires : goal.call_in-requires
call_in-requires c =
    let d = view c.args.value.now in
    rw c.requires.members.arguments (part_ordered Arguments d c.requires.ordered)

pub returns : goal.returns
returns c =
    let d = view c.args.value.now in
    let execute = option_map (λ v. view v.now) c.args.members.execute in
    let arguments = option_map (λ v. view v.now) c.args.members.arguments in
    let message : c.is_message.result ≡ is_whole c.args.members.others execute arguments = c.is_message.ensures in
    let placed : is_whole c.args.members.others execute arguments ≡ is_message d =
    ap (λ (o : Option Data). is_whole c.args.members.others o arguments) c.requires.members.execute
    ∙ ap (is_whole c.args.members.others (argument Execute d)) c.requires.members.arguments ∙ whole_is d c.args.members.others c.requires.members.others in
    let named : option_and_then as_str execute ≡ text_at Execute d = ap (option_and_then as_str) c.requires.members.execute in
    subst (GivesCode c.call_in.result)
    (request_by d (sym c.has_float.ensures ∙ c.if-has_float.false) (sym placed ∙ sym message ∙ c.if-not-is_message.false) _ _
    (c.command.ensures ∙ ap (option_and_then command_of) named) c.requires.members.arguments) c.call_in.ensures
