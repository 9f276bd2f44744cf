use Rattle.std.proofs.Common.{[], ◌∷◌}
use Rattle.json.specs.Print.{quoted}
use Rattle.qo_replies.specs.Json.{ascii}
use Rattle.qo_replies.proofs.MemberLemmas.{text-member}
use Rattle.qo_replies.proofs.QuoteLemmas.{five_more}
use Rattle.qo_replies.proofs.members.text_member.Goals as goal

pub returns : goal.returns
returns c =
    rw (
      text-member c.args.name.now c.args.value.now c.in_ok-push_quoted.ensures.spelled c.in_ok-push_quoted-2.ensures.spelled,
      c.from_string.ensures,
      c.in_ok-push_str-3.ensures.bytes,
      c.in_ok-push_quoted-2.ensures.bytes,
      c.in_ok-push_str-2.ensures.bytes,
      c.in_ok-push_quoted.ensures.bytes,
      c.in_ok-push_str.ensures.bytes,
      c.in_ok-text.ensures.bytes,
    )
    (five_more [] (123 ∷ []) (ascii (quoted c.args.name.now)) (58 ∷ []) (ascii (quoted c.args.value.now)) (125 ∷ []))
