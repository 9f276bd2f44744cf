use Rattle.std.proofs.Common.{[], ◌∷◌, decimal}
use Rattle.json.specs.Print.{quoted}
use Rattle.qo_replies.specs.Json.{ascii}
use Rattle.qo_replies.proofs.MemberLemmas.{number-member}
use Rattle.qo_replies.proofs.QuoteLemmas.{five_more}
use Rattle.qo_replies.proofs.members.number_member.Goals as goal

pub returns : goal.returns
returns c =
    rw (
      number-member c.args.name.now c.args.value c.in_ok-push_quoted.ensures.spelled c.in_ok-push_number.ensures.spelled,
      c.from_string.ensures,
      c.in_ok-push_str-3.ensures.bytes,
      c.in_ok-push_number.ensures.bytes,
      c.in_ok-push_str-2.ensures.bytes,
      c.in_ok-push_quoted.ensures.bytes,
      c.in_ok-push_str.ensures.bytes,
      c.in_ok-text.ensures.bytes,
    )
    (five_more [] (123 ∷ []) (ascii (quoted c.args.name.now)) (58 ∷ []) (decimal c.args.value) (125 ∷ []))
