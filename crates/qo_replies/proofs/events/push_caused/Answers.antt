use Rattle.std.specs.Prelude.{string_bytes}
use Rattle.json.specs.Print.{quoted}
use Rattle.qo_replies.specs.Events.{before_reason, ending}
use Rattle.qo_replies.specs.Json.{ascii}
use Rattle.qo_replies.specs.Replies.{line_end}
use Rattle.qo_replies.proofs.EventLemmas.{after_data, caused-text, ended}
use Rattle.qo_replies.proofs.QuoteLemmas.{quoted-spelled}
use Rattle.qo_replies.proofs.events.push_caused.Goals as goal

pub returns : goal.returns
returns c =
    rw (
      caused-text c.args.guest c.args.reason.now c.args.name.now c.args.at (quoted-spelled c.args.reason.now c.requires.reason)
          c.in_ok-push_ending.ensures.spelled,
      c.in_ok-push_ending.ensures.bytes,
      c.in_ok-push_str-2.ensures.bytes,
      c.in_ok-push_plain.ensures,
      c.in_ok-push_str.ensures.bytes,
      c.before_reason.ensures,
    )
    (ended (string_bytes c.args.text.now) (before_reason c.args.guest) (ascii (quoted c.args.reason.now)) after_data (ending c.args.name.now c.args.at)
    line_end)
