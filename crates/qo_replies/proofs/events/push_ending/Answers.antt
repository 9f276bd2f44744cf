use Rattle.std.proofs.Common.{decimal}
use Rattle.std.specs.Prelude.{string_bytes}
use Rattle.qo_replies.proofs.EventLemmas.{before_event, before_micros, before_seconds, after_seconds, ending-ascii, ending-pieces, pieces-more}
use Rattle.qo_replies.proofs.events.push_ending.Goals as goal

pub returns-clause-bytes : goal.returns-clause-bytes
returns-clause-bytes c =
    rw (
      ending-pieces c.args.name.now c.args.at c.requires,
      c.in_ok-push_str-5.ensures.bytes,
      c.in_ok-push_number-2.ensures.bytes,
      c.in_ok-push_str-4.ensures.bytes,
      c.in_ok-push_number.ensures.bytes,
      c.in_ok-push_str-3.ensures.bytes,
      c.in_ok-push_str-2.ensures.bytes,
      c.in_ok-push_str.ensures.bytes,
      c.from.ensures,
    )
    (pieces-more (string_bytes c.args.text.now) before_event c.args.name.now before_micros (decimal c.args.at.micros) before_seconds (decimal c.args.at.seconds)
    after_seconds)

pub returns-clause-spelled : goal.returns-clause-spelled
returns-clause-spelled c =
    ending-ascii c.args.name.now c.args.at c.requires (rw c.from.ensures at c.in_ok-push_number.ensures.spelled) c.in_ok-push_number-2.ensures.spelled
