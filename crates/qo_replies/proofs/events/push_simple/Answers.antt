use Rattle.std.proofs.Common.{append_assoc, [], ◌∷◌}
use Rattle.std.specs.Prelude.{string_bytes}
use Rattle.qo_replies.proofs.EventLemmas.{simple-text}
use Rattle.qo_replies.proofs.events.push_simple.Goals as goal

pub returns : goal.returns
returns c =
    rw (
      simple-text c.args.name.now c.args.at c.in_ok-push_ending.ensures.spelled,
      c.in_ok-push_ending.ensures.bytes,
      c.in_ok-push_str.ensures.bytes,
    )
    (append_assoc (string_bytes c.args.text.now) (123 ∷ []) _)
