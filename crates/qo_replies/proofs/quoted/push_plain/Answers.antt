use Rattle.std.proofs.Common.{[], ◌∷◌}
use Rattle.std.specs.Prelude.{string_bytes}
use Rattle.qo_replies.proofs.QuoteLemmas.{quoted-plain, three_more}
use Rattle.qo_replies.proofs.quoted.push_plain.Goals as goal

pub returns : goal.returns
returns c =
    rw (quoted-plain c.args.plain.now c.requires, c.in_ok-push_str-3.ensures.bytes, c.in_ok-push_str-2.ensures.bytes, c.in_ok-push_str.ensures.bytes)
    (three_more (string_bytes c.args.text.now) (34 ∷ []) c.args.plain.now (34 ∷ []))
