use Rattle.std.specs.Prelude.{string_bytes}
use Rattle.qo_values.specs.Kinds.{type_name}
use Rattle.qo_values.specs.TypeTexts.{around}
use Rattle.qo_replies.proofs.PropertyLemmas.{around-pieces, plain-around}
use Rattle.qo_replies.proofs.QuoteLemmas.{quoted-plain}
use Rattle.qo_replies.proofs.properties.push_around.Goals as goal

pub returns : goal.returns
returns c =
    rw (
      quoted-plain (around c.args.word.now c.args.kind) (plain-around c.args.word.now c.args.kind c.requires),
      c.in_ok-push_str-5.ensures.bytes,
      c.in_ok-push_str-4.ensures.bytes,
      c.in_ok-push_str-3.ensures.bytes,
      c.in_ok-push_str-2.ensures.bytes,
      c.in_ok-push_str.ensures.bytes,
      c.name.ensures,
    )
    (around-pieces (string_bytes c.args.text.now) c.args.word.now (type_name c.args.kind))
