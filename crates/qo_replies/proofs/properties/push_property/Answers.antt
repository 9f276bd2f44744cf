use Rattle.std.specs.Prelude.{string_bytes}
use Rattle.json.specs.Print.{quoted}
use Rattle.qo_values.specs.TypeTexts.{text_of}
use Rattle.qo_replies.specs.Json.{ascii}
use Rattle.qo_replies.specs.Properties.{before_name, before_type, after_type}
use Rattle.qo_replies.proofs.PropertyLemmas.{plain-type, property-ascii, property-spelled}
use Rattle.qo_replies.proofs.QuoteLemmas.{five_more, quoted-spelled}
use Rattle.qo_replies.proofs.properties.push_property.Goals as goal

pub returns-clause-bytes : goal.returns-clause-bytes
returns-clause-bytes c =
    rw (
      property-ascii c.args.some (c.args.name.now, text_of c.args.ty) c.in_ok-push_quoted.ensures.spelled
          (quoted-spelled (text_of c.args.ty) (plain-type c.args.ty)),
      c.in_ok-push_str-3.ensures.bytes,
      c.in_ok-push_type.ensures,
      c.in_ok-push_str-2.ensures.bytes,
      c.in_ok-push_quoted.ensures.bytes,
      c.in_ok-push_str.ensures.bytes,
      c.before_name.ensures,
    )
    (five_more (string_bytes c.args.text.now) (before_name c.args.some) (ascii (quoted c.args.name.now)) before_type (ascii (quoted (text_of c.args.ty)))
    after_type)

pub returns-clause-spelled : goal.returns-clause-spelled
returns-clause-spelled c = property-spelled c.args.some (c.args.name.now, text_of c.args.ty) c.in_ok-push_quoted.ensures.spelled
    (quoted-spelled (text_of c.args.ty) (plain-type c.args.ty))
