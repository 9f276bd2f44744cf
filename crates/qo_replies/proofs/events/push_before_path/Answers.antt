use Rattle.std.proofs.Common.{codes}
use Rattle.std.specs.Prelude.{string_bytes}
use Rattle.json.specs.Print.{quoted}
use Rattle.qo_replies.specs.Json.{ascii}
use Rattle.qo_replies.proofs.EventLemmas.{before_path-none, before_path-some, none-spelled, some-spelled}
use Rattle.qo_replies.proofs.QuoteLemmas.{three_more}
use Rattle.qo_replies.proofs.events.push_before_path.Goals as goal

pub returns-in_ok-push_str-in-Some-2-clause-bytes : goal.returns-in_ok-push_str-in-Some-2-clause-bytes
returns-in_ok-push_str-in-Some-2-clause-bytes c =
    rw (
      c.in-Some.is,
      before_path-some c.in-Some.id.now (rw c.as_str.ensures.value at c.in_ok-push_quoted-in-Some.ensures.spelled),
      c.in_ok-push_str-in-Some-2.ensures.bytes,
      c.in_ok-push_quoted-in-Some.ensures.bytes,
      c.in_ok-push_str-in-Some.ensures.bytes,
      c.as_str.ensures.value,
    )
    (three_more (string_bytes c.args.text.now) (codes "{\"data\":{\"device\":") (ascii (quoted c.in-Some.id.now)) (codes ",\"path\":"))

pub returns-in_ok-push_str-in-Some-2-clause-spelled : goal.returns-in_ok-push_str-in-Some-2-clause-spelled
returns-in_ok-push_str-in-Some-2-clause-spelled c =
    rw c.in-Some.is (some-spelled c.in-Some.id.now (rw c.as_str.ensures.value at c.in_ok-push_quoted-in-Some.ensures.spelled))

pub returns-in_ok-push_str-in-None-clause-bytes : goal.returns-in_ok-push_str-in-None-clause-bytes
returns-in_ok-push_str-in-None-clause-bytes c = rw (c.in-None.is, before_path-none) c.in_ok-push_str-in-None.ensures.bytes

pub returns-in_ok-push_str-in-None-clause-spelled : goal.returns-in_ok-push_str-in-None-clause-spelled
returns-in_ok-push_str-in-None-clause-spelled c = rw c.in-None.is none-spelled
