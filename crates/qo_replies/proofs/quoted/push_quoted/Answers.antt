use Rattle.std.proofs.Common.{sym}
use Rattle.qo_replies.proofs.QuoteLemmas.{quoted-spelled}
use Rattle.qo_replies.proofs.quoted.push_quoted.Goals as goal

pub returns-in_ok-push_plain-clause-spelled : goal.returns-in_ok-push_plain-clause-spelled
returns-in_ok-push_plain-clause-spelled c = quoted-spelled c.args.plain.now (sym c.if-is_plain.ensures)
