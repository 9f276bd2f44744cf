use Rattle.qo_replies.proofs.AsciiLemmas.{ascii-plain}
use Rattle.qo_replies.proofs.ascii.push_ascii.Goals as goal

pub returns-in_ok-push_str : goal.returns-in_ok-push_str
returns-in_ok-push_str c = rw (ascii-plain _ (c.if-is_ascii.ensures.cases)) c.in_ok-push_str.ensures.bytes
