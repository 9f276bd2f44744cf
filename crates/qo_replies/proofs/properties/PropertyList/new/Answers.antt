use Rattle.std.proofs.Common.{refl, sym}
use Rattle.qo_replies.proofs.PropertyLemmas.{none-ascii, none-spelled}
use Rattle.qo_replies.proofs.properties.PropertyList.new.Goals as goal

pub returns : goal.returns
returns c =
    record { text = rw (c.in_ok-push_str.ensures.bytes, c.in_ok-text.ensures.bytes) (sym none-ascii); some = refl; spelled = none-spelled }
