-- ASCII bytes are UTF-8, so a string is made of them
use Rattle.qo_chardev.proofs.Ascii.{utf8_of_ascii}
use Rattle.qo_chardev.proofs.texts.ascii_text.Goals as goal

pub unreachable-requires : goal.unreachable-requires
unreachable-requires c = let made = c.in-Err.ensures.succeeds (utf8_of_ascii c.args.bytes.items c.requires) in cc
