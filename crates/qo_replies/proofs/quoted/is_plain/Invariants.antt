use Rattle.std.proofs.Common.{◌≡◌, true, take}
use Rattle.std.specs.List.{list_all}
use Rattle.qo_replies.specs.PlainBytes.{is_plain_byte}
use Rattle.qo_replies.proofs.quoted.is_plain.Given as goal

abbrev pub invariant-loop-byte : goal.invariant-loop-byte
invariant-loop-byte l = list_all is_plain_byte (take l.byte-index l.byte-items) ≡ true
