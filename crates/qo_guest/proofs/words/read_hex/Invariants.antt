use Rattle.std.proofs.Common.{◌≡◌, ◌<◌, ◌^◌, drop}
use Rattle.qo_guest.specs.Addresses.{with_hex}
use Rattle.qo_guest.proofs.words.read_hex.Given as goal

abbrev pub invariant-loop-byte : goal.invariant-loop-byte
invariant-loop-byte l = (with_hex l.number (drop l.byte-index l.digits) ≡ with_hex 0 l.digits) × (l.number < 16 ^ l.byte-index)
