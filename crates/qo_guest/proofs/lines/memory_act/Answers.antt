-- a fourth word is no part of any act
use Rattle.std.proofs.Common.{refl}
use Rattle.qo_guest.proofs.Splits.{pieces_some}
use Rattle.qo_guest.proofs.lines.memory_act.Goals as goal

pub returns-in_default-Some : goal.returns-in_default-Some
returns-in_default-Some c =
    let more = pieces_some 32 c.in_default-Some.field-0-1.now in
    rw (c.in-Some.is, c.split_piece.ensures.pieces, c.in_default-Some.is-1, more.2) refl
