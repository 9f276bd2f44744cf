use Rattle.std.proofs.Common.{sym}
use Rattle.std.proofs.lemmas.List.{take_rest}
use Rattle.qo_guest.proofs.Splits.{pieces_found, pieces_whole}
use Rattle.qo_guest.proofs.words.split_piece.Goals as goal

pub returns-in-Some-clause-pieces : goal.returns-in-Some-clause-pieces
returns-in-Some-clause-pieces c = rw take_rest ((pieces_found c.args.separator c.args.bytes.now c.in-Some.at (sym c.in-Some.ensures)).1)

pub returns-in-None-clause-pieces : goal.returns-in-None-clause-pieces
returns-in-None-clause-pieces c = pieces_whole c.args.separator c.args.bytes.now (sym c.in-None.ensures)
