-- The start of the entry, the number of session 0, and the bytes.
use Rattle.std.proofs.Common.{[], ◌∷◌, codes}
use Rattle.qo_record.specs.Spelling.{moment_text, piece_text}
use Rattle.qo_record.proofs.DemoLemmas.{after_start, put_twice, session_zero}
use Rattle.qo_record.proofs.demos.add_bytes.Goals as goal

pub returns : goal.returns
returns c =
    let piece = piece_text c.args.piece.now in
    after_start c.add_piece.result c.args.stream.now.items c.add_start.new.stream.items c.add_piece.new.stream.items (codes "bytes ")
    (moment_text (record { seconds = c.args.second; micros = 0 })) _ (48 ∷ 32 ∷ piece) c.in_ok-add_start.ensures (session_zero (32 ∷ piece))
    (put_twice c.add_piece.result c.add_start.new.stream.items c.extend_from_slice.new.self.items c.add_piece.new.stream.items (48 ∷ 32 ∷ []) piece
    c.in_ok-extend_from_slice.ensures.items c.add_piece.ensures)
