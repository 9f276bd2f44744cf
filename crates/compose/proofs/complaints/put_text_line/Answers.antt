-- The text, and a front of the line's end.
use Rattle.std.proofs.Common.{◌∷◌, [], ◌∙◌, ap}
use Rattle.std.specs.Io.KnownBytes.{append_known}
use Rattle.qo_machine.proofs.SendingLemmas.{front_after}
use Rattle.compose.proofs.complaints.put_text_line.Goals as goal

pub returns-in-Err-put_all-clause-bytes : goal.returns-in-Err-put_all-clause-bytes
returns-in-Err-put_all-clause-bytes g c =
    front_after _ (g.K.Sink.held c.put_all.new.sink) _ c.args.text.now (10 ∷ [])
    (c.in_default.ensures.bytes ∙ ap (append_known (g.K.Sink.held c.args.sink.now)) c.as_bytes.ensures.value) c.in-Err-put_all.ensures.bytes
