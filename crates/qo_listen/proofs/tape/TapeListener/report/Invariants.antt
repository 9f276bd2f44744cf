use Rattle.std.proofs.Common.{◌≡◌, take}
use Rattle.qo_listen.specs.Texts.{tape_text}
use Rattle.qo_listen.proofs.tape.TapeListener.report.Given as goal

abbrev pub invariant-loop-note : goal.invariant-loop-note
invariant-loop-note l = l.bytes.items ≡ tape_text (take l.note-index l.self.notes.items)
