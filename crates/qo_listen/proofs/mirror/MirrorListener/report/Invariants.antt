-- What was put, and what is told of those who are left, is what is told of all.
use Rattle.std.proofs.Common.{◌≡◌, ◌++◌, codes}
use Rattle.qo_model.specs.FinalNotes.{is_final}
use Rattle.qo_listen.specs.Texts.{births_of, is_init}
use Rattle.qo_listen.proofs.MirrorLemmas.{told}
use Rattle.qo_listen.proofs.mirror.MirrorListener.report.Given as goal

abbrev pub invariant-loop-birth : goal.invariant-loop-birth
invariant-loop-birth l =
    l.bytes.items ++ told (births_of is_final l.self.notes.items) l.birth-iterator
    ≡ codes "live" ++ told (births_of is_final l.self.notes.items) (births_of is_init l.self.notes.items)
