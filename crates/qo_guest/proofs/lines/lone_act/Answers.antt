-- the bytes that the arm has read are the word
use Rattle.std.proofs.Common.{rules, ◌≡◌, refl, arith}
use Rattle.std.specs.Prelude.{codes}
use Rattle.std.proofs.lemmas.Slice.Eq.{text_from_reads}
use Rattle.qo_guest.proofs.lines.lone_act.Goals as goal

pub returns-in-shutdown : goal.returns-in-shutdown
returns-in-shutdown c =
    let word : c.args.verb.now ≡ codes "shutdown" = text_from_reads _ _ (omega arith) (search rules) in
    rw word refl
