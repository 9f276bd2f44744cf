-- The start of the entry, and the number of session 0.
use Rattle.std.proofs.Common.{[], ◌∷◌, codes, rules}
use Rattle.qo_record.specs.Spelling.{moment_text}
use Rattle.qo_record.proofs.DemoLemmas.{after_start, session_zero}
use Rattle.qo_record.proofs.demos.add_opening.Goals as goal

pub returns : goal.returns
returns c =
    after_start c.extend_from_slice.result c.args.stream.now.items c.add_start.new.stream.items c.extend_from_slice.new.self.items (codes "open ")
    (moment_text (record { seconds = c.args.second; micros = 0 })) _ (48 ∷ 10 ∷ []) c.in_ok-add_start.ensures (session_zero (10 ∷ [])) (search rules)
