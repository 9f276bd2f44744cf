-- The board's log is told.
use Rattle.std.proofs.Common.{◌∙◌, ap}
use Rattle.serde_json.specs.Data.{Data}
use Rattle.qo_commands.specs.Commands.{returned}
use Rattle.qo_commands.proofs.NoteLemmas.{told-is}
use Rattle.std.proofs.Common.{refl}
use Rattle.serde_json.specs.Written.{has_float}
use Rattle.qo_commands.proofs.CommandLemmas.{notes_no_float}
use Rattle.qo_commands.proofs.notes.query_notes.Goals as goal

pub returned_value-requires : goal.returned_value-requires
returned_value-requires c = ap has_float c.in_ok-value.ensures ∙ rw (notes_no_float c.deref.result.now) refl

pub returns : goal.returns
returns c = λ b s.
    c.returned_value.ensures b
    ∙ ap (λ (d : Data). returned b d) (c.in_ok-value.ensures ∙ told-is b.notes c.args.from c.notes_first.result c.notes_total.result c.deref.result.now
    (c.notes_first.ensures.told b s) (c.deref.ensures.value ∙ c.in_ok-notes.ensures.told b s) (c.notes_total.ensures.told b s))
