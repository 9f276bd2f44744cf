-- What shows is told.
use Rattle.std.proofs.Common.{◌∙◌, ap, map, List}
use Rattle.serde_json.specs.Data.{Data, array}
use Rattle.serde_json.specs.View.{items_of}
use Rattle.serde_json.specs.Written.{has_float}
use Rattle.qo_memmap.specs.declared.span.Span.{Span}
use Rattle.qo_commands.specs.Commands.{returned, shown_data}
use Rattle.qo_commands.proofs.CommandLemmas.{shown_no_float}
use Rattle.qo_commands.proofs.memmap.query_memmap.Goals as goal

pub returned_value-requires : goal.returned_value-requires
returned_value-requires g c =
    let good = c.reveal_board.ensures.stands in
    ap has_float (c.in_ok-value.ensures good.0 good.1) ∙ shown_no_float good.0 c.deref.result.now

pub returns : goal.returns
returns g c = λ b s.
    c.returned_value.ensures b
    ∙ ap (λ (d : Data). returned b d)
    (c.in_ok-value.ensures b s
    ∙ ap (λ (l : List Span). array (items_of (map (shown_data b) l))) (c.deref.ensures.value ∙ c.in_ok-spans.ensures b s))
