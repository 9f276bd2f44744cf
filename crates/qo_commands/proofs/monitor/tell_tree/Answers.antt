-- The text is that of the board that the heap shows.
use Rattle.std.proofs.Common.{◌≡◌, ◌∙◌, ap, string_bytes, List, ℕ}
use Rattle.serde_json.specs.Data.{string}
use Rattle.qo_commands.specs.Commands.{returned}
use Rattle.qo_commands.proofs.monitor.tell_tree.Goals as goal

pub returns : goal.returns
returns g c = λ b stands.
    c.returned.ensures.done b
    ∙ ap (λ (text : List ℕ). returned b (string text)) (c.from_string.ensures ∙ c.in_ok-text.ensures b (rw c.heap.ensures stands.shows))
