-- One root bus after the other.
use Rattle.std.proofs.Common.{string_bytes}
use Rattle.qo_text.proofs.BusTextLemmas.{both-roots}
use Rattle.qo_text.proofs.buses.bus_tree.Goals as goal

pub returns : goal.returns
returns g c = λ b s.
    both-roots b (string_bytes c.new-text.result) (string_bytes c.put_root.new.text) (string_bytes c.put_root-2.new.text) c.new-text.ensures.bytes
    (c.in_ok-put_root.ensures b s) (c.in_ok-put_root-2.ensures b s)
