-- A root bus, whether it is there or not.
use Rattle.std.proofs.Common.{string_bytes}
use Rattle.qo_text.proofs.BusTextLemmas.{root-gone, root-put}
use Rattle.qo_text.proofs.buses.put_root.Goals as goal

pub returns-in_default : goal.returns-in_default
returns-in_default g c = λ b s.
    root-gone b c.args.heap.now s c.args.birth c.args.name.now (string_bytes c.args.text.now) (string_bytes c.put_line.new.text)
    (string_bytes c.put_line-in_default.new.text) c.in_default.ensures.none c.in_ok-put_line.ensures c.in_ok-put_line-2.ensures

pub returns : goal.returns
returns g c = λ b s.
    root-put b c.args.heap.now s c.live.result c.args.birth c.in-Some.bus.birth c.args.name.now (string_bytes c.args.text.now)
    (string_bytes c.put_bus.new.text) c.in-Some.ensures.born c.live.ensures (c.in_ok-put_bus.ensures b s)
