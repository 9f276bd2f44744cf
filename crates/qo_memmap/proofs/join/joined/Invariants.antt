use Rattle.std.proofs.Common.{◌≡◌, ℕ, ◌++◌, drop}
use Rattle.qo_memmap.specs.Spans.{spans_show, AreWhole}
use Rattle.qo_memmap.specs.Windows.{AreSpans, spans_of}
use Rattle.qo_memmap.proofs.join.joined.Given as goal

abbrev pub invariant-loop-layer : goal.invariant-loop-layer
invariant-loop-layer l = record {
  are : (high : ℕ) → AreSpans high (spans_of l.layers) → AreSpans high (l.spans.items ++ spans_of (drop l.layer-index l.layers));
  same : (a : ℕ) → spans_show (l.spans.items ++ spans_of (drop l.layer-index l.layers)) a ≡ spans_show (spans_of l.layers) a;
  whole : AreWhole l.spans.items;
}
