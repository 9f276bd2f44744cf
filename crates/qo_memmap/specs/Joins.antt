-- For proofs alone. How spans are joined.
use Rattle.std.specs.Prelude.{◌≡◌, ℕ, List, ◌∷◌, ◌++◌}
use Rattle.qo_memmap.specs.declared.span.Span.{Span}
use Rattle.qo_memmap.specs.Spans.{spans_show, AreWhole}
use Rattle.qo_memmap.specs.Windows.{AreSpans}

-- a span was added: with any spans behind, they are spans up to the same address, and show the same; and no two could be one
pub record IsPushed (old : List Span) (span : Span) (new : List Span) : Type 0 where
  pub are : (high : ℕ) (after : List Span) → AreSpans high (old ++ span ∷ after) → AreSpans high (new ++ after)
  pub same : (high : ℕ) (after : List Span) → AreSpans high (old ++ span ∷ after) → (a : ℕ) → spans_show (new ++ after) a ≡ spans_show (old ++ span ∷ after) a
  pub whole : AreWhole old → AreWhole new

-- spans were joined
pub record IsJoined (old new : List Span) : Type 0 where
  pub are : (high : ℕ) → AreSpans high old → AreSpans high new
  pub same : (a : ℕ) → spans_show new a ≡ spans_show old a
  pub whole : AreWhole new
