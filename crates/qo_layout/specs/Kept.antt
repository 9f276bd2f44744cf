-- For proofs alone. A flat view of a board that is kept from one use to the next.
use Rattle.std.specs.Prelude.{List, Option, IfSome}
use Rattle.qo_memmap.specs.Regions.{shows_at}
use Rattle.qo_memmap.specs.Spans.{IsFlat, OffsetsFit, RiseFrom}
use Rattle.qo_memmap.specs.declared.span.Span.{Span}
use Rattle.qo_model.specs.Board.{Board}
use Rattle.qo_layout.specs.Layout.{board_map, root_number}

-- spans show what the map of a board shows
abbrev pub IsView : Board → List Span → Type 0
IsView b spans = IsFlat (shows_at (board_map b) (root_number b)) spans

-- spans, or nothing
abbrev pub Kept : Type 0
Kept = Option (List Span)

-- what is kept, if anything is, is the view of a board
abbrev pub IsViewOf : Board → Kept → Type 0
IsViewOf b kept = IfSome kept (IsView b)

-- whatever board it is of, it rises, and offsets are in range
abbrev pub AreInOrder : Kept → Type 0
AreInOrder kept = IfSome kept (λ spans. RiseFrom 0 spans × OffsetsFit spans)
