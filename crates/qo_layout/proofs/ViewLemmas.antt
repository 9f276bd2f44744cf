-- What a flat view shows at an address.
use Rattle.std.proofs.Common.{◌≡◌, ℕ, ◌+◌, ◌≤◌, Bool, true, false, cond, List, [], ◌∷◌, Option, Some, None, refl, ap, suc, rules, arith}
use Rattle.qo_memmap.proofs.FlatViewLemmas.{one_flat_lem}
use Rattle.qo_memmap.specs.Regions.{Area, area_at, shows_at}
use Rattle.qo_memmap.specs.Spans.{IsFlat, OffsetsFit, in_span, span_holding}
use Rattle.qo_memmap.specs.declared.region.TheConstants.{ADDRESS_LIMIT}
use Rattle.qo_memmap.specs.declared.span.Span.{Span}
use Rattle.qo_model.specs.Board.{Board}
use Rattle.qo_layout.specs.Layout.{board_map, flat_view, root_number, root_region}
use Rattle.qo_layout.specs.declared.addresses.TheConstants.{ROOT_SIZE}
use Rattle.qo_layout.proofs.RegionLemmas.{root-at}
use Rattle.qo_layout.proofs.ShowLemmas.{within-past}

-- a span that is found holds the address
pub holding_held : (spans : List Span) (at : ℕ) (span : Span) → span_holding spans at ≡ Some span → in_span span at ≡ true
holding_held [] at span found = cc
holding_held (first ∷ spans) at span found = go (in_span first at) refl (holding_held spans at span) found
  where
    go : (holds : Bool) → in_span first at ≡ holds → (span_holding spans at ≡ Some span → in_span span at ≡ true)
        → cond holds (Some first) (span_holding spans at) ≡ Some span → in_span span at ≡ true
    go true holds rest found = let same : first ≡ span = cc in rw (← same) holds
    go false holds rest found = rest found

-- and what it shows of its leaf is in range
pub holding_fits : (spans : List Span) (at : ℕ) (span : Span) → OffsetsFit spans → span_holding spans at ≡ Some span
    → span.offset + span.size ≤ ADDRESS_LIMIT
holding_fits [] at span fit found = cc
holding_fits (first ∷ spans) at span fit found = go (in_span first at) (holding_fits spans at span fit.1) found
  where
    go : (holds : Bool) → (span_holding spans at ≡ Some span → span.offset + span.size ≤ ADDRESS_LIMIT)
        → cond holds (Some first) (span_holding spans at) ≡ Some span → span.offset + span.size ≤ ADDRESS_LIMIT
    go true rest found = let same : first ≡ span = cc in rw (← same) fit.0
    go false rest found = rest found

-- nothing shows behind the root, so that its flat view is the list of all addresses
pub listed : (b : Board) (spans : List Span) → IsFlat (shows_at (board_map b) (root_number b)) spans → spans ≡ flat_view b
listed b spans flat =
    let root : (area_at (board_map b) (root_number b)).size ≡ ROOT_SIZE = ap (λ (area : Area). area.size) (root-at b) in
    one_flat_lem (shows_at (board_map b) (root_number b)) ROOT_SIZE spans
    (λ a far. within-past (suc (root_number b)) (board_map b) (root_number b) a (rw root far)) flat
