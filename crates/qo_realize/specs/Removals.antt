-- For proofs alone. What is asked for of devices, as the board has it, and how asking for a removal changes it.
use Rattle.std.specs.Prelude.{◌≡◌, ◌⊎◌, ◌<◌, ℕ, Bool, true, List, length, slice_get, Option, None, Some, option_map, Result, Ok, Err}
use Rattle.std.specs.List.{list_any}
use Rattle.qo_values.specs.declared.codes.Code.{Code}
use Rattle.qo_values.specs.declared.limits.TheConstants.{LIVE_OBJECTS_MAX}
use Rattle.qo_hotplug.specs.Hotplug.{Asked}
use Rattle.qo_model.specs.Board.{Board, Removal, is_of_device}
use Rattle.qo_model.specs.Objects.{Changed}

-- the removals that are pending and the notices are those of a board
pub record IsAsked (b : Board) (h : Asked) : Type 0 where
  pub pending : b.pending ≡ h.pending
  pub notices : b.notices ≡ h.notices

-- a board with other removals and notices
abbrev pub with_asked : Board → Asked → Board
with_asked b h = record b { pending = h.pending; notices = h.notices }

-- a change of nothing else: it is refused by its code and leaves the board, or these are its removals and notices
abbrev pub Asks : Board → Changed → Result (Unit {0}) Code → Asked → Type 0
Asks b change (Ok done) h = change ≡ record { refusal = None; board = with_asked b h }
Asks b change (Err code) h = change ≡ record { refusal = Some code; board = b }

-- whether the removal of a device is among some
abbrev pub is_listed : ℕ → List Removal → Bool
is_listed d removals = list_any (is_of_device d) removals

-- the device of the first of some removals
abbrev pub first_device : List Removal → Option ℕ
first_device removals = option_map (λ (r : Removal). r.birth) (slice_get removals 0)

-- a removal is pending already, or there is room for one more
abbrev pub HasRoom : List Removal → ℕ → Type 0
HasRoom pending d = (is_listed d pending ≡ true) ⊎ (length pending < LIVE_OBJECTS_MAX)
