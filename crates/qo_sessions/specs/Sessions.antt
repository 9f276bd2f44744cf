-- A session: its mode, and where its stream of bytes stands.
use Rattle.std.specs.Prelude.{ℕ, List, []}
use Rattle.qo_framing.specs.Cut.{Framing, between, cut}
use Rattle.qo_framing.specs.declared.items.Item.{Item}
use Rattle.qo_sessions.specs.declared.modes.Mode.{Mode}
use Rattle.qo_sessions.specs.declared.modes.Mode.TheVariants.{Negotiating, Closed}

pub record State : Type 0 where
  pub mode : Mode
  pub framing : Framing

-- a session that is not open keeps no bytes
abbrev pub closed : State
closed = record { mode = Closed; framing = between }

-- a session that was just opened
abbrev pub begun : State
begun = record { mode = Negotiating; framing = between }

abbrev pub in_mode : Mode → State → State
in_mode mode s = record { mode = mode; framing = s.framing }

-- the items of some bytes, and the session after them
pub record Fed : Type 0 where
  pub items : List Item
  pub session : State

abbrev pub fed_open : State → List ℕ → Fed
fed_open s bytes = record { items = (cut s.framing bytes).items; session = record { mode = s.mode; framing = (cut s.framing bytes).state } }

-- a closed session takes no bytes
abbrev pub fed_in : Mode → State → List ℕ → Fed
fed_in Closed s bytes = record { items = []; session = s }
fed_in mode s bytes = fed_open s bytes

abbrev pub fed : State → List ℕ → Fed
fed s bytes = fed_in s.mode s bytes
