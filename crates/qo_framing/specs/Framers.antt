-- For proofs alone. The state that a framer is in.
use Rattle.std.specs.Prelude.{ℕ, List, ⊤}
use Rattle.qo_framing.specs.Cut.{Framing, between, inside, skipping}
use Rattle.qo_framing.specs.Parts.{IsUnfinished}
use Rattle.qo_framing.specs.declared.framer.Mode.{Mode}
use Rattle.qo_framing.specs.declared.framer.Mode.TheVariants.{Between, Inside, Skipping}

-- the state by mode and bytes kept
abbrev pub framing : Mode → List ℕ → Framing
framing Between bytes = between
framing (Inside scanner) bytes = inside bytes
framing Skipping bytes = skipping

-- the bytes kept of an unfinished object are such, and its scanner stands after them
abbrev pub IsFramer : Mode → List ℕ → Type 0
IsFramer Between bytes = ⊤
IsFramer (Inside scanner) bytes = IsUnfinished bytes scanner
IsFramer Skipping bytes = ⊤
