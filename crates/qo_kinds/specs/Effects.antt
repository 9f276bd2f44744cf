-- For proofs alone. What a write to a register does beside it, as the code tells it (docs/PROFILE.md, device registers).
use Rattle.qo_kinds.specs.declared.effects.Effect.{Effect}
use Rattle.qo_kinds.specs.declared.effects.Effect.TheVariants.{Nothing, Byte, Pulse}
use Rattle.qo_values.specs.Registers as bodies
use Rattle.qo_values.specs.Registers.{nothing, byte, pulse}

-- nothing; a byte goes to the ring; the bridge's bus is pulsed
abbrev pub shown_effect : Effect → bodies.Effect
shown_effect Nothing = nothing
shown_effect (Byte n) = byte n
shown_effect Pulse = pulse
