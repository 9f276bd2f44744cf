-- The bytes that matter to framing (QMP specification 2.6, Forcing the JSON parser into known-good state).
use Rattle.std.specs.Prelude.{ℕ, Bool, not, ◌&&◌, ◌||◌, ◌==◌, nat_lt}

-- a byte that resets the reader, as no JSON has it: 0 to 31 other than tab, LF and CR; and 255
abbrev pub is_reset : ℕ → Bool
is_reset b = (nat_lt b 32 && not (b == 9 || b == 10 || b == 13)) || b == 255

-- a byte that is passed over between objects: tab, LF, CR, space, or a reset byte
abbrev pub is_passed : ℕ → Bool
is_passed b = b == 9 || b == 10 || b == 13 || b == 32 || is_reset b

-- a byte that ends the skipping: LF or a reset byte
abbrev pub ends_skipping : ℕ → Bool
ends_skipping b = b == 10 || is_reset b

-- { or [
abbrev pub is_opening : ℕ → Bool
is_opening b = b == 123 || b == 91

-- } or ]
abbrev pub is_closing : ℕ → Bool
is_closing b = b == 125 || b == 93
