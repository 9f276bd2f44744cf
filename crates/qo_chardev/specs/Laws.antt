-- For a law alone. What the words on rings mean.
use Rattle.std.specs.Prelude.{◌≡◌, ℕ, ◌^◌, ◌≤◌, ◌↔◌, List, true, Some}
use Rattle.base64.specs.Engines.{standard}
use Rattle.base64.specs.GeneralPurpose.{encode_of, IsBytes}
use Rattle.qo_values.specs.Rings.{is_ring_size}
use Rattle.qo_values.specs.declared.limits.TheConstants.{RING_SIZE_MAX}
use Rattle.qo_chardev.specs.Texts.{bytes_of}

-- the sizes of rings are the powers of two up to RING_SIZE_MAX
abbrev pub SizesArePowers : Type 0
SizesArePowers = (size : ℕ) → (is_ring_size size ≡ true) ↔ ((k : ℕ) × (size ≡ 2 ^ k) × (size ≤ RING_SIZE_MAX))

-- a text is read as bytes exactly where it is their Base64
abbrev pub TextsAreEncodings : Type 0
TextsAreEncodings = (text bytes : List ℕ) → IsBytes text → IsBytes bytes → (bytes_of text ≡ Some bytes) ↔ (text ≡ encode_of standard bytes)
