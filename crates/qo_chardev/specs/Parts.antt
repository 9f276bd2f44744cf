-- For proofs alone. The parts that a text of Base64 is read in.
use Rattle.std.specs.Prelude.{◌≡◌, ℕ, ◌<◌, List, ◌++◌, length, option_map}
use Rattle.base64.specs.GeneralPurpose.{IsBytes}
use Rattle.qo_chardev.specs.Texts.{bytes_of}

-- a text is read as the bytes of its first part, and then as what is left of it
pub record IsPart (text bytes rest : List ℕ) : Type 0 where
  pub all : IsBytes bytes
  pub shorter : length rest < length text
  pub read : bytes_of text ≡ option_map (λ (more : List ℕ). bytes ++ more) (bytes_of rest)
