-- How the bytes of a ring stand in texts (docs/PROFILE.md, rings; Base64: RFC 4648, section 4).
use Rattle.std.specs.Prelude.{◌≡◌, ℕ, List, Option, Some, None, if◌then◌else◌}
use Rattle.std.specs.Char.{is_ascii}
use Rattle.std.specs.List.{list_all}
use Rattle.std.specs.Result.{result_ok}
use Rattle.base64.specs.Engines.{standard}
use Rattle.base64.specs.GeneralPurpose.{encode_of, decode_of, IsBytes}
use Rattle.qo_values.specs.Rings.{RingBytes, ring_add}
use Rattle.qo_values.specs.declared.forms.Form.{Form}
use Rattle.qo_values.specs.declared.forms.Form.TheVariants.{Utf8, Base64}

-- the text that tells bytes: as they are where each is below 128, or in Base64
abbrev pub encoded : Form → List ℕ → Option (List ℕ)
encoded Utf8 bytes = if list_all is_ascii bytes then Some bytes else None
encoded Base64 bytes = Some (encode_of standard bytes)

-- the bytes whose Base64 a text is
abbrev pub bytes_of : List ℕ → Option (List ℕ)
bytes_of text = result_ok (decode_of standard text)

-- a ring gained the bytes whose Base64 a text is
pub record Adds (text : List ℕ) (old new : RingBytes) : Type 0 where
  pub bytes : List ℕ
  pub all : IsBytes bytes
  pub read : bytes_of text ≡ Some bytes
  pub written : text ≡ encode_of standard bytes
  pub added : new ≡ ring_add old bytes
