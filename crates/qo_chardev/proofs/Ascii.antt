-- Bytes below 128 are UTF-8.
use Rattle.std.proofs.Common.{◌≡◌, ℕ, suc, zero, true, List, [], ◌∷◌, arith}
use Rattle.std.specs.Char.{is_ascii}
use Rattle.std.specs.List.{list_all}
use Rattle.std.specs.Str.{IsAscii, IsUtf8}
use Rattle.std.proofs.lemmas.Str.{IsUtf8-from_ascii}
use Rattle.std.proofs.lemmas.Bool.Decides.{nat_tests}

-- each byte is below 128
ascii_is : (bytes : List ℕ) → list_all is_ascii bytes ≡ true → IsAscii bytes
ascii_is [] all i = omega arith
ascii_is (byte ∷ bytes) all zero = grind (arith, nat_tests)
ascii_is (byte ∷ bytes) all (suc i) = ascii_is bytes (grind (arith, nat_tests)) i

pub utf8_of_ascii : (bytes : List ℕ) → list_all is_ascii bytes ≡ true → IsUtf8 bytes
utf8_of_ascii bytes all = IsUtf8-from_ascii bytes (ascii_is bytes all)
