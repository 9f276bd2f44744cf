-- Objects with one member.
use Rattle.std.proofs.Common.{◌≡◌, ℕ, List, [], ◌∷◌, ◌++◌, refl, ◌∙◌, IsUtf8}
use Rattle.std.specs.Prelude.{decimal}
use Rattle.std.specs.Str.{IsAscii}
use Rattle.std.proofs.lemmas.Str.{IsUtf8-from_ascii}
use Rattle.json.specs.Print.{quoted}
use Rattle.serde_json.specs.Data.{member, no_members, number, object, string, unsigned}
use Rattle.qo_replies.specs.Json.{ascii, json}
use Rattle.qo_replies.proofs.AsciiLemmas.{ascii-plain}
use Rattle.qo_replies.proofs.QuoteLemmas.{ascii-append, ascii-before, small-ascii}

-- a name and what stands for its value
one : (name value : List ℕ) → IsUtf8 (quoted name) → IsUtf8 value
    → ascii (123 ∷ (quoted name ++ 58 ∷ (value ++ 125 ∷ []))) ≡ 123 ∷ (ascii (quoted name) ++ 58 ∷ (ascii value ++ 125 ∷ []))
one name value first second =
    rw (
      ascii-before (123 ∷ []) (quoted name ++ 58 ∷ (value ++ 125 ∷ [])) (small-ascii (123 ∷ []) refl),
      ascii-append (quoted name) (58 ∷ (value ++ 125 ∷ [])) first,
      ascii-before (58 ∷ []) (value ++ 125 ∷ []) (small-ascii (58 ∷ []) refl),
      ascii-append value (125 ∷ []) second,
      ascii-plain (125 ∷ []) (small-ascii (125 ∷ []) refl),
    ) refl

pub text-member : (name value : List ℕ) → IsUtf8 (quoted name) → IsUtf8 (quoted value)
    → json (object (member name (string value) no_members)) ≡ 123 ∷ (ascii (quoted name) ++ 58 ∷ (ascii (quoted value) ++ 125 ∷ []))
unfolding json
text-member name value first second = one name (quoted value) first second

pub number-member : (name : List ℕ) (value : ℕ) → IsUtf8 (quoted name) → IsAscii (decimal value)
    → json (object (member name (number (unsigned value)) no_members)) ≡ 123 ∷ (ascii (quoted name) ++ 58 ∷ (decimal value ++ 125 ∷ []))
unfolding json
number-member name value first second =
    one name (decimal value) first (IsUtf8-from_ascii (decimal value) second) ∙ rw (ascii-plain (decimal value) second) refl
