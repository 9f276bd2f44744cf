-- JSON as it is sent: compact, in ASCII, members in byte order of their names.
use Rattle.std.specs.Prelude.{ℕ, ◌+◌, ◌-◌, ◌/◌, ◌%◌, List, [], ◌∷◌, ◌++◌, nat_lt, if◌then◌else◌}
use Rattle.std.specs.Char.{digit_char}
use Rattle.std.specs.List.{flat_map}
use Rattle.std.specs.Str.{chars}
use Rattle.serde_json.specs.Data.{Data}
use Rattle.serde_json.specs.Written.{compact_text}

-- a UTF-16 unit as an escape: `\u` and four lower-case hexadecimal digits
abbrev pub unit_text : ℕ → List ℕ
unit_text unit = 92 ∷ 117 ∷ digit_char (unit / 4096) ∷ digit_char (unit / 256 % 16) ∷ digit_char (unit / 16 % 16) ∷ digit_char (unit % 16) ∷ []

-- a character above 65,535 as the two units that stand for it
abbrev pub pair_text : ℕ → List ℕ
pair_text c = unit_text (55296 + (c - 65536) / 1024) ++ unit_text (56320 + (c - 65536) % 1024)

-- a character as its UTF-16 units
abbrev pub units_text : ℕ → List ℕ
units_text c = if nat_lt c 65536 then unit_text c else pair_text c

-- a character of a message: ASCII stands for itself, any other is escaped
abbrev pub character_text : ℕ → List ℕ
character_text c = if nat_lt c 128 then c ∷ [] else units_text c

-- a text in UTF-8 with every character above ASCII escaped
unfoldable pub ascii : List ℕ → List ℕ
ascii text = flat_map character_text (chars text)

-- the text of a value that has no number with a fraction or an exponent
unfoldable pub json : Data → List ℕ
json value = ascii (compact_text value)
