-- The description that a text is (RFC 8259: JSON is in UTF-8).
use Rattle.std.specs.Prelude.{ℕ, if◌then◌else◌, List, Option, None}
use Rattle.std.specs.Str.{is_utf8}
use Rattle.qo_save.specs.Description.{Description}
use Rattle.qo_save.specs.Shape.{description_from}

-- none where the text is not in UTF-8
abbrev pub description_of_text : List ℕ → Option Description
description_of_text text = if is_utf8 text then description_from text else None
