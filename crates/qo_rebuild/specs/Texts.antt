-- The board that a text describes.
use Rattle.std.specs.Prelude.{ℕ, List, Option, option_map, Result}
use Rattle.qo_values.specs.declared.codes.Code.{Code}
use Rattle.qo_model.specs.Board.{Board}
use Rattle.qo_save.specs.Rebuilding.{rebuilt}
use Rattle.qo_shape.specs.Texts.{description_of_text}

-- the board that is rebuilt of it, or the code that refuses it; none where the text is no description
abbrev pub rebuilt_of_text : List ℕ → Option (Result Board Code)
rebuilt_of_text text = option_map rebuilt (description_of_text text)
