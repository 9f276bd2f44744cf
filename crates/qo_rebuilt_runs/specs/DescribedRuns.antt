-- For a law alone. Which boards of a run are rebuilt of their descriptions.
use Rattle.std.specs.Prelude.{◌≡◌, List, Some}
use Rattle.qo_machine.specs.Machine.{opening}
use Rattle.qo_machine.specs.Runs.{Turn, state_after}
use Rattle.qo_save.specs.Described.{described}
use Rattle.qo_save.specs.Description.{Description, description_text}
use Rattle.qo_save.specs.Rebuilding.{rebuilt, rebuilt_from}
use Rattle.qo_sound_order.specs.SoundValues.{SoundValues}
use Rattle.qo_good.specs.GoodBoards.{IsWhole}
use Rattle.qo_alike.specs.AlikeBoards.{TellsTypes}
use Rattle.qo_rebuilt.specs.Rebuilt.{IsRebuilt}

pub record DescribedInRuns : Type 0 where
  -- after each run the board is in order, and sound in all that a description is of
  pub whole : (turns : List Turn) → IsWhole (state_after opening turns).board
  -- and each object tells the name of its type
  pub types : (turns : List Turn) → TellsTypes (state_after opening turns).board
  -- so where it has a description, that is rebuilt to a board that is like it and has the same description
  pub again : (turns : List Turn) (d : Description) → described (state_after opening turns).board ≡ Some d → IsRebuilt (state_after opening turns).board d
  -- and so is the text of that description, where the plain values of the board are told as they are
  pub text : (turns : List Turn) (d : Description) → SoundValues (state_after opening turns).board → described (state_after opening turns).board ≡ Some d
      → rebuilt_from (description_text d) ≡ Some (rebuilt d)
