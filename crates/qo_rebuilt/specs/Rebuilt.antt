-- For a law alone. A board is rebuilt of its description.
use Rattle.std.specs.Prelude.{◌≡◌, [], map, Some, Ok}
use Rattle.qo_model.specs.Board.{Board}
use Rattle.qo_model.specs.Opening.{opening_board}
use Rattle.qo_save.specs.Described.{described}
use Rattle.qo_save.specs.Description.{Description}
use Rattle.qo_save.specs.Like.{Like}
use Rattle.qo_save.specs.Rebuilding.{add_device, rebuilt, set_link, steps_of}
use Rattle.qo_good.specs.Good.{Good}
use Rattle.qo_good.specs.GoodBoards.{IsWhole}
use Rattle.qo_alike.specs.AlikeBoards.{TellsTypes}
use Rattle.qo_rebuilt.specs.Made.{Makes, Tells}

-- the devices of a good description are added to a board that tells what it says besides them, their clocks and links, and then it tells them
abbrev pub DevicesMade : Type 0
DevicesMade =
    (d : Description) → Good d → (b : Board) → Tells b (record d { devices = []; clocks = []; links = [] })
    → Makes (map add_device d.devices) b (record d { clocks = []; links = [] })

-- its links are written to a board that tells all else of it, and then it tells them
abbrev pub LinksMade : Type 0
LinksMade = (d : Description) → Good d → (b : Board) → Tells b (record d { links = [] }) → Makes (map set_link d.links) b d

pub record LinksMadeLaw : Type 0 where
  pub links : LinksMade

-- a description is rebuilt to a board that is like another and has that description
pub record IsRebuilt (b : Board) (d : Description) : Type 0 where
  pub board : Board
  pub taken : rebuilt d ≡ Ok board
  pub alike : Like b board
  pub same : described board ≡ Some d

pub record RebuiltLaw : Type 0 where
  -- every good description is rebuilt without refusal to a board that tells it
  pub made : (d : Description) → Good d → Makes (steps_of d) opening_board d
  -- so every board in order whose objects tell their types, and that has a description, is rebuilt of it to one that is like it
  pub again : (b : Board) (d : Description) → IsWhole b → TellsTypes b → described b ≡ Some d → IsRebuilt b d
