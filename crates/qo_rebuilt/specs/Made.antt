-- For a law alone. What commands make of a board, as its description tells it.
use Rattle.std.specs.Prelude.{◌≡◌, false, List, [], ◌++◌, map, Some, Ok}
use Rattle.std.specs.List.{AllByRecursion, IsDistinct}
use Rattle.std.specs.Str.{bytes_eq}
use Rattle.qo_model.specs.Board.{Board}
use Rattle.qo_model.specs.Opening.{opening_board}
use Rattle.qo_save.specs.Described.{described}
use Rattle.qo_save.specs.Description.{ClockNumbers, Description, RingItem}
use Rattle.qo_save.specs.Rebuilding.{add_ring, all_done, clock_steps, Step}
use Rattle.qo_save.specs.Rows.{opening_row}
use Rattle.qo_good.specs.Good.{Good, IsGoodClock, IsGoodRing}
use Rattle.qo_good.specs.GoodBoards.{IsWhole}

-- a board has a description, is sound in all that it is of, and the guest has no notice left
pub record Tells (b : Board) (d : Description) : Type 0 where
  pub whole : IsWhole b
  pub says : described b ≡ Some d
  pub quiet : b.notices ≡ []

-- commands are taken, and make a board of a description
pub record Makes (steps : List Step) (b : Board) (d : Description) : Type 0 where
  pub board : Board
  pub taken : all_done steps b ≡ Ok board
  pub tells : Tells board d

-- no ring of a description has the id of another
abbrev pub IsFree : Description → RingItem → Type 0
IsFree d r = AllByRecursion (λ (x : RingItem). bytes_eq x.id r.id ≡ false) d.rings

pub record RingsMadeLaw : Type 0 where
  -- the opening board
  pub opening : Tells opening_board opening_row
  -- good rings, whose ids differ and are free, are added, in order
  pub rings : (b : Board) (d : Description) (rs : List RingItem) → Tells b d → AllByRecursion IsGoodRing rs → AllByRecursion (IsFree d) rs
      → IsDistinct bytes_eq (map (λ (r : RingItem). r.id) rs) → Makes (map add_ring rs) b (record d { rings = d.rings ++ rs })

pub record ClockMadeLaw : Type 0 where
  -- good numbers of the system clock are written to the opening board
  pub clock : (c : ClockNumbers) → IsGoodClock c → Makes (clock_steps c) opening_board (record opening_row { clock = c })
  -- and then the rings of a good description are added
  pub rings : (d : Description) → Good d
      → Makes (clock_steps d.clock ++ map add_ring d.rings) opening_board (record opening_row { clock = d.clock; rings = d.rings })
