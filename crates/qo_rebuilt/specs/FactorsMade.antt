-- For a law alone. What writing the factors of clocks makes of a board, as its description tells it.
use Rattle.std.specs.Prelude.{[]}
use Rattle.std.specs.List.{flat_map}
use Rattle.qo_model.specs.Board.{Board}
use Rattle.qo_save.specs.Description.{Description}
use Rattle.qo_save.specs.Rebuilding.{factor_steps}
use Rattle.qo_good.specs.Good.{Good}
use Rattle.qo_rebuilt.specs.Made.{Makes, Tells}

-- the factors of a good description are written to a board that tells all else of it but links, and then it tells them
pub record FactorsMadeLaw : Type 0 where
  pub factors : (d : Description) → Good d → (b : Board) → Tells b (record d { clocks = []; links = [] })
      → Makes (flat_map factor_steps d.clocks) b (record d { links = [] })
