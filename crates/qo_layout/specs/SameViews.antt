-- For a law alone. What the memory map is made of.
use Rattle.std.specs.Prelude.{◌≡◌, ℕ, map}
use Rattle.qo_model.specs.Board.{Board}
use Rattle.qo_model.specs.SoundGraph.{without_values}
use Rattle.qo_layout.specs.Kept.{IsViewOf, Kept}
use Rattle.qo_layout.specs.Layout.{flat_view, range_of}

-- the same objects stand on two boards, whatever their plain values are and their registers read, and each DIMM has the same range
pub record SameObjects (b c : Board) : Type 0 where
  pub objects : map without_values b.records ≡ map without_values c.records
  pub ranges : (o : ℕ) → range_of b o ≡ range_of c o

pub record SameViewLaw : Type 0 where
  -- such boards have the same view
  pub view : (b c : Board) → SameObjects b c → flat_view b ≡ flat_view c
  -- so what is kept of the view of the one is of the view of the other
  pub kept : (b c : Board) → SameObjects b c → (kept : Kept) → IsViewOf b kept → IsViewOf c kept
  -- so it is where no object changes, as where time goes on
  pub beside : (b c : Board) → b.records ≡ c.records → SameObjects b c
