-- For proofs alone. What a description tells that is not of the objects.
use Rattle.std.specs.Prelude.{◌≡◌, ℕ, ◌==◌, Bool, not, List, length, map}
use Rattle.serde_json.specs.Data.{Data}
use Rattle.qo_model.specs.Board.{Board, Ring}
use Rattle.qo_save.specs.Description.{ring_data}

-- a board has these rings, each an id and a size, in the order of adding; and whether a removal is pending
pub record HasBeside (b : Board) (rows : List (List ℕ × ℕ)) (goes : Bool) : Type 0 where
  pub rings : map (λ (r : Ring). (r.id, r.size)) b.rings ≡ rows
  pub pending : (length b.pending == 0) ≡ not goes

-- a ring as it is told
abbrev pub pair_data : List ℕ × ℕ → Data
pair_data r = ring_data (record { id = r.0; size = r.1 })
