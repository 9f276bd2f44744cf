-- For a law alone. What keeps a board in order, and sound in all that its description is of.
use Rattle.std.specs.Prelude.{◌≡◌, ℕ, ◌<◌, ◌^◌, true, false, [], ◌∷◌, ◌++◌, drop, Ok}
use Rattle.qo_values.specs.Ids.{is_id}
use Rattle.qo_model.specs.Board.{Board, Ring}
use Rattle.qo_model.specs.ClockChanges.{clock_scaled, clock_set}
use Rattle.qo_model.specs.FinalNotesRuns.{Change, changed}
use Rattle.qo_model.specs.Opening.{opening_board}
use Rattle.qo_model.specs.Plug.{Wanted, has_ring, plug}
use Rattle.qo_sound_claims.specs.SoundRings.{IsGoodRing}
use Rattle.qo_good.specs.GoodBoards.{IsWhole}

pub record WholeKeptLaw : Type 0 where
  -- the opening board is so
  pub opening : IsWhole opening_board
  -- a ring that is added under a new id; a notice that is read
  pub ring_added : (b : Board) (r : Ring) → is_id r.id ≡ true → has_ring b r.id ≡ false → IsGoodRing r → IsWhole b
      → IsWhole (record b { rings = b.rings ++ r ∷ [] })
  pub read : (b : Board) → IsWhole b → IsWhole (record b { notices = drop 1 b.notices })
  -- each change by command on objects, and adding a device, taken or refused at any stage
  pub change : (b : Board) (change : Change) → IsWhole b → IsWhole (changed b change)
  pub plugged : (b : Board) (a : Wanted) → IsWhole b → IsWhole (plug b a).board
  -- a write of a clock's period, and of its mul and div, with numbers as wide as their properties, that is not refused
  pub set : (b d : Board) (c period : ℕ) → period < 2 ^ 64 → clock_set b c period ≡ Ok d → IsWhole b → IsWhole d
  pub scaled : (b d : Board) (c mul div : ℕ) → mul < 2 ^ 32 → div < 2 ^ 32 → clock_scaled b c mul div ≡ Ok d → IsWhole b → IsWhole d
