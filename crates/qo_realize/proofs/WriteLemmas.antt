-- The board that stands is sound after a write of a property, also of a clock's.
use Rattle.std.proofs.Common.{◌≡◌, ap, subst, ℕ, List, Ok}
use Rattle.qo_values.specs.declared.properties.Val.{Val}
use Rattle.qo_model.specs.Access.{write_at}
use Rattle.qo_model.specs.Board.{Board}
use Rattle.qo_model.specs.Clocks.{div_of, mul_of}
use Rattle.qo_model.specs.FinalNotesRuns.{after_write, wrote}
use Rattle.qo_model.proofs.ClockPropertyLemmas.{write_at-cases}
use Rattle.qo_realize.specs.SoundBoard.{SoundBoard}
use Rattle.qo_realize.proofs.GoodBoardLemmas.{changed-good, scaled-good, set-good}

pub wrote-good : (b d : Board) (path name : List ℕ) (v : Val) → write_at b path name v ≡ Ok d → SoundBoard b → SoundBoard d
wrote-good b d path name v is good =
    write_at-cases (SoundBoard d) b d
    (λ n name v q. subst SoundBoard (ap (after_write b) q) (changed-good b (wrote n name v) good))
    (λ c period fits q. set-good b d c period fits q good)
    (λ c mul fits q. scaled-good b d c mul (div_of b c) fits (good.run.numbers c).div q good)
    (λ c div fits q. scaled-good b d c (mul_of b c) div (good.run.numbers c).mul fits q good)
    path name v is
