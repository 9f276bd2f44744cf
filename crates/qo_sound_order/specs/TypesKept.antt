-- For a law alone. What keeps each object of a board of a type that has objects.
use Rattle.std.specs.Prelude.{◌≡◌, ℕ}
use Rattle.qo_values.specs.Registers.{Registers}
use Rattle.qo_values.specs.declared.kinds.Act.{Act}
use Rattle.qo_model.specs.Board.{Board}
use Rattle.qo_model.specs.Clocks.{acted}
use Rattle.qo_model.specs.Opening.{opening_board}
use Rattle.qo_steps.specs.Changes.{Changes}
use Rattle.qo_sound_clocks.specs.RegisterWrites.{registers_set}
use Rattle.qo_sound_order.specs.SoundOrder.{AllConcrete}

-- on every board
pub record TypesKeptLaw : Type 0 where
  -- it is so on the opening board
  pub opening : AllConcrete opening_board
  -- what changes none of the objects: as a notice that is read, rings, or time that goes on
  pub beside : (b c : Board) → c.records ≡ b.records → AllConcrete b → AllConcrete c
  -- an act, and other registers of an object, whatever they are
  pub acts : (act : Act) (n period : ℕ) (b : Board) → AllConcrete b → AllConcrete (acted act n period b)
  pub registers : (b : Board) (n : ℕ) (registers : Registers) → AllConcrete b → AllConcrete (registers_set b n registers)
  -- each change of a board
  pub changes : Changes (λ types b c. AllConcrete b → AllConcrete c)
