-- For a law alone. What keeps a board in order.
use Rattle.std.specs.Prelude.{◌≡◌, ℕ, true, not, List, [], ◌∷◌, ◌++◌, filter, map}
use Rattle.std.specs.Str.{bytes_eq}
use Rattle.qo_values.specs.Ids.{is_id}
use Rattle.qo_values.specs.Registers.{Registers}
use Rattle.qo_values.specs.declared.kinds.Act.{Act}
use Rattle.qo_model.specs.Board.{Board, Ring}
use Rattle.qo_model.specs.Clocks.{acted}
use Rattle.qo_model.specs.Opening.{opening_board}
use Rattle.qo_steps.specs.Changes.{Changes}
use Rattle.qo_sound_clocks.specs.RegisterWrites.{registers_set}
use Rattle.qo_sound_devices.specs.SoundDevices.{SoundDevices}
use Rattle.qo_sound_order.specs.SoundOrder.{SoundOrder}

-- some of it where the board is sound as far as devices go
pub record OrderKeptLaw : Type 0 where
  -- the opening board is in order
  pub opening : SoundOrder opening_board
  -- what changes neither objects nor rings: as a notice that is read, or time that goes on
  pub beside : (b c : Board) → c.records ≡ b.records → c.rings ≡ b.rings → SoundOrder b → SoundOrder c
  -- a ring that is added under an id, one that is removed, and rings with other bytes
  pub ring_added : (b : Board) (r : Ring) → is_id r.id ≡ true → SoundOrder b → SoundOrder (record b { rings = b.rings ++ r ∷ [] })
  pub ring_removed : (b : Board) (id : List ℕ) → SoundOrder b → SoundOrder (record b { rings = filter (λ (r : Ring). not (bytes_eq r.id id)) b.rings })
  pub ring_filled : (b : Board) (rings : List Ring) → map (λ (r : Ring). r.id) rings ≡ map (λ (r : Ring). r.id) b.rings → SoundOrder b
      → SoundOrder (record b { rings = rings })
  -- an act, and other registers of an object, whatever they are
  pub acts : (act : Act) (n period : ℕ) (b : Board) → SoundOrder b → SoundOrder (acted act n period b)
  pub registers : (b : Board) (n : ℕ) (registers : Registers) → SoundOrder b → SoundOrder (registers_set b n registers)
  -- each change of a board
  pub changes : Changes (λ types b c. SoundDevices b → SoundOrder b → SoundOrder c)
