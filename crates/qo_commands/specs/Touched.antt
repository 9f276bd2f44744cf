-- For proofs alone. What a command or a line of the guest touched of what interrupt lines hang on, and what is left then of the lines.
use Rattle.std.specs.Prelude.{◌≡◌, List, [], ◌∷◌, Result, Ok, Err, ⊤}
use Rattle.qo_layout.specs.Rows.{AreShaped, Wired}
use Rattle.qo_model.specs.Board.{Board, Removal}
use Rattle.qo_realize.specs.Parts.{Parts}
use Rattle.qo_realize.specs.Representation.{Stands}
use Rattle.qo_realize.specs.SoundBoard.{SoundBoard}
use Rattle.qo_commands.specs.Interrupts.{HasLines}
use Rattle.qo_commands.specs.declared.touched.Touched.{Touched}
use Rattle.qo_commands.specs.declared.touched.Touched.TheVariants.{Nothing, Registers, Devices}

-- lines that are made for the objects of one board are made for those of another, where both are sound
abbrev pub KeepsLines : Board → Board → Type 0
KeepsLines b c = SoundBoard b → SoundBoard c → (l : Wired) → AreShaped b l → AreShaped c l

-- what a board has in common with the one before, where this was touched: its objects and the time; what lines are made of; or it may have nothing
abbrev pub Touches : Touched → Board → Board → Type 0
Touches Nothing b c = (b.records ≡ c.records) × (b.now ≡ c.now)
Touches Registers b c = KeepsLines b c
Touches Devices b c = ⊤

-- what is refused touches nothing
abbrev pub unless_refused : {T E : Type 0} → Touched → Result T E → Touched
unless_refused touched (Ok done) = touched
unless_refused touched (Err code) = Nothing

-- what a reset of the whole board touches, by the removals that are pending
abbrev pub touched_by_reset : List Removal → Touched
touched_by_reset [] = Registers
touched_by_reset (r ∷ removals) = Devices

-- a sound board stands at these parts, and lines are made for its objects, whatever their inputs hold
pub record ShapeOf (p : Parts) (l : Wired) : Type 0 where
  pub board : Board
  pub stands : Stands board p
  pub sound : SoundBoard board
  pub shaped : AreShaped board l

unfoldable pub HasShape : Parts → Wired → Type 0
HasShape p l = ShapeOf p l

-- what is so of lines that were those of the board before this was touched
abbrev pub IsLeft : Touched → Parts → Wired → Type 0
IsLeft Nothing p l = HasLines p l
IsLeft Registers p l = HasShape p l
IsLeft Devices p l = ⊤
