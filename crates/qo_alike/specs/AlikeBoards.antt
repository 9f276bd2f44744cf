-- For a law alone. What shows of a board is what its description says.
use Rattle.std.specs.Prelude.{◌≡◌, ℕ, codes, map, Some}
use Rattle.qo_values.specs.Kinds.{type_name}
use Rattle.qo_values.specs.declared.kinds.TypeId.{TypeId}
use Rattle.qo_values.specs.declared.properties.Val.TheVariants as val
use Rattle.qo_model.specs.Board.{Board, kind_of}
use Rattle.qo_model.specs.Devices.{plain_at}
use Rattle.qo_save.specs.Described.{described}
use Rattle.qo_save.specs.Description.{Description}
use Rattle.qo_save.specs.Like.{Like, preorder, sight}
use Rattle.qo_good.specs.GoodBoards.{IsWhole}
use Rattle.qo_alike.specs.Seen.{seen}

-- each object tells the name of its type, as it did at first
abbrev pub TellsTypes : Board → Type 0
TellsTypes b = (n : ℕ) (t : TypeId) → kind_of b n ≡ Some t → plain_at b n (codes "type") ≡ Some (val.Text (type_name t))

pub record AlikeLaw : Type 0 where
  -- what shows of a board that has a description follows from it
  pub shown : (b : Board) (d : Description) → IsWhole b → TellsTypes b → described b ≡ Some d → map (sight b) (preorder b) ≡ seen d
  -- so two boards of one description are alike
  pub alike : (b c : Board) (d : Description) → IsWhole b → TellsTypes b → IsWhole c → TellsTypes c → described b ≡ Some d → described c ≡ Some d → Like b c
