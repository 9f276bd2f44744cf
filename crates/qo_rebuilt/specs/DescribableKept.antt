-- For a law alone. What is rebuilt of a description, good or not, has a description.
use Rattle.std.specs.Prelude.{◌≡◌, ℕ, true, List, Some, Ok}
use Rattle.qo_values.specs.declared.properties.Val.{Val}
use Rattle.qo_model.specs.Access.{write_at}
use Rattle.qo_model.specs.Board.{Board}
use Rattle.qo_model.specs.Opening.{opening_board}
use Rattle.qo_save.specs.Described.{described, description, is_describable}
use Rattle.qo_save.specs.Description.{Description, DeviceItem, ObjectItem, RingItem}
use Rattle.qo_save.specs.Rebuilding.{add_device, add_object, add_ring, rebuilt}
use Rattle.qo_good.specs.GoodBoards.{IsWhole}

pub record DescribableKeptLaw : Type 0 where
  -- the opening board has one
  pub opening : is_describable opening_board ≡ true
  -- and so has what each command that is not refused makes of a board that has: a number, a link or any other value is written at any path and name; a ring, a
  -- user's object, and a device with an id are added
  pub wrote : (b c : Board) (path name : List ℕ) (v : Val) → IsWhole b → write_at b path name v ≡ Ok c → is_describable b ≡ true → is_describable c ≡ true
  pub ring_added : (r : RingItem) (b c : Board) → add_ring r b ≡ Ok c → is_describable b ≡ true → is_describable c ≡ true
  pub object_added : (o : ObjectItem) (b c : Board) → IsWhole b → add_object o b ≡ Ok c → is_describable b ≡ true → is_describable c ≡ true
  pub device_added : (x : DeviceItem) (b c : Board) → IsWhole b → add_device x b ≡ Ok c → is_describable b ≡ true → is_describable c ≡ true
  -- whatever is rebuilt of any description without refusal is in order, and has a description
  pub whole : (d : Description) (c : Board) → rebuilt d ≡ Ok c → IsWhole c
  pub rebuilt_so : (d : Description) (c : Board) → rebuilt d ≡ Ok c → described c ≡ Some (description c)
