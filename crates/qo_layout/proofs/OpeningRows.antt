-- The map of the opening board, worked out.
use Rattle.std.proofs.Common.{◌≡◌, refl, [], ◌∷◌}
use Rattle.std.specs.Prelude.{pos, negsuc}
use Rattle.qo_model.specs.Devices.{depth_of}
use Rattle.qo_model.specs.Opening.{opening_board}
use Rattle.qo_model.specs.Reset.{post}
use Rattle.qo_model.specs.Types.{types}
use Rattle.qo_memmap.specs.declared.region.Kind.TheVariants.{Container, Leaf, Alias}
use Rattle.qo_layout.specs.Layout.{board_map, window_at}

-- the slots of the root bus, the memory, the boot region, the low addresses, which show the memory, and the root
pub opening-map : board_map opening_board
    ≡ record { size = 140737488355328; kind = Container; children = [] } ∷ record { size = 68719476736; kind = Container; children = [] }
    ∷ record { size = 65536; kind = Leaf 0; children = [] } ∷ record { size = 2147483648; kind = Alias 1 0; children = [] }
    ∷ record {
      size = 281474976710656;
      kind = Container;
      children =
          record { region = 2; at = 0; priority = pos 0 } ∷ record { region = 1; at = 4294967296; priority = pos 0 }
          ∷ record { region = 0; at = 17592186044416; priority = pos 0 } ∷ record { region = 3; at = 0; priority = negsuc 0 } ∷ [];
    }
    ∷ []
unfolding opening_board post depth_of types
opening-map = refl

-- slot 3 of the root bus, and slot 2 of the bus of a bridge there: the second half of slot 3, and then twice a slot of 2^40 bytes
pub slot-three : window_at 0 17592186044416 (3 ∷ []) ≡ 70368744177664
slot-three = refl

pub slot-below : window_at 0 17592186044416 (3 ∷ 2 ∷ []) ≡ 81363860455424
slot-below = refl
