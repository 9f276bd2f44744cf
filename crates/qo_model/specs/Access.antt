-- Access to objects and their properties by path (QEMU's QAPI, `qom-list`, `qom-get`, `qom-set`).
use Rattle.std.specs.Prelude.{ℕ, List, Result, Ok, Err, ok_or}
use Rattle.qo_values.specs.declared.codes.Code.{Code}
use Rattle.qo_values.specs.declared.codes.Code.TheVariants.{E17}
use Rattle.qo_values.specs.declared.properties.Val.{Val}
use Rattle.qo_model.specs.Board.{Board}
use Rattle.qo_model.specs.ClockProperties.{set_property}
use Rattle.qo_model.specs.Listing.{listing}
use Rattle.qo_model.specs.Properties.{object_at, value_of}

-- what `qom-list` tells of the object at a path, or the code where there is none, or several
abbrev pub listing_at : Board → List ℕ → Result (List (List ℕ × List ℕ)) Code
listing_at b path = elim (object_at b path) [ Ok n ↦ Ok (listing b n) | Err code ↦ Err code ]

-- what `qom-get` reads at a path: the value of the property of a name of the object there, or the code that refuses it
abbrev pub read : Board → List ℕ → List ℕ → Result Val Code
read b path name = elim (object_at b path) [ Ok n ↦ ok_or (value_of b n name) E17 | Err code ↦ Err code ]

-- what `qom-set` makes of the board at a path, or the code that refuses it
abbrev pub write_at : Board → List ℕ → List ℕ → Val → Result Board Code
write_at b path name v = elim (object_at b path) [ Ok n ↦ set_property b n name v | Err code ↦ Err code ]
