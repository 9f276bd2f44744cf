-- For proofs alone. What stands for the name of a slot.
use Rattle.std.specs.Prelude.{ℕ, ◌%◌, ◌<◌, ⊤, List, length, slice_index}
use Rattle.qo_values.specs.declared.limits.TheConstants.{BUS_SLOTS}
use Rattle.qo_model.specs.Devices.{kid_name}
use Rattle.qo_model.specs.RowNames.{property_name}
use Rattle.qo_object.specs.declared.names.NameKind.{NameKind}
use Rattle.qo_object.specs.declared.names.Fingerprint.{Fingerprint}
use Rattle.qo_object.specs.declared.names.NameKind.TheVariants.{Row, Kid, Own}

-- its text
abbrev pub given_text : NameKind → List ℕ
given_text (Row name) = property_name name
given_text (Kid slot) = kid_name slot
given_text (Own name) = name

-- a bus has the slot that is given
abbrev pub IsGiven : NameKind → Type 0
IsGiven (Kid slot) = slot < BUS_SLOTS
IsGiven _ = ⊤

-- what is compared of two texts first: their lengths, modulo 2^32, and their first bytes
abbrev pub fingerprint_of : List ℕ → Fingerprint
fingerprint_of text = record { length = length text % 4294967296; first = slice_index text 0 }
