-- For proofs alone. An object by itself, as one of the board's.
use Rattle.std.specs.Prelude.{ℕ, true, false, List, map, Option, option_map}
use Rattle.qo_kinds.specs.Bodies.{registers_of}
use Rattle.qo_slots.specs.declared.keys.Key.{Key}
use Rattle.qo_model.specs.Board as board
use Rattle.qo_object.specs.declared.slots.Slot.{Slot}
use Rattle.qo_object.specs.declared.slots.Slot.TheVariants.{Plain, Child, Link, Alias}
use Rattle.qo_object.specs.Content.{Content}

-- the birth of the object that is named
abbrev pub birth_of : Option Key → Option ℕ
birth_of key = option_map (λ (k : Key). k.birth) key

-- a slot, as the board has it: objects are named by their births
abbrev pub shown_slot : Slot → board.Slot
shown_slot (Plain val) = board.plain val
shown_slot (Child key) = board.child key.birth
shown_slot (Link ty true target) = board.strong ty (birth_of target)
shown_slot (Link ty false target) = board.weak ty (birth_of target)
shown_slot (Alias key name) = board.alias key.birth name

abbrev pub shown_slots : List (List ℕ × Slot) → List (List ℕ × board.Slot)
shown_slots slots = map (λ (s : List ℕ × Slot). (s.0, shown_slot s.1)) slots

-- the object of a birth
abbrev pub shown : ℕ → Content → board.Record
shown birth c =
    record {
      birth = birth;
      kind = c.kind;
      slots = shown_slots c.slots;
      registers = registers_of c.body;
      device_id = c.device_id;
      kept_path = c.kept_path;
    }
