-- The texts of notes.
use Rattle.std.specs.Prelude.{ℕ, ◌-◌, ◌^◌, min, List, ◌∷◌, length, drop, codes, decimal, Option, None, Some, option_map, option_to_list}
use Rattle.std.specs.List.{join_with_byte}
use Rattle.qo_values.specs.Kinds.{type_name}
use Rattle.qo_values.specs.declared.kinds.Act.TheVariants.{Init, Realize, Unrealize, Enter, Wake, Hold, Exit, Pre, Update}
use Rattle.qo_values.specs.declared.kinds.TypeId.{TypeId}
use Rattle.qo_values.specs.declared.limits.TheConstants.{NOTES_KEPT}
use Rattle.qo_model.specs.declared.notes.Deed.{Deed}
use Rattle.qo_model.specs.declared.notes.Deed.TheVariants.{Did, Final}
use Rattle.qo_model.specs.declared.notes.Note.{Note}

-- the word of what was done
abbrev pub deed_word : Deed → List ℕ
deed_word (Did (Init t)) = codes "init"
deed_word (Did Realize) = codes "realize"
deed_word (Did Unrealize) = codes "unrealize"
deed_word (Did Enter) = codes "enter"
deed_word (Did Wake) = codes "wake"
deed_word (Did Hold) = codes "hold"
deed_word (Did Exit) = codes "exit"
deed_word (Did Pre) = codes "pre"
deed_word (Did Update) = codes "update"
deed_word (Final t) = codes "final"

-- the type whose initializer or finalizer ran
abbrev pub deed_type : Deed → Option TypeId
deed_type (Did (Init t)) = Some t
deed_type (Did _) = None
deed_type (Final t) = Some t

-- a note's text: the word, the birth, and for init and final the type's name, with a space between each two
abbrev pub note_text : Note → List ℕ
note_text n = join_with_byte 32 (deed_word n.deed ∷ decimal n.birth ∷ option_to_list (option_map type_name (deed_type n.deed)))

-- how many notes there were; the number stays at 2^64 - 1 once it is there
abbrev pub total_of : List Note → ℕ
total_of notes = min (length notes) (2 ^ 64 - 1)

-- the notes that are kept: the last `NOTES_KEPT`
abbrev pub kept_of : List Note → List Note
kept_of notes = drop (length notes - NOTES_KEPT) notes
