-- What the worked rows say: who is wanted, the numbers of clocks written one after another, and notes as words.
use Rattle.std.proofs.Common.{ℕ, List, Some, None, [], Result, Ok, Err}
use Rattle.qo_model.proofs.Common.{Code, Board, clock_scaled, clock_set, deed_word, Wanted}
use Rattle.qo_model.specs.declared.notes.Deed.{Deed}
use Rattle.qo_model.specs.declared.notes.Note.{Note}

-- a note on an object, and a note as its word and its birth
abbrev pub note : ℕ → Deed → Note
note n deed = record { birth = n; deed = deed }

abbrev pub told : Note → List ℕ × ℕ
told x = (deed_word x.deed, x.birth)

-- a device under an id, on any bus, with nothing given
abbrev pub wanted : List ℕ → List ℕ → Wanted
wanted driver id = record { driver = driver; id = Some id; bus = None; props = [] }

-- a clock's own period, or its mul and div, written where nothing was refused before
abbrev pub then_set : ℕ → ℕ → Result Board Code → Result Board Code
then_set c n (Ok b) = clock_set b c n
then_set c n (Err code) = Err code

abbrev pub then_scaled : ℕ → ℕ → ℕ → Result Board Code → Result Board Code
then_scaled c mul div (Ok b) = clock_scaled b c mul div
then_scaled c mul div (Err code) = Err code
