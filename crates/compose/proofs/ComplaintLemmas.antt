-- A line in two parts.
use Rattle.std.proofs.Common.{◌≡◌, refl, ℕ, List, ◌++◌, ◌∙◌, ap, codes, Option, Result, Ok, Err}
use Rattle.std.specs.Io.KnownBytes.{append_known}
use Rattle.qo_causes.proofs.BytesLemmas.{append_known_twice}
use Rattle.qo_causes.specs.Bytes.{AppendsPrefix, PutsAll}
use Rattle.qo_machine.proofs.SendingLemmas.{front_after, front_more}
use Rattle.qo_values.specs.declared.codes.Code.{Code}
use Rattle.compose.specs.Rebuild.{board_line}
use Rattle.compose.specs.Replay.{line_of}
use Rattle.compose.specs.declared.statuses.Status.{Status}
use Rattle.compose.specs.declared.statuses.Status.TheVariants.{Done, Usage, BadRecord, Memory, ReadFault, WriteFault, HubFault, InputLimit, BadBoard}

abbrev words : List ℕ
words = codes "compose: bad record at byte "

pub words_cut : (old new : Option (List ℕ)) (more : List ℕ) → AppendsPrefix old new words → AppendsPrefix old new (words ++ more)
words_cut old new more p = front_more old new words more p

pub puts_after : {T E : Type 0} (old mid new : Option (List ℕ)) (r : Result T E) (more : List ℕ) → mid ≡ append_known old words → PutsAll mid new r more →
    PutsAll old new r (words ++ more)
puts_after old mid new (Ok u) more whole p =
    p ∙ ap (λ (k : Option (List ℕ)). append_known k more) whole ∙ append_known_twice old words more
puts_after old mid new (Err e) more whole p = front_after old mid new words more whole p

-- the same of any words
pub puts_on : {T E : Type 0} (front : List ℕ) (old mid new : Option (List ℕ)) (r : Result T E) (more : List ℕ) → mid ≡ append_known old front
    → PutsAll mid new r more → PutsAll old new r (front ++ more)
puts_on front old mid new (Ok u) more whole p =
    p ∙ ap (λ (k : Option (List ℕ)). append_known k more) whole ∙ append_known_twice old front more
puts_on front old mid new (Err e) more whole p = front_after old mid new front more whole p

-- each line but that of a bad board is that of its status
pub other_line : (status : Status) (why : Option Code) → (status ≡ BadBoard → ⊥) → board_line status why ≡ line_of status 0
other_line Done why other = refl
other_line Usage why other = refl
other_line BadRecord why other = refl
other_line Memory why other = refl
other_line ReadFault why other = refl
other_line WriteFault why other = refl
other_line HubFault why other = refl
other_line InputLimit why other = refl
other_line BadBoard why other = absurd (other refl)
