-- What `watch` does, by its status.
use Rattle.std.specs.Prelude.{◌≡◌, ◌⊎◌, ℕ, List, [], ◌∷◌, ◌++◌, Option, Some, None, IfSome, option_and_then, option_map}
use Rattle.std.specs.List.{AllByRecursion}
use Rattle.std.specs.Io.KnownBytes.{append_known, prepend_known}
use Rattle.qo_causes.specs.Bytes.{AppendsPrefix}
use Rattle.qo_model.specs.Board.{Board}
use Rattle.qo_model.specs.declared.notes.Note.{Note}
use Rattle.qo_listen.specs.Ears.{Ear}
use Rattle.qo_listen.specs.Texts.{Form, TellsText, form_text}
use Rattle.qo_telling.specs.Telling.{IsCounted}
use Rattle.qo_machine.specs.Machine.{opening}
use Rattle.qo_machine.specs.Runs.{Turn, state_after}
use Rattle.qo_machine.specs.declared.running.Ending.{Ending}
use Rattle.qo_machine.specs.declared.running.Ending.TheVariants as ending
use Rattle.compose.specs.Replay.{DidReplay, EndedReplay, IsCut, TakeToEnd, status_of}
use Rattle.compose.specs.declared.statuses.Status.{Status}
use Rattle.compose.specs.declared.statuses.Status.TheVariants.{Done, Usage, BadRecord, Memory, ReadFault, WriteFault, HubFault, InputLimit, BadBoard}

-- what a listener tells that hears some notes more, where it tells its form; and some of them, one after another, where each does
abbrev pub told_text : List Note → Ear → Option (List ℕ)
told_text notes ear = option_map (λ (form : Form). form_text form (ear.heard ++ notes)) ear.form

abbrev pub told_texts : List Note → List Ear → Option (List ℕ)
told_texts notes [] = Some []
told_texts notes (ear ∷ ears) =
    option_and_then (λ (text : List ℕ). option_map (λ (more : List ℕ). text ++ more) (told_texts notes ears)) (told_text notes ear)

-- these are the reports of listeners on a run that came to a board, while the total of its notes counts each of them
abbrev pub AreReports : List Ear → Board → List ℕ → Type 0
AreReports ears b reports = IsCounted b → IfSome (told_texts b.notes ears) (λ texts. reports ≡ texts)

-- a run of the record, if the source tells it, that came to its end; nothing is put of its transcript
abbrev pub EndedWatch : Option (List ℕ) → List Turn → Type 0
EndedWatch bytes turns = EndedReplay None None turns × IfSome bytes (TakeToEnd turns)

-- what was done with a record, if the source tells it, of which these bytes were taken, by the status; this is the place that is told. Reports are put of a run
-- that came to its end, and nothing else
abbrev pub DidWatch : Status → Option (List ℕ) → List ℕ → Option (List ℕ) → Option (List ℕ) → ℕ → List Ear → Type 0
DidWatch Done bytes taken held_old held_new place ears =
    (turns : List Turn) × EndedWatch bytes turns × (reports : List ℕ) × AreReports ears (state_after opening turns).board reports
    × (held_new ≡ append_known held_old reports)
DidWatch WriteFault bytes taken held_old held_new place ears =
    (turns : List Turn) × EndedWatch bytes turns × (reports : List ℕ) × AreReports ears (state_after opening turns).board reports
    × AppendsPrefix held_old held_new reports
DidWatch Memory bytes taken held_old held_new place ears =
    (held_new ≡ held_old) × (((turns : List Turn) × EndedWatch bytes turns) ⊎ IsCut bytes taken None None)
DidWatch BadRecord bytes taken held_old held_new place ears = (held_new ≡ held_old) × DidReplay BadRecord bytes taken None None place
DidWatch InputLimit bytes taken held_old held_new place ears = (held_new ≡ held_old) × DidReplay InputLimit bytes taken None None place
DidWatch ReadFault bytes taken held_old held_new place ears = (held_new ≡ held_old) × DidReplay ReadFault bytes taken None None place
DidWatch Usage bytes taken held_old held_new place ears = ⊥
DidWatch HubFault bytes taken held_old held_new place ears = ⊥
DidWatch BadBoard bytes taken held_old held_new place ears = ⊥

-- `watch`: these bytes were taken from the source, and this was done with the record that it had ahead; this is the place that is told
pub record Watched (status : Status) (left_old left_new held_old held_new : Option (List ℕ)) (taken : List ℕ) (place : ℕ) (ears : List Ear) : Type 0 where
  pub took : left_old ≡ prepend_known taken left_new
  pub did : DidWatch status left_old taken held_old held_new place ears

-- For proofs alone. What was put of reports, by the status that it gives.
abbrev pub PutReports : Status → Option (List ℕ) → Option (List ℕ) → List ℕ → Type 0
PutReports Done held_old held_new reports = held_new ≡ append_known held_old reports
PutReports WriteFault held_old held_new reports = AppendsPrefix held_old held_new reports
PutReports Memory held_old held_new reports = held_new ≡ held_old
PutReports status held_old held_new reports = ⊥

-- and what was put after a run that ended so
abbrev pub EndedWith : Ending → Status → Option (List ℕ) → Option (List ℕ) → List ℕ → Type 0
EndedWith ending.Done status held_old held_new reports = PutReports status held_old held_new reports
EndedWith e status held_old held_new reports = (status ≡ status_of e) × (held_new ≡ held_old)

-- each listener that tells its form tells in that form
abbrev pub AllTell : List Ear → Type 0
AllTell ears = AllByRecursion (λ (e : Ear). TellsText e.form e.text e.heard) ears
