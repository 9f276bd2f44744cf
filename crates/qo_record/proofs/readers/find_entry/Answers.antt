-- Where no more is taken for an entry, none is found.
use Rattle.std.proofs.Common.{◌≡◌, true, ◌∙◌, ap, sym, None}
use Rattle.qo_record.proofs.ReplayLemmas.{none_found}
use Rattle.qo_record.proofs.PartialEntryLemmas.{wrong_found}
use Rattle.qo_record.specs.PartialEntries.{is_wrong}
use Rattle.qo_record.specs.Record.{entry_at}
use Rattle.qo_record.proofs.readers.find_entry.Goals as goal

pub returns-in-Ok-false-clause-found : goal.returns-in-Ok-false-clause-found
returns-in-Ok-false-clause-found g c =
    let entry = (rw c.in-Ok-None.field-0-is at c.in-Ok-None.ensures).entry in
    let more = (rw c.in-Ok-false.field-0-test at c.in-Ok-false.ensures).more in
    none_found c.args.version c.args.names.now _ _ _ more.0 more.1 (ap (entry_at c.args.version c.args.names.now) (sym c.buffered.ensures.value) ∙ sym entry)

pub returns-then-is_wrong-clause-found : goal.returns-then-is_wrong-clause-found
returns-then-is_wrong-clause-found g c =
    let v = c.args.version in
    let names = c.args.names.now in
    let buffered = c.loop-first.window in
    let entry = (rw c.in-Ok-None.field-0-is at c.in-Ok-None.ensures).entry in
    let none : entry_at v names buffered ≡ None = ap (entry_at v names) (sym c.buffered.ensures.value) ∙ sym entry in
    let wrong : is_wrong v names buffered ≡ true =
    ap (is_wrong v names) (sym c.buffered-in-Ok-None.ensures.value) ∙ sym c.is_wrong.ensures ∙ c.if-is_wrong.true in
    wrong_found v names buffered _ wrong none
