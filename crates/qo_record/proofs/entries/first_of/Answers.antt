-- The bytes after an entry are the last so many.
use Rattle.std.proofs.Common.{ℕ, ◌-◌, List, length, drop, Some, sym, ◌∙◌, ap}
use Rattle.qo_causes.specs.declared.inputs.What.{What}
use Rattle.qo_record.proofs.NameLemmas.{of_sixteen}
use Rattle.qo_record.proofs.WindowLemmas.{after_size}
use Rattle.qo_record.specs.Streams.{entry_said}
use Rattle.qo_record.proofs.entries.first_of.Goals as goal

pub overflow_sub-result : goal.overflow_sub-result
overflow_sub-result c =
    (after_size c.args.version c.args.names.now c.args.bytes.now (entry_said c.in-Some.entry) (sym c.in-Some.ensures.entry)).0

pub returns-clause-entry : goal.returns-clause-entry
returns-clause-entry c =
    let entry = c.in-Some.entry in
    let size = after_size c.args.version c.args.names.now c.args.bytes.now (entry_said entry) (sym c.in-Some.ensures.entry) in
    let rest : List ℕ = drop (length c.args.bytes.now - length entry.rest.now) c.args.bytes.now in
    ap (λ (what : What). Some (record { input = record { at = entry.at; what = what }; session = c.session_of.result }, rest)) c.in_ok-what.ensures
    ∙ ap (λ (l : List ℕ). Some (record { input = (entry_said entry).0.input; session = l }, rest)) c.session_of.ensures
    ∙ ap (λ (l : List ℕ). Some ((entry_said entry).0, l)) size.1 ∙ c.in-Some.ensures.entry

pub returns-clause-number : goal.returns-clause-number
returns-clause-number c = rw c.in_ok-what.ensures (of_sixteen c.in-Some.entry.said c.in-Some.ensures.fits)
