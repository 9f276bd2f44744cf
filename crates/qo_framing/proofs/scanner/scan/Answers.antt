-- An end is found in the bytes for which there is room, or with the byte after them.
use Rattle.std.proofs.Common.{◌+◌, arith, ap, sym, ◌∙◌, Some}
use Rattle.std.proofs.lemmas.List.{length-take}
use Rattle.qo_framing.specs.declared.scanner.Ending.{Ending}
use Rattle.qo_framing.proofs.Scans.{found_in_front, too_many_found}
use Rattle.qo_framing.proofs.scanner.scan.Goals as goal

pub returns-in-Ended-clause-found : goal.returns-in-Ended-clause-found
returns-in-Ended-clause-found c =
    λ front after size.
    let taken = length-take c.min-count.result c.args.bytes.now in
    found_in_front front c.args.bytes.now c.min-count.result _ (c.in-Ended.ensures.found front after (omega (arith, c.requires, c.min-count.ensures)))

pub returns-in-Some-clause-found : goal.returns-in-Some-clause-found
returns-in-Some-clause-found c =
    λ front after size.
    let taken = length-take c.min-count.result c.args.bytes.now in
    let at = c.in-Some.ensures.lookup in
    let none = c.in-Open.ensures.found front after (omega (arith, c.requires, c.min-count.ensures)) in
    too_many_found front c.args.bytes.now c.min-count.result c.in-Some.byte.now at.3.0 (omega (arith, at.3.0, c.requires, c.min-count.ensures)) none.0
    (at.3.1 0)
    ∙ ap (λ (how : Ending). Some (record { how = how; count = c.min-count.result + 1 })) (sym c.one_too_many.ensures)
