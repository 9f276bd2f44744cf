-- A text is read, or is no JSON.
use Rattle.std.proofs.Common.{◌≡◌, sym, ◌∙◌, true≢false}
use Rattle.serde_json.specs.Errors.{IsMemory}
use Rattle.qo_json.proofs.OrderLemmas.{read_ordered}
use Rattle.qo_shape.proofs.DescriptionLemmas.{text-read, text-refused}
use Rattle.qo_shape.proofs.ReadLemmas.{reads-as}
use Rattle.qo_shape.specs.Said.{said}
use Rattle.qo_shape.proofs.reading.read_description.Goals as goal

pub description_in-requires : goal.description_in-requires
description_in-requires c = rw c.in_ok-of-in-Ok.ensures (read_ordered c.args.text.now _ c.in-Ok.ensures.ok.1)

pub returns-in_ok-of-in-Ok : goal.returns-in_ok-of-in-Ok
returns-in_ok-of-in-Ok c =
    reads-as said c.description_in.result _ _ (text-read _ _ c.in-Ok.ensures.ok.0 c.in-Ok.ensures.ok.1)
    (rw c.in_ok-of-in-Ok.ensures at c.description_in.ensures)

pub returns-in-Err-2 : goal.returns-in-Err-2
returns-in-Err-2 c =
    let other : IsMemory c.in-Err.error → ⊥ = λ m. true≢false (sym (c.if-is_memory.ensures.1 m)) in
    text-refused _ (c.in-Err.ensures.err other)
