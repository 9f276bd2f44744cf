-- An object that has not ended is one whose scanner is known.
use Rattle.std.proofs.Common.{◌∷◌, [], refl}
use Rattle.qo_framing.proofs.UnfinishedObjects.{unfinished_begun}
use Rattle.qo_framing.proofs.parts.object_part.Goals as goal

pub returns-in-Open-clause-scanned : goal.returns-in-Open-clause-scanned
returns-in-Open-clause-scanned c =
    let none = c.in-Open.ensures.found (123 ∷ []) c.begun.ensures refl in
    unfinished_begun c.args.bytes.now c.args.inner.now c.in-Open.scanner c.requires none.0 none.1 c.in-Open.ensures.open
