-- A name leads to what its slot names.
use Rattle.std.proofs.Common.{ap, sym, ◌∙◌, find, refl}
use Rattle.std.specs.Str.{bytes_eq}
use Rattle.qo_object.specs.BoardObject.{birth_of}
use Rattle.qo_object.specs.Slots.{Named}
use Rattle.qo_heap.specs.Objects.{slots_of}
use Rattle.qo_paths.proofs.WalkLemmas.{named-live, next-is}
use Rattle.qo_paths.proofs.walks.next_of.Goals as goal

pub returns-clause-next : goal.returns-clause-next
returns-clause-next g c = λ b s.
    ap birth_of c.named.ensures.named
    ∙ sym (next-is b c.args.heap.now s c.args.o.birth c.args.name.now
    (find (λ (t : Named). bytes_eq c.args.name.now t.0) (slots_of c.args.heap.now c.args.o.birth)) refl)

pub returns-clause-live : goal.returns-clause-live
returns-clause-live g c =
    rw c.named.ensures.named (named-live c.args.heap.now c.reveal_invariant.ensures c.args.o.birth (λ (t : Named). bytes_eq c.args.name.now t.0))
