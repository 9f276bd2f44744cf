use Rattle.std.proofs.Common.{◌≡◌, refl, true, false, sym, ◌∙◌}
use Rattle.qo_values.specs.Properties.{admits}
use Rattle.qo_model.specs.Changes.{set}
use Rattle.qo_heap.proofs.BoardChanges.{shows-set}
use Rattle.qo_object.specs.Content.{set_at}
use Rattle.qo_properties.proofs.ClaimLemmas.{edit-keeps}
use Rattle.qo_properties.proofs.PinLemmas.{edited-pins}
use Rattle.qo_properties.proofs.WriteLemmas.{plain-is}
use Rattle.qo_properties.proofs.KeptLemmas.{edit-kept}
use Rattle.qo_properties.proofs.writing.writes.write_plain.Goals as goal

pub returns-then-not-is_plain-clause-written : goal.returns-then-not-is_plain-clause-written
returns-then-not-is_plain-clause-written g c = λ b s.
    plain-is b c.args.heap.now s c.args.o.birth c.args.at c.args.val.now c.args.ty false (sym c.is_plain.ensures ∙ c.if-not-is_plain.true)

pub returns-in-Err-clause-written : goal.returns-in-Err-clause-written
returns-in-Err-clause-written g c = λ b s.
    let misfits : admits c.args.ty c.args.val.now ≡ false = sym c.in-Err.ensures in
    plain-is b c.args.heap.now s c.args.o.birth c.args.at c.args.val.now c.args.ty true (sym c.is_plain.ensures ∙ c.if-not-is_plain.false) ∙ rw misfits refl

pub returns-clause-written : goal.returns-clause-written
returns-clause-written g c = λ b s.
    let fits : admits c.args.ty c.args.val.now ≡ true = sym c.in_default.ensures in (
      set c.args.o.birth c.args.at c.args.val.now b,
      plain-is b c.args.heap.now s c.args.o.birth c.args.at c.args.val.now c.args.ty true (sym c.is_plain.ensures ∙ c.if-not-is_plain.false) ∙ rw fits refl,
      rw (c.set.ensures.now, c.in_ok-copy.ensures) (shows-set b c.args.heap.now s c.args.o.birth c.args.at c.args.val.now),
    )

pub returns-clause-pins : goal.returns-clause-pins
returns-clause-pins g c = edited-pins c.args.heap.now c.set.new.self c.args.o.birth (set_at c.in_ok-copy.copy c.args.at) (λ d. refl) c.set.ensures.now

pub returns-clause-book : goal.returns-clause-book
returns-clause-book g c = edit-keeps c.args.heap.now c.set.new.self c.args.o.birth (set_at c.in_ok-copy.copy c.args.at) (λ d. refl) c.set.ensures.now

pub returns-clause-kept : goal.returns-clause-kept
returns-clause-kept g c =
    edit-kept c.args.heap.now c.set.new.self c.args.o.birth (set_at c.in_ok-copy.copy c.args.at) (λ d. refl) c.set.ensures.now
