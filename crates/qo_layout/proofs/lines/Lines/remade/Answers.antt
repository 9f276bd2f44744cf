-- The objects come each after what is below it, and then their inputs are set.
use Rattle.std.proofs.Common.{rules, ◌≡◌, ◌∙◌, ap, sym, subst, Err, List}
use Rattle.qo_slots.specs.declared.keys.Key.{Key}
use Rattle.qo_layout.specs.Layout.{mapped}
use Rattle.qo_layout.specs.Numbering.{births_of}
use Rattle.qo_layout.proofs.MapLemmas.{memory-is, root-is}
use Rattle.qo_layout.specs.Growth.{ComeAfter}
use Rattle.qo_layout.specs.Rows.{AreRows, AreSet, AreSlots, AreWired, objects_of}
use Rattle.qo_layout.specs.declared.wiring.Row.{Row}
use Rattle.qo_layout.proofs.BelowLemmas.{err-memory}
use Rattle.qo_layout.proofs.LineOrderLemmas.{few-objects, mapped-after, slot-row}
use Rattle.qo_layout.proofs.lines.Lines.remade.Goals as goal

pub returns-in_err-add_objects-clause-err : goal.returns-in_err-add_objects-clause-err
returns-in_err-add_objects-clause-err g c = λ b s h shape.
    let is : c.from_residual-in_err-add_objects.result ≡ Err c.in_err-add_objects.field-0.0 = search rules in
    let listed : births_of c.deref.result.now ≡ mapped b =
    ap (λ (os : List Key). births_of os) c.deref.ensures.value ∙ c.in_ok-list_mapped.ensures.listed b s shape (root-is b shape) (memory-is b shape) in
    err-memory c.from_residual-in_err-add_objects.result c.in_err-add_objects.field-0.0 is
    (c.in_err-add_objects.ensures.err b s shape (subst (ComeAfter b) (sym listed) (mapped-after b h shape))
    (few-objects b c.args.heap.now s c.reveal_invariant.ensures.few h shape c.deref.result.now listed))

pub returns-in_err-list_slots-clause-err : goal.returns-in_err-list_slots-clause-err
returns-in_err-list_slots-clause-err g c = λ b s h shape.
    let is : c.from_residual-in_err-list_slots.result ≡ Err c.in_err-list_slots.field-0.0 = search rules in
    let listed : births_of c.deref.result.now ≡ mapped b =
    ap (λ (os : List Key). births_of os) c.deref.ensures.value ∙ c.in_ok-list_mapped.ensures.listed b s shape (root-is b shape) (memory-is b shape) in
    let objects : objects_of c.deref-2.result.now ≡ mapped b =
    ap (λ (rows : List Row). objects_of rows) c.deref-2.ensures.value ∙ c.in_ok-add_objects.ensures.objects ∙ listed in
    err-memory c.from_residual-in_err-list_slots.result c.in_err-list_slots.field-0.0 is
    (c.in_err-list_slots.ensures.err b s (slot-row b h shape c.deref-2.result.now objects))

pub returns-clause-lines : goal.returns-clause-lines
returns-clause-lines g c = λ b s shape fit.
    let listed : births_of c.deref.result.now ≡ mapped b =
    ap (λ (os : List Key). births_of os) c.deref.ensures.value ∙ c.in_ok-list_mapped.ensures.listed b s shape (root-is b shape) (memory-is b shape) in
    let same = c.deref-3.ensures.value in
    record {
      shaped = record {
        objects = c.in_ok-add_objects.ensures.objects ∙ listed;
        rows = subst (λ (rows : List Row). AreRows rows c.set_inputs.new.net) same c.set_inputs.ensures.rows;
        wired = subst (λ (rows : List Row). AreWired b rows c.set_inputs.new.net) same
            (c.set_inputs.ensures.wired b (subst (λ (rows : List Row). AreWired b rows c.add_objects.new.net) (sym same) (c.in_ok-add_objects.ensures.wired b s shape)));
        slots = subst (λ (rows : List Row). AreSlots b rows 8 c.list_slots.new.slots.items) c.deref-2.ensures.value (c.in_ok-list_slots.ensures.slots b s);
      };
      set = subst (λ (rows : List Row). AreSet b rows c.set_inputs.new.net) same (c.set_inputs.ensures.set b s fit);
    }
