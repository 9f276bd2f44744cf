-- One more, or the first that is refused.
use Rattle.std.proofs.Common.{◌≡◌, ◌≤◌, ◌<◌, Err, ◌∙◌, arith, rules}
use Rattle.qo_save.specs.Rebuilding.{add_object}
use Rattle.qo_shape.specs.Said.{object_said}
use Rattle.qo_rebuild.proofs.StepLemmas.{went-none}
use Rattle.qo_rebuild.proofs.StepLemmas.{list-all, list-next, list-stops}
use Rattle.qo_rebuild.proofs.objects.add_objects.Goals as goal

pub loop-object-init : goal.loop-object-init
loop-object-init g c = λ b s. went-none b c.args.board.now s

pub returns-in_err-add_object : goal.returns-in_err-add_object
returns-in_err-add_object g c = λ b s.
    let is : c.from_residual.result ≡ Err c.in_err-add_object.field-0.0 = search rules in
    list-stops add_object object_said c.args.objects.now c.loop-object.object-index c.object-item.result (omega arith) c.object-item.is b c.loop-object.board
    c.add_object.new.board
    c.from_residual.result c.in_err-add_object.field-0.0 (c.loop-object.invariant b s) is c.in_err-add_object.ensures

pub loop-object-preserved : goal.loop-object-preserved
loop-object-preserved g c = λ b s.
    list-next add_object object_said c.args.objects.now c.loop-object.object-index c.object-item.result (omega arith) c.object-item.is b c.loop-object.board
    c.add_object.new.board
    (c.loop-object.invariant b s) c.in_ok-add_object.ensures

pub returns : goal.returns
returns g c = λ b s.
    list-all add_object object_said c.args.objects.now c.loop-object.object-index (omega arith) b c.loop-object.board (c.loop-object.invariant b s)
