-- The rows come one after another, and there is room for all.
use Rattle.std.proofs.Common.{rules, ◌≡◌, ◌<◌, Err, length, arith}
use Rattle.qo_layout.specs.Growth.{HasRoom}
use Rattle.qo_layout.specs.Rows.{objects_of}
use Rattle.qo_layout.proofs.BelowLemmas.{err-memory}
use Rattle.qo_layout.proofs.LineOrderLemmas.{next-before, objects-next}
use Rattle.qo_layout.proofs.rows.add_objects.Goals as goal

pub returns-in_err-add_object-clause-err : goal.returns-in_err-add_object-clause-err
returns-in_err-add_object-clause-err g c = λ b s shape after few.
    let is : c.from_residual.result ≡ Err c.in_err-add_object.field-0.0 = search rules in
    let before = c.loop-o.invariant in
    let low : c.loop-o.o-index < length c.args.objects.now = omega arith in
    let room : HasRoom c.loop-o.net = omega (arith, before.3, few, low) in
    err-memory c.from_residual.result c.in_err-add_object.field-0.0 is
    (c.in_err-add_object.ensures.err b s shape (next-before b c.loop-o.rows.items c.args.objects.now c.loop-o.o-index _ after low before.1) room)

pub loop-o-preserved : goal.loop-o-preserved
loop-o-preserved g c =
    let before = c.loop-o.invariant in
    let low : c.loop-o.o-index < length c.args.objects.now = omega arith in (
      c.in_ok-add_object.ensures.rows,
      objects-next c.args.objects.now c.loop-o.o-index _ (objects_of c.loop-o.rows.items) (objects_of c.add_object.new.rows.items) low before.1
          c.in_ok-add_object.ensures.objects,
      λ b s shape. c.in_ok-add_object.ensures.wired b s shape (before.2 b s shape),
      omega (arith, c.in_ok-add_object.ensures.few, before.3),
    )
