use Rattle.std.proofs.Common.{◌≡◌, refl, ap, sym, subst, List, ◌+◌, ◌-◌, ◌<◌, ◌≤◌, length, arith}
use Rattle.qo_slots.specs.declared.keys.Key.{Key}
use Rattle.qo_object.specs.Content.{Content}
use Rattle.qo_heap.specs.Rows.{IsLive}
use Rattle.qo_heap.specs.Objects.{Objects}
use Rattle.qo_life.proofs.BirthLemmas.{inits-first, inits-step}
use Rattle.qo_life.proofs.birth.initialize_whole.Goals as goal

pub loop-left-init : goal.loop-left-init
loop-left-init g c =
    (inits-first c.args.o.birth c.ancestry-ancestry.result.now (length c.ancestry-ancestry.result.now) c.args.heap.now refl, omega arith)

pub initialize-requires : goal.initialize-requires
initialize-requires g c = subst (λ (rows : List (Key × Content)). IsLive rows c.args.o) (sym (ap (λ (v : Objects). v.rows) c.loop-left.invariant.0)) c.requires

pub loop-left-preserved : goal.loop-left-preserved
loop-left-preserved g c =
    let some : 0 < c.loop-left.left = c.loop-left-test.true in
    let few : c.loop-left.left ≤ length c.ancestry-ancestry.result.now = c.loop-left.invariant.1 in
    let one : c.loop-left.left ≡ (c.loop-left.left - 1) + 1 = omega arith in (
      inits-step c.args.o.birth c.ancestry-ancestry.result.now (c.loop-left.left - 1) _ c.args.heap.now c.loop-left.heap c.initialize.new.heap (omega arith)
          (rw (← one) c.loop-left.invariant.0) c.initialize.ensures,
      omega arith,
    )
