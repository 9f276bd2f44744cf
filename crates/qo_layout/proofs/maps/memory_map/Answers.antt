-- The regions are added one after another.
use Rattle.std.proofs.Common.{rules, ◌≡◌, ◌≤◌, ◌∙◌, ap, List, Err, length, arith}
use Rattle.qo_slots.specs.declared.keys.Key.{Key}
use Rattle.qo_layout.specs.Layout.{mapped, region_of}
use Rattle.qo_layout.specs.Numbering.{births_of}
use Rattle.qo_layout.proofs.AddLemmas.{added-next, boot-is, err-memory, low-is, map-is, may-boot, may-low, may-object, may-root, not-full, root-number_is, shows-map}
use Rattle.qo_layout.proofs.MapLemmas.{memory-is, root-is}
use Rattle.qo_layout.proofs.maps.memory_map.Goals as goal

pub loop-o-preserved : goal.loop-o-preserved
loop-o-preserved g c = λ b s shape.
    let listed : births_of c.deref.result.now ≡ mapped b =
    ap (λ (os : List Key). births_of os) c.deref.ensures.value ∙ c.in_ok-objects.ensures.listed b s shape (root-is b shape) (memory-is b shape) in
    added-next (region_of b) c.deref-o-items.result.now c.loop-o.o-index _ c.loop-o.map c.add_object.new.map (omega arith)
    (c.loop-o.invariant b s shape) (c.in_ok-add_object.ensures.added b s listed)

pub returns-clause-map : goal.returns-clause-map
returns-clause-map g c = λ b s shape.
    let listed = c.in_ok-objects.ensures.listed b s shape (root-is b shape) (memory-is b shape) in
    let items : births_of c.deref-o-items.result.now ≡ mapped b = ap (λ (os : List Key). births_of os) c.deref-o-items.ensures.value ∙ listed in
    let second : births_of c.deref-2.result.now ≡ mapped b = ap (λ (os : List Key). births_of os) c.deref-2.ensures.value ∙ listed in
    let third : births_of c.deref-3.result.now ≡ mapped b = ap (λ (os : List Key). births_of os) c.deref-3.ensures.value ∙ listed in
    let all : length c.deref-o-items.result.now ≤ c.loop-o.o-index = omega arith in
    let before = c.loop-o.invariant b s shape in
    let boot = boot-is b c.deref-o-items.result.now c.loop-o.o-index c.loop-o.map all items before in
    let low = low-is b c.deref-o-items.result.now c.loop-o.o-index c.loop-o.map all items before c.add_boot.new.map c.in_ok-boot.ensures.added.1 in
    let added =
    c.in_ok-root.ensures.added b third (c.in_ok-boot.ensures.added.0 ∙ boot) ((c.in_ok-low.ensures.added b second).0 ∙ low) in (
      map-is b c.deref-o-items.result.now c.loop-o.o-index c.loop-o.map all items before c.add_boot.new.map c.add_low.new.map c.add_root.new.map
          c.in_ok-boot.ensures.added.1 (c.in_ok-low.ensures.added b second).1 added.1,
      added.0
          ∙ root-number_is b c.deref-o-items.result.now c.loop-o.o-index c.loop-o.map all items before c.add_boot.new.map c.add_low.new.map
          c.in_ok-boot.ensures.added.1 (c.in_ok-low.ensures.added b second).1,
    )

-- On a sound board each may be added.

pub returns-then-len-ge-MAX_REGIONS-clause-err : goal.returns-then-len-ge-MAX_REGIONS-clause-err
returns-then-len-ge-MAX_REGIONS-clause-err g c = λ b s h shape claims.
    let full : 1048576 ≤ length c.in_ok-objects.objects.items = omega (arith, c.len.ensures, c.if-len-ge-MAX_REGIONS.true) in
    absurd
    (not-full b c.args.heap.now s c.reveal_invariant.ensures.few h shape c.in_ok-objects.objects.items
    (c.in_ok-objects.ensures.listed b s shape (root-is b shape) (memory-is b shape)) full)

pub returns-in_err-add_object-clause-err : goal.returns-in_err-add_object-clause-err
returns-in_err-add_object-clause-err g c = λ b s h shape claims.
    let is : c.from_residual-in_err-add_object.result ≡ Err c.in_err-add_object.field-0.0 = search rules in
    let may = shows-map b c.args.heap.now s c.reveal_invariant.ensures.few h shape claims in
    let whole = c.in_ok-objects.ensures.listed b s shape (root-is b shape) (memory-is b shape) in
    let listed : births_of c.deref.result.now ≡ mapped b = ap (λ (os : List Key). births_of os) c.deref.ensures.value ∙ whole in
    let items : births_of c.deref-o-items.result.now ≡ mapped b = ap (λ (os : List Key). births_of os) c.deref-o-items.ensures.value ∙ whole in
    err-memory c.from_residual-in_err-add_object.result c.in_err-add_object.field-0.0 is
    (c.in_err-add_object.ensures.err b s listed
    (may-object b may c.deref-o-items.result.now items c.loop-o.o-index _ c.loop-o.map (omega arith)
    (c.loop-o.invariant b s shape)))

pub returns-in_err-boot-clause-err : goal.returns-in_err-boot-clause-err
returns-in_err-boot-clause-err g c = λ b s h shape claims.
    let is : c.from_residual-in_err-boot.result ≡ Err c.in_err-boot.field-0.0 = search rules in
    let may = shows-map b c.args.heap.now s c.reveal_invariant.ensures.few h shape claims in
    let whole = c.in_ok-objects.ensures.listed b s shape (root-is b shape) (memory-is b shape) in
    let items : births_of c.deref-o-items.result.now ≡ mapped b = ap (λ (os : List Key). births_of os) c.deref-o-items.ensures.value ∙ whole in
    let all : length c.deref-o-items.result.now ≤ c.loop-o.o-index = omega arith in
    err-memory c.from_residual-in_err-boot.result c.in_err-boot.field-0.0 is
    (c.in_err-boot.ensures.err
    (may-boot b may c.deref-o-items.result.now items c.loop-o.o-index c.loop-o.map all (c.loop-o.invariant b s shape)))

pub returns-in_err-low-clause-err : goal.returns-in_err-low-clause-err
returns-in_err-low-clause-err g c = λ b s h shape claims.
    let is : c.from_residual-in_err-low.result ≡ Err c.in_err-low.field-0.0 = search rules in
    let may = shows-map b c.args.heap.now s c.reveal_invariant.ensures.few h shape claims in
    let whole = c.in_ok-objects.ensures.listed b s shape (root-is b shape) (memory-is b shape) in
    let items : births_of c.deref-o-items.result.now ≡ mapped b = ap (λ (os : List Key). births_of os) c.deref-o-items.ensures.value ∙ whole in
    let second : births_of c.deref-2.result.now ≡ mapped b = ap (λ (os : List Key). births_of os) c.deref-2.ensures.value ∙ whole in
    let all : length c.deref-o-items.result.now ≤ c.loop-o.o-index = omega arith in
    err-memory c.from_residual-in_err-low.result c.in_err-low.field-0.0 is
    (c.in_err-low.ensures.err b second
    (may-low b may c.deref-o-items.result.now items c.loop-o.o-index c.loop-o.map all (c.loop-o.invariant b s shape)
    c.add_boot.new.map c.in_ok-boot.ensures.added.1))

pub returns-in_err-root-clause-err : goal.returns-in_err-root-clause-err
returns-in_err-root-clause-err g c = λ b s h shape claims.
    let is : c.from_residual-in_err-root.result ≡ Err c.in_err-root.field-0.0 = search rules in
    let may = shows-map b c.args.heap.now s c.reveal_invariant.ensures.few h shape claims in
    let whole = c.in_ok-objects.ensures.listed b s shape (root-is b shape) (memory-is b shape) in
    let items : births_of c.deref-o-items.result.now ≡ mapped b = ap (λ (os : List Key). births_of os) c.deref-o-items.ensures.value ∙ whole in
    let second : births_of c.deref-2.result.now ≡ mapped b = ap (λ (os : List Key). births_of os) c.deref-2.ensures.value ∙ whole in
    let third : births_of c.deref-3.result.now ≡ mapped b = ap (λ (os : List Key). births_of os) c.deref-3.ensures.value ∙ whole in
    let all : length c.deref-o-items.result.now ≤ c.loop-o.o-index = omega arith in
    let before = c.loop-o.invariant b s shape in
    let boot = boot-is b c.deref-o-items.result.now c.loop-o.o-index c.loop-o.map all items before in
    let low =
    low-is b c.deref-o-items.result.now c.loop-o.o-index c.loop-o.map all items before c.add_boot.new.map c.in_ok-boot.ensures.added.1 in
    err-memory c.from_residual-in_err-root.result c.in_err-root.field-0.0 is
    (c.in_err-root.ensures.err b third (c.in_ok-boot.ensures.added.0 ∙ boot) ((c.in_ok-low.ensures.added b second).0 ∙ low)
    (may-root b may c.deref-o-items.result.now items c.loop-o.o-index c.loop-o.map all before c.add_boot.new.map c.add_low.new.map
    c.in_ok-boot.ensures.added.1 (c.in_ok-low.ensures.added b second).1))
