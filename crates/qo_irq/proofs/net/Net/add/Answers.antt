use Rattle.std.proofs.Common.{◌≡◌, ◌≢◌, ℕ, true, false, length, sym, ap, ◌∙◌, arith, refl}
use Rattle.std.proofs.lemmas.Result.{err_from_is_err_and}
use Rattle.qo_irq.specs.Kept.{depends, dependants_at, names}
use Rattle.qo_irq.specs.Wires.{wire_of, level_at, gate_level, names_below}
use Rattle.qo_irq.proofs.Nets.{grown, added-wires, refilled}
use Rattle.qo_irq.proofs.WiresLemmas.{wires-length}
use Rattle.qo_irq.proofs.net.Net.add.Goals as goal

pub returns-then-not-names_below : goal.returns-then-not-names_below
returns-then-not-names_below c =
    let n : c.len-line.result ≡ length c.self.inside.gates.items = omega (arith, c.len-line.ensures, c.self.inside.gates.ok.0) in (
      rw (← c.self.view_is, wires-length c.self.inside.gates.items c.self.inside.levels.items, ← n) (sym c.names_below.ensures ∙ c.if-not-names_below.true),
      refl,
    )

pub returns-then-line-ge-MAX_LINES : goal.returns-then-line-ge-MAX_LINES
returns-then-line-ge-MAX_LINES c =
    let n : c.len-line.result ≡ length c.self.inside.gates.items = omega (arith, c.len-line.ensures, c.self.inside.gates.ok.0) in (
      rw (← c.self.view_is, wires-length c.self.inside.gates.items c.self.inside.levels.items, ← n) (sym c.names_below.ensures ∙ c.if-not-names_below.false),
      rw (← c.self.view_is, wires-length c.self.inside.gates.items c.self.inside.levels.items, ← n) c.if-line-ge-MAX_LINES.true,
      refl,
    )

pub returns-in_err-make_room : goal.returns-in_err-make_room
returns-in_err-make_room c =
    let n : c.len-line.result ≡ length c.self.inside.gates.items = omega (arith, c.len-line.ensures, c.self.inside.gates.ok.0) in
    let p = err_from_is_err_and c.from_residual.result c.from_residual.ensures.1 in
    rw (p.1, p.2) (
      rw (← c.self.view_is, wires-length c.self.inside.gates.items c.self.inside.levels.items, ← n) (sym c.names_below.ensures ∙ c.if-not-names_below.false),
      rw (← c.self.view_is, wires-length c.self.inside.gates.items c.self.inside.levels.items, ← n) (omega (arith, c.if-line-ge-MAX_LINES.false)),
      rw (c.make_room.ensures.kept.0, c.make_room.ensures.kept.2) c.self.view_is,
    )

pub returns-in_err-connect : goal.returns-in_err-connect
returns-in_err-connect c =
    let n : c.len-line.result ≡ length c.self.inside.gates.items = omega (arith, c.len-line.ensures, c.self.inside.gates.ok.0) in
    let p = err_from_is_err_and c.from_residual-in_err-connect.result c.from_residual-in_err-connect.ensures.1 in
    rw (p.1, p.2) (
      rw (← c.self.view_is, wires-length c.self.inside.gates.items c.self.inside.levels.items, ← n) (sym c.names_below.ensures ∙ c.if-not-names_below.false),
      rw (← c.self.view_is, wires-length c.self.inside.gates.items c.self.inside.levels.items, ← n) (omega (arith, c.if-line-ge-MAX_LINES.false)),
      rw (c.make_room.ensures.kept.0, c.make_room.ensures.kept.2) c.self.view_is,
    )

pub invariant_of-self-2 : goal.invariant_of-self-2
invariant_of-self-2 c =
    let n : c.len-line.result ≡ length c.self.inside.gates.items = omega (arith, c.len-line.ensures, c.self.inside.gates.ok.0) in
    let gates : c.make_room.new.gates.items ≡ c.self.inside.gates.items = c.make_room.ensures.kept.0 in
    let lines : c.deref_mut.result.now ≡ c.self.inside.dependants.items = c.deref_mut.ensures.value ∙ c.make_room.ensures.kept.1 in
    let levels : c.deref.result.now ≡ c.self.inside.levels.items = c.deref.ensures.value ∙ c.make_room.ensures.kept.2 in
    let all : length c.connect.new.dependants ≡ length c.self.inside.dependants.items = c.connect.auto.dependants ∙ ap length lines in
    let unmoved : (i x : ℕ) → i ≢ length c.self.inside.gates.items
    → depends i (dependants_at c.connect.new.dependants x) ≡ depends i (dependants_at c.self.inside.dependants.items x) =
    rw (← n, ← lines) c.in_ok-connect.ensures.kept in
    let added : (x : ℕ) → names x c.args.gate ≡ true → depends (length c.self.inside.gates.items) (dependants_at c.connect.new.dependants x) ≡ true =
    rw (← n) c.in_ok-connect.ensures.added in
    let below : names_below (length c.self.inside.gates.items) (wire_of c.args.gate false) ≡ true =
    rw (← n) (sym c.names_below.ensures ∙ c.if-not-names_below.false) in
    let is : c.level-level.result ≡ gate_level (level_at c.self.inside.levels.items) (wire_of c.args.gate (level_at c.self.inside.levels.items (length c.self.inside.gates.items))) =
    rw (← n, ← levels) c.level-level.ensures in
    rw (
      c.push_reserved.ensures.items,
      c.push_reserved-2.ensures.items,
      c.push_reserved-3.ensures.items,
      c.push_reserved-4.ensures.items,
      refilled c.make_room.new.dependants.len c.connect.new.dependants c.make_room.new.dependants.items (omega (arith, all, ap length c.make_room.ensures.kept.1, c.make_room.new.dependants.ok.0)),
      c.new.ensures,
      c.make_room.ensures.kept.0,
      c.make_room.ensures.kept.2,
      c.make_room.ensures.kept.3,
    )
    (grown c.self.inside.gates.items c.self.inside.dependants.items c.connect.new.dependants c.self.inside.levels.items c.self.inside.pending.items
    c.self.inside.inputs c.input_count.result c.args.gate c.level-level.result c.self.invariant all unmoved added below (omega (arith, n, c.if-line-ge-MAX_LINES.false)) is
    c.input_count.ensures)

pub returns : goal.returns
returns c =
    let n : c.len-line.result ≡ length c.self.inside.gates.items = omega (arith, c.len-line.ensures, c.self.inside.gates.ok.0) in
    let levels : c.deref.result.now ≡ c.self.inside.levels.items = c.deref.ensures.value ∙ c.make_room.ensures.kept.2 in
    let is : c.level-level.result ≡ gate_level (level_at c.self.inside.levels.items) (wire_of c.args.gate (level_at c.self.inside.levels.items (length c.self.inside.gates.items))) =
    rw (← n, ← levels) c.level-level.ensures in (
      rw (← c.self.view_is, wires-length c.self.inside.gates.items c.self.inside.levels.items, ← n) (sym c.names_below.ensures ∙ c.if-not-names_below.false),
      rw (← c.self.view_is, wires-length c.self.inside.gates.items c.self.inside.levels.items, ← n) (omega (arith, c.if-line-ge-MAX_LINES.false)),
      n ∙ sym (wires-length c.self.inside.gates.items c.self.inside.levels.items) ∙ ap length c.self.view_is,
      rw (c.push_reserved.ensures.items, c.push_reserved-2.ensures.items, c.make_room.ensures.kept.0, c.make_room.ensures.kept.2, ← c.self.view_is)
          (added-wires c.self.inside.gates.items c.self.inside.levels.items c.args.gate c.level-level.result c.self.invariant.levels_all is),
    )
