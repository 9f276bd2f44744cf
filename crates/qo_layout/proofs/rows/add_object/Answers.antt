-- The row comes after the others, and what is below it has lower lines.
use Rattle.std.proofs.Common.{rules, ◌≡◌, Err, List, sym, subst}
use Rattle.qo_layout.specs.Rows.{AreLines}
use Rattle.qo_layout.specs.declared.wiring.Row.{Row}
use Rattle.qo_model.specs.Reset.{below}
use Rattle.qo_layout.proofs.BelowLemmas.{err-memory, lines-there}
use Rattle.qo_layout.proofs.RowLemmas.{grown-rows, grown-wired}
use Rattle.qo_layout.proofs.rows.add_object.Goals as goal

pub returns-in_err-row-clause-err : goal.returns-in_err-row-clause-err
returns-in_err-row-clause-err g c = λ b s shape all room.
    let is : c.from_residual-in_err-row.result ≡ Err c.in_err-row.field-0.0 = search rules in
    let are : AreLines c.args.rows.now.items (below b c.args.o.birth) c.in_ok-below.below.items =
    subst (λ (rows : List Row). AreLines rows (below b c.args.o.birth) c.in_ok-below.below.items) c.deref.ensures.value (c.in_ok-below.ensures.lines b s shape (c.wiring-driven.ensures b s)) in
    err-memory c.from_residual-in_err-row.result c.in_err-row.field-0.0 is
    (c.in_err-row.ensures.err room (lines-there c.args.rows.now.items c.args.net.now c.requires.rows (below b c.args.o.birth) c.in_ok-below.below.items are))

pub returns-in-Ok-clause-rows : goal.returns-in-Ok-clause-rows
returns-in-Ok-clause-rows g c =
    rw c.in-Ok.ensures.items (grown-rows c.args.rows.now.items c.args.net.now c.add_line.new.net c.wiring-driven.result c.args.o.birth c.in_ok-below.below.items
    c.in_ok-row.row c.requires.rows c.in_ok-row.ensures.added)

pub returns-in-Ok-clause-wired : goal.returns-in-Ok-clause-wired
returns-in-Ok-clause-wired g c = λ b s shape wired.
    let are : AreLines c.args.rows.now.items (below b c.args.o.birth) c.in_ok-below.below.items =
    subst (λ (rows : List Row). AreLines rows (below b c.args.o.birth) c.in_ok-below.below.items) c.deref.ensures.value (c.in_ok-below.ensures.lines b s shape (c.wiring-driven.ensures b s)) in
    rw c.in-Ok.ensures.items (grown-wired b c.args.rows.now.items c.args.net.now c.add_line.new.net c.wiring-driven.result c.args.o.birth c.in_ok-below.below.items
    c.in_ok-row.row c.requires.rows c.in_ok-row.ensures.added (sym (c.wiring-driven.ensures b s)) are wired)
