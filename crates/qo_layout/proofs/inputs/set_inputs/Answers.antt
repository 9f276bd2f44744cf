-- An input that is set leaves those of the other rows.
use Rattle.std.proofs.Common.{◌∙◌, ◌<◌, ap, List, length, arith}
use Rattle.qo_irq.specs.Wires.{Wire}
use Rattle.qo_layout.specs.Rows.{row_at}
use Rattle.qo_layout.proofs.RowLemmas.{input-length, input-rows, input-there, input-wired, set-next}
use Rattle.qo_layout.proofs.inputs.set_inputs.Goals as goal

pub loop-row-preserved : goal.loop-row-preserved
loop-row-preserved g c =
    let i = c.loop-row.row-index in
    let rows = c.args.rows.now in
    let wires = c.loop-row.net in
    let before = c.loop-row.invariant in
    let within : i < length rows = omega arith in
    let (high, rest) = c.set_input.ensures in
    let there = input-there rows wires i before.0 within in (
      rw rest.0 (input-rows rows wires (row_at rows i).input high before.0 there),
      ap (λ (ws : List Wire). length ws) rest.0 ∙ input-length wires (row_at rows i).input high ∙ before.1,
      λ b wired. rw rest.0 (input-wired b rows wires (row_at rows i).input high before.0 there (before.2 b wired)),
      λ b s fit. set-next b rows wires c.set_input.new.net i high before.0 within rest.0 (rest.1 b s fit) (before.3 b s fit),
    )
