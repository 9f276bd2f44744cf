-- What is left of the lines is what was touched.
use Rattle.qo_commands.proofs.InterruptLemmas.{left-lines, left-shape}
use Rattle.qo_commands.proofs.interrupts.settle_lines.Goals as goal

pub returns-in-Nothing : goal.returns-in-Nothing
returns-in-Nothing g c = left-lines c.args.touched c.args.board.now c.args.lines.now c.in-Nothing.is c.requires

pub refresh_lines-requires : goal.refresh_lines-requires
refresh_lines-requires g c = left-shape c.args.touched c.args.board.now c.args.lines.now c.in-Registers.is c.requires
