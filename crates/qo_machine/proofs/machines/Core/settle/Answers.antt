-- What is left of the lines is left as the fields are.
use Rattle.std.proofs.Common.{◌≡◌, ap, sym, subst}
use Rattle.qo_commands.specs.Touched.{IsLeft}
use Rattle.qo_realize.specs.Parts.{Parts}
use Rattle.qo_layout.specs.Rows.{Wired}
use Rattle.qo_machine.specs.Machine.{Seen}
use Rattle.qo_machine.proofs.MachineLemmas.{seen_board}
use Rattle.qo_machine.proofs.machines.Core.settle.Goals as goal

pub settle_lines-requires : goal.settle_lines-requires
settle_lines-requires g c =
    let lines : c.self.inside.lines ≡ c.args.self.now.lines = ap (λ (m : Seen). m.lines) c.self.view_is in
    subst (λ (p : Parts). IsLeft c.args.touched p c.self.inside.lines) (sym (seen_board c.self.view_is))
    (subst (IsLeft c.args.touched c.args.self.now.board) (sym lines) c.requires)
