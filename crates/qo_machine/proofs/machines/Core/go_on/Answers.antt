-- The time goes on, and the registers that lines hang on are read again.
use Rattle.std.proofs.Common.{◌≡◌, ap, sym, subst}
use Rattle.qo_commands.specs.Touched.{HasShape}
use Rattle.qo_layout.specs.Rows.{Wired}
use Rattle.qo_commands.specs.KeptViews.{HasView}
use Rattle.qo_realize.specs.Parts.{Parts}
use Rattle.qo_realize.specs.Time.{advanced}
use Rattle.qo_machine.specs.Machine.{Seen}
use Rattle.qo_machine.proofs.MachineLemmas.{seen_board, stands_in}
use Rattle.qo_machine.proofs.WiredLemmas.{advances_stands, shaped_later, view_later}
use Rattle.qo_machine.proofs.machines.Core.go_on.Goals as goal

pub refresh_lines-requires : goal.refresh_lines-requires
refresh_lines-requires g c =
    let lines : c.self.inside.lines ≡ c.args.self.now.lines = ap (λ (m : Seen). m.lines) c.self.view_is in
    subst (HasShape c.advance-time.new.self) (sym lines)
    (shaped_later c.args.self.now.board c.advance-time.new.self c.args.self.now.lines c.args.ns
    (λ b stands. advances_stands (advanced b c.args.ns) c.advance-time.result c.advance-time.new.self
    (c.advance-time.ensures.advanced b (stands_in b c.self.inside.board c.args.self.now (seen_board c.self.view_is) stands)))
    c.reveal_board.ensures.stands c.requires.wired)

pub invariant_of-self : goal.invariant_of-self
invariant_of-self g c =
    let same : c.self.inside.board ≡ c.args.self.now.board = seen_board c.self.view_is in (
      c.self.invariant.0,
      view_later c.args.self.now.board c.advance-time.new.self c.args.self.now.lines c.self.inside.view c.args.ns c.requires.wired
          (λ b stands. advances_stands (advanced b c.args.ns) c.advance-time.result c.advance-time.new.self
          (c.advance-time.ensures.advanced b (stands_in b c.self.inside.board c.args.self.now same stands)))
          (subst (λ (p : Parts). HasView p c.self.inside.view) same c.self.invariant.1),
    )

pub returns-clause-board : goal.returns-clause-board
returns-clause-board g c = λ b stands.
    advances_stands (advanced b c.args.ns) c.advance-time.result c.advance-time.new.self
    (c.advance-time.ensures.advanced b (stands_in b c.self.inside.board c.args.self.now (seen_board c.self.view_is) stands))
