-- What stands inside is what is seen.
use Rattle.std.proofs.Common.{subst}
use Rattle.qo_clocks.specs.Kept.{PeriodsKept}
use Rattle.qo_reset.specs.Counts.{CountsKept}
use Rattle.qo_realize.specs.BoardClaims.{KeepsClaims}
use Rattle.qo_realize.specs.Parts.{Parts}
use Rattle.qo_realize.proofs.board.Board.reveal_board.Goals as goal

pub returns-clause-claims : goal.returns-clause-claims
returns-clause-claims c = subst (λ (p : Parts). KeepsClaims p.objects) c.self.view_is c.self.invariant.2

pub returns-clause-counts : goal.returns-clause-counts
returns-clause-counts c = subst (λ (p : Parts). CountsKept p.holds p.objects) c.self.view_is c.self.invariant.3

pub returns-clause-periods : goal.returns-clause-periods
returns-clause-periods c = subst (λ (p : Parts). PeriodsKept p.objects) c.self.view_is c.self.invariant.4
