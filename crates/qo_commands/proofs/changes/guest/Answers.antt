-- What the line comes to.
use Rattle.std.proofs.Common.{subst, ℕ, List}
use Rattle.qo_commands.specs.Hearing.{Came, heard}
use Rattle.qo_commands.specs.Commands.{altered}
use Rattle.qo_commands.proofs.ChangeLemmas.{told-came}
use Rattle.qo_commands.specs.Touched.{Touches}
use Rattle.qo_commands.proofs.TouchedLemmas.{guest-touches}
use Rattle.qo_commands.proofs.changes.guest.Goals as goal

pub returns-clause-came : goal.returns-clause-came
unfolding altered
returns-clause-came g c = λ b s.
    let came = subst (λ (line : List ℕ). Came (heard b line) c.in_ok-heard.heard c.hear.new.board) c.as_bytes.ensures.value (c.in_ok-heard.ensures.came b s) in
    told-came (heard b c.args.line.now) c.in_ok-heard.heard c.guest_reply.result c.hear.new.board came c.guest_reply.ensures.done

pub returns-clause-touched : goal.returns-clause-touched
returns-clause-touched g c = λ b s.
    let touches = subst (λ (line : List ℕ). Touches c.in_ok-heard.heard.touched b (heard b line).board) c.as_bytes.ensures.value (c.in_ok-heard.ensures.touched b s) in
    guest-touches b c.args.line.now c.in_ok-heard.heard c.guest_reply.result c.guest_reply.ensures.touched touches
