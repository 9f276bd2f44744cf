-- The path of the target, where the link is strong.
use Rattle.std.proofs.Common.{◌≡◌, true, false, refl, rules}
use Rattle.qo_describe.proofs.given.target_given.Goals as goal

pub returns-then-not-strong : goal.returns-then-not-strong
returns-then-not-strong g c = λ b s.
    let weak : c.args.strong ≡ false = search rules in
    rw weak refl

pub returns : goal.returns
returns g c = λ b s.
    let strong : c.args.strong ≡ true = search rules in
    rw (strong, c.from_string.ensures, c.in_ok-path.ensures b s) refl
