use Rattle.std.proofs.Common.{◌∙◌}
use Rattle.qo_requests.proofs.ArgumentMemberLemmas.{fit_by_three}
use Rattle.qo_requests.proofs.argument_values.ArgumentValues.all_fit.Goals as goal

pub returns : goal.returns
returns c =
    let rows = c.args.self.now.rows.now in
    c.are_all.ensures ∙ rw (c.is_fit-first.ensures, c.is_fit-second.ensures, c.is_fit-third.ensures)
    (fit_by_three rows _ _ _ _ c.requires.few c.requires.first c.requires.second c.requires.third)
