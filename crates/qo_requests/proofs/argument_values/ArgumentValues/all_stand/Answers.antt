use Rattle.std.proofs.Common.{◌∙◌}
use Rattle.qo_requests.proofs.ArgumentMemberLemmas.{stand_by_three}
use Rattle.qo_requests.proofs.argument_values.ArgumentValues.all_stand.Goals as goal

pub returns : goal.returns
returns c =
    let rows = c.args.self.now.rows.now in
    c.are_all.ensures ∙ rw (c.stands-first.ensures, c.stands-second.ensures, c.stands-third.ensures)
    (stand_by_three rows _ _ _ _ c.requires.few c.requires.first c.requires.second c.requires.third)
