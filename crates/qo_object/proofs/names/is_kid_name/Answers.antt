-- A number that is no byte stands in no text.
use Rattle.std.proofs.Common.{◌<◌, get_or, arith}
use Rattle.qo_object.proofs.KnownNames.{kid-past}
use Rattle.qo_object.proofs.names.is_kid_name.Goals as goal

pub returns-in_default : goal.returns-in_default
returns-in_default c =
    let fits : get_or c.args.text.now 6 0 < 256 = omega (arith, c.type_inv.text 6) in
    kid-past c.args.text.now c.args.slot fits (omega arith)
