use Rattle.qo_guest.proofs.Numbers.{numbers_are_spelled}
use Rattle.qo_guest.proofs.laws.law_numbers.Goals as goal

pub returns : goal.returns
returns c = numbers_are_spelled
