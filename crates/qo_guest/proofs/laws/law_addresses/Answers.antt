use Rattle.qo_guest.proofs.AddressSpellings.{addresses_are_spelled}
use Rattle.qo_guest.proofs.laws.law_addresses.Goals as goal

pub returns : goal.returns
returns c = addresses_are_spelled
