use Rattle.std.proofs.Common.{◌+◌, ◌*◌, length}
use Rattle.qo_memmap.proofs.flat.+flat.Given as goal

abbrev pub decreases-alias_in : goal.decreases-alias_in
decreases-alias_in l = length l.below.now * 73786976294838206464

abbrev pub decreases-itself_in : goal.decreases-itself_in
decreases-itself_in l = length l.below.now * 73786976294838206464 + 1

abbrev pub decreases-child_in : goal.decreases-child_in
decreases-child_in l = length l.below.now * 73786976294838206464 + 2

abbrev pub decreases-children_in : goal.decreases-children_in
decreases-children_in l = length l.below.now * 73786976294838206464 + 4 * length l.places.now

abbrev pub decreases-region_in : goal.decreases-region_in
decreases-region_in l = length l.below.now * 73786976294838206464 + 73786976294838206463
