-- All properties are those read so far, and after them what is left; the names of both rise.
use Rattle.std.proofs.Common.{◌++◌, drop}
use Rattle.qo_values.specs.PropertyLists.{NamesRise, names_of}
use Rattle.qo_shape.proofs.PropLemmas.{LeftProps, names_left}
use Rattle.qo_shape.proofs.props.props_of.Given as goal

abbrev pub invariant-loop-member : goal.invariant-loop-member
invariant-loop-member l =
    record {
      read : LeftProps l.members l.props (drop l.member-index l.members);
      rise : NamesRise (names_of l.props ++ names_left (drop l.member-index l.members));
    }
