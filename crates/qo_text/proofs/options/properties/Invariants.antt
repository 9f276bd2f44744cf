-- All properties are those put so far, and after them what is left; the names of both rise.
use Rattle.std.proofs.Common.{◌≡◌, ◌++◌, drop}
use Rattle.qo_values.specs.PropertyLists.{names_of, NamesRise}
use Rattle.qo_text.specs.Joined.{keys_of}
use Rattle.qo_text.specs.Options.{properties}
use Rattle.qo_text.proofs.options.properties.Given as goal

abbrev pub invariant-loop-option : goal.invariant-loop-option
invariant-loop-option l =
    record {
      read : properties l.found ≡ l.props ++ properties (drop l.option-index l.found);
      rise : NamesRise (names_of l.props ++ keys_of (drop l.option-index l.found));
    }
