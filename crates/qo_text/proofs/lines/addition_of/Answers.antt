-- The keys of options rise.
use Rattle.std.proofs.Common.{◌≡◌, [], Some, sym}
use Rattle.qo_values.proofs.NameOrder.{no_names_rise}
use Rattle.qo_text.specs.Options.{options}
use Rattle.qo_text.proofs.OptionLemmas.{options-rise}
use Rattle.qo_text.proofs.lines.addition_of.Goals as goal

pub adding-requires : goal.adding-requires
adding-requires c =
    let found : options c.in-Some.others.now [] ≡ Some c.in-Some-2.found.items = sym (rw c.in-Some-2.is at c.in_ok-found.ensures) in
    rw c.as_slice.ensures.value (options-rise c.in-Some.others.now [] c.in-Some-2.found.items found no_names_rise)
