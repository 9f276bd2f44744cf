-- The key stands before the first `=`.
use Rattle.std.proofs.Common.{◌≡◌, None, false, refl, arith}
use Rattle.std.proofs.lemmas.Str.Pattern.{split_once_first}
use Rattle.qo_text.specs.Options.{holds}
use Rattle.qo_text.proofs.PartLemmas.{free_all}
use Rattle.qo_text.proofs.options.option_in.Goals as goal

pub returns-in_default : goal.returns-in_default
returns-in_default c =
    let none = split_once_first 61 c.args.part.now None c.in_default.ensures.cases (omega arith) in
    let no : holds 61 c.args.part.now ≡ false = free_all 61 c.args.part.now none in
    rw no refl
