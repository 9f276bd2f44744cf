-- A refusal leaves the heap.
use Rattle.std.proofs.Common.{rules, ◌≡◌, Err, refl}
use Rattle.qo_values.specs.declared.codes.Code.TheVariants.{E18, E19}
use Rattle.qo_model.specs.Board.{Board}
use Rattle.qo_model.specs.ClockProperties.{role_written}
use Rattle.qo_properties.proofs.ClockLemmas.{same-clocks}
use Rattle.qo_properties.proofs.writing.clocks.write_property.Goals as goal

pub returns-in_default : goal.returns-in_default
returns-in_default g c =
    let none : (b : Board) → role_written b c.args.c.birth c.args.row.name c.args.row.role c.args.val.now ≡ Err E18 = search rules in
    record {
      written = λ b s clocked. none b;
      err = refl;
      pins = refl;
      book = λ out h. h;
      claims = λ n k e. e;
      counts = λ n k e. e;
      clocks = same-clocks c.args.heap.now;
    }

pub returns-in_default-val : goal.returns-in_default-val
returns-in_default-val g c =
    let none : (b : Board) → role_written b c.args.c.birth c.args.row.name c.args.row.role c.args.val.now ≡ Err E19 = search rules in
    record {
      written = λ b s clocked. none b;
      err = refl;
      pins = refl;
      book = λ out h. h;
      claims = λ n k e. e;
      counts = λ n k e. e;
      clocks = same-clocks c.args.heap.now;
    }

pub returns-in-Err-clause-clocks : goal.returns-in-Err-clause-clocks
returns-in-Err-clause-clocks g c = same-clocks c.args.heap.now
