-- The refusals come in order.
use Rattle.std.proofs.Common.{◌≡◌, Err, Some, ap, sym, ◌∙◌}
use Rattle.qo_values.specs.declared.codes.Code.{Code}
use Rattle.qo_values.specs.declared.codes.Code.TheVariants.{E23}
use Rattle.qo_values.specs.declared.ids.IdError.TheVariants.{Malformed}
use Rattle.qo_properties.proofs.BarLemmas.{barred-id, barred-place, barred-type}
use Rattle.qo_properties.proofs.adding.checks.check_object.Goals as goal

pub returns-in-Ok-vacant-clause-open : goal.returns-in-Ok-vacant-clause-open
returns-in-Ok-vacant-clause-open g c = λ b s.
    barred-place b c.args.driver.now c.args.id.now (sym c.in-Ok.ensures.refused) c.in-Ok-parse.ensures.id.1 ∙ sym (c.in-Ok-vacant.ensures.refused b s)

pub returns-in-Err-clause-refused : goal.returns-in-Err-clause-refused
returns-in-Err-clause-refused g c = λ b code s e.
    let same : c.in-Err.code ≡ code = cc e in
    barred-type b c.args.driver.now c.args.id.now code (sym c.in-Err.ensures.refused ∙ ap (λ (x : Code). Some x) same)

pub returns-in-Err-Malformed-clause-refused : goal.returns-in-Err-Malformed-clause-refused
returns-in-Err-Malformed-clause-refused g c = λ b code s e.
    let same : E23 ≡ code = cc e in
    let is : c.parse.result ≡ Err Malformed = cc in
    barred-id b c.args.driver.now c.args.id.now (sym c.in-Ok.ensures.refused) (c.parse.ensures.only_malformed is) ∙ ap (λ (x : Code). Some x) same

pub returns-in-Err-vacant-clause-refused : goal.returns-in-Err-vacant-clause-refused
returns-in-Err-vacant-clause-refused g c = λ b code s e.
    let same : c.in-Err-vacant.code ≡ code = cc e in
    barred-place b c.args.driver.now c.args.id.now (sym c.in-Ok.ensures.refused) c.in-Ok-parse.ensures.id.1 ∙ sym (c.in-Err-vacant.ensures.refused b s)
    ∙ ap (λ (x : Code). Some x) same
