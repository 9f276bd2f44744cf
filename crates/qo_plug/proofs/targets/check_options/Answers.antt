-- The refusals come in order.
use Rattle.std.proofs.Common.{ℕ, Some, arith, option_map, sym}
use Rattle.qo_model.specs.Plug.{Wanted}
use Rattle.qo_plug.specs.Admission.{wanted}
use Rattle.qo_plug.proofs.AdmissionLemmas.{added-early, added-first, early-bus, early-room, place-refused}
use Rattle.qo_plug.proofs.targets.check_options.Goals as goal

pub returns-in-Err-clause-refused : goal.returns-in-Err-clause-refused
returns-in-Err-clause-refused g c = λ b props s recounted pending anonymous.
    let a : Wanted = wanted c.args.driver.now (option_map (λ t. t.now) c.args.id) (option_map (λ t. t.now) c.args.bus) props in
    (omega arith, omega arith, added-first b a c.in-Err.code c.in-Err.ensures.refused)

pub returns-in-Err-place_for-clause-refused : goal.returns-in-Err-place_for-clause-refused
returns-in-Err-place_for-clause-refused g c = λ b props s recounted pending anonymous.
    let a : Wanted = wanted c.args.driver.now (option_map (λ t. t.now) c.args.id) (option_map (λ t. t.now) c.args.bus) props in
    place-refused b a c.in-Ok.kind c.in-Ok.ensures.kind (sym c.in-Ok.ensures.refused) ℕ ℕ c.in-Err-place_for.refusal
    (c.in-Err-place_for.ensures.refused b s recounted anonymous)

pub returns-in-Err-open_bus-clause-refused : goal.returns-in-Err-open_bus-clause-refused
returns-in-Err-open_bus-clause-refused g c = λ b props s recounted pending anonymous.
    let a : Wanted = wanted c.args.driver.now (option_map (λ t. t.now) c.args.id) (option_map (λ t. t.now) c.args.bus) props in
    let code = c.in-Err-open_bus.code in
    let early = early-bus b c.in-Ok.kind a code (c.in-Ok-place_for.ensures.open b s recounted anonymous) (c.in-Err-open_bus.ensures.refused b s pending) in
    (omega arith, omega arith, added-early b a c.in-Ok.kind c.in-Ok.ensures.kind (sym c.in-Ok.ensures.refused) (3, code) early)

pub returns-in-Err-room-clause-refused : goal.returns-in-Err-room-clause-refused
returns-in-Err-room-clause-refused g c = λ b props s recounted pending anonymous.
    let a : Wanted = wanted c.args.driver.now (option_map (λ t. t.now) c.args.id) (option_map (λ t. t.now) c.args.bus) props in
    let code = c.in-Err-room.code in
    let place = c.in-Ok-place_for.ensures.open b s recounted anonymous in
    let early = early-room b c.in-Ok.kind a (Some code) place (c.in-Ok-open_bus.ensures.refused b s pending) (c.in-Err-room.ensures b s) in
    (omega arith, omega arith, added-early b a c.in-Ok.kind c.in-Ok.ensures.kind (sym c.in-Ok.ensures.refused) (4, code) early)
