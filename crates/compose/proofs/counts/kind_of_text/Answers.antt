-- The value that the reader of JSON gives, or refuses.
use Rattle.std.proofs.Common.{◌≡◌, None, refl, sym, true≢false}
use Rattle.serde_json.specs.Errors.{IsMemory}
use Rattle.qo_requests.proofs.Readings.{value_read, value_refused}
use Rattle.qo_requests.specs.Messages.{value_of}
use Rattle.compose.proofs.counts.kind_of_text.Goals as goal

pub returns-in-Ok : goal.returns-in-Ok
returns-in-Ok c = rw (value_read _ _ c.in-Ok.ensures.ok.0 c.in-Ok.ensures.ok.1) c.kind_of_value.ensures

pub returns-else-is_memory : goal.returns-else-is_memory
returns-else-is_memory c =
    let other : IsMemory c.in-Err.error → ⊥ = λ m. true≢false (sym (c.if-is_memory.ensures.1 m)) in
    let none : value_of c.args.text.now ≡ None = value_refused _ (c.in-Err.ensures.err other) in
    rw none refl
