use Rattle.std.proofs.Common.{◌≡◌, None, refl, sym, true≢false}
use Rattle.serde_json.specs.Errors.{IsMemory}
use Rattle.qo_json.proofs.OrderLemmas.{read_ordered}
use Rattle.qo_requests.specs.Messages.{value_of, command}
use Rattle.qo_requests.proofs.Readings.{value_read, value_refused}
use Rattle.qo_requests.proofs.messages.read_wide.Goals as goal

pub read_value-requires : goal.read_value-requires
read_value-requires c = rw c.in_ok-of-in-Ok.ensures (read_ordered c.args.bytes.now _ c.in-Ok.ensures.ok.1)

pub returns-in_ok-of-in-Ok : goal.returns-in_ok-of-in-Ok
unfolding command
returns-in_ok-of-in-Ok c =
    rw (value_read _ _ c.in-Ok.ensures.ok.0 c.in-Ok.ensures.ok.1) (rw c.in_ok-of-in-Ok.ensures at c.read_value.ensures)

pub returns-in-Err-2 : goal.returns-in-Err-2
unfolding command
returns-in-Err-2 c =
    let other : IsMemory c.in-Err.error → ⊥ = λ m. true≢false (sym (c.if-is_memory.ensures.1 m)) in
    let none : value_of c.args.bytes.now ≡ None = value_refused _ (c.in-Err.ensures.err other) in
    rw (none, c.not_json.ensures) refl
