-- What is written, and then what the steps left add, is the whole record.
use Rattle.std.proofs.Common.{◌≡◌, ◌+◌, ◌-◌, ◌++◌}
use Rattle.qo_record.specs.Demo.{demo_bytes, demo_steps, numbered_all}
use Rattle.qo_record.specs.Spelling.{entries_text}
use Rattle.qo_record.proofs.demos.demo_record.Given as goal

abbrev pub invariant-loop-step : goal.invariant-loop-step
invariant-loop-step l = l.stream.items ++ entries_text (numbered_all (demo_steps (l.steps - l.step) l.draws.number (l.step + 1))) ≡ demo_bytes l.seed l.steps
