-- What is not found stands nowhere, and what is found stands there.
use Rattle.compose.proofs.DemoLemmas.{is_found, not_found}
use Rattle.compose.proofs.demos.has.Goals as goal

pub returns-clause-lacks : goal.returns-clause-lacks
returns-clause-lacks c = not_found c.args.text.now c.args.transcript.now c.find.result c.is_some.result c.is_some.ensures c.find.ensures

pub returns-clause-has : goal.returns-clause-has
returns-clause-has c = is_found c.args.text.now c.args.transcript.now c.find.result c.is_some.result c.is_some.ensures c.find.ensures
