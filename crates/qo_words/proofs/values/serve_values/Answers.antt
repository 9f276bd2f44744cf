-- The values are found, since the words are those of the command.
use Rattle.std.proofs.Common.{rules, ◌∙◌}
use Rattle.qo_words.proofs.MatchLemmas.{is-text, is-there}
use Rattle.qo_words.proofs.values.serve_values.Goals as goal

pub unwrap-requires : goal.unwrap-requires
unwrap-requires c =
    is-there c.get_str.result c.args.path.now (c.get_str.ensures ∙ (c.in-Ok.ensures.ok c.args.path.now c.args.connections.now (search rules)).0)

pub unwrap-requires-2 : goal.unwrap-requires-2
unwrap-requires-2 c =
    is-there c.get_str-2.result c.args.connections.now (c.get_str-2.ensures ∙ (c.in-Ok.ensures.ok c.args.path.now c.args.connections.now (search rules)).1)

pub returns : goal.returns
returns c =
    let found = c.in-Ok.ensures.ok c.args.path.now c.args.connections.now (search rules) in (
      c.in_ok-from_str.ensures.ok ∙ is-text c.get_str.result c.unwrap.result c.args.path.now c.unwrap.ensures (c.get_str.ensures ∙ found.0),
      c.in_ok-from_str-2.ensures.ok ∙ is-text c.get_str-2.result c.unwrap-2.result c.args.connections.now c.unwrap-2.ensures (c.get_str-2.ensures ∙ found.1),
    )
