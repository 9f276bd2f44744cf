-- The words are taken, and have the two values.
use Rattle.std.proofs.Common.{rules, ap, ap₂, codes, ◌≡◌, ◌∙◌}
use Rattle.std.proofs.lemmas.Result.{IfErr-weaker, IfOk-weaker}
use Rattle.clap.specs.Words.{app_of, first_of, found_of, is_simple, matches_of, rule_of, takes, with_rule}
use Rattle.clap.proofs.WalkLemmas.{first_value-rows}
use Rattle.qo_words.proofs.MatchLemmas.{option, serve, serve-count, serve-path, serve-taken}
use Rattle.qo_words.proofs.values.serve_matches.Goals as goal

pub returns-clause-ok : goal.returns-clause-ok
returns-clause-ok c = λ path count are.
    let socket_is : rule_of c.long-socket.result ≡ option (codes "socket") = search rules in
    let connections_is : rule_of c.long-connections.result ≡ option (codes "connections") = search rules in
    let serve_is : app_of c.in_ok-serve.serve ≡ serve = c.in_ok-serve.ensures.shape (search rules)
    ∙ ap₂ with_rule (c.in_ok-arg.ensures.shape (search rules) ∙ ap₂ with_rule c.new-3.ensures.app socket_is) connections_is in
    let parse = c.try_get_matches_from in
    IfOk-weaker parse.result _ _ (λ m h.
    let rows = (h (ap is_simple serve_is)).0 ∙ ap₂ matches_of serve_is are in (
      first_value-rows (found_of m) (codes "socket") ∙ ap (first_of (codes "socket")) rows ∙ serve-path path count,
      first_value-rows (found_of m) (codes "connections") ∙ ap (first_of (codes "connections")) rows ∙ serve-count path count,
    )) parse.ensures.matches

pub returns-clause-err : goal.returns-clause-err
returns-clause-err c = λ path count are.
    let socket_is : rule_of c.long-socket.result ≡ option (codes "socket") = search rules in
    let connections_is : rule_of c.long-connections.result ≡ option (codes "connections") = search rules in
    let serve_is : app_of c.in_ok-serve.serve ≡ serve = c.in_ok-serve.ensures.shape (search rules)
    ∙ ap₂ with_rule (c.in_ok-arg.ensures.shape (search rules) ∙ ap₂ with_rule c.new-3.ensures.app socket_is) connections_is in
    let parse = c.try_get_matches_from in
    IfErr-weaker parse.result _ _ (λ e h. h (ap₂ takes serve_is are ∙ serve-taken path count)) parse.ensures.passes
