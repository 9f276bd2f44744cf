-- The words are taken, and have the two values.
use Rattle.std.proofs.Common.{rules, ap, ap₂, codes, ◌≡◌, ◌∙◌}
use Rattle.std.proofs.lemmas.Result.{IfErr-weaker, IfOk-weaker}
use Rattle.clap.specs.Words.{app_of, first_of, found_of, is_simple, matches_of, rule_of, takes, with_rule}
use Rattle.clap.proofs.WalkLemmas.{first_value-rows}
use Rattle.qo_words.proofs.MatchLemmas.{option, demo, demo-steps, demo-seed, demo-taken}
use Rattle.qo_words.proofs.values.demo_matches.Goals as goal

pub returns-clause-ok : goal.returns-clause-ok
returns-clause-ok c = λ seed steps are.
    let seed_is : rule_of c.long-seed.result ≡ option (codes "seed") = search rules in
    let steps_is : rule_of c.long-steps.result ≡ option (codes "steps") = search rules in
    let demo_is : app_of c.in_ok-demo.demo ≡ demo = c.in_ok-demo.ensures.shape (search rules)
    ∙ ap₂ with_rule (c.in_ok-arg.ensures.shape (search rules) ∙ ap₂ with_rule c.new-3.ensures.app seed_is) steps_is in
    let parse = c.try_get_matches_from in
    IfOk-weaker parse.result _ _ (λ m h.
    let rows = (h (ap is_simple demo_is)).0 ∙ ap₂ matches_of demo_is are in (
      first_value-rows (found_of m) (codes "seed") ∙ ap (first_of (codes "seed")) rows ∙ demo-seed seed steps,
      first_value-rows (found_of m) (codes "steps") ∙ ap (first_of (codes "steps")) rows ∙ demo-steps seed steps,
    )) parse.ensures.matches

pub returns-clause-err : goal.returns-clause-err
returns-clause-err c = λ seed steps are.
    let seed_is : rule_of c.long-seed.result ≡ option (codes "seed") = search rules in
    let steps_is : rule_of c.long-steps.result ≡ option (codes "steps") = search rules in
    let demo_is : app_of c.in_ok-demo.demo ≡ demo = c.in_ok-demo.ensures.shape (search rules)
    ∙ ap₂ with_rule (c.in_ok-arg.ensures.shape (search rules) ∙ ap₂ with_rule c.new-3.ensures.app seed_is) steps_is in
    let parse = c.try_get_matches_from in
    IfErr-weaker parse.result _ _ (λ e h. h (ap₂ takes demo_is are ∙ demo-taken seed steps)) parse.ensures.passes
