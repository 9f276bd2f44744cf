-- The kinds are those of the lines.
use Rattle.std.proofs.Common.{◌≡◌, ◌∙◌, ℕ, List, Bor, IfOk, ap, length, map, subst}
use Rattle.compose.specs.Demo.{kind_of, summary, summary_of}
use Rattle.compose.specs.declared.counts.Kind.{Kind}
use Rattle.compose.proofs.counts.summary.Goals as goal

pub returns : goal.returns
unfolding summary
returns c =
    subst (λ (kinds : List Kind). IfOk c.summary_of.result (λ lines. lines.items ≡ summary_of kinds (length c.args.transcript.now)))
    (c.deref-2.ensures.value ∙ c.in_ok-kinds.ensures
    ∙ ap (λ (lines : List (Bor (List ℕ))). map kind_of (map (λ line. line.now) lines)) c.deref.ensures.value
    ∙ ap (λ (lines : List (List ℕ)). map kind_of lines) c.in_ok-lines.ensures)
    c.summary_of.ensures
