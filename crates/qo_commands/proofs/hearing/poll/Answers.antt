-- What is told of the notice that was taken.
use Rattle.std.proofs.Common.{rules, ◌≡◌, ap, ◌∙◌}
use Rattle.std.specs.Prelude.{option_map}
use Rattle.qo_realize.specs.Guest.{polled}
use Rattle.qo_commands.specs.Hearing.{answered, outcome_of, notice_answer}
use Rattle.qo_commands.proofs.HearingLemmas.{told-polled}
use Rattle.qo_commands.proofs.hearing.poll.Goals as goal

pub returns-clause-came : goal.returns-clause-came
returns-clause-came g c = λ b s.
    let stands = c.poll-notice.ensures.polled b s in
    let same : option_map (λ n. n.now) c.as_ref.result ≡ c.poll-notice.result = search rules in (
      stands,
      ap (outcome_of (polled b)) c.answered.ensures
          ∙ ap (answered (polled b))
          (c.notice_answer.ensures (polled b) stands ∙ told-polled b _ ∙ ap (notice_answer b) (same ∙ c.poll-notice.ensures.first b s)),
    )
