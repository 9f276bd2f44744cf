use Rattle.std.proofs.Common.{◌≡◌, ◌≤◌, ℕ, length, sym, subst}
use Rattle.std.proofs.lemmas.List.{length-map}
use Rattle.qo_slots.specs.declared.keys.Key.{Key}
use Rattle.qo_reset.specs.declared.turns.TheConstants.{HOLDS_MAX}
use Rattle.qo_reset.specs.Phases.{births_of}
use Rattle.qo_reset.proofs.CountLemmas.{counted-below, others-kept}
use Rattle.qo_reset.proofs.LiveLemmas.{shows-recounted}
use Rattle.qo_reset.proofs.tallies.recount_below.Goals as goal

pub returns-clause-counted : goal.returns-clause-counted
returns-clause-counted g c =
    rw c.walk.ensures.walk
    (counted-below c.args.heap.now (births_of c.args.holds.now) c.args.dev.birth
    (subst (λ (k : ℕ). k ≤ HOLDS_MAX) (sym (length-map c.args.holds.now (λ (k : Key). k.birth))) c.requires.few))

pub returns-clause-others : goal.returns-clause-others
returns-clause-others g c = rw c.walk.ensures.walk (others-kept c.args.heap.now (births_of c.args.holds.now) c.args.dev.birth)

pub returns-clause-shown : goal.returns-clause-shown
returns-clause-shown g c = λ b s. rw c.walk.ensures.walk (shows-recounted (births_of c.args.holds.now) c.args.dev.birth b c.args.heap.now s)
