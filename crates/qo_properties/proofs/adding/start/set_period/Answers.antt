-- The number, and what is kept, are the system's period.
use Rattle.std.proofs.Common.{◌≡◌, ℕ, ◌∙◌, ap}
use Rattle.qo_values.specs.declared.properties.Val.TheVariants.{Uint}
use Rattle.qo_values.specs.declared.limits.TheConstants.{SYSTEM_PERIOD}
use Rattle.qo_object.specs.Content.{set_at}
use Rattle.qo_heap.specs.Objects.{with_edit}
use Rattle.qo_heap.specs.Rows.{IsLive}
use Rattle.qo_heap.proofs.HeapLemmas.{live-edit}
use Rattle.qo_clocks.specs.Kept.{with_periods}
use Rattle.qo_clocks.proofs.KeptLemmas.{keep-as}
use Rattle.qo_properties.proofs.OpeningLemmas.{period-place, period-there, ticking-is}
use Rattle.qo_properties.proofs.adding.start.set_period.Goals as goal

pub returns-in_default : goal.returns-in_default
returns-in_default g c = absurd (period-there c.args.heap.now c.args.clock.birth c.requires.content c.in_default.ensures)

pub side-side-requires : goal.side-side-requires
side-side-requires g c =
    rw c.set.ensures.now (live-edit c.args.clock.birth (set_at (Uint SYSTEM_PERIOD) c.in-Some.at) c.args.heap.now.rows c.args.clock c.requires.live)

pub set_side-requires : goal.set_side-requires
set_side-requires g c =
    let there : IsLive c.set.new.self.rows c.args.clock =
    rw c.set.ensures.now (live-edit c.args.clock.birth (set_at (Uint SYSTEM_PERIOD) c.in-Some.at) c.args.heap.now.rows c.args.clock c.requires.live) in
    record { live = there }

pub returns : goal.returns
returns g c =
    let n = c.args.clock.birth in
    c.set_side.ensures.now
    ∙ keep-as c.set.new.self c.reveal_invariant.ensures n SYSTEM_PERIOD SYSTEM_PERIOD c.side-side.result c.side-side.ensures.side
    ∙ ap (with_edit n (with_periods SYSTEM_PERIOD SYSTEM_PERIOD))
    (c.set.ensures.now ∙ ap (λ (i : ℕ). with_edit n (set_at (Uint SYSTEM_PERIOD) i) c.args.heap.now)
    (period-place c.args.heap.now n c.in-Some.at c.requires.content c.in-Some.ensures))
    ∙ ticking-is c.args.heap.now n
