-- What the body reads is what the board has.
use Rattle.std.proofs.Common.{ap, sym, subst, ◌∙◌, ℕ, Bool}
use Rattle.qo_values.specs.Registers.{body_read, Registers}
use Rattle.qo_kinds.specs.Bodies.{IsTimely}
use Rattle.qo_heap.specs.Rows.{IsLive}
use Rattle.qo_model.specs.Clocks.{device_period}
use Rattle.qo_realize.specs.Registers.{registers_at}
use Rattle.qo_realize.specs.Parts.{Parts, parts_of}
use Rattle.qo_realize.specs.Representation.{Stands}
use Rattle.qo_realize.proofs.RegisterLemmas.{board-call, body-timely, timely-there}
use Rattle.qo_realize.proofs.GoodBoardLemmas.{good-of}
use Rattle.qo_realize.proofs.PeriodLemmas.{clocked-sound}
use Rattle.qo_realize.proofs.board.Board.guest_read.Goals as goal

pub read-requires : goal.read-requires
read-requires g c =
    let inside = c.self.inside in
    let now : Parts = parts_of inside.rings inside.anonymous inside.running inside.resets inside.hotplug inside.heap in
    let live : IsLive inside.heap.rows c.args.dev = subst (λ (p : Parts). IsLive p.objects.rows c.args.dev) (sym c.self.view_is) c.requires in
    subst (λ (time : ℕ). IsTimely time c.body.result.now) (sym c.time-time.ensures)
    (body-timely inside.heap.time inside.heap c.args.dev c.body.result.now live c.body.ensures.body (timely-there now c.self.invariant.1 c.args.dev.birth))

pub returns : goal.returns
returns g c = λ b s.
    let inside = c.self.inside in
    let now : Parts = parts_of inside.rings inside.anonymous inside.running inside.resets inside.hotplug inside.heap in
    let live : IsLive inside.heap.rows c.args.dev = subst (λ (p : Parts). IsLive p.objects.rows c.args.dev) (sym c.self.view_is) c.requires in
    let seen : Stands b now = subst (λ (p : Parts). Stands b p) (sym c.self.view_is) s in
    c.read.ensures
    ∙ board-call (λ (r : Registers) (time period : ℕ). body_read r c.args.reg c.has_ring-ring.result time period) b inside.heap seen.shows
    c.args.dev c.body.result.now live
    c.body.ensures.body c.time-time.result c.device_period-period.result c.time-time.ensures
    (c.device_period-period.ensures.period b seen.shows (clocked-sound b inside.heap (good-of now c.self.invariant.1 b seen).run.clocks c.self.invariant.4))
    ∙ ap (λ (ring : Bool). body_read (registers_at b c.args.dev.birth) c.args.reg ring b.now (device_period b c.args.dev.birth))
    (c.has_ring-ring.ensures b seen.shows)
