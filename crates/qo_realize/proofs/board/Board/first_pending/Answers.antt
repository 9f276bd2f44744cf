-- The first device whose removal is pending is there.
use Rattle.std.proofs.Common.{◌≡◌, ap, sym, ◌∙◌, Some}
use Rattle.qo_realize.specs.Parts.{Parts, parts_of}
use Rattle.qo_realize.specs.Removals.{first_device}
use Rattle.qo_realize.proofs.ResetLemmas.{first-told}
use Rattle.qo_realize.proofs.board.Board.first_pending.Goals as goal

pub returns-clause-first : goal.returns-clause-first
returns-clause-first c =
    let inside = c.self.inside in
    let is : first_device inside.hotplug.pending ≡ Some c.in_ok-first.first.birth = sym c.in_ok-first.ensures in
    first-told (parts_of inside.rings inside.anonymous inside.running inside.resets inside.hotplug inside.heap) c.in_ok-first.first.birth
    c.by_birth.result c.self.invariant.1 is
    c.by_birth.ensures.born c.by_birth.ensures.none
    ∙ ap (λ (p : Parts). first_device p.pending) c.self.view_is
