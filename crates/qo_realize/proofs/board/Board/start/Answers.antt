use Rattle.qo_model.specs.Opening.{opening_board}
use Rattle.qo_realize.proofs.GoodBoardLemmas.{opening-good}
use Rattle.qo_realize.proofs.RepresentationLemmas.{opens}
use Rattle.std.proofs.Common.{[], refl, ap, sym, subst}
use Rattle.qo_properties.specs.KeptClaims.{NoneKept}
use Rattle.qo_properties.proofs.KeptLemmas.{none-empty}
use Rattle.qo_realize.proofs.ClaimsLemmas.{opening-claims}
use Rattle.qo_reset.specs.HoldList.{HoldList}
use Rattle.qo_plug.proofs.KeptLemmas.{opening-counts}
use Rattle.qo_properties.specs.KeptPeriods.{OwnKept}
use Rattle.qo_realize.proofs.CountedLemmas.{same-counts}
use Rattle.qo_realize.proofs.PeriodLemmas.{opening-periods, own-empty}
use Rattle.qo_realize.proofs.board.Board.start.Goals as goal

pub returns : goal.returns
returns g c =
    let opened = opens _ c.make_all.new.heap c.in_ok-heap.ensures c.in_ok-make_all.ensures.shown c.in_ok-make_all.ensures.book c.new-2.result
    c.in_ok-new.field-0 c.new-4.result c.new-2.ensures
    c.in_ok-new.ensures c.new-4.ensures in
    opened.1

pub invariant_of-result : goal.invariant_of-result
invariant_of-result g c =
    let opened = opens _ c.make_all.new.heap c.in_ok-heap.ensures c.in_ok-make_all.ensures.shown c.in_ok-make_all.ensures.book c.new-2.result
    c.in_ok-new.field-0 c.new-4.result c.new-2.ensures
    c.in_ok-new.ensures c.new-4.ensures in (
      opened.0,
      (opening_board, opened.1, opening-good),
      opening-claims c.make_all.new.heap opened.1.shows (c.in_ok-make_all.ensures.bare (subst NoneKept (sym c.in_ok-heap.ensures) none-empty)),
      same-counts [] c.new-2.result.births c.make_all.new.heap c.make_all.new.heap refl (ap (λ (h : HoldList). h.births) c.new-2.ensures)
          (opening-counts c.make_all.new.heap (c.in_ok-make_all.ensures.bare (subst NoneKept (sym c.in_ok-heap.ensures) none-empty))),
      opening-periods c.make_all.new.heap opened.1.shows (c.in_ok-make_all.ensures.periods (subst OwnKept (sym c.in_ok-heap.ensures) own-empty)),
    )
