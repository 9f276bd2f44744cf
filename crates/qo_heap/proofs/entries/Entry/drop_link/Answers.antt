use Rattle.std.proofs.Common.{sym}
use Rattle.qo_heap.proofs.WeakEnds.{link-found, link-missed, link-past}
use Rattle.qo_heap.proofs.entries.Entry.drop_link.Goals as goal

pub returns-in_err-place : goal.returns-in_err-place
returns-in_err-place c = absurd (link-missed c.args.self.now c.args.id c.requires.known (sym c.in_err-place.ensures))

pub returns-in_err-at : goal.returns-in_err-at
returns-in_err-at c =
    absurd (link-past c.args.self.now c.args.id c.requires.known c.requires.numbered c.in_ok-place.place (sym c.in_ok-place.ensures) c.in_err-at.ensures.none)

pub returns : goal.returns
returns c =
    link-found c.args.self.now c.args.id c.requires.known c.in_ok-place.place c.in_ok-at.at (sym c.in_ok-place.ensures) c.in_ok-at.ensures.place
    c.drop_at.new.self c.drop_at.result.loose c.drop_at.ensures.now c.drop_at.ensures.loose
