use Rattle.std.proofs.Common.{◌+◌, ℕ, pos, max, sym, ◌∙◌, ap, get_or}
use Rattle.qo_memmap.specs.declared.region.Place.{Place}
use Rattle.qo_memmap.proofs.RankLemmas.{children-push, ord-max}
use Rattle.qo_memmap.proofs.region.rank_over.Goals as goal

pub loop-place-preserved : goal.loop-place-preserved
loop-place-preserved c =
    let none : Place = record { region = 0; at = 0; priority = pos 0 } in
    let more = children-push (λ (r : ℕ). get_or c.args.ranks.now r 0) c.args.places.now c.loop-place.place-index none c.loop-place-test.true in
    c.max-rank.ensures ∙ ord-max c.loop-place.rank (get_or c.args.ranks.now (get_or c.args.places.now c.loop-place.place-index none).region 0 + 1)
    ∙ ap (λ (n : ℕ). max n (get_or c.args.ranks.now (get_or c.args.places.now c.loop-place.place-index none).region 0 + 1)) c.loop-place.invariant ∙ sym more
