use Rattle.std.proofs.Common.{◌≡◌, true, length, arith, refl, sym, ◌∙◌}
use Rattle.std.proofs.lemmas.Result.{err_from_is_err_and}
use Rattle.qo_memmap.specs.Answers.{new_rank}
use Rattle.qo_memmap.specs.Regions.{area_of, names_below, is_in_range}
use Rattle.qo_memmap.specs.Windows.{areas_of}
use Rattle.qo_memmap.proofs.MapLemmas.{new-rank, map-grown, areas-push}
use Rattle.qo_memmap.proofs.ShowLemmas.{areas-length}
use Rattle.qo_memmap.proofs.map.Map.add.Goals as goal

pub returns-then-rank-gt-MAX_RANK : goal.returns-then-rank-gt-MAX_RANK
returns-then-rank-gt-MAX_RANK c =
    let n : c.len-number.result ≡ length c.self.inside.regions.items = omega (arith, c.len-number.ensures, c.self.inside.regions.ok.0) in
    let below : names_below (length c.self.inside.regions.items) (area_of c.args.region) ≡ true = rw (← n) (sym c.names_below.ensures ∙ c.if-not-names_below.false) in
    let ranged : is_in_range (area_of c.args.region) ≡ true = sym c.is_in_range.ensures ∙ c.if-not-is_in_range.false in
    let rank : c.rank-rank.result ≡ new_rank (areas_of c.self.inside.regions.items) (area_of c.args.region) =
    rw c.deref.ensures.value at c.rank-rank.ensures ∙ new-rank c.self.inside.regions.items c.self.inside.ranks.items (area_of c.args.region) c.self.invariant below in
    let size : length (areas_of c.self.inside.regions.items) ≡ length c.self.inside.regions.items = areas-length c.self.inside.regions.items in
    rw (← c.self.view_is) ((ranged, rw size below), omega (arith, rank, c.if-rank-gt-MAX_RANK.true), refl)

pub returns-then-number-ge-MAX_REGIONS : goal.returns-then-number-ge-MAX_REGIONS
returns-then-number-ge-MAX_REGIONS c =
    let n : c.len-number.result ≡ length c.self.inside.regions.items = omega (arith, c.len-number.ensures, c.self.inside.regions.ok.0) in
    let below : names_below (length c.self.inside.regions.items) (area_of c.args.region) ≡ true = rw (← n) (sym c.names_below.ensures ∙ c.if-not-names_below.false) in
    let ranged : is_in_range (area_of c.args.region) ≡ true = sym c.is_in_range.ensures ∙ c.if-not-is_in_range.false in
    let rank : c.rank-rank.result ≡ new_rank (areas_of c.self.inside.regions.items) (area_of c.args.region) =
    rw c.deref.ensures.value at c.rank-rank.ensures ∙ new-rank c.self.inside.regions.items c.self.inside.ranks.items (area_of c.args.region) c.self.invariant below in
    let size : length (areas_of c.self.inside.regions.items) ≡ length c.self.inside.regions.items = areas-length c.self.inside.regions.items in
    rw (← c.self.view_is) ((ranged, rw size below), omega (arith, rank, c.if-rank-gt-MAX_RANK.false), omega (arith, size, n, c.if-number-ge-MAX_REGIONS.true), refl)

pub returns-in_err-make_room : goal.returns-in_err-make_room
returns-in_err-make_room c =
    let n : c.len-number.result ≡ length c.self.inside.regions.items = omega (arith, c.len-number.ensures, c.self.inside.regions.ok.0) in
    let below : names_below (length c.self.inside.regions.items) (area_of c.args.region) ≡ true = rw (← n) (sym c.names_below.ensures ∙ c.if-not-names_below.false) in
    let ranged : is_in_range (area_of c.args.region) ≡ true = sym c.is_in_range.ensures ∙ c.if-not-is_in_range.false in
    let rank : c.rank-rank.result ≡ new_rank (areas_of c.self.inside.regions.items) (area_of c.args.region) =
    rw c.deref.ensures.value at c.rank-rank.ensures ∙ new-rank c.self.inside.regions.items c.self.inside.ranks.items (area_of c.args.region) c.self.invariant below in
    let size : length (areas_of c.self.inside.regions.items) ≡ length c.self.inside.regions.items = areas-length c.self.inside.regions.items in
    let p = err_from_is_err_and c.from_residual.result c.from_residual.ensures.1 in
    rw (p.1, p.2, c.make_room.ensures.kept.0, ← c.self.view_is)
    ((ranged, rw size below), omega (arith, rank, c.if-rank-gt-MAX_RANK.false), omega (arith, size, n, c.if-number-ge-MAX_REGIONS.false), refl)

pub invariant_of-self-2 : goal.invariant_of-self-2
invariant_of-self-2 c =
    let n : c.len-number.result ≡ length c.self.inside.regions.items = omega (arith, c.len-number.ensures, c.self.inside.regions.ok.0) in
    let below : names_below (length c.self.inside.regions.items) (area_of c.args.region) ≡ true = rw (← n) (sym c.names_below.ensures ∙ c.if-not-names_below.false) in
    let ranged : is_in_range (area_of c.args.region) ≡ true = sym c.is_in_range.ensures ∙ c.if-not-is_in_range.false in
    rw (c.push_reserved.ensures.items, c.push_reserved-2.ensures.items, c.make_room.ensures.kept.0, c.make_room.ensures.kept.1)
    (map-grown c.self.inside.regions.items c.self.inside.ranks.items c.args.region c.rank-rank.result c.self.invariant ranged below
    (rw c.deref.ensures.value at c.rank-rank.ensures) c.if-rank-gt-MAX_RANK.false (omega (arith, n, c.if-number-ge-MAX_REGIONS.false)))

pub returns : goal.returns
returns c =
    let n : c.len-number.result ≡ length c.self.inside.regions.items = omega (arith, c.len-number.ensures, c.self.inside.regions.ok.0) in
    let below : names_below (length c.self.inside.regions.items) (area_of c.args.region) ≡ true = rw (← n) (sym c.names_below.ensures ∙ c.if-not-names_below.false) in
    let ranged : is_in_range (area_of c.args.region) ≡ true = sym c.is_in_range.ensures ∙ c.if-not-is_in_range.false in
    let rank : c.rank-rank.result ≡ new_rank (areas_of c.self.inside.regions.items) (area_of c.args.region) =
    rw c.deref.ensures.value at c.rank-rank.ensures ∙ new-rank c.self.inside.regions.items c.self.inside.ranks.items (area_of c.args.region) c.self.invariant below in
    let size : length (areas_of c.self.inside.regions.items) ≡ length c.self.inside.regions.items = areas-length c.self.inside.regions.items in
    let pushed = areas-push c.self.inside.regions.items c.args.region in
    rw (c.push_reserved.ensures.items, c.make_room.ensures.kept.0, ← c.self.view_is)
    ((ranged, rw size below), omega (arith, rank, c.if-rank-gt-MAX_RANK.false), omega (arith, size, n, c.if-number-ge-MAX_REGIONS.false), n ∙ sym size, pushed)
