-- How a map grows, and what its regions show.
use Rattle.std.proofs.Common.{◌≡◌, ℕ, ◌+◌, ◌-◌, ◌<◌, ◌≤◌, Bool, true, not, ◌&&◌, List, [], ◌∷◌, ◌++◌, length, get_or, leb, eqb, refl, ap, arith, sym, ◌∙◌, ◌⊎◌, inl, inr, ⊎_elim, length-append}
use Rattle.std.proofs.lemmas.Bool.{cases_lt, and_parts, not-true, eqb-false}
use Rattle.std.proofs.Math.Seq.{get_or-append_seam}
use Rattle.std.proofs.lemmas.List.{get_or_append_left, get_or_past}
use Rattle.std.specs.List.{list_all}
use Rattle.qo_memmap.specs.declared.map.TheConstants.{MAX_RANK, MAX_REGIONS}
use Rattle.qo_memmap.specs.declared.region.Kind.TheVariants.{Container}
use Rattle.qo_memmap.specs.declared.region.Place.{Place}
use Rattle.qo_memmap.specs.declared.region.Region.{Region}
use Rattle.qo_memmap.specs.declared.region.TheConstants.{ADDRESS_LIMIT}
use Rattle.qo_memmap.specs.declared.span.Span.{Span}
use Rattle.qo_memmap.specs.declared.window.Window.{Window}
use Rattle.qo_memmap.specs.Answers.{new_rank}
use Rattle.qo_memmap.specs.Regions.{Area, area_of, area_at, area_rank, rank_at, names_below, kind_in_range, is_in_range, shows_at}
use Rattle.qo_memmap.specs.Spans.{IsFlat}
use Rattle.qo_memmap.specs.Windows.{IsMap, SpansShow, WindowFits, through, areas_of}
use Rattle.qo_memmap.proofs.FlatLemmas.{Looks, inside, outside, looks, through-in, through-out, region-size}
use Rattle.qo_memmap.proofs.RankLemmas.{area-agree, ranks-are}
use Rattle.qo_memmap.proofs.SpansLemmas.{between-rises, between-some}
use Rattle.qo_memmap.proofs.ShowLemmas.{areas-length, areas-at, shows-past}

-- the flat view of a whole region

pub region-some : (region : Region) → is_in_range (area_of region) ≡ true → 1 ≤ region.size
region-some region ranged =
    let places : Bool = list_all (λ (p : Place). leb p.at ADDRESS_LIMIT) region.children.items in
    let all = and_parts (not (eqb region.size 0) && leb region.size ADDRESS_LIMIT && kind_in_range region.kind) places ranged in
    let most = and_parts (not (eqb region.size 0) && leb region.size ADDRESS_LIMIT) (kind_in_range region.kind) all.0 in
    let sizes = and_parts (not (eqb region.size 0)) (leb region.size ADDRESS_LIMIT) most.0 in
    let apart : region.size ≡ 0 → ⊥ = eqb-false region.size 0 (not-true (eqb region.size 0) sizes.0) in
    ⊎_elim (λ some. some) (λ none. absurd (apart (omega arith))) (cases_lt 0 region.size)

abbrev pub whole_window : ℕ → Window
whole_window size = record { at = 0; from = 0; size = size }

pub whole-fits : (region : Region) → is_in_range (area_of region) ≡ true → WindowFits (whole_window region.size) region.size
whole-fits region ranged = record {
  some = region-some region ranged;
  inside = omega arith;
  below = (let most = region-size region ranged in omega arith);
}

pub whole-flat : (below : List Region) (r : ℕ) (region : Region) (high : ℕ) (spans : List Span) → r < length below → region ≡ get_or below r region
    → SpansShow (through (whole_window region.size) (shows_at (areas_of below) r)) high spans → IsFlat (shows_at (areas_of below) r) spans
whole-flat below r region high spans there is shows = record {
  apart = between-rises 0 high spans shows.are.between;
  some = between-some 0 high spans shows.are.between;
  whole = shows.whole;
  exact = λ a. shows.exact a ∙ by a (looks (whole_window region.size) a);
}
  where
    by : (a : ℕ) → Looks (whole_window region.size) a → through (whole_window region.size) (shows_at (areas_of below) r) a ≡ shows_at (areas_of below) r a
    by a (inside from under) =
        let same : 0 + (a - 0) ≡ a = omega arith in
        through-in (whole_window region.size) (shows_at (areas_of below) r) a from under ∙ ap (shows_at (areas_of below) r) same
    by a (outside out) =
        let past : region.size ≤ a = ⊎_elim (λ less. absurd (omega arith)) (λ over. omega arith) out in
        let area : area_at (areas_of below) r ≡ area_of region = areas-at below r region there ∙ ap area_of (sym is) in
        through-out (whole_window region.size) (shows_at (areas_of below) r) a out
        ∙ sym (shows-past (areas_of below) r a (rw (ap (λ (x : Area). x.size) area) past))

-- one more region

pub areas-push : (regions : List Region) (region : Region) → areas_of (regions ++ region ∷ []) ≡ areas_of regions ++ area_of region ∷ []
areas-push [] region = refl
areas-push (x ∷ regions) region = ap (λ areas. area_of x ∷ areas) (areas-push regions region)

abbrev rank_in : List ℕ → ℕ → ℕ
rank_in ranks r = get_or ranks r 0

-- the rank that the code computes is the one it would have
pub new-rank : (regions : List Region) (ranks : List ℕ) (area : Area) → IsMap regions ranks → names_below (length regions) area ≡ true
    → area_rank (rank_in ranks) area ≡ new_rank (areas_of regions) area
new-rank regions ranks area kept below =
    area-agree (rank_in ranks) (rank_at (areas_of regions)) (length regions) area below
    (λ r less. ranks-are (rank_in ranks) (areas_of regions) r kept.sound
    (λ i there. kept.ranked i (rw (← areas-length regions) there)) (rw (areas-length regions) less))

area-old : (regions : List Region) (region : Region) (r : ℕ) → r < length regions → area_at (areas_of (regions ++ region ∷ [])) r ≡ area_at (areas_of regions) r
area-old regions region r within =
    let there : r < length (areas_of regions) = rw (areas-length regions) within in
    ap (λ areas. area_at areas r) (areas-push regions region)
    ∙ get_or_append_left (areas_of regions) (area_of region ∷ []) (record { size = 0; kind = Container; children = [] }) r there

area-new : (regions : List Region) (region : Region) (r : ℕ) → r ≡ length regions → area_at (areas_of (regions ++ region ∷ [])) r ≡ area_of region
area-new regions region r last =
    ap (λ areas. area_at areas r) (areas-push regions region) ∙ ap (area_at (areas_of regions ++ area_of region ∷ [])) (last ∙ sym (areas-length regions))
    ∙ get_or-append_seam (areas_of regions) (area_of region) [] (record { size = 0; kind = Container; children = [] })

new-or-old : (regions : List Region) (region : Region) (r : ℕ) → r < length (regions ++ region ∷ []) → (r < length regions) ⊎ (r ≡ length regions)
new-or-old regions region r within = ⊎_elim (λ old. inl old) (λ past. inr (omega (arith, length-append regions (region ∷ [])))) (cases_lt r (length regions))

rank-old : (ranks : List ℕ) (rank r : ℕ) → r < length ranks → rank_in (ranks ++ rank ∷ []) r ≡ rank_in ranks r
rank-old ranks rank r within = get_or_append_left ranks (rank ∷ []) 0 r within

pub map-grown : (regions : List Region) (ranks : List ℕ) (region : Region) (rank : ℕ) → IsMap regions ranks → is_in_range (area_of region) ≡ true
    → names_below (length regions) (area_of region) ≡ true → rank ≡ area_rank (rank_in ranks) (area_of region) → rank ≤ MAX_RANK → length regions < MAX_REGIONS
    → IsMap (regions ++ region ∷ []) (ranks ++ rank ∷ [])
map-grown regions ranks region rank kept ranged below is most room = record {
  sound = record {
    lower = λ r within. ⊎_elim
        (λ old. ap (names_below r) (area-old regions region r old) ∙ kept.sound.lower r (rw (areas-length regions) old))
        (λ last. ap (names_below r) (area-new regions region r last) ∙ ap (λ n. names_below n (area_of region)) last ∙ below)
        (new-or-old regions region r (rw (areas-length (regions ++ region ∷ [])) at within));
    ranged = λ r within. ⊎_elim
        (λ old. ap is_in_range (area-old regions region r old) ∙ kept.sound.ranged r (rw (areas-length regions) old))
        (λ last. ap is_in_range (area-new regions region r last) ∙ ranged)
        (new-or-old regions region r (rw (areas-length (regions ++ region ∷ [])) at within));
  };
  ranks_all = omega (arith, length-append ranks (rank ∷ []), length-append regions (region ∷ []), kept.ranks_all);
  ranked = λ r within. ⊎_elim (λ old. old-ranked r old) (λ last. new-ranked r last) (new-or-old regions region r within);
  shallow = λ r. shallow r;
  bounded = omega (arith, length-append regions (region ∷ []));
}
  where
    old-ranked : (r : ℕ) → r < length regions
        → rank_in (ranks ++ rank ∷ []) r ≡ area_rank (rank_in (ranks ++ rank ∷ [])) (area_at (areas_of (regions ++ region ∷ [])) r)
    old-ranked r old =
        let there : r < length ranks = omega (arith, kept.ranks_all) in
        rank-old ranks rank r there ∙ kept.ranked r old
        ∙ area-agree (rank_in ranks) (rank_in (ranks ++ rank ∷ [])) r (area_at (areas_of regions) r) (kept.sound.lower r (rw (areas-length regions) old))
        (λ x less. sym (rank-old ranks rank x (omega arith)))
        ∙ ap (area_rank (rank_in (ranks ++ rank ∷ []))) (sym (area-old regions region r old))

    new-ranked : (r : ℕ) → r ≡ length regions
        → rank_in (ranks ++ rank ∷ []) r ≡ area_rank (rank_in (ranks ++ rank ∷ [])) (area_at (areas_of (regions ++ region ∷ [])) r)
    new-ranked r last =
        ap (rank_in (ranks ++ rank ∷ [])) (last ∙ sym kept.ranks_all) ∙ get_or-append_seam ranks rank [] 0 ∙ is
        ∙ area-agree (rank_in ranks) (rank_in (ranks ++ rank ∷ [])) (length regions) (area_of region) below
        (λ x less. sym (rank-old ranks rank x (omega (arith, kept.ranks_all))))
        ∙ ap (area_rank (rank_in (ranks ++ rank ∷ []))) (sym (area-new regions region r last))

    shallow : (r : ℕ) → rank_in (ranks ++ rank ∷ []) r ≤ MAX_RANK
    shallow r = ⊎_elim
        (λ (old : r < length ranks). rw (rank-old ranks rank r old) (kept.shallow r))
        (λ (past : length ranks ≤ r). ⊎_elim
        (λ (more : length ranks < r).
        let behind : length (ranks ++ rank ∷ []) ≤ r = omega (arith, length-append ranks (rank ∷ [])) in
        rw (get_or_past (ranks ++ rank ∷ []) r 0 behind) (omega arith))
        (λ (least : r ≤ length ranks).
        let last : r ≡ length ranks = omega arith in
        rw (last, get_or-append_seam ranks rank [] 0) most)
        (cases_lt (length ranks) r))
        (cases_lt r (length ranks))
