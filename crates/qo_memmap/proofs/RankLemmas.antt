-- The ranks of regions.
use Rattle.std.proofs.Common.{◌≡◌, ℕ, zero, suc, ◌+◌, ◌<◌, true, List, [], ◌∷◌, ◌++◌, length, take, get_or, max, ltb, refl, ap, ap₂, arith, ◌∙◌}
use Rattle.std.proofs.lemmas.Bool.{and_parts, ltb-true}
use Rattle.std.proofs.lemmas.List.{take_more}
use Rattle.std.specs.List.{list_all}
use Rattle.std.specs.Ordering.{ord_max, nat_cmp}
use Rattle.std.proofs.lemmas.Bool.Decides.{nat_tests}
use Rattle.qo_memmap.specs.declared.region.Kind.{Kind}
use Rattle.qo_memmap.specs.declared.region.Kind.TheVariants.{Container, Leaf, Alias}
use Rattle.qo_memmap.specs.declared.region.Place.{Place}
use Rattle.qo_memmap.specs.Regions.{Area, area_at, kind_below, names_below, kind_rank, children_rank, area_rank, rank_within, rank_at}
use Rattle.qo_memmap.specs.Windows.{AreSound}

-- one more child
children-append : (f : ℕ → ℕ) (places : List Place) (p : Place) → children_rank f (places ++ p ∷ []) ≡ max (children_rank f places) (f p.region + 1)
children-append f [] p = omega arith
children-append f (q ∷ places) p =
    ap (max (f q.region + 1)) (children-append f places p) ∙ assoc (f q.region + 1) (children_rank f places) (f p.region + 1)
  where
    assoc : (a b c : ℕ) → max a (max b c) ≡ max (max a b) c
    assoc a b c = omega arith

pub children-push : (f : ℕ → ℕ) (places : List Place) (i : ℕ) (d : Place) → i < length places
    → children_rank f (take (i + 1) places) ≡ max (children_rank f (take i places)) (f (get_or places i d).region + 1)
children-push f places i d within = ap (children_rank f) (take_more places i d within) ∙ children-append f (take i places) (get_or places i d)

-- a rank depends on the lower ones alone
children-agree : (f g : ℕ → ℕ) (n : ℕ) (places : List Place) → list_all (λ (p : Place). ltb p.region n) places ≡ true → ((r : ℕ) → r < n → f r ≡ g r)
    → children_rank f places ≡ children_rank g places
children-agree f g n [] below same = refl
children-agree f g n (p ∷ places) below same =
    let parts = and_parts (ltb p.region n) (list_all (λ (q : Place). ltb q.region n) places) below in
    ap₂ (λ (a b : ℕ). max (a + 1) b) (same p.region (ltb-true p.region n parts.0)) (children-agree f g n places parts.1 same)

kind-agree : (f g : ℕ → ℕ) (n : ℕ) (kind : Kind) → kind_below n kind ≡ true → ((r : ℕ) → r < n → f r ≡ g r) → kind_rank f kind ≡ kind_rank g kind
kind-agree f g n Container below same = refl
kind-agree f g n (Leaf leaf) below same = refl
kind-agree f g n (Alias r offset) below same = ap (λ a. a + 1) (same r (ltb-true r n below))

pub area-agree : (f g : ℕ → ℕ) (n : ℕ) (area : Area) → names_below n area ≡ true → ((r : ℕ) → r < n → f r ≡ g r) → area_rank f area ≡ area_rank g area
area-agree f g n area below same =
    let parts = and_parts (kind_below n area.kind) (list_all (λ (p : Place). ltb p.region n) area.children) below in
    ap₂ max (kind-agree f g n area.kind parts.0 same) (children-agree f g n area.children parts.1 same)

-- ranks that each region agrees with are the ranks
ranked-within : (f : ℕ → ℕ) (areas : List Area) (n r : ℕ) → AreSound areas → ((i : ℕ) → i < length areas → f i ≡ area_rank f (area_at areas i))
    → r < n → r < length areas → f r ≡ rank_within n areas r
unfolding rank_within
ranked-within f areas zero r sound ranked below within = absurd (omega arith)
ranked-within f areas (suc n) r sound ranked below within =
    ranked r within ∙ area-agree f (rank_within n areas) r (area_at areas r) (sound.lower r within)
    (λ x less. ranked-within f areas n x sound ranked (omega arith) (omega arith))

pub ranks-are : (f : ℕ → ℕ) (areas : List Area) (r : ℕ) → AreSound areas → ((i : ℕ) → i < length areas → f i ≡ area_rank f (area_at areas i))
    → r < length areas → f r ≡ rank_at areas r
ranks-are f areas r sound ranked within = ranked-within f areas (suc r) r sound ranked (omega arith) within

-- the greater of two numbers, as `max` has it
pub ord-max : (a b : ℕ) → ord_max nat_cmp a b ≡ max a b
ord-max a b = grind (arith, nat_tests)
