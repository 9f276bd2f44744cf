-- What regions show.
use Rattle.std.proofs.Common.{◌≡◌, ℕ, zero, suc, ◌+◌, ◌-◌, ◌<◌, ◌≤◌, Bool, true, false, cond, List, [], ◌∷◌, ◌++◌, Option, Some, None, length, take, drop, get_or, ltb, leb, refl, ap, ap₂, arith, sym, ◌∙◌}
use Rattle.std.proofs.lemmas.Int.{ints}
use Rattle.std.specs.Int.Signed.{le_z}
use Rattle.std.proofs.lemmas.Bool.{and_parts, ltb-true, leb-true, le-ltb}
use Rattle.std.specs.List.{list_all}
use Rattle.std.specs.Option.{option_map}
use Rattle.qo_memmap.specs.declared.region.Kind.{Kind}
use Rattle.qo_memmap.specs.declared.region.Kind.TheVariants.{Container, Leaf, Alias}
use Rattle.qo_memmap.specs.declared.region.Place.{Place}
use Rattle.qo_memmap.specs.declared.region.Region.{Region}
use Rattle.qo_memmap.specs.declared.region.TheConstants.{ADDRESS_LIMIT}
use Rattle.qo_memmap.specs.Laws.{NamesLower}
use Rattle.qo_memmap.specs.Regions.{Target, Seen, Area, over, child_shows, children_show, kind_shows, or_itself, area_of, area_at, area_shows, shows_within, shows_at, kind_below, names_below}
use Rattle.qo_memmap.specs.Windows.{AreSound, PlacesFit, areas_of}

-- what children show together

over-assoc : (a b c : Option Seen) → over (over a b) c ≡ over a (over b c)
over-assoc None None None = refl
over-assoc None None (Some z) = refl
over-assoc None (Some y) None = refl
over-assoc None (Some y) (Some z) = by (le_z y.priority z.priority)
  where
    by : (b : Bool) → cond b (Some z) (Some y) ≡ over None (cond b (Some z) (Some y))
    by true = refl
    by false = refl
over-assoc (Some x) None None = refl
over-assoc (Some x) None (Some z) = refl
over-assoc (Some x) (Some y) None = by (le_z x.priority y.priority)
  where
    by : (b : Bool) → over (cond b (Some y) (Some x)) None ≡ cond b (Some y) (Some x)
    by true = refl
    by false = refl
over-assoc (Some x) (Some y) (Some z) = by (le_z x.priority y.priority) (le_z y.priority z.priority) (le_z x.priority z.priority) refl refl refl
  where
    by : (xy yz xz : Bool) → le_z x.priority y.priority ≡ xy → le_z y.priority z.priority ≡ yz → le_z x.priority z.priority ≡ xz
        → over (cond xy (Some y) (Some x)) (Some z) ≡ over (Some x) (cond yz (Some z) (Some y))
    by true true true e1 e2 e3 = rw (e2, e3) refl
    by true true false e1 e2 e3 = absurd (grind (arith, ints))
    by true false xz e1 e2 e3 = rw (e2, e1) refl
    by false true xz e1 e2 e3 = refl
    by false false true e1 e2 e3 = absurd (grind (arith, ints))
    by false false false e1 e2 e3 = rw (e3, e1) refl

over-none : (seen : Option Seen) → over None seen ≡ seen
over-none None = refl
over-none (Some seen) = refl

pub children-append : (f : ℕ → ℕ → Option Target) (xs ys : List Place) (a : ℕ)
    → children_show f (xs ++ ys) a ≡ over (children_show f xs a) (children_show f ys a)
children-append f [] ys a = sym (over-none (children_show f ys a))
children-append f (x ∷ xs) ys a =
    ap (over (child_shows f x a)) (children-append f xs ys a) ∙ sym (over-assoc (child_shows f x a) (children_show f xs a) (children_show f ys a))

pub child-only : (f : ℕ → ℕ → Option Target) (place : Place) (a : ℕ) → children_show f (place ∷ []) a ≡ child_shows f place a
child-only f place a = refl

-- what a region shows depends on the lower ones alone

children-agree : (f g : ℕ → ℕ → Option Target) (n : ℕ) (places : List Place) (a : ℕ) → list_all (λ (p : Place). ltb p.region n) places ≡ true
    → ((r x : ℕ) → r < n → f r x ≡ g r x) → children_show f places a ≡ children_show g places a
children-agree f g n [] a below same = refl
children-agree f g n (p ∷ places) a below same =
    let parts = and_parts (ltb p.region n) (list_all (λ (q : Place). ltb q.region n) places) below in
    ap₂ over
    (ap (λ (t : Option Target). cond (ltb a p.at) None (option_map (λ t'. record { priority = p.priority; target = t' }) t)) (same p.region (a - p.at) (ltb-true p.region n parts.0)))
    (children-agree f g n places a parts.1 same)

kind-agree : (f g : ℕ → ℕ → Option Target) (n : ℕ) (kind : Kind) (a : ℕ) → kind_below n kind ≡ true
    → ((r x : ℕ) → r < n → f r x ≡ g r x) → kind_shows f kind a ≡ kind_shows g kind a
kind-agree f g n Container a below same = refl
kind-agree f g n (Leaf leaf) a below same = refl
kind-agree f g n (Alias r offset) a below same = same r (a + offset) (ltb-true r n below)

pub area-agree : (f g : ℕ → ℕ → Option Target) (n : ℕ) (area : Area) (a : ℕ) → names_below n area ≡ true
    → ((r x : ℕ) → r < n → f r x ≡ g r x) → area_shows f area a ≡ area_shows g area a
area-agree f g n area a below same =
    let parts = and_parts (kind_below n area.kind) (list_all (λ (p : Place). ltb p.region n) area.children) below in
    ap₂ (λ (s : Option Seen) (t : Option Target). cond (ltb a area.size) (or_itself s t) None)
    (children-agree f g n area.children a parts.1 same) (kind-agree f g n area.kind a parts.0 same)

-- more regions in a row than the number of the region make no difference
enough : (areas : List Area) (m n r a : ℕ) → NamesLower areas → r < m → r < n → r < length areas → shows_within m areas r a ≡ shows_within n areas r a
unfolding shows_within
enough areas zero n r a lower below-m below-n within = absurd (omega arith)
enough areas (suc m) zero r a lower below-m below-n within = absurd (omega arith)
enough areas (suc m) (suc n) r a lower below-m below-n within =
    area-agree (shows_within m areas) (shows_within n areas) r (area_at areas r) a (lower r within)
    (λ x b less. enough areas m n x b lower (omega arith) (omega arith) (omega arith))

pub shows-step : (areas : List Area) (r a : ℕ) → NamesLower areas → r < length areas → shows_at areas r a ≡ area_shows (shows_at areas) (area_at areas r) a
unfolding shows_within
shows-step areas r a lower within =
    area-agree (shows_within r areas) (shows_at areas) r (area_at areas r) a (lower r within)
    (λ x b less. enough areas r (suc x) x b lower less (omega arith) (omega arith))

area-taken : (areas : List Area) (k r : ℕ) → r < k → area_at (take k areas) r ≡ area_at areas r
area-taken [] zero r less = absurd (omega arith)
area-taken [] (suc k) r less = refl
area-taken (x ∷ areas) zero r less = absurd (omega arith)
area-taken (x ∷ areas) (suc k) zero less = refl
area-taken (x ∷ areas) (suc k) (suc r) less = area-taken areas k r (omega arith)

-- the higher ones do not matter
taken : (areas : List Area) (n k r a : ℕ) → AreSound areas → r < k → k ≤ length areas → shows_within n (take k areas) r a ≡ shows_within n areas r a
unfolding shows_within
taken areas zero k r a sound less fits = refl
taken areas (suc n) k r a sound less fits =
    ap (λ (area : Area). area_shows (shows_within n (take k areas)) area a) (area-taken areas k r less)
    ∙ area-agree (shows_within n (take k areas)) (shows_within n areas) r (area_at areas r) a (sound.lower r (omega arith))
    (λ x b below. taken areas n k x b sound (omega arith) fits)

pub shows-taken : (areas : List Area) (r a : ℕ) → AreSound areas → r < length areas
    → area_shows (shows_at (take r areas)) (area_at areas r) a ≡ shows_at areas r a
shows-taken areas r a sound within =
    area-agree (shows_at (take r areas)) (shows_at areas) r (area_at areas r) a (sound.lower r within)
    (λ x b less. taken areas (suc x) r x b sound less (omega arith))
    ∙ sym (shows-step areas r a sound.lower within)

-- nothing is shown from the size of a region on
pub shows-past : (areas : List Area) (r a : ℕ) → (area_at areas r).size ≤ a → shows_at areas r a ≡ None
unfolding shows_within
shows-past areas r a past = rw (le-ltb a (area_at areas r).size past) refl

-- regions as areas

pub areas-take : (regions : List Region) (k : ℕ) → areas_of (take k regions) ≡ take k (areas_of regions)
areas-take [] zero = refl
areas-take [] (suc k) = refl
areas-take (r ∷ regions) zero = refl
areas-take (r ∷ regions) (suc k) = ap (λ areas. area_of r ∷ areas) (areas-take regions k)

pub areas-length : (regions : List Region) → length (areas_of regions) ≡ length regions
areas-length [] = refl
areas-length (r ∷ regions) = ap suc (areas-length regions)

pub areas-at : (regions : List Region) (k : ℕ) (d : Region) → k < length regions → area_at (areas_of regions) k ≡ area_of (get_or regions k d)
areas-at [] k d within = absurd (omega arith)
areas-at (r ∷ regions) zero d within = refl
areas-at (r ∷ regions) (suc k) d within = areas-at regions k d (omega arith)

taken-length : (areas : List Area) (k : ℕ) → k ≤ length areas → length (take k areas) ≡ k
taken-length areas zero within = refl
taken-length [] (suc k) within = absurd (omega arith)
taken-length (x ∷ areas) (suc k) within = ap suc (taken-length areas k (omega arith))

pub sound-take : (areas : List Area) (k : ℕ) → k ≤ length areas → AreSound areas → AreSound (take k areas)
sound-take areas k fits sound = record {
  lower = λ r within. (let less : r < k = omega (arith, taken-length areas k fits) in rw (area-taken areas k r less) (sound.lower r (omega arith)));
  ranged = λ r within. (let less : r < k = omega (arith, taken-length areas k fits) in rw (area-taken areas k r less) (sound.ranged r (omega arith)));
}

-- the places of children

pub places-fit : (n : ℕ) (places : List Place) → list_all (λ (p : Place). ltb p.region n) places ≡ true → list_all (λ (p : Place). leb p.at ADDRESS_LIMIT) places ≡ true
    → PlacesFit n places
places-fit n [] below ranged = tt
places-fit n (p ∷ places) below ranged =
    let first = and_parts (ltb p.region n) (list_all (λ (q : Place). ltb q.region n) places) below in
    let second = and_parts (leb p.at ADDRESS_LIMIT) (list_all (λ (q : Place). leb q.at ADDRESS_LIMIT) places) ranged in
    (ltb-true p.region n first.0, leb-true p.at ADDRESS_LIMIT second.0, places-fit n places first.1 second.1)

pub places-take : (n k : ℕ) (places : List Place) → PlacesFit n places → PlacesFit n (take k places)
places-take n zero places fit = tt
places-take n (suc k) [] fit = tt
places-take n (suc k) (p ∷ places) fit = (fit.0, fit.1, places-take n k places fit.2)

pub places-drop : (n k : ℕ) (places : List Place) → PlacesFit n places → PlacesFit n (drop k places)
places-drop n zero places fit = fit
places-drop n (suc k) [] fit = tt
places-drop n (suc k) (p ∷ places) fit = places-drop n k places fit.2

pub places-first : (n : ℕ) (places : List Place) (p : Place) → PlacesFit n places → true ≡ ltb 0 (length places) → p ≡ get_or places 0 p
    → (p.region < n) × (p.at ≤ ADDRESS_LIMIT)
places-first n [] p fit some is = absurd (cc)
places-first n (q ∷ places) p fit some is = rw is (fit.0, fit.1)
