-- How a flat view is made.
use Rattle.std.proofs.Common.{◌≡◌, ℕ, zero, suc, ◌+◌, ◌-◌, ◌<◌, ◌≤◌, Bool, true, false, ◌&&◌, List, [], ◌∷◌, ◌++◌, Option, Some, None, ℤ, ◌*◌, not, eqb, map, length, take, get_or, ltb, leb, refl, ap, ap₂, arith, sym, ◌∙◌, ◌⊎◌, inl, inr, ⊎_elim}
use Rattle.std.proofs.lemmas.Bool.{cases_lt, and_parts, and_from, and_left, and_right, leb-true, le-ltb, lt-ltb, le-leb, lt-leb}
use Rattle.std.specs.List.{list_all}
use Rattle.std.specs.Option.{option_map}
use Rattle.qo_memmap.specs.declared.merge.Layer.{Layer}
use Rattle.qo_memmap.specs.declared.merge.Order.TheVariants.{ByPriority, LaterFirst}
use Rattle.qo_memmap.specs.declared.region.Kind.TheVariants.{Container}
use Rattle.qo_memmap.specs.declared.region.Place.{Place}
use Rattle.qo_memmap.specs.declared.region.Region.{Region}
use Rattle.qo_memmap.specs.declared.region.TheConstants.{ADDRESS_LIMIT}
use Rattle.qo_memmap.specs.declared.span.Span.{Span}
use Rattle.qo_memmap.specs.declared.window.Window.{Window}
use Rattle.qo_memmap.specs.Joins.{IsJoined}
use Rattle.qo_memmap.specs.Merges.{IsMerged}
use Rattle.qo_memmap.specs.Regions.{Target, Seen, Area, over, child_shows, children_show, leaf_shows, kind_shows, or_itself, area_of, area_at, area_shows, shows_at, kind_below, names_below, kind_in_range, is_in_range}
use Rattle.qo_memmap.specs.Spans.{spans_show}
use Rattle.qo_memmap.specs.Windows.{WindowFits, in_window, through, IsPart, IsChildWindow, IsShifted, IsAliasWindow, spans_of, layer_of, AreSpans, over_by, SpansShow, LayersShow, AreSound, PlacesFit, areas_of}
use Rattle.qo_memmap.proofs.ShowLemmas.{children-append, shows-taken, shows-past, areas-take, areas-length, areas-at, sound-take, places-fit}
use Rattle.qo_memmap.proofs.SpansLemmas.{in-yes, in-before, in-behind, between-higher, layers-spans, layered-shows, layered-spans}

-- in a window, or not
pub data Looks (w : Window) (a : ℕ) : Type 0 where
  inside : w.at ≤ a → a < w.at + w.size → Looks w a
  outside : (a < w.at) ⊎ (w.at + w.size ≤ a) → Looks w a

pub looks : (w : Window) (a : ℕ) → Looks w a
looks w a = ⊎_elim
    (λ less. outside (inl less))
    (λ from. ⊎_elim (λ below. inside from below) (λ past. outside (inr past)) (cases_lt a (w.at + w.size)))
    (cases_lt a w.at)

in-window : (w : Window) (a : ℕ) → w.at ≤ a → a < w.at + w.size → in_window w a ≡ true
in-window w a from below = and_from (leb w.at a) (ltb a (w.at + w.size)) (le-leb w.at a from) (lt-ltb a (w.at + w.size) below)

out-of-window : (w : Window) (a : ℕ) → (a < w.at) ⊎ (w.at + w.size ≤ a) → in_window w a ≡ false
out-of-window w a out = ⊎_elim
    (λ less. and_left (leb w.at a) (ltb a (w.at + w.size)) (lt-leb w.at a less))
    (λ past. and_right (leb w.at a) (ltb a (w.at + w.size)) (le-ltb a (w.at + w.size) past))
    out

module _ {X : Type 0} (w : Window) (f : ℕ → Option X) (a : ℕ) where
  pub through-in : w.at ≤ a → a < w.at + w.size → through w f a ≡ f (w.from + (a - w.at))
  through-in from below = rw (in-window w a from below) refl

  pub through-out : (a < w.at) ⊎ (w.at + w.size ≤ a) → through w f a ≡ None
  through-out out = rw (out-of-window w a out) refl

-- nothing is seen where nothing is shown
through-none : {X : Type 0} (w : Window) (f : ℕ → Option X) (a : ℕ) → ((x : ℕ) → w.from ≤ x → x < w.from + w.size → f x ≡ None) → through w f a ≡ None
through-none w f a none = by (looks w a)
  where
    by : Looks w a → through w f a ≡ None
    by (inside from below) = through-in w f a from below ∙ none (w.from + (a - w.at)) (omega arith) (omega arith)
    by (outside out) = through-out w f a out

through-same : {X : Type 0} (w : Window) (f g : ℕ → Option X) (a : ℕ) → ((x : ℕ) → w.from ≤ x → x < w.from + w.size → f x ≡ g x) → through w f a ≡ through w g a
through-same w f g a same = by (looks w a)
  where
    by : Looks w a → through w f a ≡ through w g a
    by (inside from below) =
        through-in w f a from below ∙ same (w.from + (a - w.at)) (omega arith) (omega arith) ∙ sym (through-in w g a from below)
    by (outside out) = through-out w f a out ∙ sym (through-out w g a out)

abbrev with_priority : ℤ → Target → Seen
with_priority priority t = record { priority = priority; target = t }

abbrev target_of : Seen → Target
target_of s = s.target

abbrev window_span : Window → ℕ → Span
window_span w leaf = record { at = w.at; size = w.size; leaf = leaf; offset = w.from }

no-spans : (high : ℕ) → AreSpans high []
no-spans high = record { between = omega arith; fit = tt }

-- a child that fills no part of the window
child-nothing : (f : ℕ → ℕ → Option Target) (place : Place) (size x : ℕ) → ((y : ℕ) → size ≤ y → f place.region y ≡ None)
    → (x < place.at) ⊎ (place.at + size ≤ x) → child_shows f place x ≡ None
child-nothing f place size x blank out = ⊎_elim
    (λ (less : x < place.at). rw (lt-ltb x place.at less) refl)
    (λ (past : place.at + size ≤ x).
    (let from : place.at ≤ x = omega arith in
    let end : size ≤ x - place.at = omega arith in
    let none : f place.region (x - place.at) ≡ None = blank (x - place.at) end in
    rw (le-ltb x place.at from, none) refl))
    out

pub child-none : (f : ℕ → ℕ → Option Target) (w : Window) (place : Place) (size : ℕ) → IsChildWindow w place.at size None
    → ((y : ℕ) → size ≤ y → f place.region y ≡ None) → LayersShow (through w (child_shows f place)) (w.at + w.size) []
child-none f w place size none blank = record {
  are = no-spans (w.at + w.size);
  exact = λ a. sym (through-none w (child_shows f place) a (λ x from below. child-nothing f place size x blank (none x from below)));
}

-- a child that fills a part
pub child-part : (f : ℕ → ℕ → Option Target) (w part : Window) (place : Place) (size : ℕ) (spans : List Span) → IsPart w part place.at size
    → ((y : ℕ) → size ≤ y → f place.region y ≡ None) → SpansShow (through part (f place.region)) (part.at + part.size) spans
    → LayersShow (through w (child_shows f place)) (w.at + w.size) (map (layer_of place.priority) spans)
child-part f w part place size spans is blank shows = record {
  are = rw (layered-spans place.priority spans) (record {
    between = between-higher 0 (part.at + part.size) (w.at + w.size) spans is.end shows.are.between;
    fit = shows.are.fit;
  });
  exact = λ a. layered-shows place.priority spans a ∙ ap (option_map (with_priority place.priority)) (shows.exact a) ∙ by a (looks part a) (looks w a);
}
  where
    by : (a : ℕ) → Looks part a → Looks w a → option_map (with_priority place.priority) (through part (f place.region) a) ≡ through w (child_shows f place) a
    by a (inside from below) (inside from' below') =
        let at_child : place.at ≤ w.from + (a - w.at) = omega (arith, is.same, is.begin) in
        let same : part.from + (a - part.at) ≡ w.from + (a - w.at) - place.at = omega (arith, is.same, is.begin) in
        rw (through-in part (f place.region) a from below, through-in w (child_shows f place) a from' below', le-ltb (w.from + (a - w.at)) place.at at_child, same) refl
    by a (inside from below) (outside out) = absurd (⊎_elim (λ less. omega (arith, is.begin)) (λ past. omega (arith, is.end)) out)
    by a (outside out) (inside from' below') =
        let x : ℕ = w.from + (a - w.at) in
        let apart : (x < part.from + place.at) ⊎ (part.from + place.at + part.size ≤ x) =
        ⊎_elim (λ less. inl (omega (arith, is.same, is.begin))) (λ past. inr (omega (arith, is.same, is.begin))) out in
        rw (through-out part (f place.region) a out, through-in w (child_shows f place) a from' below')
        (sym (child-nothing f place size x blank (is.outside x (omega arith) (omega arith) apart)))
    by a (outside out) (outside out') = rw (through-out part (f place.region) a out, through-out w (child_shows f place) a out') refl

-- an alias that shows no part of the other region
pub alias-none : (f : ℕ → ℕ → Option Target) (w : Window) (r offset size : ℕ) → IsAliasWindow w offset size None → ((y : ℕ) → size ≤ y → f r y ≡ None)
    → SpansShow (through w (λ x. f r (x + offset))) (w.at + w.size) []
alias-none f w r offset size none blank = record {
  are = no-spans (w.at + w.size);
  whole = tt;
  exact = λ a. sym (through-none w (λ x. f r (x + offset)) a (λ x from below. blank (x + offset) (omega arith)));
}

-- or one
pub alias-part : (f : ℕ → ℕ → Option Target) (w part : Window) (r offset size : ℕ) (spans : List Span) → IsShifted w part offset size
    → ((y : ℕ) → size ≤ y → f r y ≡ None) → SpansShow (through part (f r)) (part.at + part.size) spans
    → SpansShow (through w (λ x. f r (x + offset))) (w.at + w.size) spans
alias-part f w part r offset size spans is blank shows = record {
  are = record {
    between = between-higher 0 (part.at + part.size) (w.at + w.size) spans (omega (arith, is.begin, is.end)) shows.are.between;
    fit = shows.are.fit;
  };
  whole = shows.whole;
  exact = λ a. shows.exact a ∙ by a (looks part a) (looks w a);
}
  where
    by : (a : ℕ) → Looks part a → Looks w a → through part (f r) a ≡ through w (λ x. f r (x + offset)) a
    by a (inside from below) (inside from' below') =
        let same : part.from + (a - part.at) ≡ w.from + (a - w.at) + offset = omega (arith, is.same, is.begin) in
        rw (through-in part (f r) a from below, through-in w (λ x. f r (x + offset)) a from' below', same) refl
    by a (inside from below) (outside out) = absurd (⊎_elim (λ less. omega (arith, is.begin)) (λ past. omega (arith, is.begin, is.end)) out)
    by a (outside out) (inside from' below') =
        let past : part.at + part.size ≤ a = ⊎_elim (λ less. absurd (omega (arith, is.begin))) (λ past. past) out in
        let short : part.size < w.size = omega (arith, is.begin) in
        let end : size ≤ w.from + (a - w.at) + offset = omega (arith, is.outside short, is.same, is.begin) in
        rw (through-out part (f r) a out, through-in w (λ x. f r (x + offset)) a from' below') (sym (blank (w.from + (a - w.at) + offset) end))
    by a (outside out) (outside out') = rw (through-out part (f r) a out, through-out w (λ x. f r (x + offset)) a out') refl

-- a leaf
pub leaf-part : (w : Window) (leaf : ℕ) → WindowFits w ADDRESS_LIMIT
    → SpansShow (through w (leaf_shows leaf)) (w.at + w.size) (record { at = w.at; size = w.size; leaf = leaf; offset = w.from } ∷ [])
leaf-part w leaf fits = record {
  are = record { between = (omega arith, fits.some, omega arith); fit = (fits.inside, tt) };
  whole = tt;
  exact = λ a. by a (looks w a);
}
  where
    by : (a : ℕ) → Looks w a → spans_show (window_span w leaf ∷ []) a ≡ through w (leaf_shows leaf) a
    by a (inside from below) = rw (in-yes (window_span w leaf) a from below) refl
    by a (outside out) = ⊎_elim (λ less. rw (in-before (window_span w leaf) a less) refl) (λ past. rw (in-behind (window_span w leaf) a past) refl) out

-- nothing by itself
pub container-part : (f : ℕ → ℕ → Option Target) (w : Window) → SpansShow (through w (kind_shows f Container)) (w.at + w.size) []
container-part f w = record {
  are = no-spans (w.at + w.size);
  whole = tt;
  exact = λ a. sym (through-none w (kind_shows f Container) a (λ x from below. refl));
}

-- no children
pub children-none : (f : ℕ → ℕ → Option Target) (w : Window) → LayersShow (through w (children_show f [])) (w.at + w.size) []
children-none f w = record { are = no-spans (w.at + w.size); exact = λ a. sym (through-none w (children_show f []) a (λ x from below. refl)) }

-- the children of two halves
pub children-merged : (f : ℕ → ℕ → Option Target) (w : Window) (xs ys : List Place) (first later merged : List Layer)
    → LayersShow (through w (children_show f xs)) (w.at + w.size) first → LayersShow (through w (children_show f ys)) (w.at + w.size) later
    → IsMerged first later ByPriority (w.at + w.size) merged → LayersShow (through w (children_show f (xs ++ ys))) (w.at + w.size) merged
children-merged f w xs ys first later merged firsts laters is = record {
  are = is.are;
  exact = λ a. is.exact a ∙ ap₂ over (firsts.exact a) (laters.exact a) ∙ by a (looks w a);
}
  where
    by : (a : ℕ) → Looks w a → over (through w (children_show f xs) a) (through w (children_show f ys) a) ≡ through w (children_show f (xs ++ ys)) a
    by a (inside from below) =
        rw (through-in w (children_show f xs) a from below, through-in w (children_show f ys) a from below, through-in w (children_show f (xs ++ ys)) a from below)
        (sym (children-append f xs ys (w.from + (a - w.at))))
    by a (outside out) = rw (through-out w (children_show f xs) a out, through-out w (children_show f ys) a out, through-out w (children_show f (xs ++ ys)) a out) refl

-- a region without children
pub region-itself : (f : ℕ → ℕ → Option Target) (w : Window) (area : Area) (spans : List Span) → WindowFits w area.size → area.children ≡ []
    → SpansShow (through w (kind_shows f area.kind)) (w.at + w.size) spans → SpansShow (through w (area_shows f area)) (w.at + w.size) spans
region-itself f w area spans fits none shows = record {
  are = shows.are;
  whole = shows.whole;
  exact = λ a. shows.exact a ∙ through-same w (kind_shows f area.kind) (area_shows f area) a (λ x from below.
      (let less : x < area.size = omega (arith, fits.inside) in rw (lt-ltb x area.size less, none) refl));
}

-- a region with children
pub region-joined : (f : ℕ → ℕ → Option Target) (w : Window) (area : Area) (itself spans : List Span) (children merged : List Layer) (p : ℤ)
    → WindowFits w area.size → SpansShow (through w (kind_shows f area.kind)) (w.at + w.size) itself
    → LayersShow (through w (children_show f area.children)) (w.at + w.size) children
    → IsMerged (map (layer_of p) itself) children LaterFirst (w.at + w.size) merged → IsJoined (spans_of merged) spans
    → SpansShow (through w (area_shows f area)) (w.at + w.size) spans
region-joined f w area itself spans children merged p fits itselfs childrens is joins = record {
  are = joins.are (w.at + w.size) is.are;
  whole = joins.whole;
  exact = λ a.
      joins.same a ∙ layers-spans merged a ∙ ap (option_map target_of)
      (is.exact a ∙ ap₂ (over_by LaterFirst) (layered-shows p itself a ∙ ap (option_map (with_priority p)) (itselfs.exact a)) (childrens.exact a)) ∙ by a (looks w a);
}
  where
    merged_target : (s : Option Seen) (t : Option Target) → option_map target_of (over_by LaterFirst (option_map (with_priority p) t) s) ≡ or_itself s t
    merged_target None None = refl
    merged_target None (Some t) = refl
    merged_target (Some s) None = refl
    merged_target (Some s) (Some t) = refl

    by : (a : ℕ) → Looks w a
        → option_map target_of (over_by LaterFirst (option_map (with_priority p) (through w (kind_shows f area.kind) a)) (through w (children_show f area.children) a))
        ≡ through w (area_shows f area) a
    by a (inside from below) =
        let less : w.from + (a - w.at) < area.size = omega (arith, fits.inside) in
        rw (through-in w (kind_shows f area.kind) a from below, through-in w (children_show f area.children) a from below, through-in w (area_shows f area) a from below, lt-ltb (w.from + (a - w.at)) area.size less)
        (merged_target (children_show f area.children (w.from + (a - w.at))) (kind_shows f area.kind (w.from + (a - w.at))))
    by a (outside out) =
        rw (through-out w (kind_shows f area.kind) a out, through-out w (children_show f area.children) a out, through-out w (area_shows f area) a out)
        (merged_target None None)

-- the area of a region
at-region : (below : List Region) (r : ℕ) (region : Region) → r < length below → region ≡ get_or below r region
    → area_at (areas_of below) r ≡ area_of region
at-region below r region there is = areas-at below r region there ∙ ap area_of (sym is)

-- another way to say what is shown
pub spans-agree : (f g : ℕ → Option Target) (high : ℕ) (spans : List Span) → ((a : ℕ) → f a ≡ g a) → SpansShow f high spans → SpansShow g high spans
spans-agree f g high spans same shows = record { are = shows.are; whole = shows.whole; exact = λ a. shows.exact a ∙ same a }

-- a region by those below it alone
pub region-taken : (below : List Region) (r : ℕ) (region : Region) (w : Window) (high : ℕ) (spans : List Span) → AreSound (areas_of below) → r < length below
    → region ≡ get_or below r region
    → SpansShow (through w (area_shows (shows_at (areas_of (take r below))) (area_of region))) high spans
    → SpansShow (through w (shows_at (areas_of below) r)) high spans
region-taken below r region w high spans sound there is shows =
    spans-agree (through w (area_shows (shows_at (areas_of (take r below))) (area_of region))) (through w (shows_at (areas_of below) r)) high spans
    (λ a. through-same w (area_shows (shows_at (areas_of (take r below))) (area_of region)) (shows_at (areas_of below) r) a (λ x from below_end. same x))
    shows
  where
    same : (x : ℕ) → area_shows (shows_at (areas_of (take r below))) (area_of region) x ≡ shows_at (areas_of below) r x
    same x =
        let in_areas : r < length (areas_of below) = rw (areas-length below) there in
        ap (λ areas. area_shows (shows_at areas) (area_of region) x) (areas-take below r)
        ∙ ap (λ area. area_shows (shows_at (take r (areas_of below))) area x) (sym (at-region below r region there is))
        ∙ shows-taken (areas_of below) r x sound in_areas

-- nothing is shown behind a region
pub region-blank : (below : List Region) (r : ℕ) (region : Region) → r < length below → region ≡ get_or below r region
    → (y : ℕ) → region.size ≤ y → shows_at (areas_of below) r y ≡ None
region-blank below r region there is y past = shows-past (areas_of below) r y (rw (at-region below r region there is) past)

-- what a region asks of those below it
pub region-sound : (below : List Region) (r : ℕ) → r < length below → AreSound (areas_of below) → AreSound (areas_of (take r below))
region-sound below r there sound =
    let fits : r ≤ length (areas_of below) = rw (areas-length below) (omega arith) in
    rw (areas-take below r) (sound-take (areas_of below) r fits sound)

taken-count : (below : List Region) (r : ℕ) → r < length below → length (take r below) ≡ r
taken-count [] r there = absurd (omega arith)
taken-count (x ∷ below) zero there = refl
taken-count (x ∷ below) (suc r) there = ap suc (taken-count below r (omega arith))

pub region-named : (below : List Region) (r : ℕ) (region : Region) → r < length below → region ≡ get_or below r region → AreSound (areas_of below)
    → names_below (length (take r below)) (area_of region) ≡ true
region-named below r region there is sound =
    let in_areas : r < length (areas_of below) = rw (areas-length below) there in
    ap (λ n. names_below n (area_of region)) (taken-count below r there) ∙ ap (names_below r) (sym (at-region below r region there is)) ∙ sound.lower r in_areas

pub region-ranged : (below : List Region) (r : ℕ) (region : Region) → r < length below → region ≡ get_or below r region → AreSound (areas_of below)
    → is_in_range (area_of region) ≡ true
region-ranged below r region there is sound =
    let in_areas : r < length (areas_of below) = rw (areas-length below) there in
    ap is_in_range (sym (at-region below r region there is)) ∙ sound.ranged r in_areas

-- fewer regions are below
pub taken-falls : (below : List Region) (r t : ℕ) → r < length below → length below * 73786976294838206464 ≤ t
    → length (take r below) * 73786976294838206464 + 73786976294838206463 < t
taken-falls below r t there most = let count = taken-count below r there in omega (arith, count)

-- numbers in range

pub range-parts : (area : Area) → is_in_range area ≡ true
    → (area.size ≤ ADDRESS_LIMIT) × (kind_in_range area.kind ≡ true) × (list_all (λ (p : Place). leb p.at ADDRESS_LIMIT) area.children ≡ true)
range-parts area ranged =
    let places : Bool = list_all (λ (p : Place). leb p.at ADDRESS_LIMIT) area.children in
    let all = and_parts (not (eqb area.size 0) && leb area.size ADDRESS_LIMIT && kind_in_range area.kind) places ranged in
    let most = and_parts (not (eqb area.size 0) && leb area.size ADDRESS_LIMIT) (kind_in_range area.kind) all.0 in
    let sizes = and_parts (not (eqb area.size 0)) (leb area.size ADDRESS_LIMIT) most.0 in
    (leb-true area.size ADDRESS_LIMIT sizes.1, most.1, all.1)

pub region-places : (n : ℕ) (area : Area) → names_below n area ≡ true → is_in_range area ≡ true → PlacesFit n area.children
region-places n area below ranged =
    let named = and_parts (kind_below n area.kind) (list_all (λ (p : Place). ltb p.region n) area.children) below in
    places-fit n area.children named.1 (range-parts area ranged).2

pub region-size : (region : Region) → is_in_range (area_of region) ≡ true → region.size ≤ ADDRESS_LIMIT
region-size region ranged = (range-parts (area_of region) ranged).0

pub window-limit : (w : Window) (size : ℕ) → size ≤ ADDRESS_LIMIT → WindowFits w size → WindowFits w ADDRESS_LIMIT
window-limit w size most fits = record { some = fits.some; inside = omega (arith, fits.inside); below = fits.below }

-- a child's layers
pub child-layered : (f : ℕ → ℕ → Option Target) (w part : Window) (place : Place) (size : ℕ) (spans read : List Span) (layers : List Layer)
    → IsPart w part place.at size → ((y : ℕ) → size ≤ y → f place.region y ≡ None) → SpansShow (through part (f place.region)) (part.at + part.size) spans
    → read ≡ spans → layers ≡ map (layer_of place.priority) read → LayersShow (through w (child_shows f place)) (w.at + w.size) layers
child-layered f w part place size spans read layers is blank shows same made = rw (made, same) (child-part f w part place size spans is blank shows)
