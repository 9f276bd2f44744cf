-- What regions show where one child alone holds an address.
use Rattle.std.proofs.Common.{◌≡◌, refl, ap, ◌∙◌, ℕ, zero, suc, ◌+◌, ◌-◌, ◌<◌, ◌≤◌, Bool, true, false, cond, eqb, ltb, List, [], ◌∷◌, Option, Some, None, arith}
use Rattle.std.specs.Prelude.{flat_map}
use Rattle.std.specs.Int.Signed.{le_z}
use Rattle.std.proofs.lemmas.Bool.{eqb-true, le-ltb, lt-ltb}
use Rattle.qo_model.specs.Depth.{among}
use Rattle.qo_memmap.specs.Regions.{Target, Seen, Area, over, area_at, child_shows, children_show, shows_within}
use Rattle.qo_memmap.specs.declared.region.Kind.TheVariants.{Container, Leaf}
use Rattle.qo_memmap.specs.declared.region.Place.{Place}
use Rattle.qo_memmap.proofs.ShowLemmas.{children-append}

-- nothing is shown from the size of a region on
pub within-past : (n : ℕ) (areas : List Area) (r a : ℕ) → (area_at areas r).size ≤ a → shows_within n areas r a ≡ None
unfolding shows_within
within-past zero areas r a past = refl
within-past (suc n) areas r a past = rw (le-ltb a (area_at areas r).size past) refl

-- a child shows nothing before its place, and nothing behind it
pub child-before : (f : ℕ → ℕ → Option Target) (p : Place) (a : ℕ) → a < p.at → child_shows f p a ≡ None
child-before f p a before = rw (lt-ltb a p.at before) refl

pub child-behind : (n : ℕ) (areas : List Area) (p : Place) (a : ℕ) → p.at + (area_at areas p.region).size ≤ a
    → child_shows (shows_within n areas) p a ≡ None
child-behind n areas p a behind =
    let from : ltb a p.at ≡ false = le-ltb a p.at (omega (arith, behind)) in
    rw (from, within-past n areas p.region (a - p.at) (omega (arith, behind))) refl

-- in its place it shows what its region shows
pub child-within : (f : ℕ → ℕ → Option Target) (p : Place) (x : ℕ) (t : Target) → f p.region x ≡ Some t
    → child_shows f p (p.at + x) ≡ Some (record { priority = p.priority; target = t })
child-within f p x t shown =
    let from : ltb (p.at + x) p.at ≡ false = le-ltb (p.at + x) p.at (omega arith) in
    let same : p.at + x - p.at ≡ x = omega arith in
    rw (from, same, shown) refl

-- a leaf shows itself, and a container what its children show
pub leaf-within : (n : ℕ) (areas : List Area) (r d size x : ℕ) → area_at areas r ≡ record { size = size; kind = Leaf d; children = [] } → x < size
    → shows_within (suc n) areas r x ≡ Some (record { leaf = d; offset = x })
unfolding shows_within
leaf-within n areas r d size x is within = rw (is, lt-ltb x size within) refl

pub container-within : (n : ℕ) (areas : List Area) (r size x : ℕ) (places : List Place) (seen : Seen)
    → area_at areas r ≡ record { size = size; kind = Container; children = places } → x < size
    → children_show (shows_within n areas) places x ≡ Some seen → shows_within (suc n) areas r x ≡ Some seen.target
unfolding shows_within
container-within n areas r size x places seen is within shown = rw (is, lt-ltb x size within, shown) refl

-- Lists of children.

over-none : (seen : Option Seen) → over None seen ≡ seen
over-none None = refl
over-none (Some seen) = refl

-- the same child twice
over-same : (seen : Seen) → over (Some seen) (Some seen) ≡ Some seen
over-same seen = by (le_z seen.priority seen.priority)
  where
    by : (t : Bool) → cond t (Some seen) (Some seen) ≡ Some seen
    by true = refl
    by false = refl

module _ (f : ℕ → ℕ → Option Target) (places : ℕ → List Place) (a chosen : ℕ) (seen : Seen) where
  -- of the places by slot those of one slot alone show something
  module _ (shown : children_show f (places chosen) a ≡ Some seen) (others : (i : ℕ) → eqb i chosen ≡ false → children_show f (places i) a ≡ None) where
    cons : (i : ℕ) (slots : List ℕ) (o : Option Seen) → children_show f (flat_map places slots) a ≡ o
        → children_show f (flat_map places (i ∷ slots)) a ≡ over (children_show f (places i) a) o
    cons i slots o e = children-append f (places i) (flat_map places slots) a ∙ ap (over (children_show f (places i) a)) e

    data NoOther (o : Option Seen) : Type 0 where
      nothing : o ≡ None → NoOther o
      chosen_one : o ≡ Some seen → NoOther o

    of-slot : (i : ℕ) → (t : Bool) → eqb i chosen ≡ t → children_show f (places i) a ≡ cond t (Some seen) None
    of-slot i true e = ap (λ (k : ℕ). children_show f (places k) a) (eqb-true i chosen e) ∙ shown
    of-slot i false e = others i e

    no-other : (slots : List ℕ) → NoOther (children_show f (flat_map places slots) a)
    no-other [] = nothing refl
    no-other (i ∷ slots) = go (eqb i chosen) refl (no-other slots)
      where
        go : (t : Bool) → eqb i chosen ≡ t → NoOther (children_show f (flat_map places slots) a) → NoOther (children_show f (flat_map places (i ∷ slots)) a)
        go true e (nothing k) = chosen_one (cons i slots None k ∙ ap (λ (o : Option Seen). over o None) (of-slot i true e))
        go true e (chosen_one k) = chosen_one (cons i slots (Some seen) k ∙ ap (λ (o : Option Seen). over o (Some seen)) (of-slot i true e) ∙ over-same seen)
        go false e (nothing k) = nothing (cons i slots None k ∙ ap (λ (o : Option Seen). over o None) (of-slot i false e))
        go false e (chosen_one k) = chosen_one (cons i slots (Some seen) k ∙ ap (λ (o : Option Seen). over o (Some seen)) (of-slot i false e))

    pub only-one : (slots : List ℕ) → among slots chosen ≡ true → children_show f (flat_map places slots) a ≡ Some seen
    only-one [] e = absurd (let clash : false ≡ true = e in cc)
    only-one (i ∷ slots) e = go (eqb chosen i) refl (no-other slots) (only-one slots)
      where
        go : (t : Bool) → eqb chosen i ≡ t → NoOther (children_show f (flat_map places slots) a)
            → (among slots chosen ≡ true → children_show f (flat_map places slots) a ≡ Some seen)
            → children_show f (flat_map places (i ∷ slots)) a ≡ Some seen
        go true p (nothing k) rest =
            let same : eqb i chosen ≡ true = grind (arith, p) in
            cons i slots None k ∙ ap (λ (o : Option Seen). over o None) (of-slot i true same)
        go true p (chosen_one k) rest =
            let same : eqb i chosen ≡ true = grind (arith, p) in
            cons i slots (Some seen) k ∙ ap (λ (o : Option Seen). over o (Some seen)) (of-slot i true same) ∙ over-same seen
        go false p k rest =
            let apart : eqb i chosen ≡ false = grind (arith, p) in
            cons i slots (Some seen) (rest (rw p at e)) ∙ ap (λ (o : Option Seen). over o (Some seen)) (of-slot i false apart)
