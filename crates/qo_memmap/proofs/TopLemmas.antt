-- The topmost of children shows.
use Rattle.std.proofs.Common.{◌≡◌, ℕ, zero, suc, ◌<◌, ◌≤◌, Bool, true, false, cond, List, [], ◌∷◌, Option, Some, None, length, refl, ap, arith, sym, ◌∙◌, ◌⊎◌, inl, inr, ⊎_elim}
use Rattle.std.proofs.lemmas.Int.{ints}
use Rattle.std.specs.Int.Signed.{le_z, ◌<ℤ◌}
use Rattle.qo_memmap.specs.declared.region.Place.{Place}
use Rattle.qo_memmap.specs.Laws.{IsTopmost, ShowTopmost, LawTopmost, place_at}
use Rattle.qo_memmap.specs.Regions.{Target, Seen, over, child_shows, children_show}

-- a seen thing is no other
same-seen : (x y : Seen) → Some x ≡ Some y → y ≡ x
same-seen x y e = cc

lower-or-same : (x y : Seen) → le_z x.priority y.priority ≡ true → (x.priority <ℤ y.priority) ⊎ (x.priority ≡ y.priority)
lower-or-same x y e = grind (arith, ints)

higher : (x y : Seen) → le_z x.priority y.priority ≡ false → y.priority <ℤ x.priority
higher x y e = grind (arith, ints)

lower-still : (x y z : Seen) → x.priority <ℤ y.priority → y.priority <ℤ z.priority → x.priority <ℤ z.priority
lower-still x y z e f = omega (arith, ints)

-- one more child, before the others
module _ (f : ℕ → ℕ → Option Target) (p : Place) (places : List Place) (a : ℕ) where
  later-shows : (y : Seen) → ((x : Seen) → child_shows f p a ≡ Some x → (x.priority <ℤ y.priority) ⊎ (x.priority ≡ y.priority))
      → IsTopmost f places a y → IsTopmost f (p ∷ places) a y
  later-shows y first rest = record {
    index = suc rest.index;
    there = omega (arith, rest.there);
    shown = rest.shown;
    above = λ i other within is. by i other within is;
  }
    where
      by : (i : ℕ) (other : Seen) → i < length (p ∷ places) → child_shows f (place_at (p ∷ places) i) a ≡ Some other
          → (other.priority <ℤ y.priority) ⊎ ((other.priority ≡ y.priority) × (i ≤ suc rest.index))
      by zero other within is = ⊎_elim (λ low. inl low) (λ same. inr (same, omega arith)) (first other is)
      by (suc i) other within is =
          ⊎_elim (λ low. inl low) (λ same. inr (same.0, omega (arith, same.1))) (rest.above i other (omega arith) is)

  first-shows : (x : Seen) → child_shows f p a ≡ Some x
      → ((i : ℕ) (other : Seen) → i < length places → child_shows f (place_at places i) a ≡ Some other → other.priority <ℤ x.priority)
      → IsTopmost f (p ∷ places) a x
  first-shows x is lower = record { index = zero; there = omega arith; shown = is; above = λ i other within shown. by i other within shown }
    where
      by : (i : ℕ) (other : Seen) → i < length (p ∷ places) → child_shows f (place_at (p ∷ places) i) a ≡ Some other
          → (other.priority <ℤ x.priority) ⊎ ((other.priority ≡ x.priority) × (i ≤ zero))
      by zero other within shown = inr (ap (λ (s : Seen). s.priority) (same-seen x other (sym is ∙ shown)), omega arith)
      by (suc i) other within shown = inl (lower i other (omega arith) shown)

  none-shows : child_shows f p a ≡ None → ((i : ℕ) → i < length places → child_shows f (place_at places i) a ≡ None)
      → (i : ℕ) → i < length (p ∷ places) → child_shows f (place_at (p ∷ places) i) a ≡ None
  none-shows is rest zero within = is
  none-shows is rest (suc i) within = rest i (omega arith)

  next : (c r : Option Seen) → child_shows f p a ≡ c → ShowTopmost f places a r → ShowTopmost f (p ∷ places) a (over c r)
  next None None is rest = none-shows is rest
  next (Some x) None is rest = first-shows x is (λ i other within shown. none-some i other within shown)
    where
      none-some : (i : ℕ) (other : Seen) → i < length places → child_shows f (place_at places i) a ≡ Some other → other.priority <ℤ x.priority
      none-some i other within shown = let none = rest i within in absurd (cc)
  next None (Some y) is rest = later-shows y (λ x shown. first-none x shown) rest
    where
      first-none : (x : Seen) → child_shows f p a ≡ Some x → (x.priority <ℤ y.priority) ⊎ (x.priority ≡ y.priority)
      first-none x shown = absurd (cc)
  next (Some x) (Some y) is rest = by (le_z x.priority y.priority) refl
    where
      by : (b : Bool) → le_z x.priority y.priority ≡ b → ShowTopmost f (p ∷ places) a (cond b (Some y) (Some x))
      by true e = later-shows y (λ z shown. rw (same-seen x z (sym is ∙ shown)) (lower-or-same x y e)) rest
      by false e = first-shows x is (λ i other within shown. ⊎_elim
          (λ low. lower-still other y x low (higher x y e))
          (λ same. rw (same.0) (higher x y e))
          (rest.above i other within shown))

pub topmost : LawTopmost
topmost f [] a = λ i within. absurd (omega arith)
topmost f (p ∷ places) a = next f p places a (child_shows f p a) (children_show f places a) refl (topmost f places a)
