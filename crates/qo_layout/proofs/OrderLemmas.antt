-- Each object has a higher number than what is below it.
use Rattle.std.proofs.Common.{◌≡◌, refl, ap, sym, subst, ◌∙◌, ℕ, zero, suc, ◌+◌, ◌<◌, ◌≤◌, ◌⊎◌, Bool, true, false, not, cond, eqb, List, [], ◌∷◌, ◌++◌, Some, inl, inr, codes, arith}
use Rattle.std.specs.Bool.{⊤}
use Rattle.std.specs.List.{flat_map, position_or_len}
use Rattle.std.proofs.Math.Bool.{or-true}
use Rattle.std.proofs.lemmas.Bool.{eqb-true, eq-eqb}
use Rattle.qo_values.specs.declared.births.TheConstants.{MEMORY_BUS_BIRTH, ROOT_BUS_BIRTH}
use Rattle.qo_model.specs.Board.{Board}
use Rattle.qo_model.specs.Depth.{among, leads}
use Rattle.qo_model.specs.Devices.{bus_of}
use Rattle.qo_model.specs.Paths.{is_of}
use Rattle.qo_model.specs.Reset.{below, post}
use Rattle.qo_sound.proofs.TestLemmas.{decide, clash, clash-back}
use Rattle.qo_sound_devices.specs.SoundDevices.{SoundDevices}
use Rattle.qo_sound_devices.specs.SoundPlaces.{HasOwner, bridges, machines, stands}
use Rattle.qo_sound_phases.proofs.ListLemmas.{among-left, among-right}
use Rattle.qo_sound_phases.proofs.ResetTreeLemmas.{Placed, placed, leads-cases, stands-no_bus}
use Rattle.qo_layout.specs.Layout.{mapped, number_of}
use Rattle.qo_layout.proofs.LengthLemmas.{post-is}

-- each of a list comes after all that it leads to, which is in the list before it or was seen before the list
abbrev Follows : (ℕ → List ℕ) → List ℕ → List ℕ → Type 0
Follows next seen [] = ⊤
Follows next seen (o ∷ os) = ((m : ℕ) → leads next o m ≡ true → among seen m ≡ true) × Follows next (o ∷ seen) os

-- all of one list is in another
abbrev Within : List ℕ → List ℕ → Type 0
Within xs ys = (m : ℕ) → among xs m ≡ true → among ys m ≡ true

module _ (next : ℕ → List ℕ) where
  within-more : (xs ys : List ℕ) (o : ℕ) → Within xs ys → Within (o ∷ xs) (o ∷ ys)
  within-more xs ys o w m e =
      decide (eqb m o) (λ p. rw p refl) (λ p. let rest : among xs m ≡ true = rw p at e in rw (w m rest) (or-true (eqb m o)))

  within-next : (xs ys : List ℕ) (o : ℕ) → Within xs ys → Within xs (o ∷ ys)
  within-next xs ys o w m e = rw (w m e) (or-true (eqb m o))

  follows-append : (xs ys seen : List ℕ) → Follows next seen xs
      → ((more : List ℕ) → Within seen more → Within xs more → Follows next more ys) → Follows next seen (xs ++ ys)
  follows-append [] ys seen f g = g seen (λ m e. e) (λ m e. clash-back e)
  follows-append (x ∷ xs) ys seen f g = (
    f.0,
    follows-append xs ys (x ∷ seen) f.1
        (λ more seen_in xs_in.
        g more (λ m e. seen_in m (within-next seen seen x (λ k i. i) m e))
        (λ m e. decide (eqb m x) (λ p. seen_in m (rw p refl)) (λ p. xs_in m (rw p at e)))),
  )

  -- what is led to has a lower place
  before : (xs seen : List ℕ) (o m : ℕ) → Follows next seen xs → among xs o ≡ true → leads next o m ≡ true
      → (among seen m ≡ true) ⊎ (position_or_len (eqb m) xs < position_or_len (eqb o) xs)
  before [] seen o m f e l = clash-back e
  before (x ∷ xs) seen o m f e l = go (eqb o x) refl (eqb m x) refl (before xs (x ∷ seen) o m f.1)
    where
      Goal : Type 0
      Goal = (among seen m ≡ true) ⊎ (cond (not (eqb m x)) (1 + position_or_len (eqb m) xs) 0 < cond (not (eqb o x)) (1 + position_or_len (eqb o) xs) 0)

      later : eqb o x ≡ false → eqb m x ≡ false
          → (among (x ∷ seen) m ≡ true) ⊎ (position_or_len (eqb m) xs < position_or_len (eqb o) xs) → Goal
      later p q (inl k) = inl (rw q at k)
      later p q (inr k) = inr (rw (p, q) (omega arith))

      go : (t : Bool) → eqb o x ≡ t → (u : Bool) → eqb m x ≡ u
          → (among xs o ≡ true → leads next o m ≡ true → (among (x ∷ seen) m ≡ true) ⊎ (position_or_len (eqb m) xs < position_or_len (eqb o) xs)) → Goal
      go true p u q rest = inl (f.0 m (subst (λ (y : ℕ). leads next y m ≡ true) (eqb-true o x p) l))
      go false p true q rest = inr (rw (p, q) (omega arith))
      go false p false q rest = later p q (rest (rw p at e) l)

module _ (b : Board) (h : SoundDevices b) where
  k : Placed b
  k = placed b h

  abbrev AnySeen : List ℕ → Type 0
  AnySeen os = (seen : List ℕ) → Follows (below b) seen os

  last-among : (o : ℕ) → among (post b o) o ≡ true
  last-among o =
      ap (λ (os : List ℕ). among os o) (post-is b h o)
      ∙ among-right o (flat_map (post b) (below b o)) (o ∷ []) (let own : among (o ∷ []) o ≡ true = rw (eq-eqb o o refl) refl in own)

  among-part : (f : ℕ → List ℕ) (m x : ℕ) (ms : List ℕ) → among ms m ≡ true → among (f m) x ≡ true → among (flat_map f ms) x ≡ true
  among-part f m x [] e i = clash-back e
  among-part f m x (y ∷ ms) e i =
      decide (eqb m y)
      (λ p. among-left x (f y) (flat_map f ms) (subst (λ (z : ℕ). among (f z) x ≡ true) (eqb-true m y p) i))
      (λ p. among-right x (f y) (flat_map f ms) (among-part f m x ms (rw p at e) i))

  parts-follow : (ms : List ℕ) → ((m : ℕ) → among ms m ≡ true → AnySeen (post b m)) → AnySeen (flat_map (post b) ms)
  parts-follow [] each seen = tt
  parts-follow (m ∷ ms) each seen =
      follows-append (below b) (post b m) (flat_map (post b) ms) seen (each m (let own : among (m ∷ ms) m ≡ true = rw (eq-eqb m m refl) refl in own) seen)
      (λ more s i. parts-follow ms (λ x e. each x (among-right x (m ∷ []) ms e)) more)

  post-follows : (o : ℕ) → ((m : ℕ) → leads (below b) o m ≡ true → AnySeen (post b m)) → AnySeen (post b o)
  post-follows o each seen =
      subst (Follows (below b) seen) (sym (post-is b h o))
      (follows-append (below b) (flat_map (post b) (below b o)) (o ∷ []) seen (parts-follow (below b o) each seen)
      (λ more s i. ((λ m e. i m (among-part (post b) m m (below b o) e (last-among m))), tt)))

  bus-follows : (levels q : ℕ) → is_of b (codes "bus") q ≡ true → HasOwner b q → 9 ≤ levels + k.depth q → AnySeen (post b q)
  bus-follows zero q is o room = absurd (let most : k.depth q ≤ 8 = k.places.shallow.most q o in omega (arith, most, room))
  bus-follows (suc levels) q is o room = post-follows q (λ e l. kid e l (bus-follows levels))
    where
      Rest : Type 0
      Rest = (m : ℕ) → is_of b (codes "bus") m ≡ true → HasOwner b m → 9 ≤ levels + k.depth m → AnySeen (post b m)

      bus : (e m : ℕ) → stands b e ≡ true → bus_of b e ≡ Some q → leads (below b) e m ≡ true → Rest → AnySeen (post b m)
      bus e m stood on l rest =
          leads-cases b k e m l (λ also s i. clash (sym also ∙ stands-no_bus b k e stood))
          (λ apart bus own.
          rest m bus (bridges e stood own) (let deeper : k.depth m ≡ suc (k.depth q) = k.places.shallow.below e q m stood on own in omega (arith, deeper, room)))

      kid : (e : ℕ) → leads (below b) q e ≡ true → Rest → AnySeen (post b e)
      kid e l rest =
          leads-cases b k q e l (λ bus_q stood on. post-follows e (λ m i. bus e m stood on i rest)) (λ apart bus own. clash (sym is ∙ apart))

  mapped-follow : is_of b (codes "bus") ROOT_BUS_BIRTH ≡ true → is_of b (codes "bus") MEMORY_BUS_BIRTH ≡ true → AnySeen (mapped b)
  mapped-follow root memory seen =
      follows-append (below b) (post b ROOT_BUS_BIRTH) (post b MEMORY_BUS_BIRTH) seen
      (bus-follows 9 ROOT_BUS_BIRTH root (machines refl) (omega arith) seen)
      (λ more s i. bus-follows 9 MEMORY_BUS_BIRTH memory (machines refl) (omega arith) more)

  -- who has a region has a higher number than what is below it
  pub lower : is_of b (codes "bus") ROOT_BUS_BIRTH ≡ true → is_of b (codes "bus") MEMORY_BUS_BIRTH ≡ true → (o m : ℕ) → among (mapped b) o ≡ true
      → leads (below b) o m ≡ true → number_of b m < number_of b o
  lower root memory o m e l = from (before (below b) (mapped b) [] o m (mapped-follow root memory []) e l)
    where
      from : (among [] m ≡ true) ⊎ (number_of b m < number_of b o) → number_of b m < number_of b o
      from (inl i) = clash-back i
      from (inr i) = i
