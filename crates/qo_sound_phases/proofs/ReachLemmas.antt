-- What a reset reaches: what is below such an object is such too, and so is what is above it.
use Rattle.std.proofs.Common.{◌≡◌, refl, ap, sym, subst, ◌∙◌, filter_map, ℕ, ◌<◌, true, false, eqb, List, [], ◌∷◌, Some, codes, None}
use Rattle.qo_model.proofs.Common.{AllByRecursion, list_any, ANONYMOUS_BIRTH, MACHINE_BIRTH, MEMORY_BUS_BIRTH, PERIPHERAL_BIRTH, ROOT_BIRTH, ROOT_BUS_BIRTH, Container, Board, Slot, is_live, kind_of, among, leads, is_of, below, post, is_a, types}
use Rattle.std.proofs.lemmas.Bool.{eqb-true}
use Rattle.qo_values.proofs.ListLemmas.{all-imply}
use Rattle.qo_sound.proofs.TestLemmas.{decide, clash, clash-back}
use Rattle.qo_sound_devices.proofs.LocationLemmas.{machine-no_device}
use Rattle.qo_sound_devices.specs.SoundPlaces.{child_entries, child_entry, HasOwner, machines, bridges, IsAtHome, IsHosted, on_machine, on_device, listed, owns, owns_it, stands}
use Rattle.qo_sound_devices.proofs.AttachmentLemmas.{owns-listed}
use Rattle.qo_sound_devices.proofs.PlacesLemmas.{all-listed, child-live, high-absent, of-live, stands-live, stands-same, owners-stay}
use Rattle.qo_sound_phases.specs.SoundPhases.{IsReached, machine, device, bus}
use Rattle.qo_sound_phases.proofs.ResetTreeLemmas.{leads-cases, one-parent, Placed, post-reach, stands-no_bus}
use Rattle.qo_sound_phases.proofs.ForestLemmas.{Reach, itself, further}
use Rattle.qo_sound_phases.proofs.ShapeLemmas.{SameShape, shape-of}

-- the machine's buses
pub two-cases : (q : ℕ) → among (ROOT_BUS_BIRTH ∷ MEMORY_BUS_BIRTH ∷ []) q ≡ true → {A : Type 0} → (q ≡ ROOT_BUS_BIRTH → A) → (q ≡ MEMORY_BUS_BIRTH → A) → A
two-cases q e f g =
    decide (eqb q ROOT_BUS_BIRTH) (λ p. f (eqb-true q ROOT_BUS_BIRTH p))
    (λ p. decide (eqb q MEMORY_BUS_BIRTH) (λ r. g (eqb-true q MEMORY_BUS_BIRTH r)) (λ r. clash-back (rw (p, r) at e)))

-- what is reached there is reached here
abbrev pub StaysReached : Board → Board → Type 0
StaysReached b c = (o : ℕ) → IsReached b o → IsReached c o

-- so it is where who stands there stands here with the same children, and the buses there are buses here
pub stays-reached : (b c : Board) → ((x : ℕ) → stands b x ≡ true → stands c x ≡ true)
    → ((x : ℕ) → stands b x ≡ true → child_entries c x ≡ child_entries b x)
    → ((o : ℕ) → HasOwner b o → HasOwner c o → is_of b (codes "bus") o ≡ true → is_of c (codes "bus") o ≡ true) → StaysReached b c
stays-reached b c stay children kind o (machine at) = machine at
stays-reached b c stay children kind o (device s) = device (stay o s)
stays-reached b c stay children kind o (bus is its) = bus (kind o its (owner its) is) (owner its)
  where
    owner : HasOwner b o → HasOwner c o
    owner = owners-stay b c stay (λ p q s own. ap (list_any (owns_it q)) (children p s) ∙ own) o

pub buses-stay : (b c : Board) → StaysReached b c → AllByRecursion (IsReached b) (ROOT_BUS_BIRTH ∷ MEMORY_BUS_BIRTH ∷ [])
    → AllByRecursion (IsReached c) (ROOT_BUS_BIRTH ∷ MEMORY_BUS_BIRTH ∷ [])
buses-stay b c stay h = all-imply (IsReached b) (IsReached c) stay (ROOT_BUS_BIRTH ∷ MEMORY_BUS_BIRTH ∷ []) h

root-no_device : is_a Container (codes "device") ≡ false
unfolding types
root-no_device = refl

module _ (b : Board) (k : Placed b) where
  root-kind : is_of b (codes "device") ROOT_BIRTH ≡ false
  root-kind = let is : kind_of b ROOT_BIRTH ≡ Some Container = k.places.rooted.root in rw is root-no_device

  pub machine-no_bus : is_of b (codes "bus") MACHINE_BIRTH ≡ false
  machine-no_bus = decide (is_of b (codes "bus") MACHINE_BIRTH) (λ e. clash-back (at e)) (λ e. e)
    where
      hosted : (x : List ℕ × ℕ) → IsHosted b ROOT_BIRTH x → among (ROOT_BUS_BIRTH ∷ MEMORY_BUS_BIRTH ∷ []) x.1 ≡ true
      hosted x (on_machine u) = u
      hosted x (on_device is apart) = clash (sym is ∙ root-kind)

      at : is_of b (codes "bus") MACHINE_BIRTH ≡ true → among (ROOT_BUS_BIRTH ∷ MEMORY_BUS_BIRTH ∷ []) MACHINE_BIRTH ≡ true
      at =
          all-listed (λ x. is_of b (codes "bus") x ≡ true → among (ROOT_BUS_BIRTH ∷ MEMORY_BUS_BIRTH ∷ []) x ≡ true) (child_entries b ROOT_BIRTH)
          (all-imply (IsAtHome b ROOT_BIRTH)
          (λ (x : List ℕ × ℕ). is_of b (codes "bus") x.1 ≡ true → among (ROOT_BUS_BIRTH ∷ MEMORY_BUS_BIRTH ∷ []) x.1 ≡ true) (λ x i e. hosted x (i.bus e))
          (child_entries b ROOT_BIRTH) (k.places.children ROOT_BIRTH))
          MACHINE_BIRTH k.places.machine

  -- a bus of the machine
  pub machines-bus : (m : ℕ) → is_of b (codes "bus") m ≡ true → owns b MACHINE_BIRTH m ≡ true → among (ROOT_BUS_BIRTH ∷ MEMORY_BUS_BIRTH ∷ []) m ≡ true
  machines-bus m is o =
      all-listed (λ x. is_of b (codes "bus") x ≡ true → among (ROOT_BUS_BIRTH ∷ MEMORY_BUS_BIRTH ∷ []) x ≡ true) (child_entries b MACHINE_BIRTH)
      (all-imply (IsAtHome b MACHINE_BIRTH)
      (λ (x : List ℕ × ℕ). is_of b (codes "bus") x.1 ≡ true → among (ROOT_BUS_BIRTH ∷ MEMORY_BUS_BIRTH ∷ []) x.1 ≡ true) (λ x i e. hosted x (i.bus e))
      (child_entries b MACHINE_BIRTH) (k.places.children MACHINE_BIRTH))
      m (owns-listed m (child_entries b MACHINE_BIRTH) o) is
    where
      hosted : (x : List ℕ × ℕ) → IsHosted b MACHINE_BIRTH x → among (ROOT_BUS_BIRTH ∷ MEMORY_BUS_BIRTH ∷ []) x.1 ≡ true
      hosted x (on_machine u) = u
      hosted x (on_device is apart) = clash (sym is ∙ machine-no_device k.depth None (λ x. false) b k.places)

  pub machines-listed : (q : ℕ) → among (ROOT_BUS_BIRTH ∷ MEMORY_BUS_BIRTH ∷ []) q ≡ true → listed q (child_entries b MACHINE_BIRTH) ≡ true
  machines-listed q e =
      two-cases q e (λ is. subst (λ (x : ℕ). listed x (child_entries b MACHINE_BIRTH) ≡ true) (sym is) k.places.parts.1.1.0)
      (λ is. subst (λ (x : ℕ). listed x (child_entries b MACHINE_BIRTH) ≡ true) (sym is) k.places.parts.1.1.1.0)

  -- one that is reached is a bus: the machine is none, and it stands in no container
  pub machines-is : (q : ℕ) → among (ROOT_BUS_BIRTH ∷ MEMORY_BUS_BIRTH ∷ []) q ≡ true → IsReached b q → is_of b (codes "bus") q ≡ true
  machines-is q e (machine at) = clash-back (subst (λ (x : ℕ). among (ROOT_BUS_BIRTH ∷ MEMORY_BUS_BIRTH ∷ []) x ≡ true) at e)
  machines-is q e (device s) =
      two-cases q e (λ is. clash (sym s ∙ ap (stands b) is ∙ k.places.aside.1.1.1.1.0)) (λ is. clash (sym s ∙ ap (stands b) is ∙ k.places.aside.1.1.1.1.1.0))
  machines-is q e (bus is its) = is

  -- none of the machine's buses stands, and neither does the machine
  pub machine-aside : stands b MACHINE_BIRTH ≡ false
  machine-aside = k.places.aside.1.0

  -- what is below
  pub reached-below : (o m : ℕ) → leads (below b) o m ≡ true → IsReached b o → IsReached b m
  reached-below o m e r = leads-cases b k o m e (λ is s on. device s) (λ apart is own. bus is (owner r apart is own))
    where
      owner : IsReached b o → is_of b (codes "bus") o ≡ false → is_of b (codes "bus") m ≡ true → owns b o m ≡ true → HasOwner b m
      owner (machine at) apart is own = machines (machines-bus m is (subst (λ (x : ℕ). owns b x m ≡ true) at own))
      owner (device s) apart is own = bridges o s own
      owner (bus also its) apart is own = clash (sym also ∙ apart)

  -- what is above
  pub reached-above : (p o : ℕ) → leads (below b) p o ≡ true → IsReached b o → IsReached b p
  reached-above p o e r =
      leads-cases b k p o e (λ is s on. bus is (k.places.owner o p s on)) (λ apart is own. over r is (owns-listed o (child_entries b p) own))
    where
      owner : HasOwner b o → listed o (child_entries b p) ≡ true → IsReached b p
      owner (machines u) l = machine (one-parent b k p MACHINE_BIRTH o l (machines-listed o u))
      owner (bridges v s own) l = device (subst (λ (x : ℕ). stands b x ≡ true) (one-parent b k v p o (owns-listed o (child_entries b v) own) l) s)

      over : IsReached b o → is_of b (codes "bus") o ≡ true → listed o (child_entries b p) ≡ true → IsReached b p
      over (machine at) is l = clash (sym is ∙ ap (is_of b (codes "bus")) at ∙ machine-no_bus)
      over (device s) is l = clash (sym is ∙ stands-no_bus b k o s)
      over (bus also its) is l = owner its l

  pub reach-below : (r o : ℕ) → Reach (below b) r o → IsReached b r → IsReached b o
  reach-below r o itself h = h
  reach-below r o (further {p} i e) h = reached-below p o e (reach-below r p i h)

  pub reach-above : (r o : ℕ) → Reach (below b) r o → IsReached b o → IsReached b r
  reach-above r o itself h = h
  reach-above r o (further {p} i e) h = reach-above r p i (reached-above p o e h)

  pub post-reached : (r o : ℕ) → IsReached b r → among (post b r) o ≡ true → IsReached b o
  post-reached r o h e = reach-below r o (post-reach b k r o e) h

  -- they are there, and were born
  pub reached-live : (o : ℕ) → IsReached b o → is_live b o ≡ true
  reached-live o (machine at) = subst (λ (x : ℕ). is_live b x ≡ true) (sym at) (child-live b k.firm ROOT_BIRTH MACHINE_BIRTH k.places.machine)
  reached-live o (device s) = stands-live b k.firm o s
  reached-live o (bus is its) = of-live b (codes "bus") o is

  pub live-born : (o : ℕ) → is_live b o ≡ true → b.born < o → ⊥
  live-born o e high = clash (sym e ∙ high-absent b k.firm o high)

-- on boards of one shape
module _ (b c : Board) (h : SameShape b c) where
  same-children : (x : ℕ) → child_entries c x ≡ child_entries b x
  same-children x = ap (λ (ss : List (List ℕ × Slot)). filter_map child_entry ss) (h.slots x)

  pub same-stands : (x : ℕ) → stands c x ≡ stands b x
  same-stands = stands-same b c (same-children PERIPHERAL_BIRTH) (same-children ANONYMOUS_BIRTH)

  pub shape-reached : StaysReached b c
  shape-reached =
      stays-reached b c (λ x s. same-stands x ∙ s) (λ x s. same-children x) (λ o was its is. shape-of b c h (codes "bus") o ∙ is)
