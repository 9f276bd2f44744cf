-- How a device is unrealized with all that is below it, without a bound.
use Rattle.std.proofs.Common.{◌≡◌, ◌⊎◌, inl, inr, refl, ap, ◌∙◌, ℕ, ◌<◌, true, false, List, [], ◌∷◌, codes, arith}
use Rattle.qo_model.proofs.Common.{MACHINE_BIRTH, MEMORY_BUS_BIRTH, ROOT_BUS_BIRTH, Board, among, by_objects, IsLocal, IsTree, leads, buses_of, kids_of, births, is_of, below, each, unrealize, unrealize_turn, unrealized_bus, unrealized_device}
use Rattle.std.proofs.Math.Path.{fun_ext}
use Rattle.std.specs.List.{flat_map}
use Rattle.qo_model.proofs.DepthLemmas.{by_objects_is}
use Rattle.qo_values.proofs.ListLemmas.{all-imply}
use Rattle.qo_sound_devices.specs.SoundDevices.{SoundDevices}
use Rattle.qo_sound_devices.specs.SoundPlaces.{child_entries, IsAtHome, IsHosted, listed, on_device, on_machine}
use Rattle.qo_sound_devices.proofs.AttachmentLemmas.{owns-listed}
use Rattle.qo_sound_devices.proofs.DepthLemmas.{IsBusOf, is-bus_of}
use Rattle.qo_sound_devices.proofs.PlacesLemmas.{all-listed}
use Rattle.qo_sound_phases.proofs.ForestLemmas.{IsForest}
use Rattle.qo_sound_phases.proofs.ListLemmas.{From, from-joined, joined-among}
use Rattle.qo_sound_phases.proofs.ReachLemmas.{machine-no_bus, machines-listed}
use Rattle.qo_sound_phases.proofs.ResetTreeLemmas.{forest, no-bus, one-parent, Placed, placed}
use Rattle.qo_plain.specs.Unrolled.{Unrealizes}
use Rattle.qo_plain.proofs.ListLemmas.{each-same, tree-rises}

-- the devices on the buses of a device
abbrev pub under : Board → ℕ → List ℕ
under b d = flat_map (kids_of b) (buses_of b d)

module _ (b : Board) (k : Placed b) where
  f : IsForest (below b) (births b)
  f = forest b k

  hosted-cases : (d : ℕ) (e : List ℕ × ℕ) → IsHosted b d e → (among (ROOT_BUS_BIRTH ∷ MEMORY_BUS_BIRTH ∷ []) e.1 ≡ true) ⊎ (is_of b (codes "device") d ≡ true)
  hosted-cases d e (on_machine u) = inl u
  hosted-cases d e (on_device device apart) = inr device

  -- an object that has a bus is none itself
  host-no_bus : (d m : ℕ) → among (buses_of b d) m ≡ true → is_of b (codes "bus") d ≡ false
  host-no_bus d m i =
      by
      (all-listed (λ x. is_of b (codes "bus") x ≡ true → Host x) (child_entries b d)
      (all-imply (IsAtHome b d) (λ (e : List ℕ × ℕ). is_of b (codes "bus") e.1 ≡ true → Host e.1) (λ e home is. hosted-cases d e (home.bus is)) (child_entries b d)
      (k.places.children d)) m mine its.bus)
    where
      Host : ℕ → Type 0
      Host x = (among (ROOT_BUS_BIRTH ∷ MEMORY_BUS_BIRTH ∷ []) x ≡ true) ⊎ (is_of b (codes "device") d ≡ true)

      its : IsBusOf b d m
      its = is-bus_of b d m i

      mine : listed m (child_entries b d) ≡ true
      mine = owns-listed m (child_entries b d) its.owned

      by : (among (ROOT_BUS_BIRTH ∷ MEMORY_BUS_BIRTH ∷ []) m ≡ true) ⊎ (is_of b (codes "device") d ≡ true) → is_of b (codes "bus") d ≡ false
      by (inl j) = ap (is_of b (codes "bus")) (one-parent b k d MACHINE_BIRTH m mine (machines-listed b k m j)) ∙ machine-no_bus b k
      by (inr device) = no-bus b d device

  pub goes-bus : (d m : ℕ) → among (buses_of b d) m ≡ true → leads (below b) d m ≡ true
  goes-bus d m i = let none : is_of b (codes "bus") d ≡ false = host-no_bus d m i in rw (below, none) i

  pub goes-kid : (d m x : ℕ) → among (buses_of b d) m ≡ true → among (kids_of b m) x ≡ true → leads (below b) m x ≡ true
  goes-kid d m x i j = let is : is_of b (codes "bus") m ≡ true = (is-bus_of b d m i).bus in rw (below, is) j

  -- what a device leads to is deeper, and is there
  rises : (p m : ℕ) → leads (under b) p m ≡ true → f.rank p < f.rank m
  rises p m e =
      let h : From (kids_of b) (buses_of b p) m = from-joined (kids_of b) (buses_of b p) m e in
      omega (arith, f.rises p h.source (goes-bus p h.source h.there), f.rises h.source m (goes-kid p h.source m h.there h.comes))

  there : (p m : ℕ) → leads (under b) p m ≡ true → among (births b) m ≡ true
  there p m e =
      let h : From (kids_of b) (buses_of b p) m = from-joined (kids_of b) (buses_of b p) m e in
      f.there h.source m (goes-kid p h.source m h.there h.comes)

  pub tree : IsTree (under b) (births b)
  tree = tree-rises (under b) (births b) f.rank rises there

local : (b : Board) → IsLocal (under b) (unrealize_turn b)
local b d f g same = fun_ext at
  where
    at : (c : Board) → unrealize_turn b f d c ≡ unrealize_turn b g d c
    at c =
        ap (unrealized_device d)
        (each-same (λ m. λ e. unrealized_bus m (each f (kids_of b m) e)) (λ m. λ e. unrealized_bus m (each g (kids_of b m) e)) (buses_of b d)
        (λ m i e.
        ap (unrealized_bus m)
        (each-same f g (kids_of b m) (λ x j y. ap (λ (h : Board → Board). h y) (same x (joined-among (kids_of b) (buses_of b d) m x i j))) e)) c)

pub unrealize-unrolled : (b : Board) → SoundDevices b → Unrealizes b
unfolding unrealize
unrealize-unrolled b h =
    record {
      step = by_objects (unrealize_turn b) (λ d c. c) (births b);
      is = λ d c.
          ap (λ (g : Board → Board). g c) (by_objects_is (under b) (unrealize_turn b) (λ d c. c) (births b) (local b) (tree b (placed b h)) d);
      whole = λ d. refl;
    }
