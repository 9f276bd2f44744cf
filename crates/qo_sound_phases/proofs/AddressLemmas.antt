-- Who is found by slots from a bus of the machine down stands in its place, and the first bus of who stands may be held in reset.
use Rattle.std.proofs.Common.{rules, ◌≡◌, refl, sym, ℕ, Bool, true, false, ◌==◌, List, [], ◌∷◌, find, filter_map, option_map, option_and_then, Option, Some, None, codes}
use Rattle.qo_model.proofs.Common.{option_map_or, bytes_eq, MEMORY_BUS_BIRTH, ROOT_BUS_BIRTH, TypeId, Board, Slot, plain, child, strong, weak, alias, kind_of, slots_at, among, buses_of, first_bus, found_at, kid_at, kid_name, strong_in, attached, is_of, is_a, types}
use Rattle.std.proofs.lemmas.Bool.{eq-eqb}
use Rattle.std.proofs.lemmas.Option.{same_Some}
use Rattle.std.proofs.Math.Bool.{or-true}
use Rattle.qo_values.proofs.EachLemmas.{each}
use Rattle.qo_sound.proofs.TestLemmas.{decide, clash-back}
use Rattle.qo_sound_devices.specs.SoundDevices.{SoundDevices}
use Rattle.qo_sound_devices.specs.SoundPlaces.{bridges, kid_entry, listed, stands}
use Rattle.qo_sound_devices.proofs.AttachmentLemmas.{owner-attached}
use Rattle.qo_sound_devices.proofs.DepthLemmas.{IsBusOf, is-bus_of, kid-of}
use Rattle.qo_model.proofs.AmongLemmas.{among-all}
use Rattle.qo_sound_phases.specs.PhasesKept.{may_reset}
use Rattle.qo_sound_phases.specs.SoundPhases.{IsReached, SoundPhases}
use Rattle.qo_sound_phases.proofs.ResetTreeLemmas.{Placed, placed}
use Rattle.qo_sound_phases.proofs.ReachLemmas.{machines-is}

-- the target of the first link of a name is among the kids
named-listed : (d : ℕ) (p : List ℕ × Slot → Bool) (slots : List (List ℕ × Slot))
    → option_and_then strong_in (option_map (λ (s : List ℕ × Slot). s.1) (find p slots)) ≡ Some d → listed d (filter_map kid_entry slots) ≡ true
named-listed d p [] e = absurd (let clash : None ≡ Some d = e in cc)
named-listed d p (s ∷ slots) e = decide (p s) (λ q. here s (rw q at e)) (λ q. after s (named-listed d p slots (rw q at e)))
  where
    here : (s : List ℕ × Slot) → strong_in s.1 ≡ Some d → listed d (filter_map kid_entry (s ∷ slots)) ≡ true
    here (name, strong t (Some m)) q = let is : (m == d) ≡ true = eq-eqb m d (same_Some m d q) in rw is refl
    here (name, strong t None) q = absurd (let clash : None ≡ Some d = q in cc)
    here (name, plain v) q = absurd (let clash : None ≡ Some d = q in cc)
    here (name, child m) q = absurd (let clash : None ≡ Some d = q in cc)
    here (name, weak t target) q = absurd (let clash : None ≡ Some d = q in cc)
    here (name, alias m property) q = absurd (let clash : None ≡ Some d = q in cc)

    after : (s : List ℕ × Slot) → listed d (filter_map kid_entry slots) ≡ true → listed d (filter_map kid_entry (s ∷ slots)) ≡ true
    after (name, strong t (Some m)) q = rw q (or-true (m == d))
    after (name, strong t None) q = q
    after (name, plain v) q = q
    after (name, child m) q = q
    after (name, weak t target) q = q
    after (name, alias m property) q = q

first-among : (m : ℕ) (ms : List ℕ) → elim ms as (λ _. Option ℕ) [ [] ↦ None | k ∷ _ ↦ Some k ] ≡ Some m → among ms m ≡ true
first-among m [] e = absurd (let clash : None ≡ Some m = e in cc)
first-among m (k ∷ ms) e = rw (eq-eqb m k (sym (same_Some k m e))) refl

first-bus_of : (b : Board) (d m : ℕ) → first_bus b d ≡ Some m → IsBusOf b d m
first-bus_of b d m e = is-bus_of b d m (first-among m (buses_of b d) e)

-- from a bus down
module _ (b : Board) (k : Placed b) where
  kid-stands : (bus slot d : ℕ) → is_of b (codes "bus") bus ≡ true → kid_at b bus slot ≡ Some d → stands b d ≡ true
  kid-stands bus slot d is e =
      (kid-of k.depth None (λ x. false) b k.places bus d is
      (named-listed d (λ (s : List ℕ × Slot). bytes_eq s.0 (kid_name slot)) (slots_at b bus) e)).0

  found-stands : (slots : List ℕ) (bus d : ℕ) → is_of b (codes "bus") bus ≡ true → found_at b bus slots ≡ Some d → stands b d ≡ true
  found-stands [] bus d is e = absurd (let clash : None ≡ Some d = e in cc)
  found-stands (slot ∷ []) bus d is e = kid-stands bus slot d is e
  found-stands (slot ∷ next ∷ slots) bus d is e = by_kid (found-stands (next ∷ slots)) (kid_at b bus slot) e
    where
      Rest : Type 0
      Rest = (m x : ℕ) → is_of b (codes "bus") m ≡ true → found_at b m (next ∷ slots) ≡ Some x → stands b x ≡ true

      by_bus : Rest → (n : ℕ) (o : Option ℕ) → first_bus b n ≡ o → option_and_then (λ m. found_at b m (next ∷ slots)) o ≡ Some d → stands b d ≡ true
      by_bus rest n None p at = absurd (let clash : None ≡ Some d = at in cc)
      by_bus rest n (Some m) p at = rest m d (first-bus_of b n m p).bus at

      by_kid : Rest → (o : Option ℕ) → option_and_then (λ n. option_and_then (λ m. found_at b m (next ∷ slots)) (first_bus b n)) o ≡ Some d → stands b d ≡ true
      by_kid rest None at = absurd (let clash : None ≡ Some d = at in cc)
      by_kid rest (Some n) at = by_bus rest n (first_bus b n) refl at

pub addressed-stands : (b : Board) → SoundDevices b → SoundPhases b → (bus : ℕ) (slots : List ℕ) (d : ℕ)
    → among (ROOT_BUS_BIRTH ∷ MEMORY_BUS_BIRTH ∷ []) bus ≡ true → found_at b bus slots ≡ Some d → stands b d ≡ true
addressed-stands b s h bus slots d its e =
    found-stands b (placed b s) slots bus d
    (machines-is b (placed b s) bus its (among-all (IsReached b) (ROOT_BUS_BIRTH ∷ MEMORY_BUS_BIRTH ∷ []) h.buses bus its)) e

-- a bus may be held in reset
bus-resettable : (t : TypeId) → is_a t (codes "bus") ≡ true → is_a t (codes "resettable") ≡ true
unfolding types
bus-resettable = each (λ (t : TypeId). is_a t (codes "bus") ≡ true → is_a t (codes "resettable") ≡ true) (search rules)

pub first-may : (b : Board) → SoundDevices b → (d m : ℕ) → stands b d ≡ true → first_bus b d ≡ Some m → may_reset b m ≡ true
first-may b s d m e f = rw (there, resettable (kind_of b m) its.bus) refl
  where
    k : Placed b
    k = placed b s

    its : IsBusOf b d m
    its = first-bus_of b d m f

    there : attached b m ≡ true
    there = owner-attached b s.tree.0 k.firm k.depth None (λ x. false) k.places m (bridges d e its.owned)

    resettable : (o : Option TypeId) → option_map_or (λ (t : TypeId). is_a t (codes "bus")) o false ≡ true
        → option_map_or (λ (t : TypeId). is_a t (codes "resettable")) o false ≡ true
    resettable None q = clash-back q
    resettable (Some t) q = bus-resettable t q
