-- Buses that are attached: what stands above them is counted without a bound.
use Rattle.std.proofs.Common.{◌≡◌, refl, ap, sym, ◌∙◌, ℕ, zero, suc, ◌<◌, ◌≤◌, Bool, true, false, ◌||◌, length, Option, Some, None, option_and_then, codes, arith}
use Rattle.qo_model.proofs.Common.{if◌then◌else◌, MACHINE_BIRTH, Board, by_depth, by_objects, bridge_of, bus_above, bus_of, depth_of, depth_turn, going_turn, is_going, attached, births, is_of}
use Rattle.std.proofs.lemmas.Option.{same_Some}
use Rattle.qo_model.specs.Board.{is_pending}
use Rattle.qo_sound.proofs.ViewLemmas.{PinsRootAlone, rest-from_sound}
use Rattle.qo_sound_devices.specs.SoundDevices.{SoundDevices}
use Rattle.qo_sound_devices.specs.SoundPlaces.{bridges, child_entries, HasOwner, IsHome, machines}
use Rattle.qo_sound_devices.proofs.AttachmentLemmas.{owns-listed, parent-is}
use Rattle.qo_sound_devices.proofs.DepthLemmas.{room}
use Rattle.qo_sound_devices.proofs.LocationLemmas.{attached-owner, machine-no_device}
use Rattle.qo_sound_devices.proofs.PlugLemmas.{stands-device}
use Rattle.qo_sound_phases.proofs.ReachLemmas.{machines-listed}
use Rattle.qo_sound_phases.proofs.ResetTreeLemmas.{Placed, placed}
use Rattle.qo_plain.specs.Unrolled.{depth_under, going_under}

-- what is above a bus: nothing, or a bridge on a bus that is less deep
data Above (b : Board) (depth : ℕ → ℕ) (q : ℕ) : Type 0 where
  top : bridge_of b q ≡ None → Above b depth q
  under : (p m : ℕ) → bridge_of b q ≡ Some p → bus_of b p ≡ Some m → HasOwner b m → depth q ≡ suc (depth m) → Above b depth q

above-of : (b : Board) (k : Placed b) (q : ℕ) → HasOwner b q → Above b k.depth q
above-of b k q (machines e) =
    top
    (ap (option_and_then (λ p. if is_of b (codes "device") p then Some p else None)) (parent-is b k.firm MACHINE_BIRTH q (machines-listed b k q e))
    ∙ ap (λ (t : Bool). if t then Some MACHINE_BIRTH else None) (machine-no_device k.depth None (λ x. false) b k.places))
above-of b k q (bridges p s o) =
    let home : IsHome b p = k.places.home p s (λ z. cc) in
    under p home.bus
    (ap (option_and_then (λ x. if is_of b (codes "device") x then Some x else None)) (parent-is b k.firm p q (owns-listed q (child_entries b p) o))
    ∙ ap (λ (t : Bool). if t then Some p else None) (stands-device k.depth None (λ x. false) b k.places p s))
    home.on (k.places.owner p home.bus s home.on) (k.places.shallow.below p home.bus q s home.on o)

-- a turn that asks only for the answer of the bus that the bridge is on
module _ (b : Board) (k : Placed b) (A : Type 0) (turn : (ℕ → A) → ℕ → A) (base : ℕ → A)
    (local : (q : ℕ) (f g : ℕ → A) → ((p m : ℕ) → bridge_of b q ≡ Some p → bus_of b p ≡ Some m → f m ≡ g m) → turn f q ≡ turn g q) where
  stable : (depth q : ℕ) → HasOwner b q → k.depth q < depth → by_depth turn base depth q ≡ by_depth turn base (suc depth) q
  stable zero q o low = absurd (omega (arith, low))
  stable (suc depth) q o low = local q (by_depth turn base depth) (by_depth turn base (suc depth)) (λ p m bridge on. less (stable depth) p m bridge on)
    where
      less : ((x : ℕ) → HasOwner b x → k.depth x < depth → by_depth turn base depth x ≡ by_depth turn base (suc depth) x) → (p m : ℕ)
          → bridge_of b q ≡ Some p → bus_of b p ≡ Some m → by_depth turn base depth m ≡ by_depth turn base (suc depth) m
      less rest p m bridge on = go (above-of b k q o)
        where
          go : Above b k.depth q → by_depth turn base depth m ≡ by_depth turn base (suc depth) m
          go (top none) = absurd (let clash : None ≡ Some p = sym none ∙ bridge in cc)
          go (under d n has its owner one) =
              let same : d ≡ p = same_Some d p (sym has ∙ bridge) in
              let at : n ≡ m = same_Some n m (sym its ∙ ap (bus_of b) same ∙ on) in
              let deep : k.depth n < depth = omega (arith, low, one) in
              ap (by_depth turn base depth) (sym at) ∙ rest n owner deep ∙ ap (by_depth turn base (suc depth)) at

  pub turned : (q : ℕ) → HasOwner b q → by_objects turn base (births b) q ≡ turn (by_objects turn base (births b)) q
  turned q o =
      stable (suc (length (births b))) q o
      (let most : k.depth q ≤ 8 = k.places.shallow.most q o in omega (arith, most, room k.depth None (λ x. false) b k.firm k.places))

-- an attached bus has an owner
owner-of : (b : Board) (h : SoundDevices b) (q : ℕ) → is_of b (codes "bus") q ≡ true → attached b q ≡ true → HasOwner b q
owner-of b h q is home =
    let rest : PinsRootAlone b = rest-from_sound b h.tree in
    attached-owner b h.tree.0 rest.used.firm h.places.0 None (λ x. false) h.places.1 q is home

-- how many bridges

depth-local : (b : Board) (q : ℕ) (f g : ℕ → ℕ) → ((p m : ℕ) → bridge_of b q ≡ Some p → bus_of b p ≡ Some m → f m ≡ g m)
    → depth_turn b f q ≡ depth_turn b g q
depth-local b q f g same = go (bridge_of b q) refl
  where
    go : (o : Option ℕ) → bridge_of b q ≡ o → depth_turn b f q ≡ depth_turn b g q
    go None e = rw (depth_turn, e) refl
    go (Some p) e = by (bus_of b p) refl
      where
        by : (o : Option ℕ) → bus_of b p ≡ o → depth_turn b f q ≡ depth_turn b g q
        by None k = rw (depth_turn, e, k) refl
        by (Some m) k = rw (depth_turn, e, k) (ap suc (same p m e k))

depth-plain : (f : ℕ → ℕ) (o : Option ℕ) → elim o as (λ _. ℕ) [ None ↦ 0 | Some above ↦ suc (f above) ] ≡ depth_under f o
depth-plain f None = refl
depth-plain f (Some above) = refl

pub depth-unrolled : (b : Board) → SoundDevices b → (q : ℕ) → is_of b (codes "bus") q ≡ true → attached b q ≡ true
    → depth_of b q ≡ depth_under (depth_of b) (bus_above b q)
unfolding depth_of
depth-unrolled b h q is home =
    turned b (placed b h) ℕ (depth_turn b) (λ x. 0) (depth-local b) q (owner-of b h q is home)
    ∙ depth-plain (by_objects (depth_turn b) (λ x. 0) (births b)) (bus_above b q)

-- whether a removal is pending above

going-plain : (b : Board) (f : ℕ → Bool) (q : ℕ) → going_turn b f q ≡ going_under b f (bridge_of b q)
going-plain b f q = go (bridge_of b q) refl
  where
    go : (o : Option ℕ) → bridge_of b q ≡ o → going_turn b f q ≡ going_under b f (bridge_of b q)
    go None e = rw (going_turn, e) refl
    go (Some d) e = by (is_pending b d) refl (bus_of b d) refl
      where
        by : (t : Bool) → is_pending b d ≡ t → (o : Option ℕ) → bus_of b d ≡ o → going_turn b f q ≡ going_under b f (bridge_of b q)
        by true p o k = rw (going_turn, e, p) refl
        by false p None k = rw (going_turn, e, p, k) refl
        by false p (Some m) k = rw (going_turn, e, p, k) refl

going-local : (b : Board) (q : ℕ) (f g : ℕ → Bool) → ((p m : ℕ) → bridge_of b q ≡ Some p → bus_of b p ≡ Some m → f m ≡ g m)
    → going_turn b f q ≡ going_turn b g q
going-local b q f g same = going-plain b f q ∙ go (bridge_of b q) refl ∙ sym (going-plain b g q)
  where
    go : (o : Option ℕ) → bridge_of b q ≡ o → going_under b f o ≡ going_under b g o
    go None e = refl
    go (Some d) e = by (bus_of b d) refl
      where
        by : (o : Option ℕ) → bus_of b d ≡ o → going_under b f (Some d) ≡ going_under b g (Some d)
        by None k = rw k refl
        by (Some m) k = rw k (ap (λ (t : Bool). is_pending b d || t) (same d m e k))

pub going-unrolled : (b : Board) → SoundDevices b → (q : ℕ) → is_of b (codes "bus") q ≡ true → attached b q ≡ true
    → is_going b q ≡ going_under b (is_going b) (bridge_of b q)
unfolding is_going
going-unrolled b h q is home =
    turned b (placed b h) Bool (going_turn b) (λ x. false) (going-local b) q (owner-of b h q is home)
    ∙ going-plain b (by_objects (going_turn b) (λ x. false) (births b)) q
