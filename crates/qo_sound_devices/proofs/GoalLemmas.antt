-- What an accepted add shows of where its device goes.
use Rattle.std.proofs.Common.{rules, ◌≡◌, refl, ℕ, zero, suc, ◌+◌, ◌<◌, Bool, true, false, Option, Some, None, arith, codes}
use Rattle.qo_model.proofs.Common.{nat_lt, option_map_or, least, E28, E29, E30, TypeId, BUS_SLOTS, Board, kind_of, is_of, bus_type, code_in, is_free, ok_or_zero, bus_slot_for, is_a, types}
use Rattle.std.proofs.lemmas.Option.{same_Some}
use Rattle.qo_values.proofs.EachLemmas.{each}

-- what is of a device's type of bus is a bus
slot-is_bus : (k : TypeId) → is_a k (codes "slot-bus") ≡ true → is_a k (codes "bus") ≡ true
unfolding types
slot-is_bus = each (λ (k : TypeId). is_a k (codes "slot-bus") ≡ true → is_a k (codes "bus") ≡ true) (search rules)

mem-is_bus : (k : TypeId) → is_a k (codes "mem-bus") ≡ true → is_a k (codes "bus") ≡ true
unfolding types
mem-is_bus = each (λ (k : TypeId). is_a k (codes "mem-bus") ≡ true → is_a k (codes "bus") ≡ true) (search rules)

pub fits-bus : (b : Board) (t : TypeId) (q : ℕ) → is_of b (bus_type t) q ≡ true → is_of b (codes "bus") q ≡ true
fits-bus b t q e = go (kind_of b q) e (is_a t (codes "slot-device")) refl
  where
    go : (o : Option TypeId) → option_map_or (λ (k : TypeId). is_a k (bus_type t)) o false ≡ true → (u : Bool) → is_a t (codes "slot-device") ≡ u
        → option_map_or (λ (k : TypeId). is_a k (codes "bus")) o false ≡ true
    go None h u p = h
    go (Some k) h true p = slot-is_bus k (rw (bus_type, p) at h)
    go (Some k) h false p = mem-is_bus k (rw (bus_type, p) at h)

-- its slot there is one of eight
least-low : (p : ℕ → Bool) (times first m : ℕ) → least p first times ≡ Some m → m < first + times
unfolding least
least-low p zero first m e = absurd (let clash : None ≡ Some m = e in cc)
least-low p (suc times) first m e = go (p first) refl (least-low p times (first + 1) m)
  where
    go : (u : Bool) → p first ≡ u → (least p (first + 1) times ≡ Some m → m < first + 1 + times) → m < first + suc times
    go true q rest = let is : first ≡ m = same_Some first m (rw q at e) in omega (arith, is)
    go false q rest = let low : m < first + 1 + times = rest (rw q at e) in omega (arith, low)

pub slot-low : (b : Board) (bus : ℕ) (given : Option ℕ) → code_in (bus_slot_for b bus given) ≡ None → ok_or_zero (bus_slot_for b bus given) < BUS_SLOTS
slot-low b bus (Some slot) e = go (nat_lt slot BUS_SLOTS) refl (is_free b bus slot) refl
  where
    go : (u : Bool) → nat_lt slot BUS_SLOTS ≡ u → (v : Bool) → is_free b bus slot ≡ v → ok_or_zero (bus_slot_for b bus (Some slot)) < BUS_SLOTS
    go true p true q = rw (bus_slot_for, p, q) (grind (arith, p))
    go true p false q = absurd (let clash : Some E29 ≡ None = rw (bus_slot_for, p, q) at e in cc)
    go false p v q = absurd (let clash : Some E28 ≡ None = rw (bus_slot_for, p) at e in cc)
slot-low b bus None e = go (least (is_free b bus) 0 BUS_SLOTS) refl
  where
    go : (o : Option ℕ) → least (is_free b bus) 0 BUS_SLOTS ≡ o → ok_or_zero (bus_slot_for b bus None) < BUS_SLOTS
    go None p = absurd (let clash : Some E30 ≡ None = rw (bus_slot_for, p) at e in cc)
    go (Some slot) p = rw (bus_slot_for, p) (let low : slot < 0 + 8 = least-low (is_free b bus) BUS_SLOTS 0 slot p in omega (arith, low))
