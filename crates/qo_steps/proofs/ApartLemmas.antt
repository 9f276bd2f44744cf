-- A detachment whose premises say which device, and which bus, each step is of: what the steps keep of these, a detachment keeps.
use Rattle.std.proofs.Common.{◌≡◌, refl, ℕ, zero, suc, length, Option, Some, None}
use Rattle.qo_model.proofs.Common.{Board, slots_at, buses_of, kids_of, births, pin, unpin, apart_within, detach, drained, is_bus_child, left_bus, left_parent, let_go_where, lost_bus, lost_buses, taken_by, unrealize}
use Rattle.qo_model.specs.Unplug.{first_of}

-- what each part keeps, of devices and buses that are so
pub record ApartSteps (P : Board → Type 0) (On Bus : ℕ → Type 0) : Type 0 where
  pub kid : (m k : ℕ) (c : Board) → Bus m → P c → first_of (kids_of c m) ≡ Some k → On k
  pub bus : (d m : ℕ) (c : Board) → On d → P c → first_of (buses_of c d) ≡ Some m → Bus m
  pub lost : (d m : ℕ) → On d → Bus m → (c : Board) → P c → P (let_go_where (is_bus_child m) d c)
  pub leaves : (d : ℕ) → On d → (c : Board) → P c → P (left_bus d c)
  pub parent : (d : ℕ) → On d → (c : Board) → P c → P (left_parent d c)
  pub pinned : (d : ℕ) (c : Board) → P c → P (pin c d)
  pub unpinned : (d : ℕ) → On d → (c : Board) → P c → P (unpin c d)

module _ (P : Board → Type 0) (On Bus : ℕ → Type 0) (k : ApartSteps P On Bus) where
  module _ (f : ℕ → Board → Board) (keeps : (n : ℕ) → On n → (c : Board) → P c → P (f n c)) where
    drained-on : (times m : ℕ) → Bus m → (c : Board) → P c → P (drained f times m c)
    drained-on zero m is c h = h
    drained-on (suc times) m is c h = go (first_of (kids_of c m)) refl (drained-on times m is)
      where
        go : (o : Option ℕ) → first_of (kids_of c m) ≡ o → ((e : Board) → P e → P (drained f times m e)) → P (drained f (suc times) m c)
        go None e rest = rw (drained, e) h
        go (Some n) e rest = rw (drained, e) (rest (f n c) (keeps n (k.kid m n c is h e) c h))

    lost-on : (times d : ℕ) → On d → (c : Board) → P c → P (lost_buses f times d c)
    lost-on zero d on c h = h
    lost-on (suc times) d on c h = go (first_of (buses_of c d)) refl (lost-on times d on)
      where
        go : (o : Option ℕ) → first_of (buses_of c d) ≡ o → ((e : Board) → P e → P (lost_buses f times d e)) → P (lost_buses f (suc times) d c)
        go None e rest = rw (lost_buses, e) h
        go (Some m) e rest =
            let is : Bus m = k.bus d m c on h e in
            rw (lost_buses, e) (rest (lost_bus f d m c) (k.lost d m on is _ (drained-on (length (slots_at c m)) m is c h)))

    taken-on : (d : ℕ) → On d → (c : Board) → P c → P (taken_by f d c)
    taken-on d on c h = k.parent d on _ (k.leaves d on _ (lost-on (length (slots_at c d)) d on c h))

  apart-on : (depth d : ℕ) → On d → (c : Board) → P c → P (apart_within depth d c)
  unfolding apart_within
  apart-on zero d on c h = h
  apart-on (suc depth) d on c h = k.unpinned d on _ (taken-on (apart_within depth) (apart-on depth) d on (pin c d) (k.pinned d c h))

  pub detached-on : (b : Board) (d : ℕ) → On d → P (unrealize (pin b d) d) → P (detach b d)
  unfolding detach
  detached-on b d on h =
      k.unpinned d on _ (taken-on (apart_within (length (births b))) (apart-on (length (births b))) d on (unrealize (pin b d) d) h)
