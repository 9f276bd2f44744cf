-- A device that is detached, with all that is below it: each step keeps the tree of the board sound.
use Rattle.std.proofs.Common.{nat_eq, ◌≡◌, refl, ap, sym, subst, ◌∙◌, ℕ, zero, suc, ◌≤◌, Bool, true, false, not, ◌&&◌, ◌==◌, List, [], ◌∷◌, filter, length, slice_get, codes, Option, Some, None, option_map, arith}
use Rattle.qo_model.proofs.Common.{list_any, option_map_or, bytes_eq, ANONYMOUS_BIRTH, PERIPHERAL_BIRTH, TypeId, Act, Unrealize, Val, Board, Notice, Record, Slot, plain, child, strong, weak, alias, record_of, kind_of, slots_at, slot_at, cut, set, with_val, acted, device_period, with_act_on, by_depth, bus_of, buses_of, clock_of, kids_of, index_from, births, child_of, is_child, drop_slot, let_go, pin, put_in_order, unpin, without_first, is_clock_slot, is_open, PassesTo, apart_within, detach, disconnected, drained, each, is_bus_child, is_child_slot, is_named, left_bus, let_go_where, lost_bus, lost_buses, unseen, unseen_named, names_kid, set_named, take_slot, take_where, taken_by, unheld, unnoticed, unrealize, unrealize_turn, unrealized_device, without_all, left_parent, unrealized_bus}
use Rattle.std.proofs.lemmas.Bool.{eqb-true}
use Rattle.std.proofs.lemmas.Option.{same_Some}
use Rattle.std.proofs.lemmas.Slice.Eq.{bytes_eq-Decides}
use Rattle.qo_values.specs.declared.properties.Val.TheVariants as val
use Rattle.qo_model.specs.Unplug.{first_of, without_removal}
use Rattle.qo_model.proofs.FirstSlotLemmas.{Found, found-at}
use Rattle.qo_model.proofs.PinLemmas.{IsUp, put-among, put-back, put-up, release-pins, unpin-pins}
use Rattle.qo_model.proofs.ReleaseScopeLemmas.{let_go-leaves}
use Rattle.qo_model.proofs.StepLemmas.{one_of}
use Rattle.qo_sound.proofs.FirmBoardLemmas.{val-linked, unseen-linked}
use Rattle.qo_sound.proofs.SlotLemmas.{IsNoClock, no_child, other_name}
use Rattle.qo_sound.proofs.WorkLemmas.{InvariantBut, after-firm}
use Rattle.qo_sound.proofs.ViewLemmas.{PinsRootAlone}
use Rattle.qo_sound.proofs.ChangeLemmas.{IsGentle, emptied-at, gentle-val, near-changed, near-drop, near-let_go, open-last, other-lasts}
use Rattle.qo_sound.proofs.SeveringLemmas.{near-pin, near-unpin, pin-pins}
use Rattle.qo_sound.proofs.CutLemmas.{near-beside, near-cut, near-same_slots}

pub slot-of : (b : Board) (n i : ℕ) (s : List ℕ × Slot) → slice_get (slots_at b n) i ≡ Some s → slot_at b n i ≡ Some s.1
slot-of b n i s e = ap (option_map (λ (x : List ℕ × Slot). x.1)) e

-- a slot found on the record is the one found on the board
pub on-record : (b : Board) (n i : ℕ) (s x : List ℕ × Slot) (r : Record) → slice_get (slots_at b n) i ≡ Some s → record_of b n ≡ Some r
    → slice_get r.slots i ≡ Some x → s ≡ x
on-record b n i s x r e q k =
    let own : slots_at b n ≡ r.slots = ap (λ (o : Option Record). option_map_or (λ (y : Record). y.slots) o []) q in
    same_Some s x (sym e ∙ ap (λ (slots : List (List ℕ × Slot)). slice_get slots i) own ∙ k)

-- a board on which each object has references, and with these pins
pub record HasPins (ps : List ℕ) (c : Board) : Type 0 where
  pub near : InvariantBut None c
  pub pins : c.pins ≡ ps

-- a slot is let go that passes a test: one of an open object, or none that is the clock's
held-let_go : (ps : List ℕ) (c : Board) (n i : ℕ) → InvariantBut None (let_go c n i) → HasPins ps c → HasPins ps (let_go c n i)
held-let_go ps c n i near h = record { near = near; pins = (let_go-leaves c n i).pins ∙ h.pins }

pub held-where_open : (ps : List ℕ) (p : List ℕ × Slot → Bool) (n : ℕ) (c : Board) → is_open n ≡ true → HasPins ps c → HasPins ps (let_go_where p n c)
held-where_open ps p n c wide h = go (index_from p 0 (slots_at c n)) refl
  where
    go : (o : Option ℕ) → index_from p 0 (slots_at c n) ≡ o → HasPins ps (let_go_where p n c)
    go None e = rw (let_go_where, e) h
    go (Some i) e = rw (let_go_where, e) (held-let_go ps c n i (near-let_go c n i (λ s q. open-last c n i wide) h.near) h)

pub held-where_other : (ps : List ℕ) (p : List ℕ × Slot → Bool) → ((s : List ℕ × Slot) → p s ≡ true → is_clock_slot s ≡ false) → (n : ℕ) (c : Board)
    → HasPins ps c
    → HasPins ps (let_go_where p n c)
held-where_other ps p apart n c h = go (index_from p 0 (slots_at c n)) refl
  where
    go : (o : Option ℕ) → index_from p 0 (slots_at c n) ≡ o → HasPins ps (let_go_where p n c)
    go None e = rw (let_go_where, e) h
    go (Some i) e =
        let f : Found p (slots_at c n) i = found-at p i (slots_at c n) e in
        let other : (r : Record) (s : List ℕ × Slot) → record_of c n ≡ Some r → slice_get r.slots i ≡ Some s → IsNoClock s =
        λ r s q k. subst IsNoClock (on-record c n i f.entry s r f.at q k) (other_name (apart f.entry f.passes)) in
        rw (let_go_where, e) (held-let_go ps c n i (near-let_go c n i (other-lasts c n i other) h.near) h)

-- names that are not the clock's
pub named-apart : (name : List ℕ) → bytes_eq name (codes "clk") ≡ false → (s : List ℕ × Slot) → is_named name s ≡ true → is_clock_slot s ≡ false
named-apart name apart s e = subst (λ (x : List ℕ). bytes_eq x (codes "clk") ≡ false) (sym ((bytes_eq-Decides s.0 name).0 e)) apart

pub bus-apart : (m : ℕ) (s : List ℕ × Slot) → is_bus_child m s ≡ true → is_clock_slot s ≡ false
bus-apart m s e = go (is_clock_slot s) refl
  where
    go : (t : Bool) → is_clock_slot s ≡ t → is_clock_slot s ≡ false
    go false p = p
    go true p = absurd (let clash : is_child m s.1 && false ≡ true = rw p at e in no (is_child m s.1) clash)
      where
        no : (u : Bool) → u && false ≡ true → ⊥
        no true k = cc
        no false k = cc

-- a device is held while something is done that keeps the board so
held-pinned : (ps : List ℕ) → IsUp ps → (d : ℕ) (f : Board → Board) → ((qs : List ℕ) → IsUp qs → (c : Board) → HasPins qs c → HasPins qs (f c)) → (c : Board)
    → HasPins ps c → HasPins ps (unpin (f (pin c d)) d)
held-pinned ps up d f keeps c h =
    record {
      near = near-unpin (f (pin c d)) d there inner.near;
      pins = unpin-pins (f (pin c d)) d there ∙ ap (without_first d) inner.pins ∙ put-back d ps up;
    }
  where
    inner : HasPins (put_in_order d ps) (f (pin c d))
    inner = keeps (put_in_order d ps) (put-up d ps up) (pin c d) (record { near = near-pin c d h.near; pins = pin-pins c d ∙ ap (put_in_order d) h.pins })

    there : list_any (nat_eq d) (f (pin c d)).pins ≡ true
    there = ap (list_any (nat_eq d)) inner.pins ∙ put-among d ps

-- what each step keeps, the steps for each of a list keep
steps-keep : (P : Board → Type 0) (f : ℕ → Board → Board) → ((n : ℕ) (c : Board) → P c → P (f n c)) → (ns : List ℕ) (c : Board) → P c → P (each f ns c)
steps-keep P f keeps [] c h = h
steps-keep P f keeps (n ∷ ns) c h = steps-keep P f keeps ns (f n c) (keeps n c h)

-- what a device and a bus keep as they are unrealized, a device keeps with all that is below it
module _ (P : Board → Type 0) (device : (d : ℕ) (c : Board) → P c → P (unrealized_device d c)) (bus : (m : ℕ) (c : Board) → P c → P (unrealized_bus m c)) where
  turns-keep : (b : Board) (depth d : ℕ) (c : Board) → P c → P (by_depth (unrealize_turn b) (λ d c. c) depth d c)
  turns-keep b zero d c h = h
  turns-keep b (suc depth) d c h = turn (turns-keep b depth)
    where
      turn : ((k : ℕ) (e : Board) → P e → P (by_depth (unrealize_turn b) (λ d c. c) depth k e))
          → P (by_depth (unrealize_turn b) (λ d c. c) (suc depth) d c)
      turn keeps = device d _ (steps-keep P _ (λ m e k. bus m _ (steps-keep P _ keeps (kids_of b m) e k)) (buses_of b d) c h)

  pub unrealize-keeps : (c : Board) (d : ℕ) → P c → P (unrealize c d)
  unfolding unrealize
  unrealize-keeps c d h = turns-keep c (suc (length (births c))) d c h

-- what stays as a bus is let go, and as a device leaves its bus and its container, stays as a device is taken out
module _ (P : Board → Type 0) (bus : (m d : ℕ) (c : Board) → P c → P (let_go_where (is_bus_child m) d c))
    (leaves : (d : ℕ) (c : Board) → P c → P (left_bus d c))
    (parent : (d : ℕ) (c : Board) → P c → P (left_parent d c)) where
  module _ (f : ℕ → Board → Board) (keeps : (n : ℕ) (c : Board) → P c → P (f n c)) where
    drained-keeps : (times m : ℕ) (c : Board) → P c → P (drained f times m c)
    drained-keeps zero m c h = h
    drained-keeps (suc times) m c h = go (first_of (kids_of c m)) refl (drained-keeps times m)
      where
        go : (o : Option ℕ) → first_of (kids_of c m) ≡ o → ((e : Board) → P e → P (drained f times m e)) → P (drained f (suc times) m c)
        go None e rest = rw (drained, e) h
        go (Some k) e rest = rw (drained, e) (rest (f k c) (keeps k c h))

    lost_bus-keeps : (d m : ℕ) (c : Board) → P c → P (lost_bus f d m c)
    lost_bus-keeps d m c h = bus m d _ (drained-keeps (length (slots_at c m)) m c h)

    lost_buses-keep : (times d : ℕ) (c : Board) → P c → P (lost_buses f times d c)
    lost_buses-keep zero d c h = h
    lost_buses-keep (suc times) d c h = go (first_of (buses_of c d)) refl (lost_buses-keep times d)
      where
        go : (o : Option ℕ) → first_of (buses_of c d) ≡ o → ((e : Board) → P e → P (lost_buses f times d e)) → P (lost_buses f (suc times) d c)
        go None e rest = rw (lost_buses, e) h
        go (Some m) e rest = rw (lost_buses, e) (rest (lost_bus f d m c) (lost_bus-keeps d m c h))

    taken-keeps : (d : ℕ) (c : Board) → P c → P (taken_by f d c)
    taken-keeps d c h = parent d _ (leaves d _ (lost_buses-keep (length (slots_at c d)) d c h))

  module _ (held : (d : ℕ) (c : Board) → P c → P (pin c d)) (let_down : (d : ℕ) (c : Board) → P c → P (unpin c d)) where
    apart-keeps : (depth d : ℕ) (c : Board) → P c → P (apart_within depth d c)
    unfolding apart_within
    apart-keeps zero d c h = h
    apart-keeps (suc depth) d c h = let_down d _ (taken-keeps (apart_within depth) (apart-keeps depth) d (pin c d) (held d c h))

    -- a device that was unrealized while it was held
    pub detached-keeps : (b : Board) (d : ℕ) → P (unrealize (pin b d) d) → P (detach b d)
    unfolding detach
    detached-keeps b d h =
        let_down d _ (taken-keeps (apart_within (length (births b))) (apart-keeps (length (births b))) d (unrealize (pin b d) d) h)

-- small steps

set-count : (k : ℕ) (v : Val) (s : Slot) → one_of k ([], s) ≤ one_of k ([], with_val v s)
set-count k v (plain old) = omega arith
set-count k v (child m) = omega arith
set-count k v (strong t target) = omega arith
set-count k v (weak t target) = omega arith
set-count k v (alias m name) = omega arith

pub held-set : (ps : List ℕ) (n : ℕ) (name : List ℕ) (v : Val) (c : Board) → HasPins ps c → HasPins ps (set_named n name v c)
unfolding set
held-set ps n name v c h = go (index_from (is_named name) 0 (slots_at c n)) refl
  where
    go : (o : Option ℕ) → index_from (is_named name) 0 (slots_at c n) ≡ o → HasPins ps (set_named n name v c)
    go None e = rw (set_named, e) h
    go (Some i) e =
        let f : Found (is_named name) (slots_at c n) i = found-at (is_named name) i (slots_at c n) e in
        rw (set_named, e) (record {
          near = near-changed (with_val v) (gentle-val v) None c n i f.entry.1 (slot-of c n i f.entry f.at) (val-linked (kind_of c) v f.entry.1)
              (λ k. set-count k v f.entry.1) h.near;
          pins = h.pins;
        })

pub held-acted : (ps : List ℕ) (act : Act) (n period : ℕ) (c : Board) → HasPins ps c → HasPins ps (acted act n period c)
unfolding acted
held-acted ps act n period c h =
    record {
      near =
          near-beside None _ c.holds c.pending c.notices _ (near-same_slots n (with_act_on act c.now period) (λ r. refl) (λ r. refl) (λ r. refl) None c h.near);
      pins = h.pins;
    }

held-unheld : (ps : List ℕ) (n : ℕ) (c : Board) → HasPins ps c → HasPins ps (unheld n c)
held-unheld ps n c h = record { near = near-beside None c (without_all n c.holds) c.pending c.notices c.notes h.near; pins = h.pins }

held-unnoticed : (ps : List ℕ) (n : ℕ) (c : Board) → HasPins ps c → HasPins ps (unnoticed n c)
held-unnoticed ps n c h =
    record {
      near = near-beside None c c.holds (without_removal n c.pending) (filter (λ (x : Notice). not (x.birth == n)) c.notices) c.notes h.near;
      pins = h.pins;
    }

unseen-gentle : IsGentle unseen
unseen-gentle = record { children = children; passes = passes }
  where
    children : (s : Slot) → child_of (unseen s) ≡ child_of s
    children (plain v) = refl
    children (child m) = refl
    children (strong t target) = refl
    children (weak t target) = refl
    children (alias m name) = refl

    passes : (ns : List ℕ) (s : Slot) → PassesTo ns s → PassesTo ns (unseen s)
    passes ns (plain v) h = h
    passes ns (child m) h = h
    passes ns (strong t target) h = h
    passes ns (weak t target) h = h
    passes ns (alias m name) h = h

unseen-count : (k : ℕ) (s : Slot) → one_of k ([], s) ≤ one_of k ([], unseen s)
unseen-count k (plain v) = omega arith
unseen-count k (child m) = omega arith
unseen-count k (strong t target) = omega arith
unseen-count k (weak t target) = omega arith
unseen-count k (alias m name) = omega arith

held-unseen : (ps : List ℕ) (n : ℕ) (name : List ℕ) (c : Board) → HasPins ps c → HasPins ps (unseen_named n name c)
held-unseen ps n name c h = go (index_from (is_named name) 0 (slots_at c n)) refl
  where
    go : (o : Option ℕ) → index_from (is_named name) 0 (slots_at c n) ≡ o → HasPins ps (unseen_named n name c)
    go None e = rw (unseen_named, e) h
    go (Some i) e =
        let f : Found (is_named name) (slots_at c n) i = found-at (is_named name) i (slots_at c n) e in
        rw (unseen_named, e) (record {
          near = near-changed unseen unseen-gentle None c n i f.entry.1 (slot-of c n i f.entry f.at) (unseen-linked (kind_of c) f.entry.1)
              (λ k. unseen-count k f.entry.1) h.near;
          pins = h.pins;
        })

held-disconnected : (ps : List ℕ) (o : Option ℕ) (c : Board) → HasPins ps c → HasPins ps (disconnected o c)
held-disconnected ps None c h = h
held-disconnected ps (Some n) c h = held-set ps n (codes "period") (val.Uint 0) _ (held-unseen ps n (codes "source") c h)

-- unrealizing

held-device : (ps : List ℕ) (d : ℕ) (c : Board) → HasPins ps c → HasPins ps (unrealized_device d c)
held-device ps d c h = held-unnoticed ps d _ (held-unheld ps d
    _ (held-set ps d (codes "realized") (val.Bool false) _ (held-disconnected ps (clock_of c d) _ (held-acted ps Unrealize d (device_period c d) c h))))

held-bus : (ps : List ℕ) (m : ℕ) (c : Board) → HasPins ps c → HasPins ps (unrealized_bus m c)
held-bus ps m c h = held-unheld ps m _ (held-acted ps Unrealize m 0 c h)

pub held-unrealize : (ps : List ℕ) (d : ℕ) (c : Board) → HasPins ps c → HasPins ps (unrealize c d)
held-unrealize ps d c h = unrealize-keeps (HasPins ps) (held-device ps) (held-bus ps) c d h

-- taking out

-- a link of a bus is let go and removed
pub kid-held : (d : ℕ) (s : List ℕ × Slot) → names_kid d s ≡ true → (t : TypeId) × (s.1 ≡ strong t (Some d))
kid-held d (name, plain v) e = cc
kid-held d (name, child m) e = cc
kid-held d (name, strong t None) e = cc
kid-held d (name, strong t (Some m)) e = (t, ap (λ (k : ℕ). strong t (Some k)) (eqb-true m d e))
kid-held d (name, weak t target) e = cc
kid-held d (name, alias m property) e = cc

pub held-taken : (ps : List ℕ) (d m : ℕ) (c : Board) → HasPins ps c → HasPins ps (take_where (names_kid d) m c)
unfolding cut drop_slot
held-taken ps d m c h = go (index_from (names_kid d) 0 (slots_at c m)) refl
  where
    go : (o : Option ℕ) → index_from (names_kid d) 0 (slots_at c m) ≡ o → HasPins ps (take_where (names_kid d) m c)
    go None e = rw (take_where, e) h
    go (Some i) e =
        let f : Found (names_kid d) (slots_at c m) i = found-at (names_kid d) i (slots_at c m) e in
        let (t, is) = kid-held d f.entry f.passes in
        let at : slot_at c m i ≡ Some (strong t (Some d)) = slot-of c m i f.entry f.at ∙ ap Some is in
        let other : (r : Record) (s : List ℕ × Slot) → record_of c m ≡ Some r → slice_get r.slots i ≡ Some s → IsNoClock s =
        λ r s q k. subst IsNoClock (on-record c m i f.entry s r f.at q k) (no_child (ap child_of is)) in
        let dropped : InvariantBut (Some d) (drop_slot c m i) =
        near-drop c m i (strong t (Some d)) at (other-lasts c m i other (strong t (Some d)) at) h.near in
        let gone : InvariantBut (Some d) (cut m i (drop_slot c m i)) =
        near-cut (Some d) (drop_slot c m i) m i (strong t None) (emptied-at c m i (strong t (Some d)) (strong t None) at refl) refl refl dropped in
        rw (take_where, e, take_slot, at) (record {
          near = after-firm (cut m i (drop_slot c m i)) (Some d) gone;
          pins = release-pins (cut m i (drop_slot c m i)) (Some d) ∙ h.pins;
        })

held-left_bus : (ps : List ℕ) (d : ℕ) (c : Board) → HasPins ps c → HasPins ps (left_bus d c)
held-left_bus ps d c h = go (bus_of c d) refl
  where
    go : (o : Option ℕ) → bus_of c d ≡ o → HasPins ps (left_bus d c)
    go None e = rw (left_bus, e) h
    go (Some m) e = rw (left_bus, e) (held-where_other ps (is_named (codes "parent_bus")) (named-apart (codes "parent_bus") refl) d _ (held-taken ps d m c h))

held-left_parent : (ps : List ℕ) (d : ℕ) (c : Board) → HasPins ps c → HasPins ps (left_parent d c)
held-left_parent ps d c h =
    held-where_open ps (is_child_slot d) ANONYMOUS_BIRTH _ refl (held-where_open ps (is_child_slot d) PERIPHERAL_BIRTH c refl h)

held-out : (ps : List ℕ) (f : ℕ → Board → Board) → ((n : ℕ) (c : Board) → HasPins ps c → HasPins ps (f n c)) → (d : ℕ) (c : Board) → HasPins ps c
    → HasPins ps (taken_by f d c)
held-out ps = taken-keeps (HasPins ps) (λ m. held-where_other ps (is_bus_child m) (bus-apart m)) (held-left_bus ps) (held-left_parent ps)

held-apart : (depth : ℕ) (ps : List ℕ) → IsUp ps → (d : ℕ) (c : Board) → HasPins ps c → HasPins ps (apart_within depth d c)
unfolding apart_within
held-apart zero ps up d c h = h
held-apart (suc depth) ps up d c h =
    held-pinned ps up d (taken_by (apart_within depth) d) (λ qs high e k. held-out qs (apart_within depth) (held-apart depth qs high) d e k) c h

-- a device that is detached
pub detach-rest : (b : Board) (d : ℕ) → PinsRootAlone b → PinsRootAlone (detach b d)
unfolding detach
detach-rest b d h = let k : HasPins (1 ∷ []) (detach b d) = held in record { used = k.near; pinned = k.pins }
  where
    held : HasPins (1 ∷ []) (unpin (taken_by (apart_within (length (births b))) d (unrealize (pin b d) d)) d)
    held =
        held-pinned (1 ∷ []) (tt, tt) d (λ c. taken_by (apart_within (length (births b))) d (unrealize c d))
        (λ qs high c k. held-out qs (apart_within (length (births b))) (held-apart (length (births b)) qs high) d (unrealize c d) (held-unrealize qs d c k))
        b (record { near = h.used; pins = h.pinned })
