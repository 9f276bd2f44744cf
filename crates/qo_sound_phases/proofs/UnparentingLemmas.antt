-- A device is taken out with all that is below it: what each step takes away, and what it leaves of others.
use Rattle.std.proofs.Common.{◌≡◌, refl, ap, sym, subst, ◌∙◌, nat_eq, ℕ, zero, suc, ◌≤◌, Bool, true, false, ◌==◌, cond, List, [], ◌∷◌, filter_map, length, remove, slice_get, sum_by, Option, Some, None, is_some, option_map, arith, codes}
use Rattle.qo_model.proofs.Common.{cons_option, list_any, option_map_or, ANONYMOUS_BIRTH, PERIPHERAL_BIRTH, TypeId, Board, Record, Slot, plain, child, strong, weak, alias, record_of, kind_of, is_live, slots_at, slot_at, cut, with_cut, among, bus_of, buses_of, kids_of, index_from, child_of, is_of, after, drop_slot, edit, edited, finalize, let_go, pin, put_in_order, unpin, with_dropped, without_first, without_hold, without_pin, is_a, apart_within, drained, is_bus_child, is_child_slot, is_named, left_bus, left_parent, let_go_where, lost_bus, lost_buses, names_kid, take_slot, take_where, taken_by}
use Rattle.std.proofs.lemmas.Bool.{eqb-true}
use Rattle.std.proofs.lemmas.List.Sums.{sum_by-cons}
use Rattle.std.proofs.lemmas.Option.{same_Some}
use Rattle.qo_model.specs.Board.{referent}
use Rattle.qo_model.specs.Unplug.{first_of}
use Rattle.qo_model.proofs.FirstSlotLemmas.{Found, found-at}
use Rattle.qo_model.proofs.StepLemmas.{found-edited, is_some-map, map-edited}
use Rattle.qo_sound.proofs.SlotLemmas.{one_child}
use Rattle.qo_sound.proofs.TestLemmas.{decide, clash, clash-back}
use Rattle.qo_sound_devices.specs.SoundPlaces.{child_entries, child_entry, kid_entries, kid_entry, listed, names_it, owns, owns_it, stands}
use Rattle.qo_sound_devices.proofs.LikenessLemmas.{after-alike, other-record}
use Rattle.qo_sound_devices.proofs.DetachmentLemmas.{under-more, listed-kid, owned-bus, first-among}
use Rattle.qo_sound_devices.proofs.DropLemmas.{children-fewer, children-kept, edited-slots, kids-fewer, within-cons}
use Rattle.qo_sound_devices.proofs.DepthLemmas.{is-bus_of, IsBusOf, kids-listed}
use Rattle.qo_sound_devices.proofs.PlacesLemmas.{within-any}
use Rattle.qo_sound_devices.proofs.PlacesLemmas.{kind-alike, more, nothing, of-alike, of-live, same, Within, within-all, within-same, within-any}
use Rattle.qo_sound_devices.proofs.StepsLemmas.{entries-removed, steps-after, within-then, FewerEntries}
use Rattle.qo_sound_devices.proofs.UnparentingLemmas.{none-listed}
use Rattle.qo_sound_devices.proofs.UnrealizingLemmas.{FewerRealized, Under}

-- lists of entries without some of them
within-skip : (o : Option (List ℕ × ℕ)) (xs : List (List ℕ × ℕ)) → Within xs (cons_option o xs)
within-skip None xs = within-all xs
within-skip (Some x) xs = more x (within-all xs)

removed-within : (f : List ℕ × Slot → Option (List ℕ × ℕ)) (i : ℕ) (slots : List (List ℕ × Slot)) → Within (filter_map f (remove slots i)) (filter_map f slots)
removed-within f zero [] = within-all []
removed-within f (suc i) [] = within-all []
removed-within f zero (s ∷ slots) = within-skip (f s) (filter_map f slots)
removed-within f (suc i) (s ∷ slots) = within-cons (f s) (removed-within f i slots)

-- from a board on: entries went, and some objects keep their children
module _ (b : Board) (Stays : ℕ → Type 0) where
  pub record Walked (c : Board) : Type 0 where
    pub children : (x : ℕ) → Within (child_entries c x) (child_entries b x)
    pub kids : (x : ℕ) → Within (kid_entries c x) (kid_entries b x)
    pub kin : (x : ℕ) → is_live c x ≡ true → (is_live b x ≡ true) × (kind_of c x ≡ kind_of b x)
    pub still : (x : ℕ) → Stays x → is_live c x ≡ true → child_entries c x ≡ child_entries b x

  pub walked-none : Walked b
  walked-none =
      record { children = λ x. within-all (child_entries b x); kids = λ x. within-all (kid_entries b x); kin = λ x e. (e, refl); still = λ x s e. refl }

  walked-after : (c : Board) (o : Option ℕ) → Walked c → Walked (after finalize c o)
  walked-after c o h =
      record {
        children = λ x. within-then ((steps-after c o).children x) (h.children x);
        kids = λ x. within-then ((steps-after c o).kids x) (h.kids x);
        kin = λ x e.
            let was : (is_live b x ≡ true) × (kind_of c x ≡ kind_of b x) = h.kin x ((steps-after c o).live x e) in
            (was.0, kind-alike c (after finalize c o) x ((steps-after c o).body x e) ∙ was.1);
        still = λ x s e. (after-alike c o x e).children ∙ h.still x s ((steps-after c o).live x e);
      }

  walked-pins : (c : Board) (ps : List ℕ) → Walked c → Walked (record c { pins = ps })
  walked-pins c ps h = record { children = h.children; kids = h.kids; kin = h.kin; still = h.still }

  walked-edit : (n : ℕ) (change : Record → Record) → ((r : Record) → (change r).birth ≡ r.birth) → ((r : Record) → (change r).kind ≡ r.kind)
      → (c : Board) → ((r : Record) → record_of c n ≡ Some r → FewerEntries r.slots (change r).slots)
      → (Stays n → (r : Record) → record_of c n ≡ Some r → filter_map child_entry (change r).slots ≡ filter_map child_entry r.slots)
      → Walked c → Walked (edit n change c)
  walked-edit n change birth kind c fewer stays h =
      record {
        children = λ x. within-then (entries child_entry (λ r q. (fewer r q).children) x) (h.children x);
        kids = λ x. within-then (entries kid_entry (λ r q. (fewer r q).kids) x) (h.kids x);
        kin = λ x e.
            let was : (is_live b x ≡ true) × (kind_of c x ≡ kind_of b x) = h.kin x (live x e) in (
              was.0,
              ap (option_map (λ (r : Record). r.kind)) (found-edited n change birth x c.records)
                  ∙ map-edited (λ (r : Record). r.kind) n change kind (record_of c x) ∙ was.1,
            );
        still = λ x s e. kept x s ∙ h.still x s (live x e);
      }
    where
      live : (x : ℕ) → is_live (edit n change c) x ≡ true → is_live c x ≡ true
      live x e = sym (ap is_some (found-edited n change birth x c.records) ∙ is_some-map (edited n change) (record_of c x)) ∙ e

      other : (x : ℕ) → (x == n) ≡ false → slots_at (edit n change c) x ≡ slots_at c x
      other x p =
          ap (λ (o : Option Record). option_map_or (λ (r : Record). r.slots) o [])
          (found-edited n change birth x c.records ∙ other-record n x change c refl p (record_of c x) refl)

      entries : (f : List ℕ × Slot → Option (List ℕ × ℕ))
          → ((r : Record) → record_of c n ≡ Some r → Within (filter_map f (change r).slots) (filter_map f r.slots)) → (x : ℕ)
          → Within (filter_map f (slots_at (edit n change c) x)) (filter_map f (slots_at c x))
      entries f few x =
          decide (x == n)
          (λ p. subst (λ (y : ℕ). Within (filter_map f (slots_at (edit n change c) y)) (filter_map f (slots_at c y))) (sym (eqb-true x n p))
          (own (record_of c n) refl))
          (λ p. within-same (ap (filter_map f) (other x p)))
        where
          own : (o : Option Record) → record_of c n ≡ o → Within (filter_map f (slots_at (edit n change c) n)) (filter_map f (slots_at c n))
          own None q =
              within-same
              (ap (λ (o : Option Record). filter_map f (option_map_or (λ (r : Record). r.slots) o []))
              (found-edited n change birth n c.records ∙ ap (option_map (edited n change)) q ∙ sym q))
          own (Some r) q =
              let now : slots_at (edit n change c) n ≡ (change r).slots = edited-slots c n change birth r q in
              let was : slots_at c n ≡ r.slots = ap (λ (o : Option Record). option_map_or (λ (y : Record). y.slots) o []) q in
              subst (λ (xs : List (List ℕ × ℕ)). Within xs (filter_map f (slots_at c n))) (sym (ap (filter_map f) now))
              (subst (λ (ys : List (List ℕ × ℕ)). Within (filter_map f (change r).slots) ys) (sym (ap (filter_map f) was)) (few r q))

      kept : (x : ℕ) → Stays x → child_entries (edit n change c) x ≡ child_entries c x
      kept x s =
          decide (x == n)
          (λ p.
          subst (λ (y : ℕ). child_entries (edit n change c) y ≡ child_entries c y) (sym (eqb-true x n p))
          (own (subst Stays (eqb-true x n p) s) (record_of c n) refl))
          (λ p. ap (filter_map child_entry) (other x p))
        where
          own : Stays n → (o : Option Record) → record_of c n ≡ o → child_entries (edit n change c) n ≡ child_entries c n
          own at None q =
              ap (λ (o : Option Record). filter_map child_entry (option_map_or (λ (r : Record). r.slots) o []))
              (found-edited n change birth n c.records ∙ ap (option_map (edited n change)) q ∙ sym q)
          own at (Some r) q =
              ap (filter_map child_entry) (edited-slots c n change birth r q)
              ∙ stays at r q
              ∙ sym (ap (λ (o : Option Record). filter_map child_entry (option_map_or (λ (y : Record). y.slots) o [])) q)

  -- a slot is let go of an object that need not keep its children
  pub walked-let_go : (n i : ℕ) → (Stays n → ⊥) → (c : Board) → Walked c → Walked (let_go c n i)
  unfolding let_go drop_slot
  walked-let_go n i apart c h = go (slot_at c n i) refl
    where
      go : (o : Option Slot) → slot_at c n i ≡ o → Walked (let_go c n i)
      go None e = rw (let_go, e) h
      go (Some s) e =
          rw (let_go, e)
          (walked-after (edit n (with_dropped i) c) (referent s)
          (walked-edit n (with_dropped i) (λ r. refl) (λ r. refl) c (λ r q. record { children = children-fewer i r.slots; kids = kids-fewer i r.slots })
          (λ at r q. absurd (apart at)) h))

  pub walked-where : (p : List ℕ × Slot → Bool) (n : ℕ) → (Stays n → ⊥) → (c : Board) → Walked c → Walked (let_go_where p n c)
  walked-where p n apart c h = go (index_from p 0 (slots_at c n)) refl
    where
      go : (o : Option ℕ) → index_from p 0 (slots_at c n) ≡ o → Walked (let_go_where p n c)
      go None e = rw (let_go_where, e) h
      go (Some i) e = rw (let_go_where, e) (walked-let_go n i apart c h)

  -- a bus loses its link to a kid
  kid-child : (d : ℕ) (s : List ℕ × Slot) → names_kid d s ≡ true → child_of s.1 ≡ None
  kid-child d (name, plain v) e = refl
  kid-child d (name, child m) e = clash-back e
  kid-child d (name, strong t target) e = refl
  kid-child d (name, weak t target) e = refl
  kid-child d (name, alias m property) e = refl

  still-there : (d i : ℕ) (slots : List (List ℕ × Slot)) (s : List ℕ × Slot) → slice_get slots i ≡ Some s → names_kid d s ≡ true
      → (x : List ℕ × Slot) × ((slice_get (without_hold i slots) i ≡ Some x) × (child_entry x ≡ None))
  still-there d i [] s e k = absurd (let bad : None ≡ Some s = e in cc)
  still-there d (suc i) (x ∷ slots) s e k = still-there d i slots s e k
  still-there d zero (x ∷ slots) s e k = go x (subst (λ (y : List ℕ × Slot). names_kid d y ≡ true) (sym (same_Some x s e)) k)
    where
      go : (y : List ℕ × Slot) → names_kid d y ≡ true
          → (z : List ℕ × Slot) × ((slice_get (without_hold zero (y ∷ slots)) zero ≡ Some z) × (child_entry z ≡ None))
      go (name, plain v) q = clash-back q
      go (name, child m) q = clash-back q
      go (name, strong t target) q = ((name, strong t None), (refl, refl))
      go (name, weak t target) q = clash-back q
      go (name, alias m property) q = clash-back q

  pub walked-take : (d m : ℕ) (c : Board) → Walked c → Walked (take_where (names_kid d) m c)
  unfolding drop_slot cut
  walked-take d m c h = go (index_from (names_kid d) 0 (slots_at c m)) refl
    where
      go : (o : Option ℕ) → index_from (names_kid d) 0 (slots_at c m) ≡ o → Walked (take_where (names_kid d) m c)
      go None e = rw (take_where, e) h
      go (Some i) e = rw (take_where, e) (at_slot (slot_at c m i) refl)
        where
          f : Found (names_kid d) (slots_at c m) i
          f = found-at (names_kid d) i (slots_at c m) e

          at_owner : (r : Record) → record_of c m ≡ Some r → slice_get r.slots i ≡ Some f.entry
          at_owner r q = sym (ap (λ (o : Option Record). slice_get (option_map_or (λ (y : Record). y.slots) o []) i) q) ∙ f.at

          dropped : Walked (edit m (with_dropped i) c)
          dropped =
              walked-edit m (with_dropped i) (λ r. refl) (λ r. refl) c (λ r q. record { children = children-fewer i r.slots; kids = kids-fewer i r.slots })
              (λ at r q. children-kept i r.slots f.entry (at_owner r q) (kid-child d f.entry f.passes)) h

          removed : Walked (edit m (with_cut i) (edit m (with_dropped i) c))
          removed =
              walked-edit m (with_cut i) (λ r. refl) (λ r. refl) (edit m (with_dropped i) c)
              (λ r q. record { children = removed-within child_entry i r.slots; kids = removed-within kid_entry i r.slots })
              (λ at r q. stays r q (record_of c m) refl)
              dropped
            where
              stays : (r : Record) → record_of (edit m (with_dropped i) c) m ≡ Some r → (o : Option Record) → record_of c m ≡ o
                  → filter_map child_entry (remove r.slots i) ≡ filter_map child_entry r.slots
              stays r q None w =
                  absurd
                  (let bad : None ≡ Some r = sym (found-edited m (with_dropped i) (λ y. refl) m c.records ∙ ap (option_map (edited m (with_dropped i))) w)
                  ∙ q in cc)
              stays r q (Some y) w =
                  let now : slots_at (edit m (with_dropped i) c) m ≡ without_hold i y.slots = edited-slots c m (with_dropped i) (λ z. refl) y w in
                  let its : r.slots ≡ without_hold i y.slots = sym (ap (λ (o : Option Record). option_map_or (λ (z : Record). z.slots) o []) q) ∙ now in
                  let (x, (at, none)) = still-there d i y.slots f.entry (at_owner y w) f.passes in
                  entries-removed child_entry i r.slots x (ap (λ (ss : List (List ℕ × Slot)). slice_get ss i) its ∙ at) none

          at_slot : (o : Option Slot) → slot_at c m i ≡ o → Walked (take_slot c m i)
          at_slot None w = rw (take_slot, w) h
          at_slot (Some s) w = rw (take_slot, w) (walked-after (edit m (with_cut i) (edit m (with_dropped i) c)) (referent s) removed)

  pub walked-pin : (n : ℕ) (c : Board) → Walked c → Walked (pin c n)
  unfolding pin
  walked-pin n c h = walked-pins c (put_in_order n c.pins) h

  pub walked-unpin : (n : ℕ) (c : Board) → Walked c → Walked (unpin c n)
  unfolding unpin
  walked-unpin n c h = go (list_any (nat_eq n) c.pins) refl
    where
      go : (u : Bool) → list_any (nat_eq n) c.pins ≡ u → Walked (unpin c n)
      go true e = rw (unpin, e) (walked-after (without_pin c n) (Some n) (walked-pins c (without_first n c.pins) h))
      go false e = rw (unpin, e) h

-- first kids, and first buses
-- a device d, unrealized with all that is below it, is taken out
module _ (p u : Board) (dims : FewerRealized p u) (d : ℕ) where
  -- what is below the device and the containers of devices may lose children; nothing else does
  abbrev pub Keeps : ℕ → Type 0
  Keeps x = (Under p d x → ⊥) × (among (PERIPHERAL_BIRTH ∷ ANONYMOUS_BIRTH ∷ []) x ≡ false)

  abbrev Gone : Board → Type 0
  Gone c = Walked u Keeps c

  keeps-apart : (x : ℕ) → Under p d x → Keeps x → ⊥
  keeps-apart x v k = k.0 v

  shelf-apart : (x : ℕ) → among (PERIPHERAL_BIRTH ∷ ANONYMOUS_BIRTH ∷ []) x ≡ true → Keeps x → ⊥
  shelf-apart x e k = clash (sym e ∙ k.1)

  was-of : (c : Board) → Gone c → (name : List ℕ) (x : ℕ) → is_of c name x ≡ true → is_of p name x ≡ true
  was-of c h name x is =
      let kin : (is_live u x ≡ true) × (kind_of c x ≡ kind_of u x) = h.kin x (of-live c name x is) in
      sym (of-alike p u x name (dims.body x)) ∙ sym (ap (λ (o : Option TypeId). option_map_or (λ (t : TypeId). is_a t name) o false) kin.1) ∙ is

  bus-before : (c : Board) → Gone c → (x m : ℕ) → first_of (buses_of c x) ≡ Some m → among (buses_of p x) m ≡ true
  bus-before c h x m e =
      let its : IsBusOf c x m = is-bus_of c x m (first-among (buses_of c x) m e) in
      let own : owns p x m ≡ true = sym (ap (list_any (owns_it m)) (dims.children x)) ∙ within-any (owns_it m) (h.children x) its.owned in
      owned-bus p m (was-of c h (codes "bus") m its.bus) (slots_at p x) own

  kid-before : (c : Board) → Gone c → (m k : ℕ) → first_of (kids_of c m) ≡ Some k → among (kids_of p m) k ≡ true
  kid-before c h m k e =
      let its : listed k (kid_entries c m) ≡ true = kids-listed k (slots_at c m) (first-among (kids_of c m) k e) in
      listed-kid k (slots_at p m) (sym (ap (listed k) (dims.kids m)) ∙ within-any (names_it k) (h.kids m) its)

  gone-left_bus : (x : ℕ) (c : Board) → Under p d x → Gone c → Gone (left_bus x c)
  gone-left_bus x c v h = go (bus_of c x) refl
    where
      go : (o : Option ℕ) → bus_of c x ≡ o → Gone (left_bus x c)
      go None e = rw (left_bus, e) h
      go (Some m) e =
          rw (left_bus, e)
          (walked-where u Keeps (is_named (codes "parent_bus")) x (keeps-apart x v) (take_where (names_kid x) m c) (walked-take u Keeps x m c h))

  pub gone-left_parent : (x : ℕ) (c : Board) → Gone c → Gone (left_parent x c)
  gone-left_parent x c h =
      walked-where u Keeps (is_child_slot x) ANONYMOUS_BIRTH (shelf-apart ANONYMOUS_BIRTH refl) _
      (walked-where u Keeps (is_child_slot x) PERIPHERAL_BIRTH (shelf-apart PERIPHERAL_BIRTH refl) c h)

  module _ (f : ℕ → Board → Board) (keeps : (x : ℕ) (c : Board) → Under p d x → Gone c → Gone (f x c)) where
    gone-drained : (times x m : ℕ) → Under p d x → among (buses_of p x) m ≡ true → (c : Board) → Gone c → Gone (drained f times m c)
    gone-drained zero x m v im c h = h
    gone-drained (suc times) x m v im c h = go (first_of (kids_of c m)) refl (gone-drained times x m v im)
      where
        go : (o : Option ℕ) → first_of (kids_of c m) ≡ o → ((e : Board) → Gone e → Gone (drained f times m e)) → Gone (drained f (suc times) m c)
        go None e rest = rw (drained, e) h
        go (Some k) e rest = rw (drained, e) (rest (f k c) (keeps k c (under-more p d x m k v im (kid-before c h m k e)) h))

    gone-lost_bus : (x m : ℕ) → Under p d x → among (buses_of p x) m ≡ true → (c : Board) → Gone c → Gone (lost_bus f x m c)
    gone-lost_bus x m v im c h =
        walked-where u Keeps (is_bus_child m) x (keeps-apart x v) (drained f (length (slots_at c m)) m c) (gone-drained (length (slots_at c m)) x m v im c h)

    gone-lost_buses : (times x : ℕ) → Under p d x → (c : Board) → Gone c → Gone (lost_buses f times x c)
    gone-lost_buses zero x v c h = h
    gone-lost_buses (suc times) x v c h = go (first_of (buses_of c x)) refl (gone-lost_buses times x v)
      where
        go : (o : Option ℕ) → first_of (buses_of c x) ≡ o → ((e : Board) → Gone e → Gone (lost_buses f times x e)) → Gone (lost_buses f (suc times) x c)
        go None e rest = rw (lost_buses, e) h
        go (Some m) e rest = rw (lost_buses, e) (rest (lost_bus f x m c) (gone-lost_bus x m v (bus-before c h x m e) c h))

    pub gone-before : (x : ℕ) (c : Board) → Under p d x → Gone c → Gone (left_bus x (lost_buses f (length (slots_at c x)) x c))
    gone-before x c v h = gone-left_bus x _ v (gone-lost_buses (length (slots_at c x)) x v c h)

    gone-taken : (x : ℕ) (c : Board) → Under p d x → Gone c → Gone (taken_by f x c)
    gone-taken x c v h = gone-left_parent x _ (gone-before x c v h)

  pub gone-apart : (depth x : ℕ) (c : Board) → Under p d x → Gone c → Gone (apart_within depth x c)
  unfolding apart_within
  gone-apart zero x c v h = h
  gone-apart (suc depth) x c v h =
      walked-unpin u Keeps x _ (gone-taken (apart_within depth) (λ y e w k. gone-apart depth y e w k) x (pin c x) v (walked-pin u Keeps x c h))

-- how often an object is among entries

unfoldable pub times : ℕ → List (List ℕ × ℕ) → ℕ
times d es = sum_by (λ (x : List ℕ × ℕ). cond {A = ℕ} (names_it d x) 1 0) es

pub times-within : (d : ℕ) {xs ys : List (List ℕ × ℕ)} → Within xs ys → times d xs ≤ times d ys
unfolding times
times-within d (nothing ys) = omega arith
times-within d (same {xs} {ys} x w) =
    omega (
      arith,
      times-within d w,
      sum_by-cons (λ (y : List ℕ × ℕ). cond {A = ℕ} (names_it d y) 1 0) x xs,
      sum_by-cons
          (λ (y : List ℕ × ℕ). cond {A = ℕ} (names_it d y) 1 0) x ys,
    )
times-within d (more {xs} {ys} y w) =
    omega (arith, times-within d w, sum_by-cons (λ (x : List ℕ × ℕ). cond {A = ℕ} (names_it d x) 1 0) y ys)

times-listed : (d : ℕ) (es : List (List ℕ × ℕ)) → listed d es ≡ true → 1 ≤ times d es
unfolding times
times-listed d [] e = clash-back e
times-listed d (x ∷ es) e = go (names_it d x) refl (times-listed d es)
  where
    go : (t : Bool) → names_it d x ≡ t → (listed d es ≡ true → 1 ≤ times d es) → 1 ≤ times d (x ∷ es)
    go true q rest =
        let one : cond {A = ℕ} (names_it d x) 1 0 ≡ 1 = rw q refl in
        omega (arith, one, sum_by-cons (λ (y : List ℕ × ℕ). cond {A = ℕ} (names_it d y) 1 0) x es)
    go false q rest = omega (arith, rest (rw q at e), sum_by-cons (λ (y : List ℕ × ℕ). cond {A = ℕ} (names_it d y) 1 0) x es)

pub times-children : (d : ℕ) (slots : List (List ℕ × Slot)) → times d (filter_map child_entry slots) ≡ sum_by (one_child d) slots
unfolding times
times-children d [] = refl
times-children d ((name, plain v) ∷ slots) = omega (arith, times-children d slots, sum_by-cons (one_child d) (name, plain v) slots)
times-children d ((name, strong t target) ∷ slots) = omega (arith, times-children d slots, sum_by-cons (one_child d) (name, strong t target) slots)
times-children d ((name, weak t target) ∷ slots) = omega (arith, times-children d slots, sum_by-cons (one_child d) (name, weak t target) slots)
times-children d ((name, alias m property) ∷ slots) = omega (arith, times-children d slots, sum_by-cons (one_child d) (name, alias m property) slots)
times-children d ((name, child m) ∷ slots) =
    omega (
      arith,
      times-children d slots,
      sum_by-cons (one_child d) (name, child m) slots,
      sum_by-cons (λ (x : List ℕ × ℕ). cond {A = ℕ} (names_it d x) 1 0)
          (name, m) (filter_map child_entry slots),
    )

-- a child slot of it that is let go is one less
times-dropped : (d i : ℕ) (slots : List (List ℕ × Slot)) (s : List ℕ × Slot) → slice_get slots i ≡ Some s → is_child_slot d s ≡ true
    → suc (times d (filter_map child_entry (without_hold i slots))) ≤ times d (filter_map child_entry slots)
unfolding times
times-dropped d i [] s e k = absurd (let bad : None ≡ Some s = e in cc)
times-dropped d zero (x ∷ slots) s e k = go x (subst (λ (y : List ℕ × Slot). is_child_slot d y ≡ true) (sym (same_Some x s e)) k)
  where
    go : (y : List ℕ × Slot) → is_child_slot d y ≡ true
        → suc (times d (filter_map child_entry (without_hold zero (y ∷ slots)))) ≤ times d (filter_map child_entry (y ∷ slots))
    go (name, plain v) q = clash-back q
    go (name, strong t target) q = clash-back q
    go (name, weak t target) q = clash-back q
    go (name, alias m property) q = clash-back q
    go (name, child m) q =
        let one : cond {A = ℕ} (names_it d (name, m)) 1 0 ≡ 1 = rw q refl in
        omega (arith, one, sum_by-cons (λ (y : List ℕ × ℕ). cond {A = ℕ} (names_it d y) 1 0) (name, m) (filter_map child_entry slots))
times-dropped d (suc i) (x ∷ slots) s e k = go (child_entry x) refl (times-dropped d i slots s e k)
  where
    go : (o : Option (List ℕ × ℕ)) → child_entry x ≡ o
        → suc (times d (filter_map child_entry (without_hold i slots))) ≤ times d (filter_map child_entry slots)
        → suc (times d (filter_map child_entry (x ∷ without_hold i slots))) ≤ times d (filter_map child_entry (x ∷ slots))
    go None q rest = rw q rest
    go (Some y) q rest =
        rw q
        (omega (
          arith,
          rest,
          sum_by-cons (λ (z : List ℕ × ℕ). cond {A = ℕ} (names_it d z) 1 0) y (filter_map child_entry (without_hold i slots)),
          sum_by-cons
              (λ (z : List ℕ × ℕ). cond {A = ℕ} (names_it d z) 1 0) y (filter_map child_entry slots),
        ))

-- a child at most once is none after its slot
pub unlisted-where : (d n : ℕ) (c : Board) → times d (child_entries c n) ≤ 1 → listed d (child_entries (let_go_where (is_child_slot d) n c) n) ≡ false
unfolding let_go drop_slot
unlisted-where d n c few = go (index_from (is_child_slot d) 0 (slots_at c n)) refl
  where
    go : (o : Option ℕ) → index_from (is_child_slot d) 0 (slots_at c n) ≡ o → listed d (child_entries (let_go_where (is_child_slot d) n c) n) ≡ false
    go None e = rw (let_go_where, e) (none-listed d 0 (slots_at c n) e)
    go (Some i) e = rw (let_go_where, e) (at_record (record_of c n) refl)
      where
        f : Found (is_child_slot d) (slots_at c n) i
        f = found-at (is_child_slot d) i (slots_at c n) e

        at_record : (o : Option Record) → record_of c n ≡ o → listed d (child_entries (let_go c n i) n) ≡ false
        at_record None q = absurd (let bad : None ≡ Some i = rw q at e in cc)
        at_record (Some r) q = rw (let_go, slot) (dropped (referent f.entry.1))
          where
            was : slots_at c n ≡ r.slots
            was = ap (λ (o : Option Record). option_map_or (λ (y : Record). y.slots) o []) q

            slot : slot_at c n i ≡ Some f.entry.1
            slot = ap (option_map (λ (x : List ℕ × Slot). x.1)) f.at

            here : slice_get r.slots i ≡ Some f.entry
            here = sym (ap (λ (ss : List (List ℕ × Slot)). slice_get ss i) was) ∙ f.at

            less : suc (times d (filter_map child_entry (without_hold i r.slots))) ≤ times d (filter_map child_entry r.slots)
            less = times-dropped d i r.slots f.entry here f.passes

            most : times d (filter_map child_entry r.slots) ≤ 1
            most = subst (λ (ss : List (List ℕ × Slot)). times d (filter_map child_entry ss) ≤ 1) was few

            gone : listed d (child_entries (edit n (with_dropped i) c) n) ≡ false
            gone =
                ap (λ (ss : List (List ℕ × Slot)). listed d (filter_map child_entry ss)) (edited-slots c n (with_dropped i) (λ x. refl) r q)
                ∙ decide (listed d (filter_map child_entry (without_hold i r.slots)))
                (λ l. absurd (omega (arith, times-listed d (filter_map child_entry (without_hold i r.slots)) l, less, most))) (λ l. l)

            dropped : (o : Option ℕ) → listed d (child_entries (after finalize (edit n (with_dropped i) c) o) n) ≡ false
            dropped o =
                decide (listed d (child_entries (after finalize (edit n (with_dropped i) c) o) n))
                (λ l. clash (sym (within-any (names_it d) ((steps-after (edit n (with_dropped i) c) o).children n) l) ∙ gone)) (λ l. l)

-- so a device that leaves both containers stands in none
pub left-none : (d : ℕ) (c : Board) → times d (child_entries c PERIPHERAL_BIRTH) ≤ 1 → times d (child_entries c ANONYMOUS_BIRTH) ≤ 1
    → stands (unpin (left_parent d c) d) d ≡ false
left-none d c few also = rw (third, fourth) refl
  where
    one : Board
    one = let_go_where (is_child_slot d) PERIPHERAL_BIRTH c

    two : Board
    two = let_go_where (is_child_slot d) ANONYMOUS_BIRTH one

    first : Walked c (λ x. ⊥) one
    first = walked-where c (λ x. ⊥) (is_child_slot d) PERIPHERAL_BIRTH (λ x. x) c (walked-none c (λ x. ⊥))

    after-one : Walked one (λ x. ⊥) (unpin two d)
    after-one =
        walked-unpin one (λ x. ⊥) d two
        (walked-where one (λ x. ⊥) (is_child_slot d) ANONYMOUS_BIRTH (λ x. x) one (walked-none one (λ x. ⊥)))

    after-two : Walked two (λ x. ⊥) (unpin two d)
    after-two = walked-unpin two (λ x. ⊥) d two (walked-none two (λ x. ⊥))

    none-after : (w z : Board) (n : ℕ) → Within (child_entries z n) (child_entries w n) → listed d (child_entries w n) ≡ false
        → listed d (child_entries z n) ≡ false
    none-after w z n less e = decide (listed d (child_entries z n)) (λ l. clash (sym (within-any (names_it d) less l) ∙ e)) (λ l. l)

    third : listed d (child_entries (unpin two d) PERIPHERAL_BIRTH) ≡ false
    third = none-after one (unpin two d) PERIPHERAL_BIRTH (after-one.children PERIPHERAL_BIRTH) (unlisted-where d PERIPHERAL_BIRTH c few)

    fewer : times d (child_entries one ANONYMOUS_BIRTH) ≤ 1
    fewer = omega (arith, times-within d (first.children ANONYMOUS_BIRTH), also)

    fourth : listed d (child_entries (unpin two d) ANONYMOUS_BIRTH) ≡ false
    fourth = none-after two (unpin two d) ANONYMOUS_BIRTH (after-two.children ANONYMOUS_BIRTH) (unlisted-where d ANONYMOUS_BIRTH one fewer)
