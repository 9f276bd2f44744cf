-- A device that is detached, with all that is below it, leaves the others shaped as their types say.
use Rattle.std.proofs.Common.{rules, ◌≡◌, ◌⊎◌, inl, inr, refl, ap, sym, subst, ◌∙◌, ℕ, zero, suc, Bool, true, false, not, ◌==◌, eqb, List, [], ◌∷◌, filter_map, find, length, remove, slice_get, codes, Option, Some, None, option_map, option_and_then}
use Rattle.qo_model.proofs.Common.{AllByRecursion, option_map_or, bytes_eq, ANONYMOUS_BIRTH, MACHINE_BIRTH, PERIPHERAL_BIRTH, ROOT_BIRTH, Act, Unrealize, TypeId, Container, Machine, Device, Bus, Board, Record, Slot, plain, child, strong, weak, alias, kind_of, record_of, slot_at, slots_at, cut, with_changed, with_cut, with_val, acted, device_period, with_act_on, bus_in, bus_of, buses_of, clock_name, clock_of, kids_of, strong_in, index_from, opening_board, births, is_child, is_of, property_named, drop_slot, edit, forgotten, forgotten_in, let_go, pin, with_dropped, without_hold, property_name, is_a, slots_of, types, apart_within, detach, disconnected, drained, is_bus_child, is_child_slot, is_named, left_bus, left_parent, let_go_where, lost_bus, lost_buses, names_kid, take_slot, take_where, taken_by, unrealize, unrealized_bus, unrealized_device, unseen, unseen_named}
use Rattle.qo_model.specs.declared.properties.Property.{Property}
use Rattle.qo_model.specs.declared.properties.PropertyRole.{PropertyRole}
use Rattle.std.proofs.lemmas.Bool.{and_parts, eq-eqb, eqb-true, not-true}
use Rattle.std.proofs.lemmas.Option.{same_Some}
use Rattle.std.proofs.lemmas.Slice.Eq.{bytes_eq-Decides}
use Rattle.qo_values.specs.declared.properties.Val.TheVariants as val
use Rattle.qo_values.proofs.EachLemmas.{each}
use Rattle.qo_model.specs.Unplug.{first_of}
use Rattle.qo_model.specs.declared.properties.PropertyRole.TheVariants as row
use Rattle.qo_model.proofs.FirstSlotLemmas.{slots_in, Found, found-at}
use Rattle.qo_model.proofs.StepLemmas.{found-birth}
use Rattle.qo_sound.proofs.FirmBoardLemmas.{FitsKind, left-linked, Linked, unseen-linked, val-linked}
use Rattle.qo_sound.proofs.RecordLemmas.{all-both, all-map}
use Rattle.qo_sound.proofs.SlotLemmas.{all-changed, all-dropped}
use Rattle.qo_sound_shapes.specs.SoundShape.{is_child_role, HasRole, IsFurther, IsKidLink, IsOfProperty, may_miss}
use Rattle.qo_sound_shapes.proofs.BoardLemmas.{all-after, all-becomes, all-edit, all-let_go, all-pin, all-unpin, AllOf}
use Rattle.qo_sound_shapes.proofs.CommandLemmas.{child-row, container-kind, good-emptied}
use Rattle.qo_sound_shapes.proofs.ShapeLemmas.{Good, good-changed, good-forgotten, good-let_go, good-slots, is_first, mild-unseen, rows-unseen}
use Rattle.qo_sound_shapes.proofs.QuietChangeLemmas.{good-act, slot-of, Takes, all-set, KeepsSet}
use Rattle.qo_sound_shapes.proofs.RowLemmas.{bus-kid, bus-plain, has-all, has-removed, is_plain_role, IsRowOf, own-rows, plain-strong, Slots}
use Rattle.qo_sound_phases.proofs.UnrealizingLemmas.{unrealize-walk}

first-on : (P : ℕ → Type 0) (ns : List ℕ) → AllByRecursion P ns → (d : ℕ) → first_of ns ≡ Some d → P d
first-on P [] h d e = cc
first-on P (n ∷ ns) h d e = subst P (same_Some n d e) h.0

-- an object whose links are to objects of their types, where `kinds` says the types before
pub record Kinded (kinds : ℕ → Option TypeId) (r : Record) : Type 0 where
  pub good : Good r
  pub linked : AllByRecursion (λ (s : List ℕ × Slot). Linked kinds s.1) r.slots
  pub kind : kinds r.birth ≡ Some r.kind

abbrev pub IsKind : (ℕ → Option TypeId) → List ℕ → ℕ → Type 0
IsKind kinds name n = option_map_or (λ (k : TypeId). is_a k name) (kinds n) false ≡ true

-- values that are set
pub takes-realized : (t : TypeId) (v : Bool) → Takes t (codes "realized") (val.Bool v)
unfolding types
takes-realized = each (λ (t : TypeId). (v : Bool) → Takes t (codes "realized") (val.Bool v)) (search rules)

takes-stopped : (t : TypeId) → Takes t (codes "period") (val.Uint 0)
unfolding types
takes-stopped = each (λ (t : TypeId). Takes t (codes "period") (val.Uint 0)) (search rules)

-- devices and buses

pub device-calm : (t : TypeId) → is_a t (codes "device") ≡ true → (s : List ℕ × Slot) → IsFurther t s → ⊥
unfolding types
device-calm = each (λ (t : TypeId). is_a t (codes "device") ≡ true → (s : List ℕ × Slot) → IsFurther t s → ⊥) (search rules)

abbrev SaysBus : TypeId → Type 0
SaysBus t = is_a t (codes "device") ≡ true → option_map (λ (x : Property). x.role) (property_named t (codes "parent_bus")) ≡ Some (row.Link Bus true)

device-bus : (t : TypeId) → is_a t (codes "device") ≡ true → (p : Property) → property_named t (codes "parent_bus") ≡ Some p → p.role ≡ row.Link Bus true
unfolding types
device-bus t e p q =
    sym (same_Some (row.Link Bus true) p.role (sym (each SaysBus (search rules) t e) ∙ ap (option_map (λ (x : Property). x.role)) q))

-- neither is the root or the machine
first-kind : (r : Record) → Good r → is_first r.birth ≡ true → (r.kind ≡ Container) ⊎ (r.kind ≡ Machine)
unfolding opening_board types
first-kind r h e = go (eqb r.birth ROOT_BIRTH) refl (eqb r.birth MACHINE_BIRTH) refl
  where
    go : (t : Bool) → eqb r.birth ROOT_BIRTH ≡ t → (u : Bool) → eqb r.birth MACHINE_BIRTH ≡ u → (r.kind ≡ Container) ⊎ (r.kind ≡ Machine)
    go true p u q = inl (h.kind Container (ap (kind_of opening_board) (eqb-true r.birth ROOT_BIRTH p)))
    go false p true q = inr (h.kind Machine (ap (kind_of opening_board) (eqb-true r.birth MACHINE_BIRTH q)))
    go false p false q = absurd (let clash : false ≡ true = rw (p, q) at e in cc)

apart-by : (name : List ℕ) → is_a Container name ≡ false → is_a Machine name ≡ false → (r : Record) → Good r → is_a r.kind name ≡ true
    → is_first r.birth ≡ false
apart-by name container machine r h e = go (is_first r.birth) refl
  where
    by : (r.kind ≡ Container) ⊎ (r.kind ≡ Machine) → ⊥
    by (inl is) = absurd (let clash : true ≡ false = sym e ∙ ap (λ (t : TypeId). is_a t name) is ∙ container in cc)
    by (inr is) = absurd (let clash : true ≡ false = sym e ∙ ap (λ (t : TypeId). is_a t name) is ∙ machine in cc)

    go : (t : Bool) → is_first r.birth ≡ t → is_first r.birth ≡ false
    go true p = absurd (by (first-kind r h p))
    go false p = p

device-apart : (r : Record) → Good r → is_a r.kind (codes "device") ≡ true → is_first r.birth ≡ false
unfolding types
device-apart r h e = apart-by (codes "device") refl refl r h e

pub bus-apart : (r : Record) → Good r → is_a r.kind (codes "bus") ≡ true → is_first r.birth ≡ false
unfolding types
bus-apart r h e = apart-by (codes "bus") refl refl r h e

pub container-three : kind_of opening_board PERIPHERAL_BIRTH ≡ Some Container
unfolding opening_board types
container-three = refl

pub container-four : kind_of opening_board ANONYMOUS_BIRTH ≡ Some Container
unfolding opening_board types
container-four = refl

module _ (kinds : ℕ → Option TypeId) where
  -- links of slots that change

  forgotten-linked : (n : ℕ) (s : Slot) → Linked kinds s → Linked kinds (forgotten_in n s)
  forgotten-linked n (plain v) h = h
  forgotten-linked n (child m) h = h
  forgotten-linked n (strong t target) h = h
  forgotten-linked n (weak t None) h = h
  forgotten-linked n (weak t (Some m)) h = go (m == n) refl
    where
      go : (u : Bool) → (m == n) ≡ u → Linked kinds (forgotten_in n (weak t (Some m)))
      go true p = rw p tt
      go false p = rw p h
  forgotten-linked n (alias m property) h = h

  keeps-forgotten : (n : ℕ) (r : Record) → Kinded kinds r → Kinded kinds (forgotten n r)
  keeps-forgotten n r h =
      record {
        good = good-forgotten n r h.good;
        linked =
            all-map (λ (s : List ℕ × Slot). Linked kinds s.1) (λ (s : List ℕ × Slot). Linked kinds s.1)
            (λ (s : List ℕ × Slot). (s.0, forgotten_in n s.1)) (λ s k. forgotten-linked n s.1 k) r.slots h.linked;
        kind = h.kind;
      }

  keeps-changed : (g : Slot → Slot) → ((s : Slot) → Linked kinds s → Linked kinds (g s)) → (i : ℕ) (r : Record) → Good (with_changed g i r) → Kinded kinds r
      → Kinded kinds (with_changed g i r)
  keeps-changed g links i r good h =
      record { good = good; linked = all-changed (Linked kinds) g i r.slots (λ s at k. links s.1 k) h.linked; kind = h.kind }

  keeps-dropped : (i : ℕ) (r : Record) → Good (with_dropped i r) → Kinded kinds r → Kinded kinds (with_dropped i r)
  keeps-dropped i r good h = record { good = good; linked = all-dropped (Linked kinds) (left-linked kinds) i r.slots h.linked; kind = h.kind }

  -- an object of a kind
  of-kind : (name : List ℕ) (n : ℕ) → IsKind kinds name n → (r : Record) → r.birth ≡ n → Kinded kinds r → is_a r.kind name ≡ true
  of-kind name n is r own h =
      let its : kinds n ≡ Some r.kind = ap kinds (sym own) ∙ h.kind in
      sym (ap (λ (o : Option TypeId). option_map_or (λ (k : TypeId). is_a k name) o false) its) ∙ is

  abbrev H : Board → Type 0
  H c = AllOf (Kinded kinds) c

  -- unrealizing

  keeps-set : KeepsSet H
  keeps-set = all-set (Kinded kinds) (λ r k. k.good) (λ v i r good k. keeps-changed (with_val v) (val-linked kinds v) i r good k)

  keeps-unseen : (n : ℕ) (name : List ℕ) (c : Board) → H c → H (unseen_named n name c)
  keeps-unseen n name c h = go (index_from (is_named name) 0 (slots_at c n)) refl
    where
      go : (o : Option ℕ) → index_from (is_named name) 0 (slots_at c n) ≡ o → H (unseen_named n name c)
      go None e = rw (unseen_named, e) h
      go (Some i) e =
          rw (unseen_named, e)
          (all-edit (Kinded kinds) n (with_changed unseen i) (λ r. refl) c
          (λ r q own k.
          keeps-changed unseen (unseen-linked kinds) i r (good-changed unseen mild-unseen i r (λ p s row at is. rows-unseen p.role s.1 is.fits) k.good) k) h)

  keeps-disconnected : (o : Option ℕ) (c : Board) → H c → H (disconnected o c)
  keeps-disconnected None c h = h
  keeps-disconnected (Some n) c h = keeps-set n (codes "period") (val.Uint 0) takes-stopped _ (keeps-unseen n (codes "source") c h)

  keeps-acted : (act : Act) (n period : ℕ) (c : Board) → H c → H (acted act n period c)
  unfolding acted
  keeps-acted act n period c h =
      all-edit (Kinded kinds) n (with_act_on act c.now period) (λ r. refl) c
      (λ r q own k. record { good = good-act act c.now period r k.good; linked = k.linked; kind = k.kind }) h

  keeps-device : (d : ℕ) (c : Board) → H c → H (unrealized_device d c)
  keeps-device d c h =
      keeps-set d (codes "realized") (val.Bool false) (λ t. takes-realized t false) _
      (keeps-disconnected (clock_of c d) _ (keeps-acted Unrealize d (device_period c d) c h))

  keeps-bus : (m : ℕ) (c : Board) → H c → H (unrealized_bus m c)
  keeps-bus m c h = keeps-acted Unrealize m 0 c h

  keeps-unrealize : (c : Board) (d : ℕ) → H c → H (unrealize c d)
  keeps-unrealize c d = unrealize-walk c d H (λ x e u. keeps-device x e) (λ x m e u i. keeps-bus m e)

  -- taking out

  keeps-let_go : (n i : ℕ) (c : Board) → ((r : Record) → record_of c n ≡ Some r → r.birth ≡ n → Kinded kinds r → Good (with_dropped i r)) → H c
      → H (let_go c n i)
  keeps-let_go n i c drops h = all-let_go (Kinded kinds) keeps-forgotten n i c (λ r q own k. keeps-dropped i r (drops r q own k) k) h

  -- a slot of a device under another name than its clock's
  keeps-apart : (n i : ℕ) (c : Board) → IsKind kinds (codes "device") n → (entry : List ℕ × Slot) → slice_get (slots_at c n) i ≡ Some entry
      → bytes_eq entry.0 clock_name ≡ false → H c → H (let_go c n i)
  keeps-apart n i c device entry at apart h =
      keeps-let_go n i c
      (λ r q own k.
      good-let_go i r (device-apart r k.good (of-kind (codes "device") n device r own k))
      (λ p s m row there is fits. may p s m (same_Some entry s (sym (slot-of c n i r entry q at) ∙ there)) is fits)
      (λ name to target link. device-calm r.kind (of-kind (codes "device") n device r own k) (name, strong to target) link) k.good) h
    where
      may : (p : Property) (s : List ℕ × Slot) (m : ℕ) → entry ≡ s → s.1 ≡ child m → IsOfProperty p s → may_miss p ≡ true
      may p s m same is fits =
          let kin : is_child_role p.role ≡ true = child-row p.role m (subst (HasRole p.role) is fits.fits) in
          let named : bytes_eq (property_name p.name) clock_name ≡ false =
          sym (ap (λ (name : List ℕ). bytes_eq name clock_name) (ap (λ (x : List ℕ × Slot). x.0) same ∙ fits.name)) ∙ apart in
          rw (kin, named) refl

  keeps-bus_slot : (m d : ℕ) (c : Board) → IsKind kinds (codes "device") d → H c → H (let_go_where (is_bus_child m) d c)
  keeps-bus_slot m d c device h = go (index_from (is_bus_child m) 0 (slots_at c d)) refl
    where
      go : (o : Option ℕ) → index_from (is_bus_child m) 0 (slots_at c d) ≡ o → H (let_go_where (is_bus_child m) d c)
      go None e = rw (let_go_where, e) h
      go (Some i) e =
          let f : Found (is_bus_child m) (slots_at c d) i = found-at (is_bus_child m) i (slots_at c d) e in
          rw (let_go_where, e)
          (keeps-apart d i c device f.entry f.at
          (not-true (bytes_eq f.entry.0 clock_name) (and_parts (is_child m f.entry.1) (not (bytes_eq f.entry.0 clock_name)) f.passes).1) h)

  keeps-link : (d : ℕ) (c : Board) → IsKind kinds (codes "device") d → H c → H (let_go_where (is_named (codes "parent_bus")) d c)
  keeps-link d c device h = go (index_from (is_named (codes "parent_bus")) 0 (slots_at c d)) refl
    where
      go : (o : Option ℕ) → index_from (is_named (codes "parent_bus")) 0 (slots_at c d) ≡ o → H (let_go_where (is_named (codes "parent_bus")) d c)
      go None e = rw (let_go_where, e) h
      go (Some i) e =
          let f : Found (is_named (codes "parent_bus")) (slots_at c d) i = found-at (is_named (codes "parent_bus")) i (slots_at c d) e in
          rw (let_go_where, e)
          (keeps-apart d i c device f.entry f.at
          (ap (λ (name : List ℕ). bytes_eq name clock_name) ((bytes_eq-Decides f.entry.0 (codes "parent_bus")).0 f.passes)) h)

  keeps-child : (d n : ℕ) → is_first n ≡ false → kind_of opening_board n ≡ Some Container → (c : Board) → H c → H (let_go_where (is_child_slot d) n c)
  keeps-child d n apart container c h = go (index_from (is_child_slot d) 0 (slots_at c n)) refl
    where
      go : (o : Option ℕ) → index_from (is_child_slot d) 0 (slots_at c n) ≡ o → H (let_go_where (is_child_slot d) n c)
      go None e = rw (let_go_where, e) h
      go (Some i) e =
          rw (let_go_where, e)
          (keeps-let_go n i c
          (λ r q own k. good-emptied i r (ap is_first own ∙ apart) (container-kind n container r own k.good) k.good) h)

  keeps-left_parent : (d : ℕ) (c : Board) → H c → H (left_parent d c)
  keeps-left_parent d c h =
      keeps-child d ANONYMOUS_BIRTH refl container-four (let_go_where (is_child_slot d) PERIPHERAL_BIRTH c)
      (keeps-child d PERIPHERAL_BIRTH refl container-three c h)

  -- a link of a bus to a kid is let go and removed

  cut-kept : (i : ℕ) (xs : Slots) (own : List ℕ) (t : TypeId) (target : Option ℕ) → slice_get xs i ≡ Some (own, strong t target)
      → remove (without_hold i xs) i ≡ remove xs i
  cut-kept i [] own t target e = cc
  cut-kept zero (x ∷ xs) own t target e =
      subst (λ (y : List ℕ × Slot). remove (without_hold zero (y ∷ xs)) zero ≡ remove (y ∷ xs) zero) (sym (same_Some x (own, strong t target) e)) refl
  cut-kept (suc i) (x ∷ xs) own t target e = ap (λ (ys : Slots). x ∷ ys) (cut-kept i xs own t target e)

  removed-linked : (i : ℕ) (xs : Slots) → AllByRecursion (λ (s : List ℕ × Slot). Linked kinds s.1) xs
      → AllByRecursion (λ (s : List ℕ × Slot). Linked kinds s.1) (remove xs i)
  removed-linked zero [] h = tt
  removed-linked (suc i) [] h = tt
  removed-linked zero (x ∷ xs) h = h.1
  removed-linked (suc i) (x ∷ xs) h = (h.0, removed-linked i xs h.1)

  keeps-cut : (i : ℕ) (r : Record) (own : List ℕ) (t : TypeId) (target : Option ℕ) → is_a r.kind (codes "bus") ≡ true
      → slice_get r.slots i ≡ Some (own, strong t target) → Kinded kinds r → Kinded kinds (with_cut i r)
  keeps-cut i r own t target bus at h =
      record {
        good =
            good-slots r (remove r.slots i) h.good
            (has-removed (λ (p : Property). is_plain_role p.role ≡ true) r.kind i (slots_of r.kind) (bus-plain r.kind bus) h.good.shaped.slots
            (λ p s plains there is.
            plain-strong p.role t target plains
            (subst (λ (x : List ℕ × Slot). HasRole p.role x.1) (same_Some s (own, strong t target) (sym there ∙ at)) is.fits)))
            (λ e. absurd (let clash : true ≡ false = sym e ∙ bus-apart r h.good bus in cc));
        linked = removed-linked i r.slots h.linked;
        kind = h.kind;
      }

  -- the bus between the two: it is as it should be once the link is removed
  record Cutting (n i : ℕ) (r : Record) : Type 0 where
    own : r.birth ≡ n → Kinded kinds (with_cut i r)
    other : (r.birth == n) ≡ false → Kinded kinds r

  keeps-taken : (n i : ℕ) (own : List ℕ) (t : TypeId) (target : Option ℕ) (c : Board) → IsKind kinds (codes "bus") n
      → slice_get (slots_at c n) i ≡ Some (own, strong t target) → H c → H (take_slot c n i)
  unfolding cut drop_slot
  keeps-taken n i own t target c bus at h =
      let there : slot_at c n i ≡ Some (strong t target) = ap (option_map (λ (s : List ℕ × Slot). s.1)) at in
      rw (take_slot, there) (all-after (Kinded kinds) keeps-forgotten target _ both)
    where
      clashes : (r : Record) → r.birth ≡ n → (r.birth == n) ≡ false → ⊥
      clashes r its apart = absurd (let clash : true ≡ false = sym (eq-eqb r.birth n its) ∙ apart in cc)

      cut-now : (r : Record) → record_of c n ≡ Some r → r.birth ≡ n → Kinded kinds r → Kinded kinds (with_cut i (with_dropped i r))
      cut-now r q its k =
          let here : slice_get r.slots i ≡ Some (own, strong t target) = slot-of c n i r (own, strong t target) q at in
          subst (λ (xs : Slots). Kinded kinds (record r { slots = xs })) (sym (cut-kept i r.slots own t target here))
          (keeps-cut i r own t target (of-kind (codes "bus") n bus r its k) here k)

      first : AllOf (Cutting n i) (edit n (with_dropped i) c)
      first =
          all-becomes (Kinded kinds) (Cutting n i) n (with_dropped i) (λ r. refl) c
          (λ r q its k. record { own = λ e. cut-now r q its k; other = λ apart. absurd (clashes r its apart) })
          (λ r apart k. record { own = λ its. absurd (clashes r its apart); other = λ e. k }) h

      both : H (edit n (with_cut i) (edit n (with_dropped i) c))
      both =
          all-becomes (Cutting n i) (Kinded kinds) n (with_cut i) (λ r. refl) (edit n (with_dropped i) c) (λ r q its k. k.own its)
          (λ r apart k. k.other apart) first

  keeps-take : (d n : ℕ) (c : Board) → IsKind kinds (codes "bus") n → H c → H (take_where (names_kid d) n c)
  keeps-take d n c bus h = go (index_from (names_kid d) 0 (slots_at c n)) refl
    where
      of : (i : ℕ) (x : List ℕ × Slot) → slice_get (slots_at c n) i ≡ Some x → names_kid d x ≡ true → H (take_slot c n i)
      of i (own, plain v) at passes = absurd (let clash : false ≡ true = passes in cc)
      of i (own, child m) at passes = absurd (let clash : false ≡ true = passes in cc)
      of i (own, strong t target) at passes = keeps-taken n i own t target c bus at h
      of i (own, weak t target) at passes = absurd (let clash : false ≡ true = passes in cc)
      of i (own, alias m property) at passes = absurd (let clash : false ≡ true = passes in cc)

      go : (o : Option ℕ) → index_from (names_kid d) 0 (slots_at c n) ≡ o → H (take_where (names_kid d) n c)
      go None e = rw (take_where, e) h
      go (Some i) e =
          let f : Found (names_kid d) (slots_at c n) i = found-at (names_kid d) i (slots_at c n) e in
          rw (take_where, e) (of i f.entry f.at f.passes)

  -- the bus that a device is on

  strong-found : (P : List ℕ × Slot → Type 0) (name : List ℕ) (xs : Slots) → AllByRecursion P xs → (m : ℕ)
      → option_and_then strong_in (option_map (λ (s : List ℕ × Slot). s.1) (find (λ s. bytes_eq s.0 name) xs)) ≡ Some m
      → (own : List ℕ) × ((t : TypeId) × ((bytes_eq own name ≡ true) × P (own, strong t (Some m))))
  strong-found P name [] h m e = cc
  strong-found P name (x ∷ xs) h m e = go (bytes_eq x.0 name) refl (strong-found P name xs h.1 m)
    where
      here : (y : List ℕ × Slot) → bytes_eq y.0 name ≡ true → P y → strong_in y.1 ≡ Some m
          → (own : List ℕ) × ((t : TypeId) × ((bytes_eq own name ≡ true) × P (own, strong t (Some m))))
      here (own, plain v) b p q = cc
      here (own, child k) b p q = cc
      here (own, strong t target) b p q = (own, (t, (b, subst (λ (o : Option ℕ). P (own, strong t o)) q p)))
      here (own, weak t target) b p q = cc
      here (own, alias k property) b p q = cc

      go : (u : Bool) → bytes_eq x.0 name ≡ u
          → (option_and_then strong_in (option_map (λ (s : List ℕ × Slot). s.1) (find (λ s. bytes_eq s.0 name) xs)) ≡ Some m
          → (own : List ℕ) × ((t : TypeId) × ((bytes_eq own name ≡ true) × P (own, strong t (Some m)))))
          → (own : List ℕ) × ((t : TypeId) × ((bytes_eq own name ≡ true) × P (own, strong t (Some m))))
      go true p rest = here x p h.0 (rw p at e)
      go false p rest = rest (rw p at e)

  -- a strong link of this name is to a bus
  abbrev LinksBus : List ℕ × Slot → Type 0
  LinksBus s = bytes_eq s.0 (codes "parent_bus") ≡ true → (t : TypeId) (target : Option ℕ) → s.1 ≡ strong t target → t ≡ Bus

  links-bus : (r : Record) → is_a r.kind (codes "device") ≡ true → Kinded kinds r → AllByRecursion LinksBus r.slots
  links-bus r device h =
      has-all (IsRowOf r.kind) LinksBus r.kind of (λ s k. absurd (device-calm r.kind device s k)) (slots_of r.kind) (own-rows r.kind) h.good.shaped.slots
    where
      of : (p : Property) (s : List ℕ × Slot) → IsRowOf r.kind p → IsOfProperty p s → LinksBus s
      of p s own is named t target e =
          let its : property_name p.name ≡ codes "parent_bus" = sym is.name ∙ (bytes_eq-Decides s.0 (codes "parent_bus")).0 named in
          let row : p.role ≡ row.Link Bus true = device-bus r.kind device p (ap (property_named r.kind) (sym its) ∙ own) in
          subst (λ (k : PropertyRole). HasRole k (strong t target)) row (subst (HasRole p.role) e is.fits)

  on-bus : (c : Board) (d m : ℕ) → H c → IsKind kinds (codes "device") d → bus_of c d ≡ Some m → IsKind kinds (codes "bus") m
  on-bus c d m h device e = go (record_of c d) refl
    where
      go : (o : Option Record) → record_of c d ≡ o → IsKind kinds (codes "bus") m
      go None q = absurd (let clash : None ≡ Some m = rw q at e in cc)
      go (Some r) q =
          let k : Kinded kinds r = h d r q in
          let found : option_and_then strong_in (option_map (λ (s : List ℕ × Slot). s.1) (find (λ s. bytes_eq s.0 (codes "parent_bus")) r.slots)) ≡ Some m =
          sym (ap (λ (o : Option Record). option_and_then strong_in
          (option_map (λ (s : List ℕ × Slot). s.1) (find (λ s. bytes_eq s.0 (codes "parent_bus")) (slots_in o)))) q)
          ∙ e in
          let (own, rest) =
          strong-found (λ (s : List ℕ × Slot). LinksBus s × Linked kinds s.1) (codes "parent_bus") r.slots
          (all-both LinksBus (λ (s : List ℕ × Slot). Linked kinds s.1) r.slots
          (links-bus r (of-kind (codes "device") d device r (found-birth d c.records r q) k) k) k.linked) m found in
          let (t, at) = rest in
          let is : t ≡ Bus = at.1.0 at.0 t (Some m) refl in
          subst (λ (x : TypeId). FitsKind kinds x (Some m)) is at.1.1

  keeps-left_bus : (d : ℕ) (c : Board) → IsKind kinds (codes "device") d → H c → H (left_bus d c)
  keeps-left_bus d c device h = go (bus_of c d) refl
    where
      go : (o : Option ℕ) → bus_of c d ≡ o → H (left_bus d c)
      go None e = rw (left_bus, e) h
      go (Some m) e = rw (left_bus, e) (keeps-link d (take_where (names_kid d) m c) device (keeps-take d m c (on-bus c d m h device e) h))

  -- the kids of a bus, and the buses of a device

  abbrev LinksDevice : List ℕ × Slot → Type 0
  LinksDevice s = (t : TypeId) (target : Option ℕ) → s.1 ≡ strong t target → t ≡ Device

  kid-device : (name : List ℕ) (s : Slot) → IsKidLink name s → LinksDevice (name, s)
  kid-device name (plain v) h t target e = absurd h
  kid-device name (child m) h t target e = absurd h
  kid-device name (strong to None) h t target e = absurd h
  kid-device name (strong to (Some m)) h t target e = sym (ap (λ (x : Slot). elim x as (λ _. TypeId) [ strong k o ↦ k | _ ↦ to ]) e) ∙ h.0
  kid-device name (weak to at) h t target e = absurd h
  kid-device name (alias m property) h t target e = absurd h

  links-device : (r : Record) → is_a r.kind (codes "bus") ≡ true → Kinded kinds r → AllByRecursion LinksDevice r.slots
  links-device r bus h =
      has-all (λ (p : Property). is_plain_role p.role ≡ true) LinksDevice r.kind
      (λ p s plains is t target e. absurd (plain-strong p.role t target plains (subst (HasRole p.role) e is.fits)))
      (λ s k. kid-device s.0 s.1 (bus-kid r.kind bus s k)) (slots_of r.kind) (bus-plain r.kind bus) h.good.shaped.slots

  kids-fit : (xs : Slots) → AllByRecursion (λ (s : List ℕ × Slot). LinksDevice s × Linked kinds s.1) xs
      → AllByRecursion (IsKind kinds (codes "device")) (filter_map (λ (s : List ℕ × Slot). strong_in s.1) xs)
  kids-fit [] h = tt
  kids-fit ((name, plain v) ∷ xs) h = kids-fit xs h.1
  kids-fit ((name, child m) ∷ xs) h = kids-fit xs h.1
  kids-fit ((name, strong t None) ∷ xs) h = kids-fit xs h.1
  kids-fit ((name, strong t (Some m)) ∷ xs) h = (
    subst (λ (x : TypeId). FitsKind kinds x (Some m)) (h.0.0 t (Some m) refl) h.0.1,
    kids-fit xs h.1,
  )
  kids-fit ((name, weak t target) ∷ xs) h = kids-fit xs h.1
  kids-fit ((name, alias m property) ∷ xs) h = kids-fit xs h.1

  kids-devices : (c : Board) (m : ℕ) → H c → IsKind kinds (codes "bus") m → AllByRecursion (IsKind kinds (codes "device")) (kids_of c m)
  kids-devices c m h bus = go (record_of c m) refl
    where
      go : (o : Option Record) → record_of c m ≡ o
          → AllByRecursion (IsKind kinds (codes "device")) (filter_map (λ (s : List ℕ × Slot). strong_in s.1) (slots_in o))
      go None q = tt
      go (Some r) q =
          let k : Kinded kinds r = h m r q in
          kids-fit r.slots
          (all-both LinksDevice (λ (s : List ℕ × Slot). Linked kinds s.1) r.slots
          (links-device r (of-kind (codes "bus") m bus r (found-birth m c.records r q) k) k) k.linked)

  bus-of_in : (c : Board) (xs : Slots) → AllByRecursion (λ m. is_of c (codes "bus") m ≡ true) (filter_map (bus_in c) xs)
  bus-of_in c [] = tt
  bus-of_in c ((name, plain v) ∷ xs) = bus-of_in c xs
  bus-of_in c ((name, strong t target) ∷ xs) = bus-of_in c xs
  bus-of_in c ((name, weak t target) ∷ xs) = bus-of_in c xs
  bus-of_in c ((name, alias m property) ∷ xs) = bus-of_in c xs
  bus-of_in c ((name, child m) ∷ xs) = go (is_of c (codes "bus") m) refl (not (bytes_eq name clock_name)) refl (bus-of_in c xs)
    where
      go : (t : Bool) → is_of c (codes "bus") m ≡ t → (u : Bool) → not (bytes_eq name clock_name) ≡ u
          → AllByRecursion (λ k. is_of c (codes "bus") k ≡ true) (filter_map (bus_in c) xs)
          → AllByRecursion (λ k. is_of c (codes "bus") k ≡ true) (filter_map (bus_in c) ((name, child m) ∷ xs))
      go true p true q rest = rw (p, q) (p, rest)
      go true p false q rest = rw (p, q) rest
      go false p u q rest = rw p rest

  is-bus : (c : Board) (m : ℕ) → H c → is_of c (codes "bus") m ≡ true → IsKind kinds (codes "bus") m
  is-bus c m h e = go (record_of c m) refl
    where
      go : (o : Option Record) → record_of c m ≡ o → IsKind kinds (codes "bus") m
      go None q = absurd (let clash : false ≡ true = rw q at e in cc)
      go (Some r) q =
          let bus : is_a r.kind (codes "bus") ≡ true = rw q at e in
          let its : kinds m ≡ Some r.kind = ap kinds (sym (found-birth m c.records r q)) ∙ (h m r q).kind in
          ap (λ (o : Option TypeId). option_map_or (λ (k : TypeId). is_a k (codes "bus")) o false) its ∙ bus

  first-bus : (c : Board) (d m : ℕ) → H c → first_of (buses_of c d) ≡ Some m → IsKind kinds (codes "bus") m
  first-bus c d m h e = is-bus c m h (first-on (λ k. is_of c (codes "bus") k ≡ true) (buses_of c d) (bus-of_in c (slots_at c d)) m e)

  module _ (f : ℕ → Board → Board) (keeps : (n : ℕ) → IsKind kinds (codes "device") n → (c : Board) → H c → H (f n c)) where
    keeps-drained : (times m : ℕ) → IsKind kinds (codes "bus") m → (c : Board) → H c → H (drained f times m c)
    keeps-drained zero m bus c h = h
    keeps-drained (suc times) m bus c h = go (first_of (kids_of c m)) refl (keeps-drained times m bus)
      where
        go : (o : Option ℕ) → first_of (kids_of c m) ≡ o → ((e : Board) → H e → H (drained f times m e)) → H (drained f (suc times) m c)
        go None e rest = rw (drained, e) h
        go (Some k) e rest =
            rw (drained, e)
            (rest (f k c) (keeps k (first-on (IsKind kinds (codes "device")) (kids_of c m) (kids-devices c m h bus) k e) c h))

    keeps-lost_bus : (d m : ℕ) → IsKind kinds (codes "device") d → IsKind kinds (codes "bus") m → (c : Board) → H c → H (lost_bus f d m c)
    keeps-lost_bus d m device bus c h =
        keeps-bus_slot m d (drained f (length (slots_at c m)) m c) device (keeps-drained (length (slots_at c m)) m bus c h)

    keeps-lost_buses : (times d : ℕ) → IsKind kinds (codes "device") d → (c : Board) → H c → H (lost_buses f times d c)
    keeps-lost_buses zero d device c h = h
    keeps-lost_buses (suc times) d device c h = go (first_of (buses_of c d)) refl (keeps-lost_buses times d device)
      where
        go : (o : Option ℕ) → first_of (buses_of c d) ≡ o → ((e : Board) → H e → H (lost_buses f times d e)) → H (lost_buses f (suc times) d c)
        go None e rest = rw (lost_buses, e) h
        go (Some m) e rest = rw (lost_buses, e) (rest (lost_bus f d m c) (keeps-lost_bus d m device (first-bus c d m h e) c h))

    keeps-taken_by : (d : ℕ) → IsKind kinds (codes "device") d → (c : Board) → H c → H (taken_by f d c)
    keeps-taken_by d device c h =
        keeps-left_parent d (left_bus d (lost_buses f (length (slots_at c d)) d c))
        (keeps-left_bus d (lost_buses f (length (slots_at c d)) d c) device (keeps-lost_buses (length (slots_at c d)) d device c h))

  keeps-within : (depth d : ℕ) → IsKind kinds (codes "device") d → (c : Board) → H c → H (apart_within depth d c)
  unfolding apart_within
  keeps-within zero d device c h = h
  keeps-within (suc depth) d device c h =
      all-unpin (Kinded kinds) keeps-forgotten d (taken_by (apart_within depth) d (pin c d))
      (keeps-taken_by (apart_within depth) (keeps-within depth) d device (pin c d) (all-pin (Kinded kinds) d c h))

  pub keeps-detach : (c : Board) (d : ℕ) → IsKind kinds (codes "device") d → H c → H (detach c d)
  unfolding detach
  keeps-detach c d device h =
      let e : Board = unrealize (pin c d) d in
      all-unpin (Kinded kinds) keeps-forgotten d (taken_by (apart_within (length (births c))) d e)
      (keeps-taken_by (apart_within (length (births c))) (keeps-within (length (births c))) d device e
      (keeps-unrealize (pin c d) d (all-pin (Kinded kinds) d c h)))
