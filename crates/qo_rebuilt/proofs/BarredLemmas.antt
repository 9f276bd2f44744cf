-- A good device is not refused by its type, its id, the number of objects or the notices.
use Rattle.std.proofs.Common.{◌≡◌, refl, ap, sym, subst, ◌∙◌, rules, ℕ, ◌+◌, ◌<◌, ◌≤◌, Bool, true, false, ◌==◌, nat_le, List, [], ◌∷◌, ◌++◌, find, length, map, sum_by, Option, Some, None, option_and_then, codes, arith}
use Rattle.std.proofs.lemmas.Bool.{eq-eqb, le-leb, ne_eqb}
use Rattle.std.proofs.lemmas.List.{map-append}
use Rattle.std.proofs.lemmas.List.Sums.{sum_by-append}
use Rattle.std.proofs.lemmas.Option.{same_Some}
use Rattle.std.proofs.lemmas.Slice.Eq.{bytes_eq-Decides}
use Rattle.qo_model.proofs.Common.{AllByRecursion, if◌then◌else◌, list_any, option_map_or, option_or, bytes_eq, type_name, is_id, PERIPHERAL_BIRTH, LIVE_OBJECTS_MAX, NOTICES_MAX, TypeId, Container, Code, E43, E44, Board, Notice, Record, record_of, container_barred, device_named, has_id, has_slot, id_barred, id_refused, is_of, notice_barred, objects_in, room_barred, type_barred, is_a, types}
use Rattle.qo_values.proofs.EachLemmas.{each}
use Rattle.qo_values.proofs.ListLemmas.{all-imply}
use Rattle.qo_values.specs.declared.births.TheConstants.{OPENING_OBJECTS}
use Rattle.qo_model.specs.SoundGraph.{Rises}
use Rattle.qo_model.specs.Types.{TypeInfo, type_named}
use Rattle.qo_save.specs.Described.{is_describable}
use Rattle.qo_save.specs.Description.{Description, DeviceItem}
use Rattle.qo_sound.proofs.TestLemmas.{clash, decide}
use Rattle.qo_sound_devices.specs.SoundPlaces.{child_entries, id_of, IsPeripheral}
use Rattle.qo_sound_order.specs.SoundOrder.{is_abstract}
use Rattle.qo_good.specs.Good.{AreIds, objects_of}
use Rattle.qo_good.specs.GoodBoards.{IsWhole}
use Rattle.qo_good.proofs.LinkLemmas.{ids-mapped, ids_in}
use Rattle.qo_good.proofs.PartLemmas.{device-entry, device_as, devices-said, peripheral-kind}
use Rattle.qo_good.proofs.PlaceLemmas.{all-entry, firm, OfKind, of-kind}
use Rattle.qo_good.proofs.BusLemmas.{device-no_shelf}
use Rattle.qo_rebuilt.specs.Made.{Tells}
use Rattle.qo_rebuilt.proofs.ObjectLemmas.{distinct-free, slot-free}
use Rattle.qo_rebuilt.proofs.RingLemmas.{Has, has}
use Rattle.qo_rebuilt.proofs.RoomLemmas.{records-said}

-- ---- the type

pub type-unbarred : (t : TypeId) → is_abstract t ≡ false → is_a t (codes "device") ≡ true → type_barred (type_name t) ≡ None
unfolding types
type-unbarred = each (λ (t : TypeId). is_abstract t ≡ false → is_a t (codes "device") ≡ true → type_barred (type_name t) ≡ None) (search rules)

-- ---- records by their births

module _ {X : Type 0} (key : X → ℕ) where
  abbrev IsFoundIn : List X → X → Type 0
  IsFoundIn xs x = find (λ y. key y == key x) xs ≡ Some x

  found-further : (x : X) (xs ys : List X) → AllByRecursion (λ m. key x < m) (map key ys) → AllByRecursion (IsFoundIn xs) ys
      → AllByRecursion (IsFoundIn (x ∷ xs)) ys
  found-further x xs [] above all = tt
  found-further x xs (y ∷ ys) above all =
      let other : (key x == key y) ≡ false = ne_eqb (key x) (key y) (λ is. let low : key x < key y = above.0 in omega arith) in
      (rw other all.0, found-further x xs ys above.1 all.1)

  found-each : (xs : List X) → Rises (map key xs) → AllByRecursion (IsFoundIn xs) xs
  found-each [] up = tt
  found-each (x ∷ xs) up = (rw (eq-eqb (key x) (key x) refl) refl, found-further x xs xs up.0 (found-each xs up.1))

-- none passes
pub none-pass : {X : Type 0} (p : X → Bool) (xs : List X) → AllByRecursion (λ (x : X). p x ≡ false) xs → list_any p xs ≡ false
none-pass p [] h = refl
none-pass p (x ∷ xs) h = rw (h.0, none-pass p xs h.1) refl

pub records-found : (b : Board) → IsWhole b → AllByRecursion (λ (r : Record). record_of b r.birth ≡ Some r) b.records
records-found b h = found-each (λ (r : Record). r.birth) b.records (firm b h.order).rising

-- ---- the id

-- an id that no device in the container has is no object's
module _ (b : Board) (h : IsWhole b) (says : is_describable b ≡ true) (id : List ℕ)
    (free : AllByRecursion (λ (x : List ℕ). bytes_eq x id ≡ false) (ids_in (child_entries b PERIPHERAL_BIRTH))) where
  free-entry : (es : List (List ℕ × ℕ)) → AllByRecursion (λ (x : List ℕ). bytes_eq x id ≡ false) (ids_in es)
      → AllByRecursion (λ (e : List ℕ × ℕ). bytes_eq e.0 id ≡ false) es
  free-entry [] k = tt
  free-entry (e ∷ es) k = (k.0, free-entry es k.1)

  not-its : (n : ℕ) → id_of b n ≡ Some id → ⊥
  not-its n its =
      let of : OfKind b (codes "device") n = of-kind b (codes "device") n (h.order.devices.places.1.ids n id its) in
      let (own, there) = device-entry b h.order says n of.kind of.its (device-no_shelf of.kind of.is) of.is in
      let k : IsPeripheral b (own, n) = all-entry (IsPeripheral b) (own, n) (child_entries b PERIPHERAL_BIRTH) h.order.devices.places.1.peripheral there in
      let same : own ≡ id = same_Some own id (sym k.id ∙ its) in
      let apart : bytes_eq own id ≡ false =
      all-entry (λ (e : List ℕ × ℕ). bytes_eq e.0 id ≡ false) (own, n) (child_entries b PERIPHERAL_BIRTH)
      (free-entry (child_entries b PERIPHERAL_BIRTH) free) there in
      clash (sym ((bytes_eq-Decides own id).1 same) ∙ apart)

  unnamed-id : device_named b id ≡ false
  unnamed-id =
      none-pass (has_id id) b.records
      (all-imply (λ (r : Record). record_of b r.birth ≡ Some r) (λ (r : Record). has_id id r ≡ false) one b.records (records-found b h))
    where
      one : (r : Record) → record_of b r.birth ≡ Some r → has_id id r ≡ false
      one r there = go r.device_id refl
        where
          go : (o : Option (List ℕ)) → r.device_id ≡ o → has_id id r ≡ false
          go None q = ap (λ (o : Option (List ℕ)). option_map_or (λ (its : List ℕ). bytes_eq its id) o false) q
          go (Some own) q =
              decide (bytes_eq own id)
              (λ p.
              let its : id_of b r.birth ≡ Some own = ap (option_and_then (λ (x : Record). x.device_id)) there ∙ q in
              absurd (not-its r.birth (its ∙ ap Some ((bytes_eq-Decides own id).0 p))))
              (λ p. ap (λ (o : Option (List ℕ)). option_map_or (λ (its : List ℕ). bytes_eq its id) o false) q ∙ p)

container-is : is_a Container (codes "container") ≡ true
unfolding types
container-is = refl

pub id-unbarred : (b : Board) (d : Description) (x : DeviceItem) → Tells b d → is_id x.id ≡ true
    → AreIds (map (λ (y : DeviceItem). y.id) (d.devices ++ x ∷ [])) → id_barred b (Some x.id) ≡ None
id-unbarred b d x tells good ids =
    let w : IsWhole b = tells.whole in
    let k : Has b d = has b d tells.says in
    let all : map (λ (y : DeviceItem). y.id) (d.devices ++ x ∷ []) ≡ map (λ (y : DeviceItem). y.id) d.devices ++ x.id ∷ [] =
    map-append (λ (y : DeviceItem). y.id) d.devices (x ∷ []) in
    let free : AllByRecursion (λ (y : List ℕ). bytes_eq y x.id ≡ false) (codes "type" ∷ map (λ (y : DeviceItem). y.id) d.devices) =
    distinct-free (codes "type" ∷ map (λ (y : DeviceItem). y.id) d.devices) x.id [] (subst AreIds all ids) in
    let same : map (λ (y : DeviceItem). y.id) d.devices ≡ ids_in (child_entries b PERIPHERAL_BIRTH) =
    ap (λ (y : Description). map (λ (z : DeviceItem). z.id) y.devices) (sym k.is) ∙ ap (map (λ (y : DeviceItem). y.id)) (devices-said b w.order)
    ∙ ids-mapped (device_as b) (λ (y : DeviceItem). y.id) (λ e. refl) (child_entries b PERIPHERAL_BIRTH) in
    let apart : AllByRecursion (λ (y : List ℕ). bytes_eq y x.id ≡ false) (ids_in (child_entries b PERIPHERAL_BIRTH)) =
    subst (AllByRecursion (λ (y : List ℕ). bytes_eq y x.id ≡ false)) same free.1 in
    let unnamed : device_named b x.id ≡ false = unnamed-id b w k.says x.id apart in
    let slot : has_slot b PERIPHERAL_BIRTH x.id ≡ false = slot-free b w PERIPHERAL_BIRTH x.id (peripheral-kind b w.order) free.0 apart in
    let there : is_of b (codes "container") PERIPHERAL_BIRTH ≡ true =
    ap (λ (o : Option TypeId). option_map_or (λ (t : TypeId). is_a t (codes "container")) o false) (peripheral-kind b w.order) ∙ container-is in
    let unrefused : id_refused b (Some x.id) ≡ None = rw (good, unnamed) refl in
    let contained : container_barred b PERIPHERAL_BIRTH x.id ≡ None = rw (there, slot) refl in
    ap (λ (o : Option Code). option_or o (container_barred b PERIPHERAL_BIRTH x.id)) unrefused ∙ contained

-- ---- the objects

own-objects : (t : TypeId) → option_map_or (λ (r : TypeInfo). objects_in r.id) (type_named (type_name t)) 0 ≡ objects_in t
unfolding types
own-objects = each (λ (t : TypeId). option_map_or (λ (r : TypeInfo). objects_in r.id) (type_named (type_name t)) 0 ≡ objects_in t) (search rules)

pub room-unbarred : (b : Board) (d : Description) (x : DeviceItem) (t : TypeId) → Tells b d → x.driver ≡ type_name t
    → OPENING_OBJECTS + length d.objects + sum_by objects_of (d.devices ++ x ∷ []) ≤ LIVE_OBJECTS_MAX → room_barred b t ≡ None
room-unbarred b d x t tells driver room =
    let k : Has b d = has b d tells.says in
    let few : length b.records ≤ OPENING_OBJECTS + length d.objects + sum_by objects_of d.devices =
    subst (λ (y : Description). length b.records ≤ OPENING_OBJECTS + length y.objects + sum_by objects_of y.devices) k.is (records-said b tells.whole k.says) in
    let sum : sum_by objects_of (d.devices ++ x ∷ []) ≡ sum_by objects_of d.devices + sum_by objects_of (x ∷ []) =
    sum_by-append objects_of d.devices (x ∷ []) in
    let by_type : objects_of x ≡ objects_in t =
    ap (λ (name : List ℕ). option_map_or (λ (r : TypeInfo). objects_in r.id) (type_named name) 0) driver ∙ own-objects t in
    let one : sum_by objects_of (x ∷ []) ≡ objects_in t = omega (arith, by_type) in
    let low : nat_le (length b.records + objects_in t) LIVE_OBJECTS_MAX ≡ true =
    le-leb (length b.records + objects_in t) LIVE_OBJECTS_MAX (omega (arith, few, sum, one, room)) in
    ap (λ (u : Bool). if u then None else Some E43) low

-- ---- the notices

pub notice-unbarred : (b : Board) (d : Description) → Tells b d → notice_barred b ≡ None
notice-unbarred b d tells = ap (λ (ns : List Notice). if nat_le NOTICES_MAX (length ns) then Some E44 else None) tells.quiet
