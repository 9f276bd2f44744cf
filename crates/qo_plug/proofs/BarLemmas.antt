-- Why a device is refused before anything of it is made.
use Rattle.std.proofs.Common.{◌≡◌, refl, ap, sym, ◌∙◌, ℕ, Bool, true, false, not, ◌||◌, List, codes, Option, Some, None, option_map}
use Rattle.std.specs.Prelude.{if◌then◌else◌, IfNone, IfSome}
use Rattle.std.specs.Option.{option_map_or}
use Rattle.qo_values.specs.declared.births.TheConstants.{MEMORY_BUS_BIRTH, ROOT_BUS_BIRTH}
use Rattle.qo_values.specs.declared.codes.Code.{Code}
use Rattle.qo_values.specs.declared.codes.Code.TheVariants.{E15, E20, E21, E22, E24, E26, E27}
use Rattle.qo_values.specs.declared.kinds.TypeId.{TypeId}
use Rattle.qo_types.specs.Rows.{is_abstract}
use Rattle.qo_model.specs.Board.{Board}
use Rattle.qo_model.specs.Devices.{is_going}
use Rattle.qo_model.specs.Objects.{has_slot}
use Rattle.qo_model.specs.Paths.{attached, is_of}
use Rattle.qo_model.specs.Plug.{bus_barred, bus_for, bus_type, container_barred, type_barred}
use Rattle.qo_model.specs.Types.{TypeInfo, is_a, type_named}
use Rattle.qo_slots.specs.declared.keys.Key.{Key}
use Rattle.qo_object.specs.Content.{Content}
use Rattle.qo_heap.specs.Board.{Shows}
use Rattle.qo_heap.specs.Objects.{Objects, content_of}
use Rattle.qo_heap.proofs.BoardReads.{shows-kind}
use Rattle.qo_properties.proofs.BarLemmas.{by_row}

-- the type
module _ (name : List ℕ) (t : TypeId) (is : Some t ≡ option_map (λ (x : TypeInfo). x.id) (type_named name)) where
  abbrev barred_as : Option TypeInfo → Option Code
  barred_as o = elim o [ None ↦ Some E20 | Some row ↦ if row.is_abstract then Some E21 else if not (is_a row.id (codes "device")) then Some E22 else None ]

  pub barred-abstract : is_abstract t ≡ true → Some E21 ≡ type_barred name
  barred-abstract holds = by_row name t is (λ o. Some E21 ≡ barred_as o) (λ row e same tells. let so : row.is_abstract ≡ true = sym tells ∙ holds in rw so refl)

  pub barred-use : is_abstract t ≡ false → is_a t (codes "device") ≡ false → Some E22 ≡ type_barred name
  barred-use fails other = by_row name t is (λ o. Some E22 ≡ barred_as o) (λ row e same tells. let so : row.is_abstract ≡ false = sym tells ∙ fails in
      let its : is_a row.id (codes "device") ≡ false = ap (λ (k : TypeId). is_a k (codes "device")) same ∙ other in rw (so, its) refl)

  pub allowed : is_abstract t ≡ false → is_a t (codes "device") ≡ true → None ≡ type_barred name
  allowed fails holds = by_row name t is (λ o. None ≡ barred_as o) (λ row e same tells. let so : row.is_abstract ≡ false = sym tells ∙ fails in
      let its : is_a row.id (codes "device") ≡ true = ap (λ (k : TypeId). is_a k (codes "device")) same ∙ holds in rw (so, its) refl)

-- the container

-- nobody is of a type where nobody is
pub of-gone : (b : Board) (v : Objects) → Shows b v → (n : ℕ) (wanted : List ℕ) → content_of v n ≡ None → is_of b wanted n ≡ false
of-gone b v s n wanted gone =
    ap (λ (o : Option TypeId). option_map_or (λ (t : TypeId). is_a t wanted) o false) (shows-kind b v s n ∙ ap (option_map (λ (c : Content). c.kind)) gone)

module _ (b : Board) (n : ℕ) (name : List ℕ) where
  pub container-none : is_of b (codes "container") n ≡ false → Some E15 ≡ container_barred b n name
  container-none fails = rw (container_barred, fails) refl

  pub container-taken : is_of b (codes "container") n ≡ true → has_slot b n name ≡ true → Some E24 ≡ container_barred b n name
  container-taken holds taken = rw (container_barred, holds, taken) refl

  pub container-free : is_of b (codes "container") n ≡ true → has_slot b n name ≡ false → None ≡ container_barred b n name
  container-free holds free = rw (container_barred, holds, free) refl

-- the same, of a container by its name
module _ (b : Board) (n m : ℕ) (name : List ℕ) (is : m ≡ n) where
  pub at-container-none : is_of b (codes "container") m ≡ false → Some E15 ≡ container_barred b n name
  at-container-none fails = container-none b n name (ap (is_of b (codes "container")) (sym is) ∙ fails)

  pub at-container-taken : is_of b (codes "container") m ≡ true → has_slot b m name ≡ true → Some E24 ≡ container_barred b n name
  at-container-taken holds taken =
      container-taken b n name (ap (is_of b (codes "container")) (sym is) ∙ holds) (ap (λ (k : ℕ). has_slot b k name) (sym is) ∙ taken)

  pub at-container-free : is_of b (codes "container") m ≡ true → has_slot b m name ≡ false → None ≡ container_barred b n name
  at-container-free holds free = container-free b n name (ap (is_of b (codes "container")) (sym is) ∙ holds) (ap (λ (k : ℕ). has_slot b k name) (sym is) ∙ free)

-- the bus
module _ (b : Board) (t : TypeId) (m : ℕ) where
  pub bus-other : is_of b (bus_type t) m ≡ false → bus_barred b t (Some m) ≡ Some E26
  bus-other fails = rw (bus_barred, fails) refl

  pub bus-shut : is_of b (bus_type t) m ≡ true → not (attached b m) || is_going b m ≡ true → bus_barred b t (Some m) ≡ Some E27
  bus-shut holds shut = rw (bus_barred, holds, shut) refl

  pub bus-open : is_of b (bus_type t) m ≡ true → not (attached b m) || is_going b m ≡ false → bus_barred b t (Some m) ≡ None
  bus-open holds open_is = rw (bus_barred, holds, open_is) refl

  -- one that bars no device is of the kind where it goes
  pub bus-of : bus_barred b t (Some m) ≡ None → is_of b (bus_type t) m ≡ true
  bus-of none = go (is_of b (bus_type t) m) refl
    where
      go : (u : Bool) → is_of b (bus_type t) m ≡ u → u ≡ true
      go true is = refl
      go false is = absurd (let clash : Some E26 ≡ None = sym (bus-other is) ∙ none in cc)

-- where a device goes that names no bus
module _ (b : Board) (t : TypeId) (v : Objects) (s : Shows b v) where
  pub own-root : is_a t (codes "slot-device") ≡ true → (o : Option Key) → IfSome o (λ k. k.birth ≡ ROOT_BUS_BIRTH)
      → IfSome o (λ k. bus_for b t None ≡ Some k.birth)
  own-root holds None born = tt
  own-root holds (Some k) born = rw holds (ap Some (sym born))

  pub own-memory : is_a t (codes "slot-device") ≡ false → (o : Option Key) → IfSome o (λ k. k.birth ≡ MEMORY_BUS_BIRTH)
      → IfSome o (λ k. bus_for b t None ≡ Some k.birth)
  own-memory fails None born = tt
  own-memory fails (Some k) born = rw fails (ap Some (sym born))

  pub no-root : is_a t (codes "slot-device") ≡ true → (o : Option Key) → IfNone o (content_of v ROOT_BUS_BIRTH ≡ None)
      → IfNone o (bus_barred b t (bus_for b t None) ≡ Some E26)
  no-root holds (Some k) gone = tt
  no-root holds None gone =
      let none : is_of b (bus_type t) ROOT_BUS_BIRTH ≡ false = of-gone b v s ROOT_BUS_BIRTH (bus_type t) gone in
      ap (λ (u : Bool). bus_barred b t (Some (if u then ROOT_BUS_BIRTH else MEMORY_BUS_BIRTH))) holds ∙ bus-other b t ROOT_BUS_BIRTH none

  pub no-memory : is_a t (codes "slot-device") ≡ false → (o : Option Key) → IfNone o (content_of v MEMORY_BUS_BIRTH ≡ None)
      → IfNone o (bus_barred b t (bus_for b t None) ≡ Some E26)
  no-memory fails (Some k) gone = tt
  no-memory fails None gone =
      let none : is_of b (bus_type t) MEMORY_BUS_BIRTH ≡ false = of-gone b v s MEMORY_BUS_BIRTH (bus_type t) gone in
      ap (λ (u : Bool). bus_barred b t (Some (if u then ROOT_BUS_BIRTH else MEMORY_BUS_BIRTH))) fails ∙ bus-other b t MEMORY_BUS_BIRTH none
