-- The law: users' objects that are added are told.
use Rattle.std.proofs.Common.{◌≡◌, ◌⊎◌, inl, inr, refl, ap, sym, subst, ◌∙◌, rules, ℕ, suc, ◌+◌, ◌<◌, ◌≤◌, Bool, true, false, leb, ◌==◌, ◌&&◌, ◌||◌, List, [], ◌∷◌, ◌++◌, filter_map, find, length, map, sum_by, Option, Some, None, is_some, option_map, Ok, codes, append_assoc, append-nil, arith}
use Rattle.std.specs.List.{flat_map}
use Rattle.std.proofs.lemmas.Bool.{eq-eqb, eqb-true, leb-true}
use Rattle.std.proofs.lemmas.List.{length-append, map-append}
use Rattle.std.proofs.lemmas.List.Folds.{find-append, list_any-append}
use Rattle.std.proofs.lemmas.Option.{same_Some}
use Rattle.std.proofs.lemmas.Slice.Eq.{bytes_eq-Decides}
use Rattle.std.proofs.Math.Bool.{or-true}
use Rattle.qo_model.proofs.Common.{AllByRecursion, IsDistinct, list_any, option_map_or, option_or, bytes_eq, type_name, is_id, admits, ANONYMOUS_BIRTH, OBJECTS_BIRTH, PERIPHERAL_BIRTH, BACKEND_SIZE_AT_FIRST, BACKEND_SIZE_MAX, DIMM_ALIGN, LIVE_OBJECTS_MAX, TypeId, Container, MemoryBackendRam, Tag, PropType, Val, Code, E20, Board, Record, Slot, plain, child, strong, weak, alias, is_live, kind_of, record_of, slot_named, slots_at, target_of, with_added, Given, added_as, barred, given_slots, has_slot, object_add, refusal_of, with_object, edited, place_of, TypeInfo, is_a, property_named, types}
use Rattle.qo_values.proofs.EachLemmas.{each}
use Rattle.qo_values.specs.declared.births.TheConstants.{OPENING_OBJECTS}
use Rattle.qo_values.specs.declared.properties.PropType.TheVariants as ty
use Rattle.qo_model.proofs.StepLemmas.{found_at, found-birth, found-edited}
use Rattle.qo_model.specs.FinalNotesRuns.{added}
use Rattle.qo_model.specs.Objects.{added_by, Changed, may_add, misfit, refusal_by}
use Rattle.qo_model.specs.Opening.{opening_board}
use Rattle.qo_model.specs.Types.{int64, property, type_named}
use Rattle.qo_model.specs.declared.properties.Access.{Access}
use Rattle.qo_model.specs.declared.properties.Access.TheVariants.{Add, Both}
use Rattle.qo_model.specs.declared.properties.First.{First}
use Rattle.qo_model.specs.declared.properties.First.TheVariants as first
use Rattle.qo_model.specs.declared.properties.Property.{Property}
use Rattle.qo_model.specs.declared.properties.PropertyName.{PropertyName}
use Rattle.qo_model.specs.declared.properties.PropertyName.TheVariants as prop
use Rattle.qo_model.specs.declared.properties.PropertyRole.{PropertyRole}
use Rattle.qo_model.specs.declared.properties.PropertyRole.TheVariants as row
use Rattle.qo_save.specs.Described.{description, is_describable, is_link, is_nothing, is_set, link_item, link_items, object_given, object_item, object_of, props_under}
use Rattle.qo_save.specs.Description.{ClockItem, Description, DeviceItem, LinkItem, ObjectItem}
use Rattle.qo_save.specs.Rebuilding.{add_object, add_ring, all_done, by_changed, clock_steps, Step}
use Rattle.qo_save.specs.Rows.{opening_row}
use Rattle.qo_sound.proofs.AddLemmas.{made}
use Rattle.qo_sound.proofs.DraftLemmas.{absent-above}
use Rattle.qo_sound.proofs.TestLemmas.{clash, clash-back, decide}
use Rattle.qo_sound_devices.specs.SoundPlaces.{child_entries, child_entry, has_entry}
use Rattle.qo_sound_devices.proofs.AddLemmas.{entry-added}
use Rattle.qo_sound_devices.proofs.LikenessLemmas.{other-record}
use Rattle.qo_sound_devices.proofs.LocationLemmas.{place-named}
use Rattle.qo_sound_order.specs.SoundOrder.{is_abstract}
use Rattle.qo_sound_shapes.specs.SoundShape.{further, HasSlots, IsFurther, missing, next, SoundShape}
use Rattle.qo_good.specs.Good.{AreGiven, AreIds, given, Good, IsGoodObject, nothing, objects_of, other, Takes}
use Rattle.qo_good.specs.GoodBoards.{IsWhole}
use Rattle.qo_good.proofs.LinkLemmas.{container-rows, ids-mapped, ids_in, type_row}
use Rattle.qo_good.proofs.ObjectLemmas.{creatable-two, four, memory-bare, tag-bare}
use Rattle.qo_good.proofs.PartLemmas.{anonymous-kind, is_shelf, object_as, objects-kind, objects-said, peripheral-kind}
use Rattle.qo_good.proofs.PlaceLemmas.{firm}
use Rattle.qo_good.proofs.ValueLemmas.{Its, its-record, prop-none, prop-some, some-admitted}
use Rattle.qo_rebuilt.specs.Made.{Makes, Tells}
use Rattle.qo_rebuilt.specs.ObjectsMade.{ObjectsMadeLaw}
use Rattle.qo_rebuilt.proofs.ClockLemmas.{clock_made_lem, then-done}
use Rattle.qo_rebuilt.proofs.GrowthLemmas.{kind-live}
use Rattle.qo_rebuilt.proofs.RingLemmas.{Has, has, says-so, then_all}
use Rattle.qo_rebuilt.proofs.RoomLemmas.{records-said}
use Rattle.qo_rebuilt.proofs.TellingLemmas.{describable-grown, description-grown, IsGrown}
use Rattle.qo_rebuilt.proofs.WholeLemmas.{whole_kept_lem}

-- ---- what is given to a new object

-- names that a type has no row of, and the others
less-other : (t : TypeId) (name : List ℕ) (names : List (List ℕ)) (props : List Given) → property_named t name ≡ None → AreGiven t (name ∷ names) props
    → AreGiven t names props
less-other t name names props none (given p found takes rest) = absurd (let clash : None ≡ Some p = sym none ∙ found in cc)
less-other t name names props none (other gone rest) = rest

record FirstGiven (t : TypeId) (name : List ℕ) (names : List (List ℕ)) (role : PropertyRole) (props : List Given) : Type 0 where
  value : Val
  more : List Given
  is : props ≡ (name, value) ∷ more
  takes : Takes role value
  later : AreGiven t names more

first-given : (t : TypeId) (name : List ℕ) (names : List (List ℕ)) (props : List Given) (p : Property) → property_named t name ≡ Some p
    → AreGiven t (name ∷ names) props → FirstGiven t name names p.role props
first-given t name names props p found (given {v = v} {props = more} q its takes rest) =
    let same : q ≡ p = same_Some q p (sym its ∙ found) in
    record { value = v; more = more; is = refl; takes = subst (λ (x : Property). Takes x.role v) same takes; later = rest }
first-given t name names props p found (other gone rest) = absurd (let clash : None ≡ Some p = sym gone ∙ found in cc)

none-given : (t : TypeId) (props : List Given) → AreGiven t [] props → props ≡ []
none-given t props nothing = refl

-- its rows
abbrev size_type : PropType
size_type = ty.Uint DIMM_ALIGN BACKEND_SIZE_MAX DIMM_ALIGN

abbrev value_row : PropertyName → PropType → First → Access → Property
value_row name type begins access = property name (row.Plain type begins) access

size-row : property_named MemoryBackendRam (codes "size") ≡ Some (value_row prop.Size size_type (first.Uint BACKEND_SIZE_AT_FIRST) Add)
unfolding types
size-row = refl

flag-row : property_named Tag (codes "flag") ≡ Some (value_row prop.Flag ty.Bool (first.Bool false) Both)
unfolding types
flag-row = refl

number-row : property_named Tag (codes "number") ≡ Some (value_row prop.Number int64 (first.Uint 0) Both)
unfolding types
number-row = refl

text-row : property_named Tag (codes "text") ≡ Some (value_row prop.Text ty.Text first.NoText Both)
unfolding types
text-row = refl

-- a slot that names nobody is no link to anybody
none-linked : (c : Board) (n : ℕ) (s : List ℕ × Slot) → target_of s.1 ≡ None → link_item c n s ≡ None
none-linked c n s e = decide (is_link s.1 && is_set c n s.0) (λ q. rw (q, e) refl) (λ q. rw q refl)

none-links : (c : Board) (n : ℕ) (slots : List (List ℕ × Slot)) → AllByRecursion (λ (s : List ℕ × Slot). target_of s.1 ≡ None) slots
    → filter_map (link_item c n) slots ≡ []
none-links c n [] h = refl
none-links c n (s ∷ slots) h = rw (none-linked c n s h.0) (none-links c n slots h.1)

-- what becomes of it in a new object: nothing refuses it, it is told, and no link is made
record IsTaken (b : Board) (t : TypeId) (props : List Given) : Type 0 where
  unrefused : refusal_of b t props ≡ None
  told : (c : Board) → SoundShape c → (n : ℕ) → slots_at c n ≡ given_slots b t props → props_under c is_nothing object_given n ≡ props
  unlinked : AllByRecursion (λ (s : List ℕ × Slot). target_of s.1 ≡ None) (given_slots b t props)

abbrev in_slots : List (List ℕ × Slot) → List ℕ → Option Slot
in_slots slots name = option_map (λ (s : List ℕ × Slot). s.1) (find (λ (s : List ℕ × Slot). bytes_eq s.0 name) slots)

-- no value is refused that its row takes
pub next-refused : (b : Board) (t : TypeId) (name : List ℕ) (v : Val) (props : List Given) (p : Property) → property_named t name ≡ Some p
    → may_add p.access ≡ true → Takes p.role v → refusal_of b t ((name, v) ∷ props) ≡ refusal_of b t props
next-refused b t name v props p found may takes =
    let by : refusal_by b (Some p) v ≡ None = rw may (fits p.role takes) in
    ap (λ (o : Option Code). elim o [ Some code ↦ Some code | None ↦ refusal_of b t props ])
    (ap (λ (o : Option Property). refusal_by b o v) found ∙ by)
  where
    fits : (r : PropertyRole) → Takes r v → misfit b r v ≡ None
    fits (row.Plain type begins) takes = rw takes refl
    fits (row.Link to holds) takes = absurd takes
    fits (row.Child type) takes = absurd takes
    fits (row.Alias owner of) takes = absurd takes

module _ (b : Board) (v : Val) (takes : admits size_type v ≡ true) where
  abbrev sized : List Given
  sized = (codes "size", v) ∷ []

  memory-unrefused : refusal_of b MemoryBackendRam sized ≡ None
  memory-unrefused =
      next-refused b MemoryBackendRam (codes "size") v [] (value_row prop.Size size_type (first.Uint BACKEND_SIZE_AT_FIRST) Add) size-row refl takes

  memory-slots : (in_slots (given_slots b MemoryBackendRam sized) (codes "flag") ≡ None)
      × ((in_slots (given_slots b MemoryBackendRam sized) (codes "number") ≡ None)
      × ((in_slots (given_slots b MemoryBackendRam sized) (codes "size") ≡ Some (plain v))
      × (in_slots (given_slots b MemoryBackendRam sized) (codes "text") ≡ None)))
  unfolding types
  memory-slots = (refl, (refl, (refl, refl)))

  memory-unlinked : AllByRecursion (λ (s : List ℕ × Slot). target_of s.1 ≡ None) (given_slots b MemoryBackendRam sized)
  unfolding types
  memory-unlinked = search rules

  memory-told : (c : Board) → SoundShape c → (n : ℕ) → slots_at c n ≡ given_slots b MemoryBackendRam sized → props_under c is_nothing object_given n ≡ sized
  memory-told c shape n slots =
      let at : (name : List ℕ) → slot_named c n name ≡ in_slots (given_slots b MemoryBackendRam sized) name =
      λ name. ap (λ (xs : List (List ℕ × Slot)). in_slots xs name) slots in
      four c shape n None None (Some (codes "size", v)) None
      (prop-none c is_nothing n (codes "flag") (at (codes "flag") ∙ memory-slots.0))
      (prop-none c is_nothing n (codes "number") (at (codes "number") ∙ memory-slots.1.0))
      (prop-some c is_nothing n (codes "size") (plain v) (at (codes "size") ∙ memory-slots.1.1.0) (some-admitted size_type v takes))
      (prop-none c is_nothing n (codes "text") (at (codes "text") ∙ memory-slots.1.1.1))

  memory-taken : IsTaken b MemoryBackendRam sized
  memory-taken = record { unrefused = memory-unrefused; told = memory-told; unlinked = memory-unlinked }

module _ (b : Board) (f n t : Val) (flag : admits ty.Bool f ≡ true) (number : admits int64 n ≡ true) (text : admits ty.Text t ≡ true) where
  abbrev marked : List Given
  marked = (codes "flag", f) ∷ (codes "number", n) ∷ (codes "text", t) ∷ []

  tag-unrefused : refusal_of b Tag marked ≡ None
  tag-unrefused =
      next-refused b Tag (codes "flag") f ((codes "number", n) ∷ (codes "text", t) ∷ []) (value_row prop.Flag ty.Bool (first.Bool false) Both) flag-row refl
      flag
      ∙ next-refused b Tag (codes "number") n ((codes "text", t) ∷ []) (value_row prop.Number int64 (first.Uint 0) Both) number-row refl number
      ∙ next-refused b Tag (codes "text") t [] (value_row prop.Text ty.Text first.NoText Both) text-row refl text

  tag-slots : (in_slots (given_slots b Tag marked) (codes "flag") ≡ Some (plain f))
      × ((in_slots (given_slots b Tag marked) (codes "number") ≡ Some (plain n))
      × ((in_slots (given_slots b Tag marked) (codes "size") ≡ None) × (in_slots (given_slots b Tag marked) (codes "text") ≡ Some (plain t))))
  unfolding types
  tag-slots = (refl, (refl, (refl, refl)))

  tag-unlinked : AllByRecursion (λ (s : List ℕ × Slot). target_of s.1 ≡ None) (given_slots b Tag marked)
  unfolding types
  tag-unlinked = search rules

  tag-told : (c : Board) → SoundShape c → (m : ℕ) → slots_at c m ≡ given_slots b Tag marked → props_under c is_nothing object_given m ≡ marked
  tag-told c shape m slots =
      let at : (name : List ℕ) → slot_named c m name ≡ in_slots (given_slots b Tag marked) name =
      λ name. ap (λ (xs : List (List ℕ × Slot)). in_slots xs name) slots in
      four c shape m (Some (codes "flag", f)) (Some (codes "number", n)) None (Some (codes "text", t))
      (prop-some c is_nothing m (codes "flag") (plain f) (at (codes "flag") ∙ tag-slots.0) (some-admitted ty.Bool f flag))
      (prop-some c is_nothing m (codes "number") (plain n) (at (codes "number") ∙ tag-slots.1.0) (some-admitted int64 n number))
      (prop-none c is_nothing m (codes "size") (at (codes "size") ∙ tag-slots.1.1.0))
      (prop-some c is_nothing m (codes "text") (plain t) (at (codes "text") ∙ tag-slots.1.1.1) (some-admitted ty.Text t text))

  tag-taken : IsTaken b Tag marked
  tag-taken = record { unrefused = tag-unrefused; told = tag-told; unlinked = tag-unlinked }

given-taken : (b : Board) (o : ObjectItem) (good : IsGoodObject o) → IsTaken b good.kind o.props
given-taken b o good = by (creatable-two good.kind good.concrete good.creatable)
  where
    memory : (props : List Given) → AreGiven MemoryBackendRam object_given props → IsTaken b MemoryBackendRam props
    memory props all =
        let t : TypeId = MemoryBackendRam in
        let k = less-other t (codes "number") (codes "size" ∷ codes "text" ∷ []) props memory-bare.1.0
        (less-other t (codes "flag") (codes "number" ∷ codes "size" ∷ codes "text" ∷ []) props memory-bare.0 all) in
        let x = first-given t (codes "size") (codes "text" ∷ []) props (value_row prop.Size size_type (first.Uint BACKEND_SIZE_AT_FIRST) Add) size-row k in
        let last = none-given t x.more (less-other t (codes "text") [] x.more memory-bare.1.1.0 x.later) in
        let is : props ≡ (codes "size", x.value) ∷ [] = x.is ∙ ap (λ (ps : List Given). (codes "size", x.value) ∷ ps) last in
        subst (IsTaken b MemoryBackendRam) (sym is)
        (memory-taken b x.value x.takes)

    tag : (props : List Given) → AreGiven Tag object_given props → IsTaken b Tag props
    tag props all =
        let x = first-given Tag (codes "flag") (codes "number" ∷ codes "size" ∷ codes "text" ∷ []) props (value_row prop.Flag ty.Bool (first.Bool false) Both)
        flag-row all in
        let y =
        first-given Tag (codes "number") (codes "size" ∷ codes "text" ∷ []) x.more (value_row prop.Number int64 (first.Uint 0) Both) number-row x.later in
        let z = first-given Tag (codes "text") [] y.more (value_row prop.Text ty.Text first.NoText Both) text-row
        (less-other Tag (codes "size") (codes "text" ∷ []) y.more tag-bare y.later) in
        let last = none-given Tag z.more z.later in
        let is : props ≡ (codes "flag", x.value) ∷ (codes "number", y.value) ∷ (codes "text", z.value) ∷ [] =
        x.is
        ∙ ap (λ (ps : List Given). (codes "flag", x.value) ∷ ps)
        (y.is ∙ ap (λ (ps : List Given). (codes "number", y.value) ∷ ps) (z.is ∙ ap (λ (ps : List Given). (codes "text", z.value) ∷ ps) last)) in
        subst (IsTaken b Tag) (sym is)
        (tag-taken b x.value y.value z.value x.takes y.takes z.takes)

    by : (good.kind ≡ MemoryBackendRam) ⊎ (good.kind ≡ Tag) → IsTaken b good.kind o.props
    by (inl is) =
        subst (λ (t : TypeId). IsTaken b t o.props) (sym is) (memory o.props (subst (λ (t : TypeId). AreGiven t object_given o.props) is good.props))
    by (inr is) =
        subst (λ (t : TypeId). IsTaken b t o.props) (sym is) (tag o.props (subst (λ (t : TypeId). AreGiven t object_given o.props) is good.props))

-- ---- it is not refused

pub row-own : (t : TypeId) → option_map (λ (r : TypeInfo). r.id) (type_named (type_name t)) ≡ Some t
unfolding types
row-own = each (λ (t : TypeId). option_map (λ (r : TypeInfo). r.id) (type_named (type_name t)) ≡ Some t) (search rules)

-- the names of the slots of a container are `type` and those of its children
further-free : (id : List ℕ) (slots : List (List ℕ × Slot)) → AllByRecursion (IsFurther Container) slots
    → AllByRecursion (λ (x : List ℕ). bytes_eq x id ≡ false) (ids_in (filter_map child_entry slots))
    → list_any (λ (s : List ℕ × Slot). bytes_eq s.0 id) slots ≡ false
further-free id [] h free = refl
further-free id ((name, child m) ∷ slots) h free = rw (free.0, further-free id slots h.1 free.1) refl
further-free id ((name, plain v) ∷ slots) h free = absurd h.0
further-free id ((name, strong to target) ∷ slots) h free = absurd h.0
further-free id ((name, weak to target) ∷ slots) h free = absurd h.0
further-free id ((name, alias m of) ∷ slots) h free = absurd h.0

further-of : (t : TypeId) {slots : List (List ℕ × Slot)} → HasSlots t [] slots → AllByRecursion (IsFurther t) slots
further-of t (further h) = h

shelf-free : (id : List ℕ) (slots : List (List ℕ × Slot)) → HasSlots Container (type_row ∷ []) slots → bytes_eq (codes "type") id ≡ false
    → AllByRecursion (λ (x : List ℕ). bytes_eq x id ≡ false) (ids_in (filter_map child_entry slots))
    → list_any (λ (s : List ℕ × Slot). bytes_eq s.0 id) slots ≡ false
shelf-free id slots (missing may rest) typed free = clash-back may
shelf-free id ((name, plain v) ∷ slots) (next is rest) typed free =
    let own : bytes_eq name id ≡ false = ap (λ (x : List ℕ). bytes_eq x id) is.name ∙ typed in
    rw (own, further-free id slots (further-of Container rest) free) refl
shelf-free id ((name, child m) ∷ slots) (next is rest) typed free = absurd is.fits
shelf-free id ((name, strong to target) ∷ slots) (next is rest) typed free = absurd is.fits
shelf-free id ((name, weak to target) ∷ slots) (next is rest) typed free = absurd is.fits
shelf-free id ((name, alias m of) ∷ slots) (next is rest) typed free = absurd is.fits

pub slot-free : (b : Board) → IsWhole b → (n : ℕ) (id : List ℕ) → kind_of b n ≡ Some Container → bytes_eq (codes "type") id ≡ false
    → AllByRecursion (λ (x : List ℕ). bytes_eq x id ≡ false) (ids_in (child_entries b n)) → has_slot b n id ≡ false
slot-free b h n id kind typed free =
    let its : Its b n Container = its-record b h.order.shape n Container kind in
    let slots : slots_at b n ≡ its.of.slots = ap (λ (o : Option Record). option_map_or (λ (r : Record). r.slots) o []) its.there in
    ap (list_any (λ (s : List ℕ × Slot). bytes_eq s.0 id)) slots
    ∙ shelf-free id its.of.slots (subst (λ (ps : List Property). HasSlots Container ps its.of.slots) container-rows its.slots) typed
    (subst (λ (xs : List (List ℕ × Slot)). AllByRecursion (λ (x : List ℕ). bytes_eq x id ≡ false) (ids_in (filter_map child_entry xs))) slots free)

not-most : (most n : ℕ) → n < most → leb most n ≡ false
not-most most n low = decide (leb most n) (λ q. absurd (let high : most ≤ n = leb-true most n q in omega (arith, low, high))) (λ q. q)

abbrev object_by : Board → List ℕ → List Given → Option TypeInfo → Changed
object_by b id props None = record { refusal = Some E20; board = b }
object_by b id props (Some row) = added_by b row id props (barred b row id)

abbrev taken_as : Board → TypeId → List ℕ → List Given → Changed
taken_as b t id props = record { refusal = None; board = with_object b t id props }

add-taken : (b : Board) (t : TypeId) (id : List ℕ) (props : List Given) → is_abstract t ≡ false → is_a t (codes "user-creatable") ≡ true
    → is_id id ≡ true → is_live b OBJECTS_BIRTH ≡ true → has_slot b OBJECTS_BIRTH id ≡ false → length b.records < LIVE_OBJECTS_MAX
    → refusal_of b t props ≡ None → object_add b (type_name t) id props ≡ taken_as b t id props
add-taken b t id props concrete creatable good there free room unrefused = go (type_named (type_name t)) refl
  where
    go : (o : Option TypeInfo) → type_named (type_name t) ≡ o → object_add b (type_name t) id props ≡ taken_as b t id props
    go None q = absurd (let clash : None ≡ Some t = sym (ap (option_map (λ (r : TypeInfo). r.id)) q) ∙ row-own t in cc)
    go (Some row) q =
        let own : row.id ≡ t = same_Some row.id t (sym (ap (option_map (λ (r : TypeInfo). r.id)) q) ∙ row-own t) in
        let real : row.is_abstract ≡ false = sym (ap (λ (o : Option TypeInfo). option_map_or (λ (r : TypeInfo). r.is_abstract) o false) q) ∙ concrete in
        let may : is_a row.id (codes "user-creatable") ≡ true = ap (λ (k : TypeId). is_a k (codes "user-creatable")) own ∙ creatable in
        let low : leb LIVE_OBJECTS_MAX (length b.records) ≡ false = not-most LIVE_OBJECTS_MAX (length b.records) room in
        let unbarred : barred b row id ≡ None = rw (real, may, good, there, free, low) refl in
        ap (object_by b id props) q ∙ ap (added_by b row id props) unbarred
        ∙ ap (λ (k : TypeId). added_as b k id props (refusal_of b k props)) own
        ∙ ap (added_as b t id props) unrefused

-- ---- the board after it

module _ (b : Board) (h : IsWhole b) (t : TypeId) (id : List ℕ) (props : List Given) where
  abbrev n : ℕ
  n = b.born + 1

  abbrev c : Board
  c = with_object b t id props

  abbrev change : Record → Record
  change = with_added id (child (b.born + 1))

  objects-live : is_live b OBJECTS_BIRTH ≡ true
  objects-live = kind-live b OBJECTS_BIRTH Container (objects-kind b h.order)

  found : (x : ℕ)
      → record_of (with_object b t id props) x ≡ option_or (option_map (edited OBJECTS_BIRTH change) (record_of b x)) (found_at x (made b t props ∷ []))
  found x =
      find-append (λ (y : Record). y.birth == x) (map (edited OBJECTS_BIRTH change) b.records) (made b t props ∷ [])
      ∙ ap (λ (o : Option Record). option_or o (found_at x (made b t props ∷ []))) (found-edited OBJECTS_BIRTH change (λ y. refl) x b.records)

  record-kept : (x : ℕ) → is_live b x ≡ true → (x == OBJECTS_BIRTH) ≡ false → record_of (with_object b t id props) x ≡ record_of b x
  record-kept x live apart =
      found x
      ∙ ap (λ (o : Option Record). option_or o (found_at x (made b t props ∷ []))) (other-record OBJECTS_BIRTH x change b refl apart (record_of b x) refl)
      ∙ go (record_of b x) refl
    where
      go : (o : Option Record) → record_of b x ≡ o → option_or o (found_at x (made b t props ∷ [])) ≡ o
      go None q = clash-back (sym (ap is_some q) ∙ live)
      go (Some r) q = refl

  record-new : record_of (with_object b t id props) (b.born + 1) ≡ Some (made b t props)
  record-new =
      let none : record_of b (b.born + 1) ≡ None = absent-above b (firm b h.order) (b.born + 1) (omega arith) in
      let own : ((made b t props).birth == b.born + 1) ≡ true = eq-eqb (b.born + 1) (b.born + 1) refl in
      let its : found_at (b.born + 1) (made b t props ∷ []) ≡ Some (made b t props) = rw own refl in
      found (b.born + 1)
      ∙ ap (λ (o : Option Record). option_or (option_map (edited OBJECTS_BIRTH change) o) (found_at (b.born + 1) (made b t props ∷ []))) none ∙ its

  -- the slots of `/objects`
  abbrev entries : Option Record → List (List ℕ × ℕ)
  entries o = filter_map child_entry (option_map_or (λ (r : Record). r.slots) o [])

  objects-more : child_entries (with_object b t id props) OBJECTS_BIRTH ≡ child_entries b OBJECTS_BIRTH ++ (id, b.born + 1) ∷ []
  objects-more = go (record_of b OBJECTS_BIRTH) refl
    where
      go : (o : Option Record) → record_of b OBJECTS_BIRTH ≡ o
          → child_entries (with_object b t id props) OBJECTS_BIRTH ≡ child_entries b OBJECTS_BIRTH ++ (id, b.born + 1) ∷ []
      go None q = clash-back (sym (ap is_some q) ∙ objects-live)
      go (Some r) q =
          let own : (r.birth == OBJECTS_BIRTH) ≡ true = eq-eqb r.birth OBJECTS_BIRTH (found-birth OBJECTS_BIRTH b.records r q) in
          let now : edited OBJECTS_BIRTH change r ≡ change r = rw (edited, own) refl in
          ap entries
          (found OBJECTS_BIRTH
          ∙ ap (λ (o : Option Record). option_or (option_map (edited OBJECTS_BIRTH change) o) (found_at OBJECTS_BIRTH (made b t props ∷ []))) q ∙ ap Some now)
          ∙ entry-added child_entry (id, child (b.born + 1)) (id, b.born + 1) refl r.slots
          ∙ sym (ap (λ (o : Option Record). entries o ++ (id, b.born + 1) ∷ []) q)

  slots-kept : (x : ℕ) → is_live b x ≡ true → (x == OBJECTS_BIRTH) ≡ false → slots_at (with_object b t id props) x ≡ slots_at b x
  slots-kept x live apart = ap (λ (o : Option Record). option_map_or (λ (r : Record). r.slots) o []) (record-kept x live apart)

  -- it has what it had, and stays as it was
  object-grown : IsGrown b (with_object b t id props)
  object-grown =
      record {
        same = λ x k kind inner bus.
            let live : is_live b x ≡ true = kind-live b x k kind in
            let apart : (x == OBJECTS_BIRTH) ≡ false =
            decide (x == OBJECTS_BIRTH)
            (λ q.
            let is : k ≡ Container = same_Some k Container (sym kind ∙ ap (kind_of b) (eqb-true x OBJECTS_BIRTH q) ∙ objects-kind b h.order) in
            clash (sym (ap is_shelf is) ∙ inner))
            (λ q. q) in
            (slots-kept x live apart, ap (option_map (λ (r : Record). r.kind)) (record-kept x live apart));
        grows = grows;
      }
    where
      grows : (p : ℕ) (e : List ℕ × ℕ) → has_entry e (child_entries b p) ≡ true → has_entry e (child_entries (with_object b t id props) p) ≡ true
      grows p e there =
          decide (is_live b p)
          (λ live. decide (p == OBJECTS_BIRTH)
          (λ q. subst (λ (x : ℕ). has_entry e (child_entries (with_object b t id props) x) ≡ true) (sym (eqb-true p OBJECTS_BIRTH q))
          (ap (has_entry e) objects-more
          ∙ list_any-append (λ (x : List ℕ × ℕ). x.1 == e.1 && bytes_eq x.0 e.0) (child_entries b OBJECTS_BIRTH) ((id, b.born + 1) ∷ [])
          ∙ ap (λ (u : Bool). u || has_entry e ((id, b.born + 1) ∷ []))
          (subst (λ (x : ℕ). has_entry e (child_entries b x) ≡ true) (eqb-true p OBJECTS_BIRTH q) there)))
          (λ q. ap (λ (xs : List (List ℕ × Slot)). has_entry e (filter_map child_entry xs)) (slots-kept p live q) ∙ there))
          (λ gone. gone-none (record_of b p) refl gone)
        where
          gone-none : (o : Option Record) → record_of b p ≡ o → is_live b p ≡ false → has_entry e (child_entries (with_object b t id props) p) ≡ true
          gone-none (Some r) q gone = clash (sym (ap is_some q) ∙ gone)
          gone-none None q gone =
              clash-back (sym (ap (λ (o : Option Record). has_entry e (filter_map child_entry (option_map_or (λ (r : Record). r.slots) o []))) q) ∙ there)

  new-live : (x : ℕ) → is_live (with_object b t id props) x ≡ true → is_live b x ≡ false → x ≡ b.born + 1
  new-live x live young = go (record_of b x) refl
    where
      go : (o : Option Record) → record_of b x ≡ o → x ≡ b.born + 1
      go (Some r) q = clash (sym (ap is_some q) ∙ young)
      go None q =
          decide (b.born + 1 == x) (λ p. sym (eqb-true (b.born + 1) x p))
          (λ p.
          let none : found_at x (made b t props ∷ []) ≡ None = rw p refl in
          let away : record_of (with_object b t id props) x ≡ None =
          found x ∙ ap (λ (o : Option Record). option_or (option_map (edited OBJECTS_BIRTH change) o) (found_at x (made b t props ∷ []))) q ∙ none in
          clash-back (sym (ap is_some away) ∙ live))

  new-placed : IsWhole (with_object b t id props) → place_of (with_object b t id props) (b.born + 1) ≡ Some (OBJECTS_BIRTH, id)
  new-placed k =
      let own : has_entry (id, b.born + 1) ((id, b.born + 1) ∷ []) ≡ true =
      rw (eq-eqb (b.born + 1) (b.born + 1) refl, (bytes_eq-Decides id id).1 refl) refl in
      let on : has_entry (id, b.born + 1) (child_entries (with_object b t id props) OBJECTS_BIRTH) ≡ true =
      ap (has_entry (id, b.born + 1)) objects-more
      ∙ list_any-append (λ (x : List ℕ × ℕ). x.1 == b.born + 1 && bytes_eq x.0 id) (child_entries b OBJECTS_BIRTH) ((id, b.born + 1) ∷ [])
      ∙ ap (λ (u : Bool). has_entry (id, b.born + 1) (child_entries b OBJECTS_BIRTH) || u) own
      ∙ or-true (has_entry (id, b.born + 1) (child_entries b OBJECTS_BIRTH)) in
      place-named (with_object b t id props) (firm (with_object b t id props) k.order) OBJECTS_BIRTH (b.born + 1) id on

-- ---- an object more

-- a command that is taken, and what the board tells after it
record Added (b : Board) (d : Description) (o : ObjectItem) : Type 0 where
  after : Board
  done : add_object o b ≡ Ok after
  tells : Tells after (record d { objects = d.objects ++ o ∷ [] })

object-made : (b : Board) (d : Description) (o : ObjectItem) → Tells b d → IsGoodObject o → bytes_eq (codes "type") o.id ≡ false
    → AllByRecursion (λ (x : List ℕ). bytes_eq x o.id ≡ false) (map (λ (x : ObjectItem). x.id) d.objects)
    → OPENING_OBJECTS + suc (length d.objects) + sum_by objects_of d.devices ≤ LIVE_OBJECTS_MAX → Added b d o
object-made b d o tells good typed free room =
    let t : TypeId = good.kind in
    let w : IsWhole b = tells.whole in
    let k : Has b d = has b d tells.says in
    let c : Board = with_object b t o.id o.props in
    let n : ℕ = b.born + 1 in
    let takes : IsTaken b t o.props = given-taken b o good in
    let ids : map (λ (x : ObjectItem). x.id) d.objects ≡ ids_in (child_entries b OBJECTS_BIRTH) =
    ap (λ (x : Description). map (λ (y : ObjectItem). y.id) x.objects) (sym k.is) ∙ ap (map (λ (x : ObjectItem). x.id)) (objects-said b w.order)
    ∙ ids-mapped (object_as b) (λ (x : ObjectItem). x.id) (λ e. refl) (child_entries b OBJECTS_BIRTH) in
    let own : has_slot b OBJECTS_BIRTH o.id ≡ false =
    slot-free b w OBJECTS_BIRTH o.id (objects-kind b w.order) typed (subst (AllByRecursion (λ (x : List ℕ). bytes_eq x o.id ≡ false)) ids free) in
    let few : length b.records ≤ OPENING_OBJECTS + length d.objects + sum_by objects_of d.devices =
    subst (λ (x : Description). length b.records ≤ OPENING_OBJECTS + length x.objects + sum_by objects_of x.devices) k.is (records-said b w k.says) in
    let taken : object_add b (type_name t) o.id o.props ≡ taken_as b t o.id o.props =
    add-taken b t o.id o.props good.concrete good.creatable good.id (objects-live b w t o.id o.props) own (omega (arith, few, room)) takes.unrefused in
    let by_name : object_add b o.kind o.id o.props ≡ taken_as b t o.id o.props = ap (λ (name : List ℕ). object_add b name o.id o.props) good.its ∙ taken in
    let now : IsWhole c = subst IsWhole (ap (λ (x : Changed). x.board) taken) (whole_kept_lem.change b (added (type_name t) o.id o.props) w) in
    let slots : slots_at c n ≡ given_slots b t o.props =
    ap (λ (x : Option Record). option_map_or (λ (r : Record). r.slots) x []) (record-new b w t o.id o.props) in
    let kind : kind_of c n ≡ Some t = ap (option_map (λ (r : Record). r.kind)) (record-new b w t o.id o.props) in
    let item : object_item c (o.id, n) ≡ Some o = item-is c n kind (takes.told c now.order.shape n slots) in
    let linkless : link_items c (o.id, n) ≡ [] = ap (filter_map (link_item c n)) slots ∙ none-links c n (given_slots b t o.props) takes.unlinked in
    let grown : IsGrown b c = object-grown b w t o.id o.props in
    let users : child_entries c OBJECTS_BIRTH ≡ child_entries b OBJECTS_BIRTH ++ (o.id, n) ∷ [] = objects-more b w t o.id o.props in
    let devices : child_entries c PERIPHERAL_BIRTH ≡ child_entries b PERIPHERAL_BIRTH ++ [] =
    ap (filter_map child_entry) (slots-kept b w t o.id o.props PERIPHERAL_BIRTH (kind-live b PERIPHERAL_BIRTH Container (peripheral-kind b w.order)) refl)
    ∙ sym (append-nil (child_entries b PERIPHERAL_BIRTH)) in
    let anonymous : child_entries c ANONYMOUS_BIRTH ≡ child_entries b ANONYMOUS_BIRTH =
    ap (filter_map child_entry) (slots-kept b w t o.id o.props ANONYMOUS_BIRTH (kind-live b ANONYMOUS_BIRTH Container (anonymous-kind b w.order)) refl) in
    let says : is_describable c ≡ true =
    describable-grown b c w now grown k.says
    (λ x live young. let is : x ≡ n = new-live b w t o.id o.props x live young in
    subst (λ (m : ℕ). is_some (place_of c m) ≡ true) (sym is) (ap is_some (new-placed b w t o.id o.props now))) refl anonymous in
    let links : flat_map (link_items c) ((o.id, n) ∷ []) ≡ [] = ap (λ (xs : List LinkItem). xs ++ []) linkless in
    let all = description-grown b c w now grown k.says ((o.id, n) ∷ []) [] users devices links refl refl in
    let ends : filter_map (object_item c) ((o.id, n) ∷ []) ≡ o ∷ [] = rw item refl in
    let is : description c ≡ record (description b) { objects = (description b).objects ++ o ∷ [] } =
    all
    ∙ ap (λ (xs : List ObjectItem). record (description b) {
      clocks = (description b).clocks ++ [];
      devices = (description b).devices ++ [];
      objects = (description b).objects ++ xs;
    }) ends
    ∙ ap (λ (xs : List ClockItem). record (description b) {
      clocks = xs;
      devices = (description b).devices ++ [];
      objects = (description b).objects ++ o ∷ [];
    }) (append-nil (description b).clocks)
    ∙ ap (λ (xs : List DeviceItem). record (description b) { devices = xs; objects = (description b).objects ++ o ∷ [] })
    (append-nil (description b).devices) in
    record {
      after = c;
      done = ap by_changed by_name;
      tells = record {
        whole = now;
        says = says-so c (record d { objects = d.objects ++ o ∷ [] }) says (is ∙ ap (λ (x : Description). record x { objects = x.objects ++ o ∷ [] }) k.is);
        quiet = tells.quiet;
      };
    }
  where
    item-is : (after : Board) (m : ℕ) → kind_of after m ≡ Some good.kind → props_under after is_nothing object_given m ≡ o.props
        → object_item after (o.id, m) ≡ Some o
    item-is after m kind props =
        ap (option_map (object_of after (o.id, m))) kind
        ∙ ap (λ (ps : List Given). Some (record { id = o.id; props = ps; kind = type_name good.kind })) props
        ∙ ap (λ (name : List ℕ). Some (record { id = o.id; props = o.props; kind = name })) (sym good.its)

-- ---- one after another

pub distinct-free : (xs : List (List ℕ)) (y : List ℕ) (ys : List (List ℕ)) → IsDistinct bytes_eq (xs ++ y ∷ ys)
    → AllByRecursion (λ (x : List ℕ). bytes_eq x y ≡ false) xs
unfolding IsDistinct
distinct-free [] y ys h = tt
distinct-free (x ∷ xs) y ys h = (mid xs h.0, distinct-free xs y ys h.1)
  where
    mid : (zs : List (List ℕ)) → AllByRecursion (λ (z : List ℕ). bytes_eq x z ≡ false) (zs ++ y ∷ ys) → bytes_eq x y ≡ false
    mid [] k = k.0
    mid (z ∷ zs) k = mid zs k.1

objects-made : (b : Board) (d : Description) (os : List ObjectItem) → Tells b d → AllByRecursion IsGoodObject os
    → AreIds (map (λ (o : ObjectItem). o.id) (d.objects ++ os))
    → OPENING_OBJECTS + length (d.objects ++ os) + sum_by objects_of d.devices ≤ LIVE_OBJECTS_MAX
    → Makes (map add_object os) b (record d { objects = d.objects ++ os })
objects-made b d [] tells good ids room =
    record {
      board = b;
      taken = refl;
      tells = subst (λ (os : List ObjectItem). Tells b (record d { objects = os })) (sym (append-nil d.objects)) tells;
    }
objects-made b d (o ∷ os) tells good ids room =
    let whole : map (λ (x : ObjectItem). x.id) (d.objects ++ o ∷ os) ≡ map (λ (x : ObjectItem). x.id) d.objects ++ o.id ∷ map (λ (x : ObjectItem). x.id) os =
    map-append (λ (x : ObjectItem). x.id) d.objects (o ∷ os) in
    let free : AllByRecursion (λ (x : List ℕ). bytes_eq x o.id ≡ false) (codes "type" ∷ map (λ (x : ObjectItem). x.id) d.objects) =
    distinct-free (codes "type" ∷ map (λ (x : ObjectItem). x.id) d.objects) o.id (map (λ (x : ObjectItem). x.id) os) (subst AreIds whole ids) in
    let long : length (d.objects ++ o ∷ os) ≡ length d.objects + suc (length os) = length-append d.objects (o ∷ os) in
    let first : Added b d o = object-made b d o tells good.0 free.0 free.1 (omega (arith, long, room)) in
    let on : (d.objects ++ o ∷ []) ++ os ≡ d.objects ++ o ∷ os = append_assoc d.objects (o ∷ []) os in
    let more : Makes (map add_object os) first.after (record d { objects = (d.objects ++ o ∷ []) ++ os }) =
    objects-made first.after (record d { objects = d.objects ++ o ∷ [] }) os first.tells good.1
    (subst (λ (xs : List ObjectItem). AreIds (map (λ (x : ObjectItem). x.id) xs)) (sym on) ids)
    (subst (λ (xs : List ObjectItem). OPENING_OBJECTS + length xs + sum_by objects_of d.devices ≤ LIVE_OBJECTS_MAX) (sym on) room) in
    record {
      board = more.board;
      taken = ap (then_all (map add_object os)) first.done ∙ more.taken;
      tells = subst (λ (xs : List ObjectItem). Tells more.board (record d { objects = xs })) on more.tells;
    }

-- ---- after the clock and the rings

after-rings : (d : Description) → Good d
    → Makes (clock_steps d.clock ++ map add_ring d.rings ++ map add_object d.objects) opening_board
    (record opening_row { clock = d.clock; rings = d.rings; objects = d.objects })
after-rings d good =
    let before : Makes (clock_steps d.clock ++ map add_ring d.rings) opening_board (record opening_row { clock = d.clock; rings = d.rings }) =
    clock_made_lem.rings d good in
    let room : OPENING_OBJECTS + length d.objects + sum_by objects_of [] ≤ LIVE_OBJECTS_MAX =
    omega (arith, good.room) in
    let objects : Makes (map add_object d.objects) before.board (record opening_row { clock = d.clock; rings = d.rings; objects = d.objects }) =
    objects-made before.board (record opening_row { clock = d.clock; rings = d.rings }) d.objects before.tells good.objects good.object_ids room in
    record {
      board = objects.board;
      taken =
          ap (λ (steps : List Step). all_done steps opening_board) (sym (append_assoc (clock_steps d.clock) (map add_ring d.rings) (map add_object d.objects)))
          ∙ then-done (clock_steps d.clock ++ map add_ring d.rings) (map add_object d.objects) opening_board
          ∙ ap (then_all (map add_object d.objects)) before.taken ∙ objects.taken;
      tells = objects.tells;
    }

pub objects_made_lem : ObjectsMadeLaw
objects_made_lem = record { objects = objects-made; after_rings = after-rings }
