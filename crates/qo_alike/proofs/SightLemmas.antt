-- How an object shows whose rows show so; containers, the machine, clocks and buses.
use Rattle.std.proofs.Common.{◌≡◌, refl, ap, ap₂, sym, subst, ◌∙◌, ℕ, true, List, [], ◌∷◌, ◌++◌, filter_map, find, map, Option, Some, None, option_map, option_and_then, codes, append-nil}
use Rattle.qo_model.proofs.Common.{AllByRecursion, option_map_or, bytes_eq, type_name, TypeId, Clock, Container, Machine, MemBus, SlotBus, Board, Record, Slot, plain, child, strong, weak, alias, kind_of, slot_named, slots_at, plain_in, child_named, slots_of, types}
use Rattle.std.proofs.lemmas.Option.{same_Some}
use Rattle.std.proofs.lemmas.Slice.Eq.{bytes_eq-Decides}
use Rattle.qo_values.specs.declared.properties.PropType.TheVariants as ty
use Rattle.qo_values.specs.declared.properties.Val.{Val}
use Rattle.qo_values.specs.declared.properties.Val.TheVariants as val
use Rattle.qo_model.specs.Properties.{path_text}
use Rattle.qo_model.specs.RowNames.{property_name}
use Rattle.qo_model.specs.Types.{property}
use Rattle.qo_model.specs.declared.properties.Access.TheVariants.{Never}
use Rattle.qo_model.specs.declared.properties.First.TheVariants as begins
use Rattle.qo_model.specs.declared.properties.Property.{Property}
use Rattle.qo_model.specs.declared.properties.PropertyName.{PropertyName}
use Rattle.qo_model.specs.declared.properties.PropertyName.TheVariants as prop
use Rattle.qo_model.specs.declared.properties.PropertyRole.TheVariants as row
use Rattle.qo_save.specs.Like.{names, Shown, shown, Sight, sight, value}
use Rattle.qo_sound.proofs.TestLemmas.{clash-back}
use Rattle.qo_sound_devices.specs.SoundPlaces.{child_entries, child_entry, kid_entries, kid_entry}
use Rattle.qo_sound_devices.proofs.DropLemmas.{names-at}
use Rattle.qo_sound_shapes.specs.SoundShape.{further, HasSlots, IsFurther, missing, next}
use Rattle.qo_ways.specs.Ways.{IsInOrder}
use Rattle.qo_good.proofs.PlaceLemmas.{firm}
use Rattle.qo_good.proofs.ValueLemmas.{Its, its-record}
use Rattle.qo_alike.specs.AlikeBoards.{TellsTypes}
use Rattle.qo_alike.specs.Seen.{clock_shows, plain_shows, seen_as, shelf_seen}
use Rattle.qo_alike.proofs.RowsLemmas.{bare-show, children-show, kids-show, Rowed, RowSeen, rows-apart, rows-seen, rows-show, rows_slots, show, whole-or-bare}

-- ---- slots by what is read of them

pub plain-slot : (v : Val) (o : Option Slot) → option_and_then plain_in o ≡ Some v → o ≡ Some (plain v)
plain-slot v None e = absurd (cc)
plain-slot v (Some (plain w)) e = ap (λ (x : Val). Some (plain x)) (same_Some w v e)
plain-slot v (Some (child m)) e = absurd (cc)
plain-slot v (Some (strong t target)) e = absurd (cc)
plain-slot v (Some (weak t target)) e = absurd (cc)
plain-slot v (Some (alias m of)) e = absurd (cc)

pub child-slot : (c : ℕ) (o : Option Slot) → option_and_then child_named o ≡ Some c → o ≡ Some (child c)
child-slot c None e = absurd (cc)
child-slot c (Some (plain w)) e = absurd (cc)
child-slot c (Some (child m)) e = ap (λ (x : ℕ). Some (child x)) (same_Some m c e)
child-slot c (Some (strong t target)) e = absurd (cc)
child-slot c (Some (weak t target)) e = absurd (cc)
child-slot c (Some (alias m of)) e = absurd (cc)

-- ---- an object by its rows

abbrev made : List ℕ → Option TypeId → List (List ℕ × Shown) → Sight
made path kind slots = record { path = path; kind = kind; slots = slots }

module _ (b : Board) (h : IsInOrder b) where
  pub rowed : (n : ℕ) (t : TypeId) → kind_of b n ≡ Some t → (shows : PropertyName → Shown) (rows : AllByRecursion (RowSeen b n shows) (slots_of t))
      → Rowed b n t shows (slots_of t) rows (slots_at b n)
  rowed n t kind shows rows =
      let its : Its b n t = its-record b h.shape n t kind in
      let at : slots_at b n ≡ its.of.slots = ap (λ (o : Option Record). option_map_or (λ (r : Record). r.slots) o []) its.there in
      subst (Rowed b n t shows (slots_of t) rows) (sym at)
      (rows-seen b n t shows its.of.slots at (names-at b (firm b h) n its.of its.there) (slots_of t) [] refl tt (rows-apart t) (whole-or-bare t) rows its.slots)

  -- without further slots
  pub bare-slots : (n : ℕ) (t : TypeId) → kind_of b n ≡ Some t → ((s : List ℕ × Slot) → IsFurther t s → ⊥) → (shows : PropertyName → Shown)
      (rows : AllByRecursion (RowSeen b n shows) (slots_of t)) → slots_at b n ≡ rows_slots b n shows (slots_of t) rows
  bare-slots n t kind bare shows rows =
      let k : Rowed b n t shows (slots_of t) rows (slots_at b n) = rowed n t kind shows rows in
      k.so ∙ ap (λ (xs : List (List ℕ × Slot)). rows_slots b n shows (slots_of t) rows ++ xs) (bare-show b t bare k.behind k.extra)
      ∙ append-nil (rows_slots b n shows (slots_of t) rows)

  pub sight-bare : (n : ℕ) (t : TypeId) → kind_of b n ≡ Some t → (path : List ℕ) → path_text b n ≡ path → ((s : List ℕ × Slot) → IsFurther t s → ⊥)
      → (shows : PropertyName → Shown) → AllByRecursion (RowSeen b n shows) (slots_of t) → sight b n ≡ seen_as path t shows []
  sight-bare n t kind path told bare shows rows =
      ap (λ (p : List ℕ). made p (kind_of b n) (map (show b) (slots_at b n))) told
      ∙ ap (λ (o : Option TypeId). made path o (map (show b) (slots_at b n))) kind
      ∙ ap (made path (Some t))
      (ap (map (show b)) (bare-slots n t kind bare shows rows) ∙ rows-show b n shows (slots_of t) rows
      ∙ sym (append-nil (map (λ (p : Property). (property_name p.name, shows p.name)) (slots_of t))))

-- ---- an object whose one row tells its type

abbrev type_row : Property
type_row = property prop.Type (row.Plain ty.Text begins.TypeName) Never

abbrev shelf_slots : TypeId → List (List ℕ × Shown) → List (List ℕ × Shown)
shelf_slots t behind = (codes "type", value (val.Text (type_name t))) ∷ behind

-- what shows of it
record Shelf (b : Board) (t : TypeId) (slots : List (List ℕ × Slot)) : Type 0 where
  behind : List (List ℕ × Slot)
  extra : AllByRecursion (IsFurther t) behind
  so : map (show b) slots ≡ shelf_slots t (map (show b) behind)
  children : filter_map child_entry slots ≡ filter_map child_entry behind
  kids : filter_map kid_entry slots ≡ filter_map kid_entry behind

shelf-of : (b : Board) (t : TypeId) (slots : List (List ℕ × Slot)) → HasSlots t (type_row ∷ []) slots
    → option_map (λ (s : List ℕ × Slot). s.1) (find (λ (s : List ℕ × Slot). bytes_eq s.0 (codes "type")) slots) ≡ Some (plain (val.Text (type_name t)))
    → Shelf b t slots
shelf-of b t slots (missing may rest) e = clash-back may
shelf-of b t ((name, plain v) ∷ slots) (next is (further all)) e =
    let here : bytes_eq name (codes "type") ≡ true = (bytes_eq-Decides name (codes "type")).1 is.name in
    let slot : plain v ≡ plain (val.Text (type_name t)) = same_Some (plain v) (plain (val.Text (type_name t))) (rw here at e) in
    record {
      behind = slots;
      extra = all;
      so = ap₂ (λ (n : List ℕ) (s : Slot). (n, shown b s) ∷ map (show b) slots) is.name slot;
      children = refl;
      kids = refl;
    }
shelf-of b t ((name, child m) ∷ slots) (next is rest) e = absurd is.fits
shelf-of b t ((name, strong to target) ∷ slots) (next is rest) e = absurd is.fits
shelf-of b t ((name, weak to target) ∷ slots) (next is rest) e = absurd is.fits
shelf-of b t ((name, alias m of) ∷ slots) (next is rest) e = absurd is.fits

module _ (b : Board) (h : IsInOrder b) (tells : TellsTypes b) where
  pub type-slot : (n : ℕ) (t : TypeId) → kind_of b n ≡ Some t → slot_named b n (codes "type") ≡ Some (plain (val.Text (type_name t)))
  type-slot n t kind = plain-slot (val.Text (type_name t)) (slot_named b n (codes "type")) (tells n t kind)

  shelf-at : (n : ℕ) (t : TypeId) → kind_of b n ≡ Some t → slots_of t ≡ type_row ∷ [] → Shelf b t (slots_at b n)
  shelf-at n t kind rows =
      let its : Its b n t = its-record b h.shape n t kind in
      let at : slots_at b n ≡ its.of.slots = ap (λ (o : Option Record). option_map_or (λ (r : Record). r.slots) o []) its.there in
      subst (Shelf b t) (sym at)
      (shelf-of b t its.of.slots (subst (λ (ps : List Property). HasSlots t ps its.of.slots) rows its.slots)
      (sym (ap (λ (xs : List (List ℕ × Slot)). option_map (λ (s : List ℕ × Slot). s.1) (find (λ (s : List ℕ × Slot). bytes_eq s.0 (codes "type")) xs)) at)
      ∙ type-slot n t kind))

  sight-shelf : (n : ℕ) (t : TypeId) → kind_of b n ≡ Some t → slots_of t ≡ type_row ∷ [] → plain_shows t prop.Type ≡ value (val.Text (type_name t))
      → (path : List ℕ) → path_text b n ≡ path → (k : Shelf b t (slots_at b n)) (extra : List (List ℕ × Shown)) → map (show b) k.behind ≡ extra
      → sight b n ≡ seen_as path t (plain_shows t) extra
  sight-shelf n t kind rows shows path told k extra is =
      let front : map (λ (p : Property). (property_name p.name, plain_shows t p.name)) (slots_of t) ≡ (codes "type", value (val.Text (type_name t))) ∷ [] =
      ap (map (λ (p : Property). (property_name p.name, plain_shows t p.name))) rows ∙ ap (λ (s : Shown). (codes "type", s) ∷ []) shows in
      ap (λ (p : List ℕ). made p (kind_of b n) (map (show b) (slots_at b n))) told
      ∙ ap (λ (o : Option TypeId). made path o (map (show b) (slots_at b n))) kind
      ∙ ap (made path (Some t)) (k.so ∙ ap (shelf_slots t) is)
      ∙ ap (λ (xs : List (List ℕ × Shown)). made path (Some t) (xs ++ extra)) (sym front)

  -- a container, or the machine
  abbrev child_shown : List ℕ × ℕ → List ℕ × Shown
  child_shown e = (e.0, names (path_text b e.1))

  container-row : slots_of Container ≡ type_row ∷ []
  unfolding types
  container-row = refl

  machine-row : slots_of Machine ≡ type_row ∷ []
  unfolding types
  machine-row = refl

  slot_bus-row : slots_of SlotBus ≡ type_row ∷ []
  unfolding types
  slot_bus-row = refl

  mem_bus-row : slots_of MemBus ≡ type_row ∷ []
  unfolding types
  mem_bus-row = refl

  pub sight-container : (n : ℕ) → kind_of b n ≡ Some Container → (path : List ℕ) → path_text b n ≡ path → (children : List (List ℕ × List ℕ))
      → map (λ (e : List ℕ × ℕ). (e.0, path_text b e.1)) (child_entries b n) ≡ children → sight b n ≡ shelf_seen path Container children
  sight-container n kind path told children is =
      let k : Shelf b Container (slots_at b n) = shelf-at n Container kind container-row in
      sight-shelf n Container kind container-row refl path told k (map (λ (c : List ℕ × List ℕ). (c.0, names c.1)) children)
      (children-show b k.behind k.extra ∙ ap (map child_shown) (sym k.children) ∙ twice (child_entries b n)
      ∙ ap (map (λ (c : List ℕ × List ℕ). (c.0, names c.1))) is)
    where
      twice : (es : List (List ℕ × ℕ)) → map child_shown es ≡ map (λ (c : List ℕ × List ℕ). (c.0, names c.1)) (map (λ (e : List ℕ × ℕ). (e.0, path_text b e.1)) es)
      twice [] = refl
      twice (e ∷ es) = ap (λ (xs : List (List ℕ × Shown)). child_shown e ∷ xs) (twice es)

  pub sight-machine : (n : ℕ) → kind_of b n ≡ Some Machine → (path : List ℕ) → path_text b n ≡ path → (children : List (List ℕ × List ℕ))
      → map (λ (e : List ℕ × ℕ). (e.0, path_text b e.1)) (child_entries b n) ≡ children → sight b n ≡ shelf_seen path Machine children
  sight-machine n kind path told children is =
      let k : Shelf b Machine (slots_at b n) = shelf-at n Machine kind machine-row in
      sight-shelf n Machine kind machine-row refl path told k (map (λ (c : List ℕ × List ℕ). (c.0, names c.1)) children)
      (children-show b k.behind k.extra ∙ ap (map child_shown) (sym k.children) ∙ twice (child_entries b n)
      ∙ ap (map (λ (c : List ℕ × List ℕ). (c.0, names c.1))) is)
    where
      twice : (es : List (List ℕ × ℕ)) → map child_shown es ≡ map (λ (c : List ℕ × List ℕ). (c.0, names c.1)) (map (λ (e : List ℕ × ℕ). (e.0, path_text b e.1)) es)
      twice [] = refl
      twice (e ∷ es) = ap (λ (xs : List (List ℕ × Shown)). child_shown e ∷ xs) (twice es)

  -- a bus
  pub sight-slot_bus : (n : ℕ) → kind_of b n ≡ Some SlotBus → (path : List ℕ) → path_text b n ≡ path → (kids : List (List ℕ × Shown))
      → map child_shown (kid_entries b n) ≡ kids → sight b n ≡ seen_as path SlotBus (plain_shows SlotBus) kids
  sight-slot_bus n kind path told kids is =
      let k : Shelf b SlotBus (slots_at b n) = shelf-at n SlotBus kind slot_bus-row in
      sight-shelf n SlotBus kind slot_bus-row refl path told k kids (kids-show b k.behind k.extra ∙ ap (map child_shown) (sym k.kids) ∙ is)

  pub sight-mem_bus : (n : ℕ) → kind_of b n ≡ Some MemBus → (path : List ℕ) → path_text b n ≡ path → (kids : List (List ℕ × Shown))
      → map child_shown (kid_entries b n) ≡ kids → sight b n ≡ seen_as path MemBus (plain_shows MemBus) kids
  sight-mem_bus n kind path told kids is =
      let k : Shelf b MemBus (slots_at b n) = shelf-at n MemBus kind mem_bus-row in
      sight-shelf n MemBus kind mem_bus-row refl path told k kids (kids-show b k.behind k.extra ∙ ap (map child_shown) (sym k.kids) ∙ is)

  -- ---- a clock

  clock-rows : (n : ℕ) → kind_of b n ≡ Some Clock → (period mul div : ℕ) (source : List ℕ) → slot_named b n (codes "period") ≡ Some (plain (val.Uint period))
      → slot_named b n (codes "mul") ≡ Some (plain (val.Uint mul)) → slot_named b n (codes "div") ≡ Some (plain (val.Uint div))
      → (s : Slot) → slot_named b n (codes "source") ≡ Some s → shown b s ≡ names source
      → AllByRecursion (RowSeen b n (clock_shows period mul div source)) (slots_of Clock)
  unfolding types
  clock-rows n kind period mul div source at_period at_mul at_div s at_source leads = (
    record { slot = plain (val.Text (type_name Clock)); found = type-slot n Clock kind; so = refl },
    (
      record { slot = plain (val.Uint period); found = at_period; so = refl },
      (
        record { slot = plain (val.Uint mul); found = at_mul; so = refl },
        (record { slot = plain (val.Uint div); found = at_div; so = refl }, (record { slot = s; found = at_source; so = leads }, tt)),
      ),
    ),
  )

  pub sight-clock : (n : ℕ) → kind_of b n ≡ Some Clock → (path : List ℕ) → path_text b n ≡ path → (period mul div : ℕ) (source : List ℕ)
      → slot_named b n (codes "period") ≡ Some (plain (val.Uint period)) → slot_named b n (codes "mul") ≡ Some (plain (val.Uint mul))
      → slot_named b n (codes "div") ≡ Some (plain (val.Uint div)) → (s : Slot) → slot_named b n (codes "source") ≡ Some s → shown b s ≡ names source
      → sight b n ≡ seen_as path Clock (clock_shows period mul div source) []
  sight-clock n kind path told period mul div source at_period at_mul at_div s at_source leads =
      sight-bare b h n Clock kind path told (λ x y. y) (clock_shows period mul div source)
      (clock-rows n kind period mul div source at_period at_mul at_div s at_source leads)
