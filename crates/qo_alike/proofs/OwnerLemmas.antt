-- The links of users' objects and devices show as they are said.
use Rattle.std.proofs.Common.{◌≡◌, ◌≢◌, ◌⊎◌, inl, inr, refl, ap, sym, subst, ◌∙◌, ℕ, Bool, true, false, ◌==◌, List, [], ◌++◌, Option, Some, option_and_then, codes, arith}
use Rattle.qo_model.proofs.Common.{AllByRecursion, IsDistinct, option_map_or, bytes_eq, OBJECTS_BIRTH, PERIPHERAL_BIRTH, TypeId, Board, Record, Slot, plain, child, strong, weak, alias, kind_of, slot_named, slots_at, target_of, may_set, path_down_to, property_named}
use Rattle.std.proofs.lemmas.Bool.{eq-eqb, eqb-true}
use Rattle.qo_values.proofs.ListLemmas.{all-imply}
use Rattle.qo_model.specs.Properties.{path_text, target_text}
use Rattle.qo_model.specs.declared.properties.Property.{Property}
use Rattle.qo_model.specs.declared.properties.PropertyRole.{PropertyRole}
use Rattle.qo_model.specs.declared.properties.PropertyRole.TheVariants as row
use Rattle.qo_save.specs.Described.{description, is_link, is_set}
use Rattle.qo_save.specs.Like.{names, shown}
use Rattle.qo_sound.proofs.SlotLemmas.{names_in}
use Rattle.qo_sound.proofs.TestLemmas.{clash, decide}
use Rattle.qo_sound_devices.specs.SoundPlaces.{child_entries}
use Rattle.qo_sound_devices.proofs.DropLemmas.{names-at}
use Rattle.qo_sound_shapes.specs.SoundShape.{HasRole}
use Rattle.qo_ways.specs.Ways.{IsInOrder}
use Rattle.qo_good.specs.Good.{device_path, object_path, OneOf}
use Rattle.qo_good.proofs.ItemLemmas.{all-append}
use Rattle.qo_good.proofs.PartLemmas.{devices, Here, users}
use Rattle.qo_good.proofs.PlaceLemmas.{apart, device-way, firm, object-way, one-at, told}
use Rattle.qo_good.proofs.ValueLemmas.{Its, its-record}
use Rattle.qo_alike.specs.Seen.{link_said}
use Rattle.qo_alike.proofs.LinkSaidLemmas.{link-leads}

-- a slot as a row of a link says
pub link-shape : (b : Board) (holds : Bool) (to : TypeId) (s : Slot) → HasRole (row.Link to holds) s
    → (is_link s ≡ true) × (shown b s ≡ names (target_text b (target_of s)))
link-shape b true to (strong t target) h = (refl, refl)
link-shape b false to (weak t target) h = (refl, refl)
link-shape b true to (plain v) h = absurd h
link-shape b true to (child m) h = absurd h
link-shape b true to (weak t target) h = absurd h
link-shape b true to (alias m of) h = absurd h
link-shape b false to (plain v) h = absurd h
link-shape b false to (child m) h = absurd h
link-shape b false to (strong t target) h = absurd h
link-shape b false to (alias m of) h = absurd h

module _ (b : Board) (h : IsInOrder b) where
  -- the objects whose links are said
  abbrev pub owners : List (List ℕ × ℕ)
  owners = child_entries b OBJECTS_BIRTH ++ child_entries b PERIPHERAL_BIRTH

  module _ (n : ℕ) (path : List ℕ) (way : path_down_to b n ≡ Some path) (text : path_text b n ≡ path) where
    differs : (m : ℕ) (other : List ℕ) → path_down_to b m ≡ Some other → path_text b m ≡ other → (path_text b m ≢ path_text b n) ⊎ (m ≡ n)
    differs m other leads tells =
        decide (m == n) (λ q. inr (eqb-true m n q))
        (λ q. inl (λ same.
        let paths : other ≡ path = sym tells ∙ same ∙ text in
        let one : m ≡ n = one-at b h m n path (leads ∙ ap Some paths) way in
        clash (sym (eq-eqb m n one) ∙ q)))

    all-differ : AllByRecursion (λ (e : List ℕ × ℕ). (path_text b e.1 ≢ path_text b n) ⊎ (e.1 ≡ n)) (child_entries b OBJECTS_BIRTH ++ child_entries b PERIPHERAL_BIRTH)
    all-differ =
        all-append (λ (e : List ℕ × ℕ). (path_text b e.1 ≢ path_text b n) ⊎ (e.1 ≡ n)) (child_entries b OBJECTS_BIRTH) (child_entries b PERIPHERAL_BIRTH)
        (all-imply (Here b OBJECTS_BIRTH (codes "user-creatable")) (λ (e : List ℕ × ℕ). (path_text b e.1 ≢ path_text b n) ⊎ (e.1 ≡ n)) (λ e k.
        let way : path_down_to b e.1 ≡ Some (object_path e.0) = object-way b h e.1 e.0 k.there in
        differs e.1 (object_path e.0) way (told b h e.1 (object_path e.0) (apart b h OBJECTS_BIRTH e (omega arith) k.there) way)) (child_entries b OBJECTS_BIRTH)
        (users b h))
        (all-imply (Here b PERIPHERAL_BIRTH (codes "device")) (λ (e : List ℕ × ℕ). (path_text b e.1 ≢ path_text b n) ⊎ (e.1 ≡ n)) (λ e k.
        let way : path_down_to b e.1 ≡ Some (device_path e.0) = device-way b h e.1 e.0 k.there in
        differs e.1 (device_path e.0) way (told b h e.1 (device_path e.0) (apart b h PERIPHERAL_BIRTH e (omega arith) k.there) way))
        (child_entries b PERIPHERAL_BIRTH) (devices b h))

    -- a link shows as it is said
    pub link-seen : (t : TypeId) → kind_of b n ≡ Some t → (name : List ℕ) (p : Property) (to : TypeId) (holds : Bool) → property_named t name ≡ Some p
        → p.role ≡ row.Link to holds → may_set p.access ≡ true → (s : Slot) → slot_named b n name ≡ Some s → HasRole p.role s
        → OneOf (λ (e : List ℕ × ℕ). e.1 ≡ n) (child_entries b OBJECTS_BIRTH ++ child_entries b PERIPHERAL_BIRTH)
        → shown b s ≡ names (link_said (description b) path name)
    link-seen t kind name p to holds its_row role set s found fits one =
        let shape = link-shape b holds to s (subst (λ (r : PropertyRole). HasRole r s) role fits) in
        let settable : is_set b n name ≡ true =
        ap (λ (o : Option TypeId). option_map_or (λ (x : Property). may_set x.access) (option_and_then (λ (k : TypeId). property_named k name) o) false) kind
        ∙ ap (λ (o : Option Property). option_map_or (λ (x : Property). may_set x.access) o false) its_row
        ∙ set in
        let its : Its b n t = its-record b h.shape n t kind in
        let once : IsDistinct bytes_eq (names_in (slots_at b n)) =
        subst (λ (o : Option Record). IsDistinct bytes_eq (names_in (option_map_or (λ (r : Record). r.slots) o []))) (sym its.there)
        (names-at b (firm b h) n its.of its.there) in
        let leads =
        link-leads b (child_entries b OBJECTS_BIRTH ++ child_entries b PERIPHERAL_BIRTH) n name s shape.0 settable once found all-differ one in
        let says : link_said (description b) path name ≡ target_text b (target_of s) =
        sym (ap (λ (x : List ℕ). link_said (description b) x name) text) ∙ leads in
        shape.1 ∙ ap names (sym says)
