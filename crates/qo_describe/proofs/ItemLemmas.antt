-- What is told of clocks, devices, users' objects and links, one after another.
use Rattle.std.proofs.Common.{◌≡◌, ℕ, zero, suc, ◌+◌, ◌==◌, ◌&&◌, Bool, true, false, cond, List, [], ◌∷◌, ◌++◌, codes, length, map, take, refl, sym, ap, ◌∙◌, arith}
use Rattle.std.proofs.Common.{Option, None, Some, is_some, option_map, unwrap_or}
use Rattle.std.proofs.Math.Dec.{eqb-suc-zero}
use Rattle.std.proofs.lemmas.List.{length-map, map-append}
use Rattle.std.specs.Prelude.{filter_map, find, flat_map, option_and_then, slice_get}
use Rattle.std.specs.List.{cons_option}
use Rattle.std.specs.Option.{option_map_or}
use Rattle.std.specs.Str.{bytes_eq}
use Rattle.serde_json.specs.Data.{Data}
use Rattle.qo_object.specs.BoardObject.{shown_slots}
use Rattle.qo_object.specs.Content.{Content}
use Rattle.qo_heap.specs.Board.{Shows}
use Rattle.qo_heap.specs.Objects.{Objects, content_of}
use Rattle.qo_heap.proofs.BoardReads.{shows-kind, shows-slots}
use Rattle.qo_model.specs.Board as board
use Rattle.qo_model.specs.Clocks.{div_of, mul_of}
use Rattle.qo_model.specs.Devices.{clock_of, number_at, number_in, plain_in}
use Rattle.qo_model.specs.Paths.{child_of, children_of}
use Rattle.qo_values.specs.declared.kinds.TypeId.{TypeId}
use Rattle.qo_sound_devices.specs.SoundPlaces.{child_entries, child_entry}
use Rattle.qo_save.specs.Described.{clock_numbers, clock_item, clock_item_of, device_item, device_of, factors_of, is_link, is_set, link_item, link_items, link_to, object_item, object_of}
use Rattle.qo_save.specs.Description.{clock_data, clock_item_data, clock_names, device_data, link_data, named, object_data, whole}
use Rattle.qo_values.specs.declared.births.TheConstants.{SYSTEM_CLOCK_BIRTH}
use Rattle.qo_describe.specs.Told.{clock_told, entry_told, link_entry, link_told}
use Rattle.qo_describe.specs.declared.parts.Part.TheVariants.{Clocks, Devices, Links, Objects as Things}
use Rattle.qo_describe.proofs.WalkLemmas.{each-given, one-by-one}

abbrev Entry : Type 0
Entry = List ℕ × ℕ

-- an object that is not there has no slots
pub slots-gone : (b : board.Board) (v : Objects) → Shows b v → (n : ℕ) → content_of v n ≡ None → board.slots_at b n ≡ []
slots-gone b v s n gone = shows-slots b v s n ∙ ap (λ (o : Option Content). shown_slots (option_map_or (λ (c : Content). c.slots) o [])) gone

pub entries-gone : (b : board.Board) (v : Objects) → Shows b v → (n : ℕ) → content_of v n ≡ None → child_entries b n ≡ []
entries-gone b v s n gone = ap (filter_map child_entry) (slots-gone b v s n gone)

-- and no numbers
pub number-gone : (b : board.Board) (v : Objects) → Shows b v → (n other : ℕ) (name : List ℕ) → content_of v n ≡ None
    → other ≡ unwrap_or (number_at b n name) other
number-gone b v s n other name gone =
    sym (ap (λ (slots : List (List ℕ × board.Slot)). unwrap_or (option_and_then number_in (option_and_then plain_in
    (option_map (λ (t : List ℕ × board.Slot). t.1) (find (λ (t : List ℕ × board.Slot). bytes_eq t.0 name) slots)))) other) (slots-gone b v s n gone))

-- so the system clock is told where it is not there
pub clock-gone : (b : board.Board) (v : Objects) → Shows b v → content_of v SYSTEM_CLOCK_BIRTH ≡ None
    → named clock_names (whole 1 ∷ whole 1 ∷ whole 0 ∷ []) ≡ clock_data (clock_numbers b)
clock-gone b v s gone =
    ap (λ (n : ℕ). named clock_names (whole n ∷ whole 1 ∷ whole 0 ∷ [])) (number-gone b v s SYSTEM_CLOCK_BIRTH 1 (codes "div") gone)
    ∙ ap (λ (n : ℕ). named clock_names (whole (div_of b SYSTEM_CLOCK_BIRTH) ∷ whole n ∷ whole 0 ∷ []))
    (number-gone b v s SYSTEM_CLOCK_BIRTH 1 (codes "mul") gone)
    ∙ ap (λ (n : ℕ). named clock_names (whole (div_of b SYSTEM_CLOCK_BIRTH) ∷ whole (mul_of b SYSTEM_CLOCK_BIRTH) ∷ whole n ∷ []))
    (number-gone b v s SYSTEM_CLOCK_BIRTH 0 (codes "period") gone)

-- what is told of a clock
pub clock-told : (b : board.Board) (c : ℕ) → ((mul_of b c == 1) && (div_of b c == 1)) ≡ false → clock_told b c ≡ clock_item_data (factors_of b c) ∷ []
clock-told b c scales = ap (λ (t : Bool). map clock_item_data (cons_option (cond t None (Some (factors_of b c))) [])) scales

pub clock-quiet : (b : board.Board) (c : ℕ) → ((mul_of b c == 1) && (div_of b c == 1)) ≡ true → clock_told b c ≡ []
clock-quiet b c plain = ap (λ (t : Bool). map clock_item_data (cons_option (cond t None (Some (factors_of b c))) [])) plain

-- that of a device
pub clock-of-some : (b : board.Board) (name : List ℕ) (n c : ℕ) → Some c ≡ clock_of b n → clock_told b c ≡ entry_told Clocks b (name, n)
clock-of-some b name n c is = ap (λ (o : Option ℕ). map clock_item_data (cons_option (option_and_then (clock_item b) o) [])) is

pub clock-of-none : (b : board.Board) (name : List ℕ) (n : ℕ) → None ≡ clock_of b n → [] ≡ entry_told Clocks b (name, n)
clock-of-none b name n is = ap (λ (o : Option ℕ). map clock_item_data (cons_option (option_and_then (clock_item b) o) [])) is

-- what is told of a device and of a user's object
told-one : {X : Type 0} (g : X → Data) (o : Option X) (d : Data) → option_map g o ≡ Some d → d ∷ [] ≡ map g (cons_option o [])
told-one g None d is = absurd (let clash : None ≡ Some d = is in cc)
told-one g (Some x) d is = ap (λ (z : Data). z ∷ []) (let same : Some (g x) ≡ Some d = is in cc)

pub device-told : (b : board.Board) (e : Entry) (d : Data) → option_map device_data (device_item b e) ≡ Some d → d ∷ [] ≡ entry_told Devices b e
device-told b e d is = told-one device_data (device_item b e) d is

pub object-told : (b : board.Board) (e : Entry) (d : Data) → option_map object_data (object_item b e) ≡ Some d → d ∷ [] ≡ entry_told Things b e
object-told b e d is = told-one object_data (object_item b e) d is

pub device-by : (b : board.Board) (v : Objects) → Shows b v → (e : Entry) (t : TypeId) (d : Data)
    → option_map (λ (c : Content). c.kind) (content_of v e.1) ≡ Some t
    → d ≡ device_data (device_of b e t) → option_map device_data (device_item b e) ≡ Some d
device-by b v s e t d kind is =
    ap (λ (o : Option TypeId). option_map device_data (option_map (device_of b e) o)) (shows-kind b v s e.1 ∙ kind) ∙ ap Some (sym is)

pub object-by : (b : board.Board) (v : Objects) → Shows b v → (e : Entry) (t : TypeId) (d : Data)
    → option_map (λ (c : Content). c.kind) (content_of v e.1) ≡ Some t
    → d ≡ object_data (object_of b e t) → option_map object_data (object_item b e) ≡ Some d
object-by b v s e t d kind is =
    ap (λ (o : Option TypeId). option_map object_data (option_map (object_of b e) o)) (shows-kind b v s e.1 ∙ kind) ∙ ap Some (sym is)

-- a link of an object
pub link-by : (b : board.Board) (n : ℕ) (s : List ℕ × board.Slot) → link_item b n s ≡ option_map (λ (e : Entry). link_to b n e.0 e.1) (link_entry b n s)
link-by b n s = go (is_link s.1 && is_set b n s.0) (board.target_of s.1)
  where
    go : (t : Bool) (target : Option ℕ) → cond t (option_map (link_to b n s.0) target) None
        ≡ option_map (λ (e : Entry). link_to b n e.0 e.1) (cond t (option_map (λ (m : ℕ). (s.0, m)) target) None)
    go true None = refl
    go true (Some m) = refl
    go false target = refl

linked : (b : board.Board) (n : ℕ) (o : Option (List ℕ × board.Slot))
    → option_and_then (link_item b n) o ≡ option_map (λ (e : Entry). link_to b n e.0 e.1) (option_and_then (link_entry b n) o)
linked b n None = refl
linked b n (Some s) = link-by b n s

pub link-some : (b : board.Board) (n : ℕ) (e : Entry) (o : Option (List ℕ × board.Slot)) → Some e ≡ option_and_then (link_entry b n) o
    → Some (link_to b n e.0 e.1) ≡ option_and_then (link_item b n) o
link-some b n e o is = sym (linked b n o ∙ ap (option_map (λ (x : Entry). link_to b n x.0 x.1)) (sym is))

pub link-none : (b : board.Board) (n : ℕ) (o : Option (List ℕ × board.Slot)) → None ≡ option_and_then (link_entry b n) o
    → None ≡ option_and_then (link_item b n) o
link-none b n o is = sym (linked b n o ∙ ap (option_map (λ (x : Entry). link_to b n x.0 x.1)) (sym is))

pub links-told : (b : board.Board) (name : List ℕ) (n : ℕ) → flat_map link_told (filter_map (link_item b n) (board.slots_at b n)) ≡ entry_told Links b (name, n)
links-told b name n = one-by-one link_data (link_items b (name, n))

-- all of them
pub clocks-all : (b : board.Board) (es : List Entry) → flat_map (entry_told Clocks b) es ≡ map clock_item_data (filter_map (clock_item_of b) es)
clocks-all b es = each-given clock_item_data (clock_item_of b) es

pub devices-all : (b : board.Board) (es : List Entry) → flat_map (entry_told Devices b) es ≡ map device_data (filter_map (device_item b) es)
devices-all b es = each-given device_data (device_item b) es

pub objects-all : (b : board.Board) (es : List Entry) → flat_map (entry_told Things b) es ≡ map object_data (filter_map (object_item b) es)
objects-all b es = each-given object_data (object_item b) es

mapped : {X Y Z : Type 0} (g : Y → Z) (f : X → List Y) (xs : List X) → flat_map (λ (x : X). map g (f x)) xs ≡ map g (flat_map f xs)
mapped g f [] = refl
mapped g f (x ∷ xs) = ap (λ l. map g (f x) ++ l) (mapped g f xs) ∙ sym (map-append g (f x) (flat_map f xs))

pub links-all : (b : board.Board) (es : List Entry) → flat_map (entry_told Links b) es ≡ map link_data (flat_map (link_items b) es)
links-all b es = mapped link_data (link_items b) es

-- children by name, and children
children-named : (slots : List (List ℕ × board.Slot))
    → filter_map (λ (s : List ℕ × board.Slot). child_of s.1) slots ≡ map (λ (e : Entry). e.1) (filter_map child_entry slots)
children-named [] = refl
children-named ((name, board.plain v) ∷ slots) = children-named slots
children-named ((name, board.child m) ∷ slots) = ap (λ l. m ∷ l) (children-named slots)
children-named ((name, board.strong t target) ∷ slots) = children-named slots
children-named ((name, board.weak t target) ∷ slots) = children-named slots
children-named ((name, board.alias m of) ∷ slots) = children-named slots

pub no-children : (b : board.Board) (n : ℕ) → child_entries b n ≡ [] → (length (children_of b n) == 0) ≡ true
no-children b n none =
    ap (λ (l : List ℕ). length l == 0) (children-named (board.slots_at b n) ∙ ap (map (λ (e : Entry). e.1)) none)

found-one : (slots : List (List ℕ × board.Slot)) (i : ℕ) (e : Entry) → Some e ≡ option_and_then child_entry (slice_get slots i)
    → (length (filter_map child_entry slots) == 0) ≡ false
found-one [] i e is = absurd (let clash : Some e ≡ None = is in cc)
found-one (s ∷ slots) zero e is = go (child_entry s) is
  where
    go : (o : Option Entry) → Some e ≡ o → (length (cons_option o (filter_map child_entry slots)) == 0) ≡ false
    go None clash = absurd (let no : Some e ≡ None = clash in cc)
    go (Some x) same = eqb-suc-zero (length (filter_map child_entry slots))
found-one (s ∷ slots) (suc i) e is = go (child_entry s) (found-one slots i e is)
  where
    go : (o : Option Entry) → (length (filter_map child_entry slots) == 0) ≡ false → (length (cons_option o (filter_map child_entry slots)) == 0) ≡ false
    go None rest = rest
    go (Some x) rest = eqb-suc-zero (length (filter_map child_entry slots))

pub child-there : (b : board.Board) (n i : ℕ) (found : Option Entry) → is_some found ≡ true
    → found ≡ option_and_then child_entry (slice_get (board.slots_at b n) i)
    → (length (children_of b n) == 0) ≡ false
child-there b n i None some is = absurd (let clash : false ≡ true = some in cc)
child-there b n i (Some e) some is =
    ap (λ (l : List ℕ). length l == 0) (children-named (board.slots_at b n))
    ∙ ap (λ (k : ℕ). k == 0) (length-map (filter_map child_entry (board.slots_at b n)) (λ (x : Entry). x.1)) ∙ found-one (board.slots_at b n) i e is

-- no child stands in the slots passed over
pub none-more : (i : ℕ) (slots : List (List ℕ × board.Slot)) → filter_map child_entry (take i slots) ≡ []
    → None ≡ option_and_then child_entry (slice_get slots i)
    → filter_map child_entry (take (i + 1) slots) ≡ []
none-more i [] none is = go (i + 1)
  where
    go : (k : ℕ) → filter_map child_entry (take k []) ≡ []
    go zero = refl
    go (suc k) = refl
none-more zero (s ∷ slots) none is = ap (λ (o : Option Entry). cons_option o []) (sym is)
none-more (suc i) (s ∷ slots) none is =
    let one : suc i + 1 ≡ suc (i + 1) = omega arith in
    ap (λ k. filter_map child_entry (take k (s ∷ slots))) one ∙ go (child_entry s) (λ rest. none-more i slots rest is) none
  where
    go : (o : Option Entry) → (filter_map child_entry (take i slots) ≡ [] → filter_map child_entry (take (i + 1) slots) ≡ [])
        → cons_option o (filter_map child_entry (take i slots)) ≡ [] → cons_option o (filter_map child_entry (take (i + 1) slots)) ≡ []
    go None more rest = more rest
    go (Some x) more clash = absurd (let no : x ∷ filter_map child_entry (take i slots) ≡ [] = clash in cc)
