-- An empty link is written at the path of its object, to a target by its path: what the board is then.
use Rattle.std.proofs.Common.{◌≡◌, refl, ap, sym, subst, ◌∙◌, ℕ, suc, ◌+◌, ◌==◌, length, ltb, cond, arith, Bool, true, false, eqb, List, [], ◌∷◌, filter_map, position, slice_get, is_some, Option, Some, None, option_map, option_and_then, codes, Result, Ok, Err}
use Rattle.std.proofs.lemmas.Bool.{eq-eqb, eqb-true}
use Rattle.std.specs.List.{position_or_len}
use Rattle.std.proofs.lemmas.Bool.Decides.{nat_tests}
use Rattle.std.proofs.lemmas.Option.{same_Some}
use Rattle.std.proofs.lemmas.Slice.Eq.{bytes_eq-Decides}
use Rattle.qo_model.proofs.Common.{if◌then◌else◌, bytes_eq, type_name, ROOT_BIRTH, E15, E16, E17, E18, E31, Code, TypeId, Val, Board, Record, Slot, plain, child, strong, weak, alias, kind_of, record_of, slot_at, slot_named, slots_at, changed_at, point, pointed, with_changed, wrote, after_write, canonical, found, is_of, link_target, linked, may_set, property_name, property_named, relinked, resolve, write, write_at, written, written_by, drop_slot, edit, edited, emptied, with_dropped, without_hold, walk, Resolution, missing, several, is_set, only_set, set_row, clock_property_written, led_to, finalize, after, pointed_at}
use Rattle.qo_values.specs.declared.properties.Val.TheVariants as val
use Rattle.qo_model.specs.Board.{referent}
use Rattle.qo_model.specs.Paths.{components, is_absolute, path_down_to}
use Rattle.qo_model.specs.declared.properties.Access.{Access}
use Rattle.qo_model.specs.declared.properties.Access.TheVariants.{Never, Add, Both, Set}
use Rattle.qo_model.specs.declared.properties.Property.{Property}
use Rattle.qo_model.specs.declared.properties.PropertyRole.{PropertyRole}
use Rattle.qo_model.specs.declared.properties.PropertyRole.TheVariants as row
use Rattle.qo_model.proofs.FirstSlotLemmas.{named_in, slots_in}
use Rattle.qo_model.proofs.StepLemmas.{found-birth, found-edited}
use Rattle.qo_sound.proofs.FirmBoardLemmas.{edited-kind}
use Rattle.qo_sound_devices.specs.SoundPlaces.{child_entries, child_entry}
use Rattle.qo_sound_devices.proofs.UnrealizingLemmas.{entries-changed}
use Rattle.qo_ways.specs.Ways.{IsInOrder}
use Rattle.qo_good.specs.GoodBoards.{IsWhole}
use Rattle.qo_ways.proofs.WaysLawLemmas.{ways_lem}
use Rattle.qo_ways.proofs.WayLemmas.{Below, below-root, root-components}
use Rattle.qo_rebuilt.proofs.NumberLemmas.{at_of, set_at}
use Rattle.qo_rebuilt.proofs.WholeLemmas.{whole_kept_lem}
use Rattle.qo_rebuilt.proofs.WrittenLemmas.{IsRewritten}

-- ---- the slot of a name

-- the place of a name is one further behind a slot of another
shift : (p l m i : ℕ) → m ≡ suc l → cond (ltb p l) (Some p) None ≡ Some i → cond (ltb (1 + p) m) (Some (1 + p)) None ≡ Some (suc i)
shift p l m i more e = go (ltb p l) refl
  where
    go : (t : Bool) → ltb p l ≡ t → cond (ltb (1 + p) m) (Some (1 + p)) None ≡ Some (suc i)
    go true q =
        let same : p ≡ i = same_Some p i (rw q at e) in
        let next : 1 + p ≡ suc i = omega (arith, same) in
        let low : ltb (1 + p) m ≡ true = grind (arith, nat_tests, q, more) in
        rw low (ap Some next)
    go false q = absurd (let clash : None ≡ Some i = rw q at e in cc)

position-first : (name : List ℕ) (x : List ℕ × Slot) (slots : List (List ℕ × Slot)) → bytes_eq x.0 name ≡ true
    → position (λ (y : List ℕ × Slot). bytes_eq y.0 name) (x ∷ slots) ≡ Some 0
position-first name x slots q =
    let low : ltb 0 (suc (length slots)) ≡ true = grind (arith, nat_tests) in
    rw q (rw low refl)

position-next : (name : List ℕ) (x : List ℕ × Slot) (slots : List (List ℕ × Slot)) (i : ℕ) → bytes_eq x.0 name ≡ false
    → position (λ (y : List ℕ × Slot). bytes_eq y.0 name) slots ≡ Some i → position (λ (y : List ℕ × Slot). bytes_eq y.0 name) (x ∷ slots) ≡ Some (suc i)
position-next name x slots i q e =
    rw q (shift (position_or_len (λ (y : List ℕ × Slot). bytes_eq y.0 name) slots) (length slots) (length (x ∷ slots)) i refl e)

record Place (name : List ℕ) (slots : List (List ℕ × Slot)) (s : Slot) : Type 0 where
  place : ℕ
  at : position (λ (x : List ℕ × Slot). bytes_eq x.0 name) slots ≡ Some place
  there : slice_get slots place ≡ Some (name, s)
  own : (g : Slot → Slot) → named_in name (changed_at g place slots) ≡ Some (g s)
  others : (g : Slot → Slot) (other : List ℕ) → bytes_eq name other ≡ false → named_in other (changed_at g place slots) ≡ named_in other slots
  empty : emptied s ≡ Some s → without_hold place slots ≡ slots

place-of : (name : List ℕ) (slots : List (List ℕ × Slot)) (s : Slot) → named_in name slots ≡ Some s → Place name slots s
place-of name [] s e = absurd (let clash : None ≡ Some s = e in cc)
place-of name (x ∷ slots) s e = go (bytes_eq x.0 name) refl (place-of name slots s)
  where
    go : (t : Bool) → bytes_eq x.0 name ≡ t → (named_in name slots ≡ Some s → Place name slots s) → Place name (x ∷ slots) s
    go true q rest =
        let same : x.1 ≡ s = same_Some x.1 s (rw q at e) in
        let named : x.0 ≡ name = (bytes_eq-Decides x.0 name).0 q in
        record {
          place = 0;
          at = position-first name x slots q;
          there = ap (λ (y : List ℕ). Some (y, x.1)) named ∙ ap (λ (y : Slot). Some (name, y)) same;
          own = λ g. rw q (ap (λ (y : Slot). Some (g y)) same);
          others = λ g other apart. (let no : bytes_eq x.0 other ≡ false = ap (λ (y : List ℕ). bytes_eq y other) named ∙ apart in rw no refl);
          empty = λ holds. (let left : emptied x.1 ≡ Some x.1 = ap emptied same ∙ holds ∙ ap Some (sym same) in rw (without_hold, left) refl);
        }
    go false q rest =
        let k : Place name slots s = rest (rw q at e) in
        record {
          place = suc k.place;
          at = position-next name x slots k.place q k.at;
          there = k.there;
          own = λ g. rw q (k.own g);
          others = λ g other apart. by g other k.place (bytes_eq x.0 other) refl (k.others g other apart);
          empty = λ holds. ap (λ (xs : List (List ℕ × Slot)). x ∷ xs) (k.empty holds);
        }
      where
        by : (g : Slot → Slot) (other : List ℕ) (i : ℕ) (t : Bool) → bytes_eq x.0 other ≡ t → named_in other (changed_at g i slots) ≡ named_in other slots
            → named_in other (x ∷ changed_at g i slots) ≡ named_in other (x ∷ slots)
        by g other i true q same = rw q refl
        by g other i false q same = rw q same

-- ---- a path leads to its object, where that is of the wanted type

resolves : (b : Board) (m : ℕ) (path wanted : List ℕ) → is_absolute path ≡ true → walk b ROOT_BIRTH (components path) ≡ Some m → is_of b wanted m ≡ true
    → resolve b path wanted ≡ found m
resolves b m path wanted absolute leads its = rw (absolute, leads, its) refl

pub leads-to : (b : Board) → IsInOrder b → (m : ℕ) (path wanted : List ℕ) → canonical b m ≡ Some path → is_of b wanted m ≡ true
    → (resolve b path wanted ≡ found m) × (is_absolute path ≡ true)
leads-to b h m path wanted e its = go (m == ROOT_BIRTH) refl
  where
    go : (t : Bool) → (m == ROOT_BIRTH) ≡ t → (resolve b path wanted ≡ found m) × (is_absolute path ≡ true)
    go true p =
        let here : Some (codes "/") ≡ Some path = rw p at e in
        let is : codes "/" ≡ path = same_Some (codes "/") path here in
        let root : m ≡ ROOT_BIRTH = eqb-true m ROOT_BIRTH p in
        let own : is_of b wanted ROOT_BIRTH ≡ true = subst (λ (x : ℕ). is_of b wanted x ≡ true) root its in (
          subst (λ (x : ℕ). resolve b path wanted ≡ found x) (sym root)
              (subst (λ (q : List ℕ). resolve b q wanted ≡ found ROOT_BIRTH) is
              (resolves b ROOT_BIRTH (codes "/") wanted refl (ap (walk b ROOT_BIRTH) root-components) own)),
          ap is_absolute (sym is),
        )
    go false p =
        let down : path_down_to b m ≡ Some path = rw p at e in
        let below : Below b m path = below-root b m path p down in (
          resolves b m path wanted below.absolute (ways_lem.steps b h.devices.tree (ways_lem.named b h) m path down) its,
          below.absolute,
        )

abbrev target_by : Board → List ℕ → Resolution → Result (Option ℕ) Code
target_by b path (found m) = Ok (Some m)
target_by b path several = Err E16
target_by b path missing = elim (resolve b path (codes "object")) [ missing ↦ Err E15 | _ ↦ Err E31 ]

target-found : (b : Board) → IsInOrder b → (t : TypeId) (m : ℕ) (path : List ℕ) → canonical b m ≡ Some path → is_of b (type_name t) m ≡ true
    → link_target b t path ≡ Ok (Some m)
target-found b h t m path e its = by path (leads-to b h m path (type_name t) e its)
  where
    by : (q : List ℕ) → (resolve b q (type_name t) ≡ found m) × (is_absolute q ≡ true) → link_target b t q ≡ Ok (Some m)
    by [] both = absurd (let clash : false ≡ true = both.1 in cc)
    by (c ∷ cs) both = ap (target_by b (c ∷ cs)) both.0

-- ---- the slots of an object that is edited

slots-edit : (n : ℕ) (f : List (List ℕ × Slot) → List (List ℕ × Slot)) (b : Board) → f [] ≡ []
    → slots_at (edit n (λ (r : Record). record r { slots = f r.slots }) b) n ≡ f (slots_at b n)
slots-edit n f b none = ap slots_in (found-edited n (λ (r : Record). record r { slots = f r.slots }) (λ r. refl) n b.records) ∙ go (record_of b n) refl
  where
    go : (o : Option Record) → record_of b n ≡ o
        → slots_in (option_map (edited n (λ (r : Record). record r { slots = f r.slots })) o) ≡ f (slots_in o)
    go None e = sym none
    go (Some r) e = let own : eqb r.birth n ≡ true = eq-eqb r.birth n (found-birth n b.records r e) in rw (edited, own) refl

slots-beside : (n : ℕ) (change : Record → Record) → ((r : Record) → (change r).birth ≡ r.birth) → (b : Board) (x : ℕ) → eqb x n ≡ false
    → slots_at (edit n change b) x ≡ slots_at b x
slots-beside n change same b x p = ap slots_in (found-edited n change same x b.records) ∙ go (record_of b x) refl
  where
    go : (o : Option Record) → record_of b x ≡ o → slots_in (option_map (edited n change) o) ≡ slots_in o
    go None e = refl
    go (Some r) e = let other : eqb r.birth n ≡ false = ap (λ (k : ℕ). eqb k n) (found-birth x b.records r e) ∙ p in rw (edited, other) refl

-- ---- the write

-- an empty link to objects of a type
pub data IsEmpty (t : TypeId) : Slot → Type 0 where
  holding : IsEmpty t (strong t None)
  seeing : IsEmpty t (weak t None)

pub record LinkWritten (b c : Board) (n : ℕ) (name : List ℕ) (s : Slot) (m : ℕ) : Type 0 where
  pub whole : IsWhole c
  pub shape : IsRewritten b c
  pub notices : c.notices ≡ b.notices
  pub rings : c.rings ≡ b.rings
  pub slots : (x : ℕ) → eqb x n ≡ false → slots_at c x ≡ slots_at b x
  pub named : (other : List ℕ) → bytes_eq name other ≡ false → slot_named c n other ≡ slot_named b n other
  pub own : slot_named c n name ≡ Some (pointed m s)

both-access : (a : Access) → may_set a ≡ true → a ≡ Both
both-access Both e = refl
both-access Never e = absurd (let clash : false ≡ true = e in cc)
both-access Add e = absurd (let clash : false ≡ true = e in cc)
both-access Set e = absurd (let clash : false ≡ true = e in cc)

abbrev written_at : Board → ℕ → Val → Option Property → Option ℕ → Result Board Code
written_at b n v row None = Err E17
written_at b n v row (Some i) = written_by b n i row v

pub record Taken (b : Board) (n : ℕ) (own name value : List ℕ) (s : Slot) (m : ℕ) : Type 0 where
  pub board : Board
  pub done : write_at b own name (val.Text value) ≡ Ok board
  pub is : LinkWritten b board n name s m

mild-pointed : (m : ℕ) (x : List ℕ × Slot) → child_entry (x.0, pointed m x.1) ≡ child_entry x
mild-pointed m (name, plain v) = refl
mild-pointed m (name, child k) = refl
mild-pointed m (name, strong t target) = refl
mild-pointed m (name, weak t target) = refl
mild-pointed m (name, alias k of) = refl

stays-empty : (t : TypeId) (s : Slot) → IsEmpty t s → emptied s ≡ Some s
stays-empty t s holding = refl
stays-empty t s seeing = refl

module _ (b : Board) (h : IsWhole b) (n : ℕ) (t : TypeId) (kind : kind_of b n ≡ Some t) (p : Property)
    (own_row : property_named t (property_name p.name) ≡ Some p)
    (set : may_set p.access ≡ true) (to : TypeId) (holds : Bool) (role : p.role ≡ row.Link to holds) (s : Slot) (empty : IsEmpty to s)
    (at : slot_named b n (property_name p.name) ≡ Some s) (m : ℕ) (value : List ℕ) (leads : canonical b m ≡ Some value) (fits : is_of b (type_name to) m ≡ true)
    (path : List ℕ) (own_path : canonical b n ≡ Some path) where
  abbrev name : List ℕ
  name = property_name p.name

  k : Place (property_name p.name) (slots_at b n) s
  k = place-of (property_name p.name) (slots_at b n) s at

  last : Board
  last = point n k.place m (drop_slot b n k.place)

  slot-there : slot_at b n k.place ≡ Some s
  slot-there = ap (option_map (λ (x : List ℕ × Slot). x.1)) k.there

  relinked-so : relinked b n k.place (Some m) ≡ last
  unfolding last
  relinked-so =
      ap (λ (o : Option Slot).
      elim o as (λ _. Board) [ None ↦ b | Some x ↦ after finalize (pointed_at (Some m) n k.place (drop_slot b n k.place)) (referent x) ]) slot-there
      ∙ by s empty
    where
      by : (x : Slot) → IsEmpty to x
          → after finalize (pointed_at (Some m) n k.place (drop_slot b n k.place)) (referent x) ≡ point n k.place m (drop_slot b n k.place)
      by x holding = refl
      by x seeing = refl

  written-so : written b n k.place p.role (slot_at b n k.place) (val.Text value) ≡ Ok last
  written-so =
      ap (λ (r : PropertyRole). written b n k.place r (slot_at b n k.place) (val.Text value)) role
      ∙ ap (λ (o : Option Slot). written b n k.place (row.Link to holds) o (val.Text value)) slot-there
      ∙ by s empty
      ∙ ap (linked b n k.place) (target-found b h.order to m value leads fits)
      ∙ ap Ok relinked-so
    where
      by : (x : Slot) → IsEmpty to x → written b n k.place (row.Link to holds) (Some x) (val.Text value) ≡ linked b n k.place (link_target b to value)
      by x holding = refl
      by x seeing = refl

  write-so : write b n (property_name p.name) (val.Text value) ≡ Ok last
  write-so =
      ap (written_at b n (val.Text value) (option_and_then (λ (x : TypeId). property_named x (property_name p.name)) (kind_of b n))) k.at
      ∙ ap (λ (o : Option TypeId). written_by b n k.place (option_and_then (λ (x : TypeId). property_named x (property_name p.name)) o) (val.Text value)) kind
      ∙ ap (λ (o : Option Property). written_by b n k.place o (val.Text value)) own_row
      ∙ ap (λ (u : Bool). if u then written b n k.place p.role (slot_at b n k.place) (val.Text value) else Err E18) set
      ∙ written-so

  no-row : set_row b n (property_name p.name) ≡ None
  no-row =
      ap (λ (o : Option TypeId). option_and_then (λ (x : TypeId). option_and_then only_set (property_named x (property_name p.name))) o) kind
      ∙ ap (option_and_then only_set) own_row
      ∙ ap (λ (a : Access). if is_set a then Some p else None) (both-access p.access set)

  done-so : write_at b path (property_name p.name) (val.Text value) ≡ Ok last
  done-so =
      ap (set_at b (property_name p.name) (val.Text value)) (ap at_of (ways_lem.canonical_leads b h.order n path own_path))
      ∙ ap
      (λ (o : Option Property).
      if is_some o then clock_property_written b (val.Text value) (led_to b n (property_name p.name)) else write b n (property_name p.name) (val.Text value))
      no-row
      ∙ write-so

  -- what is after it
  slots-own : slots_at last n ≡ changed_at (pointed m) k.place (slots_at b n)
  unfolding last point drop_slot
  slots-own =
      slots-edit n (changed_at (pointed m) k.place) (drop_slot b n k.place) refl
      ∙ ap (changed_at (pointed m) k.place) (slots-edit n (without_hold k.place) b refl ∙ k.empty (stays-empty to s empty))

  slots-other : (x : ℕ) → eqb x n ≡ false → slots_at last x ≡ slots_at b x
  unfolding last point drop_slot
  slots-other x other =
      slots-beside n (with_changed (pointed m) k.place) (λ r. refl) (drop_slot b n k.place) x other
      ∙ slots-beside n (with_dropped k.place) (λ r. refl) b x other

  children-same : (x : ℕ) → child_entries last x ≡ child_entries b x
  children-same x = go (eqb x n) refl
    where
      go : (u : Bool) → eqb x n ≡ u → child_entries last x ≡ child_entries b x
      go true q =
          let is : x ≡ n = eqb-true x n q in
          subst (λ (y : ℕ). child_entries last y ≡ child_entries b y) (sym is)
          (ap (filter_map child_entry) slots-own ∙ entries-changed child_entry (pointed m) (mild-pointed m) k.place (slots_at b n))
      go false q = ap (filter_map child_entry) (slots-other x q)

  shape-so : IsRewritten b last
  unfolding last point drop_slot
  shape-so =
      record {
        kinds = λ x.
            edited-kind n (with_changed (pointed m) k.place) (λ r. refl) (λ r. refl) (drop_slot b n k.place) x
            ∙ edited-kind n (with_dropped k.place) (λ r. refl) (λ r. refl) b x;
        children = children-same;
        pending = refl;
      }

  beside-so : (last.notices ≡ b.notices) × (last.rings ≡ b.rings)
  unfolding last point drop_slot
  beside-so = (refl, refl)

  whole-so : IsWhole last
  whole-so = subst IsWhole (ap (after_write b) write-so) (whole_kept_lem.change b (wrote n (property_name p.name) (val.Text value)) h)

  pub link-taken : Taken b n path (property_name p.name) value s m
  link-taken =
      record {
        board = last;
        done = done-so;
        is = record {
          whole = whole-so;
          shape = shape-so;
          notices = beside-so.0;
          rings = beside-so.1;
          slots = slots-other;
          named = λ other apart. ap (named_in other) slots-own ∙ k.others (pointed m) other apart;
          own = ap (named_in (property_name p.name)) slots-own ∙ k.own (pointed m);
        };
      }
