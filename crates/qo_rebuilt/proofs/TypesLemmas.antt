-- What keeps each object of a board telling the name of its type: that its slots under `type` have no text but that name.
use Rattle.std.proofs.Common.{◌≡◌, inl, inr, refl, ap, sym, subst, ◌∙◌, rules, ℕ, ◌+◌, ◌<◌, ◌≤◌, true, false, List, [], ◌∷◌, find, slice_get, codes, Option, Some, None, is_some, option_map, option_and_then, arith}
use Rattle.std.proofs.lemmas.Option.{same_Some}
use Rattle.std.proofs.lemmas.Slice.Eq.{bytes_eq-Decides}
use Rattle.qo_model.proofs.Common.{⊤, AllByRecursion, drop, option_map_or, bytes_eq, type_name, first_value, fresh_registers, OBJECTS_BIRTH, Code, Object, TypeId, Val, Board, Record, Slot, plain, child, strong, weak, alias, record_of, slots_at, add, fresh, pointed, with_added, with_changed, with_val, after_write, Change, added, changed, deleted, severed, wrote, Given, added_as, given_slots, refusal_of, with_object, opening_board, fresh_record, fresh_slots, plain_at, plain_in, Resources, Wanted, fitted, plug, resources_of, type_barred, barred_late, with_body_of, with_given, with_new, with_path, with_plugged, point, set, write, edit, TypeInfo, is_a, may_set, property, property_name, property_named, slots_of, types, acted}
use Rattle.qo_values.proofs.EachLemmas.{each}
use Rattle.qo_values.specs.declared.kinds.Act.{Act}
use Rattle.qo_values.specs.declared.properties.PropType.TheVariants as ty
use Rattle.qo_values.specs.declared.properties.Val.TheVariants as val
use Rattle.qo_model.specs.declared.properties.Access.TheVariants.{Never}
use Rattle.qo_model.specs.declared.properties.First.TheVariants as first
use Rattle.qo_model.specs.declared.properties.Property.{Property}
use Rattle.qo_model.specs.declared.properties.PropertyName.TheVariants as prop
use Rattle.qo_model.specs.declared.properties.PropertyRole.TheVariants as row
use Rattle.qo_model.proofs.ComesToLemmas.{addition-comes}
use Rattle.qo_model.proofs.StepLemmas.{found-birth, found_at}
use Rattle.qo_sound.specs.PlugOutcomes.{IsAttempted}
use Rattle.qo_sound.proofs.PlugLemmas.{device-of, place-of}
use Rattle.qo_sound.proofs.RecordLemmas.{all-append}
use Rattle.qo_sound.proofs.SearchLemmas.{all-found}
use Rattle.qo_sound.proofs.ViewLemmas.{rest-from_sound}
use Rattle.qo_sound_devices.specs.SoundDevices.{SoundDevices}
use Rattle.qo_sound_devices.proofs.AcceptanceLemmas.{passes}
use Rattle.qo_sound_devices.proofs.PlacesLemmas.{high-absent}
use Rattle.qo_sound_devices.proofs.PlugLemmas.{Accepted}
use Rattle.qo_sound_order.proofs.ObjectLemmas.{KeepsFact, fact-acted, fact-deleted, fact-drop, fact-ends, fact-severed}
use Rattle.qo_sound_shapes.specs.SoundShape.{HasRole, HasSlots, IsFurther, IsOfProperty, SoundShape, missing, next}
use Rattle.qo_sound_shapes.proofs.BoardLemmas.{AllOf, all-edit, all-new}
use Rattle.qo_sound_shapes.proofs.RowLemmas.{has-all}
use Rattle.qo_steps.proofs.AdditionLemmas.{plug-comes}
use Rattle.qo_steps.proofs.CommandStepsLemmas.{IsWritten, write-by}
use Rattle.qo_steps.proofs.PlugStepsLemmas.{DraftSteps, PlaceSteps, StartSteps, plug-by}
use Rattle.qo_steps.proofs.ReachLemmas.{reach-any}
use Rattle.qo_alike.specs.AlikeBoards.{TellsTypes}
use Rattle.qo_rebuilt.proofs.TypeSlotLemmas.{AllRight, HoldsRight, IsRight, NoText, Right, SlotRight, changed-right, first-right, fitted-right, fresh-right, given-right, pointed-right, right-keeps, written-right}

-- ---- the first slot of an object

abbrev type_row : Property
type_row = property prop.Type (row.Plain ty.Text first.TypeName) Never

-- a row of another name
abbrev Another : Property → Type 0
Another p = bytes_eq (property_name p.name) (codes "type") ≡ false

rows-begin : (t : TypeId) → slots_of t ≡ type_row ∷ drop 1 (slots_of t)
unfolding types
rows-begin = each (λ (t : TypeId). slots_of t ≡ type_row ∷ drop 1 (slots_of t)) (search rules)

rows-differ : (t : TypeId) → AllByRecursion Another (drop 1 (slots_of t))
unfolding types
rows-differ = each (λ (t : TypeId). AllByRecursion Another (drop 1 (slots_of t))) (search rules)

further-plain : (t : TypeId) (name : List ℕ) (v : Val) → IsFurther t (name, plain v) → ⊥
unfolding types
further-plain = each (λ (t : TypeId). (name : List ℕ) (v : Val) → IsFurther t (name, plain v) → ⊥) (search rules)

further-right : (t : TypeId) (s : List ℕ × Slot) → IsFurther t s → SlotRight t s
further-right t (name, plain v) h = absurd (further-plain t name v h)
further-right t (name, child m) h = tt
further-right t (name, strong to target) h = tt
further-right t (name, weak to target) h = tt
further-right t (name, alias m property) h = tt

another-right : (t : TypeId) (p : Property) (s : List ℕ × Slot) → Another p → IsOfProperty p s → SlotRight t s
another-right t p (name, s) other is = by s
  where
    apart : bytes_eq name (codes "type") ≡ false
    apart = ap (λ (x : List ℕ). bytes_eq x (codes "type")) is.name ∙ other

    by : (s : Slot) → HoldsRight t name s
    by (plain (val.Text text)) = λ named. absurd (let clash : true ≡ false = sym named ∙ apart in cc)
    by (plain (val.Bool b)) = tt
    by (plain (val.Uint n)) = tt
    by (plain (val.Int z)) = tt
    by (plain val.Nothing) = tt
    by (child m) = tt
    by (strong to target) = tt
    by (weak to target) = tt
    by (alias m property) = tt

-- it has a text under `type`, and after it others that are right
record Led (t : TypeId) (slots : List (List ℕ × Slot)) : Type 0 where
  text : List ℕ
  more : List (List ℕ × Slot)
  is : slots ≡ (codes "type", plain (val.Text text)) ∷ more
  others : AllRight t more

led : (t : TypeId) (ps : List Property) (slots : List (List ℕ × Slot)) → AllByRecursion Another ps → HasSlots t (type_row ∷ ps) slots → Led t slots
led t ps slots apart (missing may h) = absurd (let clash : false ≡ true = may in cc)
led t ps slots apart (next {s = (name, s)} {slots = more} is h) = by s is.name is.fits
  where
    by : (s : Slot) → name ≡ codes "type" → HasRole (row.Plain ty.Text first.TypeName) s → Led t ((name, s) ∷ more)
    by (plain (val.Text text)) named fits =
        record {
          text = text;
          more = more;
          is = ap (λ (x : List ℕ). (x, plain (val.Text text)) ∷ more) named;
          others = has-all Another (SlotRight t) t (another-right t) (further-right t) ps apart h;
        }
    by (plain (val.Bool b)) named (inl none) = absurd (let clash : first.TypeName ≡ first.Nothing = none.0 in cc)
    by (plain (val.Bool b)) named (inr fits) = absurd (let clash : false ≡ true = fits in cc)
    by (plain (val.Uint n)) named (inl none) = absurd (let clash : first.TypeName ≡ first.Nothing = none.0 in cc)
    by (plain (val.Uint n)) named (inr fits) = absurd (let clash : false ≡ true = fits in cc)
    by (plain (val.Int z)) named (inl none) = absurd (let clash : first.TypeName ≡ first.Nothing = none.0 in cc)
    by (plain (val.Int z)) named (inr fits) = absurd (let clash : false ≡ true = fits in cc)
    by (plain val.Nothing) named (inl none) = absurd (let clash : first.TypeName ≡ first.Nothing = none.0 in cc)
    by (plain val.Nothing) named (inr fits) = absurd (let clash : false ≡ true = fits in cc)
    by (child m) named fits = absurd fits
    by (strong to target) named fits = absurd fits
    by (weak to target) named fits = absurd fits
    by (alias m property) named fits = absurd fits

shaped-led : (b : Board) → SoundShape b → (n : ℕ) (r : Record) → record_of b n ≡ Some r → Led r.kind r.slots
shaped-led b h n r e =
    led r.kind (drop 1 (slots_of r.kind)) r.slots (rows-differ r.kind)
    (subst (λ (ps : List Property). HasSlots r.kind ps r.slots) (rows-begin r.kind) (h.shaped n r e).slots)

-- what is read of it
told-in : Option Record → Option Val
told-in o =
    option_and_then plain_in
    (option_map (λ (s : List ℕ × Slot). s.1) (find (λ (s : List ℕ × Slot). bytes_eq s.0 (codes "type")) (option_map_or (λ (r : Record). r.slots) o [])))

-- ---- objects that tell their types are those that are right

abbrev pub Sound : Board → Type 0
Sound b = (n : ℕ) (r : Record) → record_of b n ≡ Some r → AllRight r.kind r.slots

pub to-sound : (b : Board) → SoundShape b → TellsTypes b → Sound b
unfolding told-in
to-sound b shape tells n r e =
    let l : Led r.kind r.slots = shaped-led b shape n r e in
    let said : told-in (Some r) ≡ Some (val.Text (type_name r.kind)) =
    sym (ap told-in e) ∙ tells n r.kind (ap (option_map (λ (x : Record). x.kind)) e) in
    let read : told-in (Some r) ≡ Some (val.Text l.text) =
    ap
    (λ (slots : List (List ℕ × Slot)).
    option_and_then plain_in (option_map (λ (s : List ℕ × Slot). s.1) (find (λ (s : List ℕ × Slot). bytes_eq s.0 (codes "type")) slots)))
    l.is in
    let same : l.text ≡ type_name r.kind = same-text l.text (type_name r.kind) (same_Some (val.Text l.text) (val.Text (type_name r.kind)) (sym read ∙ said)) in
    subst (AllRight r.kind) (sym l.is) ((λ named. same), l.others)
  where
    same-text : (x y : List ℕ) → val.Text x ≡ val.Text y → x ≡ y
    same-text x y q = ap (λ (v : Val). elim v as (λ _. List ℕ) [ val.Text z ↦ z | _ ↦ x ]) q

pub from-sound : (b : Board) → SoundShape b → Sound b → TellsTypes b
unfolding told-in
from-sound b shape h n t e = go (record_of b n) refl
  where
    go : (o : Option Record) → record_of b n ≡ o → plain_at b n (codes "type") ≡ Some (val.Text (type_name t))
    go None q = absurd (let clash : None ≡ Some t = sym (ap (option_map (λ (x : Record). x.kind)) q) ∙ e in cc)
    go (Some r) q =
        let l : Led r.kind r.slots = shaped-led b shape n r q in
        let kind : r.kind ≡ t = same_Some r.kind t (sym (ap (option_map (λ (x : Record). x.kind)) q) ∙ e) in
        let right : AllRight r.kind ((codes "type", plain (val.Text l.text)) ∷ l.more) = subst (AllRight r.kind) l.is (h n r q) in
        ap told-in q
        ∙ ap
        (λ (slots : List (List ℕ × Slot)).
        option_and_then plain_in (option_map (λ (s : List ℕ × Slot). s.1) (find (λ (s : List ℕ × Slot). bytes_eq s.0 (codes "type")) slots)))
        l.is
        ∙ ap (λ (text : List ℕ). Some (val.Text text)) (right.0 refl) ∙ ap (λ (k : TypeId). Some (val.Text (type_name k))) kind

-- of each object, and of those of some births that are of a type
to-all : (Own : ℕ → Type 0) (t : TypeId) (b : Board) → ((n : ℕ) → Own n → record_of b n ≡ None) → Sound b → AllOf (Right Own t) b
to-all Own t b absent h n r e =
    record {
      slots = h n r e;
      kind = λ own.
          absurd
          (let clash : None ≡ Some r =
          sym (absent n (subst Own (found-birth n b.records r e) own)) ∙ e in
          cc);
    }

from-all : (Own : ℕ → Type 0) (t : TypeId) (b : Board) → AllOf (Right Own t) b → Sound b
from-all Own t b h n r e = (h n r e).slots

-- ---- one change

module _ (Own : ℕ → Type 0) (t : TypeId) where
  abbrev All : Board → Type 0
  All = AllOf (Right Own t)

  abbrev keeps : KeepsFact NoText (Right Own t)
  keeps = right-keeps Own t

  -- a slot more
  added-right : (n : ℕ) (name : List ℕ) (s : Slot) → ((k : TypeId) → (Own n → k ≡ t) → HoldsRight k name s) → (c : Board) → All c → All (add n name s c)
  unfolding add
  added-right n name s right c h =
      all-edit (Right Own t) n (with_added name s) (λ r. refl) c
      (λ r e own k.
      record {
        slots =
            all-append (SlotRight r.kind) r.slots ((name, s) ∷ []) k.slots
            (right r.kind (λ is. k.kind (subst Own (sym own) is)), tt);
        kind = k.kind;
      }) h

  -- a link that points
  fitted-all : (n i m : ℕ) (c : Board) → All c → All (edit n (with_changed (fitted c m) i) c)
  fitted-all n i m c h =
      all-edit (Right Own t) n (with_changed (fitted c m) i) (λ r. refl) c
      (λ r e own k. record { slots = changed-right r.kind (fitted c m) (fitted-right r.kind c m) i r.slots k.slots; kind = k.kind }) h

  pointed-all : (n i m : ℕ) (c : Board) → All c → All (point n i m c)
  unfolding point
  pointed-all n i m c h =
      all-edit (Right Own t) n (with_changed (pointed m) i) (λ r. refl) c
      (λ r e own k. record { slots = changed-right r.kind (pointed m) (pointed-right r.kind m) i r.slots k.slots; kind = k.kind }) h

-- ---- `qom-set`

-- `type` is written by none
type-unset : (t : TypeId) (p : Property) → property_named t (codes "type") ≡ Some p → may_set p.access ≡ true → ⊥
type-unset t p row may =
    let same : type_row ≡ p = same_Some type_row p (sym (type-named t) ∙ row) in
    absurd (let clash : false ≡ true = ap (λ (x : Property). may_set x.access) same ∙ may in cc)
  where
    type-named : (t : TypeId) → property_named t (codes "type") ≡ Some type_row
    type-named t = ap (find (λ (p : Property). bytes_eq (property_name p.name) (codes "type"))) (rows-begin t)

other-right : (k t : TypeId) (b : Board) (n : ℕ) (name : List ℕ) (p : Property) (v : Val) → IsWritten b n name p → IsRight k name v
other-right k t b n name p (val.Bool v) is = tt
other-right k t b n name p (val.Uint v) is = tt
other-right k t b n name p (val.Int v) is = tt
other-right k t b n name p val.Nothing is = tt
other-right k t b n name p (val.Text text) is =
    λ named.
    absurd
    (type-unset is.type p
    (sym (ap (property_named is.type) ((bytes_eq-Decides name (codes "type")).0 named)) ∙ is.row)
    is.may)

module _ (Own : ℕ → Type 0) (t : TypeId) where
  pub wrote-all : (b : Board) (n : ℕ) (name : List ℕ) (v : Val) → All Own t b → All Own t (after_write b (write b n name v))
  unfolding set
  wrote-all b n name v h =
      write-by (All Own t) b n name v
      (record {
        value = λ i p is old at type first role fits.
            all-edit (Right Own t) n (with_changed (with_val v) i) (λ r. refl) b
            (λ r e own k.
            let slots : slots_at b n ≡ r.slots = ap (λ (o : Option Record). option_map_or (λ (x : Record). x.slots) o []) e in
            record {
              slots = written-right r.kind v i r.slots
                  (λ s there.
                  let same : (name, plain old) ≡ s =
                  same_Some (name, plain old) s (sym at ∙ ap (λ (xs : List (List ℕ × Slot)). slice_get xs i) slots ∙ there) in
                  subst (λ (x : List ℕ × Slot). IsRight r.kind x.0 v) same (other-right r.kind r.kind b n name p v is))
                  k.slots;
              kind = k.kind;
            }) h;
        drops = λ i p is to s link at. fact-drop NoText (Right Own t) (right-keeps Own t) n i b h;
        points = λ i p is to s left link leaves at path m found dropped. pointed-all Own t n i m _ dropped;
        ends = fact-ends NoText (Right Own t) (right-keeps Own t);
      }) h

-- ---- commands on objects

-- of no birth anything is said
abbrev pub Nobody : ℕ → Type 0
Nobody n = ⊥

abbrev pub Plain : Record → Type 0
Plain = Right Nobody Object

abbrev pub plain-keeps : KeepsFact NoText Plain
plain-keeps = right-keeps Nobody Object

pub to-plain : (b : Board) → Sound b → AllOf Plain b
to-plain b h = to-all Nobody Object b (λ n none. absurd none) h

pub from-plain : (b : Board) → AllOf Plain b → Sound b
from-plain b h = from-all Nobody Object b h

object-right : (b : Board) (t : TypeId) (id : List ℕ) (props : List Given) (o : Option Code) → refusal_of b t props ≡ o → AllOf Plain b
    → AllOf Plain (added_as b t id props o).board
object-right b t id props (Some code) e h = h
object-right b t id props None taken h =
    all-new Plain new (edit OBJECTS_BIRTH (with_added id (child (b.born + 1))) b) (with_object b t id props) refl
    (record { slots = given-right b t props taken (fresh_slots t) (fresh-right t); kind = λ none. absurd none })
    (all-edit Plain OBJECTS_BIRTH (with_added id (child (b.born + 1))) (λ r. refl) b
    (λ r e own k. record { slots = all-append (SlotRight r.kind) r.slots ((id, child (b.born + 1)) ∷ []) k.slots (tt, tt); kind = k.kind }) h)
  where
    new : Record
    new = record { birth = b.born + 1; kind = t; slots = given_slots b t props; registers = fresh_registers t; device_id = None; kept_path = None }

pub changed-plain : (b : Board) (change : Change) → AllOf Plain b → AllOf Plain (changed b change)
changed-plain b (added driver id props) h = addition-comes (AllOf Plain) b driver id props h (λ row e o is. object-right b row.id id props o is h)
changed-plain b (deleted id) h = fact-deleted NoText Plain plain-keeps b id h
changed-plain b (wrote n name v) h = wrote-all Nobody Object b n name v h
changed-plain b (severed n) h = fact-severed NoText Plain plain-keeps b n h

-- ---- a device that is added

absent : (b : Board) → SoundDevices b → record_of b (b.born + 1) ≡ None
absent b h = none (record_of b (b.born + 1)) (high-absent b (rest-from_sound b h.tree).used.firm (b.born + 1) (omega arith))
  where
    none : (o : Option Record) → is_some o ≡ false → o ≡ None
    none None e = refl
    none (Some r) e = absurd (let clash : true ≡ false = e in cc)

module _ (b : Board) (a : Wanted) where
  abbrev New : ℕ → Type 0
  New n = n ≡ b.born + 1

  -- and so much was born
  record H (t : TypeId) (c : Board) : Type 0 where
    all : All New t c
    born : b.born + 1 ≤ c.born

  module _ (t : TypeId) where
    slot-more : (n : ℕ) (name : List ℕ) (s : Slot) → ((k : TypeId) → (New n → k ≡ t) → HoldsRight k name s) → (c : Board) → H t c
        → H t (add n name s c)
    unfolding add
    slot-more n name s right c h = record { all = added-right New t n name s right c h.all; born = h.born }

    edited-so : (n : ℕ) (change : Record → Record) → ((r : Record) → (change r).birth ≡ r.birth)
        → ((r : Record) → Right New t r → r.birth ≡ n → Right New t (change r)) → (c : Board) → H t c → H t (edit n change c)
    edited-so n change same right c h =
        record { all = all-edit (Right New t) n change same c (λ r e own k. right r k own) h.all; born = h.born }

    set-so : (n i : ℕ) (v : Val) → NoText v → (c : Board) → H t c → H t (set n i v c)
    unfolding set
    set-so n i v other c h =
        edited-so n (with_changed (with_val v) i) (λ r. refl) (λ r k own. (right-keeps New t).sets v other i r k) c h

    fitted-so : (n i m : ℕ) (c : Board) → H t c → H t (edit n (with_changed (fitted c m) i) c)
    fitted-so n i m c h = record { all = fitted-all New t n i m c h.all; born = h.born }

    acted-so : (act : Act) (n period : ℕ) (c : Board) → H t c → H t (acted act n period c)
    unfolding acted
    acted-so act n period c h =
        record { all = fact-acted NoText (Right New t) (right-keeps New t) act n period c h.all; born = h.born }

    fresh-kid : (kid : TypeId) (c : Board) → H t c → H t (with_new (fresh_record (c.born + 1) kid) c)
    fresh-kid kid c h =
        record {
          all = all-new (Right New t) (fresh_record (c.born + 1) kid) c (with_new (fresh_record (c.born + 1) kid) c) refl
              (record {
                slots = fresh-right kid;
                kind = λ is. absurd (let high : b.born + 1 ≤ c.born = h.born in let clash : 0 < 0 = omega (arith, high, is) in omega arith);
              }) h.all;
          born = let high : b.born + 1 ≤ c.born = h.born in omega (arith, high);
        }

    drafts : DraftSteps (H t) (b.born + 1) t
    drafts =
        record {
          value = λ p own type first role c k.
              slot-more (b.born + 1) _ _
              (λ kind is. subst (λ (x : TypeId). IsRight x (property_name p.name) (first_value t first)) (sym (is refl)) (first-right t p own type first role))
              c k;
          holds = λ p own target role c k. slot-more (b.born + 1) _ _ (λ kind is. tt) c k;
          sees = λ p own target role c k. slot-more (b.born + 1) _ _ (λ kind is. tt) c k;
          makes = λ p own kid role c room k.
              slot-more (b.born + 1) _ (child (c.born + 1)) (λ kind is. tt) (with_new (fresh_record (c.born + 1) kid) c) (fresh-kid kid c k);
          passes = λ p own m property c k. slot-more (b.born + 1) _ _ (λ kind is. tt) c k;
        }

    places : (resources : Resources) → refusal_of b t a.props ≡ None → PlaceSteps (H t) b (b.born + 1) a resources
    places resources taken =
        record {
          contained = λ c k. slot-more _ _ _ (λ kind is. tt) c k;
          hung = λ c k. slot-more _ _ _ (λ kind is. tt) c k;
          given = λ c k.
              edited-so (b.born + 1) (with_given b a.props) (λ r. refl)
              (λ r w own.
              record {
                slots = given-right b r.kind a.props (subst (λ (x : TypeId). refusal_of b x a.props ≡ None) (sym (w.kind own)) taken) r.slots w.slots;
                kind = w.kind;
              }) c k;
          slotted = λ i c at k. set-so (b.born + 1) i _ tt c k;
          homed = λ i c at k. fitted-so (b.born + 1) i resources.bus c k;
          lit = λ i c at k. set-so (b.born + 1) i (val.Bool true) tt c k;
          addressed = λ r i c e at k. set-so (b.born + 1) i (val.Uint r.at) tt c k;
          bodied = λ c k.
              edited-so (b.born + 1) (with_body_of a.id resources.range) (λ r. refl) (λ r w own. record { slots = w.slots; kind = w.kind }) c k;
          sourced = λ m i c e at k. fitted-so m i _ c k;
          counted = λ c e k. record { all = k.all; born = k.born };
        }

    starts : StartSteps (H t) (λ c x. ⊤) (b.born + 1)
    starts =
        record {
          acts = λ act x period c calm on k. acted-so act x period c k;
          keeps_path = λ c k. edited-so (b.born + 1) (with_path _) (λ r. refl) (λ r w own. record { slots = w.slots; kind = w.kind }) c k;
          announces = λ c on room k. record { all = k.all; born = k.born };
        }

  accepted : (row : TypeInfo) (bus : ℕ) → IsAttempted b a row bus → barred_late b row.id bus a.props ≡ None → Accepted b row.id bus a
  accepted row bus tried late =
      let device : is_a row.id (codes "device") ≡ true = device-of row (rw (type_barred, tried.named) at tried.fits) in
      record {
        device = device;
        chosen = tried.chosen;
        early = tried.early;
        late = late;
        place = place-of b row.id bus a device tried.chosen tried.early late;
      }

  pub plugged-right : SoundDevices b → Sound b → Sound (plug b a).board
  plugged-right d h =
      plug-comes Sound b a
      (record {
        same = h;
        given_up = λ row bus refusal tried bars. h;
        added = λ row bus tried late room free.
            let resources : Resources = resources_of b row.id bus a.props in
            let before : All New row.id b = to-all New row.id b (λ n is. subst (λ (x : ℕ). record_of b x ≡ None) (sym is) (absent b d)) h in
            from-all New row.id (with_plugged b row.id a resources)
            (plug-by (H row.id) (λ c x. ⊤) reach-any.steady b row.id a resources
            (record {
              begins = λ few.
                  record {
                    all = all-new (Right New row.id) (fresh (b.born + 1) row.id) b (with_new (fresh (b.born + 1) row.id) b) refl
                        (record { slots = tt; kind = λ is. refl }) before;
                    born = omega arith;
                  };
              draft = drafts row.id;
              place = places row.id resources (passes b row.id bus a (accepted row bus tried late)).properties;
            }) (starts row.id) room free (reach-any.starts b a row bus tt tried late)).all;
      })

-- ---- the opening board

opening-all : AllByRecursion (λ (r : Record). AllRight r.kind r.slots) opening_board.records
unfolding opening_board types
opening-all = search rules

pub opening-sound : Sound opening_board
opening-sound n r e = all-found (λ (x : Record). AllRight x.kind x.slots) n opening_board.records opening-all r e

-- ---- what changes no object

pub same-told : (b c : Board) → c.records ≡ b.records → TellsTypes b → TellsTypes c
unfolding told-in
same-told b c e h n t k =
    let same : record_of c n ≡ record_of b n = ap (found_at n) e in
    ap told-in same ∙ h n t (sym (ap (option_map (λ (r : Record). r.kind)) same) ∙ k)
