-- A device that is added: the children that it is made with are of the types of their properties.
use Rattle.std.proofs.Common.{◌≡◌, refl, ap, sym, ◌∙◌, subst, ℕ, ◌+◌, ◌<◌, true, false, ◌==◌, List, [], ◌∷◌, ◌++◌, codes, Option, Some, None, option_map, option_and_then, arith}
use Rattle.qo_model.proofs.Common.{⊤, AllByRecursion, cons_option, option_or, Realize, TypeId, Container, Device, Val, Range, Board, Record, Slot, plain, child, strong, weak, alias, kind_of, record_of, add, fresh, with_added, with_changed, with_val, acted, with_act_on, clock_of, kid_name, first_value, fresh_record, canonical, Resources, Wanted, acted_all, addressed_at, aliased, bus_births, clocked, counted, drafted, fitted, link_named, name_for, notified_plug, owned, parent_for, property_made, properties_made, source_for, resources_of, stood, with_body_of, with_device, with_given, with_new, with_path, with_plugged, with_source, edit, edited, plugged, post, property_name, slots_of, set_named}
use Rattle.qo_model.specs.declared.properties.Property.{Property}
use Rattle.qo_model.specs.declared.properties.PropertyRole.{PropertyRole}
use Rattle.std.proofs.lemmas.Bool.{eq-eqb}
use Rattle.std.proofs.lemmas.Option.{same_Some}
use Rattle.qo_values.specs.declared.properties.Val.TheVariants as val
use Rattle.qo_model.specs.declared.properties.PropertyRole.TheVariants as row
use Rattle.qo_model.proofs.StepLemmas.{found-edited, found_at}
use Rattle.qo_sound.proofs.AdditionStepsLemmas.{all-any, KeepsActs, link-by, set-by, stand-by, step-acted_all, step-plugged}
use Rattle.qo_sound.proofs.DraftLemmas.{absent-above}
use Rattle.qo_sound.proofs.FirmBoardLemmas.{edited-kind, WellFormed}
use Rattle.qo_sound.proofs.RecordLemmas.{all-append}
use Rattle.qo_sound.proofs.SearchLemmas.{found-append}
use Rattle.qo_sound.proofs.ViewLemmas.{rest-from_sound}
use Rattle.qo_sound_devices.specs.SoundDevices.{SoundDevices}
use Rattle.qo_sound_devices.specs.SoundPlaces.{child_entry}
use Rattle.qo_sound_devices.proofs.AddLemmas.{entries-added}
use Rattle.qo_sound_devices.proofs.PlugLemmas.{Accepted}
use Rattle.qo_sound_devices.proofs.ValueLemmas.{child-fitted}
use Rattle.qo_sound_phases.proofs.FixedObjectLemmas.{child-val}
use Rattle.qo_sound_shapes.specs.SoundShape.{child_type, HasChildType, SoundShape, type_of_child}
use Rattle.qo_sound_shapes.proofs.BoardLemmas.{opening-kind}
use Rattle.qo_sound_shapes.proofs.ChildTypeLemmas.{container-free, fresh-childless, kind-grown, Typed, typed-edit, typed-free, typed-new}
use Rattle.qo_sound_shapes.proofs.CommandTypeLemmas.{entries-given}
use Rattle.qo_sound_shapes.proofs.CompletenessLemmas.{entries-changed, entries_in}
use Rattle.qo_sound_shapes.proofs.DetachmentLemmas.{container-four, container-three}
use Rattle.qo_sound_shapes.proofs.RowLemmas.{IsRowOf, own-rows, Slots}

-- the type of a child by its row
row-type : (t : TypeId) (p : Property) (k : TypeId) → IsRowOf t p → p.role ≡ row.Child k → child_type t (property_name p.name) ≡ Some k
row-type t p k own is = ap (option_and_then (λ (q : Property). type_of_child q.role)) own ∙ ap type_of_child is

entries-last : (slots : Slots) (name : List ℕ) (m : ℕ) → entries_in (slots ++ (name, child m) ∷ []) ≡ entries_in slots ++ (name, m) ∷ []
entries-last [] name m = refl
entries-last (s ∷ slots) name m = go (child_entry s) (entries-last slots name m)
  where
    go : (o : Option (List ℕ × ℕ)) → entries_in (slots ++ (name, child m) ∷ []) ≡ entries_in slots ++ (name, m) ∷ []
        → cons_option o (entries_in (slots ++ (name, child m) ∷ [])) ≡ cons_option o (entries_in slots) ++ (name, m) ∷ []
    go None rest = rest
    go (Some e) rest = ap (λ (es : List (List ℕ × ℕ)). e ∷ es) rest

-- the board as device n of type t is made and stands
module _ (n : ℕ) (t : TypeId) where
  record Typing (c : Board) : Type 0 where
    typed : Typed c
    kind : kind_of c n ≡ Some t
    shelf : (id : Option (List ℕ)) → kind_of c (parent_for id) ≡ Some Container
    high : (m : ℕ) → c.born < m → record_of c m ≡ None

  typing-like : (c d : Board) → d.records ≡ c.records → d.born ≡ c.born → Typing c → Typing d
  typing-like c d same births h =
      subst (λ (rs : List Record). Typing (record d { records = rs })) (sym same)
      (record {
        typed = h.typed;
        kind = h.kind;
        shelf = h.shelf;
        high = λ m above. h.high m (subst (λ (k : ℕ). k < m) births above);
      })

  typing-edit : (m : ℕ) (change : Record → Record) → ((r : Record) → (change r).birth ≡ r.birth) → ((r : Record) → (change r).kind ≡ r.kind) → (c : Board)
      → ((r : Record) → record_of c m ≡ Some r → AllByRecursion (HasChildType c r.kind) (entries_in r.slots)
      → AllByRecursion (HasChildType c r.kind) (entries_in (change r).slots))
      → Typing c → Typing (edit m change c)
  typing-edit m change same_birth same_kind c keeps h =
      record {
        typed = typed-edit m change same_birth same_kind c keeps h.typed;
        kind = edited-kind m change same_birth same_kind c n ∙ h.kind;
        shelf = λ id. edited-kind m change same_birth same_kind c (parent_for id) ∙ h.shelf id;
        high = λ x above. found-edited m change same_birth x c.records ∙ ap (option_map (edited m change)) (h.high x above);
      }

  -- one that leaves children
  typing-mild : (m : ℕ) (change : Record → Record) → ((r : Record) → (change r).birth ≡ r.birth) → ((r : Record) → (change r).kind ≡ r.kind)
      → ((r : Record) → entries_in (change r).slots ≡ entries_in r.slots) → (c : Board) → Typing c → Typing (edit m change c)
  typing-mild m change same_birth same_kind same c h =
      typing-edit m change same_birth same_kind c (λ r e k. subst (AllByRecursion (HasChildType c r.kind)) (sym (same r)) k) h

  typing-add : (m : ℕ) (name : List ℕ) (s : Slot) → child_entry (name, s) ≡ None → (c : Board) → Typing c → Typing (add m name s c)
  unfolding add
  typing-add m name s none c h =
      typing-mild m (with_added name s) (λ r. refl) (λ r. refl) (λ r. entries-added child_entry (name, s) none r.slots) c h

  typing-set : (m : ℕ) (name : List ℕ) (v : Val) (c : Board) → Typing c → Typing (set_named m name v c)
  typing-set m name v c h =
      set-by Typing m name c h v
      (λ i e. typing-mild m (with_changed (with_val v) i) (λ r. refl) (λ r. refl) (λ r. entries-changed (with_val v) (child-val v) i r.slots) c h)

  typing-link : (m : ℕ) (name : List ℕ) (target : ℕ) (c : Board) → Typing c → Typing (link_named m name target c)
  typing-link m name target c h =
      link-by Typing m name c h target
      (λ i e.
      typing-mild m (with_changed (fitted c target) i) (λ r. refl) (λ r. refl) (λ r. entries-changed (fitted c target) (child-fitted c target) i r.slots) c h)

  -- an object more, of the next birth
  typing-new : (k : TypeId) (c : Board) → Typing c → Typing (with_new (fresh_record (c.born + 1) k) c)
  typing-new k c h =
      record {
        typed = typed-new r c d refl (fresh-childless k) h.typed;
        kind = kind-grown r c d refl n t h.kind;
        shelf = λ id. kind-grown r c d refl (parent_for id) Container (h.shelf id);
        high = λ m above.
            let low : c.born < m = omega (arith, above) in
            let apart : (c.born + 1 == m) ≡ false = grind (arith, above) in
            found-append m c.records (r ∷ []) ∙ ap (λ (o : Option Record). option_or o (found_at m (r ∷ []))) (h.high m low) ∙ rw apart refl;
      }
    where
      r : Record
      r = fresh_record (c.born + 1) k

      d : Board
      d = with_new (fresh_record (c.born + 1) k) c

  new-kind : (k : TypeId) (c : Board) → Typing c → kind_of (with_new (fresh_record (c.born + 1) k) c) (c.born + 1) ≡ Some k
  new-kind k c h =
      let own : (c.born + 1 == c.born + 1) ≡ true = eq-eqb (c.born + 1) (c.born + 1) refl in
      ap (option_map (λ (x : Record). x.kind))
      (found-append (c.born + 1) c.records (fresh_record (c.born + 1) k ∷ [])
      ∙ ap (λ (o : Option Record). option_or o (found_at (c.born + 1) (fresh_record (c.born + 1) k ∷ []))) (h.high (c.born + 1) (omega arith)))
      ∙ rw own refl

  -- a child of the device under the name of a row
  typing-child : (p : Property) (k : TypeId) → IsRowOf t p → p.role ≡ row.Child k → (m : ℕ) (c : Board) → kind_of c m ≡ Some k → Typing c
      → Typing (add n (property_name p.name) (child m) c)
  unfolding add
  typing-child p k own is m c kind h =
      typing-edit n (with_added (property_name p.name) (child m)) (λ r. refl) (λ r. refl) c
      (λ r e all.
      let its : r.kind ≡ t = same_Some r.kind t (sym (ap (option_map (λ (x : Record). x.kind)) e) ∙ h.kind) in
      subst (AllByRecursion (HasChildType c r.kind)) (sym (entries-last r.slots (property_name p.name) m))
      (all-append (HasChildType c r.kind) (entries_in r.slots) ((property_name p.name, m) ∷ []) all (
        (λ to named.
            let said : child_type t (property_name p.name) ≡ Some to = ap (λ (u : TypeId). child_type u (property_name p.name)) (sym its) ∙ named in
            kind ∙ sym (row-type t p k own is) ∙ said),
        tt,
      ))) h

  -- what is made
  typing-row : (p : Property) → IsRowOf t p → (c : Board) → Typing c → Typing (property_made n t (property_name p.name) p.role c)
  typing-row p own c h = go p.role refl
    where
      name : List ℕ
      name = property_name p.name

      passed : (of : List ℕ) (o : Option ℕ) → Typing (aliased n (property_name p.name) of o c)
      passed of None = h
      passed of (Some m) = typing-add n (property_name p.name) (alias m of) refl c h

      go : (kind : PropertyRole) → p.role ≡ kind → Typing (property_made n t (property_name p.name) kind c)
      go (row.Plain type first) e = typing-add n (property_name p.name) (plain (first_value t first)) refl c h
      go (row.Link target true) e = typing-add n (property_name p.name) (strong target None) refl c h
      go (row.Link target false) e = typing-add n (property_name p.name) (weak target None) refl c h
      go (row.Child k) e =
          typing-child p k own e (c.born + 1) (with_new (fresh_record (c.born + 1) k) c) (new-kind k c h) (typing-new k c h)
      go (row.Alias owner of) e = passed (property_name of) (owned c n (property_name owner))

  typing-rows : (ps : List Property) → AllByRecursion (IsRowOf t) ps → (c : Board) → Typing c → Typing (properties_made n t ps c)
  typing-rows [] own c h = h
  typing-rows (p ∷ ps) own c h = typing-rows ps own.1 (property_made n t (property_name p.name) p.role c) (typing-row p own.0 c h)

  -- where it stands
  typing-named : (id : Option (List ℕ)) (name : List ℕ) (c : Board) → Typing c → Typing (add (parent_for id) name (child n) c)
  unfolding add
  typing-named id name c h =
      record {
        typed = typed-free (parent_for id) Container container-free change (λ r. refl) (λ r. refl) c (h.shelf id) h.typed;
        kind = edited-kind (parent_for id) change (λ r. refl) (λ r. refl) c n ∙ h.kind;
        shelf = λ x. edited-kind (parent_for id) change (λ r. refl) (λ r. refl) c (parent_for x) ∙ h.shelf x;
        high = λ x above. found-edited (parent_for id) change (λ r. refl) x c.records ∙ ap (option_map (edited (parent_for id) change)) (h.high x above);
      }
    where
      change : Record → Record
      change = with_added name (child n)

  typing-addressed : (range : Option Range) (c : Board) → Typing c → Typing (addressed_at n range c)
  typing-addressed None c h = h
  typing-addressed (Some r) c h = typing-set n (codes "addr") (val.Uint r.at) c h

  typing-stood : (b : Board) (a : Wanted) (resources : Resources) (c : Board) → Typing c → Typing (stood b n a resources c)
  typing-stood b a resources c h =
      stand-by Typing b n a resources
      (record {
        named = typing-named a.id (name_for b a.id);
        on_bus = typing-add resources.bus (kid_name resources.slot) (strong Device (Some n)) refl;
        given = typing-mild n (with_given b a.props) (λ r. refl) (λ r. refl) (λ r. entries-given b a.props r.slots);
        placed = typing-set n (codes "slot") (val.Uint resources.slot);
        linked = typing-link n (codes "parent_bus") resources.bus;
        marked = typing-set n (codes "realized") (val.Bool true);
        addressed = typing-addressed resources.range;
        bodied = typing-mild n (with_body_of a.id resources.range) (λ r. refl) (λ r. refl) (λ r. refl);
      }) c h

  typing-source : (source : ℕ) (o : Option ℕ) (c : Board) → Typing c → Typing (with_source source o c)
  typing-source source None c h = h
  typing-source source (Some m) c h = typing-link m (codes "source") source c h

  typing-counted : (id : Option (List ℕ)) (c : Board) → Typing c → Typing (counted id c)
  typing-counted None c h = typing-like c _ refl refl h
  typing-counted (Some id) c h = h

  typing-acts : KeepsActs (λ m. ⊤) Typing
  unfolding acted
  typing-acts act m period unbound on c h =
      typing-like (edit m (with_act_on act c.now period) c) (acted act m period c) refl refl
      (typing-mild m (with_act_on act c.now period) (λ r. refl) (λ r. refl) (λ r. refl) c h)

  typing-told : (c : Board) → Typing c → Typing (notified_plug n c)
  typing-told c h =
      typing-like (edit n (with_path (canonical c n)) c) _ refl refl (typing-mild n (with_path (canonical c n)) (λ r. refl) (λ r. refl) (λ r. refl) c h)

-- the whole
pub plugged-typed : (b : Board) (t : TypeId) (bus : ℕ) (a : Wanted) → SoundDevices b → Accepted b t bus a → SoundShape b
    → Typed (with_plugged b t a (resources_of b t bus a.props))
plugged-typed b t bus a devices k h = all.typed
  where
    n : ℕ
    n = b.born + 1

    resources : Resources
    resources = resources_of b t bus a.props

    firm : WellFormed b
    firm = (rest-from_sound b devices.tree).used.firm

    new : Board
    new = with_new (fresh (b.born + 1) t) b

    container : (id : Option (List ℕ)) → kind_of b (parent_for id) ≡ Some Container
    container None = opening-kind b h.opening _ Container container-four
    container (Some id) = opening-kind b h.opening _ Container container-three

    first : Typing (b.born + 1) t (with_new (fresh (b.born + 1) t) b)
    first =
        record {
          typed = typed-new (fresh (b.born + 1) t) b new refl refl h.children;
          kind =
              let own : (b.born + 1 == b.born + 1) ≡ true = eq-eqb (b.born + 1) (b.born + 1) refl in
              ap (option_map (λ (x : Record). x.kind))
              (found-append (b.born + 1) b.records (fresh (b.born + 1) t ∷ [])
              ∙ ap (λ (o : Option Record). option_or o (found_at (b.born + 1) (fresh (b.born + 1) t ∷ []))) (absent-above b firm (b.born + 1) (omega arith)))
              ∙ rw own refl;
          shelf = λ id. kind-grown (fresh (b.born + 1) t) b new refl (parent_for id) Container (container id);
          high = λ m above.
              let low : b.born < m = omega (arith, above) in
              let apart : (b.born + 1 == m) ≡ false = grind (arith, above) in
              found-append m b.records (fresh (b.born + 1) t ∷ [])
              ∙ ap (λ (o : Option Record). option_or o (found_at m (fresh (b.born + 1) t ∷ []))) (absent-above b firm m low)
              ∙ rw apart refl;
        }

    all : Typing (b.born + 1) t (with_plugged b t a (resources_of b t bus a.props))
    all =
        let d : Board = stood b (b.born + 1) a (resources_of b t bus a.props) (drafted b t) in
        let run : Board = acted_all Realize ((b.born + 1) ∷ bus_births (b.born + 1) t) (with_device b t a (resources_of b t bus a.props)) in
        typing-told (b.born + 1) t (plugged run (b.born + 1))
        (step-plugged (λ x. ⊤) (Typing (b.born + 1) t) (typing-acts (b.born + 1) t) (b.born + 1) run (all-any (post run (b.born + 1)))
        (step-acted_all (λ x. ⊤) (Typing (b.born + 1) t) (typing-acts (b.born + 1) t) Realize refl ((b.born + 1) ∷ bus_births (b.born + 1) t)
        (all-any ((b.born + 1) ∷ bus_births (b.born + 1) t)) (with_device b t a (resources_of b t bus a.props))
        (typing-counted (b.born + 1) t a.id (clocked (source_for b bus) (b.born + 1) d)
        (typing-source (b.born + 1) t (source_for b bus) (clock_of d (b.born + 1)) d
        (typing-stood (b.born + 1) t b a (resources_of b t bus a.props) (drafted b t)
        (typing-rows (b.born + 1) t (slots_of t) (own-rows t) (with_new (fresh (b.born + 1) t) b) first))))))
