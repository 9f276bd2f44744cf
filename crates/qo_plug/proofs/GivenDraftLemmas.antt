-- A device that was made with its values stands as one that gets them all where it stands; and what is left of its plan fits it.
use Rattle.std.proofs.Common.{◌≡◌, refl, ap, sym, subst, ◌∙◌, ℕ, ◌+◌, Bool, true, false, ◌==◌, List, [], ◌∷◌, map, find, length, codes, Option, Some, None, IfSome, Vec, arith}
use Rattle.std.specs.List.{AllByRecursion, AllZip}
use Rattle.std.specs.Prelude.{if◌then◌else◌}
use Rattle.std.specs.Str.{bytes_eq}
use Rattle.std.specs.Vec.{with_items}
use Rattle.std.proofs.lemmas.Bool.Decides.{nat_tests}
use Rattle.std.proofs.lemmas.List.{length-map, map-append, with_items_is}
use Rattle.qo_values.specs.declared.kinds.TypeId.{TypeId}
use Rattle.qo_values.specs.declared.kinds.TypeId.TheVariants.{Device}
use Rattle.qo_values.specs.declared.properties.Val.{Val}
use Rattle.qo_values.specs.declared.properties.Val.TheVariants as val
use Rattle.qo_slots.specs.declared.keys.Key.{Key}
use Rattle.qo_model.specs.Board.{Board, Record, Slot, plain, child, strong, weak, alias}
use Rattle.qo_model.specs.Changes.{add, with_added}
use Rattle.qo_model.specs.Devices.{kid_name}
use Rattle.qo_model.specs.Objects.{Given, given_to, slot_given}
use Rattle.qo_model.specs.Paths.{canonical}
use Rattle.qo_model.specs.Plug.{Resources, Wanted, addressed_at, clocked, link_named, name_for, parent_for, source_for, stood, with_body_of, with_given}
use Rattle.qo_model.specs.Release.{edit, edited}
use Rattle.qo_model.specs.Unplug.{set_named}
use Rattle.qo_heap.specs.Rows.{IsLive}
use Rattle.qo_object.specs.BoardObject.{shown_slot}
use Rattle.qo_object.specs.Slots.{Named}
use Rattle.qo_heap.specs.Board.{Shows}
use Rattle.qo_heap.specs.Objects.{Objects}
use Rattle.qo_properties.specs.Filling.{Fits, IsGiven, filled, filled_with, spent, target_in, value_alone}
use Rattle.qo_properties.specs.declared.adding.filling.InitialValue.{InitialValue}
use Rattle.qo_properties.specs.declared.adding.filling.InitialValue.TheVariants as fill
use Rattle.qo_properties.specs.NewSlots.{new_slots}
use Rattle.qo_properties.specs.OpeningSteps.{KeepsNames}
use Rattle.qo_properties.specs.Plans.{IsPlan}
use Rattle.qo_plug.specs.Drafts.{given_draft, pinned_draft, value_given, valued_slots, with_values}
use Rattle.qo_plug.specs.Placement.{Stood, seated}
use Rattle.qo_plug.proofs.AddLemmas.{plan-live}

-- what is given for a slot is so however often it is given
given_to-again : (b : Board) (s : Slot) (v : Val) → given_to b (given_to b s v) v ≡ given_to b s v
given_to-again b (plain old) v = refl
given_to-again b (strong t target) (val.Text path) = refl
given_to-again b (strong t target) (val.Bool x) = refl
given_to-again b (strong t target) (val.Int x) = refl
given_to-again b (strong t target) (val.Uint x) = refl
given_to-again b (strong t target) val.Nothing = refl
given_to-again b (weak t target) (val.Text path) = refl
given_to-again b (weak t target) (val.Bool x) = refl
given_to-again b (weak t target) (val.Int x) = refl
given_to-again b (weak t target) (val.Uint x) = refl
given_to-again b (weak t target) val.Nothing = refl
given_to-again b (child m) v = refl
given_to-again b (alias m p) v = refl

module _ (b : Board) (props : List Given) where
  abbrev by : Option Given → Slot → Slot
  by o s = elim o [ None ↦ s | Some p ↦ given_to b s p.1 ]

  by-again : (o : Option Given) (s : Slot) → by o (by o s) ≡ by o s
  by-again None s = refl
  by-again (Some p) s = given_to-again b s p.1

  given-again : (s : List ℕ × Slot) → slot_given b props (slot_given b props s) ≡ slot_given b props s
  given-again s = λ j. (s.0, by-again (find (λ (p : Given). bytes_eq p.0 s.0) props) s.1 j)

  -- so it is after the values that were given
  given-valued : (s : List ℕ × Slot) → slot_given b props (value_given b props s) ≡ slot_given b props s
  given-valued (name, plain v) = given-again (name, plain v)
  given-valued (name, child m) = refl
  given-valued (name, strong t target) = refl
  given-valued (name, weak t target) = refl
  given-valued (name, alias m p) = refl

  slots-valued : (slots : List (List ℕ × Slot)) → map (slot_given b props) (map (value_given b props) slots) ≡ map (slot_given b props) slots
  slots-valued [] = refl
  slots-valued (s ∷ slots) = λ j. given-valued s j ∷ slots-valued slots j

  rows-valued : (n : ℕ) (rs : List Record)
      → map (edited n (with_given b props)) (map (edited n (with_values b props)) rs) ≡ map (edited n (with_given b props)) rs
  rows-valued n [] = refl
  rows-valued n (r ∷ rs) = go (r.birth == n) refl (rows-valued n rs)
    where
      go : (t : Bool) → (r.birth == n) ≡ t
          → map (edited n (with_given b props)) (map (edited n (with_values b props)) rs) ≡ map (edited n (with_given b props)) rs
          → map (edited n (with_given b props)) (map (edited n (with_values b props)) (r ∷ rs)) ≡ map (edited n (with_given b props)) (r ∷ rs)
      go true e rest = rw (e, e) (λ j. record r { slots = slots-valued r.slots j } ∷ rest j)
      go false e rest = rw (e, e) (ap (λ (l : List Record). r ∷ l) rest)

  -- a slot that is added gets what was given where it is of the object
  abbrev added_slot : ℕ → ℕ → List ℕ → Slot → Slot
  added_slot n m name s = if m == n then (slot_given b props (name, s)).1 else s

  row-added : (n m : ℕ) (name : List ℕ) (s : Slot) (r : Record)
      → edited n (with_given b props) (edited m (with_added name s) r) ≡ edited m (with_added name (added_slot n m name s)) (edited n (with_given b props) r)
  row-added n m name s r = go (r.birth == m) refl (r.birth == n) refl
    where
      go : (t : Bool) → (r.birth == m) ≡ t → (u : Bool) → (r.birth == n) ≡ u
          → edited n (with_given b props) (edited m (with_added name s) r)
          ≡ edited m (with_added name (added_slot n m name s)) (edited n (with_given b props) r)
      go true e true f =
          let same : (m == n) ≡ true = grind (arith, nat_tests, e, f) in
          rw (e, f, e, same) (λ j. record r { slots = map-append (slot_given b props) r.slots ((name, s) ∷ []) j })
      go true e false f =
          let other : (m == n) ≡ false = grind (arith, nat_tests, e, f) in
          rw (e, f, e, other) refl
      go false e true f = rw (e, f, e) refl
      go false e false f = rw (e, f, e) refl

  rows-added : (n m : ℕ) (name : List ℕ) (s : Slot) (rs : List Record)
      → map (edited n (with_given b props)) (map (edited m (with_added name s)) rs)
      ≡ map (edited m (with_added name (added_slot n m name s))) (map (edited n (with_given b props)) rs)
  rows-added n m name s [] = refl
  rows-added n m name s (r ∷ rs) = λ j. row-added n m name s r j ∷ rows-added n m name s rs j

  given-added : (n m : ℕ) (name : List ℕ) (s : Slot) (c : Board)
      → edit n (with_given b props) (add m name s c) ≡ add m name (added_slot n m name s) (edit n (with_given b props) c)
  unfolding add
  given-added n m name s c = λ j. record c { records = rows-added n m name s c.records j }

  -- boards that are the same once the values are given are so after a slot is added too
  added-alike : (n m : ℕ) (name : List ℕ) (s : Slot) (c d : Board) → edit n (with_given b props) c ≡ edit n (with_given b props) d
      → edit n (with_given b props) (add m name s c) ≡ edit n (with_given b props) (add m name s d)
  added-alike n m name s c d e = given-added n m name s c ∙ ap (add m name (added_slot n m name s)) e ∙ sym (given-added n m name s d)

-- a device that was made with its values stands as one that gets them as it stands
stood-given : (b : Board) (n : ℕ) (a : Wanted) (resources : Resources) (c : Board)
    → stood b n a resources (edit n (with_values b a.props) c) ≡ stood b n a resources c
stood-given b n a resources c =
    ap (λ (d : Board). edit n (with_body_of a.id resources.range) (addressed_at n resources.range (set_named n (codes "realized") (val.Bool true)
    (link_named n (codes "parent_bus") resources.bus (set_named n (codes "slot") (val.Uint resources.slot) d)))))
    (added-alike b a.props n resources.bus (kid_name resources.slot) (strong Device (Some n)) (with_child (edit n (with_values b a.props) c)) (with_child c)
    (added-alike b a.props n (parent_for a.id) (name_for b a.id) (child n) (edit n (with_values b a.props) c) c
    (λ j. record c { records = rows-valued b a.props n c.records j })))
  where
    with_child : Board → Board
    with_child d = add (parent_for a.id) (name_for b a.id) (child n) d

module _ (b : Board) (t : TypeId) (n : ℕ) (a : Wanted) (resources : Resources) (birth : n ≡ b.born + 1) where
  seated-given : seated b n a resources (given_draft b t a.props) ≡ seated b n a resources (pinned_draft b t)
  seated-given =
      ap (λ (k : ℕ). seated b n a resources (edit k (with_values b a.props) (pinned_draft b t))) (sym birth)
      ∙ ap (clocked (source_for b resources.bus) n) (stood-given b n a resources (pinned_draft b t))

  pub stood-planned : (path : List ℕ) (w : Objects) → Stood b (given_draft b t a.props) n a resources path w → Stood b (pinned_draft b t) n a resources path w
  stood-planned path w is =
      record {
        shown = subst (λ (c : Board). Shows c w) seated-given is.shown;
        path_is = ap (λ (c : Board). canonical c n) (sym seated-given) ∙ is.path_is;
      }

-- what is left of a plan, over the slots that have its values
module _ (R : InitialValue → Named → Type 0) (left : (f : InitialValue) (s : Named) → R f s → R (spent f) (s.0, filled_with (value_alone f) s.1)) where
  zip-spent : (plan : List InitialValue) (slots : List Named) → AllZip R plan slots → AllZip R (map spent plan) (filled (map value_alone plan) slots)
  zip-spent [] [] all = tt
  zip-spent [] (s ∷ slots) all = absurd all
  zip-spent (f ∷ fs) [] all = absurd all
  zip-spent (f ∷ fs) (s ∷ slots) all = (left f s all.0, zip-spent fs slots all.1)

spent-fits : (plan : List InitialValue) (slots : List Named) → AllZip Fits plan slots → AllZip Fits (map spent plan) (filled (map value_alone plan) slots)
spent-fits = zip-spent Fits left
  where
    left : (f : InitialValue) (s : Named) → Fits f s → Fits (spent f) (s.0, filled_with (value_alone f) s.1)
    left fill.Default s is = is
    left (fill.Value v) s is = refl
    left (fill.Target key) s is = is

spent-given : (b : Board) (props : List Given) (plan : List InitialValue) (slots : List Named) → AllZip (IsGiven b props) plan slots
    → AllZip (IsGiven b props) (map spent plan) (filled (map value_alone plan) slots)
spent-given b props = zip-spent (IsGiven b props) left
  where
    left : (f : InitialValue) (s : Named) → IsGiven b props f s → IsGiven b props (spent f) (s.0, filled_with (value_alone f) s.1)
    left fill.Default s is = is
    left (fill.Value v) s is =
        is
        ∙ ap (λ (x : List ℕ × Slot). x.1) (sym (given-again b props (s.0, shown_slot s.1)))
        ∙ ap (λ (x : Slot). (slot_given b props (s.0, x)).1) (sym is)
    left (fill.Target key) s is = is

spent-live : (P : Key → Type 0) (plan : List InitialValue) → AllByRecursion (λ (f : InitialValue). IfSome (target_in f) P) plan
    → AllByRecursion (λ (f : InitialValue). IfSome (target_in f) P) (map spent plan)
spent-live P [] all = tt
spent-live P (f ∷ fs) all = (left f all.0, spent-live P fs all.1)
  where
    left : (f : InitialValue) → IfSome (target_in f) P → IfSome (target_in (spent f)) P
    left fill.Default is = is
    left (fill.Value v) is = tt
    left (fill.Target key) is = is

-- of a vector, which was handed out as a slice
module _ {Z : Type 0} (plan : Vec InitialValue Z) (old new : List InitialValue) (at : old ≡ plan.items) (left : new ≡ map spent old) where
  left-items : (with_items plan new).items ≡ map spent plan.items
  left-items = with_items_is plan new (ap length left ∙ length-map old spent ∙ ap length at ∙ sym plan.ok.0) ∙ left ∙ ap (map spent) at

  pub left-targets : (v w : Objects) → KeepsNames v w → AllByRecursion (λ (f : InitialValue). IfSome (target_in f) (IsLive v.rows)) plan.items
      → AllByRecursion (λ (f : InitialValue). IfSome (target_in f) (IsLive w.rows)) (with_items plan new).items
  left-targets v w keeps live = rw left-items (spent-live (IsLive w.rows) plan.items (plan-live v w keeps plan.items live))

  module _ (t : TypeId) (own : List Named) (made : own ≡ valued_slots t old) where
    own-is : own ≡ valued_slots t plan.items
    own-is = made ∙ ap (valued_slots t) at

    pub left-fits : AllZip Fits plan.items (new_slots t) → AllZip Fits (with_items plan new).items own
    left-fits fits = rw (left-items, own-is) (spent-fits plan.items (new_slots t) fits)

    pub left-given : (b : Board) (props : List Given) → IsPlan b t props plan.items → AllZip (IsGiven b props) (with_items plan new).items own
    left-given b props given = rw (left-items, own-is) (spent-given b props plan.items (new_slots t) given)
