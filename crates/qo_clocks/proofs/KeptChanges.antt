-- For the crates above. What leaves the periods right that are kept of clocks.
use Rattle.std.proofs.Common.{◌≡◌, refl, ap, ap₂, subst, sym, ◌∙◌, ℕ, zero, suc, ◌-◌, ◌^◌, min, Bool, true, false, cond, eqb, List, [], ◌∷◌, ◌++◌, find, remove, slice_get, Option, Some, None, IfSome, option_map, unwrap_or, codes}
use Rattle.std.specs.Prelude.{option_and_then}
use Rattle.std.specs.List.{AllByRecursion}
use Rattle.std.specs.Option.{option_map_or}
use Rattle.std.specs.Str.{bytes_eq}
use Rattle.std.proofs.lemmas.Bool.{eqb-true}
use Rattle.std.proofs.lemmas.Option.{same_Some}
use Rattle.qo_values.proofs.ListLemmas.{all-imply}
use Rattle.qo_values.specs.declared.kinds.TypeId.{TypeId}
use Rattle.qo_values.specs.declared.properties.Val.{Val}
use Rattle.qo_slots.specs.declared.keys.Key.{Key}
use Rattle.qo_model.specs.Board.{Board}
use Rattle.qo_model.specs.Clocks.{div_of, is_source, mul_of, own_period, scaled_by, source_of}
use Rattle.qo_object.specs.declared.room.Side.{Side}
use Rattle.qo_object.specs.declared.slots.Slot.{Slot}
use Rattle.qo_object.specs.declared.slots.Slot.TheVariants.{Plain, Child, Link, Alias}
use Rattle.qo_object.specs.BoardObject.{birth_of}
use Rattle.qo_object.specs.Content.{Content, cut_at, dropped_at, forgotten, fresh, pointed_at, set_at, with_all_slots, with_slot}
use Rattle.qo_object.specs.Slots.{Named, changed_at, each_changed, forgotten_in, left_of, let_go_at, pointed, unless_born, with_val}
use Rattle.qo_heap.specs.Acts.{Acts, KeepsPeriods, clocked_in, periods_of}
use Rattle.qo_heap.specs.Board.{Shows}
use Rattle.qo_heap.specs.Objects.{IsHeap, Objects, content_of, ended, slots_of, with_edit}
use Rattle.qo_heap.specs.Rows.{IsLive, object_at}
use Rattle.qo_heap.proofs.ActsReads.{acts-slots}
use Rattle.qo_heap.proofs.BoardObjects.{content-edited, content-gone, content-left, live-content}
use Rattle.qo_clocks.specs.Kept.{FeedsNone, IsClocked, PeriodsKept, child_kept, kept_turn}
use Rattle.qo_clocks.specs.Periods.{scaled_on}
use Rattle.qo_clocks.specs.Reads.{div_on, mul_on, number_in_slot, own_on, source_on, weak_target}
use Rattle.qo_clocks.specs.Subtree.{goes_by}
use Rattle.qo_clocks.proofs.ClockSlots.{read-after, slots-after, slots-elsewhere}
use Rattle.qo_clocks.proofs.KeptLemmas.{ReadsAlike, child-alike, clocked-same, kept-same, scaled-alike, slots-alike, turn-alike, turn_by}
use Rattle.qo_clocks.proofs.WriteLemmas.{shows-goes}
use Rattle.qo_clocks.proofs.ReadLemmas.{shows-div, shows-mul, shows-own, shows-source, source-live}

-- what stands beside the objects is changed, or bodies act

pub kept-rows : (v w : Objects) → w.rows ≡ v.rows → PeriodsKept v → PeriodsKept w
kept-rows v w same =
    kept-same v w (λ n. slots-alike v w n (ap (λ (rows : List (Key × Content)). option_map_or (λ (c : Content). c.slots) (object_at rows n) []) same))
    (λ n. ap (λ (rows : List (Key × Content)). option_map periods_of (object_at rows n)) same)

pub kept-slots : (v w : Objects) → ((n : ℕ) → slots_of w n ≡ slots_of v n) → KeepsPeriods v w → PeriodsKept v → PeriodsKept w
kept-slots v w same = kept-same v w (λ n. slots-alike v w n (same n))

pub kept-acts : (v w : Objects) → Acts v w → KeepsPeriods v w → PeriodsKept v → PeriodsKept w
kept-acts v w acts = kept-slots v w (acts-slots v w acts)

-- one object is changed, in nothing that a clock reads

abbrev first_named : List ℕ → List Named → Option Slot
first_named name slots = option_map (λ (s : Named). s.1) (find (λ (s : Named). bytes_eq name s.0) slots)

pub record SameReads (xs ys : List Named) : Type 0 where
  pub source : option_and_then weak_target (first_named (codes "source") ys) ≡ option_and_then weak_target (first_named (codes "source") xs)
  pub own : unwrap_or (option_and_then number_in_slot (first_named (codes "period") ys)) 0 ≡ unwrap_or (option_and_then number_in_slot (first_named (codes "period") xs)) 0
  pub mul : unwrap_or (option_and_then number_in_slot (first_named (codes "mul") ys)) 1 ≡ unwrap_or (option_and_then number_in_slot (first_named (codes "mul") xs)) 1
  pub div : unwrap_or (option_and_then number_in_slot (first_named (codes "div") ys)) 1 ≡ unwrap_or (option_and_then number_in_slot (first_named (codes "div") xs)) 1

same-found : (xs ys : List Named) → ((name : List ℕ) → first_named name ys ≡ first_named name xs) → SameReads xs ys
same-found xs ys same =
    record {
      source = ap (option_and_then weak_target) (same (codes "source"));
      own = ap (λ (o : Option Slot). unwrap_or (option_and_then number_in_slot o) 0) (same (codes "period"));
      mul = ap (λ (o : Option Slot). unwrap_or (option_and_then number_in_slot o) 1) (same (codes "mul"));
      div = ap (λ (o : Option Slot). unwrap_or (option_and_then number_in_slot o) 1) (same (codes "div"));
    }

pub kept-edit : (v : Objects) (n : ℕ) (g : Content → Content) → ((c : Content) → (g c).side ≡ c.side)
    → ((c : Content) → content_of v n ≡ Some c → SameReads c.slots (g c).slots) → PeriodsKept v → PeriodsKept (with_edit n g v)
kept-edit v n g side reads =
    kept-same v (with_edit n g v) all (read-after periods_of n g (λ c. ap (λ (s : Side). (s.period, s.child)) (side c)) v)
  where
    here : (o : Option Content) → content_of v n ≡ o → ReadsAlike v (with_edit n g v) n
    here None e =
        slots-alike v (with_edit n g v) n
        (ap (λ (o : Option Content). option_map_or (λ (c : Content). c.slots) o []) (content-edited v n g ∙ ap (option_map g) e)
        ∙ sym (ap (λ (o : Option Content). option_map_or (λ (c : Content). c.slots) o []) e))
    here (Some c) e =
        let now : slots_of (with_edit n g v) n ≡ (g c).slots =
        ap (λ (o : Option Content). option_map_or (λ (c : Content). c.slots) o []) (content-edited v n g ∙ ap (option_map g) e) in
        let was : slots_of v n ≡ c.slots = ap (λ (o : Option Content). option_map_or (λ (c : Content). c.slots) o []) e in
        let same : SameReads c.slots (g c).slots = reads c e in
        record { source = rw (now, was) same.source; own = rw (now, was) same.own; mul = rw (now, was) same.mul; div = rw (now, was) same.div }

    all : (m : ℕ) → ReadsAlike v (with_edit n g v) m
    all m = go (eqb m n) refl
      where
        go : (t : Bool) → eqb m n ≡ t → ReadsAlike v (with_edit n g v) m
        go true e = subst (λ (k : ℕ). ReadsAlike v (with_edit n g v) k) (sym (eqb-true m n e)) (here (content_of v n) refl)
        go false e = slots-alike v (with_edit n g v) m (slots-elsewhere n g v m e)

-- its slots stay
pub kept-still : (v : Objects) (n : ℕ) (g : Content → Content) → ((c : Content) → (g c).side ≡ c.side) → ((c : Content) → (g c).slots ≡ c.slots)
    → PeriodsKept v → PeriodsKept (with_edit n g v)
kept-still v n g side slots =
    kept-same v (with_edit n g v) (λ m. slots-alike v (with_edit n g v) m (slots-after n g slots v m))
    (read-after periods_of n g (λ c. ap (λ (s : Side). (s.period, s.child)) (side c)) v)

-- a slot reads as none of its name would: as a period of 0, a mul or div of 1, no source, or it has another name
pub record ReadsAsNone (name : List ℕ) (s : Slot) : Type 0 where
  pub source : bytes_eq (codes "source") name ≡ true → weak_target s ≡ None
  pub own : bytes_eq (codes "period") name ≡ true → unwrap_or (number_in_slot s) 0 ≡ 0
  pub mul : bytes_eq (codes "mul") name ≡ true → unwrap_or (number_in_slot s) 1 ≡ 1
  pub div : bytes_eq (codes "div") name ≡ true → unwrap_or (number_in_slot s) 1 ≡ 1

read-added : {A : Type 0} (read : Option Slot → A) (wanted name : List ℕ) (s : Slot) → (bytes_eq wanted name ≡ true → read (Some s) ≡ read None)
    → (slots : List Named) → read (first_named wanted (slots ++ (name, s) ∷ [])) ≡ read (first_named wanted slots)
read-added {A} read wanted name s none [] = go (bytes_eq wanted name) refl
  where
    go : (t : Bool) → bytes_eq wanted name ≡ t → read (option_map (λ (x : Named). x.1) (cond t (Some (name, s)) None)) ≡ read None
    go true e = none e
    go false e = refl
read-added {A} read wanted name s none (x ∷ slots) = go (bytes_eq wanted x.0) (read-added read wanted name s none slots)
  where
    go : (t : Bool) → read (first_named wanted (slots ++ (name, s) ∷ [])) ≡ read (first_named wanted slots)
        → read (option_map (λ (y : Named). y.1) (cond t (Some x) (find (λ (y : Named). bytes_eq wanted y.0) (slots ++ (name, s) ∷ []))))
        ≡ read (option_map (λ (y : Named). y.1) (cond t (Some x) (find (λ (y : Named). bytes_eq wanted y.0) slots)))
    go true rest = refl
    go false rest = rest

added-reads : (name : List ℕ) (s : Slot) → ReadsAsNone name s → (slots : List Named) → SameReads slots (slots ++ (name, s) ∷ [])
added-reads name s none slots =
    record {
      source = read-added (λ (o : Option Slot). option_and_then weak_target o) (codes "source") name s none.source slots;
      own = read-added (λ (o : Option Slot). unwrap_or (option_and_then number_in_slot o) 0) (codes "period") name s none.own slots;
      mul = read-added (λ (o : Option Slot). unwrap_or (option_and_then number_in_slot o) 1) (codes "mul") name s none.mul slots;
      div = read-added (λ (o : Option Slot). unwrap_or (option_and_then number_in_slot o) 1) (codes "div") name s none.div slots;
    }

-- a slot is added; of another name, or with what a clock without it has
pub kept-added : (v : Objects) (n : ℕ) (name : List ℕ) (s : Slot) → ReadsAsNone name s → PeriodsKept v → PeriodsKept (with_edit n (with_slot name s) v)
kept-added v n name s none = kept-edit v n (with_slot name s) (λ c. refl) (λ c e. added-reads name s none c.slots)

-- such slots are given to an object that has none
read-all : {A : Type 0} (read : Option Slot → A) (wanted : List ℕ) (slots : List Named)
    → AllByRecursion (λ (x : Named). bytes_eq wanted x.0 ≡ true → read (Some x.1) ≡ read None) slots → read (first_named wanted slots) ≡ read None
read-all {A} read wanted [] all = refl
read-all {A} read wanted (x ∷ slots) all = go (bytes_eq wanted x.0) refl (read-all read wanted slots all.1)
  where
    go : (t : Bool) → bytes_eq wanted x.0 ≡ t → read (first_named wanted slots) ≡ read None
        → read (option_map (λ (y : Named). y.1) (cond t (Some x) (find (λ (y : Named). bytes_eq wanted y.0) slots))) ≡ read None
    go true e rest = all.0 e
    go false e rest = rest

none-reads : (slots : List Named) → AllByRecursion (λ (x : Named). ReadsAsNone x.0 x.1) slots → SameReads [] slots
none-reads slots all =
    record {
      source = read-all (λ (o : Option Slot). option_and_then weak_target o) (codes "source") slots
          (all-imply (λ (x : Named). ReadsAsNone x.0 x.1) (λ (x : Named). bytes_eq (codes "source") x.0 ≡ true → weak_target x.1 ≡ None) (λ x none. none.source) slots all);
      own = read-all (λ (o : Option Slot). unwrap_or (option_and_then number_in_slot o) 0) (codes "period") slots
          (all-imply (λ (x : Named). ReadsAsNone x.0 x.1) (λ (x : Named). bytes_eq (codes "period") x.0 ≡ true → unwrap_or (number_in_slot x.1) 0 ≡ 0) (λ x none. none.own) slots all);
      mul = read-all (λ (o : Option Slot). unwrap_or (option_and_then number_in_slot o) 1) (codes "mul") slots
          (all-imply (λ (x : Named). ReadsAsNone x.0 x.1) (λ (x : Named). bytes_eq (codes "mul") x.0 ≡ true → unwrap_or (number_in_slot x.1) 1 ≡ 1) (λ x none. none.mul) slots all);
      div = read-all (λ (o : Option Slot). unwrap_or (option_and_then number_in_slot o) 1) (codes "div") slots
          (all-imply (λ (x : Named). ReadsAsNone x.0 x.1) (λ (x : Named). bytes_eq (codes "div") x.0 ≡ true → unwrap_or (number_in_slot x.1) 1 ≡ 1) (λ x none. none.div) slots all);
    }

pub kept-furnished : (v : Objects) (n : ℕ) (slots : List Named) → slots_of v n ≡ [] → AllByRecursion (λ (x : Named). ReadsAsNone x.0 x.1) slots
    → PeriodsKept v → PeriodsKept (with_edit n (with_all_slots slots) v)
kept-furnished v n slots bare all =
    kept-edit v n (with_all_slots slots) (λ c. refl)
    (λ c e.
    let none : [] ≡ c.slots = sym bare ∙ ap (λ (o : Option Content). option_map_or (λ (d : Content). d.slots) o []) e in
    subst (λ (xs : List Named). SameReads xs slots) none (none-reads slots all))

-- a slot of another name is changed, let go or removed

-- none of a clock's names
pub record IsOther (name : List ℕ) : Type 0 where
  pub source : bytes_eq (codes "source") name ≡ false
  pub own : bytes_eq (codes "period") name ≡ false
  pub mul : bytes_eq (codes "mul") name ≡ false
  pub div : bytes_eq (codes "div") name ≡ false

pub other-none : (name : List ℕ) (s : Slot) → IsOther name → ReadsAsNone name s
other-none name s other =
    record {
      source = λ e. cc (other.source, e);
      own = λ e. cc (other.own, e);
      mul = λ e. cc (other.mul, e);
      div = λ e. cc (other.div, e);
    }

-- the slot at a place has another name than one
abbrev Apart : List ℕ → List Named → ℕ → Type 0
Apart name slots i = IfSome (slice_get slots i) (λ (s : Named). bytes_eq name s.0 ≡ false)

found-changed : (f : Slot → Slot) (name : List ℕ) (i : ℕ) (slots : List Named) → Apart name slots i
    → first_named name (changed_at f i slots) ≡ first_named name slots
found-changed f name i [] apart = refl
found-changed f name zero (s ∷ slots) apart = let other : bytes_eq name s.0 ≡ false = apart in rw other refl
found-changed f name (suc i) (s ∷ slots) apart = go (bytes_eq name s.0) (found-changed f name i slots apart)
  where
    go : (t : Bool) → first_named name (changed_at f i slots) ≡ first_named name slots
        → option_map (λ (x : Named). x.1) (cond t (Some s) (find (λ (x : Named). bytes_eq name x.0) (changed_at f i slots)))
        ≡ option_map (λ (x : Named). x.1) (cond t (Some s) (find (λ (x : Named). bytes_eq name x.0) slots))
    go true rest = refl
    go false rest = rest

found-removed : (name : List ℕ) (i : ℕ) (slots : List Named) → Apart name slots i → first_named name (remove slots i) ≡ first_named name slots
found-removed name zero [] apart = refl
found-removed name (suc i) [] apart = refl
found-removed name zero (s ∷ slots) apart = let other : bytes_eq name s.0 ≡ false = apart in rw other refl
found-removed name (suc i) (s ∷ slots) apart = go (bytes_eq name s.0) (found-removed name i slots apart)
  where
    go : (t : Bool) → first_named name (remove slots i) ≡ first_named name slots
        → option_map (λ (x : Named). x.1) (cond t (Some s) (find (λ (x : Named). bytes_eq name x.0) (remove slots i)))
        ≡ option_map (λ (x : Named). x.1) (cond t (Some s) (find (λ (x : Named). bytes_eq name x.0) slots))
    go true rest = refl
    go false rest = rest

found-let_go : (name : List ℕ) (i : ℕ) (slots : List Named) → Apart name slots i → first_named name (let_go_at i slots) ≡ first_named name slots
found-let_go name i [] apart = refl
found-let_go name zero (s ∷ slots) apart = go (left_of s.1)
  where
    other : bytes_eq name s.0 ≡ false
    other = apart

    go : (o : Option Slot)
        → first_named name (elim o as (λ _. List Named) [ None ↦ slots | Some left ↦ (s.0, left) ∷ slots ]) ≡ first_named name (s ∷ slots)
    go None = rw other refl
    go (Some left) = rw other refl
found-let_go name (suc i) (s ∷ slots) apart = go (bytes_eq name s.0) (found-let_go name i slots apart)
  where
    go : (t : Bool) → first_named name (let_go_at i slots) ≡ first_named name slots
        → option_map (λ (x : Named). x.1) (cond t (Some s) (find (λ (x : Named). bytes_eq name x.0) (let_go_at i slots)))
        ≡ option_map (λ (x : Named). x.1) (cond t (Some s) (find (λ (x : Named). bytes_eq name x.0) slots))
    go true rest = refl
    go false rest = rest

-- the slot of an object at a place, if there is one, has none of a clock's names
abbrev pub IsOtherAt : Objects → ℕ → ℕ → Type 0
IsOtherAt v n i = IfSome (slice_get (slots_of v n) i) (λ (s : Named). IsOther s.0)

module _ (v : Objects) (n i : ℕ) (other : IsOtherAt v n i) where
  place : (c : Content) → content_of v n ≡ Some c → IfSome (slice_get c.slots i) (λ (s : Named). IsOther s.0)
  place c e =
      subst (λ (slots : List Named). IfSome (slice_get slots i) (λ (s : Named). IsOther s.0))
      (ap (λ (o : Option Content). option_map_or (λ (d : Content). d.slots) o []) e) other

  part : (name : List ℕ) (slots : List Named) → ((s : Named) → IsOther s.0 → bytes_eq name s.0 ≡ false)
      → IfSome (slice_get slots i) (λ (s : Named). IsOther s.0) → Apart name slots i
  part name slots each at = go (slice_get slots i) at
    where
      go : (o : Option Named) → IfSome o (λ (s : Named). IsOther s.0) → IfSome o (λ (s : Named). bytes_eq name s.0 ≡ false)
      go None at = tt
      go (Some s) at = each s at

  by-found : (g : List Named → List Named) → ((name : List ℕ) (slots : List Named) → Apart name slots i → first_named name (g slots) ≡ first_named name slots)
      → (c : Content) → content_of v n ≡ Some c → SameReads c.slots (g c.slots)
  by-found g found c e =
      record {
        source = ap (option_and_then weak_target) (found (codes "source") c.slots (part (codes "source") c.slots (λ s o. o.source) (place c e)));
        own =
            ap (λ (o : Option Slot). unwrap_or (option_and_then number_in_slot o) 0)
            (found (codes "period") c.slots (part (codes "period") c.slots (λ s o. o.own) (place c e)));
        mul =
            ap (λ (o : Option Slot). unwrap_or (option_and_then number_in_slot o) 1)
            (found (codes "mul") c.slots (part (codes "mul") c.slots (λ s o. o.mul) (place c e)));
        div =
            ap (λ (o : Option Slot). unwrap_or (option_and_then number_in_slot o) 1)
            (found (codes "div") c.slots (part (codes "div") c.slots (λ s o. o.div) (place c e)));
      }

  pub kept-set : (value : Val) → PeriodsKept v → PeriodsKept (with_edit n (set_at value i) v)
  kept-set value =
      kept-edit v n (set_at value i) (λ c. refl) (by-found (changed_at (with_val value) i) (λ name slots. found-changed (with_val value) name i slots))

  pub kept-pointed : (key : Key) → PeriodsKept v → PeriodsKept (with_edit n (pointed_at key i) v)
  kept-pointed key = kept-edit v n (pointed_at key i) (λ c. refl) (by-found (changed_at (pointed key) i) (λ name slots. found-changed (pointed key) name i slots))

  pub kept-dropped : PeriodsKept v → PeriodsKept (with_edit n (dropped_at i) v)
  kept-dropped = kept-edit v n (dropped_at i) (λ c. refl) (by-found (let_go_at i) (λ name slots. found-let_go name i slots))

  pub kept-cut : PeriodsKept v → PeriodsKept (with_edit n (cut_at i) v)
  kept-cut = kept-edit v n (cut_at i) (λ c. refl) (by-found (λ slots. remove slots i) (λ name slots. found-removed name i slots))

-- a new object, which has no slots

module _ (v : Objects) (kind : TypeId) (key : Key) (born : ℕ) where
  abbrev made : Objects
  made = record v { rows = v.rows ++ (key, fresh kind) ∷ []; born = born }

  -- an object of a birth is as it was, or it is the new one
  found-made : (n : ℕ) (rows : List (Key × Content)) (P : Option Content → Option Content → Type 0) → ((c : Content) → P (Some c) (Some c)) → P None None
      → P None (Some (fresh kind)) → P (object_at rows n) (object_at (rows ++ (key, fresh kind) ∷ []) n)
  found-made n [] P some none new = go (eqb key.birth n)
    where
      go : (t : Bool) → P None (option_map (λ (row : Key × Content). row.1) (cond t (Some (key, fresh kind)) None))
      go true = new
      go false = none
  found-made n (row ∷ rows) P some none new = go (eqb row.0.birth n) (found-made n rows P some none new)
    where
      go : (t : Bool) → P (object_at rows n) (object_at (rows ++ (key, fresh kind) ∷ []) n)
          → P (option_map (λ (r : Key × Content). r.1) (cond t (Some row) (find (λ (r : Key × Content). eqb r.0.birth n) rows)))
          (option_map (λ (r : Key × Content). r.1) (cond t (Some row) (find (λ (r : Key × Content). eqb r.0.birth n) (rows ++ (key, fresh kind) ∷ []))))
      go true rest = some row.1
      go false rest = rest

  made-slots : (n : ℕ) → slots_of made n ≡ slots_of v n
  made-slots n =
      found-made n v.rows
      (λ (o p : Option Content). option_map_or (λ (c : Content). c.slots) p [] ≡ option_map_or (λ (c : Content). c.slots) o [])
      (λ c. refl) refl refl

  made-child : (n : ℕ) → child_kept made n ≡ child_kept v n
  made-child n =
      found-made n v.rows
      (λ (o p : Option Content). option_map_or (λ (c : Content). c.side.child) p 0 ≡ option_map_or (λ (c : Content). c.side.child) o 0)
      (λ c. refl) refl refl

  alike : (n : ℕ) → ReadsAlike v made n
  alike n = slots-alike v made n (made-slots n)

  pub kept-made : PeriodsKept v → PeriodsKept made
  kept-made kept n c there = go (content_of v n) (content_of made n) refl refl there
      (found-made n v.rows (λ (o p : Option Content). (d : Content) → o ≡ Some d → p ≡ Some d) (λ y d e. e) (λ d e. e) (λ d e. cc))
      (found-made n v.rows (λ (o p : Option Content). (d : Content) → o ≡ None → p ≡ Some d → d ≡ fresh kind) (λ y d e is. cc) (λ d e is. cc) (λ d e is. same_Some d (fresh kind) (sym is)))
    where
      old : (d : Content) → content_of v n ≡ Some d → d ≡ c → IsClocked made n c
      old d e same =
          let k : IsClocked v n c = kept n c (e ∙ ap (λ (x : Content). Some x) same) in
          record {
            period = k.period ∙ sym (turn-alike v made n (alike n) (λ s q. made-child s.birth));
            child = k.child ∙ sym (scaled-alike v made n (alike n) c.side.period);
          }

      new : content_of v n ≡ None → c ≡ fresh kind → IsClocked made n c
      new e is =
          let bare : slots_of made n ≡ [] = made-slots n ∙ ap (λ (o : Option Content). option_map_or (λ (d : Content). d.slots) o []) e in
          let source : source_on made n ≡ None = rw bare refl in
          let own : own_on made n ≡ 0 = rw bare refl in
          let mul : mul_on made n ≡ 1 = rw bare refl in
          let div : div_on made n ≡ 1 = rw bare refl in
          let turn : kept_turn made n ≡ 0 = ap (turn_by made n) source ∙ own in
          let scale : scaled_on made n 0 ≡ 0 = ap₂ (λ (m d : ℕ). min (scaled_by m d 0) (2 ^ 64 - 1)) mul div in
          record {
            period = ap (λ (x : Content). x.side.period) is ∙ sym turn;
            child = ap (λ (x : Content). x.side.child) is ∙ sym scale ∙ ap (scaled_on made n) (sym (ap (λ (x : Content). x.side.period) is));
          }

      go : (o p : Option Content) → content_of v n ≡ o → content_of made n ≡ p → p ≡ Some c → ((d : Content) → content_of v n ≡ Some d → content_of made n ≡ Some d)
          → ((d : Content) → content_of v n ≡ None → content_of made n ≡ Some d → d ≡ fresh kind) → IsClocked made n c
      go None p e q at some none = new e (none c e (q ∙ at))
      go (Some d) p e q at some none = old d e (same_Some d c (sym (some d e) ∙ q ∙ at))

-- an object ends, by which none goes that stays

unless-apart : (n : ℕ) (o : Option Key) → option_map_or (λ (k : Key). eqb k.birth n) o false ≡ false → unless_born n o ≡ o
unless-apart n None e = refl
unless-apart n (Some k) e = ap (λ (t : Bool). cond t None (Some k)) e

source-left : (n : ℕ) (o : Option Slot) → option_map_or (λ (k : Key). eqb k.birth n) (option_and_then weak_target o) false ≡ false
    → option_and_then weak_target (option_map (forgotten_in n) o) ≡ option_and_then weak_target o
source-left n None e = refl
source-left n (Some (Plain p)) e = refl
source-left n (Some (Child k)) e = refl
source-left n (Some (Link ty true target)) e = refl
source-left n (Some (Link ty false target)) e = unless-apart n target e
source-left n (Some (Alias k name)) e = refl

number-left : (n : ℕ) (o : Option Slot) → option_and_then number_in_slot (option_map (forgotten_in n) o) ≡ option_and_then number_in_slot o
number-left n None = refl
number-left n (Some (Plain p)) = refl
number-left n (Some (Child k)) = refl
number-left n (Some (Link ty true target)) = refl
number-left n (Some (Link ty false target)) = refl
number-left n (Some (Alias k name)) = refl

found-left : (n : ℕ) (name : List ℕ) (slots : List Named) → first_named name (each_changed (forgotten_in n) slots) ≡ option_map (forgotten_in n) (first_named name slots)
found-left n name [] = refl
found-left n name (s ∷ slots) = go (bytes_eq name s.0) (found-left n name slots)
  where
    go : (t : Bool) → first_named name (each_changed (forgotten_in n) slots) ≡ option_map (forgotten_in n) (first_named name slots)
        → option_map (λ (x : Named). x.1) (cond t (Some (s.0, forgotten_in n s.1)) (find (λ (x : Named). bytes_eq name x.0) (each_changed (forgotten_in n) slots)))
        ≡ option_map (forgotten_in n) (option_map (λ (x : Named). x.1) (cond t (Some s) (find (λ (x : Named). bytes_eq name x.0) slots)))
    go true rest = refl
    go false rest = rest

module _ (v : Objects) (n : ℕ) (x : Content) (none : (m : ℕ) → eqb m n ≡ false → goes_by v n m ≡ false) where
  abbrev left : Objects
  left = ended n x v

  left-slots : (m : ℕ) → eqb m n ≡ false → slots_of left m ≡ each_changed (forgotten_in n) (slots_of v m)
  left-slots m apart = ap (λ (o : Option Content). option_map_or (λ (c : Content). c.slots) o []) (content-left v n m x apart) ∙ go (content_of v m)
    where
      go : (o : Option Content)
          → option_map_or (λ (c : Content). c.slots) (option_map (forgotten n) o) [] ≡ each_changed (forgotten_in n) (option_map_or (λ (c : Content). c.slots) o [])
      go None = refl
      go (Some c) = refl

  left-named : (m : ℕ) → eqb m n ≡ false → (name : List ℕ) → first_named name (slots_of left m) ≡ option_map (forgotten_in n) (first_named name (slots_of v m))
  left-named m apart name = ap (first_named name) (left-slots m apart) ∙ found-left n name (slots_of v m)

  left-reads : (m : ℕ) → eqb m n ≡ false → ReadsAlike v left m
  left-reads m apart =
      record {
        source =
            ap (option_and_then weak_target) (left-named m apart (codes "source")) ∙ source-left n (first_named (codes "source") (slots_of v m)) (none m apart);
        own =
            ap (λ (o : Option ℕ). unwrap_or o 0)
            (ap (option_and_then number_in_slot) (left-named m apart (codes "period")) ∙ number-left n (first_named (codes "period") (slots_of v m)));
        mul =
            ap (λ (o : Option ℕ). unwrap_or o 1)
            (ap (option_and_then number_in_slot) (left-named m apart (codes "mul")) ∙ number-left n (first_named (codes "mul") (slots_of v m)));
        div =
            ap (λ (o : Option ℕ). unwrap_or o 1)
            (ap (option_and_then number_in_slot) (left-named m apart (codes "div")) ∙ number-left n (first_named (codes "div") (slots_of v m)));
      }

  left-periods : (m : ℕ) → eqb m n ≡ false → clocked_in left m ≡ clocked_in v m
  left-periods m apart = ap (option_map periods_of) (content-left v n m x apart) ∙ go (content_of v m)
    where
      go : (o : Option Content) → option_map periods_of (option_map (forgotten n) o) ≡ option_map periods_of o
      go None = refl
      go (Some c) = refl

  pub kept-ended : PeriodsKept v → PeriodsKept left
  kept-ended kept m c there = go (eqb m n) refl
    where
      source-stays : eqb m n ≡ false → (s : Key) → source_on v m ≡ Some s → child_kept left s.birth ≡ child_kept v s.birth
      source-stays apart s e =
          let other : eqb s.birth n ≡ false = sym (ap (λ (o : Option Key). option_map_or (λ (k : Key). eqb k.birth n) o false) e) ∙ none m apart in
          child-alike v left s.birth (left-periods s.birth other)

      go : (t : Bool) → eqb m n ≡ t → IsClocked left m c
      go true e =
          let gone : content_of left m ≡ None = ap (content_of left) (eqb-true m n e) ∙ content-gone v n x in
          absurd (let clash : Some c ≡ None = sym there ∙ gone in cc)
      go false e = clocked-same v left m (left-reads m e) (left-periods m e) (source-stays e) (kept m) c there

-- objects end, as a board says it: what is left keeps what was kept of it, its numbers and its source

abbrev turn_at : Objects → ℕ → Option ℕ → ℕ
turn_at v n o = elim o as (λ _. ℕ) [ None ↦ own_on v n | Some s ↦ child_kept v s ]

turn-births : (v : Objects) (n : ℕ) → kept_turn v n ≡ turn_at v n (birth_of (source_on v n))
turn-births v n = go (source_on v n)
  where
    go : (o : Option Key) → elim o as (λ _. ℕ) [ None ↦ own_on v n | Some s ↦ child_kept v s.birth ] ≡ turn_at v n (birth_of o)
    go None = refl
    go (Some s) = refl

pub record ClockStays (b x : Board) (n : ℕ) : Type 0 where
  pub source : source_of x n ≡ source_of b n
  pub own : own_period x n ≡ own_period b n
  pub mul : mul_of x n ≡ mul_of b n
  pub div : div_of x n ≡ div_of b n

module _ (b x : Board) (v w : Objects) (s : Shows b v) (t : Shows x w) (good : IsHeap w)
    (sides : (n : ℕ) (c : Content) → content_of w n ≡ Some c → option_map (λ (d : Content). d.side) (content_of v n) ≡ Some c.side)
    (stays : (n : ℕ) (c : Content) → content_of w n ≡ Some c → ClockStays b x n) where
  was : (n : ℕ) (c : Content) → content_of w n ≡ Some c → (d : Content) × ((content_of v n ≡ Some d) × (d.side ≡ c.side))
  was n c there = go (content_of v n) refl (sides n c there)
    where
      go : (o : Option Content) → content_of v n ≡ o → option_map (λ (d : Content). d.side) o ≡ Some c.side
          → (d : Content) × ((content_of v n ≡ Some d) × (d.side ≡ c.side))
      go None e is = cc
      go (Some d) e is = (d, (e, same_Some d.side c.side is))

  child-stays : (key : Key) → IsLive w.rows key → child_kept w key.birth ≡ child_kept v key.birth
  child-stays key live =
      let (c, there) = live-content w key live in
      let (d, (at, side)) = was key.birth c there in
      ap (λ (o : Option Content). option_map_or (λ (y : Content). y.side.child) o 0) there
      ∙ ap (λ (y : Side). y.child) (sym side)
      ∙ sym (ap (λ (o : Option Content). option_map_or (λ (y : Content). y.side.child) o 0) at)

  pub kept-left : PeriodsKept v → PeriodsKept w
  kept-left kept n c there =
      let (d, (at, side)) = was n c there in
      let k : IsClocked v n d = kept n d at in
      let same : ClockStays b x n = stays n c there in
      let own : own_on w n ≡ own_on v n = sym (shows-own x w t n) ∙ same.own ∙ shows-own b v s n in
      let mul : mul_on w n ≡ mul_on v n = sym (shows-mul x w t n) ∙ same.mul ∙ shows-mul b v s n in
      let div : div_on w n ≡ div_on v n = sym (shows-div x w t n) ∙ same.div ∙ shows-div b v s n in
      let source : birth_of (source_on w n) ≡ birth_of (source_on v n) = sym (shows-source x w t n) ∙ same.source ∙ shows-source b v s n in
      let turn : kept_turn w n ≡ kept_turn v n =
      go own (source_on w n) refl (source-live w good n) ∙ ap (turn_at v n) source ∙ sym (turn-births v n) in
      let period : c.side.period ≡ d.side.period = ap (λ (y : Side). y.period) (sym side) in
      record {
        period = period ∙ k.period ∙ sym turn;
        child =
            ap (λ (y : Side). y.child) (sym side) ∙ k.child ∙ ap (scaled_on v n) (sym period)
            ∙ sym (ap₂ (λ (m e : ℕ). min (scaled_by m e c.side.period) (2 ^ 64 - 1)) mul div);
      }
    where
      go : own_on w n ≡ own_on v n → (o : Option Key) → source_on w n ≡ o → IfSome o (IsLive w.rows)
          → elim o as (λ _. ℕ) [ None ↦ own_on w n | Some k ↦ child_kept w k.birth ] ≡ turn_at v n (birth_of o)
      go own None e live = own
      go own (Some k) e live = child-stays k live

-- by no clock does another go where none does on a board
pub feeds-none-shown : (b : Board) (v : Objects) → Shows b v → (c : ℕ) → ((n : ℕ) → is_source b c n ≡ false) → FeedsNone v c
feeds-none-shown b v s c none n = ap (λ (f : ℕ → Bool). f n) (shows-goes b v s c) ∙ none n
