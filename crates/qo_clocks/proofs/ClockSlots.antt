-- What is read of a clock on the heap once a slot of a name was changed.
use Rattle.std.proofs.Common.{◌≡◌, refl, ap, subst, sym, ◌∙◌, ℕ, suc, ◌+◌, Bool, true, false, cond, eqb, List, [], ◌∷◌, find, length, nat_lt, position, Option, Some, None, option_map, arith}
use Rattle.std.specs.List.{position_or_len}
use Rattle.std.specs.Option.{option_map_or}
use Rattle.std.specs.Str.{bytes_eq}
use Rattle.std.proofs.lemmas.Bool.{eqb-true}
use Rattle.std.proofs.lemmas.Option.{same_Some}
use Rattle.std.proofs.lemmas.Slice.Eq.{bytes_eq-Decides}
use Rattle.qo_values.proofs.ListLemmas.{position-none}
use Rattle.qo_object.specs.declared.slots.Slot.{Slot}
use Rattle.qo_object.specs.Content.{Content}
use Rattle.qo_object.specs.Slots.{Named, changed_at}
use Rattle.qo_heap.specs.Acts.{KeepsCounts, KeepsPeriods, counts_of, periods_of}
use Rattle.qo_heap.specs.Objects.{Objects, content_of, slots_of, with_edit}
use Rattle.qo_heap.proofs.BoardObjects.{content-edited, content-other}
use Rattle.qo_clocks.specs.Links.{changed_named, index_on, with_slot_changed}
use Rattle.qo_clocks.specs.Reads.{slot_on}

-- what an edit leaves of each object

pub read-after : {A : Type 0} (get : Content → A) (n : ℕ) (f : Content → Content) → ((c : Content) → get (f c) ≡ get c) → (v : Objects) (m : ℕ)
    → option_map get (content_of (with_edit n f v) m) ≡ option_map get (content_of v m)
read-after {A} get n f same v m = go (eqb m n) refl
  where
    two : (o : Option Content) → option_map get (option_map f o) ≡ option_map get o
    two None = refl
    two (Some c) = ap Some (same c)

    go : (t : Bool) → eqb m n ≡ t → option_map get (content_of (with_edit n f v) m) ≡ option_map get (content_of v m)
    go true p =
        subst (λ (k : ℕ). option_map get (content_of (with_edit n f v) k) ≡ option_map get (content_of v k)) (sym (eqb-true m n p))
        (ap (option_map get) (content-edited v n f) ∙ two (content_of v n))
    go false p = ap (option_map get) (content-other v n m f p)

pub read-or : {A : Type 0} (get : Content → A) (d : A) (o : Option Content) → option_map_or get o d ≡ option_map_or (λ (x : A). x) (option_map get o) d
read-or get d None = refl
read-or get d (Some c) = refl

pub slots-after : (n : ℕ) (f : Content → Content) → ((c : Content) → (f c).slots ≡ c.slots) → (v : Objects) (m : ℕ)
    → slots_of (with_edit n f v) m ≡ slots_of v m
slots-after n f same v m =
    read-or (λ (c : Content). c.slots) [] (content_of (with_edit n f v) m)
    ∙ ap (λ (o : Option (List Named)). option_map_or (λ (x : List Named). x) o []) (read-after (λ (c : Content). c.slots) n f same v m)
    ∙ sym (read-or (λ (c : Content). c.slots) [] (content_of v m))

pub slots-elsewhere : (n : ℕ) (f : Content → Content) (v : Objects) (m : ℕ) → eqb m n ≡ false → slots_of (with_edit n f v) m ≡ slots_of v m
slots-elsewhere n f v m apart = ap (λ (o : Option Content). option_map_or (λ (c : Content). c.slots) o []) (content-other v n m f apart)

-- the first slot that passes is changed

module _ (q : List ℕ → Bool) (f : Slot → Slot) where
  abbrev at : List Named → ℕ
  at slots = position_or_len (λ (s : Named). q s.0) slots

  first-own : (slots : List Named)
      → find (λ (s : Named). q s.0) (changed_at f (at slots) slots) ≡ option_map (λ (s : Named). (s.0, f s.1)) (find (λ (s : Named). q s.0) slots)
  first-own [] = refl
  first-own (s ∷ slots) = go (q s.0) refl (first-own slots)
    where
      one : 1 + at slots ≡ suc (at slots)
      one = omega arith

      go : (t : Bool) → q s.0 ≡ t
          → find (λ (x : Named). q x.0) (changed_at f (at slots) slots) ≡ option_map (λ (x : Named). (x.0, f x.1)) (find (λ (x : Named). q x.0) slots)
          → find (λ (x : Named). q x.0) (changed_at f (at (s ∷ slots)) (s ∷ slots))
          ≡ option_map (λ (x : Named). (x.0, f x.1)) (find (λ (x : Named). q x.0) (s ∷ slots))
      go true e rest = rw (e, e) refl
      go false e rest = rw (e, one, e) rest

  first-other : (p : List ℕ → Bool) → ((name : List ℕ) → q name ≡ true → p name ≡ false) → (slots : List Named)
      → find (λ (s : Named). p s.0) (changed_at f (at slots) slots) ≡ find (λ (s : Named). p s.0) slots
  first-other p apart [] = refl
  first-other p apart (s ∷ slots) = go (q s.0) refl (first-other p apart slots)
    where
      one : 1 + at slots ≡ suc (at slots)
      one = omega arith

      by : (t : Bool) → p s.0 ≡ t → find (λ (x : Named). p x.0) (changed_at f (at slots) slots) ≡ find (λ (x : Named). p x.0) slots
          → find (λ (x : Named). p x.0) (s ∷ changed_at f (at slots) slots) ≡ find (λ (x : Named). p x.0) (s ∷ slots)
      by true is rest = rw is refl
      by false is rest = rw is rest

      go : (t : Bool) → q s.0 ≡ t → find (λ (x : Named). p x.0) (changed_at f (at slots) slots) ≡ find (λ (x : Named). p x.0) slots
          → find (λ (x : Named). p x.0) (changed_at f (at (s ∷ slots)) (s ∷ slots)) ≡ find (λ (x : Named). p x.0) (s ∷ slots)
      go true e rest = rw (e, apart s.0 e) refl
      go false e rest = rw (e, one) (by (p s.0) refl rest)

place-is : (q : Named → Bool) (slots : List Named) (i : ℕ) → position q slots ≡ Some i → position_or_len q slots ≡ i
place-is q slots i e = go (nat_lt (position_or_len q slots) (length slots)) e
  where
    go : (b : Bool) → cond {A = Option ℕ} b (Some (position_or_len q slots)) None ≡ Some i → position_or_len q slots ≡ i
    go true is = same_Some (position_or_len q slots) i is
    go false is = cc

slots-changed : (v : Objects) (n i : ℕ) (f : Slot → Slot) → slots_of (with_edit n (with_slot_changed f i) v) n ≡ changed_at f i (slots_of v n)
slots-changed v n i f =
    ap (λ (o : Option Content). option_map_or (λ (c : Content). c.slots) o []) (content-edited v n (with_slot_changed f i)) ∙ go (content_of v n)
  where
    go : (o : Option Content)
        → option_map_or (λ (c : Content). c.slots) (option_map (with_slot_changed f i) o) [] ≡ changed_at f i (option_map_or (λ (c : Content). c.slots) o [])
    go None = refl
    go (Some c) = refl

abbrev first_named : List ℕ → List Named → Option Named
first_named name slots = find (λ (s : Named). bytes_eq name s.0) slots

abbrev changed_where : ℕ → (Slot → Slot) → Objects → Option ℕ → Objects
changed_where n f v o = elim o as (λ _. Objects) [ None ↦ v | Some i ↦ with_edit n (with_slot_changed f i) v ]

abbrev what : Option Named → Option Slot
what o = option_map (λ (s : Named). s.1) o

module _ (n : ℕ) (name : List ℕ) (f : Slot → Slot) (v : Objects) where
  -- its own name
  pub named-own : slot_on (changed_named n name f v) n name ≡ option_map f (slot_on v n name)
  named-own = go (index_on v n name) refl
    where
      two : (o : Option Named) → what (option_map (λ (s : Named). (s.0, f s.1)) o) ≡ option_map f (what o)
      two None = refl
      two (Some s) = refl

      go : (o : Option ℕ) → index_on v n name ≡ o → slot_on (changed_where n f v o) n name ≡ option_map f (slot_on v n name)
      go None e =
          let none : first_named name (slots_of v n) ≡ None = position-none (λ (s : Named). bytes_eq name s.0) (slots_of v n) e in
          ap what none ∙ sym (ap (λ (o : Option Named). option_map f (what o)) none)
      go (Some i) e =
          ap (λ (slots : List Named). what (first_named name slots)) (slots-changed v n i f)
          ∙ ap (λ (k : ℕ). what (first_named name (changed_at f k (slots_of v n))))
          (sym (place-is (λ (s : Named). bytes_eq name s.0) (slots_of v n) i e))
          ∙ ap what (first-own (bytes_eq name) f (slots_of v n))
          ∙ two (first_named name (slots_of v n))

  -- another name
  pub named-other : (other : List ℕ) → bytes_eq name other ≡ false → slot_on (changed_named n name f v) n other ≡ slot_on v n other
  named-other other apart = go (index_on v n name) refl
    where
      apart-at : (x : List ℕ) → bytes_eq name x ≡ true → bytes_eq other x ≡ false
      apart-at x e = subst (λ (y : List ℕ). bytes_eq other y ≡ false) ((bytes_eq-Decides name x).0 e) (by (bytes_eq other name) refl)
        where
          by : (b : Bool) → bytes_eq other name ≡ b → bytes_eq other name ≡ false
          by false p = p
          by true p =
              let same : name ≡ other = sym ((bytes_eq-Decides other name).0 p) in
              let self : bytes_eq name other ≡ true = subst (λ (y : List ℕ). bytes_eq y other ≡ true) (sym same)
              (subst (λ (y : List ℕ). bytes_eq other y ≡ true) same p) in
              cc

      go : (o : Option ℕ) → index_on v n name ≡ o → slot_on (changed_where n f v o) n other ≡ slot_on v n other
      go None e = refl
      go (Some i) e =
          ap (λ (slots : List Named). what (first_named other slots)) (slots-changed v n i f)
          ∙ ap (λ (k : ℕ). what (first_named other (changed_at f k (slots_of v n))))
          (sym (place-is (λ (s : Named). bytes_eq name s.0) (slots_of v n) i e))
          ∙ ap what (first-other (bytes_eq name) f (bytes_eq other) apart-at (slots_of v n))

  -- another object
  pub named-elsewhere : (m : ℕ) → eqb m n ≡ false → slots_of (changed_named n name f v) m ≡ slots_of v m
  named-elsewhere m apart = go (index_on v n name)
    where
      go : (o : Option ℕ) → slots_of (changed_where n f v o) m ≡ slots_of v m
      go None = refl
      go (Some i) = slots-elsewhere n (with_slot_changed f i) v m apart

  -- what is kept
  pub named-periods : KeepsPeriods v (changed_named n name f v)
  named-periods m = go (index_on v n name)
    where
      go : (o : Option ℕ) → option_map periods_of (content_of (changed_where n f v o) m) ≡ option_map periods_of (content_of v m)
      go None = refl
      go (Some i) = read-after periods_of n (with_slot_changed f i) (λ c. refl) v m

  pub named-counts : KeepsCounts v (changed_named n name f v)
  named-counts m = go (index_on v n name)
    where
      go : (o : Option ℕ) → option_map counts_of (content_of (changed_where n f v o) m) ≡ option_map counts_of (content_of v m)
      go None = refl
      go (Some i) = read-after counts_of n (with_slot_changed f i) (λ c. refl) v m
