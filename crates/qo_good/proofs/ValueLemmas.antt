-- What objects have under the names of properties that a description gives.
use Rattle.std.proofs.Common.{◌≡◌, ◌≢◌, inl, inr, refl, ap, sym, subst, ◌∙◌, ℕ, Bool, true, false, List, [], ◌∷◌, find, Option, Some, None, option_map, option_and_then}
use Rattle.qo_model.proofs.Common.{AllByRecursion, list_any, option_map_or, if◌then◌else◌, bytes_eq, admits, TypeId, PropType, Val, Board, Record, Slot, plain, child, strong, weak, alias, kind_of, record_of, slot_named, Given, property_named, slots_of}
use Rattle.std.proofs.lemmas.Option.{same_Some}
use Rattle.std.proofs.Math.Bool.{or-true}
use Rattle.qo_values.specs.declared.properties.PropType.TheVariants as ty
use Rattle.qo_values.specs.declared.properties.Val.TheVariants as val
use Rattle.qo_model.specs.RowNames.{property_name}
use Rattle.qo_model.specs.declared.properties.First.{First}
use Rattle.qo_model.specs.declared.properties.First.TheVariants as first
use Rattle.qo_model.specs.declared.properties.Property.{Property}
use Rattle.qo_model.specs.declared.properties.PropertyRole.{PropertyRole}
use Rattle.qo_model.specs.declared.properties.PropertyRole.TheVariants as row
use Rattle.qo_save.specs.Described.{given_in, is_nothing, prop_under}
use Rattle.qo_sound.proofs.TestLemmas.{clash, clash-back}
use Rattle.qo_sound_shapes.specs.SoundShape.{HasRole, HasSlots, IsFurther, may_miss, missing, next, SoundShape}
use Rattle.qo_sound_shapes.proofs.FactLemmas.{shapes_say_lem}
use Rattle.qo_sound_shapes.proofs.RowLemmas.{has-all, Slots}

-- ---- lists

none-found : {X : Type 0} (test : X → Bool) (xs : List X) → find test xs ≡ None → AllByRecursion (λ (x : X). test x ≡ false) xs
none-found test [] e = tt
none-found test (x ∷ xs) e = go (test x) refl (none-found test xs)
  where
    go : (t : Bool) → test x ≡ t → (find test xs ≡ None → AllByRecursion (λ y. test y ≡ false) xs) → AllByRecursion (λ y. test y ≡ false) (x ∷ xs)
    go true q rest = absurd (let clash : Some x ≡ None = rw q at e in cc)
    go false q rest = (q, rest (rw q at e))

find-none : {X : Type 0} (test : X → Bool) (xs : List X) → AllByRecursion (λ (x : X). test x ≡ false) xs → find test xs ≡ None
find-none test [] h = refl
find-none test (x ∷ xs) h = rw h.0 (find-none test xs h.1)

there-found : (name : List ℕ) (xs : Slots) → list_any (λ (x : List ℕ × Slot). bytes_eq x.0 name) xs ≡ true
    → (s : List ℕ × Slot) × (find (λ (x : List ℕ × Slot). bytes_eq x.0 name) xs ≡ Some s)
there-found name [] e = clash-back e
there-found name (x ∷ xs) e = go (bytes_eq x.0 name) refl (there-found name xs)
  where
    go : (u : Bool) → bytes_eq x.0 name ≡ u
        → (list_any (λ (y : List ℕ × Slot). bytes_eq y.0 name) xs ≡ true → (s : List ℕ × Slot) × (find (λ (y : List ℕ × Slot). bytes_eq y.0 name) xs ≡ Some s))
        → (s : List ℕ × Slot) × (find (λ (y : List ℕ × Slot). bytes_eq y.0 name) (x ∷ xs) ≡ Some s)
    go true p rest = (x, rw p refl)
    go false p rest = let (s, f) = rest (rw p at e) in (s, rw p f)

-- ---- rows and slots

-- a row that may not be missing has a slot
has-row : (t : TypeId) (name : List ℕ) (ps : List Property) (p : Property) → find (λ (q : Property). bytes_eq (property_name q.name) name) ps ≡ Some p
    → may_miss p ≡ false → {slots : Slots} → HasSlots t ps slots → list_any (λ (x : List ℕ × Slot). bytes_eq x.0 name) slots ≡ true
has-row t name [] p e stays h = cc
has-row t name (q ∷ ps) p e stays (next {s = s} {slots = slots} is rest) =
    go (bytes_eq (property_name q.name) name) refl (λ f. has-row t name ps p f stays rest)
  where
    go : (u : Bool) → bytes_eq (property_name q.name) name ≡ u
        → (find (λ (x : Property). bytes_eq (property_name x.name) name) ps ≡ Some p → list_any (λ (x : List ℕ × Slot). bytes_eq x.0 name) slots ≡ true)
        → list_any (λ (x : List ℕ × Slot). bytes_eq x.0 name) (s ∷ slots) ≡ true
    go true k deeper = rw (ap (λ (n : List ℕ). bytes_eq n name) is.name ∙ k) refl
    go false k deeper = rw (deeper (rw k at e)) (or-true (bytes_eq s.0 name))
has-row t name (q ∷ ps) p e stays (missing {slots = slots} may rest) =
    go (bytes_eq (property_name q.name) name) refl (λ f. has-row t name ps p f stays rest)
  where
    go : (u : Bool) → bytes_eq (property_name q.name) name ≡ u
        → (find (λ (x : Property). bytes_eq (property_name x.name) name) ps ≡ Some p → list_any (λ (x : List ℕ × Slot). bytes_eq x.0 name) slots ≡ true)
        → list_any (λ (x : List ℕ × Slot). bytes_eq x.0 name) slots ≡ true
    go true k deeper = clash (sym may ∙ ap may_miss (same_Some q p (rw k at e)) ∙ stays)
    go false k deeper = deeper (rw k at e)

-- the record of an object of a type
pub record Its (b : Board) (n : ℕ) (t : TypeId) : Type 0 where
  pub of : Record
  pub there : record_of b n ≡ Some of
  pub slots : HasSlots t (slots_of t) of.slots

pub its-record : (b : Board) → SoundShape b → (n : ℕ) (t : TypeId) → kind_of b n ≡ Some t → Its b n t
its-record b shape n t its = go (record_of b n) refl
  where
    go : (o : Option Record) → record_of b n ≡ o → Its b n t
    go None q = absurd (let clash : None ≡ Some t = sym (ap (option_map (λ (r : Record). r.kind)) q) ∙ its in cc)
    go (Some r) q =
        let same : r.kind ≡ t = same_Some r.kind t (sym (ap (option_map (λ (x : Record). x.kind)) q) ∙ its) in
        record { of = r; there = q; slots = subst (λ (k : TypeId). HasSlots k (slots_of k) r.slots) same (shape.shaped n r q).slots }

abbrev named_among : List ℕ → Slots → Option Slot
named_among name xs = option_map (λ (s : List ℕ × Slot). s.1) (find (λ (s : List ℕ × Slot). bytes_eq s.0 name) xs)

slot-of : (b : Board) (n : ℕ) (t : TypeId) (its : Its b n t) (name : List ℕ) → slot_named b n name ≡ named_among name its.of.slots
slot-of b n t its name = ap (λ (o : Option Record). named_among name (option_map_or (λ (r : Record). r.slots) o [])) its.there

module _ (b : Board) (shape : SoundShape b) (n : ℕ) (t : TypeId) (kind : kind_of b n ≡ Some t) where
  -- under a name that no row has there is no slot, where there are no further slots
  pub unnamed : (name : List ℕ) → ((s : List ℕ × Slot) → IsFurther t s → ⊥) → property_named t name ≡ None → slot_named b n name ≡ None
  unnamed name bare none =
      let its : Its b n t = its-record b shape n t kind in
      let test : List ℕ × Slot → Bool = λ (s : List ℕ × Slot). bytes_eq s.0 name in
      let all : AllByRecursion (λ (s : List ℕ × Slot). bytes_eq s.0 name ≡ false) its.of.slots =
      has-all (λ (p : Property). bytes_eq (property_name p.name) name ≡ false) (λ (s : List ℕ × Slot). bytes_eq s.0 name ≡ false) t
      (λ p s r is. ap (λ (x : List ℕ). bytes_eq x name) is.name ∙ r) (λ s k. absurd (bare s k)) (slots_of t)
      (none-found (λ (p : Property). bytes_eq (property_name p.name) name) (slots_of t) none) its.slots in
      slot-of b n t its name ∙ ap (option_map (λ (s : List ℕ × Slot). s.1)) (find-none test its.of.slots all)

  -- under the name of a row that may not be missing there is a slot as the row says
  pub named : (name : List ℕ) (p : Property) → property_named t name ≡ Some p → may_miss p ≡ false
      → (s : Slot) × ((slot_named b n name ≡ Some s) × HasRole p.role s)
  named name p found stays =
      let its : Its b n t = its-record b shape n t kind in
      let (s, at) = there-found name its.of.slots (has-row t name (slots_of t) p found stays its.slots) in
      let on : slot_named b n name ≡ Some s.1 = slot-of b n t its name ∙ ap (option_map (λ (x : List ℕ × Slot). x.1)) at in
      (s.1, (on, shapes_say_lem.named b shape n name p s.1 (record { kind = t; its = kind; row = found }) on))

-- a row of a value, which begins with one
pub record ValueRow (t : TypeId) (name : List ℕ) : Type 0 where
  pub p : Property
  pub takes : PropType
  pub begins : First
  pub found : property_named t name ≡ Some p
  pub role : p.role ≡ row.Plain takes begins
  pub some : begins ≢ first.Nothing
  pub stays : may_miss p ≡ false

pub none-admitted : (type : PropType) → admits type val.Nothing ≡ false
none-admitted ty.Bool = refl
none-admitted ty.Text = refl
none-admitted (ty.Int lo hi) = refl
none-admitted (ty.Uint lo hi step) = refl

pub some-admitted : (type : PropType) (v : Val) → admits type v ≡ true → is_nothing v ≡ false
some-admitted type (val.Bool u) e = refl
some-admitted type (val.Uint n) e = refl
some-admitted type (val.Int z) e = refl
some-admitted type (val.Text text) e = refl
some-admitted type val.Nothing e = clash (sym e ∙ none-admitted type)

value-held : (r : PropertyRole) (type : PropType) (begins : First) → r ≡ row.Plain type begins → begins ≢ first.Nothing → (s : Slot) → HasRole r s
    → (v : Val) × ((s ≡ plain v) × (admits type v ≡ true))
value-held r type begins is some s fits = go s (subst (λ (k : PropertyRole). HasRole k s) is fits)
  where
    go : (u : Slot) → HasRole (row.Plain type begins) u → (v : Val) × ((u ≡ plain v) × (admits type v ≡ true))
    go (plain v) (inl (e, k)) = absurd (some e)
    go (plain v) (inr e) = (v, (refl, e))
    go (child m) k = absurd k
    go (strong to target) k = absurd k
    go (weak to target) k = absurd k
    go (alias m property) k = absurd k

pub value-given : (b : Board) → SoundShape b → (n : ℕ) (t : TypeId) → kind_of b n ≡ Some t → (name : List ℕ) (k : ValueRow t name)
    → (v : Val) × ((slot_named b n name ≡ Some (plain v)) × (admits k.takes v ≡ true))
value-given b shape n t kind name k =
    let (s, (at, fits)) = named b shape n t kind name k.p k.found k.stays in
    let (v, (is, takes)) = value-held k.p.role k.takes k.begins k.role k.some s fits in
    (v, (at ∙ ap Some is, takes))

-- ---- what is given under a name

module _ (b : Board) (left_out : Val → Bool) (n : ℕ) (name : List ℕ) where
  abbrev said : Slot → Option Given
  said s = if left_out (given_in b s) then None else Some (name, given_in b s)

  pub prop-none : slot_named b n name ≡ None → prop_under b left_out n name ≡ None
  prop-none e = ap (option_and_then said) e

  pub prop-some : (s : Slot) → slot_named b n name ≡ Some s → left_out (given_in b s) ≡ false → prop_under b left_out n name ≡ Some (name, given_in b s)
  prop-some s e says = ap (option_and_then said) e ∙ rw says refl

  pub prop-left : (s : Slot) → slot_named b n name ≡ Some s → left_out (given_in b s) ≡ true → prop_under b left_out n name ≡ None
  prop-left s e says = ap (option_and_then said) e ∙ rw says refl
