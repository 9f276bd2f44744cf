-- The names that children have are each one step of a path.
use Rattle.std.proofs.Common.{◌≡◌, ◌≢◌, refl, ap, sym, subst, ◌∙◌, rules, ℕ, zero, suc, ◌<◌, ◌==◌, ◌+◌, ◌/◌, ◌%◌, ◌&&◌, ◌||◌, nat_le, nat_lt, not, Bool, true, false, cond, List, [], ◌∷◌, ◌++◌, filter_map, length, Option, Some, None, option_map, codes, decimal, arith}
use Rattle.std.specs.Fmt.{digit_glyph, digits, digits_onto}
use Rattle.std.specs.List.{list_all}
use Rattle.std.proofs.lemmas.Bool.{and_parts, eqb-true, le-leb, lt-ltb, ne_eqb, not-true}
use Rattle.std.proofs.lemmas.Bool.Decides.{nat_tests}
use Rattle.std.proofs.lemmas.List.Folds.{list_all-append}
use Rattle.qo_model.proofs.Common.{⊤, AllByRecursion, list_any, option_map_or, bytes_eq, is_id, MACHINE_BIRTH, OBJECTS_BIRTH, PERIPHERAL_BIRTH, ANONYMOUS_BIRTH, ROOT_BIRTH, TypeId, Container, Machine, Board, Record, Slot, plain, child, strong, weak, alias, record_of, kind_of, slots_at, among, opening_board, types}
use Rattle.qo_values.specs.Ids.{is_id_byte, is_letter}
use Rattle.qo_values.specs.declared.limits.TheConstants.{ID_MAX}
use Rattle.qo_values.proofs.EachLemmas.{each}
use Rattle.qo_values.proofs.ListLemmas.{all-imply}
use Rattle.qo_model.specs.Devices.{anonymous_name}
use Rattle.qo_model.specs.RowNames.{property_name}
use Rattle.qo_model.specs.SoundGraph.{without_value}
use Rattle.qo_model.specs.Types.{slots_of}
use Rattle.qo_model.specs.declared.properties.Property.{Property}
use Rattle.qo_sound_devices.specs.SoundPlaces.{IsAnonymous, child_entries, child_entry}
use Rattle.qo_sound_order.specs.SoundOrder.{HasId}
use Rattle.qo_sound_shapes.specs.SoundOwners.{containers}
use Rattle.qo_sound_shapes.specs.SoundShape.{IsFurther, IsOfProperty, unvalued}
use Rattle.qo_sound_shapes.proofs.RowLemmas.{has-all}
use Rattle.qo_ways.specs.Ways.{HasSteps, IsInOrder, IsStep}

-- a name that is not empty, of bytes of ASCII, none of which is `/`
abbrev pub is_step_byte : ℕ → Bool
is_step_byte c = nat_le c 126 && not (c == 47)

abbrev pub IsPlainName : List ℕ × ℕ → Type 0
IsPlainName e = (e.0 ≢ []) × (list_all is_step_byte e.0 ≡ true)

-- it is one step
no-slash : (cs : List ℕ) → list_all is_step_byte cs ≡ true → list_any (λ (c : ℕ). c == 47) cs ≡ false
no-slash [] h = refl
no-slash (c ∷ cs) h =
    let p = and_parts (is_step_byte c) (list_all is_step_byte cs) h in
    rw (not-true (c == 47) (and_parts (nat_le c 126) (not (c == 47)) p.0).1, no-slash cs p.1) refl

plain-step : (e : List ℕ × ℕ) → IsPlainName e → IsStep e
plain-step e h = (h.0, no-slash e.0 h.1)

-- ---- ids

id-byte : (c : ℕ) → is_id_byte c ≡ true → is_step_byte c ≡ true
id-byte c e = grind (arith, nat_tests, e)

letter-byte : (c : ℕ) → is_letter c ≡ true → is_step_byte c ≡ true
letter-byte c e = id-byte c (rw e refl)

id-bytes : (cs : List ℕ) → list_all is_id_byte cs ≡ true → list_all is_step_byte cs ≡ true
id-bytes [] h = refl
id-bytes (c ∷ cs) h = let p = and_parts (is_id_byte c) (list_all is_id_byte cs) h in rw (id-byte c p.0, id-bytes cs p.1) refl

pub id-plain : (e : List ℕ × ℕ) → HasId e → IsPlainName e
id-plain ([], n) h = absurd (let clash : false ≡ true = h in cc)
id-plain (c ∷ cs, n) h =
    let all = and_parts (is_letter c && list_all is_id_byte cs) (nat_lt (length cs) ID_MAX) h in
    let two = and_parts (is_letter c) (list_all is_id_byte cs) all.0 in
    ((λ e. cc), rw (letter-byte c two.0, id-bytes cs two.1) refl)

-- ---- devices without an id

digit-byte : (d : ℕ) → d < 10 → is_step_byte (digit_glyph false d) ≡ true
digit-byte d h = rw (lt-ltb d 10 h, le-leb (48 + d) 126 (omega (arith, h)), ne_eqb (48 + d) 47 (λ e. omega arith)) refl

either-bytes : (t : Bool) (xs ys : List ℕ) → list_all is_step_byte xs ≡ true → list_all is_step_byte ys ≡ true → list_all is_step_byte (cond t xs ys) ≡ true
either-bytes true xs ys h k = h
either-bytes false xs ys h k = k

onto-bytes : (k n : ℕ) (behind : List ℕ) → list_all is_step_byte behind ≡ true → list_all is_step_byte (digits_onto k 10 false n behind) ≡ true
onto-bytes zero n behind h = h
onto-bytes (suc k) n behind h =
    let here : list_all is_step_byte (digit_glyph false (n % 10) ∷ behind) ≡ true = rw (digit-byte (n % 10) (omega arith), h) refl in
    either-bytes (n / 10 == 0) (digit_glyph false (n % 10) ∷ behind) (digits_onto k 10 false (n / 10) (digit_glyph false (n % 10) ∷ behind)) here
    (onto-bytes k (n / 10) (digit_glyph false (n % 10) ∷ behind) here)

pub decimal-bytes : (n : ℕ) → list_all is_step_byte (decimal n) ≡ true
unfolding digits
decimal-bytes n = onto-bytes 64 n [] refl

anonymous-plain : (k n : ℕ) → IsPlainName (anonymous_name k, n)
anonymous-plain k n = ((λ e. cc), list_all-append is_step_byte (decimal k) (codes "]") ∙ rw (decimal-bytes k) refl)

-- ---- names of properties, and those of the opening board

abbrev pub is_one_step : List ℕ → Bool
is_one_step name = not (bytes_eq name []) && list_all is_step_byte name

pub one-step : (e : List ℕ × ℕ) → is_one_step e.0 ≡ true → IsPlainName e
one-step ([], n) h = absurd (let clash : false ≡ true = h in cc)
one-step (c ∷ cs, n) h = ((λ e. cc), (and_parts (not (bytes_eq (c ∷ cs) [])) (list_all is_step_byte (c ∷ cs)) h).1)

all-one : (es : List (List ℕ × ℕ)) → list_all (λ (e : List ℕ × ℕ). is_one_step e.0) es ≡ true → AllByRecursion IsPlainName es
all-one [] h = tt
all-one (e ∷ es) h = let p = and_parts (is_one_step e.0) (list_all (λ (e : List ℕ × ℕ). is_one_step e.0) es) h in (one-step e p.0, all-one es p.1)

root-opens : list_all (λ (e : List ℕ × ℕ). is_one_step e.0) (child_entries opening_board ROOT_BIRTH) ≡ true
unfolding opening_board types
root-opens = refl

machine-opens : list_all (λ (e : List ℕ × ℕ). is_one_step e.0) (child_entries opening_board MACHINE_BIRTH) ≡ true
unfolding opening_board types
machine-opens = refl

abbrev pub IsOneStep : Property → Type 0
IsOneStep p = is_one_step (property_name p.name) ≡ true

pub rows-one : (t : TypeId) → AllByRecursion IsOneStep (slots_of t)
unfolding types
rows-one = each (λ (t : TypeId). AllByRecursion IsOneStep (slots_of t)) (search rules)

-- ---- the slots of an object

abbrev StepsIn : List ℕ × Slot → Type 0
StepsIn (name, plain v) = ⊤
StepsIn (name, child m) = IsPlainName (name, m)
StepsIn (name, strong t target) = ⊤
StepsIn (name, weak t target) = ⊤
StepsIn (name, alias m property) = ⊤

steps-entries : (slots : List (List ℕ × Slot)) → AllByRecursion StepsIn slots → AllByRecursion IsPlainName (filter_map child_entry slots)
steps-entries [] h = tt
steps-entries ((name, plain v) ∷ slots) h = steps-entries slots h.1
steps-entries ((name, child m) ∷ slots) h = (h.0, steps-entries slots h.1)
steps-entries ((name, strong t target) ∷ slots) h = steps-entries slots h.1
steps-entries ((name, weak t target) ∷ slots) h = steps-entries slots h.1
steps-entries ((name, alias m property) ∷ slots) h = steps-entries slots h.1

-- that of a property
row-steps : (p : Property) (s : List ℕ × Slot) → IsOneStep p → IsOfProperty p s → StepsIn s
row-steps p (name, plain v) one is = tt
row-steps p (name, child m) one is = one-step (name, m) (ap is_one_step is.name ∙ one)
row-steps p (name, strong t target) one is = tt
row-steps p (name, weak t target) one is = tt
row-steps p (name, alias m property) one is = tt

-- containers and the machine alone have further children
abbrev has_further : TypeId → Bool
has_further Container = true
has_further Machine = true
has_further t = false

no-further : (t : TypeId) → has_further t ≡ false → (name : List ℕ) (m : ℕ) → IsFurther t (name, child m) → ⊥
no-further Container e name m h = absurd (let clash : true ≡ false = e in cc)
no-further Machine e name m h = absurd (let clash : true ≡ false = e in cc)
no-further t e name m h = h

further-steps : (t : TypeId) → has_further t ≡ false → (s : List ℕ × Slot) → IsFurther t s → StepsIn s
further-steps t e (name, plain v) h = tt
further-steps t e (name, child m) h = absurd (no-further t e name m h)
further-steps t e (name, strong to target) h = tt
further-steps t e (name, weak to target) h = tt
further-steps t e (name, alias m property) h = tt

-- slots without their values have the same children
entries-unvalued : (slots : List (List ℕ × Slot)) → filter_map child_entry (unvalued slots) ≡ filter_map child_entry slots
entries-unvalued [] = refl
entries-unvalued ((name, plain v) ∷ slots) = entries-unvalued slots
entries-unvalued ((name, child m) ∷ slots) = ap (λ (es : List (List ℕ × ℕ)). (name, m) ∷ es) (entries-unvalued slots)
entries-unvalued ((name, strong t target) ∷ slots) = entries-unvalued slots
entries-unvalued ((name, weak t target) ∷ slots) = entries-unvalued slots
entries-unvalued ((name, alias m property) ∷ slots) = entries-unvalued slots

-- ---- all objects

-- the children of an object, if it is there
abbrev StepsOf : Option Record → Type 0
StepsOf o = AllByRecursion IsPlainName (filter_map child_entry (option_map_or (λ (r : Record). r.slots) o []))

module _ (b : Board) (h : IsInOrder b) where
  abbrev Steps : ℕ → Type 0
  Steps n = AllByRecursion IsPlainName (child_entries b n)

  fixed-steps : (n : ℕ) → unvalued (slots_at b n) ≡ unvalued (slots_at opening_board n)
      → list_all (λ (e : List ℕ × ℕ). is_one_step e.0) (child_entries opening_board n) ≡ true → Steps n
  fixed-steps n same test =
      let is : child_entries b n ≡ child_entries opening_board n =
      sym (entries-unvalued (slots_at b n)) ∙ ap (filter_map child_entry) same ∙ entries-unvalued (slots_at opening_board n) in
      subst (AllByRecursion IsPlainName) (sym is) (all-one (child_entries opening_board n) test)

  root-steps : Steps ROOT_BIRTH
  root-steps = fixed-steps ROOT_BIRTH h.shape.fixed.0 root-opens

  machine-steps : Steps MACHINE_BIRTH
  machine-steps = fixed-steps MACHINE_BIRTH h.shape.fixed.1.0 machine-opens

  anonymous-steps : Steps ANONYMOUS_BIRTH
  anonymous-steps =
      all-imply (IsAnonymous b) IsPlainName
      (λ e its. subst (λ (name : List ℕ). IsPlainName (name, e.1)) (sym its.numbered.1.1) (anonymous-plain its.numbered.0 e.1)) (child_entries b ANONYMOUS_BIRTH)
      h.devices.places.1.anonymous

  container-steps : (n : ℕ) → among containers n ≡ true → Steps n
  container-steps n e = go (n == ROOT_BIRTH) refl (n == PERIPHERAL_BIRTH) refl (n == ANONYMOUS_BIRTH) refl (n == OBJECTS_BIRTH) refl
    where
      there : (m : ℕ) → (n == m) ≡ true → Steps m → Steps n
      there m p steps = subst Steps (sym (eqb-true n m p)) steps

      go : (t : Bool) → (n == ROOT_BIRTH) ≡ t → (u : Bool) → (n == PERIPHERAL_BIRTH) ≡ u → (v : Bool) → (n == ANONYMOUS_BIRTH) ≡ v → (w : Bool)
          → (n == OBJECTS_BIRTH) ≡ w → Steps n
      go true p u q v r w s = there ROOT_BIRTH p root-steps
      go false p true q v r w s = there PERIPHERAL_BIRTH q (all-imply HasId IsPlainName id-plain (child_entries b PERIPHERAL_BIRTH) h.order.devices)
      go false p false q true r w s = there ANONYMOUS_BIRTH r anonymous-steps
      go false p false q false r true s = there OBJECTS_BIRTH s (all-imply HasId IsPlainName id-plain (child_entries b OBJECTS_BIRTH) h.order.objects)
      go false p false q false r false s = absurd (let clash : false ≡ true = rw (p, q, r, s) at e in cc)

  -- an object of a type with further children
  further-of : (n : ℕ) (t : TypeId) → kind_of b n ≡ Some t → has_further t ≡ true → Steps n
  further-of n Container its e = container-steps n (h.owners.shelves n its)
  further-of n Machine its e = subst Steps (sym (h.owners.lone n its)) machine-steps
  further-of n t its e = absurd (let clash : false ≡ true = e in cc)

  -- any object
  pub each_plain : (n : ℕ) → Steps n
  each_plain n = go (record_of b n) refl
    where
      here : (r : Record) → record_of b n ≡ Some r → (t : Bool) → has_further r.kind ≡ t → Steps n
      here r q true e = further-of n r.kind (ap (option_map (λ (x : Record). x.kind)) q) e
      here r q false e =
          subst StepsOf (sym q)
          (steps-entries r.slots
          (has-all IsOneStep StepsIn r.kind row-steps (further-steps r.kind e) (slots_of r.kind) (rows-one r.kind) (h.shape.shaped n r q).slots))

      go : (o : Option Record) → record_of b n ≡ o → Steps n
      go None q = subst StepsOf (sym q) tt
      go (Some r) q = here r q (has_further r.kind) refl

  pub each_named : HasSteps b
  each_named n = all-imply IsPlainName IsStep plain-step (child_entries b n) (each_plain n)
