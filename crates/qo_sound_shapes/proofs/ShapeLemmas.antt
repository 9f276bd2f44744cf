-- One object that is shaped as its type says, and as every machine begins: what changes of its slots keep.
use Rattle.std.proofs.Common.{◌≡◌, refl, ap, sym, subst, ◌∙◌, rules, ℕ, zero, suc, Bool, true, false, ◌==◌, List, [], ◌∷◌, ◌++◌, map, slice_get, codes, Option, Some, None}
use Rattle.qo_model.proofs.Common.{⊤, AllByRecursion, MACHINE_BIRTH, ROOT_BIRTH, TypeId, Val, Board, Record, Slot, plain, child, strong, weak, alias, kind_of, slots_at, changed_at, pointed, with_added, with_changed, with_val, among, opening_board, child_of, fitted, forgotten, forgotten_in, with_dropped, without_hold, without_value, is_a, slots_of, types, unseen}
use Rattle.qo_model.specs.declared.properties.Property.{Property}
use Rattle.qo_model.specs.declared.properties.PropertyRole.{PropertyRole}
use Rattle.std.proofs.lemmas.Bool.{eqb-true}
use Rattle.qo_values.proofs.EachLemmas.{each}
use Rattle.qo_model.specs.declared.properties.PropertyRole.TheVariants as row
use Rattle.qo_sound.proofs.RecordLemmas.{all-unmap}
use Rattle.qo_sound_shapes.specs.SoundShape.{HasSlots, HasRole, IsChildSlot, IsFurther, IsKidLink, IsOfProperty, IsShaped, may_miss, unvalued}
use Rattle.qo_sound_shapes.proofs.RowLemmas.{has-added, has-changed, has-dropped, has-each, IsRowOf, NoKidLinks, own-rows, Slots}

-- the root and the machine
abbrev pub is_first : ℕ → Bool
is_first n = among (ROOT_BIRTH ∷ MACHINE_BIRTH ∷ []) n

pub record Good (r : Record) : Type 0 where
  pub shaped : IsShaped r
  pub kind : (t : TypeId) → kind_of opening_board r.birth ≡ Some t → r.kind ≡ t
  pub fixed : is_first r.birth ≡ true → unvalued r.slots ≡ unvalued (slots_at opening_board r.birth)

-- a plain slot or a child
abbrev pub IsCalm : Slot → Type 0
IsCalm (plain v) = ⊤
IsCalm (child m) = ⊤
IsCalm s = ⊥

calm-back : (s : Slot) → IsCalm (without_value s) → IsCalm s
calm-back (plain v) h = tt
calm-back (child m) h = tt
calm-back (strong t target) h = h
calm-back (weak t target) h = h
calm-back (alias m property) h = h

calm-opening : (n : ℕ) → is_first n ≡ true → AllByRecursion (λ (s : List ℕ × Slot). IsCalm s.1) (unvalued (slots_at opening_board n))
unfolding opening_board types
calm-opening n e = go (n == ROOT_BIRTH) refl (n == MACHINE_BIRTH) refl
  where
    go : (t : Bool) → (n == ROOT_BIRTH) ≡ t → (u : Bool) → (n == MACHINE_BIRTH) ≡ u
        → AllByRecursion (λ (s : List ℕ × Slot). IsCalm s.1) (unvalued (slots_at opening_board n))
    go true p u q = rw (eqb-true n ROOT_BIRTH p) (search rules)
    go false p true q = rw (eqb-true n MACHINE_BIRTH q) (search rules)
    go false p false q = absurd (let clash : false ≡ true = rw (p, q) at e in cc)

pub calm : (r : Record) → Good r → is_first r.birth ≡ true → AllByRecursion (λ (s : List ℕ × Slot). IsCalm s.1) r.slots
calm r h e =
    all-unmap (λ (s : List ℕ × Slot). IsCalm s.1) (λ (s : List ℕ × Slot). IsCalm s.1) (λ (s : List ℕ × Slot). (s.0, without_value s.1))
    (λ s k. calm-back s.1 k) r.slots
    (subst (AllByRecursion (λ (s : List ℕ × Slot). IsCalm s.1)) (sym (h.fixed e)) (calm-opening r.birth e))

-- other slots of it
pub good-slots : (r : Record) (slots : Slots) → Good r → HasSlots r.kind (slots_of r.kind) slots
    → (is_first r.birth ≡ true → unvalued slots ≡ unvalued r.slots) → Good (record r { slots = slots })
good-slots r slots h has same =
    record {
      shaped = record { slots = has; registers = h.shaped.registers };
      kind = h.kind;
      fixed = λ e. same e ∙ h.fixed e;
    }

-- further slots, each by what it may be
abbrev SameFurther : TypeId → Type 0
SameFurther t =
    (name : List ℕ) (s u : Slot) → (is_a t (codes "bus") ≡ true → IsKidLink name s → IsKidLink name u) → (IsChildSlot s → IsChildSlot u)
    → IsFurther t (name, s) → IsFurther t (name, u)

pub further-same : (t : TypeId) → SameFurther t
unfolding types
further-same = each SameFurther (search rules)

-- a change of slots that leaves children, and what links are to
pub record KeepsTargets (g : Slot → Slot) : Type 0 where
  pub steady : (s : Slot) → IsCalm s → without_value (g s) ≡ without_value s
  pub kid : (name : List ℕ) (s : Slot) → IsKidLink name s → IsKidLink name (g s)
  pub kin : (s : Slot) → IsChildSlot s → IsChildSlot (g s)

abbrev pub KeepsRows : (Slot → Slot) → Type 0
KeepsRows g = (kind : PropertyRole) (s : Slot) → HasRole kind s → HasRole kind (g s)

each-unvalued : (g : Slot → Slot) → KeepsTargets g → (slots : Slots) → AllByRecursion (λ (s : List ℕ × Slot). IsCalm s.1) slots
    → unvalued (map (λ (s : List ℕ × Slot). (s.0, g s.1)) slots) ≡ unvalued slots
each-unvalued g mild [] h = refl
each-unvalued g mild (s ∷ slots) h = rw (mild.steady s.1 h.0, each-unvalued g mild slots h.1) refl

changed-unvalued : (g : Slot → Slot) → KeepsTargets g → (i : ℕ) (slots : Slots) → AllByRecursion (λ (s : List ℕ × Slot). IsCalm s.1) slots
    → unvalued (changed_at g i slots) ≡ unvalued slots
changed-unvalued g mild i [] h = refl
changed-unvalued g mild zero (s ∷ slots) h = rw (mild.steady s.1 h.0) refl
changed-unvalued g mild (suc i) (s ∷ slots) h = ap (λ (xs : Slots). (s.0, without_value s.1) ∷ xs) (changed-unvalued g mild i slots h.1)

pub good-each : (g : Slot → Slot) → KeepsTargets g → KeepsRows g → (r : Record) → Good r
    → Good (record r { slots = map (λ (s : List ℕ × Slot). (s.0, g s.1)) r.slots })
good-each g mild rows r h =
    good-slots r (map (λ (s : List ℕ × Slot). (s.0, g s.1)) r.slots) h
    (has-each (IsRowOf r.kind) r.kind (λ (s : List ℕ × Slot). (s.0, g s.1)) (λ p s own is. record { name = is.name; fits = rows p.role s.1 is.fits })
    (λ s k. further-same r.kind s.0 s.1 (g s.1) (λ bus. mild.kid s.0 s.1) (mild.kin s.1) k) (slots_of r.kind) (own-rows r.kind) h.shaped.slots)
    (λ e. each-unvalued g mild r.slots (calm r h e))

pub good-changed : (g : Slot → Slot) → KeepsTargets g → (i : ℕ) (r : Record)
    → ((p : Property) (s : List ℕ × Slot) → IsRowOf r.kind p → slice_get r.slots i ≡ Some s → IsOfProperty p s → HasRole p.role (g s.1)) → Good r
    → Good (with_changed g i r)
good-changed g mild i r rows h =
    good-slots r (changed_at g i r.slots) h
    (has-changed (IsRowOf r.kind) r.kind g i (slots_of r.kind) (own-rows r.kind) h.shaped.slots
    (λ p s own at is. record { name = is.name; fits = rows p s own at is })
    (λ s at k. further-same r.kind s.0 s.1 (g s.1) (λ bus. mild.kid s.0 s.1) (mild.kin s.1) k))
    (λ e. changed-unvalued g mild i r.slots (calm r h e))

-- weak links that are emptied

pub mild-forgotten : (n : ℕ) → KeepsTargets (forgotten_in n)
mild-forgotten n = record { steady = steady; kid = kid; kin = kin }
  where
    steady : (s : Slot) → IsCalm s → without_value (forgotten_in n s) ≡ without_value s
    steady (plain v) h = refl
    steady (child m) h = refl
    steady (strong t target) h = absurd h
    steady (weak t target) h = absurd h
    steady (alias m property) h = absurd h

    kid : (name : List ℕ) (s : Slot) → IsKidLink name s → IsKidLink name (forgotten_in n s)
    kid name (plain v) h = h
    kid name (child m) h = h
    kid name (strong t target) h = h
    kid name (weak t None) h = h
    kid name (weak t (Some m)) h = h
    kid name (alias m property) h = h

    kin : (s : Slot) → IsChildSlot s → IsChildSlot (forgotten_in n s)
    kin (plain v) h = h
    kin (child m) h = h
    kin (strong t target) h = h
    kin (weak t None) h = h
    kin (weak t (Some m)) h = h
    kin (alias m property) h = h

rows-forgotten : (n : ℕ) → KeepsRows (forgotten_in n)
rows-forgotten n kind (plain v) h = h
rows-forgotten n kind (child m) h = h
rows-forgotten n kind (strong t target) h = h
rows-forgotten n kind (weak t None) h = h
rows-forgotten n (row.Plain type first) (weak t (Some m)) h = h
rows-forgotten n (row.Child type) (weak t (Some m)) h = h
rows-forgotten n (row.Link k true) (weak t (Some m)) h = h
rows-forgotten n (row.Link k false) (weak t (Some m)) h = h
rows-forgotten n (row.Alias owner of) (weak t (Some m)) h = h
rows-forgotten n kind (alias m property) h = h

pub good-forgotten : (n : ℕ) (r : Record) → Good r → Good (forgotten n r)
good-forgotten n r h = good-each (forgotten_in n) (mild-forgotten n) (rows-forgotten n) r h

pub mild-unseen : KeepsTargets unseen
mild-unseen = record { steady = steady; kid = kid; kin = kin }
  where
    steady : (s : Slot) → IsCalm s → without_value (unseen s) ≡ without_value s
    steady (plain v) h = refl
    steady (child m) h = refl
    steady (strong t target) h = absurd h
    steady (weak t target) h = absurd h
    steady (alias m property) h = absurd h

    kid : (name : List ℕ) (s : Slot) → IsKidLink name s → IsKidLink name (unseen s)
    kid name (plain v) h = h
    kid name (child m) h = h
    kid name (strong t target) h = h
    kid name (weak t target) h = h
    kid name (alias m property) h = h

    kin : (s : Slot) → IsChildSlot s → IsChildSlot (unseen s)
    kin (plain v) h = h
    kin (child m) h = h
    kin (strong t target) h = h
    kin (weak t target) h = h
    kin (alias m property) h = h

pub rows-unseen : KeepsRows unseen
rows-unseen kind (plain v) h = h
rows-unseen kind (child m) h = h
rows-unseen kind (strong t target) h = h
rows-unseen (row.Plain type first) (weak t target) h = h
rows-unseen (row.Child type) (weak t target) h = h
rows-unseen (row.Link k true) (weak t target) h = h
rows-unseen (row.Link k false) (weak t target) h = h
rows-unseen (row.Alias owner of) (weak t target) h = h
rows-unseen kind (alias m property) h = h

-- links that are pointed

pub mild-pointed : (n : ℕ) → KeepsTargets (pointed n)
mild-pointed n = record { steady = steady; kid = kid; kin = kin }
  where
    steady : (s : Slot) → IsCalm s → without_value (pointed n s) ≡ without_value s
    steady (plain v) h = refl
    steady (child m) h = refl
    steady (strong t target) h = absurd h
    steady (weak t target) h = absurd h
    steady (alias m property) h = absurd h

    kid : (name : List ℕ) (s : Slot) → IsKidLink name s → IsKidLink name (pointed n s)
    kid name (plain v) h = h
    kid name (child m) h = h
    kid name (strong t None) h = absurd h
    kid name (strong t (Some m)) h = h
    kid name (weak t target) h = h
    kid name (alias m property) h = h

    kin : (s : Slot) → IsChildSlot s → IsChildSlot (pointed n s)
    kin (plain v) h = h
    kin (child m) h = h
    kin (strong t target) h = h
    kin (weak t target) h = h
    kin (alias m property) h = h

-- links of a row, wherever they point
strong-row : (kind : PropertyRole) (t : TypeId) (o q : Option ℕ) → HasRole kind (strong t o) → HasRole kind (strong t q)
strong-row (row.Plain type first) t o q h = h
strong-row (row.Child type) t o q h = h
strong-row (row.Link k true) t o q h = h
strong-row (row.Link k false) t o q h = h
strong-row (row.Alias owner of) t o q h = h

weak-row : (kind : PropertyRole) (t : TypeId) (o q : Option ℕ) → HasRole kind (weak t o) → HasRole kind (weak t q)
weak-row (row.Plain type first) t o q h = h
weak-row (row.Child type) t o q h = h
weak-row (row.Link k true) t o q h = h
weak-row (row.Link k false) t o q h = h
weak-row (row.Alias owner of) t o q h = h

pub rows-pointed : (n : ℕ) → KeepsRows (pointed n)
rows-pointed n kind (plain v) h = h
rows-pointed n kind (child m) h = h
rows-pointed n kind (strong t target) h = strong-row kind t target (Some n) h
rows-pointed n kind (weak t target) h = weak-row kind t target (Some n) h
rows-pointed n kind (alias m property) h = h

pub mild-fitted : (b : Board) (n : ℕ) → KeepsTargets (fitted b n)
mild-fitted b n = record { steady = steady; kid = kid; kin = kin }
  where
    steady : (s : Slot) → IsCalm s → without_value (fitted b n s) ≡ without_value s
    steady (plain v) h = refl
    steady (child m) h = refl
    steady (strong t target) h = absurd h
    steady (weak t target) h = absurd h
    steady (alias m property) h = absurd h

    kid : (name : List ℕ) (s : Slot) → IsKidLink name s → IsKidLink name (fitted b n s)
    kid name (plain v) h = h
    kid name (child m) h = h
    kid name (strong t None) h = absurd h
    kid name (strong t (Some m)) h = h
    kid name (weak t None) h = h
    kid name (weak t (Some m)) h = h
    kid name (alias m property) h = h

    kin : (s : Slot) → IsChildSlot s → IsChildSlot (fitted b n s)
    kin (plain v) h = h
    kin (child m) h = h
    kin (strong t None) h = h
    kin (strong t (Some m)) h = h
    kin (weak t None) h = h
    kin (weak t (Some m)) h = h
    kin (alias m property) h = h

pub rows-fitted : (b : Board) (n : ℕ) → KeepsRows (fitted b n)
rows-fitted b n kind (plain v) h = h
rows-fitted b n kind (child m) h = h
rows-fitted b n kind (strong t None) h = strong-row kind t None _ h
rows-fitted b n kind (strong t (Some m)) h = h
rows-fitted b n kind (weak t None) h = weak-row kind t None _ h
rows-fitted b n kind (weak t (Some m)) h = h
rows-fitted b n kind (alias m property) h = h

-- a value that is set

pub mild-val : (v : Val) → KeepsTargets (with_val v)
mild-val v = record { steady = steady; kid = kid; kin = kin }
  where
    steady : (s : Slot) → IsCalm s → without_value (with_val v s) ≡ without_value s
    steady (plain w) h = refl
    steady (child m) h = refl
    steady (strong t target) h = absurd h
    steady (weak t target) h = absurd h
    steady (alias m property) h = absurd h

    kid : (name : List ℕ) (s : Slot) → IsKidLink name s → IsKidLink name (with_val v s)
    kid name (plain w) h = h
    kid name (child m) h = h
    kid name (strong t target) h = h
    kid name (weak t target) h = h
    kid name (alias m property) h = h

    kin : (s : Slot) → IsChildSlot s → IsChildSlot (with_val v s)
    kin (plain w) h = h
    kin (child m) h = h
    kin (strong t target) h = h
    kin (weak t target) h = h
    kin (alias m property) h = h

-- a slot that is let go: a child only where it may be missing

dropped-unvalued : (i : ℕ) (slots : Slots) → AllByRecursion (λ (s : List ℕ × Slot). IsCalm s.1) slots
    → ((s : List ℕ × Slot) → slice_get slots i ≡ Some s → child_of s.1 ≡ None) → unvalued (without_hold i slots) ≡ unvalued slots
dropped-unvalued i [] h none = refl
dropped-unvalued (suc i) (s ∷ slots) h none = ap (λ (xs : Slots). (s.0, without_value s.1) ∷ xs) (dropped-unvalued i slots h.1 none)
dropped-unvalued zero ((name, plain v) ∷ slots) h none = refl
dropped-unvalued zero ((name, child m) ∷ slots) h none = absurd (let clash : Some m ≡ None = none (name, child m) refl in cc)
dropped-unvalued zero ((name, strong t target) ∷ slots) h none = absurd h.0
dropped-unvalued zero ((name, weak t target) ∷ slots) h none = absurd h.0
dropped-unvalued zero ((name, alias m property) ∷ slots) h none = absurd h.0

-- one that is no child
pub good-dropped : (i : ℕ) (r : Record) → ((s : List ℕ × Slot) → slice_get r.slots i ≡ Some s → child_of s.1 ≡ None) → NoKidLinks r.kind → Good r
    → Good (with_dropped i r)
good-dropped i r none apart h =
    good-slots r (without_hold i r.slots) h
    (has-dropped (IsRowOf r.kind) r.kind i (slots_of r.kind) (own-rows r.kind) h.shaped.slots
    (λ p s m own at is row. absurd (let clash : Some m ≡ None = sym (ap child_of is) ∙ none s at in cc)) apart)
    (λ e. dropped-unvalued i r.slots (calm r h e) none)

-- a child of an object that is neither the root nor the machine
pub good-let_go : (i : ℕ) (r : Record) → is_first r.birth ≡ false
    → ((p : Property) (s : List ℕ × Slot) (m : ℕ) → IsRowOf r.kind p → slice_get r.slots i ≡ Some s → s.1 ≡ child m → IsOfProperty p s → may_miss p ≡ true)
    → NoKidLinks r.kind → Good r → Good (with_dropped i r)
good-let_go i r apart may links h =
    good-slots r (without_hold i r.slots) h (has-dropped (IsRowOf r.kind) r.kind i (slots_of r.kind) (own-rows r.kind) h.shaped.slots may links)
    (λ e. absurd (let clash : true ≡ false = sym e ∙ apart in cc))

-- a further slot more
pub good-added : (name : List ℕ) (s : Slot) (r : Record) → is_first r.birth ≡ false → IsFurther r.kind (name, s) → Good r → Good (with_added name s r)
good-added name s r apart more h =
    good-slots r (r.slots ++ (name, s) ∷ []) h (has-added r.kind (name, s) more (slots_of r.kind) h.shaped.slots)
    (λ e. absurd (let clash : true ≡ false = sym e ∙ apart in cc))
