-- Slots of rows: what a change of one slot or of each keeps.
use Rattle.std.proofs.Common.{◌≡◌, ◌⊎◌, inl, inr, refl, ap, sym, subst, ◌∙◌, rules, ℕ, zero, suc, Bool, true, false, List, [], ◌∷◌, ◌++◌, map, remove, find, slice_get, codes, Option, Some, None}
use Rattle.qo_model.proofs.Common.{⊤, AllByRecursion, bytes_eq, TypeId, Slot, plain, child, strong, weak, alias, changed_at, kid_name, property_named, without_hold, property_name, is_a, slots_of, types}
use Rattle.qo_model.specs.declared.properties.Property.{Property}
use Rattle.qo_model.specs.declared.properties.PropertyRole.{PropertyRole}
use Rattle.std.proofs.lemmas.Option.{same_Some}
use Rattle.qo_values.proofs.EachLemmas.{each}
use Rattle.qo_model.specs.declared.properties.PropertyRole.TheVariants as row
use Rattle.qo_sound_shapes.specs.SoundShape.{HasSlots, further, HasRole, IsFurther, IsKidLink, IsOfProperty, may_miss, missing, next}

abbrev pub Slots : Type 0
Slots = List (List ℕ × Slot)

-- no further slot of a type is a strong link, as of every type but those of buses
abbrev pub NoKidLinks : TypeId → Type 0
NoKidLinks t = (name : List ℕ) (to : TypeId) (target : Option ℕ) → IsFurther t (name, strong to target) → ⊥

module _ (R : Property → Type 0) (t : TypeId) where
  -- each slot is changed
  pub has-each : (f : List ℕ × Slot → List ℕ × Slot) → ((p : Property) (s : List ℕ × Slot) → R p → IsOfProperty p s → IsOfProperty p (f s))
      → ((s : List ℕ × Slot) → IsFurther t s → IsFurther t (f s)) → (ps : List Property) → AllByRecursion R ps → {slots : Slots} → HasSlots t ps slots
      → HasSlots t ps (map f slots)
  has-each f of more [] rows {slots} (further all) = further (all-further slots all)
    where
      all-further : (xs : Slots) → AllByRecursion (IsFurther t) xs → AllByRecursion (IsFurther t) (map f xs)
      all-further [] h = tt
      all-further (x ∷ xs) h = (more x h.0, all-further xs h.1)
  has-each f of more (p ∷ ps) rows (next {s = s} is rest) = next (of p s rows.0 is) (has-each f of more ps rows.1 rest)
  has-each f of more (p ∷ ps) rows (missing may rest) = missing may (has-each f of more ps rows.1 rest)

  -- one slot is changed
  pub has-changed : (g : Slot → Slot) (i : ℕ) (ps : List Property) → AllByRecursion R ps → {slots : Slots} → HasSlots t ps slots
      → ((p : Property) (s : List ℕ × Slot) → R p → slice_get slots i ≡ Some s → IsOfProperty p s → IsOfProperty p (s.0, g s.1))
      → ((s : List ℕ × Slot) → slice_get slots i ≡ Some s → IsFurther t s → IsFurther t (s.0, g s.1)) → HasSlots t ps (changed_at g i slots)
  has-changed g i [] rows {slots} (further all) of more = further (one i slots all more)
    where
      one : (j : ℕ) (xs : Slots) → AllByRecursion (IsFurther t) xs
          → ((s : List ℕ × Slot) → slice_get xs j ≡ Some s → IsFurther t s → IsFurther t (s.0, g s.1)) → AllByRecursion (IsFurther t) (changed_at g j xs)
      one j [] h k = tt
      one zero (x ∷ xs) h k = (k x refl h.0, h.1)
      one (suc j) (x ∷ xs) h k = (h.0, one j xs h.1 k)
  has-changed g zero (p ∷ ps) rows (next {s = s} is rest) of more = next (of p s rows.0 refl is) rest
  has-changed g (suc i) (p ∷ ps) rows (next is rest) of more = next is (has-changed g i ps rows.1 rest of more)
  has-changed g i (p ∷ ps) rows (missing may rest) of more = missing may (has-changed g i ps rows.1 rest of more)

  -- one slot is let go, where no further one is a strong link: where it is a child, its row says that it may be missing
  pub has-dropped : (i : ℕ) (ps : List Property) → AllByRecursion R ps → {slots : Slots} → HasSlots t ps slots
      → ((p : Property) (s : List ℕ × Slot) (m : ℕ) → R p → slice_get slots i ≡ Some s → s.1 ≡ child m → IsOfProperty p s → may_miss p ≡ true) → NoKidLinks t
      → HasSlots t ps (without_hold i slots)
  has-dropped i [] rows {slots} (further all) may none = further (one i slots all)
    where
      blind : (k : TypeId) (name : List ℕ) (to : TypeId) (target : Option ℕ) → IsFurther k (name, weak to target) → IsFurther k (name, weak to None)
      blind = each (λ (k : TypeId). (name : List ℕ) (to : TypeId) (target : Option ℕ) → IsFurther k (name, weak to target) → IsFurther k (name, weak to None)) (search rules)

      one : (j : ℕ) (xs : Slots) → AllByRecursion (IsFurther t) xs → AllByRecursion (IsFurther t) (without_hold j xs)
      one j [] h = tt
      one zero ((name, plain v) ∷ xs) h = h
      one zero ((name, child m) ∷ xs) h = h.1
      one zero ((name, strong to target) ∷ xs) h = absurd (none name to target h.0)
      one zero ((name, weak to target) ∷ xs) h = (blind t name to target h.0, h.1)
      one zero ((name, alias m property) ∷ xs) h = h
      one (suc j) (x ∷ xs) h = (h.0, one j xs h.1)
  has-dropped zero (p ∷ ps) rows (next {s = s} {slots = slots} is rest) may none = go s is (may p s)
    where
      emptied_row : (kind : PropertyRole) (to : TypeId) (target : Option ℕ) → HasRole kind (strong to target) → HasRole kind (strong to None)
      emptied_row (row.Plain type first) to target h = h
      emptied_row (row.Child type) to target h = h
      emptied_row (row.Link k true) to target h = h
      emptied_row (row.Link k false) to target h = h
      emptied_row (row.Alias owner of) to target h = h

      blinded_row : (kind : PropertyRole) (to : TypeId) (target : Option ℕ) → HasRole kind (weak to target) → HasRole kind (weak to None)
      blinded_row (row.Plain type first) to target h = h
      blinded_row (row.Child type) to target h = h
      blinded_row (row.Link k true) to target h = h
      blinded_row (row.Link k false) to target h = h
      blinded_row (row.Alias owner of) to target h = h

      go : (x : List ℕ × Slot) → IsOfProperty p x → ((m : ℕ) → R p → Some s ≡ Some s → x.1 ≡ child m → IsOfProperty p x → may_miss p ≡ true)
          → HasSlots t (p ∷ ps) (without_hold zero (x ∷ slots))
      go (name, plain v) k may = next k rest
      go (name, child m) k may = missing (may m rows.0 refl refl k) rest
      go (name, strong to target) k may = next (record { name = k.name; fits = emptied_row p.role to target k.fits }) rest
      go (name, weak to target) k may = next (record { name = k.name; fits = blinded_row p.role to target k.fits }) rest
      go (name, alias m property) k may = next k rest
  has-dropped (suc i) (p ∷ ps) rows (next is rest) may none = next is (has-dropped i ps rows.1 rest may none)
  has-dropped i (p ∷ ps) rows (missing m rest) may none = missing m (has-dropped i ps rows.1 rest may none)

  -- one further slot is removed
  pub has-removed : (i : ℕ) (ps : List Property) → AllByRecursion R ps → {slots : Slots} → HasSlots t ps slots
      → ((p : Property) (s : List ℕ × Slot) → R p → slice_get slots i ≡ Some s → IsOfProperty p s → ⊥) → HasSlots t ps (remove slots i)
  has-removed i [] rows {slots} (further all) none = further (one i slots all)
    where
      one : (j : ℕ) (xs : Slots) → AllByRecursion (IsFurther t) xs → AllByRecursion (IsFurther t) (remove xs j)
      one zero [] h = tt
      one (suc j) [] h = tt
      one zero (x ∷ xs) h = h.1
      one (suc j) (x ∷ xs) h = (h.0, one j xs h.1)
  has-removed zero (p ∷ ps) rows (next {s = s} is rest) none = absurd (none p s rows.0 refl is)
  has-removed (suc i) (p ∷ ps) rows (next is rest) none = next is (has-removed i ps rows.1 rest none)
  has-removed i (p ∷ ps) rows (missing may rest) none = missing may (has-removed i ps rows.1 rest none)

  -- a slot is that of a row, or a further one
  pub has-found : (i : ℕ) (ps : List Property) → AllByRecursion R ps → {slots : Slots} → HasSlots t ps slots → (s : List ℕ × Slot)
      → slice_get slots i ≡ Some s → ((p : Property) × (R p × IsOfProperty p s)) ⊎ IsFurther t s
  has-found i [] rows {slots} (further all) s e = inr (one i slots all e)
    where
      one : (j : ℕ) (xs : Slots) → AllByRecursion (IsFurther t) xs → slice_get xs j ≡ Some s → IsFurther t s
      one j [] h q = cc
      one zero (x ∷ xs) h q = subst (IsFurther t) (same_Some x s q) h.0
      one (suc j) (x ∷ xs) h q = one j xs h.1 q
  has-found zero (p ∷ ps) rows (next {s = x} is rest) s e = inl (p, (rows.0, subst (IsOfProperty p) (same_Some x s e) is))
  has-found (suc i) (p ∷ ps) rows (next is rest) s e = has-found i ps rows.1 rest s e
  has-found i (p ∷ ps) rows (missing may rest) s e = has-found i ps rows.1 rest s e

-- what holds of slots of rows, and of further ones, holds of each
pub has-all : (R : Property → Type 0) (P : List ℕ × Slot → Type 0) (t : TypeId) → ((p : Property) (s : List ℕ × Slot) → R p → IsOfProperty p s → P s)
    → ((s : List ℕ × Slot) → IsFurther t s → P s) → (ps : List Property) → AllByRecursion R ps → {slots : Slots} → HasSlots t ps slots → AllByRecursion P slots
has-all R P t of more [] rows {slots} (further all) = one slots all
  where
    one : (xs : Slots) → AllByRecursion (IsFurther t) xs → AllByRecursion P xs
    one [] h = tt
    one (x ∷ xs) h = (more x h.0, one xs h.1)
has-all R P t of more (p ∷ ps) rows (next {s = s} is rest) = (of p s rows.0 is, has-all R P t of more ps rows.1 rest)
has-all R P t of more (p ∷ ps) rows (missing may rest) = has-all R P t of more ps rows.1 rest

-- a further slot more
pub has-added : (t : TypeId) (s : List ℕ × Slot) → IsFurther t s → (ps : List Property) {slots : Slots} → HasSlots t ps slots → HasSlots t ps (slots ++ s ∷ [])
has-added t s more [] {slots} (further all) = further (one slots all)
  where
    one : (xs : Slots) → AllByRecursion (IsFurther t) xs → AllByRecursion (IsFurther t) (xs ++ s ∷ [])
    one [] h = (more, tt)
    one (x ∷ xs) h = (h.0, one xs h.1)
has-added t s more (p ∷ ps) (next is rest) = next is (has-added t s more ps rest)
has-added t s more (p ∷ ps) (missing may rest) = missing may (has-added t s more ps rest)

-- each row of a type is the one that is found by its name
abbrev pub IsRowOf : TypeId → Property → Type 0
IsRowOf t p = property_named t (property_name p.name) ≡ Some p

pub own-rows : (t : TypeId) → AllByRecursion (IsRowOf t) (slots_of t)
unfolding types
own-rows = each (λ (t : TypeId). AllByRecursion (IsRowOf t) (slots_of t)) (search rules)

-- what is found by its name has what each has
pub each-found : (P : Property → Type 0) (name : List ℕ) (ps : List Property) → AllByRecursion P ps → (p : Property)
    → find (λ (q : Property). bytes_eq (property_name q.name) name) ps ≡ Some p → P p
each-found P name [] h p e = cc
each-found P name (q ∷ ps) h p e = go (bytes_eq (property_name q.name) name) refl (each-found P name ps h.1 p)
  where
    go : (u : Bool) → bytes_eq (property_name q.name) name ≡ u → (find (λ (x : Property). bytes_eq (property_name x.name) name) ps ≡ Some p → P p) → P p
    go true k rest = subst P (same_Some q p (rw k at e)) h.0
    go false k rest = rest (rw k at e)

-- the rows of buses, and who has links to kids

abbrev pub is_plain_role : PropertyRole → Bool
is_plain_role (row.Plain type first) = true
is_plain_role kind = false

abbrev pub PlainRows : List Property → Type 0
PlainRows ps = AllByRecursion (λ (p : Property). is_plain_role p.role ≡ true) ps

pub bus-plain : (t : TypeId) → is_a t (codes "bus") ≡ true → PlainRows (slots_of t)
unfolding types
bus-plain = each (λ (t : TypeId). is_a t (codes "bus") ≡ true → PlainRows (slots_of t)) (search rules)

pub none-kid : (t : TypeId) → is_a t (codes "bus") ≡ false → NoKidLinks t
unfolding types
none-kid = each (λ (t : TypeId). is_a t (codes "bus") ≡ false → NoKidLinks t) (search rules)

pub link-apart : (t k : TypeId) (holds : Bool) (name : List ℕ) (p : Property) → property_named t name ≡ Some p → p.role ≡ row.Link k holds → NoKidLinks t
link-apart t k holds name p e is = go (is_a t (codes "bus")) refl
  where
    go : (u : Bool) → is_a t (codes "bus") ≡ u → NoKidLinks t
    go true q =
        let plains : is_plain_role p.role ≡ true = each-found (λ (x : Property). is_plain_role x.role ≡ true) name (slots_of t) (bus-plain t q) p e in
        absurd (let clash : false ≡ true = sym (ap is_plain_role is) ∙ plains in cc)
    go false q = none-kid t q

-- no row of a bus has the name of a link to a kid
pub kid-rowless : (t : TypeId) → is_a t (codes "bus") ≡ true → (k : ℕ) → property_named t (kid_name k) ≡ None
unfolding types
kid-rowless = each (λ (t : TypeId). is_a t (codes "bus") ≡ true → (k : ℕ) → property_named t (kid_name k) ≡ None) (search rules)

-- a further slot of a bus is a link to a kid
pub bus-kid : (t : TypeId) → is_a t (codes "bus") ≡ true → (s : List ℕ × Slot) → IsFurther t s → IsKidLink s.0 s.1
unfolding types
bus-kid = each (λ (t : TypeId). is_a t (codes "bus") ≡ true → (s : List ℕ × Slot) → IsFurther t s → IsKidLink s.0 s.1) (search rules)

-- a plain row has no strong link
pub plain-strong : (kind : PropertyRole) (t : TypeId) (target : Option ℕ) → is_plain_role kind ≡ true → HasRole kind (strong t target) → ⊥
plain-strong (row.Plain type first) t target e h = h
plain-strong (row.Child k) t target e h = h
plain-strong (row.Link k true) t target e h = absurd (let clash : false ≡ true = e in cc)
plain-strong (row.Link k false) t target e h = h
plain-strong (row.Alias owner of) t target e h = h

-- strong links that are not empty
abbrev pub IsHolding : List ℕ × Slot → Type 0
IsHolding (name, strong t None) = ⊥
IsHolding s = ⊤

-- those of buses are so
pub held-slots : (t : TypeId) → is_a t (codes "bus") ≡ true → {slots : Slots} → HasSlots t (slots_of t) slots → AllByRecursion IsHolding slots
held-slots t bus h =
    has-all (λ (p : Property). is_plain_role p.role ≡ true) IsHolding t (λ p s plains is. plain-holding p.role s.0 s.1 plains is.fits)
    (λ s k. kid-holding s.0 s.1 (bus-kid t bus s k)) (slots_of t) (bus-plain t bus) h
  where
    plain-holding : (kind : PropertyRole) (name : List ℕ) (s : Slot) → is_plain_role kind ≡ true → HasRole kind s → IsHolding (name, s)
    plain-holding kind name (plain v) plains is = tt
    plain-holding kind name (child m) plains is = tt
    plain-holding kind name (strong t (Some m)) plains is = tt
    plain-holding kind name (strong t None) plains is = plain-strong kind t None plains is
    plain-holding kind name (weak t target) plains is = tt
    plain-holding kind name (alias m property) plains is = tt

    kid-holding : (name : List ℕ) (s : Slot) → IsKidLink name s → IsHolding (name, s)
    kid-holding name (plain v) h = tt
    kid-holding name (child m) h = tt
    kid-holding name (strong t (Some m)) h = tt
    kid-holding name (strong t None) h = h
    kid-holding name (weak t target) h = tt
    kid-holding name (alias m property) h = tt
