-- A new device is made, property by property: what was there stays as it was, and what is new is realized nowhere, has no kids and no id.
use Rattle.std.proofs.Common.{◌≡◌, refl, rules, ap, sym, subst, ◌∙◌, ℕ, ◌+◌, ◌<◌, ◌≤◌, Bool, true, false, not, ◌&&◌, ◌||◌, ◌==◌, List, [], ◌∷◌, ◌++◌, filter_map, Option, Some, None, is_some, option_map, option_and_then, codes, arith}
use Rattle.qo_model.proofs.Common.{⊤, if◌then◌else◌, AllByRecursion, cons_option, list_any, option_map_or, option_or, bytes_eq, TypeId, SlotBridge, Board, Record, Slot, plain, child, strong, weak, alias, record_of, kind_of, is_live, slots_at, add, fresh, with_added, clock_name, is_true, plain_in, first_value, fresh_record, child_of, is_of, aliased, drafted, owned, property_made, properties_made, with_new, edited, is_open, property_name, is_a, slots_of, types}
use Rattle.qo_model.specs.declared.properties.Property.{Property}
use Rattle.qo_model.specs.declared.properties.PropertyRole.{PropertyRole}
use Rattle.std.proofs.lemmas.Bool.{eqb-true, eq-eqb}
use Rattle.std.proofs.lemmas.Option.{same_Some}
use Rattle.std.proofs.lemmas.List.Folds.{find-append}
use Rattle.qo_model.specs.declared.properties.PropertyRole.TheVariants as row
use Rattle.qo_model.proofs.FirstSlotLemmas.{named_in}
use Rattle.qo_model.proofs.StepLemmas.{found_at, found-edited}
use Rattle.qo_sound.proofs.DraftLemmas.{Drafts, drafted-drafts, pinned_once}
use Rattle.qo_sound.proofs.FirmBoardLemmas.{WellFormed}
use Rattle.qo_sound.proofs.NewSlotLemmas.{slots_for}
use Rattle.qo_sound.proofs.RecordLemmas.{all-append}
use Rattle.qo_values.proofs.ListLemmas.{all-imply}
use Rattle.qo_values.proofs.EachLemmas.{each}
use Rattle.qo_sound.proofs.TestLemmas.{decide}
use Rattle.qo_sound.proofs.WorkLemmas.{InvariantBut}
use Rattle.qo_sound_devices.specs.SoundPlaces.{child_entries, child_entry, id_of, kid_entry, listed, owns, owns_it}
use Rattle.qo_sound_devices.proofs.LikenessLemmas.{other-record}
use Rattle.qo_sound_devices.proofs.AdditionLemmas.{IsFurther}
use Rattle.qo_sound_devices.proofs.JoiningLemmas.{added-body, added-other, Made, KeepsOld}
use Rattle.qo_sound_devices.proofs.PlacesLemmas.{high-absent, id-alike, kind-alike}

-- a slot that is not true, names no old object as a child, and holds nothing; and a source is none that holds
abbrev pub BlankSlot : Board → List ℕ × Slot → Type 0
BlankSlot b (name, plain v) = is_true v ≡ false
BlankSlot b (name, child m) = is_live b m ≡ false
BlankSlot b (name, strong t target) = (target ≡ None) × (bytes_eq name (codes "source") ≡ false)
BlankSlot b (name, weak t target) = ⊤
BlankSlot b (name, alias m property) = ⊤

abbrev pub IsBlank : Board → List (List ℕ × Slot) → Type 0
IsBlank b slots = AllByRecursion (BlankSlot b) slots

blank-plain : (b : Board) (s : List ℕ × Slot) → BlankSlot b s → option_map_or is_true (plain_in s.1) false ≡ false
blank-plain b (name, plain v) h = h
blank-plain b (name, child m) h = refl
blank-plain b (name, strong t target) h = refl
blank-plain b (name, weak t target) h = refl
blank-plain b (name, alias m property) h = refl

blank-realized : (b : Board) (slots : List (List ℕ × Slot)) → IsBlank b slots
    → option_map_or is_true (option_and_then plain_in (named_in (codes "realized") slots)) false ≡ false
blank-realized b [] h = refl
blank-realized b (s ∷ slots) h = go (bytes_eq s.0 (codes "realized")) refl (blank-realized b slots h.1)
  where
    go : (t : Bool) → bytes_eq s.0 (codes "realized") ≡ t
        → option_map_or is_true (option_and_then plain_in (named_in (codes "realized") slots)) false ≡ false
        → option_map_or is_true (option_and_then plain_in (named_in (codes "realized") (s ∷ slots))) false ≡ false
    go true p rest = rw p (blank-plain b s h.0)
    go false p rest = rw p rest

blank-kids : (b : Board) (slots : List (List ℕ × Slot)) → IsBlank b slots → filter_map kid_entry slots ≡ []
blank-kids b [] h = refl
blank-kids b ((name, plain v) ∷ slots) h = blank-kids b slots h.1
blank-kids b ((name, child m) ∷ slots) h = blank-kids b slots h.1
blank-kids b ((name, strong t None) ∷ slots) h = blank-kids b slots h.1
blank-kids b ((name, strong t (Some m)) ∷ slots) h = absurd (let clash : Some m ≡ None = h.0.0 in cc)
blank-kids b ((name, weak t target) ∷ slots) h = blank-kids b slots h.1
blank-kids b ((name, alias m property) ∷ slots) h = blank-kids b slots h.1

blank-listed : (b : Board) (q : ℕ) (slots : List (List ℕ × Slot)) → IsBlank b slots → listed q (filter_map child_entry slots) ≡ true → is_live b q ≡ false
blank-listed b q [] h e = cc
blank-listed b q ((name, plain v) ∷ slots) h e = blank-listed b q slots h.1 e
blank-listed b q ((name, strong t target) ∷ slots) h e = blank-listed b q slots h.1 e
blank-listed b q ((name, weak t target) ∷ slots) h e = blank-listed b q slots h.1 e
blank-listed b q ((name, alias m property) ∷ slots) h e = blank-listed b q slots h.1 e
blank-listed b q ((name, child m) ∷ slots) h e = go (m == q) refl (blank-listed b q slots h.1)
  where
    go : (t : Bool) → (m == q) ≡ t → (listed q (filter_map child_entry slots) ≡ true → is_live b q ≡ false) → is_live b q ≡ false
    go true p rest = subst (λ (x : ℕ). is_live b x ≡ false) (eqb-true m q p) h.0
    go false p rest = rest (rw p at e)

-- a source is no strong link
abbrev pub may_see : Option Slot → Bool
may_see (Some (strong t target)) = false
may_see o = true

blank-source : (b : Board) (slots : List (List ℕ × Slot)) → IsBlank b slots → may_see (named_in (codes "source") slots) ≡ true
blank-source b [] h = refl
blank-source b (s ∷ slots) h = go (bytes_eq s.0 (codes "source")) refl (blank-source b slots h.1)
  where
    own : (x : List ℕ × Slot) → BlankSlot b x → bytes_eq x.0 (codes "source") ≡ true → may_see (Some x.1) ≡ true
    own (name, plain v) k e = refl
    own (name, child m) k e = refl
    own (name, strong t target) k e = absurd (let clash : true ≡ false = sym e ∙ k.1 in cc)
    own (name, weak t target) k e = refl
    own (name, alias m property) k e = refl

    go : (t : Bool) → bytes_eq s.0 (codes "source") ≡ t → may_see (named_in (codes "source") slots) ≡ true
        → may_see (named_in (codes "source") (s ∷ slots)) ≡ true
    go true p rest = rw p (own s h.0 p)
    go false p rest = rw p rest

-- what a device has as a child: a clock under the clock's name, and else a bus of a bridge
abbrev pub is_bridge : TypeId → Bool
is_bridge SlotBridge = true
is_bridge t = false

abbrev heir_fits : TypeId → List ℕ → TypeId → Bool
heir_fits t name k = not (is_a k (codes "device")) && (if bytes_eq name clock_name then not (is_a k (codes "bus")) else is_bridge t)

record FitsHeir (t : TypeId) (name : List ℕ) (k : TypeId) : Type 0 where
  no_device : is_a k (codes "device") ≡ false
  clock : bytes_eq name clock_name ≡ true → is_a k (codes "bus") ≡ false
  bridge : bytes_eq name clock_name ≡ false → is_bridge t ≡ true

fits-heir : (t : TypeId) (name : List ℕ) (k : TypeId) → heir_fits t name k ≡ true → FitsHeir t name k
fits-heir t name k e = go (is_a k (codes "device")) refl (bytes_eq name clock_name) refl (is_a k (codes "bus")) refl
  where
    go : (u : Bool) → is_a k (codes "device") ≡ u → (v : Bool) → bytes_eq name clock_name ≡ v → (w : Bool) → is_a k (codes "bus") ≡ w → FitsHeir t name k
    go true p v q w r = absurd (let clash : false ≡ true = rw p at e in cc)
    go false p true q true r = absurd (let clash : false ≡ true = rw (p, q, r) at e in cc)
    go false p true q false r = record { no_device = p; clock = λ x. r; bridge = λ x. absurd (let clash : true ≡ false = sym q ∙ x in cc) }
    go false p false q w r = record { no_device = p; clock = λ x. absurd (let clash : false ≡ true = sym q ∙ x in cc); bridge = λ x. rw (p, q) at e }

-- an entry of the new device
record IsHeir (t : TypeId) (c : Board) (e : List ℕ × ℕ) : Type 0 where
  kind : TypeId
  of : kind_of c e.1 ≡ Some kind
  fits : FitsHeir t e.0 kind

-- the rows of types begin so
abbrev RowBlank : TypeId → List ℕ → PropertyRole → Type 0
RowBlank t name (row.Plain type first) = is_true (first_value t first) ≡ false
RowBlank t name (row.Link target true) = bytes_eq name (codes "source") ≡ false
RowBlank t name (row.Link target false) = ⊤
RowBlank t name (row.Child type) = heir_fits t name type ≡ true
RowBlank t name (row.Alias owner property) = ⊤

abbrev RowsBlank : TypeId → List Property → Type 0
RowsBlank t ps = AllByRecursion (λ (p : Property). RowBlank t (property_name p.name) p.role) ps

rows-blank : (t : TypeId) → RowsBlank t (slots_of t)
unfolding types
rows-blank = each (λ (t : TypeId). RowsBlank t (slots_of t)) (search rules)

first-blank : (b : Board) (t : TypeId) (ps : List Property) → RowsBlank t ps → IsBlank b (slots_for t ps)
first-blank b t [] h = tt
first-blank b t (p ∷ ps) h = go p.role refl (first-blank b t ps h.1)
  where
    go : (kind : PropertyRole) → p.role ≡ kind → IsBlank b (slots_for t ps) → IsBlank b (slots_for t (p ∷ ps))
    go (row.Plain type first) e rest = rw e ((subst (RowBlank t (property_name p.name)) e h.0, rest))
    go (row.Link target true) e rest = rw e (((refl, subst (RowBlank t (property_name p.name)) e h.0), rest))
    go (row.Link target false) e rest = rw e ((tt, rest))
    go (row.Child type) e rest = rw e rest
    go (row.Alias owner property) e rest = rw e rest

first-childless : (t : TypeId) (ps : List Property) → filter_map child_entry (slots_for t ps) ≡ []
first-childless t [] = refl
first-childless t (p ∷ ps) = go p.role refl (first-childless t ps)
  where
    go : (kind : PropertyRole) → p.role ≡ kind → filter_map child_entry (slots_for t ps) ≡ [] → filter_map child_entry (slots_for t (p ∷ ps)) ≡ []
    go (row.Plain type first) e rest = rw e rest
    go (row.Link target true) e rest = rw e rest
    go (row.Link target false) e rest = rw e rest
    go (row.Child type) e rest = rw e rest
    go (row.Alias owner property) e rest = rw e rest

-- entries with one more, where there is one
more-entries : (P : List ℕ × ℕ → Type 0) (name : List ℕ) (s : Slot) → ((m : ℕ) → s ≡ child m → P (name, m)) → (slots : List (List ℕ × Slot))
    → AllByRecursion P (filter_map child_entry slots) → AllByRecursion P (filter_map child_entry (slots ++ (name, s) ∷ []))
more-entries P name (plain v) own [] h = tt
more-entries P name (child m) own [] h = (own m refl, tt)
more-entries P name (strong t target) own [] h = tt
more-entries P name (weak t target) own [] h = tt
more-entries P name (alias m property) own [] h = tt
more-entries P name s own (x ∷ slots) h = go (child_entry x) h (more-entries P name s own slots)
  where
    go : (o : Option (List ℕ × ℕ)) → AllByRecursion P (cons_option o (filter_map child_entry slots))
        → (AllByRecursion P (filter_map child_entry slots) → AllByRecursion P (filter_map child_entry (slots ++ (name, s) ∷ [])))
        → AllByRecursion P (cons_option o (filter_map child_entry (slots ++ (name, s) ∷ [])))
    go None k rest = rest k
    go (Some y) k rest = (k.0, rest k.1)

-- a device n that is being made
record Draft (b : Board) (n : ℕ) (t : TypeId) (c : Board) : Type 0 where
  old : KeepsOld b c
  new : (x : ℕ) → is_live b x ≡ false → IsBlank b (slots_at c x)
  ids : (x : ℕ) → is_live b x ≡ false → id_of c x ≡ None
  childless : (x : ℕ) → is_live b x ≡ false → (x == n) ≡ false → child_entries c x ≡ []
  heirs : AllByRecursion (IsHeir t c) (child_entries c n)
  above : (x : ℕ) → c.born < x → record_of c x ≡ None
  high : b.born ≤ c.born
  anonymous : c.anonymous ≡ b.anonymous

entries-of : Option Record → List (List ℕ × ℕ)
entries-of o = filter_map child_entry (option_map_or (λ (r : Record). r.slots) o [])

draft-none : (b : Board) (n : ℕ) (t : TypeId) → WellFormed b → is_live b n ≡ false → Draft b n t b
unfolding entries-of
draft-none b n t firm absent =
    record {
      old = λ x e. refl;
      new = λ x e. gone (record_of b x) e;
      ids = λ x e. nameless (record_of b x) e;
      childless = λ x e apart. none (record_of b x) e;
      heirs = subst (AllByRecursion (IsHeir t b)) (sym (none (record_of b n) absent)) tt;
      above = λ x high. not_there (record_of b x) (high-absent b firm x high);
      high = omega arith;
      anonymous = refl;
    }
  where
    gone : (o : Option Record) → is_some o ≡ false → IsBlank b (option_map_or (λ (r : Record). r.slots) o [])
    gone None e = tt
    gone (Some r) e = absurd (let clash : true ≡ false = e in cc)

    nameless : (o : Option Record) → is_some o ≡ false → option_and_then (λ (r : Record). r.device_id) o ≡ None
    nameless None e = refl
    nameless (Some r) e = absurd (let clash : true ≡ false = e in cc)

    none : (o : Option Record) → is_some o ≡ false → entries-of o ≡ []
    none None e = refl
    none (Some r) e = absurd (let clash : true ≡ false = e in cc)

    not_there : (o : Option Record) → is_some o ≡ false → o ≡ None
    not_there None e = refl
    not_there (Some r) e = absurd (let clash : true ≡ false = e in cc)

draft-new : (b : Board) (n : ℕ) (t : TypeId) (c : Board) (r : Record) → IsBlank b r.slots → filter_map child_entry r.slots ≡ [] → r.device_id ≡ None
    → r.birth ≡ c.born + 1 → Draft b n t c → Draft b n t (with_new r c)
draft-new b n t c r blank bare none birth h =
    record {
      old = old;
      new = new;
      ids = ids;
      childless = λ x e apart. entries x [] (h.childless x e apart);
      heirs = heirs;
      above = above;
      high = let low : b.born ≤ c.born = h.high in omega (arith, low);
      anonymous = h.anonymous;
    }
  where
    found : (x : ℕ) → record_of (with_new r c) x ≡ option_or (record_of c x) (found_at x (r ∷ []))
    found x = find-append (λ (y : Record). y.birth == x) c.records (r ∷ [])

    old : (x : ℕ) → is_live b x ≡ true → record_of (with_new r c) x ≡ record_of b x
    old x e = go (record_of b x) refl
      where
        go : (o : Option Record) → record_of b x ≡ o → record_of (with_new r c) x ≡ record_of b x
        go None q = absurd (let clash : false ≡ true = sym (ap is_some q) ∙ e in cc)
        go (Some y) q = found x ∙ ap (λ (o : Option Record). option_or o (found_at x (r ∷ []))) (h.old x e ∙ q) ∙ sym q

    new : (x : ℕ) → is_live b x ≡ false → IsBlank b (slots_at (with_new r c) x)
    new x e = subst (λ (o : Option Record). IsBlank b (option_map_or (λ (y : Record). y.slots) o [])) (sym (found x)) (go (record_of c x) (h.new x e))
      where
        last : (u : Bool) → (r.birth == x) ≡ u → IsBlank b (option_map_or (λ (y : Record). y.slots) (found_at x (r ∷ [])) [])
        last true p = rw p blank
        last false p = rw p tt

        go : (o : Option Record) → IsBlank b (option_map_or (λ (y : Record). y.slots) o [])
            → IsBlank b (option_map_or (λ (y : Record). y.slots) (option_or o (found_at x (r ∷ []))) [])
        go (Some y) k = k
        go None k = last (r.birth == x) refl

    ids : (x : ℕ) → is_live b x ≡ false → id_of (with_new r c) x ≡ None
    ids x e = ap (option_and_then (λ (y : Record). y.device_id)) (found x) ∙ go (record_of c x) (h.ids x e)
      where
        last : (u : Bool) → (r.birth == x) ≡ u → option_and_then (λ (y : Record). y.device_id) (found_at x (r ∷ [])) ≡ None
        last true p = rw p none
        last false p = rw p refl

        go : (o : Option Record) → option_and_then (λ (y : Record). y.device_id) o ≡ None
            → option_and_then (λ (y : Record). y.device_id) (option_or o (found_at x (r ∷ []))) ≡ None
        go (Some y) k = k
        go None k = last (r.birth == x) refl

    -- children are as before
    entries : (x : ℕ) (es : List (List ℕ × ℕ)) → child_entries c x ≡ es → child_entries (with_new r c) x ≡ es
    entries x es e = ap (λ (o : Option Record). filter_map child_entry (option_map_or (λ (y : Record). y.slots) o [])) (found x) ∙ go (record_of c x) e
      where
        last : (u : Bool) → (r.birth == x) ≡ u → filter_map child_entry (option_map_or (λ (y : Record). y.slots) (found_at x (r ∷ [])) []) ≡ []
        last true p = rw p bare
        last false p = rw p refl

        go : (o : Option Record) → filter_map child_entry (option_map_or (λ (y : Record). y.slots) o []) ≡ es
            → filter_map child_entry (option_map_or (λ (y : Record). y.slots) (option_or o (found_at x (r ∷ []))) []) ≡ es
        go (Some y) k = k
        go None k = last (r.birth == x) refl ∙ k

    kinds : (x : ℕ) (k : TypeId) → kind_of c x ≡ Some k → kind_of (with_new r c) x ≡ Some k
    kinds x k e = ap (option_map (λ (y : Record). y.kind)) (found x) ∙ go (record_of c x) e
      where
        go : (o : Option Record) → option_map (λ (y : Record). y.kind) o ≡ Some k
            → option_map (λ (y : Record). y.kind) (option_or o (found_at x (r ∷ []))) ≡ Some k
        go (Some y) q = q
        go None q = absurd (let clash : None ≡ Some k = q in cc)

    heirs : AllByRecursion (IsHeir t (with_new r c)) (child_entries (with_new r c) n)
    heirs =
        subst (AllByRecursion (IsHeir t (with_new r c))) (sym (entries n (child_entries c n) refl))
        (all-imply (IsHeir t c) (IsHeir t (with_new r c)) (λ e k. record { kind = k.kind; of = kinds e.1 k.kind k.of; fits = k.fits })
        (child_entries c n) h.heirs)

    above : (x : ℕ) → c.born + 1 < x → record_of (with_new r c) x ≡ None
    above x high = found x ∙ ap (λ (o : Option Record). option_or o (found_at x (r ∷ []))) (h.above x (omega (arith, high))) ∙ last (r.birth == x) refl
      where
        last : (u : Bool) → (r.birth == x) ≡ u → found_at x (r ∷ []) ≡ None
        last false p = rw p refl
        last true p = absurd (let is : r.birth ≡ x = eqb-true r.birth x p in let clash : 0 < 0 = omega (arith, is, birth, high) in omega arith)

module _ (b : Board) (firm : WellFormed b) (n : ℕ) (absent : is_live b n ≡ false) (t : TypeId) where
  draft-add : (c : Board) (name : List ℕ) (s : Slot) → BlankSlot b (name, s) → ((m : ℕ) → s ≡ child m → IsHeir t c (name, m)) → Draft b n t c
      → Draft b n t (add n name s c)
  unfolding add
  draft-add c name s blank heir h =
      record {
        old = old;
        new = new;
        ids = λ x e. id-alike c (add n name s c) x (added-body c n name s x) ∙ h.ids x e;
        childless = λ x e apart. ap (filter_map child_entry) (added-other c n name s x apart) ∙ h.childless x e apart;
        heirs = heirs;
        above = λ x e. found x ∙ ap (option_map (edited n (with_added name s))) (h.above x e);
        high = h.high;
        anonymous = h.anonymous;
      }
    where
      found : (x : ℕ) → record_of (add n name s c) x ≡ option_map (edited n (with_added name s)) (record_of c x)
      found x = found-edited n (with_added name s) (λ r. refl) x c.records

      old : (x : ℕ) → is_live b x ≡ true → record_of (add n name s c) x ≡ record_of b x
      old x e =
          let apart : (x == n) ≡ false =
          decide (x == n) {A = (x == n) ≡ false} (λ p. absurd (let clash : true ≡ false = sym e ∙ ap (is_live b) (eqb-true x n p) ∙ absent in cc))
          (λ p. p) in
          found x ∙ other-record n x (with_added name s) c refl apart (record_of c x) refl ∙ h.old x e

      new : (x : ℕ) → is_live b x ≡ false → IsBlank b (slots_at (add n name s c) x)
      new x e = subst (λ (o : Option Record). IsBlank b (option_map_or (λ (y : Record). y.slots) o [])) (sym (found x)) (go (record_of c x) (h.new x e))
        where
          one : (r : Record) → IsBlank b r.slots → (u : Bool) → (r.birth == n) ≡ u → IsBlank b (edited n (with_added name s) r).slots
          one r k true p = rw (edited, p) (all-append (BlankSlot b) r.slots ((name, s) ∷ []) k (blank, tt))
          one r k false p = rw (edited, p) k

          go : (o : Option Record) → IsBlank b (option_map_or (λ (y : Record). y.slots) o [])
              → IsBlank b (option_map_or (λ (y : Record). y.slots) (option_map (edited n (with_added name s)) o) [])
          go None k = tt
          go (Some r) k = one r k (r.birth == n) refl

      heirs : AllByRecursion (IsHeir t (add n name s c)) (child_entries (add n name s c) n)
      heirs =
          subst (λ (o : Option Record). AllByRecursion (IsHeir t d) (filter_map child_entry (option_map_or (λ (y : Record). y.slots) o [])))
          (sym (found n)) (go (record_of c n) h.heirs)
        where
          d : Board
          d = add n name s c

          still : (e : List ℕ × ℕ) → IsHeir t c e → IsHeir t d e
          still e k = record { kind = k.kind; of = kind-alike c d e.1 (added-body c n name s e.1) ∙ k.of; fits = k.fits }

          same : (r : Record) → AllByRecursion (IsHeir t c) (filter_map child_entry r.slots) → AllByRecursion (IsHeir t d) (filter_map child_entry r.slots)
          same r k = all-imply (IsHeir t c) (IsHeir t d) still (filter_map child_entry r.slots) k

          one : (r : Record) → AllByRecursion (IsHeir t c) (filter_map child_entry r.slots) → (u : Bool) → (r.birth == n) ≡ u
              → AllByRecursion (IsHeir t d) (filter_map child_entry (edited n (with_added name s) r).slots)
          one r k true p = rw (edited, p) (more-entries (IsHeir t d) name s (λ m is. still (name, m) (heir m is)) r.slots (same r k))
          one r k false p = rw (edited, p) (same r k)

          go : (o : Option Record) → AllByRecursion (IsHeir t c) (filter_map child_entry (option_map_or (λ (y : Record). y.slots) o []))
              → AllByRecursion (IsHeir t d) (filter_map child_entry (option_map_or (λ (y : Record). y.slots) (option_map (edited n (with_added name s)) o) []))
          go None k = tt
          go (Some r) k = one r k (r.birth == n) refl

  none-heir : (c : Board) (name : List ℕ) (s : Slot) → child_of s ≡ None → (m : ℕ) → s ≡ child m → IsHeir t c (name, m)
  none-heir c name s none m is = absurd (let clash : None ≡ Some m = sym none ∙ ap child_of is in cc)

  draft-aliased : (c : Board) (name property : List ℕ) (o : Option ℕ) → Draft b n t c → Draft b n t (aliased n name property o c)
  draft-aliased c name property None h = h
  draft-aliased c name property (Some m) h = draft-add c name (alias m property) tt (none-heir c name (alias m property) refl) h

  new-kind : (c : Board) (k : TypeId) → Draft b n t c → kind_of (with_new (fresh_record (c.born + 1) k) c) (c.born + 1) ≡ Some k
  new-kind c k h =
      ap (option_map (λ (y : Record). y.kind)) (find-append (λ (y : Record). y.birth == c.born + 1) c.records (fresh_record (c.born + 1) k ∷ []))
      ∙ ap (λ (o : Option Record). option_map (λ (y : Record). y.kind) (option_or o (found_at (c.born + 1) (fresh_record (c.born + 1) k ∷ []))))
      (h.above (c.born + 1) (omega arith))
      ∙ (let own : (c.born + 1 == c.born + 1) ≡ true = eq-eqb (c.born + 1) (c.born + 1) refl in rw own refl)

  draft-row : (name : List ℕ) (kind : PropertyRole) (c : Board) → RowBlank t name kind → Draft b n t c → Draft b n t (property_made n t name kind c)
  draft-row name (row.Plain type first) c k h = draft-add c name (plain (first_value t first)) k (none-heir c name (plain (first_value t first)) refl) h
  draft-row name (row.Link target true) c k h = draft-add c name (strong target None) (refl, k) (none-heir c name (strong target None) refl) h
  draft-row name (row.Link target false) c k h = draft-add c name (weak target None) tt (none-heir c name (weak target None) refl) h
  draft-row name (row.Child type) c k h =
      let low : b.born ≤ c.born = h.high in
      let made : Board = with_new (fresh_record (c.born + 1) type) c in
      draft-add made name (child (c.born + 1)) (high-absent b firm (c.born + 1) (omega (arith, low)))
      (λ m is.
      let own : c.born + 1 ≡ m = same_Some (c.born + 1) m (ap child_of is) in
      record { kind = type; of = ap (kind_of made) (sym own) ∙ new-kind c type h; fits = fits-heir t name type k })
      (draft-new b n t c (fresh_record (c.born + 1) type) (first-blank b type (slots_of type) (rows-blank type)) (first-childless type (slots_of type)) refl
      refl h)
  draft-row name (row.Alias owner property) c k h = draft-aliased c name (property_name property) (owned c n (property_name owner)) h

  draft-rows : (ps : List Property) (c : Board) → RowsBlank t ps → Draft b n t c → Draft b n t (properties_made n t ps c)
  draft-rows [] c k h = h
  draft-rows (p ∷ ps) c k h = draft-rows ps (property_made n t (property_name p.name) p.role c) k.1 (draft-row (property_name p.name) p.role c k.0 h)

module _ (b : Board) (t : TypeId) (shut : is_open (b.born + 1) ≡ false) (near : InvariantBut None b) where
  absent : is_live b (b.born + 1) ≡ false
  absent = high-absent b near.firm (b.born + 1) (omega arith)

  d : Drafts b (b.born + 1) t [] (pinned_once (b.born + 1) (drafted b t))
  d = drafted-drafts b t shut near

  h : Draft b (b.born + 1) t (drafted b t)
  h =
      draft-rows b near.firm (b.born + 1) absent t (slots_of t) (with_new (fresh (b.born + 1) t) b) (rows-blank t)
      (draft-new b (b.born + 1) t b (fresh (b.born + 1) t) tt refl refl refl (draft-none b (b.born + 1) t near.firm absent))

  kind : kind_of (drafted b t) (b.born + 1) ≡ Some t
  kind = ap (option_map (λ (r : Record). r.kind)) d.found ∙ ap Some d.kind

  further : is_a t (codes "device") ≡ true → (x : ℕ) → is_live b x ≡ false → AllByRecursion (IsFurther (drafted b t) x) (child_entries (drafted b t) x)
  further device x e =
      decide (x == b.born + 1) {A = AllByRecursion (IsFurther (drafted b t) x) (child_entries (drafted b t) x)}
      (λ p. subst (λ (y : ℕ). AllByRecursion (IsFurther (drafted b t) y) (child_entries (drafted b t) y)) (sym (eqb-true x (b.born + 1) p)) own)
      (λ p. subst (AllByRecursion (IsFurther (drafted b t) x)) (sym (h.childless x e p)) tt)
    where
      is_device : is_of (drafted b t) (codes "device") (b.born + 1) ≡ true
      is_device = ap (λ (o : Option TypeId). option_map_or (λ (k : TypeId). is_a k (codes "device")) o false) kind ∙ device

      one : (y : List ℕ × ℕ) → IsHeir t (drafted b t) y → IsFurther (drafted b t) (b.born + 1) y
      one y k = (
        ap (λ (o : Option TypeId). option_map_or (λ (u : TypeId). is_a u (codes "device")) o false) k.of ∙ k.fits.no_device,
        λ is. (
          is_device,
          decide (bytes_eq y.0 clock_name) {A = bytes_eq y.0 clock_name ≡ false}
              (λ p.
              absurd
              (let clash : true ≡ false =
              sym is ∙ ap (λ (o : Option TypeId). option_map_or (λ (u : TypeId). is_a u (codes "bus")) o false) k.of ∙ k.fits.clock p in
              cc))
              (λ p. p),
        ),
      )

      own : AllByRecursion (IsFurther (drafted b t) (b.born + 1)) (child_entries (drafted b t) (b.born + 1))
      own = all-imply (IsHeir t (drafted b t)) (IsFurther (drafted b t) (b.born + 1)) one (child_entries (drafted b t) (b.born + 1)) h.heirs

  pub drafted-made : is_a t (codes "device") ≡ true → Made b (b.born + 1) t (drafted b t)
  drafted-made device =
      record {
        old = h.old;
        absent = absent;
        kind = kind;
        unrealized = λ x e. blank-realized b (slots_at (drafted b t) x) (h.new x e);
        nameless = h.ids;
        no_kids = λ x e. blank-kids b (slots_at (drafted b t) x) (h.new x e);
        further = further device;
        heirs = λ q e. blank-listed b q (slots_at (drafted b t) (b.born + 1)) (h.new (b.born + 1) absent) e;
        anonymous = h.anonymous;
      }

  -- only a bridge has a bus
  pub drafted-bridge : (q : ℕ) → owns (drafted b t) (b.born + 1) q ≡ true → is_bridge t ≡ true
  drafted-bridge q e = go (child_entries (drafted b t) (b.born + 1)) h.heirs e
    where
      go : (es : List (List ℕ × ℕ)) → AllByRecursion (IsHeir t (drafted b t)) es → list_any (owns_it q) es ≡ true → is_bridge t ≡ true
      go [] k u = cc
      go (x ∷ es) k u = at_name (bytes_eq x.0 clock_name) refl (go es k.1)
        where
          at_name : (v : Bool) → bytes_eq x.0 clock_name ≡ v → (list_any (owns_it q) es ≡ true → is_bridge t ≡ true) → is_bridge t ≡ true
          at_name false p rest = k.0.fits.bridge p
          at_name true p rest = rest (skip (x.1 == q) (rw p at u))
            where
              skip : (w : Bool) → (w && false) || list_any (owns_it q) es ≡ true → list_any (owns_it q) es ≡ true
              skip true z = z
              skip false z = z

  -- the sources of new objects hold nothing
  pub drafted-source : (x : ℕ) → is_live b x ≡ false → may_see (named_in (codes "source") (slots_at (drafted b t) x)) ≡ true
  drafted-source x e = blank-source b (slots_at (drafted b t) x) (h.new x e)
