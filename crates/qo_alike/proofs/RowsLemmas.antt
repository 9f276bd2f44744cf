-- How the slots of an object show, row by row.
use Rattle.std.proofs.Common.{◌≡◌, ◌⊎◌, inl, inr, refl, ap, ap₂, sym, subst, ◌∙◌, rules, ℕ, Bool, true, false, List, [], ◌∷◌, ◌++◌, filter_map, find, map, Option, Some, None, option_map, append_assoc}
use Rattle.qo_model.proofs.Common.{AllByRecursion, IsDistinct, bytes_eq, TypeId, Board, Slot, plain, child, strong, weak, alias, slot_named, slots_at, slots_of, types}
use Rattle.std.proofs.lemmas.Option.{same_Some}
use Rattle.std.proofs.lemmas.Slice.Eq.{bytes_eq-Decides}
use Rattle.qo_values.proofs.EachLemmas.{each}
use Rattle.qo_model.specs.Properties.{path_text}
use Rattle.qo_model.specs.RowNames.{property_name}
use Rattle.qo_model.specs.declared.properties.Property.{Property}
use Rattle.qo_model.specs.declared.properties.PropertyName.{PropertyName}
use Rattle.qo_save.specs.Like.{names, Shown, shown}
use Rattle.qo_sound.proofs.SlotLemmas.{names_in}
use Rattle.qo_sound.proofs.TestLemmas.{clash}
use Rattle.qo_sound_devices.specs.SoundPlaces.{child_entry, kid_entry}
use Rattle.qo_sound_shapes.specs.SoundShape.{further, HasSlots, IsChildSlot, IsFurther, IsKidLink, may_miss, missing, next}
use Rattle.qo_sound_shapes.proofs.RowLemmas.{has-all}
use Rattle.qo_good.proofs.ItemLemmas.{all-append}

abbrev pub show : Board → List ℕ × Slot → List ℕ × Shown
show b s = (s.0, shown b s.1)

abbrev pub row_names : List Property → List (List ℕ)
row_names ps = map (λ (p : Property). property_name p.name) ps

-- the names of a type's rows differ
pub rows-apart : (t : TypeId) → IsDistinct bytes_eq (row_names (slots_of t))
unfolding types IsDistinct
rows-apart = each (λ (t : TypeId). IsDistinct bytes_eq (row_names (slots_of t))) (search rules)

-- no row of a type may be missing, or it has no further slots
abbrev pub Stays : TypeId → List Property → Type 0
Stays t ps = AllByRecursion (λ (p : Property). may_miss p ≡ false) ps ⊎ ((s : List ℕ × Slot) → IsFurther t s → ⊥)

pub whole-or-bare : (t : TypeId) → Stays t (slots_of t)
unfolding types
whole-or-bare = each (λ (t : TypeId). AllByRecursion (λ (p : Property). may_miss p ≡ false) (slots_of t) ⊎ ((s : List ℕ × Slot) → IsFurther t s → ⊥)) (search rules)

later : (t : TypeId) (p : Property) (ps : List Property) → Stays t (p ∷ ps) → Stays t ps
later t p ps (inl h) = inl h.1
later t p ps (inr bare) = inr bare

-- ---- slots found by name

abbrev named_among : List ℕ → List (List ℕ × Slot) → Option Slot
named_among name xs = option_map (λ (s : List ℕ × Slot). s.1) (find (λ (s : List ℕ × Slot). bytes_eq s.0 name) xs)

names-behind : (P : List ℕ → Type 0) (done : List (List ℕ × Slot)) (s : List ℕ × Slot) (rest : List (List ℕ × Slot))
    → AllByRecursion P (names_in (done ++ s ∷ rest)) → P s.0
names-behind P [] s rest h = h.0
names-behind P (x ∷ done) s rest h = names-behind P done s rest h.1

own-found : (done : List (List ℕ × Slot)) (s : List ℕ × Slot) (rest : List (List ℕ × Slot)) → IsDistinct bytes_eq (names_in (done ++ s ∷ rest))
    → named_among s.0 (done ++ s ∷ rest) ≡ Some s.1
unfolding IsDistinct
own-found [] s rest h = let own : bytes_eq s.0 s.0 ≡ true = (bytes_eq-Decides s.0 s.0).1 refl in rw own refl
own-found (x ∷ done) s rest h =
    let other : bytes_eq x.0 s.0 ≡ false = names-behind (λ (y : List ℕ). bytes_eq x.0 y ≡ false) done s rest h.0 in
    rw other (own-found done s rest h.1)

none-named : (name : List ℕ) (xs : List (List ℕ × Slot)) → AllByRecursion (λ (s : List ℕ × Slot). bytes_eq s.0 name ≡ false) xs → named_among name xs ≡ None
none-named name [] h = refl
none-named name (x ∷ xs) h = rw h.0 (none-named name xs h.1)

bytes_eq-back : (xs ys : List ℕ) → bytes_eq xs ys ≡ false → bytes_eq ys xs ≡ false
bytes_eq-back xs ys e = go (bytes_eq ys xs) refl
  where
    go : (t : Bool) → bytes_eq ys xs ≡ t → bytes_eq ys xs ≡ false
    go false q = q
    go true q = clash (sym ((bytes_eq-Decides xs ys).1 (sym ((bytes_eq-Decides ys xs).0 q))) ∙ e)

-- ---- rows

-- no slot of some has the name of one of these rows
abbrev Away : List Property → List (List ℕ × Slot) → Type 0
Away ps slots = AllByRecursion (λ (s : List ℕ × Slot). AllByRecursion (λ (n : List ℕ). bytes_eq s.0 n ≡ false) (row_names ps)) slots

away-later : (p : Property) (ps : List Property) (slots : List (List ℕ × Slot)) → Away (p ∷ ps) slots → Away ps slots
away-later p ps [] h = tt
away-later p ps (s ∷ slots) h = (h.0.1, away-later p ps slots h.1)

away-first : (p : Property) (ps : List Property) (slots : List (List ℕ × Slot)) → Away (p ∷ ps) slots
    → AllByRecursion (λ (s : List ℕ × Slot). bytes_eq s.0 (property_name p.name) ≡ false) slots
away-first p ps [] h = tt
away-first p ps (s ∷ slots) h = (h.0.0, away-first p ps slots h.1)

-- an object's property shows so
pub record RowAt (b : Board) (n : ℕ) (shows : PropertyName → Shown) (name : PropertyName) : Type 0 where
  pub slot : Slot
  pub found : slot_named b n (property_name name) ≡ Some slot
  pub so : shown b slot ≡ shows name

abbrev pub RowSeen : Board → ℕ → (PropertyName → Shown) → Property → Type 0
RowSeen b n shows p = RowAt b n shows p.name

-- the slots of rows, each under its row's name
abbrev pub rows_slots : (b : Board) (n : ℕ) (shows : PropertyName → Shown) (ps : List Property) → AllByRecursion (RowSeen b n shows) ps → List (List ℕ × Slot)
rows_slots b n shows [] rows = []
rows_slots b n shows (p ∷ ps) rows = (property_name p.name, rows.0.slot) ∷ rows_slots b n shows ps rows.1

-- they show as the rows do
pub rows-show : (b : Board) (n : ℕ) (shows : PropertyName → Shown) (ps : List Property) (rows : AllByRecursion (RowSeen b n shows) ps)
    → map (show b) (rows_slots b n shows ps rows) ≡ map (λ (p : Property). (property_name p.name, shows p.name)) ps
rows-show b n shows [] rows = refl
rows-show b n shows (p ∷ ps) rows =
    ap₂ (λ (x : Shown) (xs : List (List ℕ × Shown)). (property_name p.name, x) ∷ xs) rows.0.so (rows-show b n shows ps rows.1)

-- slots are those of the rows, and further ones behind
pub record Rowed (b : Board) (n : ℕ) (t : TypeId) (shows : PropertyName → Shown) (ps : List Property) (rows : AllByRecursion (RowSeen b n shows) ps)
    (slots : List (List ℕ × Slot)) : Type 0 where
  pub behind : List (List ℕ × Slot)
  pub extra : AllByRecursion (IsFurther t) behind
  pub so : slots ≡ rows_slots b n shows ps rows ++ behind

module _ (b : Board) (n : ℕ) (t : TypeId) (shows : PropertyName → Shown) (whole : List (List ℕ × Slot)) (at : slots_at b n ≡ whole)
    (once : IsDistinct bytes_eq (names_in whole)) where
  in-whole : (name : List ℕ) → slot_named b n name ≡ named_among name whole
  in-whole name = ap (named_among name) at

  pub rows-seen : (ps : List Property) (done : List (List ℕ × Slot)) {slots : List (List ℕ × Slot)} → whole ≡ done ++ slots → Away ps done
      → IsDistinct bytes_eq (row_names ps) → Stays t ps → (rows : AllByRecursion (RowSeen b n shows) ps) → HasSlots t ps slots → Rowed b n t shows ps rows slots
  unfolding IsDistinct
  rows-seen [] done {slots} split away apart stays rows (further all) = record { behind = slots; extra = all; so = refl }
  rows-seen (p ∷ ps) done split away apart stays rows (next {s = s} {slots = slots} is rest) =
      let split_on : whole ≡ (done ++ s ∷ []) ++ slots = split ∙ sym (append_assoc done (s ∷ []) slots) in
      let mine : AllByRecursion (λ (x : List ℕ). bytes_eq s.0 x ≡ false) (row_names ps) =
      subst (λ (y : List ℕ). AllByRecursion (λ (x : List ℕ). bytes_eq y x ≡ false) (row_names ps)) (sym is.name) apart.0 in
      let more : Rowed b n t shows ps rows.1 slots =
      rows-seen ps (done ++ s ∷ []) split_on
      (all-append (λ (x : List ℕ × Slot). AllByRecursion (λ (y : List ℕ). bytes_eq x.0 y ≡ false) (row_names ps)) done (s ∷ []) (away-later p ps done away)
      (mine, tt)) apart.1 (later t p ps stays) rows.1 rest in
      let found : named_among s.0 whole ≡ Some s.1 =
      ap (named_among s.0) split ∙ own-found done s slots (subst (λ (xs : List (List ℕ × Slot)). IsDistinct bytes_eq (names_in xs)) split once) in
      let same : rows.0.slot ≡ s.1 =
      same_Some rows.0.slot s.1 (sym rows.0.found ∙ in-whole (property_name p.name) ∙ ap (λ (x : List ℕ). named_among x whole) (sym is.name) ∙ found) in
      record {
        behind = more.behind;
        extra = more.extra;
        so = ap₂ (λ (x : List ℕ × Slot) (xs : List (List ℕ × Slot)). x ∷ xs) (ap₂ (λ (x : List ℕ) (y : Slot). (x, y)) is.name (sym same)) more.so;
      }
  rows-seen (p ∷ ps) done {slots} split away apart (inl stays) rows (missing may rest) = clash (sym may ∙ stays.0)
  rows-seen (p ∷ ps) done {slots} split away apart (inr bare) rows (missing may rest) =
      let behind : AllByRecursion (λ (s : List ℕ × Slot). bytes_eq s.0 (property_name p.name) ≡ false) slots =
      has-all (λ (q : Property). bytes_eq (property_name q.name) (property_name p.name) ≡ false)
      (λ (s : List ℕ × Slot). bytes_eq s.0 (property_name p.name) ≡ false) t (λ q s r is. ap (λ (x : List ℕ). bytes_eq x (property_name p.name)) is.name ∙ r)
      (λ s k. absurd (bare s k)) ps (backward ps apart.0) rest in
      let none : named_among (property_name p.name) whole ≡ None =
      ap (named_among (property_name p.name)) split
      ∙ none-named (property_name p.name) (done ++ slots)
      (all-append (λ (s : List ℕ × Slot). bytes_eq s.0 (property_name p.name) ≡ false) done slots (away-first p ps done away) behind) in
      let some : Some rows.0.slot ≡ None = sym rows.0.found ∙ in-whole (property_name p.name) ∙ none in
      absurd (cc)
    where
      backward : (qs : List Property) → AllByRecursion (λ (x : List ℕ). bytes_eq (property_name p.name) x ≡ false) (row_names qs)
          → AllByRecursion (λ (q : Property). bytes_eq (property_name q.name) (property_name p.name) ≡ false) qs
      backward [] h = tt
      backward (q ∷ qs) h = (bytes_eq-back (property_name p.name) (property_name q.name) h.0, backward qs h.1)

-- ---- further slots

-- children
pub children-show : (b : Board) (behind : List (List ℕ × Slot)) → AllByRecursion (λ (s : List ℕ × Slot). IsChildSlot s.1) behind
    → map (show b) behind ≡ map (λ (e : List ℕ × ℕ). (e.0, names (path_text b e.1))) (filter_map child_entry behind)
children-show b [] h = refl
children-show b ((name, plain v) ∷ slots) h = absurd h.0
children-show b ((name, child m) ∷ slots) h = ap (λ (xs : List (List ℕ × Shown)). (name, names (path_text b m)) ∷ xs) (children-show b slots h.1)
children-show b ((name, strong to target) ∷ slots) h = absurd h.0
children-show b ((name, weak to target) ∷ slots) h = absurd h.0
children-show b ((name, alias m of) ∷ slots) h = absurd h.0

-- kids
pub kids-show : (b : Board) (behind : List (List ℕ × Slot)) → AllByRecursion (λ (s : List ℕ × Slot). IsKidLink s.0 s.1) behind
    → map (show b) behind ≡ map (λ (e : List ℕ × ℕ). (e.0, names (path_text b e.1))) (filter_map kid_entry behind)
kids-show b [] h = refl
kids-show b ((name, plain v) ∷ slots) h = absurd h.0
kids-show b ((name, child m) ∷ slots) h = absurd h.0
kids-show b ((name, strong to None) ∷ slots) h = absurd h.0
kids-show b ((name, strong to (Some m)) ∷ slots) h = ap (λ (xs : List (List ℕ × Shown)). (name, names (path_text b m)) ∷ xs) (kids-show b slots h.1)
kids-show b ((name, weak to target) ∷ slots) h = absurd h.0
kids-show b ((name, alias m of) ∷ slots) h = absurd h.0

-- none
pub bare-show : (b : Board) (t : TypeId) → ((s : List ℕ × Slot) → IsFurther t s → ⊥) → (behind : List (List ℕ × Slot)) → AllByRecursion (IsFurther t) behind → behind ≡ []
bare-show b t bare [] h = refl
bare-show b t bare (s ∷ slots) h = absurd (bare s h.0)
