-- The law: who is there is read off the notes. Each birth has its story, which says it.
use Rattle.std.proofs.Common.{◌≡◌, ◌⊎◌, inl, inr, refl, ap, ap₂, sym, subst, ◌∙◌, append_assoc, rules, ℕ, ◌<◌, ◌≤◌, Bool, true, false, nat_eq, nat_lt, not, ◌&&◌, ◌||◌, ◌==◌, List, [], ◌∷◌, ◌++◌, filter, Option, Some, None, is_some, option_map, arith}
use Rattle.std.specs.BTreeSet.{insert_key}
use Rattle.std.specs.Ordering.{nat_cmp}
use Rattle.std.proofs.lemmas.Bool.{cases_lt, eqb-true, lt-leb, ne_eqb, or_parts}
use Rattle.std.proofs.lemmas.List.Folds.{list_any-append}
use Rattle.std.proofs.Math.Bool.{and-false, or-false}
use Rattle.qo_model.proofs.Common.{if◌then◌else◌, list_any, nat_eq_equiv, TypeId, Container, Init, Realize, Unrealize, Enter, Hold, Exit, Pre, Update, Board, Record, is_live, kind_of, record_of, among, NotesInOrder, Story, beginning, ending, is_bound, is_final, deed_type, init_notes, notes_on, types}
use Rattle.qo_values.specs.declared.kinds.Act.TheVariants.{Wake}
use Rattle.qo_values.specs.declared.births.TheConstants.{OPENING_OBJECTS}
use Rattle.qo_values.proofs.EachLemmas.{each}
use Rattle.qo_model.specs.Types.{has_finalizer}
use Rattle.qo_model.specs.declared.notes.Deed.{Deed}
use Rattle.qo_model.specs.declared.notes.Deed.TheVariants.{Did, Final}
use Rattle.qo_model.specs.declared.notes.Note.{Note}
use Rattle.qo_listen.specs.Texts.{births_of, is_init, living}
use Rattle.qo_sound_shapes.specs.SoundOwners.{SoundOwners, containers}
use Rattle.qo_sound_order.specs.SoundOrder.{AllConcrete, is_abstract}
use Rattle.qo_told.specs.MirrorSays.{MirrorLaw}

-- births that are told, by the notes on each

twice : (x y : Bool) → (x || y) ≡ (x || (x || y))
twice true y = refl
twice false y = refl

swapped : (x y z : Bool) → (x || (y || z)) ≡ (y || (x || z))
swapped true true z = refl
swapped true false z = refl
swapped false true z = refl
swapped false false z = refl

inserted : (k n : ℕ) (xs : List ℕ) → among (insert_key nat_cmp xs k) n ≡ (nat_eq n k || among xs n)
inserted k n [] = refl
inserted k n (x ∷ xs) = go (nat_lt k x) refl (k == x) refl (inserted k n xs)
  where
    go : (t : Bool) → nat_lt k x ≡ t → (u : Bool) → (k == x) ≡ u → among (insert_key nat_cmp xs k) n ≡ (nat_eq n k || among xs n)
        → among (insert_key nat_cmp (x ∷ xs) k) n ≡ (nat_eq n k || among (x ∷ xs) n)
    go true p u q rest = rw p refl
    go false p true q rest =
        let is : k ≡ x = eqb-true k x q in
        rw (p, q) (twice (nat_eq n x) (among xs n) ∙ ap (λ (m : ℕ). nat_eq n m || (nat_eq n x || among xs n)) (sym is))
    go false p false q rest = rw (p, q, rest) (swapped (nat_eq n x) (nat_eq n k) (among xs n))

said-of : (test : Note → Bool) (n : ℕ) (notes : List Note) → among (births_of test notes) n ≡ list_any test (notes_on n notes)
said-of test n [] = refl
said-of test n (x ∷ notes) = go (test x) refl (x.birth == n) refl (said-of test n notes)
  where
    go : (t : Bool) → test x ≡ t → (u : Bool) → (x.birth == n) ≡ u → among (births_of test notes) n ≡ list_any test (notes_on n notes)
        → among (births_of test (x ∷ notes)) n ≡ list_any test (notes_on n (x ∷ notes))
    go true p u q rest = by u q (nat_eq_equiv.symm n x.birth ∙ q)
      where
        by : (u : Bool) → (x.birth == n) ≡ u → nat_eq n x.birth ≡ u → among (births_of test (x ∷ notes)) n ≡ list_any test (notes_on n (x ∷ notes))
        by true e f = rw (p, e) (inserted x.birth n (births_of test notes) ∙ rw (f, p) refl)
        by false e f = rw (p, e) (inserted x.birth n (births_of test notes) ∙ rw f rest)
    go false p true q rest = rw (p, q) (rw p rest)
    go false p false q rest = rw (p, q) rest

among-filter : (p : ℕ → Bool) (n : ℕ) (ns : List ℕ) → among (filter p ns) n ≡ (among ns n && p n)
among-filter p n [] = refl
among-filter p n (x ∷ ns) = go (p x) refl (nat_eq n x) refl (among-filter p n ns)
  where
    go : (t : Bool) → p x ≡ t → (u : Bool) → nat_eq n x ≡ u → among (filter p ns) n ≡ (among ns n && p n)
        → among (filter p (x ∷ ns)) n ≡ (among (x ∷ ns) n && p n)
    go true e true f rest = let own : p n ≡ true = ap p (eqb-true n x f) ∙ e in rw (e, f, own) refl
    go true e false f rest = rw (e, f) rest
    go false e true f rest = let own : p n ≡ false = ap p (eqb-true n x f) ∙ e in rw (e, f, own) (rest ∙ rw own (and-false (among ns n)))
    go false e false f rest = rw (e, f) rest

living-said : (n : ℕ) (notes : List Note)
    → among (living notes) n ≡ (list_any is_init (notes_on n notes) && not (list_any is_final (notes_on n notes)))
living-said n notes =
    among-filter (λ (m : ℕ). not (among (births_of is_final notes) m)) n (births_of is_init notes)
    ∙ ap₂ (λ (x y : Bool). x && not y) (said-of is_init n notes) (said-of is_final n notes)

-- neither an init note nor a final one
neither : (test : Note → Bool) → ((x : Note) → is_bound x ≡ false → test x ≡ false) → (xs : List Note) → list_any is_bound xs ≡ false
    → list_any test xs ≡ false
neither test none [] h = refl
neither test none (x ∷ xs) h = let p = or_parts (is_bound x) _ h in rw (none x p.0) (neither test none xs p.1)

no-init : (x : Note) → is_bound x ≡ false → is_init x ≡ false
no-init x h = go x.deed refl h
  where
    go : (d : Deed) → x.deed ≡ d → is_bound x ≡ false → is_init x ≡ false
    go (Did (Init t)) e h = absurd (let clash : true ≡ false = subst (λ (d : Deed). is_some (deed_type d) ≡ false) e h in cc)
    go (Did Realize) e h = rw e refl
    go (Did Unrealize) e h = rw e refl
    go (Did Enter) e h = rw e refl
    go (Did Wake) e h = rw e refl
    go (Did Hold) e h = rw e refl
    go (Did Exit) e h = rw e refl
    go (Did Pre) e h = rw e refl
    go (Did Update) e h = rw e refl
    go (Final t) e h = rw e refl

no-end : (x : Note) → is_bound x ≡ false → is_final x ≡ false
no-end x h = go x.deed refl h
  where
    go : (d : Deed) → x.deed ≡ d → is_bound x ≡ false → is_final x ≡ false
    go (Did act) e h = rw e refl
    go (Final t) e h = absurd (let clash : true ≡ false = subst (λ (d : Deed). is_some (deed_type d) ≡ false) e h in cc)

-- the notes by which an object begins and ends
begun : (n : ℕ) (t : TypeId) → list_any is_init (init_notes n t) ≡ has_finalizer t
unfolding types
begun n = each (λ (t : TypeId). list_any is_init (init_notes n t) ≡ has_finalizer t) (search rules)

not-over : (n : ℕ) (t : TypeId) → list_any is_final (init_notes n t) ≡ false
unfolding types
not-over n = each (λ (t : TypeId). list_any is_final (init_notes n t) ≡ false) (search rules)

over : (n : ℕ) (t : TypeId) → list_any is_final (ending n t) ≡ has_finalizer t
unfolding types
over n = each (λ (t : TypeId). list_any is_final (ending n t) ≡ has_finalizer t) (search rules)

no-begin : (n : ℕ) (t : TypeId) → list_any is_init (ending n t) ≡ false
unfolding types
no-begin n = each (λ (t : TypeId). list_any is_init (ending n t) ≡ false) (search rules)

abbrev last_of : ℕ → TypeId → Bool → List Note
last_of n t gone = if gone then ending n t else []

last-init : (n : ℕ) (t : TypeId) (gone : Bool) → list_any is_init (last_of n t gone) ≡ false
last-init n t true = no-begin n t
last-init n t false = refl

last-end : (n : ℕ) (t : TypeId) (gone : Bool) → list_any is_final (last_of n t gone) ≡ (gone && has_finalizer t)
last-end n t true = over n t
last-end n t false = refl

-- what a story says
by-story : (n : ℕ) (t : TypeId) (gone : Bool) (notes : List Note) → OPENING_OBJECTS < n → Story n t gone notes
    → among (living notes) n ≡ (has_finalizer t && not (gone && has_finalizer t))
by-story n t gone notes late story =
    let first : beginning n t ≡ init_notes n t = rw (lt-leb n OPENING_OBJECTS late) refl in
    let whole : notes_on n notes ≡ init_notes n t ++ (story.between ++ last_of n t gone) =
    story.in_order
    ∙ append_assoc (beginning n t) story.between (last_of n t gone)
    ∙ ap (λ (xs : List Note). xs ++ (story.between ++ last_of n t gone)) first in
    let no_more : list_any is_init (story.between ++ last_of n t gone) ≡ false =
    list_any-append is_init story.between (last_of n t gone)
    ∙ ap₂ (λ (x y : Bool). x || y) (neither is_init no-init story.between story.neither) (last-init n t gone) in
    let begins : list_any is_init (notes_on n notes) ≡ has_finalizer t =
    ap (list_any is_init) whole
    ∙ list_any-append is_init (init_notes n t) (story.between ++ last_of n t gone)
    ∙ ap₂ (λ (x y : Bool). x || y) (begun n t) no_more
    ∙ or-false (has_finalizer t) in
    let at_last : list_any is_final (story.between ++ last_of n t gone) ≡ (gone && has_finalizer t) =
    list_any-append is_final story.between (last_of n t gone)
    ∙ ap₂ (λ (x y : Bool). x || y) (neither is_final no-end story.between story.neither) (last-end n t gone) in
    let ends : list_any is_final (notes_on n notes) ≡ (gone && has_finalizer t) =
    ap (list_any is_final) whole
    ∙ list_any-append is_final (init_notes n t) (story.between ++ last_of n t gone)
    ∙ ap₂ (λ (x y : Bool). x || y) (not-over n t) at_last in
    living-said n notes ∙ ap₂ (λ (x y : Bool). x && not y) begins ends

-- who is there has a finalizer, but for the containers of the machine
abbrev is_container : TypeId → Bool
is_container Container = true
is_container t = false

container-is : (t : TypeId) → is_container t ≡ true → t ≡ Container
container-is = each (λ (t : TypeId). is_container t ≡ true → t ≡ Container) (search rules)

concrete-ends : (t : TypeId) → is_abstract t ≡ false → is_container t ≡ false → has_finalizer t ≡ true
unfolding types
concrete-ends = each (λ (t : TypeId). is_abstract t ≡ false → is_container t ≡ false → has_finalizer t ≡ true) (search rules)

far : (n : ℕ) → OPENING_OBJECTS < n → among containers n ≡ false
far n late =
    let above : 8 < n = late in
    rw (
      ne_eqb n 1 (λ e. omega (arith, above, e)),
      ne_eqb n 3 (λ e. omega (arith, above, e)),
      ne_eqb n 4 (λ e. omega (arith, above, e)),
      ne_eqb n 8 (λ e. omega (arith, above, e)),
    ) refl

ends : (b : Board) → SoundOwners b → AllConcrete b → (n : ℕ) → OPENING_OBJECTS < n → (t : TypeId) → kind_of b n ≡ Some t → has_finalizer t ≡ true
ends b owners concrete n late t e = concrete-ends t (concrete n t e) (go (is_container t) refl)
  where
    go : (u : Bool) → is_container t ≡ u → is_container t ≡ false
    go false p = p
    go true p =
        let own : among containers n ≡ true = owners.shelves n (e ∙ ap Some (container-is t p)) in
        absurd (let clash : true ≡ false = sym own ∙ far n late in cc)

and-not : (t : Bool) → (t && not (true && t)) ≡ false
and-not true = refl
and-not false = refl

absent : (b : Board) → NotesInOrder b → (n : ℕ) → OPENING_OBJECTS < n → is_live b n ≡ false → (b.born < n) ⊎ (n ≤ b.born) → among (living b.notes) n ≡ false
absent b order n late none (inr born) =
    let above : 8 < n = late in
    let g = order.gone n (omega (arith, above), born) none in
    by-story n g.0 true b.notes late g.1 ∙ and-not (has_finalizer g.0)
absent b order n late none (inl unborn) =
    let nothing : notes_on n b.notes ≡ [] = order.unborn n (λ born. let low : n ≤ b.born = born.1 in omega (arith, unborn, low)) in
    living-said n b.notes ∙ ap (λ (xs : List Note). list_any is_init xs && not (list_any is_final xs)) nothing

pub mirror_lem : MirrorLaw
mirror_lem b order owners concrete n late = go (record_of b n) refl
  where
    go : (o : Option Record) → record_of b n ≡ o → among (living b.notes) n ≡ is_live b n
    go None e =
        let none : is_live b n ≡ false = ap is_some e in
        absent b order n late none (cases_lt b.born n) ∙ sym none
    go (Some r) e =
        let its : kind_of b n ≡ Some r.kind = ap (option_map (λ (x : Record). x.kind)) e in
        let there : is_live b n ≡ true = ap is_some e in
        let last : has_finalizer r.kind ≡ true = ends b owners concrete n late r.kind its in
        by-story n r.kind false b.notes late (order.living n r.kind its) ∙ rw last (sym there)
