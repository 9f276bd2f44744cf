-- What keeps the notes of a board in order: an act that is noted, an object that is made, and one that is made and ends at once.
use Rattle.std.proofs.Common.{◌≡◌, refl, ap, ap₂, sym, ◌∙◌, ℕ, ◌+◌, ◌<◌, ◌≤◌, leb, Bool, true, false, ◌==◌, ◌||◌, if◌then◌else◌, List, [], ◌∷◌, ◌++◌, map, Option, Some, None, is_some, option_map, append_assoc, append-nil, arith}
use Rattle.qo_model.proofs.Common.{option_or, OBJECTS_BIRTH, Act, Init, TypeId, Board, Record, child, is_live, kind_of, with_added, beginning, ending, is_bound, IsBorn, NotesInOrder, Story, with_act, deed_type, fresh_registers, Given, given_slots, init_notes, with_attempt, with_object, edited, notes_on, finals, inits}
use Rattle.qo_model.specs.declared.notes.Deed.{Deed}
use Rattle.qo_model.specs.declared.notes.Deed.TheVariants.{Did, Final}
use Rattle.qo_model.specs.declared.notes.Note.{Note}
use Rattle.std.proofs.lemmas.Bool.{eqb-true, eq-eqb}
use Rattle.std.proofs.lemmas.Option.{same_Some}
use Rattle.std.proofs.lemmas.List.Elements.{filter-append}
use Rattle.std.proofs.lemmas.List.Folds.{find-append, list_any-append}
use Rattle.qo_model.proofs.FinalNotesLemmas.{kind-live, live-of-kind, story-same, edit-kind}
use Rattle.qo_model.proofs.StepLemmas.{found_at}

-- a note for each of some types, all on one object
abbrev noted : ℕ → (TypeId → Deed) → List TypeId → List Note
noted m deed ts = map (λ (t : TypeId). record { birth = m; deed = deed t }) ts

noted-own : (m : ℕ) (deed : TypeId → Deed) (ts : List TypeId) → notes_on m (noted m deed ts) ≡ noted m deed ts
noted-own m deed [] = refl
noted-own m deed (t ∷ ts) = rw (eq-eqb m m refl) (ap (λ (xs : List Note). record { birth = m; deed = deed t } ∷ xs) (noted-own m deed ts))

noted-other : (m x : ℕ) → (m == x) ≡ false → (deed : TypeId → Deed) (ts : List TypeId) → notes_on x (noted m deed ts) ≡ []
noted-other m x e deed [] = refl
noted-other m x e deed (t ∷ ts) = rw e (noted-other m x e deed ts)

-- notes after others, seen from their object and from another
after-own : (m : ℕ) (deed : TypeId → Deed) (ts : List TypeId) (notes : List Note) → notes_on m (notes ++ noted m deed ts) ≡ notes_on m notes ++ noted m deed ts
after-own m deed ts notes =
    filter-append (λ (x : Note). x.birth == m) notes (noted m deed ts) ∙ ap (λ (xs : List Note). notes_on m notes ++ xs) (noted-own m deed ts)

after-other : (m x : ℕ) → (m == x) ≡ false → (deed : TypeId → Deed) (ts : List TypeId) (notes : List Note)
    → notes_on x (notes ++ noted m deed ts) ≡ notes_on x notes
after-other m x e deed ts notes =
    filter-append (λ (y : Note). y.birth == x) notes (noted m deed ts)
    ∙ ap (λ (xs : List Note). notes_on x notes ++ xs) (noted-other m x e deed ts)
    ∙ append-nil (notes_on x notes)

-- an act that does not begin its object belongs between
one-noted : (n : ℕ) (act : Act) (notes : List Note)
    → notes_on n (notes ++ record { birth = n; deed = Did act } ∷ []) ≡ notes_on n notes ++ record { birth = n; deed = Did act } ∷ []
one-noted n act notes = filter-append (λ (x : Note). x.birth == n) notes (record { birth = n; deed = Did act } ∷ []) ∙ rw (eq-eqb n n refl) refl

one-other : (n x : ℕ) → (n == x) ≡ false → (act : Act) (notes : List Note) → notes_on x (notes ++ record { birth = n; deed = Did act } ∷ []) ≡ notes_on x notes
one-other n x e act notes = filter-append (λ (y : Note). y.birth == x) notes (record { birth = n; deed = Did act } ∷ []) ∙ rw e (append-nil (notes_on x notes))

story-goes-on : (n : ℕ) (t : TypeId) (act : Act) (notes : List Note) → deed_type (Did act) ≡ None → Story n t false notes
    → Story n t false (notes ++ record { birth = n; deed = Did act } ∷ [])
story-goes-on n t act notes plain s =
    record {
      between = s.between ++ this;
      neither = list_any-append is_bound s.between this ∙ ap₂ (λ (u v : Bool). u || v) s.neither (rw (is_bound, plain) refl);
      in_order = one-noted n act notes ∙ ap (λ (xs : List Note). xs ++ this) s.in_order ∙ joined (beginning n t) s.between;
    }
  where
    this : List Note
    this = record { birth = n; deed = Did act } ∷ []

    joined : (us vs : List Note) → us ++ vs ++ [] ++ this ≡ us ++ (vs ++ this) ++ []
    joined us vs = ap (λ (xs : List Note). xs ++ this) (append-nil (us ++ vs)) ∙ append_assoc us vs this ∙ sym (append-nil (us ++ (vs ++ this)))

pub act-keeps : (b : Board) (n : ℕ) (act : Act) → is_live b n ≡ true → deed_type (Did act) ≡ None → NotesInOrder b → NotesInOrder (with_act n act b)
act-keeps b n act there plain o =
    record {
      opened = o.opened;
      counted = o.counted;
      unborn = λ x k. one-other n x (apart x (λ is. k (rw (sym is) (o.counted n there))) (n == x) refl) act b.notes ∙ o.unborn x k;
      living = λ x t e. living x t e (n == x) refl;
      gone = λ x born e. gone x born e (n == x) refl;
    }
  where
    apart : (x : ℕ) → ¬ (n ≡ x) → (s : Bool) → (n == x) ≡ s → (n == x) ≡ false
    apart x differ true p = absurd (differ (eqb-true n x p))
    apart x differ false p = p

    living : (x : ℕ) (t : TypeId) → kind_of b x ≡ Some t → (s : Bool) → (n == x) ≡ s → Story x t false (with_act n act b).notes
    living x t e true p =
        let is : n ≡ x = eqb-true n x p in
        rw (sym is) (story-goes-on n t act b.notes plain (o.living n t (ap (kind_of b) is ∙ e)))
    living x t e false p = story-same x t false (with_act n act b).notes b.notes (one-other n x p act b.notes) (o.living x t e)

    gone : (x : ℕ) → IsBorn b x → is_live b x ≡ false → (s : Bool) → (n == x) ≡ s → (t : TypeId) × Story x t true (with_act n act b).notes
    gone x born e true p = let clash : true ≡ false = sym there ∙ ap (is_live b) (eqb-true n x p) ∙ e in cc
    gone x born e false p =
        let old : (t : TypeId) × Story x t true b.notes = o.gone x born e in
        (old.0, story-same x old.0 true (with_act n act b).notes b.notes (one-other n x p act b.notes) old.1)

-- from b to c one object of a type was made, which is there or over already, and of no other anything was noted
pub record Grown (b c : Board) (t : TypeId) (over : Bool) : Type 0 where
  pub born : c.born ≡ b.born + 1
  pub others : (x : ℕ) → (b.born + 1 == x) ≡ false → kind_of c x ≡ kind_of b x
  pub unnoted : (x : ℕ) → (b.born + 1 == x) ≡ false → notes_on x c.notes ≡ notes_on x b.notes
  pub kind : kind_of c (b.born + 1) ≡ (if over then None else Some t)
  pub story : Story (b.born + 1) t over c.notes

pub grown-keeps : (b c : Board) (t : TypeId) (over : Bool) → Grown b c t over → NotesInOrder b → NotesInOrder c
grown-keeps b c t over g o =
    record {
      opened = rw g.born (let few : 8 ≤ b.born = o.opened in omega arith);
      counted = λ n e. rw g.born (counted n e (b.born + 1 == n) refl);
      unborn = λ n k. unborn n (rw g.born at k) (b.born + 1 == n) refl;
      living = λ n u e. living n u e (b.born + 1 == n) refl;
      gone = λ n born e. gone n (rw g.born at born) e (b.born + 1 == n) refl;
    }
  where
    live : (n : ℕ) → (b.born + 1 == n) ≡ false → is_live c n ≡ is_live b n
    live n p = sym (kind-live c n) ∙ ap is_some (g.others n p) ∙ kind-live b n

    counted : (n : ℕ) → is_live c n ≡ true → (s : Bool) → (b.born + 1 == n) ≡ s → (0 < n) × (n ≤ b.born + 1)
    counted n e true p = let is : b.born + 1 ≡ n = eqb-true (b.born + 1) n p in (omega arith, omega arith)
    counted n e false p = let old : IsBorn b n = o.counted n (sym (live n p) ∙ e) in (old.0, omega (arith, old.1))

    unborn : (n : ℕ) → ¬ ((0 < n) × (n ≤ b.born + 1)) → (s : Bool) → (b.born + 1 == n) ≡ s → notes_on n c.notes ≡ []
    unborn n k true p = let is : b.born + 1 ≡ n = eqb-true (b.born + 1) n p in absurd (k (omega arith, omega arith))
    unborn n k false p = g.unnoted n p ∙ o.unborn n (λ born. k (born.0, omega (arith, born.1)))

    made : (u : TypeId) (s : Bool) → over ≡ s → (if s then None else Some t) ≡ Some u → Story (b.born + 1) u false c.notes
    made u true p e = cc
    made u false p e = rw (sym (same_Some t u e)) (rw p at g.story)

    living : (n : ℕ) (u : TypeId) → kind_of c n ≡ Some u → (s : Bool) → (b.born + 1 == n) ≡ s → Story n u false c.notes
    living n u e true p =
        let is : b.born + 1 ≡ n = eqb-true (b.born + 1) n p in
        let here : kind_of c (b.born + 1) ≡ Some u = ap (kind_of c) is ∙ e in
        rw (sym is) (made u over refl (sym g.kind ∙ here))
    living n u e false p = story-same n u false c.notes b.notes (g.unnoted n p) (o.living n u (sym (g.others n p) ∙ e))

    ended : (s : Bool) → over ≡ s → is_live c (b.born + 1) ≡ false → (u : TypeId) × Story (b.born + 1) u true c.notes
    ended true p e = (t, rw p at g.story)
    ended false p e =
        let there : is_live c (b.born + 1) ≡ true = live-of-kind c (b.born + 1) t (rw p at g.kind) in
        let clash : true ≡ false = sym there ∙ e in cc

    gone : (n : ℕ) → (0 < n) × (n ≤ b.born + 1) → is_live c n ≡ false → (s : Bool) → (b.born + 1 == n) ≡ s → (u : TypeId) × Story n u true c.notes
    gone n born e true p =
        let is : b.born + 1 ≡ n = eqb-true (b.born + 1) n p in
        rw (sym is) (ended over refl (ap (is_live c) is ∙ e))
    gone n born e false p =
        let first : 0 < n = born.0 in
        let most : n ≤ b.born + 1 = born.1 in
        let few : n ≤ b.born = grind arith in
        let old : (u : TypeId) × Story n u true b.notes = o.gone n (first, few) (sym (live n p) ∙ e) in
        (old.0, story-same n old.0 true c.notes b.notes (g.unnoted n p) old.1)

-- the next birth is not there, and has no note
pub next-absent : (b : Board) → NotesInOrder b → (o : Option TypeId) → kind_of b (b.born + 1) ≡ o → kind_of b (b.born + 1) ≡ None
next-absent b o None e = e
next-absent b o (Some t) e =
    let born : IsBorn b (b.born + 1) = o.counted (b.born + 1) (live-of-kind b (b.born + 1) t e) in
    let over : b.born + 1 ≤ b.born = born.1 in
    absurd (omega arith)

next-unnoted : (b : Board) → NotesInOrder b → notes_on (b.born + 1) b.notes ≡ []
next-unnoted b o = o.unborn (b.born + 1) (λ born. let over : b.born + 1 ≤ b.born = born.1 in absurd (omega arith))

-- its init notes are the beginning of its story
pub next-begins : (b : Board) (t : TypeId) → NotesInOrder b → notes_on (b.born + 1) (b.notes ++ init_notes (b.born + 1) t) ≡ beginning (b.born + 1) t
next-begins b t o =
    let opened : 8 ≤ b.born = o.opened in
    let later : leb (b.born + 1) 8 ≡ false = grind arith in
    rw (beginning, later)
    (after-own (b.born + 1) (λ k. Did (Init k)) (inits t) b.notes ∙ ap (λ (xs : List Note). xs ++ init_notes (b.born + 1) t) (next-unnoted b o))

-- an attempt that is given up
pub attempt-grows : (b : Board) (t : TypeId) → NotesInOrder b → Grown b (with_attempt b t) t true
attempt-grows b t o =
    record {
      born = refl;
      others = λ x e. refl;
      unnoted = λ x e.
          after-other (b.born + 1) x e Final (finals t) (b.notes ++ init_notes (b.born + 1) t)
          ∙ after-other (b.born + 1) x e (λ k. Did (Init k)) (inits t) b.notes;
      kind = next-absent b o (kind_of b (b.born + 1)) refl;
      story =
          record {
            between = [];
            neither = refl;
            in_order =
                after-own (b.born + 1) Final (finals t) (b.notes ++ init_notes (b.born + 1) t)
                ∙ ap (λ (xs : List Note). xs ++ ending (b.born + 1) t) (next-begins b t o ∙ sym (append-nil (beginning (b.born + 1) t)));
          };
    }

-- the type of a birth among records, one of which is after the others
or-none : (o : Option Record) → option_or o None ≡ o
or-none None = refl
or-none (Some r) = refl

pub last-other : (rs : List Record) (r : Record) (x : ℕ) → (r.birth == x) ≡ false → found_at x (rs ++ r ∷ []) ≡ found_at x rs
last-other rs r x e = find-append (λ (y : Record). y.birth == x) rs (r ∷ []) ∙ rw e (or-none (found_at x rs))

pub last-own : (rs : List Record) (r : Record) → found_at r.birth rs ≡ None → found_at r.birth (rs ++ r ∷ []) ≡ Some r
last-own rs r e = find-append (λ (y : Record). y.birth == r.birth) rs (r ∷ []) ∙ rw (e, eq-eqb r.birth r.birth refl) refl

pub unmapped : (o : Option Record) → option_map (λ (r : Record). r.kind) o ≡ None → o ≡ None
unmapped None e = refl
unmapped (Some r) e = cc

-- an object under an id
pub object-grows : (b : Board) (t : TypeId) (id : List ℕ) (props : List Given) → NotesInOrder b → Grown b (with_object b t id props) t false
object-grows b t id props o =
    record {
      born = refl;
      others = λ x e. ap (option_map (λ (r : Record). r.kind)) (last-other named new x e) ∙ named-kind x;
      unnoted = λ x e. after-other (b.born + 1) x e (λ k. Did (Init k)) (inits t) b.notes;
      kind = ap (option_map (λ (r : Record). r.kind))
          (last-own named new (unmapped (found_at (b.born + 1) named) (named-kind (b.born + 1) ∙ next-absent b o (kind_of b (b.born + 1)) refl)));
      story =
          record {
            between = [];
            neither = refl;
            in_order = next-begins b t o ∙ sym (append-nil (beginning (b.born + 1) t)) ∙ sym (append-nil (beginning (b.born + 1) t ++ []));
          };
    }
  where
    at_objects : Record → Record
    at_objects = with_added id (child (b.born + 1))

    named : List Record
    named = map (edited OBJECTS_BIRTH at_objects) b.records

    new : Record
    new = record { birth = b.born + 1; kind = t; slots = given_slots b t props; registers = fresh_registers t; device_id = None; kept_path = None }

    named-kind : (x : ℕ) → option_map (λ (r : Record). r.kind) (found_at x named) ≡ kind_of b x
    named-kind x = edit-kind OBJECTS_BIRTH at_objects (λ r. refl) (λ r. refl) b x
