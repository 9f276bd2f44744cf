-- A release notes the end of each object that it ends, once, and nothing else.
use Rattle.std.proofs.Common.{nat_eq, ◌≡◌, refl, ap, ap₂, sym, ◌∙◌, ℕ, Bool, true, false, ◌==◌, List, [], ◌∷◌, ◌++◌, map, Option, Some, None, is_some, option_map, append-nil, arith}
use Rattle.qo_model.proofs.Common.{list_any, option_map_or, TypeId, Board, Record, Slot, record_of, is_live, slot_at, finals, after, let_go, unpin, without_pin, edited, with_dropped, drop_slot, forgotten, finish, finalize, final_notes, KeepsRelease, FinalNotesLaw, notes_on, finals_of, NotesEnds}
use Rattle.qo_model.specs.declared.notes.Deed.{Deed}
use Rattle.qo_model.specs.declared.notes.Deed.TheVariants.{Final}
use Rattle.qo_model.specs.declared.notes.Note.{Note}
use Rattle.std.proofs.lemmas.Bool.{eqb-true, eq-eqb}
use Rattle.std.proofs.lemmas.List.Elements.{filter-append}
use Rattle.qo_model.specs.Board.{referent}
use Rattle.qo_model.proofs.ReleaseInductionLemmas.{release_keeps, after_keeps}
use Rattle.qo_model.proofs.StepLemmas.{drop-record, drop-live, finish-record, finish-live, found-birth}

-- notes for each type, all of one birth
abbrev ends : ℕ → List TypeId → List Note
ends m ts = map (λ (t : TypeId). record { birth = m; deed = Final t }) ts

ends-own : (m x : ℕ) → (m == x) ≡ true → (ts : List TypeId) → notes_on x (ends m ts) ≡ ends m ts
ends-own m x e [] = refl
ends-own m x e (t ∷ ts) = rw e (ap (λ (xs : List Note). record { birth = m; deed = Final t } ∷ xs) (ends-own m x e ts))

ends-other : (m x : ℕ) → (m == x) ≡ false → (ts : List TypeId) → notes_on x (ends m ts) ≡ []
ends-other m x e [] = refl
ends-other m x e (t ∷ ts) = rw e (ends-other m x e ts)

-- the final notes of n are notes on n, and on no other
finals-own : (b : Board) (n : ℕ) → notes_on n (finals_of b n) ≡ finals_of b n
finals-own b n = go (record_of b n) refl
  where
    go : (o : Option Record) → record_of b n ≡ o → notes_on n (option_map_or final_notes o []) ≡ option_map_or final_notes o []
    go None p = refl
    go (Some r) p = ends-own r.birth n (eq-eqb r.birth n (found-birth n b.records r p)) (finals r.kind)

finals-other : (b : Board) (n x : ℕ) → (x == n) ≡ false → notes_on x (finals_of b n) ≡ []
finals-other b n x apart = go (record_of b n) refl
  where
    go : (o : Option Record) → record_of b n ≡ o → notes_on x (option_map_or final_notes o []) ≡ []
    go None p = refl
    go (Some r) p =
        let is : r.birth ≡ n = found-birth n b.records r p in
        let differs : (r.birth == x) ≡ false = grind arith in
        ends-other r.birth x differs (finals r.kind)

-- an edit of slots leaves the final notes
finals-edited : (n i : ℕ) (o : Option Record) → option_map_or final_notes (option_map (edited n (with_dropped i)) o) [] ≡ option_map_or final_notes o []
finals-edited n i None = refl
finals-edited n i (Some r) = go (r.birth == n) refl
  where
    go : (t : Bool) → (r.birth == n) ≡ t → final_notes (edited n (with_dropped i) r) ≡ final_notes r
    go true p = rw (edited, p) refl
    go false p = rw (edited, p) refl

finals-forgotten : (n : ℕ) (o : Option Record) → option_map_or final_notes (option_map (forgotten n) o) [] ≡ option_map_or final_notes o []
finals-forgotten n None = refl
finals-forgotten n (Some r) = refl

pub drop-finals : (b : Board) (n i x : ℕ) → finals_of (drop_slot b n i) x ≡ finals_of b x
drop-finals b n i x = ap (λ (o : Option Record). option_map_or final_notes o []) (drop-record b n i x) ∙ finals-edited n i (record_of b x)

pub finish-finals : (b : Board) (n x : ℕ) → (x == n) ≡ false → finals_of (finish b n) x ≡ finals_of b x
finish-finals b n x apart = ap (λ (o : Option Record). option_map_or final_notes o []) (finish-record b n x apart) ∙ finals-forgotten n (record_of b x)

-- who is not there has no final notes to come
pub finals-none : (b : Board) (n : ℕ) → is_live b n ≡ false → finals_of b n ≡ []
finals-none b n e = go (record_of b n) e
  where
    go : (o : Option Record) → is_some o ≡ false → option_map_or final_notes o [] ≡ []
    go None h = refl
    go (Some r) h = cc

-- the notes after an end
pub drop-notes : (b : Board) (n i : ℕ) → (drop_slot b n i).notes ≡ b.notes
unfolding drop_slot
drop-notes b n i = refl

pub finish-notes : (b : Board) (n : ℕ) → (finish b n).notes ≡ b.notes ++ finals_of b n
unfolding finish
finish-notes b n = refl

finish-notes-own : (b : Board) (n : ℕ) → notes_on n (finish b n).notes ≡ notes_on n b.notes ++ finals_of b n
finish-notes-own b n =
    ap (notes_on n) (finish-notes b n)
    ∙ filter-append (λ (x : Note). x.birth == n) b.notes (finals_of b n)
    ∙ ap (λ (xs : List Note). notes_on n b.notes ++ xs) (finals-own b n)

finish-notes-other : (b : Board) (n x : ℕ) → (x == n) ≡ false → notes_on x (finish b n).notes ≡ notes_on x b.notes
finish-notes-other b n x apart =
    ap (notes_on x) (finish-notes b n)
    ∙ filter-append (λ (y : Note). y.birth == x) b.notes (finals_of b n)
    ∙ ap (λ (xs : List Note). notes_on x b.notes ++ xs) (finals-other b n x apart)
    ∙ append-nil (notes_on x b.notes)

notes-none : (b : Board) → NotesEnds b b
notes-none b =
    record {
      living = λ n e. refl;
      to_come = λ n e. refl;
      ended = λ n e. sym (ap (λ (xs : List Note). notes_on n b.notes ++ xs) (finals-none b n e) ∙ append-nil (notes_on n b.notes));
    }

notes-drop : (b c : Board) (n i : ℕ) → NotesEnds b c → NotesEnds b (drop_slot c n i)
notes-drop b c n i h =
    record {
      living = λ x e. ap (notes_on x) (drop-notes c n i) ∙ h.living x (sym (drop-live c n i x) ∙ e);
      to_come = λ x e. drop-finals c n i x ∙ h.to_come x (sym (drop-live c n i x) ∙ e);
      ended = λ x e. ap (notes_on x) (drop-notes c n i) ∙ h.ended x (sym (drop-live c n i x) ∙ e);
    }

notes-finish : (b c : Board) (n : ℕ) → NotesEnds b c → NotesEnds b (finish c n)
notes-finish b c n h = record { living = λ x e. living x (x == n) refl e; to_come = λ x e. to_come x (x == n) refl e; ended = λ x e. ended x (x == n) refl e }
  where
    gone : (x : ℕ) → (x == n) ≡ true → is_live (finish c n) x ≡ true → ⊥
    gone x p e = let dead : is_live (finish c n) x ≡ false = rw p at (finish-live c n x) in let clash : true ≡ false = sym e ∙ dead in cc

    as_before : (x : ℕ) → (x == n) ≡ false → is_live (finish c n) x ≡ is_live c x
    as_before x p = rw p at (finish-live c n x)

    living : (x : ℕ) (t : Bool) → (x == n) ≡ t → is_live (finish c n) x ≡ true → notes_on x (finish c n).notes ≡ notes_on x b.notes
    living x true p e = absurd (gone x p e)
    living x false p e = finish-notes-other c n x p ∙ h.living x (sym (as_before x p) ∙ e)

    to_come : (x : ℕ) (t : Bool) → (x == n) ≡ t → is_live (finish c n) x ≡ true → finals_of (finish c n) x ≡ finals_of b x
    to_come x true p e = absurd (gone x p e)
    to_come x false p e = finish-finals c n x p ∙ h.to_come x (sym (as_before x p) ∙ e)

    own : (t : Bool) → is_live c n ≡ t → notes_on n c.notes ++ finals_of c n ≡ notes_on n b.notes ++ finals_of b n
    own true e = ap₂ (λ (xs ys : List Note). xs ++ ys) (h.living n e) (h.to_come n e)
    own false e = ap (λ (xs : List Note). notes_on n c.notes ++ xs) (finals-none c n e) ∙ append-nil (notes_on n c.notes) ∙ h.ended n e

    ended : (x : ℕ) (t : Bool) → (x == n) ≡ t → is_live (finish c n) x ≡ false → notes_on x (finish c n).notes ≡ notes_on x b.notes ++ finals_of b x
    ended x true p e = rw (eqb-true x n p) (finish-notes-own c n ∙ own (is_live c n) refl)
    ended x false p e = finish-notes-other c n x p ∙ h.ended x (sym (as_before x p) ∙ e)

-- each turn of a release notes ends alone
notes-keeps : (b : Board) → KeepsRelease (λ (work : List (ℕ × ℕ)) (c : Board). NotesEnds b c)
notes-keeps b =
    record {
      ended = λ c m j work h e. notes-finish b c m h;
      freed = λ c m j work s k h e q free. notes-drop b c m j h;
      kept = λ c m j work s h e held_on. notes-drop b c m j h;
    }

-- and so does a release
pub release_notes : (b : Board) (n : ℕ) → NotesEnds b (finalize b n)
release_notes b n = release_keeps (λ (work : List (ℕ × ℕ)) (c : Board). NotesEnds b c) (notes-keeps b) b n [] (notes-none b)

pub after-notes : (b c : Board) (o : Option ℕ) → NotesEnds b c → NotesEnds b (after finalize c o)
after-notes b c o h = after_keeps (λ (work : List (ℕ × ℕ)) (d : Board). NotesEnds b d) (notes-keeps b) c o [] (λ m e free. h) (λ held_on. h)

-- a slot that is let go with all that follows
pub let_go-notes : (b : Board) (owner i : ℕ) → NotesEnds b (let_go b owner i)
unfolding let_go
let_go-notes b owner i = go (slot_at b owner i) refl
  where
    go : (o : Option Slot) → slot_at b owner i ≡ o → NotesEnds b (let_go b owner i)
    go None p = rw (let_go, p) (notes-none b)
    go (Some s) p = rw (let_go, p) (after-notes b (drop_slot b owner i) (referent s) (notes-drop b b owner i (notes-none b)))

-- and the end of a pin
pub unpin-notes : (b : Board) (n : ℕ) → NotesEnds b (unpin b n)
unfolding unpin
unpin-notes b n = go (list_any (nat_eq n) b.pins) refl
  where
    go : (t : Bool) → list_any (nat_eq n) b.pins ≡ t → NotesEnds b (unpin b n)
    go false p = rw (unpin, p) (notes-none b)
    go true p =
        let none : NotesEnds b (without_pin b n) = let h : NotesEnds b b = notes-none b in record { living = h.living; to_come = h.to_come; ended = h.ended } in
        rw (unpin, p) (after-notes b (without_pin b n) (Some n) none)

-- what the final notes say
ends-say : (m : ℕ) (ts : List TypeId) → map (λ (x : Note). x.deed) (ends m ts) ≡ map Final ts
ends-say m [] = refl
ends-say m (t ∷ ts) = ap (λ (ds : List Deed). Final t ∷ ds) (ends-say m ts)

pub final_notes_lem : FinalNotesLaw
final_notes_lem =
    record {
      finalized = release_notes;
      slot_let_go = let_go-notes;
      unpinned = unpin-notes;
      derived_first = λ r. ends-say r.birth (finals r.kind);
    }
