-- What keeps the notes of a board in order: releases, pins, and edits of objects.
use Rattle.std.proofs.Common.{◌≡◌, refl, ap, sym, ◌∙◌, ℕ, Bool, true, false, ◌==◌, List, [], ◌++◌, Option, Some, None, is_some, option_map, append-nil}
use Rattle.qo_model.proofs.Common.{option_map_or, TypeId, Board, Record, record_of, is_live, kind_of, beginning, ending, IsBorn, NotesInOrder, Story, refs, after, edit, final_notes, finalize, let_go, unpin, Leaves, without_slots, notes_on, finals_of, NotesEnds}
use Rattle.qo_model.specs.declared.notes.Note.{Note}
use Rattle.qo_model.proofs.ReleaseScopeLemmas.{release_leaves, let_go-leaves, unpin-leaves}
use Rattle.qo_model.proofs.ReleaseNotesLemmas.{finals-none, release_notes, let_go-notes, unpin-notes}
use Rattle.qo_model.proofs.StepLemmas.{found-edited, is_some-map, found-birth, map-edited}

-- an object is there where it has a type
pub kind-live : (b : Board) (n : ℕ) → is_some (kind_of b n) ≡ is_live b n
kind-live b n = is_some-map (λ (r : Record). r.kind) (record_of b n)

pub live-of-kind : (b : Board) (n : ℕ) (t : TypeId) → kind_of b n ≡ Some t → is_live b n ≡ true
live-of-kind b n t e = sym (kind-live b n) ∙ ap is_some e

-- the same notes tell the same story
pub story-same : (n : ℕ) (t : TypeId) (over : Bool) (xs ys : List Note) → notes_on n xs ≡ notes_on n ys → Story n t over ys → Story n t over xs
story-same n t over xs ys same s = record { between = s.between; neither = s.neither; in_order = same ∙ s.in_order }

-- a story that was not over is over with its final notes
story-ends : (n : ℕ) (t : TypeId) (xs ys : List Note) → notes_on n xs ≡ notes_on n ys ++ ending n t → Story n t false ys → Story n t true xs
story-ends n t xs ys more s =
    record {
      between = s.between;
      neither = s.neither;
      in_order =
          more
          ∙ ap (λ (zs : List Note). zs ++ ending n t) s.in_order
          ∙ ap (λ (zs : List Note). zs ++ ending n t) (append-nil (beginning n t ++ s.between));
    }

-- the type of an object, from its record without slots
kind-without : (o : Option Record) → option_map (λ (r : Record). r.kind) (option_map without_slots o) ≡ option_map (λ (r : Record). r.kind) o
kind-without None = refl
kind-without (Some r) = refl

leaves-kind : (b c : Board) → Leaves b c → (n : ℕ) → is_live c n ≡ true → kind_of b n ≡ kind_of c n
leaves-kind b c h n e =
    sym (kind-without (record_of b n))
    ∙ sym (ap (option_map (λ (r : Record). r.kind)) (h.same n e))
    ∙ kind-without (record_of c n)

leaves-live : (b c : Board) → Leaves b c → (n : ℕ) → is_live c n ≡ true → is_live b n ≡ true
leaves-live b c h n e = sym (kind-live b n) ∙ ap is_some (leaves-kind b c h n e) ∙ kind-live c n ∙ e

-- where ends alone were noted, notes stay in order
pub ends-keep : (b c : Board) → NotesEnds b c → Leaves b c → NotesInOrder b → NotesInOrder c
ends-keep b c ends leaves o =
    record {
      opened = rw leaves.born o.opened;
      counted = λ n e. rw leaves.born (o.counted n (leaves-live b c leaves n e));
      unborn = λ n k. unborn n (rw leaves.born at k);
      living = λ n t e.
          let there : is_live c n ≡ true = live-of-kind c n t e in
          story-same n t false c.notes b.notes (ends.living n there) (o.living n t (leaves-kind b c leaves n there ∙ e));
      gone = λ n born e. gone n (rw leaves.born at born) e (record_of b n) refl;
    }
  where
    dead : (n : ℕ) → ¬ (IsBorn b n) → (t : Bool) → is_live b n ≡ t → is_live b n ≡ false
    dead n k true e = absurd (k (o.counted n e))
    dead n k false e = e

    still : (n : ℕ) → is_live b n ≡ false → (t : Bool) → is_live c n ≡ t → is_live c n ≡ false
    still n e true f = let clash : true ≡ false = sym (leaves-live b c leaves n f) ∙ e in cc
    still n e false f = f

    nothing-more : (n : ℕ) → is_live b n ≡ false → is_live c n ≡ false → notes_on n c.notes ≡ notes_on n b.notes
    nothing-more n e f = ends.ended n f ∙ ap (λ (xs : List Note). notes_on n b.notes ++ xs) (finals-none b n e) ∙ append-nil (notes_on n b.notes)

    unborn : (n : ℕ) → ¬ (IsBorn b n) → notes_on n c.notes ≡ []
    unborn n k =
        let e : is_live b n ≡ false = dead n k (is_live b n) refl in
        nothing-more n e (still n e (is_live c n) refl) ∙ o.unborn n k

    finals-are : (n : ℕ) (r : Record) → record_of b n ≡ Some r → finals_of b n ≡ ending n r.kind
    finals-are n r p =
        ap (λ (x : Option Record). option_map_or final_notes x []) p
        ∙ ap (λ (k : ℕ). ending k r.kind) (found-birth n b.records r p)

    gone : (n : ℕ) → IsBorn b n → is_live c n ≡ false → (x : Option Record) → record_of b n ≡ x → (t : TypeId) × Story n t true c.notes
    gone n born e None p =
        let absent : is_live b n ≡ false = ap is_some p in
        let old : (t : TypeId) × Story n t true b.notes = o.gone n born absent in
        (old.0, story-same n old.0 true c.notes b.notes (nothing-more n absent e) old.1)
    gone n born e (Some r) p =
        let story : Story n r.kind false b.notes = o.living n r.kind (ap (option_map (λ (y : Record). y.kind)) p) in
        (r.kind, story-ends n r.kind c.notes b.notes (ends.ended n e ∙ ap (λ (xs : List Note). notes_on n b.notes ++ xs) (finals-are n r p)) story)

-- a release keeps them
pub finalize-keeps : (b : Board) (n : ℕ) → NotesInOrder b → NotesInOrder (finalize b n)
finalize-keeps b n o = ends-keep b (finalize b n) (release_notes b n) (release_leaves b n) o

pub after-keeps : (b : Board) (x : Option ℕ) → NotesInOrder b → NotesInOrder (after finalize b x)
after-keeps b None o = o
after-keeps b (Some m) o = go (refs b m == 0) refl
  where
    go : (t : Bool) → (refs b m == 0) ≡ t → NotesInOrder (after finalize b (Some m))
    go true p = rw (after, p) (finalize-keeps b m o)
    go false p = rw (after, p) o

pub let_go-keeps : (b : Board) (owner i : ℕ) → NotesInOrder b → NotesInOrder (let_go b owner i)
let_go-keeps b owner i o = ends-keep b (let_go b owner i) (let_go-notes b owner i) (let_go-leaves b owner i) o

-- other pins keep them
pub pins-keep : (b : Board) (pins : List ℕ) → NotesInOrder b → NotesInOrder (record b { pins = pins })
pins-keep b pins o = record { opened = o.opened; counted = o.counted; unborn = o.unborn; living = o.living; gone = o.gone }

pub unpin-keeps : (b : Board) (n : ℕ) → NotesInOrder b → NotesInOrder (unpin b n)
unpin-keeps b n o =
    let c : Board = record b { pins = (unpin b n).pins } in
    let h : NotesEnds b (unpin b n) = unpin-notes b n in
    let ends : NotesEnds c (unpin b n) = record { living = h.living; to_come = h.to_come; ended = h.ended } in
    ends-keep c (unpin b n) ends (unpin-leaves b n) (pins-keep b (unpin b n).pins o)

-- an edit that keeps births and types keeps them
pub edit-kind : (n : ℕ) (change : Record → Record) → ((r : Record) → (change r).birth ≡ r.birth) → ((r : Record) → (change r).kind ≡ r.kind)
    → (b : Board) (x : ℕ) → kind_of (edit n change b) x ≡ kind_of b x
edit-kind n change birth kind b x =
    ap (option_map (λ (r : Record). r.kind)) (found-edited n change birth x b.records) ∙ map-edited (λ (r : Record). r.kind) n change kind (record_of b x)

-- boards that agree in births, types and notes
pub same-keep : (b c : Board) → c.born ≡ b.born → c.notes ≡ b.notes → ((n : ℕ) → kind_of c n ≡ kind_of b n) → NotesInOrder b → NotesInOrder c
same-keep b c born notes kind o =
    record {
      opened = rw born o.opened;
      counted = λ n e. rw born (o.counted n (sym (live n) ∙ e));
      unborn = λ n k. ap (notes_on n) notes ∙ o.unborn n (rw born at k);
      living = λ n t e. story-same n t false c.notes b.notes (ap (notes_on n) notes) (o.living n t (sym (kind n) ∙ e));
      gone = λ n is_born e.
          let old : (t : TypeId) × Story n t true b.notes = o.gone n (rw born at is_born) (sym (live n) ∙ e) in
          (old.0, story-same n old.0 true c.notes b.notes (ap (notes_on n) notes) old.1);
    }
  where
    live : (n : ℕ) → is_live c n ≡ is_live b n
    live n = sym (kind-live c n) ∙ ap is_some (kind n) ∙ kind-live b n

pub edit-keeps : (n : ℕ) (change : Record → Record) → ((r : Record) → (change r).birth ≡ r.birth) → ((r : Record) → (change r).kind ≡ r.kind) → (b : Board)
    → NotesInOrder b → NotesInOrder (edit n change b)
edit-keeps n change birth kind b o = same-keep b (edit n change b) refl refl (edit-kind n change birth kind b) o
