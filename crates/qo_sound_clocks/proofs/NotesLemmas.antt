-- Writes of clocks keep the notes in order: who is called back is there.
use Rattle.std.proofs.Common.{◌≡◌, refl, ap, sym, subst, ◌∙◌, ℕ, Bool, true, false, eqb, ◌==◌, List, [], ◌∷◌, find, codes, Option, Some, None, is_some, Ok, Err}
use Rattle.qo_model.proofs.Common.{list_any, E45, E46, E47, Act, Pre, Update, Board, Record, Slot, is_live, kind_of, clock_scaled, clock_set, acted, called, called_all, clock_written, clocks_below, overflows, period, source_of, spread, with_act_on, NotesInOrder, with_act, deed_type, is_child, place_of, set_named}
use Rattle.qo_model.specs.declared.notes.Deed.TheVariants.{Did}
use Rattle.std.proofs.lemmas.Bool.{eq-eqb}
use Rattle.std.proofs.lemmas.Option.{same_Some}
use Rattle.qo_values.specs.declared.properties.Val.TheVariants as val
use Rattle.qo_model.specs.Paths.{parent_of, place_in}
use Rattle.qo_model.proofs.FinalNotesGrowthLemmas.{act-keeps}
use Rattle.qo_model.proofs.FinalNotesLemmas.{edit-kind, kind-live, same-keep}
use Rattle.qo_model.proofs.StepLemmas.{found_at}
use Rattle.qo_sound.proofs.AdditionStepsLemmas.{step-set}
use Rattle.qo_sound.proofs.NotesKeptLemmas.{notes-edits}
use Rattle.qo_sound_clocks.proofs.StepsLemmas.{same_ok}

-- the parent of an object is there

found-some : (q : Record → Bool) (rs : List Record) (r : Record) → find q rs ≡ Some r → is_some (found_at r.birth rs) ≡ true
found-some q [] r e = cc
found-some q (x ∷ rs) r e = go (q x) refl (found-some q rs r)
  where
    or-later : (t : Bool) → (x.birth == r.birth) ≡ t → is_some (found_at r.birth rs) ≡ true → is_some (found_at r.birth (x ∷ rs)) ≡ true
    or-later true p k = rw p refl
    or-later false p k = rw p k

    go : (t : Bool) → q x ≡ t → (find q rs ≡ Some r → is_some (found_at r.birth rs) ≡ true) → is_some (found_at r.birth (x ∷ rs)) ≡ true
    go true p rest =
        let is : x ≡ r = same_Some x r (rw p at e) in
        let own : (x.birth == r.birth) ≡ true = eq-eqb x.birth r.birth (ap (λ (y : Record). y.birth) is) in
        rw own refl
    go false p rest = or-later (x.birth == r.birth) refl (rest (rw p at e))

parent-there : (b : Board) (n d : ℕ) → parent_of b n ≡ Some d → is_live b d ≡ true
parent-there b n d e = go (find (λ (r : Record). is_some (place_in n r)) b.records) refl
  where
    by : (r : Record) → find (λ (x : Record). is_some (place_in n x)) b.records ≡ Some r → (o : Option (List ℕ × Slot))
        → find (λ (s : List ℕ × Slot). is_child n s.1) r.slots ≡ o → is_live b d ≡ true
    by r p None q = absurd (let clash : None ≡ Some d = rw (parent_of, place_of, p, place_in, q) at e in cc)
    by r p (Some s) q =
        let is : Some r.birth ≡ Some d = rw (parent_of, place_of, p, place_in, q) at e in
        subst (λ (k : ℕ). is_live b k ≡ true) (same_Some r.birth d is) (found-some (λ (x : Record). is_some (place_in n x)) b.records r p)

    go : (o : Option Record) → find (λ (r : Record). is_some (place_in n r)) b.records ≡ o → is_live b d ≡ true
    go None p = absurd (let clash : None ≡ Some d = rw (parent_of, place_of, p) at e in cc)
    go (Some r) p = by r p (find (λ (s : List ℕ × Slot). is_child n s.1) r.slots) refl

-- acts

kinds-acted : (act : Act) (n period : ℕ) (c : Board) (x : ℕ) → kind_of (acted act n period c) x ≡ kind_of c x
unfolding acted
kinds-acted act n period c x = edit-kind n (with_act_on act c.now period) (λ r. refl) (λ r. refl) c x

notes-acted : (act : Act) (n period : ℕ) (c : Board) → deed_type (Did act) ≡ None → is_live c n ≡ true → NotesInOrder c
    → NotesInOrder (acted act n period c)
unfolding acted
notes-acted act n period c unbound there h =
    same-keep (with_act n act c) (acted act n period c) refl refl (kinds-acted act n period c) (act-keeps c n act there unbound h)

-- the notes are in order, and the objects are those of another board
record Tells (b c : Board) : Type 0 where
  notes : NotesInOrder c
  kinds : (x : ℕ) → kind_of c x ≡ kind_of b x

tells-acted : (b : Board) (act : Act) (n period : ℕ) → deed_type (Did act) ≡ None → is_live b n ≡ true → (c : Board) → Tells b c
    → Tells b (acted act n period c)
tells-acted b act n period unbound there c h =
    record {
      notes = notes-acted act n period c unbound (sym (kind-live c n) ∙ ap is_some (h.kinds n) ∙ kind-live b n ∙ there) h.notes;
      kinds = λ x. kinds-acted act n period c x ∙ h.kinds x;
    }

called-tells : (old new e : Board) (c : ℕ) → Tells new e → Tells new (called old new e c)
called-tells old new e c h = go (eqb (period old c) (period new c)) refl (parent_of new c) refl
  where
    go : (t : Bool) → eqb (period old c) (period new c) ≡ t → (o : Option ℕ) → parent_of new c ≡ o → Tells new (called old new e c)
    go true p o q = rw (called, p) h
    go false p None q = rw (called, p, q) h
    go false p (Some d) q =
        let there : is_live new d ≡ true = parent-there new c d q in
        rw (called, p, q)
        (tells-acted new Update d (period new c) refl there (acted Pre d (period old c) e) (tells-acted new Pre d (period old c) refl there e h))

all-tell : (old new : Board) (cs : List ℕ) (e : Board) → Tells new e → Tells new (called_all old new cs e)
all-tell old new [] e h = h
all-tell old new (c ∷ cs) e h = all-tell old new cs (called old new e c) (called-tells old new e c h)

-- writes

notes-written : (b new d : Board) (c : ℕ) → NotesInOrder new → clock_written b new c ≡ Ok d → NotesInOrder d
notes-written b new d c h e = go (list_any (overflows new) (c ∷ clocks_below b c)) refl
  where
    go : (t : Bool) → list_any (overflows new) (c ∷ clocks_below b c) ≡ t → NotesInOrder d
    go true p = absurd (let clash : Err E47 ≡ Ok d = rw (clock_written, p) at e in cc)
    go false p =
        let is : Ok (spread b new c) ≡ Ok d = rw (clock_written, p) at e in
        subst NotesInOrder (same_ok (spread b new c) d is) (all-tell b new (clocks_below b c) new (record { notes = h; kinds = λ x. refl })).notes

pub set-notes : (b d : Board) (c period : ℕ) → clock_set b c period ≡ Ok d → NotesInOrder b → NotesInOrder d
set-notes b d c period e h = go (is_some (source_of b c)) refl
  where
    go : (t : Bool) → is_some (source_of b c) ≡ t → NotesInOrder d
    go true p = absurd (let clash : Err E45 ≡ Ok d = rw (clock_set, p) at e in cc)
    go false p =
        notes-written b (set_named c (codes "period") (val.Uint period) b) d c
        (step-set NotesInOrder notes-edits c (codes "period") (val.Uint period) b h) (rw (clock_set, p) at e)

pub scaled-notes : (b d : Board) (c mul div : ℕ) → clock_scaled b c mul div ≡ Ok d → NotesInOrder b → NotesInOrder d
scaled-notes b d c mul div e h = go (eqb div 0) refl
  where
    mid : Board
    mid = set_named c (codes "mul") (val.Uint mul) b

    go : (t : Bool) → eqb div 0 ≡ t → NotesInOrder d
    go true p = absurd (let clash : Err E46 ≡ Ok d = rw (clock_scaled, p) at e in cc)
    go false p =
        notes-written b (set_named c (codes "div") (val.Uint div) mid) d c
        (step-set NotesInOrder notes-edits c (codes "div") (val.Uint div) mid (step-set NotesInOrder notes-edits c (codes "mul") (val.Uint mul) b h))
        (rw (clock_scaled, p) at e)
