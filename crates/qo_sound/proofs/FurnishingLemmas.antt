-- Steps on one object, and what they are on the board with a device: a further object that is made, furnished, joined and let go; and a link that is pointed.
use Rattle.std.proofs.Common.{◌≡◌, refl, ap, ap₂, sym, ◌∙◌, ℕ, ◌+◌, Bool, true, false, ◌==◌, List, [], ◌∷◌, ◌++◌, map, Some, None}
use Rattle.qo_model.proofs.Common.{IsDistinct, TypeId, Board, Record, fresh, with_fresh, with_fresh_slots, fresh_record, with_new, edited, Rises}
use Rattle.std.proofs.lemmas.Bool.{eqb-true, eq-eqb}
use Rattle.std.proofs.lemmas.List.{map-append}
use Rattle.std.proofs.lemmas.Option.{same_Some}
use Rattle.qo_model.proofs.GraphLemmas.{births_at}
use Rattle.qo_model.proofs.StepLemmas.{found_at}
use Rattle.qo_sound.proofs.RecordLemmas.{above-none, edited-none}
use Rattle.qo_sound.proofs.FirmBoardLemmas.{WellFormed}
use Rattle.qo_sound.proofs.NewObjectLemmas.{new-absent}
use Rattle.qo_sound.proofs.DraftLemmas.{with_pins}

-- a new object gets its slots
furnished : (c : Board) (k : TypeId) (q : List ℕ) → WellFormed c
    → with_fresh_slots (c.born + 1) k (with_pins q (with_new (fresh (c.born + 1) k) c)) ≡ with_pins q (with_new (fresh_record (c.born + 1) k) c)
unfolding with_fresh_slots IsDistinct
furnished c k q f = ap (λ (rs : List Record). record (with_pins q (with_new (fresh_record (c.born + 1) k) c)) { records = rs }) same
  where
    absent : found_at (c.born + 1) c.records ≡ None
    absent = new-absent c (fresh (c.born + 1) k) c.notes f (record { birth = refl; names = tt; lone = tt })

    own : (c.born + 1 == c.born + 1) ≡ true
    own = eq-eqb (c.born + 1) (c.born + 1) refl

    same : map (edited (c.born + 1) (with_fresh k)) (c.records ++ fresh (c.born + 1) k ∷ []) ≡ c.records ++ fresh_record (c.born + 1) k ∷ []
    same = map-append (edited (c.born + 1) (with_fresh k)) c.records (fresh (c.born + 1) k ∷ [])
        ∙ ap₂ (λ (xs ys : List Record). xs ++ ys) (edited-none (c.born + 1) (with_fresh k) c.records absent) (rw (edited, own) refl)

-- two edits of one object that make the same of it
edit-same : (f g : Record → Record) (n : ℕ) (rs : List Record) → Rises (births_at rs) → (owner : Record) → found_at n rs ≡ Some owner → f owner ≡ g owner
    → map (edited n f) rs ≡ map (edited n g) rs
edit-same f g n [] up owner e same = refl
edit-same f g n (r ∷ rs) up owner e same = go (r.birth == n) refl (edit-same f g n rs up.1 owner)
  where
    go : (t : Bool) → (r.birth == n) ≡ t → (found_at n rs ≡ Some owner → f owner ≡ g owner → map (edited n f) rs ≡ map (edited n g) rs)
        → map (edited n f) (r ∷ rs) ≡ map (edited n g) (r ∷ rs)
    go true p rest =
        let none : found_at n rs ≡ None = rw (eqb-true r.birth n p) at (above-none r.birth rs up.0) in
        let is : r ≡ owner = same_Some r owner (rw p at e) in
        rw (edited, p)
        (ap₂ (λ (x : Record). λ (xs : List Record). x ∷ xs) (ap f is ∙ same ∙ sym (ap g is)) (edited-none n f rs none ∙ sym (edited-none n g rs none)))
    go false p rest = rw (edited, p) (ap (λ (xs : List Record). r ∷ xs) (rest (rw p at e) same))
