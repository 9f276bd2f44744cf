-- What acts leave as it was: who is there, and the book.
use Rattle.std.proofs.Common.{◌≡◌, refl, ap, ap₂, sym, ◌∙◌, ℕ, Bool, true, false, cond, eqb, List, [], ◌∷◌, map, sum_by, arith}
use Rattle.std.proofs.lemmas.List.Sums.{sum_by-cons}
use Rattle.qo_values.specs.declared.kinds.Act.{Act}
use Rattle.qo_claims.specs.declared.claims.Claimed.{Claimed}
use Rattle.qo_slots.specs.declared.keys.Key.{Key}
use Rattle.qo_object.specs.Content.{Content, acted_at}
use Rattle.qo_heap.specs.Rows.{IsLive, edit}
use Rattle.qo_model.specs.declared.notes.Note.{Note}
use Rattle.qo_heap.specs.Acts.{Acts, still, stilled}
use Rattle.qo_heap.specs.Book.{IsBook, owned}
use Rattle.qo_heap.specs.Objects.{Objects, with_edit, with_note}

-- one object of which no more changes
still-edited : (n : ℕ) (f : Content → Content) → ((c : Content) → still (f c) ≡ still c) → (rows : List (Key × Content))
    → map stilled (edit n f rows) ≡ map stilled rows
still-edited n f same [] = refl
still-edited n f same (row ∷ rows) =
    ap₂ (λ (x : Key × Content) (xs : List (Key × Content)). x ∷ xs) (go (eqb row.0.birth n)) (still-edited n f same rows)
  where
    go : (t : Bool) → stilled (cond t (row.0, f row.1) row) ≡ stilled row
    go true = ap (λ (c : Content). (row.0, c)) (same row.1)
    go false = refl

pub acts-edit : (v : Objects) (n : ℕ) (f : Content → Content) → ((c : Content) → still (f c) ≡ still c) → Acts v (with_edit n f v)
acts-edit v n f same = record { rows = still-edited n f same v.rows; born = refl; claims = refl; events = refl; time = refl }

-- one act
pub acts-act : (v : Objects) (note : Note) (n : ℕ) (act : Act) (time period : ℕ) → Acts v (with_note note (with_edit n (acted_at act time period) v))
acts-act v note n act time period =
    record { rows = still-edited n (acted_at act time period) (λ c. refl) v.rows; born = refl; claims = refl; events = refl; time = refl }

pub acts-none : (v : Objects) → Acts v v
acts-none v = record { rows = refl; born = refl; claims = refl; events = refl; time = refl }

pub acts-then : (v w x : Objects) → Acts v w → Acts w x → Acts v x
acts-then v w x first next = record {
  rows = next.rows ∙ first.rows;
  born = next.born ∙ first.born;
  claims = next.claims ∙ first.claims;
  events = next.events ∙ first.events;
  time = next.time ∙ first.time;
}

-- who is there stays
live-still : (rows : List (Key × Content)) (key : Key) → IsLive (map stilled rows) key ≡ IsLive rows key
live-still [] key = refl
live-still (row ∷ rows) key = go (eqb row.0.birth key.birth) refl (live-still rows key)
  where
    go : (t : Bool) → eqb row.0.birth key.birth ≡ t → IsLive (map stilled rows) key ≡ IsLive rows key
        → IsLive (map stilled (row ∷ rows)) key ≡ IsLive (row ∷ rows) key
    go true e rest = rw e refl
    go false e rest = rw e rest

pub acts-live : (v w : Objects) → Acts v w → (key : Key) → IsLive w.rows key ≡ IsLive v.rows key
acts-live v w acts key = sym (live-still w.rows key) ∙ ap (λ (l : List (Key × Content)). IsLive l key) acts.rows ∙ live-still v.rows key

-- the book stays right
sum-still : (x : Claimed) (rows : List (Key × Content)) → sum_by (owned x) (map stilled rows) ≡ sum_by (owned x) rows
sum-still x [] = refl
sum-still x (row ∷ rows) =
    let rest = sum-still x rows in
    omega (arith, rest, sum_by-cons (owned x) row rows, sum_by-cons (owned x) (stilled row) (map stilled rows))

pub acts-book : (out : List Claimed) (v w : Objects) → Acts v w → IsBook out v → IsBook out w
acts-book out v w acts book x =
    let sums : sum_by (owned x) w.rows ≡ sum_by (owned x) v.rows = sym (sum-still x w.rows) ∙ ap (sum_by (owned x)) acts.rows ∙ sum-still x v.rows in
    rw (acts.claims, sums) (book x)
