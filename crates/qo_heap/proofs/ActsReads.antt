-- What acts leave of each object: its slots, its type, its pins and its path.
use Rattle.std.proofs.Common.{◌≡◌, refl, ap, sym, ◌∙◌, ℕ, Bool, true, false, cond, eqb, List, [], ◌∷◌, ◌++◌, map, length, replicate}
use Rattle.std.specs.Option.{option_map_or}
use Rattle.std.proofs.lemmas.List.{length-map}
use Rattle.qo_slots.specs.declared.keys.Key.{Key}
use Rattle.qo_heap.specs.Rows.{object_at}
use Rattle.qo_object.specs.Content.{Content}
use Rattle.qo_heap.specs.Acts.{Acts, still, stilled}
use Rattle.qo_heap.specs.Board.{pins_in}
use Rattle.qo_heap.specs.Objects.{Objects, content_of, pins_of, slots_of}

-- what is read of an object without its device

abbrev read_of : {A : Type 0} → (Content → A) → A → List (Key × Content) → ℕ → A
read_of f d rows n = option_map_or f (object_at rows n) d

read-still : {A : Type 0} (f : Content → A) (d : A) (n : ℕ) → ((c : Content) → f (still c) ≡ f c) → (rows : List (Key × Content))
    → read_of f d (map stilled rows) n ≡ read_of f d rows n
read-still f d n same [] = refl
read-still {A} f d n same (row ∷ rows) = go (eqb row.0.birth n) refl (read-still f d n same rows)
  where
    go : (t : Bool) → eqb row.0.birth n ≡ t → read_of f d (map stilled rows) n ≡ read_of f d rows n
        → read_of f d (map stilled (row ∷ rows)) n ≡ read_of f d (row ∷ rows) n
    go true e rest = rw e (same row.1)
    go false e rest = rw e rest

pub acts-read : {A : Type 0} (f : Content → A) (d : A) → ((c : Content) → f (still c) ≡ f c) → (v w : Objects) → Acts v w → (n : ℕ)
    → option_map_or f (content_of w n) d ≡ option_map_or f (content_of v n) d
acts-read f d same v w acts n =
    sym (read-still f d n same w.rows) ∙ ap (λ (l : List (Key × Content)). read_of f d l n) acts.rows ∙ read-still f d n same v.rows

pub acts-slots : (v w : Objects) → Acts v w → (n : ℕ) → slots_of w n ≡ slots_of v n
acts-slots v w acts n = acts-read (λ (c : Content). c.slots) [] (λ c. refl) v w acts n

pub acts-pins_of : (v w : Objects) → Acts v w → (n : ℕ) → pins_of w n ≡ pins_of v n
acts-pins_of v w acts n = acts-read (λ (c : Content). c.pins) 0 (λ c. refl) v w acts n

pub acts-length : (v w : Objects) → Acts v w → length w.rows ≡ length v.rows
acts-length v w acts = sym (length-map w.rows stilled) ∙ ap (λ (l : List (Key × Content)). length l) acts.rows ∙ length-map v.rows stilled

-- the pins of all

pins-still : (rows : List (Key × Content)) → pins_in (map stilled rows) ≡ pins_in rows
pins-still [] = refl
pins-still (row ∷ rows) = ap (λ (l : List ℕ). replicate row.1.pins row.0.birth ++ l) (pins-still rows)

pub acts-pins : (v w : Objects) → Acts v w → pins_in w.rows ≡ pins_in v.rows
acts-pins v w acts = sym (pins-still w.rows) ∙ ap pins_in acts.rows ∙ pins-still v.rows

-- the places that are promised

abbrev one_if : {X : Type 0} → (X → Bool) → X → ℕ
one_if p x = cond {A = ℕ} (p x) 1 0
