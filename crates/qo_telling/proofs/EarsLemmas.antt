-- What listeners hear of several notes.
use Rattle.std.proofs.Common.{◌≡◌, refl, sym, ap, subst, ◌∙◌, ℕ, zero, suc, List, [], ◌∷◌, ◌++◌, length, take, drop, append-nil, append_assoc, ◌+◌, ◌<◌, slice_index_or}
use Rattle.std.proofs.lemmas.List.{take-append-drop, take_more}
use Rattle.qo_model.specs.declared.notes.Note.{Note}
use Rattle.qo_listen.specs.Ears.{AllHeard, AllOpen, Ear, Heard, HeardSome, HeardTo}
use Rattle.qo_telling.specs.Telling.{HeardFronts}

-- One listener.

heard-none : (e : Ear) → Heard [] e e
heard-none e = record { heard = sym (append-nil e.heard); form = refl; closed = refl }

heard-then : (a b : List Note) (x y z : Ear) → Heard a x y → Heard b y z → Heard (a ++ b) x z
heard-then a b x y z h k =
    record {
      heard = k.heard ∙ ap (λ (l : List Note). l ++ b) h.heard ∙ append_assoc x.heard a b;
      form = k.form ∙ h.form;
      closed = k.closed ∙ h.closed;
    }

-- All of them.

-- nothing was heard
pub all-none : (xs : List Ear) → AllHeard [] xs xs
all-none [] = refl
all-none (x ∷ xs) = (heard-none x, all-none xs)

-- some notes, and then more
pub all-then : (a b : List Note) (xs ys zs : List Ear) → AllHeard a xs ys → AllHeard b ys zs → AllHeard (a ++ b) xs zs
all-then a b [] [] zs h k = k
all-then a b [] (y ∷ ys) zs h k = absurd (let clash : y ∷ ys ≡ [] = h in cc)
all-then a b (x ∷ xs) [] zs h k = absurd h
all-then a b (x ∷ xs) (y ∷ ys) [] h k = absurd k
all-then a b (x ∷ xs) (y ∷ ys) (z ∷ zs) h k = (heard-then a b x y z h.0 k.0, all-then a b xs ys zs h.1 k.1)

-- none is closed by that
pub all-free : (a : List Note) (xs ys : List Ear) → AllHeard a xs ys → AllOpen xs → AllOpen ys
all-free a [] [] h free = tt
all-free a [] (y ∷ ys) h free = absurd (let clash : y ∷ ys ≡ [] = h in cc)
all-free a (x ∷ xs) [] h free = absurd h
all-free a (x ∷ xs) (y ∷ ys) h free = (h.0.closed ∙ free.0, all-free a xs ys h.1 free.1)

-- Fronts.

-- of what was heard nothing, and all
pub fronts-none : (a : List Note) (xs : List Ear) → HeardFronts a xs xs
fronts-none a [] = refl
fronts-none a (x ∷ xs) = (([], a, refl, heard-none x), fronts-none a xs)

pub fronts-all : (a b : List Note) (xs ys : List Ear) → AllHeard a xs ys → HeardFronts (a ++ b) xs ys
fronts-all a b [] ys h = h
fronts-all a b (x ∷ xs) [] h = absurd h
fronts-all a b (x ∷ xs) (y ∷ ys) h = ((a, b, refl, h.0), fronts-all a b xs ys h.1)

-- what the first so many heard
pub fronts-some : (n : ℕ) (a : List Note) (xs ys : List Ear) → HeardTo n a xs ys → HeardFronts a xs ys
fronts-some zero a xs ys h = subst (HeardFronts a xs) (sym h) (fronts-none a xs)
fronts-some (suc n) a [] ys h = h
fronts-some (suc n) a (x ∷ xs) [] h = absurd h
fronts-some (suc n) a (x ∷ xs) (y ∷ ys) h = ((a, [], sym (append-nil a), h.0), fronts-some n a xs ys h.1)

-- some notes, and a front of more
pub fronts-then : (a b : List Note) (xs ys zs : List Ear) → AllHeard a xs ys → HeardFronts b ys zs → HeardFronts (a ++ b) xs zs
fronts-then a b [] [] zs h k = k
fronts-then a b [] (y ∷ ys) zs h k = absurd (let clash : y ∷ ys ≡ [] = h in cc)
fronts-then a b (x ∷ xs) [] zs h k = absurd h
fronts-then a b (x ∷ xs) (y ∷ ys) [] h k = absurd k
fronts-then a b (x ∷ xs) (y ∷ ys) (z ∷ zs) h k = (
  (
    a ++ k.0.0,
    k.0.1,
    ap (λ (l : List Note). a ++ l) k.0.2 ∙ sym (append_assoc a k.0.0 k.0.1),
    heard-then a k.0.0 x y z h.0 k.0.3,
  ),
  fronts-then a b xs ys zs h.1 k.1,
)

-- a front of some notes is one of more
pub fronts-more : (a b : List Note) (xs ys : List Ear) → HeardFronts a xs ys → HeardFronts (a ++ b) xs ys
fronts-more a b [] ys h = h
fronts-more a b (x ∷ xs) [] h = absurd h
fronts-more a b (x ∷ xs) (y ∷ ys) h = (
  (h.0.0, h.0.1 ++ b, ap (λ (l : List Note). l ++ b) h.0.2 ∙ append_assoc h.0.0 h.0.1 b, h.0.3),
  fronts-more a b xs ys h.1,
)

-- none is closed by that
pub fronts-free : (a : List Note) (xs ys : List Ear) → HeardFronts a xs ys → AllOpen xs → AllOpen ys
fronts-free a [] [] h free = tt
fronts-free a [] (y ∷ ys) h free = absurd (let clash : y ∷ ys ≡ [] = h in cc)
fronts-free a (x ∷ xs) [] h free = absurd h
fronts-free a (x ∷ xs) (y ∷ ys) h free = (h.0.3.closed ∙ free.0, fronts-free a xs ys h.1 free.1)

-- a front of notes that were told up to a place
pub fronts-upto : (i : ℕ) (a : List Note) (xs ys : List Ear) → HeardFronts (take i a) xs ys → HeardFronts a xs ys
fronts-upto i a xs ys h = subst (λ (l : List Note). HeardFronts l xs ys) (take-append-drop i a) (fronts-more (take i a) (drop i a) xs ys h)

-- where all of those up to a place were heard, a front of all was, and perhaps more of the next ones
pub fronts-at : (i : ℕ) (a : List Note) (xs ys : List Ear) → AllHeard (take i a) xs ys → HeardFronts a xs ys
fronts-at i a xs ys h =
    subst (λ (l : List Note). HeardFronts l xs ys) (take-append-drop i a) (fronts-all (take i a) (drop i a) xs ys h)

-- nobody heard something
pub all-nobody : (a : List Note) (xs : List Ear) → xs ≡ [] → AllHeard a xs xs
all-nobody a [] none = refl
all-nobody a (x ∷ xs) none = absurd (let clash : x ∷ xs ≡ [] = none in cc)

-- Note by note.

pub one-more : (notes : List Note) (i : ℕ) (d : Note) (xs ys zs : List Ear) → i < length notes → AllHeard (take i notes) xs ys
    → AllHeard (slice_index_or notes i d ∷ []) ys zs → AllHeard (take (i + 1) notes) xs zs
one-more notes i d xs ys zs below h k =
    subst (λ (l : List Note). AllHeard l xs zs) (sym (take_more notes i d below)) (all-then (take i notes) (slice_index_or notes i d ∷ []) xs ys zs h k)

pub one-front : (notes : List Note) (i : ℕ) (d : Note) (xs ys zs : List Ear) → i < length notes → AllHeard (take i notes) xs ys
    → HeardSome (slice_index_or notes i d ∷ []) ys zs → HeardFronts notes xs zs
one-front notes i d xs ys zs below h k =
    fronts-upto (i + 1) notes xs zs
    (subst (λ (l : List Note). HeardFronts l xs zs) (sym (take_more notes i d below))
    (fronts-then (take i notes) (slice_index_or notes i d ∷ []) xs ys zs h (fronts-some k.0 (slice_index_or notes i d ∷ []) ys zs k.1)))

-- none is closed by a note, whoever heard it
pub one-clear : (a : List Note) (xs ys : List Ear) → HeardSome a xs ys → AllOpen xs → AllOpen ys
one-clear a xs ys k free = fronts-free a xs ys (fronts-some k.0 a xs ys k.1) free
