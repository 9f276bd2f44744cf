-- What slots name, as lists: births that rise along such a list, and slots of which some were taken away or changed.
use Rattle.std.proofs.Common.{◌≡◌, refl, ap, ap₂, ℕ, zero, suc, ◌<◌, List, [], ◌∷◌, ◌++◌, filter_map, map, Option, Some, None}
use Rattle.std.specs.Prelude.{remove}
use Rattle.qo_model.proofs.Common.{cons_option, AllByRecursion, Board, Slot, plain, child, strong, weak, alias, children_in, fitted, forgotten_in, pointed, Rises, strong_in}
use Rattle.qo_sound_devices.specs.SoundPlaces.{child_entry, kid_entry}
use Rattle.qo_sound_devices.proofs.DropLemmas.{within-cons}
use Rattle.qo_sound_devices.proofs.PlacesLemmas.{Within, all-within, more, nothing, same, within-all}

-- the births of what is named
abbrev pub births_in : List (List ℕ × ℕ) → List ℕ
births_in es = map (λ (e : List ℕ × ℕ). e.1) es

-- births rise from n along them
abbrev pub Ascends : ℕ → List (List ℕ × ℕ) → Type 0
Ascends n es = Rises (n ∷ births_in es)

-- each is below m
abbrev pub Below : ℕ → List (List ℕ × ℕ) → Type 0
Below m es = AllByRecursion (λ (e : List ℕ × ℕ). e.1 < m) es

pub children-births : (slots : List (List ℕ × Slot)) → children_in slots ≡ births_in (filter_map child_entry slots)
children-births [] = refl
children-births ((name, plain v) ∷ slots) = children-births slots
children-births ((name, child m) ∷ slots) = ap (λ (ns : List ℕ). m ∷ ns) (children-births slots)
children-births ((name, strong t target) ∷ slots) = children-births slots
children-births ((name, weak t target) ∷ slots) = children-births slots
children-births ((name, alias m property) ∷ slots) = children-births slots

pub kids-births : (slots : List (List ℕ × Slot)) → filter_map (λ (s : List ℕ × Slot). strong_in s.1) slots ≡ births_in (filter_map kid_entry slots)
kids-births [] = refl
kids-births ((name, plain v) ∷ slots) = kids-births slots
kids-births ((name, child m) ∷ slots) = kids-births slots
kids-births ((name, strong t None) ∷ slots) = kids-births slots
kids-births ((name, strong t (Some m)) ∷ slots) = ap (λ (ns : List ℕ). m ∷ ns) (kids-births slots)
kids-births ((name, weak t target) ∷ slots) = kids-births slots
kids-births ((name, alias m property) ∷ slots) = kids-births slots

-- fewer of them
within-births : {xs ys : List (List ℕ × ℕ)} → Within xs ys → Within (births_in xs) (births_in ys)
within-births (nothing ys) = nothing (births_in ys)
within-births (same x w) = same x.1 (within-births w)
within-births (more y w) = more y.1 (within-births w)

rises-within : {xs ys : List ℕ} → Within xs ys → Rises ys → Rises xs
rises-within (nothing ys) h = tt
rises-within (same x w) h = (all-within (λ m. x < m) w h.0, rises-within w h.1)
rises-within (more y w) h = rises-within w h.1

pub ascends-within : (n : ℕ) {xs ys : List (List ℕ × ℕ)} → Within xs ys → Ascends n ys → Ascends n xs
ascends-within n w h = rises-within (same n (within-births w)) h

-- one more, above the others
above-more : (k n : ℕ) (name : List ℕ) (es : List (List ℕ × ℕ)) → AllByRecursion (λ m. k < m) (births_in es) → k < n
    → AllByRecursion (λ m. k < m) (births_in (es ++ (name, n) ∷ []))
above-more k n name [] h less = (less, tt)
above-more k n name (e ∷ es) h less = (h.0, above-more k n name es h.1 less)

pub ascends-more : (n m : ℕ) (name : List ℕ) (es : List (List ℕ × ℕ)) → n < m → Below m es → Ascends n es → Ascends n (es ++ (name, m) ∷ [])
ascends-more n m name [] less below h = ((less, tt), (tt, tt))
ascends-more n m name (e ∷ es) less below h =
    (above-more n m name (e ∷ es) h.0 less, ascends-more e.1 m name es below.0 below.1 h.1)

-- a slot that is removed
within-option : (o : Option (List ℕ × ℕ)) (xs : List (List ℕ × ℕ)) → Within xs (cons_option o xs)
within-option None xs = within-all xs
within-option (Some x) xs = more x (within-all xs)

pub within-removed : (f : List ℕ × Slot → Option (List ℕ × ℕ)) (i : ℕ) (slots : List (List ℕ × Slot))
    → Within (filter_map f (remove slots i)) (filter_map f slots)
within-removed f zero [] = nothing []
within-removed f (suc i) [] = nothing []
within-removed f zero (s ∷ slots) = within-option (f s) (filter_map f slots)
within-removed f (suc i) (s ∷ slots) = within-cons (f s) (within-removed f i slots)

-- each slot is changed
pub entries-mapped : (f : List ℕ × Slot → Option (List ℕ × ℕ)) (g : List ℕ × Slot → List ℕ × Slot) → ((s : List ℕ × Slot) → f (g s) ≡ f s)
    → (slots : List (List ℕ × Slot)) → filter_map f (map g slots) ≡ filter_map f slots
entries-mapped f g is [] = refl
entries-mapped f g is (s ∷ slots) = ap₂ cons_option (is s) (entries-mapped f g is slots)

-- weak links that are emptied leave children and kids, and links that are pointed leave children
pub child-forgotten : (n : ℕ) (s : List ℕ × Slot) → child_entry (s.0, forgotten_in n s.1) ≡ child_entry s
child-forgotten n (name, plain v) = refl
child-forgotten n (name, child m) = refl
child-forgotten n (name, strong t target) = refl
child-forgotten n (name, weak t None) = refl
child-forgotten n (name, weak t (Some m)) = refl
child-forgotten n (name, alias m property) = refl

pub kid-forgotten : (n : ℕ) (s : List ℕ × Slot) → kid_entry (s.0, forgotten_in n s.1) ≡ kid_entry s
kid-forgotten n (name, plain v) = refl
kid-forgotten n (name, child m) = refl
kid-forgotten n (name, strong t target) = refl
kid-forgotten n (name, weak t None) = refl
kid-forgotten n (name, weak t (Some m)) = refl
kid-forgotten n (name, alias m property) = refl

pub child-pointed : (m : ℕ) (s : List ℕ × Slot) → child_entry (s.0, pointed m s.1) ≡ child_entry s
child-pointed m (name, plain v) = refl
child-pointed m (name, child k) = refl
child-pointed m (name, strong t target) = refl
child-pointed m (name, weak t target) = refl
child-pointed m (name, alias k property) = refl

pub child-fitted : (b : Board) (m : ℕ) (s : List ℕ × Slot) → child_entry (s.0, fitted b m s.1) ≡ child_entry s
child-fitted b m (name, plain v) = refl
child-fitted b m (name, child k) = refl
child-fitted b m (name, strong t None) = refl
child-fitted b m (name, strong t (Some k)) = refl
child-fitted b m (name, weak t None) = refl
child-fitted b m (name, weak t (Some k)) = refl
child-fitted b m (name, alias k property) = refl
