-- What a release leaves of the objects that are still there: their slots, but for the weak links to those that went.
use Rattle.std.proofs.Common.{◌≡◌, refl, ap, sym, ◌∙◌, ℕ, Bool, true, false, not, ◌&&◌, ◌==◌, cond, List, [], ◌∷◌, ◌++◌, map, filter, find, append_assoc, subst, Option, Some, None, is_some}
use Rattle.qo_model.proofs.Common.{AllByRecursion, Board, Record, Slot, plain, child, strong, weak, alias, is_live, slot_at, SparesLaw, edited, with_dropped, drop_slot, next_index, forgotten_in, forgotten, finish, finalize, KeepsRelease, SeesOnly, WeakLinksLive, seen_in, thinned}
use Rattle.std.proofs.lemmas.Bool.{eq-eqb}
use Rattle.qo_model.specs.Board.{referent}
use Rattle.qo_model.proofs.ReleaseInductionLemmas.{release_keeps}
use Rattle.qo_model.proofs.StepLemmas.{drop-live, finish-live}

-- lists
module _ {X Y : Type 0} where
  map-same : (f g : X → Y) → ((x : X) → f x ≡ g x) → (xs : List X) → map f xs ≡ map g xs
  map-same f g same [] = refl
  map-same f g same (x ∷ xs) = λ j. same x j ∷ map-same f g same xs j

module _ {X : Type 0} where
  map-map : (f g : X → X) (xs : List X) → map f (map g xs) ≡ map (λ x. f (g x)) xs
  map-map f g [] = refl
  map-map f g (x ∷ xs) = ap (λ (l : List X). f (g x) ∷ l) (map-map f g xs)

  map-swap : (f g : X → X) → ((x : X) → f (g x) ≡ g (f x)) → (xs : List X) → map f (map g xs) ≡ map g (map f xs)
  map-swap f g same xs = map-map f g xs ∙ map-same (λ x. f (g x)) (λ x. g (f x)) same xs ∙ sym (map-map g f xs)

  pub filter-map : (p : X → Bool) (f : X → X) → ((x : X) → p (f x) ≡ p x) → (xs : List X) → filter p (map f xs) ≡ map f (filter p xs)
  filter-map p f same [] = refl
  filter-map p f same (x ∷ xs) = go (p x) refl (filter-map p f same xs)
    where
      go : (t : Bool) → p x ≡ t → filter p (map f xs) ≡ map f (filter p xs) → filter p (map f (x ∷ xs)) ≡ map f (filter p (x ∷ xs))
      go true q rest = rw (same x ∙ q, q) (ap (λ (l : List X). f x ∷ l) rest)
      go false q rest = rw (same x ∙ q, q) rest

  map-where : (p : X → Bool) (f g : X → X) → ((x : X) → p x ≡ true → f x ≡ g x) → (xs : List X) → map f (filter p xs) ≡ map g (filter p xs)
  map-where p f g same [] = refl
  map-where p f g same (x ∷ xs) = go (p x) refl (map-where p f g same xs)
    where
      go : (t : Bool) → p x ≡ t → map f (filter p xs) ≡ map g (filter p xs) → map f (filter p (x ∷ xs)) ≡ map g (filter p (x ∷ xs))
      go true q rest = rw q (λ j. same x q j ∷ rest j)
      go false q rest = rw q rest

  filter-filter : (p q : X → Bool) (xs : List X) → filter p (filter q xs) ≡ filter (λ x. p x && q x) xs
  filter-filter p q [] = refl
  filter-filter p q (x ∷ xs) = go (p x) refl (q x) refl (filter-filter p q xs)
    where
      go : (s : Bool) → p x ≡ s → (t : Bool) → q x ≡ t → filter p (filter q xs) ≡ filter (λ y. p y && q y) xs
          → filter p (filter q (x ∷ xs)) ≡ filter (λ y. p y && q y) (x ∷ xs)
      go true a true b rest = rw (b, a) (ap (λ (l : List X). x ∷ l) rest)
      go true a false b rest = rw (b, a) rest
      go false a true b rest = rw (b, a) rest
      go false a false b rest = rw (b, a) rest

  filter-all : (p : X → Bool) (xs : List X) → AllByRecursion (λ x. p x ≡ true) xs → filter p xs ≡ xs
  filter-all p [] h = refl
  filter-all p (x ∷ xs) h = rw h.0 (ap (λ (l : List X). x ∷ l) (filter-all p xs h.1))

-- an object without its slots, where it is n, and where it is one of the work
abbrev blank_at : ℕ → Record → Record
blank_at n r = edited n (λ (x : Record). record x { slots = [] }) r

abbrev blank : List (ℕ × ℕ) → Record → Record
blank [] r = r
blank (p ∷ ps) r = blank_at p.0 (blank ps r)

blank_at-birth : (n : ℕ) (r : Record) → (blank_at n r).birth ≡ r.birth
blank_at-birth n r = go (r.birth == n)
  where
    go : (t : Bool) → (cond t (record r { slots = [] }) r).birth ≡ r.birth
    go true = refl
    go false = refl

blank-birth : (ps : List (ℕ × ℕ)) (r : Record) → (blank ps r).birth ≡ r.birth
blank-birth [] r = refl
blank-birth (p ∷ ps) r = blank_at-birth p.0 (blank ps r) ∙ blank-birth ps r

blank-here : (n : ℕ) (r : Record) → (r.birth == n) ≡ true → blank_at n r ≡ record r { slots = [] }
blank-here n r e = rw (edited, e) refl

blank-other : (n : ℕ) (r : Record) → (r.birth == n) ≡ false → blank_at n r ≡ r
blank-other n r e = rw (edited, e) refl

blank_at-swap : (n m : ℕ) (r : Record) → blank_at n (blank_at m r) ≡ blank_at m (blank_at n r)
blank_at-swap n m r = go (r.birth == n) refl (r.birth == m) refl
  where
    go : (s : Bool) → (r.birth == n) ≡ s → (t : Bool) → (r.birth == m) ≡ t → blank_at n (blank_at m r) ≡ blank_at m (blank_at n r)
    go true a true b =
        ap (blank_at n) (blank-here m r b) ∙ blank-here n (record r { slots = [] }) a
        ∙ sym (ap (blank_at m) (blank-here n r a) ∙ blank-here m (record r { slots = [] }) b)
    go true a false b =
        ap (blank_at n) (blank-other m r b) ∙ blank-here n r a ∙ sym (ap (blank_at m) (blank-here n r a) ∙ blank-other m (record r { slots = [] }) b)
    go false a true b =
        ap (blank_at n) (blank-here m r b) ∙ blank-other n (record r { slots = [] }) a ∙ sym (ap (blank_at m) (blank-other n r a) ∙ blank-here m r b)
    go false a false b = ap (blank_at n) (blank-other m r b) ∙ blank-other n r a ∙ sym (ap (blank_at m) (blank-other n r a) ∙ blank-other m r b)

blank-swap : (n : ℕ) (ps : List (ℕ × ℕ)) (r : Record) → blank_at n (blank ps r) ≡ blank ps (blank_at n r)
blank-swap n [] r = refl
blank-swap n (p ∷ ps) r = blank_at-swap n p.0 (blank ps r) ∙ ap (blank_at p.0) (blank-swap n ps r)

-- a slot let go of one that is blank shows nothing
blank-dropped : (n i : ℕ) (ps : List (ℕ × ℕ)) (r : Record) → blank_at n (blank ps (edited n (with_dropped i) r)) ≡ blank_at n (blank ps r)
blank-dropped n i ps r = blank-swap n ps (edited n (with_dropped i) r) ∙ ap (blank ps) (one (r.birth == n) refl) ∙ sym (blank-swap n ps r)
  where
    one : (t : Bool) → (r.birth == n) ≡ t → blank_at n (edited n (with_dropped i) r) ≡ blank_at n r
    one true e = rw (edited, e, e) refl
    one false e = rw (edited, e, e) refl

-- weak links to n emptied
forgotten-blank_at : (n m : ℕ) (r : Record) → forgotten n (blank_at m r) ≡ blank_at m (forgotten n r)
forgotten-blank_at n m r = go (r.birth == m) refl
  where
    go : (t : Bool) → (r.birth == m) ≡ t → forgotten n (blank_at m r) ≡ blank_at m (forgotten n r)
    go true e = ap (forgotten n) (blank-here m r e) ∙ sym (blank-here m (forgotten n r) e)
    go false e = ap (forgotten n) (blank-other m r e) ∙ sym (blank-other m (forgotten n r) e)

forgotten-blank : (n : ℕ) (ps : List (ℕ × ℕ)) (r : Record) → forgotten n (blank ps r) ≡ blank ps (forgotten n r)
forgotten-blank n [] r = refl
forgotten-blank n (p ∷ ps) r = forgotten-blank_at n p.0 (blank ps r) ∙ ap (blank_at p.0) (forgotten-blank n ps r)

forgotten-seen : (n : ℕ) (there : ℕ → Bool) (s : Slot) → forgotten_in n (seen_in there s) ≡ seen_in (λ x. not (x == n) && there x) s
forgotten-seen n there (plain v) = refl
forgotten-seen n there (child m) = refl
forgotten-seen n there (strong t target) = refl
forgotten-seen n there (weak t None) = refl
forgotten-seen n there (weak t (Some m)) = go (there m) refl (m == n) refl
  where
    go : (a : Bool) → there m ≡ a → (b : Bool) → (m == n) ≡ b
        → forgotten_in n (seen_in there (weak t (Some m))) ≡ seen_in (λ x. not (x == n) && there x) (weak t (Some m))
    go true p true q = rw (p, q) refl
    go true p false q = rw (p, q) refl
    go false p true q = rw (p, q) refl
    go false p false q = rw (p, q) refl
forgotten-seen n there (alias m property) = refl

forgotten-thinned : (n : ℕ) (there : ℕ → Bool) (r : Record) → forgotten n (thinned there r) ≡ thinned (λ x. not (x == n) && there x) r
forgotten-thinned n there r = ap (λ (slots : List (List ℕ × Slot)). record r { slots = slots }) (go r.slots)
  where
    go : (slots : List (List ℕ × Slot))
        → map {B = List ℕ × Slot} (λ (s : List ℕ × Slot). (s.0, forgotten_in n s.1)) (map {B = List ℕ × Slot} (λ (s : List ℕ × Slot). (s.0, seen_in there s.1)) slots)
        ≡ map {B = List ℕ × Slot} (λ (s : List ℕ × Slot). (s.0, seen_in (λ x. not (x == n) && there x) s.1)) slots
    go [] = refl
    go (s ∷ slots) = λ j. (s.0, forgotten-seen n there s.1 j) ∷ go slots j

-- where all weak links see what is there, none is emptied
seen-all : (there : ℕ → Bool) (s : Slot) → SeesOnly there s → seen_in there s ≡ s
seen-all there (plain v) h = refl
seen-all there (child m) h = refl
seen-all there (strong t target) h = refl
seen-all there (weak t None) h = refl
seen-all there (weak t (Some m)) h = rw (seen_in, h) refl
seen-all there (alias m property) h = refl

thinned-all : (there : ℕ → Bool) (rs : List Record)
    → AllByRecursion (λ (r : Record). AllByRecursion (λ (s : List ℕ × Slot). SeesOnly there s.1) r.slots) rs → map (thinned there) rs ≡ rs
thinned-all there [] h = refl
thinned-all there (r ∷ rs) h = λ j. record r { slots = go r.slots h.0 j } ∷ thinned-all there rs h.1 j
  where
    go : (slots : List (List ℕ × Slot)) → AllByRecursion (λ (s : List ℕ × Slot). SeesOnly there s.1) slots
        → map {B = List ℕ × Slot} (λ (s : List ℕ × Slot). (s.0, seen_in there s.1)) slots ≡ slots
    go [] k = refl
    go (s ∷ slots) k = λ j. (s.0, seen-all there s.1 k.0 j) ∷ go slots k.1 j

-- each object of a board is there
found-itself : (x : ℕ) (front : List Record) (r : Record) (rs : List Record) → (r.birth == x) ≡ true → is_some (find (λ (y : Record). y.birth == x) (front ++ r ∷ rs)) ≡ true
found-itself x [] r rs e = rw e refl
found-itself x (y ∷ front) r rs e = go (y.birth == x) refl (found-itself x front r rs e)
  where
    go : (t : Bool) → (y.birth == x) ≡ t → is_some (find (λ (z : Record). z.birth == x) (front ++ r ∷ rs)) ≡ true
        → is_some (find (λ (z : Record). z.birth == x) ((y ∷ front) ++ r ∷ rs)) ≡ true
    go true p rest = rw p refl
    go false p rest = rw p rest

all-there : (front rs : List Record) → AllByRecursion (λ (r : Record). is_some (find (λ (y : Record). y.birth == r.birth) (front ++ rs)) ≡ true) rs
all-there front [] = tt
all-there front (r ∷ rs) = (
  found-itself r.birth front r rs (eq-eqb r.birth r.birth refl),
  subst (λ (l : List Record). AllByRecursion (λ (x : Record). is_some (find (λ (y : Record). y.birth == x.birth) l) ≡ true) rs)
      (append_assoc front (r ∷ []) rs) (all-there (front ++ r ∷ []) rs),
)

-- the invariant of a release: outside the work the objects are those of before that are there, without the weak links to those that went
module _ (before : List Record) where
  abbrev spared : (ℕ → Bool) → List Record
  spared there = map (thinned there) (filter (λ (r : Record). there r.birth) before)

  abbrev Spares : List (ℕ × ℕ) → Board → Type 0
  Spares work c = map (blank work) c.records ≡ map (blank work) (map (thinned (is_live c)) (filter (λ (r : Record). is_live c r.birth) before))

  dropped-step : (c : Board) (n i j : ℕ) (ps : List (ℕ × ℕ)) → Spares ((n, i) ∷ ps) c → Spares ((n, j) ∷ ps) (drop_slot c n i)
  unfolding drop_slot
  dropped-step c n i j ps h =
      let there : is_live (drop_slot c n i) ≡ is_live c = λ k x. drop-live c n i x k in
      map-map (blank ((n, j) ∷ ps)) (edited n (with_dropped i)) c.records
      ∙ map-same (λ r. blank_at n (blank ps (edited n (with_dropped i) r))) (λ r. blank_at n (blank ps r)) (blank-dropped n i ps) c.records
      ∙ h
      ∙ ap (λ (t : ℕ → Bool). map (blank ((n, j) ∷ ps)) (spared t)) (sym there)

  freed-step : (c : Board) (m : ℕ) (ps : List (ℕ × ℕ)) → Spares ps c → Spares ((m, 0) ∷ ps) c
  freed-step c m ps h = sym (map-map (blank_at m) (blank ps) c.records) ∙ ap (map (blank_at m)) h ∙ map-map (blank_at m) (blank ps) (spared (is_live c))

  ended-step : (c : Board) (n i : ℕ) (ps : List (ℕ × ℕ)) → Spares ((n, i) ∷ ps) c → Spares ps (finish c n)
  unfolding finish
  ended-step c n i ps h =
      let there : is_live (finish c n) ≡ (λ x. not (x == n) && is_live c x) = λ k x. finish-live c n x k in
      sym (map-swap (forgotten n) (blank ps) (forgotten-blank n ps) (filter other c.records))
      ∙ ap (map (forgotten n)) (apart-of c.records ∙ ap (filter other) h ∙ sym (apart-of (spared (is_live c))))
      ∙ map-swap (forgotten n) (blank ps) (forgotten-blank n ps) (filter other (spared (is_live c)))
      ∙ ap (map (blank ps)) (thin-again (is_live c))
      ∙ ap (λ (t : ℕ → Bool). map (blank ps) (spared t)) (sym there)
    where
      other : Record → Bool
      other r = not (r.birth == n)

      apart-of : (rs : List Record) → map (blank ps) (filter other rs) ≡ filter other (map (blank ((n, i) ∷ ps)) rs)
      apart-of rs =
          map-where other (blank ps) (blank ((n, i) ∷ ps)) differs rs
          ∙ sym (filter-map other (blank ((n, i) ∷ ps)) (λ r. ap (λ (x : ℕ). not (x == n)) (blank-birth ((n, i) ∷ ps) r)) rs)
        where
          differs : (r : Record) → other r ≡ true → blank ps r ≡ blank_at n (blank ps r)
          differs r e = go (r.birth == n) refl
            where
              go : (t : Bool) → (r.birth == n) ≡ t → blank ps r ≡ blank_at n (blank ps r)
              go true p = absurd (let clash : false ≡ true = ap not (sym p) ∙ e in cc)
              go false p = let same : ((blank ps r).birth == n) ≡ false = ap (λ (x : ℕ). x == n) (blank-birth ps r) ∙ p in rw (edited, same) refl

      thin-again : (l : ℕ → Bool) → map (forgotten n) (filter other (spared l)) ≡ spared (λ x. not (x == n) && l x)
      thin-again l =
          ap (map (forgotten n)) (filter-map other (thinned l) (λ r. refl) (filter (λ (r : Record). l r.birth) before))
          ∙ map-map (forgotten n) (thinned l) (filter other (filter (λ (r : Record). l r.birth) before))
          ∙ map-same (λ r. forgotten n (thinned l r)) (thinned (λ x. not (x == n) && l x)) (forgotten-thinned n l)
          (filter other (filter (λ (r : Record). l r.birth) before))
          ∙ ap (map (thinned (λ x. not (x == n) && l x))) (filter-filter other (λ (r : Record). l r.birth) before)

  spares-keep : KeepsRelease Spares
  spares-keep =
      record {
        ended = λ c n i ps h e. ended-step c n i ps h;
        freed = λ c n i ps s m h e q free. freed-step (drop_slot c n i) m ((n, next_index s i) ∷ ps) (dropped-step c n i (next_index s i) ps h);
        kept = λ c n i ps s h e held_on. dropped-step c n i (next_index s i) ps h;
      }

map-none : (rs : List Record) → map (blank []) rs ≡ rs
map-none [] = refl
map-none (r ∷ rs) = ap (λ (l : List Record). r ∷ l) (map-none rs)

pub spares_lem : SparesLaw
spares_lem b n live =
    let first : b.records ≡ map (thinned (is_live b)) (filter (λ (r : Record). is_live b r.birth) b.records) =
    sym (ap (map (thinned (is_live b))) (filter-all (λ (r : Record). is_live b r.birth) b.records (all-there [] b.records))
    ∙ thinned-all (is_live b) b.records live) in
    sym (map-none (finalize b n).records)
    ∙ release_keeps (Spares b.records) (spares-keep b.records) b n [] (ap (map (blank ((n, 0) ∷ []))) first)
    ∙ map-none (map (thinned (is_live (finalize b n))) (filter (λ (r : Record). is_live (finalize b n) r.birth) b.records))
