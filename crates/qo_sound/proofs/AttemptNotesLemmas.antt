-- An attempt that was given up, or cut, keeps the notes of a board in order: each object that it made has its story, which is over.
use Rattle.std.proofs.Common.{◌≡◌, refl, ap, ap₂, sym, subst, ◌∙◌, ℕ, zero, suc, ◌+◌, ◌<◌, ◌≤◌, leb, Bool, true, false, ◌==◌, ◌||◌, if◌then◌else◌, List, [], ◌∷◌, ◌++◌, map, filter, take, drop, length, None, append-nil, arith}
use Rattle.qo_model.proofs.Common.{AllByRecursion, list_any, Act, Init, Realize, Unrealize, Enter, Hold, Exit, TypeId, Board, is_live, ending, is_bound, IsBorn, NotesInOrder, Story, deed_type, init_notes, begun_notes, born_from, bus_births, cut_attempt, cut_order, device_last, did, ended_notes, is_bus, passed_notes, plug_attempt, types_in, with_ended, notes_on, count, finals, inits}
use Rattle.qo_model.specs.declared.notes.Deed.{Deed}
use Rattle.qo_model.specs.declared.notes.Deed.TheVariants.{Did, Final}
use Rattle.qo_model.specs.declared.notes.Note.{Note}
use Rattle.std.specs.List.{flat_map}
use Rattle.std.proofs.lemmas.Bool.{eqb-true, eq-eqb}
use Rattle.std.proofs.lemmas.List.{take-append-drop}
use Rattle.std.proofs.lemmas.List.Elements.{filter-append}
use Rattle.std.proofs.lemmas.List.Folds.{list_any-append}
use Rattle.qo_model.proofs.DraftEndsLemmas.{born-length}
use Rattle.qo_model.proofs.FinalNotesLemmas.{live-of-kind, story-same}
use Rattle.qo_sound.proofs.RecordLemmas.{all-append}

-- whether an object is that of a birth
abbrev is_at : ℕ → ℕ × TypeId → Bool
is_at x o = o.0 == x

-- which of the objects of rising births have a birth

picked-below : (n : ℕ) (ts : List TypeId) (x : ℕ) → x < n → filter (is_at x) (born_from n ts) ≡ []
picked-below n [] x low = refl
picked-below n (t ∷ ts) x low = let apart : (n == x) ≡ false = grind (arith, low) in rw apart (picked-below (suc n) ts x (omega (arith, low)))

picked-above : (n : ℕ) (ts : List TypeId) (x : ℕ) → n + length ts ≤ x → filter (is_at x) (born_from n ts) ≡ []
picked-above n [] x high = refl
picked-above n (t ∷ ts) x high =
    let differ : n < x = omega (arith, high) in
    let apart : (n == x) ≡ false = grind (arith, differ) in
    rw apart (picked-above (suc n) ts x (omega (arith, high)))

picked-one : (n : ℕ) (ts : List TypeId) (x : ℕ) → n ≤ x → x < n + length ts → (t : TypeId) × (filter (is_at x) (born_from n ts) ≡ (x, t) ∷ [])
picked-one n [] x low high = absurd (omega (arith, low, high))
picked-one n (t ∷ ts) x low high = go (n == x) refl (picked-one (suc n) ts x)
  where
    go : (u : Bool) → (n == x) ≡ u → (suc n ≤ x → x < suc n + length ts → (k : TypeId) × (filter (is_at x) (born_from (suc n) ts) ≡ (x, k) ∷ []))
        → (k : TypeId) × (filter (is_at x) (born_from n (t ∷ ts)) ≡ (x, k) ∷ [])
    go true p rest =
        let is : n ≡ x = eqb-true n x p in
        (t, rw p (ap₂ (λ (k : ℕ) (os : List (ℕ × TypeId)). (k, t) ∷ os) is (picked-below (suc n) ts x (omega (arith, is)))))
    go false p rest =
        let apart : (n == x) ≡ false = p in
        let up : suc n ≤ x = grind (arith, low, apart) in
        let (k, e) = rest up (omega (arith, high)) in
        (k, rw p e)

picked-few : (n : ℕ) (ts : List TypeId) (x : ℕ) → length (filter (is_at x) (born_from n ts)) ≤ 1
picked-few n [] x = omega arith
picked-few n (t ∷ ts) x = go (n == x) refl (picked-few (suc n) ts x)
  where
    go : (u : Bool) → (n == x) ≡ u → length (filter (is_at x) (born_from (suc n) ts)) ≤ 1 → length (filter (is_at x) (born_from n (t ∷ ts))) ≤ 1
    go true p rest =
        let is : n ≡ x = eqb-true n x p in
        let none : length (filter (is_at x) (born_from (suc n) ts)) ≡ 0 = ap length (picked-below (suc n) ts x (omega (arith, is))) in
        rw p (omega (arith, none))
    go false p rest = rw p rest

-- another order of the same objects

turned : (us vs : List (ℕ × TypeId)) → length (us ++ vs) ≤ 1 → vs ++ us ≡ us ++ vs
turned [] vs few = append-nil vs
turned (u ∷ []) [] few = refl
turned (u ∷ []) (v ∷ vs) few = absurd (omega (arith, few))
turned (u ∷ w ∷ us) vs few = absurd (omega (arith, few))

picked-turned : (x : ℕ) (us vs : List (ℕ × TypeId)) → length (filter (is_at x) (us ++ vs)) ≤ 1 → filter (is_at x) (vs ++ us) ≡ filter (is_at x) (us ++ vs)
picked-turned x us vs few =
    let both : filter (is_at x) (us ++ vs) ≡ filter (is_at x) us ++ filter (is_at x) vs = filter-append (is_at x) us vs in
    filter-append (is_at x) vs us ∙ turned (filter (is_at x) us) (filter (is_at x) vs) (subst (λ (os : List (ℕ × TypeId)). length os ≤ 1) both few) ∙ sym both

last-picked : (n : ℕ) (ts : List TypeId) (x : ℕ) → filter (is_at x) (device_last (born_from n ts)) ≡ filter (is_at x) (born_from n ts)
last-picked n [] x = refl
last-picked n (t ∷ ts) x = picked-turned x ((n, t) ∷ []) (born_from (suc n) ts) (picked-few n (t ∷ ts) x)

take-born : (i n : ℕ) (ts : List TypeId) → take i (born_from n ts) ≡ born_from n (take i ts)
take-born zero n ts = refl
take-born (suc i) n [] = refl
take-born (suc i) n (t ∷ ts) = ap (λ (os : List (ℕ × TypeId)). (n, t) ∷ os) (take-born i (suc n) ts)

order-picked : (joined : Bool) (i n : ℕ) (ts : List TypeId) (x : ℕ) → length ts ≤ i
    → filter (is_at x) (cut_order joined i (born_from n ts)) ≡ filter (is_at x) (born_from n ts)
order-picked true i n ts x le = last-picked n ts x
order-picked false zero n [] x le = refl
order-picked false zero n (t ∷ ts) x le = absurd (omega (arith, le))
order-picked false (suc i) n ts x le =
    let os : List (ℕ × TypeId) = born_from n ts in
    let front : filter (is_at x) (device_last (take i os)) ≡ filter (is_at x) (take i os) =
    ap (λ (us : List (ℕ × TypeId)). filter (is_at x) (device_last us)) (take-born i n ts)
    ∙ last-picked n (take i ts) x
    ∙ ap (filter (is_at x)) (sym (take-born i n ts))
    in
    let few : length (filter (is_at x) (take i os ++ drop i os)) ≤ 1 =
    subst (λ (us : List (ℕ × TypeId)). length (filter (is_at x) us) ≤ 1) (sym (take-append-drop i os)) (picked-few n ts x)
    in
    filter-append (is_at x) (drop i os) (device_last (take i os))
    ∙ ap (λ (us : List (ℕ × TypeId)). filter (is_at x) (drop i os) ++ us) front
    ∙ sym (filter-append (is_at x) (drop i os) (take i os))
    ∙ picked-turned x (take i os) (drop i os) few
    ∙ ap (filter (is_at x)) (take-append-drop i os)

-- notes of objects, each on its own

pub noted-own : (m : ℕ) (deed : TypeId → Deed) (ts : List TypeId)
    → notes_on m (map (λ (t : TypeId). record { birth = m; deed = deed t }) ts) ≡ map (λ (t : TypeId). record { birth = m; deed = deed t }) ts
noted-own m deed [] = refl
noted-own m deed (t ∷ ts) = rw (eq-eqb m m refl) (ap (λ (xs : List Note). record { birth = m; deed = deed t } ∷ xs) (noted-own m deed ts))

pub noted-other : (m x : ℕ) → (m == x) ≡ false → (deed : TypeId → Deed) (ts : List TypeId)
    → notes_on x (map (λ (t : TypeId). record { birth = m; deed = deed t }) ts) ≡ []
noted-other m x e deed [] = refl
noted-other m x e deed (t ∷ ts) = rw e (noted-other m x e deed ts)

module _ (f : ℕ → TypeId → List Note) (own : (m : ℕ) (t : TypeId) → notes_on m (f m t) ≡ f m t)
    (other : (m x : ℕ) (t : TypeId) → (m == x) ≡ false → notes_on x (f m t) ≡ []) where
  notes-picked : (os : List (ℕ × TypeId)) (x : ℕ)
      → notes_on x (flat_map (λ (o : ℕ × TypeId). f o.0 o.1) os) ≡ flat_map (λ (o : ℕ × TypeId). f o.0 o.1) (filter (is_at x) os)
  notes-picked [] x = refl
  notes-picked (o ∷ os) x =
      filter-append (λ (y : Note). y.birth == x) (f o.0 o.1) (flat_map (λ (p : ℕ × TypeId). f p.0 p.1) os)
      ∙ go (o.0 == x) refl (notes-picked os x)
    where
      rest : List Note
      rest = flat_map (λ (p : ℕ × TypeId). f p.0 p.1) os

      go : (u : Bool) → (o.0 == x) ≡ u → notes_on x rest ≡ flat_map (λ (p : ℕ × TypeId). f p.0 p.1) (filter (is_at x) os)
          → notes_on x (f o.0 o.1) ++ notes_on x rest ≡ flat_map (λ (p : ℕ × TypeId). f p.0 p.1) (filter (is_at x) (o ∷ os))
      go true p same =
          let is : o.0 ≡ x = eqb-true o.0 x p in
          let here : notes_on x (f o.0 o.1) ≡ f o.0 o.1 = ap (λ (k : ℕ). notes_on k (f o.0 o.1)) (sym is) ∙ own o.0 o.1 in
          rw p (ap₂ (λ (us vs : List Note). us ++ vs) here same)
      go false p same = rw p (ap₂ (λ (us vs : List Note). us ++ vs) (other o.0 x o.1 p) same)

begun-picked : (os : List (ℕ × TypeId)) (x : ℕ) → notes_on x (begun_notes os) ≡ begun_notes (filter (is_at x) os)
begun-picked os x = notes-picked init_notes (λ m t. noted-own m (λ k. Did (Init k)) (inits t)) (λ m y t e. noted-other m y e (λ k. Did (Init k)) (inits t)) os x

ended-picked : (os : List (ℕ × TypeId)) (x : ℕ) → notes_on x (ended_notes os) ≡ ended_notes (filter (is_at x) os)
ended-picked os x = notes-picked ending (λ m t. noted-own m Final (finals t)) (λ m y t e. noted-other m y e Final (finals t)) os x

-- what was noted between is on these objects, and neither begins nor ends them
record Between (b : Board) (ts : List TypeId) (passed : List Note) : Type 0 where
  neither : list_any is_bound passed ≡ false
  only : (x : ℕ) → ((b.born < x) × (x ≤ b.born + length ts) → ⊥) → notes_on x passed ≡ []

none-on : (x : ℕ) (notes : List Note) → list_any is_bound notes ≡ false → list_any is_bound (notes_on x notes) ≡ false
none-on x [] e = refl
none-on x (y ∷ ys) e = go (y.birth == x) refl (is_bound y) refl (none-on x ys)
  where
    go : (u : Bool) → (y.birth == x) ≡ u → (v : Bool) → is_bound y ≡ v → (list_any is_bound ys ≡ false → list_any is_bound (notes_on x ys) ≡ false)
        → list_any is_bound (notes_on x (y ∷ ys)) ≡ false
    go u p true q rest = absurd (let clash : true ≡ false = rw q at e in cc)
    go true p false q rest = rw p (rw q (rest (rw q at e)))
    go false p false q rest = rw p (rest (rw q at e))

module _ (b : Board) (ts : List TypeId) (passed : List Note) (ended : List (ℕ × TypeId)) (o : NotesInOrder b) (between : Between b ts passed)
    (all_end : (x : ℕ) → filter (is_at x) ended ≡ filter (is_at x) (born_from (suc b.born) ts)) where
  abbrev os : List (ℕ × TypeId)
  os = born_from (suc b.born) ts

  abbrev c : Board
  c = with_ended b os passed ended

  size : length os ≡ length ts
  size = born-length (suc b.born) ts

  on-all : (x : ℕ) → notes_on x c.notes ≡ notes_on x b.notes ++ begun_notes (filter (is_at x) os) ++ notes_on x passed ++ ended_notes (filter (is_at x) os)
  on-all x =
      filter-append (λ (y : Note). y.birth == x) (b.notes ++ begun_notes os ++ passed) (ended_notes ended)
      ∙ ap₂ (λ (us vs : List Note). us ++ vs)
      (filter-append (λ (y : Note). y.birth == x) (b.notes ++ begun_notes os) passed
      ∙ ap (λ (us : List Note). us ++ notes_on x passed)
      (filter-append (λ (y : Note). y.birth == x) b.notes (begun_notes os) ∙ ap (λ (us : List Note). notes_on x b.notes ++ us) (begun-picked os x)))
      (ended-picked ended x ∙ ap ended_notes (all_end x))

  -- nothing was noted of another
  on-other : (x : ℕ) → ((b.born < x) × (x ≤ b.born + length ts) → ⊥) → filter (is_at x) os ≡ [] → notes_on x c.notes ≡ notes_on x b.notes
  on-other x apart none =
      on-all x
      ∙ ap₂ (λ (us : List (ℕ × TypeId)) (vs : List Note). notes_on x b.notes ++ begun_notes us ++ vs ++ ended_notes us) none (between.only x apart)
      ∙ append-nil (notes_on x b.notes ++ [] ++ [])
      ∙ append-nil (notes_on x b.notes ++ [])
      ∙ append-nil (notes_on x b.notes)

  on-old : (x : ℕ) → x ≤ b.born → notes_on x c.notes ≡ notes_on x b.notes
  on-old x low = on-other x (λ new. let high : b.born < x = new.0 in absurd (omega (arith, low, high))) (picked-below (suc b.born) ts x (omega (arith, low)))

  on-later : (x : ℕ) → b.born + length ts < x → notes_on x c.notes ≡ notes_on x b.notes
  on-later x high =
      on-other x (λ new. let most : x ≤ b.born + length ts = new.1 in absurd (omega (arith, high, most)))
      (picked-above (suc b.born) ts x (omega (arith, high)))

  -- an object that was made has its story
  told : (x : ℕ) → b.born < x → x ≤ b.born + length ts → (t : TypeId) × Story x t true c.notes
  told x low high =
      let (t, e) = picked-one (suc b.born) ts x (omega (arith, low)) (omega (arith, high)) in
      let opened : 8 ≤ b.born = o.opened in
      let later : leb x 8 ≡ false = grind (arith, low, opened) in
      let unborn : notes_on x b.notes ≡ [] = o.unborn x (λ born. let most : x ≤ b.born = born.1 in absurd (omega (arith, low, most))) in (
        t,
        record {
          between = notes_on x passed;
          neither = none-on x passed between.neither;
          in_order =
              on-all x
              ∙ ap₂ (λ (us : List Note) (vs : List (ℕ × TypeId)). us ++ begun_notes vs ++ notes_on x passed ++ ended_notes vs) unborn e
              ∙ ap₂ (λ (us vs : List Note). us ++ notes_on x passed ++ vs) (append-nil (init_notes x t)) (append-nil (ending x t))
              ∙ ap (λ (u : Bool). (if u then [] else init_notes x t) ++ notes_on x passed ++ ending x t) (sym later);
        },
      )

  ended-keeps : NotesInOrder c
  ended-keeps =
      record {
        opened = let few : 8 ≤ b.born = o.opened in omega (arith, few);
        counted = λ n e. let old : IsBorn b n = o.counted n e in (old.0, omega (arith, old.1));
        unborn = λ n k. unborn n k (leb n b.born) refl;
        living = λ n t e.
            let born : IsBorn b n = o.counted n (live-of-kind b n t e) in
            story-same n t false c.notes b.notes (on-old n born.1) (o.living n t e);
        gone = λ n born e. gone n born e (leb n b.born) refl;
      }
    where
      unborn : (n : ℕ) → ¬ (IsBorn c n) → (u : Bool) → leb n b.born ≡ u → notes_on n c.notes ≡ []
      unborn n k true p =
          let low : n ≤ b.born = grind (arith, p) in
          on-old n low ∙ o.unborn n (λ born. k (born.0, omega (arith, low)))
      unborn n k false p = later (leb n (b.born + length ts)) refl
        where
          high : b.born < n
          high = grind (arith, p)

          later : (v : Bool) → leb n (b.born + length ts) ≡ v → notes_on n c.notes ≡ []
          later true q = let most : n ≤ b.born + length ts = grind (arith, q) in absurd (k (omega (arith, high), omega (arith, most, size)))
          later false q =
              let past : b.born + length ts < n = grind (arith, q) in
              on-later n past ∙ o.unborn n (λ born. let most : n ≤ b.born = born.1 in absurd (omega (arith, high, most)))

      gone : (n : ℕ) → IsBorn c n → is_live c n ≡ false → (u : Bool) → leb n b.born ≡ u → (t : TypeId) × Story n t true c.notes
      gone n born e true p =
          let low : n ≤ b.born = grind (arith, p) in
          let old : (t : TypeId) × Story n t true b.notes = o.gone n (born.0, low) e in
          (old.0, story-same n old.0 true c.notes b.notes (on-old n low) old.1)
      gone n born e false p =
          let high : b.born < n = grind (arith, p) in
          let most : n ≤ b.born + length os = born.1 in
          told n high (omega (arith, most, size))

-- notes of acts

nothing-between : (b : Board) (ts : List TypeId) → Between b ts []
nothing-between b ts = record { neither = refl; only = λ x apart. refl }

acts-unbound : (act : Act) → deed_type (Did act) ≡ None → (ms : List ℕ) → list_any is_bound (map (did act) ms) ≡ false
acts-unbound act plain [] = refl
acts-unbound act plain (m ∷ ms) = rw (is_bound, plain) (acts-unbound act plain ms)

acts-other : (act : Act) (x : ℕ) (ms : List ℕ) → AllByRecursion (λ m. (m == x) ≡ false) ms → notes_on x (map (did act) ms) ≡ []
acts-other act x [] h = refl
acts-other act x (m ∷ ms) h = rw h.0 (acts-other act x ms h.1)

between-acts : (b : Board) (ts : List TypeId) (act : Act) (ms : List ℕ) → deed_type (Did act) ≡ None
    → AllByRecursion (λ m. (b.born < m) × (m ≤ b.born + length ts)) ms → Between b ts (map (did act) ms)
between-acts b ts act ms plain within = record { neither = acts-unbound act plain ms; only = λ x apart. acts-other act x ms (others x apart ms within) }
  where
    others : (x : ℕ) → ((b.born < x) × (x ≤ b.born + length ts) → ⊥) → (ns : List ℕ)
        → AllByRecursion (λ m. (b.born < m) × (m ≤ b.born + length ts)) ns → AllByRecursion (λ m. (m == x) ≡ false) ns
    others x apart [] h = tt
    others x apart (n ∷ ns) h = (go (n == x) refl, others x apart ns h.1)
      where
        go : (u : Bool) → (n == x) ≡ u → (n == x) ≡ false
        go true p = absurd (apart (subst (λ (k : ℕ). (b.born < k) × (k ≤ b.born + length ts)) (eqb-true n x p) h.0))
        go false p = p

between-both : (b : Board) (ts : List TypeId) (us vs : List Note) → Between b ts us → Between b ts vs → Between b ts (us ++ vs)
between-both b ts us vs h k =
    record {
      neither = list_any-append is_bound us vs ∙ ap₂ (λ (x y : Bool). x || y) h.neither k.neither;
      only = λ x apart. filter-append (λ (y : Note). y.birth == x) us vs ∙ ap₂ (λ (xs ys : List Note). xs ++ ys) (h.only x apart) (k.only x apart);
    }

-- the births of the objects that are buses, among those of the objects
pub buses-within : (low n : ℕ) (ts : List TypeId) (high : ℕ) → low < n → n + length ts ≤ suc high
    → AllByRecursion (λ m. (low < m) × (m ≤ high)) (map (λ (o : ℕ × TypeId). o.0) (filter is_bus (born_from n ts)))
buses-within low n [] high above below = tt
buses-within low n (t ∷ ts) high above below = go (is_bus (n, t)) refl (buses-within low (suc n) ts high (omega (arith, above)) (omega (arith, below)))
  where
    go : (u : Bool) → is_bus (n, t) ≡ u → AllByRecursion (λ m. (low < m) × (m ≤ high)) (map (λ (o : ℕ × TypeId). o.0) (filter is_bus (born_from (suc n) ts)))
        → AllByRecursion (λ m. (low < m) × (m ≤ high)) (map (λ (o : ℕ × TypeId). o.0) (filter is_bus (born_from n (t ∷ ts))))
    go true e rest = rw e ((above, omega (arith, below)), rest)
    go false e rest = rw e rest

module _ (b : Board) (bus : ℕ) (t : TypeId) where
  abbrev n : ℕ
  n = suc b.born

  abbrev buses : List ℕ
  buses = bus_births n t

  abbrev IsOwn : ℕ → Type 0
  IsOwn m = (b.born < m) × (m ≤ b.born + length (types_in t))

  own : IsOwn n
  own = (omega arith, omega arith)

  within : AllByRecursion IsOwn buses
  within = buses-within b.born n (types_in t) (b.born + length (types_in t)) (omega arith) (omega arith)

  last : AllByRecursion IsOwn (buses ++ n ∷ [])
  last = all-append IsOwn buses (n ∷ []) within (own, tt)

  exits : AllByRecursion IsOwn (if count b bus == 0 then buses ++ n ∷ [] else [])
  exits = go (count b bus == 0) refl
    where
      go : (u : Bool) → (count b bus == 0) ≡ u → AllByRecursion IsOwn (if count b bus == 0 then buses ++ n ∷ [] else [])
      go true e = rw e last
      go false e = rw e tt

  both : (us vs : List Note) → Between b (types_in t) us → Between b (types_in t) vs → Between b (types_in t) (us ++ vs)
  both = between-both b (types_in t)

  acts : (act : Act) (ms : List ℕ) → deed_type (Did act) ≡ None → AllByRecursion IsOwn ms → Between b (types_in t) (map (did act) ms)
  acts = between-acts b (types_in t)

  passed-between : Between b (types_in t) (passed_notes b bus n t)
  passed-between =
      both _ _
      (both _ _
      (both _ _
      (both _ _ (acts Realize (n ∷ buses) refl (own, within)) (acts Enter (buses ++ n ∷ []) refl last))
      (acts Hold (buses ++ n ∷ []) refl last))
      (acts Exit (if count b bus == 0 then buses ++ n ∷ [] else []) refl exits))
      (acts Unrealize (buses ++ n ∷ []) refl last)

-- attempts

pub plug_attempt-keeps : (b : Board) (t : TypeId) (bus stage : ℕ) → NotesInOrder b → NotesInOrder (plug_attempt b t bus stage)
plug_attempt-keeps b t bus stage o =
    ended-keeps b (types_in t) (if stage == 8 then passed_notes b bus (suc b.born) t else []) (device_last (born_from (suc b.born) (types_in t))) o
    (between (stage == 8)) (last-picked (suc b.born) (types_in t))
  where
    between : (u : Bool) → Between b (types_in t) (if u then passed_notes b bus (suc b.born) t else [])
    between true = passed-between b bus t
    between false = nothing-between b (types_in t)

take-short : (i : ℕ) (ts : List TypeId) → length (take i ts) ≤ i
take-short zero ts = omega arith
take-short (suc i) [] = omega arith
take-short (suc i) (t ∷ ts) = omega (arith, take-short i ts)

pub cut_attempt-keeps : (b : Board) (t : TypeId) (i : ℕ) (joined : Bool) → NotesInOrder b → NotesInOrder (cut_attempt b t i joined)
cut_attempt-keeps b t i joined o =
    subst (λ (os : List (ℕ × TypeId)). NotesInOrder (with_ended b os [] (cut_order joined i os))) (sym (take-born i (suc b.born) (types_in t)))
    (ended-keeps b ts [] (cut_order joined i (born_from (suc b.born) ts)) o (nothing-between b ts)
    (λ x. order-picked joined i (suc b.born) ts x (take-short i (types_in t))))
  where
    ts : List TypeId
    ts = take i (types_in t)
