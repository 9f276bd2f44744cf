-- What keeps who was there, but for slots.
use Rattle.std.proofs.Common.{◌≡◌, ◌⊎◌, inl, inr, refl, ap, sym, subst, ◌∙◌, ℕ, ◌+◌, ◌<◌, ◌≤◌, Bool, true, false, eqb, List, [], ◌∷◌, ◌++◌, Option, Some, None, option_map, IsSome, IsSomeAnd, IfSome, arith}
use Rattle.std.specs.Prelude.{Result, Ok, Err, OnOk, OnErr}
use Rattle.std.proofs.lemmas.Bool.{eqb-true}
use Rattle.qo_kinds.specs.Bodies.{IsTimely}
use Rattle.qo_slots.specs.declared.keys.Key.{Key}
use Rattle.qo_heap.specs.Log.{noted_all}
use Rattle.qo_heap.specs.Rows.{IsLive, Rises, births, row_at}
use Rattle.qo_heap.proofs.RowsLemmas.{rises-up}
use Rattle.qo_life.specs.Life.{init_notes}
use Rattle.qo_object.specs.Content.{Content}
use Rattle.qo_heap.specs.Book.{IsBook}
use Rattle.qo_heap.specs.Objects.{IsHeap, Objects, content_of, with_edit}
use Rattle.qo_heap.proofs.HeapLemmas.{live-edit}
use Rattle.qo_heap.proofs.BoardObjects.{content-edited, content-other}
use Rattle.qo_properties.specs.Additions.{with_newest}
use Rattle.qo_properties.proofs.AddLemmas.{newest-keeps}
use Rattle.qo_properties.specs.KeptClaims.{Kept, KeptOrNew, all_kept, kept_with, new_kept}
use Rattle.qo_properties.proofs.AddKept.{more-kept}
use Rattle.qo_properties.proofs.ClaimLemmas.{edit-keeps, more-keeps}
use Rattle.qo_properties.proofs.KeptLemmas.{edit-kept}
use Rattle.qo_plug.specs.Drafts.{Grows, IsQuiet, bare}

pub grows-none : (v w : Objects) → w ≡ v → Grows v w
grows-none v w same =
    record {
      names = λ key live. subst (λ (x : Objects). IsLive x.rows key) (sym same) live;
      rest = λ n low. ap (λ (x : Objects). option_map bare (content_of x n)) same;
      born = let its : w.born ≡ v.born = ap (λ (x : Objects). x.born) same in omega (arith, its);
      book = λ out h. subst (λ (x : Objects). IsBook out x) (sym same) h;
      claims = ap (λ (x : Objects). x.claims) same;
      kept = λ n k e. inl (subst (λ (x : Objects). all_kept x n ≡ Some k) same e);
      quiet = λ n q. subst (λ (x : Objects). IsQuiet x n) (sym same) q;
      events = ap (λ (x : Objects). x.events) same;
      time = ap (λ (x : Objects). x.time) same;
    }

pub grows-then : (v u w : Objects) → Grows v u → Grows u w → Grows v w
grows-then v u w g h =
    record {
      names = λ key live. h.names key (g.names key live);
      rest = λ n low. h.rest n (let more : v.born ≤ u.born = g.born in omega (arith, low, more)) ∙ g.rest n low;
      born = let first : v.born ≤ u.born = g.born in let next : u.born ≤ w.born = h.born in omega (arith, first, next);
      book = λ out b. h.book out (g.book out b);
      claims = h.claims ∙ g.claims;
      kept = λ n k e. by n k (h.kept n k e);
      quiet = λ n q. h.quiet n (g.quiet n q);
      events = h.events ∙ g.events;
      time = h.time ∙ g.time;
    }
  where
    by : (n : ℕ) (k : Kept) → (all_kept u n ≡ Some k) ⊎ ((u.born < n) × (k ≡ new_kept)) → (all_kept v n ≡ Some k) ⊎ ((v.born < n) × (k ≡ new_kept))
    by n k (inl same) = g.kept n k same
    by n k (inr new) = let more : v.born ≤ u.born = g.born in inr (omega (arith, more, new.0), new.1)

-- what was done made it grow, and an error left it
pub grows-either : {T E : Type 0} (r : Result T E) (v w : Objects) → OnOk r (Grows v w) → OnErr r (w ≡ v) → Grows v w
grows-either (Ok x) v w done same = done
grows-either (Err e) v w done same = grows-none v w same

-- an object has other slots
abbrev AreQuiet : ℕ → Option Content → Type 0
AreQuiet now o = IfSome o (λ (c : Content). IsTimely now c.body)

pub grows-edit : (v w : Objects) (n : ℕ) (f : Content → Content) → ((c : Content) → bare (f c) ≡ bare c) → w ≡ with_edit n f v → Grows v w
grows-edit v w n f same is =
    record {
      names = λ key live. subst (λ (x : Objects). IsLive x.rows key) (sym is) (live-edit n f v.rows key live);
      rest = λ m low. ap (λ (x : Objects). option_map bare (content_of x m)) is ∙ go m (eqb m n) refl;
      born = let its : w.born ≡ v.born = ap (λ (x : Objects). x.born) is in omega (arith, its);
      book = edit-keeps v w n f (λ c. ap (λ (d : Content). (d.body, d.device_id)) (same c)) is;
      claims = ap (λ (x : Objects). x.claims) is;
      kept = λ m k e. inl (edit-kept v w n f (λ c. ap kept_with (same c)) is m k e);
      quiet = λ m q. subst (λ (x : Objects). IsQuiet x m) (sym is) (stays m (eqb m n) refl q);
      events = ap (λ (x : Objects). x.events) is;
      time = ap (λ (x : Objects). x.time) is;
    }
  where
    bares : (o : Option Content) → option_map bare (option_map f o) ≡ option_map bare o
    bares None = refl
    bares (Some c) = ap Some (same c)

    go : (m : ℕ) (t : Bool) → eqb m n ≡ t → option_map bare (content_of (with_edit n f v) m) ≡ option_map bare (content_of v m)
    go m true p = subst (λ (k : ℕ). option_map bare (content_of (with_edit n f v) k) ≡ option_map bare (content_of v k)) (sym (eqb-true m n p))
        (ap (option_map bare) (content-edited v n f) ∙ bares (content_of v n))
    go m false p = ap (option_map bare) (content-other v n m f p)

    changed : (o : Option Content) → AreQuiet v.time o → AreQuiet v.time (option_map f o)
    changed None q = tt
    changed (Some c) q = subst (λ (d : Content). IsTimely v.time d.body) (sym (same c)) q

    stays : (m : ℕ) (t : Bool) → eqb m n ≡ t → IsQuiet v m → IsQuiet (with_edit n f v) m
    stays m true p q =
        subst (λ (k : ℕ). IsQuiet (with_edit n f v) k) (sym (eqb-true m n p))
        (subst (AreQuiet v.time) (sym (content-edited v n f)) (changed (content_of v n) (subst (IsQuiet v) (eqb-true m n p) q)))
    stays m false p q = subst (AreQuiet v.time) (sym (content-other v n m f p)) q

-- one object more
pub row-before : (rows : List (Key × Content)) (o : Key) (c : Content) (n : ℕ) → eqb o.birth n ≡ false → row_at (rows ++ (o, c) ∷ []) n ≡ row_at rows n
row-before [] o c n other = rw other refl
row-before (row ∷ rows) o c n other = go (eqb row.0.birth n) refl (row-before rows o c n other)
  where
    go : (t : Bool) → eqb row.0.birth n ≡ t → row_at (rows ++ (o, c) ∷ []) n ≡ row_at rows n → row_at ((row ∷ rows) ++ (o, c) ∷ []) n ≡ row_at (row ∷ rows) n
    go true p rest = rw p refl
    go false p rest = rw p rest

more-quiet : (P : Content → Type 0) (o : Key) (c : Content) (n : ℕ) → P c → (rows : List (Key × Content))
    → IfSome (option_map (λ (row : Key × Content). row.1) (row_at rows n)) P
    → IfSome (option_map (λ (row : Key × Content). row.1) (row_at (rows ++ (o, c) ∷ []) n)) P
more-quiet P o c n here [] q = go (eqb o.birth n) refl
  where
    go : (t : Bool) → eqb o.birth n ≡ t → IfSome (option_map (λ (row : Key × Content). row.1) (row_at ((o, c) ∷ []) n)) P
    go true p = rw p here
    go false p = rw p tt
more-quiet P o c n here (row ∷ rows) q = go (eqb row.0.birth n) refl (more-quiet P o c n here rows)
  where
    go : (t : Bool) → eqb row.0.birth n ≡ t
        → (IfSome (option_map (λ (r : Key × Content). r.1) (row_at rows n)) P
        → IfSome (option_map (λ (r : Key × Content). r.1) (row_at (rows ++ (o, c) ∷ []) n)) P)
        → IfSome (option_map (λ (r : Key × Content). r.1) (row_at ((row ∷ rows) ++ (o, c) ∷ []) n)) P
    go true p rest = rw p (rw p at q)
    go false p rest = rw p (rest (rw p at q))

pub grows-newest : (v : Objects) (o : Key) (c : Content) → o.birth ≡ v.born + 1 → kept_with c ≡ new_kept → c.device_id ≡ None → IsTimely v.time c.body
    → Grows v (with_newest o c v)
grows-newest v o c birth none unnamed timely =
    record {
      names = newest-keeps v (with_newest o c v) o c refl;
      rest = λ n low. let other : eqb o.birth n ≡ false = grind (arith, birth, low) in
          ap (λ (r : Option (Key × Content)). option_map bare (option_map (λ (row : Key × Content). row.1) r)) (row-before v.rows o c n other);
      born = omega arith;
      book = more-keeps v o c (v.born + 1) (noted_all (init_notes o.birth c.kind) v.log) (ap (λ (k : Kept). k.0) none) unnamed;
      claims = refl;
      kept = λ n k e. by n k (eqb o.birth n) refl (more-kept v (with_newest o c v) o c none refl n k e) e;
      quiet = λ n q. more-quiet (λ (d : Content). IsTimely v.time d.body) o c n timely v.rows q;
      events = refl;
      time = refl;
    }
  where
    -- what stands in the last row is new
    by : (n : ℕ) (k : Kept) (t : Bool) → eqb o.birth n ≡ t → (all_kept v n ≡ Some k) ⊎ ((all_kept v n ≡ None) × (k ≡ new_kept))
        → all_kept (with_newest o c v) n ≡ Some k → (all_kept v n ≡ Some k) ⊎ ((v.born < n) × (k ≡ new_kept))
    by n k t p (inl same) e = inl same
    by n k true p (inr new) e = let its : o.birth ≡ n = eqb-true o.birth n p in inr (omega (arith, birth, its), new.1)
    by n k false p (inr new) e =
        inl (sym (ap (λ (r : Option (Key × Content)). option_map kept_with (option_map (λ (row : Key × Content). row.1) r))
        (row-before v.rows o c n p)) ∙ e)

-- who is there was born
row-low : (above last : ℕ) (rows : List (Key × Content)) (n : ℕ) → Rises above (births rows) last → IsSome (row_at rows n) → n ≤ last
row-low above last [] n rises some = cc
row-low above last (row ∷ rows) n rises some = go (eqb row.0.birth n) refl (row-low row.0.birth last rows n rises.1)
  where
    go : (t : Bool) → eqb row.0.birth n ≡ t → (IsSome (row_at rows n) → n ≤ last) → n ≤ last
    go true p rest = let up = rises-up row.0.birth last (births rows) rises.1 in let same : row.0.birth ≡ n = eqb-true row.0.birth n p in omega arith
    go false p rest = rest (rw p at some)

pub live-low : (v : Objects) → IsHeap v → (o : Key) → IsLive v.rows o → o.birth ≤ v.born
live-low v good o live = row-low 0 v.born v.rows o.birth good.rising (go (row_at v.rows o.birth) live)
  where
    go : (r : Option (Key × Content)) → IsSomeAnd r (λ x. x.0.index ≡ o.index) → IsSome r
    go None h = absurd h
    go (Some x) h = refl

-- who was there keeps what it kept, and who is new keeps none
pub grows-kept : (v w : Objects) → IsHeap v → Grows v w → KeptOrNew v w
grows-kept v w good grows n k e = by (grows.kept n k e)
  where
    none : v.born < n → all_kept v n ≡ None
    none late = go (row_at v.rows n) refl
      where
        go : (r : Option (Key × Content)) → row_at v.rows n ≡ r → all_kept v n ≡ None
        go None p = ap (λ (r : Option (Key × Content)). option_map kept_with (option_map (λ (row : Key × Content). row.1) r)) p
        go (Some row) p = absurd (let low : n ≤ v.born = row-low 0 v.born v.rows n good.rising (subst IsSome (sym p) refl) in omega (arith, low, late))

    by : (all_kept v n ≡ Some k) ⊎ ((v.born < n) × (k ≡ new_kept)) → (all_kept v n ≡ Some k) ⊎ ((all_kept v n ≡ None) × (k ≡ new_kept))
    by (inl same) = inl same
    by (inr new) = inr (none new.0, new.1)

-- and who was not born is quiet
pub unborn-quiet : (v : Objects) → IsHeap v → (n : ℕ) → v.born + 1 ≤ n → IsQuiet v n
unborn-quiet v good n late = go (row_at v.rows n) refl
  where
    go : (r : Option (Key × Content)) → row_at v.rows n ≡ r → IfSome (option_map (λ (row : Key × Content). row.1) r) (λ (c : Content). IsTimely v.time c.body)
    go None p = tt
    go (Some row) p = absurd (let low : n ≤ v.born = row-low 0 v.born v.rows n good.rising (subst IsSome (sym p) refl) in omega (arith, low, late))
