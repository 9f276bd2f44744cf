-- A device that was made, and acted and was noted while it stood nowhere: it leaves exactly its notes where it is given up.
use Rattle.std.proofs.Common.{◌≡◌, refl, ap, ap₂, sym, subst, ◌∙◌, ℕ, suc, ◌+◌, ◌<◌, ◌≤◌, Bool, true, false, ◌==◌, List, [], ◌∷◌, ◌++◌, map, filter, length, append_assoc, append-nil, Some, None, arith}
use Rattle.qo_model.proofs.Common.{if◌then◌else◌, AllByRecursion, Act, Realize, Unrealize, Enter, Hold, Exit, TypeId, Board, Record, Slot, plain, child, strong, weak, alias, fresh, acted, with_act_on, ending, acted_all, begun_notes, born_from, bus_births, device_last, did, ended_notes, is_bus, passed, passed_notes, plug_attempt, types_in, with_ended, refs, refs_in, edited, final_notes, finalize, count, slots_of}
use Rattle.qo_model.specs.declared.notes.Note.{Note}
use Rattle.std.specs.List.{flat_map}
use Rattle.std.proofs.lemmas.List.{map-append}
use Rattle.std.proofs.lemmas.List.Sums.{sum_by-cons, sum_by-append}
use Rattle.qo_model.proofs.AttemptLemmas.{BareSlot, HasFurtherObjects, LowRecord, attempt-ends, kids-unheld, pins-apart, records-edited, records-unheld, star-kids, star-unheld}
use Rattle.qo_model.proofs.DraftEndsLemmas.{IsDraft, add-suc, born-length, ended-push, kids-ended, kids_from, kinds_in}

-- a change of objects that leaves all but registers
record LeavesRest (g : Record → Record) : Type 0 where
  birth : (r : Record) → (g r).birth ≡ r.birth
  kind : (r : Record) → (g r).kind ≡ r.kind
  slots : (r : Record) → (g r).slots ≡ r.slots
  path : (r : Record) → (g r).kept_path ≡ r.kept_path

act-leaves : (m : ℕ) (act : Act) (now period : ℕ) → LeavesRest (edited m (with_act_on act now period))
act-leaves m act now period =
    record {
      birth = λ r. at_birth r (r.birth == m) refl;
      kind = λ r. at_kind r (r.birth == m) refl;
      slots = λ r. at_slots r (r.birth == m) refl;
      path = λ r. at_path r (r.birth == m) refl;
    }
  where
    at_birth : (r : Record) (t : Bool) → (r.birth == m) ≡ t → (edited m (with_act_on act now period) r).birth ≡ r.birth
    at_birth r true p = rw (edited, p) refl
    at_birth r false p = rw (edited, p) refl

    at_kind : (r : Record) (t : Bool) → (r.birth == m) ≡ t → (edited m (with_act_on act now period) r).kind ≡ r.kind
    at_kind r true p = rw (edited, p) refl
    at_kind r false p = rw (edited, p) refl

    at_slots : (r : Record) (t : Bool) → (r.birth == m) ≡ t → (edited m (with_act_on act now period) r).slots ≡ r.slots
    at_slots r true p = rw (edited, p) refl
    at_slots r false p = rw (edited, p) refl

    at_path : (r : Record) (t : Bool) → (r.birth == m) ≡ t → (edited m (with_act_on act now period) r).kept_path ≡ r.kept_path
    at_path r true p = rw (edited, p) refl
    at_path r false p = rw (edited, p) refl

star-leaves : (g : Record → Record) → LeavesRest g → (n lo : ℕ) (ss : List (List ℕ × Slot)) (ls : List Record) → HasFurtherObjects n lo ss ls
    → HasFurtherObjects n lo ss (map g ls)
star-leaves g same n lo [] [] h = tt
star-leaves g same n lo [] (k ∷ ls) h = absurd h
star-leaves g same n lo ((name, child m) ∷ ss) [] h = absurd h
star-leaves g same n lo ((name, child m) ∷ ss) (k ∷ ls) h = (
  h.0,
  same.birth k ∙ h.1,
  (
    record {
      slots = subst (AllByRecursion (λ (s : List ℕ × Slot). BareSlot n s.1)) (sym (same.slots k)) h.2.0.slots;
      no_path = same.path k ∙ h.2.0.no_path;
    },
    star-leaves g same n m ss ls h.2.1,
  ),
)
star-leaves g same n lo ((name, strong t None) ∷ ss) ls h = star-leaves g same n lo ss ls h
star-leaves g same n lo ((name, strong t (Some m)) ∷ ss) ls h = absurd h
star-leaves g same n lo ((name, weak t target) ∷ ss) ls h = (h.0, star-leaves g same n lo ss ls h.1)
star-leaves g same n lo ((name, plain v) ∷ ss) ls h = star-leaves g same n lo ss ls h
star-leaves g same n lo ((name, alias m p) ∷ ss) ls h = star-leaves g same n lo ss ls h

finals-leave : (g : Record → Record) → LeavesRest g → (ls : List Record) → flat_map final_notes (map g ls) ≡ flat_map final_notes ls
finals-leave g same [] = refl
finals-leave g same (k ∷ ls) = ap₂ (λ (xs ys : List Note). xs ++ ys) (ap₂ ending (same.birth k) (same.kind k)) (finals-leave g same ls)

-- the board with the device and its further objects, of which this was noted too
record IsPassed (b : Board) (n : ℕ) (t : TypeId) (ks : List TypeId) (extra : List Note) (c : Board) : Type 0 where
  d : Record
  ls : List Record
  shape : c ≡ record b { records = b.records ++ d ∷ ls; born = n + length ks; notes = b.notes ++ begun_notes (born_from n (t ∷ ks)) ++ extra }
  birth : d.birth ≡ n
  kind : d.kind ≡ t
  no_path : d.kept_path ≡ None
  star_is : HasFurtherObjects n n d.slots ls
  ends : flat_map final_notes ls ≡ ended_notes (born_from (suc n) ks)

passed-begun : (b : Board) (n : ℕ) (t : TypeId) (ks : List TypeId) (c : Board) → IsDraft b n t ks c → IsPassed b n t ks [] c
passed-begun b n t ks c h =
    record {
      d = record (fresh n t) { slots = h.slots };
      ls = kids_from (suc n) ks;
      shape = h.shape ∙ ap (λ (ns : List Note).
          record b { records = b.records ++ record (fresh n t) { slots = h.slots } ∷ kids_from (suc n) ks; born = n + length ks; notes = ns })
          (sym (append-nil (b.notes ++ begun_notes (born_from n (t ∷ ks)))));
      birth = refl;
      kind = refl;
      no_path = refl;
      star_is = h.star_is;
      ends = kids-ended (suc n) ks;
    }

module _ (b : Board) (n : ℕ) (t : TypeId) (ks : List TypeId) (low : AllByRecursion (LowRecord n) b.records) where
  passed-act : (act : Act) (m : ℕ) (extra : List Note) (c : Board) → n ≤ m → IsPassed b n t ks extra c
      → IsPassed b n t ks (extra ++ did act m ∷ []) (acted act m 0 c)
  unfolding acted
  passed-act act m extra c le h =
      record {
        d = edited m (with_act_on act b.now 0) h.d;
        ls = map (edited m (with_act_on act b.now 0)) h.ls;
        shape = ap (acted act m 0) h.shape ∙ (λ i. record b { records = records i; born = n + length ks; notes = notes i });
        birth = same.birth h.d ∙ h.birth;
        kind = same.kind h.d ∙ h.kind;
        no_path = same.path h.d ∙ h.no_path;
        star_is = subst (λ (ss : List (List ℕ × Slot)). HasFurtherObjects n n ss (map (edited m (with_act_on act b.now 0)) h.ls)) (sym (same.slots h.d))
            (star-leaves (edited m (with_act_on act b.now 0)) same n n h.d.slots h.ls h.star_is);
        ends = finals-leave (edited m (with_act_on act b.now 0)) same h.ls ∙ h.ends;
      }
    where
      same : LeavesRest (edited m (with_act_on act b.now 0))
      same = act-leaves m act b.now 0

      records : map (edited m (with_act_on act b.now 0)) (b.records ++ h.d ∷ h.ls)
          ≡ b.records ++ edited m (with_act_on act b.now 0) h.d ∷ map (edited m (with_act_on act b.now 0)) h.ls
      records = map-append (edited m (with_act_on act b.now 0)) b.records (h.d ∷ h.ls)
          ∙ ap (λ (rs : List Record). rs ++ edited m (with_act_on act b.now 0) h.d ∷ map (edited m (with_act_on act b.now 0)) h.ls)
          (records-edited n m le (with_act_on act b.now 0) b.records low)

      notes : (b.notes ++ begun_notes (born_from n (t ∷ ks)) ++ extra) ++ did act m ∷ []
          ≡ b.notes ++ begun_notes (born_from n (t ∷ ks)) ++ (extra ++ did act m ∷ [])
      notes = append_assoc (b.notes ++ begun_notes (born_from n (t ∷ ks))) extra (did act m ∷ [])

  passed-all : (act : Act) (ms : List ℕ) (extra : List Note) (c : Board) → AllByRecursion (λ m. n ≤ m) ms → IsPassed b n t ks extra c
      → IsPassed b n t ks (extra ++ map (did act) ms) (acted_all act ms c)
  passed-all act [] extra c le h = subst (λ (ns : List Note). IsPassed b n t ks ns c) (sym (append-nil extra)) h
  passed-all act (m ∷ ms) extra c le h =
      subst (λ (ns : List Note). IsPassed b n t ks ns (acted_all act ms (acted act m 0 c))) (append_assoc extra (did act m ∷ []) (map (did act) ms))
      (passed-all act ms (extra ++ did act m ∷ []) (acted act m 0 c) le.1 (passed-act act m extra c le.0 h))

  -- nothing refers to it, and it leaves its notes
  passed-free : (extra : List Note) (c : Board) → AllByRecursion (λ p. p < n) b.pins → IsPassed b n t ks extra c → refs c n ≡ 0
  passed-free extra c pins h = ap (λ (x : Board). refs x n) h.shape ∙ none
    where
      own : refs_in n h.d ≡ 0
      own = star-unheld n n n h.d.slots h.ls (omega arith) h.star_is

      none : refs (record b { records = b.records ++ h.d ∷ h.ls; born = n + length ks; notes = b.notes ++ begun_notes (born_from n (t ∷ ks)) ++ extra }) n ≡ 0
      none =
          omega (
            arith,
            own,
            records-unheld n n (omega arith) b.records low,
            kids-unheld n n (omega arith) n h.ls (star-kids n n h.d.slots h.ls h.star_is),
            pins-apart n n (omega arith) b.pins pins,
            sum_by-append (refs_in n) b.records (h.d ∷ h.ls),
            sum_by-cons (refs_in n) h.d h.ls,
          )

  passed-ends : (extra : List Note) (c : Board) → n ≡ b.born + 1 → AllByRecursion (λ p. p < n) b.pins → IsPassed b n t ks extra c
      → finalize c n ≡ with_ended b (born_from n (t ∷ ks)) extra (device_last (born_from n (t ∷ ks)))
  passed-ends extra c is pins h =
      ap₂ finalize h.shape (sym h.birth)
      ∙ attempt-ends (record b { born = n + length ks }) h.d (subst (λ (x : ℕ). AllByRecursion (LowRecord x) b.records) (sym h.birth) low)
      (subst (λ (x : ℕ). AllByRecursion (λ p. p < x) b.pins) (sym h.birth) pins) h.no_path h.d.slots h.ls
      (b.notes ++ begun_notes (born_from n (t ∷ ks)) ++ extra) (subst (λ (x : ℕ). HasFurtherObjects x x h.d.slots h.ls) (sym h.birth) h.star_is)
      ∙ (λ i. record b { born = born i; notes = notes i })
    where
      born : n + length ks ≡ b.born + length (born_from n (t ∷ ks))
      born = omega (arith, is, born-length (suc n) ks)

      front : List Note
      front = b.notes ++ begun_notes (born_from n (t ∷ ks)) ++ extra

      notes : b.notes ++ begun_notes (born_from n (t ∷ ks)) ++ extra ++ flat_map final_notes h.ls ++ final_notes h.d
          ≡ b.notes ++ begun_notes (born_from n (t ∷ ks)) ++ extra ++ ended_notes (born_from (suc n) ks ++ (n, t) ∷ [])
      notes =
          ap₂ (λ (xs ys : List Note). front ++ xs ++ ys) h.ends (ap₂ ending h.birth h.kind)
          ∙ append_assoc front (ended_notes (born_from (suc n) ks)) (ending n t)
          ∙ ap (λ (ns : List Note). front ++ ns) (sym (ended-push (born_from (suc n) ks) n t))

-- the births of its buses are its own or later ones
buses-above : (n j : ℕ) → n ≤ j → (ts : List TypeId) → AllByRecursion (λ m. n ≤ m) (map (λ (o : ℕ × TypeId). o.0) (filter is_bus (born_from j ts)))
buses-above n j le [] = tt
buses-above n j le (t ∷ ts) = go (is_bus (j, t)) refl (buses-above n (suc j) (omega (arith, le)) ts)
  where
    go : (u : Bool) → is_bus (j, t) ≡ u → AllByRecursion (λ m. n ≤ m) (map (λ (o : ℕ × TypeId). o.0) (filter is_bus (born_from (suc j) ts)))
        → AllByRecursion (λ m. n ≤ m) (map (λ (o : ℕ × TypeId). o.0) (filter is_bus (born_from j (t ∷ ts))))
    go true e rest = rw e (le, rest)
    go false e rest = rw e rest

above-push : (n : ℕ) (ms : List ℕ) → AllByRecursion (λ m. n ≤ m) ms → AllByRecursion (λ m. n ≤ m) (ms ++ n ∷ [])
above-push n [] h = (omega arith, tt)
above-push n (m ∷ ms) h = (h.0, above-push n ms h.1)

module _ (b : Board) (t : TypeId) (bus : ℕ) (c : Board) (low : AllByRecursion (LowRecord (b.born + 1)) b.records)
    (pins : AllByRecursion (λ p. p < b.born + 1) b.pins) (draft : IsDraft b (b.born + 1) t (kinds_in (slots_of t)) c)
  where
    abbrev n : ℕ
    n = b.born + 1

    abbrev ks : List TypeId
    ks = kinds_in (slots_of t)

    abbrev buses : List ℕ
    buses = bus_births n t

    all_buses : AllByRecursion (λ m. n ≤ m) buses
    all_buses = buses-above n n (omega arith) (types_in t)

    all_last : AllByRecursion (λ m. n ≤ m) (buses ++ n ∷ [])
    all_last = above-push n buses all_buses

    all_exits : AllByRecursion (λ m. n ≤ m) (if count b bus == 0 then buses ++ n ∷ [] else [])
    all_exits = go (count b bus == 0) refl
      where
        go : (u : Bool) → (count b bus == 0) ≡ u → AllByRecursion (λ m. n ≤ m) (if count b bus == 0 then buses ++ n ∷ [] else [])
        go true e = rw e all_last
        go false e = rw e tt

    is_passed : IsPassed b n t ks (passed_notes b bus n t) (passed b bus n t c)
    is_passed =
        passed-all b n t ks low Unrealize (buses ++ n ∷ []) _ _ all_last
        (passed-all b n t ks low Exit (if count b bus == 0 then buses ++ n ∷ [] else []) _ _ all_exits
        (passed-all b n t ks low Hold (buses ++ n ∷ []) _ _ all_last
        (passed-all b n t ks low Enter (buses ++ n ∷ []) _ _ all_last
        (passed-all b n t ks low Realize (n ∷ buses) [] c (omega arith, all_buses)
        (passed-begun b n t ks c draft)))))

    pub attempt-free : refs (passed b bus n t c) (b.born + 1) ≡ 0
    attempt-free = passed-free b n t ks low (passed_notes b bus n t) (passed b bus n t c) pins is_passed

    -- an attempt that was refused after its acts
    pub attempt-passed : finalize (passed b bus n t c) (b.born + 1) ≡ plug_attempt b t bus 8
    attempt-passed =
        passed-ends b n t ks low (passed_notes b bus n t) (passed b bus n t c) refl pins is_passed
        ∙ ap (λ (k : ℕ). with_ended b (born_from k (types_in t)) (passed_notes b bus k t) (device_last (born_from k (types_in t)))) (add-suc b.born)
