-- What an attempt notes is of the objects that it makes and ends. What the births of these with such notes keep, attempts keep.
use Rattle.std.proofs.Common.{◌≡◌, refl, ap, sym, subst, append_assoc, ◌∙◌, ℕ, zero, suc, ◌+◌, ◌<◌, ◌≤◌, Bool, true, false, ◌==◌, if◌then◌else◌, List, [], ◌∷◌, ◌++◌, drop, flat_map, length, map, take, arith}
use Rattle.qo_model.proofs.Common.{AllByRecursion, Act, Init, Realize, Enter, Hold, Exit, Unrealize, TypeId, Board, fresh, ending, init_notes, with_attempt, begun_notes, born_from, bus_births, cut_attempt, cut_order, device_last, did, ended_notes, passed_notes, plug_attempt, types_in, with_ended, final_notes, count, finals, inits}
use Rattle.qo_model.specs.declared.notes.Deed.{Deed}
use Rattle.qo_model.specs.declared.notes.Deed.TheVariants.{Did, Final}
use Rattle.qo_model.specs.declared.notes.Note.{Note}
use Rattle.std.proofs.lemmas.List.Elements.{All-drop, All-from_recursion, All-take, recursion_from_All}
use Rattle.qo_sound.proofs.AttemptNotesLemmas.{buses-within}
use Rattle.qo_sound.proofs.RecordLemmas.{all-append}
use Rattle.qo_steps.specs.Steps.{IsOfNext}

-- a birth is one of so many that come next
abbrev Comes : Board → ℕ → ℕ → Type 0
Comes b count n = (b.born < n) × (n ≤ b.born + count)

module _ (b : Board) (size : ℕ) where
  -- notes on one object, and acts of some
  on-one : (n : ℕ) → Comes b size n → (deed : TypeId → Deed) (ts : List TypeId)
      → AllByRecursion (IsOfNext b size) (map (λ (k : TypeId). record { birth = n; deed = deed k }) ts)
  on-one n own deed [] = tt
  on-one n own deed (t ∷ ts) = (own, on-one n own deed ts)

  on-each : (act : Act) (ns : List ℕ) → AllByRecursion (Comes b size) ns → AllByRecursion (IsOfNext b size) (map (did act) ns)
  on-each act [] own = tt
  on-each act (n ∷ ns) own = (own.0, on-each act ns own.1)

  -- of objects that begin, and that end
  abbrev Own : ℕ × TypeId → Type 0
  Own o = Comes b size o.0

  on-objects : (f : ℕ × TypeId → List Note) → ((o : ℕ × TypeId) → Own o → AllByRecursion (IsOfNext b size) (f o)) → (os : List (ℕ × TypeId))
      → AllByRecursion Own os → AllByRecursion (IsOfNext b size) (flat_map f os)
  on-objects f each [] own = tt
  on-objects f each (o ∷ os) own = all-append (IsOfNext b size) (f o) (flat_map f os) (each o own.0) (on-objects f each os own.1)

  on-begun : (os : List (ℕ × TypeId)) → AllByRecursion Own os → AllByRecursion (IsOfNext b size) (begun_notes os)
  on-begun = on-objects (λ (o : ℕ × TypeId). init_notes o.0 o.1) (λ o own. on-one o.0 own (λ (k : TypeId). Did (Init k)) (inits o.1))

  on-ended : (os : List (ℕ × TypeId)) → AllByRecursion Own os → AllByRecursion (IsOfNext b size) (ended_notes os)
  on-ended = on-objects (λ (o : ℕ × TypeId). ending o.0 o.1) (λ o own. on-one o.0 own Final (finals o.1))

  own-last : (os : List (ℕ × TypeId)) → AllByRecursion Own os → AllByRecursion Own (device_last os)
  own-last [] own = tt
  own-last (o ∷ os) own = all-append Own os (o ∷ []) own.1 (own.0, tt)

  own-order : (joins : Bool) (i : ℕ) (os : List (ℕ × TypeId)) → AllByRecursion Own os → AllByRecursion Own (cut_order joins i os)
  own-order true i os own = own-last os own
  own-order false zero os own = tt
  own-order false (suc i) os own =
      all-append Own (drop i os) (device_last (take i os)) (recursion_from_All Own (drop i os) (All-drop Own i os (All-from_recursion Own os own)))
      (own-last (take i os) (recursion_from_All Own (take i os) (All-take Own i os (All-from_recursion Own os own))))

  -- the whole
  on-all : (made ended : List (ℕ × TypeId)) (passed : List Note) → AllByRecursion Own made → AllByRecursion (IsOfNext b size) passed
      → AllByRecursion Own ended → AllByRecursion (IsOfNext b size) (begun_notes made ++ (passed ++ ended_notes ended))
  on-all made ended passed begin mid end =
      all-append (IsOfNext b size) (begun_notes made) (passed ++ ended_notes ended) (on-begun made begin)
      (all-append (IsOfNext b size) passed (ended_notes ended) mid (on-ended ended end))

-- the objects of a device, or the first of them
length-born : (n : ℕ) (ts : List TypeId) → length (born_from n ts) ≡ length ts
length-born n [] = refl
length-born n (t ∷ ts) = ap suc (length-born (suc n) ts)

born-within : (b : Board) (size n : ℕ) (ts : List TypeId) → b.born < n → n + length ts ≤ suc (b.born + size) → AllByRecursion (Own b size) (born_from n ts)
born-within b size n [] above below = tt
born-within b size n (t ∷ ts) above below = ((above, omega (arith, below)), born-within b size (suc n) ts (omega (arith, above)) (omega (arith, below)))

taken-within : (b : Board) (size i n : ℕ) (ts : List TypeId) → b.born < n → n + length (take i (born_from n ts)) ≤ suc (b.born + size)
    → AllByRecursion (Own b size) (take i (born_from n ts))
taken-within b size zero n ts above below = tt
taken-within b size (suc i) n [] above below = tt
taken-within b size (suc i) n (t ∷ ts) above below =
    ((above, omega (arith, below)), taken-within b size i (suc n) ts (omega (arith, above)) (omega (arith, below)))

-- `object-add`
attempt-own : (b : Board) (t : TypeId) → AllByRecursion (IsOfNext b 1) (init_notes (b.born + 1) t ++ final_notes (fresh (b.born + 1) t))
attempt-own b t =
    let own : Comes b 1 (b.born + 1) = (omega arith, omega arith) in
    all-append (IsOfNext b 1) (init_notes (b.born + 1) t) (final_notes (fresh (b.born + 1) t))
    (on-one b 1 (b.born + 1) own (λ (k : TypeId). Did (Init k)) (inits t)) (on-one b 1 (b.born + 1) own Final (finals t))

-- a device that was cut
cut-own : (b : Board) (t : TypeId) (i : ℕ) (joins : Bool)
    → let os = take i (born_from (suc b.born) (types_in t)) in
    AllByRecursion (IsOfNext b (length os)) (begun_notes os ++ ([] ++ ended_notes (cut_order joins i os)))
cut-own b t i joins =
    let os : List (ℕ × TypeId) = take i (born_from (suc b.born) (types_in t)) in
    let own : AllByRecursion (Own b (length os)) os = taken-within b (length os) i (suc b.born) (types_in t) (omega arith) (omega arith) in
    on-all b (length os) os (cut_order joins i os) [] own tt (own-order b (length os) joins i os own)

-- one that was given up at a stage
module _ (b : Board) (t : TypeId) (bus : ℕ) where
  abbrev n : ℕ
  n = suc b.born

  abbrev os : List (ℕ × TypeId)
  os = born_from n (types_in t)

  abbrev buses : List ℕ
  buses = bus_births n t

  abbrev Ours : ℕ → Type 0
  Ours m = Comes b (length os) m

  size : length os ≡ length (types_in t)
  size = length-born n (types_in t)

  first : Ours n
  first = (omega arith, omega (arith, size))

  within : AllByRecursion Ours buses
  within = buses-within b.born n (types_in t) (b.born + length os) (omega arith) (omega (arith, size))

  last : AllByRecursion Ours (buses ++ n ∷ [])
  last = all-append Ours buses (n ∷ []) within (first, tt)

  exits : AllByRecursion Ours (if count b bus == 0 then buses ++ n ∷ [] else [])
  exits = go (count b bus == 0) refl
    where
      go : (u : Bool) → (count b bus == 0) ≡ u → AllByRecursion Ours (if count b bus == 0 then buses ++ n ∷ [] else [])
      go true e = rw e last
      go false e = rw e tt

  acts : (act : Act) (ns : List ℕ) → AllByRecursion Ours ns → AllByRecursion (IsOfNext b (length os)) (map (did act) ns)
  acts = on-each b (length os)

  more : (xs : List Note) (act : Act) (ns : List ℕ) → AllByRecursion Ours ns → AllByRecursion (IsOfNext b (length os)) xs
      → AllByRecursion (IsOfNext b (length os)) (xs ++ map (did act) ns)
  more xs act ns own h = all-append (IsOfNext b (length os)) xs (map (did act) ns) h (acts act ns own)

  passed-own : AllByRecursion (IsOfNext b (length os)) (passed_notes b bus n t)
  passed-own =
      let all : List ℕ = buses ++ n ∷ [] in
      let out : List ℕ = if count b bus == 0 then buses ++ n ∷ [] else [] in
      let one : List Note = map (did Realize) (n ∷ buses) in
      let two : List Note = one ++ map (did Enter) all in
      let three : List Note = two ++ map (did Hold) all in
      more (three ++ map (did Exit) out) Unrealize all last
      (more three Exit out exits (more two Hold all last (more one Enter all last (acts Realize (n ∷ buses) (first, within)))))

  given_up-own : (stage : ℕ)
      → AllByRecursion (IsOfNext b (length os)) (begun_notes os ++ ((if stage == 8 then passed_notes b bus n t else []) ++ ended_notes (device_last os)))
  given_up-own stage =
      let own : AllByRecursion (Own b (length os)) os = born-within b (length os) n (types_in t) (omega arith) (omega (arith, size)) in
      on-all b (length os) os (device_last os) (if stage == 8 then passed_notes b bus n t else []) own (passing (stage == 8)) (own-last b (length os) os own)
    where
      passing : (u : Bool) → AllByRecursion (IsOfNext b (length os)) (if u then passed_notes b bus n t else [])
      passing true = passed-own
      passing false = tt

-- the births of an attempt, with its notes, keep P
abbrev pub KeepsAttempts : (Board → Type 0) → Type 0
KeepsAttempts P = (size : ℕ) (more : List Note) (c : Board) → AllByRecursion (IsOfNext c size) more → P c
    → P (record c { born = c.born + size; notes = c.notes ++ more })

module _ (P : Board → Type 0) (attempted : KeepsAttempts P) where
  pub attempt-by : (b : Board) (t : TypeId) → P b → P (with_attempt b t)
  attempt-by b t h =
      let begun : List Note = init_notes (b.born + 1) t in
      let ended : List Note = final_notes (fresh (b.born + 1) t) in
      subst (λ (notes : List Note). P (record b { born = b.born + 1; notes = notes })) (sym (append_assoc b.notes begun ended))
      (attempted 1 (begun ++ ended) b (attempt-own b t) h)

  ended-by : (b : Board) (made : List (ℕ × TypeId)) (passed : List Note) (ended : List (ℕ × TypeId))
      → AllByRecursion (IsOfNext b (length made)) (begun_notes made ++ (passed ++ ended_notes ended)) → P b → P (with_ended b made passed ended)
  ended-by b made passed ended own h =
      let begun : List Note = begun_notes made in
      let last : List Note = ended_notes ended in
      subst (λ (notes : List Note). P (record b { born = b.born + length made; notes = notes }))
      (sym (append_assoc b.notes begun (passed ++ last)) ∙ sym (append_assoc (b.notes ++ begun) passed last))
      (attempted (length made) (begun ++ (passed ++ last)) b own h)

  pub given_up-by : (b : Board) (t : TypeId) (bus stage : ℕ) → P b → P (plug_attempt b t bus stage)
  given_up-by b t bus stage h =
      let os : List (ℕ × TypeId) = born_from (suc b.born) (types_in t) in
      ended-by b os (if stage == 8 then passed_notes b bus (suc b.born) t else []) (device_last os) (given_up-own b t bus stage) h

  pub cut-by : (b : Board) (t : TypeId) (i : ℕ) (joins : Bool) → P b → P (cut_attempt b t i joins)
  cut-by b t i joins h =
      let os : List (ℕ × TypeId) = take i (born_from (suc b.born) (types_in t)) in
      ended-by b os [] (cut_order joins i os) (cut-own b t i joins) h
