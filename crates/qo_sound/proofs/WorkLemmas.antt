-- A board in the middle of a release: all is sound but for the objects that the release is at work on, and a release leaves none of these.
use Rattle.std.proofs.Common.{◌≡◌, refl, ap, sym, subst, ◌∙◌, ℕ, zero, suc, ◌<◌, ◌≤◌, Bool, true, false, cond, not, ◌==◌, eqb, List, [], ◌∷◌, map, filter, sum_by, slice_get, Option, Some, None, option_map, arith}
use Rattle.qo_model.proofs.Common.{AllByRecursion, option_map_or, Board, Record, Slot, plain, child, strong, weak, alias, is_live, slots_at, slot_at, among, births, refs, refs_in, holds_it, with_dropped, drop_slot, next_index, forgotten_in, forgotten, finish, finalize, after, KeepsRelease, Rises, is_open, lasting, PassesTo}
use Rattle.std.proofs.lemmas.Bool.{eqb-true, eq-eqb}
use Rattle.std.proofs.lemmas.List.Sums.{sum_by-cons}
use Rattle.std.proofs.lemmas.Option.{same_Some}
use Rattle.std.proofs.Math.Bool.{or-true}
use Rattle.qo_model.specs.Board.{referent}
use Rattle.qo_model.proofs.EditLemmas.{sum-held, one_is, held-forgotten, sum-without_hold, StandsAt, stands-at}
use Rattle.qo_model.proofs.ReleaseInductionLemmas.{after_keeps}
use Rattle.qo_model.proofs.StepLemmas.{drop-live, drop-refs, finish-live, finish-refs, found_at, found-birth, one_of}
use Rattle.qo_sound.proofs.SlotLemmas.{clocks-each}
use Rattle.qo_sound.proofs.RecordLemmas.{all-map, all-passing, all-edited, sum-edited, sum-filtered}
use Rattle.qo_values.proofs.ListLemmas.{all-imply}
use Rattle.qo_sound.proofs.SlotLemmas.{each_slot, child-forgotten}
use Rattle.qo_sound.proofs.FirmBoardLemmas.{WellFormed, firm-drop}
use Rattle.qo_sound.proofs.EndLemmas.{firm-finish}
use Rattle.qo_sound.proofs.EmptySlotLemmas.{EmptyBefore, empty-drop, empty-drop_next, empty-all, empty-finish}

-- the objects of the work
abbrev pub births_of : List (ℕ × ℕ) → List ℕ
births_of work = map (λ (p : ℕ × ℕ). p.0) work

-- the aliases of an object pass on to its lasting children
abbrev pub HasOwn : Record → Type 0
HasOwn r = AllByRecursion (λ (s : List ℕ × Slot). PassesTo (lasting r) s.1) r.slots

abbrev pub OwnBut : List ℕ → Record → Type 0
OwnBut ns r = among ns r.birth ≡ false → HasOwn r

pub record Midst (work : List (ℕ × ℕ)) (b : Board) : Type 0 where
  pub firm : WellFormed b
  pub aliases : AllByRecursion (OwnBut (births_of work)) b.records
  -- the objects of the work have no references, and their slots before the place hold nothing
  pub free : AllByRecursion (λ (p : ℕ × ℕ). refs b p.0 ≡ 0) work
  pub done : AllByRecursion (λ (p : ℕ × ℕ). EmptyBefore p.1 (slots_at b p.0)) work
  -- each other object has references
  pub used : (m : ℕ) → is_live b m ≡ true → refs b m ≡ 0 → among (births_of work) m ≡ true

-- a slot that holds m holds nothing else
holds-held : (m : ℕ) (s : Slot) → holds_it m s ≡ true → referent s ≡ Some m
holds-held m s e = go (referent s) refl
  where
    go : (o : Option ℕ) → referent s ≡ o → referent s ≡ Some m
    go None p = absurd (let clash : false ≡ true = rw (holds_it, p) at e in cc)
    go (Some k) p = p ∙ ap Some (eqb-true k m (rw (holds_it, p) at e))

-- where an object loses its last reference by a slot that was let go, the slot held it
pub dropped-held : (b : Board) → Rises (births b) → (n i : ℕ) (s : Slot) → slot_at b n i ≡ Some s → (m : ℕ) → 0 < refs b m → refs (drop_slot b n i) m ≡ 0
    → referent s ≡ Some m
unfolding drop_slot
dropped-held b up n i s e m some none = go (holds_it m s) refl
  where
    go : (t : Bool) → holds_it m s ≡ t → referent s ≡ Some m
    go true p = holds-held m s p
    go false p =
        let at_place : StandsAt b n i s = stands-at b n i s e in
        let owner : Record = at_place.owner in
        let zero_here : one_of m at_place.entry ≡ 0 = rw (at_place.is, p) refl in
        let slots : sum_by (one_of m) owner.slots ≤ refs_in m (with_dropped i owner) =
        omega (arith, zero_here, sum-without_hold (one_of m) i owner.slots at_place.entry at_place.at) in
        absurd (let clash : 0 < 0 = omega (arith, slots, some, none, sum-edited (refs_in m) n (with_dropped i) b.records up owner at_place.found) in
        omega arith)

-- what is not among numbers is not among more
fewer : (m k : ℕ) (ns : List ℕ) → among (k ∷ ns) m ≡ false → among ns m ≡ false
fewer m k ns e = go (eqb m k) refl
  where
    go : (t : Bool) → eqb m k ≡ t → among ns m ≡ false
    go true p = absurd (let clash : true ≡ false = rw p at e in cc)
    go false p = rw p at e

first-among : (m : ℕ) (ns : List ℕ) → among (m ∷ ns) m ≡ true
first-among m ns = rw (eq-eqb m m refl) refl

-- after a slot of the first object of the work that was let go
record Dropped (b : Board) (n i : ℕ) (work : List (ℕ × ℕ)) (s : Slot) : Type 0 where
  firm : WellFormed (drop_slot b n i)
  aliases : AllByRecursion (OwnBut (n ∷ births_of work)) (drop_slot b n i).records
  free : AllByRecursion (λ (p : ℕ × ℕ). refs (drop_slot b n i) p.0 ≡ 0) ((n, next_index s i) ∷ work)
  done : AllByRecursion (λ (p : ℕ × ℕ). EmptyBefore p.1 (slots_at (drop_slot b n i) p.0)) ((n, next_index s i) ∷ work)
  used : (m : ℕ) → is_live (drop_slot b n i) m ≡ true → refs (drop_slot b n i) m ≡ 0 → among (n ∷ births_of work) m ≡ false → referent s ≡ Some m

dropped : (b : Board) (n i : ℕ) (work : List (ℕ × ℕ)) (s : Slot) → slot_at b n i ≡ Some s → Midst ((n, i) ∷ work) b → Dropped b n i work s
unfolding drop_slot
dropped b n i work s e h =
    record {
      firm = firm-drop b n i h.firm;
      aliases =
          all-edited (OwnBut (n ∷ births_of work)) (OwnBut (n ∷ births_of work)) n (with_dropped i) b.records h.firm.rising (λ r p k. k)
          (λ r q k apart. absurd (let clash : true ≡ false =
          sym (first-among n (births_of work)) ∙ subst (λ (x : ℕ). among (n ∷ births_of work) x ≡ false) (found-birth n b.records r q) apart in
          cc)) h.aliases;
      free =
          all-imply (λ (p : ℕ × ℕ). refs b p.0 ≡ 0) (λ (p : ℕ × ℕ). refs (drop_slot b n i) p.0 ≡ 0) (λ p k. omega (arith, k, drop-refs b n i p.0))
          ((n, next_index s i) ∷ work) h.free;
      done = (
        empty-drop_next b n i s e h.done.0,
        all-imply (λ (p : ℕ × ℕ). EmptyBefore p.1 (slots_at b p.0)) (λ (p : ℕ × ℕ). EmptyBefore p.1 (slots_at (drop_slot b n i) p.0))
            (λ p k. empty-drop b n i p.0 p.1 k) work h.done.1,
      );
      used = λ m there none apart. dropped-held b h.firm.rising n i s e m (had m there apart) none;
    }
  where
    had : (m : ℕ) → is_live (drop_slot b n i) m ≡ true → among (n ∷ births_of work) m ≡ false → 0 < refs b m
    had m there apart = go (refs b m) refl
      where
        go : (k : ℕ) → refs b m ≡ k → 0 < refs b m
        go zero p = absurd (let clash : true ≡ false = sym (h.used m (sym (drop-live b n i m) ∙ there) p) ∙ apart in cc)
        go (suc k) p = omega (arith, p)

-- a slot let go whose object still has references, or that held none
kept-midst : (b : Board) (n i : ℕ) (work : List (ℕ × ℕ)) (s : Slot) → Midst ((n, i) ∷ work) b → slot_at b n i ≡ Some s
    → ((m : ℕ) → referent s ≡ Some m → 0 < refs (drop_slot b n i) m) → Midst ((n, next_index s i) ∷ work) (drop_slot b n i)
kept-midst b n i work s h e held_on = let d : Dropped b n i work s = dropped b n i work s e h in
    record { firm = d.firm; aliases = d.aliases; free = d.free; done = d.done; used = used d }
  where
    used : Dropped b n i work s → (m : ℕ) → is_live (drop_slot b n i) m ≡ true → refs (drop_slot b n i) m ≡ 0 → among (n ∷ births_of work) m ≡ true
    used d m there none = go (among (n ∷ births_of work) m) refl
      where
        go : (t : Bool) → among (n ∷ births_of work) m ≡ t → among (n ∷ births_of work) m ≡ true
        go true p = p
        go false p = absurd (let some : 0 < refs (drop_slot b n i) m = held_on m (d.used m there none p) in omega (arith, some, none))

-- and one whose object has none any more
freed-midst : (b : Board) (n i : ℕ) (work : List (ℕ × ℕ)) (s : Slot) (k : ℕ) → Midst ((n, i) ∷ work) b → slot_at b n i ≡ Some s → referent s ≡ Some k
    → refs (drop_slot b n i) k ≡ 0 → Midst ((k, 0) ∷ (n, next_index s i) ∷ work) (drop_slot b n i)
freed-midst b n i work s k h e holds free =
    let d : Dropped b n i work s = dropped b n i work s e h in
    record {
      firm = d.firm;
      aliases = all-imply (OwnBut (n ∷ births_of work)) (OwnBut (k ∷ n ∷ births_of work)) (λ r own apart. own (fewer r.birth k (n ∷ births_of work) apart))
          (drop_slot b n i).records d.aliases;
      free = (free, d.free);
      done = (tt, d.done);
      used = used d;
    }
  where
    used : Dropped b n i work s → (m : ℕ) → is_live (drop_slot b n i) m ≡ true → refs (drop_slot b n i) m ≡ 0 → among (k ∷ n ∷ births_of work) m ≡ true
    used d m there none = go (among (n ∷ births_of work) m) refl
      where
        go : (t : Bool) → among (n ∷ births_of work) m ≡ t → among (k ∷ n ∷ births_of work) m ≡ true
        go true p = rw p (or-true (eqb m k))
        go false p =
            let is : m ≡ k = same_Some m k (sym (d.used m there none p) ∙ holds) in
            rw (eq-eqb m k is) refl

-- the aliases of an object after the end of another
own-forgotten : (n : ℕ) (r : Record) → HasOwn r → HasOwn (forgotten n r)
own-forgotten n r h = subst (λ (ns : List ℕ). AllByRecursion (λ (s : List ℕ × Slot). PassesTo ns s.1) (each_slot (forgotten_in n) r.slots)) (sym stays)
    (all-map (λ (s : List ℕ × Slot). PassesTo (lasting r) s.1) (λ (s : List ℕ × Slot). PassesTo (lasting r) s.1)
    (λ (s : List ℕ × Slot). (s.0, forgotten_in n s.1)) (λ s k. passes s.1 k) r.slots h)
  where
    passes : (s : Slot) → PassesTo (lasting r) s → PassesTo (lasting r) (forgotten_in n s)
    passes (plain v) k = tt
    passes (child m) k = tt
    passes (strong t target) k = tt
    passes (weak t None) k = tt
    passes (weak t (Some m)) k = tt
    passes (alias m name) k = k

    stays : lasting (forgotten n r) ≡ lasting r
    stays = ap (λ (ns : List ℕ). cond (is_open r.birth) [] ns) (clocks-each (forgotten_in n) (child-forgotten n) r.slots)

-- the end of the first object of the work
ended-midst : (b : Board) (n i : ℕ) (work : List (ℕ × ℕ)) → Midst ((n, i) ∷ work) b → slot_at b n i ≡ None → Midst work (finish b n)
unfolding finish
ended-midst b n i work h e =
    record {
      firm = firm-finish b n h.free.0 h.firm;
      aliases =
          all-map (OwnBut (births_of work)) (OwnBut (births_of work)) (forgotten n) (λ r k apart. own-forgotten n r (k apart))
          (filter (λ (r : Record). not (r.birth == n)) b.records) (all-passing (OwnBut (n ∷ births_of work)) (OwnBut (births_of work))
          (λ (r : Record). not (r.birth == n)) (λ r p k apart. k (others r p apart)) b.records h.aliases);
      free = all-imply (λ (p : ℕ × ℕ). refs b p.0 ≡ 0) (λ (p : ℕ × ℕ). refs (finish b n) p.0 ≡ 0) (λ p k. omega (arith, k, finish-refs b n p.0)) work h.free.1;
      done = all-imply (λ (p : ℕ × ℕ). EmptyBefore p.1 (slots_at b p.0)) (λ (p : ℕ × ℕ). EmptyBefore p.1 (slots_at (finish b n) p.0))
          (λ p k. empty-finish b n p.0 p.1 k) work h.done.1;
      used = λ m there none. used m (m == n) refl there none;
    }
  where
    others : (r : Record) → not (r.birth == n) ≡ true → among (births_of work) r.birth ≡ false → among (n ∷ births_of work) r.birth ≡ false
    others r p apart = let differs : eqb r.birth n ≡ false = grind (arith, p) in rw differs apart

    unheld : (m : ℕ) (x : Record) → found_at n b.records ≡ Some x → refs_in m x ≡ 0
    unheld m x q =
        let past : slice_get x.slots i ≡ None = none_there (slice_get x.slots i) (subst (λ (o : Option Record). slot_in o ≡ None) q e) in
        empty-all m i x.slots past (subst (λ (o : Option Record). EmptyBefore i (option_map_or (λ (r : Record). r.slots) o [])) q h.done.0)
      where
        slot_in : Option Record → Option Slot
        slot_in o = option_map (λ (s : List ℕ × Slot). s.1) (slice_get (option_map_or (λ (r : Record). r.slots) o []) i)

        none_there : (o : Option (List ℕ × Slot)) → option_map (λ (s : List ℕ × Slot). s.1) o ≡ None → o ≡ None
        none_there None k = refl
        none_there (Some s) k = absurd (let clash : Some s.1 ≡ None = k in cc)

    sum-forgotten : (m : ℕ) (rs : List Record) → sum_by (refs_in m) (map (forgotten n) rs) ≡ sum_by (refs_in m) rs
    sum-forgotten m [] = refl
    sum-forgotten m (r ∷ rs) = omega (
      arith,
      sum-forgotten m rs,
      sum-held (one_is m) (forgotten_in n) (held-forgotten n) r.slots,
      sum_by-cons (refs_in m) (forgotten n r) (map (forgotten n) rs),
      sum_by-cons (refs_in m) r rs,
    )

    same-refs : (m : ℕ) → refs (finish b n) m ≡ refs b m
    same-refs m =
        omega (arith, sum-forgotten m (filter (λ (r : Record). not (r.birth == n)) b.records), sum-filtered (refs_in m) n b.records h.firm.rising (unheld m))

    used : (m : ℕ) (t : Bool) → (m == n) ≡ t → is_live (finish b n) m ≡ true → refs (finish b n) m ≡ 0 → among (births_of work) m ≡ true
    used m true p there none =
        absurd (let gone : is_live (finish b n) m ≡ false = finish-live b n m ∙ rw p refl in let clash : true ≡ false = sym there ∙ gone in cc)
    used m false p there none =
        let before : is_live b m ≡ true = sym (finish-live b n m ∙ rw p refl) ∙ there in
        let differs : eqb m n ≡ false = p in
        rw differs at (h.used m before (sym (same-refs m) ∙ none))

-- each turn of the work keeps this
pub midst-keeps : KeepsRelease Midst
midst-keeps =
    record {
      ended = λ c m j work h e. ended-midst c m j work h e;
      freed = λ c m j work s k h e q free. freed-midst c m j work s k h e q free;
      kept = λ c m j work s h e held_on. kept-midst c m j work s h e held_on;
    }

-- a board on which each object but one, if there is one, has references
pub record InvariantBut (o : Option ℕ) (b : Board) : Type 0 where
  pub firm : WellFormed b
  pub aliases : AllByRecursion HasOwn b.records
  pub used : (m : ℕ) → is_live b m ≡ true → refs b m ≡ 0 → o ≡ Some m

-- after what follows a slot that held this one, all have
pub after-firm : (b : Board) (o : Option ℕ) → InvariantBut o b → InvariantBut None (after finalize b o)
after-firm b o h = at_rest (after_keeps Midst midst-keeps b o [] free held_on)
  where
    free : (m : ℕ) → o ≡ Some m → refs b m ≡ 0 → Midst ((m, 0) ∷ []) b
    free m e none =
        record {
          firm = h.firm;
          aliases = all-imply HasOwn (OwnBut (m ∷ [])) (λ r own apart. own) b.records h.aliases;
          free = (none, tt);
          done = (tt, tt);
          used = λ k there zero_refs. rw (eq-eqb k m (same_Some k m (sym (h.used k there zero_refs) ∙ e))) refl;
        }

    held_on : ((m : ℕ) → o ≡ Some m → 0 < refs b m) → Midst [] b
    held_on some =
        record {
          firm = h.firm;
          aliases = all-imply HasOwn (OwnBut []) (λ r own apart. own) b.records h.aliases;
          free = tt;
          done = tt;
          used = λ k there none. absurd (let more : 0 < refs b k = some k (h.used k there none) in omega (arith, more, none));
        }

    at_rest : {c : Board} → Midst [] c → InvariantBut None c
    at_rest {c} k =
        record {
          firm = k.firm;
          aliases = all-imply (OwnBut []) HasOwn (λ r own. own refl) c.records k.aliases;
          used = λ m there none. absurd (let clash : false ≡ true = k.used m there none in cc);
        }
