-- What has a place is attached.
use Rattle.std.proofs.Common.{◌≡◌, refl, ap, sym, subst, ◌∙◌, ℕ, ◌≤◌, Bool, true, false, ◌==◌, eqb, List, [], ◌∷◌, find, filter_map, sum_by, Option, Some, None, is_some, option_map, arith}
use Rattle.qo_model.proofs.Common.{list_any, ANONYMOUS_BIRTH, MACHINE_BIRTH, MEMORY_BUS_BIRTH, PERIPHERAL_BIRTH, ROOT_BUS_BIRTH, Board, Record, Slot, plain, child, strong, weak, alias, record_of, attached, attached_turn, is_child, place_of, SoundGraph}
use Rattle.std.proofs.lemmas.Bool.{eqb-true}
use Rattle.std.proofs.lemmas.List.Sums.{sum_by-cons}
use Rattle.std.proofs.lemmas.Option.{same_Some}
use Rattle.qo_model.specs.Paths.{place_in}
use Rattle.qo_model.proofs.ReleaseLemmas.{found-within}
use Rattle.qo_model.proofs.StepLemmas.{found_at}
use Rattle.qo_model.proofs.TreeLemmas.{paths_lem, place_at}
use Rattle.qo_sound.proofs.FirmBoardLemmas.{WellFormed, parents_in}
use Rattle.qo_sound.proofs.SlotLemmas.{one_child}
use Rattle.qo_sound_devices.specs.SoundPlaces.{child_entries, child_entry, HasOwner, machines, bridges, listed, owns_it, PlacesBut, stands}
use Rattle.qo_sound_devices.proofs.PlacesLemmas.{or-cases}

-- a child is found, and counted
pub listed-found : (x : ℕ) (slots : List (List ℕ × Slot))
    → listed x (filter_map child_entry slots) ≡ is_some (find (λ (s : List ℕ × Slot). is_child x s.1) slots)
listed-found x [] = refl
listed-found x ((name, plain v) ∷ slots) = listed-found x slots
listed-found x ((name, child m) ∷ slots) = go (m == x) refl (listed-found x slots)
  where
    go : (t : Bool) → (m == x) ≡ t → listed x (filter_map child_entry slots) ≡ is_some (find (λ (s : List ℕ × Slot). is_child x s.1) slots)
        → listed x (filter_map child_entry ((name, child m) ∷ slots)) ≡ is_some (find (λ (s : List ℕ × Slot). is_child x s.1) ((name, child m) ∷ slots))
    go true p rest = rw p refl
    go false p rest = rw p rest
listed-found x ((name, strong t target) ∷ slots) = listed-found x slots
listed-found x ((name, weak t target) ∷ slots) = listed-found x slots
listed-found x ((name, alias m property) ∷ slots) = listed-found x slots

pub found-counted : (x : ℕ) (slots : List (List ℕ × Slot)) → is_some (find (λ (s : List ℕ × Slot). is_child x s.1) slots) ≡ true
    → 1 ≤ sum_by (one_child x) slots
found-counted x [] e = cc
found-counted x (s ∷ slots) e = go (is_child x s.1) refl (found-counted x slots)
  where
    go : (t : Bool) → is_child x s.1 ≡ t → (is_some (find (λ (y : List ℕ × Slot). is_child x y.1) slots) ≡ true → 1 ≤ sum_by (one_child x) slots)
        → 1 ≤ sum_by (one_child x) (s ∷ slots)
    go true p rest = let one : one_child x s ≡ 1 = rw p refl in omega (arith, one, sum_by-cons (one_child x) s slots)
    go false p rest = omega (arith, rest (rw p at e), sum_by-cons (one_child x) s slots)

pub place-some : (x : ℕ) (r : Record) → is_some (place_in x r) ≡ is_some (find (λ (s : List ℕ × Slot). is_child x s.1) r.slots)
place-some x r = go (find (λ (s : List ℕ × Slot). is_child x s.1) r.slots)
  where
    go : (o : Option (List ℕ × Slot)) → is_some {T = ℕ × List ℕ} (option_map (λ (s : List ℕ × Slot). (r.birth, s.0)) o) ≡ is_some o
    go None = refl
    go (Some s) = refl

pub place-birth : (x : ℕ) (r : Record) → is_some (place_in x r) ≡ true → option_map (λ (p : ℕ × List ℕ). p.0) (place_in x r) ≡ Some r.birth
place-birth x r e = go (find (λ (s : List ℕ × Slot). is_child x s.1) r.slots) e
  where
    go : (o : Option (List ℕ × Slot)) → is_some {T = ℕ × List ℕ} (option_map (λ (s : List ℕ × Slot). (r.birth, s.0)) o) ≡ true
        → option_map {T = ℕ × List ℕ} (λ (p : ℕ × List ℕ). p.0) (option_map (λ (s : List ℕ × Slot). (r.birth, s.0)) o) ≡ Some r.birth
    go None q = cc
    go (Some s) q = refl

-- where an object is a child at most once, its parent is the one that is known
place-is : (x p : ℕ) (r : Record) → listed x (filter_map child_entry r.slots) ≡ true → (rs : List Record) → found_at p rs ≡ Some r
    → sum_by (parents_in x) rs ≤ 1 → option_map (λ (q : ℕ × List ℕ). q.0) (place_at rs x) ≡ Some p
place-is x p r child_there [] e few = cc
place-is x p r child_there (y ∷ rs) e few = go (y.birth == p) refl (is_some (place_in x y)) refl (place-is x p r child_there rs)
  where
    found_in : is_some (find (λ (s : List ℕ × Slot). is_child x s.1) r.slots) ≡ true
    found_in = sym (listed-found x r.slots) ∙ child_there

    go : (t : Bool) → (y.birth == p) ≡ t → (u : Bool) → is_some (place_in x y) ≡ u
        → (found_at p rs ≡ Some r → sum_by (parents_in x) rs ≤ 1 → option_map (λ (q : ℕ × List ℕ). q.0) (place_at rs x) ≡ Some p)
        → option_map (λ (q : ℕ × List ℕ). q.0) (place_at (y ∷ rs) x) ≡ Some p
    go true q true u rest = rw u (place-birth x y u ∙ ap Some (eqb-true y.birth p q))
    go true q false u rest =
        let is : y ≡ r = same_Some y r (rw q at e) in
        absurd
        (let clash : false ≡ true =
        sym u ∙ place-some x y ∙ ap (λ (z : Record). is_some (find (λ (s : List ℕ × Slot). is_child x s.1) z.slots)) is ∙ found_in in
        cc)
    go false q false u rest = rw u (rest (rw q at e) (omega (arith, few, sum_by-cons (parents_in x) y rs)))
    go false q true u rest =
        let one : 1 ≤ parents_in x r = found-counted x r.slots found_in in
        let other : 1 ≤ parents_in x y = found-counted x y.slots (sym (place-some x y) ∙ u) in
        absurd
        (let clash : 2 ≤ 1 = omega (arith, one, other, few, found-within (parents_in x) p rs r (rw q at e), sum_by-cons (parents_in x) y rs) in
        omega (arith, clash))

-- the parent of a child is the object that has it
pub parent-is : (b : Board) → WellFormed b → (p x : ℕ) → listed x (child_entries b p) ≡ true → option_map (λ (q : ℕ × List ℕ). q.0) (place_of b x) ≡ Some p
parent-is b firm p x e = go (record_of b p) refl
  where
    go : (o : Option Record) → record_of b p ≡ o → option_map (λ (q : ℕ × List ℕ). q.0) (place_of b x) ≡ Some p
    go None q = absurd (let clash : false ≡ true = rw q at e in cc)
    go (Some r) q = place-is x p r (rw q at e) b.records q (firm.one_parent x)

pub child-attached : (b : Board) → SoundGraph b → WellFormed b → (p x : ℕ) → listed x (child_entries b p) ≡ true → attached b p ≡ true → attached b x ≡ true
child-attached b sound firm p x e above = paths_lem.attached_by_parent b sound x ∙ go (x == 1) refl
  where
    go : (t : Bool) → (x == 1) ≡ t → attached_turn b (attached b) x ≡ true
    go true q = rw (attached_turn, q) refl
    go false q = placed (place_of b x) refl
      where
        placed : (o : Option (ℕ × List ℕ)) → place_of b x ≡ o → attached_turn b (attached b) x ≡ true
        placed None k = absurd (let clash : None ≡ Some p = sym (ap (option_map (λ (u : ℕ × List ℕ). u.0)) k) ∙ parent-is b firm p x e in cc)
        placed (Some u) k =
            let is : u.0 ≡ p = same_Some u.0 p (sym (ap (option_map (λ (v : ℕ × List ℕ). v.0)) k) ∙ parent-is b firm p x e) in
            rw (attached_turn, q, k, is) above

pub owns-listed : (q : ℕ) (es : List (List ℕ × ℕ)) → list_any (owns_it q) es ≡ true → listed q es ≡ true
owns-listed q [] e = cc
owns-listed q (x ∷ es) e = go (x.1 == q) refl (owns-listed q es)
  where
    go : (t : Bool) → (x.1 == q) ≡ t → (list_any (owns_it q) es ≡ true → listed q es ≡ true) → listed q (x ∷ es) ≡ true
    go true p rest = rw p refl
    go false p rest = rw p (rest (rw p at e))

module _ (b : Board) (sound : SoundGraph b) (firm : WellFormed b) (depth : ℕ → ℕ) (left : Option ℕ) (out : ℕ → Bool) (h : PlacesBut depth left out b) where
  machine-attached : attached b MACHINE_BIRTH ≡ true
  machine-attached = child-attached b sound firm 1 MACHINE_BIRTH h.machine (paths_lem.attached_by_parent b sound 1)

  pub stands-attached : (d : ℕ) → stands b d ≡ true → attached b d ≡ true
  stands-attached d e =
      or-cases (listed d (child_entries b PERIPHERAL_BIRTH)) (listed d (child_entries b ANONYMOUS_BIRTH)) e
      (λ k. child-attached b sound firm PERIPHERAL_BIRTH d k (child-attached b sound firm MACHINE_BIRTH PERIPHERAL_BIRTH h.parts.0 machine-attached))
      (λ k. child-attached b sound firm ANONYMOUS_BIRTH d k (child-attached b sound firm MACHINE_BIRTH ANONYMOUS_BIRTH h.parts.1.0 machine-attached))

  pub owner-attached : (q : ℕ) → HasOwner b q → attached b q ≡ true
  owner-attached q (bridges p s o) = child-attached b sound firm p q (owns-listed q (child_entries b p) o) (stands-attached p s)
  owner-attached q (machines k) = go (eqb q ROOT_BUS_BIRTH) refl (eqb q MEMORY_BUS_BIRTH) refl
    where
      go : (t : Bool) → eqb q ROOT_BUS_BIRTH ≡ t → (u : Bool) → eqb q MEMORY_BUS_BIRTH ≡ u → attached b q ≡ true
      go true p u r =
          subst (λ (m : ℕ). attached b m ≡ true) (sym (eqb-true q ROOT_BUS_BIRTH p))
          (child-attached b sound firm MACHINE_BIRTH ROOT_BUS_BIRTH h.parts.1.1.0 machine-attached)
      go false p true r =
          subst (λ (m : ℕ). attached b m ≡ true) (sym (eqb-true q MEMORY_BUS_BIRTH r))
          (child-attached b sound firm MACHINE_BIRTH MEMORY_BUS_BIRTH h.parts.1.1.1.0 machine-attached)
      go false p false r = absurd (let clash : false ≡ true = rw (p, r) at k in cc)
