-- An object without parent gets its child slot after those of another, and with it a reference.
use Rattle.std.proofs.Common.{◌≡◌, refl, ap, sym, subst, ◌∙◌, ℕ, ◌+◌, ◌<◌, ◌≤◌, Bool, true, false, ◌==◌, eqb, List, [], ◌∷◌, ◌++◌, Option, Some, None, is_some, option_map, arith}
use Rattle.qo_model.proofs.Common.{AllByRecursion, option_map_or, bytes_eq, TypeId, Board, Record, Slot, child, record_of, kind_of, is_live, with_added, among, leads, Leads, one, more, births, child_of, children_in, children_of, refs, edit, edited, Rises}
use Rattle.std.proofs.lemmas.Bool.{eqb-true, eq-eqb}
use Rattle.std.proofs.lemmas.List.Elements.{filter_map-append}
use Rattle.std.proofs.lemmas.Option.{same_Some}
use Rattle.std.proofs.Math.Bool.{or-false}
use Rattle.qo_model.proofs.StepLemmas.{found-edited, live-among, found-birth, one_of}
use Rattle.qo_sound.proofs.RecordLemmas.{all-append, all-edited}
use Rattle.qo_sound.proofs.SlotLemmas.{names_in, one_child}
use Rattle.qo_sound.proofs.FirmBoardLemmas.{Linked, AllLinked, HasNames, parents_of, edited-births, edited-kinds}
use Rattle.qo_sound.proofs.WorkLemmas.{HasOwn, InvariantBut}
use Rattle.qo_sound.proofs.SlotGrowthLemmas.{names-added, own-added, sum-added}

-- what is among numbers with one after them is it, or among them
among-push : (m n : ℕ) (ns : List ℕ) → among (ns ++ n ∷ []) m ≡ true → (m == n) ≡ false → among ns m ≡ true
among-push m n [] e apart = absurd (let clash : true ≡ false = sym e ∙ or-false (eqb m n) ∙ apart in cc)
among-push m n (k ∷ ns) e apart = go (eqb m k) refl (λ q. among-push m n ns q apart)
  where
    go : (t : Bool) → eqb m k ≡ t → (among (ns ++ n ∷ []) m ≡ true → among ns m ≡ true) → among (k ∷ ns) m ≡ true
    go true p rest = rw p refl
    go false p rest = rw p (rest (rw p at e))

-- what leads somewhere, in no step or more
data Reaches (next : ℕ → List ℕ) (x y : ℕ) : Type 0 where
  here : x ≡ y → Reaches next x y
  along : Leads next x y → Reaches next x y

-- where one step more is there, from p to n: a way that does not take it, or one that does
pub data Step (next : ℕ → List ℕ) (p n x y : ℕ) : Type 0 where
  stayed : leads next x y ≡ true → Step next p n x y
  new_one : x ≡ p → y ≡ n → Step next p n x y

data Way (next : ℕ → List ℕ) (p n x y : ℕ) : Type 0 where
  before : Leads next x y → Way next p n x y
  across : Reaches next x p → Reaches next n y → Way next p n x y

leads-then : (next : ℕ → List ℕ) {x y z : ℕ} → Leads next x y → Leads next y z → Leads next x z
leads-then next (one {n} {m} e) l = more e l
leads-then next (more {n} {m} {k} e k_l) l = more e (leads-then next k_l l)

-- what leads somewhere leads somewhere in one step
pub leads-first : (next : ℕ → List ℕ) {x y : ℕ} → next x ≡ [] → Leads next x y → ⊥
leads-first next none (one {n = n} {m = m} e) = absurd (let clash : false ≡ true = ap (λ (ns : List ℕ). among ns m) (sym none) ∙ e in cc)
leads-first next none (more {n = n} {m = m} {k = k} e l) = absurd (let clash : false ≡ true = ap (λ (ns : List ℕ). among ns m) (sym none) ∙ e in cc)

way-step : (next : ℕ → List ℕ) (p n x y z : ℕ) → Step next p n x y → Way next p n y z → Way next p n x z
way-step next p n x y z (stayed e) (before l) = before (more e l)
way-step next p n x y z (stayed e) (across (here is) r) = across (along (one (subst (λ (k : ℕ). leads next x k ≡ true) is e))) r
way-step next p n x y z (stayed e) (across (along l) r) = across (along (more e l)) r
way-step next p n x y z (new_one is_p is_n) (before l) = across (here is_p) (along (subst (λ (k : ℕ). Leads next k z) is_n l))
way-step next p n x y z (new_one is_p is_n) (across q r) = across (here is_p) r

way-of : (next wide : ℕ → List ℕ) (p n : ℕ) → ((x y : ℕ) → leads wide x y ≡ true → Step next p n x y) → {x y : ℕ} → Leads wide x y → Way next p n x y
way-of next wide p n step (one {n = x} {m = y} e) = first (step x y e)
  where
    first : {u v : ℕ} → Step next p n u v → Way next p n u v
    first (stayed q) = before (one q)
    first (new_one is_p is_n) = across (here is_p) (here (sym is_n))
way-of next wide p n step (more {n = x} {m = k} {k = y} e l) = way-step next p n x k y (step x k e) (way-of next wide p n step l)

-- no way leads from n to p, so none leads round
way-round : (next : ℕ → List ℕ) (p n x : ℕ) → (p == n) ≡ false → ¬ (Leads next n p) → ¬ (Leads next x x) → Way next p n x x → ⊥
way-round next p n x apart none_back none_round (before l) = none_round l
way-round next p n x apart none_back none_round (across (here a) (here b)) = absurd (let clash : true ≡ false = sym (eq-eqb p n (sym a ∙ sym b)) ∙ apart in cc)
way-round next p n x apart none_back none_round (across (here a) (along l)) = none_back (subst (λ (k : ℕ). Leads next n k) a l)
way-round next p n x apart none_back none_round (across (along l) (here b)) = none_back (subst (λ (k : ℕ). Leads next k p) (sym b) l)
way-round next p n x apart none_back none_round (across (along l) (along m)) = none_back (leads-then next m l)

-- the board c, whose object n has no reference and no parent, and becomes a child of p, which is not below it, under a name that p has not
pub record IsNameless (c : Board) (p n : ℕ) (id : List ℕ) : Type 0 where
  pub owner : Record
  pub found : record_of c p ≡ Some owner
  pub free_name : AllByRecursion (λ name. bytes_eq name id ≡ false) (names_in owner.slots)
  pub there : is_some (kind_of c n) ≡ true
  pub no_parent : parents_of c n ≡ 0
  pub none_back : ¬ (Leads (children_of c) n p)
  pub apart : (p == n) ≡ false

module _ (c : Board) (p n : ℕ) (id : List ℕ) (bare : IsNameless c p n id) (near : InvariantBut (Some n) c) where
  abbrev after : Board
  after = edit p (with_added id (child n)) c

  kinds-same : kind_of after ≡ kind_of c
  kinds-same = edited-kinds p (with_added id (child n)) (λ r. refl) (λ r. refl) c

  births-same : births after ≡ births c
  births-same = edited-births p (with_added id (child n)) (λ r. refl) (λ r. refl) c.records

  names-kept : (r : Record) → record_of c p ≡ Some r → HasNames r → HasNames (with_added id (child n) r)
  names-kept r e h =
      let is : bare.owner ≡ r = same_Some bare.owner r (sym bare.found ∙ e) in
      names-added id (child n) r (subst (λ (x : Record). AllByRecursion (λ name. bytes_eq name id ≡ false) (names_in x.slots)) is bare.free_name) h

  links-kept : (r : Record) → AllByRecursion (λ (s : List ℕ × Slot). Linked (kind_of c) s.1) r.slots
      → AllByRecursion (λ (s : List ℕ × Slot). Linked (kind_of c) s.1) (with_added id (child n) r).slots
  links-kept r h = all-append (λ (s : List ℕ × Slot). Linked (kind_of c) s.1) r.slots ((id, child n) ∷ []) h (bare.there, tt)

  pub named-parents : (x : ℕ) → parents_of after x ≡ parents_of c x + one_child x (id, child n)
  named-parents x = sum-added (one_child x) p id (child n) c.records near.firm.rising bare.owner bare.found

  one-parent : (x : ℕ) → parents_of after x ≤ 1
  one-parent x = go (n == x) refl
    where
      go : (t : Bool) → (n == x) ≡ t → parents_of after x ≤ 1
      go true q =
          let one_more : one_child x (id, child n) ≡ 1 = rw q refl in
          let none : parents_of c x ≡ 0 = ap (parents_of c) (sym (eqb-true n x q)) ∙ bare.no_parent in
          omega (arith, named-parents x, one_more, none)
      go false q =
          let no_more : one_child x (id, child n) ≡ 0 = rw q refl in
          omega (arith, named-parents x, no_more, near.firm.one_parent x)

  -- what leads somewhere led there before, or is the new step
  pub named-step : (x y : ℕ) → leads (children_of after) x y ≡ true → Step (children_of c) p n x y
  named-step x y e = go (record_of c x) refl
    where
      in_slots : Option Record → Bool
      in_slots o = among (children_in (option_map_or (λ (z : Record). z.slots) o [])) y

      now : in_slots (option_map (edited p (with_added id (child n))) (record_of c x)) ≡ true
      now = ap in_slots (sym (found-edited p (with_added id (child n)) (λ r. refl) x c.records)) ∙ e

      at_record : (r : Record) → record_of c x ≡ Some r → (t : Bool) → (r.birth == p) ≡ t → (u : Bool) → (y == n) ≡ u
          → in_slots (Some (edited p (with_added id (child n)) r)) ≡ true → Step (children_of c) p n x y
      at_record r q true e_p true e_n k = new_one (sym (found-birth x c.records r q) ∙ eqb-true r.birth p e_p) (eqb-true y n e_n)
      at_record r q true e_p false e_n k =
          let pushed : among (children_in (r.slots ++ (id, child n) ∷ [])) y ≡ true = rw (edited, e_p) at k in
          stayed (ap in_slots q
          ∙ among-push y n (children_in r.slots) (rw (filter_map-append (λ (s : List ℕ × Slot). child_of s.1) r.slots ((id, child n) ∷ [])) at pushed) e_n)
      at_record r q false e_p u e_n k = stayed (ap in_slots q ∙ (rw (edited, e_p) at k))

      go : (o : Option Record) → record_of c x ≡ o → Step (children_of c) p n x y
      go None q =
          absurd (let clash : false ≡ true = sym (ap (λ (o : Option Record). in_slots (option_map (edited p (with_added id (child n))) o)) q) ∙ now in cc)
      go (Some r) q = at_record r q (r.birth == p) refl (y == n) refl
          (sym (ap (λ (o : Option Record). in_slots (option_map (edited p (with_added id (child n))) o)) q) ∙ now)

  no-round : (x : ℕ) → ¬ (Leads (children_of after) x x)
  no-round x l =
      way-round (children_of c) p n x bare.apart bare.none_back (near.firm.none_round x) (way-of (children_of c) (children_of after) p n named-step l)

  own-kept : (r : Record) → record_of c p ≡ Some r → HasOwn r → HasOwn (with_added id (child n) r)
  own-kept r e h = own-added id (child n) r tt h

  refs-are : (m : ℕ) → refs after m ≡ refs c m + one_of m (id, child n)
  refs-are m = omega (arith, sum-added (one_of m) p id (child n) c.records near.firm.rising bare.owner bare.found)

  has-refs : (m : ℕ) → is_live after m ≡ true → refs after m ≡ 0 → None ≡ Some m
  has-refs m there none = go (n == m) refl
    where
      had : is_live c m ≡ true
      had = live-among c m ∙ ap (λ (ns : List ℕ). among ns m) (sym births-same) ∙ sym (live-among after m) ∙ there

      go : (t : Bool) → (n == m) ≡ t → None ≡ Some m
      go true q =
          let one_more : one_of m (id, child n) ≡ 1 = rw q refl in
          absurd (let clash : 0 < 0 = omega (arith, refs-are m, one_more, none) in omega arith)
      go false q =
          let is : n ≡ m = same_Some n m (near.used m had (omega (arith, refs-are m, none))) in
          absurd (let clash : true ≡ false = sym (eq-eqb n m is) ∙ q in cc)

  pub named-near : InvariantBut None (edit p (with_added id (child n)) c)
  named-near =
      record {
        firm =
            record {
              rising = subst Rises (sym births-same) near.firm.rising;
              within = subst (AllByRecursion (λ m. m ≤ c.born)) (sym births-same) near.firm.within;
              begun = near.firm.begun;
              named = all-edited HasNames HasNames p (with_added id (child n)) c.records near.firm.rising (λ r q k. k) names-kept near.firm.named;
              linked =
                  subst (λ (kinds : ℕ → Option TypeId). AllLinked kinds after.records) (sym kinds-same)
                  (all-edited (λ (r : Record). AllByRecursion (λ (s : List ℕ × Slot). Linked (kind_of c) s.1) r.slots)
                  (λ (r : Record). AllByRecursion (λ (s : List ℕ × Slot). Linked (kind_of c) s.1) r.slots) p (with_added id (child n)) c.records
                  near.firm.rising (λ r q k. k) (λ r e k. links-kept r k) near.firm.linked);
              one_parent = one-parent;
              none_round = no-round;
            };
        aliases = all-edited HasOwn HasOwn p (with_added id (child n)) c.records near.firm.rising (λ r q k. k) own-kept near.aliases;
        used = has-refs;
      }
