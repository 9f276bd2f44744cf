-- `qom-set`, of any value at any path, leaves each object its children, so that a board that has a description has one after it.
use Rattle.std.proofs.Common.{◌≡◌, refl, ap, ap₂, sym, subst, ◌∙◌, ℕ, zero, suc, ◌<◌, Bool, true, false, cond, ◌==◌, List, [], ◌∷◌, map, slice_get, sum_by, Option, Some, None, is_some, option_map, Ok, arith}
use Rattle.std.proofs.lemmas.Bool.{eqb-true}
use Rattle.std.proofs.lemmas.List.Sums.{sum_by-cons}
use Rattle.std.proofs.lemmas.Option.{same_Some}
use Rattle.qo_model.proofs.Common.{AllByRecursion, list_any, ROOT_BIRTH, Act, TypeId, Val, Board, Record, Slot, plain, child, strong, weak, alias, is_live, kind_of, slot_at, slots_at, acted, with_act_on, after_write, point, pointed, set, with_changed, with_val, children_in, child_of, pointed_at, relinked, write, write_at, refs, refs_in, holds_it, after, drop_slot, edited, finalize, with_dropped, index_from, is_named, set_named, type_name}
use Rattle.qo_values.specs.declared.properties.Val.TheVariants as val
use Rattle.qo_model.specs.Board.{referent}
use Rattle.qo_model.proofs.ClockPropertyLemmas.{write_at-cases}
use Rattle.qo_model.proofs.ClockScopeLemmas.{write_at-stays}
use Rattle.qo_model.proofs.EditLemmas.{StandsAt, stands-at}
use Rattle.qo_model.proofs.GraphLemmas.{births_at}
use Rattle.qo_model.proofs.ReleaseWorkLemmas.{after-kept}
use Rattle.qo_model.proofs.StepLemmas.{found_at}
use Rattle.qo_model.proofs.WrittenLemmas.{IsLink, holding, seeing, link-childless, write-comes}
use Rattle.qo_model.specs.SoundGraph.{Rises}
use Rattle.qo_save.specs.Described.{is_describable}
use Rattle.qo_sound.proofs.ChangeLemmas.{gentle-val}
use Rattle.qo_sound.proofs.FirmBoardLemmas.{Linked, WellFormed}
use Rattle.qo_sound.proofs.RecordLemmas.{above-none, edited-none}
use Rattle.qo_sound.proofs.SlotLemmas.{child-pointed, children-changed, children-stay}
use Rattle.qo_sound.proofs.TestLemmas.{clash-back}
use Rattle.qo_sound.proofs.ViewLemmas.{rest-from_sound}
use Rattle.qo_sound_clocks.proofs.StepsLemmas.{calls-kept, kept-scaled, kept-set, KeepsNumbers}
use Rattle.qo_sound_devices.proofs.PlacesLemmas.{linked-at, of-live}
use Rattle.qo_good.specs.GoodBoards.{IsWhole}
use Rattle.qo_good.proofs.PlaceLemmas.{settled}
use Rattle.qo_rebuilt.proofs.KinLemmas.{Kin, kin, kin_of, has_child, place-kin, describable-same}

-- ---- edits

-- a change of an object that leaves its birth and its children, whatever it is
pub kin-edited : (n : ℕ) (change : Record → Record) → ((r : Record) → kin (change r) ≡ kin r) → (rs : List Record)
    → map kin (map (edited n change) rs) ≡ map kin rs
kin-edited n change same [] = refl
kin-edited n change same (r ∷ rs) = go (r.birth == n) refl (kin-edited n change same rs)
  where
    go : (t : Bool) → (r.birth == n) ≡ t → map kin (map (edited n change) rs) ≡ map kin rs
        → map kin (map (edited n change) (r ∷ rs)) ≡ map kin (r ∷ rs)
    go true q rest = rw (edited, q) (ap₂ (λ (k : Kin) (ks : List Kin). k ∷ ks) (same r) rest)
    go false q rest = rw (edited, q) (ap (λ (ks : List Kin). kin r ∷ ks) rest)

-- one that leaves them of the object that is found
kin-at : (n : ℕ) (change : Record → Record) (rs : List Record) → Rises (births_at rs) → (x : Record) → found_at n rs ≡ Some x → kin (change x) ≡ kin x
    → map kin (map (edited n change) rs) ≡ map kin rs
kin-at n change [] up x e same = refl
kin-at n change (r ∷ rs) up x e same = go (r.birth == n) refl (kin-at n change rs up.1 x)
  where
    go : (t : Bool) → (r.birth == n) ≡ t → (found_at n rs ≡ Some x → kin (change x) ≡ kin x → map kin (map (edited n change) rs) ≡ map kin rs)
        → map kin (map (edited n change) (r ∷ rs)) ≡ map kin (r ∷ rs)
    go true q rest =
        let none : found_at n rs ≡ None = rw (eqb-true r.birth n q) at (above-none r.birth rs up.0) in
        let is : r ≡ x = same_Some r x (rw q at e) in
        let own : kin (change r) ≡ kin r = subst (λ (y : Record). kin (change y) ≡ kin y) (sym is) same in
        rw (edited, q) (ap₂ (λ (k : Kin) (ks : List Kin). k ∷ ks) own (ap (map kin) (edited-none n change rs none)))
    go false q rest = rw (edited, q) (ap (λ (ks : List Kin). kin r ∷ ks) (rest (rw q at e) same))

pub kin-acted : (act : Act) (n period : ℕ) (b : Board) → kin_of (acted act n period b) ≡ kin_of b
unfolding acted
kin-acted act n period b = kin-edited n (with_act_on act b.now period) (λ r. refl) b.records

kin-set : (n i : ℕ) (v : Val) (b : Board) → kin_of (set n i v b) ≡ kin_of b
unfolding set
kin-set n i v b =
    kin-edited n (with_changed (with_val v) i)
    (λ r. ap (λ (ns : List ℕ). (r.birth, ns)) (children-changed (with_val v) (gentle-val v).children i r.slots)) b.records

kin-named : (n : ℕ) (name : List ℕ) (v : Val) (b : Board) → kin_of (set_named n name v b) ≡ kin_of b
kin-named n name v b = go (index_from (is_named name) 0 (slots_at b n)) refl
  where
    go : (o : Option ℕ) → index_from (is_named name) 0 (slots_at b n) ≡ o → kin_of (set_named n name v b) ≡ kin_of b
    go None e = rw (set_named, e) refl
    go (Some i) e = rw (set_named, e) (kin-set n i v b)

kin-pointed : (target : Option ℕ) (n i : ℕ) (b : Board) → kin_of (pointed_at target n i b) ≡ kin_of b
unfolding point
kin-pointed None n i b = refl
kin-pointed (Some m) n i b =
    kin-edited n (with_changed (pointed m) i)
    (λ r. ap (λ (ns : List ℕ). (r.birth, ns)) (children-changed (pointed m) (child-pointed m) i r.slots)) b.records

kin-drop : (b : Board) → WellFormed b → (n i : ℕ) (s : Slot) → slot_at b n i ≡ Some s → child_of s ≡ None → kin_of (drop_slot b n i) ≡ kin_of b
unfolding drop_slot
kin-drop b firm n i s e none =
    let at : StandsAt b n i s = stands-at b n i s e in
    kin-at n (with_dropped i) b.records firm.rising at.owner at.found
    (ap (λ (ns : List ℕ). (at.owner.birth, ns)) (children-stay i at.owner.slots at.entry at.at (ap child_of at.is ∙ none)))

pins-pointed : (b : Board) (n i : ℕ) (target : Option ℕ) → (pointed_at target n i (drop_slot b n i)).pins ≡ b.pins
unfolding point drop_slot
pins-pointed b n i None = refl
pins-pointed b n i (Some m) = refl

-- ---- a child is held

-- one where a slot holds m
abbrev one_hold : ℕ → List ℕ × Slot → ℕ
one_hold m s = cond {A = ℕ} (holds_it m s.1) 1 0

child-counts : (m : ℕ) (slots : List (List ℕ × Slot)) → list_any (λ (k : ℕ). k == m) (children_in slots) ≡ true
    → 0 < sum_by (one_hold m) slots
child-counts m [] e = clash-back e
child-counts m ((name, child k) ∷ slots) e = go (k == m) refl (child-counts m slots)
  where
    go : (t : Bool) → (k == m) ≡ t → (list_any (λ (x : ℕ). x == m) (children_in slots) ≡ true → 0 < sum_by (one_hold m) slots)
        → 0 < sum_by (one_hold m) ((name, child k) ∷ slots)
    go true q rest =
        let own : one_hold m (name, child k) ≡ 1 = rw q refl in
        omega (arith, own, sum_by-cons (one_hold m) (name, child k) slots)
    go false q rest = omega (arith, rest (rw q at e), sum_by-cons (one_hold m) (name, child k) slots)
child-counts m ((name, plain v) ∷ slots) e =
    omega (arith, child-counts m slots e, sum_by-cons (one_hold m) (name, plain v) slots)
child-counts m ((name, strong t target) ∷ slots) e =
    omega (arith, child-counts m slots e, sum_by-cons (one_hold m) (name, strong t target) slots)
child-counts m ((name, weak t target) ∷ slots) e =
    omega (arith, child-counts m slots e, sum_by-cons (one_hold m) (name, weak t target) slots)
child-counts m ((name, alias k property) ∷ slots) e =
    omega (arith, child-counts m slots e, sum_by-cons (one_hold m) (name, alias k property) slots)

child-held : (m : ℕ) (rs : List Record) → list_any (has_child m) (map kin rs) ≡ true → 0 < sum_by (refs_in m) rs
child-held m [] e = clash-back e
child-held m (r ∷ rs) e = go (has_child m (kin r)) refl (child-held m rs)
  where
    go : (t : Bool) → has_child m (kin r) ≡ t → (list_any (has_child m) (map kin rs) ≡ true → 0 < sum_by (refs_in m) rs) → 0 < sum_by (refs_in m) (r ∷ rs)
    go true q rest = omega (arith, child-counts m r.slots q, sum_by-cons (refs_in m) r rs)
    go false q rest = omega (arith, rest (rw q at e), sum_by-cons (refs_in m) r rs)

-- ---- links

all-got : {X : Type 0} (P : X → Type 0) (xs : List X) → AllByRecursion P xs → (i : ℕ) (x : X) → slice_get xs i ≡ Some x → P x
all-got P [] h i x e = cc
all-got P (y ∷ xs) h zero x e = subst P (same_Some y x e) h.0
all-got P (y ∷ xs) h (suc i) x e = all-got P xs h.1 i x e

module _ (b : Board) (h : IsWhole b) (says : is_describable b ≡ true) where
  firm : WellFormed b
  firm = (rest-from_sound b h.order.devices.tree).used.firm

  -- each object is held, as a child or, as `/` is, from outside
  held : (c : Board) → kin_of c ≡ kin_of b → c.pins ≡ b.pins → (m : ℕ) → is_live b m ≡ true → 0 < refs c m
  held c same pins m live = go (m == ROOT_BIRTH) refl
    where
      pinned : c.pins ≡ 1 ∷ []
      pinned = pins ∙ (rest-from_sound b h.order.devices.tree).pinned

      go : (t : Bool) → (m == ROOT_BIRTH) ≡ t → 0 < refs c m
      go true q =
          let is : m ≡ 1 = eqb-true m ROOT_BIRTH q in
          let one : sum_by (λ (k : ℕ). cond {A = ℕ} (k == m) 1 0) c.pins ≡ 1 =
          ap (λ (ps : List ℕ). sum_by (λ (k : ℕ). cond {A = ℕ} (k == m) 1 0) ps) pinned
          ∙ ap (λ (x : ℕ). sum_by (λ (k : ℕ). cond {A = ℕ} (k == x) 1 0) (1 ∷ [])) is in
          omega (arith, one)
      go false q =
          let (u, place) = settled b h.order says m live q in
          let own : list_any (has_child m) (kin_of c) ≡ true =
          ap (list_any (has_child m)) same ∙ sym (place-kin b m) ∙ ap is_some place in
          omega (arith, child-held m c.records own)

  target-there : (n i : ℕ) (name : List ℕ) (s : Slot) (t : TypeId) → IsLink t s → slice_get (slots_at b n) i ≡ Some (name, s) → (m : ℕ)
      → referent s ≡ Some m → is_live b m ≡ true
  target-there n i name s t (holding target) at m e =
      of-live b (type_name t) m
      (subst (λ (o : Option ℕ). Linked (kind_of b) (strong t o)) e
      (all-got (λ (x : List ℕ × Slot). Linked (kind_of b) x.1) (slots_at b n) (linked-at b firm n) i (name, strong t target) at))
  target-there n i name s t (seeing target) at m e = absurd (let clash : None ≡ Some m = e in cc)

  -- what a link that is written held before is held by its parent, so nothing ends
  kin-linked : (n i : ℕ) (name : List ℕ) (s : Slot) (t : TypeId) → IsLink t s → slice_get (slots_at b n) i ≡ Some (name, s) → (target : Option ℕ)
      → kin_of (relinked b n i target) ≡ kin_of b
  kin-linked n i name s t link at target =
      let there : slot_at b n i ≡ Some s = ap (option_map (λ (x : List ℕ × Slot). x.1)) at in
      let c : Board = pointed_at target n i (drop_slot b n i) in
      let same : kin_of c ≡ kin_of b = kin-pointed target n i (drop_slot b n i) ∙ kin-drop b firm n i s there (link-childless t s link) in
      let stays : after finalize c (referent s) ≡ c =
      after-kept c (referent s) (λ m e. held c same (pins-pointed b n i target) m (target-there n i name s t link at m e)) in
      rw (relinked, there) (ap kin_of stays ∙ same)

  kin-write : (d : Board) (n : ℕ) (name : List ℕ) (v : Val) → write b n name v ≡ Ok d → kin_of d ≡ kin_of b
  kin-write d n name v e =
      subst (λ (x : Board). kin_of x ≡ kin_of b) (ap (after_write b) e)
      (write-comes (λ (x : Board). kin_of x ≡ kin_of b) b refl n name v (λ i t p kind its may. record {
        value = λ old at type first is fits. kin-set n i v b;
        link = λ u s left link leaves at to holds is path target told. kin-linked n i name s u link at target;
      }))

  numbers : KeepsNumbers (λ (x : Board). kin_of x ≡ kin_of b)
  numbers name no_slot no_mark n v x k = kin-named n name (val.Uint v) x ∙ k

  calls : (act : Act) (n period : ℕ) (x : Board) → kin_of x ≡ kin_of b → kin_of (acted act n period x) ≡ kin_of b
  calls act n period x k = kin-acted act n period x ∙ k

  kin-write_at : (d : Board) (path name : List ℕ) (v : Val) → write_at b path name v ≡ Ok d → kin_of d ≡ kin_of b
  kin-write_at d path name v e =
      write_at-cases (kin_of d ≡ kin_of b) b d
      (λ n own w q. kin-write d n own w q)
      (λ c period fits q. kept-set (λ (x : Board). kin_of x ≡ kin_of b) (calls-kept (λ (x : Board). kin_of x ≡ kin_of b) calls) numbers b d c period q refl)
      (λ c mul fits q. kept-scaled (λ (x : Board). kin_of x ≡ kin_of b) (calls-kept (λ (x : Board). kin_of x ≡ kin_of b) calls) numbers b d c mul _ q refl)
      (λ c div fits q. kept-scaled (λ (x : Board). kin_of x ≡ kin_of b) (calls-kept (λ (x : Board). kin_of x ≡ kin_of b) calls) numbers b d c _ div q refl)
      path name v e

pub describable-wrote : (b c : Board) (path name : List ℕ) (v : Val) → IsWhole b → write_at b path name v ≡ Ok c → is_describable b ≡ true
    → is_describable c ≡ true
describable-wrote b c path name v h e says =
    describable-same b c (kin-write_at b h says c path name v e) (write_at-stays b c path name v e).pending says
