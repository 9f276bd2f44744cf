-- `object-add` keeps a board at rest, taken or refused.
use Rattle.std.proofs.Common.{◌≡◌, refl, ap, sym, subst, ◌∙◌, ℕ, ◌+◌, leb, Bool, true, false, cond, not, ◌==◌, List, [], ◌∷◌, ◌++◌, map, length, codes, sum_by, Option, Some, None, is_some, option_map, arith}
use Rattle.qo_model.proofs.Common.{AllByRecursion, list_any, option_map_or, if◌then◌else◌, bytes_eq, is_id, fresh_registers, OBJECTS_BIRTH, Code, E15, E21, E22, E23, E24, E43, TypeId, Board, Record, Slot, plain, child, strong, weak, alias, record_of, kind_of, is_live, with_added, Given, added_as, barred, given_slots, has_slot, init_notes, object_add, with_attempt, with_object, children_in, children_of, is_child, edit, edited, TypeInfo, is_a, LIVE_OBJECTS_MAX}
use Rattle.qo_model.specs.declared.notes.Note.{Note}
use Rattle.std.proofs.lemmas.Bool.{eqb-true, not-false}
use Rattle.std.proofs.lemmas.List.{map-append}
use Rattle.std.proofs.lemmas.List.Sums.{sum_by-cons}
use Rattle.qo_model.proofs.ComesToLemmas.{addition-comes}
use Rattle.qo_sound.proofs.SlotLemmas.{names_in, one_child}
use Rattle.qo_sound.proofs.FirmBoardLemmas.{Linked, AllLinked, parents_in, WellFormed, firm-born}
use Rattle.qo_sound.proofs.WorkLemmas.{InvariantBut}
use Rattle.qo_sound.proofs.ViewLemmas.{PinsRootAlone}
use Rattle.qo_sound.proofs.NewSlotLemmas.{all-lone, new-names}
use Rattle.qo_sound.proofs.NewObjectLemmas.{IsNew, children-none, grown, grown-near, grown-new, grown-old, grown-parents, new-absent}
use Rattle.qo_sound.proofs.ChildSlotLemmas.{IsNameless, leads-first, named-near}

-- an attempt takes a birth, and nothing else
pub attempt-rest : (b : Board) (t : TypeId) → PinsRootAlone b → PinsRootAlone (with_attempt b t)
attempt-rest b t h =
    record {
      used = record {
        firm = firm-born b (b.born + 1) (with_attempt b t).notes (omega arith) h.used.firm;
        aliases = h.used.aliases;
        used = h.used.used;
      };
      pinned = h.pinned;
    }

-- what is not there is no child
absent-child : (kinds : ℕ → Option TypeId) (n : ℕ) → kinds n ≡ None → (slots : List (List ℕ × Slot))
    → AllByRecursion (λ (s : List ℕ × Slot). Linked kinds s.1) slots → sum_by (one_child n) slots ≡ 0
absent-child kinds n gone [] h = refl
absent-child kinds n gone (s ∷ slots) h =
    let none : one_child n s ≡ 0 = at_slot s.1 h.0 in
    omega (arith, none, absent-child kinds n gone slots h.1, sum_by-cons (one_child n) s slots)
  where
    at_slot : (x : Slot) → Linked kinds x → cond {A = ℕ} (is_child n x) 1 0 ≡ 0
    at_slot (plain v) k = refl
    at_slot (child m) k = go (m == n) refl
      where
        go : (t : Bool) → (m == n) ≡ t → cond {A = ℕ} (is_child n (child m)) 1 0 ≡ 0
        go true p = absurd (let clash : false ≡ true = ap is_some (sym (ap kinds (eqb-true m n p) ∙ gone)) ∙ k in cc)
        go false p = rw (is_child, p) refl
    at_slot (strong t target) k = refl
    at_slot (weak t target) k = refl
    at_slot (alias m name) k = refl

pub absent-parents : (kinds : ℕ → Option TypeId) (n : ℕ) → kinds n ≡ None → (rs : List Record) → AllLinked kinds rs → sum_by (parents_in n) rs ≡ 0
absent-parents kinds n gone [] h = refl
absent-parents kinds n gone (r ∷ rs) h =
    omega (arith, absent-child kinds n gone r.slots h.0, absent-parents kinds n gone rs h.1, sum_by-cons (parents_in n) r rs)

-- a name that no slot has differs from each
pub name-free : (id : List ℕ) (slots : List (List ℕ × Slot)) → list_any (λ (s : List ℕ × Slot). bytes_eq s.0 id) slots ≡ false
    → AllByRecursion (λ name. bytes_eq name id ≡ false) (names_in slots)
name-free id [] e = tt
name-free id (s ∷ slots) e = go (bytes_eq s.0 id) refl (name-free id slots)
  where
    go : (t : Bool) → bytes_eq s.0 id ≡ t
        → (list_any (λ (x : List ℕ × Slot). bytes_eq x.0 id) slots ≡ false → AllByRecursion (λ name. bytes_eq name id ≡ false) (names_in slots))
        → AllByRecursion (λ name. bytes_eq name id ≡ false) (names_in (s ∷ slots))
    go true p rest = absurd (let clash : true ≡ false = rw p at e in cc)
    go false p rest = (p, rest (rw p at e))

-- the object that is made, and the notes after it
abbrev pub made : Board → TypeId → List Given → Record
made b t props = record { birth = b.born + 1; kind = t; slots = given_slots b t props; registers = fresh_registers t; device_id = None; kept_path = None }

abbrev noted : Board → TypeId → List Note
noted b t = b.notes ++ init_notes (b.born + 1) t

object-rest : (b : Board) (t : TypeId) (id : List ℕ) (props : List Given) → is_live b OBJECTS_BIRTH ≡ true → has_slot b OBJECTS_BIRTH id ≡ false
    → PinsRootAlone b
    → PinsRootAlone (with_object b t id props)
object-rest b t id props there free h = record {
  used = subst (λ (rs : List Record). InvariantBut None (record b { records = rs; born = b.born + 1; notes = noted b t })) same
      (go (record_of b OBJECTS_BIRTH) refl);
  pinned = h.pinned;
}
  where
    f : WellFormed b
    f = h.used.firm

    new : IsNew b (made b t props)
    new = record { birth = refl; names = new-names b t props; lone = all-lone b t props }

    apart : (o : Record) → record_of b OBJECTS_BIRTH ≡ Some o → (OBJECTS_BIRTH == b.born + 1) ≡ false
    apart o e = choose (OBJECTS_BIRTH == b.born + 1) refl
      where
        choose : (u : Bool) → (OBJECTS_BIRTH == b.born + 1) ≡ u → (OBJECTS_BIRTH == b.born + 1) ≡ false
        choose false p = p
        choose true p =
            let gone : record_of b OBJECTS_BIRTH ≡ None =
            ap (record_of b) (eqb-true OBJECTS_BIRTH (b.born + 1) p) ∙ new-absent b (made b t props) (noted b t) f new in
            absurd (let clash : Some o ≡ None = sym e ∙ gone in cc)

    other : (b.born + 1 == OBJECTS_BIRTH) ≡ false
    other = live_apart (record_of b OBJECTS_BIRTH) refl there
      where
        live_apart : (o : Option Record) → record_of b OBJECTS_BIRTH ≡ o → is_some o ≡ true → (b.born + 1 == OBJECTS_BIRTH) ≡ false
        live_apart None e k = absurd (let clash : false ≡ true = k in cc)
        live_apart (Some o) e k = let differs : (OBJECTS_BIRTH == b.born + 1) ≡ false = apart o e in grind (arith, differs)

    same : map (edited OBJECTS_BIRTH (with_added id (child (b.born + 1)))) (b.records ++ made b t props ∷ [])
        ≡ map (edited OBJECTS_BIRTH (with_added id (child (b.born + 1)))) b.records ++ made b t props ∷ []
    same = map-append (edited OBJECTS_BIRTH (with_added id (child (b.born + 1)))) b.records (made b t props ∷ [])
        ∙ ap (λ (x : Record). map (edited OBJECTS_BIRTH (with_added id (child (b.born + 1)))) b.records ++ x ∷ []) (rw (edited, other) refl)

    bare : (o : Record) → record_of b OBJECTS_BIRTH ≡ Some o → IsNameless (grown b (made b t props) (noted b t)) OBJECTS_BIRTH (b.born + 1) id
    bare o e =
        record {
          owner = o;
          found = grown-old b (made b t props) (noted b t) f new OBJECTS_BIRTH o e;
          free_name = name-free id o.slots
              (sym (ap (λ (x : Option Record). list_any (λ (s : List ℕ × Slot). bytes_eq s.0 id) (option_map_or (λ (y : Record). y.slots) x [])) e) ∙ free);
          there = ap (λ (x : Option Record). is_some (option_map (λ (y : Record). y.kind) x)) (grown-new b (made b t props) (noted b t) f new);
          no_parent = grown-parents b (made b t props) (noted b t) f new (b.born + 1) ∙ absent-parents (kind_of b) (b.born + 1)
              (ap (option_map (λ (y : Record). y.kind)) (new-absent b (made b t props) (noted b t) f new)) b.records f.linked;
          none_back = leads-first (children_of (grown b (made b t props) (noted b t)))
              (ap (λ (x : Option Record). children_in (option_map_or (λ (y : Record). y.slots) x [])) (grown-new b (made b t props) (noted b t) f new)
              ∙ children-none b (given_slots b t props) (all-lone b t props));
          apart = apart o e;
        }

    go : (o : Option Record) → record_of b OBJECTS_BIRTH ≡ o
        → InvariantBut None (edit OBJECTS_BIRTH (with_added id (child (b.born + 1))) (grown b (made b t props) (noted b t)))
    go None e = absurd (let clash : false ≡ true = sym (ap is_some e) ∙ there in cc)
    go (Some o) e =
        named-near (grown b (made b t props) (noted b t)) OBJECTS_BIRTH (b.born + 1) id (bare o e) (grown-near b (made b t props) (noted b t) f new h.used)

-- what is known where no reason bars an object
record IsFree (b : Board) (id : List ℕ) : Type 0 where
  there : is_live b OBJECTS_BIRTH ≡ true
  free : has_slot b OBJECTS_BIRTH id ≡ false

pub unbarred : (t : Bool) (code : Code) (o : Option Code) → (if t then Some code else o) ≡ None → (t ≡ false) × (o ≡ None)
unbarred true code o e = absurd (let clash : Some code ≡ None = e in cc)
unbarred false code o e = (refl, e)

free-from_barred : (b : Board) (row : TypeInfo) (id : List ℕ) → barred b row id ≡ None → IsFree b id
free-from_barred b row id e =
    let after_place : Option Code = if leb LIVE_OBJECTS_MAX (length b.records) then Some E43 else None in
    let after_name : Option Code = if has_slot b OBJECTS_BIRTH id then Some E24 else after_place in
    let after_there : Option Code = if not (is_live b OBJECTS_BIRTH) then Some E15 else after_name in
    let after_id : Option Code = if not (is_id id) then Some E23 else after_there in
    let after_type : Option Code = if not (is_a row.id (codes "user-creatable")) then Some E22 else after_id in
    let type_fits : (row.is_abstract ≡ false) × (after_type ≡ None) = unbarred row.is_abstract E21 after_type e in
    let id_fits : (not (is_a row.id (codes "user-creatable")) ≡ false) × (after_id ≡ None) =
    unbarred (not (is_a row.id (codes "user-creatable"))) E22 after_id type_fits.1 in
    let container : (not (is_id id) ≡ false) × (after_there ≡ None) = unbarred (not (is_id id)) E23 after_there id_fits.1 in
    let name : (not (is_live b OBJECTS_BIRTH) ≡ false) × (after_name ≡ None) = unbarred (not (is_live b OBJECTS_BIRTH)) E15 after_name container.1 in
    let place : (has_slot b OBJECTS_BIRTH id ≡ false) × (after_place ≡ None) = unbarred (has_slot b OBJECTS_BIRTH id) E24 after_place name.1 in
    record { there = not-false (is_live b OBJECTS_BIRTH) name.0; free = place.0 }

-- and its type is one that users may create
pub creatable : (b : Board) (row : TypeInfo) (id : List ℕ) → barred b row id ≡ None → is_a row.id (codes "user-creatable") ≡ true
creatable b row id e =
    let first = unbarred row.is_abstract E21 _ e in
    let second = unbarred (not (is_a row.id (codes "user-creatable"))) E22 _ first.1 in
    not-false (is_a row.id (codes "user-creatable")) second.0

added_as-rest : (b : Board) (t : TypeId) (id : List ℕ) (props : List Given) (refusal : Option Code) → IsFree b id → PinsRootAlone b
    → PinsRootAlone (added_as b t id props refusal).board
added_as-rest b t id props None free h = object-rest b t id props free.there free.free h
added_as-rest b t id props (Some code) free h = attempt-rest b t h

pub object_add-rest : (b : Board) (driver id : List ℕ) (props : List Given) → PinsRootAlone b → PinsRootAlone (object_add b driver id props).board
object_add-rest b driver id props h =
    addition-comes PinsRootAlone b driver id props h (λ row e refusal is. added_as-rest b row.id id props refusal (free-from_barred b row id e) h)
