-- The slots of a new device get what was given, and its links where it stands: the tree stays sound.
use Rattle.std.proofs.Common.{◌≡◌, refl, ap, ap₂, sym, subst, ℕ, ◌≤◌, Bool, true, false, cond, List, [], ◌∷◌, map, sum_by, find, Option, Some, None, arith}
use Rattle.qo_model.proofs.Common.{AllByRecursion, IsDistinct, cons_option, bytes_eq, type_name, TypeId, Val, Board, Record, Slot, plain, child, strong, weak, alias, record_of, kind_of, slots_at, Given, given_to, index_from, slot_given, target_given, child_of, children_in, is_of, only_of, fitted, link_named, with_given, link_target, refs, refs_in, edit, is_open, lasting, PassesTo, is_named}
use Rattle.std.proofs.lemmas.List.Sums.{sum_by-cons}
use Rattle.qo_values.specs.declared.properties.Val.TheVariants as val
use Rattle.qo_model.proofs.FirstSlotLemmas.{Found, found-at}
use Rattle.qo_model.proofs.StepLemmas.{one_of}
use Rattle.qo_sound.proofs.RecordLemmas.{all-map, sum-edited}
use Rattle.qo_sound.proofs.SlotLemmas.{clocks-cons, clocks_in, one_child}
use Rattle.qo_sound.proofs.FirmBoardLemmas.{FitsKind, Linked, WellFormed, firm-edit}
use Rattle.qo_sound.proofs.NewSlotLemmas.{given-fits, given-names}
use Rattle.qo_sound.proofs.NewObjectLemmas.{fits-more}
use Rattle.qo_sound.proofs.TargetLemmas.{target-fits}
use Rattle.qo_sound.proofs.WorkLemmas.{HasOwn, InvariantBut}
use Rattle.qo_sound.proofs.ChangeLemmas.{IsGentle, near-changed}
use Rattle.qo_sound.proofs.CutLemmas.{near-edit}
use Rattle.qo_sound.proofs.DraftLemmas.{HoldsNone}
use Rattle.qo_sound.proofs.UnplugLemmas.{HasPins, slot-of}

-- a link of a name points at what is of its type

fitted-gentle : (b : Board) (m : ℕ) → IsGentle (fitted b m)
fitted-gentle b m = record { children = children; passes = passes }
  where
    children : (s : Slot) → child_of (fitted b m s) ≡ child_of s
    children (plain v) = refl
    children (child k) = refl
    children (strong t None) = refl
    children (strong t (Some k)) = refl
    children (weak t None) = refl
    children (weak t (Some k)) = refl
    children (alias k name) = refl

    passes : (ns : List ℕ) (s : Slot) → PassesTo ns s → PassesTo ns (fitted b m s)
    passes ns (plain v) h = h
    passes ns (child k) h = h
    passes ns (strong t None) h = h
    passes ns (strong t (Some k)) h = h
    passes ns (weak t None) h = h
    passes ns (weak t (Some k)) h = h
    passes ns (alias k name) h = h

only-fits : (b : Board) (t : TypeId) (m : ℕ) → FitsKind (kind_of b) t (only_of b (type_name t) m)
only-fits b t m = go (is_of b (type_name t) m) refl
  where
    go : (u : Bool) → is_of b (type_name t) m ≡ u → FitsKind (kind_of b) t (only_of b (type_name t) m)
    go true p = rw (only_of, p) p
    go false p = rw (only_of, p) tt

fitted-linked : (b : Board) (m : ℕ) (s : Slot) → Linked (kind_of b) s → Linked (kind_of b) (fitted b m s)
fitted-linked b m (plain v) h = h
fitted-linked b m (child k) h = h
fitted-linked b m (strong t None) h = only-fits b t m
fitted-linked b m (strong t (Some k)) h = h
fitted-linked b m (weak t None) h = only-fits b t m
fitted-linked b m (weak t (Some k)) h = h
fitted-linked b m (alias k name) h = h

fitted-count : (b : Board) (m k : ℕ) (s : Slot) → one_of k ([], s) ≤ one_of k ([], fitted b m s)
fitted-count b m k (plain v) = omega arith
fitted-count b m k (child j) = omega arith
fitted-count b m k (strong t None) = omega arith
fitted-count b m k (strong t (Some j)) = omega arith
fitted-count b m k (weak t None) = omega arith
fitted-count b m k (weak t (Some j)) = omega arith
fitted-count b m k (alias j name) = omega arith

pub held-linked : (ps : List ℕ) (n : ℕ) (name : List ℕ) (m : ℕ) (c : Board) → HasPins ps c → HasPins ps (link_named n name m c)
held-linked ps n name m c h = go (index_from (is_named name) 0 (slots_at c n)) refl
  where
    go : (o : Option ℕ) → index_from (is_named name) 0 (slots_at c n) ≡ o → HasPins ps (link_named n name m c)
    go None e = rw (link_named, e) h
    go (Some i) e =
        let f : Found (is_named name) (slots_at c n) i = found-at (is_named name) i (slots_at c n) e in
        rw (link_named, e) (record {
          near = near-changed (fitted c m) (fitted-gentle c m) None c n i f.entry.1 (slot-of c n i f.entry f.at) (fitted-linked c m f.entry.1)
              (λ k. fitted-count c m k f.entry.1) h.near;
          pins = h.pins;
        })

-- the values that were given, to slots that hold nothing

module _ (b : Board) (props : List Given) where
  given-by : (P : Slot → Slot → Type 0) → ((s : Slot) → P s s) → ((s : Slot) (v : Val) → P s (given_to b s v)) → (s : List ℕ × Slot)
      → P s.1 (slot_given b props s).1
  given-by P same by s = go (find (λ (p : Given). bytes_eq p.0 s.0) props) refl
    where
      go : (o : Option Given) → find (λ (p : Given). bytes_eq p.0 s.0) props ≡ o → P s.1 (slot_given b props s).1
      go None e = rw (slot_given, e) (same s.1)
      go (Some p) e = rw (slot_given, e) (by s.1 p.1)

  -- what is given to a slot is a value, or the target of a link
  to-cases : (P : Slot → Slot → Type 0) → ((s : Slot) → P s s) → ((old v : Val) → P (plain old) (plain v))
      → ((t : TypeId) (target : Option ℕ) (path : List ℕ) → P (strong t target) (strong t (target_given (link_target b t path))))
      → ((t : TypeId) (target : Option ℕ) (path : List ℕ) → P (weak t target) (weak t (target_given (link_target b t path)))) → (s : Slot) (v : Val)
      → P s (given_to b s v)
  to-cases P same on_plain on_strong on_weak (plain old) v = on_plain old v
  to-cases P same on_plain on_strong on_weak (child m) v = same (child m)
  to-cases P same on_plain on_strong on_weak (alias m name) v = same (alias m name)
  to-cases P same on_plain on_strong on_weak (strong t target) (val.Text path) = on_strong t target path
  to-cases P same on_plain on_strong on_weak (strong t target) (val.Bool v) = same (strong t target)
  to-cases P same on_plain on_strong on_weak (strong t target) (val.Int v) = same (strong t target)
  to-cases P same on_plain on_strong on_weak (strong t target) (val.Uint v) = same (strong t target)
  to-cases P same on_plain on_strong on_weak (strong t target) val.Nothing = same (strong t target)
  to-cases P same on_plain on_strong on_weak (weak t target) (val.Text path) = on_weak t target path
  to-cases P same on_plain on_strong on_weak (weak t target) (val.Bool v) = same (weak t target)
  to-cases P same on_plain on_strong on_weak (weak t target) (val.Int v) = same (weak t target)
  to-cases P same on_plain on_strong on_weak (weak t target) (val.Uint v) = same (weak t target)
  to-cases P same on_plain on_strong on_weak (weak t target) val.Nothing = same (weak t target)

  pub given-cases : (P : Slot → Slot → Type 0) → ((s : Slot) → P s s) → ((old v : Val) → P (plain old) (plain v))
      → ((t : TypeId) (target : Option ℕ) (path : List ℕ) → P (strong t target) (strong t (target_given (link_target b t path))))
      → ((t : TypeId) (target : Option ℕ) (path : List ℕ) → P (weak t target) (weak t (target_given (link_target b t path)))) → (s : List ℕ × Slot)
      → P s.1 (slot_given b props s).1
  given-cases P same on_plain on_strong on_weak s = given-by P same (to-cases P same on_plain on_strong on_weak) s

  given-child : (s : List ℕ × Slot) → child_of (slot_given b props s).1 ≡ child_of s.1
  given-child s = given-cases (λ x y. child_of y ≡ child_of x) (λ x. refl) (λ old v. refl) (λ t target path. refl) (λ t target path. refl) s

  given-passes : (ns : List ℕ) (s : List ℕ × Slot) → PassesTo ns s.1 → PassesTo ns (slot_given b props s).1
  given-passes ns s = given-cases (λ x y. PassesTo ns x → PassesTo ns y) (λ x h. h) (λ old v h. tt) (λ t target path h. tt) (λ t target path h. tt) s

  given-linked : (wide : ℕ → Option TypeId) → ((x : ℕ) (k : TypeId) → kind_of b x ≡ Some k → wide x ≡ Some k) → (s : List ℕ × Slot) → Linked wide s.1
      → Linked wide (slot_given b props s).1
  given-linked wide more s =
      given-cases (λ x y. Linked wide x → Linked wide y) (λ x h. h) (λ old v h. tt) (λ t target path h. fits t path) (λ t target path h. fits t path) s
    where
      fits : (t : TypeId) (path : List ℕ) → FitsKind wide t (target_given (link_target b t path))
      fits t path = fits-more (kind_of b) wide more t (target_given (link_target b t path)) (given-fits b t (link_target b t path) (target-fits b t path))

  given-count : (k : ℕ) (s : List ℕ × Slot) → HoldsNone s.1 → one_of k s ≤ one_of k (slot_given b props s)
  given-count k s = given-cases (λ x y. HoldsNone x → one_of k ([], x) ≤ one_of k ([], y)) (λ x h. omega arith) (λ old v h. omega arith) on_strong
      (λ t target path h. omega arith) s
    where
      on_strong : (t : TypeId) (target : Option ℕ) (path : List ℕ) → HoldsNone (strong t target)
          → one_of k ([], strong t target) ≤ one_of k ([], strong t (target_given (link_target b t path)))
      on_strong t None path h = omega arith
      on_strong t (Some m) path h = absurd h

  all-given : (P Q : List ℕ × Slot → Type 0) → ((s : List ℕ × Slot) → P s → Q (slot_given b props s)) → (slots : List (List ℕ × Slot)) → AllByRecursion P slots
      → AllByRecursion Q (map (slot_given b props) slots)
  all-given P Q is slots h = all-map P Q (slot_given b props) is slots h

  children-given : (slots : List (List ℕ × Slot)) → children_in (map (slot_given b props) slots) ≡ children_in slots
  children-given [] = refl
  children-given (s ∷ slots) = ap₂ cons_option (given-child s) (children-given slots)

  clocks-given : (slots : List (List ℕ × Slot)) → clocks_in (map (slot_given b props) slots) ≡ clocks_in slots
  clocks-given [] = refl
  clocks-given (s ∷ slots) = clocks-cons (slot_given b props s) s (map (slot_given b props) slots) slots refl (given-child s) (clocks-given slots)

  one-given : (x : ℕ) (s : List ℕ × Slot) → one_child x (slot_given b props s) ≡ one_child x s
  one-given x s = given-cases (λ y z. one_child x ([], z) ≡ one_child x ([], y)) (λ y. refl) (λ old v. refl) (λ t target path. refl) (λ t target path. refl) s

  parents-given : (x : ℕ) (slots : List (List ℕ × Slot)) → sum_by (one_child x) (map (slot_given b props) slots) ≡ sum_by (one_child x) slots
  parents-given x [] = refl
  parents-given x (s ∷ slots) = omega (
    arith,
    one-given x s,
    parents-given x slots,
    sum_by-cons (one_child x) (slot_given b props s) (map (slot_given b props) slots),
    sum_by-cons (one_child x) s slots,
  )

  refs-given : (k : ℕ) (slots : List (List ℕ × Slot)) → AllByRecursion (λ (s : List ℕ × Slot). HoldsNone s.1) slots
      → sum_by (one_of k) slots ≤ sum_by (one_of k) (map (slot_given b props) slots)
  refs-given k [] h = omega arith
  refs-given k (s ∷ slots) h = omega (
    arith,
    given-count k s h.0,
    refs-given k slots h.1,
    sum_by-cons (one_of k) (slot_given b props s) (map (slot_given b props) slots),
    sum_by-cons (one_of k) s slots,
  )

  pub near-given : (o : Option ℕ) (c : Board) (n : ℕ) → ((x : ℕ) (k : TypeId) → kind_of b x ≡ Some k → kind_of c x ≡ Some k) → (owner : Record)
      → record_of c n ≡ Some owner → AllByRecursion (λ (s : List ℕ × Slot). HoldsNone s.1) owner.slots → InvariantBut o c
      → InvariantBut o (edit n (with_given b props) c)
  near-given o c n wide owner found empty h = near-edit n (with_given b props) (λ r. refl) (λ r. refl) o c firm owns more h
    where
      firm : WellFormed (edit n (with_given b props) c)
      firm =
          firm-edit n (with_given b props) (λ r. refl) (λ r. refl) c h.firm
          (λ r e k. subst (IsDistinct bytes_eq) (sym (given-names b props r.slots)) k)
          (λ r e k. all-given (λ (s : List ℕ × Slot). Linked (kind_of c) s.1) (λ (s : List ℕ × Slot). Linked (kind_of c) s.1) (given-linked (kind_of c) wide)
          r.slots k)
          (λ x r. omega (arith, parents-given x r.slots))
          (λ r y e k. rw (children-given r.slots) at k)

      owns : (r : Record) → record_of c n ≡ Some r → HasOwn r → HasOwn (with_given b props r)
      owns r e k =
          let same : lasting (with_given b props r) ≡ lasting r = ap (λ (ns : List ℕ). cond (is_open r.birth) [] ns) (clocks-given r.slots) in
          subst (λ (ns : List ℕ). AllByRecursion (λ (s : List ℕ × Slot). PassesTo ns s.1) (map (slot_given b props) r.slots)) (sym same) (all-given
          (λ (s : List ℕ × Slot). PassesTo (lasting r) s.1) (λ (s : List ℕ × Slot). PassesTo (lasting r) s.1) (given-passes (lasting r)) r.slots k)

      more : (k : ℕ) → refs c k ≤ refs (edit n (with_given b props) c) k
      more k = omega (arith, refs-given k owner.slots empty, sum-edited (refs_in k) n (with_given b props) c.records h.firm.rising owner found)
