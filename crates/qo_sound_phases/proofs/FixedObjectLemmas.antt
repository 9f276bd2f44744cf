-- Objects that steps leave where they are: each that is still there has the same children, bus and type.
use Rattle.std.proofs.Common.{inr, ◌≡◌, refl, ap, sym, subst, ◌∙◌, ℕ, zero, suc, true, false, ◌==◌, List, [], ◌∷◌, filter_map, find, slice_get, Option, Some, None, is_some, option_map, option_and_then, codes}
use Rattle.qo_model.proofs.Common.{option_map_or, bytes_eq, Val, Board, Record, Slot, plain, child, strong, weak, alias, record_of, kind_of, is_live, slots_at, slot_at, changed_at, point, pointed, set, with_changed, with_val, bus_of, strong_in, after_write, child_of, pointed_at, relinked, property_named, write, after, drop_slot, edit, edited, finalize, let_go, with_dropped, without_hold}
use Rattle.std.proofs.lemmas.Bool.{eqb-true}
use Rattle.std.proofs.lemmas.Option.{same_Some}
use Rattle.qo_model.specs.Board.{referent}
use Rattle.qo_model.proofs.EditLemmas.{StandsAt, stands-at}
use Rattle.qo_model.proofs.FirstSlotLemmas.{named_in, named-other}
use Rattle.qo_model.proofs.StepLemmas.{found-edited, is_some-map, map-edited}
use Rattle.qo_model.proofs.WrittenLemmas.{link-childless}
use Rattle.qo_model.proofs.WrittenLemmas.{write-comes}
use Rattle.qo_sound_devices.proofs.WriteLemmas.{row-fits}
use Rattle.qo_sound.proofs.FirmBoardLemmas.{WellFormed}
use Rattle.qo_sound.proofs.TestLemmas.{decide, clash-back}
use Rattle.qo_sound_devices.specs.SoundPlaces.{child_entries, child_entry}
use Rattle.qo_sound_devices.proofs.LikenessLemmas.{after-alike, other-record}
use Rattle.qo_sound_devices.proofs.DropLemmas.{children-kept, edited-slots, names-at, strong-dropped}
use Rattle.qo_sound_devices.proofs.PlacesLemmas.{kind-alike}
use Rattle.qo_sound_devices.proofs.StepsLemmas.{steps-after}
use Rattle.qo_sound_devices.proofs.UnrealizingLemmas.{entries-changed}
use Rattle.qo_sound_devices.proofs.WriteLemmas.{child-entry-pointed}

-- an object as it was
pub record SameAt (b c : Board) (x : ℕ) : Type 0 where
  pub live : is_live b x ≡ true
  pub children : child_entries c x ≡ child_entries b x
  pub bus : bus_of c x ≡ bus_of b x
  pub kind : kind_of c x ≡ kind_of b x

-- so is each of some that is still there
abbrev pub Fixed : (ℕ → Type 0) → Board → Board → Type 0
Fixed On b c = (x : ℕ) → On x → is_live c x ≡ true → SameAt b c x

pub fixed-none : (On : ℕ → Type 0) (b : Board) → Fixed On b b
fixed-none On b x on e = record { live = e; children = refl; bus = refl; kind = refl }

pub fixed-then : (On : ℕ → Type 0) (b c d : Board) → Fixed On b c → Fixed On c d → Fixed On b d
fixed-then On b c d h k x on e =
    let second : SameAt c d x = k x on e in
    let first : SameAt b c x = h x on second.live in
    record {
      live = first.live;
      children = second.children ∙ first.children;
      bus = second.bus ∙ first.bus;
      kind = second.kind ∙ first.kind;
    }

pub fixed-after : (On : ℕ → Type 0) (b : Board) (o : Option ℕ) → Fixed On b (after finalize b o)
fixed-after On b o x on e =
    record {
      live = (steps-after b o).live x e;
      children = (after-alike b o x e).children;
      bus = (after-alike b o x e).bus;
      kind = kind-alike b (after finalize b o) x (after-alike b o x e).body;
    }

-- the same record
pub same-record : (b c : Board) (x : ℕ) → record_of c x ≡ record_of b x → is_live c x ≡ true → SameAt b c x
same-record b c x e live =
    record {
      live = sym (ap is_some e) ∙ live;
      children = ap (λ (o : Option Record). filter_map child_entry (option_map_or (λ (r : Record). r.slots) o [])) e;
      bus =
          ap
          (λ (o : Option Record). option_and_then strong_in
          (option_map (λ (s : List ℕ × Slot). s.1) (find (λ s. bytes_eq s.0 (codes "parent_bus")) (option_map_or (λ (r : Record). r.slots) o [])))) e;
      kind = ap (option_map (λ (r : Record). r.kind)) e;
    }

-- slots with the same children and bus
pub record SameSlots (xs ys : List (List ℕ × Slot)) : Type 0 where
  pub children : filter_map child_entry ys ≡ filter_map child_entry xs
  pub bus : option_and_then strong_in (named_in (codes "parent_bus") ys) ≡ option_and_then strong_in (named_in (codes "parent_bus") xs)

-- an edit of one object
pub fixed-edit : (On : ℕ → Type 0) (n : ℕ) (change : Record → Record) → ((r : Record) → (change r).birth ≡ r.birth)
    → ((r : Record) → (change r).kind ≡ r.kind) → (b : Board) → (On n → (r : Record) → record_of b n ≡ Some r → SameSlots r.slots (change r).slots)
    → Fixed On b (edit n change b)
fixed-edit On n change birth kind b same x on e = decide (x == n) own other
  where
    c : Board
    c = edit n change b

    found : record_of (edit n change b) x ≡ option_map (edited n change) (record_of b x)
    found = found-edited n change birth x b.records

    was : is_live b x ≡ true
    was = sym (ap is_some found ∙ is_some-map (edited n change) (record_of b x)) ∙ e

    other : (x == n) ≡ false → SameAt b (edit n change b) x
    other p = same-record b (edit n change b) x (found ∙ other-record n x change b refl p (record_of b x) refl) e

    own : (x == n) ≡ true → SameAt b (edit n change b) x
    own p = subst (λ (y : ℕ). On y → is_live (edit n change b) y ≡ true → SameAt b (edit n change b) y) (sym (eqb-true x n p)) here on e
      where
        here : On n → is_live (edit n change b) n ≡ true → SameAt b (edit n change b) n
        here its live = at_record (record_of b n) refl
          where
            found_own : record_of (edit n change b) n ≡ option_map (edited n change) (record_of b n)
            found_own = found-edited n change birth n b.records

            at_record : (o : Option Record) → record_of b n ≡ o → SameAt b (edit n change b) n
            at_record None q = clash-back (sym (ap is_some (found_own ∙ ap (option_map (edited n change)) q)) ∙ live)
            at_record (Some r) q =
                let now : slots_at (edit n change b) n ≡ (change r).slots = edited-slots b n change birth r q in
                let before : slots_at b n ≡ r.slots = ap (λ (o : Option Record). option_map_or (λ (y : Record). y.slots) o []) q in
                let s : SameSlots r.slots (change r).slots = same its r q in
                record {
                  live = ap is_some q;
                  children = ap (filter_map child_entry) now ∙ s.children ∙ sym (ap (filter_map child_entry) before);
                  bus =
                      ap (λ (ss : List (List ℕ × Slot)). option_and_then strong_in (named_in (codes "parent_bus") ss)) now
                      ∙ s.bus
                      ∙ sym (ap (λ (ss : List (List ℕ × Slot)). option_and_then strong_in (named_in (codes "parent_bus") ss)) before);
                  kind = ap (option_map (λ (y : Record). y.kind)) found_own ∙ map-edited (λ (y : Record). y.kind) n change kind (record_of b n);
                }

-- an edit of none of them
pub fixed-apart : (On : ℕ → Type 0) (n : ℕ) (change : Record → Record) → ((r : Record) → (change r).birth ≡ r.birth)
    → ((r : Record) → (change r).kind ≡ r.kind) → (b : Board) → (On n → ⊥) → Fixed On b (edit n change b)
fixed-apart On n change birth kind b apart = fixed-edit On n change birth kind b (λ on r e. absurd (apart on))

pub fixed-let_go : (On : ℕ → Type 0) (n i : ℕ) (b : Board) → (On n → ⊥) → Fixed On b (let_go b n i)
unfolding let_go drop_slot
fixed-let_go On n i b apart = go (slot_at b n i) refl
  where
    go : (o : Option Slot) → slot_at b n i ≡ o → Fixed On b (let_go b n i)
    go None e = rw (let_go, e) (fixed-none On b)
    go (Some s) e =
        rw (let_go, e)
        (fixed-then On b (drop_slot b n i) (after finalize (drop_slot b n i) (referent s)) (fixed-apart On n (with_dropped i) (λ r. refl) (λ r. refl) b apart)
        (fixed-after On (drop_slot b n i) (referent s)))

-- a slot of another name is changed
pub child-val : (v : Val) (s : List ℕ × Slot) → child_entry (s.0, with_val v s.1) ≡ child_entry s
child-val v (name, plain w) = refl
child-val v (name, child m) = refl
child-val v (name, strong t target) = refl
child-val v (name, weak t target) = refl
child-val v (name, alias m property) = refl

changed-slots : (g : Slot → Slot) → ((s : List ℕ × Slot) → child_entry (s.0, g s.1) ≡ child_entry s) → (i : ℕ) (slots : List (List ℕ × Slot))
    → (s : List ℕ × Slot) → slice_get slots i ≡ Some s → bytes_eq s.0 (codes "parent_bus") ≡ false → SameSlots slots (changed_at g i slots)
changed-slots g same i slots s at apart =
    record {
      children = entries-changed child_entry g same i slots;
      bus = ap (option_and_then strong_in) (named-other g (codes "parent_bus") i slots s at apart);
    }

-- the slot at a place, which is under another name
record Other (b : Board) (n i : ℕ) : Type 0 where
  named : (r : Record) (s : List ℕ × Slot) → record_of b n ≡ Some r → slice_get r.slots i ≡ Some s → bytes_eq s.0 (codes "parent_bus") ≡ false

fixed-changed : (On : ℕ → Type 0) (g : Slot → Slot) → ((s : List ℕ × Slot) → child_entry (s.0, g s.1) ≡ child_entry s) → (n i : ℕ) (b : Board)
    → Other b n i → Fixed On b (edit n (with_changed g i) b)
fixed-changed On g same n i b other = fixed-edit On n (with_changed g i) (λ r. refl) (λ r. refl) b slots
  where
    past : (g : Slot → Slot) (i : ℕ) (xs : List (List ℕ × Slot)) → slice_get xs i ≡ None → changed_at g i xs ≡ xs
    past g i [] e = refl
    past g zero (x ∷ xs) e = absurd (let bad : Some x ≡ None = e in cc)
    past g (suc i) (x ∷ xs) e = ap (λ (ys : List (List ℕ × Slot)). x ∷ ys) (past g i xs e)

    slots : On n → (r : Record) → record_of b n ≡ Some r → SameSlots r.slots (changed_at g i r.slots)
    slots on r q = go (slice_get r.slots i) refl
      where
        go : (o : Option (List ℕ × Slot)) → slice_get r.slots i ≡ o → SameSlots r.slots (changed_at g i r.slots)
        go None e = subst (SameSlots r.slots) (sym (past g i r.slots e)) (record { children = refl; bus = refl })
        go (Some s) e = changed-slots g same i r.slots s e (other.named r s q e)

module _ (On : ℕ → Type 0) (b : Board) (firm : WellFormed b) (n i : ℕ) (other : Other b n i) where
  fixed-set : (v : Val) → Fixed On b (set n i v b)
  unfolding set
  fixed-set v = fixed-changed On (with_val v) (child-val v) n i b other

  -- a slot that is no child is let go
  fixed-drop : (s : Slot) → slot_at b n i ≡ Some s → child_of s ≡ None → Fixed On b (drop_slot b n i)
  unfolding drop_slot
  fixed-drop s e none = fixed-edit On n (with_dropped i) (λ r. refl) (λ r. refl) b slots
    where
      at : StandsAt b n i s
      at = stands-at b n i s e

      slots : On n → (r : Record) → record_of b n ≡ Some r → SameSlots r.slots (without_hold i r.slots)
      slots on r q =
          let is : at.owner ≡ r = same_Some at.owner r (sym at.found ∙ q) in
          let here : slice_get r.slots i ≡ Some at.entry = subst (λ (y : Record). slice_get y.slots i ≡ Some at.entry) is at.at in
          record {
            children = children-kept i r.slots at.entry here (ap child_of at.is ∙ none);
            bus = strong-dropped (codes "parent_bus") i r.slots (names-at b firm n r q) at.entry here (inr (other.named r at.entry q here));
          }

  still-other : (s : Slot) → slot_at b n i ≡ Some s → child_of s ≡ None → Other (drop_slot b n i) n i
  unfolding drop_slot
  still-other s e none = record { named = named }
    where
      at : StandsAt b n i s
      at = stands-at b n i s e

      name-at : (j : ℕ) (xs : List (List ℕ × Slot)) (x y : List ℕ × Slot) → slice_get xs j ≡ Some x → child_of x.1 ≡ None
          → slice_get (without_hold j xs) j ≡ Some y → y.0 ≡ x.0
      name-at j [] x y p q r = absurd (let bad : None ≡ Some x = p in cc)
      name-at (suc j) (z ∷ xs) x y p q r = name-at j xs x y p q r
      name-at zero ((name, plain v) ∷ xs) x y p q r =
          let one : (name, plain v) ≡ x = same_Some (name, plain v) x p in
          let two : (name, plain v) ≡ y = same_Some (name, plain v) y r in
          sym (ap (λ (z : List ℕ × Slot). z.0) two) ∙ ap (λ (z : List ℕ × Slot). z.0) one
      name-at zero ((name, child m) ∷ xs) x y p q r =
          let one : (name, child m) ≡ x = same_Some (name, child m) x p in
          absurd (let bad : Some m ≡ None = ap (λ (z : List ℕ × Slot). child_of z.1) one ∙ q in cc)
      name-at zero ((name, strong t target) ∷ xs) x y p q r =
          let one : (name, strong t target) ≡ x = same_Some (name, strong t target) x p in
          let two : (name, strong t None) ≡ y = same_Some (name, strong t None) y r in
          sym (ap (λ (z : List ℕ × Slot). z.0) two) ∙ ap (λ (z : List ℕ × Slot). z.0) one
      name-at zero ((name, weak t target) ∷ xs) x y p q r =
          let one : (name, weak t target) ≡ x = same_Some (name, weak t target) x p in
          let two : (name, weak t None) ≡ y = same_Some (name, weak t None) y r in
          sym (ap (λ (z : List ℕ × Slot). z.0) two) ∙ ap (λ (z : List ℕ × Slot). z.0) one
      name-at zero ((name, alias m property) ∷ xs) x y p q r =
          let one : (name, alias m property) ≡ x = same_Some (name, alias m property) x p in
          let two : (name, alias m property) ≡ y = same_Some (name, alias m property) y r in
          sym (ap (λ (z : List ℕ × Slot). z.0) two) ∙ ap (λ (z : List ℕ × Slot). z.0) one

      named : (r : Record) (y : List ℕ × Slot) → record_of (edit n (with_dropped i) b) n ≡ Some r → slice_get r.slots i ≡ Some y
          → bytes_eq y.0 (codes "parent_bus") ≡ false
      named r y q k =
          let now : slots_at (edit n (with_dropped i) b) n ≡ without_hold i at.owner.slots = edited-slots b n (with_dropped i) (λ x. refl) at.owner at.found in
          let is : slots_at (edit n (with_dropped i) b) n ≡ r.slots = ap (λ (o : Option Record). option_map_or (λ (x : Record). x.slots) o []) q in
          let there : slice_get (without_hold i at.owner.slots) i ≡ Some y = ap (λ (xs : List (List ℕ × Slot)). slice_get xs i) (sym now ∙ is) ∙ k in
          subst (λ (name : List ℕ). bytes_eq name (codes "parent_bus") ≡ false)
          (sym (name-at i at.owner.slots at.entry y at.at (ap child_of at.is ∙ none) there))
          (other.named at.owner at.entry at.found at.at)

  fixed-relinked : (s : Slot) → slot_at b n i ≡ Some s → child_of s ≡ None → (target : Option ℕ) → Fixed On b (relinked b n i target)
  unfolding point
  fixed-relinked s e none target =
      rw (relinked, e)
      (fixed-then On b (pointed_at target n i (drop_slot b n i)) (after finalize (pointed_at target n i (drop_slot b n i)) (referent s))
      (fixed-then On b (drop_slot b n i) (pointed_at target n i (drop_slot b n i)) (fixed-drop s e none) (points target))
      (fixed-after On (pointed_at target n i (drop_slot b n i)) (referent s)))
    where
      points : (to : Option ℕ) → Fixed On (drop_slot b n i) (pointed_at to n i (drop_slot b n i))
      points None = fixed-none On (drop_slot b n i)
      points (Some m) = fixed-changed On (pointed m) (child-entry-pointed m) n i (drop_slot b n i) (still-other s e none)

pub fixed-write : (On : ℕ → Type 0) (b : Board) → WellFormed b → (n : ℕ) (name : List ℕ) (v : Val) → Fixed On b (after_write b (write b n name v))
fixed-write On b firm n name v = write-comes (Fixed On b) b (fixed-none On b) n name v (λ i t p kind e may.
    let apart : bytes_eq name (codes "parent_bus") ≡ false =
    (row-fits b n name p (ap (option_and_then (λ k. property_named k name)) kind ∙ e) may).unlinked in
    let other : (s : Slot) → slice_get (slots_at b n) i ≡ Some (name, s) → Other b n i = λ s at. record {
      named = λ r x found its.
          let was : slots_at b n ≡ r.slots = ap (λ (o : Option Record). option_map_or (λ (y : Record). y.slots) o []) found in
          let same : (name, s) ≡ x = same_Some (name, s) x (sym at ∙ ap (λ (xs : List (List ℕ × Slot)). slice_get xs i) was ∙ its) in
          subst (λ (y : List ℕ × Slot). bytes_eq y.0 (codes "parent_bus") ≡ false) same apart;
    } in
    record {
      value = λ old at type first is fits. fixed-set On b firm n i (other (plain old) at) v;
      link = λ u s left link leaves at to holds is path target told.
          fixed-relinked On b firm n i (other s at) s (ap (option_map (λ (x : List ℕ × Slot). x.1)) at) (link-childless u s link) target;
    })
