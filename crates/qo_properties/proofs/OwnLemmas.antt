-- While the opening board is made, each object keeps the periods that it has where it goes by no other.
use Rattle.std.proofs.Common.{if◌then◌else◌, rules, ◌≡◌, refl, ap, sym, subst, ◌∙◌, ℕ, ◌^◌, ◌-◌, min, Bool, true, false, eqb, List, [], ◌∷◌, ◌++◌, codes, find, Option, Some, None, option_map, unwrap_or}
use Rattle.std.specs.Option.{option_and_then}
use Rattle.std.specs.Str.{bytes_eq}
use Rattle.std.proofs.lemmas.Bool.{eqb-true}
use Rattle.std.proofs.lemmas.Option.{same_Some}
use Rattle.qo_values.specs.declared.kinds.TypeId.{TypeId}
use Rattle.qo_values.specs.declared.kinds.TypeId.TheVariants.{Clock}
use Rattle.qo_values.proofs.EachLemmas.{each}
use Rattle.qo_slots.specs.declared.keys.Key.{Key}
use Rattle.qo_model.specs.Clocks.{scaled_by}
use Rattle.qo_model.specs.Types.{types}
use Rattle.qo_object.specs.declared.slots.Slot.TheVariants.{Child}
use Rattle.qo_object.specs.Slots.{Named}
use Rattle.qo_object.specs.Content.{Content, as_made, fresh, with_slot}
use Rattle.qo_heap.specs.Acts.{periods_of}
use Rattle.qo_heap.specs.Rows.{object_at}
use Rattle.qo_heap.specs.Objects.{Objects, content_of, slots_of, with_edit}
use Rattle.qo_heap.proofs.BoardObjects.{content-edited, content-other}
use Rattle.qo_clocks.specs.Reads.{number_in_slot}
use Rattle.qo_properties.specs.KeptPeriods.{OwnKept}
use Rattle.qo_properties.specs.NewSlots.{new_slots, with_slots}
use Rattle.qo_properties.specs.OpeningSteps.{ticking}

-- the numbers of an object, by its slots alone

abbrev number_among : List ℕ → List Named → Option ℕ
number_among name slots = option_and_then number_in_slot (option_map (λ (s : Named). s.1) (find (λ (s : Named). bytes_eq name s.0) slots))

abbrev own_among : List Named → ℕ
own_among slots = unwrap_or (number_among (codes "period") slots) 0

abbrev periods_among : List Named → ℕ × ℕ
periods_among slots =
    let own = own_among slots in
    (own, min (scaled_by (unwrap_or (number_among (codes "mul") slots) 1) (unwrap_or (number_among (codes "div") slots) 1) own) (2 ^ 64 - 1))

abbrev pub IsOwn : Content → Type 0
IsOwn c = periods_of c ≡ periods_among c.slots

own-slots : (v : Objects) (n : ℕ) (c : Content) → content_of v n ≡ Some c → slots_of v n ≡ c.slots
own-slots v n c there = rw there refl

own-there : (v : Objects) → OwnKept v → (n : ℕ) (c : Content) → content_of v n ≡ Some c → IsOwn c
own-there v own n c there = own n c there ∙ ap periods_among (own-slots v n c there)

own-each : (v : Objects) → ((n : ℕ) (c : Content) → content_of v n ≡ Some c → IsOwn c) → OwnKept v
own-each v each_own n c there = each_own n c there ∙ ap periods_among (sym (own-slots v n c there))

-- an edit that keeps it
pub own-edited : (v : Objects) (n : ℕ) (f : Content → Content) → ((c : Content) → content_of v n ≡ Some c → IsOwn c → IsOwn (f c)) → OwnKept v
    → OwnKept (with_edit n f v)
own-edited v n f keeps own = own-each (with_edit n f v) (λ m d there. go m d there (eqb m n) refl)
  where
    changed : (o : Option Content) → content_of v n ≡ o → (d : Content) → option_map f o ≡ Some d → IsOwn d
    changed None p d e = absurd (let clash : None ≡ Some d = e in cc)
    changed (Some c) p d e = subst IsOwn (same_Some (f c) d e) (keeps c p (own-there v own n c p))

    go : (m : ℕ) (d : Content) → content_of (with_edit n f v) m ≡ Some d → (t : Bool) → eqb m n ≡ t → IsOwn d
    go m d there true p =
        changed (content_of v n) refl d
        (sym (content-edited v n f) ∙ subst (λ (k : ℕ). content_of (with_edit n f v) k ≡ Some d) (eqb-true m n p) there)
    go m d there false p = own-there v own m d (sym (content-other v n m f p) ∙ there)

-- a row more
among-more : (key : Key) (c d : Content) (n : ℕ) (rows : List (Key × Content)) → object_at (rows ++ (key, c) ∷ []) n ≡ Some d
    → (object_at rows n ≡ Some d → IsOwn d) → IsOwn c → IsOwn d
among-more key c d n [] e old new = go (eqb key.birth n) refl
  where
    go : (t : Bool) → eqb key.birth n ≡ t → IsOwn d
    go true p = subst IsOwn (same_Some c d (rw p at e)) new
    go false p = absurd (let clash : None ≡ Some d = rw p at e in cc)
among-more key c d n (row ∷ rows) e old new = go (eqb row.0.birth n) refl (among-more key c d n rows)
  where
    go : (t : Bool) → eqb row.0.birth n ≡ t
        → (object_at (rows ++ (key, c) ∷ []) n ≡ Some d → (object_at rows n ≡ Some d → IsOwn d) → IsOwn c → IsOwn d) → IsOwn d
    go true p rest = old (rw p (rw p at e))
    go false p rest = rest (rw p at e) (λ q. old (rw p q)) new

pub own-more : (v w : Objects) (key : Key) (c : Content) → w.rows ≡ v.rows ++ (key, c) ∷ [] → IsOwn c → OwnKept v → OwnKept w
own-more v w key c is new own = own-each w (λ n d there.
    among-more key c d n v.rows (subst (λ (rows : List (Key × Content)). object_at rows n ≡ Some d) is there) (own-there v own n d) new)

-- a new object, as it is made, and with its slots

pub own-fresh : (t : TypeId) → IsOwn (fresh t)
own-fresh t = refl

slots-own : (t : TypeId) → (0, 0) ≡ periods_among ([] ++ new_slots t)
unfolding types
slots-own = each (λ (t : TypeId). (0, 0) ≡ periods_among ([] ++ new_slots t)) (search rules)

pub own-slotted : (t : TypeId) (c : Content) → c ≡ fresh t → IsOwn (with_slots (new_slots t) c)
own-slotted t c is = subst (λ (d : Content). IsOwn (with_slots (new_slots t) d)) (sym is) (slots-own t)

-- a child more
number-child : (name own : List ℕ) (child : Key) (slots : List Named) → number_among name (slots ++ (own, Child child) ∷ []) ≡ number_among name slots
number-child name own child [] = go (bytes_eq name own)
  where
    go : (t : Bool) → option_and_then number_in_slot (option_map (λ (s : Named). s.1) (if t then Some (own, Child child) else None)) ≡ None
    go true = refl
    go false = refl
number-child name own child (s ∷ slots) = go (bytes_eq name s.0) refl (number-child name own child slots)
  where
    go : (t : Bool) → bytes_eq name s.0 ≡ t → number_among name (slots ++ (own, Child child) ∷ []) ≡ number_among name slots
        → number_among name (s ∷ slots ++ (own, Child child) ∷ []) ≡ number_among name (s ∷ slots)
    go true p rest = rw p refl
    go false p rest = rw p rest

pub own-child : (name : List ℕ) (child : Key) (c : Content) → IsOwn c → IsOwn (with_slot name (Child child) c)
own-child name child c own =
    own ∙ sym
    (rw (number-child (codes "period") name child c.slots, number-child (codes "mul") name child c.slots, number-child (codes "div") name child c.slots) refl)

-- the system's clock
pub own-ticking : (c : Content) → c ≡ as_made Clock (new_slots Clock) 0 → IsOwn (ticking c)
unfolding types
own-ticking c is = subst (λ (d : Content). IsOwn (ticking d)) (sym is) refl
