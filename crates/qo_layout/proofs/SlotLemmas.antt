-- The lines of the slots of the root bus.
use Rattle.std.proofs.Common.{◌≡◌, refl, ap, sym, subst, ◌∙◌, ℕ, zero, suc, ◌+◌, ◌^◌, ◌<◌, ◌≤◌, Bool, true, false, cond, List, [], ◌∷◌, ◌++◌, filter_map, find, length, Option, Some, None, option_map, ⊎_elim, arith}
use Rattle.std.specs.Prelude.{IfSome, option_and_then}
use Rattle.std.specs.List.{range_with_len, sum_by}
use Rattle.std.specs.Option.{option_map_or}
use Rattle.std.specs.Str.{bytes_eq}
use Rattle.std.proofs.Math.Seq.{get_or-append_seam}
use Rattle.std.proofs.lemmas.Bool.{cases_eq, cases_lt}
use Rattle.std.proofs.lemmas.List.{get_or_append_left, get_or_past}
use Rattle.std.proofs.lemmas.List.Sums.{sum_by-cons}
use Rattle.std.proofs.Math.ListN.{length-append}
use Rattle.qo_values.specs.declared.births.TheConstants.{ROOT_BUS_BIRTH}
use Rattle.qo_irq.specs.Wires.{line_level}
use Rattle.qo_model.specs.Board.{Board, Slot, slots_at}
use Rattle.qo_model.specs.Devices.{kid_at, kid_name, kids_of, strong_in}
use Rattle.qo_model.specs.Unplug.{first_of}
use Rattle.qo_object.specs.BoardObject.{shown_slots}
use Rattle.qo_object.specs.Content.{Content}
use Rattle.qo_heap.specs.Board.{Shows}
use Rattle.qo_heap.specs.Objects.{Objects, content_of, slots_of}
use Rattle.qo_heap.proofs.BoardReads.{shows-slots}
use Rattle.qo_sound_devices.specs.SoundDevices.{SoundDevices}
use Rattle.qo_layout.specs.Lines.{irq_of, line, slot_bit, slot_line}
use Rattle.qo_layout.specs.Rows.{AreSlots, IsSlotLine, LinesAre, Wired, kept_line, slot_level}
use Rattle.qo_layout.specs.declared.wiring.Row.{Row}
use Rattle.qo_layout.proofs.LineLemmas.{lines_lem}

-- where a bus has no slots, none has a device
kid-none : (b : Board) (v : Objects) → Shows b v → (bus n : ℕ) → slots_of v bus ≡ [] → kid_at b bus n ≡ None
kid-none b v s bus n none =
    ap
    (λ (slots : List (List ℕ × Slot)).
    option_and_then strong_in (option_map (λ (t : List ℕ × Slot). t.1) (find (λ (t : List ℕ × Slot). bytes_eq t.0 (kid_name n)) slots)))
    (shows-slots b v s bus ∙ ap shown_slots none)

pub slots-none : (b : Board) (v : Objects) → Shows b v → (rows : List Row) → slots_of v ROOT_BUS_BIRTH ≡ [] → AreSlots b rows 8 []
slots-none b v s rows none n below = rw (kid-none b v s ROOT_BUS_BIRTH n none) tt

-- and where a bus has no kids
kid-behind : (t : List ℕ × Slot) (slots : List (List ℕ × Slot)) (name : List ℕ) → strong_in t.1 ≡ None
    → option_and_then strong_in (option_map (λ (u : List ℕ × Slot). u.1) (find (λ (u : List ℕ × Slot). bytes_eq u.0 name) slots)) ≡ None
    → option_and_then strong_in (option_map (λ (u : List ℕ × Slot). u.1) (find (λ (u : List ℕ × Slot). bytes_eq u.0 name) (t ∷ slots))) ≡ None
kid-behind t slots name is rest = by (bytes_eq t.0 name) refl
  where
    by : (e : Bool) → bytes_eq t.0 name ≡ e
        → option_and_then strong_in (option_map (λ (u : List ℕ × Slot). u.1) (find (λ (u : List ℕ × Slot). bytes_eq u.0 name) (t ∷ slots))) ≡ None
    by true same = rw same is
    by false same = rw same rest

kid-missing : (slots : List (List ℕ × Slot)) (name : List ℕ) → None ≡ first_of (filter_map (λ (t : List ℕ × Slot). strong_in t.1) slots)
    → option_and_then strong_in (option_map (λ (t : List ℕ × Slot). t.1) (find (λ (t : List ℕ × Slot). bytes_eq t.0 name) slots)) ≡ None
kid-missing [] name none = refl
kid-missing (t ∷ slots) name none = by (strong_in t.1) refl none (λ rest. kid-missing slots name rest)
  where
    by : (o : Option ℕ) → strong_in t.1 ≡ o → None ≡ first_of (filter_map (λ (u : List ℕ × Slot). strong_in u.1) (t ∷ slots))
        → (None ≡ first_of (filter_map (λ (u : List ℕ × Slot). strong_in u.1) slots)
        → option_and_then strong_in (option_map (λ (u : List ℕ × Slot). u.1) (find (λ (u : List ℕ × Slot). bytes_eq u.0 name) slots)) ≡ None)
        → option_and_then strong_in (option_map (λ (u : List ℕ × Slot). u.1) (find (λ (u : List ℕ × Slot). bytes_eq u.0 name) (t ∷ slots))) ≡ None
    by (Some kid) is first later = absurd (let clash : None ≡ Some kid = rw is at first in cc)
    by None is first later = kid-behind t slots name is (later (rw is at first))

pub slots-free : (b : Board) (rows : List Row) → None ≡ first_of (kids_of b ROOT_BUS_BIRTH) → AreSlots b rows 8 []
slots-free b rows none n below = rw (kid-missing (slots_at b ROOT_BUS_BIRTH) (kid_name n) none) tt

-- so it is where there is no bus
pub slots-gone : (b : Board) (v : Objects) → Shows b v → (rows : List Row) → content_of v ROOT_BUS_BIRTH ≡ None → AreSlots b rows 8 []
slots-gone b v s rows gone = slots-none b v s rows (ap (λ (o : Option Content). option_map_or (λ (c : Content). c.slots) o []) gone)

-- one slot more
pub slots-next : (b : Board) (rows : List Row) (n : ℕ) (slots more : List (Option ℕ)) (line : Option ℕ) → length slots ≡ n → AreSlots b rows n slots
    → IsSlotLine rows (kid_at b ROOT_BUS_BIRTH n) line → more ≡ slots ++ line ∷ [] → AreSlots b rows (n + 1) more
slots-next b rows n slots more line long before is e k below = rw e (⊎_elim
    (λ (early : k < n). rw (get_or_append_left slots (line ∷ []) None k (omega (arith, early, long))) (before k early))
    (λ past. let last : k ≡ n = omega (arith, past, below) in
    let here : kept_line (slots ++ line ∷ []) n ≡ line = ap (λ (i : ℕ). kept_line (slots ++ line ∷ []) i) (sym long) ∙ get_or-append_seam slots line [] None in
    rw (last, here) is)
    (cases_lt k n))

pub there-next : (P : ℕ → Type 0) (slots : List (Option ℕ)) (its : Option ℕ) → ((n : ℕ) → IfSome (kept_line slots n) P) → IfSome its P → (n : ℕ)
    → IfSome (kept_line (slots ++ its ∷ []) n) P
there-next P slots its before is n = ⊎_elim
    (λ (early : n < length slots). subst (λ (o : Option ℕ). IfSome o P) (sym (get_or_append_left slots (its ∷ []) None n early)) (before n))
    (λ (past : length slots ≤ n). ⊎_elim
    (λ last. let here : kept_line (slots ++ its ∷ []) n ≡ its =
    ap (λ (i : ℕ). kept_line (slots ++ its ∷ []) i) last ∙ get_or-append_seam slots its [] None in
    subst (λ (o : Option ℕ). IfSome o P) (sym here) is)
    (λ apart. let behind : length (slots ++ its ∷ []) ≤ n = omega (arith, past, apart, length-append slots (its ∷ [])) in
    let none : kept_line (slots ++ its ∷ []) n ≡ None = get_or_past (slots ++ its ∷ []) n None behind in
    subst (λ (o : Option ℕ). IfSome o P) (sym none) tt)
    (cases_eq n (length slots)))
    (cases_lt n (length slots))

-- Bits.

sum-more : (f : ℕ → ℕ) (a n : ℕ) → sum_by f (range_with_len a (n + 1)) ≡ sum_by f (range_with_len a n) + f (a + n)
sum-more f a zero =
    let here : f a ≡ f (a + 0) = ap f (omega arith) in
    let one : sum_by f (a ∷ []) ≡ f a + sum_by f [] = sum_by-cons f a [] in
    omega (arith, one, here)
sum-more f a (suc n) =
    let next : suc n + 1 ≡ suc (n + 1) = omega arith in
    let whole : sum_by f (range_with_len a (suc n + 1)) ≡ f a + sum_by f (range_with_len (a + 1) (n + 1)) =
    ap (λ (k : ℕ). sum_by f (range_with_len a k)) next ∙ sum_by-cons f a (range_with_len (a + 1) (n + 1)) in
    let part : sum_by f (range_with_len a (suc n)) ≡ f a + sum_by f (range_with_len (a + 1) n) = sum_by-cons f a (range_with_len (a + 1) n) in
    let rest : sum_by f (range_with_len (a + 1) (n + 1)) ≡ sum_by f (range_with_len (a + 1) n) + f (a + 1 + n) = sum-more f (a + 1) n in
    let last : f (a + 1 + n) ≡ f (a + suc n) = ap f (omega arith) in
    omega (arith, whole, part, rest, last)

pub bits-next : (f : ℕ → ℕ) (n bits more : ℕ) → bits ≡ sum_by f (range_with_len 0 n) → more ≡ bits + f n → more ≡ sum_by f (range_with_len 0 (n + 1))
bits-next f n bits more before e =
    let all : sum_by f (range_with_len 0 (n + 1)) ≡ sum_by f (range_with_len 0 n) + f (0 + n) = sum-more f 0 n in
    let same : f (0 + n) ≡ f n = ap f (omega arith) in
    omega (arith, before, e, all, same)

sum-same : (f g : ℕ → ℕ) (a n : ℕ) → ((k : ℕ) → k < a + n → f k ≡ g k) → sum_by f (range_with_len a n) ≡ sum_by g (range_with_len a n)
sum-same f g a zero same = refl
sum-same f g a (suc n) same =
    let here : f a ≡ g a = same a (omega arith) in
    let rest : sum_by f (range_with_len (a + 1) n) ≡ sum_by g (range_with_len (a + 1) n) = sum-same f g (a + 1) n (λ k low. same k (omega (arith, low))) in
    omega (arith, here, rest, sum_by-cons f a (range_with_len (a + 1) n), sum_by-cons g a (range_with_len (a + 1) n))

-- the bits of the slots are those of the board
pub irq-is : (b : Board) → SoundDevices b → (l : Wired) → LinesAre b l → sum_by (slot_bit (slot_level l.wires l.slots)) (range_with_len 0 8) ≡ irq_of b
irq-is b h l are =
    sum-same (slot_bit (slot_level l.wires l.slots)) (slot_bit (slot_line b)) 0 8
    (λ k low. ap (λ (high : Bool). cond high (2 ^ k) 0) (by (kid_at b ROOT_BUS_BIRTH k) (kept_line l.slots k) (are.shaped.slots k (omega (arith, low)))))
  where
    by : (d x : Option ℕ) → IsSlotLine l.rows d x → elim x [ None ↦ false | Some n ↦ line_level l.wires n ] ≡ option_map_or (line b) d false
    by None None is = refl
    by None (Some n) is = absurd is
    by (Some d) None is = absurd is
    by (Some d) (Some n) is = lines_lem b h l are d n is
