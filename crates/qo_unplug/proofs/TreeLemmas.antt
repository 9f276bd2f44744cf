-- What stays of a board while it is unrealized: its tree, and what stands beside it.
use Rattle.std.proofs.Common.{◌≡◌, refl, ap, ap₂, sym, subst, ◌∙◌, ℕ, zero, suc, ◌==◌, cond, not, ◌&&◌, Bool, true, false, List, [], ◌∷◌, map, length, find}
use Rattle.std.proofs.Common.{slice_get, codes, Option, None, Some, option_map}
use Rattle.std.specs.List.{AllByRecursion, IsDistinct}
use Rattle.std.specs.Option.{option_and_then, option_map_or}
use Rattle.std.specs.Str.{bytes_eq}
use Rattle.std.proofs.lemmas.List.{length-map}
use Rattle.qo_values.specs.Registers.{bare}
use Rattle.qo_values.specs.declared.kinds.Act.TheVariants.{Unrealize}
use Rattle.qo_values.specs.declared.kinds.TypeId.{TypeId}
use Rattle.qo_values.specs.declared.properties.Val.{Val}
use Rattle.qo_values.specs.declared.properties.Val.TheVariants as val
use Rattle.qo_model.specs.Board.{Board, Record, Slot, plain, child, strong, weak, alias, kind_of, record_of, slots_at}
use Rattle.qo_model.specs.Changes.{changed_at, set, with_changed, with_val}
use Rattle.qo_model.specs.Clocks.{acted, source_of, with_act_on}
use Rattle.qo_model.specs.Devices.{bus_in, child_named, clock_name, clock_of}
use Rattle.qo_model.specs.Objects.{index_from}
use Rattle.qo_model.specs.Release.{edit, edited}
use Rattle.qo_model.specs.Types.{is_a}
use Rattle.qo_model.specs.Unplug.{disconnected, is_named, set_named, unseen, unseen_named}
use Rattle.qo_model.proofs.FirstSlotLemmas.{named_in}
use Rattle.qo_sound.proofs.FirmBoardLemmas.{HasNames}
use Rattle.qo_sound.proofs.RecordLemmas.{all-map, all-unmap}
use Rattle.qo_sound.proofs.SlotLemmas.{names-each}
use Rattle.qo_sound_clocks.proofs.DecreaseLemmas.{Fewer, fewer-acted, fewer-disconnected, fewer-none, fewer-set}
use Rattle.qo_sound_clocks.proofs.GrowthLemmas.{fewer-sound}
use Rattle.qo_sound_clocks.proofs.LawLemmas.{clocks_kept_lem}
use Rattle.qo_sound_clocks.proofs.SlotLemmas.{OtherName}
use Rattle.qo_sound_clocks.proofs.ReadLemmas.{named-reads}
use Rattle.qo_sound_bounds.proofs.ClockWriteLemmas.{set-source}
use Rattle.qo_sound_bounds.proofs.LeavingLemmas.{less-disconnected, source-acted}
use Rattle.qo_unplug.specs.Unrealizing.{SameTree, Ticks, bus_at, kid_in, kid_in_place, still, still_slot, still_slots}

-- who reads no more as a clock, and keeps the names of its slots, keeps the clocks sound

still-named : (r : Record) → HasNames r → HasNames (still r)
still-named r h = subst (IsDistinct bytes_eq) (sym (names-each still_slot r.slots)) h

named-still : (r : Record) → HasNames (still r) → HasNames r
named-still r h = subst (IsDistinct bytes_eq) (names-each still_slot r.slots) h

ticks-fewer : (b c : Board) → map still c.records ≡ map still b.records → Fewer b c → Ticks b → Ticks c
ticks-fewer b c same fewer h =
    let named : AllByRecursion HasNames c.records =
    all-unmap HasNames HasNames still named-still c.records
    (subst (AllByRecursion HasNames) (sym same) (all-map HasNames HasNames still still-named b.records h.named)) in
    record { clocks = fewer-sound b c (named-reads b h.named) (named-reads c named) h.clocks fewer; named = named }

pub same-none : (b : Board) → SameTree b b
same-none b = record { records = refl; pins = refl; ticks = λ h. h; sources = λ n s e. e }

pub same-then : (b c d : Board) → SameTree b c → SameTree c d → SameTree b d
same-then b c d p q =
    record {
      records = q.records ∙ p.records;
      pins = q.pins ∙ p.pins;
      ticks = λ h. q.ticks (p.ticks h);
      sources = λ n s e. p.sources n s (q.sources n s e);
    }

-- what stands beside the objects is no part of it
pub ticks-beside : (b c : Board) → c.records ≡ b.records → Ticks b → Ticks c
ticks-beside b c same h =
    record { clocks = clocks_kept_lem.beside b c same h.clocks; named = subst (AllByRecursion HasNames) (sym same) h.named }

pub same-beside : (b c : Board) → c.records ≡ b.records → c.pins ≡ b.pins → SameTree b c
same-beside b c same pins =
    record {
      records = ap (map still) same;
      pins = pins;
      ticks = ticks-beside b c same;
      sources = λ n s e. sym (ap (λ (rs : List Record). source_of (record b { records = rs }) n) same) ∙ e;
    }

-- a step that leaves the objects but for what may change, the pins, the holds, the pending removals and the notices
record Leaves (b c : Board) : Type 0 where
  pub records : map still c.records ≡ map still b.records
  pub pins : c.pins ≡ b.pins
  pub holds : c.holds ≡ b.holds
  pub pending : c.pending ≡ b.pending
  pub notices : c.notices ≡ b.notices

leaves-none : (b : Board) → Leaves b b
leaves-none b = record { records = refl; pins = refl; holds = refl; pending = refl; notices = refl }

leaves-then : (b c d : Board) → Leaves b c → Leaves c d → Leaves b d
leaves-then b c d p q =
    record {
      records = q.records ∙ p.records;
      pins = q.pins ∙ p.pins;
      holds = q.holds ∙ p.holds;
      pending = q.pending ∙ p.pending;
      notices = q.notices ∙ p.notices;
    }

-- an object is changed, but not what stays of it
still-edited : (n : ℕ) (change : Record → Record) → ((r : Record) → still (change r) ≡ still r) → (rs : List Record)
    → map still (map (edited n change) rs) ≡ map still rs
still-edited n change same [] = refl
still-edited n change same (r ∷ rs) = ap₂ (λ (x : Record) (xs : List Record). x ∷ xs) (go (r.birth == n)) (still-edited n change same rs)
  where
    go : (t : Bool) → still (cond t (change r) r) ≡ still r
    go true = same r
    go false = refl

leaves-edit : (b : Board) (n : ℕ) (change : Record → Record) → ((r : Record) → still (change r) ≡ still r) → Leaves b (edit n change b)
leaves-edit b n change same = record { records = still-edited n change same b.records; pins = refl; holds = refl; pending = refl; notices = refl }

-- an act
leaves-acted : (b : Board) (n p : ℕ) → Leaves b (acted Unrealize n p b)
unfolding acted
leaves-acted b n p =
    record {
      records = still-edited n (with_act_on Unrealize b.now p) (λ r. refl) b.records;
      pins = refl;
      holds = refl;
      pending = refl;
      notices = refl;
    }

-- a slot
still-changed : (f : Slot → Slot) → ((s : Slot) → still_slot (f s) ≡ still_slot s) → (i : ℕ) (slots : List (List ℕ × Slot))
    → still_slots (changed_at f i slots) ≡ still_slots slots
still-changed f same i [] = refl
still-changed f same zero (s ∷ slots) = ap (λ (x : Slot). (s.0, x) ∷ still_slots slots) (same s.1)
still-changed f same (suc i) (s ∷ slots) = ap (λ (xs : List (List ℕ × Slot)). (s.0, still_slot s.1) ∷ xs) (still-changed f same i slots)

leaves-changed : (b : Board) (n : ℕ) (f : Slot → Slot) → ((s : Slot) → still_slot (f s) ≡ still_slot s) → (i : ℕ) → Leaves b (edit n (with_changed f i) b)
leaves-changed b n f same i =
    leaves-edit b n (with_changed f i)
    (λ r. ap (λ (slots : List (List ℕ × Slot)). record r { slots = slots; registers = bare }) (still-changed f same i r.slots))

still-val : (v : Val) (s : Slot) → still_slot (with_val v s) ≡ still_slot s
still-val v (plain old) = refl
still-val v (child m) = refl
still-val v (strong t target) = refl
still-val v (weak t target) = refl
still-val v (alias m name) = refl

still-unseen : (s : Slot) → still_slot (unseen s) ≡ still_slot s
still-unseen (plain old) = refl
still-unseen (child m) = refl
still-unseen (strong t target) = refl
still-unseen (weak t target) = refl
still-unseen (alias m name) = refl

leaves-set_named : (b : Board) (n : ℕ) (name : List ℕ) (v : Val) → Leaves b (set_named n name v b)
unfolding set
leaves-set_named b n name v = go (index_from (is_named name) 0 (slots_at b n))
  where
    go : (o : Option ℕ) → Leaves b (elim o as (λ _. Board) [ None ↦ b | Some i ↦ set n i v b ])
    go None = leaves-none b
    go (Some i) = leaves-changed b n (with_val v) (still-val v) i

leaves-unseen : (b : Board) (n : ℕ) (name : List ℕ) → Leaves b (unseen_named n name b)
leaves-unseen b n name = go (index_from (is_named name) 0 (slots_at b n))
  where
    go : (o : Option ℕ) → Leaves b (elim o as (λ _. Board) [ None ↦ b | Some i ↦ edit n (with_changed unseen i) b ])
    go None = leaves-none b
    go (Some i) = leaves-changed b n unseen still-unseen i

leaves-disconnected : (b : Board) (n : ℕ) → Leaves b (disconnected (Some n) b)
leaves-disconnected b n =
    let c : Board = unseen_named n (codes "source") b in
    leaves-then b c (disconnected (Some n) b) (leaves-unseen b n (codes "source")) (leaves-set_named c n (codes "period") (val.Uint 0))

-- a step that leaves the tree, the holds, the pending removals and the notices
pub record Quiet (b c : Board) : Type 0 where
  pub tree : SameTree b c
  pub holds : c.holds ≡ b.holds
  pub pending : c.pending ≡ b.pending
  pub notices : c.notices ≡ b.notices

quiet-of : (b c : Board) → Leaves b c → Fewer b c → ((n s : ℕ) → source_of c n ≡ Some s → source_of b n ≡ Some s) → Quiet b c
quiet-of b c leaves fewer sources =
    record {
      tree = record { records = leaves.records; pins = leaves.pins; ticks = ticks-fewer b c leaves.records fewer; sources = sources };
      holds = leaves.holds;
      pending = leaves.pending;
      notices = leaves.notices;
    }

pub quiet-none : (b : Board) → Quiet b b
quiet-none b = record { tree = same-none b; holds = refl; pending = refl; notices = refl }

pub quiet-acted : (b : Board) (n p : ℕ) → Quiet b (acted Unrealize n p b)
quiet-acted b n p =
    quiet-of b (acted Unrealize n p b) (leaves-acted b n p) (fewer-acted b Unrealize n p b (fewer-none b))
    (λ m s e. sym (source-acted n p b m) ∙ e)

pub quiet-set_named : (b : Board) (n : ℕ) (name : List ℕ) (v : Val) → OtherName name → Quiet b (set_named n name v b)
quiet-set_named b n name v other =
    quiet-of b (set_named n name v b) (leaves-set_named b n name v) (fewer-set b n name v other b (fewer-none b))
    (λ m s e. sym (set-source n name v b m) ∙ e)

pub quiet-disconnected : (b : Board) (n : ℕ) → Quiet b (disconnected (Some n) b)
quiet-disconnected b n =
    quiet-of b (disconnected (Some n) b) (leaves-disconnected b n) (fewer-disconnected b (Some n) b (fewer-none b))
    (λ m s e. less-disconnected (Some n) m s b e)

-- what is read off two boards of the same tree

found-still : (n : ℕ) (rs : List Record) → find (λ r. r.birth == n) (map still rs) ≡ option_map still (find (λ r. r.birth == n) rs)
found-still n [] = refl
found-still n (r ∷ rs) = go (r.birth == n) refl (found-still n rs)
  where
    go : (t : Bool) → (r.birth == n) ≡ t → find (λ r. r.birth == n) (map still rs) ≡ option_map still (find (λ r. r.birth == n) rs)
        → find (λ r. r.birth == n) (map still (r ∷ rs)) ≡ option_map still (find (λ r. r.birth == n) (r ∷ rs))
    go true is rest = rw is refl
    go false is rest = rw is rest

same-record : (b c : Board) → SameTree b c → (n : ℕ) → option_map still (record_of c n) ≡ option_map still (record_of b n)
same-record b c same n =
    sym (found-still n c.records) ∙ ap (λ (rs : List Record). find (λ r. r.birth == n) rs) same.records ∙ found-still n b.records

kind-still : (o : Option Record) → option_map (λ (r : Record). r.kind) (option_map still o) ≡ option_map (λ (r : Record). r.kind) o
kind-still None = refl
kind-still (Some r) = refl

same-kind : (b c : Board) → SameTree b c → (n : ℕ) → kind_of c n ≡ kind_of b n
same-kind b c same n =
    sym (kind-still (record_of c n)) ∙ ap (option_map (λ (r : Record). r.kind)) (same-record b c same n) ∙ kind-still (record_of b n)

slots-still : (o : Option Record)
    → option_map_or (λ (r : Record). r.slots) (option_map still o) [] ≡ still_slots (option_map_or (λ (r : Record). r.slots) o [])
slots-still None = refl
slots-still (Some r) = refl

same-slots : (b c : Board) → SameTree b c → (n : ℕ) → still_slots (slots_at c n) ≡ still_slots (slots_at b n)
same-slots b c same n =
    sym (slots-still (record_of c n)) ∙ ap (λ (o : Option Record). option_map_or (λ (r : Record). r.slots) o []) (same-record b c same n)
    ∙ slots-still (record_of b n)

pub same-length : (b c : Board) → SameTree b c → (n : ℕ) → length (slots_at c n) ≡ length (slots_at b n)
same-length b c same n =
    let f : List ℕ × Slot → List ℕ × Slot = λ s. (s.0, still_slot s.1) in
    sym (length-map (slots_at c n) f) ∙ ap (λ (l : List (List ℕ × Slot)). length l) (same-slots b c same n) ∙ length-map (slots_at b n) f

-- what is read of a slot, where it is read of what stays of it
place-still : (f : List ℕ × Slot → Option ℕ) → ((s : List ℕ × Slot) → f (s.0, still_slot s.1) ≡ f s) → (i : ℕ) (slots : List (List ℕ × Slot))
    → option_and_then f (slice_get (still_slots slots) i) ≡ option_and_then f (slice_get slots i)
place-still f same zero [] = refl
place-still f same (suc i) [] = refl
place-still f same zero (s ∷ slots) = same s
place-still f same (suc i) (s ∷ slots) = place-still f same i slots

same-place : (f : List ℕ × Slot → Option ℕ) → ((s : List ℕ × Slot) → f (s.0, still_slot s.1) ≡ f s) → (b c : Board) → SameTree b c → (n i : ℕ)
    → option_and_then f (slice_get (slots_at c n) i) ≡ option_and_then f (slice_get (slots_at b n) i)
same-place f reads b c same n i =
    sym (place-still f reads i (slots_at c n)) ∙ ap (λ (l : List (List ℕ × Slot)). option_and_then f (slice_get l i)) (same-slots b c same n)
    ∙ place-still f reads i (slots_at b n)

kid-still : (s : List ℕ × Slot) → kid_in (s.0, still_slot s.1) ≡ kid_in s
kid-still (name, plain v) = refl
kid-still (name, child m) = refl
kid-still (name, strong t target) = refl
kid-still (name, weak t target) = refl
kid-still (name, alias m of) = refl

pub same-kid : (b c : Board) → SameTree b c → (m i : ℕ) → kid_in_place c m i ≡ kid_in_place b m i
same-kid b c same m i = same-place kid_in kid-still b c same m i

bus-still : (b : Board) (s : List ℕ × Slot) → bus_in b (s.0, still_slot s.1) ≡ bus_in b s
bus-still b (name, plain v) = refl
bus-still b (name, child m) = refl
bus-still b (name, strong t target) = refl
bus-still b (name, weak t target) = refl
bus-still b (name, alias m of) = refl

same-bus_in : (b c : Board) → SameTree b c → (s : List ℕ × Slot) → bus_in c s ≡ bus_in b s
same-bus_in b c same (name, plain v) = refl
same-bus_in b c same (name, child m) =
    ap
    (λ (k : Option TypeId).
    cond (option_map_or (λ (t : TypeId). is_a t (codes "bus")) k false && not (bytes_eq name clock_name)) (Some m) None)
    (same-kind b c same m)
same-bus_in b c same (name, strong t target) = refl
same-bus_in b c same (name, weak t target) = refl
same-bus_in b c same (name, alias m of) = refl

in-place : (f g : List ℕ × Slot → Option ℕ) → ((s : List ℕ × Slot) → f s ≡ g s) → (o : Option (List ℕ × Slot)) → option_and_then f o ≡ option_and_then g o
in-place f g same None = refl
in-place f g same (Some s) = same s

pub same-bus : (b c : Board) → SameTree b c → (d i : ℕ) → bus_at c d i ≡ bus_at b d i
same-bus b c same d i =
    in-place (bus_in c) (bus_in b) (same-bus_in b c same) (slice_get (slots_at c d) i) ∙ same-place (bus_in b) (bus-still b) b c same d i

-- the clock of an object

named-still_slots : (name : List ℕ) (slots : List (List ℕ × Slot)) → named_in name (still_slots slots) ≡ option_map still_slot (named_in name slots)
named-still_slots name [] = refl
named-still_slots name (s ∷ slots) = go (bytes_eq s.0 name) (named-still_slots name slots)
  where
    go : (t : Bool) → named_in name (still_slots slots) ≡ option_map still_slot (named_in name slots)
        → option_map (λ (x : List ℕ × Slot). x.1) (cond t (Some (s.0, still_slot s.1)) (find (λ (x : List ℕ × Slot). bytes_eq x.0 name) (still_slots slots)))
        ≡ option_map still_slot (option_map (λ (x : List ℕ × Slot). x.1) (cond t (Some s) (find (λ (x : List ℕ × Slot). bytes_eq x.0 name) slots)))
    go true rest = refl
    go false rest = rest

child-still : (o : Option Slot) → option_and_then child_named (option_map still_slot o) ≡ option_and_then child_named o
child-still None = refl
child-still (Some (plain v)) = refl
child-still (Some (child m)) = refl
child-still (Some (strong t target)) = refl
child-still (Some (weak t target)) = refl
child-still (Some (alias m of)) = refl

clock-still : (slots : List (List ℕ × Slot))
    → option_and_then child_named (named_in clock_name (still_slots slots)) ≡ option_and_then child_named (named_in clock_name slots)
clock-still slots = ap (option_and_then child_named) (named-still_slots clock_name slots) ∙ child-still (named_in clock_name slots)

pub same-clock : (b c : Board) → SameTree b c → (d : ℕ) → clock_of c d ≡ clock_of b d
same-clock b c same d =
    sym (clock-still (slots_at c d)) ∙ ap (λ (l : List (List ℕ × Slot)). option_and_then child_named (named_in clock_name l)) (same-slots b c same d)
    ∙ clock-still (slots_at b d)
