-- The kids of a bus, and the buses of a device, are unrealized one after another.
use Rattle.std.proofs.Common.{◌≡◌, refl, ap, sym, subst, ◌∙◌, ℕ, zero, suc, ◌+◌, ◌-◌, ◌≤◌, List, [], ◌∷◌, length, take, filter_map, slice_get, Option, None}
use Rattle.std.proofs.lemmas.List.{take_all}
use Rattle.std.proofs.Common.{Some, arith}
use Rattle.std.specs.List.{cons_option}
use Rattle.std.specs.Option.{option_and_then}
use Rattle.qo_slots.specs.declared.keys.Key.{Key}
use Rattle.qo_model.specs.Board.{Board, Slot, slots_at}
use Rattle.qo_model.specs.Devices.{bus_in, buses_of}
use Rattle.qo_model.specs.Unplug.{each, unrealized_bus, unrealized_device}
use Rattle.qo_model.proofs.DepthLemmas.{one-less}
use Rattle.qo_object.specs.BoardObject.{birth_of}
use Rattle.qo_object.proofs.BoardObjectLemmas.{length-shown}
use Rattle.qo_heap.specs.Board.{Shows}
use Rattle.qo_heap.specs.Objects.{Objects, slots_of}
use Rattle.qo_heap.proofs.BoardReads.{shows-slots}
use Rattle.qo_unplug.specs.Feeding.{BusFeeds, BusesFeed, FeedsNone, FeedsWithin}
use Rattle.qo_unplug.specs.Unrealizing.{Parts, SameTree, Ends, bus_at, bus_within, buses_within, device_within, kid_in, kid_in_place, kids_within, nothing_needed, on_one}
use Rattle.qo_unplug.proofs.FeedingLemmas.{buses-stopped, in-slots}
use Rattle.qo_unplug.proofs.TreeLemmas.{same-bus, same-kid, same-length}
use Rattle.qo_unplug.proofs.StepLemmas.{IsMetOn, ends-as, ends-none, ends-on, ends-same, ends-then, nothing-met}

-- a slot more
each-more : {X : Type 0} (g : ℕ → Board → Board) (f : X → Option ℕ) (i : ℕ) (xs : List X) (c : Board)
    → each g (filter_map f (take (suc i) xs)) c ≡ on_one g (option_and_then f (slice_get xs i)) (each g (filter_map f (take i xs)) c)
each-more g f zero [] c = refl
each-more g f (suc i) [] c = refl
each-more {X} g f zero (x ∷ xs) c = go (f x)
  where
    go : (o : Option ℕ) → each g (cons_option o (filter_map f (take 0 xs))) c ≡ on_one g o c
    go None = refl
    go (Some n) = refl
each-more {X} g f (suc i) (x ∷ xs) c = go (f x) (each-more g f i xs)
  where
    go : (o : Option ℕ)
        → ((d : Board) → each g (filter_map f (take (suc i) xs)) d ≡ on_one g (option_and_then f (slice_get xs i)) (each g (filter_map f (take i xs)) d))
        → each g (cons_option o (filter_map f (take (suc i) xs))) c
        ≡ on_one g (option_and_then f (slice_get xs i)) (each g (cons_option o (filter_map f (take i xs))) c)
    go None rest = rest c
    go (Some n) rest = rest (g n c)

-- as many slots as the heap has there
all-slots : (b c : Board) → SameTree b c → (v : Objects) → Shows c v → (n count : ℕ) → count ≡ length (slots_of v n) → length (slots_at b n) ≡ count
all-slots b c same v s n count is =
    sym (same-length b c same n) ∙ ap (λ (l : List (List ℕ × Slot)). length l) (shows-slots c v s n) ∙ length-shown (slots_of v n) ∙ sym is

-- the kids of a bus

-- the kid in a slot feeds its own
abbrev pub KidNeeds : ℕ → ℕ → ℕ → Board → Board → Type 0
KidNeeds levels m i b c = (k : ℕ) → kid_in_place b m i ≡ Some k → FeedsWithin b levels k

abbrev pub OneNeeds : ℕ → Option ℕ → Board → Board → Type 0
OneNeeds levels o b c = (k : ℕ) → o ≡ Some k → FeedsWithin b levels k

pub one-device : (s t : Parts) (levels n : ℕ) → Ends (λ b c. FeedsWithin b levels n) (λ b. device_within b levels n) s t
    → Ends (OneNeeds levels (Some n)) (λ b. on_one (device_within b levels) (Some n)) s t
one-device s t levels n ends =
    ends-as (λ b c. FeedsWithin b levels n) (OneNeeds levels (Some n)) (λ b. device_within b levels n) (λ b. on_one (device_within b levels) (Some n)) s t
    (λ b c same shown needed. needed n refl) ends (λ b c same shown. refl)

pub one-none : (s : Parts) (levels : ℕ) → Ends (OneNeeds levels None) (λ b. on_one (device_within b levels) None) s s
one-none s levels =
    ends-as nothing_needed (OneNeeds levels None) (λ _ c. c) (λ b. on_one (device_within b levels) None) s s (λ b c same shown needed. tt) (ends-none s)
    (λ b c same shown. refl)

pub kid-read : (s t : Parts) (m i levels : ℕ) (o : Option Key) → ((b : Board) → Shows b s.heap → birth_of o ≡ kid_in_place b m i)
    → Ends (OneNeeds levels (birth_of o)) (λ b. on_one (device_within b levels) (birth_of o)) s t
    → Ends (KidNeeds levels m i) (λ b. on_one (device_within b levels) (kid_in_place b m i)) s t
kid-read s t m i levels o reads ends =
    ends-as (OneNeeds levels (birth_of o)) (KidNeeds levels m i) (λ b. on_one (device_within b levels) (birth_of o))
    (λ b. on_one (device_within b levels) (kid_in_place b m i)) s t
    (λ b c same shown needed k e. needed k (sym (same-kid b c same m i) ∙ sym (reads c shown) ∙ e)) ends
    (λ b c same shown. ap (λ (k : Option ℕ). on_one (device_within b levels) k c) (sym (same-kid b c same m i) ∙ sym (reads c shown)))

abbrev pub KidsNeed : ℕ → ℕ → Board → Board → Type 0
KidsNeed levels m b c = BusFeeds b levels m

pub kids-first : (s : Parts) (m levels : ℕ) → Ends (KidsNeed levels m) (λ b. kids_within b levels m 0) s s
unfolding kids_within
kids-first s m levels =
    ends-as nothing_needed (KidsNeed levels m) (λ _ c. c) (λ b. kids_within b levels m 0) s s (λ b c same shown needed. tt) (ends-none s)
    (λ b c same shown. refl)

kids-more : (b : Board) (levels m i : ℕ) (c : Board)
    → kids_within b levels m (i + 1) c ≡ on_one (device_within b levels) (kid_in_place b m i) (kids_within b levels m i c)
unfolding kids_within
kids-more b levels m i c =
    let more : i + 1 ≡ suc i = omega arith in
    ap (λ (j : ℕ). each (device_within b levels) (filter_map kid_in (take j (slots_at b m))) c) more
    ∙ each-more (device_within b levels) kid_in i (slots_at b m) c

pub kids-next : (s t u : Parts) (m levels i : ℕ) → Ends (KidsNeed levels m) (λ b. kids_within b levels m i) s t
    → Ends (KidNeeds levels m i) (λ b. on_one (device_within b levels) (kid_in_place b m i)) t u
    → Ends (KidsNeed levels m) (λ b. kids_within b levels m (i + 1)) s u
kids-next s t u m levels i before next =
    ends-same (KidsNeed levels m) (λ b c. on_one (device_within b levels) (kid_in_place b m i) (kids_within b levels m i c))
    (λ b. kids_within b levels m (i + 1)) s u
    (ends-then (KidsNeed levels m) (KidNeeds levels m i) (λ b. kids_within b levels m i) (λ b. on_one (device_within b levels) (kid_in_place b m i)) s t u
    (λ b c same after needed k e. needed k (in-slots kid_in i k (slots_at b m) e)) before next)
    (λ b c same shown. kids-more b levels m i c)

kids-all : (b : Board) (levels m i : ℕ) (c : Board) → length (slots_at b m) ≤ i → bus_within b levels m c ≡ unrealized_bus m (kids_within b levels m i c)
unfolding bus_within kids_within
kids-all b levels m i c le =
    ap (λ (l : List (List ℕ × Slot)). unrealized_bus m (each (device_within b levels) (filter_map kid_in l) c)) (sym (take_all i (slots_at b m) le))

pub kids-last : (s t u : Parts) (m levels i count : ℕ) → count ≤ i → count ≡ length (slots_of s.heap m)
    → Ends (KidsNeed levels m) (λ b. kids_within b levels m i) s t → Ends nothing_needed (λ _. unrealized_bus m) t u
    → Ends (KidsNeed levels m) (λ b. bus_within b levels m) s u
kids-last s t u m levels i count le is before own =
    ends-same (KidsNeed levels m) (λ b c. unrealized_bus m (kids_within b levels m i c)) (λ b. bus_within b levels m) s u
    (ends-then (KidsNeed levels m) nothing_needed (λ b. kids_within b levels m i) (λ _. unrealized_bus m) s t u
    (nothing-met (KidsNeed levels m) (λ b. kids_within b levels m i)) before own)
    (λ b c same shown.
    let many : length (slots_at b m) ≡ count = all-slots b c same s.heap shown m count is in
    kids-all b levels m i c (omega (arith, many, le)))

-- the buses of a device

-- the kids of the bus in a slot feed their own
abbrev pub BusNeeds : ℕ → ℕ → ℕ → Board → Board → Type 0
BusNeeds levels d i b c = (m : ℕ) → bus_at b d i ≡ Some m → BusFeeds b levels m

abbrev pub OneBusNeeds : ℕ → Option ℕ → Board → Board → Type 0
OneBusNeeds levels o b c = (m : ℕ) → o ≡ Some m → BusFeeds b levels m

pub one-bus : (s t : Parts) (levels m : ℕ) → Ends (KidsNeed levels m) (λ b. bus_within b levels m) s t
    → Ends (OneBusNeeds levels (Some m)) (λ b. on_one (bus_within b levels) (Some m)) s t
one-bus s t levels m ends =
    ends-as (KidsNeed levels m) (OneBusNeeds levels (Some m)) (λ b. bus_within b levels m) (λ b. on_one (bus_within b levels) (Some m)) s t
    (λ b c same shown needed. needed m refl) ends (λ b c same shown. refl)

pub no-bus : (s : Parts) (levels : ℕ) → Ends (OneBusNeeds levels None) (λ b. on_one (bus_within b levels) None) s s
no-bus s levels =
    ends-as nothing_needed (OneBusNeeds levels None) (λ _ c. c) (λ b. on_one (bus_within b levels) None) s s (λ b c same shown needed. tt) (ends-none s)
    (λ b c same shown. refl)

pub bus-read : (s t : Parts) (d i levels : ℕ) (o : Option Key) → ((b : Board) → Shows b s.heap → birth_of o ≡ bus_at b d i)
    → Ends (OneBusNeeds levels (birth_of o)) (λ b. on_one (bus_within b levels) (birth_of o)) s t
    → Ends (BusNeeds levels d i) (λ b. on_one (bus_within b levels) (bus_at b d i)) s t
bus-read s t d i levels o reads ends =
    ends-as (OneBusNeeds levels (birth_of o)) (BusNeeds levels d i) (λ b. on_one (bus_within b levels) (birth_of o))
    (λ b. on_one (bus_within b levels) (bus_at b d i)) s t
    (λ b c same shown needed m e. needed m (sym (same-bus b c same d i) ∙ sym (reads c shown) ∙ e)) ends
    (λ b c same shown. ap (λ (k : Option ℕ). on_one (bus_within b levels) k c) (sym (same-bus b c same d i) ∙ sym (reads c shown)))

abbrev pub BusesNeed : ℕ → ℕ → Board → Board → Type 0
BusesNeed levels d b c = BusesFeed b levels d

pub buses-first : (s : Parts) (d levels : ℕ) → Ends (BusesNeed levels d) (λ b. buses_within b levels d 0) s s
unfolding buses_within
buses-first s d levels =
    ends-as nothing_needed (BusesNeed levels d) (λ _ c. c) (λ b. buses_within b levels d 0) s s (λ b c same shown needed. tt) (ends-none s)
    (λ b c same shown. refl)

buses-more : (b : Board) (levels d i : ℕ) (c : Board)
    → buses_within b levels d (i + 1) c ≡ on_one (bus_within b levels) (bus_at b d i) (buses_within b levels d i c)
unfolding buses_within
buses-more b levels d i c =
    let more : i + 1 ≡ suc i = omega arith in
    ap (λ (j : ℕ). each (bus_within b levels) (filter_map (bus_in b) (take j (slots_at b d))) c) more
    ∙ each-more (bus_within b levels) (bus_in b) i (slots_at b d) c

pub buses-next : (s t u : Parts) (d levels i : ℕ) → Ends (BusesNeed levels d) (λ b. buses_within b levels d i) s t
    → Ends (BusNeeds levels d i) (λ b. on_one (bus_within b levels) (bus_at b d i)) t u
    → Ends (BusesNeed levels d) (λ b. buses_within b levels d (i + 1)) s u
buses-next s t u d levels i before next =
    ends-same (BusesNeed levels d) (λ b c. on_one (bus_within b levels) (bus_at b d i) (buses_within b levels d i c))
    (λ b. buses_within b levels d (i + 1)) s u
    (ends-then (BusesNeed levels d) (BusNeeds levels d i) (λ b. buses_within b levels d i) (λ b. on_one (bus_within b levels) (bus_at b d i)) s t u
    (λ b c same after needed m e. needed m (in-slots (bus_in b) i m (slots_at b d) e)) before next)
    (λ b c same shown. buses-more b levels d i c)

-- a level less is left below a device
buses-all : (b : Board) (all levels d i : ℕ) (c : Board) → all ≡ suc levels → length (slots_at b d) ≤ i
    → device_within b all d c ≡ unrealized_device d (buses_within b levels d i c)
unfolding device_within bus_within buses_within
buses-all b all levels d i c more le =
    ap (λ (k : ℕ). device_within b k d c) more
    ∙ ap (λ (l : List (List ℕ × Slot)). unrealized_device d (each (bus_within b levels) (filter_map (bus_in b) l) c)) (sym (take_all i (slots_at b d) le))

-- all buses of it
all-buses : (b : Board) (levels d i : ℕ) (c : Board) → length (slots_at b d) ≤ i → buses_within b levels d i c ≡ each (bus_within b levels) (buses_of b d) c
unfolding buses_within
all-buses b levels d i c le = ap (λ (l : List (List ℕ × Slot)). each (bus_within b levels) (filter_map (bus_in b) l) c) (take_all i (slots_at b d) le)

-- once they are unrealized no clock goes by the device's
buses-met : (s : Parts) (d levels i : ℕ) → ((b c : Board) → SameTree b c → Shows c s.heap → length (slots_at b d) ≤ i)
    → IsMetOn s (λ b c. FeedsWithin b (suc levels) d) (λ _. FeedsNone d) (λ b. buses_within b levels d i)
buses-met s d levels i le b c same after shown feeds =
    let is : buses_within b levels d i c ≡ each (bus_within b levels) (buses_of b d) c = all-buses b levels d i c (le b c same shown) in
    subst (FeedsNone d) (sym is) (buses-stopped b levels d feeds c (subst (SameTree b) is after))

pub buses-last : (s t u : Parts) (d levels i count : ℕ) → (levels ≡ 0 → ⊥) → count ≤ i → count ≡ length (slots_of s.heap d)
    → Ends (BusesNeed (levels - 1) d) (λ b. buses_within b (levels - 1) d i) s t → Ends (λ _. FeedsNone d) (λ _. unrealized_device d) t u
    → Ends (λ b c. FeedsWithin b levels d) (λ b. device_within b levels d) s u
buses-last s t u d levels i count some le is before own =
    let more : levels ≡ suc (levels - 1) = one-less levels some in
    ends-as (λ b c. FeedsWithin b (suc (levels - 1)) d) (λ b c. FeedsWithin b levels d) (λ b c. unrealized_device d (buses_within b (levels - 1) d i c))
    (λ b. device_within b levels d) s u
    (λ b c same shown needed. subst (λ (k : ℕ). FeedsWithin b k d) more needed)
    (ends-on (λ b c. FeedsWithin b (suc (levels - 1)) d) (λ _. FeedsNone d) (λ b. buses_within b (levels - 1) d i) (λ _. unrealized_device d) s t u
    (buses-met s d (levels - 1) i
    (λ b c same shown. let many : length (slots_at b d) ≡ count = all-slots b c same s.heap shown d count is in omega (arith, many, le)))
    (ends-as (BusesNeed (levels - 1) d) (λ b c. FeedsWithin b (suc (levels - 1)) d) (λ b. buses_within b (levels - 1) d i)
    (λ b. buses_within b (levels - 1) d i) s t
    (λ b c same shown needed m im k ik. needed.1 m k im ik) before (λ b c same shown. refl)) own)
    (λ b c same shown.
    let many : length (slots_at b d) ≡ count = all-slots b c same s.heap shown d count is in
    buses-all b levels (levels - 1) d i c (one-less levels some) (omega (arith, many, le)))

pub none-within : (s : Parts) (d levels : ℕ) → levels ≡ 0 → Ends (λ b c. FeedsWithin b levels d) (λ b. device_within b levels d) s s
unfolding device_within
none-within s d levels is =
    ends-as nothing_needed (λ b c. FeedsWithin b levels d) (λ _ c. c) (λ b. device_within b levels d) s s (λ b c same shown needed. tt) (ends-none s)
    (λ b c same shown. ap (λ (k : ℕ). device_within b k d c) is)
