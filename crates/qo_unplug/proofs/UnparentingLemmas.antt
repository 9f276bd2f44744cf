-- Taking apart on a heap: its steps are those of the boards, and who is held from outside stays.
use Rattle.std.proofs.Common.{◌≡◌, refl, ap, sym, subst, ◌∙◌, ℕ, zero, suc, ◌+◌, ◌-◌, ◌*◌, ◌^◌, ◌<◌, ◌≤◌, eqb, cond, Bool, true, false, List, [], ◌∷◌}
use Rattle.std.proofs.Common.{◌++◌, length, replicate, filter_map, Option, None, Some, arith}
use Rattle.std.specs.List.{AllByRecursion}
use Rattle.std.specs.Option.{option_map_or}
use Rattle.qo_slots.specs.declared.keys.Key.{Key}
use Rattle.qo_heap.specs.Rows.{IsLive, Rises, births, object_at}
use Rattle.qo_model.specs.Board.{Board, Slot, slots_at}
use Rattle.qo_model.specs.Devices.{buses_of, first_bus, kids_of, strong_in}
use Rattle.qo_model.specs.Release.{pin, put_in_order, unpin}
use Rattle.qo_model.specs.Unplug.{apart_within, drained, first_of, is_bus_child, left_bus, left_parent, let_go_where, lost_bus, lost_buses}
use Rattle.qo_model.proofs.DepthLemmas.{one-less}
use Rattle.qo_model.proofs.PinLemmas.{IsUp}
use Rattle.qo_heap.specs.Log.{Log, empty_log, noted_all}
use Rattle.qo_object.specs.Content.{Content, with_pin}
use Rattle.qo_object.specs.BoardObject.{shown_slots}
use Rattle.qo_object.proofs.BoardObjectLemmas.{length-shown}
use Rattle.qo_heap.specs.Board.{Shows, pins_in}
use Rattle.qo_heap.specs.Objects.{IsHeap, Objects, content_of, pins_of, slots_of, with_edit}
use Rattle.qo_heap.specs.Moments.{Timely}
use Rattle.qo_heap.proofs.BookLemmas.{book-edit}
use Rattle.qo_heap.proofs.HeapLemmas.{live-edit}
use Rattle.qo_values.proofs.ListLemmas.{all-imply}
use Rattle.qo_heap.proofs.BoardEdits.{all-replicate, pins-above, shows-pin}
use Rattle.qo_heap.proofs.BoardObjects.{live-content}
use Rattle.qo_heap.proofs.BoardReads.{shows-live, shows-live_key, shows-slots, times, times-pins, times-replicate}
use Rattle.qo_life.specs.Life.{Goes, with_log}
use Rattle.qo_life.proofs.TreeLemmas.{edit-bodies, edit-sides, goes-names, goes-none, goes-same, goes-then, heap-with_log, live-before_edit, tree, tree-shows, shows-notes}
use Rattle.qo_unplug.specs.Unparenting.{HasRoom, bus_lost, buses_lost, drained_within, first_apart, first_lost, pin_count, taken_within}
use Rattle.qo_unplug.specs.Unrealizing.{on_one}
use Rattle.qo_unplug.proofs.MomentLemmas.{goes-timely}
use Rattle.qo_unplug.proofs.ScopeLemmas.{Takes, put-most, takes-first_apart, takes-first_lost, takes-none, takes-then, times-own}
use Rattle.qo_buses.proofs.KidLemmas.{first-is}

-- how often an object is held

times-within : (n : ℕ) (rows : List (Key × Content)) → option_map_or (λ (c : Content). c.pins) (object_at rows n) 0 ≤ times n (pins_in rows)
times-within n [] = omega arith
times-within n (row ∷ rows) = go (eqb row.0.birth n) refl (times-within n rows)
  where
    go : (t : Bool) → eqb row.0.birth n ≡ t → option_map_or (λ (c : Content). c.pins) (object_at rows n) 0 ≤ times n (pins_in rows)
        → option_map_or (λ (c : Content). c.pins) (object_at (row ∷ rows) n) 0 ≤ times n (pins_in (row ∷ rows))
    go true is rest =
        let own : row.1.pins * cond {A = ℕ} (eqb row.0.birth n) 1 0 ≡ row.1.pins = rw is (omega arith) in
        rw is (omega (arith, own, times-replicate n row.1.pins row.0.birth (pins_in rows)))
    go false is rest = rw is (omega (arith, rest, times-replicate n row.1.pins row.0.birth (pins_in rows)))

pub pins-within : (v : Objects) (n : ℕ) → pins_of v n ≤ pin_count v n
pins-within v n = times-within n v.rows

-- on a heap these are its pins
pub held-pins : (v : Objects) → IsHeap v → (n : ℕ) → pin_count v n ≡ pins_of v n
held-pins v good n = times-pins n 0 v.born v.rows good.rising

pub pinned-of : (v : Objects) → IsHeap v → (n : ℕ) → 0 < pin_count v n → 0 < pins_of v n
pinned-of v good n some = omega (arith, some, held-pins v good n)

pub pin-room : (v : Objects) (n levels : ℕ) → (levels ≡ 0 → ⊥) → HasRoom v levels → pins_of v n < 2 ^ 32
pin-room v n zero more room = absurd (more refl)
pin-room v n (suc levels) more room = omega (arith, room n, times-within n v.rows)

-- they never fall, in the order of births
first-up : (k n : ℕ) (ms : List ℕ) → AllByRecursion (λ m. n < m) ms → IsUp ms → IsUp (replicate k n ++ ms)
first-up zero n ms low up = up
first-up (suc k) n ms low up =
    (all-replicate (λ m. n ≤ m) k n ms (omega arith) (all-imply (λ m. n < m) (λ m. n ≤ m) (λ m less. omega (arith, less)) ms low), first-up k n ms low up)

rows-up : (above last : ℕ) (rows : List (Key × Content)) → Rises above (births rows) last → IsUp (pins_in rows)
rows-up above last [] rises = tt
rows-up above last (row ∷ rows) rises =
    let n : ℕ = row.0.birth in
    first-up row.1.pins n (pins_in rows) (pins-above n n last rows (omega arith) rises.1) (rows-up n last rows rises.1)

pub pins-up : (v : Objects) → IsHeap v → IsUp (pins_in v.rows)
pins-up v good = rows-up 0 v.born v.rows good.rising

-- a pin

pub goes-pin : (v u : Objects) → IsHeap v → (o : Key) → IsLive v.rows o → u ≡ with_edit o.birth with_pin v → Goes (λ b. pin b o.birth) v u
unfolding noted_all
goes-pin v u good o live is =
    let (c, there) = live-content v o live in
    let goes : Goes (λ b. pin b o.birth) v (with_edit o.birth with_pin v) = record {
      more = [];
      log = refl;
      shown = λ b log s. shows-pin b (with_log log v) s (heap-with_log v log good) o.birth c there;
      names = live-before_edit o.birth with_pin v.rows;
      bodies = edit-bodies v o.birth with_pin (λ d. refl);
      sides = edit-sides v o.birth with_pin (λ d. refl);
      book = λ out h. book-edit out v o.birth with_pin (λ d. refl) h;
      time = refl;
      spare = refl;
    } in
    subst (λ (x : Objects). Goes (λ b. pin b o.birth) v x) (sym is) goes

pub pin-live : (v u : Objects) (n : ℕ) → u ≡ with_edit n with_pin v → (key : Key) → IsLive v.rows key → IsLive u.rows key
pin-live v u n is key live = subst (λ (x : Objects). IsLive x.rows key) (sym is) (live-edit n with_pin v.rows key live)

pub pin-same : (v u : Objects) (d : ℕ) → Goes (λ b. pin b d) v u → pins_in u.rows ≡ put_in_order d (pins_in v.rows)
unfolding pin
pin-same v u d goes = sym (goes.shown (tree v) empty_log (tree-shows v)).pins

pin-times : (v u : Objects) (d : ℕ) → Goes (λ b. pin b d) v u → (n : ℕ) → pin_count u n ≡ times n (put_in_order d (pins_in v.rows))
pin-times v u d goes n = ap (times n) (pin-same v u d goes)

pub pin-own : (v u : Objects) (d : ℕ) → Goes (λ b. pin b d) v u → 0 < pin_count u d
pin-own v u d goes = omega (arith, pin-times v u d goes d, times-own d (pins_in v.rows))

pub pin-most : (v u : Objects) (d : ℕ) → Goes (λ b. pin b d) v u → (n : ℕ) → pin_count u n ≤ 1 + pin_count v n
pin-most v u d goes n = omega (arith, pin-times v u d goes n, put-most n d (pins_in v.rows))

pub pin-left : (v u : Objects) (d levels : ℕ) → (levels ≡ 0 → ⊥) → Goes (λ b. pin b d) v u → HasRoom v levels → HasRoom u (levels - 1)
pin-left v u d zero more goes room n = absurd (more refl)
pin-left v u d (suc levels) more goes room n = omega (arith, room n, pin-most v u d goes n)

-- a step that takes apart

module _ (step : Board → Board) (v w : Objects) (goes : Goes step v w) (takes : (b : Board) → Takes b (step b)) where
  pub taken-times : (n : ℕ) → pin_count w n ≡ pin_count v n
  taken-times n = ap (times n) (sym (goes.shown (tree v) empty_log (tree-shows v)).pins) ∙ (takes (tree v)).pins n

  pub taken-room : (k : ℕ) → HasRoom v k → HasRoom w k
  taken-room k room n = omega (arith, room n, taken-times n)

  pub taken-live : (o : Key) → IsLive v.rows o → 0 < pin_count v o.birth → IsLive w.rows o
  taken-live o live some =
      let s = goes.shown (tree v) empty_log (tree-shows v) in
      let there = (takes (tree v)).live o.birth (shows-live_key (tree v) (with_log empty_log v) (tree-shows v) o live) some in
      goes-names step v w goes o live (sym (shows-live (step (tree v)) (with_log (noted_all goes.more empty_log) w) s o.birth) ∙ there)

  pub taken-pinned : (n : ℕ) → 0 < pin_count v n → 0 < pin_count w n
  taken-pinned n some = omega (arith, some, taken-times n)

  pub taken-same : IsUp (pins_in v.rows) → pins_in w.rows ≡ pins_in v.rows
  taken-same up = sym (goes.shown (tree v) empty_log (tree-shows v)).pins ∙ (takes (tree v)).same up

  pub taken-timely : Timely v → Timely w
  taken-timely = goes-timely step v w goes (λ b. (takes b).moments)

-- steps one after another, of which some are left

pub record Losing (whole left : Board → Board) (v u : Objects) : Type 0 where
  pub step : Board → Board
  pub goes : Goes step v u
  pub takes : (b : Board) → Takes b (step b)
  pub rest : (b : Board) → left (step b) ≡ whole b

losing-first : (whole : Board → Board) (v : Objects) → Losing whole whole v v
losing-first whole v = record { step = λ b. b; goes = goes-none v; takes = takes-none; rest = λ b. refl }

-- none is done yet
pub losing-none : (left : ℕ → Board → Board) (count : ℕ) (v : Objects) → Losing (left count) (left (count - 0)) v v
losing-none left count v =
    let all : count ≡ count - 0 = omega arith in
    subst (λ (k : ℕ). Losing (left count) (left k) v v) all (losing-first (left count) v)

losing-next : (whole left next one : Board → Board) (v u w : Objects) → Losing whole left v u → Goes one u w → ((b : Board) → Takes b (one b))
    → ((b : Board) → next (one b) ≡ left b) → Losing whole next v w
losing-next whole left next one v u w l goes takes is =
    record {
      step = λ b. one (l.step b);
      goes = goes-then l.step one v u w l.goes goes;
      takes = λ b. takes-then b (l.step b) (one (l.step b)) (l.takes b) (takes (l.step b));
      rest = λ b. is (l.step b) ∙ l.rest b;
    }

losing-stops : (whole left : Board → Board) (v u : Objects) → Losing whole left v u
    → ((b : Board) (log : Log) → Shows b (with_log log u) → left b ≡ b) → Goes whole v u
losing-stops whole left v u l none =
    goes-same l.step whole v u l.goes (λ b log s. sym (l.rest b) ∙ none (l.step b) (noted_all l.goes.more log) (l.goes.shown b log s))

many-slots : (v : Objects) (n count : ℕ) → count ≡ length (slots_of v n) → (b : Board) (log : Log) → Shows b (with_log log v) → length (slots_at b n) ≡ count
many-slots v n count is b log s =
    ap (λ (l : List (List ℕ × Slot)). length l) (shows-slots b (with_log log v) s n) ∙ length-shown (slots_of v n) ∙ sym is

less-left : (count i : ℕ) → i < count → count - i ≡ suc (count - (i + 1))
less-left count i within = omega arith

-- the kids of a bus

pub kid-any : (v : Objects) (c : Board) → Shows c v → (m : ℕ) (o : Option ℕ) → ((b : Board) → Shows b v → o ≡ first_of (kids_of b m))
    → (b : Board) (log : Log) → Shows b (with_log log v) → first_of (kids_of b m) ≡ o
kid-any v c t m o is b log s = sym (is (record b { notes = c.notes }) (shows-notes b c log v s t))

-- a bus that is not there has none
pub no-bus : (v : Objects) (m : ℕ) → content_of v m ≡ None → (b : Board) → Shows b v → None ≡ first_of (kids_of b m)
no-bus v m gone b s =
    let none : slots_at b m ≡ [] = shows-slots b v s m ∙ ap (λ (o : Option Content). shown_slots (option_map_or (λ (c : Content). c.slots) o [])) gone in
    sym (ap (λ (l : List (List ℕ × Slot)). first_of (filter_map (λ (x : List ℕ × Slot). strong_in x.1) l)) none)

pub goes-first_kid : (v w : Objects) (levels m k : ℕ) → ((b : Board) (log : Log) → Shows b (with_log log v) → first_of (kids_of b m) ≡ Some k)
    → Goes (apart_within levels k) v w → Goes (first_apart levels m) v w
unfolding first_apart
goes-first_kid v w levels m k is goes =
    goes-same (apart_within levels k) (first_apart levels m) v w goes (λ b log s. ap (λ (o : Option ℕ). on_one (apart_within levels) o b) (is b log s))

pub goes-no_kid : (v : Objects) (levels m : ℕ) → ((b : Board) (log : Log) → Shows b (with_log log v) → first_of (kids_of b m) ≡ None)
    → Goes (first_apart levels m) v v
unfolding first_apart
goes-no_kid v levels m is =
    goes-same (λ b. b) (first_apart levels m) v v (goes-none v) (λ b log s. ap (λ (o : Option ℕ). on_one (apart_within levels) o b) (is b log s))

abbrev pub kids_left : ℕ → ℕ → ℕ → Board → Board
kids_left levels m k b = drained (apart_within levels) k m b

kids-none : (levels m k : ℕ) (b : Board) → first_of (kids_of b m) ≡ None → kids_left levels m k b ≡ b
kids-none levels m zero b none = refl
kids-none levels m (suc k) b none =
    ap (λ (o : Option ℕ). elim o as (λ _. Board) [ None ↦ b | Some n ↦ drained (apart_within levels) k m (apart_within levels n b) ]) none

kids-step : (levels m k : ℕ) (b : Board) → kids_left levels m k (first_apart levels m b) ≡ kids_left levels m (suc k) b
unfolding first_apart
kids-step levels m k b = go (first_of (kids_of b m)) refl
  where
    go : (o : Option ℕ) → first_of (kids_of b m) ≡ o
        → kids_left levels m k (on_one (apart_within levels) o b)
        ≡ elim o as (λ _. Board) [ None ↦ b | Some n ↦ drained (apart_within levels) k m (apart_within levels n b) ]
    go None is = kids-none levels m k b is
    go (Some n) is = refl

pub kids-lost : (levels m count i : ℕ) (v u w : Objects) → Losing (kids_left levels m count) (kids_left levels m (count - i)) v u → i < count
    → Goes (first_apart levels m) u w → Losing (kids_left levels m count) (kids_left levels m (count - (i + 1))) v w
kids-lost levels m count i v u w l within goes =
    losing-next (kids_left levels m count) (kids_left levels m (count - i)) (kids_left levels m (count - (i + 1))) (first_apart levels m) v u w l goes
    (takes-first_apart levels m)
    (λ b. kids-step levels m (count - (i + 1)) b ∙ ap (λ (k : ℕ). kids_left levels m k b) (sym (less-left count i within)))

drained-is : (levels m count : ℕ) (v w : Objects) → count ≡ length (slots_of v m) → Goes (kids_left levels m count) v w → Goes (drained_within levels m) v w
unfolding drained_within
drained-is levels m count v w is goes =
    goes-same (kids_left levels m count) (drained_within levels m) v w goes
    (λ b log s. ap (λ (k : ℕ). kids_left levels m k b) (many-slots v m count is b log s))

pub kids-stopped : (levels m count i : ℕ) (v u : Objects) → count ≡ length (slots_of v m) → Losing (kids_left levels m count) (kids_left levels m i) v u
    → ((b : Board) (log : Log) → Shows b (with_log log u) → first_of (kids_of b m) ≡ None) → Goes (drained_within levels m) v u
kids-stopped levels m count i v u is l none =
    drained-is levels m count v u is
    (losing-stops (kids_left levels m count) (kids_left levels m i) v u l (λ b log s. kids-none levels m i b (none b log s)))

pub kids-done : (levels m count i : ℕ) (v u : Objects) → count ≡ length (slots_of v m) → count ≤ i
    → Losing (kids_left levels m count) (kids_left levels m (count - i)) v u → Goes (drained_within levels m) v u
kids-done levels m count i v u is le l =
    let none : count - i ≡ 0 = omega arith in
    drained-is levels m count v u is
    (losing-stops (kids_left levels m count) (kids_left levels m (count - i)) v u l (λ b log s. ap (λ (k : ℕ). kids_left levels m k b) none))

-- a bus

pub goes-bus_lost : (v u w : Objects) (levels d m : ℕ) → Goes (drained_within levels m) v u → Goes (let_go_where (is_bus_child m) d) u w
    → Goes (bus_lost levels d m) v w
unfolding bus_lost drained_within
goes-bus_lost v u w levels d m first then = goes-then (drained_within levels m) (let_go_where (is_bus_child m) d) v u w first then

-- the buses of a device

pub bus-any : (v : Objects) (c : Board) → Shows c v → (d : ℕ) (o : Option ℕ) → ((b : Board) → Shows b v → o ≡ first_bus b d)
    → (b : Board) (log : Log) → Shows b (with_log log v) → first_of (buses_of b d) ≡ o
bus-any v c t d o is b log s = first-is b d ∙ sym (is (record b { notes = c.notes }) (shows-notes b c log v s t))

pub goes-first_bus : (v w : Objects) (levels d m : ℕ) → ((b : Board) (log : Log) → Shows b (with_log log v) → first_of (buses_of b d) ≡ Some m)
    → Goes (bus_lost levels d m) v w → Goes (first_lost levels d) v w
unfolding first_lost
goes-first_bus v w levels d m is goes =
    goes-same (bus_lost levels d m) (first_lost levels d) v w goes (λ b log s. ap (λ (o : Option ℕ). on_one (bus_lost levels d) o b) (is b log s))

pub goes-no_bus : (v : Objects) (levels d : ℕ) → ((b : Board) (log : Log) → Shows b (with_log log v) → first_of (buses_of b d) ≡ None)
    → Goes (first_lost levels d) v v
unfolding first_lost
goes-no_bus v levels d is =
    goes-same (λ b. b) (first_lost levels d) v v (goes-none v) (λ b log s. ap (λ (o : Option ℕ). on_one (bus_lost levels d) o b) (is b log s))

abbrev pub buses_left : ℕ → ℕ → ℕ → Board → Board
buses_left levels d k b = lost_buses (apart_within levels) k d b

buses-none : (levels d k : ℕ) (b : Board) → first_of (buses_of b d) ≡ None → buses_left levels d k b ≡ b
buses-none levels d zero b none = refl
buses-none levels d (suc k) b none =
    ap
    (λ (o : Option ℕ). elim o as (λ _. Board) [ None ↦ b | Some m ↦ lost_buses (apart_within levels) k d (lost_bus (apart_within levels) d m b) ])
    none

buses-step : (levels d k : ℕ) (b : Board) → buses_left levels d k (first_lost levels d b) ≡ buses_left levels d (suc k) b
unfolding first_lost bus_lost
buses-step levels d k b = go (first_of (buses_of b d)) refl
  where
    go : (o : Option ℕ) → first_of (buses_of b d) ≡ o
        → buses_left levels d k (on_one (bus_lost levels d) o b)
        ≡ elim o as (λ _. Board) [ None ↦ b | Some m ↦ lost_buses (apart_within levels) k d (bus_lost levels d m b) ]
    go None is = buses-none levels d k b is
    go (Some m) is = refl

pub buses-lost : (levels d count i : ℕ) (v u w : Objects) → Losing (buses_left levels d count) (buses_left levels d (count - i)) v u → i < count
    → Goes (first_lost levels d) u w → Losing (buses_left levels d count) (buses_left levels d (count - (i + 1))) v w
buses-lost levels d count i v u w l within goes =
    losing-next (buses_left levels d count) (buses_left levels d (count - i)) (buses_left levels d (count - (i + 1))) (first_lost levels d) v u w l goes
    (takes-first_lost levels d)
    (λ b. buses-step levels d (count - (i + 1)) b ∙ ap (λ (k : ℕ). buses_left levels d k b) (sym (less-left count i within)))

lost-is : (levels d count : ℕ) (v w : Objects) → count ≡ length (slots_of v d) → Goes (buses_left levels d count) v w → Goes (buses_lost levels d) v w
unfolding buses_lost
lost-is levels d count v w is goes =
    goes-same (buses_left levels d count) (buses_lost levels d) v w goes
    (λ b log s. ap (λ (k : ℕ). buses_left levels d k b) (many-slots v d count is b log s))

pub buses-stopped : (levels d count i : ℕ) (v u : Objects) → count ≡ length (slots_of v d) → Losing (buses_left levels d count) (buses_left levels d i) v u
    → ((b : Board) (log : Log) → Shows b (with_log log u) → first_of (buses_of b d) ≡ None) → Goes (buses_lost levels d) v u
buses-stopped levels d count i v u is l none =
    lost-is levels d count v u is
    (losing-stops (buses_left levels d count) (buses_left levels d i) v u l (λ b log s. buses-none levels d i b (none b log s)))

pub buses-done : (levels d count i : ℕ) (v u : Objects) → count ≡ length (slots_of v d) → count ≤ i
    → Losing (buses_left levels d count) (buses_left levels d (count - i)) v u → Goes (buses_lost levels d) v u
buses-done levels d count i v u is le l =
    let none : count - i ≡ 0 = omega arith in
    lost-is levels d count v u is
    (losing-stops (buses_left levels d count) (buses_left levels d (count - i)) v u l (λ b log s. ap (λ (k : ℕ). buses_left levels d k b) none))

-- the device

pub goes-taken : (v u x w : Objects) (levels d : ℕ) → Goes (buses_lost levels d) v u → Goes (left_bus d) u x → Goes (left_parent d) x w
    → Goes (taken_within levels d) v w
unfolding taken_within buses_lost
goes-taken v u x w levels d lost left parent =
    goes-then (λ b. left_bus d (buses_lost levels d b)) (left_parent d) v x w (goes-then (buses_lost levels d) (left_bus d) v u x lost left) parent

pub none-apart : (v : Objects) (levels d : ℕ) → levels ≡ 0 → Goes (apart_within levels d) v v
unfolding apart_within
none-apart v levels d is = goes-same (λ b. b) (apart_within levels d) v v (goes-none v) (λ b log s. ap (λ (k : ℕ). apart_within k d b) is)

pub goes-apart : (v u x w : Objects) (levels d : ℕ) → (levels ≡ 0 → ⊥) → Goes (λ b. pin b d) v u → Goes (taken_within (levels - 1) d) u x
    → Goes (λ b. unpin b d) x w → Goes (apart_within levels d) v w
unfolding apart_within taken_within
goes-apart v u x w levels d some pinned taken unpinned =
    goes-same (λ b. unpin (taken_within (levels - 1) d (pin b d)) d) (apart_within levels d) v w
    (goes-then (λ b. taken_within (levels - 1) d (pin b d)) (λ b. unpin b d) v x w
    (goes-then (λ b. pin b d) (taken_within (levels - 1) d) v u x pinned taken) unpinned)
    (λ b log s. ap (λ (k : ℕ). apart_within k d b) (one-less levels some))
