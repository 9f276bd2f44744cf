-- What acts leave of a board: types, slots, places, holds and notices; so a device that starts keeps its path and its buses.
use Rattle.std.proofs.Common.{◌≡◌, refl, ap, sym, subst, ◌∙◌, ℕ, zero, suc, ◌+◌, true, false, codes, List, [], ◌∷◌, ◌++◌, filter, take, slice_get, Option, Some, None, option_map, option_to_list, IsSomeAnd, Result, Ok, Err, OnOk, arith}
use Rattle.std.specs.Prelude.{filter_map, not, ◌&&◌, if◌then◌else◌}
use Rattle.std.specs.Option.{option_and_then, option_map_or}
use Rattle.std.specs.Str.{bytes_eq}
use Rattle.qo_values.specs.declared.kinds.Act.{Act}
use Rattle.qo_values.specs.declared.kinds.Act.TheVariants.{Realize, Enter, Hold, Exit}
use Rattle.qo_values.specs.declared.kinds.TypeId.{TypeId}
use Rattle.qo_slots.specs.declared.keys.Key.{Key}
use Rattle.qo_claims.specs.declared.claims.Claimed.{Claimed}
use Rattle.qo_heap.specs.Rows.{IsLive, row_at}
use Rattle.qo_model.specs.Board.{Board, Notice, Record, Slot, child, plain, strong, weak, alias, record_of, slots_at}
use Rattle.qo_model.proofs.FirstSlotLemmas.{slots_in}
use Rattle.qo_model.proofs.StepLemmas.{found-edited, slots-edited}
use Rattle.qo_model.specs.Clocks.{acted, with_act_on}
use Rattle.qo_model.specs.Devices.{bus_in, buses_of, clock_name}
use Rattle.qo_model.specs.Paths.{canonical}
use Rattle.qo_model.specs.Plug.{acted_all, bus_births, started, notified_plug}
use Rattle.qo_model.specs.Plug as plug
use Rattle.qo_model.specs.Release as release
use Rattle.qo_model.specs.Reset.{is_not_in_reset, phased, plugged, post}
use Rattle.qo_model.specs.Types.{is_a}
use Rattle.qo_model.specs.declared.notes.Deed.TheVariants.{Did}
use Rattle.qo_object.specs.Content.{Content, acted_at, with_path}
use Rattle.qo_events.specs.Queue.{promised}
use Rattle.qo_heap.specs.Acts.{Acts, KeepsCounts, KeepsPeriods, clocked_in, counted_in, counts_of, periods_of}
use Rattle.qo_heap.specs.Board.{Shows, pins_in}
use Rattle.qo_heap.specs.Book.{IsBook}
use Rattle.qo_heap.specs.Objects.{Objects, content_of, pins_of, with_edit, with_note}
use Rattle.qo_heap.proofs.ActsLemmas.{acts-act, acts-live, acts-then}
use Rattle.qo_heap.proofs.ActsReads.{acts-read}
use Rattle.qo_heap.proofs.BookLemmas.{book-edit}
use Rattle.qo_heap.proofs.HeapLemmas.{live-edit}
use Rattle.qo_heap.proofs.BoardActs.{shows-acted}
use Rattle.qo_heap.proofs.BoardEdits.{shows-edit}
use Rattle.qo_heap.proofs.BoardObjects.{content-edited}
use Rattle.qo_hotplug.specs.Hotplug.{Asked, notified}
use Rattle.qo_life.proofs.TreeLemmas.{read-content}
use Rattle.qo_reset.specs.Counts.{CountedBelow, IsCounted, KeepsOthers}
use Rattle.qo_reset.specs.Phases.{Holds, count_on, is_under}
use Rattle.qo_reset.proofs.CountLemmas.{all_below-acts}
use Rattle.qo_reset.proofs.EditLemmas.{counted-pair, edit-count, edit-under, pair-counted}
use Rattle.qo_properties.specs.KeptClaims.{SameKept, all_kept, kept_with}
use Rattle.qo_plug.proofs.PlacementSteps.{pins-edited}
use Rattle.qo_plug.proofs.TreeLemmas.{SamePlaces, canonical-same, read-edit, tree-edit, tree-same, tree-then}

-- types, slots, places, holds and notices stay

pub record Still (b c : Board) : Type 0 where
  pub slots : (n : ℕ) → slots_at c n ≡ slots_at b n
  pub tree : SamePlaces b c
  pub holds : c.holds ≡ b.holds
  pub notices : c.notices ≡ b.notices

still-none : (b : Board) → Still b b
still-none b = record { slots = λ n. refl; tree = tree-same b; holds = refl; notices = refl }

still-then : (b c d : Board) → Still b c → Still c d → Still b d
still-then b c d s t =
    record {
      slots = λ n. t.slots n ∙ s.slots n;
      tree = tree-then b c d s.tree t.tree;
      holds = t.holds ∙ s.holds;
      notices = t.notices ∙ s.notices;
    }

pub acted-still : (act : Act) (n p : ℕ) (b : Board) → Still b (acted act n p b)
unfolding acted
acted-still act n p b =
    let change : Record → Record = with_act_on act b.now p in
    let tree : SamePlaces b (release.edit n change b) = tree-edit b n change (λ r. refl) (λ r. refl) (λ k r. refl) in
    record {
      slots = λ m. read-edit n change (λ r. refl) (λ (o : Option Record). option_map_or (λ (r : Record). r.slots) o []) (λ r. refl) m b.records;
      tree = record { size = tree.size; places = tree.places; kinds = tree.kinds };
      holds = refl;
      notices = refl;
    }

pub all-still : (act : Act) (ns : List ℕ) (b : Board) → Still b (acted_all act ns b)
all-still act [] b = still-none b
all-still act (n ∷ ns) b = still-then b (acted act n 0 b) (acted_all act ns (acted act n 0 b)) (acted-still act n 0 b) (all-still act ns (acted act n 0 b))

phased-still : (act : Act) (ns : List ℕ) (b : Board) → Still b (phased act ns b)
phased-still act [] b = still-none b
phased-still act (n ∷ ns) b = still-then b (acted act n 0 b) (phased act ns (acted act n 0 b)) (acted-still act n 0 b) (phased-still act ns (acted act n 0 b))

pub plugged-still : (n : ℕ) (b : Board) → Still b (plugged b n)
unfolding plugged
plugged-still n b =
    let c : Board = phased Enter (post b n) b in
    let d : Board = phased Hold (post b n) c in
    still-then b c (phased Exit (filter (is_not_in_reset b) (post b n)) d) (phased-still Enter (post b n) b)
    (still-then c d (phased Exit (filter (is_not_in_reset b) (post b n)) d) (phased-still Hold (post b n) c)
    (phased-still Exit (filter (is_not_in_reset b) (post b n)) d))

-- the buses of a device

bus-still : (b c : Board) → Still b c → (s : List ℕ × Slot) → bus_in c s ≡ bus_in b s
bus-still b c still (name, plain v) = refl
bus-still b c still (name, child m) =
    ap (λ (k : Option TypeId). if option_map_or (λ (t : TypeId). is_a t (codes "bus")) k false && not (bytes_eq name clock_name) then Some m else None)
    (still.tree.kinds m)
bus-still b c still (name, strong t m) = refl
bus-still b c still (name, weak t m) = refl
bus-still b c still (name, alias m of) = refl

bus-at : (b c : Board) → Still b c → (o : Option (List ℕ × Slot)) → option_and_then (bus_in c) o ≡ option_and_then (bus_in b) o
bus-at b c still None = refl
bus-at b c still (Some s) = bus-still b c still s

buses-in : (b c : Board) → Still b c → (ss : List (List ℕ × Slot)) → filter_map (bus_in c) ss ≡ filter_map (bus_in b) ss
buses-in b c still ss = ap (λ (f : List ℕ × Slot → Option ℕ). filter_map f ss) (λ j s. bus-still b c still s j)

pub buses-still : (b c : Board) → Still b c → (n : ℕ) → buses_of c n ≡ buses_of b n
buses-still b c still n = ap (filter_map (bus_in c)) (still.slots n) ∙ buses-in b c still (slots_at b n)

-- acts in order

all-append : (act : Act) (xs ys : List ℕ) (b : Board) → acted_all act (xs ++ ys) b ≡ acted_all act ys (acted_all act xs b)
all-append act [] ys b = refl
all-append act (x ∷ xs) ys b = all-append act xs ys (acted act x 0 b)

module _ {X : Type 0} (f : X → Option ℕ) where
  given-cons : (x : X) (xs : List X) → filter_map f (x ∷ xs) ≡ option_to_list (f x) ++ filter_map f xs
  given-cons x xs = go (f x) refl
    where
      go : (o : Option ℕ) → f x ≡ o → filter_map f (x ∷ xs) ≡ option_to_list (f x) ++ filter_map f xs
      go None e = rw e refl
      go (Some n) e = rw e refl

  given-more : (xs : List X) (at : ℕ) → filter_map f (take (suc at) xs) ≡ filter_map f (take at xs) ++ option_to_list (option_and_then f (slice_get xs at))
  given-more [] zero = refl
  given-more [] (suc at) = refl
  given-more (x ∷ xs) zero = given-cons x [] ∙ append-nil (option_to_list (f x))
    where
      append-nil : (ys : List ℕ) → ys ++ [] ≡ ys
      append-nil [] = refl
      append-nil (y ∷ ys) = ap (λ (l : List ℕ). y ∷ l) (append-nil ys)
  given-more (x ∷ xs) (suc at) =
      given-cons x (take (suc at) xs)
      ∙ ap (λ (l : List ℕ). option_to_list (f x) ++ l) (given-more xs at)
      ∙ sym (assoc (option_to_list (f x)) (filter_map f (take at xs)) (option_to_list (option_and_then f (slice_get xs at))))
      ∙ ap (λ (l : List ℕ). l ++ option_to_list (option_and_then f (slice_get xs at))) (sym (given-cons x (take at xs)))
    where
      assoc : (ks ms ns : List ℕ) → (ks ++ ms) ++ ns ≡ ks ++ (ms ++ ns)
      assoc [] ms ns = refl
      assoc (k ∷ ks) ms ns = ap (λ (l : List ℕ). k ∷ l) (assoc ks ms ns)

take-past : {X : Type 0} (xs : List X) (at : ℕ) → slice_get xs at ≡ None → take at xs ≡ xs
take-past [] zero e = refl
take-past [] (suc at) e = refl
take-past (x ∷ xs) zero e = cc
take-past {X} (x ∷ xs) (suc at) e = ap (λ (l : List X). x ∷ l) (take-past xs at e)

-- what a turn does on each board
abbrev pub BusActs : ℕ → ℕ → Objects → Objects → Type 0
BusActs n at v w = (b : Board) → Shows b v → Shows (acted_all Realize (option_to_list (option_and_then (bus_in b) (slice_get (slots_at b n) at))) b) w

-- the buses in the first slots of a device are realized
pub record Realized (n at : ℕ) (v w : Objects) : Type 0 where
  pub shown : (b : Board) → Shows b v → Shows (acted_all Realize (filter_map (bus_in b) (take at (slots_at b n))) b) w
  pub acts : Acts v w
  pub counts : KeepsCounts v w
  pub periods : KeepsPeriods v w

pub realized-more : (n at : ℕ) (v u w : Objects) → Realized n at v u → BusActs n at u w → Acts u w → KeepsCounts u w → KeepsPeriods u w
    → Realized n (at + 1) v w
realized-more n at v u w r step acts counts periods =
    record {
      shown = λ b s.
          let c : Board = acted_all Realize (filter_map (bus_in b) (take at (slots_at b n))) b in
          let still : Still b c = all-still Realize (filter_map (bus_in b) (take at (slots_at b n))) b in
          let found : option_and_then (bus_in c) (slice_get (slots_at c n) at) ≡ option_and_then (bus_in b) (slice_get (slots_at b n) at) =
          ap (λ (l : List (List ℕ × Slot)). option_and_then (bus_in c) (slice_get l at)) (still.slots n) ∙ bus-at b c still (slice_get (slots_at b n) at) in
          let more : at + 1 ≡ suc at = omega arith in
          let same : acted_all Realize (option_to_list (option_and_then (bus_in c) (slice_get (slots_at c n) at))) c
          ≡ acted_all Realize (filter_map (bus_in b) (take (at + 1) (slots_at b n))) b =
          ap (λ (o : Option ℕ). acted_all Realize (option_to_list o) c) found
          ∙ sym (all-append Realize (filter_map (bus_in b) (take at (slots_at b n))) (option_to_list (option_and_then (bus_in b) (slice_get (slots_at b n) at)))
          b)
          ∙ ap (λ (l : List ℕ). acted_all Realize l b) (sym (given-more (bus_in b) (slots_at b n) at))
          ∙ ap (λ (k : ℕ). acted_all Realize (filter_map (bus_in b) (take k (slots_at b n))) b) (sym more) in
          subst (λ (d : Board). Shows d w) same (step c (r.shown b s));
      acts = acts-then v u w r.acts acts;
      counts = λ m. counts m ∙ r.counts m;
      periods = λ m. periods m ∙ r.periods m;
    }

pub realized-all : (n at : ℕ) (v w : Objects) → Realized n at v w → (b : Board) → Shows b v → slice_get (slots_at b n) at ≡ None
    → Shows (acted_all Realize (buses_of b n) b) w
realized-all n at v w r b s end =
    subst (λ (l : List (List ℕ × Slot)). Shows (acted_all Realize (filter_map (bus_in b) l) b) w) (take-past (slots_at b n) at end) (r.shown b s)

-- the device first
pub realized-first : (n : ℕ) (b : Board) (w : Objects) → Shows (acted_all Realize (buses_of (acted Realize n 0 b) n) (acted Realize n 0 b)) w
    → Shows (acted_all Realize (n ∷ buses_of b n) b) w
realized-first n b w s =
    subst (λ (l : List ℕ). Shows (acted_all Realize l (acted Realize n 0 b)) w) (buses-still b (acted Realize n 0 b) (acted-still Realize n 0 b) n) s

-- the path is kept, and the guest is told

and-then-is : {X Y : Type 0} (f : X → Option Y) (o : Option X) → option_and_then f o ≡ option_map_or f o None
and-then-is f None = refl
and-then-is f (Some x) = refl

pub still-pathless : (v w : Objects) → Acts v w → (n : ℕ) → option_and_then (λ (c : Content). c.kept_path) (content_of v n) ≡ None
    → option_and_then (λ (c : Content). c.kept_path) (content_of w n) ≡ None
still-pathless v w acts n none =
    and-then-is (λ (c : Content). c.kept_path) (content_of w n)
    ∙ acts-read (λ (c : Content). c.kept_path) None (λ c. refl) v w acts n
    ∙ sym (and-then-is (λ (c : Content). c.kept_path) (content_of v n))
    ∙ none

pub path-shown : (b : Board) (v w : Objects) → Shows b v → (n : ℕ) (path : List ℕ) → canonical b n ≡ Some path
    → w ≡ record (with_edit n (with_path path) v) { events = promised v.events } → Shows (notified_plug n b) w
path-shown b v w s n path is now =
    let all : Shows (release.edit n (plug.with_path (Some path)) b) (with_edit n (with_path path) v) =
    shows-edit n (with_path path) b v s (plug.with_path (Some path)) (λ m c. refl) (λ c. refl) in
    let told : Shows (release.edit n (plug.with_path (Some path)) b) w =
    subst (Shows (release.edit n (plug.with_path (Some path)) b)) (sym now) (record {
      records = all.records;
      born = all.born;
      pins = all.pins;
      notes = all.notes;
      events = all.events;
      now = all.now;
    }) in
    let kept : Shows (release.edit n (plug.with_path (canonical b n)) b) w =
    subst (λ (o : Option (List ℕ)). Shows (release.edit n (plug.with_path o) b) w) (sym is) told in
    record { records = kept.records; born = kept.born; pins = kept.pins; notes = kept.notes; events = kept.events; now = kept.now }

pub started-shown : (n : ℕ) (t : TypeId) (b : Board) (w : Objects) → buses_of b n ≡ bus_births n t
    → Shows (notified_plug n (plugged (acted_all Realize (n ∷ buses_of b n) b) n)) w → Shows (started n t b) w
started-shown n t b w same s = subst (λ (l : List ℕ). Shows (notified_plug n (plugged (acted_all Realize (n ∷ l) b) n)) w) same s

-- slots stay
pub started-slots : (n : ℕ) (t : TypeId) (c : Board) (i : ℕ) → slots_at (started n t c) i ≡ slots_at c i
started-slots n t c i =
    let d : Board = acted_all Realize (n ∷ bus_births n t) c in
    ap slots_in (found-edited n (plug.with_path (canonical (plugged d n) n)) (λ r. refl) i (plugged d n).records)
    ∙ slots-edited n (plug.with_path (canonical (plugged d n) n)) (λ r. refl) (record_of (plugged d n) i)
    ∙ (plugged-still n d).slots i
    ∙ (all-still Realize (n ∷ bus_births n t) c).slots i

-- the path of a device that acted is the one before
pub acted-path : (n : ℕ) (ns : List ℕ) (b : Board) (path : List ℕ) → canonical b n ≡ Some path → canonical (plugged (acted_all Realize ns b) n) n ≡ Some path
acted-path n ns b path is =
    let c : Board = acted_all Realize ns b in
    canonical-same c (plugged c n) (plugged-still n c).tree n ∙ canonical-same b c (all-still Realize ns b).tree n ∙ is

pub acted-notices : (n : ℕ) (ns : List ℕ) (b : Board) → (plugged (acted_all Realize ns b) n).notices ≡ b.notices
acted-notices n ns b = let c : Board = acted_all Realize ns b in (plugged-still n c).notices ∙ (all-still Realize ns b).notices

-- an edit of a path leaves claims and pins
pub path-book : (out : List Claimed) (v w : Objects) (n : ℕ) (path : List ℕ) → w ≡ record (with_edit n (with_path path) v) { events = promised v.events }
    → IsBook out v → IsBook out w
path-book out v w n path now book =
    let all : IsBook out (with_edit n (with_path path) v) = book-edit out v n (with_path path) (λ c. refl) book in
    subst (IsBook out) (sym now) (λ x. all x)

-- one act
pub act-shown : (v w : Objects) (o : Key) → w ≡ with_note (record { birth = o.birth; deed = Did Realize }) (with_edit o.birth (acted_at Realize v.time 0) v)
    → (b : Board) → Shows b v → Shows (acted Realize o.birth 0 b) w
act-shown v w o is b s = subst (Shows (acted Realize o.birth 0 b)) (sym is) (shows-acted b v s Realize o.birth 0)

pub act-acts : (v w : Objects) (o : Key) → w ≡ with_note (record { birth = o.birth; deed = Did Realize }) (with_edit o.birth (acted_at Realize v.time 0) v)
    → Acts v w
act-acts v w o is = subst (Acts v) (sym is) (acts-act v (record { birth = o.birth; deed = Did Realize }) o.birth Realize v.time 0)

pub act-counts : (v w : Objects) (o : Key) → w ≡ with_note (record { birth = o.birth; deed = Did Realize }) (with_edit o.birth (acted_at Realize v.time 0) v)
    → KeepsCounts v w
act-counts v w o is m = ap (λ (x : Objects). counted_in x m) is ∙ read-content counts_of o.birth (acted_at Realize v.time 0) (λ c. refl) v m

pub act-periods : (v w : Objects) (o : Key) → w ≡ with_note (record { birth = o.birth; deed = Did Realize }) (with_edit o.birth (acted_at Realize v.time 0) v)
    → KeepsPeriods v w
act-periods v w o is m = ap (λ (x : Objects). clocked_in x m) is ∙ read-content periods_of o.birth (acted_at Realize v.time 0) (λ c. refl) v m

pub found-shown : (v w : Objects) (o : Key) → w ≡ with_note (record { birth = o.birth; deed = Did Realize }) (with_edit o.birth (acted_at Realize v.time 0) v)
    → (b : Board) → Shows b v → (found : Option ℕ) → Some o.birth ≡ found → Shows (acted_all Realize (option_to_list found) b) w
found-shown v w o is b s found at = subst (λ (x : Option ℕ). Shows (acted_all Realize (option_to_list x) b) w) at (act-shown v w o is b s)

-- who is there stays, where bodies act
pub still-live : (v w : Objects) → Acts v w → (key : Key) → IsLive v.rows key → IsLive w.rows key
still-live v w acts key live = rw (acts-live v w acts key) live

-- a device that is kept a path is there, with its pins
pub path-live : (v w : Objects) (n : ℕ) (path : List ℕ) → w ≡ record (with_edit n (with_path path) v) { events = promised v.events } → (key : Key)
    → IsLive v.rows key → IsLive w.rows key
path-live v w n path now key live = subst (λ (x : Objects). IsLive x.rows key) (sym now) (live-edit n (with_path path) v.rows key live)

pub path-all_pins : (v w : Objects) (n : ℕ) (path : List ℕ) → w ≡ record (with_edit n (with_path path) v) { events = promised v.events }
    → pins_in w.rows ≡ pins_in v.rows
path-all_pins v w n path now = ap (λ (x : Objects). pins_in x.rows) now ∙ pins-edited n (with_path path) (λ c. refl) v.rows

pub path-claims : (v w : Objects) (n : ℕ) (path : List ℕ) → w ≡ record (with_edit n (with_path path) v) { events = promised v.events } → SameKept v w
path-claims v w n path now m = ap (λ (x : Objects). all_kept x m) now ∙ read-content kept_with n (with_path path) (λ c. refl) v m

-- the counts stay
pub path-counted : (v w : Objects) (n : ℕ) (path : List ℕ) → w ≡ record (with_edit n (with_path path) v) { events = promised v.events } → (holds : List ℕ)
    → CountedBelow n holds v → CountedBelow n holds w
unfolding count_on
path-counted v w n path now holds below = subst (CountedBelow n holds) (sym now) told
  where
    edited : Objects
    edited = with_edit n (with_path path) v

    one : (m : ℕ) (c : Content) → content_of (with_edit n (with_path path) v) m ≡ Some c → is_under (with_edit n (with_path path) v) m n ≡ true
        → IsCounted (with_edit n (with_path path) v) holds m c
    one m c there under =
        pair-counted edited holds m
        (λ k e.
        counted-pair v holds m k (λ d is. below m d is (sym (edit-under n (with_path path) (λ x. refl) (λ x. refl) v m n) ∙ under))
        (sym (read-content counts_of n (with_path path) (λ x. refl) v m) ∙ e)
        ∙ ap (λ (x : ℕ). (x, 0)) (sym (edit-count n (with_path path) (λ x. refl) (λ x. refl) v holds m)))
        c there

    -- events are not counted
    told : CountedBelow n holds (record (with_edit n (with_path path) v) { events = promised v.events })
    told m c there under =
        let its : IsCounted (with_edit n (with_path path) v) holds m c = one m c there under in
        record { count = its.count; unmarked = its.unmarked }

pub path-others : (v u w : Objects) (n : ℕ) (path : List ℕ) → w ≡ record (with_edit n (with_path path) u) { events = promised u.events } → Acts v u
    → KeepsOthers n v u → (m : ℕ) → is_under w m n ≡ false → counted_in w m ≡ counted_in v m
path-others v u w n path now acts others m apart =
    ap (λ (x : Objects). counted_in x m) now
    ∙ read-content counts_of n (with_path path) (λ c. refl) u m
    ∙ others m
    (sym (all_below-acts v u acts n m)
    ∙ sym (edit-under n (with_path path) (λ x. refl) (λ x. refl) u m n)
    ∙ ap (λ (x : Objects). is_under x m n) (sym now)
    ∙ apart)

-- it is kept, where the object is there
pub path-kept : (v w : Objects) (o : Key) (path : List ℕ) → w ≡ record (with_edit o.birth (with_path path) v) { events = promised v.events } → IsLive v.rows o
    → option_and_then (λ (c : Content). c.kept_path) (content_of w o.birth) ≡ Some path
path-kept v w o path now live =
    ap (λ (x : Objects). option_and_then (λ (c : Content). c.kept_path) (content_of x o.birth)) now
    ∙ ap (λ (x : Option Content). option_and_then (λ (c : Content). c.kept_path) x) (content-edited v o.birth (with_path path))
    ∙ go (row_at v.rows o.birth) live
  where
    go : (r : Option (Key × Content)) → IsSomeAnd r (λ row. row.0.index ≡ o.index)
        → option_and_then (λ (c : Content). c.kept_path) (option_map (with_path path) (option_map (λ (row : Key × Content). row.1) r)) ≡ Some path
    go None h = absurd h
    go (Some row) h = refl

pub path-pins : (v w : Objects) (n : ℕ) (path : List ℕ) → w ≡ record (with_edit n (with_path path) v) { events = promised v.events } → pins_of w n ≡ pins_of v n
path-pins v w n path now = ap (λ (x : Objects). pins_of x n) now
    ∙ ap (λ (o : Option Content). option_map_or (λ (c : Content). c.pins) o 0) (content-edited v n (with_path path)) ∙ go (content_of v n)
  where
    go : (o : Option Content) → option_map_or (λ (c : Content). c.pins) (option_map (with_path path) o) 0 ≡ option_map_or (λ (c : Content). c.pins) o 0
    go None = refl
    go (Some c) = refl

-- the notice
pub ok-gives : {T E : Type 0} (P : Type 0) (r : Result T E) (x : T) → r ≡ Ok x → OnOk r P → P
ok-gives P (Ok y) x is h = h
ok-gives P (Err e) x is h = cc

pub started-told : (n : ℕ) (t : TypeId) (b : Board) (old new : Asked) → new ≡ notified true n old → b.notices ≡ old.notices
    → (started n t b).notices ≡ new.notices
started-told n t b old new is same =
    ap (λ (l : List Notice). l ++ record { plug = true; birth = n } ∷ []) (acted-notices n (n ∷ bus_births n t) b ∙ same)
    ∙ sym (ap (λ (x : Asked). x.notices) is)

-- it starts
pub starts : (n : ℕ) (t : TypeId) (b : Board) (holds path : List ℕ) (u v w : Objects) → Shows (acted_all Realize (n ∷ buses_of b n) b) u → b.holds ≡ holds
    → ((d : Board) → Holds d holds u → Holds (plugged d n) holds v) → w ≡ record (with_edit n (with_path path) v) { events = promised v.events }
    → buses_of b n ≡ bus_births n t → canonical b n ≡ Some path → Shows (started n t b) w
starts n t b holds path u v w realized held phases now buses is =
    let d : Board = acted_all Realize (n ∷ buses_of b n) b in
    let still : d.holds ≡ holds = (all-still Realize (n ∷ buses_of b n) b).holds ∙ held in
    let p : Holds (plugged d n) holds v = phases d (realized, still) in
    started-shown n t b w buses (path-shown (plugged d n) v w p.0 n path (acted-path n (n ∷ buses_of b n) b path is) now)
