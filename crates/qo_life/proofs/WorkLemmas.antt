-- The work of a release over a heap, turn by turn.
use Rattle.std.proofs.Common.{◌≡◌, refl, ap, sym, subst, ◌∙◌, ℕ, zero, suc, ◌+◌, ◌-◌, ◌*◌, ◌<◌, ◌≤◌, Bool, true, false, not, ◌==◌, eqb, nat_eq, List, [], ◌∷◌, map, filter, length, count_by, Option, Some, None, is_some, option_map, IfSome, arith}
use Rattle.std.specs.List.{AllByRecursion, IsDistinct}
use Rattle.std.specs.Option.{option_map_or}
use Rattle.std.proofs.lemmas.Bool.{eqb-true}
use Rattle.std.proofs.lemmas.Option.{same_Some}
use Rattle.std.proofs.Math.Nat.{mul-le-mul, suc-mul}
use Rattle.qo_slots.specs.declared.keys.Key.{Key}
use Rattle.qo_heap.specs.Rows.{IsLive, edit, without}
use Rattle.qo_model.specs.Board.{Board, is_live}
use Rattle.qo_model.specs.Board as board
use Rattle.qo_model.specs.References.{refs}
use Rattle.qo_model.specs.Release.{drop_slot, next_index, finish, holding, width, finalize}
use Rattle.qo_model.specs.ReleaseBound.{left_of_all, objects_and_slots, place_in, weak_links}
use Rattle.qo_model.specs.ReleaseWork.{rest}
use Rattle.qo_model.proofs.BoundLemmas.{bound_lem}
use Rattle.qo_model.proofs.ReleaseLemmas.{drop-falls, drop-holding, drop-width, end_of-first, finish-holding, finish-width, place-lt-width}
use Rattle.qo_model.proofs.ReleaseWorkLemmas.{rest-ended, rest-freed, rest-kept}
use Rattle.qo_model.proofs.StepLemmas.{unheld-apart}
use Rattle.qo_heap.specs.Log.{Log, empty_log, noted_all}
use Rattle.qo_object.specs.declared.room.Work.{Work}
use Rattle.qo_object.specs.declared.slots.Slot.{Slot}
use Rattle.qo_object.specs.declared.slots.Slot.TheVariants.{Plain, Child, Link, Alias}
use Rattle.qo_object.specs.Slots.{referent, slot_in}
use Rattle.qo_object.specs.Content.{Content, dropped_at, forgotten, reference_count, with_work}
use Rattle.qo_object.specs.BoardObject.{birth_of, shown, shown_slot, shown_slots}
use Rattle.qo_object.proofs.BoardObjectLemmas.{reference_count-shown, shown-held}
use Rattle.qo_heap.specs.Board.{Shows}
use Rattle.qo_heap.specs.Objects.{IsHeap, Objects, content_of, ended, forgets, refs_of, slots_of, with_edit}
use Rattle.qo_heap.proofs.BoardEdits.{edit-unseen, pins-edited, shows-drop_slot}
use Rattle.qo_heap.proofs.BoardObjects.{content-edited, content-left, content-other, live-content}
use Rattle.qo_heap.proofs.BoardReads.{shows-live_key, shows-refs, shows-slots}
use Rattle.qo_heap.proofs.BookLemmas.{book-edit}
use Rattle.qo_heap.proofs.EndLemmas.{length-without, live-without}
use Rattle.qo_heap.proofs.HeapLemmas.{live-edit, length-edit}
use Rattle.qo_life.specs.declared.release.Front.{Front}
use Rattle.qo_life.specs.Life.{Goes, next_at, with_log}
use Rattle.qo_heap.specs.WeakEnds.{weak_ends as weak_ends_on}
use Rattle.qo_life.specs.Work.{GoesOn, kept, freed, front_at, weak_ends, work_of, worth}
use Rattle.qo_life.proofs.BoardLemmas.{Stays, none-held, stays-finish, stays-other, stays-own}
use Rattle.qo_life.proofs.ReleaseLemmas.{given, next-shown, slot-shown, turn-live}
use Rattle.qo_life.proofs.PaidLemmas.{finish-weak, weak-shown, worth-same}
use Rattle.qo_life.proofs.TreeLemmas.{tree, tree_with, tree-shows, heap-with_log, tree-after, edit-bodies, edit-sides, goes-drop, goes-end, goes-none, goes-same, goes-then, live-before_edit, read-content}

-- a place in the work changes nothing on the board
pub goes-work : (v : Objects) (n : ℕ) (x : Work) → Goes (λ b. b) v (with_edit n (with_work x) v)
unfolding noted_all
goes-work v n x =
    record {
      more = [];
      log = refl;
      shown = λ b log s.
          record {
            records = s.records ∙ sym (edit-unseen n (with_work x) (λ m c. refl) v.rows);
            born = s.born;
            pins = s.pins ∙ sym (pins-edited n (with_work x) (λ c. refl) v.rows);
            notes = s.notes;
            events = s.events;
            now = s.now;
          };
      names = live-before_edit n (with_work x) v.rows;
      bodies = edit-bodies v n (with_work x) (λ c. refl);
      sides = edit-sides v n (with_work x) (λ c. refl);
      book = λ out h. book-edit out v n (with_work x) (λ c. refl) h;
      time = refl;
      spare = refl;
    }

-- what stays on a board stays on the tree of the heap
stays-tree : (step : Board → Board) (v w : Objects) → Goes step v w → (x i : ℕ) → Stays x i (step (tree v)) → Stays x i (tree w)
stays-tree step v w goes x i s =
    subst (λ (b : Board). Stays x i b) (tree-after step v w goes) (record { live = s.live; free = s.free; bare = s.bare })

-- an object that is there and to which nothing refers, none of whose slots was let go
stays-bare : (v : Objects) → IsHeap v → (o : Key) → IsLive v.rows o → refs_of v o.birth ≡ 0 → Stays o.birth 0 (tree v)
stays-bare v good o live free =
    record {
      live = shows-live_key (tree v) (with_log empty_log v) (tree-shows v) o live;
      free = shows-refs (tree v) (with_log empty_log v) (tree-shows v) (heap-with_log v empty_log good) o.birth ∙ free;
      bare = λ j below s e. absurd (omega arith);
    }

-- the work, with births
abbrev pub births_of : List (Key × ℕ) → List (ℕ × ℕ)
births_of work = map (λ (p : Key × ℕ). (p.0.birth, p.1)) work

abbrev pub objects_of : List (Key × ℕ) → List ℕ
objects_of work = map (λ (p : Key × ℕ). p.0.birth) work

-- from an object on, the work stands in the objects
abbrev pub IsChained : Objects → Option Key → List (Key × ℕ) → Type 0
IsChained v next [] = next ≡ None
IsChained v next (p ∷ ps) =
    (next ≡ Some p.0) × ((later : Option Key) × ((work_of v p.0.birth ≡ Some (record { next = later; at = p.1 })) × IsChained v later ps))

-- an object of the work: it is there, nothing refers to it, and its slots before its place hold nothing
pub record IsDoing (v : Objects) (p : Key × ℕ) : Type 0 where
  pub live : IsLive v.rows p.0
  pub stays : Stays p.0.birth p.1 (tree v)

-- what is still owed of a release in a heap: eight for each object, and for each slot that is left to let go, and four for each weak link
abbrev pub owed : Objects → List (ℕ × ℕ) → ℕ
owed v work = 8 * left_of_all (tree v) work + 4 * weak_links (tree v)

-- where the finalization of n in v is in w, the front of the work being this, after so many steps, where in all it takes at most `total`
pub record At (v w : Objects) (n total spent : ℕ) (front : Front) : Type 0 where
  pub others : List (Key × ℕ)
  pub chained : IsChained w front.next others
  pub apart : AllByRecursion (λ x. nat_eq front.o.birth x ≡ false) (objects_of others)
  pub differ : IsDistinct nat_eq (objects_of others)
  pub here : IsDoing w (front.o, front.at)
  pub each : AllByRecursion (IsDoing w) others
  pub step : Board → Board
  pub goes : Goes step v w
  pub same : (b : Board) (log : Log) → Shows b (with_log log v) → rest (step b) ((front.o.birth, front.at) ∷ births_of others) ≡ finalize b n
  pub paid : spent + owed w ((front.o.birth, front.at) ∷ births_of others) ≤ total

-- where it is done
pub record IsDone (v w : Objects) (n total spent : ℕ) : Type 0 where
  pub goes : Goes (λ b. finalize b n) v w
  pub paid : spent + owed w [] ≤ total

abbrev pub Running : Objects → Objects → ℕ → ℕ → ℕ → Option Front → Type 0
Running v w n total spent None = IsDone v w n total spent
Running v w n total spent (Some front) = At v w n total spent front

-- as the code has the front
pub running-at : (v w : Objects) (n total spent : ℕ) (front : Option Front) (now : Front) → front ≡ Some now → Running v w n total spent front
    → At v w n total spent now
running-at v w n total spent front now is running = subst (λ (q : Option Front). Running v w n total spent q) is running

pub running-done : (v w : Objects) (n total spent : ℕ) (front : Option Front) → front ≡ None → Running v w n total spent front → IsDone v w n total spent
running-done v w n total spent front is running = subst (λ (q : Option Front). Running v w n total spent q) is running

pub at-first : (v : Objects) → IsHeap v → (o : Key) → IsLive v.rows o → refs_of v o.birth ≡ 0 → (spent : ℕ)
    → At v v o.birth (spent + owed v ((o.birth, 0) ∷ [])) spent (record { o = o; at = 0; next = None })
unfolding IsDistinct
at-first v good o live free spent =
    record {
      others = [];
      chained = refl;
      apart = tt;
      differ = tt;
      here = record { live = live; stays = stays-bare v good o live free };
      each = tt;
      step = λ b. b;
      goes = goes-none v;
      same = λ b log s. sym (end_of-first b o.birth);
      paid = omega arith;
    }

-- the work of the others, where each has the place that it had
chained-same : (v w : Objects) (ps : List (Key × ℕ)) → AllByRecursion (λ (p : Key × ℕ). work_of w p.0.birth ≡ work_of v p.0.birth) ps → (next : Option Key)
    → IsChained v next ps → IsChained w next ps
chained-same v w [] same next h = h
chained-same v w (p ∷ ps) same next h = (h.0, (h.1.0, (same.0 ∙ h.1.1.0, chained-same v w ps same.1 h.1.0 h.1.1.1)))

-- others than n
apart-flip : (n x : ℕ) → nat_eq n x ≡ false → (x == n) ≡ false
apart-flip n x e = grind (arith, e)

module _ (n : ℕ) where
  abbrev Apart : List (Key × ℕ) → Type 0
  Apart ps = AllByRecursion (λ x. nat_eq n x ≡ false) (map (λ (p : Key × ℕ). p.0.birth) ps)

  -- the slots of n, and its place in the work, change nothing of the others
  work-dropped : (i : ℕ) (v : Objects) (ps : List (Key × ℕ))
      → AllByRecursion (λ (p : Key × ℕ). work_of (with_edit n (dropped_at i) v) p.0.birth ≡ work_of v p.0.birth) ps
  work-dropped i v [] = tt
  work-dropped i v (p ∷ ps) = (read-content (λ (c : Content). c.work) n (dropped_at i) (λ c. refl) v p.0.birth, work-dropped i v ps)

  work-others : (f : Content → Content) (v : Objects) (ps : List (Key × ℕ)) → Apart ps
      → AllByRecursion (λ (p : Key × ℕ). work_of (with_edit n f v) p.0.birth ≡ work_of v p.0.birth) ps
  work-others f v [] apart = tt
  work-others f v (p ∷ ps) apart =
      (ap (option_map (λ (c : Content). c.work)) (content-other v n p.0.birth f (apart-flip n p.0.birth apart.0)), work-others f v ps apart.1)

  work-left : (x : Content) (v : Objects) (ps : List (Key × ℕ)) → Apart ps
      → AllByRecursion (λ (p : Key × ℕ). work_of (ended n x v) p.0.birth ≡ work_of v p.0.birth) ps
  work-left x v [] apart = tt
  work-left x v (p ∷ ps) apart = (
    ap (option_map (λ (c : Content). c.work)) (content-left v n p.0.birth x (apart-flip n p.0.birth apart.0)) ∙ two (content_of v p.0.birth),
    work-left x v ps apart.1,
  )
    where
      two : (o : Option Content) → option_map (λ (c : Content). c.work) (option_map (forgotten n) o) ≡ option_map (λ (c : Content). c.work) o
      two None = refl
      two (Some c) = refl

  -- what is so of the others stays so, where a slot of n was let go, where n has another place in the work, and where n ended
  each-drop : (i : ℕ) (v : Objects) (ps : List (Key × ℕ)) → Apart ps → AllByRecursion (IsDoing v) ps
      → AllByRecursion (IsDoing (with_edit n (dropped_at i) v)) ps
  each-drop i v [] apart each = tt
  each-drop i v (p ∷ ps) apart each = (
    record {
      live = live-edit n (dropped_at i) v.rows p.0 each.0.live;
      stays =
          stays-tree (λ b. drop_slot b n i) v (with_edit n (dropped_at i) v) (goes-drop v n i) p.0.birth p.1
          (stays-other p.0.birth p.1 (tree v) n i (apart-flip n p.0.birth apart.0) each.0.stays);
    },
    each-drop i v ps apart.1 each.1,
  )

  doing-work : (x : Work) (v : Objects) (p : Key × ℕ) → IsDoing v p → IsDoing (with_edit n (with_work x) v) p
  doing-work x v p d =
      record {
        live = live-edit n (with_work x) v.rows p.0 d.live;
        stays = stays-tree (λ b. b) v (with_edit n (with_work x) v) (goes-work v n x) p.0.birth p.1 d.stays;
      }

  each-work : (x : Work) (v : Objects) (ps : List (Key × ℕ)) → AllByRecursion (IsDoing v) ps → AllByRecursion (IsDoing (with_edit n (with_work x) v)) ps
  each-work x v [] each = tt
  each-work x v (p ∷ ps) each = (doing-work x v p each.0, each-work x v ps each.1)

  each-end : (v : Objects) (good : IsHeap v) (x : Content) (there : content_of v n ≡ Some x) (free : refs_of v n ≡ 0) (ps : List (Key × ℕ)) → Apart ps
      → AllByRecursion (IsDoing v) ps → AllByRecursion (IsDoing (ended n x v)) ps
  each-end v good x there free [] apart each = tt
  each-end v good x there free (p ∷ ps) apart each = (
    record {
      live = live-without n v.rows p.0 each.0.live (apart-flip n p.0.birth apart.0);
      stays =
          stays-tree (λ b. finish b n) v (ended n x v) (goes-end v good n x there free) p.0.birth p.1
          (stays-finish p.0.birth p.1 (tree v) n (apart-flip n p.0.birth apart.0) each.0.stays);
    },
    each-end v good x there free ps apart.1 each.1,
  )

-- one slot of the front, let go
module _ (v w : Objects) (n total spent : ℕ) (f : Front) (good : IsHeap w) (now : At v w n total spent f) (s : Slot)
    (there : slot_in (slots_of w f.o.birth) f.at ≡ Some s) (good' : IsHeap (with_edit f.o.birth (dropped_at f.at) w)) where
  abbrev k : ℕ
  k = f.o.birth

  abbrev u : Objects
  u = with_edit f.o.birth (dropped_at f.at) w

  -- on each board of the heap
  board-slot : (b : Board) (log : Log) → Shows b (with_log log v) → board.slot_at (now.step b) k f.at ≡ Some (shown_slot s)
  board-slot b log t = slot-shown (now.step b) (with_log (noted_all now.goes.more log) w) (now.goes.shown b log t) k f.at (Some s) there

  board-refs : (b : Board) (log : Log) → Shows b (with_log log v) → (m : ℕ) → refs (drop_slot (now.step b) k f.at) m ≡ refs_of u m
  board-refs b log t m =
      let dropped : Shows (drop_slot (now.step b) k f.at) (with_log (noted_all now.goes.more log) u) =
      shows-drop_slot (now.step b) (with_log (noted_all now.goes.more log) w) (now.goes.shown b log t) k f.at in
      shows-refs (drop_slot (now.step b) k f.at) (with_log (noted_all now.goes.more log) u) dropped (heap-with_log u (noted_all now.goes.more log) good') m

  goes-now : Goes (λ b. drop_slot (now.step b) k f.at) v u
  goes-now = goes-then now.step (λ b. drop_slot b k f.at) v w u now.goes (goes-drop w k f.at)

  own : IsDoing u (f.o, next_at f.at s)
  own =
      let at : board.slot_at (tree w) k f.at ≡ Some (shown_slot s) = slot-shown (tree w) (with_log empty_log w) (tree-shows w) k f.at (Some s) there in
      let stays : Stays k (next_at f.at s) (drop_slot (tree w) k f.at) =
      subst (λ (j : ℕ). Stays k j (drop_slot (tree w) k f.at)) (next-shown f.at s) (stays-own k f.at (tree w) (shown_slot s) at now.here.stays) in
      record {
        live = live-edit k (dropped_at f.at) w.rows f.o now.here.live;
        stays = stays-tree (λ b. drop_slot b k f.at) w u (goes-drop w k f.at) k (next_at f.at s) stays;
      }

  some-held : (o : Option Key) → ((m : Key) → o ≡ Some m → 0 < refs_of u m.birth) → (m : ℕ) → birth_of o ≡ Some m → 0 < refs_of u m
  some-held None some m e = cc
  some-held (Some key) some m e = subst (λ (x : ℕ). 0 < refs_of u x) (same_Some key.birth m e) (some key refl)

  -- what a turn pays
  left-now : (work : List (ℕ × ℕ)) → owed (with_edit f.o.birth (dropped_at f.at) w) ((f.o.birth, next_at f.at s) ∷ work) + 8
      ≤ owed w ((f.o.birth, f.at) ∷ work)
  left-now work =
      let same : tree_with (drop_slot (tree w) k f.at).records (drop_slot (tree w) k f.at).born (drop_slot (tree w) k f.at).pins
      (drop_slot (tree w) k f.at).events (drop_slot (tree w) k f.at).now ≡ tree u =
      tree-after (λ b. drop_slot b k f.at) w u (goes-drop w k f.at) in
      let at : board.slot_at (tree w) k f.at ≡ Some (shown_slot s) = slot-shown (tree w) (with_log empty_log w) (tree-shows w) k f.at (Some s) there in
      let one : left_of_all (drop_slot (tree w) k f.at) ((k, next_index (shown_slot s) f.at) ∷ work) ≡ left_of_all (tree u) ((k, next_at f.at s) ∷ work) =
      ap (λ (j : ℕ). left_of_all (drop_slot (tree w) k f.at) ((k, j) ∷ work)) (next-shown f.at s)
      ∙ ap (λ (b : Board). left_of_all b ((k, next_at f.at s) ∷ work)) same in
      let two : weak_links (drop_slot (tree w) k f.at) ≡ weak_links (tree u) = ap weak_links same in
      omega (arith, one, two, bound_lem.after_slot (tree w) k f.at work (shown_slot s) at, bound_lem.weak_slot (tree w) k f.at)

  -- nothing is free
  pub at-kept : (later : ℕ) → later ≤ spent + 8 → ((m : Key) → referent s ≡ Some m → 0 < refs_of u m.birth)
      → At v u n total later (record { o = f.o; at = next_at f.at s; next = f.next })
  at-kept later few some =
      record {
        others = now.others;
        chained = chained-same w u now.others (work-dropped k f.at w now.others) f.next now.chained;
        apart = now.apart;
        differ = now.differ;
        here = own;
        each = each-drop k f.at w now.others now.apart now.each;
        step = λ b. drop_slot (now.step b) k f.at;
        goes = goes-now;
        same = λ b log t.
            ap (λ (j : ℕ). rest (drop_slot (now.step b) k f.at) ((k, j) ∷ births_of now.others)) (sym (next-shown f.at s))
            ∙ sym (rest-kept (now.step b) k f.at (births_of now.others) (shown_slot s) (board-slot b log t)
            (λ m e. subst (λ (x : ℕ). 0 < x) (sym (board-refs b log t m)) (some-held (referent s) some m (sym (shown-held s) ∙ e))))
            ∙ now.same b log t;
        paid = omega (arith, few, now.paid, left-now (births_of now.others));
      }

  -- what the slot held is free
  module _ (m : Key) (holds : referent s ≡ Some m) (free : refs_of u m.birth ≡ 0) where
    shown-holds : board.referent (shown_slot s) ≡ Some m.birth
    shown-holds = shown-held s ∙ ap birth_of holds

    another : (x : ℕ) → refs (tree w) x ≡ 0 → nat_eq m.birth x ≡ false
    another x none = go (nat_eq m.birth x) refl
      where
        go : (t : Bool) → nat_eq m.birth x ≡ t → nat_eq m.birth x ≡ false
        go true is =
            absurd
            (unheld-apart (tree w) x k f.at m.birth (shown_slot s) none (slot-shown (tree w) (with_log empty_log w) (tree-shows w) k f.at (Some s) there)
            shown-holds
            (eqb-true m.birth x is))
        go false is = is

    others-apart : (ps : List (Key × ℕ)) → AllByRecursion (IsDoing w) ps → AllByRecursion (λ x. nat_eq m.birth x ≡ false) (map (λ (p : Key × ℕ). p.0.birth) ps)
    others-apart [] each = tt
    others-apart (p ∷ ps) each = (another p.0.birth each.0.stays.free, others-apart ps each.1)

    abbrev place : Work
    place = record { next = f.next; at = next_at f.at s }

    abbrev x : Objects
    x = with_edit f.o.birth (with_work (record { next = f.next; at = next_at f.at s })) (with_edit f.o.birth (dropped_at f.at) w)

    placed : work_of x k ≡ Some place
    placed =
        let (c, is) = live-content u f.o own.live in
        ap (option_map (λ (y : Content). y.work)) (content-edited u k (with_work place) ∙ ap (option_map (with_work place)) is)

    apart-place : (ps : List (Key × ℕ)) → AllByRecursion (λ y. nat_eq m.birth y ≡ false) (map (λ (p : Key × ℕ). p.0.birth) ps)
        → place_in (births_of ps) m.birth ≡ 0
    apart-place [] apart = refl
    apart-place (p ∷ ps) apart =
        let other : (p.0.birth == m.birth) ≡ false = apart-flip m.birth p.0.birth apart.0 in rw other (apart-place ps apart.1)

    left-freed : owed (with_edit f.o.birth (with_work (record { next = f.next; at = next_at f.at s })) (with_edit f.o.birth (dropped_at f.at) w))
        ((m.birth, 0) ∷ (f.o.birth, next_at f.at s) ∷ births_of now.others)
        ≡ owed (with_edit f.o.birth (dropped_at f.at) w) ((f.o.birth, next_at f.at s) ∷ births_of now.others)
    left-freed =
        let same : tree u ≡ tree x = tree-after (λ b. b) u x (goes-work u k place) in
        let none : place_in ((k, next_at f.at s) ∷ births_of now.others) m.birth ≡ 0 =
        apart-place ((f.o, next_at f.at s) ∷ now.others) (another k now.here.stays.free, others-apart now.others now.each) in
        ap (λ (b : Board). 8 * left_of_all b ((m.birth, 0) ∷ (k, next_at f.at s) ∷ births_of now.others) + 4 * weak_links b) (sym same)
        ∙ ap (λ (j : ℕ). 8 * j + 4 * weak_links (tree u))
        (bound_lem.after_freed (tree u) k 0 m.birth ((k, next_at f.at s) ∷ births_of now.others) none)

    pub at-freed : (later : ℕ) → later ≤ spent + 8 → At v x n total later (record { o = m; at = 0; next = Some f.o })
    unfolding IsDistinct
    at-freed later few =
        record {
          others = (f.o, next_at f.at s) ∷ now.others;
          chained = (
            refl,
            (
              f.next,
              (
                placed,
                chained-same u x now.others (work-others k (with_work place) u now.others now.apart) f.next
                    (chained-same w u now.others (work-dropped k f.at w now.others) f.next now.chained),
              ),
            ),
          );
          apart = (another k now.here.stays.free, others-apart now.others now.each);
          differ = (now.apart, now.differ);
          here =
              doing-work k place u (m, 0)
              (record {
                live = subst (λ (o : Option Key). IfSome o (IsLive u.rows)) holds
                    (turn-live w u good k f.at (referent s) (ap (option_map referent) (sym there)) refl);
                stays = stays-bare u good' m (subst (λ (o : Option Key). IfSome o (IsLive u.rows)) holds
                    (turn-live w u good k f.at (referent s) (ap (option_map referent) (sym there)) refl)) free;
              });
          each = (doing-work k place u (f.o, next_at f.at s) own, each-work k place u now.others (each-drop k f.at w now.others now.apart now.each));
          step = λ b. drop_slot (now.step b) k f.at;
          goes = goes-then (λ b. drop_slot (now.step b) k f.at) (λ b. b) v u x goes-now (goes-work u k place);
          same = λ b log t.
              ap (λ (j : ℕ). rest (drop_slot (now.step b) k f.at) ((m.birth, 0) ∷ (k, j) ∷ births_of now.others)) (sym (next-shown f.at s))
              ∙ sym (rest-freed (now.step b) k f.at (births_of now.others) (shown_slot s) m.birth (board-slot b log t) shown-holds
              (board-refs b log t m.birth ∙ free))
              ∙ now.same b log t;
          paid = omega (arith, few, now.paid, left-freed, left-now (births_of now.others));
        }

-- as the code has it
pub at-on : (v w u x : Objects) (n total spent later : ℕ) (f : Front) (was : Option Key) (next : ℕ) (r : Front) → later ≤ spent + 8 → IsHeap w
    → At v w n total spent f
    → Some was ≡ option_map referent (slot_in (slots_of w f.o.birth) f.at) → Some next ≡ option_map (next_at f.at) (slot_in (slots_of w f.o.birth) f.at)
    → u ≡ with_edit f.o.birth (dropped_at f.at) w → IsHeap u → GoesOn was f next u x r → At v x n total later r
at-on v w u x n total spent later f was next r few good now e e' is good' on =
    let (s, (there, same)) = given referent (slot_in (slots_of w f.o.birth) f.at) was e in
    let place : next ≡ next_at f.at s = same_Some next (next_at f.at s) (e' ∙ ap (option_map (next_at f.at)) there) in
    let heap : IsHeap (with_edit f.o.birth (dropped_at f.at) w) = subst IsHeap is good' in
    go s there same place heap on
  where
    go : (s : Slot) → slot_in (slots_of w f.o.birth) f.at ≡ Some s → referent s ≡ was → next ≡ next_at f.at s → IsHeap (with_edit f.o.birth (dropped_at f.at) w)
        → GoesOn was f next u x r → At v x n total later r
    go s there same place heap (kept some xs rs) =
        let one : At v (with_edit f.o.birth (dropped_at f.at) w) n total later (record { o = f.o; at = next_at f.at s; next = f.next }) =
        at-kept v w n total spent f good now s there heap later few (λ m h. subst (λ (y : Objects). 0 < refs_of y m.birth) is (some m (sym same ∙ h))) in
        subst (λ (y : Objects). At v y n total later r) (sym (xs ∙ is))
        (subst (λ (q : Front). At v (with_edit f.o.birth (dropped_at f.at) w) n total later q) (sym (rs ∙ ap (λ (j : ℕ). record { o = f.o; at = j; next = f.next }) place))
        one)
    go s there same place heap (freed m h none xs rs) =
        let one : At v (with_edit f.o.birth (with_work (record { next = f.next; at = next_at f.at s })) (with_edit f.o.birth (dropped_at f.at) w)) n total later
        (record { o = m; at = 0; next = Some f.o }) =
        at-freed v w n total spent f good now s there heap m (same ∙ h) (subst (λ (y : Objects). refs_of y m.birth ≡ 0) is none) later few in
        let same_heap : x ≡ with_edit f.o.birth (with_work (record { next = f.next; at = next_at f.at s })) (with_edit f.o.birth (dropped_at f.at) w) =
        xs ∙ (λ j. with_edit f.o.birth (with_work (record { next = f.next; at = place j })) (is j)) in
        subst (λ (y : Objects). At v y n total later r) (sym same_heap)
        (subst
        (λ (q : Front).
        At v (with_edit f.o.birth (with_work (record { next = f.next; at = next_at f.at s })) (with_edit f.o.birth (dropped_at f.at) w)) n total later q)
        (sym rs) one)

-- the front has no slot at its place
pub at-free : (v w : Objects) (n total spent : ℕ) (f : Front) → IsHeap w → At v w n total spent f → refs_of w f.o.birth ≡ 0
at-free v w n total spent f good now =
    sym (shows-refs (tree w) (with_log empty_log w) (tree-shows w) (heap-with_log w empty_log good) f.o.birth) ∙ now.here.stays.free

pub at-bare : (v w : Objects) (n total spent : ℕ) (f : Front) → At v w n total spent f → slot_in (slots_of w f.o.birth) f.at ≡ None
    → option_map reference_count (content_of w f.o.birth) ≡ Some 0
at-bare v w n total spent f now past =
    let (c, there) = live-content w f.o now.here.live in
    let slots : board.slots_at (tree w) f.o.birth ≡ (shown f.o.birth c).slots =
    shows-slots (tree w) (with_log empty_log w) (tree-shows w) f.o.birth
    ∙ ap (λ (o : Option Content). shown_slots (option_map_or (λ (x : Content). x.slots) o [])) there in
    let none = none-held (board.slots_at (tree w) f.o.birth) f.at now.here.stays.bare
    (slot-shown (tree w) (with_log empty_log w) (tree-shows w) f.o.birth f.at None past) in
    ap (option_map reference_count) there
    ∙ ap Some (sym (reference_count-shown f.o.birth c) ∙ ap (count_by (λ (s : List ℕ × board.Slot). is_some (board.referent s.1))) (sym slots) ∙ none)

module _ (v w : Objects) (n total spent : ℕ) (f : Front) (good : IsHeap w) (step : Board → Board) (goes : Goes step v w) (c : Content)
    (there : content_of w f.o.birth ≡ Some c) (free : refs_of w f.o.birth ≡ 0) (past : slot_in (slots_of w f.o.birth) f.at ≡ None) where
  abbrev left : Objects
  left = ended f.o.birth c w

  goes-left : Goes (λ b. finish (step b) f.o.birth) v left
  goes-left = goes-then step (λ b. finish b f.o.birth) v w left goes (goes-end w good f.o.birth c there free)

  end-same : (ps : List (ℕ × ℕ)) (b : Board) (log : Log) → Shows b (with_log log v)
      → rest (step b) ((f.o.birth, f.at) ∷ ps) ≡ rest (finish (step b) f.o.birth) ps
  end-same ps b log t =
      rest-ended (step b) f.o.birth f.at ps (slot-shown (step b) (with_log (noted_all goes.more log) w) (goes.shown b log t) f.o.birth f.at None past)

  -- what an end pays
  left-ended : (work : List (ℕ × ℕ)) → IsLive w.rows f.o → owed (ended f.o.birth c w) work + 8 + 4 * weak_ends (tree w) f.o.birth
      ≤ owed w ((f.o.birth, f.at) ∷ work)
  left-ended work live =
      let same : tree_with (finish (tree w) f.o.birth).records (finish (tree w) f.o.birth).born (finish (tree w) f.o.birth).pins
      (finish (tree w) f.o.birth).events (finish (tree w) f.o.birth).now ≡ tree left =
      tree-after (λ b. finish b f.o.birth) w left (goes-end w good f.o.birth c there free) in
      let one : left_of_all (finish (tree w) f.o.birth) work ≡ left_of_all (tree left) work = ap (λ (b : Board). left_of_all b work) same in
      let two : weak_links (finish (tree w) f.o.birth) ≡ weak_links (tree left) = ap weak_links same in
      let on : is_live (tree w) f.o.birth ≡ true = shows-live_key (tree w) (with_log empty_log w) (tree-shows w) f.o live in
      omega (arith, one, two, bound_lem.after_end (tree w) f.o.birth f.at work on, finish-weak (tree w) f.o.birth)

  last : (later : ℕ) → later ≤ spent + 8 + 4 * weak_ends (tree w) f.o.birth → IsLive w.rows f.o → (ps : List (Key × ℕ))
      → spent + owed w ((f.o.birth, f.at) ∷ births_of ps) ≤ total → IsChained w f.next ps → Apart f.o.birth ps → IsDistinct nat_eq (objects_of ps) → AllByRecursion (IsDoing w) ps
      → ((b : Board) (log : Log) → Shows b (with_log log v) → rest (step b) ((f.o.birth, f.at) ∷ births_of ps) ≡ finalize b n) → (r : Option Front)
      → r ≡ front_at left f.next → Running v left n total later r
  unfolding IsDistinct
  last later few live [] paid chained apart differ each same r e =
      subst (λ (q : Option Front). Running v left n total later q) (sym (e ∙ ap (front_at left) chained))
      (record {
        goes = goes-same (λ b. finish (step b) f.o.birth) (λ b. finalize b n) v left goes-left (λ b log t. sym (same b log t) ∙ end-same [] b log t);
        paid = omega (arith, few, paid, left-ended [] live);
      })
  last later few live (p ∷ ps) paid chained apart differ each same r e =
      let works = work-left f.o.birth c w (p ∷ ps) apart in
      let all = each-end f.o.birth w good c there free (p ∷ ps) apart each in
      let front : r ≡ Some (record { o = p.0; at = p.1; next = chained.1.0 }) =
      e ∙ ap (front_at left) chained.0
      ∙ ap (option_map (λ (x : Work). record { o = p.0; at = x.at; next = x.next })) (works.0 ∙ chained.1.1.0) in
      subst (λ (q : Option Front). Running v left n total later q) (sym front)
      (record {
        others = ps;
        chained = chained-same w left ps works.1 chained.1.0 chained.1.1.1;
        apart = differ.0;
        differ = differ.1;
        here = all.0;
        each = all.1;
        step = λ b. finish (step b) f.o.birth;
        goes = goes-left;
        same = λ b log t. sym (end-same (births_of (p ∷ ps)) b log t) ∙ same b log t;
        paid = omega (arith, few, paid, left-ended (births_of (p ∷ ps)) live);
      })

  next-there : (ps : List (Key × ℕ)) → IsChained w f.next ps → Apart f.o.birth ps → AllByRecursion (IsDoing w) ps → IfSome f.next (IsLive left.rows)
  next-there [] chained apart each = subst (λ (o : Option Key). IfSome o (IsLive left.rows)) (sym chained) tt
  next-there (p ∷ ps) chained apart each =
      subst (λ (o : Option Key). IfSome o (IsLive left.rows)) (sym chained.0) (each-end f.o.birth w good c there free (p ∷ ps) apart each).0.live

-- as the code has it
pub at-end : (v w x : Objects) (n total spent later : ℕ) (f : Front) (r : Option Front) → later ≤ spent + 8 + 4 * weak_ends (tree w) f.o.birth → IsHeap w
    → At v w n total spent f → slot_in (slots_of w f.o.birth) f.at ≡ None
    → option_map (λ (c : Content). ended f.o.birth c w) (content_of w f.o.birth) ≡ Some x → r ≡ front_at x f.next → Running v x n total later r
at-end v w x n total spent later f r few good now past is e = go (content_of w f.o.birth) refl is
  where
    go : (o : Option Content) → content_of w f.o.birth ≡ o → option_map (λ (c : Content). ended f.o.birth c w) o ≡ Some x → Running v x n total later r
    go None p q = cc
    go (Some c) p q =
        let same : ended f.o.birth c w ≡ x = same_Some (ended f.o.birth c w) x q in
        subst (λ (y : Objects). Running v y n total later r) same
        (last v w n total spent f good now.step now.goes c p (at-free v w n total spent f good now) past later few now.here.live now.others now.paid now.chained now.apart now.differ now.each now.same r
        (e ∙ ap (λ (y : Objects). front_at y f.next) (sym same)))

pub next-live : (v w x : Objects) (n total spent : ℕ) (f : Front) → IsHeap w → At v w n total spent f → slot_in (slots_of w f.o.birth) f.at ≡ None
    → option_map (λ (c : Content). ended f.o.birth c w) (content_of w f.o.birth) ≡ Some x → IfSome f.next (IsLive x.rows)
next-live v w x n total spent f good now past is = go (content_of w f.o.birth) refl is
  where
    go : (o : Option Content) → content_of w f.o.birth ≡ o → option_map (λ (c : Content). ended f.o.birth c w) o ≡ Some x → IfSome f.next (IsLive x.rows)
    go None p q = cc
    go (Some c) p q =
        subst (λ (y : Objects). IfSome f.next (IsLive y.rows)) (same_Some (ended f.o.birth c w) x q)
        (next-there v w n total spent f good now.step now.goes c p (at-free v w n total spent f good now) past now.others now.chained now.apart now.each)

-- what is left to do becomes less: fewer objects or holds, or the same and fewer slots
abbrev pub left_after : Objects → Option Front → ℕ
left_after w None = 0
left_after w (Some f) = suc ((holding (tree w) + length w.rows) * suc (width (tree w)) + (width (tree w) - f.at))

less-first : (a b w y x z : ℕ) → a < b → w ≤ y → x ≤ w → a * suc w + x < b * suc y + z
less-first a b w y x z less small within =
    let grows : suc a * suc w ≤ b * suc y = mul-le-mul {n₁ = suc a} {m₁ = suc w} {n₂ = b} {m₂ = suc y} (omega arith) (omega arith) in
    omega (arith, grows, suc-mul a (suc w))

less-then : (a b w y x z : ℕ) → a ≤ b → w ≤ y → x < z → a * suc w + x < b * suc y + z
less-then a b w y x z small smaller less =
    let grows : a * suc w ≤ b * suc y = mul-le-mul {n₁ = a} {m₁ = suc w} {n₂ = b} {m₂ = suc y} small (omega arith) in
    omega (arith, grows)

module _ (w : Objects) (k i : ℕ) where
  abbrev dropped : Objects
  dropped = with_edit k (dropped_at i) w

  dropped-holding : holding (tree (with_edit k (dropped_at i) w)) ≡ holding (drop_slot (tree w) k i)
  dropped-holding = ap holding (sym (tree-after (λ b. drop_slot b k i) w (with_edit k (dropped_at i) w) (goes-drop w k i)))

  dropped-width : width (tree (with_edit k (dropped_at i) w)) ≡ width (drop_slot (tree w) k i)
  dropped-width = ap width (sym (tree-after (λ b. drop_slot b k i) w (with_edit k (dropped_at i) w) (goes-drop w k i)))

  less-kept : (s : Slot) → slot_in (slots_of w k) i ≡ Some s
      → (holding (tree (with_edit k (dropped_at i) w)) + length (edit k (dropped_at i) w.rows)) * suc (width (tree (with_edit k (dropped_at i) w)))
      + (width (tree (with_edit k (dropped_at i) w)) - next_at i s) < (holding (tree w) + length w.rows) * suc (width (tree w)) + (width (tree w) - i)
  less-kept s there = go s at
    where
      at : board.slot_at (tree w) k i ≡ Some (shown_slot s)
      at = slot-shown (tree w) (with_log empty_log w) (tree-shows w) k i (Some s) there

      within : i < width (tree w)
      within = place-lt-width (tree w) k i (shown_slot s) at

      holds : holding (tree (with_edit k (dropped_at i) w)) ≤ holding (tree w)
      holds = omega (arith, dropped-holding, drop-holding (tree w) k i)

      wide : width (tree (with_edit k (dropped_at i) w)) ≤ width (tree w)
      wide = omega (arith, dropped-width, drop-width (tree w) k i)

      place : (j : ℕ) → j ≡ suc i
          → (holding (tree (with_edit k (dropped_at i) w)) + length (edit k (dropped_at i) w.rows)) * suc (width (tree (with_edit k (dropped_at i) w)))
          + (width (tree (with_edit k (dropped_at i) w)) - j) < (holding (tree w) + length w.rows) * suc (width (tree w)) + (width (tree w) - i)
      place j e =
          less-then (holding (tree (with_edit k (dropped_at i) w)) + length (edit k (dropped_at i) w.rows)) (holding (tree w) + length w.rows)
          (width (tree (with_edit k (dropped_at i) w))) (width (tree w)) (width (tree (with_edit k (dropped_at i) w)) - j) (width (tree w) - i)
          (omega (arith, holds, length-edit k (dropped_at i) w.rows)) wide (omega (arith, within, wide))

      go : (t : Slot) → board.slot_at (tree w) k i ≡ Some (shown_slot t)
          → (holding (tree (with_edit k (dropped_at i) w)) + length (edit k (dropped_at i) w.rows)) * suc (width (tree (with_edit k (dropped_at i) w)))
          + (width (tree (with_edit k (dropped_at i) w)) - next_at i t) < (holding (tree w) + length w.rows) * suc (width (tree w)) + (width (tree w) - i)
      go (Child key) e =
          less-first (holding (tree (with_edit k (dropped_at i) w)) + length (edit k (dropped_at i) w.rows)) (holding (tree w) + length w.rows)
          (width (tree (with_edit k (dropped_at i) w))) (width (tree w)) (width (tree (with_edit k (dropped_at i) w)) - i) (width (tree w) - i)
          (omega (arith, dropped-holding, drop-falls (tree w) k i (shown_slot (Child key)) key.birth e refl, length-edit k (dropped_at i) w.rows)) wide
          (omega arith)
      go (Plain val) e = place (suc i) refl
      go (Link ty strong target) e = place (suc i) refl
      go (Alias key name) e = place (suc i) refl

  less-freed : (s : Slot) (m : ℕ) (x : Work) → slot_in (slots_of w k) i ≡ Some s → birth_of (referent s) ≡ Some m → (z : ℕ)
      → (holding (tree (with_edit k (with_work x) (with_edit k (dropped_at i) w))) + length (edit k (with_work x) (edit k (dropped_at i) w.rows)))
      * suc (width (tree (with_edit k (with_work x) (with_edit k (dropped_at i) w))))
      + (width (tree (with_edit k (with_work x) (with_edit k (dropped_at i) w))) - 0)
      < (holding (tree w) + length w.rows) * suc (width (tree w)) + z
  less-freed s m x there h z =
      let u : Objects = with_edit k (dropped_at i) w in
      let at : board.slot_at (tree w) k i ≡ Some (shown_slot s) = slot-shown (tree w) (with_log empty_log w) (tree-shows w) k i (Some s) there in
      let same-holding : holding (tree u) ≡ holding (tree (with_edit k (with_work x) u)) =
      ap holding (tree-after (λ b. b) u (with_edit k (with_work x) u) (goes-work u k x)) in
      let same-width : width (tree u) ≡ width (tree (with_edit k (with_work x) u)) =
      ap width (tree-after (λ b. b) u (with_edit k (with_work x) u) (goes-work u k x)) in
      less-first (holding (tree (with_edit k (with_work x) u)) + length (edit k (with_work x) (edit k (dropped_at i) w.rows)))
      (holding (tree w) + length w.rows)
      (width (tree (with_edit k (with_work x) u))) (width (tree w)) (width (tree (with_edit k (with_work x) u)) - 0) z
      (omega (
        arith,
        same-holding,
        dropped-holding,
        drop-falls (tree w) k i (shown_slot s) m at (shown-held s ∙ h),
        length-edit k (with_work x) (edit k (dropped_at i) w.rows),
        length-edit k (dropped_at i) w.rows,
      ))
      (omega (arith, same-width, dropped-width, drop-width (tree w) k i)) (omega arith)

pub smaller-on : (w u x : Objects) (f : Front) (was : Option Key) (next : ℕ) (r : Front)
    → Some was ≡ option_map referent (slot_in (slots_of w f.o.birth) f.at) → Some next ≡ option_map (next_at f.at) (slot_in (slots_of w f.o.birth) f.at)
    → u ≡ with_edit f.o.birth (dropped_at f.at) w → GoesOn was f next u x r → left_after x (Some r) < left_after w (Some f)
smaller-on w u x f was next r e e' is on =
    let (s, (there, same)) = given referent (slot_in (slots_of w f.o.birth) f.at) was e in
    let place : next ≡ next_at f.at s = same_Some next (next_at f.at s) (e' ∙ ap (option_map (next_at f.at)) there) in
    go s there same place on
  where
    go : (s : Slot) → slot_in (slots_of w f.o.birth) f.at ≡ Some s → referent s ≡ was → next ≡ next_at f.at s → GoesOn was f next u x r
        → left_after x (Some r) < left_after w (Some f)
    go s there same place (kept some xs rs) =
        let one = less-kept w f.o.birth f.at s there in
        let here : left_after (with_edit f.o.birth (dropped_at f.at) w) (Some (record { o = f.o; at = next_at f.at s; next = f.next }))
        < left_after w (Some f) =
        omega (arith, one) in
        subst (λ (y : Objects). left_after y (Some r) < left_after w (Some f)) (sym (xs ∙ is))
        (subst (λ (q : Front). left_after (with_edit f.o.birth (dropped_at f.at) w) (Some q) < left_after w (Some f))
        (sym (rs ∙ ap (λ (j : ℕ). record { o = f.o; at = j; next = f.next }) place)) here)
    go s there same place (freed m h none xs rs) =
        let one =
        less-freed w f.o.birth f.at s m.birth (record { next = f.next; at = next_at f.at s }) there (ap birth_of (same ∙ h)) (width (tree w) - f.at) in
        let here : left_after (with_edit f.o.birth (with_work (record { next = f.next; at = next_at f.at s })) (with_edit f.o.birth (dropped_at f.at) w))
        (Some (record { o = m; at = 0; next = Some f.o })) < left_after w (Some f) = omega (arith, one) in
        let same_heap : x ≡ with_edit f.o.birth (with_work (record { next = f.next; at = next_at f.at s })) (with_edit f.o.birth (dropped_at f.at) w) =
        xs ∙ (λ j. with_edit f.o.birth (with_work (record { next = f.next; at = place j })) (is j)) in
        subst (λ (y : Objects). left_after y (Some r) < left_after w (Some f)) (sym same_heap)
        (subst
        (λ (q : Front).
        left_after (with_edit f.o.birth (with_work (record { next = f.next; at = next_at f.at s })) (with_edit f.o.birth (dropped_at f.at) w)) (Some q)
        < left_after w (Some f))
        (sym rs) here)

-- after an end there is an object less
one-less : (n : ℕ) (rows : List (Key × Content)) (key : Key) → key.birth ≡ n → IsLive rows key → length (map (forgets n) (without n rows)) < length rows
one-less n [] key is live = absurd live
one-less n (row ∷ rows) key is live = go (eqb row.0.birth n) refl (one-less n rows key is)
  where
    go : (b : Bool) → eqb row.0.birth n ≡ b → (IsLive rows key → length (map (forgets n) (without n rows)) < length rows)
        → length (map (forgets n) (without n (row ∷ rows))) < length (row ∷ rows)
    go true e rest = rw e (omega (arith, length-without n rows))
    go false e rest =
        let other : eqb row.0.birth key.birth ≡ false = rw is e in
        rw e (omega (arith, rest (rw other at live)))

pub smaller-end : (v w x : Objects) (n total spent : ℕ) (f : Front) (r : Option Front) → IsHeap w → At v w n total spent f
    → option_map (λ (c : Content). ended f.o.birth c w) (content_of w f.o.birth) ≡ Some x → left_after x r < left_after w (Some f)
smaller-end v w x n total spent f r good now is = go (content_of w f.o.birth) refl is
  where
    k : ℕ
    k = f.o.birth

    end : (c : Content) → content_of w k ≡ Some c → (q : Option Front) → left_after (ended k c w) q < left_after w (Some f)
    end c p None = omega arith
    end c p (Some g) =
        let goes : Goes (λ b. finish b k) w (ended k c w) = goes-end w good k c p (at-free v w n total spent f good now) in
        let holds : holding (finish (tree w) k) ≡ holding (tree (ended k c w)) = ap holding (tree-after (λ b. finish b k) w (ended k c w) goes) in
        let wide : width (finish (tree w) k) ≡ width (tree (ended k c w)) = ap width (tree-after (λ b. finish b k) w (ended k c w) goes) in
        let one = less-first (holding (tree (ended k c w)) + length (ended k c w).rows) (holding (tree w) + length w.rows) (width (tree (ended k c w)))
        (width (tree w)) (width (tree (ended k c w)) - g.at) (width (tree w) - f.at)
        (omega (arith, holds, finish-holding (tree w) k, one-less k w.rows f.o refl now.here.live)) (omega (arith, wide, finish-width (tree w) k))
        (omega arith) in
        omega (arith, one)

    go : (o : Option Content) → content_of w k ≡ o → option_map (λ (c : Content). ended k c w) o ≡ Some x → left_after x r < left_after w (Some f)
    go None p q = cc
    go (Some c) p q = subst (λ (y : Objects). left_after y r < left_after w (Some f)) (same_Some (ended k c w) x q) (end c p r)

-- as the code has the front
pub smaller-as : (w : Objects) (front : Option Front) (now : Front) (less : ℕ) → front ≡ Some now → less < left_after w (Some now) → less < left_after w front
smaller-as w front now less is h = subst (λ (q : Option Front). less < left_after w q) (sym is) h

pub front-live : (w u : Objects) (f : Front) → u ≡ with_edit f.o.birth (dropped_at f.at) w → IsLive w.rows f.o → IsLive u.rows f.o
front-live w u f is live = subst (λ (x : Objects). IsLive x.rows f.o) (sym is) (live-edit f.o.birth (dropped_at f.at) w.rows f.o live)

-- the steps of a turn, and of an end
pub turn-cost : (was a b now : ℕ) → a ≡ was + 1 → b ≤ a + 4 → now ≤ b + 2 → now ≤ was + 8
turn-cost was a b now e h k = omega (arith, e, h, k)

pub end-cost : (was a b now n : ℕ) (v : Objects) → a ≡ was + 1 → b ≤ a + 2 + 4 * weak_ends_on n v.rows → now ≤ b + 1
    → now ≤ was + 8 + 4 * weak_ends (tree v) n
end-cost was a b now n v e h k = omega (arith, e, h, k, weak-shown n v.rows)

-- what a finalization paid, on the boards of the heap
pub paid-shown : (v w : Objects) (n was spent : ℕ) → IsDone v w n (was + owed v ((n, 0) ∷ [])) spent → (b c : Board) → Shows b v → Shows c w
    → spent + worth c ≤ was + worth b
paid-shown v w n was spent done b c s t =
    let first : left_of_all (tree v) ((n, 0) ∷ []) ≡ objects_and_slots (tree v) = bound_lem.first (tree v) n in
    let last : left_of_all (tree w) [] ≡ objects_and_slots (tree w) = bound_lem.last (tree w) in
    omega (arith, done.paid, first, last, worth-same b (tree v) s.records, worth-same c (tree w) t.records)
