-- Walks on a heap: turns leave who is below whom, and walks go piece by piece.
use Rattle.std.proofs.Common.{◌≡◌, refl, ap, ap₂, sym, ◌∙◌, ℕ, zero, suc, ◌+◌, ◌-◌, ◌<◌, ◌≤◌, min, Bool, true, false, not, ◌&&◌, cond, eqb, List, [], ◌∷◌, ◌++◌, take, length, filter_map, slice_get, append-nil, count_by, subst, ◌||◌, nat_eq, Option, Some, None, option_map, IfSome, codes, arith}
use Rattle.std.specs.List.{cons_option, flat_map, list_any}
use Rattle.std.specs.Option.{option_map_or}
use Rattle.std.specs.Str.{bytes_eq}
use Rattle.std.proofs.Math.Bool.{or-false}
use Rattle.std.proofs.Math.Path.{fun_ext}
use Rattle.std.proofs.lemmas.Bool.{eqb-true}
use Rattle.std.proofs.lemmas.List.Concat.{flat_map-append}
use Rattle.std.proofs.lemmas.List.Folds.{list_any-append}
use Rattle.std.proofs.lemmas.Option.{same_Some}
use Rattle.qo_values.specs.declared.kinds.Act.{Act}
use Rattle.qo_kinds.specs.Bodies.{IsTimely}
use Rattle.qo_slots.specs.declared.keys.Key.{Key}
use Rattle.qo_heap.specs.Rows.{IsLive, edit}
use Rattle.qo_model.specs.declared.notes.Deed.TheVariants.{Did}
use Rattle.qo_model.specs.Depth.{among}
use Rattle.qo_model.specs.Devices.{clock_name}
use Rattle.qo_model.specs.Types.{is_a}
use Rattle.qo_object.specs.declared.room.Side.{Side}
use Rattle.qo_object.specs.declared.slots.Slot.TheVariants.{Plain, Child, Link, Alias}
use Rattle.qo_object.specs.Content.{Content, acted_at}
use Rattle.qo_object.specs.BoardObject.{birth_of}
use Rattle.qo_object.specs.Slots.{Named, child_of}
use Rattle.qo_heap.specs.Acts.{Acts, KeepsPeriods, periods_of}
use Rattle.qo_heap.specs.Moments.{AllTimely, Timely}
use Rattle.qo_heap.specs.Objects.{IsHeap, Objects, content_of, slots_of, with_edit}
use Rattle.qo_heap.proofs.ActsLemmas.{acts-act, acts-edit, acts-none, acts-then, acts-live}
use Rattle.qo_heap.proofs.ActsReads.{acts-length, acts-read, acts-slots}
use Rattle.qo_heap.proofs.BoardObjects.{content-edited, content-other}
use Rattle.qo_heap.proofs.HeapLemmas.{slot-live}
use Rattle.qo_heap.proofs.MomentLemmas.{acts-timely}
use Rattle.qo_reset.specs.declared.turns.Tally.{Tally}
use Rattle.qo_reset.specs.declared.turns.Tally.TheVariants.{Raise, Lower, Unmark}
use Rattle.qo_reset.specs.declared.turns.TheConstants.{HOLDS_MAX}
use Rattle.qo_reset.specs.declared.turns.Turn.{Turn}
use Rattle.qo_reset.specs.declared.turns.Turn.TheVariants.{Run, RunOut, Count, Recount}
use Rattle.qo_reset.specs.Counts.{kept_count}
use Rattle.qo_reset.specs.Phases.{acted_on, walked, below_on, births_of, bus_child, chosen, count_on, is_bus, is_under, kids_in, out_on, post_by, strong_target, turned_to}
use Rattle.qo_reset.specs.Turns.{counted, done, sided, tallied, visited, visited_to, turned}

-- what slots name is there

abbrev pub IfLive : Objects → Option Key → Type 0
IfLive v o = IfSome o (IsLive v.rows)

pub child-live : (v : Objects) → IsHeap v → (n i : ℕ) (s : Named) → slice_get (slots_of v n) i ≡ Some s → IfLive v (child_of s.1)
child-live v good n i (name, Plain val) e = tt
child-live v good n i (name, Child key) e = slot-live v good n i (name, Child key) (sym e)
child-live v good n i (name, Link ty strong target) e = tt
child-live v good n i (name, Alias key of) e = tt

pub strong-live : (v : Objects) → IsHeap v → (n i : ℕ) (s : Named) → slice_get (slots_of v n) i ≡ Some s → IfLive v (strong_target s.1)
strong-live v good n i (name, Plain val) e = tt
strong-live v good n i (name, Child key) e = tt
strong-live v good n i (name, Link ty true target) e = slot-live v good n i (name, Link ty true target) (sym e)
strong-live v good n i (name, Link ty false target) e = tt
strong-live v good n i (name, Alias key of) e = tt

pub bus-live : (v : Objects) → IsHeap v → (n i : ℕ) (s : Named) → slice_get (slots_of v n) i ≡ Some s → IfLive v (bus_child (is_bus v) s.0 s.1)
bus-live v good n i (name, Plain val) e = tt
bus-live v good n i (name, Child key) e = go (is_bus v key.birth && not (bytes_eq name clock_name))
  where
    go : (t : Bool) → IfLive v (cond t (Some key) None)
    go true = slot-live v good n i (name, Child key) (sym e)
    go false = tt
bus-live v good n i (name, Link ty strong target) e = tt
bus-live v good n i (name, Alias key of) e = tt

-- acts leave who is below whom

pub acts-bus : (v w : Objects) → Acts v w → is_bus w ≡ is_bus v
acts-bus v w acts = fun_ext (λ n. acts-read (λ (c : Content). is_a c.kind (codes "bus")) false (λ c. refl) v w acts n)

pub acts-below : (v w : Objects) → Acts v w → below_on w ≡ below_on v
acts-below v w acts =
    fun_ext
    (λ n. ap (λ (bus : ℕ → Bool). kids_in bus (bus n) (slots_of w n)) (acts-bus v w acts) ∙ ap (kids_in (is_bus v) (is_bus v n)) (acts-slots v w acts n))

pub acts-count : (holds : List ℕ) (v w : Objects) → Acts v w → count_on w holds ≡ count_on v holds
unfolding count_on
acts-count holds v w acts = fun_ext (λ n. rw (acts-below v w acts, acts-length v w acts) refl)

pub acts-out : (holds : List ℕ) (v w : Objects) → Acts v w → out_on w holds ≡ out_on v holds
acts-out holds v w acts = fun_ext (λ n. ap (λ (f : ℕ → ℕ). eqb (f n) 0) (acts-count holds v w acts))

pub acts-chosen : (only : Bool) (holds : List ℕ) (v w : Objects) → Acts v w → chosen only holds w ≡ chosen only holds v
acts-chosen true holds v w acts = acts-out holds v w acts
acts-chosen false holds v w acts = refl

-- one turn

pub done-acts : (turn : Turn) (holds : List ℕ) (n : ℕ) (v : Objects) → Acts v (done turn holds n v)
done-acts (Run act) holds n v = acts-act v (record { birth = n; deed = Did act }) n act v.time 0
done-acts (RunOut act) holds n v = go (eqb (kept_count v n) 0)
  where
    go : (t : Bool) → Acts v (cond t (acted_on act n v) v)
    go true = acts-act v (record { birth = n; deed = Did act }) n act v.time 0
    go false = acts-none v
done-acts (Count tally) holds n v = acts-edit v n (sided (tallied tally)) (λ c. refl)
done-acts Recount holds n v = acts-edit v n (sided (counted (min (count_on v holds n) HOLDS_MAX))) (λ c. refl)

pub sided-timely : (n : ℕ) (f : Side → Side) (now : ℕ) (rows : List (Key × Content)) → AllTimely now rows → AllTimely now (edit n (sided f) rows)
sided-timely n f now [] all = tt
sided-timely n f now (row ∷ rows) all = (go (eqb row.0.birth n), sided-timely n f now rows all.1)
  where
    go : (t : Bool) → IsTimely now (cond t (row.0, sided f row.1) row).1.body
    go true = all.0
    go false = all.0

done-timely : (turn : Turn) (holds : List ℕ) (n : ℕ) (v : Objects) → Timely v → Timely (done turn holds n v)
done-timely (Run act) holds n v all = acts-timely v (record { birth = n; deed = Did act }) n act 0 all
done-timely (RunOut act) holds n v all = go (eqb (kept_count v n) 0)
  where
    go : (t : Bool) → Timely (cond t (acted_on act n v) v)
    go true = acts-timely v (record { birth = n; deed = Did act }) n act 0 all
    go false = all
done-timely (Count tally) holds n v all = sided-timely n (tallied tally) v.time v.rows all
done-timely Recount holds n v all = sided-timely n (counted (min (count_on v holds n) HOLDS_MAX)) v.time v.rows all

-- what is read of an object, over an edit of one
pub content-after : (n m : ℕ) (f : Content → Content) (v : Objects)
    → content_of (with_edit n f v) m ≡ option_map (λ (c : Content). cond (eqb m n) (f c) c) (content_of v m)
content-after n m f v = go (eqb m n) refl
  where
    same : (o : Option Content) → o ≡ option_map (λ (c : Content). c) o
    same None = refl
    same (Some c) = refl

    go : (t : Bool) → eqb m n ≡ t → content_of (with_edit n f v) m ≡ option_map (λ (c : Content). cond t (f c) c) (content_of v m)
    go true e =
        subst (λ (k : ℕ). content_of (with_edit n f v) k ≡ option_map f (content_of v k)) (sym (eqb-true m n e)) (content-edited v n f)
    go false e = content-other v n m f e ∙ same (content_of v m)

pub read-after : {A : Type 0} (g : Content → A) (n : ℕ) (f : Content → Content) → ((c : Content) → g (f c) ≡ g c) → (v : Objects) (m : ℕ)
    → option_map g (content_of (with_edit n f v) m) ≡ option_map g (content_of v m)
read-after {A} g n f same v m = ap (option_map g) (content-after n m f v) ∙ go (content_of v m)
  where
    one : (c : Content) (t : Bool) → g (cond t (f c) c) ≡ g c
    one c true = same c
    one c false = refl

    go : (o : Option Content) → option_map g (option_map (λ (c : Content). cond (eqb m n) (f c) c) o) ≡ option_map g o
    go None = refl
    go (Some c) = ap Some (one c (eqb m n))

tallied-periods : (tally : Tally) (s : Side) → ((tallied tally s).period ≡ s.period) × ((tallied tally s).child ≡ s.child)
tallied-periods Raise s = go (eqb s.marks 0)
  where
    one : Side
    one = record s { count = min (s.count + 1) HOLDS_MAX; marks = 1 }

    go : (t : Bool) → ((cond t one s).period ≡ s.period) × ((cond t one s).child ≡ s.child)
    go true = (refl, refl)
    go false = (refl, refl)
tallied-periods Lower s = go (eqb s.marks 0)
  where
    one : Side
    one = record s { count = s.count - 1; marks = 1 }

    go : (t : Bool) → ((cond t one s).period ≡ s.period) × ((cond t one s).child ≡ s.child)
    go true = (refl, refl)
    go false = (refl, refl)
tallied-periods Unmark s = (refl, refl)

pub acted-periods : (act : Act) (n : ℕ) (v : Objects) → KeepsPeriods v (acted_on act n v)
acted-periods act n v m = read-after periods_of n (acted_at act v.time 0) (λ c. refl) v m

done-periods : (turn : Turn) (holds : List ℕ) (n : ℕ) (v : Objects) → KeepsPeriods v (done turn holds n v)
done-periods (Run act) holds n v = acted-periods act n v
done-periods (RunOut act) holds n v = go (eqb (kept_count v n) 0)
  where
    go : (t : Bool) → KeepsPeriods v (cond t (acted_on act n v) v)
    go true = acted-periods act n v
    go false = λ m. refl
done-periods (Count tally) holds n v = λ m.
    read-after periods_of n (sided (tallied tally)) (λ c. λ i. ((tallied-periods tally c.side).0 i, (tallied-periods tally c.side).1 i)) v m
done-periods Recount holds n v = λ m. read-after periods_of n (sided (counted (min (count_on v holds n) HOLDS_MAX))) (λ c. refl) v m

-- acts on objects in order

pub walked-acts : (act : Act) (ns : List ℕ) (v : Objects) → Acts v (walked act ns v)
unfolding walked
walked-acts act [] v = acts-none v
walked-acts act (n ∷ ns) v =
    acts-then v (acted_on act n v) (walked act ns (acted_on act n v)) (acts-act v (record { birth = n; deed = Did act }) n act v.time 0)
    (walked-acts act ns (acted_on act n v))

pub walked-append : (act : Act) (xs ys : List ℕ) (v : Objects) → walked act (xs ++ ys) v ≡ walked act ys (walked act xs v)
unfolding walked
walked-append act [] ys v = refl
walked-append act (x ∷ xs) ys v = walked-append act xs ys (acted_on act x v)

-- walks in pieces

pub turned-append : (turn : Turn) (holds xs ys : List ℕ) (v : Objects) → turned turn holds (xs ++ ys) v ≡ turned turn holds ys (turned turn holds xs v)
unfolding turned
turned-append turn holds [] ys v = refl
turned-append turn holds (x ∷ xs) ys v = turned-append turn holds xs ys (done turn holds x v)

pub turned-acts : (turn : Turn) (holds ns : List ℕ) (v : Objects) → Acts v (turned turn holds ns v)
unfolding turned
turned-acts turn holds [] v = acts-none v
turned-acts turn holds (n ∷ ns) v =
    acts-then v (done turn holds n v) (turned turn holds ns (done turn holds n v)) (done-acts turn holds n v) (turned-acts turn holds ns (done turn holds n v))

turned-timely : (turn : Turn) (holds ns : List ℕ) (v : Objects) → Timely v → Timely (turned turn holds ns v)
unfolding turned
turned-timely turn holds [] v all = all
turned-timely turn holds (n ∷ ns) v all = turned-timely turn holds ns (done turn holds n v) (done-timely turn holds n v all)

turned-periods : (turn : Turn) (holds ns : List ℕ) (v : Objects) → KeepsPeriods v (turned turn holds ns v)
unfolding turned
turned-periods turn holds [] v m = refl
turned-periods turn holds (n ∷ ns) v m = turned-periods turn holds ns (done turn holds n v) m ∙ done-periods turn holds n v m

pub visited-timely : (turn : Turn) (holds : List ℕ) (levels n : ℕ) (v : Objects) → Timely v → Timely (visited turn holds levels n v)
unfolding visited
visited-timely turn holds levels n v all = turned-timely turn holds _ v all

pub visited-periods : (turn : Turn) (holds : List ℕ) (levels n : ℕ) (v : Objects) → KeepsPeriods v (visited turn holds levels n v)
unfolding visited
visited-periods turn holds levels n v = turned-periods turn holds _ v

pub visited-acts : (turn : Turn) (holds : List ℕ) (levels n : ℕ) (v : Objects) → Acts v (visited turn holds levels n v)
unfolding visited
visited-acts turn holds levels n v = turned-acts turn holds _ v

pub visited_to-acts : (turn : Turn) (holds : List ℕ) (levels n i : ℕ) (v : Objects) → Acts v (visited_to turn holds levels n i v)
unfolding visited_to
visited_to-acts turn holds levels n i v = turned-acts turn holds _ v

-- what is below in the slots before a place, and in one more

more : (f : Named → Option Key) (x : Option Key) (i : ℕ) (xs : List Named) → Some x ≡ option_map f (slice_get xs i)
    → filter_map (λ (s : Named). birth_of (f s)) (take (suc i) xs) ≡ filter_map (λ (s : Named). birth_of (f s)) (take i xs) ++ cons_option (birth_of x) []
more f x i [] e = cc
more f x zero (s ∷ xs) e = ap (λ (y : Option Key). cons_option (birth_of y) []) (sym (same_Some x (f s) e))
more f x (suc i) (s ∷ xs) e = by (birth_of (f s)) (more f x i xs e)
  where
    by : (y : Option ℕ)
        → filter_map (λ (t : Named). birth_of (f t)) (take (suc i) xs) ≡ filter_map (λ (t : Named). birth_of (f t)) (take i xs) ++ cons_option (birth_of x) []
        → cons_option y (filter_map (λ (t : Named). birth_of (f t)) (take (suc i) xs))
        ≡ cons_option y (filter_map (λ (t : Named). birth_of (f t)) (take i xs)) ++ cons_option (birth_of x) []
    by None rest = rest
    by (Some n) rest = ap (λ (ns : List ℕ). n ∷ ns) rest

past : (f : Named → Option Key) (i : ℕ) (xs : List Named) → None ≡ option_map f (slice_get xs i) → take i xs ≡ xs
past f zero [] e = refl
past f (suc i) [] e = refl
past f zero (s ∷ xs) e = cc
past f (suc i) (s ∷ xs) e = ap (λ (l : List Named). s ∷ l) (past f i xs e)

pub past-length : (f : Named → Option Key) (x : Option Key) (i : ℕ) (xs : List Named) → Some x ≡ option_map f (slice_get xs i) → i < length xs
past-length f x i [] e = cc
past-length f x zero (s ∷ xs) e = omega arith
past-length f x (suc i) (s ∷ xs) e = let rest = past-length f x i xs e in omega (arith, rest)

abbrev pub Reads : Objects → Bool → ℕ → ℕ → Option (Option Key) → Type 0
Reads v bus n i x = x ≡ option_map (turned_to (is_bus v) bus) (slice_get (slots_of v n) i)

reads-acts : (v w : Objects) → Acts v w → (bus : Bool) (n i : ℕ) (x : Option (Option Key)) → Reads w bus n i x → Reads v bus n i x
reads-acts v w acts bus n i x e =
    e ∙ ap (λ (is : ℕ → Bool). option_map (turned_to is bus) (slice_get (slots_of w n) i)) (acts-bus v w acts)
    ∙ ap (λ (l : List Named). option_map (turned_to (is_bus v) bus) (slice_get l i)) (acts-slots v w acts n)

kids-more : (v : Objects) (n i : ℕ) (x : Option Key) → Reads v (is_bus v n) n i (Some x)
    → kids_in (is_bus v) (is_bus v n) (take (i + 1) (slots_of v n)) ≡ kids_in (is_bus v) (is_bus v n) (take i (slots_of v n)) ++ cons_option (birth_of x) []
kids-more v n i x e =
    let one : i + 1 ≡ suc i = omega arith in
    ap (λ (j : ℕ). kids_in (is_bus v) (is_bus v n) (take j (slots_of v n))) one ∙ more (turned_to (is_bus v) (is_bus v n)) x i (slots_of v n) e

-- the loop over the slots of an object

pub to-none : (turn : Turn) (holds : List ℕ) (levels n : ℕ) (v : Objects) → v ≡ visited_to turn holds levels n 0 v
unfolding visited_to turned
to-none turn holds levels n v = refl

pub to-kid : (turn : Turn) (holds : List ℕ) (levels n i : ℕ) (v w : Objects) (bus : Bool) (k : Key) → w ≡ visited_to turn holds levels n i v → bus ≡ is_bus v n
    → Reads w bus n i (Some (Some k)) → visited turn holds levels k.birth w ≡ visited_to turn holds levels n (i + 1) v
unfolding visited_to visited
to-kid turn holds levels n i v w bus k now at e =
    let acts : Acts v w = rw now (visited_to-acts turn holds levels n i v) in
    let post : ℕ → List ℕ = post_by (below_on v) levels in
    let before : List ℕ = kids_in (is_bus v) (is_bus v n) (take i (slots_of v n)) in
    let kids : kids_in (is_bus v) (is_bus v n) (take (i + 1) (slots_of v n)) ≡ before ++ k.birth ∷ [] =
    kids-more v n i (Some k)
    (reads-acts v w acts (is_bus v n) n i (Some (Some k)) (e ∙ ap (λ (b : Bool). option_map (turned_to (is_bus w) b) (slice_get (slots_of w n) i)) at)) in
    let sum : flat_map post (kids_in (is_bus v) (is_bus v n) (take (i + 1) (slots_of v n))) ≡ flat_map post before ++ post k.birth =
    ap (flat_map post) kids ∙ flat_map-append post before (k.birth ∷ []) ∙ ap (λ (l : List ℕ). flat_map post before ++ l) (append-nil (post k.birth)) in
    ap (λ (next : ℕ → List ℕ). turned turn holds (post_by next levels k.birth) w) (acts-below v w acts)
    ∙ ap (turned turn holds (post k.birth)) now
    ∙ sym (turned-append turn holds (flat_map post before) (post k.birth) v)
    ∙ ap (λ (l : List ℕ). turned turn holds l v) (sym sum)

pub to-no_kid : (turn : Turn) (holds : List ℕ) (levels n i : ℕ) (v w : Objects) (bus : Bool) → w ≡ visited_to turn holds levels n i v → bus ≡ is_bus v n
    → Reads w bus n i (Some None) → w ≡ visited_to turn holds levels n (i + 1) v
unfolding visited_to
to-no_kid turn holds levels n i v w bus now at e =
    let acts : Acts v w = rw now (visited_to-acts turn holds levels n i v) in
    let kids : kids_in (is_bus v) (is_bus v n) (take (i + 1) (slots_of v n)) ≡ kids_in (is_bus v) (is_bus v n) (take i (slots_of v n)) =
    kids-more v n i None
    (reads-acts v w acts (is_bus v n) n i (Some None) (e ∙ ap (λ (b : Bool). option_map (turned_to (is_bus w) b) (slice_get (slots_of w n) i)) at))
    ∙ append-nil _ in
    now ∙ ap (λ (l : List ℕ). turned turn holds (flat_map (post_by (below_on v) levels) l) v) (sym kids)

pub to-all : (turn : Turn) (holds : List ℕ) (all levels n i : ℕ) (v w : Objects) (bus : Bool) → all ≡ suc levels → w ≡ visited_to turn holds levels n i v
    → bus ≡ is_bus v n → Reads w bus n i None → done turn holds n w ≡ visited turn holds all n v
unfolding visited_to turned visited post_by
to-all turn holds all levels n i v w bus more now at e =
    let acts : Acts v w = rw now (visited_to-acts turn holds levels n i v) in
    let post : ℕ → List ℕ = post_by (below_on v) levels in
    let kids : take i (slots_of v n) ≡ slots_of v n = past (turned_to (is_bus v) bus) i (slots_of v n) (reads-acts v w acts bus n i None e) in
    ap (done turn holds n) now
    ∙ sym (turned-append turn holds (flat_map post (kids_in (is_bus v) (is_bus v n) (take i (slots_of v n)))) (n ∷ []) v)
    ∙ ap (λ (l : List Named). turned turn holds (flat_map post (kids_in (is_bus v) (is_bus v n) l) ++ n ∷ []) v) kids
    ∙ ap (λ (d : ℕ). turned turn holds (post_by (below_on v) d n) v) (sym more)

-- and of the search for an object that passes a test

abbrev pub found_to : Objects → ℕ → ℕ → ℕ → (ℕ → Bool) → Bool
found_to v levels n i p = list_any p (flat_map (post_by (below_on v) levels) (kids_in (is_bus v) (is_bus v n) (take i (slots_of v n))))

found-more : (v : Objects) (levels n i : ℕ) (m : ℕ → Bool) (x : Option Key) → Reads v (is_bus v n) n i (Some x) → found_to v levels n i m ≡ false
    → found_to v levels n (i + 1) m ≡ list_any m (flat_map (post_by (below_on v) levels) (cons_option (birth_of x) []))
found-more v levels n i m x e none =
    let post : ℕ → List ℕ = post_by (below_on v) levels in
    ap (λ (l : List ℕ). list_any m (flat_map post l)) (kids-more v n i x e)
    ∙ ap (λ (l : List ℕ). list_any m l) (flat_map-append post (kids_in (is_bus v) (is_bus v n) (take i (slots_of v n))) (cons_option (birth_of x) []))
    ∙ list_any-append m (flat_map post (kids_in (is_bus v) (is_bus v n) (take i (slots_of v n)))) (flat_map post (cons_option (birth_of x) []))
    ∙ ap (λ (b : Bool). b || list_any m (flat_map post (cons_option (birth_of x) []))) none

pub found-no_kid : (v : Objects) (levels n i : ℕ) (m : ℕ → Bool) (bus : Bool) → bus ≡ is_bus v n → Reads v bus n i (Some None) → found_to v levels n i m ≡ false
    → found_to v levels n (i + 1) m ≡ false
found-no_kid v levels n i m bus at e none = found-more v levels n i m None (subst (λ (b : Bool). Reads v b n i (Some None)) at e) none

found-kid : (v : Objects) (levels n i : ℕ) (m : ℕ → Bool) (bus : Bool) (k : Key) → bus ≡ is_bus v n → Reads v bus n i (Some (Some k))
    → found_to v levels n i m ≡ false → found_to v levels n (i + 1) m ≡ list_any m (post_by (below_on v) levels k.birth)
found-kid v levels n i m bus k at e none =
    found-more v levels n i m (Some k) (subst (λ (b : Bool). Reads v b n i (Some (Some k))) at e) none ∙ ap (λ (l : List ℕ). list_any m l) (append-nil _)

pub found-not : (v : Objects) (levels n i : ℕ) (m : ℕ → Bool) (bus : Bool) (k : Key) → bus ≡ is_bus v n → Reads v bus n i (Some (Some k))
    → found_to v levels n i m ≡ false → list_any m (post_by (below_on v) levels k.birth) ≡ false → found_to v levels n (i + 1) m ≡ false
found-not v levels n i m bus k at e none not_there = found-kid v levels n i m bus k at e none ∙ not_there

-- found in the first slots: found
some-append : (p : ℕ → Bool) (xs ys : List ℕ) → list_any p xs ≡ true → list_any p (xs ++ ys) ≡ true
some-append p xs ys e = list_any-append p xs ys ∙ ap (λ (b : Bool). b || list_any p ys) e

take-prefix : (f : Named → Option ℕ) (g : ℕ → List ℕ) (p : ℕ → Bool) (i : ℕ) (xs : List Named) → list_any p (flat_map g (filter_map f (take i xs))) ≡ true
    → list_any p (flat_map g (filter_map f xs)) ≡ true
take-prefix f g p i [] e = empty i e
  where
    empty : (j : ℕ) → list_any p (flat_map g (filter_map f (take j []))) ≡ true → list_any p (flat_map g (filter_map f [])) ≡ true
    empty zero q = q
    empty (suc j) q = q
take-prefix f g p zero (x ∷ xs) e = cc
take-prefix f g p (suc i) (x ∷ xs) e = by (f x) e (take-prefix f g p i xs)
  where
    by : (y : Option ℕ) → list_any p (flat_map g (cons_option y (filter_map f (take i xs)))) ≡ true
        → (list_any p (flat_map g (filter_map f (take i xs))) ≡ true → list_any p (flat_map g (filter_map f xs)) ≡ true)
        → list_any p (flat_map g (cons_option y (filter_map f xs))) ≡ true
    by None q rest = rest q
    by (Some n) q rest = or (list_any p (g n)) refl
      where
        or : (t : Bool) → list_any p (g n) ≡ t → list_any p (flat_map g (n ∷ filter_map f xs)) ≡ true
        or true r = some-append p (g n) (flat_map g (filter_map f xs)) r
        or false r =
            let left : list_any p (flat_map g (filter_map f (take i xs))) ≡ true =
            sym (list_any-append p (g n) (flat_map g (filter_map f (take i xs))) ∙ ap (λ (b : Bool). b || list_any p (flat_map g (filter_map f (take i xs)))) r)
            ∙ q in
            list_any-append p (g n) (flat_map g (filter_map f xs)) ∙ ap (λ (b : Bool). b || list_any p (flat_map g (filter_map f xs))) r ∙ rest left

pub found-here : (v : Objects) (all levels n i : ℕ) (m : ℕ → Bool) (bus : Bool) (k : Key) → all ≡ suc levels → bus ≡ is_bus v n
    → Reads v bus n i (Some (Some k)) → found_to v levels n i m ≡ false → list_any m (post_by (below_on v) levels k.birth) ≡ true
    → list_any m (post_by (below_on v) all n) ≡ true
unfolding post_by
found-here v all levels n i m bus k more at e none there =
    let front : found_to v levels n (i + 1) m ≡ true = found-kid v levels n i m bus k at e none ∙ there in
    ap (λ (d : ℕ). list_any m (post_by (below_on v) d n)) more
    ∙ some-append m (flat_map (post_by (below_on v) levels) (below_on v n)) (n ∷ [])
    (take-prefix (λ (s : Named). birth_of (turned_to (is_bus v) (is_bus v n) s)) (post_by (below_on v) levels) m (i + 1) (slots_of v n) front)

pub found-last : (v : Objects) (all levels n i : ℕ) (m : ℕ → Bool) (bus : Bool) → all ≡ suc levels → Reads v bus n i None → found_to v levels n i m ≡ false
    → list_any m (post_by (below_on v) all n) ≡ m n
unfolding post_by
found-last v all levels n i m bus more e none =
    let kids : take i (slots_of v n) ≡ slots_of v n = past (turned_to (is_bus v) bus) i (slots_of v n) e in
    ap (λ (d : ℕ). list_any m (post_by (below_on v) d n)) more
    ∙ list_any-append m (flat_map (post_by (below_on v) levels) (below_on v n)) (n ∷ [])
    ∙ ap (λ (b : Bool). b || list_any m (n ∷ []))
    (ap (λ (l : List Named). list_any m (flat_map (post_by (below_on v) levels) (kids_in (is_bus v) (is_bus v n) l))) (sym kids) ∙ none)
    ∙ or-false (m n)

pub none-found : (v : Objects) (n : ℕ) (m : ℕ → Bool) → list_any m (post_by (below_on v) 0 n) ≡ false
unfolding post_by
none-found v n m = refl

pub none-visited : (turn : Turn) (holds : List ℕ) (n : ℕ) (v : Objects) → v ≡ visited turn holds 0 n v
unfolding visited turned post_by
none-visited turn holds n v = refl

-- who is there stays

pub live-to : (turn : Turn) (holds : List ℕ) (levels n i : ℕ) (v w : Objects) (key : Key) → w ≡ visited_to turn holds levels n i v → IsLive v.rows key
    → IsLive w.rows key
live-to turn holds levels n i v w key now live =
    let acts : Acts v w = rw now (visited_to-acts turn holds levels n i v) in
    rw (acts-live v w acts key) live

pub less : (v w : Objects) → Acts v w → (bus : Bool) (n i : ℕ) (x : Option Key) → Reads v bus n i (Some x)
    → length (slots_of w n) - (i + 1) < length (slots_of v n) - i
less v w acts bus n i x e =
    let same : length (slots_of w n) ≡ length (slots_of v n) = ap (λ (l : List Named). length l) (acts-slots v w acts n) in
    let low : i < length (slots_of v n) = past-length (turned_to (is_bus v) bus) x i (slots_of v n) e in
    omega (arith, same, low)

-- the count over holds

pub gone-under : (v : Objects) (n m levels : ℕ) → content_of v n ≡ None → nat_eq m n ≡ among (post_by (below_on v) (suc levels) n) m
unfolding post_by
gone-under v n m levels gone =
    let none : slots_of v n ≡ [] = ap (λ (o : Option Content). option_map_or (λ (c : Content). c.slots) o []) gone in
    sym (ap (λ (l : List Named). among (flat_map (post_by (below_on v) levels) (kids_in (is_bus v) (is_bus v n) l) ++ n ∷ []) m) none ∙ or-false (nat_eq m n))

abbrev pub counted_to : Objects → List Key → ℕ → ℕ → ℕ
counted_to v holds n i = count_by (is_under v n) (births_of (take i holds))

pub count-all : (v : Objects) (holds : List Key) (n i : ℕ) → length holds ≤ i → counted_to v holds n i ≡ count_on v (births_of holds) n
unfolding count_on
count-all v holds n i le = ap (λ (l : List Key). count_by (is_under v n) (births_of l)) (all i holds le)
  where
    all : (j : ℕ) (xs : List Key) → length xs ≤ j → take j xs ≡ xs
    all zero [] le = refl
    all (suc j) [] le = refl
    all zero (x ∷ xs) le = absurd (let no : ⊥ = omega (arith, le) in no)
    all (suc j) (x ∷ xs) le = let rest : length xs ≤ j = omega (arith, le) in ap (λ (l : List Key). x ∷ l) (all j xs rest)
