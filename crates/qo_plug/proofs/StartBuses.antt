-- The buses of a device that was made and stands are those of its type, by the births that follow its own.
use Rattle.std.proofs.Common.{rules, ◌≡◌, refl, ap, sym, subst, ◌∙◌, ℕ, zero, suc, ◌+◌, ◌<◌, ◌≤◌, Bool, true, false, cond, ◌==◌, codes, List, [], ◌∷◌, ◌++◌, map, length, find, Option, Some, None, option_map, option_to_list, append-nil, append_assoc, length-append, arith}
use Rattle.std.specs.Prelude.{filter_map, not, ◌&&◌, if◌then◌else◌}
use Rattle.std.specs.List.{cons_option}
use Rattle.std.specs.Option.{option_map_or, option_or}
use Rattle.std.specs.Str.{bytes_eq}
use Rattle.std.proofs.lemmas.Bool.{eqb-true, eq-eqb}
use Rattle.qo_values.specs.declared.kinds.TypeId.{TypeId}
use Rattle.qo_values.specs.declared.kinds.TypeId.TheVariants.{Device}
use Rattle.qo_values.specs.declared.properties.Val.{Val}
use Rattle.qo_values.specs.declared.properties.Val.TheVariants as val
use Rattle.qo_values.specs.declared.ranges.Range.{Range}
use Rattle.qo_values.proofs.EachLemmas.{each}
use Rattle.qo_model.proofs.FinalNotesGrowthLemmas.{unmapped}
use Rattle.qo_model.specs.Board.{Board, Record, Slot, child, plain, strong, weak, alias, kind_of, record_of, slots_at}
use Rattle.qo_model.specs.Changes.{add, changed_at, fresh, make, set, with_added, with_changed, with_val}
use Rattle.qo_model.specs.Devices.{bus_in, buses_of, clock_name, clock_of, kid_name}
use Rattle.qo_model.specs.Objects.{Given, given_to, index_from, slot_given}
use Rattle.qo_model.specs.Opening.{first_value, fresh_record}
use Rattle.qo_model.specs.Plug.{Resources, Wanted, addressed_at, aliased, bus_births, fitted, further_in, further_of, joined, link_named, name_for, owned, parent_for, property_made, properties_made, source_for, stood, with_body_of, with_given, with_kid, with_new, with_source}
use Rattle.qo_model.specs.Release.{edit, edited}
use Rattle.qo_model.specs.RowNames.{property_name}
use Rattle.qo_model.specs.Types.{is_a, slots_of, types}
use Rattle.qo_model.specs.Unplug.{is_named, set_named}
use Rattle.qo_model.specs.declared.properties.Property.{Property}
use Rattle.qo_model.specs.declared.properties.PropertyRole.{PropertyRole}
use Rattle.qo_model.specs.declared.properties.PropertyRole.TheVariants as row
use Rattle.qo_slots.specs.declared.keys.Key.{Key}
use Rattle.qo_heap.specs.Rows.{Rises, object_at}
use Rattle.qo_heap.specs.Rows as table
use Rattle.qo_heap.proofs.RowsLemmas.{rises-up}
use Rattle.qo_object.specs.Content.{Content}
use Rattle.qo_plug.specs.Drafts.{created, pinned_draft}
use Rattle.qo_plug.specs.Placement.{seated}
use Rattle.qo_plug.proofs.PlacementBoards.{kinds-added, kinds-stood, tree-source}
use Rattle.qo_plug.proofs.TreeLemmas.{read-edit}

-- the children in slots, by name

abbrev BoardSlots : Type 0
BoardSlots = List (List ℕ × Slot)

abbrev pub Kid : Type 0
Kid = List ℕ × ℕ

abbrev kid_in : List ℕ × Slot → Option Kid
kid_in (name, child m) = Some (name, m)
kid_in (name, plain v) = None
kid_in (name, strong t m) = None
kid_in (name, weak t m) = None
kid_in (name, alias m of) = None

abbrev kids_in : BoardSlots → List Kid
kids_in ss = filter_map kid_in ss

abbrev pub kids_at : Board → ℕ → List Kid
kids_at b n = kids_in (slots_at b n)

-- a bus among them
abbrev bus_of : (ℕ → Option TypeId) → Kid → Option ℕ
bus_of kinds k = if option_map_or (λ (t : TypeId). is_a t (codes "bus")) (kinds k.1) false && not (bytes_eq k.0 clock_name) then Some k.1 else None

buses-kids : (b : Board) (ss : BoardSlots) → filter_map (bus_in b) ss ≡ filter_map (bus_of (kind_of b)) (kids_in ss)
buses-kids b [] = refl
buses-kids b ((name, plain v) ∷ ss) = buses-kids b ss
buses-kids b ((name, child m) ∷ ss) = ap (cons_option (bus_of (kind_of b) (name, m))) (buses-kids b ss)
buses-kids b ((name, strong t m) ∷ ss) = buses-kids b ss
buses-kids b ((name, weak t m) ∷ ss) = buses-kids b ss
buses-kids b ((name, alias m of) ∷ ss) = buses-kids b ss

pub buses-same : (b c : Board) (n : ℕ) → ((m : ℕ) → kind_of c m ≡ kind_of b m) → kids_at c n ≡ kids_at b n → buses_of c n ≡ buses_of b n
buses-same b c n kinds kids =
    buses-kids c (slots_at c n)
    ∙ (λ j. filter_map (bus_of (λ m. kinds m j)) (kids j))
    ∙ sym (buses-kids b (slots_at b n))

-- what a slot is changed to has the same child

kids-one : (s t : List ℕ × Slot) (ss ts : BoardSlots) → kid_in t ≡ kid_in s → kids_in ts ≡ kids_in ss → kids_in (t ∷ ts) ≡ kids_in (s ∷ ss)
kids-one s t ss ts same rest = λ j. cons_option (same j) (rest j)

kids-changed : (g : Slot → Slot) → ((name : List ℕ) (s : Slot) → kid_in (name, g s) ≡ kid_in (name, s)) → (i : ℕ) (ss : BoardSlots)
    → kids_in (changed_at g i ss) ≡ kids_in ss
kids-changed g same i [] = refl
kids-changed g same zero (s ∷ ss) = kids-one s (s.0, g s.1) ss ss (same s.0 s.1) refl
kids-changed g same (suc i) (s ∷ ss) = kids-one s s ss (changed_at g i ss) refl (kids-changed g same i ss)

kid-val : (v : Val) (name : List ℕ) (s : Slot) → kid_in (name, with_val v s) ≡ kid_in (name, s)
kid-val v name (plain old) = refl
kid-val v name (child m) = refl
kid-val v name (strong t m) = refl
kid-val v name (weak t m) = refl
kid-val v name (alias m of) = refl

kid-fitted : (b : Board) (m : ℕ) (name : List ℕ) (s : Slot) → kid_in (name, fitted b m s) ≡ kid_in (name, s)
kid-fitted b m name (plain old) = refl
kid-fitted b m name (child n) = refl
kid-fitted b m name (strong t None) = refl
kid-fitted b m name (strong t (Some n)) = refl
kid-fitted b m name (weak t None) = refl
kid-fitted b m name (weak t (Some n)) = refl
kid-fitted b m name (alias n of) = refl

kid-given_to : (b : Board) (name : List ℕ) (s : Slot) (v : Val) → kid_in (name, given_to b s v) ≡ kid_in (name, s)
kid-given_to b name (plain old) v = refl
kid-given_to b name (child m) v = refl
kid-given_to b name (strong t m) (val.Text path) = refl
kid-given_to b name (strong t m) (val.Bool x) = refl
kid-given_to b name (strong t m) (val.Uint x) = refl
kid-given_to b name (strong t m) (val.Int x) = refl
kid-given_to b name (strong t m) val.Nothing = refl
kid-given_to b name (weak t m) (val.Text path) = refl
kid-given_to b name (weak t m) (val.Bool x) = refl
kid-given_to b name (weak t m) (val.Uint x) = refl
kid-given_to b name (weak t m) (val.Int x) = refl
kid-given_to b name (weak t m) val.Nothing = refl
kid-given_to b name (alias m of) v = refl

kid-given : (b : Board) (props : List Given) (s : List ℕ × Slot) → kid_in (slot_given b props s) ≡ kid_in s
kid-given b props s = go (find (λ (p : Given). bytes_eq p.0 s.0) props)
  where
    go : (o : Option Given) → kid_in (s.0, elim o as (λ _. Slot) [ None ↦ s.1 | Some p ↦ given_to b s.1 p.1 ]) ≡ kid_in s
    go None = refl
    go (Some p) = kid-given_to b s.0 s.1 p.1

kids-given : (b : Board) (props : List Given) (ss : BoardSlots) → kids_in (map (slot_given b props) ss) ≡ kids_in ss
kids-given b props [] = refl
kids-given b props (s ∷ ss) = kids-one s (slot_given b props s) ss (map (slot_given b props) ss) (kid-given b props s) (kids-given b props ss)

kids-cons : (s : List ℕ × Slot) (ss : BoardSlots) → kids_in (s ∷ ss) ≡ option_to_list (kid_in s) ++ kids_in ss
kids-cons (name, plain v) ss = refl
kids-cons (name, child m) ss = refl
kids-cons (name, strong t m) ss = refl
kids-cons (name, weak t m) ss = refl
kids-cons (name, alias m of) ss = refl

kids-append : (xs ys : BoardSlots) → kids_in (xs ++ ys) ≡ kids_in xs ++ kids_in ys
kids-append [] ys = refl
kids-append (x ∷ xs) ys =
    kids-cons x (xs ++ ys)
    ∙ ap (λ (l : List Kid). option_to_list (kid_in x) ++ l) (kids-append xs ys)
    ∙ sym (append_assoc (option_to_list (kid_in x)) (kids_in xs) (kids_in ys))
    ∙ ap (λ (l : List Kid). l ++ kids_in ys) (sym (kids-cons x xs))

-- the children of each object, over the steps of a device that takes its place

kids-edit : (b : Board) (n : ℕ) (f : Record → Record) → ((r : Record) → (f r).birth ≡ r.birth) → ((r : Record) → kids_in (f r).slots ≡ kids_in r.slots)
    → (m : ℕ) → kids_at (edit n f b) m ≡ kids_at b m
kids-edit b n f born same m = read-edit n f born (λ (o : Option Record). kids_in (option_map_or (λ (r : Record). r.slots) o [])) same m b.records

kids-set : (n : ℕ) (name : List ℕ) (v : Val) (b : Board) (m : ℕ) → kids_at (set_named n name v b) m ≡ kids_at b m
unfolding set
kids-set n name v b m = go (index_from (is_named name) 0 (slots_at b n)) refl
  where
    go : (o : Option ℕ) → index_from (is_named name) 0 (slots_at b n) ≡ o → kids_at (set_named n name v b) m ≡ kids_at b m
    go None e = rw (set_named, e) refl
    go (Some i) e = rw (set_named, e) (kids-edit b n (with_changed (with_val v) i) (λ r. refl) (λ r. kids-changed (with_val v) (kid-val v) i r.slots) m)

kids-link : (n : ℕ) (name : List ℕ) (to : ℕ) (b : Board) (m : ℕ) → kids_at (link_named n name to b) m ≡ kids_at b m
kids-link n name to b m = go (index_from (is_named name) 0 (slots_at b n)) refl
  where
    go : (o : Option ℕ) → index_from (is_named name) 0 (slots_at b n) ≡ o → kids_at (link_named n name to b) m ≡ kids_at b m
    go None e = rw (link_named, e) refl
    go (Some i) e =
        rw (link_named, e) (kids-edit b n (with_changed (fitted b to) i) (λ r. refl) (λ r. kids-changed (fitted b to) (kid-fitted b to) i r.slots) m)

kids-source : (source : ℕ) (clock : Option ℕ) (c : Board) (m : ℕ) → kids_at (with_source source clock c) m ≡ kids_at c m
kids-source source None c m = refl
kids-source source (Some k) c m = kids-link k (codes "source") source c m

-- a slot more that is no child
kids-added : (n : ℕ) (name : List ℕ) (s : Slot) → kid_in (name, s) ≡ None → (b : Board) (m : ℕ) → kids_at (add n name s b) m ≡ kids_at b m
unfolding add
kids-added n name s none b m =
    kids-edit b n (with_added name s) (λ r. refl)
    (λ r. kids-append r.slots ((name, s) ∷ []) ∙ ap (λ (o : Option Kid). kids_in r.slots ++ cons_option o []) none ∙ append-nil (kids_in r.slots)) m

-- a slot more of another object
other-edit : (n m : ℕ) (f : Record → Record) → ((r : Record) → (f r).birth ≡ r.birth) → (n == m) ≡ false → (rs : List Record)
    → find (λ (r : Record). r.birth == m) (map (edited n f) rs) ≡ find (λ (r : Record). r.birth == m) rs
other-edit n m f born other [] = refl
other-edit n m f born other (r ∷ rs) = go (r.birth == n) refl (other-edit n m f born other rs)
  where
    go : (t : Bool) → (r.birth == n) ≡ t → find (λ (x : Record). x.birth == m) (map (edited n f) rs) ≡ find (λ (x : Record). x.birth == m) rs
        → find (λ (x : Record). x.birth == m) (map (edited n f) (r ∷ rs)) ≡ find (λ (x : Record). x.birth == m) (r ∷ rs)
    go true e rest =
        let at : r.birth ≡ n = eqb-true r.birth n e in
        let here : ((f r).birth == m) ≡ false = ap (λ (k : ℕ). k == m) (born r ∙ at) ∙ other in
        let same : (r.birth == m) ≡ false = ap (λ (k : ℕ). k == m) at ∙ other in
        rw (e, here, same) rest
    go false e rest = rw e (ap (λ (o : Option Record). cond (r.birth == m) (Some r) o) rest)

kids-other : (n : ℕ) (name : List ℕ) (s : Slot) (b : Board) (m : ℕ) → (n == m) ≡ false → kids_at (add n name s b) m ≡ kids_at b m
unfolding add
kids-other n name s b m other =
    ap (λ (o : Option Record). kids_in (option_map_or (λ (r : Record). r.slots) o [])) (other-edit n m (with_added name s) (λ r. refl) other b.records)

-- a device keeps its buses where it takes its place

kids-addressed : (n : ℕ) (range : Option Range) (c : Board) (m : ℕ) → kids_at (addressed_at n range c) m ≡ kids_at c m
kids-addressed n None c m = refl
kids-addressed n (Some r) c m = kids-set n (codes "addr") (val.Uint r.at) c m

kids-stood : (b : Board) (n : ℕ) (a : Wanted) (resources : Resources) (c : Board) (m : ℕ)
    → kids_at (stood b n a resources c) m ≡ kids_at (joined b n a resources c) m
kids-stood b n a resources c m =
    let there : Board = joined b n a resources c in
    let given : Board = edit n (with_given b a.props) there in
    let slotted : Board = set_named n (codes "slot") (val.Uint resources.slot) given in
    let linked : Board = link_named n (codes "parent_bus") resources.bus slotted in
    let realized : Board = set_named n (codes "realized") (val.Bool true) linked in
    kids-edit (addressed_at n resources.range realized) n (with_body_of a.id resources.range) (λ r. refl) (λ r. refl) m
    ∙ kids-addressed n resources.range realized m
    ∙ kids-set n (codes "realized") (val.Bool true) linked m
    ∙ kids-link n (codes "parent_bus") resources.bus slotted m
    ∙ kids-set n (codes "slot") (val.Uint resources.slot) given m
    ∙ kids-edit there n (with_given b a.props) (λ r. refl) (λ r. kids-given b a.props r.slots) m

pub seated-buses : (b : Board) (n : ℕ) (a : Wanted) (resources : Resources) (c : Board) → (parent_for a.id == n) ≡ false
    → buses_of (seated b n a resources c) n ≡ buses_of c n
seated-buses b n a resources c other =
    let d : Board = stood b n a resources c in
    buses-same c (seated b n a resources c) n
    (λ m. (tree-source (source_for b resources.bus) (clock_of d n) d).kinds m ∙ kinds-stood b n a resources c m)
    (kids-source (source_for b resources.bus) (clock_of d n) d n
    ∙ kids-stood b n a resources c n
    ∙ kids-added resources.bus (kid_name resources.slot) (strong Device (Some n)) refl (add (parent_for a.id) (name_for b a.id) (child n) c) n
    ∙ kids-other (parent_for a.id) (name_for b a.id) (child n) c n other)

-- a device as it is made: its children, numbered from its birth on

abbrev Further : Type 0
Further = List ℕ × TypeId

abbrev numbered : ℕ → List Further → List Kid
numbered m [] = []
numbered m (f ∷ fs) = (f.0, m) ∷ numbered (suc m) fs

abbrev KindsFrom : Board → ℕ → List Further → Type 0
KindsFrom c m [] = Unit {0}
KindsFrom c m (f ∷ fs) = (kind_of c m ≡ Some f.1) × KindsFrom c (suc m) fs

numbered-push : (m j : ℕ) (fs : List Further) (f : Further) → j ≡ m + length fs → numbered m (fs ++ f ∷ []) ≡ numbered m fs ++ (f.0, j) ∷ []
numbered-push m j [] f e = let same : m ≡ j = omega (arith, e) in ap (λ (k : ℕ). (f.0, k) ∷ []) same
numbered-push m j (x ∷ fs) f e = ap (λ (l : List Kid). (x.0, m) ∷ l) (numbered-push (suc m) j fs f (omega (arith, e)))

kinds-push : (c : Board) (m j : ℕ) (fs : List Further) (f : Further) → j ≡ m + length fs → KindsFrom c m fs → kind_of c j ≡ Some f.1
    → KindsFrom c m (fs ++ f ∷ [])
kinds-push c m j [] f e all last = let same : j ≡ m = omega (arith, e) in (subst (λ (k : ℕ). kind_of c k ≡ Some f.1) same last, tt)
kinds-push c m j (x ∷ fs) f e all last = (all.0, kinds-push c (suc m) j fs f (omega (arith, e)) all.1 last)

kinds-still : (c d : Board) → ((m : ℕ) (t : TypeId) → kind_of c m ≡ Some t → kind_of d m ≡ Some t) → (m : ℕ) (fs : List Further) → KindsFrom c m fs
    → KindsFrom d m fs
kinds-still c d still m [] all = tt
kinds-still c d still m (f ∷ fs) all = (still m f.1 all.0, kinds-still c d still (suc m) fs all.1)

record Drafted (n : ℕ) (t : TypeId) (done : List Further) (c : Board) : Type 0 where
  kind : kind_of c n ≡ Some t
  kids : kids_at c n ≡ numbered (suc n) done
  kinds : KindsFrom c (suc n) done
  born : c.born ≡ n + length done
  low : (m : ℕ) → c.born < m → kind_of c m ≡ None

-- an edit of the object itself
own-edit : (n : ℕ) (f : Record → Record) → ((r : Record) → (f r).birth ≡ r.birth) → (rs : List Record)
    → find (λ (r : Record). r.birth == n) (map (edited n f) rs) ≡ option_map f (find (λ (r : Record). r.birth == n) rs)
own-edit n f born [] = refl
own-edit n f born (r ∷ rs) = go (r.birth == n) refl (own-edit n f born rs)
  where
    go : (t : Bool) → (r.birth == n) ≡ t → find (λ (x : Record). x.birth == n) (map (edited n f) rs) ≡ option_map f (find (λ (x : Record). x.birth == n) rs)
        → find (λ (x : Record). x.birth == n) (map (edited n f) (r ∷ rs)) ≡ option_map f (find (λ (x : Record). x.birth == n) (r ∷ rs))
    go true e rest =
        let here : ((f r).birth == n) ≡ true = ap (λ (k : ℕ). k == n) (born r) ∙ e in
        rw (e, here) refl
    go false e rest = rw (e, e) rest

added-own : (n : ℕ) (name : List ℕ) (s : Slot) (t : TypeId) (c : Board) → kind_of c n ≡ Some t
    → kids_at (add n name s c) n ≡ kids_at c n ++ kids_in ((name, s) ∷ [])
unfolding add
added-own n name s t c kind =
    ap (λ (o : Option Record). kids_in (option_map_or (λ (r : Record). r.slots) o [])) (own-edit n (with_added name s) (λ r. refl) c.records)
    ∙ go (record_of c n) kind
  where
    go : (o : Option Record) → option_map (λ (r : Record). r.kind) o ≡ Some t
        → kids_in (option_map_or (λ (r : Record). r.slots) (option_map (with_added name s) o) [])
        ≡ kids_in (option_map_or (λ (r : Record). r.slots) o []) ++ kids_in ((name, s) ∷ [])
    go None e = cc
    go (Some r) e = kids-append r.slots ((name, s) ∷ [])

born-added : (n : ℕ) (name : List ℕ) (s : Slot) (c : Board) → (add n name s c).born ≡ c.born
unfolding add
born-added n name s c = refl

drafted-slot : (n : ℕ) (t : TypeId) (done : List Further) (c : Board) (name : List ℕ) (s : Slot) → kid_in (name, s) ≡ None → Drafted n t done c
    → Drafted n t done (add n name s c)
drafted-slot n t done c name s none d =
    record {
      kind = kinds-added n name s c n ∙ d.kind;
      kids = kids-added n name s none c n ∙ d.kids;
      kinds = kinds-still c (add n name s c) (λ m k e. kinds-added n name s c m ∙ e) (suc n) done d.kinds;
      born = born-added n name s c ∙ d.born;
      low = λ m up. kinds-added n name s c m ∙ d.low m (subst (λ (k : ℕ). k < m) (born-added n name s c) up);
    }

-- a record more
found-last : (m : ℕ) (y : Record) (xs : List Record)
    → find (λ (r : Record). r.birth == m) (xs ++ y ∷ []) ≡ option_or (find (λ (r : Record). r.birth == m) xs) (cond (y.birth == m) (Some y) None)
found-last m y [] = refl
found-last m y (x ∷ xs) = go (x.birth == m) (found-last m y xs)
  where
    go : (t : Bool)
        → find (λ (r : Record). r.birth == m) (xs ++ y ∷ []) ≡ option_or (find (λ (r : Record). r.birth == m) xs) (cond (y.birth == m) (Some y) None)
        → cond t (Some x) (find (λ (r : Record). r.birth == m) (xs ++ y ∷ []))
        ≡ option_or (cond t (Some x) (find (λ (r : Record). r.birth == m) xs)) (cond (y.birth == m) (Some y) None)
    go true rest = refl
    go false rest = rest

kind-last : (m : ℕ) (y : Record) (xs : List Record) → option_map (λ (r : Record). r.kind) (find (λ (r : Record). r.birth == m) (xs ++ y ∷ []))
    ≡ option_or (option_map (λ (r : Record). r.kind) (find (λ (r : Record). r.birth == m) xs)) (cond (y.birth == m) (Some y.kind) None)
kind-last m y xs = ap (option_map (λ (r : Record). r.kind)) (found-last m y xs) ∙ go (find (λ (r : Record). r.birth == m) xs)
  where
    last : (t : Bool) → option_map (λ (r : Record). r.kind) (cond t (Some y) None) ≡ cond t (Some y.kind) None
    last true = refl
    last false = refl

    go : (o : Option Record) → option_map (λ (r : Record). r.kind) (option_or o (cond (y.birth == m) (Some y) None))
        ≡ option_or (option_map (λ (r : Record). r.kind) o) (cond (y.birth == m) (Some y.kind) None)
    go None = last (y.birth == m)
    go (Some r) = refl

self-is : (n : ℕ) → (n == n) ≡ true
self-is n = eq-eqb n n refl

drafted-kid : (n : ℕ) (t : TypeId) (done : List Further) (c : Board) (name : List ℕ) (k : TypeId) → Drafted n t done c
    → Drafted n t (done ++ (name, k) ∷ []) (with_kid n name k c)
drafted-kid n t done c name k d =
    record {
      kind = kinds-added n name (child (c.born + 1)) new n ∙ was n t d.kind;
      kids = added-own n name (child (c.born + 1)) t new (was n t d.kind) ∙ (λ j. (kids_were ∙ d.kids) j ++ (name, c.born + 1) ∷ [])
          ∙ sym (numbered-push (suc n) (c.born + 1) done (name, k) (omega (arith, born)));
      kinds = kinds-push (with_kid n name k c) (suc n) (c.born + 1) done (name, k) (omega (arith, born))
          (kinds-still c (with_kid n name k c) (λ m x e. kinds-added n name (child (c.born + 1)) new m ∙ was m x e) (suc n) done d.kinds)
          (kinds-added n name (child (c.born + 1)) new (c.born + 1) ∙ here);
      born = born-added n name (child (c.born + 1)) new ∙ more;
      low = λ m up. kinds-added n name (child (c.born + 1)) new m ∙ above m (subst (λ (x : ℕ). x < m) (born-added n name (child (c.born + 1)) new) up);
    }
  where
    new : Board
    new = with_new (fresh_record (c.born + 1) k) c

    born : c.born ≡ n + length done
    born = d.born

    more : c.born + 1 ≡ n + length (done ++ (name, k) ∷ [])
    more = let size : length (done ++ (name, k) ∷ []) ≡ length done + 1 = length-append done ((name, k) ∷ []) in omega (arith, born, size)

    was : (m : ℕ) (x : TypeId) → kind_of c m ≡ Some x → kind_of (with_new (fresh_record (c.born + 1) k) c) m ≡ Some x
    was m x e = kind-last m (fresh_record (c.born + 1) k) c.records ∙ ap (λ (o : Option TypeId). option_or o (cond ((c.born + 1) == m) (Some k) None)) e

    here : kind_of (with_new (fresh_record (c.born + 1) k) c) (c.born + 1) ≡ Some k
    here =
        kind-last (c.born + 1) (fresh_record (c.born + 1) k) c.records
        ∙ ap (λ (o : Option TypeId). option_or o (cond ((c.born + 1) == (c.born + 1)) (Some k) None)) (d.low (c.born + 1) (omega arith))
        ∙ ap (λ (b : Bool). cond b (Some k) None) (self-is (c.born + 1))

    above : (m : ℕ) → c.born + 1 < m → kind_of (with_new (fresh_record (c.born + 1) k) c) m ≡ None
    above m up =
        let other : ((c.born + 1) == m) ≡ false = grind (arith, up) in
        kind-last m (fresh_record (c.born + 1) k) c.records
        ∙ ap (λ (o : Option TypeId). option_or o (cond ((c.born + 1) == m) (Some k) None)) (d.low m (omega (arith, up)))
        ∙ ap (λ (b : Bool). cond b (Some k) None) other

    kids_were : kids_at (with_new (fresh_record (c.born + 1) k) c) n ≡ kids_at c n
    kids_were = ap (λ (o : Option Record). kids_in (option_map_or (λ (r : Record). r.slots) o [])) (found-last n (fresh_record (c.born + 1) k) c.records)
        ∙ go (record_of c n) d.kind
      where
        go : (o : Option Record) → option_map (λ (r : Record). r.kind) o ≡ Some t
            → kids_in (option_map_or (λ (r : Record). r.slots) (option_or o (cond ((c.born + 1) == n) (Some (fresh_record (c.born + 1) k)) None)) [])
            ≡ kids_in (option_map_or (λ (r : Record). r.slots) o [])
        go None e = cc
        go (Some r) e = refl

-- property by property

abbrev further_by : List ℕ → PropertyRole → Option Further
further_by name kind = elim kind [ row.Child t ↦ Some (name, t) | _ ↦ None ]

drafted-alias : (n : ℕ) (t : TypeId) (done : List Further) (c : Board) (name of : List ℕ) (o : Option ℕ) → Drafted n t done c
    → Drafted n t done (aliased n name of o c)
drafted-alias n t done c name of None d = d
drafted-alias n t done c name of (Some m) d = drafted-slot n t done c name (alias m of) refl d

drafted-row : (n : ℕ) (t : TypeId) (done : List Further) (c : Board) (name : List ℕ) (kind : PropertyRole) → Drafted n t done c
    → Drafted n t (done ++ option_to_list (further_by name kind)) (property_made n t name kind c)
drafted-row n t done c name (row.Plain type first) d =
    subst (λ (l : List Further). Drafted n t l (add n name (plain (first_value t first)) c)) (sym (append-nil done))
    (drafted-slot n t done c name (plain (first_value t first)) refl d)
drafted-row n t done c name (row.Link target true) d =
    subst (λ (l : List Further). Drafted n t l (add n name (strong target None) c)) (sym (append-nil done))
    (drafted-slot n t done c name (strong target None) refl d)
drafted-row n t done c name (row.Link target false) d =
    subst (λ (l : List Further). Drafted n t l (add n name (weak target None) c)) (sym (append-nil done))
    (drafted-slot n t done c name (weak target None) refl d)
drafted-row n t done c name (row.Child type) d = drafted-kid n t done c name type d
drafted-row n t done c name (row.Alias owner of) d =
    subst (λ (l : List Further). Drafted n t l (aliased n name (property_name of) (owned c n (property_name owner)) c)) (sym (append-nil done))
    (drafted-alias n t done c name (property_name of) (owned c n (property_name owner)) d)

further-cons : (p : Property) (ps : List Property) → filter_map further_in (p ∷ ps) ≡ option_to_list (further_in p) ++ filter_map further_in ps
further-cons p ps = go (further_in p)
  where
    go : (o : Option Further) → cons_option o (filter_map further_in ps) ≡ option_to_list o ++ filter_map further_in ps
    go None = refl
    go (Some f) = refl

drafted-rows : (n : ℕ) (t : TypeId) (ps : List Property) (done : List Further) (c : Board) → Drafted n t done c
    → Drafted n t (done ++ filter_map further_in ps) (properties_made n t ps c)
drafted-rows n t [] done c d = subst (λ (l : List Further). Drafted n t l c) (sym (append-nil done)) d
drafted-rows n t (p ∷ ps) done c d =
    subst (λ (l : List Further). Drafted n t l (properties_made n t (p ∷ ps) c))
    (append_assoc done (option_to_list (further_in p)) (filter_map further_in ps) ∙ ap (λ (l : List Further). done ++ l) (sym (further-cons p ps)))
    (drafted-rows n t ps (done ++ option_to_list (further_in p)) (property_made n t (property_name p.name) p.role c)
    (drafted-row n t done c (property_name p.name) p.role d))

drafted-begun : (b : Board) (t : TypeId) → ((m : ℕ) → b.born < m → kind_of b m ≡ None) → Drafted (b.born + 1) t [] (created b t)
unfolding make
drafted-begun b t low =
    record {
      kind = ap (option_map (λ (r : Record). r.kind)) found;
      kids = ap (λ (o : Option Record). kids_in (option_map_or (λ (r : Record). r.slots) o [])) found;
      kinds = tt;
      born = omega arith;
      low = λ m up.
          let other : ((b.born + 1) == m) ≡ false = grind (arith, up) in
          kind-last m (fresh (b.born + 1) t) b.records
          ∙ ap (λ (o : Option TypeId). option_or o (cond ((b.born + 1) == m) (Some t) None)) (low m (omega (arith, up)))
          ∙ ap (λ (x : Bool). cond x (Some t) None) other;
    }
  where
    found : find (λ (r : Record). r.birth == (b.born + 1)) (b.records ++ fresh (b.born + 1) t ∷ []) ≡ Some (fresh (b.born + 1) t)
    found =
        found-last (b.born + 1) (fresh (b.born + 1) t) b.records
        ∙ ap (λ (o : Option Record). option_or o (cond ((b.born + 1) == (b.born + 1)) (Some (fresh (b.born + 1) t)) None))
        (unmapped (record_of b (b.born + 1)) (low (b.born + 1) (omega arith)))
        ∙ ap (λ (x : Bool). cond x (Some (fresh (b.born + 1) t)) None) (self-is (b.born + 1))

-- the buses among them

abbrev bus_from : ℕ → Further → Option ℕ
bus_from m f = if is_a f.1 (codes "bus") && not (bytes_eq f.0 clock_name) then Some m else None

abbrev buses_from : ℕ → List Further → List ℕ
buses_from m [] = []
buses_from m (f ∷ fs) = cons_option (bus_from m f) (buses_from (suc m) fs)

buses-numbered : (c : Board) (m : ℕ) (fs : List Further) → KindsFrom c m fs → filter_map (bus_of (kind_of c)) (numbered m fs) ≡ buses_from m fs
buses-numbered c m [] all = refl
buses-numbered c m (f ∷ fs) all =
    let here : bus_of (kind_of c) (f.0, m) ≡ bus_from m f = ap
    (λ (o : Option TypeId). if option_map_or (λ (t : TypeId). is_a t (codes "bus")) o false && not (bytes_eq f.0 clock_name) then Some m else None) all.0 in
    let rest = buses-numbered c (suc m) fs all.1 in
    λ j. cons_option (here j) (rest j)

table-buses : (n : ℕ) (t : TypeId) → is_a t (codes "device") ≡ true → buses_from (suc n) (further_of t) ≡ bus_births n t
unfolding types
table-buses n = each (λ (t : TypeId). is_a t (codes "device") ≡ true → buses_from (suc n) (further_of t) ≡ bus_births n t) (search rules)

pub draft-buses : (b : Board) (t : TypeId) → ((m : ℕ) → b.born < m → kind_of b m ≡ None) → is_a t (codes "device") ≡ true
    → buses_of (pinned_draft b t) (b.born + 1) ≡ bus_births (b.born + 1) t
draft-buses b t low device =
    let d : Drafted (b.born + 1) t (further_of t) (pinned_draft b t) = drafted-rows (b.born + 1) t (slots_of t) [] (created b t) (drafted-begun b t low) in
    buses-kids (pinned_draft b t) (slots_at (pinned_draft b t) (b.born + 1))
    ∙ ap (filter_map (bus_of (kind_of (pinned_draft b t)))) d.kids
    ∙ buses-numbered (pinned_draft b t) (suc (b.born + 1)) (further_of t) d.kinds
    ∙ table-buses (b.born + 1) t device

-- the buses of a device that was made and stands
pub plugged-buses : (b : Board) (t : TypeId) (a : Wanted) (resources : Resources) → ((m : ℕ) → b.born < m → kind_of b m ≡ None) → is_a t (codes "device") ≡ true
    → (parent_for a.id == (b.born + 1)) ≡ false
    → buses_of (seated b (b.born + 1) a resources (pinned_draft b t)) (b.born + 1) ≡ bus_births (b.born + 1) t
plugged-buses b t a resources low device other = seated-buses b (b.born + 1) a resources (pinned_draft b t) other ∙ draft-buses b t low device

-- no object is above the births so far
rows-low : (above last m : ℕ) (rows : List (Key × Content)) → Rises above (table.births rows) last → last < m → object_at rows m ≡ None
rows-low above last m [] rises up = refl
rows-low above last m (r ∷ rows) rises up =
    let most : r.0.birth ≤ last = rises-up r.0.birth last (table.births rows) rises.1 in
    let other : (r.0.birth == m) ≡ false = grind (arith, most, up) in
    rw other (rows-low r.0.birth last m rows rises.1 up)
