-- A device that takes its place on a board: what stays of the tree, and of ids and paths.
use Rattle.std.proofs.Common.{◌≡◌, refl, ap, ◌∙◌, ℕ, zero, suc, Bool, true, false, cond, ◌==◌, codes, List, [], ◌∷◌, map, find, Option, Some, None, option_map}
use Rattle.std.specs.Prelude.{if◌then◌else◌}
use Rattle.std.specs.Option.{option_map_or}
use Rattle.std.specs.Str.{bytes_eq}
use Rattle.qo_values.specs.Kinds.{type_name}
use Rattle.qo_values.specs.declared.kinds.TypeId.{TypeId}
use Rattle.qo_values.specs.declared.properties.Val.{Val}
use Rattle.qo_values.specs.declared.properties.Val.TheVariants as val
use Rattle.qo_values.specs.declared.ranges.Range.{Range}
use Rattle.qo_model.specs.Board.{Board, Record, Slot, child, plain, strong, weak, alias, kind_of, record_of, slots_at}
use Rattle.qo_model.specs.Changes.{add, changed_at, set, with_added, with_changed, with_val}
use Rattle.qo_model.specs.Devices.{clock_of}
use Rattle.qo_model.specs.Objects.{Given, given_to, index_from, slot_given}
use Rattle.qo_model.specs.Paths.{canonical, is_child, only_of}
use Rattle.qo_model.specs.Plug.{Resources, Wanted, addressed_at, fitted, joined, link_named, source_for, stood, valued, with_body_of, with_given, with_source}
use Rattle.qo_model.specs.Release.{edit, edited}
use Rattle.qo_model.specs.Types.{is_a}
use Rattle.qo_model.specs.Unplug.{is_named, set_named}
use Rattle.qo_plug.specs.Placement.{seated}
use Rattle.qo_plug.proofs.TreeLemmas.{SamePlaces, canonical-same, read-edit, tree-edit, tree-same, tree-then}

abbrev BoardSlots : Type 0
BoardSlots = List (List ℕ × Slot)

-- the name of the child slot of an object
abbrev named_in : ℕ → List ℕ × Slot → ℕ × List ℕ
named_in birth s = (birth, s.0)

abbrev child_at : ℕ → ℕ → BoardSlots → Option (ℕ × List ℕ)
child_at birth k slots = option_map (named_in birth) (find (λ s. is_child k s.1) slots)

find-one : (birth k : ℕ) (name : List ℕ) (s t : Slot) (xs ys : BoardSlots) → is_child k t ≡ is_child k s → child_at birth k xs ≡ child_at birth k ys
    → child_at birth k ((name, t) ∷ xs) ≡ child_at birth k ((name, s) ∷ ys)
find-one birth k name s t xs ys same rest =
    ap (λ (b : Bool). option_map (named_in birth) (cond b (Some (name, t)) (find (λ x. is_child k x.1) xs))) same ∙ go (is_child k s)
  where
    go : (b : Bool) → option_map (named_in birth) (cond b (Some (name, t)) (find (λ x. is_child k x.1) xs))
        ≡ option_map (named_in birth) (cond b (Some (name, s)) (find (λ x. is_child k x.1) ys))
    go true = refl
    go false = rest

find-changed : (birth k : ℕ) (g : Slot → Slot) → ((s : Slot) → is_child k (g s) ≡ is_child k s) → (i : ℕ) (slots : BoardSlots)
    → child_at birth k (changed_at g i slots) ≡ child_at birth k slots
find-changed birth k g same i [] = refl
find-changed birth k g same zero (s ∷ slots) = find-one birth k s.0 s.1 (g s.1) slots slots (same s.1) refl
find-changed birth k g same (suc i) (s ∷ slots) = find-one birth k s.0 s.1 s.1 (changed_at g i slots) slots refl (find-changed birth k g same i slots)

-- values and links are no children

child-val : (k : ℕ) (v : Val) (s : Slot) → is_child k (with_val v s) ≡ is_child k s
child-val k v (plain old) = refl
child-val k v (child m) = refl
child-val k v (strong t m) = refl
child-val k v (weak t m) = refl
child-val k v (alias m of) = refl

child-fitted : (k : ℕ) (b : Board) (m : ℕ) (s : Slot) → is_child k (fitted b m s) ≡ is_child k s
child-fitted k b m (plain old) = refl
child-fitted k b m (child n) = refl
child-fitted k b m (strong t None) = refl
child-fitted k b m (strong t (Some n)) = refl
child-fitted k b m (weak t None) = refl
child-fitted k b m (weak t (Some n)) = refl
child-fitted k b m (alias n of) = refl

child-given_to : (k : ℕ) (b : Board) (s : Slot) (v : Val) → is_child k (given_to b s v) ≡ is_child k s
child-given_to k b (plain old) v = refl
child-given_to k b (child m) v = refl
child-given_to k b (strong t m) (val.Text path) = refl
child-given_to k b (strong t m) (val.Bool x) = refl
child-given_to k b (strong t m) (val.Uint x) = refl
child-given_to k b (strong t m) (val.Int x) = refl
child-given_to k b (strong t m) val.Nothing = refl
child-given_to k b (weak t m) (val.Text path) = refl
child-given_to k b (weak t m) (val.Bool x) = refl
child-given_to k b (weak t m) (val.Uint x) = refl
child-given_to k b (weak t m) (val.Int x) = refl
child-given_to k b (weak t m) val.Nothing = refl
child-given_to k b (alias m of) v = refl

child-given : (k : ℕ) (b : Board) (props : List Given) (s : List ℕ × Slot) → is_child k (slot_given b props s).1 ≡ is_child k s.1
child-given k b props s = go (find (λ (p : Given). bytes_eq p.0 s.0) props)
  where
    go : (o : Option Given) → is_child k (elim o as (λ _. Slot) [ None ↦ s.1 | Some p ↦ given_to b s.1 p.1 ]) ≡ is_child k s.1
    go None = refl
    go (Some p) = child-given_to k b s.1 p.1

find-given : (birth k : ℕ) (b : Board) (props : List Given) (slots : BoardSlots) → child_at birth k (map (slot_given b props) slots) ≡ child_at birth k slots
find-given birth k b props [] = refl
find-given birth k b props (s ∷ slots) =
    find-one birth k s.0 s.1 (slot_given b props s).1 (map (slot_given b props) slots) slots (child-given k b props s) (find-given birth k b props slots)

-- the tree stays

pub tree-set : (n : ℕ) (name : List ℕ) (v : Val) (b : Board) → SamePlaces b (set_named n name v b)
unfolding set
tree-set n name v b = go (index_from (is_named name) 0 (slots_at b n)) refl
  where
    go : (o : Option ℕ) → index_from (is_named name) 0 (slots_at b n) ≡ o → SamePlaces b (set_named n name v b)
    go None e = rw (set_named, e) (tree-same b)
    go (Some i) e = rw (set_named, e)
        (tree-edit b n (with_changed (with_val v) i) (λ r. refl) (λ r. refl) (λ k r. find-changed r.birth k (with_val v) (child-val k v) i r.slots))

pub tree-link : (n : ℕ) (name : List ℕ) (m : ℕ) (b : Board) → SamePlaces b (link_named n name m b)
tree-link n name m b = go (index_from (is_named name) 0 (slots_at b n)) refl
  where
    go : (o : Option ℕ) → index_from (is_named name) 0 (slots_at b n) ≡ o → SamePlaces b (link_named n name m b)
    go None e = rw (link_named, e) (tree-same b)
    go (Some i) e = rw (link_named, e)
        (tree-edit b n (with_changed (fitted b m) i) (λ r. refl) (λ r. refl) (λ k r. find-changed r.birth k (fitted b m) (child-fitted k b m) i r.slots))

tree-given : (b : Board) (n : ℕ) (props : List Given) (c : Board) → SamePlaces c (edit n (with_given b props) c)
tree-given b n props c = tree-edit c n (with_given b props) (λ r. refl) (λ r. refl) (λ k r. find-given r.birth k b props r.slots)

pub tree-source : (source : ℕ) (clock : Option ℕ) (c : Board) → SamePlaces c (with_source source clock c)
tree-source source None c = tree-same c
tree-source source (Some m) c = tree-link m (codes "source") source c

tree-valued : (b : Board) (n : ℕ) (props : List Given) (resources : Resources) (c : Board) → SamePlaces c (valued b n props resources c)
tree-valued b n props resources c =
    let given : Board = edit n (with_given b props) c in
    let slotted : Board = set_named n (codes "slot") (val.Uint resources.slot) given in
    let linked : Board = link_named n (codes "parent_bus") resources.bus slotted in
    tree-then c given (valued b n props resources c) (tree-given b n props c)
    (tree-then given slotted (valued b n props resources c) (tree-set n (codes "slot") (val.Uint resources.slot) given)
    (tree-then slotted linked (valued b n props resources c) (tree-link n (codes "parent_bus") resources.bus slotted)
    (tree-set n (codes "realized") (val.Bool true) linked)))

tree-addressed : (n : ℕ) (range : Option Range) (c : Board) → SamePlaces c (addressed_at n range c)
tree-addressed n None c = tree-same c
tree-addressed n (Some r) c = tree-set n (codes "addr") (val.Uint r.at) c

tree-body : (n : ℕ) (id : Option (List ℕ)) (range : Option Range) (c : Board) → SamePlaces c (edit n (with_body_of id range) c)
tree-body n id range c = tree-edit c n (with_body_of id range) (λ r. refl) (λ r. refl) (λ k r. refl)

pub tree-stood : (b : Board) (n : ℕ) (a : Wanted) (resources : Resources) (c : Board) → SamePlaces (joined b n a resources c) (stood b n a resources c)
tree-stood b n a resources c =
    let there : Board = joined b n a resources c in
    let given : Board = valued b n a.props resources there in
    let addressed : Board = addressed_at n resources.range given in
    tree-then there given (stood b n a resources c) (tree-valued b n a.props resources there)
    (tree-then given addressed (stood b n a resources c) (tree-addressed n resources.range given) (tree-body n a.id resources.range addressed))

-- a device has the path that it has once it has joined
pub seated-path : (b : Board) (n : ℕ) (a : Wanted) (resources : Resources) (c : Board) (path : List ℕ) → canonical (joined b n a resources c) n ≡ Some path
    → canonical (seated b n a resources c) n ≡ Some path
seated-path b n a resources c path is =
    let d : Board = stood b n a resources c in
    canonical-same d (seated b n a resources c) (tree-source (source_for b resources.bus) (clock_of d n) d) n
    ∙ canonical-same (joined b n a resources c) d (tree-stood b n a resources c) n
    ∙ is

-- types stay where objects join

pub kinds-added : (n : ℕ) (name : List ℕ) (s : Slot) (b : Board) (m : ℕ) → kind_of (add n name s b) m ≡ kind_of b m
unfolding add
kinds-added n name s b m = read-edit n (with_added name s) (λ r. refl) (λ (o : Option Record). option_map (λ (r : Record). r.kind) o) (λ r. refl) m b.records

pub kinds-stood : (b : Board) (n : ℕ) (a : Wanted) (resources : Resources) (c : Board) (m : ℕ) → kind_of (stood b n a resources c) m ≡ kind_of c m
kinds-stood b n a resources c m =
    (tree-stood b n a resources c).kinds m
    ∙ kinds-added resources.bus _ _ _ m
    ∙ kinds-added _ _ _ c m

-- no link is pointed at what is not there

only-missing : (b : Board) (m : ℕ) → kind_of b m ≡ None → (t : TypeId) → only_of b (type_name t) m ≡ None
only-missing b m none t = ap (λ (k : Option TypeId). if option_map_or (λ (x : TypeId). is_a x (type_name t)) k false then Some m else None) none

fitted-missing : (b : Board) (m : ℕ) → kind_of b m ≡ None → (s : Slot) → fitted b m s ≡ s
fitted-missing b m none (plain v) = refl
fitted-missing b m none (child n) = refl
fitted-missing b m none (strong t None) = ap (strong t) (only-missing b m none t)
fitted-missing b m none (strong t (Some n)) = refl
fitted-missing b m none (weak t None) = ap (weak t) (only-missing b m none t)
fitted-missing b m none (weak t (Some n)) = refl
fitted-missing b m none (alias n of) = refl

changed-nothing : (g : Slot → Slot) → ((s : Slot) → g s ≡ s) → (i : ℕ) (slots : BoardSlots) → changed_at g i slots ≡ slots
changed-nothing g same i [] = refl
changed-nothing g same zero (s ∷ slots) = ap (λ (x : Slot). (s.0, x) ∷ slots) (same s.1)
changed-nothing g same (suc i) (s ∷ slots) = ap (λ (ss : BoardSlots). s ∷ ss) (changed-nothing g same i slots)

edit-nothing : (n : ℕ) (f : Record → Record) → ((r : Record) → f r ≡ r) → (b : Board) → edit n f b ≡ b
edit-nothing n f same b = ap (λ (rs : List Record). record b { records = rs }) (go b.records)
  where
    one : (t : Bool) (r : Record) → cond t (f r) r ≡ r
    one true r = same r
    one false r = refl

    go : (rs : List Record) → map (edited n f) rs ≡ rs
    go [] = refl
    go (r ∷ rs) = λ j. one (r.birth == n) r j ∷ go rs j

pub link-missing : (n : ℕ) (name : List ℕ) (m : ℕ) (b : Board) → kind_of b m ≡ None → link_named n name m b ≡ b
link-missing n name m b none = go (index_from (is_named name) 0 (slots_at b n)) refl
  where
    go : (o : Option ℕ) → index_from (is_named name) 0 (slots_at b n) ≡ o → link_named n name m b ≡ b
    go None e = rw (link_named, e) refl
    go (Some i) e =
        rw (link_named, e)
        (edit-nothing n (with_changed (fitted b m) i)
        (λ r. ap (λ (ss : BoardSlots). record r { slots = ss }) (changed-nothing (fitted b m) (fitted-missing b m none) i r.slots)) b)

pub source-missing : (source : ℕ) (clock : Option ℕ) (b : Board) → kind_of b source ≡ None → with_source source clock b ≡ b
source-missing source None b none = refl
source-missing source (Some m) b none = link-missing m (codes "source") source b none

-- what an object has besides its slots

module _ {A : Type 0} (h : Option Record → A) (same : (g : Slot → Slot) (i : ℕ) (r : Record) → h (Some (with_changed g i r)) ≡ h (Some r)) where
  pub read-set : (n : ℕ) (name : List ℕ) (v : Val) (b : Board) (m : ℕ) → h (record_of (set_named n name v b) m) ≡ h (record_of b m)
  unfolding set
  read-set n name v b m = go (index_from (is_named name) 0 (slots_at b n)) refl
    where
      go : (o : Option ℕ) → index_from (is_named name) 0 (slots_at b n) ≡ o → h (record_of (set_named n name v b) m) ≡ h (record_of b m)
      go None e = rw (set_named, e) refl
      go (Some i) e = rw (set_named, e) (read-edit n (with_changed (with_val v) i) (λ r. refl) h (λ r. same (with_val v) i r) m b.records)

  pub read-link : (n : ℕ) (name : List ℕ) (to : ℕ) (b : Board) (m : ℕ) → h (record_of (link_named n name to b) m) ≡ h (record_of b m)
  read-link n name to b m = go (index_from (is_named name) 0 (slots_at b n)) refl
    where
      go : (o : Option ℕ) → index_from (is_named name) 0 (slots_at b n) ≡ o → h (record_of (link_named n name to b) m) ≡ h (record_of b m)
      go None e = rw (link_named, e) refl
      go (Some i) e = rw (link_named, e) (read-edit n (with_changed (fitted b to) i) (λ r. refl) h (λ r. same (fitted b to) i r) m b.records)
