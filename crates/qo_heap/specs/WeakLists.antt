-- For proofs alone. The weak links that name an object are a list through what their owners keep of them.
use Rattle.std.specs.Prelude.{◌≡◌, ℕ, ◌+◌, if◌then◌else◌, List, [], ◌∷◌, ◌++◌, map, length, remove, slice_get, sum_by, Option, None, Some, option_map, IfSome}
use Rattle.std.specs.List.{AllByRecursion}
use Rattle.std.specs.Option.{option_and_then, option_map_or}
use Rattle.qo_slots.specs.declared.keys.Key.{Key}
use Rattle.qo_object.specs.Slots.{is_born}
use Rattle.qo_object.specs.Content.{Content, named_at}
use Rattle.qo_heap.specs.Keeping.{plain}
use Rattle.qo_heap.specs.Rows.{IsLive, edit, object_at}
use Rattle.qo_heap.specs.WeakLinks.{Links, NumbersRise, changed_node, node_of, weak_names, weak_place, new_node, with_both, with_next, with_prev}
use Rattle.qo_heap.specs.declared.entries.Entry.{Entry}
use Rattle.qo_heap.specs.declared.entries.Loose.{Loose}
use Rattle.qo_heap.specs.declared.weak_links.End.{End}
use Rattle.qo_heap.specs.declared.weak_links.Node.{Node}

-- from a link on, these stand behind one another, and before the first is `prev`
abbrev pub IsChain : (End → Option Node) → Option End → Option End → List End → Type 0
IsChain c prev cur [] = cur ≡ None
IsChain c prev cur (e ∷ es) = (cur ≡ Some e) × ((l : Node) × ((c e ≡ Some l) × ((l.prev ≡ prev) × IsChain c (Some e) l.next es)))

-- a list that starts at a head, and that has exactly the links of which a weighing adds up the weights
abbrev pub IsListed : (End → Option Node) → Option End → ((End → ℕ) → ℕ) → Type 0
IsListed c head bag = (es : List End) × (IsChain c None head es × ((w : End → ℕ) → sum_by w es ≡ bag w))

-- what the weak links of an object name, in the order of their slots
abbrev pub names : Entry → List (Option Key)
names e = weak_names e.object.slots

-- the weight of those of an owner that name the object of a birth
abbrev pub named_weight : ℕ → (End → ℕ) → Key → List Node → List (Option Key) → ℕ
named_weight n w owner [] ts = 0
named_weight n w owner (x ∷ xs) [] = 0
named_weight n w owner (x ∷ xs) (t ∷ ts) =
    (if is_born n t then w (record { owner = owner; id = x.id }) else 0) + named_weight n w owner xs ts

-- where a link stands, the first of those that name the object of a birth, and what these weigh
abbrev pub cell_in : List (Key × Entry) → End → Option Node
cell_in rows e = option_and_then (λ (x : Entry). node_of x.links.nodes e.id) (object_at rows e.owner.birth)

abbrev pub head_in : List (Key × Entry) → ℕ → Option End
head_in rows n = option_and_then (λ (x : Entry). x.links.first) (object_at rows n)

abbrev pub row_weight : ℕ → (End → ℕ) → Key × Entry → ℕ
row_weight n w row = named_weight n w row.0 row.1.links.nodes (names row.1)

abbrev pub bag_in : List (Key × Entry) → ℕ → (End → ℕ) → ℕ
bag_in rows n w = sum_by (row_weight n w) rows

-- as many nodes as weak links, with numbers that differ
abbrev pub IsNumbered : Key × Entry → Type 0
IsNumbered row = (length row.1.links.nodes ≡ length (names row.1)) × NumbersRise row.1.links.nodes

-- of each object there is the list of the weak links that name it
pub record HasWeakLists (rows : List (Key × Entry)) : Type 0 where
  pub lists : (n : ℕ) → IsListed (cell_in rows) (head_in rows n) (bag_in rows n)
  pub numbered : AllByRecursion IsNumbered rows

-- another is the first that names an object, and the node of a number is changed
abbrev pub with_links : Links → Entry → Entry
with_links links e = record e { links = links }

abbrev pub with_first : Option End → Entry → Entry
with_first h e = record e { links = record e.links { first = h } }

abbrev pub with_node : ℕ → (Node → Node) → Entry → Entry
with_node id change e = record e { links = record e.links { nodes = changed_node id change e.links.nodes } }

-- where the weak link of an object at a place stands, if there is one; and what it keeps of weak links, once that at a place is removed
abbrev pub node_at : Entry → ℕ → Option Node
node_at e i = option_and_then (λ (k : ℕ). slice_get e.links.nodes k) (weak_place e.object.slots i)

-- the weak link that is let go with the slot at a place, if it is one that named an object
abbrev pub loose_of : Option Key → Option Node → Option Loose
loose_of named node = option_and_then (λ (k : Key). option_map (λ (x : Node). record { target = k; node = x }) node) named

abbrev pub loose_at : Entry → ℕ → Option Loose
loose_at e i = loose_of (named_at e.object i) (node_at e i)

-- what it keeps, once a slot was added, which is a weak link where there is a number
abbrev pub added_links : Option ℕ → Links → Links
added_links None links = links
added_links (Some id) links = record links { nodes = links.nodes ++ new_node id ∷ [] }

abbrev pub cut_links : ℕ → Entry → Links
cut_links i e = option_map_or (λ (k : ℕ). record e.links { nodes = remove e.links.nodes k }) (weak_place e.object.slots i) e.links

-- rows in which a link, if it is one, has another before it; and in which what is before a link, a link or the head of the list, leads to another
abbrev pub turned_in : Option End → Option End → List (Key × Entry) → List (Key × Entry)
turned_in None p rows = rows
turned_in (Some e) p rows = edit e.owner.birth (with_node e.id (with_prev p)) rows

abbrev pub led_in : ℕ → Option End → Option End → List (Key × Entry) → List (Key × Entry)
led_in m None nx rows = edit m (with_first nx) rows
led_in m (Some e) nx rows = edit e.owner.birth (with_node e.id (with_next nx)) rows

-- a link is taken out of a list, and put at the front of one
abbrev pub unlinked_in : ℕ → Node → List (Key × Entry) → List (Key × Entry)
unlinked_in m l rows = led_in m l.prev l.next (turned_in l.next l.prev rows)

abbrev pub linked_in : ℕ → End → Option End → List (Key × Entry) → List (Key × Entry)
linked_in m s old rows = turned_in old (Some s) (edit s.owner.birth (with_node s.id (with_both None old)) (edit m (with_first (Some s)) rows))

-- rows in which a weak link was let go, if it was one; and in which one of an owner names an object, if it does
abbrev pub loosed_in : Option Loose → List (Key × Entry) → List (Key × Entry)
loosed_in None rows = rows
loosed_in (Some l) rows = unlinked_in l.target.birth l.node rows

abbrev pub joined_in : Key → Option ℕ → Option Key → List (Key × Entry) → List (Key × Entry)
joined_in owner (Some id) (Some target) rows = linked_in target.birth (record { owner = owner; id = id }) (head_in rows target.birth) rows
joined_in owner id target rows = rows

-- what these name is there
abbrev pub CanLeave : List (Key × Content) → Loose → Type 0
CanLeave rows l =
    IsLive rows l.target
    × (IfSome l.node.next (λ (e : End). IsLive rows e.owner) × IfSome l.node.prev (λ (e : End). IsLive rows e.owner))

abbrev pub CanJoin : List (Key × Entry) → Key → Type 0
CanJoin rows target =
    IsLive (plain rows) target × IfSome (head_in rows target.birth) (λ (e : End). IsLive (plain rows) e.owner)

-- rows without what is kept of weak links
abbrev pub without_links : List (Key × Entry) → List (Key × Entry)
without_links rows = map (λ (row : Key × Entry). (row.0, record row.1 { links = record { first = None; nodes = [] } })) rows
