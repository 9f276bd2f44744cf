-- For proofs alone. What an object keeps of weak links: the first of those that name it, and where each of its own stands in the list of its target.
use Rattle.std.specs.Prelude.{ℕ, zero, suc, ◌-◌, ◌<◌, Bool, false, ◌&&◌, ◌==◌, if◌then◌else◌, List, [], ◌∷◌, filter_map, find, length, take, Option, None, Some, is_some, option_map, ⊤}
use Rattle.std.specs.List.{AllByRecursion}
use Rattle.std.specs.Option.{option_map_or}
use Rattle.qo_slots.specs.declared.keys.Key.{Key}
use Rattle.qo_object.specs.declared.slots.Slot.{Slot}
use Rattle.qo_object.specs.declared.slots.Slot.TheVariants.{Link}
use Rattle.qo_object.specs.Slots.{Named, slot_in}
use Rattle.qo_heap.specs.declared.weak_links.End.{End}
use Rattle.qo_heap.specs.declared.weak_links.Node.{Node}

-- the first weak link that names the object, and a node for each of its own, in the order of their slots
pub record Links : Type 0 where
  pub first : Option End
  pub nodes : List Node

abbrev pub no_links : Links
no_links = record { first = None; nodes = [] }

-- with other nodes
abbrev pub with_nodes : List Node → Links → Links
with_nodes nodes links = record links { nodes = nodes }

-- the node of a number, and the nodes with that one changed
abbrev pub node_of : List Node → ℕ → Option Node
node_of nodes id = find (λ (x : Node). x.id == id) nodes

abbrev pub changed_node : ℕ → (Node → Node) → List Node → List Node
changed_node id change [] = []
changed_node id change (x ∷ xs) = if x.id == id then change x ∷ xs else x ∷ changed_node id change xs

-- a node with another before it, with another behind it, and with both
abbrev pub with_prev : Option End → Node → Node
with_prev p x = record x { prev = p }

abbrev pub with_next : Option End → Node → Node
with_next n x = record x { next = n }

abbrev pub with_both : Option End → Option End → Node → Node
with_both p n x = record x { prev = p; next = n }

-- a node that stands in no list
abbrev pub new_node : ℕ → Node
new_node id = record { id = id; next = None; prev = None }

-- all nodes but the last
abbrev pub without_last : List Node → List Node
without_last nodes = take (length nodes - 1) nodes

-- the numbers of nodes rise, so they differ
abbrev pub NumbersRise : List Node → Type 0
NumbersRise [] = ⊤
NumbersRise (n ∷ ns) = AllByRecursion (λ (x : Node). n.id < x.id) ns × NumbersRise ns

-- whether two links are of one birth and number; and whether they are one in all
abbrev pub same_end : End → End → Bool
same_end a b = a.owner.birth == b.owner.birth && a.id == b.id

abbrev pub exact_end : End → End → Bool
exact_end a b = a.owner.index == b.owner.index && same_end a b

-- the same as numbers
abbrev pub one_end : End → End → ℕ
one_end a b = if same_end a b then 1 else 0

abbrev pub one_exact : End → End → ℕ
one_exact a b = if exact_end a b then 1 else 0

-- what a slot names, if it is a weak link; and what the weak links among slots name, in order
abbrev pub weak_name : Slot → Option (Option Key)
weak_name (Link ty false target) = Some target
weak_name _ = None

abbrev pub weak_names : List Named → List (Option Key)
weak_names slots = filter_map (λ (s : Named). weak_name s.1) slots

-- which of the weak links the slot at a place is, if it is one
abbrev pub weak_place : List Named → ℕ → Option ℕ
weak_place [] i = None
weak_place (s ∷ slots) zero = option_map (λ (_ : Option Key). 0) (weak_name s.1)
weak_place (s ∷ slots) (suc i) = option_map (λ (k : ℕ). if is_some (weak_name s.1) then suc k else k) (weak_place slots i)

-- whether the slot at a place is a weak link, and how many stand before a place
abbrev pub is_weak_at : List Named → ℕ → Bool
is_weak_at slots i = option_map_or (λ (s : Slot). is_some (weak_name s)) (slot_in slots i) false

abbrev pub weak_before : ℕ → List Named → ℕ
weak_before i [] = 0
weak_before zero (s ∷ slots) = 0
weak_before (suc i) (s ∷ slots) = if is_some (weak_name s.1) then suc (weak_before i slots) else weak_before i slots
