-- For proofs alone. The weak links that end with an object: those that name it, and its own.
use Rattle.std.specs.Prelude.{◌≡◌, ℕ, Bool, true, ◌&&◌, ◌||◌, ◌==◌, nat_lt, if◌then◌else◌, List, sum_by, count_by, find, Option, None, Some, is_some, option_map}
use Rattle.std.specs.List.{list_any}
use Rattle.std.specs.Option.{option_and_then}
use Rattle.qo_slots.specs.declared.keys.Key.{Key}
use Rattle.qo_object.specs.Slots.{Named, names_weakly, slot_in, weak_target}
use Rattle.qo_object.specs.Content.{Content, dropped_at}
use Rattle.qo_heap.specs.Keeping.{with_object}
use Rattle.qo_heap.specs.Objects.{IsHeap, Objects, content_of, with_edit}
use Rattle.qo_heap.specs.Rows.{IsLive}
use Rattle.qo_heap.specs.WeakLists.{loose_at, node_at}
use Rattle.qo_heap.specs.declared.entries.Entry.{Entry}
use Rattle.qo_heap.specs.declared.entries.Loose.{Loose}
use Rattle.qo_heap.specs.declared.weak_links.End.{End}
use Rattle.qo_heap.specs.declared.weak_links.Node.{Node}

-- how many weak links that are not empty name the object of a birth or are its own
abbrev pub weak_ends_in : ℕ → Key × Content → ℕ
weak_ends_in n row =
    if row.0.birth == n then count_by (λ (s : Named). is_some (weak_target s.1)) row.1.slots
    else count_by (λ (s : Named). names_weakly n s.1) row.1.slots

abbrev pub weak_ends : ℕ → List (Key × Content) → ℕ
weak_ends n rows = sum_by (weak_ends_in n) rows

-- how many weak links name the object of a birth
abbrev pub weak_count : ℕ → List (Key × Content) → ℕ
weak_count n rows = sum_by (λ (row : Key × Content). count_by (λ (s : Named). names_weakly n s.1) row.1.slots) rows

-- whether an object has one; and the object of the least birth above a number that has
abbrev pub is_weak_owner : ℕ → Content → Bool
is_weak_owner n c = list_any (λ (s : Named). names_weakly n s.1) c.slots

abbrev pub weak_owner_above : ℕ → ℕ → List (Key × Content) → Option Key
weak_owner_above n above rows =
    option_map (λ (row : Key × Content). row.0) (find (λ (row : Key × Content). nat_lt above row.0.birth && is_weak_owner n row.1) rows)

-- of what was found so far, if anything, and of another object, the one of the lesser birth above a number
abbrev pub nearer : ℕ → Option Key → Key → Option Key
nearer above None key = if nat_lt above key.birth then Some key else None
nearer above (Some found) key = if nat_lt above key.birth && nat_lt key.birth found.birth then Some key else Some found

-- a link is one of an owner's that has a target
pub record IsLinked (key : Key) (e : Entry) (l : End) : Type 0 where
  pub at : ℕ
  pub node : Node
  pub there : node_at e at ≡ Some node
  pub named : is_some (option_and_then weak_target (slot_in e.object.slots at)) ≡ true
  pub is : l ≡ record { owner = key; id = node.id }

-- a link ends with an object: it is the first that names it, or one of its own that has a target
pub data IsWeakEnd (key : Key) (e : Entry) (l : End) : Type 0 where
  naming : e.links.first ≡ Some l → IsWeakEnd key e l
  own : IsLinked key e l → IsWeakEnd key e l

-- the weak link of a number was let go
pub record DropsLink (id : ℕ) (e w : Entry) (gone : Option Loose) : Type 0 where
  pub at : ℕ
  pub node : Node
  pub there : node_at e at ≡ Some node
  pub number : node.id ≡ id
  pub now : w ≡ with_object (dropped_at at) e
  pub loose : gone ≡ loose_at e at

-- a weak link was let go that was not empty and named the object of a birth or was its own
pub record LetGo (n : ℕ) (v w : Objects) : Type 0 where
  pub heap : IsHeap v
  pub owner : Key
  pub at : ℕ
  pub content : Content
  pub target : Key
  pub live : IsLive v.rows owner
  pub there : content_of v owner.birth ≡ Some content
  pub weak : option_and_then weak_target (slot_in content.slots at) ≡ Some target
  pub ends : (target.birth == n || owner.birth == n) ≡ true
  pub now : w ≡ with_edit owner.birth (dropped_at at) v
