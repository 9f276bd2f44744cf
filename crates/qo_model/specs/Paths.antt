-- Paths through the tree (docs/devel/qom.rst, "The QEMU Object Model": canonical and partial paths; include/qom/object.h).
use Rattle.std.specs.Prelude.{ℕ, Bool, true, false, not, ◌==◌, if◌then◌else◌, List, [], ◌∷◌, ◌++◌, map, filter, filter_map, find, codes, Option, Some, None, is_some, option_map, option_and_then}
use Rattle.std.specs.List.{slice_split}
use Rattle.std.specs.Str.{bytes_eq}
use Rattle.std.specs.Option.{option_map_or}
use Rattle.qo_values.specs.declared.births.TheConstants.{ROOT_BIRTH}
use Rattle.qo_values.specs.declared.kinds.TypeId.{TypeId}
use Rattle.qo_model.specs.Board.{Board, Record, Slot, child, kind_of, slots_at, slot_named, target_of}
use Rattle.qo_model.specs.Depth.{by_objects}
use Rattle.qo_model.specs.Types.{is_a}

-- whether a slot is a child slot that names n
abbrev pub is_child : ℕ → Slot → Bool
is_child n (child m) = m == n
is_child n _ = false

-- an object and the name of its child slot that names n
abbrev pub place_in : ℕ → Record → Option (ℕ × List ℕ)
place_in n r = option_map (λ (s : List ℕ × Slot). (r.birth, s.0)) (find (λ s. is_child n s.1) r.slots)

-- the place of n in the tree: its parent, and the name that it has there
abbrev pub place_of : Board → ℕ → Option (ℕ × List ℕ)
place_of b n = option_and_then (place_in n) (find (λ r. is_some (place_in n r)) b.records)

-- the parent of n, the owner of the child slot that names it
abbrev pub parent_of : Board → ℕ → Option ℕ
parent_of b n = option_map (λ (p : ℕ × List ℕ). p.0) (place_of b n)

-- the child that a slot names
abbrev pub child_of : Slot → Option ℕ
child_of (child n) = Some n
child_of _ = None

-- the children that slots name, in order
abbrev pub children_in : List (List ℕ × Slot) → List ℕ
children_in slots = filter_map (λ s. child_of s.1) slots

-- the children of n, in order
abbrev pub children_of : Board → ℕ → List ℕ
children_of b n = children_in (slots_at b n)

-- the births of all objects
abbrev pub births : Board → List ℕ
births b = map (λ (r : Record). r.birth) b.records

-- whether parents lead from an object to the root, where f says it of its parent
abbrev pub attached_turn : Board → (ℕ → Bool) → ℕ → Bool
attached_turn b f n = elim (n == ROOT_BIRTH) [ true ↦ true | false ↦ elim (place_of b n) [ None ↦ false | Some p ↦ f p.0 ] ]

-- whether n is attached: parents lead from it to the root, which itself is attached
unfoldable pub attached : Board → ℕ → Bool
attached b n = by_objects (attached_turn b) (λ _. false) (births b) n

-- a `/` and a name for each step from the root down to an object, where f says it of its parent
abbrev pub path_turn : Board → (ℕ → Option (List ℕ)) → ℕ → Option (List ℕ)
path_turn b f n =
    elim (n == ROOT_BIRTH) [
      | true ↦ Some []
      | false ↦ elim (place_of b n) [ None ↦ None | Some p ↦ option_map (λ (above : List ℕ). above ++ 47 ∷ p.1) (f p.0) ]
    ]

-- a `/` and the name of the child slot for each step from the root down; none where parents do not lead there
unfoldable pub path_down_to : Board → ℕ → Option (List ℕ)
path_down_to b n = by_objects (path_turn b) (λ _. None) (births b) n

-- the canonical path: `/` of the root, else the steps down to the object; a detached object has none
abbrev pub canonical : Board → ℕ → Option (List ℕ)
canonical b n = if n == ROOT_BIRTH then Some (codes "/") else path_down_to b n

-- the components of a path: what stands between its `/`, without the empty ones
abbrev pub components : List ℕ → List (List ℕ)
components path = filter (λ part. not (bytes_eq part [])) (slice_split (λ c. c == 47) path)

-- where a component leads from n: to the child or the target of the link of that name; an alias leads nowhere
abbrev pub next_of : Board → ℕ → List ℕ → Option ℕ
next_of b n name = option_and_then target_of (slot_named b n name)

-- where the components lead from n, one after another
abbrev pub walk : Board → ℕ → List (List ℕ) → Option ℕ
walk b n [] = Some n
walk b n (part ∷ parts) = elim (next_of b n part) [ None ↦ None | Some m ↦ walk b m parts ]

-- whether an object is there and its type is of a name
abbrev pub is_of : Board → List ℕ → ℕ → Bool
is_of b wanted n = option_map_or (λ (t : TypeId). is_a t wanted) (kind_of b n) false

-- whether a path is absolute: it begins with `/`
abbrev pub is_absolute : List ℕ → Bool
is_absolute [] = false
is_absolute (c ∷ cs) = c == 47

-- n, if it is of the wanted type
abbrev pub only_of : Board → List ℕ → ℕ → Option ℕ
only_of b wanted n = if is_of b wanted n then Some n else None

-- the object of an absolute path: where its components lead from `/`, if that is of the wanted type
abbrev pub resolve_absolute : Board → List ℕ → List ℕ → Option ℕ
resolve_absolute b path wanted = if is_absolute path then option_and_then (only_of b wanted) (walk b ROOT_BIRTH (components path)) else None

-- what a path leads to from the objects that it may begin at: one object, none, or several, also where these are the same object
pub data Resolution : Type 0 where
  found : ℕ → Resolution
  missing : Resolution
  several : Resolution

-- the objects that a path begins at: `/` for an absolute one, else each attached object
abbrev pub starts : Board → List ℕ → List ℕ
starts b path = if is_absolute path then ROOT_BIRTH ∷ [] else filter (attached b) (births b)

-- the objects of the wanted type that a path ends at, for each of its beginnings that leads to one
abbrev pub ends : Board → List ℕ → List ℕ → List ℕ
ends b path wanted = filter_map (λ n. option_and_then (only_of b wanted) (walk b n (components path))) (starts b path)

abbrev pub the_one : List ℕ → Resolution
the_one [] = missing
the_one (n ∷ []) = found n
the_one _ = several

-- what a path leads to
abbrev pub resolve : Board → List ℕ → List ℕ → Resolution
resolve b path wanted = the_one (ends b path wanted)
