-- For proofs alone. Phases of a reset over the objects of a heap.
use Rattle.std.specs.Prelude.{◌≡◌, nat_lt, not, ◌&&◌, ◌==◌, ℕ, suc, Bool, true, false, if◌then◌else◌, List, [], ◌∷◌, ◌++◌, map, length, filter, filter_map, count_by, codes, Option, Some, None}
use Rattle.std.specs.List.{flat_map}
use Rattle.std.specs.Option.{option_map_or}
use Rattle.std.specs.Str.{bytes_eq}
use Rattle.qo_values.specs.declared.kinds.Act.{Act}
use Rattle.qo_values.specs.declared.limits.TheConstants.{HOLD_COUNT_MAX}
use Rattle.qo_slots.specs.declared.keys.Key.{Key}
use Rattle.qo_model.specs.declared.notes.Deed.TheVariants.{Did}
use Rattle.qo_model.specs.Board.{Board}
use Rattle.qo_model.specs.Depth.{among, by_depth}
use Rattle.qo_model.specs.Devices.{clock_name}
use Rattle.qo_model.specs.Reset.{is_not_in_reset}
use Rattle.qo_model.specs.Types.{is_a}
use Rattle.qo_object.specs.declared.slots.Slot.{Slot}
use Rattle.qo_object.specs.declared.slots.Slot.TheVariants.{Child, Link}
use Rattle.qo_object.specs.Content.{Content, acted_at}
use Rattle.qo_object.specs.BoardObject.{birth_of}
use Rattle.qo_heap.specs.Board.{Shows}
use Rattle.qo_heap.specs.Objects.{Objects, content_of, slots_of, with_edit, with_note}

-- whether an object is a bus
abbrev pub is_bus : Objects → ℕ → Bool
is_bus v n = option_map_or (λ (c : Content). is_a c.kind (codes "bus")) (content_of v n) false

-- the reset child in a slot: of a bus, a kid; of any other object, a bus
abbrev pub strong_target : Slot → Option Key
strong_target (Link ty true target) = target
strong_target s = None

abbrev pub bus_child : (ℕ → Bool) → List ℕ → Slot → Option Key
bus_child bus name (Child key) = if bus key.birth && not (bytes_eq name clock_name) then Some key else None
bus_child bus name s = None

abbrev pub turned_to : (ℕ → Bool) → Bool → List ℕ × Slot → Option Key
turned_to bus true s = strong_target s.1
turned_to bus false s = bus_child bus s.0 s.1

abbrev pub kids_in : (ℕ → Bool) → Bool → List (List ℕ × Slot) → List ℕ
kids_in bus at slots = filter_map (λ (s : List ℕ × Slot). birth_of (turned_to bus at s)) slots

-- what is below an object
abbrev pub below_on : Objects → ℕ → List ℕ
below_on v n = kids_in (is_bus v) (is_bus v n) (slots_of v n)

-- an object after all that is below it, to a depth
unfoldable pub post_by : (ℕ → List ℕ) → ℕ → ℕ → List ℕ
post_by next levels n = by_depth (λ f o. flat_map f (next o) ++ o ∷ []) (λ _. []) levels n

-- the births of holds
abbrev pub births_of : List Key → List ℕ
births_of holds = map (λ (k : Key). k.birth) holds

-- whether an object is one that was held, or below it; how many holds there are on it and above it; whether there is none
abbrev pub is_under : Objects → ℕ → ℕ → Bool
is_under v n r = among (post_by (below_on v) (suc (length v.rows)) r) n

unfoldable pub count_on : Objects → List ℕ → ℕ → ℕ
count_on v holds n = count_by (is_under v n) holds

abbrev pub out_on : Objects → List ℕ → ℕ → Bool
out_on v holds n = count_on v holds n == 0

-- a hold more would be too many
abbrev pub exceeds_depth_at : Objects → List ℕ → ℕ → Bool
exceeds_depth_at v holds n = nat_lt HOLD_COUNT_MAX (count_on v holds n)

-- all, or only those that are out
abbrev pub chosen : Bool → List ℕ → Objects → ℕ → Bool
chosen only holds v n = if only then out_on v holds n else true

-- acts on objects in order
abbrev pub acted_on : Act → ℕ → Objects → Objects
acted_on act n v = with_note (record { birth = n; deed = Did act }) (with_edit n (acted_at act v.time 0) v)

unfoldable pub walked : Act → List ℕ → Objects → Objects
walked act [] v = v
walked act (n ∷ ns) v = walked act ns (acted_on act n v)

-- the objects of a phase, children first: all below an object and it, or only those that are out; on the heap and on a board
unfoldable pub picks : Bool → List ℕ → ℕ → Objects → List ℕ
picks only holds n v = filter (chosen only holds v) (post_by (below_on v) (suc (length v.rows)) n)

abbrev pub picked : Bool → Board → List ℕ → List ℕ
picked only b os = filter (λ n. if only then is_not_in_reset b n else true) os

-- a phase
abbrev pub phase_on : Act → Bool → List ℕ → ℕ → Objects → Objects
phase_on act only holds n v = walked act (picks only holds n v) v

-- a heap and holds are a board's
abbrev pub Holds : Board → List ℕ → Objects → Type 0
Holds b holds v = Shows b v × (b.holds ≡ holds)
