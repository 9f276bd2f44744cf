-- The lines of buses and of the devices on them.
use Rattle.std.proofs.Common.{◌≡◌, ℕ, suc, ◌+◌, ◌-◌, List, [], ◌∷◌, ◌++◌, codes, length, refl, sym, ap, ◌∙◌, append_assoc, append-nil, arith}
use Rattle.std.proofs.Common.{Option, None, Some, option_map, replicate}
use Rattle.std.specs.Prelude.{filter_map, flat_map, option_and_then, unwrap_or}
use Rattle.qo_values.specs.declared.births.TheConstants.{ROOT_BUS_BIRTH, MEMORY_BUS_BIRTH}
use Rattle.qo_object.specs.BoardObject.{shown}
use Rattle.qo_object.specs.Content.{Content}
use Rattle.qo_heap.specs.Board.{Shows}
use Rattle.qo_heap.specs.Objects.{Objects, content_of}
use Rattle.qo_heap.proofs.BoardReads.{shows-record, shows-size}
use Rattle.qo_model.specs.Board.{Board, Record, Slot, kind_of, slots_at}
use Rattle.qo_model.specs.Depth.{by_depth}
use Rattle.qo_model.specs.Devices.{bus_in, kids_of, strong_in}
use Rattle.qo_model.specs.Paths.{births}
use Rattle.qo_model.proofs.DepthLemmas.{one-less}
use Rattle.qo_text.specs.Trees.{kind_text}
use Rattle.qo_text.specs.Buses.{bus_entries, bus_entry, bus_lines, bus_text, bus_turn, buses_text, device_line, device_text, id_text, line_in}
use Rattle.qo_text.proofs.TreeTextLemmas.{kind-gone, slots-gone}

-- a bus under a name, so many levels deep
abbrev pub bus_to : Board → ℕ → ℕ → List ℕ → ℕ → List ℕ
bus_to b levels m name spaces = by_depth (bus_turn b) (λ _ _ _. []) levels m name spaces

abbrev pub entry_text : Board → ℕ → ℕ → List ℕ × ℕ → List ℕ
entry_text b levels spaces e = bus_to b levels e.1 e.0 spaces

-- the id of a device
pub id-shown : (b : Board) (v : Objects) → Shows b v → (n : ℕ) (id : Option (List ℕ)) → id ≡ option_and_then (λ (c : Content). c.device_id) (content_of v n)
    → unwrap_or id [] ≡ id_text b n
id-shown b v s n id is =
    ap (λ (o : Option (List ℕ)). unwrap_or o []) (is ∙ sym (ap (option_and_then (λ (r : Record). r.device_id)) (shows-record b v s n) ∙ go (content_of v n)))
  where
    go : (o : Option Content) → option_and_then (λ (r : Record). r.device_id) (option_map (shown n) o) ≡ option_and_then (λ (c : Content). c.device_id) o
    go None = refl
    go (Some c) = refl

-- the bus in a slot, under its name
pub entry-none : (b : Board) (o : Option (List ℕ × Slot)) → o ≡ None → None ≡ option_and_then (bus_entry b) o
entry-none b o is = sym (ap (option_and_then (bus_entry b)) is)

pub entry-is : (b : Board) (o : Option (List ℕ × Slot)) (name : List ℕ) (what : Slot) (bus : Option ℕ) → o ≡ Some (name, what)
    → bus ≡ option_and_then (bus_in b) o → option_map (λ (m : ℕ). (name, m)) bus ≡ option_and_then (bus_entry b) o
entry-is b o name what bus is read =
    let here : bus ≡ bus_in b (name, what) = read ∙ ap (option_and_then (bus_in b)) is in
    ap (option_map (λ (m : ℕ). (name, m))) here ∙ sym (ap (option_and_then (bus_entry b)) is)

quoted : (kind id : List ℕ) → kind ++ (codes ", id \"" ++ (id ++ codes "\"\n")) ≡ (kind ++ (codes ", id \"" ++ (id ++ codes "\""))) ++ 10 ∷ []
quoted kind id =
    sym (
    append_assoc kind (codes ", id \"" ++ (id ++ codes "\"")) (10 ∷ [])
    ∙ ap (λ (l : List ℕ). kind ++ (codes ", id \"" ++ l)) (append_assoc id (codes "\"") (10 ∷ []))
    )

-- the line of a device
pub device-put : (b : Board) (spaces n : ℕ) (kind id text next : List ℕ) → kind ≡ kind_text (kind_of b n) → id ≡ id_text b n
    → next ≡ text ++ (replicate (spaces + 2) 32 ++ (codes "dev: " ++ (kind ++ (codes ", id \"" ++ (id ++ codes "\"\n")))))
    → next ≡ text ++ device_line b spaces n
device-put b spaces n kind id text next k i so =
    so ∙ ap (λ (l : List ℕ). text ++ (replicate (spaces + 2) 32 ++ (codes "dev: " ++ (l ++ (codes ", id \"" ++ (id ++ codes "\"\n")))))) k
    ∙ ap (λ (l : List ℕ). text ++ (replicate (spaces + 2) 32 ++ (codes "dev: " ++ (kind_text (kind_of b n) ++ (codes ", id \"" ++ (l ++ codes "\"\n")))))) i
    ∙ ap (λ (l : List ℕ). text ++ (replicate (spaces + 2) 32 ++ (codes "dev: " ++ l))) (quoted (kind_text (kind_of b n)) (id_text b n))

-- the lines of a bus
pub bus-put : (b : Board) (spaces m : ℕ) (name kind text one two : List ℕ) → kind ≡ kind_text (kind_of b m)
    → one ≡ text ++ line_in spaces (codes "bus: " ++ name) → two ≡ one ++ line_in (spaces + 2) (codes "type " ++ kind) → two ≡ text ++ bus_lines b m name spaces
bus-put b spaces m name kind text one two k first then =
    then ∙ ap (λ (l : List ℕ). l ++ line_in (spaces + 2) (codes "type " ++ kind)) first
    ∙ append_assoc text (line_in spaces (codes "bus: " ++ name)) (line_in (spaces + 2) (codes "type " ++ kind))
    ∙ ap (λ (l : List ℕ). text ++ (line_in spaces (codes "bus: " ++ name) ++ line_in (spaces + 2) (codes "type " ++ l))) k

-- a device is its line and its buses
pub device-all : (b : Board) (levels spaces n : ℕ) (text next : List ℕ)
    → next ≡ (text ++ device_line b spaces n) ++ flat_map (entry_text b levels (spaces + 4)) (bus_entries b n)
    → next ≡ text ++ device_text b (bus_to b levels) spaces n
device-all b levels spaces n text next so = so ∙ append_assoc text (device_line b spaces n) (flat_map (entry_text b levels (spaces + 4)) (bus_entries b n))

-- a bus is its lines and its devices
pub bus-all : (b : Board) (levels spaces m : ℕ) (name text next : List ℕ) → (levels ≡ 0 → ⊥)
    → next ≡ (text ++ bus_lines b m name spaces) ++ flat_map (device_text b (bus_to b (levels - 1)) spaces) (kids_of b m)
    → next ≡ text ++ bus_to b levels m name spaces
bus-all b levels spaces m name text next some so =
    so ∙ append_assoc text (bus_lines b m name spaces) (flat_map (device_text b (bus_to b (levels - 1)) spaces) (kids_of b m))
    ∙ ap (λ (k : ℕ). text ++ bus_to b k m name spaces) (sym (one-less levels some))

pub bus-none : (b : Board) (levels spaces m : ℕ) (name text : List ℕ) → levels ≡ 0 → text ≡ text ++ bus_to b levels m name spaces
bus-none b levels spaces m name text none = rw none (sym (append-nil text))

-- a root bus
pub root-gone : (b : Board) (v : Objects) → Shows b v → (m : ℕ) (name text one two : List ℕ) → content_of v m ≡ None
    → one ≡ text ++ line_in 0 (codes "bus: " ++ name) → two ≡ one ++ line_in 2 (codes "type " ++ []) → two ≡ text ++ bus_text b m name 0
unfolding bus_text
root-gone b v s m name text one two gone first then =
    let slots : slots_at b m ≡ [] = slots-gone b v s m gone in
    let kind : kind_of b m ≡ None = kind-gone b v s m gone in
    let kids : kids_of b m ≡ [] = ap (λ (l : List (List ℕ × Slot)). filter_map (λ (s : List ℕ × Slot). strong_in s.1) l) slots in
    then ∙ ap (λ (l : List ℕ). l ++ line_in 2 (codes "type ")) first ∙ append_assoc text (line_in 0 (codes "bus: " ++ name)) (line_in 2 (codes "type "))
    ∙ ap (λ (l : List ℕ). text ++ l) (sym (rw (kind, kids) (append-nil _)))

pub root-put : (b : Board) (v : Objects) → Shows b v → (levels m n : ℕ) (name text next : List ℕ) → n ≡ m → levels ≡ length v.rows
    → next ≡ text ++ bus_to b (levels + 1) n name 0 → next ≡ text ++ bus_text b m name 0
unfolding bus_text
root-put b v s levels m n name text next is size so =
    let all : levels + 1 ≡ suc (length (births b)) = let k = shows-size b v s in omega (arith, k, size) in
    so ∙ ap (λ (k : ℕ). text ++ bus_to b (levels + 1) k name 0) is ∙ ap (λ (k : ℕ). text ++ bus_to b k m name 0) all

-- both root buses
pub both-roots : (b : Board) (empty one two : List ℕ) → empty ≡ [] → one ≡ empty ++ bus_text b ROOT_BUS_BIRTH (codes "root.0") 0
    → two ≡ one ++ bus_text b MEMORY_BUS_BIRTH (codes "mem.0") 0 → two ≡ buses_text b
both-roots b empty one two none first then =
    then ∙ ap (λ (l : List ℕ). l ++ bus_text b MEMORY_BUS_BIRTH (codes "mem.0") 0)
    (first ∙ ap (λ (l : List ℕ). l ++ bus_text b ROOT_BUS_BIRTH (codes "root.0") 0) none)
