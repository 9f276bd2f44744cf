-- When the tree of a board is sound: births and names, what slots name, child slots without repeats or cycles, and references.
use Rattle.std.specs.Prelude.{◌≡◌, ◌≢◌, ℕ, ◌≤◌, ◌<◌, true, false, nat_eq, List, [], ◌∷◌, map, flat_map, Option, None, Some, ⊤}
use Rattle.std.specs.List.{AllByRecursion, IsDistinct}
use Rattle.std.specs.Str.{bytes_eq}
use Rattle.qo_values.specs.Kinds.{type_name}
use Rattle.qo_values.specs.Registers.{bare}
use Rattle.qo_values.specs.declared.births.TheConstants.{OPENING_OBJECTS, ROOT_BIRTH}
use Rattle.qo_values.specs.declared.kinds.TypeId.{TypeId}
use Rattle.qo_values.specs.declared.properties.Val.TheVariants as val
use Rattle.qo_model.specs.Board.{Board, Record, Slot, plain, child, strong, weak, alias, is_live}
use Rattle.qo_model.specs.Depth.{Leads}
use Rattle.qo_model.specs.Paths.{births, children_in, children_of, is_of}
use Rattle.qo_model.specs.References.{refs}

-- a slot without its plain value
abbrev pub without_value : Slot → Slot
without_value (plain v) = plain val.Nothing
without_value s = s

-- an object without its plain values and registers
abbrev pub without_values : Record → Record
without_values r = record r { slots = map (λ (s : List ℕ × Slot). (s.0, without_value s.1)) r.slots; registers = bare }

-- the board with nothing but what the tree's soundness speaks of: births, pins, and the objects without plain values and registers
unfoldable pub graph_of : Board → Board
graph_of b =
    record {
      records = map without_values b.records;
      born = b.born;
      anonymous = 0;
      now = 0;
      running = false;
      holds = [];
      pending = [];
      notices = [];
      rings = [];
      pins = b.pins;
      notes = [];
      events = [];
    }

-- each number of a list is below all that follow it
abbrev pub Rises : List ℕ → Type 0
Rises [] = ⊤
Rises (n ∷ ns) = AllByRecursion (λ m. n < m) ns × Rises ns

-- the target of a link, if it has one, is there and of the link's type
abbrev pub FitsLink : Board → TypeId → Option ℕ → Type 0
FitsLink b t None = ⊤
FitsLink b t (Some n) = is_of b (type_name t) n ≡ true

-- what a slot names is there, and a link's target is of its type
abbrev pub NamesLive : Board → Slot → Type 0
NamesLive b (plain v) = ⊤
NamesLive b (child n) = is_live b n ≡ true
NamesLive b (strong t target) = FitsLink b t target
NamesLive b (weak t target) = FitsLink b t target
NamesLive b (alias n name) = is_live b n ≡ true

-- the facts, of a board that has nothing else
pub record GraphFacts (g : Board) : Type 0 where
  -- births rise and are at most the births so far, the first of which are those that every machine begins with
  pub rising : Rises (births g)
  pub within : AllByRecursion (λ n. n ≤ g.born) (births g)
  pub begun : OPENING_OBJECTS ≤ g.born
  -- the names of an object's slots differ
  pub named : AllByRecursion (λ (r : Record). IsDistinct bytes_eq (map (λ (s : List ℕ × Slot). s.0) r.slots)) g.records
  -- each slot that names an object names one that is there, and a link one of its type
  pub live : AllByRecursion (λ (r : Record). AllByRecursion (λ (s : List ℕ × Slot). NamesLive g s.1) r.slots) g.records
  -- no object is a child twice, and none is below itself
  pub one_parent : IsDistinct nat_eq (flat_map (λ (r : Record). children_in r.slots) g.records)
  pub none_round : (n : ℕ) → ¬ (Leads (children_of g) n n)
  -- the root alone is pinned, once, and every other object has references
  pub pinned : g.pins ≡ ROOT_BIRTH ∷ []
  pub referred : AllByRecursion (λ n. n ≢ ROOT_BIRTH → 0 < refs g n) (births g)

-- the tree is sound
abbrev pub SoundGraph : Board → Type 0
SoundGraph b = GraphFacts (graph_of b)
