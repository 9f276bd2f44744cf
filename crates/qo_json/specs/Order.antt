-- For proofs alone. The members of an object stand in byte order of their names.
use Rattle.std.specs.Prelude.{ℕ, List, [], ◌∷◌, ⊤}
use Rattle.std.specs.Cmp.Lexicographic.{slice_cmp}
use Rattle.std.specs.List.Sorted.{IsStrictlySortedBy}
use Rattle.std.specs.Ordering.{nat_cmp}
use Rattle.serde_json.specs.Data.{Data, null, boolean, number, string, array, object, Items, no_items, item, Members, no_members, member}

-- the names of members
abbrev pub names_of : Members → List (List ℕ)
names_of no_members = []
names_of (member name d ms) = name ∷ names_of ms

-- each name comes before those after it in byte order, so no two are equal
abbrev pub NamesRise : List (List ℕ) → Type 0
NamesRise names = IsStrictlySortedBy (slice_cmp nat_cmp) names

-- so it is in a value, and in all values inside it
abbrev mutual
  pub IsOrdered : Data → Type 0
  IsOrdered null = ⊤
  IsOrdered (boolean b) = ⊤
  IsOrdered (number n) = ⊤
  IsOrdered (string s) = ⊤
  IsOrdered (array ds) = AreOrdered ds
  IsOrdered (object ms) = NamesRise (names_of ms) × HaveOrder ms

  -- in each item
  pub AreOrdered : Items → Type 0
  AreOrdered no_items = ⊤
  AreOrdered (item d ds) = IsOrdered d × AreOrdered ds

  -- in the value of each member
  pub HaveOrder : Members → Type 0
  HaveOrder no_members = ⊤
  HaveOrder (member name d ms) = IsOrdered d × HaveOrder ms
