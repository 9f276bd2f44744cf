-- The code's tables say what the definitions say.
use Rattle.std.proofs.Common.{rules, ◌≡◌, ℕ, Bool, true, false, List, [], ◌∷◌, map, find, refl, ◌∙◌, Option, option_map, codes}
use Rattle.std.specs.List.{AllByRecursion, list_any, slice_get}
use Rattle.std.specs.Str.{bytes_eq}
use Rattle.qo_values.specs.Kinds.{type_name}
use Rattle.qo_values.specs.declared.kinds.TypeId.{TypeId}
use Rattle.qo_values.specs.contracts.kinds.TypeIdPartialEq.TheImpl.{ghosts}
use Rattle.qo_values.proofs.EachLemmas.{each}
use Rattle.qo_model.specs.Types.{TypeInfo, types, chain, is_a, parent_of, type_named}
use Rattle.qo_types.specs.Rows.{type_ids}

-- the first type of a name, by the types or by their rows
abbrev among : List TypeInfo → List ℕ → Option TypeId
among rs name = find (λ t. bytes_eq (type_name t) name) (map (λ (r : TypeInfo). r.id) rs)

abbrev row_among : List TypeInfo → List ℕ → Option TypeId
row_among rs name = option_map (λ (r : TypeInfo). r.id) (find (λ r. bytes_eq (type_name r.id) name) rs)

named_among : (rs : List TypeInfo) (name : List ℕ) → among rs name ≡ row_among rs name
named_among [] name = refl
named_among (r ∷ rs) name = go (bytes_eq (type_name r.id) name) refl (named_among rs name)
  where
    go : (t : Bool) → bytes_eq (type_name r.id) name ≡ t → among rs name ≡ row_among rs name → among (r ∷ rs) name ≡ row_among (r ∷ rs) name
    go true h rest = rw h refl
    go false h rest = rw h rest

pub named_in : (name : List ℕ) → find (λ t. bytes_eq (type_name t) name) type_ids ≡ option_map (λ (r : TypeInfo). r.id) (type_named name)
named_in name = named_among types name

-- the parent of a type is next after it in its chain
pub parent_in : (t : TypeId) → slice_get (chain t) 1 ≡ parent_of t
unfolding types
parent_in = each (λ (t : TypeId). slice_get (chain t) 1 ≡ parent_of t) (search rules)

-- every type is one of objects
pub each_object : (t : TypeId) → is_a t (codes "object") ≡ true
unfolding types
each_object = each (λ (t : TypeId). is_a t (codes "object") ≡ true) (search rules)

-- a type is of the name of another one exactly where that is in its chain
pub derived : (t a : TypeId) → list_any (λ (y : TypeId). ghosts.eq y a) (chain t) ≡ is_a t (type_name a)
unfolding types
derived t a =
    each (λ (x : TypeId). list_any (λ (y : TypeId). ghosts.eq y x) (chain t) ≡ is_a t (type_name x))
    (each (λ (s : TypeId). AllByRecursion (λ (x : TypeId). list_any (λ (y : TypeId). ghosts.eq y x) (chain s) ≡ is_a s (type_name x)) type_ids) (search rules) t) a
