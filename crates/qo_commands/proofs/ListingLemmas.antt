-- Lists of types and of properties, as they are made one after another.
use Rattle.std.proofs.Common.{rules, ◌≡◌, refl, ap, sym, ◌∙◌, ℕ, ◌+◌, ◌<◌, ◌≤◌, Bool, true, false, cond, if◌then◌else◌, List, [], ◌∷◌, ◌++◌, map, filter, filter_map, flat_map, length, slice_get, take, get_or, zero, suc, codes, Option, Some, None, option_map, arith}
use Rattle.std.proofs.lemmas.List.{map-append, take_more, take_all}
use Rattle.std.proofs.lemmas.List.Concat.{flat_map-append}
use Rattle.std.proofs.lemmas.List.Elements.{filter_map-append}
use Rattle.serde_json.specs.Data.{Data, array}
use Rattle.serde_json.specs.View.{items_of}
use Rattle.qo_values.specs.declared.codes.Code.TheVariants.{E20, E22}
use Rattle.qo_values.specs.declared.kinds.TypeId.{TypeId}
use Rattle.qo_values.proofs.EachLemmas.{each}
use Rattle.qo_model.specs.Board.{Board}
use Rattle.qo_model.specs.Objects.{may_add}
use Rattle.qo_model.specs.Types.{TypeInfo, is_a, parent_of, info_of, slots_of, types}
use Rattle.qo_types.specs.Rows.{is_abstract}
use Rattle.qo_model.specs.declared.properties.Property.{Property}
use Rattle.qo_model.specs.RowNames.{property_name}
use Rattle.qo_commands.specs.Commands.{adding_properties, device_properties, is_for_adding, role_word, property_data, property_words, refused_with, returned, type_data}
use Rattle.qo_commands.specs.Views.{row_data, words_for_adding}

-- the row of a type, by the parts that are told
pub row_told : (t : TypeId) → option_map type_data (info_of t) ≡ Some (row_data t (is_abstract t) (parent_of t))
unfolding types
row_told = each (λ (t : TypeId). option_map type_data (info_of t) ≡ Some (row_data t (is_abstract t) (parent_of t))) (search rules)

-- a type more
pub types-more : (ids : List TypeId) (i : ℕ) (d : TypeId) (before after : List Data) → i < length ids → before ≡ map type_data (filter_map info_of (take i ids))
    → after ≡ before ++ map type_data (filter_map info_of (get_or ids i d ∷ [])) → after ≡ map type_data (filter_map info_of (take (i + 1) ids))
types-more ids i d before after within is more =
    let t = get_or ids i d in
    more
    ∙ ap (λ (l : List Data). l ++ map type_data (filter_map info_of (t ∷ []))) is
    ∙ sym (ap (λ (l : List TypeId). map type_data (filter_map info_of l)) (take_more ids i d within) ∙ ap (λ (l : List TypeInfo). map type_data l)
    (filter_map-append info_of (take i ids) (t ∷ [])) ∙ map-append type_data (filter_map info_of (take i ids)) (filter_map info_of (t ∷ [])))

pub types-all : (ids : List TypeId) (i : ℕ) → i ≤ length ids → length ids ≤ i
    → map type_data (filter_map info_of (take i ids)) ≡ map type_data (filter_map info_of ids)
types-all ids i low high = ap (λ (l : List TypeId). map type_data (filter_map info_of l)) (take_all i ids high)

-- the properties that are written by the adding command, one after another
pub words-all : (rows : List Property) → flat_map words_for_adding rows ≡ map property_words (filter is_for_adding rows)
words-all [] = refl
words-all (p ∷ rows) = by (is_for_adding p) (words-all rows)
  where
    by : (b : Bool) → flat_map words_for_adding rows ≡ map property_words (filter is_for_adding rows) → (if b then property_words p ∷ [] else [])
        ++ flat_map words_for_adding rows ≡ map property_words (cond b (p ∷ filter is_for_adding rows) (filter is_for_adding rows))
    by true rest = ap (λ (l : List (List ℕ × List ℕ)). property_words p ∷ l) rest
    by false rest = rest

-- the properties of a named type, by its number
pub device-listed : (b : Board) (row : Option TypeInfo) (t : TypeId) → Some t ≡ option_map (λ (r : TypeInfo). r.id) row → is_a t (codes "device") ≡ true
    → returned b (array (items_of (map property_data (adding_properties t)))) ≡ device_properties b row
device-listed b None t is of = cc
device-listed b (Some row) t is of = let same : t ≡ row.id = cc is in rw (← same, of) refl

pub device-other : (b : Board) (row : Option TypeInfo) (t : TypeId) → Some t ≡ option_map (λ (r : TypeInfo). r.id) row → is_a t (codes "device") ≡ false
    → refused_with b E22 ≡ device_properties b row
device-other b None t is of = cc
device-other b (Some row) t is of = let same : t ≡ row.id = cc is in rw (← same, of) refl

pub device-none : (b : Board) (row : Option TypeInfo) → None ≡ option_map (λ (r : TypeInfo). r.id) row → refused_with b E20 ≡ device_properties b row
device-none b None is = refl
device-none b (Some row) is = cc

-- a property more
pub rows-more : (rows slots : List Property) → rows ≡ slots → (i : ℕ) (d : Property) (before after : List Data) → i < length rows
    → before ≡ map property_data (flat_map words_for_adding (take i slots)) → after ≡ before ++ map property_data (words_for_adding (get_or rows i d))
    → after ≡ map property_data (flat_map words_for_adding (take (i + 1) slots))
rows-more rows slots same i d before after within is more =
    let p = get_or rows i d in
    more
    ∙ ap (λ (l : List Data). l ++ map property_data (words_for_adding p))
    (is ∙ ap (λ (l : List Property). map property_data (flat_map words_for_adding (take i l))) (sym same))
    ∙ sym (ap (λ (l : List Property). map property_data (flat_map words_for_adding l)) (take_more rows i d within)
    ∙ ap (λ (l : List (List ℕ × List ℕ)). map property_data l)
    (flat_map-append words_for_adding (take i rows) (p ∷ [])
    ∙ ap (λ (l : List (List ℕ × List ℕ)). flat_map words_for_adding (take i rows) ++ l) (append-none (words_for_adding p)))
    ∙ map-append property_data (flat_map words_for_adding (take i rows)) (words_for_adding p))
    ∙ ap (λ (l : List Property). map property_data (flat_map words_for_adding (take (i + 1) l))) same
  where
    append-none : (l : List (List ℕ × List ℕ)) → l ++ [] ≡ l
    append-none [] = refl
    append-none (x ∷ l) = ap (λ (m : List (List ℕ × List ℕ)). x ∷ m) (append-none l)

pub rows-all : (rows : List Property) (t : TypeId) → rows ≡ slots_of t → (i : ℕ) → length rows ≤ i
    → map property_data (flat_map words_for_adding (take i (slots_of t))) ≡ map property_data (adding_properties t)
rows-all rows t same i high =
    let past : length (slots_of t) ≤ i = omega (arith, ap (λ (l : List Property). length l) same) in
    ap (λ (l : List Property). map property_data (flat_map words_for_adding l)) (take_all i (slots_of t) past)
    ∙ ap (λ (l : List (List ℕ × List ℕ)). map property_data l) (words-all (slots_of t))

-- a property is told of where the adding command writes it
pub row-pushed : (p : Property) (text : List ℕ) (before after : List Data) → may_add p.access ≡ true → text ≡ role_word p.role
    → after ≡ before ++ property_data (property_name p.name, text) ∷ [] → after ≡ before ++ map property_data (words_for_adding p)
row-pushed p text before after may is more = rw (may, ← is) more

-- one more of a list's front, and all of it
module _ {X : Type 0} where
  front-next : (xs : List X) (i : ℕ) (x : X) → Some x ≡ slice_get xs i → take (suc i) xs ≡ take i xs ++ x ∷ []
  front-next [] i x is = cc
  front-next (y ∷ xs) zero x is = let same : x ≡ y = cc is in ap (λ (z : X). z ∷ []) (sym same)
  front-next (y ∷ xs) (suc i) x is = ap (λ (l : List X). y ∷ l) (front-next xs i x is)

  pub front-more : (xs : List X) (i : ℕ) (x : X) → Some x ≡ slice_get xs i → take (i + 1) xs ≡ take i xs ++ x ∷ []
  front-more xs i x is = let next : i + 1 ≡ suc i = omega arith in ap (λ (k : ℕ). take k xs) next ∙ front-next xs i x is

  pub front-all : (xs : List X) (i : ℕ) → None ≡ slice_get xs i → take i xs ≡ xs
  front-all [] zero is = refl
  front-all [] (suc i) is = refl
  front-all (y ∷ xs) zero is = cc
  front-all (y ∷ xs) (suc i) is = ap (λ (l : List X). y ∷ l) (front-all xs i is)
