-- The lines of types, one after another.
use Rattle.std.proofs.Common.{rules, ◌≡◌, ℕ, ◌+◌, ◌<◌, true, List, [], ◌∷◌, ◌++◌, length, get_or, map, filter_map, flat_map, take, append-nil, codes, Bor}
use Rattle.std.proofs.Common.{refl, sym, ◌∙◌, ap, arith, append_assoc, if◌then◌else◌, Result, Ok, Err, IfOk, OnOk, is_ok}
use Rattle.std.proofs.lemmas.List.{take_more}
use Rattle.std.proofs.lemmas.List.Concat.{flat_map-append}
use Rattle.std.proofs.lemmas.List.Elements.{filter_map-append}
use Rattle.std.specs.List.{join_by, join_with_byte}
use Rattle.qo_values.specs.declared.kinds.TypeId.{TypeId}
use Rattle.qo_model.specs.Types.{TypeInfo, names_text, info_of, type_line, types}
use Rattle.qo_types.specs.Rows.{listed}
use Rattle.qo_values.proofs.EachLemmas.{each}
use Rattle.compose.specs.Types.{line_told, type_lines}

-- what names that are lent say
abbrev told : List (Bor (List ℕ)) → List (List ℕ)
told = map (λ (y : Bor (List ℕ)). y.now)

abbrev with_commas : List (Bor (List ℕ)) → List ℕ
with_commas = join_by (λ (y : Bor (List ℕ)). y.now) (codes ",")

-- names with commas between them
joined : (x : Bor (List ℕ)) (xs : List (Bor (List ℕ))) → with_commas (x ∷ xs) ≡ join_with_byte 44 (told (x ∷ xs))
joined x [] = append-nil x.now
joined x (y ∷ xs) = ap (λ (l : List ℕ). x.now ++ 44 ∷ l) (joined y xs)

pub names_joined : (xs : List (Bor (List ℕ))) → 0 < length xs → with_commas xs ≡ names_text (told xs)
names_joined [] some = absurd (omega (arith, some))
names_joined (x ∷ xs) some = joined x xs

-- the lines of some rows, and of some types
abbrev row_lines : List TypeInfo → List ℕ
row_lines rows = flat_map type_line rows

abbrev lines : List TypeId → List ℕ
lines ids = row_lines (filter_map info_of ids)

lines_append : (xs ys : List TypeId) → lines (xs ++ ys) ≡ lines xs ++ lines ys
lines_append xs ys =
    ap row_lines (filter_map-append info_of xs ys)
    ∙ flat_map-append type_line (filter_map info_of xs) (filter_map info_of ys)

-- a line more
pub lines_more : (ids : List TypeId) (i : ℕ) (d : TypeId) (before after : List ℕ) →
    i < length ids → before ≡ lines (take i ids) → after ≡ before ++ lines (get_or ids i d ∷ []) →
    after ≡ lines (take (i + 1) ids)
lines_more ids i d before after within is more =
    more
    ∙ ap (λ (l : List ℕ). l ++ lines (get_or ids i d ∷ [])) is
    ∙ sym (ap lines (take_more ids i d within) ∙ lines_append (take i ids) (get_or ids i d ∷ []))

-- the types that are of `object` are all types
pub all_are_objects : filter_map info_of (listed (codes "object") true) ≡ types
unfolding types
all_are_objects = refl

-- the lines of all that is of `object`
pub all_lines_put : {V E : Type 0} (bytes : V → List ℕ) (r : Result V E) (ids listed_ids : List TypeId) →
    ids ≡ listed_ids → listed_ids ≡ listed (codes "object") true →
    IfOk r (λ text. bytes text ≡ lines ids) → IfOk r (λ text. bytes text ≡ type_lines)
all_lines_put bytes (Ok text) ids listed_ids same all is = is ∙ ap lines (same ∙ all) ∙ ap row_lines all_are_objects
all_lines_put bytes (Err e) ids listed_ids same all is = is

-- the line of a type is that of its row
pub line_is : (t : TypeId) → line_told t ++ 10 ∷ [] ≡ flat_map type_line (filter_map info_of (t ∷ []))
unfolding types
line_is = each (λ (t : TypeId). line_told t ++ 10 ∷ [] ≡ flat_map type_line (filter_map info_of (t ∷ []))) (search rules)

-- a line and its end, after what there is
pub line_added : {E : Type 0} (t : TypeId) (r : Result Unit E) (old line text mid after : List ℕ) →
    line ≡ line_told t → text ≡ line → mid ≡ old ++ text → after ≡ (if is_ok r then mid ++ 10 ∷ [] else mid) →
    OnOk r (after ≡ old ++ flat_map type_line (filter_map info_of (t ∷ [])))
line_added t (Ok u) old line text mid after is same put pushed =
    pushed
    ∙ ap (λ (l : List ℕ). l ++ 10 ∷ []) (put ∙ ap (λ (l : List ℕ). old ++ l) (same ∙ is))
    ∙ append_assoc old (line_told t) (10 ∷ [])
    ∙ ap (λ (l : List ℕ). old ++ l) (line_is t)
line_added t (Err e) old line text mid after is same put pushed = tt
