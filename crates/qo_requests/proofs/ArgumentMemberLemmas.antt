-- The members that rows name, read in one pass.
use Rattle.std.proofs.Common.{◌≡◌, arith, ℕ, Bool, true, false, List, [], ◌∷◌, ◌≤◌, length, refl, sym, ◌∙◌, ap, Option, None, Some, option_map, if◌then◌else◌}
use Rattle.std.specs.Prelude.{◌&&◌, ◌||◌, slice_get}
use Rattle.std.specs.Option.{option_or}
use Rattle.qo_json.proofs.MemberLemmas.{Member}
use Rattle.serde_json.specs.Data.{Data, Members, no_members, member}
use Rattle.qo_json.specs.View.{members_view, view}
use Rattle.qo_requests.specs.Arguments.{field_of, is_named, fits, all_fit, all_named, all_plain, all_stand, stands}
use Rattle.qo_requests.specs.Fields.{argument, field_name}
use Rattle.qo_requests.specs.ArgumentMembers.{is_fit_by, member_of, names, part_of, stands_by}
use Rattle.qo_requests.specs.Values.{properties_in}
use Rattle.qo_requests.specs.declared.arguments.Argument.{Argument}
use Rattle.qo_requests.specs.declared.arguments.Argument.TheVariants.{Needed, Optional}
use Rattle.qo_requests.specs.declared.arguments.ArgumentType.TheVariants as kind
use Rattle.qo_requests.specs.declared.fields.Field.{Field}
use Rattle.qo_requests.proofs.MemberLemmas.{found_by, named_by_three}

-- the member of a row is that among those read, or else among those left
abbrev pub IsJoined : Option Argument → List Member → Option Data → List Member → Type 0
IsJoined row all before left = member_of row (members_view all) ≡ option_or before (member_of row (members_view left))

-- the part of a row of a name is the argument of that name
pub part_named : (row : Option Argument) (field : Field) (d : Data) → option_map field_of row ≡ Some field → part_of row d ≡ argument field d
part_named None field d is = cc
part_named (Some r) field d is = let same : field_of r ≡ field = cc in ap (λ (f : Field). argument f d) same

-- the member of a row is among those read, or else among those left
pub part_on : (row : Option Argument) (whole before now : Option Data) (is_it : Bool) (name : List ℕ) (left : List Member) (e : Member) (es : List Member)
    → whole ≡ option_or before (member_of row (members_view left)) → left ≡ e ∷ es → name ≡ e.0.now → is_it ≡ names row name
    → now ≡ (if is_it then option_or before (Some (view e.1)) else before)
    → whole ≡ option_or now (member_of row (members_view es))
part_on None whole before now is_it name left e es was steps same it is =
    was ∙ ap (λ (o : Option Data). option_or o None) (sym (is ∙ ap (λ (t : Bool). if t then option_or before (Some (view e.1)) else before) it))
part_on (Some r) whole before now is_it name left e es was steps same it is =
    found_by (field_name (field_of r)) whole before now is_it name left e es was steps same it is

-- each that no row names is plain among those read, and among those left
and_all : (before here left : Bool) → (before && (here && left)) ≡ ((before && here) && left)
and_all true here left = refl
and_all false here left = refl

plain_on : (rows : List Argument) (whole before now : Bool) (name : List ℕ) (left : List Member) (e : Member) (es : List Member)
    → whole ≡ (before && all_plain rows (members_view left)) → left ≡ e ∷ es → name ≡ e.0.now
    → now ≡ (before && (is_named rows name || fits kind.Plain (view e.1)))
    → whole ≡ (now && all_plain rows (members_view es))
plain_on rows whole before now name left e es was steps same is =
    let rest : Bool = all_plain rows (members_view es) in
    was ∙ ap (λ (l : List Member). before && all_plain rows (members_view l)) steps
    ∙ and_all before (is_named rows e.0.now || fits kind.Plain (view e.1)) rest
    ∙ ap (λ (n : List ℕ). (before && (is_named rows n || fits kind.Plain (view e.1))) && rest) (sym same)
    ∙ ap (λ (t : Bool). t && rest) (sym is)

pub plain_by : (rows : List Argument) (whole before now named first second third : Bool) (name : List ℕ) (left : List Member) (e : Member) (es : List Member)
    → length rows ≤ 3 → whole ≡ (before && all_plain rows (members_view left)) → left ≡ e ∷ es → name ≡ e.0.now
    → first ≡ names (slice_get rows 0) name → second ≡ names (slice_get rows 1) name → third ≡ names (slice_get rows 2) name
    → named ≡ ((first || second) || third) → now ≡ (before && (named || fits kind.Plain (view e.1)))
    → whole ≡ (now && all_plain rows (members_view es))
plain_by rows whole before now named first second third name left e es few was steps same f s t n is =
    plain_on rows whole before now name left e es was steps same
    (is ∙ ap (λ (b : Bool). before && (b || fits kind.Plain (view e.1))) (n ∙ rw (f, s, t, named_by_three rows name few) refl))

-- where rows name all members, none is a property
by_name : (rows : List Argument) (name : List ℕ) (d : Data) (ms : Members) (t : Bool) → is_named rows name ≡ t
    → (t && all_named rows ms) ≡ true → (all_named rows ms ≡ true → properties_in rows ms ≡ []) → properties_in rows (member name d ms) ≡ []
by_name rows name d ms true is all later = rw is (later all)
by_name rows name d ms false is all later = cc

pub none_beside : (rows : List Argument) (ms : Members) → all_named rows ms ≡ true → properties_in rows ms ≡ []
none_beside rows no_members all = refl
none_beside rows (member name d ms) all = by_name rows name d ms (is_named rows name) refl all (none_beside rows ms)

-- what at most three rows ask for, row by row
stands_is : (r : Argument) (d : Data) → stands r d ≡ stands_by (Some r) (part_of (Some r) d)
stands_is (Needed field kind) d = refl
stands_is (Optional field kind) d = refl

and_and : (t u w : Bool) → (t && (u && (w && true))) ≡ ((t && u) && w)
and_and true true true = refl
and_and true true false = refl
and_and true false w = refl
and_and false u w = refl

stood : (rows : List Argument) (d : Data) → length rows ≤ 3 → all_stand rows d
    ≡ ((stands_by (slice_get rows 0) (part_of (slice_get rows 0) d) && stands_by (slice_get rows 1) (part_of (slice_get rows 1) d))
    && stands_by (slice_get rows 2) (part_of (slice_get rows 2) d))
stood [] d few = refl
stood (r ∷ []) d few = rw (stands_is r d) (and_and (stands_by (Some r) (part_of (Some r) d)) true true)
stood (r ∷ s ∷ []) d few = rw (stands_is r d, stands_is s d) (and_and _ (stands_by (Some s) (part_of (Some s) d)) true)
stood (r ∷ s ∷ t ∷ []) d few = rw (stands_is r d, stands_is s d, stands_is t d) (and_and _ _ (stands_by (Some t) (part_of (Some t) d)))
stood (r ∷ s ∷ t ∷ u ∷ rows) d few = absurd (omega arith)

pub stand_by_three : (rows : List Argument) (d : Data) (p q w : Option Data) → length rows ≤ 3
    → p ≡ part_of (slice_get rows 0) d → q ≡ part_of (slice_get rows 1) d → w ≡ part_of (slice_get rows 2) d
    → ((stands_by (slice_get rows 0) p && stands_by (slice_get rows 1) q) && stands_by (slice_get rows 2) w) ≡ all_stand rows d
stand_by_three rows d p q w few first second third = rw (first, second, third) (sym (stood rows d few))

fit : (rows : List Argument) (d : Data) → length rows ≤ 3 → all_fit rows d
    ≡ ((is_fit_by (slice_get rows 0) (part_of (slice_get rows 0) d) && is_fit_by (slice_get rows 1) (part_of (slice_get rows 1) d))
    && is_fit_by (slice_get rows 2) (part_of (slice_get rows 2) d))
fit [] d few = refl
fit (r ∷ []) d few = and_and (is_fit_by (Some r) (part_of (Some r) d)) true true
fit (r ∷ s ∷ []) d few = and_and (is_fit_by (Some r) (part_of (Some r) d)) (is_fit_by (Some s) (part_of (Some s) d)) true
fit (r ∷ s ∷ t ∷ []) d few =
    and_and (is_fit_by (Some r) (part_of (Some r) d)) (is_fit_by (Some s) (part_of (Some s) d)) (is_fit_by (Some t) (part_of (Some t) d))
fit (r ∷ s ∷ t ∷ u ∷ rows) d few = absurd (omega arith)

pub fit_by_three : (rows : List Argument) (d : Data) (p q w : Option Data) → length rows ≤ 3
    → p ≡ part_of (slice_get rows 0) d → q ≡ part_of (slice_get rows 1) d → w ≡ part_of (slice_get rows 2) d
    → ((is_fit_by (slice_get rows 0) p && is_fit_by (slice_get rows 1) q) && is_fit_by (slice_get rows 2) w) ≡ all_fit rows d
fit_by_three rows d p q w few first second third = rw (first, second, third) (sym (fit rows d few))
