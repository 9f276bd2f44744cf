-- Members by their names.
use Rattle.std.proofs.Common.{◌≡◌, ℕ, List, ◌∷◌, true, false, Option, Some, Bor, Ordering, Less, Equal, Greater, is_eq, bytes_eq, refl, sym, ◌∙◌, true≢false}
use Rattle.std.proofs.lemmas.Map.Text.{is_eq-slice_cmp}
use Rattle.std.specs.Cmp.Lexicographic.{slice_cmp}
use Rattle.std.specs.Ordering.{match_ordering, nat_cmp}
use Rattle.serde_json.specs.Data.{Data}
use Rattle.serde_json.specs.Find.{get_member}
use Rattle.qo_json.specs.View.{view, members_view}
use Rattle.qo_json.specs.declared.values.Json.{Json}

abbrev pub Member : Type 0
Member = Bor (List ℕ) × Json

found_at : (o : Ordering) (a b : Option Data) → is_eq o ≡ true → match_ordering o a b a ≡ b
found_at Less a b e = absurd (true≢false (sym e))
found_at Equal a b e = refl
found_at Greater a b e = absurd (true≢false (sym e))

passed_at : (o : Ordering) (a b : Option Data) → is_eq o ≡ false → match_ordering o a b a ≡ a
passed_at Less a b e = refl
passed_at Equal a b e = absurd (true≢false e)
passed_at Greater a b e = refl

-- a member of the name, and one of another
pub member_here : (name : List ℕ) (m : Member) (ms : List Member) → bytes_eq name m.0.now ≡ true → get_member name (members_view (m ∷ ms)) ≡ Some (view m.1)
member_here name m ms same = found_at (slice_cmp nat_cmp name m.0.now) _ _ (is_eq-slice_cmp name m.0.now ∙ same)

pub member_later : (name : List ℕ) (m : Member) (ms : List Member) → bytes_eq name m.0.now ≡ false
    → get_member name (members_view (m ∷ ms)) ≡ get_member name (members_view ms)
member_later name m ms other = passed_at (slice_cmp nat_cmp name m.0.now) _ _ (is_eq-slice_cmp name m.0.now ∙ other)
