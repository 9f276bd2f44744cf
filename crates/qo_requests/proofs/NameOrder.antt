-- The names of members, which rise in byte order.
use Rattle.std.proofs.Common.{◌≡◌, ℕ, List, [], ◌∷◌, map, refl, ap, subst}
use Rattle.qo_json.proofs.MemberLemmas.{Member}
use Rattle.qo_json.specs.Order.{names_of}
use Rattle.qo_json.specs.View.{members_view}
use Rattle.qo_values.specs.PropertyLists.{NamesRise}

-- the names of members
abbrev pub names_left : List Member → List (List ℕ)
names_left ms = map (λ (m : Member). m.0.now) ms

same_names : (ms : List Member) → names_of (members_view ms) ≡ names_left ms
same_names [] = refl
same_names (m ∷ ms) = ap (λ names. m.0.now ∷ names) (same_names ms)

-- they rise as those of the members that they stand for do
pub names_rise : (ms : List Member) → NamesRise (names_of (members_view ms)) → NamesRise (names_left ms)
names_rise ms rise = subst NamesRise (same_names ms) rise
