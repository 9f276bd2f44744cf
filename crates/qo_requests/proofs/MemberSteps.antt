-- Members that are read one by one.
use Rattle.std.proofs.Common.{◌≡◌, List, ◌∷◌, refl, true}
use Rattle.qo_json.proofs.MemberLemmas.{Member}
use Rattle.qo_json.specs.View.{members_view}
use Rattle.qo_requests.specs.Arguments.{is_named}
use Rattle.qo_requests.specs.Values.{properties_in}
use Rattle.qo_requests.specs.declared.arguments.Argument.{Argument}

-- a member that a row names is no property
pub named_passed : (rows : List Argument) (e : Member) (es : List Member) → is_named rows e.0.now ≡ true
    → properties_in rows (members_view (e ∷ es)) ≡ properties_in rows (members_view es)
named_passed rows e es named = rw named refl
