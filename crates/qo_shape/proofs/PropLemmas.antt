-- Properties, member by member.
use Rattle.std.proofs.Common.{◌≡◌, ℕ, Bool, true, false, cond, List, [], ◌∷◌, ◌++◌, codes, map, refl, sym, ap, ◌∙◌, append_assoc, append-nil, subst}
use Rattle.std.proofs.Common.{Option, None, Some, option_map}
use Rattle.std.specs.Str.{bytes_eq}
use Rattle.qo_json.proofs.MemberLemmas.{Member}
use Rattle.qo_json.specs.Order.{names_of}
use Rattle.qo_json.specs.View.{members_view, view}
use Rattle.qo_values.specs.PlainValues.{plain_of}
use Rattle.qo_values.specs.PropertyLists.{NamesRise}
use Rattle.qo_values.specs.declared.properties.Val.{Val}
use Rattle.qo_shape.proofs.ReadLemmas.{Given}
use Rattle.qo_save.specs.Shape.{also, props_of}

-- the names of members, which rise as those of what they stand for do
abbrev pub names_left : List Member → List (List ℕ)
names_left ms = map (λ (m : Member). m.0.now) ms

same-names : (ms : List Member) → names_of (members_view ms) ≡ names_left ms
same-names [] = refl
same-names (m ∷ ms) = ap (λ names. m.0.now ∷ names) (same-names ms)

pub names-rise : (ms : List Member) → NamesRise (names_of (members_view ms)) → NamesRise (names_left ms)
names-rise ms rise = subst NamesRise (same-names ms) rise

-- all are those read, and after them those left
abbrev pub LeftProps : List Member → List Given → List Member → Type 0
LeftProps all props left = props_of (members_view all) ≡ option_map (λ (ps : List Given). props ++ ps) (props_of (members_view left))

pub props-first : (ms : List Member) → LeftProps ms [] ms
props-first ms = go (props_of (members_view ms))
  where
    go : (o : Option (List Given)) → o ≡ option_map (λ (ps : List Given). ps) o
    go None = refl
    go (Some ps) = refl

one-more : (m : Member) (ms : List Member) → bytes_eq m.0.now (codes "slot") ≡ false
    → props_of (members_view (m ∷ ms)) ≡ also (option_map (λ (v : Val) (ps : List Given). (m.0.now, v) ∷ ps) (plain_of (view m.1))) (props_of (members_view ms))
one-more m ms other =
    ap (λ (t : Bool). cond t None (also (option_map (λ (v : Val) (ps : List Given). (m.0.now, v) ∷ ps) (plain_of (view m.1))) (props_of (members_view ms))))
    other

pub props-next : (all : List Member) (props : List Given) (m : Member) (ms : List Member) (v : Val) → LeftProps all props (m ∷ ms)
    → bytes_eq m.0.now (codes "slot") ≡ false → plain_of (view m.1) ≡ Some v → LeftProps all (props ++ (m.0.now, v) ∷ []) ms
props-next all props m ms v was other is =
    was ∙ ap (option_map (λ (ps : List Given). props ++ ps)) (one-more m ms other
    ∙ ap (λ (o : Option Val). also (option_map (λ (x : Val) (ps : List Given). (m.0.now, x) ∷ ps) o) (props_of (members_view ms))) is)
    ∙ go (props_of (members_view ms))
  where
    go : (o : Option (List Given)) → option_map (λ (ps : List Given). props ++ ps) (option_map (λ (ps : List Given). (m.0.now, v) ∷ ps) o)
        ≡ option_map (λ (ps : List Given). (props ++ (m.0.now, v) ∷ []) ++ ps) o
    go None = refl
    go (Some ps) = ap Some (sym (append_assoc props ((m.0.now, v) ∷ []) ps))

pub props-slot : (all : List Member) (props : List Given) (m : Member) (ms : List Member) → LeftProps all props (m ∷ ms)
    → bytes_eq m.0.now (codes "slot") ≡ true → props_of (members_view all) ≡ None
props-slot all props m ms was is =
    was ∙ ap (λ (t : Bool). option_map (λ (ps : List Given). props ++ ps)
    (cond t None (also (option_map (λ (v : Val) (ps : List Given). (m.0.now, v) ∷ ps) (plain_of (view m.1))) (props_of (members_view ms))))) is

pub props-none : (all : List Member) (props : List Given) (m : Member) (ms : List Member) → LeftProps all props (m ∷ ms)
    → bytes_eq m.0.now (codes "slot") ≡ false → plain_of (view m.1) ≡ None → props_of (members_view all) ≡ None
props-none all props m ms was other is =
    was ∙ ap (option_map (λ (ps : List Given). props ++ ps)) (one-more m ms other
    ∙ ap (λ (o : Option Val). also (option_map (λ (x : Val) (ps : List Given). (m.0.now, x) ∷ ps) o) (props_of (members_view ms))) is)

pub props-last : (all : List Member) (props : List Given) → LeftProps all props [] → props_of (members_view all) ≡ Some props
props-last all props was = was ∙ ap Some (append-nil props)
