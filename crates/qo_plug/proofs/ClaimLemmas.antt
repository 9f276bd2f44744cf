-- The claims that the body of a device keeps which was made, placed and started are those of its place.
use Rattle.std.proofs.Common.{◌≡◌, refl, ap, sym, ◌∙◌, ℕ, List, Option, Some, None, option_map}
use Rattle.std.specs.Prelude.{option_and_then}
use Rattle.std.proofs.lemmas.Option.{same_Some}
use Rattle.qo_values.specs.declared.kinds.TypeId.{TypeId}
use Rattle.qo_claims.specs.Lists.{bus_slot}
use Rattle.qo_claims.specs.declared.claims.Claimed.TheVariants as on
use Rattle.qo_kinds.specs.declared.kept_set.KeptSet.{KeptSet}
use Rattle.qo_model.specs.Board.{Board}
use Rattle.qo_model.specs.Objects.{Given}
use Rattle.qo_model.specs.Plug.{Resources, range_of, resources_of}
use Rattle.qo_object.specs.Content.{Content, fresh}
use Rattle.qo_heap.specs.Objects.{Objects, content_of, with_edit}
use Rattle.qo_plug.specs.Resources.{IsChosen, backend_given, claims_given, ring_given}
use Rattle.qo_plug.specs.Drafts.{bare}
use Rattle.qo_plug.specs.Placement.{kept_in}
use Rattle.qo_properties.specs.KeptClaims.{SameClaims, kept_by}
use Rattle.qo_plug.specs.DeviceClaims.{kept_on}
use Rattle.qo_plug.specs.declared.resources.Memory.{Memory}
use Rattle.qo_plug.specs.declared.resources.Resources.{Resources as Chosen}
use Rattle.qo_plug.proofs.BodyLemmas.{given-kept}

-- the claims of the resources that were chosen are those of the device
fused : {A B C : Type 0} (f : A → B) (g : B → C) (o : Option A) → option_map (λ x. g (f x)) o ≡ option_map g (option_map f o)
fused f g None = refl
fused f g (Some x) = refl

pub chosen-claims : (b : Board) (t : TypeId) (bus : ℕ) (props : List Given) (c : Chosen) → IsChosen b t bus props c → kept_on bus c ≡ claims_given b t bus props
chosen-claims b t bus props c is =
    let slot : c.slot ≡ (resources_of b t bus props).slot = ap (λ (s : Resources). s.slot) (sym is.resources) in
    let ring : option_map on.Ring c.ring ≡ option_map on.Ring (ring_given t props) = ap (option_map on.Ring) is.ring in
    let backend : option_map (λ (m : Memory). on.Backend m.backend) c.memory ≡ option_map on.Backend (backend_given b t props) =
    fused (λ (m : Memory). m.backend) on.Backend c.memory ∙ ap (option_map on.Backend) is.backend in
    let range : option_map (λ (m : Memory). on.Range m.range) c.memory ≡ option_map on.Range (range_of b t props) =
    fused (λ (m : Memory). m.range) on.Range c.memory ∙ ap (λ (s : Resources). option_map on.Range s.range) (sym is.resources) in
    λ j. record { slot = Some (on.Slot (bus_slot bus (slot j))); ring = ring j; backend = backend j; range = range j }

-- a device as it was made keeps the claims that it is given
pub draft-keeps : (v w : Objects) (n : ℕ) (t : TypeId) (k : KeptSet) → option_map bare (content_of v n) ≡ Some (bare (fresh t))
    → SameClaims (with_edit n (kept_in k) v) w → kept_by w n ≡ Some k
draft-keeps v w n t k made same = same n ∙ given-kept v n k ∙ go (content_of v n) made
  where
    go : (o : Option Content) → option_map bare o ≡ Some (bare (fresh t)) → option_map (λ (c : Content). k) o ≡ Some k
    go None e = cc
    go (Some c) e = refl

-- and no path
pub draft-pathless : (t : TypeId) (x y : Option Content) → option_map bare x ≡ Some (bare (fresh t))
    → option_map (λ (c : Content). c.kept_path) y ≡ option_map (λ (c : Content). c.kept_path) x
    → option_and_then (λ (c : Content). c.kept_path) y ≡ None
draft-pathless t x None e same = refl
draft-pathless t None (Some d) e same = cc
draft-pathless t (Some c) (Some d) e same =
    let first : bare c ≡ bare (fresh t) = same_Some (bare c) (bare (fresh t)) e in
    same_Some d.kept_path c.kept_path same ∙ ap (λ (x : Content). x.kept_path) first
