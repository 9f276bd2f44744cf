-- The law: where canonical paths lead.
use Rattle.std.proofs.Common.{◌≡◌, refl, ap, sym, subst, ◌∙◌, rules, ℕ, ◌==◌, Bool, true, false, List, [], ◌∷◌, Option, Some, None, codes}
use Rattle.std.proofs.lemmas.Bool.{eqb-true}
use Rattle.std.proofs.lemmas.Option.{same_Some}
use Rattle.qo_model.proofs.Common.{option_map_or, ROOT_BIRTH, TypeId, Container, Board, Record, is_live, kind_of, record_of, is_a, is_of, types}
use Rattle.qo_values.proofs.EachLemmas.{each}
use Rattle.qo_model.specs.Paths.{canonical, components, found, is_absolute, path_down_to, resolve, walk}
use Rattle.qo_sound.proofs.FirmBoardLemmas.{WellFormed}
use Rattle.qo_sound.proofs.ViewLemmas.{rest-from_sound}
use Rattle.qo_sound.specs.TreeKept.{SoundTree}
use Rattle.qo_sound_devices.proofs.LocationLemmas.{place-listed}
use Rattle.qo_sound_devices.proofs.PlacesLemmas.{child-live}
use Rattle.qo_ways.specs.Ways.{HasSteps, IsInOrder, WaysLaw}
use Rattle.qo_ways.proofs.NameLemmas.{each_named}
use Rattle.qo_ways.proofs.WayLemmas.{Below, below-root, root-components, steps_lead}

firm-of : (b : Board) → SoundTree b → WellFormed b
firm-of b tree = (rest-from_sound b tree).used.firm

-- every object is of the type of objects
each-object : (t : TypeId) → is_a t (codes "object") ≡ true
unfolding types
each-object = each (λ (t : TypeId). is_a t (codes "object") ≡ true) (search rules)

live-object : (b : Board) (n : ℕ) → is_live b n ≡ true → is_of b (codes "object") n ≡ true
live-object b n e = go (record_of b n) refl
  where
    go : (o : Option Record) → record_of b n ≡ o → is_of b (codes "object") n ≡ true
    go None q = let clash : false ≡ true = rw q at e in absurd (cc)
    go (Some r) q = rw q (each-object r.kind)

-- an absolute path that leads to an object resolves to it
resolves : (b : Board) (n : ℕ) (path : List ℕ) → is_absolute path ≡ true → walk b ROOT_BIRTH (components path) ≡ Some n
    → is_of b (codes "object") n ≡ true → resolve b path (codes "object") ≡ found n
resolves b n path absolute leads its = rw (absolute, leads, its) refl

leads : (b : Board) → IsInOrder b → (n : ℕ) (path : List ℕ) → canonical b n ≡ Some path → resolve b path (codes "object") ≡ found n
leads b h n path e = go (n == ROOT_BIRTH) refl
  where
    firm : WellFormed b
    firm = firm-of b h.devices.tree

    go : (t : Bool) → (n == ROOT_BIRTH) ≡ t → resolve b path (codes "object") ≡ found n
    go true p =
        let here : Some (codes "/") ≡ Some path = rw p at e in
        let is : codes "/" ≡ path = same_Some (codes "/") path here in
        let root : n ≡ ROOT_BIRTH = eqb-true n ROOT_BIRTH p in
        let its : kind_of b ROOT_BIRTH ≡ Some Container = h.devices.places.1.rooted.root in
        let object : is_of b (codes "object") ROOT_BIRTH ≡ true =
        ap (λ (o : Option TypeId). option_map_or (λ (t : TypeId). is_a t (codes "object")) o false) its ∙ each-object Container in
        subst (λ (m : ℕ). resolve b path (codes "object") ≡ found m) (sym root)
        (subst (λ (q : List ℕ). resolve b q (codes "object") ≡ found ROOT_BIRTH) is
        (resolves b ROOT_BIRTH (codes "/") refl (ap (walk b ROOT_BIRTH) root-components) object))
    go false p =
        let down : path_down_to b n ≡ Some path = rw p at e in
        let below : Below b n path = below-root b n path p down in
        let live : is_live b n ≡ true = child-live b firm below.parent.0 n (place-listed b firm n below.parent below.place) in
        resolves b n path below.absolute (steps_lead b firm (each_named b h) n path down) (live-object b n live)

pub ways_lem : WaysLaw
ways_lem = record { steps = λ b tree steps n q e. steps_lead b (firm-of b tree) steps n q e; named = each_named; canonical_leads = leads }
