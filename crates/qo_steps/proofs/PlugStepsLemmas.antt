-- The steps by which a device is added, each with what is known where it is taken: what these keep, adding it keeps.
use Rattle.std.proofs.Common.{◌≡◌, refl, ap, ◌∙◌, ℕ, suc, ◌+◌, ◌≤◌, true, false, List, [], ◌∷◌, ◌++◌, filter_map, length, codes, Option, Some, None, length-append, arith}
use Rattle.qo_model.proofs.Common.{Contains, AllByRecursion, Realize, TypeId, Device, LIVE_OBJECTS_MAX, PropType, Range, Board, Notice, Slot, plain, child, strong, weak, alias, add, fresh, set, with_changed, clock_of, kid_name, first_value, fresh_record, canonical, Resources, Wanted, acted_all, addressed_at, aliased, bus_births, clocked, counted, drafted, fitted, further_in, joined, name_for, objects_in, owned, parent_for, property_made, properties_made, source_for, started, stood, valued, with_body_of, with_device, with_given, with_kid, with_new, with_path, with_plugged, with_source, edit, plugged, post, property_name, slots_of}
use Rattle.qo_model.specs.declared.properties.First.{First}
use Rattle.qo_model.specs.declared.properties.Property.{Property}
use Rattle.qo_model.specs.declared.properties.PropertyRole.{PropertyRole}
use Rattle.std.proofs.lemmas.List.{length-map}
use Rattle.std.proofs.lemmas.List.Elements.{All-contains_itself, recursion_from_All}
use Rattle.qo_values.specs.declared.properties.Val.TheVariants as val
use Rattle.qo_model.specs.declared.properties.PropertyRole.TheVariants as row
use Rattle.qo_sound.proofs.DeviceScopeLemmas.{devices_stay_lem}
use Rattle.qo_steps.specs.Steps.{HasNoticeRoom, HasRoom, announced}
use Rattle.qo_steps.proofs.ActingLemmas.{IsSteady, KeepsCalm, SameThere, acted_all-by, acted_all-there, edit-there, plugged-by, plugged-there}
use Rattle.qo_steps.proofs.NamedLemmas.{Named, link-by, set-by}

-- a property of the type of a new object n comes to a slot of it: a value, an empty link, a further object as its child, or an alias of one that is there
pub record DraftSteps (P : Board → Type 0) (n : ℕ) (t : TypeId) : Type 0 where
  pub value : (p : Property) → Contains (slots_of t) p → (type : PropType) (first : First) → p.role ≡ row.Plain type first → (c : Board) → P c
      → P (add n (property_name p.name) (plain (first_value t first)) c)
  pub holds : (p : Property) → Contains (slots_of t) p → (target : TypeId) → p.role ≡ row.Link target true → (c : Board) → P c
      → P (add n (property_name p.name) (strong target None) c)
  pub sees : (p : Property) → Contains (slots_of t) p → (target : TypeId) → p.role ≡ row.Link target false → (c : Board) → P c
      → P (add n (property_name p.name) (weak target None) c)
  pub makes : (p : Property) → Contains (slots_of t) p → (k : TypeId) → p.role ≡ row.Child k → (c : Board) → HasRoom c → P c
      → P (with_kid n (property_name p.name) k c)
  pub passes : (p : Property) → Contains (slots_of t) p → (m : ℕ) (property : List ℕ) (c : Board) → P c → P (add n (property_name p.name) (alias m property) c)

-- a device n that was made takes its place in its container and on its bus
pub record PlaceSteps (P : Board → Type 0) (b : Board) (n : ℕ) (a : Wanted) (resources : Resources) : Type 0 where
  -- its container and its bus have it
  pub contained : (c : Board) → P c → P (add (parent_for a.id) (name_for b a.id) (child n) c)
  pub hung : (c : Board) → P c → P (add resources.bus (kid_name resources.slot) (strong Device (Some n)) c)
  -- it has the values that were given, its slot and its bus, it is realized, and a DIMM has its address
  pub given : (c : Board) → P c → P (edit n (with_given b a.props) c)
  pub slotted : (i : ℕ) (c : Board) → Named c n i (codes "slot") → P c → P (set n i (val.Uint resources.slot) c)
  pub homed : (i : ℕ) (c : Board) → Named c n i (codes "parent_bus") → P c → P (edit n (with_changed (fitted c resources.bus) i) c)
  pub lit : (i : ℕ) (c : Board) → Named c n i (codes "realized") → P c → P (set n i (val.Bool true) c)
  pub addressed : (r : Range) (i : ℕ) (c : Board) → resources.range ≡ Some r → Named c n i (codes "addr") → P c → P (set n i (val.Uint r.at) c)
  pub bodied : (c : Board) → P c → P (edit n (with_body_of a.id resources.range) c)
  -- its clock goes by a source, and without an id it is counted
  pub sourced : (m i : ℕ) (c : Board) → clock_of c n ≡ Some m → Named c m i (codes "source") → P c
      → P (edit m (with_changed (fitted c (source_for b resources.bus)) i) c)
  pub counted : (c : Board) → a.id ≡ None → P c → P (record c { anonymous = suc c.anonymous })

-- it starts: it acts, with what is below it, its path is kept, and the guest is told
pub record StartSteps (P : Board → Type 0) (On : Board → ℕ → Type 0) (n : ℕ) : Type 0 where
  pub acts : KeepsCalm On P
  pub keeps_path : (c : Board) → P c → P (edit n (with_path (canonical c n)) c)
  pub announces : (c : Board) → On c n → HasNoticeRoom c → P c → P (announced n c)

-- there is room for the further objects of some properties
abbrev pub Fits : Board → List Property → Type 0
Fits c ps = length c.records + length (filter_map further_in ps) ≤ LIVE_OBJECTS_MAX

add-length : (n : ℕ) (name : List ℕ) (s : Slot) (c : Board) → length (add n name s c).records ≡ length c.records
unfolding add
add-length n name s c = length-map c.records _

module _ (P : Board → Type 0) (n : ℕ) (t : TypeId) (k : DraftSteps P n t) where
  rows-by : (ps : List Property) → AllByRecursion (Contains (slots_of t)) ps → (c : Board) → Fits c ps → P c → P (properties_made n t ps c)
  rows-by [] own c fits h = h
  rows-by (p ∷ ps) own c fits h = go p.role refl (rows-by ps own.1)
    where
      name : List ℕ
      name = property_name p.name

      more : (s : Slot) → Fits c ps → Fits (add n name s c) ps
      more s few = let same = add-length n name s c in omega (arith, few, same)

      passed : (property : List ℕ) (o : Option ℕ) → Fits c ps → ((d : Board) → Fits d ps → P d → P (properties_made n t ps d))
          → P (properties_made n t ps (aliased n name property o c))
      passed property None few rest = rest c few h
      passed property (Some m) few rest = rest _ (more (alias m property) few) (k.passes p own.0 m property c h)

      go : (kind : PropertyRole) → p.role ≡ kind → ((d : Board) → Fits d ps → P d → P (properties_made n t ps d))
          → P (properties_made n t ps (property_made n t name kind c))
      go (row.Plain type first) e rest =
          let few : Fits c ps = rw (further_in, e) at fits in
          rest _ (more (plain (first_value t first)) few) (k.value p own.0 type first e c h)
      go (row.Link target true) e rest =
          let few : Fits c ps = rw (further_in, e) at fits in
          rest _ (more (strong target None) few) (k.holds p own.0 target e c h)
      go (row.Link target false) e rest =
          let few : Fits c ps = rw (further_in, e) at fits in
          rest _ (more (weak target None) few) (k.sees p own.0 target e c h)
      go (row.Child kid) e rest =
          let few : length c.records + suc (length (filter_map further_in ps)) ≤ LIVE_OBJECTS_MAX = rw (further_in, e) at fits in
          let d : Board = with_new (fresh_record (c.born + 1) kid) c in
          let made : length d.records ≡ length c.records + 1 = length-append c.records (fresh_record (c.born + 1) kid ∷ []) in
          let same : length (with_kid n name kid c).records ≡ length d.records = add-length n name (child (c.born + 1)) d in
          rest _ (omega (arith, few, made, same)) (k.makes p own.0 kid e c (omega (arith, few)) h)
      go (row.Alias owner of) e rest = passed (property_name of) (owned c n (property_name owner)) (rw (further_in, e) at fits) rest

  -- all properties of the type
  pub draft-by : (c : Board) → Fits c (slots_of t) → P c → P (properties_made n t (slots_of t) c)
  draft-by c fits h = rows-by (slots_of t) (recursion_from_All (Contains (slots_of t)) (slots_of t) (All-contains_itself (slots_of t))) c fits h

module _ (P : Board → Type 0) (b : Board) (n : ℕ) (a : Wanted) (resources : Resources) (k : PlaceSteps P b n a resources) where
  by-address : (range : Option Range) → resources.range ≡ range → (c : Board) → P c → P (addressed_at n range c)
  by-address None e c h = h
  by-address (Some r) e c h = set-by P n (codes "addr") c h (val.Uint r.at) (λ i at. k.addressed r i c e at h)

  by-values : (c : Board) → P c → P (valued b n a.props resources c)
  by-values c h =
      let one : Board = edit n (with_given b a.props) c in
      let first : P one = k.given c h in
      let second = set-by P n (codes "slot") one first (val.Uint resources.slot) (λ i at. k.slotted i one at first) in
      let third = link-by P n (codes "parent_bus") _ second resources.bus (λ i at. k.homed i _ at second) in
      set-by P n (codes "realized") _ third (val.Bool true) (λ i at. k.lit i _ at third)

  by-source : (o : Option ℕ) (c : Board) → clock_of c n ≡ o → P c → P (with_source (source_for b resources.bus) o c)
  by-source None c e h = h
  by-source (Some m) c e h = link-by P m (codes "source") c h (source_for b resources.bus) (λ i at. k.sourced m i c e at h)

  by-count : (id : Option (List ℕ)) → a.id ≡ id → (c : Board) → P c → P (counted id c)
  by-count None e c h = k.counted c e h
  by-count (Some id) e c h = h

  pub place-by : (c : Board) → P c → P (counted a.id (clocked (source_for b resources.bus) n (stood b n a resources c)))
  place-by c h =
      let full : Board = addressed_at n resources.range (valued b n a.props resources (joined b n a resources c)) in
      let last : P full = by-address resources.range refl _ (by-values _ (k.hung _ (k.contained c h))) in
      by-count a.id refl _ (by-source (clock_of (stood b n a resources c) n) (stood b n a resources c) refl (k.bodied full last))

-- who is realized and goes through the phases may act
pub record StartsOn (On : Board → ℕ → Type 0) (n : ℕ) (t : TypeId) (c : Board) : Type 0 where
  pub own : AllByRecursion (On c) (n ∷ bus_births n t)
  pub below : AllByRecursion (On (acted_all Realize (n ∷ bus_births n t) c)) (post (acted_all Realize (n ∷ bus_births n t) c) n)

module _ (P : Board → Type 0) (On : Board → ℕ → Type 0) (n : ℕ) (k : StartSteps P On n) (steady : IsSteady On) where
  pub start-by : (t : TypeId) (c : Board) → StartsOn On n t c → HasNoticeRoom (plugged (acted_all Realize (n ∷ bus_births n t) c) n) → P c
      → P (started n t c)
  start-by t c on room h =
      let run : Board = acted_all Realize (n ∷ bus_births n t) c in
      let all : Board = plugged run n in
      let last : Board = edit n (with_path (canonical all n)) all in
      let passed : P all = plugged-by On steady P k.acts n run on.below (acted_all-by On steady P k.acts Realize refl (n ∷ bus_births n t) c on.own h) in
      let same : SameThere c last =
      λ x. edit-there n (with_path (canonical all n)) (λ r. refl) all x ∙ plugged-there n run x ∙ acted_all-there Realize (n ∷ bus_births n t) c x in
      k.announces last (steady c last same n on.own.0) room (k.keeps_path all passed)

-- the objects are made and take their places
pub record DeviceSteps (P : Board → Type 0) (b : Board) (t : TypeId) (a : Wanted) (resources : Resources) : Type 0 where
  pub begins : HasRoom b → P (with_new (fresh (b.born + 1) t) b)
  pub draft : DraftSteps P (b.born + 1) t
  pub place : PlaceSteps P b (b.born + 1) a resources

pub device-by : (P : Board → Type 0) (b : Board) (t : TypeId) (a : Wanted) (resources : Resources) → DeviceSteps P b t a resources
    → length b.records + objects_in t ≤ LIVE_OBJECTS_MAX → P (with_device b t a resources)
device-by P b t a resources k room =
    let n : ℕ = b.born + 1 in
    let made : length (with_new (fresh n t) b).records ≡ length b.records + 1 = length-append b.records (fresh n t ∷ []) in
    place-by P b n a resources k.place (drafted b t)
    (draft-by P n t k.draft (with_new (fresh n t) b) (omega (arith, made, room)) (k.begins (omega (arith, room))))

-- a device that is made, takes its place and starts
pub plug-by : (P : Board → Type 0) (On : Board → ℕ → Type 0) → IsSteady On → (b : Board) (t : TypeId) (a : Wanted) (resources : Resources)
    → DeviceSteps P b t a resources
    → StartSteps P On (b.born + 1) → length b.records + objects_in t ≤ LIVE_OBJECTS_MAX → HasNoticeRoom b
    → StartsOn On (b.born + 1) t (with_device b t a resources) → P (with_plugged b t a resources)
plug-by P On steady b t a resources device start room free on =
    start-by P On (b.born + 1) start steady t (with_device b t a resources) on few (device-by P b t a resources device room)
  where
    last : Board
    last = plugged (acted_all Realize ((b.born + 1) ∷ bus_births (b.born + 1) t) (with_device b t a resources)) (b.born + 1)

    notice : Notice
    notice = record { plug = true; birth = b.born + 1 }

    few : HasNoticeRoom last
    few =
        let same : length (last.notices ++ notice ∷ []) ≡ length (b.notices ++ notice ∷ []) = ap length (devices_stay_lem.told b t a resources) in
        let one = length-append last.notices (notice ∷ []) in
        let two = length-append b.notices (notice ∷ []) in
        omega (arith, same, one, two, free)
