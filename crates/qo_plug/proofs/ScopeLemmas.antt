-- The holds, the pending removals and the notices stay as they are while a device is made and takes its place.
use Rattle.std.proofs.Common.{◌≡◌, refl, ◌∙◌, ℕ, ◌+◌, true, false, List, [], ◌∷◌, codes, filter, Option, Some, None}
use Rattle.qo_values.specs.declared.kinds.Act.{Act}
use Rattle.qo_values.specs.declared.kinds.Act.TheVariants.{Realize, Enter, Hold, Exit}
use Rattle.qo_values.specs.declared.kinds.TypeId.{TypeId}
use Rattle.qo_values.specs.declared.properties.Val.{Val}
use Rattle.qo_values.specs.declared.properties.Val.TheVariants as val
use Rattle.qo_values.specs.declared.ranges.Range.{Range}
use Rattle.qo_model.specs.Board.{Board, Notice, Removal, slots_at}
use Rattle.qo_model.specs.Changes.{add, make, set}
use Rattle.qo_model.specs.Clocks.{acted}
use Rattle.qo_model.specs.Devices.{clock_of}
use Rattle.qo_model.specs.Objects.{index_from}
use Rattle.qo_model.specs.Plug.{Resources, Wanted, acted_all, addressed_at, aliased, bus_births, clocked, counted, joined, link_named, owned, property_made, properties_made, source_for, started, stood, valued, with_given, with_source}
use Rattle.qo_model.specs.Release.{edit}
use Rattle.qo_model.specs.Reset.{is_not_in_reset, phased, plugged, post}
use Rattle.qo_model.specs.RowNames.{property_name}
use Rattle.qo_model.specs.Types.{slots_of}
use Rattle.qo_model.specs.Unplug.{is_named, set_named}
use Rattle.qo_model.specs.declared.properties.Property.{Property}
use Rattle.qo_model.specs.declared.properties.PropertyRole.{PropertyRole}
use Rattle.qo_model.specs.declared.properties.PropertyRole.TheVariants as row
use Rattle.qo_plug.specs.Drafts.{created, pinned_draft}

-- what stands beside the objects that concerns devices
pub record Aside : Type 0 where
  pub holds : List ℕ
  pub pending : List Removal
  pub notices : List Notice

abbrev pub aside : Board → Aside
aside b = record { holds = b.holds; pending = b.pending; notices = b.notices }

set-aside : (n : ℕ) (name : List ℕ) (v : Val) (c : Board) → aside (set_named n name v c) ≡ aside c
unfolding set
set-aside n name v c = go (index_from (is_named name) 0 (slots_at c n)) refl
  where
    go : (o : Option ℕ) → index_from (is_named name) 0 (slots_at c n) ≡ o → aside (set_named n name v c) ≡ aside c
    go None e = rw (set_named, e) refl
    go (Some i) e = rw (set_named, e) refl

link-aside : (n : ℕ) (name : List ℕ) (m : ℕ) (c : Board) → aside (link_named n name m c) ≡ aside c
link-aside n name m c = go (index_from (is_named name) 0 (slots_at c n)) refl
  where
    go : (o : Option ℕ) → index_from (is_named name) 0 (slots_at c n) ≡ o → aside (link_named n name m c) ≡ aside c
    go None e = rw (link_named, e) refl
    go (Some i) e = rw (link_named, e) refl

-- a device is made
aliased-aside : (n : ℕ) (name of : List ℕ) (o : Option ℕ) (c : Board) → aside (aliased n name of o c) ≡ aside c
unfolding add
aliased-aside n name of None c = refl
aliased-aside n name of (Some m) c = refl

row-aside : (n : ℕ) (t : TypeId) (name : List ℕ) (kind : PropertyRole) (c : Board) → aside (property_made n t name kind c) ≡ aside c
unfolding add
row-aside n t name (row.Plain type first) c = refl
row-aside n t name (row.Link target true) c = refl
row-aside n t name (row.Link target false) c = refl
row-aside n t name (row.Child type) c = refl
row-aside n t name (row.Alias owner of) c = aliased-aside n name (property_name of) (owned c n (property_name owner)) c

rows-aside : (n : ℕ) (t : TypeId) (ps : List Property) (c : Board) → aside (properties_made n t ps c) ≡ aside c
rows-aside n t [] c = refl
rows-aside n t (p ∷ ps) c = rows-aside n t ps (property_made n t (property_name p.name) p.role c) ∙ row-aside n t (property_name p.name) p.role c

pub draft-aside : (b : Board) (t : TypeId) → aside (pinned_draft b t) ≡ aside b
unfolding make
draft-aside b t = rows-aside (b.born + 1) t (slots_of t) (created b t)

-- and takes its place
valued-aside : (b : Board) (n : ℕ) (a : Wanted) (resources : Resources) (c : Board) → aside (valued b n a.props resources c) ≡ aside c
valued-aside b n a resources c =
    set-aside n (codes "realized") (val.Bool true)
    (link_named n (codes "parent_bus") resources.bus (set_named n (codes "slot") (val.Uint resources.slot) (edit n (with_given b a.props) c)))
    ∙ link-aside n (codes "parent_bus") resources.bus (set_named n (codes "slot") (val.Uint resources.slot) (edit n (with_given b a.props) c))
    ∙ set-aside n (codes "slot") (val.Uint resources.slot) (edit n (with_given b a.props) c)

addressed-aside : (n : ℕ) (range : Option Range) (c : Board) → aside (addressed_at n range c) ≡ aside c
addressed-aside n None c = refl
addressed-aside n (Some r) c = set-aside n (codes "addr") (val.Uint r.at) c

stood-aside : (b : Board) (n : ℕ) (a : Wanted) (resources : Resources) (c : Board) → aside (stood b n a resources c) ≡ aside c
unfolding add
stood-aside b n a resources c = addressed-aside n resources.range (valued b n a.props resources (joined b n a resources c))
    ∙ valued-aside b n a resources (joined b n a resources c)

source-aside : (source : ℕ) (o : Option ℕ) (c : Board) → aside (with_source source o c) ≡ aside c
source-aside source None c = refl
source-aside source (Some m) c = link-aside m (codes "source") source c

counted-aside : (id : Option (List ℕ)) (c : Board) → aside (counted id c) ≡ aside c
counted-aside None c = refl
counted-aside (Some id) c = refl

pub seated-aside : (b : Board) (n : ℕ) (a : Wanted) (resources : Resources) (c : Board)
    → aside (counted a.id (clocked (source_for b resources.bus) n (stood b n a resources c))) ≡ aside c
seated-aside b n a resources c =
    counted-aside a.id (clocked (source_for b resources.bus) n (stood b n a resources c))
    ∙ source-aside (source_for b resources.bus) (clock_of (stood b n a resources c) n) (stood b n a resources c)
    ∙ stood-aside b n a resources c

-- and starts: the pending removals stay
all-pending : (act : Act) (ns : List ℕ) (c : Board) → (acted_all act ns c).pending ≡ c.pending
unfolding acted
all-pending act [] c = refl
all-pending act (n ∷ ns) c = all-pending act ns (acted act n 0 c)

phased-pending : (act : Act) (ns : List ℕ) (c : Board) → (phased act ns c).pending ≡ c.pending
unfolding acted
phased-pending act [] c = refl
phased-pending act (n ∷ ns) c = phased-pending act ns (acted act n 0 c)

plugged-pending : (n : ℕ) (c : Board) → (plugged c n).pending ≡ c.pending
unfolding plugged
plugged-pending n c =
    phased-pending Exit (filter (is_not_in_reset c) (post c n)) (phased Hold (post c n) (phased Enter (post c n) c))
    ∙ phased-pending Hold (post c n) (phased Enter (post c n) c)
    ∙ phased-pending Enter (post c n) c

pub started-pending : (n : ℕ) (t : TypeId) (c : Board) → (started n t c).pending ≡ c.pending
started-pending n t c = plugged-pending n (acted_all Realize (n ∷ bus_births n t) c) ∙ all-pending Realize (n ∷ bus_births n t) c
