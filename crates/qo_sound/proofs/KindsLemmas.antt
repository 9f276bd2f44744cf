-- The types of objects stay with the steps by which a device is added.
use Rattle.std.proofs.Common.{◌≡◌, refl, ◌∙◌, ℕ, ◌+◌, true, List, [], ◌∷◌, filter, codes, Option, Some, None}
use Rattle.qo_model.proofs.Common.{Act, Realize, Enter, Hold, Exit, TypeId, Device, Val, Range, Board, child, strong, kind_of, slots_at, add, set, with_added, with_changed, with_val, acted, with_act_on, clock_of, kid_name, index_from, canonical, Resources, Wanted, acted_all, addressed_at, bus_births, clocked, counted, drafted, fitted, joined, link_named, name_for, parent_for, source_for, stood, valued, with_body_of, with_device, with_given, with_path, with_plugged, with_source, edit, is_not_in_reset, phased, plugged, post, is_named, set_named}
use Rattle.qo_values.specs.declared.properties.Val.TheVariants as val
use Rattle.qo_sound.proofs.FirmBoardLemmas.{edited-kinds}

-- the types of objects stay with these steps

set-kinds : (n : ℕ) (name : List ℕ) (v : Val) (c : Board) → kind_of (set_named n name v c) ≡ kind_of c
unfolding set
set-kinds n name v c = go (index_from (is_named name) 0 (slots_at c n)) refl
  where
    go : (o : Option ℕ) → index_from (is_named name) 0 (slots_at c n) ≡ o → kind_of (set_named n name v c) ≡ kind_of c
    go None e = rw (set_named, e) refl
    go (Some i) e = rw (set_named, e) (edited-kinds n (with_changed (with_val v) i) (λ r. refl) (λ r. refl) c)

link-kinds : (n : ℕ) (name : List ℕ) (m : ℕ) (c : Board) → kind_of (link_named n name m c) ≡ kind_of c
link-kinds n name m c = go (index_from (is_named name) 0 (slots_at c n)) refl
  where
    go : (o : Option ℕ) → index_from (is_named name) 0 (slots_at c n) ≡ o → kind_of (link_named n name m c) ≡ kind_of c
    go None e = rw (link_named, e) refl
    go (Some i) e = rw (link_named, e) (edited-kinds n (with_changed (fitted c m) i) (λ r. refl) (λ r. refl) c)

stood-kinds : (b : Board) (n : ℕ) (a : Wanted) (resources : Resources) (c : Board) → kind_of (stood b n a resources c) ≡ kind_of c
unfolding add
stood-kinds b n a resources c =
    edited-kinds n (with_body_of a.id resources.range) (λ r. refl) (λ r. refl)
    (addressed_at n resources.range (valued b n a.props resources (joined b n a resources c)))
    ∙ addressed resources.range
    ∙ set-kinds n (codes "realized") (val.Bool true)
    (link_named n (codes "parent_bus") resources.bus
    (set_named n (codes "slot") (val.Uint resources.slot) (edit n (with_given b a.props) (joined b n a resources c))))
    ∙ link-kinds n (codes "parent_bus") resources.bus
    (set_named n (codes "slot") (val.Uint resources.slot) (edit n (with_given b a.props) (joined b n a resources c)))
    ∙ set-kinds n (codes "slot") (val.Uint resources.slot) (edit n (with_given b a.props) (joined b n a resources c))
    ∙ edited-kinds n (with_given b a.props) (λ r. refl) (λ r. refl) (joined b n a resources c)
    ∙ edited-kinds resources.bus (with_added (kid_name resources.slot) (strong Device (Some n))) (λ r. refl) (λ r. refl)
    (add (parent_for a.id) (name_for b a.id) (child n) c)
    ∙ edited-kinds (parent_for a.id) (with_added (name_for b a.id) (child n)) (λ r. refl) (λ r. refl) c
  where
    addressed : (range : Option Range)
        → kind_of (addressed_at n range (valued b n a.props resources (joined b n a resources c)))
        ≡ kind_of (valued b n a.props resources (joined b n a resources c))
    addressed None = refl
    addressed (Some r) = set-kinds n (codes "addr") (val.Uint r.at) (valued b n a.props resources (joined b n a resources c))

source-kinds : (source : ℕ) (clock : Option ℕ) (c : Board) → kind_of (with_source source clock c) ≡ kind_of c
source-kinds source None c = refl
source-kinds source (Some m) c = link-kinds m (codes "source") source c

counted-kinds : (id : Option (List ℕ)) (c : Board) → kind_of (counted id c) ≡ kind_of c
counted-kinds None c = refl
counted-kinds (Some id) c = refl

acted-kinds : (act : Act) (n period : ℕ) (c : Board) → kind_of (acted act n period c) ≡ kind_of c
unfolding acted
acted-kinds act n period c = edited-kinds n (with_act_on act c.now period) (λ r. refl) (λ r. refl) c

all-kinds : (act : Act) (ns : List ℕ) (c : Board) → kind_of (acted_all act ns c) ≡ kind_of c
all-kinds act [] c = refl
all-kinds act (n ∷ ns) c = all-kinds act ns (acted act n 0 c) ∙ acted-kinds act n 0 c

phased-kinds : (act : Act) (ns : List ℕ) (c : Board) → kind_of (phased act ns c) ≡ kind_of c
phased-kinds act [] c = refl
phased-kinds act (n ∷ ns) c = phased-kinds act ns (acted act n 0 c) ∙ acted-kinds act n 0 c

plugged-kinds : (n : ℕ) (c : Board) → kind_of (plugged c n) ≡ kind_of c
unfolding plugged
plugged-kinds n c =
    phased-kinds Exit (filter (is_not_in_reset c) (post c n)) (phased Hold (post c n) (phased Enter (post c n) c))
    ∙ phased-kinds Hold (post c n) (phased Enter (post c n) c)
    ∙ phased-kinds Enter (post c n) c

pub device-kinds : (b : Board) (t : TypeId) (a : Wanted) (resources : Resources) → kind_of (with_device b t a resources) ≡ kind_of (drafted b t)
device-kinds b t a resources =
    counted-kinds a.id (clocked (source_for b resources.bus) (b.born + 1) (stood b (b.born + 1) a resources (drafted b t)))
    ∙ source-kinds (source_for b resources.bus) (clock_of (stood b (b.born + 1) a resources (drafted b t)) (b.born + 1))
    (stood b (b.born + 1) a resources (drafted b t))
    ∙ stood-kinds b (b.born + 1) a resources (drafted b t)

pub plug-kinds : (b : Board) (t : TypeId) (a : Wanted) (resources : Resources) → kind_of (with_plugged b t a resources) ≡ kind_of (drafted b t)
plug-kinds b t a resources =
    edited-kinds n (with_path (canonical (plugged (acted_all Realize (n ∷ bus_births n t) (with_device b t a resources)) n) n)) (λ r. refl) (λ r. refl)
    (plugged (acted_all Realize (n ∷ bus_births n t) (with_device b t a resources)) n)
    ∙ plugged-kinds n (acted_all Realize (n ∷ bus_births n t) (with_device b t a resources))
    ∙ all-kinds Realize (n ∷ bus_births n t) (with_device b t a resources)
    ∙ device-kinds b t a resources
  where
    n : ℕ
    n = b.born + 1
