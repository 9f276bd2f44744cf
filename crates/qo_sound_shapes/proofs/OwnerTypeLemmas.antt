-- What an object is by its type alone: who has a kept path, and which births are those of a container and of the machine.
use Rattle.std.proofs.Common.{◌≡◌, ap, sym, subst, ◌∙◌, rules, ℕ, ◌+◌, ◌&&◌, ◌||◌, ◌==◌, Bool, true, false, not, List, codes, Option, Some, None, is_some, option_map}
use Rattle.qo_model.proofs.Common.{⊤, AllByRecursion, Registers, MACHINE_BIRTH, Code, TypeId, Container, Machine, Board, Record, record_of, among, Change, added, changed, deleted, severed, wrote, Given, added_as, opening_board, Wanted, drafted, plug, resources_of, with_path, with_plugged, without_slots, is_a, slots_of, types}
use Rattle.std.proofs.lemmas.Bool.{and_parts, eqb-true}
use Rattle.std.proofs.lemmas.Option.{same_Some}
use Rattle.qo_values.proofs.EachLemmas.{each}
use Rattle.qo_model.proofs.ComesToLemmas.{addition-comes}
use Rattle.qo_model.proofs.StepLemmas.{found-birth}
use Rattle.qo_sound.proofs.AddLemmas.{creatable}
use Rattle.qo_sound.proofs.SearchLemmas.{all-found}
use Rattle.qo_sound.proofs.AdditionStepsLemmas.{RowPasses}
use Rattle.qo_sound.proofs.PlugLemmas.{shut-above}
use Rattle.qo_sound.proofs.ViewLemmas.{PinsRootAlone, rest-from_sound}
use Rattle.qo_sound_devices.specs.SoundDevices.{SoundDevices}
use Rattle.qo_sound_devices.proofs.DraftLemmas.{drafted-made}
use Rattle.qo_sound_devices.proofs.JoiningLemmas.{Made}
use Rattle.qo_sound_devices.proofs.PlugLemmas.{Accepted, after-plug}
use Rattle.qo_sound_phases.proofs.LawLemmas.{is_machine}
use Rattle.qo_sound_shapes.proofs.BoardLemmas.{AllOf, all-imply_of}
use Rattle.qo_sound_shapes.proofs.CommandLemmas.{begun-devices}
use Rattle.qo_sound_shapes.specs.SoundOwners.{containers}
use Rattle.qo_sound_shapes.proofs.OwnerFactLemmas.{fact-deleted, fact-drafted, fact-object, fact-plugged, fact-severed, fact-wrote}

-- of one object
abbrev pub Apt : Record → Type 0
Apt r =
    ((path : List ℕ) → r.kept_path ≡ Some path → is_a r.kind (codes "device") ≡ true)
    × ((r.kind ≡ Container → among containers r.birth ≡ true) × (r.kind ≡ Machine → r.birth ≡ MACHINE_BIRTH))

pub apt-slots : (r s : Record) → without_slots s ≡ without_slots r → Apt r → Apt s
apt-slots r s e h = subst Apt (sym e) h

pub apt-body : (registers : Registers) (id : Option (List ℕ)) (r : Record) → Apt r → Apt (record r { registers = registers; device_id = id })
apt-body registers id r h = h

-- types of which objects are made
abbrev Plain : TypeId → Type 0
Plain Container = ⊥
Plain Machine = ⊥
Plain t = ⊤

not-container : (t : TypeId) → Plain t → t ≡ Container → ⊥
not-container t p e = subst Plain e p

not-machine : (t : TypeId) → Plain t → t ≡ Machine → ⊥
not-machine t p e = subst Plain e p

apt-fresh : (r : Record) → r.kept_path ≡ None → Plain r.kind → Apt r
apt-fresh r none plain = (
  λ path e. absurd (let clash : None ≡ Some path = sym none ∙ e in cc),
  (λ e. absurd (not-container r.kind plain e), λ e. absurd (not-machine r.kind plain e)),
)

plain-device : (t : TypeId) → is_a t (codes "device") ≡ true → Plain t
unfolding types
plain-device = each (λ (t : TypeId). is_a t (codes "device") ≡ true → Plain t) (search rules)

plain-creatable : (t : TypeId) → is_a t (codes "user-creatable") ≡ true → Plain t
unfolding types
plain-creatable = each (λ (t : TypeId). is_a t (codes "user-creatable") ≡ true → Plain t) (search rules)

rows-plain : (t : TypeId) → AllByRecursion (RowPasses Plain) (slots_of t)
unfolding types
rows-plain = each (λ (t : TypeId). AllByRecursion (RowPasses Plain) (slots_of t)) (search rules)

-- the opening board
abbrev is_container : TypeId → Bool
is_container Container = true
is_container t = false

abbrev on_shelf : Record → Bool
on_shelf r = not (is_container r.kind) || among containers r.birth

abbrev is_lone : Record → Bool
is_lone r = not (is_machine r.kind) || r.birth == MACHINE_BIRTH

abbrev fits : Record → Bool
fits r =
    not (is_some r.kept_path) && (on_shelf r && is_lone r)

all-fit : AllByRecursion (λ (r : Record). fits r ≡ true) opening_board.records
unfolding opening_board types
all-fit = search rules

apt-fits : (r : Record) → fits r ≡ true → Apt r
apt-fits r f =
    let (none, rest) = and_parts (not (is_some r.kept_path)) (on_shelf r && is_lone r) f in
    let (shelf, lone) = and_parts (on_shelf r) (is_lone r) rest in (
      λ path e. absurd (let its : is_some r.kept_path ≡ true = ap is_some e in let clash : false ≡ true = rw its at none in cc),
      (
        λ k. let its : is_container r.kind ≡ true = ap is_container k in rw its at shelf,
        λ k. eqb-true r.birth MACHINE_BIRTH (let its : is_machine r.kind ≡ true = ap is_machine k in rw its at lone),
      ),
    )

pub apt-opening : AllOf Apt opening_board
apt-opening x r e = apt-fits r (all-found (λ (y : Record). fits y ≡ true) x opening_board.records all-fit r e)

-- what nothing bars is of a type of objects that a user creates
-- commands on objects
apt-object : (b : Board) (t : TypeId) (id : List ℕ) (props : List Given) (o : Option Code) → Plain t → AllOf Apt b → AllOf Apt (added_as b t id props o).board
apt-object b t id props None plain h = fact-object Apt apt-slots apt-body Plain apt-fresh b t id props plain h
apt-object b t id props (Some code) plain h = h

pub apt-changed : (b : Board) (change : Change) → AllOf Apt b → AllOf Apt (changed b change)
apt-changed b (deleted id) h = fact-deleted Apt apt-slots apt-body b id h
apt-changed b (wrote n name v) h = fact-wrote Apt apt-slots apt-body b n name v h
apt-changed b (severed n) h = fact-severed Apt apt-slots apt-body b n h
apt-changed b (added driver id props) h =
    addition-comes (AllOf Apt) b driver id props h (λ row e o is. apt-object b row.id id props o (plain-creatable row.id (creatable b row id e)) h)

-- a device that is added
record Placed (n : ℕ) (r : Record) : Type 0 where
  apt : Apt r
  device : r.birth ≡ n → is_a r.kind (codes "device") ≡ true

placed-slots : (n : ℕ) (r s : Record) → without_slots s ≡ without_slots r → Placed n r → Placed n s
placed-slots n r s e h =
    record {
      apt = apt-slots r s e h.apt;
      device = λ own.
          subst (λ (y : Record). y.birth ≡ n → is_a y.kind (codes "device") ≡ true) (sym e) h.device own;
    }

placed-body : (n : ℕ) (registers : Registers) (id : Option (List ℕ)) (r : Record) → Placed n r → Placed n (record r { registers = registers; device_id = id })
placed-body n registers id r h = record { apt = h.apt; device = h.device }

placed-path : (n : ℕ) (path : Option (List ℕ)) (r : Record) → r.birth ≡ n → Placed n r → Placed n (with_path path r)
placed-path n path r own h = record { apt = (λ p e. h.device own, h.apt.1); device = h.device }

apt-with_plugged : (b : Board) (a : Wanted) (t : TypeId) (bus : ℕ) → SoundDevices b → Accepted b t bus a → AllOf Apt b
    → AllOf Apt (with_plugged b t a (resources_of b t bus a.props))
apt-with_plugged b a t bus devices k h =
    all-imply_of (Placed (b.born + 1)) Apt (λ r p. p.apt) (with_plugged b t a (resources_of b t bus a.props))
    (fact-plugged (Placed (b.born + 1)) (placed-slots (b.born + 1)) (placed-body (b.born + 1)) b t a (resources_of b t bus a.props) (placed-path (b.born + 1))
    begin)
  where
    rest : PinsRootAlone b
    rest = rest-from_sound b devices.tree

    made : Made b (b.born + 1) t (drafted b t)
    made = drafted-made b t (shut-above b.born (begun-devices b devices)) rest.used k.device

    drawn : AllOf Apt (drafted b t)
    drawn = fact-drafted Apt apt-slots apt-body Plain apt-fresh b t (plain-device t k.device) (rows-plain t) h

    begin : AllOf (Placed (b.born + 1)) (drafted b t)
    begin x r e =
        record {
          apt = drawn x r e;
          device = λ own.
              let there : record_of (drafted b t) (b.born + 1) ≡ Some r =
              ap (record_of (drafted b t)) (sym own ∙ found-birth x (drafted b t).records r e) ∙ e in
              let kind : r.kind ≡ t = same_Some r.kind t (sym (ap (option_map (λ (y : Record). y.kind)) there) ∙ made.kind) in
              ap (λ (y : TypeId). is_a y (codes "device")) kind ∙ k.device;
        }

pub apt-plug : (b : Board) (a : Wanted) → SoundDevices b → AllOf Apt b → AllOf Apt (plug b a).board
apt-plug b a devices h =
    after-plug (AllOf Apt) b a h (λ t bus stage. h) (λ t bus k. apt-with_plugged b a t bus devices k h)
