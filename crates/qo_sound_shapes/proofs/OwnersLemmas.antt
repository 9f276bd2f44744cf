-- The owners of a board, from what each object is by its type, and back; what keeps them.
use Rattle.std.proofs.Common.{◌≡◌, refl, ap, sym, ◌∙◌, ℕ, Bool, true, false, eqb, List, codes, Option, Some, None, option_map, option_and_then, is_some, Ok, Err}
use Rattle.qo_model.proofs.Common.{option_map_or, bytes_eq, Registers, MACHINE_BIRTH, E45, E46, Act, TypeId, Container, Machine, Val, Board, Record, kind_of, record_of, clock_scaled, clock_set, acted, source_of, among, Change, changed, opening_board, is_of, Wanted, plug, is_a, detach, set_named}
use Rattle.std.proofs.lemmas.Option.{same_Some}
use Rattle.qo_values.specs.declared.properties.Val.TheVariants as val
use Rattle.qo_model.proofs.StepLemmas.{found-birth}
use Rattle.qo_sound_clocks.specs.RegisterWrites.{registers_set}
use Rattle.qo_sound_clocks.proofs.StepsLemmas.{kept-written, calls-kept}
use Rattle.qo_sound_devices.specs.SoundDevices.{SoundDevices}
use Rattle.qo_sound_devices.specs.SoundPlaces.{path_of, stands}
use Rattle.qo_sound_devices.proofs.DevicesLawLemmas.{devices_kept_lem}
use Rattle.qo_sound_shapes.proofs.BoardLemmas.{all-same, AllOf}
use Rattle.qo_sound_shapes.specs.SoundOwners.{containers, SoundOwners}
use Rattle.qo_sound_shapes.proofs.OwnerTypeLemmas.{apt-body, apt-changed, apt-opening, apt-plug, apt-slots, Apt}
use Rattle.qo_sound_shapes.proofs.UserObjectLemmas.{Creatable, creatable-acted, creatable-beside, creatable-changed, creatable-detach, creatable-opening, creatable-plug, creatable-registers, creatable-set, firm-devices}
use Rattle.qo_sound_shapes.proofs.OwnerFactLemmas.{fact-act, fact-detach, fact-registers, fact-set}

of-record : (b : Board) (x : ℕ) (r : Record) (name : List ℕ) → record_of b x ≡ Some r → is_of b name x ≡ is_a r.kind name
of-record b x r name e = ap (λ (o : Option Record). option_map_or (λ (t : TypeId). is_a t name) (option_map (λ (y : Record). y.kind) o) false) e

owners-all : (b : Board) → SoundOwners b → AllOf Apt b
owners-all b h x r e =
    let own : r.birth ≡ x = found-birth x b.records r e in
    let kind : kind_of b x ≡ Some r.kind = ap (option_map (λ (y : Record). y.kind)) e in (
      λ path q. sym (of-record b x r (codes "device") e) ∙ h.paths x path (ap (option_and_then (λ (y : Record). y.kept_path)) e ∙ q),
      (
        λ k. ap (among containers) own ∙ h.shelves x (kind ∙ ap Some k),
        λ k. own ∙ h.lone x (kind ∙ ap Some k),
      ),
    )

all-owners : (b : Board) → Creatable b → AllOf Apt b → SoundOwners b
all-owners b objects h = record { objects = objects; paths = paths; shelves = shelves; lone = lone }
  where
    paths : (d : ℕ) (path : List ℕ) → path_of b d ≡ Some path → is_of b (codes "device") d ≡ true
    paths d path e = go (record_of b d) refl
      where
        go : (o : Option Record) → record_of b d ≡ o → is_of b (codes "device") d ≡ true
        go None q = absurd (let clash : None ≡ Some path = sym (ap (option_and_then (λ (y : Record). y.kept_path)) q) ∙ e in cc)
        go (Some r) q =
            of-record b d r (codes "device") q ∙ (h d r q).0 path (sym (ap (option_and_then (λ (y : Record). y.kept_path)) q) ∙ e)

    shelves : (n : ℕ) → kind_of b n ≡ Some Container → among containers n ≡ true
    shelves n e = go (record_of b n) refl
      where
        go : (o : Option Record) → record_of b n ≡ o → among containers n ≡ true
        go None q = absurd (let clash : None ≡ Some Container = sym (ap (option_map (λ (y : Record). y.kind)) q) ∙ e in cc)
        go (Some r) q =
            ap (among containers) (sym (found-birth n b.records r q))
            ∙ (h n r q).1.0 (same_Some r.kind Container (sym (ap (option_map (λ (y : Record). y.kind)) q) ∙ e))

    lone : (n : ℕ) → kind_of b n ≡ Some Machine → n ≡ MACHINE_BIRTH
    lone n e = go (record_of b n) refl
      where
        go : (o : Option Record) → record_of b n ≡ o → n ≡ MACHINE_BIRTH
        go None q = absurd (let clash : None ≡ Some Machine = sym (ap (option_map (λ (y : Record). y.kind)) q) ∙ e in cc)
        go (Some r) q =
            sym (found-birth n b.records r q) ∙ (h n r q).1.1 (same_Some r.kind Machine (sym (ap (option_map (λ (y : Record). y.kind)) q) ∙ e))

pub opening-owners : SoundOwners opening_board
opening-owners = all-owners opening_board creatable-opening apt-opening

pub same-owners : (b c : Board) → c.records ≡ b.records → SoundOwners b → SoundOwners c
same-owners b c e h = all-owners c (creatable-beside b c e h.objects) (all-same Apt b c e (owners-all b h))

pub acted-owners : (act : Act) (n period : ℕ) (b : Board) → SoundOwners b → SoundOwners (acted act n period b)
acted-owners act n period b h =
    all-owners (acted act n period b) (creatable-acted act n period b h.objects) (fact-act Apt apt-slots apt-body act n period b (owners-all b h))

pub registers-owners : (b : Board) (n : ℕ) (registers : Registers) → SoundOwners b → SoundOwners (registers_set b n registers)
registers-owners b n registers h =
    all-owners (registers_set b n registers) (creatable-registers b n registers h.objects)
    (fact-registers Apt apt-slots apt-body b n registers (owners-all b h))

-- values of clocks
set-owners : (n : ℕ) (name : List ℕ) (v : Val) → bytes_eq name (codes "slot") ≡ false → bytes_eq name (codes "realized") ≡ false → (b : Board)
    → SoundOwners b → SoundOwners (set_named n name v b)
set-owners n name v slot mark b h =
    all-owners (set_named n name v b) (creatable-set n name v slot mark b h.objects) (fact-set Apt apt-slots apt-body n name v b (owners-all b h))

pub clock_set-owners : (b d : Board) (c period : ℕ) → clock_set b c period ≡ Ok d → SoundOwners b → SoundOwners d
clock_set-owners b d c period e h = go (is_some (source_of b c)) refl
  where
    new : Board
    new = set_named c (codes "period") (val.Uint period) b

    go : (t : Bool) → is_some (source_of b c) ≡ t → SoundOwners d
    go true p = absurd (let clash : Err E45 ≡ Ok d = rw (clock_set, p) at e in cc)
    go false p = kept-written SoundOwners (calls-kept SoundOwners acted-owners) b new d c (set-owners c (codes "period") (val.Uint period) refl refl b h)
        (rw (clock_set, p) at e)

pub clock_scaled-owners : (b d : Board) (c mul div : ℕ) → clock_scaled b c mul div ≡ Ok d → SoundOwners b → SoundOwners d
clock_scaled-owners b d c mul div e h = go (eqb div 0) refl
  where
    mid : Board
    mid = set_named c (codes "mul") (val.Uint mul) b

    new : Board
    new = set_named c (codes "div") (val.Uint div) mid

    go : (t : Bool) → eqb div 0 ≡ t → SoundOwners d
    go true p = absurd (let clash : Err E46 ≡ Ok d = rw (clock_scaled, p) at e in cc)
    go false p =
        kept-written SoundOwners (calls-kept SoundOwners acted-owners) b new d c
        (set-owners c (codes "div") (val.Uint div) refl refl mid (set-owners c (codes "mul") (val.Uint mul) refl refl b h)) (rw (clock_scaled, p) at e)

-- what changes objects
pub changed-owners : (b : Board) (change : Change) → SoundDevices b → SoundOwners b → SoundOwners (changed b change)
changed-owners b change devices h = all-owners (changed b change) (creatable-changed b change devices h.objects) (apt-changed b change (owners-all b h))

pub plug-owners : (b : Board) (a : Wanted) → SoundDevices b → SoundOwners b → SoundOwners (plug b a).board
plug-owners b a devices h = all-owners (plug b a).board (creatable-plug b a devices h.objects) (apt-plug b a devices (owners-all b h))

pub detach-owners : (b : Board) (d : ℕ) → SoundDevices b → stands b d ≡ true → SoundOwners b → SoundOwners (detach b d)
detach-owners b d devices e h =
    all-owners (detach b d)
    (creatable-detach b d (firm-devices (detach b d) (devices_kept_lem.detached b d devices e)) h.objects)
    (fact-detach Apt apt-slots apt-body b d (owners-all b h))
