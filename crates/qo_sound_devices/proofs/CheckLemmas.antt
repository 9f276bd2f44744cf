-- Sound places from facts of the objects of a board one by one, as they are checked on a given board.
use Rattle.std.proofs.Common.{◌≡◌, refl, ap, sym, subst, ◌∙◌, ℕ, suc, ◌≤◌, Bool, true, false, ◌==◌, eqb, arith, List, [], ◌∷◌, filter_map, Option, Some, None, option_map, codes}
use Rattle.qo_model.proofs.Common.{⊤, AllByRecursion, list_any, bytes_eq, ANONYMOUS_BIRTH, MACHINE_BIRTH, MEMORY_BUS_BIRTH, OBJECTS_BIRTH, PERIPHERAL_BIRTH, ROOT_BUS_BIRTH, SYSTEM_CLOCK_BIRTH, Board, Record, record_of, bus_of, clock_name, is_realized, is_of}
use Rattle.std.proofs.lemmas.Bool.{eqb-true}
use Rattle.std.proofs.lemmas.Option.{same_Some}
use Rattle.qo_model.proofs.StepLemmas.{found_at, found-birth}
use Rattle.qo_sound.proofs.SearchLemmas.{all-found}
use Rattle.qo_sound_devices.specs.SoundPlaces.{child_entries, HasOwner, machines, bridges, id_of, IsAnonymous, IsAtHome, IsHome, IsKid, IsRooted, IsPeripheral, kid_entries, listed, owns_it, SoundPlaces, stands}
use Rattle.qo_sound_devices.proofs.PlacesLemmas.{all-listed, or-cases}

-- a fact of the bus of a device, if it is on one
abbrev pub OnBus : (ℕ → Type 0) → Option ℕ → Type 0
OnBus P None = ⊤
OnBus P (Some q) = P q

-- a bus below a device is one deeper
abbrev pub IsDeeper : (ℕ → ℕ) → ℕ → List ℕ × ℕ → Type 0
IsDeeper depth q e = bytes_eq e.0 clock_name ≡ false → depth e.1 ≡ suc (depth q)

-- the facts of a device in a container
pub record IsStanding (b : Board) (depth : ℕ → ℕ) (d : ℕ) : Type 0 where
  pub home : IsHome b d
  pub owner : OnBus (HasOwner b) (bus_of b d)
  pub below : OnBus (λ q. AllByRecursion (IsDeeper depth q) (child_entries b d)) (bus_of b d)
  pub most : AllByRecursion (λ (e : List ℕ × ℕ). bytes_eq e.0 clock_name ≡ false → depth e.1 ≤ 8) (child_entries b d)
  pub each : is_realized b d ≡ true

-- the ids of objects
abbrev pub id_entry : Record → Option (List ℕ × ℕ)
id_entry r = option_map (λ (id : List ℕ). (id, r.birth)) r.device_id

abbrev pub id_entries : Board → List (List ℕ × ℕ)
id_entries b = filter_map id_entry b.records

pub record Checked (b : Board) : Type 0 where
  pub machine : listed MACHINE_BIRTH (child_entries b 1) ≡ true
  pub objects : listed OBJECTS_BIRTH (child_entries b 1) ≡ true
  pub parts : AllByRecursion (λ n. listed n (child_entries b MACHINE_BIRTH) ≡ true)
      (PERIPHERAL_BIRTH ∷ ANONYMOUS_BIRTH ∷ ROOT_BUS_BIRTH ∷ MEMORY_BUS_BIRTH ∷ SYSTEM_CLOCK_BIRTH ∷ [])
  pub located : IsRooted b
  pub children : AllByRecursion (λ (r : Record). AllByRecursion (IsAtHome b r.birth) (child_entries b r.birth)) b.records
  pub aside : AllByRecursion (λ n. stands b n ≡ false)
      (1 ∷ MACHINE_BIRTH ∷ PERIPHERAL_BIRTH ∷ ANONYMOUS_BIRTH ∷ ROOT_BUS_BIRTH ∷ MEMORY_BUS_BIRTH ∷ OBJECTS_BIRTH ∷ [])
  pub peripheral : AllByRecursion (IsPeripheral b) (child_entries b PERIPHERAL_BIRTH)
  pub anonymous : AllByRecursion (IsAnonymous b) (child_entries b ANONYMOUS_BIRTH)
  pub kids : AllByRecursion (λ (r : Record). is_of b (codes "bus") r.birth ≡ true → AllByRecursion (IsKid b r.birth) (kid_entries b r.birth)) b.records
  pub depth : ℕ → ℕ
  pub top : AllByRecursion (λ q. depth q ≡ 0) (ROOT_BUS_BIRTH ∷ MEMORY_BUS_BIRTH ∷ [])
  pub named : AllByRecursion (λ (e : List ℕ × ℕ). IsStanding b depth e.1) (child_entries b PERIPHERAL_BIRTH)
  pub numbered : AllByRecursion (λ (e : List ℕ × ℕ). IsStanding b depth e.1) (child_entries b ANONYMOUS_BIRTH)
  pub only : AllByRecursion (λ (r : Record). is_realized b r.birth ≡ true → stands b r.birth ≡ true) b.records
  pub ids : AllByRecursion (λ (r : Record). (id : List ℕ) → id_of b r.birth ≡ Some id → is_of b (codes "device") r.birth ≡ true) b.records
  pub once : AllByRecursion (λ (e : List ℕ × ℕ). AllByRecursion (λ (f : List ℕ × ℕ). e.0 ≡ f.0 → e.1 ≡ f.1) (id_entries b)) (id_entries b)

-- what holds of each object that is there, and of what is not there, holds
of-records : (b : Board) (P : ℕ → Type 0) → ((n : ℕ) → record_of b n ≡ None → P n) → AllByRecursion (λ (r : Record). P r.birth) b.records → (n : ℕ) → P n
of-records b P gone h n = go (record_of b n) refl
  where
    go : (o : Option Record) → record_of b n ≡ o → P n
    go None e = gone n e
    go (Some r) e = subst P (found-birth n b.records r e) (all-found (λ (x : Record). P x.birth) n b.records h r e)

on-bus : (P : ℕ → Type 0) (o : Option ℕ) (q : ℕ) → o ≡ Some q → OnBus P o → P q
on-bus P None q e h = cc
on-bus P (Some m) q e h = subst P (same_Some m q e) h

of-owned : (depth : ℕ → ℕ) (q m : ℕ) (es : List (List ℕ × ℕ)) → AllByRecursion (IsDeeper depth q) es → list_any (owns_it m) es ≡ true → depth m ≡ suc (depth q)
of-owned depth q m [] h e = cc
of-owned depth q m (x ∷ es) h e = go (x.1 == m) refl (bytes_eq x.0 clock_name) refl (of-owned depth q m es h.1)
  where
    go : (t : Bool) → (x.1 == m) ≡ t → (u : Bool) → bytes_eq x.0 clock_name ≡ u → (list_any (owns_it m) es ≡ true → depth m ≡ suc (depth q))
        → depth m ≡ suc (depth q)
    go true p false k rest = subst (λ (y : ℕ). depth y ≡ suc (depth q)) (eqb-true x.1 m p) (h.0 k)
    go true p true k rest = rest (rw (p, k) at e)
    go false p u k rest = rest (rw p at e)

at-id : (b : Board) (P : List ℕ × ℕ → Type 0) (d : ℕ) (id : List ℕ) → AllByRecursion P (id_entries b) → id_of b d ≡ Some id → P (id, d)
at-id b P d id h e = go (record_of b d) refl
  where
    at_records : (rs : List Record) (r : Record) → AllByRecursion P (filter_map id_entry rs) → found_at d rs ≡ Some r → r.device_id ≡ Some id → P (id, d)
    at_records [] r k q i = cc
    at_records (x ∷ rs) r k q i = choose (x.birth == d) refl x.device_id refl (at_records rs r)
      where
        choose : (t : Bool) → (x.birth == d) ≡ t → (o : Option (List ℕ)) → x.device_id ≡ o
            → (AllByRecursion P (filter_map id_entry rs) → found_at d rs ≡ Some r → r.device_id ≡ Some id → P (id, d)) → P (id, d)
        choose true p None u rest =
            absurd (let is : x ≡ r = same_Some x r (rw p at q) in let clash : None ≡ Some id = sym u ∙ ap (λ (y : Record). y.device_id) is ∙ i in cc)
        choose true p (Some its) u rest =
            let is : x ≡ r = same_Some x r (rw p at q) in
            let same : its ≡ id = same_Some its id (sym u ∙ ap (λ (y : Record). y.device_id) is ∙ i) in
            let first : P (its, x.birth) = (rw u at k).0 in
            subst (λ (y : List ℕ). P (y, d)) same (subst (λ (m : ℕ). P (its, m)) (eqb-true x.birth d p) first)
        choose false p None u rest = rest (rw u at k) (rw p at q) i
        choose false p (Some its) u rest = rest (rw u at k).1 (rw p at q) i

    go : (o : Option Record) → record_of b d ≡ o → P (id, d)
    go None q = absurd (let clash : None ≡ Some id = rw q at e in cc)
    go (Some r) q = at_records b.records r h q (rw q at e)

pub checked-sound : (b : Board) → Checked b → SoundPlaces b
checked-sound b h = (
  h.depth,
  record {
    machine = h.machine;
    objects = h.objects;
    parts = h.parts;
    rooted = h.located;
    children = of-records b (λ n. AllByRecursion (IsAtHome b n) (child_entries b n)) (λ n e. rw e tt) h.children;
    aside = h.aside;
    peripheral = h.peripheral;
    anonymous = h.anonymous;
    kids = of-records b (λ n. is_of b (codes "bus") n ≡ true → AllByRecursion (IsKid b n) (kid_entries b n)) (λ n e q. rw e tt) h.kids;
    home = λ d e apart. (standing d e).home;
    owner = λ d q e on. on-bus (HasOwner b) (bus_of b d) q on (standing d e).owner;
    shallow =
        record {
          top = h.top;
          below = λ p q m e on o. of-owned h.depth q m (child_entries b p)
              (on-bus (λ k. AllByRecursion (IsDeeper h.depth k) (child_entries b p)) (bus_of b p) q on (standing p e).below) o;
          most = most;
        };
    only = of-records b (λ n. is_realized b n ≡ true → stands b n ≡ true) (λ n e q. absurd (let clash : false ≡ true = rw e at q in cc)) h.only;
    each = λ d e apart. (standing d e).each;
    ids = λ d id. of-records b (λ n. (its : List ℕ) → id_of b n ≡ Some its → is_of b (codes "device") n ≡ true)
        (λ n e its q. absurd (let clash : None ≡ Some its = rw e at q in cc)) h.ids d id;
    once = λ d x id e q. at-id b (λ (u : List ℕ × ℕ). id ≡ u.0 → d ≡ u.1) x id
        (at-id b (λ (u : List ℕ × ℕ). AllByRecursion (λ (v : List ℕ × ℕ). u.0 ≡ v.0 → u.1 ≡ v.1) (id_entries b)) d id h.once e) q refl;
  },
)
  where
    standing : (d : ℕ) → stands b d ≡ true → IsStanding b h.depth d
    standing d e =
        or-cases (listed d (child_entries b PERIPHERAL_BIRTH)) (listed d (child_entries b ANONYMOUS_BIRTH)) e
        (all-listed (IsStanding b h.depth) (child_entries b PERIPHERAL_BIRTH) h.named d)
        (all-listed (IsStanding b h.depth) (child_entries b ANONYMOUS_BIRTH) h.numbered d)

    low-owned : (m : ℕ) (es : List (List ℕ × ℕ)) → AllByRecursion (λ (e : List ℕ × ℕ). bytes_eq e.0 clock_name ≡ false → h.depth e.1 ≤ 8) es
        → list_any (owns_it m) es ≡ true → h.depth m ≤ 8
    low-owned m [] k e = cc
    low-owned m (x ∷ es) k e = go (x.1 == m) refl (bytes_eq x.0 clock_name) refl (low-owned m es k.1)
      where
        go : (t : Bool) → (x.1 == m) ≡ t → (u : Bool) → bytes_eq x.0 clock_name ≡ u → (list_any (owns_it m) es ≡ true → h.depth m ≤ 8) → h.depth m ≤ 8
        go true p false q rest = subst (λ (y : ℕ). h.depth y ≤ 8) (eqb-true x.1 m p) (k.0 q)
        go true p true q rest = rest (rw (p, q) at e)
        go false p u q rest = rest (rw p at e)

    most : (q : ℕ) → HasOwner b q → h.depth q ≤ 8
    most q (bridges p s o) = low-owned q (child_entries b p) (standing p s).most o
    most q (machines k) = go (eqb q ROOT_BUS_BIRTH) refl (eqb q MEMORY_BUS_BIRTH) refl
      where
        go : (t : Bool) → eqb q ROOT_BUS_BIRTH ≡ t → (u : Bool) → eqb q MEMORY_BUS_BIRTH ≡ u → h.depth q ≤ 8
        go true x u y = let none : h.depth q ≡ 0 = ap h.depth (eqb-true q ROOT_BUS_BIRTH x) ∙ h.top.0 in omega (arith, none)
        go false x true y = let none : h.depth q ≡ 0 = ap h.depth (eqb-true q MEMORY_BUS_BIRTH y) ∙ h.top.1.0 in omega (arith, none)
        go false x false y = absurd (let clash : false ≡ true = rw (x, y) at k in cc)
