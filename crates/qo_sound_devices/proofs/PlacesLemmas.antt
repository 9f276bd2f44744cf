-- Places where each object that is still there is alike: a release keeps them.
use Rattle.std.proofs.Common.{◌≡◌, ◌≢◌, refl, ap, ap₂, sym, subst, ◌∙◌, ℕ, ◌<◌, ◌≤◌, Bool, true, false, ◌||◌, ◌==◌, eqb, List, [], ◌∷◌, ◌++◌, find, filter_map, Option, Some, None, is_some, option_map, option_and_then, arith, codes, append-nil}
use Rattle.qo_model.proofs.Common.{AllByRecursion, list_any, option_map_or, bytes_eq, ANONYMOUS_BIRTH, MACHINE_BIRTH, MEMORY_BUS_BIRTH, OBJECTS_BIRTH, PERIPHERAL_BIRTH, ROOT_BUS_BIRTH, SYSTEM_CLOCK_BIRTH, TypeId, Board, Record, Slot, plain, child, strong, weak, alias, record_of, kind_of, is_live, slots_at, among, bus_of, is_realized, bus_slot_of, strong_in, is_of, bus_type, refs, after, drop_slot, finalize, finish, KeepsRelease, is_a}
use Rattle.std.proofs.lemmas.Bool.{eqb-true, eq-eqb}
use Rattle.std.proofs.lemmas.Option.{same_Some}
use Rattle.std.proofs.lemmas.List.Sums.{sum_by-cons}
use Rattle.qo_sound.proofs.CountLemmas.{one_at, times}
use Rattle.std.proofs.Math.Bool.{or-true}
use Rattle.qo_model.proofs.ReleaseInductionLemmas.{after_keeps}
use Rattle.qo_model.proofs.ReleaseScopeLemmas.{release_leaves}
use Rattle.qo_model.proofs.StepLemmas.{drop-live, finish-live, is_some-map}
use Rattle.qo_sound.proofs.SearchLemmas.{all-found}
use Rattle.qo_sound.proofs.WorkLemmas.{births_of}
use Rattle.qo_sound.proofs.RecordLemmas.{all-append, all-both}
use Rattle.qo_values.proofs.ListLemmas.{all-imply}
use Rattle.qo_sound.proofs.DraftLemmas.{found-low}
use Rattle.qo_sound.proofs.FirmBoardLemmas.{FitsKind, WellFormed, Linked}
use Rattle.qo_sound_devices.specs.SoundPlaces.{child_entries, child_entry, has_entry, HasOwner, machines, bridges, id_of, IsAnonymous, IsAtHome, IsHome, IsHosted, on_machine, on_device, IsRooted, IsKid, IsPeripheral, IsShallow, kid_entries, kid_entry, listed, owns_it, path_of, PlacesBut, stands, suits, owns}
use Rattle.qo_sound_devices.proofs.LikenessLemmas.{bodiless, after-alike, Alike, apart-first}

-- what is alike has the same type, id and path
abbrev pub SameBody : Board → Board → ℕ → Type 0
SameBody b c x = option_map bodiless (record_of c x) ≡ option_map bodiless (record_of b x)

at-body : {A : Type 0} (f : Record → A) → ((r : Record) → f (bodiless r) ≡ f r) → (b c : Board) (x : ℕ) → SameBody b c x
    → option_map f (record_of c x) ≡ option_map f (record_of b x)
at-body f same b c x h = sym (go (record_of c x)) ∙ ap (option_map f) h ∙ go (record_of b x)
  where
    go : (o : Option Record) → option_map f (option_map bodiless o) ≡ option_map f o
    go None = refl
    go (Some r) = ap Some (same r)

join-map : {A B : Type 0} (f : A → Option B) (o : Option A) → option_and_then (λ (x : Option B). x) (option_map f o) ≡ option_and_then f o
join-map f None = refl
join-map f (Some x) = refl

pub kind-alike : (b c : Board) (x : ℕ) → SameBody b c x → kind_of c x ≡ kind_of b x
kind-alike b c x h = at-body (λ (r : Record). r.kind) (λ r. refl) b c x h

pub of-alike : (b c : Board) (x : ℕ) (name : List ℕ) → SameBody b c x → is_of c name x ≡ is_of b name x
of-alike b c x name h = ap (λ (o : Option TypeId). option_map_or (λ (t : TypeId). is_a t name) o false) (kind-alike b c x h)

pub suits-alike : (b c : Board) (q d : ℕ) → SameBody b c q → SameBody b c d → suits c q d ≡ suits b q d
suits-alike b c q d bus own = ap (λ (o : Option TypeId). option_map_or (λ t. is_of c (bus_type t) q) o false) (kind-alike b c d own) ∙ go (kind_of b d)
  where
    go : (o : Option TypeId) → option_map_or (λ t. is_of c (bus_type t) q) o false ≡ option_map_or (λ t. is_of b (bus_type t) q) o false
    go None = refl
    go (Some t) = of-alike b c q (bus_type t) bus

pub id-alike : (b c : Board) (x : ℕ) → SameBody b c x → id_of c x ≡ id_of b x
id-alike b c x h =
    sym (join-map (λ (r : Record). r.device_id) (record_of c x))
    ∙ ap (option_and_then (λ (o : Option (List ℕ)). o)) (at-body (λ (r : Record). r.device_id) (λ r. refl) b c x h)
    ∙ join-map (λ (r : Record). r.device_id) (record_of b x)

pub path-alike : (b c : Board) (x : ℕ) → SameBody b c x → path_of c x ≡ path_of b x
path-alike b c x h =
    sym (join-map (λ (r : Record). r.kept_path) (record_of c x))
    ∙ ap (option_and_then (λ (o : Option (List ℕ)). o)) (at-body (λ (r : Record). r.kept_path) (λ r. refl) b c x h)
    ∙ join-map (λ (r : Record). r.kept_path) (record_of b x)

-- what is named is there

pub linked-at : (c : Board) → WellFormed c → (n : ℕ) → AllByRecursion (λ (s : List ℕ × Slot). Linked (kind_of c) s.1) (slots_at c n)
linked-at c h n = go (record_of c n) refl
  where
    go : (o : Option Record) → record_of c n ≡ o → AllByRecursion (λ (s : List ℕ × Slot). Linked (kind_of c) s.1) (option_map_or (λ (r : Record). r.slots) o [])
    go None e = tt
    go (Some r) e = all-found (λ (x : Record). AllByRecursion (λ (s : List ℕ × Slot). Linked (kind_of c) s.1) x.slots) n c.records h.linked r e

abbrev pub IsThere : Board → List ℕ × ℕ → Type 0
IsThere c e = is_live c e.1 ≡ true

some-live : (c : Board) (x : ℕ) → is_some (kind_of c x) ≡ true → is_live c x ≡ true
some-live c x e = sym (is_some-map (λ (r : Record). r.kind) (record_of c x)) ∙ e

fits-some : (kinds : ℕ → Option TypeId) (t : TypeId) (n : ℕ) → FitsKind kinds t (Some n) → is_some (kinds n) ≡ true
fits-some kinds t n h = go (kinds n) refl
  where
    go : (o : Option TypeId) → kinds n ≡ o → is_some (kinds n) ≡ true
    go None e = absurd (let clash : false ≡ true = rw (FitsKind, e) at h in cc)
    go (Some k) e = rw e refl

pub children-there : (c : Board) (slots : List (List ℕ × Slot)) → AllByRecursion (λ (s : List ℕ × Slot). Linked (kind_of c) s.1) slots
    → AllByRecursion (IsThere c) (filter_map child_entry slots)
children-there c [] h = tt
children-there c ((name, plain v) ∷ slots) h = children-there c slots h.1
children-there c ((name, child m) ∷ slots) h = (some-live c m h.0, children-there c slots h.1)
children-there c ((name, strong t target) ∷ slots) h = children-there c slots h.1
children-there c ((name, weak t target) ∷ slots) h = children-there c slots h.1
children-there c ((name, alias m property) ∷ slots) h = children-there c slots h.1

pub kids-there : (c : Board) (slots : List (List ℕ × Slot)) → AllByRecursion (λ (s : List ℕ × Slot). Linked (kind_of c) s.1) slots
    → AllByRecursion (IsThere c) (filter_map kid_entry slots)
kids-there c [] h = tt
kids-there c ((name, plain v) ∷ slots) h = kids-there c slots h.1
kids-there c ((name, child m) ∷ slots) h = kids-there c slots h.1
kids-there c ((name, strong t None) ∷ slots) h = kids-there c slots h.1
kids-there c ((name, strong t (Some m)) ∷ slots) h = (some-live c m (fits-some (kind_of c) t m h.0), kids-there c slots h.1)
kids-there c ((name, weak t target) ∷ slots) h = kids-there c slots h.1
kids-there c ((name, alias m property) ∷ slots) h = kids-there c slots h.1

-- a fact of each entry is one of what is listed
pub all-listed : (P : ℕ → Type 0) (es : List (List ℕ × ℕ)) → AllByRecursion (λ (e : List ℕ × ℕ). P e.1) es → (d : ℕ) → listed d es ≡ true → P d
all-listed P [] h d e = cc
all-listed P (x ∷ es) h d e = go (x.1 == d) refl (all-listed P es h.1 d)
  where
    go : (t : Bool) → (x.1 == d) ≡ t → (listed d es ≡ true → P d) → P d
    go true p rest = subst P (eqb-true x.1 d p) h.0
    go false p rest = rest (rw p at e)

pub child-live : (c : Board) → WellFormed c → (n d : ℕ) → listed d (child_entries c n) ≡ true → is_live c d ≡ true
child-live c h n d e = all-listed (λ x. is_live c x ≡ true) (child_entries c n) (children-there c (slots_at c n) (linked-at c h n)) d e

pub kid-live : (c : Board) → WellFormed c → (n d : ℕ) → listed d (kid_entries c n) ≡ true → is_live c d ≡ true
kid-live c h n d e = all-listed (λ x. is_live c x ≡ true) (kid_entries c n) (kids-there c (slots_at c n) (linked-at c h n)) d e

pub or-cases : (t u : Bool) → t || u ≡ true → {A : Type 0} → (t ≡ true → A) → (u ≡ true → A) → A
or-cases true u e f g = f refl
or-cases false u e f g = g e

pub stands-live : (c : Board) → WellFormed c → (d : ℕ) → stands c d ≡ true → is_live c d ≡ true
stands-live c h d e =
    or-cases (listed d (child_entries c PERIPHERAL_BIRTH)) (listed d (child_entries c ANONYMOUS_BIRTH)) e (child-live c h PERIPHERAL_BIRTH d)
    (child-live c h ANONYMOUS_BIRTH d)

-- the bus of a device is listed
pub bus-listed : (q : ℕ) (slots : List (List ℕ × Slot))
    → option_and_then strong_in (option_map (λ (s : List ℕ × Slot). s.1) (find (λ s. bytes_eq s.0 (codes "parent_bus")) slots)) ≡ Some q
    → listed q (filter_map kid_entry slots) ≡ true
bus-listed q [] e = cc
bus-listed q (s ∷ slots) e = go (bytes_eq s.0 (codes "parent_bus")) refl (bus-listed q slots)
  where
    here : (y : List ℕ × Slot) → strong_in y.1 ≡ Some q → listed q (filter_map kid_entry (y ∷ slots)) ≡ true
    here (name, plain v) k = cc
    here (name, child m) k = cc
    here (name, strong t None) k = cc
    here (name, strong t (Some m)) k = let same : (m == q) ≡ true = eq-eqb m q (same_Some m q k) in rw same refl
    here (name, weak t target) k = cc
    here (name, alias m property) k = cc

    there : (y : List ℕ × Slot) → listed q (filter_map kid_entry slots) ≡ true → listed q (filter_map kid_entry (y ∷ slots)) ≡ true
    there (name, plain v) k = k
    there (name, child m) k = k
    there (name, strong t None) k = k
    there (name, strong t (Some m)) k = more (m == q)
      where
        more : (t : Bool) → t || listed q (filter_map kid_entry slots) ≡ true
        more true = refl
        more false = k
    there (name, weak t target) k = k
    there (name, alias m property) k = k

    go : (t : Bool) → bytes_eq s.0 (codes "parent_bus") ≡ t
        → (option_and_then strong_in (option_map (λ (s : List ℕ × Slot). s.1) (find (λ s. bytes_eq s.0 (codes "parent_bus")) slots)) ≡ Some q
        → listed q (filter_map kid_entry slots) ≡ true)
        → listed q (filter_map kid_entry (s ∷ slots)) ≡ true
    go true p rest = here s (rw p at e)
    go false p rest = there s (rest (rw p at e))

-- what is read of an object shows that it is there
none-gone : (c : Board) (x : ℕ) → {A : Type 0} → (f : Option Record → Option A) → f None ≡ None → (a : A) → f (record_of c x) ≡ Some a → is_live c x ≡ true
none-gone c x f none a e = go (record_of c x) refl
  where
    go : (o : Option Record) → record_of c x ≡ o → is_live c x ≡ true
    go None q = absurd (let clash : None ≡ Some a = sym none ∙ sym (ap f q) ∙ e in cc)
    go (Some r) q = ap is_some q

pub of-live : (c : Board) (name : List ℕ) (x : ℕ) → is_of c name x ≡ true → is_live c x ≡ true
of-live c name x e = go (record_of c x) refl
  where
    go : (o : Option Record) → record_of c x ≡ o → is_live c x ≡ true
    go None q =
        absurd
        (let clash : false ≡ true =
        sym (ap (λ (u : Option Record). option_map_or (λ (t : TypeId). is_a t name) (option_map (λ (r : Record). r.kind) u) false) q) ∙ e in
        cc)
    go (Some r) q = ap is_some q

pub realized-live : (c : Board) (x : ℕ) → is_realized c x ≡ true → is_live c x ≡ true
realized-live c x e = go (record_of c x) refl
  where
    go : (o : Option Record) → record_of c x ≡ o → is_live c x ≡ true
    go None q = absurd (let clash : false ≡ true = rw q at e in cc)
    go (Some r) q = ap is_some q

pub id-live : (c : Board) (x : ℕ) (id : List ℕ) → id_of c x ≡ Some id → is_live c x ≡ true
id-live c x id e = none-gone c x (option_and_then (λ (r : Record). r.device_id)) refl id e

-- a list without some of its members
pub data Within {A : Type 0} : List A → List A → Type 0 where
  nothing : (ys : List A) → Within [] ys
  same : {xs ys : List A} (x : A) → Within xs ys → Within (x ∷ xs) (x ∷ ys)
  more : {xs ys : List A} (y : A) → Within xs ys → Within xs (y ∷ ys)

pub all-within : {A : Type 0} (P : A → Type 0) {xs ys : List A} → Within xs ys → AllByRecursion P ys → AllByRecursion P xs
all-within P (nothing ys) h = tt
all-within P (same x w) h = (h.0, all-within P w h.1)
all-within P (more y w) h = all-within P w h.1

-- where a member of the shorter list passes a test, one of the longer list does
pub within-any : {A : Type 0} (p : A → Bool) {xs ys : List A} → Within xs ys → list_any p xs ≡ true → list_any p ys ≡ true
within-any p (nothing ys) e = absurd (let clash : false ≡ true = e in cc)
within-any p (same {xs} {ys} x w) e = go (p x) refl (within-any p w)
  where
    go : (t : Bool) → p x ≡ t → (list_any p xs ≡ true → list_any p ys ≡ true) → list_any p (x ∷ ys) ≡ true
    go true q rest = rw q refl
    go false q rest = rw q (rest (rw q at e))
within-any p (more y w) e = rw (within-any p w e) (or-true (p y))

pub within-all : {A : Type 0} (xs : List A) → Within xs xs
within-all [] = nothing []
within-all (x ∷ xs) = same x (within-all xs)

pub within-same : {A : Type 0} {xs ys : List A} → xs ≡ ys → Within xs ys
within-same {A} {xs} {ys} e = subst (λ (zs : List A). Within xs zs) e (within-all xs)

-- an object whose children are places: one of the first four, or a device in a container
abbrev pub keeper : Board → ℕ → Bool
keeper b x = among (1 ∷ MACHINE_BIRTH ∷ PERIPHERAL_BIRTH ∷ ANONYMOUS_BIRTH ∷ []) x || stands b x

-- the same entries of the root and of the machine
pub rooted-same : (b c : Board) → SameBody b c 1 → child_entries c 1 ≡ child_entries b 1
    → child_entries c MACHINE_BIRTH ≡ child_entries b MACHINE_BIRTH → IsRooted b → IsRooted c
rooted-same b c own root machine h =
    record {
      root = kind-alike b c 1 own ∙ h.root;
      machine = ap (has_entry (codes "machine", MACHINE_BIRTH)) root ∙ h.machine;
      peripheral = ap (has_entry (codes "peripheral", PERIPHERAL_BIRTH)) machine ∙ h.peripheral;
      anonymous = ap (has_entry (codes "peripheral-anon", ANONYMOUS_BIRTH)) machine ∙ h.anonymous;
    }

-- who stands is none of these
pub aside-apart : (b : Board) (ns : List ℕ) → AllByRecursion (λ n. stands b n ≡ false) ns → (d : ℕ) → stands b d ≡ true → among ns d ≡ false
aside-apart b [] h d e = refl
aside-apart b (n ∷ ns) h d e = go (eqb d n) refl (aside-apart b ns h.1 d e)
  where
    go : (t : Bool) → eqb d n ≡ t → among ns d ≡ false → among (n ∷ ns) d ≡ false
    go true p rest = absurd (let clash : true ≡ false = sym e ∙ ap (stands b) (eqb-true d n p) ∙ h.0 in cc)
    go false p rest = rw p rest

-- who has the same children in the containers stands as before
pub stands-same : (b c : Board) → child_entries c PERIPHERAL_BIRTH ≡ child_entries b PERIPHERAL_BIRTH
    → child_entries c ANONYMOUS_BIRTH ≡ child_entries b ANONYMOUS_BIRTH → (d : ℕ) → stands c d ≡ stands b d
stands-same b c third fourth d = ap₂ (λ (xs ys : List (List ℕ × ℕ)). listed d xs || listed d ys) third fourth

-- what has an owner there has one here
abbrev pub OwnersStay : Board → Board → Type 0
OwnersStay b c = (q : ℕ) → HasOwner b q → HasOwner c q

-- so it is where who stands there stands here, and owns the same
pub owners-stay : (b c : Board) → ((p : ℕ) → stands b p ≡ true → stands c p ≡ true)
    → ((p q : ℕ) → stands b p ≡ true → owns b p q ≡ true → owns c p q ≡ true) → OwnersStay b c
owners-stay b c stay own q (machines k) = machines k
owners-stay b c stay own q (bridges p s o) = bridges p (stay p s) (own p q s o)

-- the parts that the machine has
abbrev pub HasParts : Board → Type 0
HasParts b =
    AllByRecursion (λ n. listed n (child_entries b MACHINE_BIRTH) ≡ true)
    (PERIPHERAL_BIRTH ∷ ANONYMOUS_BIRTH ∷ ROOT_BUS_BIRTH ∷ MEMORY_BUS_BIRTH ∷ SYSTEM_CLOCK_BIRTH ∷ [])

pub parts-same : (b c : Board) → child_entries c MACHINE_BIRTH ≡ child_entries b MACHINE_BIRTH → HasParts b → HasParts c
parts-same b c now h =
    all-imply (λ n. listed n (child_entries b MACHINE_BIRTH) ≡ true) (λ n. listed n (child_entries c MACHINE_BIRTH) ≡ true) (λ n k. ap (listed n) now ∙ k)
    (PERIPHERAL_BIRTH ∷ ANONYMOUS_BIRTH ∷ ROOT_BUS_BIRTH ∷ MEMORY_BUS_BIRTH ∷ SYSTEM_CLOCK_BIRTH ∷ []) h

-- a part of the machine is there
pub part-live : (b c : Board) → WellFormed c → child_entries c MACHINE_BIRTH ≡ child_entries b MACHINE_BIRTH → (n : ℕ)
    → listed n (child_entries b MACHINE_BIRTH) ≡ true → is_live c n ≡ true
part-live b c firm now n e = child-live c firm MACHINE_BIRTH n (ap (listed n) now ∙ e)

-- what places speak of is on a board as on another
pub record Kept (b c : Board) : Type 0 where
  pub firm : WellFormed c
  pub root : is_live c 1 ≡ true
  pub anonymous : c.anonymous ≡ b.anonymous
  pub body : (x : ℕ) → is_live c x ≡ true → option_map bodiless (record_of c x) ≡ option_map bodiless (record_of b x)
  pub realized : (x : ℕ) → is_live c x ≡ true → is_realized c x ≡ is_realized b x
  pub bus : (x : ℕ) → is_live c x ≡ true → stands b x ≡ true → bus_of c x ≡ bus_of b x
  pub place : (x : ℕ) → is_live c x ≡ true → stands b x ≡ true → bus_slot_of c x ≡ bus_slot_of b x
  pub children : (x : ℕ) → is_live c x ≡ true → keeper b x ≡ true → child_entries c x ≡ child_entries b x
  pub kids : (q : ℕ) → is_live c q ≡ true → is_of b (codes "bus") q ≡ true → HasOwner b q → kid_entries c q ≡ kid_entries b q
  pub fewer : (q : ℕ) → is_live c q ≡ true → is_of b (codes "bus") q ≡ true → Within (kid_entries c q) (kid_entries b q)
  pub within : (x : ℕ) → is_live c x ≡ true → Within (child_entries c x) (child_entries b x)

pub kept-alike : (b c : Board) → WellFormed c → is_live c 1 ≡ true → c.anonymous ≡ b.anonymous → ((x : ℕ) → is_live c x ≡ true → Alike b c x) → Kept b c
kept-alike b c firm root anonymous alike =
    record {
      firm = firm;
      root = root;
      anonymous = anonymous;
      body = λ x there. (alike x there).body;
      realized = λ x there. (alike x there).realized;
      bus = λ x there e. (alike x there).bus;
      place = λ x there e. (alike x there).place;
      children = λ x there e. (alike x there).children;
      kids = λ x there e o. (alike x there).kids;
      fewer = λ x there e. within-same (alike x there).kids;
      within = λ x there. within-same (alike x there).children;
    }

-- what is a child of which object, where types stay
pub at-home : (b c : Board) (p : ℕ) (e : List ℕ × ℕ) → SameBody b c p → SameBody b c e.1 → IsAtHome b p e → IsAtHome c p e
at-home b c p e above own k =
    record {
      bus = λ is. hosted (k.bus (sym (of-alike b c e.1 (codes "bus") own) ∙ is));
      device = λ is. k.device (sym (of-alike b c e.1 (codes "device") own) ∙ is);
    }
  where
    hosted : IsHosted b p e → IsHosted c p e
    hosted (on_machine its) = on_machine its
    hosted (on_device is apart) = on_device (of-alike b c p (codes "device") above ∙ is) apart

-- with fewer children
pub children-within : (b c : Board) → WellFormed c → ((x : ℕ) → is_live c x ≡ true → SameBody b c x)
    → ((x : ℕ) → is_live c x ≡ true → Within (child_entries c x) (child_entries b x)) → ((p : ℕ) → AllByRecursion (IsAtHome b p) (child_entries b p))
    → (p : ℕ) → AllByRecursion (IsAtHome c p) (child_entries c p)
children-within b c firm body within h p = go (record_of c p) refl
  where
    go : (o : Option Record) → record_of c p ≡ o → AllByRecursion (IsAtHome c p) (child_entries c p)
    go None e = rw e tt
    go (Some r) e =
        let there : is_live c p ≡ true = ap is_some e in
        all-imply (λ (x : List ℕ × ℕ). IsThere c x × IsAtHome b p x) (IsAtHome c p) (λ x k. at-home b c p x (body p there) (body x.1 k.0) k.1)
        (child_entries c p)
        (all-both (IsThere c) (IsAtHome b p) (child_entries c p) (children-there c (slots_at c p) (linked-at c firm p))
        (all-within (IsAtHome b p) (within p there) (h p)))

-- with more children after the others
pub record MoreChildren (b c : Board) (p : ℕ) : Type 0 where
  pub added : List (List ℕ × ℕ)
  pub later : child_entries c p ≡ child_entries b p ++ added
  pub at_home : AllByRecursion (IsAtHome c p) added

pub no-more : (b c : Board) (p : ℕ) → child_entries c p ≡ child_entries b p → MoreChildren b c p
no-more b c p e = record { added = []; later = e ∙ sym (append-nil (child_entries b p)); at_home = tt }

pub children-grown : (b c : Board) → WellFormed b → ((x : ℕ) → is_live b x ≡ true → SameBody b c x) → ((p : ℕ) → is_live b p ≡ true → MoreChildren b c p)
    → ((p : ℕ) → is_live b p ≡ false → AllByRecursion (IsAtHome c p) (child_entries c p)) → ((p : ℕ) → AllByRecursion (IsAtHome b p) (child_entries b p))
    → (p : ℕ) → AllByRecursion (IsAtHome c p) (child_entries c p)
children-grown b c firm body grows new h p = go (is_live b p) refl
  where
    go : (there : Bool) → is_live b p ≡ there → AllByRecursion (IsAtHome c p) (child_entries c p)
    go false e = new p e
    go true e =
        let m : MoreChildren b c p = grows p e in
        subst (AllByRecursion (IsAtHome c p)) (sym m.later)
        (all-append (IsAtHome c p) (child_entries b p) m.added
        (all-imply (λ (x : List ℕ × ℕ). IsThere b x × IsAtHome b p x) (IsAtHome c p) (λ x k. at-home b c p x (body p e) (body x.1 k.0) k.1) (child_entries b p)
        (all-both (IsThere b) (IsAtHome b p) (child_entries b p) (children-there b (slots_at b p) (linked-at b firm p)) (h p)))
        m.at_home)

-- above all births nothing is there
pub high-absent : (b : Board) → WellFormed b → (x : ℕ) → b.born < x → is_live b x ≡ false
high-absent b firm x high = go (record_of b x) refl
  where
    go : (o : Option Record) → record_of b x ≡ o → is_live b x ≡ false
    go None e = ap is_some e
    go (Some r) e = absurd (let low : x ≤ b.born = found-low b.born x b.records r firm.within e in let clash : 0 < 0 = omega (arith, low, high) in omega arith)

-- what stands in a container stays so, where its body stays
pub peripheral-alike : (b c : Board) (e : List ℕ × ℕ) → SameBody b c e.1 → IsPeripheral b e → IsPeripheral c e
peripheral-alike b c e a k =
    record { device = of-alike b c e.1 (codes "device") a ∙ k.device; id = id-alike b c e.1 a ∙ k.id; path = path-alike b c e.1 a ∙ k.path }

pub anonymous-alike : (b c : Board) (e : List ℕ × ℕ) → ((n : ℕ) → n < b.anonymous → n < c.anonymous) → SameBody b c e.1 → IsAnonymous b e → IsAnonymous c e
anonymous-alike b c e raised a k =
    let (n, (low, name)) = k.numbered in
    record {
      device = of-alike b c e.1 (codes "device") a ∙ k.device;
      id = id-alike b c e.1 a ∙ k.id;
      path = path-alike b c e.1 a ∙ k.path;
      numbered = (n, (raised n low, name));
    }

-- so does all that stands there
module _ (b c : Board) (body : (x : ℕ) → is_live b x ≡ true → SameBody b c x) where
  pub peripheral-stays : (es : List (List ℕ × ℕ)) → AllByRecursion (IsPeripheral b) es → AllByRecursion (IsPeripheral c) es
  peripheral-stays =
      all-imply (IsPeripheral b) (IsPeripheral c) (λ e k. peripheral-alike b c e (body e.1 (of-live b (codes "device") e.1 k.device)) k)

  pub anonymous-stays : ((n : ℕ) → n < b.anonymous → n < c.anonymous) → (es : List (List ℕ × ℕ)) → AllByRecursion (IsAnonymous b) es
      → AllByRecursion (IsAnonymous c) es
  anonymous-stays raised =
      all-imply (IsAnonymous b) (IsAnonymous c) (λ e k. anonymous-alike b c e raised (body e.1 (of-live b (codes "device") e.1 k.device)) k)

-- with fewer entries, where what is there stays
module _ (b c : Board) (firm : WellFormed c) (body : (x : ℕ) → is_live c x ≡ true → SameBody b c x) where
  pub peripheral-within : (p : ℕ) → Within (child_entries c p) (child_entries b p) → AllByRecursion (IsPeripheral b) (child_entries b p)
      → AllByRecursion (IsPeripheral c) (child_entries c p)
  peripheral-within p within h =
      all-imply (λ (e : List ℕ × ℕ). IsThere c e × IsPeripheral b e) (IsPeripheral c) (λ e k. peripheral-alike b c e (body e.1 k.0) k.1) (child_entries c p)
      (all-both (IsThere c) (IsPeripheral b) (child_entries c p) (children-there c (slots_at c p) (linked-at c firm p))
      (all-within (IsPeripheral b) within h))

  pub anonymous-within : c.anonymous ≡ b.anonymous → (p : ℕ) → Within (child_entries c p) (child_entries b p)
      → AllByRecursion (IsAnonymous b) (child_entries b p)
      → AllByRecursion (IsAnonymous c) (child_entries c p)
  anonymous-within count p within h =
      all-imply (λ (e : List ℕ × ℕ). IsThere c e × IsAnonymous b e) (IsAnonymous c)
      (λ e k. anonymous-alike b c e (λ n low. subst (λ (x : ℕ). n < x) (sym count) low) (body e.1 k.0) k.1) (child_entries c p)
      (all-both (IsThere c) (IsAnonymous b) (child_entries c p) (children-there c (slots_at c p) (linked-at c firm p))
      (all-within (IsAnonymous b) within h))

module _ (b c : Board) (kept : Kept b c) (depth : ℕ → ℕ) (left : Option ℕ) (out : ℕ → Bool) (h : PlacesBut depth left out b) where
  machine : listed MACHINE_BIRTH (child_entries c 1) ≡ true
  machine = ap (listed MACHINE_BIRTH) (kept.children 1 kept.root refl) ∙ h.machine

  machine-live : is_live c MACHINE_BIRTH ≡ true
  machine-live = child-live c kept.firm 1 MACHINE_BIRTH machine

  second : child_entries c MACHINE_BIRTH ≡ child_entries b MACHINE_BIRTH
  second = kept.children MACHINE_BIRTH machine-live refl

  peripherals : child_entries c PERIPHERAL_BIRTH ≡ child_entries b PERIPHERAL_BIRTH
  peripherals = kept.children PERIPHERAL_BIRTH (part-live b c kept.firm second PERIPHERAL_BIRTH h.parts.0) refl

  anonymouses : child_entries c ANONYMOUS_BIRTH ≡ child_entries b ANONYMOUS_BIRTH
  anonymouses = kept.children ANONYMOUS_BIRTH (part-live b c kept.firm second ANONYMOUS_BIRTH h.parts.1.0) refl

  pub same-stands : (d : ℕ) → stands c d ≡ stands b d
  same-stands = stands-same b c peripherals anonymouses

  stood : (d : ℕ) → stands c d ≡ true → stands b d ≡ true
  stood d e = sym (same-stands d) ∙ e

  keeps : (d : ℕ) → stands c d ≡ true → keeper b d ≡ true
  keeps d e = rw (stood d e) (or-true (among (1 ∷ MACHINE_BIRTH ∷ PERIPHERAL_BIRTH ∷ ANONYMOUS_BIRTH ∷ []) d))

  there : (d : ℕ) → stands c d ≡ true → is_live c d ≡ true
  there d e = stands-live c kept.firm d e

  kids : (q : ℕ) → is_of c (codes "bus") q ≡ true → AllByRecursion (IsKid c q) (kid_entries c q)
  kids q e =
      let live : is_live c q ≡ true = of-live c (codes "bus") q e in
      let was : is_of b (codes "bus") q ≡ true = sym (of-alike b c q (codes "bus") (kept.body q live)) ∙ e in
      all-imply (λ (x : List ℕ × ℕ). IsThere c x × IsKid b q x) (IsKid c q) (one live) (kid_entries c q)
      (all-both (IsThere c) (IsKid b q) (kid_entries c q) (kids-there c (slots_at c q) (linked-at c kept.firm q))
      (all-within (IsKid b q) (kept.fewer q live was) (h.kids q was)))
    where
      one : is_live c q ≡ true → (x : List ℕ × ℕ) → IsThere c x × IsKid b q x → IsKid c q x
      one live x k =
          let (n, (low, (place, name))) = k.1.slot in
          record {
            there = same-stands x.1 ∙ k.1.there;
            on = kept.bus x.1 k.0 k.1.there ∙ k.1.on;
            fits = suits-alike b c q x.1 (kept.body q live) (kept.body x.1 k.0) ∙ k.1.fits;
            slot = (n, (low, (kept.place x.1 k.0 k.1.there ∙ place, name)));
          }

  home : (d : ℕ) → stands c d ≡ true → left ≢ Some d → IsHome c d
  home d e apart =
      let old : IsHome b d = h.home d (stood d e) apart in
      let on : bus_of c d ≡ Some old.bus = kept.bus d (there d e) (stood d e) ∙ old.on in
      let live : is_live c old.bus ≡ true = kid-live c kept.firm d old.bus (bus-listed old.bus (slots_at c d) on) in
      record {
        bus = old.bus;
        on = on;
        is_bus = of-alike b c old.bus (codes "bus") (kept.body old.bus live) ∙ old.is_bus;
        kid = ap (listed d) (kept.kids old.bus live old.is_bus (h.owner d old.bus (stood d e) old.on)) ∙ old.kid;
      }

  pub owner-on : OwnersStay b c
  owner-on =
      owners-stay b c (λ p s. same-stands p ∙ s)
      (λ p q s o. let e : stands c p ≡ true = same-stands p ∙ s in ap (list_any (owns_it q)) (kept.children p (there p e) (keeps p e)) ∙ o)

  pub owner-back : OwnersStay c b
  owner-back = owners-stay c b stood (λ p q e o. sym (ap (list_any (owns_it q)) (kept.children p (there p e) (keeps p e))) ∙ o)

  shallow : IsShallow depth c
  shallow =
      record {
        top = h.shallow.top;
        below = λ p q m e on o. h.shallow.below p q m (stood p e) (sym (kept.bus p (there p e) (stood p e)) ∙ on)
            (sym (ap (list_any (owns_it m)) (kept.children p (there p e) (keeps p e))) ∙ o);
        most = λ q o. h.shallow.most q (owner-back q o);
      }

  pub places-kept : PlacesBut depth left out c
  places-kept =
      record {
        machine = machine;
        objects = ap (listed OBJECTS_BIRTH) (kept.children 1 kept.root refl) ∙ h.objects;
        parts = parts-same b c second h.parts;
        rooted = rooted-same b c (kept.body 1 kept.root) (kept.children 1 kept.root refl) second h.rooted;
        children = children-within b c kept.firm kept.body kept.within h.children;
        aside =
            all-imply (λ n. stands b n ≡ false) (λ n. stands c n ≡ false) (λ n k. same-stands n ∙ k)
            (1 ∷ MACHINE_BIRTH ∷ PERIPHERAL_BIRTH ∷ ANONYMOUS_BIRTH ∷ ROOT_BUS_BIRTH ∷ MEMORY_BUS_BIRTH ∷ OBJECTS_BIRTH ∷ []) h.aside;
        peripheral = peripheral-within b c kept.firm kept.body PERIPHERAL_BIRTH (within-same peripherals) h.peripheral;
        anonymous = anonymous-within b c kept.firm kept.body kept.anonymous ANONYMOUS_BIRTH (within-same anonymouses) h.anonymous;
        kids = kids;
        home = home;
        owner = λ d q e on. owner-on q (h.owner d q (stood d e) (sym (kept.bus d (there d e) (stood d e)) ∙ on));
        shallow = shallow;
        only = λ d e. same-stands d ∙ h.only d (sym (kept.realized d (realized-live c d e)) ∙ e);
        each = λ d e apart. kept.realized d (there d e) ∙ h.each d (stood d e) apart;
        ids = λ d id e.
            let a : SameBody b c d = kept.body d (id-live c d id e) in
            of-alike b c d (codes "device") a ∙ h.ids d id (sym (id-alike b c d a) ∙ e);
        once =
            λ d x id e q. h.once d x id (sym (id-alike b c d (kept.body d (id-live c d id e))) ∙ e) (sym (id-alike b c x (kept.body x (id-live c x id q))) ∙ q);
      }

-- places are kept, and the same devices stand
pub record Keeps (depth : ℕ → ℕ) (b c : Board) : Type 0 where
  pub places : PlacesBut depth None (λ x. false) c
  pub stood : (d : ℕ) → stands c d ≡ stands b d

pub keeps-none : (depth : ℕ → ℕ) (b : Board) → PlacesBut depth None (λ x. false) b → Keeps depth b b
keeps-none depth b h = record { places = h; stood = λ d. refl }

-- a release

pinned-times : (n : ℕ) (ps : List ℕ) → among ps n ≡ true → 0 < times n ps
pinned-times n [] e = cc
pinned-times n (p ∷ ps) e = go (eqb n p) refl (pinned-times n ps)
  where
    go : (t : Bool) → eqb n p ≡ t → (among ps n ≡ true → 0 < times n ps) → 0 < times n (p ∷ ps)
    go true q rest = let own : (p == n) ≡ true = grind (arith, q) in let one : one_at n p ≡ 1 = rw own refl in omega (arith, one, sum_by-cons (one_at n) p ps)
    go false q rest = let some : 0 < times n ps = rest (rw q at e) in omega (arith, some, sum_by-cons (one_at n) p ps)

-- what is pinned is there after a release
record Pinned (n : ℕ) (work : List (ℕ × ℕ)) (c : Board) : Type 0 where
  live : is_live c n ≡ true
  idle : among (births_of work) n ≡ false
  pins : 0 < times n c.pins

pinned-keeps : (n : ℕ) → KeepsRelease (Pinned n)
unfolding finish drop_slot
pinned-keeps n =
    record {
      ended = λ c m i work h e. ended c m i work h;
      freed = λ c m i work s k h e q free. record { live = drop-live c m i n ∙ h.live; idle = apart c m i work s k h free; pins = h.pins };
      kept = λ c m i work s h e held_on. record { live = drop-live c m i n ∙ h.live; idle = h.idle; pins = h.pins };
    }
  where
    ended : (c : Board) (m i : ℕ) (work : List (ℕ × ℕ)) → Pinned n ((m, i) ∷ work) c → Pinned n work (finish c m)
    ended c m i work h =
        let split : ((n == m) ≡ false) × (among (births_of work) n ≡ false) = apart-first m n (births_of work) h.idle in
        let differs : (n == m) ≡ false = split.0 in
        record { live = finish-live c m n ∙ rw differs h.live; idle = split.1; pins = h.pins }

    apart : (c : Board) (m i : ℕ) (work : List (ℕ × ℕ)) (s : Slot) (k : ℕ) → Pinned n ((m, i) ∷ work) c → refs (drop_slot c m i) k ≡ 0
        → among (k ∷ m ∷ births_of work) n ≡ false
    apart c m i work s k h free = go (eqb n k) refl
      where
        go : (t : Bool) → eqb n k ≡ t → among (k ∷ m ∷ births_of work) n ≡ false
        go false p = rw p h.idle
        go true p =
            let is : n ≡ k = eqb-true n k p in
            let none : refs (drop_slot c m i) n ≡ 0 = ap (refs (drop_slot c m i)) is ∙ free in
            absurd (let some : 0 < times n c.pins = h.pins in omega (arith, none, some))

after-root : (b : Board) (o : Option ℕ) (n : ℕ) → is_live b n ≡ true → among b.pins n ≡ true → is_live (after finalize b o) n ≡ true
after-root b o n there pinned =
    (after_keeps (Pinned n) (pinned-keeps n) b o [] free (λ some. record { live = there; idle = refl; pins = pinned-times n b.pins pinned })).live
  where
    free : (m : ℕ) → o ≡ Some m → refs b m ≡ 0 → Pinned n ((m, 0) ∷ []) b
    free m e none = record { live = there; idle = go (eqb n m) refl; pins = pinned-times n b.pins pinned }
      where
        go : (t : Bool) → eqb n m ≡ t → among (m ∷ []) n ≡ false
        go false p = rw p refl
        go true p =
            let is : n ≡ m = eqb-true n m p in
            let nothing : refs b n ≡ 0 = ap (refs b) is ∙ none in
            absurd (let some : 0 < times n b.pins = pinned-times n b.pins pinned in omega (arith, nothing, some))

pub after-anonymous : (b : Board) (o : Option ℕ) → (after finalize b o).anonymous ≡ b.anonymous
after-anonymous b None = refl
after-anonymous b (Some m) = go (refs b m == 0) refl
  where
    go : (t : Bool) → (refs b m == 0) ≡ t → (after finalize b (Some m)).anonymous ≡ b.anonymous
    go true p = rw (after, p) (release_leaves b m).anonymous
    go false p = rw (after, p) refl

-- an object with a child is there
pub owner-live : (b : Board) (n d : ℕ) → listed d (child_entries b n) ≡ true → is_live b n ≡ true
owner-live b n d e = go (record_of b n) refl
  where
    go : (o : Option Record) → record_of b n ≡ o → is_live b n ≡ true
    go None q = absurd (let clash : false ≡ true = rw q at e in cc)
    go (Some r) q = ap is_some q

-- a release keeps what is shown of any board, where it keeps the tree and birth 1 is pinned
pub after-kept : (b : Board) (o : Option ℕ) → WellFormed (after finalize b o) → is_live b 1 ≡ true → among b.pins 1 ≡ true → Kept b (after finalize b o)
after-kept b o firm there pinned = kept-alike b (after finalize b o) firm (after-root b o 1 there pinned) (after-anonymous b o) (after-alike b o)

pub after-places : (depth : ℕ → ℕ) (left : Option ℕ) (out : ℕ → Bool) (b : Board) (o : Option ℕ) → WellFormed (after finalize b o) → among b.pins 1 ≡ true
    → PlacesBut depth left out b → PlacesBut depth left out (after finalize b o)
after-places depth left out b o firm pinned h =
    places-kept b (after finalize b o) (after-kept b o firm (owner-live b 1 MACHINE_BIRTH h.machine) pinned) depth left out h
