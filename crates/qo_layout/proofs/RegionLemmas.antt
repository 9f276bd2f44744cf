-- The region of a number, and who has one: the buses and devices on the way from the root bus down.
use Rattle.std.proofs.Common.{◌≡◌, refl, ap, sym, subst, ◌∙◌, ℕ, zero, suc, ◌+◌, ◌≤◌, ◌<◌, Bool, true, false, not, ◌||◌, cond, ◌==◌, eqb, List, [], ◌∷◌, ◌++◌, find, filter_map, get_or, map, length, option_map, option_and_then, Option, Some, None, codes, inl, inr, ◌⊎◌, arith}
use Rattle.std.specs.List.{AllByRecursion, position_or_len}
use Rattle.std.specs.Str.{bytes_eq}
use Rattle.std.proofs.lemmas.Bool.{eqb-true, eq-eqb}
use Rattle.std.proofs.lemmas.List.{get_or-append-add, length-map}
use Rattle.std.proofs.lemmas.Option.{same_Some}
use Rattle.std.proofs.lemmas.Slice.Eq.{bytes_eq-Decides}
use Rattle.qo_values.specs.declared.births.TheConstants.{MACHINE_BIRTH, MEMORY_BUS_BIRTH, ROOT_BUS_BIRTH}
use Rattle.qo_values.specs.declared.limits.TheConstants.{BUS_SLOTS}
use Rattle.qo_model.specs.Board.{Board, Slot, plain, child, strong, weak, alias, slots_at}
use Rattle.qo_model.specs.Depth.{among, leads}
use Rattle.qo_model.specs.Devices.{bus_of, buses_of, depth_of, first_bus, kid_at, kid_name, strong_in}
use Rattle.qo_model.specs.Paths.{is_of}
use Rattle.qo_model.specs.Reset.{below, post}
use Rattle.qo_sound_devices.specs.SoundDevices.{SoundDevices}
use Rattle.qo_sound_devices.specs.SoundPlaces.{HasOwner, machines, bridges, IsKid, kid_entry, listed, child_entries, stands, owns}
use Rattle.qo_sound_devices.proofs.AttachmentLemmas.{owns-listed}
use Rattle.qo_sound_devices.proofs.DepthLemmas.{IsBusOf, is-bus_of}
use Rattle.qo_sound_devices.proofs.LocationLemmas.{machine-no_device}
use Rattle.qo_sound_devices.proofs.PlugLemmas.{depth-is}
use Rattle.qo_sound.proofs.TestLemmas.{decide, clash, clash-back}
use Rattle.qo_sound_phases.proofs.ForestLemmas.{Reach, itself, further}
use Rattle.qo_sound_phases.proofs.ListLemmas.{among-cases, among-left, among-right}
use Rattle.qo_sound_phases.proofs.ReachLemmas.{machines-listed}
use Rattle.qo_sound_phases.proofs.ResetTreeLemmas.{Placed, placed, bus-leads, kid-leads, leads-cases, one-parent, post-reach, reach-post, stands-no_bus}
use Rattle.qo_memmap.specs.Regions.{area_at}
use Rattle.qo_memmap.specs.declared.region.Kind.TheVariants.{Container, Leaf}
use Rattle.qo_layout.specs.Layout.{board_map, boot_leaf, boot_number, bus_of_slots, low_alias, low_number, mapped, memory_window, number_of, region_of, root_number, root_region, slot_size}
use Rattle.qo_layout.specs.declared.addresses.TheConstants.{DEVICE_SIZE}

-- Numbers.

-- what stands at the place of a member, where each is mapped
mapped-at : {X : Type 0} (f : ℕ → X) (rest : List X) (d : X) (o : ℕ) (xs : List ℕ) → among xs o ≡ true
    → get_or (map f xs ++ rest) (position_or_len (eqb o) xs) d ≡ f o
mapped-at f rest d o [] e = clash-back e
mapped-at f rest d o (x ∷ xs) e = go (eqb o x) refl (mapped-at f rest d o xs)
  where
    go : (t : Bool) → eqb o x ≡ t → (among xs o ≡ true → get_or (map f xs ++ rest) (position_or_len (eqb o) xs) d ≡ f o)
        → get_or (f x ∷ map f xs ++ rest) (cond (not (eqb o x)) (1 + position_or_len (eqb o) xs) 0) d ≡ f o
    go true p later = rw p (ap f (sym (eqb-true o x p)))
    go false p later =
        let next : 1 + position_or_len (eqb o) xs ≡ suc (position_or_len (eqb o) xs) = omega arith in
        rw (p, next) (later (rw p at e))

-- what stands at any place of those, and that it is a member, whose place is no later
pub mapped-in : {X : Type 0} (f : ℕ → X) (rest : List X) (d : X) (r : ℕ) (xs : List ℕ) → r < length xs
    → get_or (map f xs ++ rest) r d ≡ f (get_or xs r 0)
mapped-in f rest d r [] low = absurd (omega arith)
mapped-in f rest d zero (x ∷ xs) low = refl
mapped-in f rest d (suc r) (x ∷ xs) low = mapped-in f rest d r xs (omega arith)

pub member-at : (r : ℕ) (xs : List ℕ) → r < length xs → (among xs (get_or xs r 0) ≡ true) × (position_or_len (eqb (get_or xs r 0)) xs ≤ r)
member-at r [] low = absurd (omega arith)
member-at zero (x ∷ xs) low = let same : eqb x x ≡ true = eq-eqb x x refl in (rw same refl, rw same (omega arith))
member-at (suc r) (x ∷ xs) low = go (eqb (get_or xs r 0) x) refl (member-at r xs (omega arith))
  where
    go : (t : Bool) → eqb (get_or xs r 0) x ≡ t → (among xs (get_or xs r 0) ≡ true) × (position_or_len (eqb (get_or xs r 0)) xs ≤ r)
        → (eqb (get_or xs r 0) x || among xs (get_or xs r 0) ≡ true)
        × (cond (not (eqb (get_or xs r 0) x)) (1 + position_or_len (eqb (get_or xs r 0)) xs) 0 ≤ suc r)
    go true p rest = (rw p refl, rw p (omega arith))
    go false p rest = (rw p rest.0, rw p (omega (arith, rest.1)))

-- what stands behind those that are mapped
behind-mapped : {X : Type 0} (f : ℕ → X) (rest : List X) (d : X) (n : ℕ) (xs : List ℕ) → get_or (map f xs ++ rest) (length xs + n) d ≡ get_or rest n d
behind-mapped f rest d n xs =
    ap (λ (m : ℕ). get_or (map f xs ++ rest) (m + n) d) (sym (length-map xs f)) ∙ get_or-append-add (map f xs) rest n d

pub region-at : (b : Board) (o : ℕ) → among (mapped b) o ≡ true → area_at (board_map b) (number_of b o) ≡ region_of b o
region-at b o e =
    mapped-at (region_of b) (boot_leaf ∷ low_alias b ∷ root_region b ∷ []) (record { size = 0; kind = Container; children = [] }) o (mapped b) e

pub last-at : (b : Board) (n : ℕ) → area_at (board_map b) (length (mapped b) + n)
    ≡ get_or (boot_leaf ∷ low_alias b ∷ root_region b ∷ []) n (record { size = 0; kind = Container; children = [] })
last-at b n =
    behind-mapped (region_of b) (boot_leaf ∷ low_alias b ∷ root_region b ∷ []) (record { size = 0; kind = Container; children = [] }) n (mapped b)

pub boot-at : (b : Board) → area_at (board_map b) (boot_number b) ≡ boot_leaf
boot-at b = let same : boot_number b ≡ length (mapped b) + 0 = omega arith in ap (area_at (board_map b)) same ∙ last-at b 0

pub low-at : (b : Board) → area_at (board_map b) (low_number b) ≡ low_alias b
low-at b = last-at b 1

pub root-at : (b : Board) → area_at (board_map b) (root_number b) ≡ root_region b
root-at b = last-at b 2

-- Slots of a bus.

-- the numbers in the names of links
kid-number : (i k : ℕ) → kid_name i ≡ kid_name k → i ≡ k
kid-number i k e = let same : 48 + i ≡ 48 + k = ap (λ (xs : List ℕ). get_or xs 6 0) e in omega arith

-- a link of a name that is not empty is among the entries of kids
kid-entry : (P : List ℕ × ℕ → Type 0) (name : List ℕ) (d : ℕ) (slots : List (List ℕ × Slot)) → AllByRecursion P (filter_map kid_entry slots)
    → option_and_then strong_in (option_map (λ (s : List ℕ × Slot). s.1) (find (λ (s : List ℕ × Slot). bytes_eq s.0 name) slots)) ≡ Some d
    → (own : List ℕ) × ((bytes_eq own name ≡ true) × P (own, d))
kid-entry P name d [] all e = absurd (let none : None ≡ Some d = e in cc)
kid-entry P name d (s ∷ slots) all e =
    decide (bytes_eq s.0 name) (λ q. here s all q (rw q at e)) (λ q. kid-entry P name d slots (after s all) (rw q at e))
  where
    Found : Type 0
    Found = (own : List ℕ) × ((bytes_eq own name ≡ true) × P (own, d))

    here : (s : List ℕ × Slot) → AllByRecursion P (filter_map kid_entry (s ∷ slots)) → bytes_eq s.0 name ≡ true → strong_in s.1 ≡ Some d → Found
    here (own, strong t (Some m)) all is q = (own, (is, subst (λ (x : ℕ). P (own, x)) (same_Some m d q) all.0))
    here (own, strong t None) all is q = absurd (let none : None ≡ Some d = q in cc)
    here (own, plain v) all is q = absurd (let none : None ≡ Some d = q in cc)
    here (own, child m) all is q = absurd (let none : None ≡ Some d = q in cc)
    here (own, weak t target) all is q = absurd (let none : None ≡ Some d = q in cc)
    here (own, alias m property) all is q = absurd (let none : None ≡ Some d = q in cc)

    after : (s : List ℕ × Slot) → AllByRecursion P (filter_map kid_entry (s ∷ slots)) → AllByRecursion P (filter_map kid_entry slots)
    after (own, strong t (Some m)) all = all.1
    after (own, strong t None) all = all
    after (own, plain v) all = all
    after (own, child m) all = all
    after (own, weak t target) all = all
    after (own, alias m property) all = all

first-among : (m : ℕ) (ms : List ℕ) → elim ms as (λ _. Option ℕ) [ [] ↦ None | k ∷ _ ↦ Some k ] ≡ Some m → among ms m ≡ true
first-among m [] e = absurd (let none : None ≡ Some m = e in cc)
first-among m (k ∷ ms) e = rw (eq-eqb m k (sym (same_Some k m e))) refl

-- The way down.

module _ (b : Board) (h : SoundDevices b) where
  abbrev pub k : Placed b
  k = placed b h

  -- a bus of slots below the root bus, below so many bridges
  pub record IsBusAt (q depth : ℕ) : Type 0 where
    pub is_bus : is_of b (codes "bus") q ≡ true
    pub owner : HasOwner b q
    pub reached : Reach (below b) ROOT_BUS_BIRTH q
    pub at : depth_of b q ≡ depth
    pub apart : (q == MEMORY_BUS_BIRTH) ≡ false

  -- a device in a slot of such a bus
  pub record IsKidAt (q i e : ℕ) : Type 0 where
    pub low : i < BUS_SLOTS
    pub stood : stands b e ≡ true
    pub on : bus_of b e ≡ Some q

  pub depth-same : (q : ℕ) → HasOwner b q → k.depth q ≡ depth_of b q
  depth-same q o = depth-is k.depth (λ x. false) b k.firm k.places (machine-no_device k.depth None (λ x. false) b k.places) q o

  pub shallow : (q depth : ℕ) → IsBusAt q depth → depth ≤ 8
  shallow q depth w =
      let most : k.depth q ≤ 8 = k.places.shallow.most q w.owner in
      let same : k.depth q ≡ depth = depth-same q w.owner ∙ w.at in
      omega (arith, most, same)

  pub root-bus : is_of b (codes "bus") ROOT_BUS_BIRTH ≡ true → IsBusAt ROOT_BUS_BIRTH 0
  root-bus is =
      let mine : HasOwner b ROOT_BUS_BIRTH = machines refl in
      record { is_bus = is; owner = mine; reached = itself; at = sym (depth-same ROOT_BUS_BIRTH mine) ∙ k.places.shallow.top.0; apart = refl }

  pub kid-on : (q i e : ℕ) → is_of b (codes "bus") q ≡ true → kid_at b q i ≡ Some e → IsKidAt q i e
  kid-on q i e is at =
      let (own, (named, its)) = kid-entry (IsKid b q) (kid_name i) e (slots_at b q) (k.places.kids q is) at in
      let (slot, (low, (told, name))) = its.slot in
      let same : i ≡ slot = kid-number i slot (sym ((bytes_eq-Decides own (kid_name i)).0 named) ∙ name) in
      record { low = subst (λ (x : ℕ). x < BUS_SLOTS) (sym same) low; stood = its.there; on = its.on }

  pub kid-is : (q depth i e : ℕ) → IsBusAt q depth → kid_at b q i ≡ Some e → IsKidAt q i e
  kid-is q depth i e w at = kid-on q i e w.is_bus at

  pub kid-below : (q i e : ℕ) → IsKidAt q i e → leads (below b) q e ≡ true
  kid-below q i e its = kid-leads b k e q its.stood its.on

  kid-reached : (q depth i e : ℕ) → IsBusAt q depth → IsKidAt q i e → Reach (below b) ROOT_BUS_BIRTH e
  kid-reached q depth i e w its = further w.reached (kid-below q i e its)

  -- what is below one that has a region has one
  pub mapped-below : (o m : ℕ) → among (mapped b) o ≡ true → leads (below b) o m ≡ true → among (mapped b) m ≡ true
  mapped-below o m e l =
      among-cases o (post b ROOT_BUS_BIRTH) (post b MEMORY_BUS_BIRTH) e
      (λ i.
      among-left m (post b ROOT_BUS_BIRTH) (post b MEMORY_BUS_BIRTH)
      (reach-post b k ROOT_BUS_BIRTH m (further (post-reach b k ROOT_BUS_BIRTH o i) l)))
      (λ i.
      among-right m (post b ROOT_BUS_BIRTH) (post b MEMORY_BUS_BIRTH)
      (reach-post b k MEMORY_BUS_BIRTH m (further (post-reach b k MEMORY_BUS_BIRTH o i) l)))

  reached-mapped : (o : ℕ) → Reach (below b) ROOT_BUS_BIRTH o → among (mapped b) o ≡ true
  reached-mapped o r = among-left o (post b ROOT_BUS_BIRTH) (post b MEMORY_BUS_BIRTH) (reach-post b k ROOT_BUS_BIRTH o r)

  bus-owned : (e m : ℕ) → first_bus b e ≡ Some m → IsBusOf b e m
  bus-owned e m first = is-bus_of b e m (first-among m (buses_of b e) first)

  pub bus-below : (q i e m : ℕ) → IsKidAt q i e → first_bus b e ≡ Some m → leads (below b) e m ≡ true
  bus-below q i e m its first =
      let bus : IsBusOf b e m = bus-owned e m first in bus-leads b k e m (stands-no_bus b k e its.stood) bus.bus bus.owned

  -- the bus of a device on a bus
  pub record IsBusBelow (q m : ℕ) : Type 0 where
    pub is_bus : is_of b (codes "bus") m ≡ true
    pub owner : HasOwner b m
    pub apart : (m == MEMORY_BUS_BIRTH) ≡ false
    pub deeper : k.depth m ≡ suc (k.depth q)

  pub bus-on : (q i e m : ℕ) → IsKidAt q i e → first_bus b e ≡ Some m → IsBusBelow q m
  bus-on q i e m its first =
      record {
        is_bus = bus.bus;
        owner = bridges e its.stood bus.owned;
        apart = decide (m == MEMORY_BUS_BIRTH) (λ p. clash (sym its.stood ∙ machine p)) (λ p. p);
        deeper = k.places.shallow.below e q m its.stood its.on bus.owned;
      }
    where
      bus : IsBusOf b e m
      bus = bus-owned e m first

      machine : (m == MEMORY_BUS_BIRTH) ≡ true → stands b e ≡ false
      machine p =
          let is : m ≡ MEMORY_BUS_BIRTH = eqb-true m MEMORY_BUS_BIRTH p in
          let at_e : listed MEMORY_BUS_BIRTH (child_entries b e) ≡ true =
          subst (λ (x : ℕ). listed x (child_entries b e) ≡ true) is (owns-listed m (child_entries b e) bus.owned) in
          let same : e ≡ MACHINE_BIRTH = one-parent b k e MACHINE_BIRTH MEMORY_BUS_BIRTH at_e (machines-listed b k MEMORY_BUS_BIRTH refl) in
          ap (stands b) same ∙ k.places.aside.1.0

  pub bus-is : (q depth i e m : ℕ) → IsBusAt q depth → IsKidAt q i e → first_bus b e ≡ Some m → IsBusAt m (suc depth)
  bus-is q depth i e m w its first =
      let bus : IsBusBelow q m = bus-on q i e m its first in
      record {
        is_bus = bus.is_bus;
        owner = bus.owner;
        reached = further (kid-reached q depth i e w its) (bus-below q i e m its first);
        at = sym (depth-same m bus.owner) ∙ bus.deeper ∙ ap (λ (n : ℕ). suc n) (depth-same q w.owner ∙ w.at);
        apart = bus.apart;
      }

  -- who has a region is a bus of the machine or of a device, or a device
  reach-cases : (r o : ℕ) → is_of b (codes "bus") r ≡ true → HasOwner b r → Reach (below b) r o
      → ((is_of b (codes "bus") o ≡ true) × HasOwner b o) ⊎ (stands b o ≡ true)
  reach-cases r o is own itself = inl (is, own)
  reach-cases r o is own (further {p} i l) =
      leads-cases b k p o l (λ also s on. inr s) (λ apart is_o owned. by (reach-cases r p is own i) apart is_o owned)
    where
      by : ((is_of b (codes "bus") p ≡ true) × HasOwner b p) ⊎ (stands b p ≡ true) → is_of b (codes "bus") p ≡ false → is_of b (codes "bus") o ≡ true
          → owns b p o ≡ true → ((is_of b (codes "bus") o ≡ true) × HasOwner b o) ⊎ (stands b o ≡ true)
      by (inl its) apart is_o owned = clash (sym its.0 ∙ apart)
      by (inr s) apart is_o owned = inl (is_o, bridges p s owned)

  pub mapped-cases : is_of b (codes "bus") ROOT_BUS_BIRTH ≡ true → is_of b (codes "bus") MEMORY_BUS_BIRTH ≡ true → (o : ℕ) → among (mapped b) o ≡ true
      → ((is_of b (codes "bus") o ≡ true) × HasOwner b o) ⊎ (stands b o ≡ true)
  mapped-cases root memory o e =
      among-cases o (post b ROOT_BUS_BIRTH) (post b MEMORY_BUS_BIRTH) e
      (λ i. reach-cases ROOT_BUS_BIRTH o root (machines refl) (post-reach b k ROOT_BUS_BIRTH o i))
      (λ i. reach-cases MEMORY_BUS_BIRTH o memory (machines refl) (post-reach b k MEMORY_BUS_BIRTH o i))

  -- their regions
  pub bus-region : (q depth : ℕ) → IsBusAt q depth → area_at (board_map b) (number_of b q) ≡ bus_of_slots b q (slot_size depth)
  bus-region q depth w = region-at b q (reached-mapped q w.reached) ∙ rw (w.apart, w.is_bus, w.at) refl

  pub kid-region : (q depth i e : ℕ) → IsBusAt q depth → IsKidAt q i e
      → area_at (board_map b) (number_of b e) ≡ record { size = DEVICE_SIZE; kind = Leaf e; children = [] }
  kid-region q depth i e w its =
      let other : (e == MEMORY_BUS_BIRTH) ≡ false =
      decide (e == MEMORY_BUS_BIRTH) (λ p. clash (sym its.stood ∙ ap (stands b) (eqb-true e MEMORY_BUS_BIRTH p) ∙ k.places.aside.1.1.1.1.1.0)) (λ p. p) in
      region-at b e (reached-mapped e (kid-reached q depth i e w its)) ∙ rw (other, stands-no_bus b k e its.stood, its.on, w.apart) refl

  pub root-mapped : among (mapped b) ROOT_BUS_BIRTH ≡ true
  root-mapped = reached-mapped ROOT_BUS_BIRTH itself

  pub memory-mapped : among (mapped b) MEMORY_BUS_BIRTH ≡ true
  memory-mapped =
      among-right MEMORY_BUS_BIRTH (post b ROOT_BUS_BIRTH) (post b MEMORY_BUS_BIRTH) (reach-post b k MEMORY_BUS_BIRTH MEMORY_BUS_BIRTH itself)

  pub memory-region : area_at (board_map b) (number_of b MEMORY_BUS_BIRTH) ≡ memory_window b
  memory-region = region-at b MEMORY_BUS_BIRTH memory-mapped
