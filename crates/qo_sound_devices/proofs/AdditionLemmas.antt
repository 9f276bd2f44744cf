-- Places after a device that was added: what has to be shown of the board after it.
use Rattle.std.proofs.lemmas.List.Folds.{list_any-append}
use Rattle.std.proofs.Common.{rules, ◌≡◌, refl, ap, ap₂, sym, subst, ◌∙◌, ℕ, suc, ◌<◌, ◌≤◌, Bool, true, false, ◌||◌, ◌==◌, eqb, List, [], ◌∷◌, ◌++◌, Option, Some, None, arith, codes}
use Rattle.qo_model.proofs.Common.{if◌then◌else◌, AllByRecursion, list_any, option_map_or, bytes_eq, ANONYMOUS_BIRTH, MACHINE_BIRTH, MEMORY_BUS_BIRTH, OBJECTS_BIRTH, PERIPHERAL_BIRTH, ROOT_BUS_BIRTH, TypeId, BUS_SLOTS, Board, is_live, kind_of, among, anonymous_name, bus_of, clock_name, is_realized, kid_name, bus_slot_of, is_of, bus_type, is_a, types}
use Rattle.std.proofs.lemmas.Bool.{eqb-true, eq-eqb}
use Rattle.std.proofs.lemmas.Option.{same_Some}
use Rattle.std.proofs.Math.Bool.{or-true, or-false}
use Rattle.qo_sound.proofs.FirmBoardLemmas.{WellFormed}
use Rattle.qo_sound.proofs.RecordLemmas.{all-append}
use Rattle.qo_values.proofs.ListLemmas.{all-imply}
use Rattle.qo_values.proofs.EachLemmas.{each}
use Rattle.qo_sound.proofs.TestLemmas.{decide}
use Rattle.qo_sound_devices.specs.SoundPlaces.{child_entries, HasOwner, machines, bridges, id_of, IsAnonymous, IsAtHome, on_device, IsHome, IsKid, IsPeripheral, IsShallow, kid_entries, listed, owns, owns_it, path_of, PlacesBut, stands, names_it}
use Rattle.qo_sound_devices.proofs.AttachmentLemmas.{owns-listed}
use Rattle.qo_sound_devices.proofs.PlacesLemmas.{child-live, children-grown, id-alike, MoreChildren, rooted-same, no-more, of-alike, of-live, owner-live, SameBody, stands-live, suits-alike, parts-same, aside-apart, OwnersStay, owners-stay, peripheral-stays, anonymous-stays}

-- the entry of a device with an id, and of one without
abbrev pub named_entry : Option (List ℕ) → ℕ → List (List ℕ × ℕ)
named_entry None n = []
named_entry (Some id) n = (id, n) ∷ []

abbrev pub numbered_entry : Board → Option (List ℕ) → ℕ → List (List ℕ × ℕ)
numbered_entry b None n = (anonymous_name b.anonymous, n) ∷ []
numbered_entry b (Some id) n = []

abbrev pub count_after : Option (List ℕ) → ℕ → ℕ
count_after None k = suc k
count_after (Some id) k = k

abbrev pub path_after : Board → Option (List ℕ) → List ℕ
path_after b None = codes "/machine/peripheral-anon/" ++ anonymous_name b.anonymous
path_after b (Some id) = codes "/machine/peripheral/" ++ id

-- what stands on the device so far: its id and path, the number of adds without id, its bus and slot, and whether it is realized
pub record Now : Type 0 where
  pub its : Option (List ℕ)
  pub path : Option (List ℕ)
  pub count : ℕ
  pub on : Option ℕ
  pub at : Option ℕ
  pub realized : Bool

-- in the end
abbrev pub done : Board → ℕ → ℕ → Option (List ℕ) → Now
done b bus slot id = record { its = id; path = Some (path_after b id); count = count_after id b.anonymous; on = Some bus; at = Some slot; realized = true }

-- a further object of a device: it is no device, and a bus only under another name than a clock's
abbrev pub IsFurther : Board → ℕ → List ℕ × ℕ → Type 0
IsFurther c x e =
    (is_of c (codes "device") e.1 ≡ false) ×
    (is_of c (codes "bus") e.1 ≡ true → (is_of c (codes "device") x ≡ true) × (bytes_eq e.0 clock_name ≡ false))

-- the children of new objects are further ones, and those of the device are new
abbrev pub HasFurther : Board → Board → Type 0
HasFurther b c = (x : ℕ) → is_live b x ≡ false → AllByRecursion (IsFurther c x) (child_entries c x)

abbrev pub HasHeirs : Board → ℕ → Board → Type 0
HasHeirs b n c = (q : ℕ) → listed q (child_entries c n) ≡ true → is_live b q ≡ false

-- where it is to go, as nothing refuses it
pub record Goal (depth : ℕ → ℕ) (b : Board) (n bus slot : ℕ) (id : Option (List ℕ)) (t : TypeId) (c : Board) : Type 0 where
  pub device : is_a t (codes "device") ≡ true
  pub is_bus : is_of b (codes "bus") bus ≡ true
  pub fits : is_of b (bus_type t) bus ≡ true
  pub owner : HasOwner b bus
  pub low : slot < BUS_SLOTS
  pub shallow : (q : ℕ) → owns c n q ≡ true → suc (depth bus) ≤ 8
  pub new_id : (x : ℕ) (i : List ℕ) → id ≡ Some i → id_of b x ≡ Some i → ⊥

-- so it is of a board after it, where its children are the same
pub goal-same : (depth : ℕ → ℕ) (b : Board) (n bus slot : ℕ) (id : Option (List ℕ)) (t : TypeId) (c d : Board) → child_entries d n ≡ child_entries c n
    → Goal depth b n bus slot id t c → Goal depth b n bus slot id t d
goal-same depth b n bus slot id t c d same g =
    record {
      device = g.device;
      is_bus = g.is_bus;
      fits = g.fits;
      owner = g.owner;
      low = g.low;
      shallow = λ q e. g.shallow q (sym (ap (list_any (owns_it q)) same) ∙ e);
      new_id = g.new_id;
    }

-- a device n of type t is added on a bus: what places speak of
pub record Joined (depth : ℕ → ℕ) (b : Board) (n bus slot : ℕ) (id : Option (List ℕ)) (t : TypeId) (now : Now) (c : Board) : Type 0 where
  -- what was there is as before
  pub body : (x : ℕ) → is_live b x ≡ true → SameBody b c x
  pub realized : (x : ℕ) → is_live b x ≡ true → is_realized c x ≡ is_realized b x
  pub bus_same : (x : ℕ) → is_live b x ≡ true → bus_of c x ≡ bus_of b x
  pub place_same : (x : ℕ) → is_live b x ≡ true → bus_slot_of c x ≡ bus_slot_of b x
  pub kids_same : (x : ℕ) → is_live b x ≡ true → (x == bus) ≡ false → kid_entries c x ≡ kid_entries b x
  pub children : (x : ℕ) → is_live b x ≡ true → among (PERIPHERAL_BIRTH ∷ ANONYMOUS_BIRTH ∷ []) x ≡ false → child_entries c x ≡ child_entries b x
  -- but for its entries
  pub kids_more : kid_entries c bus ≡ kid_entries b bus ++ (kid_name slot, n) ∷ []
  pub third : child_entries c PERIPHERAL_BIRTH ≡ child_entries b PERIPHERAL_BIRTH ++ named_entry id n
  pub fourth : child_entries c ANONYMOUS_BIRTH ≡ child_entries b ANONYMOUS_BIRTH ++ numbered_entry b id n
  pub anonymous : c.anonymous ≡ now.count
  -- other new objects
  pub absent : is_live b n ≡ false
  pub unrealized : (x : ℕ) → is_live b x ≡ false → (x == n) ≡ false → is_realized c x ≡ false
  pub nameless : (x : ℕ) → is_live b x ≡ false → (x == n) ≡ false → id_of c x ≡ None
  pub no_kids : (x : ℕ) → is_live b x ≡ false → is_of c (codes "bus") x ≡ true → kid_entries c x ≡ []
  pub further : HasFurther b c
  -- the device
  pub kind : kind_of c n ≡ Some t
  pub its_id : id_of c n ≡ now.its
  pub its_path : path_of c n ≡ now.path
  pub on : bus_of c n ≡ now.on
  pub at : bus_slot_of c n ≡ now.at
  pub stands_realized : is_realized c n ≡ now.realized
  pub heirs : HasHeirs b n c
  -- where it goes
  pub goal : Goal depth b n bus slot id t c

-- the depths of buses after it: its own buses are one below the bus that it is on
abbrev pub deepened : (ℕ → ℕ) → ℕ → ℕ → Board → ℕ → ℕ
deepened depth n bus c q = if owns c n q then suc (depth bus) else depth q

-- no type of a device is that of a bus
pub device-no_bus : (t : TypeId) → is_a t (codes "device") ≡ true → is_a t (codes "bus") ≡ false
unfolding types
device-no_bus = each (λ (t : TypeId). is_a t (codes "device") ≡ true → is_a t (codes "bus") ≡ false) (search rules)

-- further objects, where types and children stay
pub further-same : (c d : Board) → ((name : List ℕ) (y : ℕ) → is_of d name y ≡ is_of c name y) → (x : ℕ) → child_entries d x ≡ child_entries c x
    → AllByRecursion (IsFurther c x) (child_entries c x) → AllByRecursion (IsFurther d x) (child_entries d x)
further-same c d same x children h =
    subst (AllByRecursion (IsFurther d x)) (sym children) (all-imply (IsFurther c x) (IsFurther d x) one (child_entries c x) h)
  where
    one : (e : List ℕ × ℕ) → IsFurther c x e → IsFurther d x e
    one e k = (
      same (codes "device") e.1 ∙ k.0,
      λ is. let its : (is_of c (codes "device") x ≡ true) × (bytes_eq e.0 clock_name ≡ false) =
          k.1 (sym (same (codes "bus") e.1) ∙ is) in (same (codes "device") x ∙ its.0, its.1),
    )

own-listed : (name : List ℕ) (n : ℕ) → listed n ((name, n) ∷ []) ≡ true
own-listed name n = rw (eq-eqb n n refl) refl

only-listed : (name : List ℕ) (n d : ℕ) → listed d ((name, n) ∷ []) ≡ true → d ≡ n
only-listed name n d e = sym (eqb-true n d (sym (or-false (n == d)) ∙ e))

module _ (depth : ℕ → ℕ) (b : Board) (n bus slot : ℕ) (id : Option (List ℕ)) (t : TypeId) (c : Board)
    (j : Joined depth b n bus slot id t (done b bus slot id) c) (firm : WellFormed b) (h : PlacesBut depth None (λ x. false) b) where
  live-machine : is_live b MACHINE_BIRTH ≡ true
  live-machine = child-live b firm 1 MACHINE_BIRTH h.machine

  first : child_entries c 1 ≡ child_entries b 1
  first = j.children 1 (owner-live b 1 MACHINE_BIRTH h.machine) refl

  second : child_entries c MACHINE_BIRTH ≡ child_entries b MACHINE_BIRTH
  second = j.children MACHINE_BIRTH live-machine refl

  -- who stands
  stands-is : (d : ℕ)
      → stands c d ≡ (listed d (child_entries b PERIPHERAL_BIRTH) || listed d (named_entry id n))
      || (listed d (child_entries b ANONYMOUS_BIRTH) || listed d (numbered_entry b id n))
  stands-is d =
      ap₂ (λ (xs ys : List (List ℕ × ℕ)). listed d xs || listed d ys) j.third j.fourth
      ∙ ap₂ (λ (x y : Bool). x || y) (list_any-append (names_it d) (child_entries b PERIPHERAL_BIRTH) (named_entry id n))
      (list_any-append (names_it d) (child_entries b ANONYMOUS_BIRTH) (numbered_entry b id n))

  pub old-stands : (d : ℕ) → stands b d ≡ true → stands c d ≡ true
  old-stands d e =
      stands-is d
      ∙ more (listed d (child_entries b PERIPHERAL_BIRTH)) (listed d (named_entry id n)) (listed d (child_entries b ANONYMOUS_BIRTH))
      (listed d (numbered_entry b id n)) e
    where
      more : (x y z w : Bool) → x || z ≡ true → (x || y) || (z || w) ≡ true
      more true y z w k = refl
      more false true z w k = refl
      more false false true w k = refl
      more false false false w k = absurd (let clash : false ≡ true = k in cc)

  entry-listed : (o : Option (List ℕ)) → listed n (named_entry o n) || listed n (numbered_entry b o n) ≡ true
  entry-listed None = own-listed (anonymous_name b.anonymous) n
  entry-listed (Some i) = rw (own-listed i n) refl

  entry-only : (o : Option (List ℕ)) (d : ℕ) → listed d (named_entry o n) || listed d (numbered_entry b o n) ≡ true → d ≡ n
  entry-only None d e = only-listed (anonymous_name b.anonymous) n d e
  entry-only (Some i) d e = only-listed i n d (sym (or-false (listed d ((i, n) ∷ []))) ∙ e)

  pub new-stands : stands c n ≡ true
  new-stands =
      stands-is n
      ∙ more (listed n (child_entries b PERIPHERAL_BIRTH)) (listed n (named_entry id n)) (listed n (child_entries b ANONYMOUS_BIRTH))
      (listed n (numbered_entry b id n)) (entry-listed id)
    where
      more : (x y z w : Bool) → y || w ≡ true → (x || y) || (z || w) ≡ true
      more true y z w k = refl
      more false true z w k = refl
      more false false true w k = refl
      more false false false w k = k

  -- who did before, or the new device
  pub by-stand : (d : ℕ) → stands c d ≡ true → {A : Type 0} → (stands b d ≡ true → A) → (d ≡ n → A) → A
  by-stand d e f g =
      decide (stands b d) f
      (λ k.
      g
      (entry-only id d
      (other (listed d (child_entries b PERIPHERAL_BIRTH)) (listed d (named_entry id n)) (listed d (child_entries b ANONYMOUS_BIRTH))
      (listed d (numbered_entry b id n)) k (sym (stands-is d) ∙ e))))
    where
      other : (x y z w : Bool) → x || z ≡ false → (x || y) || (z || w) ≡ true → y || w ≡ true
      other true y z w k l = absurd (let clash : true ≡ false = k in cc)
      other false true z w k l = refl
      other false false true w k l = absurd (let clash : true ≡ false = k in cc)
      other false false false w k l = l

  there : (d : ℕ) → stands b d ≡ true → is_live b d ≡ true
  there d e = stands-live b firm d e

  own-children : (p : ℕ) → stands b p ≡ true → child_entries c p ≡ child_entries b p
  own-children p e = j.children p (there p e) (aside-apart b (PERIPHERAL_BIRTH ∷ ANONYMOUS_BIRTH ∷ []) (h.aside.1.1.0, (h.aside.1.1.1.0, tt)) p e)

  -- buses and how deep they are
  bus-live : is_live b bus ≡ true
  bus-live = of-live b (codes "bus") bus j.goal.is_bus

  owner-on : OwnersStay b c
  owner-on = owners-stay b c old-stands (λ p q s o. ap (list_any (owns_it q)) (own-children p s) ∙ o)

  by-owner : (q : ℕ) → HasOwner c q → {A : Type 0} → (HasOwner b q → A) → (owns c n q ≡ true → A) → A
  by-owner q (machines k) f g = f (machines k)
  by-owner q (bridges p s o) f g =
      by-stand p s
      (λ e. f (bridges p e (sym (ap (list_any (owns_it q)) (own-children p e)) ∙ o)))
      (λ is. g (sym (ap (λ (m : ℕ). owns c m q) is) ∙ o))

  owner-there : (q : ℕ) → HasOwner b q → is_live b q ≡ true
  owner-there q (bridges p s o) = child-live b firm p q (owns-listed q (child_entries b p) o)
  owner-there q (machines k) = go (eqb q ROOT_BUS_BIRTH) refl (eqb q MEMORY_BUS_BIRTH) refl
    where
      go : (t : Bool) → eqb q ROOT_BUS_BIRTH ≡ t → (u : Bool) → eqb q MEMORY_BUS_BIRTH ≡ u → is_live b q ≡ true
      go true p u r = subst (λ (m : ℕ). is_live b m ≡ true) (sym (eqb-true q ROOT_BUS_BIRTH p)) (child-live b firm MACHINE_BIRTH ROOT_BUS_BIRTH h.parts.1.1.0)
      go false p true r =
          subst (λ (m : ℕ). is_live b m ≡ true) (sym (eqb-true q MEMORY_BUS_BIRTH r))
          (child-live b firm MACHINE_BIRTH MEMORY_BUS_BIRTH h.parts.1.1.1.0)
      go false p false r = absurd (let clash : false ≡ true = rw (p, r) at k in cc)

  abbrev deeper : ℕ → ℕ
  deeper = deepened depth n bus c

  deeper-old : (q : ℕ) → is_live b q ≡ true → deeper q ≡ depth q
  deeper-old q e =
      ap (λ (u : Bool). if u then suc (depth bus) else depth q)
      (decide (owns c n q) {A = owns c n q ≡ false}
      (λ k. absurd (let clash : true ≡ false = sym e ∙ j.heirs q (owns-listed q (child_entries c n) k) in cc)) (λ k. k))

  deeper-new : (q : ℕ) → owns c n q ≡ true → deeper q ≡ suc (depth bus)
  deeper-new q e = ap (λ (u : Bool). if u then suc (depth bus) else depth q) e

  shallow : IsShallow deeper c
  shallow =
      record {
        top = (
          deeper-old ROOT_BUS_BIRTH (child-live b firm MACHINE_BIRTH ROOT_BUS_BIRTH h.parts.1.1.0) ∙ h.shallow.top.0,
          (deeper-old MEMORY_BUS_BIRTH (child-live b firm MACHINE_BIRTH MEMORY_BUS_BIRTH h.parts.1.1.1.0) ∙ h.shallow.top.1.0, tt),
        );
        below = below;
        most = λ q o. by-owner q o
            (λ k.
            let is : deeper q ≡ depth q = deeper-old q (owner-there q k) in
            let le : depth q ≤ 8 = h.shallow.most q k in subst (λ (m : ℕ). m ≤ 8) (sym is) le)
            (λ k. subst (λ (m : ℕ). m ≤ 8) (sym (deeper-new q k)) (j.goal.shallow q k));
      }
    where
      below : (p q m : ℕ) → stands c p ≡ true → bus_of c p ≡ Some q → owns c p m ≡ true → deeper m ≡ suc (deeper q)
      below p q m e on o = by-stand p e old new
        where
          old : stands b p ≡ true → deeper m ≡ suc (deeper q)
          old k =
              let was : bus_of b p ≡ Some q = sym (j.bus_same p (there p k)) ∙ on in
              let owned : owns b p m ≡ true = sym (ap (list_any (owns_it m)) (own-children p k)) ∙ o in
              deeper-old m (owner-there m (bridges p k owned))
              ∙ h.shallow.below p q m k was owned
              ∙ ap (λ (x : ℕ). suc x) (sym (deeper-old q (owner-there q (h.owner p q k was))))

          new : p ≡ n → deeper m ≡ suc (deeper q)
          new is =
              let is_bus : q ≡ bus = same_Some q bus (sym on ∙ ap (bus_of c) is ∙ j.on) in
              deeper-new m (sym (ap (λ (x : ℕ). owns c x m) is) ∙ o) ∙ ap (λ (x : ℕ). suc x) (sym (ap deeper is_bus ∙ deeper-old bus bus-live))

  -- what stands in the containers
  peripheral : AllByRecursion (IsPeripheral c) (child_entries c PERIPHERAL_BIRTH)
  peripheral =
      subst (AllByRecursion (IsPeripheral c)) (sym j.third)
      (all-append (IsPeripheral c) (child_entries b PERIPHERAL_BIRTH) (named_entry id n)
      (peripheral-stays b c j.body (child_entries b PERIPHERAL_BIRTH) h.peripheral) (own id j.its_id j.its_path))
    where
      own : (o : Option (List ℕ)) → id_of c n ≡ o → path_of c n ≡ Some (path_after b o) → AllByRecursion (IsPeripheral c) (named_entry o n)
      own None e p = tt
      own (Some i) e p = (
        record {
          device = ap (λ (k : Option TypeId). option_map_or (λ (x : TypeId). is_a x (codes "device")) k false) j.kind ∙ j.goal.device;
          id = e;
          path = p;
        },
        tt,
      )

  anonymous : AllByRecursion (IsAnonymous c) (child_entries c ANONYMOUS_BIRTH)
  anonymous =
      subst (AllByRecursion (IsAnonymous c)) (sym j.fourth)
      (all-append (IsAnonymous c) (child_entries b ANONYMOUS_BIRTH) (numbered_entry b id n)
      (anonymous-stays b c j.body (λ m less. subst (λ (x : ℕ). m < x) (sym j.anonymous) (grows id m b.anonymous less)) (child_entries b ANONYMOUS_BIRTH)
      h.anonymous) (own id j.its_id j.its_path j.anonymous))
    where
      grows : (o : Option (List ℕ)) (k m : ℕ) → k < m → k < count_after o m
      grows None k m l = omega (arith, l)
      grows (Some i) k m l = l

      own : (o : Option (List ℕ)) → id_of c n ≡ o → path_of c n ≡ Some (path_after b o) → c.anonymous ≡ count_after o b.anonymous
          → AllByRecursion (IsAnonymous c) (numbered_entry b o n)
      own (Some i) e p k = tt
      own None e p k = (
        record {
          device = ap (λ (x : Option TypeId). option_map_or (λ (y : TypeId). is_a y (codes "device")) x false) j.kind ∙ j.goal.device;
          id = e;
          path = p;
          numbered = (b.anonymous, (omega (arith, k), refl));
        },
        tt,
      )

  -- kids
  old-kid : (q : ℕ) → is_live b q ≡ true → (x : List ℕ × ℕ) → IsKid b q x → IsKid c q x
  old-kid q bus_there x k =
      let live : is_live b x.1 ≡ true = there x.1 k.there in
      let (m, (less, (place, name))) = k.slot in
      record {
        there = old-stands x.1 k.there;
        on = j.bus_same x.1 live ∙ k.on;
        fits = suits-alike b c q x.1 (j.body q bus_there) (j.body x.1 live) ∙ k.fits;
        slot = (m, (less, (j.place_same x.1 live ∙ place, name)));
      }

  new-kid : IsKid c bus (kid_name slot, n)
  new-kid =
      record {
        there = new-stands;
        on = j.on;
        fits =
            ap (λ (o : Option TypeId). option_map_or (λ x. is_of c (bus_type x) bus) o false) j.kind
            ∙ of-alike b c bus (bus_type t) (j.body bus bus-live)
            ∙ j.goal.fits;
        slot = (slot, (j.goal.low, (j.at, refl)));
      }

  kids : (q : ℕ) → is_of c (codes "bus") q ≡ true → AllByRecursion (IsKid c q) (kid_entries c q)
  kids q e = decide (is_live b q) old (λ k. subst (AllByRecursion (IsKid c q)) (sym (j.no_kids q k e)) tt)
    where
      old : is_live b q ≡ true → AllByRecursion (IsKid c q) (kid_entries c q)
      old k =
          let before : AllByRecursion (IsKid c q) (kid_entries b q) =
          all-imply (IsKid b q) (IsKid c q) (old-kid q k) (kid_entries b q) (h.kids q (sym (of-alike b c q (codes "bus") (j.body q k)) ∙ e)) in
          decide (q == bus) (λ is. own (eqb-true q bus is) before) (λ apart. subst (AllByRecursion (IsKid c q)) (sym (j.kids_same q k apart)) before)
        where
          own : q ≡ bus → AllByRecursion (IsKid c q) (kid_entries b q) → AllByRecursion (IsKid c q) (kid_entries c q)
          own is before =
              subst (λ (m : ℕ). AllByRecursion (IsKid c m) (kid_entries c m)) (sym is)
              (subst (AllByRecursion (IsKid c bus)) (sym j.kids_more)
              (all-append (IsKid c bus) (kid_entries b bus) ((kid_name slot, n) ∷ [])
              (subst (λ (m : ℕ). AllByRecursion (IsKid c m) (kid_entries b m)) is before) (new-kid, tt)))

  kid-on : (q d : ℕ) → is_live b q ≡ true → listed d (kid_entries b q) ≡ true → listed d (kid_entries c q) ≡ true
  kid-on q d e k =
      decide (q == bus) {A = listed d (kid_entries c q) ≡ true}
      (λ p.
      let is : q ≡ bus = eqb-true q bus p in
      subst (λ (m : ℕ). listed d (kid_entries c m) ≡ true) (sym is)
      (ap (listed d) j.kids_more
      ∙ list_any-append (names_it d) (kid_entries b bus) ((kid_name slot, n) ∷ [])
      ∙ ap (λ (u : Bool). u || listed d ((kid_name slot, n) ∷ [])) (subst (λ (m : ℕ). listed d (kid_entries b m) ≡ true) is k)))
      (λ p. ap (listed d) (j.kids_same q e p) ∙ k)

  home : (d : ℕ) → stands c d ≡ true → IsHome c d
  home d e = by-stand d e old (λ is. subst (IsHome c) (sym is) new)
    where
      old : stands b d ≡ true → IsHome c d
      old k =
          let was : IsHome b d = h.home d k (λ z. cc) in
          let live : is_live b was.bus ≡ true = of-live b (codes "bus") was.bus was.is_bus in
          record {
            bus = was.bus;
            on = j.bus_same d (there d k) ∙ was.on;
            is_bus = of-alike b c was.bus (codes "bus") (j.body was.bus live) ∙ was.is_bus;
            kid = kid-on was.bus d live was.kid;
          }

      new : IsHome c n
      new =
          record {
            bus = bus;
            on = j.on;
            is_bus = of-alike b c bus (codes "bus") (j.body bus bus-live) ∙ j.goal.is_bus;
            kid =
                ap (listed n) j.kids_more
                ∙ list_any-append (names_it n) (kid_entries b bus) ((kid_name slot, n) ∷ [])
                ∙ ap (λ (u : Bool). listed n (kid_entries b bus) || u) (own-listed (kid_name slot) n)
                ∙ or-true (listed n (kid_entries b bus));
          }

  owner : (d q : ℕ) → stands c d ≡ true → bus_of c d ≡ Some q → HasOwner c q
  owner d q e on =
      by-stand d e
      (λ k. owner-on q (h.owner d q k (sym (j.bus_same d (there d k)) ∙ on)))
      (λ is. subst (HasOwner c) (sym (same_Some q bus (sym on ∙ ap (bus_of c) is ∙ j.on))) (owner-on bus j.goal.owner))

  only : (d : ℕ) → is_realized c d ≡ true → stands c d ≡ true
  only d e =
      decide (is_live b d) {A = stands c d ≡ true}
      (λ k. old-stands d (h.only d (sym (j.realized d k) ∙ e)))
      (λ k.
      decide (d == n) {A = stands c d ≡ true} (λ is. subst (λ (x : ℕ). stands c x ≡ true) (sym (eqb-true d n is)) new-stands)
      (λ apart. absurd (let clash : true ≡ false = sym e ∙ j.unrealized d k apart in cc)))

  -- ids
  by-id : (d : ℕ) (i : List ℕ) → id_of c d ≡ Some i → {A : Type 0} → (is_live b d ≡ true → id_of b d ≡ Some i → A) → (d ≡ n → id ≡ Some i → A) → A
  by-id d i e {A} f g =
      decide (is_live b d)
      (λ k. f k (sym (id-alike b c d (j.body d k)) ∙ e))
      (λ k.
      decide (d == n) (λ is. g (eqb-true d n is) (sym j.its_id ∙ sym (ap (id_of c) (eqb-true d n is)) ∙ e))
      (λ apart. absurd (let clash : None ≡ Some i = sym (j.nameless d k apart) ∙ e in cc)))

  new-device : is_of c (codes "device") n ≡ true
  new-device = ap (λ (k : Option TypeId). option_map_or (λ (x : TypeId). is_a x (codes "device")) k false) j.kind ∙ j.goal.device

  -- children
  at_home : (p : ℕ) → AllByRecursion (IsAtHome c p) (child_entries c p)
  at_home = children-grown b c firm j.body grows new h.children
    where
      no_bus : is_of c (codes "bus") n ≡ false
      no_bus = ap (λ (k : Option TypeId). option_map_or (λ (x : TypeId). is_a x (codes "bus")) k false) j.kind ∙ device-no_bus t j.goal.device

      own : (p : ℕ) (name : List ℕ) → among (PERIPHERAL_BIRTH ∷ ANONYMOUS_BIRTH ∷ []) p ≡ true → IsAtHome c p (name, n)
      own p name is = record { bus = λ e. absurd (let clash : true ≡ false = sym e ∙ no_bus in cc); device = λ e. is }

      named : (o : Option (List ℕ)) → AllByRecursion (IsAtHome c PERIPHERAL_BIRTH) (named_entry o n)
      named None = tt
      named (Some i) = (own PERIPHERAL_BIRTH i refl, tt)

      numbered : (o : Option (List ℕ)) → AllByRecursion (IsAtHome c ANONYMOUS_BIRTH) (numbered_entry b o n)
      numbered None = (own ANONYMOUS_BIRTH (anonymous_name b.anonymous) refl, tt)
      numbered (Some i) = tt

      at_peripheral : MoreChildren b c PERIPHERAL_BIRTH
      at_peripheral = record { added = named_entry id n; later = j.third; at_home = named id }

      at_anonymous : MoreChildren b c ANONYMOUS_BIRTH
      at_anonymous = record { added = numbered_entry b id n; later = j.fourth; at_home = numbered id }

      grows : (p : ℕ) → is_live b p ≡ true → MoreChildren b c p
      grows p e = go (eqb p PERIPHERAL_BIRTH) refl (eqb p ANONYMOUS_BIRTH) refl
        where
          go : (u : Bool) → eqb p PERIPHERAL_BIRTH ≡ u → (v : Bool) → eqb p ANONYMOUS_BIRTH ≡ v → MoreChildren b c p
          go true q v r = subst (MoreChildren b c) (sym (eqb-true p PERIPHERAL_BIRTH q)) at_peripheral
          go false q true r = subst (MoreChildren b c) (sym (eqb-true p ANONYMOUS_BIRTH r)) at_anonymous
          go false q false r = no-more b c p (j.children p e (rw (q, r) refl))

      new : (p : ℕ) → is_live b p ≡ false → AllByRecursion (IsAtHome c p) (child_entries c p)
      new p e = all-imply (IsFurther c p) (IsAtHome c p) one (child_entries c p) (j.further p e)
        where
          one : (x : List ℕ × ℕ) → IsFurther c p x → IsAtHome c p x
          one x k =
              record {
                bus = λ is. let its : (is_of c (codes "device") p ≡ true) × (bytes_eq x.0 clock_name ≡ false) = k.1 is in on_device its.0 its.1;
                device = λ is. absurd (let clash : true ≡ false = sym is ∙ k.0 in cc);
              }

  none-stands : (m : ℕ) → is_live b m ≡ true → stands b m ≡ false → stands c m ≡ false
  none-stands m live e =
      decide (stands c m) {A = stands c m ≡ false}
      (λ k.
      by-stand m k (λ s. absurd (let clash : true ≡ false = sym s ∙ e in cc))
      (λ is. absurd (let clash : true ≡ false = sym live ∙ ap (is_live b) is ∙ j.absent in cc)))
      (λ k. k)

  pub places-joined : PlacesBut (deepened depth n bus c) None (λ x. false) c
  places-joined =
      record {
        machine = ap (listed MACHINE_BIRTH) first ∙ h.machine;
        objects = ap (listed OBJECTS_BIRTH) first ∙ h.objects;
        parts = parts-same b c second h.parts;
        rooted = rooted-same b c (j.body 1 (owner-live b 1 MACHINE_BIRTH h.machine)) first second h.rooted;
        children = at_home;
        aside = (
          none-stands 1 (owner-live b 1 MACHINE_BIRTH h.machine) h.aside.0,
          (
            none-stands MACHINE_BIRTH live-machine h.aside.1.0,
            (
              none-stands PERIPHERAL_BIRTH (child-live b firm MACHINE_BIRTH PERIPHERAL_BIRTH h.parts.0) h.aside.1.1.0,
              (
                none-stands ANONYMOUS_BIRTH (child-live b firm MACHINE_BIRTH ANONYMOUS_BIRTH h.parts.1.0) h.aside.1.1.1.0,
                (
                  none-stands ROOT_BUS_BIRTH (child-live b firm MACHINE_BIRTH ROOT_BUS_BIRTH h.parts.1.1.0) h.aside.1.1.1.1.0,
                  (
                    none-stands MEMORY_BUS_BIRTH (child-live b firm MACHINE_BIRTH MEMORY_BUS_BIRTH h.parts.1.1.1.0) h.aside.1.1.1.1.1.0,
                    (none-stands OBJECTS_BIRTH (child-live b firm 1 OBJECTS_BIRTH h.objects) h.aside.1.1.1.1.1.1.0, tt),
                  ),
                ),
              ),
            ),
          ),
        );
        peripheral = peripheral;
        anonymous = anonymous;
        kids = kids;
        home = λ d e k. home d e;
        owner = owner;
        shallow = shallow;
        only = only;
        each = λ d e k. by-stand d e (λ s. j.realized d (there d s) ∙ h.each d s k) (λ is. ap (is_realized c) is ∙ j.stands_realized);
        ids = λ d i e. by-id d i e
            (λ live was. of-alike b c d (codes "device") (j.body d live) ∙ h.ids d i was)
            (λ is own. ap (is_of c (codes "device")) is ∙ new-device);
        once = λ d x i e q. by-id d i e
            (λ live was. by-id x i q (λ there_too was_too. h.once d x i was was_too) (λ is own. absurd (j.goal.new_id d i own was)))
            (λ is own. by-id x i q (λ there_too was_too. absurd (j.goal.new_id x i own was_too)) (λ is_too own_too. is ∙ sym is_too));
      }
