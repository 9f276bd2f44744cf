-- `object-add` keeps places, taken or refused.
use Rattle.std.proofs.Common.{◌≡◌, refl, ap, ap₂, sym, subst, ◌∙◌, ℕ, ◌+◌, ◌<◌, Bool, true, false, ◌==◌, List, [], ◌∷◌, ◌++◌, map, find, filter_map, Option, Some, None, is_some, option_map, option_and_then, arith, codes, rules}
use Rattle.qo_model.proofs.Common.{AllByRecursion, cons_option, list_any, option_map_or, option_or, bytes_eq, ANONYMOUS_BIRTH, MACHINE_BIRTH, MEMORY_BUS_BIRTH, OBJECTS_BIRTH, PERIPHERAL_BIRTH, ROOT_BUS_BIRTH, fresh_registers, Code, TypeId, Val, Board, Record, Slot, plain, child, strong, weak, alias, record_of, is_live, slots_at, with_added, bus_of, is_realized, is_true, bus_slot_of, plain_in, strong_in, number_in, fresh_slots, Given, given_to, slot_given, added_as, given_slots, object_add, with_attempt, with_object, is_of, edited, is_a, types}
use Rattle.std.proofs.lemmas.List.Folds.{find-append}
use Rattle.std.proofs.lemmas.Bool.{eqb-true, eq-eqb}
use Rattle.qo_values.specs.declared.properties.Val.TheVariants as val
use Rattle.qo_model.proofs.ComesToLemmas.{addition-comes}
use Rattle.qo_model.proofs.StepLemmas.{found_at, found-edited, found-birth}
use Rattle.qo_sound.proofs.AddLemmas.{attempt-rest, creatable}
use Rattle.qo_sound.proofs.FirmBoardLemmas.{WellFormed}
use Rattle.qo_values.proofs.ListLemmas.{all-imply}
use Rattle.qo_values.proofs.EachLemmas.{each}
use Rattle.qo_sound.proofs.TestLemmas.{decide}
use Rattle.qo_sound.proofs.ViewLemmas.{PinsRootAlone}
use Rattle.qo_sound_devices.specs.SoundPlaces.{child_entries, child_entry, id_of, IsAnonymous, IsAtHome, IsHome, IsKid, IsPeripheral, kid_entries, kid_entry, listed, owns_it, PlacesBut, stands}
use Rattle.qo_sound_devices.proofs.LikenessLemmas.{alike-record, bodiless, realized_in}
use Rattle.qo_sound_devices.proofs.PlacesLemmas.{child-live, Keeps, keeps-none, children-grown, high-absent, MoreChildren, rooted-same, no-more, id-alike, kept-alike, of-alike, of-live, owner-live, places-kept, SameBody, stands-live, suits-alike, parts-same, OwnersStay, owners-stay, stands-same, peripheral-stays, anonymous-stays}

-- a board with more objects, of which places do not speak; `/objects` has a child more
pub record Grown (b c : Board) : Type 0 where
  pub body : (x : ℕ) → is_live b x ≡ true → SameBody b c x
  pub realized : (x : ℕ) → is_live b x ≡ true → is_realized c x ≡ is_realized b x
  pub bus : (x : ℕ) → is_live b x ≡ true → bus_of c x ≡ bus_of b x
  pub place : (x : ℕ) → is_live b x ≡ true → bus_slot_of c x ≡ bus_slot_of b x
  pub kids : (x : ℕ) → is_live b x ≡ true → kid_entries c x ≡ kid_entries b x
  pub children : (x : ℕ) → is_live b x ≡ true → (x == OBJECTS_BIRTH) ≡ false → child_entries c x ≡ child_entries b x
  pub unrealized : (x : ℕ) → is_live b x ≡ false → is_realized c x ≡ false
  pub nameless : (x : ℕ) → is_live b x ≡ false → id_of c x ≡ None
  pub no_bus : (x : ℕ) → is_live b x ≡ false → is_of c (codes "bus") x ≡ false
  pub anonymous : c.anonymous ≡ b.anonymous
  pub added : List ℕ × ℕ
  pub added_new : is_live b added.1 ≡ false
  pub objects : is_live b OBJECTS_BIRTH ≡ true → child_entries c OBJECTS_BIRTH ≡ child_entries b OBJECTS_BIRTH ++ added ∷ []
  pub no_device : (x : ℕ) → is_live b x ≡ false → is_of c (codes "device") x ≡ false
  pub no_children : (x : ℕ) → is_live b x ≡ false → child_entries c x ≡ []

module _ (depth : ℕ → ℕ) (b c : Board) (g : Grown b c) (firm : WellFormed b) (h : PlacesBut depth None (λ x. false) b) where
  first : child_entries c 1 ≡ child_entries b 1
  first = g.children 1 (owner-live b 1 MACHINE_BIRTH h.machine) refl

  second : child_entries c MACHINE_BIRTH ≡ child_entries b MACHINE_BIRTH
  second = g.children MACHINE_BIRTH (child-live b firm 1 MACHINE_BIRTH h.machine) refl

  third : child_entries c PERIPHERAL_BIRTH ≡ child_entries b PERIPHERAL_BIRTH
  third = g.children PERIPHERAL_BIRTH (child-live b firm MACHINE_BIRTH PERIPHERAL_BIRTH h.parts.0) refl

  fourth : child_entries c ANONYMOUS_BIRTH ≡ child_entries b ANONYMOUS_BIRTH
  fourth = g.children ANONYMOUS_BIRTH (child-live b firm MACHINE_BIRTH ANONYMOUS_BIRTH h.parts.1.0) refl

  pub all-stands : (d : ℕ) → stands c d ≡ stands b d
  all-stands = stands-same b c third fourth

  there : (d : ℕ) → stands c d ≡ true → is_live b d ≡ true
  there d e = stands-live b firm d (sym (all-stands d) ∙ e)

  own-children : (p : ℕ) → stands b p ≡ true → child_entries c p ≡ child_entries b p
  own-children p e =
      g.children p (stands-live b firm p e)
      (decide (p == OBJECTS_BIRTH) {A = (p == OBJECTS_BIRTH) ≡ false}
      (λ k. absurd (let clash : true ≡ false = sym e ∙ ap (stands b) (eqb-true p OBJECTS_BIRTH k) ∙ h.aside.1.1.1.1.1.1.0 in cc)) (λ k. k))

  owner-on : OwnersStay b c
  owner-on = owners-stay b c (λ p s. all-stands p ∙ s) (λ p q s o. ap (list_any (owns_it q)) (own-children p s) ∙ o)

  owner-back : OwnersStay c b
  owner-back =
      owners-stay c b (λ p s. sym (all-stands p) ∙ s) (λ p q s o. sym (ap (list_any (owns_it q)) (own-children p (sym (all-stands p) ∙ s))) ∙ o)

  children : (p : ℕ) → AllByRecursion (IsAtHome c p) (child_entries c p)
  children = children-grown b c firm g.body more (λ p e. subst (AllByRecursion (IsAtHome c p)) (sym (g.no_children p e)) tt) h.children
    where
      own : (p : ℕ) → IsAtHome c p g.added
      own p =
          record {
            bus = λ e. absurd (let clash : true ≡ false = sym e ∙ g.no_bus g.added.1 g.added_new in cc);
            device = λ e. absurd (let clash : true ≡ false = sym e ∙ g.no_device g.added.1 g.added_new in cc);
          }

      at_objects : is_live b OBJECTS_BIRTH ≡ true → MoreChildren b c OBJECTS_BIRTH
      at_objects e = record { added = g.added ∷ []; later = g.objects e; at_home = (own OBJECTS_BIRTH, tt) }

      more : (p : ℕ) → is_live b p ≡ true → MoreChildren b c p
      more p e =
          decide (p == OBJECTS_BIRTH) {A = MoreChildren b c p}
          (λ is. subst (MoreChildren b c) (sym (eqb-true p OBJECTS_BIRTH is)) (at_objects (sym (ap (is_live b) (eqb-true p OBJECTS_BIRTH is)) ∙ e)))
          (λ apart. no-more b c p (g.children p e apart))

  pub places-grown : PlacesBut depth None (λ x. false) c
  places-grown =
      record {
        machine = ap (listed MACHINE_BIRTH) first ∙ h.machine;
        objects = ap (listed OBJECTS_BIRTH) first ∙ h.objects;
        parts = parts-same b c second h.parts;
        rooted = rooted-same b c (g.body 1 (owner-live b 1 MACHINE_BIRTH h.machine)) first second h.rooted;
        children = children;
        aside =
            all-imply (λ n. stands b n ≡ false) (λ n. stands c n ≡ false) (λ n k. all-stands n ∙ k)
            (1 ∷ MACHINE_BIRTH ∷ PERIPHERAL_BIRTH ∷ ANONYMOUS_BIRTH ∷ ROOT_BUS_BIRTH ∷ MEMORY_BUS_BIRTH ∷ OBJECTS_BIRTH ∷ []) h.aside;
        peripheral =
            subst (AllByRecursion (IsPeripheral c)) (sym third)
            (peripheral-stays b c g.body (child_entries b PERIPHERAL_BIRTH) h.peripheral);
        anonymous =
            subst (AllByRecursion (IsAnonymous c)) (sym fourth)
            (anonymous-stays b c g.body (λ n low. subst (λ (x : ℕ). n < x) (sym g.anonymous) low) (child_entries b ANONYMOUS_BIRTH) h.anonymous);
        kids = λ q e. kids q e;
        home = λ d e k. home d e;
        owner = λ d q e on. owner-on q (h.owner d q (sym (all-stands d) ∙ e) (sym (g.bus d (there d e)) ∙ on));
        shallow =
            record {
              top = h.shallow.top;
              below = λ p q m e on o. h.shallow.below p q m (sym (all-stands p) ∙ e) (sym (g.bus p (there p e)) ∙ on)
                  (sym (ap (list_any (owns_it m)) (own-children p (sym (all-stands p) ∙ e))) ∙ o);
              most = λ q o. h.shallow.most q (owner-back q o);
            };
        only = λ d e. decide (is_live b d) (λ k. all-stands d ∙ h.only d (sym (g.realized d k) ∙ e))
            (λ k. absurd (let clash : true ≡ false = sym e ∙ g.unrealized d k in cc));
        each = λ d e k. g.realized d (there d e) ∙ h.each d (sym (all-stands d) ∙ e) k;
        ids = λ d id e. of-alike b c d (codes "device") (g.body d (named d id e)) ∙ h.ids d id (sym (id-alike b c d (g.body d (named d id e))) ∙ e);
        once = λ d x id e q. h.once d x id (sym (id-alike b c d (g.body d (named d id e))) ∙ e) (sym (id-alike b c x (g.body x (named x id q))) ∙ q);
      }
    where
      named : (d : ℕ) (id : List ℕ) → id_of c d ≡ Some id → is_live b d ≡ true
      named d id e = decide (is_live b d) (λ k. k) (λ k. absurd (let clash : None ≡ Some id = sym (g.nameless d k) ∙ e in cc))

      kids : (q : ℕ) → is_of c (codes "bus") q ≡ true → AllByRecursion (IsKid c q) (kid_entries c q)
      kids q e =
          let live : is_live b q ≡ true = decide (is_live b q) (λ k. k) (λ k. absurd (let clash : true ≡ false = sym e ∙ g.no_bus q k in cc)) in
          subst (AllByRecursion (IsKid c q)) (sym (g.kids q live))
          (all-imply (IsKid b q) (IsKid c q) (kid live) (kid_entries b q) (h.kids q (sym (of-alike b c q (codes "bus") (g.body q live)) ∙ e)))
        where
          kid : is_live b q ≡ true → (x : List ℕ × ℕ) → IsKid b q x → IsKid c q x
          kid bus x k =
              let live : is_live b x.1 ≡ true = stands-live b firm x.1 k.there in
              let (n, (low, (place, name))) = k.slot in
              record {
                there = all-stands x.1 ∙ k.there;
                on = g.bus x.1 live ∙ k.on;
                fits = suits-alike b c q x.1 (g.body q bus) (g.body x.1 live) ∙ k.fits;
                slot = (n, (low, (g.place x.1 live ∙ place, name)));
              }

      home : (d : ℕ) → stands c d ≡ true → IsHome c d
      home d e =
          let old : IsHome b d = h.home d (sym (all-stands d) ∙ e) (λ z. cc) in
          let live : is_live b old.bus ≡ true = of-live b (codes "bus") old.bus old.is_bus in
          record {
            bus = old.bus;
            on = g.bus d (there d e) ∙ old.on;
            is_bus = of-alike b c old.bus (codes "bus") (g.body old.bus live) ∙ old.is_bus;
            kid = ap (listed d) (g.kids old.bus live) ∙ old.kid;
          }

-- the values given leave children
child-given : (b : Board) (props : List Given) (s : List ℕ × Slot) → child_entry (slot_given b props s) ≡ child_entry s
child-given b props s = go (find (λ (p : Given). bytes_eq p.0 s.0) props) refl
  where
    given : (x : List ℕ × Slot) (v : Val) → child_entry (x.0, given_to b x.1 v) ≡ child_entry x
    given (name, plain w) v = refl
    given (name, child m) v = refl
    given (name, strong t target) (val.Text path) = refl
    given (name, strong t target) (val.Bool v) = refl
    given (name, strong t target) (val.Int v) = refl
    given (name, strong t target) (val.Uint v) = refl
    given (name, strong t target) val.Nothing = refl
    given (name, weak t target) (val.Text path) = refl
    given (name, weak t target) (val.Bool v) = refl
    given (name, weak t target) (val.Int v) = refl
    given (name, weak t target) (val.Uint v) = refl
    given (name, weak t target) val.Nothing = refl
    given (name, alias m property) v = refl

    own : (x : List ℕ × Slot) → child_entry (x.0, x.1) ≡ child_entry x
    own (name, plain w) = refl
    own (name, child m) = refl
    own (name, strong t target) = refl
    own (name, weak t target) = refl
    own (name, alias m property) = refl

    go : (o : Option Given) → find (λ (p : Given). bytes_eq p.0 s.0) props ≡ o → child_entry (slot_given b props s) ≡ child_entry s
    go None p = rw (slot_given, p) (own s)
    go (Some g) p = rw (slot_given, p) (given s g.1)

pub children-given : (b : Board) (props : List Given) (slots : List (List ℕ × Slot))
    → filter_map child_entry (map (slot_given b props) slots) ≡ filter_map child_entry slots
children-given b props [] = refl
children-given b props (s ∷ slots) = ap₂ cons_option (child-given b props s) (children-given b props slots)

-- what a user's object is
record IsUsers (b : Board) (t : TypeId) (props : List Given) : Type 0 where
  no_bus : is_a t (codes "bus") ≡ false
  no_device : is_a t (codes "device") ≡ false
  no_children : filter_map child_entry (given_slots b t props) ≡ []
  unrealized : realized_in (given_slots b t props) ≡ false

-- what its row says of each type that users may create
creatable-no_bus : (t : TypeId) → is_a t (codes "user-creatable") ≡ true → is_a t (codes "bus") ≡ false
unfolding types
creatable-no_bus = each (λ (t : TypeId). is_a t (codes "user-creatable") ≡ true → is_a t (codes "bus") ≡ false) (search rules)

creatable-no_device : (t : TypeId) → is_a t (codes "user-creatable") ≡ true → is_a t (codes "device") ≡ false
unfolding types
creatable-no_device = each (λ (t : TypeId). is_a t (codes "user-creatable") ≡ true → is_a t (codes "device") ≡ false) (search rules)

creatable-childless : (t : TypeId) → is_a t (codes "user-creatable") ≡ true → filter_map child_entry (fresh_slots t) ≡ []
unfolding types
creatable-childless = each (λ (t : TypeId). is_a t (codes "user-creatable") ≡ true → filter_map child_entry (fresh_slots t) ≡ []) (search rules)

creatable-unrealized : (b : Board) (props : List Given) (t : TypeId) → is_a t (codes "user-creatable") ≡ true → realized_in (given_slots b t props) ≡ false
unfolding types
creatable-unrealized b props =
    each (λ (t : TypeId). is_a t (codes "user-creatable") ≡ true → realized_in (given_slots b t props) ≡ false) (search rules)

users : (b : Board) (t : TypeId) (props : List Given) → is_a t (codes "user-creatable") ≡ true → IsUsers b t props
users b t props may = record {
  no_bus = creatable-no_bus t may;
  no_device = creatable-no_device t may;
  no_children = children-given b props (fresh_slots t) ∙ creatable-childless t may;
  unrealized = creatable-unrealized b props t may;
}

-- a slot more after the others
pub entry-added : (f : List ℕ × Slot → Option (List ℕ × ℕ)) (s : List ℕ × Slot) (e : List ℕ × ℕ) → f s ≡ Some e → (slots : List (List ℕ × Slot))
    → filter_map f (slots ++ s ∷ []) ≡ filter_map f slots ++ e ∷ []
entry-added f s e is [] = ap (λ (o : Option (List ℕ × ℕ)). cons_option o []) is
entry-added f s e is (x ∷ slots) = ap (cons_option (f x)) (entry-added f s e is slots) ∙ go (f x)
  where
    go : (o : Option (List ℕ × ℕ)) → cons_option o (filter_map f slots ++ e ∷ []) ≡ cons_option o (filter_map f slots) ++ e ∷ []
    go None = refl
    go (Some y) = refl

-- slots with a child more
pub entries-added : (f : List ℕ × Slot → Option (List ℕ × ℕ)) (s : List ℕ × Slot) → f s ≡ None → (slots : List (List ℕ × Slot))
    → filter_map f (slots ++ s ∷ []) ≡ filter_map f slots
entries-added f s none [] = ap (λ (o : Option (List ℕ × ℕ)). cons_option o []) none
entries-added f s none (x ∷ slots) = ap (cons_option (f x)) (entries-added f s none slots)

pub named-added : {A : Type 0} (f : Slot → Option A) (s : List ℕ × Slot) → f s.1 ≡ None → (name : List ℕ) (slots : List (List ℕ × Slot))
    → option_and_then f (option_map (λ (x : List ℕ × Slot). x.1) (find (λ x. bytes_eq x.0 name) (slots ++ s ∷ [])))
    ≡ option_and_then f (option_map (λ (x : List ℕ × Slot). x.1) (find (λ x. bytes_eq x.0 name) slots))
named-added f s none name [] = go (bytes_eq s.0 name) refl
  where
    go : (t : Bool) → bytes_eq s.0 name ≡ t → option_and_then f (option_map (λ (x : List ℕ × Slot). x.1) (find (λ x. bytes_eq x.0 name) (s ∷ []))) ≡ None
    go true p = rw p none
    go false p = rw p refl
named-added f s none name (x ∷ slots) = go (bytes_eq x.0 name) refl (named-added f s none name slots)
  where
    go : (t : Bool) → bytes_eq x.0 name ≡ t
        → option_and_then f (option_map (λ (x : List ℕ × Slot). x.1) (find (λ x. bytes_eq x.0 name) (slots ++ s ∷ [])))
        ≡ option_and_then f (option_map (λ (x : List ℕ × Slot). x.1) (find (λ x. bytes_eq x.0 name) slots))
        → option_and_then f (option_map (λ (x : List ℕ × Slot). x.1) (find (λ x. bytes_eq x.0 name) (x ∷ slots ++ s ∷ [])))
        ≡ option_and_then f (option_map (λ (x : List ℕ × Slot). x.1) (find (λ x. bytes_eq x.0 name) (x ∷ slots)))
    go true p rest = rw p refl
    go false p rest = rw p rest

module _ (b : Board) (t : TypeId) (id : List ℕ) (props : List Given) (its : IsUsers b t props) (firm : WellFormed b) where
  abbrev c : Board
  c = with_object b t id props

  abbrev change : Record → Record
  change = with_added id (child (b.born + 1))

  abbrev r : Record
  r = record { birth = b.born + 1; kind = t; slots = given_slots b t props; registers = fresh_registers t; device_id = None; kept_path = None }

  found : (x : ℕ) → record_of c x ≡ option_or (option_map (edited OBJECTS_BIRTH change) (record_of b x)) (found_at x (r ∷ []))
  found x =
      find-append (λ (y : Record). y.birth == x) (map (edited OBJECTS_BIRTH change) b.records) (r ∷ [])
      ∙ ap (λ (o : Option Record). option_or o (found_at x (r ∷ []))) (found-edited OBJECTS_BIRTH change (λ y. refl) x b.records)

  -- what is read of an old object
  read-old : {A : Type 0} (f : Option Record → A) → ((y : Record) → f (Some (edited OBJECTS_BIRTH change y)) ≡ f (Some y)) → (x : ℕ)
      → is_live b x ≡ true → f (record_of c x) ≡ f (record_of b x)
  read-old f same x e = go (record_of b x) refl
    where
      go : (o : Option Record) → record_of b x ≡ o → f (record_of c x) ≡ f (record_of b x)
      go None q = absurd (let clash : false ≡ true = sym (ap is_some q) ∙ e in cc)
      go (Some y) q =
          ap f (found x ∙ ap (λ (o : Option Record). option_or (option_map (edited OBJECTS_BIRTH change) o) (found_at x (r ∷ []))) q)
          ∙ same y
          ∙ sym (ap f q)

  old-slots : {A : Type 0} (f : List (List ℕ × Slot) → A) → ((slots : List (List ℕ × Slot)) → f (slots ++ (id, child (b.born + 1)) ∷ []) ≡ f slots)
      → (y : Record) → f (edited OBJECTS_BIRTH change y).slots ≡ f y.slots
  old-slots f same y = go (y.birth == OBJECTS_BIRTH) refl
    where
      go : (u : Bool) → (y.birth == OBJECTS_BIRTH) ≡ u → f (edited OBJECTS_BIRTH change y).slots ≡ f y.slots
      go true p = rw (edited, p) (same y.slots)
      go false p = rw (edited, p) refl

  read-slots : {A : Type 0} (f : List (List ℕ × Slot) → A) → ((slots : List (List ℕ × Slot)) → f (slots ++ (id, child (b.born + 1)) ∷ []) ≡ f slots)
      → (x : ℕ) → is_live b x ≡ true → f (slots_at c x) ≡ f (slots_at b x)
  read-slots f same = read-old (λ (o : Option Record). f (option_map_or (λ (y : Record). y.slots) o [])) (old-slots f same)

  -- and of no old object
  read-new : {A : Type 0} (f : Option Record → A) (a : A) → f None ≡ a → f (Some r) ≡ a → (x : ℕ) → is_live b x ≡ false → f (record_of c x) ≡ a
  read-new f a none new x e = go (record_of b x) refl
    where
      choose : (u : Bool) → (r.birth == x) ≡ u → f (found_at x (r ∷ [])) ≡ a
      choose true p = rw p new
      choose false p = rw p none

      go : (o : Option Record) → record_of b x ≡ o → f (record_of c x) ≡ a
      go (Some y) q = absurd (let clash : true ≡ false = sym (ap is_some q) ∙ e in cc)
      go None q =
          ap f (found x ∙ ap (λ (o : Option Record). option_or (option_map (edited OBJECTS_BIRTH change) o) (found_at x (r ∷ []))) q)
          ∙ choose (r.birth == x) refl

  grown-object : Grown b (with_object b t id props)
  grown-object =
      record {
        body = read-old (option_map bodiless) (λ y. ap Some (bodies y));
        realized =
            read-slots realized_in
            (λ slots. ap (λ (o : Option Val). option_map_or is_true o false) (named-added plain_in (id, child (b.born + 1)) refl (codes "realized") slots));
        bus =
            read-slots
            (λ slots. option_and_then strong_in (option_map (λ (x : List ℕ × Slot). x.1) (find (λ x. bytes_eq x.0 (codes "parent_bus")) slots)))
            (named-added strong_in (id, child (b.born + 1)) refl (codes "parent_bus"));
        place =
            read-slots
            (λ slots.
            option_and_then number_in
            (option_and_then plain_in (option_map (λ (x : List ℕ × Slot). x.1) (find (λ x. bytes_eq x.0 (codes "slot")) slots))))
            (λ slots. ap (option_and_then number_in) (named-added plain_in (id, child (b.born + 1)) refl (codes "slot") slots));
        kids = read-slots (filter_map kid_entry) (entries-added kid_entry (id, child (b.born + 1)) refl);
        children = children;
        unrealized = read-new (λ (o : Option Record). realized_in (option_map_or (λ (y : Record). y.slots) o [])) false refl its.unrealized;
        nameless = read-new (option_and_then (λ (y : Record). y.device_id)) None refl refl;
        no_bus =
            read-new (λ (o : Option Record). option_map_or (λ (k : TypeId). is_a k (codes "bus")) (option_map (λ (y : Record). y.kind) o) false) false refl
            its.no_bus;
        anonymous = refl;
        added = (id, b.born + 1);
        added_new = high-absent b firm (b.born + 1) (omega arith);
        objects = objects;
        no_device =
            read-new (λ (o : Option Record). option_map_or (λ (k : TypeId). is_a k (codes "device")) (option_map (λ (y : Record). y.kind) o) false) false refl
            its.no_device;
        no_children = read-new (λ (o : Option Record). filter_map child_entry (option_map_or (λ (y : Record). y.slots) o [])) [] refl its.no_children;
      }
    where
      objects : is_live b OBJECTS_BIRTH ≡ true → child_entries (with_object b t id props) OBJECTS_BIRTH ≡ child_entries b OBJECTS_BIRTH ++ (id, b.born + 1) ∷ []
      objects e = go (record_of b OBJECTS_BIRTH) refl
        where
          go : (o : Option Record) → record_of b OBJECTS_BIRTH ≡ o
              → child_entries (with_object b t id props) OBJECTS_BIRTH ≡ child_entries b OBJECTS_BIRTH ++ (id, b.born + 1) ∷ []
          go None q = absurd (let clash : false ≡ true = sym (ap is_some q) ∙ e in cc)
          go (Some y) q =
              let own : (y.birth == OBJECTS_BIRTH) ≡ true = eq-eqb y.birth OBJECTS_BIRTH (found-birth OBJECTS_BIRTH b.records y q) in
              let is : record_of (with_object b t id props) OBJECTS_BIRTH ≡ Some (change y) =
              found OBJECTS_BIRTH
              ∙ ap (λ (o : Option Record). option_or (option_map (edited OBJECTS_BIRTH change) o) (found_at OBJECTS_BIRTH (r ∷ []))) q
              ∙ rw (edited, own) refl in
              ap (λ (o : Option Record). filter_map child_entry (option_map_or (λ (z : Record). z.slots) o [])) is
              ∙ entry-added child_entry (id, child (b.born + 1)) (id, b.born + 1) refl y.slots
              ∙ sym (ap (λ (o : Option Record). filter_map child_entry (option_map_or (λ (z : Record). z.slots) o []) ++ (id, b.born + 1) ∷ []) q)

      bodies : (y : Record) → bodiless (edited OBJECTS_BIRTH change y) ≡ bodiless y
      bodies y =
          decide (y.birth == OBJECTS_BIRTH) {A = bodiless (edited OBJECTS_BIRTH change y) ≡ bodiless y} (λ p. rw (edited, p) refl)
          (λ p. rw (edited, p) refl)

      children : (x : ℕ) → is_live b x ≡ true → (x == OBJECTS_BIRTH) ≡ false → child_entries (with_object b t id props) x ≡ child_entries b x
      children x e apart = go (record_of b x) refl
        where
          go : (o : Option Record) → record_of b x ≡ o → child_entries (with_object b t id props) x ≡ child_entries b x
          go None q = absurd (let clash : false ≡ true = sym (ap is_some q) ∙ e in cc)
          go (Some y) q =
              let other : (y.birth == OBJECTS_BIRTH) ≡ false = ap (λ (k : ℕ). k == OBJECTS_BIRTH) (found-birth x b.records y q) ∙ apart in
              let is : record_of (with_object b t id props) x ≡ Some y =
              found x
              ∙ ap (λ (o : Option Record). option_or (option_map (edited OBJECTS_BIRTH change) o) (found_at x (r ∷ []))) q
              ∙ rw (edited, other) refl in
              ap (λ (o : Option Record). filter_map child_entry (option_map_or (λ (z : Record). z.slots) o [])) (is ∙ sym q)

pub attempt-places : (depth : ℕ → ℕ) (b : Board) (t : TypeId) → PinsRootAlone b → PlacesBut depth None (λ x. false) b
    → PlacesBut depth None (λ x. false) (with_attempt b t)
attempt-places depth b t rest h =
    places-kept b (with_attempt b t)
    (kept-alike b (with_attempt b t) (attempt-rest b t rest).used.firm (owner-live b 1 MACHINE_BIRTH h.machine) refl
    (λ x e. alike-record b (with_attempt b t) x refl)) depth None
    (λ x. false) h

added_as-places : (depth : ℕ → ℕ) (b : Board) (t : TypeId) (id : List ℕ) (props : List Given) (refusal : Option Code)
    → is_a t (codes "user-creatable") ≡ true → PinsRootAlone b → PlacesBut depth None (λ x. false) b → Keeps depth b (added_as b t id props refusal).board
added_as-places depth b t id props None may rest h =
    let g : Grown b (with_object b t id props) = grown-object b t id props (users b t props may) rest.used.firm in
    record {
      places = places-grown depth b (with_object b t id props) g rest.used.firm h;
      stood = all-stands depth b (with_object b t id props) g rest.used.firm h;
    }
added_as-places depth b t id props (Some code) may rest h = record { places = attempt-places depth b t rest h; stood = λ d. refl }

pub object_add-places : (depth : ℕ → ℕ) (b : Board) (driver id : List ℕ) (props : List Given) → PinsRootAlone b → PlacesBut depth None (λ x. false) b
    → Keeps depth b (object_add b driver id props).board
object_add-places depth b driver id props rest h =
    addition-comes (Keeps depth b) b driver id props (keeps-none depth b h)
    (λ row e o is. added_as-places depth b row.id id props o (creatable b row id e) rest h)
