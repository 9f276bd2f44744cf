-- A device that was made is joined to its container and to its bus.
use Rattle.std.proofs.Common.{◌≡◌, refl, ap, ap₂, sym, subst, ◌∙◌, ℕ, Bool, true, false, ◌==◌, eqb, List, [], ◌∷◌, ◌++◌, filter_map, find, Option, Some, None, is_some, option_map, option_and_then, codes, append-nil}
use Rattle.qo_model.proofs.Common.{option_map_or, bytes_eq, ANONYMOUS_BIRTH, MACHINE_BIRTH, PERIPHERAL_BIRTH, TypeId, Device, Val, Board, Record, Slot, child, strong, record_of, kind_of, is_live, slots_at, add, with_added, among, bus_of, is_realized, is_true, kid_name, number_in, bus_slot_of, plain_in, strong_in, joined, name_for, parent_for, Resources, Wanted, edited}
use Rattle.std.proofs.lemmas.Bool.{eqb-true}
use Rattle.qo_model.proofs.FirstSlotLemmas.{slots_in, named_in}
use Rattle.qo_model.proofs.StepLemmas.{found-edited}
use Rattle.qo_sound.proofs.DraftLemmas.{live-apart}
use Rattle.qo_sound.proofs.FirmBoardLemmas.{WellFormed}
use Rattle.qo_sound.proofs.TestLemmas.{decide}
use Rattle.qo_sound_devices.specs.SoundPlaces.{child_entries, child_entry, id_of, kid_entries, kid_entry, listed, path_of, PlacesBut}
use Rattle.qo_sound_devices.proofs.AddLemmas.{entries-added, entry-added, named-added}
use Rattle.qo_sound_devices.proofs.LikenessLemmas.{Alike, alike-record, bodiless, other-record}
use Rattle.qo_sound_devices.proofs.AdditionLemmas.{Goal, goal-same, further-same, Joined, named_entry, Now, numbered_entry, HasFurther, HasHeirs}
use Rattle.qo_sound_devices.proofs.PlacesLemmas.{child-live, id-alike, kind-alike, of-alike, of-live, SameBody}

other-added : (s : List ℕ × Slot) (name : List ℕ) → bytes_eq s.0 name ≡ false → (slots : List (List ℕ × Slot))
    → named_in name (slots ++ s ∷ []) ≡ named_in name slots
other-added s name apart [] = rw apart refl
other-added s name apart (x ∷ slots) = go (bytes_eq x.0 name) refl (other-added s name apart slots)
  where
    go : (t : Bool) → bytes_eq x.0 name ≡ t → named_in name (slots ++ s ∷ []) ≡ named_in name slots
        → named_in name ((x ∷ slots) ++ s ∷ []) ≡ named_in name (x ∷ slots)
    go true p rest = rw p refl
    go false p rest = rw p rest

module _ (c : Board) (m : ℕ) (name : List ℕ) (s : Slot) where
  pub added-read : {A : Type 0} (f : List (List ℕ × Slot) → A) → ((slots : List (List ℕ × Slot)) → f (slots ++ (name, s) ∷ []) ≡ f slots) → (x : ℕ)
      → f (slots_at (add m name s c) x) ≡ f (slots_at c x)
  unfolding add
  added-read {A} f same x = ap (λ (o : Option Record). f (slots_in o)) (found-edited m (with_added name s) (λ r. refl) x c.records) ∙ go (record_of c x)
    where
      one : (r : Record) → f (edited m (with_added name s) r).slots ≡ f r.slots
      one r = decide (r.birth == m) {A = f (edited m (with_added name s) r).slots ≡ f r.slots} (λ p. rw (edited, p) (same r.slots)) (λ p. rw (edited, p) refl)

      go : (o : Option Record) → f (slots_in (option_map (edited m (with_added name s)) o)) ≡ f (slots_in o)
      go None = refl
      go (Some r) = one r

  pub added-body : (x : ℕ) → SameBody c (add m name s c) x
  unfolding add
  added-body x = ap (option_map bodiless) (found-edited m (with_added name s) (λ r. refl) x c.records) ∙ go (record_of c x)
    where
      one : (r : Record) → bodiless (edited m (with_added name s) r) ≡ bodiless r
      one r = decide (r.birth == m) {A = bodiless (edited m (with_added name s) r) ≡ bodiless r} (λ p. rw (edited, p) refl) (λ p. rw (edited, p) refl)

      go : (o : Option Record) → option_map bodiless (option_map (edited m (with_added name s)) o) ≡ option_map bodiless o
      go None = refl
      go (Some r) = ap Some (one r)

  pub added-other : (x : ℕ) → (x == m) ≡ false → slots_at (add m name s c) x ≡ slots_at c x
  unfolding add
  added-other x apart =
      ap slots_in
      (found-edited m (with_added name s) (λ r. refl) x c.records ∙ other-record m x (with_added name s) c refl apart (record_of c x) refl)

  pub added-own : is_live c m ≡ true → slots_at (add m name s c) m ≡ slots_at c m ++ (name, s) ∷ []
  unfolding add
  added-own there = ap slots_in (found-edited m (with_added name s) (λ r. refl) m c.records) ∙ go (record_of c m) refl
    where
      birth : (rs : List Record) (r : Record) → find (λ (y : Record). y.birth == m) rs ≡ Some r → (r.birth == m) ≡ true
      birth [] r k = cc
      birth (y ∷ rs) r k = at (y.birth == m) refl (birth rs r)
        where
          at : (t : Bool) → (y.birth == m) ≡ t → (find (λ (z : Record). z.birth == m) rs ≡ Some r → (r.birth == m) ≡ true) → (r.birth == m) ≡ true
          at true p rest = let is : Some y ≡ Some r = rw p at k in let same : y ≡ r = cc in subst (λ (z : Record). (z.birth == m) ≡ true) same p
          at false p rest = rest (rw p at k)

      go : (o : Option Record) → record_of c m ≡ o → slots_in (option_map (edited m (with_added name s)) o) ≡ slots_in o ++ (name, s) ∷ []
      go None e = absurd (let clash : false ≡ true = sym (ap is_some e) ∙ there in cc)
      go (Some r) e = let own : (r.birth == m) ≡ true = birth c.records r e in rw (edited, own) refl

-- the objects that were there are as before
abbrev pub KeepsOld : Board → Board → Type 0
KeepsOld b c = (x : ℕ) → is_live b x ≡ true → record_of c x ≡ record_of b x

-- the container of a device is there, whether it has an id or none
pub parent-live : (depth : ℕ → ℕ) (left : Option ℕ) (out : ℕ → Bool) (b : Board) → WellFormed b → PlacesBut depth left out b → (o : Option (List ℕ))
    → is_live b (parent_for o) ≡ true
parent-live depth left out b firm h None = child-live b firm MACHINE_BIRTH ANONYMOUS_BIRTH h.parts.1.0
parent-live depth left out b firm h (Some i) = child-live b firm MACHINE_BIRTH PERIPHERAL_BIRTH h.parts.0

-- what was there is not the device
pub differs : (b : Board) (n : ℕ) → is_live b n ≡ false → (x : ℕ) → is_live b x ≡ true → (x == n) ≡ false
differs b n absent x e =
    decide (x == n) {A = (x == n) ≡ false} (λ p. absurd (let clash : true ≡ false = sym e ∙ ap (is_live b) (eqb-true x n p) ∙ absent in cc)) (λ p. p)

-- a device that was made, and stands nowhere yet
pub record Made (b : Board) (n : ℕ) (t : TypeId) (c : Board) : Type 0 where
  pub old : KeepsOld b c
  pub absent : is_live b n ≡ false
  pub kind : kind_of c n ≡ Some t
  pub unrealized : (x : ℕ) → is_live b x ≡ false → is_realized c x ≡ false
  pub nameless : (x : ℕ) → is_live b x ≡ false → id_of c x ≡ None
  pub no_kids : (x : ℕ) → is_live b x ≡ false → kid_entries c x ≡ []
  pub further : HasFurther b c
  pub heirs : HasHeirs b n c
  pub anonymous : c.anonymous ≡ b.anonymous

-- what stands on it, as it is read
abbrev pub now_at : ℕ → Board → Now
now_at n c = record { its = id_of c n; path = path_of c n; count = c.anonymous; on = bus_of c n; at = bus_slot_of c n; realized = is_realized c n }

module _ (depth : ℕ → ℕ) (b : Board) (n bus slot : ℕ) (id : Option (List ℕ)) (t : TypeId) (c : Board) (m : Made b n t c) (g : Goal depth b n bus slot id t c)
    (firm : WellFormed b) (h : PlacesBut depth None (λ x. false) b) where
  abbrev parent : ℕ
  parent = parent_for id

  abbrev name : List ℕ
  name = name_for b id

  abbrev c1 : Board
  c1 = add (parent_for id) (name_for b id) (child n) c

  abbrev c2 : Board
  c2 = add bus (kid_name slot) (strong Device (Some n)) (add (parent_for id) (name_for b id) (child n) c)

  same : (x : ℕ) → is_live b x ≡ true → Alike b c x
  same x e = alike-record b c x (m.old x e)

  bus-live : is_live b bus ≡ true
  bus-live = of-live b (codes "bus") bus g.is_bus

  live3 : is_live b PERIPHERAL_BIRTH ≡ true
  live3 = child-live b firm MACHINE_BIRTH PERIPHERAL_BIRTH h.parts.0

  live4 : is_live b ANONYMOUS_BIRTH ≡ true
  live4 = child-live b firm MACHINE_BIRTH ANONYMOUS_BIRTH h.parts.1.0

  parent-there : is_live b (parent_for id) ≡ true
  parent-there = parent-live depth None (λ x. false) b firm h id

  still : (x : ℕ) → is_live b x ≡ true → is_live c x ≡ true
  still x e = ap is_some (m.old x e) ∙ e

  live1 : (x : ℕ) → is_live c x ≡ true → is_live c1 x ≡ true
  live1 x e = some (record_of c1 x) (record_of c x) (added-body c parent name (child n) x) e
    where
      some : (o p : Option Record) → option_map bodiless o ≡ option_map bodiless p → is_some p ≡ true → is_some o ≡ true
      some (Some r) p k l = refl
      some None None k l = l
      some None (Some r) k l = absurd (let clash : None ≡ Some (bodiless r) = k in cc)

  body2 : (x : ℕ) → SameBody c c2 x
  body2 x = added-body c1 bus (kid_name slot) (strong Device (Some n)) x ∙ added-body c parent name (child n) x

  realized2 : (x : ℕ) → is_realized c2 x ≡ is_realized c x
  realized2 x =
      added-read c1 bus (kid_name slot) (strong Device (Some n)) f (one (strong Device (Some n)) refl (kid_name slot)) x
      ∙ added-read c parent name (child n) f (one (child n) refl name) x
    where
      f : List (List ℕ × Slot) → Bool
      f ss = option_map_or is_true (option_and_then plain_in (named_in (codes "realized") ss)) false

      one : (s : Slot) → plain_in s ≡ None → (own : List ℕ) → (slots : List (List ℕ × Slot)) → f (slots ++ (own, s) ∷ []) ≡ f slots
      one s none own slots = ap (λ (o : Option Val). option_map_or is_true o false) (named-added plain_in (own, s) none (codes "realized") slots)

  place2 : (x : ℕ) → bus_slot_of c2 x ≡ bus_slot_of c x
  place2 x =
      added-read c1 bus (kid_name slot) (strong Device (Some n)) f (one (strong Device (Some n)) refl (kid_name slot)) x
      ∙ added-read c parent name (child n) f (one (child n) refl name) x
    where
      f : List (List ℕ × Slot) → Option ℕ
      f ss = option_and_then number_in (option_and_then plain_in (named_in (codes "slot") ss))

      one : (s : Slot) → plain_in s ≡ None → (own : List ℕ) → (slots : List (List ℕ × Slot)) → f (slots ++ (own, s) ∷ []) ≡ f slots
      one s none own slots = ap (option_and_then number_in) (named-added plain_in (own, s) none (codes "slot") slots)

  bus2 : (x : ℕ) → bus_of c2 x ≡ bus_of c x
  bus2 x =
      added-read c1 bus (kid_name slot) (strong Device (Some n)) (λ ss. option_and_then strong_in (named_in (codes "parent_bus") ss))
      (λ slots. ap (option_and_then strong_in) (other-added (kid_name slot, strong Device (Some n)) (codes "parent_bus") refl slots)) x
      ∙ added-read c parent name (child n) (λ ss. option_and_then strong_in (named_in (codes "parent_bus") ss))
      (named-added strong_in (name, child n) refl (codes "parent_bus")) x

  kids1 : (x : ℕ) → kid_entries c1 x ≡ kid_entries c x
  kids1 x = added-read c parent name (child n) (filter_map kid_entry) (entries-added kid_entry (name, child n) refl) x

  children2 : (x : ℕ) → child_entries c2 x ≡ child_entries c1 x
  children2 x =
      added-read c1 bus (kid_name slot) (strong Device (Some n)) (filter_map child_entry)
      (entries-added child_entry (kid_name slot, strong Device (Some n)) refl) x

  kids-other : (x : ℕ) → (x == bus) ≡ false → kid_entries c2 x ≡ kid_entries c x
  kids-other x apart = ap (filter_map kid_entry) (added-other c1 bus (kid_name slot) (strong Device (Some n)) x apart) ∙ kids1 x

  children-other : (x : ℕ) → (x == parent) ≡ false → child_entries c2 x ≡ child_entries c x
  children-other x apart = children2 x ∙ ap (filter_map child_entry) (added-other c parent name (child n) x apart)

  children-own : child_entries c2 parent ≡ child_entries c parent ++ (name, n) ∷ []
  children-own =
      children2 parent
      ∙ ap (filter_map child_entry) (added-own c parent name (child n) (still parent parent-there))
      ∙ entry-added child_entry (name, child n) (name, n) refl (slots_at c parent)

  own-children : child_entries c2 n ≡ child_entries c n
  own-children = children-other n (live-apart b n parent m.absent parent-there)

  parent-apart : (x : ℕ) → among (PERIPHERAL_BIRTH ∷ ANONYMOUS_BIRTH ∷ []) x ≡ false → (o : Option (List ℕ)) → (x == parent_for o) ≡ false
  parent-apart x e None = go (eqb x PERIPHERAL_BIRTH) refl (eqb x ANONYMOUS_BIRTH) refl
    where
      go : (t : Bool) → eqb x PERIPHERAL_BIRTH ≡ t → (u : Bool) → eqb x ANONYMOUS_BIRTH ≡ u → (x == ANONYMOUS_BIRTH) ≡ false
      go t p false q = q
      go true p true q = absurd (let clash : true ≡ false = rw p at e in cc)
      go false p true q = absurd (let clash : true ≡ false = rw (p, q) at e in cc)
  parent-apart x e (Some i) = go (eqb x PERIPHERAL_BIRTH) refl
    where
      go : (t : Bool) → eqb x PERIPHERAL_BIRTH ≡ t → (x == PERIPHERAL_BIRTH) ≡ false
      go false p = p
      go true p = absurd (let clash : true ≡ false = rw p at e in cc)

  third : (o : Option (List ℕ)) → id ≡ o → child_entries c2 PERIPHERAL_BIRTH ≡ child_entries b PERIPHERAL_BIRTH ++ named_entry o n
  third None e =
      children-other PERIPHERAL_BIRTH (ap (λ (o : Option (List ℕ)). PERIPHERAL_BIRTH == parent_for o) e)
      ∙ (same PERIPHERAL_BIRTH live3).children
      ∙ sym (append-nil (child_entries b PERIPHERAL_BIRTH))
  third (Some i) e =
      ap (child_entries c2) (sym (ap parent_for e)) ∙ children-own
      ∙ ap₂ (λ (x : ℕ) (y : List ℕ). child_entries c x ++ (y, n) ∷ []) (ap parent_for e) (ap (name_for b) e)
      ∙ ap (λ (xs : List (List ℕ × ℕ)). xs ++ (i, n) ∷ []) (same PERIPHERAL_BIRTH live3).children

  fourth : (o : Option (List ℕ)) → id ≡ o → child_entries c2 ANONYMOUS_BIRTH ≡ child_entries b ANONYMOUS_BIRTH ++ numbered_entry b o n
  fourth (Some i) e =
      children-other ANONYMOUS_BIRTH (ap (λ (o : Option (List ℕ)). ANONYMOUS_BIRTH == parent_for o) e)
      ∙ (same ANONYMOUS_BIRTH live4).children
      ∙ sym (append-nil (child_entries b ANONYMOUS_BIRTH))
  fourth None e =
      ap (child_entries c2) (sym (ap parent_for e)) ∙ children-own
      ∙ ap₂ (λ (x : ℕ) (y : List ℕ). child_entries c x ++ (y, n) ∷ []) (ap parent_for e) (ap (name_for b) e)
      ∙ ap (λ (xs : List (List ℕ × ℕ)). xs ++ (name_for b None, n) ∷ []) (same ANONYMOUS_BIRTH live4).children

  pub joined-made : Joined depth b n bus slot id t (now_at n c2) c2
  joined-made =
      record {
        body = λ x e. body2 x ∙ (same x e).body;
        realized = λ x e. realized2 x ∙ (same x e).realized;
        bus_same = λ x e. bus2 x ∙ (same x e).bus;
        place_same = λ x e. place2 x ∙ (same x e).place;
        kids_same = λ x e apart. kids-other x apart ∙ (same x e).kids;
        children = λ x e apart. children-other x (parent-apart x apart id) ∙ (same x e).children;
        kids_more =
            ap (filter_map kid_entry) (added-own c1 bus (kid_name slot) (strong Device (Some n)) (live1 bus (still bus bus-live)))
            ∙ entry-added kid_entry (kid_name slot, strong Device (Some n)) (kid_name slot, n) refl (slots_at c1 bus)
            ∙ ap (λ (xs : List (List ℕ × ℕ)). xs ++ (kid_name slot, n) ∷ []) (kids1 bus ∙ (same bus bus-live).kids);
        third = third id refl;
        fourth = fourth id refl;
        anonymous = refl;
        absent = m.absent;
        unrealized = λ x e apart. realized2 x ∙ m.unrealized x e;
        nameless = λ x e apart. id-alike c c2 x (body2 x) ∙ m.nameless x e;
        no_kids = λ x e is. kids-other x (live-apart b x bus e bus-live) ∙ m.no_kids x e;
        further =
            λ x e. further-same c c2 (λ own y. of-alike c c2 y own (body2 y)) x (children-other x (live-apart b x parent e parent-there)) (m.further x e);
        kind = kind-alike c c2 n (body2 n) ∙ m.kind;
        its_id = refl;
        its_path = refl;
        on = refl;
        at = refl;
        stands_realized = refl;
        heirs = λ q e. m.heirs q (sym (ap (listed q) own-children) ∙ e);
        goal = goal-same depth b n bus slot id t c c2 own-children g;
      }

-- as it is written of what was asked for
pub joined-wanted : (depth : ℕ → ℕ) (b : Board) (n : ℕ) (a : Wanted) (resources : Resources) (t : TypeId) (c : Board) → Made b n t c
    → Goal depth b n resources.bus resources.slot a.id t c → WellFormed b → PlacesBut depth None (λ x. false) b
    → Joined depth b n resources.bus resources.slot a.id t (now_at n (joined b n a resources c)) (joined b n a resources c)
joined-wanted depth b n a resources t c m g firm h = joined-made depth b n resources.bus resources.slot a.id t c m g firm h
