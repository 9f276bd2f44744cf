-- Unrealizing leaves all of places but who is realized; who is not any more is the device and what is below it.
use Rattle.std.proofs.Common.{◌≡◌, refl, ap, sym, subst, ◌∙◌, ℕ, zero, suc, Bool, true, false, ◌==◌, eqb, List, [], ◌∷◌, filter_map, slice_get, Option, Some, None, is_some, option_map, option_and_then, arith, codes}
use Rattle.qo_model.proofs.Common.{cons_option, option_map_or, bytes_eq, Act, Unrealize, Val, Board, Record, Slot, plain, child, strong, weak, alias, record_of, is_live, slots_at, changed_at, set, with_changed, with_val, acted, device_period, with_act_on, among, by_depth, bus_of, buses_of, clock_of, is_realized, is_true, kids_of, number_in, bus_slot_of, plain_in, strong_in, index_from, edit, edited, disconnected, each, is_named, set_named, unheld, unnoticed, unrealize_turn, unrealized_bus, unrealized_device, unseen, unseen_named}
use Rattle.std.proofs.lemmas.Bool.{eqb-true, eq-eqb}
use Rattle.std.proofs.Math.Bool.{or-true}
use Rattle.qo_values.specs.declared.properties.Val.TheVariants as val
use Rattle.qo_model.proofs.FirstSlotLemmas.{named_in, Found, found-at, first-changed, none-found, named-changed, named-other, other-name}
use Rattle.qo_model.proofs.StepLemmas.{found-edited, is_some-map, map-edited}
use Rattle.qo_sound.proofs.ReadLemmas.{plain-unseen, strong-unseen}
use Rattle.qo_sound_devices.specs.SoundPlaces.{child_entries, child_entry, kid_entries, kid_entry}
use Rattle.qo_sound_devices.proofs.LikenessLemmas.{Alike, alike-record, bodiless, other-record, alike-same}
use Rattle.qo_sound_devices.proofs.DropLemmas.{edited-slots}
use Rattle.qo_sound_devices.proofs.PlacesLemmas.{SameBody}

-- two boards that differ, of what places speak of, only in that fewer are realized
pub record FewerRealized (b c : Board) : Type 0 where
  pub body : (x : ℕ) → SameBody b c x
  pub children : (x : ℕ) → child_entries c x ≡ child_entries b x
  pub kids : (x : ℕ) → kid_entries c x ≡ kid_entries b x
  pub bus : (x : ℕ) → bus_of c x ≡ bus_of b x
  pub place : (x : ℕ) → bus_slot_of c x ≡ bus_slot_of b x
  pub fading : (x : ℕ) → is_realized c x ≡ true → is_realized b x ≡ true
  pub anonymous : c.anonymous ≡ b.anonymous

pub dimmed-none : (b : Board) → FewerRealized b b
dimmed-none b = record { body = λ x. refl; children = λ x. refl; kids = λ x. refl; bus = λ x. refl; place = λ x. refl; fading = λ x e. e; anonymous = refl }

pub dimmed-then : (b c d : Board) → FewerRealized b c → FewerRealized c d → FewerRealized b d
dimmed-then b c d h k =
    record {
      body = λ x. k.body x ∙ h.body x;
      children = λ x. k.children x ∙ h.children x;
      kids = λ x. k.kids x ∙ h.kids x;
      bus = λ x. k.bus x ∙ h.bus x;
      place = λ x. k.place x ∙ h.place x;
      fading = λ x e. h.fading x (k.fading x e);
      anonymous = k.anonymous ∙ h.anonymous;
    }

pub dimmed-live : (b c : Board) → FewerRealized b c → (x : ℕ) → is_live c x ≡ is_live b x
dimmed-live b c h x = sym (is_some-map bodiless (record_of c x)) ∙ ap is_some (h.body x) ∙ is_some-map bodiless (record_of b x)

-- how two boards differ in who is realized
pub record Dims (b c : Board) : Type 0 where
  pub dimmed : FewerRealized b c
  pub same : (x : ℕ) → is_realized c x ≡ is_realized b x

pub dims-none : (b : Board) → Dims b b
dims-none b = record { dimmed = dimmed-none b; same = λ x. refl }

pub dims-then : (b c d : Board) → Dims b c → Dims c d → Dims b d
dims-then b c d h k = record { dimmed = dimmed-then b c d h.dimmed k.dimmed; same = λ x. k.same x ∙ h.same x }

pub dims-alike : (b c : Board) → c.anonymous ≡ b.anonymous → ((x : ℕ) → Alike b c x) → Dims b c
dims-alike b c anonymous alike =
    record {
      dimmed =
          record {
            body = λ x. (alike x).body;
            children = λ x. (alike x).children;
            kids = λ x. (alike x).kids;
            bus = λ x. (alike x).bus;
            place = λ x. (alike x).place;
            fading = λ x e. sym (alike x).realized ∙ e;
            anonymous = anonymous;
          };
      same = λ x. (alike x).realized;
    }

-- one slot is changed

pub entries-changed : (f : List ℕ × Slot → Option (List ℕ × ℕ)) (g : Slot → Slot) → ((s : List ℕ × Slot) → f (s.0, g s.1) ≡ f s)
    → (i : ℕ) (slots : List (List ℕ × Slot)) → filter_map f (changed_at g i slots) ≡ filter_map f slots
entries-changed f g same i [] = refl
entries-changed f g same zero (s ∷ slots) = ap (λ (o : Option (List ℕ × ℕ)). cons_option o (filter_map f slots)) (same s)
entries-changed f g same (suc i) (s ∷ slots) = ap (cons_option (f s)) (entries-changed f g same i slots)

-- a change of one slot that leaves entries and strong links
pub record IsMild (g : Slot → Slot) : Type 0 where
  pub children : (s : List ℕ × Slot) → child_entry (s.0, g s.1) ≡ child_entry s
  pub kids : (s : List ℕ × Slot) → kid_entry (s.0, g s.1) ≡ kid_entry s
  pub strongs : (s : Slot) → strong_in (g s) ≡ strong_in s

-- what is read of slots stays where one slot is changed, if it stays of the slots of that object
module _ (g : Slot → Slot) (n i : ℕ) (b : Board) where
  abbrev c : Board
  c = edit n (with_changed g i) b

  pub reads : {A : Type 0} (f : List (List ℕ × Slot) → A)
      → ((slots : List (List ℕ × Slot)) → slots_at b n ≡ slots → f (changed_at g i slots) ≡ f slots) → (x : ℕ)
      → f (slots_at (edit n (with_changed g i) b) x) ≡ f (slots_at b x)
  reads f same x = go (x == n) refl
    where
      at_owner : (o : Option Record) → record_of b n ≡ o → f (slots_at c n) ≡ f (slots_at b n)
      at_owner None e =
          let was : slots_at b n ≡ [] = ap (λ (o : Option Record). option_map_or (λ (r : Record). r.slots) o []) e in
          let now : slots_at c n ≡ [] =
          ap (λ (o : Option Record). option_map_or (λ (r : Record). r.slots) o [])
          (found-edited n (with_changed g i) (λ r. refl) n b.records ∙ ap (option_map (edited n (with_changed g i))) e) in
          ap f (now ∙ sym was)
      at_owner (Some r) e =
          let was : slots_at b n ≡ r.slots = ap (λ (o : Option Record). option_map_or (λ (y : Record). y.slots) o []) e in
          ap f (edited-slots b n (with_changed g i) (λ y. refl) r e) ∙ same r.slots was ∙ sym (ap f was)

      go : (t : Bool) → (x == n) ≡ t → f (slots_at c x) ≡ f (slots_at b x)
      go true p = subst (λ (m : ℕ). f (slots_at c m) ≡ f (slots_at b m)) (sym (eqb-true x n p)) (at_owner (record_of b n) refl)
      go false p =
          ap (λ (o : Option Record). f (option_map_or (λ (r : Record). r.slots) o []))
          (found-edited n (with_changed g i) (λ r. refl) x b.records ∙ other-record n x (with_changed g i) b refl p (record_of b x) refl)

  pub bodies : (x : ℕ) → SameBody b (edit n (with_changed g i) b) x
  bodies x =
      ap (option_map bodiless) (found-edited n (with_changed g i) (λ r. refl) x b.records)
      ∙ map-edited bodiless n (with_changed g i) (λ r. refl) (record_of b x)

module _ (g : Slot → Slot) (mild : IsMild g) (n i : ℕ) (b : Board) where
  -- where the value of one name is changed
  pub mild-dimmed : ((slots : List (List ℕ × Slot)) → slots_at b n ≡ slots
      → option_and_then plain_in (named_in (codes "slot") (changed_at g i slots)) ≡ option_and_then plain_in (named_in (codes "slot") slots))
      → ((x : ℕ) → is_realized (edit n (with_changed g i) b) x ≡ true → is_realized b x ≡ true) → FewerRealized b (edit n (with_changed g i) b)
  mild-dimmed slot fading =
      record {
        body = bodies g n i b;
        children = reads g n i b (filter_map child_entry) (λ slots e. entries-changed child_entry g mild.children i slots);
        kids = reads g n i b (filter_map kid_entry) (λ slots e. entries-changed kid_entry g mild.kids i slots);
        bus =
            reads g n i b (λ slots. option_and_then strong_in (named_in (codes "parent_bus") slots))
            (λ slots e. named-changed strong_in g mild.strongs (codes "parent_bus") i slots);
        place =
            reads g n i b (λ slots. option_and_then number_in (option_and_then plain_in (named_in (codes "slot") slots)))
            (λ slots e. ap (option_and_then number_in) (slot slots e));
        fading = fading;
        anonymous = refl;
      }

pub mild-val : (v : Val) → IsMild (with_val v)
mild-val v = record { children = children; kids = kids; strongs = strongs }
  where
    children : (s : List ℕ × Slot) → child_entry (s.0, with_val v s.1) ≡ child_entry s
    children (name, plain w) = refl
    children (name, child m) = refl
    children (name, strong t target) = refl
    children (name, weak t target) = refl
    children (name, alias m property) = refl

    kids : (s : List ℕ × Slot) → kid_entry (s.0, with_val v s.1) ≡ kid_entry s
    kids (name, plain w) = refl
    kids (name, child m) = refl
    kids (name, strong t target) = refl
    kids (name, weak t target) = refl
    kids (name, alias m property) = refl

    strongs : (s : Slot) → strong_in (with_val v s) ≡ strong_in s
    strongs (plain w) = refl
    strongs (child m) = refl
    strongs (strong t target) = refl
    strongs (weak t target) = refl
    strongs (alias m property) = refl

pub mild-unseen : IsMild unseen
mild-unseen = record { children = children; kids = kids; strongs = strong-unseen }
  where
    children : (s : List ℕ × Slot) → child_entry (s.0, unseen s.1) ≡ child_entry s
    children (name, plain w) = refl
    children (name, child m) = refl
    children (name, strong t target) = refl
    children (name, weak t target) = refl
    children (name, alias m property) = refl

    kids : (s : List ℕ × Slot) → kid_entry (s.0, unseen s.1) ≡ kid_entry s
    kids (name, plain w) = refl
    kids (name, child m) = refl
    kids (name, strong t target) = refl
    kids (name, weak t target) = refl
    kids (name, alias m property) = refl

-- a weak link that is emptied
pub dims-unseen : (n : ℕ) (name : List ℕ) (b : Board) → Dims b (unseen_named n name b)
dims-unseen n name b = go (index_from (is_named name) 0 (slots_at b n)) refl
  where
    go : (o : Option ℕ) → index_from (is_named name) 0 (slots_at b n) ≡ o → Dims b (unseen_named n name b)
    go None e = rw (unseen_named, e) (dims-none b)
    go (Some i) e =
        let same_plain : (own : List ℕ) → (slots : List (List ℕ × Slot)) → slots_at b n ≡ slots
        → option_and_then plain_in (named_in own (changed_at unseen i slots)) ≡ option_and_then plain_in (named_in own slots) =
        λ own slots q. named-changed plain_in unseen plain-unseen own i slots in
        let realized : (x : ℕ) → is_realized (edit n (with_changed unseen i) b) x ≡ is_realized b x =
        reads unseen n i b (λ slots. option_map_or is_true (option_and_then plain_in (named_in (codes "realized") slots)) false)
        (λ slots q. ap (λ (o : Option Val). option_map_or is_true o false) (same_plain (codes "realized") slots q)) in
        rw (unseen_named, e)
        (record { dimmed = mild-dimmed unseen mild-unseen n i b (same_plain (codes "slot")) (λ x q. sym (realized x) ∙ q); same = realized })

pub dims-set : (n : ℕ) (name : List ℕ) (v : Val) → bytes_eq name (codes "slot") ≡ false → bytes_eq name (codes "realized") ≡ false → (b : Board)
    → Dims b (set_named n name v b)
unfolding set
dims-set n name v no_slot no_mark b = go (index_from (is_named name) 0 (slots_at b n)) refl
  where
    go : (o : Option ℕ) → index_from (is_named name) 0 (slots_at b n) ≡ o → Dims b (set_named n name v b)
    go None e = rw (set_named, e) (dims-none b)
    go (Some i) e =
        let f : Found (is_named name) (slots_at b n) i = found-at (is_named name) i (slots_at b n) e in
        let same_named : (own : List ℕ) → bytes_eq name own ≡ false → (slots : List (List ℕ × Slot)) → slots_at b n ≡ slots
        → named_in own (changed_at (with_val v) i slots) ≡ named_in own slots =
        λ own apart slots q. named-other (with_val v) own i slots f.entry (ap (λ (x : List (List ℕ × Slot)). slice_get x i) (sym q) ∙ f.at)
        (other-name name own apart f.entry f.passes) in
        let realized : (x : ℕ) → is_realized (edit n (with_changed (with_val v) i) b) x ≡ is_realized b x =
        reads (with_val v) n i b (λ slots. option_map_or is_true (option_and_then plain_in (named_in (codes "realized") slots)) false)
        (λ slots q. ap (λ (o : Option Slot). option_map_or is_true (option_and_then plain_in o) false) (same_named (codes "realized") no_mark slots q)) in
        rw (set_named, e)
        (record {
          dimmed =
              mild-dimmed (with_val v) (mild-val v) n i b (λ slots q. ap (option_and_then plain_in) (same_named (codes "slot") no_slot slots q))
              (λ x q. sym (realized x) ∙ q);
          same = realized;
        })

-- a device is not realized any more, and each other is as before
pub record Fades (d : ℕ) (b c : Board) : Type 0 where
  pub dimmed : FewerRealized b c
  pub gone : is_realized c d ≡ false
  pub same : (x : ℕ) → (x == d) ≡ false → is_realized c x ≡ is_realized b x

set-false : (s : Option Slot) → option_map_or is_true (option_and_then plain_in (option_map (with_val (val.Bool false)) s)) false ≡ false
set-false None = refl
set-false (Some (plain v)) = refl
set-false (Some (child m)) = refl
set-false (Some (strong t target)) = refl
set-false (Some (weak t target)) = refl
set-false (Some (alias m property)) = refl

fades-set : (d : ℕ) (b : Board) → Fades d b (set_named d (codes "realized") (val.Bool false) b)
unfolding set
fades-set d b = go (index_from (is_named (codes "realized")) 0 (slots_at b d)) refl
  where
    go : (o : Option ℕ) → index_from (is_named (codes "realized")) 0 (slots_at b d) ≡ o → Fades d b (set_named d (codes "realized") (val.Bool false) b)
    go None e =
        rw (set_named, e)
        (record {
          dimmed = dimmed-none b;
          gone =
              ap (λ (o : Option Slot). option_map_or is_true (option_and_then plain_in o) false) (none-found (codes "realized") (slots_at b d) 0 e);
          same = λ x p. refl;
        })
    go (Some i) e =
        rw (set_named, e)
        (record { dimmed = mild-dimmed g (mild-val (val.Bool false)) d i b slot (λ x q. fading x (x == d) refl q); gone = gone; same = λ x p. others x p })
      where
        g : Slot → Slot
        g = with_val (val.Bool false)

        c : Board
        c = edit d (with_changed g i) b

        f : Found (is_named (codes "realized")) (slots_at b d) i
        f = found-at (is_named (codes "realized")) i (slots_at b d) e

        slot : (slots : List (List ℕ × Slot)) → slots_at b d ≡ slots
            → option_and_then plain_in (named_in (codes "slot") (changed_at g i slots)) ≡ option_and_then plain_in (named_in (codes "slot") slots)
        slot slots q =
            ap (option_and_then plain_in)
            (named-other g (codes "slot") i slots f.entry (ap (λ (x : List (List ℕ × Slot)). slice_get x i) (sym q) ∙ f.at)
            (other-name (codes "realized") (codes "slot") refl f.entry f.passes))

        others : (x : ℕ) → (x == d) ≡ false → is_realized c x ≡ is_realized b x
        others x p =
            (alike-record b c x
            (found-edited d (with_changed g i) (λ r. refl) x b.records ∙ other-record d x (with_changed g i) b refl p (record_of b x) refl)).realized

        gone : is_realized c d ≡ false
        gone = at_owner (record_of b d) refl
          where
            at_owner : (o : Option Record) → record_of b d ≡ o → is_realized c d ≡ false
            at_owner None q = absurd (let clash : None ≡ Some i = rw q at e in cc)
            at_owner (Some r) q =
                let was : slots_at b d ≡ r.slots = ap (λ (o : Option Record). option_map_or (λ (y : Record). y.slots) o []) q in
                let first : index_from (is_named (codes "realized")) 0 r.slots ≡ Some i = ap (index_from (is_named (codes "realized")) 0) (sym was) ∙ e in
                ap (λ (x : List (List ℕ × Slot)). option_map_or is_true (option_and_then plain_in (named_in (codes "realized") x)) false)
                (edited-slots b d (with_changed g i) (λ y. refl) r q)
                ∙ ap (λ (o : Option Slot). option_map_or is_true (option_and_then plain_in o) false)
                (first-changed g (codes "realized") r.slots 0 i i first (omega arith))
                ∙ set-false (named_in (codes "realized") r.slots)

        fading : (x : ℕ) (t : Bool) → (x == d) ≡ t → is_realized c x ≡ true → is_realized b x ≡ true
        fading x true p q = absurd (let clash : false ≡ true = sym gone ∙ subst (λ (m : ℕ). is_realized c m ≡ true) (eqb-true x d p) q in cc)
        fading x false p q = sym (others x p) ∙ q

fades-after : (d : ℕ) (b c e : Board) → Dims b c → Fades d c e → Fades d b e
fades-after d b c e h k = record { dimmed = dimmed-then b c e h.dimmed k.dimmed; gone = k.gone; same = λ x p. k.same x p ∙ h.same x }

fades-before : (d : ℕ) (b c e : Board) → Fades d b c → Dims c e → Fades d b e
fades-before d b c e h k = record { dimmed = dimmed-then b c e h.dimmed k.dimmed; gone = k.same d ∙ h.gone; same = λ x p. k.same x ∙ h.same x p }

pub dims-acted : (act : Act) (n period : ℕ) (b : Board) → Dims b (acted act n period b)
unfolding acted
dims-acted act n period b = dims-alike b (acted act n period b) refl alike
  where
    alike : (x : ℕ) → Alike b (acted act n period b) x
    alike x =
        let found : record_of (acted act n period b) x ≡ option_map (edited n (with_act_on act b.now period)) (record_of b x) =
        found-edited n (with_act_on act b.now period) (λ r. refl) x b.records in
        same_slots (record_of b x) refl found
      where
        same_slots : (o : Option Record) → record_of b x ≡ o
            → record_of (acted act n period b) x ≡ option_map (edited n (with_act_on act b.now period)) o → Alike b (acted act n period b) x
        same_slots None e q = alike-record b (acted act n period b) x (q ∙ sym e)
        same_slots (Some r) e q = at_record (r.birth == n) refl
          where
            at_record : (t : Bool) → (r.birth == n) ≡ t → Alike b (acted act n period b) x
            at_record true p =
                let now : record_of (acted act n period b) x ≡ Some (with_act_on act b.now period r) = q ∙ rw (edited, p) refl in
                let slots : slots_at (acted act n period b) x ≡ slots_at b x =
                ap (λ (o : Option Record). option_map_or (λ (y : Record). y.slots) o []) now
                ∙ sym (ap (λ (o : Option Record). option_map_or (λ (y : Record). y.slots) o []) e) in
                alike-same b (acted act n period b) x slots (ap (option_map bodiless) now ∙ sym (ap (option_map bodiless) e))
            at_record false p = alike-record b (acted act n period b) x (q ∙ rw (edited, p) refl ∙ sym e)

dims-unheld : (n : ℕ) (b : Board) → Dims b (unheld n b)
dims-unheld n b = dims-alike b (unheld n b) refl (λ x. alike-record b (unheld n b) x refl)

dims-unnoticed : (n : ℕ) (b : Board) → Dims b (unnoticed n b)
dims-unnoticed n b = dims-alike b (unnoticed n b) refl (λ x. alike-record b (unnoticed n b) x refl)

pub dims-disconnected : (o : Option ℕ) (b : Board) → Dims b (disconnected o b)
dims-disconnected None b = dims-none b
dims-disconnected (Some n) b =
    dims-then b (unseen_named n (codes "source") b) (disconnected (Some n) b) (dims-unseen n (codes "source") b)
    (dims-set n (codes "period") (val.Uint 0) refl refl (unseen_named n (codes "source") b))

pub dims-bus : (m : ℕ) (b : Board) → Dims b (unrealized_bus m b)
dims-bus m b = dims-then b (acted Unrealize m 0 b) (unrealized_bus m b) (dims-acted Unrealize m 0 b) (dims-unheld m (acted Unrealize m 0 b))

pub fades-device : (d : ℕ) (b : Board) → Fades d b (unrealized_device d b)
fades-device d b =
    let one : Board = acted Unrealize d (device_period b d) b in
    let two : Board = disconnected (clock_of b d) one in
    let three : Board = set_named d (codes "realized") (val.Bool false) two in
    let first : Dims b two = dims-then b one two (dims-acted Unrealize d (device_period b d) b) (dims-disconnected (clock_of b d) one) in
    fades-before d b three (unnoticed d (unheld d three)) (fades-after d b two three first (fades-set d two))
    (dims-then three (unheld d three) (unnoticed d (unheld d three)) (dims-unheld d three) (dims-unnoticed d (unheld d three)))

-- what is below a device, by the board before

pub data Under (b : Board) : ℕ → ℕ → Type 0 where
  here : {d : ℕ} → Under b d d
  down : {d y : ℕ} (m k : ℕ) → among (buses_of b d) m ≡ true → among (kids_of b m) k ≡ true → Under b k y → Under b d y

-- no more than so many devices are below one another
abbrev pub IsLow : Board → ℕ → ℕ → Type 0
IsLow b zero d = ⊥
IsLow b (suc n) d = (m k : ℕ) → among (buses_of b d) m ≡ true → among (kids_of b m) k ≡ true → IsLow b n k

-- each of some, in order

pub each-keeps : (P : Board → Type 0) (f : ℕ → Board → Board) (ns : List ℕ) → ((n : ℕ) → among ns n ≡ true → (c : Board) → P c → P (f n c))
    → (c : Board) → P c → P (each f ns c)
each-keeps P f [] keeps c h = h
each-keeps P f (n ∷ ns) keeps c h = each-keeps P f ns (λ k e. keeps k (rw e (or-true (eqb k n)))) (f n c) (keeps n (rw (eq-eqb n n refl) refl) c h)

pub each-makes : (P : Board → Type 0) (f : ℕ → Board → Board) (ns : List ℕ) (k : ℕ) → among ns k ≡ true → ((c : Board) → P (f k c))
    → ((n : ℕ) (c : Board) → P c → P (f n c)) → (c : Board) → P (each f ns c)
each-makes P f [] k e makes keeps c = absurd (let clash : false ≡ true = e in cc)
each-makes P f (n ∷ ns) k e makes keeps c = go (eqb k n) refl (each-makes P f ns k)
  where
    go : (t : Bool) → eqb k n ≡ t
        → (among ns k ≡ true → ((x : Board) → P (f k x)) → ((m : ℕ) (x : Board) → P x → P (f m x)) → (x : Board) → P (each f ns x))
        → P (each f ns (f n c))
    go true p rest = each-keeps P f ns (λ m q. keeps m) (f n c) (subst (λ (m : ℕ). P (f m c)) (eqb-true k n p) (makes c))
    go false p rest = rest (rw p at e) makes keeps (f n c)

module _ (b : Board) where
  abbrev turns : ℕ → ℕ → Board → Board
  turns depth = by_depth (unrealize_turn b) (λ d c. c) depth

  abbrev on_bus : ℕ → ℕ → Board → Board
  on_bus depth m e = unrealized_bus m (each (turns depth) (kids_of b m) e)

  pub turns-dimmed : (depth d : ℕ) (c : Board) → FewerRealized c (turns depth d c)
  turns-dimmed zero d c = dimmed-none c
  turns-dimmed (suc depth) d c = turn (turns-dimmed depth)
    where
      turn : ((k : ℕ) (e : Board) → FewerRealized e (turns depth k e)) → FewerRealized c (turns (suc depth) d c)
      turn keeps =
          let inner : FewerRealized c (each (on_bus depth) (buses_of b d) c) =
          each-keeps (FewerRealized c) (on_bus depth) (buses_of b d)
          (λ m q e h. dimmed-then c (each (turns depth) (kids_of b m) e) (on_bus depth m e) (each-keeps (FewerRealized c) (turns depth) (kids_of b m)
          (λ k r x j. dimmed-then c x (turns depth k x) j (keeps k x)) e h) (dims-bus m (each (turns depth) (kids_of b m) e)).dimmed) c
          (dimmed-none c) in
          dimmed-then c (each (on_bus depth) (buses_of b d) c) (turns (suc depth) d c) inner (fades-device d (each (on_bus depth) (buses_of b d) c)).dimmed

  -- only what is below the device
  pub turns-only : (depth d : ℕ) (c : Board) (y : ℕ) → is_realized c y ≡ true → is_realized (turns depth d c) y ≡ false → Under b d y
  turns-only zero d c y was is = absurd (let clash : true ≡ false = sym was ∙ is in cc)
  turns-only (suc depth) d c y was is = turn (turns-only depth)
    where
      Lost : Board → Type 0
      Lost e = is_realized e y ≡ false → Under b d y

      turn : ((k : ℕ) (e : Board) (x : ℕ) → is_realized e x ≡ true → is_realized (turns depth k e) x ≡ false → Under b k x) → Under b d y
      turn only =
          own (each (on_bus depth) (buses_of b d) c)
          (each-keeps Lost (on_bus depth) (buses_of b d) by_bus c (λ q. absurd (let clash : true ≡ false = sym was ∙ q in cc))) (y == d) refl is
        where
          by_kid : (m : ℕ) → among (buses_of b d) m ≡ true → (k : ℕ) → among (kids_of b m) k ≡ true → (e : Board) → Lost e → Lost (turns depth k e)
          by_kid m q k r e h lost = choose (is_realized e y) refl
            where
              choose : (t : Bool) → is_realized e y ≡ t → Under b d y
              choose true p = down m k q r (only k e y p lost)
              choose false p = h p

          by_bus : (m : ℕ) → among (buses_of b d) m ≡ true → (e : Board) → Lost e → Lost (on_bus depth m e)
          by_bus m q e h lost =
              each-keeps Lost (turns depth) (kids_of b m) (by_kid m q) e h (sym ((dims-bus m (each (turns depth) (kids_of b m) e)).same y) ∙ lost)

          own : (e : Board) → Lost e → (t : Bool) → (y == d) ≡ t → is_realized (unrealized_device d e) y ≡ false → Under b d y
          own e h true p lost = subst (Under b d) (sym (eqb-true y d p)) here
          own e h false p lost = h (sym ((fades-device d e).same y p) ∙ lost)

  -- and all of it, where the recursion goes deep enough
  faded : (c e : Board) (y : ℕ) → FewerRealized c e → is_realized c y ≡ false → is_realized e y ≡ false
  faded c e y h lost = go (is_realized e y) refl
    where
      go : (t : Bool) → is_realized e y ≡ t → is_realized e y ≡ false
      go false p = p
      go true p = absurd (let clash : true ≡ false = sym (h.fading y p) ∙ lost in cc)

  pub turns-all : (depth d : ℕ) → IsLow b depth d → (y : ℕ) → Under b d y → (c : Board) → is_realized (turns depth d c) y ≡ false
  turns-all zero d low y u c = absurd low
  turns-all (suc depth) d low y u c = turn (turns-all depth) y u
    where
      inner : Board
      inner = each (on_bus depth) (buses_of b d) c

      turn : ((k : ℕ) → IsLow b depth k → (x : ℕ) → Under b k x → (e : Board) → is_realized (turns depth k e) x ≡ false) → (x : ℕ) → Under b d x
          → is_realized (unrealized_device d (each (on_bus depth) (buses_of b d) c)) x ≡ false
      turn all x here = (fades-device d (each (on_bus depth) (buses_of b d) c)).gone
      turn all x (down m k q r v) =
          faded (each (on_bus depth) (buses_of b d) c) (unrealized_device d (each (on_bus depth) (buses_of b d) c)) x
          (fades-device d (each (on_bus depth) (buses_of b d) c)).dimmed
          (each-makes (λ e. is_realized e x ≡ false) (on_bus depth) (buses_of b d) m q
          (λ e.
          faded (each (turns depth) (kids_of b m) e) (on_bus depth m e) x (dims-bus m (each (turns depth) (kids_of b m) e)).dimmed
          (each-makes (λ z. is_realized z x ≡ false) (turns depth) (kids_of b m) k r (all k (low m k q r) x v)
          (λ n z. faded z (turns depth n z) x (turns-dimmed depth n z)) e))
          (λ n e.
          faded e (on_bus depth n e) x
          (dimmed-then e (each (turns depth) (kids_of b n) e) (on_bus depth n e)
          (each-keeps (FewerRealized e) (turns depth) (kids_of b n) (λ j s z h. dimmed-then e z (turns depth j z) h (turns-dimmed depth j z)) e
          (dimmed-none e))
          (dims-bus n (each (turns depth) (kids_of b n) e)).dimmed))
          c)
