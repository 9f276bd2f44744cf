-- Steps that only take away: objects, entries and links.
use Rattle.std.proofs.Common.{◌≡◌, ◌≢◌, refl, ap, sym, subst, ◌∙◌, ℕ, zero, suc, Bool, true, false, ◌==◌, List, [], ◌∷◌, filter_map, remove, slice_get, Option, Some, None, is_some, option_map, option_and_then, codes}
use Rattle.qo_model.proofs.Common.{cons_option, IsDistinct, option_map_or, bytes_eq, MACHINE_BIRTH, Val, Board, Record, Slot, plain, child, strong, weak, alias, record_of, is_live, slots_at, among, bus_of, is_realized, is_true, number_in, bus_slot_of, plain_in, strong_in, is_of, after, edit, edited, finalize, without_hold}
use Rattle.std.proofs.lemmas.Bool.{eqb-true}
use Rattle.std.proofs.lemmas.Option.{same_Some}
use Rattle.std.proofs.lemmas.Slice.Eq.{bytes_eq-Decides}
use Rattle.qo_model.proofs.FirstSlotLemmas.{named_in}
use Rattle.qo_model.proofs.StepLemmas.{found-edited, is_some-map, map-edited}
use Rattle.qo_sound.proofs.FirmBoardLemmas.{WellFormed}
use Rattle.qo_sound.proofs.SlotLemmas.{names_in}
use Rattle.qo_sound_devices.specs.SoundPlaces.{child_entries, child_entry, HasOwner, kid_entries, kid_entry, listed, owns_it, stands}
use Rattle.qo_sound_devices.proofs.LikenessLemmas.{after-alike, Alike, alike-record, bodiless, other-record}
use Rattle.qo_sound_devices.proofs.DropLemmas.{children-fewer, edited-slots, kids-fewer, none-named, plain-dropped}
use Rattle.qo_sound_devices.proofs.RemovalLemmas.{Moved}
use Rattle.qo_sound_devices.proofs.PlacesLemmas.{after-anonymous, more, nothing, same, SameBody, stands-live, Within, within-all, within-same, within-any}

pub within-then : {A : Type 0} {xs ys zs : List A} → Within xs ys → Within ys zs → Within xs zs
within-then (nothing ys) v = nothing _
within-then (same x w) (same y v) = same x (within-then w v)
within-then (same x w) (more y v) = more y (within-then (same x w) v)
within-then (more y w) (same z v) = more y (within-then w v)
within-then (more y w) (more z v) = more z (within-then (more y w) v)

pub record Steps (b c : Board) : Type 0 where
  pub live : (x : ℕ) → is_live c x ≡ true → is_live b x ≡ true
  pub body : (x : ℕ) → is_live c x ≡ true → SameBody b c x
  pub realized : (x : ℕ) → is_live c x ≡ true → is_realized c x ≡ is_realized b x
  pub place : (x : ℕ) → is_live c x ≡ true → bus_slot_of c x ≡ bus_slot_of b x
  pub bus : (x q : ℕ) → bus_of c x ≡ Some q → bus_of b x ≡ Some q
  pub children : (x : ℕ) → Within (child_entries c x) (child_entries b x)
  pub kids : (x : ℕ) → Within (kid_entries c x) (kid_entries b x)
  pub anonymous : c.anonymous ≡ b.anonymous

pub steps-none : (b : Board) → Steps b b
steps-none b =
    record {
      live = λ x e. e;
      body = λ x e. refl;
      realized = λ x e. refl;
      place = λ x e. refl;
      bus = λ x q e. e;
      children = λ x. within-all (child_entries b x);
      kids = λ x. within-all (kid_entries b x);
      anonymous = refl;
    }

pub steps-then : (b c d : Board) → Steps b c → Steps c d → Steps b d
steps-then b c d h k =
    record {
      live = λ x e. h.live x (k.live x e);
      body = λ x e. k.body x e ∙ h.body x (k.live x e);
      realized = λ x e. k.realized x e ∙ h.realized x (k.live x e);
      place = λ x e. k.place x e ∙ h.place x (k.live x e);
      bus = λ x q e. h.bus x q (k.bus x q e);
      children = λ x. within-then (k.children x) (h.children x);
      kids = λ x. within-then (k.kids x) (h.kids x);
      anonymous = k.anonymous ∙ h.anonymous;
    }

-- who is there is alike
pub steps-alike : (b c : Board) → c.anonymous ≡ b.anonymous → ((x : ℕ) → is_live c x ≡ true → Alike b c x) → Steps b c
steps-alike b c anonymous alike =
    record {
      live = λ x e. sym (is_some-map bodiless (record_of b x)) ∙ sym (ap is_some (alike x e).body) ∙ is_some-map bodiless (record_of c x) ∙ e;
      body = λ x e. (alike x e).body;
      realized = λ x e. (alike x e).realized;
      place = λ x e. (alike x e).place;
      bus = λ x q e. read_bus x q (record_of c x) refl e;
      children = λ x. read (λ y. Within (child_entries c y) (child_entries b y)) x (λ e. within-same (alike x e).children)
          (λ e. subst (λ (xs : List (List ℕ × ℕ)). Within xs (child_entries b x))
          (sym (ap (λ (o : Option Record). filter_map child_entry (option_map_or (λ (r : Record). r.slots) o [])) e)) (nothing (child_entries b x)));
      kids = λ x. read (λ y. Within (kid_entries c y) (kid_entries b y)) x (λ e. within-same (alike x e).kids)
          (λ e. subst (λ (xs : List (List ℕ × ℕ)). Within xs (kid_entries b x))
          (sym (ap (λ (o : Option Record). filter_map kid_entry (option_map_or (λ (r : Record). r.slots) o [])) e)) (nothing (kid_entries b x)));
      anonymous = anonymous;
    }
  where
    read : (P : ℕ → Type 0) (x : ℕ) → (is_live c x ≡ true → P x) → (record_of c x ≡ None → P x) → P x
    read P x there gone = go (record_of c x) refl
      where
        go : (o : Option Record) → record_of c x ≡ o → P x
        go None e = gone e
        go (Some r) e = there (ap is_some e)

    read_bus : (x q : ℕ) (o : Option Record) → record_of c x ≡ o → bus_of c x ≡ Some q → bus_of b x ≡ Some q
    read_bus x q None e k = absurd (let clash : None ≡ Some q = rw e at k in cc)
    read_bus x q (Some r) e k = sym (alike x (ap is_some e)).bus ∙ k

pub steps-after : (b : Board) (o : Option ℕ) → Steps b (after finalize b o)
steps-after b o = steps-alike b (after finalize b o) (after-anonymous b o) (after-alike b o)

-- slots with fewer entries
pub record FewerEntries (xs ys : List (List ℕ × Slot)) : Type 0 where
  pub children : Within (filter_map child_entry ys) (filter_map child_entry xs)
  pub kids : Within (filter_map kid_entry ys) (filter_map kid_entry xs)

-- slots, of which some was taken away
pub record SlotSteps (xs ys : List (List ℕ × Slot)) : Type 0 where
  pub fewer : FewerEntries xs ys
  pub plains : (name : List ℕ) → option_and_then plain_in (named_in name ys) ≡ option_and_then plain_in (named_in name xs)
  pub strongs : (name : List ℕ) (q : ℕ) → option_and_then strong_in (named_in name ys) ≡ Some q → option_and_then strong_in (named_in name xs) ≡ Some q

strong-back : (name : List ℕ) (q i : ℕ) (slots : List (List ℕ × Slot)) → IsDistinct bytes_eq (names_in slots)
    → option_and_then strong_in (named_in name (without_hold i slots)) ≡ Some q → option_and_then strong_in (named_in name slots) ≡ Some q
unfolding IsDistinct
strong-back name q i [] h e = e
strong-back name q (suc i) (s ∷ slots) h e = go (bytes_eq s.0 name) refl (strong-back name q i slots h.1)
  where
    go : (t : Bool) → bytes_eq s.0 name ≡ t
        → (option_and_then strong_in (named_in name (without_hold i slots)) ≡ Some q → option_and_then strong_in (named_in name slots) ≡ Some q)
        → option_and_then strong_in (named_in name (s ∷ slots)) ≡ Some q
    go true p rest = rw p (rw p at e)
    go false p rest = rw p (rest (rw p at e))
strong-back name q zero ((own, plain v) ∷ slots) h e = e
strong-back name q zero ((own, child m) ∷ slots) h e = go (bytes_eq own name) refl
  where
    go : (t : Bool) → bytes_eq own name ≡ t → option_and_then strong_in (named_in name ((own, child m) ∷ slots)) ≡ Some q
    go true p =
        absurd
        (let clash : None ≡ Some q = sym (ap (option_and_then strong_in) (none-named name own ((bytes_eq-Decides own name).0 p) slots h.0)) ∙ e in cc)
    go false p = rw p e
strong-back name q zero ((own, strong t target) ∷ slots) h e = go (bytes_eq own name) refl
  where
    go : (u : Bool) → bytes_eq own name ≡ u → option_and_then strong_in (named_in name ((own, strong t target) ∷ slots)) ≡ Some q
    go true p = absurd (let clash : None ≡ Some q = rw p at e in cc)
    go false p = rw p (rw p at e)
strong-back name q zero ((own, weak t target) ∷ slots) h e = go (bytes_eq own name) refl
  where
    go : (u : Bool) → bytes_eq own name ≡ u → option_and_then strong_in (named_in name ((own, weak t target) ∷ slots)) ≡ Some q
    go true p = absurd (let clash : None ≡ Some q = rw p at e in cc)
    go false p = rw p (rw p at e)
strong-back name q zero ((own, alias m property) ∷ slots) h e = e

pub dropped-slots : (i : ℕ) (slots : List (List ℕ × Slot)) → IsDistinct bytes_eq (names_in slots) → SlotSteps slots (without_hold i slots)
dropped-slots i slots h =
    record {
      fewer = record { children = children-fewer i slots; kids = kids-fewer i slots };
      plains = λ name. plain-dropped name i slots h;
      strongs = λ name q. strong-back name q i slots h;
    }

-- a slot that is removed, of which nothing is read
pub removed-same : {A : Type 0} (f : Slot → Option A) (name : List ℕ) (i : ℕ) (slots : List (List ℕ × Slot)) → IsDistinct bytes_eq (names_in slots)
    → (s : List ℕ × Slot) → slice_get slots i ≡ Some s → f s.1 ≡ None
    → option_and_then f (named_in name (remove slots i)) ≡ option_and_then f (named_in name slots)
unfolding IsDistinct
removed-same f name i [] h s e none = cc
removed-same f name zero (x ∷ slots) h s e none = go (bytes_eq x.0 name) refl
  where
    nothing_here : f x.1 ≡ None
    nothing_here = ap (λ (y : List ℕ × Slot). f y.1) (same_Some x s e) ∙ none

    go : (t : Bool) → bytes_eq x.0 name ≡ t → option_and_then f (named_in name slots) ≡ option_and_then f (named_in name (x ∷ slots))
    go true p = rw p (ap (option_and_then f) (none-named name x.0 ((bytes_eq-Decides x.0 name).0 p) slots h.0) ∙ sym nothing_here)
    go false p = rw p refl
removed-same f name (suc i) (x ∷ slots) h s e none = go (bytes_eq x.0 name) refl (removed-same f name i slots h.1 s e none)
  where
    go : (t : Bool) → bytes_eq x.0 name ≡ t → option_and_then f (named_in name (remove slots i)) ≡ option_and_then f (named_in name slots)
        → option_and_then f (named_in name (x ∷ remove slots i)) ≡ option_and_then f (named_in name (x ∷ slots))
    go true p rest = rw p refl
    go false p rest = rw p rest

pub entries-removed : (f : List ℕ × Slot → Option (List ℕ × ℕ)) (i : ℕ) (slots : List (List ℕ × Slot)) (s : List ℕ × Slot)
    → slice_get slots i ≡ Some s → f s ≡ None → filter_map f (remove slots i) ≡ filter_map f slots
entries-removed f i [] s e none = cc
entries-removed f zero (x ∷ slots) s e none = ap (λ (o : Option (List ℕ × ℕ)). cons_option o (filter_map f slots)) (sym (ap f (same_Some x s e) ∙ none))
entries-removed f (suc i) (x ∷ slots) s e none = ap (cons_option (f x)) (entries-removed f i slots s e none)

-- an edit of slots
module _ (b : Board) (n : ℕ) (change : Record → Record) (same_birth : (r : Record) → (change r).birth ≡ r.birth)
    (same_body : (r : Record) → bodiless (change r) ≡ bodiless r) (r : Record) (found : record_of b n ≡ Some r) where
  abbrev c : Board
  c = edit n change b

  pub apart-alike : (x : ℕ) → (x == n) ≡ false → Alike b (edit n change b) x
  apart-alike x apart = alike-record b c x (found-edited n change same_birth x b.records ∙ other-record n x change b refl apart (record_of b x) refl)

  was : slots_at b n ≡ r.slots
  was = ap (λ (o : Option Record). option_map_or (λ (y : Record). y.slots) o []) found

  now : slots_at c n ≡ (change r).slots
  now = edited-slots b n change same_birth r found

  edit-live : (x : ℕ) → is_live c x ≡ is_live b x
  edit-live x = ap is_some (found-edited n change same_birth x b.records) ∙ is_some-map (edited n change) (record_of b x)

  -- what is read of slots
  pub at-slots : {A : Type 0} (f : List (List ℕ × Slot) → A) → f (change r).slots ≡ f r.slots → f (slots_at (edit n change b) n) ≡ f (slots_at b n)
  at-slots f e = ap f now ∙ e ∙ sym (ap f was)

  at_each : (P : ℕ → Type 0) → ((x : ℕ) → Alike b c x → P x) → P n → (x : ℕ) → P x
  at_each P other here x = go (x == n) refl
    where
      go : (t : Bool) → (x == n) ≡ t → P x
      go true p = subst P (sym (eqb-true x n p)) here
      go false p = other x (apart-alike x p)

  bodies : (x : ℕ) → SameBody b c x
  bodies x = ap (option_map bodiless) (found-edited n change same_birth x b.records) ∙ map-edited bodiless n change same_body (record_of b x)

  pub steps-edit : SlotSteps r.slots (change r).slots → Steps b (edit n change b)
  steps-edit h =
      record {
        live = λ x e. sym (edit-live x) ∙ e;
        body = λ x e. bodies x;
        realized = λ x e. at_each (λ y. is_realized c y ≡ is_realized b y) (λ y a. a.realized)
            (at-slots (λ ss. option_map_or is_true (option_and_then plain_in (named_in (codes "realized") ss)) false)
            (ap (λ (o : Option Val). option_map_or is_true o false) (h.plains (codes "realized")))) x;
        place = λ x e. at_each (λ y. bus_slot_of c y ≡ bus_slot_of b y) (λ y a. a.place) (at-slots (λ ss.
            option_and_then number_in (option_and_then plain_in (named_in (codes "slot") ss))) (ap (option_and_then number_in) (h.plains (codes "slot")))) x;
        bus = λ x q. at_each (λ y. bus_of c y ≡ Some q → bus_of b y ≡ Some q) (λ y a e. sym a.bus ∙ e)
            (λ e. ap (λ ss. option_and_then strong_in (named_in (codes "parent_bus") ss)) was
            ∙ h.strongs (codes "parent_bus") q (sym (ap (λ ss. option_and_then strong_in (named_in (codes "parent_bus") ss)) now) ∙ e)) x;
        children =
            at_each (λ y. Within (child_entries c y) (child_entries b y)) (λ y a. within-same a.children)
            (subst (λ (xs : List (List ℕ × ℕ)). Within xs (child_entries b n)) (sym (ap (filter_map child_entry) now))
            (subst (λ (ys : List (List ℕ × ℕ)). Within (filter_map child_entry (change r).slots) ys) (sym (ap (filter_map child_entry) was)) h.fewer.children));
        kids =
            at_each (λ y. Within (kid_entries c y) (kid_entries b y)) (λ y a. within-same a.kids)
            (subst (λ (xs : List (List ℕ × ℕ)). Within xs (kid_entries b n)) (sym (ap (filter_map kid_entry) now))
            (subst (λ (ys : List (List ℕ × ℕ)). Within (filter_map kid_entry (change r).slots) ys) (sym (ap (filter_map kid_entry) was)) h.fewer.kids));
        anonymous = refl;
      }

-- steps are moves, where these are shown too
pub moved-steps : (left : Option ℕ) (b c : Board) → WellFormed c → is_live c 1 ≡ true → Steps b c
    → ((x : ℕ) → among (1 ∷ MACHINE_BIRTH ∷ []) x ≡ true → child_entries c x ≡ child_entries b x)
    → ((x : ℕ) → stands c x ≡ true → left ≢ Some x → bus_of c x ≡ bus_of b x)
    → ((q x : ℕ) → is_of b (codes "bus") q ≡ true → listed x (kid_entries c q) ≡ true → (stands c x ≡ true) × (bus_of c x ≡ bus_of b x))
    → ((q x : ℕ) → is_of b (codes "bus") q ≡ true → left ≢ Some x → listed x (kid_entries b q) ≡ true → listed x (kid_entries c q) ≡ true)
    → ((x q : ℕ) → stands c x ≡ true → bus_of c x ≡ Some q → HasOwner b q → HasOwner c q)
    → Moved left b c
moved-steps left b c firm root s fixed bus_on kid hold owned =
    record {
      firm = firm;
      root = root;
      anonymous = s.anonymous;
      body = s.body;
      fixed = λ x e k. fixed x k;
      shelves = λ x e k. s.children x;
      fading = λ x e k. sym (s.realized x e) ∙ k;
      place = λ x e. s.place x (stands-live c firm x e);
      bus_back = λ x q e on. s.bus x q on;
      bus_on = bus_on;
      kid = kid;
      fewer = λ q e is. s.kids q;
      within = λ x e. s.children x;
      hold = λ q x is e there stays l. hold q x is stays l;
      owned = owned;
      owns_back = λ p q e o. within-any (owns_it q) (s.children p) o;
    }
