-- Places after an edit of one object, and after a slot of it that is let go.
use Rattle.std.proofs.Common.{◌⊎◌, inl, inr, ◌≡◌, refl, ap, sym, subst, ◌∙◌, ℕ, zero, suc, Bool, true, false, ◌==◌, List, [], ◌∷◌, filter_map, slice_get, Option, Some, None, is_some, option_map, option_and_then, codes}
use Rattle.qo_model.proofs.Common.{AllByRecursion, cons_option, IsDistinct, option_map_or, bytes_eq, Val, Board, Record, Slot, plain, child, strong, weak, alias, record_of, is_live, slots_at, bus_of, is_realized, is_true, number_in, bus_slot_of, plain_in, strong_in, child_of, is_of, drop_slot, edit, edited, with_dropped, without_hold}
use Rattle.std.proofs.lemmas.Bool.{eqb-true, eq-eqb}
use Rattle.std.proofs.lemmas.Option.{same_Some}
use Rattle.std.proofs.lemmas.Slice.Eq.{bytes_eq-Decides}
use Rattle.qo_model.proofs.FirstSlotLemmas.{named_in}
use Rattle.qo_model.proofs.StepLemmas.{found-edited, is_some-map, found-birth, map-edited}
use Rattle.qo_sound.proofs.SearchLemmas.{all-found}
use Rattle.qo_sound.proofs.SlotLemmas.{names_in}
use Rattle.qo_sound.proofs.FirmBoardLemmas.{WellFormed, firm-drop, HasNames}
use Rattle.qo_sound_devices.specs.SoundPlaces.{child_entries, child_entry, HasOwner, kid_entries, kid_entry, stands}
use Rattle.qo_sound_devices.proofs.LikenessLemmas.{bodiless, Alike, alike-record, other-record}
use Rattle.qo_sound_devices.proofs.PlacesLemmas.{Kept, keeper, more, nothing, same, Within, within-all, within-same}

-- what is shown of the object that is edited
pub record KeptAt (b c : Board) (n : ℕ) : Type 0 where
  pub realized : is_realized c n ≡ is_realized b n
  pub bus : stands b n ≡ true → bus_of c n ≡ bus_of b n
  pub place : stands b n ≡ true → bus_slot_of c n ≡ bus_slot_of b n
  pub children : keeper b n ≡ true → child_entries c n ≡ child_entries b n
  pub kids : is_of b (codes "bus") n ≡ true → HasOwner b n → kid_entries c n ≡ kid_entries b n
  pub fewer : is_of b (codes "bus") n ≡ true → Within (kid_entries c n) (kid_entries b n)
  pub within : Within (child_entries c n) (child_entries b n)

module _ (n : ℕ) (change : Record → Record) (same_birth : (r : Record) → (change r).birth ≡ r.birth)
    (same_body : (r : Record) → bodiless (change r) ≡ bodiless r) (b : Board) where
  edit-body : (x : ℕ) → option_map bodiless (record_of (edit n change b) x) ≡ option_map bodiless (record_of b x)
  edit-body x = ap (option_map bodiless) (found-edited n change same_birth x b.records) ∙ map-edited bodiless n change same_body (record_of b x)

  edit-live : (x : ℕ) → is_live (edit n change b) x ≡ is_live b x
  edit-live x = ap is_some (found-edited n change same_birth x b.records) ∙ is_some-map (edited n change) (record_of b x)

  edit-alike : (x : ℕ) → (x == n) ≡ false → Alike b (edit n change b) x
  edit-alike x apart =
      alike-record b (edit n change b) x (found-edited n change same_birth x b.records ∙ other-record n x change b refl apart (record_of b x) refl)

  pub kept-edit : WellFormed (edit n change b) → is_live b 1 ≡ true → KeptAt b (edit n change b) n → Kept b (edit n change b)
  kept-edit firm root h =
      record {
        firm = firm;
        root = edit-live 1 ∙ root;
        anonymous = refl;
        body = λ x there. edit-body x;
        realized = λ x there. at_each x (λ m. is_realized (edit n change b) m ≡ is_realized b m) (λ a. a.realized) h.realized;
        bus = λ x there. at_each x (λ m. stands b m ≡ true → bus_of (edit n change b) m ≡ bus_of b m) (λ a e. a.bus) h.bus;
        place = λ x there. at_each x (λ m. stands b m ≡ true → bus_slot_of (edit n change b) m ≡ bus_slot_of b m) (λ a e. a.place) h.place;
        children = λ x there. at_each x (λ m. keeper b m ≡ true → child_entries (edit n change b) m ≡ child_entries b m) (λ a e. a.children) h.children;
        kids = λ x there.
            at_each x (λ m. is_of b (codes "bus") m ≡ true → HasOwner b m → kid_entries (edit n change b) m ≡ kid_entries b m) (λ a e o. a.kids) h.kids;
        fewer = λ x there.
            at_each x (λ m. is_of b (codes "bus") m ≡ true → Within (kid_entries (edit n change b) m) (kid_entries b m)) (λ a e. within-same a.kids) h.fewer;
        within = λ x there. at_each x (λ m. Within (child_entries (edit n change b) m) (child_entries b m)) (λ a. within-same a.children) h.within;
      }
    where
      at_each : (x : ℕ) (P : ℕ → Type 0) → (Alike b (edit n change b) x → P x) → P n → P x
      at_each x P other here = go (x == n) refl
        where
          go : (t : Bool) → (x == n) ≡ t → P x
          go true p = subst P (sym (eqb-true x n p)) here
          go false p = other (edit-alike x p)

-- slots of which one was let go

pub none-named : (name own : List ℕ) → own ≡ name → (slots : List (List ℕ × Slot)) → AllByRecursion (λ m. bytes_eq own m ≡ false) (names_in slots)
    → named_in name slots ≡ None
none-named name own is [] h = refl
none-named name own is (s ∷ slots) h = go (bytes_eq s.0 name) refl (none-named name own is slots h.1)
  where
    go : (t : Bool) → bytes_eq s.0 name ≡ t → named_in name slots ≡ None → named_in name (s ∷ slots) ≡ None
    go true p rest =
        let same_name : own ≡ s.0 = is ∙ sym ((bytes_eq-Decides s.0 name).0 p) in
        let here : bytes_eq own s.0 ≡ true = (bytes_eq-Decides own s.0).1 same_name in
        absurd (let clash : true ≡ false = sym here ∙ h.0 in cc)
    go false p rest = rw p rest

-- no plain value is lost
pub plain-dropped : (name : List ℕ) (i : ℕ) (slots : List (List ℕ × Slot)) → IsDistinct bytes_eq (names_in slots)
    → option_and_then plain_in (named_in name (without_hold i slots)) ≡ option_and_then plain_in (named_in name slots)
unfolding IsDistinct
plain-dropped name i [] h = refl
plain-dropped name (suc i) (s ∷ slots) h = go (bytes_eq s.0 name) refl (plain-dropped name i slots h.1)
  where
    go : (t : Bool) → bytes_eq s.0 name ≡ t
        → option_and_then plain_in (named_in name (without_hold i slots)) ≡ option_and_then plain_in (named_in name slots)
        → option_and_then plain_in (named_in name (s ∷ without_hold i slots)) ≡ option_and_then plain_in (named_in name (s ∷ slots))
    go true p rest = rw p refl
    go false p rest = rw p rest
plain-dropped name zero ((own, plain v) ∷ slots) h = refl
plain-dropped name zero ((own, child m) ∷ slots) h = go (bytes_eq own name) refl
  where
    go : (t : Bool) → bytes_eq own name ≡ t → option_and_then plain_in (named_in name slots) ≡ option_and_then plain_in (named_in name ((own, child m) ∷ slots))
    go true p = rw p (ap (option_and_then plain_in) (none-named name own ((bytes_eq-Decides own name).0 p) slots h.0))
    go false p = rw p refl
plain-dropped name zero ((own, strong t target) ∷ slots) h = go (bytes_eq own name) refl
  where
    go : (u : Bool) → bytes_eq own name ≡ u
        → option_and_then plain_in (named_in name ((own, strong t None) ∷ slots)) ≡ option_and_then plain_in (named_in name ((own, strong t target) ∷ slots))
    go true p = rw p refl
    go false p = rw p refl
plain-dropped name zero ((own, weak t target) ∷ slots) h = go (bytes_eq own name) refl
  where
    go : (u : Bool) → bytes_eq own name ≡ u
        → option_and_then plain_in (named_in name ((own, weak t None) ∷ slots)) ≡ option_and_then plain_in (named_in name ((own, weak t target) ∷ slots))
    go true p = rw p refl
    go false p = rw p refl
plain-dropped name zero ((own, alias m property) ∷ slots) h = refl

-- no link of another name, and no link at all where a child was let go
pub strong-dropped : (name : List ℕ) (i : ℕ) (slots : List (List ℕ × Slot)) → IsDistinct bytes_eq (names_in slots) → (s : List ℕ × Slot)
    → slice_get slots i ≡ Some s → (is_some (child_of s.1) ≡ true) ⊎ (bytes_eq s.0 name ≡ false)
    → option_and_then strong_in (named_in name (without_hold i slots)) ≡ option_and_then strong_in (named_in name slots)
unfolding IsDistinct
strong-dropped name i [] h s e other = refl
strong-dropped name (suc i) (x ∷ slots) h s e other = go (bytes_eq x.0 name) refl (strong-dropped name i slots h.1 s e other)
  where
    go : (t : Bool) → bytes_eq x.0 name ≡ t
        → option_and_then strong_in (named_in name (without_hold i slots)) ≡ option_and_then strong_in (named_in name slots)
        → option_and_then strong_in (named_in name (x ∷ without_hold i slots)) ≡ option_and_then strong_in (named_in name (x ∷ slots))
    go true p rest = rw p refl
    go false p rest = rw p rest
strong-dropped name zero (x ∷ slots) h s e other =
    subst
    (λ (y : List ℕ × Slot).
    IsDistinct bytes_eq (names_in (y ∷ slots)) → option_and_then strong_in (named_in name (without_hold zero (y ∷ slots))) ≡ option_and_then strong_in
    (named_in name (y ∷ slots)))
    (sym (same_Some x s e)) (here s other) h
  where
    skip : (own : List ℕ) (u v : Slot) → bytes_eq own name ≡ false
        → option_and_then strong_in (named_in name ((own, u) ∷ slots)) ≡ option_and_then strong_in (named_in name ((own, v) ∷ slots))
    skip own u v p = rw p refl

    gone : (own : List ℕ) (m : ℕ) → IsDistinct bytes_eq (names_in ((own, child m) ∷ slots)) → (t : Bool) → bytes_eq own name ≡ t
        → option_and_then strong_in (named_in name slots) ≡ option_and_then strong_in (named_in name ((own, child m) ∷ slots))
    gone own m k true p = rw p (ap (option_and_then strong_in) (none-named name own ((bytes_eq-Decides own name).0 p) slots k.0))
    gone own m k false p = rw p refl

    here : (y : List ℕ × Slot) → (is_some (child_of y.1) ≡ true) ⊎ (bytes_eq y.0 name ≡ false) → IsDistinct bytes_eq (names_in (y ∷ slots))
        → option_and_then strong_in (named_in name (without_hold zero (y ∷ slots))) ≡ option_and_then strong_in (named_in name (y ∷ slots))
    here (own, plain v) o k = refl
    here (own, child m) o k = gone own m k (bytes_eq own name) refl
    here (own, strong t target) (inr p) k = skip own (strong t None) (strong t target) p
    here (own, strong t target) (inl p) k = absurd (let clash : false ≡ true = p in cc)
    here (own, weak t target) (inr p) k = skip own (weak t None) (weak t target) p
    here (own, weak t target) (inl p) k = absurd (let clash : false ≡ true = p in cc)
    here (own, alias m property) o k = refl

-- entries
pub children-kept : (i : ℕ) (slots : List (List ℕ × Slot)) (s : List ℕ × Slot) → slice_get slots i ≡ Some s → child_of s.1 ≡ None
    → filter_map child_entry (without_hold i slots) ≡ filter_map child_entry slots
children-kept i [] s e none = refl
children-kept (suc i) (x ∷ slots) s e none = ap (cons_option (child_entry x)) (children-kept i slots s e none)
children-kept zero ((name, plain v) ∷ slots) s e none = refl
children-kept zero ((name, child m) ∷ slots) s e none =
    absurd (let clash : Some m ≡ None = ap (λ (x : List ℕ × Slot). child_of x.1) (same_Some (name, child m) s e) ∙ none in cc)
children-kept zero ((name, strong t target) ∷ slots) s e none = refl
children-kept zero ((name, weak t target) ∷ slots) s e none = refl
children-kept zero ((name, alias m property) ∷ slots) s e none = refl

pub kids-kept : (i : ℕ) (slots : List (List ℕ × Slot)) (s : List ℕ × Slot) → slice_get slots i ≡ Some s → kid_entry s ≡ None
    → filter_map kid_entry (without_hold i slots) ≡ filter_map kid_entry slots
kids-kept i [] s e none = refl
kids-kept (suc i) (x ∷ slots) s e none = ap (cons_option (kid_entry x)) (kids-kept i slots s e none)
kids-kept zero ((name, plain v) ∷ slots) s e none = refl
kids-kept zero ((name, child m) ∷ slots) s e none = refl
kids-kept zero ((name, strong t None) ∷ slots) s e none = refl
kids-kept zero ((name, strong t (Some m)) ∷ slots) s e none =
    absurd (let clash : Some (name, m) ≡ None = ap kid_entry (same_Some (name, strong t (Some m)) s e) ∙ none in cc)
kids-kept zero ((name, weak t target) ∷ slots) s e none = refl
kids-kept zero ((name, alias m property) ∷ slots) s e none = refl

pub within-cons : (o : Option (List ℕ × ℕ)) {xs ys : List (List ℕ × ℕ)} → Within xs ys → Within (cons_option o xs) (cons_option o ys)
within-cons None w = w
within-cons (Some x) w = same x w

pub kids-fewer : (i : ℕ) (slots : List (List ℕ × Slot)) → Within (filter_map kid_entry (without_hold i slots)) (filter_map kid_entry slots)
kids-fewer i [] = nothing []
kids-fewer (suc i) (x ∷ slots) = within-cons (kid_entry x) (kids-fewer i slots)
kids-fewer zero ((name, plain v) ∷ slots) = within-all (filter_map kid_entry slots)
kids-fewer zero ((name, child m) ∷ slots) = within-all (filter_map kid_entry slots)
kids-fewer zero ((name, strong t None) ∷ slots) = within-all (filter_map kid_entry slots)
kids-fewer zero ((name, strong t (Some m)) ∷ slots) = more (name, m) (within-all (filter_map kid_entry slots))
kids-fewer zero ((name, weak t target) ∷ slots) = within-all (filter_map kid_entry slots)
kids-fewer zero ((name, alias m property) ∷ slots) = within-all (filter_map kid_entry slots)

-- the slots of the object that is edited
pub edited-slots : (b : Board) (n : ℕ) (change : Record → Record) → ((r : Record) → (change r).birth ≡ r.birth) → (r : Record)
    → record_of b n ≡ Some r → slots_at (edit n change b) n ≡ (change r).slots
edited-slots b n change same_birth r e =
    let own : (r.birth == n) ≡ true = eq-eqb r.birth n (found-birth n b.records r e) in
    ap (λ (o : Option Record). option_map_or (λ (x : Record). x.slots) o [])
    (found-edited n change same_birth n b.records ∙ ap (option_map (edited n change)) e)
    ∙ rw (edited, own) refl

slots-are : (b : Board) (n : ℕ) (r : Record) → record_of b n ≡ Some r → slots_at b n ≡ r.slots
slots-are b n r e = ap (λ (o : Option Record). option_map_or (λ (x : Record). x.slots) o []) e

pub names-at : (b : Board) → WellFormed b → (n : ℕ) (r : Record) → record_of b n ≡ Some r → IsDistinct bytes_eq (names_in r.slots)
names-at b h n r e = all-found HasNames n b.records h.named r e

pub children-fewer : (i : ℕ) (slots : List (List ℕ × Slot)) → Within (filter_map child_entry (without_hold i slots)) (filter_map child_entry slots)
children-fewer i [] = nothing []
children-fewer (suc i) (x ∷ slots) = within-cons (child_entry x) (children-fewer i slots)
children-fewer zero ((name, plain v) ∷ slots) = within-all (filter_map child_entry slots)
children-fewer zero ((name, child m) ∷ slots) = more (name, m) (within-all (filter_map child_entry slots))
children-fewer zero ((name, strong t target) ∷ slots) = within-all (filter_map child_entry slots)
children-fewer zero ((name, weak t target) ∷ slots) = within-all (filter_map child_entry slots)
children-fewer zero ((name, alias m property) ∷ slots) = within-all (filter_map child_entry slots)

-- a slot let go, with what it needs: that places do not speak of it
pub kept-drop : (b : Board) → WellFormed b → is_live b 1 ≡ true → (n i : ℕ) (s : List ℕ × Slot) (r : Record) → record_of b n ≡ Some r
    → slice_get r.slots i ≡ Some s
    → (stands b n ≡ true → (is_some (child_of s.1) ≡ true) ⊎ (bytes_eq s.0 (codes "parent_bus") ≡ false))
    → (keeper b n ≡ true → child_of s.1 ≡ None)
    → (is_of b (codes "bus") n ≡ true → HasOwner b n → kid_entry s ≡ None)
    → Kept b (drop_slot b n i)
unfolding drop_slot
kept-drop b firm root n i s r e at link kind_of_slot none = kept-edit n (with_dropped i) (λ x. refl) (λ x. refl) b (firm-drop b n i firm) root here
  where
    now : slots_at (edit n (with_dropped i) b) n ≡ without_hold i r.slots
    now = edited-slots b n (with_dropped i) (λ x. refl) r e

    was : slots_at b n ≡ r.slots
    was = slots-are b n r e

    names : IsDistinct bytes_eq (names_in r.slots)
    names = names-at b firm n r e

    same_plain : (name : List ℕ)
        → option_and_then plain_in (named_in name (slots_at (edit n (with_dropped i) b) n)) ≡ option_and_then plain_in (named_in name (slots_at b n))
    same_plain name =
        ap (λ (x : List (List ℕ × Slot)). option_and_then plain_in (named_in name x)) now
        ∙ plain-dropped name i r.slots names
        ∙ sym (ap (λ (x : List (List ℕ × Slot)). option_and_then plain_in (named_in name x)) was)

    here : KeptAt b (edit n (with_dropped i) b) n
    here =
        record {
          realized = ap (λ (o : Option Val). option_map_or is_true o false) (same_plain (codes "realized"));
          bus = λ k. ap (λ (x : List (List ℕ × Slot)). option_and_then strong_in (named_in (codes "parent_bus") x)) now ∙ strong-dropped (codes "parent_bus") i
              r.slots names s at (link k) ∙ sym (ap (λ (x : List (List ℕ × Slot)). option_and_then strong_in (named_in (codes "parent_bus") x)) was);
          place = λ k. ap (option_and_then number_in) (same_plain (codes "slot"));
          children = λ k. ap (filter_map child_entry) now ∙ children-kept i r.slots s at (kind_of_slot k) ∙ sym (ap (filter_map child_entry) was);
          kids = λ k o. ap (filter_map kid_entry) now ∙ kids-kept i r.slots s at (none k o) ∙ sym (ap (filter_map kid_entry) was);
          fewer = λ k. subst (λ (xs : List (List ℕ × ℕ)). Within xs (kid_entries b n)) (sym (ap (filter_map kid_entry) now)) (subst (λ (ys : List (List ℕ × ℕ)).
              Within (filter_map kid_entry (without_hold i r.slots)) ys) (sym (ap (filter_map kid_entry) was)) (kids-fewer i r.slots));
          within =
              subst (λ (xs : List (List ℕ × ℕ)). Within xs (child_entries b n)) (sym (ap (filter_map child_entry) now))
              (subst (λ (ys : List (List ℕ × ℕ)). Within (filter_map child_entry (without_hold i r.slots)) ys) (sym (ap (filter_map child_entry) was))
              (children-fewer i r.slots));
        }
