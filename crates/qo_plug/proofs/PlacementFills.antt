-- The own slots of an object, filled from the last on.
use Rattle.std.proofs.Common.{◌≡◌, refl, ap, sym, subst, ◌∙◌, ℕ, zero, suc, ◌≤◌, ◌<◌, Bool, true, false, cond, List, [], ◌∷◌, ◌++◌, map, length, find, take, slice_get, Option, Some, None, IfSome, option_map, append_assoc, append-nil, arith}
use Rattle.std.specs.List.{AllByRecursion, AllZip, list_all}
use Rattle.std.specs.Option.{option_map_or}
use Rattle.std.specs.Str.{bytes_eq}
use Rattle.std.proofs.lemmas.List.{take_all}
use Rattle.std.proofs.lemmas.Option.{IfSome_then}
use Rattle.qo_slots.specs.declared.keys.Key.{Key}
use Rattle.qo_heap.specs.Rows.{IsLive}
use Rattle.qo_model.specs.Board as board
use Rattle.qo_model.specs.Objects.{Given, given_to, slot_given}
use Rattle.qo_object.specs.declared.slots.Slot.{Slot}
use Rattle.qo_object.specs.declared.slots.Slot.TheVariants.{Plain, Child, Link, Alias}
use Rattle.qo_object.specs.Content.{Content}
use Rattle.qo_object.specs.BoardObject.{shown_slot, shown_slots}
use Rattle.qo_object.specs.Slots.{Named, changed_at, is_empty_link, slot_in}
use Rattle.qo_heap.specs.Objects.{IsHeap, Objects, content_of, slots_of, with_edit}
use Rattle.qo_heap.proofs.HeapLemmas.{edit-is, live-edit}
use Rattle.qo_heap.proofs.BoardObjects.{content-edited, live-content}
use Rattle.qo_properties.specs.declared.adding.filling.InitialValue.{InitialValue}
use Rattle.qo_properties.specs.declared.adding.filling.InitialValue.TheVariants as fill
use Rattle.qo_properties.specs.Filling.{Fits, IsGiven, filled_at, filled_with, fits_at, target_in}
use Rattle.qo_heap.proofs.HeapLemmas.{edit-nothing}
use Rattle.qo_heap.proofs.PlacesLemmas.{slice_get-some}
use Rattle.qo_properties.proofs.FillingLemmas.{edit-twice}
use Rattle.qo_plug.specs.OwnSlots.{is_own, own_slots, own_slots_of}
use Rattle.qo_plug.specs.Placement.{is_default, own_filled, with_own}

-- edits that agree on the object that is there
pub edit-on : (v : Objects) → IsHeap v → (n : ℕ) (f g : Content → Content) (c : Content) → content_of v n ≡ Some c → f c ≡ g c
    → with_edit n f v ≡ with_edit n g v
edit-on v good n f g c there same = sym (edit-is v good n f c (f c) there refl) ∙ edit-is v good n g c (f c) there same

-- slots of which the own ones from a place on are filled

abbrev own_from : ℕ → List InitialValue → List Named → List Named
own_from zero fs slots = own_filled fs slots
own_from (suc k) fs [] = []
own_from (suc k) fs (s ∷ slots) = s ∷ own_from k fs slots

abbrev pub with_own_from : ℕ → List InitialValue → Content → Content
with_own_from k fs c = record c { slots = own_from k fs c.slots }

own-none : (slots : List Named) → own_filled [] slots ≡ slots
own-none [] = refl
own-none (s ∷ slots) = refl

from-none : (k : ℕ) (slots : List Named) → own_from k [] slots ≡ slots
from-none zero slots = own-none slots
from-none (suc k) [] = refl
from-none (suc k) (s ∷ slots) = ap (λ (ss : List Named). s ∷ ss) (from-none k slots)

-- where nothing is planned
own-default : (fs : List InitialValue) (slots : List Named) → list_all is_default fs ≡ true → own_filled fs slots ≡ slots
own-default [] slots blank = own-none slots
own-default (f ∷ fs) [] blank = refl
own-default (fill.Value val ∷ fs) (s ∷ slots) blank = cc
own-default (fill.Target key ∷ fs) (s ∷ slots) blank = cc
own-default (fill.Default ∷ fs) (s ∷ slots) blank = by (is_own s.1) (own-default fs slots blank) (own-default (fill.Default ∷ fs) slots blank)
  where
    by : (own : Bool) → own_filled fs slots ≡ slots → own_filled (fill.Default ∷ fs) slots ≡ slots
        → cond own (s ∷ own_filled fs slots) (s ∷ own_filled (fill.Default ∷ fs) slots) ≡ s ∷ slots
    by true here later = ap (λ (ss : List Named). s ∷ ss) here
    by false here later = ap (λ (ss : List Named). s ∷ ss) later

pub settled-blank : (fs : List InitialValue) (o : Key) (v : Objects) → list_all is_default fs ≡ true → v ≡ with_edit o.birth (with_own fs) v
settled-blank fs o v blank =
    sym (edit-nothing o.birth (with_own fs) (λ c. ap (λ (ss : List Named). record c { slots = ss }) (own-default fs c.slots blank)) v)

own-next : (f : InitialValue) (fs : List InitialValue) (k : ℕ) (slots : List Named) (s : Named) → slice_get slots k ≡ Some s → is_own s.1 ≡ true
    → changed_at (filled_with f) k (own_from (suc k) fs slots) ≡ own_from k (f ∷ fs) slots
own-next f fs k [] s at own = cc
own-next f fs zero (t ∷ slots) s at own =
    let same : t ≡ s = cc in
    let here : is_own t.1 ≡ true = ap (λ (x : Named). is_own x.1) same ∙ own in
    rw here refl
own-next f fs (suc k) (t ∷ slots) s at own = ap (λ (ss : List Named). t ∷ ss) (own-next f fs k slots s at own)

skip-here : (fs : List InitialValue) (t : Named) (slots : List Named) → is_own t.1 ≡ false → t ∷ own_filled fs slots ≡ own_filled fs (t ∷ slots)
skip-here [] t slots not_own = ap (λ (ss : List Named). t ∷ ss) (own-none slots)
skip-here (f ∷ fs) t slots not_own = rw not_own refl

own-skip : (fs : List InitialValue) (k : ℕ) (slots : List Named) (s : Named) → slice_get slots k ≡ Some s → is_own s.1 ≡ false
    → own_from (suc k) fs slots ≡ own_from k fs slots
own-skip fs k [] s at not_own = cc
own-skip fs zero (t ∷ slots) s at not_own = let same : t ≡ s = cc in skip-here fs t slots (ap (λ (x : Named). is_own x.1) same ∙ not_own)
own-skip fs (suc k) (t ∷ slots) s at not_own = ap (λ (ss : List Named). t ∷ ss) (own-skip fs k slots s at not_own)

slot-kept : (k : ℕ) (fs : List InitialValue) (slots : List Named) → slice_get (own_from (suc k) fs slots) k ≡ slice_get slots k
slot-kept zero fs [] = refl
slot-kept (suc k) fs [] = refl
slot-kept zero fs (s ∷ slots) = refl
slot-kept (suc k) fs (s ∷ slots) = slot-kept k fs slots

-- the own slots among the first

own-more : (k : ℕ) (slots : List Named) (s : Named) → slice_get slots k ≡ Some s → is_own s.1 ≡ true
    → own_slots (take (suc k) slots) ≡ own_slots (take k slots) ++ s ∷ []
own-more k [] s at own = cc
own-more zero (t ∷ slots) s at own =
    let same : t ≡ s = cc in
    let here : is_own t.1 ≡ true = ap (λ (x : Named). is_own x.1) same ∙ own in
    rw here (ap (λ (x : Named). x ∷ []) same)
own-more (suc k) (t ∷ slots) s at own = by (is_own t.1) (own-more k slots s at own)
  where
    by : (b : Bool) → own_slots (take (suc k) slots) ≡ own_slots (take k slots) ++ s ∷ []
        → cond b (t ∷ own_slots (take (suc k) slots)) (own_slots (take (suc k) slots))
        ≡ cond b (t ∷ own_slots (take k slots)) (own_slots (take k slots)) ++ s ∷ []
    by true rest = ap (λ (ss : List Named). t ∷ ss) rest
    by false rest = rest

own-less : (k : ℕ) (slots : List Named) (s : Named) → slice_get slots k ≡ Some s → is_own s.1 ≡ false
    → own_slots (take (suc k) slots) ≡ own_slots (take k slots)
own-less k [] s at not_own = cc
own-less zero (t ∷ slots) s at not_own =
    let same : t ≡ s = cc in
    let here : is_own t.1 ≡ false = ap (λ (x : Named). is_own x.1) same ∙ not_own in
    rw here refl
own-less (suc k) (t ∷ slots) s at not_own = by (is_own t.1) (own-less k slots s at not_own)
  where
    by : (b : Bool) → own_slots (take (suc k) slots) ≡ own_slots (take k slots)
        → cond b (t ∷ own_slots (take (suc k) slots)) (own_slots (take (suc k) slots)) ≡ cond b (t ∷ own_slots (take k slots)) (own_slots (take k slots))
    by true rest = ap (λ (ss : List Named). t ∷ ss) rest
    by false rest = rest

-- lists that go together: their last members, and that one of them is not empty
module _ {X Y : Type 0} (R : X → Y → Type 0) where
  pub zip-none : (ys : List Y) (y : Y) → AllZip R [] (ys ++ y ∷ []) → ⊥
  zip-none [] y h = h
  zip-none (z ∷ ys) y h = h

  zip-more : (xs : List X) (x : X) → AllZip R (xs ++ x ∷ []) [] → ⊥
  zip-more [] x h = h
  zip-more (z ∷ xs) x h = h

  zip-last : (xs : List X) (x : X) (ys : List Y) (y : Y) → AllZip R (xs ++ x ∷ []) (ys ++ y ∷ []) → AllZip R xs ys × R x y
  zip-last [] x [] y h = (tt, h.0)
  zip-last [] x (z ∷ ys) y h = absurd (zip-none ys y h.1)
  zip-last (z ∷ xs) x [] y h = absurd (zip-more xs x h.1)
  zip-last (z ∷ xs) x (w ∷ ys) y h = let (front, here) = zip-last xs x ys y h.1 in ((h.0, front), here)

abbrev own_at : List Named → ℕ → Bool
own_at slots k = option_map_or (λ (s : Named). is_own s.1) (slice_get slots k) false

-- what fits a slot fits it at its place
fit-slot : (f : InitialValue) (s : Named) (c : Content) (i : ℕ) → Fits f s → slot_in c.slots i ≡ Some s.1 → fits_at f c i ≡ true
fit-slot fill.Default s c i fit is = refl
fit-slot (fill.Value v) s c i fit is = refl
fit-slot (fill.Target key) s c i fit is = ap (λ (o : Option Slot). option_map_or is_empty_link o false) is ∙ fit

-- the own slots from a place on are filled with the last of what is planned
pub record Settled (all : List InitialValue) (o : Key) (at : ℕ) (left : List InitialValue) (v w : Objects) : Type 0 where
  pub done : List InitialValue
  pub split : all ≡ left ++ done
  pub fits : AllZip Fits left (own_slots (take at (slots_of v o.birth)))
  pub is : w ≡ with_edit o.birth (with_own_from at done) v
  pub within : at ≤ length (slots_of v o.birth)

pub settled-none : (all : List InitialValue) (o : Key) (at : ℕ) (v : Objects) → at ≡ length (slots_of v o.birth) → AllZip Fits all (own_slots_of v o.birth)
    → Settled all o at all v v
settled-none all o at v end fits =
    record {
      done = [];
      split = sym (append-nil all);
      fits = subst (λ (ss : List Named). AllZip Fits all (own_slots ss)) (sym (take_all at (slots_of v o.birth) (omega (arith, end)))) fits;
      is = sym (edit-nothing o.birth (with_own_from at []) (λ c. ap (λ (ss : List Named). record c { slots = ss }) (from-none at c.slots)) v);
      within = omega (arith, end);
    }

pub settled-all : (all : List InitialValue) (o : Key) (left : List InitialValue) (v w : Objects) → Settled all o 0 left v w
    → w ≡ with_edit o.birth (with_own all) v
settled-all all o [] v w h = h.is ∙ ap (λ (fs : List InitialValue). with_edit o.birth (with_own fs) v) (sym h.split)
settled-all all o (f ∷ left) v w h = absurd h.fits

pub settled-live : (all : List InitialValue) (o : Key) (at : ℕ) (left : List InitialValue) (v w : Objects) → Settled all o at left v w → (key : Key)
    → IsLive v.rows key
    → IsLive w.rows key
settled-live all o at left v w h key live = subst (λ (x : Objects). IsLive x.rows key) (sym h.is) (live-edit o.birth (with_own_from at h.done) v.rows key live)

module _ (all : List InitialValue) (o : Key) (at : ℕ) (left : List InitialValue) (v w : Objects) (h : Settled all o at left v w) (good : IsHeap v)
    (live : IsLive v.rows o)
    (k : ℕ) (less : at ≡ suc k) where
  abbrev c : Content
  c = (live-content v o live).0

  there : content_of v o.birth ≡ Some c
  there = (live-content v o live).1

  slots : slots_of v o.birth ≡ c.slots
  slots = ap (λ (x : Option Content). option_map_or (λ (d : Content). d.slots) x []) there

  below : k < length c.slots
  below = let most : at ≤ length (slots_of v o.birth) = h.within in
      let same : length (slots_of v o.birth) ≡ length c.slots = ap (λ (l : List Named). length l) slots in omega (arith, most, same, less)

  abbrev s : Named
  s = (slice_get-some c.slots k below).0

  at-s : slice_get c.slots k ≡ Some s
  at-s = (slice_get-some c.slots k below).1

  now : w ≡ with_edit o.birth (with_own_from (suc k) h.done) v
  now = h.is ∙ ap (λ (i : ℕ). with_edit o.birth (with_own_from i h.done) v) less

  content-now : content_of w o.birth ≡ Some (with_own_from (suc k) h.done c)
  content-now = ap (λ (x : Objects). content_of x o.birth) now ∙ content-edited v o.birth (with_own_from (suc k) h.done)
      ∙ ap (option_map (with_own_from (suc k) h.done)) there

  slot-now : slice_get (slots_of w o.birth) k ≡ Some s
  slot-now = ap (λ (x : Option Content). slice_get (option_map_or (λ (d : Content). d.slots) x []) k) content-now ∙ slot-kept k h.done c.slots ∙ at-s

  own-now : (t : Bool) → t ≡ own_at (slots_of w o.birth) k → is_own s.1 ≡ t
  own-now t e = sym (e ∙ ap (λ (x : Option Named). option_map_or (λ (y : Named). is_own y.1) x false) slot-now)

  -- a slot that is not its own
  pub settled-skip : (t : Bool) → t ≡ own_at (slots_of w o.birth) k → t ≡ false → Settled all o k left v w
  settled-skip t e is_not =
      let not_own : is_own s.1 ≡ false = own-now t e ∙ is_not in
      record {
        done = h.done;
        split = h.split;
        fits =
            subst (λ (l : List Named). AllZip Fits left (own_slots (take k l))) (sym slots)
            (subst (AllZip Fits left) (own-less k c.slots s at-s not_own)
            (subst (λ (l : List Named). AllZip Fits left (own_slots (take (suc k) l))) slots
            (subst (λ (i : ℕ). AllZip Fits left (own_slots (take i (slots_of v o.birth)))) less h.fits)));
        is = now ∙ edit-on v good o.birth (with_own_from (suc k) h.done) (with_own_from k h.done) c there
            (ap (λ (ss : List Named). record c { slots = ss }) (own-skip h.done k c.slots s at-s not_own));
        within = let same : length (slots_of v o.birth) ≡ length c.slots = ap (λ (l : List Named). length l) slots in omega (arith, below, same);
      }

  module _ (t : Bool) (e : t ≡ own_at (slots_of w o.birth) k) (is_so : t ≡ true) where
    own : is_own s.1 ≡ true
    own = own-now t e ∙ is_so

    fits-here : AllZip Fits left (own_slots (take k c.slots) ++ s ∷ [])
    fits-here =
        subst (AllZip Fits left) (own-more k c.slots s at-s own)
        (subst (λ (l : List Named). AllZip Fits left (own_slots (take (suc k) l))) slots
        (subst (λ (i : ℕ). AllZip Fits left (own_slots (take i (slots_of v o.birth)))) less h.fits))

    -- something is left for it
    pub settled-some : left ≡ [] → ⊥
    settled-some none =
        zip-none Fits (own_slots (take k c.slots)) s (subst (λ (l : List InitialValue). AllZip Fits l (own_slots (take k c.slots) ++ s ∷ [])) none fits-here)

    module _ (rest : List InitialValue) (f : InitialValue) (pop : left ≡ rest ++ f ∷ []) where
      last : AllZip Fits rest (own_slots (take k c.slots)) × Fits f s
      last = zip-last Fits rest f (own_slots (take k c.slots)) s
          (subst (λ (l : List InitialValue). AllZip Fits l (own_slots (take k c.slots) ++ s ∷ [])) pop fits-here)

      split-here : all ≡ rest ++ f ∷ h.done
      split-here = h.split ∙ ap (λ (l : List InitialValue). l ++ h.done) pop ∙ append_assoc rest (f ∷ []) h.done

      pub settled-target : AllByRecursion (λ (x : InitialValue). IfSome (target_in x) (IsLive v.rows)) all → IfSome (target_in f) (IsLive w.rows)
      settled-target targets =
          IfSome_then (target_in f) {P = IsLive v.rows} {Q = IsLive w.rows}
          (member rest (subst (λ (l : List InitialValue). AllByRecursion (λ (x : InitialValue). IfSome (target_in x) (IsLive v.rows)) l) split-here targets))
          (settled-live all o at left v w h)
        where
          member : (xs : List InitialValue) → AllByRecursion (λ (x : InitialValue). IfSome (target_in x) (IsLive v.rows)) (xs ++ f ∷ h.done)
              → IfSome (target_in f) (IsLive v.rows)
          member [] given = given.0
          member (x ∷ xs) given = member xs given.1

      pub settled-fits : option_map (λ (d : Content). fits_at f d k) (content_of w o.birth) ≡ Some true
      settled-fits =
          ap (option_map (λ (d : Content). fits_at f d k)) content-now
          ∙ ap (λ (b : Bool). Some b)
          (fit-slot f s (with_own_from (suc k) h.done c) k last.1 (ap (option_map (λ (x : Named). x.1)) (slot-kept k h.done c.slots ∙ at-s)))

      pub settled-fill : (u : Objects) → u ≡ with_edit o.birth (filled_at f k) w → Settled all o k rest v u
      settled-fill u change =
          record {
            done = f ∷ h.done;
            split = split-here;
            fits = subst (λ (l : List Named). AllZip Fits rest (own_slots (take k l))) (sym slots) last.0;
            is =
                change
                ∙ ap (with_edit o.birth (filled_at f k)) now
                ∙ twice
                ∙ edit-on v good o.birth (λ (d : Content). filled_at f k (with_own_from (suc k) h.done d)) (with_own_from k (f ∷ h.done)) c there
                (ap (λ (ss : List Named). record c { slots = ss }) (own-next f h.done k c.slots s at-s own));
            within = let same : length (slots_of v o.birth) ≡ length c.slots = ap (λ (l : List Named). length l) slots in omega (arith, below, same);
          }
        where
          twice : with_edit o.birth (filled_at f k) (with_edit o.birth (with_own_from (suc k) h.done) v)
              ≡ with_edit o.birth (λ (d : Content). filled_at f k (with_own_from (suc k) h.done d)) v
          twice =
              edit-twice o.birth (filled_at f k) (with_own_from (suc k) h.done) (λ (d : Content). filled_at f k (with_own_from (suc k) h.done d)) (λ d. refl) v

-- as they are given

not-given : (b : board.Board) (props : List Given) (name : List ℕ) (s : Slot) → is_own s ≡ false → shown_slot s ≡ (slot_given b props (name, shown_slot s)).1
not-given b props name (Plain v) not_own = cc
not-given b props name (Child key) not_own = go (find (λ (p : Given). bytes_eq p.0 name) props)
  where
    go : (o : Option Given)
        → board.child key.birth ≡ elim o as (λ _. board.Slot) [ None ↦ board.child key.birth | Some p ↦ given_to b (board.child key.birth) p.1 ]
    go None = refl
    go (Some p) = refl
not-given b props name (Link ty strong target) not_own = cc
not-given b props name (Alias key of) not_own = go (find (λ (p : Given). bytes_eq p.0 name) props)
  where
    go : (o : Option Given)
        → board.alias key.birth of ≡ elim o as (λ _. board.Slot) [ None ↦ board.alias key.birth of | Some p ↦ given_to b (board.alias key.birth of) p.1 ]
    go None = refl
    go (Some p) = refl

pub own-given : (b : board.Board) (props : List Given) (fs : List InitialValue) (slots : List Named) → AllZip (IsGiven b props) fs (own_slots slots)
    → shown_slots (own_filled fs slots) ≡ map (slot_given b props) (shown_slots slots)
own-given b props fs [] all = refl
own-given b props fs (s ∷ slots) all = go (is_own s.1) refl (λ gs h. own-given b props gs slots h) fs all
  where
    go : (t : Bool) → is_own s.1 ≡ t
        → ((gs : List InitialValue) → AllZip (IsGiven b props) gs (own_slots slots)
        → shown_slots (own_filled gs slots) ≡ map (slot_given b props) (shown_slots slots))
        → (gs : List InitialValue) → AllZip (IsGiven b props) gs (cond t (s ∷ own_slots slots) (own_slots slots))
        → shown_slots (own_filled gs (s ∷ slots)) ≡ map (slot_given b props) (shown_slots (s ∷ slots))
    go true own rest [] h = absurd h
    go true own rest (f ∷ gs) h = let here = h.0 in let more = rest gs h.1 in rw own (λ j. (s.0, here j) ∷ more j)
    go false not_own rest gs h =
        ap shown_slots (sym (skip-here gs s slots not_own))
        ∙ (let here = not-given b props s.0 s.1 not_own in let more = rest gs h in λ j. (s.0, here j) ∷ more j)

-- the first slot was looked at
pub settled-end : (all : List InitialValue) (o : Key) (at : ℕ) (left : List InitialValue) (v w : Objects) → at ≡ 0 → Settled all o at left v w
    → w ≡ with_edit o.birth (with_own all) v
settled-end all o at left v w none h = settled-all all o left v w (subst (λ (k : ℕ). Settled all o k left v w) none h)

pub none-left : (left : List InitialValue) → 0 ≡ length left → left ≡ []
none-left [] e = refl
none-left (f ∷ left) e = absurd (omega (arith, e))
