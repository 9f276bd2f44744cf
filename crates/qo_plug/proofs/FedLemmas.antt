-- A clock that is connected: what is kept of it is right, and of all else it is as before.
use Rattle.std.specs.Prelude.{unwrap_or}
use Rattle.std.proofs.Common.{◌≡◌, ◌⊎◌, ◌-◌, ◌^◌, ap₂, min, refl, ap, sym, subst, ◌∙◌, ℕ, eqb, true, false, codes, Bool, IfNone, IfSome, List, find, Option, Some, None, is_some, option_and_then, option_map}
use Rattle.std.specs.Str.{bytes_eq}
use Rattle.std.proofs.lemmas.Bool.{eqb-true}
use Rattle.std.proofs.lemmas.Option.{same_Some}
use Rattle.qo_kinds.specs.Bodies.{kept_of}
use Rattle.qo_slots.specs.declared.keys.Key.{Key}
use Rattle.qo_model.specs.Board as board
use Rattle.qo_model.specs.Clocks.{scaled_by, weak_in}
use Rattle.qo_model.specs.Devices.{child_named, clock_of, number_in, plain_in}
use Rattle.qo_model.specs.Board.{Board, Record, is_live, kind_of, record_of, slots_at}
use Rattle.qo_object.specs.declared.slots.Slot.{Slot}
use Rattle.qo_object.specs.BoardObject.{birth_of}
use Rattle.qo_object.specs.Content.{Content}
use Rattle.qo_object.specs.Slots.{Named}
use Rattle.qo_heap.specs.Acts.{KeepsCounts, KeepsPeriods, clocked_in, counted_in, periods_of}
use Rattle.qo_heap.specs.Board.{Shows}
use Rattle.qo_heap.specs.Book.{IsBook}
use Rattle.qo_heap.specs.Objects.{IsHeap, Objects, content_of}
use Rattle.qo_heap.specs.Rows.{IsLive}
use Rattle.qo_heap.proofs.BoardObjects.{live-content}
use Rattle.qo_heap.proofs.BookLemmas.{book-edit}
use Rattle.qo_life.proofs.TreeLemmas.{read-content}
use Rattle.qo_clocks.specs.Kept.{IsClocked, child_kept, kept_afresh, kept_turn, with_periods}
use Rattle.qo_clocks.specs.Links.{changed_named}
use Rattle.qo_clocks.specs.Periods.{scaled_on}
use Rattle.qo_clocks.specs.Reads.{child_in, clock_on, own_on, source_on}
use Rattle.qo_clocks.proofs.ClockSlots.{named-elsewhere, named-other, named-periods}
use Rattle.qo_clocks.proofs.ReadLemmas.{shows-clock, shows-div, shows-mul, shows-own, shows-source, source-live}
use Rattle.qo_clocks.proofs.KeptLemmas.{ReadsAlike, child-alike, periods-elsewhere, periods-here, periods-slots, scaled-alike, slots-alike, turn-alike, turn_by}
use Rattle.qo_properties.specs.KeptClaims.{KeptOrNew, kept_by}
use Rattle.qo_properties.specs.KeptPeriods.{PeriodsBefore}
use Rattle.qo_properties.proofs.ActsKept.{changed-kept}
use Rattle.qo_properties.proofs.KeptLemmas.{claims-same, periods-either, periods-there}
use Rattle.qo_plug.specs.declared.placing.Plugging.TheVariants.{Attached, NoticesFull}
use Rattle.qo_plug.specs.declared.placing.Plugging.{Plugging}
use Rattle.qo_plug.specs.KeptPeriods.{ClockFed, FedAs, FedOrNew, FedSoFar, FedStays, IsFed, PeriodsOrNew}
use Rattle.qo_plug.specs.Placement.{Connected, Stays}
use Rattle.qo_plug.proofs.PlacementSteps.{alike-edit, alike-same, alike-then, stays-named}

module _ (v w : Objects) (n : ℕ) (change : Slot → Slot) (now : w ≡ kept_afresh n (changed_named n (codes "source") change v)) where
  -- the heap with its source, where the periods of before are kept yet
  abbrev u : Objects
  u = changed_named n (codes "source") change v

  abbrev period : ℕ
  period = kept_turn (changed_named n (codes "source") change v) n

  abbrev child : ℕ
  child = scaled_on (changed_named n (codes "source") change v) n (kept_turn (changed_named n (codes "source") change v) n)

  abbrev afresh : Objects
  afresh = kept_afresh n (changed_named n (codes "source") change v)

  others : (m : ℕ) → eqb m n ≡ false → clocked_in afresh m ≡ clocked_in v m
  others m apart = periods-elsewhere n period child u m apart ∙ named-periods n (codes "source") change v m

  reads : ReadsAlike u afresh n
  reads = slots-alike u afresh n (periods-slots n period child u n)

  its : IsFed afresh n
  its source c at apart there =
      let both : periods_of c ≡ (period, child) = by (content_of u n) (sym (ap (option_map periods_of) there) ∙ periods-here n period child u) in
      let own : c.side.period ≡ period = ap (λ (x : ℕ × ℕ). x.0) both in
      let below : c.side.child ≡ child = ap (λ (x : ℕ × ℕ). x.1) both in
      record {
        period = own ∙ sym (turn-alike u afresh n reads sources);
        child = below ∙ ap (scaled_on u n) (sym own) ∙ sym (scaled-alike u afresh n reads c.side.period);
      }
    where
      by : (o : Option Content) → Some (periods_of c) ≡ option_map (λ (x : Content). (period, child)) o → periods_of c ≡ (period, child)
      by None e = cc
      by (Some x) e = same_Some (periods_of c) (period, child) e

      sources : (s : Key) → source_on u n ≡ Some s → child_kept afresh s.birth ≡ child_kept u s.birth
      sources s e =
          let same : s ≡ source = same_Some s source (sym e ∙ sym reads.source ∙ at) in
          child-alike u afresh s.birth (periods-elsewhere n period child u s.birth (ap (λ (k : Key). eqb k.birth n) same ∙ apart))

  pub fed-clock : ClockFed n v w
  fed-clock = subst (ClockFed n v) (sym now) (record { others = others; its = its })

  -- the clock of a device is the same
  clock-slot : (m : ℕ) (u : Bool) → eqb m n ≡ u → clock_on (changed_named n (codes "source") change v) m ≡ clock_on v m
  clock-slot m true p =
      subst (λ (k : ℕ). clock_on (changed_named n (codes "source") change v) k ≡ clock_on v k) (sym (eqb-true m n p))
      (ap (option_and_then child_in) (named-other n (codes "source") change v (codes "clk") refl))
  clock-slot m false p =
      ap (λ (slots : List Named). option_and_then child_in (option_map (λ (s : Named). s.1) (find (λ (s : Named). bytes_eq (codes "clk") s.0) slots)))
      (named-elsewhere n (codes "source") change v m p)

  clock-afresh : (m : ℕ) → clock_on afresh m ≡ clock_on v m
  clock-afresh m =
      ap (λ (slots : List Named). option_and_then child_in (option_map (λ (s : Named). s.1) (find (λ (s : Named). bytes_eq (codes "clk") s.0) slots)))
      (periods-slots n period child u m)
      ∙ clock-slot m (eqb m n) refl

  pub clock-stays : (b c : Board) → Shows b v → Shows c w → (m : ℕ) → clock_of c m ≡ clock_of b m
  clock-stays b c s t m =
      shows-clock c w t m ∙ ap (λ (x : Objects). birth_of (clock_on x m)) now ∙ ap birth_of (clock-afresh m) ∙ sym (shows-clock b v s m)

  pub connected-clock : KeepsCounts v w → Connected v w
  connected-clock counts =
      let stays : Stays v u = stays-named v u n (codes "source") change refl in
      record {
        alike = alike-then v u w stays.alike (alike-edit u w n (with_periods period child) (λ c. refl) (λ c. refl) (ap (λ (x : Objects). x.rows) now));
        claims = λ m. ap (λ (x : Objects). kept_by x m) now
            ∙ read-content (λ (c : Content). kept_of c.body) n (with_periods period child) (λ c. refl) u m
            ∙ claims-same v u (changed-kept n (codes "source") change v) m;
        counts = counts;
        spare = ap (λ (x : Objects). x.events.spare) now ∙ stays.spare;
        book = λ out h. subst (λ (x : Objects). IsBook out x) (sym now) (book-edit out u n (with_periods period child) (λ c. refl) (stays.book out h));
      }

pub connected-same : (v w : Objects) → w ≡ v → Connected v w
connected-same v w same =
    record {
      alike = alike-same v w same;
      claims = λ m. ap (λ (x : Objects). kept_by x m) same;
      counts = λ m. ap (λ (x : Objects). counted_in x m) same;
      spare = ap (λ (x : Objects). x.events.spare) same;
      book = λ out h. subst (λ (x : Objects). IsBook out x) (sym same) h;
    }

-- what came before kept all periods
pub fed-from : (v u w : Objects) (n : ℕ) → KeepsPeriods v u → ClockFed n u w → ClockFed n v w
fed-from v u w n same fed = record { others = λ m apart. fed.others m apart ∙ same m; its = fed.its }

-- a source that is there was found
pub found-source : (P : Type 0) (b : Board) (m : ℕ) (found : Option Key) → IfNone found (kind_of b m ≡ None) → is_live b m ≡ true → IfSome found (λ _. P) → P
found-source P b m None none live is = absurd (gone (record_of b m) none live)
  where
    gone : (o : Option Record) → option_map (λ (r : Record). r.kind) o ≡ None → is_some o ≡ true → ⊥
    gone None e t = let clash : false ≡ true = t in cc
    gone (Some r) e t = let clash : Some r.kind ≡ None = e in cc
found-source P b m (Some key) none live is = is

-- a heap whose board has the same slots, and keeps the same periods

module _ (b c : Board) (v w : Objects) (s : Shows b v) (t : Shows c w) (same : (i : ℕ) → slots_at c i ≡ slots_at b i) (before : PeriodsBefore v w)
    (good : IsHeap w) where
  pub clock-alike : (m : ℕ) → clock_of c m ≡ clock_of b m
  clock-alike m =
      ap (λ (slots : List (List ℕ × board.Slot)). option_and_then child_named
      (option_map (λ (x : List ℕ × board.Slot). x.1) (find (λ (x : List ℕ × board.Slot). bytes_eq x.0 (codes "clk")) slots)))
      (same m)

  module _ (n : ℕ) where
    own : own_on w n ≡ own_on v n
    own =
        sym (shows-own c w t n)
        ∙ ap (λ (slots : List (List ℕ × board.Slot)). unwrap_or (option_and_then number_in (option_and_then plain_in
        (option_map (λ (x : List ℕ × board.Slot). x.1) (find (λ (x : List ℕ × board.Slot). bytes_eq x.0 (codes "period")) slots)))) 0) (same n)
        ∙ shows-own b v s n

    scaled : (p : ℕ) → scaled_on w n p ≡ scaled_on v n p
    scaled p =
        ap₂ (λ (mul div : ℕ). min (scaled_by mul div p) (2 ^ 64 - 1))
        (sym (shows-mul c w t n)
        ∙ ap (λ (slots : List (List ℕ × board.Slot)). unwrap_or (option_and_then number_in (option_and_then plain_in
        (option_map (λ (x : List ℕ × board.Slot). x.1) (find (λ (x : List ℕ × board.Slot). bytes_eq x.0 (codes "mul")) slots)))) 1) (same n)
        ∙ shows-mul b v s n)
        (sym (shows-div c w t n)
        ∙ ap (λ (slots : List (List ℕ × board.Slot)). unwrap_or (option_and_then number_in (option_and_then plain_in
        (option_map (λ (x : List ℕ × board.Slot). x.1) (find (λ (x : List ℕ × board.Slot). bytes_eq x.0 (codes "div")) slots)))) 1) (same n)
        ∙ shows-div b v s n)

    births : birth_of (source_on w n) ≡ birth_of (source_on v n)
    births =
        sym (shows-source c w t n)
        ∙ ap (λ (slots : List (List ℕ × board.Slot)). option_and_then weak_in
        (option_map (λ (x : List ℕ × board.Slot). x.1) (find (λ (x : List ℕ × board.Slot). bytes_eq x.0 (codes "source")) slots))) (same n)
        ∙ shows-source b v s n

  child-before : (m : ℕ) (d : Content) → content_of w m ≡ Some d → child_kept w m ≡ child_kept v m
  child-before m d at =
      let now : clocked_in w m ≡ Some (periods_of d) = ap (option_map periods_of) at in
      child-alike v w m (now ∙ sym (before m (periods_of d) now))

  pub fed-boards : (n : ℕ) → IsFed v n → IsFed w n
  fed-boards n fed source x at apart there = go (content_of v n) refl (before n (periods_of x) (ap (option_map periods_of) there))
    where
      its_source : (o : Option Key) → source_on v n ≡ o → birth_of o ≡ Some source.birth → (k : Key) × (source_on v n ≡ Some k) × (k.birth ≡ source.birth)
      its_source None p e = absurd (let clash : None ≡ Some source.birth = e in cc)
      its_source (Some k) p e = (k, p, same_Some k.birth source.birth e)

      found : (k : Key) × (source_on v n ≡ Some k) × (k.birth ≡ source.birth)
      found = its_source (source_on v n) refl (sym (births n) ∙ ap birth_of at)

      live : IsLive w.rows source
      live = subst (λ (o : Option Key). IfSome o (IsLive w.rows)) at (source-live w good n)

      turn_w : kept_turn w n ≡ child_kept w source.birth
      turn_w = ap (turn_by w n) at

      turn_v : kept_turn v n ≡ child_kept v source.birth
      turn_v = ap (turn_by v n) found.1 ∙ ap (child_kept v) found.2

      below : child_kept w source.birth ≡ child_kept v source.birth
      below = let there_is = live-content w source live in child-before source.birth there_is.0 there_is.1

      go : (o : Option Content) → content_of v n ≡ o → option_map periods_of o ≡ Some (periods_of x) → IsClocked w n x
      go None p e = absurd (let clash : None ≡ Some (periods_of x) = e in cc)
      go (Some d) p e =
          let both : periods_of d ≡ periods_of x = same_Some (periods_of d) (periods_of x) e in
          let k : IsClocked v n d = fed found.0 d found.1 (ap (λ (m : ℕ). eqb m n) found.2 ∙ apart) p in
          record {
            period = sym (ap (λ (y : ℕ × ℕ). y.0) both) ∙ k.period ∙ turn_v ∙ sym below ∙ sym turn_w;
            child = sym (ap (λ (y : ℕ × ℕ). y.1) both) ∙ k.child ∙ ap (scaled_on v n) (ap (λ (y : ℕ × ℕ). y.0) both) ∙ sym (scaled n x.side.period);
          }

-- a device was begun, and placed

from-new : (u v : Objects) → KeptOrNew u v → PeriodsOrNew u v
from-new u v new m k e = let y = periods-there (content_of v m) k e in periods-either u m k y.0 y.2 (new m y.0 y.1)

pub fed-so-far : (one : ℕ) (p : Plugging) (u v w : Objects) → KeptOrNew u v → FedAs one p v w → FedSoFar one p u w
fed-so-far one (Attached path) u v w new fed = λ x shown. record { others = others_are x shown; its = λ n at. ((fed x shown).0 n at).its }
  where
    others_are : (x : Board) → Shows x w → (m : ℕ) (k : ℕ × ℕ) → (clock_of x one ≡ Some m → ⊥) → clocked_in w m ≡ Some k
        → (clocked_in u m ≡ Some k) ⊎ ((clocked_in u m ≡ None) × (k ≡ (0, 0)))
    others_are x shown m k apart e = from-new u v new m k (by (clock_of x one) refl)
      where
        by : (o : Option ℕ) → clock_of x one ≡ o → clocked_in v m ≡ Some k
        by None p = sym ((fed x shown).1 p m) ∙ e
        by (Some n) p = sym (((fed x shown).0 n p).others m (other (eqb m n) refl)) ∙ e
          where
            other : (t : Bool) → eqb m n ≡ t → t ≡ false
            other false q = refl
            other true q = absurd (apart (p ∙ ap Some (sym (eqb-true m n q))))
fed-so-far one (NoticesFull out) u v w new fed = λ m k e. from-new u v new m k (fed m k e)

-- and plugged
pub fed-then : (b c : Board) (one : ℕ) (u x w : Objects) → Shows b x → FedOrNew b one u x → PeriodsBefore x w → FedStays c one x w → FedOrNew c one u w
fed-then b c one u x w shown fed before stays =
    record {
      others = λ m k apart e. fed.others m k (λ at. apart (stays.clock b shown ∙ at)) (before m k e);
      its = λ n at. stays.its n (fed.its n (sym (stays.clock b shown) ∙ at));
    }
