-- What stands where the guest refuses the removal of a device.
use Rattle.std.proofs.Common.{◌≡◌, refl, ap, sym, subst, ◌∙◌, ℕ, Bool, [], ◌++◌, Option, None, Some, Result, Ok, Err, OnErr, OnOk, option_map, List}
use Rattle.std.specs.Prelude.{◌==◌, ◌||◌, filter, not, option_and_then, option_to_list}
use Rattle.std.proofs.lemmas.Option.{same_Some}
use Rattle.std.proofs.lemmas.List.{append-nil}
use Rattle.qo_events.specs.Queue.{Waiting}
use Rattle.qo_hotplug.specs.Hotplug as hotplug
use Rattle.qo_hotplug.specs.Hotplug.{Asked}
use Rattle.qo_model.specs.Board.{Board, DeviceEvent, Notice, Record, record_of, Ring}
use Rattle.qo_model.specs.Unplug.{without_removal}
use Rattle.qo_model.specs.Hotplug.{refused}
use Rattle.qo_model.specs.Hotplug as model
use Rattle.qo_object.specs.Content.{Content}
use Rattle.qo_object.specs.BoardObject.{shown}
use Rattle.qo_heap.specs.Board.{Shows}
use Rattle.qo_heap.specs.Objects.{Objects, content_of, refused_event, with_event}
use Rattle.qo_heap.proofs.BoardReads.{shows-record}
use Rattle.qo_properties.specs.Claims.{KeepsBook}
use Rattle.qo_reset.specs.HoldList.{HoldList}
use Rattle.qo_realize.specs.Parts.{parts_of}
use Rattle.qo_realize.specs.Removals.{IsAsked}
use Rattle.qo_realize.specs.Representation.{Stands, StandsForGood}
use Rattle.qo_realize.proofs.RemovalLemmas.{is_asked}
use Rattle.qo_realize.proofs.GoodBoardLemmas.{refused-good, good-pinned}
use Rattle.qo_properties.specs.Pins.{OnlyRootPinned}

-- the heap with the event of a device that stays
abbrev told_refused : Objects → ℕ → Content → Objects
told_refused v spare c = record v { events = record (with_event (refused_event c) v.events) { spare = spare } }

event-list : (w : Waiting) (e : Option DeviceEvent) → w.list ++ option_to_list e ≡ (with_event e w).list
event-list w None = append-nil w.list
event-list w (Some e) = refl

refused-shown : (b : Board) (v : Objects) (n spare : ℕ) (c : Content) → Shows b v → content_of v n ≡ Some c → Shows (refused b n) (told_refused v spare c)
refused-shown b v n spare c s there =
    record {
      records = s.records;
      born = s.born;
      pins = s.pins;
      notes = s.notes;
      events = (λ j. s.events j ++ told j) ∙ event-list v.events (refused_event c);
      now = s.now;
    }
  where
    told : option_to_list (option_and_then model.refused_event (record_of b n)) ≡ option_to_list (refused_event c)
    told = ap (λ (o : Option Record). option_to_list (option_and_then model.refused_event o)) (shows-record b v s n ∙ ap (option_map (shown n)) there)

pub refused-shows : (b : Board) (v w : Objects) (n spare : ℕ) → Shows b v → option_map (told_refused v spare) (content_of v n) ≡ Some w → Shows (refused b n) w
refused-shows b v w n spare s is = go (content_of v n) refl
  where
    go : (o : Option Content) → content_of v n ≡ o → Shows (refused b n) w
    go None none = absurd (let clash : None ≡ Some w = sym (ap (option_map (told_refused v spare)) none) ∙ is in cc)
    go (Some c) there =
        let same : Some (told_refused v spare c) ≡ Some w = sym (ap (option_map (told_refused v spare)) there) ∙ is in
        subst (Shows (refused b n)) (same_Some (told_refused v spare c) w same) (refused-shown b v n spare c s there)

-- no row changes
pub refused-rows : (v w : Objects) (n spare : ℕ) → option_map (told_refused v spare) (content_of v n) ≡ Some w → w.rows ≡ v.rows
refused-rows v w n spare is = go (content_of v n) is
  where
    go : (o : Option Content) → option_map (told_refused v spare) o ≡ Some w → w.rows ≡ v.rows
    go None e = absurd (let clash : None ≡ Some w = e in cc)
    go (Some c) e = ap (λ (x : Objects). x.rows) (sym (same_Some (told_refused v spare c) w e))

pub refused-asked : (b : Board) (n : ℕ) (h : Asked) → IsAsked b h → IsAsked (refused b n) (hotplug.refused n h)
refused-asked b n h a = record { pending = ap (without_removal n) a.pending; notices = ap (filter (λ (x : Notice). x.plug || not (x.birth == n))) a.notices }

-- the board's part
pub refused-stands : (b : Board) (rings : List Ring) (anonymous : ℕ) (running : Bool) (holds : HoldList) (old new : Asked) (v w : Objects) (n : ℕ)
    → Stands b (parts_of rings anonymous running holds old v) → Shows (refused b n) w → IsAsked (refused b n) new → KeepsBook v w
    → Stands (refused b n) (parts_of rings anonymous running holds new w)
refused-stands b rings anonymous running holds old new v w n s shows asked keeps =
    record {
      shows = shows;
      anonymous = s.anonymous;
      running = s.running;
      holds = s.holds;
      pending = asked.pending;
      notices = asked.notices;
      rings = s.rings;
      book = keeps [] s.book;
    }

-- what the call answers, and what it leaves
abbrev pub IfRefused : {E : Type 0} → Result Unit E → Objects → Objects → Asked → Asked → ℕ → Type 0
IfRefused r v w old new n = OnOk r ((b : Board) → Shows b v → IsAsked b old → Shows (refused b n) w × IsAsked (refused b n) new)

pub refuse-returns : {E : Type 0} (b : Board) (rings : List Ring) (anonymous : ℕ) (running : Bool) (holds : HoldList) (old new : Asked)
    (v w : Objects) (n : ℕ) (r : Result Unit E)
    → Stands b (parts_of rings anonymous running holds old v) → IfRefused r v w old new n → KeepsBook v w
    → OnOk r (Stands (refused b n) (parts_of rings anonymous running holds new w))
refuse-returns b rings anonymous running holds old new v w n (Err e) s told keeps = tt
refuse-returns b rings anonymous running holds old new v w n (Ok u) s told keeps =
    let both = told b s.shows (is_asked b rings anonymous running holds old v s) in
    refused-stands b rings anonymous running holds old new v w n s both.0 both.1 keeps

pub refuse-invariant : {E : Type 0} (rings : List Ring) (anonymous : ℕ) (running : Bool) (holds : HoldList) (old new : Asked) (v w : Objects)
    (n : ℕ) (r : Result Unit E)
    → OnlyRootPinned v × StandsForGood (parts_of rings anonymous running holds old v) → IfRefused r v w old new n → KeepsBook v w
    → OnErr r ((w ≡ v) × (new ≡ old))
    → OnlyRootPinned w × StandsForGood (parts_of rings anonymous running holds new w)
refuse-invariant rings anonymous running holds old new v w n (Err e) h told keeps (heap, asked) =
    subst (λ (x : Objects). OnlyRootPinned x × StandsForGood (parts_of rings anonymous running holds new x)) (sym heap)
    (subst (λ (x : Asked). OnlyRootPinned v × StandsForGood (parts_of rings anonymous running holds x v)) (sym asked) h)
refuse-invariant rings anonymous running holds old new v w n (Ok u) h told keeps same =
    let (b, s, sound) = h.1 in
    let stands : Stands (refused b n) (parts_of rings anonymous running holds new w) =
    refuse-returns b rings anonymous running holds old new v w n (the (Result Unit Unit) (Ok tt)) s told keeps in
    good-pinned (refused b n) (parts_of rings anonymous running holds new w) stands (refused-good b n sound)
  where
    the : (T : Type 0) → T → T
    the T x = x
