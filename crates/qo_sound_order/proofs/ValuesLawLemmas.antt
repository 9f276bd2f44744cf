-- The law: what keeps the plain values of a board such as are told as they are.
use Rattle.std.proofs.Common.{◌≡◌, refl, ap, subst, rules, ℕ, ◌+◌, ◌<◌, ◌≤◌, ◌^◌, Bool, true, false, not, ◌&&◌, ◌==◌, ◌%◌, List, [], ◌∷◌, codes, Option, Some, None, Result, Ok, Err, arith}
use Rattle.qo_model.proofs.Common.{⊤, AllByRecursion, option_map_or, fits_at, free_address, is_in_window, overlaps_any, range_at, window_end, window_size, window_start, OBJECTS_BIRTH, fresh_registers, Code, E40, E41, TypeId, MemDimm, MemoryBackend, DIMM_ALIGN, Val, Range, Board, Record, Slot, child, record_of, slots_at, add, fresh, pointed, with_added, with_changed, after_write, Change, added, changed, deleted, severed, wrote, Given, added_as, given_slots, with_object, opening_board, fresh_record, Resources, Wanted, number_for, ok_in, plug, range_for, range_of, ranges_of, resources_of, size_of, target_for, type_barred, with_body_of, with_given, with_new, with_path, point, write, edit, TypeInfo, is_a, types, fitted, barred_late, nat_le, BUS_SLOTS, fresh_slots, finalize, let_go, unpin, asked, acted, released, pulse, detach, reset_whole}
use Rattle.std.proofs.lemmas.Bool.{and_parts}
use Rattle.std.proofs.lemmas.Bool.Decides.{nat_tests}
use Rattle.std.proofs.lemmas.Option.{same_Some}
use Rattle.qo_values.proofs.EachLemmas.{each}
use Rattle.qo_values.proofs.ListLemmas.{all-imply}
use Rattle.qo_values.proofs.PlacingLemmas.{least-passes}
use Rattle.qo_values.specs.declared.properties.Val.TheVariants as val
use Rattle.qo_model.specs.Reset.{after_hold}
use Rattle.qo_model.proofs.ComesToLemmas.{addition-comes}
use Rattle.qo_sound.specs.PlugOutcomes.{IsAttempted}
use Rattle.qo_sound.proofs.PlugLemmas.{device-of, place-of}
use Rattle.qo_sound.proofs.RecordLemmas.{all-append}
use Rattle.qo_sound.proofs.SearchLemmas.{all-found}
use Rattle.qo_sound_clocks.specs.RegisterWrites.{registers_set}
use Rattle.qo_sound_devices.proofs.AcceptanceLemmas.{passes}
use Rattle.qo_sound_devices.proofs.GoalLemmas.{slot-low}
use Rattle.qo_sound_devices.proofs.PlugLemmas.{Accepted}
use Rattle.qo_steps.proofs.AdditionLemmas.{plug-comes}
use Rattle.qo_steps.proofs.CommandStepsLemmas.{write-by}
use Rattle.qo_steps.proofs.PlugStepsLemmas.{DraftSteps, PlaceSteps, StartSteps, plug-by}
use Rattle.qo_steps.proofs.ReachLemmas.{reach-any}
use Rattle.qo_sound_shapes.proofs.BoardLemmas.{AllOf, all-edit, all-new, all-same}
use Rattle.qo_sound_order.specs.SoundValues.{AllTold, IsTold, SoundValues, TellsTold}
use Rattle.qo_sound_order.specs.ValuesKept.{ValuesKeptLaw}
use Rattle.qo_sound_order.proofs.ObjectLemmas.{fact-acted, fact-asked, fact-clock_scaled, fact-clock_set, fact-deleted, fact-detach, fact-drop, fact-ends, fact-finalize, fact-held, fact-let_go, fact-pulse, fact-registers, fact-released, fact-reset, fact-set, fact-severed, fact-unpin}
use Rattle.qo_sound_order.proofs.ValueLemmas.{Tells, Told, changed-told, first-told, fitted-told, fresh-told, pointed-told, slot-plain, slot_plain, slots-told, told-keeps}

abbrev Sound : Board → Type 0
Sound = AllOf Told

-- object by object, and back
to-each : (b : Board) → SoundValues b → Sound b
to-each b h n r e =
    subst (AllByRecursion Tells) (ap (λ (o : Option Record). option_map_or (λ (x : Record). x.slots) o []) e) (h n)

from-each : (b : Board) → Sound b → SoundValues b
from-each b h n = go (record_of b n) refl
  where
    go : (o : Option Record) → record_of b n ≡ o → AllByRecursion Tells (slots_at b n)
    go None e = rw e tt
    go (Some r) e = rw e (h n r e)

-- one slot more
added-told : (n : ℕ) (name : List ℕ) (s : Slot) → Tells (name, s) → (c : Board) → Sound c → Sound (add n name s c)
unfolding add
added-told n name s told c h =
    all-edit Told n (with_added name s) (λ r. refl) c (λ r e own k. all-append Tells r.slots ((name, s) ∷ []) k (told, tt)) h

fitted-sound : (n i m : ℕ) (c : Board) → Sound c → Sound (edit n (with_changed (fitted c m) i) c)
fitted-sound n i m c h =
    all-edit Told n (with_changed (fitted c m) i) (λ r. refl) c (λ r e own k. changed-told (fitted c m) (fitted-told c m) i r.slots k) h

-- commands on objects
pointed-sound : (n i m : ℕ) (c : Board) → Sound c → Sound (point n i m c)
unfolding point
pointed-sound n i m c h =
    all-edit Told n (with_changed (pointed m) i) (λ r. refl) c (λ r e own k. changed-told (pointed m) (pointed-told m) i r.slots k) h

wrote-sound : (b : Board) (n : ℕ) (name : List ℕ) (v : Val) → IsTold v → Sound b → Sound (after_write b (write b n name v))
wrote-sound b n name v told h =
    write-by Sound b n name v
    (record {
      value = λ i p is old at type first role fits. fact-set IsTold Told told-keeps n i v b told h;
      drops = λ i p is t s link at. fact-drop IsTold Told told-keeps n i b h;
      points = λ i p is t s left link leaves at path m found dropped. pointed-sound n i m _ dropped;
      ends = fact-ends IsTold Told told-keeps;
    }) h

object-sound : (b : Board) (t : TypeId) (id : List ℕ) (props : List Given) (o : Option Code) → AllTold props → Sound b
    → Sound (added_as b t id props o).board
object-sound b t id props (Some code) told h = h
object-sound b t id props None told h =
    all-new Told new (edit OBJECTS_BIRTH (with_added id (child (b.born + 1))) b) (with_object b t id props) refl
    (slots-told b props told (fresh_slots t) (fresh-told t))
    (all-edit Told OBJECTS_BIRTH (with_added id (child (b.born + 1))) (λ r. refl) b
    (λ r e own k. all-append Tells r.slots ((id, child (b.born + 1)) ∷ []) k (tt, tt)) h)
  where
    new : Record
    new = record { birth = b.born + 1; kind = t; slots = given_slots b t props; registers = fresh_registers t; device_id = None; kept_path = None }

changed-sound : (b : Board) (change : Change) → TellsTold change → Sound b → Sound (changed b change)
changed-sound b (added driver id props) told h =
    addition-comes Sound b driver id props h (λ row e o is. object-sound b row.id id props o told h)
changed-sound b (deleted id) told h = fact-deleted IsTold Told told-keeps b id h
changed-sound b (wrote n name v) told h = wrote-sound b n name v told h
changed-sound b (severed n) told h = fact-severed IsTold Told told-keeps b n h

-- the address of a DIMM lies in the window
same_ok : (g k : Range) → ◌≡◌ {A = Result Range Code} (Ok g) (Ok k) → g ≡ k
same_ok g k e = ap (λ (r : Result Range Code). elim r as (λ _. Range) [ Ok y ↦ y | Err code ↦ g ]) e

range-window : (b : Board) (o : Option ℕ) (size : ℕ) (g : Range) → range_for b o size ≡ Ok g → is_in_window g ≡ true
range-window b (Some at) size g e = go (is_in_window (range_at at size) && not (overlaps_any (range_at at size) (ranges_of b))) refl
  where
    go : (t : Bool) → (is_in_window (range_at at size) && not (overlaps_any (range_at at size) (ranges_of b))) ≡ t → is_in_window g ≡ true
    go true p =
        subst (λ (k : Range). is_in_window k ≡ true) (same_ok (range_at at size) g (rw p at e))
        (and_parts (is_in_window (range_at at size)) (not (overlaps_any (range_at at size) (ranges_of b))) p).0
    go false p = absurd (let clash : Err E40 ≡ Ok g = rw p at e in cc)
range-window b None size g e = go (free_address (ranges_of b) size DIMM_ALIGN) refl
  where
    go : (o : Option ℕ) → free_address (ranges_of b) size DIMM_ALIGN ≡ o → is_in_window g ≡ true
    go None p = absurd (let clash : Err E41 ≡ Ok g = rw (range_for, p) at e in cc)
    go (Some at) p =
        let fits : fits_at (ranges_of b) size DIMM_ALIGN at ≡ true = least-passes (fits_at (ranges_of b) size DIMM_ALIGN) window_start window_size at p in
        let one = and_parts ((at % DIMM_ALIGN == 0) && is_in_window (range_at at size)) (not (overlaps_any (range_at at size) (ranges_of b))) fits in
        let two = and_parts (at % DIMM_ALIGN == 0) (is_in_window (range_at at size)) one.0 in
        subst (λ (k : Range). is_in_window k ≡ true) (same_ok (range_at at size) g (rw (range_for, p) at e)) two.1

window-low : (g : Range) → is_in_window g ≡ true → g.at < 2 ^ 64
window-low g e =
    let parts = and_parts (nat_le window_start g.at) (nat_le (g.at + g.size) window_end) e in
    let low : g.at + g.size ≤ 2 ^ 32 + 2 ^ 36 = grind (arith, nat_tests, parts.1) in
    omega (arith, low)

dimm-low : (b : Board) (props : List Given) (r : Range) → range_of b MemDimm props ≡ Some r → r.at < 2 ^ 64
dimm-low b props r e = go (target_for b MemoryBackend props (codes "memdev")) refl
  where
    by : (m : ℕ) (x : Result Range Code) → range_for b (number_for props (codes "addr")) (size_of b m) ≡ x → ok_in x ≡ Some r → r.at < 2 ^ 64
    by m (Err code) p q = absurd (let clash : None ≡ Some r = q in cc)
    by m (Ok g) p q =
        subst (λ (k : Range). k.at < 2 ^ 64) (same_Some g r q)
        (window-low g (range-window b (number_for props (codes "addr")) (size_of b m) g p))

    go : (o : Option ℕ) → target_for b MemoryBackend props (codes "memdev") ≡ o → r.at < 2 ^ 64
    go None p = absurd (let clash : None ≡ Some r = rw (range_of, p) at e in cc)
    go (Some m) p = by m (range_for b (number_for props (codes "addr")) (size_of b m)) refl (rw (range_of, p) at e)

range-low : (b : Board) (props : List Given) (r : Range) (t : TypeId) → range_of b t props ≡ Some r → r.at < 2 ^ 64
range-low b props r = each (λ (t : TypeId). range_of b t props ≡ Some r → r.at < 2 ^ 64) (search (rules, dimm-low b props r))

-- a device that is added
module _ (b : Board) (a : Wanted) (told : AllTold a.props) (h : Sound b) where
  abbrev n : ℕ
  n = b.born + 1

  drafts : (t : TypeId) → DraftSteps Sound (b.born + 1) t
  drafts t =
      record {
        value = λ p own type first role c k. added-told n _ _ (first-told t p own type first role) c k;
        holds = λ p own target role c k. added-told n _ _ tt c k;
        sees = λ p own target role c k. added-told n _ _ tt c k;
        makes = λ p own kid role c room k.
            added-told n _ (child (c.born + 1)) tt (with_new (fresh_record (c.born + 1) kid) c)
            (all-new Told (fresh_record (c.born + 1) kid) c (with_new (fresh_record (c.born + 1) kid) c) refl (fresh-told kid) k);
        passes = λ p own m property c k. added-told n _ _ tt c k;
      }

  accepted : (row : TypeInfo) (bus : ℕ) → IsAttempted b a row bus → barred_late b row.id bus a.props ≡ None → Accepted b row.id bus a
  accepted row bus tried late =
      let device : is_a row.id (codes "device") ≡ true = device-of row (rw (type_barred, tried.named) at tried.fits) in
      record {
        device = device;
        chosen = tried.chosen;
        early = tried.early;
        late = late;
        place = place-of b row.id bus a device tried.chosen tried.early late;
      }

  places : (t : TypeId) (bus : ℕ) → Accepted b t bus a → PlaceSteps Sound b (b.born + 1) a (resources_of b t bus a.props)
  places t bus good =
      let low : (resources_of b t bus a.props).slot < BUS_SLOTS = slot-low b bus (number_for a.props (codes "slot")) (passes b t bus a good).slot in
      let few : (resources_of b t bus a.props).slot < 2 ^ 64 = omega (arith, low) in
      record {
        contained = λ c k. added-told _ _ _ tt c k;
        hung = λ c k. added-told _ _ _ tt c k;
        given = λ c k. all-edit Told n (with_given b a.props) (λ r. refl) c (λ r e own w. slots-told b a.props told r.slots w) k;
        slotted = λ i c at k. fact-set IsTold Told told-keeps n i _ c few k;
        homed = λ i c at k. fitted-sound n i bus c k;
        lit = λ i c at k. fact-set IsTold Told told-keeps n i (val.Bool true) c tt k;
        addressed = λ r i c e at k. fact-set IsTold Told told-keeps n i (val.Uint r.at) c (range-low b a.props r t e) k;
        bodied = λ c k. all-edit Told n (with_body_of a.id (resources_of b t bus a.props).range) (λ r. refl) c (λ r e own w. w) k;
        sourced = λ m i c e at k. fitted-sound m i _ c k;
        counted = λ c e k. k;
      }

  starts : StartSteps Sound (λ c x. ⊤) (b.born + 1)
  starts =
      record {
        acts = λ act x period c calm on k. fact-acted IsTold Told told-keeps act x period c k;
        keeps_path = λ c k. all-edit Told n (with_path _) (λ r. refl) c (λ r e own w. w) k;
        announces = λ c on room k. k;
      }

  plugged-sound : Sound (plug b a).board
  plugged-sound =
      plug-comes Sound b a
      (record {
        same = h;
        given_up = λ row bus refusal tried bars. h;
        added = λ row bus tried late room free.
            let resources : Resources = resources_of b row.id bus a.props in
            plug-by Sound (λ c x. ⊤) reach-any.steady b row.id a resources
            (record {
              begins = λ few. all-new Told (fresh n row.id) b (with_new (fresh n row.id) b) refl tt h;
              draft = drafts row.id;
              place = places row.id bus (accepted row bus tried late);
            }) starts room free (reach-any.starts b a row bus tt tried late);
      })

-- the opening board
abbrev Fresh : Record → Type 0
Fresh r = AllByRecursion (λ (s : List ℕ × Slot). slot_plain s ≡ true) r.slots

opening-plain : AllByRecursion Fresh opening_board.records
unfolding opening_board types
opening-plain = search rules

opening-sound : Sound opening_board
opening-sound n r e =
    all-imply (λ (s : List ℕ × Slot). slot_plain s ≡ true) Tells slot-plain r.slots (all-found Fresh n opening_board.records opening-plain r e)

pub values_kept_lem : ValuesKeptLaw
values_kept_lem =
    record {
      opening = from-each opening_board opening-sound;
      beside = λ b c e h. from-each c (all-same Told b c e (to-each b h));
      finalized = λ b n free h. from-each (finalize b n) (fact-finalize IsTold Told told-keeps n b free (to-each b h));
      slot_let_go = λ b owner i h. from-each (let_go b owner i) (fact-let_go IsTold Told told-keeps b owner i (to-each b h));
      unpinned = λ b n h. from-each (unpin b n) (fact-unpin IsTold Told told-keeps b n (to-each b h));
      attempt = λ b t h. h;
      given_up = λ b t bus stage h. h;
      cut = λ b t i joined h. h;
      asked_for = λ b id h. from-each (asked b id).board (fact-asked IsTold Told told-keeps b id (to-each b h));
      refused_by = λ b d h. h;
      acts = λ act n period b h. from-each (acted act n period b) (fact-acted IsTold Told told-keeps act n period b (to-each b h));
      held_so = λ b n kind h. from-each (after_hold b n kind) (fact-held IsTold Told told-keeps b n kind (to-each b h));
      released_so = λ b n h. from-each (released b n) (fact-released IsTold Told told-keeps b n (to-each b h));
      pulsed = λ b n kind h. from-each (pulse b n kind) (fact-pulse IsTold Told told-keeps b n kind (to-each b h));
      set = λ b d c period low e h. from-each d (fact-clock_set IsTold Told told-keeps b d c period low e (to-each b h));
      scaled = λ b d c mul div low few e h.
          from-each d (fact-clock_scaled IsTold Told told-keeps b d c mul div low few e (to-each b h));
      registers = λ b n registers h. from-each (registers_set b n registers) (fact-registers IsTold Told told-keeps b n registers (to-each b h));
      change = λ b change told h. from-each (changed b change) (changed-sound b change told (to-each b h));
      plugged = λ b a told h. from-each (plug b a).board (plugged-sound b a told (to-each b h));
      detached = λ b d h. from-each (detach b d) (fact-detach IsTold Told told-keeps b d (to-each b h));
      reset = λ b h. from-each (reset_whole b) (fact-reset IsTold Told told-keeps b (to-each b h));
    }
