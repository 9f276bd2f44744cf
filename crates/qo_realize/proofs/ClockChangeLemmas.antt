-- A command on objects leaves the clocks of those who are still there: their numbers, and what they go by.
use Rattle.std.proofs.Common.{◌≡◌, ◌≢◌, refl, ap, sym, subst, ◌∙◌, ℕ, ◌+◌, ◌≤◌, Bool, true, false, ◌==◌, List, [], ◌∷◌, ◌++◌, map, length, slice_get, Option, Some, None, is_some, option_map, codes, arith, option_and_then}
use Rattle.qo_model.proofs.Common.{option_or, bytes_eq, OBJECTS_BIRTH, Code, TypeId, Val, Board, Record, Slot, plain, child, is_live, record_of, slot_at, slots_at, point, pointed, with_added, with_changed, Change, added, deleted, wrote, severed, after_write, changed, Given, added_as, object_add, object_del, sever, severed_from, with_object, pointed_at, relinked, write, drop_slot, edit, edited, pin, source_of, source_for}
use Rattle.std.proofs.lemmas.Option.{same_Some}
use Rattle.qo_model.specs.Board.{referent}
use Rattle.qo_model.specs.Clocks.{weak_in}
use Rattle.qo_model.specs.Devices.{bus_of, clock_of, is_realized}
use Rattle.qo_model.proofs.ComesToLemmas.{addition-comes, deletion-comes, sever-comes, severed-comes}
use Rattle.qo_model.proofs.FirstSlotLemmas.{named_in, slots_in}
use Rattle.qo_model.proofs.StepLemmas.{found-edited, found_at}
use Rattle.qo_model.proofs.WrittenLemmas.{write-comes}
use Rattle.qo_sound.proofs.AddLemmas.{made}
use Rattle.qo_sound.proofs.SearchLemmas.{found-append}
use Rattle.qo_sound.proofs.TreeKeptLemmas.{sound_kept_lem}
use Rattle.qo_sound.proofs.ReadLemmas.{plain-pointed}
use Rattle.qo_sound_bounds.specs.SoundSources.{IsDeviceClock, SoundSources}
use Rattle.qo_sound_bounds.proofs.ClockLemmas.{frame-clock, frame-source, source-live}
use Rattle.qo_sound_bounds.proofs.SourceLemmas.{changed-sources}
use Rattle.qo_sound_clocks.proofs.CommandLemmas.{kept-change, may-set, set-other}
use Rattle.qo_sound_clocks.proofs.ReadLemmas.{Reads, tree-reads}
use Rattle.qo_sound_clocks.proofs.SlotLemmas.{OtherName, SameValues, Slots, absent, number-same, own_in, plain-changed, plain_of, plain_named}
use Rattle.qo_sound_devices.specs.SoundDevices.{SoundDevices}
use Rattle.qo_sound_devices.specs.SoundPlaces.{HasOwner, IsHome, stands}
use Rattle.qo_sound_devices.proofs.DevicesLawLemmas.{devices_kept_lem}
use Rattle.qo_sound_phases.proofs.CommandLemmas.{frame, keeps}
use Rattle.qo_sound_phases.proofs.FrameLemmas.{Frame}
use Rattle.qo_sound_phases.proofs.ResetTreeLemmas.{Placed, placed}
use Rattle.qo_object.specs.Content.{Content}
use Rattle.qo_heap.specs.Board.{Shows}
use Rattle.qo_heap.specs.Objects.{Objects, content_of}
use Rattle.qo_clocks.specs.Kept.{IsClocked, PeriodsKept}
use Rattle.qo_properties.specs.KeptClaims.{KeptOrNew}
use Rattle.qo_properties.proofs.KeptLemmas.{periods-either, periods-there}
use Rattle.qo_unplug.proofs.PeriodLemmas.{OtherPeriods, SameClocks, periods-stay}
use Rattle.qo_unplug.proofs.ValueLemmas.{KeepsValues, drop-values, edit-values, keeps-none, keeps-then, set-values, values-after, values-all, values-let_go, values-none, values-pin, values-unpin}
use Rattle.qo_realize.proofs.PeriodLemmas.{records-clocks}

-- the values of slots

more-value : (other name : List ℕ) (k : ℕ) (xs : Slots) → plain_of other (xs ++ (name, child k) ∷ []) ≡ plain_of other xs
more-value other name k [] = absent (bytes_eq name other) None
more-value other name k (x ∷ xs) = ap (option_or (plain_named other x)) (more-value other name k xs)

-- the commands

pointed-values : (b : Board) (n i : ℕ) (target : Option ℕ) → KeepsValues b (pointed_at target n i (drop_slot b n i))
unfolding point
pointed-values b n i None = drop-values b n i
pointed-values b n i (Some m) =
    keeps-then b (drop_slot b n i) (edit n (with_changed (pointed m) i) (drop_slot b n i)) (drop-values b n i)
    (edit-values n (with_changed (pointed m) i) (λ r. refl) (drop_slot b n i)
    (λ r e. values-all r.slots _ (λ name. plain-changed (pointed m) (plain-pointed m) name i r.slots)))

relinked-values : (b : Board) (n i : ℕ) (own : List ℕ) (s : Slot) → slice_get (slots_at b n) i ≡ Some (own, s) → (target : Option ℕ)
    → KeepsValues b (relinked b n i target)
relinked-values b n i own s at target =
    let there : slot_at b n i ≡ Some s = ap (option_map (λ (x : List ℕ × Slot). x.1)) at in
    rw (relinked, there) (values-after b (referent s) (pointed_at target n i (drop_slot b n i)) (pointed-values b n i target))

write-values : (b : Board) (n : ℕ) (name : List ℕ) (v : Val) → KeepsValues b (after_write b (write b n name v))
write-values b n name v = write-comes (KeepsValues b) b (keeps-none b) n name v (λ i t p kind e may.
    let other : OtherName name = set-other t name (may-set t name p e may) in
    record {
      value = λ old at type first is fits. set-values b n i v (name, plain old) at other;
      link = λ u s left link leaves at to holds is path target told. relinked-values b n i name s at target;
    })

object_del-values : (b : Board) (id : List ℕ) → KeepsValues b (object_del b id).board
object_del-values b id = deletion-comes (KeepsValues b) b id (keeps-none b) (λ i e. values-let_go b OBJECTS_BIRTH i b (keeps-none b))

severed-values : (b : Board) (places i n : ℕ) (c : Board) → KeepsValues b c → KeepsValues b (severed_from places i n c)
severed-values b places i n c h = severed-comes (KeepsValues b) n (λ d j t target e k. values-let_go b n j d k) places i c h

sever-values : (b : Board) (n : ℕ) → KeepsValues b (sever b n).board
sever-values b n =
    sever-comes (KeepsValues b) b n (keeps-none b) (λ there away.
    values-unpin b n (severed_from (length (slots_at b n)) 0 n (pin b n))
    (severed-values b (length (slots_at b n)) 0 n (pin b n) (values-pin b n b (keeps-none b))))

-- an object may be new
abbrev OldValues : Board → Board → Type 0
OldValues b c = (k : ℕ) → is_live b k ≡ true → is_live c k ≡ true → SameValues (slots_at b k) (slots_at c k)

with_object-values : (b : Board) (t : TypeId) (id : List ℕ) (props : List Given) → OldValues b (with_object b t id props)
with_object-values b t id props k live i =
    rw (found-append k (map (edited OBJECTS_BIRTH change) b.records) (made b t props ∷ []), found-edited OBJECTS_BIRTH change (λ r. refl) k b.records)
    (go (record_of b k) live)
  where
    change : Record → Record
    change = with_added id (child (b.born + 1))

    at_record : (r : Record) (u : Bool) → (r.birth == OBJECTS_BIRTH) ≡ u → SameValues r.slots (edited OBJECTS_BIRTH change r).slots
    at_record r true p = rw (edited, p) (values-all r.slots _ (λ name. more-value name id (b.born + 1) r.slots))
    at_record r false p = rw (edited, p) (values-none r.slots)

    go : (o : Option Record) → is_some o ≡ true
        → SameValues (slots_in o) (slots_in (option_or (option_map (edited OBJECTS_BIRTH change) o) (found_at k (made b t props ∷ []))))
    go None e = cc
    go (Some r) e = at_record r (r.birth == OBJECTS_BIRTH) refl

object_add-values : (b : Board) (driver id : List ℕ) (props : List Given) → OldValues b (object_add b driver id props).board
object_add-values b driver id props = addition-comes (OldValues b) b driver id props (λ k e i. values-none (slots_at b k)) (λ row e o is. of row.id o)
  where
    of : (t : TypeId) (o : Option Code) → OldValues b (added_as b t id props o).board
    of t (Some code) = λ k e i. values-none (slots_at b k)
    of t None = with_object-values b t id props

changed-values : (b : Board) (change : Change) → OldValues b (changed b change)
changed-values b (added driver id props) = object_add-values b driver id props
changed-values b (deleted id) = λ k e i. (object_del-values b id).same k i
changed-values b (wrote n name v) = λ k e i. (write-values b n name v).same k i
changed-values b (severed n) = λ k e i. (sever-values b n).same k i

-- what clocks go by

none-some : (d : ℕ) → ◌≢◌ {A = Option ℕ} None (Some d)
none-some d e = cc

-- on a board whose sources are sound, what a clock goes by is there
pub sources-linked : (c : Board) → Placed c → SoundSources c → (n s : ℕ) → source_of c n ≡ Some s → is_live c s ≡ true
sources-linked c kc h n s goes =
    let i : IsDeviceClock c n = h.only n s goes in
    let home : IsHome c i.device = kc.places.home i.device (kc.places.only i.device i.realized) (none-some i.device) in
    let fed : source_of c n ≡ Some (source_for c home.bus) = h.fed i.device home.bus n i.realized home.on i.its in
    let is : source_for c home.bus ≡ s = same_target (sym fed ∙ goes) in
    subst (λ (m : ℕ). is_live c m ≡ true) is
    (source-live c kc home.bus (kc.places.owner i.device home.bus (kc.places.only i.device i.realized) home.on))
  where
    same_target : {m k : ℕ} → Some m ≡ Some k → m ≡ k
    same_target {m} {k} e = same_Some m k e

module _ (b c : Board) (kb : Placed b) (kc : Placed c) (f : Frame b c) (stood : (x : ℕ) → stands c x ≡ stands b x) (hb : SoundSources b) (hc : SoundSources c)
    (less : (k s : ℕ) → source_of c k ≡ Some s → source_of b k ≡ Some s) where
  pub source-stays : (n : ℕ) → source_of c n ≡ source_of b n
  source-stays n = go (source_of b n) refl
    where
      none : source_of b n ≡ None → (o : Option ℕ) → source_of c n ≡ o → source_of c n ≡ source_of b n
      none e None q = q ∙ sym e
      none e (Some s) q = absurd (let clash : None ≡ Some s = sym e ∙ less n s q in cc)

      go : (o : Option ℕ) → source_of b n ≡ o → source_of c n ≡ source_of b n
      go None e = none e (source_of c n) refl
      go (Some s) e =
          let i : IsDeviceClock b n = hb.only n s e in
          let there : stands b i.device ≡ true = kb.places.only i.device i.realized in
          let still : stands c i.device ≡ true = stood i.device ∙ there in
          let lit : is_realized c i.device ≡ true = kc.places.each i.device still refl in
          let home : IsHome b i.device = kb.places.home i.device there (none-some i.device) in
          let on : bus_of c i.device ≡ Some home.bus = f.bus i.device still ∙ home.on in
          let its : clock_of c i.device ≡ Some n = frame-clock b c kb kc f i.device still ∙ i.its in
          let owner : HasOwner c home.bus = kc.places.owner i.device home.bus still on in
          hc.fed i.device home.bus n lit on its
          ∙ ap Some (frame-source b c kb kc f home.bus owner)
          ∙ sym (hb.fed i.device home.bus n i.realized home.on i.its)

pub changed-clocks : (b : Board) (change : Change) → SoundDevices b → SoundSources b → SameClocks (λ _. false) b (changed b change)
changed-clocks b change d h =
    record {
      linked = λ n s goes gone. absurd (let clash : true ≡ false = sym (sources-linked c kc hc n s goes) ∙ gone in cc);
      apart = λ n s other goes. refl;
      old = λ n other was live. record {
        own = now.own n ∙ number-same (codes "period") 0 (slots_at b n) (slots_at c n) (values n was live).period ∙ sym (on.own n);
        mul = now.mul n ∙ number-same (codes "mul") 1 (slots_at b n) (slots_at c n) (values n was live).mul ∙ sym (on.mul n);
        div = now.div n ∙ number-same (codes "div") 1 (slots_at b n) (slots_at c n) (values n was live).div ∙ sym (on.div n);
        source = source-stays b c kb kc (frame b change d) (λ x. (keeps b change d).stood x) h hc less n;
      };
      new = λ n other gone live. (now.own n ∙ unborn n (blank n gone), none n gone (source_of c n) refl);
    }
  where
    c : Board
    c = changed b change

    kb : Placed b
    kb = placed b d

    kc : Placed (changed b change)
    kc = placed (changed b change) (devices_kept_lem.change b change d)

    hc : SoundSources (changed b change)
    hc = changed-sources b change d h

    on : Reads b
    on = tree-reads b d.tree

    now : Reads (changed b change)
    now = tree-reads (changed b change) (sound_kept_lem.change b change d.tree)

    values : OldValues b (changed b change)
    values = changed-values b change

    less : (k s : ℕ) → source_of (changed b change) k ≡ Some s → source_of b k ≡ Some s
    less =
        kept-change (λ (x : Board). (k s : ℕ) → source_of x k ≡ Some s → source_of b k ≡ Some s)
        (λ x y reads_x reads_y fewer before k s e. before k s (reads_x.source k s ((fewer k).source s (reads_y.seen k s e)))) b change d.tree
        (λ k s e. e)

    -- who is new has no period, and goes by none
    blank : (n : ℕ) → is_live b n ≡ false → slots_at b n ≡ []
    blank n gone = go (record_of b n) gone
      where
        go : (o : Option Record) → is_some o ≡ false → slots_in o ≡ []
        go None e = refl
        go (Some r) e = cc

    unborn : (n : ℕ) → slots_at b n ≡ [] → own_in (slots_at (changed b change) n) ≡ 0
    unborn n e =
        let low : own_in (slots_at (changed b change) n) ≤ 0 =
        kept-change (λ (x : Board). own_in (slots_at x n) ≤ 0)
        (λ x y reads_x reads_y fewer before. let fewer_own = (fewer n).own in omega (arith, before, fewer_own)) b change d.tree
        (subst (λ (xs : Slots). own_in xs ≤ 0) (sym e) (omega arith)) in
        omega (arith, low)

    none : (n : ℕ) → is_live b n ≡ false → (o : Option ℕ) → source_of (changed b change) n ≡ o → source_of (changed b change) n ≡ None
    none n gone None q = q
    none n gone (Some s) q =
        absurd (let clash : true ≡ false = sym (there-live n s (less n s q)) ∙ gone in cc)
      where
        there-live : (m s : ℕ) → source_of b m ≡ Some s → is_live b m ≡ true
        there-live m s e = go (record_of b m) refl
          where
            none_there : record_of b m ≡ None → source_of b m ≡ None
            none_there p = ap (λ (o : Option Record). option_and_then weak_in (named_in (codes "source") (slots_in o))) p

            go : (o : Option Record) → record_of b m ≡ o → is_live b m ≡ true
            go None p = absurd (let clash : None ≡ Some s = sym (none_there p) ∙ e in cc)
            go (Some r) p = ap is_some p

-- what is kept of clocks stays right

other-periods : (v w : Objects) → KeptOrNew v w → OtherPeriods (λ _. false) v w
other-periods v w either n k other e = let y = periods-there (content_of w n) k e in periods-either v n k y.0 y.2 (either n y.0 y.1)

none-fed : (w : Objects) (n : ℕ) (x : Content) → ◌≡◌ {A = Bool} false true → content_of w n ≡ Some x → IsClocked w n x
none-fed w n x e there = cc

pub same-periods : (b c : Board) (v w : Objects) → SameClocks (λ _. false) b c → Shows b v → Shows c w → KeptOrNew v w → PeriodsKept v → PeriodsKept w
same-periods b c v w same s t either kept = periods-stay (λ _. false) b c v w s t same (other-periods v w either) kept (none-fed w)

pub changed-periods : (b : Board) (change : Change) (v w : Objects) → SoundDevices b → SoundSources b → Shows b v → Shows (changed b change) w → KeptOrNew v w
    → PeriodsKept v → PeriodsKept w
changed-periods b change v w d h s t either kept = same-periods b (changed b change) v w (changed-clocks b change d h) s t either kept

pub beside-periods : (b c : Board) (v w : Objects) → SoundDevices b → SoundSources b → c.records ≡ b.records → Shows b v → Shows c w → KeptOrNew v w
    → PeriodsKept v → PeriodsKept w
beside-periods b c v w d h e s t either kept = same-periods b c v w (records-clocks b c e linked) s t either kept
  where
    linked : (n m : ℕ) → source_of c n ≡ Some m → is_live c m ≡ true
    linked n m goes =
        ap (λ (rs : List Record). is_live (record b { records = rs }) m) e
        ∙ sources-linked b (placed b d) h n m (sym (ap (λ (rs : List Record). source_of (record b { records = rs }) n) e) ∙ goes)
