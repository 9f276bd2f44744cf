-- The clock of an object, by the entries of its children; the source for a bus, by who owns the bus; and sources where what stands is as on another board.
use Rattle.std.proofs.Common.{◌≡◌, refl, ap, sym, subst, ◌∙◌, ℕ, Bool, true, false, ◌==◌, List, [], ◌∷◌, filter_map, find, Option, Some, None, option_map, option_and_then, unwrap_or, codes}
use Rattle.qo_model.proofs.Common.{if◌then◌else◌, AllByRecursion, IsDistinct, list_any, option_map_or, bytes_eq, MACHINE_BIRTH, MEMORY_BUS_BIRTH, ROOT_BUS_BIRTH, SYSTEM_CLOCK_BIRTH, Clock, Board, Record, Slot, plain, child, strong, weak, alias, is_live, kind_of, record_of, source_of, among, bridge_of, bus_of, child_named, clock_of, is_realized, is_of, source_for}
use Rattle.std.proofs.lemmas.Bool.{eq-eqb}
use Rattle.std.proofs.lemmas.Option.{same_Some}
use Rattle.std.proofs.lemmas.Slice.Eq.{bytes_eq-Decides}
use Rattle.std.proofs.Math.Bool.{or-true}
use Rattle.qo_model.proofs.FirstSlotLemmas.{named_in}
use Rattle.qo_sound.proofs.FirmBoardLemmas.{WellFormed}
use Rattle.qo_sound.proofs.SlotLemmas.{names_in}
use Rattle.qo_sound.proofs.TestLemmas.{clash}
use Rattle.qo_sound_devices.specs.SoundPlaces.{child_entries, child_entry, HasOwner, machines, bridges, listed, owns, owns_it, stands}
use Rattle.qo_sound_devices.proofs.AttachmentLemmas.{owns-listed, parent-is}
use Rattle.qo_sound_devices.proofs.DropLemmas.{names-at}
use Rattle.qo_sound_devices.proofs.PlacesLemmas.{child-live}
use Rattle.qo_sound_devices.proofs.PlugLemmas.{stands-device}
use Rattle.qo_sound_phases.proofs.ResetTreeLemmas.{Placed}
use Rattle.qo_sound_phases.proofs.FrameLemmas.{Frame}
use Rattle.qo_sound_phases.proofs.ReachLemmas.{machines-listed}
use Rattle.qo_sound_devices.proofs.LocationLemmas.{machine-no_device}
use Rattle.qo_sound_bounds.specs.SoundSources.{IsDeviceClock, SoundSources}

-- the first entry of a name
abbrev entry_named : List ℕ → List (List ℕ × ℕ) → Option ℕ
entry_named name es = option_map (λ (e : List ℕ × ℕ). e.1) (find (λ (e : List ℕ × ℕ). bytes_eq e.0 name) es)

no-entry : (own name : List ℕ) → own ≡ name → (xs : List (List ℕ × Slot)) → AllByRecursion (λ m. bytes_eq own m ≡ false) (names_in xs)
    → entry_named name (filter_map child_entry xs) ≡ None
no-entry own name is [] h = refl
no-entry own name is ((other, plain v) ∷ xs) h = no-entry own name is xs h.1
no-entry own name is ((other, strong t target) ∷ xs) h = no-entry own name is xs h.1
no-entry own name is ((other, weak t target) ∷ xs) h = no-entry own name is xs h.1
no-entry own name is ((other, alias m property) ∷ xs) h = no-entry own name is xs h.1
no-entry own name is ((other, child m) ∷ xs) h = go (bytes_eq other name) refl (no-entry own name is xs h.1)
  where
    go : (t : Bool) → bytes_eq other name ≡ t → entry_named name (filter_map child_entry xs) ≡ None
        → entry_named name (filter_map child_entry ((other, child m) ∷ xs)) ≡ None
    go true p rest = clash (sym ((bytes_eq-Decides own other).1 (is ∙ sym ((bytes_eq-Decides other name).0 p))) ∙ h.0)
    go false p rest = rw p rest

named-child : (name : List ℕ) (xs : List (List ℕ × Slot)) → IsDistinct bytes_eq (names_in xs)
    → option_and_then child_named (named_in name xs) ≡ entry_named name (filter_map child_entry xs)
unfolding IsDistinct
named-child name [] h = refl
named-child name (x ∷ xs) h = go (bytes_eq x.0 name) refl (named-child name xs h.1)
  where
    own : (y : List ℕ × Slot) → bytes_eq y.0 name ≡ true → AllByRecursion (λ m. bytes_eq y.0 m ≡ false) (names_in xs)
        → child_named y.1 ≡ entry_named name (filter_map child_entry (y ∷ xs))
    own (other, plain v) p k = sym (no-entry other name ((bytes_eq-Decides other name).0 p) xs k)
    own (other, strong t target) p k = sym (no-entry other name ((bytes_eq-Decides other name).0 p) xs k)
    own (other, weak t target) p k = sym (no-entry other name ((bytes_eq-Decides other name).0 p) xs k)
    own (other, alias m property) p k = sym (no-entry other name ((bytes_eq-Decides other name).0 p) xs k)
    own (other, child m) p k = rw p refl

    skip : (y : List ℕ × Slot) → bytes_eq y.0 name ≡ false
        → entry_named name (filter_map child_entry xs) ≡ entry_named name (filter_map child_entry (y ∷ xs))
    skip (other, plain v) p = refl
    skip (other, strong t target) p = refl
    skip (other, weak t target) p = refl
    skip (other, alias m property) p = refl
    skip (other, child m) p = rw p refl

    go : (t : Bool) → bytes_eq x.0 name ≡ t → option_and_then child_named (named_in name xs) ≡ entry_named name (filter_map child_entry xs)
        → option_and_then child_named (named_in name (x ∷ xs)) ≡ entry_named name (filter_map child_entry (x ∷ xs))
    go true p rest = rw p (own x p h.0)
    go false p rest = rw p (rest ∙ skip x p)

clock-by : (b : Board) → WellFormed b → (n : ℕ) → clock_of b n ≡ entry_named (codes "clk") (child_entries b n)
clock-by b firm n = go (record_of b n) refl
  where
    go : (o : Option Record) → record_of b n ≡ o → clock_of b n ≡ entry_named (codes "clk") (child_entries b n)
    go None e =
        ap (λ (o : Option Record). option_and_then child_named (named_in (codes "clk") (option_map_or (λ (r : Record). r.slots) o []))) e
        ∙ sym (ap (λ (o : Option Record). entry_named (codes "clk") (filter_map child_entry (option_map_or (λ (r : Record). r.slots) o []))) e)
    go (Some r) e =
        ap (λ (o : Option Record). option_and_then child_named (named_in (codes "clk") (option_map_or (λ (r : Record). r.slots) o []))) e
        ∙ named-child (codes "clk") r.slots (names-at b firm n r e)
        ∙ sym (ap (λ (o : Option Record). entry_named (codes "clk") (filter_map child_entry (option_map_or (λ (r : Record). r.slots) o []))) e)

-- the same children, the same clock
pub clock-same : (b c : Board) → WellFormed b → WellFormed c → (x : ℕ) → child_entries c x ≡ child_entries b x → clock_of c x ≡ clock_of b x
clock-same b c firm also x same = clock-by c also x ∙ ap (entry_named (codes "clk")) same ∙ sym (clock-by b firm x)

entry-listed : (name : List ℕ) (m : ℕ) (es : List (List ℕ × ℕ)) → entry_named name es ≡ Some m → listed m es ≡ true
entry-listed name m [] e = cc
entry-listed name m (x ∷ es) e = go (bytes_eq x.0 name) refl (entry-listed name m es)
  where
    go : (t : Bool) → bytes_eq x.0 name ≡ t → (entry_named name es ≡ Some m → listed m es ≡ true) → listed m (x ∷ es) ≡ true
    go true p rest =
        let is : x.1 ≡ m = same_Some x.1 m (rw p at e) in
        let own : (x.1 == m) ≡ true = eq-eqb x.1 m is in
        rw own refl
    go false p rest = rw (rest (rw p at e)) (or-true (x.1 == m))

-- it is a child
pub clock-listed : (b : Board) → WellFormed b → (d k : ℕ) → clock_of b d ≡ Some k → listed k (child_entries b d) ≡ true
clock-listed b firm d k e = entry-listed (codes "clk") k (child_entries b d) (sym (clock-by b firm d) ∙ e)

pub clock-live : (b : Board) → WellFormed b → (d k : ℕ) → clock_of b d ≡ Some k → is_live b k ≡ true
clock-live b firm d k e = child-live b firm d k (clock-listed b firm d k e)

-- the source for a bus

module _ (b : Board) (k : Placed b) where
  pub system-live : is_live b SYSTEM_CLOCK_BIRTH ≡ true
  system-live = child-live b k.firm MACHINE_BIRTH SYSTEM_CLOCK_BIRTH k.places.parts.1.1.1.1.0

  pub source-machines : (q : ℕ) → among (ROOT_BUS_BIRTH ∷ MEMORY_BUS_BIRTH ∷ []) q ≡ true → source_for b q ≡ SYSTEM_CLOCK_BIRTH
  source-machines q u =
      let bridge : bridge_of b q ≡ None =
      ap (option_and_then (λ p. if is_of b (codes "device") p then Some p else None)) (parent-is b k.firm MACHINE_BIRTH q (machines-listed b k q u))
      ∙ ap (λ (t : Bool). if t then Some MACHINE_BIRTH else None) (machine-no_device k.depth None (λ x. false) b k.places) in
      ap (λ (o : Option ℕ). unwrap_or (option_and_then (clock_of b) o) SYSTEM_CLOCK_BIRTH) bridge

  pub source-bridge : (p q : ℕ) → stands b p ≡ true → owns b p q ≡ true → source_for b q ≡ unwrap_or (clock_of b p) SYSTEM_CLOCK_BIRTH
  source-bridge p q s o =
      let bridge : bridge_of b q ≡ Some p =
      ap (option_and_then (λ x. if is_of b (codes "device") x then Some x else None)) (parent-is b k.firm p q (owns-listed q (child_entries b p) o))
      ∙ ap (λ (t : Bool). if t then Some p else None) (stands-device k.depth None (λ x. false) b k.places p s) in
      ap (λ (o : Option ℕ). unwrap_or (option_and_then (clock_of b) o) SYSTEM_CLOCK_BIRTH) bridge

  pub source-live : (q : ℕ) → HasOwner b q → is_live b (source_for b q) ≡ true
  source-live q (machines u) = subst (λ (x : ℕ). is_live b x ≡ true) (sym (source-machines q u)) system-live
  source-live q (bridges p s o) = subst (λ (x : ℕ). is_live b x ≡ true) (sym (source-bridge p q s o)) (go (clock_of b p) refl)
    where
      go : (c : Option ℕ) → clock_of b p ≡ c → is_live b (unwrap_or c SYSTEM_CLOCK_BIRTH) ≡ true
      go None e = system-live
      go (Some m) e = clock-live b k.firm p m e

-- where what stands is as on another board
module _ (b c : Board) (kb : Placed b) (kc : Placed c) (f : Frame b c) where
  pub frame-clock : (x : ℕ) → stands c x ≡ true → clock_of c x ≡ clock_of b x
  frame-clock x s = clock-same b c kb.firm kc.firm x (f.children x s)

  pub frame-source : (q : ℕ) → HasOwner c q → source_for c q ≡ source_for b q
  frame-source q (machines u) = source-machines c kc q u ∙ sym (source-machines b kb q u)
  frame-source q (bridges p s o) =
      source-bridge c kc p q s o
      ∙ ap (λ (k : Option ℕ). unwrap_or k SYSTEM_CLOCK_BIRTH) (frame-clock p s)
      ∙ sym (source-bridge b kb p q (f.stood p s) (sym (ap (λ (es : List (List ℕ × ℕ)). owned es) (f.children p s)) ∙ o))
    where
      owned : List (List ℕ × ℕ) → Bool
      owned es = list_any (owns_it q) es

  -- by a board on the way, on which the sources are told
  module _ (e : Board) (clock : (x : ℕ) → clock_of e x ≡ clock_of b x) (lit : (x : ℕ) → is_realized c x ≡ true → is_realized e x ≡ true)
      (stays : (x : ℕ) → is_realized e x ≡ true → stands c x ≡ true) (less : (k s : ℕ) → source_of c k ≡ Some s → source_of e k ≡ Some s)
      (kept : (k s : ℕ) → source_of e k ≡ Some s → is_live c k ≡ true → is_live c s ≡ true → source_of c k ≡ Some s)
      (fed : (d bus k : ℕ) → is_realized e d ≡ true → bus_of b d ≡ Some bus → clock_of b d ≡ Some k → source_of e k ≡ Some (source_for b bus))
      (only : (k s : ℕ) → source_of e k ≡ Some s → IsDeviceClock e k) (h : SoundSources b)
      (was : (x : ℕ) → is_realized e x ≡ true → is_realized b x ≡ true) where
    kind-on : (k : ℕ) → is_live c k ≡ true → is_live b k ≡ true → kind_of b k ≡ Some Clock → kind_of c k ≡ Some Clock
    kind-on k live before is = f.kind k before live ∙ is

    pub frame-sources : SoundSources c
    frame-sources =
        record {
          fed = λ d bus k r on its.
              let s : stands c d ≡ true = kc.places.only d r in
              let owner : HasOwner c bus = kc.places.owner d bus s on in
              let same : source_for c bus ≡ source_for b bus = frame-source bus owner in
              let from : source_of e k ≡ Some (source_for b bus) = fed d bus k (lit d r) (sym (f.bus d s) ∙ on) (sym (frame-clock d s) ∙ its) in
              kept k (source_for c bus) (from ∙ ap (λ (x : ℕ). Some x) (sym same)) (clock-live c kc.firm d k its) (source-live c kc bus owner);
          only = λ k s q.
              let i : IsDeviceClock e k = only k s (less k s q) in
              let there : stands c i.device ≡ true = stays i.device i.realized in
              record {
                device = i.device;
                realized = kc.places.each i.device there refl;
                its = frame-clock i.device there ∙ sym (clock i.device) ∙ i.its;
              };
          clocks = λ d k r its.
              let s : stands c d ≡ true = kc.places.only d r in
              let before : clock_of b d ≡ Some k = sym (frame-clock d s) ∙ its in
              kind-on k (clock-live c kc.firm d k its) (clock-live b kb.firm d k before) (h.clocks d k (was d (lit d r)) before);
          system = kind-on SYSTEM_CLOCK_BIRTH (system-live c kc) (system-live b kb) h.system;
        }
