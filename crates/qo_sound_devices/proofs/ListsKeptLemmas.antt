-- What keeps the lists of pending removals and of notices: commands, attempts, removals that are asked for or refused, and adding a device.
use Rattle.std.proofs.Common.{nat_eq, ◌≡◌, refl, ap, sym, subst, ◌∙◌, ℕ, ◌+◌, ◌<◌, ◌≤◌, Bool, true, false, not, ◌||◌, ◌==◌, eqb, List, [], ◌∷◌, ◌++◌, filter_map, find, length, Option, Some, None, option_map, option_and_then, codes, arith, ap₂, map}
use Rattle.qo_model.proofs.Common.{nat_le, AllByRecursion, IsDistinct, bytes_eq, PERIPHERAL_BIRTH, Code, E44, TypeId, NOTICES_MAX, Board, Notice, Slot, plain, child, strong, weak, alias, slots_at, among, Change, changed, asked, asked_of, device_at, refused, with_asked, with_attempt, opening_board, attached, child_of, components, is_absolute, is_of, only_of, resolve_absolute, walk, Wanted, cut_attempt, notice_barred, plug, plug_attempt, resources_of, with_plugged}
use Rattle.std.specs.List.{list_any}
use Rattle.std.proofs.lemmas.Bool.{eq-eqb}
use Rattle.std.proofs.lemmas.List.{length-append}
use Rattle.std.proofs.lemmas.Option.{same_Some}
use Rattle.std.proofs.Math.Bool.{or-true}
use Rattle.qo_model.specs.Board.{Removal, is_pending, is_of_device}
use Rattle.qo_model.specs.Hotplug.{is_early, with_removal, asked_at}
use Rattle.qo_model.proofs.ChangeScopeLemmas.{stays_lem}
use Rattle.qo_sound.proofs.AddLemmas.{unbarred}
use Rattle.qo_sound.proofs.DeviceScopeLemmas.{devices_stay_lem}
use Rattle.qo_sound.proofs.RecordLemmas.{all-append}
use Rattle.qo_values.proofs.ListLemmas.{all-imply}
use Rattle.qo_sound.proofs.ViewLemmas.{PinsRootAlone, sound-from_rest}
use Rattle.qo_sound_devices.specs.SoundLists.{IsOn, SoundLists, births_of}
use Rattle.qo_sound_devices.specs.SoundPlaces.{child_entry, listed, PlacesBut, stands}
use Rattle.qo_sound_devices.proofs.AcceptanceLemmas.{passes}
use Rattle.qo_sound_devices.proofs.AdditionLemmas.{done, Joined, new-stands, old-stands}
use Rattle.qo_sound_devices.proofs.LawLemmas.{changed-keeps}
use Rattle.qo_sound_devices.proofs.ListsLemmas.{lists-fewer, lists-same, on-stands, within-filter}
use Rattle.qo_sound_devices.proofs.PlacesLemmas.{Keeps, more, stands-live, within-all, Within}
use Rattle.qo_sound_devices.proofs.PlugLemmas.{Accepted, after-plug}
use Rattle.qo_sound_devices.proofs.PlugStageLemmas.{accepted-joined}
use Rattle.qo_sound_devices.proofs.LocationLemmas.{attached-stands}

pub opening-lists : SoundLists opening_board
unfolding opening_board IsDistinct
opening-lists = record { pending = tt; once = tt; asked = tt; notices = tt; few = omega arith }

pub changed-lists : (depth : ℕ → ℕ) (b : Board) (change : Change) → PinsRootAlone b → PlacesBut depth None (λ x. false) b → SoundLists b
    → SoundLists (changed b change)
changed-lists depth b change rest h lists =
    let k : Keeps depth b (changed b change) = changed-keeps depth b change rest h in
    lists-same b (changed b change) (stays_lem.change b change).pending (stays_lem.change b change).notices
    (omega (arith, (stays_lem.change b change).now))
    (λ x on. on-stands depth (changed b change) k.places x (k.stood x ∙ on.0)) lists

-- attempts
pub attempt-lists : (b : Board) (t : TypeId) → SoundLists b → SoundLists (with_attempt b t)
attempt-lists b t h = lists-same b (with_attempt b t) refl refl (omega arith) (λ x on. on) h

pub plug_attempt-lists : (b : Board) (t : TypeId) (bus stage : ℕ) → SoundLists b → SoundLists (plug_attempt b t bus stage)
plug_attempt-lists b t bus stage h = lists-same b (plug_attempt b t bus stage) refl refl (omega arith) (λ x on. on) h

pub cut_attempt-lists : (b : Board) (t : TypeId) (i : ℕ) (joined : Bool) → SoundLists b → SoundLists (cut_attempt b t i joined)
cut_attempt-lists b t i joined h = lists-same b (cut_attempt b t i joined) refl refl (omega arith) (λ x on. on) h

-- a removal that is refused, and a notice that is read
pub refused-lists : (b : Board) (d : ℕ) → SoundLists b → SoundLists (refused b d)
refused-lists b d h =
    lists-fewer b (refused b d)
    (record {
      pending = within-filter (λ (r : Removal). not (r.birth == d)) b.pending;
      notices = within-filter (λ (x : Notice). x.plug || not (x.birth == d)) b.notices;
      later = omega arith;
    })
    (λ x e on. on) h

pub read-lists : (b : Board) (notice : Notice) (others : List Notice) → b.notices ≡ notice ∷ others → SoundLists b → SoundLists (record b { notices = others })
read-lists b notice others e h =
    lists-fewer b (record b { notices = others })
    (record { pending = within-all b.pending; notices = subst (Within others) (sym e) (more notice (within-all others)); later = omega arith })
    (λ x e on. on) h

-- one more, and one that is asked for again
pub new-birth : (rs : List Removal) (d : ℕ) → list_any (is_of_device d) rs ≡ false → among (births_of rs) d ≡ false
new-birth [] d e = refl
new-birth (r ∷ rs) d e = go (r.birth == d) refl (new-birth rs d)
  where
    go : (t : Bool) → (r.birth == d) ≡ t → (list_any (is_of_device d) rs ≡ false → among (births_of rs) d ≡ false) → among (births_of (r ∷ rs)) d ≡ false
    go true p rest = absurd (let clash : true ≡ false = rw p at e in cc)
    go false p rest = let apart : eqb d r.birth ≡ false = grind (arith, p) in rw apart (rest (rw p at e))

births-more : (rs : List Removal) (d now : ℕ) → births_of (rs ++ record { birth = d; asked = now } ∷ []) ≡ births_of rs ++ d ∷ []
births-more [] d now = refl
births-more (r ∷ rs) d now = ap (λ (ns : List ℕ). r.birth ∷ ns) (births-more rs d now)

again-birth : (d now : ℕ) (r : Removal) → (asked_at d now r).birth ≡ r.birth
again-birth d now r = go (r.birth == d) refl
  where
    go : (t : Bool) → (r.birth == d) ≡ t → (asked_at d now r).birth ≡ r.birth
    go true p = rw p refl
    go false p = rw p refl

births-again : (rs : List Removal) (d now : ℕ) → births_of (map (asked_at d now) rs) ≡ births_of rs
births-again [] d now = refl
births-again (r ∷ rs) d now = ap₂ (λ (n : ℕ) (ns : List ℕ). n ∷ ns) (again-birth d now r) (births-again rs d now)

on-again : (b : Board) (rs : List Removal) (d now : ℕ) → AllByRecursion (λ (r : Removal). IsOn b r.birth) rs
    → AllByRecursion (λ (r : Removal). IsOn b r.birth) (map (asked_at d now) rs)
on-again b [] d now h = tt
on-again b (r ∷ rs) d now h = (subst (IsOn b) (sym (again-birth d now r)) h.0, on-again b rs d now h.1)

asked-again : (rs : List Removal) (d now : ℕ) → AllByRecursion (λ (r : Removal). r.asked ≤ now) rs
    → AllByRecursion (λ (r : Removal). r.asked ≤ now) (map (asked_at d now) rs)
asked-again [] d now h = tt
asked-again (r ∷ rs) d now h = (one (r.birth == d) refl, asked-again rs d now h.1)
  where
    one : (t : Bool) → (r.birth == d) ≡ t → (asked_at d now r).asked ≤ now
    one true p = rw p (omega arith)
    one false p = rw p h.0

distinct-more : (xs : List ℕ) (d : ℕ) → among xs d ≡ false → IsDistinct nat_eq xs → IsDistinct nat_eq (xs ++ d ∷ [])
unfolding IsDistinct
distinct-more [] d e h = (tt, tt)
distinct-more (x ∷ xs) d e h = go (eqb d x) refl (distinct-more xs d)
  where
    go : (t : Bool) → eqb d x ≡ t → (among xs d ≡ false → IsDistinct nat_eq xs → IsDistinct nat_eq (xs ++ d ∷ [])) → IsDistinct nat_eq ((x ∷ xs) ++ d ∷ [])
    go true p rest = absurd (let clash : true ≡ false = rw p at e in cc)
    go false p rest =
        let apart : nat_eq x d ≡ false = grind (arith, p) in
        (all-append (λ y. nat_eq x y ≡ false) xs (d ∷ []) h.0 (apart, tt), rest (rw p at e) h.1)

room-for : (b : Board) → notice_barred b ≡ None → length b.notices < NOTICES_MAX
room-for b e = let few : nat_le NOTICES_MAX (length b.notices) ≡ false = (unbarred (nat_le NOTICES_MAX (length b.notices)) E44 None e).0 in grind (arith, few)

more-notices : (P : Notice → Type 0) (b : Board) (notice : Notice) → P notice → AllByRecursion P b.notices → AllByRecursion P (b.notices ++ notice ∷ [])
more-notices P b notice own h = all-append P b.notices (notice ∷ []) h (own, tt)

few-notices : (b : Board) (notice : Notice) → notice_barred b ≡ None → length (b.notices ++ notice ∷ []) ≤ NOTICES_MAX
few-notices b notice e = let room : length b.notices < NOTICES_MAX = room-for b e in omega (arith, room, length-append b.notices (notice ∷ []))

-- the device that is asked for stands in its place
named-child : (d : ℕ) (name : List ℕ) (slots : List (List ℕ × Slot))
    → option_and_then child_of (option_map (λ (s : List ℕ × Slot). s.1) (find (λ s. bytes_eq s.0 name) slots)) ≡ Some d
    → listed d (filter_map child_entry slots) ≡ true
named-child d name [] e = cc
named-child d name (s ∷ slots) e = go (bytes_eq s.0 name) refl (named-child d name slots)
  where
    here : (y : List ℕ × Slot) → child_of y.1 ≡ Some d → listed d (filter_map child_entry (y ∷ slots)) ≡ true
    here (own, plain v) k = cc
    here (own, child j) k = let is : (j == d) ≡ true = eq-eqb j d (same_Some j d k) in rw is refl
    here (own, strong t target) k = cc
    here (own, weak t target) k = cc
    here (own, alias j property) k = cc

    there : (y : List ℕ × Slot) → listed d (filter_map child_entry slots) ≡ true → listed d (filter_map child_entry (y ∷ slots)) ≡ true
    there (own, plain v) k = k
    there (own, child j) k = rw k (or-true (j == d))
    there (own, strong t target) k = k
    there (own, weak t target) k = k
    there (own, alias j property) k = k

    go : (t : Bool) → bytes_eq s.0 name ≡ t
        → (option_and_then child_of (option_map (λ (y : List ℕ × Slot). y.1) (find (λ y. bytes_eq y.0 name) slots)) ≡ Some d
        → listed d (filter_map child_entry slots) ≡ true)
        → listed d (filter_map child_entry (s ∷ slots)) ≡ true
    go true p rest = here s (rw p at e)
    go false p rest = there s (rest (rw p at e))

module _ (depth : ℕ → ℕ) (b : Board) (rest : PinsRootAlone b) (h : PlacesBut depth None (λ x. false) b) where
  only-device : (o : Option ℕ) (d : ℕ) → option_and_then (only_of b (codes "device")) o ≡ Some d → is_of b (codes "device") d ≡ true
  only-device None d e = absurd (let clash : None ≡ Some d = e in cc)
  only-device (Some n) d e = go (is_of b (codes "device") n) refl
    where
      go : (t : Bool) → is_of b (codes "device") n ≡ t → is_of b (codes "device") d ≡ true
      go true p = ap (is_of b (codes "device")) (sym (same_Some n d (rw (only_of, p) at e))) ∙ p
      go false p = absurd (let clash : None ≡ Some d = rw (only_of, p) at e in cc)

  asked-stands : (id : List ℕ) (d : ℕ) → device_at b id ≡ Some d → attached b d ≡ true → stands b d ≡ true
  asked-stands id d e home = go (is_absolute id) refl
    where
      go : (t : Bool) → is_absolute id ≡ t → stands b d ≡ true
      go true p =
          attached-stands b (sound-from_rest b rest).0 rest.used.firm depth None (λ x. false) h d
          (only-device (walk b 1 (components id)) d (rw (device_at, resolve_absolute, p) at e)) home
      go false p = rw (named-child d id (slots_at b PERIPHERAL_BIRTH) (rw (device_at, p) at e)) refl

  asked_of-lists : (d : ℕ) → (attached b d ≡ true → stands b d ≡ true) → SoundLists b → SoundLists (asked_of b d).board
  asked_of-lists d home lists = go (attached b d) refl (is_early b d) refl (notice_barred b) refl
    where
      new-on : (t : Bool) → is_pending b d ≡ t → IsOn b d → AllByRecursion (λ (r : Removal). IsOn b r.birth) (with_asked b d).pending
      new-on true p on = rw (with_removal, p) (on-again b b.pending d b.now lists.pending)
      new-on false p on =
          rw (with_removal, p)
          (all-append (λ (r : Removal). IsOn b r.birth) b.pending (record { birth = d; asked = b.now } ∷ []) lists.pending (on, tt))

      new-once : (t : Bool) → is_pending b d ≡ t → IsDistinct nat_eq (births_of (with_asked b d).pending)
      new-once true p = rw (with_removal, p) (subst (IsDistinct nat_eq) (sym (births-again b.pending d b.now)) lists.once)
      new-once false p =
          rw (with_removal, p)
          (subst (IsDistinct nat_eq) (sym (births-more b.pending d b.now)) (distinct-more (births_of b.pending) d (new-birth b.pending d p) lists.once))

      new-asked : (t : Bool) → is_pending b d ≡ t → AllByRecursion (λ (r : Removal). r.asked ≤ b.now) (with_asked b d).pending
      new-asked true p = rw (with_removal, p) (asked-again b.pending d b.now lists.asked)
      new-asked false p =
          rw (with_removal, p)
          (all-append (λ (r : Removal). r.asked ≤ b.now) b.pending (record { birth = d; asked = b.now } ∷ []) lists.asked (omega arith, tt))

      more : stands b d ≡ true → notice_barred b ≡ None → SoundLists (with_asked b d)
      more e room =
          let on : IsOn b d = on-stands depth b h d e in
          record {
            pending = new-on (is_pending b d) refl on;
            once = new-once (is_pending b d) refl;
            asked = new-asked (is_pending b d) refl;
            notices = more-notices (λ (x : Notice). IsOn b x.birth) b (record { plug = false; birth = d }) on lists.notices;
            few = few-notices b (record { plug = false; birth = d }) room;
          }

      go : (at_home : Bool) → attached b d ≡ at_home → (early : Bool) → is_early b d ≡ early → (full : Option Code) → notice_barred b ≡ full
          → SoundLists (asked_of b d).board
      go false p pending q full r = rw (asked_of, p) lists
      go true p true q full r = rw (asked_of, p, q) lists
      go true p false q (Some code) r = rw (asked_of, p, q, r) lists
      go true p false q None r = rw (asked_of, p, q, r) (more (home p) r)

  pub asked-lists : (id : List ℕ) → SoundLists b → SoundLists (asked b id).board
  asked-lists id lists = go (device_at b id) refl
    where
      go : (o : Option ℕ) → device_at b id ≡ o → SoundLists (asked b id).board
      go None e = rw (asked, e) lists
      go (Some d) e = rw (asked, e) (asked_of-lists d (asked-stands id d e) lists)

  -- a device that is added
  module _ (a : Wanted) (lists : SoundLists b) where
    plugged-on : (t : TypeId) (bus : ℕ) → Accepted b t bus a → SoundLists (with_plugged b t a (resources_of b t bus a.props))
    plugged-on t bus k =
        record {
          pending =
              subst (AllByRecursion (λ (r : Removal). IsOn c r.birth)) (sym pending)
              (all-imply (λ (r : Removal). IsOn b r.birth) (λ (r : Removal). IsOn c r.birth) (λ r. old r.birth) b.pending lists.pending);
          once = subst (λ (rs : List Removal). IsDistinct nat_eq (births_of rs)) (sym pending) lists.once;
          asked =
              subst (AllByRecursion (λ (r : Removal). r.asked ≤ c.now)) (sym pending)
              (all-imply (λ (r : Removal). r.asked ≤ b.now) (λ (r : Removal). r.asked ≤ c.now) (λ r k. omega (arith, k, time)) b.pending lists.asked);
          notices =
              subst (AllByRecursion (λ (x : Notice). IsOn c x.birth)) (sym notices)
              (more-notices (λ (x : Notice). IsOn c x.birth) b (record { plug = true; birth = b.born + 1 }) new
              (all-imply (λ (x : Notice). IsOn b x.birth) (λ (x : Notice). IsOn c x.birth) (λ x. old x.birth) b.notices lists.notices));
          few =
              subst (λ (xs : List Notice). length xs ≤ NOTICES_MAX) (sym notices)
              (few-notices b (record { plug = true; birth = b.born + 1 }) (passes b t bus a k).notice);
        }
      where
        c : Board
        c = with_plugged b t a (resources_of b t bus a.props)

        j : Joined depth b (b.born + 1) bus (resources_of b t bus a.props).slot a.id t (done b bus (resources_of b t bus a.props).slot a.id) c
        j = accepted-joined depth b a rest h t bus k

        time : c.now ≡ b.now
        time = (devices_stay_lem.added b t a (resources_of b t bus a.props)).now

        pending : c.pending ≡ b.pending
        pending = (devices_stay_lem.added b t a (resources_of b t bus a.props)).pending

        notices : c.notices ≡ b.notices ++ record { plug = true; birth = b.born + 1 } ∷ []
        notices = devices_stay_lem.told b t a (resources_of b t bus a.props)

        old : (x : ℕ) → IsOn b x → IsOn c x
        old x on = (
          old-stands depth b (b.born + 1) bus (resources_of b t bus a.props).slot a.id t c j rest.used.firm h x on.0,
          j.realized x (stands-live b rest.used.firm x on.0) ∙ on.1,
        )

        new : IsOn c (b.born + 1)
        new = (new-stands depth b (b.born + 1) bus (resources_of b t bus a.props).slot a.id t c j rest.used.firm h, j.stands_realized)

    pub plugged-lists : SoundLists (plug b a).board
    plugged-lists = after-plug SoundLists b a lists (λ t bus stage. plug_attempt-lists b t bus stage lists) plugged-on
