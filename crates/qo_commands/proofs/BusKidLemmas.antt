-- Commands on objects leave the kids of each bus that is one of the machine's, or one of a device that stands: no user may write a link of a bus.
use Rattle.std.proofs.Common.{◌≡◌, refl, ap, sym, subst, ◌∙◌, ℕ, ◌+◌, Bool, true, false, ◌==◌, List, [], ◌∷◌, filter_map, length, map, nat_eq, Option, Some, None, is_some, option_map, option_and_then, codes}
use Rattle.qo_model.proofs.Common.{list_any, option_map_or, option_or, OBJECTS_BIRTH, ROOT_BIRTH, fresh_registers, Code, TypeId, Val, Board, Record, Slot, child, record_of, is_live, slot_at, slots_at, point, pointed, set, with_added, with_changed, with_val, Change, added, after_write, changed, deleted, severed, wrote, Given, added_as, given_slots, sever, severed_from, with_attempt, with_object, attached, is_of, pointed_at, property_named, relinked, write, after, drop_slot, edit, edited, finalize, let_go, pin, put_in_order, unpin, with_dropped, without_first, without_pin}
use Rattle.std.proofs.lemmas.Bool.{eqb-true}
use Rattle.std.proofs.lemmas.List.Folds.{find-append}
use Rattle.qo_model.specs.Board.{referent}
use Rattle.qo_model.proofs.ComesToLemmas.{addition-comes, deletion-comes, sever-comes, severed-comes}
use Rattle.qo_model.proofs.StepLemmas.{found_at, found-edited}
use Rattle.qo_model.proofs.WrittenLemmas.{write-comes}
use Rattle.qo_sound.proofs.TestLemmas.{decide, clash, clash-back}
use Rattle.qo_sound_devices.specs.SoundDevices.{SoundDevices}
use Rattle.qo_sound_devices.specs.SoundPlaces.{HasOwner, machines, bridges, child_entries, kid_entries, kid_entry, stands}
use Rattle.qo_sound_devices.proofs.AttachmentLemmas.{owner-attached, owns-listed}
use Rattle.qo_sound_devices.proofs.LikenessLemmas.{after-alike, other-record}
use Rattle.qo_sound_devices.proofs.PlacesLemmas.{of-live}
use Rattle.qo_sound_devices.proofs.StepsLemmas.{steps-after}
use Rattle.qo_sound_devices.proofs.WriteLemmas.{row-fits}
use Rattle.qo_sound_phases.proofs.ResetTreeLemmas.{Placed, one-parent, placed}

-- a bus that is one of the machine's, or one of a device that stands
pub record IsOwned (b : Board) (q : ℕ) : Type 0 where
  pub is_bus : is_of b (codes "bus") q ≡ true
  pub owner : HasOwner b q

-- an object was there, with the same kids
pub record SameKids (b c : Board) (q : ℕ) : Type 0 where
  pub live : is_live b q ≡ true
  pub kids : kid_entries c q ≡ kid_entries b q

same-kids : (b c : Board) (q : ℕ) → record_of c q ≡ record_of b q → is_live c q ≡ true → SameKids b c q
same-kids b c q same there =
    record {
      live = sym (ap is_some same) ∙ there;
      kids = ap (λ (o : Option Record). filter_map kid_entry (option_map_or (λ (r : Record). r.slots) o [])) same;
    }

module _ (On : ℕ → Type 0) where
  -- so was each of some that is still there
  abbrev pub KeepKids : Board → Board → Type 0
  KeepKids b c = (q : ℕ) → On q → is_live c q ≡ true → SameKids b c q

  kids-none : (b : Board) → KeepKids b b
  kids-none b q on there = record { live = there; kids = refl }

  kids-then : (b c d : Board) → KeepKids b c → KeepKids c d → KeepKids b d
  kids-then b c d h k q on there =
      let second : SameKids c d q = k q on there in
      let first : SameKids b c q = h q on second.live in
      record { live = first.live; kids = second.kids ∙ first.kids }

  kids-after : (b : Board) (o : Option ℕ) → KeepKids b (after finalize b o)
  kids-after b o q on there = record { live = (steps-after b o).live q there; kids = (after-alike b o q there).kids }

  -- another object is changed
  kids-edit : (n : ℕ) (change : Record → Record) → ((r : Record) → (change r).birth ≡ r.birth) → (b : Board) → (On n → ⊥) → KeepKids b (edit n change b)
  kids-edit n change birth b apart q on there =
      same-kids b (edit n change b) q
      (found-edited n change birth q b.records ∙ other-record n q change b refl other (record_of b q) refl) there
    where
      other : (q == n) ≡ false
      other = decide (q == n) (λ p. absurd (apart (subst On (eqb-true q n p) on))) (λ p. p)

  kids-let_go : (n i : ℕ) (b : Board) → (On n → ⊥) → KeepKids b (let_go b n i)
  unfolding let_go drop_slot
  kids-let_go n i b apart = go (slot_at b n i) refl
    where
      go : (o : Option Slot) → slot_at b n i ≡ o → KeepKids b (let_go b n i)
      go None e = rw (let_go, e) (kids-none b)
      go (Some s) e =
          rw (let_go, e)
          (kids-then b (drop_slot b n i) (after finalize (drop_slot b n i) (referent s)) (kids-edit n (with_dropped i) (λ r. refl) b apart)
          (kids-after (drop_slot b n i) (referent s)))

  -- `qom-set`
  kids-relinked : (n i : ℕ) (s : Slot) (b : Board) → slot_at b n i ≡ Some s → (target : Option ℕ) → (On n → ⊥) → KeepKids b (relinked b n i target)
  unfolding point drop_slot
  kids-relinked n i s b e target apart =
      rw (relinked, e)
      (kids-then b (pointed_at target n i (drop_slot b n i)) (after finalize (pointed_at target n i (drop_slot b n i)) (referent s)) (points target)
      (kids-after (pointed_at target n i (drop_slot b n i)) (referent s)))
    where
      dropped : KeepKids b (drop_slot b n i)
      dropped = kids-edit n (with_dropped i) (λ r. refl) b apart

      points : (to : Option ℕ) → KeepKids b (pointed_at to n i (drop_slot b n i))
      points None = dropped
      points (Some m) =
          kids-then b (drop_slot b n i) (pointed_at (Some m) n i (drop_slot b n i)) dropped
          (kids-edit n (with_changed (pointed m) i) (λ r. refl) (drop_slot b n i) apart)

  kids-set : (n i : ℕ) (v : Val) (b : Board) → (On n → ⊥) → KeepKids b (set n i v b)
  unfolding set
  kids-set n i v b apart = kids-edit n (with_changed (with_val v) i) (λ r. refl) b apart

  kids-write : (b : Board) (n : ℕ) (name : List ℕ) (v : Val) → (is_of b (codes "bus") n ≡ false → On n → ⊥) → KeepKids b (after_write b (write b n name v))
  kids-write b n name v apart = write-comes (KeepKids b) b (kids-none b) n name v (λ i t p kind e may.
      let aside : On n → ⊥ = apart (row-fits b n name p (ap (option_and_then (λ k. property_named k name)) kind ∙ e) may).no_bus in
      record {
        value = λ old at type first is fits. kids-set n i v b aside;
        link = λ u s left link leaves at to holds is path target told.
            kids-relinked n i s b (ap (option_map (λ (x : List ℕ × Slot). x.1)) at) target aside;
      })

  -- `x-sever`
  kids-pins : (b : Board) (ps : List ℕ) → KeepKids b (record b { pins = ps })
  kids-pins b ps q on there = same-kids b (record b { pins = ps }) q refl there

  kids-pin : (n : ℕ) (b : Board) → KeepKids b (pin b n)
  unfolding pin
  kids-pin n b = kids-pins b (put_in_order n b.pins)

  kids-unpin : (n : ℕ) (b : Board) → KeepKids b (unpin b n)
  unfolding unpin
  kids-unpin n b = go (list_any (nat_eq n) b.pins) refl
    where
      go : (u : Bool) → list_any (nat_eq n) b.pins ≡ u → KeepKids b (unpin b n)
      go true e =
          rw (unpin, e)
          (kids-then b (without_pin b n) (after finalize (without_pin b n) (Some n)) (kids-pins b (without_first n b.pins))
          (kids-after (without_pin b n) (Some n)))
      go false e = rw (unpin, e) (kids-none b)

  kids-severed : (n : ℕ) → (On n → ⊥) → (places i : ℕ) (b : Board) → KeepKids b (severed_from places i n b)
  kids-severed n apart places i b =
      severed-comes (KeepKids b) n (λ d j t target e k. kids-then b d (let_go d n j) k (kids-let_go n j d apart)) places i b (kids-none b)

  kids-sever : (b : Board) (n : ℕ) → (attached b n ≡ false → On n → ⊥) → KeepKids b (sever b n).board
  kids-sever b n apart = sever-comes (KeepKids b) b n (kids-none b) (λ there away.
      let c : Board = severed_from (length (slots_at b n)) 0 n (pin b n) in
      kids-then b c (unpin c n)
      (kids-then b (pin b n) c (kids-pin n b) (kids-severed n (apart away) (length (slots_at b n)) 0 (pin b n)))
      (kids-unpin n c))

-- `object-add`: the new object stands after the others, and `/objects` has a child more
old-record : (b : Board) (t : TypeId) (id : List ℕ) (props : List Given) (q : ℕ) → is_live b q ≡ true → (q == OBJECTS_BIRTH) ≡ false
    → record_of (with_object b t id props) q ≡ record_of b q
old-record b t id props q live apart = go (record_of b q) refl
  where
    change : Record → Record
    change = with_added id (child (b.born + 1))

    r : Record
    r = record { birth = b.born + 1; kind = t; slots = given_slots b t props; registers = fresh_registers t; device_id = None; kept_path = None }

    before : option_map (edited OBJECTS_BIRTH (with_added id (child (b.born + 1)))) (record_of b q) ≡ record_of b q
    before = other-record OBJECTS_BIRTH q (with_added id (child (b.born + 1))) b refl apart (record_of b q) refl

    go : (o : Option Record) → record_of b q ≡ o → record_of (with_object b t id props) q ≡ record_of b q
    go None e = clash-back (sym (ap is_some e) ∙ live)
    go (Some y) e =
        find-append (λ (x : Record). x.birth == q) (map (edited OBJECTS_BIRTH change) b.records) (r ∷ [])
        ∙ ap (λ (o : Option Record). option_or o (found_at q (r ∷ []))) (found-edited OBJECTS_BIRTH change (λ x. refl) q b.records ∙ before ∙ e)
        ∙ sym e

-- `/objects` is no such bus: it is a child of the root
objects-unowned : (b : Board) → Placed b → HasOwner b OBJECTS_BIRTH → ⊥
objects-unowned b k (machines u) = clash-back u
objects-unowned b k (bridges p s own) =
    let root : p ≡ ROOT_BIRTH = one-parent b k p ROOT_BIRTH OBJECTS_BIRTH (owns-listed OBJECTS_BIRTH (child_entries b p) own) k.places.objects in
    clash (sym s ∙ ap (stands b) root ∙ k.places.aside.0)

kids-added : (b : Board) → Placed b → (t : TypeId) (id : List ℕ) (props : List Given) (refusal : Option Code)
    → KeepKids (IsOwned b) b (added_as b t id props refusal).board
kids-added b k t id props (Some code) q on there = same-kids b (with_attempt b t) q refl there
kids-added b k t id props None q on there =
    same-kids b (with_object b t id props) q (old-record b t id props q (of-live b (codes "bus") q on.is_bus) apart) there
  where
    apart : (q == OBJECTS_BIRTH) ≡ false
    apart =
        decide (q == OBJECTS_BIRTH) (λ p. absurd (objects-unowned b k (subst (HasOwner b) (eqb-true q OBJECTS_BIRTH p) on.owner))) (λ p. p)

pub kids-changed : (b : Board) → SoundDevices b → (change : Change) → KeepKids (IsOwned b) b (changed b change)
kids-changed b d (added driver id props) =
    addition-comes (KeepKids (IsOwned b) b) b driver id props (kids-none (IsOwned b) b) (λ row e o is. kids-added b (placed b d) row.id id props o)
kids-changed b d (deleted id) =
    deletion-comes (KeepKids (IsOwned b) b) b id (kids-none (IsOwned b) b)
    (λ i e. kids-let_go (IsOwned b) OBJECTS_BIRTH i b (λ on. objects-unowned b (placed b d) on.owner))
kids-changed b d (wrote n name v) = kids-write (IsOwned b) b n name v (λ none on. clash (sym on.is_bus ∙ none))
kids-changed b d (severed n) = kids-sever (IsOwned b) b n (λ away on. clash (sym (attached-owner on.owner) ∙ away))
  where
    attached-owner : HasOwner b n → attached b n ≡ true
    attached-owner o = owner-attached b d.tree.0 (placed b d).firm (placed b d).depth None (λ x. false) (placed b d).places n o
