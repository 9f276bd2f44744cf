-- The commands on objects, and a device that is detached, keep it so that children are of the types of their properties.
use Rattle.std.proofs.Common.{◌≡◌, refl, ap, ap₂, sym, subst, ◌∙◌, ℕ, ◌+◌, Bool, true, false, ◌==◌, nat_eq, List, [], ◌∷◌, length, map, Option, Some, None, is_some, option_map}
use Rattle.qo_model.proofs.Common.{cons_option, list_any, option_map_or, OBJECTS_BIRTH, Code, Container, Val, Board, Record, Slot, child, is_live, kind_of, record_of, slot_at, slots_at, point, pointed, set, with_added, with_changed, with_val, Change, added, after_write, changed, deleted, severed, wrote, Given, added_as, object_add, object_del, sever, severed_from, slot_given, with_object, fresh_slots, pointed_at, relinked, write, after, drop_slot, edit, edited, finalize, let_go, pin, unpin, with_dropped, without_pin, TypeInfo, detach, unrealize}
use Rattle.qo_model.specs.Board.{referent}
use Rattle.qo_model.proofs.ComesToLemmas.{addition-comes, deletion-comes, sever-comes, severed-comes}
use Rattle.qo_model.proofs.WrittenLemmas.{write-comes}
use Rattle.qo_model.proofs.StepLemmas.{found-edited, is_some-map}
use Rattle.qo_sound.proofs.AddLemmas.{made}
use Rattle.qo_sound.proofs.FirmBoardLemmas.{edited-kind, WellFormed}
use Rattle.qo_sound.proofs.GivenPropertyLemmas.{given-cases}
use Rattle.qo_sound.proofs.ViewLemmas.{rest-from_sound}
use Rattle.qo_sound_devices.specs.SoundDevices.{SoundDevices}
use Rattle.qo_sound_devices.specs.SoundPlaces.{child_entries, child_entry, stands}
use Rattle.qo_sound_devices.proofs.DetachmentLemmas.{dims}
use Rattle.qo_sound_devices.proofs.DevicesLawLemmas.{devices_kept_lem}
use Rattle.qo_sound_devices.proofs.DropLemmas.{children-fewer}
use Rattle.qo_sound_devices.proofs.PinLemmas.{pin-children, pin-kind}
use Rattle.qo_sound_devices.proofs.PlacesLemmas.{kind-alike, Within, within-all, within-same}
use Rattle.qo_sound_devices.proofs.StepsLemmas.{Steps, steps-after, within-then}
use Rattle.qo_sound_devices.proofs.WriteLemmas.{child-entry-pointed}
use Rattle.qo_sound_phases.proofs.DetachmentLemmas.{walked}
use Rattle.qo_sound_phases.proofs.FixedObjectLemmas.{child-val}
use Rattle.qo_sound_shapes.specs.SoundShape.{SoundShape}
use Rattle.qo_sound_shapes.proofs.BoardLemmas.{container-eight, opening-kind}
use Rattle.qo_sound_shapes.proofs.ChildTypeLemmas.{container-free, fresh-childless, Typed, typed-free, typed-new, typed-within}
use Rattle.qo_sound_shapes.proofs.CompletenessLemmas.{entries-changed, entries_in}
use Rattle.qo_sound_shapes.proofs.RowLemmas.{Slots}

-- no object has a child more, and who is there is of the type that it was of
record Shrinks (b c : Board) : Type 0 where
  kin : (x : ℕ) → is_live c x ≡ true → kind_of c x ≡ kind_of b x
  within : (x : ℕ) → Within (child_entries c x) (child_entries b x)

module _ (b : Board) where
  shrinks-none : Shrinks b b
  shrinks-none = record { kin = λ x e. refl; within = λ x. within-all (child_entries b x) }

  shrinks-after : (o : Option ℕ) (c : Board) → Shrinks b c → Shrinks b (after finalize c o)
  shrinks-after o c h =
      let s : Steps c (after finalize c o) = steps-after c o in
      record {
        kin = λ x e. kind-alike c (after finalize c o) x (s.body x e) ∙ h.kin x (s.live x e);
        within = λ x. within-then (s.children x) (h.within x);
      }

  shrinks-edit : (n : ℕ) (change : Record → Record) → ((r : Record) → (change r).birth ≡ r.birth) → ((r : Record) → (change r).kind ≡ r.kind)
      → ((r : Record) → Within (entries_in (change r).slots) (entries_in r.slots)) → (c : Board) → Shrinks b c → Shrinks b (edit n change c)
  shrinks-edit n change same_birth same_kind fewer c h =
      record {
        kin = λ x e.
            edited-kind n change same_birth same_kind c x
            ∙ h.kin x (sym (ap is_some (found-edited n change same_birth x c.records) ∙ is_some-map (edited n change) (record_of c x)) ∙ e);
        within = λ x. within-then (less x) (h.within x);
      }
    where
      at_record : (r : Record) (u : Bool) → (r.birth == n) ≡ u → Within (entries_in (edited n change r).slots) (entries_in r.slots)
      at_record r true p = rw (edited, p) (fewer r)
      at_record r false p = rw (edited, p) (within-all (entries_in r.slots))

      in_record : (o : Option Record)
          → Within (entries_in (option_map_or (λ (r : Record). r.slots) (option_map (edited n change) o) []))
          (entries_in (option_map_or (λ (r : Record). r.slots) o []))
      in_record None = within-all []
      in_record (Some r) = at_record r (r.birth == n) refl

      less : (x : ℕ) → Within (child_entries (edit n change c) x) (child_entries c x)
      less x =
          subst (λ (o : Option Record). Within (entries_in (option_map_or (λ (r : Record). r.slots) o [])) (child_entries c x))
          (sym (found-edited n change same_birth x c.records)) (in_record (record_of c x))

  shrinks-let_go : (n i : ℕ) (c : Board) → Shrinks b c → Shrinks b (let_go c n i)
  unfolding let_go drop_slot
  shrinks-let_go n i c h = go (slot_at c n i) refl
    where
      go : (o : Option Slot) → slot_at c n i ≡ o → Shrinks b (let_go c n i)
      go None e = rw (let_go, e) h
      go (Some s) e =
          rw (let_go, e)
          (shrinks-after (referent s) _ (shrinks-edit n (with_dropped i) (λ r. refl) (λ r. refl) (λ r. children-fewer i r.slots) c h))

  shrinks-pin : (n : ℕ) (c : Board) → Shrinks b c → Shrinks b (pin c n)
  unfolding pin
  shrinks-pin n c h = record { kin = h.kin; within = h.within }

  shrinks-unpin : (n : ℕ) (c : Board) → Shrinks b c → Shrinks b (unpin c n)
  unfolding unpin
  shrinks-unpin n c h = go (list_any (nat_eq n) c.pins) refl
    where
      go : (u : Bool) → list_any (nat_eq n) c.pins ≡ u → Shrinks b (unpin c n)
      go true e = rw (unpin, e) (shrinks-after (Some n) (without_pin c n) (record { kin = h.kin; within = h.within }))
      go false e = rw (unpin, e) h

  -- the commands that add nothing

  shrinks-del : (id : List ℕ) → Shrinks b (object_del b id).board
  shrinks-del id = deletion-comes (Shrinks b) b id shrinks-none (λ i e. shrinks-let_go OBJECTS_BIRTH i b shrinks-none)

  shrinks-sever : (n : ℕ) → Shrinks b (sever b n).board
  shrinks-sever n =
      sever-comes (Shrinks b) b n shrinks-none
      (λ there away.
      shrinks-unpin n (severed_from (length (slots_at b n)) 0 n (pin b n))
      (severed-comes (Shrinks b) n (λ d j t target e less. shrinks-let_go n j d less) (length (slots_at b n)) 0 (pin b n)
      (shrinks-pin n b shrinks-none)))

  shrinks-relinked : (n i : ℕ) (s : Slot) → slot_at b n i ≡ Some s → (target : Option ℕ) → Shrinks b (relinked b n i target)
  unfolding point drop_slot
  shrinks-relinked n i s e target = rw (relinked, e) (shrinks-after (referent s) (pointed_at target n i (drop_slot b n i)) (points target))
    where
      dropped : Shrinks b (drop_slot b n i)
      dropped = shrinks-edit n (with_dropped i) (λ r. refl) (λ r. refl) (λ r. children-fewer i r.slots) b shrinks-none

      points : (to : Option ℕ) → Shrinks b (pointed_at to n i (drop_slot b n i))
      points None = dropped
      points (Some m) =
          shrinks-edit n (with_changed (pointed m) i) (λ r. refl) (λ r. refl)
          (λ r. within-same (entries-changed (pointed m) (child-entry-pointed m) i r.slots)) (drop_slot b n i) dropped

  shrinks-set : (n i : ℕ) (v : Val) → Shrinks b (set n i v b)
  unfolding set
  shrinks-set n i v =
      shrinks-edit n (with_changed (with_val v) i) (λ r. refl) (λ r. refl) (λ r. within-same (entries-changed (with_val v) (child-val v) i r.slots)) b
      shrinks-none

  shrinks-write : (n : ℕ) (name : List ℕ) (v : Val) → Shrinks b (after_write b (write b n name v))
  shrinks-write n name v =
      write-comes (Shrinks b) b shrinks-none n name v
      (λ i t p kind e may.
      record {
        value = λ old at type first is fits. shrinks-set n i v;
        link = λ u s left link leaves at to holds is path target told.
            shrinks-relinked n i s (ap (option_map (λ (x : List ℕ × Slot). x.1)) at) target;
      })

-- `object-add`: the new object has no children, and is one in `/objects`

pub entry-given : (b : Board) (props : List Given) (s : List ℕ × Slot) → child_entry (slot_given b props s) ≡ child_entry s
entry-given b props s =
    given-cases b props (λ x y. child_entry (s.0, y) ≡ child_entry (s.0, x)) (λ x. refl) (λ old v. refl) (λ t target path. refl) (λ t target path. refl) s

pub entries-given : (b : Board) (props : List Given) (slots : Slots) → entries_in (map (slot_given b props) slots) ≡ entries_in slots
entries-given b props [] = refl
entries-given b props (s ∷ slots) = ap₂ cons_option (entry-given b props s) (entries-given b props slots)

object_add-typed : (b : Board) (driver id : List ℕ) (props : List Given) → kind_of b OBJECTS_BIRTH ≡ Some Container → Typed b
    → Typed (object_add b driver id props).board
object_add-typed b driver id props container h =
    addition-comes Typed b driver id props h (λ row e o is. taken row o)
  where
    taken : (row : TypeInfo) → (o : Option Code) → Typed (added_as b row.id id props o).board
    taken row (Some code) = h
    taken row None =
        typed-new (made b row.id props) (edit OBJECTS_BIRTH (with_added id (child (b.born + 1))) b) (with_object b row.id id props) refl
        (entries-given b props (fresh_slots row.id) ∙ fresh-childless row.id)
        (typed-free OBJECTS_BIRTH Container container-free (with_added id (child (b.born + 1))) (λ r. refl) (λ r. refl) b container h)

-- each of them
pub changed-typed : (b : Board) (change : Change) → SoundDevices b → SoundShape b → Typed (changed b change)
changed-typed b change devices h = go change (rest-from_sound (changed b change) (devices_kept_lem.change b change devices).tree).used.firm
  where
    shrunk : (c : Board) → WellFormed c → Shrinks b c → Typed c
    shrunk c firm s = typed-within b c firm s.kin s.within h.children

    go : (x : Change) → WellFormed (changed b x) → Typed (changed b x)
    go (added driver id props) firm =
        object_add-typed b driver id props (opening-kind b h.opening OBJECTS_BIRTH Container container-eight) h.children
    go (deleted id) firm = shrunk (object_del b id).board firm (shrinks-del b id)
    go (wrote n name v) firm = shrunk (after_write b (write b n name v)) firm (shrinks-write b n name v)
    go (severed n) firm = shrunk (sever b n).board firm (shrinks-sever b n)

-- a device that is detached, with all that is below it
pub detached-typed : (b : Board) (d : ℕ) → SoundDevices b → stands b d ≡ true → Typed b → Typed (detach b d)
detached-typed b d devices e h =
    typed-within b (detach b d) (rest-from_sound (detach b d) (devices_kept_lem.detached b d devices e).tree).used.firm
    (λ x live. ((walked b d).kin x live).1 ∙ kind-alike (pin b d) (unrealize (pin b d) d) x ((dims b d).body x) ∙ pin-kind b d x)
    (λ x. within-then ((walked b d).children x) (within-same ((dims b d).children x ∙ pin-children b d x))) h
