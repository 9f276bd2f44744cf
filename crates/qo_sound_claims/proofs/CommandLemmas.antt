-- The commands on objects: what they add is not realized, what they write is not claimed, and what they let go no realized device holds.
use Rattle.std.proofs.Common.{◌≡◌, inl, inr, refl, ap, sym, ◌∙◌, rules, ℕ, ◌+◌, Bool, true, false, ◌==◌, List, [], ◌∷◌, map, length, slice_get, Option, Some, None, option_map, codes}
use Rattle.qo_model.proofs.Common.{AllByRecursion, option_or, bytes_eq, OBJECTS_BIRTH, Code, TypeId, Val, Board, Record, Slot, plain, child, strong, weak, alias, record_of, slot_at, slots_at, point, pointed, set, with_added, with_changed, with_val, is_realized, Change, added, deleted, wrote, severed, after_write, changed, Given, added_as, is_object_named, object_add, object_del, sever, severed_from, slot_given, with_object, fresh_slots, attached, is_of, pointed_at, relinked, write, drop_slot, edited, emptied, pin, is_a, types}
use Rattle.qo_values.proofs.EachLemmas.{each}
use Rattle.qo_model.specs.Board.{referent}
use Rattle.qo_model.proofs.ComesToLemmas.{addition-comes, deletion-comes, sever-comes, severed-comes}
use Rattle.qo_model.proofs.FirstSlotLemmas.{Found, found-at}
use Rattle.qo_model.proofs.StepLemmas.{found-edited, found_at}
use Rattle.qo_sound.proofs.AddLemmas.{creatable, made}
use Rattle.qo_sound.proofs.SearchLemmas.{found-append}
use Rattle.qo_sound.proofs.ReadLemmas.{dropped-at}
use Rattle.qo_sound.proofs.RecordLemmas.{all-map}
use Rattle.qo_sound.proofs.SlotLemmas.{kept-slot}
use Rattle.qo_model.proofs.WrittenLemmas.{write-comes}
use Rattle.qo_sound_devices.specs.SoundDevices.{SoundDevices}
use Rattle.qo_sound_devices.proofs.PlugLemmas.{stands-device}
use Rattle.qo_sound_devices.proofs.FactLemmas.{devices_say_lem}
use Rattle.qo_sound_clocks.proofs.CommandLemmas.{MaySet, may-set, set-apart}
use Rattle.qo_sound_clocks.proofs.SlotLemmas.{Slots}
use Rattle.qo_sound_claims.proofs.DecreaseLemmas.{at-record, Fewer, fewer-after, fewer-drop, fewer-let_go, fewer-none, fewer-pin, fewer-slots, fewer-unpin, Harmless, LessRecord, NearAt, record-none, record-slots, spares-harmless, Spares}
use Rattle.qo_sound_claims.proofs.ReadLemmas.{realized-at}
use Rattle.qo_sound_claims.proofs.SlotLemmas.{less-added, less-pointed, less-set, lit_in, OtherLink, OtherName}

-- no property that is claimed is written by `qom-set`

record NeverSet (t : TypeId) : Type 0 where
  chardev : MaySet t (codes "chardev") ≡ false
  addr : MaySet t (codes "addr") ≡ false
  size : MaySet t (codes "size") ≡ false
  slot : MaySet t (codes "slot") ≡ false
  realized : MaySet t (codes "realized") ≡ false
  memdev : MaySet t (codes "memdev") ≡ false
  parent_bus : MaySet t (codes "parent_bus") ≡ false

never-set : (t : TypeId) → NeverSet t
unfolding types
never-set = each (λ (t : TypeId). NeverSet t) (search rules)

record Unclaimed (name : List ℕ) : Type 0 where
  values : OtherName name
  realized : bytes_eq name (codes "realized") ≡ false
  links : OtherLink name

set-other : (t : TypeId) (name : List ℕ) → MaySet t name ≡ true → Unclaimed name
set-other t name e =
    record {
      values = record {
        chardev = set-apart t name e (codes "chardev") n.chardev;
        addr = set-apart t name e (codes "addr") n.addr;
        size = set-apart t name e (codes "size") n.size;
        slot = set-apart t name e (codes "slot") n.slot;
      };
      realized = set-apart t name e (codes "realized") n.realized;
      links = record { memdev = set-apart t name e (codes "memdev") n.memdev; home = set-apart t name e (codes "parent_bus") n.parent_bus };
    }
  where
    n : NeverSet t
    n = never-set t

set-fewer : (b : Board) (n i : ℕ) (v : Val) (x : List ℕ × Slot) → slice_get (slots_at b n) i ≡ Some x → Unclaimed x.0 → Fewer false b (set n i v b)
unfolding set
set-fewer b n i v x at other =
    fewer-slots false b n (with_changed (with_val v) i) (λ r. refl) (λ r. refl) (λ r. refl) b
    (λ r q. less-set (is_a r.kind (codes "mem-dimm")) false v i r.slots x (at-record b n i x r at q) other.values (inr other.realized)) (fewer-none false b)

-- a link that is written

module _ (b : Board) (n i : ℕ) (own : List ℕ) (s left : Slot)
    (at : slice_get (slots_at b n) i ≡ Some (own, s)) (stays : emptied s ≡ Some left) (other : Unclaimed own) where
  link-dropped : Fewer false b (drop_slot b n i)
  link-dropped = fewer-drop false b b n i (spares-harmless b n i (own, s) at (inr other.links.memdev)) (fewer-none false b)

  pointed-fewer : (target : Option ℕ) → Fewer false b (pointed_at target n i (drop_slot b n i))
  unfolding point
  pointed-fewer None = link-dropped
  pointed-fewer (Some m) =
      fewer-slots false b n (with_changed (pointed m) i) (λ r. refl) (λ r. refl) (λ r. refl) (drop_slot b n i)
      (λ r e.
      less-pointed (is_a r.kind (codes "mem-dimm")) false m i r.slots (own, left)
      (sym (ap (λ (xs : Slots). slice_get xs i) (dropped-at b n i (own, s) at r e)) ∙ kept-slot i (slots_at b n) own s left at stays)
      other.links refl)
      link-dropped

  relinked-fewer : (target : Option ℕ) → Fewer false b (relinked b n i target)
  relinked-fewer target =
      let there : slot_at b n i ≡ Some s = ap (option_map (λ (x : List ℕ × Slot). x.1)) at in
      rw (relinked, there) (fewer-after false b (referent s) (pointed_at target n i (drop_slot b n i)) (pointed-fewer target))

write-fewer : (b : Board) (n : ℕ) (name : List ℕ) (v : Val) → Fewer false b (after_write b (write b n name v))
write-fewer b n name v = write-comes (Fewer false b) b (fewer-none false b) n name v (λ i t p kind e may.
    let other : Unclaimed name = set-other t name (may-set t name p e may) in
    record {
      value = λ old at type first is fits. set-fewer b n i v (name, plain old) at other;
      link = λ u s left link leaves at to holds is path target told. relinked-fewer b n i name s left at leaves other target;
    })

-- an object that goes

object-harmless : (id : List ℕ) (s : List ℕ × Slot) → is_object_named id s ≡ true → Harmless s
object-harmless id (name, plain v) e = inl refl
object-harmless id (name, child m) e = inl refl
object-harmless id (name, strong t target) e = absurd (let clash : false ≡ true = e in cc)
object-harmless id (name, weak t target) e = inl refl
object-harmless id (name, alias m property) e = inl refl

object_del-fewer : (b : Board) (id : List ℕ) → Fewer false b (object_del b id).board
object_del-fewer b id = deletion-comes (Fewer false b) b id (fewer-none false b) (λ i p.
    let f : Found (is_object_named id) (slots_at b OBJECTS_BIRTH) i = found-at (is_object_named id) i (slots_at b OBJECTS_BIRTH) p in
    fewer-let_go false b OBJECTS_BIRTH i b (spares-harmless b OBJECTS_BIRTH i f.entry f.at (object-harmless id f.entry f.passes)) (fewer-none false b))

-- one that lets go of its links, which is not realized

module _ (b : Board) (h : SoundDevices b) where
  dark-apart : (n : ℕ) → attached b n ≡ false → is_realized b n ≡ false
  dark-apart n away = go (is_realized b n) refl
    where
      go : (t : Bool) → is_realized b n ≡ t → is_realized b n ≡ false
      go true e =
          let device : is_of b (codes "device") n ≡ true =
          stands-device h.places.0 None (λ x. false) b h.places.1 n (h.places.1.only n e) in
          absurd (let clash : true ≡ false = sym e ∙ devices_say_lem.realized b h n device ∙ away in cc)
      go false e = e

  spares-dark : (n i : ℕ) → is_realized b n ≡ false → (c : Board) → Fewer false b c → Spares c n i
  spares-dark n i dark c less s e k kind lit q = absurd (go (record_of b n) refl)
    where
      go : (o : Option Record) → record_of b n ≡ o → ⊥
      go None p = let off : lit_in s.slots ≡ false = rw (p, e) at (less n) in absurd (let clash : true ≡ false = sym lit ∙ off in cc)
      go (Some r) p =
          let one : LessRecord false r s = rw (p, e) at (less n) in
          absurd (let clash : true ≡ false = sym (one.slots.lit lit) ∙ sym (realized-at b h.tree n r p) ∙ dark in cc)

  severed-fewer : (places i n : ℕ) → is_realized b n ≡ false → (c : Board) → Fewer false b c → Fewer false b (severed_from places i n c)
  severed-fewer places i n dark c k =
      severed-comes (Fewer false b) n (λ d j t target e less. fewer-let_go false b n j d (spares-dark n j dark d less) less) places i c k

  sever-fewer : (n : ℕ) → Fewer false b (sever b n).board
  sever-fewer n =
      sever-comes (Fewer false b) b n (fewer-none false b) (λ there away.
      fewer-unpin false b n (severed_from (length (slots_at b n)) 0 n (pin b n))
      (severed-fewer (length (slots_at b n)) 0 n (dark-apart n away) (pin b n) (fewer-pin false b n b (fewer-none false b))))

-- an object that is added is no device

abbrev Dark : List ℕ × Slot → Type 0
Dark s = bytes_eq s.0 (codes "realized") ≡ false

dark-lit : (xs : Slots) → AllByRecursion Dark xs → lit_in xs ≡ false
dark-lit [] h = refl
dark-lit (x ∷ xs) h = rw h.0 (dark-lit xs h.1)

created-dark : (t : TypeId) → is_a t (codes "user-creatable") ≡ true → AllByRecursion Dark (fresh_slots t)
unfolding types
created-dark = each (λ (t : TypeId). is_a t (codes "user-creatable") ≡ true → AllByRecursion Dark (fresh_slots t)) (search rules)

with_object-fewer : (b : Board) (t : TypeId) (id : List ℕ) (props : List Given) → AllByRecursion Dark (fresh_slots t)
    → Fewer false b (with_object b t id props)
with_object-fewer b t id props dark x =
    rw (found-append x (map (edited OBJECTS_BIRTH change) b.records) (made b t props ∷ []), found-edited OBJECTS_BIRTH change (λ r. refl) x b.records)
    (go (record_of b x) refl)
  where
    change : Record → Record
    change = with_added id (child (b.born + 1))

    at_record : (r : Record) (u : Bool) → (r.birth == OBJECTS_BIRTH) ≡ u → LessRecord false r (edited OBJECTS_BIRTH change r)
    at_record r true p =
        rw (edited, p)
        (record-slots false change (λ y. refl) (λ y. refl) r
        (less-added (is_a r.kind (codes "mem-dimm")) false id (child (b.born + 1)) refl (inl refl) (inl refl) r.slots))
    at_record r false p = rw (edited, p) (record-none false r)

    last : (u : Bool) → ((b.born + 1) == x) ≡ u → NearAt false None (found_at x (made b t props ∷ []))
    last true p = rw p (dark-lit (made b t props).slots (all-map Dark Dark (slot_given b props) (λ s k. k) (fresh_slots t) dark))
    last false p = rw p tt

    go : (o : Option Record) → record_of b x ≡ o → NearAt false o (option_or (option_map (edited OBJECTS_BIRTH change) o) (found_at x (made b t props ∷ [])))
    go None e = last ((b.born + 1) == x) refl
    go (Some r) e = at_record r (r.birth == OBJECTS_BIRTH) refl

added-fewer : (b : Board) (t : TypeId) (id : List ℕ) (props : List Given) → AllByRecursion Dark (fresh_slots t) → (o : Option Code)
    → Fewer false b (added_as b t id props o).board
added-fewer b t id props dark (Some code) = fewer-none false b
added-fewer b t id props dark None = with_object-fewer b t id props dark

object_add-fewer : (b : Board) (driver id : List ℕ) (props : List Given) → Fewer false b (object_add b driver id props).board
object_add-fewer b driver id props =
    addition-comes (Fewer false b) b driver id props (fewer-none false b)
    (λ row e o is. added-fewer b row.id id props (created-dark row.id (creatable b row id e)) o)

pub changed-fewer : (b : Board) → SoundDevices b → (change : Change) → Fewer false b (changed b change)
changed-fewer b h (added driver id props) = object_add-fewer b driver id props
changed-fewer b h (deleted id) = object_del-fewer b id
changed-fewer b h (wrote n name v) = write-fewer b n name v
changed-fewer b h (severed n) = sever-fewer b h n
