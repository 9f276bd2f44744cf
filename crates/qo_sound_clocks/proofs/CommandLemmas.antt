-- The commands on objects change no clock: what they add is none, what they write is not a clock's, and what they let go may be one.
use Rattle.std.proofs.Common.{◌≡◌, refl, ap, sym, ◌∙◌, rules, ℕ, ◌+◌, Bool, true, false, ◌==◌, List, [], ◌∷◌, map, length, slice_get, Option, Some, None, option_map, codes}
use Rattle.qo_model.proofs.Common.{AllByRecursion, option_map_or, option_or, bytes_eq, OBJECTS_BIRTH, Code, TypeId, Val, Board, Record, Slot, plain, child, record_of, slot_at, slots_at, point, pointed, set, with_added, with_changed, with_val, Change, added, deleted, wrote, severed, after_write, changed, Given, added_as, object_add, object_del, sever, severed_from, with_object, fresh_slots, may_set, pointed_at, relinked, property_named, write, drop_slot, edited, emptied, pin, is_a, types}
use Rattle.qo_model.specs.declared.properties.Property.{Property}
use Rattle.std.proofs.lemmas.Slice.Eq.{bytes_eq-Decides}
use Rattle.qo_values.proofs.EachLemmas.{each}
use Rattle.qo_model.specs.Board.{referent}
use Rattle.qo_model.proofs.ComesToLemmas.{addition-comes, deletion-comes, sever-comes, severed-comes}
use Rattle.qo_model.proofs.FirstSlotLemmas.{slots_in}
use Rattle.qo_model.proofs.StepLemmas.{found-edited, found_at}
use Rattle.qo_sound.specs.TreeKept.{SoundTree}
use Rattle.qo_sound.proofs.AddLemmas.{creatable, made}
use Rattle.qo_sound.proofs.SearchLemmas.{found-append}
use Rattle.qo_sound.proofs.TreeKeptLemmas.{sound_kept_lem}
use Rattle.qo_sound.proofs.ReadLemmas.{dropped-at}
use Rattle.qo_sound.proofs.SlotLemmas.{kept-slot}
use Rattle.qo_model.proofs.WrittenLemmas.{write-comes}
use Rattle.qo_sound_clocks.proofs.DecreaseLemmas.{edit-less, Fewer, fewer-after, fewer-drop, fewer-edit, fewer-let_go, fewer-none, fewer-pin, fewer-unpin}
use Rattle.qo_sound_clocks.proofs.SlotLemmas.{Less, less-blank, less-added, less-none, less-pointed, less-set, OtherName, Slots}
use Rattle.qo_sound_clocks.proofs.QuietSlotLemmas.{Quiet, quiet-all_given, quiet-blank}
use Rattle.qo_sound_clocks.proofs.ReadLemmas.{tree-reads}
use Rattle.qo_sound_clocks.proofs.DependenceLemmas.{KeptByFewer}

-- no property of a clock is written by `qom-set` yet

abbrev pub MaySet : TypeId → List ℕ → Bool
MaySet t name = option_map_or (λ (p : Property). may_set p.access) (property_named t name) false

record NeverSet (t : TypeId) : Type 0 where
  period : MaySet t (codes "period") ≡ false
  mul : MaySet t (codes "mul") ≡ false
  div : MaySet t (codes "div") ≡ false
  source : MaySet t (codes "source") ≡ false

never-set : (t : TypeId) → NeverSet t
unfolding types
never-set = each (λ (t : TypeId). NeverSet t) (search rules)

-- what may be written is under no name that may not
pub set-apart : (t : TypeId) (name : List ℕ) → MaySet t name ≡ true → (other : List ℕ) → MaySet t other ≡ false → bytes_eq name other ≡ false
set-apart t name e other never = go (bytes_eq name other) refl
  where
    go : (u : Bool) → bytes_eq name other ≡ u → bytes_eq name other ≡ false
    go true p = absurd (let clash : true ≡ false = sym e ∙ ap (MaySet t) ((bytes_eq-Decides name other).0 p) ∙ never in cc)
    go false p = p

pub set-other : (t : TypeId) (name : List ℕ) → MaySet t name ≡ true → OtherName name
set-other t name e =
    record {
      period = set-apart t name e (codes "period") n.period;
      mul = set-apart t name e (codes "mul") n.mul;
      div = set-apart t name e (codes "div") n.div;
      source = set-apart t name e (codes "source") n.source;
    }
  where
    n : NeverSet t
    n = never-set t

-- the row of a property that may be set says so
pub may-set : (t : TypeId) (name : List ℕ) (p : Property) → property_named t name ≡ Some p → may_set p.access ≡ true → MaySet t name ≡ true
may-set t name p e may = ap (λ (o : Option Property). option_map_or (λ (x : Property). may_set x.access) o false) e ∙ may

-- the slot that is written

set-fewer : (b : Board) (n i : ℕ) (v : Val) (x : List ℕ × Slot) → slice_get (slots_at b n) i ≡ Some x → OtherName x.0 → Fewer b (set n i v b)
unfolding set
set-fewer b n i v x at other =
    edit-less n (with_changed (with_val v) i) (λ r. refl) b
    (λ r q. less-set v i r.slots x (sym (ap (λ (o : Option Record). slice_get (slots_in o) i) q) ∙ at) other)

-- a link that is written keeps its name

module _ (b : Board) (n i : ℕ) (own : List ℕ) (s left : Slot)
    (at : slice_get (slots_at b n) i ≡ Some (own, s)) (stays : emptied s ≡ Some left) (other : OtherName own) where
  pointed-fewer : (target : Option ℕ) → Fewer b (pointed_at target n i (drop_slot b n i))
  unfolding point
  pointed-fewer None = fewer-drop b b n i (fewer-none b)
  pointed-fewer (Some m) =
      fewer-edit b n (with_changed (pointed m) i) (λ r. refl) (drop_slot b n i)
      (λ r e.
      less-pointed m i r.slots (own, left)
      (sym (ap (λ (xs : Slots). slice_get xs i) (dropped-at b n i (own, s) at r e)) ∙ kept-slot i (slots_at b n) own s left at stays) other)
      (fewer-drop b b n i (fewer-none b))

  relinked-fewer : (target : Option ℕ) → Fewer b (relinked b n i target)
  relinked-fewer target =
      let there : slot_at b n i ≡ Some s = ap (option_map (λ (x : List ℕ × Slot). x.1)) at in
      rw (relinked, there) (fewer-after b (referent s) (pointed_at target n i (drop_slot b n i)) (pointed-fewer target))

write-fewer : (b : Board) (n : ℕ) (name : List ℕ) (v : Val) → Fewer b (after_write b (write b n name v))
write-fewer b n name v = write-comes (Fewer b) b (fewer-none b) n name v (λ i t p kind e may.
    let other : OtherName name = set-other t name (may-set t name p e may) in
    record {
      value = λ old at type first is fits. set-fewer b n i v (name, plain old) at other;
      link = λ u s left link leaves at to holds is path target told. relinked-fewer b n i name s left at leaves other target;
    })

-- an object that goes, and one that lets go of its links

object_del-fewer : (b : Board) (id : List ℕ) → Fewer b (object_del b id).board
object_del-fewer b id = deletion-comes (Fewer b) b id (fewer-none b) (λ i e. fewer-let_go b OBJECTS_BIRTH i b (fewer-none b))

severed-fewer : (b : Board) (places i n : ℕ) (c : Board) → Fewer b c → Fewer b (severed_from places i n c)
severed-fewer b places i n c h = severed-comes (Fewer b) n (λ d j t target e k. fewer-let_go b n j d k) places i c h

sever-fewer : (b : Board) (n : ℕ) → Fewer b (sever b n).board
sever-fewer b n =
    sever-comes (Fewer b) b n (fewer-none b) (λ there away.
    fewer-unpin b n (severed_from (length (slots_at b n)) 0 n (pin b n))
    (severed-fewer b (length (slots_at b n)) 0 n (pin b n) (fewer-pin b n b (fewer-none b))))

-- an object that is added is no clock

created-quiet : (t : TypeId) → is_a t (codes "user-creatable") ≡ true → AllByRecursion Quiet (fresh_slots t)
unfolding types
created-quiet = each (λ (t : TypeId). is_a t (codes "user-creatable") ≡ true → AllByRecursion Quiet (fresh_slots t)) (search rules)

with_object-fewer : (b : Board) (t : TypeId) (id : List ℕ) (props : List Given) → AllByRecursion Quiet (fresh_slots t) → Fewer b (with_object b t id props)
with_object-fewer b t id props quiet x =
    rw (found-append x (map (edited OBJECTS_BIRTH change) b.records) (made b t props ∷ []), found-edited OBJECTS_BIRTH change (λ r. refl) x b.records)
    (go (record_of b x) refl)
  where
    change : Record → Record
    change = with_added id (child (b.born + 1))

    at_record : (r : Record) (u : Bool) → (r.birth == OBJECTS_BIRTH) ≡ u → Less r.slots (edited OBJECTS_BIRTH change r).slots
    at_record r true p = rw (edited, p) (less-added id (child (b.born + 1)) refl refl r.slots)
    at_record r false p = rw (edited, p) (less-none r.slots)

    last : (u : Bool) → ((b.born + 1) == x) ≡ u → Less [] (slots_in (found_at x (made b t props ∷ [])))
    last true p = rw p (less-blank [] (made b t props).slots (quiet-blank (made b t props).slots (quiet-all_given b props (fresh_slots t) quiet)))
    last false p = rw p (less-none [])

    go : (o : Option Record) → record_of b x ≡ o
        → Less (slots_in o) (slots_in (option_or (option_map (edited OBJECTS_BIRTH change) o) (found_at x (made b t props ∷ []))))
    go None e = last ((b.born + 1) == x) refl
    go (Some r) e = at_record r (r.birth == OBJECTS_BIRTH) refl

added-fewer : (b : Board) (t : TypeId) (id : List ℕ) (props : List Given) → AllByRecursion Quiet (fresh_slots t) → (o : Option Code)
    → Fewer b (added_as b t id props o).board
added-fewer b t id props quiet (Some code) = fewer-none b
added-fewer b t id props quiet None = with_object-fewer b t id props quiet

object_add-fewer : (b : Board) (driver id : List ℕ) (props : List Given) → Fewer b (object_add b driver id props).board
object_add-fewer b driver id props =
    addition-comes (Fewer b) b driver id props (fewer-none b) (λ row e o is. added-fewer b row.id id props (created-quiet row.id (creatable b row id e)) o)

changed-fewer : (b : Board) (change : Change) → Fewer b (changed b change)
changed-fewer b (added driver id props) = object_add-fewer b driver id props
changed-fewer b (deleted id) = object_del-fewer b id
changed-fewer b (wrote n name v) = write-fewer b n name v
changed-fewer b (severed n) = sever-fewer b n

pub kept-change : (P : Board → Type 0) → KeptByFewer P → (b : Board) (change : Change) → SoundTree b → P b → P (changed b change)
kept-change P fewer b change tree h =
    fewer b (changed b change) (tree-reads b tree) (tree-reads (changed b change) (sound_kept_lem.change b change tree)) (changed-fewer b change) h
