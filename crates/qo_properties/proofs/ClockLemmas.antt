-- What is written to the clocks of the board, and read of them, by its heap.
use Rattle.std.proofs.Common.{◌≡◌, refl, ap, sym, ◌∙◌, ℕ, true, false, cond, List, find, codes, Option, None, Some, is_some, option_map, OnOk, OnErr, Result, Ok, Err}
use Rattle.std.specs.Option.{option_and_then}
use Rattle.std.specs.Str.{bytes_eq}
use Rattle.qo_values.specs.declared.codes.Code.{Code}
use Rattle.qo_values.specs.declared.codes.Code.TheVariants.{E17, E18}
use Rattle.qo_values.specs.declared.kinds.TypeId.{TypeId}
use Rattle.qo_values.specs.declared.properties.Val.{Val}
use Rattle.qo_values.specs.declared.properties.Val.TheVariants as val
use Rattle.qo_slots.specs.declared.keys.Key.{Key}
use Rattle.qo_object.specs.declared.slots.Slot.{Slot}
use Rattle.qo_object.specs.declared.slots.Slot.TheVariants.{Plain, Child, Link, Alias}
use Rattle.qo_object.specs.Content.{Content}
use Rattle.qo_object.specs.BoardObject.{birth_of, shown_slot}
use Rattle.qo_object.specs.Slots.{Named, with_val}
use Rattle.qo_model.specs.Board as board
use Rattle.qo_model.specs.ClockProperties.{in_slot, is_set, led_by, led_to, only_set, own_property, set_row}
use Rattle.qo_model.specs.Clocks.{derived_period, period, source_of}
use Rattle.qo_model.specs.Properties.{property_named}
use Rattle.qo_model.specs.declared.properties.Access.{Access}
use Rattle.qo_model.specs.declared.properties.Access.TheVariants as access
use Rattle.qo_model.specs.declared.properties.Property.{Property}
use Rattle.qo_heap.specs.Acts.{Acts}
use Rattle.qo_heap.specs.Board.{Shows, pins_in}
use Rattle.qo_heap.specs.Objects.{Objects, content_of, slots_of}
use Rattle.qo_heap.proofs.ActsLemmas.{acts-none}
use Rattle.qo_heap.proofs.ActsReads.{acts-pins}
use Rattle.qo_heap.proofs.BoardReads.{shows-kind}
use Rattle.qo_clocks.specs.declared.errors.ClockError.{ClockError}
use Rattle.qo_clocks.specs.Links.{changed_named, index_on, with_slot_changed}
use Rattle.qo_clocks.specs.Reads.{source_on}
use Rattle.qo_clocks.specs.Writes.{Answers, with_period, with_scale}
use Rattle.qo_clocks.proofs.KeptBoards.{clocked-acts}
use Rattle.qo_clocks.proofs.ReadLemmas.{shows-source}
use Rattle.qo_properties.specs.KeptPeriods.{KeepsClocks}
use Rattle.qo_properties.specs.ClockWrites.{refused_as}
use Rattle.qo_properties.specs.Writes.{Writes}
use Rattle.qo_properties.proofs.PinLemmas.{edited-pins}
use Rattle.qo_properties.proofs.ReadLemmas.{named-gone, named-is}

-- the row of a property that `qom-set` alone writes

pub row-is : (b : board.Board) (v : Objects) → Shows b v → (n : ℕ) (name : List ℕ) (kind : TypeId) (o : Option Property)
    → option_map (λ (c : Content). c.kind) (content_of v n) ≡ Some kind → o ≡ property_named kind name → option_and_then only_set o ≡ set_row b n name
row-is b v s n name kind o is found =
    ap (option_and_then only_set) found
    ∙ sym (ap (option_and_then (λ (t : TypeId). option_and_then only_set (property_named t name))) (shows-kind b v s n ∙ is))

pub only-set : (p : Property) → p.access ≡ access.Set → only_set p ≡ Some p
only-set p is = ap (λ (m : Access). cond (is_set m) (Some p) None) is

pub only-none : (p : Property) → (p.access ≡ access.Set → ⊥) → only_set p ≡ None
only-none p other = go p.access other
  where
    go : (m : Access) → (m ≡ access.Set → ⊥) → cond (is_set m) (Some p) None ≡ None
    go access.Set h = absurd (h refl)
    go access.Never h = refl
    go access.Add h = refl
    go access.Both h = refl

-- the property that a name leads to

abbrev slot_or : (board.Slot → Result (ℕ × Property) Code) → Option board.Slot → Result (ℕ × Property) Code
slot_or f o = elim o [ None ↦ Err E17 | Some s ↦ f s ]

module _ (b : board.Board) (v : Objects) (s : Shows b v) (n : ℕ) (name : List ℕ) where
  shown_at : (o : Option Named) → o ≡ find (λ (t : Named). bytes_eq name t.0) (slots_of v n)
      → board.slot_named b n name ≡ option_map shown_slot (option_map (λ (t : Named). t.1) o)
  shown_at o e = named-is b v s n name o e

  pub own-is : (o : Option Named) → o ≡ find (λ (t : Named). bytes_eq name t.0) (slots_of v n)
      → own_property b n name ≡ slot_or (λ x. in_slot n x (set_row b n name)) (option_map shown_slot (option_map (λ (t : Named). t.1) o))
  own-is o e = ap (slot_or (λ x. in_slot n x (set_row b n name))) (shown_at o e)

  pub led-is : (o : Option Named) → o ≡ find (λ (t : Named). bytes_eq name t.0) (slots_of v n)
      → led_to b n name ≡ slot_or (led_by b n name) (option_map shown_slot (option_map (λ (t : Named). t.1) o))
  led-is o e = ap (slot_or (led_by b n name)) (shown_at o e)

pub own-gone : (b : board.Board) (v : Objects) → Shows b v → (n : ℕ) (name : List ℕ) → content_of v n ≡ None → own_property b n name ≡ Err E17
own-gone b v s n name gone = ap (slot_or (λ x. in_slot n x (set_row b n name))) (named-gone b v s n name gone)

pub in-other : (n : ℕ) (x : Slot) (o : Option Property) → ((old : Val) → x ≡ Plain old → ⊥) → in_slot n (shown_slot x) o ≡ Err E18
in-other n (Plain old) o other = absurd (other old refl)
in-other n (Child key) o other = refl
in-other n (Link ty true target) o other = refl
in-other n (Link ty false target) o other = refl
in-other n (Alias key of) o other = refl

pub led-own : (b : board.Board) (n : ℕ) (name : List ℕ) (x : Slot) → ((key : Key) (of : List ℕ) → x ≡ Alias key of → ⊥)
    → led_by b n name (shown_slot x) ≡ own_property b n name
led-own b n name (Plain old) other = refl
led-own b n name (Child key) other = refl
led-own b n name (Link ty true target) other = refl
led-own b n name (Link ty false target) other = refl
led-own b n name (Alias key of) other = absurd (other key of refl)

-- what the calls on clocks answer

pub clock-writes : {T : Type 0} (v : Objects) (r : Result T ClockError) (given : Result board.Board Code) → Answers v r given → Writes v (refused_as r) given
clock-writes v (Ok done) (Ok b) h = (b, refl, h)
clock-writes v (Err e) (Err code) h = ap (λ (k : Code). Err k) (sym h)
clock-writes v (Ok done) (Err code) h = absurd h
clock-writes v (Err e) (Ok b) h = absurd h

-- what is not written leaves the clocks
pub same-clocks : (v : Objects) → KeepsClocks v v
same-clocks v b s k x t = clocked-acts b x v v s t (acts-none v) k.fits k.none_round k.kept

-- the same pins

named-pins : (v : Objects) (n : ℕ) (name : List ℕ) (change : Slot → Slot) → pins_in (changed_named n name change v).rows ≡ pins_in v.rows
named-pins v n name change = go (index_on v n name) refl
  where
    go : (o : Option ℕ) → index_on v n name ≡ o → pins_in (changed_named n name change v).rows ≡ pins_in v.rows
    go None e = rw (changed_named, e) refl
    go (Some i) e = rw (changed_named, e) (edited-pins v _ n (with_slot_changed change i) (λ c. refl) refl)

pub clock-pins : {T : Type 0} (v w x : Objects) (r : Result T ClockError) → pins_in x.rows ≡ pins_in v.rows → OnOk r (Acts x w) → OnErr r (w ≡ v)
    → pins_in w.rows ≡ pins_in v.rows
clock-pins v w x (Ok done) same acts err = acts-pins x w acts ∙ same
clock-pins v w x (Err e) same acts err = ap (λ (y : Objects). pins_in y.rows) err

pub period-pins : (v : Objects) (c period : ℕ) → pins_in (with_period c period v).rows ≡ pins_in v.rows
period-pins v c period = named-pins v c (codes "period") (with_val (val.Uint period))

pub scale-pins : (v : Objects) (c mul div : ℕ) → pins_in (with_scale c mul div v).rows ≡ pins_in v.rows
scale-pins v c mul div =
    named-pins (changed_named c (codes "mul") (with_val (val.Uint mul)) v) c (codes "div") (with_val (val.Uint div))
    ∙ named-pins v c (codes "mul") (with_val (val.Uint mul))

-- what is read of a clock with a source

pub derived-is : (b : board.Board) (v : Objects) → Shows b v → (n : ℕ) (o : Option Key) → o ≡ source_on v n
    → derived_period b n ≡ option_map (λ (k : ℕ). period b n) (birth_of o)
derived-is b v s n o e = ap (option_map (λ (k : ℕ). period b n)) (shows-source b v s n ∙ ap birth_of (sym e))

pub source-there : (b : board.Board) (v : Objects) → Shows b v → (n : ℕ) (key : Key) → Some key ≡ source_on v n → is_some (source_of b n) ≡ true
source-there b v s n key e = ap is_some (shows-source b v s n ∙ ap birth_of (sym e))
