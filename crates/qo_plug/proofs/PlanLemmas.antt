-- What a plan says of the place of a device.
use Rattle.std.proofs.Common.{rules, ◌≡◌, refl, ap, sym, subst, ◌∙◌, ℕ, true, false, List, [], codes, find, Option, Some, None, option_map, Result, Ok, Err, Bor}
use Rattle.std.specs.Prelude.{IfSome, option_and_then, unwrap_or}
use Rattle.std.specs.Str.{bytes_eq}
use Rattle.qo_values.specs.declared.codes.Code.{Code}
use Rattle.qo_values.specs.declared.kinds.TypeId.{TypeId}
use Rattle.qo_values.specs.declared.kinds.TypeId.TheVariants.{SlotUart, MemDimm, MemoryBackend}
use Rattle.qo_values.specs.declared.properties.Val.{Val}
use Rattle.qo_values.specs.declared.properties.Val.TheVariants as val
use Rattle.qo_values.proofs.EachLemmas.{each}
use Rattle.qo_model.specs.Board as board
use Rattle.qo_model.specs.Devices.{number_in, text_in}
use Rattle.qo_model.specs.Objects.{Given, given_to, target_given}
use Rattle.qo_model.specs.Plug.{number_for, target_for, text_for}
use Rattle.qo_model.specs.Properties.{link_target}
use Rattle.qo_model.specs.Types.{is_a, types}
use Rattle.qo_object.specs.BoardObject.{birth_of, shown_slot}
use Rattle.qo_object.specs.declared.slots.Slot.TheVariants.{Link, Plain}
use Rattle.qo_properties.specs.declared.adding.filling.InitialValue.{InitialValue}
use Rattle.qo_properties.specs.declared.adding.filling.InitialValue.TheVariants as fill
use Rattle.qo_properties.specs.Filling.{filled_with, target_in}
use Rattle.qo_properties.specs.Plans.{TellsGiven, own_slot_for}
use Rattle.qo_properties.specs.Planning.{TellsRefusal}
use Rattle.qo_properties.specs.declared.refusals.Refusal.{Refusal}
use Rattle.qo_properties.specs.declared.refusals.Refusal.TheVariants.{Refused}
use Rattle.qo_slots.specs.declared.keys.Key.{Key}
use Rattle.qo_plug.specs.DevicePlans.{number_filled, text_filled}

-- the slots of devices that are asked for, as they begin

pub slot-begins : (t : TypeId) → is_a t (codes "device") ≡ true → own_slot_for t (codes "slot") ≡ Some (codes "slot", Plain val.Nothing)
unfolding types
slot-begins = each (λ (t : TypeId). is_a t (codes "device") ≡ true → own_slot_for t (codes "slot") ≡ Some (codes "slot", Plain val.Nothing)) (search rules)

addr-begins : own_slot_for MemDimm (codes "addr") ≡ Some (codes "addr", Plain val.Nothing)
unfolding types
addr-begins = refl

memdev-begins : own_slot_for MemDimm (codes "memdev") ≡ Some (codes "memdev", Link MemoryBackend true None)
unfolding types
memdev-begins = refl

chardev-begins : own_slot_for SlotUart (codes "chardev") ≡ Some (codes "chardev", Plain (val.Text []))
unfolding types
chardev-begins = refl

-- what a slot shows

abbrev number_shown : board.Slot → Option ℕ
number_shown (board.plain v) = number_in v
number_shown s = None

abbrev text_shown : board.Slot → List ℕ
text_shown (board.plain v) = unwrap_or (text_in v) []
text_shown s = []

abbrev target_shown : board.Slot → Option ℕ
target_shown (board.strong t target) = target
target_shown s = None

module _ (b : board.Board) (props : List Given) where
  -- by what is given for it, if it is
  abbrev shown_by : board.Slot → Option Given → board.Slot
  shown_by s o = elim o [ None ↦ s | Some p ↦ given_to b s p.1 ]

  number-shown : (f : InitialValue) → number_shown (shown_slot (filled_with f (Plain val.Nothing))) ≡ number_filled f
  number-shown fill.Default = refl
  number-shown (fill.Value v) = refl
  number-shown (fill.Target key) = refl

  number-by : (o : Option Given) → number_shown (shown_by (board.plain val.Nothing) o) ≡ option_and_then number_in (option_map (λ (p : Given). p.1) o)
  number-by None = refl
  number-by (Some p) = refl

  number-told : (name : List ℕ) (o : Option InitialValue) → TellsGiven b props o (Some (name, Plain val.Nothing))
      → option_and_then number_filled o ≡ number_for props name
  number-told name None told = absurd told
  number-told name (Some f) told =
      sym (number-shown f) ∙ ap number_shown told ∙ number-by (find (λ (p : Given). bytes_eq p.0 name) props)

  text-shown : (f : InitialValue) → text_shown (shown_slot (filled_with f (Plain (val.Text [])))) ≡ unwrap_or (text_filled f) []
  text-shown fill.Default = refl
  text-shown (fill.Value v) = refl
  text-shown (fill.Target key) = refl

  text-by : (o : Option Given)
      → text_shown (shown_by (board.plain (val.Text [])) o) ≡ unwrap_or (option_and_then text_in (option_map (λ (p : Given). p.1) o)) []
  text-by None = refl
  text-by (Some p) = refl

  text-told : (name : List ℕ) (o : Option InitialValue) → TellsGiven b props o (Some (name, Plain (val.Text [])))
      → unwrap_or (option_and_then text_filled o) [] ≡ text_for props name
  text-told name None told = absurd told
  text-told name (Some f) told = sym (text-shown f) ∙ ap text_shown told ∙ text-by (find (λ (p : Given). bytes_eq p.0 name) props)

  module _ (t : TypeId) where
    target-shown : (f : InitialValue) → target_shown (shown_slot (filled_with f (Link t true None))) ≡ birth_of (target_in f)
    target-shown fill.Default = refl
    target-shown (fill.Value v) = refl
    target-shown (fill.Target key) = refl

    abbrev named_by : Result (Option ℕ) Code → Option ℕ
    named_by r = elim r [ Ok target ↦ target | Err code ↦ None ]

    target-named : (r : Result (Option ℕ) Code) → target_given r ≡ named_by r
    target-named (Ok target) = refl
    target-named (Err code) = refl

    target-val : (v : Val) → target_shown (given_to b (board.strong t None) v) ≡ named_by (link_target b t (unwrap_or (text_in v) []))
    target-val (val.Text path) = target-named (link_target b t path)
    target-val val.Nothing = refl
    target-val (val.Bool truth) = refl
    target-val (val.Int n) = refl
    target-val (val.Uint n) = refl

    target-by : (o : Option Given) → target_shown (shown_by (board.strong t None) o)
        ≡ named_by (link_target b t (unwrap_or (option_and_then text_in (option_map (λ (p : Given). p.1) o)) []))
    target-by None = refl
    target-by (Some p) = target-val p.1

    target-told : (name : List ℕ) (o : Option InitialValue) → TellsGiven b props o (Some (name, Link t true None))
        → birth_of (option_and_then target_in o) ≡ target_for b t props name
    target-told name None told = absurd told
    target-told name (Some f) told = sym (target-shown f) ∙ ap target_shown told ∙ target-by (find (λ (p : Given). bytes_eq p.0 name) props)

  -- of the slots that are asked for
  module _ (t : TypeId) (o : Option InitialValue) where
    pub slot-told : is_a t (codes "device") ≡ true → TellsGiven b props o (own_slot_for t (codes "slot"))
        → option_and_then number_filled o ≡ number_for props (codes "slot")
    slot-told device told = number-told (codes "slot") o (rw (slot-begins t device) at told)

    pub addr-told : t ≡ MemDimm → TellsGiven b props o (own_slot_for t (codes "addr")) → option_and_then number_filled o ≡ number_for props (codes "addr")
    addr-told dimm told = number-told (codes "addr") o (rw (dimm, addr-begins) at told)

    pub chardev-told : t ≡ SlotUart → TellsGiven b props o (own_slot_for t (codes "chardev"))
        → unwrap_or (option_and_then text_filled o) [] ≡ text_for props (codes "chardev")
    chardev-told uart told = text-told (codes "chardev") o (rw (uart, chardev-begins) at told)

    pub memdev-told : t ≡ MemDimm → TellsGiven b props o (own_slot_for t (codes "memdev"))
        → birth_of (option_and_then target_in o) ≡ target_for b MemoryBackend props (codes "memdev")
    memdev-told dimm told = target-told MemoryBackend (codes "memdev") o (rw (dimm, memdev-begins) at told)

-- a target that is asked for is one that the plan names
pub target-lives : (P : Key → Type 0) (o : Option (Bor InitialValue)) → IfSome o (λ (f : Bor InitialValue). IfSome (target_in f.now) P)
    → IfSome (option_and_then target_in (option_map (λ (f : Bor InitialValue). f.now) o)) P
target-lives P None h = tt
target-lives P (Some f) h = h

-- what refuses a plan
pub plan-refused : (T : Type 0) (o : Option Code) (r : Refusal) (code : Code) → r ≡ Refused code → TellsRefusal {T = T} (Err r) o → Some code ≡ o
plan-refused T o r code is h = sym (subst (λ (x : Refusal). TellsRefusal {T = T} (Err x) o) is h)
