-- The law: what a number that is written at a clock's path comes to.
use Rattle.std.proofs.Common.{◌≡◌, refl, ap, ◌∙◌, ℕ, ◌≤◌, ◌-◌, ◌%◌, ◌^◌, ◌==◌, nat_le, Bool, true, List, Option, Some, None, is_some, option_and_then, Ok, Err, codes, arith}
use Rattle.std.specs.Prelude.{Result}
use Rattle.std.proofs.lemmas.Bool.{eq-eqb, le-leb}
use Rattle.qo_model.proofs.Common.{if◌then◌else◌, admits, TypeId, Clock, PropType, Val, Code, E15, E16, E17, E19, Board, Slot, plain, kind_of, slot_named, canonical, Resolution, found, missing, several, clock_property_written, in_slot, led_by, led_to, number_written, object_at, only_set, own_property, property_named, set_property, set_row, uint64, up_to, write, types}
use Rattle.qo_values.specs.declared.properties.PropType.TheVariants as ty
use Rattle.qo_values.specs.declared.properties.Val.TheVariants as val
use Rattle.qo_model.specs.Types.{property}
use Rattle.qo_model.specs.declared.properties.Access.TheVariants.{Set}
use Rattle.qo_model.specs.declared.properties.First.TheVariants as first
use Rattle.qo_model.specs.declared.properties.Property.{Property}
use Rattle.qo_model.specs.declared.properties.PropertyName.{PropertyName}
use Rattle.qo_model.specs.declared.properties.PropertyName.TheVariants as prop
use Rattle.qo_model.specs.declared.properties.PropertyRole.TheVariants as row
use Rattle.qo_save.specs.Rebuilding.{set_number}
use Rattle.qo_sound_shapes.proofs.FactLemmas.{shapes_say_lem}
use Rattle.qo_ways.proofs.WaysLawLemmas.{ways_lem}
use Rattle.qo_good.specs.GoodBoards.{IsWhole}
use Rattle.qo_rebuilt.specs.NumbersTaken.{NumbersTakenLaw}

-- ---- rows of a clock

abbrev number_row : PropertyName → PropType → ℕ → Property
number_row name type at_first = property name (row.Plain type (first.Uint at_first)) Set

period-row : property_named Clock (codes "period") ≡ Some (number_row prop.Period uint64 0)
unfolding types
period-row = refl

mul-row : property_named Clock (codes "mul") ≡ Some (number_row prop.Mul (up_to 4294967295) 1)
unfolding types
mul-row = refl

div-row : property_named Clock (codes "div") ≡ Some (number_row prop.Div (up_to 4294967295) 1)
unfolding types
div-row = refl

-- a number as wide is taken
pub takes : (most n : ℕ) → n ≤ most → admits (ty.Uint 0 most 1) (val.Uint n) ≡ true
takes most n low =
    let first : nat_le 0 n ≡ true = le-leb 0 n (omega arith) in
    let last : nat_le n most ≡ true = le-leb n most low in
    let whole : (n % 1 == 0) ≡ true = eq-eqb (n % 1) 0 (omega arith) in
    rw (first, last, whole) refl

-- ---- a write at the path of a clock

abbrev pub at_of : Resolution → Result ℕ Code
at_of (found n) = Ok n
at_of missing = Err E15
at_of several = Err E16

abbrev pub set_at : Board → List ℕ → Val → Result ℕ Code → Result Board Code
set_at b name v (Ok n) = set_property b n name v
set_at b name v (Err code) = Err code

abbrev row_at : Board → ℕ → List ℕ → Option Slot → Result (ℕ × Property) Code
row_at b c name None = Err E17
row_at b c name (Some s) = in_slot c s (set_row b c name)

abbrev led_at : Board → ℕ → List ℕ → Option Slot → Result (ℕ × Property) Code
led_at b c name None = Err E17
led_at b c name (Some s) = led_by b c name s

module _ (b : Board) (c : ℕ) (path : List ℕ) (h : IsWhole b) (canon : canonical b c ≡ Some path) (kind : kind_of b c ≡ Some Clock) where
  at-path : object_at b path ≡ Ok c
  at-path =
      ap at_of (ways_lem.canonical_leads b h.order c path canon)

  module _ (name : List ℕ) (p : PropertyName) (type : PropType) (at_first : ℕ) (its : property_named Clock name ≡ Some (number_row p type at_first))
      (old : Val) (slot : slot_named b c name ≡ Some (plain old)) (n : ℕ) (fits : admits type (val.Uint n) ≡ true) where
    its-row : set_row b c name ≡ Some (number_row p type at_first)
    its-row =
        ap (option_and_then (λ (t : TypeId). option_and_then only_set (property_named t name))) kind ∙ ap (option_and_then only_set) its

    own-row : own_property b c name ≡ Ok (c, number_row p type at_first)
    own-row =
        ap (row_at b c name) slot ∙ ap (in_slot c (plain old)) its-row

    leads : led_to b c name ≡ Ok (c, number_row p type at_first)
    leads = ap (led_at b c name) slot ∙ own-row

    taken : set_number path name n b ≡ number_written b c p n
    taken =
        ap (set_at b name (val.Uint n)) at-path
        ∙ ap
        (λ (o : Option Property). if is_some o then clock_property_written b (val.Uint n) (led_to b c name) else write b c name (val.Uint n)) its-row
        ∙ ap (clock_property_written b (val.Uint n)) leads
        ∙ ap (λ (t : Bool). if t then number_written b c p n else Err E19) fits

pub numbers_taken_lem : NumbersTakenLaw
numbers_taken_lem =
    record {
      div = λ b c path n h canon kind low.
          let all = shapes_say_lem.clock b h.order.shape c kind in
          let (old, slot) = all.1.1.0 in
          taken b c path h canon kind (codes "div") prop.Div (up_to 4294967295) 1 div-row (val.Uint old) slot n (takes 4294967295 n (omega (arith, low)));
      mul = λ b c path n h canon kind low.
          let all = shapes_say_lem.clock b h.order.shape c kind in
          let (old, slot) = all.1.0 in
          taken b c path h canon kind (codes "mul") prop.Mul (up_to 4294967295) 1 mul-row (val.Uint old) slot n (takes 4294967295 n (omega (arith, low)));
      period = λ b c path n h canon kind low.
          let all = shapes_say_lem.clock b h.order.shape c kind in
          let (old, slot) = all.0 in
          taken b c path h canon kind (codes "period") prop.Period uint64 0 period-row (val.Uint old) slot n
          (takes (2 ^ 64 - 1) n (omega (arith, low)));
    }
