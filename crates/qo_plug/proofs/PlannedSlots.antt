-- The slots of a device, with the values planned for them, one after another.
use Rattle.std.proofs.Common.{◌≡◌, refl, ap, sym, subst, ◌∙◌, ℕ, zero, suc, Bool, true, false, List, [], ◌∷◌, ◌++◌, length, map, slice_get, find, Option, Some, None, arith}
use Rattle.std.specs.List.{AllByRecursion, AllZip, IsDistinct}
use Rattle.std.specs.Str.{bytes_eq}
use Rattle.std.proofs.lemmas.Cmp.{nat_list_eq_equiv}
use Rattle.std.proofs.lemmas.Option.{same_Some}
use Rattle.qo_values.specs.declared.kinds.TypeId.{TypeId}
use Rattle.qo_values.specs.declared.properties.Val.{Val}
use Rattle.qo_slots.specs.declared.keys.Key.{Key}
use Rattle.qo_model.specs.Board as board
use Rattle.qo_model.specs.Board.{Board}
use Rattle.qo_model.specs.Changes.{add}
use Rattle.qo_model.specs.Objects.{Given}
use Rattle.qo_model.specs.Opening.{first_value}
use Rattle.qo_model.specs.Plug.{property_made}
use Rattle.qo_model.specs.declared.properties.PropertyRole.{PropertyRole}
use Rattle.qo_model.specs.declared.properties.PropertyRole.TheVariants as row
use Rattle.qo_object.specs.declared.slots.Slot.{Slot}
use Rattle.qo_object.specs.declared.slots.Slot.TheVariants.{Plain, Child, Link, Alias}
use Rattle.qo_object.specs.BoardObject.{shown_slot}
use Rattle.qo_object.specs.Slots.{Named, names_of}
use Rattle.qo_properties.specs.declared.adding.filling.InitialValue.{InitialValue}
use Rattle.qo_properties.specs.declared.adding.filling.InitialValue.TheVariants as fill
use Rattle.qo_properties.specs.Filling.{IsGiven, filled, filled_with, spent, spent_at, value_alone, value_at}
use Rattle.qo_properties.specs.NewSlots.{begun}
use Rattle.qo_properties.proofs.SlotsLemmas.{filled-end}
use Rattle.qo_plug.specs.Drafts.{HasPlanned, is_own}

-- a value alone fills a plain slot as the whole fill does, and leaves a link

pub alone-twice : (f : InitialValue) → value_alone (value_alone f) ≡ value_alone f
alone-twice fill.Default = refl
alone-twice (fill.Value v) = refl
alone-twice (fill.Target key) = refl

pub fills-plain : (f : InitialValue) (v : Val) → filled_with f (Plain v) ≡ filled_with (value_alone f) (Plain v)
fills-plain fill.Default v = refl
fills-plain (fill.Value u) v = refl
fills-plain (fill.Target key) v = refl

pub leaves-link : (f : InitialValue) (t : TypeId) (strong : Bool) (to : Option Key) → Link t strong to ≡ filled_with (value_alone f) (Link t strong to)
leaves-link fill.Default t strong to = refl
leaves-link (fill.Value u) t strong to = refl
leaves-link (fill.Target key) t strong to = refl

leaves-child : (f : InitialValue) (key : Key) → Child key ≡ filled_with (value_alone f) (Child key)
leaves-child fill.Default key = refl
leaves-child (fill.Value u) key = refl
leaves-child (fill.Target to) key = refl

leaves-alias : (f : InitialValue) (key : Key) (name : List ℕ) → Alias key name ≡ filled_with (value_alone f) (Alias key name)
leaves-alias fill.Default key name = refl
leaves-alias (fill.Value u) key name = refl
leaves-alias (fill.Target to) key name = refl

-- what is given for a slot is planned for it, as far as it is a value
pub given-planned : (b : Board) (props : List Given) (f : InitialValue) (s : Named) → IsGiven b props f s → HasPlanned b props f s
given-planned b props f (name, Plain v) is = ap (λ (x : board.Slot). (name, x)) (ap shown_slot (sym (fills-plain f v)) ∙ is)
given-planned b props f (name, Child key) is = ap (λ (x : Slot). (name, shown_slot x)) (sym (leaves-child f key))
given-planned b props f (name, Link t true to) is = ap (λ (x : Slot). (name, shown_slot x)) (sym (leaves-link f t true to))
given-planned b props f (name, Link t false to) is = ap (λ (x : Slot). (name, shown_slot x)) (sym (leaves-link f t false to))
given-planned b props f (name, Alias key of) is = ap (λ (x : Slot). (name, shown_slot x)) (sym (leaves-alias f key of))

-- what a property begins as is an own slot, also with its value, and the board's

pub begun-own : (t : TypeId) (role : PropertyRole) (f : InitialValue) (s : Slot) → begun t role ≡ Some s → is_own (filled_with (value_alone f) s) ≡ true
begun-own t role f s is = go role is
  where
    some : (x : Slot) → is_own (filled_with (value_alone f) x) ≡ true → Some x ≡ Some s → is_own (filled_with (value_alone f) s) ≡ true
    some x own same = subst (λ (y : Slot). is_own (filled_with (value_alone f) y) ≡ true) (same_Some x s same) own

    plain-own : (g : InitialValue) (v : Val) → is_own (filled_with (value_alone g) (Plain v)) ≡ true
    plain-own fill.Default v = refl
    plain-own (fill.Value u) v = refl
    plain-own (fill.Target key) v = refl

    go : (k : PropertyRole) → begun t k ≡ Some s → is_own (filled_with (value_alone f) s) ≡ true
    go (row.Plain type first) e = some (Plain (first_value t first)) (plain-own f (first_value t first)) e
    go (row.Link target strong) e = some (Link target strong None) (ap is_own (sym (leaves-link f target strong None))) e
    go (row.Child u) e = absurd (let clash : None ≡ Some s = e in cc)
    go (row.Alias owner of) e = absurd (let clash : None ≡ Some s = e in cc)

pub begun-made : (n : ℕ) (t : TypeId) (name : List ℕ) (role : PropertyRole) (s : Slot) → begun t role ≡ Some s → (c : Board)
    → property_made n t name role c ≡ add n name (shown_slot s) c
begun-made n t name role s is c = go role is
  where
    some : (x : Slot) → Some x ≡ Some s → add n name (shown_slot x) c ≡ add n name (shown_slot s) c
    some x same = ap (λ (y : Slot). add n name (shown_slot y) c) (same_Some x s same)

    go : (k : PropertyRole) → begun t k ≡ Some s → property_made n t name k c ≡ add n name (shown_slot s) c
    go (row.Plain type first) e = some (Plain (first_value t first)) e
    go (row.Link target true) e = some (Link target true None) e
    go (row.Link target false) e = some (Link target false None) e
    go (row.Child u) e = absurd (let clash : None ≡ Some s = e in cc)
    go (row.Alias owner of) e = absurd (let clash : None ≡ Some s = e in cc)

-- a plan whose first values were taken out

abbrev pub spent_until : ℕ → List InitialValue → List InitialValue
spent_until zero fs = fs
spent_until (suc i) [] = []
spent_until (suc i) (f ∷ fs) = spent f ∷ spent_until i fs

pub value-next : (i : ℕ) (fs : List InitialValue) → value_at i (spent_until i fs) ≡ value_at i fs
value-next zero fs = refl
value-next (suc i) [] = refl
value-next (suc i) (f ∷ fs) = value-next i fs

pub spent-next : (i : ℕ) (fs : List InitialValue) → spent_at i (spent_until i fs) ≡ spent_until (suc i) fs
spent-next zero [] = refl
spent-next zero (f ∷ fs) = refl
spent-next (suc i) [] = refl
spent-next (suc i) (f ∷ fs) = ap (λ (l : List InitialValue). spent f ∷ l) (spent-next i fs)

pub spent-all : (fs : List InitialValue) → spent_until (length fs) fs ≡ map spent fs
spent-all [] = refl
spent-all (f ∷ fs) = ap (λ (l : List InitialValue). spent f ∷ l) (spent-all fs)

pub value-got : (i : ℕ) (fs : List InitialValue) (f : InitialValue) → slice_get fs i ≡ Some f → value_at i fs ≡ value_alone f
value-got i [] f at = absurd (let clash : None ≡ Some f = at in cc)
value-got zero (g ∷ fs) f at = ap value_alone (same_Some g f at)
value-got (suc i) (g ∷ fs) f at = value-got i fs f at

-- a slot more, filled
pub filled-more : (fs : List InitialValue) (xs : List Named) (s : Named) (f : InitialValue) → slice_get fs (length xs) ≡ Some f
    → filled (map value_alone fs) (xs ++ s ∷ []) ≡ filled (map value_alone fs) xs ++ filled (value_alone f ∷ []) (s ∷ [])
filled-more [] xs s f at = absurd (let clash : None ≡ Some f = at in cc)
filled-more (g ∷ fs) [] s f at =
    ap (λ (l : List Named). (s.0, filled_with (value_alone g) s.1) ∷ l) (filled-end (map value_alone fs))
    ∙ ap (λ (h : InitialValue). (s.0, filled_with (value_alone h) s.1) ∷ []) (same_Some g f at)
filled-more (g ∷ fs) (x ∷ xs) s f at = ap (λ (l : List Named). (x.0, filled_with (value_alone g) x.1) ∷ l) (filled-more fs xs s f at)

-- what properties that are given plan, values alone
pub plan-planned : (b : Board) (props : List Given) (plan : List InitialValue) (slots : List Named) → AllZip (IsGiven b props) plan slots
    → AllZip (HasPlanned b props) plan slots
plan-planned b props [] [] all = tt
plan-planned b props [] (s ∷ slots) all = absurd all
plan-planned b props (f ∷ fs) [] all = absurd all
plan-planned b props (f ∷ fs) (s ∷ slots) all = (given-planned b props f s all.0, plan-planned b props fs slots all.1)

-- properties that give the values of a plan: with these, any plan is what is given, values alone
abbrev pub given_by : List InitialValue → List Named → List Given
given_by [] slots = []
given_by (f ∷ fs) [] = []
given_by (fill.Value v ∷ fs) (s ∷ slots) = (s.0, v) ∷ given_by fs slots
given_by (fill.Default ∷ fs) (s ∷ slots) = given_by fs slots
given_by (fill.Target key ∷ fs) (s ∷ slots) = given_by fs slots

abbrev Differs : List ℕ → List Named → Type 0
Differs name slots = AllByRecursion (λ (n : List ℕ). bytes_eq name n ≡ false) (names_of slots)

abbrev found_in : List ℕ → List Given → Option Given
found_in name props = find (λ (p : Given). bytes_eq p.0 name) props

none-given : (name : List ℕ) (fs : List InitialValue) (slots : List Named) → Differs name slots → found_in name (given_by fs slots) ≡ None
none-given name [] slots apart = refl
none-given name (f ∷ fs) [] apart = refl
none-given name (fill.Value v ∷ fs) (s ∷ slots) apart =
    let other : bytes_eq s.0 name ≡ false = nat_list_eq_equiv.symm s.0 name ∙ apart.0 in
    rw other (none-given name fs slots apart.1)
none-given name (fill.Default ∷ fs) (s ∷ slots) apart = none-given name fs slots apart.1
none-given name (fill.Target key ∷ fs) (s ∷ slots) apart = none-given name fs slots apart.1

-- what is given for another slot changes nothing here
planned-beside : (b : Board) (p : Given) (props : List Given) (f : InitialValue) (s : Named) → bytes_eq p.0 s.0 ≡ false → HasPlanned b props f s
    → HasPlanned b (p ∷ props) f s
planned-beside b p props f (name, Plain v) apart has = rw apart has
planned-beside b p props f (name, Child key) apart has = has
planned-beside b p props f (name, Link t true to) apart has = has
planned-beside b p props f (name, Link t false to) apart has = has
planned-beside b p props f (name, Alias key of) apart has = has

all-beside : (b : Board) (p : Given) (props : List Given) (fs : List InitialValue) (slots : List Named) → Differs p.0 slots
    → AllZip (HasPlanned b props) fs slots
    → AllZip (HasPlanned b (p ∷ props)) fs slots
all-beside b p props [] [] apart all = tt
all-beside b p props [] (s ∷ slots) apart all = absurd all
all-beside b p props (f ∷ fs) [] apart all = absurd all
all-beside b p props (f ∷ fs) (s ∷ slots) apart all =
    (planned-beside b p props f s apart.0 all.0, all-beside b p props fs slots apart.1 all.1)

-- where no value is planned, none is given
planned-none : (b : Board) (props : List Given) (s : Named) → found_in s.0 props ≡ None → HasPlanned b props fill.Default s
planned-none b props (name, Plain v) none = rw none refl
planned-none b props (name, Child key) none = refl
planned-none b props (name, Link t true to) none = refl
planned-none b props (name, Link t false to) none = refl
planned-none b props (name, Alias key of) none = refl

planned-own : (b : Board) (props : List Given) (v : Val) (s : Named) → HasPlanned b ((s.0, v) ∷ props) (fill.Value v) s
planned-own b props v (name, Plain old) = rw (nat_list_eq_equiv.refl name) refl
planned-own b props v (name, Child key) = refl
planned-own b props v (name, Link t true to) = refl
planned-own b props v (name, Link t false to) = refl
planned-own b props v (name, Alias key of) = refl

pub planned-by : (b : Board) (fs : List InitialValue) (slots : List Named) → IsDistinct bytes_eq (names_of slots) → length fs ≡ length slots
    → AllZip (HasPlanned b (given_by fs slots)) fs slots
unfolding IsDistinct
planned-by b [] [] apart long = tt
planned-by b [] (s ∷ slots) apart long = cc
planned-by b (f ∷ fs) [] apart long = cc
planned-by b (fill.Value v ∷ fs) (s ∷ slots) apart long = (
  planned-own b (given_by fs slots) v s,
  all-beside b (s.0, v) (given_by fs slots) fs slots apart.0 (planned-by b fs slots apart.1 (omega (arith, long))),
)
planned-by b (fill.Default ∷ fs) (s ∷ slots) apart long =
    (planned-none b (given_by fs slots) s (none-given s.0 fs slots apart.0), planned-by b fs slots apart.1 (omega (arith, long)))
planned-by b (fill.Target key ∷ fs) (s ∷ slots) apart long =
    (planned-none b (given_by fs slots) s (none-given s.0 fs slots apart.0), planned-by b fs slots apart.1 (omega (arith, long)))
