-- Objects whose plain values are told as they are: what the changes of one object keep, and what objects begin with.
use Rattle.std.proofs.Common.{◌≡◌, refl, ap, sym, ◌∙◌, rules, ℕ, zero, suc, ◌^◌, Bool, true, false, nat_lt, List, [], ◌∷◌, find, map, Option, Some, None, arith}
use Rattle.std.specs.Char.{is_ascii}
use Rattle.std.specs.List.{list_all}
use Rattle.std.specs.Str.{IsAscii}
use Rattle.std.specs.Prelude.{remove}
use Rattle.qo_model.proofs.Common.{AllByRecursion, Contains, bytes_eq, TypeId, Val, Board, Record, Slot, plain, child, strong, weak, alias, changed_at, fitted, pointed, with_val, Given, fresh_slots, first_value, given_to, slot_given, forgotten_in, without_hold, slots_of, types, unseen}
use Rattle.std.proofs.lemmas.Bool.Decides.{nat_tests}
use Rattle.std.proofs.lemmas.List.Elements.{All-contains, All-from_recursion}
use Rattle.std.proofs.lemmas.Str.{IsUtf8-from_ascii}
use Rattle.qo_values.specs.declared.properties.PropType.{PropType}
use Rattle.qo_values.specs.declared.properties.Val.TheVariants as val
use Rattle.qo_values.proofs.EachLemmas.{each}
use Rattle.qo_values.proofs.ListLemmas.{all-imply, found-has}
use Rattle.qo_model.specs.declared.properties.First.{First}
use Rattle.qo_model.specs.declared.properties.Property.{Property}
use Rattle.qo_model.specs.declared.properties.PropertyRole.{PropertyRole}
use Rattle.qo_model.specs.declared.properties.PropertyRole.TheVariants as row
use Rattle.qo_sound.proofs.RecordLemmas.{all-map}
use Rattle.qo_sound_order.specs.SoundValues.{AllTold, HoldsTold, IsTold}
use Rattle.qo_sound_order.proofs.ObjectLemmas.{KeepsFact}

abbrev pub Tells : List ℕ × Slot → Type 0
Tells s = HoldsTold s.1

-- an object whose values are
abbrev pub Told : Record → Type 0
Told r = AllByRecursion Tells r.slots

-- a slot that is let go, and one that is removed
dropped-told : (i : ℕ) (slots : List (List ℕ × Slot)) → AllByRecursion Tells slots → AllByRecursion Tells (without_hold i slots)
dropped-told i [] h = tt
dropped-told (suc i) (s ∷ slots) h = (h.0, dropped-told i slots h.1)
dropped-told zero ((name, plain v) ∷ slots) h = h
dropped-told zero ((name, child m) ∷ slots) h = h.1
dropped-told zero ((name, strong t target) ∷ slots) h = h
dropped-told zero ((name, weak t target) ∷ slots) h = h
dropped-told zero ((name, alias m property) ∷ slots) h = h

removed-told : (i : ℕ) (slots : List (List ℕ × Slot)) → AllByRecursion Tells slots → AllByRecursion Tells (remove slots i)
removed-told zero [] h = tt
removed-told (suc i) [] h = tt
removed-told zero (s ∷ slots) h = h.1
removed-told (suc i) (s ∷ slots) h = (h.0, removed-told i slots h.1)

-- one that is changed
pub changed-told : (g : Slot → Slot) → ((s : Slot) → HoldsTold s → HoldsTold (g s)) → (i : ℕ) (slots : List (List ℕ × Slot)) → AllByRecursion Tells slots
    → AllByRecursion Tells (changed_at g i slots)
changed-told g keeps i [] h = tt
changed-told g keeps zero (s ∷ slots) h = (keeps s.1 h.0, h.1)
changed-told g keeps (suc i) (s ∷ slots) h = (h.0, changed-told g keeps i slots h.1)

val-told : (v : Val) → IsTold v → (s : Slot) → HoldsTold s → HoldsTold (with_val v s)
val-told v told (plain w) h = told
val-told v told (child m) h = h
val-told v told (strong t target) h = h
val-told v told (weak t target) h = h
val-told v told (alias m property) h = h

unseen-told : (s : Slot) → HoldsTold s → HoldsTold (unseen s)
unseen-told (plain w) h = h
unseen-told (child m) h = h
unseen-told (strong t target) h = h
unseen-told (weak t target) h = h
unseen-told (alias m property) h = h

pub pointed-told : (m : ℕ) (s : Slot) → HoldsTold s → HoldsTold (pointed m s)
pointed-told m (plain w) h = h
pointed-told m (child k) h = h
pointed-told m (strong t target) h = h
pointed-told m (weak t target) h = h
pointed-told m (alias k property) h = h

pub fitted-told : (b : Board) (m : ℕ) (s : Slot) → HoldsTold s → HoldsTold (fitted b m s)
fitted-told b m (plain w) h = h
fitted-told b m (child k) h = h
fitted-told b m (strong t None) h = h
fitted-told b m (strong t (Some k)) h = h
fitted-told b m (weak t None) h = h
fitted-told b m (weak t (Some k)) h = h
fitted-told b m (alias k property) h = h

forgotten-told : (n : ℕ) (s : Slot) → HoldsTold s → HoldsTold (forgotten_in n s)
forgotten-told n (plain w) h = h
forgotten-told n (child m) h = h
forgotten-told n (strong t target) h = h
forgotten-told n (weak t None) h = h
forgotten-told n (weak t (Some m)) h = h
forgotten-told n (alias m property) h = h

pub told-keeps : KeepsFact IsTold Told
told-keeps =
    record {
      drops = λ i r h. dropped-told i r.slots h;
      cuts = λ i r h. removed-told i r.slots h;
      sets = λ v told i r h. changed-told (with_val v) (val-told v told) i r.slots h;
      unsees = λ i r h. changed-told unseen unseen-told i r.slots h;
      forgets = λ n r h.
          all-map Tells Tells (λ (s : List ℕ × Slot). (s.0, forgotten_in n s.1)) (λ s k. forgotten-told n s.1 k) r.slots h;
      body = λ registers r h. h;
      zero = omega arith;
      off = tt;
    }

-- the values that are given
given-told : (b : Board) (s : Slot) (v : Val) → IsTold v → HoldsTold s → HoldsTold (given_to b s v)
given-told b (plain old) v told h = told
given-told b (child m) v told h = h
given-told b (strong t target) (val.Text path) told h = tt
given-told b (strong t target) (val.Bool v) told h = tt
given-told b (strong t target) (val.Int v) told h = tt
given-told b (strong t target) (val.Uint v) told h = tt
given-told b (strong t target) val.Nothing told h = tt
given-told b (weak t target) (val.Text path) told h = tt
given-told b (weak t target) (val.Bool v) told h = tt
given-told b (weak t target) (val.Int v) told h = tt
given-told b (weak t target) (val.Uint v) told h = tt
given-told b (weak t target) val.Nothing told h = tt
given-told b (alias m property) v told h = h

slot-told : (b : Board) (props : List Given) → AllTold props → (s : List ℕ × Slot) → Tells s → Tells (slot_given b props s)
slot-told b props told s h = go (find (λ (p : Given). bytes_eq p.0 s.0) props) refl
  where
    go : (o : Option Given) → find (λ (p : Given). bytes_eq p.0 s.0) props ≡ o → Tells (slot_given b props s)
    go None e = rw (slot_given, e) h
    go (Some p) e = rw (slot_given, e) (given-told b s.1 p.1 (found-has (λ (p : Given). IsTold p.1) (λ (p : Given). bytes_eq p.0 s.0) props p told e) h)

pub slots-told : (b : Board) (props : List Given) → AllTold props → (slots : List (List ℕ × Slot)) → AllByRecursion Tells slots
    → AllByRecursion Tells (map (slot_given b props) slots)
slots-told b props told slots h = all-map Tells Tells (slot_given b props) (slot-told b props told) slots h

-- what objects begin with, by a test that computes
ascii-is : (bytes : List ℕ) → list_all is_ascii bytes ≡ true → IsAscii bytes
ascii-is [] all i = omega arith
ascii-is (byte ∷ bytes) all zero = grind (arith, nat_tests)
ascii-is (byte ∷ bytes) all (suc i) = ascii-is bytes (grind (arith, nat_tests)) i

abbrev is_plain : Val → Bool
is_plain (val.Bool b) = true
is_plain (val.Uint n) = nat_lt n (2 ^ 64)
is_plain (val.Int z) = false
is_plain (val.Text text) = list_all is_ascii text
is_plain val.Nothing = true

plain-told : (v : Val) → is_plain v ≡ true → IsTold v
plain-told (val.Bool b) e = tt
plain-told (val.Uint n) e = grind (arith, nat_tests)
plain-told (val.Int z) e = absurd (let clash : false ≡ true = e in cc)
plain-told (val.Text text) e = IsUtf8-from_ascii text (ascii-is text e)
plain-told val.Nothing e = tt

abbrev pub slot_plain : List ℕ × Slot → Bool
slot_plain (name, plain v) = is_plain v
slot_plain s = true

pub slot-plain : (s : List ℕ × Slot) → slot_plain s ≡ true → Tells s
slot-plain (name, plain v) e = plain-told v e
slot-plain (name, child m) e = tt
slot-plain (name, strong t target) e = tt
slot-plain (name, weak t target) e = tt
slot-plain (name, alias m property) e = tt

fresh-plain : (t : TypeId) → AllByRecursion (λ (s : List ℕ × Slot). slot_plain s ≡ true) (fresh_slots t)
unfolding types
fresh-plain = each (λ (t : TypeId). AllByRecursion (λ (s : List ℕ × Slot). slot_plain s ≡ true) (fresh_slots t)) (search rules)

pub fresh-told : (t : TypeId) → AllByRecursion Tells (fresh_slots t)
fresh-told t = all-imply (λ (s : List ℕ × Slot). slot_plain s ≡ true) Tells slot-plain (fresh_slots t) (fresh-plain t)

abbrev role_plain : TypeId → PropertyRole → Bool
role_plain t (row.Plain type first) = is_plain (first_value t first)
role_plain t kind = true

rows-plain : (t : TypeId) → AllByRecursion (λ (p : Property). role_plain t p.role ≡ true) (slots_of t)
unfolding types
rows-plain = each (λ (t : TypeId). AllByRecursion (λ (p : Property). role_plain t p.role ≡ true) (slots_of t)) (search rules)

pub first-told : (t : TypeId) (p : Property) → Contains (slots_of t) p → (type : PropType) (first : First) → p.role ≡ row.Plain type first
    → IsTold (first_value t first)
first-told t p own type first e =
    let test : role_plain t p.role ≡ true =
    All-contains (λ (p : Property). role_plain t p.role ≡ true) (slots_of t) p
    (All-from_recursion (λ (p : Property). role_plain t p.role ≡ true) (slots_of t) (rows-plain t)) own in
    plain-told (first_value t first) (sym (ap (role_plain t) e) ∙ test)
