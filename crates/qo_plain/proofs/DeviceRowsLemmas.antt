-- What the properties of each type of device come to.
use Rattle.std.proofs.Common.{rules, ◌≡◌, ◌⊎◌, inl, inr, refl, ap, sym, subst, ◌∙◌, ℕ, suc, ◌<◌, true, false, List, [], ◌∷◌, map, drop, codes, Option, Some, None, option_and_then, arith}
use Rattle.qo_model.proofs.Common.{type_name, fresh_registers, E18, TypeId, Device, MemDimm, Bus, Clock, MemoryBackend, Val, Range, Board, Record, Slot, plain, child, strong, weak, child_named, Given, index_from, refusal_by, slot_given, fresh_record, slots_with, is_of, addressed_at, born_from, clocked, further_of, registers_on, property_named, is_a, slots_of, types, is_named}
use Rattle.qo_values.specs.declared.properties.Val.TheVariants as val
use Rattle.qo_values.proofs.EachLemmas.{each}
use Rattle.qo_model.proofs.FirstSlotLemmas.{named_in}
use Rattle.qo_plain.specs.Plugged.{at_address, birth_in, further_record, placed_slots, put}
use Rattle.qo_plain.proofs.StarLemmas.{High, Low, Slots, grow, grow_after, grown, kids_after, kinds_of, made, slots_after, star, star-set, star-unset}
use Rattle.qo_plain.proofs.StandingLemmas.{clocked-is, clocked-none, given, given-child, given-set, head}

-- a device as it stands
abbrev pub body_with : ℕ → TypeId → Option (List ℕ) → Option Range → Slots → Record
body_with n t id range ss =
    record { birth = n; kind = t; slots = ss; registers = registers_on range (fresh_registers t); device_id = id; kept_path = None }

-- what the rows of a type come to
pub record Rowed (n : ℕ) (t : TypeId) : Type 0 where
  pub text : Slot
  pub rest : Slots
  pub kids : List Record
  pub high : High n kids
  pub slots_are : slots_after t (slots_of t) [] (suc n) ≡ head text (plain (val.Bool false)) (strong Bus None) (plain val.Nothing) rest
  pub begun_are : slots_with (birth_in (suc n) (further_of t)) t ≡ head text (plain (val.Bool false)) (strong Bus None) (plain val.Nothing) rest
  pub kids_are : kids_after (slots_of t) [] (suc n) ≡ kids
  pub no_bus : (b : Board) (v : Val) → refusal_by b (property_named t (codes "parent_bus")) v ≡ Some E18
  pub grows : (b : Board) → grow_after (slots_of t) (grow t b) ≡ grown (kinds_of t) (grow t b)
  -- at an address
  pub addressed : (b : Board) (props : List Given) (c : Board) → Low n c.records → (range : Option Range) (x0 x1 x2 x3 : Slot)
      → addressed_at n range (star c (made n t (head x0 x1 x2 x3 (map (slot_given b props) rest))) kids)
      ≡ star c (made n t (head x0 x1 x2 x3 (at_address range (map (slot_given b props) rest)))) kids
  -- in its place
  pub placed : (b : Board) (props : List Given) (bus slot : ℕ) (range : Option Range) (x0 x1 x2 x3 : Slot)
      → placed_slots (record { bus = bus; slot = slot; range = range }) (head x0 x1 x2 x3 (map (slot_given b props) rest))
      ≡ head x0 (plain (val.Bool true)) (strong Bus (Some bus)) (plain (val.Uint slot)) (at_address range (map (slot_given b props) rest))
  -- with a source
  pub fed : (b : Board) (props : List Given) (c : Board) → Low n c.records → (source : ℕ) → is_of c (codes "clock") source ≡ true
      → (id : Option (List ℕ)) (range : Option Range) (x0 x1 x2 x3 : Slot)
      → clocked source n (star c (body_with n t id range (head x0 x1 x2 x3 (at_address range (map (slot_given b props) rest)))) kids)
      ≡ star c (body_with n t id range (head x0 x1 x2 x3 (at_address range (map (slot_given b props) rest))))
      (map (further_record source) (born_from (suc n) (kinds_of t)))

-- what has no address
addressed-away : (n : ℕ) (t : TypeId) (c : Board) → Low n c.records → (ks : List Record) (x0 x1 x2 x3 : Slot) (rest : Slots)
    → index_from (is_named (codes "addr")) 4 rest ≡ None → ((s : Slot) → put (codes "addr") s rest ≡ rest) → (range : Option Range)
    → addressed_at n range (star c (made n t (head x0 x1 x2 x3 rest)) ks) ≡ star c (made n t (head x0 x1 x2 x3 (at_address range rest))) ks
addressed-away n t c low ks x0 x1 x2 x3 rest none away None = refl
addressed-away n t c low ks x0 x1 x2 x3 rest none away (Some r) =
    star-unset n c (made n t (head x0 x1 x2 x3 rest)) refl low (codes "addr") (val.Uint r.at) ks none
    ∙ ap (λ (ss : Slots). star c (made n t (head x0 x1 x2 x3 ss)) ks) (sym (away (plain (val.Uint r.at))))

-- What the rows come to, from the table of types: a device's own slots after the first four, and its further objects.

abbrev rest_of : ℕ → TypeId → Slots
rest_of n t = drop 4 (slots_after t (slots_of t) [] (suc n))

abbrev kids_of : ℕ → TypeId → List Record
kids_of n t = kids_after (slots_of t) [] (suc n)

abbrev text_of : TypeId → Slot
text_of t = plain (val.Text (type_name t))

abbrev first_slots : ℕ → TypeId → Slots
first_slots n t = head (text_of t) (plain (val.Bool false)) (strong Bus None) (plain val.Nothing) (rest_of n t)

-- how it begins
record Begins (n : ℕ) (t : TypeId) : Type 0 where
  high : High n (kids_of n t)
  slots_are : slots_after t (slots_of t) [] (suc n) ≡ first_slots n t
  begun_are : slots_with (birth_in (suc n) (further_of t)) t ≡ first_slots n t
  no_bus : (b : Board) (v : Val) → refusal_by b (property_named t (codes "parent_bus")) v ≡ Some E18
  grows : (b : Board) → grow_after (slots_of t) (grow t b) ≡ grown (kinds_of t) (grow t b)

above : (n : ℕ) → n < suc n
above n = omega arith

further_above : (n : ℕ) → n < suc (suc n)
further_above n = omega arith

begins : (n : ℕ) (t : TypeId) → is_a t (codes "device") ≡ true → Begins n t
unfolding types
begins n = each (λ (t : TypeId). is_a t (codes "device") ≡ true → Begins n t) (search (rules, above, further_above))

-- At an address: a DIMM has one, and any other device has no property of this name.

abbrev Addressed : ℕ → TypeId → Type 0
Addressed n t =
    (b : Board) (props : List Given) (c : Board) → Low n c.records → (range : Option Range) (x0 x1 x2 x3 : Slot)
    → addressed_at n range (star c (made n t (head x0 x1 x2 x3 (map (slot_given b props) (rest_of n t)))) (kids_of n t))
    ≡ star c (made n t (head x0 x1 x2 x3 (at_address range (map (slot_given b props) (rest_of n t))))) (kids_of n t)

record Away (n : ℕ) (t : TypeId) (b : Board) (props : List Given) : Type 0 where
  none : index_from (is_named (codes "addr")) 4 (map (slot_given b props) (rest_of n t)) ≡ None
  away : (s : Slot) → put (codes "addr") s (map (slot_given b props) (rest_of n t)) ≡ map (slot_given b props) (rest_of n t)

abbrev HasAddress : ℕ → TypeId → Type 0
HasAddress n t = is_a t (codes "device") ≡ true → (t ≡ MemDimm) ⊎ ((b : Board) (props : List Given) → Away n t b props)

has_address : (n : ℕ) (t : TypeId) → HasAddress n t
unfolding types
has_address n = each (HasAddress n) (search rules)

abbrev dimm_rest : Slots
dimm_rest =
    (codes "peer", strong Device None) ∷ (codes "watch", weak Device None) ∷ (codes "memdev", strong MemoryBackend None) ∷ (codes "addr", plain val.Nothing)
    ∷ []

dimm-addressed : (n : ℕ) → Addressed n MemDimm
unfolding types
dimm-addressed n b props c low None x0 x1 x2 x3 = refl
dimm-addressed n b props c low (Some r) x0 x1 x2 x3 =
    star-set n c (made n MemDimm (head x0 x1 x2 x3 (map (slot_given b props) dimm_rest))) refl low (codes "addr") (val.Uint r.at) 7 [] tt refl
    ∙ ap
    (λ (s : Slot).
    star c
    (made n MemDimm
    (head x0 x1 x2 x3
    (slot_given b props (codes "peer", strong Device None) ∷ slot_given b props (codes "watch", weak Device None)
    ∷ slot_given b props (codes "memdev", strong MemoryBackend None) ∷ (codes "addr", s) ∷ [])))
    [])
    (given-set b props (codes "addr") val.Nothing (val.Uint r.at))

addressed : (n : ℕ) (t : TypeId) → is_a t (codes "device") ≡ true → Addressed n t
addressed n t device = go (has_address n t device)
  where
    go : (t ≡ MemDimm) ⊎ ((b : Board) (props : List Given) → Away n t b props) → Addressed n t
    go (inl is) = subst (Addressed n) (sym is) (dimm-addressed n)
    go (inr away) = λ b props c low range x0 x1 x2 x3.
        addressed-away n t c low (kids_of n t) x0 x1 x2 x3 (map (slot_given b props) (rest_of n t)) (away b props).none (away b props).away range

-- In its place.

abbrev set_slots : ℕ → TypeId → Board → List Given → Option Range → Slots
set_slots n t b props range = at_address range (map (slot_given b props) (rest_of n t))

abbrev IsPlacedAt : ℕ → TypeId → Option Range → Type 0
IsPlacedAt n t range =
    (b : Board) (props : List Given) (bus slot : ℕ) (x0 x1 x2 x3 : Slot)
    → placed_slots (record { bus = bus; slot = slot; range = range }) (head x0 x1 x2 x3 (map (slot_given b props) (rest_of n t)))
    ≡ head x0 (plain (val.Bool true)) (strong Bus (Some bus)) (plain (val.Uint slot)) (set_slots n t b props range)

placed-nowhere : (n : ℕ) (t : TypeId) → is_a t (codes "device") ≡ true → IsPlacedAt n t None
unfolding types
placed-nowhere n = each (λ (t : TypeId). is_a t (codes "device") ≡ true → IsPlacedAt n t None) (search rules)

placed-at : (n : ℕ) (r : Range) (t : TypeId) → is_a t (codes "device") ≡ true → IsPlacedAt n t (Some r)
unfolding types
placed-at n r = each (λ (t : TypeId). is_a t (codes "device") ≡ true → IsPlacedAt n t (Some r)) (search rules)

placed : (n : ℕ) (t : TypeId) → is_a t (codes "device") ≡ true → (range : Option Range) → IsPlacedAt n t range
placed n t device None = placed-nowhere n t device
placed n t device (Some r) = placed-at n r t device

-- With a source: its first further object is a clock, or it has none.

abbrev clock_in : ℕ → TypeId → Board → List Given → Option Range → Slot → Slot → Slot → Slot → Option ℕ
clock_in n t b props range x0 x1 x2 x3 = option_and_then child_named (named_in (codes "clk") (head x0 x1 x2 x3 (set_slots n t b props range)))

record Clocked (n : ℕ) (t : TypeId) : Type 0 where
  kids_are : kids_of n t ≡ fresh_record (suc n) Clock ∷ drop 1 (kids_of n t)
  high : High (suc n) (drop 1 (kids_of n t))
  further : (source : ℕ) → map (further_record source) (born_from (suc n) (kinds_of t)) ≡ further_record source (suc n, Clock) ∷ drop 1 (kids_of n t)
  nowhere : (b : Board) (props : List Given) (x0 x1 x2 x3 : Slot) → clock_in n t b props None x0 x1 x2 x3 ≡ Some (suc n)
  at : (b : Board) (props : List Given) (r : Range) (x0 x1 x2 x3 : Slot) → clock_in n t b props (Some r) x0 x1 x2 x3 ≡ Some (suc n)

record Clockless (n : ℕ) (t : TypeId) : Type 0 where
  kids_are : kids_of n t ≡ []
  further : (source : ℕ) → map (further_record source) (born_from (suc n) (kinds_of t)) ≡ []
  nowhere : (b : Board) (props : List Given) (x0 x1 x2 x3 : Slot) → clock_in n t b props None x0 x1 x2 x3 ≡ None
  at : (b : Board) (props : List Given) (r : Range) (x0 x1 x2 x3 : Slot) → clock_in n t b props (Some r) x0 x1 x2 x3 ≡ None

given-clock : (b : Board) (props : List Given) (m : ℕ) → child_named (given b props (codes "clk") (child m)) ≡ Some m
given-clock b props m = ap child_named (given-child b props (codes "clk") m)

abbrev HasClock : ℕ → TypeId → Type 0
HasClock n t = is_a t (codes "device") ≡ true → Clockless n t ⊎ Clocked n t

has_clock : (n : ℕ) (t : TypeId) → HasClock n t
unfolding types
has_clock n = each (HasClock n) (search (rules, above, given-clock))

fed : (n : ℕ) (t : TypeId) → is_a t (codes "device") ≡ true → High n (kids_of n t) → (b : Board) (props : List Given) (c : Board) → Low n c.records
    → (source : ℕ) → is_of c (codes "clock") source ≡ true → (id : Option (List ℕ)) (range : Option Range) (x0 x1 x2 x3 : Slot)
    → clocked source n (star c (body_with n t id range (head x0 x1 x2 x3 (set_slots n t b props range))) (kids_of n t))
    ≡ star c (body_with n t id range (head x0 x1 x2 x3 (set_slots n t b props range))) (map (further_record source) (born_from (suc n) (kinds_of t)))
fed n t device high b props c low source is id range x0 x1 x2 x3 = go (has_clock n t device)
  where
    body : Record
    body = body_with n t id range (head x0 x1 x2 x3 (set_slots n t b props range))

    none : (range : Option Range) → Clockless n t → clock_in n t b props range x0 x1 x2 x3 ≡ None
    none None k = k.nowhere b props x0 x1 x2 x3
    none (Some r) k = k.at b props r x0 x1 x2 x3

    own : (range : Option Range) → Clocked n t → clock_in n t b props range x0 x1 x2 x3 ≡ Some (suc n)
    own None k = k.nowhere b props x0 x1 x2 x3
    own (Some r) k = k.at b props r x0 x1 x2 x3

    go : Clockless n t ⊎ Clocked n t
        → clocked source n (star c body (kids_of n t)) ≡ star c body (map (further_record source) (born_from (suc n) (kinds_of t)))
    go (inl k) =
        clocked-none b t n c low (kids_of n t) high source body refl (none range k)
        ∙ ap (λ (ks : List Record). star c body ks) (k.kids_are ∙ sym (k.further source))
    go (inr k) =
        ap (λ (ks : List Record). clocked source n (star c body ks)) k.kids_are
        ∙ clocked-is n c low source body refl (drop 1 (kids_of n t)) k.high (own range k) is
        ∙ ap (λ (ks : List Record). star c body ks) (sym (k.further source))

pub rows : (n : ℕ) (t : TypeId) → is_a t (codes "device") ≡ true → Rowed n t
rows n t device =
    let k : Begins n t = begins n t device in
    record {
      text = text_of t;
      rest = rest_of n t;
      kids = kids_of n t;
      high = k.high;
      slots_are = k.slots_are;
      begun_are = k.begun_are;
      kids_are = refl;
      no_bus = k.no_bus;
      grows = k.grows;
      addressed = addressed n t device;
      placed = λ b props bus slot range x0 x1 x2 x3. placed n t device range b props bus slot x0 x1 x2 x3;
      fed = λ b props c low source is id range x0 x1 x2 x3. fed n t device k.high b props c low source is id range x0 x1 x2 x3;
    }
