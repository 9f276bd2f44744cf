-- A new device that is joined to its container and its bus, and gets its values, its place and its source.
use Rattle.std.proofs.Common.{◌≡◌, refl, ap, ◌∙◌, ℕ, suc, ◌+◌, ◌<◌, ◌≤◌, Bool, true, false, List, ◌∷◌, map, find, codes, Option, Some, None, option_and_then, arith}
use Rattle.qo_model.proofs.Common.{if◌then◌else◌, option_map_or, bytes_eq, TypeId, Device, Bus, Clock, Val, Board, Record, Slot, plain, child, strong, weak, add, with_added, with_changed, with_val, child_named, kid_name, Given, given_to, index_from, slot_given, fresh_record, fresh_slots, is_of, Resources, Wanted, clocked, counted, fitted, joined, link_named, name_for, parent_for, valued, with_given, with_source, edit, edited, is_a, types, is_named, set_named}
use Rattle.qo_values.specs.declared.properties.Val.TheVariants as val
use Rattle.qo_model.proofs.FirstSlotLemmas.{named_in}
use Rattle.qo_sound.proofs.FirmBoardLemmas.{edited-kind}
use Rattle.qo_plain.specs.Plugged.{count_with, further_record, put}
use Rattle.qo_plain.proofs.StarLemmas.{High, Low, Slots, kid-slots, low-edited, made, old-of, own-slots, star, star-kid, star-link, star-old, star-own, star-set}

-- the slots that all devices begin with
abbrev pub head : Slot → Slot → Slot → Slot → Slots → Slots
head x0 x1 x2 x3 rest = (codes "type", x0) ∷ (codes "realized", x1) ∷ (codes "parent_bus", x2) ∷ (codes "slot", x3) ∷ rest

-- values that are given
module _ (b : Board) (props : List Given) where
  abbrev pub given : List ℕ → Slot → Slot
  given name s = (slot_given b props (name, s)).1

  abbrev by : Option Given → Slot → Slot
  by o s = elim o [ None ↦ s | Some p ↦ given_to b s p.1 ]

  pub given-set : (name : List ℕ) (w v : Val) → with_val v (given name (plain w)) ≡ plain v
  given-set name w v = go (find (λ (p : Given). bytes_eq p.0 name) props)
    where
      go : (o : Option Given) → with_val v (by o (plain w)) ≡ plain v
      go None = refl
      go (Some p) = refl

  pub given-child : (name : List ℕ) (m : ℕ) → given name (child m) ≡ child m
  given-child name m = go (find (λ (p : Given). bytes_eq p.0 name) props)
    where
      go : (o : Option Given) → by o (child m) ≡ child m
      go None = refl
      go (Some p) = refl

  given-none : (name : List ℕ) (s : Slot) → find (λ (p : Given). bytes_eq p.0 name) props ≡ None → given name s ≡ s
  given-none name s e = ap (λ (o : Option Given). by o s) e

-- a link to a bus
fitted-bus : (c : Board) (m : ℕ) → is_of c (codes "bus") m ≡ true → fitted c m (strong Bus None) ≡ strong Bus (Some m)
fitted-bus c m e = ap (λ (u : Bool). strong Bus (if u then Some m else None)) e

of-edited : (m : ℕ) (f : Record → Record) → ((r : Record) → (f r).birth ≡ r.birth) → ((r : Record) → (f r).kind ≡ r.kind)
    → (b : Board) (wanted : List ℕ) (x : ℕ)
    → is_of (edit m f b) wanted x ≡ is_of b wanted x
of-edited m f same_birth same_kind b wanted x =
    ap (λ (o : Option TypeId). option_map_or (λ (t : TypeId). is_a t wanted) o false) (edited-kind m f same_birth same_kind b x)

-- where the device stands
module _ (b : Board) (t : TypeId) (n : ℕ) (c : Board) (low : Low n c.records) (ks : List Record) (high : High n ks) where
  -- with its values
  pub valued-is : (props : List Given) (resources : Resources) → find (λ (p : Given). bytes_eq p.0 (codes "parent_bus")) props ≡ None
      → is_of c (codes "bus") resources.bus ≡ true
      → (x0 : Slot) (w1 w3 : Val) (rest : Slots)
      → valued b n props resources (star c (made n t (head x0 (plain w1) (strong Bus None) (plain w3) rest)) ks)
      ≡ star c
      (made n t
      (head (given b props (codes "type") x0) (plain (val.Bool true)) (strong Bus (Some resources.bus)) (plain (val.Uint resources.slot))
      (map (slot_given b props) rest)))
      ks
  valued-is props resources none is x0 w1 w3 rest =
      ap (λ (e : Board). set_named n (codes "realized") (val.Bool true) (link_named n (codes "parent_bus") resources.bus (set_named n (codes "slot") v3 e)))
      (star-own n c (made n t (head x0 (plain w1) (strong Bus None) (plain w3) rest)) refl low (with_given b props) ks high)
      ∙ ap (λ (e : Board). set_named n (codes "realized") (val.Bool true) (link_named n (codes "parent_bus") resources.bus e))
      (star-set n c d1 refl low (codes "slot") v3 3 ks high refl)
      ∙ ap (set_named n (codes "realized") (val.Bool true)) (star-link n c d2 refl low (codes "parent_bus") resources.bus 2 ks high refl)
      ∙ star-set n c d3 refl low (codes "realized") (val.Bool true) 1 ks high refl
      ∙ (λ j. star c (made n t (head g0 (one j) (two j) (three j) (map (slot_given b props) rest))) ks)
    where
      v3 : Val
      v3 = val.Uint resources.slot

      g0 : Slot
      g0 = given b props (codes "type") x0

      g1 : Slot
      g1 = given b props (codes "realized") (plain w1)

      g2 : Slot
      g2 = given b props (codes "parent_bus") (strong Bus None)

      g3 : Slot
      g3 = given b props (codes "slot") (plain w3)

      d1 : Record
      d1 = made n t (head g0 g1 g2 g3 (map (slot_given b props) rest))

      d2 : Record
      d2 = made n t (head g0 g1 g2 (with_val v3 g3) (map (slot_given b props) rest))

      d3 : Record
      d3 = made n t (head g0 g1 (fitted (star c d2 ks) resources.bus g2) (with_val v3 g3) (map (slot_given b props) rest))

      one : with_val (val.Bool true) g1 ≡ plain (val.Bool true)
      one = given-set b props (codes "realized") w1 (val.Bool true)

      two : fitted (star c d2 ks) resources.bus g2 ≡ strong Bus (Some resources.bus)
      two =
          ap (fitted (star c d2 ks) resources.bus) (given-none b props (codes "parent_bus") (strong Bus None) none)
          ∙ fitted-bus (star c d2 ks) resources.bus (old-of n c d2 refl low ks (codes "bus") resources.bus is)

      three : with_val v3 g3 ≡ plain v3
      three = given-set b props (codes "slot") w3 v3

  -- its further object that is a clock has its source
  pub clocked-none : (source : ℕ) (d : Record) → d.birth ≡ n → option_and_then child_named (named_in (codes "clk") d.slots) ≡ None
      → clocked source n (star c d ks) ≡ star c d ks
  clocked-none source d own e =
      ap (λ (o : Option ℕ). with_source source o (star c d ks))
      (ap (λ (xs : Slots). option_and_then child_named (named_in (codes "clk") xs)) (own-slots n c d own low ks) ∙ e)

source-place : index_from (is_named (codes "source")) 0 (fresh_slots Clock) ≡ Some 4
unfolding types
source-place = refl

clock-sourced : (c : Board) (source m : ℕ) → is_of c (codes "clock") source ≡ true
    → with_changed (fitted c source) 4 (fresh_record m Clock) ≡ further_record source (m, Clock)
unfolding types
clock-sourced c source m e =
    ap (λ (u : Bool). record (fresh_record m Clock) { slots = put (codes "source") (weak Clock (if u then Some source else None)) (fresh_slots Clock) }) e

pub clocked-is : (n : ℕ) (c : Board) → Low n c.records → (source : ℕ) (d : Record) → d.birth ≡ n → (ks : List Record) → High (suc n) ks
    → option_and_then child_named (named_in (codes "clk") d.slots) ≡ Some (suc n) → is_of c (codes "clock") source ≡ true
    → clocked source n (star c d (fresh_record (suc n) Clock ∷ ks)) ≡ star c d (further_record source (suc n, Clock) ∷ ks)
clocked-is n c low source d own ks high e is =
    ap (λ (o : Option ℕ). with_source source o before)
    (ap (λ (xs : Slots). option_and_then child_named (named_in (codes "clk") xs)) (own-slots n c d own low (k ∷ ks)) ∙ e)
    ∙ linked
    ∙ ap (λ (x : Record). star c d (x ∷ ks)) (clock-sourced before source (suc n) (old-of n c d own low (k ∷ ks) (codes "clock") source is))
  where
    k : Record
    k = fresh_record (suc n) Clock

    before : Board
    before = star c d (fresh_record (suc n) Clock ∷ ks)

    linked : link_named (suc n) (codes "source") source before ≡ star c d (with_changed (fitted before source) 4 k ∷ ks)
    linked =
        rw (link_named, ap (index_from (is_named (codes "source")) 0) (kid-slots n c d own low k ks refl) ∙ source-place)
        (star-kid n c d own low (with_changed (fitted before source) 4) k ks refl high)

-- what stands beside the device
pub parent-low : (k : ℕ) (o : Option (List ℕ)) → 8 ≤ k → parent_for o < k + 1
parent-low k None h = omega (arith, h)
parent-low k (Some id) h = omega (arith, h)

pub joined-star : (b : Board) (n : ℕ) (a : Wanted) (resources : Resources) (c : Board) (d : Record) → d.birth ≡ n → Low n c.records → (ks : List Record)
    → High n ks
    → parent_for a.id < n → resources.bus < n → joined b n a resources (star c d ks) ≡ star (joined b n a resources c) d ks
unfolding add
joined-star b n a resources c d own low ks high parent bus =
    ap (add resources.bus (kid_name resources.slot) (strong Device (Some n)))
    (star-old n c d own low (parent_for a.id) (with_added (name_for b a.id) (child n)) ks parent high)
    ∙ star-old n (edit (parent_for a.id) (with_added (name_for b a.id) (child n)) c) d own
    (low-edited n (parent_for a.id) (with_added (name_for b a.id) (child n)) (λ r. refl) c.records low) resources.bus
    (with_added (kid_name resources.slot) (strong Device (Some n))) ks bus high

pub joined-low : (b : Board) (n : ℕ) (a : Wanted) (resources : Resources) (c : Board) → Low n c.records → Low n (joined b n a resources c).records
unfolding add
joined-low b n a resources c low =
    low-edited n resources.bus (with_added (kid_name resources.slot) (strong Device (Some n))) (λ r. refl)
    (map (edited (parent_for a.id) (with_added (name_for b a.id) (child n))) c.records)
    (low-edited n (parent_for a.id) (with_added (name_for b a.id) (child n)) (λ r. refl) c.records low)

pub joined-of : (b : Board) (n : ℕ) (a : Wanted) (resources : Resources) (c : Board) (wanted : List ℕ) (x : ℕ) → is_of c wanted x ≡ true
    → is_of (joined b n a resources c) wanted x ≡ true
unfolding add
joined-of b n a resources c wanted x e =
    of-edited resources.bus (with_added (kid_name resources.slot) (strong Device (Some n))) (λ r. refl) (λ r. refl)
    (edit (parent_for a.id) (with_added (name_for b a.id) (child n)) c) wanted x
    ∙ of-edited (parent_for a.id) (with_added (name_for b a.id) (child n)) (λ r. refl) (λ r. refl) c wanted x
    ∙ e

pub counted-is : (id : Option (List ℕ)) (c : Board) → counted id c ≡ record c { anonymous = count_with id c.anonymous }
counted-is None c = refl
counted-is (Some id) c = refl
