-- The steps by which a device is detached, each with what is known where it is taken: what these keep, detaching it keeps.
use Rattle.std.proofs.Common.{◌≡◌, refl, ap, sym, subst, ℕ, zero, suc, Bool, true, false, List, [], ◌∷◌, length, codes, slice_get, Option, Some, None}
use Rattle.qo_model.proofs.Common.{option_map, AllByRecursion, ANONYMOUS_BIRTH, PERIPHERAL_BIRTH, Unrealize, TypeId, Board, Slot, plain, child, strong, weak, alias, slots_at, slot_at, cut, set, with_changed, acted, device_period, by_depth, bus_of, buses_of, clock_of, kids_of, index_from, births, drop_slot, edit, pin, detach, disconnected, each, is_bus_child, is_child_slot, is_named, left_bus, left_parent, let_go_where, names_kid, set_named, take_slot, take_where, unheld, unnoticed, unrealize, unrealize_turn, unrealized_bus, unrealized_device, unseen, unseen_named}
use Rattle.std.proofs.lemmas.Slice.Eq.{bytes_eq-Decides}
use Rattle.qo_values.specs.declared.properties.Val.TheVariants as val
use Rattle.qo_model.proofs.FirstSlotLemmas.{Found, found-at}
use Rattle.qo_sound.proofs.DetachmentStepsLemmas.{KeepsEnds}
use Rattle.qo_sound.proofs.UnplugLemmas.{detached-keeps, kid-held}
use Rattle.qo_steps.proofs.NamedLemmas.{Named, set-by, unseen-by}
use Rattle.qo_steps.proofs.ReleasesLemmas.{KeepsPin, KeepsUnpin, let_go-by, unpin-by}

-- a device is unrealized with all that is below it: each acts, the clock of a device loses its source and stands still, it is not realized any more, and the
-- lists forget it
pub record UnrealizeSteps (P : Board → Type 0) (On : ℕ → Type 0) : Type 0 where
  pub acts : (n period : ℕ) (c : Board) → On n → P c → P (acted Unrealize n period c)
  pub unsees : (n i : ℕ) (c : Board) → Named c n i (codes "source") → P c → P (edit n (with_changed unseen i) c)
  pub stops : (n i : ℕ) (c : Board) → Named c n i (codes "period") → P c → P (set n i (val.Uint 0) c)
  pub darkens : (n i : ℕ) (c : Board) → Named c n i (codes "realized") → P c → P (set n i (val.Bool false) c)
  pub clears : (n : ℕ) (c : Board) → On n → P c → P (unheld n c)
  pub forgets : (d : ℕ) (c : Board) → On d → P c → P (unnoticed d c)

-- the slots that are let go as it is taken out: those of children, and the link to a bus
pub data Leaves : List ℕ × Slot → Type 0 where
  a_child : (name : List ℕ) (m : ℕ) → Leaves (name, child m)
  a_bus : (s : Slot) → Leaves (codes "parent_bus", s)

-- it is taken out: pins, slots that are let go, a bus that lets a kid go and loses the link, and what follows a slot or a pin that is let go
pub record LeaveSteps (P : Board → Type 0) : Type 0 where
  pub pins : KeepsPin P
  pub unpins : KeepsUnpin P
  pub empties : (n i : ℕ) (x : List ℕ × Slot) (c : Board) → slice_get (slots_at c n) i ≡ Some x → Leaves x → P c → P (drop_slot c n i)
  pub takes : (n i : ℕ) (own : List ℕ) (t : TypeId) (d : ℕ) (c : Board) → slice_get (slots_at c n) i ≡ Some (own, strong t (Some d)) → P c
      → P (cut n i (drop_slot c n i))
  pub ends : KeepsEnds P

-- whoever is below a device may act
pub record ActsBelow (On : ℕ → Type 0) (b : Board) : Type 0 where
  pub buses : (d : ℕ) → AllByRecursion On (buses_of b d)
  pub kids : (m : ℕ) → AllByRecursion On (kids_of b m)

module _ (P : Board → Type 0) (On : ℕ → Type 0) (k : UnrealizeSteps P On) where
  pub by-disconnected : (o : Option ℕ) (c : Board) → P c → P (disconnected o c)
  by-disconnected None c h = h
  by-disconnected (Some n) c h =
      let d : Board = unseen_named n (codes "source") c in
      let blind : P d = unseen-by P n (codes "source") c h (λ i at. k.unsees n i c at h) in
      set-by P n (codes "period") d blind (val.Uint 0) (λ i at. k.stops n i d at blind)

  by-device : (d : ℕ) → On d → (c : Board) → P c → P (unrealized_device d c)
  by-device d on c h =
      let one : Board = disconnected (clock_of c d) (acted Unrealize d (device_period c d) c) in
      let first : P one = by-disconnected (clock_of c d) _ (k.acts d (device_period c d) c on h) in
      let two : Board = set_named d (codes "realized") (val.Bool false) one in
      let second : P two = set-by P d (codes "realized") one first (val.Bool false) (λ i at. k.darkens d i one at first) in
      k.forgets d (unheld d two) on (k.clears d two on second)

  by-bus : (m : ℕ) → On m → (c : Board) → P c → P (unrealized_bus m c)
  by-bus m on c h = k.clears m (acted Unrealize m 0 c) on (k.acts m 0 c on h)

  by-each : (f : ℕ → Board → Board) → ((n : ℕ) → On n → (c : Board) → P c → P (f n c)) → (ns : List ℕ) → AllByRecursion On ns → (c : Board) → P c
      → P (each f ns c)
  by-each f keeps [] on c h = h
  by-each f keeps (n ∷ ns) on c h = by-each f keeps ns on.1 (f n c) (keeps n on.0 c h)

  module _ (b : Board) (below : ActsBelow On b) where
    by-turns : (depth d : ℕ) → On d → (c : Board) → P c → P (by_depth (unrealize_turn b) (λ d c. c) depth d c)
    by-turns zero d on c h = h
    by-turns (suc depth) d on c h = turn (by-turns depth)
      where
        turn : ((n : ℕ) → On n → (e : Board) → P e → P (by_depth (unrealize_turn b) (λ d c. c) depth n e))
            → P (by_depth (unrealize_turn b) (λ d c. c) (suc depth) d c)
        turn keeps =
            by-device d on _
            (by-each _ (λ m may e h. by-bus m may _ (by-each _ keeps (kids_of b m) (below.kids m) e h)) (buses_of b d) (below.buses d) c h)

    pub unrealize-by : (d : ℕ) → On d → P b → P (unrealize b d)
    unfolding unrealize
    unrealize-by d on h = by-turns (suc (length (births b))) d on b h

child-leaves : (d : ℕ) (s : List ℕ × Slot) → is_child_slot d s ≡ true → Leaves s
child-leaves d (name, plain v) e = cc
child-leaves d (name, child m) e = a_child name m
child-leaves d (name, strong t target) e = cc
child-leaves d (name, weak t target) e = cc
child-leaves d (name, alias m property) e = cc

bus-leaves : (m : ℕ) (s : List ℕ × Slot) → is_bus_child m s ≡ true → Leaves s
bus-leaves m (name, plain v) e = cc
bus-leaves m (name, child k) e = a_child name k
bus-leaves m (name, strong t target) e = cc
bus-leaves m (name, weak t target) e = cc
bus-leaves m (name, alias k property) e = cc

link-leaves : (s : List ℕ × Slot) → is_named (codes "parent_bus") s ≡ true → Leaves s
link-leaves s e = subst (λ (own : List ℕ). Leaves (own, s.1)) (sym ((bytes_eq-Decides s.0 (codes "parent_bus")).0 e)) (a_bus s.1)

module _ (P : Board → Type 0) (k : LeaveSteps P) where
  by-where : (p : List ℕ × Slot → Bool) → ((s : List ℕ × Slot) → p s ≡ true → Leaves s) → (n : ℕ) (c : Board) → P c → P (let_go_where p n c)
  by-where p leaves n c h = go (index_from p 0 (slots_at c n)) refl
    where
      go : (o : Option ℕ) → index_from p 0 (slots_at c n) ≡ o → P (let_go_where p n c)
      go None e = rw (let_go_where, e) h
      go (Some i) e =
          let f : Found p (slots_at c n) i = found-at p i (slots_at c n) e in
          rw (let_go_where, e) (let_go-by P k.ends n i c (λ s at. k.empties n i f.entry c f.at (leaves f.entry f.passes) h) h)

  by-take : (d n : ℕ) (c : Board) → P c → P (take_where (names_kid d) n c)
  by-take d n c h = go (index_from (names_kid d) 0 (slots_at c n)) refl
    where
      go : (o : Option ℕ) → index_from (names_kid d) 0 (slots_at c n) ≡ o → P (take_where (names_kid d) n c)
      go None e = rw (take_where, e) h
      go (Some i) e =
          let f : Found (names_kid d) (slots_at c n) i = found-at (names_kid d) i (slots_at c n) e in
          let (t, is) = kid-held d f.entry f.passes in
          let at : slice_get (slots_at c n) i ≡ Some (f.entry.0, strong t (Some d)) =
          subst (λ (s : Slot). slice_get (slots_at c n) i ≡ Some (f.entry.0, s)) is f.at in
          let there : slot_at c n i ≡ Some (strong t (Some d)) = ap (option_map (λ (x : List ℕ × Slot). x.1)) at in
          rw (take_where, e, take_slot, there) (k.ends (Some d) _ (k.takes n i f.entry.0 t d c at h))

  by-bus_left : (d : ℕ) (c : Board) → P c → P (left_bus d c)
  by-bus_left d c h = go (bus_of c d) refl
    where
      go : (o : Option ℕ) → bus_of c d ≡ o → P (left_bus d c)
      go None e = rw (left_bus, e) h
      go (Some m) e = rw (left_bus, e) (by-where (is_named (codes "parent_bus")) link-leaves d _ (by-take d m c h))

  by-parent_left : (d : ℕ) (c : Board) → P c → P (left_parent d c)
  by-parent_left d c h =
      by-where (is_child_slot d) (child-leaves d) ANONYMOUS_BIRTH _ (by-where (is_child_slot d) (child-leaves d) PERIPHERAL_BIRTH c h)

  -- one that was unrealized while it was held
  pub leave-by : (c : Board) (d : ℕ) → P (unrealize (pin c d) d) → P (detach c d)
  leave-by c d h = detached-keeps P (λ m. by-where (is_bus_child m) (bus-leaves m)) by-bus_left by-parent_left k.pins (unpin-by P k.unpins k.ends) c d h

-- the whole
pub detach-by : (P : Board → Type 0) (On : ℕ → Type 0) → UnrealizeSteps P On → LeaveSteps P → (b : Board) (d : ℕ) → On d → ActsBelow On (pin b d) → P b
    → P (detach b d)
detach-by P On unrealizes leaves b d on below h = leave-by P leaves b d (unrealize-by P On unrealizes (pin b d) below d on (leaves.pins d b h))
