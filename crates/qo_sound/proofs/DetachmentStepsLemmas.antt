-- What each small step of a detachment keeps, a detachment keeps.
use Rattle.std.proofs.Common.{nat_eq, ◌≡◌, refl, ℕ, zero, suc, Bool, true, false, not, ◌==◌, List, [], ◌∷◌, filter, length, codes, Option, Some, None}
use Rattle.qo_model.proofs.Common.{AllByRecursion, list_any, ANONYMOUS_BIRTH, PERIPHERAL_BIRTH, Unrealize, Board, Notice, Slot, slots_at, slot_at, cut, with_cut, device_period, by_depth, bus_of, buses_of, clock_of, kids_of, index_from, births, after, drop_slot, finalize, let_go, pin, put_in_order, unpin, with_dropped, without_first, detach, each, is_bus_child, is_child_slot, is_named, left_bus, left_parent, let_go_where, names_kid, take_slot, take_where, unheld, unnoticed, unrealize, unrealize_turn, unrealized_bus, unrealized_device, without_all}
use Rattle.qo_values.specs.declared.properties.Val.TheVariants as val
use Rattle.qo_model.specs.Board.{referent, Removal}
use Rattle.qo_model.specs.Unplug.{without_removal}
use Rattle.qo_sound.proofs.AdditionStepsLemmas.{KeepsActs, KeepsEdits, step-set, step-disconnected}
use Rattle.qo_sound.proofs.UnplugLemmas.{detached-keeps}

-- other holds, pending removals and notices keep P
abbrev pub KeepsLists : (Board → Type 0) → Type 0
KeepsLists P = (holds : List ℕ) (pending : List Removal) (notices : List Notice) (c : Board) → P c
    → P (record c { holds = holds; pending = pending; notices = notices })

-- other pins, and what follows a slot or a pin that is let go, keep P
abbrev pub KeepsPins : (Board → Type 0) → Type 0
KeepsPins P = (pins : List ℕ) (c : Board) → P c → P (record c { pins = pins })

abbrev pub KeepsEnds : (Board → Type 0) → Type 0
KeepsEnds P = (o : Option ℕ) (c : Board) → P c → P (after finalize c o)

-- what has no hold, and what is not pending or told of
module _ (P : Board → Type 0) (lists : KeepsLists P) where
  pub step-unheld : (n : ℕ) (c : Board) → P c → P (unheld n c)
  step-unheld n c h = lists (without_all n c.holds) c.pending c.notices c h

  pub step-unnoticed : (n : ℕ) (c : Board) → P c → P (unnoticed n c)
  step-unnoticed n c h = lists c.holds (without_removal n c.pending) (filter (λ (x : Notice). not (x.birth == n)) c.notices) c h

-- unrealizing: the device, its buses and their kids, and so on, pass
module _ (On : ℕ → Type 0) (P : Board → Type 0) (edits : KeepsEdits P) (acts : KeepsActs On P) (lists : KeepsLists P) where
  step-device : (d : ℕ) → On d → (c : Board) → P c → P (unrealized_device d c)
  step-device d on c h =
      step-unnoticed P lists d _
      (step-unheld P lists d _
      (step-set P edits d (codes "realized") (val.Bool false) _
      (step-disconnected P edits (clock_of c d) _ (acts Unrealize d (device_period c d) refl on c h))))

  step-bus : (m : ℕ) → On m → (c : Board) → P c → P (unrealized_bus m c)
  step-bus m on c h = step-unheld P lists m _ (acts Unrealize m 0 refl on c h)

  step-each : (f : ℕ → Board → Board) → ((n : ℕ) → On n → (c : Board) → P c → P (f n c)) → (ns : List ℕ) → AllByRecursion On ns → (c : Board) → P c
      → P (each f ns c)
  step-each f keeps [] on c h = h
  step-each f keeps (n ∷ ns) on c h = step-each f keeps ns on.1 (f n c) (keeps n on.0 c h)

  module _ (b : Board) (buses : (d : ℕ) → AllByRecursion On (buses_of b d)) (kids : (m : ℕ) → AllByRecursion On (kids_of b m)) where
    step-turns : (depth d : ℕ) → On d → (c : Board) → P c → P (by_depth (unrealize_turn b) (λ d c. c) depth d c)
    step-turns zero d on c h = h
    step-turns (suc depth) d on c h = turn (step-turns depth)
      where
        turn : ((k : ℕ) → On k → (e : Board) → P e → P (by_depth (unrealize_turn b) (λ d c. c) depth k e))
            → P (by_depth (unrealize_turn b) (λ d c. c) (suc depth) d c)
        turn keeps =
            step-device d on _
            (step-each _ (λ m there e k. step-bus m there _ (step-each _ keeps (kids_of b m) (kids m) e k)) (buses_of b d) (buses d) c h)

    pub step-unrealize : (d : ℕ) → On d → P b → P (unrealize b d)
    unfolding unrealize
    step-unrealize d on h = step-turns (suc (length (births b))) d on b h

-- taking out
module _ (P : Board → Type 0) (edits : KeepsEdits P) (pins : KeepsPins P) (ends : KeepsEnds P) where
  pub step-pin : (n : ℕ) (c : Board) → P c → P (pin c n)
  unfolding pin
  step-pin n c h = pins (put_in_order n c.pins) c h

  pub step-unpin : (n : ℕ) (c : Board) → P c → P (unpin c n)
  unfolding unpin
  step-unpin n c h = go (list_any (nat_eq n) c.pins) refl
    where
      go : (u : Bool) → list_any (nat_eq n) c.pins ≡ u → P (unpin c n)
      go true e = rw (unpin, e) (ends (Some n) _ (pins (without_first n c.pins) c h))
      go false e = rw (unpin, e) h

  pub step-let_go : (n i : ℕ) (c : Board) → P c → P (let_go c n i)
  unfolding let_go drop_slot
  step-let_go n i c h = go (slot_at c n i) refl
    where
      go : (o : Option Slot) → slot_at c n i ≡ o → P (let_go c n i)
      go None e = rw (let_go, e) h
      go (Some s) e = rw (let_go, e) (ends (referent s) _ (edits n (with_dropped i) (λ r. refl) c h))

  step-where : (p : List ℕ × Slot → Bool) (n : ℕ) (c : Board) → P c → P (let_go_where p n c)
  step-where p n c h = go (index_from p 0 (slots_at c n)) refl
    where
      go : (o : Option ℕ) → index_from p 0 (slots_at c n) ≡ o → P (let_go_where p n c)
      go None e = rw (let_go_where, e) h
      go (Some i) e = rw (let_go_where, e) (step-let_go n i c h)

  step-take_slot : (n i : ℕ) (c : Board) → P c → P (take_slot c n i)
  unfolding cut drop_slot
  step-take_slot n i c h = go (slot_at c n i) refl
    where
      go : (o : Option Slot) → slot_at c n i ≡ o → P (take_slot c n i)
      go None e = rw (take_slot, e) h
      go (Some s) e = rw (take_slot, e) (ends (referent s) _ (edits n (with_cut i) (λ r. refl) _ (edits n (with_dropped i) (λ r. refl) c h)))

  step-take : (p : List ℕ × Slot → Bool) (n : ℕ) (c : Board) → P c → P (take_where p n c)
  step-take p n c h = go (index_from p 0 (slots_at c n)) refl
    where
      go : (o : Option ℕ) → index_from p 0 (slots_at c n) ≡ o → P (take_where p n c)
      go None e = rw (take_where, e) h
      go (Some i) e = rw (take_where, e) (step-take_slot n i c h)

  step-left_bus : (d : ℕ) (c : Board) → P c → P (left_bus d c)
  step-left_bus d c h = go (bus_of c d) refl
    where
      go : (o : Option ℕ) → bus_of c d ≡ o → P (left_bus d c)
      go None e = rw (left_bus, e) h
      go (Some m) e = rw (left_bus, e) (step-where (is_named (codes "parent_bus")) d _ (step-take (names_kid d) m c h))

  step-left_parent : (d : ℕ) (c : Board) → P c → P (left_parent d c)
  step-left_parent d c h = step-where (is_child_slot d) ANONYMOUS_BIRTH _ (step-where (is_child_slot d) PERIPHERAL_BIRTH c h)

  -- a device that was unrealized while it was held
  pub step-detach : (b : Board) (d : ℕ) → P (unrealize (pin b d) d) → P (detach b d)
  step-detach b d h = detached-keeps P (λ m. step-where (is_bus_child m)) step-left_bus step-left_parent step-pin step-unpin b d h
