-- A device is unrealized and taken out: what is still realized keeps what is due to it, and nothing else keeps a claim.
use Rattle.std.proofs.Common.{nat_eq, ◌≡◌, refl, ap, sym, subst, ◌∙◌, ℕ, ◌+◌, Bool, true, false, cond, List, length, Some}
use Rattle.std.specs.List.{list_any}
use Rattle.qo_kinds.specs.declared.kept_set.KeptSet.{KeptSet}
use Rattle.qo_object.specs.Content.{with_pin}
use Rattle.qo_model.specs.Board.{Board}
use Rattle.qo_model.specs.Release.{after, finalize, pin, unpin, without_pin}
use Rattle.qo_model.specs.Unplug.{detach, unrealize}
use Rattle.qo_clocks.specs.Kept.{PeriodsKept}
use Rattle.qo_sound_devices.specs.SoundDevices.{SoundDevices}
use Rattle.qo_sound_devices.specs.SoundPlaces.{stands}
use Rattle.qo_sound_bounds.specs.SoundSources.{SoundSources}
use Rattle.qo_sound_bounds.proofs.LeavingLemmas.{detach-linked, detach-source, unrealized-reads}
use Rattle.qo_hotplug.specs.Hotplug.{Asked}
use Rattle.qo_model.specs.Depth.{among}
use Rattle.qo_model.proofs.ReleaseScopeLemmas.{unpin-leaves}
use Rattle.qo_heap.specs.Acts.{counted_in, counts_of}
use Rattle.qo_heap.specs.Board.{Shows}
use Rattle.qo_heap.specs.Objects.{Objects, with_edit}
use Rattle.qo_life.proofs.TreeLemmas.{goes-shows, read-content}
use Rattle.qo_life.specs.Life.{Goes}
use Rattle.qo_sound.proofs.TreeKeptLemmas.{sound_kept_lem}
use Rattle.qo_sound_clocks.proofs.ReadLemmas.{tree-named, tree-reads}
use Rattle.qo_unplug.specs.Unparenting.{taken_within}
use Rattle.qo_unplug.specs.BoardParts.{Beside}
use Rattle.qo_properties.specs.KeptClaims.{KeptBefore, kept_by}
use Rattle.qo_unplug.specs.RealizedClaims.{KeepsDue}
use Rattle.qo_unplug.specs.Feeding.{FeedsWithin, MayDetach}
use Rattle.qo_unplug.specs.Unrealizing.{Clears, Ends, KeepsHeld, OnTheWay, SameTree, Ticks, device_within, parts}
use Rattle.qo_unplug.proofs.DetachmentLemmas.{beside-detached, detached-same, pin-beside, pin-feeds, pin-ticks, pin-way, unrealized-is}
use Rattle.qo_properties.proofs.KeptLemmas.{before-then, claims-before, counts-before, goes-kept}
use Rattle.qo_unplug.proofs.KeptLemmas.{due-stays, kept-edited}
use Rattle.qo_unplug.proofs.PeriodLemmas.{SameClocks, before-stay, same-clocks}
use Rattle.qo_unplug.proofs.ValueLemmas.{detached-values, keeps-none}
use Rattle.qo_unplug.proofs.RealizedLemmas.{SameLit, same_lit-after, same_lit-none, same_lit-then}
use Rattle.qo_unplug.proofs.ScopeLemmas.{takes-taken_within}

same_lit-unpin : (c : Board) (d : ℕ) → SameLit c (unpin c d)
unfolding unpin
same_lit-unpin c d = go (list_any (nat_eq d) c.pins) refl
  where
    go : (u : Bool) → list_any (nat_eq d) c.pins ≡ u → SameLit c (unpin c d)
    go true e =
        let w : Board = without_pin c d in
        rw (unpin, e) (same_lit-then c w (after finalize w (Some d)) (same_lit-none c) (same_lit-after w (Some d)))
    go false e = rw (unpin, e) (same_lit-none c)

due-pinned : (due : ℕ → KeptSet) (b : Board) (v u : Objects) (d : ℕ) → u ≡ with_edit d with_pin v → KeepsDue due b v → KeepsDue due (pin b d) u
unfolding pin
due-pinned due b v u d is h n k e =
    h n k
    (sym (kept-edited v d with_pin (λ c. refl) n) ∙ subst (λ (x : Objects). kept_by x n ≡ Some k) is e)

held-pinned : (n : ℕ) (was : ℕ × ℕ) (b : Board) (v u : Objects) (d : ℕ) → u ≡ with_edit d with_pin v → KeepsHeld n was b v → KeepsHeld n was (pin b d) u
unfolding pin
held-pinned n was b v u d is h k e =
    h k (sym (read-content counts_of d with_pin (λ c. refl) v n) ∙ subst (λ (x : Objects). counted_in x n ≡ Some k) is e)

pub claims-detached : (v u w x y : Objects) (held after : List ℕ) (asked told : Asked) (d levels : ℕ) → levels ≡ length v.rows
    → u ≡ with_edit d with_pin v → Goes (λ b. pin b d) v u
    → Ends (λ b _. FeedsWithin b (length u.rows + 1) d) (λ b. device_within b (length u.rows + 1) d) (parts u held asked) (parts w after told)
    → Goes (taken_within levels d) w x
    → Goes (λ b. unpin b d) x y → (b : Board) → MayDetach b d v → Beside b v held asked → (due : ℕ → KeptSet) → KeepsDue due b v
    → KeepsDue due (detach b d) y
claims-detached v u w x y held after asked told d levels is pins pinned ends taken unpinned b may beside due h =
    let b1 : Board = pin b d in
    let beside1 = pin-beside v u held asked d pinned b beside in
    let ticks : Ticks b1 = pin-ticks b d may in
    let fed : FeedsWithin b1 (length u.rows + 1) d = pin-feeds b v u d pins beside.shown may in
    let way : OnTheWay b1 b1 u = pin-way b v u d pins may in
    let b2 : Board = device_within b1 (length u.rows + 1) d b1 in
    let tree2 : SameTree b1 b2 = (ends.undoes.way b1 b1 ticks fed way beside1).tree in
    let h2 : KeepsDue due b2 w = ends.claims b1 b1 ticks fed way beside1 due (due-pinned due b v u d pins h) in
    let b3 : Board = taken_within levels d b2 in
    let same : unpin b3 d ≡ detach b d = detached-same v u held asked d levels is pinned b beside in
    let lit : SameLit b2 (detach b d) =
    subst (λ (c : Board). SameLit b2 c) same (same_lit-then b2 b3 (unpin b3 d) (takes-taken_within levels d b2).lit (same_lit-unpin b3 d)) in
    let now : Beside (detach b d) y after told =
    beside-detached v u w x y held after asked told d levels is pins pinned ends.undoes taken unpinned b may beside in
    due-stays due b2 (detach b d) w y (tree2.ticks ticks).named (tree-named (detach b d) (sound_kept_lem.detached b d may.devices.tree)) now.shown h2 lit
    (claims-before w y (before-then w x y (goes-kept w x taken) (goes-kept x y unpinned)))

-- what is kept of holds of who is still there, where a hold on it would have stayed, and where it would have gone
pub counts-detached : (v u w x y : Objects) (d levels : ℕ) → levels ≡ length v.rows → u ≡ with_edit d with_pin v → Goes (λ b. pin b d) v u
    → Clears (λ b _. FeedsWithin b (length u.rows + 1) d) (λ b. device_within b (length u.rows + 1) d) u w → Goes (taken_within levels d) w x
    → Goes (λ b. unpin b d) x y → (b : Board)
    → MayDetach b d v → Shows b v → (n : ℕ) (was : ℕ × ℕ) → KeepsHeld n was b v → KeepsHeld n was (detach b d) y
counts-detached v u w x y d levels is pins pinned clears taken unpinned b may shows n was h k e =
    let b1 : Board = pin b d in
    let asked : Asked = record { pending = b.pending; notices = b.notices } in
    let beside : Beside b v b.holds asked = record { shown = shows; holds = refl; pending = refl; notices = refl } in
    let beside1 = pin-beside v u b.holds asked d pinned b beside in
    let ticks : Ticks b1 = pin-ticks b d may in
    let fed : FeedsWithin b1 (length u.rows + 1) d = pin-feeds b v u d pins shows may in
    let way : OnTheWay b1 b1 u = pin-way b v u d pins may in
    let b2 : Board = device_within b1 (length u.rows + 1) d b1 in
    let b3 : Board = taken_within levels d b2 in
    let same : unpin b3 d ≡ detach b d = detached-same v u b.holds asked d levels is pinned b beside in
    let stay : (detach b d).holds ≡ b2.holds =
    ap (λ (c : Board). c.holds) (sym same) ∙ (unpin-leaves b3 d).holds ∙ (takes-taken_within levels d b2).holds in
    let h1 : KeepsHeld n was b1 u = held-pinned n was b v u d pins h in
    let h2 : KeepsHeld n was b2 w = clears.counts n was b1 b1 ticks fed way beside1.shown h1 in
    let left : KeptBefore w y = before-then w x y (goes-kept w x taken) (goes-kept x y unpinned) in
    h2 k (counts-before w y left n k e) ∙ ap (λ (hs : List ℕ). cond (among hs n) was (0, 0)) (sym stay)

-- as the boards show it, whatever stands beside them
pub shown-detached : (v u w x y : Objects) (d levels : ℕ) → levels ≡ length v.rows → u ≡ with_edit d with_pin v → Goes (λ b. pin b d) v u
    → Clears (λ b _. FeedsWithin b (length u.rows + 1) d) (λ b. device_within b (length u.rows + 1) d) u w → Goes (taken_within levels d) w x
    → Goes (λ b. unpin b d) x y → (b : Board)
    → MayDetach b d v → Shows b v → Shows (detach b d) y
shown-detached v u w x y d levels is pins pinned clears taken unpinned b may shows =
    let b1 : Board = pin b d in
    let asked : Asked = record { pending = b.pending; notices = b.notices } in
    let beside : Beside b v b.holds asked = record { shown = shows; holds = refl; pending = refl; notices = refl } in
    let beside1 = pin-beside v u b.holds asked d pinned b beside in
    let b2 : Board = device_within b1 (length u.rows + 1) d b1 in
    let shown2 : Shows b2 w = clears.shown b1 b1 (pin-ticks b d may) (pin-feeds b v u d pins shows may) (pin-way b v u d pins may) beside1.shown in
    let b3 : Board = taken_within levels d b2 in
    subst (λ (c : Board). Shows c y) (detached-same v u b.holds asked d levels is pinned b beside)
    (goes-shows (λ c. unpin c d) x y unpinned b3 (goes-shows (taken_within levels d) w x taken b2 shown2))

-- the periods that are kept of clocks: once all is unrealized they are right, and then no clock that stays loses what it goes by

unrealized-clocks : (b : Board) (d : ℕ) → SoundDevices b → SoundSources b → stands b d ≡ true → SameClocks (λ _. false) (unrealize (pin b d) d) (detach b d)
unrealized-clocks b d devices sources stood =
    same-clocks (unrealize (pin b d) d) (detach b d) (unrealized-reads b d devices stood sources)
    (tree-reads (detach b d) (sound_kept_lem.detached b d devices.tree))
    (detached-values (unrealize (pin b d) d) b d (keeps-none (unrealize (pin b d) d))) (detach-source b d devices stood sources)
    (λ n s goes gone. absurd (let clash : true ≡ false = sym (detach-linked b d devices stood sources n s goes) ∙ gone in cc))

pub periods-detached : (v u w x y : Objects) (d levels : ℕ) → levels ≡ length v.rows → u ≡ with_edit d with_pin v → Goes (λ b. pin b d) v u
    → Clears (λ b _. FeedsWithin b (length u.rows + 1) d) (λ b. device_within b (length u.rows + 1) d) u w → Goes (taken_within levels d) w x
    → Goes (λ b. unpin b d) x y → (b : Board) → MayDetach b d v → Shows b v → PeriodsKept y
periods-detached v u w x y d levels is pins pinned clears taken unpinned b may shows =
    let b1 : Board = pin b d in
    let asked : Asked = record { pending = b.pending; notices = b.notices } in
    let beside : Beside b v b.holds asked = record { shown = shows; holds = refl; pending = refl; notices = refl } in
    let beside1 = pin-beside v u b.holds asked d pinned b beside in
    let b2 : Board = device_within b1 (length u.rows + 1) d b1 in
    let fed : FeedsWithin b1 (length u.rows + 1) d = pin-feeds b v u d pins shows may in
    let shown2 : Shows b2 w = clears.shown b1 b1 (pin-ticks b d may) fed (pin-way b v u d pins may) beside1.shown in
    let kept2 : PeriodsKept w = (clears.way b1 b1 (pin-ticks b d may) fed (pin-way b v u d pins may) beside1.shown).kept in
    let all : b2 ≡ unrealize b1 d = unrealized-is b1 u beside1.shown d in
    before-stay (unrealize b1 d) (detach b d) w y (subst (λ (c : Board). Shows c w) all shown2)
    (shown-detached v u w x y d levels is pins pinned clears taken unpinned b may shows)
    (unrealized-clocks b d may.devices may.sources may.stood) (before-then w x y (goes-kept w x taken) (goes-kept x y unpinned)) kept2
