-- A device is unrealized and taken out, while it is held: the parts of the board after it.
use Rattle.std.proofs.Common.{◌≡◌, refl, ap, sym, subst, ◌∙◌, ℕ, suc, ◌+◌, ◌<◌, ◌≤◌, nat_eq, true, List, [], length, arith}
use Rattle.std.specs.List.{list_any}
use Rattle.qo_values.specs.declared.births.TheConstants.{ROOT_BIRTH}
use Rattle.qo_values.specs.declared.limits.TheConstants.{LIVE_OBJECTS_MAX}
use Rattle.qo_object.specs.Content.{with_pin}
use Rattle.qo_model.specs.Board.{Board}
use Rattle.qo_model.specs.Paths as paths
use Rattle.qo_model.specs.Release.{pin, put_in_order, unpin, without_first}
use Rattle.qo_model.specs.Unplug.{apart_within, detach, taken_by, unrealize}
use Rattle.qo_model.proofs.PinLemmas.{IsUp, put-among, put-back, put-up, unpin-pins}
use Rattle.qo_model.proofs.ReleaseScopeLemmas.{unpin-leaves}
use Rattle.qo_heap.specs.Log.{empty_log}
use Rattle.qo_hotplug.specs.Hotplug.{Asked}
use Rattle.qo_heap.specs.Board.{Shows, pins_in}
use Rattle.qo_heap.specs.Objects.{IsHeap, Objects, pins_of, with_edit}
use Rattle.qo_heap.specs.Moments.{Timely}
use Rattle.qo_heap.proofs.BoardReads.{shows-size, times}
use Rattle.qo_heap.proofs.HeapLemmas.{length-edit}
use Rattle.qo_life.specs.Life.{Goes, KeepsNames}
use Rattle.qo_life.proofs.TreeLemmas.{goes-names, goes-shows, goes-then, tree, tree-shows}
use Rattle.qo_properties.specs.Claims.{KeepsBook}
use Rattle.qo_properties.specs.Pins.{OnlyRootPinned}
use Rattle.qo_clocks.specs.Kept.{PeriodsKept}
use Rattle.qo_clocks.proofs.KeptChanges.{kept-still}
use Rattle.qo_clocks.proofs.ScopeLemmas.{edit-timely}
use Rattle.qo_sound.proofs.DetachmentStepsLemmas.{step-unpin}
use Rattle.qo_sound_clocks.specs.SoundTimes.{SoundTimes}
use Rattle.qo_sound_clocks.proofs.ReadLemmas.{tree-named}
use Rattle.qo_sound_clocks.proofs.TimesLemmas.{times-edits, times-ends, times-pins}
use Rattle.qo_unplug.specs.Unparenting.{HasRoom, pin_count, taken_within}
use Rattle.qo_unplug.specs.BoardParts.{Beside}
use Rattle.qo_unplug.specs.Feeding.{FeedsWithin, MayDetach}
use Rattle.qo_unplug.specs.Unrealizing.{OnTheWay, Ticks, Undoes, device_within, parts}
use Rattle.qo_unplug.proofs.UnparentingLemmas.{held-pins, pin-live, pin-most, pin-own, pin-same, pins-up, pins-within, taken-same, taken-timely}
use Rattle.qo_unplug.proofs.ScopeLemmas.{put-most, takes-taken_within}
use Rattle.qo_sound_devices.proofs.PinLemmas.{pin-stands}
use Rattle.qo_sound_phases.proofs.DetachmentLemmas.{kp}
use Rattle.qo_sound_bounds.specs.SoundSources.{SoundSources}
use Rattle.qo_sound_bounds.proofs.SourceLemmas.{beside-sources}
use Rattle.qo_unplug.proofs.FeedingLemmas.{feeds-within}
use Rattle.qo_unplug.proofs.MomentLemmas.{goes-timely}
use Rattle.qo_unplug.proofs.TreeLemmas.{same-none, ticks-beside}

-- the pin of meanwhile

pub pin-beside : (v u : Objects) (held : List ℕ) (asked : Asked) (n : ℕ) → Goes (λ b. pin b n) v u → (b : Board) → Beside b v held asked
    → Beside (pin b n) u held asked
unfolding pin
pin-beside v u held asked n goes b beside =
    record { shown = goes-shows (λ c. pin c n) v u goes b beside.shown; holds = beside.holds; pending = beside.pending; notices = beside.notices }

pub pin-timely : (v u : Objects) (n : ℕ) → u ≡ with_edit n with_pin v → Timely v → Timely u
pin-timely v u n is all = subst (λ (x : Objects). Timely x) (sym is) (edit-timely n with_pin (λ c. refl) v.time v.rows all)

pub pin-ticks : (b : Board) (n : ℕ) {v : Objects} → MayDetach b n v → Ticks (pin b n)
unfolding pin
pin-ticks b n may = ticks-beside b (pin b n) refl (record { clocks = may.clocks; named = tree-named b may.devices.tree })

-- on the way the periods are those that were kept, and the clocks go by those that they went by
pub pin-way : (b : Board) (v u : Objects) (n : ℕ) → u ≡ with_edit n with_pin v → MayDetach b n v → OnTheWay (pin b n) (pin b n) u
pin-way b v u n is may =
    record {
      tree = same-none (pin b n);
      kept = subst PeriodsKept (sym is) (kept-still v n with_pin (λ c. refl) (λ c. refl) may.kept);
    }

pin-sources : (b : Board) (n : ℕ) → SoundSources b → SoundSources (pin b n)
unfolding pin
pin-sources b n h = beside-sources b (pin b n) refl h

pin-births : (b : Board) (n : ℕ) → paths.births (pin b n) ≡ paths.births b
unfolding pin
pin-births b n = refl

pub pin-feeds : (b : Board) (v u : Objects) (n : ℕ) → u ≡ with_edit n with_pin v → Shows b v → MayDetach b n v
    → FeedsWithin (pin b n) (length u.rows + 1) n
pin-feeds b v u n is shows may =
    let rows : length u.rows ≡ length v.rows = ap (λ (x : Objects). length x.rows) is ∙ length-edit n with_pin v.rows in
    let many : length v.rows ≡ length (paths.births b) = sym (shows-size b v shows) in
    let same : length (paths.births (pin b n)) ≡ length (paths.births b) = ap (λ (xs : List ℕ). length xs) (pin-births b n) in
    feeds-within (pin b n) (kp b n may.devices may.stood) (pin-sources b n may.sources) n (pin-stands b n n ∙ may.stood) (length u.rows + 1)
    (omega (arith, rows, many, same))

-- it is not taken away where the pins stay
pub unrealized-pinned : (v u w : Objects) (d : ℕ) → Goes (λ c. pin c d) v u → pins_in w.rows ≡ pins_in u.rows → 0 < pin_count w d
unrealized-pinned v u w d goes same = omega (arith, ap (times d) same, pin-own v u d goes)

pub detach-room : (v u w : Objects) → IsHeap v → (d levels : ℕ) → ((n : ℕ) → pins_of v n ≤ 1) → levels ≡ length v.rows → Goes (λ b. pin b d) v u
    → pins_in w.rows ≡ pins_in u.rows → HasRoom w levels
detach-room v u w good d levels once is goes same n =
    let few : length v.rows ≤ LIVE_OBJECTS_MAX = good.few in
    omega (arith, few, is, once n, held-pins v good n, pin-most v u d goes n, ap (times n) same)

-- where `/` alone is pinned, once, no object is pinned twice
pub once-pinned : (v : Objects) → OnlyRootPinned v → (n : ℕ) → pins_of v n ≤ 1
once-pinned v only n =
    let most : times n (put_in_order ROOT_BIRTH []) ≤ 1 + times n [] = put-most n ROOT_BIRTH [] in
    omega (arith, pins-within v n, ap (times n) only, most)

-- the whole

pub unrealized-is : (b : Board) (v : Objects) → Shows b v → (d : ℕ) → device_within b (length v.rows + 1) d b ≡ unrealize b d
unfolding device_within unrealize
unrealized-is b v s d =
    let same : length v.rows + 1 ≡ suc (length (paths.births b)) = omega (arith, shows-size b v s) in
    ap (λ (k : ℕ). device_within b k d b) same

taken-is : (b c : Board) (v : Objects) → Shows b v → (levels d : ℕ) → levels ≡ length v.rows
    → taken_within levels d c ≡ taken_by (apart_within (length (paths.births b))) d c
unfolding taken_within
taken-is b c v s levels d is =
    let same : levels ≡ length (paths.births b) = is ∙ sym (shows-size b v s) in
    ap (λ (k : ℕ). taken_by (apart_within k) d c) same

detach-is : (b : Board) (d : ℕ) → detach b d ≡ unpin (taken_by (apart_within (length (paths.births b))) d (unrealize (pin b d) d)) d
unfolding detach
detach-is b d = refl

pub detached-same : (v u : Objects) (held : List ℕ) (asked : Asked) (d levels : ℕ) → levels ≡ length v.rows → Goes (λ b. pin b d) v u → (b : Board)
    → Beside b v held asked → unpin (taken_within levels d (device_within (pin b d) (length u.rows + 1) d (pin b d))) d ≡ detach b d
detached-same v u held asked d levels is pinned b beside =
    let b1 : Board = pin b d in
    let beside1 = pin-beside v u held asked d pinned b beside in
    ap (λ (c : Board). unpin c d)
    (ap (taken_within levels d) (unrealized-is b1 u beside1.shown d) ∙ taken-is b (unrealize b1 d) v beside.shown levels d is)
    ∙ sym (detach-is b d)

pub beside-detached : (v u w x y : Objects) (held after : List ℕ) (asked told : Asked) (d levels : ℕ) → levels ≡ length v.rows
    → u ≡ with_edit d with_pin v → Goes (λ b. pin b d) v u
    → Undoes (λ b _. FeedsWithin b (length u.rows + 1) d) (λ b. device_within b (length u.rows + 1) d) (parts u held asked) (parts w after told)
    → Goes (taken_within levels d) w x
    → Goes (λ b. unpin b d) x y → (b : Board) → MayDetach b d v → Beside b v held asked → Beside (detach b d) y after told
beside-detached v u w x y held after asked told d levels is pins pinned undoes taken unpinned b may beside =
    let b1 : Board = pin b d in
    let beside1 = pin-beside v u held asked d pinned b beside in
    let b2 : Board = device_within b1 (length u.rows + 1) d b1 in
    let beside2 : Beside b2 w after told =
    undoes.shown b1 b1 (pin-ticks b d may) (pin-feeds b v u d pins beside.shown may) (pin-way b v u d pins may) beside1 in
    let b3 : Board = taken_within levels d b2 in
    let takes = takes-taken_within levels d b2 in
    let leaves = unpin-leaves b3 d in
    let b4 : Beside (unpin b3 d) y after told = record {
      shown = goes-shows (λ c. unpin c d) x y unpinned b3 (goes-shows (taken_within levels d) w x taken b2 beside2.shown);
      holds = leaves.holds ∙ takes.holds ∙ beside2.holds;
      pending = leaves.pending ∙ takes.pending ∙ beside2.pending;
      notices = leaves.notices ∙ takes.notices ∙ beside2.notices;
    } in
    let same : unpin b3 d ≡ detach b d =
    ap (λ (c : Board). unpin c d)
    (ap (taken_within levels d) (unrealized-is b1 u beside1.shown d) ∙ taken-is b (unrealize b1 d) v beside.shown levels d is)
    ∙ sym (detach-is b d) in
    subst (λ (c : Board). Beside c y after told) same b4

pub book-detached : (needs : Board → Board → Type 0) (f : Board → Board → Board) (g : Board → Board) (v u w x y : Objects) (held after : List ℕ)
    (asked told : Asked) (d : ℕ)
    → Goes (λ b. pin b d) v u → Undoes needs f (parts u held asked) (parts w after told) → Goes g w x → Goes (λ b. unpin b d) x y → KeepsBook v y
book-detached needs f g v u w x y held after asked told d pinned undoes taken unpinned out h =
    unpinned.book out (taken.book out (undoes.book out (pinned.book out h)))

-- the pins, the names, and the moments of timers

pub pins-detached : (v u w x y : Objects) → IsHeap v → (d levels : ℕ) → Goes (λ b. pin b d) v u → pins_in w.rows ≡ pins_in u.rows
    → Goes (taken_within levels d) w x → Goes (λ b. unpin b d) x y → pins_in y.rows ≡ pins_in v.rows
pins-detached v u w x y good d levels pinned same taken unpinned =
    let up : IsUp (pins_in v.rows) = pins-up v good in
    let first : pins_in u.rows ≡ put_in_order d (pins_in v.rows) = pin-same v u d pinned in
    let before : pins_in w.rows ≡ put_in_order d (pins_in v.rows) = same ∙ first in
    let up_too : IsUp (pins_in w.rows) = subst (λ (l : List ℕ). IsUp l) (sym before) (put-up d (pins_in v.rows) up) in
    let later : pins_in x.rows ≡ put_in_order d (pins_in v.rows) =
    taken-same (taken_within levels d) w x taken (takes-taken_within levels d) up_too ∙ before in
    let there : list_any (nat_eq d) (pins_in x.rows) ≡ true = ap (list_any (nat_eq d)) later ∙ put-among d (pins_in v.rows) in
    sym (unpinned.shown (tree x) empty_log (tree-shows x)).pins ∙ unpin-pins (tree x) d there ∙ ap (without_first d) later
    ∙ put-back d (pins_in v.rows) up

pub names-detached : (needs : Board → Board → Type 0) (f : Board → Board → Board) (g : Board → Board) (v u w x y : Objects) (held after : List ℕ)
    (asked told : Asked) (d : ℕ)
    → u ≡ with_edit d with_pin v → Undoes needs f (parts u held asked) (parts w after told) → Goes g w x → Goes (λ b. unpin b d) x y → KeepsNames v y
names-detached needs f g v u w x y held after asked told d pins undoes taken unpinned key live some =
    goes-names (λ b. unpin (g b) d) w y (goes-then g (λ b. unpin b d) w x y taken unpinned) key (undoes.live key (pin-live v u d pins key live)) some

pub timely-detached : (needs : Board → Board → Type 0) (f : Board → Board → Board) (v u w x y : Objects) (held after : List ℕ) (asked told : Asked)
    (d levels : ℕ)
    → u ≡ with_edit d with_pin v → Undoes needs f (parts u held asked) (parts w after told) → Goes (taken_within levels d) w x
    → Goes (λ b. unpin b d) x y → Timely v → Timely y
timely-detached needs f v u w x y held after asked told d levels pins undoes taken unpinned all =
    goes-timely (λ b. unpin b d) x y unpinned (λ b h. step-unpin SoundTimes times-edits times-pins times-ends d b h)
    (taken-timely (taken_within levels d) w x taken (takes-taken_within levels d) (undoes.timely (pin-timely v u d pins all)))
