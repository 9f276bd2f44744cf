-- Holds, removals that are asked for and refused, and the reset of the whole board: what their steps keep, they keep.
use Rattle.std.proofs.Common.{◌≡◌, refl, subst, ◌∙◌, ℕ, zero, suc, Bool, true, false, List, [], ◌∷◌, ◌++◌, filter, length, Option, Some, None, is_some, slice_get}
use Rattle.qo_model.proofs.Common.{AllByRecursion, MACHINE_BIRTH, Code, Act, Hold, Exit, Board, DeviceEvent, record_of, acted, all_completed, asked, asked_of, device_at, refused, refused_event, reset_whole, with_asked, attached, notice_barred, is_not_in_reset, phased, post, pulse, released, detach}
use Rattle.std.specs.Prelude.{option_and_then, option_to_list}
use Rattle.qo_model.specs.Reset.{after_hold}
use Rattle.qo_values.specs.declared.kinds.ResetKind.{ResetKind}
use Rattle.qo_values.specs.declared.kinds.ResetKind.TheVariants.{Cold, Wakeup}
use Rattle.qo_values.specs.Kinds.{entering}
use Rattle.qo_model.specs.Board.{Removal}
use Rattle.qo_model.specs.Hotplug.{is_early}
use Rattle.qo_sound.proofs.RecordLemmas.{all-filter}
use Rattle.qo_steps.specs.Steps.{HasNoticeRoom, MayAsk, declined, is_calm, with_hold, with_release}
use Rattle.qo_steps.proofs.ActingLemmas.{IsSteady, KeepsCalm, SameThere, phased-by, phased-there, steady-all, there-both}
use Rattle.qo_steps.proofs.AdditionLemmas.{notice-room}

-- whoever enters a reset is at the beginning of no object and in no call back
entering-calm : (kind : ResetKind) → is_calm (entering kind) ≡ true
entering-calm Cold = refl
entering-calm Wakeup = refl

-- a hold leaves who is there
pub held-there : (b : Board) (n : ℕ) (kind : ResetKind) → SameThere b (after_hold b n kind)
unfolding after_hold
held-there b n kind x =
    let out : List ℕ = filter (is_not_in_reset b) (post b n) in
    phased-there Hold out (phased (entering kind) out b) x ∙ phased-there (entering kind) out b x

-- a hold, and a hold less: whoever is below may act
pub record HoldSteps (On : Board → ℕ → Type 0) (P : Board → Type 0) : Type 0 where
  pub acts : KeepsCalm On P
  pub holds : (n : ℕ) (c : Board) → On c n → P c → P (with_hold n c)
  pub releases : (n : ℕ) (c : Board) → On c n → P c → P (with_release n c)

phased-holds : (act : Act) (ns : List ℕ) (c : Board) → (phased act ns c).holds ≡ c.holds
unfolding acted
phased-holds act [] c = refl
phased-holds act (n ∷ ns) c = phased-holds act ns (acted act n 0 c)

module _ (On : Board → ℕ → Type 0) (steady : IsSteady On) (P : Board → Type 0) (k : HoldSteps On P) where
  pub held-by : (b : Board) (n : ℕ) (kind : ResetKind) → On b n → AllByRecursion (On b) (post b n) → P b → P (after_hold b n kind)
  unfolding after_hold
  held-by b n kind own on h =
      let out : List ℕ = filter (is_not_in_reset b) (post b n) in
      let may : AllByRecursion (On b) out = all-filter (On b) (is_not_in_reset b) (post b n) on in
      let entered : Board = phased (entering kind) out b in
      let c : Board = phased Hold out entered in
      let one : SameThere b entered = phased-there (entering kind) out b in
      let two : SameThere b c = there-both b entered c one (phased-there Hold out entered) in
      let passed : P c =
      phased-by On steady P k.acts Hold refl out entered (steady-all On steady b entered one out may)
      (phased-by On steady P k.acts (entering kind) (entering-calm kind) out b may h) in
      subst (λ (holds : List ℕ). P (record c { holds = holds ++ n ∷ [] })) (phased-holds Hold out entered ∙ phased-holds (entering kind) out b)
      (k.holds n c (steady b c two n own) passed)

  pub released-by : (b : Board) (n : ℕ) → On b n → AllByRecursion (On b) (post b n) → P b → P (released b n)
  unfolding released post
  released-by b n own on h =
      let c : Board = with_release n b in
      let may : AllByRecursion (On c) (filter (is_not_in_reset c) (post c n)) =
      steady-all On steady b c (λ x. refl) (filter (is_not_in_reset c) (post c n)) (all-filter (On b) (is_not_in_reset c) (post c n) on) in
      phased-by On steady P k.acts Exit refl (filter (is_not_in_reset c) (post c n)) c may (k.releases n b own h)

  pub pulse-by : (b : Board) (n : ℕ) (kind : ResetKind) → On b n → AllByRecursion (On b) (post b n)
      → AllByRecursion (On (after_hold b n kind)) (post (after_hold b n kind) n) → P b → P (pulse b n kind)
  unfolding pulse
  pulse-by b n kind own on still h =
      released-by (after_hold b n kind) n (steady b (after_hold b n kind) (held-there b n kind) n own) still (held-by b n kind own on h)

-- a removal that is asked for
pub asked-by : (P : Board → Type 0) → ((d : ℕ) (c : Board) → MayAsk c d → P c → P (with_asked c d)) → (b : Board) (id : List ℕ) → P b → P (asked b id).board
asked-by P asks b id h = go (device_at b id) refl
  where
    free : (o : Option Code) → notice_barred b ≡ o → is_some o ≡ false → HasNoticeRoom b
    free (Some code) e some = absurd (let clash : true ≡ false = some in cc)
    free None e some = notice-room b e

    by : (d : ℕ) → P (asked_of b d).board
    by d = test (attached b d) refl (is_early b d) refl (is_some (notice_barred b)) refl
      where
        test : (home : Bool) → attached b d ≡ home → (early : Bool) → is_early b d ≡ early → (full : Bool) → is_some (notice_barred b) ≡ full
            → P (asked_of b d).board
        test false p early q full r = rw (asked_of, p) h
        test true p true q full r = rw (asked_of, p, q) h
        test true p false q true r = rw (asked_of, p, q, r) h
        test true p false q false r =
            rw (asked_of, p, q, r) (asks d b (record { home = p; free = q; room = free (notice_barred b) refl r }) h)

    go : (o : Option ℕ) → device_at b id ≡ o → P (asked b id).board
    go None p = rw (asked, p) h
    go (Some d) p = rw (asked, p) (by d)

-- and one that the guest refuses, which is told
pub refused-by : (P : Board → Type 0) → ((d : ℕ) (c : Board) → P c → P (declined d c))
    → ((more : List DeviceEvent) (c : Board) → P c → P (record c { events = c.events ++ more })) → (b : Board) (d : ℕ) → P b → P (refused b d)
refused-by P declines tells b d h = tells (option_to_list (option_and_then refused_event (record_of b d))) (declined d b) (declines d b h)

-- the whole board is reset, while it stays good: each device whose removal is pending is detached, and the machine goes through its phases
pub record ResetSteps (Good P : Board → Type 0) : Type 0 where
  pub detaches : (b : Board) (r : Removal) → slice_get b.pending 0 ≡ Some r → Good b → P b → P (detach b r.birth)
  pub stays : (b : Board) (r : Removal) → slice_get b.pending 0 ≡ Some r → Good b → Good (detach b r.birth)
  pub pulses : (b : Board) → Good b → P b → P (pulse b MACHINE_BIRTH Cold)

module _ (Good P : Board → Type 0) (k : ResetSteps Good P) where
  by-completed : (times : ℕ) (b : Board) → Good b → P b → Good (all_completed times b) × P (all_completed times b)
  by-completed zero b good h = (good, h)
  by-completed (suc times) b good h = go (slice_get b.pending 0) refl (by-completed times)
    where
      go : (o : Option Removal) → slice_get b.pending 0 ≡ o → ((c : Board) → Good c → P c → Good (all_completed times c) × P (all_completed times c))
          → Good (all_completed (suc times) b) × P (all_completed (suc times) b)
      go None p rest = rw (all_completed, p) (good, h)
      go (Some r) p rest = rw (all_completed, p) (rest (detach b r.birth) (k.stays b r p good) (k.detaches b r p good h))

  pub reset-by : (b : Board) → Good b → P b → P (reset_whole b)
  unfolding reset_whole
  reset-by b good h =
      let all = by-completed (length b.pending) b good h in
      k.pulses (all_completed (length b.pending) b) all.0 all.1
