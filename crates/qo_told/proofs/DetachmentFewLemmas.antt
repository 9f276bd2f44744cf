-- What is noted as devices are detached, also one after another in one reset: no object is unrealized twice, since who is gone over as a device is
-- unrealized is a device in its place, or a bus of one, before, and is not after.
use Rattle.std.proofs.Common.{◌≡◌, refl, ap, sym, subst, ◌∙◌, ℕ, zero, suc, ◌+◌, ◌*◌, ◌≤◌, Bool, true, false, ◌&&◌, ◌||◌, eqb, List, [], ◌∷◌, ◌++◌, filter, length, slice_get, Option, Some, None, codes, arith}
use Rattle.std.proofs.lemmas.Bool.{and_from, and_parts, eqb-true}
use Rattle.std.proofs.lemmas.List.{length-append, length-map}
use Rattle.std.proofs.lemmas.Map.Made.{length-le_from_is_member}
use Rattle.std.proofs.lemmas.Option.{same_Some}
use Rattle.std.proofs.Math.Bool.{or-true}
use Rattle.qo_values.specs.declared.kinds.ResetKind.TheVariants.{Cold}
use Rattle.qo_model.proofs.Common.{⊤, AllByRecursion, IsDistinct, list_any, nat_eq_equiv, option_map_or, MACHINE_BIRTH, TypeId, Board, Record, is_live, among, births, is_of, all_completed, reset_whole, pin, below, post, edited, is_a, detach, unrealize}
use Rattle.qo_model.specs.Board.{Removal}
use Rattle.qo_model.proofs.StepLemmas.{live-among}
use Rattle.qo_sound.proofs.AdditionStepsLemmas.{KeepsEdits, all-any}
use Rattle.qo_sound.proofs.DetachmentStepsLemmas.{step-detach, step-unrealize}
use Rattle.qo_sound.proofs.TestLemmas.{clash, decide}
use Rattle.qo_sound_devices.specs.SoundDevices.{SoundDevices}
use Rattle.qo_sound_devices.specs.SoundLists.{IsOn}
use Rattle.qo_sound_devices.specs.SoundPlaces.{bridges, child_entries, owns, owns_it, stands}
use Rattle.qo_sound_devices.proofs.AttachmentLemmas.{owns-listed}
use Rattle.qo_sound_devices.proofs.DevicesLawLemmas.{devices_kept_lem}
use Rattle.qo_sound_devices.proofs.PlacesLemmas.{child-live, of-live, or-cases, stands-live}
use Rattle.qo_sound_devices.proofs.UnrealizingLemmas.{here}
use Rattle.qo_sound_phases.specs.SoundPhases.{IsReached, bus, device, machine}
use Rattle.qo_sound_phases.proofs.DetachmentLemmas.{frame, unstood}
use Rattle.qo_sound_phases.proofs.ForestLemmas.{Reach, further, itself}
use Rattle.qo_sound_phases.proofs.FrameLemmas.{Frame, frame-post}
use Rattle.qo_sound_phases.proofs.ListLemmas.{among-cases, among-filter, distinct-append, distinct-filter}
use Rattle.qo_sound_phases.proofs.ReachLemmas.{machine-aside, reach-above}
use Rattle.qo_sound_phases.proofs.ResetTreeLemmas.{Placed, leads-cases, placed, post-reach, reach-post, stands-no_bus}
use Rattle.qo_told.proofs.BelowFewLemmas.{acted-size, filter-few, post-few, pulse-notes, rising-once, unrealize-few, unrealize-notes, within, within-once, within-reach}
use Rattle.qo_told.proofs.EndsFewLemmas.{edits-few, ends-few, pins-few, weight}

-- a detachment adds to the weight what is noted as the device is unrealized

unrealize-size : (b : Board) (d : ℕ) → length (unrealize b d).records ≡ length b.records
unrealize-size b d =
    step-unrealize (λ (n : ℕ). ⊤) (λ (c : Board). length c.records ≡ length b.records) edits (λ act n period unbound on c h. acted-size act n period c ∙ h)
    (λ holds pending notices c h. h) b (λ m. all-any _) (λ m. all-any _) d tt refl
  where
    edits : KeepsEdits (λ (c : Board). length c.records ≡ length b.records)
    edits n change leaves c h = length-map c.records (edited n change) ∙ h

pin-size : (b : Board) (d : ℕ) → length (pin b d).records ≡ length b.records
unfolding pin
pin-size b d = refl

pub detach-few : (b : Board) (d : ℕ) → weight (detach b d) ≤ length (unrealize (pin b d) d).notes + 3 * length b.records
detach-few b d =
    let whole : ℕ = weight (unrealize (pin b d) d) in
    let less : weight (detach b d) ≤ whole =
    step-detach (λ (c : Board). weight c ≤ whole) (edits-few whole) (pins-few whole) (ends-few whole) b d (omega arith) in
    omega (arith, less, unrealize-size (pin b d) d, pin-size b d)

-- devices in their places, and their buses

some-passes : (f : ℕ → Bool) (ns : List ℕ) → list_any f ns ≡ true → (n : ℕ) × (f n ≡ true)
some-passes f [] e = absurd (let bad : false ≡ true = e in cc)
some-passes f (n ∷ ns) e = decide (f n) (λ p. (n, p)) (λ p. some-passes f ns (rw p at e))

passes-some : (f : ℕ → Bool) (ns : List ℕ) (n : ℕ) → among ns n ≡ true → f n ≡ true → list_any f ns ≡ true
passes-some f [] n there e = absurd (let bad : false ≡ true = there in cc)
passes-some f (m ∷ ns) n there e = go (eqb n m) refl (passes-some f ns n)
  where
    go : (t : Bool) → eqb n m ≡ t → (among ns n ≡ true → f n ≡ true → list_any f ns ≡ true) → list_any f (m ∷ ns) ≡ true
    go true p rest = let own : f m ≡ true = subst (λ (k : ℕ). f k ≡ true) (eqb-true n m p) e in rw own refl
    go false p rest = let later : list_any f ns ≡ true = rest (rw p at there) e in rw later (or-true (f m))

-- whether a device in its place has it as a bus; whether it is such a device, or such a bus
abbrev has_bus : Board → ℕ → ℕ → Bool
has_bus b o p = stands b p && owns b p o

abbrev is_placed : Board → ℕ → Bool
is_placed b o = stands b o || (is_of b (codes "bus") o && list_any (has_bus b o) (births b))

placed-cases : (b : Board) (o : ℕ) → is_placed b o ≡ true → {A : Type 0} → (stands b o ≡ true → A)
    → (is_of b (codes "bus") o ≡ true → (p : ℕ) → stands b p ≡ true → owns b p o ≡ true → A) → A
placed-cases b o e {A} f g = or-cases (stands b o) (is_of b (codes "bus") o && list_any (has_bus b o) (births b)) e f by
  where
    by : (is_of b (codes "bus") o && list_any (has_bus b o) (births b)) ≡ true → A
    by both =
        let parts = and_parts (is_of b (codes "bus") o) (list_any (has_bus b o) (births b)) both in
        let owner = some-passes (has_bus b o) (births b) parts.1 in
        let its = and_parts (stands b owner.0) (owns b owner.0 o) owner.1 in
        g parts.0 owner.0 its.0 its.1

device-placed : (b : Board) (o : ℕ) → stands b o ≡ true → is_placed b o ≡ true
device-placed b o e = ap (λ (t : Bool). t || (is_of b (codes "bus") o && list_any (has_bus b o) (births b))) e

bus-placed : (b : Board) → Placed b → (o p : ℕ) → is_of b (codes "bus") o ≡ true → stands b p ≡ true → owns b p o ≡ true → is_placed b o ≡ true
bus-placed b k o p is s own =
    let there : among (births b) p ≡ true = sym (live-among b p) ∙ stands-live b k.firm p s in
    let has : has_bus b o p ≡ true = and_from (stands b p) (owns b p o) s own in
    let some : list_any (has_bus b o) (births b) ≡ true = passes-some (has_bus b o) (births b) p there has in
    let both = and_from (is_of b (codes "bus") o) (list_any (has_bus b o) (births b)) is some in
    ap (λ (t : Bool). stands b o || t) both ∙ or-true (stands b o)

placed-there : (b : Board) → Placed b → (o : ℕ) → is_placed b o ≡ true → among (births b) o ≡ true
placed-there b k o e =
    sym (live-among b o)
    ∙ placed-cases b o e (λ s. stands-live b k.firm o s) (λ is p s own. of-live b (codes "bus") o is)

placed-reached : (b : Board) (o : ℕ) → is_placed b o ≡ true → IsReached b o
placed-reached b o e = placed-cases b o e device (λ is p s own. bus is (bridges p s own))

-- who is below such a device is such an object
below-placed : (b : Board) → Placed b → (d o : ℕ) → stands b d ≡ true → Reach (below b) d o → is_placed b o ≡ true
below-placed b k d o e itself = device-placed b o e
below-placed b k d o e (further {p} h l) =
    leads-cases b k p o l (λ is s on. device-placed b o s)
    (λ apart is own.
    placed-cases b p (below-placed b k d p e h) (λ s. bus-placed b k o p is s own) (λ also q s its. clash (sym also ∙ apart)))

-- a detachment

module _ (b : Board) (d : ℕ) (good : SoundDevices b) (e : stands b d ≡ true) where
  kb : Placed b
  kb = placed b good

  kz : Placed (detach b d)
  kz = placed (detach b d) (devices_kept_lem.detached b d good e)

  left : Frame b (detach b d)
  left = frame b d good e

  -- the device is reached no more
  unreached : IsReached (detach b d) d → ⊥
  unreached (machine at) = clash (sym e ∙ ap (stands b) at ∙ machine-aside b kb)
  unreached (device s) = unstood b d good e d here s
  unreached (bus is by) =
      let same : is_of (detach b d) (codes "bus") d ≡ is_of b (codes "bus") d =
      ap (λ (o : Option TypeId). option_map_or (λ (t : TypeId). is_a t (codes "bus")) o false)
      (left.kind d (stands-live b kb.firm d e) (of-live (detach b d) (codes "bus") d is)) in
      clash (sym is ∙ same ∙ stands-no_bus b kb d e)

  -- who was gone over is in its place no more
  gone : (o : ℕ) → Reach (below b) d o → is_placed (detach b d) o ≡ true → ⊥
  gone o r i =
      let its : IsReached (detach b d) o = placed-reached (detach b d) o i in
      let there : among (post (detach b d) d) o ≡ true = frame-post b (detach b d) kb kz left d o its ∙ reach-post b kb d o r in
      unreached (reach-above (detach b d) kz d o (post-reach (detach b d) kz d o there) its)

  -- who is in its place was
  stayed : (o : ℕ) → is_placed (detach b d) o ≡ true → is_placed b o ≡ true
  stayed o i = placed-cases (detach b d) o i (λ s. device-placed b o (left.stood o s)) by_owner
    where
      by_owner : is_of (detach b d) (codes "bus") o ≡ true → (p : ℕ) → stands (detach b d) p ≡ true → owns (detach b d) p o ≡ true → is_placed b o ≡ true
      by_owner is p s own =
          let was : owns b p o ≡ true = sym (ap (list_any (owns_it o)) (left.children p s)) ∙ own in
          let live : is_live b o ≡ true = child-live b kb.firm p o (owns-listed o (child_entries b p) was) in
          let same : is_of (detach b d) (codes "bus") o ≡ is_of b (codes "bus") o =
          ap (λ (k : Option TypeId). option_map_or (λ (t : TypeId). is_a t (codes "bus")) k false)
          (left.kind o live (of-live (detach b d) (codes "bus") o is)) in
          bus-placed b kb o p (sym same ∙ is) (left.stood p s) was

  abbrev size : ℕ
  size = suc (length (births b)) + suc (length (births b))

  abbrev over : List ℕ
  over = within b (suc (length (births b)) + suc (length (births b))) d

  abbrev before : List ℕ
  before = filter (is_placed b) (births b)

  abbrev after : List ℕ
  after = filter (is_placed (detach b d)) (births (detach b d))

  after-placed : (o : ℕ) → among (filter (is_placed (detach b d)) (births (detach b d))) o ≡ true → is_placed (detach b d) o ≡ true
  after-placed o i =
      (and_parts (among (births (detach b d)) o) (is_placed (detach b d) o)
      (sym (among-filter (is_placed (detach b d)) o (births (detach b d))) ∙ i)).1

  in-before : (o : ℕ) → is_placed b o ≡ true → among (filter (is_placed b) (births b)) o ≡ true
  in-before o i =
      let there : among (births b) o ≡ true = placed-there b kb o i in
      among-filter (is_placed b) o (births b) ∙ and_from (among (births b) o) (is_placed b o) there i

  over-below : (o : ℕ) → among over o ≡ true → Reach (below b) d o
  over-below o i = within-reach b kb size d o i

  once : IsDistinct eqb (over ++ after)
  once =
      distinct-append over after (within-once b kb size d)
      (distinct-filter (is_placed (detach b d)) (births (detach b d)) (rising-once (births (detach b d)) kz.firm.rising))
      (λ o i j. gone o (over-below o i) (after-placed o j))

  all-before : (o : ℕ) → among (over ++ after) o ≡ true → among before o ≡ true
  all-before o i =
      among-cases o over after i (λ j. in-before o (below-placed b kb d o e (over-below o j))) (λ j. in-before o (stayed o (after-placed o j)))

  -- as many as were unrealized are in their places no more
  pub fewer-placed : length over + length after ≤ length before
  fewer-placed =
      let few : length (over ++ after) ≤ length before = length-le_from_is_member nat_eq_equiv (over ++ after) before once all-before in
      omega (arith, few, length-append over after)

  noted : length (unrealize (pin b d) d).notes ≡ length b.notes + length over
  noted = unrealize-notes b kb d (stands-no_bus b kb d e)

-- the weight, and one for each device in its place and each bus of one
abbrev spent : Board → ℕ
spent b = weight b + length (filter (is_placed b) (births b))

detach-spends : (b : Board) (d : ℕ) → SoundDevices b → stands b d ≡ true → spent (detach b d) ≤ spent b
detach-spends b d good e = omega (arith, detach-few b d, noted b d good e, fewer-placed b d good e)

-- the first device whose removal is pending stands in its place
first-on : (b : Board) (rs : List Removal) (r : Removal) → AllByRecursion (λ (x : Removal). IsOn b x.birth) rs → slice_get rs 0 ≡ Some r → IsOn b r.birth
first-on b [] r on e = absurd (let bad : None ≡ Some r = e in cc)
first-on b (x ∷ rs) r on e = subst (λ (y : Removal). IsOn b y.birth) (same_Some x r e) on.0

completed-spends : (times : ℕ) (b : Board) → SoundDevices b → SoundDevices (all_completed times b) × (spent (all_completed times b) ≤ spent b)
completed-spends zero b good = (good, omega arith)
completed-spends (suc times) b good = go (slice_get b.pending 0) refl (completed-spends times)
  where
    go : (o : Option Removal) → slice_get b.pending 0 ≡ o
        → ((c : Board) → SoundDevices c → SoundDevices (all_completed times c) × (spent (all_completed times c) ≤ spent c))
        → SoundDevices (all_completed (suc times) b) × (spent (all_completed (suc times) b) ≤ spent b)
    go None p rest = rw (all_completed, p) (good, omega arith)
    go (Some r) p rest =
        let on : IsOn b r.birth = first-on b b.pending r good.lists.pending p in
        let next = rest (detach b r.birth) (devices_kept_lem.detached b r.birth good on.0) in
        rw (all_completed, p) (next.0, omega (arith, next.1, detach-spends b r.birth good on.0))

-- the reset of the whole board
pub reset-few : (b : Board) → SoundDevices b → length (reset_whole b).notes ≤ length b.notes + (4 * length b.records + 3)
unfolding reset_whole
reset-few b good =
    let c : Board = all_completed (length b.pending) b in
    let done = completed-spends (length b.pending) b good in
    omega (
      arith,
      done.1,
      pulse-notes c MACHINE_BIRTH Cold,
      post-few c (placed c done.0) MACHINE_BIRTH,
      filter-few (is_placed b) (births b),
      length-map b.records (λ (r : Record). r.birth),
    )

-- and one detachment, whatever it is of
pub lone-few : (b : Board) (d : ℕ) → SoundDevices b → length (detach b d).notes ≤ length b.notes + (4 * length b.records + 1)
lone-few b d good = omega (arith, detach-few b d, unrealize-few b (placed b good) d)
