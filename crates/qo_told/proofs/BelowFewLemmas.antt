-- What is gone over below an object is no more than there is, and what is noted of it: as a device is unrealized, and by phases.
use Rattle.std.proofs.Common.{◌≡◌, refl, ap, sym, subst, ◌∙◌, ℕ, zero, suc, ◌+◌, ◌*◌, ◌<◌, ◌≤◌, Bool, true, false, eqb, List, [], ◌∷◌, ◌++◌, filter, length, map, codes, arith}
use Rattle.std.specs.List.{flat_map}
use Rattle.std.proofs.lemmas.List.{length-append, length-map}
use Rattle.std.proofs.lemmas.Map.Made.{length-le_from_is_member}
use Rattle.qo_values.specs.Kinds.{entering}
use Rattle.qo_values.specs.declared.kinds.ResetKind.{ResetKind}
use Rattle.qo_values.specs.declared.properties.Val.TheVariants as val
use Rattle.qo_values.proofs.ListLemmas.{all-imply}
use Rattle.qo_model.proofs.Common.{AllByRecursion, IsDistinct, nat_eq_equiv, MACHINE_BIRTH, MEMORY_BUS_BIRTH, ROOT_BUS_BIRTH, Act, Unrealize, Enter, Hold, Exit, Val, Board, Record, acted, with_act_on, device_period, among, by_depth, buses_of, clock_of, kids_of, births, is_of, did, pin, without_first, below, is_not_in_reset, phased, plugged, post, post_turn, pulse, released, edited, Rises, disconnected, each, set_named, unrealize, unrealize_turn, unrealized_bus, unrealized_device}
use Rattle.qo_model.specs.Reset.{after_hold}
use Rattle.qo_model.specs.declared.notes.Note.{Note}
use Rattle.qo_sound.proofs.AdditionStepsLemmas.{KeepsEdits, step-disconnected, step-set}
use Rattle.qo_sound.proofs.TestLemmas.{clash, decide}
use Rattle.qo_sound_devices.specs.SoundPlaces.{IsAtHome, IsHosted, child_entries, on_device, on_machine}
use Rattle.qo_sound_devices.proofs.AttachmentLemmas.{owns-listed}
use Rattle.qo_sound_devices.proofs.DepthLemmas.{IsBusOf, is-bus_of}
use Rattle.qo_sound_devices.proofs.ListsLemmas.{members}
use Rattle.qo_sound_devices.proofs.PlacesLemmas.{all-listed}
use Rattle.qo_sound_phases.proofs.ForestLemmas.{Reach, further, itself, listed-once, listed-reach}
use Rattle.qo_sound_phases.proofs.ListLemmas.{among-left, among-right, one-among}
use Rattle.qo_sound_phases.proofs.ReachLemmas.{machine-no_bus, machines-listed}
use Rattle.qo_sound_phases.proofs.ResetTreeLemmas.{Placed, forest, leads-cases, no-bus, one-parent, stands-no_bus}
use Rattle.qo_sound_phases.proofs.ShapeLemmas.{SameShape, phased-so, shape-phased, shape-post, shape-records, shape-then}

-- numbers that rise differ
apart : (n : ℕ) (ns : List ℕ) → AllByRecursion (λ (m : ℕ). n < m) ns → AllByRecursion (λ (m : ℕ). eqb n m ≡ false) ns
apart n ns h = all-imply (λ (m : ℕ). n < m) (λ (m : ℕ). eqb n m ≡ false) (λ m low. grind (arith, low)) ns h

pub rising-once : (ns : List ℕ) → Rises ns → IsDistinct eqb ns
unfolding IsDistinct
rising-once [] h = tt
rising-once (n ∷ ns) h = (apart n ns h.0, rising-once ns h.1)

pub filter-few : (p : ℕ → Bool) (ns : List ℕ) → length (filter p ns) ≤ length ns
filter-few p [] = omega arith
filter-few p (n ∷ ns) = go (p n) refl (filter-few p ns)
  where
    go : (t : Bool) → p n ≡ t → length (filter p ns) ≤ length ns → length (filter p (n ∷ ns)) ≤ length (n ∷ ns)
    go true e rest = rw e (omega (arith, rest))
    go false e rest = rw e (omega (arith, rest))

-- acts and phases

pub acted-notes : (act : Act) (n period : ℕ) (b : Board) → length (acted act n period b).notes ≡ length b.notes + 1
unfolding acted
acted-notes act n period b = length-append b.notes (did act n ∷ [])

pub acted-size : (act : Act) (n period : ℕ) (b : Board) → length (acted act n period b).records ≡ length b.records
unfolding acted
acted-size act n period b = length-map b.records (edited n (with_act_on act b.now period))

pub phased-notes : (act : Act) (os : List ℕ) (b : Board) → length (phased act os b).notes ≡ length b.notes + length os
phased-notes act os b =
    let same : length (phased act os b).notes ≡ length (b.notes ++ map (did act) os) =
    ap (λ (xs : List Note). length xs) (phased-so act os b).notes in
    omega (arith, same, length-append b.notes (map (did act) os), length-map os (did act))

-- as many objects
pub shape-size : (b c : Board) → SameShape b c → length c.records ≡ length b.records
shape-size b c h =
    omega (arith, h.size, length-map b.records (λ (r : Record). r.birth), length-map c.records (λ (r : Record). r.birth))

-- holds

pub held-notes : (b : Board) (r : ℕ) (kind : ResetKind) → length (after_hold b r kind).notes ≤ length b.notes + 2 * length (post b r)
unfolding after_hold
held-notes b r kind =
    let os : List ℕ = filter (is_not_in_reset b) (post b r) in
    omega (arith, phased-notes (entering kind) os b, phased-notes Hold os (phased (entering kind) os b), filter-few (is_not_in_reset b) (post b r))

held-shape : (b : Board) (r : ℕ) (kind : ResetKind) → SameShape b (after_hold b r kind)
unfolding after_hold
held-shape b r kind =
    let os : List ℕ = filter (is_not_in_reset b) (post b r) in
    let one : Board = phased (entering kind) os b in
    let two : Board = phased Hold os one in
    shape-then b one (record two { holds = b.holds ++ r ∷ [] }) (shape-phased (entering kind) os b)
    (shape-then one two (record two { holds = b.holds ++ r ∷ [] }) (shape-phased Hold os one) (shape-records two (record two { holds = b.holds ++ r ∷ [] }) refl))

pub released-notes : (b : Board) (r : ℕ) → length (released b r).notes ≤ length b.notes + length (post b r)
unfolding released
released-notes b r =
    let c : Board = record b { holds = without_first r b.holds } in
    let same : length (post c r) ≡ length (post b r) = ap (λ (xs : List ℕ). length xs) (shape-post b c (shape-records b c refl) r) in
    omega (arith, phased-notes Exit (filter (is_not_in_reset c) (post c r)) c, filter-few (is_not_in_reset c) (post c r), same)

pub pulse-notes : (b : Board) (r : ℕ) (kind : ResetKind) → length (pulse b r kind).notes ≤ length b.notes + 3 * length (post b r)
unfolding pulse
pulse-notes b r kind =
    let same : length (post (after_hold b r kind) r) ≡ length (post b r) =
    ap (λ (xs : List ℕ). length xs) (shape-post b (after_hold b r kind) (held-shape b r kind) r) in
    omega (arith, released-notes (after_hold b r kind) r, held-notes b r kind, same)

pub plugged-notes : (b : Board) (d : ℕ) → length (plugged b d).notes ≤ length b.notes + 3 * length (post b d)
unfolding plugged
plugged-notes b d =
    let os : List ℕ = post b d in
    let one : Board = phased Enter os b in
    let two : Board = phased Hold os one in
    omega (
      arith,
      phased-notes Enter os b,
      phased-notes Hold os one,
      phased-notes Exit (filter (is_not_in_reset b) os) two,
      filter-few (is_not_in_reset b) os,
    )

-- one that is unrealized

same-notes : (notes : List Note) → KeepsEdits (λ (c : Board). c.notes ≡ notes)
same-notes notes n change leaves c h = h

-- a number of a clock, or another value, is no note
pub set-notes : (n : ℕ) (name : List ℕ) (v : Val) (b : Board) → (set_named n name v b).notes ≡ b.notes
set-notes n name v b = step-set (λ (c : Board). c.notes ≡ b.notes) (same-notes b.notes) n name v b refl

device-notes : (d : ℕ) (c : Board) → length (unrealized_device d c).notes ≡ length c.notes + 1
device-notes d c =
    let was : Board = acted Unrealize d (device_period c d) c in
    let left : (disconnected (clock_of c d) was).notes ≡ was.notes =
    step-disconnected (λ (x : Board). x.notes ≡ was.notes) (same-notes was.notes) (clock_of c d) was refl in
    ap (λ (xs : List Note). length xs) (set-notes d (codes "realized") (val.Bool false) (disconnected (clock_of c d) was) ∙ left)
    ∙ acted-notes Unrealize d (device_period c d) c

bus-notes : (m : ℕ) (c : Board) → length (unrealized_bus m c).notes ≡ length c.notes + 1
bus-notes m c = acted-notes Unrealize m 0 c

-- of some, one after another
abbrev Adds : (ℕ → Board → Board) → (ℕ → List ℕ) → ℕ → Type 0
Adds f g n = (c : Board) → length (f n c).notes ≡ length c.notes + length (g n)

each-notes : (f : ℕ → Board → Board) (g : ℕ → List ℕ) (ns : List ℕ) → AllByRecursion (Adds f g) ns → (c : Board)
    → length (each f ns c).notes ≡ length c.notes + length (flat_map g ns)
each-notes f g [] h c = omega arith
each-notes f g (n ∷ ns) h c = omega (arith, each-notes f g ns h.1 (f n c), h.0 c, length-append (g n) (flat_map g ns))

each-among : (P : ℕ → Type 0) (ns : List ℕ) → ((n : ℕ) → among ns n ≡ true → P n) → AllByRecursion P ns
each-among P ns h = all-imply (λ (n : ℕ). among ns n ≡ true) P h ns (members ns)

none-among : (ns : List ℕ) → ((n : ℕ) → among ns n ≡ true → ⊥) → ns ≡ []
none-among [] h = refl
none-among (n ∷ ns) h = absurd (h n (among-left n (n ∷ []) ns (one-among n)))

-- all that is below an object, and it, to a depth
abbrev pub within : Board → ℕ → ℕ → List ℕ
within b depth o = by_depth (post_turn b) (λ _. []) depth o

module _ (b : Board) (k : Placed b) where
  abbrev ways : ℕ → ℕ → Board → Board
  ways depth = by_depth (unrealize_turn b) (λ d c. c) depth

  -- none is gone over twice, and each but the first is there
  pub within-once : (depth r : ℕ) → IsDistinct eqb (within b depth r)
  within-once depth r = listed-once (below b) (births b) (forest b k) depth r

  pub within-reach : (depth r o : ℕ) → among (within b depth r) o ≡ true → Reach (below b) r o
  within-reach depth r o e = listed-reach (below b) depth r o e

  reach-there : (r o : ℕ) → Reach (below b) r o → among (r ∷ births b) o ≡ true
  reach-there r o itself = among-left r (r ∷ []) (births b) (one-among r)
  reach-there r o (further {p} h e) = among-right o (r ∷ []) (births b) ((forest b k).there p o e)

  pub within-few : (depth r : ℕ) → length (within b depth r) ≤ length b.records + 1
  within-few depth r =
      let few : length (within b depth r) ≤ length (r ∷ births b) =
      length-le_from_is_member nat_eq_equiv (within b depth r) (r ∷ births b) (within-once depth r)
      (λ o there. reach-there r o (within-reach depth r o there)) in
      omega (arith, few, length-map b.records (λ (x : Record). x.birth))

  pub post-few : (r : ℕ) → length (post b r) ≤ length b.records + 1
  unfolding post
  post-few r = within-few (suc (length (births b))) r

  kids-below : (m : ℕ) → is_of b (codes "bus") m ≡ true → below b m ≡ kids_of b m
  kids-below m e = rw e refl

  buses-below : (d : ℕ) → is_of b (codes "bus") d ≡ false → below b d ≡ buses_of b d
  buses-below d e = rw e refl

  kid-apart : (m d : ℕ) → is_of b (codes "bus") m ≡ true → among (kids_of b m) d ≡ true → is_of b (codes "bus") d ≡ false
  kid-apart m d bus there =
      leads-cases b k m d (subst (λ (xs : List ℕ). among xs d ≡ true) (sym (kids-below m bus)) there) (λ yes s on. stands-no_bus b k d s)
      (λ no is owned. clash (sym bus ∙ no))

  -- of a device and what is below it each notes that it is unrealized
  bus-adds : (depth : ℕ) → ((d : ℕ) → is_of b (codes "bus") d ≡ false → Adds (ways depth) (within b (depth + depth)) d) → (m : ℕ)
      → is_of b (codes "bus") m ≡ true → Adds (λ m e. unrealized_bus m (each (ways depth) (kids_of b m) e)) (within b (suc (depth + depth))) m
  bus-adds depth turns m bus e =
      let kids = each-notes (ways depth) (within b (depth + depth)) (kids_of b m)
      (each-among (Adds (ways depth) (within b (depth + depth))) (kids_of b m) (λ n there. turns n (kid-apart m n bus there))) e in
      let mine : length (within b (suc (depth + depth)) m) ≡ length (flat_map (within b (depth + depth)) (kids_of b m)) + 1 =
      length-append (flat_map (within b (depth + depth)) (below b m)) (m ∷ [])
      ∙ ap (λ (xs : List ℕ). length (flat_map (within b (depth + depth)) xs) + 1) (kids-below m bus) in
      omega (arith, bus-notes m (each (ways depth) (kids_of b m) e), kids, mine)

  turns-add : (depth d : ℕ) → is_of b (codes "bus") d ≡ false → Adds (ways depth) (within b (depth + depth)) d
  turns-add zero d apart c = omega arith
  turns-add (suc depth) d apart c =
      let buses = each-notes (λ m e. unrealized_bus m (each (ways depth) (kids_of b m) e)) (within b (suc (depth + depth))) (buses_of b d)
      (each-among (Adds (λ m e. unrealized_bus m (each (ways depth) (kids_of b m) e)) (within b (suc (depth + depth)))) (buses_of b d)
      (λ m there. bus-adds depth (turns-add depth) m (is-bus_of b d m there).bus)) c in
      let mine : length (within b (suc (suc (depth + depth))) d) ≡ length (flat_map (within b (suc (depth + depth))) (buses_of b d)) + 1 =
      length-append (flat_map (within b (suc (depth + depth))) (below b d)) (d ∷ [])
      ∙ ap (λ (xs : List ℕ). length (flat_map (within b (suc (depth + depth))) xs) + 1) (buses-below d apart) in
      let twice : suc depth + suc depth ≡ suc (suc (depth + depth)) = omega arith in
      let step : length (ways (suc depth) d c).notes ≡ length c.notes + length (within b (suc (suc (depth + depth))) d) =
      omega (arith, device-notes d (each (λ m e. unrealized_bus m (each (ways depth) (kids_of b m) e)) (buses_of b d) c), buses, mine) in
      subst (λ (n : ℕ). length (ways (suc depth) d c).notes ≡ length c.notes + length (within b n d)) (sym twice) step

  pub unrealize-notes : (d : ℕ) → is_of b (codes "bus") d ≡ false
      → length (unrealize (pin b d) d).notes ≡ length b.notes + length (within b (suc (length (births b)) + suc (length (births b))) d)
  unfolding unrealize pin
  unrealize-notes d apart = turns-add (suc (length (births b))) d apart (pin b d)

  -- a bus has no buses: no device is a bus, and neither is the machine
  no-buses : (d : ℕ) → is_of b (codes "bus") d ≡ true → buses_of b d ≡ []
  no-buses d bus = none-among (buses_of b d) (λ m there. none m (is-bus_of b d m there))
    where
      hosted : (x : List ℕ × ℕ) → IsHosted b d x → among (ROOT_BUS_BIRTH ∷ MEMORY_BUS_BIRTH ∷ []) x.1 ≡ true
      hosted x (on_machine u) = u
      hosted x (on_device is other) = clash (sym bus ∙ no-bus b d is)

      at_machine : (m : ℕ) → IsBusOf b d m → among (ROOT_BUS_BIRTH ∷ MEMORY_BUS_BIRTH ∷ []) m ≡ true
      at_machine m its =
          all-listed (λ (x : ℕ). is_of b (codes "bus") x ≡ true → among (ROOT_BUS_BIRTH ∷ MEMORY_BUS_BIRTH ∷ []) x ≡ true) (child_entries b d)
          (all-imply (IsAtHome b d)
          (λ (x : List ℕ × ℕ). is_of b (codes "bus") x.1 ≡ true → among (ROOT_BUS_BIRTH ∷ MEMORY_BUS_BIRTH ∷ []) x.1 ≡ true) (λ x i e. hosted x (i.bus e))
          (child_entries b d) (k.places.children d))
          m (owns-listed m (child_entries b d) its.owned) its.bus

      none : (m : ℕ) → IsBusOf b d m → ⊥
      none m its =
          let at : d ≡ MACHINE_BIRTH =
          one-parent b k d MACHINE_BIRTH m (owns-listed m (child_entries b d) its.owned) (machines-listed b k m (at_machine m its)) in
          clash (sym bus ∙ ap (is_of b (codes "bus")) at ∙ machine-no_bus b k)

  lone-notes : (d : ℕ) → buses_of b d ≡ [] → length (unrealize (pin b d) d).notes ≡ length b.notes + 1
  unfolding unrealize pin
  lone-notes d none =
      subst
      (λ (ms : List ℕ). length (unrealized_device d (each (λ m e. unrealized_bus m (each (ways (length (births b))) (kids_of b m) e)) ms (pin b d))).notes
      ≡ length b.notes + 1)
      (sym none) (device-notes d (pin b d))

  -- whatever is unrealized
  pub unrealize-few : (d : ℕ) → length (unrealize (pin b d) d).notes ≤ length b.notes + (length b.records + 1)
  unrealize-few d =
      decide (is_of b (codes "bus") d) (λ bus. omega (arith, lone-notes d (no-buses d bus)))
      (λ apart. omega (arith, unrealize-notes d apart, within-few (suc (length (births b)) + suc (length (births b))) d))
