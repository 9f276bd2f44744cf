-- What a reset goes over on a sound board: each object is below one other at most, and the list has none twice.
use Rattle.std.proofs.Common.{◌≡◌, refl, ap, sym, subst, ◌∙◌, ℕ, suc, ◌+◌, ◌*◌, ◌<◌, ◌≤◌, Bool, true, false, not, ◌&&◌, ◌==◌, eqb, List, [], ◌∷◌, filter_map, length, sum_by, Option, Some, None, unwrap_or, arith, codes}
use Rattle.qo_model.proofs.Common.{if◌then◌else◌, AllByRecursion, IsDistinct, option_map_or, bytes_eq, TypeId, Board, Record, Slot, plain, child, strong, weak, alias, kind_of, record_of, slots_at, among, leads, bus_in, bus_of, buses_of, clock_name, kid_name, kids_of, bus_slot_of, strong_in, births, is_child, is_of, below, post}
use Rattle.std.proofs.lemmas.Bool.{eqb-true, eq-eqb}
use Rattle.std.proofs.lemmas.List.Sums.{sum_by-cons}
use Rattle.std.proofs.lemmas.Option.{same_Some}
use Rattle.std.proofs.lemmas.Slice.Eq.{bytes_eq-Decides}
use Rattle.qo_model.proofs.ReleaseLemmas.{found-within}
use Rattle.qo_model.proofs.StepLemmas.{live-among}
use Rattle.qo_sound.proofs.FirmBoardLemmas.{WellFormed, parents_in}
use Rattle.qo_values.proofs.ListLemmas.{all-imply}
use Rattle.qo_sound.proofs.SlotLemmas.{names_in, one_child}
use Rattle.qo_sound.proofs.TestLemmas.{decide, clash, clash-back}
use Rattle.qo_sound.proofs.ViewLemmas.{rest-from_sound}
use Rattle.qo_sound_devices.specs.SoundDevices.{SoundDevices}
use Rattle.qo_sound_devices.specs.SoundPlaces.{child_entries, IsHome, IsKid, kid_entries, kid_entry, listed, owns, PlacesBut, stands}
use Rattle.qo_sound_devices.proofs.AttachmentLemmas.{owns-listed, parent-is}
use Rattle.qo_sound_devices.proofs.DetachmentLemmas.{listed-kid, owned-bus}
use Rattle.qo_sound_devices.proofs.DropLemmas.{names-at}
use Rattle.qo_sound_devices.proofs.AdditionLemmas.{device-no_bus}
use Rattle.qo_sound_devices.proofs.DepthLemmas.{is-bus_of, IsBusOf, kid-of, kids-listed}
use Rattle.qo_sound_devices.proofs.PlacesLemmas.{of-live}
use Rattle.qo_sound_devices.proofs.PlugLemmas.{stands-device}
use Rattle.qo_sound_phases.proofs.ForestLemmas.{IsForest, listed-once, listed-reach, Reach, reach-listed}
use Rattle.qo_model.proofs.AmongLemmas.{among-apart}

-- a board whose tree and places are sound
pub record Placed (b : Board) : Type 0 where
  pub depth : ℕ → ℕ
  pub places : PlacesBut depth None (λ d. false) b
  pub firm : WellFormed b

pub placed : (b : Board) → SoundDevices b → Placed b
placed b h = record { depth = h.places.0; places = h.places.1; firm = (rest-from_sound b h.tree).used.firm }

-- kids are listed once, where each stands under the name of its own place
module _ (place : ℕ → List ℕ) where
  none-later : (name : List ℕ) (m : ℕ) → name ≡ place m → (slots : List (List ℕ × Slot))
      → AllByRecursion (λ y. bytes_eq name y ≡ false) (names_in slots)
      → AllByRecursion (λ (e : List ℕ × ℕ). e.0 ≡ place e.1) (filter_map kid_entry slots)
      → AllByRecursion (λ y. eqb m y ≡ false) (filter_map (λ (s : List ℕ × Slot). strong_in s.1) slots)
  none-later name m is [] a h = tt
  none-later name m is ((other, plain v) ∷ slots) a h = none-later name m is slots a.1 h
  none-later name m is ((other, child k) ∷ slots) a h = none-later name m is slots a.1 h
  none-later name m is ((other, weak t target) ∷ slots) a h = none-later name m is slots a.1 h
  none-later name m is ((other, alias k property) ∷ slots) a h = none-later name m is slots a.1 h
  none-later name m is ((other, strong t None) ∷ slots) a h = none-later name m is slots a.1 h
  none-later name m is ((other, strong t (Some k)) ∷ slots) a h = (go (eqb m k) refl, none-later name m is slots a.1 h.1)
    where
      go : (u : Bool) → eqb m k ≡ u → eqb m k ≡ false
      go false p = p
      go true p =
          let same : name ≡ other = is ∙ ap place (eqb-true m k p) ∙ sym h.0 in
          clash (sym ((bytes_eq-Decides name other).1 same) ∙ a.0)

  kids-once : (slots : List (List ℕ × Slot)) → IsDistinct bytes_eq (names_in slots)
      → AllByRecursion (λ (e : List ℕ × ℕ). e.0 ≡ place e.1) (filter_map kid_entry slots)
      → IsDistinct eqb (filter_map (λ (s : List ℕ × Slot). strong_in s.1) slots)
  unfolding IsDistinct
  kids-once [] d h = tt
  kids-once ((name, plain v) ∷ slots) d h = kids-once slots d.1 h
  kids-once ((name, child m) ∷ slots) d h = kids-once slots d.1 h
  kids-once ((name, weak t target) ∷ slots) d h = kids-once slots d.1 h
  kids-once ((name, alias m property) ∷ slots) d h = kids-once slots d.1 h
  kids-once ((name, strong t None) ∷ slots) d h = kids-once slots d.1 h
  kids-once ((name, strong t (Some m)) ∷ slots) d h = (none-later name m h.0 slots d.0 h.1, kids-once slots d.1 h.1)

-- buses are listed once, where none is a child twice
bus-counted : (b : Board) (m : ℕ) (slots : List (List ℕ × Slot)) → among (filter_map (bus_in b) slots) m ≡ true
    → 1 ≤ sum_by (one_child m) slots
bus-counted b m [] e = clash-back e
bus-counted b m ((name, plain v) ∷ slots) e = bus-counted b m slots e
bus-counted b m ((name, strong t target) ∷ slots) e = bus-counted b m slots e
bus-counted b m ((name, weak t target) ∷ slots) e = bus-counted b m slots e
bus-counted b m ((name, alias k property) ∷ slots) e = bus-counted b m slots e
bus-counted b m ((name, child k) ∷ slots) e = go (k == m) refl (bus_in b (name, child k)) refl (bus-counted b m slots)
  where
    named : (o : Option ℕ) → bus_in b (name, child k) ≡ o → (x : ℕ) → o ≡ Some x → x ≡ k
    named o q x r = from (is_of b (codes "bus") k && not (bytes_eq name clock_name)) refl
      where
        from : (t : Bool) → (is_of b (codes "bus") k && not (bytes_eq name clock_name)) ≡ t → x ≡ k
        from true w = let is : Some k ≡ o = rw w at q in sym (same_Some k x (is ∙ r))
        from false w = let is : None ≡ o = rw w at q in absurd (let bad : None ≡ Some x = is ∙ r in cc)

    go : (t : Bool) → (k == m) ≡ t → (o : Option ℕ) → bus_in b (name, child k) ≡ o
        → (among (filter_map (bus_in b) slots) m ≡ true → 1 ≤ sum_by (one_child m) slots)
        → 1 ≤ sum_by (one_child m) ((name, child k) ∷ slots)
    go true p o q rest = let one : one_child m (name, child k) ≡ 1 = rw p refl in omega (arith, one, sum_by-cons (one_child m) (name, child k) slots)
    go false p None q rest = omega (arith, rest (rw q at e), sum_by-cons (one_child m) (name, child k) slots)
    go false p (Some x) q rest = omega (arith, rest (skip (eqb m x) refl), sum_by-cons (one_child m) (name, child k) slots)
      where
        skip : (t : Bool) → eqb m x ≡ t → among (filter_map (bus_in b) slots) m ≡ true
        skip false w = rw (q, w) at e
        skip true w = clash (let is : m ≡ k = eqb-true m x w ∙ named (Some x) q x refl in let own : (k == m) ≡ true = eq-eqb k m (sym is) in sym own ∙ p)

buses-once : (b : Board) (slots : List (List ℕ × Slot)) → ((x : ℕ) → sum_by (one_child x) slots ≤ 1)
    → IsDistinct eqb (filter_map (bus_in b) slots)
unfolding IsDistinct
buses-once b [] few = tt
buses-once b (s ∷ slots) few = go (bus_in b s) refl (buses-once b slots (λ x. omega (arith, few x, sum_by-cons (one_child x) s slots)))
  where
    here : (y : List ℕ × Slot) (x : ℕ) → bus_in b y ≡ Some x → is_child x y.1 ≡ true
    here (name, plain v) x e = cc
    here (name, strong t target) x e = cc
    here (name, weak t target) x e = cc
    here (name, alias k property) x e = cc
    here (name, child k) x e = from (is_of b (codes "bus") k && not (bytes_eq name clock_name)) refl
      where
        from : (t : Bool) → (is_of b (codes "bus") k && not (bytes_eq name clock_name)) ≡ t → (k == x) ≡ true
        from true w = eq-eqb k x (same_Some k x (rw w at e))
        from false w = absurd (let bad : None ≡ Some x = rw w at e in cc)

    go : (o : Option ℕ) → bus_in b s ≡ o → IsDistinct eqb (filter_map (bus_in b) slots) → IsDistinct eqb (filter_map (bus_in b) (s ∷ slots))
    go None e rest = rw e rest
    go (Some x) e rest = rw e (among-apart x (filter_map (bus_in b) slots) (none (among (filter_map (bus_in b) slots) x) refl), rest)
      where
        none : (t : Bool) → among (filter_map (bus_in b) slots) x ≡ t → among (filter_map (bus_in b) slots) x ≡ false
        none false q = q
        none true q =
            let one : one_child x s ≡ 1 = rw (here s x e) refl in
            let more : 1 ≤ sum_by (one_child x) slots = bus-counted b x slots q in
            absurd (omega (arith, one, more, few x, sum_by-cons (one_child x) s slots))

-- no device is a bus
pub no-bus : (b : Board) (d : ℕ) → is_of b (codes "device") d ≡ true → is_of b (codes "bus") d ≡ false
no-bus b d e = go (kind_of b d) refl
  where
    go : (o : Option TypeId) → kind_of b d ≡ o → is_of b (codes "bus") d ≡ false
    go None q = rw q refl
    go (Some t) q = rw q (device-no_bus t (rw q at e))

module _ (b : Board) (k : Placed b) where
  depth : ℕ → ℕ
  depth = k.depth

  h : PlacesBut k.depth None (λ d. false) b
  h = k.places

  pub stands-no_bus : (d : ℕ) → stands b d ≡ true → is_of b (codes "bus") d ≡ false
  stands-no_bus d e = no-bus b d (stands-device k.depth None (λ x. false) b k.places d e)

  -- one step down: to a kid of a bus, or to a bus
  pub leads-cases : (p m : ℕ) → leads (below b) p m ≡ true → {A : Type 0}
      → (is_of b (codes "bus") p ≡ true → stands b m ≡ true → bus_of b m ≡ Some p → A)
      → (is_of b (codes "bus") p ≡ false → is_of b (codes "bus") m ≡ true → owns b p m ≡ true → A) → A
  leads-cases p m e {A} f g = go (is_of b (codes "bus") p) refl
    where
      go : (t : Bool) → is_of b (codes "bus") p ≡ t → A
      go true q =
          let i : among (kids_of b p) m ≡ true = rw (below, q) at e in
          let kid : (stands b m ≡ true) × (bus_of b m ≡ Some p) = kid-of k.depth None (λ x. false) b k.places p m q (kids-listed m (slots_at b p) i) in
          f q kid.0 kid.1
      go false q =
          let i : among (buses_of b p) m ≡ true = rw (below, q) at e in
          let its : IsBusOf b p m = is-bus_of b p m i in
          g q its.bus its.owned

  pub kid-leads : (d p : ℕ) → stands b d ≡ true → bus_of b d ≡ Some p → leads (below b) p d ≡ true
  kid-leads d p e on =
      let home : IsHome b d = k.places.home d e (λ z. cc) in
      let is : home.bus ≡ p = same_Some home.bus p (sym home.on ∙ on) in
      let bus : is_of b (codes "bus") p ≡ true = subst (λ (x : ℕ). is_of b (codes "bus") x ≡ true) is home.is_bus in
      let kid : listed d (kid_entries b p) ≡ true = subst (λ (x : ℕ). listed d (kid_entries b x) ≡ true) is home.kid in
      rw (below, bus) (listed-kid d (slots_at b p) kid)

  pub bus-leads : (p m : ℕ) → is_of b (codes "bus") p ≡ false → is_of b (codes "bus") m ≡ true → owns b p m ≡ true → leads (below b) p m ≡ true
  bus-leads p m apart is o = rw (below, apart) (owned-bus b m is (slots_at b p) o)

  pub one-parent : (p q m : ℕ) → listed m (child_entries b p) ≡ true → listed m (child_entries b q) ≡ true → p ≡ q
  one-parent p q m e f = same_Some p q (sym (parent-is b k.firm p m e) ∙ parent-is b k.firm q m f)

  one_above : (p q m : ℕ) → leads (below b) p m ≡ true → leads (below b) q m ≡ true → p ≡ q
  one_above p q m e f =
      leads-cases p m e
      (λ bus s on.
      leads-cases q m f (λ its t at. same_Some p q (sym on ∙ at))
      (λ apart is o. clash (sym is ∙ stands-no_bus m s)))
      (λ apart is o.
      leads-cases q m f (λ its t at. clash (sym is ∙ stands-no_bus m t))
      (λ also its at. one-parent p q m (owns-listed m (child_entries b p) o) (owns-listed m (child_entries b q) at)))

  -- how far down an object is
  on_bus : Option ℕ → ℕ
  on_bus None = 0
  on_bus (Some q) = 2 * k.depth q + 2

  rank : ℕ → ℕ
  rank o = if is_of b (codes "bus") o then 2 * k.depth o + 1 else if stands b o then on_bus (bus_of b o) else 0

  rank-bus : (o : ℕ) → is_of b (codes "bus") o ≡ true → rank o ≡ 2 * k.depth o + 1
  unfolding rank
  rank-bus o e = rw e refl

  rank-device : (o q : ℕ) → stands b o ≡ true → bus_of b o ≡ Some q → rank o ≡ 2 * k.depth q + 2
  unfolding rank on_bus
  rank-device o q e on = rw (stands-no_bus o e, e, on) refl

  rank-other : (o : ℕ) → is_of b (codes "bus") o ≡ false → stands b o ≡ false → rank o ≡ 0
  unfolding rank
  rank-other o e f = rw (e, f) refl

  rises : (p m : ℕ) → leads (below b) p m ≡ true → rank p < rank m
  rises p m e =
      leads-cases p m e
      (λ bus s on. let low : rank p ≡ 2 * k.depth p + 1 = rank-bus p bus in let high : rank m ≡ 2 * k.depth p + 2 = rank-device m p s on in omega
      (arith, low, high))
      (λ apart is o. decide (stands b p) (λ s. deeper s is o)
      (λ s. let low : rank p ≡ 0 = rank-other p apart s in let high : rank m ≡ 2 * k.depth m + 1 = rank-bus m is in omega (arith, low, high)))
    where
      deeper : stands b p ≡ true → is_of b (codes "bus") m ≡ true → owns b p m ≡ true → rank p < rank m
      deeper s is o =
          let home : IsHome b p = k.places.home p s (λ z. cc) in
          let one : k.depth m ≡ suc (k.depth home.bus) = k.places.shallow.below p home.bus m s home.on o in
          let low : rank p ≡ 2 * k.depth home.bus + 2 = rank-device p home.bus s home.on in
          let high : rank m ≡ 2 * k.depth m + 1 = rank-bus m is in
          omega (arith, low, high, one)

  once : (p : ℕ) → IsDistinct eqb (below b p)
  unfolding IsDistinct
  once p = at_record (record_of b p) refl
    where
      at_record : (o : Option Record) → record_of b p ≡ o → IsDistinct eqb (below b p)
      at_record None e =
          decide (is_of b (codes "bus") p) (λ q. rw (below, q, e) tt) (λ q. rw (below, q, e) tt)
      at_record (Some r) e = decide (is_of b (codes "bus") p) kids buses
        where
          was : slots_at b p ≡ r.slots
          was = ap (λ (o : Option Record). option_map_or (λ (x : Record). x.slots) o []) e

          kids : is_of b (codes "bus") p ≡ true → IsDistinct eqb (below b p)
          kids q =
              rw (below, q)
              (kids-once (λ m. kid_name (unwrap_or (bus_slot_of b m) 0)) (slots_at b p)
              (subst (λ (ss : List (List ℕ × Slot)). IsDistinct bytes_eq (names_in ss)) (sym was) (names-at b k.firm p r e))
              (all-imply (IsKid b p) (λ (x : List ℕ × ℕ). x.0 ≡ kid_name (unwrap_or (bus_slot_of b x.1) 0)) named (kid_entries b p) (k.places.kids p q)))
            where
              named : (x : List ℕ × ℕ) → IsKid b p x → x.0 ≡ kid_name (unwrap_or (bus_slot_of b x.1) 0)
              named x i = i.slot.1.1.1 ∙ ap (λ (o : Option ℕ). kid_name (unwrap_or o 0)) (sym i.slot.1.1.0)

          buses : is_of b (codes "bus") p ≡ false → IsDistinct eqb (below b p)
          buses q =
              rw (below, q)
              (buses-once b (slots_at b p)
              (λ x.
              subst (λ (ss : List (List ℕ × Slot)). sum_by (one_child x) ss ≤ 1) (sym was)
              (omega (arith, found-within (parents_in x) p b.records r e, k.firm.one_parent x))))

  there : (p m : ℕ) → leads (below b) p m ≡ true → among (births b) m ≡ true
  there p m e =
      sym (live-among b m)
      ∙ leads-cases p m e (λ bus s on. of-live b (codes "device") m (stands-device k.depth None (λ x. false) b k.places m s))
      (λ apart is o. of-live b (codes "bus") m is)

  pub forest : IsForest (below b) (births b)
  forest = record { rank = rank; rises = rises; one_above = one_above; once = once; there = there }

  -- the order of a phase
  pub post-once : (r : ℕ) → IsDistinct eqb (post b r)
  unfolding post
  post-once r = listed-once (below b) (births b) forest (suc (length (births b))) r

  pub post-reach : (r o : ℕ) → among (post b r) o ≡ true → Reach (below b) r o
  unfolding post
  post-reach r o e = listed-reach (below b) (suc (length (births b))) r o e

  pub reach-post : (r o : ℕ) → Reach (below b) r o → among (post b r) o ≡ true
  unfolding post
  reach-post r o e = reach-listed (below b) (births b) forest r o e
