-- A device that was made, and stands nowhere, leaves what is below and above the buses of before.
use Rattle.std.proofs.Common.{◌≡◌, refl, ap, sym, ◌∙◌, ℕ, suc, ◌+◌, ◌<◌, ◌≤◌, Bool, true, false, ◌==◌, List, [], ◌∷◌, ◌++◌, codes, find, map, Option, Some, None, is_some, option_map, arith}
use Rattle.std.specs.Prelude.{if◌then◌else◌, option_and_then, unwrap_or}
use Rattle.std.specs.List.{AllByRecursion}
use Rattle.std.specs.Option.{option_map_or, option_or}
use Rattle.std.specs.Str.{bytes_eq}
use Rattle.std.proofs.lemmas.Bool.Decides.{nat_tests}
use Rattle.std.proofs.lemmas.List.Folds.{find-append}
use Rattle.std.proofs.lemmas.Option.{same_Some}
use Rattle.qo_values.specs.declared.births.TheConstants.{SYSTEM_CLOCK_BIRTH}
use Rattle.qo_values.specs.declared.kinds.TypeId.{TypeId}
use Rattle.qo_model.specs.Board.{Board, Record, Slot, plain, child, strong, weak, alias, is_live, record_of}
use Rattle.qo_model.specs.Changes as changes
use Rattle.qo_model.specs.Devices.{child_named, clock_of}
use Rattle.qo_model.specs.Objects.{Given}
use Rattle.qo_model.specs.Paths.{is_child, is_of, place_in, place_of}
use Rattle.qo_model.specs.Plug.{drafted, source_for}
use Rattle.qo_model.specs.Release.{edit}
use Rattle.qo_model.specs.Types.{is_a, slots_of}
use Rattle.qo_model.proofs.AttemptLemmas.{AreKids, BareSlot, HasFurtherObjects, star-kids}
use Rattle.qo_model.proofs.DraftEndsLemmas.{IsDraft, kids_from, kinds_in}
use Rattle.qo_sound.specs.TreeKept.{SoundTree}
use Rattle.qo_sound.proofs.DraftLemmas.{with_pins}
use Rattle.qo_plug.specs.Drafts.{given_draft, with_values}
use Rattle.qo_plug.proofs.CutLemmas.{draft-made, given-is, held, rest}

-- a board with records after those of before
or-none : {X : Type 0} (o p : Option X) → p ≡ None → option_or o p ≡ o
or-none None p e = e
or-none (Some x) p e = refl

find-old : (p : Record → Bool) (rs news : List Record) → find p news ≡ None → find p (rs ++ news) ≡ find p rs
find-old p rs news none = find-append p rs news ∙ or-none (find p rs) (find p news) none

find-low : (p : Record → Bool) (k : ℕ) (rs : List Record) (r : Record) → AllByRecursion (λ m. m ≤ k) (map (λ (x : Record). x.birth) rs) → find p rs ≡ Some r
    → r.birth ≤ k
find-low p k [] r low e = cc
find-low p k (x ∷ rs) r low e = go (p x) refl (find-low p k rs r low.1)
  where
    go : (t : Bool) → p x ≡ t → (find p rs ≡ Some r → r.birth ≤ k) → r.birth ≤ k
    go true q rest = let same : x ≡ r = same_Some x r (rw q at e) in let lower : x.birth ≤ k = low.0 in rw (sym same) lower
    go false q rest = rest (rw q at e)

-- no new record has an object of before as a child, or its birth

star-none : (n m lo : ℕ) (ss : List (List ℕ × Slot)) (ls : List Record) → m ≤ lo → HasFurtherObjects n lo ss ls
    → find (λ (s : List ℕ × Slot). is_child m s.1) ss ≡ None
star-none n m lo [] ls le h = refl
star-none n m lo ((name, child x) ∷ ss) [] le h = absurd h
star-none n m lo ((name, child x) ∷ ss) (k ∷ ls) le h =
    let up : lo < x = h.0 in
    let other : (x == m) ≡ false = grind (arith, nat_tests, le, up) in
    rw other (star-none n m x ss ls (omega arith) h.2.1)
star-none n m lo ((name, strong t None) ∷ ss) ls le h = star-none n m lo ss ls le h
star-none n m lo ((name, strong t (Some x)) ∷ ss) ls le h = absurd h
star-none n m lo ((name, weak t target) ∷ ss) ls le h = star-none n m lo ss ls le h.1
star-none n m lo ((name, plain v) ∷ ss) ls le h = star-none n m lo ss ls le h
star-none n m lo ((name, alias x p) ∷ ss) ls le h = star-none n m lo ss ls le h

bare-none : (n m : ℕ) (ss : List (List ℕ × Slot)) → AllByRecursion (λ (s : List ℕ × Slot). BareSlot n s.1) ss
    → find (λ (s : List ℕ × Slot). is_child m s.1) ss ≡ None
bare-none n m [] h = refl
bare-none n m ((name, child x) ∷ ss) h = absurd (let clash : Some x ≡ None = h.0.empty in cc)
bare-none n m ((name, strong t target) ∷ ss) h = bare-none n m ss h.1
bare-none n m ((name, weak t target) ∷ ss) h = bare-none n m ss h.1
bare-none n m ((name, plain v) ∷ ss) h = bare-none n m ss h.1
bare-none n m ((name, alias x p) ∷ ss) h = bare-none n m ss h.1

unplaced : (m : ℕ) (r : Record) → find (λ (s : List ℕ × Slot). is_child m s.1) r.slots ≡ None → is_some (place_in m r) ≡ false
unplaced m r e = ap (λ (o : Option (List ℕ × Slot)). is_some {T = ℕ × List ℕ} (option_map (λ (s : List ℕ × Slot). (r.birth, s.0)) o)) e

kids-unplaced : (n m lo : ℕ) (ls : List Record) → AreKids n lo ls → find (λ (r : Record). is_some (place_in m r)) ls ≡ None
kids-unplaced n m lo [] h = refl
kids-unplaced n m lo (k ∷ ls) h = rw (unplaced m k (bare-none n m k.slots h.1.0.slots)) (kids-unplaced n m k.birth ls h.1.1)

kids-later : (n m lo : ℕ) (ls : List Record) → m ≤ lo → AreKids n lo ls → find (λ (r : Record). r.birth == m) ls ≡ None
kids-later n m lo [] le h = refl
kids-later n m lo (k ∷ ls) le h =
    let up : lo < k.birth = h.0 in
    let other : (k.birth == m) ≡ false = grind (arith, nat_tests, le, up) in
    rw other (kids-later n m k.birth ls (omega arith) h.1.1)

-- a device that was made
module _ (b : Board) (t : TypeId) (sound : SoundTree b) (props : List Given) where
  abbrev n : ℕ
  n = b.born + 1

  draft : IsDraft b n t (kinds_in (slots_of t)) (edit n (with_values b props) (drafted b t))
  draft = draft-made b t sound props (slots_of t)

  abbrev device : Record
  device = record (changes.fresh n t) { slots = draft.slots }

  abbrev news : List Record
  news = device ∷ kids_from (suc n) (kinds_in (slots_of t))

  draft-records : (given_draft b t props).records ≡ b.records ++ news
  draft-records = ap (λ (c : Board). c.records) (given-is b t sound props ∙ ap (with_pins (held b t sound)) draft.shape)

  -- who was there is there
  pub draft-live : (m : ℕ) → is_live b m ≡ true → is_live (given_draft b t props) m ≡ true
  draft-live m live =
      ap (λ (rs : List Record). is_some (find (λ (r : Record). r.birth == m) rs)) draft-records
      ∙ ap is_some (find-append (λ (r : Record). r.birth == m) b.records news)
      ∙ either (record_of b m) (find (λ (r : Record). r.birth == m) news) live
    where
      either : (o p : Option Record) → is_some o ≡ true → is_some (option_or o p) ≡ true
      either None p e = cc
      either (Some r) p e = refl

  kids : AreKids n n (kids_from (suc n) (kinds_in (slots_of t)))
  kids = star-kids n n draft.slots (kids_from (suc n) (kinds_in (slots_of t))) draft.star_is

  module _ (m : ℕ) (low : m ≤ b.born) where
    found-same : record_of (given_draft b t props) m ≡ record_of b m
    found-same =
        let other : (n == m) ≡ false = grind (arith, nat_tests, low) in
        let none : find (λ (r : Record). r.birth == m) news ≡ None =
        rw other (kids-later n m n (kids_from (suc n) (kinds_in (slots_of t))) (omega (arith, low)) kids) in
        ap (λ (rs : List Record). find (λ (r : Record). r.birth == m) rs) draft-records ∙ find-old (λ (r : Record). r.birth == m) b.records news none

    place-same : place_of (given_draft b t props) m ≡ place_of b m
    place-same =
        let own : is_some (place_in m device) ≡ false =
        unplaced m device (star-none n m n draft.slots (kids_from (suc n) (kinds_in (slots_of t))) (omega (arith, low)) draft.star_is) in
        let none : find (λ (r : Record). is_some (place_in m r)) news ≡ None = rw own (kids-unplaced n m n (kids_from (suc n) (kinds_in (slots_of t))) kids) in
        ap (λ (rs : List Record). option_and_then (place_in m) (find (λ (r : Record). is_some (place_in m r)) rs)) draft-records
        ∙ ap (option_and_then (place_in m)) (find-old (λ (r : Record). is_some (place_in m r)) b.records news none)

  place-low : (m : ℕ) (p : ℕ × List ℕ) → place_of b m ≡ Some p → p.0 ≤ b.born
  place-low m p e = go (find (λ (r : Record). is_some (place_in m r)) b.records) refl
    where
      at_slot : (r : Record) (o : Option (List ℕ × Slot)) → option_map (λ (s : List ℕ × Slot). (r.birth, s.0)) o ≡ Some p → p.0 ≡ r.birth
      at_slot r None q = cc
      at_slot r (Some s) q = sym (ap (λ (x : ℕ × List ℕ). x.0) (same_Some (r.birth, s.0) p q))

      go : (o : Option Record) → find (λ (r : Record). is_some (place_in m r)) b.records ≡ o → p.0 ≤ b.born
      go None q = absurd (let clash : None ≡ Some p = sym (ap (option_and_then (place_in m)) q) ∙ e in cc)
      go (Some r) q =
          let lower : r.birth ≤ b.born = find-low (λ (x : Record). is_some (place_in m x)) b.born b.records r (rest b t sound).used.firm.within q in
          let is : p.0 ≡ r.birth = at_slot r (find (λ (s : List ℕ × Slot). is_child m s.1) r.slots) (sym (ap (option_and_then (place_in m)) q) ∙ e) in
          omega (arith, lower, is)

  abbrev if_device : Board → ℕ → Option ℕ
  if_device c p = if is_of c (codes "device") p then Some p else None

  of-same : (p : ℕ) → p ≤ b.born → if_device (given_draft b t props) p ≡ if_device b p
  of-same p low =
      ap (λ (o : Option Record). if option_map_or (λ (k : TypeId). is_a k (codes "device")) (option_map (λ (r : Record). r.kind) o) false then Some p else None)
      (found-same p low)

  clock-same : (p : ℕ) → p ≤ b.born → clock_of (given_draft b t props) p ≡ clock_of b p
  clock-same p low =
      ap (λ (o : Option Record). option_and_then child_named
      (option_map (λ (s : List ℕ × Slot). s.1) (find (λ (s : List ℕ × Slot). bytes_eq s.0 (codes "clk")) (option_map_or (λ (r : Record). r.slots) o []))))
      (found-same p low)

  abbrev source_by : Board → Option ℕ → ℕ
  source_by c parent = unwrap_or (option_and_then (clock_of c) (option_and_then (if_device c) parent)) SYSTEM_CLOCK_BIRTH

  by-same : (p : ℕ) → p ≤ b.born → source_by (given_draft b t props) (Some p) ≡ source_by b (Some p)
  by-same p low =
      ap (λ (o : Option ℕ). unwrap_or (option_and_then (clock_of (given_draft b t props)) o) SYSTEM_CLOCK_BIRTH) (of-same p low)
      ∙ go (is_of b (codes "device") p)
    where
      go : (u : Bool) → unwrap_or (option_and_then (clock_of (given_draft b t props)) (if u then Some p else None)) SYSTEM_CLOCK_BIRTH
          ≡ unwrap_or (option_and_then (clock_of b) (if u then Some p else None)) SYSTEM_CLOCK_BIRTH
      go true = ap (λ (o : Option ℕ). unwrap_or o SYSTEM_CLOCK_BIRTH) (clock-same p low)
      go false = refl

  -- the clock that a device on a bus goes by
  pub source-same : (bus : ℕ) → bus ≤ b.born → source_for b bus ≡ source_for (given_draft b t props) bus
  source-same bus low =
      sym (ap (λ (o : Option (ℕ × List ℕ)). source_by (given_draft b t props) (option_map (λ (p : ℕ × List ℕ). p.0) o)) (place-same bus low)
      ∙ go (place_of b bus) refl)
    where
      go : (o : Option (ℕ × List ℕ)) → place_of b bus ≡ o
          → source_by (given_draft b t props) (option_map (λ (p : ℕ × List ℕ). p.0) o) ≡ source_by b (option_map (λ (p : ℕ × List ℕ). p.0) o)
      go None e = refl
      go (Some p) e = by-same p.0 (place-low bus p e)
