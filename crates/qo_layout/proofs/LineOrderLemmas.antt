-- Each object has a line before those below which it is.
use Rattle.std.proofs.Common.{◌≡◌, refl, ap, sym, subst, ◌∙◌, ℕ, zero, suc, ◌+◌, ◌<◌, ◌≤◌, Bool, true, false, cond, not, eqb, List, [], ◌∷◌, ◌++◌, get_or, take, length, Option, Some, None, arith}
use Rattle.std.specs.Prelude.{IfSome}
use Rattle.std.specs.List.{position_or_len}
use Rattle.std.proofs.lemmas.Bool.{eqb-true, eq-eqb}
use Rattle.std.proofs.lemmas.List.{get_or-take, length-map, length-take-le}
use Rattle.qo_slots.specs.declared.keys.Key.{Key}
use Rattle.qo_values.specs.declared.births.TheConstants.{ROOT_BUS_BIRTH}
use Rattle.qo_values.specs.declared.limits.TheConstants.{LIVE_OBJECTS_MAX}
use Rattle.qo_model.specs.Board.{Board, Record}
use Rattle.qo_model.specs.Depth.{among}
use Rattle.qo_model.specs.Devices.{kid_at}
use Rattle.qo_model.specs.Reset.{below}
use Rattle.qo_sound.proofs.TestLemmas.{clash-back}
use Rattle.qo_sound_devices.specs.SoundDevices.{SoundDevices}
use Rattle.qo_sound_phases.proofs.ListLemmas.{among-right}
use Rattle.qo_sound_shapes.specs.SoundShape.{SoundShape}
use Rattle.qo_layout.specs.Layout.{mapped, number_of}
use Rattle.qo_layout.specs.Numbering.{births_of}
use Rattle.qo_object.specs.Content.{Content}
use Rattle.qo_heap.specs.Board.{Shows, record_of}
use Rattle.qo_heap.specs.Objects.{Objects}
use Rattle.qo_layout.proofs.AddedLemmas.{few}
use Rattle.qo_layout.proofs.MapLemmas.{memory-is, root-is}
use Rattle.qo_layout.proofs.OrderLemmas.{lower}
use Rattle.qo_layout.proofs.RegionLemmas.{kid-below, kid-on, mapped-below, member-at, root-mapped}
use Rattle.qo_layout.specs.Growth.{ComeAfter, HasAll, IsBefore}
use Rattle.qo_layout.specs.Rows.{HasRow, objects_of, row_at}
use Rattle.qo_layout.specs.declared.wiring.Row.{Row}

-- what stands at the place of a member
position-there : (m : ℕ) (xs : List ℕ) → position_or_len (eqb m) xs < length xs → get_or xs (position_or_len (eqb m) xs) 0 ≡ m
position-there m [] low = absurd (omega (arith, low))
position-there m (x ∷ xs) low = go (eqb m x) refl low (position-there m xs)
  where
    go : (t : Bool) → eqb m x ≡ t → cond (not (eqb m x)) (1 + position_or_len (eqb m) xs) 0 < length (x ∷ xs)
        → (position_or_len (eqb m) xs < length xs → get_or xs (position_or_len (eqb m) xs) 0 ≡ m)
        → get_or (x ∷ xs) (cond (not (eqb m x)) (1 + position_or_len (eqb m) xs) 0) 0 ≡ m
    go true p low rest = rw p (sym (eqb-true m x p))
    go false p low rest =
        let first : 1 + position_or_len (eqb m) xs < length (x ∷ xs) = rw p at low in
        let next : get_or xs (position_or_len (eqb m) xs) 0 ≡ m = rest (omega (arith, first)) in
        let one : 1 + position_or_len (eqb m) xs ≡ suc (position_or_len (eqb m) xs) = omega arith in
        rw p (ap (λ (n : ℕ). get_or (x ∷ xs) n 0) one ∙ next)

-- where a member stands
record IsAt (xs : List ℕ) (m : ℕ) : Type 0 where
  place : ℕ
  within : place < length xs
  there : get_or xs place 0 ≡ m

among-at : (xs : List ℕ) (m : ℕ) → among xs m ≡ true → IsAt xs m
among-at [] m e = clash-back e
among-at (x ∷ xs) m e = go (eqb m x) refl e (among-at xs m)
  where
    go : (t : Bool) → eqb m x ≡ t → among (x ∷ xs) m ≡ true → (among xs m ≡ true → IsAt xs m) → IsAt (x ∷ xs) m
    go true p e rest = record { place = 0; within = omega arith; there = sym (eqb-true m x p) }
    go false p e rest =
        let at : IsAt xs m = rest (rw p at e) in
        record { place = suc at.place; within = omega (arith, at.within); there = at.there }

-- the objects of a board come in that order
pub mapped-after : (b : Board) → SoundDevices b → SoundShape b → ComeAfter b (mapped b)
mapped-after b h shape i m within e =
    let member = member-at i (mapped b) within in
    let before : number_of b m < number_of b (get_or (mapped b) i 0) =
    lower b h (root-is b shape) (memory-is b shape) (get_or (mapped b) i 0) m member.0 e in
    let most : number_of b (get_or (mapped b) i 0) ≤ i = member.1 in
    record {
      place = number_of b m;
      earlier = omega (arith, before, most);
      there = position-there m (mapped b) (omega (arith, before, most, within));
    }

-- Rows of objects.

object-at : (rows : List Row) (i : ℕ) → i < length rows → (row_at rows i).object ≡ get_or (objects_of rows) i 0
object-at [] i low = absurd (omega (arith, low))
object-at (row ∷ rows) zero low = refl
object-at (row ∷ rows) (suc i) low = object-at rows i (omega (arith, low))

-- one that is among them has a line
pub has-row : (rows : List Row) (os : List ℕ) (o : ℕ) → objects_of rows ≡ os → among os o ≡ true → (line : ℕ) × HasRow rows o line
has-row rows os o e i =
    let at : IsAt os o = among-at os o i in
    let long : length rows ≡ length os = sym (length-map rows (λ (row : Row). row.object)) ∙ ap (λ (xs : List ℕ). length xs) e in
    let within : at.place < length rows = omega (arith, at.within, long) in (
      (row_at rows at.place).line,
      record {
        place = at.place;
        within = within;
        object = object-at rows at.place within ∙ ap (λ (xs : List ℕ). get_or xs at.place 0) e ∙ at.there;
        line_is = refl;
      },
    )

has-each : (rows : List Row) (ms : List ℕ) → ((m : ℕ) → among ms m ≡ true → (line : ℕ) × HasRow rows m line) → HasAll rows ms
has-each rows [] each = tt
has-each rows (m ∷ ms) each =
    let first : among (m ∷ ms) m ≡ true = rw (eq-eqb m m refl) refl in
    (each m first, has-each rows ms (λ x e. each x (among-right x (m ∷ []) ms e)))

-- where rows are those of the first objects, all that is below the next one has a line
pub all-before : (b : Board) (rows : List Row) (os : List ℕ) (i : ℕ) → ComeAfter b os → i < length os → objects_of rows ≡ take i os
    → HasAll rows (below b (get_or os i 0))
all-before b rows os i after within e = has-each rows (below b (get_or os i 0)) each
  where
    long : length rows ≡ i
    long =
        let same : length rows ≡ length (take i os) = sym (length-map rows (λ (row : Row). row.object)) ∙ ap (λ (xs : List ℕ). length xs) e in
        omega (arith, same, length-take-le i os, within)

    each : (m : ℕ) → among (below b (get_or os i 0)) m ≡ true → (line : ℕ) × HasRow rows m line
    each m i_m =
        let before : IsBefore os i m = after i m within i_m in
        let there : before.place < length rows = omega (arith, before.earlier, long) in (
          (row_at rows before.place).line,
          record {
            place = before.place;
            within = there;
            object = object-at rows before.place there ∙ ap (λ (xs : List ℕ). get_or xs before.place 0) e ∙ get_or-take i os before.place 0 before.earlier
                ∙ before.there;
            line_is = refl;
          },
        )

-- so has each device on the root bus
pub slot-row : (b : Board) → SoundDevices b → SoundShape b → (rows : List Row) → objects_of rows ≡ mapped b → (n : ℕ)
    → IfSome (kid_at b ROOT_BUS_BIRTH n) (λ d. (line : ℕ) × HasRow rows d line)
slot-row b h shape rows e n = go (kid_at b ROOT_BUS_BIRTH n) refl
  where
    go : (o : Option ℕ) → kid_at b ROOT_BUS_BIRTH n ≡ o → IfSome o (λ d. (line : ℕ) × HasRow rows d line)
    go None f = tt
    go (Some d) f =
        has-row rows (mapped b) d e
        (mapped-below b h ROOT_BUS_BIRTH d (root-mapped b h) (kid-below b h ROOT_BUS_BIRTH n d (kid-on b h ROOT_BUS_BIRTH n d (root-is b shape) f)))

-- The births of the objects before one.

births-take : (objects : List Key) (i : ℕ) → births_of (take i objects) ≡ take i (births_of objects)
births-take [] zero = refl
births-take [] (suc i) = refl
births-take (o ∷ objects) zero = refl
births-take (o ∷ objects) (suc i) = ap (λ (ns : List ℕ). o.birth ∷ ns) (births-take objects i)

pub births-at : (objects : List Key) (i : ℕ) (d : Key) → i < length objects → get_or (births_of objects) i 0 ≡ (get_or objects i d).birth
births-at [] i d low = absurd (omega (arith, low))
births-at (o ∷ objects) zero d low = refl
births-at (o ∷ objects) (suc i) d low = births-at objects i d (omega (arith, low))

births-next : (objects : List Key) (i : ℕ) (d : Key) → i < length objects
    → births_of (take (i + 1) objects) ≡ births_of (take i objects) ++ (get_or objects i d).birth ∷ []
births-next [] i d low = absurd (omega (arith, low))
births-next (o ∷ objects) zero d low = refl
births-next (o ∷ objects) (suc i) d low =
    let next : suc i + 1 ≡ suc (i + 1) = omega arith in
    ap (λ (n : ℕ). births_of (take n (o ∷ objects))) next ∙ ap (λ (ns : List ℕ). o.birth ∷ ns) (births-next objects i d (omega (arith, low)))

pub objects-next : (objects : List Key) (i : ℕ) (d : Key) (old new : List ℕ) → i < length objects → old ≡ births_of (take i objects)
    → new ≡ old ++ (get_or objects i d).birth ∷ [] → new ≡ births_of (take (i + 1) objects)
objects-next objects i d old new low before more =
    more ∙ ap (λ (ns : List ℕ). ns ++ (get_or objects i d).birth ∷ []) before ∙ sym (births-next objects i d low)

-- what is below the next object has lines
pub next-before : (b : Board) (rows : List Row) (objects : List Key) (i : ℕ) (d : Key) → ComeAfter b (births_of objects) → i < length objects
    → objects_of rows ≡ births_of (take i objects) → HasAll rows (below b (get_or objects i d).birth)
next-before b rows objects i d after low before =
    let long : length (births_of objects) ≡ length objects = length-map objects (λ (o : Key). o.birth) in
    subst (λ (o : ℕ). HasAll rows (below b o)) (births-at objects i d low)
    (all-before b rows (births_of objects) i after (omega (arith, low, long)) (before ∙ births-take objects i))

-- there are not too many
pub few-objects : (b : Board) (v : Objects) → Shows b v → length v.rows ≤ LIVE_OBJECTS_MAX → SoundDevices b → SoundShape b → (objects : List Key)
    → births_of objects ≡ mapped b → length objects ≤ LIVE_OBJECTS_MAX
few-objects b v s most h shape objects listed =
    let records : length b.records ≡ length v.rows =
    ap (λ (rs : List Record). length rs) s.records ∙ length-map v.rows (λ (row : Key × Content). record_of row) in
    let all : length (mapped b) ≤ LIVE_OBJECTS_MAX = few b h shape (omega (arith, records, most)) in
    let same : length (births_of objects) ≡ length objects = length-map objects (λ (o : Key). o.birth) in
    omega (arith, all, same, ap (λ (ns : List ℕ). length ns) listed)
