-- What is read of the claims of a board whose tree is sound, by the slots of each object.
use Rattle.std.proofs.Common.{◌≡◌, refl, ap, sym, ◌∙◌, ℕ, Bool, true, false, List, [], ◌∷◌, Option, Some, None, is_some, option_map, option_and_then, codes}
use Rattle.qo_model.proofs.Common.{AllByRecursion, IsDistinct, option_map_or, bytes_eq, TypeId, Val, Board, Record, Slot, plain, child, strong, weak, alias, kind_of, record_of, is_realized, is_true, plain_at, plain_in, strong_at, strong_in, is_of, backend_of, is_a}
use Rattle.std.proofs.lemmas.Bool.{eqb-true, or_right, and_parts}
use Rattle.std.proofs.lemmas.Slice.Eq.{bytes_eq-Decides}
use Rattle.qo_model.proofs.FirstSlotLemmas.{slots_in, named_in}
use Rattle.qo_sound.specs.TreeKept.{SoundTree}
use Rattle.qo_sound.proofs.FirmBoardLemmas.{FitsKind, HasNames, Linked}
use Rattle.qo_sound.proofs.SearchLemmas.{all-found}
use Rattle.qo_sound.proofs.SlotLemmas.{names_in}
use Rattle.qo_sound.proofs.ViewLemmas.{rest-from_sound}
use Rattle.qo_sound_clocks.proofs.SlotLemmas.{is_target, plain_of, Slots}
use Rattle.qo_sound_clocks.proofs.ReadLemmas.{tree-named, target-seen, seen-target, plain-read}
use Rattle.qo_sound_claims.proofs.SlotLemmas.{is_memdev, lit_in, Names, points, points_it}

-- names of one kind
abbrev pub is_name : List ℕ → Names
is_name name own = bytes_eq own name

-- a link is seen

pub read-points : (name : List ℕ) (k : ℕ) (xs : Slots) → option_and_then strong_in (named_in name xs) ≡ Some k → points (is_name name) k xs ≡ true
read-points name k [] e = cc
read-points name k (x ∷ xs) e = go (bytes_eq x.0 name) refl (read-points name k xs)
  where
    go : (t : Bool) → bytes_eq x.0 name ≡ t → (option_and_then strong_in (named_in name xs) ≡ Some k → points (is_name name) k xs ≡ true)
        → points (is_name name) k (x ∷ xs) ≡ true
    go true p rest =
        let own : strong_in x.1 ≡ Some k = rw p at e in
        let here : points_it (is_name name) k x ≡ true = rw p (target-seen k (strong_in x.1) own) in
        rw here refl
    go false p rest = or_right (points_it (is_name name) k x) (points (is_name name) k xs) (rest (rw p at e))

-- where names differ, no other slot has the name of the first

module _ (own name : List ℕ) (is : own ≡ name) where
  none-points : (k : ℕ) (xs : Slots) → AllByRecursion (λ m. bytes_eq own m ≡ false) (names_in xs) → points (is_name name) k xs ≡ false
  none-points k [] h = refl
  none-points k (x ∷ xs) h = go (bytes_eq x.0 name) refl (none-points k xs h.1)
    where
      go : (t : Bool) → bytes_eq x.0 name ≡ t → points (is_name name) k xs ≡ false → points (is_name name) k (x ∷ xs) ≡ false
      go true p rest =
          let same : own ≡ x.0 = is ∙ sym ((bytes_eq-Decides x.0 name).0 p) in
          absurd (let clash : true ≡ false = sym ((bytes_eq-Decides own x.0).1 same) ∙ h.0 in cc)
      go false p rest = rw p rest

points-read : (name : List ℕ) (k : ℕ) (xs : Slots) → IsDistinct bytes_eq (names_in xs) → points (is_name name) k xs ≡ true
    → option_and_then strong_in (named_in name xs) ≡ Some k
unfolding IsDistinct
points-read name k [] h e = cc
points-read name k (x ∷ xs) h e = go (bytes_eq x.0 name) refl (points-read name k xs h.1)
  where
    go : (t : Bool) → bytes_eq x.0 name ≡ t → (points (is_name name) k xs ≡ true → option_and_then strong_in (named_in name xs) ≡ Some k)
        → option_and_then strong_in (named_in name (x ∷ xs)) ≡ Some k
    go true p rest = rw p (seen-target k (strong_in x.1) (by (is_target k (strong_in x.1)) refl))
      where
        others : points (is_name name) k xs ≡ false
        others = none-points x.0 name ((bytes_eq-Decides x.0 name).0 p) k xs h.0

        by : (t : Bool) → is_target k (strong_in x.1) ≡ t → is_target k (strong_in x.1) ≡ true
        by true q = q
        by false q = absurd (let clash : false ≡ true = sym others ∙ (rw (p, q) at e) in cc)
    go false p rest = rw p (rest (rw p at e))

-- what is read of an object
module _ (b : Board) (tree : SoundTree b) (n : ℕ) (r : Record) (there : record_of b n ≡ Some r) where
  names : IsDistinct bytes_eq (names_in r.slots)
  names = all-found HasNames n b.records (tree-named b tree) r there

  pub plain-at : (name : List ℕ) → plain_at b n name ≡ plain_of name r.slots
  plain-at name = ap (λ (o : Option Record). option_and_then plain_in (named_in name (slots_in o))) there ∙ plain-read name r.slots names

  pub realized-at : is_realized b n ≡ lit_in r.slots
  realized-at = ap (λ (o : Option Val). option_map_or is_true o false) (plain-at (codes "realized"))

  pub link-at : (name : List ℕ) (k : ℕ) → points (is_name name) k r.slots ≡ true → strong_at b n name ≡ Some k
  link-at name k e =
      ap (λ (o : Option Record). option_and_then strong_in (named_in name (slots_in o))) there ∙ points-read name k r.slots names e

  pub at-link : (name : List ℕ) (k : ℕ) → strong_at b n name ≡ Some k → points (is_name name) k r.slots ≡ true
  at-link name k e =
      read-points name k r.slots (sym (ap (λ (o : Option Record). option_and_then strong_in (named_in name (slots_in o))) there) ∙ e)

  pub backend-at : (k : ℕ) → points is_memdev k r.slots ≡ true → backend_of b n ≡ Some k
  backend-at k e = link-at (codes "memdev") k e

  pub at-backend : (k : ℕ) → backend_of b n ≡ Some k → points is_memdev k r.slots ≡ true
  at-backend k e = at-link (codes "memdev") k e

-- its type
pub kind-at : (b : Board) (n : ℕ) (r : Record) → record_of b n ≡ Some r → (name : List ℕ) → is_of b name n ≡ is_a r.kind name
kind-at b n r there name = ap (λ (o : Option Record). option_map_or (λ (t : TypeId). is_a t name) (option_map (λ (x : Record). x.kind) o) false) there

-- what a strong link points at is there

fits-live : (kinds : ℕ → Option TypeId) (t : TypeId) (k : ℕ) (target : Option ℕ) → FitsKind kinds t target → is_target k target ≡ true
    → is_some (kinds k) ≡ true
fits-live kinds t k None fits e = cc
fits-live kinds t k (Some m) fits e = ap (λ (j : ℕ). is_some (kinds j)) (sym (eqb-true m k e)) ∙ go (kinds m) refl
  where
    go : (o : Option TypeId) → kinds m ≡ o → is_some (kinds m) ≡ true
    go None q = absurd (let clash : false ≡ true = rw q at fits in cc)
    go (Some x) q = rw q refl

points-live : (kinds : ℕ → Option TypeId) (p : Names) (k : ℕ) (xs : Slots) → AllByRecursion (λ (s : List ℕ × Slot). Linked kinds s.1) xs
    → points p k xs ≡ true → is_some (kinds k) ≡ true
points-live kinds p k [] h e = cc
points-live kinds p k (x ∷ xs) h e = go (points_it p k x) refl (points-live kinds p k xs h.1)
  where
    here : (y : List ℕ × Slot) → Linked kinds y.1 → points_it p k y ≡ true → is_some (kinds k) ≡ true
    here (own, plain v) l q = absurd (let clash : false ≡ true = (and_parts (p own) false q).1 in cc)
    here (own, child m) l q = absurd (let clash : false ≡ true = (and_parts (p own) false q).1 in cc)
    here (own, strong t target) l q = fits-live kinds t k target l ((and_parts (p own) (is_target k target) q).1)
    here (own, weak t target) l q = absurd (let clash : false ≡ true = (and_parts (p own) false q).1 in cc)
    here (own, alias m property) l q = absurd (let clash : false ≡ true = (and_parts (p own) false q).1 in cc)

    go : (t : Bool) → points_it p k x ≡ t → (points p k xs ≡ true → is_some (kinds k) ≡ true) → is_some (kinds k) ≡ true
    go true q rest = here x h.0 q
    go false q rest = rest (rw q at e)

pub target-there : (b : Board) → SoundTree b → (n : ℕ) (r : Record) → record_of b n ≡ Some r → (p : Names) (k : ℕ) → points p k r.slots ≡ true
    → is_some (kind_of b k) ≡ true
target-there b tree n r there p k e =
    points-live (kind_of b) p k r.slots
    (all-found (λ (x : Record). AllByRecursion (λ (s : List ℕ × Slot). Linked (kind_of b) s.1) x.slots) n b.records
    (rest-from_sound b tree).used.firm.linked r there)
    e
