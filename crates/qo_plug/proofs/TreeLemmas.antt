-- The tree of a board, which edits of slots and bodies keep, with the paths that it gives.
use Rattle.std.proofs.Common.{◌≡◌, refl, ap, sym, ◌∙◌, ℕ, zero, suc, Bool, true, false, cond, ◌==◌, codes, List, [], ◌∷◌, ◌++◌, map, length, find, Option, Some, None, is_some, option_map}
use Rattle.std.specs.Prelude.{if◌then◌else◌}
use Rattle.std.specs.Option.{option_and_then, option_or}
use Rattle.qo_values.specs.declared.births.TheConstants.{ROOT_BIRTH}
use Rattle.qo_model.specs.Board.{Board, Record, kind_of}
use Rattle.qo_model.specs.Depth.{by_depth}
use Rattle.qo_model.specs.Paths.{births, canonical, place_in, place_of, path_down_to, path_turn}
use Rattle.qo_model.specs.Release.{edited}
use Rattle.qo_model.specs.Release as release

-- the tree: how many objects there are, and the type and the place of each

pub record SamePlaces (b c : Board) : Type 0 where
  pub size : length (births c) ≡ length (births b)
  pub places : (n : ℕ) → place_of c n ≡ place_of b n
  pub kinds : (n : ℕ) → kind_of c n ≡ kind_of b n

pub tree-same : (b : Board) → SamePlaces b b
tree-same b = record { size = refl; places = λ n. refl; kinds = λ n. refl }

pub tree-then : (b c d : Board) → SamePlaces b c → SamePlaces c d → SamePlaces b d
tree-then b c d s t = record { size = t.size ∙ s.size; places = λ n. t.places n ∙ s.places n; kinds = λ n. t.kinds n ∙ s.kinds n }

abbrev Above : Type 0
Above = ℕ → Option (List ℕ)

abbrev turn_by : Option (ℕ × List ℕ) → Above → ℕ → Option (List ℕ)
turn_by o f n = elim (n == ROOT_BIRTH) [ true ↦ Some [] | false ↦ elim o [ None ↦ None | Some p ↦ option_map (λ (above : List ℕ). above ++ 47 ∷ p.1) (f p.0) ] ]

steps-depth : (b c : Board) → ((n : ℕ) → place_of c n ≡ place_of b n) → (k n : ℕ)
    → by_depth (path_turn c) (λ _. None) k n ≡ by_depth (path_turn b) (λ _. None) k n
steps-depth b c same zero n = refl
steps-depth b c same (suc k) n =
    let rest : by_depth (path_turn c) (λ _. None) k ≡ by_depth (path_turn b) (λ _. None) k = λ j m. steps-depth b c same k m j in
    ap (λ (f : Above). turn_by (place_of c n) f n) rest ∙ ap (λ (o : Option (ℕ × List ℕ)). turn_by o (by_depth (path_turn b) (λ _. None) k) n) (same n)

steps-same : (b c : Board) → SamePlaces b c → (n : ℕ) → path_down_to c n ≡ path_down_to b n
unfolding path_down_to
steps-same b c s n =
    ap (λ (k : ℕ). by_depth (path_turn c) (λ _. None) (suc k) n) s.size ∙ steps-depth b c s.places (suc (length (births b))) n

pub canonical-same : (b c : Board) → SamePlaces b c → (n : ℕ) → canonical c n ≡ canonical b n
canonical-same b c s n = ap (λ (o : Option (List ℕ)). if n == ROOT_BIRTH then Some (codes "/") else o) (steps-same b c s n)

-- an edit of one object

module _ (n : ℕ) (f : Record → Record) (born : (r : Record) → (f r).birth ≡ r.birth) where
  edited-birth : (r : Record) → (edited n f r).birth ≡ r.birth
  edited-birth r = go (r.birth == n)
    where
      go : (t : Bool) → (cond t (f r) r).birth ≡ r.birth
      go true = born r
      go false = refl

  births-edit : (rs : List Record) → map (λ (r : Record). r.birth) (map (edited n f) rs) ≡ map (λ (r : Record). r.birth) rs
  births-edit [] = refl
  births-edit (r ∷ rs) = let here = edited-birth r in let rest = births-edit rs in λ j. here j ∷ rest j

  -- what is read of the object of a birth
  pub read-edit : {A : Type 0} (h : Option Record → A) → ((r : Record) → h (Some (f r)) ≡ h (Some r)) → (m : ℕ) (rs : List Record)
      → h (find (λ (r : Record). r.birth == m) (map (edited n f) rs)) ≡ h (find (λ (r : Record). r.birth == m) rs)
  read-edit h same m [] = refl
  read-edit h same m (r ∷ rs) =
      ap (λ (k : ℕ). h (cond (k == m) (Some (edited n f r)) (find (λ (x : Record). x.birth == m) (map (edited n f) rs)))) (edited-birth r)
      ∙ go (r.birth == m) (read-edit h same m rs)
    where
      own : (t : Bool) → h (Some (cond t (f r) r)) ≡ h (Some r)
      own true = same r
      own false = refl

      go : (t : Bool) → h (find (λ (x : Record). x.birth == m) (map (edited n f) rs)) ≡ h (find (λ (x : Record). x.birth == m) rs)
          → h (cond t (Some (edited n f r)) (find (λ (x : Record). x.birth == m) (map (edited n f) rs)))
          ≡ h (cond t (Some r) (find (λ (x : Record). x.birth == m) rs))
      go true rest = own (r.birth == n)
      go false rest = rest

abbrev place_at : List Record → ℕ → Option (ℕ × List ℕ)
place_at rs k = option_and_then (place_in k) (find (λ (r : Record). is_some (place_in k r)) rs)

place-cons : (k : ℕ) (r : Record) (rs : List Record) → place_at (r ∷ rs) k ≡ option_or (place_in k r) (place_at rs k)
place-cons k r rs = go (place_in k r) refl
  where
    go : (o : Option (ℕ × List ℕ)) → place_in k r ≡ o → place_at (r ∷ rs) k ≡ option_or (place_in k r) (place_at rs k)
    go None e = rw e refl
    go (Some x) e = rw e e

place-edit : (k n : ℕ) (f : Record → Record) → ((r : Record) → place_in k (f r) ≡ place_in k r) → (rs : List Record)
    → place_at (map (edited n f) rs) k ≡ place_at rs k
place-edit k n f same [] = refl
place-edit k n f same (r ∷ rs) =
    place-cons k (edited n f r) (map (edited n f) rs)
    ∙ (λ j. option_or (own (r.birth == n) j) (place-edit k n f same rs j))
    ∙ sym (place-cons k r rs)
  where
    own : (t : Bool) → place_in k (cond t (f r) r) ≡ place_in k r
    own true = same r
    own false = refl

-- an edit that keeps births and child slots keeps the tree
pub tree-edit : (b : Board) (n : ℕ) (f : Record → Record) → ((r : Record) → (f r).birth ≡ r.birth) → ((r : Record) → (f r).kind ≡ r.kind)
    → ((k : ℕ) (r : Record) → place_in k (f r) ≡ place_in k r) → SamePlaces b (release.edit n f b)
tree-edit b n f born kind same =
    record {
      size = ap (λ (l : List ℕ). length l) (births-edit n f born b.records);
      places = λ k. place-edit k n f (same k) b.records;
      kinds = λ m. read-edit n f born (λ (o : Option Record). option_map (λ (r : Record). r.kind) o) (λ r. ap Some (kind r)) m b.records;
    }
