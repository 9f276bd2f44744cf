-- A name that was found by a test is live.
use Rattle.std.proofs.Common.{◌≡◌, refl, ap, ℕ, ◌<◌, Bool, true, false, List, [], ◌∷◌, eqb, Some, find, option_map, arith}
use Rattle.std.proofs.lemmas.Bool.{eqb-true}
use Rattle.qo_slots.specs.declared.keys.Key.{Key}
use Rattle.qo_heap.specs.Rows.{IsLive, Rises, births}

module _ {T : Type 0} where
  -- along rising births a live name is above the first
  live-above : (above last : ℕ) (rows : List (Key × T)) (key : Key) → Rises above (births rows) last → IsLive rows key → above < key.birth
  live-above above last [] key rises live = absurd live
  live-above above last (row ∷ rows) key rises live = go (eqb row.0.birth key.birth) refl (live-above row.0.birth last rows key rises.1)
    where
      up : above < row.0.birth
      up = rises.0

      go : (b : Bool) → eqb row.0.birth key.birth ≡ b → (IsLive rows key → row.0.birth < key.birth) → above < key.birth
      go true is later = let same : row.0.birth ≡ key.birth = eqb-true row.0.birth key.birth is in omega arith
      go false is later = let more : row.0.birth < key.birth = later (rw is at live) in omega arith

  -- the name of the first row that passes is live
  pub found-live : (p : Key × T → Bool) (above last : ℕ) (rows : List (Key × T)) (key : Key) → Rises above (births rows) last
      → option_map (λ (row : Key × T). row.0) (find p rows) ≡ Some key → IsLive rows key
  found-live p above last [] key rises found = cc
  found-live p above last (row ∷ rows) key rises found = go (p row) refl (found-live p row.0.birth last rows key rises.1)
    where
      go : (b : Bool) → p row ≡ b → (option_map (λ (r : Key × T). r.0) (find p rows) ≡ Some key → IsLive rows key) → IsLive (row ∷ rows) key
      go true is later =
          let same : row.0 ≡ key = cc (rw is at found) in
          let here : eqb row.0.birth key.birth ≡ true = rw same (grind arith) in
          rw here (ap (λ (k : Key). k.index) same)
      go false is later =
          let live : IsLive rows key = later (rw is at found) in
          let more : row.0.birth < key.birth = live-above row.0.birth last rows key rises.1 live in
          let other : eqb row.0.birth key.birth ≡ false = grind arith in
          rw other live
