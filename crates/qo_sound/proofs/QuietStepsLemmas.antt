-- What acts keep, and what changes none of the objects, holds keep, and removals that are asked for.
use Rattle.std.proofs.Common.{◌≡◌, refl, ℕ, Bool, true, false, List, [], ◌∷◌, ◌++◌, filter, Option, Some, None, is_some}
use Rattle.qo_model.proofs.Common.{Act, Hold, Exit, Board, acted, asked, asked_of, device_at, attached, notice_barred, without_first, is_not_in_reset, phased, post, pulse, released}
use Rattle.qo_model.specs.Reset.{after_hold}
use Rattle.qo_model.specs.Hotplug.{is_early}
use Rattle.qo_values.specs.declared.kinds.ResetKind.{ResetKind}
use Rattle.qo_values.specs.Kinds.{entering}

module _ (P : Board → Type 0) (same : (b c : Board) → c.records ≡ b.records → P b → P c)
    (acts : (act : Act) (n period : ℕ) (b : Board) → P b → P (acted act n period b)) where
  quiet-phased : (act : Act) (ns : List ℕ) (b : Board) → P b → P (phased act ns b)
  quiet-phased act [] b h = h
  quiet-phased act (n ∷ ns) b h = quiet-phased act ns (acted act n 0 b) (acts act n 0 b h)

  pub quiet-held : (b : Board) (n : ℕ) (kind : ResetKind) → P b → P (after_hold b n kind)
  unfolding after_hold
  quiet-held b n kind h =
      let entered : Board = phased (entering kind) (filter (is_not_in_reset b) (post b n)) b in
      let c : Board = phased Hold (filter (is_not_in_reset b) (post b n)) entered in
      same c (record c { holds = b.holds ++ n ∷ [] }) refl
      (quiet-phased Hold (filter (is_not_in_reset b) (post b n)) entered (quiet-phased (entering kind) (filter (is_not_in_reset b) (post b n)) b h))

  pub quiet-released : (b : Board) (n : ℕ) → P b → P (released b n)
  unfolding released
  quiet-released b n h =
      let c : Board = record b { holds = without_first n b.holds } in
      quiet-phased Exit (filter (is_not_in_reset c) (post c n)) c (same b c refl h)

  pub quiet-pulse : (b : Board) (n : ℕ) (kind : ResetKind) → P b → P (pulse b n kind)
  unfolding pulse
  quiet-pulse b n kind h = quiet-released (after_hold b n kind) n (quiet-held b n kind h)

  quiet-asked_of : (b : Board) (d : ℕ) → P b → P (asked_of b d).board
  quiet-asked_of b d h = go (attached b d) refl (is_early b d) refl (is_some (notice_barred b)) refl
    where
      go : (home : Bool) → attached b d ≡ home → (pending : Bool) → is_early b d ≡ pending → (full : Bool) → is_some (notice_barred b) ≡ full
          → P (asked_of b d).board
      go false p pending q full r = rw (asked_of, p) h
      go true p true q full r = rw (asked_of, p, q) h
      go true p false q true r = rw (asked_of, p, q, r) h
      go true p false q false r = rw (asked_of, p, q, r) (same b _ refl h)

  pub quiet-asked : (b : Board) (id : List ℕ) → P b → P (asked b id).board
  quiet-asked b id h = go (device_at b id) refl
    where
      go : (o : Option ℕ) → device_at b id ≡ o → P (asked b id).board
      go None e = rw (asked, e) h
      go (Some d) e = rw (asked, e) (quiet-asked_of b d h)
