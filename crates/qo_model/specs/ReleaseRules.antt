-- The rules of release, without a bound: how a finalization goes on, step by step, from one board to another (docs/devel/qom.rst, "The QEMU Object Model":
-- reference counting, `object_unref`, `object_finalize`).
use Rattle.std.specs.Prelude.{◌≡◌, ℕ, ◌<◌, Some, None}
use Rattle.qo_model.specs.Board.{Board, Slot, slot_at, referent}
use Rattle.qo_model.specs.References.{refs}
use Rattle.qo_model.specs.Release.{drop_slot, next_index, finish}

mutual
  -- n is finalized, and c becomes of b: each slot of n is let go, from the first on, and then n ends
  pub data Finalizes : Board → ℕ → Board → Type 0 where
    all_slots : {b c : Board} {n : ℕ} → SlotsFrom b n 0 c → Finalizes b n (finish c n)

  -- the slots of n from a place on are let go
  pub data SlotsFrom : Board → ℕ → ℕ → Board → Type 0 where
    -- there is none at this place
    past : {b : Board} {n i : ℕ} → slot_at b n i ≡ None → SlotsFrom b n i b
    -- one is let go; what it held, if it held an object, still has references; then those after it
    kept : {b c : Board} {n i : ℕ} {s : Slot} → slot_at b n i ≡ Some s → ((m : ℕ) → referent s ≡ Some m → 0 < refs (drop_slot b n i) m)
        → SlotsFrom (drop_slot b n i) n (next_index s i) c → SlotsFrom b n i c
    -- one is let go; nothing refers to what it held any more, and this is finalized; then those after it
    freed : {b c d : Board} {n i m : ℕ} {s : Slot} → slot_at b n i ≡ Some s → referent s ≡ Some m → refs (drop_slot b n i) m ≡ 0 → Finalizes (drop_slot b n i) m c
        → SlotsFrom c n (next_index s i) d → SlotsFrom b n i d
