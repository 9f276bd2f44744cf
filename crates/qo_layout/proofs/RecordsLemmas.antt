-- The memory map is of a board's records alone.
use Rattle.std.proofs.Common.{◌≡◌, ℕ, List, ap}
use Rattle.qo_model.specs.Board.{Board, Record}
use Rattle.qo_model.specs.Devices.{depth_of}
use Rattle.qo_model.specs.Reset.{post}
use Rattle.qo_layout.specs.Layout.{flat_view, register_at}

pub register-same : (b c : Board) (at : ℕ) → b.records ≡ c.records → register_at b at ≡ register_at c at
unfolding post depth_of
register-same b c at same = ap (λ (records : List Record). register_at (record b { records = records }) at) same

pub view-same : (b c : Board) → b.records ≡ c.records → flat_view b ≡ flat_view c
unfolding post depth_of
view-same b c same = ap (λ (records : List Record). flat_view (record b { records = records })) same
