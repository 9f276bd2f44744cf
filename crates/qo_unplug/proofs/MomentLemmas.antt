-- The moments of timers, of a heap and of the boards that it shows; and what a heap keeps of them.
use Rattle.std.proofs.Common.{sym, subst, ℕ, map, rules}
use Rattle.std.specs.List.{AllByRecursion}
use Rattle.qo_values.specs.Registers.{Registers}
use Rattle.qo_values.proofs.EachLemmas.{each_body}
use Rattle.qo_kinds.specs.Bodies as bodies
use Rattle.qo_kinds.specs.Bodies.{IsInTime, registers_of}
use Rattle.qo_slots.specs.declared.keys.Key.{Key}
use Rattle.qo_model.specs.Board.{Board, Record}
use Rattle.qo_heap.specs.Log.{empty_log, noted_all}
use Rattle.qo_object.specs.Content.{Content}
use Rattle.qo_heap.specs.Board.{Shows, record_of}
use Rattle.qo_heap.specs.Objects.{Objects}
use Rattle.qo_heap.specs.Moments.{Timely}
use Rattle.qo_life.specs.Life.{Goes, with_log}
use Rattle.qo_life.proofs.TreeLemmas.{tree, tree-shows}
use Rattle.qo_sound.proofs.RecordLemmas.{all-map, all-unmap}
use Rattle.qo_sound_clocks.specs.SoundTimes.{IsTimely, SoundTimes}

-- registers are timely on the heap where they are on the board

in-registers : (now : ℕ) (r : Registers) → IsInTime now r → IsTimely now r
in-registers now = each_body (λ (r : Registers). IsInTime now r → IsTimely now r) (search rules)

pub in-time : (now : ℕ) (r : Registers) → IsTimely now r → IsInTime now r
in-time now = each_body (λ (r : Registers). IsTimely now r → IsInTime now r) (search rules)

abbrev RowIsTimely : ℕ → Key × Content → Type 0
RowIsTimely now row = bodies.IsTimely now row.1.body

abbrev RecordIsTimely : ℕ → Record → Type 0
RecordIsTimely now r = IsTimely now r.registers

-- no timer of a heap is ahead of its time exactly where none is of a board that it shows

pub timely-times : (b : Board) (v : Objects) → Shows b v → Timely v → SoundTimes b
timely-times b v s all =
    let there : AllByRecursion (RecordIsTimely v.time) (map record_of v.rows) =
    all-map (RowIsTimely v.time) (RecordIsTimely v.time) record_of (λ row h. in-registers v.time (registers_of row.1.body) h) v.rows all in
    subst (λ (now : ℕ). AllByRecursion (RecordIsTimely now) b.records) (sym s.now)
    (subst (AllByRecursion (RecordIsTimely v.time)) (sym s.records) there)

pub times-timely : (b : Board) (v : Objects) → Shows b v → SoundTimes b → Timely v
times-timely b v s times =
    let there : AllByRecursion (RecordIsTimely v.time) b.records = subst (λ (now : ℕ). AllByRecursion (RecordIsTimely now) b.records) s.now times in
    all-unmap (RowIsTimely v.time) (RecordIsTimely v.time) record_of (λ row h. in-time v.time (registers_of row.1.body) h) v.rows
    (subst (AllByRecursion (RecordIsTimely v.time)) s.records there)

-- two heaps that show one board
pub same-timely : (b : Board) (v w : Objects) → Shows b v → Shows b w → Timely v → Timely w
same-timely b v w s t all = times-timely b w t (timely-times b v s all)

-- a heap goes by a step that keeps the moments sound
pub goes-timely : (step : Board → Board) (v w : Objects) → Goes step v w → ((b : Board) → SoundTimes b → SoundTimes (step b)) → Timely v → Timely w
goes-timely step v w goes keeps all =
    times-timely (step (tree v)) (with_log (noted_all goes.more empty_log) w) (goes.shown (tree v) empty_log (tree-shows v))
    (keeps (tree v) (timely-times (tree v) (with_log empty_log v) (tree-shows v) all))
