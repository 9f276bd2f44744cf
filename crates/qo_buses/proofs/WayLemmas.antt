-- The way up from a bus, turn by turn.
use Rattle.std.proofs.Common.{◌≡◌, refl, ap, sym, ◌∙◌, ℕ, suc, ◌+◌, ◌<◌, Bool, true, false, codes, List, [], length, Option, Some}
use Rattle.std.proofs.Common.{None, arith}
use Rattle.std.specs.Option.{option_and_then, option_map_or}
use Rattle.qo_values.specs.declared.kinds.TypeId.{TypeId}
use Rattle.qo_object.specs.Content.{Content}
use Rattle.qo_model.specs.Board.{Board, is_pending}
use Rattle.qo_model.specs.Depth.{by_depth}
use Rattle.qo_model.specs.Devices.{bridge_of, bus_above, bus_of, depth_of, depth_turn, going_turn, is_going}
use Rattle.qo_model.specs.Paths.{is_of}
use Rattle.qo_model.specs.Types.{is_a}
use Rattle.qo_object.specs.BoardObject.{birth_of}
use Rattle.qo_slots.specs.declared.keys.Key.{Key}
use Rattle.qo_heap.specs.Objects.{Objects, content_of, parent_of}
use Rattle.qo_heap.specs.Board.{Shows}
use Rattle.qo_heap.proofs.BoardReads.{shows-kind, shows-parent, shows-size}
use Rattle.qo_paths.proofs.DepthSteps.{left_at, depth-all, depth-turn}
use Rattle.std.specs.Prelude.{if◌then◌else◌, option_map}

-- whether an object is of a type, by its type in the heap
pub of-is : (b : Board) (v : Objects) → Shows b v → (n : ℕ) (kind : TypeId) (wanted : List ℕ)
    → option_map (λ (c : Content). c.kind) (content_of v n) ≡ Some kind → is_of b wanted n ≡ is_a kind wanted
of-is b v s n kind wanted is = ap (λ (o : Option TypeId). option_map_or (λ (k : TypeId). is_a k wanted) o false) (shows-kind b v s n ∙ is)

-- the parent, where it is a device
pub bridge-is : (b : Board) (v : Objects) → Shows b v → (n : ℕ) (o : Option Key) → parent_of v n ≡ o
    → bridge_of b n ≡ option_and_then (λ (p : ℕ). if is_of b (codes "device") p then Some p else None) (birth_of o)
bridge-is b v s n o is = ap (option_and_then (λ (p : ℕ). if is_of b (codes "device") p then Some p else None)) (shows-parent b v s n ∙ ap birth_of is)

-- the depth that is left to count
abbrev pub depth_left : Board → ℕ → ℕ → ℕ → ℕ
depth_left b size i n = left_at (depth_turn b) (λ _. 0) size i n

pub depth-first : (b : Board) (v : Objects) → Shows b v → (n : ℕ) → 0 + depth_left b (length v.rows) 0 n ≡ depth_of b n
unfolding depth_of
depth-first b v s n =
    let all : depth_left b (length v.rows) 0 n ≡ by_depth (depth_turn b) (λ _. 0) (suc (length v.rows)) n =
    depth-all (depth_turn b) (λ _. 0) (length v.rows) n in
    let none : 0 + depth_left b (length v.rows) 0 n ≡ depth_left b (length v.rows) 0 n = omega arith in
    none ∙ all ∙ ap (λ (k : ℕ). by_depth (depth_turn b) (λ _. 0) (suc k) n) (sym (shows-size b v s))

pub depth-top : (b : Board) (size i n whole : ℕ) → i < size + 1 → bus_above b n ≡ None → i + depth_left b size i n ≡ whole → i ≡ whole
depth-top b size i n whole below none is =
    let last : depth_left b size i n ≡ 0 = depth-turn (depth_turn b) (λ _. 0) size i n below ∙ rw (none, depth_turn) refl in
    omega arith

pub depth-up : (b : Board) (size i n m whole : ℕ) → i < size + 1 → bus_above b n ≡ Some m → i + depth_left b size i n ≡ whole
    → (i + 1) + depth_left b size (i + 1) m ≡ whole
depth-up b size i n m whole below up is =
    let next : depth_left b size i n ≡ suc (depth_left b size (i + 1) m) = depth-turn (depth_turn b) (λ _. 0) size i n below ∙ rw (up, depth_turn) refl in
    omega arith

-- whether a removal is pending on what is left of the way
abbrev pub going_left : Board → ℕ → ℕ → ℕ → Bool
going_left b size i n = left_at (going_turn b) (λ _. false) size i n

pub going-first : (b : Board) (v : Objects) → Shows b v → (n : ℕ) → going_left b (length v.rows) 0 n ≡ is_going b n
unfolding is_going
going-first b v s n =
    depth-all (going_turn b) (λ _. false) (length v.rows) n ∙ ap (λ (k : ℕ). by_depth (going_turn b) (λ _. false) (suc k) n) (sym (shows-size b v s))

pub going-none : (b : Board) (size i n : ℕ) → i < size + 1 → bridge_of b n ≡ None → going_left b size i n ≡ false
going-none b size i n below none = depth-turn (going_turn b) (λ _. false) size i n below ∙ rw (none, going_turn) refl

pub going-here : (b : Board) (size i n d : ℕ) → i < size + 1 → bridge_of b n ≡ Some d → is_pending b d ≡ true → going_left b size i n ≡ true
going-here b size i n d below up is = depth-turn (going_turn b) (λ _. false) size i n below ∙ rw (up, going_turn, is) refl

pub going-top : (b : Board) (size i n d : ℕ) → i < size + 1 → bridge_of b n ≡ Some d → is_pending b d ≡ false → bus_of b d ≡ None
    → going_left b size i n ≡ false
going-top b size i n d below up not none = depth-turn (going_turn b) (λ _. false) size i n below ∙ rw (up, going_turn, not, none) refl

pub going-up : (b : Board) (size i n d m : ℕ) → i < size + 1 → bridge_of b n ≡ Some d → is_pending b d ≡ false → bus_of b d ≡ Some m
    → going_left b size i n ≡ going_left b size (i + 1) m
going-up b size i n d m below up not above = depth-turn (going_turn b) (λ _. false) size i n below ∙ rw (up, going_turn, not, above) refl
