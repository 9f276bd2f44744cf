-- The level of each line is the line of its object.
use Rattle.std.proofs.Common.{◌≡◌, refl, ap, ap₂, sym, ◌∙◌, ℕ, zero, suc, ◌<◌, ◌&&◌, Bool, true, false, not, ltb, List, [], ◌∷◌, length, arith}
use Rattle.std.specs.List.{list_all, list_any}
use Rattle.std.proofs.lemmas.Bool.{and_parts, eq-eqb, ltb-true}
use Rattle.qo_values.specs.Registers.{Registers, uart, timer, dimm, bridge, bare}
use Rattle.qo_irq.specs.Wires.{Wire, input, or, off, gate_level, line_level, names_below, wire_at}
use Rattle.qo_irq.proofs.Levels.{law-gates}
use Rattle.qo_model.specs.Board.{Board}
use Rattle.qo_model.specs.Depth.{among, IsLocal, IsTree, leads, Leads, more, one}
use Rattle.qo_model.specs.Paths.{births}
use Rattle.qo_model.specs.Reset.{below}
use Rattle.qo_model.proofs.DepthLemmas.{by_objects_is}
use Rattle.qo_sound_devices.specs.SoundDevices.{SoundDevices}
use Rattle.qo_sound_phases.proofs.ForestLemmas.{IsForest}
use Rattle.qo_sound_phases.proofs.ListLemmas.{among-right}
use Rattle.qo_sound_phases.proofs.ResetTreeLemmas.{forest, placed}
use Rattle.qo_layout.specs.LineLaws.{LinesLaw}
use Rattle.qo_layout.specs.Lines.{line, line_by, line_turn}
use Rattle.qo_layout.specs.Registers.{is_hidden, registers_at}
use Rattle.qo_layout.specs.Rows.{AreLines, HasRow, IsDriven, IsJoin, IsSet, LinesAre, Wired, input_by, input_of, row_at, wiring}
use Rattle.qo_layout.specs.declared.wiring.Row.{Row}
use Rattle.qo_layout.proofs.RowLemmas.{of-some}

-- The line of an object by those below it.

any-same : (f g : ℕ → Bool) (ms : List ℕ) → ((m : ℕ) → among ms m ≡ true → f m ≡ g m) → list_any f ms ≡ list_any g ms
any-same f g [] same = refl
any-same f g (m ∷ ms) same =
    let first : among (m ∷ ms) m ≡ true = rw (eq-eqb m m refl) refl in
    rw (same m first, any-same f g ms (λ x e. same x (among-right x (m ∷ []) ms e))) refl

line-local : (b : Board) → IsLocal (below b) (line_turn b)
line-local b n f g same = go (registers_at b n)
  where
    any : list_any f (below b n) ≡ list_any g (below b n)
    any = any-same f g (below b n) same

    go : (r : Registers) → line_by b f n r ≡ line_by b g n r
    go (uart u) = refl
    go (timer t) = refl
    go (dimm d) = refl
    go (bridge r) = ap (λ (high : Bool). high && not (is_hidden b n)) any
    go bare = any

rises-all : (next : ℕ → List ℕ) (rank : ℕ → ℕ) → ((p m : ℕ) → leads next p m ≡ true → rank p < rank m) → (n k : ℕ) → Leads next n k → rank n < rank k
rises-all next rank rises n k (one e) = rises n k e
rises-all next rank rises n k (more {m = m} e w) = omega (arith, rises n m e, rises-all next rank rises m k w)

below-tree : (b : Board) → SoundDevices b → IsTree (below b) (births b)
below-tree b h =
    let f : IsForest (below b) (births b) = forest b (placed b h) in
    record {
      none_round = λ n w. let round : f.rank n < f.rank n = rises-all (below b) f.rank f.rises n n w in absurd (omega (arith, round));
      lives = f.there;
    }

pub line_is : (b : Board) → SoundDevices b → (o : ℕ) → line b o ≡ line_turn b (line b) o
unfolding line
line_is b h o = by_objects_is (below b) (line_turn b) (λ x. false) (births b) (line-local b) (below-tree b h) o

-- so it is by the registers of the object
line-by : (b : Board) → SoundDevices b → (o : ℕ) (r : Registers) → registers_at b o ≡ r → line b o ≡ line_by b (line b) o r
line-by b h o r e = line_is b h o ∙ ap (line_by b (line b) o) e

-- The level of a line.

module _ (b : Board) (h : SoundDevices b) (l : Wired) (are : LinesAre b l) where
  gate : (n : ℕ) → n < length l.wires → (wire : Wire) → wire_at l.wires n ≡ wire → line_level l.wires n ≡ gate_level (line_level l.wires) wire
  gate n within wire e = law-gates l.wires are.shaped.rows.lower n within ∙ ap (gate_level (line_level l.wires)) e

  names : (n : ℕ) → n < length l.wires → (wire : Wire) → wire_at l.wires n ≡ wire → names_below n wire ≡ true
  names n within wire e = ap (names_below n) (sym e) ∙ are.shaped.rows.lower n within

  -- so it is of each line below a number
  abbrev Levels : ℕ → Type 0
  Levels n = (o k : ℕ) → k < n → HasRow l.rows o k → line_level l.wires k ≡ line b o

  any-level : (n : ℕ) → Levels n → (os ks : List ℕ) → AreLines l.rows os ks → list_all (λ k. ltb k n) ks ≡ true
      → list_any (line_level l.wires) ks ≡ list_any (line b) os
  any-level n rest [] [] a low = refl
  any-level n rest [] (k ∷ ks) a low = absurd a
  any-level n rest (o ∷ os) [] a low = absurd a
  any-level n rest (o ∷ os) (k ∷ ks) a low =
      let parts = and_parts (ltb k n) (list_all (λ x. ltb x n) ks) low in
      rw (rest o k (ltb-true k n parts.0) a.0, any-level n rest os ks a.1 parts.1) refl

  join-level : (n : ℕ) → Levels n → (o k : ℕ) → k < length l.wires → k < suc n → IsJoin b l.rows l.wires o k
      → line_level l.wires k ≡ list_any (line b) (below b o)
  join-level n rest o k within low j =
      gate k within (or j.lines) j.wire
      ∙ any-level k (λ p q less has. rest p q (omega (arith, less, low)) has) (below b o) j.lines j.below_it (names k within (or j.lines) j.wire)

  input-level : (k o : ℕ) → k < length l.wires → wire_at l.wires k ≡ input (input_of b o) → line_level l.wires k ≡ input_of b o
  input-level k o within e = gate k within (input (input_of b o)) e

  row-level : (n : ℕ) → Levels n → (row : Row) → row.line < length l.wires → row.line < suc n → IsSet b l.wires row → (r : Registers)
      → registers_at b row.object ≡ r
      → IsDriven (wiring r) b l.rows l.wires row → line_level l.wires row.line ≡ line_by b (line b) row.object r
  row-level n rest row within low its (uart u) e d =
      input-level row.line row.object within (of-some (λ (x : ℕ). wire_at l.wires x ≡ input (input_of b row.object)) row.input row.line d its)
      ∙ ap (input_by b row.object) e
  row-level n rest row within low its (timer t) e d =
      input-level row.line row.object within (of-some (λ (x : ℕ). wire_at l.wires x ≡ input (input_of b row.object)) row.input row.line d its)
      ∙ ap (input_by b row.object) e
  row-level n rest row within low its (dimm r) e d =
      input-level row.line row.object within (of-some (λ (x : ℕ). wire_at l.wires x ≡ input (input_of b row.object)) row.input row.line d its)
      ∙ ap (input_by b row.object) e
  row-level n rest row within low its (bridge r) e d =
      let lower : names_below row.line (off d.join d.mask) ≡ true = names row.line within (off d.join d.mask) d.wire in
      let parts = and_parts (ltb d.join row.line) (ltb d.mask row.line) lower in
      let first : d.join < row.line = ltb-true d.join row.line parts.0 in
      let second : d.mask < row.line = ltb-true d.mask row.line parts.1 in
      let joined : line_level l.wires d.join ≡ list_any (line b) (below b row.object) =
      join-level n rest row.object d.join (omega (arith, first, within)) (omega (arith, first, low)) d.joins in
      let masked : line_level l.wires d.mask ≡ input_of b row.object =
      input-level d.mask row.object (omega (arith, second, within))
      (of-some (λ (x : ℕ). wire_at l.wires x ≡ input (input_of b row.object)) row.input d.mask d.input_is its) in
      let hidden : input_of b row.object ≡ is_hidden b row.object = ap (input_by b row.object) e in
      gate row.line within (off d.join d.mask) d.wire ∙ ap₂ (λ (x y : Bool). x && not y) joined (masked ∙ hidden)
  row-level n rest row within low its bare e d = join-level n rest row.object row.line within low d.1

  levels : (n : ℕ) → Levels n
  levels zero o k less has = absurd (omega (arith, less))
  levels (suc n) o k less has = step (levels n)
    where
      step : Levels n → line_level l.wires k ≡ line b o
      step rest =
          let row : Row = row_at l.rows has.place in
          let r : Registers = registers_at b row.object in
          let low : row.line < suc n = omega (arith, has.line_is, less) in
          ap (line_level l.wires) (sym has.line_is)
          ∙ row-level n rest row (are.shaped.rows.within has.place has.within) low (are.set has.place has.within) r refl (are.shaped.wired has.place has.within)
          ∙ sym (line-by b h row.object r refl) ∙ ap (line b) has.object

pub lines_lem : LinesLaw
lines_lem b h l are o k has = levels b h l are (suc k) o k (omega arith) has
