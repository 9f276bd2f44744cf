-- Steps of the parts of a board: alone, one after another, and as another step.
use Rattle.std.proofs.Common.{◌≡◌, refl, ap, sym, subst, ◌∙◌, ℕ, Bool, true, false, cond, eqb, List, [], ◌∷◌, filter, not, ◌==◌, ◌||◌, Option, Some, None, option_map, arith}
use Rattle.std.proofs.lemmas.Bool.{eqb-true}
use Rattle.std.proofs.lemmas.Bool.Decides.{nat_tests}
use Rattle.std.proofs.lemmas.Option.{same_Some}
use Rattle.qo_slots.specs.declared.keys.Key.{Key}
use Rattle.qo_heap.specs.Rows.{IsLive}
use Rattle.qo_model.specs.Board.{Board, Notice}
use Rattle.qo_model.specs.Depth.{among}
use Rattle.qo_model.specs.Unplug.{unheld, unnoticed, without_all, without_removal}
use Rattle.qo_hotplug.specs.Hotplug.{Asked, gone}
use Rattle.qo_object.specs.Content.{Content}
use Rattle.qo_heap.specs.Acts.{counted_in, counts_of, periods_of}
use Rattle.qo_heap.specs.Board.{Shows, pins_in}
use Rattle.qo_heap.specs.Book.{IsBook}
use Rattle.qo_heap.specs.Objects.{Objects, content_of, with_edit}
use Rattle.qo_heap.specs.Moments.{Timely}
use Rattle.qo_heap.proofs.BoardEdits.{pins-edited}
use Rattle.qo_heap.proofs.BoardObjects.{content-edited, content-other}
use Rattle.qo_heap.proofs.BookLemmas.{book-edit}
use Rattle.qo_heap.proofs.HeapLemmas.{live-edit}
use Rattle.qo_clocks.specs.Kept.{PeriodsKept}
use Rattle.qo_clocks.proofs.ClockSlots.{read-after, slots-after}
use Rattle.qo_clocks.proofs.KeptChanges.{kept-slots}
use Rattle.qo_reset.specs.Turns.{counted, sided}
use Rattle.qo_reset.proofs.LiveLemmas.{shows-sided}
use Rattle.qo_reset.proofs.WalkLemmas.{sided-timely}
use Rattle.qo_properties.specs.Claims.{KeepsBook}
use Rattle.qo_unplug.specs.BoardParts.{Beside}
use Rattle.qo_unplug.specs.RealizedClaims.{KeepsDue}
use Rattle.qo_unplug.specs.Unrealizing.{Clears, Ends, HeapUndoes, KeepsHeld, OnTheWay, Parts, SameTree, Ticks, Undoes, nothing_needed, parts}
use Rattle.qo_unplug.proofs.TreeLemmas.{Quiet, same-beside, same-then}

abbrev pub Stands : Board → Parts → Type 0
Stands c s = Beside c s.heap s.held s.asked

-- without a hold on it a board shows the same, and so does a heap where none is kept of it
unheld-shown : (n : ℕ) (v w : Objects) → w ≡ with_edit n (sided (counted 0)) v → (c : Board) → Shows c v → Shows (unheld n c) w
unheld-shown n v w now c shows =
    let s : Shows c w = subst (Shows c) (sym now) (shows-sided c v n (counted 0) shows) in
    record { records = s.records; born = s.born; pins = s.pins; notes = s.notes; events = s.events; now = s.now }

pub undoes-none : (s : Parts) → Undoes nothing_needed (λ _ c. c) s s
undoes-none s =
    record {
      shown = λ b c ticks needed way beside. beside;
      way = λ b c ticks needed way beside. way;
      live = λ key here. here;
      book = λ out h. h;
      pins = refl;
      timely = λ all. all;
    }

-- what a step needs after another is so where what both need was; and where a heap showed the board
abbrev pub IsMet : (needs more : Board → Board → Type 0) → (Board → Board → Board) → Type 0
IsMet needs more f = (b c : Board) → SameTree b c → SameTree b (f b c) → needs b c → more b (f b c)

abbrev pub IsMetIn : Objects → (needs more : Board → Board → Type 0) → (Board → Board → Board) → Type 0
IsMetIn v needs more f = (b c : Board) → SameTree b c → SameTree b (f b c) → Shows c v → needs b c → more b (f b c)

abbrev pub IsMetOn : Parts → (needs more : Board → Board → Type 0) → (Board → Board → Board) → Type 0
IsMetOn s = IsMetIn s.heap

pub nothing-met : (needs : Board → Board → Type 0) (f : Board → Board → Board) → IsMet needs nothing_needed f
nothing-met needs f b c same after needed = tt

pub undoes-on : (needs more : Board → Board → Type 0) (f g : Board → Board → Board) (s t u : Parts) → IsMetOn s needs more f → Undoes needs f s t
    → Undoes more g t u → Undoes needs (λ b c. g b (f b c)) s u
undoes-on needs more f g s t u met first then =
    record {
      shown = λ b c ticks needed way beside.
          let on : OnTheWay b (f b c) t.heap = first.way b c ticks needed way beside in
          then.shown b (f b c) ticks (met b c way.tree on.tree beside.shown needed) on (first.shown b c ticks needed way beside);
      way = λ b c ticks needed way beside.
          let on : OnTheWay b (f b c) t.heap = first.way b c ticks needed way beside in
          then.way b (f b c) ticks (met b c way.tree on.tree beside.shown needed) on (first.shown b c ticks needed way beside);
      live = λ key here. then.live key (first.live key here);
      book = λ out h. then.book out (first.book out h);
      pins = then.pins ∙ first.pins;
      timely = λ all. then.timely (first.timely all);
    }

pub undoes-then : (needs more : Board → Board → Type 0) (f g : Board → Board → Board) (s t u : Parts) → IsMet needs more f → Undoes needs f s t
    → Undoes more g t u → Undoes needs (λ b c. g b (f b c)) s u
undoes-then needs more f g s t u met = undoes-on needs more f g s t u (λ b c same after shown. met b c same after)

pub undoes-same : (needs more : Board → Board → Type 0) (f g : Board → Board → Board) (s t : Parts)
    → ((b c : Board) → SameTree b c → Beside c s.heap s.held s.asked → more b c → needs b c) → Undoes needs f s t
    → ((b c : Board) → SameTree b c → Beside c s.heap s.held s.asked → g b c ≡ f b c) → Undoes more g s t
undoes-same needs more f g s t less undoes is =
    record {
      shown = λ b c ticks needed way beside.
          subst (λ (d : Board). Stands d t) (sym (is b c way.tree beside))
          (undoes.shown b c ticks (less b c way.tree beside needed) way beside);
      way = λ b c ticks needed way beside.
          subst (λ (d : Board). OnTheWay b d t.heap) (sym (is b c way.tree beside))
          (undoes.way b c ticks (less b c way.tree beside needed) way beside);
      live = undoes.live;
      book = undoes.book;
      pins = undoes.pins;
      timely = undoes.timely;
    }

-- a step that needs nothing may be taken for one that does
pub undoes-less : (needs : Board → Board → Type 0) (f : Board → Board → Board) (s t : Parts) → Undoes nothing_needed f s t → Undoes needs f s t
undoes-less needs f s t undoes = undoes-same nothing_needed needs f f s t (λ b c same beside needed. tt) undoes (λ b c same beside. refl)

-- a step of the heap that leaves the tree and what stands beside it
pub undoes-ticking : (needs : Board → Board → Type 0) (f : Board → Board) (v w : Objects) (held : List ℕ) (asked : Asked)
    → ((c : Board) → Shows c v → Shows (f c) w) → ((c : Board) → Quiet c (f c))
    → ((b c : Board) → Ticks b → needs b c → SameTree b c → Shows c v → PeriodsKept v → PeriodsKept w)
    → ((key : Key) → IsLive v.rows key → IsLive w.rows key) → KeepsBook v w → pins_in w.rows ≡ pins_in v.rows → (Timely v → Timely w)
    → Undoes needs (λ _. f) (parts v held asked) (parts w held asked)
undoes-ticking needs f v w held asked shown quiet kept live book pins timely =
    record {
      shown = λ b c ticks needed way beside.
          record {
            shown = shown c beside.shown;
            holds = (quiet c).holds ∙ beside.holds;
            pending = (quiet c).pending ∙ beside.pending;
            notices = (quiet c).notices ∙ beside.notices;
          };
      way = λ b c ticks needed way beside.
          record { tree = same-then b c (f c) way.tree (quiet c).tree; kept = kept b c ticks needed way.tree beside.shown way.kept };
      live = live;
      book = book;
      pins = pins;
      timely = timely;
    }

pub undoes-stepped : (needs : Board → Board → Type 0) (f : Board → Board) (v w : Objects) (held : List ℕ) (asked : Asked)
    → ((c : Board) → Shows c v → Shows (f c) w) → ((c : Board) → Quiet c (f c))
    → ((b c : Board) → needs b c → SameTree b c → Shows c v → PeriodsKept v → PeriodsKept w) → ((key : Key) → IsLive v.rows key → IsLive w.rows key)
    → KeepsBook v w → pins_in w.rows ≡ pins_in v.rows → (Timely v → Timely w) → Undoes needs (λ _. f) (parts v held asked) (parts w held asked)
undoes-stepped needs f v w held asked shown quiet kept live book pins timely =
    undoes-ticking needs f v w held asked shown quiet (λ b c ticks. kept b c) live book pins timely

pub undoes-quiet : (f : Board → Board) (v w : Objects) (held : List ℕ) (asked : Asked) → ((c : Board) → Shows c v → Shows (f c) w)
    → ((c : Board) → Quiet c (f c)) → (PeriodsKept v → PeriodsKept w) → ((key : Key) → IsLive v.rows key → IsLive w.rows key) → KeepsBook v w
    → pins_in w.rows ≡ pins_in v.rows → (Timely v → Timely w) → Undoes nothing_needed (λ _. f) (parts v held asked) (parts w held asked)
undoes-quiet f v w held asked shown quiet kept live book pins timely =
    undoes-stepped nothing_needed f v w held asked shown quiet (λ b c needed same shows h. kept h) live book pins timely

unheld-way : (n : ℕ) (v w : Objects) → w ≡ with_edit n (sided (counted 0)) v → (b c : Board) → OnTheWay b c v → OnTheWay b (unheld n c) w
unheld-way n v w now b c way =
    record {
      tree = same-then b c (unheld n c) way.tree (same-beside c (unheld n c) refl refl);
      kept =
          subst PeriodsKept (sym now)
          (kept-slots v (with_edit n (sided (counted 0)) v) (slots-after n (sided (counted 0)) (λ d. refl) v)
          (read-after periods_of n (sided (counted 0)) (λ d. refl) v) way.kept);
    }

unnoticed-way : (n : ℕ) (v : Objects) (b c : Board) → OnTheWay b c v → OnTheWay b (unnoticed n c) v
unnoticed-way n v b c way = record { tree = same-then b c (unnoticed n c) way.tree (same-beside c (unnoticed n c) refl refl); kept = way.kept }

-- no hold on an object is left, and none is kept of it; and no removal and no notice of it
pub undoes-unheld : (n : ℕ) (v w : Objects) (held after : List ℕ) (asked : Asked) → after ≡ without_all n held → w ≡ with_edit n (sided (counted 0)) v
    → Undoes nothing_needed (λ _. unheld n) (parts v held asked) (parts w after asked)
undoes-unheld n v w held after asked is now =
    record {
      shown = λ b c ticks needed way beside.
          record {
            shown = unheld-shown n v w now c beside.shown;
            holds = ap (without_all n) beside.holds ∙ sym is;
            pending = beside.pending;
            notices = beside.notices;
          };
      way = λ b c ticks needed way beside. unheld-way n v w now b c way;
      live = λ key here. subst (λ (x : Objects). IsLive x.rows key) (sym now) (live-edit n (sided (counted 0)) v.rows key here);
      book = λ out h. subst (λ (x : Objects). IsBook out x) (sym now) (book-edit out v n (sided (counted 0)) (λ c. refl) h);
      pins = ap (λ (x : Objects). pins_in x.rows) now ∙ pins-edited n (sided (counted 0)) (λ c. refl) v.rows;
      timely = λ all. subst Timely (sym now) (sided-timely n (counted 0) v.time v.rows all);
    }

pub undoes-unnoticed : (n : ℕ) (v : Objects) (held : List ℕ) (asked after : Asked) → after ≡ gone n asked
    → Undoes nothing_needed (λ _. unnoticed n) (parts v held asked) (parts v held after)
undoes-unnoticed n v held asked after is =
    record {
      shown = λ b c ticks needed way beside.
          let s = beside.shown in
          record {
            shown = record { records = s.records; born = s.born; pins = s.pins; notes = s.notes; events = s.events; now = s.now };
            holds = beside.holds;
            pending = ap (without_removal n) beside.pending ∙ ap (λ (a : Asked). a.pending) (sym is);
            notices = ap (filter (λ (x : Notice). not (x.birth == n))) beside.notices ∙ ap (λ (a : Asked). a.notices) (sym is);
          };
      way = λ b c ticks needed way beside. unnoticed-way n v b c way;
      live = λ key here. here;
      book = λ out h. h;
      pins = refl;
      timely = λ all. all;
    }

-- what is kept of holds goes with them

pub clears-none : (v : Objects) → Clears nothing_needed (λ _ c. c) v v
clears-none v =
    record {
      shown = λ b c ticks needed way s. s;
      way = λ b c ticks needed way s. way;
      counts = λ n was b c ticks needed way s h. h;
    }

pub clears-on : (needs more : Board → Board → Type 0) (f g : Board → Board → Board) (v u w : Objects) → IsMetIn v needs more f → Clears needs f v u
    → Clears more g u w → Clears needs (λ b c. g b (f b c)) v w
clears-on needs more f g v u w met first then =
    record {
      shown = λ b c ticks needed way s.
          let on : OnTheWay b (f b c) u = first.way b c ticks needed way s in
          then.shown b (f b c) ticks (met b c way.tree on.tree s needed) on (first.shown b c ticks needed way s);
      way = λ b c ticks needed way s.
          let on : OnTheWay b (f b c) u = first.way b c ticks needed way s in
          then.way b (f b c) ticks (met b c way.tree on.tree s needed) on (first.shown b c ticks needed way s);
      counts = λ n was b c ticks needed way s h.
          let on : OnTheWay b (f b c) u = first.way b c ticks needed way s in
          then.counts n was b (f b c) ticks (met b c way.tree on.tree s needed) on (first.shown b c ticks needed way s)
          (first.counts n was b c ticks needed way s h);
    }

pub clears-then : (needs more : Board → Board → Type 0) (f g : Board → Board → Board) (v u w : Objects) → IsMet needs more f → Clears needs f v u
    → Clears more g u w → Clears needs (λ b c. g b (f b c)) v w
clears-then needs more f g v u w met = clears-on needs more f g v u w (λ b c same after shown. met b c same after)

pub clears-same : (needs more : Board → Board → Type 0) (f g : Board → Board → Board) (v w : Objects)
    → ((b c : Board) → SameTree b c → Shows c v → more b c → needs b c) → Clears needs f v w
    → ((b c : Board) → SameTree b c → Shows c v → g b c ≡ f b c) → Clears more g v w
clears-same needs more f g v w less clears is =
    record {
      shown = λ b c ticks needed way s.
          subst (λ (d : Board). Shows d w) (sym (is b c way.tree s)) (clears.shown b c ticks (less b c way.tree s needed) way s);
      way = λ b c ticks needed way s.
          subst (λ (d : Board). OnTheWay b d w) (sym (is b c way.tree s)) (clears.way b c ticks (less b c way.tree s needed) way s);
      counts = λ n was b c ticks needed way s h.
          subst (λ (d : Board). KeepsHeld n was d w) (sym (is b c way.tree s))
          (clears.counts n was b c ticks (less b c way.tree s needed) way s h);
    }

-- a step of a heap alone, which leaves them
abbrev asked_by : Board → Asked
asked_by c = record { pending = c.pending; notices = c.notices }

pub clears-heap : (needs : Board → Board → Type 0) (f : Board → Board → Board) (v w : Objects) → HeapUndoes needs f v w
    → ((n : ℕ) (k : ℕ × ℕ) → counted_in w n ≡ Some k → counted_in v n ≡ Some k) → Clears needs f v w
clears-heap needs f v w undoes before =
    record {
      shown = λ b c ticks needed way s. (after b c ticks needed way s).shown;
      way = λ b c ticks needed way s. (undoes c.holds (asked_by c)).way b c ticks needed way (now c s);
      counts = λ n was b c ticks needed way s h k e.
          h k (before n k e) ∙ ap (λ (hs : List ℕ). cond (among hs n) was (0, 0)) (sym (after b c ticks needed way s).holds);
    }
  where
    now : (c : Board) → Shows c v → Beside c v c.holds (asked_by c)
    now c s = record { shown = s; holds = refl; pending = refl; notices = refl }

    after : (b c : Board) → Ticks b → needs b c → OnTheWay b c v → Shows c v → Beside (f b c) w c.holds (asked_by c)
    after b c ticks needed way s = (undoes c.holds (asked_by c)).shown b c ticks needed way (now c s)

-- a hold that goes
among-without : (n m : ℕ) → (m == n) ≡ false → (hs : List ℕ) → among (without_all n hs) m ≡ among hs m
among-without n m apart [] = refl
among-without n m apart (h ∷ hs) = go (h == n) refl (among-without n m apart hs)
  where
    go : (t : Bool) → (h == n) ≡ t → among (without_all n hs) m ≡ among hs m
        → among (cond (not t) (h ∷ without_all n hs) (without_all n hs)) m ≡ (eqb m h || among hs m)
    go true is rest =
        let other : eqb m h ≡ false = ap (λ (k : ℕ). eqb m k) (eqb-true h n is) ∙ apart in
        rest ∙ ap (λ (t : Bool). t || among hs m) (sym other)
    go false is rest = ap (λ (t : Bool). eqb m h || t) rest

none-without : (n : ℕ) (hs : List ℕ) → among (without_all n hs) n ≡ false
none-without n [] = refl
none-without n (h ∷ hs) = go (h == n) refl (none-without n hs)
  where
    go : (t : Bool) → (h == n) ≡ t → among (without_all n hs) n ≡ false → among (cond (not t) (h ∷ without_all n hs) (without_all n hs)) n ≡ false
    go true is rest = rest
    go false is rest =
        let other : eqb n h ≡ false = grind (arith, nat_tests, is) in
        ap (λ (t : Bool). t || among (without_all n hs) n) other ∙ rest

pub clears-unheld : (n : ℕ) (v w : Objects) → w ≡ with_edit n (sided (counted 0)) v → Clears nothing_needed (λ _. unheld n) v w
clears-unheld n v w now =
    record {
      shown = λ b c ticks needed way s. unheld-shown n v w now c s;
      way = λ b c ticks needed way s. unheld-way n v w now b c way;
      counts = λ m was b c ticks needed way s h k e. go m was c h k (subst (λ (x : Objects). counted_in x m ≡ Some k) now e) (m == n) refl;
    }
  where
    emptied : (o : Option Content) (k : ℕ × ℕ) → option_map counts_of (option_map (sided (counted 0)) o) ≡ Some k → k ≡ (0, 0)
    emptied None k e = absurd (let clash : None ≡ Some k = e in cc)
    emptied (Some c) k e = sym (same_Some (0, 0) k e)

    go : (m : ℕ) (was : ℕ × ℕ) (c : Board) → KeepsHeld m was c v → (k : ℕ × ℕ) → counted_in (with_edit n (sided (counted 0)) v) m ≡ Some k → (t : Bool)
        → (m == n) ≡ t → k ≡ cond (among (without_all n c.holds) m) was (0, 0)
    go m was c h k e true is =
        let same : m ≡ n = eqb-true m n is in
        let none : among (without_all n c.holds) m ≡ false = ap (among (without_all n c.holds)) same ∙ none-without n c.holds in
        let own : option_map counts_of (option_map (sided (counted 0)) (content_of v n)) ≡ Some k =
        ap (option_map counts_of) (sym (content-edited v n (sided (counted 0))))
        ∙ subst (λ (i : ℕ). counted_in (with_edit n (sided (counted 0)) v) i ≡ Some k) same e in
        emptied (content_of v n) k own ∙ sym (ap (λ (t : Bool). cond t was (0, 0)) none)
    go m was c h k e false is =
        h k (ap (option_map counts_of) (sym (content-other v n m (sided (counted 0)) is)) ∙ e)
        ∙ ap (λ (t : Bool). cond t was (0, 0)) (sym (among-without n m is c.holds))

pub clears-unnoticed : (n : ℕ) (v : Objects) → Clears nothing_needed (λ _. unnoticed n) v v
clears-unnoticed n v =
    record {
      shown = λ b c ticks needed way s.
          record { records = s.records; born = s.born; pins = s.pins; notes = s.notes; events = s.events; now = s.now };
      way = λ b c ticks needed way s. unnoticed-way n v b c way;
      counts = λ m was b c ticks needed way s h. h;
    }

-- the same of what bodies keep

pub ends-none : (s : Parts) → Ends nothing_needed (λ _ c. c) s s
ends-none s = record { undoes = undoes-none s; clears = clears-none s.heap; claims = λ b c ticks needed way beside due h. h }

pub ends-on : (needs more : Board → Board → Type 0) (f g : Board → Board → Board) (s t u : Parts) → IsMetOn s needs more f → Ends needs f s t
    → Ends more g t u → Ends needs (λ b c. g b (f b c)) s u
ends-on needs more f g s t u met first then =
    record {
      undoes = undoes-on needs more f g s t u met first.undoes then.undoes;
      clears = clears-on needs more f g s.heap t.heap u.heap met first.clears then.clears;
      claims = λ b c ticks needed way beside due h.
          let on : OnTheWay b (f b c) t.heap = first.undoes.way b c ticks needed way beside in
          then.claims b (f b c) ticks (met b c way.tree on.tree beside.shown needed) on (first.undoes.shown b c ticks needed way beside) due
          (first.claims b c ticks needed way beside due h);
    }

pub ends-then : (needs more : Board → Board → Type 0) (f g : Board → Board → Board) (s t u : Parts) → IsMet needs more f → Ends needs f s t
    → Ends more g t u → Ends needs (λ b c. g b (f b c)) s u
ends-then needs more f g s t u met = ends-on needs more f g s t u (λ b c same after shown. met b c same after)

-- as another step, which needs what the one does
pub ends-as : (needs more : Board → Board → Type 0) (f g : Board → Board → Board) (s t : Parts)
    → ((b c : Board) → SameTree b c → Shows c s.heap → more b c → needs b c) → Ends needs f s t
    → ((b c : Board) → SameTree b c → Shows c s.heap → g b c ≡ f b c) → Ends more g s t
ends-as needs more f g s t less ends is =
    record {
      undoes = undoes-same needs more f g s t (λ b c same beside. less b c same beside.shown) ends.undoes (λ b c same beside. is b c same beside.shown);
      clears = clears-same needs more f g s.heap t.heap less ends.clears is;
      claims = λ b c ticks needed way beside due h.
          subst (λ (d : Board). KeepsDue due d t.heap) (sym (is b c way.tree beside.shown))
          (ends.claims b c ticks (less b c way.tree beside.shown needed) way beside due h);
    }

pub ends-same : (needs : Board → Board → Type 0) (f g : Board → Board → Board) (s t : Parts) → Ends needs f s t
    → ((b c : Board) → SameTree b c → Shows c s.heap → g b c ≡ f b c) → Ends needs g s t
ends-same needs f g s t ends is = ends-as needs needs f g s t (λ b c same shown needed. needed) ends is
