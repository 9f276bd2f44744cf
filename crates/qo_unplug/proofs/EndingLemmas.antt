-- The own step of what is unrealized: its act, its clock, that it is realized, and its claims.
use Rattle.std.proofs.Common.{◌≡◌, refl, ap, ap₂, sym, subst, ◌∙◌, ℕ, ◌+◌, ◌==◌, cond, codes, Bool, true, false, List, [], ◌∷◌, map, sum_by, Option}
use Rattle.std.proofs.Common.{None, Some, is_some, option_map, arith}
use Rattle.qo_values.specs.declared.kinds.Act.TheVariants.{Unrealize}
use Rattle.qo_values.specs.declared.properties.Val.{Val}
use Rattle.qo_values.specs.declared.properties.Val.TheVariants as val
use Rattle.qo_claims.specs.Book.{ClaimsTaken}
use Rattle.qo_claims.specs.declared.claims.Claimed.{Claimed}
use Rattle.qo_kinds.specs.Bodies.{kept_of, none_kept, with_kept}
use Rattle.qo_kinds.specs.declared.bodies.Body.{Body}
use Rattle.qo_kinds.specs.declared.kept_set.KeptSet.{KeptSet}
use Rattle.qo_slots.specs.declared.keys.Key.{Key}
use Rattle.qo_heap.specs.Rows.{IsLive}
use Rattle.qo_model.specs.Board.{Board, Record, is_live, record_of}
use Rattle.qo_model.specs.Changes.{set, with_changed}
use Rattle.qo_model.specs.Changes.{with_val as board_val}
use Rattle.qo_model.specs.Clocks.{acted, device_period, source_of}
use Rattle.qo_model.specs.Devices.{clock_of}
use Rattle.qo_model.specs.Release.{edited}
use Rattle.qo_model.specs.Unplug.{disconnected, set_named}
use Rattle.qo_model.specs.declared.notes.Deed.TheVariants.{Did}
use Rattle.qo_heap.specs.Log.{empty_log}
use Rattle.qo_object.specs.declared.slots.Slot.{Slot}
use Rattle.qo_object.specs.Content.{Content, acted_at}
use Rattle.qo_object.specs.BoardObject.{birth_of}
use Rattle.qo_object.specs.Slots.{with_val}
use Rattle.qo_hotplug.specs.Hotplug.{Asked}
use Rattle.qo_heap.specs.Board.{Shows, pins_in}
use Rattle.qo_heap.specs.Book.{IsBook, kept_times, owned}
use Rattle.qo_heap.specs.Objects.{IsHeap, Objects, content_of, with_edit, with_note, without_kept}
use Rattle.qo_heap.specs.Moments.{Timely}
use Rattle.qo_heap.proofs.ActsLemmas.{acts-act, acts-book}
use Rattle.qo_heap.proofs.BookLemmas.{book-edit, kept-without, sum-changed}
use Rattle.qo_heap.proofs.HeapLemmas.{edit-is, live-edit}
use Rattle.qo_heap.proofs.BoardActs.{shows-acted}
use Rattle.qo_heap.proofs.BoardEdits.{pins-edited, shows-edit}
use Rattle.qo_heap.proofs.BoardObjects.{content-edited, live-content}
use Rattle.qo_heap.proofs.MomentLemmas.{acts-timely}
use Rattle.qo_life.specs.Life.{Goes, with_log}
use Rattle.qo_life.proofs.TreeLemmas.{goes-shows, tree, tree-shows}
use Rattle.qo_clocks.specs.Kept.{Clocked, PeriodsKept, kept_afresh, kept_turn, with_periods}
use Rattle.qo_clocks.specs.Kept as kept
use Rattle.qo_clocks.specs.Periods.{scaled_on}
use Rattle.qo_clocks.specs.Links.{changed_named, index_on, unseen_on, with_slot_changed}
use Rattle.qo_clocks.proofs.KeptChanges.{kept-rows, kept-still}
use Rattle.qo_clocks.proofs.ScopeLemmas.{edit-timely, timely-changed}
use Rattle.qo_clocks.proofs.WriteLemmas.{shows-goes}
use Rattle.qo_clocks.proofs.LinkLemmas.{live-changed}
use Rattle.std.specs.Option.{option_map_or}
use Rattle.std.proofs.lemmas.Bool.{eqb-true}
use Rattle.qo_model.proofs.StepLemmas.{found-edited, is_some-map}
use Rattle.qo_properties.proofs.KeptLemmas.{goes-kept}
use Rattle.qo_steps.proofs.NamedLemmas.{set-by}
use Rattle.qo_sound.proofs.AdditionStepsLemmas.{step-set}
use Rattle.qo_sound_bounds.proofs.ClockWriteLemmas.{set-source}
use Rattle.qo_sound_bounds.proofs.LeavingLemmas.{source-acted}
use Rattle.qo_sound_clocks.proofs.FactLemmas.{clocks_say_lem}
use Rattle.qo_sound_clocks.proofs.ReadLemmas.{named-reads}
use Rattle.qo_sound_clocks.specs.SoundTimes.{SoundTimes}
use Rattle.qo_sound_clocks.proofs.SlotLemmas.{OtherName}
use Rattle.qo_sound_clocks.proofs.TimesLemmas.{times-edits}
use Rattle.qo_unplug.specs.Feeding.{FeedsNone, IsNoSource}
use Rattle.qo_unplug.specs.Unrealizing.{OnTheWay, Parts, SameTree, Ticks, Undoes, nothing_needed, parts}
use Rattle.qo_unplug.proofs.MomentLemmas.{goes-timely, same-timely}
use Rattle.qo_unplug.proofs.TreeLemmas.{quiet-acted, quiet-disconnected, quiet-set_named, same-then}
use Rattle.qo_unplug.proofs.TreeLemmas as boards
use Rattle.qo_unplug.proofs.PeriodLemmas.{SameClocks, before-stay, same-clocks}
use Rattle.qo_unplug.proofs.StepLemmas.{Stands, undoes-less, undoes-quiet, undoes-same, undoes-stepped, undoes-then, undoes-ticking}
use Rattle.qo_unplug.proofs.ValueLemmas.{named-values}

-- the act

abbrev acted_on : ℕ → ℕ → Objects → Objects
acted_on n period v = with_note (record { birth = n; deed = Did Unrealize }) (with_edit n (acted_at Unrealize v.time period) v)

pub undoes-act : (v w : Objects) (n period : ℕ)
    → w ≡ with_note (record { birth = n; deed = Did Unrealize }) (with_edit n (acted_at Unrealize v.time period) v) → (held : List ℕ) (asked : Asked)
    → Undoes nothing_needed (λ _ c. acted Unrealize n period c) (parts v held asked) (parts w held asked)
undoes-act v w n period is held asked =
    undoes-quiet (acted Unrealize n period) v w held asked
    (λ c s. subst (λ (x : Objects). Shows (acted Unrealize n period c) x) (sym is) (shows-acted c v s Unrealize n period))
    (λ c. quiet-acted c n period)
    (λ h.
    subst PeriodsKept (sym is)
    (kept-rows (with_edit n (acted_at Unrealize v.time period) v) (acted_on n period v) refl
    (kept-still v n (acted_at Unrealize v.time period) (λ c. refl) (λ c. refl) h)))
    (λ key here. subst (λ (x : Objects). IsLive x.rows key) (sym is) (live-edit n (acted_at Unrealize v.time period) v.rows key here))
    (λ out h.
    subst (λ (x : Objects). IsBook out x) (sym is)
    (acts-book out v (acted_on n period v) (acts-act v (record { birth = n; deed = Did Unrealize }) n Unrealize v.time period) h))
    (ap (λ (x : Objects). pins_in x.rows) is ∙ pins-edited n (acted_at Unrealize v.time period) (λ c. refl) v.rows)
    (λ all.
    subst (λ (x : Objects). Timely x) (sym is) (acts-timely v (record { birth = n; deed = Did Unrealize }) n Unrealize period all))

-- a clock loses its source and stands still

module _ (n : ℕ) (name : List ℕ) (f : Slot → Slot) (v : Objects) where
  changed-book : (out : List Claimed) → IsBook out v → IsBook out (changed_named n name f v)
  changed-book out h = go (index_on v n name)
    where
      go : (o : Option ℕ) → IsBook out (elim o as (λ _. Objects) [ None ↦ v | Some i ↦ with_edit n (with_slot_changed f i) v ])
      go None = h
      go (Some i) = book-edit out v n (with_slot_changed f i) (λ c. refl) h

  changed-pins : pins_in (changed_named n name f v).rows ≡ pins_in v.rows
  changed-pins = go (index_on v n name)
    where
      go : (o : Option ℕ)
          → pins_in (elim o as (λ _. Objects) [ None ↦ v | Some i ↦ with_edit n (with_slot_changed f i) v ]).rows ≡ pins_in v.rows
      go None = refl
      go (Some i) = pins-edited n (with_slot_changed f i) (λ c. refl) v.rows

none-goes : (c : Board) (v : Objects) → Shows c v → (n : ℕ) → IsNoSource n c → kept.FeedsNone v n
none-goes c v s n none m = ap (λ (f : ℕ → Bool). f m) (shows-goes c v s n) ∙ go (source_of c m) refl
  where
    go : (o : Option ℕ) → source_of c m ≡ o → option_map_or (λ (x : ℕ). x == n) o false ≡ false
    go None e = refl
    go (Some x) e = by (x == n) refl
      where
        by : (t : Bool) → (x == n) ≡ t → (x == n) ≡ false
        by false p = p
        by true p = absurd (none m (e ∙ ap (λ (y : ℕ). Some y) (eqb-true x n p)))

-- no clock may go by it
abbrev pub NoneGoes : Option ℕ → Board → Board → Type 0
NoneGoes o b c = (k : ℕ) → o ≡ Some k → IsNoSource k c

pub undoes-disconnected : (v w : Objects) (n : ℕ) → ((b : Board) → Shows b v → Shows (disconnected (Some n) b) w)
    → w ≡ kept_afresh n (changed_named n (codes "period") (with_val (val.Uint 0)) (changed_named n (codes "source") unseen_on v))
    → (PeriodsKept v → kept.FeedsNone v n → PeriodsKept w) → (held : List ℕ) (asked : Asked)
    → Undoes (NoneGoes (Some n)) (λ _. disconnected (Some n)) (parts v held asked) (parts w held asked)
undoes-disconnected v w n shows is kept held asked =
    let u : Objects = changed_named n (codes "source") unseen_on v in
    let x : Objects = changed_named n (codes "period") (with_val (val.Uint 0)) u in
    let afresh : Content → Content = with_periods (kept_turn x n) (scaled_on x n (kept_turn x n)) in
    undoes-stepped (NoneGoes (Some n)) (disconnected (Some n)) v w held asked shows (λ c. quiet-disconnected c n)
    (λ b c needed same s h. kept h (none-goes c v s n (needed n refl)))
    (λ key here.
    subst (λ (y : Objects). IsLive y.rows key) (sym is)
    (live-edit n afresh x.rows key (live-changed n (codes "period") (with_val (val.Uint 0)) u key (live-changed n (codes "source") unseen_on v key here))))
    (λ out h.
    subst (λ (y : Objects). IsBook out y) (sym is)
    (book-edit out x n afresh (λ c. refl) (changed-book n (codes "period") (with_val (val.Uint 0)) u out (changed-book n (codes "source") unseen_on v out h))))
    (ap (λ (y : Objects). pins_in y.rows) is
    ∙ pins-edited n afresh (λ c. refl) x.rows
    ∙ changed-pins n (codes "period") (with_val (val.Uint 0)) u
    ∙ changed-pins n (codes "source") unseen_on v)
    (λ all.
    subst (λ (y : Objects). Timely y) (sym is)
    (edit-timely n afresh (λ c. refl) x.time x.rows
    (timely-changed n (codes "period") (with_val (val.Uint 0)) u (timely-changed n (codes "source") unseen_on v all))))

-- an act with the period that a board says, where its clocks are sound
clocked : (b c : Board) (v : Objects) → Ticks b → OnTheWay b c v → Clocked c v
clocked b c v ticks way =
    let now : Ticks c = way.tree.ticks ticks in record { fits = now.clocks.fit; none_round = clocks_say_lem.none_round c now.clocks; kept = way.kept }

undoes-at : (d period : ℕ) (s t : Parts) → ((b : Board) → Shows b s.heap → Clocked b s.heap → period ≡ device_period b d)
    → Undoes nothing_needed (λ _ c. acted Unrealize d period c) s t → Undoes nothing_needed (λ _ c. acted Unrealize d (device_period c d) c) s t
undoes-at d period s t says undoes =
    record {
      shown = λ b c ticks needed way beside.
          subst (λ (p : ℕ). Stands (acted Unrealize d p c) t) (says c beside.shown (clocked b c s.heap ticks way))
          (undoes.shown b c ticks needed way beside);
      way = λ b c ticks needed way beside.
          record {
            tree = same-then b c (acted Unrealize d (device_period c d) c) way.tree (quiet-acted c d (device_period c d)).tree;
            kept = (undoes.way b c ticks needed way beside).kept;
          };
      live = undoes.live;
      book = undoes.book;
      pins = undoes.pins;
      timely = undoes.timely;
    }

pub undoes-stop : (s t u : Parts) (d period : ℕ) (clock : Option Key) → ((b : Board) → Shows b s.heap → birth_of clock ≡ clock_of b d)
    → ((b : Board) → Shows b s.heap → Clocked b s.heap → period ≡ device_period b d)
    → Undoes nothing_needed (λ _ c. acted Unrealize d period c) s t
    → Undoes (NoneGoes (birth_of clock)) (λ _. disconnected (birth_of clock)) t u
    → Undoes (λ _. FeedsNone d) (λ _ c. disconnected (clock_of c d) (acted Unrealize d (device_period c d) c)) s u
undoes-stop s t u d period clock is says acts after =
    undoes-same (NoneGoes (birth_of clock)) (λ _. FeedsNone d) (λ _ c. disconnected (birth_of clock) (acted Unrealize d (device_period c d) c))
    (λ _ c. disconnected (clock_of c d) (acted Unrealize d (device_period c d) c)) s u
    (λ b c same beside none k e. none k (sym (is c beside.shown) ∙ e))
    (undoes-then (NoneGoes (birth_of clock)) (NoneGoes (birth_of clock)) (λ _ c. acted Unrealize d (device_period c d) c)
    (λ _. disconnected (birth_of clock)) s t u (λ b c same now none k e n q. none k e n (sym (source-acted d (device_period c d) c n) ∙ q))
    (undoes-less (NoneGoes (birth_of clock)) (λ _ c. acted Unrealize d (device_period c d) c) s t (undoes-at d period s t says acts)) after)
    (λ b c same beside. ap (λ (o : Option ℕ). disconnected o (acted Unrealize d (device_period c d) c)) (sym (is c beside.shown)))

-- a value is set that is none of a clock's

live-set : (n i : ℕ) (v : Val) (b : Board) (k : ℕ) → is_live (set n i v b) k ≡ is_live b k
unfolding set
live-set n i v b k =
    ap is_some (found-edited n (with_changed (board_val v) i) (λ r. refl) k b.records)
    ∙ is_some-map (edited n (with_changed (board_val v) i)) (record_of b k)

live-named : (n : ℕ) (name : List ℕ) (v : Val) (b : Board) (k : ℕ) → is_live (set_named n name v b) k ≡ is_live b k
live-named n name v b k = set-by (λ c. is_live c k ≡ is_live b k) n name b refl v (λ i at. live-set n i v b k)

set-clocks : (n : ℕ) (name : List ℕ) (v : Val) → OtherName name → (b c : Board) → Ticks b → SameTree b c → SameClocks (λ _. false) c (set_named n name v c)
set-clocks n name v other b c ticks same =
    let now : Board = set_named n name v c in
    let on : Ticks c = same.ticks ticks in
    same-clocks c now (named-reads c on.named) (named-reads now ((quiet-set_named c n name v other).tree.ticks on).named) (named-values c n name v other)
    (λ k live. set-source n name v c k) (λ k s goes gone. sym (live-named n name v c s) ∙ gone)

pub undoes-set : (v w : Objects) (n : ℕ) (name : List ℕ) (value : Val) → OtherName name → Goes (set_named n name value) v w
    → ((key : Key) → IsLive v.rows key → IsLive w.rows key) → (held : List ℕ) (asked : Asked)
    → Undoes nothing_needed (λ _. set_named n name value) (parts v held asked) (parts w held asked)
undoes-set v w n name value other goes live held asked =
    undoes-ticking nothing_needed (set_named n name value) v w held asked (goes-shows (set_named n name value) v w goes)
    (λ c. quiet-set_named c n name value other)
    (λ b c ticks needed same s h.
    before-stay c (set_named n name value c) v w s (goes-shows (set_named n name value) v w goes c s) (set-clocks n name value other b c ticks same)
    (goes-kept v w goes) h)
    live
    goes.book
    (sym (goes.shown (tree v) empty_log (tree-shows v)).pins ∙ (quiet-set_named (tree v) n name value other).tree.pins)
    (goes-timely (set_named n name value) v w goes (λ b h. step-set SoundTimes times-edits n name value b h))

-- claims end that no board sees

abbrev pub bared : Content → Content
bared c = record c { body = with_kept none_kept c.body }

-- the claims were taken out of the body of the object that is there
pub bare-left : (v : Objects) → IsHeap v → (n : ℕ) (c : Content) → content_of v n ≡ Some c → (body : Body) → body ≡ with_kept none_kept c.body
    → with_edit n (λ (d : Content). record d { body = body }) v ≡ with_edit n bared v
bare-left v good n c there body is =
    let d : Content = record c { body = body } in
    sym (edit-is v good n (λ (x : Content). record x { body = body }) c d there refl)
    ∙ edit-is v good n bared c d there (ap (λ (x : Body). record c { body = x }) is)

-- it keeps none then
pub bare-now : (v u : Objects) (o : Key) → IsLive v.rows o → u ≡ with_edit o.birth bared v
    → option_map (λ (c : Content). kept_of c.body) (content_of u o.birth) ≡ Some none_kept
bare-now v u o live is =
    let (c, there) = live-content v o live in
    ap (λ (x : Objects). option_map (λ (d : Content). kept_of d.body) (content_of x o.birth)) is
    ∙ ap (option_map (λ (d : Content). kept_of d.body)) (content-edited v o.birth bared ∙ ap (option_map bared) there)

edited-same : (n : ℕ) (rs : List Record) → map (edited n (λ (r : Record). r)) rs ≡ rs
edited-same n [] = refl
edited-same n (r ∷ rs) = ap₂ (λ (x : Record) (xs : List Record). x ∷ xs) (go (r.birth == n)) (edited-same n rs)
  where
    go : (t : Bool) → cond t r r ≡ r
    go true = refl
    go false = refl

shows-bared : (b : Board) (v : Objects) → Shows b v → (n : ℕ) (claims : ClaimsTaken) → Shows b (record (with_edit n bared v) { claims = claims })
shows-bared b v s n claims =
    let t = shows-edit n bared b v s (λ (r : Record). r)
    (λ m c. refl) (λ c. refl) in
    record { records = sym (edited-same n b.records) ∙ t.records; born = t.born; pins = t.pins; notes = t.notes; events = t.events; now = t.now }

book-freed : (out : List Claimed) (v : Objects) → IsHeap v → (n : ℕ) (c : Content) → content_of v n ≡ Some c → IsBook out v
    → IsBook out (record (with_edit n bared v) { claims = without_kept (kept_of c.body) v.claims })
book-freed out v good n c there book x =
    let none_key : Key = record { index = 0; birth = 0 } in
    let sums : (y : Claimed) →
    sum_by (owned y) (with_edit n bared v).rows + owned y (none_key, c) ≡ sum_by (owned y) v.rows + owned y (none_key, bared c) =
    (λ y. sum-changed (owned y) n bared 0 v.born v.rows good.rising c there (λ key d. refl)) in
    let none : (y : Claimed) → kept_times y (kept_of (bared c).body) ≡ 0 = (λ y. refl) in
    let less = kept-without (kept_of c.body) v.claims (λ y. omega (arith, book y, sums y, none y)) x in
    omega (arith, less, book x, sums x, none x)

pub undoes-freed : (v u w : Objects) → IsHeap v → (n : ℕ) (c : Content) → content_of v n ≡ Some c → (kept : KeptSet) → kept_of c.body ≡ kept
    → u ≡ with_edit n bared v → w ≡ record u { claims = without_kept kept u.claims } → (held : List ℕ) (asked : Asked)
    → Undoes nothing_needed (λ _ d. d) (parts v held asked) (parts w held asked)
undoes-freed v u w good n c there kept own bare frees held asked =
    let is : w ≡ record (with_edit n bared v) { claims = without_kept (kept_of c.body) v.claims } =
    frees ∙ ap (λ (x : Objects). record x { claims = without_kept kept x.claims }) bare
    ∙ ap (λ (k : KeptSet). record (with_edit n bared v) { claims = without_kept k v.claims }) (sym own) in
    undoes-quiet (λ d. d) v w held asked
    (λ d s. subst (λ (x : Objects). Shows d x) (sym is) (shows-bared d v s n (without_kept (kept_of c.body) v.claims)))
    boards.quiet-none
    (λ h.
    subst PeriodsKept (sym is)
    (kept-rows (with_edit n bared v) (record (with_edit n bared v) { claims = without_kept (kept_of c.body) v.claims }) refl
    (kept-still v n bared (λ d. refl) (λ d. refl) h)))
    (λ key here. subst (λ (x : Objects). IsLive x.rows key) (sym is) (live-edit n bared v.rows key here))
    (λ out h. subst (λ (x : Objects). IsBook out x) (sym is) (book-freed out v good n c there h))
    (ap (λ (x : Objects). pins_in x.rows) is ∙ pins-edited n bared (λ d. refl) v.rows)
    (λ all.
    subst (λ (x : Objects). Timely x) (sym is)
    (same-timely (tree v) (with_log empty_log v) (with_log empty_log (record (with_edit n bared v) { claims = without_kept (kept_of c.body) v.claims }))
    (tree-shows v) (shows-bared (tree v) (with_log empty_log v) (tree-shows v) n (without_kept (kept_of c.body) v.claims)) all))
