-- Calls of devices leave who goes by whom, and a change spreads clock by clock.
use Rattle.std.proofs.Common.{◌≡◌, refl, ap, ap₂, sym, ◌∙◌, ℕ, suc, Bool, true, false, ◌&&◌, eqb, nat_lt, List, [], ◌∷◌, ◌++◌, map, filter, find, cond, Option, Some, None, option_map, IfSome}
use Rattle.std.specs.List.{flat_map}
use Rattle.std.specs.Option.{option_map_or}
use Rattle.std.proofs.Math.Path.{fun_ext}
use Rattle.std.proofs.lemmas.Bool.{eq-eqb, eqb-true}
use Rattle.qo_values.specs.declared.kinds.Act.{Act}
use Rattle.qo_values.specs.declared.kinds.Act.TheVariants.{Pre, Update}
use Rattle.qo_kinds.specs.Bodies.{MayAct}
use Rattle.qo_slots.specs.declared.keys.Key.{Key}
use Rattle.qo_heap.specs.Rows.{IsLive, births, object_at}
use Rattle.qo_model.specs.declared.notes.Deed.TheVariants.{Did}
use Rattle.qo_model.specs.Depth.{by_depth}
use Rattle.qo_object.specs.Content.{Content, acted_at, is_parent}
use Rattle.qo_heap.specs.Acts.{Acts, KeepsCounts, KeepsPeriods, counts_of, periods_of, stilled}
use Rattle.qo_heap.specs.Objects.{IsHeap, Objects, content_of, parent_of, with_edit}
use Rattle.qo_heap.specs.Moments.{AllTimely, Timely}
use Rattle.qo_heap.proofs.ActsLemmas.{acts-act, acts-live, acts-none, acts-then}
use Rattle.qo_heap.proofs.ActsReads.{acts-slots}
use Rattle.qo_heap.proofs.MomentLemmas.{acts-timely}
use Rattle.qo_clocks.specs.Kept.{with_periods}
use Rattle.qo_clocks.specs.Subtree.{fed_above, fed_on, goes_by}
use Rattle.qo_clocks.specs.Periods.{scaled_on}
use Rattle.qo_clocks.specs.Reads.{source_on}
use Rattle.qo_clocks.specs.Spread.{Change, acted_on, all_changed_on, called_on, change_at, changed_on, changes_on, spread_on}
use Rattle.qo_clocks.proofs.ClockSlots.{read-after}
use Rattle.qo_clocks.proofs.FeedingLemmas.{fed-all}
use Rattle.qo_clocks.proofs.KeptLemmas.{periods-acts, periods-counts, periods-timely}

-- a timer may act

may-act-in : (act : Act) (time n : ℕ) (rows : List (Key × Content)) → AllTimely time rows → IfSome (object_at rows n) (λ c. MayAct act time c.body)
may-act-in act time n [] all = tt
may-act-in act time n (row ∷ rows) all = go (eqb row.0.birth n) refl (may-act-in act time n rows all.1)
  where
    go : (t : Bool) → eqb row.0.birth n ≡ t → IfSome (object_at rows n) (λ c. MayAct act time c.body)
        → IfSome (object_at (row ∷ rows) n) (λ c. MayAct act time c.body)
    go true is rest = rw is (λ reads. all.0)
    go false is rest = rw is rest

pub may-act : (act : Act) (v : Objects) (n : ℕ) → Timely v → IfSome (content_of v n) (λ c. MayAct act v.time c.body)
may-act act v n all = may-act-in act v.time n v.rows all

-- acts leave what is read of clocks

module _ (v w : Objects) (acts : Acts v w) where
  acts-source : (n : ℕ) → source_on w n ≡ source_on v n
  acts-source n = rw (acts-slots v w acts n) refl

  pub acts-scaled : scaled_on w ≡ scaled_on v
  acts-scaled = fun_ext (λ n. fun_ext (λ p. rw (acts-slots v w acts n) refl))

  pub acts-goes : (c : ℕ) → goes_by w c ≡ goes_by v c
  acts-goes c = fun_ext (λ n. ap (λ (o : Option Key). option_map_or (λ (s : Key). eqb s.birth c) o false) (acts-source n))

  births-still : (rows : List (Key × Content)) → map (λ (x : Key × Content). x.0.birth) (map stilled rows) ≡ births rows
  births-still [] = refl
  births-still (row ∷ rows) = ap (λ (l : List ℕ). row.0.birth ∷ l) (births-still rows)

  pub acts-births : births w.rows ≡ births v.rows
  acts-births =
      sym (births-still w.rows) ∙ ap (map (λ (x : Key × Content). x.0.birth)) acts.rows ∙ births-still v.rows

  acts-fed : (c : ℕ) → fed_on w c ≡ fed_on v c
  acts-fed c = ap₂ (λ (p : ℕ → Bool) (l : List ℕ). filter p l) (acts-goes c) acts-births

  pub acts-fed_above : (c above : ℕ) → fed_above w c above ≡ fed_above v c above
  acts-fed_above c above =
      ap₂ (λ (p : ℕ → Bool) (l : List ℕ). filter (λ (n : ℕ). nat_lt above n && p n) l) (acts-goes c) acts-births

  pub acts-changes : (levels : ℕ) → changes_on w levels ≡ changes_on v levels
  unfolding changes_on
  acts-changes levels =
      ap₂ (λ (scale : ℕ → ℕ → ℕ) (fed : ℕ → List ℕ). by_depth (turn scale fed) (λ _ _ _. []) levels) acts-scaled (fun_ext acts-fed)
    where
      turn : (ℕ → ℕ → ℕ) → (ℕ → List ℕ) → (ℕ → ℕ → ℕ → List Change) → ℕ → ℕ → ℕ → List Change
      turn scale fed f c before after =
          cond (eqb before after) []
          (flat_map (λ (n : ℕ). record { clock = n; before = before; after = after; child = scale n after } ∷ f n (scale n before) (scale n after)) (fed c))

  parent-still : (n : ℕ) (rows : List (Key × Content))
      → option_map (λ (x : Key × Content). x.0) (find (λ (x : Key × Content). is_parent n x.1) (map stilled rows))
      ≡ option_map (λ (row : Key × Content). row.0) (find (λ (row : Key × Content). is_parent n row.1) rows)
  parent-still n [] = refl
  parent-still n (row ∷ rows) = go (is_parent n row.1) refl (parent-still n rows)
    where
      go : (t : Bool) → is_parent n row.1 ≡ t
          → option_map (λ (x : Key × Content). x.0) (find (λ (x : Key × Content). is_parent n x.1) (map stilled rows))
          ≡ option_map (λ (r : Key × Content). r.0) (find (λ (r : Key × Content). is_parent n r.1) rows)
          → option_map (λ (x : Key × Content). x.0) (find (λ (x : Key × Content). is_parent n x.1) (map stilled (row ∷ rows)))
          ≡ option_map (λ (r : Key × Content). r.0) (find (λ (r : Key × Content). is_parent n r.1) (row ∷ rows))
      go true is rest = rw is refl
      go false is rest = rw is rest

  pub acts-parent : (n : ℕ) → parent_of w n ≡ parent_of v n
  acts-parent n =
      sym (parent-still n w.rows)
      ∙ ap (λ (l : List (Key × Content)). option_map (λ (x : Key × Content). x.0)
      (find (λ (x : Key × Content). is_parent n x.1) l)) acts.rows
      ∙ parent-still n v.rows

-- calls act, and leave no timer with a later moment

pub acted-acts : (act : Act) (n p : ℕ) (v : Objects) → Acts v (acted_on act n p v)
acted-acts act n p v = acts-act v (record { birth = n; deed = Did act }) n act v.time p

acted-counts : (act : Act) (n p : ℕ) (v : Objects) → KeepsCounts v (acted_on act n p v)
acted-counts act n p v = read-after counts_of n (acted_at act v.time p) (λ c. refl) v

acted-periods : (act : Act) (n p : ℕ) (v : Objects) → KeepsPeriods v (acted_on act n p v)
acted-periods act n p v = read-after periods_of n (acted_at act v.time p) (λ c. refl) v

pub acted-timely : (act : Act) (n p : ℕ) (v : Objects) → Timely v → Timely (acted_on act n p v)
acted-timely act n p v all = acts-timely v (record { birth = n; deed = Did act }) n act p all

abbrev parent_called : ℕ → ℕ → Objects → Option Key → Objects
parent_called before after v o = elim o as (λ _. Objects) [ None ↦ v | Some d ↦ acted_on Update d.birth after (acted_on Pre d.birth before v) ]

module _ (n before after : ℕ) (v : Objects) where
  pub called-acts : Acts v (called_on n before after v)
  called-acts = by (parent_of v n)
    where
      by : (o : Option Key) → Acts v (parent_called before after v o)
      by None = acts-none v
      by (Some d) =
          acts-then v (acted_on Pre d.birth before v) (acted_on Update d.birth after (acted_on Pre d.birth before v))
          (acted-acts Pre d.birth before v) (acted-acts Update d.birth after (acted_on Pre d.birth before v))

  called-counts : KeepsCounts v (called_on n before after v)
  called-counts = by (parent_of v n)
    where
      by : (o : Option Key) → KeepsCounts v (parent_called before after v o)
      by None = λ m. refl
      by (Some d) = λ m. acted-counts Update d.birth after (acted_on Pre d.birth before v) m ∙ acted-counts Pre d.birth before v m

  pub called-periods : KeepsPeriods v (called_on n before after v)
  called-periods = by (parent_of v n)
    where
      by : (o : Option Key) → KeepsPeriods v (parent_called before after v o)
      by None = λ m. refl
      by (Some d) = λ m. acted-periods Update d.birth after (acted_on Pre d.birth before v) m ∙ acted-periods Pre d.birth before v m

  pub called-timely : Timely v → Timely (called_on n before after v)
  called-timely all = by (parent_of v n)
    where
      by : (o : Option Key) → Timely (parent_called before after v o)
      by None = all
      by (Some d) = acted-timely Update d.birth after (acted_on Pre d.birth before v) (acted-timely Pre d.birth before v all)

-- a clock keeps other periods, and its parent is called back

abbrev kept_of : Change → Objects → Objects
kept_of x v = with_edit x.clock (with_periods x.after x.child) v

pub changed-acts : (x : Change) (v : Objects) → Acts v (changed_on x v)
changed-acts x v =
    acts-then v (kept_of x v) (changed_on x v) (periods-acts x.clock x.after x.child v) (called-acts x.clock x.before x.after (kept_of x v))

changed-counts : (x : Change) (v : Objects) → KeepsCounts v (changed_on x v)
changed-counts x v m = called-counts x.clock x.before x.after (kept_of x v) m ∙ periods-counts x.clock x.after x.child v m

changed-timely : (x : Change) (v : Objects) → Timely v → Timely (changed_on x v)
changed-timely x v all = called-timely x.clock x.before x.after (kept_of x v) (periods-timely x.clock x.after x.child v all)

pub all-changed-acts : (xs : List Change) (v : Objects) → Acts v (all_changed_on xs v)
unfolding all_changed_on
all-changed-acts [] v = acts-none v
all-changed-acts (x ∷ xs) v = acts-then v (changed_on x v) (all_changed_on xs (changed_on x v)) (changed-acts x v) (all-changed-acts xs (changed_on x v))

all-changed-counts : (xs : List Change) (v : Objects) → KeepsCounts v (all_changed_on xs v)
unfolding all_changed_on
all-changed-counts [] v m = refl
all-changed-counts (x ∷ xs) v m = all-changed-counts xs (changed_on x v) m ∙ changed-counts x v m

all-changed-timely : (xs : List Change) (v : Objects) → Timely v → Timely (all_changed_on xs v)
unfolding all_changed_on
all-changed-timely [] v all = all
all-changed-timely (x ∷ xs) v all = all-changed-timely xs (changed_on x v) (changed-timely x v all)

pub spread-acts : (v : Objects) (levels c before after : ℕ) → Acts v (spread_on v levels c before after)
unfolding spread_on
spread-acts v levels c before after = all-changed-acts (changes_on v levels c before after) v

pub spread-counts : (v : Objects) (levels c before after : ℕ) → KeepsCounts v (spread_on v levels c before after)
unfolding spread_on
spread-counts v levels c before after = all-changed-counts (changes_on v levels c before after) v

pub spread-timely : (v : Objects) (levels c before after : ℕ) → Timely v → Timely (spread_on v levels c before after)
unfolding spread_on
spread-timely v levels c before after all = all-changed-timely (changes_on v levels c before after) v all

-- the loop over the clocks that go by a clock: what is left to do makes the whole

changed-append : (xs ys : List Change) (v : Objects) → all_changed_on (xs ++ ys) v ≡ all_changed_on ys (all_changed_on xs v)
unfolding all_changed_on
changed-append [] ys v = refl
changed-append (x ∷ xs) ys v = changed-append xs ys (changed_on x v)

-- none where there are no levels, or where the period stays
pub spread-none : (v : Objects) (c before after : ℕ) → v ≡ spread_on v 0 c before after
unfolding spread_on changes_on all_changed_on
spread-none v c before after = refl

pub spread-still : (v : Objects) (all levels c before after : ℕ) → all ≡ suc levels → before ≡ after → v ≡ spread_on v all c before after
unfolding spread_on changes_on all_changed_on
spread-still v all levels c before after more same =
    sym
    (ap (λ (d : ℕ). all_changed_on (changes_on v d c before after) v) more
    ∙ ap (λ (t : Bool). all_changed_on (cond t [] (flat_map (change_at v (changes_on v levels) before after) (fed_on v c))) v) (eq-eqb before after same))

module _ (v : Objects) (levels c before after : ℕ) where
  abbrev change_of : ℕ → List Change
  change_of = change_at v (changes_on v levels) before after

  pub record Spreads (above : ℕ) (w : Objects) : Type 0 where
    pub acts : Acts v w
    pub timely : Timely w
    pub left :
        all_changed_on (flat_map (change_at v (changes_on v levels) before after) (fed_above v c above)) w
        ≡ all_changed_on (flat_map (change_at v (changes_on v levels) before after) (fed_on v c)) v

  pub spreads-init : IsHeap v → Timely v → Spreads 0 v
  spreads-init good timely =
      record { acts = acts-none v; timely = timely; left = ap (λ (l : List ℕ). all_changed_on (flat_map change_of l) v) (fed-all v good c) }

  pub spreads-live : (above : ℕ) (w : Objects) → Spreads above w → (key : Key) → IsLive v.rows key → IsLive w.rows key
  spreads-live above w s key live = rw (acts-live v w s.acts key) live

  -- one clock more
  module _ (above : ℕ) (w : Objects) (s : Spreads above w) (n af : ℕ) (fed : fed_above w c above ≡ n ∷ fed_above w c n) (is_af : af ≡ scaled_on w n after)
      (x₁ : Objects) (kept : x₁ ≡ with_edit n (with_periods after af) w) where
    first-acts : Acts v x₁
    first-acts = acts-then v w x₁ s.acts (rw kept (periods-acts n after af w))

    pub first-live : (key : Key) → IsLive w.rows key → IsLive x₁.rows key
    first-live key live = rw (acts-live w x₁ (rw kept (periods-acts n after af w)) key) live

    pub first-timely : Timely x₁
    first-timely = rw kept (periods-timely n after af w s.timely)

    module _ (x₂ : Objects) (called : x₂ ≡ called_on n before after x₁) where
      next-acts : Acts v x₂
      next-acts = acts-then v x₁ x₂ first-acts (rw called (called-acts n before after x₁))

      pub next-live : (key : Key) → IsLive w.rows key → IsLive x₂.rows key
      next-live key live = rw (acts-live x₁ x₂ (rw called (called-acts n before after x₁)) key) (first-live key live)

      pub next-timely : Timely x₂
      next-timely = rw called (called-timely n before after x₁ first-timely)

      abbrev change : Change
      change = record { clock = n; before = before; after = after; child = scaled_on v n after }

      scales : (p : ℕ) → scaled_on w n p ≡ scaled_on v n p
      scales p = ap (λ (scale : ℕ → ℕ → ℕ). scale n p) (acts-scaled v w s.acts)

      changed : x₂ ≡ changed_on change w
      changed =
          called
          ∙ ap (called_on n before after) (kept ∙ ap (λ (k : ℕ). with_edit n (with_periods after k) w) (is_af ∙ scales after))

      pub spreads-next : (be : ℕ) → be ≡ scaled_on w n before → (y : Objects) → y ≡ spread_on x₂ levels n be af → Spreads n y
      unfolding spread_on all_changed_on
      spreads-next be is_be y spread =
          record {
            acts = acts-then v x₂ y next-acts (rw spread (spread-acts x₂ levels n be af));
            timely = rw spread (spread-timely x₂ levels n be af next-timely);
            left = ap (all_changed_on (flat_map change_of (fed_above v c n))) here ∙ sym all ∙ s.left;
          }
        where
          here : y ≡ all_changed_on (change_of n) w
          here =
              spread
              ∙ ap (λ (f : ℕ → ℕ → ℕ → List Change). all_changed_on (f n be af) x₂) (acts-changes v x₂ next-acts levels)
              ∙ ap₂ (λ (p q : ℕ). all_changed_on (changes_on v levels n p q) x₂) (is_be ∙ scales before) (is_af ∙ scales after)
              ∙ ap (all_changed_on (changes_on v levels n (scaled_on v n before) (scaled_on v n after))) changed

          fed_on_v : fed_above v c above ≡ n ∷ fed_above v c n
          fed_on_v =
              sym (acts-fed_above v w s.acts c above) ∙ fed ∙ ap (λ (l : List ℕ). n ∷ l) (acts-fed_above v w s.acts c n)

          all : all_changed_on (flat_map change_of (fed_above v c above)) w
              ≡ all_changed_on (flat_map change_of (fed_above v c n)) (all_changed_on (change_of n) w)
          all =
              ap (λ (l : List ℕ). all_changed_on (flat_map change_of l) w) fed_on_v
              ∙ changed-append (change_of n) (flat_map change_of (fed_above v c n)) w

  pub spreads-end : (all above : ℕ) (w : Objects) → all ≡ suc levels → (before ≡ after → ⊥) → Spreads above w → fed_above w c above ≡ []
      → w ≡ spread_on v all c before after
  unfolding spread_on changes_on all_changed_on
  spreads-end all above w more differ s fed =
      sym (ap (λ (l : List ℕ). all_changed_on (flat_map change_of l) w) (sym (acts-fed_above v w s.acts c above) ∙ fed))
      ∙ s.left
      ∙ sym
      (ap (λ (d : ℕ). all_changed_on (changes_on v d c before after) v) more
      ∙ go (eqb before after) refl)
    where
      go : (t : Bool) → eqb before after ≡ t
          → all_changed_on (cond t [] (flat_map (change_at v (changes_on v levels) before after) (fed_on v c))) v
          ≡ all_changed_on (flat_map (change_at v (changes_on v levels) before after) (fed_on v c)) v
      go true is = absurd (differ (eqb-true before after is))
      go false is = refl
