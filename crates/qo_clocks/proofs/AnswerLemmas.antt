-- The answers of the writes are those of the definitions, and the clocks are then as they should be.
use Rattle.std.proofs.Common.{◌≡◌, refl, ap, ap₂, subst, sym, ◌∙◌, ℕ, suc, ◌+◌, Bool, true, false, cond, eqb, List, map, filter, length, Option, Some, None, option_map, is_some, codes, arith}
use Rattle.std.specs.Prelude.{Result, Ok, Err}
use Rattle.std.specs.List.{list_any}
use Rattle.std.specs.Option.{option_to_list}
use Rattle.std.proofs.Math.Path.{fun_ext}
use Rattle.std.proofs.lemmas.Bool.{eq-eqb}
use Rattle.std.proofs.lemmas.Bool.Decides.{nat_tests}
use Rattle.std.proofs.lemmas.Option.{same_Some}
use Rattle.qo_values.specs.declared.codes.Code.TheVariants.{E45, E46}
use Rattle.qo_values.specs.declared.properties.Val.TheVariants as val
use Rattle.qo_slots.specs.declared.keys.Key.{Key}
use Rattle.qo_model.specs.Board.{Board}
use Rattle.qo_model.specs.ClockChanges.{clock_scaled, clock_set}
use Rattle.qo_model.specs.Clocks.{ClocksFit, child_period, clock_written, clocks_below, div_of, overflows, period, scaled_by, source_of}
use Rattle.qo_model.specs.Depth.{Leads}
use Rattle.qo_model.specs.Paths.{births}
use Rattle.qo_model.specs.Unplug.{set_named}
use Rattle.qo_model.proofs.ClockFitLemmas.{IsWritten, fits-new}
use Rattle.qo_object.specs.BoardObject.{birth_of}
use Rattle.qo_object.specs.Content.{Content}
use Rattle.qo_object.specs.Slots.{with_val}
use Rattle.qo_heap.specs.Acts.{Acts, KeepsCounts, KeepsPeriods, counted_in, periods_of}
use Rattle.qo_heap.specs.Board.{Shows}
use Rattle.qo_heap.specs.Moments.{Timely}
use Rattle.qo_heap.specs.Objects.{Objects, content_of, with_edit}
use Rattle.qo_heap.specs.Rows.{IsLive}
use Rattle.qo_heap.proofs.ActsLemmas.{acts-then}
use Rattle.qo_heap.proofs.ActsReads.{acts-slots}
use Rattle.qo_heap.proofs.HeapLemmas.{live-edit}
use Rattle.qo_clocks.specs.declared.errors.ClockError.{ClockError}
use Rattle.qo_clocks.specs.declared.errors.ClockError.TheVariants.{HasSource, DividerZero, Overflow}
use Rattle.qo_clocks.specs.Kept.{Clocked, child_kept, sources, with_periods}
use Rattle.qo_clocks.specs.Links.{changed_named}
use Rattle.qo_clocks.specs.Periods.{fitting, wide_on}
use Rattle.qo_clocks.specs.Reads.{source_on}
use Rattle.qo_clocks.specs.Spread.{all_changed_on, spread_on}
use Rattle.qo_clocks.specs.Writes.{Answers, all_fit, with_period, with_scale, written_on}
use Rattle.qo_clocks.proofs.BelowLemmas.{differs}
use Rattle.qo_clocks.proofs.ClockSlots.{named-periods}
use Rattle.qo_clocks.proofs.KeptBoards.{child-kept, clocked-acts, kept-by-board, kept-child, kept-period}
use Rattle.qo_clocks.proofs.KeptLemmas.{periods-acts, periods-counts, periods-elsewhere, periods-here, periods-shown, periods-timely}
use Rattle.qo_clocks.proofs.NumberLemmas.{both-child, both-divides, both-period, both-written, full-depth, own-child, own-div, own-period, own-written, shows-both, shows-own_written}
use Rattle.qo_clocks.proofs.ReadLemmas.{shows-source}
use Rattle.qo_clocks.proofs.SpreadLemmas.{spread-acts, spread-counts, spread-timely}
use Rattle.qo_clocks.proofs.WriteLemmas.{answer-done, answer-over, changed, fit-some, kept-now, none-over, spread-is}

-- the heap with a number written, the clock's periods kept, and what is changed below it

module _ (u h₁ h₂ h₃ : Objects) (c own a levels before : ℕ) (written : h₁ ≡ u) (kept : h₂ ≡ with_edit c (with_periods own a) h₁)
    (below : h₃ ≡ spread_on h₂ levels c before a) where
  to-kept : h₂ ≡ with_edit c (with_periods own a) u
  to-kept = kept ∙ ap (with_edit c (with_periods own a)) written

  pub all-now : h₃ ≡ spread_on (with_edit c (with_periods own a) u) levels c before a
  all-now = below ∙ ap (λ (y : Objects). spread_on y levels c before a) to-kept

  pub all-acts : Acts u h₃
  all-acts =
      acts-then u h₂ h₃ (rw to-kept (periods-acts c own a u)) (rw below (spread-acts h₂ levels c before a))

  pub all-counts : KeepsCounts u h₃
  all-counts m =
      ap (λ (y : Objects). counted_in y m) below ∙ spread-counts h₂ levels c before a m ∙ ap (λ (y : Objects). counted_in y m) to-kept
      ∙ periods-counts c own a u m

  pub all-timely : Timely u → Timely h₃
  all-timely timely = rw below (spread-timely h₂ levels c before a (rw to-kept (periods-timely c own a u timely)))

-- the same before anything is changed below

module _ (u h₁ h₂ : Objects) (c own a : ℕ) (written : h₁ ≡ u) (kept : h₂ ≡ with_edit c (with_periods own a) h₁) where
  pub kept-timely : Timely u → Timely h₂
  kept-timely timely = rw (kept, written) (periods-timely c own a u timely)

  pub kept-live : (key : Key) → IsLive u.rows key → IsLive h₂.rows key
  kept-live key live = rw (kept, written) (live-edit c (with_periods own a) u.rows key live)

pub scaled-heap : (v w x : Objects) (c m d k l : ℕ) → w ≡ changed_named c (codes "mul") (with_val (val.Uint k)) v
    → x ≡ changed_named c (codes "div") (with_val (val.Uint l)) w → k ≡ m → l ≡ d → x ≡ with_scale c m d v
scaled-heap v w x c m d k l first next e f =
    next
    ∙ ap₂ (λ (n : ℕ) (y : Objects). changed_named c (codes "div") (with_val (val.Uint n)) y) f
    (first ∙ ap (λ (n : ℕ). changed_named c (codes "mul") (with_val (val.Uint n)) v) e)

-- what is decided

pub fits-scaled : (v : Objects) (levels c own m d k l x y : ℕ) (o : Option ℕ) → k ≡ m → l ≡ d → x ≡ written_on v c (codes "mul") k 1
    → y ≡ written_on v c (codes "div") l 1 → o ≡ fitting (scaled_by x y own)
    → all_fit v levels c o ≡ all_fit v levels c (fitting (scaled_by (written_on v c (codes "mul") m 1) (written_on v c (codes "div") d 1) own))
fits-scaled v levels c own m d k l x y o e f mul div is =
    ap (all_fit v levels c)
    (is
    ∙ ap₂ (λ (i j : ℕ). fitting (scaled_by i j own)) (mul ∙ ap (λ (n : ℕ). written_on v c (codes "mul") n 1) e)
    (div ∙ ap (λ (n : ℕ). written_on v c (codes "div") n 1) f))

abbrev Done : Type 0
Done = Unit {0}

-- what is answered once a number was written, and how the clocks are then

module _ (b new : Board) (c : ℕ) (w : IsWritten b new c) (v u x : Objects) (s : Shows b v) (t : Shows new u) (k : Clocked b v) (still : KeepsPeriods v u)
    (levels own a before p : ℕ) (full : levels ≡ suc (length (births b))) (is : p ≡ child_period new c) (owns : own ≡ period new c)
    (was : before ≡ child_period b c) (fits : Some a ≡ all_fit v levels c (fitting p))
    (now : x ≡ spread_on (with_edit c (with_periods own a) u) levels c before a) where
  abbrev v₁ : Objects
  v₁ = with_edit c (with_periods own a) u

  kept-all : (n : ℕ) → child_kept v n ≡ child_period b n
  kept-all = child-kept b v s k.fits k.none_round k.kept

  shown : Shows new v₁
  shown = periods-shown c own a u new t

  pub written-answer : Answers {A = Done} x (Ok tt) (clock_written b new c)
  written-answer = answer-done b new c w v v₁ x s shown k.fits kept-all levels p a before full is was fits now

  none : (overflows new c ≡ false) × (list_any (overflows new) (clocks_below b c) ≡ false)
  none = none-over b new c w v s k.fits kept-all levels p a full is fits

  after-is : a ≡ child_period new c
  after-is = (fit-some b new c w v levels p a fits).1 ∙ is

  own-kept : (d : Content) → content_of v₁ c ≡ Some d → (d.side.period ≡ period new c) × (d.side.child ≡ child_period new c)
  own-kept d at = go (content_of u c) (sym (ap (option_map periods_of) at) ∙ periods-here c own a u)
    where
      go : (o : Option Content) → Some (periods_of d) ≡ option_map (λ (y : Content). (own, a)) o
          → (d.side.period ≡ period new c) × (d.side.child ≡ child_period new c)
      go None e = cc
      go (Some y) e =
          let both : periods_of d ≡ (own, a) = same_Some (periods_of d) (own, a) e in
          (ap (λ (z : ℕ × ℕ). z.0) both ∙ owns, ap (λ (z : ℕ × ℕ). z.1) both ∙ after-is)

  changes : x ≡ all_changed_on (map (changed b new c w) (filter (differs b new c w) (clocks_below b c))) v₁
  changes =
      now
      ∙ ap₂ (λ (i j : ℕ). spread_on v₁ levels c i j) was after-is
      ∙ spread-is b new c w v₁ shown k.fits levels full none.1

  pub written-clocked : (div_of new c ≡ 0 → ⊥) → Acts u x → (y : Board) → Shows y x → Clocked y x
  written-clocked not_zero acts y r =
      clocked-acts new y u x t r acts fit
      (λ n. subst (λ (next : ℕ → List ℕ). Leads next n n → ⊥) (sym same) (k.none_round n))
      (kept-by-board new u x t fit (acts-slots u x acts)
      (kept-now b new c w v v₁ x
      (λ n d at. (kept-period b v s k.fits k.none_round k.kept n d at, kept-child b v s k.fits k.none_round k.kept n d at))
      (λ m apart. periods-elsewhere c own a u m apart ∙ still m) own-kept changes))
    where
      fit : ClocksFit new
      fit = fits-new b new c w k.fits not_zero none.0 none.1

      same : sources new ≡ sources b
      same = fun_ext (λ n. ap option_to_list (w.sources n))

-- whether there is a source

sourced : (b : Board) (v : Objects) → Shows b v → (c : ℕ) → is_some (source_of b c) ≡ is_some (source_on v c)
sourced b v s c = ap is_some (shows-source b v s c) ∙ go (source_on v c)
  where
    go : (o : Option Key) → is_some (birth_of o) ≡ is_some o
    go None = refl
    go (Some k) = refl

none-of : (o : Option ℕ) → is_some o ≡ false → o ≡ None
none-of None e = refl
none-of (Some n) e = cc

module _ (b : Board) (v x : Objects) (s : Shows b v) (c : ℕ) where
  set-if : (p : ℕ) (t : Bool) → is_some (source_of b c) ≡ t → (result : Result Done ClockError)
      → Answers x result (cond t (Err E45) (clock_written b (set_named c (codes "period") (val.Uint p) b) c)) → Answers x result (clock_set b c p)
  set-if p t e result a =
      subst (λ (u : Bool). Answers x result (cond u (Err E45) (clock_written b (set_named c (codes "period") (val.Uint p) b) c))) (sym e) a

  pub set-sourced : (p : ℕ) → is_some (source_on v c) ≡ true → Answers {A = Done} x (Err HasSource) (clock_set b c p)
  set-sourced p e = set-if p true (sourced b v s c ∙ e) (Err HasSource) refl

  pub set-over : Clocked b v → (p levels : ℕ) → is_some (source_on v c) ≡ false → levels ≡ length v.rows + 1
      → None ≡ all_fit v levels c (fitting (wide_on v c (written_on v c (codes "period") p 0))) → Answers {A = Done} x (Err Overflow) (clock_set b c p)
  set-over k p levels e full over =
      let none : is_some (source_of b c) ≡ false = sourced b v s c ∙ e in
      set-if p false none (Err Overflow)
      (answer-over b (set_named c (codes "period") (val.Uint p) b) c (own-written b v s c p) v x s k.fits
      (child-kept b v s k.fits k.none_round k.kept) levels
      (wide_on v c (written_on v c (codes "period") p 0)) (full-depth b v s levels full) (own-child b v s c p (none-of (source_of b c) none)) over)

  module _ (k : Clocked b v) (p levels own a before : ℕ) (e : is_some (source_on v c) ≡ false) (full : levels ≡ length v.rows + 1)
      (owns : own ≡ written_on v c (codes "period") p 0) (was : before ≡ child_period b c)
      (fits : Some a ≡ all_fit v levels c (fitting (wide_on v c (written_on v c (codes "period") p 0))))
      (now : x ≡ spread_on (with_edit c (with_periods own a) (with_period c p v)) levels c before a) where
    gone : source_of b c ≡ None
    gone = none-of (source_of b c) (sourced b v s c ∙ e)

    pub set-done : Answers {A = Done} x (Ok tt) (clock_set b c p)
    set-done =
        set-if p false (sourced b v s c ∙ e) (Ok tt)
        (written-answer b (set_named c (codes "period") (val.Uint p) b) c (own-written b v s c p) v (with_period c p v) x s (shows-own_written b v s c p) k
        (named-periods c (codes "period") (with_val (val.Uint p)) v) levels own a before (wide_on v c (written_on v c (codes "period") p 0))
        (full-depth b v s levels full) (own-child b v s c p gone) (owns ∙ sym (own-period b v s c p gone)) was fits now)

    pub set-clocked : Acts (with_period c p v) x → (y : Board) → Shows y x → Clocked y x
    set-clocked =
        written-clocked b (set_named c (codes "period") (val.Uint p) b) c (own-written b v s c p) v (with_period c p v) x s (shows-own_written b v s c p) k
        (named-periods c (codes "period") (with_val (val.Uint p)) v) levels own a before (wide_on v c (written_on v c (codes "period") p 0))
        (full-depth b v s levels full) (own-child b v s c p gone) (owns ∙ sym (own-period b v s c p gone)) was fits now
        (λ z. k.fits.divides c (sym (own-div b v s c p c) ∙ z))

  scale-if : (m d : ℕ) (t : Bool) → eqb d 0 ≡ t → (result : Result Done ClockError)
      → Answers x result
      (cond t (Err E46) (clock_written b (set_named c (codes "div") (val.Uint d) (set_named c (codes "mul") (val.Uint m) b)) c))
      → Answers x result (clock_scaled b c m d)
  scale-if m d t e result a =
      subst
      (λ (u : Bool). Answers x result
      (cond u (Err E46) (clock_written b (set_named c (codes "div") (val.Uint d) (set_named c (codes "mul") (val.Uint m) b)) c)))
      (sym e) a

  pub scale-zero : (m d : ℕ) → d ≡ 0 → Answers {A = Done} x (Err DividerZero) (clock_scaled b c m d)
  scale-zero m d e = scale-if m d true (eq-eqb d 0 e) (Err DividerZero) refl

  pub scale-over : Clocked b v → (m d own levels : ℕ) → (d ≡ 0 → ⊥) → levels ≡ length v.rows + 1 → own ≡ period b c
      → None ≡ all_fit v levels c (fitting (scaled_by (written_on v c (codes "mul") m 1) (written_on v c (codes "div") d 1) own))
      → Answers {A = Done} x (Err Overflow) (clock_scaled b c m d)
  scale-over k m d own levels not_zero full is over =
      let some : eqb d 0 ≡ false = grind (arith, nat_tests) in
      scale-if m d false some (Err Overflow)
      (answer-over b (set_named c (codes "div") (val.Uint d) (set_named c (codes "mul") (val.Uint m) b)) c (both-written b v s c m d) v x s k.fits
      (child-kept b v s k.fits k.none_round k.kept) levels
      (scaled_by (written_on v c (codes "mul") m 1) (written_on v c (codes "div") d 1) own) (full-depth b v s levels full) (both-child b v s c m d own is)
      over)

  module _ (k : Clocked b v) (m d levels own a before : ℕ) (not_zero : d ≡ 0 → ⊥) (full : levels ≡ length v.rows + 1) (is : own ≡ period b c)
      (was : before ≡ child_period b c)
      (fits : Some a ≡ all_fit v levels c (fitting (scaled_by (written_on v c (codes "mul") m 1) (written_on v c (codes "div") d 1) own)))
      (now : x ≡ spread_on (with_edit c (with_periods own a) (with_scale c m d v)) levels c before a) where
    still : KeepsPeriods v (with_scale c m d v)
    still n =
        named-periods c (codes "div") (with_val (val.Uint d)) (changed_named c (codes "mul") (with_val (val.Uint m)) v) n
        ∙ named-periods c (codes "mul") (with_val (val.Uint m)) v n

    pub scale-done : Answers {A = Done} x (Ok tt) (clock_scaled b c m d)
    scale-done =
        let some : eqb d 0 ≡ false = grind (arith, nat_tests) in
        scale-if m d false some (Ok tt)
        (written-answer b (set_named c (codes "div") (val.Uint d) (set_named c (codes "mul") (val.Uint m) b)) c (both-written b v s c m d) v
        (with_scale c m d v) x s (shows-both b v s c m d) k still levels own a before
        (scaled_by (written_on v c (codes "mul") m 1) (written_on v c (codes "div") d 1) own) (full-depth b v s levels full)
        (both-child b v s c m d own is) (both-period b v s c m d own is) was fits now)

    pub scale-clocked : Acts (with_scale c m d v) x → (y : Board) → Shows y x → Clocked y x
    scale-clocked =
        written-clocked b (set_named c (codes "div") (val.Uint d) (set_named c (codes "mul") (val.Uint m) b)) c (both-written b v s c m d) v
        (with_scale c m d v) x s (shows-both b v s c m d) k still levels own a before
        (scaled_by (written_on v c (codes "mul") m 1) (written_on v c (codes "div") d 1) own) (full-depth b v s levels full)
        (both-child b v s c m d own is) (both-period b v s c m d own is) was fits now (both-divides b v s c m d not_zero)
