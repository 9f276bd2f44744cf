-- What is kept of clocks: what leaves it right, and how it is kept afresh.
use Rattle.std.proofs.Common.{◌≡◌, refl, ap, ap₂, subst, sym, ◌∙◌, ℕ, ◌-◌, ◌^◌, min, Bool, true, false, eqb, Option, Some, None, option_map}
use Rattle.std.specs.Option.{option_map_or}
use Rattle.std.proofs.lemmas.Bool.{eqb-true}
use Rattle.std.proofs.lemmas.Option.{same_Some}
use Rattle.qo_slots.specs.declared.keys.Key.{Key}
use Rattle.qo_model.specs.Board.{Board}
use Rattle.qo_model.specs.Clocks.{scaled_by}
use Rattle.qo_object.specs.declared.room.Side.{Side}
use Rattle.qo_object.specs.Content.{Content, with_side}
use Rattle.qo_heap.specs.Acts.{Acts, KeepsCounts, KeepsPeriods, clocked_in, counts_of, periods_of}
use Rattle.qo_heap.specs.Board.{Shows}
use Rattle.qo_heap.specs.Moments.{Timely}
use Rattle.qo_heap.specs.Objects.{IsHeap, Objects, content_of, slots_of, with_edit}
use Rattle.qo_heap.proofs.ActsLemmas.{acts-edit}
use Rattle.qo_heap.proofs.BoardEdits.{edit-unseen, pins-edited}
use Rattle.qo_heap.proofs.BoardObjects.{content-edited, content-other}
use Rattle.qo_heap.proofs.HeapLemmas.{edit-is}
use Rattle.qo_clocks.specs.Kept.{IsClocked, PeriodsKept, child_kept, kept_afresh, kept_turn, with_periods}
use Rattle.qo_clocks.specs.Periods.{scaled_on}
use Rattle.qo_clocks.specs.Reads.{div_on, mul_on, own_on, source_on}
use Rattle.qo_clocks.specs.Subtree.{goes_by}
use Rattle.qo_clocks.proofs.ClockSlots.{read-after, slots-after}
use Rattle.qo_clocks.proofs.ScopeLemmas.{edit-timely}

-- other periods are kept of one object

pub keep-as : (v : Objects) → IsHeap v → (n p q : ℕ) (s : Side) → option_map (λ (c : Content). c.side) (content_of v n) ≡ Some s
    → with_edit n (with_side (record s { period = p; child = q })) v ≡ with_edit n (with_periods p q) v
keep-as v good n p q s e = go (content_of v n) refl e
  where
    to : Side → Content → Content
    to x c = with_side (record x { period = p; child = q }) c

    go : (o : Option Content) → content_of v n ≡ o → option_map (λ (c : Content). c.side) o ≡ Some s
        → with_edit n (with_side (record s { period = p; child = q })) v ≡ with_edit n (with_periods p q) v
    go None at is = cc
    go (Some c) at is =
        sym (edit-is v good n (to s) c (to s c) at refl)
        ∙ edit-is v good n (with_periods p q) c (to s c) at (ap (λ (x : Side). to x c) (sym (same_Some c.side s is)))

module _ (n p q : ℕ) (v : Objects) where
  abbrev with_kept : Objects
  with_kept = with_edit n (with_periods p q) v

  pub periods-acts : Acts v with_kept
  periods-acts = acts-edit v n (with_periods p q) (λ c. refl)

  pub periods-counts : KeepsCounts v with_kept
  periods-counts = read-after counts_of n (with_periods p q) (λ c. refl) v

  pub periods-timely : Timely v → Timely with_kept
  periods-timely all = edit-timely n (with_periods p q) (λ c. refl) v.time v.rows all

  pub periods-shown : (b : Board) → Shows b v → Shows b with_kept
  periods-shown b s =
      record {
        records = s.records ∙ sym (edit-unseen n (with_periods p q) (λ m c. refl) v.rows);
        born = s.born;
        pins = s.pins ∙ sym (pins-edited n (with_periods p q) (λ c. refl) v.rows);
        notes = s.notes;
        events = s.events;
        now = s.now;
      }

  pub periods-slots : (m : ℕ) → slots_of with_kept m ≡ slots_of v m
  periods-slots m = slots-after n (with_periods p q) (λ c. refl) v m

  pub periods-here : clocked_in with_kept n ≡ option_map (λ (c : Content). (p, q)) (content_of v n)
  periods-here = ap (option_map periods_of) (content-edited v n (with_periods p q)) ∙ two (content_of v n)
    where
      two : (o : Option Content) → option_map periods_of (option_map (with_periods p q) o) ≡ option_map (λ (c : Content). (p, q)) o
      two None = refl
      two (Some c) = refl

  pub periods-elsewhere : (m : ℕ) → eqb m n ≡ false → clocked_in with_kept m ≡ clocked_in v m
  periods-elsewhere m apart = ap (option_map periods_of) (content-other v n m (with_periods p q) apart)

-- what is read alike

pub record ReadsAlike (v w : Objects) (n : ℕ) : Type 0 where
  pub source : source_on w n ≡ source_on v n
  pub own : own_on w n ≡ own_on v n
  pub mul : mul_on w n ≡ mul_on v n
  pub div : div_on w n ≡ div_on v n

pub slots-alike : (v w : Objects) (n : ℕ) → slots_of w n ≡ slots_of v n → ReadsAlike v w n
slots-alike v w n same = record { source = rw same refl; own = rw same refl; mul = rw same refl; div = rw same refl }

pub reads-then : (v w x : Objects) (n : ℕ) → ReadsAlike v w n → ReadsAlike w x n → ReadsAlike v x n
reads-then v w x n r s = record { source = s.source ∙ r.source; own = s.own ∙ r.own; mul = s.mul ∙ r.mul; div = s.div ∙ r.div }

pub scaled-alike : (v w : Objects) (n : ℕ) → ReadsAlike v w n → (p : ℕ) → scaled_on w n p ≡ scaled_on v n p
scaled-alike v w n r p = ap₂ (λ (mul div : ℕ). min (scaled_by mul div p) (2 ^ 64 - 1)) r.mul r.div

pub child-alike : (v w : Objects) (m : ℕ) → clocked_in w m ≡ clocked_in v m → child_kept w m ≡ child_kept v m
child-alike v w m same =
    two (content_of w m) ∙ ap (λ (o : Option (ℕ × ℕ)). option_map_or (λ (p : ℕ × ℕ). p.1) o 0) same ∙ sym (two (content_of v m))
  where
    two : (o : Option Content) → option_map_or (λ (c : Content). c.side.child) o 0 ≡ option_map_or (λ (p : ℕ × ℕ). p.1) (option_map periods_of o) 0
    two None = refl
    two (Some c) = refl

abbrev pub turn_by : Objects → ℕ → Option Key → ℕ
turn_by v n o = elim o as (λ _. ℕ) [ None ↦ own_on v n | Some s ↦ child_kept v s.birth ]

pub turn-alike : (v w : Objects) (n : ℕ) → ReadsAlike v w n → ((s : Key) → source_on v n ≡ Some s → child_kept w s.birth ≡ child_kept v s.birth)
    → kept_turn w n ≡ kept_turn v n
turn-alike v w n r child = ap (turn_by w n) r.source ∙ go (source_on v n) refl
  where
    go : (o : Option Key) → source_on v n ≡ o → turn_by w n o ≡ turn_by v n o
    go None e = r.own
    go (Some s) e = child s e

-- what is kept of a clock stays right where it stays, and what it reads

pub clocked-same : (v w : Objects) (n : ℕ) → ReadsAlike v w n → clocked_in w n ≡ clocked_in v n
    → ((s : Key) → source_on v n ≡ Some s → child_kept w s.birth ≡ child_kept v s.birth)
    → ((d : Content) → content_of v n ≡ Some d → IsClocked v n d) → (c : Content) → content_of w n ≡ Some c → IsClocked w n c
clocked-same v w n r same child kept c there = go (content_of v n) refl
  where
    go : (o : Option Content) → content_of v n ≡ o → IsClocked w n c
    go None p =
        absurd (let clash : Some (periods_of c) ≡ None = sym (ap (option_map periods_of) there) ∙ same ∙ ap (option_map periods_of) p in cc)
    go (Some d) p =
        let k : IsClocked v n d = kept d p in
        let both : periods_of c ≡ periods_of d =
        same_Some (periods_of c) (periods_of d) (sym (ap (option_map periods_of) there) ∙ same ∙ ap (option_map periods_of) p) in
        let period : c.side.period ≡ d.side.period = ap (λ (x : ℕ × ℕ). x.0) both in
        let below : c.side.child ≡ d.side.child = ap (λ (x : ℕ × ℕ). x.1) both in
        record {
          period = period ∙ k.period ∙ sym (turn-alike v w n r child);
          child = below ∙ k.child ∙ ap (scaled_on v n) (sym period) ∙ sym (scaled-alike v w n r c.side.period);
        }

pub kept-same : (v w : Objects) → ((n : ℕ) → ReadsAlike v w n) → KeepsPeriods v w → PeriodsKept v → PeriodsKept w
kept-same v w r same kept n = clocked-same v w n (r n) (same n) (λ s e. child-alike v w s.birth (same s.birth)) (kept n)

-- it is kept afresh of one clock, by which no clock goes

module _ (v u : Objects) (n : ℕ) (same : KeepsPeriods v u) (reads : (m : ℕ) → eqb m n ≡ false → ReadsAlike v u m) (none : (m : ℕ) → goes_by u n m ≡ false) where
  abbrev w : Objects
  w = kept_afresh n u

  now : (m : ℕ) → ReadsAlike u w m
  now m = slots-alike u w m (periods-slots n (kept_turn u n) (scaled_on u n (kept_turn u n)) u m)

  sources : (m : ℕ) (s : Key) → source_on u m ≡ Some s → child_kept w s.birth ≡ child_kept u s.birth
  sources m s e =
      let apart : eqb s.birth n ≡ false = sym (ap (λ (o : Option Key). option_map_or (λ (k : Key). eqb k.birth n) o false) e) ∙ none m in
      child-alike u w s.birth (periods-elsewhere n (kept_turn u n) (scaled_on u n (kept_turn u n)) u s.birth apart)

  pub afresh : PeriodsKept v → PeriodsKept w
  afresh kept m c there = go (eqb m n) refl
    where
      here : (k : ℕ) → k ≡ n → content_of w k ≡ Some c → IsClocked w k c
      here k is at =
          let found : clocked_in w n ≡ Some (periods_of c) = ap (clocked_in w) (sym is) ∙ ap (option_map periods_of) at in
          let both : periods_of c ≡ (kept_turn u n, scaled_on u n (kept_turn u n)) =
          by (content_of u n) (sym found ∙ periods-here n (kept_turn u n) (scaled_on u n (kept_turn u n)) u) in
          let period : c.side.period ≡ kept_turn u n = ap (λ (x : ℕ × ℕ). x.0) both in
          let child : c.side.child ≡ scaled_on u n (kept_turn u n) = ap (λ (x : ℕ × ℕ). x.1) both in
          subst (λ (j : ℕ). IsClocked w j c) (sym is)
          (record {
            period = period ∙ sym (turn-alike u w n (now n) (sources n));
            child = child ∙ ap (scaled_on u n) (sym period) ∙ sym (scaled-alike u w n (now n) c.side.period);
          })
        where
          by : (o : Option Content) → Some (periods_of c) ≡ option_map (λ (x : Content). (kept_turn u n, scaled_on u n (kept_turn u n))) o
              → periods_of c ≡ (kept_turn u n, scaled_on u n (kept_turn u n))
          by None e = cc
          by (Some x) e = same_Some (periods_of c) (kept_turn u n, scaled_on u n (kept_turn u n)) e

      go : (t : Bool) → eqb m n ≡ t → IsClocked w m c
      go true p = here m (eqb-true m n p) there
      go false p =
          clocked-same v w m (reads-then v u w m (reads m p) (now m))
          (periods-elsewhere n (kept_turn u n) (scaled_on u n (kept_turn u n)) u m p ∙ same m)
          (λ s e. sources m s ((reads m p).source ∙ e) ∙ child-alike v u s.birth (same s.birth)) (kept m) c there
