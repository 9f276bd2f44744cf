-- Acts leave to each body its claims, and where they leave the counts, all that is kept; and so does a write of a clock's values.
use Rattle.std.proofs.Common.{◌≡◌, refl, ap, ap₂, sym, subst, ◌∙◌, ℕ, Bool, true, false, eqb, List, [], ◌∷◌, map, codes, Option, Some, None, option_map, OnOk, OnErr, Result, Ok, Err}
use Rattle.qo_values.specs.declared.properties.Val.TheVariants as val
use Rattle.qo_kinds.specs.Bodies.{kept_of}
use Rattle.std.proofs.lemmas.Option.{same_Some}
use Rattle.qo_kinds.specs.declared.kept_set.KeptSet.{KeptSet}
use Rattle.qo_slots.specs.declared.keys.Key.{Key}
use Rattle.qo_heap.specs.Rows.{object_at}
use Rattle.qo_object.specs.declared.slots.Slot.{Slot}
use Rattle.qo_object.specs.declared.room.Side.{Side}
use Rattle.qo_object.specs.Content.{Content}
use Rattle.qo_object.specs.Slots.{with_val}
use Rattle.qo_heap.specs.Acts.{Acts, KeepsCounts, KeepsPeriods, counted_in, counts_of, periods_of, stilled}
use Rattle.qo_heap.specs.Objects.{Objects, content_of, with_edit}
use Rattle.qo_life.proofs.TreeLemmas.{read-content}
use Rattle.qo_clocks.specs.Links.{changed_named, index_on, with_slot_changed}
use Rattle.qo_clocks.specs.Writes.{with_period, with_scale}
use Rattle.qo_clocks.specs.declared.errors.ClockError.{ClockError}
use Rattle.qo_properties.specs.KeptClaims.{ClaimsBefore, CountsBefore, SameClaims, SameKept, all_kept, kept_by, kept_with}
use Rattle.qo_properties.proofs.KeptLemmas.{claims-same, counts-same}

kept-still : (n : ℕ) (rows : List (Key × Content))
    → option_map (λ (c : Content). kept_of c.body) (object_at (map stilled rows) n) ≡ option_map (λ (c : Content). kept_of c.body) (object_at rows n)
kept-still n [] = refl
kept-still n (row ∷ rows) = go (eqb row.0.birth n) refl (kept-still n rows)
  where
    go : (t : Bool) → eqb row.0.birth n ≡ t
        → option_map (λ (c : Content). kept_of c.body) (object_at (map stilled rows) n) ≡ option_map (λ (c : Content). kept_of c.body) (object_at rows n)
        → option_map (λ (c : Content). kept_of c.body) (object_at (map stilled (row ∷ rows)) n)
        ≡ option_map (λ (c : Content). kept_of c.body) (object_at (row ∷ rows) n)
    go true e rest = rw e refl
    go false e rest = rw e rest

pub acts-claims : (v w : Objects) → Acts v w → SameClaims v w
acts-claims v w acts n =
    sym (kept-still n w.rows) ∙ ap (λ (l : List (Key × Content)). option_map (λ (c : Content). kept_of c.body) (object_at l n)) acts.rows
    ∙ kept-still n v.rows

-- a side has no more parts
abbrev tally : Side → ℕ × ℕ
tally s = (s.count, s.marks)

abbrev ticks : Side → ℕ × ℕ
ticks s = (s.period, s.child)

side-of : (s t : Side) → tally s ≡ tally t → ticks s ≡ ticks t → s ≡ t
side-of s t counts periods = ap₂ (λ (x y : ℕ × ℕ). record { count = x.0; marks = x.1; period = y.0; child = y.1 }) counts periods

pub acts-kept : (v w : Objects) → Acts v w → KeepsCounts v w → KeepsPeriods v w → SameKept v w
acts-kept v w acts counts periods n = go (content_of w n) (content_of v n) (acts-claims v w acts n) (counts n) (periods n)
  where
    go : (x y : Option Content) → option_map (λ (c : Content). kept_of c.body) x ≡ option_map (λ (c : Content). kept_of c.body) y
        → option_map counts_of x ≡ option_map counts_of y → option_map periods_of x ≡ option_map periods_of y
        → option_map kept_with x ≡ option_map kept_with y
    go None None p q r = refl
    go None (Some d) p q r = absurd (let clash : None ≡ Some (kept_of d.body) = p in cc)
    go (Some c) None p q r = absurd (let clash : Some (kept_of c.body) ≡ None = p in cc)
    go (Some c) (Some d) p q r =
        ap₂ (λ (k : KeptSet) (x : Side). Some (k, x)) (same_Some (kept_of c.body) (kept_of d.body) p)
        (side-of c.side d.side (same_Some (counts_of c) (counts_of d) q) (same_Some (periods_of c) (periods_of d) r))

pub changed-kept : (n : ℕ) (name : List ℕ) (f : Slot → Slot) (v : Objects) → SameKept v (changed_named n name f v)
changed-kept n name f v m = go (index_on v n name)
  where
    go : (o : Option ℕ) → all_kept (elim o as (λ _. Objects) [ None ↦ v | Some i ↦ with_edit n (with_slot_changed f i) v ]) m ≡ all_kept v m
    go None = refl
    go (Some i) = read-content kept_with n (with_slot_changed f i) (λ c. refl) v m

-- a clock's values were written, or not
pub clock-claims : {T : Type 0} (v w x : Objects) (r : Result T ClockError) → SameKept v x → OnOk r (Acts x w) → OnErr r (w ≡ v) → ClaimsBefore v w
clock-claims v w x (Ok done) same acts err n k e = sym (acts-claims x w acts n ∙ claims-same v x same n) ∙ e
clock-claims v w x (Err code) same acts err n k e = subst (λ (y : Objects). kept_by y n ≡ Some k) err e

pub clock-counts : {T : Type 0} (v w x : Objects) (r : Result T ClockError) → SameKept v x → OnOk r (KeepsCounts x w) → OnErr r (w ≡ v) → CountsBefore v w
clock-counts v w x (Ok done) same counts err n k e = sym (counts n ∙ counts-same v x same n) ∙ e
clock-counts v w x (Err code) same counts err n k e = subst (λ (y : Objects). counted_in y n ≡ Some k) err e

pub period-kept : (v : Objects) (c period : ℕ) → SameKept v (with_period c period v)
period-kept v c period = changed-kept c (codes "period") (with_val (val.Uint period)) v

pub scale-kept : (v : Objects) (c mul div : ℕ) → SameKept v (with_scale c mul div v)
scale-kept v c mul div n =
    changed-kept c (codes "div") (with_val (val.Uint div)) (changed_named c (codes "mul") (with_val (val.Uint mul)) v) n
    ∙ changed-kept c (codes "mul") (with_val (val.Uint mul)) v n
