-- A clock is connected or disconnected: its periods are kept afresh.
use Rattle.std.proofs.Common.{◌≡◌, ◌≢◌, refl, ap, subst, sym, ◌∙◌, ℕ, Bool, true, false, cond, eqb, Option, Some, None, option_map, codes, arith}
use Rattle.std.specs.Prelude.{option_and_then}
use Rattle.std.specs.Option.{option_map_or}
use Rattle.std.proofs.lemmas.Bool.{eqb-true}
use Rattle.qo_values.specs.Kinds.{type_name}
use Rattle.qo_values.specs.declared.properties.Val.TheVariants as val
use Rattle.qo_slots.specs.declared.keys.Key.{Key}
use Rattle.qo_model.specs.Board.{Board}
use Rattle.qo_model.specs.Plug.{with_source}
use Rattle.qo_model.specs.Unplug.{disconnected}
use Rattle.qo_object.specs.declared.slots.Slot.{Slot}
use Rattle.qo_object.specs.declared.slots.Slot.TheVariants.{Plain, Child, Link, Alias}
use Rattle.qo_object.specs.Slots.{with_val}
use Rattle.qo_heap.specs.Acts.{KeepsCounts, KeepsPeriods, counted_in}
use Rattle.qo_heap.specs.Board.{Shows}
use Rattle.qo_heap.specs.Objects.{Objects}
use Rattle.qo_clocks.specs.Kept.{FeedsNone, PeriodsKept, kept_afresh, kept_turn}
use Rattle.qo_clocks.specs.Links.{changed_named, fitted_on, is_of_on, unseen_on}
use Rattle.qo_clocks.specs.Periods.{scaled_on}
use Rattle.qo_clocks.specs.Reads.{slot_on, weak_target}
use Rattle.qo_clocks.specs.Subtree.{goes_by}
use Rattle.qo_clocks.proofs.ClockSlots.{named-counts, named-elsewhere, named-other, named-own, named-periods}
use Rattle.qo_clocks.proofs.KeptLemmas.{ReadsAlike, afresh, periods-counts, periods-shown, reads-then, slots-alike}
use Rattle.qo_clocks.proofs.LinkLemmas.{shows-connected, shows-disconnected}

-- whether the source in a slot is a clock
abbrev leads_to : ℕ → Option Slot → Bool
leads_to c o = option_map_or (λ (k : Key). eqb k.birth c) (option_and_then weak_target o) false

fitted-apart : (v : Objects) (c : ℕ) (key : Key) → eqb key.birth c ≡ false → (o : Option Slot) → leads_to c o ≡ false
    → leads_to c (option_map (fitted_on v key) o) ≡ false
fitted-apart v c key apart None e = refl
fitted-apart v c key apart (Some (Plain p)) e = refl
fitted-apart v c key apart (Some (Child k)) e = refl
fitted-apart v c key apart (Some (Link ty true None)) e = go (is_of_on v (type_name ty) key.birth)
  where
    go : (t : Bool) → leads_to c (Some (cond t (Link ty true (Some key)) (Link ty true None))) ≡ false
    go true = refl
    go false = refl
fitted-apart v c key apart (Some (Link ty false None)) e = go (is_of_on v (type_name ty) key.birth)
  where
    go : (t : Bool) → leads_to c (Some (cond t (Link ty false (Some key)) (Link ty false None))) ≡ false
    go true = apart
    go false = refl
fitted-apart v c key apart (Some (Link ty true (Some k))) e = refl
fitted-apart v c key apart (Some (Link ty false (Some k))) e = e
fitted-apart v c key apart (Some (Alias k name)) e = refl

unseen-apart : (c : ℕ) (o : Option Slot) → leads_to c (option_map unseen_on o) ≡ false
unseen-apart c None = refl
unseen-apart c (Some (Plain p)) = refl
unseen-apart c (Some (Child k)) = refl
unseen-apart c (Some (Link ty true target)) = refl
unseen-apart c (Some (Link ty false target)) = refl
unseen-apart c (Some (Alias k name)) = refl

-- who goes by a clock, once another clock was changed

goes-alike : (v u : Objects) (c m : ℕ) → ReadsAlike v u m → goes_by v c m ≡ false → goes_by u c m ≡ false
goes-alike v u c m r none = ap (λ (o : Option Key). option_map_or (λ (k : Key). eqb k.birth c) o false) r.source ∙ none

feeds-none : (v u : Objects) (c : ℕ) → ((m : ℕ) → eqb m c ≡ false → ReadsAlike v u m) → FeedsNone v c → goes_by u c c ≡ false → FeedsNone u c
feeds-none v u c reads none here m = go (eqb m c) refl
  where
    go : (t : Bool) → eqb m c ≡ t → goes_by u c m ≡ false
    go true e = subst (λ (k : ℕ). goes_by u c k ≡ false) (sym (eqb-true m c e)) here
    go false e = goes-alike v u c m (reads m e) (none m)

apart-of : (n m : ℕ) → n ≢ m → eqb m n ≡ false
apart-of n m differ = grind arith

-- afresh

module _ (c : ℕ) (v u w : Objects) (now : w ≡ kept_afresh c u) where
  pub afresh-shown : (b : Board) → Shows b u → Shows b w
  afresh-shown b s = subst (Shows b) (sym now) (periods-shown c (kept_turn u c) (scaled_on u c (kept_turn u c)) u b s)

  pub afresh-counts : KeepsCounts v u → KeepsCounts v w
  afresh-counts same m = ap (λ (x : Objects). counted_in x m) now ∙ periods-counts c (kept_turn u c) (scaled_on u c (kept_turn u c)) u m ∙ same m

  afresh-kept : KeepsPeriods v u → ((m : ℕ) → eqb m c ≡ false → ReadsAlike v u m) → FeedsNone v c → goes_by u c c ≡ false → PeriodsKept v → PeriodsKept w
  afresh-kept same reads none here kept = subst PeriodsKept (sym now) (afresh v u c same reads (feeds-none v u c reads none here) kept)

module _ (v : Objects) (c : ℕ) (key : Key) where
  abbrev connected_on : Objects
  connected_on = changed_named c (codes "source") (fitted_on v key) v

  pub connect-shown : (b : Board) (w : Objects) → w ≡ kept_afresh c connected_on → Shows b v → Shows (with_source key.birth (Some c) b) w
  connect-shown b w now s = afresh-shown c v connected_on w now (with_source key.birth (Some c) b) (shows-connected b v s c (codes "source") key)

  pub connect-counts : (w : Objects) → w ≡ kept_afresh c connected_on → KeepsCounts v w
  connect-counts w now = afresh-counts c v connected_on w now (named-counts c (codes "source") (fitted_on v key) v)

  pub connect-kept : (w : Objects) → w ≡ kept_afresh c connected_on → PeriodsKept v → FeedsNone v c → c ≢ key.birth → PeriodsKept w
  connect-kept w now kept none differ =
      afresh-kept c v connected_on w now (named-periods c (codes "source") (fitted_on v key) v)
      (λ m e. slots-alike v connected_on m (named-elsewhere c (codes "source") (fitted_on v key) v m e)) none
      (ap (leads_to c) (named-own c (codes "source") (fitted_on v key) v)
      ∙ fitted-apart v c key (apart-of c key.birth differ) (slot_on v c (codes "source")) (none c))
      kept

module _ (v : Objects) (c : ℕ) where
  abbrev unlinked_on : Objects
  unlinked_on = changed_named c (codes "source") unseen_on v

  abbrev disconnected_on : Objects
  disconnected_on = changed_named c (codes "period") (with_val (val.Uint 0)) unlinked_on

  pub disconnect-shown : (b : Board) (w : Objects) → w ≡ kept_afresh c disconnected_on → Shows b v → Shows (disconnected (Some c) b) w
  disconnect-shown b w now s = afresh-shown c v disconnected_on w now (disconnected (Some c) b) (shows-disconnected b v s c)

  pub disconnect-counts : (w : Objects) → w ≡ kept_afresh c disconnected_on → KeepsCounts v w
  disconnect-counts w now =
      afresh-counts c v disconnected_on w now
      (λ m. named-counts c (codes "period") (with_val (val.Uint 0)) unlinked_on m ∙ named-counts c (codes "source") unseen_on v m)

  pub disconnect-kept : (w : Objects) → w ≡ kept_afresh c disconnected_on → PeriodsKept v → FeedsNone v c → PeriodsKept w
  disconnect-kept w now kept none =
      afresh-kept c v disconnected_on w now
      (λ m. named-periods c (codes "period") (with_val (val.Uint 0)) unlinked_on m ∙ named-periods c (codes "source") unseen_on v m)
      (λ m e.
      reads-then v unlinked_on disconnected_on m (slots-alike v unlinked_on m (named-elsewhere c (codes "source") unseen_on v m e))
      (slots-alike unlinked_on disconnected_on m (named-elsewhere c (codes "period") (with_val (val.Uint 0)) unlinked_on m e)))
      none
      (ap (leads_to c)
      (named-other c (codes "period") (with_val (val.Uint 0)) unlinked_on (codes "source") refl ∙ named-own c (codes "source") unseen_on v)
      ∙ unseen-apart c (slot_on v c (codes "source")))
      kept
