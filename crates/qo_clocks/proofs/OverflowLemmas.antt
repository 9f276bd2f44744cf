-- Whether a period below a clock would overflow, clock by clock.
use Rattle.std.proofs.Common.{◌≡◌, refl, ap, sym, ◌∙◌, ℕ, suc, ◌^◌, Bool, true, false, ◌||◌, nat_le, cond, eqb, [], ◌∷◌, Option, Some, None, option_map}
use Rattle.std.specs.List.{list_any}
use Rattle.std.specs.Option.{option_map_or}
use Rattle.std.proofs.lemmas.Bool.{eq-eqb, eqb-true}
use Rattle.std.proofs.lemmas.Option.{same_Some}
use Rattle.qo_object.specs.declared.room.Side.{Side}
use Rattle.qo_object.specs.Content.{Content}
use Rattle.qo_heap.specs.Objects.{IsHeap, Objects, content_of}
use Rattle.qo_clocks.specs.Kept.{child_kept}
use Rattle.qo_clocks.specs.Overflows.{over_at, overflows_on}
use Rattle.qo_clocks.specs.Periods.{fitting, wide_on}
use Rattle.qo_clocks.specs.Subtree.{fed_above, fed_on}
use Rattle.qo_clocks.proofs.FeedingLemmas.{fed-all}

-- what is kept of a clock for those that go by it
pub side-child : (v : Objects) (n : ℕ) (s : Side) → option_map (λ (c : Content). c.side) (content_of v n) ≡ Some s → child_kept v n ≡ s.child
side-child v n s e = go (content_of v n) e
  where
    go : (o : Option Content) → option_map (λ (c : Content). c.side) o ≡ Some s → option_map_or (λ (c : Content). c.side.child) o 0 ≡ s.child
    go None is = cc
    go (Some c) is = ap (λ (x : Side). x.child) (same_Some c.side s is)

-- none so far would

module _ (v : Objects) (levels c period : ℕ) where
  abbrev is_over : ℕ → Bool
  is_over = over_at v (overflows_on v levels) period

  abbrev pub Left : ℕ → Type 0
  Left above = list_any (over_at v (overflows_on v levels) period) (fed_above v c above) ≡ list_any (over_at v (overflows_on v levels) period) (fed_on v c)

  pub left-init : IsHeap v → Left 0
  left-init good = ap (list_any is_over) (fed-all v good c)

  one-more : (n above : ℕ) → fed_above v c above ≡ n ∷ fed_above v c n → Left above
      → (is_over n || list_any is_over (fed_above v c n)) ≡ list_any is_over (fed_on v c)
  one-more n above fed left = sym (ap (list_any is_over) fed) ∙ left

  over-wide : (n : ℕ) → None ≡ fitting (wide_on v n period) → is_over n ≡ true
  over-wide n e = go (nat_le (2 ^ 64) (wide_on v n period)) e
    where
      go : (t : Bool) → None ≡ cond t None (Some (wide_on v n period)) → (t || overflows_on v levels n (wide_on v n period)) ≡ true
      go true q = refl
      go false q = cc

  over-below : (n child : ℕ) → Some child ≡ fitting (wide_on v n period) → is_over n ≡ overflows_on v levels n child
  over-below n child e = go (nat_le (2 ^ 64) (wide_on v n period)) e
    where
      go : (t : Bool) → Some child ≡ cond t None (Some (wide_on v n period)) → (t || overflows_on v levels n (wide_on v n period)) ≡ overflows_on v levels n child
      go true q = cc
      go false q = ap (overflows_on v levels n) (sym (same_Some child (wide_on v n period) q))

  pub left-next : (n above child : ℕ) → fed_above v c above ≡ n ∷ fed_above v c n → Left above → Some child ≡ fitting (wide_on v n period)
      → overflows_on v levels n child ≡ false → Left n
  left-next n above child fed left fits none =
      sym (ap (λ (t : Bool). t || list_any is_over (fed_above v c n)) (over-below n child fits ∙ none)) ∙ one-more n above fed left

  -- the whole

  module _ (all : ℕ) (more : all ≡ suc levels) where
    whole : overflows_on v all c period ≡ cond (eqb (child_kept v c) period) false (list_any is_over (fed_on v c))
    unfolding overflows_on
    whole = ap (λ (d : ℕ). overflows_on v d c period) more

    pub over-stays : child_kept v c ≡ period → false ≡ overflows_on v all c period
    over-stays same = sym (whole ∙ ap (λ (t : Bool). cond t false (list_any is_over (fed_on v c))) (eq-eqb (child_kept v c) period same))

    over-changes : (child_kept v c ≡ period → ⊥) → overflows_on v all c period ≡ list_any is_over (fed_on v c)
    over-changes differ = whole ∙ go (eqb (child_kept v c) period) refl
      where
        go : (t : Bool) → eqb (child_kept v c) period ≡ t → cond t false (list_any is_over (fed_on v c)) ≡ list_any is_over (fed_on v c)
        go true is = absurd (differ (eqb-true (child_kept v c) period is))
        go false is = refl

    found : (n above : ℕ) → fed_above v c above ≡ n ∷ fed_above v c n → Left above → (child_kept v c ≡ period → ⊥) → is_over n ≡ true
        → true ≡ overflows_on v all c period
    found n above fed left differ is =
        sym (over-changes differ ∙ sym (one-more n above fed left) ∙ ap (λ (t : Bool). t || list_any is_over (fed_above v c n)) is)

    pub over-too_wide : (n above : ℕ) → fed_above v c above ≡ n ∷ fed_above v c n → Left above → (child_kept v c ≡ period → ⊥)
        → None ≡ fitting (wide_on v n period) → true ≡ overflows_on v all c period
    over-too_wide n above fed left differ wide = found n above fed left differ (over-wide n wide)

    pub over-found : (n above child : ℕ) → fed_above v c above ≡ n ∷ fed_above v c n → Left above → (child_kept v c ≡ period → ⊥)
        → Some child ≡ fitting (wide_on v n period) → overflows_on v levels n child ≡ true → true ≡ overflows_on v all c period
    over-found n above child fed left differ fits there = found n above fed left differ (over-below n child fits ∙ there)

    pub over-none : (above : ℕ) → fed_above v c above ≡ [] → Left above → (child_kept v c ≡ period → ⊥) → false ≡ overflows_on v all c period
    over-none above fed left differ = sym (over-changes differ ∙ sym left ∙ ap (list_any is_over) fed)

pub over-no_levels : (v : Objects) (c period : ℕ) → false ≡ overflows_on v 0 c period
unfolding overflows_on
over-no_levels v c period = refl
