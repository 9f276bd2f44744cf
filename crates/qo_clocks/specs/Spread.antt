-- For proofs alone. A change of a period spreads on the heap: the clocks below keep other periods, and their parents are called back.
use Rattle.std.specs.Prelude.{ℕ, ◌==◌, if◌then◌else◌, List, [], ◌∷◌, None, Some}
use Rattle.std.specs.List.{flat_map}
use Rattle.qo_values.specs.declared.kinds.Act.{Act}
use Rattle.qo_values.specs.declared.kinds.Act.TheVariants.{Pre, Update}
use Rattle.qo_model.specs.declared.notes.Deed.TheVariants.{Did}
use Rattle.qo_model.specs.Depth.{by_depth}
use Rattle.qo_object.specs.Content.{acted_at}
use Rattle.qo_heap.specs.Objects.{Objects, parent_of, with_edit, with_note}
use Rattle.qo_clocks.specs.Kept.{with_periods}
use Rattle.qo_clocks.specs.Periods.{scaled_on}
use Rattle.qo_clocks.specs.Subtree.{fed_on}

-- an act at the heap's time
abbrev pub acted_on : Act → ℕ → ℕ → Objects → Objects
acted_on act n period v = with_note (record { birth = n; deed = Did act }) (with_edit n (acted_at act v.time period) v)

-- the period of a clock before and after, and after the change that of those that go by it
pub record Change : Type 0 where
  pub clock : ℕ
  pub before : ℕ
  pub after : ℕ
  pub child : ℕ

-- the parent of a clock is called back; and before that the clock keeps its periods
abbrev pub called_on : ℕ → ℕ → ℕ → Objects → Objects
called_on n before after v =
    elim (parent_of v n) [ None ↦ v | Some d ↦ acted_on Update d.birth after (acted_on Pre d.birth before v) ]

abbrev pub changed_on : Change → Objects → Objects
changed_on x v = called_on x.clock x.before x.after (with_edit x.clock (with_periods x.after x.child) v)

unfoldable pub all_changed_on : List Change → Objects → Objects
all_changed_on [] v = v
all_changed_on (x ∷ xs) v = all_changed_on xs (changed_on x v)

-- the changes of the clocks below a clock in preorder, to a depth, where those that go by the clock have a period before and after; none
-- where that stays
abbrev pub change_at : Objects → (ℕ → ℕ → ℕ → List Change) → ℕ → ℕ → ℕ → List Change
change_at v f before after n =
    record { clock = n; before = before; after = after; child = scaled_on v n after } ∷ f n (scaled_on v n before) (scaled_on v n after)

abbrev pub changes_turn : Objects → (ℕ → ℕ → ℕ → List Change) → ℕ → ℕ → ℕ → List Change
changes_turn v f c before after = if before == after then [] else flat_map (change_at v f before after) (fed_on v c)

unfoldable pub changes_on : Objects → ℕ → ℕ → ℕ → ℕ → List Change
changes_on v levels = by_depth (changes_turn v) (λ _ _ _. []) levels

-- they happen
unfoldable pub spread_on : Objects → ℕ → ℕ → ℕ → ℕ → Objects
spread_on v levels c before after = all_changed_on (changes_on v levels c before after) v
