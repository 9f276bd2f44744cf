-- The theorem by which a law over every change is proved from its steps; and that each change is a run of steps.
use Rattle.std.proofs.Common.{ℕ, List, [], ◌∷◌}
use Rattle.qo_model.proofs.Common.{Contains, ⊤, AllByRecursion, TypeId, Board}
use Rattle.std.proofs.lemmas.List.Elements.{All-contains_itself, recursion_from_All}
use Rattle.qo_sound_devices.specs.SoundDevices.{SoundDevices}
use Rattle.qo_steps.specs.Changes.{Changes, ChangesOf, RunsLaw, types_made, types_of}
use Rattle.qo_steps.specs.Steps.{IsThere, Run, none}
use Rattle.qo_steps.proofs.AttemptLemmas.{attempt-by, cut-by, given_up-by}
use Rattle.qo_steps.proofs.KeepsLemmas.{PartsKeep, StepsKeep, parts-by, typed-by}
use Rattle.qo_steps.proofs.PartsLemmas.{kept-asked, kept-changed, kept-detach, kept-held, kept-let_go, kept-plug, kept-pulse, kept-refused, kept-released, kept-reset, kept-scaled, kept-set, kept-unpin}
use Rattle.qo_steps.proofs.ReachLemmas.{Reaches, reach-any}
use Rattle.qo_steps.proofs.RunLemmas.{run-steps}
use Rattle.qo_steps.proofs.SoundReachLemmas.{reach-sound}

-- P is kept, where objects are made of types that pass alone
abbrev pub Kept : (TypeId → Type 0) → (Board → Type 0) → List TypeId → Board → Board → Type 0
Kept Made P types b c = AllByRecursion Made types → P b → P c

module _ (Good : Board → Type 0) (On : Board → ℕ → Type 0) (reach : Reaches Good On) where
  pub changes-keep : (Made : TypeId → Type 0) (P : Board → Type 0) → PartsKeep Made On P → ChangesOf Good On (Kept Made P)
  changes-keep Made P k =
      record {
        finalized = λ b n free passes h. k.finalizes n b free h;
        slot_let_go = λ b owner i passes h. kept-let_go Good On reach Made P k b owner i h;
        unpinned = λ b n passes h. kept-unpin Good On reach Made P k b n h;
        attempt = λ b t passes h. attempt-by P k.objects.attempted b t h;
        given_up = λ b t bus stage passes h. given_up-by P k.objects.attempted b t bus stage h;
        cut = λ b t i joins passes h. cut-by P k.objects.attempted b t i joins h;
        asked_for = λ b id passes h. kept-asked Good On reach Made P k b id h;
        refused_by = λ b d passes h. kept-refused Good On reach Made P k b d h;
        held_so = λ b n kind good on passes h. kept-held Good On reach Made P k b n kind good on h;
        released_so = λ b n good on passes h. kept-released Good On reach Made P k b n good on h;
        pulsed = λ b n kind good on passes h. kept-pulse Good On reach Made P k b n kind good on h;
        set = λ b d c period e passes h. kept-set Good On reach Made P k b d c period e h;
        scaled = λ b d c mul div e passes h. kept-scaled Good On reach Made P k b d c mul div e h;
        change = λ b change passes h. kept-changed Good On reach Made P k b change passes h;
        plugged = λ b a good passes h. kept-plug Good On reach Made P k b a good passes h;
        detached = λ b d good on passes h. kept-detach Good On reach Made P k b d good on h;
        reset = λ b good passes h. kept-reset Good On reach Made P k b good h;
      }

  -- of a relation that parts extend and that relates each board to itself
  module _ (R : List TypeId → Board → Board → Type 0) (same : (types : List TypeId) (b : Board) → R types b b)
      (k : (types : List TypeId) (b : Board) → PartsKeep (Contains types) On (R types b)) where
    keep : (types : List TypeId) (b : Board) → ChangesOf Good On (Kept (Contains types) (R types b))
    keep types b = changes-keep (Contains types) (R types b) (k types b)

    pass : (types : List TypeId) → AllByRecursion (Contains types) types
    pass types = recursion_from_All (Contains types) types (All-contains_itself types)

    pub parts-relate : ChangesOf Good On R
    parts-relate =
        record {
          finalized = λ b n free. (keep [] b).finalized b n free tt (same [] b);
          slot_let_go = λ b owner i. (keep [] b).slot_let_go b owner i tt (same [] b);
          unpinned = λ b n. (keep [] b).unpinned b n tt (same [] b);
          attempt = λ b t. (keep [] b).attempt b t tt (same [] b);
          given_up = λ b t bus stage. (keep [] b).given_up b t bus stage tt (same [] b);
          cut = λ b t i joins. (keep [] b).cut b t i joins tt (same [] b);
          asked_for = λ b id. (keep [] b).asked_for b id tt (same [] b);
          refused_by = λ b d. (keep [] b).refused_by b d tt (same [] b);
          held_so = λ b n kind good on. (keep [] b).held_so b n kind good on tt (same [] b);
          released_so = λ b n good on. (keep [] b).released_so b n good on tt (same [] b);
          pulsed = λ b n kind good on. (keep [] b).pulsed b n kind good on tt (same [] b);
          set = λ b d c period e. (keep [] b).set b d c period e tt (same [] b);
          scaled = λ b d c mul div e. (keep [] b).scaled b d c mul div e tt (same [] b);
          change = λ b change. (keep (types_made change) b).change b change (pass (types_made change)) (same (types_made change) b);
          plugged = λ b a good. (keep (types_of a.driver) b).plugged b a good (pass (types_of a.driver)) (same (types_of a.driver) b);
          detached = λ b d good on. (keep [] b).detached b d good on tt (same [] b);
          reset = λ b good. (keep [] b).reset b good tt (same [] b);
        }

  -- of one that steps extend
  pub steps-relate : (R : List TypeId → Board → Board → Type 0) → ((types : List TypeId) (b : Board) → R types b b)
      → ((types : List TypeId) (b : Board) → StepsKeep (Contains types) On (R types b)) → ChangesOf Good On R
  steps-relate R same k = parts-relate R same (λ types b. parts-by (Contains types) On (R types b) (k types b))

  -- and of one that does not speak of types
  pub changes-relate : (R : Board → Board → Type 0) → ((b : Board) → R b b) → ((b : Board) → StepsKeep (λ t. ⊤) On (R b)) → ChangesOf Good On (λ types. R)
  changes-relate R same k = steps-relate (λ types. R) (λ types. same) (λ types b. typed-by (Contains types) On (R b) (k b))

-- what follows where boards are related follows of each change that relates them
pub changes-imply : (Good : Board → Type 0) (On : Board → ℕ → Type 0) (R S : List TypeId → Board → Board → Type 0)
    → ((types : List TypeId) (b c : Board) → R types b c → S types b c) → ChangesOf Good On R → ChangesOf Good On S
changes-imply Good On R S says k =
    record {
      finalized = λ b n free. says [] b _ (k.finalized b n free);
      slot_let_go = λ b owner i. says [] b _ (k.slot_let_go b owner i);
      unpinned = λ b n. says [] b _ (k.unpinned b n);
      attempt = λ b t. says [] b _ (k.attempt b t);
      given_up = λ b t bus stage. says [] b _ (k.given_up b t bus stage);
      cut = λ b t i joins. says [] b _ (k.cut b t i joins);
      asked_for = λ b id. says [] b _ (k.asked_for b id);
      refused_by = λ b d. says [] b _ (k.refused_by b d);
      held_so = λ b n kind good on. says [] b _ (k.held_so b n kind good on);
      released_so = λ b n good on. says [] b _ (k.released_so b n good on);
      pulsed = λ b n kind good on. says [] b _ (k.pulsed b n kind good on);
      set = λ b d c period e. says [] b _ (k.set b d c period e);
      scaled = λ b d c mul div e. says [] b _ (k.scaled b d c mul div e);
      change = λ b change. says (types_made change) b _ (k.change b change);
      plugged = λ b a good. says (types_of a.driver) b _ (k.plugged b a good);
      detached = λ b d good on. says [] b _ (k.detached b d good on);
      reset = λ b good. says [] b _ (k.reset b good);
    }

all-types : (types : List TypeId) → AllByRecursion (λ (t : TypeId). ⊤) types
all-types [] = tt
all-types (t ∷ types) = (tt, all-types types)

-- what each step keeps of any type, every change keeps: on any board, and on one that is sound as far as devices go, where whoever acts is there
module _ (P : Board → Type 0) where
  keeps-by : (Good : Board → Type 0) (On : Board → ℕ → Type 0) → Reaches Good On → StepsKeep (λ t. ⊤) On P → ChangesOf Good On (λ types b c. P b → P c)
  keeps-by Good On reach k =
      changes-imply Good On (Kept (λ t. ⊤) P) (λ types b c. P b → P c) (λ types b c keeps h. keeps (all-types types) h)
      (changes-keep Good On reach (λ t. ⊤) P (parts-by (λ t. ⊤) On P k))

  pub any-keep : StepsKeep (λ t. ⊤) (λ c n. ⊤) P → Changes (λ types b c. P b → P c)
  any-keep = keeps-by (λ b. ⊤) (λ b n. ⊤) reach-any

  pub sound-keep : StepsKeep (λ t. ⊤) IsThere P → ChangesOf SoundDevices IsThere (λ types b c. P b → P c)
  sound-keep = keeps-by SoundDevices IsThere reach-sound

-- the same of a relation that steps extend
pub any-relate : (R : Board → Board → Type 0) → ((b : Board) → R b b) → ((b : Board) → StepsKeep (λ t. ⊤) (λ c n. ⊤) (R b)) → Changes (λ types. R)
any-relate = changes-relate (λ b. ⊤) (λ b n. ⊤) reach-any

pub sound-relate : (R : Board → Board → Type 0) → ((b : Board) → R b b) → ((b : Board) → StepsKeep (λ t. ⊤) IsThere (R b))
    → ChangesOf SoundDevices IsThere (λ types. R)
sound-relate = changes-relate SoundDevices IsThere reach-sound

pub runs_lem : RunsLaw
runs_lem =
    record {
      any = steps-relate (λ b. ⊤) (λ b n. ⊤) reach-any (λ types. Run types (λ c n. ⊤)) (λ types b. none) (λ types b. run-steps types (λ c n. ⊤) b);
      sound = steps-relate SoundDevices IsThere reach-sound (λ types. Run types IsThere) (λ types b. none) (λ types b. run-steps types IsThere b);
    }
