-- What leaves the objects of a board where they are, and the ranges of its DIMMs.
use Rattle.std.proofs.Common.{◌≡◌, refl, ap, ap₂, sym, subst, ◌∙◌, ℕ, Bool, true, false, cond, ◌==◌, List, [], ◌∷◌, map, filter, Option, Some, None, option_map}
use Rattle.std.proofs.lemmas.Bool.{eqb-true}
use Rattle.std.specs.Option.{option_map_or}
use Rattle.qo_values.specs.Registers.{Registers, bare, body_act, bridge, dimm, timer, uart}
use Rattle.qo_values.specs.declared.kinds.Act.{Act}
use Rattle.qo_values.specs.declared.kinds.Act.TheVariants.{Enter, Exit, Hold, Init, Pre, Realize, Unrealize, Update, Wake}
use Rattle.qo_values.specs.declared.kinds.ResetKind.{ResetKind}
use Rattle.qo_values.specs.Kinds.{entering}
use Rattle.qo_model.specs.Board.{Board, Record, record_of}
use Rattle.qo_model.specs.Clocks.{acted, with_act_on}
use Rattle.qo_model.specs.Release.{edit, edited, without_first}
use Rattle.qo_model.specs.Reset.{after_hold, is_not_in_reset, phased, post, pulse, released}
use Rattle.qo_model.specs.SoundGraph.{without_values}
use Rattle.qo_model.proofs.StepLemmas.{found-birth, found-edited}
use Rattle.qo_layout.specs.Layout.{dimm_in}
use Rattle.qo_layout.specs.SameViews.{SameObjects}
use Rattle.qo_layout.proofs.SameViewLemmas.{same-beside}

pub same-then : (b c d : Board) → SameObjects b c → SameObjects c d → SameObjects b d
same-then b c d first next =
    record { objects = first.objects ∙ next.objects; ranges = λ o. first.ranges o ∙ next.ranges o }

-- an object is changed in its plain values and registers
module _ (n : ℕ) (change : Record → Record) (keeps : (r : Record) → without_values (change r) ≡ without_values r) where
  objects-edited : (rs : List Record) → map without_values rs ≡ map without_values (map (edited n change) rs)
  objects-edited [] = refl
  objects-edited (r ∷ rs) = ap₂ (λ (x : Record) (xs : List Record). x ∷ xs) (go (r.birth == n)) (objects-edited rs)
    where
      go : (here : Bool) → without_values r ≡ without_values (cond here (change r) r)
      go true = sym (keeps r)
      go false = refl

  range-edited : (b : Board) (o : ℕ) → ((r : Record) → record_of b n ≡ Some r → dimm_in (change r).registers ≡ dimm_in r.registers)
      → (found : Option Record) → record_of b o ≡ found
      → option_map_or (λ (r : Record). dimm_in r.registers) found (record { address = 0; size = 0 })
      ≡ option_map_or (λ (r : Record). dimm_in r.registers) (option_map (edited n change) found) (record { address = 0; size = 0 })
  range-edited b o same None is = refl
  range-edited b o same (Some r) is = go (r.birth == n) refl
    where
      go : (here : Bool) → (r.birth == n) ≡ here → dimm_in r.registers ≡ dimm_in (cond here (change r) r).registers
      go true p =
          let it : o ≡ n = sym (found-birth o b.records r is) ∙ eqb-true r.birth n p in
          sym (same r (subst (λ (m : ℕ). record_of b m ≡ Some r) it is))
      go false p = refl

  pub same-edited : (b : Board) → ((r : Record) → record_of b n ≡ Some r → dimm_in (change r).registers ≡ dimm_in r.registers)
      → SameObjects b (edit n change b)
  same-edited b same = record {
    objects = objects-edited b.records;
    ranges =
        λ o.
        range-edited b o same (record_of b o) refl
        ∙ ap (λ (found : Option Record). option_map_or (λ (r : Record). dimm_in r.registers) found (record { address = 0; size = 0 }))
        (sym (found-edited n change (λ r. ap (λ (x : Record). x.birth) (keeps r)) o b.records));
  }

-- no act changes where a DIMM stands
range-acted : (act : Act) (now period : ℕ) (r : Registers) → dimm_in (body_act act now period r) ≡ dimm_in r
range-acted (Init k) now period r = refl
range-acted Realize now period r = refl
range-acted Unrealize now period (uart u) = refl
range-acted Unrealize now period (timer t) = refl
range-acted Unrealize now period (dimm d) = refl
range-acted Unrealize now period (bridge b) = refl
range-acted Unrealize now period bare = refl
range-acted Enter now period (uart u) = refl
range-acted Enter now period (timer t) = refl
range-acted Enter now period (dimm d) = refl
range-acted Enter now period (bridge b) = refl
range-acted Enter now period bare = refl
range-acted Wake now period (uart u) = refl
range-acted Wake now period (timer t) = refl
range-acted Wake now period (dimm d) = refl
range-acted Wake now period (bridge b) = refl
range-acted Wake now period bare = refl
range-acted Hold now period (uart u) = refl
range-acted Hold now period (timer t) = refl
range-acted Hold now period (dimm d) = refl
range-acted Hold now period (bridge b) = refl
range-acted Hold now period bare = refl
range-acted Exit now period (uart u) = refl
range-acted Exit now period (timer t) = refl
range-acted Exit now period (dimm d) = refl
range-acted Exit now period (bridge b) = refl
range-acted Exit now period bare = refl
range-acted Pre now period (uart u) = refl
range-acted Pre now period (timer t) = refl
range-acted Pre now period (dimm d) = refl
range-acted Pre now period (bridge b) = refl
range-acted Pre now period bare = refl
range-acted Update now period (uart u) = refl
range-acted Update now period (timer t) = refl
range-acted Update now period (dimm d) = refl
range-acted Update now period (bridge b) = refl
range-acted Update now period bare = refl

same-acted : (act : Act) (n period : ℕ) (b : Board) → SameObjects b (acted act n period b)
unfolding acted
same-acted act n period b =
    let e : SameObjects b (edit n (with_act_on act b.now period) b) =
    same-edited n (with_act_on act b.now period) (λ r. refl) b (λ r there. range-acted act b.now period r.registers)
    in
    record { objects = e.objects; ranges = e.ranges }

same-phased : (act : Act) (os : List ℕ) (b : Board) → SameObjects b (phased act os b)
same-phased act [] b = same-beside b b refl
same-phased act (o ∷ os) b = same-then b (acted act o 0 b) (phased act os (acted act o 0 b)) (same-acted act o 0 b) (same-phased act os (acted act o 0 b))

-- so does a reset of what is below an object
pub same-held : (b : Board) (r : ℕ) (kind : ResetKind) → SameObjects b (after_hold b r kind)
unfolding after_hold
same-held b r kind =
    let os : List ℕ = filter (is_not_in_reset b) (post b r) in
    let c : Board = phased (entering kind) os b in
    let e : SameObjects b (phased Hold os c) = same-then b c (phased Hold os c) (same-phased (entering kind) os b) (same-phased Hold os c) in
    record { objects = e.objects; ranges = e.ranges }

pub same-released : (b : Board) (r : ℕ) → SameObjects b (released b r)
unfolding released
same-released b r =
    let c : Board = record b { holds = without_first r b.holds } in
    let e : SameObjects c (phased Exit (filter (is_not_in_reset c) (post c r)) c) = same-phased Exit (filter (is_not_in_reset c) (post c r)) c in
    record { objects = e.objects; ranges = e.ranges }

pub same-pulsed : (b : Board) (r : ℕ) (kind : ResetKind) → SameObjects b (pulse b r kind)
unfolding pulse
same-pulsed b r kind = same-then b (after_hold b r kind) (released (after_hold b r kind) r) (same-held b r kind) (same-released (after_hold b r kind) r)
