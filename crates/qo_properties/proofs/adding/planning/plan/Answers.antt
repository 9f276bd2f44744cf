-- The properties are looked at one after another, and none before has the name of the next.
use Rattle.std.proofs.Common.{◌≡◌, ◌+◌, refl, ap, sym, subst, ◌∙◌, ℕ, List, [], ◌∷◌, ◌++◌, take, drop, find, None, IfSome}
use Rattle.std.specs.List.{AllZip}
use Rattle.std.specs.Str.{bytes_eq}
use Rattle.std.proofs.lemmas.List.{take_more}
use Rattle.qo_values.specs.PropertyLists.{NamesRise, names_of}
use Rattle.qo_heap.specs.Rows.{IsLive}
use Rattle.qo_model.specs.Objects.{Given, refusal_by, refusal_of}
use Rattle.qo_model.specs.Properties.{property_named}
use Rattle.qo_properties.specs.declared.adding.filling.InitialValue.{InitialValue}
use Rattle.qo_properties.specs.declared.adding.filling.InitialValue.TheVariants as fill
use Rattle.qo_properties.specs.NewSlots.{new_slots}
use Rattle.qo_properties.specs.Filling.{Fits, IsGiven, target_in}
use Rattle.qo_properties.proofs.GivenPropertyLemmas.{drop-at, passed-first}
use Rattle.qo_properties.proofs.PlanningLemmas.{all-same, none-before, told-done, zip-same}
use Rattle.qo_properties.proofs.adding.planning.plan.Goals as goal

pub loop-pair-init : goal.loop-pair-init
loop-pair-init g c =
    rw c.in_ok-fills.ensures (
    record {
      refused = λ b s. refl;
      told = λ b s. zip-same (IsGiven b []) fill.Default (λ slot. refl) (new_slots c.args.kind);
      fits = zip-same Fits fill.Default (λ slot. refl) (new_slots c.args.kind);
      live = all-same (λ (f : InitialValue). IfSome (target_in f) (IsLive c.args.heap.now.rows)) fill.Default tt (new_slots c.args.kind);
    }
    )

pub loop-pair-preserved : goal.loop-pair-preserved
loop-pair-preserved g c =
    record {
      refused = λ b s.
          c.loop-pair.invariant.refused b s
          ∙ ap (refusal_of b c.args.kind) (drop-at c.as_slice-pair-items.result.now c.loop-pair.pair-index c.pair-item.result c.loop-pair-test.true
          c.pair-item.is)
          ∙ passed-first b c.args.kind c.pair-item.result (drop (c.loop-pair.pair-index + 1) c.as_slice-pair-items.result.now)
          (told-done c.plan_one.result c.in_ok-plan_one.field-0 _ c.in_ok-plan_one.was (c.plan_one.ensures.refused b s)
          ∙ ap (λ (t : List ℕ). refusal_by b (property_named c.args.kind t) c.pair-item.result.1) c.as_str.ensures);
      told = λ b s.
          let all = c.as_slice-pair-items.result.now in
          let i = c.loop-pair.pair-index in
          let next : take (i + 1) all ≡ take i all ++ c.pair-item.result ∷ [] =
          take_more all i c.pair-item.result c.loop-pair-test.true ∙ ap (λ (p : Given). take i all ++ p ∷ []) (sym c.pair-item.is) in
          let none : find (λ (q : Given). bytes_eq q.0 c.as_str.result.now) (take i all) ≡ None =
          subst (λ (t : List ℕ). find (λ (q : Given). bytes_eq q.0 t) (take i all) ≡ None) (sym c.as_str.ensures)
          (none-before all i c.pair-item.result (subst (λ (l : List Given). NamesRise (names_of l))
          (sym c.as_slice-pair-items.ensures.value) c.as_slice-pair-items.ensures.rise) c.loop-pair-test.true c.pair-item.is) in
          subst (λ (l : List Given). AllZip (IsGiven b l) c.plan_one.new.fills.items (new_slots c.args.kind)) (sym next)
          (subst (λ (t : List ℕ). AllZip (IsGiven b (take i all ++ (t, c.pair-item.result.1) ∷ [])) c.plan_one.new.fills.items
          (new_slots c.args.kind)) c.as_str.ensures
          (c.in_ok-plan_one.ensures.told b (take i all) s none (c.loop-pair.invariant.told b s)));
      fits = c.in_ok-plan_one.ensures.fits;
      live = c.in_ok-plan_one.ensures.live c.loop-pair.invariant.live;
    }
