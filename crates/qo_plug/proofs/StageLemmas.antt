-- What is known of a device that was begun, where it is placed.
use Rattle.std.proofs.Common.{◌≡◌, refl, ap, sym, subst, ◌∙◌, ℕ, ◌<◌, ◌≤◌, Bool, true, false, nat_le, [], ◌∷◌, length, Option, Some, None, IfSome, Result, Ok, Err, arith}
use Rattle.qo_values.specs.declared.codes.Code.{Code}
use Rattle.qo_values.specs.declared.codes.Code.TheVariants.{E44}
use Rattle.qo_values.specs.declared.limits.TheConstants.{NOTICES_MAX}
use Rattle.qo_model.specs.Board.{Board}
use Rattle.qo_model.specs.Objects.{refusal_of}
use Rattle.qo_model.specs.Plug.{Plugged, Wanted, at_stage, barred_late, first_of, notice_barred, place_barred, plug, plug_attempt, plug_late, realize_barred}
use Rattle.qo_heap.specs.Board.{Shows}
use Rattle.qo_heap.specs.Objects.{Objects}
use Rattle.qo_plug.specs.declared.beginning.NewDevice.{NewDevice}
use Rattle.qo_plug.specs.declared.targets.Target.{Target}
use Rattle.qo_plug.specs.declared.placing.AttachedDevice.{AttachedDevice}
use Rattle.qo_plug.specs.declared.placing.Plugging.{Plugging}
use Rattle.qo_plug.specs.declared.placing.Plugging.TheVariants.{Attached, NoticesFull}
use Rattle.qo_plug.specs.declared.refusals.Barred.{Barred}
use Rattle.qo_plug.specs.declared.resources.Resources.{Resources as Chosen}
use Rattle.qo_plug.specs.Admission.{IsAdmitted, barred_in}
use Rattle.qo_plug.specs.Answers.{IsCut, IsOpen, IsRefused}
use Rattle.qo_plug.specs.Stages.{IsBegun, IsHeld, IsSettled, StandsBy}
use Rattle.qo_plug.specs.Placement.{IsAttachment}
use Rattle.qo_plug.proofs.AddLemmas.{cut-late, is-refused, whole-cut}
use Rattle.qo_plug.proofs.AdmissionLemmas.{added-late}
use Rattle.qo_plug.proofs.JudgementLemmas.{late-notices, late-resources, notice_as}

module _ (b : Board) (a : Wanted) (d : NewDevice) (v : Objects) (is : IsBegun b a d v) where
  pub bus-low : IsHeld d v → d.target.bus.birth ≤ b.born
  bus-low held = omega (arith, held.older, is.birth)

  pub attachment-of : IsAttachment b a d.target.place.container.birth d.target.place.name d.target.place.id
  attachment-of = record { id_is = sym is.admitted.place.id; name_is = sym is.admitted.place.name; parent_is = sym is.admitted.place.container }

  -- it has resources there
  module _ (at : Chosen) (has : d.resources ≡ Ok at) where
    by-notices : (full : Bool) → nat_le NOTICES_MAX (length b.notices) ≡ full
        → barred_late b d.target.kind d.target.bus.birth a.props ≡ at_stage 8 (notice_as full)
    by-notices full =
        late-notices b d.target.bus.birth d.target.kind a.props full (sym is.given) (ap (λ (r : Result Chosen Barred). barred_in r) (sym has) ∙ is.barred)

    pub opened : nat_le NOTICES_MAX (length b.notices) ≡ false → IsOpen b a d.target at
    opened room = record { admitted = is.admitted; late = by-notices false room; chosen = rw has at is.resources }

    pub full-barred : nat_le NOTICES_MAX (length b.notices) ≡ true → barred_late b d.target.kind d.target.bus.birth a.props ≡ Some (8, E44)
    full-barred full = by-notices true full

  -- it has none
  pub resources-refused : (bar : Barred) → d.resources ≡ Err bar → (w : Objects) → Shows (plug_attempt b d.target.kind d.target.bus.birth bar.stage) w
      → IsRefused b a bar.stage bar.code w
  resources-refused bar has w s =
      is-refused b a d.target is.admitted w bar.stage bar.code
      (late-resources b d.target.bus.birth d.target.kind a.props (bar.stage, bar.code) (sym is.given)
      (ap (λ (r : Result Chosen Barred). barred_in r) (sym has) ∙ is.barred)) s

  -- memory wants
  pub given_up-cut : (w : Objects) → Shows (plug_attempt b d.target.kind d.target.bus.birth 0) w → IsCut b a w
  given_up-cut w s = cut-late b a d.target is.admitted w (whole-cut b d.target.kind d.target.bus.birth w s)

-- what bars a device is of a later stage than those that it has passed
module _ (b : Board) (a : Wanted) (s : Target) (admitted : IsAdmitted b a s) where
  told : (o : Option (ℕ × Code)) → (plug_late b s.kind s.bus.birth a o).refusal ≡ o
  told None = refl
  told (Some refusal) = refl

  refusal-late : (plug b a).refusal ≡ barred_late b s.kind s.bus.birth a.props
  refusal-late =
      ap (λ (q : Plugged). q.refusal) (added-late b a s.kind admitted.kind admitted.driver s.bus.birth admitted.early admitted.bus)
      ∙ told (barred_late b s.kind s.bus.birth a.props)

  abbrev first_by : Option Code → Option Code → Option Code → Option Code → Option (ℕ × Code)
  first_by given place reset notices = first_of (at_stage 4 given ∷ at_stage 5 place ∷ at_stage 6 reset ∷ at_stage 8 notices ∷ [])

  abbrev place_bar : Option Code
  place_bar = place_barred b s.kind s.bus.birth a.props

  abbrev reset_bar : Option Code
  reset_bar = realize_barred b s.kind a.props

  abbrev LaterOf : Option Code → Type 0
  LaterOf o = IfSome (first_by o place_bar reset_bar (notice_barred b)) (λ (r : ℕ × Code). 4 < r.0)

  pub passed-making : refusal_of b s.kind a.props ≡ None → IfSome (plug b a).refusal (λ (r : ℕ × Code). 4 < r.0)
  passed-making given = rw refusal-late (subst LaterOf (sym given) (later place_bar reset_bar (notice_barred b)))
    where
      later : (p r n : Option Code) → IfSome (first_by None p r n) (λ (x : ℕ × Code). 4 < x.0)
      later (Some code) r n = omega arith
      later None (Some code) n = omega arith
      later None None (Some code) = omega arith
      later None None None = tt

  passed-as : (o : Option (ℕ × Code)) → barred_late b s.kind s.bus.birth a.props ≡ o → IfSome o (λ (r : ℕ × Code). 7 < r.0)
      → IfSome (plug b a).refusal (λ (r : ℕ × Code). 7 < r.0)
  passed-as o is h = subst (λ (x : Option (ℕ × Code)). IfSome x (λ (r : ℕ × Code). 7 < r.0)) (sym (refusal-late ∙ is)) h

pub passed-placing : (b : Board) (a : Wanted) (p : AttachedDevice) (v : Objects) → IsSettled b a p v → IfSome (plug b a).refusal (λ (r : ℕ × Code). 7 < r.0)
passed-placing b a p v is = by p.plugging is.target.2
  where
    by : (w : Plugging) → StandsBy b a is.target.0 p.device.birth p.slot w v → IfSome (plug b a).refusal (λ (r : ℕ × Code). 7 < r.0)
    by (Attached path) h = passed-as b a is.target.0 h.3.admitted None h.3.late tt
    by (NoticesFull out) h = passed-as b a is.target.0 h.0 (Some (8, E44)) h.1 (omega arith)
