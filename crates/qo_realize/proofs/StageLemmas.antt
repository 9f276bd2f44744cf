-- What stands after each stage of an add.
use Rattle.std.proofs.Common.{◌≡◌, refl, ap, sym, subst, ◌∙◌, ℕ, ◌≤◌, Bool, true, Option, Some, Ok, Err, Result, arith, List}
use Rattle.std.proofs.lemmas.Option.{same_Some}
use Rattle.qo_hotplug.specs.Hotplug.{Asked}
use Rattle.qo_model.specs.Board.{Board, Ring}
use Rattle.qo_model.specs.Plug.{Wanted, objects_in, plug_attempt}
use Rattle.qo_model.specs.ChangeScope.{Stays}
use Rattle.qo_heap.specs.Board.{Shows}
use Rattle.qo_heap.specs.Objects.{Objects}
use Rattle.qo_plug.specs.Admission.{IfRefused}
use Rattle.qo_plug.specs.Answers.{IsAdded, IsCut, IsRefused, IsShown}
use Rattle.qo_plug.specs.Stages.{IsBegun, IsBeside, IsSettled}
use Rattle.qo_plug.specs.declared.adding.Added as device
use Rattle.qo_plug.specs.declared.beginning.NewDevice.{NewDevice}
use Rattle.qo_plug.specs.declared.placing.AttachedDevice.{AttachedDevice}
use Rattle.qo_plug.specs.declared.refusals.AddRefusal.{AddRefusal}
use Rattle.qo_plug.specs.declared.refusals.AddRefusal.TheVariants.{Refused, Memory}
use Rattle.qo_plug.proofs.PlugSteps.{cut-whole}
use Rattle.qo_plug.proofs.StageLemmas.{passed-making, passed-placing}
use Rattle.qo_properties.specs.Claims.{KeepsBook}
use Rattle.qo_properties.specs.KeptClaims.{KeptOrNew}
use Rattle.qo_plug.specs.KeptClaims.{KeptAs}
use Rattle.qo_plug.specs.KeptPeriods.{FedAs}
use Rattle.qo_plug.proofs.FedLemmas.{fed-so-far}
use Rattle.qo_plug.proofs.KeptLemmas.{so-far}
use Rattle.qo_realize.specs.BoardClaims.{KeepsClaims}
use Rattle.qo_clocks.specs.Kept.{PeriodsKept}
use Rattle.qo_reset.specs.Counts.{CountsKept}
use Rattle.qo_reset.specs.HoldList.{HoldList}
use Rattle.qo_sound.proofs.DeviceScopeLemmas.{devices_stay_lem}
use Rattle.qo_values.specs.declared.codes.Code.{Code}
use Rattle.qo_values.specs.declared.codes.Code.TheVariants.{E44}
use Rattle.qo_values.specs.declared.kinds.TypeId.{TypeId}
use Rattle.qo_realize.specs.Answers.{Plugs}
use Rattle.qo_realize.specs.SoundBoard.{SoundBoard}
use Rattle.qo_realize.specs.Parts.{Parts, counts, parts_of}
use Rattle.qo_realize.specs.Stages.{IsDrafted, IsPlugged, IsWithin, Since}
use Rattle.qo_realize.specs.Representation.{Stands, StandsForGood}
use Rattle.qo_realize.proofs.PlugLemmas.{added-stands, barred-stands, cut-stands, is_shown, the}
use Rattle.qo_realize.proofs.GoodBoardLemmas.{given_up-good}

-- the book is kept on from step to step
books : (u v w : Objects) → KeepsBook u v → KeepsBook v w → KeepsBook u w
books u v w one two = λ out h. two out (one out h)

module _ (b : Board) (a : Wanted) (rings : List Ring) (anonymous next : ℕ) (running : Bool) (holds : HoldList) (old : Asked) where
  -- the parts of the board with these objects
  abbrev at : Objects → Parts
  at v = parts_of rings anonymous running holds old v

  pub since-begun : (v w : Objects) → Stands b (at v) → SoundBoard b → next ≡ counts anonymous a.id → KeepsBook v w → KeepsClaims v → CountsKept holds.births v
      → PeriodsKept v → Since b a (at w) next
  since-begun v w s good is keeps claims counted clocked =
      record {
        before = v;
        stood = s;
        book = keeps;
        good = good;
        counted = is ∙ ap (λ (n : ℕ). counts n a.id) (sym s.anonymous);
        claims = claims;
        counts_kept = counted;
        periods_kept = clocked;
      }

  module _ (v : Objects) (since : Since b a (at v) next) where
    pub since-beside : IsBeside b holds.births old
    since-beside = record { holds_are = since.stood.holds; pending = since.stood.pending; notices = since.stood.notices }

    module _ (w : Objects) (keeps : KeepsBook v w) where
      kept : KeepsBook since.before w
      kept = books since.before v w since.book keeps

      pub since-then : Since b a (at w) next
      since-then =
          record {
            before = since.before;
            stood = since.stood;
            book = kept;
            good = since.good;
            counted = since.counted;
            claims = since.claims;
            counts_kept = since.counts_kept;
            periods_kept = since.periods_kept;
          }

      -- it is refused, or an attempt is cut
      since-barred : (new : Asked) → new ≡ old → (e : AddRefusal)
          → IfRefused (the (Result device.Added AddRefusal) (Err e)) (λ stage code. IsRefused b a stage code w)
          → (e ≡ Memory → IsCut b a w) → Plugs b a (Err e) (parts_of rings anonymous running holds new w)
      since-barred new same e refused memory =
          barred-stands b a rings anonymous running holds old new since.before w e since.stood refused (λ is. memory (cc is)) same kept

      pub begin-barred : (e : AddRefusal)
          → IfRefused (the (Result device.Added AddRefusal) (Err e)) (λ stage code. (1 ≤ stage) × (stage ≤ 4) × IsRefused b a stage code w)
          → (e ≡ Memory → IsCut b a w) → IsWithin 1 4 e × Plugs b a (Err e) (at w)
      begin-barred (Refused stage code) h memory = ((h.0, h.1), since-barred old refl (Refused stage code) h.2 memory)
      begin-barred Memory h memory = (tt, since-barred old refl Memory tt memory)

      pub place-barred : (e : AddRefusal)
          → IfRefused (the (Result device.Added AddRefusal) (Err e)) (λ stage code. (5 ≤ stage) × (stage ≤ 6) × IsRefused b a stage code w)
          → (e ≡ Memory → IsCut b a w) → IsWithin 5 7 e × Plugs b a (Err e) (at w)
      place-barred (Refused stage code) h memory = ((h.0, omega (arith, h.1)), since-barred old refl (Refused stage code) h.2 memory)
      place-barred Memory h memory = (tt, since-barred old refl Memory tt memory)

      pub finish-barred : (new : Asked) → new ≡ old → (stage : ℕ) (code : Code) → ◌≡◌ {A = Option (ℕ × Code)} (Some (stage, code)) (Some (8, E44))
          → IsRefused b a 8 E44 w → (Refused stage code ≡ Refused 8 E44) × Plugs b a (Err (Refused stage code)) (parts_of rings anonymous running holds new w)
      finish-barred new same stage code is refused = (
        ap (λ (r : ℕ × Code). Refused r.0 r.1) pair,
        subst (λ (r : ℕ × Code). Plugs b a (Err (Refused r.0 r.1)) (parts_of rings anonymous running holds new w)) (sym pair)
            (since-barred new same (Refused 8 E44) refused (λ clash. cc)),
      )
        where
          pair : ◌≡◌ {A = ℕ × Code} (stage, code) (8, E44)
          pair = same_Some (stage, code) (8, E44) is

      -- it is added
      pub since-added : (new : Asked) (d : device.Added) → IsAdded b a d new w → Plugs b a (Ok d) (parts_of rings next running holds new w)
      since-added new d added =
          added-stands b a rings anonymous next running holds old new since.before w d since.stood added
          (since.counted ∙ ap (λ (n : ℕ). counts n a.id) since.stood.anonymous) kept

      -- it is given up
      pub since-given_up : (t : TypeId) (bus : ℕ) → Shows (plug_attempt b t bus 4) w → Stands (plug_attempt b t bus 4) (at w)
      since-given_up t bus s =
          cut-stands b (plug_attempt b t bus 4) rings anonymous running holds old since.before w since.stood given_up-stays s kept
        where
          given_up-stays : Stays b (plug_attempt b t bus 4)
          given_up-stays = subst (Stays b) (sym (cut-whole b t bus)) (devices_stay_lem.cut b t (objects_in t) true).stays

      pub given_up-stands : (t : TypeId) (bus : ℕ) → Shows (plug_attempt b t bus 4) w → StandsForGood (at w)
      given_up-stands t bus s = (plug_attempt b t bus 4, since-given_up t bus s, given_up-good b t bus since.good)

  -- a draft, and what is plugged of it
  pub drafted-is : (v w : Objects) (d : NewDevice) → Stands b (at v) → SoundBoard b → next ≡ counts anonymous a.id → KeepsBook v w → KeepsClaims v
      → CountsKept holds.births v → PeriodsKept v → KeptOrNew v w → IsBegun b a d w
      → IsDrafted b a (record { parts = at w; next = next; begun = d })
  unfolding since-begun
  drafted-is v w d s good is keeps claims counted clocked own begun =
      record {
        since = since-begun v w s good is keeps claims counted clocked;
        begun = begun;
        kept = own;
        passed = passed-making b a d.target begun.admitted begun.given;
      }

  -- where a stage was begun on a board that stood, whatever of it is shown
  module _ (v w : Objects) (p : Parts) (whole : at v ≡ p) (stood : Stands b p) (good : SoundBoard b) (is : next ≡ counts anonymous a.id) (keeps : KeepsBook v w)
      (claims : KeepsClaims v) (counted : CountsKept holds.births v) (clocked : PeriodsKept v) where
    seen : Stands b (at v)
    seen = subst (Stands b) (sym whole) stood

    abbrev Shown : Type 0
    Shown = IsShown b anonymous holds.births rings old v

    shown : Shown
    shown = is_shown b rings anonymous running holds old v seen good claims

    pub begun-drafted : (d : NewDevice) → KeptOrNew v w → (Shown → IsBegun b a d w) → IsDrafted b a (record { parts = at w; next = next; begun = d })
    begun-drafted d own begun = drafted-is v w d seen good is keeps claims counted clocked own (begun shown)

    pub begun-barred : (e : AddRefusal)
        → (Shown → IfRefused (the (Result device.Added AddRefusal) (Err e)) (λ stage code. (1 ≤ stage) × (stage ≤ 4) × IsRefused b a stage code w))
        → (Shown → e ≡ Memory → IsCut b a w) → IsWithin 1 4 e × Plugs b a (Err e) (at w)
    begun-barred e refused memory = begin-barred v (since-begun v v seen good is (λ out h. h) claims counted clocked) w keeps e (refused shown) (memory shown)

  pub plugged-is : (v w : Objects) (p : AttachedDevice) (since : Since b a (at v) next) → KeptOrNew since.before v → KeepsBook v w
      → KeptAs p.device.birth p.plugging v w → FedAs p.device.birth p.plugging v w → IsSettled b a p w
      → IsPlugged b a (record { parts = at w; next = next; placed = p })
  unfolding since-then
  plugged-is v w p since before keeps own fed settled =
      record {
        since = since-then v since w keeps;
        settled = settled;
        kept = so-far since.before v w p.device.birth p.plugging before own;
        fed = fed-so-far p.device.birth p.plugging since.before v w before fed;
        passed = passed-placing b a p w settled;
      }
