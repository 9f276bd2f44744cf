-- Adding a device, taken or refused at any stage, keeps places.
use Rattle.std.proofs.Common.{◌≡◌, ◌∙◌, ℕ, ◌+◌, true, false, None, codes}
use Rattle.qo_model.proofs.Common.{TypeId, Board, is_of, Resources, Wanted, drafted, joined, plug, resources_of, with_given, with_plugged, edit, set_named}
use Rattle.qo_values.specs.declared.properties.Val.TheVariants as val
use Rattle.qo_sound.proofs.ViewLemmas.{PinsRootAlone}
use Rattle.qo_sound_devices.specs.SoundPlaces.{PlacesBut, SoundPlaces}
use Rattle.qo_sound_devices.proofs.AcceptanceLemmas.{goal-of, passes}
use Rattle.qo_sound_devices.proofs.BusLinkLemmas.{holds-bus}
use Rattle.qo_sound_devices.proofs.AdditionLemmas.{Goal, deepened, done, Joined, places-joined}
use Rattle.qo_sound_devices.proofs.JoiningLemmas.{now_at}
use Rattle.qo_sound_devices.proofs.PathLemmas.{holds-path}
use Rattle.qo_sound_devices.proofs.PlacesLemmas.{of-alike, of-live}
use Rattle.qo_sound_devices.proofs.PlugLemmas.{Accepted, after-plug, plug_attempt-places}
use Rattle.qo_sound_devices.proofs.SourceLemmas.{holds-source}
use Rattle.qo_sound_devices.proofs.ValueLemmas.{Holds, joined-slotted, plugged-joined}

module _ (depth : ℕ → ℕ) (b : Board) (a : Wanted) (rest : PinsRootAlone b) (h : PlacesBut depth None (λ x. false) b) where
  module _ (t : TypeId) (bus : ℕ) (goal : Goal depth b (b.born + 1) bus (resources_of b t bus a.props).slot a.id t (drafted b t)) (k : Accepted b t bus a) where
    abbrev resources : Resources
    resources = resources_of b t bus a.props

    -- where its slot is written, before it is linked
    abbrev slotted : Board
    slotted =
        set_named (b.born + 1) (codes "slot") (val.Uint (resources_of b t bus a.props).slot)
        (edit (b.born + 1) (with_given b a.props) (joined b (b.born + 1) a (resources_of b t bus a.props) (drafted b t)))

    still-bus : is_of slotted (codes "bus") bus ≡ true
    still-bus =
        of-alike b slotted bus (codes "bus") (it.body bus (of-live b (codes "bus") bus goal.is_bus)) ∙ goal.is_bus
      where
        it : Joined depth b (b.born + 1) bus resources.slot a.id t (now_at (b.born + 1) slotted) slotted
        it = joined-slotted depth b t a resources rest h goal

    holds : Holds depth b t a (resources_of b t bus a.props) rest h goal
    holds =
        record {
          on = holds-bus b t rest.used.firm goal.device a resources (passes b t bus a k).properties still-bus;
          source = holds-source depth b t a resources rest h goal;
          path = holds-path depth b t a resources rest h goal k.place;
        }

  pub accepted-joined : (t : TypeId) (bus : ℕ) → Accepted b t bus a
      → Joined depth b (b.born + 1) bus (resources_of b t bus a.props).slot a.id t (done b bus (resources_of b t bus a.props).slot a.id)
      (with_plugged b t a (resources_of b t bus a.props))
  accepted-joined t bus k =
      let goal : Goal depth b (b.born + 1) bus (resources_of b t bus a.props).slot a.id t (drafted b t) = goal-of depth b t bus a rest h k in
      plugged-joined depth b t a (resources_of b t bus a.props) rest h goal (holds t bus goal k)

  pub plugged-places : SoundPlaces (plug b a).board
  plugged-places =
      after-plug SoundPlaces b a (depth, h)
      (λ t bus stage. (depth, plug_attempt-places depth b t bus stage rest h))
      (λ t bus k. (
        deepened depth (b.born + 1) bus (with_plugged b t a (resources_of b t bus a.props)),
        places-joined depth b (b.born + 1) bus (resources_of b t bus a.props).slot a.id t (with_plugged b t a (resources_of b t bus a.props))
            (accepted-joined t bus k) rest.used.firm h,
      ))
