-- The path of a device that is added is the one below its container.
use Rattle.std.proofs.Common.{◌≡◌, refl, ap, sym, ◌∙◌, ℕ, ◌+◌, true, false, ◌==◌, ◌&&◌, List, [], ◌∷◌, ◌++◌, Option, Some, None, option_map, codes}
use Rattle.qo_model.proofs.Common.{bytes_eq, ANONYMOUS_BIRTH, MACHINE_BIRTH, PERIPHERAL_BIRTH, Realize, TypeId, Board, is_live, anonymous_name, place_of, path_down_to, path_turn, Resources, Wanted, bus_births, clocked, drafted, source_for, stood, with_device, SoundGraph}
use Rattle.std.proofs.lemmas.Bool.{eqb-true, eq-eqb}
use Rattle.std.proofs.lemmas.Slice.Eq.{bytes_eq-Decides}
use Rattle.std.proofs.Math.Bool.{or-true}
use Rattle.qo_model.proofs.TreeLemmas.{paths_lem}
use Rattle.qo_sound.proofs.FirmBoardLemmas.{WellFormed}
use Rattle.qo_sound.proofs.PlugLemmas.{IsPlace, held-all, shut-above, sits-device, held-plugged}
use Rattle.qo_sound.proofs.TestLemmas.{decide}
use Rattle.qo_sound.proofs.UnplugLemmas.{HasPins}
use Rattle.qo_sound.proofs.ViewLemmas.{PinsRootAlone, sound-from_rest}
use Rattle.qo_sound_devices.specs.SoundPlaces.{child_entries, has_entry, IsRooted, PlacesBut}
use Rattle.qo_sound_devices.proofs.AdditionLemmas.{Goal, Joined, named_entry, numbered_entry, Now, path_after}
use Rattle.qo_sound_devices.proofs.PlacesLemmas.{child-live, owner-live, rooted-same}
use Rattle.qo_sound_devices.proofs.StartLemmas.{acting, dims-acting, joined-counted, joined-dims}
use Rattle.qo_sound_devices.proofs.ValueLemmas.{joined-stood, HasPath}
use Rattle.qo_sound_devices.proofs.SourceLemmas.{holds-source}
use Rattle.qo_sound_devices.proofs.LocationLemmas.{place-named}

-- the last entry is there
has-last : (name : List ℕ) (x : ℕ) (es : List (List ℕ × ℕ)) → has_entry (name, x) (es ++ (name, x) ∷ []) ≡ true
has-last name x [] =
    let own : (x == x) ≡ true = eq-eqb x x refl in let same : bytes_eq name name ≡ true = (bytes_eq-Decides name name).1 refl in rw (own, same) refl
has-last name x (e ∷ es) = rw (has-last name x es) (or-true (e.1 == x && bytes_eq e.0 name))

-- steps from the root, where objects are children under these names
module _ (e : Board) (sound : SoundGraph e) (firm : WellFormed e) where
  steps-root : path_down_to e 1 ≡ Some []
  steps-root = paths_lem.steps_by_parent e sound 1

  steps-below : (p x : ℕ) (name above : List ℕ) → (x == 1) ≡ false → has_entry (name, x) (child_entries e p) ≡ true → path_down_to e p ≡ Some above
      → path_down_to e x ≡ Some (above ++ 47 ∷ name)
  steps-below p x name above apart there is =
      let place : place_of e x ≡ Some (p, name) = place-named e firm p x name there in
      paths_lem.steps_by_parent e sound x ∙ rw (path_turn, apart, place) (ap (option_map (λ (way : List ℕ). way ++ 47 ∷ name)) is)

  module _ (rooted : IsRooted e) where
    machine-steps : path_down_to e MACHINE_BIRTH ≡ Some (codes "/machine")
    machine-steps = steps-below 1 MACHINE_BIRTH (codes "machine") [] refl rooted.machine steps-root

    pub peripheral-steps : (x : ℕ) (name : List ℕ) → (x == 1) ≡ false → has_entry (name, x) (child_entries e PERIPHERAL_BIRTH) ≡ true
        → path_down_to e x ≡ Some (codes "/machine/peripheral/" ++ name)
    peripheral-steps x name apart there =
        steps-below PERIPHERAL_BIRTH x name (codes "/machine/peripheral") apart there
        (steps-below MACHINE_BIRTH PERIPHERAL_BIRTH (codes "peripheral") (codes "/machine") refl rooted.peripheral machine-steps)

    pub anonymous-steps : (x : ℕ) (name : List ℕ) → (x == 1) ≡ false → has_entry (name, x) (child_entries e ANONYMOUS_BIRTH) ≡ true
        → path_down_to e x ≡ Some (codes "/machine/peripheral-anon/" ++ name)
    anonymous-steps x name apart there =
        steps-below ANONYMOUS_BIRTH x name (codes "/machine/peripheral-anon") apart there
        (steps-below MACHINE_BIRTH ANONYMOUS_BIRTH (codes "peripheral-anon") (codes "/machine") refl rooted.anonymous machine-steps)

module _ (depth : ℕ → ℕ) (b : Board) (t : TypeId) (a : Wanted) (resources : Resources) (rest : PinsRootAlone b) (h : PlacesBut depth None (λ x. false) b)
    (goal : Goal depth b (b.born + 1) resources.bus resources.slot a.id t (drafted b t)) (place : IsPlace b t a resources) where
  abbrev n : ℕ
  n = b.born + 1

  abbrev placed : Board
  placed = with_device b t a resources

  abbrev e : Board
  e = acting (b.born + 1) t (with_device b t a resources)

  sits : HasPins (1 ∷ []) e
  sits =
      held-plugged (1 ∷ []) n _
      (held-all (1 ∷ []) Realize (n ∷ bus_births n t) placed (sits-device b t a resources rest (shut-above b.born rest.used.firm.begun) place))

  at_rest : PinsRootAlone e
  at_rest = record { used = sits.near; pinned = sits.pins }

  sound : SoundGraph e
  sound = (sound-from_rest e at_rest).0

  -- what stands on it then
  record Standing : Type 0 where
    now : Now
    joined : Joined depth b (b.born + 1) resources.bus resources.slot a.id t now (acting (b.born + 1) t (with_device b t a resources))

  standing : Standing
  standing =
      let d : Board = clocked (source_for b resources.bus) n (stood b n a resources (drafted b t)) in
      record {
        now = _;
        joined =
            joined-dims depth b n resources.bus resources.slot a.id t _ placed e (dims-acting n t placed)
            (joined-counted depth b n resources.bus resources.slot a.id t _ d a.id
            (joined-dims depth b n resources.bus resources.slot a.id t _ (stood b n a resources (drafted b t)) d
            (holds-source depth b t a resources rest h goal)
            (joined-stood depth b t a resources rest h goal)));
      }

  root_live : is_live b 1 ≡ true
  root_live = owner-live b 1 MACHINE_BIRTH h.machine

  machine_live : is_live b MACHINE_BIRTH ≡ true
  machine_live = child-live b rest.used.firm 1 MACHINE_BIRTH h.machine

  rooted : IsRooted e
  rooted =
      rooted-same b e (standing.joined.body 1 root_live) (standing.joined.children 1 root_live refl) (standing.joined.children MACHINE_BIRTH machine_live refl)
      h.rooted

  not_root : (n == 1) ≡ false
  not_root =
      decide (n == 1) {A = (n == 1) ≡ false}
      (λ p. absurd (let clash : false ≡ true = sym standing.joined.absent ∙ ap (is_live b) (eqb-true n 1 p) ∙ root_live in cc)) (λ p. p)

  pub holds-path : HasPath b t a resources
  holds-path = rw not_root (go a.id refl)
    where
      go : (o : Option (List ℕ)) → a.id ≡ o → path_down_to e n ≡ Some (path_after b o)
      go (Some i) is =
          peripheral-steps e sound sits.near.firm rooted n i not_root
          (ap (has_entry (i, n)) (standing.joined.third ∙ ap (λ (o : Option (List ℕ)). child_entries b PERIPHERAL_BIRTH ++ named_entry o n) is)
          ∙ has-last i n (child_entries b PERIPHERAL_BIRTH))
      go None is =
          anonymous-steps e sound sits.near.firm rooted n (anonymous_name b.anonymous) not_root
          (ap (has_entry (anonymous_name b.anonymous, n))
          (standing.joined.fourth ∙ ap (λ (o : Option (List ℕ)). child_entries b ANONYMOUS_BIRTH ++ numbered_entry b o n) is)
          ∙ has-last (anonymous_name b.anonymous) n (child_entries b ANONYMOUS_BIRTH))
