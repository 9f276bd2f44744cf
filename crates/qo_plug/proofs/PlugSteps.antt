-- A bridge is made, takes its place, starts and is let go: this comes to the board with it.
use Rattle.std.proofs.Common.{◌≡◌, refl, ap, sym, ◌∙◌, ℕ, suc, ◌+◌, ◌≤◌, true, List, [], ◌∷◌, length, Option, Some, None, arith}
use Rattle.std.proofs.lemmas.List.{length-map, take_all}
use Rattle.qo_values.specs.declared.kinds.Act.TheVariants.{Realize}
use Rattle.qo_values.specs.declared.kinds.TypeId.{TypeId}
use Rattle.qo_model.specs.Board.{Board, kind_of, record_of}
use Rattle.qo_model.specs.Paths.{canonical, path_down_to}
use Rattle.qo_model.specs.Plug.{Resources, Wanted, acted_all, born_from, bus_births, clocked, counted, cut_attempt, device_last, further_of, objects_in, plug_attempt, properties_made, source_for, started, stood, types_in, with_ended, with_plugged}
use Rattle.qo_model.specs.Release.{unpin}
use Rattle.qo_model.specs.Reset.{count, post}
use Rattle.qo_model.specs.Types.{slots_of}
use Rattle.qo_model.proofs.DraftEndsLemmas.{born-length}
use Rattle.qo_sound.specs.TreeKept.{SoundTree}
use Rattle.qo_sound.proofs.DraftLemmas.{with_pins}
use Rattle.qo_sound.proofs.PinLemmas.{steps-blind}
use Rattle.qo_sound.proofs.PlugLemmas.{IsPlace}
use Rattle.qo_sound.proofs.StepsLemmas.{plug-steps}
use Rattle.qo_sound.proofs.ViewLemmas.{rest-from_sound}
use Rattle.qo_plug.specs.Drafts.{pinned_draft}
use Rattle.qo_plug.proofs.ScopeLemmas.{Aside, aside, draft-aside, seated-aside, started-pending}
use Rattle.qo_plug.proofs.StartLemmas.{all-still, plugged-still}
use Rattle.qo_plug.proofs.CutLemmas.{begun, held, held-is}

-- all of a device was made, and it was given up: so it is where the attempt was cut after the last object
pub cut-whole : (b : Board) (t : TypeId) (bus : ℕ) → plug_attempt b t bus 0 ≡ cut_attempt b t (objects_in t) true
cut-whole b t bus =
    let os : List (ℕ × TypeId) = born_from (suc b.born) (types_in t) in
    let long : length os ≤ objects_in t = omega (arith, born-length (suc b.born) (types_in t), length-map (further_of t) (λ (f : List ℕ × TypeId). f.1)) in
    ap (λ (l : List (ℕ × TypeId)). with_ended b l [] (device_last l)) (sym (take_all (objects_in t) os long))

-- how many devices were added does not show in paths
pub counted-path : (id : Option (List ℕ)) (c : Board) (n : ℕ) → canonical (counted id c) n ≡ canonical c n
unfolding path_down_to
counted-path None c n = refl
counted-path (Some id) c n = refl

module _ (b : Board) (t : TypeId) (sound : SoundTree b) (a : Wanted) (resources : Resources) where
  abbrev n : ℕ
  n = b.born + 1

  -- the board on which it stands, held from outside
  abbrev pub seated : Board
  seated = counted a.id (clocked (source_for b resources.bus) n (stood b n a resources (pinned_draft b t)))

  started-is : started n t seated ≡ with_pins (held b t sound) (with_plugged b t a resources)
  started-is =
      ap (λ (d : Board). started n t (counted a.id (clocked (source_for b resources.bus) n (stood b n a resources (properties_made n t (slots_of t) d)))))
      (begun b t sound)
      ∙ steps-blind (held b t sound) b t a resources

  pub let-go : IsPlace b t a resources → unpin (started n t seated) n ≡ with_plugged b t a resources
  let-go place =
      ap (λ (d : Board).
      unpin (started n t (counted a.id (clocked (source_for b resources.bus) n (stood b n a resources (properties_made n t (slots_of t) d))))) n)
      (begun b t sound)
      ∙ plug-steps b t a resources (held b t sound) (held-is b t sound) (rest-from_sound b sound) place

  seat-aside : aside seated ≡ aside b
  seat-aside = seated-aside b n a resources (pinned_draft b t) ∙ draft-aside b t

  pub seat-holds : seated.holds ≡ b.holds
  seat-holds = ap (λ (x : Aside). x.holds) seat-aside

  pub seat-notices : seated.notices ≡ b.notices
  seat-notices = ap (λ (x : Aside). x.notices) seat-aside

  pub plugged-notices : (with_plugged b t a resources).notices ≡ (started n t seated).notices
  plugged-notices = sym (ap (λ (c : Board). c.notices) started-is)

  pub plugged-kinds : (m : ℕ) → kind_of (with_plugged b t a resources) m ≡ kind_of (started n t seated) m
  plugged-kinds m = sym (ap (λ (c : Board). kind_of c m) started-is)

  pub plugged-records : (m : ℕ) → record_of (with_plugged b t a resources) m ≡ record_of (started n t seated) m
  plugged-records m = sym (ap (λ (c : Board). record_of c m) started-is)

  pub plugged-pending : (with_plugged b t a resources).pending ≡ b.pending
  plugged-pending = sym (ap (λ (c : Board). c.pending) started-is) ∙ started-pending n t seated ∙ ap (λ (x : Aside). x.pending) seat-aside

  -- who is below whom, and how many holds are on whom
  pub plugged-post : (m : ℕ) → post (with_plugged b t a resources) m ≡ post (started n t seated) m
  unfolding post
  plugged-post m = sym (ap (λ (c : Board). post c m) started-is)

  pub plugged-count : (m : ℕ) → count (with_plugged b t a resources) m ≡ count (started n t seated) m
  unfolding post
  plugged-count m = sym (ap (λ (c : Board). count c m) started-is)

  pub plugged-holds : (started n t seated).holds ≡ b.holds
  plugged-holds =
      let c : Board = acted_all Realize (n ∷ bus_births n t) seated in
      (plugged-still n c).holds ∙ (all-still Realize (n ∷ bus_births n t) seated).holds ∙ seat-holds
