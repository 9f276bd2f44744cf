-- The law: what groups of facts speak of.
use Rattle.std.proofs.Common.{◌≡◌, refl, ap, sym, subst, ◌∙◌, ℕ, ◌≤◌, Bool, true, ◌||◌, List, [], ◌∷◌, find, Option, Some, None, option_map, option_and_then, unwrap_or, codes}
use Rattle.qo_model.proofs.Common.{if◌then◌else◌, AllByRecursion, list_any, bytes_eq, Registers, OBJECTS_BIRTH, SYSTEM_CLOCK_BIRTH, LIVE_OBJECTS_MAX, TIME_MAX, Board, Record, Ring, Slot, slots_at, source_of, bridge_of, child_named, clock_of, is_of, source_for, lasting, PassesTo, GraphFacts}
use Rattle.qo_model.specs.Clocks.{weak_in}
use Rattle.qo_sound.specs.TreeKept.{SoundTree}
use Rattle.qo_sound.proofs.RecordLemmas.{all-map, all-unmap}
use Rattle.qo_values.proofs.ListLemmas.{all-imply}
use Rattle.qo_sound_devices.specs.SoundPlaces.{child_entries, SoundPlaces}
use Rattle.qo_sound_devices.proofs.LikenessLemmas.{Alike}
use Rattle.qo_sound_devices.proofs.PlacesLemmas.{of-alike, path-alike}
use Rattle.qo_sound_clocks.specs.SoundTimes.{IsTimely, SoundTimes}
use Rattle.qo_sound_clocks.proofs.GrowthLemmas.{same-sound}
use Rattle.qo_sound_clocks.proofs.NumbersLemmas.{same-numbers}
use Rattle.qo_sound_phases.specs.Phases.{stage_of}
use Rattle.qo_sound_phases.proofs.LawLemmas.{shape-phases}
use Rattle.qo_sound_bounds.specs.SoundBounds.{SoundBounds}
use Rattle.qo_sound_bounds.specs.SoundSegments.{IsSegmented, SoundSegments}
use Rattle.qo_sound_bounds.specs.SoundSources.{IsDeviceClock, SoundSources}
use Rattle.qo_sound_bounds.proofs.HoldsLemmas.{shape-holds}
use Rattle.qo_sound_claims.specs.SoundClaims.{SoundClaims}
use Rattle.qo_sound_claims.specs.SoundRings.{AreGoodRings, ring_ids}
use Rattle.qo_sound_claims.proofs.DependenceLemmas.{moved-claims}
use Rattle.qo_sound_shapes.specs.SoundOwners.{SoundOwners}
use Rattle.qo_sound_shapes.proofs.QuietChangeLemmas.{same-shape}
use Rattle.qo_sound_frames.specs.Frames.{bodies, forms, FramesLaw, of_bounds, of_claims, of_places, of_times, of_tree, without_registers}
use Rattle.qo_sound_frames.proofs.FormLemmas.{alike-form, kind-form, parent-form, shape-form, slots-form}
use Rattle.qo_sound_frames.proofs.PlacesLemmas.{lists-alike, places-alike}

-- the tree

abbrev Passing : Record → Type 0
Passing r = AllByRecursion (λ (s : List ℕ × Slot). PassesTo (lasting r) s.1) r.slots

tree-frame : (b c : Board) → of_tree b ≡ of_tree c → SoundTree b → SoundTree c
tree-frame b c e h = (
  subst GraphFacts (ap (λ (x : Board × List Record). x.0) e) h.0,
  all-unmap Passing Passing without_registers (λ r k. k) c.records
      (subst (AllByRecursion Passing) (ap (λ (x : Board × List Record). x.1) e) (all-map Passing Passing without_registers (λ r k. k) b.records h.1)),
)

places-frame : (b c : Board) → of_places b ≡ of_places c → SoundPlaces b → SoundPlaces c
places-frame b c e h = (
  h.0,
  places-alike b c (alike-form b c (ap (λ (x : List Record × ℕ). x.0) e)) (sym (ap (λ (x : List Record × ℕ). x.1) e)) h.0 h.1,
)

-- what clocks go by

module _ (b c : Board) (e : forms b ≡ forms c) where
  alike : (x : ℕ) → Alike b c x
  alike = alike-form b c e

  slot-read : {A : Type 0} (f : Slot → Option A) (name : List ℕ) (x : ℕ)
      → option_and_then f (option_map (λ (s : List ℕ × Slot). s.1) (find (λ s. bytes_eq s.0 name) (slots_at c x)))
      ≡ option_and_then f (option_map (λ (s : List ℕ × Slot). s.1) (find (λ s. bytes_eq s.0 name) (slots_at b x)))
  slot-read f name x =
      ap (λ (xs : List (List ℕ × Slot)). option_and_then f (option_map (λ (s : List ℕ × Slot). s.1) (find (λ s. bytes_eq s.0 name) xs))) (slots-form b c e x)

  clock-same : (d : ℕ) → clock_of c d ≡ clock_of b d
  clock-same d = slot-read child_named (codes "clk") d

  source-same : (k : ℕ) → source_of c k ≡ source_of b k
  source-same k = slot-read weak_in (codes "source") k

  then-same : {A B : Type 0} (f g : A → Option B) → ((x : A) → f x ≡ g x) → (o : Option A) → option_and_then f o ≡ option_and_then g o
  then-same f g same None = refl
  then-same f g same (Some x) = same x

  bridge-same : (q : ℕ) → bridge_of c q ≡ bridge_of b q
  bridge-same q =
      ap (option_and_then (λ p. if is_of c (codes "device") p then Some p else None)) (parent-form b c e q)
      ∙ then-same (λ p. if is_of c (codes "device") p then Some p else None) (λ p. if is_of b (codes "device") p then Some p else None)
      (λ p. ap (λ (t : Bool). if t then Some p else None) (of-alike b c p (codes "device") (alike p).body)) _

  feed-same : (q : ℕ) → source_for c q ≡ source_for b q
  feed-same q =
      ap (λ (o : Option ℕ). unwrap_or o SYSTEM_CLOCK_BIRTH)
      (ap (option_and_then (clock_of c)) (bridge-same q) ∙ then-same (clock_of c) (clock_of b) clock-same (bridge_of b q))

  sources-frame : SoundSources b → SoundSources c
  sources-frame h =
      record {
        fed = λ d bus k lit on its.
            source-same k
            ∙ h.fed d bus k (sym (alike d).realized ∙ lit) (sym (alike d).bus ∙ on) (sym (clock-same d) ∙ its)
            ∙ ap Some (sym (feed-same bus));
        only = λ k s from.
            let its : IsDeviceClock b k = h.only k s (sym (source-same k) ∙ from) in
            record { device = its.device; realized = (alike its.device).realized ∙ its.realized; its = clock-same its.device ∙ its.its };
        clocks = λ d k lit its. kind-form b c e k ∙ h.clocks d k (sym (alike d).realized ∙ lit) (sym (clock-same d) ∙ its);
        system = kind-form b c e SYSTEM_CLOCK_BIRTH ∙ h.system;
      }

  -- owners

  owners-frame : SoundOwners b → SoundOwners c
  owners-frame h =
      record {
        objects =
            subst (AllByRecursion (λ (x : List ℕ × ℕ). is_of c (codes "user-creatable") x.1 ≡ true)) (sym (alike OBJECTS_BIRTH).children)
            (all-imply (λ (x : List ℕ × ℕ). is_of b (codes "user-creatable") x.1 ≡ true) (λ (x : List ℕ × ℕ). is_of c (codes "user-creatable") x.1 ≡ true)
            (λ x k. of-alike b c x.1 (codes "user-creatable") (alike x.1).body ∙ k) (child_entries b OBJECTS_BIRTH) h.objects);
        paths = λ d path its.
            of-alike b c d (codes "device") (alike d).body ∙ h.paths d path (sym (path-alike b c d (alike d).body) ∙ its);
        shelves = λ n k. h.shelves n (sym (kind-form b c e n) ∙ k);
        lone = λ n k. h.lone n (sym (kind-form b c e n) ∙ k);
      }

-- registers

times-frame : (b c : Board) → of_times b ≡ of_times c → SoundTimes b → SoundTimes c
times-frame b c e h =
    all-unmap (λ (r : Record). IsTimely c.now r.registers) (IsTimely c.now) (λ (r : Record). r.registers) (λ r k. k) c.records
    (subst (λ (x : List Registers × ℕ). AllByRecursion (IsTimely x.1) x.0) e
    (all-map (λ (r : Record). IsTimely b.now r.registers) (IsTimely b.now) (λ (r : Record). r.registers) (λ r k. k) b.records h))

segments-frame : (b c : Board) → bodies b ≡ bodies c → SoundSegments b → SoundSegments c
segments-frame b c e h =
    all-unmap (λ (r : Record). IsSegmented r.registers) IsSegmented (λ (r : Record). r.registers) (λ r k. k) c.records
    (subst (AllByRecursion IsSegmented) e
    (all-map (λ (r : Record). IsSegmented r.registers) IsSegmented (λ (r : Record). r.registers) (λ r k. k) b.records h))

-- claims and limits

any-ids : (id : List ℕ) (rings : List Ring) → list_any (λ (r : Ring). bytes_eq r.id id) rings ≡ list_any (λ (i : List ℕ). bytes_eq i id) (ring_ids rings)
any-ids id [] = refl
any-ids id (r ∷ rings) = ap (λ (t : Bool). bytes_eq r.id id || t) (any-ids id rings)

claims-frame : (b c : Board) → of_claims b ≡ of_claims c → SoundClaims b → SoundClaims c
claims-frame b c e h =
    subst (λ (rs : List Record). SoundClaims (record c { records = rs })) (ap (λ (x : List Record × List (List ℕ)). x.0) e)
    (moved-claims b c c.rings
    (λ n id on text some there.
    any-ids id c.rings
    ∙ sym (ap (λ (x : List Record × List (List ℕ)). list_any (λ (i : List ℕ). bytes_eq i id) x.1) e)
    ∙ sym (any-ids id b.rings)
    ∙ there) h)

bounds-frame : (b c : Board) → of_bounds b ≡ of_bounds c → SoundBounds b → SoundBounds c
bounds-frame b c e h =
    record {
      room = subst (λ (k : ℕ). k ≤ LIVE_OBJECTS_MAX) (ap (λ (x : ℕ × ℕ). x.0) e) h.room;
      time = subst (λ (k : ℕ). k ≤ TIME_MAX) (ap (λ (x : ℕ × ℕ). x.1) e) h.time;
    }

pub frames_lem : FramesLaw
frames_lem =
    record {
      tree = tree-frame;
      places = places-frame;
      lists = λ b c e h.
          lists-alike b c (alike-form b c (ap (λ x. x.0) e)) (sym (ap (λ x. x.1.0) e)) (sym (ap (λ x. x.1.1.0) e))
          (sym (ap (λ x. x.1.1.1) e)) h;
      clocks = λ b c e h. same-sound b c (slots-form b c e) h;
      numbers = λ b c e h. same-numbers b c (slots-form b c e) h;
      sources = sources-frame;
      owners = owners-frame;
      holds = λ b c e h. shape-holds b c (shape-form b c (ap (λ x. x.0) e)) (sym (ap (λ x. x.1) e)) h;
      phases = λ b c e h.
          shape-phases b c (shape-form b c (ap (λ x. x.0.0) e)) (sym (ap (λ x. x.1.0) e)) (sym (ap (λ x. x.0.1) e)) (λ n. ap (λ x. stage_of n x.1.1) (sym e)) h;
      times = times-frame;
      segments = segments-frame;
      shape = λ b c e h. same-shape b c (sym e) h;
      claims = claims-frame;
      rings = λ b c e h. subst AreGoodRings e h;
      bounds = bounds-frame;
    }
