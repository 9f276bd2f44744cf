-- Adding a device, taken or refused at any stage, keeps clocks sound.
use Rattle.std.proofs.Common.{◌≡◌, refl, ap, sym, ◌∙◌, ℕ, ◌≤◌, true, false, List, Option, Some, None, is_some, codes, arith}
use Rattle.qo_model.proofs.Common.{AllByRecursion, Code, TypeId, Board, Record, Slot, kind_of, record_of, slots_at, bridge_of, clock_of, Resources, Wanted, barred_early, barred_late, bus_for, plug, plug_as, plug_attempt, plug_by, plug_late, source_for, resources_of, type_barred, with_plugged, TypeInfo, is_a, type_named}
use Rattle.qo_model.proofs.FirstSlotLemmas.{slots_in}
use Rattle.qo_model.proofs.StepLemmas.{is_some-map}
use Rattle.qo_sound.specs.TreeKept.{SoundTree}
use Rattle.qo_sound.proofs.DraftLemmas.{absent-above, found-low}
use Rattle.qo_sound.proofs.FirmBoardLemmas.{Linked, WellFormed}
use Rattle.qo_sound.proofs.SearchLemmas.{all-found}
use Rattle.qo_sound.proofs.TreeKeptLemmas.{sound_kept_lem}
use Rattle.qo_sound.proofs.PlugLemmas.{device-of}
use Rattle.qo_sound.proofs.ViewLemmas.{rest-from_sound}
use Rattle.qo_sound_clocks.specs.SoundClocks.{SoundClocks}
use Rattle.qo_sound_clocks.proofs.GrowthLemmas.{grown-sound, same-sound}
use Rattle.qo_sound_clocks.proofs.PlugLemmas.{child-in, Growing, growing-all}
use Rattle.qo_sound_clocks.proofs.ReadLemmas.{tree-reads}
use Rattle.qo_sound_clocks.proofs.DependenceLemmas.{kept-beside}

-- what a clock goes by is there

module _ (b : Board) (firm : WellFormed b) where
  there-low : (m : ℕ) → is_some (record_of b m) ≡ true → m ≤ b.born
  there-low m e = go (record_of b m) refl
    where
      go : (o : Option Record) → record_of b m ≡ o → m ≤ b.born
      go None q = absurd (let clash : false ≡ true = sym (ap is_some q) ∙ e in cc)
      go (Some r) q = found-low b.born m b.records r firm.within q

  clock-low : (p k : ℕ) → clock_of b p ≡ Some k → k ≤ b.born
  clock-low p k e =
      let (own, live) = child-in (λ (s : List ℕ × Slot). Linked (kind_of b) s.1) (codes "clk") (slots_at b p) linked k e in
      there-low k (sym (is_some-map (λ (r : Record). r.kind) (record_of b k)) ∙ live)
    where
      linked : AllByRecursion (λ (s : List ℕ × Slot). Linked (kind_of b) s.1) (slots_at b p)
      linked = go (record_of b p) refl
        where
          go : (o : Option Record) → record_of b p ≡ o → AllByRecursion (λ (s : List ℕ × Slot). Linked (kind_of b) s.1) (slots_in o)
          go None q = tt
          go (Some r) q = all-found (λ (x : Record). AllByRecursion (λ (s : List ℕ × Slot). Linked (kind_of b) s.1) x.slots) p b.records firm.linked r q

  source-low : (bus : ℕ) → source_for b bus ≤ b.born
  source-low bus = go (bridge_of b bus) refl
    where
      begun : 8 ≤ b.born
      begun = firm.begun

      by : (p : ℕ) → bridge_of b bus ≡ Some p → (o : Option ℕ) → clock_of b p ≡ o → source_for b bus ≤ b.born
      by p e None q = rw (source_for, e, q) (omega (arith, begun))
      by p e (Some k) q = rw (source_for, e, q) (clock-low p k q)

      go : (o : Option ℕ) → bridge_of b bus ≡ o → source_for b bus ≤ b.born
      go None e = rw (source_for, e) (omega (arith, begun))
      go (Some p) e = by p e (clock_of b p) refl

-- what a device that was added leaves of the clocks that were there, and what it brings
pub growing : (b : Board) (t : TypeId) (a : Wanted) (resources : Resources) → is_a t (codes "device") ≡ true → SoundTree b
    → Growing b (source_for b resources.bus) (with_plugged b t a resources)
growing b t a resources device tree = growing-all b t a resources (absent-above b (rest-from_sound b tree).used.firm) device

plugged-clocks : (b : Board) (t : TypeId) (a : Wanted) (resources : Resources) → is_a t (codes "device") ≡ true → SoundTree b
    → SoundTree (with_plugged b t a resources)
    → SoundClocks b → SoundClocks (with_plugged b t a resources)
plugged-clocks b t a resources device tree after h =
    grown-sound b c (tree-reads b tree) (tree-reads c after) h b.born g.old
    (λ m high.
    let new = g.new m high in
    record {
      own = new.own;
      mul = new.mul;
      div = new.div;
      older = λ s e.
          let is : s ≡ source_for b resources.bus = new.only s e in
          omega (arith, is, high, source-low b (rest-from_sound b tree).used.firm resources.bus);
    })
  where
    c : Board
    c = with_plugged b t a resources

    g : Growing b (source_for b resources.bus) c
    g = growing b t a resources device tree

-- at each stage
module _ (P : Board → Type 0) (b : Board) (a : Wanted) (h : P b)
    (given_up : (t : TypeId) (bus stage : ℕ) → P (plug_attempt b t bus stage))
    (added : (t : TypeId) (resources : Resources) → is_a t (codes "device") ≡ true → SoundTree (with_plugged b t a resources) → P
    (with_plugged b t a resources)) where
  kept-late : (t : TypeId) (bus : ℕ) (o : Option (ℕ × Code)) → is_a t (codes "device") ≡ true → SoundTree (plug_late b t bus a o).board
      → P (plug_late b t bus a o).board
  kept-late t bus (Some refusal) device after = given_up t bus refusal.0
  kept-late t bus None device after = added t (resources_of b t bus a.props) device after

  kept-as : (t : TypeId) (o : Option (ℕ × Code)) → is_a t (codes "device") ≡ true → SoundTree (plug_as b t a o).board → P (plug_as b t a o).board
  kept-as t (Some refusal) device after = h
  kept-as t None device after = go (bus_for b t a.bus) refl
    where
      go : (m : Option ℕ) → bus_for b t a.bus ≡ m → P (plug_as b t a None).board
      go None p = rw (plug_as, p) h
      go (Some bus) p = rw (plug_as, p) (kept-late t bus (barred_late b t bus a.props) device (rw (plug_as, p) at after))

  kept-by : (o : Option Code) → type_barred a.driver ≡ o → SoundTree (plug_by b a o).board → P (plug_by b a o).board
  kept-by (Some code) e after = h
  kept-by None e after = go (type_named a.driver) refl
    where
      go : (row : Option TypeInfo) → type_named a.driver ≡ row → P (plug_by b a None).board
      go None p = rw (plug_by, p) h
      go (Some row) p = rw (plug_by, p) (kept-as row.id (barred_early b row.id a) (device-of row (rw (type_barred, p) at e)) (rw (plug_by, p) at after))

  pub kept-plug : SoundTree (plug b a).board → P (plug b a).board
  unfolding plug
  kept-plug after = kept-by (type_barred a.driver) refl after

pub plug-clocks : (b : Board) (a : Wanted) → SoundTree b → SoundClocks b → SoundClocks (plug b a).board
plug-clocks b a tree h =
    kept-plug SoundClocks b a h (λ t bus stage. kept-beside SoundClocks same-sound b (plug_attempt b t bus stage) refl h)
    (λ t resources device after. plugged-clocks b t a resources device tree after h) (sound_kept_lem.plugged b a tree)
