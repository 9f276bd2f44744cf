-- The clock of a device that is added gets its source, which changes nothing that places speak of.
use Rattle.std.proofs.Common.{◌≡◌, refl, ap, sym, subst, ◌∙◌, ℕ, zero, suc, ◌+◌, Bool, true, false, ◌==◌, List, [], ◌∷◌, filter_map, slice_get, Option, Some, None, option_and_then, codes, arith, option_map}
use Rattle.qo_model.proofs.Common.{cons_option, option_map_or, bytes_eq, TypeId, Device, Val, Range, Board, Record, Slot, plain, child, strong, weak, alias, record_of, is_live, slots_at, add, changed_at, set, with_added, with_changed, with_val, child_named, clock_of, is_true, kid_name, number_in, plain_in, strong_in, index_from, is_of, Resources, Wanted, addressed_at, drafted, fitted, joined, link_named, name_for, parent_for, source_for, stood, valued, with_body_of, with_given, with_source, edit, is_a, is_named, set_named}
use Rattle.std.proofs.lemmas.Bool.{eqb-true, eq-eqb}
use Rattle.std.proofs.Math.Bool.{or-true}
use Rattle.std.proofs.lemmas.Option.{same_Some}
use Rattle.qo_values.specs.declared.properties.Val.TheVariants as val
use Rattle.qo_model.proofs.FirstSlotLemmas.{named_in, Found, found-at, named-other, other-name, first-found}
use Rattle.qo_model.proofs.StepLemmas.{found-edited}
use Rattle.qo_sound.proofs.PlugLemmas.{shut-above}
use Rattle.qo_sound.proofs.TestLemmas.{decide}
use Rattle.qo_sound.proofs.ViewLemmas.{PinsRootAlone}
use Rattle.qo_sound_devices.specs.SoundPlaces.{child_entries, child_entry, kid_entry, listed, PlacesBut}
use Rattle.qo_sound_devices.proofs.LikenessLemmas.{other-record}
use Rattle.qo_sound_devices.proofs.DraftLemmas.{drafted-source, may_see}
use Rattle.qo_sound_devices.proofs.AdditionLemmas.{Goal, IsFurther, Joined}
use Rattle.qo_sound_devices.proofs.JoiningLemmas.{now_at, parent-live}
use Rattle.qo_sound_devices.proofs.PlacesLemmas.{of-live}
use Rattle.qo_sound_devices.proofs.ValueLemmas.{child-fitted, joined-stood, HasSource}
use Rattle.qo_sound_devices.proofs.UnrealizingLemmas.{Dims, dims-none, entries-changed, reads, bodies}
use Rattle.qo_sound_devices.proofs.LocationLemmas.{entry-of}

-- the slot at the first place of a name is the one of that name
place-slot : (name : List ℕ) (slots : List (List ℕ × Slot)) (k j i : ℕ) → index_from (is_named name) k slots ≡ Some j → j ≡ i + k → (s : List ℕ × Slot)
    → slice_get slots i ≡ Some s → named_in name slots ≡ Some s.1
place-slot name slots k j i e is s at =
    ap (option_map (λ (x : List ℕ × Slot). x.1)) (sym (first-found name slots k j i e is) ∙ at)

-- a slot that holds nothing is filled without a kid more
kid-fitted : (b : Board) (m : ℕ) (s : List ℕ × Slot) → may_see (Some s.1) ≡ true → kid_entry (s.0, fitted b m s.1) ≡ kid_entry s
kid-fitted b m (name, plain v) e = refl
kid-fitted b m (name, child k) e = refl
kid-fitted b m (name, strong t target) e = absurd (let clash : false ≡ true = e in cc)
kid-fitted b m (name, weak t None) e = refl
kid-fitted b m (name, weak t (Some k)) e = refl
kid-fitted b m (name, alias k property) e = refl

entries-at : (f : List ℕ × Slot → Option (List ℕ × ℕ)) (g : Slot → Slot) (i : ℕ) (slots : List (List ℕ × Slot)) (s : List ℕ × Slot) → slice_get slots i ≡ Some s
    → f (s.0, g s.1) ≡ f s → filter_map f (changed_at g i slots) ≡ filter_map f slots
entries-at f g i [] s at same = refl
entries-at f g zero (x ∷ slots) s at same =
    ap (λ (o : Option (List ℕ × ℕ)). cons_option o (filter_map f slots)) (subst (λ (y : List ℕ × Slot). f (y.0, g y.1) ≡ f y) (sym (same_Some x s at)) same)
entries-at f g (suc i) (x ∷ slots) s at same = ap (cons_option (f x)) (entries-at f g i slots s at same)

dims-source : (n m : ℕ) (c : Board) → may_see (named_in (codes "source") (slots_at c n)) ≡ true → Dims c (link_named n (codes "source") m c)
dims-source n m c e = go (index_from (is_named (codes "source")) 0 (slots_at c n)) refl
  where
    go : (o : Option ℕ) → index_from (is_named (codes "source")) 0 (slots_at c n) ≡ o → Dims c (link_named n (codes "source") m c)
    go None p = rw (link_named, p) (dims-none c)
    go (Some i) p =
        rw (link_named, p) (record {
          dimmed =
              record {
                body = bodies g n i c;
                children = reads g n i c (filter_map child_entry) (λ slots q. entries-changed child_entry g (child-fitted c m) i slots);
                kids = reads g n i c (filter_map kid_entry) (λ slots q. entries-at kid_entry g i slots f.entry (here slots q) (kid-fitted c m f.entry sees));
                bus =
                    reads g n i c (λ slots. option_and_then strong_in (named_in (codes "parent_bus") slots))
                    (λ slots q. ap (option_and_then strong_in) (other (codes "parent_bus") refl slots q));
                place =
                    reads g n i c (λ slots. option_and_then number_in (option_and_then plain_in (named_in (codes "slot") slots)))
                    (λ slots q. ap (λ (o : Option Slot). option_and_then number_in (option_and_then plain_in o)) (other (codes "slot") refl slots q));
                fading = λ x k. sym (realized x) ∙ k;
                anonymous = refl;
              };
          same = realized;
        })
      where
        g : Slot → Slot
        g = fitted c m

        f : Found (is_named (codes "source")) (slots_at c n) i
        f = found-at (is_named (codes "source")) i (slots_at c n) p

        sees : may_see (Some f.entry.1) ≡ true
        sees = sym (ap may_see (place-slot (codes "source") (slots_at c n) 0 i i p (omega arith) f.entry f.at)) ∙ e

        here : (slots : List (List ℕ × Slot)) → slots_at c n ≡ slots → slice_get slots i ≡ Some f.entry
        here slots q = sym (ap (λ (x : List (List ℕ × Slot)). slice_get x i) q) ∙ f.at

        other : (name : List ℕ) → bytes_eq (codes "source") name ≡ false → (slots : List (List ℕ × Slot)) → slots_at c n ≡ slots
            → named_in name (changed_at g i slots) ≡ named_in name slots
        other name apart slots q = named-other g name i slots f.entry (here slots q) (other-name (codes "source") name apart f.entry f.passes)

        realized : (x : ℕ)
            → option_map_or is_true (option_and_then plain_in (named_in (codes "realized") (slots_at (edit n (with_changed g i) c) x))) false
            ≡ option_map_or is_true (option_and_then plain_in (named_in (codes "realized") (slots_at c x))) false
        realized =
            reads g n i c (λ slots. option_map_or is_true (option_and_then plain_in (named_in (codes "realized") slots)) false)
            (λ slots q. ap (λ (o : Option Slot). option_map_or is_true (option_and_then plain_in o) false) (other (codes "realized") refl slots q))

-- other objects stay where one is edited
module _ (x : ℕ) where
  pub edit-other : (n : ℕ) (change : Record → Record) → ((r : Record) → (change r).birth ≡ r.birth) → (x == n) ≡ false → (c : Board)
      → record_of (edit n change c) x ≡ record_of c x
  edit-other n change same_birth apart c = found-edited n change same_birth x c.records ∙ other-record n x change c refl apart (record_of c x) refl

  pub add-other : (n : ℕ) (name : List ℕ) (s : Slot) → (x == n) ≡ false → (c : Board) → record_of (add n name s c) x ≡ record_of c x
  unfolding add
  add-other n name s apart c = edit-other n (with_added name s) (λ r. refl) apart c

  pub set-other : (n : ℕ) (name : List ℕ) (v : Val) → (x == n) ≡ false → (c : Board) → record_of (set_named n name v c) x ≡ record_of c x
  unfolding set
  set-other n name v apart c = go (index_from (is_named name) 0 (slots_at c n)) refl
    where
      go : (o : Option ℕ) → index_from (is_named name) 0 (slots_at c n) ≡ o → record_of (set_named n name v c) x ≡ record_of c x
      go None e = rw (set_named, e) refl
      go (Some i) e = rw (set_named, e) (edit-other n (with_changed (with_val v) i) (λ r. refl) apart c)

  pub link-other : (n : ℕ) (name : List ℕ) (m : ℕ) → (x == n) ≡ false → (c : Board) → record_of (link_named n name m c) x ≡ record_of c x
  link-other n name m apart c = go (index_from (is_named name) 0 (slots_at c n)) refl
    where
      go : (o : Option ℕ) → index_from (is_named name) 0 (slots_at c n) ≡ o → record_of (link_named n name m c) x ≡ record_of c x
      go None e = rw (link_named, e) refl
      go (Some i) e = rw (link_named, e) (edit-other n (with_changed (fitted c m) i) (λ r. refl) apart c)

  pub addressed-other : (n : ℕ) (range : Option Range) → (x == n) ≡ false → (c : Board) → record_of (addressed_at n range c) x ≡ record_of c x
  addressed-other n None apart c = refl
  addressed-other n (Some r) apart c = set-other n (codes "addr") (val.Uint r.at) apart c

  pub stood-other : (b : Board) (n : ℕ) (a : Wanted) (resources : Resources) (c : Board) → (x == n) ≡ false → (x == resources.bus) ≡ false
      → (x == parent_for a.id) ≡ false
      → record_of (stood b n a resources c) x ≡ record_of c x
  stood-other b n a resources c apart bus parent =
      let c1 : Board = add (parent_for a.id) (name_for b a.id) (child n) c in
      let c2 : Board = joined b n a resources c in
      let c3 : Board = edit n (with_given b a.props) c2 in
      let c4 : Board = set_named n (codes "slot") (val.Uint resources.slot) c3 in
      let c5 : Board = link_named n (codes "parent_bus") resources.bus c4 in
      edit-other n (with_body_of a.id resources.range) (λ r. refl) apart (addressed_at n resources.range (valued b n a.props resources c2))
      ∙ addressed-other n resources.range apart (valued b n a.props resources c2)
      ∙ set-other n (codes "realized") (val.Bool true) apart c5
      ∙ link-other n (codes "parent_bus") resources.bus apart c4
      ∙ set-other n (codes "slot") (val.Uint resources.slot) apart c3
      ∙ edit-other n (with_given b a.props) (λ r. refl) apart c2
      ∙ add-other resources.bus (kid_name resources.slot) (strong Device (Some n)) bus c1
      ∙ add-other (parent_for a.id) (name_for b a.id) (child n) parent c

-- the clock is a child
clock-listed : (m : ℕ) (slots : List (List ℕ × Slot)) → option_and_then child_named (named_in (codes "clk") slots) ≡ Some m
    → listed m (filter_map child_entry slots) ≡ true
clock-listed m [] e = cc
clock-listed m (s ∷ slots) e = go (bytes_eq s.0 (codes "clk")) refl (clock-listed m slots)
  where
    here : (y : List ℕ × Slot) → child_named y.1 ≡ Some m → listed m (filter_map child_entry (y ∷ slots)) ≡ true
    here (name, plain v) k = cc
    here (name, child j) k = let own : (j == m) ≡ true = eq-eqb j m (same_Some j m k) in rw own refl
    here (name, strong t target) k = cc
    here (name, weak t target) k = cc
    here (name, alias j property) k = cc

    there : (y : List ℕ × Slot) → listed m (filter_map child_entry slots) ≡ true → listed m (filter_map child_entry (y ∷ slots)) ≡ true
    there (name, plain v) k = k
    there (name, child j) k = rw k (or-true (j == m))
    there (name, strong t target) k = k
    there (name, weak t target) k = k
    there (name, alias j property) k = k

    go : (t : Bool) → bytes_eq s.0 (codes "clk") ≡ t
        → (option_and_then child_named (named_in (codes "clk") slots) ≡ Some m → listed m (filter_map child_entry slots) ≡ true)
        → listed m (filter_map child_entry (s ∷ slots)) ≡ true
    go true p rest = here s (rw p at e)
    go false p rest = there s (rest (rw p at e))

module _ (depth : ℕ → ℕ) (b : Board) (t : TypeId) (a : Wanted) (resources : Resources) (rest : PinsRootAlone b) (h : PlacesBut depth None (λ x. false) b)
    (goal : Goal depth b (b.born + 1) resources.bus resources.slot a.id t (drafted b t)) where
  abbrev n : ℕ
  n = b.born + 1

  abbrev d : Board
  d = stood b (b.born + 1) a resources (drafted b t)

  -- the clock is new
  source-blank : (m : ℕ) → clock_of d n ≡ Some m → may_see (named_in (codes "source") (slots_at d m)) ≡ true
  source-blank m e =
      ap (λ (o : Option Record). may_see (named_in (codes "source") (option_map_or (λ (r : Record). r.slots) o [])))
      (stood-other m b n a resources (drafted b t) (not_it m_new) (apart resources.bus bus_live)
      (apart (parent_for a.id) (parent-live depth None (λ x. false) b rest.used.firm h a.id)))
      ∙ drafted-source b t (shut-above b.born rest.used.firm.begun) rest.used m m_new
    where
      j : Joined depth b n resources.bus resources.slot a.id t
          (record (now_at n (valued b n a.props resources (joined b n a resources (drafted b t)))) { its = a.id }) d
      j = joined-stood depth b t a resources rest h goal

      heir : listed m (child_entries d n) ≡ true
      heir = clock-listed m (slots_at d n) e

      m_new : is_live b m ≡ false
      m_new = j.heirs m heir

      apart : (y : ℕ) → is_live b y ≡ true → (m == y) ≡ false
      apart y k =
          decide (m == y) {A = (m == y) ≡ false} (λ p. absurd (let clash : false ≡ true = sym m_new ∙ ap (is_live b) (eqb-true m y p) ∙ k in cc))
          (λ p. p)

      bus_live : is_live b resources.bus ≡ true
      bus_live = of-live b (codes "bus") resources.bus goal.is_bus

      is_device : is_of d (codes "device") n ≡ true
      is_device = ap (λ (o : Option TypeId). option_map_or (λ (k : TypeId). is_a k (codes "device")) o false) j.kind ∙ goal.device

      not_it : is_live b m ≡ false → (m == n) ≡ false
      not_it new = decide (m == n) {A = (m == n) ≡ false}
          (λ p.
          absurd
          (let clash : false ≡ true =
          sym (entry-of (IsFurther d n) m (child_entries d n) (j.further n j.absent) heir).holds.0
          ∙ ap (is_of d (codes "device")) (eqb-true m n p)
          ∙ is_device in
          cc))
          (λ p. p)

  pub holds-source : HasSource b t a resources
  holds-source = go (clock_of d n) refl
    where
      go : (o : Option ℕ) → clock_of d n ≡ o → Dims d (with_source (source_for b resources.bus) o d)
      go None e = dims-none d
      go (Some m) e = dims-source m (source_for b resources.bus) d (source-blank m e)
