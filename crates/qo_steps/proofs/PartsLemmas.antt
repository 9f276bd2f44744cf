-- What each step outside a release keeps, and a release as a whole, each change keeps.
use Rattle.std.proofs.Common.{◌≡◌, ◌⊎◌, inl, inr, refl, ap, sym, subst, ◌∙◌, ℕ, ◌+◌, true, false, List, [], ◌∷◌, filter_map, length, map, codes, Option, Some, None, Ok, arith}
use Rattle.qo_model.proofs.Common.{Contains, option_map, AllByRecursion, option_map_or, type_name, MACHINE_BIRTH, OBJECTS_BIRTH, Code, Pre, Unrealize, Update, TypeId, Val, Board, slot_at, weak, Slot, child, strong, add, set, with_changed, clock_scaled, clock_set, acted, clock_written, Change, added, deleted, wrote, severed, after_write, changed, asked, refused, reset_whole, Given, added_as, given_slots, object_add, sever, fresh_slots, is_of, Resources, Wanted, further_in, plug, resources_of, types_in, link_target, write, drop_slot, emptied, let_go, pin, unpin, with_dropped, pulse, released, is_a, slots_of, detach, unseen}
use Rattle.qo_model.specs.declared.properties.Property.{Property}
use Rattle.qo_model.specs.declared.properties.PropertyRole.{PropertyRole}
use Rattle.std.proofs.lemmas.List.{length-map}
use Rattle.std.proofs.lemmas.List.Elements.{All-contains, All-from_recursion}
use Rattle.qo_values.specs.declared.properties.Val.TheVariants as val
use Rattle.qo_values.specs.declared.kinds.ResetKind.{ResetKind}
use Rattle.qo_values.specs.declared.kinds.ResetKind.TheVariants.{Cold}
use Rattle.qo_model.specs.Reset.{after_hold}
use Rattle.qo_model.specs.declared.properties.PropertyRole.TheVariants as row
use Rattle.qo_model.proofs.ComesToLemmas.{deletion-comes}
use Rattle.qo_model.proofs.FinalNotesLemmas.{edit-kind}
use Rattle.qo_model.proofs.WrittenLemmas.{IsLink, holding, seeing}
use Rattle.qo_sound.proofs.ChangeLemmas.{emptied-at}
use Rattle.qo_sound.proofs.DetachmentStepsLemmas.{KeepsEnds}
use Rattle.qo_sound.proofs.TargetLemmas.{target-fit}
use Rattle.qo_steps.specs.Changes.{types_made, types_of}
use Rattle.qo_steps.specs.Steps.{HasRoom}
use Rattle.qo_steps.proofs.ActingLemmas.{SameThere, acted-there, edit-there, steady-all, set-there}
use Rattle.qo_steps.proofs.AdditionLemmas.{object-comes, plug-comes}
use Rattle.qo_steps.proofs.AttemptLemmas.{attempt-by, given_up-by}
use Rattle.qo_steps.proofs.ClockStepsLemmas.{IsNumber, clock_scaled-by, clock_set-by, written-by}
use Rattle.qo_steps.proofs.CommandStepsLemmas.{sever-by, write-by}
use Rattle.qo_steps.proofs.DetachStepsLemmas.{ActsBelow, LeaveSteps, UnrealizeSteps, leave-by, unrealize-by}
use Rattle.qo_steps.proofs.HoldStepsLemmas.{HoldSteps, asked-by, held-by, held-there, pulse-by, refused-by, released-by, reset-by}
use Rattle.qo_steps.proofs.KeepsLemmas.{PartsKeep}
use Rattle.qo_steps.proofs.NamedLemmas.{Named, named-has}
use Rattle.qo_steps.proofs.PlugStepsLemmas.{DraftSteps, PlaceSteps, StartSteps, plug-by}
use Rattle.qo_steps.proofs.ReachLemmas.{Reaches}
use Rattle.qo_steps.proofs.ReleasesLemmas.{after-by, let_go-by, unpin-by}

-- a further object of a device is of one of the types of its objects
abbrev KidPasses : (TypeId → Type 0) → Property → Type 0
KidPasses Made p = (k : TypeId) → p.role ≡ row.Child k → Made k

kids-pass : (Made : TypeId → Type 0) (ps : List Property) → AllByRecursion Made (map (λ (f : List ℕ × TypeId). f.1) (filter_map further_in ps))
    → AllByRecursion (KidPasses Made) ps
kids-pass Made [] h = tt
kids-pass Made (p ∷ ps) h = go p.role refl (kids-pass Made ps)
  where
    go : (kind : PropertyRole) → p.role ≡ kind
        → (AllByRecursion Made (map (λ (f : List ℕ × TypeId). f.1) (filter_map further_in ps)) → AllByRecursion (KidPasses Made) ps)
        → AllByRecursion (KidPasses Made) (p ∷ ps)
    go (row.Plain type first) e rest = (λ k is. absurd (let clash : row.Plain type first ≡ row.Child k = sym e ∙ is in cc), rest (rw (further_in, e) at h))
    go (row.Link target holds) e rest = (λ k is. absurd (let clash : row.Link target holds ≡ row.Child k = sym e ∙ is in cc), rest (rw (further_in, e) at h))
    go (row.Child t) e rest =
        let both : Made t × AllByRecursion Made (map (λ (f : List ℕ × TypeId). f.1) (filter_map further_in ps)) = rw (further_in, e) at h in
        (λ k is. subst Made (same t k (sym e ∙ is)) both.0, rest both.1)
      where
        same : (t k : TypeId) → row.Child t ≡ row.Child k → t ≡ k
        same t k is = ap (λ (kind : PropertyRole). elim kind as (λ _. TypeId) [ row.Child x ↦ x | _ ↦ t ]) is
    go (row.Alias owner of) e rest = (λ k is. absurd (let clash : row.Alias owner of ≡ row.Child k = sym e ∙ is in cc), rest (rw (further_in, e) at h))

-- a link that was let go has no target, and an object that a text names is of its type
emptied-link : (c : Board) (n i : ℕ) (t : TypeId) (s left : Slot) → IsLink t s → emptied s ≡ Some left → slot_at c n i ≡ Some left
    → (slot_at c n i ≡ Some (strong t None)) ⊎ (slot_at c n i ≡ Some (weak t None))
emptied-link c n i t s left (holding target) leaves at = inl (at ∙ sym leaves)
emptied-link c n i t s left (seeing target) leaves at = inr (at ∙ sym leaves)

fits-dropped : (b : Board) (n i : ℕ) (t : TypeId) (path : List ℕ) (m : ℕ) → link_target b t path ≡ Ok (Some m)
    → is_of (drop_slot b n i) (type_name t) m ≡ true
unfolding drop_slot
fits-dropped b n i t path m told =
    ap (λ (o : Option TypeId). option_map_or (λ (k : TypeId). is_a k (type_name t)) o false) (edit-kind n (with_dropped i) (λ r. refl) (λ r. refl) b m)
    ∙ target-fit b t path (Some m) told

module _ (Good : Board → Type 0) (On : Board → ℕ → Type 0) (reach : Reaches Good On) (Made : TypeId → Type 0) (P : Board → Type 0)
    (k : PartsKeep Made On P) where
  ends : KeepsEnds P
  ends = after-by P k.finalizes

  -- slots and pins that are let go
  pub kept-let_go : (b : Board) (n i : ℕ) → P b → P (let_go b n i)
  kept-let_go b n i h = let_go-by P ends n i b (λ s e. k.slots.empties n i b (s, e) h) h

  pub kept-unpin : (b : Board) (n : ℕ) → P b → P (unpin b n)
  kept-unpin b n h = unpin-by P k.beside.unpins ends n b h

  -- removals that are asked for and refused
  pub kept-asked : (b : Board) (id : List ℕ) → P b → P (asked b id).board
  kept-asked b id h = asked-by P k.beside.asks b id h

  pub kept-refused : (b : Board) (d : ℕ) → P b → P (refused b d)
  kept-refused b d h = refused-by P k.beside.declines k.beside.tells b d h

  -- holds
  kept-hold : HoldSteps On P
  kept-hold = record { acts = k.objects.acts; holds = k.beside.holds; releases = k.beside.releases }

  pub kept-held : (b : Board) (n : ℕ) (kind : ResetKind) → Good b → On b n → P b → P (after_hold b n kind)
  kept-held b n kind good on h = held-by On reach.steady P kept-hold b n kind on (reach.post b n good on) h

  pub kept-released : (b : Board) (n : ℕ) → Good b → On b n → P b → P (released b n)
  kept-released b n good on h = released-by On reach.steady P kept-hold b n on (reach.post b n good on) h

  pub kept-pulse : (b : Board) (n : ℕ) (kind : ResetKind) → Good b → On b n → P b → P (pulse b n kind)
  kept-pulse b n kind good on h =
      let c : Board = after_hold b n kind in
      let still : On c n = reach.steady b c (held-there b n kind) n on in
      pulse-by On reach.steady P kept-hold b n kind on (reach.post b n good on) (reach.post c n (reach.held_so b n kind good on) still) h

  -- writes of clocks
  kept-number : (name : List ℕ) → IsNumber name → (n i v : ℕ) (c : Board) → Named c n i name → P c → P (set n i (val.Uint v) c)
  kept-number name is n i v c at h = k.slots.sets n i (val.Uint v) c (named-has c n i name at) h

  kept-written : (old new d : Board) (c : ℕ) → P new → clock_written old new c ≡ Ok d → P d
  kept-written old new d c h e =
      (written-by (λ (x : Board). P x × SameThere new x) (On new)
      (λ n before after x on there. (
        k.objects.calls n before after x (reach.steady new x there.1 n on) there.0,
        λ y. acted-there Update n after (acted Pre n before x) y ∙ acted-there Pre n before x y ∙ there.1 y,
      )) old new (reach.parents new) d c (h, λ x. refl) e).0

  pub kept-set : (b d : Board) (c period : ℕ) → clock_set b c period ≡ Ok d → P b → P d
  kept-set b d c period e h = clock_set-by P kept-number b d c period e h (λ there is. kept-written b _ d c there is)

  pub kept-scaled : (b d : Board) (c mul div : ℕ) → clock_scaled b c mul div ≡ Ok d → P b → P d
  kept-scaled b d c mul div e h = clock_scaled-by P kept-number b d c mul div e h (λ there is. kept-written b _ d c there is)

  -- the commands on objects
  kept-added : (b : Board) (t : TypeId) (id : List ℕ) (props : List Given) → Made t → HasRoom b → (o : Option Code) → P b → P (added_as b t id props o).board
  unfolding add
  kept-added b t id props made room (Some code) h = attempt-by P k.objects.attempted b t h
  kept-added b t id props made room None h =
      let named : Board = add OBJECTS_BIRTH id (child (b.born + 1)) b in
      let same : length named.records ≡ length b.records = length-map b.records _ in
      k.objects.made t (given_slots b t props) named made (omega (arith, same, room)) (k.slots.adds OBJECTS_BIRTH id (child (b.born + 1)) b h)

  kept-object_add : (b : Board) (driver id : List ℕ) (props : List Given) → AllByRecursion Made (types_made (added driver id props)) → P b
      → P (object_add b driver id props).board
  kept-object_add b driver id props passes h =
      object-comes P b driver id props h (λ row named room o e.
      let own : AllByRecursion Made (row.id ∷ []) = rw (types_made, named) at passes in
      kept-added b row.id id props own.0 room o h)

  kept-write : (b : Board) (n : ℕ) (name : List ℕ) (v : Val) → P b → P (after_write b (write b n name v))
  kept-write b n name v h =
      write-by P b n name v
      (record {
        value = λ i p is old at type first role fits. k.slots.sets n i v b ((name, _), at) h;
        drops = λ i p is t s link at. k.slots.empties n i b (s, ap (option_map (λ (x : List ℕ × Slot). x.1)) at) h;
        points = λ i p is t s left link leaves at path m told dropped.
            let there : slot_at b n i ≡ Some s = ap (option_map (λ (x : List ℕ × Slot). x.1)) at in
            k.slots.points n i m (drop_slot b n i)
            (record {
              type = t;
              empty = emptied-link (drop_slot b n i) n i t s left link leaves (emptied-at b n i s left there leaves);
              fits = fits-dropped b n i t path m told;
            }) dropped;
        ends = ends;
      }) h

  kept-sever : (b : Board) (n : ℕ) → P b → P (sever b n).board
  kept-sever b n h =
      sever-by P b n
      (record {
        pins = k.beside.pins;
        unpins = k.beside.unpins;
        drops = λ there away i t target c at e. k.slots.empties n i c (strong t target, at) e;
        ends = ends;
      }) h

  pub kept-changed : (b : Board) (change : Change) → AllByRecursion Made (types_made change) → P b → P (changed b change)
  kept-changed b (added driver id props) passes h = kept-object_add b driver id props passes h
  kept-changed b (deleted id) passes h = deletion-comes P b id h (λ i e. kept-let_go b OBJECTS_BIRTH i h)
  kept-changed b (wrote n name v) passes h = kept-write b n name v h
  kept-changed b (severed n) passes h = kept-sever b n h

  -- a device that is added
  kept-draft : (n : ℕ) (t : TypeId) → AllByRecursion Made (types_in t) → DraftSteps P n t
  kept-draft n t passes =
      record {
        value = λ p own type first role c h. k.slots.adds n _ _ c h;
        holds = λ p own target role c h. k.slots.adds n _ _ c h;
        sees = λ p own target role c h. k.slots.adds n _ _ c h;
        makes = λ p own kid role c room h. k.slots.adds n _ _ _ (k.objects.made kid (fresh_slots kid) c (may p own kid role) room h);
        passes = λ p own m property c h. k.slots.adds n _ _ c h;
      }
    where
      may : (p : Property) → Contains (slots_of t) p → KidPasses Made p
      may p own = All-contains (KidPasses Made) (slots_of t) p (All-from_recursion (KidPasses Made) (slots_of t) (kids-pass Made (slots_of t) passes.1)) own

  kept-place : (b : Board) (n : ℕ) (a : Wanted) (resources : Resources) → PlaceSteps P b n a resources
  kept-place b n a resources =
      record {
        contained = λ c h. k.slots.adds _ _ _ c h;
        hung = λ c h. k.slots.adds _ _ _ c h;
        given = λ c h. k.slots.gives n b a.props c h;
        slotted = λ i c at h. k.slots.sets n i _ c (named-has c n i _ at) h;
        homed = λ i c at h. k.slots.links n i _ c (named-has c n i _ at) h;
        lit = λ i c at h. k.slots.sets n i _ c (named-has c n i _ at) h;
        addressed = λ r i c e at h. k.slots.sets n i _ c (named-has c n i _ at) h;
        bodied = λ c h. k.objects.bodies n a.id resources.range c h;
        sourced = λ m i c e at h. k.slots.links m i _ c (named-has c m i _ at) h;
        counted = λ c e h. k.beside.counts c h;
      }

  kept-start : (n : ℕ) → StartSteps P On n
  kept-start n =
      record { acts = k.objects.acts; keeps_path = λ c h. k.objects.keeps_path n _ c h; announces = λ c on room h. k.beside.announces n c on room h }

  pub kept-plug : (b : Board) (a : Wanted) → Good b → AllByRecursion Made (types_of a.driver) → P b → P (plug b a).board
  kept-plug b a good passes h =
      plug-comes P b a
      (record {
        same = h;
        given_up = λ row bus refusal tried late. given_up-by P k.objects.attempted b row.id bus refusal.0 h;
        added = λ row bus tried late room free.
            let own : AllByRecursion Made (types_in row.id) = rw (types_of, tried.named) at passes in
            let resources : Resources = resources_of b row.id bus a.props in
            plug-by P On reach.steady b row.id a resources
            (record {
              begins = λ few. k.objects.made row.id [] b own.0 few h;
              draft = kept-draft (b.born + 1) row.id own;
              place = kept-place b (b.born + 1) a resources;
            }) (kept-start (b.born + 1)) room free (reach.starts b a row bus good tried late);
      })

  -- a device that is detached
  kept-unrealize : (b : Board) → UnrealizeSteps (λ (c : Board). P c × SameThere b c) (On b)
  kept-unrealize b =
      record {
        acts = λ n period c on h. (
          k.objects.acts Unrealize n period c refl (reach.steady b c h.1 n on) h.0,
          λ y. acted-there Unrealize n period c y ∙ h.1 y,
        );
        unsees = λ n i c at h. (
          k.slots.unsees n i c (named-has c n i (codes "source") at) h.0,
          λ y. edit-there n (with_changed unseen i) (λ r. refl) c y ∙ h.1 y,
        );
        stops = λ n i c at h. (
          k.slots.sets n i (val.Uint 0) c (named-has c n i (codes "period") at) h.0,
          λ y. set-there n i (val.Uint 0) c y ∙ h.1 y,
        );
        darkens = λ n i c at h. (
          k.slots.sets n i (val.Bool false) c (named-has c n i (codes "realized") at) h.0,
          λ y. set-there n i (val.Bool false) c y ∙ h.1 y,
        );
        clears = λ n c on h. (k.beside.clears n c (reach.steady b c h.1 n on) h.0, h.1);
        forgets = λ n c on h. (k.beside.forgets n c (reach.steady b c h.1 n on) h.0, h.1);
      }

  kept-leave : LeaveSteps P
  kept-leave =
      record {
        pins = k.beside.pins;
        unpins = k.beside.unpins;
        empties = λ n i x c at leaves h. k.slots.empties n i c (x.1, ap (option_map (λ (y : List ℕ × Slot). y.1)) at) h;
        takes = λ n i own t d c at h.
            let there : slot_at c n i ≡ Some (strong t (Some d)) = ap (option_map (λ (y : List ℕ × Slot). y.1)) at in
            k.slots.cuts n i (drop_slot c n i) (t, emptied-at c n i (strong t (Some d)) (strong t None) there refl)
            (k.slots.empties n i c (strong t (Some d), there) h);
        ends = ends;
      }

  pub kept-detach : (b : Board) (d : ℕ) → Good b → On b d → P b → P (detach b d)
  unfolding pin
  kept-detach b d good on h =
      let c : Board = pin b d in
      leave-by P kept-leave b d
      (unrealize-by (λ (x : Board). P x × SameThere c x) (On c) (kept-unrealize c) c (pinned-below b d good) d (reach.steady b c (λ x. refl) d on)
      (k.beside.pins d b h, λ x. refl)).0
    where
      pinned-below : (b : Board) (d : ℕ) → Good b → ActsBelow (On (pin b d)) (pin b d)
      pinned-below b d good =
          record {
            buses = λ n. steady-all On reach.steady b (pin b d) (λ x. refl) _ ((reach.below b good).buses n);
            kids = λ m. steady-all On reach.steady b (pin b d) (λ x. refl) _ ((reach.below b good).kids m);
          }

  -- the reset of the whole board
  pub kept-reset : (b : Board) → Good b → P b → P (reset_whole b)
  kept-reset =
      reset-by Good P
      (record {
        detaches = λ b r e good h. kept-detach b r.birth good (reach.pending b r good e) h;
        stays = λ b r e good. reach.completed b r good e;
        pulses = λ b good h. kept-pulse b MACHINE_BIRTH Cold good (reach.machine b good) h;
      })
