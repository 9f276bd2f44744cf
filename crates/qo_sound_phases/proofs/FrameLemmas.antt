-- Where what a reset reaches is as on another board, it goes over the same objects above each of them, and as many holds are above it.
use Rattle.std.proofs.Common.{◌≡◌, ap, sym, subst, ◌∙◌, ℕ, true, false, List, Option, Some, codes}
use Rattle.qo_model.proofs.Common.{count_by, list_any, MACHINE_BIRTH, TypeId, option_map_or, Board, is_live, kind_of, among, leads, bus_of, is_of, below, count, post, is_a}
use Rattle.qo_sound.proofs.TestLemmas.{clash}
use Rattle.qo_sound_devices.specs.SoundPlaces.{child_entries, HasOwner, machines, bridges, listed, owns, owns_it, stands}
use Rattle.qo_sound_devices.proofs.AttachmentLemmas.{owns-listed}
use Rattle.qo_sound_devices.proofs.DepthLemmas.{stands-dimmed}
use Rattle.qo_sound_devices.proofs.PlacesLemmas.{child-live, stands-live, kind-alike, of-alike}
use Rattle.qo_sound_devices.proofs.UnrealizingLemmas.{Dims}
use Rattle.qo_sound_phases.specs.SoundPhases.{IsReached, machine, device, bus}
use Rattle.qo_sound_phases.proofs.ResetTreeLemmas.{bus-leads, kid-leads, leads-cases, one-parent, Placed, post-reach, reach-post, stands-no_bus}
use Rattle.qo_sound_phases.proofs.ForestLemmas.{Reach, itself, further}
use Rattle.qo_sound_phases.proofs.ListLemmas.{iff}
use Rattle.qo_sound_phases.proofs.ReachLemmas.{machine-aside, machine-no_bus, machines-listed, reached-above, reached-live, StaysReached, stays-reached}
use Rattle.qo_sound_phases.proofs.ShapeLemmas.{counted-same}

-- what is there on both is of the same types
abbrev pub SameKinds : Board → Board → Type 0
SameKinds b c = (x : ℕ) → is_live b x ≡ true → is_live c x ≡ true → kind_of c x ≡ kind_of b x

-- what a reset reaches on c stands as on b
pub record Frame (b c : Board) : Type 0 where
  pub kind : SameKinds b c
  pub stood : (x : ℕ) → stands c x ≡ true → stands b x ≡ true
  pub bus : (x : ℕ) → stands c x ≡ true → bus_of c x ≡ bus_of b x
  pub children : (x : ℕ) → stands c x ≡ true → child_entries c x ≡ child_entries b x
  pub machine : child_entries c MACHINE_BIRTH ≡ child_entries b MACHINE_BIRTH

-- what leaves all that is read of places
pub dims-frame : (b c : Board) → Dims b c → Frame b c
dims-frame b c k =
    record {
      kind = λ x was live. kind-alike b c x (k.dimmed.body x);
      stood = λ x s. sym (stands-dimmed b c k.dimmed x) ∙ s;
      bus = λ x s. k.dimmed.bus x;
      children = λ x s. k.dimmed.children x;
      machine = k.dimmed.children MACHINE_BIRTH;
    }

pub dims-reached : (b c : Board) → Dims b c → StaysReached b c
dims-reached b c k =
    stays-reached b c (λ x s. stands-dimmed b c k.dimmed x ∙ s) (λ x s. k.dimmed.children x)
    (λ o was its is. of-alike b c o (codes "bus") (k.dimmed.body o) ∙ is)

module _ (b c : Board) (kb : Placed b) (kc : Placed c) (f : Frame b c) where
  frame-of : (name : List ℕ) (x : ℕ) → is_live b x ≡ true → is_live c x ≡ true → is_of c name x ≡ is_of b name x
  frame-of name x e g = ap (λ (o : Option TypeId). option_map_or (λ (t : TypeId). is_a t name) o false) (f.kind x e g)

  own : (p q : ℕ) → stands c p ≡ true → owns c p q ≡ true → owns b p q ≡ true
  own p q s o = sym (ap (list_any (owns_it q)) (f.children p s)) ∙ o

  -- who is reached was there
  owned-live : (q : ℕ) → HasOwner c q → is_live b q ≡ true
  owned-live q (machines u) = child-live b kb.firm MACHINE_BIRTH q (machines-listed b kb q u)
  owned-live q (bridges p s o) = child-live b kb.firm p q (owns-listed q (child_entries b p) (own p q s o))

  reached-before : (x : ℕ) → IsReached c x → is_live b x ≡ true
  reached-before x (machine at) = reached-live b kb x (machine at)
  reached-before x (device s) = stands-live b kb.firm x (f.stood x s)
  reached-before x (bus is its) = owned-live x its

  same-of : (name : List ℕ) (x : ℕ) → IsReached c x → is_of c name x ≡ is_of b name x
  same-of name x i = frame-of name x (reached-before x i) (reached-live c kc x i)

  pub frame-reached : StaysReached c b
  frame-reached =
      stays-reached c b f.stood (λ x s. sym (f.children x s)) (λ x its was is. sym (same-of (codes "bus") x (bus is its)) ∙ is)

  -- one step down
  leads-before : (p o : ℕ) → IsReached c o → leads (below c) p o ≡ true → leads (below b) p o ≡ true
  leads-before p o i e =
      leads-cases c kc p o e (λ is s on. kid-leads b kb o p (f.stood o s) (sym (f.bus o s) ∙ on))
      (λ apart is its. to_bus i apart is its)
    where
      listed-bus : listed o (child_entries c p) ≡ true → is_of c (codes "bus") o ≡ true → owns c p o ≡ true → HasOwner c o → leads (below b) p o ≡ true
      listed-bus l is its (machines u) =
          let at : p ≡ MACHINE_BIRTH = one-parent c kc p MACHINE_BIRTH o l (machines-listed c kc o u) in
          let was : is_of b (codes "bus") o ≡ true = sym (same-of (codes "bus") o i) ∙ is in
          let its_own : owns c MACHINE_BIRTH o ≡ true = subst (λ (x : ℕ). owns c x o ≡ true) at its in
          subst (λ (x : ℕ). leads (below b) x o ≡ true) (sym at)
          (bus-leads b kb MACHINE_BIRTH o (machine-no_bus b kb) was (sym (ap (list_any (owns_it o)) f.machine) ∙ its_own))
      listed-bus l is its (bridges v s w) =
          let at : v ≡ p = one-parent c kc v p o (owns-listed o (child_entries c v) w) l in
          let was : is_of b (codes "bus") o ≡ true = sym (same-of (codes "bus") o i) ∙ is in
          subst (λ (x : ℕ). leads (below b) x o ≡ true) at
          (bus-leads b kb v o (stands-no_bus b kb v (f.stood v s)) was (own v o s w))

      to_bus : IsReached c o → is_of c (codes "bus") p ≡ false → is_of c (codes "bus") o ≡ true → owns c p o ≡ true → leads (below b) p o ≡ true
      to_bus (machine at) apart is its = clash (sym is ∙ ap (is_of c (codes "bus")) at ∙ machine-no_bus c kc)
      to_bus (device s) apart is its = clash (sym is ∙ stands-no_bus c kc o s)
      to_bus (bus also by) apart is its = listed-bus (owns-listed o (child_entries c p) its) is its by

  leads-after : (p o : ℕ) → IsReached c o → leads (below b) p o ≡ true → leads (below c) p o ≡ true
  leads-after p o i e = leads-cases b kb p o e (λ is s on. to_kid i s on) (λ apart is its. to_bus i is its)
    where
      to_kid : IsReached c o → stands b o ≡ true → bus_of b o ≡ Some p → leads (below c) p o ≡ true
      to_kid (machine at) s on = clash (sym s ∙ ap (stands b) at ∙ machine-aside b kb)
      to_kid (device t) s on = kid-leads c kc o p t (f.bus o t ∙ on)
      to_kid (bus is by) s on = clash (sym (sym (same-of (codes "bus") o (bus is by)) ∙ is) ∙ stands-no_bus b kb o s)

      owned : is_of c (codes "bus") o ≡ true → listed o (child_entries b p) ≡ true → owns b p o ≡ true → HasOwner c o → leads (below c) p o ≡ true
      owned is l its (machines u) =
          let at : p ≡ MACHINE_BIRTH = one-parent b kb p MACHINE_BIRTH o l (machines-listed b kb o u) in
          let its_own : owns b MACHINE_BIRTH o ≡ true = subst (λ (x : ℕ). owns b x o ≡ true) at its in
          subst (λ (x : ℕ). leads (below c) x o ≡ true) (sym at)
          (bus-leads c kc MACHINE_BIRTH o (machine-no_bus c kc) is (ap (list_any (owns_it o)) f.machine ∙ its_own))
      owned is l its (bridges v s w) =
          let at : v ≡ p = one-parent b kb v p o (owns-listed o (child_entries b v) (own v o s w)) l in
          subst (λ (x : ℕ). leads (below c) x o ≡ true) at (bus-leads c kc v o (stands-no_bus c kc v s) is w)

      to_bus : IsReached c o → is_of b (codes "bus") o ≡ true → owns b p o ≡ true → leads (below c) p o ≡ true
      to_bus (machine at) is its = clash (sym is ∙ ap (is_of b (codes "bus")) at ∙ machine-no_bus b kb)
      to_bus (device s) is its = clash (sym is ∙ stands-no_bus b kb o (f.stood o s))
      to_bus (bus also by) is its = owned also (owns-listed o (child_entries b p) its) its by

  -- all that is above
  reach-before : (r o : ℕ) → IsReached c o → Reach (below c) r o → Reach (below b) r o
  reach-before r o i itself = itself
  reach-before r o i (further {p} k e) = further (reach-before r p (reached-above c kc p o e i) k) (leads-before p o i e)

  reach-after : (r o : ℕ) → IsReached c o → Reach (below b) r o → Reach (below c) r o
  reach-after r o i itself = itself
  reach-after r o i (further {p} k e) =
      let step : leads (below c) p o ≡ true = leads-after p o i e in
      further (reach-after r p (reached-above c kc p o step i) k) step

  pub frame-post : (r o : ℕ) → IsReached c o → among (post c r) o ≡ among (post b r) o
  frame-post r o i =
      iff (among (post c r) o) (among (post b r) o) (λ e. reach-post b kb r o (reach-before r o i (post-reach c kc r o e)))
      (λ e. reach-post c kc r o (reach-after r o i (post-reach b kb r o e)))

  -- as many holds are on it and above it, where the same holds are there
  pub frame-count : (o : ℕ) → IsReached c o → c.holds ≡ b.holds → count c o ≡ count b o
  frame-count o i e =
      counted-same (λ r. among (post c r) o) (λ r. among (post b r) o) (λ r. frame-post r o i) c.holds ∙ ap (count_by (λ r. among (post b r) o)) e
