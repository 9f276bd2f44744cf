-- The steps by which a device that was made comes to stand in its place: what each leaves of what places speak of.
use Rattle.std.proofs.Common.{◌≡◌, refl, ap, sym, subst, ◌∙◌, ℕ, suc, Bool, true, false, ◌==◌, List, [], ◌∷◌, filter, filter_map, Option, Some, None, option_map, option_and_then, codes}
use Rattle.qo_model.proofs.Common.{option_map_or, ANONYMOUS_BIRTH, MACHINE_BIRTH, PERIPHERAL_BIRTH, Act, Realize, Enter, Hold, Exit, TypeId, Range, Board, Record, Slot, record_of, kind_of, is_live, slots_at, acted, bus_of, is_realized, is_true, number_in, bus_slot_of, plain_in, strong_in, canonical, is_of, acted_all, bus_births, counted, started, notified_plug, with_body_of, with_path, edit, edited, is_not_in_reset, phased, plugged, post, is_a}
use Rattle.std.proofs.lemmas.Bool.{eqb-true, eq-eqb}
use Rattle.qo_model.proofs.FirstSlotLemmas.{named_in}
use Rattle.qo_model.proofs.StepLemmas.{found-edited, found-birth}
use Rattle.qo_sound.proofs.FirmBoardLemmas.{WellFormed}
use Rattle.qo_sound.proofs.TestLemmas.{decide}
use Rattle.qo_sound_devices.proofs.JoiningLemmas.{differs}
use Rattle.qo_sound_devices.specs.SoundPlaces.{child_entries, child_entry, id_of, kid_entries, listed, path_of, PlacesBut}
use Rattle.qo_sound_devices.proofs.LikenessLemmas.{Alike, alike-record, other-record}
use Rattle.qo_sound_devices.proofs.AdditionLemmas.{goal-same, count_after, device-no_bus, done, further-same, Joined, Now, path_after}
use Rattle.qo_sound_devices.proofs.PlacesLemmas.{child-live, id-alike, kind-alike, of-alike, of-live, path-alike}
use Rattle.qo_sound_devices.proofs.UnrealizingLemmas.{Dims, dims-acted, dims-alike, dims-none, dims-then}

-- acts and phases
dims-all : (act : Act) (ns : List ℕ) (b : Board) → Dims b (acted_all act ns b)
dims-all act [] b = dims-none b
dims-all act (n ∷ ns) b = dims-then b (acted act n 0 b) (acted_all act ns (acted act n 0 b)) (dims-acted act n 0 b) (dims-all act ns (acted act n 0 b))

dims-phased : (act : Act) (ns : List ℕ) (b : Board) → Dims b (phased act ns b)
dims-phased act [] b = dims-none b
dims-phased act (n ∷ ns) b = dims-then b (acted act n 0 b) (phased act ns (acted act n 0 b)) (dims-acted act n 0 b) (dims-phased act ns (acted act n 0 b))

dims-plugged : (d : ℕ) (b : Board) → Dims b (plugged b d)
unfolding plugged
dims-plugged d b =
    let entered : Board = phased Enter (post b d) b in
    let held : Board = phased Hold (post b d) entered in
    dims-then b held (phased Exit (filter (is_not_in_reset b) (post b d)) held)
    (dims-then b entered held (dims-phased Enter (post b d) b) (dims-phased Hold (post b d) entered))
    (dims-phased Exit (filter (is_not_in_reset b) (post b d)) held)

-- a step at the device alone, that leaves its children
pub record Beside (n : ℕ) (c d : Board) : Type 0 where
  pub others : (x : ℕ) → (x == n) ≡ false → Alike c d x
  pub children : child_entries d n ≡ child_entries c n
  pub kind : kind_of d n ≡ kind_of c n

-- what stands on the device
pub record IsNow (n : ℕ) (now : Now) (d : Board) : Type 0 where
  pub its_id : id_of d n ≡ now.its
  pub its_path : path_of d n ≡ now.path
  pub anonymous : d.anonymous ≡ now.count
  pub on : bus_of d n ≡ now.on
  pub at : bus_slot_of d n ≡ now.at
  pub realized : is_realized d n ≡ now.realized

module _ (depth : ℕ → ℕ) (b : Board) (n bus slot : ℕ) (id : Option (List ℕ)) (t : TypeId) where
  pub joined-dims : (now : Now) (c d : Board) → Dims c d → Joined depth b n bus slot id t now c → Joined depth b n bus slot id t now d
  joined-dims now c d k j =
      record {
        body = λ x e. k.dimmed.body x ∙ j.body x e;
        realized = λ x e. k.same x ∙ j.realized x e;
        bus_same = λ x e. k.dimmed.bus x ∙ j.bus_same x e;
        place_same = λ x e. k.dimmed.place x ∙ j.place_same x e;
        kids_same = λ x e p. k.dimmed.kids x ∙ j.kids_same x e p;
        children = λ x e p. k.dimmed.children x ∙ j.children x e p;
        kids_more = k.dimmed.kids bus ∙ j.kids_more;
        third = k.dimmed.children PERIPHERAL_BIRTH ∙ j.third;
        fourth = k.dimmed.children ANONYMOUS_BIRTH ∙ j.fourth;
        anonymous = k.dimmed.anonymous ∙ j.anonymous;
        absent = j.absent;
        unrealized = λ x e p. k.same x ∙ j.unrealized x e p;
        nameless = λ x e p. id-alike c d x (k.dimmed.body x) ∙ j.nameless x e p;
        no_kids = λ x e p. k.dimmed.kids x ∙ j.no_kids x e (sym (of-alike c d x (codes "bus") (k.dimmed.body x)) ∙ p);
        further = λ x e. further-same c d (λ name y. of-alike c d y name (k.dimmed.body y)) x (k.dimmed.children x) (j.further x e);
        kind = kind-alike c d n (k.dimmed.body n) ∙ j.kind;
        its_id = id-alike c d n (k.dimmed.body n) ∙ j.its_id;
        its_path = path-alike c d n (k.dimmed.body n) ∙ j.its_path;
        on = k.dimmed.bus n ∙ j.on;
        at = k.dimmed.place n ∙ j.at;
        stands_realized = k.same n ∙ j.stands_realized;
        heirs = λ q e. j.heirs q (sym (ap (listed q) (k.dimmed.children n)) ∙ e);
        goal = goal-same depth b n bus slot id t c d (k.dimmed.children n) j.goal;
      }

  pub joined-beside : (left : Option ℕ) (out : ℕ → Bool) → WellFormed b → PlacesBut depth left out b → (now next : Now) (c d : Board) → Beside n c d
      → IsNow n next d → Joined depth b n bus slot id t now c → Joined depth b n bus slot id t next d
  joined-beside left out firm h now next c d k is j =
      record {
        body = λ x e. (k.others x (differs b n j.absent x e)).body ∙ j.body x e;
        realized = λ x e. (k.others x (differs b n j.absent x e)).realized ∙ j.realized x e;
        bus_same = λ x e. (k.others x (differs b n j.absent x e)).bus ∙ j.bus_same x e;
        place_same = λ x e. (k.others x (differs b n j.absent x e)).place ∙ j.place_same x e;
        kids_same = λ x e p. (k.others x (differs b n j.absent x e)).kids ∙ j.kids_same x e p;
        children = λ x e p. (k.others x (differs b n j.absent x e)).children ∙ j.children x e p;
        kids_more = (k.others bus (differs b n j.absent bus (of-live b (codes "bus") bus j.goal.is_bus))).kids ∙ j.kids_more;
        third = (k.others PERIPHERAL_BIRTH (differs b n j.absent PERIPHERAL_BIRTH (child-live b firm MACHINE_BIRTH PERIPHERAL_BIRTH h.parts.0))).children
            ∙ j.third;
        fourth = (k.others ANONYMOUS_BIRTH (differs b n j.absent ANONYMOUS_BIRTH (child-live b firm MACHINE_BIRTH ANONYMOUS_BIRTH h.parts.1.0))).children
            ∙ j.fourth;
        anonymous = is.anonymous;
        absent = j.absent;
        unrealized = λ x e p. (k.others x p).realized ∙ j.unrealized x e p;
        nameless = λ x e p. id-alike c d x (k.others x p).body ∙ j.nameless x e p;
        no_kids = no_kids;
        further = λ x e. further-same c d same_types x (same_children x) (j.further x e);
        kind = k.kind ∙ j.kind;
        its_id = is.its_id;
        its_path = is.its_path;
        on = is.on;
        at = is.at;
        stands_realized = is.realized;
        heirs = λ q e. j.heirs q (sym (ap (listed q) k.children) ∙ e);
        goal = goal-same depth b n bus slot id t c d k.children j.goal;
      }
    where
      at_each : (P : ℕ → Type 0) → ((x : ℕ) → Alike c d x → P x) → P n → (x : ℕ) → P x
      at_each P other its x = decide (x == n) {A = P x} (λ p. subst P (sym (eqb-true x n p)) its) (λ p. other x (k.others x p))

      same_types : (name : List ℕ) (y : ℕ) → is_of d name y ≡ is_of c name y
      same_types name =
          at_each (λ y. is_of d name y ≡ is_of c name y) (λ y a. of-alike c d y name a.body)
          (ap (λ (o : Option TypeId). option_map_or (λ (x : TypeId). is_a x name) o false) k.kind)

      same_children : (x : ℕ) → child_entries d x ≡ child_entries c x
      same_children = at_each (λ x. child_entries d x ≡ child_entries c x) (λ x a. a.children) k.children

      own : is_of d (codes "bus") n ≡ false
      own = ap (λ (o : Option TypeId). option_map_or (λ (x : TypeId). is_a x (codes "bus")) o false) (k.kind ∙ j.kind) ∙ device-no_bus t j.goal.device

      no_kids : (x : ℕ) → is_live b x ≡ false → is_of d (codes "bus") x ≡ true → kid_entries d x ≡ []
      no_kids x e p =
          decide (x == n) {A = kid_entries d x ≡ []}
          (λ q. absurd (let clash : true ≡ false = sym p ∙ ap (is_of d (codes "bus")) (eqb-true x n q) ∙ own in cc))
          (λ q. (k.others x q).kids ∙ j.no_kids x e (sym (of-alike c d x (codes "bus") (k.others x q).body) ∙ p))

-- one add more of a device without id
pub joined-counted : (depth : ℕ → ℕ) (b : Board) (n bus slot : ℕ) (id : Option (List ℕ)) (t : TypeId) (now : Now) (c : Board) (other : Option (List ℕ))
    → Joined depth b n bus slot id t now c → Joined depth b n bus slot id t (record now { count = count_after other now.count }) (counted other c)
joined-counted depth b n bus slot id t now c (Some i) j = j
joined-counted depth b n bus slot id t now c None j =
    record {
      body = j.body;
      realized = j.realized;
      bus_same = j.bus_same;
      place_same = j.place_same;
      kids_same = j.kids_same;
      children = j.children;
      kids_more = j.kids_more;
      third = j.third;
      fourth = j.fourth;
      anonymous = ap (λ (k : ℕ). suc k) j.anonymous;
      absent = j.absent;
      unrealized = j.unrealized;
      nameless = j.nameless;
      no_kids = j.no_kids;
      further = j.further;
      kind = j.kind;
      its_id = j.its_id;
      its_path = j.its_path;
      on = j.on;
      at = j.at;
      stands_realized = j.stands_realized;
      heirs = j.heirs;
      goal = goal-same depth b n bus slot id t c (counted None c) refl j.goal;
    }

-- an edit of the device that leaves its slots
module _ (c : Board) (n : ℕ) (change : Record → Record) (same_birth : (r : Record) → (change r).birth ≡ r.birth)
    (same_slots : (r : Record) → (change r).slots ≡ r.slots) (same_kind : (r : Record) → (change r).kind ≡ r.kind) where
  reads : {A : Type 0} (f : Option Record → A) → ((r : Record) → f (Some (edited n change r)) ≡ f (Some r))
      → f (record_of (edit n change c) n) ≡ f (record_of c n)
  reads f same = ap f (found-edited n change same_birth n c.records) ∙ go (record_of c n)
    where
      go : (o : Option Record) → f (option_map (edited n change) o) ≡ f o
      go None = refl
      go (Some r) = same r

  own-slots : (r : Record) → (edited n change r).slots ≡ r.slots
  own-slots r = decide (r.birth == n) {A = (edited n change r).slots ≡ r.slots} (λ p. rw (edited, p) (same_slots r)) (λ p. rw (edited, p) refl)

  own-kind : (r : Record) → (edited n change r).kind ≡ r.kind
  own-kind r = decide (r.birth == n) {A = (edited n change r).kind ≡ r.kind} (λ p. rw (edited, p) (same_kind r)) (λ p. rw (edited, p) refl)

  pub edit-slots : slots_at (edit n change c) n ≡ slots_at c n
  edit-slots = reads (λ (o : Option Record). option_map_or (λ (r : Record). r.slots) o []) own-slots

  pub edit-beside : Beside n c (edit n change c)
  edit-beside =
      record {
        others = λ x apart.
            alike-record c (edit n change c) x (found-edited n change same_birth x c.records ∙ other-record n x change c refl apart (record_of c x) refl);
        children = ap (filter_map child_entry) edit-slots;
        kind = reads (option_map (λ (r : Record). r.kind)) (λ r. ap Some (own-kind r));
      }

  -- what is read of the device itself after the edit
  pub edit-own : {A : Type 0} (f : Record → Option A) (a : Option A) (t : TypeId) → kind_of c n ≡ Some t
      → ((r : Record) → record_of c n ≡ Some r → f (change r) ≡ a) → option_and_then f (record_of (edit n change c) n) ≡ a
  edit-own {A} f a t there same = ap (option_and_then f) (found-edited n change same_birth n c.records) ∙ go (record_of c n) refl
    where
      go : (o : Option Record) → record_of c n ≡ o → option_and_then f (option_map (edited n change) o) ≡ a
      go None e = absurd (let clash : None ≡ Some t = sym (ap (option_map (λ (r : Record). r.kind)) e) ∙ there in cc)
      go (Some r) e = let own : (r.birth == n) ≡ true = eq-eqb r.birth n (found-birth n c.records r e) in rw (edited, own) (same r e)

-- it acts, and goes through the phases
abbrev pub acting : ℕ → TypeId → Board → Board
acting n t c = plugged (acted_all Realize (n ∷ bus_births n t) c) n

pub dims-acting : (n : ℕ) (t : TypeId) (c : Board) → Dims c (acting n t c)
dims-acting n t c =
    let ran : Board = acted_all Realize (n ∷ bus_births n t) c in
    dims-then c ran (acting n t c) (dims-all Realize (n ∷ bus_births n t) c) (dims-plugged n ran)

module _ (depth : ℕ → ℕ) (b : Board) (n bus slot : ℕ) (id : Option (List ℕ)) (t : TypeId) (firm : WellFormed b) (h : PlacesBut depth None (λ x. false) b) where
  -- how it is now, where its slots stay
  now-same : (now : Now) (its path : Option (List ℕ)) (c d : Board) → Joined depth b n bus slot id t now c → d.anonymous ≡ c.anonymous
      → slots_at d n ≡ slots_at c n → id_of d n ≡ its → path_of d n ≡ path → IsNow n (record now { its = its; path = path }) d
  now-same now its path c d j count slots its_id its_path =
      record {
        its_id = its_id;
        its_path = its_path;
        anonymous = count ∙ j.anonymous;
        on = ap (λ (ss : List (List ℕ × Slot)). option_and_then strong_in (named_in (codes "parent_bus") ss)) slots ∙ j.on;
        at = ap (λ (ss : List (List ℕ × Slot)). option_and_then number_in (option_and_then plain_in (named_in (codes "slot") ss))) slots ∙ j.at;
        realized =
            ap (λ (ss : List (List ℕ × Slot)). option_map_or is_true (option_and_then plain_in (named_in (codes "realized") ss)) false) slots
            ∙ j.stands_realized;
      }

  -- its path is kept, and the guest is told
  pub joined-told : (now : Now) (c : Board) → Joined depth b n bus slot id t now c
      → Joined depth b n bus slot id t (record now { path = canonical c n }) (notified_plug n c)
  joined-told now c j =
      joined-dims depth b n bus slot id t (record now { path = canonical c n }) (edit n (with_path (canonical c n)) c) (notified_plug n c)
      (dims-alike (edit n (with_path (canonical c n)) c) (notified_plug n c) refl
      (λ x. alike-record (edit n (with_path (canonical c n)) c) (notified_plug n c) x refl))
      (joined-beside depth b n bus slot id t None (λ x. false) firm h now (record now { path = canonical c n }) c
      (edit n (with_path (canonical c n)) c) (edit-beside c n (with_path (canonical c n)) (λ r. refl) (λ r. refl) (λ r. refl)) is j)
    where
      slots : slots_at (edit n (with_path (canonical c n)) c) n ≡ slots_at c n
      slots = edit-slots c n (with_path (canonical c n)) (λ r. refl) (λ r. refl) (λ r. refl)

      is : IsNow n (record now { path = canonical c n }) (edit n (with_path (canonical c n)) c)
      is =
          now-same now now.its (canonical c n) c (edit n (with_path (canonical c n)) c) j refl slots
          (edit-own c n (with_path (canonical c n)) (λ r. refl) (λ r. refl) (λ r. refl) (λ (r : Record). r.device_id) now.its t j.kind
          (λ r e. sym (ap (option_and_then (λ (x : Record). x.device_id)) e) ∙ j.its_id))
          (edit-own c n (with_path (canonical c n)) (λ r. refl) (λ r. refl) (λ r. refl) (λ (r : Record). r.kept_path) (canonical c n) t j.kind
          (λ r e. refl))

  -- what it is besides its slots
  pub joined-body : (now : Now) (c : Board) (range : Option Range) → Joined depth b n bus slot id t now c
      → Joined depth b n bus slot id t (record now { its = id }) (edit n (with_body_of id range) c)
  joined-body now c range j =
      joined-beside depth b n bus slot id t None (λ x. false) firm h now (record now { its = id }) c (edit n (with_body_of id range) c)
      (edit-beside c n (with_body_of id range) (λ r. refl) (λ r. refl) (λ r. refl)) is j
    where
      slots : slots_at (edit n (with_body_of id range) c) n ≡ slots_at c n
      slots = edit-slots c n (with_body_of id range) (λ r. refl) (λ r. refl) (λ r. refl)

      is : IsNow n (record now { its = id }) (edit n (with_body_of id range) c)
      is =
          now-same now id now.path c (edit n (with_body_of id range) c) j refl slots
          (edit-own c n (with_body_of id range) (λ r. refl) (λ r. refl) (λ r. refl) (λ (r : Record). r.device_id) id t j.kind (λ r e. refl))
          (edit-own c n (with_body_of id range) (λ r. refl) (λ r. refl) (λ r. refl) (λ (r : Record). r.kept_path) now.path t j.kind
          (λ r e. sym (ap (option_and_then (λ (x : Record). x.kept_path)) e) ∙ j.its_path))

  -- it acts, goes through the phases, and its path is kept
  pub joined-started : (now : Now) (c : Board) → Joined depth b n bus slot id t now c
      → Joined depth b n bus slot id t (record now { path = canonical (acting n t c) n }) (started n t c)
  joined-started now c j =
      joined-told now (acting n t c) (joined-dims depth b n bus slot id t now c (acting n t c) (dims-acting n t c) j)

  -- a device that stands in its place, but for its path, is started
  abbrev pub before : Option (List ℕ) → Now
  before path = record (done b bus slot id) { path = path }

  pub started-joined : (c : Board) (path : Option (List ℕ)) → Joined depth b n bus slot id t (before path) c
      → canonical (acting n t c) n ≡ Some (path_after b id)
      → Joined depth b n bus slot id t (done b bus slot id) (started n t c)
  started-joined c path j e =
      subst (λ (p : Option (List ℕ)). Joined depth b n bus slot id t (record (done b bus slot id) { path = p }) (started n t c)) e
      (joined-started (before path) c j)
