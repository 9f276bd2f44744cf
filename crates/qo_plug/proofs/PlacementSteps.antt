-- What the steps of a heap keep, by which a device takes its place.
use Rattle.std.proofs.Common.{◌≡◌, refl, ap, sym, subst, ◌∙◌, ℕ, zero, suc, ◌<◌, true, false, eqb, nat_eq, List, [], Option, Some, None, IfNone, option_map, unwrap_or, arith}
use Rattle.std.specs.Prelude.{option_and_then, not}
use Rattle.std.specs.List.{AllZip, list_any}
use Rattle.std.specs.Option.{option_map_or}
use Rattle.qo_values.specs.declared.births.TheConstants.{SYSTEM_CLOCK_BIRTH}
use Rattle.qo_values.specs.declared.properties.Val.{Val}
use Rattle.qo_slots.specs.declared.keys.Key.{Key}
use Rattle.qo_claims.specs.Book.{ClaimsTaken}
use Rattle.qo_heap.specs.Rows.{IsLive, edit, object_at}
use Rattle.qo_kinds.specs.declared.kept_set.KeptSet.{KeptSet}
use Rattle.qo_model.specs.Board as board
use Rattle.qo_model.specs.Objects.{Given}
use Rattle.qo_model.specs.Devices.{bridge_of, clock_of}
use Rattle.qo_model.specs.Plug.{link_named, source_for, with_given}
use Rattle.qo_model.specs.Changes.{with_changed}
use Rattle.qo_model.specs.Release as release
use Rattle.qo_model.specs.Unplug.{set_named}
use Rattle.qo_object.specs.declared.slots.Slot.{Slot}
use Rattle.qo_object.specs.Content.{Content}
use Rattle.qo_object.specs.BoardObject.{shown}
use Rattle.qo_object.specs.Slots.{Named}
use Rattle.qo_heap.specs.Board.{Shows, pins_in}
use Rattle.qo_heap.specs.Book.{IsBook}
use Rattle.qo_heap.specs.Objects.{IsHeap, Objects, content_of, pins_of, slots_of, with_edit}
use Rattle.qo_heap.proofs.BookLemmas.{book-edit}
use Rattle.qo_heap.proofs.HeapLemmas.{live-edit}
use Rattle.qo_heap.proofs.BoardEdits.{edit-unseen, shows-at}
pub use Rattle.qo_heap.proofs.BoardEdits.{pins-edited}
use Rattle.qo_heap.proofs.BoardObjects.{live-content}
use Rattle.qo_heap.proofs.BoardReads.{shows-kind, shows-pinned, shows-record}
use Rattle.qo_life.proofs.TreeLemmas.{read-content, heap-with_log, tree, tree-shows}
use Rattle.qo_life.specs.Life.{Goes, with_log}
use Rattle.qo_heap.specs.Log.{empty_log}
use Rattle.qo_properties.specs.Filling.{IsGiven}
use Rattle.qo_properties.specs.OpeningSteps.{KeepsNames}
use Rattle.qo_properties.specs.declared.adding.filling.InitialValue.{InitialValue}
use Rattle.qo_clocks.specs.Links.{changed_named, index_on, with_slot_changed}
use Rattle.qo_plug.specs.OwnSlots.{own_slots, own_slots_of}
use Rattle.qo_plug.specs.Placement.{Alike, Stays, kept_in, with_book, with_own, own_of}
use Rattle.qo_plug.proofs.BodyLemmas.{there-own}
use Rattle.qo_plug.proofs.PlacementBoards.{read-link, read-set}
use Rattle.qo_plug.proofs.PlacementFills.{own-given}

-- alike heaps, and heaps that stay

pub alike-same : (v w : Objects) → w ≡ v → Alike v w
alike-same v w same =
    record {
      names = λ key live. subst (λ (x : Objects). IsLive x.rows key) (sym same) live;
      paths = λ n. ap (λ (x : Objects). option_map (λ (c : Content). c.kept_path) (content_of x n)) same;
      pins = ap (λ (x : Objects). pins_in x.rows) same;
    }

pub alike-then : (v u w : Objects) → Alike v u → Alike u w → Alike v w
alike-then v u w a b =
    record {
      names = λ key live. b.names key (a.names key live);
      paths = λ n. b.paths n ∙ a.paths n;
      pins = b.pins ∙ a.pins;
    }

pub stays-same : (v w : Objects) → w ≡ v → Stays v w
stays-same v w same =
    record {
      alike = alike-same v w same;
      ids = λ n. ap (λ (x : Objects). option_map (λ (c : Content). c.device_id) (content_of x n)) same;
      own = λ n. ap (λ (x : Objects). option_map own_of (content_of x n)) same;
      spare = ap (λ (x : Objects). x.events.spare) same;
      book = λ out h. subst (λ (x : Objects). IsBook out x) (sym same) h;
    }

pub stays-then : (v u w : Objects) → Stays v u → Stays u w → Stays v w
stays-then v u w a b =
    record {
      alike = alike-then v u w a.alike b.alike;
      ids = λ n. b.ids n ∙ a.ids n;
      own = λ n. b.own n ∙ a.own n;
      spare = b.spare ∙ a.spare;
      book = λ out h. b.book out (a.book out h);
    }

-- an edit that keeps pins and paths
pub alike-edit : (v w : Objects) (n : ℕ) (f : Content → Content) → ((c : Content) → (f c).kept_path ≡ c.kept_path) → ((c : Content) → (f c).pins ≡ c.pins)
    → w.rows ≡ edit n f v.rows → Alike v w
alike-edit v w n f paths pins rows =
    record {
      names = λ key live. subst (λ (l : List (Key × Content)). IsLive l key) (sym rows) (live-edit n f v.rows key live);
      paths = λ m. ap (λ (l : List (Key × Content)). option_map (λ (c : Content). c.kept_path) (object_at l m)) rows
          ∙ read-content (λ (c : Content). c.kept_path) n f paths v m;
      pins = ap pins_in rows ∙ pins-edited n f pins v.rows;
    }

-- and all but slots
pub stays-edit : (v w : Objects) (n : ℕ) (f : Content → Content) → ((c : Content) → f c ≡ record c { slots = (f c).slots }) → w ≡ with_edit n f v → Stays v w
stays-edit v w n f slots is =
    record {
      alike =
          alike-edit v w n f (λ c. ap (λ (d : Content). d.kept_path) (slots c)) (λ c. ap (λ (d : Content). d.pins) (slots c)) (ap (λ (x : Objects). x.rows) is);
      spare = ap (λ (x : Objects). x.events.spare) is;
      ids = λ m. ap (λ (x : Objects). option_map (λ (c : Content). c.device_id) (content_of x m)) is
          ∙ read-content (λ (c : Content). c.device_id) n f (λ c. ap (λ (d : Content). d.device_id) (slots c)) v m;
      own = λ m.
          ap (λ (x : Objects). option_map own_of (content_of x m)) is ∙ read-content own_of n f (λ c. ap own_of (slots c)) v m;
      book = λ out h. subst (λ (x : Objects). IsBook out x) (sym is) (book-edit out v n f (λ c. ap (λ (d : Content). (d.body, d.device_id)) (slots c)) h);
    }

pub shows-book : (b : board.Board) (v w : Objects) (h : ClaimsTaken) → w ≡ with_book h v → Shows b v → Shows b w
shows-book b v w h is s =
    subst (Shows b) (sym is) (record { records = s.records; born = s.born; pins = s.pins; notes = s.notes; events = s.events; now = s.now })

-- a body with other claims shows the same
pub shows-kept : (b : board.Board) (v w : Objects) (n : ℕ) (k : KeptSet) → w ≡ with_edit n (kept_in k) v → Shows b v → Shows b w
shows-kept b v w n k is s =
    subst (Shows b) (sym is) (record {
      records = s.records ∙ sym (edit-unseen n (kept_in k) (λ m c. refl) v.rows);
      born = s.born;
      pins = s.pins ∙ sym (pins-edited n (kept_in k) (λ c. refl) v.rows);
      notes = s.notes;
      events = s.events;
      now = s.now;
    })

pub alike-kept : (v w : Objects) (n : ℕ) (k : KeptSet) → w ≡ with_edit n (kept_in k) v → Alike v w
alike-kept v w n k is = alike-edit v w n (kept_in k) (λ c. refl) (λ c. refl) (ap (λ (x : Objects). x.rows) is)

-- own slots that are filled as it was given
pub shows-given : (b c : board.Board) (v w : Objects) (o : Key) (props : List Given) (plan : List InitialValue) → Shows c v → IsHeap v → IsLive v.rows o
    → AllZip (IsGiven b props) plan (own_slots_of v o.birth) → w ≡ with_edit o.birth (with_own plan) v → Shows (release.edit o.birth (with_given b props) c) w
shows-given b c v w o props plan s good live told is =
    let (d, there) = live-content v o live in
    let slots : slots_of v o.birth ≡ d.slots = ap (λ (x : Option Content). option_map_or (λ (e : Content). e.slots) x []) there in
    let all : AllZip (IsGiven b props) plan (own_slots d.slots) = subst (λ (l : List Named). AllZip (IsGiven b props) plan (own_slots l)) slots told in
    subst (Shows (release.edit o.birth (with_given b props) c)) (sym is)
    (shows-at o.birth (with_own plan) (with_given b props) c v s good d there
    (ap (λ (ss : List (List ℕ × board.Slot)). record (shown o.birth d) { slots = ss }) (own-given b props plan d.slots all))
    (λ e. refl))

-- what a board has of objects besides their slots
module _ {A : Type 0} (g : Content → A) (h : board.Record → A) (same : (m : ℕ) (c : Content) → h (shown m c) ≡ g c) where
  board-read : (b : board.Board) (v : Objects) → Shows b v → (m : ℕ) → option_map g (content_of v m) ≡ option_map h (board.record_of b m)
  board-read b v s m = sym (ap (option_map h) (shows-record b v s m) ∙ go (content_of v m))
    where
      go : (o : Option Content) → option_map h (option_map (shown m) o) ≡ option_map g o
      go None = refl
      go (Some c) = ap Some (same m c)

  -- it stays where a value is set, and where a link is pointed

  module _ (changed : (f : board.Slot → board.Slot) (i : ℕ) (r : board.Record) → h (with_changed f i r) ≡ h r) where
    set-reads : (b : board.Board) (v w : Objects) (n : ℕ) (name : List ℕ) (val : Val) → Shows b v → Shows (set_named n name val b) w → (m : ℕ)
        → option_map g (content_of w m) ≡ option_map g (content_of v m)
    set-reads b v w n name val s t m =
        board-read (set_named n name val b) w t m
        ∙ read-set (option_map h) (λ f i r. ap Some (changed f i r)) n name val b m
        ∙ sym (board-read b v s m)

    link-reads : (b : board.Board) (v w : Objects) (n : ℕ) (name : List ℕ) (to : ℕ) → Shows b v → Shows (link_named n name to b) w → (m : ℕ)
        → option_map g (content_of w m) ≡ option_map g (content_of v m)
    link-reads b v w n name to s t m =
        board-read (link_named n name to b) w t m
        ∙ read-link (option_map h) (λ f i r. ap Some (changed f i r)) n name to b m
        ∙ sym (board-read b v s m)

pub stays-set : (b : board.Board) (v w : Objects) (n : ℕ) (name : List ℕ) (val : Val) → Shows b v → Shows (set_named n name val b) w
    → Goes (set_named n name val) v w → KeepsNames v w
    → pins_in w.rows ≡ pins_in v.rows → Stays v w
stays-set b v w n name val s t goes names pins =
    record {
      alike = record {
        names = names;
        paths = set-reads (λ c. c.kept_path) (λ r. r.kept_path) (λ m c. refl) (λ f i r. refl) b v w n name val s t;
        pins = pins;
      };
      spare = goes.spare;
      ids = set-reads (λ c. c.device_id) (λ r. r.device_id) (λ m c. refl) (λ f i r. refl) b v w n name val s t;
      own = there-own v w goes.bodies goes.sides (set-reads (λ c. c.kind) (λ r. r.kind) (λ m c. refl) (λ f i r. refl) b v w n name val s t);
      book = goes.book;
    }

pub stays-linked : (b : board.Board) (v w : Objects) (n : ℕ) (name : List ℕ) (to : ℕ) → Shows b v → Shows (link_named n name to b) w
    → Goes (link_named n name to) v w → KeepsNames v w
    → pins_in w.rows ≡ pins_in v.rows → Stays v w
stays-linked b v w n name to s t goes names pins =
    record {
      alike = record {
        names = names;
        paths = link-reads (λ c. c.kept_path) (λ r. r.kept_path) (λ m c. refl) (λ f i r. refl) b v w n name to s t;
        pins = pins;
      };
      spare = goes.spare;
      ids = link-reads (λ c. c.device_id) (λ r. r.device_id) (λ m c. refl) (λ f i r. refl) b v w n name to s t;
      own = there-own v w goes.bodies goes.sides (link-reads (λ c. c.kind) (λ r. r.kind) (λ m c. refl) (λ f i r. refl) b v w n name to s t);
      book = goes.book;
    }

-- a slot of a name is changed
pub stays-named : (v w : Objects) (n : ℕ) (name : List ℕ) (change : Slot → Slot) → w ≡ changed_named n name change v → Stays v w
stays-named v w n name change is = go (index_on v n name) refl
  where
    go : (o : Option ℕ) → index_on v n name ≡ o → Stays v w
    go None e = stays-same v w (is ∙ rw (changed_named, e) refl)
    go (Some i) e = stays-edit v w n (with_slot_changed change i) (λ c. refl) (is ∙ rw (changed_named, e) refl)

-- pins
pub pinned-same : (v w : Objects) → IsHeap v → IsHeap w → pins_in w.rows ≡ pins_in v.rows → (n : ℕ) → 0 < pins_of v n → 0 < pins_of w n
pinned-same v w good fine same n some =
    go (pins_of w n)
    (sym (shows-pinned (tree w) (with_log empty_log w) (tree-shows w) (heap-with_log w empty_log fine) n)
    ∙ ap (list_any (nat_eq n)) same
    ∙ shows-pinned (tree v) (with_log empty_log v) (tree-shows v) (heap-with_log v empty_log good) n)
  where
    was : (k : ℕ) → 0 < k → not (eqb k 0) ≡ true
    was zero h = absurd (omega (arith, h))
    was (suc k) h = let e : eqb (suc k) 0 ≡ false = grind arith in ap not e

    go : (k : ℕ) → not (eqb k 0) ≡ not (eqb (pins_of v n) 0) → 0 < k
    go zero e = absurd (let clash : false ≡ true = e ∙ was (pins_of v n) some in cc)
    go (suc k) e = omega arith

pub stays-own : (v w : Objects) (n : ℕ) (plan : List InitialValue) → w ≡ with_edit n (with_own plan) v → Stays v w
stays-own v w n plan is = stays-edit v w n (with_own plan) (λ c. refl) is

-- the system's clock is the source where no bridge has one
pub source-none : (b : board.Board) (v : Objects) → Shows b v → (bus : ℕ) → option_and_then (clock_of b) (bridge_of b bus) ≡ None → (r : Option Key)
    → IfNone r (content_of v SYSTEM_CLOCK_BIRTH ≡ None) → IfNone r (board.kind_of b (source_for b bus) ≡ None)
source-none b v s bus none None missing =
    ap (λ (o : Option ℕ). board.kind_of b (unwrap_or o SYSTEM_CLOCK_BIRTH)) none ∙ shows-kind b v s SYSTEM_CLOCK_BIRTH
    ∙ ap (option_map (λ (c : Content). c.kind)) missing
source-none b v s bus none (Some key) missing = tt
