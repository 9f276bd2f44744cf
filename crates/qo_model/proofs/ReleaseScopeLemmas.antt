-- What a release leaves as it was.
use Rattle.std.proofs.Common.{nat_eq, ◌≡◌, refl, ap, ap₂, sym, ◌∙◌, ℕ, Bool, true, false, cond, not, ◌&&◌, ◌==◌, eqb, List, [], ◌∷◌, ◌++◌, filter, Option, Some, None, option_map, option_and_then, option_to_list, append_assoc, append-nil}
use Rattle.qo_model.proofs.Common.{list_any, option_map_or, Slot, slot_at, Board, Record, record_of, is_live, DeviceEvent, among, births, after, let_go, unpin, without_pin, edited, with_dropped, drop_slot, forgotten, finish, finalize, final_notes, deleted_event, LeavesLaw, KeepsRelease, without_slots, Leaves}
use Rattle.qo_model.specs.declared.notes.Note.{Note}
use Rattle.std.proofs.lemmas.Bool.{eq-eqb}
use Rattle.std.proofs.Math.Bool.{or-true}
use Rattle.qo_model.specs.Board.{referent}
use Rattle.qo_model.proofs.ReleaseInductionLemmas.{release_keeps, after_keeps}
use Rattle.qo_model.proofs.StepLemmas.{live-among, drop-record, drop-live, finish-record, finish-live, drop-births, finish-births}

-- filters
filter-same : (p : ℕ → Bool) (xs : List ℕ) → ((x : ℕ) → among xs x ≡ true → p x ≡ true) → filter p xs ≡ xs
filter-same p [] h = refl
filter-same p (x ∷ xs) h =
    let here : p x ≡ true = h x (rw (eq-eqb x x refl) refl) in
    let rest : filter p xs ≡ xs = filter-same p xs (λ y e. h y (rw e (or-true (eqb y x)))) in
    rw here (ap (λ (ys : List ℕ). x ∷ ys) rest)

filter-ext : (p q : ℕ → Bool) → ((x : ℕ) → p x ≡ q x) → (xs : List ℕ) → filter p xs ≡ filter q xs
filter-ext p q h [] = refl
filter-ext p q h (x ∷ xs) = ap₂ (λ (t : Bool) (ys : List ℕ). cond {A = List ℕ} t (x ∷ ys) ys) (h x) (filter-ext p q h xs)

filter-twice : (p q : ℕ → Bool) (xs : List ℕ) → filter p (filter q xs) ≡ filter (λ (x : ℕ). p x && q x) xs
filter-twice p q [] = refl
filter-twice p q (x ∷ xs) = go (p x) refl (q x) refl (filter-twice p q xs)
  where
    go : (t : Bool) → p x ≡ t → (u : Bool) → q x ≡ u → filter p (filter q xs) ≡ filter (λ (y : ℕ). p y && q y) xs
        → filter p (filter q (x ∷ xs)) ≡ filter (λ (y : ℕ). p y && q y) (x ∷ xs)
    go true e true d rest = rw (e, d) (rw e (ap (λ (ys : List ℕ). x ∷ ys) rest))
    go true e false d rest = rw (e, d) rest
    go false e true d rest = rw (e, d) (rw e rest)
    go false e false d rest = rw (e, d) rest

-- an edit of slots, as one sees records without them
without-edited : (n : ℕ) (i : ℕ) (o : Option Record) → option_map without_slots (option_map (edited n (with_dropped i)) o) ≡ option_map without_slots o
without-edited n i None = refl
without-edited n i (Some r) = go (r.birth == n) refl
  where
    go : (t : Bool) → (r.birth == n) ≡ t → Some (without_slots (edited n (with_dropped i) r)) ≡ Some (without_slots r)
    go true p = rw (edited, p) refl
    go false p = rw (edited, p) refl

without-forgotten : (n : ℕ) (o : Option Record) → option_map without_slots (option_map (forgotten n) o) ≡ option_map without_slots o
without-forgotten n None = refl
without-forgotten n (Some r) = refl

leaves-none : (b : Board) → Leaves b b
leaves-none b =
    record {
      born = refl;
      anonymous = refl;
      now = refl;
      running = refl;
      holds = refl;
      pending = refl;
      notices = refl;
      rings = refl;
      pins = refl;
      births_go = sym (filter-same (is_live b) (births b) (λ x e. live-among b x ∙ e));
      same = λ n e. refl;
      notes_gain = ([], sym (append-nil b.notes));
      events_gain = ([], sym (append-nil b.events));
    }

-- other objects, notes and events, where they are gained and lost so
leaves-other : (b c : Board) (records : List Record) (notes : List Note) (events : List DeviceEvent)
    → births (record c { records = records }) ≡ filter (is_live (record c { records = records })) (births b)
    → ((n : ℕ) → is_live (record c { records = records }) n ≡ true
    → option_map without_slots (record_of (record c { records = records }) n) ≡ option_map without_slots (record_of b n))
    → (more : List Note) × (notes ≡ b.notes ++ more) → (more : List DeviceEvent) × (events ≡ b.events ++ more) → Leaves b c
    → Leaves b (record c { records = records; notes = notes; events = events })
leaves-other b c records notes events go same noted told h =
    record {
      born = h.born;
      anonymous = h.anonymous;
      now = h.now;
      running = h.running;
      holds = h.holds;
      pending = h.pending;
      notices = h.notices;
      rings = h.rings;
      pins = h.pins;
      births_go = go;
      same = same;
      notes_gain = noted;
      events_gain = told;
    }

leaves-drop : (b c : Board) (n i : ℕ) → Leaves b c → Leaves b (drop_slot c n i)
unfolding drop_slot
leaves-drop b c n i h =
    leaves-other b c (drop_slot c n i).records c.notes c.events
    (drop-births c n i ∙ h.births_go ∙ filter-ext (is_live c) (is_live (drop_slot c n i)) (λ x. sym (drop-live c n i x)) (births b))
    (λ x e. ap (option_map without_slots) (drop-record c n i x) ∙ without-edited n i (record_of c x) ∙ h.same x (sym (drop-live c n i x) ∙ e))
    h.notes_gain h.events_gain h

leaves-finish : (b c : Board) (n : ℕ) → Leaves b c → Leaves b (finish c n)
unfolding finish
leaves-finish b c n h =
    leaves-other b c (finish c n).records (finish c n).notes (finish c n).events
    (finish-births c n
    ∙ ap (filter (λ (x : ℕ). not (x == n))) h.births_go
    ∙ filter-twice (λ (x : ℕ). not (x == n)) (is_live c) (births b)
    ∙ filter-ext (λ (x : ℕ). not (x == n) && is_live c x) (is_live (finish c n)) (λ x. sym (finish-live c n x)) (births b))
    (λ x e. same x (x == n) refl e)
    (gained c.notes b.notes (option_map_or final_notes (record_of c n) []) h.notes_gain)
    (gained c.events b.events (option_to_list (option_and_then deleted_event (record_of c n))) h.events_gain) h
  where
    gained : {A : Type 0} (xs ys more : List A) → (zs : List A) × (xs ≡ ys ++ zs) → (zs : List A) × (xs ++ more ≡ ys ++ zs)
    gained xs ys more p = (p.0 ++ more, ap (λ us. us ++ more) p.1 ∙ append_assoc ys p.0 more)

    same : (x : ℕ) (t : Bool) → (x == n) ≡ t → is_live (finish c n) x ≡ true
        → option_map without_slots (record_of (finish c n) x) ≡ option_map without_slots (record_of b x)
    same x true p e = absurd (let gone : is_live (finish c n) x ≡ false = rw p at (finish-live c n x) in let clash : true ≡ false = sym e ∙ gone in cc)
    same x false p e =
        let there : is_live c x ≡ true = sym (rw p at (finish-live c n x)) ∙ e in
        ap (option_map without_slots) (finish-record c n x p) ∙ without-forgotten n (record_of c x) ∙ h.same x there

-- each turn of a release leaves the same
leaves-keeps : (b : Board) → KeepsRelease (λ (work : List (ℕ × ℕ)) (c : Board). Leaves b c)
leaves-keeps b =
    record {
      ended = λ c m j work h e. leaves-finish b c m h;
      freed = λ c m j work s k h e q free. leaves-drop b c m j h;
      kept = λ c m j work s h e held_on. leaves-drop b c m j h;
    }

-- what a release leaves
pub release_leaves : (b : Board) (n : ℕ) → Leaves b (finalize b n)
release_leaves b n = release_keeps (λ (work : List (ℕ × ℕ)) (c : Board). Leaves b c) (leaves-keeps b) b n [] (leaves-none b)

pub after-leaves : (b c : Board) (o : Option ℕ) → Leaves b c → Leaves b (after finalize c o)
after-leaves b c o h = after_keeps (λ (work : List (ℕ × ℕ)) (d : Board). Leaves b d) (leaves-keeps b) c o [] (λ m e free. h) (λ held_on. h)

-- what a slot leaves that is let go with all that follows
pub let_go-leaves : (b : Board) (owner i : ℕ) → Leaves b (let_go b owner i)
unfolding let_go
let_go-leaves b owner i = go (slot_at b owner i) refl
  where
    go : (o : Option Slot) → slot_at b owner i ≡ o → Leaves b (let_go b owner i)
    go None p = rw (let_go, p) (leaves-none b)
    go (Some s) p = rw (let_go, p) (after-leaves b (drop_slot b owner i) (referent s) (leaves-drop b b owner i (leaves-none b)))

-- and the end of a pin, but for the pins
pub unpin-leaves : (b : Board) (n : ℕ) → Leaves (record b { pins = (unpin b n).pins }) (unpin b n)
unfolding unpin
unpin-leaves b n = go (list_any (nat_eq n) b.pins) refl
  where
    go : (t : Bool) → list_any (nat_eq n) b.pins ≡ t → Leaves (record b { pins = (unpin b n).pins }) (unpin b n)
    go false p = rw (unpin, p) (leaves-none b)
    go true p =
        let h : Leaves (without_pin b n) (after finalize (without_pin b n) (Some n)) =
        after-leaves (without_pin b n) (without_pin b n) (Some n) (leaves-none (without_pin b n)) in
        rw (unpin, p) (rw h.pins h)

pub leaves_lem : LeavesLaw
leaves_lem = record { finalized = release_leaves; slot_let_go = let_go-leaves; unpinned = unpin-leaves }
