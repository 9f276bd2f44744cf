-- A slot of a name changed on the heap is changed on the boards that it shows.
use Rattle.std.proofs.Common.{◌≡◌, refl, ap, sym, ◌∙◌, ℕ, zero, suc, Bool, true, false, cond, List, [], ◌∷◌, slice_get, Option, Some, None, option_map, codes}
use Rattle.std.specs.Option.{option_map_or}
use Rattle.std.proofs.lemmas.Option.{same_Some}
use Rattle.qo_values.specs.Kinds.{type_name}
use Rattle.qo_values.specs.declared.properties.Val.{Val}
use Rattle.qo_values.specs.declared.properties.Val.TheVariants as val
use Rattle.qo_slots.specs.declared.keys.Key.{Key}
use Rattle.qo_heap.specs.Rows.{IsLive}
use Rattle.qo_model.specs.Board as board
use Rattle.qo_model.specs.Changes as changes
use Rattle.qo_model.specs.Objects.{index_from}
use Rattle.qo_model.specs.Plug.{fitted, link_named}
use Rattle.qo_model.specs.Release as release
use Rattle.qo_model.specs.Unplug.{disconnected, is_named, set_named, unseen, unseen_named}
use Rattle.qo_object.specs.declared.slots.Slot.{Slot}
use Rattle.qo_object.specs.declared.slots.Slot.TheVariants.{Plain, Child, Link, Alias}
use Rattle.qo_object.specs.Content.{Content, dropped_at, empty_link_at, pointed_at}
use Rattle.qo_object.specs.BoardObject.{shown, shown_slot}
use Rattle.qo_object.specs.Slots.{Named, changed_at, is_empty_link, let_go_at, pointed, with_val}
use Rattle.qo_heap.specs.Board.{Shows}
use Rattle.qo_heap.specs.Objects.{IsHeap, Objects, content_of, slots_of, with_edit}
use Rattle.qo_heap.proofs.HeapLemmas.{edit-is, edit-same, live-edit}
use Rattle.qo_heap.proofs.BoardChanges.{changed-shown, shows-set}
use Rattle.qo_heap.proofs.BoardEdits.{shows-edit}
use Rattle.qo_heap.proofs.BoardReads.{shows-of, shows-slots}
use Rattle.qo_heap.proofs.SlotPlaces.{named-place}
use Rattle.qo_clocks.specs.Links.{accepts, changed_named, fitted_on, is_of_on, is_weak, index_on, unseen_on, with_slot_changed}

-- the place of a slot of a name
place-on : (b : board.Board) (v : Objects) → Shows b v → (n : ℕ) (name : List ℕ) → index_from (is_named name) 0 (board.slots_at b n) ≡ index_on v n name
place-on b v s n name = ap (index_from (is_named name) 0) (shows-slots b v s n) ∙ named-place name (slots_of v n)

-- a slot of a name changed

pub shows-named : (n : ℕ) (name : List ℕ) (f : Slot → Slot) (b : board.Board) (v : Objects) → Shows b v → (h : ℕ → board.Board)
    → ((i : ℕ) → Shows (h i) (with_edit n (with_slot_changed f i) v))
    → Shows (elim (index_from (is_named name) 0 (board.slots_at b n)) [ None ↦ b | Some i ↦ h i ]) (changed_named n name f v)
shows-named n name f b v s h each = rw (place-on b v s n name) (go (index_on v n name))
  where
    go : (o : Option ℕ) → Shows (elim o [ None ↦ b | Some i ↦ h i ]) (elim o [ None ↦ v | Some i ↦ with_edit n (with_slot_changed f i) v ])
    go None = s
    go (Some i) = each i

shows-changed : (f : Slot → Slot) (g : board.Slot → board.Slot) → ((s : Slot) → shown_slot (f s) ≡ g (shown_slot s)) → (b : board.Board) (v : Objects)
    → Shows b v → (n i : ℕ) → Shows (release.edit n (changes.with_changed g i) b) (with_edit n (with_slot_changed f i) v)
shows-changed f g same b v s n i =
    shows-edit n (with_slot_changed f i) b v s (changes.with_changed g i)
    (λ m c. ap (λ (slots : List (List ℕ × board.Slot)). record (shown m c) { slots = slots }) (changed-shown f g same i c.slots)) (λ c. refl)

-- a link to a source

fitted-shown : (b : board.Board) (v : Objects) → Shows b v → (key : Key) (x : Slot) → shown_slot (fitted_on v key x) ≡ fitted b key.birth (shown_slot x)
fitted-shown b v s key (Plain p) = refl
fitted-shown b v s key (Child k) = refl
fitted-shown b v s key (Link ty true None) = rw (shows-of b v s (type_name ty) key.birth) (go (is_of_on v (type_name ty) key.birth))
  where
    go : (t : Bool) → shown_slot (cond t (Link ty true (Some key)) (Link ty true None)) ≡ board.strong ty (cond t (Some key.birth) None)
    go true = refl
    go false = refl
fitted-shown b v s key (Link ty false None) = rw (shows-of b v s (type_name ty) key.birth) (go (is_of_on v (type_name ty) key.birth))
  where
    go : (t : Bool) → shown_slot (cond t (Link ty false (Some key)) (Link ty false None)) ≡ board.weak ty (cond t (Some key.birth) None)
    go true = refl
    go false = refl
fitted-shown b v s key (Link ty true (Some k)) = refl
fitted-shown b v s key (Link ty false (Some k)) = refl
fitted-shown b v s key (Alias k name) = refl

pub shows-connected : (b : board.Board) (v : Objects) → Shows b v → (n : ℕ) (name : List ℕ) (key : Key)
    → Shows (link_named n name key.birth b) (changed_named n name (fitted_on v key) v)
shows-connected b v s n name key =
    shows-named n name (fitted_on v key) b v s (λ (i : ℕ). release.edit n (changes.with_changed (fitted b key.birth) i) b)
    (shows-changed (fitted_on v key) (fitted b key.birth) (fitted-shown b v s key) b v s n)

-- a link emptied, and a number set

unseen-shown : (x : Slot) → shown_slot (unseen_on x) ≡ unseen (shown_slot x)
unseen-shown (Plain p) = refl
unseen-shown (Child k) = refl
unseen-shown (Link ty true target) = refl
unseen-shown (Link ty false target) = refl
unseen-shown (Alias k name) = refl

pub shows-set_named : (b : board.Board) (v : Objects) → Shows b v → (n : ℕ) (name : List ℕ) (value : Val)
    → Shows (set_named n name value b) (changed_named n name (with_val value) v)
shows-set_named b v s n name value =
    shows-named n name (with_val value) b v s (λ (i : ℕ). changes.set n i value b) (λ (i : ℕ). shows-set b v s n i value)

pub shows-disconnected : (b : board.Board) (v : Objects) → Shows b v → (n : ℕ)
    → Shows (disconnected (Some n) b) (changed_named n (codes "period") (with_val (val.Uint 0)) (changed_named n (codes "source") unseen_on v))
shows-disconnected b v s n =
    let c : board.Board = unseen_named n (codes "source") b in
    let w : Objects = changed_named n (codes "source") unseen_on v in
    let unlinked : Shows c w =
    shows-named n (codes "source") unseen_on b v s (λ (i : ℕ). release.edit n (changes.with_changed unseen i) b)
    (shows-changed unseen_on unseen unseen-shown b v s n) in
    shows-set_named c w unlinked n (codes "period") (val.Uint 0)

pub live-changed : (n : ℕ) (name : List ℕ) (f : Slot → Slot) (v : Objects) (key : Key) → IsLive v.rows key → IsLive (changed_named n name f v).rows key
live-changed n name f v key live = go (index_on v n name)
  where
    go : (o : Option ℕ) → IsLive (elim o as (λ _. Objects) [ None ↦ v | Some i ↦ with_edit n (with_slot_changed f i) v ]).rows key
    go None = live
    go (Some i) = live-edit n (with_slot_changed f i) v.rows key live

-- edits that change an object alike

slot-alike : (f g : Slot → Slot) (i : ℕ) (slots : List Named) (x : Named) → slice_get slots i ≡ Some x → f x.1 ≡ g x.1
    → changed_at f i slots ≡ changed_at g i slots
slot-alike f g i [] x e alike = cc
slot-alike f g zero (s ∷ slots) x e alike =
    let same : s ≡ x = same_Some s x e in
    ap (λ (t : Slot). (s.0, t) ∷ slots) (ap (λ (y : Named). f y.1) same ∙ alike ∙ sym (ap (λ (y : Named). g y.1) same))
slot-alike f g (suc i) (s ∷ slots) x e alike = ap (λ (l : List Named). s ∷ l) (slot-alike f g i slots x e alike)

abbrev with_slots : List Named → Content → Content
with_slots slots c = record c { slots = slots }

-- of an object that has the slot
edit-alike : (v : Objects) → IsHeap v → (n i : ℕ) (x : Named) → slice_get (slots_of v n) i ≡ Some x → (f g : Content → Content)
    → ((c : Content) → slice_get c.slots i ≡ Some x → f c ≡ g c) → with_edit n f v ≡ with_edit n g v
edit-alike v good n i x e f g alike = go (content_of v n) refl e
  where
    go : (o : Option Content) → content_of v n ≡ o → slice_get (option_map_or (λ (c : Content). c.slots) o []) i ≡ Some x → with_edit n f v ≡ with_edit n g v
    go None p q = cc
    go (Some c) p q = sym (edit-is v good n f c (f c) p refl) ∙ edit-is v good n g c (f c) p (alike c q)

edit-slot : (v : Objects) → IsHeap v → (n i : ℕ) (x : Named) → slice_get (slots_of v n) i ≡ Some x → (f g : Slot → Slot) → f x.1 ≡ g x.1
    → with_edit n (with_slot_changed f i) v ≡ with_edit n (with_slot_changed g i) v
edit-slot v good n i x e f g alike =
    edit-alike v good n i x e (with_slot_changed f i) (with_slot_changed g i)
    (λ c q. ap (λ (slots : List Named). with_slots slots c) (slot-alike f g i c.slots x q alike))

pub changed-nothing : (f : Slot → Slot) → ((s : Slot) → f s ≡ s) → (i : ℕ) (slots : List Named) → changed_at f i slots ≡ slots
changed-nothing f same i [] = refl
changed-nothing f same zero (s ∷ slots) = ap (λ (x : Slot). (s.0, x) ∷ slots) (same s.1)
changed-nothing f same (suc i) (s ∷ slots) = ap (λ (l : List Named). s ∷ l) (changed-nothing f same i slots)

edit-keeps : (v : Objects) → IsHeap v → (n i : ℕ) (x : Named) → slice_get (slots_of v n) i ≡ Some x → (f : Slot → Slot) → f x.1 ≡ x.1
    → v ≡ with_edit n (with_slot_changed f i) v
edit-keeps v good n i x e f alike =
    sym
    (edit-alike v good n i x e (with_slot_changed f i) (λ (c : Content). c)
    (λ c q. ap (λ (slots : List Named). with_slots slots c)
    (slot-alike f (λ (s : Slot). s) i c.slots x q alike ∙ changed-nothing (λ (s : Slot). s) (λ s. refl) i c.slots))
    ∙ edit-same n v)

named-at : (n : ℕ) (name : List ℕ) (f : Slot → Slot) (v : Objects) (i : ℕ) → index_on v n name ≡ Some i
    → with_edit n (with_slot_changed f i) v ≡ changed_named n name f v
named-at n name f v i e = sym (ap (λ (o : Option ℕ). elim o as (λ _. Objects) [ None ↦ v | Some j ↦ with_edit n (with_slot_changed f j) v ]) e)

-- a link that accepts a target, and one that does not

pointed-fits : (v : Objects) (key : Key) (x : Slot) → accepts v key x ≡ true → pointed key x ≡ fitted_on v key x
pointed-fits v key (Plain p) e = cc
pointed-fits v key (Child k) e = cc
pointed-fits v key (Link ty strong None) e = rw e refl
pointed-fits v key (Link ty strong (Some k)) e = cc
pointed-fits v key (Alias k name) e = cc

refused-stays : (v : Objects) (key : Key) (x : Slot) → accepts v key x ≡ false → fitted_on v key x ≡ x
refused-stays v key (Plain p) e = refl
refused-stays v key (Child k) e = refl
refused-stays v key (Link ty strong None) e = rw e refl
refused-stays v key (Link ty strong (Some k)) e = refl
refused-stays v key (Alias k name) e = refl

pub connects : (v : Objects) → IsHeap v → (n : ℕ) (name : List ℕ) (key : Key) (i : ℕ) (x : Named) → index_on v n name ≡ Some i
    → slice_get (slots_of v n) i ≡ Some x → accepts v key x.1 ≡ true → with_edit n (pointed_at key i) v ≡ changed_named n name (fitted_on v key) v
connects v good n name key i x at e fits =
    edit-slot v good n i x e (pointed key) (fitted_on v key) (pointed-fits v key x.1 fits) ∙ named-at n name (fitted_on v key) v i at

pub connects-not : (v : Objects) → IsHeap v → (n : ℕ) (name : List ℕ) (key : Key) (i : ℕ) (x : Named) → index_on v n name ≡ Some i
    → slice_get (slots_of v n) i ≡ Some x → accepts v key x.1 ≡ false → v ≡ changed_named n name (fitted_on v key) v
connects-not v good n name key i x at e fits =
    edit-keeps v good n i x e (fitted_on v key) (refused-stays v key x.1 fits) ∙ named-at n name (fitted_on v key) v i at

accepts-empty : (v : Objects) (key : Key) (x : Slot) → accepts v key x ≡ true → is_empty_link x ≡ true
accepts-empty v key (Plain p) e = cc
accepts-empty v key (Child k) e = cc
accepts-empty v key (Link ty strong None) e = refl
accepts-empty v key (Link ty strong (Some k)) e = cc
accepts-empty v key (Alias k name) e = cc

pub empty-there : (v : Objects) (n : ℕ) (key : Key) (i : ℕ) (x : Named) → slice_get (slots_of v n) i ≡ Some x → accepts v key x.1 ≡ true
    → option_map (λ (c : Content). empty_link_at c i) (content_of v n) ≡ Some true
empty-there v n key i x e fits = go (content_of v n) e
  where
    go : (o : Option Content) → slice_get (option_map_or (λ (c : Content). c.slots) o []) i ≡ Some x
        → option_map (λ (c : Content). empty_link_at c i) o ≡ Some true
    go None q = cc
    go (Some c) q =
        ap (λ (y : Option Named). Some (option_map_or is_empty_link (option_map (λ (s : Named). s.1) y) false)) q
        ∙ ap (λ (t : Bool). Some t) (accepts-empty v key x.1 fits)

-- a weak link that is emptied, and any other slot

dropped-weak : (i : ℕ) (slots : List Named) (x : Named) → slice_get slots i ≡ Some x → is_weak x.1 ≡ true → let_go_at i slots ≡ changed_at unseen_on i slots
dropped-weak i [] x e weak = cc
dropped-weak (suc i) (s ∷ slots) x e weak = ap (λ (l : List Named). s ∷ l) (dropped-weak i slots x e weak)
dropped-weak zero ((name, Link ty false target) ∷ slots) x e weak = refl
dropped-weak zero ((name, Link ty true target) ∷ slots) x e weak =
    let same : is_weak x.1 ≡ false = sym (ap (λ (y : Named). is_weak y.1) (same_Some (name, Link ty true target) x e)) in cc
dropped-weak zero ((name, Plain p) ∷ slots) x e weak =
    let same : is_weak x.1 ≡ false = sym (ap (λ (y : Named). is_weak y.1) (same_Some (name, Plain p) x e)) in cc
dropped-weak zero ((name, Child k) ∷ slots) x e weak =
    let same : is_weak x.1 ≡ false = sym (ap (λ (y : Named). is_weak y.1) (same_Some (name, Child k) x e)) in cc
dropped-weak zero ((name, Alias k of) ∷ slots) x e weak =
    let same : is_weak x.1 ≡ false = sym (ap (λ (y : Named). is_weak y.1) (same_Some (name, Alias k of) x e)) in cc

unweak-stays : (x : Slot) → is_weak x ≡ false → unseen_on x ≡ x
unweak-stays (Plain p) e = refl
unweak-stays (Child k) e = refl
unweak-stays (Link ty true target) e = refl
unweak-stays (Link ty false target) e = cc
unweak-stays (Alias k name) e = refl

pub unlinks : (v : Objects) → IsHeap v → (n : ℕ) (name : List ℕ) (i : ℕ) (x : Named) → index_on v n name ≡ Some i
    → slice_get (slots_of v n) i ≡ Some x → is_weak x.1 ≡ true → with_edit n (dropped_at i) v ≡ changed_named n name unseen_on v
unlinks v good n name i x at e weak =
    edit-alike v good n i x e (dropped_at i) (with_slot_changed unseen_on i)
    (λ c q. ap (λ (slots : List Named). with_slots slots c) (dropped-weak i c.slots x q weak))
    ∙ named-at n name unseen_on v i at

pub unlinks-not : (v : Objects) → IsHeap v → (n : ℕ) (name : List ℕ) (i : ℕ) (x : Named) → index_on v n name ≡ Some i
    → slice_get (slots_of v n) i ≡ Some x → is_weak x.1 ≡ false → v ≡ changed_named n name unseen_on v
unlinks-not v good n name i x at e weak = edit-keeps v good n i x e unseen_on (unweak-stays x.1 weak) ∙ named-at n name unseen_on v i at
