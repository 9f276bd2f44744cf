-- What stays seen: an object that is still there goes by what it went by, where that is still there too.
use Rattle.std.proofs.Common.{◌≡◌, refl, ap, sym, subst, ◌∙◌, ℕ, zero, suc, ◌+◌, Bool, true, false, not, ◌||◌, ◌==◌, List, [], ◌∷◌, ◌++◌, length, map, remove, slice_get, Option, Some, None, is_some, option_map, codes, nat_eq}
use Rattle.qo_model.proofs.Common.{list_any, option_or, bytes_eq, fresh_registers, ANONYMOUS_BIRTH, OBJECTS_BIRTH, PERIPHERAL_BIRTH, Code, TypeId, Val, Board, Record, Slot, plain, child, strong, weak, alias, is_live, record_of, slots_at, slot_at, changed_at, cut, point, pointed, set, with_added, with_changed, with_cut, with_val, among, bus_of, Change, added, after_write, changed, deleted, severed, wrote, Given, added_as, given_slots, is_object_named, object_add, object_del, index_from, sever, severed_from, with_object, pointed_at, relinked, write, after, drop_slot, edit, edited, emptied, finalize, finish, forgotten, forgotten_in, let_go, pin, unpin, with_dropped, without_hold, without_pin, KeepsRelease, is_bus_child, is_child_slot, is_named, left_bus, left_parent, let_go_where, names_kid, take_slot, take_where, unrealize, detach}
use Rattle.std.proofs.Math.Bool.{and-false}
use Rattle.std.proofs.lemmas.Bool.{and_parts, eqb-true, eq-eqb, or_right, not-true}
use Rattle.std.proofs.lemmas.Option.{same_Some}
use Rattle.std.proofs.lemmas.Slice.Eq.{bytes_eq-Decides}
use Rattle.qo_model.specs.Board.{referent}
use Rattle.qo_model.proofs.ComesToLemmas.{addition-comes, deletion-comes, sever-comes, severed-comes}
use Rattle.qo_model.proofs.FirstSlotLemmas.{slots_in, Found, found-at}
use Rattle.qo_model.proofs.ReleaseInductionLemmas.{after_keeps}
use Rattle.qo_model.proofs.AttemptLemmas.{drop-other}
use Rattle.qo_model.proofs.StepLemmas.{finish-gone, finish-record, found_at, found-edited, is_some-map, drop-live}
use Rattle.qo_sound.proofs.UnplugLemmas.{detached-keeps}
use Rattle.qo_sound.proofs.SearchLemmas.{found-append}
use Rattle.qo_sound.proofs.ReadLemmas.{dropped-at, edit-slots}
use Rattle.qo_sound.proofs.SlotLemmas.{each_slot, kept-slot}
use Rattle.qo_model.proofs.WrittenLemmas.{write-comes}
use Rattle.qo_sound.proofs.TestLemmas.{decide, clash, clash-back}
use Rattle.qo_sound_clocks.proofs.CommandLemmas.{may-set, set-other}
use Rattle.qo_sound_clocks.proofs.SlotLemmas.{or-less, OtherName, sees, sees_it, Slots}

-- slots that see no less

abbrev pub SeesOn : Slots → Slots → Type 0
SeesOn xs ys = (s : ℕ) → sees s xs ≡ true → sees s ys ≡ true

or-skip : (t u : Bool) → t ≡ false → (t || u) ≡ true → u ≡ true
or-skip true u none e = clash none
or-skip false u none e = e

-- whether a slot is no source
abbrev pub harmless : List ℕ × Slot → Bool
harmless (name, weak t target) = not (bytes_eq name (codes "source"))
harmless s = true

sees-none : (s : ℕ) (x : List ℕ × Slot) → harmless x ≡ true → sees_it s x ≡ false
sees-none s (name, plain v) e = and-false (bytes_eq name (codes "source"))
sees-none s (name, child m) e = and-false (bytes_eq name (codes "source"))
sees-none s (name, strong t target) e = and-false (bytes_eq name (codes "source"))
sees-none s (name, alias m property) e = and-false (bytes_eq name (codes "source"))
sees-none s (name, weak t target) e = rw (not-true (bytes_eq name (codes "source")) e) refl

-- a slot that is let go

sees-dropped : (i : ℕ) (xs : Slots) → ((x : List ℕ × Slot) → slice_get xs i ≡ Some x → harmless x ≡ true) → SeesOn xs (without_hold i xs)
sees-dropped i [] fine s e = e
sees-dropped (suc i) (x ∷ xs) fine s e =
    or-less (sees_it s x) (sees s xs) (sees_it s x) (sees s (without_hold i xs)) (λ k. k) (sees-dropped i xs fine s) e
sees-dropped zero ((own, plain v) ∷ xs) fine s e = e
sees-dropped zero ((own, child m) ∷ xs) fine s e = or-skip (sees_it s (own, child m)) (sees s xs) (sees-none s (own, child m) refl) e
sees-dropped zero ((own, strong t target) ∷ xs) fine s e = e
sees-dropped zero ((own, weak t target) ∷ xs) fine s e =
    or_right (sees_it s (own, weak t None)) (sees s xs)
    (or-skip (sees_it s (own, weak t target)) (sees s xs) (sees-none s (own, weak t target) (fine (own, weak t target) refl)) e)
sees-dropped zero ((own, alias m property) ∷ xs) fine s e = e

-- and removed
sees-removed : (i : ℕ) (xs : Slots) → ((x : List ℕ × Slot) → slice_get xs i ≡ Some x → harmless x ≡ true) → SeesOn xs (remove xs i)
sees-removed zero [] fine s e = e
sees-removed (suc i) [] fine s e = e
sees-removed zero (x ∷ xs) fine s e = or-skip (sees_it s x) (sees s xs) (sees-none s x (fine x refl)) e
sees-removed (suc i) (x ∷ xs) fine s e =
    or-less (sees_it s x) (sees s xs) (sees_it s x) (sees s (remove xs i)) (λ k. k) (sees-removed i xs fine s) e

-- a slot that is changed
pub sees-changed : (g : Slot → Slot) (i : ℕ) (xs : Slots)
    → ((x : List ℕ × Slot) → slice_get xs i ≡ Some x → (s : ℕ) → sees_it s x ≡ true → sees_it s (x.0, g x.1) ≡ true) → SeesOn xs (changed_at g i xs)
sees-changed g i [] fine s e = e
sees-changed g zero (x ∷ xs) fine s e = or-less (sees_it s x) (sees s xs) (sees_it s (x.0, g x.1)) (sees s xs) (fine x refl s) (λ k. k) e
sees-changed g (suc i) (x ∷ xs) fine s e =
    or-less (sees_it s x) (sees s xs) (sees_it s x) (sees s (changed_at g i xs)) (λ k. k) (sees-changed g i xs fine s) e

pub sees-val : (v : Val) (x : List ℕ × Slot) (s : ℕ) → sees_it s x ≡ true → sees_it s (x.0, with_val v x.1) ≡ true
sees-val v (name, plain w) s e = e
sees-val v (name, child m) s e = e
sees-val v (name, strong t target) s e = e
sees-val v (name, weak t target) s e = e
sees-val v (name, alias m property) s e = e

-- a slot more
pub sees-added : (name : List ℕ) (t : Slot) (xs : Slots) → SeesOn xs (xs ++ (name, t) ∷ [])
sees-added name t [] s e = clash-back e
sees-added name t (x ∷ xs) s e =
    or-less (sees_it s x) (sees s xs) (sees_it s x) (sees s (xs ++ (name, t) ∷ [])) (λ k. k) (sees-added name t xs s) e

-- weak links to an object that goes are emptied
sees-forgotten_it : (n s : ℕ) → (s == n) ≡ false → (x : List ℕ × Slot) → sees_it s x ≡ true → sees_it s (x.0, forgotten_in n x.1) ≡ true
sees-forgotten_it n s apart (name, plain v) e = e
sees-forgotten_it n s apart (name, child m) e = e
sees-forgotten_it n s apart (name, strong t target) e = e
sees-forgotten_it n s apart (name, alias m property) e = e
sees-forgotten_it n s apart (name, weak t None) e = e
sees-forgotten_it n s apart (name, weak t (Some m)) e = decide (m == n) (λ p. gone p) (λ p. rw p e)
  where
    gone : (m == n) ≡ true → sees_it s (name, forgotten_in n (weak t (Some m))) ≡ true
    gone p =
        let both : (bytes_eq name (codes "source") ≡ true) × ((m == s) ≡ true) = and_parts (bytes_eq name (codes "source")) (m == s) e in
        let is : s ≡ n = sym (eqb-true m s both.1) ∙ eqb-true m n p in
        clash (sym (eq-eqb s n is) ∙ apart)

sees-forgotten : (n s : ℕ) → (s == n) ≡ false → (xs : Slots) → sees s xs ≡ true → sees s (each_slot (forgotten_in n) xs) ≡ true
sees-forgotten n s apart [] e = e
sees-forgotten n s apart (x ∷ xs) e =
    or-less (sees_it s x) (sees s xs) (sees_it s (x.0, forgotten_in n x.1)) (sees s (each_slot (forgotten_in n) xs)) (sees-forgotten_it n s apart x)
    (sees-forgotten n s apart xs) e

-- boards

pub record KeepsClockLinks (b c : Board) : Type 0 where
  pub live : (x : ℕ) → is_live c x ≡ true → is_live b x ≡ true
  pub seen : (k s : ℕ) → is_live c k ≡ true → is_live c s ≡ true → sees s (slots_at b k) ≡ true → sees s (slots_at c k) ≡ true

pub sight-none : (b : Board) → KeepsClockLinks b b
sight-none b = record { live = λ x e. e; seen = λ k s i j e. e }

pub sight-then : (b c d : Board) → KeepsClockLinks b c → KeepsClockLinks c d → KeepsClockLinks b d
sight-then b c d h k =
    record {
      live = λ x e. h.live x (k.live x e);
      seen = λ m s i j e. k.seen m s i j (h.seen m s (k.live m i) (k.live s j) e);
    }

-- an edit of an object
pub edit-seen : (n : ℕ) (change : Record → Record) → ((r : Record) → (change r).birth ≡ r.birth) → (c : Board)
    → ((r : Record) → record_of c n ≡ Some r → SeesOn r.slots (change r).slots) → (k s : ℕ) → sees s (slots_at c k) ≡ true
    → sees s (slots_at (edit n change c) k) ≡ true
edit-seen n change same_birth c on k s e = edit-slots SeesOn (λ xs m q. q) n change same_birth c on k s e

pub edit-sight : (n : ℕ) (change : Record → Record) → ((r : Record) → (change r).birth ≡ r.birth) → (c : Board)
    → ((r : Record) → record_of c n ≡ Some r → SeesOn r.slots (change r).slots) → KeepsClockLinks c (edit n change c)
edit-sight n change same_birth c on =
    record {
      live = λ x e. sym (ap is_some (found-edited n change same_birth x c.records) ∙ is_some-map (edited n change) (record_of c x)) ∙ e;
      seen = λ k s i j e. edit-seen n change same_birth c on k s e;
    }

-- a release: but for the objects that are being finalized
record SightBut (b : Board) (work : List (ℕ × ℕ)) (c : Board) : Type 0 where
  live : (x : ℕ) → is_live c x ≡ true → is_live b x ≡ true
  seen : (k s : ℕ) → among (map (λ (w : ℕ × ℕ). w.0) work) k ≡ false → is_live c k ≡ true → is_live c s ≡ true → sees s (slots_at b k) ≡ true
      → sees s (slots_at c k) ≡ true

head-apart : (k n : ℕ) (ns : List ℕ) → among (n ∷ ns) k ≡ false → ((k == n) ≡ false) × (among ns k ≡ false)
head-apart k n ns e = go (k == n) refl
  where
    go : (t : Bool) → (k == n) ≡ t → ((k == n) ≡ false) × (among ns k ≡ false)
    go true p = clash (rw p at e)
    go false p = (p, rw p at e)

but-drop : (b : Board) (n i : ℕ) (work : List (ℕ × ℕ)) (c : Board) → SightBut b ((n, i) ∷ work) c → (j : ℕ) → SightBut b ((n, j) ∷ work) (drop_slot c n i)
but-drop b n i work c h j =
    record {
      live = λ x e. h.live x (sym (drop-live c n i x) ∙ e);
      seen = λ k s out there also e.
          let apart : (k == n) ≡ false = (head-apart k n (map (λ (w : ℕ × ℕ). w.0) work) out).0 in
          subst (λ (xs : Slots). sees s xs ≡ true) (sym (drop-other c n i k apart))
          (h.seen k s out (sym (drop-live c n i k) ∙ there) (sym (drop-live c n i s) ∙ also) e);
    }

but-more : (b : Board) (m : ℕ) (work : List (ℕ × ℕ)) (c : Board) → SightBut b work c → SightBut b ((m, 0) ∷ work) c
but-more b m work c h =
    record {
      live = h.live;
      seen = λ k s out there also e. h.seen k s (head-apart k m (map (λ (w : ℕ × ℕ). w.0) work) out).1 there also e;
    }

finish-live : (c : Board) (n x : ℕ) → is_live (finish c n) x ≡ true → (is_live c x ≡ true) × ((x == n) ≡ false)
finish-live c n x e = go (x == n) refl
  where
    go : (t : Bool) → (x == n) ≡ t → (is_live c x ≡ true) × ((x == n) ≡ false)
    go true p =
        let gone : record_of (finish c n) x ≡ None = ap (record_of (finish c n)) (eqb-true x n p) ∙ finish-gone c n in
        clash-back (sym (ap is_some gone) ∙ e)
    go false p = (sym (ap is_some (finish-record c n x p) ∙ is_some-map (forgotten n) (record_of c x)) ∙ e, p)

but-finish : (b : Board) (n i : ℕ) (work : List (ℕ × ℕ)) (c : Board) → SightBut b ((n, i) ∷ work) c → SightBut b work (finish c n)
but-finish b n i work c h =
    record {
      live = λ x e. h.live x (finish-live c n x e).0;
      seen = λ k s out there also e.
          let own : (is_live c k ≡ true) × ((k == n) ≡ false) = finish-live c n k there in
          let its : (is_live c s ≡ true) × ((s == n) ≡ false) = finish-live c n s also in
          let before : sees s (slots_at c k) ≡ true = h.seen k s (rw own.1 out) own.0 its.0 e in
          subst (λ (o : Option Record). sees s (slots_in o) ≡ true) (sym (finish-record c n k own.1)) (go s its.1 (record_of c k) before);
    }
  where
    go : (s : ℕ) → (s == n) ≡ false → (o : Option Record) → sees s (slots_in o) ≡ true → sees s (slots_in (option_map (forgotten n) o)) ≡ true
    go s apart None e = e
    go s apart (Some r) e = sees-forgotten n s apart r.slots e

release-sight : (b : Board) → KeepsRelease (λ (work : List (ℕ × ℕ)) (c : Board). SightBut b work c)
release-sight b =
    record {
      ended = λ c n i work h e. but-finish b n i work c h;
      freed = λ c n i work s m h e q free. but-more b m _ _ (but-drop b n i work c h _);
      kept = λ c n i work s h e held_on. but-drop b n i work c h _;
    }

pub after-sight : (o : Option ℕ) (c : Board) → KeepsClockLinks c (after finalize c o)
after-sight o c =
    let k : SightBut c [] (after finalize c o) =
    after_keeps (λ (work : List (ℕ × ℕ)) (d : Board). SightBut c work d) (release-sight c) c o [] (λ m e free. but-more c m [] c none) (λ held_on. none) in
    record { live = k.live; seen = λ m s i j e. k.seen m s refl i j e }
  where
    none : SightBut c [] c
    none = record { live = λ x e. e; seen = λ k s out i j e. e }

-- small steps
pub drop-sight : (c : Board) (n i : ℕ) → ((x : List ℕ × Slot) → slice_get (slots_at c n) i ≡ Some x → harmless x ≡ true) → KeepsClockLinks c (drop_slot c n i)
unfolding drop_slot
drop-sight c n i fine =
    edit-sight n (with_dropped i) (λ r. refl) c
    (λ r q. sees-dropped i r.slots (λ x e. fine x (ap (λ (o : Option Record). slice_get (slots_in o) i) q ∙ e)))

module _ (b : Board) where
  pub sight-after : (o : Option ℕ) (c : Board) → KeepsClockLinks b c → KeepsClockLinks b (after finalize c o)
  sight-after o c h = sight-then b c (after finalize c o) h (after-sight o c)

  pub sight-pin : (n : ℕ) (c : Board) → KeepsClockLinks b c → KeepsClockLinks b (pin c n)
  unfolding pin
  sight-pin n c h = record { live = h.live; seen = h.seen }

  pub sight-unpin : (n : ℕ) (c : Board) → KeepsClockLinks b c → KeepsClockLinks b (unpin c n)
  unfolding unpin
  sight-unpin n c h = go (list_any (nat_eq n) c.pins) refl
    where
      go : (u : Bool) → list_any (nat_eq n) c.pins ≡ u → KeepsClockLinks b (unpin c n)
      go true e = rw (unpin, e) (sight-after (Some n) (without_pin c n) (record { live = h.live; seen = h.seen }))
      go false e = rw (unpin, e) h

  pub sight-let_go : (n i : ℕ) (c : Board) → ((x : List ℕ × Slot) → slice_get (slots_at c n) i ≡ Some x → harmless x ≡ true) → KeepsClockLinks b c
      → KeepsClockLinks b (let_go c n i)
  unfolding let_go
  sight-let_go n i c fine h = go (slot_at c n i) refl
    where
      go : (o : Option Slot) → slot_at c n i ≡ o → KeepsClockLinks b (let_go c n i)
      go None e = rw (let_go, e) h
      go (Some s) e = rw (let_go, e) (sight-after (referent s) _ (sight-then b c (drop_slot c n i) h (drop-sight c n i fine)))

  -- taking out

  sight-where : (p : List ℕ × Slot → Bool) → ((x : List ℕ × Slot) → p x ≡ true → harmless x ≡ true) → (n : ℕ) (c : Board) → KeepsClockLinks b c
      → KeepsClockLinks b (let_go_where p n c)
  sight-where p fine n c h = go (index_from p 0 (slots_at c n)) refl
    where
      go : (o : Option ℕ) → index_from p 0 (slots_at c n) ≡ o → KeepsClockLinks b (let_go_where p n c)
      go None e = rw (let_go_where, e) h
      go (Some i) e =
          let f : Found p (slots_at c n) i = found-at p i (slots_at c n) e in
          rw (let_go_where, e)
          (sight-let_go n i c (λ x q. fine x (ap p (same_Some x f.entry (sym q ∙ f.at)) ∙ f.passes)) h)

  -- a link to a kid is let go and removed
  sight-taken : (n i : ℕ) (own : List ℕ) (t : TypeId) (target : Option ℕ) (c : Board) → slice_get (slots_at c n) i ≡ Some (own, strong t target)
      → KeepsClockLinks b c → KeepsClockLinks b (take_slot c n i)
  unfolding cut
  sight-taken n i own t target c at h =
      let there : slot_at c n i ≡ Some (strong t target) = ap (option_map (λ (s : List ℕ × Slot). s.1)) at in
      rw (take_slot, there)
      (sight-after target (edit n (with_cut i) d)
      (sight-then b d (edit n (with_cut i) d)
      (sight-then b c d h (drop-sight c n i (λ x q. ap harmless (same_Some x (own, strong t target) (sym q ∙ at)))))
      (edit-sight n (with_cut i) (λ r. refl) d cuts)))
    where
      d : Board
      d = drop_slot c n i

      cuts : (r : Record) → record_of d n ≡ Some r → SeesOn r.slots (remove r.slots i)
      cuts r e =
          sees-removed i r.slots
          (λ x q.
          let left : slice_get (without_hold i (slots_at c n)) i ≡ Some (own, strong t None) =
          kept-slot i (slots_at c n) own (strong t target) (strong t None) at refl in
          let same : without_hold i (slots_at c n) ≡ r.slots = dropped-at c n i (own, strong t target) at r e in
          ap harmless (same_Some x (own, strong t None) (sym q ∙ sym (ap (λ (xs : Slots). slice_get xs i) same) ∙ left)))

  sight-take : (d n : ℕ) (c : Board) → KeepsClockLinks b c → KeepsClockLinks b (take_where (names_kid d) n c)
  sight-take d n c h = go (index_from (names_kid d) 0 (slots_at c n)) refl
    where
      of : (i : ℕ) (x : List ℕ × Slot) → slice_get (slots_at c n) i ≡ Some x → names_kid d x ≡ true → KeepsClockLinks b (take_slot c n i)
      of i (own, plain v) at passes = clash-back passes
      of i (own, child m) at passes = clash-back passes
      of i (own, strong t target) at passes = sight-taken n i own t target c at h
      of i (own, weak t target) at passes = clash-back passes
      of i (own, alias m property) at passes = clash-back passes

      go : (o : Option ℕ) → index_from (names_kid d) 0 (slots_at c n) ≡ o → KeepsClockLinks b (take_where (names_kid d) n c)
      go None e = rw (take_where, e) h
      go (Some i) e =
          let f : Found (names_kid d) (slots_at c n) i = found-at (names_kid d) i (slots_at c n) e in
          rw (take_where, e) (of i f.entry f.at f.passes)

  child-fine : (d : ℕ) (x : List ℕ × Slot) → is_child_slot d x ≡ true → harmless x ≡ true
  child-fine d (own, plain v) e = refl
  child-fine d (own, child m) e = refl
  child-fine d (own, strong t target) e = refl
  child-fine d (own, weak t target) e = clash-back e
  child-fine d (own, alias m property) e = refl

  bus-fine : (m : ℕ) (x : List ℕ × Slot) → is_bus_child m x ≡ true → harmless x ≡ true
  bus-fine m (own, plain v) e = refl
  bus-fine m (own, child k) e = refl
  bus-fine m (own, strong t target) e = refl
  bus-fine m (own, weak t target) e = clash-back e
  bus-fine m (own, alias k property) e = refl

  named-fine : (name : List ℕ) → bytes_eq name (codes "source") ≡ false → (x : List ℕ × Slot) → is_named name x ≡ true → harmless x ≡ true
  named-fine name apart (own, plain v) e = refl
  named-fine name apart (own, child k) e = refl
  named-fine name apart (own, strong t target) e = refl
  named-fine name apart (own, weak t target) e =
      let other : bytes_eq own (codes "source") ≡ false =
      subst (λ (x : List ℕ). bytes_eq x (codes "source") ≡ false) (sym ((bytes_eq-Decides own name).0 e)) apart in
      rw other refl
  named-fine name apart (own, alias k property) e = refl

  sight-left_bus : (d : ℕ) (c : Board) → KeepsClockLinks b c → KeepsClockLinks b (left_bus d c)
  sight-left_bus d c h = go (bus_of c d) refl
    where
      go : (o : Option ℕ) → bus_of c d ≡ o → KeepsClockLinks b (left_bus d c)
      go None e = rw (left_bus, e) h
      go (Some m) e =
          rw (left_bus, e)
          (sight-where (is_named (codes "parent_bus")) (named-fine (codes "parent_bus") refl) d (take_where (names_kid d) m c) (sight-take d m c h))

  sight-left_parent : (d : ℕ) (c : Board) → KeepsClockLinks b c → KeepsClockLinks b (left_parent d c)
  sight-left_parent d c h =
      sight-where (is_child_slot d) (child-fine d) ANONYMOUS_BIRTH (let_go_where (is_child_slot d) PERIPHERAL_BIRTH c)
      (sight-where (is_child_slot d) (child-fine d) PERIPHERAL_BIRTH c h)

  -- a device that was unrealized while it was held
  pub sight-detached : (c : Board) (d : ℕ) → KeepsClockLinks b (unrealize (pin c d) d) → KeepsClockLinks b (detach c d)
  sight-detached c d h =
      detached-keeps (KeepsClockLinks b) (λ m. sight-where (is_bus_child m) (bus-fine m)) sight-left_bus sight-left_parent sight-pin sight-unpin c d h

-- the commands on objects

-- `qom-set`
set-sight : (b : Board) (n i : ℕ) (v : Val) → KeepsClockLinks b (set n i v b)
unfolding set
set-sight b n i v = edit-sight n (with_changed (with_val v) i) (λ r. refl) b (λ r q. sees-changed (with_val v) i r.slots (λ x e s k. sees-val v x s k))

other-fine : (x : List ℕ × Slot) → bytes_eq x.0 (codes "source") ≡ false → harmless x ≡ true
other-fine (own, plain v) e = refl
other-fine (own, child k) e = refl
other-fine (own, strong t target) e = refl
other-fine (own, weak t target) e = rw e refl
other-fine (own, alias k property) e = refl

module _ (b : Board) (n i : ℕ) (own : List ℕ) (s left : Slot)
    (at : slice_get (slots_at b n) i ≡ Some (own, s)) (stays : emptied s ≡ Some left) (other : bytes_eq own (codes "source") ≡ false) where
  dropped : KeepsClockLinks b (drop_slot b n i)
  dropped = drop-sight b n i (λ x q. other-fine x (ap (λ (y : List ℕ × Slot). bytes_eq y.0 (codes "source")) (same_Some x (own, s) (sym q ∙ at)) ∙ other))

  pointed-sight : (target : Option ℕ) → KeepsClockLinks b (pointed_at target n i (drop_slot b n i))
  unfolding point
  pointed-sight None = dropped
  pointed-sight (Some m) =
      sight-then b (drop_slot b n i) (edit n (with_changed (pointed m) i) (drop_slot b n i)) dropped
      (edit-sight n (with_changed (pointed m) i) (λ r. refl) (drop_slot b n i)
      (λ r e. sees-changed (pointed m) i r.slots
      (λ x q z k.
      let there : slice_get r.slots i ≡ Some (own, left) =
      sym (ap (λ (xs : Slots). slice_get xs i) (dropped-at b n i (own, s) at r e)) ∙ kept-slot i (slots_at b n) own s left at stays in
      let name : bytes_eq x.0 (codes "source") ≡ false =
      ap (λ (y : List ℕ × Slot). bytes_eq y.0 (codes "source")) (same_Some x (own, left) (sym q ∙ there)) ∙ other in
      clash-back (sym (sees-none z x (other-fine x name)) ∙ k))))

  relinked-sight : (target : Option ℕ) → KeepsClockLinks b (relinked b n i target)
  relinked-sight target =
      let there : slot_at b n i ≡ Some s = ap (option_map (λ (x : List ℕ × Slot). x.1)) at in
      rw (relinked, there) (sight-after b (referent s) (pointed_at target n i (drop_slot b n i)) (pointed-sight target))

write-sight : (b : Board) (n : ℕ) (name : List ℕ) (v : Val) → KeepsClockLinks b (after_write b (write b n name v))
write-sight b n name v = write-comes (KeepsClockLinks b) b (sight-none b) n name v (λ i t p kind e may.
    let other : OtherName name = set-other t name (may-set t name p e may) in
    record {
      value = λ old at type first is fits. set-sight b n i v;
      link = λ u s left link leaves at to holds is path target told. relinked-sight b n i name s left at leaves other.source target;
    })

-- `object-del`
object-fine : (id : List ℕ) (x : List ℕ × Slot) → is_object_named id x ≡ true → harmless x ≡ true
object-fine id (own, plain v) e = refl
object-fine id (own, child m) e = refl
object-fine id (own, strong t target) e = refl
object-fine id (own, weak t target) e = clash-back e
object-fine id (own, alias m property) e = refl

object_del-sight : (b : Board) (id : List ℕ) → KeepsClockLinks b (object_del b id).board
object_del-sight b id = deletion-comes (KeepsClockLinks b) b id (sight-none b) (λ i p.
    let f : Found (is_object_named id) (slots_at b OBJECTS_BIRTH) i = found-at (is_object_named id) i (slots_at b OBJECTS_BIRTH) p in
    sight-let_go b OBJECTS_BIRTH i b
    (λ x q. object-fine id x (ap (is_object_named id) (same_Some x f.entry (sym q ∙ f.at)) ∙ f.passes)) (sight-none b))

-- `x-sever`
strong-fine : (x : List ℕ × Slot) (t : TypeId) (target : Option ℕ) → x.1 ≡ strong t target → harmless x ≡ true
strong-fine (own, plain v) t target e = refl
strong-fine (own, child m) t target e = refl
strong-fine (own, strong to at) t target e = refl
strong-fine (own, weak to at) t target e = cc
strong-fine (own, alias m property) t target e = refl

severed-sight : (b : Board) (places i n : ℕ) (c : Board) → KeepsClockLinks b c → KeepsClockLinks b (severed_from places i n c)
severed-sight b places i n c h = severed-comes (KeepsClockLinks b) n (λ d j t target e k.
    sight-let_go b n j d
    (λ x q. strong-fine x t target (same_Some x.1 (strong t target) (sym (ap (option_map (λ (y : List ℕ × Slot). y.1)) q) ∙ e))) k) places i c h

sever-sight : (b : Board) (n : ℕ) → KeepsClockLinks b (sever b n).board
sever-sight b n =
    sever-comes (KeepsClockLinks b) b n (sight-none b) (λ there away.
    sight-unpin b n (severed_from (length (slots_at b n)) 0 n (pin b n))
    (severed-sight b (length (slots_at b n)) 0 n (pin b n) (sight-pin b n b (sight-none b))))

-- what was seen is seen where both are there
abbrev pub StillSeen : Board → Board → Type 0
StillSeen b c = (k s : ℕ) → is_live c k ≡ true → is_live c s ≡ true → sees s (slots_at b k) ≡ true → sees s (slots_at c k) ≡ true

-- `object-add`
with_object-seen : (b : Board) (t : TypeId) (id : List ℕ) (props : List Given) → StillSeen b (with_object b t id props)
with_object-seen b t id props k s i j e =
    rw (found-append k (map (edited OBJECTS_BIRTH change) b.records) (new ∷ []), found-edited OBJECTS_BIRTH change (λ r. refl) k b.records)
    (go (record_of b k) e)
  where
    change : Record → Record
    change = with_added id (child (b.born + 1))

    new : Record
    new =
        record { birth = b.born + 1; kind = t; slots = given_slots b t props; registers = fresh_registers t; device_id = None; kept_path = None }

    at_record : (r : Record) → sees s r.slots ≡ true → (u : Bool) → (r.birth == OBJECTS_BIRTH) ≡ u → sees s (edited OBJECTS_BIRTH change r).slots ≡ true
    at_record r q true p = rw (edited, p) (sees-added id (child (b.born + 1)) r.slots s q)
    at_record r q false p = rw (edited, p) q

    go : (o : Option Record) → sees s (slots_in o) ≡ true
        → sees s (slots_in (option_or (option_map (edited OBJECTS_BIRTH change) o) (found_at k (new ∷ [])))) ≡ true
    go None q = clash-back q
    go (Some r) q = at_record r q (r.birth == OBJECTS_BIRTH) refl

object_add-seen : (b : Board) (driver id : List ℕ) (props : List Given) → StillSeen b (object_add b driver id props).board
object_add-seen b driver id props = addition-comes (StillSeen b) b driver id props (λ k s i j e. e) (λ row e o is. of row.id o)
  where
    of : (t : TypeId) (o : Option Code) → StillSeen b (added_as b t id props o).board
    of t (Some code) = λ k s i j e. e
    of t None = with_object-seen b t id props

pub changed-seen : (b : Board) (change : Change) → StillSeen b (changed b change)
changed-seen b (added driver id props) = object_add-seen b driver id props
changed-seen b (deleted id) = (object_del-sight b id).seen
changed-seen b (wrote n name v) = (write-sight b n name v).seen
changed-seen b (severed n) = (sever-sight b n).seen
