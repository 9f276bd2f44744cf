-- The values of objects, over changes of a board that leave them: steps by which objects go, and values of other names than those of clocks.
use Rattle.std.proofs.Common.{◌≡◌, refl, ap, sym, subst, ◌∙◌, ℕ, zero, suc, Bool, true, false, cond, ◌==◌, List, [], ◌∷◌, remove, slice_get, Option, Some, None, is_some, option_map, codes, nat_eq}
use Rattle.qo_model.proofs.Common.{list_any, option_or, bytes_eq, TypeId, Val, Board, Record, Slot, strong, is_live, record_of, slot_at, slots_at, cut, set, with_changed, with_cut, with_val, after, drop_slot, edit, edited, finalize, finish, forgotten, forgotten_in, let_go, pin, unpin, with_dropped, without_hold, without_pin, KeepsRelease, detach, set_named, unrealize}
use Rattle.std.proofs.lemmas.Bool.{eqb-true}
use Rattle.std.proofs.lemmas.Option.{same_Some}
use Rattle.qo_model.specs.Board.{referent}
use Rattle.qo_model.proofs.FirstSlotLemmas.{slots_in}
use Rattle.qo_model.proofs.ReleaseInductionLemmas.{after_keeps}
use Rattle.qo_model.proofs.StepLemmas.{finish-gone, finish-record, found-edited, is_some-map}
use Rattle.qo_sound.proofs.ReadLemmas.{dropped-at, edit-slots, plain-forgotten}
use Rattle.qo_sound.proofs.SlotLemmas.{each_slot, kept-slot}
use Rattle.qo_steps.proofs.DetachStepsLemmas.{LeaveSteps, leave-by}
use Rattle.qo_steps.proofs.NamedLemmas.{set-by}
use Rattle.qo_sound_clocks.proofs.SlotLemmas.{OtherName, SameValues, Slots, plain-apart, plain-dropped, plain-each, plain_of, plain_named}

-- the values of slots

pub values-none : (xs : Slots) → SameValues xs xs
values-none xs = record { period = refl; mul = refl; div = refl }

pub values-then : (xs ys zs : Slots) → SameValues xs ys → SameValues ys zs → SameValues xs zs
values-then xs ys zs h k = record { period = k.period ∙ h.period; mul = k.mul ∙ h.mul; div = k.div ∙ h.div }

pub values-all : (xs ys : Slots) → ((name : List ℕ) → plain_of name ys ≡ plain_of name xs) → SameValues xs ys
values-all xs ys same = record { period = same (codes "period"); mul = same (codes "mul"); div = same (codes "div") }

pub values-forgotten : (n : ℕ) (xs : Slots) → SameValues xs (each_slot (forgotten_in n) xs)
values-forgotten n xs = values-all xs (each_slot (forgotten_in n) xs) (λ name. plain-each (forgotten_in n) (plain-forgotten n) name xs)

pub values-dropped : (i : ℕ) (xs : Slots) → SameValues xs (without_hold i xs)
values-dropped i xs = values-all xs (without_hold i xs) (λ name. plain-dropped name i xs)

-- boards

pub record KeepsValues (b c : Board) : Type 0 where
  pub live : (x : ℕ) → is_live c x ≡ true → is_live b x ≡ true
  pub same : (k : ℕ) → is_live c k ≡ true → SameValues (slots_at b k) (slots_at c k)

pub keeps-none : (b : Board) → KeepsValues b b
keeps-none b = record { live = λ x e. e; same = λ k i. values-none (slots_at b k) }

pub keeps-then : (b c d : Board) → KeepsValues b c → KeepsValues c d → KeepsValues b d
keeps-then b c d h k =
    record {
      live = λ x e. h.live x (k.live x e);
      same = λ m i. values-then (slots_at b m) (slots_at c m) (slots_at d m) (h.same m (k.live m i)) (k.same m i);
    }

pub edit-values : (n : ℕ) (change : Record → Record) → ((r : Record) → (change r).birth ≡ r.birth) → (c : Board)
    → ((r : Record) → record_of c n ≡ Some r → SameValues r.slots (change r).slots) → KeepsValues c (edit n change c)
edit-values n change same_birth c on =
    record {
      live = λ x e. sym (ap is_some (found-edited n change same_birth x c.records) ∙ is_some-map (edited n change) (record_of c x)) ∙ e;
      same = λ k i. edit-slots SameValues values-none n change same_birth c on k;
    }

pub drop-values : (c : Board) (n i : ℕ) → KeepsValues c (drop_slot c n i)
unfolding drop_slot
drop-values c n i = edit-values n (with_dropped i) (λ r. refl) c (λ r e. values-dropped i r.slots)

pub finish-values : (c : Board) (n : ℕ) → KeepsValues c (finish c n)
finish-values c n = record { live = λ x e. (own x e (x == n) refl).0; same = λ k i. all k (own k i (k == n) refl) }
  where
    own : (x : ℕ) → is_live (finish c n) x ≡ true → (t : Bool) → (x == n) ≡ t → (is_live c x ≡ true) × ((x == n) ≡ false)
    own x e true p =
        absurd
        (let clash : false ≡ true = sym (ap is_some (ap (record_of (finish c n)) (eqb-true x n p) ∙ finish-gone c n)) ∙ e in cc)
    own x e false p = (sym (ap is_some (finish-record c n x p) ∙ is_some-map (forgotten n) (record_of c x)) ∙ e, p)

    go : (o : Option Record) → SameValues (slots_in o) (slots_in (option_map (forgotten n) o))
    go None = values-none []
    go (Some r) = values-forgotten n r.slots

    all : (k : ℕ) → (is_live c k ≡ true) × ((k == n) ≡ false) → SameValues (slots_at c k) (slots_at (finish c n) k)
    all k h = subst (λ (o : Option Record). SameValues (slots_at c k) (slots_in o)) (sym (finish-record c n k h.1)) (go (record_of c k))

module _ (b : Board) where
  release-values : KeepsRelease (λ (work : List (ℕ × ℕ)) (c : Board). KeepsValues b c)
  release-values =
      record {
        ended = λ c n i work h e. keeps-then b c (finish c n) h (finish-values c n);
        freed = λ c n i work s m h e q free. keeps-then b c (drop_slot c n i) h (drop-values c n i);
        kept = λ c n i work s h e held_on. keeps-then b c (drop_slot c n i) h (drop-values c n i);
      }

  pub values-after : (o : Option ℕ) (c : Board) → KeepsValues b c → KeepsValues b (after finalize c o)
  values-after o c h = after_keeps (λ (work : List (ℕ × ℕ)) (d : Board). KeepsValues b d) release-values c o [] (λ m e free. h) (λ held_on. h)

  pub values-pin : (n : ℕ) (c : Board) → KeepsValues b c → KeepsValues b (pin c n)
  unfolding pin
  values-pin n c h = record { live = h.live; same = h.same }

  pub values-unpin : (n : ℕ) (c : Board) → KeepsValues b c → KeepsValues b (unpin c n)
  unfolding unpin
  values-unpin n c h = go (list_any (nat_eq n) c.pins) refl
    where
      go : (u : Bool) → list_any (nat_eq n) c.pins ≡ u → KeepsValues b (unpin c n)
      go true e = rw (unpin, e) (values-after (Some n) (without_pin c n) (record { live = h.live; same = h.same }))
      go false e = rw (unpin, e) h

  pub values-let_go : (n i : ℕ) (c : Board) → KeepsValues b c → KeepsValues b (let_go c n i)
  unfolding let_go
  values-let_go n i c h = go (slot_at c n i) refl
    where
      go : (o : Option Slot) → slot_at c n i ≡ o → KeepsValues b (let_go c n i)
      go None e = rw (let_go, e) h
      go (Some s) e = rw (let_go, e) (values-after (referent s) _ (keeps-then b c (drop_slot c n i) h (drop-values c n i)))

-- a value is set that is none of a clock's

pub set-values : (b : Board) (n i : ℕ) (v : Val) (x : List ℕ × Slot) → slice_get (slots_at b n) i ≡ Some x → OtherName x.0 → KeepsValues b (set n i v b)
unfolding set
set-values b n i v x at other =
    edit-values n (with_changed (with_val v) i) (λ r. refl) b
    (λ r q.
    let here : slice_get r.slots i ≡ Some x = sym (ap (λ (o : Option Record). slice_get (slots_in o) i) q) ∙ at in
    record {
      period = plain-apart (with_val v) (codes "period") i r.slots x here other.period;
      mul = plain-apart (with_val v) (codes "mul") i r.slots x here other.mul;
      div = plain-apart (with_val v) (codes "div") i r.slots x here other.div;
    })

pub named-values : (b : Board) (n : ℕ) (name : List ℕ) (v : Val) → OtherName name → KeepsValues b (set_named n name v b)
named-values b n name v other = set-by (KeepsValues b) n name b (keeps-none b) v (λ i at. set-values b n i v (name, at.0) at.1 other)

-- a link to a kid is let go and removed

removed-apart : (name : List ℕ) (i : ℕ) (xs : Slots) (own : List ℕ) (s : Slot) → slice_get xs i ≡ Some (own, s) → plain_named name (own, s) ≡ None
    → plain_of name (remove xs i) ≡ plain_of name xs
removed-apart name i [] own s e none = cc
removed-apart name zero (y ∷ xs) own s e none =
    let here : plain_named name y ≡ None = ap (plain_named name) (same_Some y (own, s) e) ∙ none in
    sym (ap (λ (o : Option Val). option_or o (plain_of name xs)) here)
removed-apart name (suc i) (y ∷ xs) own s e none = ap (option_or (plain_named name y)) (removed-apart name i xs own s e none)

no-value : (name own : List ℕ) (t : TypeId) (target : Option ℕ) → plain_named name (own, strong t target) ≡ None
no-value name own t target = go (bytes_eq own name)
  where
    go : (u : Bool) → ◌≡◌ {A = Option Val} (cond u None None) None
    go true = refl
    go false = refl

taken-values : (b : Board) (n i : ℕ) (own : List ℕ) (t : TypeId) (d : ℕ) (c : Board) → slice_get (slots_at c n) i ≡ Some (own, strong t (Some d))
    → KeepsValues b c → KeepsValues b (cut n i (drop_slot c n i))
unfolding cut
taken-values b n i own t d c at h =
    keeps-then b (drop_slot c n i) (cut n i (drop_slot c n i)) (keeps-then b c (drop_slot c n i) h (drop-values c n i))
    (edit-values n (with_cut i) (λ r. refl) (drop_slot c n i) cuts)
  where
    cuts : (r : Record) → record_of (drop_slot c n i) n ≡ Some r → SameValues r.slots (remove r.slots i)
    cuts r e =
        values-all r.slots (remove r.slots i)
        (λ name.
        removed-apart name i r.slots own (strong t None)
        (sym (ap (λ (ss : Slots). slice_get ss i) (dropped-at c n i (own, strong t (Some d)) at r e))
        ∙ kept-slot i (slots_at c n) own (strong t (Some d)) (strong t None) at refl)
        (no-value name own t None))

leave-steps : (b : Board) → LeaveSteps (KeepsValues b)
leave-steps b =
    record {
      pins = values-pin b;
      unpins = λ n c e h. record { live = h.live; same = h.same };
      empties = λ n i x c at leaves h. keeps-then b c (drop_slot c n i) h (drop-values c n i);
      takes = taken-values b;
      ends = values-after b;
    }

-- once a device was unrealized, while it was held, and then taken out
pub detached-values : (b c : Board) (d : ℕ) → KeepsValues b (unrealize (pin c d) d) → KeepsValues b (detach c d)
detached-values b c d h = leave-by (KeepsValues b) (leave-steps b) c d h
