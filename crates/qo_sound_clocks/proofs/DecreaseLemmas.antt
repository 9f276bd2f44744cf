-- Boards whose objects read no more as clocks than those of a board: small steps of objects that go, links that are emptied and values that are set.
use Rattle.std.proofs.Common.{◌≡◌, refl, ap, sym, ◌∙◌, ℕ, Bool, true, false, ◌==◌, List, [], remove, slice_get, Option, Some, None, option_map, codes, nat_eq}
use Rattle.qo_model.proofs.Common.{⊤, list_any, Act, Unrealize, TypeId, Val, Board, Record, Slot, strong, record_of, slots_at, slot_at, cut, set, with_changed, with_cut, with_val, acted, with_act_on, buses_of, kids_of, after, drop_slot, edit, finalize, finish, forgotten, let_go, pin, unpin, with_dropped, without_pin, KeepsRelease, detach, disconnected, unseen, set_named, unrealize}
use Rattle.std.proofs.lemmas.Bool.{eqb-true}
use Rattle.qo_values.specs.declared.properties.Val.TheVariants as val
use Rattle.qo_model.specs.Board.{referent}
use Rattle.qo_model.proofs.FirstSlotLemmas.{slots_in}
use Rattle.qo_model.proofs.ReleaseInductionLemmas.{after_keeps}
use Rattle.qo_model.proofs.StepLemmas.{finish-gone, finish-record}
use Rattle.qo_sound.proofs.ReadLemmas.{dropped-at, edit-slots}
use Rattle.qo_sound.proofs.SlotLemmas.{kept-slot}
use Rattle.qo_sound.proofs.AdditionStepsLemmas.{all-any}
use Rattle.qo_steps.proofs.DetachStepsLemmas.{LeaveSteps, UnrealizeSteps, by-disconnected, detach-by, leave-by}
use Rattle.qo_steps.proofs.NamedLemmas.{Named, set-by}
use Rattle.qo_sound_clocks.proofs.SlotLemmas.{blank-none, Less, less-blank, less-dropped, less-forgotten, less-none, less-set, less-set_period, less-taken, less-then, less-unseen, OtherName, Slots}

-- each object reads no more on the second board
abbrev pub Fewer : Board → Board → Type 0
Fewer b c = (n : ℕ) → Less (slots_at b n) (slots_at c n)

pub fewer-none : (b : Board) → Fewer b b
fewer-none b n = less-none (slots_at b n)

pub fewer-then : (b c d : Board) → Fewer b c → Fewer c d → Fewer b d
fewer-then b c d h k n = less-then (slots_at b n) (slots_at c n) (slots_at d n) (h n) (k n)

-- an edit of an object
pub edit-less : (n : ℕ) (change : Record → Record) → ((r : Record) → (change r).birth ≡ r.birth) → (c : Board)
    → ((r : Record) → record_of c n ≡ Some r → Less r.slots (change r).slots) → Fewer c (edit n change c)
edit-less n change same_birth c less = edit-slots Less less-none n change same_birth c less

pub fewer-edit : (b : Board) (n : ℕ) (change : Record → Record) → ((r : Record) → (change r).birth ≡ r.birth) → (c : Board)
    → ((r : Record) → record_of c n ≡ Some r → Less r.slots (change r).slots) → Fewer b c → Fewer b (edit n change c)
fewer-edit b n change same_birth c less h = fewer-then b c (edit n change c) h (edit-less n change same_birth c less)

-- the end of an object
finish-less : (c : Board) (n : ℕ) → Fewer c (finish c n)
finish-less c n x = go (x == n) refl
  where
    other : (o : Option Record) → Less (slots_in o) (slots_in (option_map (forgotten n) o))
    other None = less-none []
    other (Some r) = less-forgotten n r.slots

    go : (t : Bool) → (x == n) ≡ t → Less (slots_at c x) (slots_at (finish c n) x)
    go true p =
        let gone : record_of (finish c n) x ≡ None = ap (record_of (finish c n)) (eqb-true x n p) ∙ finish-gone c n in
        rw gone (less-blank (slots_at c x) [] blank-none)
    go false p = rw (finish-record c n x p) (other (record_of c x))

-- that a device is realized is not read of clocks
pub other-realized : OtherName (codes "realized")
other-realized = record { period = refl; mul = refl; div = refl; source = refl }

module _ (b : Board) where
  pub fewer-drop : (c : Board) (n i : ℕ) → Fewer b c → Fewer b (drop_slot c n i)
  unfolding drop_slot
  fewer-drop c n i h = fewer-edit b n (with_dropped i) (λ r. refl) c (λ r e. less-dropped i r.slots) h

  release-fewer : KeepsRelease (λ (work : List (ℕ × ℕ)) (c : Board). Fewer b c)
  release-fewer =
      record {
        ended = λ c n i work h e. fewer-then b c (finish c n) h (finish-less c n);
        freed = λ c n i work s m h e q free. fewer-drop c n i h;
        kept = λ c n i work s h e held_on. fewer-drop c n i h;
      }

  pub fewer-after : (o : Option ℕ) (c : Board) → Fewer b c → Fewer b (after finalize c o)
  fewer-after o c h = after_keeps (λ (work : List (ℕ × ℕ)) (d : Board). Fewer b d) release-fewer c o [] (λ m e free. h) (λ held_on. h)

  pub fewer-pin : (n : ℕ) (c : Board) → Fewer b c → Fewer b (pin c n)
  unfolding pin
  fewer-pin n c h = h

  pub fewer-unpin : (n : ℕ) (c : Board) → Fewer b c → Fewer b (unpin c n)
  unfolding unpin
  fewer-unpin n c h = go (list_any (nat_eq n) c.pins) refl
    where
      go : (u : Bool) → list_any (nat_eq n) c.pins ≡ u → Fewer b (unpin c n)
      go true e = rw (unpin, e) (fewer-after (Some n) (without_pin c n) h)
      go false e = rw (unpin, e) h

  pub fewer-let_go : (n i : ℕ) (c : Board) → Fewer b c → Fewer b (let_go c n i)
  unfolding let_go
  fewer-let_go n i c h = go (slot_at c n i) refl
    where
      go : (o : Option Slot) → slot_at c n i ≡ o → Fewer b (let_go c n i)
      go None e = rw (let_go, e) h
      go (Some s) e = rw (let_go, e) (fewer-after (referent s) _ (fewer-drop c n i h))

  -- a value is set by another name than those of clocks, or a period to 0

  set-fewer-at : (n i : ℕ) (name : List ℕ) (v : Val) → OtherName name → (c : Board) → Named c n i name → Fewer b c → Fewer b (set n i v c)
  unfolding set
  set-fewer-at n i name v other c at h =
      fewer-edit b n (with_changed (with_val v) i) (λ r. refl) c
      (λ r q. less-set v i r.slots (name, at.0) (sym (ap (λ (o : Option Record). slice_get (slots_in o) i) q) ∙ at.1) other) h

  stop-fewer : (n i : ℕ) (c : Board) → Named c n i (codes "period") → Fewer b c → Fewer b (set n i (val.Uint 0) c)
  unfolding set
  stop-fewer n i c at h =
      fewer-edit b n (with_changed (with_val (val.Uint 0)) i) (λ r. refl) c
      (λ r q. less-set_period i r.slots (codes "period", at.0) (sym (ap (λ (o : Option Record). slice_get (slots_in o) i) q) ∙ at.1) refl) h

  pub fewer-set : (n : ℕ) (name : List ℕ) (v : Val) → OtherName name → (c : Board) → Fewer b c → Fewer b (set_named n name v c)
  unfolding set
  fewer-set n name v other c h =
      set-by (Fewer b) n name c h v (λ i at. set-fewer-at n i name v other c at h)

  pub fewer-acted : (act : Act) (n period : ℕ) (c : Board) → Fewer b c → Fewer b (acted act n period c)
  unfolding acted
  fewer-acted act n period c h = fewer-edit b n (with_act_on act c.now period) (λ r. refl) c (λ r e. less-none r.slots) h

  -- a link to a kid is let go and removed
  fewer-taken : (n i : ℕ) (own : List ℕ) (t : TypeId) (d : ℕ) (c : Board) → slice_get (slots_at c n) i ≡ Some (own, strong t (Some d))
      → Fewer b c → Fewer b (cut n i (drop_slot c n i))
  unfolding cut
  fewer-taken n i own t d c at h = fewer-edit b n (with_cut i) (λ r. refl) (drop_slot c n i) cuts (fewer-drop c n i h)
    where
      cuts : (r : Record) → record_of (drop_slot c n i) n ≡ Some r → Less r.slots (remove r.slots i)
      cuts r e =
          less-taken i r.slots own (strong t None)
          (sym (ap (λ (ss : Slots). slice_get ss i) (dropped-at c n i (own, strong t (Some d)) at r e))
          ∙ kept-slot i (slots_at c n) own (strong t (Some d)) (strong t None) at refl) refl

  unrealize-steps : UnrealizeSteps (Fewer b) (λ n. ⊤)
  unrealize-steps =
      record {
        acts = λ n period c on h. fewer-acted Unrealize n period c h;
        unsees = λ n i c at h. fewer-edit b n (with_changed unseen i) (λ r. refl) c (λ r q. less-unseen i r.slots) h;
        stops = stop-fewer;
        darkens = λ n i c at h. set-fewer-at n i (codes "realized") (val.Bool false) other-realized c at h;
        clears = λ n c on h. h;
        forgets = λ d c on h. h;
      }

  leave-steps : LeaveSteps (Fewer b)
  leave-steps =
      record {
        pins = fewer-pin;
        unpins = λ n c e h. h;
        empties = λ n i x c at leaves h. fewer-drop c n i h;
        takes = fewer-taken;
        ends = fewer-after;
      }

  pub fewer-disconnected : (o : Option ℕ) (c : Board) → Fewer b c → Fewer b (disconnected o c)
  fewer-disconnected o c h = by-disconnected (Fewer b) (λ n. ⊤) unrealize-steps o c h

  pub fewer-detached : (c : Board) (d : ℕ) → Fewer b (unrealize (pin c d) d) → Fewer b (detach c d)
  fewer-detached c d h = leave-by (Fewer b) leave-steps c d h

  pub fewer-detach : (c : Board) (d : ℕ) → Fewer b c → Fewer b (detach c d)
  fewer-detach c d h =
      detach-by (Fewer b) (λ n. ⊤) unrealize-steps leave-steps c d tt
      (record { buses = λ n. all-any (buses_of (pin c d) n); kids = λ m. all-any (kids_of (pin c d) m) }) h
