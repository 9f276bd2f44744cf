-- A fact of each object that is there: where the changes of one object keep it, so do all changes of a board that make no object and write no property.
use Rattle.std.proofs.Common.{◌≡◌, refl, ap, sym, subst, ◌∙◌, ℕ, Bool, true, false, ◌==◌, eqb, List, codes, Option, Some, None, is_some, option_map, Ok, Err}
use Rattle.qo_model.proofs.Common.{⊤, MACHINE_BIRTH, OBJECTS_BIRTH, E45, E46, Registers, Act, Pre, Unrealize, Update, Val, Board, Record, record_of, cut, set, with_changed, with_cut, with_val, acted, asked, clock_scaled, clock_set, clock_written, source_of, object_del, reset_whole, sever, with_act_on, drop_slot, edit, finish, forgotten, let_go, pin, pulse, released, unpin, with_dropped, detach, set_named, unseen}
use Rattle.std.proofs.lemmas.Bool.{eqb-true}
use Rattle.std.proofs.lemmas.Option.{same_Some}
use Rattle.qo_values.specs.declared.kinds.ResetKind.{ResetKind}
use Rattle.qo_values.specs.declared.kinds.ResetKind.TheVariants.{Cold}
use Rattle.qo_values.specs.declared.properties.Val.TheVariants as val
use Rattle.qo_model.specs.Reset.{after_hold}
use Rattle.qo_model.proofs.ComesToLemmas.{deletion-comes}
use Rattle.qo_model.proofs.StepLemmas.{finish-gone, finish-record}
use Rattle.qo_sound.proofs.DetachmentStepsLemmas.{KeepsEnds}
use Rattle.qo_sound.proofs.QuietStepsLemmas.{quiet-asked, quiet-held, quiet-pulse, quiet-released}
use Rattle.qo_steps.proofs.ClockStepsLemmas.{written-by}
use Rattle.qo_steps.proofs.CommandStepsLemmas.{sever-by}
use Rattle.qo_steps.proofs.DetachStepsLemmas.{LeaveSteps, UnrealizeSteps, detach-by}
use Rattle.qo_steps.proofs.HoldStepsLemmas.{reset-by}
use Rattle.qo_steps.proofs.NamedLemmas.{set-by}
use Rattle.qo_steps.proofs.ReachLemmas.{reach-any}
use Rattle.qo_steps.proofs.ReleasesLemmas.{KeepsReleases, after-by, let_go-by, release-each, unpin-by}
use Rattle.qo_sound_clocks.specs.RegisterWrites.{registers_set, with_registers}
use Rattle.qo_sound_shapes.proofs.BoardLemmas.{AllOf, all-edit, all-same}

-- the end of another object
pub all-finish : (Q : Record → Type 0) (n : ℕ) (c : Board) → ((r : Record) → Q r → Q (forgotten n r)) → AllOf Q c → AllOf Q (finish c n)
all-finish Q n c forgets h x r e = go (x == n) refl
  where
    other : (o : Option Record) → record_of c x ≡ o → option_map (forgotten n) o ≡ Some r → Q r
    other None q k = absurd (let clash : None ≡ Some r = k in cc)
    other (Some y) q k = subst Q (same_Some (forgotten n y) r k) (forgets y (h x y q))

    go : (t : Bool) → (x == n) ≡ t → Q r
    go true p =
        absurd (let clash : None ≡ Some r = sym (ap (record_of (finish c n)) (eqb-true x n p) ∙ finish-gone c n) ∙ e in cc)
    go false p = other (record_of c x) refl (sym (finish-record c n x p) ∙ e)

-- a fact that reads no registers
module _ (Q : Record → Type 0) (body : (registers : Registers) (r : Record) → Q r → Q (record r { registers = registers })) where
  pub all-acted : (act : Act) (n period : ℕ) (c : Board) → AllOf Q c → AllOf Q (acted act n period c)
  unfolding acted
  all-acted act n period c h =
      all-edit Q n (with_act_on act c.now period) (λ r. refl) c (λ r e own k. body (with_act_on act c.now period r).registers r k) h

  pub all-registers : (c : Board) (n : ℕ) (registers : Registers) → AllOf Q c → AllOf Q (registers_set c n registers)
  all-registers c n registers h = all-edit Q n (with_registers registers) (λ r. refl) c (λ r e own k. body registers r k) h

-- it is kept by a slot that is let go or removed, a plain slot that gets a value that may be there, and weak links that are emptied
pub record KeepsFact (May : Val → Type 0) (Q : Record → Type 0) : Type 0 where
  pub drops : (i : ℕ) (r : Record) → Q r → Q (with_dropped i r)
  pub cuts : (i : ℕ) (r : Record) → Q r → Q (with_cut i r)
  pub sets : (v : Val) → May v → (i : ℕ) (r : Record) → Q r → Q (with_changed (with_val v) i r)
  pub unsees : (i : ℕ) (r : Record) → Q r → Q (with_changed unseen i r)
  pub forgets : (n : ℕ) (r : Record) → Q r → Q (forgotten n r)
  pub body : (registers : Registers) (r : Record) → Q r → Q (record r { registers = registers })
  -- 0 and false may be there
  pub zero : May (val.Uint 0)
  pub off : May (val.Bool false)

module _ (May : Val → Type 0) (Q : Record → Type 0) (k : KeepsFact May Q) where
  fact-same : (b c : Board) → c.records ≡ b.records → AllOf Q b → AllOf Q c
  fact-same b c e h = all-same Q b c e h

  pub fact-drop : (n i : ℕ) (c : Board) → AllOf Q c → AllOf Q (drop_slot c n i)
  unfolding drop_slot
  fact-drop n i c h = all-edit Q n (with_dropped i) (λ r. refl) c (λ r e own w. k.drops i r w) h

  fact-cut : (n i : ℕ) (c : Board) → AllOf Q c → AllOf Q (cut n i c)
  unfolding cut
  fact-cut n i c h = all-edit Q n (with_cut i) (λ r. refl) c (λ r e own w. k.cuts i r w) h

  pub fact-set : (n i : ℕ) (v : Val) (c : Board) → May v → AllOf Q c → AllOf Q (set n i v c)
  unfolding set
  fact-set n i v c may h = all-edit Q n (with_changed (with_val v) i) (λ r. refl) c (λ r e own w. k.sets v may i r w) h

  fact-unsee : (n i : ℕ) (c : Board) → AllOf Q c → AllOf Q (edit n (with_changed unseen i) c)
  fact-unsee n i c h = all-edit Q n (with_changed unseen i) (λ r. refl) c (λ r e own w. k.unsees i r w) h

  pub fact-acted : (act : Act) (n period : ℕ) (c : Board) → AllOf Q c → AllOf Q (acted act n period c)
  fact-acted = all-acted Q k.body

  pub fact-registers : (c : Board) (n : ℕ) (registers : Registers) → AllOf Q c → AllOf Q (registers_set c n registers)
  fact-registers = all-registers Q k.body

  -- releases
  pub fact-finalize : KeepsReleases (AllOf Q)
  fact-finalize = release-each (AllOf Q) (λ n i c at h. fact-drop n i c h) (λ n c free h. all-finish Q n c (k.forgets n) h)

  pub fact-ends : KeepsEnds (AllOf Q)
  fact-ends = after-by (AllOf Q) fact-finalize

  pub fact-let_go : (b : Board) (n i : ℕ) → AllOf Q b → AllOf Q (let_go b n i)
  fact-let_go b n i h = let_go-by (AllOf Q) fact-ends n i b (λ s e. fact-drop n i b h) h

  fact-pin : (n : ℕ) (c : Board) → AllOf Q c → AllOf Q (pin c n)
  unfolding pin
  fact-pin n c h = h

  pub fact-unpin : (b : Board) (n : ℕ) → AllOf Q b → AllOf Q (unpin b n)
  fact-unpin b n h = unpin-by (AllOf Q) (λ m c has w. w) fact-ends n b h

  -- holds, and removals that are asked for
  pub fact-held : (b : Board) (n : ℕ) (kind : ResetKind) → AllOf Q b → AllOf Q (after_hold b n kind)
  fact-held = quiet-held (AllOf Q) fact-same fact-acted

  pub fact-released : (b : Board) (n : ℕ) → AllOf Q b → AllOf Q (released b n)
  fact-released = quiet-released (AllOf Q) fact-same fact-acted

  pub fact-pulse : (b : Board) (n : ℕ) (kind : ResetKind) → AllOf Q b → AllOf Q (pulse b n kind)
  fact-pulse = quiet-pulse (AllOf Q) fact-same fact-acted

  pub fact-asked : (b : Board) (id : List ℕ) → AllOf Q b → AllOf Q (asked b id).board
  fact-asked = quiet-asked (AllOf Q) fact-same fact-acted

  -- writes of clocks
  fact-written : (old new d : Board) (c : ℕ) → AllOf Q new → clock_written old new c ≡ Ok d → AllOf Q d
  fact-written old new d c h e =
      written-by (AllOf Q) (λ n. ⊤) (λ n before after x on w. fact-acted Update n after (acted Pre n before x) (fact-acted Pre n before x w)) old new
      (λ n m is. tt) d c h e

  pub fact-named : (n : ℕ) (name : List ℕ) (v : Val) (c : Board) → May v → AllOf Q c → AllOf Q (set_named n name v c)
  fact-named n name v c may h = set-by (AllOf Q) n name c h v (λ i at. fact-set n i v c may h)

  pub fact-clock_set : (b d : Board) (c period : ℕ) → May (val.Uint period) → clock_set b c period ≡ Ok d → AllOf Q b → AllOf Q d
  fact-clock_set b d c period may e h = go (is_some (source_of b c)) refl
    where
      new : Board
      new = set_named c (codes "period") (val.Uint period) b

      go : (t : Bool) → is_some (source_of b c) ≡ t → AllOf Q d
      go true p = absurd (let clash : Err E45 ≡ Ok d = rw (clock_set, p) at e in cc)
      go false p = fact-written b new d c (fact-named c (codes "period") (val.Uint period) b may h) (rw (clock_set, p) at e)

  pub fact-clock_scaled : (b d : Board) (c mul div : ℕ) → May (val.Uint mul) → May (val.Uint div) → clock_scaled b c mul div ≡ Ok d → AllOf Q b → AllOf Q d
  fact-clock_scaled b d c mul div first second e h = go (eqb div 0) refl
    where
      mid : Board
      mid = set_named c (codes "mul") (val.Uint mul) b

      new : Board
      new = set_named c (codes "div") (val.Uint div) mid

      go : (t : Bool) → eqb div 0 ≡ t → AllOf Q d
      go true p = absurd (let clash : Err E46 ≡ Ok d = rw (clock_scaled, p) at e in cc)
      go false p =
          fact-written b new d c
          (fact-named c (codes "div") (val.Uint div) mid second (fact-named c (codes "mul") (val.Uint mul) b first h)) (rw (clock_scaled, p) at e)

  -- `object-del` and `x-sever`
  pub fact-deleted : (b : Board) (id : List ℕ) → AllOf Q b → AllOf Q (object_del b id).board
  fact-deleted b id h = deletion-comes (AllOf Q) b id h (λ i e. fact-let_go b OBJECTS_BIRTH i h)

  pub fact-severed : (b : Board) (n : ℕ) → AllOf Q b → AllOf Q (sever b n).board
  fact-severed b n h =
      sever-by (AllOf Q) b n
      (record {
        pins = fact-pin;
        unpins = λ m c has w. w;
        drops = λ there away i t target c at w. fact-drop n i c w;
        ends = fact-ends;
      }) h

  -- a device that is detached
  fact-unrealizes : UnrealizeSteps (AllOf Q) (λ n. ⊤)
  fact-unrealizes =
      record {
        acts = λ n period c on h. fact-acted Unrealize n period c h;
        unsees = λ n i c at h. fact-unsee n i c h;
        stops = λ n i c at h. fact-set n i (val.Uint 0) c k.zero h;
        darkens = λ n i c at h. fact-set n i (val.Bool false) c k.off h;
        clears = λ n c on h. h;
        forgets = λ d c on h. h;
      }

  fact-leaves : LeaveSteps (AllOf Q)
  fact-leaves =
      record {
        pins = fact-pin;
        unpins = λ n c has h. h;
        empties = λ n i x c at leaves h. fact-drop n i c h;
        takes = λ n i own t d c at h. fact-cut n i (drop_slot c n i) (fact-drop n i c h);
        ends = fact-ends;
      }

  pub fact-detach : (b : Board) (d : ℕ) → AllOf Q b → AllOf Q (detach b d)
  fact-detach b d h = detach-by (AllOf Q) (λ n. ⊤) fact-unrealizes fact-leaves b d tt (reach-any.below (pin b d) tt) h

  -- the reset of the whole board
  pub fact-reset : (b : Board) → AllOf Q b → AllOf Q (reset_whole b)
  fact-reset b h =
      reset-by (λ c. ⊤) (AllOf Q)
      (record {
        detaches = λ c r e good w. fact-detach c r.birth w;
        stays = λ c r e good. tt;
        pulses = λ c good w. fact-pulse c MACHINE_BIRTH Cold w;
      }) b tt h
