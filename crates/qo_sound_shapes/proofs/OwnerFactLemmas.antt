-- A fact of each object that reads nothing of its slots and registers: what keeps it.
use Rattle.std.proofs.Common.{◌≡◌, refl, ap, ℕ, ◌+◌, List, ◌∷◌, Option, Some, None}
use Rattle.qo_model.proofs.Common.{⊤, AllByRecursion, Registers, fresh_registers, OBJECTS_BIRTH, Act, Realize, TypeId, Board, Record, child, with_added, acted, with_act_on, buses_of, kids_of, Given, given_slots, object_del, sever, with_object, after_write, canonical, Resources, Wanted, acted_all, bus_births, clocked, counted, drafted, registers_on, source_for, stood, with_body_of, with_device, with_new, with_path, with_plugged, write, edit, forgotten, pin, without_slots, plugged, post, slots_of, detach, set_named, Val}
use Rattle.qo_sound.proofs.ChangeStepsLemmas.{step-object_del, step-sever, step-write}
use Rattle.qo_sound.proofs.DetachmentStepsLemmas.{KeepsEnds, KeepsLists, KeepsPins, step-detach, step-pin, step-unrealize}
use Rattle.qo_sound.proofs.AdditionStepsLemmas.{all-any, KeepsActs, KeepsEdits, KeepsNew, new_with, RowPasses, step-acted_all, step-drafted, step-plugged, step-set, step-stood}
use Rattle.qo_sound_clocks.specs.RegisterWrites.{registers_set, with_registers}
use Rattle.qo_sound_shapes.proofs.BoardLemmas.{all-after, all-edit, all-new, AllOf}

module _ (Q : Record → Type 0) (slots : (r s : Record) → without_slots s ≡ without_slots r → Q r → Q s)
    (body : (registers : Registers) (id : Option (List ℕ)) (r : Record) → Q r → Q (record r { registers = registers; device_id = id })) where
  pub fact-edits : KeepsEdits (AllOf Q)
  fact-edits n change leaves c h =
      all-edit Q n change (λ r. ap (λ (y : Record). y.birth) (leaves r)) c (λ r e own k. slots r (change r) (leaves r) k) h

  fact-pins : KeepsPins (AllOf Q)
  fact-pins ps c h = h

  fact-lists : KeepsLists (AllOf Q)
  fact-lists holds pending notices c h = h

  fact-ends : KeepsEnds (AllOf Q)
  fact-ends o c h = all-after Q (λ n r k. slots r (forgotten n r) refl k) o c h

  pub fact-act : (act : Act) (n period : ℕ) (c : Board) → AllOf Q c → AllOf Q (acted act n period c)
  unfolding acted
  fact-act act n period c h =
      all-edit Q n (with_act_on act c.now period) (λ r. refl) c (λ r e own k. body (with_act_on act c.now period r).registers r.device_id r k) h

  fact-acted : KeepsActs (λ n. ⊤) (AllOf Q)
  fact-acted act n period unbound on c h = fact-act act n period c h

  pub fact-registers : (b : Board) (n : ℕ) (registers : Registers) → AllOf Q b → AllOf Q (registers_set b n registers)
  fact-registers b n registers h = all-edit Q n (with_registers registers) (λ r. refl) b (λ r e own k. body registers r.device_id r k) h

  pub fact-set : (n : ℕ) (name : List ℕ) (v : Val) (c : Board) → AllOf Q c → AllOf Q (set_named n name v c)
  fact-set n name v c h = step-set (AllOf Q) fact-edits n name v c h

  -- commands on objects, but for one that makes one
  pub fact-deleted : (b : Board) (id : List ℕ) → AllOf Q b → AllOf Q (object_del b id).board
  fact-deleted b id h = step-object_del (AllOf Q) fact-edits fact-pins fact-ends b id h

  pub fact-wrote : (b : Board) (n : ℕ) (name : List ℕ) (v : Val) → AllOf Q b → AllOf Q (after_write b (write b n name v))
  fact-wrote b n name v h = step-write (AllOf Q) fact-edits fact-pins fact-ends b n name v h

  pub fact-severed : (b : Board) (n : ℕ) → AllOf Q b → AllOf Q (sever b n).board
  fact-severed b n h = step-sever (AllOf Q) fact-edits fact-pins fact-ends b n h

  -- and of such a one
  module _ (Made : TypeId → Type 0) (fresh : (r : Record) → r.kept_path ≡ None → Made r.kind → Q r) where
    pub fact-object : (b : Board) (t : TypeId) (id : List ℕ) (props : List Given) → Made t → AllOf Q b → AllOf Q (with_object b t id props)
    fact-object b t id props made h =
        all-new Q new (edit OBJECTS_BIRTH (with_added id (child (b.born + 1))) b) (with_object b t id props) refl (fresh new refl made)
        (fact-edits OBJECTS_BIRTH (with_added id (child (b.born + 1))) (λ r. refl) b h)
      where
        new : Record
        new = record { birth = b.born + 1; kind = t; slots = given_slots b t props; registers = fresh_registers t; device_id = None; kept_path = None }

    fact-new : KeepsNew Made (AllOf Q)
    fact-new k slots made c h = all-new Q (new_with c k slots) c (with_new (new_with c k slots) c) refl (fresh (new_with c k slots) refl made) h

    pub fact-drafted : (b : Board) (t : TypeId) → Made t → AllByRecursion (RowPasses Made) (slots_of t) → AllOf Q b → AllOf Q (drafted b t)
    fact-drafted b t made passes h = step-drafted (AllOf Q) fact-edits Made fact-new t made passes b h

  -- a device that goes
  pub fact-detach : (b : Board) (d : ℕ) → AllOf Q b → AllOf Q (detach b d)
  fact-detach b d h =
      step-detach (AllOf Q) fact-edits fact-pins fact-ends b d
      (step-unrealize (λ n. ⊤) (AllOf Q) fact-edits fact-acted fact-lists (pin b d)
      (λ x. all-any (buses_of (pin b d) x)) (λ m. all-any (kids_of (pin b d) m)) d tt
      (step-pin (AllOf Q) fact-edits fact-pins fact-ends d b h))

  -- a device that was made is added
  fact-counted : (id : Option (List ℕ)) (c : Board) → AllOf Q c → AllOf Q (counted id c)
  fact-counted None c h = h
  fact-counted (Some id) c h = h

  pub fact-plugged : (b : Board) (t : TypeId) (a : Wanted) (resources : Resources)
      → ((path : Option (List ℕ)) (r : Record) → r.birth ≡ b.born + 1 → Q r → Q (with_path path r))
      → AllOf Q (drafted b t) → AllOf Q (with_plugged b t a resources)
  fact-plugged b t a resources told h =
      all-edit Q n (with_path (canonical c n)) (λ r. refl) c (λ r e own k. told (canonical c n) r own k)
      (step-plugged (λ n. ⊤) (AllOf Q) fact-acted n acting (all-any (post acting n))
      (step-acted_all (λ n. ⊤) (AllOf Q) fact-acted Realize refl (n ∷ bus_births n t) (all-any (n ∷ bus_births n t)) (with_device b t a resources)
      (fact-counted a.id (clocked (source_for b resources.bus) n (stood b n a resources (drafted b t)))
      (step-stood (AllOf Q) fact-edits b n a resources
      (λ e k.
      all-edit Q n (with_body_of a.id resources.range) (λ r. refl) e (λ r q own w. body (registers_on resources.range r.registers) a.id r w) k) (drafted b t)
      h))))
    where
      n : ℕ
      n = b.born + 1

      acting : Board
      acting = acted_all Realize (n ∷ bus_births n t) (with_device b t a resources)

      c : Board
      c = plugged acting n
