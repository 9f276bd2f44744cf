-- What keeps the sources of clocks: changes that leave what stands, and commands on objects.
use Rattle.std.proofs.Common.{◌≡◌, refl, ap, sym, subst, ◌∙◌, ℕ, true, false, List, [], ◌∷◌, ◌++◌, filter, filter_map, Option, Some, None, is_some, option_and_then, codes, Ok, arith}
use Rattle.qo_model.proofs.Common.{option_map_or, Registers, MACHINE_BIRTH, Act, Hold, Exit, Board, Record, Slot, is_live, clock_scaled, clock_set, acted, source_of, is_realized, is_true, plain_in, strong_in, Change, changed, asked, asked_of, device_at, attached, notice_barred, without_first, is_not_in_reset, phased, post, pulse, released}
use Rattle.qo_model.specs.Clocks.{weak_in}
use Rattle.qo_model.specs.Reset.{after_hold}
use Rattle.qo_model.specs.Hotplug.{is_early}
use Rattle.qo_model.proofs.FirstSlotLemmas.{named_in}
use Rattle.qo_sound.proofs.TreeKeptLemmas.{sound_kept_lem}
use Rattle.qo_sound.proofs.TestLemmas.{decide}
use Rattle.qo_sound_devices.specs.SoundDevices.{SoundDevices}
use Rattle.qo_sound_devices.specs.SoundPlaces.{child_entry, stands}
use Rattle.qo_sound_devices.proofs.DevicesLawLemmas.{devices_kept_lem}
use Rattle.qo_sound_devices.proofs.DepthLemmas.{stands-dimmed}
use Rattle.qo_sound_clocks.specs.RegisterWrites.{registers_set, with_registers}
use Rattle.qo_sound_clocks.proofs.CommandLemmas.{kept-change}
use Rattle.qo_sound_clocks.proofs.WriteLawLemmas.{writes_keep_lem}
use Rattle.qo_sound_clocks.proofs.ReadLemmas.{Reads, tree-reads}
use Rattle.qo_sound_clocks.proofs.RegisterLemmas.{registers_kept_lem}
use Rattle.qo_sound_clocks.proofs.StepsLemmas.{kept-scaled, kept-set, calls-kept}
use Rattle.qo_sound_phases.proofs.ResetTreeLemmas.{Placed, placed}
use Rattle.qo_sound_phases.proofs.CommandLemmas.{frame, keeps}
use Rattle.qo_sound_phases.proofs.FrameLemmas.{Frame, dims-frame}
use Rattle.qo_sound_phases.proofs.ReachLemmas.{same-stands}
use Rattle.qo_sound_phases.proofs.ShapeLemmas.{SameShape, shape-acted, shape-edit}
use Rattle.qo_sound_bounds.specs.SoundSources.{SoundSources}
use Rattle.qo_sound_bounds.proofs.ClockLemmas.{frame-sources}
use Rattle.qo_sound_bounds.proofs.SightLemmas.{changed-seen}
use Rattle.qo_sound_bounds.proofs.ClockWriteLemmas.{Written, written-acts, written-none, written-numbers}
use Rattle.qo_values.specs.declared.kinds.ResetKind.{ResetKind}
use Rattle.qo_values.specs.Kinds.{entering}

-- what changes no object
pub beside-sources : (b c : Board) → c.records ≡ b.records → SoundSources b → SoundSources c
beside-sources b c e h =
    record {
      fed = k.fed;
      only = λ m s q. let i = k.only m s q in record { device = i.device; realized = i.realized; its = i.its };
      clocks = k.clocks;
      system = k.system;
    }
  where
    k : SoundSources (record b { records = c.records })
    k =
        subst (λ (rs : List Record). SoundSources (record b { records = rs })) (sym e)
        (record {
          fed = h.fed;
          only = λ m s q. let i = h.only m s q in record { device = i.device; realized = i.realized; its = i.its };
          clocks = h.clocks;
          system = h.system;
        })

-- what leaves who stands, who is realized, and sources
still-sources : (b c : Board) → Placed b → Placed c → Frame b c → ((x : ℕ) → is_realized c x ≡ is_realized b x)
    → ((x : ℕ) → stands b x ≡ true → stands c x ≡ true) → ((k : ℕ) → source_of c k ≡ source_of b k) → SoundSources b → SoundSources c
still-sources b c kb kc f lit stays same h =
    frame-sources b c kb kc f b (λ x. refl) (λ x r. sym (lit x) ∙ r) (λ x r. stays x (kb.places.only x r)) (λ k s e. sym (same k) ∙ e)
    (λ k s e i j. same k ∙ e) h.fed h.only h (λ x r. r)

shape-sources : (b c : Board) → SoundDevices b → SoundDevices c → SameShape b c → SoundSources b → SoundSources c
shape-sources b c d g shape h =
    still-sources b c (placed b d) (placed c g)
    (record {
      kind = λ x was live. shape.kind x;
      stood = λ x s. sym (same-stands b c shape x) ∙ s;
      bus = λ x s. ap (λ (ss : List (List ℕ × Slot)). option_and_then strong_in (named_in (codes "parent_bus") ss)) (shape.slots x);
      children = λ x s. ap (λ (ss : List (List ℕ × Slot)). filter_map child_entry ss) (shape.slots x);
      machine = ap (λ (ss : List (List ℕ × Slot)). filter_map child_entry ss) (shape.slots MACHINE_BIRTH);
    })
    (λ x. ap (λ (ss : List (List ℕ × Slot)). option_map_or is_true (option_and_then plain_in (named_in (codes "realized") ss)) false) (shape.slots x))
    (λ x s. same-stands b c shape x ∙ s)
    (λ k. ap (λ (ss : List (List ℕ × Slot)). option_and_then weak_in (named_in (codes "source") ss)) (shape.slots k)) h

-- acts and holds

pub acted-sources : (act : Act) (n period : ℕ) (b : Board) → SoundDevices b → SoundSources b → SoundSources (acted act n period b)
acted-sources act n period b d h =
    shape-sources b (acted act n period b) d (devices_kept_lem.acts act n period b d) (shape-acted act n period b) h

phased-sources : (act : Act) (ns : List ℕ) (b : Board) → SoundDevices b → SoundSources b → SoundDevices (phased act ns b) × SoundSources (phased act ns b)
phased-sources act [] b d h = (d, h)
phased-sources act (n ∷ ns) b d h =
    phased-sources act ns (acted act n 0 b) (devices_kept_lem.acts act n 0 b d) (acted-sources act n 0 b d h)

pub held-sources : (b : Board) (n : ℕ) (kind : ResetKind) → SoundDevices b → SoundSources b → SoundSources (after_hold b n kind)
unfolding after_hold
held-sources b n kind d h =
    let out : List ℕ = filter (is_not_in_reset b) (post b n) in
    let first : SoundDevices (phased (entering kind) out b) × SoundSources (phased (entering kind) out b) = phased-sources (entering kind) out b d h in
    let c : Board = phased Hold out (phased (entering kind) out b) in
    let second : SoundDevices c × SoundSources c = phased-sources Hold out (phased (entering kind) out b) first.0 first.1 in
    beside-sources c (record c { holds = b.holds ++ n ∷ [] }) refl second.1

pub released-sources : (b : Board) (n : ℕ) → SoundDevices b → SoundSources b → SoundSources (released b n)
unfolding released
released-sources b n d h =
    let c : Board = record b { holds = without_first n b.holds } in
    (phased-sources Exit (filter (is_not_in_reset c) (post c n)) c (devices_kept_lem.beside b c refl refl refl refl refl refl (omega arith) d)
    (beside-sources b c refl h)).1

pub pulse-sources : (b : Board) (n : ℕ) (kind : ResetKind) → SoundDevices b → SoundSources b → SoundSources (pulse b n kind)
unfolding pulse
pulse-sources b n kind d h = released-sources (after_hold b n kind) n (devices_kept_lem.held_so b n kind d) (held-sources b n kind d h)

-- other registers
pub registers-sources : (b : Board) (n : ℕ) (registers : Registers) → SoundDevices b → SoundSources b → SoundSources (registers_set b n registers)
registers-sources b n registers d h =
    shape-sources b (registers_set b n registers) d (registers_kept_lem.devices b n registers d)
    (shape-edit n (with_registers registers) (λ r. refl) (λ r. refl) (λ r. refl) b) h

-- removals that are asked for

asked_of-sources : (b : Board) (d : ℕ) → SoundSources b → SoundSources (asked_of b d).board
asked_of-sources b d h =
    decide (attached b d)
    (λ e. decide (is_early b d) (λ f. rw (asked_of, e, f) h)
    (λ f. decide (is_some (notice_barred b)) (λ g. rw (asked_of, e, f, g) h) (λ g. rw (asked_of, e, f, g) (beside-sources b _ refl h))))
    (λ e. rw (asked_of, e) h)

pub asked-sources : (b : Board) (id : List ℕ) → SoundSources b → SoundSources (asked b id).board
asked-sources b id h = go (device_at b id) refl
  where
    go : (o : Option ℕ) → device_at b id ≡ o → SoundSources (asked b id).board
    go None e = rw (asked, e) h
    go (Some d) e = rw (asked, e) (asked_of-sources b d h)

-- writes of clocks: a value that is set is no source

written-sources : (b c : Board) → SoundDevices b → SoundDevices c → Written b c → SoundSources b → SoundSources c
written-sources b c d g w h =
    still-sources b c (placed b d) (placed c g)
    (dims-frame b c w.dims)
    w.dims.same (λ x s. stands-dimmed b c w.dims.dimmed x ∙ s) w.source h

pub set-sources : (b d : Board) (c period : ℕ) → clock_set b c period ≡ Ok d → SoundDevices b → SoundSources b → SoundSources d
set-sources b d c period e s h =
    written-sources b d s (writes_keep_lem.set_devices b d c period e s)
    (kept-set (Written b) (calls-kept (Written b) (written-acts b)) (written-numbers b) b d c period e (written-none b)) h

pub scaled-sources : (b d : Board) (c mul div : ℕ) → clock_scaled b c mul div ≡ Ok d → SoundDevices b → SoundSources b → SoundSources d
scaled-sources b d c mul div e s h =
    written-sources b d s (writes_keep_lem.scaled_devices b d c mul div e s)
    (kept-scaled (Written b) (calls-kept (Written b) (written-acts b)) (written-numbers b) b d c mul div e (written-none b)) h

-- commands on objects
abbrev Traced : Board → Board → Type 0
Traced b c = (k s : ℕ) → source_of c k ≡ Some s → source_of b k ≡ Some s

pub changed-sources : (b : Board) (change : Change) → SoundDevices b → SoundSources b → SoundSources (changed b change)
changed-sources b change d h =
    frame-sources b c kb kc (frame b change d) b (λ x. refl) lit
    (λ x r. (keeps b change d).stood x ∙ kb.places.only x r) less kept h.fed h.only h (λ x r. r)
  where
    c : Board
    c = changed b change

    kb : Placed b
    kb = placed b d

    kc : Placed (changed b change)
    kc = placed (changed b change) (devices_kept_lem.change b change d)

    lit : (x : ℕ) → is_realized (changed b change) x ≡ true → is_realized b x ≡ true
    lit x r = kb.places.each x (sym ((keeps b change d).stood x) ∙ kc.places.only x r) refl

    on : Reads b
    on = tree-reads b d.tree

    now : Reads (changed b change)
    now = tree-reads (changed b change) (sound_kept_lem.change b change d.tree)

    less : (k s : ℕ) → source_of (changed b change) k ≡ Some s → source_of b k ≡ Some s
    less =
        kept-change (Traced b)
        (λ x y reads_x reads_y fewer before k s e. before k s (reads_x.source k s ((fewer k).source s (reads_y.seen k s e)))) b change d.tree
        (λ k s e. e)

    kept : (k s : ℕ) → source_of b k ≡ Some s → is_live (changed b change) k ≡ true → is_live (changed b change) s ≡ true
        → source_of (changed b change) k ≡ Some s
    kept k s e i j = now.source k s (changed-seen b change k s i j (on.seen k s e))
