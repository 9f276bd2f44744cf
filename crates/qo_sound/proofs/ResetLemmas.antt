-- Holds of resets and the reset of the whole board keep the tree sound; what they leave of a board beside its objects.
use Rattle.std.proofs.Common.{◌≡◌, refl, ◌∙◌, ℕ, zero, suc, List, [], ◌∷◌, ◌++◌, filter, length, Option, Some, None, slice_get}
use Rattle.qo_model.proofs.Common.{MACHINE_BIRTH, Act, Hold, Exit, Board, Record, acted, all_completed, completed, reset_whole, without_first, is_not_in_reset, phased, post, pulse, released}
use Rattle.qo_model.specs.Board.{Removal}
use Rattle.qo_model.specs.declared.notes.Note.{Note}
use Rattle.qo_model.specs.Reset.{after_hold}
use Rattle.qo_sound.specs.DeviceScope.{ResetLeaves}
use Rattle.qo_sound.proofs.CutLemmas.{near-beside}
use Rattle.qo_sound.proofs.PlugLemmas.{held-phased}
use Rattle.qo_sound.proofs.UnplugLemmas.{detach-rest, HasPins}
use Rattle.qo_sound.proofs.ViewLemmas.{PinsRootAlone}
use Rattle.qo_values.specs.declared.kinds.ResetKind.{ResetKind}
use Rattle.qo_values.specs.declared.kinds.ResetKind.TheVariants.{Cold}
use Rattle.qo_values.specs.Kinds.{entering}

-- the tree

phased-rest : (act : Act) (ns : List ℕ) (b : Board) → PinsRootAlone b → PinsRootAlone (phased act ns b)
phased-rest act ns b h =
    let sits : HasPins (1 ∷ []) (phased act ns b) = held-phased (1 ∷ []) act ns b (record { near = h.used; pins = h.pinned }) in
    record { used = sits.near; pinned = sits.pins }

holds-rest : (b : Board) (holds : List ℕ) → PinsRootAlone b → PinsRootAlone (record b { holds = holds })
holds-rest b holds h = record { used = near-beside None b holds b.pending b.notices b.notes h.used; pinned = h.pinned }

pub held-rest : (b : Board) (n : ℕ) (kind : ResetKind) → PinsRootAlone b → PinsRootAlone (after_hold b n kind)
unfolding after_hold
held-rest b n kind h =
    let out : List ℕ = filter (is_not_in_reset b) (post b n) in
    holds-rest (phased Hold out (phased (entering kind) out b)) (b.holds ++ n ∷ [])
    (phased-rest Hold out (phased (entering kind) out b) (phased-rest (entering kind) out b h))

pub released-rest : (b : Board) (n : ℕ) → PinsRootAlone b → PinsRootAlone (released b n)
unfolding released
released-rest b n h =
    let c : Board = record b { holds = without_first n b.holds } in
    phased-rest Exit (filter (is_not_in_reset c) (post c n)) c (holds-rest b (without_first n b.holds) h)

pulse-rest : (b : Board) (n : ℕ) (kind : ResetKind) → PinsRootAlone b → PinsRootAlone (pulse b n kind)
unfolding pulse
pulse-rest b n kind h = released-rest (after_hold b n kind) n (held-rest b n kind h)

completed-rest : (times : ℕ) (b : Board) → PinsRootAlone b → PinsRootAlone (all_completed times b)
completed-rest zero b h = h
completed-rest (suc times) b h = go (slice_get b.pending 0) refl (completed-rest times)
  where
    go : (o : Option Removal) → slice_get b.pending 0 ≡ o → ((c : Board) → PinsRootAlone c → PinsRootAlone (all_completed times c))
        → PinsRootAlone (all_completed (suc times) b)
    go None p rest = rw (all_completed, p) h
    go (Some d) p rest = rw (all_completed, p) (rest (completed b d.birth) (detach-rest b d.birth h))

pub reset-rest : (b : Board) → PinsRootAlone b → PinsRootAlone (reset_whole b)
unfolding reset_whole
reset-rest b h = pulse-rest (all_completed (length b.pending) b) MACHINE_BIRTH Cold (completed-rest (length b.pending) b h)

-- what is beside the objects

-- what has the same beside the objects
beside-leaves : (b c : Board) (records : List Record) (notes : List Note) (holds : List ℕ) → ResetLeaves b c
    → ResetLeaves b (record c { records = records; notes = notes; holds = holds })
beside-leaves b c records notes holds h =
    record {
      anonymous = h.anonymous;
      now = h.now;
      running = h.running;
      pending = h.pending;
      notices = h.notices;
      rings = h.rings;
      events = h.events;
    }

acted-leaves : (act : Act) (n : ℕ) (b c : Board) → ResetLeaves b c → ResetLeaves b (acted act n 0 c)
unfolding acted
acted-leaves act n b c h = let d : Board = acted act n 0 c in beside-leaves b c d.records d.notes c.holds h

phased-leaves : (act : Act) (ns : List ℕ) (b c : Board) → ResetLeaves b c → ResetLeaves b (phased act ns c)
phased-leaves act [] b c h = h
phased-leaves act (n ∷ ns) b c h = phased-leaves act ns b (acted act n 0 c) (acted-leaves act n b c h)

holds-leaves : (b c : Board) (holds : List ℕ) → ResetLeaves b c → ResetLeaves b (record c { holds = holds })
holds-leaves b c holds h = beside-leaves b c c.records c.notes holds h

pub none-leaves : (b : Board) → ResetLeaves b b
none-leaves b = record { anonymous = refl; now = refl; running = refl; pending = refl; notices = refl; rings = refl; events = refl }

pub held-leaves : (b : Board) (n : ℕ) (kind : ResetKind) → ResetLeaves b (after_hold b n kind)
unfolding after_hold
held-leaves b n kind =
    let out : List ℕ = filter (is_not_in_reset b) (post b n) in
    holds-leaves b (phased Hold out (phased (entering kind) out b)) (b.holds ++ n ∷ [])
    (phased-leaves Hold out b (phased (entering kind) out b) (phased-leaves (entering kind) out b b (none-leaves b)))

pub released-leaves : (b : Board) (n : ℕ) → ResetLeaves b (released b n)
unfolding released
released-leaves b n =
    let c : Board = record b { holds = without_first n b.holds } in
    phased-leaves Exit (filter (is_not_in_reset c) (post c n)) b c (holds-leaves b b (without_first n b.holds) (none-leaves b))

leaves-then : (b c d : Board) → ResetLeaves b c → ResetLeaves c d → ResetLeaves b d
leaves-then b c d h k =
    record {
      anonymous = k.anonymous ∙ h.anonymous;
      now = k.now ∙ h.now;
      running = k.running ∙ h.running;
      pending = k.pending ∙ h.pending;
      notices = k.notices ∙ h.notices;
      rings = k.rings ∙ h.rings;
      events = k.events ∙ h.events;
    }

pub pulse-leaves : (b : Board) (n : ℕ) (kind : ResetKind) → ResetLeaves b (pulse b n kind)
unfolding pulse
pulse-leaves b n kind = leaves-then b (after_hold b n kind) (released (after_hold b n kind) n) (held-leaves b n kind) (released-leaves (after_hold b n kind) n)
