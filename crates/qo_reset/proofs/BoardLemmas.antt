-- Phases on a heap are those on the boards that it shows.
use Rattle.std.proofs.Common.{◌≡◌, refl, ap, ap₂, sym, subst, ◌∙◌, ℕ, suc, not, ◌&&◌, cond, Bool, true, false, eqb, if◌then◌else◌, List, [], ◌∷◌, ◌++◌, length, filter, filter_map, count_by, nat_lt, Option, Some, None, codes, ◌+◌, arith}
use Rattle.std.specs.List.{cons_option, flat_map, list_any}
use Rattle.std.specs.Str.{bytes_eq}
use Rattle.std.proofs.Math.Path.{fun_ext}
use Rattle.qo_values.specs.declared.kinds.Act.{Act}
use Rattle.qo_values.specs.declared.kinds.Act.TheVariants.{Enter, Hold, Exit}
use Rattle.qo_values.specs.declared.limits.TheConstants.{HOLD_COUNT_MAX}
use Rattle.qo_model.specs.Board.{Board}
use Rattle.qo_model.specs.Board as board
use Rattle.qo_model.specs.Clocks.{acted}
use Rattle.qo_model.specs.Depth.{among, by_depth}
use Rattle.qo_model.specs.Devices.{buses_of, bus_in, clock_name, kids_of, strong_in}
use Rattle.qo_model.specs.Paths.{is_of}
use Rattle.qo_model.specs.Release.{without_first}
use Rattle.qo_model.specs.Reset.{after_hold, below, count, exceeds_depth, is_not_in_reset, phased, plugged, post, pulse, released}
use Rattle.qo_object.specs.declared.slots.Slot.{Slot}
use Rattle.qo_object.specs.declared.slots.Slot.TheVariants.{Plain, Child, Link, Alias}
use Rattle.qo_object.specs.BoardObject.{birth_of, shown_slot, shown_slots}
use Rattle.qo_object.specs.Slots.{Named}
use Rattle.qo_heap.specs.Acts.{Acts}
use Rattle.qo_heap.specs.Board.{Shows}
use Rattle.qo_heap.specs.Objects.{Objects, slots_of}
use Rattle.qo_heap.proofs.ActsLemmas.{acts-then}
use Rattle.qo_heap.proofs.ActsReads.{acts-length}
use Rattle.qo_heap.proofs.BoardActs.{shows-acted}
use Rattle.qo_heap.proofs.BoardReads.{shows-of, shows-size, shows-slots}
use Rattle.qo_reset.specs.Phases.{acted_on, walked, below_on, chosen, count_on, exceeds_depth_at, is_bus, kids_in, phase_on, picked, picks, post_by, turned_to}
use Rattle.qo_reset.proofs.WalkLemmas.{acts-below, acts-chosen, walked-acts}
use Rattle.qo_values.specs.declared.kinds.ResetKind.{ResetKind}
use Rattle.qo_values.specs.Kinds.{entering}

-- acts on objects in order

pub shows-walked : (act : Act) (ns : List ℕ) (b : Board) (v : Objects) → Shows b v → Shows (phased act ns b) (walked act ns v)
unfolding walked
shows-walked act [] b v s = s
shows-walked act (n ∷ ns) b v s = shows-walked act ns (acted act n 0 b) (acted_on act n v) (shows-acted b v s act n 0)

-- who is below whom

strong-shown : (s : Slot) → strong_in (shown_slot s) ≡ birth_of (turned_to (λ _. false) true ([], s))
strong-shown (Plain val) = refl
strong-shown (Child key) = refl
strong-shown (Link ty true target) = refl
strong-shown (Link ty false target) = refl
strong-shown (Alias key name) = refl

kids-shown : (bus : ℕ → Bool) (slots : List Named) → filter_map (λ (s : List ℕ × board.Slot). strong_in s.1) (shown_slots slots) ≡ kids_in bus true slots
kids-shown bus [] = refl
kids-shown bus (s ∷ slots) = ap₂ (λ (o : Option ℕ) (l : List ℕ). cons_option o l) (strong-shown s.1) (kids-shown bus slots)

bus-shown : (b : Board) (name : List ℕ) (s : Slot) → bus_in b (name, shown_slot s) ≡ birth_of (turned_to (is_of b (codes "bus")) false (name, s))
bus-shown b name (Plain val) = refl
bus-shown b name (Child key) = go (is_of b (codes "bus") key.birth && not (bytes_eq name clock_name))
  where
    go : (t : Bool) → cond t (Some key.birth) None ≡ birth_of (cond t (Some key) None)
    go true = refl
    go false = refl
bus-shown b name (Link ty true target) = refl
bus-shown b name (Link ty false target) = refl
bus-shown b name (Alias key of) = refl

buses-shown : (b : Board) (slots : List Named) → filter_map (bus_in b) (shown_slots slots) ≡ kids_in (is_of b (codes "bus")) false slots
buses-shown b [] = refl
buses-shown b (s ∷ slots) = ap₂ (λ (o : Option ℕ) (l : List ℕ). cons_option o l) (bus-shown b s.0 s.1) (buses-shown b slots)

shows-bus : (b : Board) (v : Objects) → Shows b v → is_of b (codes "bus") ≡ is_bus v
shows-bus b v s = fun_ext (shows-of b v s (codes "bus"))

shows-below : (b : Board) (v : Objects) → Shows b v → below b ≡ below_on v
shows-below b v s = fun_ext (λ n. go n (is_of b (codes "bus") n) ∙ ap (λ (bus : ℕ → Bool). kids_in bus (bus n) (slots_of v n)) (shows-bus b v s))
  where
    go : (n : ℕ) (t : Bool) → cond t (kids_of b n) (buses_of b n) ≡ kids_in (is_of b (codes "bus")) t (slots_of v n)
    go n true =
        ap (λ (l : List (List ℕ × board.Slot)). filter_map (λ (x : List ℕ × board.Slot). strong_in x.1) l) (shows-slots b v s n)
        ∙ kids-shown (is_of b (codes "bus")) (slots_of v n)
    go n false = ap (filter_map (bus_in b)) (shows-slots b v s n) ∙ buses-shown b (slots_of v n)

pub shows-post : (b : Board) (v : Objects) → Shows b v → post b ≡ post_by (below_on v) (suc (length v.rows))
unfolding post post_by
shows-post b v s =
    fun_ext
    (λ n. ap₂ (λ (next : ℕ → List ℕ) (d : ℕ). by_depth (λ (f : ℕ → List ℕ) (o : ℕ). flat_map f (next o) ++ o ∷ []) (λ _. []) (suc d) n) (shows-below b v s)
    (shows-size b v s))

counts-shown : (b : Board) (v : Objects) → Shows b v → count b ≡ count_on v b.holds
unfolding count_on
counts-shown b v s = fun_ext (λ n. ap (λ (f : ℕ → List ℕ). count_by (λ (r : ℕ). among (f r) n) b.holds) (shows-post b v s))

shows-chosen : (only : Bool) (b : Board) (v : Objects) → Shows b v → (λ n. if only then is_not_in_reset b n else true) ≡ chosen only b.holds v
shows-chosen true b v s = fun_ext (λ n. ap (λ (f : ℕ → ℕ). eqb (f n) 0) (counts-shown b v s))
shows-chosen false b v s = refl

pub shows-picks : (only : Bool) (b : Board) (v : Objects) → Shows b v → (n : ℕ) → picked only b (post b n) ≡ picks only b.holds n v
unfolding picks
shows-picks only b v s n = ap₂ (λ (p : ℕ → Bool) (l : List ℕ). filter p l) (shows-chosen only b v s) (ap (λ (f : ℕ → List ℕ). f n) (shows-post b v s))

acts-picks : (only : Bool) (holds : List ℕ) (n : ℕ) (v w : Objects) → Acts v w → picks only holds n w ≡ picks only holds n v
unfolding picks
acts-picks only holds n v w acts = rw (acts-chosen only holds v w acts, acts-below v w acts, acts-length v w acts) refl

pub phase-acts : (act : Act) (only : Bool) (holds : List ℕ) (n : ℕ) (v : Objects) → Acts v (phase_on act only holds n v)
phase-acts act only holds n v = walked-acts act (picks only holds n v) v

-- a phase, and a phase after acts

abbrev pub all_picked : Bool → Board → ℕ → List ℕ
all_picked only b n = picked only b (post b n)

shows-phase : (act : Act) (only : Bool) (n : ℕ) (b : Board) (v : Objects) → Shows b v
    → Shows (phased act (all_picked only b n) b) (phase_on act only b.holds n v)
shows-phase act only n b v s =
    subst (λ (l : List ℕ). Shows (phased act l b) (phase_on act only b.holds n v)) (sym (shows-picks only b v s n))
    (shows-walked act (picks only b.holds n v) b v s)

-- a phase of c, which shows w after acts on v, of the objects that b lists
shows-next : (act : Act) (only : Bool) (n : ℕ) (b c : Board) (v w : Objects) → Shows b v → Acts v w → Shows c w
    → Shows (phased act (all_picked only b n) c) (phase_on act only b.holds n w)
shows-next act only n b c v w s acts t =
    subst (λ (l : List ℕ). Shows (phased act l c) (phase_on act only b.holds n w)) (acts-picks only b.holds n v w acts ∙ sym (shows-picks only b v s n))
    (shows-walked act (picks only b.holds n w) c w t)

-- holds do not show
shows-holds : (b : Board) (v : Objects) (holds : List ℕ) → Shows b v → Shows (record b { holds = holds }) v
shows-holds b v holds s = record { records = s.records; born = s.born; pins = s.pins; notes = s.notes; events = s.events; now = s.now }

-- two phases
shows-twice : (act : Act) (n : ℕ) (only : Bool) (b : Board) (v : Objects) → Shows b v
    → Shows (phased Hold (all_picked only b n) (phased act (all_picked only b n) b)) (phase_on Hold only b.holds n (phase_on act only b.holds n v))
shows-twice act n only b v s =
    let first : Objects = phase_on act only b.holds n v in
    shows-next Hold only n b (phased act (all_picked only b n) b) v first s (phase-acts act only b.holds n v) (shows-phase act only n b v s)

-- the calls

pub shows-held : (n : ℕ) (kind : ResetKind) (b : Board) (v : Objects) → Shows b v
    → Shows (after_hold b n kind) (phase_on Hold true b.holds n (phase_on (entering kind) true b.holds n v))
unfolding after_hold
shows-held n kind b v s =
    shows-holds (phased Hold (all_picked true b n) (phased (entering kind) (all_picked true b n) b)) _ (b.holds ++ n ∷ [])
    (shows-twice (entering kind) n true b v s)

pub shows-released : (n : ℕ) (b : Board) (v : Objects) → Shows b v → Shows (released b n) (phase_on Exit true (without_first n b.holds) n v)
unfolding released
shows-released n b v s = shows-phase Exit true n (record b { holds = without_first n b.holds }) v (shows-holds b v (without_first n b.holds) s)

pub filter-all : (l : List ℕ) → filter (λ _. true) l ≡ l
filter-all [] = refl
filter-all (n ∷ l) = ap (λ (r : List ℕ). n ∷ r) (filter-all l)

abbrev plugged_on : List ℕ → ℕ → Objects → Objects
plugged_on holds n v = phase_on Exit true holds n (phase_on Hold false holds n (phase_on Enter false holds n v))

pub shows-plugged : (n : ℕ) (b : Board) (v : Objects) → Shows b v
    → Shows (plugged b n) (phase_on Exit true b.holds n (phase_on Hold false b.holds n (phase_on Enter false b.holds n v)))
unfolding plugged
shows-plugged n b v s =
    let first : Objects = phase_on Enter false b.holds n v in
    let second : Objects = phase_on Hold false b.holds n first in
    let acts : Acts v second = acts-then v first second (phase-acts Enter false b.holds n v) (phase-acts Hold false b.holds n first) in
    let after : Board = phased Hold (all_picked false b n) (phased Enter (all_picked false b n) b) in
    let last = shows-next Exit true n b after v second s acts (shows-twice Enter n false b v s) in
    subst (λ (l : List ℕ). Shows (phased Exit (all_picked true b n) (phased Hold l (phased Enter l b))) (plugged_on b.holds n v)) (filter-all (post b n)) last

-- phases leave the holds

acted-holds : (act : Act) (n p : ℕ) (c : Board) → (acted act n p c).holds ≡ c.holds
unfolding acted
acted-holds act n p c = refl

phased-holds : (act : Act) (os : List ℕ) (b : Board) → (phased act os b).holds ≡ b.holds
phased-holds act [] b = refl
phased-holds act (o ∷ os) b = phased-holds act os (acted act o 0 b) ∙ acted-holds act o 0 b

pub held-holds : (b : Board) (n : ℕ) (kind : ResetKind) → (after_hold b n kind).holds ≡ b.holds ++ n ∷ []
unfolding after_hold
held-holds b n kind = refl

pub released-holds : (b : Board) (n : ℕ) → (released b n).holds ≡ without_first n b.holds
unfolding released
released-holds b n =
    let c : Board = record b { holds = without_first n b.holds } in
    phased-holds Exit (filter (is_not_in_reset c) (post c n)) c

pub plugged-holds : (b : Board) (n : ℕ) → (plugged b n).holds ≡ b.holds
unfolding plugged
plugged-holds b n =
    let e : Board = phased Enter (post b n) b in
    let h : Board = phased Hold (post b n) e in
    phased-holds Exit (filter (is_not_in_reset b) (post b n)) h ∙ phased-holds Hold (post b n) e ∙ phased-holds Enter (post b n) b

pub pulse-is : (b : Board) (n : ℕ) (kind : ResetKind) → pulse b n kind ≡ released (after_hold b n kind) n
unfolding pulse
pulse-is b n kind = refl

-- how many holds there are, and the limit

pub shows-count : (b : Board) (v : Objects) → Shows b v → (holds : List ℕ) → b.holds ≡ holds → (n : ℕ) → count b n ≡ count_on v holds n
shows-count b v s holds same n = ap (λ (f : ℕ → ℕ). f n) (counts-shown b v s) ∙ ap (λ (l : List ℕ). count_on v l n) same

pub shows-deep : (b : Board) (v : Objects) (n levels : ℕ) → Shows b v → levels ≡ length v.rows + 1
    → list_any (exceeds_depth_at v b.holds) (post_by (below_on v) levels n) ≡ exceeds_depth b n
shows-deep b v n levels s e =
    let same : levels ≡ suc (length v.rows) = omega (arith, e) in
    ap (λ (d : ℕ). list_any (exceeds_depth_at v b.holds) (post_by (below_on v) d n)) same
    ∙ ap₂ (λ (f : ℕ → List ℕ) (g : ℕ → ℕ). list_any (λ (o : ℕ). nat_lt HOLD_COUNT_MAX (g o)) (f n)) (sym (shows-post b v s)) (sym (counts-shown b v s))
