-- The law: what keeps a board in order.
use Rattle.std.proofs.Common.{◌≡◌, refl, sym, subst, rules, ℕ, Bool, true, false, not, eqb, List, [], ◌∷◌, ◌++◌, filter, filter_map, map, codes}
use Rattle.qo_model.proofs.Common.{⊤, AllByRecursion, bytes_eq, is_id, OBJECTS_BIRTH, PERIPHERAL_BIRTH, Val, Board, Record, Ring, slots_at, among, acted, Change, added, changed, deleted, severed, wrote, opening_board, Rises, is_a, types}
use Rattle.std.proofs.lemmas.Bool.{eqb-true}
use Rattle.qo_sound.proofs.FirmBoardLemmas.{WellFormed}
use Rattle.qo_sound.proofs.RecordLemmas.{all-append, all-filter, all-map, all-unmap}
use Rattle.qo_sound.proofs.SearchLemmas.{all-found}
use Rattle.qo_sound.proofs.ViewLemmas.{rest-from_sound}
use Rattle.qo_steps.specs.Changes.{Changes}
use Rattle.qo_steps.specs.Gains.{Gains, GainsLaw}
use Rattle.qo_steps.proofs.GainsLemmas.{gains_lem}
use Rattle.qo_sound_clocks.specs.RegisterWrites.{registers_set}
use Rattle.qo_sound_devices.specs.SoundDevices.{SoundDevices}
use Rattle.qo_sound_devices.specs.SoundPlaces.{child_entries, child_entry, kid_entry}
use Rattle.qo_sound_shapes.proofs.BoardLemmas.{all-same}
use Rattle.qo_sound_order.specs.OrderKept.{OrderKeptLaw}
use Rattle.qo_sound_order.specs.SoundOrder.{AllConcrete, HasId, SoundOrder}
use Rattle.qo_sound_order.proofs.EntryLemmas.{Ascends, children-births, kids-births}
use Rattle.qo_sound_order.proofs.ObjectLemmas.{fact-acted, fact-asked, fact-clock_scaled, fact-clock_set, fact-deleted, fact-detach, fact-finalize, fact-held, fact-let_go, fact-pulse, fact-registers, fact-released, fact-reset, fact-severed, fact-unpin}
use Rattle.qo_sound_order.proofs.OrderedLemmas.{InOrder, Ordered, each-ordered, named_by_ids, ordered-each, ordered-keeps}
use Rattle.qo_sound_order.proofs.PlugLemmas.{order-plugged}
use Rattle.qo_sound_order.proofs.TypesLemmas.{types_kept_lem}
use Rattle.qo_sound_order.proofs.UserObjectLemmas.{order-added}
use Rattle.qo_sound_order.proofs.WriteLemmas.{order-wrote}

-- any value may stand in a slot
abbrev Any : Val → Type 0
Any v = ⊤

abbrev RingIds : List Ring → Type 0
RingIds rings = AllByRecursion (λ (r : Ring). is_id r.id ≡ true) rings

-- order, object by object, and back
to-each : (b : Board) → SoundOrder b → InOrder b
to-each b h =
    ordered-each b (λ n.
    record {
      children = subst (λ (ns : List ℕ). Rises (n ∷ ns)) (children-births (slots_at b n)) (h.children n);
      kids = λ bus. subst (λ (ns : List ℕ). Rises (n ∷ ns)) (kids-births (slots_at b n)) (h.kids n bus);
      ids = λ its. ids n its;
    })
  where
    ids : (n : ℕ) → among named_by_ids n ≡ true → AllByRecursion HasId (child_entries b n)
    ids n its = go (eqb n OBJECTS_BIRTH) refl (eqb n PERIPHERAL_BIRTH) refl
      where
        go : (t : Bool) → eqb n OBJECTS_BIRTH ≡ t → (u : Bool) → eqb n PERIPHERAL_BIRTH ≡ u → AllByRecursion HasId (child_entries b n)
        go true p u q = subst (λ (m : ℕ). AllByRecursion HasId (child_entries b m)) (sym (eqb-true n OBJECTS_BIRTH p)) h.objects
        go false p true q = subst (λ (m : ℕ). AllByRecursion HasId (child_entries b m)) (sym (eqb-true n PERIPHERAL_BIRTH q)) h.devices
        go false p false q = absurd (let clash : false ≡ true = rw (p, q) at its in cc)

from-each : (b : Board) → InOrder b → RingIds b.rings → AllConcrete b → SoundOrder b
from-each b h rings concrete =
    record {
      rings = rings;
      objects = (each-ordered b h OBJECTS_BIRTH).ids refl;
      devices = (each-ordered b h PERIPHERAL_BIRTH).ids refl;
      children = λ n. subst (λ (ns : List ℕ). Rises (n ∷ ns)) (sym (children-births (slots_at b n))) (each-ordered b h n).children;
      kids = λ n bus. subst (λ (ns : List ℕ). Rises (n ∷ ns)) (sym (kids-births (slots_at b n))) ((each-ordered b h n).kids bus);
      concrete = concrete;
    }

-- rings
other-rings : (b : Board) (rings : List Ring) → RingIds rings → SoundOrder b → SoundOrder (record b { rings = rings })
other-rings b rings ids h =
    record { rings = ids; objects = h.objects; devices = h.devices; children = h.children; kids = h.kids; concrete = h.concrete }

ids-mapped : (rings others : List Ring) → map (λ (r : Ring). r.id) rings ≡ map (λ (r : Ring). r.id) others → RingIds others → RingIds rings
ids-mapped rings others e h =
    all-unmap (λ (r : Ring). is_id r.id ≡ true) (λ (id : List ℕ). is_id id ≡ true) (λ (r : Ring). r.id) (λ r k. k) rings
    (subst (AllByRecursion (λ (id : List ℕ). is_id id ≡ true)) (sym e)
    (all-map (λ (r : Ring). is_id r.id ≡ true) (λ (id : List ℕ). is_id id ≡ true) (λ (r : Ring). r.id) (λ r k. k) others h))

-- the opening board
abbrev UpChildren : Record → Type 0
UpChildren r = Ascends r.birth (filter_map child_entry r.slots)

abbrev UpKids : Record → Type 0
UpKids r = is_a r.kind (codes "bus") ≡ true → Ascends r.birth (filter_map kid_entry r.slots)

abbrev UpNames : Record → Type 0
UpNames r = among named_by_ids r.birth ≡ true → AllByRecursion HasId (filter_map child_entry r.slots)

opening-children : AllByRecursion UpChildren opening_board.records
unfolding opening_board types
opening-children = search rules

opening-kids : AllByRecursion UpKids opening_board.records
unfolding opening_board types
opening-kids = search rules

opening-names : AllByRecursion UpNames opening_board.records
unfolding opening_board types
opening-names = search rules

opening-order : InOrder opening_board
opening-order n r e =
    record {
      children = all-found UpChildren n opening_board.records opening-children r e;
      kids = all-found UpKids n opening_board.records opening-kids r e;
      ids = all-found UpNames n opening_board.records opening-names r e;
    }

opening-rings : RingIds opening_board.rings
unfolding opening_board
opening-rings = tt

-- changes
along : (b c : Board) → Gains b c → (AllConcrete b → AllConcrete c) → (InOrder b → InOrder c) → SoundOrder b → SoundOrder c
along b c gains concrete order h = from-each c (order (to-each b h)) (subst RingIds (sym gains.rings) h.rings) (concrete h.concrete)

firm : (b : Board) → SoundDevices b → WellFormed b
firm b devices = (rest-from_sound b devices.tree).used.firm

changed-order : (b : Board) (change : Change) → WellFormed b → InOrder b → InOrder (changed b change)
changed-order b (added driver id props) good h = order-added b driver id props good h
changed-order b (deleted id) good h = fact-deleted Any Ordered ordered-keeps b id h
changed-order b (wrote n name v) good h = order-wrote b n name v h
changed-order b (severed n) good h = fact-severed Any Ordered ordered-keeps b n h

order-changes : Changes (λ types b c. SoundDevices b → SoundOrder b → SoundOrder c)
order-changes =
    let gains : GainsLaw = gains_lem in
    let kinds : Changes (λ types b c. AllConcrete b → AllConcrete c) = types_kept_lem.changes in
    record {
      finalized = λ b n free devices. along b _ (gains.finalized b n free) (kinds.finalized b n free) (fact-finalize Any Ordered ordered-keeps n b free);
      slot_let_go = λ b owner i devices.
          along b _ (gains.slot_let_go b owner i) (kinds.slot_let_go b owner i) (fact-let_go Any Ordered ordered-keeps b owner i);
      unpinned = λ b n devices. along b _ (gains.unpinned b n) (kinds.unpinned b n) (fact-unpin Any Ordered ordered-keeps b n);
      attempt = λ b t devices. along b _ (gains.attempt b t) (kinds.attempt b t) (λ k. k);
      given_up = λ b t bus stage devices. along b _ (gains.given_up b t bus stage) (kinds.given_up b t bus stage) (λ k. k);
      cut = λ b t i joined devices. along b _ (gains.cut b t i joined) (kinds.cut b t i joined) (λ k. k);
      asked_for = λ b id devices. along b _ (gains.asked_for b id) (kinds.asked_for b id) (fact-asked Any Ordered ordered-keeps b id);
      refused_by = λ b d devices. along b _ (gains.refused_by b d) (kinds.refused_by b d) (λ k. k);
      held_so = λ b n kind good on devices. along b _ (gains.held_so b n kind tt tt) (kinds.held_so b n kind tt tt) (fact-held Any Ordered ordered-keeps b n kind);
      released_so = λ b n good on devices. along b _ (gains.released_so b n tt tt) (kinds.released_so b n tt tt) (fact-released Any Ordered ordered-keeps b n);
      pulsed = λ b n kind good on devices. along b _ (gains.pulsed b n kind tt tt) (kinds.pulsed b n kind tt tt) (fact-pulse Any Ordered ordered-keeps b n kind);
      set = λ b d c period e devices.
          along b d (gains.set b d c period e) (kinds.set b d c period e) (fact-clock_set Any Ordered ordered-keeps b d c period tt e);
      scaled = λ b d c mul div e devices.
          along b d (gains.scaled b d c mul div e) (kinds.scaled b d c mul div e) (fact-clock_scaled Any Ordered ordered-keeps b d c mul div tt tt e);
      change = λ b change devices. along b _ (gains.change b change) (kinds.change b change) (changed-order b change (firm b devices));
      plugged = λ b a good devices. along b _ (gains.plugged b a tt) (kinds.plugged b a tt) (order-plugged b a devices);
      detached = λ b d good on devices. along b _ (gains.detached b d tt tt) (kinds.detached b d tt tt) (fact-detach Any Ordered ordered-keeps b d);
      reset = λ b good devices. along b _ (gains.reset b tt) (kinds.reset b tt) (fact-reset Any Ordered ordered-keeps b);
    }

pub order_kept_lem : OrderKeptLaw
unfolding acted
order_kept_lem =
    record {
      opening = from-each opening_board opening-order opening-rings types_kept_lem.opening;
      beside = λ b c records rings h.
          from-each c (all-same Ordered b c records (to-each b h)) (subst RingIds (sym rings) h.rings) (types_kept_lem.beside b c records h.concrete);
      ring_added = λ b r id h. other-rings b (b.rings ++ r ∷ []) (all-append (λ (x : Ring). is_id x.id ≡ true) b.rings (r ∷ []) h.rings (id, tt)) h;
      ring_removed = λ b id h.
          other-rings b (filter (λ (r : Ring). not (bytes_eq r.id id)) b.rings)
          (all-filter (λ (x : Ring). is_id x.id ≡ true) (λ (r : Ring). not (bytes_eq r.id id)) b.rings h.rings) h;
      ring_filled = λ b rings same h. other-rings b rings (ids-mapped rings b.rings same h.rings) h;
      acts = λ act n period b h.
          from-each (acted act n period b) (fact-acted Any Ordered ordered-keeps act n period b (to-each b h)) h.rings
          (types_kept_lem.acts act n period b h.concrete);
      registers = λ b n registers h.
          from-each (registers_set b n registers) (fact-registers Any Ordered ordered-keeps b n registers (to-each b h)) h.rings
          (types_kept_lem.registers b n registers h.concrete);
      changes = order-changes;
    }
