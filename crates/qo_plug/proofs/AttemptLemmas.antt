-- A new device acts with its buses, though it stands nowhere, and is given up.
use Rattle.std.proofs.Common.{◌≡◌, refl, ap, ap₂, sym, subst, ◌∙◌, ℕ, zero, suc, ◌+◌, ◌<◌, ◌≤◌, Bool, true, false, ◌&&◌, eqb, leb, nat_le, List, [], ◌∷◌, ◌++◌, append-nil, codes, filter, filter_map, length, map, option_to_list, slice_get, take, Option, Some, None, option_map, IfSome, arith}
use Rattle.std.specs.Prelude.{◌==◌, if◌then◌else◌, option_and_then}
use Rattle.std.specs.List.{AllByRecursion, cons_option, position_or_len}
use Rattle.std.proofs.lemmas.Bool.{eqb-true}
use Rattle.std.proofs.lemmas.Bool.Decides.{nat_tests}
use Rattle.std.proofs.lemmas.List.{take_all}
use Rattle.std.proofs.lemmas.Option.{same_Some}
use Rattle.qo_values.specs.declared.kinds.Act.{Act}
use Rattle.qo_values.specs.declared.kinds.Act.TheVariants.{Realize, Unrealize, Enter, Hold, Exit}
use Rattle.qo_values.specs.declared.kinds.TypeId.{TypeId}
use Rattle.qo_kinds.specs.Bodies.{IsTimely, MayAct}
use Rattle.qo_kinds.proofs.BodyLemmas.{acted-timely}
use Rattle.qo_slots.specs.declared.keys.Key.{Key}
use Rattle.qo_heap.specs.Rows.{IsLive}
use Rattle.qo_model.specs.declared.notes.Deed.TheVariants.{Did}
use Rattle.qo_model.specs.Board.{Board, Record}
use Rattle.qo_model.specs.Changes as changes
use Rattle.qo_model.specs.Objects.{Given}
use Rattle.qo_model.specs.Opening.{fresh_record}
use Rattle.qo_model.specs.Plug.{acted_all, born_from, bus_births, drafted, is_bus, passed, plug_attempt}
use Rattle.qo_model.specs.Release.{edit, unpin}
use Rattle.qo_model.specs.Reset.{count, phased}
use Rattle.qo_model.specs.Types.{is_a, slots_of}
use Rattle.qo_model.proofs.DraftEndsLemmas.{IsDraft, kids_from, kinds_in}
use Rattle.qo_sound.specs.TreeKept.{SoundTree}
use Rattle.qo_sound.proofs.DraftLemmas.{with_pins}
use Rattle.qo_sound.proofs.StepsLemmas.{passed-steps}
use Rattle.qo_object.specs.Content.{Content, acted_at}
use Rattle.qo_object.specs.BoardObject.{birth_of}
use Rattle.qo_heap.specs.Acts.{Acts, KeepsCounts, KeepsPeriods, stilled}
use Rattle.qo_heap.specs.Board.{Shows, record_of}
use Rattle.qo_heap.specs.Objects.{IsHeap, Objects, content_of}
use Rattle.qo_heap.proofs.ActsLemmas.{acts-act, acts-live, acts-none, acts-then}
use Rattle.qo_heap.proofs.PlacesLemmas.{at-key, object-at-place}
use Rattle.qo_heap.proofs.BoardObjects.{content-edited, content-other}
use Rattle.qo_properties.proofs.NewSlotLemmas.{next-slot, past}
use Rattle.qo_reset.specs.Phases.{acted_on, walked}
use Rattle.qo_reset.proofs.BoardLemmas.{shows-walked}
use Rattle.qo_reset.proofs.CountLemmas.{all-counts}
use Rattle.qo_reset.proofs.WalkLemmas.{acted-periods, walked-acts, walked-append}
use Rattle.qo_plug.specs.Attempts.{first_acted, last_acted, let_out, new_bus, new_buses, passed_on}
use Rattle.qo_plug.specs.Drafts.{IsQuiet, given_draft, with_values}
use Rattle.qo_plug.proofs.CutLemmas.{draft-made, given-is, held, held-is, rest}

-- who is quiet stays quiet

abbrev AreQuiet : ℕ → Option Content → Type 0
AreQuiet now o = IfSome o (λ (c : Content). IsTimely now c.body)

quiet-acted : (act : Act) (n : ℕ) (v : Objects) (m : ℕ) → IsQuiet v m → IsQuiet (acted_on act n v) m
quiet-acted act n v m q = go (eqb m n) refl
  where
    changed : (o : Option Content) → AreQuiet v.time o → AreQuiet v.time (option_map (acted_at act v.time 0) o)
    changed None p = tt
    changed (Some c) p = acted-timely act v.time 0 c.body p

    go : (t : Bool) → eqb m n ≡ t → IsQuiet (acted_on act n v) m
    go true p =
        subst (λ (k : ℕ). IsQuiet (acted_on act n v) k) (sym (eqb-true m n p))
        (subst (AreQuiet v.time) (sym (content-edited v n (acted_at act v.time 0))) (changed (content_of v n) (subst (IsQuiet v) (eqb-true m n p) q)))
    go false p = subst (AreQuiet v.time) (sym (content-other v n m (acted_at act v.time 0) p)) q

pub quiet-walked : (act : Act) (ns : List ℕ) (v : Objects) (m : ℕ) → IsQuiet v m → IsQuiet (walked act ns v) m
unfolding walked
quiet-walked act [] v m q = q
quiet-walked act (n ∷ ns) v m q = quiet-walked act ns (acted_on act n v) m (quiet-acted act n v m q)

pub quiet-may : (act : Act) (v : Objects) (m : ℕ) → IsQuiet v m → IfSome (content_of v m) (λ (c : Content). MayAct act v.time c.body)
quiet-may act v m q = go (content_of v m) q
  where
    go : (o : Option Content) → IfSome o (λ (c : Content). IsTimely v.time c.body) → IfSome o (λ (c : Content). MayAct act v.time c.body)
    go None p = tt
    go (Some c) p = λ reads. p

-- the buses of a new device, place by place

pub bus-at : (n : ℕ) (v : Objects) → IsHeap v → (place : ℕ) (key : Key) (t : TypeId) (bus : Bool)
    → Some key ≡ option_map (λ (row : Key × Content). row.0) (slice_get v.rows place)
    → option_map (λ (c : Content). c.kind) (content_of v key.birth) ≡ Some t
    → nat_le n key.birth && is_a t (codes "bus") ≡ bus
    → (if bus then Some key else None) ≡ option_and_then (new_bus n) (slice_get v.rows place)
bus-at n v good place key t bus e kind is =
    let (c, there) = at-key v.rows place key (sym e) in
    let own : content_of v key.birth ≡ Some c = object-at-place v.born v.rows place key c good.rising there in
    let its : c.kind ≡ t = same_Some c.kind t (sym (ap (option_map (λ (d : Content). d.kind)) own) ∙ kind) in
    let test : nat_le n key.birth && is_a c.kind (codes "bus") ≡ bus = ap (λ (k : TypeId). nat_le n key.birth && is_a k (codes "bus")) its ∙ is in
    sym (ap (option_and_then (new_bus n)) there ∙ ap (λ (b : Bool). if b then Some key else None) test)

abbrev birth_in : ℕ → Key × Content → Option ℕ
birth_in n row = birth_of (new_bus n row)

next-bus : (n i : ℕ) (rows : List (Key × Content)) (o : Option Key) → o ≡ option_and_then (new_bus n) (slice_get rows i)
    → new_buses n (take (i + 1) rows) ≡ new_buses n (take i rows) ++ option_to_list (birth_of o)
next-bus n i rows o e = go (slice_get rows i) refl
  where
    go : (r : Option (Key × Content)) → slice_get rows i ≡ r → new_buses n (take (i + 1) rows) ≡ new_buses n (take i rows) ++ option_to_list (birth_of o)
    go None p =
        let none : o ≡ None = e ∙ ap (option_and_then (new_bus n)) p in
        let over : length rows ≤ i = past rows i p in
        ap (new_buses n) (take_all (i + 1) rows (omega (arith, over)) ∙ sym (take_all i rows over))
        ∙ sym (append-nil (new_buses n (take i rows)))
        ∙ ap (λ (x : Option Key). new_buses n (take i rows) ++ option_to_list (birth_of x)) (sym none)
    go (Some row) p =
        let is : o ≡ new_bus n row = e ∙ ap (option_and_then (new_bus n)) p in
        next-slot (birth_in n) i rows row p ∙ ap (λ (x : Option Key). new_buses n (take i rows) ++ option_to_list (birth_of x)) (sym is)

-- acts leave them

new-still : (n : ℕ) (rows : List (Key × Content)) → new_buses n (map stilled rows) ≡ new_buses n rows
new-still n [] = refl
new-still n (row ∷ rows) = ap (cons_option (birth_in n row)) (new-still n rows)

take-still : (i : ℕ) (rows : List (Key × Content)) → take i (map stilled rows) ≡ map stilled (take i rows)
take-still zero rows = refl
take-still (suc i) [] = refl
take-still (suc i) (row ∷ rows) = ap (λ (l : List (Key × Content)). stilled row ∷ l) (take-still i rows)

taken-still : (n i : ℕ) (rows : List (Key × Content)) → new_buses n (take i (map stilled rows)) ≡ new_buses n (take i rows)
taken-still n i rows = ap (new_buses n) (take-still i rows) ∙ new-still n (take i rows)

taken-acts : (n i : ℕ) (v w : Objects) → Acts v w → new_buses n (take i w.rows) ≡ new_buses n (take i v.rows)
taken-acts n i v w acts = sym (taken-still n i w.rows) ∙ ap (λ (l : List (Key × Content)). new_buses n (take i l)) acts.rows ∙ taken-still n i v.rows

pub new-acts : (n : ℕ) (v w : Objects) → Acts v w → new_buses n w.rows ≡ new_buses n v.rows
new-acts n v w acts = sym (new-still n w.rows) ∙ ap (new_buses n) acts.rows ∙ new-still n v.rows

-- the loop over the places

pub record Reached (act : Act) (n i : ℕ) (v w : Objects) : Type 0 where
  pub is : w ≡ walked act (new_buses n (take i v.rows)) v
  pub acts : Acts v w

-- no object before the place of a birth is a bus from that birth on
abbrev place_from : ℕ → List (Key × Content) → ℕ
place_from n rows = position_or_len (λ (row : Key × Content). leb n row.0.birth) rows

none-before : (n : ℕ) (rows : List (Key × Content)) → new_buses n (take (place_from n rows) rows) ≡ []
none-before n [] = refl
none-before n (row ∷ rows) = go (leb n row.0.birth) refl (none-before n rows)
  where
    go : (t : Bool) → leb n row.0.birth ≡ t → new_buses n (take (place_from n rows) rows) ≡ []
        → new_buses n (take (place_from n (row ∷ rows)) (row ∷ rows)) ≡ []
    go true late none =
        let here : place_from n (row ∷ rows) ≡ 0 = rw late refl in
        ap (λ (k : ℕ). new_buses n (take k (row ∷ rows))) here
    go false early none =
        let one : place_from n (row ∷ rows) ≡ 1 + place_from n rows = rw early refl in
        let next : place_from n (row ∷ rows) ≡ suc (place_from n rows) = omega (arith, one) in
        let early-none : new_bus n row ≡ None = ap (λ (t : Bool). if t && is_a row.1.kind (codes "bus") then Some row.0 else None) early in
        ap (λ (k : ℕ). new_buses n (take k (row ∷ rows))) next
        ∙ ap (λ (o : Option Key). cons_option (birth_of o) (new_buses n (take (place_from n rows) rows))) early-none
        ∙ none

pub reached-first : (act : Act) (n i : ℕ) (v : Objects) → i ≡ place_from n v.rows → Reached act n i v v
unfolding walked
reached-first act n i v first =
    let none : new_buses n (take i v.rows) ≡ [] = ap (λ (k : ℕ). new_buses n (take k v.rows)) first ∙ none-before n v.rows in
    record { is = ap (λ (l : List ℕ). walked act l v) (sym none); acts = acts-none v }

pub reached-bus : (act : Act) (n i : ℕ) (v w x : Objects) (key : Key) → Reached act n i v w → Some key ≡ option_and_then (new_bus n) (slice_get w.rows i)
    → x ≡ acted_on act key.birth w → Reached act n (i + 1) v x
unfolding walked
reached-bus act n i v w x key r e is =
    let acts : Acts v x = acts-then v w x r.acts (subst (Acts w) (sym is) (acts-act w (record { birth = key.birth; deed = Did act }) key.birth act w.time 0)) in
    let more : new_buses n (take (i + 1) v.rows) ≡ new_buses n (take i v.rows) ++ key.birth ∷ [] =
    sym (taken-acts n (i + 1) v w r.acts) ∙ next-bus n i w.rows (Some key) e ∙ ap (λ (l : List ℕ). l ++ key.birth ∷ []) (taken-acts n i v w r.acts) in
    record {
      is =
          is ∙ ap (acted_on act key.birth) r.is
          ∙ sym (walked-append act (new_buses n (take i v.rows)) (key.birth ∷ []) v)
          ∙ ap (λ (l : List ℕ). walked act l v) (sym more);
      acts = acts;
    }

pub reached-other : (act : Act) (n i : ℕ) (v w : Objects) → Reached act n i v w → None ≡ option_and_then (new_bus n) (slice_get w.rows i)
    → Reached act n (i + 1) v w
reached-other act n i v w r e =
    let more : new_buses n (take (i + 1) v.rows) ≡ new_buses n (take i v.rows) =
    sym (taken-acts n (i + 1) v w r.acts) ∙ next-bus n i w.rows None e ∙ append-nil (new_buses n (take i w.rows)) ∙ taken-acts n i v w r.acts in
    record { is = r.is ∙ ap (λ (l : List ℕ). walked act l v) (sym more); acts = r.acts }

pub reached-quiet : (act : Act) (n i : ℕ) (v w : Objects) → Reached act n i v w → (m : ℕ) → IsQuiet v m → IsQuiet w m
reached-quiet act n i v w r m q = subst (λ (x : Objects). IsQuiet x m) (sym r.is) (quiet-walked act (new_buses n (take i v.rows)) v m q)

-- the device acts before its buses, or after them

pub first-is : (act : Act) (n : ℕ) (v u w : Objects) → u ≡ acted_on act n v → w ≡ walked act (new_buses n u.rows) u → w ≡ first_acted act n v
unfolding first_acted walked
first-is act n v u w is next =
    let acts : Acts v u = subst (Acts v) (sym is) (acts-act v (record { birth = n; deed = Did act }) n act v.time 0) in
    next ∙ ap (λ (l : List ℕ). walked act l u) (new-acts n v u acts) ∙ ap (walked act (new_buses n v.rows)) is

pub last-is : (act : Act) (n : ℕ) (v u w : Objects) → u ≡ walked act (new_buses n v.rows) v → w ≡ acted_on act n u → w ≡ last_acted act n v
unfolding last_acted walked
last-is act n v u w is next = next ∙ ap (acted_on act n) is ∙ sym (walked-append act (new_buses n v.rows) (n ∷ []) v)

-- what a device's acts leave
pub record Leaves (v w : Objects) : Type 0 where
  pub acts : Acts v w
  pub counts : KeepsCounts v w
  pub periods : KeepsPeriods v w
  pub quiet : (m : ℕ) → IsQuiet v m → IsQuiet w m

pub leaves-then : (v u w : Objects) → Leaves v u → Leaves u w → Leaves v w
leaves-then v u w l k =
    record {
      acts = acts-then v u w l.acts k.acts;
      counts = λ m. k.counts m ∙ l.counts m;
      periods = λ m. k.periods m ∙ l.periods m;
      quiet = λ m q. k.quiet m (l.quiet m q);
    }

all-periods : (act : Act) (ns : List ℕ) (v : Objects) → KeepsPeriods v (walked act ns v)
unfolding walked
all-periods act [] v m = refl
all-periods act (n ∷ ns) v m = all-periods act ns (acted_on act n v) m ∙ acted-periods act n v m

walked-leaves : (act : Act) (ns : List ℕ) (v : Objects) → Leaves v (walked act ns v)
walked-leaves act ns v = record { acts = walked-acts act ns v; counts = all-counts act ns v; periods = all-periods act ns v; quiet = quiet-walked act ns v }

pub buses-leaves : (act : Act) (ns : List ℕ) (v w : Objects) → w ≡ walked act ns v → Leaves v w
buses-leaves act ns v w is = subst (Leaves v) (sym is) (walked-leaves act ns v)

pub act-leaves : (act : Act) (n : ℕ) (v w : Objects) → w ≡ acted_on act n v → Leaves v w
unfolding walked
act-leaves act n v w is = subst (Leaves v) (sym is) (walked-leaves act (n ∷ []) v)

pub first-leaves : (act : Act) (n : ℕ) (v w : Objects) → w ≡ first_acted act n v → Leaves v w
unfolding first_acted
first-leaves act n v w is = subst (Leaves v) (sym is) (walked-leaves act (n ∷ new_buses n v.rows) v)

pub last-leaves : (act : Act) (n : ℕ) (v w : Objects) → w ≡ last_acted act n v → Leaves v w
unfolding last_acted
last-leaves act n v w is = subst (Leaves v) (sym is) (walked-leaves act (new_buses n v.rows ++ n ∷ []) v)

pub out-leaves : (out : Bool) (n : ℕ) (v w : Objects) → w ≡ let_out out n v → Leaves v w
out-leaves true n v w is = last-leaves Exit n v w is
out-leaves false n v w is = subst (Leaves v) (sym is) (record { acts = acts-none v; counts = λ m. refl; periods = λ m. refl; quiet = λ m q. q })

pub leaves-live : (v w : Objects) → Leaves v w → (key : Key) → IsLive v.rows key → IsLive w.rows key
leaves-live v w l key live = rw (acts-live v w l.acts key) live

-- all of these, one after another

pub entered-leaves : (n : ℕ) (v a b : Objects) → a ≡ first_acted Realize n v → b ≡ last_acted Enter n a → Leaves v b
entered-leaves n v a b first enter = leaves-then v a b (first-leaves Realize n v a first) (last-leaves Enter n a b enter)

pub held-leaves : (n : ℕ) (v a b c : Objects) → a ≡ first_acted Realize n v → b ≡ last_acted Enter n a → c ≡ last_acted Hold n b → Leaves v c
held-leaves n v a b c first enter hold = leaves-then v b c (entered-leaves n v a b first enter) (last-leaves Hold n b c hold)

pub let_out-leaves : (out : Bool) (n : ℕ) (v a b c d : Objects) → a ≡ first_acted Realize n v → b ≡ last_acted Enter n a → c ≡ last_acted Hold n b
    → d ≡ let_out out n c → Leaves v d
let_out-leaves out n v a b c d first enter hold exit = leaves-then v c d (held-leaves n v a b c first enter hold) (out-leaves out n c d exit)

pub passed-leaves : (out : Bool) (n : ℕ) (v w : Objects) → w ≡ passed_on out n v → Leaves v w
unfolding passed_on
passed-leaves out n v w is =
    let a : Objects = first_acted Realize n v in
    let b : Objects = last_acted Enter n a in
    let c : Objects = last_acted Hold n b in
    let d : Objects = let_out out n c in
    leaves-then v d w (let_out-leaves out n v a b c d refl refl refl refl) (last-leaves Unrealize n d w is)

-- on the board

phased-all : (act : Act) (ns : List ℕ) (c : Board) → phased act ns c ≡ acted_all act ns c
phased-all act [] c = refl
phased-all act (n ∷ ns) c = phased-all act ns _

shows-all : (act : Act) (ns : List ℕ) (c : Board) (v : Objects) → Shows c v → Shows (acted_all act ns c) (walked act ns v)
shows-all act ns c v s = subst (λ (d : Board). Shows d (walked act ns v)) (phased-all act ns c) (shows-walked act ns c v s)

-- a heap that shows a board and has these buses of a new device
record Acting (n : ℕ) (ns : List ℕ) (c : Board) (v : Objects) : Type 0 where
  shown : Shows c v
  buses : new_buses n v.rows ≡ ns

first-shown : (act : Act) (n : ℕ) (ns : List ℕ) (c : Board) (v : Objects) → Acting n ns c v → Acting n ns (acted_all act (n ∷ ns) c) (first_acted act n v)
unfolding first_acted
first-shown act n ns c v a =
    record {
      shown = subst (λ (ms : List ℕ). Shows (acted_all act (n ∷ ms) c) (walked act (n ∷ new_buses n v.rows) v)) a.buses
          (shows-all act (n ∷ new_buses n v.rows) c v a.shown);
      buses = new-acts n v (walked act (n ∷ new_buses n v.rows) v) (walked-acts act (n ∷ new_buses n v.rows) v) ∙ a.buses;
    }

last-shown : (act : Act) (n : ℕ) (ns : List ℕ) (c : Board) (v : Objects) → Acting n ns c v → Acting n ns (acted_all act (ns ++ n ∷ []) c) (last_acted act n v)
unfolding last_acted
last-shown act n ns c v a =
    record {
      shown = subst (λ (ms : List ℕ). Shows (acted_all act (ms ++ n ∷ []) c) (walked act (new_buses n v.rows ++ n ∷ []) v)) a.buses
          (shows-all act (new_buses n v.rows ++ n ∷ []) c v a.shown);
      buses = new-acts n v (walked act (new_buses n v.rows ++ n ∷ []) v) (walked-acts act (new_buses n v.rows ++ n ∷ []) v) ∙ a.buses;
    }

out-shown : (out : Bool) (n : ℕ) (ns : List ℕ) (c : Board) (v : Objects) → Acting n ns c v
    → Acting n ns (acted_all Exit (if out then ns ++ n ∷ [] else []) c) (let_out out n v)
out-shown true n ns c v a = last-shown Exit n ns c v a
out-shown false n ns c v a = a

shows-passed : (b : Board) (bus n : ℕ) (t : TypeId) (out : Bool) (c : Board) (v w : Objects) → out ≡ (count b bus == 0) → Acting n (bus_births n t) c v
    → w ≡ passed_on out n v
    → Shows (passed b bus n t c) w
unfolding passed_on
shows-passed b bus n t out c v w is a e =
    let ns : List ℕ = bus_births n t in
    let c1 : Board = acted_all Realize (n ∷ ns) c in
    let c2 : Board = acted_all Enter (ns ++ n ∷ []) c1 in
    let c3 : Board = acted_all Hold (ns ++ n ∷ []) c2 in
    let v1 : Objects = first_acted Realize n v in
    let v2 : Objects = last_acted Enter n v1 in
    let v3 : Objects = last_acted Hold n v2 in
    let held_is : Acting n ns c3 v3 = last-shown Hold n ns c2 v2 (last-shown Enter n ns c1 v1 (first-shown Realize n ns c v a)) in
    let gone : Shows (acted_all Unrealize (ns ++ n ∷ []) (acted_all Exit (if out then ns ++ n ∷ [] else []) c3)) (last_acted Unrealize n (let_out out n v3)) =
    (last-shown Unrealize n ns (acted_all Exit (if out then ns ++ n ∷ [] else []) c3) (let_out out n v3) (out-shown out n ns c3 v3 held_is)).shown in
    subst (λ (o : Bool). Shows (acted_all Unrealize (ns ++ n ∷ []) (acted_all Exit (if o then ns ++ n ∷ [] else []) c3)) w) is
    (subst (Shows (acted_all Unrealize (ns ++ n ∷ []) (acted_all Exit (if out then ns ++ n ∷ [] else []) c3))) (sym e) gone)

-- the buses of a device that was made

abbrev record_bus : ℕ → Record → Option ℕ
record_bus n r = if nat_le n r.birth && is_a r.kind (codes "bus") then Some r.birth else None

records-bus : (n : ℕ) (rows : List (Key × Content)) → filter_map (record_bus n) (map record_of rows) ≡ new_buses n rows
records-bus n [] = refl
records-bus n (row ∷ rows) = ap₂ cons_option (go (nat_le n row.0.birth && is_a row.1.kind (codes "bus"))) (records-bus n rows)
  where
    go : (t : Bool) → (if t then Some row.0.birth else None) ≡ birth_of (if t then Some row.0 else None)
    go true = refl
    go false = refl

before-none : (n k : ℕ) → k < n → (rs rest : List Record) → AllByRecursion (λ m. m ≤ k) (map (λ (r : Record). r.birth) rs)
    → filter_map (record_bus n) (rs ++ rest) ≡ filter_map (record_bus n) rest
before-none n k less [] rest low = refl
before-none n k less (r ∷ rs) rest low =
    let lower : r.birth ≤ k = low.0 in
    let before : nat_le n r.birth ≡ false = grind (arith, nat_tests, less, lower) in
    ap (λ (t : Bool). cons_option (if t && is_a r.kind (codes "bus") then Some r.birth else None) (filter_map (record_bus n) (rs ++ rest))) before
    ∙ before-none n k less rs rest low.1

one-bus : (n m : ℕ) (t : TypeId) (r : Record) (rs : List Record) (os : List (ℕ × TypeId)) → n ≤ m → r.birth ≡ m → r.kind ≡ t
    → filter_map (record_bus n) rs ≡ map (λ (o : ℕ × TypeId). o.0) (filter is_bus os)
    → filter_map (record_bus n) (r ∷ rs) ≡ map (λ (o : ℕ × TypeId). o.0) (filter is_bus ((m, t) ∷ os))
one-bus n m t r rs os le birth kind rest = go (is_a t (codes "bus")) refl
  where
    late : nat_le n r.birth ≡ true
    late = grind (arith, nat_tests, le, birth)

    here : (u : Bool) → is_a t (codes "bus") ≡ u → nat_le n r.birth && is_a r.kind (codes "bus") ≡ u
    here u e = ap (λ (x : Bool). x && is_a r.kind (codes "bus")) late ∙ ap (λ (k : TypeId). is_a k (codes "bus")) kind ∙ e

    go : (u : Bool) → is_a t (codes "bus") ≡ u → filter_map (record_bus n) (r ∷ rs) ≡ map (λ (o : ℕ × TypeId). o.0) (filter is_bus ((m, t) ∷ os))
    go true e = rw (e, here true e) (ap₂ (λ (k : ℕ) (l : List ℕ). k ∷ l) birth rest)
    go false e = rw (e, here false e) rest

kids-bus : (n m : ℕ) (ks : List TypeId) → n ≤ m → filter_map (record_bus n) (kids_from m ks) ≡ map (λ (o : ℕ × TypeId). o.0) (filter is_bus (born_from m ks))
kids-bus n m [] le = refl
kids-bus n m (k ∷ ks) le =
    one-bus n m k (fresh_record m k) (kids_from (suc m) ks) (born_from (suc m) ks) le refl refl (kids-bus n (suc m) ks (omega (arith, le)))

module _ (b : Board) (t : TypeId) (sound : SoundTree b) (props : List Given) where
  draft-buses : filter_map (record_bus (b.born + 1)) (given_draft b t props).records ≡ bus_births (b.born + 1) t
  draft-buses =
      let n : ℕ = b.born + 1 in
      let d : IsDraft b n t (kinds_in (slots_of t)) (edit n (with_values b props) (drafted b t)) = draft-made b t sound props (slots_of t) in
      ap (λ (c : Board). filter_map (record_bus n) c.records) (given-is b t sound props ∙ ap (with_pins (held b t sound)) d.shape)
      ∙ before-none n b.born (omega arith) b.records (record (changes.fresh n t) { slots = d.slots } ∷ kids_from (suc n) (kinds_in (slots_of t)))
      (rest b t sound).used.firm.within
      ∙ one-bus n n t (record (changes.fresh n t) { slots = d.slots }) (kids_from (suc n) (kinds_in (slots_of t))) (born_from (suc n) (kinds_in (slots_of t)))
      (omega arith) refl refl (kids-bus n (suc n) (kinds_in (slots_of t)) (omega arith))

  pub new-drafted : (v : Objects) → Shows (given_draft b t props) v → new_buses (b.born + 1) v.rows ≡ bus_births (b.born + 1) t
  new-drafted v s = sym (records-bus (b.born + 1) v.rows) ∙ ap (filter_map (record_bus (b.born + 1))) (sym s.records) ∙ draft-buses

  pub refused-late : (bus : ℕ) (out : Bool) (v w x : Objects) → out ≡ (count b bus == 0) → Shows (given_draft b t props) v → w ≡ passed_on out (b.born + 1) v
      → ((c : Board) → Shows c w → Shows (unpin c (b.born + 1)) x) → Shows (plug_attempt b t bus 8) x
  refused-late bus out v w x is s acted drops =
      let n : ℕ = b.born + 1 in
      let c : Board = passed b bus n t (given_draft b t props) in
      let shown : Shows c w = shows-passed b bus n t out (given_draft b t props) v w is (record { shown = s; buses = new-drafted v s }) acted in
      let ends : unpin c n ≡ plug_attempt b t bus 8 = ap (λ (d : Board). unpin (passed b bus n t d) n) (given-is b t sound props)
      ∙ passed-steps b t bus (edit n (with_values b props) (drafted b t)) (held b t sound) (held-is b t sound) (rest b t sound)
      (draft-made b t sound props (slots_of t)) in
      subst (λ (d : Board). Shows d x) ends (drops c shown)
