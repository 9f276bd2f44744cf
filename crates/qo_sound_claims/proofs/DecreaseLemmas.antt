-- Boards whose objects claim no more than those of a board: small steps of objects that go, links that are emptied and values that are set.
use Rattle.std.proofs.Common.{rules, ◌≡◌, ◌⊎◌, inl, refl, ap, sym, subst, ◌∙◌, ℕ, Bool, true, false, ◌&&◌, ◌==◌, eqb, List, ◌∷◌, slice_get, Option, Some, None, option_map, codes, nat_eq, []}
use Rattle.qo_model.proofs.Common.{⊤, list_any, bytes_eq, body_act, Registers, Act, Unrealize, Val, Board, Record, Slot, record_of, slots_at, slot_at, changed_at, set, with_changed, with_val, acted, device_period, with_act_on, among, clock_of, is_true, strong_in, index_from, range_in, after, drop_slot, edit, edited, finalize, finish, forgotten, let_go, pin, unpin, with_dropped, without_hold, without_pin, KeepsRelease, phased, is_a, disconnected, is_named, let_go_where, set_named, unrealize, unrealized_bus, unrealized_device, unseen, unseen_named}
use Rattle.std.proofs.lemmas.Bool.{eqb-true}
use Rattle.std.proofs.lemmas.Slice.Eq.{bytes_eq-Decides}
use Rattle.qo_values.specs.declared.properties.Val.TheVariants as val
use Rattle.qo_values.proofs.EachLemmas.{AllBodies, each_act, each_body}
use Rattle.qo_model.specs.Board.{referent}
use Rattle.qo_model.proofs.FirstSlotLemmas.{slots_in, Found, found-at}
use Rattle.qo_model.proofs.ReleaseInductionLemmas.{after_keeps}
use Rattle.qo_model.proofs.StepLemmas.{drop-record, finish-gone, finish-record, found-edited, found-birth}
use Rattle.qo_sound.proofs.UnplugLemmas.{unrealize-keeps}
use Rattle.qo_sound.proofs.WorkLemmas.{births_of}
use Rattle.qo_sound_devices.proofs.LikenessLemmas.{apart-first, other-record}
use Rattle.qo_sound_claims.proofs.SlotLemmas.{ClaimsLess, is_memdev, less-dropped, less-forgotten, less-none, less-set, less-then, less-unseen, lit_in, OtherName, points, points-none, spared-dropped}

-- an object claims no more than before; where it is said strictly, no strong link comes to a bus
pub record LessRecord (strict : Bool) (r s : Record) : Type 0 where
  pub kind : s.kind ≡ r.kind
  pub range : range_in s.registers ≡ range_in r.registers
  pub slots : ClaimsLess (is_a r.kind (codes "mem-dimm")) (strict && is_a r.kind (codes "bus")) r.slots s.slots

pub record-none : (strict : Bool) (r : Record) → LessRecord strict r r
record-none strict r =
    record { kind = refl; range = refl; slots = less-none (is_a r.kind (codes "mem-dimm")) (strict && is_a r.kind (codes "bus")) r.slots }

pub record-then : (strict : Bool) (r s t : Record) → LessRecord strict r s → LessRecord strict s t → LessRecord strict r t
record-then strict r s t h k =
    record {
      kind = k.kind ∙ h.kind;
      range = k.range ∙ h.range;
      slots =
          less-then (is_a r.kind (codes "mem-dimm")) (strict && is_a r.kind (codes "bus")) r.slots s.slots t.slots h.slots
          (subst (λ kind. ClaimsLess (is_a kind (codes "mem-dimm")) (strict && is_a kind (codes "bus")) s.slots t.slots) h.kind k.slots);
    }

-- where only its slots change
pub record-slots : (strict : Bool) (change : Record → Record) → ((r : Record) → (change r).kind ≡ r.kind) → ((r : Record) → (change r).registers ≡ r.registers)
    → (r : Record) → ClaimsLess (is_a r.kind (codes "mem-dimm")) (strict && is_a r.kind (codes "bus")) r.slots (change r).slots → LessRecord strict r (change r)
record-slots strict change same_kind same r h = record { kind = same_kind r; range = ap range_in (same r); slots = h }

-- one that was not there: none is, where it is said strictly; else it is not realized
abbrev pub Comes : Bool → Record → Type 0
Comes strict s = elim strict as (λ _. Type 0) [ true ↦ ⊥ | false ↦ lit_in s.slots ≡ false ]

abbrev pub NearAt : Bool → Option Record → Option Record → Type 0
NearAt strict o None = ⊤
NearAt strict None (Some s) = Comes strict s
NearAt strict (Some r) (Some s) = LessRecord strict r s

pub near-none : (strict : Bool) (o : Option Record) → NearAt strict o o
near-none strict None = tt
near-none strict (Some r) = record-none strict r

comes-step : (strict : Bool) (r s : Record) → LessRecord strict r s → Comes strict r → Comes strict s
comes-step true r s less h = h
comes-step false r s less h = go (lit_in s.slots) refl
  where
    go : (t : Bool) → lit_in s.slots ≡ t → lit_in s.slots ≡ false
    go true e = absurd (let clash : true ≡ false = sym (less.slots.lit e) ∙ h in cc)
    go false e = e

pub near-step : (strict : Bool) (o : Option Record) (r s : Record) → NearAt strict o (Some r) → LessRecord strict r s → NearAt strict o (Some s)
near-step strict None r s h less = comes-step strict r s less h
near-step strict (Some x) r s h less = record-then strict x r s h less

-- each object claims no more on the second board
abbrev pub Fewer : Bool → Board → Board → Type 0
Fewer strict b c = (x : ℕ) → NearAt strict (record_of b x) (record_of c x)

pub fewer-none : (strict : Bool) (b : Board) → Fewer strict b b
fewer-none strict b x = near-none strict (record_of b x)

pub fewer-then : (b c d : Board) → Fewer true b c → Fewer true c d → Fewer true b d
fewer-then b c d h k x = go (record_of b x) (record_of c x) (record_of d x) (h x) (k x)
  where
    go : (o p q : Option Record) → NearAt true o p → NearAt true p q → NearAt true o q
    go o p None f g = tt
    go o None (Some t) f g = absurd g
    go None (Some s) (Some t) f g = absurd f
    go (Some r) (Some s) (Some t) f g = record-then true r s t f g

-- less strictly
pub less-strict : (r s : Record) → LessRecord true r s → LessRecord false r s
less-strict r s h =
    record {
      kind = h.kind;
      range = h.range;
      slots =
          let k = h.slots in
          record {
            chardev = k.chardev;
            addr = k.addr;
            size = k.size;
            place = k.place;
            lit = k.lit;
            back = k.back;
            home = k.home;
            on = k.on;
            strongs = λ m d e. absurd (let clash : false ≡ true = d in cc);
          };
    }

pub fewer-loose : (b c : Board) → Fewer true b c → Fewer false b c
fewer-loose b c h x = go (record_of b x) (record_of c x) (h x)
  where
    go : (o p : Option Record) → NearAt true o p → NearAt false o p
    go o None f = tt
    go None (Some s) f = absurd f
    go (Some r) (Some s) f = less-strict r s f

-- where all objects are as before
pub fewer-same : (strict : Bool) (b c d : Board) → d.records ≡ c.records → Fewer strict b c → Fewer strict b d
fewer-same strict b c d e h x = subst (λ (rs : List Record). NearAt strict (record_of b x) (record_of (record c { records = rs }) x)) (sym e) (h x)

-- an act on registers
abbrev LeavesRange : Act → Registers → Type 0
LeavesRange act r = (now period : ℕ) → range_in (body_act act now period r) ≡ range_in r

abbrev LeaveRange : Act → Type 0
LeaveRange act = AllBodies (LeavesRange act)

pub act-range : (act : Act) (now period : ℕ) (r : Registers) → range_in (body_act act now period r) ≡ range_in r
act-range act now period r = each_body (LeavesRange act) (each_act LeaveRange (search rules) act) r now period

-- a slot of an object at a place spares the backend of a realized DIMM
abbrev pub Spares : Board → ℕ → ℕ → Type 0
Spares c n i =
    (r : Record) → record_of c n ≡ Some r → (k : ℕ) → is_a r.kind (codes "mem-dimm") ≡ true → lit_in r.slots ≡ true → points is_memdev k r.slots ≡ true
    → points is_memdev k (without_hold i r.slots) ≡ true

-- as one does that holds nothing by a strong link, or under another name
abbrev pub Harmless : List ℕ × Slot → Type 0
Harmless s = (strong_in s.1 ≡ None) ⊎ (is_memdev s.0 ≡ false)

pub at-record : (c : Board) (n i : ℕ) (s : List ℕ × Slot) (r : Record) → slice_get (slots_at c n) i ≡ Some s → record_of c n ≡ Some r
    → slice_get r.slots i ≡ Some s
at-record c n i s r at e = sym (ap (λ (o : Option Record). slice_get (slots_in o) i) e) ∙ at

pub spares-harmless : (c : Board) (n i : ℕ) (s : List ℕ × Slot) → slice_get (slots_at c n) i ≡ Some s → Harmless s → Spares c n i
spares-harmless c n i s at harmless r e k d l q = spared-dropped is_memdev k i r.slots s (at-record c n i s r at e) (points-none is_memdev k s harmless) q

module _ (strict : Bool) (b : Board) where
  pub fewer-edit : (n : ℕ) (change : Record → Record) → ((r : Record) → (change r).birth ≡ r.birth) → (c : Board)
      → ((r : Record) → record_of c n ≡ Some r → LessRecord strict r (change r)) → Fewer strict b c → Fewer strict b (edit n change c)
  fewer-edit n change same_birth c less h x = rw (found-edited n change same_birth x c.records) (go (record_of c x) refl)
    where
      at_record : (r : Record) → record_of c x ≡ Some r → (t : Bool) → (r.birth == n) ≡ t → NearAt strict (record_of b x) (Some (edited n change r))
      at_record r e true p =
          let is : x ≡ n = sym (found-birth x c.records r e) ∙ eqb-true r.birth n p in
          rw (edited, p)
          (near-step strict (record_of b x) r (change r) (subst (NearAt strict (record_of b x)) e (h x))
          (less r (subst (λ (k : ℕ). record_of c k ≡ Some r) is e)))
      at_record r e false p = rw (edited, p) (subst (NearAt strict (record_of b x)) e (h x))

      go : (o : Option Record) → record_of c x ≡ o → NearAt strict (record_of b x) (option_map (edited n change) o)
      go None e = tt
      go (Some r) e = at_record r e (r.birth == n) refl

  pub fewer-slots : (n : ℕ) (change : Record → Record) → ((r : Record) → (change r).birth ≡ r.birth) → ((r : Record) → (change r).kind ≡ r.kind)
      → ((r : Record) → (change r).registers ≡ r.registers) → (c : Board)
      → ((r : Record) → record_of c n ≡ Some r → ClaimsLess (is_a r.kind (codes "mem-dimm")) (strict && is_a r.kind (codes "bus")) r.slots (change r).slots)
      → Fewer strict b c → Fewer strict b (edit n change c)
  fewer-slots n change same_birth same_kind same c less h =
      fewer-edit n change same_birth c (λ r e. record-slots strict change same_kind same r (less r e)) h

  pub fewer-drop : (c : Board) (n i : ℕ) → Spares c n i → Fewer strict b c → Fewer strict b (drop_slot c n i)
  unfolding drop_slot
  fewer-drop c n i spares h =
      fewer-slots n (with_dropped i) (λ r. refl) (λ r. refl) (λ r. refl) c
      (λ r e. less-dropped (is_a r.kind (codes "mem-dimm")) (strict && is_a r.kind (codes "bus")) i r.slots (spares r e)) h

  -- a release: objects of the work may lose what they like, since they end

  abbrev FewerBut : List (ℕ × ℕ) → Board → Type 0
  FewerBut work c = (x : ℕ) → among (births_of work) x ≡ false → NearAt strict (record_of b x) (record_of c x)

  ended : (c : Board) (n i : ℕ) (work : List (ℕ × ℕ)) → FewerBut ((n, i) ∷ work) c → FewerBut work (finish c n)
  ended c n i work h x apart = go (x == n) refl
    where
      other : (o : Option Record) → NearAt strict (record_of b x) o → NearAt strict (record_of b x) (option_map (forgotten n) o)
      other None k = tt
      other (Some r) k =
          near-step strict (record_of b x) r (forgotten n r) k
          (record-slots strict (forgotten n) (λ y. refl) (λ y. refl) r
          (less-forgotten (is_a r.kind (codes "mem-dimm")) (strict && is_a r.kind (codes "bus")) n r.slots))

      go : (t : Bool) → (x == n) ≡ t → NearAt strict (record_of b x) (record_of (finish c n) x)
      go true p =
          let gone : record_of (finish c n) x ≡ None = ap (record_of (finish c n)) (eqb-true x n p) ∙ finish-gone c n in
          rw gone tt
      go false p =
          let differs : eqb x n ≡ false = p in
          rw (finish-record c n x p) (other (record_of c x) (h x (rw differs apart)))

  dropped : (c : Board) (n i : ℕ) (work : List (ℕ × ℕ)) → FewerBut ((n, i) ∷ work) c → (x : ℕ) → among (n ∷ births_of work) x ≡ false
      → NearAt strict (record_of b x) (record_of (drop_slot c n i) x)
  dropped c n i work h x apart =
      let differs : (x == n) ≡ false = (apart-first n x (births_of work) apart).0 in
      let same : record_of (drop_slot c n i) x ≡ record_of c x = drop-record c n i x ∙ other-record n x (with_dropped i) c refl differs (record_of c x) refl in
      subst (NearAt strict (record_of b x)) (sym same) (h x apart)

  release-fewer : KeepsRelease FewerBut
  release-fewer =
      record {
        ended = λ c n i work h e. ended c n i work h;
        freed = λ c n i work s m h e q free x apart. dropped c n i work h x (apart-first m x (n ∷ births_of work) apart).1;
        kept = λ c n i work s h e held_on x apart. dropped c n i work h x apart;
      }

  pub fewer-after : (o : Option ℕ) (c : Board) → Fewer strict b c → Fewer strict b (after finalize c o)
  fewer-after o c h x = after_keeps FewerBut release-fewer c o [] (λ m e free y apart. h y) (λ held_on y apart. h y) x refl

  pub fewer-pin : (n : ℕ) (c : Board) → Fewer strict b c → Fewer strict b (pin c n)
  unfolding pin
  fewer-pin n c h = h

  pub fewer-unpin : (n : ℕ) (c : Board) → Fewer strict b c → Fewer strict b (unpin c n)
  unfolding unpin
  fewer-unpin n c h = go (list_any (nat_eq n) c.pins) refl
    where
      go : (u : Bool) → list_any (nat_eq n) c.pins ≡ u → Fewer strict b (unpin c n)
      go true e = rw (unpin, e) (fewer-after (Some n) (without_pin c n) h)
      go false e = rw (unpin, e) h

  pub fewer-let_go : (n i : ℕ) (c : Board) → Spares c n i → Fewer strict b c → Fewer strict b (let_go c n i)
  unfolding let_go
  fewer-let_go n i c spares h = go (slot_at c n i) refl
    where
      go : (o : Option Slot) → slot_at c n i ≡ o → Fewer strict b (let_go c n i)
      go None e = rw (let_go, e) h
      go (Some s) e = rw (let_go, e) (fewer-after (referent s) _ (fewer-drop c n i spares h))

  pub fewer-where : (p : List ℕ × Slot → Bool) → ((s : List ℕ × Slot) → p s ≡ true → Harmless s) → (n : ℕ) (c : Board) → Fewer strict b c
      → Fewer strict b (let_go_where p n c)
  fewer-where p harmless n c h = go (index_from p 0 (slots_at c n)) refl
    where
      go : (o : Option ℕ) → index_from p 0 (slots_at c n) ≡ o → Fewer strict b (let_go_where p n c)
      go None e = rw (let_go_where, e) h
      go (Some i) e =
          let f : Found p (slots_at c n) i = found-at p i (slots_at c n) e in
          rw (let_go_where, e) (fewer-let_go n i c (spares-harmless c n i f.entry f.at (harmless f.entry f.passes)) h)

  -- a value is set by a name that is not claimed

  pub fewer-set : (n : ℕ) (name : List ℕ) (v : Val) → OtherName name → (is_true v ≡ false) ⊎ (bytes_eq name (codes "realized") ≡ false) → (c : Board)
      → Fewer strict b c → Fewer strict b (set_named n name v c)
  unfolding set
  fewer-set n name v other dark c h = go (index_from (is_named name) 0 (slots_at c n)) refl
    where
      go : (o : Option ℕ) → index_from (is_named name) 0 (slots_at c n) ≡ o → Fewer strict b (set_named n name v c)
      go None e = rw (set_named, e) h
      go (Some i) e = rw (set_named, e) (fewer-slots n (with_changed (with_val v) i) (λ r. refl) (λ r. refl) (λ r. refl) c at_slots h)
        where
          f : Found (is_named name) (slots_at c n) i
          f = found-at (is_named name) i (slots_at c n) e

          is : name ≡ f.entry.0
          is = sym ((bytes_eq-Decides f.entry.0 name).0 f.passes)

          at_slots : (r : Record) → record_of c n ≡ Some r
              → ClaimsLess (is_a r.kind (codes "mem-dimm")) (strict && is_a r.kind (codes "bus")) r.slots (changed_at (with_val v) i r.slots)
          at_slots r q =
              less-set (is_a r.kind (codes "mem-dimm")) (strict && is_a r.kind (codes "bus")) v i r.slots f.entry (at-record c n i f.entry r f.at q)
              (subst OtherName is other) (subst (λ (own : List ℕ). (is_true v ≡ false) ⊎ (bytes_eq own (codes "realized") ≡ false)) is dark)

  fewer-unseen : (n : ℕ) (name : List ℕ) (c : Board) → Fewer strict b c → Fewer strict b (unseen_named n name c)
  fewer-unseen n name c h = go (index_from (is_named name) 0 (slots_at c n)) refl
    where
      go : (o : Option ℕ) → index_from (is_named name) 0 (slots_at c n) ≡ o → Fewer strict b (unseen_named n name c)
      go None e = rw (unseen_named, e) h
      go (Some i) e =
          rw (unseen_named, e)
          (fewer-slots n (with_changed unseen i) (λ r. refl) (λ r. refl) (λ r. refl) c
          (λ r q. less-unseen (is_a r.kind (codes "mem-dimm")) (strict && is_a r.kind (codes "bus")) i r.slots) h)

  fewer-disconnected : (o : Option ℕ) (c : Board) → Fewer strict b c → Fewer strict b (disconnected o c)
  fewer-disconnected None c h = h
  fewer-disconnected (Some n) c h =
      fewer-set n (codes "period") (val.Uint 0) (record { chardev = refl; addr = refl; size = refl; slot = refl }) (inl refl)
      _ (fewer-unseen n (codes "source") c h)

  pub fewer-acted : (act : Act) (n period : ℕ) (c : Board) → Fewer strict b c → Fewer strict b (acted act n period c)
  unfolding acted
  fewer-acted act n period c h =
      fewer-edit n (with_act_on act c.now period) (λ r. refl) c
      (λ r e.
      record {
        kind = refl;
        range = act-range act c.now period r.registers;
        slots = less-none (is_a r.kind (codes "mem-dimm")) (strict && is_a r.kind (codes "bus")) r.slots;
      }) h

  pub fewer-phased : (act : Act) (ns : List ℕ) (c : Board) → Fewer strict b c → Fewer strict b (phased act ns c)
  fewer-phased act [] c h = h
  fewer-phased act (n ∷ ns) c h = fewer-phased act ns (acted act n 0 c) (fewer-acted act n 0 c h)

  -- unrealizing

  fewer-device : (d : ℕ) (c : Board) → Fewer strict b c → Fewer strict b (unrealized_device d c)
  fewer-device d c h =
      fewer-set d (codes "realized") (val.Bool false) (record { chardev = refl; addr = refl; size = refl; slot = refl }) (inl refl) _
      (fewer-disconnected (clock_of c d) _ (fewer-acted Unrealize d (device_period c d) c h))

  fewer-bus : (m : ℕ) (c : Board) → Fewer strict b c → Fewer strict b (unrealized_bus m c)
  fewer-bus m c h = fewer-acted Unrealize m 0 c h

  pub fewer-unrealize : (c : Board) (d : ℕ) → Fewer strict b c → Fewer strict b (unrealize c d)
  fewer-unrealize c d h = unrealize-keeps (Fewer strict b) fewer-device fewer-bus c d h
