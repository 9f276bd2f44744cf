-- What changes no slots, and values that are set by name, keep the shape.
use Rattle.std.proofs.Common.{rules, ◌≡◌, inr, refl, ap, sym, subst, ◌∙◌, ℕ, ◌<◌, ◌≤◌, ◌-◌, ◌^◌, Bool, true, false, ◌==◌, eqb, List, ◌∷◌, ◌++◌, filter, slice_get, codes, Option, Some, None, is_some, option_map, Ok, Err, arith, []}
use Rattle.qo_model.proofs.Common.{nat_le, ⊤, option_map_or, bytes_eq, Effect, body_act, body_write, admits, is_multiple, Registers, fresh_registers, E45, E46, Act, Hold, Exit, TypeId, Val, Board, Record, Slot, plain, child, strong, weak, alias, is_live, kind_of, record_of, slots_at, set, with_changed, with_val, clock_scaled, clock_set, acted, source_of, with_act_on, asked, asked_of, device_at, index_from, opening_board, attached, notice_barred, property_named, edit, edited, without_first, is_not_in_reset, phased, post, pulse, released, property_name, types, is_named, set_named}
use Rattle.qo_model.specs.declared.properties.Property.{Property}
use Rattle.qo_model.specs.declared.properties.PropertyRole.{PropertyRole}
use Rattle.std.proofs.lemmas.Bool.Decides.{nat_tests}
use Rattle.std.proofs.Math.Nat.{mod-one}
use Rattle.std.proofs.lemmas.Option.{same_Some}
use Rattle.std.proofs.lemmas.Slice.Eq.{bytes_eq-Decides}
use Rattle.qo_values.specs.declared.properties.PropType.TheVariants as ty
use Rattle.qo_values.specs.declared.properties.Val.TheVariants as val
use Rattle.qo_values.proofs.EachLemmas.{AllBodies, each, each_act, each_body, each_write}
use Rattle.qo_model.specs.Reset.{after_hold}
use Rattle.qo_model.specs.Hotplug.{is_early}
use Rattle.qo_model.specs.declared.properties.PropertyRole.TheVariants as row
use Rattle.qo_model.proofs.FirstSlotLemmas.{Found, found-at}
use Rattle.qo_model.proofs.StepLemmas.{found-edited, found_at, is_some-map}
use Rattle.qo_sound.proofs.AdditionStepsLemmas.{set-by}
use Rattle.qo_sound.proofs.FirmBoardLemmas.{edited-kind}
use Rattle.qo_values.proofs.ListLemmas.{all-imply}
use Rattle.qo_sound.proofs.SlotLemmas.{names-changed, names_in}
use Rattle.qo_sound_clocks.specs.RegisterWrites.{registers_set, with_registers}
use Rattle.qo_sound_clocks.proofs.StepsLemmas.{kept-written, calls-kept}
use Rattle.qo_sound_phases.proofs.FixedObjectLemmas.{child-val}
use Rattle.qo_sound_shapes.specs.SoundShape.{is_like, HasRole, IsOfProperty, SoundShape}
use Rattle.qo_sound_shapes.proofs.BoardLemmas.{all-edit, all-same, good-all, OpeningLive, shape-all, shape-live, AllOf}
use Rattle.qo_sound_shapes.proofs.ShapeLemmas.{Good, good-changed, mild-val}
use Rattle.qo_sound_shapes.proofs.RowLemmas.{IsRowOf}
use Rattle.qo_sound_shapes.proofs.ChildTypeLemmas.{typed-same}
use Rattle.qo_sound_shapes.proofs.CompletenessLemmas.{edit-read, entries-changed, entries_in, whole-same}
use Rattle.qo_values.specs.declared.kinds.ResetKind.{ResetKind}
use Rattle.qo_values.specs.Kinds.{entering}

-- the machine's objects stay there

pub live-same : (b c : Board) → ((x : ℕ) → is_live c x ≡ is_live b x) → OpeningLive b → OpeningLive c
live-same b c same h =
    all-imply (λ (o : Record). is_live b o.birth ≡ true) (λ (o : Record). is_live c o.birth ≡ true) (λ o k. same o.birth ∙ k) opening_board.records h

edit-live : (n : ℕ) (change : Record → Record) → ((r : Record) → (change r).birth ≡ r.birth) → (b : Board) (x : ℕ) → is_live (edit n change b) x ≡ is_live b x
edit-live n change same b x = ap is_some (found-edited n change same x b.records) ∙ is_some-map (edited n change) (record_of b x)

-- what changes none of the objects
pub same-shape : (b c : Board) → c.records ≡ b.records → SoundShape b → SoundShape c
same-shape b c e h =
    shape-all c (live-same b c (λ x. ap (λ (rs : List Record). is_some (found_at x rs)) e) (shape-live b h))
    (whole-same b c (λ x. ap (λ (rs : List Record). names_in (option_map_or (λ (r : Record). r.slots) (found_at x rs) [])) e)
    (λ x. ap (λ (rs : List Record). entries_in (option_map_or (λ (r : Record). r.slots) (found_at x rs) [])) e)
    kinds h.whole)
    (typed-same b c (λ x. ap (λ (rs : List Record). entries_in (option_map_or (λ (r : Record). r.slots) (found_at x rs) [])) e) kinds h.children)
    (all-same Good b c e (good-all b h))
  where
    kinds : (x : ℕ) → kind_of c x ≡ kind_of b x
    kinds x = ap (λ (rs : List Record). option_map (λ (r : Record). r.kind) (found_at x rs)) e

pub edit-shape : (n : ℕ) (change : Record → Record) → ((r : Record) → (change r).birth ≡ r.birth) → ((r : Record) → (change r).kind ≡ r.kind)
    → ((r : Record) → names_in (change r).slots ≡ names_in r.slots) → ((r : Record) → entries_in (change r).slots ≡ entries_in r.slots) → (b : Board)
    → ((r : Record) → record_of b n ≡ Some r → Good r → Good (change r)) → SoundShape b → SoundShape (edit n change b)
edit-shape n change same kind names entries b keeps h =
    shape-all (edit n change b) (live-same b (edit n change b) (edit-live n change same b) (shape-live b h))
    (whole-same b (edit n change b) (edit-read names_in n change same names b) (edit-read entries_in n change same entries b) (edited-kind n change same kind b)
    h.whole)
    (typed-same b (edit n change b) (edit-read entries_in n change same entries b) (edited-kind n change same kind b) h.children)
    (all-edit Good n change same b (λ r e own k. keeps r e k) (good-all b h))

-- acts

abbrev StaysLike : Act → Registers → Type 0
StaysLike act r = (now period : ℕ) (s : Registers) → is_like (body_act act now period r) s ≡ is_like r s

abbrev StayLike : Act → Type 0
StayLike act = AllBodies (StaysLike act)

like-act : (act : Act) (now period : ℕ) (r s : Registers) → is_like (body_act act now period r) s ≡ is_like r s
like-act act now period r = each_body (StaysLike act) (each_act StayLike (search rules) act) r now period

pub good-act : (act : Act) (now period : ℕ) (r : Record) → Good r → Good (with_act_on act now period r)
good-act act now period r h =
    record {
      shaped = record { slots = h.shaped.slots; registers = like-act act now period r.registers (fresh_registers r.kind) ∙ h.shaped.registers };
      kind = h.kind;
      fixed = h.fixed;
    }

pub acted-shape : (act : Act) (n period : ℕ) (b : Board) → SoundShape b → SoundShape (acted act n period b)
unfolding acted
acted-shape act n period b h =
    same-shape (edit n (with_act_on act b.now period) b) (acted act n period b) refl
    (edit-shape n (with_act_on act b.now period) (λ r. refl) (λ r. refl) (λ r. refl) (λ r. refl) b (λ r e k. good-act act b.now period r k) h)

pub phased-shape : (act : Act) (ns : List ℕ) (b : Board) → SoundShape b → SoundShape (phased act ns b)
phased-shape act [] b h = h
phased-shape act (n ∷ ns) b h = phased-shape act ns (acted act n 0 b) (acted-shape act n 0 b h)

pub held-shape : (b : Board) (n : ℕ) (kind : ResetKind) → SoundShape b → SoundShape (after_hold b n kind)
unfolding after_hold
held-shape b n kind h =
    let entered : Board = phased (entering kind) (filter (is_not_in_reset b) (post b n)) b in
    let c : Board = phased Hold (filter (is_not_in_reset b) (post b n)) entered in
    same-shape c (record c { holds = b.holds ++ n ∷ [] }) refl
    (phased-shape Hold (filter (is_not_in_reset b) (post b n)) entered (phased-shape (entering kind) (filter (is_not_in_reset b) (post b n)) b h))

pub released-shape : (b : Board) (n : ℕ) → SoundShape b → SoundShape (released b n)
unfolding released
released-shape b n h =
    let c : Board = record b { holds = without_first n b.holds } in
    phased-shape Exit (filter (is_not_in_reset c) (post c n)) c (same-shape b c refl h)

pub pulse-shape : (b : Board) (n : ℕ) (kind : ResetKind) → SoundShape b → SoundShape (pulse b n kind)
unfolding pulse
pulse-shape b n kind h = released-shape (after_hold b n kind) n (held-shape b n kind h)

-- a removal that is asked for

asked_of-shape : (b : Board) (d : ℕ) → SoundShape b → SoundShape (asked_of b d).board
asked_of-shape b d h = go (attached b d) refl (is_early b d) refl (is_some (notice_barred b)) refl
  where
    go : (home : Bool) → attached b d ≡ home → (pending : Bool) → is_early b d ≡ pending → (full : Bool) → is_some (notice_barred b) ≡ full
        → SoundShape (asked_of b d).board
    go false p pending q full r = rw (asked_of, p) h
    go true p true q full r = rw (asked_of, p, q) h
    go true p false q true r = rw (asked_of, p, q, r) h
    go true p false q false r = rw (asked_of, p, q, r) (same-shape b _ refl h)

pub asked-shape : (b : Board) (id : List ℕ) → SoundShape b → SoundShape (asked b id).board
asked-shape b id h = go (device_at b id) refl
  where
    go : (o : Option ℕ) → device_at b id ≡ o → SoundShape (asked b id).board
    go None e = rw (asked, e) h
    go (Some d) e = rw (asked, e) (asked_of-shape b d h)

-- registers that are written

abbrev SaysSame : Registers → Registers → Type 0
SaysSame r s = (f : Registers) → is_like r s ≡ true → is_like s f ≡ is_like r f

abbrev SaySame : Registers → Type 0
SaySame r = AllBodies (SaysSame r)

like-same : (r s f : Registers) → is_like r s ≡ true → is_like s f ≡ is_like r f
like-same r s = each_body (SaysSame r) (each_body SaySame (search rules) r) s

pub registers-shape : (b : Board) (n : ℕ) (registers : Registers) → ((r : Record) → record_of b n ≡ Some r → is_like registers r.registers ≡ true)
    → SoundShape b
    → SoundShape (registers_set b n registers)
registers-shape b n registers like h =
    edit-shape n (with_registers registers) (λ r. refl) (λ r. refl) (λ r. refl) (λ r. refl) b
    (λ r e k.
    record {
      shaped =
          record {
            slots = k.shaped.slots;
            registers = sym (like-same registers r.registers (fresh_registers r.kind) (like r e)) ∙ k.shaped.registers;
          };
      kind = k.kind;
      fixed = k.fixed;
    }) h

-- a guest's write gives registers of the same kind
pub write-like : (r s : Registers) (effect : Effect) (reg value : ℕ) (ring : Bool) (now period : ℕ) → body_write r reg value ring now period ≡ Some (s, effect)
    → is_like s r ≡ true
write-like r s effect reg value ring now period =
    each_write (λ (x y : Registers). is_like y x ≡ true) reg value ring now period (search rules) r s effect

-- a value that is set by name: the row of this name, if it is a plain one, admits it

abbrev pub RowTakes : PropertyRole → Val → Type 0
RowTakes (row.Plain type first) v = admits type v ≡ true
RowTakes kind v = ⊤

abbrev pub Takes : TypeId → List ℕ → Val → Type 0
Takes t name v = elim (property_named t name) as (λ _. Type 0) [ None ↦ ⊤ | Some p ↦ RowTakes p.role v ]

val-row : (kind : PropertyRole) (v : Val) (s : Slot) → RowTakes kind v → HasRole kind s → HasRole kind (with_val v s)
val-row (row.Plain type first) v (plain w) takes h = inr takes
val-row (row.Child type) v (plain w) takes h = h
val-row (row.Link t true) v (plain w) takes h = h
val-row (row.Link t false) v (plain w) takes h = h
val-row (row.Alias owner of) v (plain w) takes h = h
val-row kind v (child m) takes h = h
val-row kind v (strong t target) takes h = h
val-row kind v (weak t target) takes h = h
val-row kind v (alias m property) takes h = h

pub good-set : (name : List ℕ) (v : Val) (i : ℕ) (r : Record) (entry : List ℕ × Slot) → slice_get r.slots i ≡ Some entry → bytes_eq entry.0 name ≡ true
    → Takes r.kind name v → Good r → Good (with_changed (with_val v) i r)
good-set name v i r entry at named takes h = good-changed (with_val v) (mild-val v) i r rows h
  where
    rows : (p : Property) (s : List ℕ × Slot) → IsRowOf r.kind p → slice_get r.slots i ≡ Some s → IsOfProperty p s → HasRole p.role (with_val v s.1)
    rows p s own there is =
        let same : entry ≡ s = same_Some entry s (sym at ∙ there) in
        let its : name ≡ property_name p.name = sym ((bytes_eq-Decides entry.0 name).0 named) ∙ ap (λ (x : List ℕ × Slot). x.0) same ∙ is.name in
        let found : property_named r.kind name ≡ Some p = ap (property_named r.kind) its ∙ own in
        val-row p.role v s.1
        (subst (λ (o : Option Property). elim o as (λ _. Type 0) [ None ↦ ⊤ | Some x ↦ RowTakes x.role v ]) found takes) is.fits

pub slot-of : (c : Board) (n i : ℕ) (r : Record) (entry : List ℕ × Slot) → record_of c n ≡ Some r → slice_get (slots_at c n) i ≡ Some entry
    → slice_get r.slots i ≡ Some entry
slot-of c n i r entry e at = sym (ap (λ (o : Option Record). slice_get (option_map_or (λ (y : Record). y.slots) o []) i) e) ∙ at

-- a value that an object of any type takes under a name keeps P
abbrev pub KeepsSet : (Board → Type 0) → Type 0
KeepsSet P = (n : ℕ) (name : List ℕ) (v : Val) → ((t : TypeId) → Takes t name v) → (c : Board) → P c → P (set_named n name v c)

-- so it does where it keeps a fact of each good object
pub all-set : (Q : Record → Type 0) → ((r : Record) → Q r → Good r)
    → ((v : Val) (i : ℕ) (r : Record) → Good (with_changed (with_val v) i r) → Q r → Q (with_changed (with_val v) i r)) → KeepsSet (AllOf Q)
all-set Q good keeps n name v takes c h =
    set-by (AllOf Q) n name c h v
    (λ i e.
    let f : Found (is_named name) (slots_at c n) i = found-at (is_named name) i (slots_at c n) e in
    all-edit Q n (with_changed (with_val v) i) (λ r. refl) c
    (λ r q own k. keeps v i r (good-set name v i r f.entry (slot-of c n i r f.entry q f.at) f.passes (takes r.kind) (good r k)) k) h)

pub set-shape : (n : ℕ) (name : List ℕ) (v : Val) → ((t : TypeId) → Takes t name v) → (b : Board) → SoundShape b → SoundShape (set_named n name v b)
unfolding set
set-shape n name v takes b h = go (index_from (is_named name) 0 (slots_at b n)) refl
  where
    go : (o : Option ℕ) → index_from (is_named name) 0 (slots_at b n) ≡ o → SoundShape (set_named n name v b)
    go None e = rw (set_named, e) h
    go (Some i) e =
        let f : Found (is_named name) (slots_at b n) i = found-at (is_named name) i (slots_at b n) e in
        rw (set_named, e)
        (edit-shape n (with_changed (with_val v) i) (λ r. refl) (λ r. refl) (λ r. names-changed (with_val v) i r.slots)
        (λ r. entries-changed (with_val v) (child-val v) i r.slots) b
        (λ r q k. good-set name v i r f.entry (slot-of b n i r f.entry q f.at) f.passes (takes r.kind) k) h)

-- numbers of clocks

pub admits-up_to : (hi n : ℕ) → n ≤ hi → admits (ty.Uint 0 hi 1) (val.Uint n) ≡ true
admits-up_to hi n le =
    let low : nat_le 0 n ≡ true = grind (arith, nat_tests) in
    let high : nat_le n hi ≡ true = grind (arith, nat_tests, le) in
    let step : is_multiple 1 n ≡ true = ap (λ (k : ℕ). k == 0) (mod-one n) in
    rw (low, high, step) refl

pub takes-period : (t : TypeId) (n : ℕ) → n < 2 ^ 64 → Takes t (codes "period") (val.Uint n)
unfolding types
takes-period t n low =
    let fits : admits (ty.Uint 0 (2 ^ 64 - 1) 1) (val.Uint n) ≡ true = admits-up_to (2 ^ 64 - 1) n (omega (arith, low)) in
    each (λ (k : TypeId). Takes k (codes "period") (val.Uint n)) (search (rules, fits)) t

pub takes-mul : (t : TypeId) (n : ℕ) → n < 2 ^ 32 → Takes t (codes "mul") (val.Uint n)
unfolding types
takes-mul t n low =
    let fits : admits (ty.Uint 0 4294967295 1) (val.Uint n) ≡ true = admits-up_to 4294967295 n (omega (arith, low)) in
    each (λ (k : TypeId). Takes k (codes "mul") (val.Uint n)) (search (rules, fits)) t

pub takes-div : (t : TypeId) (n : ℕ) → n < 2 ^ 32 → Takes t (codes "div") (val.Uint n)
unfolding types
takes-div t n low =
    let fits : admits (ty.Uint 0 4294967295 1) (val.Uint n) ≡ true = admits-up_to 4294967295 n (omega (arith, low)) in
    each (λ (k : TypeId). Takes k (codes "div") (val.Uint n)) (search (rules, fits)) t

pub clock_set-shape : (b d : Board) (c period : ℕ) → period < 2 ^ 64 → clock_set b c period ≡ Ok d → SoundShape b → SoundShape d
clock_set-shape b d c period low e h = go (is_some (source_of b c)) refl
  where
    new : Board
    new = set_named c (codes "period") (val.Uint period) b

    go : (t : Bool) → is_some (source_of b c) ≡ t → SoundShape d
    go true p = absurd (let clash : Err E45 ≡ Ok d = rw (clock_set, p) at e in cc)
    go false p =
        kept-written SoundShape (calls-kept SoundShape acted-shape) b new d c
        (set-shape c (codes "period") (val.Uint period) (λ t. takes-period t period low) b h)
        (rw (clock_set, p) at e)

pub clock_scaled-shape : (b d : Board) (c mul div : ℕ) → mul < 2 ^ 32 → div < 2 ^ 32 → clock_scaled b c mul div ≡ Ok d → SoundShape b → SoundShape d
clock_scaled-shape b d c mul div low also e h = go (eqb div 0) refl
  where
    mid : Board
    mid = set_named c (codes "mul") (val.Uint mul) b

    new : Board
    new = set_named c (codes "div") (val.Uint div) mid

    go : (t : Bool) → eqb div 0 ≡ t → SoundShape d
    go true p = absurd (let clash : Err E46 ≡ Ok d = rw (clock_scaled, p) at e in cc)
    go false p =
        kept-written SoundShape (calls-kept SoundShape acted-shape) b new d c
        (set-shape c (codes "div") (val.Uint div) (λ t. takes-div t div also) mid
        (set-shape c (codes "mul") (val.Uint mul) (λ t. takes-mul t mul low) b h)) (rw (clock_scaled, p) at e)
