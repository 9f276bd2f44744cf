-- What each small step of adding a device keeps, adding a device keeps.
use Rattle.std.proofs.Common.{◌≡◌, refl, ℕ, ◌+◌, Bool, true, false, List, [], ◌∷◌, filter, codes, Option, Some, None}
use Rattle.qo_model.proofs.Common.{⊤, AllByRecursion, Act, Enter, Hold, Exit, TypeId, Device, Val, Range, Board, Record, Slot, plain, child, strong, weak, alias, slots_at, add, fresh, set, with_added, with_changed, with_val, acted, kid_name, deed_type, index_from, first_value, fresh_record, fresh_slots, Resources, Wanted, acted_all, addressed_at, aliased, clocked, drafted, fitted, joined, link_named, name_for, owned, parent_for, property_made, properties_made, source_for, stood, valued, with_body_of, with_given, with_new, with_source, edit, without_slots, is_not_in_reset, phased, plugged, post, property_name, slots_of, is_named, set_named, disconnected, unseen, unseen_named}
use Rattle.qo_model.specs.declared.notes.Deed.TheVariants.{Did}
use Rattle.qo_model.specs.declared.properties.Property.{Property}
use Rattle.qo_model.specs.declared.properties.PropertyRole.{PropertyRole}
use Rattle.qo_values.specs.declared.properties.Val.TheVariants as val
use Rattle.qo_model.specs.declared.properties.PropertyRole.TheVariants as row

-- a change of an object that leaves all but its slots
abbrev pub LeavesAllButSlots : (Record → Record) → Type 0
LeavesAllButSlots change = (r : Record) → without_slots (change r) ≡ without_slots r

-- a change of slots of an object keeps P
abbrev pub KeepsEdits : (Board → Type 0) → Type 0
KeepsEdits P = (n : ℕ) (change : Record → Record) → LeavesAllButSlots change → (c : Board) → P c → P (edit n change c)

-- and so does an act, none that begins it, of an object that passes
abbrev pub KeepsActs : (ℕ → Type 0) → (Board → Type 0) → Type 0
KeepsActs On P = (act : Act) (n period : ℕ) → deed_type (Did act) ≡ None → On n → (c : Board) → P c → P (acted act n period c)

-- a new object of a type, with some slots
abbrev pub new_with : Board → TypeId → List (List ℕ × Slot) → Record
new_with c k slots = record (fresh (c.born + 1) k) { slots = slots }

-- a new object of a type that passes keeps P
abbrev pub KeepsNew : (TypeId → Type 0) → (Board → Type 0) → Type 0
KeepsNew Made P = (k : TypeId) (slots : List (List ℕ × Slot)) → Made k → (c : Board) → P c → P (with_new (new_with c k slots) c)

-- the further objects of a type pass
abbrev pub RowPasses : (TypeId → Type 0) → Property → Type 0
RowPasses Made p = elim p.role as (λ _. Type 0) [ row.Child k ↦ Made k | _ ↦ ⊤ ]

-- further objects of every type pass
any-row : (p : Property) → RowPasses (λ k. ⊤) p
any-row p = go p.role refl
  where
    go : (kind : PropertyRole) → p.role ≡ kind → RowPasses (λ k. ⊤) p
    go (row.Plain type first) e = rw e tt
    go (row.Link target holds) e = rw e tt
    go (row.Child k) e = rw e tt
    go (row.Alias owner of) e = rw e tt

pub any-rows : (ps : List Property) → AllByRecursion (RowPasses (λ k. ⊤)) ps
any-rows [] = tt
any-rows (p ∷ ps) = (any-row p, any-rows ps)

-- a slot of a name is set, or filled: where it is there it is changed, and else nothing is
module _ (P : Board → Type 0) (n : ℕ) (name : List ℕ) (c : Board) (h : P c) where
  pub set-by : (v : Val) → ((i : ℕ) → index_from (is_named name) 0 (slots_at c n) ≡ Some i → P (edit n (with_changed (with_val v) i) c))
      → P (set_named n name v c)
  unfolding set
  set-by v there = go (index_from (is_named name) 0 (slots_at c n)) refl
    where
      go : (o : Option ℕ) → index_from (is_named name) 0 (slots_at c n) ≡ o → P (set_named n name v c)
      go None e = rw (set_named, e) h
      go (Some i) e = rw (set_named, e) (there i e)

  pub link-by : (m : ℕ) → ((i : ℕ) → index_from (is_named name) 0 (slots_at c n) ≡ Some i → P (edit n (with_changed (fitted c m) i) c))
      → P (link_named n name m c)
  link-by m there = go (index_from (is_named name) 0 (slots_at c n)) refl
    where
      go : (o : Option ℕ) → index_from (is_named name) 0 (slots_at c n) ≡ o → P (link_named n name m c)
      go None e = rw (link_named, e) h
      go (Some i) e = rw (link_named, e) (there i e)

module _ (P : Board → Type 0) (edits : KeepsEdits P) where
  pub step-set : (n : ℕ) (name : List ℕ) (v : Val) (c : Board) → P c → P (set_named n name v c)
  step-set n name v c h = set-by P n name c h v (λ i e. edits n (with_changed (with_val v) i) (λ r. refl) c h)

  pub step-link : (n : ℕ) (name : List ℕ) (m : ℕ) (c : Board) → P c → P (link_named n name m c)
  step-link n name m c h = link-by P n name c h m (λ i e. edits n (with_changed (fitted c m) i) (λ r. refl) c h)

  pub step-unseen : (n : ℕ) (name : List ℕ) (c : Board) → P c → P (unseen_named n name c)
  step-unseen n name c h = go (index_from (is_named name) 0 (slots_at c n)) refl
    where
      go : (o : Option ℕ) → index_from (is_named name) 0 (slots_at c n) ≡ o → P (unseen_named n name c)
      go None e = rw (unseen_named, e) h
      go (Some i) e = rw (unseen_named, e) (edits n (with_changed unseen i) (λ r. refl) c h)

  pub step-disconnected : (o : Option ℕ) (c : Board) → P c → P (disconnected o c)
  step-disconnected None c h = h
  step-disconnected (Some n) c h = step-set n (codes "period") (val.Uint 0) _ (step-unseen n (codes "source") c h)

  pub step-add : (n : ℕ) (name : List ℕ) (s : Slot) (c : Board) → P c → P (add n name s c)
  unfolding add
  step-add n name s c h = edits n (with_added name s) (λ r. refl) c h

  step-aliased : (n : ℕ) (name property : List ℕ) (o : Option ℕ) (c : Board) → P c → P (aliased n name property o c)
  step-aliased n name property None c h = h
  step-aliased n name property (Some m) c h = step-add n name (alias m property) c h

  -- what is made
  module _ (Made : TypeId → Type 0) (new : KeepsNew Made P) where
    step-row : (n : ℕ) (t : TypeId) (p : Property) → RowPasses Made p → (c : Board) → P c → P (property_made n t (property_name p.name) p.role c)
    step-row n t p passes c h = go p.role refl
      where
        name : List ℕ
        name = property_name p.name

        go : (kind : PropertyRole) → p.role ≡ kind → P (property_made n t name kind c)
        go (row.Plain type first) e = step-add n name (plain (first_value t first)) c h
        go (row.Link target true) e = step-add n name (strong target None) c h
        go (row.Link target false) e = step-add n name (weak target None) c h
        go (row.Child k) e = step-add n name (child (c.born + 1)) (with_new (fresh_record (c.born + 1) k) c) (new k (fresh_slots k) (rw e at passes) c h)
        go (row.Alias owner of) e = step-aliased n name (property_name of) (owned c n (property_name owner)) c h

    step-rows : (n : ℕ) (t : TypeId) (ps : List Property) → AllByRecursion (RowPasses Made) ps → (c : Board) → P c → P (properties_made n t ps c)
    step-rows n t [] passes c h = h
    step-rows n t (p ∷ ps) passes c h = step-rows n t ps passes.1 (property_made n t (property_name p.name) p.role c) (step-row n t p passes.0 c h)

    pub step-drafted : (t : TypeId) → Made t → AllByRecursion (RowPasses Made) (slots_of t) → (b : Board) → P b → P (drafted b t)
    step-drafted t made passes b h = step-rows (b.born + 1) t (slots_of t) passes (with_new (fresh (b.born + 1) t) b) (new t [] made b h)

  -- where it stands
  pub step-joined : (b : Board) (n : ℕ) (a : Wanted) (resources : Resources) (c : Board) → P c → P (joined b n a resources c)
  step-joined b n a resources c h =
      step-add resources.bus (kid_name resources.slot) (strong Device (Some n)) _ (step-add (parent_for a.id) (name_for b a.id) (child n) c h)

  step-valued : (b : Board) (n : ℕ) (a : Wanted) (resources : Resources) (c : Board) → P c → P (valued b n a.props resources c)
  step-valued b n a resources c h =
      step-set n (codes "realized") (val.Bool true) _
      (step-link n (codes "parent_bus") resources.bus _
      (step-set n (codes "slot") (val.Uint resources.slot) _
      (edits n (with_given b a.props) (λ r. refl) c h)))

  step-addressed : (n : ℕ) (range : Option Range) (c : Board) → P c → P (addressed_at n range c)
  step-addressed n None c h = h
  step-addressed n (Some r) c h = step-set n (codes "addr") (val.Uint r.at) c h

  step-source : (source : ℕ) (clock : Option ℕ) (c : Board) → P c → P (with_source source clock c)
  step-source source None c h = h
  step-source source (Some m) c h = step-link m (codes "source") source c h

  -- its id, and the range of a DIMM, are written beside its slots
  pub step-stood : (b : Board) (n : ℕ) (a : Wanted) (resources : Resources) → ((c : Board) → P c → P (edit n (with_body_of a.id resources.range) c))
      → (c : Board)
      → P c → P (clocked (source_for b resources.bus) n (stood b n a resources c))
  step-stood b n a resources body c h =
      step-source (source_for b resources.bus) _ _
      (body _ (step-addressed n resources.range _ (step-valued b n a resources _ (step-joined b n a resources c h))))

-- the steps by which a device comes to stand
pub record StandSteps (P : Board → Type 0) (b : Board) (n : ℕ) (a : Wanted) (resources : Resources) : Type 0 where
  pub named : (c : Board) → P c → P (add (parent_for a.id) (name_for b a.id) (child n) c)
  pub on_bus : (c : Board) → P c → P (add resources.bus (kid_name resources.slot) (strong Device (Some n)) c)
  pub given : (c : Board) → P c → P (edit n (with_given b a.props) c)
  pub placed : (c : Board) → P c → P (set_named n (codes "slot") (val.Uint resources.slot) c)
  pub linked : (c : Board) → P c → P (link_named n (codes "parent_bus") resources.bus c)
  pub marked : (c : Board) → P c → P (set_named n (codes "realized") (val.Bool true) c)
  pub addressed : (c : Board) → P c → P (addressed_at n resources.range c)
  pub bodied : (c : Board) → P c → P (edit n (with_body_of a.id resources.range) c)

pub stand-by : (P : Board → Type 0) (b : Board) (n : ℕ) (a : Wanted) (resources : Resources) → StandSteps P b n a resources → (c : Board) → P c
    → P (stood b n a resources c)
stand-by P b n a resources s c h = s.bodied _ (s.addressed _ (s.marked _ (s.linked _ (s.placed _ (s.given _ (s.on_bus _ (s.named c h)))))))

-- acts
module _ (On : ℕ → Type 0) (P : Board → Type 0) (acts : KeepsActs On P) where
  pub step-acted_all : (act : Act) → deed_type (Did act) ≡ None → (ns : List ℕ) → AllByRecursion On ns → (c : Board) → P c → P (acted_all act ns c)
  step-acted_all act unbound [] on c h = h
  step-acted_all act unbound (n ∷ ns) on c h = step-acted_all act unbound ns on.1 (acted act n 0 c) (acts act n 0 unbound on.0 c h)

  pub step-phased : (act : Act) → deed_type (Did act) ≡ None → (ns : List ℕ) → AllByRecursion On ns → (c : Board) → P c → P (phased act ns c)
  step-phased act unbound [] on c h = h
  step-phased act unbound (n ∷ ns) on c h = step-phased act unbound ns on.1 (acted act n 0 c) (acts act n 0 unbound on.0 c h)

  some-of : (p : ℕ → Bool) (ns : List ℕ) → AllByRecursion On ns → AllByRecursion On (filter p ns)
  some-of p [] on = tt
  some-of p (n ∷ ns) on = go (p n) refl (some-of p ns on.1)
    where
      go : (u : Bool) → p n ≡ u → AllByRecursion On (filter p ns) → AllByRecursion On (filter p (n ∷ ns))
      go true e rest = rw e (on.0, rest)
      go false e rest = rw e rest

  -- phases of what is plugged
  pub step-plugged : (d : ℕ) (c : Board) → AllByRecursion On (post c d) → P c → P (plugged c d)
  unfolding plugged
  step-plugged d c on h =
      step-phased Exit refl (filter (is_not_in_reset c) (post c d)) (some-of (is_not_in_reset c) (post c d) on) _
      (step-phased Hold refl (post c d) on _ (step-phased Enter refl (post c d) on c h))

-- acts of every object
pub all-any : (ns : List ℕ) → AllByRecursion (λ (n : ℕ). ⊤) ns
all-any [] = tt
all-any (n ∷ ns) = (tt, all-any ns)
