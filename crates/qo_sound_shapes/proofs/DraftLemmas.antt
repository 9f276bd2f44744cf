-- A new device is made, row by row, and is shaped as its type says.
use Rattle.std.proofs.Common.{◌≡◌, refl, ap, sym, subst, ◌∙◌, rules, ℕ, ◌<◌, ◌≤◌, ◌+◌, ◌&&◌, Bool, true, false, cond, not, ◌==◌, List, [], ◌∷◌, ◌++◌, append-nil, find, codes, Option, Some, None, option_map, option_and_then, arith}
use Rattle.qo_model.proofs.Common.{⊤, AllByRecursion, list_any, option_map_or, option_or, bytes_eq, fresh_registers, TypeId, Board, Record, Slot, plain, child, strong, weak, alias, record_of, add, fresh, with_added, child_named, first_value, fresh_record, aliased, drafted, owned, property_made, properties_made, with_new, property_name, slots_of, types}
use Rattle.qo_model.specs.declared.properties.Property.{Property}
use Rattle.qo_model.specs.declared.properties.PropertyRole.{PropertyRole}
use Rattle.std.proofs.lemmas.Bool.{and_parts, eq-eqb, eqb-true, not-true}
use Rattle.std.proofs.lemmas.List.{append_assoc}
use Rattle.std.proofs.lemmas.List.Folds.{find-append}
use Rattle.std.proofs.lemmas.Slice.Eq.{bytes_eq-Decides}
use Rattle.std.proofs.Math.Bool.{or-true}
use Rattle.qo_values.proofs.EachLemmas.{each}
use Rattle.qo_model.specs.declared.properties.PropertyRole.TheVariants as row
use Rattle.qo_model.proofs.StepLemmas.{found-birth}
use Rattle.qo_sound_shapes.specs.SoundShape.{further, HasSlots, is_child_role, is_like, IsOfProperty, IsShaped, next}
use Rattle.qo_sound_shapes.proofs.BoardLemmas.{all-becomes, all-new, AllOf}
use Rattle.qo_sound_shapes.proofs.ShapeLemmas.{Good}
use Rattle.qo_sound_shapes.proofs.NewObjectLemmas.{first_fits, fresh-has, fresh-like, good-new, may-hold, of-row, OwnRows, RowsFirst, rows-first}
use Rattle.qo_sound_shapes.proofs.RowLemmas.{Slots}
use Rattle.qo_sound_shapes.proofs.CompletenessLemmas.{HasRows}

-- whether rows can be made in order: the clock's comes once, as a child, and other names come after it
abbrev row_ready : Bool → PropertyRole → Bool
row_ready has (row.Alias owner of) = has && bytes_eq (property_name owner) (codes "clk")
row_ready has kind = true

abbrev ready : Bool → List Property → Bool
ready has [] = true
ready has (p ∷ ps) =
    cond (bytes_eq (property_name p.name) (codes "clk")) (is_child_role p.role && (not has && ready true ps)) (row_ready has p.role && ready has ps)

rows-ready : (t : TypeId) → ready false (slots_of t) ≡ true
unfolding types
rows-ready = each (λ (t : TypeId). ready false (slots_of t) ≡ true) (search rules)

-- further objects have rows of their own alone
abbrev KinRow : PropertyRole → Type 0
KinRow (row.Child k) = OwnRows (slots_of k)
KinRow kind = ⊤

abbrev KinRows : List Property → Type 0
KinRows ps = AllByRecursion (λ (p : Property). KinRow p.role) ps

rows-kin : (t : TypeId) → KinRows (slots_of t)
unfolding types
rows-kin = each (λ (t : TypeId). KinRows (slots_of t)) (search rules)

-- the clock among slots: found as a child, or not there yet
abbrev clock_slot : Slots → Option Slot
clock_slot xs = option_map (λ (s : List ℕ × Slot). s.1) (find (λ s. bytes_eq s.0 (codes "clk")) xs)

abbrev ClockOf : Bool → Slots → Type 0
ClockOf true xs = (m : ℕ) × (option_and_then child_named (clock_slot xs) ≡ Some m)
ClockOf false xs = find (λ s. bytes_eq s.0 (codes "clk")) xs ≡ None

abbrev Adds : Bool → Bool → List ℕ → Slot → Type 0
Adds has later name s = (xs : Slots) → ClockOf has xs → ClockOf later (xs ++ (name, s) ∷ [])

found-last : (name : List ℕ) (s : Slot) (xs : Slots)
    → find (λ (x : List ℕ × Slot). bytes_eq x.0 (codes "clk")) (xs ++ (name, s) ∷ [])
    ≡ option_or (find (λ (x : List ℕ × Slot). bytes_eq x.0 (codes "clk")) xs) (find (λ (x : List ℕ × Slot). bytes_eq x.0 (codes "clk")) ((name, s) ∷ []))
found-last name s xs = find-append (λ (x : List ℕ × Slot). bytes_eq x.0 (codes "clk")) xs ((name, s) ∷ [])

adds-other : (has : Bool) (name : List ℕ) (s : Slot) → bytes_eq name (codes "clk") ≡ false → Adds has has name s
adds-other true name s apart xs h = (h.0, go (find (λ (x : List ℕ × Slot). bytes_eq x.0 (codes "clk")) xs) refl)
  where
    go : (o : Option (List ℕ × Slot)) → find (λ (x : List ℕ × Slot). bytes_eq x.0 (codes "clk")) xs ≡ o
        → option_and_then child_named (clock_slot (xs ++ (name, s) ∷ [])) ≡ Some h.0
    go None e = absurd (let clash : None ≡ Some h.0 = rw e at h.1 in cc)
    go (Some y) e =
        ap (λ (o : Option (List ℕ × Slot)). option_and_then child_named (option_map (λ (x : List ℕ × Slot). x.1) o))
        (found-last name s xs ∙ ap (λ (o : Option (List ℕ × Slot)). option_or o (find (λ (x : List ℕ × Slot). bytes_eq x.0 (codes "clk")) ((name, s) ∷ []))) e)
        ∙ (rw e at h.1)
adds-other false name s apart xs h =
    let none : find (λ (x : List ℕ × Slot). bytes_eq x.0 (codes "clk")) ((name, s) ∷ []) ≡ None = rw apart refl in
    found-last name s xs
    ∙ ap (λ (o : Option (List ℕ × Slot)). option_or o (find (λ (x : List ℕ × Slot). bytes_eq x.0 (codes "clk")) ((name, s) ∷ []))) h
    ∙ none

adds-clock : (name : List ℕ) (m : ℕ) → bytes_eq name (codes "clk") ≡ true → Adds false true name (child m)
adds-clock name m named xs h =
    let its : find (λ (x : List ℕ × Slot). bytes_eq x.0 (codes "clk")) ((name, child m) ∷ []) ≡ Some (name, child m) = rw named refl in (
      m,
      ap (λ (o : Option (List ℕ × Slot)). option_and_then child_named (option_map (λ (x : List ℕ × Slot). x.1) o))
          (found-last name (child m) xs
          ∙ ap (λ (o : Option (List ℕ × Slot)). option_or o (find (λ (x : List ℕ × Slot). bytes_eq x.0 (codes "clk")) ((name, child m) ∷ []))) h
          ∙ its),
    )

-- slots that have the name of each of some rows
abbrev Named : List Property → Slots → Type 0
Named ps xs = AllByRecursion (λ (p : Property). list_any (λ (s : List ℕ × Slot). bytes_eq s.0 (property_name p.name)) xs ≡ true) ps

named-more : (ps : List Property) (s : List ℕ × Slot) (xs : Slots) → Named ps xs → Named ps (s ∷ xs)
named-more [] s xs h = tt
named-more (p ∷ ps) s xs h = (rw (h.0) (or-true (bytes_eq s.0 (property_name p.name))), named-more ps s xs h.1)

named-first : (p : Property) (ps : List Property) (s : Slot) (xs : Slots) → Named ps xs → Named (p ∷ ps) ((property_name p.name, s) ∷ xs)
named-first p ps s xs h =
    let own : bytes_eq (property_name p.name) (property_name p.name) ≡ true = (bytes_eq-Decides (property_name p.name) (property_name p.name)).1 refl in
    (rw own refl, named-more ps (property_name p.name, s) xs h)

module _ (t : TypeId) (n : ℕ) where
  -- the device, with these rows still to come
  record Drafted (has : Bool) (ps : List Property) (r : Record) : Type 0 where
    kind : r.kind ≡ t
    registers : r.registers ≡ fresh_registers t
    slots : (more : Slots) → HasSlots t ps more → Named ps more → HasSlots t (slots_of t) (r.slots ++ more) × Named (slots_of t) (r.slots ++ more)
    clock : ClockOf has r.slots

  record Draft (has : Bool) (ps : List Property) (r : Record) : Type 0 where
    own : r.birth ≡ n → Drafted has ps r
    other : (r.birth == n) ≡ false → Good r

  -- all its rows are made
  record Whole (r : Record) : Type 0 where
    own : r.birth ≡ n → (r.kind ≡ t) × (IsShaped r × Named (slots_of t) r.slots)
    other : (r.birth == n) ≡ false → Good r

  -- a slot more
  draft-add : (has later : Bool) (p : Property) (ps : List Property) (s : Slot) → IsOfProperty p (property_name p.name, s)
      → Adds has later (property_name p.name) s
      → (c : Board) → AllOf (Draft has (p ∷ ps)) c → AllOf (Draft later ps) (add n (property_name p.name) s c)
  unfolding add
  draft-add has later p ps s is adds c h =
      all-becomes (Draft has (p ∷ ps)) (Draft later ps) n (with_added (property_name p.name) s) (λ r. refl) c (λ r e own k. one r own (k.own own))
      (λ r apart k. record { own = λ own. absurd (let clash : true ≡ false = sym (eq-eqb r.birth n own) ∙ apart in cc); other = k.other }) h
    where
      one : (r : Record) → r.birth ≡ n → Drafted has (p ∷ ps) r → Draft later ps (with_added (property_name p.name) s r)
      one r own d =
          record {
            own = λ its.
                record {
                  kind = d.kind;
                  registers = d.registers;
                  slots = λ more k there.
                      subst (λ (xs : Slots). HasSlots t (slots_of t) xs × Named (slots_of t) xs)
                      (sym (append_assoc r.slots ((property_name p.name, s) ∷ []) more))
                      (d.slots ((property_name p.name, s) ∷ more) (next is k) (named-first p ps s more there));
                  clock = adds r.slots d.clock;
                };
            other = λ apart. absurd (let clash : true ≡ false = sym (eq-eqb r.birth n own) ∙ apart in cc);
          }

  -- a further object more
  draft-new : (has : Bool) (ps : List Property) (k : TypeId) → OwnRows (slots_of k) → (c : Board) → n ≤ c.born → 8 ≤ c.born → AllOf (Draft has ps) c
      → AllOf (Draft has ps) (with_new (fresh_record (c.born + 1) k) c)
  draft-new has ps k own c low begun h =
      all-new (Draft has ps) (fresh_record (c.born + 1) k) c (with_new (fresh_record (c.born + 1) k) c) refl
      (record {
        own = λ its. absurd (let clash : n < n = omega (arith, its, low) in omega (arith, clash));
        other = λ apart.
            good-new (fresh_record (c.born + 1) k) (omega (arith, begun)) (record { slots = fresh-has k own; registers = fresh-like k });
      }) h

  -- each row, and those after it
  record Next (has : Bool) (ps : List Property) (before c : Board) : Type 0 where
    all : AllOf (Draft has ps) c
    high : before.born ≤ c.born

  other-row : (has : Bool) (p : Property) (ps : List Property) → bytes_eq (property_name p.name) (codes "clk") ≡ false → row_ready has p.role ≡ true
      → first_fits t p.role ≡ true → KinRow p.role → (c : Board) → n ≤ c.born → 8 ≤ c.born → AllOf (Draft has (p ∷ ps)) c
      → Next has ps c (property_made n t (property_name p.name) p.role c)
  unfolding add
  other-row has p ps apart may fits kin c low begun h = go p.role refl
    where
      adds : (s : Slot) → Adds has has (property_name p.name) s
      adds s = adds-other has (property_name p.name) s apart

      passed : (owner of : _) → p.role ≡ row.Alias owner of → Next has ps c (property_made n t (property_name p.name) (row.Alias owner of) c)
      passed owner of e = at_record (record_of c n) refl
        where
          ok : (has ≡ true) × (bytes_eq (property_name owner) (codes "clk") ≡ true)
          ok = and_parts has (bytes_eq (property_name owner) (codes "clk")) (rw e at may)

          its : property_name owner ≡ codes "clk"
          its = (bytes_eq-Decides (property_name owner) (codes "clk")).0 ok.1

          at_record : (o : Option Record) → record_of c n ≡ o
              → Next has ps c (aliased n (property_name p.name) (property_name of) (owned c n (property_name owner)) c)
          at_record None q =
              let none : owned c n (property_name owner) ≡ None =
              ap (λ (o : Option Record). option_and_then child_named
              (option_map (λ (s : List ℕ × Slot). s.1) (find (λ s. bytes_eq s.0 (property_name owner)) (option_map_or (λ (y : Record). y.slots) o [])))) q in
              rw none
              (record {
                all = λ x r k.
                    record {
                      own = λ own.
                          let there : record_of c n ≡ Some r = ap (record_of c) (sym own ∙ found-birth x c.records r k) ∙ k in
                          absurd (let clash : None ≡ Some r = sym q ∙ there in cc);
                      other = (h x r k).other;
                    };
                high = omega arith;
              })
          at_record (Some r) q =
              let d : Drafted has (p ∷ ps) r = (h n r q).own (found-birth n c.records r q) in
              let clock : ClockOf true r.slots = subst (λ (u : Bool). ClockOf u r.slots) ok.0 d.clock in
              let found : owned c n (property_name owner) ≡ Some clock.0 =
              ap (owned c n) its
              ∙ ap (λ (o : Option Record). option_and_then child_named
              (option_map (λ (s : List ℕ × Slot). s.1) (find (λ s. bytes_eq s.0 (codes "clk")) (option_map_or (λ (y : Record). y.slots) o [])))) q
              ∙ clock.1 in
              rw found
              (record {
                all =
                    draft-add has has p ps (alias clock.0 (property_name of)) (of-row p (row.Alias owner of) (alias clock.0 (property_name of)) e refl)
                    (adds (alias clock.0 (property_name of))) c h;
                high = omega arith;
              })

      go : (kind : PropertyRole) → p.role ≡ kind → Next has ps c (property_made n t (property_name p.name) kind c)
      go (row.Plain type first) e =
          record {
            all =
                draft-add has has p ps (plain (first_value t first))
                (of-row p (row.Plain type first) (plain (first_value t first)) e (may-hold t type first (rw e at fits)))
                (adds (plain (first_value t first))) c h;
            high = omega arith;
          }
      go (row.Link k true) e =
          record {
            all = draft-add has has p ps (strong k None) (of-row p (row.Link k true) (strong k None) e refl)
                (adds (strong k None)) c h;
            high = omega arith;
          }
      go (row.Link k false) e =
          record { all = draft-add has has p ps (weak k None) (of-row p (row.Link k false) (weak k None) e refl) (adds (weak k None)) c h; high = omega arith }
      go (row.Child k) e =
          record {
            all =
                draft-add has has p ps (child (c.born + 1)) (of-row p (row.Child k) (child (c.born + 1)) e tt) (adds (child (c.born + 1)))
                (with_new (fresh_record (c.born + 1) k) c) (draft-new has (p ∷ ps) k (subst KinRow e kin) c low begun h);
            high = omega arith;
          }
      go (row.Alias owner of) e = passed owner of e

  clock-row : (p : Property) (ps : List Property) → bytes_eq (property_name p.name) (codes "clk") ≡ true → is_child_role p.role ≡ true → KinRow p.role
      → (c : Board) → n ≤ c.born → 8 ≤ c.born → AllOf (Draft false (p ∷ ps)) c → Next true ps c (property_made n t (property_name p.name) p.role c)
  unfolding add
  clock-row p ps named is kin c low begun h = go p.role refl
    where
      go : (kind : PropertyRole) → p.role ≡ kind → Next true ps c (property_made n t (property_name p.name) kind c)
      go (row.Child k) e =
          record {
            all =
                draft-add false true p ps (child (c.born + 1)) (of-row p (row.Child k) (child (c.born + 1)) e tt)
                (adds-clock (property_name p.name) (c.born + 1) named)
                (with_new (fresh_record (c.born + 1) k) c) (draft-new false (p ∷ ps) k (subst KinRow e kin) c low begun h);
            high = omega arith;
          }
      go (row.Plain type first) e = absurd (let clash : false ≡ true = rw e at is in cc)
      go (row.Link k holds) e = absurd (let clash : false ≡ true = rw e at is in cc)
      go (row.Alias owner of) e = absurd (let clash : false ≡ true = rw e at is in cc)

  draft-rows : (has : Bool) (ps : List Property) → ready has ps ≡ true → RowsFirst t ps → KinRows ps → (c : Board) → n ≤ c.born → 8 ≤ c.born
      → AllOf (Draft has ps) c → AllOf Whole (properties_made n t ps c)
  draft-rows has [] may fits kin c low begun h =
      λ x r e. record {
        own = λ own.
            let d : Drafted has [] r = (h x r e).own own in
            let whole : HasSlots t (slots_of t) r.slots × Named (slots_of t) r.slots =
            subst (λ (xs : Slots). HasSlots t (slots_of t) xs × Named (slots_of t) xs) (append-nil r.slots) (d.slots [] (further tt) tt) in (
              d.kind,
              (
                record {
                  slots = subst (λ (k : TypeId). HasSlots k (slots_of k) r.slots) (sym d.kind) whole.0;
                  registers =
                      subst (λ (k : TypeId). is_like r.registers (fresh_registers k) ≡ true) (sym d.kind)
                      (ap (λ (y : _). is_like y (fresh_registers t)) d.registers ∙ fresh-like t);
                },
                whole.1,
              ),
            );
        other = (h x r e).other;
      }
  draft-rows has (p ∷ ps) may fits kin c low begun h = go (bytes_eq (property_name p.name) (codes "clk")) refl (draft-rows has ps) (draft-rows true ps)
    where
      go : (u : Bool) → bytes_eq (property_name p.name) (codes "clk") ≡ u
          → (ready has ps ≡ true → RowsFirst t ps → KinRows ps → (d : Board) → n ≤ d.born → 8 ≤ d.born → AllOf (Draft has ps) d
          → AllOf Whole (properties_made n t ps d))
          → (ready true ps ≡ true → RowsFirst t ps → KinRows ps → (d : Board) → n ≤ d.born → 8 ≤ d.born → AllOf (Draft true ps) d
          → AllOf Whole (properties_made n t ps d))
          → AllOf Whole (properties_made n t (p ∷ ps) c)
      go true q rest clocked =
          let one = and_parts (is_child_role p.role) (not has && ready true ps) (rw q at may) in
          let two = and_parts (not has) (ready true ps) one.1 in
          let none : has ≡ false = not-true has two.0 in
          let it : Next true ps c (property_made n t (property_name p.name) p.role c) =
          clock-row p ps q one.0 kin.0 c low begun (subst (λ (u : Bool). AllOf (Draft u (p ∷ ps)) c) none h) in
          clocked two.1 fits.1 kin.1 (property_made n t (property_name p.name) p.role c) (omega (arith, low, it.high)) (omega (arith, begun, it.high)) it.all
      go false q rest clocked =
          let one = and_parts (row_ready has p.role) (ready has ps) (rw q at may) in
          let it : Next has ps c (property_made n t (property_name p.name) p.role c) = other-row has p ps q one.0 fits.0 kin.0 c low begun h in
          rest one.1 fits.1 kin.1 (property_made n t (property_name p.name) p.role c) (omega (arith, low, it.high)) (omega (arith, begun, it.high)) it.all

-- the device that was made, and those that were there
module _ (b : Board) (t : TypeId) (begun : 8 ≤ b.born) (absent : record_of b (b.born + 1) ≡ None) (h : AllOf Good b) where
  first : AllOf (Draft t (b.born + 1) false (slots_of t)) (with_new (fresh (b.born + 1) t) b)
  first =
      all-new (Draft t (b.born + 1) false (slots_of t)) (fresh (b.born + 1) t) b (with_new (fresh (b.born + 1) t) b) refl
      (record {
        own = λ own. record { kind = refl; registers = refl; slots = λ more k there. (k, there); clock = refl };
        other = λ apart. absurd (let clash : true ≡ false = sym (eq-eqb (b.born + 1) (b.born + 1) refl) ∙ apart in cc);
      })
      (λ x r e.
      record {
        own = λ own.
            let there : record_of b (b.born + 1) ≡ Some r = ap (record_of b) (sym own ∙ found-birth x b.records r e) ∙ e in
            absurd (let clash : None ≡ Some r = sym absent ∙ there in cc);
        other = λ apart. h x r e;
      })

  whole : AllOf (Whole t (b.born + 1)) (drafted b t)
  whole =
      draft-rows t (b.born + 1) false (slots_of t) (rows-ready t) (rows-first t) (rows-kin t) (with_new (fresh (b.born + 1) t) b) (omega arith)
      (omega (arith, begun)) first

  pub drafted-good : AllOf Good (drafted b t)
  drafted-good x r e = go (r.birth == (b.born + 1)) refl
    where
      w : Whole t (b.born + 1) r
      w = whole x r e

      go : (u : Bool) → (r.birth == (b.born + 1)) ≡ u → Good r
      go true p =
          let own : r.birth ≡ b.born + 1 = eqb-true r.birth (b.born + 1) p in
          good-new r (omega (arith, begun, own)) (w.own own).1.0
      go false p = w.other p

  -- the device lacks none of its slots
  pub drafted-rows : (x : ℕ) (r : Record) → record_of (drafted b t) x ≡ Some r → r.birth ≡ b.born + 1 → HasRows r.kind r.slots
  drafted-rows x r e own =
      let its = (whole x r e).own own in
      subst (λ (k : TypeId). HasRows k r.slots) (sym its.0) its.1.1
