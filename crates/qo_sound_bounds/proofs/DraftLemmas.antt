-- A new device as it is made: its clock is a clock as new.
use Rattle.std.proofs.Common.{◌≡◌, refl, ap, sym, subst, ◌∙◌, rules, ℕ, zero, suc, ◌+◌, ◌<◌, ◌≤◌, Bool, true, false, not, ◌||◌, ◌==◌, List, [], ◌∷◌, find, Option, Some, None, option_map, option_and_then, codes, arith}
use Rattle.qo_model.proofs.Common.{⊤, AllByRecursion, option_or, bytes_eq, TypeId, Clock, Val, Board, Record, Slot, plain, child, strong, weak, alias, record_of, slots_at, add, changed_at, fresh, with_added, with_val, child_named, Given, slot_given, first_value, fresh_record, fresh_slots, aliased, drafted, fitted, owned, property_made, properties_made, with_new, edited, property_name, slots_of, types}
use Rattle.qo_model.specs.declared.properties.Property.{Property}
use Rattle.qo_model.specs.declared.properties.PropertyRole.{PropertyRole}
use Rattle.std.proofs.lemmas.Bool.{eqb-true, eq-eqb}
use Rattle.std.proofs.lemmas.List.Folds.{find-append}
use Rattle.std.proofs.lemmas.Option.{same_Some}
use Rattle.qo_model.specs.declared.properties.PropertyRole.TheVariants as row
use Rattle.qo_model.proofs.FirstSlotLemmas.{slots_in}
use Rattle.qo_model.proofs.StepLemmas.{found_at, found-edited}
use Rattle.qo_sound.proofs.GivenPropertyLemmas.{given-cases}
use Rattle.qo_sound.proofs.RecordLemmas.{all-append}
use Rattle.qo_values.proofs.ListLemmas.{all-imply}
use Rattle.qo_values.proofs.EachLemmas.{each}
use Rattle.qo_sound.proofs.TestLemmas.{clash-back}
use Rattle.qo_sound_devices.proofs.SourceLemmas.{add-other}
use Rattle.qo_sound_clocks.proofs.SlotLemmas.{Slots}
use Rattle.qo_sound_clocks.proofs.PlugLemmas.{edited-at}

-- a clock as new, younger than a birth
pub record IsNewClock (n : ℕ) (c : Board) (m : ℕ) : Type 0 where
  pub its : Record
  pub found : record_of c m ≡ Some its
  pub kind : its.kind ≡ Clock
  pub slots : its.slots ≡ fresh_slots Clock
  pub young : n < m

-- a slot under the name of a clock, if it is a child slot, names one
abbrev pub ClockIn : ℕ → Board → List ℕ × Slot → Type 0
ClockIn n c (name, child m) = bytes_eq name (codes "clk") ≡ true → IsNewClock n c m
ClockIn n c s = ⊤

abbrev is_clock : TypeId → Bool
is_clock Clock = true
is_clock t = false

abbrev fits_clock : List ℕ → PropertyRole → Bool
fits_clock name (row.Child k) = not (bytes_eq name (codes "clk")) || is_clock k
fits_clock name kind = true

abbrev RowClock : Property → Type 0
RowClock p = fits_clock (property_name p.name) p.role ≡ true

rows-clock : (t : TypeId) → AllByRecursion RowClock (slots_of t)
unfolding types
rows-clock = each (λ (t : TypeId). AllByRecursion RowClock (slots_of t)) (search rules)

the-clock : (k : TypeId) → is_clock k ≡ true → k ≡ Clock
the-clock = each (λ (k : TypeId). is_clock k ≡ true → k ≡ Clock) (search rules)

row-clock : (name : List ℕ) (k : TypeId) → fits_clock name (row.Child k) ≡ true → bytes_eq name (codes "clk") ≡ true → k ≡ Clock
row-clock name k h e = the-clock k (rw e at h)

-- what is kept as it is made
record Ready (n : ℕ) (c : Board) : Type 0 where
  high : n ≤ c.born
  above : (x : ℕ) → c.born < x → record_of c x ≡ None
  heirs : AllByRecursion (ClockIn n c) (slots_at c n)

clock-on : (n : ℕ) (c d : Board) → ((m : ℕ) → n < m → (r : Record) → record_of c m ≡ Some r → record_of d m ≡ Some r) → (s : List ℕ × Slot)
    → ClockIn n c s → ClockIn n d s
clock-on n c d on (name, plain v) h = h
clock-on n c d on (name, strong t target) h = h
clock-on n c d on (name, weak t target) h = h
clock-on n c d on (name, alias m property) h = h
clock-on n c d on (name, child m) h = λ e. go (h e)
  where
    go : IsNewClock n c m → IsNewClock n d m
    go k = record { its = k.its; found = on m k.young k.its k.found; kind = k.kind; slots = k.slots; young = k.young }

pub young-apart : (n m : ℕ) → n < m → (m == n) ≡ false
young-apart n m low = go (m == n) refl
  where
    go : (t : Bool) → (m == n) ≡ t → (m == n) ≡ false
    go false p = p
    go true p = absurd (let is : m ≡ n = eqb-true m n p in omega (arith, low, is))

ready-add : (n : ℕ) (name : List ℕ) (s : Slot) (c : Board) → ClockIn n c (name, s) → Ready n c → Ready n (add n name s c)
unfolding add
ready-add n name s c new h =
    record {
      high = h.high;
      above = λ x high.
          found-edited n (with_added name s) (λ r. refl) x c.records ∙ ap (option_map (edited n (with_added name s))) (h.above x high);
      heirs =
          edited-at (AllByRecursion (ClockIn n d)) n (with_added name s) (λ r. refl) c n (λ p. lift (slots_at c n) h.heirs)
          (λ r e p.
          all-append (ClockIn n d) r.slots ((name, s) ∷ []) (lift r.slots (subst (AllByRecursion (ClockIn n c)) (ap slots_in e) h.heirs))
          (clock-on n c d on (name, s) new, tt))
          tt;
    }
  where
    d : Board
    d = add n name s c

    on : (m : ℕ) → n < m → (r : Record) → record_of c m ≡ Some r → record_of d m ≡ Some r
    on m low r e = add-other m n name s (young-apart n m low) c ∙ e

    lift : (xs : Slots) → AllByRecursion (ClockIn n c) xs → AllByRecursion (ClockIn n d) xs
    lift xs k = all-imply (ClockIn n c) (ClockIn n d) (clock-on n c d on) xs k

found-new : (r : Record) (c : Board) (x : ℕ) → record_of (with_new r c) x ≡ option_or (record_of c x) (found_at x (r ∷ []))
found-new r c x = find-append (λ (y : Record). y.birth == x) c.records (r ∷ [])

found-own : (r : Record) (x : ℕ) → r.birth ≡ x → found_at x (r ∷ []) ≡ Some r
found-own r x is = let own : (r.birth == x) ≡ true = eq-eqb r.birth x is in rw own refl

found-none : (r : Record) (x : ℕ) → (r.birth == x) ≡ false → found_at x (r ∷ []) ≡ None
found-none r x p = rw p refl

ready-new : (n : ℕ) (r : Record) (c : Board) → r.birth ≡ c.born + 1 → Ready n c → Ready n (with_new r c)
ready-new n r c birth h =
    record {
      high = omega (arith, h.high);
      above = λ x high.
          found-new r c x
          ∙ ap (λ (o : Option Record). option_or o (found_at x (r ∷ []))) (h.above x (omega (arith, high)))
          ∙ found-none r x (other x (λ is. omega (arith, high, birth, is)));
      heirs =
          subst (AllByRecursion (ClockIn n d)) (sym (ap slots_in (found-new r c n) ∙ same (record_of c n)))
          (all-imply (ClockIn n c) (ClockIn n d) (clock-on n c d on) (slots_at c n) h.heirs);
    }
  where
    d : Board
    d = with_new r c

    other : (x : ℕ) → (r.birth ≡ x → ⊥) → (r.birth == x) ≡ false
    other x none = go (r.birth == x) refl
      where
        go : (t : Bool) → (r.birth == x) ≡ t → (r.birth == x) ≡ false
        go false p = p
        go true p = absurd (none (eqb-true r.birth x p))

    same : (o : Option Record) → slots_in (option_or o (found_at n (r ∷ []))) ≡ slots_in o
    same (Some y) = refl
    same None = ap slots_in (found-none r n (other n (λ is. let low : n ≤ c.born = h.high in omega (arith, low, birth, is))))

    on : (m : ℕ) → n < m → (y : Record) → record_of c m ≡ Some y → record_of d m ≡ Some y
    on m low y e = found-new r c m ∙ ap (λ (o : Option Record). option_or o (found_at m (r ∷ []))) e

ready-kid : (n : ℕ) (name : List ℕ) (k : TypeId) (c : Board) → (bytes_eq name (codes "clk") ≡ true → k ≡ Clock) → Ready n c
    → Ready n (add n name (child (c.born + 1)) (with_new (fresh_record (c.born + 1) k) c))
ready-kid n name k c row h =
    ready-add n name (child (c.born + 1)) (with_new (fresh_record (c.born + 1) k) c) new (ready-new n (fresh_record (c.born + 1) k) c refl h)
  where
    new : bytes_eq name (codes "clk") ≡ true → IsNewClock n (with_new (fresh_record (c.born + 1) k) c) (c.born + 1)
    new e =
        record {
          its = fresh_record (c.born + 1) k;
          found =
              found-new (fresh_record (c.born + 1) k) c (c.born + 1)
              ∙ ap (λ (o : Option Record). option_or o (found_at (c.born + 1) (fresh_record (c.born + 1) k ∷ []))) (h.above (c.born + 1) (omega arith))
              ∙ found-own (fresh_record (c.born + 1) k) (c.born + 1) refl;
          kind = row e;
          slots = ap fresh_slots (row e);
          young = let low : n ≤ c.born = h.high in omega (arith, low);
        }

ready-row : (n : ℕ) (t : TypeId) (p : Property) → RowClock p → (c : Board) → Ready n c → Ready n (property_made n t (property_name p.name) p.role c)
ready-row n t p clock c h = go p.role refl
  where
    name : List ℕ
    name = property_name p.name

    aliases : (property : List ℕ) (o : Option ℕ) → Ready n (aliased n name property o c)
    aliases property None = h
    aliases property (Some m) = ready-add n name (alias m property) c tt h

    go : (kind : PropertyRole) → p.role ≡ kind → Ready n (property_made n t name kind c)
    go (row.Plain type first) e = ready-add n name (plain (first_value t first)) c tt h
    go (row.Link target true) e = ready-add n name (strong target None) c tt h
    go (row.Link target false) e = ready-add n name (weak target None) c tt h
    go (row.Child k) e = ready-kid n name k c (row-clock name k (sym (ap (fits_clock name) e) ∙ clock)) h
    go (row.Alias owner of) e = aliases (property_name of) (owned c n (property_name owner))

ready-rows : (n : ℕ) (t : TypeId) (ps : List Property) → AllByRecursion RowClock ps → (c : Board) → Ready n c → Ready n (properties_made n t ps c)
ready-rows n t [] clock c h = h
ready-rows n t (p ∷ ps) clock c h = ready-rows n t ps clock.1 (property_made n t (property_name p.name) p.role c) (ready-row n t p clock.0 c h)

-- the slots of the device that was made
pub drafted-clock : (b : Board) → ((x : ℕ) → b.born < x → record_of b x ≡ None) → (t : TypeId)
    → AllByRecursion (ClockIn (b.born + 1) (drafted b t)) (slots_at (drafted b t) (b.born + 1))
drafted-clock b absent t = (ready-rows n t (slots_of t) (rows-clock t) (with_new (fresh n t) b) first).heirs
  where
    n : ℕ
    n = b.born + 1

    slots : slots_at (with_new (fresh (b.born + 1) t) b) (b.born + 1) ≡ []
    slots =
        ap slots_in
        (found-new (fresh n t) b n
        ∙ ap (λ (o : Option Record). option_or o (found_at n (fresh n t ∷ []))) (absent n (omega arith))
        ∙ found-own (fresh n t) n refl)

    first : Ready (b.born + 1) (with_new (fresh (b.born + 1) t) b)
    first =
        record {
          high = omega arith;
          above = λ x high.
              found-new (fresh n t) b x
              ∙ ap (λ (o : Option Record). option_or o (found_at x (fresh n t ∷ []))) (absent x (omega (arith, high)))
              ∙ found-none (fresh n t) x (apart x high);
          heirs = subst (AllByRecursion (ClockIn n (with_new (fresh n t) b))) (sym slots) tt;
        }
      where
        apart : (x : ℕ) → b.born + 1 < x → (b.born + 1 == x) ≡ false
        apart x high = go (b.born + 1 == x) refl
          where
            go : (t : Bool) → (b.born + 1 == x) ≡ t → (b.born + 1 == x) ≡ false
            go false p = p
            go true p = absurd (let is : b.born + 1 ≡ x = eqb-true (b.born + 1) x p in omega (arith, high, is))

-- the clock among such slots
pub clock-in : (n : ℕ) (c : Board) (xs : Slots) → AllByRecursion (ClockIn n c) xs → (k : ℕ)
    → option_and_then child_named (option_map (λ (s : List ℕ × Slot). s.1) (find (λ s. bytes_eq s.0 (codes "clk")) xs)) ≡ Some k → IsNewClock n c k
clock-in n c [] h k e = cc
clock-in n c (x ∷ xs) h k e = go (bytes_eq x.0 (codes "clk")) refl (clock-in n c xs h.1 k)
  where
    here : (y : List ℕ × Slot) → ClockIn n c y → bytes_eq y.0 (codes "clk") ≡ true → child_named y.1 ≡ Some k → IsNewClock n c k
    here (own, plain v) j p q = cc
    here (own, strong t target) j p q = cc
    here (own, weak t target) j p q = cc
    here (own, alias m property) j p q = cc
    here (own, child m) j p q = subst (IsNewClock n c) (same_Some m k q) (j p)

    go : (t : Bool) → bytes_eq x.0 (codes "clk") ≡ t
        → (option_and_then child_named (option_map (λ (s : List ℕ × Slot). s.1) (find (λ s. bytes_eq s.0 (codes "clk")) xs)) ≡ Some k
        → IsNewClock n c k)
        → IsNewClock n c k
    go true p rest = here x h.0 p (rw p at e)
    go false p rest = rest (rw p at e)

-- slots that change and name the same
module _ (n : ℕ) (c : Board) where
  pub clocks-changed : (g : Slot → Slot) → ((x : List ℕ × Slot) → ClockIn n c x → ClockIn n c (x.0, g x.1)) → (i : ℕ) (xs : Slots)
      → AllByRecursion (ClockIn n c) xs → AllByRecursion (ClockIn n c) (changed_at g i xs)
  clocks-changed g keeps i [] h = tt
  clocks-changed g keeps zero (x ∷ xs) h = (keeps x h.0, h.1)
  clocks-changed g keeps (suc i) (x ∷ xs) h = (h.0, clocks-changed g keeps i xs h.1)

  pub clock-val : (v : Val) (x : List ℕ × Slot) → ClockIn n c x → ClockIn n c (x.0, with_val v x.1)
  clock-val v (name, plain w) h = h
  clock-val v (name, child m) h = h
  clock-val v (name, strong t target) h = h
  clock-val v (name, weak t target) h = h
  clock-val v (name, alias m property) h = h

  pub clock-fitted : (d : Board) (m : ℕ) (x : List ℕ × Slot) → ClockIn n c x → ClockIn n c (x.0, fitted d m x.1)
  clock-fitted d m (name, plain w) h = h
  clock-fitted d m (name, child j) h = h
  clock-fitted d m (name, strong t None) h = h
  clock-fitted d m (name, strong t (Some j)) h = h
  clock-fitted d m (name, weak t None) h = h
  clock-fitted d m (name, weak t (Some j)) h = h
  clock-fitted d m (name, alias j property) h = h

  pub clock-given : (b : Board) (props : List Given) (x : List ℕ × Slot) → ClockIn n c x → ClockIn n c (slot_given b props x)
  clock-given b props (name, s) h =
      given-cases b props (λ x y. ClockIn n c (name, x) → ClockIn n c (name, y)) (λ x j. j) (λ old v j. tt) (λ t target path j. tt) (λ t target path j. tt)
      (name, s) h
