-- A device that is added brings clocks as new, which go by an older clock; the others stay as they are.
use Rattle.std.proofs.Common.{◌≡◌, ◌⊎◌, inl, inr, refl, ap, sym, subst, ◌∙◌, rules, ℕ, zero, suc, ◌+◌, ◌<◌, ◌≤◌, Bool, true, false, ◌==◌, List, [], ◌∷◌, find, Option, Some, None, option_map, option_and_then, codes, arith}
use Rattle.qo_model.proofs.Common.{⊤, AllByRecursion, option_or, bytes_eq, type_name, Realize, TypeId, Device, Val, Range, Board, Record, Slot, plain, child, strong, weak, alias, record_of, slots_at, add, changed_at, fresh, with_added, with_changed, with_val, acted, child_named, clock_of, kid_name, plain_in, Given, slot_given, first_value, fresh_record, fresh_slots, canonical, is_of, only_of, Resources, Wanted, acted_all, addressed_at, aliased, bus_births, clocked, counted, drafted, fitted, link_named, name_for, owned, parent_for, property_made, properties_made, source_for, stood, with_body_of, with_device, with_given, with_new, with_path, with_plugged, with_source, edit, edited, plugged, post, property_name, is_a, slots_of, types, set_named}
use Rattle.qo_model.specs.declared.properties.Property.{Property}
use Rattle.qo_model.specs.declared.properties.PropertyRole.{PropertyRole}
use Rattle.std.proofs.lemmas.Bool.{and_parts, eqb-true, or_cases, or_right}
use Rattle.std.proofs.lemmas.Option.{same_Some}
use Rattle.qo_values.specs.declared.properties.Val.TheVariants as val
use Rattle.qo_values.proofs.EachLemmas.{each}
use Rattle.qo_model.specs.Clocks.{weak_in}
use Rattle.qo_model.specs.declared.properties.PropertyRole.TheVariants as row
use Rattle.qo_model.proofs.FirstSlotLemmas.{slots_in}
use Rattle.qo_model.proofs.StepLemmas.{found-edited, found_at, found-birth}
use Rattle.qo_sound.proofs.SearchLemmas.{found-append}
use Rattle.qo_sound.proofs.GivenPropertyLemmas.{given-cases}
use Rattle.qo_sound.proofs.AdditionStepsLemmas.{all-any, KeepsActs, link-by, set-by, stand-by, step-acted_all, step-plugged}
use Rattle.qo_sound.proofs.ReadLemmas.{plain-fitted}
use Rattle.qo_sound.proofs.RecordLemmas.{all-append, all-map}
use Rattle.qo_sound_clocks.proofs.SlotLemmas.{Blank, blank-none, div_in, is_target, Less, less-added, less-blank, less-none, less-then, mul_in, number-same, own_in, plain-changed, plain_of, sees, sees_it, Slots}
use Rattle.qo_sound_clocks.proofs.QuietSlotLemmas.{is_read, Quiet, quiet-blank, quiet-given}
use Rattle.qo_sound_clocks.proofs.DependenceLemmas.{acted-slots}

-- a slot of the new device: it is not read as a clock's, and a child is new

abbrev pub Above : ℕ → List ℕ × Slot → Type 0
Above k (name, child m) = k < m
Above k s = ⊤

abbrev pub NewSlot : ℕ → List ℕ × Slot → Type 0
NewSlot k s = Quiet s × Above k s

abbrev pub NewSlots : ℕ → Slots → Type 0
NewSlots k xs = AllByRecursion (NewSlot k) xs

-- a clock as new goes by nothing but one clock

pub record OnlySource (source : ℕ) (ys : Slots) : Type 0 where
  pub own : own_in ys ≡ 0
  pub mul : mul_in ys ≡ 1
  pub div : div_in ys ≡ 1
  pub only : (s : ℕ) → sees s ys ≡ true → s ≡ source

calm-blank : (source : ℕ) (ys : Slots) → Blank ys → OnlySource source ys
calm-blank source ys h =
    record { own = h.own; mul = h.mul; div = h.div; only = λ s e. absurd (let clash : true ≡ false = sym e ∙ h.source s in cc) }

news-quiet : (k : ℕ) (xs : Slots) → NewSlots k xs → AllByRecursion Quiet xs
news-quiet k [] h = tt
news-quiet k (x ∷ xs) h = (h.0.0, news-quiet k xs h.1)

calm-news : (source k : ℕ) (xs : Slots) → NewSlots k xs → OnlySource source xs
calm-news source k xs h = calm-blank source xs (quiet-blank xs (news-quiet k xs h))

calm-less : (source : ℕ) (xs ys : Slots) → Less xs ys → OnlySource source xs → OnlySource source ys
calm-less source xs ys less h = go less.scale
  where
    go : ((mul_in ys ≡ mul_in xs) × (div_in ys ≡ div_in xs)) ⊎ Blank ys → OnlySource source ys
    go (inl same) =
        record {
          own = let none : own_in xs ≡ 0 = h.own in omega (arith, none, less.own);
          mul = same.0 ∙ h.mul;
          div = same.1 ∙ h.div;
          only = λ s e. h.only s (less.source s e);
        }
    go (inr blank) = calm-blank source ys blank

blank-fresh : (t : TypeId) → Blank (fresh_slots t)
unfolding types
blank-fresh = each (λ (t : TypeId). Blank (fresh_slots t)) (search rules)

-- the rows of a device name nothing that is read of clocks

abbrev pub RowQuiet : Property → Type 0
RowQuiet p =
    elim p.role as (λ _. Type 0) [
      | row.Plain type first ↦ is_read (property_name p.name) ≡ false
      | row.Link t holds ↦ is_read (property_name p.name) ≡ false
      | _ ↦ ⊤
    ]

pub rows-quiet : (t : TypeId) → is_a t (codes "device") ≡ true → AllByRecursion RowQuiet (slots_of t)
unfolding types
rows-quiet = each (λ (t : TypeId). is_a t (codes "device") ≡ true → AllByRecursion RowQuiet (slots_of t)) (search rules)

-- slots that change and stay new

news-changed : (k : ℕ) (g : Slot → Slot) → ((x : List ℕ × Slot) → NewSlot k x → NewSlot k (x.0, g x.1)) → (i : ℕ) (xs : Slots) → NewSlots k xs
    → NewSlots k (changed_at g i xs)
news-changed k g keeps i [] h = tt
news-changed k g keeps zero (x ∷ xs) h = (keeps x h.0, h.1)
news-changed k g keeps (suc i) (x ∷ xs) h = (h.0, news-changed k g keeps i xs h.1)

new-val : (k : ℕ) (v : Val) (x : List ℕ × Slot) → NewSlot k x → NewSlot k (x.0, with_val v x.1)
new-val k v (name, plain w) h = h
new-val k v (name, child m) h = h
new-val k v (name, strong t target) h = h
new-val k v (name, weak t target) h = h
new-val k v (name, alias m property) h = h

new-fitted : (k : ℕ) (c : Board) (m : ℕ) (x : List ℕ × Slot) → NewSlot k x → NewSlot k (x.0, fitted c m x.1)
new-fitted k c m (name, plain w) h = h
new-fitted k c m (name, child j) h = h
new-fitted k c m (name, strong t None) h = h
new-fitted k c m (name, strong t (Some j)) h = h
new-fitted k c m (name, weak t None) h = h
new-fitted k c m (name, weak t (Some j)) h = h
new-fitted k c m (name, alias j property) h = h

above-given : (k : ℕ) (b : Board) (props : List Given) (s : List ℕ × Slot) → Above k s → Above k (slot_given b props s)
above-given k b props (name, s) h =
    given-cases b props (λ x y. Above k (name, x) → Above k (name, y)) (λ x j. j) (λ old v j. tt) (λ t target path j. tt) (λ t target path j. tt) (name, s) h

-- the source that a clock is given

only-that : (c : Board) (name : List ℕ) (m s : ℕ) → is_target s (only_of c name m) ≡ true → s ≡ m
only-that c name m s e = go (is_of c name m) refl
  where
    go : (t : Bool) → is_of c name m ≡ t → s ≡ m
    go true p = let is : (m == s) ≡ true = rw (only_of, p) at e in sym (eqb-true m s is)
    go false p = absurd (let clash : false ≡ true = rw (only_of, p) at e in cc)

sees-fitted_it : (c : Board) (m s : ℕ) (x : List ℕ × Slot) → sees_it s (x.0, fitted c m x.1) ≡ true → (sees_it s x ≡ true) ⊎ (s ≡ m)
sees-fitted_it c m s (name, plain v) e = inl e
sees-fitted_it c m s (name, child k) e = inl e
sees-fitted_it c m s (name, strong t None) e = inl e
sees-fitted_it c m s (name, strong t (Some k)) e = inl e
sees-fitted_it c m s (name, weak t None) e =
    inr (only-that c (type_name t) m s (and_parts (bytes_eq name (codes "source")) (is_target s (only_of c (type_name t) m)) e).1)
sees-fitted_it c m s (name, weak t (Some k)) e = inl e
sees-fitted_it c m s (name, alias k property) e = inl e

sees-fitted : (c : Board) (m s i : ℕ) (xs : Slots) → sees s (changed_at (fitted c m) i xs) ≡ true → (sees s xs ≡ true) ⊎ (s ≡ m)
sees-fitted c m s i [] e = inl e
sees-fitted c m s zero (x ∷ xs) e = go (or_cases (sees_it s (x.0, fitted c m x.1)) (sees s xs) e)
  where
    go : (sees_it s (x.0, fitted c m x.1) ≡ true) ⊎ (sees s xs ≡ true) → (sees s (x ∷ xs) ≡ true) ⊎ (s ≡ m)
    go (inr rest) = inl (or_right (sees_it s x) (sees s xs) rest)
    go (inl here) = by (sees-fitted_it c m s x here)
      where
        by : (sees_it s x ≡ true) ⊎ (s ≡ m) → (sees s (x ∷ xs) ≡ true) ⊎ (s ≡ m)
        by (inl own) = inl (rw own refl)
        by (inr is) = inr is
sees-fitted c m s (suc i) (x ∷ xs) e = go (or_cases (sees_it s x) (sees s (changed_at (fitted c m) i xs)) e) (sees-fitted c m s i xs)
  where
    go : (sees_it s x ≡ true) ⊎ (sees s (changed_at (fitted c m) i xs) ≡ true)
        → (sees s (changed_at (fitted c m) i xs) ≡ true → (sees s xs ≡ true) ⊎ (s ≡ m)) → (sees s (x ∷ xs) ≡ true) ⊎ (s ≡ m)
    go (inl here) rest = inl (rw here refl)
    go (inr there) rest = by (rest there)
      where
        by : (sees s xs ≡ true) ⊎ (s ≡ m) → (sees s (x ∷ xs) ≡ true) ⊎ (s ≡ m)
        by (inl own) = inl (or_right (sees_it s x) (sees s xs) own)
        by (inr is) = inr is

calm-fitted : (c : Board) (source i : ℕ) (xs : Slots) → OnlySource source xs → OnlySource source (changed_at (fitted c source) i xs)
calm-fitted c source i xs h =
    record {
      own = number-same (codes "period") 0 xs ys (same (codes "period")) ∙ h.own;
      mul = number-same (codes "mul") 1 xs ys (same (codes "mul")) ∙ h.mul;
      div = number-same (codes "div") 1 xs ys (same (codes "div")) ∙ h.div;
      only = λ s e. only s (sees-fitted c source s i xs e);
    }
  where
    ys : Slots
    ys = changed_at (fitted c source) i xs

    same : (name : List ℕ) → plain_of name ys ≡ plain_of name xs
    same name = plain-changed (fitted c source) (plain-fitted c source) name i xs

    only : (s : ℕ) → (sees s xs ≡ true) ⊎ (s ≡ source) → s ≡ source
    only s (inl e) = h.only s e
    only s (inr is) = is

-- what the slots of an edited object are

pub edited-at : (P : Slots → Type 0) (x : ℕ) (change : Record → Record) → ((r : Record) → (change r).birth ≡ r.birth) → (c : Board) (m : ℕ)
    → ((m == x) ≡ false → P (slots_at c m)) → ((r : Record) → record_of c m ≡ Some r → (m == x) ≡ true → P (change r).slots) → P []
    → P (slots_at (edit x change c) m)
edited-at P x change same_birth c m other own none = rw (found-edited x change same_birth m c.records) (go (record_of c m) refl)
  where
    at_record : (r : Record) → record_of c m ≡ Some r → (t : Bool) → (r.birth == x) ≡ t → P (edited x change r).slots
    at_record r e true p =
        let is : (m == x) ≡ true = ap (λ (k : ℕ). k == x) (sym (found-birth m c.records r e)) ∙ p in
        rw (edited, p) (own r e is)
    at_record r e false p =
        let is : (m == x) ≡ false = ap (λ (k : ℕ). k == x) (sym (found-birth m c.records r e)) ∙ p in
        rw (edited, p) (subst P (ap slots_in e) (other is))

    go : (o : Option Record) → record_of c m ≡ o → P (slots_in (option_map (edited x change) o))
    go None e = none
    go (Some r) e = at_record r e (r.birth == x) refl

-- the child of a name among slots
pub child-in : (P : List ℕ × Slot → Type 0) (name : List ℕ) (xs : Slots) → AllByRecursion P xs → (k : ℕ)
    → option_and_then child_named (option_map (λ (s : List ℕ × Slot). s.1) (find (λ s. bytes_eq s.0 name) xs)) ≡ Some k
    → (own : List ℕ) × P (own, child k)
child-in P name [] h k e = cc
child-in P name (x ∷ xs) h k e = go (bytes_eq x.0 name) refl (child-in P name xs h.1 k)
  where
    here : (y : List ℕ × Slot) → P y → child_named y.1 ≡ Some k → (own : List ℕ) × P (own, child k)
    here (own, plain v) p q = cc
    here (own, child m) p q = (own, subst (λ (j : ℕ). P (own, child j)) (same_Some m k q) p)
    here (own, strong t target) p q = cc
    here (own, weak t target) p q = cc
    here (own, alias m property) p q = cc

    go : (t : Bool) → bytes_eq x.0 name ≡ t
        → (option_and_then child_named (option_map (λ (s : List ℕ × Slot). s.1) (find (λ s. bytes_eq s.0 name) xs)) ≡ Some k
        → (own : List ℕ) × P (own, child k))
        → (own : List ℕ) × P (own, child k)
    go true p rest = here x h.0 (rw p at e)
    go false p rest = rest (rw p at e)

-- the board as the device is added to b
module _ (b : Board) (source : ℕ) where
  abbrev pub n : ℕ
  n = b.born + 1

  pub record Growing (c : Board) : Type 0 where
    pub born : b.born < c.born
    pub old : (m : ℕ) → m ≤ b.born → Less (slots_at b m) (slots_at c m)
    pub device : NewSlots b.born (slots_at c n)
    pub new : (m : ℕ) → b.born < m → OnlySource source (slots_at c m)

  -- slots are as before
  growing-like : (c d : Board) → ((m : ℕ) → slots_at d m ≡ slots_at c m) → c.born ≡ d.born → Growing c → Growing d
  growing-like c d same births h =
      record {
        born = let low : b.born < c.born = h.born in omega (arith, low, births);
        old = λ m le. subst (Less (slots_at b m)) (sym (same m)) (h.old m le);
        device = subst (NewSlots b.born) (sym (same n)) h.device;
        new = λ m high. subst (OnlySource source) (sym (same m)) (h.new m high);
      }

  -- an edit of any object that reads no more
  growing-edit : (x : ℕ) (change : Record → Record) → ((r : Record) → (change r).birth ≡ r.birth) → ((r : Record) → Less r.slots (change r).slots)
      → ((r : Record) → NewSlots b.born r.slots → NewSlots b.born (change r).slots) → (c : Board) → Growing c → Growing (edit x change c)
  growing-edit x change same_birth less keeps c h =
      record {
        born = h.born;
        old = λ m le.
            edited-at (Less (slots_at b m)) x change same_birth c m (λ p. h.old m le)
            (λ r e p. less-then (slots_at b m) r.slots (change r).slots (subst (Less (slots_at b m)) (ap slots_in e) (h.old m le)) (less r))
            (none m le);
        device = edited-at (NewSlots b.born) x change same_birth c n (λ p. h.device) (λ r e p. keeps r (subst (NewSlots b.born) (ap slots_in e) h.device)) tt;
        new = λ m high.
            edited-at (OnlySource source) x change same_birth c m (λ p. h.new m high)
            (λ r e p. calm-less source r.slots (change r).slots (less r) (subst (OnlySource source) (ap slots_in e) (h.new m high)))
            (calm-blank source [] blank-none);
      }
    where
      none : (m : ℕ) → m ≤ b.born → Less (slots_at b m) []
      none m le = less-blank (slots_at b m) [] blank-none

  -- and of the device itself
  growing-own : (change : Record → Record) → ((r : Record) → (change r).birth ≡ r.birth)
      → ((r : Record) → NewSlots b.born r.slots → NewSlots b.born (change r).slots) → (c : Board) → Growing c → Growing (edit n change c)
  growing-own change same_birth keeps c h =
      record {
        born = h.born;
        old = λ m le.
            edited-at (Less (slots_at b m)) n change same_birth c m (λ p. h.old m le)
            (λ r e p. absurd (let is : m ≡ b.born + 1 = eqb-true m n p in omega (arith, is, le))) (less-blank (slots_at b m) [] blank-none);
        device = edited-at (NewSlots b.born) n change same_birth c n (λ p. h.device) (λ r e p. kept r e) tt;
        new = λ m high.
            edited-at (OnlySource source) n change same_birth c m (λ p. h.new m high)
            (λ r e p. calm-news source b.born (change r).slots (kept r (subst (λ (k : ℕ). record_of c k ≡ Some r) (eqb-true m n p) e)))
            (calm-blank source [] blank-none);
      }
    where
      kept : (r : Record) → record_of c n ≡ Some r → NewSlots b.born (change r).slots
      kept r e = keeps r (subst (NewSlots b.born) (ap slots_in e) h.device)

  -- a new clock gets its source
  growing-source : (x i : ℕ) → b.born < x → (c : Board) → Growing c → Growing (edit x (with_changed (fitted c source) i) c)
  growing-source x i high c h =
      record {
        born = h.born;
        old = λ m le.
            edited-at (Less (slots_at b m)) x change (λ r. refl) c m (λ p. h.old m le)
            (λ r e p. absurd (let is : m ≡ x = eqb-true m x p in omega (arith, is, le, high))) (less-blank (slots_at b m) [] blank-none);
        device =
            edited-at (NewSlots b.born) x change (λ r. refl) c n (λ p. h.device)
            (λ r e p. news-changed b.born (fitted c source) (new-fitted b.born c source) i r.slots (subst (NewSlots b.born) (ap slots_in e) h.device)) tt;
        new = λ m above.
            edited-at (OnlySource source) x change (λ r. refl) c m (λ p. h.new m above)
            (λ r e p. calm-fitted c source i r.slots (subst (OnlySource source) (ap slots_in e) (h.new m above))) (calm-blank source [] blank-none);
      }
    where
      change : Record → Record
      change = with_changed (fitted c source) i

  -- an object more
  with_new-slots : (P : Slots → Type 0) (r : Record) (c : Board) (m : ℕ) → P (slots_at c m) → (record_of c m ≡ None → (r.birth == m) ≡ true → P r.slots)
      → P (slots_at (with_new r c) m)
  with_new-slots P r c m before last = rw (found-append m c.records (r ∷ [])) (go (record_of c m) refl (r.birth == m) refl)
    where
      go : (o : Option Record) → record_of c m ≡ o → (t : Bool) → (r.birth == m) ≡ t → P (slots_in (option_or o (found_at m (r ∷ []))))
      go (Some x) e t p = subst P (ap slots_in e) before
      go None e true p = rw p (last e p)
      go None e false p = rw p (subst P (ap slots_in e) before)

  growing-new : (t : TypeId) (c : Board) → Growing c → Growing (with_new (fresh_record (c.born + 1) t) c)
  growing-new t c h =
      record {
        born = let low : b.born < c.born = h.born in omega (arith, low);
        old = λ m le.
            with_new-slots (Less (slots_at b m)) r c m (h.old m le)
            (λ e p. absurd (let is : c.born + 1 ≡ m = eqb-true (c.born + 1) m p in let low : b.born < c.born = h.born in omega (arith, is, le, low)));
        device =
            with_new-slots (NewSlots b.born) r c n h.device
            (λ e p. absurd (let is : c.born + 1 ≡ b.born + 1 = eqb-true (c.born + 1) n p in let low : b.born < c.born = h.born in omega (arith, is, low)));
        new = λ m high. with_new-slots (OnlySource source) r c m (h.new m high) (λ e p. calm-blank source (fresh_slots t) (blank-fresh t));
      }
    where
      r : Record
      r = fresh_record (c.born + 1) t

  pub growing-first : ((m : ℕ) → b.born < m → record_of b m ≡ None) → (t : TypeId) → Growing (with_new (fresh n t) b)
  growing-first absent t =
      record {
        born = omega arith;
        old = λ m le.
            with_new-slots (Less (slots_at b m)) (fresh n t) b m (less-none (slots_at b m))
            (λ e p. absurd (let is : b.born + 1 ≡ m = eqb-true (b.born + 1) m p in omega (arith, is, le)));
        device = with_new-slots (NewSlots b.born) (fresh n t) b n (subst (NewSlots b.born) (sym (ap slots_in (absent n (omega arith)))) tt) (λ e p. tt);
        new = λ m high.
            with_new-slots (OnlySource source) (fresh n t) b m (subst (OnlySource source) (sym (ap slots_in (absent m high))) (calm-blank source [] blank-none))
            (λ e p. calm-blank source [] blank-none);
      }

  -- a slot more that is neither plain nor a weak link
  growing-add : (x : ℕ) (name : List ℕ) (s : Slot) → plain_in s ≡ None → weak_in s ≡ None → NewSlot b.born (name, s) → (c : Board) → Growing c
      → Growing (add x name s c)
  unfolding add
  growing-add x name s none blind new c h =
      growing-edit x (with_added name s) (λ r. refl) (λ r. less-added name s none blind r.slots)
      (λ r k. all-append (NewSlot b.born) r.slots ((name, s) ∷ []) k (new, tt)) c h

  growing-add_own : (name : List ℕ) (s : Slot) → NewSlot b.born (name, s) → (c : Board) → Growing c → Growing (add n name s c)
  unfolding add
  growing-add_own name s new c h =
      growing-own (with_added name s) (λ r. refl) (λ r k. all-append (NewSlot b.born) r.slots ((name, s) ∷ []) k (new, tt)) c h

  -- what is made
  growing-row : (t : TypeId) (p : Property) → RowQuiet p → (c : Board) → Growing c → Growing (property_made n t (property_name p.name) p.role c)
  growing-row t p quiet c h = go p.role refl
    where
      name : List ℕ
      name = property_name p.name

      aliases : (property : List ℕ) (o : Option ℕ) → Growing (aliased n name property o c)
      aliases property None = h
      aliases property (Some m) = growing-add_own name (alias m property) (tt, tt) c h

      go : (kind : PropertyRole) → p.role ≡ kind → Growing (property_made n t name kind c)
      go (row.Plain type first) e = growing-add_own name (plain (first_value t first)) (rw e at quiet, tt) c h
      go (row.Link target true) e = growing-add_own name (strong target None) (tt, tt) c h
      go (row.Link target false) e = growing-add_own name (weak target None) (rw e at quiet, tt) c h
      go (row.Child k) e =
          let low : b.born < c.born = h.born in
          growing-add_own name (child (c.born + 1)) (tt, omega (arith, low)) (with_new (fresh_record (c.born + 1) k) c) (growing-new k c h)
      go (row.Alias owner of) e = aliases (property_name of) (owned c n (property_name owner))

  pub growing-rows : (t : TypeId) (ps : List Property) → AllByRecursion RowQuiet ps → (c : Board) → Growing c → Growing (properties_made n t ps c)
  growing-rows t [] quiet c h = h
  growing-rows t (p ∷ ps) quiet c h = growing-rows t ps quiet.1 (property_made n t (property_name p.name) p.role c) (growing-row t p quiet.0 c h)

  -- where it stands
  growing-set : (name : List ℕ) (v : Val) (c : Board) → Growing c → Growing (set_named n name v c)
  growing-set name v c h =
      set-by Growing n name c h v
      (λ i e. growing-own (with_changed (with_val v) i) (λ r. refl) (λ r k. news-changed b.born (with_val v) (new-val b.born v) i r.slots k) c h)

  growing-link : (name : List ℕ) (m : ℕ) (c : Board) → Growing c → Growing (link_named n name m c)
  growing-link name m c h =
      link-by Growing n name c h m
      (λ i e. growing-own (with_changed (fitted c m) i) (λ r. refl) (λ r k. news-changed b.born (fitted c m) (new-fitted b.born c m) i r.slots k) c h)

  growing-given : (props : List Given) (c : Board) → Growing c → Growing (edit n (with_given b props) c)
  growing-given props c h =
      growing-own (with_given b props) (λ r. refl)
      (λ r k.
      all-map (NewSlot b.born) (NewSlot b.born) (slot_given b props)
      (λ s j. (quiet-given b props s j.0, above-given b.born b props s j.1)) r.slots k) c h

  growing-addressed : (range : Option Range) (c : Board) → Growing c → Growing (addressed_at n range c)
  growing-addressed None c h = h
  growing-addressed (Some r) c h = growing-set (codes "addr") (val.Uint r.at) c h

  pub growing-stood : (a : Wanted) (resources : Resources) (c : Board) → Growing c → Growing (stood b n a resources c)
  growing-stood a resources c h =
      stand-by Growing b n a resources
      (record {
        named = λ d. growing-add (parent_for a.id) (name_for b a.id) (child n) refl refl (tt, omega arith) d;
        on_bus = λ d. growing-add resources.bus (kid_name resources.slot) (strong Device (Some n)) refl refl (tt, tt) d;
        given = growing-given a.props;
        placed = growing-set (codes "slot") (val.Uint resources.slot);
        linked = growing-link (codes "parent_bus") resources.bus;
        marked = growing-set (codes "realized") (val.Bool true);
        addressed = growing-addressed resources.range;
        bodied = growing-own (with_body_of a.id resources.range) (λ r. refl) (λ r k. k);
      }) c h

  growing-clocked : (c : Board) → Growing c → Growing (clocked source n c)
  growing-clocked c h = go (clock_of c n) refl
    where
      go : (o : Option ℕ) → clock_of c n ≡ o → Growing (with_source source o c)
      go None e = h
      go (Some x) e =
          let (own, new) = child-in (NewSlot b.born) (codes "clk") (slots_at c n) h.device x e in
          link-by Growing x (codes "source") c h source (λ i q. growing-source x i new.1 c h)

  growing-counted : (id : Option (List ℕ)) (c : Board) → Growing c → Growing (counted id c)
  growing-counted None c h = growing-like c _ (λ m. refl) refl h
  growing-counted (Some id) c h = h

  -- acts
  growing-acts : KeepsActs (λ m. ⊤) Growing
  unfolding acted
  growing-acts act x period unbound on c h = growing-like c (acted act x period c) (acted-slots act x period c) refl h

pub growing-all : (b : Board) (t : TypeId) (a : Wanted) (resources : Resources) → ((m : ℕ) → b.born < m → record_of b m ≡ None) → is_a t (codes "device") ≡ true
    → Growing b (source_for b resources.bus) (with_plugged b t a resources)
growing-all b t a resources absent device =
    growing-like b source (edit m (with_path (canonical c3 m)) c3) _ (λ x. refl) refl
    (growing-edit b source m (with_path (canonical c3 m)) (λ r. refl) (λ r. less-none r.slots) (λ r k. k) c3
    (step-plugged (λ x. ⊤) (Growing b source) (growing-acts b source) m c2 (all-any (post c2 m))
    (step-acted_all (λ x. ⊤) (Growing b source) (growing-acts b source) Realize refl (m ∷ bus_births m t) (all-any (m ∷ bus_births m t))
    (with_device b t a resources)
    (growing-counted b source a.id (clocked source m c1)
    (growing-clocked b source c1
    (growing-stood b source a resources (drafted b t)
    (growing-rows b source t (slots_of t) (rows-quiet t device) (with_new (fresh m t) b) (growing-first b source absent t))))))))
  where
    source : ℕ
    source = source_for b resources.bus

    m : ℕ
    m = b.born + 1

    c1 : Board
    c1 = stood b m a resources (drafted b t)

    c2 : Board
    c2 = acted_all Realize (m ∷ bus_births m t) (with_device b t a resources)

    c3 : Board
    c3 = plugged c2 m
