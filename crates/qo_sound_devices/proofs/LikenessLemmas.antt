-- What of an object its place speaks of, and that a release leaves it on each object that is still there.
use Rattle.std.proofs.Common.{◌≡◌, refl, ap, ap₂, sym, subst, ◌∙◌, ℕ, Bool, true, false, ◌==◌, eqb, List, [], ◌∷◌, find, filter_map, Option, Some, None, option_map, option_and_then, codes}
use Rattle.qo_model.proofs.Common.{cons_option, option_map_or, bytes_eq, bare, Val, Board, Record, Slot, plain, child, strong, weak, alias, record_of, is_live, slots_at, among, bus_of, is_realized, is_true, number_in, bus_slot_of, plain_in, strong_in, after, drop_slot, edited, finalize, finish, forgotten, forgotten_in, with_dropped, KeepsRelease}
use Rattle.std.proofs.lemmas.Bool.{eqb-true}
use Rattle.qo_model.proofs.FirstSlotLemmas.{slots_in, named_in}
use Rattle.qo_model.proofs.ReleaseInductionLemmas.{after_keeps}
use Rattle.qo_model.proofs.StepLemmas.{drop-live, drop-record, finish-live, finish-record}
use Rattle.qo_sound.proofs.ReadLemmas.{plain-forgotten, strong-forgotten}
use Rattle.qo_sound.proofs.SlotLemmas.{each_slot}
use Rattle.qo_sound.proofs.WorkLemmas.{births_of}
use Rattle.qo_sound_devices.specs.SoundPlaces.{child_entries, child_entry, kid_entries, kid_entry}

-- an object without its slots and registers
abbrev pub bodiless : Record → Record
bodiless r = record r { slots = []; registers = bare }

-- what a place speaks of is the same on two boards
pub record Alike (b c : Board) (x : ℕ) : Type 0 where
  pub children : child_entries c x ≡ child_entries b x
  pub kids : kid_entries c x ≡ kid_entries b x
  pub bus : bus_of c x ≡ bus_of b x
  pub place : bus_slot_of c x ≡ bus_slot_of b x
  pub realized : is_realized c x ≡ is_realized b x
  pub body : option_map bodiless (record_of c x) ≡ option_map bodiless (record_of b x)

pub alike-none : (b : Board) (x : ℕ) → Alike b b x
alike-none b x = record { children = refl; kids = refl; bus = refl; place = refl; realized = refl; body = refl }

pub alike-then : (b c d : Board) (x : ℕ) → Alike b c x → Alike c d x → Alike b d x
alike-then b c d x h k =
    record {
      children = k.children ∙ h.children;
      kids = k.kids ∙ h.kids;
      bus = k.bus ∙ h.bus;
      place = k.place ∙ h.place;
      realized = k.realized ∙ h.realized;
      body = k.body ∙ h.body;
    }

abbrev bus_in : List (List ℕ × Slot) → Option ℕ
bus_in slots = option_and_then strong_in (named_in (codes "parent_bus") slots)

abbrev place_in : List (List ℕ × Slot) → Option ℕ
place_in slots = option_and_then number_in (option_and_then plain_in (named_in (codes "slot") slots))

abbrev pub realized_in : List (List ℕ × Slot) → Bool
realized_in slots = option_map_or is_true (option_and_then plain_in (named_in (codes "realized") slots)) false

-- two records by their slots
pub record AlikeSlots (xs ys : List (List ℕ × Slot)) : Type 0 where
  pub children : filter_map child_entry ys ≡ filter_map child_entry xs
  pub kids : filter_map kid_entry ys ≡ filter_map kid_entry xs
  pub bus : bus_in ys ≡ bus_in xs
  pub place : place_in ys ≡ place_in xs
  pub realized : realized_in ys ≡ realized_in xs

pub alike-slots : (b c : Board) (x : ℕ) → AlikeSlots (slots_at b x) (slots_at c x)
    → option_map bodiless (record_of c x) ≡ option_map bodiless (record_of b x) → Alike b c x
alike-slots b c x h same = record { children = h.children; kids = h.kids; bus = h.bus; place = h.place; realized = h.realized; body = same }

pub alike-same : (b c : Board) (x : ℕ) → slots_at c x ≡ slots_at b x → option_map bodiless (record_of c x) ≡ option_map bodiless (record_of b x)
    → Alike b c x
alike-same b c x slots same =
    record {
      children = ap (filter_map child_entry) slots;
      kids = ap (filter_map kid_entry) slots;
      bus = ap bus_in slots;
      place = ap place_in slots;
      realized = ap realized_in slots;
      body = same;
    }

pub alike-record : (b c : Board) (x : ℕ) → record_of c x ≡ record_of b x → Alike b c x
alike-record b c x e = alike-same b c x (ap slots_in e) (ap (option_map bodiless) e)

-- a change of each slot that leaves entries, plain values and strong links
pub entries-each : (f : List ℕ × Slot → Option (List ℕ × ℕ)) (g : Slot → Slot) → ((s : List ℕ × Slot) → f (s.0, g s.1) ≡ f s)
    → (slots : List (List ℕ × Slot)) → filter_map f (each_slot g slots) ≡ filter_map f slots
entries-each f g same [] = refl
entries-each f g same (s ∷ slots) = ap₂ cons_option (same s) (entries-each f g same slots)

pub named-each : {A : Type 0} (f : Slot → Option A) (g : Slot → Slot) → ((s : Slot) → f (g s) ≡ f s) → (name : List ℕ) (slots : List (List ℕ × Slot))
    → option_and_then f (named_in name (each_slot g slots)) ≡ option_and_then f (named_in name slots)
named-each f g same name [] = refl
named-each f g same name (s ∷ slots) = go (bytes_eq s.0 name) refl (named-each f g same name slots)
  where
    go : (t : Bool) → bytes_eq s.0 name ≡ t → option_and_then f (named_in name (each_slot g slots)) ≡ option_and_then f (named_in name slots)
        → option_and_then f (named_in name (each_slot g (s ∷ slots))) ≡ option_and_then f (named_in name (s ∷ slots))
    go true p rest = rw p (same s.1)
    go false p rest = rw p rest

pub child-entry-forgotten : (n : ℕ) (s : List ℕ × Slot) → child_entry (s.0, forgotten_in n s.1) ≡ child_entry s
child-entry-forgotten n (name, plain v) = refl
child-entry-forgotten n (name, child m) = refl
child-entry-forgotten n (name, strong t target) = refl
child-entry-forgotten n (name, weak t None) = refl
child-entry-forgotten n (name, weak t (Some m)) = refl
child-entry-forgotten n (name, alias m property) = refl

kid-entry-forgotten : (n : ℕ) (s : List ℕ × Slot) → kid_entry (s.0, forgotten_in n s.1) ≡ kid_entry s
kid-entry-forgotten n (name, plain v) = refl
kid-entry-forgotten n (name, child m) = refl
kid-entry-forgotten n (name, strong t None) = refl
kid-entry-forgotten n (name, strong t (Some m)) = refl
kid-entry-forgotten n (name, weak t None) = refl
kid-entry-forgotten n (name, weak t (Some m)) = refl
kid-entry-forgotten n (name, alias m property) = refl

forgotten-slots : (n : ℕ) (slots : List (List ℕ × Slot)) → AlikeSlots slots (each_slot (forgotten_in n) slots)
forgotten-slots n slots =
    record {
      children = entries-each child_entry (forgotten_in n) (child-entry-forgotten n) slots;
      kids = entries-each kid_entry (forgotten_in n) (kid-entry-forgotten n) slots;
      bus = named-each strong_in (forgotten_in n) (strong-forgotten n) (codes "parent_bus") slots;
      place = ap (λ (o : Option Val). option_and_then number_in o) (named-each plain_in (forgotten_in n) (plain-forgotten n) (codes "slot") slots);
      realized = ap (λ (o : Option Val). option_map_or is_true o false) (named-each plain_in (forgotten_in n) (plain-forgotten n) (codes "realized") slots);
    }

alike-forgotten : (b c : Board) (n x : ℕ) → record_of c x ≡ option_map (forgotten n) (record_of b x) → Alike b c x
alike-forgotten b c n x e =
    alike-slots b c x (subst (λ (o : Option Record). AlikeSlots (slots_at b x) (slots_in o)) (sym e) (slots (record_of b x)))
    (ap (option_map bodiless) e ∙ body (record_of b x))
  where
    slots : (o : Option Record) → AlikeSlots (slots_in o) (slots_in (option_map (forgotten n) o))
    slots None = record { children = refl; kids = refl; bus = refl; place = refl; realized = refl }
    slots (Some r) = forgotten-slots n r.slots

    body : (o : Option Record) → option_map bodiless (option_map (forgotten n) o) ≡ option_map bodiless o
    body None = refl
    body (Some r) = refl

-- an edit of another object
pub other-record : (n x : ℕ) (change : Record → Record) (b : Board) → record_of b x ≡ record_of b x → (x == n) ≡ false → (o : Option Record)
    → record_of b x ≡ o → option_map (edited n change) o ≡ o
other-record n x change b e apart None q = refl
other-record n x change b e apart (Some r) q = let is : (r.birth == n) ≡ false = ap (λ (k : ℕ). k == n) (born b.records q) ∙ apart in rw (edited, is) refl
  where
    born : (rs : List Record) → find (λ (y : Record). y.birth == x) rs ≡ Some r → r.birth ≡ x
    born [] k = cc
    born (y ∷ rs) k = go (y.birth == x) refl (born rs)
      where
        go : (t : Bool) → (y.birth == x) ≡ t → (find (λ (z : Record). z.birth == x) rs ≡ Some r → r.birth ≡ x) → r.birth ≡ x
        go true p rest = let is : Some y ≡ Some r = rw p at k in let same : y ≡ r = cc in subst (λ (z : Record). z.birth ≡ x) same (eqb-true y.birth x p)
        go false p rest = rest (rw p at k)

-- the objects that are there, but for those of the work, are alike
abbrev AlikeBut : Board → List (ℕ × ℕ) → Board → Type 0
AlikeBut b work c = (x : ℕ) → is_live c x ≡ true → among (births_of work) x ≡ false → Alike b c x

pub apart-first : (n x : ℕ) (ns : List ℕ) → among (n ∷ ns) x ≡ false → ((x == n) ≡ false) × (among ns x ≡ false)
apart-first n x ns e = go (eqb x n) refl
  where
    go : (t : Bool) → eqb x n ≡ t → ((x == n) ≡ false) × (among ns x ≡ false)
    go true p = absurd (let clash : true ≡ false = rw p at e in cc)
    go false p = (p, rw p at e)

dropped-alike : (b c : Board) (n i j : ℕ) (work : List (ℕ × ℕ)) → AlikeBut b ((n, i) ∷ work) c → (x : ℕ) → is_live (drop_slot c n i) x ≡ true
    → among (n ∷ births_of work) x ≡ false → Alike b (drop_slot c n i) x
dropped-alike b c n i j work h x there apart =
    let differs : (x == n) ≡ false = (apart-first n x (births_of work) apart).0 in
    let same : record_of (drop_slot c n i) x ≡ record_of c x = drop-record c n i x ∙ other-record n x (with_dropped i) c refl differs (record_of c x) refl in
    alike-then b c (drop_slot c n i) x (h x (sym (drop-live c n i x) ∙ there) apart) (alike-record c (drop_slot c n i) x same)

alike-keeps : (b : Board) → KeepsRelease (AlikeBut b)
alike-keeps b =
    record {
      ended = λ c n i work h e x there apart. ended c n i work h x (x == n) refl there apart;
      freed = λ c n i work s m h e q free x there apart. dropped-alike b c n i i work h x there (apart-first m x (n ∷ births_of work) apart).1;
      kept = λ c n i work s h e held_on x there apart. dropped-alike b c n i i work h x there apart;
    }
  where
    ended : (c : Board) (n i : ℕ) (work : List (ℕ × ℕ)) → AlikeBut b ((n, i) ∷ work) c → (x : ℕ) (t : Bool) → (x == n) ≡ t
        → is_live (finish c n) x ≡ true → among (births_of work) x ≡ false → Alike b (finish c n) x
    ended c n i work h x true p there apart =
        absurd (let gone : is_live (finish c n) x ≡ false = finish-live c n x ∙ rw p refl in let clash : true ≡ false = sym there ∙ gone in cc)
    ended c n i work h x false p there apart =
        let before : is_live c x ≡ true = sym (finish-live c n x ∙ rw p refl) ∙ there in
        let differs : eqb x n ≡ false = p in
        alike-then b c (finish c n) x (h x before (rw differs apart)) (alike-forgotten c (finish c n) n x (finish-record c n x p))

-- who is there after a release is as before
pub after-alike : (b : Board) (o : Option ℕ) (x : ℕ) → is_live (after finalize b o) x ≡ true → Alike b (after finalize b o) x
after-alike b o x there =
    after_keeps (AlikeBut b) (alike-keeps b) b o [] (λ m e free y here apart. alike-none b y) (λ some y here apart. alike-none b y) x there refl
