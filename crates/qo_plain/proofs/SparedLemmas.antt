-- What of a board is as it was while something else is taken out of it: who stands, and the lists of kids and of buses.
use Rattle.std.proofs.Common.{◌≡◌, refl, ap, sym, subst, ◌∙◌, ℕ, suc, ◌≤◌, Bool, true, false, not, ◌&&◌, ◌==◌, eqb, List, [], ◌∷◌, map, filter_map, length, Option, Some, None, option_map, arith, codes}
use Rattle.qo_model.proofs.Common.{cons_option, IsDistinct, option_map_or, if◌then◌else◌, bytes_eq, ANONYMOUS_BIRTH, PERIPHERAL_BIRTH, Board, Record, Slot, plain, child, strong, weak, alias, record_of, is_live, slots_at, slot_at, among, leads, bus_in, buses_of, clock_name, kids_of, strong_in, index_from, births, is_of, after, drop_slot, edit, finalize, let_go, pin, with_dropped, without_hold, below, is_bus_child, let_go_where}
use Rattle.std.proofs.Math.Bool.{or-true}
use Rattle.std.proofs.lemmas.Bool.{eqb-true, eq-eqb, false_from_ne_true}
use Rattle.std.proofs.lemmas.Option.{same_Some}
use Rattle.qo_model.specs.Board.{referent}
use Rattle.qo_model.proofs.AmongLemmas.{among-apart}
use Rattle.qo_model.proofs.FirstSlotLemmas.{Found, found-at}
use Rattle.qo_sound.proofs.FirmBoardLemmas.{WellFormed}
use Rattle.qo_sound.proofs.TestLemmas.{clash}
use Rattle.qo_sound_devices.specs.SoundPlaces.{child_entries, child_entry, IsHome, kid_entries, kid_entry, listed, names_it, owns_it, PlacesBut, stands}
use Rattle.qo_sound_devices.proofs.DepthLemmas.{is-bus_of, IsBusOf, kid-of, kids-listed}
use Rattle.qo_sound_devices.proofs.DetachmentLemmas.{listed-kid, owned-bus, none-owned}
use Rattle.qo_sound_devices.proofs.DropLemmas.{edited-slots}
use Rattle.qo_sound_devices.proofs.LikenessLemmas.{after-alike}
use Rattle.qo_sound_devices.proofs.PlacesLemmas.{child-live, more, nothing, of-alike, of-live, or-cases, same, Within, within-any}
use Rattle.qo_sound_devices.proofs.StepsLemmas.{Steps, within-then}
use Rattle.qo_sound_devices.proofs.UnrealizingLemmas.{down, here, Under}
use Rattle.qo_sound_phases.proofs.ForestLemmas.{above, before, further, IsForest, itself, Reach, reach-front, reach-rank}
use Rattle.qo_sound_phases.proofs.ListLemmas.{apart-among}
use Rattle.qo_sound_phases.proofs.ResetTreeLemmas.{forest, Placed, stands-no_bus}
use Rattle.qo_plain.proofs.UnrealizeLemmas.{goes-bus, goes-kid}

-- lists within others

within-map : {A B : Type 0} (f : A → B) {xs ys : List A} → Within xs ys → Within (map f xs) (map f ys)
within-map f (nothing ys) = nothing (map f ys)
within-map f (same x w) = same (f x) (within-map f w)
within-map f (more y w) = more (f y) (within-map f w)

first-in : (y : ℕ) (ys : List ℕ) → among (y ∷ ys) y ≡ true
first-in y ys = rw (eq-eqb y y refl) refl

pub later-in : (x y : ℕ) (ys : List ℕ) → among ys x ≡ true → among (y ∷ ys) x ≡ true
later-in x y ys e = rw e (or-true (eqb x y))

distinct-within : {xs ys : List ℕ} → Within xs ys → IsDistinct eqb ys → IsDistinct eqb xs
unfolding IsDistinct
distinct-within (nothing ys) h = tt
distinct-within (same {xs} {ys} x w) h = (among-apart x xs apart, distinct-within w h.1)
  where
    apart : among xs x ≡ false
    apart = false_from_ne_true (among xs x) (λ e. clash (sym (within-any (eqb x) w e) ∙ apart-among x ys h.0))
distinct-within (more y w) h = distinct-within w h.1

pub distinct-first : (x : ℕ) (xs : List ℕ) → IsDistinct eqb (x ∷ xs) → among xs x ≡ false
unfolding IsDistinct
distinct-first x xs h = apart-among x xs h.0

pub distinct-rest : (x : ℕ) (xs : List ℕ) → IsDistinct eqb (x ∷ xs) → IsDistinct eqb xs
unfolding IsDistinct
distinct-rest x xs h = h.1

-- with all that the other has, where this has none twice
within-all_same : {xs ys : List ℕ} → Within xs ys → IsDistinct eqb ys → ((y : ℕ) → among ys y ≡ true → among xs y ≡ true) → xs ≡ ys
unfolding IsDistinct
within-all_same (nothing []) h has = refl
within-all_same (nothing (y ∷ ys)) h has = let bad : false ≡ true = has y (first-in y ys) in absurd cc
within-all_same (same {xs} {ys} x w) h has = ap (λ (zs : List ℕ). x ∷ zs) (within-all_same w h.1 rest)
  where
    rest : (y : ℕ) → among ys y ≡ true → among xs y ≡ true
    rest y e = go (eqb y x) refl (has y (later-in y x ys e))
      where
        go : (t : Bool) → eqb y x ≡ t → among (x ∷ xs) y ≡ true → among xs y ≡ true
        go true p i = clash (sym (subst (λ (z : ℕ). among ys z ≡ true) (eqb-true y x p) e) ∙ apart-among x ys h.0)
        go false p i = rw p at i
within-all_same (more {xs} {ys} y w) h has = clash (sym (within-any (eqb y) w (has y (first-in y ys))) ∙ apart-among y ys h.0)

-- and with all but the first
within-rest_same : (k : ℕ) {xs zs : List ℕ} → Within xs zs → (ks : List ℕ) → zs ≡ k ∷ ks → IsDistinct eqb ks → among xs k ≡ false
    → ((y : ℕ) → among ks y ≡ true → among xs y ≡ true) → xs ≡ ks
within-rest_same k (nothing zs) ks e h none has = within-all_same (nothing ks) h has
within-rest_same k (same {xs} {ys} x w) ks e h none has = clash (sym (first-in x xs) ∙ ap (among (x ∷ xs)) (head e) ∙ none)
  where
    head : x ∷ ys ≡ k ∷ ks → x ≡ k
    head q = cc
within-rest_same k (more {xs} {ys} y w) ks e h none has = within-all_same (subst (Within xs) (tail e) w) h has
  where
    tail : y ∷ ys ≡ k ∷ ks → ys ≡ ks
    tail q = cc

-- kids and buses by their entries

kids-entries : (slots : List (List ℕ × Slot))
    → filter_map (λ (s : List ℕ × Slot). strong_in s.1) slots ≡ map (λ (e : List ℕ × ℕ). e.1) (filter_map kid_entry slots)
kids-entries [] = refl
kids-entries ((name, plain v) ∷ slots) = kids-entries slots
kids-entries ((name, child m) ∷ slots) = kids-entries slots
kids-entries ((name, strong t None) ∷ slots) = kids-entries slots
kids-entries ((name, strong t (Some m)) ∷ slots) = ap (λ (ms : List ℕ). m ∷ ms) (kids-entries slots)
kids-entries ((name, weak t target) ∷ slots) = kids-entries slots
kids-entries ((name, alias m property) ∷ slots) = kids-entries slots

kids-within : (b c : Board) (m : ℕ) → Within (kid_entries c m) (kid_entries b m) → Within (kids_of c m) (kids_of b m)
kids-within b c m w =
    subst (λ (xs : List ℕ). Within xs (kids_of b m)) (sym (kids-entries (slots_at c m)))
    (subst (λ (ys : List ℕ). Within (map (λ (e : List ℕ × ℕ). e.1) (kid_entries c m)) ys) (sym (kids-entries (slots_at b m)))
    (within-map (λ (e : List ℕ × ℕ). e.1) w))

pub kids-alike : (b c : Board) (m : ℕ) → kid_entries c m ≡ kid_entries b m → kids_of c m ≡ kids_of b m
kids-alike b c m e =
    kids-entries (slots_at c m) ∙ ap (map (λ (x : List ℕ × ℕ). x.1)) e ∙ sym (kids-entries (slots_at b m))

abbrev bus_entry : Board → List ℕ × ℕ → Option ℕ
bus_entry b e = if is_of b (codes "bus") e.1 && not (bytes_eq e.0 clock_name) then Some e.1 else None

buses-entries : (b : Board) (slots : List (List ℕ × Slot)) → filter_map (bus_in b) slots ≡ filter_map (bus_entry b) (filter_map child_entry slots)
buses-entries b [] = refl
buses-entries b ((name, plain v) ∷ slots) = buses-entries b slots
buses-entries b ((name, child m) ∷ slots) = ap (cons_option (bus_entry b (name, m))) (buses-entries b slots)
buses-entries b ((name, strong t target) ∷ slots) = buses-entries b slots
buses-entries b ((name, weak t target) ∷ slots) = buses-entries b slots
buses-entries b ((name, alias m property) ∷ slots) = buses-entries b slots

bus-entries_same : (b c : Board) (es : List (List ℕ × ℕ)) → ((m : ℕ) → listed m es ≡ true → is_of c (codes "bus") m ≡ is_of b (codes "bus") m)
    → filter_map (bus_entry c) es ≡ filter_map (bus_entry b) es
bus-entries_same b c [] alike = refl
bus-entries_same b c (e ∷ es) alike =
    ap (λ (t : Bool). cons_option (if t && not (bytes_eq e.0 clock_name) then Some e.1 else None) (filter_map (bus_entry c) es))
    (alike e.1 (let own : (e.1 == e.1) ≡ true = eq-eqb e.1 e.1 refl in rw own refl))
    ∙ ap (cons_option (bus_entry b e)) (bus-entries_same b c es (λ m i. alike m (rw i (or-true (e.1 == m)))))

-- the buses of an object whose children are those of some slots
buses-as : (b c : Board) → WellFormed c → ((x : ℕ) → is_live c x ≡ true → is_of c (codes "bus") x ≡ is_of b (codes "bus") x) → (x : ℕ)
    → (slots : List (List ℕ × Slot)) → child_entries c x ≡ filter_map child_entry slots → buses_of c x ≡ filter_map (bus_in b) slots
buses-as b c firm kind x slots children =
    buses-entries c (slots_at c x)
    ∙ bus-entries_same b c (child_entries c x) (λ m i. kind m (child-live c firm x m i))
    ∙ ap (filter_map (bus_entry b)) children
    ∙ sym (buses-entries b slots)

-- an object that keeps its children keeps its buses
pub buses-kept : (b c : Board) → WellFormed c → ((x : ℕ) → is_live c x ≡ true → is_of c (codes "bus") x ≡ is_of b (codes "bus") x) → (x : ℕ)
    → child_entries c x ≡ child_entries b x → buses_of c x ≡ buses_of b x
buses-kept b c firm kind x children = buses-as b c firm kind x (slots_at b x) children

-- lengths
pub kids-short : (slots : List (List ℕ × Slot)) → length (filter_map (λ (s : List ℕ × Slot). strong_in s.1) slots) ≤ length slots
kids-short [] = omega arith
kids-short (s ∷ slots) = go (strong_in s.1) (kids-short slots)
  where
    go : (o : Option ℕ) → length (filter_map (λ (x : List ℕ × Slot). strong_in x.1) slots) ≤ length slots
        → length (cons_option o (filter_map (λ (x : List ℕ × Slot). strong_in x.1) slots)) ≤ length (s ∷ slots)
    go None rest = omega (arith, rest)
    go (Some y) rest = omega (arith, rest)

pub buses-short : (b : Board) (slots : List (List ℕ × Slot)) → length (filter_map (bus_in b) slots) ≤ length slots
buses-short b [] = omega arith
buses-short b (s ∷ slots) = go (bus_in b s) (buses-short b slots)
  where
    go : (o : Option ℕ) → length (filter_map (bus_in b) slots) ≤ length slots
        → length (cons_option o (filter_map (bus_in b) slots)) ≤ length (s ∷ slots)
    go None rest = omega (arith, rest)
    go (Some y) rest = omega (arith, rest)

-- the first bus is let go: the others are left

index-back : (p : List ℕ × Slot → Bool) (k i : ℕ) (slots : List (List ℕ × Slot)) → index_from p (suc k) slots ≡ Some i
    → (j : ℕ) × ((i ≡ suc j) × (index_from p k slots ≡ Some j))
index-back p k i [] e = cc
index-back p k i (s ∷ slots) e = go (p s) refl (index-back p (suc k) i slots)
  where
    go : (t : Bool) → p s ≡ t → (index_from p (suc (suc k)) slots ≡ Some i → (j : ℕ) × ((i ≡ suc j) × (index_from p (suc k) slots ≡ Some j)))
        → (j : ℕ) × ((i ≡ suc j) × (index_from p k (s ∷ slots) ≡ Some j))
    go true q rest = (k, (sym (same_Some (suc k) i (rw q at e)), rw q refl))
    go false q rest = let (j, (is, at)) = rest (rw q at e) in (j, (is, rw q at))

bus-passes : (b : Board) (x : ℕ) (s : List ℕ × Slot) → bus_in b s ≡ Some x → is_bus_child x s ≡ true
bus-passes b x (name, plain v) e = cc
bus-passes b x (name, strong t target) e = cc
bus-passes b x (name, weak t target) e = cc
bus-passes b x (name, alias m property) e = cc
bus-passes b x (name, child m) e = go (is_of b (codes "bus") m) refl (not (bytes_eq name clock_name)) refl
  where
    go : (t : Bool) → is_of b (codes "bus") m ≡ t → (u : Bool) → not (bytes_eq name clock_name) ≡ u → is_bus_child x (name, child m) ≡ true
    go true p true q = let own : (m == x) ≡ true = eq-eqb m x (same_Some m x (rw (p, q) at e)) in rw (own, q) refl
    go true p false q = absurd (let bad : None ≡ Some x = rw (p, q) at e in cc)
    go false p u q = absurd (let bad : None ≡ Some x = rw p at e in cc)

bus-head : (b : Board) (m : ℕ) → is_of b (codes "bus") m ≡ true → (s : List ℕ × Slot) → is_bus_child m s ≡ true → (slots : List (List ℕ × Slot))
    → (bus_in b s ≡ Some m) × (without_hold 0 (s ∷ slots) ≡ slots)
bus-head b m is (name, plain v) e slots = absurd (let bad : false ≡ true = e in cc)
bus-head b m is (name, strong t target) e slots = absurd (let bad : false ≡ true = e in cc)
bus-head b m is (name, weak t target) e slots = absurd (let bad : false ≡ true = e in cc)
bus-head b m is (name, alias n property) e slots = absurd (let bad : false ≡ true = e in cc)
bus-head b m is (name, child n) e slots = go (n == m) refl (not (bytes_eq name clock_name)) refl
  where
    go : (t : Bool) → (n == m) ≡ t → (u : Bool) → not (bytes_eq name clock_name) ≡ u
        → (bus_in b (name, child n) ≡ Some m) × (without_hold 0 ((name, child n) ∷ slots) ≡ slots)
    go true p true q =
        let its : is_of b (codes "bus") n ≡ true = ap (is_of b (codes "bus")) (eqb-true n m p) ∙ is in
        (rw (its, q) (ap Some (eqb-true n m p)), refl)
    go true p false q = absurd (let bad : false ≡ true = rw (p, q) at e in cc)
    go false p u q = absurd (let bad : false ≡ true = rw p at e in cc)

bus-removed : (b : Board) (m : ℕ) → is_of b (codes "bus") m ≡ true → (slots : List (List ℕ × Slot)) (i : ℕ) (ms : List ℕ)
    → index_from (is_bus_child m) 0 slots ≡ Some i → filter_map (bus_in b) slots ≡ m ∷ ms → filter_map (bus_in b) (without_hold i slots) ≡ ms
bus-removed b m is [] i ms at e = cc
bus-removed b m is (s ∷ slots) i ms at e = go (is_bus_child m s) refl (bus-removed b m is slots)
  where
    go : (t : Bool) → is_bus_child m s ≡ t
        → ((j : ℕ) (xs : List ℕ) → index_from (is_bus_child m) 0 slots ≡ Some j → filter_map (bus_in b) slots ≡ m ∷ xs
        → filter_map (bus_in b) (without_hold j slots) ≡ xs) → filter_map (bus_in b) (without_hold i (s ∷ slots)) ≡ ms
    go true p rest =
        let first : (bus_in b s ≡ Some m) × (without_hold 0 (s ∷ slots) ≡ slots) = bus-head b m is s p slots in
        let zeroth : 0 ≡ i = same_Some 0 i (rw p at at) in
        ap (λ (j : ℕ). filter_map (bus_in b) (without_hold j (s ∷ slots))) (sym zeroth)
        ∙ ap (filter_map (bus_in b)) first.1 ∙ tail (sym (ap (λ (o : Option ℕ). cons_option o (filter_map (bus_in b) slots)) first.0) ∙ e)
      where
        tail : m ∷ filter_map (bus_in b) slots ≡ m ∷ ms → filter_map (bus_in b) slots ≡ ms
        tail q = cc
    go false p rest =
        let (j, (later, there)) = index-back (is_bus_child m) 0 i slots (rw p at at) in
        ap (λ (n : ℕ). filter_map (bus_in b) (without_hold n (s ∷ slots))) later ∙ by (bus_in b s) refl j there
      where
        by : (o : Option ℕ) → bus_in b s ≡ o → (j : ℕ) → index_from (is_bus_child m) 0 slots ≡ Some j
            → filter_map (bus_in b) (without_hold (suc j) (s ∷ slots)) ≡ ms
        by None q j there = rw q (rest j ms there (rw q at e))
        by (Some x) q j there =
            clash (sym (ap (λ (n : ℕ). is_bus_child n s) (sym (head (rw q at e))) ∙ bus-passes b x s q) ∙ p)
          where
            head : x ∷ filter_map (bus_in b) slots ≡ m ∷ ms → x ≡ m
            head r = cc

-- a device whose first bus is let go
pub buses-less : (b c : Board) (d m : ℕ) (ms : List ℕ) → WellFormed c → c ≡ let_go_where (is_bus_child m) d b
    → ((x : ℕ) → is_live c x ≡ true → is_of c (codes "bus") x ≡ is_of b (codes "bus") x) → is_live c d ≡ true → buses_of b d ≡ m ∷ ms
    → buses_of c d ≡ ms
unfolding let_go drop_slot
buses-less b c d m ms firm shape kind live e = go (index_from (is_bus_child m) 0 (slots_at b d)) refl
  where
    has : IsBusOf b d m
    has = is-bus_of b d m (rw e (first-in m ms))

    go : (o : Option ℕ) → index_from (is_bus_child m) 0 (slots_at b d) ≡ o → buses_of c d ≡ ms
    go None p = clash (sym has.owned ∙ none-owned m 0 (slots_at b d) p)
    go (Some i) p = buses-as b c firm kind d (without_hold i (slots_at b d)) entries ∙ bus-removed b m has.bus (slots_at b d) i ms p e
      where
        g : Found (is_bus_child m) (slots_at b d) i
        g = found-at (is_bus_child m) i (slots_at b d) p

        x : Board
        x = edit d (with_dropped i) b

        slot : slot_at b d i ≡ Some g.entry.1
        slot = ap (option_map (λ (s : List ℕ × Slot). s.1)) g.at

        ends : c ≡ after finalize x (referent g.entry.1)
        ends = shape ∙ rw (let_go_where, p, let_go, slot) refl

        dropped : (o : Option Record) → record_of b d ≡ o → slots_at x d ≡ without_hold i (slots_at b d)
        dropped None q = absurd (let bad : None ≡ Some i = rw q at p in cc)
        dropped (Some r) q =
            edited-slots b d (with_dropped i) (λ y. refl) r q
            ∙ ap (without_hold i) (sym (ap (λ (o : Option Record). option_map_or (λ (y : Record). y.slots) o []) q))

        entries : child_entries c d ≡ filter_map child_entry (without_hold i (slots_at b d))
        entries =
            ap (λ (y : Board). child_entries y d) ends
            ∙ (after-alike x (referent g.entry.1) d (ap (λ (y : Board). is_live y d) (sym ends) ∙ live)).children
            ∙ ap (filter_map child_entry) (dropped (record_of b d) refl)

-- a bus that has a kid is there
pub kid-owner : (b : Board) (m k : ℕ) → among (kids_of b m) k ≡ true → is_live b m ≡ true
kid-owner b m k e = go (record_of b m) refl
  where
    go : (o : Option Record) → record_of b m ≡ o → is_live b m ≡ true
    go None q = absurd (let bad : false ≡ true = rw q at e in cc)
    go (Some r) q = rw q refl

-- all but some stand on, and keep their children
pub record Spares (Lost : ℕ → Type 0) (b c : Board) : Type 0 where
  pub stand : (y : ℕ) → (Lost y → ⊥) → stands b y ≡ true → stands c y ≡ true
  pub children : (y : ℕ) → (Lost y → ⊥) → stands b y ≡ true → child_entries c y ≡ child_entries b y

pub spares-none : (Lost : ℕ → Type 0) (b : Board) → Spares Lost b b
spares-none Lost b = record { stand = λ y n e. e; children = λ y n e. refl }

pub spares-then : (Lost : ℕ → Type 0) (b c e : Board) → Spares Lost b c → Spares Lost c e → Spares Lost b e
spares-then Lost b c e h k =
    record { stand = λ y n s. k.stand y n (h.stand y n s); children = λ y n s. k.children y n (h.stand y n s) ∙ h.children y n s }

pub spares-fewer : (Lost More : ℕ → Type 0) → ((y : ℕ) → Lost y → More y) → (b c : Board) → Spares Lost b c → Spares More b c
spares-fewer Lost More less b c h =
    record { stand = λ y n s. h.stand y (λ l. n (less y l)) s; children = λ y n s. h.children y (λ l. n (less y l)) s }

-- a board later than another: entries went
pub record Later (a b : Board) : Type 0 where
  pub kids : (m : ℕ) → Within (kid_entries b m) (kid_entries a m)
  pub children : (x : ℕ) → Within (child_entries b x) (child_entries a x)
  pub kind : (x : ℕ) → is_live b x ≡ true → is_of b (codes "bus") x ≡ is_of a (codes "bus") x

pub later-steps : (a b c : Board) → Later a b → Steps b c → Later a c
later-steps a b c h s =
    record {
      kids = λ m. within-then (s.kids m) (h.kids m);
      children = λ x. within-then (s.children x) (h.children x);
      kind = λ x e. of-alike b c x (codes "bus") (s.body x e) ∙ h.kind x (s.live x e);
    }

pub later-stands : (a b : Board) → Later a b → (x : ℕ) → stands b x ≡ true → stands a x ≡ true
later-stands a b h x e =
    or-cases (listed x (child_entries b PERIPHERAL_BIRTH)) (listed x (child_entries b ANONYMOUS_BIRTH)) e
    (λ l. rw (within-any (names_it x) (h.children PERIPHERAL_BIRTH) l) refl)
    (λ l. rw (within-any (names_it x) (h.children ANONYMOUS_BIRTH) l) (or-true (listed x (child_entries a PERIPHERAL_BIRTH))))

steps-kind : (b c : Board) → Steps b c → (x : ℕ) → is_live c x ≡ true → is_of c (codes "bus") x ≡ is_of b (codes "bus") x
steps-kind b c s x e = of-alike b c x (codes "bus") (s.body x e)

-- a kid that still stands is on its bus
kid-stays : (depth : ℕ → ℕ) (out : ℕ → Bool) (b c : Board) → PlacesBut depth None out b → PlacesBut depth None out c → Steps b c → (m y : ℕ)
    → is_of b (codes "bus") m ≡ true → among (kids_of b m) y ≡ true → stands c y ≡ true → among (kids_of c m) y ≡ true
kid-stays depth out b c h k s m y is i e =
    listed-kid y (slots_at c m) (subst (λ (x : ℕ). listed y (kid_entries c x) ≡ true) at home.kid)
  where
    home : IsHome c y
    home = k.home y e (λ z. cc)

    at : home.bus ≡ m
    at =
        same_Some home.bus m
        (sym (s.bus y home.bus home.on) ∙ (kid-of depth None out b h m y is (kids-listed y (slots_at b m) i)).1)

-- what is below on the board before
module _ (a : Board) (k : Placed a) where
  abbrev next : ℕ → List ℕ
  next = below a

  f : IsForest next (births a)
  f = forest a k

  pub bus-was : (b : Board) → WellFormed b → Later a b → (x m : ℕ) → among (buses_of b x) m ≡ true → among (buses_of a x) m ≡ true
  bus-was b firm h x m e =
      let its : IsBusOf b x m = is-bus_of b x m e in
      owned-bus a m (sym (h.kind m (of-live_bus its.bus)) ∙ its.bus) (slots_at a x) (within-any (owns_it m) (h.children x) its.owned)
    where
      of-live_bus : is_of b (codes "bus") m ≡ true → is_live b m ≡ true
      of-live_bus is = of-live b (codes "bus") m is

  pub kid-was : (b : Board) → Later a b → (m y : ℕ) → among (kids_of b m) y ≡ true → among (kids_of a m) y ≡ true
  kid-was b h m y e = within-any (eqb y) (kids-within a b m (h.kids m)) e

  pub under-reach : (b : Board) → WellFormed b → Later a b → (d y : ℕ) → Under b d y → Reach next d y
  under-reach b firm h d y here = itself
  under-reach b firm h d y (down m j im ij u) =
      let is : among (buses_of a d) m ≡ true = bus-was b firm h d m im in
      reach-front next d m y (goes-bus a k d m is) (reach-front next m j y (goes-kid a k d m j is (kid-was b h m j ij)) (under-reach b firm h j y u))

  -- two that are below one object have nothing below both
  pub apart-below : (n x y o : ℕ) → leads next n x ≡ true → leads next n y ≡ true → (x ≡ y → ⊥) → Reach next x o → Reach next y o → ⊥
  apart-below n x y o e d differ i j = above next (births a) f x y o i j (λ r. lower x y e d differ r) (λ r. lower y x d e (λ is. differ (sym is)) r)
    where
      lower : (v w : ℕ) → leads next n v ≡ true → leads next n w ≡ true → (v ≡ w → ⊥) → Reach next v w → ⊥
      lower v w l r not_same t =
          let up : Reach next v n = before next (births a) f v n w t r (false_from_ne_true (eqb v w) (λ q. not_same (eqb-true v w q))) in
          let low : f.rank v ≤ f.rank n = reach-rank next (births a) f v n up in
          absurd (omega (arith, low, f.rises n v l))

  -- and none is below what it leads to
  pub not-back : (n x : ℕ) → leads next n x ≡ true → Reach next x n → ⊥
  not-back n x e r =
      let low : f.rank x ≤ f.rank n = reach-rank next (births a) f x n r in
      absurd (omega (arith, low, f.rises n x e))

  pub kids-once : (b : Board) → Later a b → (m : ℕ) → is_of a (codes "bus") m ≡ true → IsDistinct eqb (kids_of b m)
  kids-once b h m is =
      distinct-within (kids-within a b m (h.kids m)) (let once : IsDistinct eqb (next m) = f.once m in rw is at once)

  -- all below n is as it was
  pub record Fresh (n : ℕ) (b : Board) : Type 0 where
    pub there : (x : ℕ) → Reach next n x → stands a x ≡ true → stands b x ≡ true
    pub buses : (x : ℕ) → Reach next n x → stands a x ≡ true → buses_of b x ≡ buses_of a x
    pub kids : (m : ℕ) → Reach next n m → is_of a (codes "bus") m ≡ true → kids_of b m ≡ kids_of a m

  pub fresh-below : (n x : ℕ) (b : Board) → leads next n x ≡ true → Fresh n b → Fresh x b
  fresh-below n x b e h =
      record {
        there = λ y r. h.there y (reach-front next n x y e r);
        buses = λ y r. h.buses y (reach-front next n x y e r);
        kids = λ y r. h.kids y (reach-front next n x y e r);
      }

  pub fresh-pin : (n d : ℕ) (b : Board) → Fresh n b → Fresh n (pin b d)
  unfolding pin
  fresh-pin n d b h = record { there = h.there; buses = h.buses; kids = h.kids }

  pub buses-once : (d : ℕ) → stands a d ≡ true → IsDistinct eqb (buses_of a d)
  buses-once d e = let once : IsDistinct eqb (next d) = f.once d in rw (below, stands-no_bus a k d e) at once

  -- it stays so while others are taken out
  module _ (depth : ℕ → ℕ) (out : ℕ → Bool) (b c : Board) (h : PlacesBut depth None out b) (i : PlacesBut depth None out c) (firm : WellFormed c)
      (s : Steps b c)
      (later : Later a b) where
    was-bus : (m y : ℕ) → is_of a (codes "bus") m ≡ true → among (kids_of b m) y ≡ true → is_of b (codes "bus") m ≡ true
    was-bus m y is e = later.kind m (kid-owner b m y e) ∙ is

    kids-kept : (m : ℕ) → is_of a (codes "bus") m ≡ true → ((y : ℕ) → among (kids_of b m) y ≡ true → stands c y ≡ true) → kids_of c m ≡ kids_of b m
    kids-kept m is stay =
        within-all_same (kids-within b c m (s.kids m)) (kids-once b later m is)
        (λ y e. kid-stays depth out b c h i s m y (was-bus m y is e) e (stay y e))

    pub kids-less : (m x : ℕ) (xs : List ℕ) → is_of a (codes "bus") m ≡ true → kids_of b m ≡ x ∷ xs → among (kids_of c m) x ≡ false
        → ((y : ℕ) → among xs y ≡ true → stands c y ≡ true) → kids_of c m ≡ xs
    unfolding IsDistinct
    kids-less m x xs is e none stay =
        within-rest_same x (kids-within b c m (s.kids m)) xs e once.1 none
        (λ y j. let had : among (kids_of b m) y ≡ true = rw e (later-in y x xs j) in
        kid-stays depth out b c h i s m y (was-bus m y is had) had (stay y j))
      where
        once : IsDistinct eqb (x ∷ xs)
        once = subst (IsDistinct eqb) e (kids-once b later m is)

    pub fresh-kept : (Lost : ℕ → Type 0) → Spares Lost b c → (n : ℕ) → ((x : ℕ) → Reach next n x → Lost x → ⊥) → Fresh n b → Fresh n c
    fresh-kept Lost spares n apart fresh =
        record {
          there = λ x r e. spares.stand x (apart x r) (fresh.there x r e);
          buses = λ x r e.
              buses-kept b c firm (steps-kind b c s) x (spares.children x (apart x r) (fresh.there x r e)) ∙ fresh.buses x r e;
          kids = λ m r is. kids-kept m is (stay m r is) ∙ fresh.kids m r is;
        }
      where
        stay : (m : ℕ) → Reach next n m → is_of a (codes "bus") m ≡ true → (y : ℕ) → among (kids_of b m) y ≡ true → stands c y ≡ true
        stay m r is y e =
            let had : among (kids_of a m) y ≡ true = kid-was b later m y e in
            let reach : Reach next n y = further r (rw (below, is) had) in
            let stood : stands a y ≡ true = (kid-of k.depth None (λ x. false) a k.places m y is (kids-listed y (slots_at a m) had)).0 in
            spares.stand y (apart y reach) (fresh.there y reach stood)
