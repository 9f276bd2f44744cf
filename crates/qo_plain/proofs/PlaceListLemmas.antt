-- Entries and slots: what holds of each entry, what is found by a name, and numbers that rise among others that do.
use Rattle.std.proofs.Common.{◌≡◌, refl, ap, subst, ℕ, ◌+◌, ◌<◌, ◌≤◌, Bool, true, false, ◌==◌, ◌&&◌, eqb, List, [], ◌∷◌, filter_map, length, get_or, Option, Some, None, option_and_then, arith}
use Rattle.qo_model.proofs.Common.{⊤, AllByRecursion, IsDistinct, list_any, bytes_eq, Slot, plain, child, strong, weak, alias, among, clock_name, kid_name, strong_in, Rises}
use Rattle.std.proofs.lemmas.Bool.{eqb-true, eq-eqb}
use Rattle.std.proofs.lemmas.Option.{same_Some}
use Rattle.std.proofs.lemmas.Slice.Eq.{bytes_eq-Decides}
use Rattle.std.proofs.Math.Bool.{or-true}
use Rattle.qo_values.proofs.ListLemmas.{all-imply}
use Rattle.qo_model.proofs.AmongLemmas.{among-all}
use Rattle.qo_model.proofs.FirstSlotLemmas.{named_in}
use Rattle.qo_sound.proofs.SlotLemmas.{names_in}
use Rattle.qo_sound.proofs.TestLemmas.{clash-back, decide}
use Rattle.qo_sound_devices.specs.SoundPlaces.{has_entry, kid_entry, listed, owns_it}

-- each member passes a test that it passes of itself
each-any : {A : Type 0} (test : A → A → Bool) (Q : A → Type 0) → ((x : A) → Q x → test x x ≡ true) → (xs : List A)
    → AllByRecursion (λ (x : A). Q x → list_any (test x) xs ≡ true) xs
each-any test Q is [] = tt
each-any test Q is (x ∷ xs) = (
  λ q. rw (is x q) refl,
  all-imply (λ y. Q y → list_any (test y) xs ≡ true) (λ y. Q y → list_any (test y) (x ∷ xs) ≡ true) (λ y h q. rw (h q) (or-true (test y x))) xs
      (each-any test Q is xs),
)

-- an entry is among the entries, and what it names is
abbrev pub Entries : Type 0
Entries = List (List ℕ × ℕ)

pub each-entry : (es : Entries) → AllByRecursion (λ (e : List ℕ × ℕ). has_entry e es ≡ true) es
each-entry es =
    all-imply (λ (e : List ℕ × ℕ). ⊤ → has_entry e es ≡ true) (λ (e : List ℕ × ℕ). has_entry e es ≡ true) (λ e h. h tt) es
    (each-any (λ (e x : List ℕ × ℕ). x.1 == e.1 && bytes_eq x.0 e.0) (λ e. ⊤) (λ e q. rw (eq-eqb e.1 e.1 refl, (bytes_eq-Decides e.0 e.0).1 refl) refl) es)

pub each-listed : (es : Entries) → AllByRecursion (λ (e : List ℕ × ℕ). listed e.1 es ≡ true) es
each-listed es =
    all-imply (λ (e : List ℕ × ℕ). ⊤ → listed e.1 es ≡ true) (λ (e : List ℕ × ℕ). listed e.1 es ≡ true) (λ e h. h tt) es
    (each-any (λ (e x : List ℕ × ℕ). x.1 == e.1) (λ e. ⊤) (λ e q. eq-eqb e.1 e.1 refl) es)

pub each-owned : (es : Entries) → AllByRecursion (λ (e : List ℕ × ℕ). bytes_eq e.0 clock_name ≡ false → list_any (owns_it e.1) es ≡ true) es
each-owned es =
    each-any (λ (e x : List ℕ × ℕ). owns_it e.1 x) (λ e. bytes_eq e.0 clock_name ≡ false) (λ e q. rw (eq-eqb e.1 e.1 refl, q) refl) es

-- what is a bus of an object has what each entry under another name than a clock's has
pub owned-has : (P : ℕ → Type 0) (q : ℕ) (es : Entries) → AllByRecursion (λ (e : List ℕ × ℕ). bytes_eq e.0 clock_name ≡ false → P e.1) es
    → list_any (owns_it q) es ≡ true → P q
owned-has P q [] h o = clash-back o
owned-has P q (e ∷ es) h o = go (e.1 == q) refl (bytes_eq e.0 clock_name) refl (owned-has P q es h.1)
  where
    go : (t : Bool) → (e.1 == q) ≡ t → (u : Bool) → bytes_eq e.0 clock_name ≡ u → (list_any (owns_it q) es ≡ true → P q) → P q
    go true p false k rest = subst P (eqb-true e.1 q p) (h.0 k)
    go true p true k rest = rest (rw (p, k) at o)
    go false p u k rest = rest (rw p at o)

-- what holds of each slot that has an entry holds of the entries
pub all-entries : (f : List ℕ × Slot → Option (List ℕ × ℕ)) (Q : List ℕ × Slot → Type 0) (P : List ℕ × ℕ → Type 0)
    → ((s : List ℕ × Slot) (e : List ℕ × ℕ) → Q s → f s ≡ Some e → P e) → (slots : List (List ℕ × Slot)) → AllByRecursion Q slots
    → AllByRecursion P (filter_map f slots)
all-entries f Q P is [] h = tt
all-entries f Q P is (s ∷ slots) h = go (f s) refl (all-entries f Q P is slots h.1)
  where
    go : (o : Option (List ℕ × ℕ)) → f s ≡ o → AllByRecursion P (filter_map f slots) → AllByRecursion P (filter_map f (s ∷ slots))
    go None e rest = rw e rest
    go (Some x) e rest = rw e (is s x h.0 e, rest)

-- where names differ, each slot is the one of its name
pub each-named : (slots : List (List ℕ × Slot)) → IsDistinct bytes_eq (names_in slots)
    → AllByRecursion (λ (s : List ℕ × Slot). named_in s.0 slots ≡ Some s.1) slots
unfolding IsDistinct
each-named [] h = tt
each-named (x ∷ xs) h = (rw ((bytes_eq-Decides x.0 x.0).1 refl) refl, after xs h.0 (each-named xs h.1))
  where
    after : (ys : List (List ℕ × Slot)) → AllByRecursion (λ m. bytes_eq x.0 m ≡ false) (names_in ys)
        → AllByRecursion (λ (s : List ℕ × Slot). named_in s.0 xs ≡ Some s.1) ys
        → AllByRecursion (λ (s : List ℕ × Slot). named_in s.0 (x ∷ xs) ≡ Some s.1) ys
    after [] a k = tt
    after (y ∷ ys) a k = (rw a.0 k.0, after ys a.1 k.1)

-- an entry of a kid, and its slot
pub kid-is : (s : List ℕ × Slot) (e : List ℕ × ℕ) → kid_entry s ≡ Some e → (s.0 ≡ e.0) × (strong_in s.1 ≡ Some e.1)
kid-is (name, plain v) e k = cc
kid-is (name, child m) e k = cc
kid-is (name, strong t None) e k = cc
kid-is (name, strong t (Some m)) e k =
    let same : (name, m) ≡ e = same_Some (name, m) e k in
    (ap (λ (x : List ℕ × ℕ). x.0) same, ap (λ (x : List ℕ × ℕ). Some x.1) same)
kid-is (name, weak t target) e k = cc
kid-is (name, alias m property) e k = cc

-- what a link of a name holds has what the entries of kids have
pub kid-has : (P : List ℕ × ℕ → Type 0) (name : List ℕ) (d : ℕ) (slots : List (List ℕ × Slot)) → AllByRecursion P (filter_map kid_entry slots)
    → option_and_then strong_in (named_in name slots) ≡ Some d → P (name, d)
kid-has P name d [] all e = cc
kid-has P name d (s ∷ slots) all e =
    decide (bytes_eq s.0 name) (λ q. here s ((bytes_eq-Decides s.0 name).0 q) all (rw q at e)) (λ q. kid-has P name d slots (after s all) (rw q at e))
  where
    here : (x : List ℕ × Slot) → x.0 ≡ name → AllByRecursion P (filter_map kid_entry (x ∷ slots)) → strong_in x.1 ≡ Some d → P (name, d)
    here (own, strong t (Some m)) is k q = subst (λ (n : List ℕ). P (n, d)) is (subst (λ (y : ℕ). P (own, y)) (same_Some m d q) k.0)
    here (own, strong t None) is k q = cc
    here (own, plain v) is k q = cc
    here (own, child m) is k q = cc
    here (own, weak t target) is k q = cc
    here (own, alias m property) is k q = cc

    after : (x : List ℕ × Slot) → AllByRecursion P (filter_map kid_entry (x ∷ slots)) → AllByRecursion P (filter_map kid_entry slots)
    after (own, strong t (Some m)) k = k.1
    after (own, strong t None) k = k
    after (own, plain v) k = k
    after (own, child m) k = k
    after (own, weak t target) k = k
    after (own, alias m property) k = k

-- the numbers in the names of links
pub kid-number : (i k : ℕ) → kid_name i ≡ kid_name k → i ≡ k
kid-number i k e = let same : 48 + i ≡ 48 + k = ap (λ (xs : List ℕ). get_or xs 6 0) e in omega arith

-- there are as many as those that are among them
without-first : (y : ℕ) (ns zs : List ℕ) → AllByRecursion (λ z. y < z) zs → AllByRecursion (λ z. among (y ∷ ns) z ≡ true) zs
    → AllByRecursion (λ z. among ns z ≡ true) zs
without-first y ns [] a h = tt
without-first y ns (z ∷ zs) a h = (go (eqb z y) refl, without-first y ns zs a.1 h.1)
  where
    go : (t : Bool) → eqb z y ≡ t → among ns z ≡ true
    go false p = rw p at h.0
    go true p = let low : y < z = a.0 in let is : z ≡ y = eqb-true z y p in absurd (omega (arith, low, is))

pub rises-room : (ns xs : List ℕ) → Rises ns → Rises xs → AllByRecursion (λ x. among ns x ≡ true) xs → length xs ≤ length ns
rises-room ns [] r s h = omega arith
rises-room [] (x ∷ xs) r s h = clash-back h.0
rises-room (y ∷ ns) (x ∷ xs) r s h = go (eqb x y) refl (rises-room ns xs r.1 s.1) (rises-room ns (x ∷ xs) r.1 s)
  where
    go : (t : Bool) → eqb x y ≡ t → (AllByRecursion (λ z. among ns z ≡ true) xs → length xs ≤ length ns)
        → (AllByRecursion (λ z. among ns z ≡ true) (x ∷ xs) → length (x ∷ xs) ≤ length ns) → length (x ∷ xs) ≤ length (y ∷ ns)
    go true p fewer all =
        let few : length xs ≤ length ns = fewer (without-first y ns xs (subst (λ (m : ℕ). AllByRecursion (λ z. m < z) xs) (eqb-true x y p) s.0) h.1) in
        omega (arith, few)
    go false p fewer all =
        let own : among ns x ≡ true = rw p at h.0 in
        let low : y < x = among-all (λ m. y < m) ns r.0 x own in
        let later : AllByRecursion (λ z. y < z) xs = all-imply (λ z. x < z) (λ z. y < z) (λ z k. omega (arith, low, k)) xs s.0 in
        let few : length (x ∷ xs) ≤ length ns = all (own, without-first y ns xs later h.1) in
        omega (arith, few)
