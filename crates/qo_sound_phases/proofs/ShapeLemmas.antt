-- Boards of one shape: a reset goes over the same objects, and as many holds are on each and above it.
use Rattle.std.proofs.Common.{◌≡◌, refl, ap, ap₂, sym, ◌∙◌, append-nil, append_assoc, ℕ, zero, suc, ◌+◌, Bool, cond, false, not, ◌&&◌, List, [], ◌∷◌, ◌++◌, filter_map, length, map, Option, Some, None, option_map, codes}
use Rattle.qo_model.proofs.Common.{count_by, if◌then◌else◌, cons_option, option_map_or, bytes_eq, Act, TypeId, Board, Record, Slot, plain, child, strong, weak, alias, kind_of, record_of, slots_at, acted, with_act_on, among, by_depth, bus_in, clock_name, kids_of, strong_in, births, is_of, did, below, count, phased, post, post_turn, is_a, edit, edited}
use Rattle.std.specs.List.{flat_map}
use Rattle.std.proofs.lemmas.List.Sums.{sum_by-cons}
use Rattle.qo_model.proofs.StepLemmas.{found-edited, map-edited, slots-edited}
use Rattle.qo_sound.proofs.FirmBoardLemmas.{edited-births}

-- the same objects, by birth, type and slots
pub record SameShape (b c : Board) : Type 0 where
  pub slots : (x : ℕ) → slots_at c x ≡ slots_at b x
  pub kind : (x : ℕ) → kind_of c x ≡ kind_of b x
  pub size : length (births c) ≡ length (births b)

pub shape-none : (b : Board) → SameShape b b
shape-none b = record { slots = λ x. refl; kind = λ x. refl; size = refl }

pub shape-then : (b c d : Board) → SameShape b c → SameShape c d → SameShape b d
shape-then b c d h k = record { slots = λ x. k.slots x ∙ h.slots x; kind = λ x. k.kind x ∙ h.kind x; size = k.size ∙ h.size }

pub shape-back : (b c : Board) → SameShape b c → SameShape c b
shape-back b c h = record { slots = λ x. sym (h.slots x); kind = λ x. sym (h.kind x); size = sym h.size }

-- what changes no object
pub shape-records : (b c : Board) → c.records ≡ b.records → SameShape b c
shape-records b c e =
    record {
      slots = λ x. ap (λ (rs : List Record). slots_at (record b { records = rs }) x) e;
      kind = λ x. ap (λ (rs : List Record). kind_of (record b { records = rs }) x) e;
      size = ap (λ (rs : List Record). length (map (λ (r : Record). r.birth) rs)) e;
    }

-- a change of one object that leaves these
pub shape-edit : (n : ℕ) (change : Record → Record) → ((r : Record) → (change r).birth ≡ r.birth) → ((r : Record) → (change r).kind ≡ r.kind)
    → ((r : Record) → (change r).slots ≡ r.slots) → (b : Board) → SameShape b (edit n change b)
shape-edit n change birth kind slots b =
    record {
      slots = λ x. ap (λ (o : Option Record). option_map_or (λ (r : Record). r.slots) o []) (found x) ∙ slots-edited n change slots (record_of b x);
      kind = λ x. ap (option_map (λ (r : Record). r.kind)) (found x) ∙ map-edited (λ (r : Record). r.kind) n change kind (record_of b x);
      size = ap (length {A = ℕ}) (edited-births n change birth kind b.records);
    }
  where
    found : (x : ℕ) → record_of (edit n change b) x ≡ option_map (edited n change) (record_of b x)
    found x = found-edited n change birth x b.records

-- counts by tests that say the same
pub counted-same : (f g : ℕ → Bool) → ((r : ℕ) → f r ≡ g r) → (rs : List ℕ) → count_by f rs ≡ count_by g rs
counted-same f g same [] = refl
counted-same f g same (r ∷ rs) =
    let one : cond {A = ℕ} (f r) 1 0 ≡ cond {A = ℕ} (g r) 1 0 = ap (λ (t : Bool). cond {A = ℕ} t 1 0) (same r) in
    sum_by-cons (λ x. cond {A = ℕ} (f x) 1 0) r rs ∙ ap₂ (λ (x y : ℕ). x + y) one (counted-same f g same rs)
    ∙ sym (sum_by-cons (λ x. cond {A = ℕ} (g x) 1 0) r rs)

module _ (b c : Board) (h : SameShape b c) where
  pub shape-of : (name : List ℕ) (x : ℕ) → is_of c name x ≡ is_of b name x
  shape-of name x = ap (λ (o : Option TypeId). option_map_or (λ (t : TypeId). is_a t name) o false) (h.kind x)

  same-bus : (s : List ℕ × Slot) → bus_in c s ≡ bus_in b s
  same-bus (name, plain v) = refl
  same-bus (name, child m) = ap (λ (t : Bool). if t && not (bytes_eq name clock_name) then Some m else None) (shape-of (codes "bus") m)
  same-bus (name, strong t target) = refl
  same-bus (name, weak t target) = refl
  same-bus (name, alias m property) = refl

  same-buses : (slots : List (List ℕ × Slot)) → filter_map (bus_in c) slots ≡ filter_map (bus_in b) slots
  same-buses [] = refl
  same-buses (s ∷ slots) = ap₂ (λ (o : Option ℕ) (ns : List ℕ). cons_option o ns) (same-bus s) (same-buses slots)

  pub shape-below : (x : ℕ) → below c x ≡ below b x
  shape-below x =
      ap₂ (λ (t : Bool) (ss : List (List ℕ × Slot)). if t then filter_map (λ (s : List ℕ × Slot). strong_in s.1) ss else filter_map (bus_in c) ss)
      (shape-of (codes "bus") x) (h.slots x)
      ∙ ap (λ (ns : List ℕ). if is_of b (codes "bus") x then kids_of b x else ns) (same-buses (slots_at b x))

  joined-same : (f g : ℕ → List ℕ) → ((m : ℕ) → f m ≡ g m) → (ms : List ℕ) → flat_map f ms ≡ flat_map g ms
  joined-same f g same [] = refl
  joined-same f g same (m ∷ ms) = ap₂ (λ (xs ys : List ℕ). xs ++ ys) (same m) (joined-same f g same ms)

  turns-same : (depth r : ℕ) → by_depth (post_turn c) (λ _. []) depth r ≡ by_depth (post_turn b) (λ _. []) depth r
  turns-same zero r = refl
  turns-same (suc depth) r =
      ap (λ (xs : List ℕ). xs ++ r ∷ [])
      (ap (flat_map (by_depth (post_turn c) (λ _. []) depth)) (shape-below r)
      ∙ joined-same (by_depth (post_turn c) (λ _. []) depth) (by_depth (post_turn b) (λ _. []) depth) (turns-same depth) (below b r))

  pub shape-post : (r : ℕ) → post c r ≡ post b r
  unfolding post
  shape-post r = ap (λ (size : ℕ). by_depth (post_turn c) (λ _. []) (suc size) r) h.size ∙ turns-same (suc (length (births b))) r

  pub shape-count : c.holds ≡ b.holds → (o : ℕ) → count c o ≡ count b o
  shape-count e o =
      counted-same (λ r. among (post c r) o) (λ r. among (post b r) o) (λ r. ap (λ (xs : List ℕ). among xs o) (shape-post r)) c.holds
      ∙ ap (count_by (λ r. among (post b r) o)) e

-- acts leave the shape, and note what was done
pub shape-acted : (act : Act) (n period : ℕ) (b : Board) → SameShape b (acted act n period b)
unfolding acted
shape-acted act n period b =
    shape-then b (edit n (with_act_on act b.now period) b) (acted act n period b)
    (shape-edit n (with_act_on act b.now period) (λ r. refl) (λ r. refl) (λ r. refl) b) (shape-records _ _ refl)

pub shape-phased : (act : Act) (os : List ℕ) (b : Board) → SameShape b (phased act os b)
shape-phased act [] b = shape-none b
shape-phased act (o ∷ os) b = shape-then b (acted act o 0 b) (phased act os (acted act o 0 b)) (shape-acted act o 0 b) (shape-phased act os (acted act o 0 b))

-- and leave the holds and the births
pub record PhasedSo (act : Act) (os : List ℕ) (b c : Board) : Type 0 where
  pub shape : SameShape b c
  pub holds : c.holds ≡ b.holds
  pub born : c.born ≡ b.born
  pub notes : c.notes ≡ b.notes ++ map (did act) os

pub phased-so : (act : Act) (os : List ℕ) (b : Board) → PhasedSo act os b (phased act os b)
unfolding acted
phased-so act [] b = record { shape = shape-none b; holds = refl; born = refl; notes = sym (append-nil b.notes) }
phased-so act (o ∷ os) b =
    let k : PhasedSo act os (acted act o 0 b) (phased act os (acted act o 0 b)) = phased-so act os (acted act o 0 b) in
    record {
      shape = shape-phased act (o ∷ os) b;
      holds = k.holds;
      born = k.born;
      notes = k.notes ∙ append_assoc b.notes (did act o ∷ []) (map (did act) os);
    }
