-- Slots under other names than those of clocks: they read as no clock, and stay so.
use Rattle.std.proofs.Common.{◌≡◌, refl, ap, sym, ◌∙◌, ℕ, Bool, true, false, cond, ◌||◌, List, [], ◌∷◌, map, Option, None, codes}
use Rattle.qo_model.proofs.Common.{⊤, AllByRecursion, option_or, bytes_eq, Board, Slot, plain, child, strong, weak, alias, Given, slot_given}
use Rattle.std.proofs.Math.Bool.{and-false}
use Rattle.std.proofs.lemmas.Bool.{or_parts}
use Rattle.std.proofs.lemmas.Slice.Eq.{bytes_eq-Decides}
use Rattle.qo_sound.proofs.GivenPropertyLemmas.{given-cases}
use Rattle.qo_sound.proofs.RecordLemmas.{all-map}
use Rattle.qo_sound_clocks.proofs.SlotLemmas.{Blank, OtherName, plain_of, sees, Slots}

-- whether a name is one that is read of clocks
abbrev pub is_read : List ℕ → Bool
is_read name = bytes_eq name (codes "period") || (bytes_eq name (codes "mul") || (bytes_eq name (codes "div") || bytes_eq name (codes "source")))

pub other-name : (name : List ℕ) → is_read name ≡ false → OtherName name
other-name name e =
    let one = or_parts (bytes_eq name (codes "period")) _ e in
    let two = or_parts (bytes_eq name (codes "mul")) _ one.1 in
    let three = or_parts (bytes_eq name (codes "div")) _ two.1 in
    record { period = one.0; mul = two.0; div = three.0; source = three.1 }

-- a slot that is not read as a clock's
abbrev pub Quiet : List ℕ × Slot → Type 0
Quiet (name, plain v) = is_read name ≡ false
Quiet (name, weak t target) = is_read name ≡ false
Quiet s = ⊤

skip : {A : Type 0} (t : Bool) {o : Option A} → o ≡ None → option_or (cond t None None) o ≡ None
skip true e = e
skip false e = e

quiet-plain : (name : List ℕ) → is_read name ≡ true → (xs : Slots) → AllByRecursion Quiet xs → plain_of name xs ≡ None
quiet-plain name read [] h = refl
quiet-plain name read ((own, plain v) ∷ xs) h = go (bytes_eq own name) refl (quiet-plain name read xs h.1)
  where
    go : (t : Bool) → bytes_eq own name ≡ t → plain_of name xs ≡ None → plain_of name ((own, plain v) ∷ xs) ≡ None
    go true p rest =
        absurd (let clash : true ≡ false = sym read ∙ ap is_read (sym ((bytes_eq-Decides own name).0 p)) ∙ h.0 in cc)
    go false p rest = rw p rest
quiet-plain name read ((own, child m) ∷ xs) h = skip (bytes_eq own name) (quiet-plain name read xs h.1)
quiet-plain name read ((own, strong t target) ∷ xs) h = skip (bytes_eq own name) (quiet-plain name read xs h.1)
quiet-plain name read ((own, weak t target) ∷ xs) h = skip (bytes_eq own name) (quiet-plain name read xs h.1)
quiet-plain name read ((own, alias m property) ∷ xs) h = skip (bytes_eq own name) (quiet-plain name read xs h.1)

pub quiet-sees : (s : ℕ) (xs : Slots) → AllByRecursion Quiet xs → sees s xs ≡ false
quiet-sees s [] h = refl
quiet-sees s ((own, plain v) ∷ xs) h = rw (and-false (bytes_eq own (codes "source"))) (quiet-sees s xs h.1)
quiet-sees s ((own, child m) ∷ xs) h = rw (and-false (bytes_eq own (codes "source"))) (quiet-sees s xs h.1)
quiet-sees s ((own, strong t target) ∷ xs) h = rw (and-false (bytes_eq own (codes "source"))) (quiet-sees s xs h.1)
quiet-sees s ((own, weak t target) ∷ xs) h = rw (other-name own h.0).source (quiet-sees s xs h.1)
quiet-sees s ((own, alias m property) ∷ xs) h = rw (and-false (bytes_eq own (codes "source"))) (quiet-sees s xs h.1)

pub quiet-blank : (xs : Slots) → AllByRecursion Quiet xs → Blank xs
quiet-blank xs h =
    record {
      own = rw (quiet-plain (codes "period") refl xs h) refl;
      mul = rw (quiet-plain (codes "mul") refl xs h) refl;
      div = rw (quiet-plain (codes "div") refl xs h) refl;
      source = λ s. quiet-sees s xs h;
    }

-- the values given to a new object
pub quiet-given : (b : Board) (props : List Given) (s : List ℕ × Slot) → Quiet s → Quiet (slot_given b props s)
quiet-given b props (name, s) h =
    given-cases b props (λ x y. Quiet (name, x) → Quiet (name, y)) (λ x k. k) (λ old v k. k) (λ t target path k. tt) (λ t target path k. k) (name, s) h

pub quiet-all_given : (b : Board) (props : List Given) (xs : Slots) → AllByRecursion Quiet xs → AllByRecursion Quiet (map (slot_given b props) xs)
quiet-all_given b props xs h = all-map Quiet Quiet (slot_given b props) (quiet-given b props) xs h
