-- What is read of the objects of a board without their registers.
use Rattle.std.proofs.Common.{◌≡◌, refl, ap, sym, ◌∙◌, ℕ, Bool, true, false, ◌==◌, List, [], ◌∷◌, find, length, map, Option, Some, None, is_some, option_map, option_and_then}
use Rattle.qo_model.proofs.Common.{option_map_or, Board, Record, kind_of, record_of, slots_at}
use Rattle.qo_model.specs.Paths.{parent_of, place_in}
use Rattle.qo_model.proofs.StepLemmas.{found_at}
use Rattle.qo_sound_devices.proofs.LikenessLemmas.{Alike, alike-same, bodiless}
use Rattle.qo_sound_devices.proofs.PlacesLemmas.{SameBody}
use Rattle.qo_sound_phases.proofs.ShapeLemmas.{SameShape}
use Rattle.qo_sound_frames.specs.Frames.{forms, without_registers}

found-form : (x : ℕ) (rs : List Record) → found_at x (map without_registers rs) ≡ option_map without_registers (found_at x rs)
found-form x [] = refl
found-form x (r ∷ rs) = go (r.birth == x) refl (found-form x rs)
  where
    go : (t : Bool) → (r.birth == x) ≡ t → found_at x (map without_registers rs) ≡ option_map without_registers (found_at x rs)
        → found_at x (map without_registers (r ∷ rs)) ≡ option_map without_registers (found_at x (r ∷ rs))
    go true e rest = rw e refl
    go false e rest = rw e rest

births-form : (rs : List Record) → map (λ (r : Record). r.birth) (map without_registers rs) ≡ map (λ (r : Record). r.birth) rs
births-form [] = refl
births-form (r ∷ rs) = ap (λ (ns : List ℕ). r.birth ∷ ns) (births-form rs)

-- the place of an object in the tree
place-form : (n : ℕ) (rs : List Record)
    → option_and_then (place_in n) (find (λ (r : Record). is_some (place_in n r)) (map without_registers rs))
    ≡ option_and_then (place_in n) (find (λ (r : Record). is_some (place_in n r)) rs)
place-form n [] = refl
place-form n (r ∷ rs) = go (is_some (place_in n r)) refl (place-form n rs)
  where
    go : (t : Bool) → is_some (place_in n r) ≡ t
        → option_and_then (place_in n) (find (λ (x : Record). is_some (place_in n x)) (map without_registers rs))
        ≡ option_and_then (place_in n) (find (λ (x : Record). is_some (place_in n x)) rs)
        → option_and_then (place_in n) (find (λ (x : Record). is_some (place_in n x)) (map without_registers (r ∷ rs)))
        ≡ option_and_then (place_in n) (find (λ (x : Record). is_some (place_in n x)) (r ∷ rs))
    go true e rest = rw e refl
    go false e rest = rw e rest

-- what is read of an object
read-form : {A : Type 0} (f : Option Record → A) → ((o : Option Record) → f (option_map without_registers o) ≡ f o) → (b c : Board) → forms b ≡ forms c → (x : ℕ)
    → f (record_of c x) ≡ f (record_of b x)
read-form f same b c e x =
    sym (same (record_of c x))
    ∙ ap f (sym (found-form x c.records) ∙ ap (found_at x) (sym e) ∙ found-form x b.records)
    ∙ same (record_of b x)

pub slots-form : (b c : Board) → forms b ≡ forms c → (x : ℕ) → slots_at c x ≡ slots_at b x
slots-form = read-form (λ o. option_map_or (λ (r : Record). r.slots) o []) same
  where
    same : (o : Option Record)
        → option_map_or (λ (r : Record). r.slots) (option_map without_registers o) [] ≡ option_map_or (λ (r : Record). r.slots) o []
    same None = refl
    same (Some r) = refl

pub kind-form : (b c : Board) → forms b ≡ forms c → (x : ℕ) → kind_of c x ≡ kind_of b x
kind-form = read-form (option_map (λ (r : Record). r.kind)) same
  where
    same : (o : Option Record) → option_map (λ (r : Record). r.kind) (option_map without_registers o) ≡ option_map (λ (r : Record). r.kind) o
    same None = refl
    same (Some r) = refl

pub body-form : (b c : Board) → forms b ≡ forms c → (x : ℕ) → SameBody b c x
body-form = read-form (option_map bodiless) same
  where
    same : (o : Option Record) → option_map bodiless (option_map without_registers o) ≡ option_map bodiless o
    same None = refl
    same (Some r) = refl

pub alike-form : (b c : Board) → forms b ≡ forms c → (x : ℕ) → Alike b c x
alike-form b c e x = alike-same b c x (slots-form b c e x) (body-form b c e x)

pub shape-form : (b c : Board) → forms b ≡ forms c → SameShape b c
shape-form b c e =
    record {
      slots = slots-form b c e;
      kind = kind-form b c e;
      size =
          ap (length {A = ℕ})
          (sym (births-form c.records) ∙ ap (map (λ (r : Record). r.birth)) (sym e) ∙ births-form b.records);
    }

pub parent-form : (b c : Board) → forms b ≡ forms c → (n : ℕ) → parent_of c n ≡ parent_of b n
parent-form b c e n =
    ap (option_map (λ (p : ℕ × List ℕ). p.0))
    (sym (place-form n c.records)
    ∙ ap (λ (rs : List Record). option_and_then (place_in n) (find (λ (r : Record). is_some (place_in n r)) rs)) (sym e)
    ∙ place-form n b.records)
