-- On a board whose links name what is there, so do the buses and the kids of each object, and all that is below one in its reset order.
use Rattle.std.proofs.Common.{◌≡◌, refl, ap, sym, ◌∙◌, ℕ, zero, suc, Bool, true, false, ◌==◌, List, [], ◌∷◌, filter_map, length, codes, Option, Some, None, is_some}
use Rattle.qo_model.proofs.Common.{⊤, AllByRecursion, option_map_or, bytes_eq, TypeId, Board, Record, Slot, plain, child, strong, weak, alias, is_live, kind_of, record_of, slots_at, by_depth, bus_in, buses_of, clock_name, kids_of, strong_in, births, is_of, below, post, post_turn, is_a}
use Rattle.std.specs.List.{flat_map}
use Rattle.std.proofs.lemmas.Option.{same_Some}
use Rattle.qo_model.proofs.FinalNotesLemmas.{kind-live}
use Rattle.qo_model.proofs.StepLemmas.{found_at}
use Rattle.qo_sound.proofs.RecordLemmas.{all-append}
use Rattle.qo_sound.proofs.FirmBoardLemmas.{AllLinked, Linked}

-- an object that is there
abbrev pub IsThere : Board → ℕ → Type 0
IsThere b n = is_live b n ≡ true

-- what is of a type is there
fits-some : (o : Option TypeId) (wanted : List ℕ) → option_map_or (λ (k : TypeId). is_a k wanted) o false ≡ true → is_some o ≡ true
fits-some None wanted e = absurd (let clash : false ≡ true = e in cc)
fits-some (Some k) wanted e = refl

of-live : (b : Board) (wanted : List ℕ) (n : ℕ) → is_of b wanted n ≡ true → IsThere b n
of-live b wanted n e = sym (kind-live b n) ∙ fits-some (kind_of b n) wanted e

-- what is found among records passes what all pass
found-passes : (P : Record → Type 0) (n : ℕ) (rs : List Record) (r : Record) → found_at n rs ≡ Some r → AllByRecursion P rs → P r
found-passes P n [] r e h = absurd (let clash : None ≡ Some r = e in cc)
found-passes P n (x ∷ rs) r e h = go (x.birth == n) refl (found-passes P n rs r)
  where
    go : (u : Bool) → (x.birth == n) ≡ u → (found_at n rs ≡ Some r → AllByRecursion P rs → P r) → P r
    go true p rest = rw (sym (same_Some x r (rw p at e))) h.0
    go false p rest = rest (rw p at e) h.1

-- the members that a list comes to
module _ (P : ℕ → Type 0) (f : List ℕ × Slot → Option ℕ) (Q : List ℕ × Slot → Type 0) (is : (s : List ℕ × Slot) (m : ℕ) → Q s → f s ≡ Some m → P m) where
  all-came : (slots : List (List ℕ × Slot)) → AllByRecursion Q slots → AllByRecursion P (filter_map f slots)
  all-came [] h = tt
  all-came (s ∷ slots) h = go (f s) refl (all-came slots h.1)
    where
      go : (o : Option ℕ) → f s ≡ o → AllByRecursion P (filter_map f slots) → AllByRecursion P (filter_map f (s ∷ slots))
      go None e rest = rw e rest
      go (Some m) e rest = rw e (is s m h.0 e, rest)

-- buses are there on every board
any-slots : (slots : List (List ℕ × Slot)) → AllByRecursion (λ (s : List ℕ × Slot). ⊤) slots
any-slots [] = tt
any-slots (s ∷ slots) = (tt, any-slots slots)

bus-there : (b : Board) (s : List ℕ × Slot) (m : ℕ) → bus_in b s ≡ Some m → IsThere b m
bus-there b (name, plain v) m e = absurd (let clash : None ≡ Some m = e in cc)
bus-there b (name, strong t target) m e = absurd (let clash : None ≡ Some m = e in cc)
bus-there b (name, weak t target) m e = absurd (let clash : None ≡ Some m = e in cc)
bus-there b (name, alias k property) m e = absurd (let clash : None ≡ Some m = e in cc)
bus-there b (name, child k) m e = go (is_of b (codes "bus") k) refl (bytes_eq name clock_name) refl
  where
    go : (u : Bool) → is_of b (codes "bus") k ≡ u → (v : Bool) → bytes_eq name clock_name ≡ v → IsThere b m
    go true p false q = let is : k ≡ m = same_Some k m (rw (bus_in, p, q) at e) in ap (is_live b) (sym is) ∙ of-live b (codes "bus") k p
    go true p true q = absurd (let clash : None ≡ Some m = rw (bus_in, p, q) at e in cc)
    go false p v q = absurd (let clash : None ≡ Some m = rw (bus_in, p) at e in cc)

pub buses-there : (b : Board) (n : ℕ) → AllByRecursion (IsThere b) (buses_of b n)
buses-there b n = all-came (IsThere b) (bus_in b) (λ s. ⊤) (λ s m any e. bus-there b s m e) (slots_at b n) (any-slots (slots_at b n))

-- kids are there where links name what is there
kid-there : (b : Board) (s : List ℕ × Slot) (m : ℕ) → Linked (kind_of b) s.1 → strong_in s.1 ≡ Some m → IsThere b m
kid-there b (name, plain v) m h e = absurd (let clash : None ≡ Some m = e in cc)
kid-there b (name, child k) m h e = absurd (let clash : None ≡ Some m = e in cc)
kid-there b (name, weak t target) m h e = absurd (let clash : None ≡ Some m = e in cc)
kid-there b (name, alias k property) m h e = absurd (let clash : None ≡ Some m = e in cc)
kid-there b (name, strong t None) m h e = absurd (let clash : None ≡ Some m = e in cc)
kid-there b (name, strong t (Some k)) m h e = ap (is_live b) (sym (same_Some k m e)) ∙ sym (kind-live b k) ∙ fits-some (kind_of b k) _ h

pub kids-there : (b : Board) → AllLinked (kind_of b) b.records → (n : ℕ) → AllByRecursion (IsThere b) (kids_of b n)
kids-there b linked n =
    all-came (IsThere b) (λ (s : List ℕ × Slot). strong_in s.1) (λ (s : List ℕ × Slot). Linked (kind_of b) s.1) (kid-there b)
    (slots_at b n) (links (record_of b n) refl)
  where
    links : (o : Option Record) → record_of b n ≡ o
        → AllByRecursion (λ (s : List ℕ × Slot). Linked (kind_of b) s.1) (option_map_or (λ (r : Record). r.slots) o [])
    links None e = tt
    links (Some r) e = found-passes (λ (x : Record). AllByRecursion (λ (s : List ℕ × Slot). Linked (kind_of b) s.1) x.slots) n b.records r e linked

-- all that is below an object
module _ (b : Board) (linked : AllLinked (kind_of b) b.records) where
  below-there : (n : ℕ) → AllByRecursion (IsThere b) (below b n)
  below-there n = go (is_of b (codes "bus") n) refl
    where
      go : (u : Bool) → is_of b (codes "bus") n ≡ u → AllByRecursion (IsThere b) (below b n)
      go true p = rw (below, p) (kids-there b linked n)
      go false p = rw (below, p) (buses-there b n)

  all-below : (f : ℕ → List ℕ) → ((n : ℕ) → IsThere b n → AllByRecursion (IsThere b) (f n)) → (ns : List ℕ) → AllByRecursion (IsThere b) ns
      → AllByRecursion (IsThere b) (flat_map f ns)
  all-below f there [] h = tt
  all-below f there (n ∷ ns) h = all-append (IsThere b) (f n) (flat_map f ns) (there n h.0) (all-below f there ns h.1)

  post-turns : (depth n : ℕ) → IsThere b n → AllByRecursion (IsThere b) (by_depth (post_turn b) (λ _. []) depth n)
  post-turns zero n h = tt
  post-turns (suc depth) n h = turn (post-turns depth)
    where
      turn : ((m : ℕ) → IsThere b m → AllByRecursion (IsThere b) (by_depth (post_turn b) (λ _. []) depth m))
          → AllByRecursion (IsThere b) (by_depth (post_turn b) (λ _. []) (suc depth) n)
      turn there =
          all-append (IsThere b) (flat_map (by_depth (post_turn b) (λ _. []) depth) (below b n)) (n ∷ [])
          (all-below _ there (below b n) (below-there n)) (h, tt)

  pub post-there : (n : ℕ) → IsThere b n → AllByRecursion (IsThere b) (post b n)
  unfolding post
  post-there n h = post-turns (suc (length (births b))) n h
