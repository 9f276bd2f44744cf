-- There are at least as many regions as slots on the way to a device.
use Rattle.std.proofs.Common.{◌≡◌, refl, ap, ap₂, ℕ, suc, ◌+◌, ◌≤◌, ◌<◌, Bool, true, false, eqb, List, [], ◌∷◌, ◌++◌, length, option_and_then, Option, Some, None, arith}
use Rattle.std.specs.List.{flat_map}
use Rattle.std.proofs.Math.ListN.{length-append}
use Rattle.std.proofs.lemmas.Bool.{eqb-true, eq-eqb}
use Rattle.qo_model.specs.Board.{Board}
use Rattle.qo_model.specs.Depth.{among, IsLocal, IsTree, leads, Leads, more, one}
use Rattle.qo_model.specs.Devices.{first_bus, found_at, kid_at}
use Rattle.qo_model.specs.Paths.{births}
use Rattle.qo_model.specs.Reset.{below, post, post_turn}
use Rattle.qo_model.proofs.DepthLemmas.{by_objects_is}
use Rattle.qo_sound_devices.specs.SoundDevices.{SoundDevices}
use Rattle.qo_sound_phases.proofs.ForestLemmas.{IsForest}
use Rattle.qo_sound_phases.proofs.ListLemmas.{among-right}
use Rattle.qo_sound_phases.proofs.ResetTreeLemmas.{forest, placed}
use Rattle.qo_layout.proofs.RegionLemmas.{IsBusAt, IsKidAt, bus-below, bus-is, kid-below, kid-is}

-- what is gone over below an object

flat-same : (f g : ℕ → List ℕ) (ms : List ℕ) → ((m : ℕ) → among ms m ≡ true → f m ≡ g m) → flat_map f ms ≡ flat_map g ms
flat-same f g [] same = refl
flat-same f g (m ∷ ms) same =
    let first : among (m ∷ ms) m ≡ true = rw (eq-eqb m m refl) refl in
    ap₂ (λ (xs ys : List ℕ). xs ++ ys) (same m first) (flat-same f g ms (λ x e. same x (among-right x (m ∷ []) ms e)))

post-local : (b : Board) → IsLocal (below b) (post_turn b)
post-local b n f g same = ap (λ (xs : List ℕ). xs ++ n ∷ []) (flat-same f g (below b n) same)

rises-all : (next : ℕ → List ℕ) (rank : ℕ → ℕ) → ((p m : ℕ) → leads next p m ≡ true → rank p < rank m) → (n k : ℕ) → Leads next n k → rank n < rank k
rises-all next rank rises n k (one e) = rises n k e
rises-all next rank rises n k (more {m = m} e w) = omega (arith, rises n m e, rises-all next rank rises m k w)

tree : (b : Board) → SoundDevices b → IsTree (below b) (births b)
tree b h =
    let f : IsForest (below b) (births b) = forest b (placed b h) in
    record {
      none_round = λ n w. let round : f.rank n < f.rank n = rises-all (below b) f.rank f.rises n n w in absurd (omega (arith, round));
      lives = f.there;
    }

pub post-is : (b : Board) → SoundDevices b → (o : ℕ) → post b o ≡ flat_map (post b) (below b o) ++ o ∷ []
unfolding post
post-is b h o = by_objects_is (below b) (post_turn b) (λ x. []) (births b) (post-local b) (tree b h) o

-- it is longer than what is gone over below one that is below it

pub length-part : (f : ℕ → List ℕ) (m : ℕ) (ms : List ℕ) → among ms m ≡ true → length (f m) ≤ length (flat_map f ms)
length-part f m [] e = absurd (let clash : false ≡ true = e in cc)
length-part f m (x ∷ ms) e = go (eqb m x) refl (length-part f m ms)
  where
    both : length (f x ++ flat_map f ms) ≡ length (f x) + length (flat_map f ms)
    both = length-append (f x) (flat_map f ms)

    go : (t : Bool) → eqb m x ≡ t → (among ms m ≡ true → length (f m) ≤ length (flat_map f ms)) → length (f m) ≤ length (f x ++ flat_map f ms)
    go true p rest = let same : length (f m) ≡ length (f x) = ap (λ (y : ℕ). length (f y)) (eqb-true m x p) in omega (arith, same, both)
    go false p rest = omega (arith, both, rest (rw p at e))

module _ (b : Board) (h : SoundDevices b) where
  longer : (o m : ℕ) → leads (below b) o m ≡ true → length (post b m) + 1 ≤ length (post b o)
  longer o m e =
      let whole : length (post b o) ≡ length (flat_map (post b) (below b o) ++ o ∷ []) = ap (λ (xs : List ℕ). length xs) (post-is b h o) in
      let both : length (flat_map (post b) (below b o) ++ o ∷ []) ≡ length (flat_map (post b) (below b o)) + 1 =
      length-append (flat_map (post b) (below b o)) (o ∷ []) in
      omega (arith, whole, both, length-part (post b) m (below b o) e)

  some : (o : ℕ) → 1 ≤ length (post b o)
  some o =
      let whole : length (post b o) ≡ length (flat_map (post b) (below b o) ++ o ∷ []) = ap (λ (xs : List ℕ). length xs) (post-is b h o) in
      let both : length (flat_map (post b) (below b o) ++ o ∷ []) ≡ length (flat_map (post b) (below b o)) + 1 =
      length-append (flat_map (post b) (below b o)) (o ∷ []) in
      omega (arith, whole, both)

  pub long : (slots : List ℕ) (q depth d : ℕ) → IsBusAt b h q depth → found_at b q slots ≡ Some d → length slots ≤ length (post b q)
  long [] q depth d w e = omega arith
  long (slot ∷ []) q depth d w e = some q
  long (slot ∷ next ∷ slots) q depth d w e = by_kid (kid_at b q slot) refl e (long (next ∷ slots))
    where
      Rest : Type 0
      Rest = (m deeper x : ℕ) → IsBusAt b h m deeper → found_at b m (next ∷ slots) ≡ Some x → length (next ∷ slots) ≤ length (post b m)

      by_bus : (p : ℕ) → IsKidAt b h q slot p → (o : Option ℕ) → first_bus b p ≡ o → option_and_then (λ m. found_at b m (next ∷ slots)) o ≡ Some d → Rest
          → length (slot ∷ next ∷ slots) ≤ length (post b q)
      by_bus p its None f at rest = absurd (let none : None ≡ Some d = at in cc)
      by_bus p its (Some m) f at rest =
          let bus : IsBusAt b h m (suc depth) = bus-is b h q depth slot p m w its f in
          omega
          (arith, rest m (suc depth) d bus at, longer p m (bus-below b h q slot p m its f), longer q p (kid-below b h q slot p its))

      by_kid : (o : Option ℕ) → kid_at b q slot ≡ o → option_and_then (λ p. option_and_then (λ m. found_at b m (next ∷ slots)) (first_bus b p)) o ≡ Some d
          → Rest → length (slot ∷ next ∷ slots) ≤ length (post b q)
      by_kid None f at rest = absurd (let none : None ≡ Some d = at in cc)
      by_kid (Some p) f at rest = by_bus p (kid-is b h q depth slot p w f) (first_bus b p) refl at rest
