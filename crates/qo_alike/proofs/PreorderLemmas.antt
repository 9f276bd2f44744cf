-- The objects of a board in order, each before those below it.
use Rattle.std.proofs.Common.{◌≡◌, refl, ap, sym, subst, ◌∙◌, ℕ, true, false, ◌==◌, eqb, List, [], ◌∷◌, ◌++◌, map, Some}
use Rattle.qo_model.proofs.Common.{AllByRecursion, TypeId, Board, kind_of, slots_at, among, births, by_objects, children_of, IsLocal, IsTree}
use Rattle.std.specs.List.{flat_map}
use Rattle.std.proofs.lemmas.Bool.{eqb-true, eq-eqb}
use Rattle.std.proofs.lemmas.List.{map-append}
use Rattle.std.proofs.Math.Bool.{or-true}
use Rattle.qo_model.proofs.DepthLemmas.{by_objects_is}
use Rattle.qo_model.proofs.StepLemmas.{live-among}
use Rattle.qo_save.specs.Like.{pre_turn, Sight, sight}
use Rattle.qo_sound.proofs.TestLemmas.{clash-back, decide}
use Rattle.qo_sound_devices.specs.SoundPlaces.{child_entries, listed}
use Rattle.qo_sound_devices.proofs.PlacesLemmas.{child-live}
use Rattle.qo_ways.specs.Ways.{IsInOrder}
use Rattle.qo_good.specs.Good.{OneOf}
use Rattle.qo_good.proofs.ItemLemmas.{births_in}
use Rattle.qo_good.proofs.PartLemmas.{inner, is_shelf, IsInner, parts_of}
use Rattle.qo_good.proofs.PlaceLemmas.{entries-children, firm}

flat-same : {X : Type 0} (f g : ℕ → List X) (xs : List ℕ) → ((m : ℕ) → among xs m ≡ true → f m ≡ g m) → flat_map f xs ≡ flat_map g xs
flat-same f g [] h = refl
flat-same {X = X} f g (x ∷ xs) h =
    let own : eqb x x ≡ true = eq-eqb x x refl in
    let here : f x ≡ g x = h x (rw own refl) in
    ap (λ (ys : List X). ys ++ flat_map f xs) here ∙ ap (λ (ys : List X). g x ++ ys) (flat-same f g xs (λ m e. h m (rw e (or-true (eqb m x)))))

map-flat : {X Y : Type 0} (f : X → Y) (g : ℕ → List X) (xs : List ℕ) → map f (flat_map g xs) ≡ flat_map (λ (x : ℕ). map f (g x)) xs
map-flat f g [] = refl
map-flat {Y = Y} f g (x ∷ xs) = map-append f (g x) (flat_map g xs) ∙ ap (λ (ys : List Y). map f (g x) ++ ys) (map-flat f g xs)

among-listed : (m : ℕ) (es : List (List ℕ × ℕ)) → among (births_in es) m ≡ true → listed m es ≡ true
among-listed m [] e = clash-back e
among-listed m (x ∷ es) e =
    decide (eqb m x.1) (λ q. let own : (x.1 == m) ≡ true = eq-eqb x.1 m (sym (eqb-true m x.1 q)) in rw own refl)
    (λ q. rw (among-listed m es (rw q at e)) (or-true (x.1 == m)))

module _ (b : Board) (h : IsInOrder b) where
  local : IsLocal (children_of b) (pre_turn b)
  local n f g same = ap (λ (xs : List ℕ). n ∷ xs) (flat-same f g (children_of b n) same)

  tree : IsTree (children_of b) (births b)
  tree =
      record {
        none_round = (firm b h).none_round;
        lives = λ n m e.
            sym (live-among b m)
            ∙ child-live b (firm b h) n m
            (among-listed m (child_entries b n) (ap (λ (xs : List ℕ). among xs m) (entries-children (slots_at b n)) ∙ e));
      }

  abbrev pub pre : ℕ → List ℕ
  pre = by_objects (pre_turn b) (λ _. []) (births b)

  -- what shows of an object and of those below it
  abbrev pub look : ℕ → List Sight
  look n = map (sight b) (by_objects (pre_turn b) (λ _. []) (births b) n)

  pub look-is : (n : ℕ) → look n ≡ sight b n ∷ flat_map look (children_of b n)
  look-is n =
      ap (map (sight b)) (by_objects_is (children_of b) (pre_turn b) (λ _. []) (births b) local tree n)
      ∙ ap (λ (xs : List Sight). sight b n ∷ xs) (map-flat (sight b) pre (children_of b n))

  pub look-by : (n : ℕ) → look n ≡ sight b n ∷ flat_map look (births_in (child_entries b n))
  look-by n = look-is n ∙ ap (λ (xs : List ℕ). sight b n ∷ flat_map look xs) (sym (entries-children (slots_at b n)))

  -- one without children
  pub look-leaf : (n : ℕ) (t : TypeId) → kind_of b n ≡ Some t → is_shelf t ≡ false → parts_of t ≡ [] → look n ≡ sight b n ∷ []
  look-leaf n t kind shelf none =
      look-by n
      ∙ ap (λ (es : List (List ℕ × ℕ)). sight b n ∷ flat_map look (births_in es)) (no-entries (child_entries b n) (inner b h n t kind shelf))
    where
      no-entries : (es : List (List ℕ × ℕ)) → AllByRecursion (IsInner b t) es → es ≡ []
      no-entries [] all = refl
      no-entries (e ∷ es) all =
          absurd (subst (OneOf (λ (f : List ℕ × TypeId). (f.0 ≡ e.0) × (kind_of b e.1 ≡ Some f.1))) none all.0)
