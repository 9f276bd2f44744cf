-- The law: what goes over objects to a bounded depth is what its step says of itself.
use Rattle.std.proofs.Common.{◌≡◌, ap, sym, ◌∙◌, ℕ, true, false, ◌==◌, List, [], ◌∷◌, ◌++◌, Option, Some, None}
use Rattle.qo_model.proofs.Common.{option_map_or, Board, clocks_below, fed_by, fed_turn, is_source, source_of, among, IsLocal, leads, births, below, post, post_turn}
use Rattle.std.specs.List.{flat_map}
use Rattle.std.proofs.lemmas.Bool.{and_parts, eqb-true}
use Rattle.qo_model.proofs.DepthLemmas.{by_objects_is}
use Rattle.qo_sound_devices.specs.SoundDevices.{SoundDevices}
use Rattle.qo_sound_clocks.specs.SoundClocks.{SoundClocks}
use Rattle.qo_sound_phases.proofs.ForestLemmas.{IsForest}
use Rattle.qo_sound_phases.proofs.ListLemmas.{among-filter}
use Rattle.qo_sound_phases.proofs.ResetTreeLemmas.{forest, placed}
use Rattle.qo_plain.specs.Unrolled.{UnrolledLaw}
use Rattle.qo_plain.proofs.BusLemmas.{depth-unrolled, going-unrolled}
use Rattle.qo_plain.proofs.ListLemmas.{flat-same, tree-rises}
use Rattle.qo_plain.proofs.UnrealizeLemmas.{unrealize-unrolled}

-- what a reset goes over

post-local : (b : Board) → IsLocal (below b) (post_turn b)
post-local b n f g same = ap (λ (xs : List ℕ). xs ++ n ∷ []) (flat-same f g (below b n) same)

post-unrolled : (b : Board) → SoundDevices b → (o : ℕ) → post b o ≡ flat_map (post b) (below b o) ++ o ∷ []
unfolding post
post-unrolled b h o =
    let f : IsForest (below b) (births b) = forest b (placed b h) in
    by_objects_is (below b) (post_turn b) (λ x. []) (births b) (post-local b) (tree-rises (below b) (births b) f.rank f.rises f.there) o

-- the clocks below a clock

clocks-local : (b : Board) → IsLocal (fed_by b) (fed_turn b)
clocks-local b n f g same = flat-same (λ x. x ∷ f x) (λ x. x ∷ g x) (fed_by b n) (λ x i. ap (λ (xs : List ℕ). x ∷ xs) (same x i))

goes-by : (b : Board) (c n : ℕ) → is_source b c n ≡ true → source_of b n ≡ Some c
goes-by b c n e = go (source_of b n) e
  where
    go : (o : Option ℕ) → option_map_or (λ s. s == c) o false ≡ true → o ≡ Some c
    go None q = absurd (let clash : false ≡ true = q in cc)
    go (Some s) q = ap Some (eqb-true s c q)

clocks-unrolled : (b : Board) → SoundClocks b → (c : ℕ) → clocks_below b c ≡ flat_map (λ n. n ∷ clocks_below b n) (fed_by b c)
unfolding clocks_below
clocks-unrolled b h c =
    by_objects_is (fed_by b) (fed_turn b) (λ x. []) (births b) (clocks-local b)
    (tree-rises (fed_by b) (births b) (λ x. x) (λ p m e. h.older m p (goes-by b p m (parts p m e).1)) (λ p m e. (parts p m e).0)) c
  where
    parts : (p m : ℕ) → leads (fed_by b) p m ≡ true → (among (births b) m ≡ true) × (is_source b p m ≡ true)
    parts p m e = and_parts (among (births b) m) (is_source b p m) (sym (among-filter (is_source b p) m (births b)) ∙ e)

pub unrolled_lem : UnrolledLaw
unrolled_lem =
    record {
      post = post-unrolled;
      clocks = clocks-unrolled;
      depth = depth-unrolled;
      going = going-unrolled;
      unrealized = unrealize-unrolled;
    }
