-- Laws of paths: parents make a tree, and paths go along it.
use Rattle.std.proofs.Common.{◌≡◌, refl, ap, sym, subst, ◌∙◌, ℕ, zero, suc, ◌<◌, Bool, true, false, List, [], ◌∷◌, ◌++◌, length, ◌==◌, eqb, Option, Some, None, find, option_map, is_some, arith}
use Rattle.qo_model.proofs.Common.{option_map_or, types, Board, Record, Slot, plain, child, strong, weak, alias, among, leads, IsTree, IsLocal, by_depth, opening_board, births, children_in, children_of, is_child, place_of, attached, attached_turn, path_down_to, path_turn, canonical, AllByRecursion, PassesTo, lasting, graph_of, Rises, SoundGraph, GraphFacts, PathsLaw, FrameLaw}
use Rattle.std.specs.Option.{option_and_then, option_to_list}
use Rattle.std.proofs.lemmas.Bool.{eqb-true, eq-eqb}
use Rattle.std.proofs.Math.Bool.{or-true}
use Rattle.qo_model.specs.Paths.{place_in, parent_of}
use Rattle.qo_model.proofs.DepthLemmas.{Leads-back, by_objects_is}
use Rattle.qo_model.proofs.GraphLemmas.{among-above, children_at, children_of-graph_of, births-graph_of, births_at}
use Rattle.qo_model.proofs.StepLemmas.{is_some-map}
use Rattle.qo_model.proofs.AmongLemmas.{among-one}

-- the place of n among records
abbrev pub place_at : List Record → ℕ → Option (ℕ × List ℕ)
place_at rs n = option_and_then (place_in n) (find (λ r. is_some (place_in n r)) rs)

-- a slot that is found for a child has it
found-child : (n : ℕ) (slots : List (List ℕ × Slot)) → is_some (find (λ (s : List ℕ × Slot). is_child n s.1) slots) ≡ true → among (children_in slots) n ≡ true
found-child n [] e = cc
found-child n ((name, plain v) ∷ slots) e = found-child n slots e
found-child n ((name, strong t target) ∷ slots) e = found-child n slots e
found-child n ((name, weak t target) ∷ slots) e = found-child n slots e
found-child n ((name, alias m property) ∷ slots) e = found-child n slots e
found-child n ((name, child m) ∷ slots) e = go (m == n) refl (found-child n slots)
  where
    go : (t : Bool) → (m == n) ≡ t → (is_some (find (λ (s : List ℕ × Slot). is_child n s.1) slots) ≡ true → among (children_in slots) n ≡ true)
        → among (m ∷ children_in slots) n ≡ true
    go true p rest = rw (eq-eqb n m (sym (eqb-true m n p))) refl
    go false p rest = rw (rest (rw p at e)) (or-true (eqb n m))

-- the place that an object gives begins with its birth
place_in-birth : (n : ℕ) (r : Record) (p : ℕ × List ℕ) → place_in n r ≡ Some p → r.birth ≡ p.0
place_in-birth n r p e = go (find (λ (s : List ℕ × Slot). is_child n s.1) r.slots) e
  where
    go : (o : Option (List ℕ × Slot)) → option_map (λ (s : List ℕ × Slot). (r.birth, s.0)) o ≡ Some p → r.birth ≡ p.0
    go None q = cc
    go (Some s) q = ap (λ (o : Option (ℕ × List ℕ)). option_map_or (λ (x : ℕ × List ℕ). x.0) o 0) q

-- an object that gives a place has the child
place_in-child : (n : ℕ) (r : Record) → is_some (place_in n r) ≡ true → among (children_in r.slots) n ≡ true
place_in-child n r e = found-child n r.slots (go (find (λ (s : List ℕ × Slot). is_child n s.1) r.slots) e)
  where
    go : (o : Option (List ℕ × Slot)) → is_some {T = ℕ × List ℕ} (option_map (λ (s : List ℕ × Slot). (r.birth, s.0)) o) ≡ true → is_some o ≡ true
    go None q = q
    go (Some s) q = refl

-- the parent of n is there, and has n among its children
record IsParent (rs : List Record) (n m : ℕ) : Type 0 where
  there : among (births_at rs) m ≡ true
  child_there : among (children_at rs m) n ≡ true

parent-at : (rs : List Record) → Rises (births_at rs) → (n : ℕ) (p : ℕ × List ℕ) → place_at rs n ≡ Some p → IsParent rs n p.0
parent-at [] h n p e = cc
parent-at (r ∷ rs) h n p e = go (is_some (place_in n r)) refl (parent-at rs h.1 n p)
  where
    go : (t : Bool) → is_some (place_in n r) ≡ t → (place_at rs n ≡ Some p → IsParent rs n p.0) → IsParent (r ∷ rs) n p.0
    go true q rest =
        let is : r.birth ≡ p.0 = place_in-birth n r p (rw q at e) in
        record {
          there = rw (eq-eqb p.0 r.birth (sym is)) refl;
          child_there = rw (eq-eqb r.birth p.0 is) (place_in-child n r q);
        }
    go false q rest =
        let h' : IsParent rs n p.0 = rest (rw q at e) in
        let above : r.birth < p.0 = among-above r.birth p.0 (births_at rs) h.0 h'.there in
        let differs : eqb r.birth p.0 ≡ false = grind arith in
        record { there = rw h'.there (or-true (eqb p.0 r.birth)); child_there = rw differs h'.child_there }

-- the parent of n, as a list
abbrev pub parents : Board → ℕ → List ℕ
parents b n = option_to_list (parent_of b n)

parent-of : (b : Board) → Rises (births b) → (n m : ℕ) → leads (parents b) n m ≡ true → IsParent b.records n m
parent-of b h n m e = go (place_of b n) refl e
  where
    go : (o : Option (ℕ × List ℕ)) → place_of b n ≡ o → among (option_to_list (option_map (λ (p : ℕ × List ℕ). p.0) o)) m ≡ true → IsParent b.records n m
    go None q s = cc
    go (Some p) q s =
        let parent : IsParent b.records n p.0 = parent-at b.records h n p q in
        let is : m ≡ p.0 = among-one m p.0 s in
        subst (IsParent b.records n) (sym is) parent

-- on a sound board parents make a tree
pub parents-tree : (b : Board) → SoundGraph b → IsTree (parents b) (births b)
parents-tree b sound =
    let rising : Rises (births b) = rw births-graph_of at sound.rising in
    record {
      none_round = λ n l.
          sound.none_round n (Leads-back (parents b) (children_of (graph_of b)) (λ k m e. rw children_of-graph_of (parent-of b rising k m e).child_there) l);
      lives = λ n m e. (parent-of b rising n m e).there;
    }

-- an object leads to the parent that its place gives
asks : (b : Board) (n : ℕ) (p : ℕ × List ℕ) → place_of b n ≡ Some p → leads (parents b) n p.0 ≡ true
asks b n p e = rw e (rw (eq-eqb p.0 p.0 refl) refl)

-- a turn of either kind asks for the answer of the parent alone
attached-local : (b : Board) → IsLocal (parents b) (attached_turn b)
attached-local b n f g same = go (n == 1) refl (place_of b n) refl
  where
    go : (t : Bool) → (n == 1) ≡ t → (o : Option (ℕ × List ℕ)) → place_of b n ≡ o → attached_turn b f n ≡ attached_turn b g n
    go true p o q = rw (p, attached_turn) refl
    go false p None q = rw (p, attached_turn, q) refl
    go false p (Some r) q = rw (p, attached_turn, q) (same r.0 (asks b n r q))

steps-local : (b : Board) → IsLocal (parents b) (path_turn b)
steps-local b n f g same = go (n == 1) refl (place_of b n) refl
  where
    go : (t : Bool) → (n == 1) ≡ t → (o : Option (ℕ × List ℕ)) → place_of b n ≡ o → path_turn b f n ≡ path_turn b g n
    go true p o q = rw (p, path_turn) refl
    go false p None q = rw (p, path_turn, q) refl
    go false p (Some r) q = rw (p, path_turn, q) (ap (option_map (λ (above : List ℕ). above ++ 47 ∷ r.1)) (same r.0 (asks b n r q)))

-- to any depth the steps are there exactly where parents lead to birth 1
abbrev SameTo : Board → ℕ → ℕ → Type 0
SameTo b depth n = is_some (by_depth (path_turn b) (λ _. None) depth n) ≡ by_depth (attached_turn b) (λ _. false) depth n

attached-steps : (b : Board) (depth n : ℕ) → SameTo b depth n
attached-steps b zero n = refl
attached-steps b (suc depth) n = go (n == 1) refl (place_of b n) refl (attached-steps b depth)
  where
    go : (t : Bool) → (n == 1) ≡ t → (o : Option (ℕ × List ℕ)) → place_of b n ≡ o → ((k : ℕ) → SameTo b depth k) → SameTo b (suc depth) n
    go true p o q above = rw (p, path_turn, attached_turn) refl
    go false p None q above = rw (p, path_turn, attached_turn, q) refl
    go false p (Some r) q above =
        rw (p, path_turn, attached_turn, q) (is_some-map (λ (way : List ℕ). way ++ 47 ∷ r.1) (by_depth (path_turn b) (λ _. None) depth r.0) ∙ above r.0)

-- birth 1 has a path and is attached; every other object has a path where it has steps
attached-canonical : (b : Board) (n : ℕ) → is_some (canonical b n) ≡ attached b n
unfolding path_down_to attached
attached-canonical b n = go (n == 1) refl
  where
    go : (t : Bool) → (n == 1) ≡ t → is_some (canonical b n) ≡ attached b n
    go true p = rw (p, attached_turn) refl
    go false p = rw (p, canonical) (attached-steps b (suc (length (births b))) n)

pub paths_lem : PathsLaw
unfolding types opening_board path_down_to attached
paths_lem =
    record {
      opening = refl;
      back = refl;
      attached_only = attached-canonical;
      attached_by_parent = λ b sound n. by_objects_is (parents b) (attached_turn b) (λ _. false) (births b) (attached-local b) (parents-tree b sound) n;
      steps_by_parent = λ b sound n. by_objects_is (parents b) (path_turn b) (λ _. None) (births b) (steps-local b) (parents-tree b sound) n;
    }

pub frame_lem : FrameLaw
frame_lem =
    record {
      graph = λ b c e h. subst GraphFacts e h;
      aliases = λ b c e h.
          subst (λ (records : List Record). AllByRecursion (λ (r : Record). AllByRecursion (λ (s : List ℕ × Slot). PassesTo (lasting r) s.1) r.slots) records) e
          h;
      events = λ b c e h. record { none = sym e ∙ h.none };
    }
