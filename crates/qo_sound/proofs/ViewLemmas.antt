-- A sound tree, as facts of the board itself, and back.
use Rattle.std.proofs.Common.{◌≡◌, ◌≢◌, refl, sym, subst, ◌∙◌, ℕ, zero, suc, ◌<◌, ◌≤◌, Bool, true, false, ◌==◌, eqb, List, [], ◌∷◌, map, sum_by, count_by, Option, Some, None, is_some, option_map, arith}
use Rattle.qo_model.proofs.Common.{AllByRecursion, IsDistinct, cons_option, bytes_eq, TypeId, Board, Record, Slot, plain, child, strong, weak, alias, kind_of, is_live, among, Leads, births, child_of, children_in, children_of, refs, graph_of, without_value, without_values, NamesLive, Rises, SoundGraph, is_clock_slot, is_open, lasting, PassesTo}
use Rattle.std.proofs.lemmas.Bool.{eqb-true, eq-eqb}
use Rattle.std.proofs.lemmas.List.Sums.{sum_by-cons}
use Rattle.std.proofs.Math.Path.{fun_ext}
use Rattle.qo_model.proofs.CycleLemmas.{refs-graph_of}
use Rattle.qo_model.proofs.AmongLemmas.{among-all}
use Rattle.qo_model.proofs.FinalNotesLemmas.{kind-live}
use Rattle.qo_model.proofs.GraphLemmas.{births-graph_of, child_of-without_value, children_of-graph_of}
use Rattle.qo_model.proofs.StepLemmas.{found_at, live-among}
use Rattle.qo_sound.proofs.SlotLemmas.{clocks_in}
use Rattle.qo_sound.specs.TreeKept.{SoundTree}
use Rattle.qo_sound.proofs.RecordLemmas.{all-both, all-map, all-unmap}
use Rattle.qo_sound.proofs.SlotLemmas.{names-each, one_child, one_child-same, sum-each_same}
use Rattle.qo_sound.proofs.FirmBoardLemmas.{Linked, AllLinked, HasNames, parents_in, parents_of, WellFormed}
use Rattle.qo_sound.proofs.CountLemmas.{parents-from_distinct, distinct-from_parents}
use Rattle.qo_sound.proofs.WorkLemmas.{HasOwn, InvariantBut}

-- a board at rest: each object has references, and birth 1 alone is pinned
pub record PinsRootAlone (b : Board) : Type 0 where
  pub used : InvariantBut None b
  pub pinned : b.pins ≡ 1 ∷ []

-- without plain values each object has its type
kind-graph_of : (b : Board) (x : ℕ) → kind_of (graph_of b) x ≡ kind_of b x
unfolding graph_of
kind-graph_of b x = go b.records
  where
    go : (rs : List Record) → option_map (λ (r : Record). r.kind) (found_at x (map without_values rs)) ≡ option_map (λ (r : Record). r.kind) (found_at x rs)
    go [] = refl
    go (r ∷ rs) = choose (r.birth == x) refl (go rs)
      where
        choose : (t : Bool) → (r.birth == x) ≡ t
            → option_map (λ (y : Record). y.kind) (found_at x (map without_values rs)) ≡ option_map (λ (y : Record). y.kind) (found_at x rs)
            → option_map (λ (y : Record). y.kind) (found_at x (map without_values (r ∷ rs))) ≡ option_map (λ (y : Record). y.kind) (found_at x (r ∷ rs))
        choose true p rest = rw p refl
        choose false p rest = rw p rest

-- and sums over slots stay that see no plain value
sum-graph_of : (f : List ℕ × Slot → ℕ) → ((s : List ℕ × Slot) → f (s.0, without_value s.1) ≡ f s) → (rs : List Record)
    → sum_by (λ (r : Record). sum_by f r.slots) (map without_values rs) ≡ sum_by (λ (r : Record). sum_by f r.slots) rs
sum-graph_of f same [] = refl
sum-graph_of f same (r ∷ rs) = omega (
  arith,
  sum-graph_of f same rs,
  sum-each_same f without_value same r.slots,
  sum_by-cons (λ (x : Record). sum_by f x.slots) (without_values r) (map without_values rs),
  sum_by-cons (λ (x : Record). sum_by f x.slots) r rs,
)

parents-graph_of : (b : Board) (x : ℕ) → sum_by (parents_in x) (map without_values b.records) ≡ parents_of b x
parents-graph_of b x = sum-graph_of (one_child x) (one_child-same without_value child_of-without_value x) b.records

-- what a slot names, by types
names-linked : (g : Board) (s : Slot) → NamesLive g (without_value s) → Linked (kind_of g) s
names-linked g (plain v) h = tt
names-linked g (child n) h = kind-live g n ∙ h
names-linked g (strong t None) h = tt
names-linked g (strong t (Some n)) h = h
names-linked g (weak t None) h = tt
names-linked g (weak t (Some n)) h = h
names-linked g (alias n name) h = tt

-- a child is there
child-linked : (kinds : ℕ → Option TypeId) (n : ℕ) (slots : List (List ℕ × Slot)) → AllByRecursion (λ (s : List ℕ × Slot). Linked kinds s.1) slots
    → among (children_in slots) n ≡ true → is_some (kinds n) ≡ true
child-linked kinds n [] h e = cc
child-linked kinds n ((name, plain v) ∷ slots) h e = child-linked kinds n slots h.1 e
child-linked kinds n ((name, child m) ∷ slots) h e = go (eqb n m) refl (child-linked kinds n slots h.1)
  where
    go : (t : Bool) → eqb n m ≡ t → (among (children_in slots) n ≡ true → is_some (kinds n) ≡ true) → is_some (kinds n) ≡ true
    go true p rest = subst (λ (x : ℕ). is_some (kinds x) ≡ true) (sym (eqb-true n m p)) h.0
    go false p rest = rest (rw p at e)
child-linked kinds n ((name, strong t target) ∷ slots) h e = child-linked kinds n slots h.1 e
child-linked kinds n ((name, weak t target) ∷ slots) h e = child-linked kinds n slots h.1 e
child-linked kinds n ((name, alias m property) ∷ slots) h e = child-linked kinds n slots h.1 e

clocks-child : (slots : List (List ℕ × Slot)) (n : ℕ) → among (clocks_in slots) n ≡ true → among (children_in slots) n ≡ true
clocks-child [] n e = e
clocks-child (s ∷ slots) n e = go (is_clock_slot s) refl (clocks-child slots n)
  where
    wider : (o : Option ℕ) (ns ms : List ℕ) → (among ns n ≡ true → among ms n ≡ true) → among (cons_option o ns) n ≡ true → among (cons_option o ms) n ≡ true
    wider None ns ms more k = more k
    wider (Some m) ns ms more k = choose (eqb n m) refl
      where
        choose : (t : Bool) → eqb n m ≡ t → among (m ∷ ms) n ≡ true
        choose true p = rw p refl
        choose false p = rw p (more (rw p at k))

    skip : (o : Option ℕ) (ms : List ℕ) → among ms n ≡ true → among (cons_option o ms) n ≡ true
    skip None ms k = k
    skip (Some m) ms k = choose (eqb n m) refl
      where
        choose : (t : Bool) → eqb n m ≡ t → among (m ∷ ms) n ≡ true
        choose true p = rw p refl
        choose false p = rw p k

    go : (t : Bool) → is_clock_slot s ≡ t → (among (clocks_in slots) n ≡ true → among (children_in slots) n ≡ true) → among (children_in (s ∷ slots)) n ≡ true
    go true p rest = wider (child_of s.1) (clocks_in slots) (children_in slots) rest (rw p at e)
    go false p rest = skip (child_of s.1) (children_in slots) (rest (rw p at e))

lasting-child : (r : Record) (n : ℕ) → among (lasting r) n ≡ true → among (children_in r.slots) n ≡ true
lasting-child r n e = go (is_open r.birth) refl
  where
    go : (t : Bool) → is_open r.birth ≡ t → among (children_in r.slots) n ≡ true
    go true p = absurd (let clash : false ≡ true = rw p at e in cc)
    go false p = clocks-child r.slots n (rw p at e)

linked-names : (g : Board) (r : Record) → AllByRecursion (λ (s : List ℕ × Slot). Linked (kind_of g) s.1) r.slots → (s : Slot) → Linked (kind_of g) s
    → PassesTo (lasting r) s → NamesLive g (without_value s)
linked-names g r all (plain v) h own = tt
linked-names g r all (child n) h own = sym (kind-live g n) ∙ h
linked-names g r all (strong t None) h own = tt
linked-names g r all (strong t (Some n)) h own = h
linked-names g r all (weak t None) h own = tt
linked-names g r all (weak t (Some n)) h own = h
linked-names g r all (alias n name) h own = sym (kind-live g n) ∙ child-linked (kind_of g) n r.slots all (lasting-child r n own)

-- a fact of each number that is among them
all-from : (P : ℕ → Type 0) (ns : List ℕ) → ((n : ℕ) → among ns n ≡ true → P n) → AllByRecursion P ns
all-from P [] h = tt
all-from P (n ∷ ns) h = (h n (rw (eq-eqb n n refl) refl), all-from P ns (λ m e. h m (later m e)))
  where
    later : (m : ℕ) → among ns m ≡ true → among (n ∷ ns) m ≡ true
    later m e = go (eqb m n) refl
      where
        go : (t : Bool) → eqb m n ≡ t → among (n ∷ ns) m ≡ true
        go true p = rw p refl
        go false p = rw p e

same-children : (b : Board) → children_of (graph_of b) ≡ children_of b
same-children b = fun_ext (children_of-graph_of b)

same-kinds : (b : Board) → kind_of (graph_of b) ≡ kind_of b
same-kinds b = fun_ext (kind-graph_of b)

firm-from_sound : (b : Board) → SoundGraph b → WellFormed b
unfolding graph_of
firm-from_sound b h =
    record {
      rising = subst Rises (births-graph_of b) h.rising;
      within = subst (AllByRecursion (λ n. n ≤ b.born)) (births-graph_of b) h.within;
      begun = h.begun;
      named = all-unmap HasNames HasNames without_values (λ r k. subst (IsDistinct bytes_eq) (names-each without_value r.slots) k) b.records h.named;
      linked =
          subst (λ (kinds : ℕ → Option TypeId). AllLinked kinds b.records) (same-kinds b)
          (all-unmap (λ (r : Record). AllByRecursion (λ (s : List ℕ × Slot). Linked (kind_of (graph_of b)) s.1) r.slots)
          (λ (r : Record). AllByRecursion (λ (s : List ℕ × Slot). NamesLive (graph_of b) s.1) r.slots) without_values
          (λ r k. all-unmap (λ (s : List ℕ × Slot). Linked (kind_of (graph_of b)) s.1) (λ (s : List ℕ × Slot). NamesLive (graph_of b) s.1)
          (λ (s : List ℕ × Slot). (s.0, without_value s.1)) (λ s l. names-linked (graph_of b) s.1 l) r.slots k) b.records h.live);
      one_parent = λ x. omega (arith, parents-graph_of b x, parents-from_distinct (map without_values b.records) h.one_parent x);
      none_round = λ n l. h.none_round n (subst (λ (next : ℕ → List ℕ). Leads next n n) (sym (same-children b)) l);
    }

-- a sound tree is at rest
pub rest-from_sound : (b : Board) → SoundTree b → PinsRootAlone b
unfolding graph_of
rest-from_sound b t = record { used = record { firm = firm-from_sound b t.0; aliases = t.1; used = used }; pinned = pinned }
  where
    pinned : b.pins ≡ 1 ∷ []
    pinned = t.0.pinned

    others : (m : ℕ) → is_live b m ≡ true → m ≢ 1 → 0 < refs b m
    others m there apart = omega (
      arith,
      refs-graph_of b m,
      among-all (λ n. n ≢ 1 → 0 < refs (graph_of b) n) (births (graph_of b)) t.0.referred m (rw (births-graph_of b) (sym (live-among b m) ∙ there)) apart,
    )

    used : (m : ℕ) → is_live b m ≡ true → refs b m ≡ 0 → None ≡ Some m
    used m there none = go (m == 1) refl
      where
        go : (u : Bool) → (m == 1) ≡ u → None ≡ Some m
        go true p =
            let pins : count_by (λ (k : ℕ). k == m) b.pins ≡ 1 = rw (pinned, eqb-true m 1 p) refl in
            absurd (let clash : 0 < 0 = omega (arith, pins, none) in omega arith)
        go false p =
            let apart : m ≢ 1 = λ e. absurd (let clash : true ≡ false = sym (eq-eqb m 1 e) ∙ p in cc) in
            absurd (let some : 0 < refs b m = others m there apart in omega (arith, some, none))

-- and a board at rest has a sound tree
pub sound-from_rest : (b : Board) → PinsRootAlone b → SoundTree b
unfolding graph_of
sound-from_rest b h = (graph, h.used.aliases)
  where
    referred : (n : ℕ) → among (births (graph_of b)) n ≡ true → n ≢ 1 → 0 < refs (graph_of b) n
    referred n e apart = go (refs b n) refl
      where
        there : is_live b n ≡ true
        there = live-among b n ∙ rw (births-graph_of b) at e

        go : (k : ℕ) → refs b n ≡ k → 0 < refs (graph_of b) n
        go zero p = absurd (let clash : None ≡ Some n = h.used.used n there p in cc)
        go (suc k) p = omega (arith, p, refs-graph_of b n)

    slots_live : (r : Record) → AllByRecursion (λ (s : List ℕ × Slot). Linked (kind_of (graph_of b)) s.1) r.slots → HasOwn r
        → AllByRecursion (λ (s : List ℕ × Slot). NamesLive (graph_of b) s.1) (without_values r).slots
    slots_live r all own =
        all-map (λ (s : List ℕ × Slot). Linked (kind_of (graph_of b)) s.1 × PassesTo (lasting r) s.1) (λ (s : List ℕ × Slot). NamesLive (graph_of b) s.1)
        (λ (s : List ℕ × Slot). (s.0, without_value s.1)) (λ s k. linked-names (graph_of b) r all s.1 k.0 k.1) r.slots
        (all-both (λ (s : List ℕ × Slot). Linked (kind_of (graph_of b)) s.1) (λ (s : List ℕ × Slot). PassesTo (lasting r) s.1) r.slots all own)

    graph : SoundGraph b
    graph =
        record {
          rising = subst Rises (sym (births-graph_of b)) h.used.firm.rising;
          within = subst (AllByRecursion (λ n. n ≤ b.born)) (sym (births-graph_of b)) h.used.firm.within;
          begun = h.used.firm.begun;
          named = all-map HasNames HasNames without_values (λ r k. subst (IsDistinct bytes_eq) (sym (names-each without_value r.slots)) k) b.records
              h.used.firm.named;
          live =
              all-map (λ (r : Record). AllByRecursion (λ (s : List ℕ × Slot). Linked (kind_of (graph_of b)) s.1) r.slots × HasOwn r)
              (λ (r : Record). AllByRecursion (λ (s : List ℕ × Slot). NamesLive (graph_of b) s.1) r.slots) without_values (λ r k. slots_live r k.0 k.1)
              b.records (all-both (λ (r : Record). AllByRecursion (λ (s : List ℕ × Slot). Linked (kind_of (graph_of b)) s.1) r.slots) HasOwn b.records
              (subst (λ (kinds : ℕ → Option TypeId). AllLinked kinds b.records) (sym (same-kinds b)) h.used.firm.linked) h.used.aliases);
          one_parent = distinct-from_parents (map without_values b.records) (λ x. omega (arith, parents-graph_of b x, h.used.firm.one_parent x));
          none_round = λ n l. h.used.firm.none_round n (subst (λ (next : ℕ → List ℕ). Leads next n n) (same-children b) l);
          pinned = h.pinned;
          referred = all-from (λ n. n ≢ 1 → 0 < refs (graph_of b) n) (births (graph_of b)) referred;
        }
