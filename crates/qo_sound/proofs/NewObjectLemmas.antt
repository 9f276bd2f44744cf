-- A board with an object more after the others, which nothing names yet.
use Rattle.std.proofs.Common.{◌≡◌, refl, ap, ap₂, sym, subst, ◌∙◌, ℕ, ◌+◌, ◌<◌, ◌≤◌, Bool, true, false, cond, ◌==◌, List, [], ◌∷◌, ◌++◌, sum_by, Option, Some, None, is_some, option_map, arith}
use Rattle.qo_model.proofs.Common.{AllByRecursion, cons_option, option_map_or, option_or, type_name, TypeId, Board, Record, Slot, plain, child, strong, weak, alias, record_of, kind_of, is_live, among, leads, births, child_of, children_in, children_of, is_child, refs, refs_in, Rises, is_a, lasting, PassesTo}
use Rattle.qo_model.specs.declared.notes.Note.{Note}
use Rattle.std.proofs.lemmas.Bool.{eqb-true, eq-eqb}
use Rattle.std.proofs.lemmas.List.{map-append}
use Rattle.std.proofs.lemmas.List.Folds.{find-append}
use Rattle.std.proofs.lemmas.List.Sums.{sum_by-cons, sum_by-append}
use Rattle.qo_model.proofs.GraphLemmas.{births_at}
use Rattle.qo_model.proofs.StepLemmas.{found_at}
use Rattle.qo_sound.proofs.RecordLemmas.{all-append}
use Rattle.qo_values.proofs.ListLemmas.{all-imply}
use Rattle.qo_sound.proofs.SlotLemmas.{one_child}
use Rattle.qo_sound.proofs.FirmBoardLemmas.{FitsKind, Linked, HasNames, parents_in, parents_of, WellFormed, Leads-within}
use Rattle.qo_sound.proofs.NewSlotLemmas.{IsLone}
use Rattle.qo_sound.proofs.WorkLemmas.{HasOwn, InvariantBut}

-- the board with a record more, after other notes
abbrev pub grown : Board → Record → List Note → Board
grown b r notes = record b { records = b.records ++ r ∷ []; born = b.born + 1; notes = notes }

-- a new object: its birth comes next, its names differ, and its slots name no child and only what is there
pub record IsNew (b : Board) (r : Record) : Type 0 where
  pub birth : r.birth ≡ b.born + 1
  pub names : HasNames r
  pub lone : AllByRecursion (λ (s : List ℕ × Slot). IsLone b s.1) r.slots

rises-push : (m : ℕ) (ns : List ℕ) → Rises ns → AllByRecursion (λ n. n < m) ns → Rises (ns ++ m ∷ [])
rises-push m [] h k = (tt, tt)
rises-push m (n ∷ ns) h k = (all-append (λ x. n < x) ns (m ∷ []) h.0 (k.0, tt), rises-push m ns h.1 k.1)

-- where there are more objects, what names one that is there names one that is there
pub fits-more : (kinds wide : ℕ → Option TypeId) → ((x : ℕ) (k : TypeId) → kinds x ≡ Some k → wide x ≡ Some k) → (t : TypeId) (target : Option ℕ)
    → FitsKind kinds t target → FitsKind wide t target
fits-more kinds wide more t None h = tt
fits-more kinds wide more t (Some m) h = go (kinds m) refl h
  where
    go : (o : Option TypeId) → kinds m ≡ o → option_map_or (λ (k : TypeId). is_a k (type_name t)) o false ≡ true → FitsKind wide t (Some m)
    go None p q = absurd (let clash : false ≡ true = q in cc)
    go (Some k) p q = rw (more m k p) q

grows-linked : (kinds wide : ℕ → Option TypeId) → ((x : ℕ) (k : TypeId) → kinds x ≡ Some k → wide x ≡ Some k) → (s : Slot) → Linked kinds s → Linked wide s
grows-linked kinds wide more (plain v) h = tt
grows-linked kinds wide more (child m) h = go (kinds m) refl h
  where
    go : (o : Option TypeId) → kinds m ≡ o → is_some o ≡ true → is_some (wide m) ≡ true
    go None p q = cc
    go (Some k) p q = rw (more m k p) refl
grows-linked kinds wide more (strong t target) h = fits-more kinds wide more t target h
grows-linked kinds wide more (weak t target) h = fits-more kinds wide more t target h
grows-linked kinds wide more (alias m name) h = tt

pub children-none : (b : Board) (slots : List (List ℕ × Slot)) → AllByRecursion (λ (s : List ℕ × Slot). IsLone b s.1) slots → children_in slots ≡ []
children-none b [] h = refl
children-none b (s ∷ slots) h = ap₂ cons_option h.0.no_child (children-none b slots h.1)

parents-none : (b : Board) (x : ℕ) (slots : List (List ℕ × Slot)) → AllByRecursion (λ (s : List ℕ × Slot). IsLone b s.1) slots → sum_by (one_child x) slots ≡ 0
parents-none b x [] h = refl
parents-none b x (s ∷ slots) h =
    let none : one_child x s ≡ 0 = no-child s.1 h.0.no_child in
    omega (arith, none, parents-none b x slots h.1, sum_by-cons (one_child x) s slots)
  where
    no-child : (y : Slot) → child_of y ≡ None → cond {A = ℕ} (is_child x y) 1 0 ≡ 0
    no-child (plain v) e = refl
    no-child (child m) e = absurd (let clash : Some m ≡ None = e in cc)
    no-child (strong t target) e = refl
    no-child (weak t target) e = refl
    no-child (alias m name) e = refl

-- what is found on the grown board: the new object, or what was found before
module _ (b : Board) (r : Record) (notes : List Note) (firm : WellFormed b) (new : IsNew b r) where
  -- nothing had the new birth
  pub new-absent : record_of b (b.born + 1) ≡ None
  new-absent = none b.records firm.within
    where
      none : (rs : List Record) → AllByRecursion (λ n. n ≤ b.born) (births_at rs) → found_at (b.born + 1) rs ≡ None
      none [] h = refl
      none (x ∷ rs) h =
          let low : x.birth ≤ b.born = h.0 in
          let differs : (x.birth == b.born + 1) ≡ false = grind arith in
          rw differs (none rs h.1)

  grown-found : (x : ℕ) → record_of (grown b r notes) x ≡ option_or (record_of b x) (found_at x (r ∷ []))
  grown-found x = find-append (λ (y : Record). y.birth == x) b.records (r ∷ [])

  pub grown-old : (x : ℕ) (y : Record) → record_of b x ≡ Some y → record_of (grown b r notes) x ≡ Some y
  grown-old x y e = grown-found x ∙ ap (λ (o : Option Record). option_or o (found_at x (r ∷ []))) e

  pub grown-new : record_of (grown b r notes) (b.born + 1) ≡ Some r
  grown-new = grown-found (b.born + 1) ∙ ap (λ (o : Option Record). option_or o (found_at (b.born + 1) (r ∷ []))) new-absent
      ∙ rw (eq-eqb r.birth (b.born + 1) new.birth) refl

  grown-other : (x : ℕ) → record_of b x ≡ None → (b.born + 1 == x) ≡ false → record_of (grown b r notes) x ≡ None
  grown-other x e apart =
      let differs : (r.birth == x) ≡ false = ap (λ (k : ℕ). k == x) new.birth ∙ apart in
      grown-found x ∙ ap (λ (o : Option Record). option_or o (found_at x (r ∷ []))) e ∙ rw differs refl

  grown-kind : (x : ℕ) (k : TypeId) → kind_of b x ≡ Some k → kind_of (grown b r notes) x ≡ Some k
  grown-kind x k e = go (record_of b x) refl e
    where
      go : (o : Option Record) → record_of b x ≡ o → option_map (λ (y : Record). y.kind) o ≡ Some k → kind_of (grown b r notes) x ≡ Some k
      go None p q = absurd (let clash : None ≡ Some k = q in cc)
      go (Some y) p q = ap (option_map (λ (z : Record). z.kind)) (grown-old x y p) ∙ q

  -- no object has more children
  pub grown-leads : (x y : ℕ) → leads (children_of (grown b r notes)) x y ≡ true → leads (children_of b) x y ≡ true
  grown-leads x y e = go (record_of b x) refl (b.born + 1 == x) refl
    where
      in_slots : Option Record → Bool
      in_slots o = among (children_in (option_map_or (λ (z : Record). z.slots) o [])) y

      go : (o : Option Record) → record_of b x ≡ o → (t : Bool) → (b.born + 1 == x) ≡ t → leads (children_of b) x y ≡ true
      go (Some z) p t q = ap in_slots p ∙ sym (ap in_slots (grown-old x z p)) ∙ e
      go None p true q =
          let is : b.born + 1 ≡ x = eqb-true (b.born + 1) x q in
          let here : record_of (grown b r notes) x ≡ Some r = subst (λ (k : ℕ). record_of (grown b r notes) k ≡ Some r) is grown-new in
          let nothing : in_slots (Some r) ≡ false = rw (children-none b r.slots new.lone) refl in
          absurd (let clash : true ≡ false = sym e ∙ ap in_slots here ∙ nothing in cc)
      go None p false q = ap in_slots p ∙ sym (ap in_slots (grown-other x p q)) ∙ e

  pub grown-parents : (x : ℕ) → parents_of (grown b r notes) x ≡ parents_of b x
  grown-parents x = omega (arith, sum_by-append (parents_in x) b.records (r ∷ []), sum_by-cons (parents_in x) r [], parents-none b x r.slots new.lone)

  pub grown-firm : WellFormed (grown b r notes)
  grown-firm =
      record {
        rising = subst Rises (sym births_are) (rises-push (b.born + 1) (births b) firm.rising
            (all-imply (λ n. n ≤ b.born) (λ n. n < b.born + 1) (λ n h. omega (arith, h)) (births b) firm.within));
        within = subst (AllByRecursion (λ n. n ≤ b.born + 1)) (sym births_are) (all-append (λ n. n ≤ b.born + 1) (births b) ((b.born + 1) ∷ [])
            (all-imply (λ n. n ≤ b.born) (λ n. n ≤ b.born + 1) (λ n h. omega (arith, h)) (births b) firm.within) (omega arith, tt));
        begun = let low : 8 ≤ b.born = firm.begun in omega (arith, low);
        named = all-append HasNames b.records (r ∷ []) firm.named (new.names, tt);
        linked =
            all-append Ones b.records (r ∷ []) (all-imply (λ (x : Record). AllByRecursion (λ (s : List ℕ × Slot). Linked (kind_of b) s.1) x.slots) Ones
            (λ x h. all-imply (λ (s : List ℕ × Slot). Linked (kind_of b) s.1) (λ (s : List ℕ × Slot). Linked (kind_of (grown b r notes)) s.1)
            (λ s k. grows-linked (kind_of b) (kind_of (grown b r notes)) grown-kind s.1 k) x.slots h) b.records firm.linked) (
              all-imply (λ (s : List ℕ × Slot). IsLone b s.1) (λ (s : List ℕ × Slot). Linked (kind_of (grown b r notes)) s.1)
                  (λ s k. grows-linked (kind_of b) (kind_of (grown b r notes)) grown-kind s.1 k.linked) r.slots new.lone,
              tt,
            );
        one_parent = λ x. omega (arith, grown-parents x, firm.one_parent x);
        none_round = λ n l. firm.none_round n (Leads-within (children_of (grown b r notes)) (children_of b) grown-leads l);
      }
    where
      Ones : Record → Type 0
      Ones x = AllByRecursion (λ (s : List ℕ × Slot). Linked (kind_of (grown b r notes)) s.1) x.slots

      births_are : births (grown b r notes) ≡ births b ++ (b.born + 1) ∷ []
      births_are = map-append (λ (x : Record). x.birth) b.records (r ∷ []) ∙ ap (λ (k : ℕ). births b ++ k ∷ []) new.birth

  -- the new object alone has no references
  pub grown-near : InvariantBut None b → InvariantBut (Some (b.born + 1)) (grown b r notes)
  grown-near h =
      record {
        firm = grown-firm;
        aliases = all-append HasOwn b.records (r ∷ []) h.aliases (
          all-imply (λ (s : List ℕ × Slot). IsLone b s.1) (λ (s : List ℕ × Slot). PassesTo (lasting r) s.1) (λ s k. k.no_alias (lasting r)) r.slots new.lone,
          tt,
        );
        used = used;
      }
    where
      used : (m : ℕ) → is_live (grown b r notes) m ≡ true → refs (grown b r notes) m ≡ 0 → Some (b.born + 1) ≡ Some m
      used m there none = go (record_of b m) refl (b.born + 1 == m) refl
        where
          go : (o : Option Record) → record_of b m ≡ o → (t : Bool) → (b.born + 1 == m) ≡ t → Some (b.born + 1) ≡ Some m
          go (Some x) p t q =
              let nothing : refs b m ≡ 0 = omega (arith, none, sum_by-append (refs_in m) b.records (r ∷ [])) in
              absurd (let clash : None ≡ Some m = h.used m (ap is_some p) nothing in cc)
          go None p true q = ap Some (eqb-true (b.born + 1) m q)
          go None p false q = absurd (let clash : false ≡ true = sym (ap is_some (grown-other m p q)) ∙ there in cc)
