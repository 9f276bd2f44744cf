-- What a release leaves to an object to which nothing refers: it is there, and its slots before a place hold nothing.
use Rattle.std.proofs.Common.{◌≡◌, refl, ap, sym, ◌∙◌, ℕ, zero, suc, ◌<◌, Bool, true, false, cond, ◌==◌, List, [], ◌∷◌, map, slice_get, count_by, Option, Some, None, is_some, option_map, arith}
use Rattle.std.specs.List.{AllByRecursion}
use Rattle.std.specs.Option.{option_map_or}
use Rattle.std.proofs.lemmas.Bool.{eqb-true}
use Rattle.std.proofs.lemmas.Option.{same_Some}
use Rattle.std.proofs.lemmas.List.Sums.{sum_by-cons}
use Rattle.qo_model.proofs.AttemptLemmas.{drop-other, drop-own}
use Rattle.qo_model.specs.Board.{Board, Record, Slot, plain, child, strong, weak, alias, record_of, is_live, slots_at, slot_at, referent}
use Rattle.qo_model.specs.References.{refs}
use Rattle.qo_model.specs.Release.{emptied, without_hold, drop_slot, next_index, forgotten_in, forgotten, finish, let_go}
use Rattle.qo_model.specs.ReleaseInduction.{KeepsRelease}
use Rattle.qo_model.proofs.EditLemmas.{held-forgotten}
use Rattle.qo_model.proofs.StepLemmas.{drop-live, drop-refs, finish-record, finish-live, finish-refs, unheld-apart}
use Rattle.qo_model.proofs.ReleaseInductionLemmas.{after_keeps}

-- what stands in a slot at a place
abbrev pub at_place : List (List ℕ × Slot) → ℕ → Option Slot
at_place slots i = option_map (λ (s : List ℕ × Slot). s.1) (slice_get slots i)

-- the slots before a place hold nothing
abbrev pub IsBareTo : List (List ℕ × Slot) → ℕ → Type 0
IsBareTo slots i = (j : ℕ) → j < i → (s : Slot) → at_place slots j ≡ Some s → referent s ≡ None

-- an object is there, nothing refers to it, and its slots before a place hold nothing
pub record Stays (x i : ℕ) (b : Board) : Type 0 where
  pub live : is_live b x ≡ true
  pub free : refs b x ≡ 0
  pub bare : IsBareTo (slots_at b x) i

-- slots after an end

module _ (n : ℕ) where
  abbrev forgotten_slots : List (List ℕ × Slot) → List (List ℕ × Slot)
  forgotten_slots slots = map (λ (s : List ℕ × Slot). (s.0, forgotten_in n s.1)) slots

  at-forgotten : (slots : List (List ℕ × Slot)) (j : ℕ) → at_place (forgotten_slots slots) j ≡ option_map (forgotten_in n) (at_place slots j)
  at-forgotten [] j = refl
  at-forgotten (s ∷ slots) zero = refl
  at-forgotten (s ∷ slots) (suc j) = at-forgotten slots j

  finish-slots : (b : Board) (x : ℕ) → (x == n) ≡ false → slots_at (finish b n) x ≡ forgotten_slots (slots_at b x)
  finish-slots b x apart = ap (λ (o : Option Record). option_map_or (λ (r : Record). r.slots) o []) (finish-record b n x apart) ∙ go (record_of b x)
    where
      go : (o : Option Record)
          → option_map_or (λ (r : Record). r.slots) (option_map (forgotten n) o) [] ≡ forgotten_slots (option_map_or (λ (r : Record). r.slots) o [])
      go None = refl
      go (Some r) = refl

  bare-forgotten : (slots : List (List ℕ × Slot)) (i : ℕ) → IsBareTo slots i → IsBareTo (forgotten_slots slots) i
  bare-forgotten slots i bare j below s e = go (at_place slots j) refl
    where
      go : (o : Option Slot) → at_place slots j ≡ o → referent s ≡ None
      go None p =
          let none : None ≡ Some s = ap (option_map (forgotten_in n)) (sym p) ∙ sym (at-forgotten slots j) ∙ e in
          absurd (let clash = none in cc)
      go (Some t) p =
          let same : forgotten_in n t ≡ s = same_Some (forgotten_in n t) s (ap (option_map (forgotten_in n)) (sym p) ∙ sym (at-forgotten slots j) ∙ e) in
          ap referent (sym same) ∙ held-forgotten n t ∙ bare j below t p

-- what is left of a slot holds nothing
left-bare : (s left : Slot) → emptied s ≡ Some left → referent left ≡ None
left-bare (plain v) left e = ap referent (sym (same_Some (plain v) left e))
left-bare (child m) left e = absurd (let clash : None ≡ Some left = e in cc)
left-bare (strong t target) left e = ap referent (sym (same_Some (strong t None) left e))
left-bare (weak t target) left e = ap referent (sym (same_Some (weak t None) left e))
left-bare (alias m property) left e = ap referent (sym (same_Some (alias m property) left e))

-- the slots before a place stay, and what is left at the place holds nothing
bare-before : (slots : List (List ℕ × Slot)) (i : ℕ) → IsBareTo slots i → IsBareTo (without_hold i slots) i
bare-before [] i bare j below s e = cc
bare-before (t ∷ slots) zero bare j below s e = absurd (omega arith)
bare-before (t ∷ slots) (suc i) bare zero below s e = bare zero below s e
bare-before (t ∷ slots) (suc i) bare (suc j) below s e = bare-before slots i (λ k less. bare (suc k) (omega arith)) j (omega arith) s e

bare-here : (slots : List (List ℕ × Slot)) (i : ℕ) (s left : Slot) → at_place slots i ≡ Some s → emptied s ≡ Some left
    → at_place (without_hold i slots) i ≡ Some left
bare-here [] i s left e q = cc
bare-here (t ∷ slots) zero s left e q =
    let same : t.1 ≡ s = same_Some t.1 s e in
    let here : emptied t.1 ≡ Some left = ap emptied same ∙ q in
    rw (without_hold, here) refl
bare-here (t ∷ slots) (suc i) s left e q = bare-here slots i s left e q

bare-more : (slots : List (List ℕ × Slot)) (i : ℕ) (s left : Slot) → IsBareTo slots i → at_place slots i ≡ Some s → emptied s ≡ Some left
    → IsBareTo (without_hold i slots) (suc i)
bare-more slots i s left bare e q j below t p = go (j == i) refl
  where
    go : (b : Bool) → (j == i) ≡ b → referent t ≡ None
    go true is =
        let here : at_place (without_hold i slots) i ≡ Some t = ap (at_place (without_hold i slots)) (sym (eqb-true j i is)) ∙ p in
        let same : left ≡ t = same_Some left t (sym (bare-here slots i s left e q) ∙ here) in
        ap referent (sym same) ∙ left-bare s left q
    go false is = bare-before slots i bare j (grind arith) t p

bare-next : (slots : List (List ℕ × Slot)) (i : ℕ) (s : Slot) → IsBareTo slots i → at_place slots i ≡ Some s → IsBareTo (without_hold i slots) (next_index s i)
bare-next slots i (plain v) bare e = bare-more slots i (plain v) (plain v) bare e refl
bare-next slots i (child m) bare e = bare-before slots i bare
bare-next slots i (strong t target) bare e = bare-more slots i (strong t target) (strong t None) bare e refl
bare-next slots i (weak t target) bare e = bare-more slots i (weak t target) (weak t None) bare e refl
bare-next slots i (alias m property) bare e = bare-more slots i (alias m property) (alias m property) bare e refl

-- steps

bare-as : (slots left : List (List ℕ × Slot)) (i : ℕ) → left ≡ slots → IsBareTo slots i → IsBareTo left i
bare-as slots left i is bare = rw is bare

pub stays-other : (x i : ℕ) (b : Board) (n k : ℕ) → (x == n) ≡ false → Stays x i b → Stays x i (drop_slot b n k)
stays-other x i b n k apart stays =
    record {
      live = drop-live b n k x ∙ stays.live;
      free = omega (arith, drop-refs b n k x, stays.free);
      bare = bare-as (slots_at b x) (slots_at (drop_slot b n k) x) i (drop-other b n k x apart) stays.bare;
    }

pub stays-own : (n i : ℕ) (b : Board) (s : Slot) → slot_at b n i ≡ Some s → Stays n i b → Stays n (next_index s i) (drop_slot b n i)
stays-own n i b s e stays =
    record {
      live = drop-live b n i n ∙ stays.live;
      free = omega (arith, drop-refs b n i n, stays.free);
      bare =
          bare-as (without_hold i (slots_at b n)) (slots_at (drop_slot b n i) n) (next_index s i) (drop-own b n i) (bare-next (slots_at b n) i s stays.bare e);
    }

pub stays-finish : (x i : ℕ) (b : Board) (n : ℕ) → (x == n) ≡ false → Stays x i b → Stays x i (finish b n)
stays-finish x i b n apart stays =
    record {
      live = finish-live b n x ∙ rw (apart, stays.live) refl;
      free = omega (arith, finish-refs b n x, stays.free);
      bare = bare-as (forgotten_slots n (slots_at b x)) (slots_at (finish b n) x) i (finish-slots n b x apart) (bare-forgotten n (slots_at b x) i stays.bare);
    }

-- a release of others leaves it

module _ (x i : ℕ) where
  abbrev Others : List (ℕ × ℕ) → Board → Type 0
  Others work b = Stays x i b × AllByRecursion (λ (t : ℕ × ℕ). (x == t.0) ≡ false) work

  -- what a slot holds is another
  held-other : (b : Board) (n j m : ℕ) (s : Slot) → refs b x ≡ 0 → slot_at b n j ≡ Some s → referent s ≡ Some m → (x == m) ≡ false
  held-other b n j m s free e h = go (x == m) refl
    where
      go : (t : Bool) → (x == m) ≡ t → t ≡ false
      go true p = absurd (unheld-apart b x n j m s free e h (sym (eqb-true x m p)))
      go false p = refl

  others-keep : KeepsRelease Others
  others-keep =
      record {
        ended = λ b n j work p e. (stays-finish x i b n p.1.0 p.0, p.1.1);
        freed = λ b n j work s m p e h free. (stays-other x i b n j p.1.0 p.0, (held-other b n j m s p.0.free e h, (p.1.0, p.1.1)));
        kept = λ b n j work s p e held_on. (stays-other x i b n j p.1.0 p.0, (p.1.0, p.1.1));
      }

-- a slot of its own let go leaves it, and what is left before the next place holds nothing
pub let_go-stays : (n i : ℕ) (b : Board) (s : Slot) → slot_at b n i ≡ Some s → Stays n i b → Stays n (next_index s i) (let_go b n i)
unfolding let_go
let_go-stays n i b s e stays =
    let own : Stays n (next_index s i) (drop_slot b n i) = stays-own n i b s e stays in
    rw (let_go, e) (after_keeps (Others n (next_index s i)) (others-keep n (next_index s i)) (drop_slot b n i) (referent s) []
    (λ m h free. (own, (held-other n (next_index s i) b n i m s stays.free e h, tt))) (λ held_on. (own, tt))).0

-- where the slots before a place hold nothing and none stands there, none holds anything
pub none-held : (slots : List (List ℕ × Slot)) (i : ℕ) → IsBareTo slots i → at_place slots i ≡ None
    → count_by (λ (s : List ℕ × Slot). is_some (referent s.1)) slots ≡ 0
none-held [] i bare e = refl
none-held (t ∷ slots) zero bare e = cc
none-held (t ∷ slots) (suc i) bare e =
    let here : referent t.1 ≡ None = bare zero (omega arith) t.1 refl in
    let one : cond {A = ℕ} (is_some (referent t.1)) 1 0 ≡ 0 = rw here refl in
    omega (
      arith,
      sum_by-cons (λ (s : List ℕ × Slot). cond {A = ℕ} (is_some (referent s.1)) 1 0) t slots,
      one,
      none-held slots i (λ j less. bare (suc j) (omega arith)) e,
    )
