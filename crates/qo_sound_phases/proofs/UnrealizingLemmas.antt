-- Unrealizing notes no phase, and takes the holds from the device and from all that is below it.
use Rattle.std.proofs.Common.{◌≡◌, refl, ap, sym, subst, ◌∙◌, ℕ, zero, suc, Bool, true, false, ◌==◌, cond, eqb, List, [], ◌∷◌, length, arith, codes}
use Rattle.qo_model.proofs.Common.{count_by, AllByRecursion, Unrealize, Board, acted, device_period, among, by_depth, buses_of, clock_of, is_realized, kids_of, births, disconnected, each, set_named, unrealize, unrealize_turn, unrealized_bus, unrealized_device, without_all}
use Rattle.std.proofs.lemmas.Bool.{eqb-true}
use Rattle.std.proofs.lemmas.List.Sums.{sum_by-cons}
use Rattle.qo_values.specs.declared.properties.Val.TheVariants as val
use Rattle.qo_sound.proofs.AdditionStepsLemmas.{KeepsEdits, step-set, step-disconnected}
use Rattle.qo_sound.proofs.TestLemmas.{decide, clash}
use Rattle.qo_sound_devices.proofs.UnlistingLemmas.{without-own}
use Rattle.qo_sound_devices.proofs.DetachmentLemmas.{under-more}
use Rattle.qo_sound_devices.proofs.UnrealizingLemmas.{dims-bus, each-keeps, fades-device, Under, here, each-makes}
use Rattle.qo_sound_phases.proofs.QuietChangeLemmas.{Quiet, quiet-acted, quiet-then}

-- what steps on objects leave: births, holds and phases
pub record Still (b c : Board) : Type 0 where
  pub born : c.born ≡ b.born
  pub holds : c.holds ≡ b.holds
  pub quiet : Quiet b c

pub still-none : (b : Board) → Still b b
still-none b = record { born = refl; holds = refl; quiet = λ n. refl }

pub still-edits : (b : Board) → KeepsEdits (Still b)
still-edits b n change leaves c h = record { born = h.born; holds = h.holds; quiet = h.quiet }

still-acted : (n period : ℕ) (c : Board) → Still c (acted Unrealize n period c)
unfolding acted
still-acted n period c = record { born = refl; holds = refl; quiet = quiet-acted Unrealize n period refl c }

-- the own step of a device, and of a bus
pub record Lets (n : ℕ) (b c : Board) : Type 0 where
  pub born : c.born ≡ b.born
  pub holds : c.holds ≡ without_all n b.holds
  pub quiet : Quiet b c

pub lets-device : (d : ℕ) (c : Board) → Lets d c (unrealized_device d c)
lets-device d c = record { born = same.born; holds = ap (without_all d) same.holds; quiet = same.quiet }
  where
    same : Still c (set_named d (codes "realized") (val.Bool false) (disconnected (clock_of c d) (acted Unrealize d (device_period c d) c)))
    same =
        step-set (Still c) (still-edits c) d (codes "realized") (val.Bool false) _
        (step-disconnected (Still c) (still-edits c) (clock_of c d) _ (still-acted d (device_period c d) c))

pub lets-bus : (m : ℕ) (c : Board) → Lets m c (unrealized_bus m c)
lets-bus m c =
    let same : Still c (acted Unrealize m 0 c) = still-acted m 0 c in
    record { born = same.born; holds = ap (without_all m) same.holds; quiet = same.quiet }

-- holds without those on an object
pub without-other : (n x : ℕ) (hs : List ℕ) → among hs x ≡ false → among (without_all n hs) x ≡ false
without-other n x [] e = refl
without-other n x (h ∷ hs) e = go (h == n) refl (eqb x h) refl (without-other n x hs)
  where
    go : (t : Bool) → (h == n) ≡ t → (u : Bool) → eqb x h ≡ u → (among hs x ≡ false → among (without_all n hs) x ≡ false)
        → among (without_all n (h ∷ hs)) x ≡ false
    go t p true q rest = clash (rw q at e)
    go true p false q rest = rw p (rest (rw q at e))
    go false p false q rest = rw (p, q) (rest (rw q at e))

pub without-count : (f : ℕ → Bool) (n : ℕ) → f n ≡ false → (hs : List ℕ) → count_by f (without_all n hs) ≡ count_by f hs
without-count f n none [] = refl
without-count f n none (h ∷ hs) = go (h == n) refl (without-count f n none hs)
  where
    go : (t : Bool) → (h == n) ≡ t → count_by f (without_all n hs) ≡ count_by f hs → count_by f (without_all n (h ∷ hs)) ≡ count_by f (h ∷ hs)
    go true p rest =
        let zero_here : cond {A = ℕ} (f h) 1 0 ≡ 0 = ap (λ (t : Bool). cond {A = ℕ} t 1 0) (ap f (eqb-true h n p) ∙ none) in
        rw p (omega (arith, rest, zero_here, sum_by-cons (λ x. cond {A = ℕ} (f x) 1 0) h hs))
    go false p rest =
        rw p (omega (arith, rest, sum_by-cons (λ x. cond {A = ℕ} (f x) 1 0) h hs, sum_by-cons (λ x. cond {A = ℕ} (f x) 1 0) h (without_all n hs)))

-- the steps on the device, on what is below it, and on the buses there
module _ (b : Board) (d : ℕ) (P : Board → Type 0) (device : (x : ℕ) (c : Board) → Under b d x → P c → P (unrealized_device x c))
    (bus : (x m : ℕ) (c : Board) → Under b d x → among (buses_of b x) m ≡ true → P c → P (unrealized_bus m c)) where
  walk : (depth x : ℕ) (c : Board) → Under b d x → P c → P (by_depth (unrealize_turn b) (λ d c. c) depth x c)
  walk zero x c u h = h
  walk (suc depth) x c u h = turn (walk depth)
    where
      turn : ((k : ℕ) (e : Board) → Under b d k → P e → P (by_depth (unrealize_turn b) (λ d c. c) depth k e))
          → P (by_depth (unrealize_turn b) (λ d c. c) (suc depth) x c)
      turn keeps =
          device x _ u
          (each-keeps P _ (buses_of b x)
          (λ m im e k.
          bus x m _ u im
          (each-keeps P (by_depth (unrealize_turn b) (λ d c. c) depth) (kids_of b m) (λ n jn f j. keeps n f (under-more b d x m n u im jn) j) e k))
          c h)

  pub unrealize-walk : P b → P (unrealize b d)
  unfolding unrealize
  unrealize-walk h = walk (suc (length (births b))) d b here h

-- no hold is left on a device that is realized no more, nor on its buses
abbrev IsLoose : ℕ → ℕ → Board → Type 0
IsLoose q r c = is_realized c q ≡ false → among c.holds r ≡ false

none-stays : (b : Board) (depth x r : ℕ) (c : Board) → among c.holds r ≡ false → among (by_depth (unrealize_turn b) (λ d c. c) depth x c).holds r ≡ false
none-stays b zero x r c h = h
none-stays b (suc depth) x r c h = turn (none-stays b depth)
  where
    turn : ((k s : ℕ) (e : Board) → among e.holds s ≡ false → among (by_depth (unrealize_turn b) (λ d c. c) depth k e).holds s ≡ false)
        → among (by_depth (unrealize_turn b) (λ d c. c) (suc depth) x c).holds r ≡ false
    turn keeps =
        gone-device x _
        (each-keeps (λ e. among e.holds r ≡ false) _ (buses_of b x)
        (λ m im e k. gone-bus m _
        (each-keeps (λ f. among f.holds r ≡ false) (by_depth (unrealize_turn b) (λ d c. c) depth) (kids_of b m) (λ n jn f j. keeps n r f j) e k)) c h)
      where
        gone-device : (n : ℕ) (e : Board) → among e.holds r ≡ false → among (unrealized_device n e).holds r ≡ false
        gone-device n e k = ap (λ (hs : List ℕ). among hs r) (lets-device n e).holds ∙ without-other n r e.holds k

        gone-bus : (n : ℕ) (e : Board) → among e.holds r ≡ false → among (unrealized_bus n e).holds r ≡ false
        gone-bus n e k = ap (λ (hs : List ℕ). among hs r) (lets-bus n e).holds ∙ without-other n r e.holds k

module _ (b : Board) (q r : ℕ) (its : among (buses_of b q) r ≡ true) where
  gone-bus : (n : ℕ) (e : Board) → among e.holds r ≡ false → among (unrealized_bus n e).holds r ≡ false
  gone-bus n e k = ap (λ (hs : List ℕ). among hs r) (lets-bus n e).holds ∙ without-other n r e.holds k

  own-bus : (e : Board) → among (unrealized_bus r e).holds r ≡ false
  own-bus e = ap (λ (hs : List ℕ). among hs r) (lets-bus r e).holds ∙ without-own r e.holds

  loose-turns : (depth x : ℕ) (c : Board) → IsLoose q r c → IsLoose q r (by_depth (unrealize_turn b) (λ d c. c) depth x c)
  loose-turns zero x c h = h
  loose-turns (suc depth) x c h = turn (loose-turns depth)
    where
      none-each : (ns : List ℕ) (e : Board) → among e.holds r ≡ false → among (each (by_depth (unrealize_turn b) (λ d c. c) depth) ns e).holds r ≡ false
      none-each ns e k =
          each-keeps (λ f. among f.holds r ≡ false) (by_depth (unrealize_turn b) (λ d c. c) depth) ns (λ n jn f j. none-stays b depth n r f j) e k

      cleared : x ≡ q
          → among (each (λ m. λ e. unrealized_bus m (each (by_depth (unrealize_turn b) (λ d c. c) depth) (kids_of b m) e)) (buses_of b x) c).holds r ≡ false
      cleared is =
          each-makes (λ e. among e.holds r ≡ false) (λ m. λ e. unrealized_bus m (each (by_depth (unrealize_turn b) (λ d c. c) depth) (kids_of b m) e))
          (buses_of b x) r (subst (λ (y : ℕ). among (buses_of b y) r ≡ true) (sym is) its)
          (λ e. own-bus _)
          (λ n e k. gone-bus n _ (none-each (kids_of b n) e k))
          c

      turn : ((k : ℕ) (e : Board) → IsLoose q r e → IsLoose q r (by_depth (unrealize_turn b) (λ d c. c) depth k e))
          → IsLoose q r (by_depth (unrealize_turn b) (λ d c. c) (suc depth) x c)
      turn keeps = λ dim. ap (λ (hs : List ℕ). among hs r) (lets-device x inner).holds ∙ without-other x r inner.holds (before dim)
        where
          inner : Board
          inner = each (λ m. λ e. unrealized_bus m (each (by_depth (unrealize_turn b) (λ d c. c) depth) (kids_of b m) e)) (buses_of b x) c

          loose : IsLoose q r (each (λ m. λ e. unrealized_bus m (each (by_depth (unrealize_turn b) (λ d c. c) depth) (kids_of b m) e)) (buses_of b x) c)
          loose =
              each-keeps (IsLoose q r) (λ m. λ e. unrealized_bus m (each (by_depth (unrealize_turn b) (λ d c. c) depth) (kids_of b m) e)) (buses_of b x)
              (λ m im e k.
              λ dim. gone-bus m _
              (each-keeps (IsLoose q r) (by_depth (unrealize_turn b) (λ d c. c) depth) (kids_of b m) (λ n jn f j. keeps n f j) e k
              (sym ((dims-bus m _).same q) ∙ dim)))
              c h

          before : is_realized (unrealized_device x inner) q ≡ false → among inner.holds r ≡ false
          before dim = decide (q == x) (λ e. cleared (sym (eqb-true q x e))) (λ e. loose (sym ((fades-device x inner).same q e) ∙ dim))

  pub bus-loose : (d : ℕ) → is_realized b q ≡ true → is_realized (unrealize b d) q ≡ false → among (unrealize b d).holds r ≡ false
  unfolding unrealize
  bus-loose d lit dim = loose-turns (suc (length (births b))) d b (λ no. clash (sym lit ∙ no)) dim

pub device-loose : (b : Board) (d r : ℕ) → is_realized b r ≡ true → is_realized (unrealize b d) r ≡ false → among (unrealize b d).holds r ≡ false
device-loose b d r lit dim = unrealize-walk b d (IsLoose r r) device bus (λ no. clash (sym lit ∙ no)) dim
  where
    device : (x : ℕ) (c : Board) → Under b d x → IsLoose r r c → IsLoose r r (unrealized_device x c)
    device x c u h = λ no.
        ap (λ (hs : List ℕ). among hs r) (lets-device x c).holds
        ∙ decide (r == x) (λ e. own (eqb-true r x e)) (λ e. without-other x r c.holds (h (sym ((fades-device x c).same r e) ∙ no)))
      where
        own : r ≡ x → among (without_all x c.holds) r ≡ false
        own is = ap (among (without_all x c.holds)) is ∙ without-own x c.holds

    bus : (x m : ℕ) (c : Board) → Under b d x → among (buses_of b x) m ≡ true → IsLoose r r c → IsLoose r r (unrealized_bus m c)
    bus x m c u im h = λ no. ap (λ (hs : List ℕ). among hs r) (lets-bus m c).holds ∙ without-other m r c.holds (h (sym ((dims-bus m c).same r) ∙ no))

-- what is left of holds, births and phases
all-without : (P : ℕ → Type 0) (n : ℕ) (hs : List ℕ) → AllByRecursion P hs → AllByRecursion P (without_all n hs)
all-without P n [] h = tt
all-without P n (x ∷ hs) h = go (x == n) refl (all-without P n hs h.1)
  where
    go : (t : Bool) → (x == n) ≡ t → AllByRecursion P (without_all n hs) → AllByRecursion P (without_all n (x ∷ hs))
    go true p rest = rw p rest
    go false p rest = rw p (h.0, rest)

pub unrealize-all_holds : (P : ℕ → Type 0) (b : Board) (d : ℕ) → AllByRecursion P b.holds → AllByRecursion P (unrealize b d).holds
unrealize-all_holds P b d h =
    unrealize-walk b d (λ c. AllByRecursion P c.holds)
    (λ x c u k. subst (AllByRecursion P) (sym (lets-device x c).holds) (all-without P x c.holds k))
    (λ x m c u im k. subst (AllByRecursion P) (sym (lets-bus m c).holds) (all-without P m c.holds k)) h

pub unrealize-count : (f : ℕ → Bool) (b : Board) (d : ℕ) → ((x : ℕ) → Under b d x → f x ≡ false)
    → ((x m : ℕ) → Under b d x → among (buses_of b x) m ≡ true → f m ≡ false) → count_by f (unrealize b d).holds ≡ count_by f b.holds
unrealize-count f b d devices buses =
    unrealize-walk b d (λ c. count_by f c.holds ≡ count_by f b.holds)
    (λ x c u k. ap (count_by f) (lets-device x c).holds ∙ without-count f x (devices x u) c.holds ∙ k)
    (λ x m c u im k. ap (count_by f) (lets-bus m c).holds ∙ without-count f m (buses x m u im) c.holds ∙ k) refl

pub unrealize-quiet : (b : Board) (d : ℕ) → Quiet b (unrealize b d)
unrealize-quiet b d =
    unrealize-walk b d (Quiet b) (λ x c u k. quiet-then b c (unrealized_device x c) k (lets-device x c).quiet)
    (λ x m c u im k. quiet-then b c (unrealized_bus m c) k (lets-bus m c).quiet) (λ n. refl)

pub unrealize-born : (b : Board) (d : ℕ) → (unrealize b d).born ≡ b.born
unrealize-born b d =
    unrealize-walk b d (λ c. c.born ≡ b.born) (λ x c u k. (lets-device x c).born ∙ k) (λ x m c u im k. (lets-bus m c).born ∙ k) refl
