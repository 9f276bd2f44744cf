-- A hold, a hold less, and both keep phases sound.
use Rattle.std.proofs.Common.{◌≡◌, refl, ap, sym, subst, ◌∙◌, ℕ, ◌+◌, ◌<◌, Bool, true, false, ◌&&◌, ◌==◌, eqb, cond, List, [], ◌∷◌, ◌++◌, filter, map, Some, is_some, arith}
use Rattle.qo_model.proofs.Common.{count_by, if◌then◌else◌, AllByRecursion, IsDistinct, Hold, Exit, Board, among, did, without_first, count, is_not_in_reset, phased, post, pulse, released}
use Rattle.qo_model.specs.declared.notes.Note.{Note}
use Rattle.std.proofs.lemmas.Bool.{and_parts, eqb-true, eq-eqb}
use Rattle.std.proofs.lemmas.List.Sums.{sum_by-append, sum_by-cons}
use Rattle.qo_model.specs.Reset.{after_hold}
use Rattle.qo_sound.proofs.RecordLemmas.{all-append}
use Rattle.qo_values.proofs.ListLemmas.{all-imply}
use Rattle.qo_sound.proofs.TestLemmas.{decide, clash-back}
use Rattle.qo_sound_devices.specs.SoundDevices.{SoundDevices}
use Rattle.qo_model.proofs.AmongLemmas.{among-all}
use Rattle.qo_sound_devices.proofs.ResetLemmas.{held-below}
use Rattle.qo_sound_phases.specs.Phases.{stage_of}
use Rattle.qo_sound_phases.specs.Phases as stage
use Rattle.qo_sound_phases.specs.SoundPhases.{IsReached, SoundPhases, stage_now}
use Rattle.qo_sound_phases.proofs.ResetTreeLemmas.{Placed, placed, post-once}
use Rattle.qo_sound_phases.proofs.ListLemmas.{among-filter, among-right, distinct-filter, one-among}
use Rattle.qo_sound_phases.proofs.ReachLemmas.{buses-stay, live-born, post-reached, reached-live, shape-reached}
use Rattle.qo_sound_phases.proofs.ShapeLemmas.{counted-same, PhasedSo, phased-so, SameShape, shape-back, shape-post, shape-records, shape-then}
use Rattle.qo_sound_phases.proofs.StageLemmas.{entering-leads, entering-phase, noted-in, noted-out}
use Rattle.qo_values.specs.declared.kinds.ResetKind.{ResetKind}
use Rattle.qo_values.specs.Kinds.{entering}

-- how many holds there are with one more, and with one less
abbrev pub one_if : Bool → ℕ
one_if t = cond {A = ℕ} t 1 0

pub count-more : (f : ℕ → Bool) (r : ℕ) (rs : List ℕ) → count_by f (rs ++ r ∷ []) ≡ count_by f rs + one_if (f r)
count-more f r rs = omega (arith, sum_by-append (λ x. one_if (f x)) rs (r ∷ []), sum_by-cons (λ x. one_if (f x)) r [])

pub count-less : (f : ℕ → Bool) (r : ℕ) (rs : List ℕ) → among rs r ≡ true → count_by f (without_first r rs) + one_if (f r) ≡ count_by f rs
count-less f r [] e = clash-back e
count-less f r (x ∷ rs) e = go (x == r) refl (count-less f r rs)
  where
    go : (t : Bool) → (x == r) ≡ t → (among rs r ≡ true → count_by f (without_first r rs) + one_if (f r) ≡ count_by f rs)
        → count_by f (without_first r (x ∷ rs)) + one_if (f r) ≡ count_by f (x ∷ rs)
    go true p rest =
        let is : one_if (f x) ≡ one_if (f r) = ap (λ (y : ℕ). one_if (f y)) (eqb-true x r p) in
        rw p (omega (arith, is, sum_by-cons (λ y. one_if (f y)) x rs))
    go false p rest =
        let other : eqb r x ≡ false = grind (arith, p) in
        let less : count_by f (without_first r rs) + one_if (f r) ≡ count_by f rs = rest (rw other at e) in
        rw p (omega (arith, less, sum_by-cons (λ y. one_if (f y)) x rs, sum_by-cons (λ y. one_if (f y)) x (without_first r rs)))

pub still-all : (P : ℕ → Type 0) (r : ℕ) (rs : List ℕ) → AllByRecursion P rs → AllByRecursion P (without_first r rs)
still-all P r [] h = tt
still-all P r (x ∷ rs) h = go (x == r) refl (still-all P r rs h.1)
  where
    go : (t : Bool) → (x == r) ≡ t → AllByRecursion P (without_first r rs) → AllByRecursion P (without_first r (x ∷ rs))
    go true p rest = rw p h.1
    go false p rest = rw p (h.0, rest)

-- what is out of a list, by a test
in-out : (p : ℕ → Bool) (n : ℕ) (xs : List ℕ) → among (filter p xs) n ≡ true → (among xs n ≡ true) × (p n ≡ true)
in-out p n xs e = and_parts (among xs n) (p n) (sym (among-filter p n xs) ∙ e)

not-out : (p : ℕ → Bool) (n : ℕ) (xs : List ℕ) → among (filter p xs) n ≡ false → among xs n ≡ true → p n ≡ false
not-out p n xs e i = let both : among xs n && p n ≡ false = sym (among-filter p n xs) ∙ e in rw i at both

-- by the number of holds
out-none : (b : Board) (o : ℕ) → is_not_in_reset b o ≡ true → count b o ≡ 0
out-none b o e = eqb-true (count b o) 0 e

in-some : (b : Board) (o : ℕ) → is_not_in_reset b o ≡ false → 0 < count b o
in-some b o e = grind (arith, e)

none-out : (b : Board) (o : ℕ) → count b o ≡ 0 → is_not_in_reset b o ≡ true
none-out b o e = eq-eqb (count b o) 0 e

some-in : (b : Board) (o : ℕ) → 0 < count b o → is_not_in_reset b o ≡ false
some-in b o e = grind (arith, e)

now-out : (b : Board) (o : ℕ) → is_not_in_reset b o ≡ true → stage_now b o ≡ stage.out
now-out b o e = rw e refl

now-held : (b : Board) (o : ℕ) → is_not_in_reset b o ≡ false → stage_now b o ≡ stage.held
now-held b o e = rw e refl

-- what holds count on boards of one shape
pub count-shape : (b c : Board) → SameShape b c → (o : ℕ) → count c o ≡ count_by (λ r. among (post b r) o) c.holds
count-shape b c h o = counted-same (λ r. among (post c r) o) (λ r. among (post b r) o) (λ r. ap (λ (xs : List ℕ). among xs o) (shape-post b c h r)) c.holds

-- a hold
pub record HeldSo (b : Board) (r : ℕ) (kind : ResetKind) (c : Board) : Type 0 where
  pub shape : SameShape b c
  pub holds : c.holds ≡ b.holds ++ r ∷ []
  born : c.born ≡ b.born
  notes : c.notes ≡ (b.notes ++ map (did (entering kind)) (filter (is_not_in_reset b) (post b r))) ++ map (did Hold) (filter (is_not_in_reset b) (post b r))

pub held-so : (b : Board) (r : ℕ) (kind : ResetKind) → HeldSo b r kind (after_hold b r kind)
unfolding after_hold
held-so b r kind =
    let os : List ℕ = filter (is_not_in_reset b) (post b r) in
    let first : PhasedSo (entering kind) os b (phased (entering kind) os b) = phased-so (entering kind) os b in
    let second : PhasedSo Hold os (phased (entering kind) os b) (phased Hold os (phased (entering kind) os b)) =
    phased-so Hold os (phased (entering kind) os b) in
    record {
      shape =
          shape-then b (phased (entering kind) os b) (after_hold b r kind) first.shape
          (shape-then (phased (entering kind) os b) (phased Hold os (phased (entering kind) os b)) (after_hold b r kind) second.shape (shape-records _ _ refl));
      holds = refl;
      born = second.born ∙ first.born;
      notes = second.notes ∙ ap (λ (xs : List Note). xs ++ map (did Hold) os) first.notes;
    }

module _ (b : Board) (r : ℕ) (k : Placed b) (reached : IsReached b r) (h : SoundPhases b) where
  abbrev os : List ℕ
  os = filter (is_not_in_reset b) (post b r)

  once : IsDistinct eqb (filter (is_not_in_reset b) (post b r))
  once = distinct-filter (is_not_in_reset b) (post b r) (post-once b k r)

  module _ (kind : ResetKind) (c : Board) (s : HeldSo b r kind c) where
    count-held : (o : ℕ) → count c o ≡ count b o + one_if (among (post b r) o)
    count-held o =
        count-shape b c s.shape o
        ∙ ap (count_by (λ x. among (post b x) o)) s.holds
        ∙ count-more (λ x. among (post b x) o) r b.holds

    in-stage : (o : ℕ) → among (filter (is_not_in_reset b) (post b r)) o ≡ true → stage_of o c.notes ≡ Some stage.held
    in-stage o e =
        let both : (among (post b r) o ≡ true) × (is_not_in_reset b o ≡ true) = in-out (is_not_in_reset b) o (post b r) e in
        let before : stage_of o b.notes ≡ Some stage.out =
        h.reached o (post-reached b k r o reached both.0) ∙ ap Some (now-out b o both.1) in
        ap (stage_of o) s.notes
        ∙ noted-in Hold refl (filter (is_not_in_reset b) (post b r)) once (b.notes ++ map (did (entering kind)) (filter (is_not_in_reset b) (post b r))) o e
        stage.entered
        stage.held
        (noted-in (entering kind) (entering-phase kind) (filter (is_not_in_reset b) (post b r)) once b.notes o e stage.out stage.entered before
        (entering-leads kind)) refl

    out-stage : (o : ℕ) → among (filter (is_not_in_reset b) (post b r)) o ≡ false → stage_of o c.notes ≡ stage_of o b.notes
    out-stage o e =
        ap (stage_of o) s.notes
        ∙ noted-out Hold refl (filter (is_not_in_reset b) (post b r)) once (b.notes ++ map (did (entering kind)) (filter (is_not_in_reset b) (post b r))) o e
        ∙ noted-out (entering kind) (entering-phase kind) (filter (is_not_in_reset b) (post b r)) once b.notes o e

    held-phases : SoundPhases c
    held-phases =
        record {
          in_turn =
              λ o. decide (among (filter (is_not_in_reset b) (post b r)) o) (λ e. ap is_some (in-stage o e)) (λ e. ap is_some (out-stage o e) ∙ h.in_turn o);
          unborn = λ o high.
              decide (among (filter (is_not_in_reset b) (post b r)) o)
              (λ e. absurd (young o e (subst (λ (x : ℕ). x < o) s.born high)))
              (λ e. out-stage o e ∙ h.unborn o (subst (λ (x : ℕ). x < o) s.born high));
          reached = λ o i.
              decide (among (filter (is_not_in_reset b) (post b r)) o) (λ e. in-stage o e ∙ ap Some (sym (now-held c o (some-in c o (more o e)))))
              (λ e. out-stage o e ∙ h.reached o (shape-reached c b (shape-back b c s.shape) o i) ∙ ap Some (same o e));
          holds =
              subst (AllByRecursion (IsReached c)) (sym s.holds)
              (all-append (IsReached c) b.holds (r ∷ []) (all-imply (IsReached b) (IsReached c) (shape-reached b c s.shape) b.holds h.holds)
              (shape-reached b c s.shape r reached, tt));
          buses = buses-stay b c (shape-reached b c s.shape) h.buses;
          lone = λ x e. h.lone x (sym (s.shape.kind x) ∙ e);
        }
      where
        young : (o : ℕ) → among (filter (is_not_in_reset b) (post b r)) o ≡ true → b.born < o → ⊥
        young o e high = live-born b k o (reached-live b k o (post-reached b k r o reached (in-out (is_not_in_reset b) o (post b r) e).0)) high

        more : (o : ℕ) → among (filter (is_not_in_reset b) (post b r)) o ≡ true → 0 < count c o
        more o e =
            let one : one_if (among (post b r) o) ≡ 1 = ap one_if (in-out (is_not_in_reset b) o (post b r) e).0 in
            omega (arith, count-held o, one)

        same : (o : ℕ) → among (filter (is_not_in_reset b) (post b r)) o ≡ false → stage_now b o ≡ stage_now c o
        same o e =
            decide (among (post b r) o)
            (λ i.
            let was : is_not_in_reset b o ≡ false = not-out (is_not_in_reset b) o (post b r) e i in
            let is : is_not_in_reset c o ≡ false = some-in c o (omega (arith, count-held o, in-some b o was)) in
            now-held b o was ∙ sym (now-held c o is))
            (λ i.
            let none : one_if (among (post b r) o) ≡ 0 = ap one_if i in
            let counts : count c o ≡ count b o = omega (arith, count-held o, none) in
            ap (λ (n : ℕ). if n == 0 then stage.out else stage.held) (sym counts))

pub hold-phases : (b : Board) (r : ℕ) (kind : ResetKind) → SoundDevices b → IsReached b r → SoundPhases b → SoundPhases (after_hold b r kind)
hold-phases b r kind d reached h = held-phases b r (placed b d) reached h kind (after_hold b r kind) (held-so b r kind)

-- a hold less
pub record ReleasedSo (b : Board) (r : ℕ) (c : Board) : Type 0 where
  pub less : Board
  pub same : SameShape b less
  pub fewer : less.holds ≡ without_first r b.holds
  pub shape : SameShape less c
  pub holds : c.holds ≡ less.holds
  born : c.born ≡ b.born
  notes : c.notes ≡ b.notes ++ map (did Exit) (filter (is_not_in_reset less) (post less r))

pub released-so : (b : Board) (r : ℕ) → ReleasedSo b r (released b r)
unfolding released
released-so b r =
    let less : Board = record b { holds = without_first r b.holds } in
    let os : List ℕ = filter (is_not_in_reset less) (post less r) in
    let k : PhasedSo Exit os less (phased Exit os less) = phased-so Exit os less in
    record {
      less = less;
      same = shape-records b less refl;
      fewer = refl;
      shape = k.shape;
      holds = k.holds;
      born = k.born;
      notes = k.notes;
    }

module _ (b : Board) (r : ℕ) (k : Placed b) (on : among b.holds r ≡ true) (h : SoundPhases b) (c : Board) (s : ReleasedSo b r c) where
  on-reached : IsReached b r
  on-reached = among-all (IsReached b) b.holds h.holds r on

  abbrev less : Board
  less = s.less

  same_post : post s.less r ≡ post b r
  same_post = shape-post b s.less s.same r

  once-less : IsDistinct eqb (filter (is_not_in_reset s.less) (post s.less r))
  once-less = distinct-filter (is_not_in_reset s.less) (post s.less r) (subst (IsDistinct eqb) (sym same_post) (post-once b k r))

  count-released : (o : ℕ) → count s.less o + one_if (among (post b r) o) ≡ count b o
  count-released o =
      ap (λ (n : ℕ). n + one_if (among (post b r) o)) (count-shape b s.less s.same o ∙ ap (count_by (λ x. among (post b x) o)) s.fewer)
      ∙ count-less (λ x. among (post b x) o) r b.holds on

  count-same : (o : ℕ) → count c o ≡ count s.less o
  count-same o = count-shape s.less c s.shape o ∙ ap (count_by (λ x. among (post s.less x) o)) s.holds

  went : (o : ℕ) → among (filter (is_not_in_reset s.less) (post s.less r)) o ≡ true → (among (post b r) o ≡ true) × (is_not_in_reset s.less o ≡ true)
  went o e =
      let both : (among (post s.less r) o ≡ true) × (is_not_in_reset s.less o ≡ true) = in-out (is_not_in_reset s.less) o (post s.less r) e in
      (sym (ap (λ (xs : List ℕ). among xs o) same_post) ∙ both.0, both.1)

  less-in : (o : ℕ) → among (filter (is_not_in_reset s.less) (post s.less r)) o ≡ true → stage_of o c.notes ≡ Some stage.out
  less-in o e =
      let both : (among (post b r) o ≡ true) × (is_not_in_reset s.less o ≡ true) = went o e in
      let one : one_if (among (post b r) o) ≡ 1 = ap one_if both.0 in
      let was : is_not_in_reset b o ≡ false = some-in b o (omega (arith, count-released o, one)) in
      let before : stage_of o b.notes ≡ Some stage.held = h.reached o (post-reached b k r o on-reached both.0) ∙ ap Some (now-held b o was) in
      ap (stage_of o) s.notes ∙ noted-in Exit refl (filter (is_not_in_reset s.less) (post s.less r)) once-less b.notes o e stage.held stage.out before refl

  less-out : (o : ℕ) → among (filter (is_not_in_reset s.less) (post s.less r)) o ≡ false → stage_of o c.notes ≡ stage_of o b.notes
  less-out o e = ap (stage_of o) s.notes ∙ noted-out Exit refl (filter (is_not_in_reset s.less) (post s.less r)) once-less b.notes o e

  released-phases : SoundPhases c
  released-phases =
      record {
        in_turn = λ o.
            decide (among (filter (is_not_in_reset s.less) (post s.less r)) o) (λ e. ap is_some (less-in o e)) (λ e. ap is_some (less-out o e) ∙ h.in_turn o);
        unborn = λ o high.
            decide (among (filter (is_not_in_reset s.less) (post s.less r)) o)
            (λ e. absurd (live-born b k o (reached-live b k o (post-reached b k r o on-reached (went o e).0)) (subst (λ (x : ℕ). x < o) s.born high)))
            (λ e. less-out o e ∙ h.unborn o (subst (λ (x : ℕ). x < o) s.born high));
        reached = λ o i.
            decide (among (filter (is_not_in_reset s.less) (post s.less r)) o)
            (λ e. less-in o e ∙ ap Some (sym (now-out c o (none-out c o (count-same o ∙ out-none s.less o (went o e).1)))))
            (λ e. less-out o e ∙ h.reached o (shape-reached c b (shape-back b c shape) o i) ∙ ap Some (still o e));
        holds =
            subst (AllByRecursion (IsReached c)) (sym (s.holds ∙ s.fewer))
            (still-all (IsReached c) r b.holds
            (all-imply (IsReached b) (IsReached c) (shape-reached b c shape) b.holds h.holds));
        buses = buses-stay b c (shape-reached b c shape) h.buses;
        lone = λ x e. h.lone x (sym (s.same.kind x) ∙ sym (s.shape.kind x) ∙ e);
      }
    where
      shape : SameShape b c
      shape = shape-then b s.less c s.same s.shape

      still : (o : ℕ) → among (filter (is_not_in_reset s.less) (post s.less r)) o ≡ false → stage_now b o ≡ stage_now c o
      still o e =
          decide (among (post b r) o)
          (λ i.
          let there : among (post s.less r) o ≡ true = ap (λ (xs : List ℕ). among xs o) same_post ∙ i in
          let lit : is_not_in_reset s.less o ≡ false = not-out (is_not_in_reset s.less) o (post s.less r) e there in
          let was : is_not_in_reset b o ≡ false = some-in b o (omega (arith, count-released o, in-some s.less o lit)) in
          let is : is_not_in_reset c o ≡ false = some-in c o (omega (arith, count-same o, in-some s.less o lit)) in
          now-held b o was ∙ sym (now-held c o is))
          (λ i.
          let none : one_if (among (post b r) o) ≡ 0 = ap one_if i in
          let counts : count c o ≡ count b o = omega (arith, count-same o, count-released o, none) in
          ap (λ (n : ℕ). if n == 0 then stage.out else stage.held) (sym counts))

pub release-phases : (b : Board) (r : ℕ) → SoundDevices b → among b.holds r ≡ true → SoundPhases b → SoundPhases (released b r)
release-phases b r d on h = released-phases b r (placed b d) on h (released b r) (released-so b r)

-- both
last-among : (r : ℕ) (rs : List ℕ) → among (rs ++ r ∷ []) r ≡ true
last-among r rs = among-right r rs (r ∷ []) (one-among r)

pub pulse-phases : (b : Board) (r : ℕ) (kind : ResetKind) → SoundDevices b → IsReached b r → SoundPhases b → SoundPhases (pulse b r kind)
unfolding pulse
pulse-phases b r kind d reached h =
    release-phases (after_hold b r kind) r (held-below b r kind d) (ap (λ (xs : List ℕ). among xs r) (held-so b r kind).holds ∙ last-among r b.holds)
    (hold-phases b r kind d reached h)
