-- What is kept of who is there after a change of slots, and after a step of a heap, was kept before.
use Rattle.std.proofs.Common.{◌≡◌, ◌⊎◌, inl, inr, refl, ap, ap₂, sym, subst, ◌∙◌, ℕ, Option, Some, None, option_map}
use Rattle.std.proofs.lemmas.Option.{same_Some}
use Rattle.qo_kinds.specs.Bodies.{kept_of, none_kept}
use Rattle.qo_kinds.specs.declared.bodies.Body.{Body}
use Rattle.qo_kinds.specs.declared.kept_set.KeptSet.{KeptSet}
use Rattle.qo_model.specs.Board.{Board}
use Rattle.qo_object.specs.declared.room.Side.{Side}
use Rattle.qo_object.specs.Content.{Content}
use Rattle.qo_heap.specs.Acts.{KeepsCounts, KeepsPeriods, clocked_in, counted_in, counts_of, periods_of}
use Rattle.qo_heap.specs.Objects.{Objects, content_of, no_objects_made, with_edit}
use Rattle.qo_life.specs.Life.{Goes}
use Rattle.qo_life.proofs.TreeLemmas.{read-content}
use Rattle.qo_properties.specs.KeptClaims.{ClaimsBefore, ClaimsOrNew, CountsBefore, Kept, KeptBefore, KeptOrNew, NoneKept, SameClaims, SameKept, all_kept, kept_by, kept_with, new_kept}

pub before-same : (v w : Objects) → SameKept v w → KeptBefore v w
before-same v w same n k e = sym (same n) ∙ e

pub before-then : (u v w : Objects) → KeptBefore u v → KeptBefore v w → KeptBefore u w
before-then u v w h g n k e = h n k (g n k e)

-- the claims of it, and the counts

claims-part : (o : Option Content) → option_map (λ (k : Kept). k.0) (option_map kept_with o) ≡ option_map (λ (c : Content). kept_of c.body) o
claims-part None = refl
claims-part (Some c) = refl

-- the claims of an object that is there stand among what is kept of it
pub kept-there : (o : Option Content) (k : KeptSet) → option_map (λ (c : Content). kept_of c.body) o ≡ Some k
    → (x : Kept) × (option_map kept_with o ≡ Some x) × (x.0 ≡ k)
kept-there None k e = absurd (let clash : None ≡ Some k = e in cc)
kept-there (Some c) k e = (kept_with c, refl, same_Some (kept_of c.body) k e)

pub claims-of : (v : Objects) (n : ℕ) (x : Kept) → all_kept v n ≡ Some x → kept_by v n ≡ Some x.0
claims-of v n x e = sym (claims-part (content_of v n)) ∙ ap (option_map (λ (k : Kept). k.0)) e

pub claims-same : (v w : Objects) → SameKept v w → SameClaims v w
claims-same v w same n = sym (claims-part (content_of w n)) ∙ ap (option_map (λ (k : Kept). k.0)) (same n) ∙ claims-part (content_of v n)

pub claims-before : (v w : Objects) → KeptBefore v w → ClaimsBefore v w
claims-before v w before n k e =
    let x = kept-there (content_of w n) k e in
    claims-of v n x.0 (before n x.0 x.1) ∙ ap Some x.2

pub claims-either : (v : Objects) (n : ℕ) (k : KeptSet) (x : Kept) → x.0 ≡ k → (all_kept v n ≡ Some x) ⊎ ((all_kept v n ≡ None) × (x ≡ new_kept))
    → (kept_by v n ≡ Some k) ⊎ ((kept_by v n ≡ None) × (k ≡ none_kept))
claims-either v n k x is (inl same) = inl (claims-of v n x same ∙ ap Some is)
claims-either v n k x is (inr new) =
    inr (sym (claims-part (content_of v n)) ∙ ap (option_map (λ (y : Kept). y.0)) new.0, sym is ∙ ap (λ (y : Kept). y.0) new.1)

pub claims-new : (v w : Objects) → KeptOrNew v w → ClaimsOrNew v w
claims-new v w before n k e = let x = kept-there (content_of w n) k e in claims-either v n k x.0 x.2 (before n x.0 x.1)

-- the counts of holds, and the periods of a clock

abbrev pub counts_in : Kept → ℕ × ℕ
counts_in k = (k.1.count, k.1.marks)

abbrev pub periods_in : Kept → ℕ × ℕ
periods_in k = (k.1.period, k.1.child)

module _ (part : Kept → ℕ × ℕ) (read : Content → ℕ × ℕ) (same : (c : Content) → part (kept_with c) ≡ read c) where
  two : (o : Option Content) → option_map part (option_map kept_with o) ≡ option_map read o
  two None = refl
  two (Some c) = ap Some (same c)

  part-of : (v : Objects) (n : ℕ) (x : Kept) → all_kept v n ≡ Some x → option_map read (content_of v n) ≡ Some (part x)
  part-of v n x e = sym (two (content_of v n)) ∙ ap (option_map part) e

  part-same : (v w : Objects) → SameKept v w → (n : ℕ) → option_map read (content_of w n) ≡ option_map read (content_of v n)
  part-same v w alike n = sym (two (content_of w n)) ∙ ap (option_map part) (alike n) ∙ two (content_of v n)

  part-there : (o : Option Content) (k : ℕ × ℕ) → option_map read o ≡ Some k → (x : Kept) × (option_map kept_with o ≡ Some x) × (part x ≡ k)
  part-there None k q = absurd (let clash : None ≡ Some k = q in cc)
  part-there (Some c) k q = (kept_with c, refl, same c ∙ same_Some (read c) k q)

  part-before : (v w : Objects) → KeptBefore v w → (n : ℕ) (k : ℕ × ℕ) → option_map read (content_of w n) ≡ Some k → option_map read (content_of v n) ≡ Some k
  part-before v w before n k e = let x = part-there (content_of w n) k e in part-of v n x.0 (before n x.0 x.1) ∙ ap Some x.2

  part-either : (zero : part new_kept ≡ (0, 0)) (v : Objects) (n : ℕ) (k : ℕ × ℕ) (x : Kept) → part x ≡ k
      → (all_kept v n ≡ Some x) ⊎ ((all_kept v n ≡ None) × (x ≡ new_kept))
      → (option_map read (content_of v n) ≡ Some k) ⊎ ((option_map read (content_of v n) ≡ None) × (k ≡ (0, 0)))
  part-either zero v n k x is (inl old) = inl (part-of v n x old ∙ ap Some is)
  part-either zero v n k x is (inr new) = inr (sym (two (content_of v n)) ∙ ap (option_map part) new.0, sym is ∙ ap part new.1 ∙ zero)

pub counts-of : (v : Objects) (n : ℕ) (x : Kept) → all_kept v n ≡ Some x → counted_in v n ≡ Some (counts_in x)
counts-of = part-of counts_in counts_of (λ c. refl)

pub periods-of : (v : Objects) (n : ℕ) (x : Kept) → all_kept v n ≡ Some x → clocked_in v n ≡ Some (periods_in x)
periods-of = part-of periods_in periods_of (λ c. refl)

pub counts-same : (v w : Objects) → SameKept v w → KeepsCounts v w
counts-same = part-same counts_in counts_of (λ c. refl)

pub periods-same : (v w : Objects) → SameKept v w → KeepsPeriods v w
periods-same = part-same periods_in periods_of (λ c. refl)

pub counts-there : (o : Option Content) (k : ℕ × ℕ) → option_map counts_of o ≡ Some k → (x : Kept) × (option_map kept_with o ≡ Some x) × (counts_in x ≡ k)
counts-there = part-there counts_in counts_of (λ c. refl)

pub periods-there : (o : Option Content) (k : ℕ × ℕ) → option_map periods_of o ≡ Some k → (x : Kept) × (option_map kept_with o ≡ Some x) × (periods_in x ≡ k)
periods-there = part-there periods_in periods_of (λ c. refl)

pub counts-before : (v w : Objects) → KeptBefore v w → CountsBefore v w
counts-before = part-before counts_in counts_of (λ c. refl)

pub periods-before : (v w : Objects) → KeptBefore v w → (n : ℕ) (k : ℕ × ℕ) → clocked_in w n ≡ Some k → clocked_in v n ≡ Some k
periods-before = part-before periods_in periods_of (λ c. refl)

pub counts-either : (v : Objects) (n : ℕ) (k : ℕ × ℕ) (x : Kept) → counts_in x ≡ k → (all_kept v n ≡ Some x) ⊎ ((all_kept v n ≡ None) × (x ≡ new_kept))
    → (counted_in v n ≡ Some k) ⊎ ((counted_in v n ≡ None) × (k ≡ (0, 0)))
counts-either = part-either counts_in counts_of (λ c. refl) refl

pub periods-either : (v : Objects) (n : ℕ) (k : ℕ × ℕ) (x : Kept) → periods_in x ≡ k → (all_kept v n ≡ Some x) ⊎ ((all_kept v n ≡ None) × (x ≡ new_kept))
    → (clocked_in v n ≡ Some k) ⊎ ((clocked_in v n ≡ None) × (k ≡ (0, 0)))
periods-either = part-either periods_in periods_of (λ c. refl) refl

-- an edit

pub edit-kept : (v w : Objects) (n : ℕ) (f : Content → Content) → ((c : Content) → kept_with (f c) ≡ kept_with c) → w ≡ with_edit n f v
    → KeptBefore v w
edit-kept v w n f same is m k e =
    sym (read-content kept_with n f same v m) ∙ subst (λ (x : Objects). all_kept x m ≡ Some k) is e

-- where nothing is kept but periods

abbrev pub held_with : Content → KeptSet × (ℕ × ℕ)
held_with c = (kept_of c.body, counts_of c)

none-held : (v : Objects) → NoneKept v → (n : ℕ) (k : KeptSet × (ℕ × ℕ)) → option_map held_with (content_of v n) ≡ Some k → k ≡ (none_kept, (0, 0))
none-held v none n k e = go (content_of v n) refl e
  where
    go : (o : Option Content) → content_of v n ≡ o → option_map held_with o ≡ Some k → k ≡ (none_kept, (0, 0))
    go None p q = absurd (let clash : None ≡ Some k = q in cc)
    go (Some c) p q =
        let h = none n c p in sym (same_Some (held_with c) k q) ∙ ap₂ (λ (a : KeptSet) (b : ℕ × ℕ). (a, b)) h.0 h.1

held-none : (v : Objects) → ((n : ℕ) (k : KeptSet × (ℕ × ℕ)) → option_map held_with (content_of v n) ≡ Some k → k ≡ (none_kept, (0, 0))) → NoneKept v
held-none v h n c there =
    let e : held_with c ≡ (none_kept, (0, 0)) = h n (held_with c) (ap (option_map held_with) there) in
    (ap (λ (k : KeptSet × (ℕ × ℕ)). k.0) e, ap (λ (k : KeptSet × (ℕ × ℕ)). k.1) e)

pub none-edited : (v : Objects) (n : ℕ) (f : Content → Content) → ((c : Content) → held_with (f c) ≡ held_with c) → NoneKept v → NoneKept (with_edit n f v)
none-edited v n f same none = held-none (with_edit n f v) (λ m k e. none-held v none m k (sym (read-content held_with n f same v m) ∙ e))

-- nothing is there
pub none-empty : NoneKept no_objects_made
none-empty n c e = absurd (let clash : None ≡ Some c = e in cc)

pub none-claims : (v : Objects) → NoneKept v → (n : ℕ) (k : KeptSet) → kept_by v n ≡ Some k → k ≡ none_kept
none-claims v none n k e = go (content_of v n) refl e
  where
    go : (o : Option Content) → content_of v n ≡ o → option_map (λ (c : Content). kept_of c.body) o ≡ Some k → k ≡ none_kept
    go None p q = absurd (let clash : None ≡ Some k = q in cc)
    go (Some c) p q = sym (same_Some (kept_of c.body) k q) ∙ (none n c p).0

pub goes-kept : {step : Board → Board} (v w : Objects) → Goes step v w → KeptBefore v w
goes-kept v w goes n k e = now (content_of w n) refl
  where
    before : (c : Content) (o : Option Content) → option_map (λ (d : Content). d.body) o ≡ Some c.body → option_map (λ (d : Content). d.side) o ≡ Some c.side
        → option_map kept_with o ≡ Some (kept_with c)
    before c None q r = absurd (let clash : None ≡ Some c.body = q in cc)
    before c (Some d) q r =
        ap₂ (λ (b : Body) (s : Side). Some (kept_of b, s)) (same_Some d.body c.body q) (same_Some d.side c.side r)

    now : (o : Option Content) → content_of w n ≡ o → all_kept v n ≡ Some k
    now None q = absurd (let clash : None ≡ Some k = sym (ap (option_map kept_with) q) ∙ e in cc)
    now (Some c) q = before c (content_of v n) (goes.bodies n c q) (goes.sides n c q) ∙ sym (ap (option_map kept_with) q) ∙ e
