-- What is kept of objects, where bodies stay and what is kept beside the tree, and where a body is given claims.
use Rattle.std.proofs.Common.{◌≡◌, refl, ap, ap₂, sym, subst, ◌∙◌, ℕ, Bool, true, false, eqb, Option, Some, None, option_map}
use Rattle.std.proofs.lemmas.Bool.{eqb-true}
use Rattle.std.proofs.lemmas.Option.{same_Some}
use Rattle.qo_kinds.specs.Bodies.{kept_of}
use Rattle.qo_kinds.specs.declared.bodies.Body.{Body}
use Rattle.qo_kinds.specs.declared.kept_set.KeptSet.{KeptSet}
use Rattle.qo_object.specs.declared.room.Side.{Side}
use Rattle.qo_object.specs.Content.{Content}
use Rattle.qo_heap.specs.Objects.{Objects, content_of, with_edit}
use Rattle.qo_heap.proofs.BoardObjects.{content-edited, content-other}
use Rattle.qo_plug.specs.Placement.{kept_in, own_of}
use Rattle.qo_properties.specs.KeptClaims.{Kept, SameKept, all_kept, kept_by, kept_with}

-- all bodies are as before, and what is kept beside the tree
abbrev pub SameOwn : Objects → Objects → Type 0
SameOwn v w = (n : ℕ) → option_map own_of (content_of w n) ≡ option_map own_of (content_of v n)

-- who is there has what it had, and all are there that were
pub there-own : (v w : Objects)
    → ((n : ℕ) (c : Content) → content_of w n ≡ Some c → option_map (λ (d : Content). d.body) (content_of v n) ≡ Some c.body)
    → ((n : ℕ) (c : Content) → content_of w n ≡ Some c → option_map (λ (d : Content). d.side) (content_of v n) ≡ Some c.side)
    → ((n : ℕ) → option_map (λ (c : Content). c.kind) (content_of w n) ≡ option_map (λ (c : Content). c.kind) (content_of v n)) → SameOwn v w
there-own v w bodies sides kinds n = go (content_of v n) (content_of w n) refl refl
  where
    both : (c : Content) (x : Option Content) → option_map (λ (d : Content). d.body) x ≡ Some c.body → option_map (λ (d : Content). d.side) x ≡ Some c.side
        → Some (own_of c) ≡ option_map own_of x
    both c None p q = absurd (let clash : None ≡ Some c.body = p in cc)
    both c (Some d) p q = sym (ap₂ (λ (b : Body) (s : Side). Some (b, s)) (same_Some d.body c.body p) (same_Some d.side c.side q))

    go : (x y : Option Content) → content_of v n ≡ x → content_of w n ≡ y → option_map own_of (content_of w n) ≡ option_map own_of (content_of v n)
    go x (Some c) p q = ap (option_map own_of) q ∙ both c (content_of v n) (bodies n c q) (sides n c q)
    go None None p q = ap (option_map own_of) (q ∙ sym p)
    go (Some d) None p q =
        absurd
        (let clash : None ≡ Some d.kind = sym (ap (option_map (λ (c : Content). c.kind)) q) ∙ kinds n ∙ ap (option_map (λ (c : Content). c.kind)) p in cc)

of-own : {A : Type 0} (g : Body → Side → A) (x y : Option Content) → option_map own_of y ≡ option_map own_of x
    → option_map (λ (c : Content). g c.body c.side) y ≡ option_map (λ (c : Content). g c.body c.side) x
of-own g None None same = refl
of-own g None (Some d) same = absurd (let clash : Some (own_of d) ≡ None = same in cc)
of-own g (Some c) None same = absurd (let clash : None ≡ Some (own_of c) = same in cc)
of-own g (Some c) (Some d) same = ap (λ (p : Body × Side). Some (g p.0 p.1)) (same_Some (own_of d) (own_of c) same)

pub of-bodies : {A : Type 0} (g : Body → A) (x y : Option Content) → option_map own_of y ≡ option_map own_of x
    → option_map (λ (c : Content). g c.body) y ≡ option_map (λ (c : Content). g c.body) x
of-bodies g x y same = of-own (λ b s. g b) x y same

pub kept-own : (v w : Objects) → SameOwn v w → SameKept v w
kept-own v w same n = of-own (λ (b : Body) (s : Side). (kept_of b, s)) (content_of v n) (content_of w n) (same n)

given-one : (k : KeptSet) (x : Option Content) → option_map (λ (c : Content). kept_of c.body) (option_map (kept_in k) x) ≡ option_map (λ (c : Content). k) x
given-one k None = refl
given-one k (Some c) = refl

pub given-kept : (v : Objects) (n : ℕ) (k : KeptSet) → kept_by (with_edit n (kept_in k) v) n ≡ option_map (λ (c : Content). k) (content_of v n)
given-kept v n k = ap (option_map (λ (c : Content). kept_of c.body)) (content-edited v n (kept_in k)) ∙ given-one k (content_of v n)

abbrev given : KeptSet → Content → Kept
given k c = (k, c.side)

given-whole : (k : KeptSet) (x : Option Content) → option_map kept_with (option_map (kept_in k) x) ≡ option_map (given k) x
given-whole k None = refl
given-whole k (Some c) = refl

given-all : (v : Objects) (n : ℕ) (k : KeptSet) → all_kept (with_edit n (kept_in k) v) n ≡ option_map (given k) (content_of v n)
given-all v n k = ap (option_map kept_with) (content-edited v n (kept_in k)) ∙ given-whole k (content_of v n)

-- one is given claims, where all were as before
pub kept-given : (v w : Objects) (o : ℕ) (k : KeptSet) → SameOwn v w → SameKept (with_edit o (kept_in k) v) (with_edit o (kept_in k) w)
kept-given v w o k same n = go (eqb n o) refl
  where
    other : (u : Objects) → eqb n o ≡ false → all_kept (with_edit o (kept_in k) u) n ≡ all_kept u n
    other u p = ap (option_map kept_with) (content-other u o n (kept_in k) p)

    go : (t : Bool) → eqb n o ≡ t → all_kept (with_edit o (kept_in k) w) n ≡ all_kept (with_edit o (kept_in k) v) n
    go true p =
        subst (λ (m : ℕ). all_kept (with_edit o (kept_in k) w) m ≡ all_kept (with_edit o (kept_in k) v) m) (sym (eqb-true n o p))
        (given-all w o k ∙ of-own (λ (b : Body) (s : Side). (k, s)) (content_of v o) (content_of w o) (same o) ∙ sym (given-all v o k))
    go false p = other w p ∙ kept-own v w same n ∙ sym (other v p)
