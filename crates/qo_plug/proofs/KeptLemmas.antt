-- What is kept of objects, over one stage and the next.
use Rattle.std.proofs.Common.{◌≡◌, ap, sym, subst, ◌∙◌, ℕ, Bool, [], option_map}
use Rattle.qo_kinds.specs.Bodies.{kept_of}
use Rattle.qo_model.specs.Board.{Board}
use Rattle.qo_object.specs.Content.{Content}
use Rattle.qo_heap.specs.Acts.{KeepsCounts, counts_of}
use Rattle.qo_heap.specs.Objects.{Objects, content_of, with_edit}
use Rattle.qo_heap.proofs.BoardObjects.{content-other}
use Rattle.qo_properties.specs.KeptClaims.{ClaimsBefore, CountsBefore, KeptBefore, KeptOrNew, NoneKept, SameClaims}
use Rattle.qo_properties.proofs.KeptLemmas.{claims-new, counts-either, counts-there}
use Rattle.qo_reset.specs.Counts.{CountsKept}
use Rattle.qo_reset.specs.Phases.{count_on}
use Rattle.qo_plug.specs.declared.placing.Plugging.{Plugging}
use Rattle.qo_plug.specs.declared.placing.Plugging.TheVariants.{Attached, NoticesFull}
use Rattle.qo_plug.specs.KeptClaims.{ClaimsBut, ClaimsOrNewBut, CountsOrNew, KeptAs, KeptSoFar, OthersBefore, OthersOrNew}

pub new-then : (u v w : Objects) → KeptOrNew u v → KeptBefore v w → KeptOrNew u w
new-then u v w h g n k e = h n k (g n k e)

pub new-from : (u v w : Objects) → v ≡ u → KeptOrNew v w → KeptOrNew u w
new-from u v w same h = subst (λ (x : Objects). KeptOrNew x w) same h

-- one object was given claims
pub given-but : (v w : Objects) (one : ℕ) (f : Content → Content) → SameClaims (with_edit one f v) w → ClaimsBut one v w
given-but v w one f same n k other e = ap (option_map (λ (c : Content). kept_of c.body)) (sym (content-other v one n f other)) ∙ sym (same n) ∙ e

pub same-before : (v w : Objects) → KeepsCounts v w → CountsBefore v w
same-before v w same n k e = sym (same n) ∙ e

counts-new : (v w : Objects) → KeptOrNew v w → CountsOrNew v w
counts-new v w h n k e = let x = counts-there (content_of w n) k e in counts-either v n k x.0 x.2 (h n x.0 x.1)

-- a device was begun, and placed
pub so-far : (u v w : Objects) (one : ℕ) (plugging : Plugging) → KeptOrNew u v → KeptAs one plugging v w → KeptSoFar one plugging u w
so-far u v w one (Attached path) h g = (λ n k other e. claims-new u v h n k (g.0 n k other e), λ n k e. counts-new u v h n k (g.1 n k e))
so-far u v w one (NoticesFull out) h g = λ n k e. h n k (g n k e)

-- and finished, or refused by the notices
pub far-but : (u v w : Objects) (one : ℕ) (plugging : Plugging) → KeptSoFar one plugging u v → ClaimsBefore v w → ClaimsOrNewBut one u w
far-but u v w one (Attached path) h g = λ n k other e. h.0 n k other (g n k e)
far-but u v w one (NoticesFull out) h g = λ n k other e. claims-new u v h n k (g n k e)

pub far-new : (u v w : Objects) (one : ℕ) (plugging : Plugging) → KeptSoFar one plugging u v → (out : Bool) × (plugging ≡ NoticesFull out) → KeptBefore v w
    → KeptOrNew u w
far-new u v w one plugging h full g =
    let before : KeptOrNew u v = subst (λ (x : Plugging). KeptSoFar one x u v) full.1 h in
    new-then u v w before g

-- the counts, once it is plugged
pub far-others : (c : Board) (u v w : Objects) (one : ℕ) (plugging : Plugging) → KeptSoFar one plugging u v → OthersBefore c one v w → OthersOrNew c one u w
far-others c u v w one (Attached path) h g = λ n k e apart. h.1 n k (g n k e apart)
far-others c u v w one (NoticesFull out) h g = λ n k e apart. counts-new u v h n k (g n k e apart)

-- where nothing is kept, no holds are counted
pub opening-counts : (w : Objects) → NoneKept w → CountsKept [] w
unfolding count_on
opening-counts w none n c there =
    let new : counts_of c ≡ (0, 0) = (none n c there).1 in
    record { count = ap (λ (k : ℕ × ℕ). k.0) new; unmarked = ap (λ (k : ℕ × ℕ). k.1) new }
