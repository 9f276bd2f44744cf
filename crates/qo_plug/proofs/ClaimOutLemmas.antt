-- Claims that are out, and claims that an object keeps.
use Rattle.std.proofs.Common.{◌≡◌, refl, ap, sym, subst, ◌∙◌, ℕ, ◌+◌, cond, List, [], ◌∷◌, ◌++◌, count_by, append_assoc, Option, Some, None, IfSome, option_map, arith}
use Rattle.std.specs.Prelude.{option_and_then}
use Rattle.std.proofs.lemmas.List.Sums.{sum_by-append, sum_by-cons}
use Rattle.std.proofs.lemmas.Option.{same_Some}
use Rattle.qo_slots.specs.declared.keys.Key.{Key}
use Rattle.qo_claims.specs.declared.claims.Claimed.{Claimed}
use Rattle.qo_claims.specs.declared.claims.Claimed.TheVariants as on
use Rattle.qo_heap.specs.Rows.{IsLive}
use Rattle.qo_kinds.specs.Bodies.{IsBare, kept_of}
use Rattle.qo_kinds.specs.declared.bodies.Body.{Body}
use Rattle.qo_kinds.specs.declared.kept_set.KeptSet.{KeptSet}
use Rattle.qo_object.specs.Content.{Content, with_id}
use Rattle.qo_heap.specs.Book.{IsBook, claim_eq, kept_times, one}
use Rattle.qo_heap.specs.Objects.{IsHeap, Objects, content_of, with_edit}
use Rattle.qo_heap.proofs.BookLemmas.{book-put}
use Rattle.qo_heap.proofs.HeapLemmas.{none-of}
use Rattle.qo_heap.proofs.HeapLemmas.{edit-same as heap-same}
use Rattle.qo_heap.proofs.BoardObjects.{live-content}
use Rattle.qo_plug.specs.Placement.{named}
use Rattle.qo_plug.specs.DeviceClaims.{kept_out, one_out}
use Rattle.qo_plug.proofs.PlacementFills.{edit-on}

count-one : (x claim : Claimed) → count_by (claim_eq x) (claim ∷ []) ≡ one x (Some claim)
count-one x claim = omega (arith, sum_by-cons (λ (y : Claimed). cond {A = ℕ} (claim_eq x y) 1 0) claim [])

bare-of : (v : Objects) (n : ℕ) → IfSome (content_of v n) (λ c. IsBare c.body) → (c : Content) → content_of v n ≡ Some c → IsBare c.body
bare-of v n bare c there = go (content_of v n) bare there
  where
    go : (o : Option Content) → IfSome o (λ d. IsBare d.body) → o ≡ Some c → IsBare c.body
    go None h e = cc
    go (Some d) h e = subst (λ (x : Content). IsBare x.body) (same_Some d c e) h

-- an id of a device, where it has none
pub named-none : (v : Objects) → IsHeap v → (o : Key) → IsLive v.rows o → option_and_then (λ (c : Content). c.device_id) (content_of v o.birth) ≡ None
    → v ≡ with_edit o.birth (named None) v
named-none v good o live none =
    let (c, there) = live-content v o live in
    let unnamed : c.device_id ≡ None = none-of (λ (d : Content). d.device_id) (content_of v o.birth) c there none in
    sym (edit-on v good o.birth (named None) (λ (d : Content). d) c there (ap (λ (id : Option (List ℕ)). record c { device_id = id }) (sym unnamed))
    ∙ heap-same o.birth v)

-- the claim on it is kept
pub named-book : (v : Objects) → IsHeap v → (o : Key) → IsLive v.rows o → option_and_then (λ (c : Content). c.device_id) (content_of v o.birth) ≡ None
    → (id : List ℕ) (claim : Claimed)
    → claim ≡ on.Device id → (w : Objects) → w ≡ with_edit o.birth (with_id id) v → (out : List Claimed) → IsBook (claim ∷ out) v → IsBook out w
named-book v good o live none id claim is w now out h =
    let (c, there) = live-content v o live in
    let unnamed : c.device_id ≡ None = none-of (λ (d : Content). d.device_id) (content_of v o.birth) c there none in
    subst (IsBook out) (sym now)
    (book-put (claim ∷ []) out v good o.birth (with_id id) c there
    (λ x.
    let was : one x (option_map on.Device c.device_id) ≡ 0 = ap (λ (d : Option (List ℕ)). one x (option_map on.Device d)) unnamed in
    let count : count_by (claim_eq x) (claim ∷ []) ≡ one x (Some claim) = count-one x claim in
    let same : one x (Some claim) ≡ one x (Some (on.Device id)) = ap (λ (y : Claimed). one x (Some y)) is in
    omega (arith, was, count, same))
    h)

-- the claims of a set are kept

one-count : (x : Claimed) (o : Option Claimed) → count_by (claim_eq x) (one_out o) ≡ one x o
one-count x None = refl
one-count x (Some claim) = count-one x claim

abbrev its_count : Claimed → List Claimed → ℕ
its_count x l = count_by (claim_eq x) l

append-count : (x : Claimed) (l m : List Claimed) → its_count x (l ++ m) ≡ its_count x l + its_count x m
append-count x l m = sum_by-append (λ (y : Claimed). cond {A = ℕ} (claim_eq x y) 1 0) l m

kept-count : (x : Claimed) (k : KeptSet) → its_count x (kept_out k) ≡ kept_times x k
kept-count x k =
    let range = one_out k.range in
    let backend = one_out k.backend in
    let ring = one_out k.ring in
    let slot = one_out k.slot in
    omega (
      arith,
      append-count x (range ++ backend ++ ring) slot,
      append-count x (range ++ backend) ring,
      append-count x range backend,
      one-count x k.slot,
      one-count x k.ring,
      one-count x k.backend,
      one-count x k.range,
    )

bare-times : (x : Claimed) (b : Body) → IsBare b → kept_times x (kept_of b) ≡ 0
bare-times x b bare = ap (kept_times x) bare

pub kept-book : (v : Objects) → IsHeap v → (o : Key) → IsLive v.rows o → IfSome (content_of v o.birth) (λ c. IsBare c.body) → (k : KeptSet) (body : Body)
    → kept_of body ≡ k → (out : List Claimed) → IsBook (kept_out k ++ out) v → IsBook out (with_edit o.birth (λ c. record c { body = body }) v)
kept-book v good o live bare k body kept out h =
    let (c, there) = live-content v o live in
    book-put (kept_out k) out v good o.birth (λ d. record d { body = body }) c there
    (λ x.
    let was : kept_times x (kept_of c.body) ≡ 0 = bare-times x c.body (bare-of v o.birth bare c there) in
    let now : kept_times x (kept_of body) ≡ kept_times x k = ap (kept_times x) kept in
    omega (arith, was, now, kept-count x k))
    h

-- the body that was written is what was there, changed
pub body-put : (v : Objects) → IsHeap v → (o : Key) → IsLive v.rows o → (old new : Body) (f : Body → Body)
    → option_map (λ (c : Content). c.body) (content_of v o.birth) ≡ Some old → new ≡ f old
    → with_edit o.birth (λ c. record c { body = new }) v ≡ with_edit o.birth (λ c. record c { body = f c.body }) v
body-put v good o live old new f was is =
    let (c, there) = live-content v o live in
    let here : c.body ≡ old = same_Some c.body old (ap (option_map (λ (d : Content). d.body)) (sym there) ∙ was) in
    edit-on v good o.birth (λ d. record d { body = new }) (λ d. record d { body = f d.body }) c there (ap (λ (b : Body). record c { body = b }) (is
    ∙ ap f (sym here)))

-- the claims that are out, one after the other
abbrev parts_out : KeptSet → List Claimed → List Claimed
parts_out k out = one_out k.range ++ (one_out k.backend ++ (one_out k.ring ++ (one_out k.slot ++ out)))

pub out-parts : (k : KeptSet) (out : List Claimed) → kept_out k ++ out ≡ parts_out k out
out-parts k out =
    append_assoc (one_out k.range ++ one_out k.backend ++ one_out k.ring) (one_out k.slot) out
    ∙ append_assoc (one_out k.range ++ one_out k.backend) (one_out k.ring) (one_out k.slot ++ out)
    ∙ append_assoc (one_out k.range) (one_out k.backend) (one_out k.ring ++ (one_out k.slot ++ out))

pub parts-book : (k l : KeptSet) (out : List Claimed) (v : Objects) → k ≡ l → IsBook (parts_out l out) v → IsBook (kept_out k ++ out) v
parts-book k l out v same h =
    subst (λ (m : List Claimed). IsBook m v) (sym (ap (λ (x : KeptSet). kept_out x ++ out) same ∙ out-parts l out)) h
