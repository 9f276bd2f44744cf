-- The body of a DIMM, which stands on a range.
use Rattle.std.proofs.Common.{◌≡◌, refl, ap, sym, subst, ◌∙◌, ℕ, List, sum_by, Option, Some, None, IfSome, option_map, arith}
use Rattle.std.specs.Prelude.{option_and_then}
use Rattle.std.proofs.lemmas.Option.{same_Some}
use Rattle.qo_values.specs.Registers.{Registers}
use Rattle.qo_values.specs.declared.ranges.Range.{Range}
use Rattle.qo_slots.specs.declared.keys.Key.{Key}
use Rattle.qo_claims.specs.declared.claims.Claimed.{Claimed}
use Rattle.qo_heap.specs.Rows.{IsLive, edit}
use Rattle.qo_kinds.proofs.BodyLemmas.{same-registers}
use Rattle.qo_kinds.specs.Bodies.{kept_of, registers_of, with_registers}
use Rattle.qo_kinds.specs.declared.bodies.Body.{Body}
use Rattle.qo_model.specs.Board as board
use Rattle.qo_model.specs.Plug.{registers_on, with_body_of}
use Rattle.qo_model.specs.Release as release
use Rattle.qo_object.specs.Content.{Content}
use Rattle.qo_object.specs.BoardObject.{shown}
use Rattle.qo_heap.specs.Board.{Shows}
use Rattle.qo_heap.specs.Book.{IsBook, owned}
use Rattle.qo_heap.specs.Objects.{IsHeap, Objects, content_of, with_edit}
use Rattle.qo_heap.proofs.BoardEdits.{shows-at}
use Rattle.qo_heap.proofs.BookLemmas.{sum-edit}
use Rattle.qo_heap.proofs.BoardObjects.{live-content}
use Rattle.qo_life.proofs.TreeLemmas.{read-content}
use Rattle.qo_properties.proofs.FillingLemmas.{edit-twice}
use Rattle.qo_plug.specs.declared.resources.Memory.{Memory}
use Rattle.qo_plug.specs.Placement.{Alike, HasDimm, IsDimm, named, range_in, ranged}
use Rattle.qo_properties.specs.KeptClaims.{SameKept, all_kept, kept_with}
use Rattle.qo_plug.proofs.PlacementSteps.{alike-edit}

-- a DIMM stands on its range

ranged-registers : (range : Option Range) (b : Body) → IfSome range (λ r. IsDimm b)
    → registers_of (with_registers (registers_on range (registers_of b)) b) ≡ registers_on range (registers_of b)
ranged-registers range b is = same-registers (registers_on range (registers_of b))

pub ranged-alike : (v w : Objects) (n : ℕ) (range : Option Range) → w ≡ with_edit n (ranged range) v → Alike v w
ranged-alike v w n range is = alike-edit v w n (ranged range) (λ c. refl) (λ c. refl) (ap (λ (x : Objects). x.rows) is)

pub ranged-unnamed : (v w : Objects) (n : ℕ) (range : Option Range) → w ≡ with_edit n (ranged range) v
    → option_and_then (λ (c : Content). c.device_id) (content_of v n) ≡ None
    → option_and_then (λ (c : Content). c.device_id) (content_of w n) ≡ None
ranged-unnamed v w n range is none =
    go (content_of v n) (content_of w n)
    (ap (λ (x : Objects). option_map (λ (c : Content). c.device_id) (content_of x n)) is ∙ read-content (λ (c : Content). c.device_id) n (ranged range)
    (λ c. refl) v n)
    none
  where
    go : (x y : Option Content) → option_map (λ (c : Content). c.device_id) y ≡ option_map (λ (c : Content). c.device_id) x
        → option_and_then (λ (c : Content). c.device_id) x ≡ None → option_and_then (λ (c : Content). c.device_id) y ≡ None
    go x None same h = refl
    go None (Some d) same h = cc
    go (Some c) (Some d) same h = same_Some d.device_id c.device_id same ∙ h

pub ranged-book : (out : List Claimed) (v w : Objects) (n : ℕ) (range : Option Range) → w ≡ with_edit n (ranged range) v → IsBook out v → IsBook out w
ranged-book out v w n range is h = subst (IsBook out) (sym is) (λ x. let sums = same x in omega (arith, h x, sums))
  where
    same : (x : Claimed) → sum_by (owned x) (edit n (ranged range) v.rows) ≡ sum_by (owned x) v.rows
    same x = sum-edit (owned x) n (ranged range) (λ row. refl) v.rows

-- and has its id: its body keeps what it kept
pub body-kept : (v u w : Objects) (n : ℕ) (id : Option (List ℕ)) (range : Option Range) → u ≡ with_edit n (ranged range) v → w ≡ with_edit n (named id) u
    → SameKept v w
body-kept v u w n id range first second m =
    ap (λ (x : Objects). all_kept x m) second
    ∙ read-content kept_with n (named id) (λ c. refl) u m
    ∙ ap (λ (x : Objects). all_kept x m) first
    ∙ read-content kept_with n (ranged range) (λ c. refl) v m

-- the board shows both
pub body-shown : (b : board.Board) (v u w : Objects) (o : Key) (id : Option (List ℕ)) (memory : Option Memory) → IsHeap v → IsLive v.rows o
    → IfSome memory (λ m. IfSome (content_of v o.birth) (λ c. IsDimm c.body)) → u ≡ with_edit o.birth (ranged (range_in memory)) v
    → w ≡ with_edit o.birth (named id) u → Shows b v
    → Shows (release.edit o.birth (with_body_of id (range_in memory)) b) w
body-shown b v u w o id memory good live is first second s =
    let (c, there) = live-content v o live in
    let both : Content → Content = λ d. named id (ranged (range_in memory) d) in
    subst (Shows (release.edit o.birth (with_body_of id (range_in memory)) b))
    (sym (second ∙ ap (with_edit o.birth (named id)) first ∙ edit-twice o.birth (named id) (ranged (range_in memory)) both (λ d. refl) v))
    (shows-at o.birth both (with_body_of id (range_in memory)) b v s good c there
    (ap (λ (r : Registers). record (shown o.birth c) { registers = r; device_id = id }) (ranged-registers (range_in memory) c.body (here memory c there is)))
    (λ d. refl))
  where
    here : (memory : Option Memory) (c : Content) → content_of v o.birth ≡ Some c
        → IfSome memory (λ m. IfSome (content_of v o.birth) (λ d. IsDimm d.body)) → IfSome (range_in memory) (λ r. IsDimm c.body)
    here None c e h = tt
    here (Some m) c e h = subst (λ (x : Option Content). IfSome x (λ d. IsDimm d.body)) e h

-- who has the registers of a DIMM has them where they stay
pub still-dimm : (memory : Option Memory) (x y : Option Content)
    → option_map (λ (c : Content). registers_of c.body) y ≡ option_map (λ (c : Content). registers_of c.body) x
    → IfSome memory (λ m. IfSome x (λ c. IsDimm c.body)) → IfSome memory (λ m. IfSome y (λ c. IsDimm c.body))
still-dimm None x y same is = tt
still-dimm (Some m) x None same is = tt
still-dimm (Some m) None (Some d) same is = cc
still-dimm (Some m) (Some c) (Some d) same is = subst HasDimm (sym (same_Some (registers_of d.body) (registers_of c.body) same)) is
