-- That the book of claims stays right.
use Rattle.std.proofs.Common.{◌≡◌, refl, sym, subst, ℕ, ◌+◌, List, [], ◌∷◌, ◌++◌, Option, None, inl, inr, arith}
use Rattle.std.proofs.lemmas.List.Sums.{sum_by-append, sum_by-cons}
use Rattle.qo_values.specs.declared.kinds.TypeId.{TypeId}
use Rattle.qo_kinds.specs.Bodies.{kept_of, none_kept}
use Rattle.qo_kinds.specs.declared.bodies.Body.{Body}
use Rattle.qo_kinds.proofs.BodyLemmas.{fresh-bare}
use Rattle.qo_slots.specs.declared.keys.Key.{Key}
use Rattle.qo_claims.specs.declared.claims.Claimed.TheVariants as on
use Rattle.qo_heap.specs.Log.{Log, noted_all}
use Rattle.qo_life.specs.Life.{init_notes}
use Rattle.qo_object.specs.Content.{Content, as_made, with_slot}
use Rattle.qo_object.specs.Slots.{Named}
use Rattle.qo_object.specs.declared.slots.Slot.TheVariants.{Child}
use Rattle.qo_heap.specs.Book.{IsBook, owned}
use Rattle.qo_heap.specs.Objects.{Objects, no_objects_made, with_edit}
use Rattle.qo_heap.proofs.BookLemmas.{book-edit}
use Rattle.qo_properties.specs.Additions.{IsTried, with_newest}
use Rattle.qo_properties.specs.Claims.{KeepsBook}

-- nothing is held, and nothing is there
pub book-none : IsBook [] no_objects_made
book-none (on.Device a) = refl
book-none (on.Slot a) = refl
book-none (on.Ring a) = refl
book-none (on.Backend a) = refl
book-none (on.Range a) = refl

pub keeps-none : (v w : Objects) → w ≡ v → KeepsBook v w
keeps-none v w same out h = subst (λ (x : Objects). IsBook out x) (sym same) h

-- what an object holds claims by: its body, and its id
abbrev holders : Content → Body × Option (List ℕ)
holders c = (c.body, c.device_id)

-- an object was changed, but not what it holds claims by
pub edit-keeps : (v w : Objects) (n : ℕ) (f : Content → Content) → ((c : Content) → holders (f c) ≡ holders c) → w ≡ with_edit n f v → KeepsBook v w
edit-keeps v w n f same is out h = subst (λ (x : Objects). IsBook out x) (sym is) (book-edit out v n f same h)

-- an object more, which holds no claim
pub more-keeps : (v : Objects) (key : Key) (c : Content) (born : ℕ) (log : Log) → kept_of c.body ≡ none_kept → c.device_id ≡ None
    → KeepsBook v (record v { rows = v.rows ++ (key, c) ∷ []; born = born; log = log })
more-keeps v key c born log bare unnamed out h x =
    let none : owned x (key, c) ≡ 0 = rw (bare, unnamed) refl in
    omega (arith, h x, none, sum_by-append (owned x) v.rows ((key, c) ∷ []), sum_by-cons (owned x) (key, c) [])

-- the heap is as it was, or an attempt was given up
pub tried-keeps : (v w : Objects) (t : TypeId) → IsTried t v w → KeepsBook v w
tried-keeps v w t (inl same) out h = subst (λ (x : Objects). IsBook out x) (sym same) h
tried-keeps v w t (inr same) out h = subst (λ (x : Objects). IsBook out x) (sym same) h

-- an object was added under another
pub object-keeps : (v : Objects) (o parent : Key) (name : List ℕ) (t : TypeId) (slots : List Named) (w : Objects)
    → w ≡ with_newest o (as_made t slots 0) (with_edit parent.birth (with_slot name (Child o)) v) → KeepsBook v w
object-keeps v o parent name t slots w is out h =
    let beside : Objects = with_edit parent.birth (with_slot name (Child o)) v in
    subst (λ (x : Objects). IsBook out x) (sym is)
    (more-keeps beside o (as_made t slots 0) (beside.born + 1) (noted_all (init_notes o.birth t) beside.log) (fresh-bare t) refl out
    (book-edit out v parent.birth (with_slot name (Child o)) (λ c. refl) h))
