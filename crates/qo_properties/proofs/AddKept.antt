-- A heap with an object more: what is kept of who is there was kept before, or it is new and nothing is kept of it.
use Rattle.std.proofs.Common.{◌≡◌, ◌⊎◌, inl, inr, refl, ap, sym, subst, ◌∙◌, ℕ, Bool, true, false, eqb, List, [], ◌∷◌, ◌++◌, Option, Some, None, option_map}
use Rattle.std.proofs.lemmas.Option.{same_Some}
use Rattle.qo_values.specs.declared.kinds.TypeId.{TypeId}
use Rattle.qo_kinds.specs.Bodies.{kept_of, none_kept}
use Rattle.qo_kinds.specs.declared.kept_set.KeptSet.{KeptSet}
use Rattle.qo_kinds.proofs.BodyLemmas.{fresh-bare}
use Rattle.qo_slots.specs.declared.keys.Key.{Key}
use Rattle.qo_heap.specs.Rows.{object_at}
use Rattle.qo_object.specs.declared.slots.Slot.TheVariants.{Child}
use Rattle.qo_object.specs.Slots.{Named}
use Rattle.qo_object.specs.Content.{Content, as_made, fresh, with_slot}
use Rattle.qo_object.specs.Room.{no_side}
use Rattle.qo_heap.specs.Acts.{counts_of}
use Rattle.qo_heap.specs.Objects.{Objects, content_of, with_edit}
use Rattle.qo_life.proofs.TreeLemmas.{read-content}
use Rattle.qo_properties.specs.Additions.{IsTried, with_newest}
use Rattle.qo_properties.specs.KeptClaims.{Kept, KeptOrNew, NoneKept, all_kept, kept_with, new_kept}
use Rattle.qo_properties.proofs.KeptLemmas.{counts_in}

-- of a new object nothing is kept
pub fresh-kept : (t : TypeId) → kept_with (fresh t) ≡ new_kept
fresh-kept t = ap (λ (x : KeptSet). (x, no_side)) (fresh-bare t)

pub same-kept : (v w : Objects) → w ≡ v → KeptOrNew v w
same-kept v w same n k e = inl (subst (λ (x : Objects). all_kept x n ≡ Some k) same e)

pub tried-kept : (v w : Objects) (t : TypeId) → IsTried t v w → KeptOrNew v w
tried-kept v w t (inl same) n k e = inl (subst (λ (x : Objects). all_kept x n ≡ Some k) same e)
tried-kept v w t (inr same) n k e = inl (subst (λ (x : Objects). all_kept x n ≡ Some k) same e)

abbrev kept_at : List (Key × Content) → ℕ → Option Kept
kept_at rows n = option_map kept_with (object_at rows n)

more : (key : Key) (c : Content) → kept_with c ≡ new_kept → (n : ℕ) (k : Kept) (rows : List (Key × Content))
    → kept_at (rows ++ (key, c) ∷ []) n ≡ Some k → (kept_at rows n ≡ Some k) ⊎ ((kept_at rows n ≡ None) × (k ≡ new_kept))
more key c bare n k [] e = go (eqb key.birth n) refl
  where
    go : (t : Bool) → eqb key.birth n ≡ t → (kept_at [] n ≡ Some k) ⊎ ((kept_at [] n ≡ None) × (k ≡ new_kept))
    go true p = inr (refl, sym (same_Some (kept_with c) k (rw p at e)) ∙ bare)
    go false p = absurd (let clash : kept_at [] n ≡ Some k = rw p at e in cc)
more key c bare n k (row ∷ rows) e = go (eqb row.0.birth n) refl (more key c bare n k rows)
  where
    go : (t : Bool) → eqb row.0.birth n ≡ t
        → (kept_at (rows ++ (key, c) ∷ []) n ≡ Some k → (kept_at rows n ≡ Some k) ⊎ ((kept_at rows n ≡ None) × (k ≡ new_kept)))
        → (kept_at (row ∷ rows) n ≡ Some k) ⊎ ((kept_at (row ∷ rows) n ≡ None) × (k ≡ new_kept))
    go true p rest = rw p (inl (rw p at e))
    go false p rest = rw p (rest (rw p at e))

pub more-kept : (v w : Objects) (key : Key) (c : Content) → kept_with c ≡ new_kept → w.rows ≡ v.rows ++ (key, c) ∷ [] → KeptOrNew v w
more-kept v w key c bare is n k e = more key c bare n k v.rows (subst (λ (rows : List (Key × Content)). kept_at rows n ≡ Some k) is e)

-- where nothing was kept but periods, nothing is
pub none-new : (v w : Objects) → KeptOrNew v w → NoneKept v → NoneKept w
none-new v w kept none n c there = by (kept n (kept_with c) (ap (option_map kept_with) there))
  where
    before : (o : Option Content) → content_of v n ≡ o → option_map kept_with o ≡ Some (kept_with c) → (kept_of c.body ≡ none_kept) × (counts_of c ≡ (0, 0))
    before None p e = absurd (let clash : None ≡ Some (kept_with c) = e in cc)
    before (Some d) p e =
        let same : kept_with d ≡ kept_with c = same_Some (kept_with d) (kept_with c) e in
        let h = none n d p in
        (sym (ap (λ (k : Kept). k.0) same) ∙ h.0, sym (ap counts_in same) ∙ h.1)

    by : (all_kept v n ≡ Some (kept_with c)) ⊎ ((all_kept v n ≡ None) × (kept_with c ≡ new_kept)) → (kept_of c.body ≡ none_kept) × (counts_of c ≡ (0, 0))
    by (inl same) = before (content_of v n) refl same
    by (inr new) = (ap (λ (k : Kept). k.0) new.1, ap counts_in new.1)

pub object-kept : (v : Objects) (o parent : Key) (name : List ℕ) (t : TypeId) (slots : List Named) (w : Objects)
    → w ≡ with_newest o (as_made t slots 0) (with_edit parent.birth (with_slot name (Child o)) v) → KeptOrNew v w
object-kept v o parent name t slots w is n k e =
    let u : Objects = with_edit parent.birth (with_slot name (Child o)) v in
    by (read-content kept_with parent.birth (with_slot name (Child o)) (λ c. refl) v n)
    (more o (as_made t slots 0) (fresh-kept t) n k u.rows (subst (λ (x : Objects). all_kept x n ≡ Some k) is e))
  where
    by : all_kept (with_edit parent.birth (with_slot name (Child o)) v) n ≡ all_kept v n
        → (all_kept (with_edit parent.birth (with_slot name (Child o)) v) n ≡ Some k)
        ⊎ ((all_kept (with_edit parent.birth (with_slot name (Child o)) v) n ≡ None) × (k ≡ new_kept))
        → (all_kept v n ≡ Some k) ⊎ ((all_kept v n ≡ None) × (k ≡ new_kept))
    by same (inl q) = inl (sym same ∙ q)
    by same (inr q) = inr (sym same ∙ q.0, q.1)
