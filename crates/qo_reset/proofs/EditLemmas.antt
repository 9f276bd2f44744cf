-- An object that is changed in neither its type nor its slots: who is below whom stays, and so do the counts.
use Rattle.std.proofs.Common.{◌≡◌, refl, ap, ap₂, sym, ◌∙◌, ℕ, suc, Bool, true, false, cond, eqb, List, [], length, Option, Some, None, option_map, count_by, codes}
use Rattle.std.specs.Option.{option_map_or}
use Rattle.std.proofs.Math.Path.{fun_ext}
use Rattle.std.proofs.lemmas.Option.{same_Some}
use Rattle.qo_values.specs.declared.kinds.TypeId.{TypeId}
use Rattle.qo_model.specs.Depth.{among}
use Rattle.qo_model.specs.Types.{is_a}
use Rattle.qo_object.specs.Content.{Content}
use Rattle.qo_object.specs.Slots.{Named}
use Rattle.qo_heap.specs.Acts.{counted_in, counts_of}
use Rattle.qo_heap.specs.Objects.{Objects, content_of, slots_of, with_edit}
use Rattle.qo_heap.proofs.HeapLemmas.{length-edit}
use Rattle.qo_reset.specs.Counts.{CountedBelow, IsCounted}
use Rattle.qo_reset.specs.Phases.{below_on, count_on, is_bus, is_under, kids_in, post_by}
use Rattle.qo_reset.proofs.WalkLemmas.{content-after}

module _ (n : ℕ) (f : Content → Content) (kinds : (c : Content) → (f c).kind ≡ c.kind) (slots : (c : Content) → (f c).slots ≡ c.slots) (v : Objects) where
  read-or : {A : Type 0} (g : Content → A) (d : A) → ((c : Content) → g (f c) ≡ g c) → (m : ℕ)
      → option_map_or g (content_of (with_edit n f v) m) d ≡ option_map_or g (content_of v m) d
  read-or {A} g d same m = ap (λ (o : Option Content). option_map_or g o d) (content-after n m f v) ∙ go (content_of v m)
    where
      one : (c : Content) (t : Bool) → g (cond t (f c) c) ≡ g c
      one c true = same c
      one c false = refl

      go : (o : Option Content) → option_map_or g (option_map (λ (c : Content). cond (eqb m n) (f c) c) o) d ≡ option_map_or g o d
      go None = refl
      go (Some c) = one c (eqb m n)

  edit-bus : is_bus (with_edit n f v) ≡ is_bus v
  edit-bus = fun_ext (λ m. read-or (λ (c : Content). is_a c.kind (codes "bus")) false (λ c. ap (λ (t : TypeId). is_a t (codes "bus")) (kinds c)) m)

  pub edit-below : below_on (with_edit n f v) ≡ below_on v
  edit-below =
      fun_ext
      (λ m. ap (λ (bus : ℕ → Bool). kids_in bus (bus m) (slots_of (with_edit n f v) m)) edit-bus
      ∙ ap (kids_in (is_bus v) (is_bus v m)) (read-or (λ (c : Content). c.slots) [] slots m))

  pub edit-under : (m r : ℕ) → is_under (with_edit n f v) m r ≡ is_under v m r
  edit-under m r = ap₂ (λ (next : ℕ → List ℕ) (d : ℕ). among (post_by next (suc d) r) m) edit-below (length-edit n f v.rows)

  pub edit-count : (holds : List ℕ) (m : ℕ) → count_on (with_edit n f v) holds m ≡ count_on v holds m
  unfolding count_on
  edit-count holds m = ap (λ (under : ℕ → Bool). count_by under holds) (fun_ext (λ r. edit-under m r))

-- what is counted of an object, as what is kept of it
pub counted-pair : (v : Objects) (holds : List ℕ) (n : ℕ) (k : ℕ × ℕ) → ((c : Content) → content_of v n ≡ Some c → IsCounted v holds n c) → counted_in v n ≡ Some k
    → k ≡ (count_on v holds n, 0)
counted-pair v holds n k each e = go (content_of v n) refl e
  where
    go : (o : Option Content) → content_of v n ≡ o → option_map counts_of o ≡ Some k → k ≡ (count_on v holds n, 0)
    go None is q = absurd (let clash : None ≡ Some k = q in cc)
    go (Some c) is q =
        let counted : IsCounted v holds n c = each c is in
        sym (same_Some (counts_of c) k q) ∙ ap₂ (λ (x y : ℕ). (x, y)) counted.count counted.unmarked

-- and back
pub pair-counted : (v : Objects) (holds : List ℕ) (n : ℕ) → ((k : ℕ × ℕ) → counted_in v n ≡ Some k → k ≡ (count_on v holds n, 0)) → (c : Content)
    → content_of v n ≡ Some c → IsCounted v holds n c
pair-counted v holds n each c is =
    let pair : counts_of c ≡ (count_on v holds n, 0) = each (counts_of c) (ap (option_map counts_of) is) in
    record { count = ap (λ (p : ℕ × ℕ). p.0) pair; unmarked = ap (λ (p : ℕ × ℕ). p.1) pair }
