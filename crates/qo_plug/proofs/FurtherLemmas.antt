-- A device that is made with its further objects alone, and ends with them.
use Rattle.std.proofs.Common.{◌≡◌, refl, ap, sym, subst, ◌∙◌, ℕ, zero, suc, ◌+◌, ◌≤◌, Bool, true, false, ◌==◌, List, [], ◌∷◌, map, filter, filter_map, length, take, slice_get, inl, inr, Option, Some, None, arith}
use Rattle.std.proofs.lemmas.List.{take_all}
use Rattle.qo_values.specs.declared.kinds.TypeId.{TypeId}
use Rattle.qo_slots.specs.declared.keys.Key.{Key}
use Rattle.qo_model.specs.Board.{Board}
use Rattle.qo_model.specs.Changes.{fresh}
use Rattle.qo_model.specs.Objects.{with_attempt}
use Rattle.qo_model.specs.Plug.{further_in, plug_attempt, properties_made, property_made, with_kid, with_new}
use Rattle.qo_model.specs.RowNames.{property_name}
use Rattle.qo_model.specs.Release.{unpin}
use Rattle.qo_model.specs.Types.{slots_of}
use Rattle.qo_model.specs.declared.properties.Property.{Property}
use Rattle.qo_model.specs.declared.properties.PropertyRole.{PropertyRole}
use Rattle.qo_model.specs.declared.properties.PropertyRole.TheVariants as row
use Rattle.qo_model.proofs.DraftEndsLemmas.{IsDraft, kinds_in}
use Rattle.qo_sound.specs.TreeKept.{SoundTree}
use Rattle.qo_sound.proofs.DraftLemmas.{rows-blind, with_pins}
use Rattle.qo_sound.proofs.StepsLemmas.{attempt-steps, draft-of}
use Rattle.qo_heap.specs.Board.{Shows}
use Rattle.qo_heap.specs.Objects.{Objects}
use Rattle.qo_properties.specs.Additions.{IsTried}
use Rattle.qo_properties.proofs.AddLemmas.{shows-tried}
use Rattle.qo_properties.proofs.NewSlotLemmas.{past, row-at}
use Rattle.qo_plug.specs.Drafts.{CutShort, Grows, Makes, created}
use Rattle.qo_plug.specs.FurtherDrafts.{FurtherFell, ceased, further_made, is_further, loose}
use Rattle.qo_plug.proofs.CutLemmas.{begun, cut-joined, cut-unjoined, held, held-is, rest}
use Rattle.qo_plug.proofs.GrowthLemmas.{grows-none, grows-then}

-- a property that is a further object, and one that is none
one-further : (p : Property) (u : TypeId) → p.role ≡ row.Child u → is_further p ≡ true
one-further p u e = rw e refl

pub no-further : (p : Property) → ((u : TypeId) → p.role ≡ row.Child u → ⊥) → is_further p ≡ false
no-further p other = go p.role refl
  where
    go : (role : PropertyRole) → p.role ≡ role → is_further p ≡ false
    go (row.Child u) e = absurd (other u e)
    go (row.Plain type first) e = rw e refl
    go (row.Link target strong) e = rw e refl
    go (row.Alias owner of) e = rw e refl

-- of so many properties the further objects, and of one more
module _ (n : ℕ) (t : TypeId) where
  further-more : (k : ℕ) (ps : List Property) (p : Property) (c : Board) → slice_get ps k ≡ Some p → is_further p ≡ true
      → properties_made n t (filter is_further (take (suc k) ps)) c
      ≡ property_made n t (property_name p.name) p.role (properties_made n t (filter is_further (take k ps)) c)
  further-more k [] p c at is = cc
  further-more zero (q ∷ ps) p c at is =
      let same : q ≡ p = cc in
      let further : is_further q ≡ true = ap is_further same ∙ is in
      rw further (ap (λ (r : Property). property_made n t (property_name r.name) r.role c) same)
  further-more (suc k) (q ∷ ps) p c at is = go (is_further q) refl (λ d. further-more k ps p d at is)
    where
      go : (b : Bool) → is_further q ≡ b
          → ((d : Board) → properties_made n t (filter is_further (take (suc k) ps)) d
          ≡ property_made n t (property_name p.name) p.role (properties_made n t (filter is_further (take k ps)) d))
          → properties_made n t (filter is_further (take (suc (suc k)) (q ∷ ps))) c
          ≡ property_made n t (property_name p.name) p.role (properties_made n t (filter is_further (take (suc k) (q ∷ ps))) c)
      go true e next = rw e (next (property_made n t (property_name q.name) q.role c))
      go false e next = rw e (next c)

  further-same : (k : ℕ) (ps : List Property) (p : Property) → slice_get ps k ≡ Some p → is_further p ≡ false
      → filter is_further (take (suc k) ps) ≡ filter is_further (take k ps)
  further-same k [] p at is = cc
  further-same zero (q ∷ ps) p at is =
      let same : q ≡ p = cc in
      let none : is_further q ≡ false = ap is_further same ∙ is in
      rw none refl
  further-same (suc k) (q ∷ ps) p at is = go (is_further q) refl (further-same k ps p at is)
    where
      go : (b : Bool) → is_further q ≡ b → filter is_further (take (suc k) ps) ≡ filter is_further (take k ps)
          → filter is_further (take (suc (suc k)) (q ∷ ps)) ≡ filter is_further (take (suc k) (q ∷ ps))
      go true e next = rw e (ap (λ (qs : List Property). q ∷ qs) next)
      go false e next = rw e next

-- so many properties were passed, and the further objects among them were made
pub record Passed (o : Key) (t : TypeId) (k : ℕ) (v w : Objects) : Type 0 where
  pub within : k ≤ length (slots_of t)
  pub shown : Makes (further_made o.birth t k) v w
  pub grows : Grows v w

pub passed-none : (o : Key) (t : TypeId) (v : Objects) → Passed o t 0 v v
passed-none o t v = record { within = omega arith; shown = λ c s. s; grows = grows-none v v refl }

module _ (o : Key) (t : TypeId) (k : ℕ) (p : Property) (v u : Objects) (here : Some p ≡ slice_get (slots_of t) k) (r : Passed o t k v u) where
  next : k + 1 ≡ suc k
  next = omega arith

  within-next : k + 1 ≤ length (slots_of t)
  within-next = let below = (row-at t k p here).within in omega (arith, below)

  pub passed-kid : (further : TypeId) (w : Objects) → p.role ≡ row.Child further → Makes (with_kid o.birth (property_name p.name) further) u w → Grows u w
      → Passed o t (k + 1) v w
  passed-kid further w role makes grows =
      record {
        within = within-next;
        shown = λ c s.
            subst (λ (d : Board). Shows d w)
            (sym (ap (λ (j : ℕ). further_made o.birth t j c) next ∙ further-more o.birth t k (slots_of t) p c (sym here) (one-further p further role)
            ∙ ap (λ (kind : PropertyRole). property_made o.birth t (property_name p.name) kind (further_made o.birth t k c)) role))
            (makes (further_made o.birth t k c) (r.shown c s));
        grows = grows-then v u w r.grows grows;
      }

  pub passed-other : ((further : TypeId) → p.role ≡ row.Child further → ⊥) → Passed o t (k + 1) v u
  passed-other other =
      record {
        within = within-next;
        shown = λ c s.
            subst (λ (d : Board). Shows d u)
            (sym (ap (λ (j : ℕ). further_made o.birth t j c) next
            ∙ ap (λ (ps : List Property). properties_made o.birth t ps c) (further-same o.birth t k (slots_of t) p (sym here) (no-further p other))))
            (r.shown c s);
        grows = r.grows;
      }

  -- memory ran out at a further object
  pub fell-kid : (further : TypeId) (w : Objects) → p.role ≡ row.Child further → IsTried further u w → FurtherFell o.birth t v w
  fell-kid further w role (inl same) = ceased k (λ c s. subst (Shows (further_made o.birth t k c)) (sym same) (r.shown c s))
  fell-kid further w role (inr tried) =
      loose k p further (sym here) role
      (λ c s. subst (Shows (with_attempt (further_made o.birth t k c) further)) (sym tried) (shows-tried (further_made o.birth t k c) u (r.shown c s) further))

-- all properties were passed
pub passed-all : (o : Key) (t : TypeId) (k : ℕ) (v w : Objects) → None ≡ slice_get (slots_of t) k → Passed o t k v w
    → Makes (further_made o.birth t (length (slots_of t))) v w
passed-all o t k v w end r =
    let most : length (slots_of t) ≤ k = past (slots_of t) k (sym end) in
    let within : k ≤ length (slots_of t) = r.within in
    let all : k ≡ length (slots_of t) = omega (arith, most, within) in
    subst (λ (j : ℕ). Makes (further_made o.birth t j) v w) all r.shown

-- they are of the same types
kinds-further : (ps : List Property) → kinds_in (filter is_further ps) ≡ kinds_in ps
kinds-further ps = ap (map (λ (f : List ℕ × TypeId). f.1)) (go ps)
  where
    go : (ps : List Property) → filter_map further_in (filter is_further ps) ≡ filter_map further_in ps
    go [] = refl
    go (p ∷ ps) = by (further_in p) refl (go ps)
      where
        by : (o : Option (List ℕ × TypeId)) → further_in p ≡ o → filter_map further_in (filter is_further ps) ≡ filter_map further_in ps
            → filter_map further_in (filter is_further (p ∷ ps)) ≡ filter_map further_in (p ∷ ps)
        by None e more = rw e more
        by (Some f) e more = rw (e, e) (ap (λ (fs : List (List ℕ × TypeId)). f ∷ fs) more)

-- the device is let go
module _ (b : Board) (t : TypeId) (sound : SoundTree b) where
  abbrev made : ℕ → Board
  made k = further_made (b.born + 1) t k (with_new (fresh (b.born + 1) t) b)

  draft : (k : ℕ) → IsDraft b (b.born + 1) t (kinds_in (take k (slots_of t))) (made k)
  draft k = subst (λ (ks : List TypeId). IsDraft b (b.born + 1) t ks (made k)) (kinds-further (take k (slots_of t)))
      (draft-of b t (filter is_further (take k (slots_of t))) (rest b t sound))

  made-is : (k : ℕ) → further_made (b.born + 1) t k (created b t) ≡ with_pins (held b t sound) (made k)
  made-is k =
      ap (further_made (b.born + 1) t k) (begun b t sound)
      ∙ rows-blind (held b t sound) (b.born + 1) t (filter is_further (take k (slots_of t))) (with_new (fresh (b.born + 1) t) b)

  -- with all its further objects
  pub further-given-up : (bus stage : ℕ) → (stage == 8) ≡ false
      → unpin (further_made (b.born + 1) t (length (slots_of t)) (created b t)) (b.born + 1) ≡ plug_attempt b t bus stage
  further-given-up bus stage early =
      let all : take (length (slots_of t)) (slots_of t) ≡ slots_of t = take_all (length (slots_of t)) (slots_of t) (omega arith) in
      ap (λ (c : Board). unpin c (b.born + 1)) (made-is (length (slots_of t)))
      ∙ attempt-steps b t bus stage (made (length (slots_of t))) (held b t sound) (held-is b t sound) early (rest b t sound)
      (subst (λ (ps : List Property). IsDraft b (b.born + 1) t (kinds_in ps) (made (length (slots_of t)))) all (draft (length (slots_of t))))

  -- with the first of them
  pub further-short : (v w x : Objects) → FurtherFell (b.born + 1) t v w → Shows (created b t) v
      → ((c : Board) → Shows c w → Shows (unpin c (b.born + 1)) x) → CutShort b t x
  further-short v w x (ceased k makes) s drops =
      let d : Board = further_made (b.born + 1) t k (created b t) in
      cut-joined b t sound k (made k) d x (made-is k) (draft k) (drops d (makes (created b t) s))
  further-short v w x (loose k p u at kind makes) s drops =
      let d : Board = further_made (b.born + 1) t k (created b t) in
      cut-unjoined b t sound k (made k) d x (made-is k) (draft k) p u at kind (drops (with_attempt d u) (makes (created b t) s))
