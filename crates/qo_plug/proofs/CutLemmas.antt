-- What is left of a device that was given up, or whose making was cut for want of memory.
use Rattle.std.proofs.Common.{◌≡◌, refl, ap, sym, subst, ◌∙◌, ℕ, zero, suc, ◌+◌, ◌≤◌, true, false, ◌==◌, List, [], ◌∷◌, ◌++◌, drop, filter_map, find, length, map, take, slice_get, Option, Some, None, option_map, inr, arith}
use Rattle.std.specs.List.{cons_option}
use Rattle.std.specs.Option.{option_map_or}
use Rattle.std.specs.Str.{bytes_eq}
use Rattle.std.proofs.lemmas.Option.{same_Some}
use Rattle.std.proofs.lemmas.List.{length-map}
use Rattle.qo_values.specs.declared.kinds.TypeId.{TypeId}
use Rattle.qo_model.specs.Board.{Board, Record, Slot, plain, child, strong, weak, alias}
use Rattle.qo_model.specs.Changes.{fresh}
use Rattle.qo_model.specs.Objects.{Given, given_to, with_attempt}
use Rattle.qo_model.specs.Plug.{drafted, further_in, further_of, objects_in, plug_attempt, properties_made, with_new}
use Rattle.qo_model.specs.Release.{edit, put_in_order, unpin}
use Rattle.qo_model.specs.Types.{slots_of}
use Rattle.qo_model.specs.declared.properties.Property.{Property}
use Rattle.qo_model.specs.declared.properties.PropertyRole.TheVariants.{Child}
use Rattle.qo_model.proofs.AttemptLemmas.{HasFurtherObjects}
use Rattle.qo_model.proofs.DraftEndsLemmas.{IsDraft, kinds_in}
use Rattle.qo_sound.specs.TreeKept.{SoundTree}
use Rattle.qo_sound.proofs.DraftLemmas.{rows-blind, with_pins}
use Rattle.qo_sound.proofs.PinLemmas as pinned
use Rattle.qo_sound.proofs.StepsLemmas.{attempt-steps, cut-steps, draft-changed, draft-of, unjoined-ended}
use Rattle.qo_sound.proofs.ViewLemmas.{PinsRootAlone, rest-from_sound}
use Rattle.qo_object.specs.Content as content
use Rattle.qo_object.specs.Content.{Content}
use Rattle.qo_heap.specs.Board.{Shows}
use Rattle.qo_heap.specs.Objects.{Objects, content_of, pins_of}
use Rattle.qo_plug.specs.Drafts.{CutShort, Fell, bare, created, given_draft, stopped, unjoined, value_given, with_values}

-- a new device is held once
pub draft-pinned : (v : Objects) (n : ℕ) (t : TypeId) → option_map bare (content_of v n) ≡ Some (bare (content.fresh t)) → pins_of v n ≡ 1
draft-pinned v n t is = go (content_of v n) refl
  where
    go : (o : Option Content) → content_of v n ≡ o → option_map_or (λ (c : Content). c.pins) (content_of v n) 0 ≡ 1
    go None e = absurd (let clash : None ≡ Some (bare (content.fresh t)) = sym (ap (option_map bare) e) ∙ is in cc)
    go (Some c) e =
        let same : bare c ≡ bare (content.fresh t) = same_Some (bare c) (bare (content.fresh t)) (sym (ap (option_map bare) e) ∙ is) in
        ap (λ (o : Option Content). option_map_or (λ (d : Content). d.pins) o 0) e ∙ ap (λ (d : Content). d.pins) same

-- how many further objects the first properties have
module _ {X Y : Type 0} (f : X → Option Y) where
  longer : (o : Option Y) (ys zs : List Y) → length ys ≤ length zs → length (cons_option o ys) ≤ length (cons_option o zs)
  longer None ys zs le = le
  longer (Some y) ys zs le = omega (arith, le)

  none-more : (o : Option Y) (zs : List Y) → 0 ≤ length (cons_option o zs)
  none-more o zs = omega arith

  passing-within : (k : ℕ) (xs : List X) → length (filter_map f (take k xs)) ≤ length (filter_map f xs)
  passing-within zero xs = omega arith
  passing-within (suc k) [] = omega arith
  passing-within (suc k) (x ∷ xs) = longer (f x) (filter_map f (take k xs)) (filter_map f xs) (passing-within k xs)

kinds-within : (k : ℕ) (t : TypeId) → suc (length (kinds_in (take k (slots_of t)))) ≤ objects_in t
kinds-within k t =
    let same : length (kinds_in (take k (slots_of t))) ≡ length (filter_map further_in (take k (slots_of t))) =
    length-map (filter_map further_in (take k (slots_of t))) (λ (f : List ℕ × TypeId). f.1) in
    omega (arith, same, passing-within further_in k (slots_of t))

kinds-more : (k : ℕ) (ps : List Property) (p : Property) (u : TypeId) → slice_get ps k ≡ Some p → p.role ≡ Child u
    → suc (length (kinds_in (take k ps))) ≤ length (filter_map further_in ps)
kinds-more k [] p u at kind = cc
kinds-more zero (q ∷ ps) p u at kind = let same : q ≡ p = cc in rw (same, kind) (omega arith)
kinds-more (suc k) (q ∷ ps) p u at kind = go (further_in q) (kinds-more k ps p u at kind)
  where
    go : (o : Option (List ℕ × TypeId)) → suc (length (kinds_in (take k ps))) ≤ length (filter_map further_in ps)
        → suc (length (map (λ (f : List ℕ × TypeId). f.1) (cons_option o (filter_map further_in (take k ps)))))
        ≤ length (cons_option o (filter_map further_in ps))
    go None le = le
    go (Some f) le = omega (arith, le)

split-at : {X : Type 0} (k : ℕ) (xs : List X) (x : X) → slice_get xs k ≡ Some x → xs ≡ take k xs ++ x ∷ drop (suc k) xs
split-at k [] x at = cc
split-at {X = X} zero (y ∷ ys) x at = let same : y ≡ x = cc in ap (λ (z : X). z ∷ ys) same
split-at {X = X} (suc k) (y ∷ ys) x at = ap (λ (zs : List X). y ∷ zs) (split-at k ys x at)

take-drop : {X : Type 0} (k : ℕ) (xs : List X) → xs ≡ take k xs ++ drop k xs
take-drop zero xs = refl
take-drop (suc k) [] = refl
take-drop {X = X} (suc k) (x ∷ xs) = ap (λ (l : List X). x ∷ l) (take-drop k xs)

-- values given keep a star, since only plain slots have them
values-star : (b : Board) (props : List Given) (n lo : ℕ) (ss : List (List ℕ × Slot)) (ls : List Record) → HasFurtherObjects n lo ss ls
    → HasFurtherObjects n lo (map (value_given b props) ss) ls
values-star b props n lo [] [] h = tt
values-star b props n lo [] (k ∷ ls) h = absurd h
values-star b props n lo ((name, child m) ∷ ss) [] h = absurd h
values-star b props n lo ((name, child m) ∷ ss) (k ∷ ls) h = (h.0, h.1, (h.2.0, values-star b props n m ss ls h.2.1))
values-star b props n lo ((name, strong t None) ∷ ss) ls h = values-star b props n lo ss ls h
values-star b props n lo ((name, strong t (Some m)) ∷ ss) ls h = absurd h
values-star b props n lo ((name, weak t target) ∷ ss) ls h = (h.0, values-star b props n lo ss ls h.1)
values-star b props n lo ((name, plain v) ∷ ss) ls h = go (find (λ (p : Given). bytes_eq p.0 name) props) (values-star b props n lo ss ls h)
  where
    go : (o : Option Given) → HasFurtherObjects n lo (map (value_given b props) ss) ls
        → HasFurtherObjects n lo ((name, elim o [ None ↦ plain v | Some p ↦ given_to b (plain v) p.1 ]) ∷ map (value_given b props) ss) ls
    go None rest = rest
    go (Some p) rest = rest
values-star b props n lo ((name, alias m p) ∷ ss) ls h = values-star b props n lo ss ls h

-- the device is held from outside alone
module _ (b : Board) (t : TypeId) (sound : SoundTree b) where
  pub rest : PinsRootAlone b
  rest = rest-from_sound b sound

  abbrev pub held : List ℕ
  held = put_in_order (b.born + 1) b.pins

  pub held-is : held ≡ put_in_order (b.born + 1) (1 ∷ [])
  held-is = ap (put_in_order (b.born + 1)) rest.pinned

  pub begun : created b t ≡ with_pins held (with_new (fresh (b.born + 1) t) b)
  begun = pinned.created t b

  -- with its first properties, and the values given for them
  abbrev made : List Given → List Property → Board
  made props ps = edit (b.born + 1) (with_values b props) (properties_made (b.born + 1) t ps (with_new (fresh (b.born + 1) t) b))

  pub draft-given : (props : List Given) (ks : List TypeId) (c : Board) → IsDraft b (b.born + 1) t ks c
      → IsDraft b (b.born + 1) t ks (edit (b.born + 1) (with_values b props) c)
  draft-given props ks c = draft-changed b t ks c (value_given b props) rest (values-star b props (b.born + 1))

  pub draft-made : (props : List Given) (ps : List Property) → IsDraft b (b.born + 1) t (kinds_in ps) (made props ps)
  draft-made props ps = draft-given props (kinds_in ps) (properties_made (b.born + 1) t ps (with_new (fresh (b.born + 1) t) b)) (draft-of b t ps rest)

  made-is : (props : List Given) (ps : List Property)
      → edit (b.born + 1) (with_values b props) (properties_made (b.born + 1) t ps (created b t)) ≡ with_pins held (made props ps)
  made-is props ps =
      ap (edit (b.born + 1) (with_values b props))
      (ap (properties_made (b.born + 1) t ps) begun ∙ rows-blind held (b.born + 1) t ps (with_new (fresh (b.born + 1) t) b))

  pub given-is : (props : List Given) → given_draft b t props ≡ with_pins held (edit (b.born + 1) (with_values b props) (drafted b t))
  given-is props = made-is props (slots_of t)

  -- all of it was made, and it is given up
  pub given-up : (props : List Given) (bus stage : ℕ) → (stage == 8) ≡ false → unpin (given_draft b t props) (b.born + 1) ≡ plug_attempt b t bus stage
  given-up props bus stage early = ap (λ (c : Board). unpin c (b.born + 1)) (given-is props)
      ∙ attempt-steps b t bus stage (made props (slots_of t)) held held-is early rest (draft-made props (slots_of t))

  -- it has the further objects of its first properties, and is let go
  module _ (k : ℕ) (c d : Board) (w : Objects) (is : d ≡ with_pins held c) (draft : IsDraft b (b.born + 1) t (kinds_in (take k (slots_of t))) c) where
    pub cut-joined : Shows (unpin d (b.born + 1)) w → CutShort b t w
    cut-joined s =
        inr (
          suc (length (kinds_in (take k (slots_of t)))),
          true,
          omega arith,
          kinds-within k t,
          subst (λ (e : Board). Shows e w)
              (ap (λ (e : Board). unpin e (b.born + 1)) is
              ∙ cut-steps b t (take k (slots_of t)) (drop k (slots_of t)) c held held-is (take-drop k (slots_of t)) rest draft) s,
        )

    -- after a further object that was not joined, and has ended
    pub cut-unjoined : (p : Property) (u : TypeId) → slice_get (slots_of t) k ≡ Some p → p.role ≡ Child u → Shows (unpin (with_attempt d u) (b.born + 1)) w
        → CutShort b t w
    cut-unjoined p u at kind s =
        inr (
          suc (suc (length (kinds_in (take k (slots_of t))))),
          false,
          omega arith,
          (let le : suc (length (kinds_in (take k (slots_of t)))) ≤ length (further_of t) = kinds-more k (slots_of t) p u at kind in omega (arith, le)),
          subst (λ (e : Board). Shows e w)
              (ap (λ (e : Board). unpin (with_attempt e u) (b.born + 1)) is
              ∙ unjoined-ended b t (take k (slots_of t)) p u (drop (suc k) (slots_of t)) c held (split-at k (slots_of t) p at) kind held-is rest draft) s,
        )

  pub fell-short : (props : List Given) (v w x : Objects) → Fell b props (b.born + 1) t v w → Shows (edit (b.born + 1) (with_values b props) (created b t)) v
      → ((c : Board) → Shows c w → Shows (unpin c (b.born + 1)) x) → CutShort b t x
  fell-short props v w x (stopped k makes) s drops =
      let d : Board = edit (b.born + 1) (with_values b props) (properties_made (b.born + 1) t (take k (slots_of t)) (created b t)) in
      cut-joined k (made props (take k (slots_of t))) d x (made-is props (take k (slots_of t))) (draft-made props (take k (slots_of t)))
      (drops d (makes (created b t) s))
  fell-short props v w x (unjoined k p u at kind makes) s drops =
      let d : Board = edit (b.born + 1) (with_values b props) (properties_made (b.born + 1) t (take k (slots_of t)) (created b t)) in
      cut-unjoined k (made props (take k (slots_of t))) d x (made-is props (take k (slots_of t))) (draft-made props (take k (slots_of t))) p u at kind
      (drops (with_attempt d u) (makes (created b t) s))
