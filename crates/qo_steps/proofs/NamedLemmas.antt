-- The slot of a name, which is set, filled or emptied where it is there.
use Rattle.std.proofs.Common.{◌≡◌, refl, subst, ℕ, List, slice_get, Option, Some, None}
use Rattle.qo_model.proofs.Common.{Val, Board, Slot, slots_at, set, with_changed, index_from, fitted, link_named, edit, is_named, set_named, unseen, unseen_named}
use Rattle.std.proofs.lemmas.Slice.Eq.{bytes_eq-Decides}
use Rattle.qo_model.proofs.FirstSlotLemmas.{Found, found-at}
use Rattle.qo_steps.specs.Steps.{HasNamed}

-- a slot of a name stands at a place
abbrev pub Named : Board → ℕ → ℕ → List ℕ → Type 0
Named c n i name = (s : Slot) × (slice_get (slots_at c n) i ≡ Some (name, s))

pub named-has : (c : Board) (n i : ℕ) (name : List ℕ) → Named c n i name → HasNamed c n i
named-has c n i name at = ((name, at.0), at.1)

-- the one that is found
pub found-named : (c : Board) (n i : ℕ) (name : List ℕ) → index_from (is_named name) 0 (slots_at c n) ≡ Some i → Named c n i name
found-named c n i name e =
    let f : Found (is_named name) (slots_at c n) i = found-at (is_named name) i (slots_at c n) e in
    (f.entry.1, subst (λ (own : List ℕ). slice_get (slots_at c n) i ≡ Some (own, f.entry.1)) ((bytes_eq-Decides f.entry.0 name).0 f.passes) f.at)

module _ (P : Board → Type 0) (n : ℕ) (name : List ℕ) (c : Board) (h : P c) where
  pub set-by : (v : Val) → ((i : ℕ) → Named c n i name → P (set n i v c)) → P (set_named n name v c)
  set-by v there = go (index_from (is_named name) 0 (slots_at c n)) refl
    where
      go : (o : Option ℕ) → index_from (is_named name) 0 (slots_at c n) ≡ o → P (set_named n name v c)
      go None e = rw (set_named, e) h
      go (Some i) e = rw (set_named, e) (there i (found-named c n i name e))

  pub link-by : (m : ℕ) → ((i : ℕ) → Named c n i name → P (edit n (with_changed (fitted c m) i) c)) → P (link_named n name m c)
  link-by m there = go (index_from (is_named name) 0 (slots_at c n)) refl
    where
      go : (o : Option ℕ) → index_from (is_named name) 0 (slots_at c n) ≡ o → P (link_named n name m c)
      go None e = rw (link_named, e) h
      go (Some i) e = rw (link_named, e) (there i (found-named c n i name e))

  pub unseen-by : ((i : ℕ) → Named c n i name → P (edit n (with_changed unseen i) c)) → P (unseen_named n name c)
  unseen-by there = go (index_from (is_named name) 0 (slots_at c n)) refl
    where
      go : (o : Option ℕ) → index_from (is_named name) 0 (slots_at c n) ≡ o → P (unseen_named n name c)
      go None e = rw (unseen_named, e) h
      go (Some i) e = rw (unseen_named, e) (there i (found-named c n i name e))
