-- What is so of an object that was just made.
use Rattle.std.proofs.Common.{◌≡◌, refl, ap, List, [], ◌∷◌, ◌++◌, length, slice_get, Option, Some}
use Rattle.std.specs.Option.{option_map_or}
use Rattle.qo_slots.specs.declared.keys.Key.{Key}
use Rattle.qo_values.specs.declared.kinds.TypeId.{TypeId}
use Rattle.qo_object.specs.Content.{Content, fresh}
use Rattle.qo_heap.specs.Rows.{IsLive}
use Rattle.qo_heap.specs.Objects.{Objects, IsHeap, pins_of}
use Rattle.qo_heap.proofs.PlacesLemmas.{live-at-place, object-at-place}

-- an object that was put after the others is found there

module _ (rows : List (Key × Content)) (key : Key) (kind : TypeId) (w : Objects) (is : w.rows ≡ rows ++ (key, fresh kind) ∷ []) (good : IsHeap w) where
  last-at : slice_get w.rows (length rows) ≡ Some (key, fresh kind)
  last-at = rw is (go rows)
    where
      go : (rs : List (Key × Content)) → slice_get (rs ++ (key, fresh kind) ∷ []) (length rs) ≡ Some (key, fresh kind)
      go [] = refl
      go (row ∷ rs) = go rs

  pub made-live : IsLive w.rows key
  made-live = live-at-place 0 w.born w.rows (length rows) (key, fresh kind) good.rising last-at

  pub made-pinned : pins_of w key.birth ≡ 1
  made-pinned = ap (λ (c : Option Content). option_map_or (λ (x : Content). x.pins) c 0)
      (object-at-place w.born w.rows (length rows) key (fresh kind) good.rising last-at)
