-- What the commands on objects come to: the board as it was, with an object or an attempt more, or with slots that were let go one after another.
use Rattle.std.proofs.Common.{◌≡◌, refl, ℕ, zero, suc, Bool, true, false, length, Option, Some, None}
use Rattle.qo_model.proofs.Common.{List, OBJECTS_BIRTH, TypeId, Board, Slot, plain, child, strong, weak, alias, is_live, slot_at, slots_at, Code, TypeInfo, type_named, Given, added_as, added_by, barred, object_add, refusal_of, is_object_named, object_del, index_from, sever, severed_from, attached, let_go, pin, unpin}

module _ (P : Board → Type 0) where
  pub addition-comes : (b : Board) (driver id : List ℕ) (props : List Given) → P b
      → ((row : TypeInfo) → barred b row id ≡ None → (refusal : Option Code) → refusal_of b row.id props ≡ refusal
      → P (added_as b row.id id props refusal).board)
      → P (object_add b driver id props).board
  addition-comes b driver id props none comes = go (type_named driver) refl
    where
      by : (row : TypeInfo) (o : Option Code) → barred b row id ≡ o → P (added_by b row id props o).board
      by row (Some code) e = none
      by row None e = comes row e (refusal_of b row.id props) refl

      go : (row : Option TypeInfo) → type_named driver ≡ row → P (object_add b driver id props).board
      go None p = rw (object_add, p) none
      go (Some row) p = rw (object_add, p) (by row (barred b row id) refl)

  pub deletion-comes : (b : Board) (id : List ℕ) → P b
      → ((i : ℕ) → index_from (is_object_named id) 0 (slots_at b OBJECTS_BIRTH) ≡ Some i → P (let_go b OBJECTS_BIRTH i)) → P (object_del b id).board
  deletion-comes b id none gone = go (index_from (is_object_named id) 0 (slots_at b OBJECTS_BIRTH)) refl
    where
      go : (place : Option ℕ) → index_from (is_object_named id) 0 (slots_at b OBJECTS_BIRTH) ≡ place → P (object_del b id).board
      go None p = rw (object_del, p) none
      go (Some i) p = rw (object_del, p) (gone i p)

  -- strong links are let go, and other slots stay
  pub severed-comes : (n : ℕ) → ((c : Board) (i : ℕ) (t : TypeId) (target : Option ℕ) → slot_at c n i ≡ Some (strong t target) → P c → P (let_go c n i))
      → (places i : ℕ) (c : Board) → P c → P (severed_from places i n c)
  severed-comes n cuts zero i c h = h
  severed-comes n cuts (suc places) i c h = go (slot_at c n i) refl (severed-comes n cuts places (suc i))
    where
      go : (s : Option Slot) → slot_at c n i ≡ s → ((d : Board) → P d → P (severed_from places (suc i) n d)) → P (severed_from (suc places) i n c)
      go None p rest = rw (severed_from, p) (rest c h)
      go (Some (plain v)) p rest = rw (severed_from, p) (rest c h)
      go (Some (child m)) p rest = rw (severed_from, p) (rest c h)
      go (Some (strong t target)) p rest = rw (severed_from, p) (rest (let_go c n i) (cuts c i t target p h))
      go (Some (weak t target)) p rest = rw (severed_from, p) (rest c h)
      go (Some (alias m property)) p rest = rw (severed_from, p) (rest c h)

  -- an object that is there and detached is held meanwhile
  pub sever-comes : (b : Board) (n : ℕ) → P b
      → (is_live b n ≡ true → attached b n ≡ false → P (unpin (severed_from (length (slots_at b n)) 0 n (pin b n)) n)) → P (sever b n).board
  sever-comes b n none cut = go (is_live b n) refl (attached b n) refl
    where
      go : (there : Bool) → is_live b n ≡ there → (home : Bool) → attached b n ≡ home → P (sever b n).board
      go false p home q = rw (sever, p) none
      go true p true q = rw (sever, p, q) none
      go true p false q = rw (sever, p, q) (cut p q)
