-- The rings of a board, by their ids (QEMU's QAPI, `ChardevRingbuf`).
use Rattle.std.specs.Prelude.{◌≡◌, ℕ, Bool, false, not, if◌then◌else◌, List, [], ◌∷◌, map, filter, find, Option, Some, option_map, ⊤}
use Rattle.std.specs.List.{list_any}
use Rattle.std.specs.Str.{bytes_eq}
use Rattle.qo_values.specs.Rings.{RingBytes, ring_add, ring_oldest}
use Rattle.qo_values.specs.declared.forms.Form.{Form}
use Rattle.qo_values.specs.declared.forms.Form.TheVariants.{Utf8, Base64}
use Rattle.qo_chardev.specs.Texts.{bytes_of, encoded}
use Rattle.qo_model.specs.Board.{Ring}

-- the ring of an id
abbrev pub is_ring : List ℕ → Ring → Bool
is_ring id r = bytes_eq r.id id

abbrev pub ring_named : List ℕ → List Ring → Option Ring
ring_named id rings = find (is_ring id) rings

-- a new ring, without bytes
abbrev pub new_ring : List ℕ → ℕ → Ring
new_ring id size = record { id = id; size = size; bytes = [] }

-- the size and the bytes of a ring, and a ring with other ones
abbrev pub bytes_in : Ring → RingBytes
bytes_in r = record { size = r.size; bytes = r.bytes }

abbrev pub with_bytes : (RingBytes → RingBytes) → Ring → Ring
with_bytes f r = record { id = r.id; size = (f (bytes_in r)).size; bytes = (f (bytes_in r)).bytes }

-- rings of which that of an id was changed; and without it
abbrev pub ring_changed : (RingBytes → RingBytes) → List ℕ → List Ring → List Ring
ring_changed f id rings = map (λ (r : Ring). if is_ring id r then with_bytes f r else r) rings

abbrev pub without_ring : List ℕ → List Ring → List Ring
without_ring id rings = filter (λ (r : Ring). not (is_ring id r)) rings

-- no two rings have the same id
abbrev pub IdsDiffer : List Ring → Type 0
IdsDiffer [] = ⊤
IdsDiffer (r ∷ rs) = (list_any (is_ring r.id) rs ≡ false) × IdsDiffer rs

-- the text that tells the oldest bytes of the ring of an id, at most so many, if there is such a ring and such a text
abbrev pub ring_text : List ℕ → ℕ → Form → List Ring → Option (Option (List ℕ))
ring_text id most form rings = option_map (λ (r : Ring). encoded form (ring_oldest (bytes_in r) most)) (ring_named id rings)

-- the bytes that a text gives
abbrev pub given_bytes : Form → List ℕ → Option (List ℕ)
given_bytes Utf8 text = Some text
given_bytes Base64 text = bytes_of text

-- the bytes that a text gives are added, as P says of the change
pub record Gains (form : Form) (text : List ℕ) (P : (RingBytes → RingBytes) → Type 0) : Type 0 where
  pub bytes : List ℕ
  pub given : given_bytes form text ≡ Some bytes
  pub added : P (λ m. ring_add m bytes)
