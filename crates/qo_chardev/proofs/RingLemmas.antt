-- The bytes of a text are added to a ring part by part.
use Rattle.std.proofs.Common.{◌≡◌, ℕ, ◌+◌, ◌-◌, ◌≤◌, ◌==◌, ◌∙◌, true, is_some, List, [], ◌++◌, length, drop, Option, Some, None, refl, ap, sym, arith, append_assoc}
use Rattle.std.proofs.lemmas.List.{append-nil, drop-append-le, drop-drop, length-append, length-drop}
use Rattle.std.specs.Option.{option_map}
use Rattle.base64.specs.GeneralPurpose.{IsBytes}
use Rattle.qo_values.specs.Rings.{RingBytes, keep_last, ring_add}
use Rattle.qo_chardev.specs.Parts.{IsPart}
use Rattle.qo_chardev.specs.Texts.{Adds, bytes_of}
use Rattle.qo_chardev.proofs.Encodings.{texts_are_encodings}
use Rattle.qo_chardev.proofs.PartLemmas.{both_bytes, none_left}

-- what is kept of the last bytes and more is what is kept of them all
kept_twice : (n : ℕ) (xs ys : List ℕ) → keep_last n (keep_last n xs ++ ys) ≡ keep_last n (xs ++ ys)
kept_twice n xs ys =
    let k : ℕ = length xs - n in
    let all : List ℕ = xs ++ ys in
    let size = length-append xs ys in
    let left = length-drop k all in
    let front : drop k all ≡ drop k xs ++ ys = drop-append-le k xs ys (omega arith) in
    let at : k + (length (drop k all) - n) ≡ length all - n = omega arith in
    ap (keep_last n) (sym front) ∙ drop-drop (length (drop k all) - n) k all ∙ ap (λ (m : ℕ). drop m all) at

added_twice : (ring : RingBytes) (xs ys : List ℕ) → ring_add (ring_add ring xs) ys ≡ ring_add ring (xs ++ ys)
added_twice ring xs ys =
    ap (λ (bytes : List ℕ). record ring { bytes = bytes }) (kept_twice ring.size (ring.bytes ++ xs) ys ∙ ap (keep_last ring.size) (append_assoc ring.bytes xs ys))

added_none : (ring : RingBytes) → length ring.bytes ≤ ring.size → ring_add ring [] ≡ ring
added_none ring fits =
    let none : length ring.bytes - ring.size ≡ 0 = omega arith in
    ap (λ (bytes : List ℕ). record ring { bytes = bytes }) (ap (keep_last ring.size) (append-nil ring.bytes) ∙ ap (λ (n : ℕ). drop n ring.bytes) none)

-- bytes of a text were added to a ring, and what is left of it is read
pub record Added (text rest : List ℕ) (old new : RingBytes) : Type 0 where
  pub bytes : List ℕ
  pub all : IsBytes bytes
  pub read : bytes_of text ≡ option_map (λ (more : List ℕ). bytes ++ more) (bytes_of rest)
  pub left : is_some (bytes_of rest) ≡ true
  pub added : new ≡ ring_add old bytes

after_none : (o : Option (List ℕ)) → o ≡ option_map (λ (more : List ℕ). [] ++ more) o
after_none None = refl
after_none (Some bytes) = refl

after_both : (xs ys : List ℕ) (o : Option (List ℕ))
    → option_map (λ (more : List ℕ). xs ++ more) (option_map (λ (more : List ℕ). ys ++ more) o) ≡ option_map (λ (more : List ℕ). (xs ++ ys) ++ more) o
after_both xs ys None = refl
after_both xs ys (Some bytes) = ap Some (sym (append_assoc xs ys bytes))

some_after : (xs : List ℕ) (o : Option (List ℕ)) → is_some (option_map (λ (more : List ℕ). xs ++ more) o) ≡ is_some o
some_after xs None = refl
some_after xs (Some bytes) = refl

-- at first all is left
pub none_added : (text : List ℕ) (ring : RingBytes) → is_some (bytes_of text) ≡ true → length ring.bytes ≤ ring.size → Added text text ring ring
none_added text ring read fits =
    record { bytes = []; all = λ i. omega arith; read = after_none (bytes_of text); left = read; added = sym (added_none ring fits) }

-- a part more
pub part_added : (text rest bytes after : List ℕ) (old new next : RingBytes) → Added text rest old new → IsPart rest bytes after → next ≡ ring_add new bytes
    → Added text after old next
part_added text rest bytes after old new next so_far part is =
    record {
      bytes = so_far.bytes ++ bytes;
      all = both_bytes so_far.bytes bytes so_far.all part.all;
      read = so_far.read ∙ ap (option_map (λ (more : List ℕ). so_far.bytes ++ more)) part.read ∙ after_both so_far.bytes bytes (bytes_of after);
      left = sym (some_after bytes (bytes_of after)) ∙ ap is_some (sym part.read) ∙ so_far.left;
      added = is ∙ ap (λ (ring : RingBytes). ring_add ring bytes) so_far.added ∙ added_twice old so_far.bytes bytes;
    }

-- at last all were added
pub all_added : (text rest : List ℕ) (old new : RingBytes) → IsBytes text → true ≡ (length rest == 0) → Added text rest old new → Adds text old new
all_added text rest old new text_bytes none so_far =
    let read : bytes_of text ≡ Some so_far.bytes =
    so_far.read ∙ ap (option_map (λ (more : List ℕ). so_far.bytes ++ more)) (none_left rest none) ∙ ap Some (append-nil so_far.bytes) in
    record {
      bytes = so_far.bytes;
      all = so_far.all;
      read = read;
      written = (texts_are_encodings text so_far.bytes text_bytes so_far.all).0 read;
      added = so_far.added;
    }
