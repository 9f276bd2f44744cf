-- What a text of Base64 is read as is what its parts are read as, one after another.
use Rattle.std.proofs.Common.{◌≡◌, ℕ, zero, suc, ◌+◌, ◌*◌, ◌/◌, ◌%◌, ◌<◌, ◌≤◌, ◌==◌, Bool, true, false, if◌then◌else◌, List, [], ◌∷◌, ◌++◌, length, take, drop, replicate, slice_index, refl, sym, ap, subst, ◌∙◌, arith, inl, inr}
use Rattle.std.proofs.lemmas.List.{get_or-drop, take-append-drop, append-nil, length-append, take_all, take_at, drop_at}
use Rattle.std.proofs.lemmas.Bool.{ne_eqb}
use Rattle.std.specs.declared.option.Option.{Option}
use Rattle.std.specs.declared.option.Option.TheVariants.{None, Some}
use Rattle.std.specs.declared.result.Result.{Result}
use Rattle.std.specs.declared.result.Result.TheVariants.{Ok, Err}
use Rattle.std.specs.Io.KnownBytes.{prepend_known}
use Rattle.std.specs.Option.{option_map}
use Rattle.std.specs.Result.{result_ok}
use Rattle.base64.specs.Engines.{standard}
use Rattle.qo_chardev.specs.Texts.{bytes_of}
use Rattle.qo_chardev.proofs.Encodings.{strict}
use Rattle.base64.specs.declared.decode.DecodeError.{DecodeError}
use Rattle.base64.specs.declared.engine.general_purpose.GeneralPurpose.{GeneralPurpose}
use Rattle.base64.specs.Decode.{IsDecodeTable, decode_group, no_leftover, push_leftover, scan, scan_bytes, scan_last, suffix_bytes, decode_outcome, group_bytes, group_error, groups_bytes, groups_error, groups_before_last, lone_error, or_else, symbol_error}
use Rattle.base64.specs.GeneralPurpose.{IsBytes, IsConsistent, IsStrict, decode_of, decoded_of, encode_of}
use Rattle.base64.specs.Rfc4648.{encode_symbols, padding_len}
use Rattle.base64.proofs.Canonical.{take_groups}
use Rattle.base64.proofs.Decoding.{IsLeftover, IsLeftover_next, scan-cons_err, scan-cons_ok, scan-nil, groups_error_first, length-groups_bytes}
use Rattle.base64.proofs.EngineFacts.{decode_of_bytes, front_bytes, decode_of-encode_of, decode_of_strict}
use Rattle.base64.proofs.RoundTrip.{groups_encoded, length-encode_symbols}
use Rattle.base64.proofs.Streams.{decoded_of-groups, decoded_of-nil}
use Rattle.base64.proofs.Tables.{IsDecodeTable_from, are_tables_inverse}

-- no error of two
neither : (x y : Option DecodeError) → or_else x y ≡ None → (x ≡ None) × (y ≡ None)
neither None y none = (refl, none)
neither (Some e) y none = cc

-- two lists of bytes are one
pub both_bytes : (a b : List ℕ) → IsBytes a → IsBytes b → IsBytes (a ++ b)
both_bytes [] b front back i = back i
both_bytes (x ∷ a) b front back zero = front 0
both_bytes (x ∷ a) b front back (suc i) = both_bytes a b (λ k. front (suc k)) back i

-- the value of what is a symbol
symbol_value : (dec s : List ℕ) (i : ℕ) → IsDecodeTable dec → IsBytes s → symbol_error dec s i ≡ None → slice_index dec (slice_index s i) < 64
symbol_value dec s i table bytes none = elim (table (slice_index s i) (bytes i)) [
  | inl bad ↦ cc (rw bad at none)
  | inr good ↦ good
]

-- four values are three bytes
bytes_of_values : (m0 m1 m2 m3 : ℕ) → m0 < 64 → m1 < 64 → m2 < 64 → m3 < 64 → IsBytes (decode_group m0 m1 m2 m3)
bytes_of_values m0 m1 m2 m3 v0 v1 v2 v3 zero = omega arith
bytes_of_values m0 m1 m2 m3 v0 v1 v2 v3 (suc zero) = omega arith
bytes_of_values m0 m1 m2 m3 v0 v1 v2 v3 (suc (suc zero)) = omega arith
bytes_of_values m0 m1 m2 m3 v0 v1 v2 v3 (suc (suc (suc k))) = omega arith

-- the bytes of groups without an error are bytes

bytes_of_group : (dec s : List ℕ) (i : ℕ) → IsDecodeTable dec → IsBytes s → group_error dec s i ≡ None → IsBytes (group_bytes dec s i)
bytes_of_group dec s i table bytes none =
    let p0 = neither (symbol_error dec s i) _ none in
    let p1 = neither (symbol_error dec s (i + 1)) _ p0.1 in
    let p2 = neither (symbol_error dec s (i + 2)) (symbol_error dec s (i + 3)) p1.1 in
    bytes_of_values _ _ _ _ (symbol_value dec s i table bytes p0.0) (symbol_value dec s (i + 1) table bytes p1.0)
    (symbol_value dec s (i + 2) table bytes p2.0) (symbol_value dec s (i + 3) table bytes p2.1)

no_error_before : (dec s : List ℕ) (q n : ℕ) → q ≤ n → groups_error dec s n ≡ None → groups_error dec s q ≡ None
no_error_before dec s q n within none = by (groups_error dec s q) (λ e is. groups_error_first dec s q n e is within)
  where
    by : (x : Option DecodeError) → ((e : DecodeError) → x ≡ Some e → groups_error dec s n ≡ Some e) → x ≡ None
    by None first = refl
    by (Some e) first = cc (first e refl, none)

bytes_of_groups : (dec s : List ℕ) (q : ℕ) → IsDecodeTable dec → IsBytes s → groups_error dec s q ≡ None → IsBytes (groups_bytes dec s q)
unfolding groups_error groups_bytes
bytes_of_groups dec s zero table bytes none = λ i. omega arith
bytes_of_groups dec s (suc q) table bytes none =
    let both = neither (groups_error dec s q) (group_error dec s (4 * q)) none in
    both_bytes (groups_bytes dec s q) (group_bytes dec s (4 * q)) (bytes_of_groups dec s q table bytes both.0) (bytes_of_group dec s (4 * q) table bytes both.1)

-- so are those of the last group

small_at_first : (k : ℕ) → slice_index no_leftover.morsels k < 64
small_at_first zero = omega arith
small_at_first (suc zero) = omega arith
small_at_first (suc (suc zero)) = omega arith
small_at_first (suc (suc (suc zero))) = omega arith
small_at_first (suc (suc (suc (suc k)))) = omega arith

small_after : (dec : List ℕ) (pad at : ℕ) (bs : List ℕ) (st last : _) (i : ℕ) → IsDecodeTable dec → IsBytes bs → IsLeftover st i
    → scan dec pad at st i bs ≡ Ok last → (k : ℕ) → slice_index last.morsels k < 64
small_after dec pad at [] st last i table bytes held is =
    let same : st ≡ last = cc (scan-nil dec pad at st i, is) in
    subst (λ x. (k : ℕ) → slice_index x.morsels k < 64) same held.3
small_after dec pad at (b ∷ bs) st last i table bytes held is =
    by (λ next. small_after dec pad at bs next last (i + 1) table (λ k. bytes (suc k))) (push_leftover dec pad at st i b) refl
  where
    by : ((next : _) → IsLeftover next (i + 1) → scan dec pad at next (i + 1) bs ≡ Ok last → (k : ℕ) → slice_index last.morsels k < 64)
        → (r : Result _ DecodeError) → push_leftover dec pad at st i b ≡ r → (k : ℕ) → slice_index last.morsels k < 64
    by more (Ok next) pushed =
        more next (IsLeftover_next dec pad at st i b next table held (bytes 0) pushed) (sym (scan-cons_ok dec pad at st i b bs next pushed) ∙ is)
    by more (Err e) pushed = cc (scan-cons_err dec pad at st i b bs e pushed, is)

bytes_of_last : (dec : List ℕ) (pad at : ℕ) (s : List ℕ) → IsDecodeTable dec → IsBytes s → IsBytes (suffix_bytes dec pad at s)
bytes_of_last dec pad at s table bytes = by (scan_last dec pad at s) refl
  where
    by : (r : Result _ DecodeError) → scan_last dec pad at s ≡ r → IsBytes (scan_bytes r)
    by (Ok st) is =
        let small = small_after dec pad at (drop at s) no_leftover st 0 table (λ k. rw (get_or-drop at s k 0) (bytes (at + k)))
        (omega arith, omega arith, omega arith, small_at_first) is in
        let group : List ℕ = decode_group (slice_index st.morsels 0) (slice_index st.morsels 1) (slice_index st.morsels 2) (slice_index st.morsels 3) in
        let count : ℕ = st.morsels_count * 6 / 8 in
        front_bytes (take count group) (drop count group)
        (subst IsBytes (sym (take-append-drop count group)) (bytes_of_values _ _ _ _ (small 0) (small 1) (small 2) (small 3)))
    by (Err e) is = λ k. omega arith

-- what has no error

no_error_of : (x : Option DecodeError) (d b : List ℕ) → decode_outcome x d ≡ Ok b → x ≡ None
no_error_of None d b is = refl
no_error_of (Some e) d b is = cc

-- what is decoded is bytes
pub decoded_are_bytes : (e : GeneralPurpose) (s b : List ℕ) → IsBytes s → decode_of e s ≡ Ok b → IsBytes b
decoded_are_bytes e s b bytes reads =
    let dec : List ℕ = e.decode_table in
    let pad : ℕ = e.padding.value in
    let n : ℕ = groups_before_last (length s) in
    let table = IsDecodeTable_from e.encode_table dec (are_tables_inverse e.encode_table dec pad e.tables) in
    let no_lone = neither (lone_error dec pad s) _ (no_error_of _ _ b reads) in
    let no_groups = neither (groups_error dec s n) _ no_lone.1 in
    decode_of_bytes e s b
    (both_bytes (groups_bytes dec s n) (suffix_bytes dec pad (4 * n) s) (bytes_of_groups dec s n table bytes no_groups.0)
    (bytes_of_last dec pad (4 * n) s table bytes))
    reads

no_padding : (pad n : ℕ) (padding : Bool) (xs : List ℕ) → n ≡ 0 → xs ++ (if padding then replicate n pad else []) ≡ xs
no_padding pad n true xs none = rw none (append-nil xs)
no_padding pad n false xs none = append-nil xs

module _ (e : GeneralPurpose) (strict : IsStrict e) (consistent : IsConsistent e) where
  abbrev enc : List ℕ
  enc = e.encode_table

  abbrev dec : List ℕ
  dec = e.decode_table

  -- whole groups of bytes are encoded without padding
  unpadded : (x : List ℕ) → length x % 3 ≡ 0 → encode_of e x ≡ encode_symbols enc x
  unpadded x whole =
      let none : padding_len (length x) ≡ 0 = omega (arith, whole) in
      no_padding e.padding.value (padding_len (length x)) e.config.encode_padding (encode_symbols enc x) none

  -- the text is read as a front of whole groups, and then as the rest
  joins : (front rest x : List ℕ) → IsBytes front → IsBytes x → decode_of e front ≡ Ok x → length x % 3 ≡ 0 → 0 < length rest
      → decoded_of e (front ++ rest) ≡ prepend_known x (decoded_of e rest)
  joins front rest x front_bytes x_bytes reads whole some =
      let q : ℕ = length x / 3 in
      let symbols : front ≡ encode_symbols enc x = decode_of_strict e front x strict front_bytes reads ∙ unpadded x whole in
      let count : 3 * q ≡ length x = omega (arith, whole) in
      let groups = groups_encoded enc dec x rest e.padding.value q e.tables x_bytes (omega (arith, count)) in
      let size : length front ≡ 4 * q = ap length symbols ∙ length-encode_symbols enc x ∙ omega (arith, count) in
      let text : encode_symbols enc x ++ rest ≡ front ++ rest = ap (λ (s : List ℕ). s ++ rest) (sym symbols) in
      let none : groups_error dec (front ++ rest) q ≡ None = subst (λ (s : List ℕ). groups_error dec s q ≡ None) text groups.0 in
      let all : take (3 * q) x ≡ x = take_all (3 * q) x (omega (arith, count)) in
      let bytes : groups_bytes dec (front ++ rest) q ≡ x = subst (λ (s : List ℕ). groups_bytes dec s q ≡ take (3 * q) x) text groups.1 ∙ all in
      let left : drop (4 * q) (front ++ rest) ≡ rest = drop_at front rest (4 * q) size in
      let inside : 4 * q < length (front ++ rest) = omega (arith, length-append front rest) in
      let split = decoded_of-groups e (front ++ rest) [] q inside none in
      rw (append-nil (front ++ rest), bytes, left, append-nil rest) at split

  -- the front of a text that is read, where more comes after it, is read as whole groups
  front_reads : (front rest b : List ℕ) (q : ℕ) → IsBytes (front ++ rest) → length front ≡ 4 * q → 0 < length rest → decode_of e (front ++ rest) ≡ Ok b
      → (x : List ℕ) × (decode_of e front ≡ Ok x) × (length x ≡ 3 * q)
  front_reads front rest b q bytes size some reads =
      let s : List ℕ = front ++ rest in
      let n : ℕ = groups_before_last (length s) in
      let inverse = are_tables_inverse enc dec e.padding.value e.tables in
      let no_lone = neither (lone_error dec e.padding.value s) _ (no_error_of _ _ b reads) in
      let no_groups = neither (groups_error dec s n) _ no_lone.1 in
      let none : groups_error dec s q ≡ None = no_error_before dec s q n (omega (arith, size, length-append front rest)) no_groups.0 in
      let x : List ℕ = groups_bytes dec s q in
      let x_bytes : IsBytes x = bytes_of_groups dec s q (IsDecodeTable_from enc dec inverse) bytes none in
      let count : length x ≡ 3 * q = length-groups_bytes dec s q in
      let fits : 4 * q ≤ length s = omega (arith, size, length-append front rest) in
      let taken : take (4 * q) s ≡ front = take_at front rest (4 * q) size in
      let symbols : front ≡ encode_of e x = sym taken ∙ take_groups enc dec s q inverse bytes fits none ∙ sym (unpadded x (omega (arith, count))) in
      (x, subst (λ (t : List ℕ). decode_of e t ≡ Ok x) (sym symbols) (decode_of-encode_of e x consistent x_bytes), count)

-- what the standard engine reads

nothing_reads : bytes_of [] ≡ Some []
unfolding decoded_of
nothing_reads = decoded_of-nil standard

-- nothing is read as no bytes
pub none_left : (rest : List ℕ) → true ≡ (length rest == 0) → bytes_of rest ≡ Some []
none_left [] none = nothing_reads
none_left (next ∷ rest) none = cc (none, ne_eqb (length (next ∷ rest)) 0 (omega arith))

whole_reads : (front : List ℕ) → bytes_of (front ++ []) ≡ bytes_of front
whole_reads front = ap bytes_of (append-nil front)

joins_standard : (front rest x : List ℕ) → IsBytes front → IsBytes x → decode_of standard front ≡ Ok x → length x % 3 ≡ 0 → 0 < length rest
    → bytes_of (front ++ rest) ≡ option_map (λ (more : List ℕ). x ++ more) (bytes_of rest)
unfolding decoded_of
joins_standard front rest x = joins standard strict refl front rest x

-- a part that is whole where more comes after it
pub part_reads : (front rest x : List ℕ) → IsBytes front → decode_of standard front ≡ Ok x → (0 < length rest → length x ≡ 768)
    → bytes_of (front ++ rest) ≡ option_map (λ (more : List ℕ). x ++ more) (bytes_of rest)
part_reads front [] x bytes reads whole =
    let read : bytes_of front ≡ Some x = ap result_ok reads in
    whole_reads front ∙ read ∙ rw (nothing_reads, append-nil x) refl
part_reads front (next ∷ rest) x bytes reads whole =
    joins_standard front (next ∷ rest) x bytes (decoded_are_bytes standard front x bytes reads) reads (omega (arith, whole (omega arith))) (omega arith)

-- a text is not read whose front is not, or is not whole where more comes after it
pub part_bars : (front rest : List ℕ) → IsBytes (front ++ rest) → (0 < length rest → length front ≡ 1024)
    → ((x : List ℕ) → decode_of standard front ≡ Ok x → (0 < length rest) × (length x < 768)) → bytes_of (front ++ rest) ≡ None
part_bars front rest bytes whole short = by (decode_of standard (front ++ rest)) (λ b reads. never rest b bytes whole short reads)
  where
    never : (rest b : List ℕ) → IsBytes (front ++ rest) → (0 < length rest → length front ≡ 1024)
        → ((x : List ℕ) → decode_of standard front ≡ Ok x → (0 < length rest) × (length x < 768)) → decode_of standard (front ++ rest) ≡ Ok b → ⊥
    never [] b bytes whole short reads =
        let some = (short b (rw (append-nil front) at reads)).0 in
        omega arith
    never (next ∷ rest) b bytes whole short reads =
        let size = whole (omega arith) in
        let read = front_reads standard strict refl front (next ∷ rest) b 256 bytes (omega (arith, size)) (omega arith) reads in
        let less = (short read.0 read.1).1 in
        omega (arith, read.2)

    by : (r : Result (List ℕ) DecodeError) → ((b : List ℕ) → r ≡ Ok b → ⊥) → result_ok r ≡ None
    by (Ok b) never_ok = absurd (never_ok b refl)
    by (Err e) never_ok = refl
