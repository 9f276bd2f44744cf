-- A text that is written piece by piece.
use Rattle.std.proofs.lemmas.Bool.{or_parts}
use Rattle.std.proofs.Common.{◌≡◌, ℕ, Bool, true, false, List, [], ◌∷◌, ◌++◌, refl, sym, ap, ◌∙◌, append_assoc, IsUtf8}
use Rattle.std.specs.Str.{IsAscii}
use Rattle.std.proofs.lemmas.Str.{IsUtf8-append, IsUtf8-from_ascii}
use Rattle.json.specs.Print.{quoted}
use Rattle.serde_json.specs.Data.{Data, Items, no_items, item, Members, no_members, member}
use Rattle.serde_json.specs.Written.{comma_if, compact_text, has_float, items_have_float, items_text, members_have_float, members_text}
use Rattle.qo_replies.specs.Json.{ascii}
use Rattle.qo_replies.proofs.AsciiLemmas.{ascii-plain}
use Rattle.qo_replies.proofs.QuoteLemmas.{ascii-append, small-ascii}

-- of the whole text so much is written, and this is left
pub record IsLeft (old now left whole : List ℕ) : Type 0 where
  pub bytes : now ++ ascii left ≡ old ++ ascii whole
  pub spelled : IsUtf8 left → IsUtf8 whole

nothing_written : (old whole : List ℕ) → IsLeft old old whole whole
nothing_written old whole = record { bytes = refl; spelled = λ h. h }

-- a piece more
piece : (old now after p left whole : List ℕ) → IsLeft old now (p ++ left) whole → after ≡ now ++ ascii p → IsUtf8 p → IsLeft old after left whole
piece old now after p left whole was is spelled = record {
  bytes = rw is (append_assoc now (ascii p) (ascii left)) ∙ ap (λ t. now ++ t) (sym (ascii-append p left spelled)) ∙ was.bytes;
  spelled = λ h. was.spelled (IsUtf8-append p left spelled h);
}

plain_piece : (old now after p left whole : List ℕ) → IsLeft old now (p ++ left) whole → after ≡ now ++ p → IsAscii p → IsLeft old after left whole
plain_piece old now after p left whole was is plain =
    piece old now after p left whole was (is ∙ ap (λ t. now ++ t) (sym (ascii-plain p plain))) (IsUtf8-from_ascii p plain)

-- the whole text is written
pub record IsWritten (old after whole : List ℕ) : Type 0 where
  pub bytes : after ≡ old ++ ascii whole
  pub spelled : IsUtf8 whole

-- the last piece
last_piece : (old now after p whole : List ℕ) → IsLeft old now p whole → after ≡ now ++ p → IsAscii p → IsWritten old after whole
last_piece old now after p whole was is plain =
    record { bytes = is ∙ ap (λ t. now ++ t) (sym (ascii-plain p plain)) ∙ was.bytes; spelled = was.spelled (IsUtf8-from_ascii p plain) }

comma-ascii : (later : Bool) → IsAscii (comma_if later)
comma-ascii true = small-ascii (comma_if true) refl
comma-ascii false = small-ascii (comma_if false) refl

-- ---- items

-- where no item is a float, none of those left is, and their text is left
abbrev pub ItemsLeft : Items → Items → Bool → List ℕ → List ℕ → Type 0
ItemsLeft all left later old now =
    items_have_float all ≡ false → (items_have_float left ≡ false) × IsLeft old now (items_text later left) (91 ∷ items_text false all)

pub items_begin : (all : Items) (old now : List ℕ) → now ≡ old ++ 91 ∷ [] → ItemsLeft all all false old now
items_begin all old now is none =
    let whole : List ℕ = 91 ∷ items_text false all in
    (none, plain_piece old old now (91 ∷ []) (items_text false all) whole (nothing_written old whole) is (small-ascii (91 ∷ []) refl))

pub item_written : (all : Items) (d : Data) (ds : Items) (later : Bool) (old now comma after : List ℕ) → ItemsLeft all (item d ds) later old now
    → comma ≡ now ++ comma_if later → (has_float d ≡ false → after ≡ comma ++ ascii (compact_text d))
    → (has_float d ≡ false → IsUtf8 (compact_text d)) → ItemsLeft all ds true old after
item_written all d ds later old now comma after was before is spelled none =
    let whole : List ℕ = 91 ∷ items_text false all in
    let left : List ℕ = compact_text d ++ items_text true ds in
    let whole_numbers = or_parts (has_float d) (items_have_float ds) (was none).0 in
    let then = plain_piece old now comma (comma_if later) left whole (was none).1 before (comma-ascii later) in
    (whole_numbers.1, piece old comma after (compact_text d) (items_text true ds) whole then (is whole_numbers.0) (spelled whole_numbers.0))

pub items_end : (all : Items) (later : Bool) (old now after : List ℕ) → ItemsLeft all no_items later old now → after ≡ now ++ 93 ∷ []
    → items_have_float all ≡ false → IsWritten old after (91 ∷ items_text false all)
items_end all later old now after was is none =
    last_piece old now after (93 ∷ []) (91 ∷ items_text false all) (was none).1 is (small-ascii (93 ∷ []) refl)

-- ---- members

abbrev pub MembersLeft : Members → Members → Bool → List ℕ → List ℕ → Type 0
MembersLeft all left later old now =
    members_have_float all ≡ false → (members_have_float left ≡ false) × IsLeft old now (members_text later left) (123 ∷ members_text false all)

pub members_begin : (all : Members) (old now : List ℕ) → now ≡ old ++ 123 ∷ [] → MembersLeft all all false old now
members_begin all old now is none =
    let whole : List ℕ = 123 ∷ members_text false all in
    (none, plain_piece old old now (123 ∷ []) (members_text false all) whole (nothing_written old whole) is (small-ascii (123 ∷ []) refl))

pub member_written : (all : Members) (k : List ℕ) (d : Data) (ms : Members) (later : Bool) (old now comma name colon after : List ℕ)
    → MembersLeft all (member k d ms) later old now → comma ≡ now ++ comma_if later → name ≡ comma ++ ascii (quoted k) → IsUtf8 (quoted k)
    → colon ≡ name ++ 58 ∷ [] → (has_float d ≡ false → after ≡ colon ++ ascii (compact_text d))
    → (has_float d ≡ false → IsUtf8 (compact_text d)) → MembersLeft all ms true old after
member_written all k d ms later old now comma name colon after was before named spelled then is value_spelled none =
    let whole : List ℕ = 123 ∷ members_text false all in
    let after_name : List ℕ = 58 ∷ (compact_text d ++ members_text true ms) in
    let after_colon : List ℕ = compact_text d ++ members_text true ms in
    let whole_numbers = or_parts (has_float d) (members_have_float ms) (was none).0 in
    let first = plain_piece old now comma (comma_if later) (quoted k ++ after_name) whole (was none).1 before (comma-ascii later) in
    let second = piece old comma name (quoted k) after_name whole first named spelled in
    let third = plain_piece old name colon (58 ∷ []) after_colon whole second then (small-ascii (58 ∷ []) refl) in (
      whole_numbers.1,
      piece old colon after (compact_text d) (members_text true ms) whole third (is whole_numbers.0) (value_spelled whole_numbers.0),
    )

pub members_end : (all : Members) (later : Bool) (old now after : List ℕ) → MembersLeft all no_members later old now → after ≡ now ++ 125 ∷ []
    → members_have_float all ≡ false → IsWritten old after (123 ∷ members_text false all)
members_end all later old now after was is none =
    last_piece old now after (125 ∷ []) (123 ∷ members_text false all) (was none).1 is (small-ascii (125 ∷ []) refl)
