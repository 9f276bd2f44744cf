-- Lists of properties, property by property.
use Rattle.std.proofs.Common.{rules, ◌≡◌, ℕ, Bool, true, false, List, [], ◌∷◌, ◌++◌, map, refl, sym, ◌∙◌, ap, append_assoc, append-nil, IsUtf8, arith, suc, zero}
use Rattle.std.specs.Prelude.{codes}
use Rattle.std.specs.List.{list_all}
use Rattle.std.specs.Str.{IsAscii}
use Rattle.std.proofs.lemmas.List.Folds.{list_all-append}
use Rattle.std.proofs.lemmas.Str.{IsUtf8-append, IsUtf8-from_ascii}
use Rattle.json.specs.Print.{quoted}
use Rattle.serde_json.proofs.OnLiterals.{serde_json_on_literals}
use Rattle.serde_json.specs.View.{items_of}
use Rattle.serde_json.specs.Written.{comma_if, compact_text, items_text}
use Rattle.qo_values.specs.Kinds.{type_name}
use Rattle.qo_values.specs.TypeTexts.{around, text_of, value_word}
use Rattle.qo_values.specs.declared.kinds.TypeId.{TypeId}
use Rattle.qo_values.specs.declared.kinds.TypeId.TheVariants as kind
use Rattle.qo_values.specs.declared.properties.PropType.{PropType}
use Rattle.qo_values.specs.declared.properties.PropType.TheVariants as ty
use Rattle.qo_values.specs.declared.type_texts.TypeText.{TypeText}
use Rattle.qo_values.specs.declared.type_texts.TypeText.TheVariants as text
use Rattle.qo_values.proofs.EachLemmas.{each}
use Rattle.qo_replies.specs.Json.{ascii, json}
use Rattle.qo_replies.specs.PlainBytes.{is_plain_byte}
use Rattle.qo_replies.specs.Properties.{Begun, HasWritten, are_any, before_name, before_type, after_type, opened, properties_data, property_data, rows_text}
use Rattle.qo_replies.proofs.AsciiLemmas.{ascii-plain}
use Rattle.qo_replies.proofs.QuoteLemmas.{ascii-append, ascii-before, small-ascii, three_more, five_more}

-- what is told of types stands for itself
plain-name : (t : TypeId) → list_all is_plain_byte (type_name t) ≡ true
plain-name = each (λ (t : TypeId). list_all is_plain_byte (type_name t) ≡ true) (search rules)

both-plain : (a b : List ℕ) → list_all is_plain_byte a ≡ true → list_all is_plain_byte b ≡ true → list_all is_plain_byte (a ++ b) ≡ true
both-plain a b ea eb = list_all-append is_plain_byte a b ∙ rw (ea, eb) refl

pub plain-around : (word : List ℕ) (t : TypeId) → list_all is_plain_byte word ≡ true → list_all is_plain_byte (around word t) ≡ true
plain-around word t e =
    both-plain ((word ++ codes "<") ++ type_name t) (codes ">")
    (both-plain (word ++ codes "<") (type_name t) (both-plain word (codes "<") e refl) (plain-name t)) refl

plain-value : (t : PropType) → list_all is_plain_byte (value_word t) ≡ true
plain-value ty.Bool = refl
plain-value (ty.Int lo hi) = refl
plain-value (ty.Uint lo hi step) = refl
plain-value ty.Text = refl

pub plain-type : (t : TypeText) → list_all is_plain_byte (text_of t) ≡ true
plain-type (text.Value t) = plain-value t
plain-type (text.Child t) = plain-around (codes "child") t refl
plain-type (text.Link t) = plain-around (codes "link") t refl
plain-type text.Nothing = refl

-- one property more in a list
rows_more : (rows : List (List ℕ × List ℕ)) (row : List ℕ × List ℕ)
    → rows_text true (rows ++ row ∷ []) ≡ rows_text true rows ++ (44 ∷ compact_text (property_data row))
rows_more [] row = rw (append-nil (compact_text (property_data row))) refl
rows_more (first ∷ rows) row = ap (λ t. 44 ∷ t)
    (rw (rows_more rows row) (sym (append_assoc (compact_text (property_data first)) (rows_text true rows) (44 ∷ compact_text (property_data row)))))

pub opened_more : (rows : List (List ℕ × List ℕ)) (row : List ℕ × List ℕ)
    → opened (rows ++ row ∷ []) ≡ opened rows ++ (comma_if (are_any rows) ++ compact_text (property_data row))
opened_more [] row = rw (append-nil (compact_text (property_data row))) refl
opened_more (first ∷ rows) row = ap (λ t. 91 ∷ t)
    (rw (rows_more rows row) (sym (append_assoc (compact_text (property_data first)) (rows_text true rows) (44 ∷ compact_text (property_data row)))))

-- the closing bracket
items_rows : (later : Bool) (rows : List (List ℕ × List ℕ)) → items_text later (items_of (map property_data rows)) ≡ rows_text later rows ++ 93 ∷ []
items_rows later [] = refl
items_rows later (row ∷ rows) =
    rw (
      items_rows true rows,
      append_assoc (comma_if later) (compact_text (property_data row) ++ rows_text true rows) (93 ∷ []),
      append_assoc (compact_text (property_data row)) (rows_text true rows) (93 ∷ []),
    ) refl

bracket-ascii : IsAscii (93 ∷ [])
bracket-ascii zero = omega arith
bracket-ascii (suc i) = omega arith

pub closed : (rows : List (List ℕ × List ℕ)) → IsUtf8 (opened rows) → json (properties_data rows) ≡ ascii (opened rows) ++ 93 ∷ []
unfolding json
closed rows spelled =
    rw (items_rows false rows) (ascii-append (opened rows) (93 ∷ []) spelled ∙ rw (ascii-plain (93 ∷ []) bracket-ascii) refl)

-- a property as it is written
pub property-text : (some : Bool) (row : List ℕ × List ℕ)
    → comma_if some ++ compact_text (property_data row) ≡ before_name some ++ (quoted row.0 ++ (before_type ++ (quoted row.1 ++ after_type)))
unfolding serde_json_on_literals
property-text true row = refl
property-text false row = refl

-- the list without properties
pub none-ascii : ascii (opened []) ≡ 91 ∷ []
none-ascii = ascii-plain (91 ∷ []) at
  where
    at : IsAscii (91 ∷ [])
    at zero = omega arith
    at (suc i) = omega arith

pub none-spelled : IsUtf8 (opened [])
none-spelled = IsUtf8-from_ascii (91 ∷ []) at
  where
    at : IsAscii (91 ∷ [])
    at zero = omega arith
    at (suc i) = omega arith

-- the texts between are ASCII
before_name-ascii : (some : Bool) → IsAscii (before_name some)
before_name-ascii true = small-ascii (before_name true) refl
before_name-ascii false = small-ascii (before_name false) refl

before_type-ascii : IsAscii before_type
before_type-ascii = small-ascii before_type refl

after_type-ascii : IsAscii after_type
after_type-ascii = small-ascii after_type refl

-- a property more, as it is written
pub property-ascii : (some : Bool) (row : List ℕ × List ℕ) → IsUtf8 (quoted row.0) → IsUtf8 (quoted row.1)
    → ascii (comma_if some ++ compact_text (property_data row))
    ≡ before_name some ++ (ascii (quoted row.0) ++ (before_type ++ (ascii (quoted row.1) ++ after_type)))
property-ascii some row name type =
    rw (
      property-text some row,
      ascii-before (before_name some) (quoted row.0 ++ (before_type ++ (quoted row.1 ++ after_type))) (before_name-ascii some),
      ascii-append (quoted row.0) (before_type ++ (quoted row.1 ++ after_type)) name,
      ascii-before before_type (quoted row.1 ++ after_type) before_type-ascii,
      ascii-append (quoted row.1) after_type type,
      ascii-plain after_type after_type-ascii,
    ) refl

pub property-spelled : (some : Bool) (row : List ℕ × List ℕ) → IsUtf8 (quoted row.0) → IsUtf8 (quoted row.1)
    → IsUtf8 (comma_if some ++ compact_text (property_data row))
property-spelled some row name type =
    rw (property-text some row)
    (IsUtf8-append (before_name some) _ (IsUtf8-from_ascii _ (before_name-ascii some))
    (IsUtf8-append (quoted row.0) _ name
    (IsUtf8-append before_type _ (IsUtf8-from_ascii before_type before_type-ascii)
    (IsUtf8-append (quoted row.1) after_type type (IsUtf8-from_ascii after_type after_type-ascii)))))

-- a list with a property more
pub written_more : (rows : List (List ℕ × List ℕ)) (row : List ℕ × List ℕ) (old new : Begun) → HasWritten rows old
    → new.text ≡ old.text ++ ascii (comma_if old.some ++ compact_text (property_data row)) → IsUtf8 (comma_if old.some ++ compact_text (property_data row))
    → new.some ≡ true → HasWritten (rows ++ row ∷ []) new
written_more rows row old new h text spelled some =
    let more = opened_more rows row in
    record {
      text = text ∙ rw (h.text, h.some, more) (sym (ascii-append (opened rows) (comma_if (are_any rows) ++ compact_text (property_data row)) h.spelled));
      some = some ∙ sym (any-more rows);
      spelled = rw more (IsUtf8-append (opened rows) (comma_if (are_any rows) ++ compact_text (property_data row)) h.spelled (rw h.some at spelled));
    }
  where
    any-more : (rows : List (List ℕ × List ℕ)) → are_any (rows ++ row ∷ []) ≡ true
    any-more [] = refl
    any-more (first ∷ rows) = refl

-- a word around a type's name, piece by piece
pub around-pieces : (a word name : List ℕ)
    → ((((a ++ 34 ∷ []) ++ word) ++ codes "<") ++ name) ++ (codes ">" ++ 34 ∷ []) ≡ a ++ (34 ∷ ((((word ++ codes "<") ++ name) ++ codes ">") ++ 34 ∷ []))
around-pieces a word name =
    five_more a (34 ∷ []) word (codes "<") name (codes ">" ++ 34 ∷ [])
    ∙ ap (λ t. a ++ 34 ∷ t) (sym (append_assoc ((word ++ codes "<") ++ name) (codes ">") (34 ∷ []) ∙ three_more word (codes "<") name (codes ">" ++ 34 ∷ [])))
