-- Tokens that are printed, and then sent in ASCII, are lexed as they were printed.
use Rattle.std.proofs.Common.{◌≡◌, ◌<◌, ℕ, zero, suc, Bool, true, false, cond, ◌&&◌, List, [], ◌∷◌, ◌++◌, refl, sym, ap, ap₂, ◌∙◌, subst, arith, append_assoc, IsUtf8}
use Rattle.std.specs.Prelude.{⊤}
use Rattle.std.specs.List.{AllByRecursion}
use Rattle.std.specs.Str.{IsAscii}
use Rattle.std.proofs.lemmas.Str.{IsUtf8-from_ascii}
use Rattle.json.specs.Token.{Token, bad, begin_array, begin_object, boolean, end_array, end_object, key, null, number, string}
use Rattle.json.specs.Lex.{between, colon, comma, lex, string_token, token}
use Rattle.json.specs.Print.{ArePrintable, begins, ends, escape, IsPrintable, print_from, quoted, token_text}
use Rattle.json.specs.Word.{ends_word, word}
use Rattle.json.proofs.Printed.Numbers.{in_word-ended, lex-number}
use Rattle.json.proofs.Printed.Strings.{content-escape, lex-escape}
use Rattle.json.proofs.Printed.Utf8.{IsUtf8-boolean, IsUtf8-key, IsUtf8-quoted}
use Rattle.qo_replies.specs.Json.{ascii}
use Rattle.qo_replies.proofs.AsciiLemmas.{ascii-nil, ascii-plain}
use Rattle.qo_replies.proofs.QuoteLemmas.{ascii-append, ascii-before, small-ascii}
use Rattle.qo_save.proofs.StringLemmas.{IsUtf8-escape, texts_lem}

-- what is to be known of a token beside that it can be printed: its text is in UTF-8, that of a number in ASCII
abbrev pub IsSpelled : Token → Type 0
IsSpelled begin_object = ⊤
IsSpelled end_object = ⊤
IsSpelled begin_array = ⊤
IsSpelled end_array = ⊤
IsSpelled (key s) = IsUtf8 s
IsSpelled (string s) = IsUtf8 s
IsSpelled (number s) = IsAscii s
IsSpelled (boolean b) = ⊤
IsSpelled null = ⊤
IsSpelled bad = ⊤

-- a byte of ASCII stands for itself
single : (x : ℕ) → x < 128 → IsAscii (x ∷ [])
single x h zero = omega (arith, h)
single x h (suc i) = omega arith

one_kept : (x : ℕ) → x < 128 → ascii (x ∷ []) ≡ x ∷ []
one_kept x h = ascii-plain (x ∷ []) (single x h)

first_kept : (x : ℕ) (xs : List ℕ) → x < 128 → ascii (x ∷ xs) ≡ x ∷ ascii xs
first_kept x xs h = ascii-before (x ∷ []) xs (single x h)

-- ---- after a value stands what ends a word

ended : (x : ℕ) (xs : List ℕ) → x < 128 → ends_word (x ∷ ascii xs) ≡ true → ends_word (ascii (x ∷ xs)) ≡ true
ended x xs h e = rw (first_kept x xs h) e

abbrev Ended : Bool → List Token → Type 0
Ended c ts = (ends_word (ascii (print_from c ts)) ≡ true) × (ends_word (print_from c ts) ≡ true)

after_value : (ts : List Token) → Ended true ts
unfolding print_from
after_value [] = (rw (ascii-nil [] refl) refl, refl)
after_value (begin_object ∷ ts) = (ended 44 _ (omega arith) refl, refl)
after_value (end_object ∷ ts) = (ended 125 _ (omega arith) refl, refl)
after_value (begin_array ∷ ts) = (ended 44 _ (omega arith) refl, refl)
after_value (end_array ∷ ts) = (ended 93 _ (omega arith) refl, refl)
after_value (key s ∷ ts) = (ended 44 _ (omega arith) refl, refl)
after_value (string s ∷ ts) = (ended 44 _ (omega arith) refl, refl)
after_value (number s ∷ ts) = (ended 44 _ (omega arith) refl, refl)
after_value (boolean b ∷ ts) = (ended 44 _ (omega arith) refl, refl)
after_value (null ∷ ts) = (ended 44 _ (omega arith) refl, refl)
after_value (bad ∷ ts) = (ended 44 _ (omega arith) refl, refl)

-- ---- a token, and what follows it

-- a text in quotes, as it is sent and as it is printed
quoted_sent : (s r : List ℕ) → IsUtf8 s → lex between (ascii (quoted s) ++ r) ≡ token (string s) ∷ lex between r
unfolding lex
quoted_sent s r utf8 =
    let close : ascii (escape s ++ 34 ∷ []) ≡ ascii (escape s) ++ 34 ∷ [] =
    ascii-append (escape s) (34 ∷ []) (IsUtf8-escape s utf8) ∙ ap (λ l. ascii (escape s) ++ l) (one_kept 34 (omega arith)) in
    let whole : ascii (quoted s) ≡ 34 ∷ (ascii (escape s) ++ 34 ∷ []) = first_kept 34 (escape s ++ 34 ∷ []) (omega arith) ∙ ap (λ l. 34 ∷ l) close in
    let back = texts_lem s utf8 in
    ap (λ l. lex between (l ++ r)) whole ∙ ap (λ l. lex between (34 ∷ l)) (append_assoc (ascii (escape s)) (34 ∷ []) r)
    ∙ ap₂ (λ o l. token (string_token o) ∷ l) (back.said r) (back.passed r)

quoted_printed : (s r : List ℕ) → lex between (quoted s ++ r) ≡ token (string s) ∷ lex between r
unfolding lex
quoted_printed s r =
    ap (λ l. lex between (34 ∷ l)) (append_assoc (escape s) (34 ∷ []) r) ∙ ap₂ (λ o l. token (string_token o) ∷ l) (content-escape s r) (lex-escape s r)

-- a name with its colon
colon_after : (r : List ℕ) → lex between (58 ∷ r) ≡ colon ∷ lex between r
unfolding lex
colon_after r = refl

key_sent : (s r : List ℕ) → IsUtf8 s → lex between (ascii (quoted s ++ 58 ∷ []) ++ r) ≡ token (string s) ∷ colon ∷ lex between r
key_sent s r utf8 =
    let whole : ascii (quoted s ++ 58 ∷ []) ≡ ascii (quoted s) ++ 58 ∷ [] =
    ascii-append (quoted s) (58 ∷ []) (IsUtf8-quoted s utf8) ∙ ap (λ l. ascii (quoted s) ++ l) (one_kept 58 (omega arith)) in
    ap (λ l. lex between (l ++ r)) whole ∙ ap (lex between) (append_assoc (ascii (quoted s)) (58 ∷ []) r) ∙ quoted_sent s (58 ∷ r) utf8
    ∙ ap (λ l. token (string s) ∷ l) (colon_after r)

key_printed : (s r : List ℕ) → lex between ((quoted s ++ 58 ∷ []) ++ r) ≡ token (string s) ∷ colon ∷ lex between r
key_printed s r =
    ap (lex between) (append_assoc (quoted s) (58 ∷ []) r) ∙ quoted_printed s (58 ∷ r) ∙ ap (λ l. token (string s) ∷ l) (colon_after r)

-- the three literals
true_printed : (r : List ℕ) → ends_word r ≡ true → lex between (token_text (boolean true) ++ r) ≡ token (boolean true) ∷ lex between r
unfolding lex word
true_printed r h = ap₂ (λ b l. token (cond b (boolean true) bad) ∷ l) h (in_word-ended r h)

false_printed : (r : List ℕ) → ends_word r ≡ true → lex between (token_text (boolean false) ++ r) ≡ token (boolean false) ∷ lex between r
unfolding lex word
false_printed r h = ap₂ (λ b l. token (cond b (boolean false) bad) ∷ l) h (in_word-ended r h)

null_printed : (r : List ℕ) → ends_word r ≡ true → lex between (token_text null ++ r) ≡ token null ∷ lex between r
unfolding lex word
null_printed r h = ap₂ (λ b l. token (cond b null bad) ∷ l) h (in_word-ended r h)

-- before two texts of the same lexemes
module _ (sent printed : List ℕ) (same : lex between sent ≡ lex between printed) where
  -- a bracket
  bracket_alike : (x : ℕ) → x < 128 → lex between (x ∷ sent) ≡ lex between (x ∷ printed)
      → lex between (ascii (x ∷ []) ++ sent) ≡ lex between ((x ∷ []) ++ printed)
  bracket_alike x h e = ap (λ l. lex between (l ++ sent)) (one_kept x h) ∙ e

  brackets : (lex between (123 ∷ sent) ≡ lex between (123 ∷ printed)) × (lex between (125 ∷ sent) ≡ lex between (125 ∷ printed))
      × (lex between (91 ∷ sent) ≡ lex between (91 ∷ printed)) × (lex between (93 ∷ sent) ≡ lex between (93 ∷ printed))
      × (lex between (44 ∷ sent) ≡ lex between (44 ∷ printed))
  unfolding lex
  brackets = (
    ap (λ l. token begin_object ∷ l) same,
    ap (λ l. token end_object ∷ l) same,
    ap (λ l. token begin_array ∷ l) same,
    ap (λ l. token end_array ∷ l) same,
    ap (λ l. comma ∷ l) same,
  )

  -- a word
  word_alike : (t : Token) → IsAscii (token_text t) → lex between (token_text t ++ sent) ≡ token t ∷ lex between sent
      → lex between (token_text t ++ printed) ≡ token t ∷ lex between printed → lex between (ascii (token_text t) ++ sent) ≡ lex between (token_text t ++ printed)
  word_alike t plain left right =
      ap (λ l. lex between (l ++ sent)) (ascii-plain (token_text t) plain) ∙ left ∙ ap (λ l. token t ∷ l) same ∙ sym right

  token_alike : (t : Token) → IsPrintable t → IsSpelled t → (ends t ≡ true → (ends_word sent ≡ true) × (ends_word printed ≡ true))
      → lex between (ascii (token_text t) ++ sent) ≡ lex between (token_text t ++ printed)
  token_alike begin_object h k after = bracket_alike 123 (omega arith) brackets.0
  token_alike end_object h k after = bracket_alike 125 (omega arith) brackets.1
  token_alike begin_array h k after = bracket_alike 91 (omega arith) brackets.2
  token_alike end_array h k after = bracket_alike 93 (omega arith) brackets.3
  token_alike (key s) h k after = key_sent s sent k ∙ ap (λ l. token (string s) ∷ colon ∷ l) same ∙ sym (key_printed s printed)
  token_alike (string s) h k after = quoted_sent s sent k ∙ ap (λ l. token (string s) ∷ l) same ∙ sym (quoted_printed s printed)
  token_alike (number s) h k after = let e = after refl in word_alike (number s) k (lex-number s sent h e.0) (lex-number s printed h e.1)
  token_alike (boolean true) h k after =
      let e = after refl in word_alike (boolean true) (small-ascii (token_text (boolean true)) refl) (true_printed sent e.0) (true_printed printed e.1)
  token_alike (boolean false) h k after =
      let e = after refl in word_alike (boolean false) (small-ascii (token_text (boolean false)) refl) (false_printed sent e.0) (false_printed printed e.1)
  token_alike null h k after = let e = after refl in word_alike null (small-ascii (token_text null) refl) (null_printed sent e.0) (null_printed printed e.1)
  token_alike bad h k after = absurd h

  separator_alike : (c : Bool) → lex between (cond c (44 ∷ []) [] ++ sent) ≡ lex between (cond c (44 ∷ []) [] ++ printed)
  separator_alike true = brackets.4
  separator_alike false = same

-- ---- all tokens

separator-ascii : (c : Bool) → IsAscii (cond c (44 ∷ []) [])
separator-ascii true = single 44 (omega arith)
separator-ascii false = small-ascii [] refl

token-utf8 : (t : Token) → IsPrintable t → IsSpelled t → IsUtf8 (token_text t)
token-utf8 begin_object h k = IsUtf8-from_ascii (123 ∷ []) (single 123 (omega arith))
token-utf8 end_object h k = IsUtf8-from_ascii (125 ∷ []) (single 125 (omega arith))
token-utf8 begin_array h k = IsUtf8-from_ascii (91 ∷ []) (single 91 (omega arith))
token-utf8 end_array h k = IsUtf8-from_ascii (93 ∷ []) (single 93 (omega arith))
token-utf8 (key s) h k = IsUtf8-key s k
token-utf8 (string s) h k = IsUtf8-quoted s k
token-utf8 (number s) h k = IsUtf8-from_ascii s k
token-utf8 (boolean b) h k = IsUtf8-boolean b
token-utf8 null h k = IsUtf8-from_ascii (token_text null) (small-ascii (token_text null) refl)
token-utf8 bad h k = absurd h

pub lexed_as_printed : (c : Bool) (ts : List Token) → ArePrintable ts → AllByRecursion IsSpelled ts
    → lex between (ascii (print_from c ts)) ≡ lex between (print_from c ts)
unfolding print_from ArePrintable
lexed_as_printed c [] h k = ap (lex between) (ascii-nil [] refl)
lexed_as_printed c (t ∷ ts) h k =
    let rest : List ℕ = print_from (ends t) ts in
    let comma_before : List ℕ = cond (c && begins t) (44 ∷ []) [] in
    let apart : ascii (comma_before ++ (token_text t ++ rest)) ≡ comma_before ++ (ascii (token_text t) ++ ascii rest) =
    ascii-before comma_before (token_text t ++ rest) (separator-ascii (c && begins t))
    ∙ ap (λ l. comma_before ++ l) (ascii-append (token_text t) rest (token-utf8 t h.0 k.0)) in
    let rest_same : lex between (ascii rest) ≡ lex between rest = lexed_as_printed (ends t) ts h.1 k.1 in
    let after : ends t ≡ true → Ended (ends t) ts = λ e. subst (λ b. Ended b ts) (sym e) (after_value ts) in
    ap (lex between) apart
    ∙ separator_alike (ascii (token_text t) ++ ascii rest) (token_text t ++ rest) (token_alike (ascii rest) rest rest_same t h.0 k.0 after) (c && begins t)
