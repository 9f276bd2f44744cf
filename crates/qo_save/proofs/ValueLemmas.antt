-- A value that its text says is read back from what is sent for it.
use Rattle.std.proofs.Common.{◌≡◌, ◌<◌, ◌^◌, ◌==◌, ℕ, suc, ℤ, negsuc, false, cond, List, [], ◌∷◌, ◌++◌, drop, get_or, Option, Some, option_map, option_and_then, Less, Greater, decimal, refl, sym, ap, ap₂, ◌∙◌, subst, arith, append-nil}
use Rattle.std.specs.Prelude.{max}
use Rattle.std.specs.Cmp.Lexicographic.{slice_cmp}
use Rattle.std.specs.List.{AllByRecursion}
use Rattle.std.specs.List.Sorted.{IsStrictlySortedBy}
use Rattle.std.specs.Ordering.{nat_cmp, ordering_reverse}
use Rattle.std.specs.Str.{IsAscii}
use Rattle.std.proofs.lemmas.Bool.{ne_eqb}
use Rattle.std.proofs.lemmas.Cmp.{nat_list_cmp_total}
use Rattle.std.proofs.lemmas.Fmt.{first_decimal, IsAscii-decimal}
use Rattle.std.proofs.lemmas.Str.{IsAscii-append}
use Rattle.json.specs.Json as json
use Rattle.json.specs.Lex.{fresh, punctuate, tokens}
use Rattle.json.specs.Print.{ArePrintable, IsNumber}
use Rattle.json.specs.Token.{Token}
use Rattle.json.specs.Tree as tree
use Rattle.json.specs.Word.{after_exponent, after_fraction, after_number, after_whole, head}
use Rattle.json.proofs.Printed.Decimals.{IsNumber-decimal}
use Rattle.json.proofs.Printed.Tokens.{tokens-print}
use Rattle.json.proofs.Printed.Trees.{ArePrintable-json_tokens, value-json_tokens}
use Rattle.serde_json.specs.Data.{array, boolean, Data, depth, float, item, Items, items_depth, member, Members, members_depth, negative, no_items, no_members, null, Num, number, object, put, string, unsigned}
use Rattle.serde_json.specs.Read.{max_depth, number_of, of_items, of_json, of_members, read}
use Rattle.serde_json.specs.Written.{items_outline, members_outline, number_text, outline}
use Rattle.serde_json.proofs.Numbers.{number_of-decimal, number_of-negative}
use Rattle.serde_json.proofs.Texts.{print-outline}
use Rattle.qo_json.specs.Order.{names_of, NamesRise}
use Rattle.qo_replies.specs.Json.{ascii, json}
use Rattle.qo_replies.proofs.QuoteLemmas.{small-ascii}
use Rattle.qo_save.specs.Texts.{AreExact, HaveExact, IsExact, IsExactNumber, ValuesReadBack}
use Rattle.qo_save.proofs.TokenLemmas.{IsSpelled, lexed_as_printed}

-- ---- numbers

-- the digits of a number say it, and are a number of JSON, in ASCII
record IsDigits (n : Num) : Type 0 where
  read : number_of (number_text n) ≡ Some n
  form : IsNumber (number_text n)
  plain : IsAscii (number_text n)

no_minus : (text : List ℕ) → 48 < get_or text 0 0 → (head text == 45) ≡ false
no_minus [] h = absurd (omega arith)
no_minus (x ∷ xs) h = ne_eqb x 45 (λ e. omega arith)

IsNumber-minus : (n : ℕ) → 0 < n → n < 2 ^ 64 → IsNumber (45 ∷ decimal n)
unfolding after_number
IsNumber-minus n some h =
    let first : (head (decimal n) == 45) ≡ false = no_minus (decimal n) (first_decimal n some h) in
    sym (ap (λ b. option_and_then after_exponent (option_and_then after_fraction (after_whole (cond b (drop 1 (decimal n)) (decimal n))))) first)
    ∙ IsNumber-decimal n h

minus_digits : (n : ℕ) → n < 2 ^ 63 → IsDigits (negative (negsuc n))
minus_digits n h =
    record {
      read = number_of-negative n h;
      form = IsNumber-minus (suc n) (omega arith) (omega (arith, h));
      plain = IsAscii-append (45 ∷ []) (decimal (suc n)) (small-ascii (45 ∷ []) refl) (IsAscii-decimal (suc n) (omega (arith, h)));
    }

digits_said : (n : Num) → IsExactNumber n → IsDigits n
digits_said (unsigned n) h = record { read = number_of-decimal n h; form = IsNumber-decimal n h; plain = IsAscii-decimal n h }
digits_said (negative z) h = subst (λ (y : ℤ). IsDigits (negative y)) (sym h.1.0) (minus_digits h.0 h.1.1)
digits_said (float x) h = absurd h

-- ---- members that go in one after another, in their order

abbrev joined : Members → Members → Members
joined no_members more = more
joined (member k d ms) more = member k d (joined ms more)

joined-none : (ms : Members) → joined ms no_members ≡ ms
joined-none no_members = refl
joined-none (member k d ms) = ap (member k d) (joined-none ms)

joined-more : (found : Members) (k : List ℕ) (d : Data) (ms : Members) → joined (joined found (member k d no_members)) ms ≡ joined found (member k d ms)
joined-more no_members k d ms = refl
joined-more (member l e found) k d ms = ap (member l e) (joined-more found k d ms)

names-joined : (found : Members) (k : List ℕ) (d : Data) (names : List (List ℕ))
    → names_of (joined found (member k d no_members)) ++ names ≡ names_of found ++ k ∷ names
names-joined no_members k d names = refl
names-joined (member l e found) k d names = ap (λ (ns : List (List ℕ)). l ∷ ns) (names-joined found k d names)

among_later : (P : List ℕ → Type 0) (before : List (List ℕ)) (k : List ℕ) (after : List (List ℕ)) → AllByRecursion P (before ++ k ∷ after) → P k
among_later P [] k after h = h.0
among_later P (n ∷ before) k after h = among_later P before k after h.1

put_last : (found : Members) (k : List ℕ) (d : Data) (after : List (List ℕ)) → NamesRise (names_of found ++ k ∷ after)
    → put k d found ≡ joined found (member k d no_members)
unfolding IsStrictlySortedBy
put_last no_members k d after h = refl
put_last (member l e found) k d after h =
    let below : slice_cmp nat_cmp l k ≡ Less = among_later (λ y. slice_cmp nat_cmp l y ≡ Less) (names_of found) k after h.0 in
    let above : slice_cmp nat_cmp k l ≡ Greater = nat_list_cmp_total.antisymm k l ∙ ap ordering_reverse below in
    rw above (ap (member l e) (put_last found k d after h.1))

-- ---- what is written for a value is that value

mutual
  outline_read : (d : Data) → IsExact d → of_json (outline d) ≡ Some d
  outline_read null h = refl
  outline_read (boolean b) h = refl
  outline_read (number n) h = ap (option_map number) (digits_said n h).read
  outline_read (string s) h = refl
  outline_read (array ds) h = ap (option_map array) (items_read ds h)
  outline_read (object ms) h = ap (option_map object) (members_read ms no_members h.0 h.1)

  items_read : (ds : Items) → AreExact ds → of_items (items_outline ds) ≡ Some ds
  items_read no_items h = refl
  items_read (item d ds) h =
      ap (option_and_then (λ (e : Data). option_map (item e) (of_items (items_outline ds)))) (outline_read d h.0) ∙ ap (option_map (item d)) (items_read ds h.1)

  members_read : (ms found : Members) → NamesRise (names_of found ++ names_of ms) → HaveExact ms → of_members (members_outline ms) found ≡ Some (joined found ms)
  members_read no_members found rise h = ap Some (sym (joined-none found))
  members_read (member k d ms) found rise h =
      ap (option_and_then (λ (e : Data). of_members (members_outline ms) (put k e found))) (outline_read d h.1.0)
      ∙ ap (of_members (members_outline ms)) (put_last found k d (names_of ms) rise)
      ∙ members_read ms (joined found (member k d no_members)) (subst NamesRise (sym (names-joined found k d (names_of ms))) rise) h.1.1
      ∙ ap Some (joined-more found k d ms)

-- as deep as it
mutual
  outline_deep : (d : Data) → tree.depth (outline d) ≡ depth d
  outline_deep null = refl
  outline_deep (boolean b) = refl
  outline_deep (number n) = refl
  outline_deep (string s) = refl
  outline_deep (array ds) = ap suc (items_deep ds)
  outline_deep (object ms) = ap suc (members_deep ms)

  items_deep : (ds : Items) → tree.items_depth (items_outline ds) ≡ items_depth ds
  items_deep no_items = refl
  items_deep (item d ds) = ap₂ max (outline_deep d) (items_deep ds)

  members_deep : (ms : Members) → tree.members_depth (members_outline ms) ≡ members_depth ms
  members_deep no_members = refl
  members_deep (member k d ms) = ap₂ max (outline_deep d) (members_deep ms)

-- each number of it is one of JSON
mutual
  outline_numbers : (d : Data) → IsExact d → tree.HasNumbers (outline d)
  outline_numbers null h = tt
  outline_numbers (boolean b) h = tt
  outline_numbers (number n) h = (digits_said n h).form
  outline_numbers (string s) h = tt
  outline_numbers (array ds) h = items_numbers ds h
  outline_numbers (object ms) h = members_numbers ms h.1

  items_numbers : (ds : Items) → AreExact ds → tree.ItemsHaveNumbers (items_outline ds)
  items_numbers no_items h = tt
  items_numbers (item d ds) h = (outline_numbers d h.0, items_numbers ds h.1)

  members_numbers : (ms : Members) → HaveExact ms → tree.MembersHaveNumbers (members_outline ms)
  members_numbers no_members h = tt
  members_numbers (member k d ms) h = (outline_numbers d h.1.0, members_numbers ms h.1.1)

-- and each token is spelled
all-append : (P : Token → Type 0) (ts us : List Token) → AllByRecursion P ts → AllByRecursion P us → AllByRecursion P (ts ++ us)
all-append P [] us h k = k
all-append P (t ∷ ts) us h k = (h.0, all-append P ts us h.1 k)

mutual
  outline_spelled : (d : Data) → IsExact d → AllByRecursion IsSpelled (tree.json_tokens (outline d))
  outline_spelled null h = (tt, tt)
  outline_spelled (boolean b) h = (tt, tt)
  outline_spelled (number n) h = ((digits_said n h).plain, tt)
  outline_spelled (string s) h = (h, tt)
  outline_spelled (array ds) h = (tt, items_spelled ds h)
  outline_spelled (object ms) h = (tt, members_spelled ms h.1)

  items_spelled : (ds : Items) → AreExact ds → AllByRecursion IsSpelled (tree.items_tokens (items_outline ds))
  items_spelled no_items h = (tt, tt)
  items_spelled (item d ds) h =
      all-append IsSpelled (tree.json_tokens (outline d)) (tree.items_tokens (items_outline ds)) (outline_spelled d h.0) (items_spelled ds h.1)

  members_spelled : (ms : Members) → HaveExact ms → AllByRecursion IsSpelled (tree.members_tokens (members_outline ms))
  members_spelled no_members h = (tt, tt)
  members_spelled (member k d ms) h =
      (h.0, all-append IsSpelled (tree.json_tokens (outline d)) (tree.members_tokens (members_outline ms)) (outline_spelled d h.1.0) (members_spelled ms h.1.1))

-- ---- the text of a value

tokens_sent : (d : Data) → IsExact d → tokens (json d) ≡ tree.json_tokens (outline d)
unfolding json
tokens_sent d h =
    let ts : List Token = tree.json_tokens (outline d) in
    let printable : ArePrintable ts = ArePrintable-json_tokens (outline d) (outline_numbers d h) in
    ap (λ (text : List ℕ). tokens (ascii text)) (sym (print-outline d)) ∙ ap (punctuate fresh) (lexed_as_printed false ts printable (outline_spelled d h))
    ∙ tokens-print ts printable

-- a value that was read to the end of the tokens
abbrev whole : Option (json.Json × List Token) → Option Data
whole o = option_and_then of_json (option_and_then (λ p. json.if_last p.0 p.1) o)

pub values_lem : ValuesReadBack
values_lem d h shallow =
    ap (λ (ts : List Token). whole (json.value max_depth ts)) (tokens_sent d h ∙ sym (append-nil (tree.json_tokens (outline d))))
    ∙ ap whole (value-json_tokens (outline d) max_depth [] (omega (arith, shallow, outline_deep d)))
    ∙ outline_read d h
