-- The scanner follows the definitions on fronts.
use Rattle.std.proofs.Common.{◌≡◌, ℕ, zero, suc, ◌+◌, ◌-◌, ◌%◌, ◌<◌, ◌≤◌, Bool, true, false, not, ◌&&◌, ◌==◌, cond, List, [], ◌∷◌, ◌++◌, length, reverse, count_by, take, drop, get_or, Option, Some, None, refl, sym, ◌∙◌, ap, subst, arith, append_assoc, add-one, drop-cons, length-append, if◌then◌else◌}
use Rattle.std.specs.Prelude.{nat_le}
use Rattle.std.proofs.lemmas.Bool.Decides.{nat_tests}
use Rattle.std.proofs.lemmas.List.{length-reverse, length-take, reverse-append, take-append-drop, take_all, take_more}
use Rattle.std.proofs.lemmas.List.Sums.{sum_by-cons}
use Rattle.qo_framing.specs.Classes.{is_opening, is_closing, is_reset}
use Rattle.qo_framing.specs.Fronts.{End, backslashes, in_string, outside, depth, ending, end_after, here_or_later, later}
use Rattle.qo_framing.specs.Scanning.{HasScanned, IsAfter, is_plain, one_too_many, place_after, plain_step, step_of, step_in, moved, opened, closed}
use Rattle.qo_framing.specs.declared.scanner.Ending.{Ending}
use Rattle.qo_framing.specs.declared.scanner.Ending.TheVariants as ended
use Rattle.qo_framing.specs.declared.scanner.StringState.{StringState}
use Rattle.qo_framing.specs.declared.scanner.StringState.TheVariants.{Outside, InString, Escaped}
use Rattle.qo_framing.specs.declared.scanner.Scanner.{Scanner}
use Rattle.qo_framing.specs.declared.scanner.Step.{Step}
use Rattle.qo_framing.specs.declared.scanner.Step.TheVariants as step

-- a step after a front does what the definitions say of the front with the byte
abbrev pub StepsTo : List ℕ → ℕ → Step → Type 0
StepsTo front b (step.Goes s) = (ending (b ∷ front) ≡ None) × IsAfter (b ∷ front) s
StepsTo front b (step.Ends how) = ending (b ∷ front) ≡ Some how

-- the front is not too long for a byte more
fits : (front : List ℕ) (b : ℕ) → length front < 262144 → (length (b ∷ front) == 262145) ≡ false
fits front b short = grind (arith, nat_tests)

-- in a string nothing ends but by a reset byte
string_open : (front : List ℕ) (b : ℕ) → length front < 262144 → is_reset b ≡ false → in_string front ≡ true → ending (b ∷ front) ≡ None
string_open front b short plain inner = let few = fits front b short in rw (plain, few, inner) refl

-- and the depth stays
string_depth : (front : List ℕ) (b : ℕ) → in_string front ≡ true → depth (b ∷ front) ≡ depth front
string_depth front b inner = rw inner refl

string_place : (front : List ℕ) (b : ℕ) → in_string front ≡ true → (backslashes front % 2 == 0) ≡ true
    → place_after (b ∷ front) ≡ (if b == 34 then Outside else (if b == 92 then Escaped else InString))
string_place front b inner even = grind (arith, nat_tests)

escaped_place : (front : List ℕ) (b : ℕ) → in_string front ≡ true → (backslashes front % 2 == 0) ≡ false → place_after (b ∷ front) ≡ InString
escaped_place front b inner odd = grind (arith, nat_tests)

outside_place : (front : List ℕ) (b : ℕ) → in_string front ≡ false → place_after (b ∷ front) ≡ (if b == 34 then InString else Outside)
outside_place front b outer = grind (arith, nat_tests)

-- the depth outside strings
counted : (p : ℕ → Bool) (b : ℕ) (bytes : List ℕ) → p b ≡ true → count_by p (b ∷ bytes) ≡ count_by p bytes + 1
counted p b bytes held =
    sum_by-cons (λ (x : ℕ). cond (p x) 1 0) b bytes ∙ (ap (λ (v : Bool). cond v 1 0 + count_by p bytes) held ∙ omega arith)

not_counted : (p : ℕ → Bool) (b : ℕ) (bytes : List ℕ) → p b ≡ false → count_by p (b ∷ bytes) ≡ count_by p bytes
not_counted p b bytes held =
    sum_by-cons (λ (x : ℕ). cond (p x) 1 0) b bytes ∙ (ap (λ (v : Bool). cond v 1 0 + count_by p bytes) held ∙ omega arith)

depth_outside : (front : List ℕ) (b : ℕ) → in_string front ≡ false
    → depth (b ∷ front) ≡ count_by is_opening (b ∷ outside front) - count_by is_closing (b ∷ outside front)
depth_outside front b outer = rw outer refl

closes_not : (b : ℕ) → is_opening b ≡ true → is_closing b ≡ false
closes_not b opens = grind (arith, nat_tests)

opens_not : (b : ℕ) → is_closing b ≡ true → is_opening b ≡ false
opens_not b closes = grind (arith, nat_tests)

depth_opening : (front : List ℕ) (b : ℕ) → in_string front ≡ false → is_opening b ≡ true → 0 < depth front → depth (b ∷ front) ≡ depth front + 1
depth_opening front b outer opens some =
    let whole = depth_outside front b outer in
    let more = counted is_opening b (outside front) opens in
    let same = not_counted is_closing b (outside front) (closes_not b opens) in
    omega arith

depth_closing : (front : List ℕ) (b : ℕ) → in_string front ≡ false → is_closing b ≡ true → depth (b ∷ front) ≡ depth front - 1
depth_closing front b outer closes =
    let whole = depth_outside front b outer in
    let more = counted is_closing b (outside front) closes in
    let same = not_counted is_opening b (outside front) (opens_not b closes) in
    omega arith

depth_other : (front : List ℕ) (b : ℕ) → in_string front ≡ false → is_opening b ≡ false → is_closing b ≡ false → depth (b ∷ front) ≡ depth front
depth_other front b outer no_opening no_closing =
    let whole = depth_outside front b outer in
    let one = not_counted is_opening b (outside front) no_opening in
    let two = not_counted is_closing b (outside front) no_closing in
    omega arith

-- how an object ends, by its tests
ending_by : (front : List ℕ) (b : ℕ) (r l n o d z : Bool) → is_reset b ≡ r → (length (b ∷ front) == 262145) ≡ l → in_string front ≡ n → is_opening b ≡ o
    → (depth (b ∷ front) == 65) ≡ d → (depth (b ∷ front) == 0) ≡ z → ending (b ∷ front) ≡ (if r then Some ended.Broken
    else (if l then Some ended.TooLong else (if not n && o && d then Some ended.TooDeep else (if not n && z then Some ended.Whole else None))))
ending_by front b r l n o d z = λ a1 a2 a3 a4 a5 a6. cc

-- what a quote does outside strings, and a byte without a meaning
outside_stays : (front : List ℕ) (b : ℕ) (s : Scanner) → IsAfter front s → length front < 262144 → is_reset b ≡ false → in_string front ≡ false
    → is_opening b ≡ false → is_closing b ≡ false → (ending (b ∷ front) ≡ None) × (s.depth ≡ depth (b ∷ front))
outside_stays front b s after short plain outer no_opening no_closing =
    let same = depth_other front b outer no_opening no_closing in
    let d = after.depth in
    let some = after.some in
    let some_left : (depth (b ∷ front) == 0) ≡ false = grind (arith, nat_tests) in
    (ending_by front b false false false false (depth (b ∷ front) == 65) false plain (fits front b short) outer no_opening refl some_left, omega arith)

-- one bracket more
outside_opens : (front : List ℕ) (b : ℕ) (s : Scanner) → IsAfter front s → length front < 262144 → is_reset b ≡ false → in_string front ≡ false
    → is_opening b ≡ true → (b == 34) ≡ false → StepsTo front b (opened s)
outside_opens front b s after short plain outer opens no_quote = by_depth (nat_le 64 s.depth) refl
  where
    more : depth (b ∷ front) ≡ depth front + 1
    more = let d = after.depth in let some = after.some in depth_opening front b outer opens (omega arith)

    some_left : (depth (b ∷ front) == 0) ≡ false
    some_left = let m = more in grind (arith, nat_tests)

    place : place_after (b ∷ front) ≡ Outside
    place = outside_place front b outer ∙ rw no_quote refl

    was : s.place ≡ Outside
    was = after.place ∙ rw outer refl

    by_depth : (deep : Bool) → nat_le 64 s.depth ≡ deep → StepsTo front b (opened s)
    by_depth true e =
        let m = more in
        let d = after.depth in
        let most = after.most in
        let too_deep : (depth (b ∷ front) == 65) ≡ true = grind (arith, nat_tests) in
        rw e (ending_by front b false false false true true false plain (fits front b short) outer opens too_deep some_left)
    by_depth false e =
        let m = more in
        let d = after.depth in
        let not_deep : (depth (b ∷ front) == 65) ≡ false = grind (arith, nat_tests) in
        let below : s.depth < 64 = grind (arith, nat_tests) in
        rw e (
          ending_by front b false false false true false false plain (fits front b short) outer opens not_deep some_left,
          record { depth = omega arith; place = was ∙ sym place; some = omega arith; most = omega arith },
        )

-- one bracket less
outside_closes : (front : List ℕ) (b : ℕ) (s : Scanner) → IsAfter front s → length front < 262144 → is_reset b ≡ false → in_string front ≡ false
    → is_closing b ≡ true → (b == 34) ≡ false → StepsTo front b (closed s)
outside_closes front b s after short plain outer closes no_quote = by_depth (nat_le s.depth 1) refl
  where
    less : depth (b ∷ front) ≡ depth front - 1
    less = depth_closing front b outer closes

    place : place_after (b ∷ front) ≡ Outside
    place = outside_place front b outer ∙ rw no_quote refl

    was : s.place ≡ Outside
    was = after.place ∙ rw outer refl

    by_depth : (last : Bool) → nat_le s.depth 1 ≡ last → StepsTo front b (closed s)
    by_depth true e =
        let m = less in
        let d = after.depth in
        let some = after.some in
        let none_left : (depth (b ∷ front) == 0) ≡ true = grind (arith, nat_tests) in
        rw e (ending_by front b false false false false (depth (b ∷ front) == 65) true plain (fits front b short) outer (opens_not b closes) refl none_left)
    by_depth false e =
        let m = less in
        let d = after.depth in
        let most = after.most in
        let below : 1 < s.depth = grind (arith, nat_tests) in
        let some_left : (depth (b ∷ front) == 0) ≡ false = grind (arith, nat_tests) in
        rw e (
          ending_by front b false false false false (depth (b ∷ front) == 65) false plain (fits front b short) outer (opens_not b closes) refl some_left,
          record { depth = omega arith; place = was ∙ sym place; some = omega arith; most = omega arith },
        )

-- outside strings
outer_of : (n v : Bool) → Outside ≡ (if n then (if v then InString else Escaped) else Outside) → n ≡ false
outer_of true true e = cc
outer_of true false e = cc
outer_of false v e = refl

-- in a string, after no backslash that hides
inner_of : (n v : Bool) → InString ≡ (if n then (if v then InString else Escaped) else Outside) → (n ≡ true) × (v ≡ true)
inner_of true true e = (refl, refl)
inner_of true false e = cc
inner_of false v e = cc

-- after one that does
hidden_of : (n v : Bool) → Escaped ≡ (if n then (if v then InString else Escaped) else Outside) → (n ≡ true) × (v ≡ false)
hidden_of true true e = cc
hidden_of true false e = (refl, refl)
hidden_of false v e = cc

-- a byte in a string
in_string_step : (front : List ℕ) (b : ℕ) (s : Scanner) → IsAfter front s → length front < 262144 → is_reset b ≡ false → in_string front ≡ true
    → (place : StringState) → place ≡ place_after (b ∷ front) → StepsTo front b (moved s place)
in_string_step front b s after short plain inner place is = (
  string_open front b short plain inner,
  record { depth = after.depth ∙ sym (string_depth front b inner); place = is; some = after.some; most = after.most },
)

quote_plain : (b : ℕ) → (b == 34) ≡ true → (is_opening b ≡ false) × (is_closing b ≡ false)
quote_plain b e = (grind (arith, nat_tests), grind (arith, nat_tests))

-- what a byte does in each place
step_in_place : (front : List ℕ) (b : ℕ) (s : Scanner) → IsAfter front s → length front < 262144 → is_reset b ≡ false → (place : StringState)
    → place ≡ place_after front → StepsTo front b (step_in place s b)
step_in_place front b s after short plain Escaped e =
    let h = hidden_of (in_string front) (backslashes front % 2 == 0) e in
    in_string_step front b s after short plain h.0 InString (sym (escaped_place front b h.0 h.1))
step_in_place front b s after short plain InString e = by_quote (b == 34) (b == 92) refl refl
  where
    h : (in_string front ≡ true) × ((backslashes front % 2 == 0) ≡ true)
    h = inner_of (in_string front) (backslashes front % 2 == 0) e

    place : place_after (b ∷ front) ≡ (if b == 34 then Outside else (if b == 92 then Escaped else InString))
    place = string_place front b h.0 h.1

    by_quote : (quote slash : Bool) → (b == 34) ≡ quote → (b == 92) ≡ slash → StepsTo front b (step_in InString s b)
    by_quote true slash is_quote is_slash = rw is_quote (in_string_step front b s after short plain h.0 Outside (sym (place ∙ rw is_quote refl)))
    by_quote false true is_quote is_slash =
        rw (is_quote, is_slash) (in_string_step front b s after short plain h.0 Escaped (sym (place ∙ rw (is_quote, is_slash) refl)))
    by_quote false false is_quote is_slash =
        rw (is_quote, is_slash) (
          string_open front b short plain h.0,
          record {
            depth = after.depth ∙ sym (string_depth front b h.0);
            place = after.place ∙ (sym e ∙ sym (place ∙ rw (is_quote, is_slash) refl));
            some = after.some;
            most = after.most;
          },
        )
step_in_place front b s after short plain Outside e = by_class (b == 34) (is_opening b) (is_closing b) refl refl refl
  where
    outer : in_string front ≡ false
    outer = outer_of (in_string front) (backslashes front % 2 == 0) e

    place : place_after (b ∷ front) ≡ (if b == 34 then InString else Outside)
    place = outside_place front b outer

    by_class : (quote opens closes : Bool) → (b == 34) ≡ quote → is_opening b ≡ opens → is_closing b ≡ closes → StepsTo front b (step_in Outside s b)
    by_class true opens closes is_quote is_opens is_closes =
        let none = quote_plain b is_quote in
        let stays = outside_stays front b s after short plain outer none.0 none.1 in
        rw is_quote (stays.0, record { depth = stays.1; place = sym (place ∙ rw is_quote refl); some = after.some; most = after.most })
    by_class false true closes is_quote is_opens is_closes =
        rw (is_quote, is_opens) (outside_opens front b s after short plain outer is_opens is_quote)
    by_class false false true is_quote is_opens is_closes =
        rw (is_quote, is_opens, is_closes) (outside_closes front b s after short plain outer is_closes is_quote)
    by_class false false false is_quote is_opens is_closes =
        let stays = outside_stays front b s after short plain outer is_opens is_closes in
        rw (is_quote, is_opens, is_closes) (
          stays.0,
          record {
            depth = stays.1;
            place = after.place ∙ (sym e ∙ sym (place ∙ rw is_quote refl));
            some = after.some;
            most = after.most;
          },
        )

-- what a byte does
pub steps_to : (front : List ℕ) (b : ℕ) (s : Scanner) → IsAfter front s → length front < 262144 → StepsTo front b (step_of s b)
steps_to front b s after short = by_reset (is_reset b) refl
  where
    by_reset : (resets : Bool) → is_reset b ≡ resets → StepsTo front b (step_of s b)
    by_reset true e = rw e (rw e refl)
    by_reset false e = rw e (step_in_place front b s after short e s.place after.place)

-- one byte of a scan
pub end_here : (front : List ℕ) (b : ℕ) (bytes : List ℕ) (how : Ending) → ending (b ∷ front) ≡ Some how
    → end_after front (b ∷ bytes) ≡ Some (record { how = how; count = 1 })
end_here front b bytes how e = ap (λ (x : Option Ending). here_or_later x (end_after (b ∷ front) bytes)) e

pub no_end_here : (front : List ℕ) (b : ℕ) (bytes : List ℕ) → ending (b ∷ front) ≡ None → end_after front (b ∷ bytes) ≡ later 1 (end_after (b ∷ front) bytes)
no_end_here front b bytes e = ap (λ (x : Option Ending). here_or_later x (end_after (b ∷ front) bytes)) e

-- an end counted from earlier and earlier
pub later_twice : (m n : ℕ) (found : Option End) → later m (later n found) ≡ later (m + n) found
later_twice m n None = refl
later_twice m n (Some e) = ap (λ (k : ℕ). Some (record { how = e.how; count = k })) (omega arith)

pub later_none : (found : Option End) → later 0 found ≡ found
later_none None = refl
later_none (Some e) = ap (λ (k : ℕ). Some (record { how = e.how; count = k })) (omega arith)

pub none_later : (n : ℕ) (found : Option End) → later n found ≡ None → found ≡ None
none_later n None e = refl
none_later n (Some x) e = cc

-- a byte goes from the list to the front
pub reverse_onto : (x : ℕ) (xs front : List ℕ) → reverse (x ∷ xs) ++ front ≡ reverse xs ++ x ∷ front
reverse_onto x xs front =
    ap (λ (l : List ℕ). l ++ front) (reverse-append (x ∷ []) xs) ∙ append_assoc (reverse xs) (x ∷ []) front

pub reverse_more : (x : ℕ) (xs front : List ℕ) → reverse (xs ++ x ∷ []) ++ front ≡ x ∷ (reverse xs ++ front)
reverse_more x xs front = ap (λ (l : List ℕ). l ++ front) (reverse-append xs (x ∷ []))

-- a scan over bytes without an end goes on after them
pub end_further : (front xs ys : List ℕ) → end_after front xs ≡ None → end_after front (xs ++ ys) ≡ later (length xs) (end_after (reverse xs ++ front) ys)
end_further front [] ys none = sym (later_none (end_after front ys))
end_further front (x ∷ xs) ys none = by_ending (ending (x ∷ front)) refl (end_further (x ∷ front) xs ys)
  where
    by_ending : (e : Option Ending) → ending (x ∷ front) ≡ e
        → (end_after (x ∷ front) xs ≡ None → end_after (x ∷ front) (xs ++ ys) ≡ later (length xs) (end_after (reverse xs ++ x ∷ front) ys))
        → end_after front ((x ∷ xs) ++ ys) ≡ later (length (x ∷ xs)) (end_after (reverse (x ∷ xs) ++ front) ys)
    by_ending (Some how) is further = let here = end_here front x xs how is in cc
    by_ending None is further =
        let rest = none_later 1 (end_after (x ∷ front) xs) (sym (no_end_here front x xs is) ∙ none) in
        no_end_here front x (xs ++ ys) is ∙ (ap (later 1) (further rest)
        ∙ (later_twice 1 (length xs) (end_after (reverse xs ++ x ∷ front) ys)
        ∙ (ap (λ (k : ℕ). later k (end_after (reverse xs ++ x ∷ front) ys)) (omega arith)
        ∙ ap (λ (l : List ℕ). later (length (x ∷ xs)) (end_after l ys)) (sym (reverse_onto x xs front)))))

-- an end stays where bytes come after it
pub end_stays : (front xs ys : List ℕ) (e : End) → end_after front xs ≡ Some e → end_after front (xs ++ ys) ≡ Some e
end_stays front [] ys e found = cc
end_stays front (x ∷ xs) ys e found = by_ending (ending (x ∷ front)) refl (end_stays (x ∷ front) xs ys)
  where
    same : (a b : Option End) → ((d : End) → a ≡ Some d → b ≡ Some d) → later 1 a ≡ Some e → later 1 b ≡ Some e
    same None b further is = cc
    same (Some d) b further is = ap (later 1) (further d refl) ∙ is

    by_ending : (how : Option Ending) → ending (x ∷ front) ≡ how → ((d : End) → end_after (x ∷ front) xs ≡ Some d → end_after (x ∷ front) (xs ++ ys) ≡ Some d)
        → end_after front ((x ∷ xs) ++ ys) ≡ Some e
    by_ending (Some how) is further = end_here front x (xs ++ ys) how is ∙ (sym (end_here front x xs how is) ∙ found)
    by_ending None is further =
        no_end_here front x (xs ++ ys) is ∙ same (end_after (x ∷ front) xs) (end_after (x ∷ front) (xs ++ ys)) further (sym (no_end_here front x xs is) ∙ found)

-- bytes up to one, that one, and those after it
split_at : (xs : List ℕ) (i : ℕ) → i < length xs → xs ≡ take i xs ++ (get_or xs i 0 ∷ drop (i + 1) xs)
split_at xs i within = sym (take-append-drop i xs) ∙ ap (λ (l : List ℕ). take i xs ++ l) (rw add-one (drop-cons xs i 0 within))

-- the byte after bytes without an end is the end
pub ends_at : (front xs : List ℕ) (i : ℕ) (how : Ending) → i < length xs → end_after front (take i xs) ≡ None
    → ending (get_or xs i 0 ∷ (reverse (take i xs) ++ front)) ≡ Some how → end_after front xs ≡ Some (record { how = how; count = i + 1 })
ends_at front xs i how within none here =
    ap (end_after front) (split_at xs i within)
    ∙ (end_further front (take i xs) (get_or xs i 0 ∷ drop (i + 1) xs) none
    ∙ (ap (later (length (take i xs))) (end_here (reverse (take i xs) ++ front) (get_or xs i 0) (drop (i + 1) xs) how here)
    ∙ ap (λ (k : ℕ). Some (record { how = how; count = k })) (omega (arith, length-take {A = ℕ}))))

-- or there is none with it either
pub none_at : (front xs : List ℕ) (i : ℕ) → i < length xs → end_after front (take i xs) ≡ None → ending (get_or xs i 0 ∷ (reverse (take i xs) ++ front)) ≡ None
    → end_after front (take (i + 1) xs) ≡ None
none_at front xs i within none here =
    ap (end_after front) (take_more xs i 0 within)
    ∙ (end_further front (take i xs) (get_or xs i 0 ∷ []) none
    ∙ ap (later (length (take i xs))) (no_end_here (reverse (take i xs) ++ front) (get_or xs i 0) [] here))

front_length : (front xs : List ℕ) (i : ℕ) → i ≤ length xs → length (reverse (take i xs) ++ front) ≡ i + length front
front_length front xs i within =
    omega (arith, length-append (reverse (take i xs)) front, length-reverse (take i xs), length-take i xs)

-- a step of a scan that ends it
pub scan_ends : (front xs : List ℕ) (i : ℕ) (s : Scanner) (how : Ending) → i < length xs → length front + length xs ≤ 262144
    → (end_after front (take i xs) ≡ None) × IsAfter (reverse (take i xs) ++ front) s → step.Ends how ≡ step_of s (get_or xs i 0)
    → end_after front xs ≡ Some (record { how = how; count = i + 1 })
scan_ends front xs i s how within short so_far is =
    let size = front_length front xs i (omega arith) in
    ends_at front xs i how within so_far.0 (subst (StepsTo (reverse (take i xs) ++ front) (get_or xs i 0)) (sym is)
    (steps_to (reverse (take i xs) ++ front) (get_or xs i 0) s so_far.1 (omega arith)))

-- and one that does not
pub scan_goes : (front xs : List ℕ) (i : ℕ) (s next : Scanner) → i < length xs → length front + length xs ≤ 262144
    → (end_after front (take i xs) ≡ None) × IsAfter (reverse (take i xs) ++ front) s → step.Goes next ≡ step_of s (get_or xs i 0)
    → (end_after front (take (i + 1) xs) ≡ None) × IsAfter (reverse (take (i + 1) xs) ++ front) next
scan_goes front xs i s next within short so_far is =
    let size = front_length front xs i (omega arith) in
    let goes = subst (StepsTo (reverse (take i xs) ++ front) (get_or xs i 0)) (sym is)
    (steps_to (reverse (take i xs) ++ front) (get_or xs i 0) s so_far.1 (omega arith)) in (
      none_at front xs i within so_far.0 goes.0,
      subst (λ (l : List ℕ). IsAfter l next)
          (sym (ap (λ (l : List ℕ). reverse l ++ front) (take_more xs i 0 within) ∙ reverse_more (get_or xs i 0) (take i xs) front)) goes.1,
    )

-- a scan to the end
pub scan_open : (front xs : List ℕ) (i : ℕ) (s : Scanner) → length xs ≤ i → (end_after front (take i xs) ≡ None) × IsAfter (reverse (take i xs) ++ front) s
    → (end_after front xs ≡ None) × IsAfter (reverse xs ++ front) s
scan_open front xs i s past so_far =
    subst (λ (l : List ℕ). (end_after front l ≡ None) × IsAfter (reverse l ++ front) s) (take_all i xs past) so_far

-- a byte that is one too many
pub too_many_at : (front : List ℕ) (b : ℕ) → length front ≡ 262144 → ending (b ∷ front) ≡ Some (one_too_many b)
too_many_at front b full = by_reset (is_reset b) refl
  where
    by_reset : (resets : Bool) → is_reset b ≡ resets → ending (b ∷ front) ≡ Some (one_too_many b)
    by_reset true e = rw e refl
    by_reset false e = let past : (length (b ∷ front) == 262145) ≡ true = grind (arith, nat_tests) in rw (e, past) refl

-- a scan that found an end in a front, or took all that fits
pub found_in_front : (front xs : List ℕ) (i : ℕ) (e : End) → end_after front (take i xs) ≡ Some e → end_after front xs ≡ Some e
found_in_front front xs i e found =
    ap (end_after front) (sym (take-append-drop i xs)) ∙ end_stays front (take i xs) (drop i xs) e found

pub too_many_found : (front xs : List ℕ) (i : ℕ) (b : ℕ) → i < length xs → length front + i ≡ 262144 → end_after front (take i xs) ≡ None → b ≡ get_or xs i 0
    → end_after front xs ≡ Some (record { how = one_too_many b; count = i + 1 })
too_many_found front xs i b within full none is =
    let size = front_length front xs i (omega arith) in
    ends_at front xs i (one_too_many b) within none
    (ap (λ (x : ℕ). ending (x ∷ (reverse (take i xs) ++ front))) (sym is) ∙ too_many_at (reverse (take i xs) ++ front) b (omega arith))

-- a plain byte has no meaning
plain_reset : (b : ℕ) → is_plain b ≡ true → is_reset b ≡ false
plain_reset b plain = grind (arith, nat_tests)

plain_quote : (b : ℕ) → is_plain b ≡ true → (b == 34) ≡ false
plain_quote b plain = grind (arith, nat_tests)

plain_backslash : (b : ℕ) → is_plain b ≡ true → (b == 92) ≡ false
plain_backslash b plain = grind (arith, nat_tests)

plain_opening : (b : ℕ) → is_plain b ≡ true → is_opening b ≡ false
plain_opening b plain = grind (arith, nat_tests)

plain_closing : (b : ℕ) → is_plain b ≡ true → is_closing b ≡ false
plain_closing b plain = grind (arith, nat_tests)

pub plain_steps : (b : ℕ) (s : Scanner) → is_plain b ≡ true → step_of s b ≡ plain_step s.place s
plain_steps b s plain = let no_reset = plain_reset b plain in rw no_reset (by_place s.place)
  where
    by_place : (place : StringState) → step_in place s b ≡ plain_step place s
    by_place Escaped = refl
    by_place InString =
        let no_quote = plain_quote b plain in let no_backslash = plain_backslash b plain in rw (no_quote, no_backslash) refl
    by_place Outside =
        let no_quote = plain_quote b plain in
        let no_opening = plain_opening b plain in
        let no_closing = plain_closing b plain in
        rw (no_quote, no_opening, no_closing) refl

-- after a byte that hides, none is passed over
pub plain_goes : (s : Scanner) → (s.place ≡ Escaped → ⊥) → plain_step s.place s ≡ step.Goes s
plain_goes s shown = by_place s.place refl
  where
    by_place : (place : StringState) → s.place ≡ place → plain_step place s ≡ step.Goes s
    by_place Escaped e = absurd (shown e)
    by_place InString e = refl
    by_place Outside e = refl

-- plain bytes are passed over
pub scan_plain : (n : ℕ) (front xs : List ℕ) (i : ℕ) (s : Scanner) → (s.place ≡ Escaped → ⊥) → i + n ≤ length xs → length front + length xs ≤ 262144
    → ((k : ℕ) → i ≤ k → k < i + n → is_plain (get_or xs k 0) ≡ true) → HasScanned front xs i s → HasScanned front xs (i + n) s
scan_plain zero front xs i s shown within short plain so_far =
    subst (λ (k : ℕ). HasScanned front xs k s) (omega arith) so_far
scan_plain (suc n) front xs i s shown within short plain so_far =
    let goes = sym (plain_goes s shown) ∙ sym (plain_steps (get_or xs (i + n) 0) s (plain (i + n) (omega arith) (omega arith))) in
    subst (λ (k : ℕ). HasScanned front xs k s) (omega arith) (
    scan_goes front xs (i + n) s s (omega arith) short
    (scan_plain n front xs i s shown (omega arith) short (λ k least most. plain k least (omega arith)) so_far) goes
    )

pub scan_plain_to : (front xs : List ℕ) (i m : ℕ) (s : Scanner) → (s.place ≡ Escaped → ⊥) → i ≤ m → m ≤ length xs → length front + length xs ≤ 262144
    → ((k : ℕ) → i ≤ k → k < m → is_plain (get_or xs k 0) ≡ true) → HasScanned front xs i s → HasScanned front xs m s
scan_plain_to front xs i m s shown least most short plain so_far =
    let whole : i + (m - i) ≡ m = omega arith in
    subst (λ (k : ℕ). HasScanned front xs k s) whole (
    scan_plain (m - i) front xs i s shown (omega arith) short (λ k from below. plain k from (omega arith)) so_far
    )
