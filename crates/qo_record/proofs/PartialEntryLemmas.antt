-- Bytes at whose front no entry will stand.
use Rattle.std.proofs.Common.{◌≡◌, ℕ, zero, suc, ◌+◌, ◌/◌, ◌%◌, ◌^◌, ◌≤◌, ◌<◌, ◌==◌, ◌||◌, nat_le, true, false, List, [], ◌∷◌}
use Rattle.std.proofs.Common.{◌++◌, length, drop, refl, sym, ◌∙◌, ap, arith, length-append, append_assoc, Option, None, Some, IfSome, codes}
use Rattle.std.proofs.Common.{decimal, ◌⊎◌, inl, inr}
use Rattle.std.proofs.lemmas.Bool.Decides.{nat_tests}
use Rattle.std.proofs.lemmas.Bool.{true≢false, and_parts, not-true, or_parts}
use Rattle.std.proofs.lemmas.Fmt.{decimal_by_steps, length-decimal-le}
use Rattle.std.proofs.lemmas.List.Folds.{list_any-append}
use Rattle.qo_causes.specs.Names.{Names}
use Rattle.qo_causes.specs.declared.inputs.Moment.{Moment}
use Rattle.qo_causes.specs.declared.inputs.What.{What}
use Rattle.qo_causes.specs.declared.inputs.What.TheVariants.{Open, Bytes, Shut, Guest, Step, End}
use Rattle.qo_record.proofs.EntryLemmas.{entry_again, entry_taken, moment_again, session_again}
use Rattle.qo_record.proofs.ReadingLemmas.{name_has_none, none_some, number_again}
use Rattle.qo_record.proofs.ReplayLemmas.{front_within, moment_short, opening_short, session_most, session_short}
use Rattle.qo_record.specs.Record.{entry_at}
use Rattle.qo_record.specs.Spelling.{Fits, FitsMoment, FitsPiece, FitsWhat, IsOpenAs, MayOpen, Recorded, entry_text, last_digits, moment_text, piece_text}
use Rattle.qo_record.specs.Spelling.{rest_text, word_text}
use Rattle.qo_record.specs.Windows.{NoEntry}
use Rattle.qo_record.specs.PartialEntries.{are_to_come, has_line, is_wrong, line_most, promised_by_guest, promised_by_session}
use Rattle.qo_record.specs.declared.versions.Version.{Version}
use Rattle.qo_record.specs.declared.versions.Version.TheVariants.{One, Two}

-- No line ends in the first line of an entry but at its end.

no_line : (a b : List ℕ) → has_line a ≡ false → has_line b ≡ false → has_line (a ++ b) ≡ false
no_line a b p q = list_any-append (λ (x : ℕ). x == 10) a b ∙ rw (p, q) refl

digit_line : (n : ℕ) → ((48 + n) == 10) ≡ false
digit_line n = grind (arith, nat_tests)

one_line : (n : ℕ) → has_line ((48 + n) ∷ []) ≡ false
one_line n = rw (digit_line n) refl

decimal_line : (n : ℕ) → n < 2 ^ 64 → has_line (decimal n) ≡ false
decimal_line n wide = decimal_by_steps (λ k ds. has_line ds ≡ false) (λ k below. one_line k) (λ k ds large p. no_line ds ((48 + k % 10) ∷ []) p (one_line
    (k % 10))) n wide

last_line : (k n : ℕ) → has_line (last_digits k n) ≡ false
last_line zero n = refl
last_line (suc k) n = rw (digit_line ((n / 10 ^ k) % 10), last_line k n) refl

moment_line : (m : Moment) → FitsMoment m → has_line (moment_text m) ≡ false
moment_line m fits = no_line (decimal m.seconds) (46 ∷ last_digits 6 m.micros) (decimal_line m.seconds (omega (arith, fits.0))) (last_line 6 m.micros)

front_line : (a b : List ℕ) → has_line (a ++ b) ≡ false → has_line a ≡ false
front_line a b h = (or_parts (has_line a) (has_line b) (sym (list_any-append (λ (x : ℕ). x == 10) a b) ∙ h)).0

not_long : (most n : ℕ) → n < most → nat_le most n ≡ false
not_long most n below = grind (arith, nat_tests)

-- the bytes go on past the end of a first line
past_line : (most : ℕ) (bytes more line after : List ℕ) → bytes ++ more ≡ line ++ 10 ∷ after → has_line line ≡ false → length line < most →
    (nat_le most (length bytes) || has_line bytes) ≡ true → length line < length bytes
past_line most bytes more line after same none short ended = go (order (length bytes) (length line))
  where
    order : (a b : ℕ) → (a ≤ b) ⊎ (b < a)
    order a b = grind arith

    go : (length bytes ≤ length line) ⊎ (length line < length bytes) → length line < length bytes
    go (inr less) = less
    go (inl few) =
        let is : line ≡ bytes ++ drop (length bytes) line = front_within bytes more line (10 ∷ after) (sym same) few in
        let free : has_line bytes ≡ false = front_line bytes (drop (length bytes) line) (ap has_line (sym is) ∙ none) in
        let small : nat_le most (length bytes) ≡ false = not_long most (length bytes) (omega (arith, few, short)) in
        let going : (nat_le most (length bytes) || has_line bytes) ≡ false = rw (small, free) refl in
        absurd (true≢false (sym ended ∙ going))

-- An entry of one line, and one that promises bytes.

abbrev lined : List ℕ → List ℕ → List ℕ → List ℕ
lined word moment said = word ++ (moment ++ 32 ∷ said)

lined_line : (word moment said : List ℕ) → has_line word ≡ false → has_line moment ≡ false → has_line said ≡ false → has_line (lined word moment said) ≡ false
lined_line word moment said p q r = no_line word (moment ++ 32 ∷ said) p (no_line moment (32 ∷ said) q r)

lined_length : (word moment said : List ℕ) → length (lined word moment said) ≡ length word + length moment + length said + 1
lined_length word moment said = omega (arith, length-append word (moment ++ 32 ∷ said), length-append moment (32 ∷ said))

lined_after : (word moment said after : List ℕ) → lined word moment (said ++ after) ≡ lined word moment said ++ after
lined_after word moment said after =
    sym (append_assoc word (moment ++ 32 ∷ said) after ∙ ap (λ (l : List ℕ). word ++ l) (append_assoc moment (32 ∷ said) after))

record IsLine (most : ℕ) (word moment said bytes : List ℕ) : Type 0 where
  free : has_line (lined word moment said) ≡ false
  short : length (lined word moment said) < most
  ended : (nat_le most (length bytes) || has_line bytes) ≡ true

line_whole : (most : ℕ) (word moment said bytes more rest : List ℕ) → IsLine most word moment said bytes → bytes ++ more ≡ lined word moment (said ++ 10 ∷ []) ++ rest →
    length bytes < length (lined word moment (said ++ 10 ∷ [])) → ⊥
line_whole most word moment said bytes more rest line same less =
    let text : lined word moment (said ++ 10 ∷ []) ≡ lined word moment said ++ 10 ∷ [] = lined_after word moment said (10 ∷ []) in
    let ahead : bytes ++ more ≡ lined word moment said ++ 10 ∷ rest =
    same ∙ ap (λ (l : List ℕ). l ++ rest) text ∙ append_assoc (lined word moment said) (10 ∷ []) rest in
    let past = past_line most bytes more (lined word moment said) rest ahead line.free line.short line.ended in
    absurd (omega (arith, past, less, ap (length {A = ℕ}) text, length-append (lined word moment said) (10 ∷ [])))

come_true : (n : ℕ) (tail : List ℕ) → 0 < n → length tail ≤ n → are_to_come (Some (n, tail)) ≡ true
come_true n tail some few = grind (arith, nat_tests)

line_promised : (most : ℕ) (word moment said piece bytes more rest : List ℕ) (promised : List ℕ → Option (ℕ × List ℕ)) → IsLine most word moment said bytes →
    bytes ++ more ≡ lined word moment (said ++ 10 ∷ (piece ++ 10 ∷ [])) ++ rest → length bytes < length (lined word moment (said ++ 10 ∷ (piece ++ 10 ∷ []))) →
    ((tail : List ℕ) → promised (lined word moment (said ++ 10 ∷ tail)) ≡ Some (length piece, tail)) → 0 < length piece →
    are_to_come (promised bytes) ≡ false → ⊥
line_promised most word moment said piece bytes more rest promised line same less tells some none =
    let front : List ℕ = lined word moment said in
    let after : List ℕ = piece ++ 10 ∷ [] in
    let text : lined word moment (said ++ 10 ∷ after) ≡ front ++ 10 ∷ after = lined_after word moment said (10 ∷ after) in
    let ahead : bytes ++ more ≡ front ++ 10 ∷ (after ++ rest) =
    same ∙ ap (λ (l : List ℕ). l ++ rest) text ∙ append_assoc front (10 ∷ after) rest in
    let past = past_line most bytes more front (after ++ rest) ahead line.free line.short line.ended in
    let size : length (front ++ 10 ∷ []) ≡ length front + 1 = length-append front (10 ∷ []) in
    let head = front_within (front ++ 10 ∷ []) (after ++ rest) bytes more (ahead ∙ sym (append_assoc front (10 ∷ []) (after ++ rest))) (omega (
      arith,
      past,
      size,
    )) in
    let tail : List ℕ = drop (length (front ++ 10 ∷ [])) bytes in
    let is : bytes ≡ lined word moment (said ++ 10 ∷ tail) = head ∙ append_assoc front (10 ∷ []) tail ∙ sym (lined_after word moment said (10 ∷ tail)) in
    let few : length tail ≤ length piece =
    omega (
      arith,
      less,
      size,
      ap (length {A = ℕ}) head,
      length-append (front ++ 10 ∷ []) tail,
      ap (length {A = ℕ}) text,
      length-append front (10 ∷ after),
      length-append piece (10 ∷ []),
    ) in
    absurd (true≢false (sym (come_true (length piece) tail some few) ∙ ap are_to_come (sym (tells tail) ∙ ap promised (sym is)) ∙ none))

-- What is promised is read from the first line.

guest_promised : (at : Moment) (piece tail : List ℕ) → FitsMoment at → FitsPiece piece →
    promised_by_guest (lined (codes "guest ") (moment_text at) (decimal (length piece) ++ 10 ∷ tail)) ≡ Some (length piece, tail)
guest_promised at piece tail moment fits =
    let said : List ℕ = decimal (length piece) ++ 10 ∷ tail in
    rw (moment_again at said moment, number_again 10 65536 (length piece) tail (omega arith) (omega arith) fits.1) refl

session_promised : (v : Version) (names : Names) (at : Moment) (s : ℕ) (session piece tail : List ℕ) → FitsMoment at → IsOpenAs v names s session →
    FitsPiece piece → promised_by_session v names
    (lined (codes "bytes ") (moment_text at) ((session ++ 32 ∷ decimal (length piece)) ++ 10 ∷ tail)) ≡ Some (length piece, tail)
session_promised v names at s session piece tail moment stands fits =
    let number : List ℕ = decimal (length piece) ++ 10 ∷ tail in
    let said : List ℕ = session ++ 32 ∷ number in
    let regrouped : (session ++ 32 ∷ decimal (length piece)) ++ 10 ∷ tail ≡ said = append_assoc session (32 ∷ decimal (length piece)) (10 ∷ tail) in
    rw (
      regrouped,
      moment_again at said moment,
      session_again v names 32 s session number (omega arith) stands,
      number_again 10 65536
          (length piece) tail (omega arith) (omega arith) fits.1,
    ) refl

-- No entry is longer than bytes that are wrong.

number_line : (s : ℕ) → s ≤ 15 → has_line (decimal s) ≡ false
number_line s few = decimal_line s (omega (arith, few))

opening_line : (v : Version) (names : Names) (s : ℕ) (session : List ℕ) → MayOpen v names s session → has_line session ≡ false
opening_line One names s session fits = ap has_line fits.1 ∙ number_line s fits.0
opening_line Two names s session fits = name_has_none 10 session (omega arith) fits.0

session_line : (v : Version) (names : Names) (s : ℕ) (session : List ℕ) → IsOpenAs v names s session → has_line session ≡ false
session_line One names s session fits = ap has_line fits.1 ∙ number_line s fits.0
session_line Two names s session fits = name_has_none 10 session (omega arith) fits.0

-- the first line of an entry has its word, its moment and a space, and then these parts
line_room : (v : Version) → session_most v + 39 < line_most v
line_room One = omega arith
line_room Two = omega arith

line_least : (v : Version) → 52 ≤ line_most v
line_least One = omega arith
line_least Two = omega arith

size_short : (piece : List ℕ) → FitsPiece piece → length (decimal (length piece)) ≤ 5
size_short piece fits = length-decimal-le 5 (length piece) (omega arith) (omega (arith, fits.1)) (omega (arith, fits.1))

size_line : (piece : List ℕ) → FitsPiece piece → has_line (decimal (length piece)) ≡ false
size_line piece fits = decimal_line (length piece) (omega (arith, fits.1))

longer : (v : Version) (names : Names) (at : Moment) (session : List ℕ) (what : What) (bytes more rest : List ℕ) → FitsMoment at →
    FitsWhat v names session what → bytes ++ more ≡ lined (word_text what) (moment_text at) (rest_text session what) ++ rest →
    length bytes < length (lined (word_text what) (moment_text at) (rest_text session what)) →
    (nat_le (line_most v) (length bytes) || has_line bytes) ≡ true → are_to_come (promised_by_session v names bytes) ≡ false →
    are_to_come (promised_by_guest bytes) ≡ false → ⊥
longer v names at session (Open s) bytes more rest m fits same less ended by_session guest =
    let line : IsLine (line_most v) (codes "open ") (moment_text at) session bytes = record {
      free = lined_line (codes "open ") (moment_text at) session refl (moment_line at m) (opening_line v names s session fits);
      short = omega (
        arith,
        line_room v,
        lined_length (codes "open ") (moment_text at) session,
        moment_short at m,
        opening_short v names s session fits,
      );
      ended = ended;
    } in
    line_whole (line_most v) (codes "open ") (moment_text at) session bytes more rest line same less
longer v names at session (Shut s) bytes more rest m fits same less ended by_session guest =
    let line : IsLine (line_most v) (codes "shut ") (moment_text at) session bytes = record {
      free = lined_line (codes "shut ") (moment_text at) session refl (moment_line at m) (session_line v names s session fits);
      short = omega (
        arith,
        line_room v,
        lined_length (codes "shut ") (moment_text at) session,
        moment_short at m,
        session_short v names s session fits,
      );
      ended = ended;
    } in
    line_whole (line_most v) (codes "shut ") (moment_text at) session bytes more rest line same less
longer v names at session (Step ns) bytes more rest m fits same less ended by_session guest =
    let digits = length-decimal-le 19 ns (omega arith) (omega (arith, fits.2)) (omega (arith, fits.2)) in
    let line : IsLine (line_most v) (codes "step ") (moment_text at) (decimal ns) bytes = record {
      free = lined_line (codes "step ") (moment_text at) (decimal ns) refl (moment_line at m) (decimal_line ns (omega (arith, fits.2)));
      short = omega (arith, line_least v, lined_length (codes "step ") (moment_text at) (decimal ns), moment_short at m, digits);
      ended = ended;
    } in
    line_whole (line_most v) (codes "step ") (moment_text at) (decimal ns) bytes more rest line same less
longer v names at session (Guest piece) bytes more rest m fits same less ended by_session guest =
    let size : List ℕ = decimal (length piece) in
    let line : IsLine (line_most v) (codes "guest ") (moment_text at) size bytes = record {
      free = lined_line (codes "guest ") (moment_text at) size refl (moment_line at m) (size_line piece fits.1);
      short = omega (arith, line_least v, lined_length (codes "guest ") (moment_text at) size, moment_short at m, size_short piece fits.1);
      ended = ended;
    } in
    line_promised (line_most v) (codes "guest ") (moment_text at) size piece bytes more rest promised_by_guest line same less
    (λ tail. guest_promised at piece tail m fits.1) (omega (arith, fits.1.0)) guest
longer v names at session (Bytes s piece) bytes more rest m fits same less ended by_session guest =
    let size : List ℕ = decimal (length piece) in
    let said : List ℕ = session ++ 32 ∷ size in
    let line : IsLine (line_most v) (codes "bytes ") (moment_text at) said bytes = record {
      free = lined_line (codes "bytes ") (moment_text at) said refl (moment_line at m) (no_line session (32 ∷ size) (session_line v names s session fits.0)
          (size_line piece fits.1));
      short = omega (
        arith,
        line_room v,
        lined_length (codes "bytes ") (moment_text at) said,
        moment_short at m,
        length-append session (32 ∷ size),
        session_short v names s session fits.0,
        size_short piece fits.1,
      );
      ended = ended;
    } in
    let e : session ++ 32 ∷ piece_text piece ≡ said ++ 10 ∷ (piece ++ 10 ∷ []) = sym (append_assoc session (32 ∷ size) (10 ∷ (piece ++ 10 ∷ []))) in
    let text = ap (lined (codes "bytes ") (moment_text at)) e in
    line_promised (line_most v) (codes "bytes ") (moment_text at) said piece bytes more rest (promised_by_session v names) line
    (same ∙ ap (λ (l : List ℕ). l ++ rest) text)
    (omega (arith, less, ap (length {A = ℕ}) text)) (λ tail. session_promised v names at s session piece tail m fits.0 fits.1) (omega (arith, fits.1.0))
    by_session
longer v names at session End bytes more rest m fits same less ended by_session guest = absurd fits

-- no entry comes where bytes are wrong
wrong_stays : (v : Version) (names : Names) (bytes more : List ℕ) → is_wrong v names bytes ≡ true → entry_at v names bytes ≡ None →
    entry_at v names (bytes ++ more) ≡ None
unfolding is_wrong
wrong_stays v names bytes more wrong none = go (entry_at v names (bytes ++ more)) refl
  where
    order : (a b : ℕ) → (a ≤ b) ⊎ (b < a)
    order a b = grind arith

    by_size : (e : Recorded × List ℕ) → bytes ++ more ≡ entry_text e.0 ++ e.1 → Fits v names e.0 →
        (length (entry_text e.0) ≤ length bytes) ⊎ (length bytes < length (entry_text e.0)) → ⊥
    by_size e same fits (inl few) =
        let is = front_within (entry_text e.0) e.1 bytes more same few in
        none_some (sym none ∙ ap (entry_at v names) is ∙ entry_again v names e.0 (drop (length (entry_text e.0)) bytes) fits)
    by_size e same fits (inr less) =
        let p = and_parts (nat_le (line_most v) (length bytes) || has_line bytes) _ wrong in
        let q = or_parts (are_to_come (promised_by_session v names bytes)) (are_to_come (promised_by_guest bytes)) (not-true _ p.1) in
        longer v names e.0.input.at e.0.session e.0.input.what bytes more e.1 fits.0 fits.1 same less p.0 q.0 q.1

    go : (r : Option (Recorded × List ℕ)) → entry_at v names (bytes ++ more) ≡ r → entry_at v names (bytes ++ more) ≡ None
    go None h = h
    go (Some e) h =
        let t = entry_taken v names (bytes ++ more) e h in
        absurd (by_size e t.0 t.1 (order (length (entry_text e.0)) (length bytes)))

empty_right : (v : Version) (names : Names) → is_wrong v names [] ≡ false
unfolding is_wrong
empty_right One names = refl
empty_right Two names = refl

-- where bytes are wrong, no entry is found
pub wrong_found : (v : Version) (names : Names) (buffered : List ℕ) (left : Option (List ℕ)) → is_wrong v names buffered ≡ true →
    entry_at v names buffered ≡ None → IfSome left (NoEntry v names buffered)
wrong_found v names buffered None wrong none = tt
wrong_found v names buffered (Some more) wrong none =
    (wrong_stays v names buffered more wrong none, λ e. absurd (true≢false (sym wrong ∙ ap (is_wrong v names) e ∙ empty_right v names)))
