-- An entry is read exactly where it is spelled and may stand.
use Rattle.std.proofs.Common.{◌≡◌, ℕ, ◌-◌, ◌/◌, ◌^◌, ◌<◌, ◌≤◌, ◌==◌, ◌||◌, nat_lt, ◌⊎◌, inl, inr, false, List, [], ◌∷◌, ◌++◌, length, take, drop}
use Rattle.std.proofs.Common.{refl, sym, ◌∙◌, ap, subst, arith, codes, length-append, append_assoc, Option, None, Some, is_some, decimal}
use Rattle.std.proofs.Math.Seq.{take-append_seam, drop-append_seam}
use Rattle.std.proofs.lemmas.Bool.Decides.{nat_tests}
use Rattle.std.proofs.lemmas.List.{take-append-drop, length-take-le}
use Rattle.qo_causes.specs.Names.{Names}
use Rattle.qo_causes.specs.declared.inputs.Moment.{Moment}
use Rattle.qo_causes.specs.declared.inputs.What.{What}
use Rattle.qo_causes.specs.declared.inputs.What.TheVariants.{Open, Bytes, Shut, Guest, Step, End}
use Rattle.qo_record.specs.Laws.{EntriesAreSpelled}
use Rattle.qo_record.specs.Reading.{◌>>=◌, or_else, after_front, digits_of, number_until}
use Rattle.qo_record.specs.Names.{is_open, least_free, number_named}
use Rattle.qo_record.specs.Record.{Saying, Spelled, bytes_at, entry_at, entry_of, guest_at, moment_at, moment_after, name_until, number_at, open_at, opening_at}
use Rattle.qo_record.specs.Record.{piece_at, piece_of, session_at, shut_at, step_at}
use Rattle.qo_record.specs.Spelling.{Fits, FitsMoment, FitsPiece, FitsWhat, IsOpenAs, MayOpen, Recorded, entry_text, last_digits, moment_text, piece_text}
use Rattle.qo_record.specs.Spelling.{rest_text, word_text}
use Rattle.qo_record.specs.declared.versions.Version.{Version}
use Rattle.qo_record.specs.declared.versions.Version.TheVariants.{One, Two}
use Rattle.qo_record.proofs.ReadingLemmas.{after_again, after_is, bind_some, digits_are_last, last_are_digits, name_again, name_taken, number_again}
use Rattle.qo_record.proofs.ReadingLemmas.{number_taken, some_is}
use Rattle.qo_record.proofs.ReadingLemmas.{when_false, when_true}

-- A moment, and the space after it.

moment_taken : (bytes : List ℕ) (m : Moment × List ℕ) → moment_at bytes ≡ Some m → FitsMoment m.0 × (bytes ≡ moment_text m.0 ++ 32 ∷ m.1)
moment_taken bytes m h =
    let s = bind_some (number_until 46 (2 ^ 63 - 1) bytes) _ m h in
    let t = bind_some (digits_of 6 0 s.0.1) _ m s.2 in
    let u = bind_some (after_front (32 ∷ []) t.0.1) _ m t.2 in
    let seconds = number_taken 46 (2 ^ 63 - 1) bytes s.0 (omega arith) s.1 in
    let micros = digits_are_last 6 s.0.1 0 t.0 t.1 in
    let space = after_is (32 ∷ []) t.0.1 u.0 u.1 in
    let made : (record { seconds = s.0.0; micros = t.0.0 }, u.0) ≡ m = some_is u.2 in
    let whole : bytes ≡ (decimal s.0.0 ++ 46 ∷ last_digits 6 t.0.0) ++ 32 ∷ u.0 =
    seconds.1 ∙ ap (λ (l : List ℕ). decimal s.0.0 ++ 46 ∷ l) (micros.1 ∙ ap (λ (l : List ℕ). last_digits 6 t.0.0 ++ l) space)
    ∙ sym (append_assoc (decimal s.0.0) (46 ∷ last_digits 6 t.0.0) (32 ∷ u.0)) in
    let below : t.0.0 / 1000000 ≡ 0 = micros.0 in
    subst (λ (y : Moment × List ℕ). FitsMoment y.0 × (bytes ≡ moment_text y.0 ++ 32 ∷ y.1)) made ((omega (arith, seconds.0), omega (arith, below)), whole)

pub moment_again : (m : Moment) (rest : List ℕ) → FitsMoment m → moment_at (moment_text m ++ 32 ∷ rest) ≡ Some (m, rest)
moment_again m rest fits =
    let spelled : moment_text m ++ 32 ∷ rest ≡ decimal m.seconds ++ 46 ∷ (last_digits 6 m.micros ++ 32 ∷ rest) = append_assoc (decimal m.seconds)
    (46 ∷ last_digits 6 m.micros) (32 ∷ rest) in
    let seconds = number_again 46 (2 ^ 63 - 1) m.seconds (last_digits 6 m.micros ++ 32 ∷ rest) (omega arith) (omega arith) (omega (arith, fits.0)) in
    let none : m.micros / 10 ^ 6 ≡ 0 = omega (arith, fits.1) in
    let micros : digits_of 6 0 (last_digits 6 m.micros ++ 32 ∷ rest) ≡ Some (m.micros, 32 ∷ rest) =
    ap (λ (k : ℕ). digits_of 6 k (last_digits 6 m.micros ++ 32 ∷ rest)) (sym none) ∙ last_are_digits 6 m.micros (32 ∷ rest) (omega (arith, fits.1)) in
    rw (spelled, seconds, micros) refl

-- Some bytes after their number.

piece_taken : (bytes : List ℕ) (p : List ℕ × List ℕ) → piece_at bytes ≡ Some p → FitsPiece p.0 × (bytes ≡ piece_text p.0 ++ p.1)
piece_taken bytes p h =
    let s = bind_some (number_until 10 65536 bytes) (λ (len : ℕ × List ℕ). piece_of len.0 len.1) p h in
    let len : ℕ = s.0.0 in
    let left : List ℕ = s.0.1 in
    let size = number_taken 10 65536 bytes s.0 (omega arith) s.1 in
    let g = when_false ((len == 0) || nat_lt (length left) len) (after_front (10 ∷ []) (drop len left) >>= λ rest. Some (take len left, rest)) p s.2 in
    let t = bind_some (after_front (10 ∷ []) (drop len left)) (λ (rest : List ℕ). Some (take len left, rest)) p g.1 in
    let some : 1 ≤ len = grind (arith, nat_tests, g.0) in
    let there : len ≤ length left = grind (arith, nat_tests, g.0) in
    let is : length (take len left) ≡ len = length-take-le len left there in
    let line = after_is (10 ∷ []) (drop len left) t.0 t.1 in
    let made : (take len left, t.0) ≡ p = some_is t.2 in
    let content : left ≡ (take len left ++ 10 ∷ []) ++ t.0 =
    sym (take-append-drop len left) ∙ ap (λ (l : List ℕ). take len left ++ l) line ∙ sym (append_assoc (take len left) (10 ∷ []) t.0) in
    let whole : bytes ≡ piece_text (take len left) ++ t.0 =
    size.1 ∙ ap (λ (l : List ℕ). decimal len ++ 10 ∷ l) content ∙ ap (λ (k : ℕ). decimal k ++ 10 ∷ ((take len left ++ 10 ∷ []) ++ t.0)) (sym is)
    ∙ sym (append_assoc (decimal (length (take len left))) (10 ∷ (take len left ++ 10 ∷ [])) t.0) in
    subst (λ (y : List ℕ × List ℕ). FitsPiece y.0 × (bytes ≡ piece_text y.0 ++ y.1)) made ((omega (arith, is), omega (arith, is, size.0)), whole)

piece_again : (piece rest : List ℕ) → FitsPiece piece → piece_at (piece_text piece ++ rest) ≡ Some (piece, rest)
piece_again piece rest fits =
    let len : ℕ = length piece in
    let content : (piece ++ 10 ∷ []) ++ rest ≡ piece ++ 10 ∷ rest = append_assoc piece (10 ∷ []) rest in
    let spelled : piece_text piece ++ rest ≡ decimal len ++ 10 ∷ (piece ++ 10 ∷ rest) =
    append_assoc (decimal len) (10 ∷ (piece ++ 10 ∷ [])) rest ∙ ap (λ (l : List ℕ). decimal len ++ 10 ∷ l) content in
    let size = number_again 10 65536 len (piece ++ 10 ∷ rest) (omega arith) (omega arith) fits.1 in
    let more : len ≤ length (piece ++ 10 ∷ rest) = omega (arith, length-append piece (10 ∷ rest)) in
    let test : ((len == 0) || nat_lt (length (piece ++ 10 ∷ rest)) len) ≡ false = grind (arith, nat_tests, more, fits.0) in
    rw (spelled, size, test, take-append_seam piece (10 ∷ rest), drop-append_seam piece (10 ∷ rest)) refl

-- A session, as an entry names it.

number_of : (stop : ℕ) (bytes : List ℕ) (s : Spelled × List ℕ) → number_at stop bytes ≡ Some s →
    (s.0.number ≤ 15) × (s.0.text ≡ decimal s.0.number) × (bytes ≡ s.0.text ++ stop ∷ s.1)
number_of stop bytes s h =
    let n = bind_some (number_until stop 15 bytes) _ s h in
    let number = number_taken stop 15 bytes n.0 (omega arith) n.1 in
    subst (λ (y : Spelled × List ℕ). (y.0.number ≤ 15) × (y.0.text ≡ decimal y.0.number) × (bytes ≡ y.0.text ++ stop ∷ y.1)) (some_is n.2)
    (number.0, refl, number.1)

number_is_read : (stop s : ℕ) (rest : List ℕ) → stop < 48 → s ≤ 15 → number_at stop (decimal s ++ stop ∷ rest) ≡ Some
    (record { number = s; text = decimal s }, rest)
number_is_read stop s rest low few = rw (number_again stop 15 s rest low (omega arith) few) refl

none_of : {A : Type 0} (r : Option A) → is_some r ≡ false → r ≡ None
none_of None h = refl
none_of (Some x) h = cc

opening_taken : (v : Version) (names : Names) (bytes : List ℕ) (s : Spelled × List ℕ) → opening_at v names bytes ≡ Some s →
    MayOpen v names s.0.number s.0.text × (bytes ≡ s.0.text ++ 10 ∷ s.1)
opening_taken One names bytes s h =
    let n = bind_some (number_at 10 bytes) _ s h in
    let g = when_false (is_open names n.0.0.number) (Some n.0) s n.2 in
    let t = number_of 10 bytes n.0 n.1 in
    subst (λ (y : Spelled × List ℕ). MayOpen One names y.0.number y.0.text × (bytes ≡ y.0.text ++ 10 ∷ y.1)) (some_is g.1)
    ((t.0, t.1, g.0), t.2)
opening_taken Two names bytes s h =
    let n = bind_some (name_until 10 bytes) _ s h in
    let g = when_false (is_some (number_named names n.0.0)) _ s n.2 in
    let l = bind_some (least_free names) (λ (k : ℕ). Some (record { number = k; text = n.0.0 }, n.0.1)) s g.1 in
    let t = name_taken 10 bytes n.0 n.1 in
    subst (λ (y : Spelled × List ℕ). MayOpen Two names y.0.number y.0.text × (bytes ≡ y.0.text ++ 10 ∷ y.1)) (some_is l.2)
    ((t.0, none_of (number_named names n.0.0) g.0, l.1), t.1)

opening_again : (v : Version) (names : Names) (s : ℕ) (text rest : List ℕ) → MayOpen v names s text →
    opening_at v names (text ++ 10 ∷ rest) ≡ Some (record { number = s; text = text }, rest)
opening_again One names s text rest fits = rw (fits.1, number_is_read 10 s rest (omega arith) fits.0, fits.2) refl
opening_again Two names s text rest fits = rw (name_again 10 text rest (omega arith) fits.0, fits.1, fits.2) refl

pub session_taken : (v : Version) (names : Names) (stop : ℕ) (bytes : List ℕ) (s : Spelled × List ℕ) → session_at v names stop bytes ≡ Some s →
    IsOpenAs v names s.0.number s.0.text × (bytes ≡ s.0.text ++ stop ∷ s.1)
session_taken One names stop bytes s h =
    let n = bind_some (number_at stop bytes) _ s h in
    let g = when_true (is_open names n.0.0.number) (Some n.0) s n.2 in
    let t = number_of stop bytes n.0 n.1 in
    subst (λ (y : Spelled × List ℕ). IsOpenAs One names y.0.number y.0.text × (bytes ≡ y.0.text ++ stop ∷ y.1)) (some_is g.1)
    ((t.0, t.1, g.0), t.2)
session_taken Two names stop bytes s h =
    let n = bind_some (name_until stop bytes) _ s h in
    let l = bind_some (number_named names n.0.0) (λ (k : ℕ). Some (record { number = k; text = n.0.0 }, n.0.1)) s n.2 in
    let t = name_taken stop bytes n.0 n.1 in
    subst (λ (y : Spelled × List ℕ). IsOpenAs Two names y.0.number y.0.text × (bytes ≡ y.0.text ++ stop ∷ y.1)) (some_is l.2)
    ((t.0, l.1), t.1)

pub session_again : (v : Version) (names : Names) (stop s : ℕ) (text rest : List ℕ) → stop < 45 → IsOpenAs v names s text →
    session_at v names stop (text ++ stop ∷ rest) ≡ Some (record { number = s; text = text }, rest)
session_again One names stop s text rest low fits = rw (fits.1, number_is_read stop s rest (omega arith) fits.0, fits.2) refl
session_again Two names stop s text rest low fits = rw (name_again stop text rest low fits.0, fits.1) refl

-- What stands after the moment, for each word.

record IsWhat (word : List ℕ) (v : Version) (names : Names) (bytes : List ℕ) (said : Saying) (rest : List ℕ) : Type 0 where
  worded : word_text said.what ≡ word
  fits : FitsWhat v names said.session said.what
  spelled : bytes ≡ rest_text said.session said.what ++ rest

open_taken : (v : Version) (names : Names) (bytes : List ℕ) (w : Saying × List ℕ) → open_at v names bytes ≡ Some w →
    IsWhat (codes "open ") v names bytes w.0 w.1
open_taken v names bytes w h =
    let s = bind_some (opening_at v names bytes) _ w h in
    let t = opening_taken v names bytes s.0 s.1 in
    subst (λ (y : Saying × List ℕ). IsWhat (codes "open ") v names bytes y.0 y.1) (some_is s.2)
    record { worded = refl; fits = t.0; spelled = t.1 ∙ sym (append_assoc s.0.0.text (10 ∷ []) s.0.1) }

shut_taken : (v : Version) (names : Names) (bytes : List ℕ) (w : Saying × List ℕ) → shut_at v names bytes ≡ Some w →
    IsWhat (codes "shut ") v names bytes w.0 w.1
shut_taken v names bytes w h =
    let s = bind_some (session_at v names 10 bytes) _ w h in
    let t = session_taken v names 10 bytes s.0 s.1 in
    subst (λ (y : Saying × List ℕ). IsWhat (codes "shut ") v names bytes y.0 y.1) (some_is s.2)
    record { worded = refl; fits = t.0; spelled = t.1 ∙ sym (append_assoc s.0.0.text (10 ∷ []) s.0.1) }

bytes_taken : (v : Version) (names : Names) (bytes : List ℕ) (w : Saying × List ℕ) → bytes_at v names bytes ≡ Some w →
    IsWhat (codes "bytes ") v names bytes w.0 w.1
bytes_taken v names bytes w h =
    let s = bind_some (session_at v names 32 bytes) _ w h in
    let session = session_taken v names 32 bytes s.0 s.1 in
    let t = bind_some (piece_at s.0.1) (λ (piece : List ℕ × List ℕ). Some (record { what = Bytes s.0.0.number piece.0; session = s.0.0.text }, piece.1)) w
    s.2 in
    let piece = piece_taken s.0.1 t.0 t.1 in
    subst (λ (y : Saying × List ℕ). IsWhat (codes "bytes ") v names bytes y.0 y.1) (some_is t.2)
    record {
      worded = refl;
      fits = (session.0, piece.0);
      spelled =
          session.1 ∙ ap (λ (l : List ℕ). s.0.0.text ++ 32 ∷ l) piece.1
          ∙ sym (append_assoc s.0.0.text (32 ∷ piece_text t.0.0) t.0.1);
    }

guest_taken : (v : Version) (names : Names) (bytes : List ℕ) (w : Saying × List ℕ) → guest_at bytes ≡ Some w → IsWhat (codes "guest ") v names bytes w.0 w.1
guest_taken v names bytes w h =
    let t = bind_some (piece_at bytes) (λ (piece : List ℕ × List ℕ). Some (record { what = Guest piece.0; session = [] }, piece.1)) w h in
    let piece = piece_taken bytes t.0 t.1 in
    subst (λ (y : Saying × List ℕ). IsWhat (codes "guest ") v names bytes y.0 y.1) (some_is t.2)
    record { worded = refl; fits = (refl, piece.0); spelled = piece.1 }

step_taken : (v : Version) (names : Names) (bytes : List ℕ) (w : Saying × List ℕ) → step_at bytes ≡ Some w → IsWhat (codes "step ") v names bytes w.0 w.1
step_taken v names bytes w h =
    let s = bind_some (number_until 10 (2 ^ 63 - 1) bytes) _ w h in
    let number = number_taken 10 (2 ^ 63 - 1) bytes s.0 (omega arith) s.1 in
    let g = when_false (s.0.0 == 0) (Some (record { what = Step s.0.0; session = [] }, s.0.1)) w s.2 in
    let some : 1 ≤ s.0.0 = grind (arith, nat_tests, g.0) in
    subst (λ (y : Saying × List ℕ). IsWhat (codes "step ") v names bytes y.0 y.1) (some_is g.1)
    record { worded = refl; fits = (refl, some, omega (arith, number.0)); spelled = number.1 ∙ sym (append_assoc (decimal s.0.0) (10 ∷ []) s.0.1) }

-- An entry of one word.

abbrev IsRead : Version → Names → List ℕ → Recorded × List ℕ → Type 0
IsRead v names bytes e = (bytes ≡ entry_text e.0 ++ e.1) × Fits v names e.0

entry_spelled : (word at said rest : List ℕ) → (word ++ (at ++ 32 ∷ said)) ++ rest ≡ word ++ (at ++ 32 ∷ (said ++ rest))
entry_spelled word at said rest = append_assoc word (at ++ 32 ∷ said) rest ∙ ap (λ (l : List ℕ). word ++ l) (append_assoc at (32 ∷ said) rest)

of_word : (word : List ℕ) (said_at : List ℕ → Option (Saying × List ℕ)) (v : Version) (names : Names) (bytes : List ℕ) (e : Recorded × List ℕ) →
    ((left : List ℕ) (w : Saying × List ℕ) → said_at left ≡ Some w → IsWhat word v names left w.0 w.1) → entry_of word said_at bytes ≡ Some e →
    IsRead v names bytes e
of_word word said_at v names bytes e taken h =
    let t = bind_some (moment_after word bytes) _ e h in
    let s = bind_some (after_front word bytes) (λ (rest : List ℕ). moment_at rest) t.0 t.1 in
    let u = bind_some (said_at t.0.1) _ e t.2 in
    let moment = moment_taken s.0 t.0 s.2 in
    let what = taken t.0.1 u.0 u.1 in
    let said : Saying = u.0.0 in
    let whole : bytes ≡ entry_text (record { input = record { at = t.0.0; what = said.what }; session = said.session }) ++ u.0.1 =
    after_is word bytes s.0 s.1 ∙ ap (λ (l : List ℕ). word ++ l) (moment.1 ∙ ap (λ (l : List ℕ). moment_text t.0.0 ++ 32 ∷ l) what.spelled)
    ∙ ap (λ (l : List ℕ). l ++ (moment_text t.0.0 ++ 32 ∷ (rest_text said.session said.what ++ u.0.1))) (sym what.worded)
    ∙ sym (entry_spelled (word_text said.what) (moment_text t.0.0) (rest_text said.session said.what) u.0.1) in
    subst (λ (y : Recorded × List ℕ). IsRead v names bytes y) (some_is u.2) (whole, (moment.0, what.fits))

pub or_else_some : {A : Type 0} (p q : Option A) (y : A) → or_else p q ≡ Some y → (p ≡ Some y) ⊎ (q ≡ Some y)
or_else_some None q y h = inr h
or_else_some (Some x) q y h = inl h

pub entry_taken : (v : Version) (names : Names) (bytes : List ℕ) (e : Recorded × List ℕ) → entry_at v names bytes ≡ Some e → IsRead v names bytes e
unfolding entry_at
entry_taken v names bytes e h =
    elim (or_else_some (entry_of (codes "open ") (open_at v names) bytes) _ e h) [
      | inl p ↦ of_word (codes "open ") (open_at v names) v names bytes e (open_taken v names) p
      | inr p ↦ elim (or_else_some (entry_of (codes "bytes ") (bytes_at v names) bytes) _ e p) [
        | inl q ↦ of_word (codes "bytes ") (bytes_at v names) v names bytes e (bytes_taken v names) q
        | inr q ↦ elim (or_else_some (entry_of (codes "shut ") (shut_at v names) bytes) _ e q) [
          | inl r ↦ of_word (codes "shut ") (shut_at v names) v names bytes e (shut_taken v names) r
          | inr r ↦ elim (or_else_some (entry_of (codes "guest ") guest_at bytes) _ e r) [
            | inl t ↦ of_word (codes "guest ") guest_at v names bytes e (guest_taken v names) t
            | inr t ↦ of_word (codes "step ") step_at v names bytes e (step_taken v names) t
          ]
        ]
      ]
    ]

-- Each entry that may stand is read again, whatever follows.

record IsAgain (said_at : List ℕ → Option (Saying × List ℕ)) (said : Saying) (rest : List ℕ) : Type 0 where
  read : said_at (rest_text said.session said.what ++ rest) ≡ Some (said, rest)

word_again : (said_at : List ℕ → Option (Saying × List ℕ)) (at : Moment) (said : Saying) (rest : List ℕ) → FitsMoment at → IsAgain said_at said rest →
    entry_of (word_text said.what) said_at (word_text said.what ++ (moment_text at ++ 32 ∷ (rest_text said.session said.what ++ rest))) ≡ Some
    (record { input = record { at = at; what = said.what }; session = said.session }, rest)
word_again said_at at said rest moment again =
    let left : List ℕ = rest_text said.session said.what ++ rest in
    rw (after_again (word_text said.what) (moment_text at ++ 32 ∷ left), moment_again at left moment, again.read) refl

abbrev saying : List ℕ → What → Saying
saying session what = record { what = what; session = session }

open_again : (v : Version) (names : Names) (session : List ℕ) (s : ℕ) (rest : List ℕ) → MayOpen v names s session →
    IsAgain (open_at v names) (saying session (Open s)) rest
open_again v names session s rest fits =
    let said : (session ++ 10 ∷ []) ++ rest ≡ session ++ 10 ∷ rest = append_assoc session (10 ∷ []) rest in
    record { read = rw (said, opening_again v names s session rest fits) refl }

shut_again : (v : Version) (names : Names) (session : List ℕ) (s : ℕ) (rest : List ℕ) → IsOpenAs v names s session →
    IsAgain (shut_at v names) (saying session (Shut s)) rest
shut_again v names session s rest fits =
    let said : (session ++ 10 ∷ []) ++ rest ≡ session ++ 10 ∷ rest = append_assoc session (10 ∷ []) rest in
    record { read = rw (said, session_again v names 10 s session rest (omega arith) fits) refl }

bytes_again : (v : Version) (names : Names) (session : List ℕ) (s : ℕ) (piece rest : List ℕ) → IsOpenAs v names s session × FitsPiece piece →
    IsAgain (bytes_at v names) (saying session (Bytes s piece)) rest
bytes_again v names session s piece rest fits =
    let said : (session ++ 32 ∷ piece_text piece) ++ rest ≡ session ++ 32 ∷ (piece_text piece ++ rest) = append_assoc session
    (32 ∷ piece_text piece) rest in
    record {
      read =
          rw (said, session_again v names 32 s session (piece_text piece ++ rest) (omega arith) fits.0, piece_again piece rest fits.1) refl;
    }

guest_again : (piece rest : List ℕ) → FitsPiece piece → IsAgain guest_at (saying [] (Guest piece)) rest
guest_again piece rest fits = record { read = rw (piece_again piece rest fits) refl }

step_again : (ns : ℕ) (rest : List ℕ) → 1 ≤ ns → ns < 2 ^ 63 → IsAgain step_at (saying [] (Step ns)) rest
step_again ns rest least below =
    let said : (decimal ns ++ 10 ∷ []) ++ rest ≡ decimal ns ++ 10 ∷ rest = append_assoc (decimal ns) (10 ∷ []) rest in
    let some : (ns == 0) ≡ false = grind (arith, nat_tests, least) in
    record { read = rw (said, number_again 10 (2 ^ 63 - 1) ns rest (omega arith) (omega arith) (omega (arith, below)), some) refl }

first_of_two : {A : Type 0} (p q : Option A) (y : A) → p ≡ Some y → or_else p q ≡ Some y
first_of_two p q y h = rw h refl

pub entry_again : (v : Version) (names : Names) (e : Recorded) (rest : List ℕ) → Fits v names e → entry_at v names (entry_text e ++ rest) ≡ Some (e, rest)
unfolding entry_at
entry_again v names e rest fits =
    ap (entry_at v names) (entry_spelled (word_text e.input.what) (moment_text e.input.at) (rest_text e.session e.input.what) rest)
    ∙ go e.session e.input.what fits.1
  where
    read_as : What → List ℕ → Option (Recorded × List ℕ)
    read_as what session = Some (record { input = record { at = e.input.at; what = what }; session = session }, rest)

    unnamed : (session : List ℕ) (what : What) → session ≡ [] → read_as what [] ≡ read_as what session
    unnamed session what none = ap (read_as what) (sym none)

    go : (session : List ℕ) (what : What) → FitsWhat v names session what →
        entry_at v names (word_text what ++ (moment_text e.input.at ++ 32 ∷ (rest_text session what ++ rest))) ≡ read_as what session
    go session (Open s) h =
        first_of_two _ _ _ (word_again (open_at v names) e.input.at (saying session (Open s)) rest fits.0 (open_again v names session s rest h))
    go session (Bytes s piece) h =
        first_of_two _ _ _ (word_again (bytes_at v names) e.input.at (saying session (Bytes s piece)) rest fits.0
        (bytes_again v names session s piece rest h))
    go session (Shut s) h =
        first_of_two _ _ _ (word_again (shut_at v names) e.input.at (saying session (Shut s)) rest fits.0 (shut_again v names session s rest h))
    go session (Guest piece) h =
        first_of_two _ _ _ (word_again guest_at e.input.at (saying [] (Guest piece)) rest fits.0 (guest_again piece rest h.1))
        ∙ unnamed session (Guest piece) h.0
    go session (Step ns) h =
        word_again step_at e.input.at (saying [] (Step ns)) rest fits.0 (step_again ns rest h.1 h.2) ∙ unnamed session (Step ns) h.0
    go session End h = absurd h

pub entries_are_spelled : EntriesAreSpelled
entries_are_spelled v names bytes e rest =
    (entry_taken v names bytes (e, rest), λ h. ap (entry_at v names) h.0 ∙ entry_again v names e rest h.1)
