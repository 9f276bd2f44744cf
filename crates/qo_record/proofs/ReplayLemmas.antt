-- A stream that is read on from a source.
use Rattle.std.proofs.Common.{◌≡◌, ℕ, ◌+◌, ◌^◌, ◌≤◌, ◌<◌, false, List, [], ◌∷◌, ◌++◌, length, take, drop, refl, sym, ◌∙◌, ap, subst}
use Rattle.std.proofs.Common.{arith, length-append, length-drop, append_assoc, append-nil, ◌⊎◌, inl, inr, Option, None, Some, option_map, IfSome}
use Rattle.std.proofs.Common.{decimal}
use Rattle.std.proofs.Math.Seq.{take-append_seam}
use Rattle.std.proofs.lemmas.Fmt.{length-decimal-le}
use Rattle.std.proofs.lemmas.List.{take-append-drop, take-append-le}
use Rattle.std.specs.Io.KnownBytes.{prepend_known}
use Rattle.qo_causes.specs.Hub.{AtEnd, is_end}
use Rattle.qo_causes.specs.Names.{Given, Names}
use Rattle.qo_causes.specs.declared.inputs.Moment.{Moment}
use Rattle.qo_causes.specs.declared.inputs.What.{What}
use Rattle.qo_causes.specs.declared.inputs.What.TheVariants.{Open, Bytes, Shut, Guest, Step, End}
use Rattle.qo_record.proofs.EntryLemmas.{entry_again, entry_taken}
use Rattle.qo_record.proofs.ReadingLemmas.{name_is, none_some}
use Rattle.qo_record.proofs.RecordLemmas.{entries_none, entries_some, headed_is, left_few, not_end}
use Rattle.qo_record.specs.Names.{header_of}
use Rattle.qo_record.specs.Record.{Read, bad_after, entries_from, entry_at, offset_before, read_after}
use Rattle.qo_record.specs.Replays.{Progress, Replaying, Went, ahead_of, bad_ahead, bad_from, inputs_ahead, inputs_from, offset_from, capped_offset, read_from}
use Rattle.qo_record.specs.Replays.{took_none, went_nowhere, went_then}
use Rattle.qo_record.specs.Windows.{BeginsWithHeader, IsFirst, NoEntry, first_entry, recorded}
use Rattle.qo_record.specs.Spelling.{Fits, FitsMoment, FitsPiece, FitsWhat, IsOpenAs, MayOpen, Recorded, entry_text, given_from, last_digits, moment_text}
use Rattle.qo_record.specs.Spelling.{names_after, piece_text, rest_text, word_text}
use Rattle.qo_record.specs.declared.entries.First.{First}
use Rattle.qo_record.specs.declared.versions.Version.{Version}
use Rattle.qo_record.specs.declared.versions.Version.TheVariants.{One, Two}

-- How long an entry is.

pub moment_short : (m : Moment) → FitsMoment m → length (moment_text m) ≤ 26
moment_short m fits =
    omega (
      arith,
      length-append (decimal m.seconds) (46 ∷ last_digits 6 m.micros),
      length-decimal-le 19 m.seconds (omega arith) (omega (arith, fits.0))
          (omega (arith, fits.0)),
    )

piece_short : (piece : List ℕ) → FitsPiece piece → length (piece_text piece) ≤ 65543
piece_short piece fits =
    omega (
      arith,
      fits.1,
      length-append (decimal (length piece)) (10 ∷ (piece ++ 10 ∷ [])),
      length-append piece (10 ∷ []),
      length-decimal-le 5
          (length piece) (omega arith) (omega (arith, fits.1)) (omega (arith, fits.1)),
    )

-- the most bytes by which a session is spelled
abbrev pub session_most : Version → ℕ
session_most One = 2
session_most Two = 32

number_short : (s : ℕ) → s ≤ 15 → length (decimal s) ≤ 2
number_short s few = length-decimal-le 2 s (omega arith) (omega (arith, few)) (omega (arith, few))

pub opening_short : (v : Version) (names : Names) (s : ℕ) (session : List ℕ) → MayOpen v names s session → length session ≤ session_most v
opening_short One names s session fits = omega (arith, number_short s fits.0, ap (length {A = ℕ}) fits.1)
opening_short Two names s session fits = (name_is session fits.0).few

pub session_short : (v : Version) (names : Names) (s : ℕ) (session : List ℕ) → IsOpenAs v names s session → length session ≤ session_most v
session_short One names s session fits = omega (arith, number_short s fits.0, ap (length {A = ℕ}) fits.1)
session_short Two names s session fits = (name_is session fits.0).few

few_most : (v : Version) → session_most v ≤ 32
few_most One = omega arith
few_most Two = omega arith

rest_short : (v : Version) (names : Names) (session : List ℕ) (what : What) → FitsWhat v names session what → length (rest_text session what) ≤ 65576
rest_short v names session (Open s) fits = omega (arith, few_most v, opening_short v names s session fits, length-append session (10 ∷ []))
rest_short v names session (Bytes s piece) fits =
    omega (arith, few_most v, session_short v names s session fits.0, length-append session (32 ∷ piece_text piece), piece_short piece fits.1)
rest_short v names session (Shut s) fits = omega (arith, few_most v, session_short v names s session fits, length-append session (10 ∷ []))
rest_short v names session (Guest piece) fits = omega (arith, piece_short piece fits.1)
rest_short v names session (Step ns) fits =
    omega (arith, length-append (decimal ns) (10 ∷ []), length-decimal-le 19 ns (omega arith) (omega (arith, fits.2)) (omega (arith, fits.2)))
rest_short v names session End fits = absurd fits

pub word_short : (what : What) → length (word_text what) ≤ 6
word_short (Open s) = omega arith
word_short (Bytes s piece) = omega arith
word_short (Shut s) = omega arith
word_short (Guest piece) = omega arith
word_short (Step ns) = omega arith
word_short End = omega arith

pub entry_short : (v : Version) (names : Names) (e : Recorded) → Fits v names e → length (entry_text e) ≤ 65609
entry_short v names e fits =
    let rest : List ℕ = rest_text e.session e.input.what in
    omega (
      arith,
      word_short e.input.what,
      moment_short e.input.at fits.0,
      rest_short v names e.session e.input.what fits.1,
      length-append (word_text e.input.what)
          (moment_text e.input.at ++ 32 ∷ rest),
      length-append (moment_text e.input.at) (32 ∷ rest),
    )

-- What a front decides.

-- an entry is read again with more bytes after it
pub entry_more : (v : Version) (names : Names) (bytes more : List ℕ) (e : Recorded × List ℕ) → entry_at v names bytes ≡ Some e →
    entry_at v names (bytes ++ more) ≡ Some (e.0, e.1 ++ more)
entry_more v names bytes more e h =
    let t = entry_taken v names bytes e h in
    ap (λ (l : List ℕ). entry_at v names (l ++ more)) t.0 ∙ ap (entry_at v names) (append_assoc (entry_text e.0) e.1 more)
    ∙ entry_again v names e.0 (e.1 ++ more) t.1

-- a front that is no longer than the first part is in it
pub front_within : (front rest buffered more : List ℕ) → buffered ++ more ≡ front ++ rest → length front ≤ length buffered
    → buffered ≡ front ++ drop (length front) buffered
front_within front rest buffered more same few =
    let is : take (length front) buffered ≡ front =
    sym (take-append-le (length front) buffered more few) ∙ ap (take (length front)) same ∙ take-append_seam front rest in
    sym (take-append-drop (length front) buffered) ∙ ap (λ (l : List ℕ). l ++ drop (length front) buffered) is

-- where a full window has no entry none stands there
pub none_late : (v : Version) (names : Names) (buffered more : List ℕ) → 65699 ≤ length buffered → entry_at v names buffered ≡ None
    → entry_at v names (buffered ++ more) ≡ None
none_late v names buffered more full none = go (entry_at v names (buffered ++ more)) refl
  where
    go : (r : Option (Recorded × List ℕ)) → entry_at v names (buffered ++ more) ≡ r → entry_at v names (buffered ++ more) ≡ None
    go None h = h
    go (Some e) h =
        let t = entry_taken v names (buffered ++ more) e h in
        let text : List ℕ = entry_text e.0 in
        let is = front_within text e.1 buffered more t.0 (omega (arith, entry_short v names e.0 t.1, full)) in
        absurd (none_some (sym none ∙ ap (entry_at v names) is ∙ entry_again v names e.0 (drop (length text) buffered) t.1))

-- where no more is taken for an entry, none is found
pub none_found : (v : Version) (names : Names) (buffered now : List ℕ) (left : Option (List ℕ)) → now ≡ buffered →
    (length now ≡ 65699) ⊎ IfSome left (λ (more : List ℕ). more ≡ []) → entry_at v names buffered ≡ None → IfSome left (NoEntry v names now)
none_found v names buffered now None same stop none = tt
none_found v names buffered now (Some more) same (inl full) none =
    (none_late v names now more (omega (arith, full)) (ap (entry_at v names) same ∙ none), λ e. absurd (omega (arith, full, ap (length {A = ℕ}) e)))
none_found v names buffered now (Some more) same (inr gone) none =
    (ap (λ (l : List ℕ). entry_at v names (now ++ l)) gone ∙ ap (entry_at v names) (append-nil now ∙ same) ∙ none, λ e. gone)

-- The header is passed.

abbrev fresh : List ℕ → ℕ → Names → Progress
fresh buffered place names = record { buffered = buffered; version = None; place = place; names = names }

abbrev behind : Version → List ℕ → ℕ → Names → Progress
behind v buffered place names = record { buffered = buffered; version = Some v; place = place; names = names }

pub header_size : (v : Version) → length (header_of v) ≡ 7
header_size One = refl
header_size Two = refl

header_drops : (v : Version) (more : List ℕ) → drop 7 (header_of v ++ more) ≡ more
header_drops One more = refl
header_drops Two more = refl

place_seven : (size whole : ℕ) (left : List ℕ) → whole ≡ size + 7 → length left ≤ size →
    offset_from 7 size left ≡ option_map capped_offset (offset_before whole left)
place_seven size whole [] same few = refl
place_seven size whole (b ∷ left) same few = ap (λ (n : ℕ). Some (capped_offset n)) (omega arith)

bad_passed : (v : Version) (place : ℕ) (names : Names) (more : List ℕ) → bad_from (Some v) 7 names more ≡ bad_from None place names (header_of v ++ more)
bad_passed v place names more =
    place_seven (length more) (length (header_of v ++ more)) ((entries_from v names more).left) (omega (
      arith,
      header_size v,
      length-append (header_of v) more,
    ))
    (left_few v names more)
    ∙ ap (λ (h : Option (Version × List ℕ)). option_map capped_offset (bad_after names (length (header_of v ++ more)) h)) (sym (headed_is v more))

read_passed : (v : Version) (names : Names) (more : List ℕ) → read_from None names (header_of v ++ more) ≡ entries_from v names more
read_passed v names more = ap (read_after names (header_of v ++ more)) (headed_is v more)

fresh_is : (v : Version) (p : Progress) (more : List ℕ) → p.version ≡ None → p.buffered ≡ header_of v ++ more → p ≡ fresh (header_of v ++ more) p.place p.names
fresh_is v p more none is =
    ap (λ (b : Option Version). record { buffered = p.buffered; version = b; place = p.place; names = p.names }) none
    ∙ ap (λ (l : List ℕ). fresh l p.place p.names) is

-- bytes may stand with those that are held or with those that are left
took_front : (text rest : List ℕ) (left : Option (List ℕ)) → ahead_of (text ++ rest) left ≡ prepend_known text (ahead_of rest left)
took_front text rest None = refl
took_front text rest (Some more) = ap (λ (l : List ℕ). Some l) (append_assoc text rest more)

bad_at_header : (v : Version) (place : ℕ) (names : Names) (more : List ℕ) (left : Option (List ℕ)) →
    bad_ahead (behind v more 7 names) left ≡ bad_ahead (fresh (header_of v ++ more) place names) left
bad_at_header v place names more None = refl
bad_at_header v place names more (Some rest) =
    ap (λ (n : Option ℕ). Some n) (bad_passed v place names (more ++ rest) ∙ ap (bad_from None place names) (sym (append_assoc (header_of v) more rest)))

inputs_at_header : (v : Version) (place : ℕ) (names : Names) (more : List ℕ) (left : Option (List ℕ)) →
    inputs_ahead (behind v more 7 names) left ≡ inputs_ahead (fresh (header_of v ++ more) place names) left
inputs_at_header v place names more None = refl
inputs_at_header v place names more (Some rest) =
    ap (λ (r : Read). Some (given_from names r.entries)) (sym (read_passed v names (more ++ rest)))
    ∙ ap (λ (l : List ℕ). Some (inputs_from None names l)) (sym (append_assoc (header_of v) more rest))

rest_is : (v : Version) (p : Progress) (buffered : List ℕ) (there : BeginsWithHeader v p.buffered) → buffered ≡ drop 7 p.buffered → buffered ≡ there.0
rest_is v p buffered there is = is ∙ ap (drop 7) there.1 ∙ header_drops v there.0

pub header_bad : (v : Version) (p : Progress) (buffered : List ℕ) (names : Names) (left : Option (List ℕ)) → p.version ≡ None →
    BeginsWithHeader v p.buffered → buffered ≡ drop 7 p.buffered → names ≡ p.names → bad_ahead (behind v buffered 7 names) left ≡ bad_ahead p left
header_bad v p buffered names left none there is named =
    ap (λ (n : Names). bad_ahead (behind v buffered 7 n) left) named ∙
    ap (λ (l : List ℕ). bad_ahead (behind v l 7 p.names) left) (rest_is v p buffered there is) ∙ bad_at_header v p.place p.names there.0 left
    ∙ ap (λ (q : Progress). bad_ahead q left) (sym (fresh_is v p there.0 none there.1))

pub header_inputs : (v : Version) (p : Progress) (buffered : List ℕ) (names : Names) (left : Option (List ℕ)) → p.version ≡ None →
    BeginsWithHeader v p.buffered → buffered ≡ drop 7 p.buffered → names ≡ p.names → inputs_ahead (behind v buffered 7 names) left ≡ inputs_ahead p left
header_inputs v p buffered names left none there is named =
    ap (λ (n : Names). inputs_ahead (behind v buffered 7 n) left) named ∙
    ap (λ (l : List ℕ). inputs_ahead (behind v l 7 p.names) left) (rest_is v p buffered there is) ∙ inputs_at_header v p.place p.names there.0 left
    ∙ ap (λ (q : Progress). inputs_ahead q left) (sym (fresh_is v p there.0 none there.1))

pub header_went : (v : Version) (p : Progress) (buffered : List ℕ) (names : Names) (left : Option (List ℕ)) → p.version ≡ None →
    BeginsWithHeader v p.buffered → buffered ≡ drop 7 p.buffered → names ≡ p.names → Went p (behind v buffered 7 names) left left
header_went v p buffered names left none there is named =
    subst (λ (n : Names). Went p (behind v buffered 7 n) left left) (sym named)
    (subst (λ (q : Progress). Went q (behind v buffered 7 p.names) left left) (sym (fresh_is v p there.0 none there.1))
    (subst (λ (l : List ℕ). Went (fresh (header_of v ++ there.0) p.place p.names) (behind v l 7 p.names) left left) (sym (rest_is v p buffered there is))
    (header_of v, [], record { took = took_front (header_of v) there.0 left; gave = λ more. read_passed v p.names more; named = refl })))

-- An entry is passed.

abbrev given_of : Names → Recorded → Given
given_of names e = record { input = e.input; names = names_after names e }

entry_inputs : (v : Version) (buffered rest : List ℕ) (names : Names) (e : Recorded) (left : Option (List ℕ)) → entry_at v names buffered ≡ Some (e, rest) →
    option_map (inputs_from (Some v) names) (ahead_of buffered left) ≡ option_map (λ (l : List Given). given_of names e ∷ l) (option_map (inputs_from (Some v)
    (names_after names e)) (ahead_of rest left))
entry_inputs v buffered rest names e None h = refl
entry_inputs v buffered rest names e (Some more) h =
    ap (λ (r : Read). Some (given_from names r.entries)) (entries_some v names (buffered ++ more) (e, rest ++ more) (entry_more v names buffered more (e, rest) h))

place_passed : (place size before now : ℕ) (left : List ℕ) → before ≡ size + now → length left ≤ now →
    offset_from (capped_offset (place + size)) now left ≡ offset_from place before left
place_passed place size before now [] same few = refl
place_passed place size before now (b ∷ left) same few = ap (λ (n : ℕ). Some n) (omega arith)

entry_bad : (v : Version) (buffered rest : List ℕ) (names : Names) (e : Recorded) (place size : ℕ) (left : Option (List ℕ)) →
    entry_at v names buffered ≡ Some (e, rest) → length buffered ≡ size + length rest → option_map
    (bad_from (Some v) (capped_offset (place + size)) (names_after names e)) (ahead_of rest left) ≡ option_map (bad_from (Some v) place names)
    (ahead_of buffered left)
entry_bad v buffered rest names e place size None h parts = refl
entry_bad v buffered rest names e place size (Some more) h parts =
    let now : Names = names_after names e in
    let left : List ℕ = (entries_from v now (rest ++ more)).left in
    let same : left ≡ (entries_from v names (buffered ++ more)).left =
    sym (ap (λ (r : Read). r.left) (entries_some v names (buffered ++ more) (e, rest ++ more) (entry_more v names buffered more (e, rest) h))) in
    ap (λ (n : Option ℕ). Some n)
    (place_passed place size (length (buffered ++ more)) (length (rest ++ more)) left
    (omega (arith, parts, length-append buffered more, length-append rest more))
    (left_few v now (rest ++ more))
    ∙ ap (offset_from place (length (buffered ++ more))) same)

entry_went : (v : Version) (buffered rest : List ℕ) (names : Names) (e : Recorded) (place now : ℕ) (left : Option (List ℕ)) →
    entry_at v names buffered ≡ Some (e, rest) → Went (behind v buffered place names) (behind v rest now (names_after names e)) left left
entry_went v buffered rest names e place now left h =
    let t = entry_taken v names buffered (e, rest) h in
    let text : List ℕ = entry_text e in (
      text,
      e ∷ [],
      record {
        took = ap (λ (l : List ℕ). ahead_of l left) t.0 ∙ took_front text rest left;
        gave = λ more. entries_some v names (text ++ more) (e, more) (entry_again v names e more t.1);
        named = refl;
      },
    )

version_is : (v : Version) (p : Progress) → p.version ≡ Some v → p ≡ behind v p.buffered p.place p.names
version_is v p on = ap (λ (b : Option Version). record { buffered = p.buffered; version = b; place = p.place; names = p.names }) on

abbrev pub passed : Version → Progress → First → Progress
passed v p f = behind v (drop f.size p.buffered) (capped_offset (p.place + f.size)) (names_after p.names (recorded f))

-- the progress after an entry, as the code has it
pub passed_is : (v : Version) (p : Progress) (f : First) (buffered : List ℕ) (version : Option Version) (place : ℕ) (names : Names) → version ≡ Some v →
    buffered ≡ drop f.size p.buffered → place ≡ capped_offset (p.place + f.size) → names ≡ names_after p.names (recorded f) → record
    { buffered = buffered; version = version; place = place; names = names } ≡ passed v p f
passed_is v p f buffered version place names on is moved named =
    ap (λ (b : Option Version). record { buffered = buffered; version = b; place = place; names = names }) on
    ∙ ap (λ (l : List ℕ). behind v l place names) is ∙ ap (λ (n : ℕ). behind v (drop f.size p.buffered) n names) moved
    ∙ ap (behind v (drop f.size p.buffered) (capped_offset (p.place + f.size))) named

pub first_some : (v : Version) (p : Progress) (f : First) → IsFirst v p.names p.buffered f → is_end f.input.what ≡ false
first_some v p f first =
    not_end v p.names f.session f.input.what (entry_taken v p.names p.buffered (first_entry p.buffered f) first.entry).1.1

pub first_inputs : (v : Version) (p : Progress) (f : First) (left : Option (List ℕ)) → p.version ≡ Some v → IsFirst v p.names p.buffered f →
    inputs_ahead p left ≡ option_map (λ (l : List Given). record { input = f.input; names = names_after p.names (recorded f) } ∷ l) (inputs_ahead (passed v p f) left)
first_inputs v p f left on first =
    ap (λ (q : Progress). inputs_ahead q left) (version_is v p on)
    ∙ entry_inputs v p.buffered (drop f.size p.buffered) p.names (recorded f) left first.entry

pub first_bad : (v : Version) (p : Progress) (f : First) (left : Option (List ℕ)) → p.version ≡ Some v → IsFirst v p.names p.buffered f →
    bad_ahead (passed v p f) left ≡ bad_ahead p left
first_bad v p f left on first =
    entry_bad v p.buffered (drop f.size p.buffered) p.names (recorded f) p.place f.size left first.entry (omega (
      arith,
      length-drop f.size p.buffered,
      first.within,
    ))
    ∙ ap (λ (q : Progress). bad_ahead q left) (sym (version_is v p on))

pub first_went : (v : Version) (p : Progress) (f : First) (left : Option (List ℕ)) → p.version ≡ Some v → IsFirst v p.names p.buffered f →
    Went p (passed v p f) left left
first_went v p f left on first =
    subst (λ (q : Progress). Went q (passed v p f) left left) (sym (version_is v p on))
    (entry_went v p.buffered (drop f.size p.buffered) p.names (recorded f) p.place (capped_offset (p.place + f.size)) left first.entry)

-- More bytes are held.

abbrev holding : Progress → List ℕ → Progress
holding p buffered = record { buffered = buffered; version = p.version; place = p.place; names = p.names }

pub filled_went : (p : Progress) (buffered : List ℕ) (left_old left_new : Option (List ℕ)) → ahead_of buffered left_new ≡ ahead_of p.buffered left_old →
    Went p (holding p buffered) left_old left_new
filled_went p buffered left_old left_new same =
    ([], [], record { took = sym same ∙ took_none (ahead_of buffered left_new); gave = λ more. refl; named = refl })

-- No input is left.

empty_is : (l : List ℕ) → length l ≡ 0 → l ≡ []
empty_is [] none = refl
empty_is (b ∷ l) none = absurd (omega arith)

at_end : (v : Version) (buffered : List ℕ) (place : ℕ) (names : Names) (left : Option (List ℕ)) → buffered ≡ [] → IfSome left (NoEntry v names buffered) →
    AtEnd (option_map (inputs_from (Some v) names) (ahead_of buffered left)) (option_map (bad_from (Some v) place names) (ahead_of buffered left)) None
at_end v buffered place names None none h = (tt, tt)
at_end v buffered place names (Some more) none h =
    let stop = entries_none v names (buffered ++ more) h.0 in
    let all : buffered ++ more ≡ [] = rw (none, h.1 none) refl in (
      ap (λ (r : Read). given_from names r.entries) stop,
      ap (λ (r : Read). offset_from place (length (buffered ++ more)) r.left) stop ∙ ap (offset_from place (length
          (buffered ++ more))) all,
    )

place_here : (place : ℕ) (bytes : List ℕ) → place < 2 ^ 64 → 0 < length bytes → offset_from place (length bytes) bytes ≡ Some place
place_here place [] within some = absurd (omega arith)
place_here place (b ∷ bytes) within some = ap (λ (n : ℕ). Some n) (omega arith)

at_bad : (v : Version) (buffered : List ℕ) (place : ℕ) (names : Names) (left : Option (List ℕ)) → place < 2 ^ 64 → 0 < length buffered
    → IfSome left (NoEntry v names buffered) →
    AtEnd (option_map (inputs_from (Some v) names) (ahead_of buffered left)) (option_map (bad_from (Some v) place names) (ahead_of buffered left)) (Some place)
at_bad v buffered place names None within some h = (tt, tt)
at_bad v buffered place names (Some more) within some h =
    let stop = entries_none v names (buffered ++ more) h.0 in (
      ap (λ (r : Read). given_from names r.entries) stop,
      ap (λ (r : Read). offset_from place (length (buffered ++ more)) r.left) stop
          ∙ place_here place (buffered ++ more) within (omega (arith, length-append buffered more)),
    )

pub inputs_same : (p : Progress) (buffered : List ℕ) (left_old left_new : Option (List ℕ)) → ahead_of buffered left_new ≡ ahead_of p.buffered left_old →
    inputs_ahead (holding p buffered) left_new ≡ inputs_ahead p left_old
inputs_same p buffered left_old left_new same = ap (option_map (inputs_from p.version p.names)) same

bad_same : (p : Progress) (buffered : List ℕ) (left_old left_new : Option (List ℕ)) → ahead_of buffered left_new ≡ ahead_of p.buffered left_old →
    bad_ahead (holding p buffered) left_new ≡ bad_ahead p left_old
bad_same p buffered left_old left_new same = ap (option_map (bad_from p.version p.place p.names)) same

-- no entry stands after what is held
pub end_there : (v : Version) (p : Progress) (buffered : List ℕ) (left_old left_new : Option (List ℕ)) → p.version ≡ Some v
    → ahead_of buffered left_new ≡ ahead_of p.buffered left_old →
    length buffered ≡ 0 → IfSome left_new (NoEntry v p.names buffered) → AtEnd (inputs_ahead p left_old) (bad_ahead p left_old) None
end_there v p buffered left_old left_new on same none h =
    subst (λ (xs : Option (List Given)). AtEnd xs (bad_ahead p left_old) None) (inputs_same p buffered left_old left_new same)
    (subst (λ (b : Option (Option ℕ)). AtEnd (inputs_ahead (holding p buffered) left_new) b None) (bad_same p buffered left_old left_new same)
    (subst (λ (q : Progress). AtEnd (inputs_ahead (holding q buffered) left_new) (bad_ahead (holding q buffered) left_new) None) (sym (version_is v p on))
    (at_end v buffered p.place p.names left_new (empty_is buffered none) h)))

pub bad_there : (v : Version) (p : Progress) (buffered : List ℕ) (left_old left_new : Option (List ℕ)) → p.version ≡ Some v
    → ahead_of buffered left_new ≡ ahead_of p.buffered left_old →
    0 < length buffered → p.place < 2 ^ 64 → IfSome left_new (NoEntry v p.names buffered) → AtEnd (inputs_ahead p left_old) (bad_ahead p left_old) (Some p.place)
bad_there v p buffered left_old left_new on same some within h =
    subst (λ (xs : Option (List Given)). AtEnd xs (bad_ahead p left_old) (Some p.place)) (inputs_same p buffered left_old left_new same)
    (subst (λ (b : Option (Option ℕ)). AtEnd (inputs_ahead (holding p buffered) left_new) b (Some p.place)) (bad_same p buffered left_old left_new same)
    (subst (λ (q : Progress). AtEnd (inputs_ahead (holding q buffered) left_new) (bad_ahead (holding q buffered) left_new) (Some q.place))
    (sym (version_is v p on))
    (at_bad v buffered p.place p.names left_new within some h)))

-- The same, where the progress is known by another name.

pub filled_at : (q p : Progress) (buffered : List ℕ) (left_old left_new : Option (List ℕ)) → q ≡ p → ahead_of buffered left_new ≡ ahead_of q.buffered left_old →
    Went p (holding q buffered) left_old left_new
filled_at q p buffered left_old left_new is same =
    subst (λ (r : Progress). Went r (holding q buffered) left_old left_new) is (filled_went q buffered left_old left_new same)

pub filled_then : (q p c : Progress) (buffered : List ℕ) (left_old left_new : Option (List ℕ)) → q ≡ p
    → ahead_of buffered left_new ≡ ahead_of q.buffered left_old →
    Went (holding q buffered) c left_new left_new → Went p c left_old left_new
filled_then q p c buffered left_old left_new is same after_front =
    went_then p (holding q buffered) c left_old left_new left_new (filled_at q p buffered left_old left_new is same) after_front

pub end_at : (v : Version) (q p : Progress) (buffered : List ℕ) (left_old left_new : Option (List ℕ)) → q ≡ p → p.version ≡ Some v →
    ahead_of buffered left_new ≡ ahead_of q.buffered left_old → length buffered ≡ 0 → IfSome left_new (NoEntry v q.names buffered) → (inputs_ahead
    (holding q buffered) left_new ≡ inputs_ahead p left_old) × AtEnd (inputs_ahead p left_old) (bad_ahead p left_old) None
end_at v q p buffered left_old left_new is on same none h =
    subst (λ (r : Progress). (inputs_ahead (holding q buffered) left_new ≡ inputs_ahead r left_old) × AtEnd (inputs_ahead r left_old)
    (bad_ahead r left_old) None) is (
      inputs_same q buffered left_old left_new same,
      end_there v q buffered left_old left_new (ap (λ (r : Progress). r.version) is ∙ on) same none h,
    )

pub bad_at : (v : Version) (q p : Progress) (buffered : List ℕ) (left_old left_new : Option (List ℕ)) → q ≡ p → p.version ≡ Some v →
    ahead_of buffered left_new ≡ ahead_of q.buffered left_old → 0 < length buffered → q.place < 2 ^ 64 → IfSome left_new (NoEntry v q.names buffered)
    → (inputs_ahead
    (holding q buffered) left_new ≡ inputs_ahead p left_old) × AtEnd (inputs_ahead p left_old) (bad_ahead p left_old) (Some q.place)
bad_at v q p buffered left_old left_new is on same some within h =
    subst (λ (r : Progress). (inputs_ahead (holding q buffered) left_new ≡ inputs_ahead r left_old) × AtEnd (inputs_ahead r left_old) (bad_ahead r left_old)
    (Some q.place)) is (
      inputs_same q buffered left_old left_new same,
      bad_there v q buffered left_old left_new (ap (λ (r : Progress). r.version) is ∙ on) same some within h,
    )

-- a hub that has read no further
pub still_went : {S K : Type 0} (left : S → Option (List ℕ)) (q p : Replaying S K) → q ≡ p → Went p.read q.read (left p.source) (left q.source)
still_went {S} {K} left q p is =
    subst (λ (r : Replaying S K). Went p.read r.read (left p.source) (left r.source)) (sym is) (went_nowhere p.read (left p.source))
