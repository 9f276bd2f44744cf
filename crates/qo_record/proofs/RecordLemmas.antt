-- The entries of a stream are the longest list of whole ones.
use Rattle.std.proofs.Common.{◌≡◌, ℕ, zero, suc, ◌<◌, ◌≤◌, false, List, [], ◌∷◌, ◌++◌, length, refl, sym, ◌∙◌, ap, subst, arith}
use Rattle.std.proofs.Common.{length-append, append_assoc, append-nil, Option, None, Some, ◌⊎◌, inl, inr}
use Rattle.std.specs.List.{AllByRecursion}
use Rattle.qo_causes.specs.Hub.{is_end}
use Rattle.qo_causes.specs.Names.{Given, Names, no_names}
use Rattle.qo_causes.specs.declared.inputs.What.{What}
use Rattle.qo_causes.specs.declared.inputs.What.TheVariants.{Open, Bytes, Shut, Guest, Step, End}
use Rattle.qo_record.specs.Laws.{HeaderIsNeeded, InputsAreFew, ReadsLongest, SpelledStreamsAreRead, StreamsAreLongest}
use Rattle.qo_record.specs.Names.{header_of}
use Rattle.qo_record.specs.Reading.{◌>>=◌, after_front}
use Rattle.qo_record.specs.Record.{Read, bad_after, bad_place, entries_from, entries_within, entry_at, headed, offset_before, read_after, stopped}
use Rattle.qo_record.specs.Record.{stream_entries, with_first}
use Rattle.qo_record.specs.Spelling.{FitAll, FitsWhat, Recorded, entries_text, entry_text, given_from, moment_text, names_after, names_after_all, rest_text, word_text}
use Rattle.qo_record.specs.declared.versions.Version.{Version}
use Rattle.qo_record.specs.declared.versions.Version.TheVariants.{One, Two}
use Rattle.qo_record.proofs.EntryLemmas.{entry_again, entry_taken, or_else_some}
use Rattle.qo_record.proofs.ReadingLemmas.{after_is, bind_some, some_is}

-- An entry takes at least one byte from the front.

text_some : (e : Recorded) → 0 < length (entry_text e)
text_some e =
    let rest : List ℕ = 32 ∷ rest_text e.session e.input.what in
    omega (arith, length-append (word_text e.input.what) (moment_text e.input.at ++ rest), length-append (moment_text e.input.at) rest)

pub entry_shorter : (v : Version) (names : Names) (bytes : List ℕ) (e : Recorded × List ℕ) → entry_at v names bytes ≡ Some e → length e.1 < length bytes
entry_shorter v names bytes e h =
    let t = entry_taken v names bytes e h in
    omega (arith, text_some e.0, ap (length {A = ℕ}) t.0, length-append (entry_text e.0) e.1)

-- The entries of some bytes, with the bound on their number out of the way.

within_none : (n : ℕ) (v : Version) (names : Names) (bytes : List ℕ) → entry_at v names bytes ≡ None → entries_within n v names bytes ≡ stopped bytes
within_none zero v names bytes h = refl
within_none (suc n) v names bytes h = rw h refl

within_some : (n : ℕ) (v : Version) (names : Names) (bytes : List ℕ) (e : Recorded × List ℕ) → entry_at v names bytes ≡ Some e →
    entries_within (suc n) v names bytes ≡ with_first e.0 (entries_within n v (names_after names e.0) e.1)
within_some n v names bytes e h = rw h refl

within_empty : (n : ℕ) (v : Version) (names : Names) (bytes : List ℕ) → length bytes ≤ 0 → entries_within n v names bytes ≡ stopped bytes
within_empty n v names bytes empty = go (entry_at v names bytes) refl
  where
    go : (r : Option (Recorded × List ℕ)) → entry_at v names bytes ≡ r → entries_within n v names bytes ≡ stopped bytes
    go None h = within_none n v names bytes h
    go (Some e) h = absurd (omega (arith, entry_shorter v names bytes e h))

-- it makes no difference how many entries are allowed, if they are as many as there are bytes
within_same : (n m : ℕ) (v : Version) (names : Names) (bytes : List ℕ) → length bytes ≤ n → length bytes ≤ m →
    entries_within n v names bytes ≡ entries_within m v names bytes
within_same zero m v names bytes few enough = sym (within_empty m v names bytes few)
within_same (suc n) zero v names bytes few enough = within_empty (suc n) v names bytes enough
within_same (suc n) (suc m) v names bytes few enough = go (entry_at v names bytes) refl (within_same n m v)
  where
    go : (r : Option (Recorded × List ℕ)) → entry_at v names bytes ≡ r →
        ((now : Names) (rest : List ℕ) → length rest ≤ n → length rest ≤ m → entries_within n v now rest ≡ entries_within m v now rest) →
        entries_within (suc n) v names bytes ≡ entries_within (suc m) v names bytes
    go None h same = within_none (suc n) v names bytes h ∙ sym (within_none (suc m) v names bytes h)
    go (Some e) h same =
        let less = entry_shorter v names bytes e h in
        within_some n v names bytes e h ∙ ap (λ (r : Read). with_first e.0 r) (same (names_after names e.0) e.1 (omega arith) (omega arith))
        ∙ sym (within_some m v names bytes e h)

pub entries_none : (v : Version) (names : Names) (bytes : List ℕ) → entry_at v names bytes ≡ None → entries_from v names bytes ≡ stopped bytes
unfolding entries_from
entries_none v names bytes h = within_none (length bytes) v names bytes h

pub entries_some : (v : Version) (names : Names) (bytes : List ℕ) (e : Recorded × List ℕ) → entry_at v names bytes ≡ Some e →
    entries_from v names bytes ≡ with_first e.0 (entries_from v (names_after names e.0) e.1)
unfolding entries_from
entries_some v names bytes e h =
    let less = entry_shorter v names bytes e h in
    within_same (length bytes) (suc (length bytes)) v names bytes (omega arith) (omega arith) ∙ within_some (length bytes) v names bytes e h
    ∙ ap (λ (r : Read). with_first e.0 r) (within_same (length bytes) (length e.1) v (names_after names e.0) e.1 (omega arith) (omega arith))

-- The bytes are the entries and what is left, and the entries may stand.

pub record IsParted (v : Version) (names : Names) (bytes : List ℕ) (r : Read) : Type 0 where
  pub parts : bytes ≡ entries_text r.entries ++ r.left
  pub fit : FitAll v names r.entries

within_parted : (n : ℕ) (v : Version) (names : Names) (bytes : List ℕ) → IsParted v names bytes (entries_within n v names bytes)
within_parted zero v names bytes = record { parts = refl; fit = tt }
within_parted (suc n) v names bytes = go (entry_at v names bytes) refl (within_parted n v)
  where
    go : (r : Option (Recorded × List ℕ)) → entry_at v names bytes ≡ r → ((now : Names) (rest : List ℕ) → IsParted v now rest (entries_within n v now rest)) →
        IsParted v names bytes (entries_within (suc n) v names bytes)
    go None h again = subst (λ (r : Read). IsParted v names bytes r) (sym (within_none (suc n) v names bytes h)) record { parts = refl; fit = tt }
    go (Some e) h again =
        let t = entry_taken v names bytes e h in
        let after_front = again (names_after names e.0) e.1 in
        let r : Read = entries_within n v (names_after names e.0) e.1 in
        subst (λ (r : Read). IsParted v names bytes r) (sym (within_some n v names bytes e h))
        record {
          parts = t.0 ∙ ap (λ (l : List ℕ). entry_text e.0 ++ l) after_front.parts ∙ sym (append_assoc (entry_text e.0) (entries_text r.entries) r.left);
          fit = (t.1, after_front.fit);
        }

pub entries_parted : (v : Version) (names : Names) (bytes : List ℕ) → IsParted v names bytes (entries_from v names bytes)
unfolding entries_from
entries_parted v names bytes = within_parted (length bytes) v names bytes

-- no more is left than there was
pub left_few : (v : Version) (names : Names) (bytes : List ℕ) → length ((entries_from v names bytes).left) ≤ length bytes
left_few v names bytes =
    let r : Read = entries_from v names bytes in
    omega (arith, ap (length {A = ℕ}) (entries_parted v names bytes).parts, length-append (entries_text r.entries) r.left)

-- Reading goes on after entries that may stand.

abbrev with_front : List Recorded → Read → Read
with_front entries r = record { entries = entries ++ r.entries; left = r.left }

pub goes_on : (v : Version) (entries : List Recorded) (names : Names) (rest : List ℕ) → FitAll v names entries →
    entries_from v names (entries_text entries ++ rest) ≡ with_front entries (entries_from v (names_after_all names entries) rest)
goes_on v [] names rest fit = refl
goes_on v (e ∷ entries) names rest fit =
    let left : List ℕ = entries_text entries ++ rest in
    ap (entries_from v names) (append_assoc (entry_text e) (entries_text entries) rest)
    ∙ entries_some v names (entry_text e ++ left) (e, left) (entry_again v names e left fit.0)
    ∙ ap (λ (r : Read). with_first e r) (goes_on v entries (names_after names e) rest fit.1)

-- The header.

pub headed_is : (v : Version) (rest : List ℕ) → headed (header_of v ++ rest) ≡ Some (v, rest)
headed_is One rest = refl
headed_is Two rest = refl

abbrev after_header : Version → List ℕ → Option (Version × List ℕ)
after_header v bytes = after_front (header_of v) bytes >>= λ rest. Some (v, rest)

header_taken : (v : Version) (bytes : List ℕ) (h : Version × List ℕ) → after_header v bytes ≡ Some h → bytes ≡ header_of h.0 ++ h.1
header_taken v bytes h is =
    let s = bind_some (after_front (header_of v) bytes) (λ (rest : List ℕ). Some (v, rest)) h is in
    subst (λ (y : Version × List ℕ). bytes ≡ header_of y.0 ++ y.1) (some_is s.2) (after_is (header_of v) bytes s.0 s.1)

pub headed_taken : (bytes : List ℕ) (h : Version × List ℕ) → headed bytes ≡ Some h → bytes ≡ header_of h.0 ++ h.1
headed_taken bytes h is = go (or_else_some (after_header One bytes) (after_header Two bytes) h is)
  where
    go : (after_header One bytes ≡ Some h) ⊎ (after_header Two bytes ≡ Some h) → bytes ≡ header_of h.0 ++ h.1
    go (inl p) = header_taken One bytes h p
    go (inr p) = header_taken Two bytes h p

-- The laws.

abbrev longest_after : Version → List ℕ → Option (Version × List ℕ) → Read
longest_after v bytes h = read_after no_names (header_of v ++ bytes) h

pub stream_is : (v : Version) (bytes : List ℕ) → stream_entries (header_of v ++ bytes) ≡ (entries_from v no_names bytes).entries
stream_is v bytes = ap (λ (h : Option (Version × List ℕ)). (longest_after v bytes h).entries) (headed_is v bytes)

bad_is : (v : Version) (bytes : List ℕ) → bad_place (header_of v ++ bytes) ≡ offset_before (length (header_of v ++ bytes)) ((entries_from v no_names bytes).left)
bad_is v bytes = ap (bad_after no_names (length (header_of v ++ bytes))) (headed_is v bytes)

header_cancels : (v : Version) (xs ys : List ℕ) → header_of v ++ xs ≡ header_of v ++ ys → xs ≡ ys
header_cancels v xs ys same = ap (λ (h : Version × List ℕ). h.1) (some_is (sym (headed_is v xs) ∙ ap headed same ∙ headed_is v ys))

stream_longest : (v : Version) (bytes : List ℕ) → ReadsLongest v (header_of v ++ bytes)
stream_longest v bytes =
    let r : Read = entries_from v no_names bytes in
    let p = entries_parted v no_names bytes in
    record {
      left = r.left;
      entries =
          record {
            parts = ap (λ (l : List ℕ). header_of v ++ l) p.parts ∙ ap (λ (l : List Recorded). header_of v ++ (entries_text l ++ r.left)) (sym (stream_is v bytes));
            fit = subst (FitAll v no_names) (sym (stream_is v bytes)) p.fit;
            longest =
                λ others rest fit same. (
                  (entries_from v (names_after_all no_names others) rest).entries,
                  stream_is v bytes ∙ ap (λ (l : List ℕ). (entries_from v no_names l).entries) (header_cancels v bytes (entries_text others ++ rest) same)
                      ∙ ap (λ (q : Read). q.entries) (goes_on v others no_names rest fit),
                );
          };
      bad = bad_is v bytes;
    }

pub streams_are_longest : StreamsAreLongest
streams_are_longest v bytes rest h = subst (ReadsLongest v) (sym h) (stream_longest v rest)

pub header_is_needed : HeaderIsNeeded
header_is_needed bytes none = go (headed bytes) refl
  where
    go : (h : Option (Version × List ℕ)) → headed bytes ≡ h → (stream_entries bytes ≡ []) × (bad_place bytes ≡ Some 0)
    go None is = (ap (λ (r : Option (Version × List ℕ)). (read_after no_names bytes r).entries) is, ap (bad_after no_names (length bytes)) is)
    go (Some h) is = absurd (none h.0 h.1 (headed_taken bytes h is))

pub nothing_left : (v : Version) (names : Names) → entries_from v names [] ≡ stopped []
unfolding entries_from
nothing_left v names = refl

pub spelled_streams_are_read : SpelledStreamsAreRead
spelled_streams_are_read v entries fit =
    let text : List ℕ = entries_text entries in
    let read : entries_from v no_names text ≡ record { entries = entries; left = [] } =
    ap (entries_from v no_names) (sym (append-nil text)) ∙ goes_on v entries no_names [] fit
    ∙ ap (λ (r : Read). with_front entries r) (nothing_left v (names_after_all no_names entries))
    ∙ ap (λ (l : List Recorded). record { entries = l; left = [] }) (append-nil entries) in (
      stream_is v text ∙ ap (λ (r : Read). r.entries) read,
      bad_is v text ∙ ap (λ (r : Read). offset_before (length (header_of v ++ text)) r.left) read,
    )

pub not_end : (v : Version) (names : Names) (session : List ℕ) (what : What) → FitsWhat v names session what → is_end what ≡ false
not_end v names session (Open s) h = refl
not_end v names session (Bytes s piece) h = refl
not_end v names session (Shut s) h = refl
not_end v names session (Guest piece) h = refl
not_end v names session (Step ns) h = refl
not_end v names session End h = absurd h

pub none_ends : (v : Version) (entries : List Recorded) (names : Names) → FitAll v names entries →
    AllByRecursion (λ (g : Given). is_end g.input.what ≡ false) (given_from names entries)
none_ends v [] names fit = tt
none_ends v (e ∷ entries) names fit = (not_end v names e.session e.input.what fit.0.1, none_ends v entries (names_after names e) fit.1)

text_few : (entries : List Recorded) → length entries ≤ length (entries_text entries)
text_few [] = omega arith
text_few (e ∷ entries) = omega (arith, text_some e, text_few entries, length-append (entry_text e) (entries_text entries))

pub given_length : (entries : List Recorded) (names : Names) → length (given_from names entries) ≡ length entries
given_length [] names = refl
given_length (e ∷ entries) names = ap (λ (n : ℕ). suc n) (given_length entries (names_after names e))

few_after : (bytes : List ℕ) (r : Option (Version × List ℕ)) (size : ℕ) → ((h : Version × List ℕ) → r ≡ Some h → length h.1 ≤ size) →
    AllByRecursion (λ (g : Given). is_end g.input.what ≡ false) (given_from no_names (read_after no_names bytes r).entries)
    × (length (given_from no_names (read_after no_names bytes r).entries) ≤ size)
few_after bytes None size h = (tt, omega arith)
few_after bytes (Some s) size h =
    let r : Read = entries_from s.0 no_names s.1 in
    let p = entries_parted s.0 no_names s.1 in (
      none_ends s.0 r.entries no_names p.fit,
      omega (
        arith,
        h s refl,
        given_length r.entries no_names,
        text_few r.entries,
        ap (length {A = ℕ}) p.parts,
        length-append
            (entries_text r.entries) r.left,
      ),
    )

pub inputs_are_few : InputsAreFew
inputs_are_few bytes =
    few_after bytes (headed bytes) (length bytes)
    (λ h is. omega (arith, ap (length {A = ℕ}) (headed_taken bytes h is), length-append (header_of h.0) h.1))
