-- What the bytes that were taken say of the inputs that were given.
use Rattle.std.proofs.Common.{◌≡◌, ℕ, ◌+◌, ◌-◌, ◌≤◌, ◌<◌, List, [], ◌∷◌, ◌++◌, length, take, drop, refl, sym, ◌∙◌, ap}
use Rattle.std.proofs.Common.{arith, length-append, append_assoc, append-nil, ◌⊎◌, inl, inr, Option, None, Some, option_map}
use Rattle.std.proofs.Math.Seq.{take-append_seam}
use Rattle.std.proofs.lemmas.List.{append_cancel_right, length-take-le, take-append-drop, take-append-le}
use Rattle.std.specs.Io.KnownBytes.{prepend_known}
use Rattle.qo_causes.specs.Names.{Given, Names, no_names}
use Rattle.qo_record.proofs.ReadingLemmas.{none_some, some_is}
use Rattle.qo_record.proofs.RecordLemmas.{entries_parted, given_length, goes_on, headed_taken, nothing_left, stream_is}
use Rattle.qo_record.proofs.ReplayLemmas.{header_size}
use Rattle.qo_record.specs.Names.{header_of}
use Rattle.qo_record.specs.Record.{Read, entries_from, headed, read_after, stopped, stream_entries, stream_given}
use Rattle.qo_record.specs.Replays.{Gave, Progress, ahead_of, inputs_ahead, inputs_from, read_from, unread, with_front}
use Rattle.qo_record.specs.Spelling.{Recorded, entries_text, given_from, names_after, names_after_all}
use Rattle.qo_record.specs.declared.versions.Version.{Version}

-- a whole stream, read
abbrev pub stream_read : List ℕ → Read
stream_read bytes = read_after no_names bytes (headed bytes)

-- the inputs of entries are those of the first ones, and then those of the others
pub given_append : (xs ys : List Recorded) (names : Names) →
    given_from names (xs ++ ys) ≡ given_from names xs ++ given_from (names_after_all names xs) ys
given_append [] ys names = refl
given_append (x ∷ xs) ys names =
    ap (λ (l : List Given). record { input = x.input; names = names_after names x } ∷ l) (given_append xs ys (names_after names x))

-- how long a stream with entries is
after_size : (bytes : List ℕ) (r : Option (Version × List ℕ)) → headed bytes ≡ r → 0 < length ((read_after no_names bytes r).entries) →
    length bytes ≡ 7 + length (entries_text ((read_after no_names bytes r).entries)) + length ((read_after no_names bytes r).left)
after_size bytes None h some = absurd (omega (arith, some))
after_size bytes (Some s) h some =
    let r : Read = entries_from s.0 no_names s.1 in
    omega (
      arith,
      ap (length {A = ℕ}) (headed_taken bytes s h),
      header_size s.0,
      length-append (header_of s.0) s.1,
      ap (length {A = ℕ}) (entries_parted s.0 no_names s.1).parts,
      length-append (entries_text r.entries) r.left,
    )

stream_size : (bytes : List ℕ) → 0 < length ((stream_read bytes).entries) →
    length bytes ≡ 7 + length (entries_text ((stream_read bytes).entries)) + length ((stream_read bytes).left)
stream_size bytes some = after_size bytes (headed bytes) refl some

-- more bytes take no entry away
after_more : (bytes more : List ℕ) (r : Option (Version × List ℕ)) → headed bytes ≡ r →
    (others : List Recorded) × (stream_entries (bytes ++ more) ≡ (read_after no_names bytes r).entries ++ others)
after_more bytes more None h = (stream_entries (bytes ++ more), refl)
after_more bytes more (Some s) h =
    let v : Version = s.0 in
    let r : Read = entries_from v no_names s.1 in
    let p = entries_parted v no_names s.1 in
    let whole : bytes ++ more ≡ header_of v ++ (entries_text r.entries ++ (r.left ++ more)) =
    ap (λ (l : List ℕ). l ++ more) (headed_taken bytes s h) ∙ append_assoc (header_of v) s.1 more
    ∙ ap (λ (l : List ℕ). header_of v ++ (l ++ more)) p.parts
    ∙ ap (λ (l : List ℕ). header_of v ++ l) (append_assoc (entries_text r.entries) r.left more) in (
      (entries_from v (names_after_all no_names r.entries) (r.left ++ more)).entries,
      ap stream_entries whole ∙ stream_is v (entries_text r.entries ++ (r.left ++ more))
          ∙ ap (λ (q : Read). q.entries) (goes_on v r.entries no_names (r.left ++ more) p.fit),
    )

pub stream_more : (bytes more : List ℕ) → (others : List Recorded) × (stream_entries (bytes ++ more) ≡ stream_entries bytes ++ others)
stream_more bytes more = after_more bytes more (headed bytes) refl

-- of two fronts of one list the shorter is a front of the longer
front_of_front : (xs ys more last : List Given) → xs ++ last ≡ ys ++ more → length ys ≤ length xs → (others : List Given) × (xs ≡ ys ++ others)
front_of_front xs ys more last same few =
    let is : take (length ys) xs ≡ ys =
    sym (take-append-le (length ys) xs last few) ∙ ap (take (length ys)) same ∙ take-append_seam ys more in
    (drop (length ys) xs, sym (take-append-drop (length ys) xs) ∙ ap (λ (l : List Given). l ++ drop (length ys) xs) is)

no_more : (xs ys : List Recorded) → length (xs ++ ys) ≤ length xs → xs ++ ys ≡ xs
no_more xs [] few = append-nil xs
no_more xs (y ∷ ys) few = absurd (omega (arith, few, length-append xs (y ∷ ys)))

text_size : (t bytes : List ℕ) (entries : List Recorded) → stream_read bytes ≡ record { entries = entries; left = [] } → stream_entries t ≡ entries →
    0 < length entries → length bytes ≤ length t
text_size t bytes entries all same some =
    let whole : (stream_read bytes).entries ≡ entries = ap (λ (r : Read). r.entries) all in
    let size_t = stream_size t (omega (arith, some, ap (length {A = Recorded}) same)) in
    let size = stream_size bytes (omega (arith, some, ap (length {A = Recorded}) whole)) in
    let texts : entries_text (stream_entries t) ≡ entries_text ((stream_read bytes).entries) = ap entries_text (same ∙ sym whole) in
    omega (arith, size_t, size, ap (length {A = ℕ}) texts, ap (λ (r : Read). length r.left) all)

-- the inputs of a front that is shorter were given before the last
covered_by : (bytes t rest : List ℕ) (entries : List Recorded) (before last : List Given) → stream_read bytes ≡ record { entries = entries; left = [] } →
    bytes ≡ t ++ rest → (0 < length t → length t < length bytes) → given_from no_names entries ≡ before ++ last → length last ≤ 1 →
    (others : List Given) × (before ≡ stream_given t ++ others)
covered_by bytes t rest entries before last all split short parts single = go (order (length (stream_given t)) (length before))
  where
    front : List Recorded
    front = stream_entries t

    more : (others : List Recorded) × (stream_entries (t ++ rest) ≡ front ++ others)
    more = stream_more t rest

    entries_are : entries ≡ front ++ more.0
    entries_are = ap (λ (r : Read). r.entries) (sym all) ∙ ap stream_entries split ∙ more.1

    given_is : given_from no_names entries ≡ stream_given t ++ given_from (names_after_all no_names front) more.0
    given_is = ap (given_from no_names) entries_are ∙ given_append front more.0 no_names

    order : (a b : ℕ) → (a ≤ b) ⊎ (b < a)
    order a b = grind arith

    go : (length (stream_given t) ≤ length before) ⊎ (length before < length (stream_given t)) → (others : List Given) × (before ≡ stream_given t ++ others)
    go (inl few) =
        front_of_front before (stream_given t) (given_from (names_after_all no_names front) more.0) last (sym parts ∙ given_is) few
    go (inr many) =
        let size : length (front ++ more.0) ≡ length before + length last =
        ap (length {A = Recorded}) (sym entries_are) ∙ sym (given_length entries no_names) ∙ ap (length {A = Given}) parts ∙ length-append before last in
        let count : length (stream_given t) ≡ length front = given_length front no_names in
        let is : front ≡ entries = sym (entries_are ∙ no_more front more.0 (omega (arith, size, single, many, count))) in
        let some : 0 < length entries = omega (arith, many, count, ap (length {A = Recorded}) is) in
        let large : length bytes ≤ length t = text_size t bytes entries all is some in
        let least : 0 < length t = omega (arith, large, stream_size bytes (omega (arith, some, ap (λ (r : Read). length r.entries) all))) in
        absurd (omega (arith, large, short least))

-- the entries that end so far before the end of the bytes taken were given before the last
pub covered : (bytes buffered : List ℕ) (entries : List Recorded) (before last : List Given) → stream_read bytes ≡ record { entries = entries; left = [] } →
    length buffered < 65700 → given_from no_names entries ≡ before ++ last → length last ≤ 1 →
    (others : List Given) × (before ≡ stream_given (take (length (bytes ++ buffered) - 65700) (bytes ++ buffered)) ++ others)
covered bytes buffered entries before last all few parts single =
    let n : ℕ = length (bytes ++ buffered) - 65700 in
    let within : n ≤ length bytes = omega (arith, length-append bytes buffered, few) in
    let front : take n (bytes ++ buffered) ≡ take n bytes = take-append-le n bytes buffered within in
    let size : length (take n bytes) ≡ n = length-take-le n bytes within in
    let p = covered_by bytes (take n bytes) (drop n bytes) entries before last all (sym (take-append-drop n bytes)) (λ some. omega (
      arith,
      some,
      size,
      few,
      length-append bytes buffered,
    )) parts single in
    (p.0, p.1 ∙ ap (λ (l : List ℕ). stream_given l ++ p.0) (sym front))

-- What was given of a stream of which nothing was read before.

none_ahead : (version : Option Version) (names : Names) → read_from version names [] ≡ stopped []
none_ahead (Some v) names = nothing_left v names
none_ahead None names = refl

-- the bytes that were read are the entries that were given, and no more
pub given_whole : (p : Progress) (left_old left_new : Option (List ℕ)) (bytes : List ℕ) (entries : List Recorded) →
    Gave unread p left_old left_new bytes entries → stream_read bytes ≡ record { entries = entries; left = [] }
given_whole p left_old left_new bytes entries h =
    ap stream_read (sym (append-nil bytes)) ∙ h.gave [] ∙ ap (with_front entries) (none_ahead p.version p.names)
    ∙ ap (λ (l : List Recorded). record { entries = l; left = [] }) (append-nil entries)

-- their inputs are the first ones, with any bytes after them
pub given_first : (p : Progress) (left_old left_new : Option (List ℕ)) (bytes : List ℕ) (entries : List Recorded) (more : List ℕ) →
    Gave unread p left_old left_new bytes entries → stream_given (bytes ++ more) ≡ given_from no_names entries ++ inputs_from p.version p.names more
given_first p left_old left_new bytes entries more h =
    let rest : List Recorded = (read_from p.version p.names more).entries in
    ap (λ (r : Read). given_from no_names r.entries) (h.gave more) ∙ given_append entries rest no_names
    ∙ ap (λ (names : Names). given_from no_names entries ++ given_from names rest) (sym h.named)

-- the bytes that were taken stand at the front
pub taken_is : (p : Progress) (left_old left_new : Option (List ℕ)) (bytes : List ℕ) (entries : List Recorded) →
    Gave unread p left_old left_new bytes entries → left_old ≡ prepend_known (bytes ++ p.buffered) left_new
taken_is p left_old left_new bytes entries h = go left_old left_new h.took
  where
    go : (old new : Option (List ℕ)) → ahead_of [] old ≡ prepend_known bytes (ahead_of p.buffered new) → old ≡ prepend_known (bytes ++ p.buffered) new
    go None None e = refl
    go None (Some rest) e = absurd (none_some e)
    go (Some all) None e = absurd (none_some (sym e))
    go (Some all) (Some rest) e = e ∙ ap (λ (l : List ℕ). Some l) (sym (append_assoc bytes p.buffered rest))

-- what the inputs that are left say of those that were taken
pub record TookInputs (p : Progress) (all : List ℕ) (left : Option (List ℕ)) (entries : List Recorded) (taken : List Given) : Type 0 where
  pub rest : List Given
  pub left_is : inputs_ahead p left ≡ Some rest
  pub all_is : stream_given all ≡ taken ++ rest
  pub given_is : given_from no_names entries ≡ taken

pub took_inputs : (p : Progress) (all : List ℕ) (left : Option (List ℕ)) (bytes : List ℕ) (entries : List Recorded) (taken : List Given) →
    Gave unread p (Some all) left bytes entries → Some (stream_given all) ≡ option_map (λ (rest : List Given). taken ++ rest) (inputs_ahead p left) →
    TookInputs p all left entries taken
took_inputs p all None bytes entries taken h took = absurd (none_some (sym took))
took_inputs p all (Some more) bytes entries taken h took =
    let rest : List Given = inputs_from p.version p.names (p.buffered ++ more) in
    let given : List Given = given_from no_names entries in
    let split : stream_given all ≡ given ++ rest =
    ap stream_given (some_is h.took) ∙ given_first p (Some all) (Some more) bytes entries (p.buffered ++ more) h in
    let is : stream_given all ≡ taken ++ rest = some_is took in
    record { rest = rest; left_is = refl; all_is = is; given_is = append_cancel_right given taken rest (sym split ∙ is) }
