-- The entries of a demo record, written one after the other, and that they may stand.
use Rattle.std.proofs.Common.{◌≡◌, ℕ, zero, suc, ◌+◌, ◌-◌, ◌*◌, ◌%◌, ◌^◌, ◌<◌, ◌≤◌, Bool, true, false, if◌then◌else◌, ◌==◌}
use Rattle.std.proofs.Common.{List, [], ◌∷◌, ◌++◌, length, codes, decimal}
use Rattle.std.proofs.Common.{refl, sym, ◌∙◌, ap, subst, arith, append_assoc, length-append, Result, Ok, Err, OnOk}
use Rattle.std.proofs.Math.Nat.{mod-add-mod}
use Rattle.std.proofs.lemmas.Fmt.{decimal_digit, length-decimal-le}
use Rattle.qo_causes.specs.declared.inputs.What.{What}
use Rattle.qo_causes.specs.declared.inputs.What.TheVariants.{Open, Bytes, Guest, Step}
use Rattle.qo_causes.specs.Names.{Names, no_names}
use Rattle.qo_causes.specs.declared.inputs.Input.{Input}
use Rattle.qo_record.specs.Demo.{at_second, demo_bytes, demo_inputs, demo_start, demo_step, demo_steps, demo_what, drawn, line_of, next_number, number_text}
use Rattle.qo_record.specs.Demo.{numbered, numbered_all, plugging, resetting, unplugging, with_number}
use Rattle.qo_record.specs.Laws.{DemosAreRead, FirstDraw}
use Rattle.qo_record.specs.Names.{header_of, is_open}
use Rattle.qo_record.specs.Spelling.{FitAll, FitsPiece, FitsWhat, entries_text, entry_text, given_from, named_by}
use Rattle.qo_record.specs.declared.versions.Version.TheVariants.{One}
use Rattle.qo_record.proofs.RecordLemmas.{spelled_streams_are_read}

-- The next number, in two steps that are each cut to 64 bits.

pub next_is : (x : ℕ) → (x * 6364136223846793005 % 18446744073709551616 + 1442695040888963407) % 18446744073709551616 ≡ next_number x
unfolding next_number
next_is x = mod-add-mod (x * 6364136223846793005) 18446744073709551616 1442695040888963407

-- An entry, after what there is.

regrouped : (old word moment told : List ℕ) → (old ++ (word ++ (moment ++ 32 ∷ []))) ++ told ≡ old ++ (word ++ (moment ++ 32 ∷ told))
regrouped old word moment told = simp append_assoc

pub after_start : {E : Type 0} (r : Result Unit E) (old mid new word moment rest told : List ℕ) → mid ≡ old ++ (word ++ (moment ++ 32 ∷ [])) →
    told ≡ rest → OnOk r (new ≡ mid ++ told) → OnOk r (new ≡ old ++ (word ++ (moment ++ 32 ∷ rest)))
after_start (Ok u) old mid new word moment rest told start same put =
    put ∙ ap (λ (l : List ℕ). l ++ told) start ∙ regrouped old word moment told ∙ ap (λ (l : List ℕ). old ++ (word ++ (moment ++ 32 ∷ l))) same
after_start (Err e) old mid new word moment rest told start same put = tt

-- two parts that were put one after the other
pub put_twice : {E : Type 0} (r : Result Unit E) (old mid new xs ys : List ℕ) → mid ≡ old ++ xs → OnOk r (new ≡ mid ++ ys) → OnOk r (new ≡ old ++ (xs ++ ys))
put_twice (Ok u) old mid new xs ys first put = put ∙ ap (λ (l : List ℕ). l ++ ys) first ∙ append_assoc old xs ys
put_twice (Err e) old mid new xs ys first put = tt

-- the number of session 0, with what stands after it
pub session_zero : (rest : List ℕ) → 48 ∷ rest ≡ decimal 0 ++ rest
session_zero rest = ap (λ (l : List ℕ). l ++ rest) (sym (decimal_digit 0 (omega arith)))

-- the same entry by another name of its text
pub same_text : {E : Type 0} (r : Result Unit E) (new old : List ℕ) (second : ℕ) (text wanted : List ℕ) → text ≡ wanted →
    OnOk r (new ≡ old ++ entry_text (numbered (at_second second (Bytes 0 text)))) → OnOk r (new ≡ old ++ entry_text (numbered (at_second second (Bytes 0 wanted))))
same_text r new old second text wanted same put =
    subst (λ (l : List ℕ). OnOk r (new ≡ old ++ entry_text (numbered (at_second second (Bytes 0 l))))) same put

-- Steps, one after the other.

abbrev left_text : ℕ → ℕ → ℕ → List ℕ
left_text more x second = entries_text (numbered_all (demo_steps more x second))

-- the entries of two lists of inputs
numbered_append : (xs ys : List Input) → entries_text (numbered_all (xs ++ ys)) ≡ entries_text (numbered_all xs) ++ entries_text (numbered_all ys)
numbered_append [] ys = refl
numbered_append (x ∷ xs) ys =
    ap (λ (l : List ℕ). entry_text (numbered x) ++ l) (numbered_append xs ys)
    ∙ sym (append_assoc (entry_text (numbered x)) (entries_text (numbered_all xs)) (entries_text (numbered_all ys)))

pub none_written : (seed steps : ℕ) →
    (header_of One ++ entries_text (numbered_all demo_start)) ++ left_text (steps - 0) seed 1 ≡ demo_bytes seed steps
unfolding demo_bytes demo_inputs
none_written seed steps =
    let start : List ℕ = entries_text (numbered_all demo_start) in
    let all : steps - 0 ≡ steps = omega arith in
    ap (λ (n : ℕ). (header_of One ++ start) ++ left_text n seed 1) all
    ∙ append_assoc (header_of One) start (left_text steps seed 1)
    ∙ ap (λ (l : List ℕ). header_of One ++ l) (sym (numbered_append demo_start (demo_steps steps seed 1)))

pub one_written : (steps i j x y : ℕ) (before after whole : List ℕ) → i < steps → before ++ left_text (steps - i) x (i + 1) ≡ whole →
    j ≡ i → after ≡ before ++ entry_text (numbered (demo_step x (j + 1))) → y ≡ next_number (next_number x) → after ++ left_text (steps - (i + 1)) y (i + 1 + 1) ≡ whole
one_written steps i j x y before after whole within is same put drawn_twice =
    let more : ℕ = steps - (i + 1) in
    let count : steps - i ≡ suc more = omega arith in
    let last : List ℕ = left_text more (next_number (next_number x)) (i + 1 + 1) in
    ap (λ (n : ℕ). after ++ left_text more n (i + 1 + 1)) drawn_twice
    ∙ ap (λ (l : List ℕ). l ++ last) (put ∙ ap (λ (n : ℕ). before ++ entry_text (numbered (demo_step x (n + 1)))) same)
    ∙ append_assoc before (entry_text (numbered (demo_step x (i + 1)))) last
    ∙ ap (λ (n : ℕ). before ++ left_text n x (i + 1)) (sym count) ∙ is

-- The entries of a demo may stand.

-- it may stand, and the same sessions are open after it
record Stays (names : Names) (what : What) : Type 0 where
  fits : FitsWhat One names (number_text what) what
  same : named_by names (number_text what) what ≡ names

either : {names : Names} (b : Bool) (x y : What) → Stays names x → Stays names y → Stays names (if b then x else y)
either true x y p q = p
either false x y p q = q

sent : {names : Names} (piece : List ℕ) → is_open names 0 ≡ true → FitsPiece piece → Stays names (Bytes 0 piece)
sent piece stands fits = record { fits = ((omega arith, refl, stands), fits); same = refl }

written : {names : Names} (piece : List ℕ) → FitsPiece piece → Stays names (Guest piece)
written piece fits = record { fits = (refl, fits); same = refl }

gone : {names : Names} (ns : ℕ) → 1 ≤ ns → ns < 2 ^ 63 → Stays names (Step ns)
gone ns some few = record { fits = (refl, some, few); same = refl }

digit_size : (n : ℕ) → n < 8 → length (decimal n) ≤ 1
digit_size n few = length-decimal-le 1 n (omega arith) (omega arith) (omega arith)

number_fits : (before after : List ℕ) (n : ℕ) → n < 8 → 1 ≤ length before → length before + length after ≤ 60000 → FitsPiece (with_number before n after)
number_fits before after n few some size = (
  omega (arith, length-append (before ++ decimal n) after, length-append before (decimal n)),
  omega (arith, digit_size n few, length-append (before ++ decimal n) after, length-append before (decimal n)),
)

plugging_fits : (driver : List ℕ) (n : ℕ) → n < 8 → length driver ≤ 60000 → FitsPiece (plugging driver n)
plugging_fits driver n few size =
    let head : List ℕ = codes "{\"execute\":\"device_add\",\"arguments\":{\"driver\":\"" in
    let before : List ℕ = codes "\",\"id\":\"d" in
    let after : List ℕ = codes "\",\"slot\":" in
    let id : List ℕ = with_number before n after in
    let slot : List ℕ = with_number [] n (line_of (codes "}}")) in
    let id_size : length id ≤ 20 =
    omega (arith, digit_size n few, length-append (before ++ decimal n) after, length-append before (decimal n)) in
    let slot_size : length slot ≤ 4 = omega (arith, digit_size n few, length-append (decimal n) (line_of (codes "}}"))) in (
      omega (arith, length-append ((head ++ driver) ++ id) slot, length-append (head ++ driver) id, length-append head driver),
      omega (arith, size, id_size, slot_size, length-append ((head ++ driver) ++ id) slot, length-append (head ++ driver) id, length-append head driver),
    )

what_stays : (names : Names) (k n : ℕ) → n < 8 → is_open names 0 ≡ true → Stays names (demo_what k n)
what_stays names k n few stands =
    let uart : List ℕ = plugging (codes "slot-uart") n in
    let timer : List ℕ = plugging (codes "slot-timer") n in
    let gives : List ℕ → List ℕ = λ before. with_number before n (10 ∷ []) in
    let end : List ℕ = 10 ∷ [] in
    let writes : List ℕ = with_number (codes "write ") n (line_of (codes " 1 0x10")) in
    let del : List ℕ = codes "{\"execute\":\"device_del\",\"arguments\":{\"id\":\"d" in
    let poll : List ℕ = line_of (codes "poll") in
    let seven : What = if n == 0 then Bytes 0 resetting else Guest poll in
    let six : What = if k == 6 then Step (1000 * (n + 1)) else seven in
    let five : What = if k == 5 then Guest writes else six in
    let four : What = if k == 4 then Guest (gives (codes "nack ")) else five in
    let three : What = if k == 3 then Guest (gives (codes "ack ")) else four in
    let two : What = if k == 2 then Bytes 0 (unplugging n) else three in
    let one : What = if k == 1 then Bytes 0 timer else two in
    either (k == 0) (Bytes 0 uart) one (sent uart stands (plugging_fits (codes "slot-uart") n few (omega arith)))
    (either (k == 1) (Bytes 0 timer) two (sent timer stands (plugging_fits (codes "slot-timer") n few (omega arith)))
    (either (k == 2) (Bytes 0 (unplugging n)) three (sent (unplugging n) stands (number_fits del (line_of (codes "\"}}")) n few (omega arith) (omega arith)))
    (either (k == 3) (Guest (gives (codes "ack "))) four (written (gives (codes "ack ")) (number_fits (codes "ack ") end n few (omega arith) (omega arith)))
    (either (k == 4) (Guest (gives (codes "nack "))) five (written (gives (codes "nack ")) (number_fits (codes "nack ") end n few (omega arith) (omega arith)))
    (either (k == 5) (Guest writes) six (written writes (number_fits (codes "write ") (line_of (codes " 1 0x10")) n few (omega arith) (omega arith)))
    (either (k == 6) (Step (1000 * (n + 1))) seven (gone (1000 * (n + 1)) (omega arith) (omega arith))
    (either (n == 0) (Bytes 0 resetting) (Guest poll) (sent resetting stands (omega arith, omega arith)) (written poll (omega arith, omega arith)))))))))

below_eight : (n : ℕ) → n % 8 < 8
below_eight n = omega arith

steps_fit : (more x second : ℕ) (names : Names) → second + more < 2 ^ 63 → is_open names 0 ≡ true → FitAll One names (numbered_all (demo_steps more x second))
steps_fit zero x second names few stands = tt
steps_fit (suc more) x second names few stands =
    let y : ℕ = next_number (next_number x) in
    let s = what_stays names (drawn (next_number x) % 8) (drawn y % 8) (below_eight (drawn y)) stands in (
      ((omega arith, omega arith), s.fits),
      subst (λ (n : Names). FitAll One n (numbered_all (demo_steps more (next_number (next_number x)) (second + 1)))) (sym s.same)
          (steps_fit more (next_number (next_number x)) (second + 1) names (omega arith) stands),
    )

-- the names of the first version once session 0 has opened
abbrev zero_named : Names
zero_named = named_by no_names (decimal 0) (Open 0)

pub demo_fits : (seed steps : ℕ) → steps < 2 ^ 32 → FitAll One no_names (numbered_all (demo_inputs seed steps))
unfolding demo_inputs
demo_fits seed steps few = (
  ((omega arith, omega arith), (omega arith, refl, refl)),
  (((omega arith, omega arith), ((omega arith, refl, refl), (omega arith, omega arith))), steps_fit steps seed 1 zero_named (omega arith) refl),
)

pub demos_are_read : DemosAreRead
unfolding demo_bytes
demos_are_read seed steps few =
    let read = spelled_streams_are_read One (numbered_all (demo_inputs seed steps)) (demo_fits seed steps few) in
    record { entries = read.0; given = ap (given_from no_names) read.0; none = read.1 }

pub first_draw : FirstDraw
unfolding drawn next_number
first_draw = refl
