-- The lines of events, piece by piece.
use Rattle.std.proofs.Common.{◌≡◌, ℕ, Bool, true, false, List, [], ◌∷◌, ◌++◌, Option, None, Some, refl, sym, ◌∙◌, ap, append_assoc, IsUtf8}
use Rattle.std.specs.Prelude.{codes, decimal}
use Rattle.std.specs.List.{list_all}
use Rattle.std.specs.Str.{IsAscii}
use Rattle.std.proofs.lemmas.Str.{IsUtf8-append, IsUtf8-from_ascii, IsAscii-append}
use Rattle.json.specs.Print.{quoted}
use Rattle.serde_json.proofs.OnLiterals.{serde_json_on_literals}
use Rattle.serde_json.specs.Written.{compact_text}
use Rattle.qo_causes.specs.declared.inputs.Moment.{Moment}
use Rattle.qo_replies.specs.Events.{before_path, before_reason, caused_event, device_event, device_name, ending, event_line, of_device, plain_event}
use Rattle.qo_replies.specs.Json.{ascii, json}
use Rattle.qo_replies.specs.PlainBytes.{is_plain_byte}
use Rattle.qo_replies.specs.Replies.{line_end}
use Rattle.qo_replies.proofs.AsciiLemmas.{ascii-plain}
use Rattle.qo_replies.proofs.QuoteLemmas.{ascii-append, ascii-before, escape-plain, plain-ascii, small-ascii}

-- what stands between the texts of an ending
abbrev pub before_event : List ℕ
before_event = codes "\"event\":\""

abbrev pub before_micros : List ℕ
before_micros = codes "\",\"timestamp\":{\"microseconds\":"

abbrev pub before_seconds : List ℕ
before_seconds = codes ",\"seconds\":"

abbrev pub after_seconds : List ℕ
after_seconds = codes "}}"

-- an ending as it is written
abbrev pub pieces : List ℕ → Moment → List ℕ
pieces name at = before_event ++ (name ++ (before_micros ++ (decimal at.micros ++ (before_seconds ++ (decimal at.seconds ++ after_seconds)))))

pub ending-pieces : (name : List ℕ) (at : Moment) → list_all is_plain_byte name ≡ true → ending name at ≡ pieces name at
unfolding ending serde_json_on_literals
ending-pieces name at h =
    rw (escape-plain name h)
    (ap (λ t. before_event ++ t) (append_assoc name (34 ∷ []) _)
    ∙ ap (λ t. before_event ++ (name ++ (before_micros ++ t))) (append_assoc (decimal at.micros) (before_seconds ++ (decimal at.seconds ++ 125 ∷ [])) (125 ∷ [])
    ∙ ap (λ t. decimal at.micros ++ (before_seconds ++ t)) (append_assoc (decimal at.seconds) (125 ∷ []) (125 ∷ []))))

pub ending-ascii : (name : List ℕ) (at : Moment) → list_all is_plain_byte name ≡ true → IsAscii (decimal at.micros) → IsAscii (decimal at.seconds)
    → IsAscii (ending name at)
ending-ascii name at h micros seconds =
    rw (ending-pieces name at h)
    (IsAscii-append before_event _ (small-ascii before_event refl)
    (IsAscii-append name _ (plain-ascii name h)
    (IsAscii-append before_micros _ (small-ascii before_micros refl)
    (IsAscii-append (decimal at.micros) _ micros
    (IsAscii-append before_seconds _ (small-ascii before_seconds refl)
    (IsAscii-append (decimal at.seconds) after_seconds seconds (small-ascii after_seconds refl)))))))

-- an event without data
pub simple-text : (name : List ℕ) (at : Moment) → IsAscii (ending name at) → json (plain_event at name) ≡ 123 ∷ ending name at
unfolding json ending
simple-text name at h = ascii-plain (123 ∷ ending name at) (IsAscii-append (123 ∷ []) (ending name at) (small-ascii (123 ∷ []) refl) h)

-- what stands between the data of an event and its ending
abbrev pub after_data : List ℕ
after_data = codes "},"

-- an event with data: a text, a text in quotes and the ending
abbrev told : List ℕ → List ℕ → List ℕ → Moment → List ℕ
told before last name at = before ++ (quoted last ++ (after_data ++ ending name at))

told-ascii : (before last name : List ℕ) (at : Moment) → IsUtf8 before → IsUtf8 (quoted last) → IsAscii (ending name at)
    → ascii (told before last name at) ≡ ascii before ++ (ascii (quoted last) ++ (after_data ++ ending name at))
told-ascii before last name at first second h =
    rw (
      ascii-append before (quoted last ++ (after_data ++ ending name at)) first,
      ascii-append (quoted last) (after_data ++ ending name at) second,
      ascii-plain (after_data ++ ending name at) (IsAscii-append after_data (ending name at) (small-ascii after_data refl) h),
    ) refl

caused-told : (guest : Bool) (reason name : List ℕ) (at : Moment) → compact_text (caused_event at guest reason name) ≡ told (before_reason guest) reason name at
unfolding ending serde_json_on_literals
caused-told true reason name at = ap (λ t. before_reason true ++ t) (append_assoc (quoted reason) (125 ∷ []) (44 ∷ ending name at))
caused-told false reason name at = ap (λ t. before_reason false ++ t) (append_assoc (quoted reason) (125 ∷ []) (44 ∷ ending name at))

device-told : (id : Option (List ℕ)) (path name : List ℕ) (at : Moment) → compact_text (device_event at id path name) ≡ told (before_path id) path name at
unfolding ending serde_json_on_literals
device-told None path name at = ap (λ t. before_path None ++ t) (append_assoc (quoted path) (125 ∷ []) (44 ∷ ending name at))
device-told (Some id) path name at =
    ap (λ t. codes "{\"data\":{\"device\":" ++ t) (append_assoc (quoted id) (codes ",\"path\":" ++ (quoted path ++ 125 ∷ [])) (44 ∷ ending name at)
    ∙ ap (λ t. quoted id ++ (codes ",\"path\":" ++ t)) (append_assoc (quoted path) (125 ∷ []) (44 ∷ ending name at))
    ∙ sym (append_assoc (quoted id) (codes ",\"path\":") (told [] path name at)))

pub caused-text : (guest : Bool) (reason name : List ℕ) (at : Moment) → IsUtf8 (quoted reason) → IsAscii (ending name at)
    → json (caused_event at guest reason name) ≡ before_reason guest ++ (ascii (quoted reason) ++ (after_data ++ ending name at))
unfolding json
caused-text guest reason name at spelled h =
    rw (caused-told guest reason name at)
    (told-ascii (before_reason guest) reason name at (IsUtf8-from_ascii _ (reason-ascii guest)) spelled h
    ∙ rw (ascii-plain (before_reason guest) (reason-ascii guest)) refl)
  where
    reason-ascii : (guest : Bool) → IsAscii (before_reason guest)
    reason-ascii true = small-ascii (before_reason true) refl
    reason-ascii false = small-ascii (before_reason false) refl

pub device-text : (id : Option (List ℕ)) (path name : List ℕ) (at : Moment) → IsUtf8 (before_path id) → IsUtf8 (quoted path) → IsAscii (ending name at)
    → json (device_event at id path name) ≡ ascii (before_path id) ++ (ascii (quoted path) ++ (after_data ++ ending name at))
unfolding json
device-text id path name at first second h = rw (device-told id path name at) (told-ascii (before_path id) path name at first second h)

-- the line of an event of a device
pub device-line : (deleted : Bool) (id : Option (List ℕ)) (path : List ℕ) (at : Moment)
    → event_line at (of_device deleted id path) ≡ json (device_event at id path (device_name deleted)) ++ line_end
unfolding event_line
device-line true id path at = refl
device-line false id path at = refl

-- what stands before the path
pub before_path-none : ascii (before_path None) ≡ before_path None
before_path-none = ascii-plain (before_path None) (small-ascii (before_path None) refl)

pub none-spelled : IsUtf8 (before_path None)
none-spelled = IsUtf8-from_ascii (before_path None) (small-ascii (before_path None) refl)

abbrev before_id : List ℕ
before_id = codes "{\"data\":{\"device\":"

abbrev after_id : List ℕ
after_id = codes ",\"path\":"

pub before_path-some : (id : List ℕ) → IsUtf8 (quoted id) → ascii (before_path (Some id)) ≡ before_id ++ (ascii (quoted id) ++ after_id)
before_path-some id h =
    rw (
      ascii-before before_id (quoted id ++ after_id) (small-ascii before_id refl),
      ascii-append (quoted id) after_id h,
      ascii-plain after_id (small-ascii after_id refl),
    ) refl

pub some-spelled : (id : List ℕ) → IsUtf8 (quoted id) → IsUtf8 (before_path (Some id))
some-spelled id h =
    IsUtf8-append before_id _ (IsUtf8-from_ascii before_id (small-ascii before_id refl))
    (IsUtf8-append (quoted id) after_id h (IsUtf8-from_ascii after_id (small-ascii after_id refl)))

-- pieces, one after another
pub ended : (old a b c d end : List ℕ) → (((old ++ a) ++ b) ++ c) ++ (d ++ end) ≡ old ++ ((a ++ (b ++ (c ++ d))) ++ end)
ended old a b c d end =
    append_assoc ((old ++ a) ++ b) c (d ++ end)
    ∙ append_assoc (old ++ a) b (c ++ (d ++ end))
    ∙ append_assoc old a (b ++ (c ++ (d ++ end)))
    ∙ ap (λ t. old ++ t) (sym (append_assoc a (b ++ (c ++ d)) end ∙ ap (λ t. a ++ t) (append_assoc b (c ++ d) end ∙ ap (λ t. b ++ t) (append_assoc c d end))))

pub pieces-more : (old a b c d e f g : List ℕ)
    → ((((((old ++ a) ++ b) ++ c) ++ d) ++ e) ++ f) ++ (g ++ line_end) ≡ old ++ ((a ++ (b ++ (c ++ (d ++ (e ++ (f ++ g)))))) ++ line_end)
pieces-more old a b c d e f g = simp append_assoc
