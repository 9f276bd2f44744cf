-- The text of a number is ASCII.
use Rattle.std.proofs.Common.{◌≡◌, false, rules, sym, ap, ◌∙◌, List, ℕ, ◌++◌, string_bytes, Result, Ok, Err, OnOk}
use Rattle.serde_json.specs.Data.{Data, number}
use Rattle.serde_json.specs.Find.{is_float}
use Rattle.serde_json.specs.View.{number_view, view}
use Rattle.serde_json.specs.declared.value.Value.{the_lemmas}
use Rattle.serde_json.specs.Written.{number_text}
use Rattle.qo_replies.specs.Json.{json}
use Rattle.qo_replies.proofs.AsciiLemmas.{ascii-plain}
use Rattle.qo_replies.proofs.written.push_json.Goals as goal

both : {T E P Q R : Type 0} (r : Result T E) → OnOk r P → OnOk r Q → (P → Q → R) → OnOk r R
both (Ok x) p q f = f p q
both (Err e) p q f = tt

pub returns-in-Number : goal.returns-in-Number
unfolding json
returns-in-Number c =
    let n = c.in-Number.number in
    let seen : view c.args.value.now ≡ number (number_view n) = rw c.in-Number.is (search (rules, the_lemmas)) in
    both c.push_any_number.result c.push_any_number.ensures.bytes c.push_any_number.ensures.spelled
    (λ bytes spelled whole.
    let none : is_float (number_view n) ≡ false = rw seen at whole in
    bytes none ∙ ap (λ (more : List ℕ). string_bytes c.args.text.now ++ more) (sym (ap json seen ∙ ascii-plain (number_text (number_view n)) (spelled none))))
