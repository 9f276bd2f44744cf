use Rattle.std.proofs.Common.{rules, ◌≡◌, ◌++◌, ◌∷◌, [], ℕ, List, string_bytes, Some, None, refl, sym, ap, ◌∙◌, arith, append_assoc}
use Rattle.std.proofs.lemmas.Str.{encode_ascii}
use Rattle.std.proofs.lemmas.Str.Pattern.{split_once_first, strip_prefix_char}
use Rattle.qo_text.specs.Joined.{first_with}
use Rattle.qo_text.specs.Options.{parts}
use Rattle.qo_text.proofs.PartLemmas.{begun, cut_first, free_all, last, one, two}
use Rattle.qo_text.proofs.options.parts.Goals as goal

pub loop-front-init : goal.loop-front-init
loop-front-init c = (c.utf8.text, rw (c.new-found.ensures.items, c.new-part.ensures.bytes) (begun c.args.text.now))

pub loop-front-preserved-in-Some-strip_prefix : goal.loop-front-preserved-in-Some-strip_prefix
loop-front-preserved-in-Some-strip_prefix c =
    let first = split_once_first 44 c.loop-front.rest.now (Some (c.in-Some.front, c.in-Some.after)) c.in-Some.ensures.cases (omega arith) in
    let cut = cut_first c.loop-front.rest.now first.0 in
    let strip : c.in-Some.after.now ≡ 44 ∷ c.in-Some-strip_prefix.more.now = strip_prefix_char 44 c.in-Some.after.now (Some c.in-Some-strip_prefix.more) c.in-Some-strip_prefix.ensures.cases (omega arith) in
    let whole : c.loop-front.rest.now ≡ c.in-Some.front.now ++ 44 ∷ 44 ∷ c.in-Some-strip_prefix.more.now =
    cut.1 ∙ rw (← first.1, ← first.2, strip) refl in
    let spared : string_bytes c.push.new.self ≡ (string_bytes c.loop-front.part ++ c.in-Some.front.now) ++ 44 ∷ [] =
    c.in_ok-push.ensures.bytes ∙ ap (λ l. string_bytes c.push_str.new.self ++ l) (encode_ascii 44 (omega arith)) ∙ ap (λ l. l ++ 44 ∷ []) c.in_ok-push_str.ensures.bytes in
    let turn : first_with (string_bytes c.push.new.self) (parts c.in-Some-strip_prefix.more.now) ≡ first_with (string_bytes c.loop-front.part) (parts c.loop-front.rest.now) =
    ap (λ l. first_with l (parts c.in-Some-strip_prefix.more.now)) spared
    ∙ sym (two (string_bytes c.loop-front.part) c.in-Some.front.now c.in-Some-strip_prefix.more.now (rw first.1 cut.0))
    ∙ ap (λ l. first_with (string_bytes c.loop-front.part) (parts l)) (sym whole) in
    (search rules, ap (λ (l : List (List ℕ)). c.loop-front.found.items ++ l) turn ∙ c.loop-front.invariant.1)

pub loop-front-preserved : goal.loop-front-preserved
loop-front-preserved c =
    let first = split_once_first 44 c.loop-front.rest.now (Some (c.in-Some.front, c.in-Some.after)) c.in-Some.ensures.cases (omega arith) in
    let cut = cut_first c.loop-front.rest.now first.0 in
    let strip = strip_prefix_char 44 c.in-Some.after.now None c.in_default-strip_prefix.ensures.cases (omega arith) in
    let whole : c.loop-front.rest.now ≡ c.in-Some.front.now ++ 44 ∷ c.in-Some.after.now = cut.1 ∙ rw (← first.1, ← first.2) refl in
    let spared : c.from_string.result ≡ string_bytes c.loop-front.part ++ c.in-Some.front.now =
    c.from_string.ensures ∙ ap string_bytes c.replace-whole.ensures.value ∙ c.in_ok-push_str.ensures.bytes in
    let empty : string_bytes c.replace-whole.new.dest ≡ [] = ap string_bytes c.replace-whole.ensures.after ∙ c.new.ensures.bytes in
    let turn : (string_bytes c.loop-front.part ++ c.in-Some.front.now) ∷ parts c.in-Some.after.now ≡ first_with (string_bytes c.loop-front.part) (parts c.loop-front.rest.now) =
    sym (one (string_bytes c.loop-front.part) c.in-Some.front.now c.in-Some.after.now (rw first.1 cut.0) strip)
    ∙ ap (λ l. first_with (string_bytes c.loop-front.part) (parts l)) (sym whole) in
    let done : List (List ℕ) = c.loop-front.found.items in
    let text : List ℕ = c.from_string.result in (
      search rules,
      ap (λ (l : List (List ℕ)). l ++ first_with (string_bytes c.replace-whole.new.dest) (parts c.in-Some.after.now)) c.in_ok-push-2.ensures.items
          ∙ ap (λ l. (done ++ text ∷ []) ++ first_with l (parts c.in-Some.after.now)) empty
          ∙ ap (λ (l : List (List ℕ)). (done ++ text ∷ []) ++ l) (begun c.in-Some.after.now)
          ∙ append_assoc done (text ∷ []) (parts c.in-Some.after.now)
          ∙ ap (λ (l : List ℕ). done ++ l ∷ parts c.in-Some.after.now) spared
          ∙ ap (λ (l : List (List ℕ)). done ++ l) turn ∙ c.loop-front.invariant.1,
    )

pub returns : goal.returns
returns c =
    let none = split_once_first 44 c.loop-front.rest.now None c.in_default.ensures.cases (omega arith) in
    let done : List (List ℕ) = c.loop-front.found.items in
    let spared : c.from_string-2.result ≡ string_bytes c.loop-front.part ++ c.loop-front.rest.now = c.from_string-2.ensures ∙ c.in_ok-push_str-2.ensures.bytes in
    c.in_ok-push-3.ensures.items ∙ ap (λ (l : List ℕ). done ++ l ∷ []) spared
    ∙ ap (λ (l : List (List ℕ)). done ++ l) (sym (last (string_bytes c.loop-front.part) c.loop-front.rest.now (free_all 44 c.loop-front.rest.now none)))
    ∙ c.loop-front.invariant.1
