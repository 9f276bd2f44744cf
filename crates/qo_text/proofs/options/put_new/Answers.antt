-- An option goes where its key is not, before the first that is no earlier.
use Rattle.std.proofs.Common.{◌≡◌, List, Some, true, false, sym, ap, ◌∙◌, arith}
use Rattle.std.specs.List.{insert}
use Rattle.std.specs.Prelude.{slice_get}
use Rattle.qo_text.specs.Options.{is_upto}
use Rattle.qo_text.proofs.OptionLemmas.{Pair, at, has_key, place-le, put-among, put-there}
use Rattle.qo_text.proofs.options.put_new.Goals as goal

pub returns-then-is_at : goal.returns-then-is_at
returns-then-is_at c =
    let found = c.args.found.now.items in
    let place : c.place_of-place.result ≡ at c.args.key found =
    c.place_of-place.ensures ∙ ap (λ (l : List Pair). at c.as_str.result.now l) c.as_slice.ensures.value ∙ ap (λ key. at key found) c.as_str.ensures in
    let there : has_key c.args.key (slice_get found (at c.args.key found)) ≡ true =
    ap (λ n. has_key c.args.key (slice_get found n)) (sym place)
    ∙ ap (λ key. has_key key (slice_get found c.place_of-place.result)) (sym c.as_str-2.ensures)
    ∙ ap (λ (l : List Pair). has_key c.as_str-2.result.now (slice_get l c.place_of-place.result)) (sym c.as_slice-2.ensures.value) ∙ sym c.is_at.ensures
    ∙ c.if-is_at.true in
    put-there c.args.key c.args.value found there

pub insert-requires : goal.insert-requires
insert-requires c =
    let found = c.args.found.now.items in
    let place : c.place_of-place.result ≡ at c.args.key found =
    c.place_of-place.ensures ∙ ap (λ (l : List Pair). at c.as_str.result.now l) c.as_slice.ensures.value ∙ ap (λ key. at key found) c.as_str.ensures in
    let le = place-le (is_upto c.args.key) found in
    omega (arith, le, place, c.args.found.now.ok.0)

pub returns : goal.returns
returns c =
    let found = c.args.found.now.items in
    let place : c.place_of-place.result ≡ at c.args.key found =
    c.place_of-place.ensures ∙ ap (λ (l : List Pair). at c.as_str.result.now l) c.as_slice.ensures.value ∙ ap (λ key. at key found) c.as_str.ensures in
    let absent : has_key c.args.key (slice_get found (at c.args.key found)) ≡ false =
    ap (λ n. has_key c.args.key (slice_get found n)) (sym place)
    ∙ ap (λ key. has_key key (slice_get found c.place_of-place.result)) (sym c.as_str-2.ensures)
    ∙ ap (λ (l : List Pair). has_key c.as_str-2.result.now (slice_get l c.place_of-place.result)) (sym c.as_slice-2.ensures.value) ∙ sym c.is_at.ensures
    ∙ c.if-is_at.false in
    put-among c.args.key c.args.value found absent ∙ ap (λ n. Some (insert found n (c.args.key, c.args.value))) (sym place)
    ∙ ap (λ (l : List Pair). Some l) (sym c.in_ok-insert.ensures.items)
