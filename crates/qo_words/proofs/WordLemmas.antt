-- A front of a text, in std's words and in those of the orders.
use Rattle.std.proofs.Common.{◌≡◌, ◌≢◌, Bool, true, false, ℕ, List, ◌∷◌, ◌++◌, codes, drop, length, refl, sym, ◌∙◌, ap, Option, None, Some, Bor, option_map}
use Rattle.std.proofs.lemmas.Slice.Eq.{bytes_eq-Decides}
use Rattle.std.specs.Bool.{Decides}
use Rattle.std.specs.Str.{bytes_eq}
use Rattle.std.specs.Option.{MatchOption}
use Rattle.std.specs.Str.Pattern.{FindsTextPrefix, LacksTextAt, StripsPrefix}
use Rattle.qo_record.specs.Reading.{after_front}
use Rattle.qo_words.specs.Words.{order}
use Rattle.qo_record.proofs.ReadingLemmas.{after_again, after_is}

-- there is nothing after a front that is not there
lacking : (front text : List ℕ) (r : Option (List ℕ)) → after_front front text ≡ r → LacksTextAt front text 0 → r ≡ None
lacking front text None is lacks = refl
lacking front text (Some rest) is lacks = absurd (lacks rest (after_is front text rest is))

-- what is after a front that is there
found : (front text rest : List ℕ) (n : ℕ) → n ≡ length front → text ≡ front ++ drop n text → rest ≡ drop n text → after_front front text ≡ Some rest
found front text rest n size parts is = ap (after_front front) parts ∙ after_again front (drop n text) ∙ ap (λ (l : List ℕ). Some l) (sym is)

-- std's clause of a text whose front is taken off
abbrev Strips : List ℕ → List ℕ → Option (Bor (List ℕ)) → Type 0
Strips front text r = MatchOption r (FindsTextPrefix front text None) (λ x. StripsPrefix (FindsTextPrefix front) text x.now)

pub after_strips : (front text : List ℕ) (r : Option (Bor (List ℕ))) → Strips front text r → option_map (λ x. x.now) r ≡ after_front front text
after_strips front text None h = sym (lacking front text (after_front front text) refl h)
after_strips front text (Some x) h = sym (found front text x.now h.0 h.1.0 h.1.1 h.2)

-- a text that is another is told apart from it
apart : (w text : List ℕ) → w ≢ text → bytes_eq w text ≡ false
apart w text other = by (bytes_eq w text) (bytes_eq-Decides w text)
  where
    by : (t : Bool) → Decides t (w ≡ text) → t ≡ false
    by true d = absurd (other (d.0 refl))
    by false d = refl

-- a word that begins no order
pub begins-none : (w : List ℕ) (words : List (List ℕ)) → w ≢ codes "replay" → w ≢ codes "rebuild" → w ≢ codes "types" → w ≢ codes "watch"
    → w ≢ codes "serve" → w ≢ codes "demo" → order (w ∷ words) ≡ None
begins-none w words replay rebuild types watch serve demo =
    rw (
      apart w (codes "replay") replay,
      apart w (codes "rebuild") rebuild,
      apart w (codes "types") types,
      apart w (codes "watch") watch,
      apart w (codes "serve") serve,
      apart w (codes "demo") demo,
    ) refl
