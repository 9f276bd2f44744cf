-- A word that a text begins with, in std's words and in those of the lines.
use Rattle.std.proofs.Common.{◌≡◌, ℕ, Bool, true, false, List, ◌++◌, take, drop, length, refl, sym, ◌∙◌, ap, if◌then◌else◌, Option, None, Some, Bor, option_map}
use Rattle.std.proofs.Math.Seq.{take-append_seam, drop-append_seam}
use Rattle.std.proofs.lemmas.List.{take-append-drop}
use Rattle.std.proofs.lemmas.Slice.Eq.{bytes_eq-Decides}
use Rattle.std.specs.Option.{MatchOption}
use Rattle.std.specs.Str.{bytes_eq}
use Rattle.std.specs.Str.Pattern.{FindsTextPrefix, LacksTextAt, StripsPrefix}
use Rattle.qo_text.specs.Lines.{behind}

when_true : (b : Bool) (x y : List ℕ) → (if b then Some x else None) ≡ Some y → (b ≡ true) × (x ≡ y)
when_true true x y h = (refl, cc)
when_true false x y h = cc

behind-is : (word text rest : List ℕ) → behind word text ≡ Some rest → text ≡ word ++ rest
behind-is word text rest h =
    let p = when_true (bytes_eq (take (length word) text) word) (drop (length word) text) rest h in
    let same : take (length word) text ≡ word = (bytes_eq-Decides (take (length word) text) word).0 p.0 in
    sym (take-append-drop (length word) text) ∙ ap (λ (l : List ℕ). l ++ drop (length word) text) same ∙ ap (λ (l : List ℕ). word ++ l) p.1

behind-again : (word rest : List ℕ) → behind word (word ++ rest) ≡ Some rest
behind-again word rest =
    let same : bytes_eq word word ≡ true = (bytes_eq-Decides word word).1 refl in
    rw (take-append_seam word rest, drop-append_seam word rest, same) refl

lacking : (word text : List ℕ) (r : Option (List ℕ)) → behind word text ≡ r → LacksTextAt word text 0 → r ≡ None
lacking word text None is lacks = refl
lacking word text (Some rest) is lacks = absurd (lacks rest (behind-is word text rest is))

found : (word text rest : List ℕ) (n : ℕ) → n ≡ length word → text ≡ word ++ drop n text → rest ≡ drop n text → behind word text ≡ Some rest
found word text rest n size parts is = ap (behind word) parts ∙ behind-again word (drop n text) ∙ ap (λ (l : List ℕ). Some l) (sym is)

-- std's clause of a text whose front is taken off
abbrev Strips : List ℕ → List ℕ → Option (Bor (List ℕ)) → Type 0
Strips word text r = MatchOption r (FindsTextPrefix word text None) (λ x. StripsPrefix (FindsTextPrefix word) text x.now)

pub behind-strips : (word text : List ℕ) (r : Option (Bor (List ℕ))) → Strips word text r → option_map (λ x. x.now) r ≡ behind word text
behind-strips word text None h = sym (lacking word text (behind word text) refl h)
behind-strips word text (Some x) h = sym (found word text x.now h.0 h.1.0 h.1.1 h.2)
