-- How a session is spelled in an entry.
use Rattle.std.proofs.Common.{◌≡◌, ℕ, ◌+◌, ◌-◌, ◌≤◌, Bool, true, List, ◌∷◌, length, take, refl, sym, ◌∙◌, ap, arith, length-append, Option}
use Rattle.std.proofs.Common.{None, Some, is_some, decimal, Bor}
use Rattle.std.proofs.lemmas.Bool.{true≢false}
use Rattle.std.specs.Option.{option_copied}
use Rattle.std.proofs.Math.Seq.{take-append_seam}
use Rattle.std.proofs.lemmas.Fmt.{length-decimal-le}
use Rattle.qo_record.specs.Names.{header_of}
use Rattle.qo_record.specs.Reading.{after_front, number_until}
use Rattle.qo_record.specs.Record.{number_at}
use Rattle.qo_record.proofs.ReadingLemmas.{after_is, number_taken}
use Rattle.qo_record.specs.Streams.{FitsSaid, IsOfSixteen, said_by}
use Rattle.qo_record.specs.Windows.{BeginsWithHeader}
use Rattle.qo_record.specs.declared.versions.Version.{Version}
use Rattle.qo_record.specs.declared.entries.Said.{Said}
use Rattle.qo_record.specs.declared.entries.Said.TheVariants.{Opens, Sends, Shuts, Writes, Steps}

-- a session's number stands before the byte that ends it
pub record IsNumberIn (stop : ℕ) (bytes : List ℕ) (x : ℕ × List ℕ) : Type 0 where
  pub few : x.0 ≤ 15
  pub size : length bytes ≡ length (decimal x.0) + 1 + length x.1
  pub text : take (length bytes - length x.1 - 1) bytes ≡ decimal x.0
  pub short : length (take (length bytes - length x.1 - 1) bytes) ≤ 32

pub number_parts : (stop : ℕ) (bytes : List ℕ) (x : ℕ × List ℕ) → number_until stop 15 bytes ≡ Some x → IsNumberIn stop bytes x
number_parts stop bytes x h =
    let t = number_taken stop 15 bytes x (omega arith) h in
    let size : length bytes ≡ length (decimal x.0) + 1 + length x.1 =
    omega (arith, ap (length {A = ℕ}) t.1, length-append (decimal x.0) (stop ∷ x.1)) in
    let place : length bytes - length x.1 - 1 ≡ length (decimal x.0) = omega (arith, size) in
    let text : take (length bytes - length x.1 - 1) bytes ≡ decimal x.0 =
    ap (λ (k : ℕ). take k bytes) place ∙ ap (take (length (decimal x.0))) t.1 ∙ take-append_seam (decimal x.0) (stop ∷ x.1) in
    let few : length (decimal x.0) ≤ 2 = length-decimal-le 2 x.0 (omega arith) (omega (arith, t.0)) (omega (arith, t.0)) in
    record { few = t.0; size = size; text = text; short = omega (arith, ap (length {A = ℕ}) text, few) }

pub number_is_at : (stop : ℕ) (bytes : List ℕ) (x : ℕ × List ℕ) → number_until stop 15 bytes ≡ Some x →
    Some (record { number = x.0; text = take (length bytes - length x.1 - 1) bytes }, x.1) ≡ number_at stop bytes
number_is_at stop bytes x h = rw ((number_parts stop bytes x h).text, h) refl

-- a session that opens or is shut is one of the sixteen
pub of_sixteen : (said : Said) → FitsSaid said → IsOfSixteen (said_by said)
of_sixteen (Opens s) fits = fits.0
of_sixteen (Sends s piece) fits = tt
of_sixteen (Shuts s) fits = fits.0
of_sixteen (Writes piece) fits = tt
of_sixteen (Steps ns) fits = tt

-- a front that was found is there
pub begins_yes : (v : Version) (bytes front : List ℕ) (rest : Option (Bor (List ℕ))) (found : Bool) → front ≡ header_of v →
    option_copied rest ≡ after_front front bytes → found ≡ is_some rest → found ≡ true → BeginsWithHeader v bytes
begins_yes v bytes front None found is left some there = absurd (true≢false (sym there ∙ some))
begins_yes v bytes front (Some r) found is left some there = (
  r.now,
  after_is (header_of v) bytes r.now (ap (λ (l : List ℕ). after_front l bytes) (sym is) ∙ sym left),
)
