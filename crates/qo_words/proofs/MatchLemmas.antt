-- What `clap` finds in the words of `serve` and of `demo`, whatever the values are.
use Rattle.std.proofs.Common.{◌≡◌, refl, sym, ap, ◌∙◌, codes, true, List, ℕ, ◌∷◌, [], ◌++◌, Option, None, Some, Bor, option_map}
use Rattle.std.specs.Option.{IsSome}
use Rattle.clap.specs.Words.{App, Rule, Text, first_of, matches_of, new_app, new_rule, takes, with_rule}
use Rattle.clap.proofs.OnLiterals.{clap_on_literals}

-- an option by its name
abbrev pub option : List ℕ → Rule
option name = record (new_rule name) { long = Some name }

abbrev pub serve : App
serve = with_rule (with_rule (new_app (codes "serve")) (option (codes "socket"))) (option (codes "connections"))

abbrev pub serve-words : List ℕ → List ℕ → List Text
serve-words path count = codes "serve" ∷ (codes "--socket=" ++ path) ∷ (codes "--connections=" ++ count) ∷ []

pub serve-taken : (path count : List ℕ) → takes serve (serve-words path count) ≡ true
unfolding clap_on_literals
serve-taken path count = refl

pub serve-path : (path count : List ℕ) → first_of (codes "socket") (matches_of serve (serve-words path count)) ≡ Some path
unfolding clap_on_literals
serve-path path count = refl

pub serve-count : (path count : List ℕ) → first_of (codes "connections") (matches_of serve (serve-words path count)) ≡ Some count
unfolding clap_on_literals
serve-count path count = refl

abbrev pub demo : App
demo = with_rule (with_rule (new_app (codes "demo")) (option (codes "seed"))) (option (codes "steps"))

abbrev pub demo-words : List ℕ → List ℕ → List Text
demo-words seed steps = codes "demo" ∷ (codes "--seed=" ++ seed) ∷ (codes "--steps=" ++ steps) ∷ []

pub demo-taken : (seed steps : List ℕ) → takes demo (demo-words seed steps) ≡ true
unfolding clap_on_literals
demo-taken seed steps = refl

pub demo-seed : (seed steps : List ℕ) → first_of (codes "seed") (matches_of demo (demo-words seed steps)) ≡ Some seed
unfolding clap_on_literals
demo-seed seed steps = refl

pub demo-steps : (seed steps : List ℕ) → first_of (codes "steps") (matches_of demo (demo-words seed steps)) ≡ Some steps
unfolding clap_on_literals
demo-steps seed steps = refl

-- a text that is found is there, and is that text
pub is-there : (o : Option (Bor (List ℕ))) (t : List ℕ) → option_map (λ s. s.now) o ≡ Some t → IsSome o
is-there None t e = absurd (let clash : None ≡ Some t = e in cc)
is-there (Some s) t e = refl

pub is-text : (o : Option (Bor (List ℕ))) (s : Bor (List ℕ)) (t : List ℕ) → o ≡ Some s → option_map (λ s. s.now) o ≡ Some t → s.now ≡ t
is-text o s t there e = let is : Some s.now ≡ Some t = sym (ap (option_map (λ (x : Bor (List ℕ)). x.now)) there) ∙ e in cc
