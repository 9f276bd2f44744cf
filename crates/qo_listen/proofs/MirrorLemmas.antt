-- What a mirror tells of those who were made, one after another.
use Rattle.std.proofs.Common.{◌≡◌, refl, ap, ℕ, suc, ◌<◌, Bool, true, false, not, List, ◌∷◌, ◌++◌, drop, filter, get_or, length, arith}
use Rattle.std.specs.List.{flat_map, list_any}
use Rattle.std.specs.BTreeMap.{is_at}
use Rattle.std.specs.Ordering.{nat_cmp}
use Rattle.std.specs.Prelude.{if◌then◌else◌, nat_eq}
use Rattle.std.specs.BTreeSet.{insert_key}
use Rattle.std.proofs.Math.Path.{fun_ext}
use Rattle.std.proofs.Math.Seq.{drop-cons}
use Rattle.std.proofs.lemmas.Bool.Decides.{nat_tests}
use Rattle.qo_model.specs.Depth.{among}
use Rattle.qo_model.specs.declared.notes.Note.{Note}
use Rattle.qo_listen.specs.Texts.{birth_text, births_of}

-- what is told of some, but for those who ended
abbrev pub told : List ℕ → List ℕ → List ℕ
told ended ns = flat_map birth_text (filter (λ (n : ℕ). not (among ended n)) ns)

pub told-there : (ended : List ℕ) (n : ℕ) (ns : List ℕ) → among ended n ≡ false → told ended (n ∷ ns) ≡ birth_text n ++ told ended ns
told-there ended n ns e = rw e refl

pub told-gone : (ended : List ℕ) (n : ℕ) (ns : List ℕ) → among ended n ≡ true → told ended (n ∷ ns) ≡ told ended ns
told-gone ended n ns e = rw e refl

-- a set of births holds one exactly where that is among them
at-eq : (n m : ℕ) → is_at (nat_cmp n) m ≡ nat_eq n m
at-eq n m = grind (arith, nat_tests)

pub held-among : (ns : List ℕ) (n : ℕ) → list_any (is_at (nat_cmp n)) ns ≡ among ns n
held-among ns n = ap (λ (test : ℕ → Bool). list_any test ns) (fun_ext (at-eq n))

-- the births from a place on, by the note there
pub births-at : (test : Note → Bool) (notes : List Note) (i : ℕ) (d : Note) → i < length notes
    → births_of test (drop i notes)
    ≡ (if test (get_or notes i d) then insert_key nat_cmp (births_of test (drop (suc i) notes)) (get_or notes i d).birth else births_of test (drop (suc i) notes))
births-at test notes i d within = ap (births_of test) (drop-cons notes i d within)
