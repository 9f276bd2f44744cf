-- Worked rows of the reading of recorded streams, by computation.
use Rattle.std.proofs.Common.{◌≡◌, ℕ, List, [], ◌∷◌, ◌++◌, map, codes, decimal, Option, None, Some, refl}
use Rattle.qo_causes.specs.Names.{Given, name_of}
use Rattle.qo_causes.specs.declared.inputs.What.{What}
use Rattle.qo_causes.specs.declared.inputs.What.TheVariants.{Open, Bytes, Shut}
use Rattle.qo_record.specs.Names.{is_name, least_free, number_named}
use Rattle.qo_record.specs.Record.{bad_place, entries_from, entry_at, stream_given}

abbrev line : List ℕ → List ℕ
line text = text ++ 10 ∷ []

abbrev whats : List ℕ → List What
whats bytes = map (λ (g : Given). g.input.what) (stream_given bytes)

-- the names of a session after each entry
abbrev named : ℕ → List ℕ → List (Option (List ℕ))
named s bytes = map (λ (g : Given). name_of g.names s) (stream_given bytes)

-- a session opens with a name
abbrev ops : List ℕ
ops = line (codes "qrec 2") ++ line (codes "open 1.000000 ops")

ops_opens : whats ops ≡ Open 0 ∷ []
unfolding entries_from entry_at is_name number_named least_free
ops_opens = refl

ops_named : named 0 ops ≡ Some (codes "ops") ∷ []
unfolding entries_from entry_at is_name number_named least_free
ops_named = refl

ops_whole : bad_place ops ≡ None
unfolding entries_from entry_at is_name number_named least_free
ops_whole = refl

-- no session has the guest's name
guest_bad : bad_place (line (codes "qrec 2") ++ line (codes "open 1.000000 g")) ≡ Some 7
unfolding entries_from entry_at is_name number_named least_free
guest_bad = refl

-- of three names the last takes the number that the first left
abbrev three : List ℕ
three =
    line (codes "qrec 2") ++ line (codes "open 1.000000 a") ++ line (codes "open 1.000000 b") ++ line (codes "shut 1.000000 a")
    ++ line (codes "open 1.000000 c") ++ line (codes "bytes 1.000000 b 2") ++ line (codes "{}")

three_whats : whats three ≡ Open 0 ∷ Open 1 ∷ Shut 0 ∷ Open 0 ∷ Bytes 1 (codes "{}") ∷ []
unfolding entries_from entry_at is_name number_named least_free
three_whats = refl

three_named : named 0 three ≡ Some (codes "a") ∷ Some (codes "a") ∷ None ∷ Some (codes "c") ∷ Some (codes "c") ∷ []
unfolding entries_from entry_at is_name number_named least_free
three_named = refl

-- in the first version the name of a session is its number
abbrev seven : List ℕ
seven = line (codes "qrec 1") ++ line (codes "open 1.000000 7")

seven_opens : whats seven ≡ Open 7 ∷ []
unfolding entries_from entry_at is_name number_named least_free
seven_opens = refl

seven_named : named 7 seven ≡ Some (decimal 7) ∷ []
unfolding entries_from entry_at is_name number_named least_free
seven_named = refl
