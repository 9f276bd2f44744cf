-- The names of tables differ, and from each other.
use Rattle.std.proofs.Common.{◌≡◌, ℕ, ◌+◌, ◌<◌, ◌≤◌, Bool, true, false, List, get_or, refl, arith}
use Rattle.std.specs.Bool.{Decides}
use Rattle.std.specs.Str.{bytes_eq}
use Rattle.std.proofs.lemmas.Slice.Eq.{bytes_eq-Decides}
use Rattle.qo_model.specs.Devices.{kid_name}

-- a number that is no byte stands in no text
pub kid-past : (name : List ℕ) (slot : ℕ) → get_or name 6 0 < 256 → 256 ≤ 48 + slot → false ≡ bytes_eq (kid_name slot) name
kid-past name slot fits past = go (bytes_eq (kid_name slot) name) (bytes_eq-Decides (kid_name slot) name)
  where
    other : (kid_name slot ≡ name) → ⊥
    other same =
        let here : get_or name 6 0 ≡ 48 + slot = rw (← same) refl in
        absurd (omega (arith, fits, here))

    go : (t : Bool) → Decides t (kid_name slot ≡ name) → false ≡ t
    go false d = refl
    go true d = absurd (other (d.0 refl))
