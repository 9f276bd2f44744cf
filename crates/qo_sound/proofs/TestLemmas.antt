-- Tests that are true or false.
use Rattle.std.proofs.Common.{◌≡◌, refl, Bool, true, false}

-- a test is one of them
pub decide : (t : Bool) {A : Type 0} → (t ≡ true → A) → (t ≡ false → A) → A
decide true f g = f refl
decide false f g = g refl

-- and never both
pub clash : {A : Type 0} → true ≡ false → A
clash e = absurd cc

pub clash-back : {A : Type 0} → false ≡ true → A
clash-back e = absurd cc
