-- What a call does to the bytes that a source has left and that a sink holds, where these are told.
use Rattle.std.specs.Prelude.{ℕ, ◌≡◌, ◌<◌, ◌≤◌, List, [], length, take, Option, Result, Ok, Err, IfSome}
use Rattle.std.specs.Io.KnownBytes.{append_known, prepend_known}

-- a source gave the first n bytes of the buffer, and nothing to a buffer with room only at its end
abbrev pub Takes : {E : Type 0} → Option (List ℕ) → Option (List ℕ) → Result ℕ E → List ℕ → Type 0
Takes old new (Ok n) buf = (old ≡ prepend_known (take n buf) new) × (n ≡ 0 → 0 < length buf → IfSome new (λ left. left ≡ []))
Takes old new (Err e) buf = new ≡ old

-- a sink took the first n bytes of the piece
abbrev pub Puts : {E : Type 0} → Option (List ℕ) → Option (List ℕ) → Result ℕ E → List ℕ → Type 0
Puts old new (Ok n) piece = new ≡ append_known old (take n piece)
Puts old new (Err e) piece = new ≡ old

-- a front of the bytes was appended
abbrev pub AppendsPrefix : Option (List ℕ) → Option (List ℕ) → List ℕ → Type 0
AppendsPrefix old new bytes = (n : ℕ) × (n ≤ length bytes) × (new ≡ append_known old (take n bytes))

-- all bytes were appended, or on an error a front of them
abbrev pub PutsAll : {T E : Type 0} → Option (List ℕ) → Option (List ℕ) → Result T E → List ℕ → Type 0
PutsAll old new (Ok u) bytes = new ≡ append_known old bytes
PutsAll old new (Err e) bytes = AppendsPrefix old new bytes
