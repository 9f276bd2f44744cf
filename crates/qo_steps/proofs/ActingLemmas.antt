-- Who acts: an act leaves who is there, and so do phases. What each act keeps, phases keep.
use Rattle.std.proofs.Common.{◌≡◌, refl, ap, ◌∙◌, ℕ, true, List, [], ◌∷◌, filter, is_some}
use Rattle.qo_model.proofs.Common.{AllByRecursion, Act, Enter, Hold, Exit, Val, Board, Record, is_live, record_of, set, with_changed, with_val, acted, with_act_on, acted_all, edit, edited, is_not_in_reset, phased, plugged, post}
use Rattle.qo_values.proofs.ListLemmas.{all-imply}
use Rattle.qo_model.proofs.StepLemmas.{found-edited, is_some-map}
use Rattle.qo_sound.proofs.RecordLemmas.{all-filter}
use Rattle.qo_steps.specs.Steps.{is_calm}

-- the same objects are there
abbrev pub SameThere : Board → Board → Type 0
SameThere b c = (x : ℕ) → is_live c x ≡ is_live b x

pub edit-there : (n : ℕ) (change : Record → Record) → ((r : Record) → (change r).birth ≡ r.birth) → (c : Board) → SameThere c (edit n change c)
edit-there n change same c x = ap is_some (found-edited n change same x c.records) ∙ is_some-map (edited n change) (record_of c x)

pub set-there : (n i : ℕ) (v : Val) (c : Board) → SameThere c (set n i v c)
unfolding set
set-there n i v c x = edit-there n (with_changed (with_val v) i) (λ r. refl) c x

pub acted-there : (act : Act) (n period : ℕ) (c : Board) → SameThere c (acted act n period c)
unfolding acted
acted-there act n period c x = edit-there n (with_act_on act c.now period) (λ r. refl) c x

pub there-both : (b c d : Board) → SameThere b c → SameThere c d → SameThere b d
there-both b c d one two x = two x ∙ one x

-- who may act may where the same objects are there
abbrev pub IsSteady : (Board → ℕ → Type 0) → Type 0
IsSteady On = (b c : Board) → SameThere b c → (n : ℕ) → On b n → On c n

pub steady-all : (On : Board → ℕ → Type 0) → IsSteady On → (b c : Board) → SameThere b c → (ns : List ℕ) → AllByRecursion (On b) ns → AllByRecursion (On c) ns
steady-all On steady b c same ns on = all-imply (On b) (On c) (steady b c same) ns on

pub phased-there : (act : Act) (ns : List ℕ) (c : Board) → SameThere c (phased act ns c)
phased-there act [] c x = refl
phased-there act (n ∷ ns) c x = phased-there act ns (acted act n 0 c) x ∙ acted-there act n 0 c x

pub acted_all-there : (act : Act) (ns : List ℕ) (c : Board) → SameThere c (acted_all act ns c)
acted_all-there act [] c x = refl
acted_all-there act (n ∷ ns) c x = acted_all-there act ns (acted act n 0 c) x ∙ acted-there act n 0 c x

pub plugged-there : (d : ℕ) (c : Board) → SameThere c (plugged c d)
unfolding plugged
plugged-there d c x =
    let entered : Board = phased Enter (post c d) c in
    let holding : Board = phased Hold (post c d) entered in
    phased-there Exit (filter (is_not_in_reset c) (post c d)) holding x ∙ phased-there Hold (post c d) entered x ∙ phased-there Enter (post c d) c x

-- acts of objects that may act keep P
abbrev pub KeepsCalm : (Board → ℕ → Type 0) → (Board → Type 0) → Type 0
KeepsCalm On P = (act : Act) (n period : ℕ) (c : Board) → is_calm act ≡ true → On c n → P c → P (acted act n period c)

module _ (On : Board → ℕ → Type 0) (steady : IsSteady On) (P : Board → Type 0) (acts : KeepsCalm On P) where
  pub acted_all-by : (act : Act) → is_calm act ≡ true → (ns : List ℕ) (c : Board) → AllByRecursion (On c) ns → P c → P (acted_all act ns c)
  acted_all-by act calm [] c on h = h
  acted_all-by act calm (n ∷ ns) c on h =
      let d : Board = acted act n 0 c in
      acted_all-by act calm ns d (steady-all On steady c d (acted-there act n 0 c) ns on.1) (acts act n 0 c calm on.0 h)

  pub phased-by : (act : Act) → is_calm act ≡ true → (ns : List ℕ) (c : Board) → AllByRecursion (On c) ns → P c → P (phased act ns c)
  phased-by act calm [] c on h = h
  phased-by act calm (n ∷ ns) c on h =
      let d : Board = acted act n 0 c in
      phased-by act calm ns d (steady-all On steady c d (acted-there act n 0 c) ns on.1) (acts act n 0 c calm on.0 h)

  -- what is plugged goes through its phases
  pub plugged-by : (d : ℕ) (c : Board) → AllByRecursion (On c) (post c d) → P c → P (plugged c d)
  unfolding plugged
  plugged-by d c on h =
      let entered : Board = phased Enter (post c d) c in
      let holding : Board = phased Hold (post c d) entered in
      let out : List ℕ = filter (is_not_in_reset c) (post c d) in
      let one : SameThere c entered = phased-there Enter (post c d) c in
      let two : SameThere c holding = there-both c entered holding one (phased-there Hold (post c d) entered) in
      phased-by Exit refl out holding (steady-all On steady c holding two out (all-filter (On c) (is_not_in_reset c) (post c d) on))
      (phased-by Hold refl (post c d) entered (steady-all On steady c entered one (post c d) on)
      (phased-by Enter refl (post c d) c on h))
