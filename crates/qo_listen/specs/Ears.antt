-- What contracts see of listeners.
use Rattle.std.specs.Prelude.{◌≡◌, ℕ, zero, suc, Bool, false, List, [], ◌∷◌, ◌++◌, length, map, Option}
use Rattle.std.specs.List.{flat_map, AllByRecursion}
use Rattle.qo_model.specs.declared.notes.Note.{Note}
use Rattle.qo_listen.specs.declared.listener.Listener.{Ghosts}
use Rattle.qo_listen.specs.Texts.{Form}

-- a listener: what it heard, what it tells, in which form, and whether it is closed
pub record Ear : Type 0 where
  pub heard : List Note
  pub text : List ℕ
  pub form : Option Form
  pub closed : Bool

-- it heard some notes more, and is else as before
pub record Heard (notes : List Note) (old new : Ear) : Type 0 where
  pub heard : new.heard ≡ old.heard ++ notes
  pub form : new.form ≡ old.form
  pub closed : new.closed ≡ old.closed

-- a listener as contracts see it, by what its type says of each of these
abbrev pub ear : {X : Type 0} → Ghosts X → X → Ear
ear is l = record { heard = is.heard l; text = is.text l; form = is.form l; closed = is.closed l }

-- some listeners, in order
abbrev pub ears : {X : Type 0} → Ghosts X → List X → List Ear
ears is all = map (ear is) all

-- the first so many of some heard notes more, and the others are as before
abbrev pub HeardTo : ℕ → List Note → List Ear → List Ear → Type 0
HeardTo zero notes olds news = news ≡ olds
HeardTo (suc n) notes [] news = news ≡ []
HeardTo (suc n) notes (old ∷ olds) [] = ⊥
HeardTo (suc n) notes (old ∷ olds) (new ∷ news) = Heard notes old new × HeardTo n notes olds news

-- some of the first did
abbrev pub HeardSome : List Note → List Ear → List Ear → Type 0
HeardSome notes olds news = (n : ℕ) × HeardTo n notes olds news

-- all of them did
abbrev pub AllHeard : List Note → List Ear → List Ear → Type 0
AllHeard notes olds news = HeardTo (length olds) notes olds news

-- none is closed
abbrev pub AllOpen : List Ear → Type 0
AllOpen ears = AllByRecursion (λ (e : Ear). e.closed ≡ false) ears

-- what they tell, one after another
abbrev pub texts_of : List Ear → List ℕ
texts_of ears = flat_map (λ (e : Ear). e.text) ears
