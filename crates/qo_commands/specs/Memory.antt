-- For proofs alone. Places that have no register.
use Rattle.std.specs.Prelude.{◌≡◌, ℕ, Some}
use Rattle.qo_guest.specs.declared.answers.GuestAnswer.TheVariants.{NoRegister}
use Rattle.qo_model.specs.Board.{Board}
use Rattle.qo_layout.specs.declared.views.RegisterPlace.{RegisterPlace}
use Rattle.qo_commands.specs.Hearing.{answered, peeked, poked}

-- whatever is asked of the register there, it is not there
pub record HasNoRegister (b : Board) (place : RegisterPlace) : Type 0 where
  pub read : peeked b (Some place) ≡ answered b NoRegister
  pub written : (value : ℕ) → poked b value (Some place) ≡ answered b NoRegister
