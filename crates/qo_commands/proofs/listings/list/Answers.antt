-- What the board lists is told, or what refuses it.
use Rattle.std.proofs.Common.{◌≡◌, Ok, Err, refl, ◌∙◌, ap, sym}
use Rattle.qo_model.specs.Access.{listing_at}
use Rattle.qo_model.specs.Listing.{listing}
use Rattle.qo_model.specs.Properties.{object_at}
use Rattle.qo_commands.specs.Commands.{answered, properties_data}
use Rattle.qo_commands.proofs.listings.list.Goals as goal

pub returns-in-Ok : goal.returns-in-Ok
returns-in-Ok g c = λ b s.
    let found : object_at b c.args.path.now ≡ Ok c.in-Ok.birth = sym (c.in-Ok.ensures b s) in
    let listed : listing_at b c.args.path.now ≡ Ok (listing b c.in-Ok.birth) = rw (listing_at, found) refl in
    c.returned.ensures.done b ∙ sym (ap (answered b properties_data) listed)

pub returns-in-Err : goal.returns-in-Err
returns-in-Err g c = λ b s.
    let found : object_at b c.args.path.now ≡ Err c.in-Err.code = sym (c.in-Err.ensures b s) in
    let refused : listing_at b c.args.path.now ≡ Err c.in-Err.code = rw (listing_at, found) refl in
    c.refused.ensures.done b ∙ sym (ap (answered b properties_data) refused)
