-- What is not there has the first address; a device that stands is found at its own.
use Rattle.std.proofs.Common.{sym, subst, ap, ◌∙◌, List, ℕ}
use Rattle.qo_buses.specs.Addresses.{addressed}
use Rattle.qo_guest.specs.declared.addresses.Addr.TheVariants.{Slots}
use Rattle.qo_realize.specs.Guest.{address_of}
use Rattle.qo_realize.specs.Parts.{Parts, parts_of}
use Rattle.qo_realize.specs.Representation.{Stands}
use Rattle.qo_realize.proofs.AddressLemmas.{address-found}
use Rattle.qo_realize.proofs.GoodBoardLemmas.{good-of}
use Rattle.qo_realize.proofs.GuestLemmas.{gone-address}
use Rattle.qo_realize.proofs.board.Board.guest_address.Goals as goal

pub returns-in-Some-clause-address : goal.returns-in-Some-clause-address
returns-in-Some-clause-address g c = λ b s.
    let seen = subst (λ (p : Parts). Stands b p) (sym c.self.view_is) s in
    c.address_of.ensures b seen.shows ∙ ap (address_of b) c.in-Some.ensures.born

pub returns-in-Some-clause-found : goal.returns-in-Some-clause-found
returns-in-Some-clause-found g c = λ b s there.
    let inside = c.self.inside in
    let seen = subst (λ (p : Parts). Stands b p) (sym c.self.view_is) s in
    let good = good-of (parts_of inside.rings inside.anonymous inside.running inside.resets inside.hotplug inside.heap) c.self.invariant.1 b seen in
    ap (addressed b) (c.address_of.ensures b seen.shows ∙ ap (address_of b) c.in-Some.ensures.born) ∙ address-found b good c.args.birth there

pub returns-in-None-clause-address : goal.returns-in-None-clause-address
returns-in-None-clause-address g c = λ b s.
    let seen = subst (λ (p : Parts). Stands b p) (sym c.self.view_is) s in
    ap (λ (slots : List ℕ). Slots slots) c.one.ensures ∙ sym (gone-address b c.self.inside.heap seen.shows c.args.birth c.in-None.ensures.none)

pub returns-in-None-clause-found : goal.returns-in-None-clause-found
returns-in-None-clause-found g c = λ b s there.
    let inside = c.self.inside in
    let seen = subst (λ (p : Parts). Stands b p) (sym c.self.view_is) s in
    let good = good-of (parts_of inside.rings inside.anonymous inside.running inside.resets inside.hotplug inside.heap) c.self.invariant.1 b seen in
    ap (addressed b)
    (ap (λ (slots : List ℕ). Slots slots) c.one.ensures ∙ sym (gone-address b c.self.inside.heap seen.shows c.args.birth c.in-None.ensures.none))
    ∙ address-found b good c.args.birth there
