-- A property more.
use Rattle.std.proofs.Common.{◌≡◌, ◌+◌, ◌++◌, ◌∙◌, List, [], ◌∷◌, ap, drop, refl, sym, append-nil, arith}
use Rattle.std.proofs.Math.ListN.{drop_of_length-le}
use Rattle.std.proofs.lemmas.List.{drop_more}
use Rattle.qo_model.specs.Objects.{Given}
use Rattle.qo_rebuild.proofs.SlotLemmas.{next-above, next-put}
use Rattle.qo_rebuild.proofs.props.put_copies.Goals as goal

pub loop-prop-init : goal.loop-prop-init
loop-prop-init c = refl

pub put_copy-requires : goal.put_copy-requires
put_copy-requires c =
    let more = c.args.more.now in
    let i = c.loop-prop.prop-index in
    let p : Given = c.prop-item.result in
    let here : drop i more ≡ p ∷ drop (i + 1) more = drop_more more i p (omega arith) ∙ ap (λ (q : Given). q ∷ drop (i + 1) more) (sym c.prop-item.is) in
    next-above c.loop-prop.props (c.args.props.now ++ more) p (drop (i + 1) more) (drop i more) here c.loop-prop.invariant c.requires

pub loop-prop-preserved : goal.loop-prop-preserved
loop-prop-preserved c =
    let more = c.args.more.now in
    let i = c.loop-prop.prop-index in
    let p : Given = c.prop-item.result in
    let here : drop i more ≡ p ∷ drop (i + 1) more = drop_more more i p (omega arith) ∙ ap (λ (q : Given). q ∷ drop (i + 1) more) (sym c.prop-item.is) in
    next-put c.loop-prop.props (c.args.props.now ++ more) c.put_copy.new.props p (drop (i + 1) more) (drop i more) here c.loop-prop.invariant
    c.in_ok-put_copy.ensures

pub returns : goal.returns
returns c =
    let more = c.args.more.now in
    let none : drop c.loop-prop.prop-index more ≡ [] = drop_of_length-le more (omega arith) in
    sym (append-nil c.loop-prop.props) ∙ sym (ap (λ (l : List Given). c.loop-prop.props ++ l) none) ∙ c.loop-prop.invariant
