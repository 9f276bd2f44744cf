use Rattle.std.proofs.Common.{◌≡◌, ◌∷◌, [], ◌<◌, ◌+◌, suc, length, get_or, set, refl, sym, ◌∙◌, subst, arith}
use Rattle.std.proofs.lemmas.List.{length-map}
use Rattle.qo_listen.specs.Ears.{HeardTo, ear, ears}
use Rattle.qo_listen.proofs.EarLemmas.{still_open, one_more, put_same, same_ear, on_error}
use Rattle.qo_listen.proofs.listeners.tell_all.Goals as goal

pub loop-listener-init : goal.loop-listener-init
loop-listener-init g c = refl

pub told-requires : goal.told-requires
told-requires g c =
    still_open (ear g.L.Listener) _ c.args.all.now c.loop-listener.all _ c.listener-item.result
    (omega arith) c.loop-listener.invariant c.requires

pub loop-listener-preserved : goal.loop-listener-preserved
loop-listener-preserved g c =
    let lt : c.loop-listener.listener-index < length c.loop-listener.all = omega arith in
    let all = one_more (ear g.L.Listener) (c.args.note.now ∷ []) c.args.all.now c.loop-listener.all
    c.loop-listener.listener-index c.told.new.self c.listener-item.result lt c.loop-listener.invariant
    (record { heard = c.in_ok-told.ensures.heard; form = c.in_ok-told.ensures.form; closed = c.in_ok-told.ensures.closed }) in
    let next : c.loop-listener.listener-index + 1 ≡ suc c.loop-listener.listener-index = omega arith in
    subst
    (λ n. HeardTo n (c.args.note.now ∷ []) (ears g.L.Listener c.args.all.now)
    (ears g.L.Listener (set c.loop-listener.all c.loop-listener.listener-index c.told.new.self)))
    (sym next) all

pub returns-clause-told : goal.returns-clause-told
returns-clause-told g c =
    let whole : c.loop-listener.listener-index ≡ length c.args.all.now = omega arith in
    subst
    (λ n. HeardTo n (c.args.note.now ∷ []) (ears g.L.Listener c.args.all.now)
    (ears g.L.Listener c.loop-listener.all))
    (whole ∙ sym (length-map c.args.all.now (ear g.L.Listener))) c.loop-listener.invariant

pub returns-in_err-told-clause-left : goal.returns-in_err-told-clause-left
returns-in_err-told-clause-left g c =
    let lt : c.loop-listener.listener-index < length c.loop-listener.all = omega arith in
    let same : ear g.L.Listener c.told.new.self
    ≡ ear g.L.Listener (get_or c.loop-listener.all c.loop-listener.listener-index c.listener-item.result) =
    same_ear _ _ c.in_err-told.ensures.left c.in_err-told.ensures.text c.in_err-told.ensures.form c.in_err-told.ensures.closed in
    on_error c.from_residual.result (
      c.loop-listener.listener-index,
      subst (HeardTo c.loop-listener.listener-index (c.args.note.now ∷ []) (ears g.L.Listener c.args.all.now))
          (sym (put_same (ear g.L.Listener) c.loop-listener.all c.loop-listener.listener-index c.told.new.self c.listener-item.result lt same))
          c.loop-listener.invariant,
    )
