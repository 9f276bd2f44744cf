use Rattle.std.proofs.Common.{◌≡◌, subst, IfOk}
use Rattle.qo_listen.proofs.listeners.BoxDynListenerListener.report.Goals as goal

-- src/listeners.rt:65:5
pub returns : goal.returns
returns g c = subst (λ p. IfOk c.report.result (λ t. t ≡ (g.dyn-1.0.entry p.0).1.text p.1)) c.deref_box-1.ensures.1 c.report.ensures
