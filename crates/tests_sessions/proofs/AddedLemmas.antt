-- Listeners, none of whom is closed, and one more.
use Rattle.std.proofs.Common.{◌≡◌, sym, subst, false, List, [], ◌∷◌, ◌++◌, Result, Ok, Err, OnOk, OnErr}
use Rattle.qo_listen.specs.Ears.{AllOpen, Ear}

more-open : (olds : List Ear) (e : Ear) → e.closed ≡ false → AllOpen olds → AllOpen (olds ++ e ∷ [])
more-open [] e shut clear = (shut, tt)
more-open (old ∷ olds) e shut clear = (clear.0, more-open olds e shut clear.1)

-- whether there was memory for it or not
pub added-open : {T E : Type 0} (r : Result T E) (olds news : List Ear) (e : Ear) → OnOk r (news ≡ olds ++ e ∷ []) → OnErr r (news ≡ olds) → e.closed ≡ false
    → AllOpen olds → AllOpen news
added-open (Ok x) olds news e added left shut clear = subst AllOpen (sym added) (more-open olds e shut clear)
added-open (Err x) olds news e added left shut clear = subst AllOpen (sym left) clear
