-- Objects and slots that are added are no timer's moment.
use Rattle.std.proofs.Common.{◌≡◌, refl, codes, ℕ, ◌+◌, List, [], ◌∷◌, ◌++◌}
use Rattle.std.specs.Prelude.{IfOk, OnErr, OnOk, Result, Ok, Err}
use Rattle.qo_values.specs.declared.kinds.TypeId.{TypeId}
use Rattle.qo_kinds.specs.Bodies.{IsTimely}
use Rattle.qo_kinds.proofs.BodyLemmas.{fresh-timely}
use Rattle.qo_slots.specs.declared.keys.Key.{Key}
use Rattle.qo_object.specs.declared.slots.Slot.{Slot}
use Rattle.qo_object.specs.Content.{Content, fresh, with_slot}
use Rattle.qo_heap.specs.Objects.{Objects, with_edit}
use Rattle.qo_heap.specs.Moments.{AllTimely, Timely}
use Rattle.qo_clocks.specs.Kept.{kept_afresh, kept_turn, with_periods}
use Rattle.qo_clocks.specs.Links.{changed_named, fitted_on}
use Rattle.qo_clocks.specs.Periods.{scaled_on}
use Rattle.qo_clocks.proofs.ScopeLemmas.{edit-timely, timely-changed}

more-timely : (now : ℕ) (rows : List (Key × Content)) (row : Key × Content) → AllTimely now rows → IsTimely now row.1.body → AllTimely now (rows ++ row ∷ [])
more-timely now [] row all own = (own, tt)
more-timely now (x ∷ rows) row all own = (all.0, more-timely now rows row all.1 own)

pub made-timely : (v : Objects) (key : Key) (kind : TypeId) (born : ℕ) → Timely v → Timely (record v { rows = v.rows ++ (key, fresh kind) ∷ []; born = born })
made-timely v key kind born all = more-timely v.time v.rows (key, fresh kind) all (fresh-timely kind v.time)

pub slot-timely : (n : ℕ) (name : List ℕ) (slot : Slot) (v : Objects) → Timely v → Timely (with_edit n (with_slot name slot) v)
slot-timely n name slot v all = edit-timely n (with_slot name slot) (λ c. refl) v.time v.rows all

afresh-timely : (n : ℕ) (v : Objects) → Timely v → Timely (kept_afresh n v)
afresh-timely n v all = edit-timely n (with_periods (kept_turn v n) (scaled_on v n (kept_turn v n))) (λ c. refl) v.time v.rows all

-- what is added, or not

pub slot-tried : {E : Type 0} (r : Result (Unit {0}) E) (v w : Objects) (n : ℕ) (name : List ℕ) (slot : Slot) → OnOk r (w ≡ with_edit n (with_slot name slot) v)
    → OnErr r (w ≡ v) → Timely v → Timely w
slot-tried (Ok done) v w n name slot added err all = rw added (slot-timely n name slot v all)
slot-tried (Err e) v w n name slot added err all = rw err all

pub make-tried : {E : Type 0} (r : Result Key E) (v w : Objects) (kind : TypeId)
    → IfOk r (λ o. (o.birth ≡ v.born + 1) × (w ≡ record v { rows = v.rows ++ (o, fresh kind) ∷ []; born = v.born + 1 })) → OnErr r (w ≡ v) → Timely v → Timely w
make-tried (Ok o) v w kind made err all = rw made.1 (made-timely v o kind (v.born + 1) all)
make-tried (Err e) v w kind made err all = rw err all

pub connected-timely : (v w : Objects) (c : ℕ) (source : Key) → w ≡ kept_afresh c (changed_named c (codes "source") (fitted_on v source) v) → Timely v → Timely w
connected-timely v w c source now all =
    rw now (afresh-timely c (changed_named c (codes "source") (fitted_on v source) v) (timely-changed c (codes "source") (fitted_on v source) v all))
