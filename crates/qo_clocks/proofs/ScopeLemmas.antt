-- What the writes leave: who is there, the book of claims, and that no timer had a later moment.
use Rattle.std.proofs.Common.{◌≡◌, subst, sym, refl, ℕ, Bool, true, false, cond, eqb, List, [], ◌∷◌, Option, Some, None, codes}
use Rattle.qo_values.specs.declared.properties.Val.TheVariants as val
use Rattle.qo_claims.specs.declared.claims.Claimed.{Claimed}
use Rattle.qo_kinds.specs.Bodies.{IsTimely}
use Rattle.qo_kinds.specs.declared.bodies.Body.{Body}
use Rattle.qo_slots.specs.declared.keys.Key.{Key}
use Rattle.qo_heap.specs.Rows.{IsLive, edit}
use Rattle.qo_object.specs.declared.slots.Slot.{Slot}
use Rattle.qo_object.specs.Content.{Content}
use Rattle.qo_object.specs.Slots.{with_val}
use Rattle.qo_heap.specs.Acts.{Acts}
use Rattle.qo_heap.specs.Book.{IsBook}
use Rattle.qo_heap.specs.Objects.{Objects, with_edit}
use Rattle.qo_heap.specs.Moments.{AllTimely, Timely}
use Rattle.qo_heap.proofs.ActsLemmas.{acts-book, acts-live}
use Rattle.qo_heap.proofs.BookLemmas.{book-edit}
use Rattle.qo_clocks.specs.Links.{changed_named, index_on, with_slot_changed}
use Rattle.qo_clocks.specs.Writes.{with_period, with_scale}
use Rattle.qo_clocks.proofs.LinkLemmas.{live-changed}

-- one number

pub edit-timely : (n : ℕ) (f : Content → Content) → ((c : Content) → (f c).body ≡ c.body) → (now : ℕ) (rows : List (Key × Content)) → AllTimely now rows
    → AllTimely now (edit n f rows)
edit-timely n f same now [] all = tt
edit-timely n f same now (row ∷ rows) all = (go (eqb row.0.birth n), edit-timely n f same now rows all.1)
  where
    go : (t : Bool) → IsTimely now (cond t (row.0, f row.1) row).1.body
    go true = subst (λ (b : Body). IsTimely now b) (sym (same row.1)) all.0
    go false = all.0

abbrev changed_where : ℕ → (Slot → Slot) → Objects → Option ℕ → Objects
changed_where n f v o = elim o as (λ _. Objects) [ None ↦ v | Some i ↦ with_edit n (with_slot_changed f i) v ]

pub timely-changed : (n : ℕ) (name : List ℕ) (f : Slot → Slot) (v : Objects) → Timely v → Timely (changed_named n name f v)
timely-changed n name f v all = go (index_on v n name)
  where
    go : (o : Option ℕ) → Timely (changed_where n f v o)
    go None = all
    go (Some i) = edit-timely n (with_slot_changed f i) (λ c. refl) v.time v.rows all

book-changed : (out : List Claimed) (n : ℕ) (name : List ℕ) (f : Slot → Slot) (v : Objects) → IsBook out v → IsBook out (changed_named n name f v)
book-changed out n name f v book = go (index_on v n name)
  where
    go : (o : Option ℕ) → IsBook out (changed_where n f v o)
    go None = book
    go (Some i) = book-edit out v n (with_slot_changed f i) (λ c. refl) book

-- a period

pub period-timely : (v : Objects) (c p : ℕ) → Timely v → Timely (with_period c p v)
period-timely v c p all = timely-changed c (codes "period") (with_val (val.Uint p)) v all

pub period-names : (v x : Objects) (c p : ℕ) → Acts (with_period c p v) x → (key : Key) → IsLive v.rows key → IsLive x.rows key
period-names v x c p acts key live =
    rw (acts-live (with_period c p v) x acts key) (live-changed c (codes "period") (with_val (val.Uint p)) v key live)

pub period-book : (v x : Objects) (c p : ℕ) → Acts (with_period c p v) x → (out : List Claimed) → IsBook out v → IsBook out x
period-book v x c p acts out book =
    acts-book out (with_period c p v) x acts (book-changed out c (codes "period") (with_val (val.Uint p)) v book)

-- mul and div

abbrev with_mul : ℕ → ℕ → Objects → Objects
with_mul c m v = changed_named c (codes "mul") (with_val (val.Uint m)) v

pub scale-timely : (v : Objects) (c m d : ℕ) → Timely v → Timely (with_scale c m d v)
scale-timely v c m d all =
    timely-changed c (codes "div") (with_val (val.Uint d)) (with_mul c m v) (timely-changed c (codes "mul") (with_val (val.Uint m)) v all)

pub scale-live : (v : Objects) (c m d : ℕ) (key : Key) → IsLive v.rows key → IsLive (with_scale c m d v).rows key
scale-live v c m d key live =
    live-changed c (codes "div") (with_val (val.Uint d)) (with_mul c m v) key (live-changed c (codes "mul") (with_val (val.Uint m)) v key live)

pub scale-names : (v x : Objects) (c m d : ℕ) → Acts (with_scale c m d v) x → (key : Key) → IsLive v.rows key → IsLive x.rows key
scale-names v x c m d acts key live =
    rw (acts-live (with_scale c m d v) x acts key) (scale-live v c m d key live)

pub scale-book : (v x : Objects) (c m d : ℕ) → Acts (with_scale c m d v) x → (out : List Claimed) → IsBook out v → IsBook out x
scale-book v x c m d acts out book =
    acts-book out (with_scale c m d v) x acts
    (book-changed out c (codes "div") (with_val (val.Uint d)) (with_mul c m v) (book-changed out c (codes "mul") (with_val (val.Uint m)) v book))
