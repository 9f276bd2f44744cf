-- The init notes of an object, as they are added one after another.
use Rattle.std.proofs.Common.{◌≡◌, refl, ap, sym, ◌∙◌, ℕ, ◌+◌, ◌<◌, Bool, true, false, cond, List, [], ◌∷◌, ◌++◌, map, filter, length, drop, get_or, reverse, arith, rules}
use Rattle.std.proofs.lemmas.List.{append-nil, map-append, reverse-append, drop_more, drop_all}
use Rattle.qo_values.specs.Registers.{body_act, Registers}
use Rattle.qo_values.proofs.EachLemmas.{each_body}
use Rattle.qo_values.specs.declared.kinds.TypeId.{TypeId}
use Rattle.qo_values.specs.declared.kinds.Act.TheVariants.{Init}
use Rattle.qo_kinds.specs.Bodies.{acted, device_in, registers_in, same_device}
use Rattle.qo_kinds.specs.declared.bodies.Body.{Body}
use Rattle.qo_kinds.specs.declared.bodies.Device.{Device}
use Rattle.qo_object.specs.Content.{acted_at}
use Rattle.qo_model.specs.declared.notes.Note.{Note}
use Rattle.qo_model.specs.Types.{has_finalizer}
use Rattle.qo_heap.specs.Log.{Log, noted_all}
use Rattle.qo_heap.proofs.Logs.{parts_lem}
use Rattle.qo_heap.specs.Objects.{Objects, with_edit, with_note}
use Rattle.qo_heap.proofs.HeapLemmas.{edit-nothing}
use Rattle.qo_life.specs.Life.{init_note, with_notes}

-- the init notes for some types, the last first
abbrev pub inits_in : ℕ → List TypeId → List Note
inits_in n ts = map (init_note n) (reverse (filter has_finalizer ts))

-- the note of one type
abbrev pub one_init : ℕ → TypeId → List Note
one_init n t = cond (has_finalizer t) (init_note n t ∷ []) []

inits_in-more : (n : ℕ) (t : TypeId) (ts : List TypeId) → inits_in n (t ∷ ts) ≡ inits_in n ts ++ one_init n t
inits_in-more n t ts = go (has_finalizer t)
  where
    go : (b : Bool)
        → map (init_note n) (reverse (cond b (t ∷ filter has_finalizer ts) (filter has_finalizer ts))) ≡ inits_in n ts ++ cond b (init_note n t ∷ []) []
    go true = ap (map (init_note n)) (reverse-append (t ∷ []) (filter has_finalizer ts)) ∙ map-append (init_note n) (reverse (filter has_finalizer ts)) (t ∷ [])
    go false = sym (append-nil (inits_in n ts))

-- no note more
with_notes-none : (v : Objects) → with_notes [] v ≡ v
unfolding noted_all
with_notes-none v = refl

-- one note more
pub with_notes-one : (note : Note) (v : Objects) → with_note note v ≡ with_notes (note ∷ []) v
unfolding noted_all
with_notes-one note v = refl

-- an initializer changes no register
init-still : (t : TypeId) (time period : ℕ) (b : Body) → acted (Init t) time period b ≡ b
init-still t time period b = ap (λ (d : Device). record b { device = d }) (ap device_in (none (registers_in b.device)) ∙ same_device b.device)
  where
    none : (r : Registers) → body_act (Init t) time period r ≡ r
    none = each_body (λ (r : Registers). body_act (Init t) time period r ≡ r) (search rules)

-- the initializer of a type that has one, and of one that has none
pub init-had : (n : ℕ) (t : TypeId) (time period : ℕ) (v w : Objects) → has_finalizer t ≡ true
    → w ≡ with_note (init_note n t) (with_edit n (acted_at (Init t) time period) v) → w ≡ with_notes (one_init n t) v
init-had n t time period v w has is =
    is
    ∙ ap (with_note (init_note n t))
    (edit-nothing n (acted_at (Init t) time period) (λ c. ap (λ (b : Body). record c { body = b }) (init-still t time period c.body)) v)
    ∙ with_notes-one (init_note n t) v
    ∙ ap (λ (b : Bool). with_notes (cond b (init_note n t ∷ []) []) v) (sym has)

pub init-none : (n : ℕ) (t : TypeId) (v : Objects) → has_finalizer t ≡ false → v ≡ with_notes (one_init n t) v
init-none n t v none = sym (with_notes-none v) ∙ ap (λ (b : Bool). with_notes (cond b (init_note n t ∷ []) []) v) (sym none)

-- the notes of the types from a place on, and of the one before it
pub inits-step : (n : ℕ) (ts : List TypeId) (left : ℕ) (d : TypeId) (first before after : Objects) → left < length ts
    → before ≡ with_notes (inits_in n (drop (left + 1) ts)) first → after ≡ with_notes (one_init n (get_or ts left d)) before
    → after ≡ with_notes (inits_in n (drop left ts)) first
inits-step n ts left d first before after within is more =
    more
    ∙ ap (λ (v : Objects). with_notes (one_init n (get_or ts left d)) v) is
    ∙ ap (λ (log : Log). record first { log = log }) (sym (parts_lem (inits_in n (drop (left + 1) ts)) (one_init n (get_or ts left d)) first.log))
    ∙ ap (λ (ns : List Note). with_notes ns first)
    (sym (ap (inits_in n) (drop_more ts left d within) ∙ inits_in-more n (get_or ts left d) (drop (left + 1) ts)))

-- at the start none
pub inits-first : (n : ℕ) (ts : List TypeId) (left : ℕ) (v : Objects) → left ≡ length ts → v ≡ with_notes (inits_in n (drop left ts)) v
inits-first n ts left v is = sym (ap (λ (l : List TypeId). with_notes (inits_in n l) v) (drop_all left ts (omega arith)) ∙ with_notes-none v)
