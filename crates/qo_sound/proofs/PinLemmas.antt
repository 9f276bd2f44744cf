-- The steps by which a device is added, while it is held from outside, come to the board with it.
use Rattle.std.proofs.Common.{◌≡◌, refl, ap, sym, subst, ◌∙◌, ℕ, ◌+◌, true, false, ◌==◌, List, [], ◌∷◌, ◌++◌, filter, codes, Option, Some, None}
use Rattle.qo_model.proofs.Common.{if◌then◌else◌, Act, Realize, Unrealize, Enter, Hold, Exit, TypeId, Val, Range, Board, slots_at, add, fresh, make, set, acted, clock_of, Given, init_notes, index_from, path_down_to, Resources, Wanted, acted_all, addressed_at, bus_births, clocked, counted, drafted, joined, link_named, passed, properties_made, source_for, started, stood, notified_plug, valued, with_body_of, with_device, with_given, with_new, with_plugged, with_source, refs, after, edit, finalize, pin, put_in_order, unpin, count, is_not_in_reset, phased, plugged, post, slots_of, is_named, set_named}
use Rattle.qo_values.specs.declared.properties.Val.TheVariants as val
use Rattle.qo_model.proofs.PinLemmas.{IsUp, put-among, put-back}
use Rattle.qo_sound.proofs.DraftLemmas.{with_pins, rows-blind}

-- what an object that has references gains by a pin, it loses with it
pub unpin-kept : (c : Board) (n : ℕ) → IsUp c.pins → (refs c n == 0) ≡ false → unpin (pin c n) n ≡ c
unfolding pin unpin
unpin-kept c n up held =
    rw (unpin, put-among n c.pins) (ap (λ (q : List ℕ). after finalize (record c { pins = q }) (Some n)) (put-back n c.pins up) ∙ rw (after, held) refl)

-- and one that has none comes free
pub unpin-free : (c : Board) (n : ℕ) → IsUp c.pins → (refs c n == 0) ≡ true → unpin (pin c n) n ≡ finalize c n
unfolding pin unpin
unpin-free c n up free =
    rw (unpin, put-among n c.pins) (ap (λ (q : List ℕ). after finalize (record c { pins = q }) (Some n)) (put-back n c.pins up) ∙ rw (after, free) refl)

-- no step sees the pins

module _ (q : List ℕ) where
  set-blind : (n : ℕ) (name : List ℕ) (v : Val) (c : Board) → set_named n name v (with_pins q c) ≡ with_pins q (set_named n name v c)
  unfolding set
  set-blind n name v c = go (index_from (is_named name) 0 (slots_at c n)) refl
    where
      go : (o : Option ℕ) → index_from (is_named name) 0 (slots_at c n) ≡ o → set_named n name v (with_pins q c) ≡ with_pins q (set_named n name v c)
      go None e = rw (set_named, e) refl
      go (Some i) e = rw (set_named, e) refl

  link-blind : (n : ℕ) (name : List ℕ) (m : ℕ) (c : Board) → link_named n name m (with_pins q c) ≡ with_pins q (link_named n name m c)
  link-blind n name m c = go (index_from (is_named name) 0 (slots_at c n)) refl
    where
      go : (o : Option ℕ) → index_from (is_named name) 0 (slots_at c n) ≡ o → link_named n name m (with_pins q c) ≡ with_pins q (link_named n name m c)
      go None e = rw (link_named, e) refl
      go (Some i) e = rw (link_named, e) refl

  valued-blind : (b : Board) (n : ℕ) (props : List Given) (resources : Resources) (c : Board)
      → valued b n props resources (with_pins q c) ≡ with_pins q (valued b n props resources c)
  valued-blind b n props resources c =
      ap (λ (x : Board). set_named n (codes "realized") (val.Bool true) (link_named n (codes "parent_bus") resources.bus x))
      (set-blind n (codes "slot") (val.Uint resources.slot) (edit n (with_given b props) c))
      ∙ ap (set_named n (codes "realized") (val.Bool true))
      (link-blind n (codes "parent_bus") resources.bus (set_named n (codes "slot") (val.Uint resources.slot) (edit n (with_given b props) c)))
      ∙ set-blind n (codes "realized") (val.Bool true)
      (link_named n (codes "parent_bus") resources.bus (set_named n (codes "slot") (val.Uint resources.slot) (edit n (with_given b props) c)))

  addressed-blind : (n : ℕ) (range : Option Range) (c : Board) → addressed_at n range (with_pins q c) ≡ with_pins q (addressed_at n range c)
  addressed-blind n None c = refl
  addressed-blind n (Some r) c = set-blind n (codes "addr") (val.Uint r.at) c

  joined-blind : (b : Board) (n : ℕ) (a : Wanted) (resources : Resources) (c : Board)
      → joined b n a resources (with_pins q c) ≡ with_pins q (joined b n a resources c)
  unfolding add
  joined-blind b n a resources c = refl

  pub stood-blind : (b : Board) (n : ℕ) (a : Wanted) (resources : Resources) (c : Board)
      → stood b n a resources (with_pins q c) ≡ with_pins q (stood b n a resources c)
  stood-blind b n a resources c =
      ap (λ (x : Board). edit n (with_body_of a.id resources.range) (addressed_at n resources.range (valued b n a.props resources x)))
      (joined-blind b n a resources c)
      ∙ ap (λ (x : Board). edit n (with_body_of a.id resources.range) (addressed_at n resources.range x))
      (valued-blind b n a.props resources (joined b n a resources c))
      ∙ ap (edit n (with_body_of a.id resources.range)) (addressed-blind n resources.range (valued b n a.props resources (joined b n a resources c)))

  source-blind : (source : ℕ) (clock : Option ℕ) (c : Board) → with_source source clock (with_pins q c) ≡ with_pins q (with_source source clock c)
  source-blind source None c = refl
  source-blind source (Some m) c = link-blind m (codes "source") source c

  counted-blind : (id : Option (List ℕ)) (c : Board) → counted id (with_pins q c) ≡ with_pins q (counted id c)
  counted-blind None c = refl
  counted-blind (Some id) c = refl

  all-blind : (act : Act) (ns : List ℕ) (c : Board) → acted_all act ns (with_pins q c) ≡ with_pins q (acted_all act ns c)
  unfolding acted
  all-blind act [] c = refl
  all-blind act (n ∷ ns) c = all-blind act ns (acted act n 0 c)

  phased-blind : (act : Act) (ns : List ℕ) (c : Board) → phased act ns (with_pins q c) ≡ with_pins q (phased act ns c)
  unfolding acted
  phased-blind act [] c = refl
  phased-blind act (n ∷ ns) c = phased-blind act ns (acted act n 0 c)

  plugged-blind : (n : ℕ) (c : Board) → plugged (with_pins q c) n ≡ with_pins q (plugged c n)
  unfolding plugged post
  plugged-blind n c =
      ap (λ (x : Board). phased Exit (filter (is_not_in_reset c) (post c n)) (phased Hold (post c n) x)) (phased-blind Enter (post c n) c)
      ∙ ap (phased Exit (filter (is_not_in_reset c) (post c n))) (phased-blind Hold (post c n) (phased Enter (post c n) c))
      ∙ phased-blind Exit (filter (is_not_in_reset c) (post c n)) (phased Hold (post c n) (phased Enter (post c n) c))

  told-blind : (n : ℕ) (c : Board) → notified_plug n (with_pins q c) ≡ with_pins q (notified_plug n c)
  unfolding path_down_to
  told-blind n c = refl

  pub started-blind : (n : ℕ) (t : TypeId) (c : Board) → started n t (with_pins q c) ≡ with_pins q (started n t c)
  started-blind n t c =
      ap (λ (x : Board). notified_plug n (plugged x n)) (all-blind Realize (n ∷ bus_births n t) c)
      ∙ ap (notified_plug n) (plugged-blind n (acted_all Realize (n ∷ bus_births n t) c))
      ∙ told-blind n (plugged (acted_all Realize (n ∷ bus_births n t) c) n)

  all-pins : (act : Act) (ns : List ℕ) (c : Board) → (acted_all act ns c).pins ≡ c.pins
  unfolding acted
  all-pins act [] c = refl
  all-pins act (n ∷ ns) c = all-pins act ns (acted act n 0 c)

  -- the acts after which an attempt is given up
  module _ (b : Board) (bus n : ℕ) (t : TypeId) (c : Board) where
    abbrev buses : List ℕ
    buses = bus_births n t

    abbrev last : List ℕ
    last = buses ++ n ∷ []

    abbrev exits : List ℕ
    exits = if count b bus == 0 then last else []

    abbrev begun : Board
    begun = acted_all Realize (n ∷ buses) c

    abbrev entered : Board
    entered = acted_all Enter last begun

    abbrev stopped : Board
    stopped = acted_all Hold last entered

    pub passed-blind : passed b bus n t (with_pins q c) ≡ with_pins q (passed b bus n t c)
    passed-blind =
        ap (λ (x : Board). acted_all Unrealize last (acted_all Exit exits (acted_all Hold last (acted_all Enter last x)))) (all-blind Realize (n ∷ buses) c)
        ∙ ap (λ (x : Board). acted_all Unrealize last (acted_all Exit exits (acted_all Hold last x))) (all-blind Enter last begun)
        ∙ ap (λ (x : Board). acted_all Unrealize last (acted_all Exit exits x)) (all-blind Hold last entered)
        ∙ ap (acted_all Unrealize last) (all-blind Exit exits stopped)
        ∙ all-blind Unrealize last (acted_all Exit exits stopped)

    pub passed-pins : (passed b bus n t c).pins ≡ c.pins
    passed-pins =
        all-pins Unrealize last (acted_all Exit exits stopped) ∙ all-pins Exit exits stopped ∙ all-pins Hold last entered ∙ all-pins Enter last begun
        ∙ all-pins Realize (n ∷ buses) c

  -- all steps but the pin
  pub steps-blind : (b : Board) (t : TypeId) (a : Wanted) (resources : Resources)
      → started (b.born + 1) t (counted a.id (clocked (source_for b resources.bus) (b.born + 1)
      (stood b (b.born + 1) a resources (properties_made (b.born + 1) t (slots_of t) (with_pins q (with_new (fresh (b.born + 1) t) b))))))
      ≡ with_pins q (with_plugged b t a resources)
  steps-blind b t a resources =
      ap (λ (x : Board). started n t (counted a.id (clocked (source_for b resources.bus) n (stood b n a resources x))))
      (rows-blind q n t (slots_of t) (with_new (fresh n t) b))
      ∙ ap (λ (x : Board). started n t (counted a.id (clocked (source_for b resources.bus) n x))) (stood-blind b n a resources (drafted b t))
      ∙ ap (λ (x : Board). started n t (counted a.id x))
      (source-blind (source_for b resources.bus) (clock_of (stood b n a resources (drafted b t)) n) (stood b n a resources (drafted b t)))
      ∙ ap (started n t) (counted-blind a.id (clocked (source_for b resources.bus) n (stood b n a resources (drafted b t))))
      ∙ started-blind n t (with_device b t a resources)
    where
      n : ℕ
      n = b.born + 1

-- after all steps the pin is let go
pub let-go : (c : Board) (n : ℕ) (q : List ℕ) → c.pins ≡ 1 ∷ [] → q ≡ put_in_order n (1 ∷ []) → (refs c n == 0) ≡ false → unpin (with_pins q c) n ≡ c
unfolding pin
let-go c n q pinned is held =
    ap (λ (ps : List ℕ). unpin (with_pins ps c) n) (is ∙ ap (put_in_order n) (sym pinned))
    ∙ unpin-kept c n (subst IsUp (sym pinned) (tt, tt)) held

pub let-free : (c : Board) (n : ℕ) (q : List ℕ) → c.pins ≡ 1 ∷ [] → q ≡ put_in_order n (1 ∷ []) → (refs c n == 0) ≡ true
    → unpin (with_pins q c) n ≡ finalize c n
unfolding pin
let-free c n q pinned is free =
    ap (λ (ps : List ℕ). unpin (with_pins ps c) n) (is ∙ ap (put_in_order n) (sym pinned))
    ∙ unpin-free c n (subst IsUp (sym pinned) (tt, tt)) free

-- a device as it is created: made, and its initializers noted
pub created : (t : TypeId) (b : Board)
    → record (make t b) { notes = b.notes ++ init_notes (b.born + 1) t } ≡ with_pins (put_in_order (b.born + 1) b.pins) (with_new (fresh (b.born + 1) t) b)
unfolding make
created t b = refl
