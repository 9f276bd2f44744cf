-- The objects of the opening board.
use Rattle.std.proofs.Common.{◌≡◌, refl, ap, sym, subst, ◌∙◌, ℕ, ◌+◌, ◌<◌, ◌≤◌, Bool, true, false, eqb, List, [], ◌∷◌, ◌++◌, codes, position, Option, Some, None, option_map, arith}
use Rattle.std.specs.Option.{option_map_or}
use Rattle.std.specs.Str.{bytes_eq}
use Rattle.std.proofs.lemmas.Bool.{eqb-true}
use Rattle.std.proofs.lemmas.Bool.Decides.{nat_tests}
use Rattle.std.proofs.lemmas.Option.{same_Some}
use Rattle.qo_values.specs.declared.kinds.TypeId.{TypeId}
use Rattle.qo_values.specs.declared.kinds.TypeId.TheVariants.{Clock}
use Rattle.qo_kinds.proofs.BodyLemmas.{fresh-bare}
use Rattle.qo_slots.specs.declared.keys.Key.{Key}
use Rattle.qo_heap.specs.Rows.{IsLive, Rises, births, row_at}
use Rattle.qo_heap.proofs.RowsLemmas.{rises-up}
use Rattle.qo_model.specs.Board as board
use Rattle.qo_model.specs.Changes.{make, add, set, with_fresh_slots}
use Rattle.qo_model.specs.Opening.{opening_board}
use Rattle.qo_model.specs.Release.{without_pin}
use Rattle.qo_model.specs.Types.{types}
use Rattle.qo_heap.proofs.Logs.{none_lem}
use Rattle.qo_object.specs.declared.slots.Slot.TheVariants.{Child}
use Rattle.qo_object.specs.Slots.{Named}
use Rattle.qo_object.specs.Content.{Content, fresh, with_all_slots, with_slot, as_made}
use Rattle.qo_object.specs.Content as content
use Rattle.qo_heap.specs.Board.{Shows}
use Rattle.qo_heap.specs.Objects.{IsHeap, Objects, content_of, pins_of, slots_of, with_edit, no_objects_made}
use Rattle.qo_heap.proofs.BookLemmas.{book-edit}
use Rattle.qo_heap.proofs.EndLemmas.{live-more}
use Rattle.qo_heap.proofs.HeapLemmas.{live-edit}
use Rattle.qo_heap.proofs.BoardChanges.{shows-added, shows-made, shows-set}
use Rattle.qo_heap.proofs.BoardEdits.{shows-without_pin}
use Rattle.qo_heap.proofs.BoardObjects.{content-edited, content-other}
use Rattle.qo_properties.specs.NewSlots.{new_slots, with_slots}
use Rattle.qo_properties.proofs.AddKept.{fresh-kept, more-kept, none-new}
use Rattle.qo_properties.proofs.AddLemmas.{apart-from, edit-newest, others}
use Rattle.qo_properties.proofs.ClaimLemmas.{more-keeps}
use Rattle.qo_properties.proofs.KeptLemmas.{none-edited}
use Rattle.qo_properties.proofs.OwnLemmas.{own-child, own-edited, own-fresh, own-more, own-slotted}
use Rattle.qo_values.specs.declared.limits.TheConstants.{SYSTEM_PERIOD}
use Rattle.qo_values.specs.declared.properties.Val.TheVariants.{Uint}
use Rattle.qo_clocks.specs.Kept.{with_periods}
use Rattle.qo_clocks.proofs.KeptLemmas.{periods-shown}
use Rattle.qo_properties.proofs.FillingLemmas.{edit-twice}
use Rattle.qo_properties.specs.OpeningSteps.{IsMade, no_objects, ticking, with_new, with_new_child, with_all}

-- rows with one more, of a later birth

abbrev Row : Type 0
Row = Key × Content

row-new : (above last : ℕ) (rows : List Row) (key : Key) (c : Content) → Rises above (births rows) last → last < key.birth
    → row_at (rows ++ (key, c) ∷ []) key.birth ≡ Some (key, c)
row-new above last [] key c rises later = let here : eqb key.birth key.birth ≡ true = grind (arith, nat_tests) in rw here refl
row-new above last (row ∷ rows) key c rises later =
    let up : row.0.birth ≤ last = rises-up row.0.birth last (births rows) rises.1 in
    let other : eqb row.0.birth key.birth ≡ false = grind (arith, nat_tests) in
    rw other (row-new row.0.birth last rows key c rises.1 later)

-- who is there has a birth that was given
live-born : (above last : ℕ) (rows : List Row) (key : Key) → Rises above (births rows) last → IsLive rows key → key.birth ≤ last
live-born above last [] key rises live = absurd live
live-born above last (row ∷ rows) key rises live = go (eqb row.0.birth key.birth) refl (live-born row.0.birth last rows key rises.1)
  where
    go : (b : Bool) → eqb row.0.birth key.birth ≡ b → (IsLive rows key → key.birth ≤ last) → key.birth ≤ last
    go true is later = let same : row.0.birth ≡ key.birth = eqb-true row.0.birth key.birth is in let up = rises-up row.0.birth last (births rows) rises.1 in
        omega arith
    go false is later = later (rw is at live)

-- an object made

abbrev pub made_in : Objects → Key → TypeId → Objects
made_in v key kind = record v { rows = v.rows ++ (key, fresh kind) ∷ []; born = v.born + 1 }

module _ (v : Objects) (good : IsHeap v) (key : Key) (kind : TypeId) (birth : key.birth ≡ v.born + 1) where
  row-made : row_at (made_in v key kind).rows key.birth ≡ Some (key, fresh kind)
  row-made = row-new 0 v.born v.rows key (fresh kind) good.rising (omega arith)

  pub live-made : IsLive (made_in v key kind).rows key
  live-made = rw row-made refl

  pub bare-made : slots_of (made_in v key kind) key.birth ≡ []
  bare-made = ap (λ (o : Option Content). option_map_or (λ (c : Content). c.slots) o []) (ap (option_map (λ (row : Row). row.1)) row-made)

  pub is-made : IsMade v (with_edit key.birth (with_slots (new_slots kind)) (made_in v key kind)) kind 1 key
  is-made =
      record {
        birth = birth;
        born = refl;
        live = live-edit key.birth (with_slots (new_slots kind)) (made_in v key kind).rows key live-made;
        content = content-edited (made_in v key kind) key.birth (with_slots (new_slots kind))
            ∙ ap (option_map (with_slots (new_slots kind))) (ap (option_map (λ (row : Row). row.1)) row-made);
        names = λ k live. live-edit key.birth (with_slots (new_slots kind)) (made_in v key kind).rows k (live-more v.rows ((key, fresh kind) ∷ []) k live);
        book = λ out h. book-edit out (made_in v key kind) key.birth (with_slots (new_slots kind)) (λ c. refl)
            (more-keeps v key (fresh kind) (v.born + 1) v.log (fresh-bare kind) refl out h);
        bare = λ none. none-edited (made_in v key kind) key.birth (with_slots (new_slots kind)) (λ c. refl)
            (none-new v (made_in v key kind) (more-kept v (made_in v key kind) key (fresh kind) (fresh-kept kind) refl) none);
        periods = λ own. own-edited (made_in v key kind) key.birth (with_slots (new_slots kind))
            (λ c there now. own-slotted kind c (same_Some c (fresh kind) (sym there ∙ ap (option_map (λ (row : Row). row.1)) row-made)))
            (own-more v (made_in v key kind) key (fresh kind) refl (own-fresh kind) own);
      }

  -- it is given its slots
  pub begun-in : (w u : Objects) → w ≡ made_in v key kind → u ≡ with_edit key.birth (with_all_slots (new_slots kind)) w
      → u ≡ with_edit key.birth (with_slots (new_slots kind)) (made_in v key kind)
  begun-in w u is change =
      let alone = others key.birth v.rows (apart-from v key.birth (omega (arith, birth)) good) in
      let same = edit-newest key (fresh kind) (with_all_slots (new_slots kind)) v.rows alone
      ∙ sym (edit-newest key (fresh kind) (with_slots (new_slots kind)) v.rows alone) in
      change ∙ ap (λ (x : Objects). with_edit key.birth (with_all_slots (new_slots kind)) x) is ∙ (λ j. record (made_in v key kind) { rows = same j })

  pub shows-new : (b : board.Board) → Shows b v → (w : Objects)
      → (Shows (make kind b) (made_in v key kind) → Shows (with_fresh_slots key.birth kind (make kind b)) w) → Shows (with_new kind b) w
  shows-new b s w then =
      let its : key.birth ≡ b.born + 1 = birth ∙ ap (λ (k : ℕ). k + 1) (sym s.born) in
      subst (λ (n : ℕ). Shows (with_fresh_slots n kind (make kind b)) w) its (then (shows-made b v s good kind key birth))

-- an object made as a child

module _ (v w : Objects) (good : IsHeap v) (parent key : Key) (kind : TypeId) (name : List ℕ) (live : IsLive v.rows parent) (made : IsMade v w kind 1 key) where
  apart : eqb key.birth parent.birth ≡ false
  apart =
      let old : parent.birth ≤ v.born = live-born 0 v.born v.rows parent good.rising live in
      let new : key.birth ≡ v.born + 1 = made.birth in
      grind (arith, nat_tests)

  abbrev child_in : Objects
  child_in = with_edit parent.birth (with_slot name (Child key)) w

  content-child : content_of child_in key.birth ≡ Some (as_made kind (new_slots kind) 1)
  content-child = content-other w parent.birth key.birth (with_slot name (Child key)) apart ∙ made.content

  pub live-child : IsLive child_in.rows key
  live-child = live-edit parent.birth (with_slot name (Child key)) w.rows key made.live

  pub pinned-child : 0 < pins_of child_in key.birth
  pinned-child = rw content-child (omega arith)

  pub is-child : IsMade v (with_edit key.birth content.without_pin child_in) kind 0 key
  is-child =
      record {
        birth = made.birth;
        born = made.born;
        live = live-edit key.birth content.without_pin child_in.rows key live-child;
        content = content-edited child_in key.birth content.without_pin ∙ ap (option_map content.without_pin) content-child;
        names = λ k l. live-edit key.birth content.without_pin child_in.rows k (live-edit parent.birth (with_slot name (Child key)) w.rows k (made.names k l));
        book = λ out h. book-edit out child_in key.birth content.without_pin (λ c. refl)
            (book-edit out w parent.birth (with_slot name (Child key)) (λ c. refl) (made.book out h));
        bare = λ none. none-edited child_in key.birth content.without_pin (λ c. refl)
            (none-edited w parent.birth (with_slot name (Child key)) (λ c. refl) (made.bare none));
        periods = λ own. own-edited child_in key.birth content.without_pin (λ c there now. now)
            (own-edited w parent.birth (with_slot name (Child key)) (λ c there now. own-child name key c now) (made.periods own));
      }

  pub shows-child : (b : board.Board) → Shows b v → Shows (with_new kind b) w → IsHeap child_in
      → Shows (with_new_child parent.birth name kind b) (with_edit key.birth content.without_pin child_in)
  shows-child b s t fine =
      let its : key.birth ≡ b.born + 1 = made.birth ∙ ap (λ (k : ℕ). k + 1) (sym s.born) in
      subst (λ (n : ℕ). Shows (without_pin (add parent.birth name (board.child n) (with_new kind b)) n) (with_edit key.birth content.without_pin child_in)) its
      (shows-without_pin (add parent.birth name (board.child key.birth) (with_new kind b)) child_in
      (shows-added (with_new kind b) w t parent.birth name (Child key)) fine key.birth pinned-child)

-- a new clock, whose period is its second slot
abbrev pub new_clock : Content
new_clock = as_made Clock (new_slots Clock) 0

pub clock-period : (v : Objects) (n : ℕ) → content_of v n ≡ Some new_clock → position (λ (s : Named). bytes_eq (codes "period") s.0) (slots_of v n) ≡ Some 1
unfolding types
clock-period v n there = rw there refl

pub period-place : (v : Objects) (n i : ℕ) → content_of v n ≡ Some new_clock → Some i ≡ position (λ (s : Named). bytes_eq (codes "period") s.0) (slots_of v n)
    → i ≡ 1
period-place v n i there at = let same : Some i ≡ Some 1 = at ∙ clock-period v n there in cc

absent : (i : ℕ) → None ≡ Some i → ⊥
absent i e = cc

pub period-there : (v : Objects) (n : ℕ) → content_of v n ≡ Some new_clock → None ≡ position (λ (s : Named). bytes_eq (codes "period") s.0) (slots_of v n) → ⊥
period-there v n there at = absent 1 (at ∙ clock-period v n there)

-- it ticks
pub ticking-is : (v : Objects) (n : ℕ) → with_edit n (with_periods SYSTEM_PERIOD SYSTEM_PERIOD) (with_edit n (content.set_at (Uint SYSTEM_PERIOD) 1) v) ≡ with_edit n ticking v
ticking-is v n = edit-twice n (with_periods SYSTEM_PERIOD SYSTEM_PERIOD) (content.set_at (Uint SYSTEM_PERIOD) 1) ticking (λ c. refl) v

pub shows-ticking : (b : board.Board) (v : Objects) → Shows b v → (n : ℕ) → Shows (set n 1 (Uint SYSTEM_PERIOD) b) (with_edit n ticking v)
shows-ticking b v s n =
    subst (λ (x : Objects). Shows (set n 1 (Uint SYSTEM_PERIOD) b) x) (ticking-is v n)
    (periods-shown n SYSTEM_PERIOD SYSTEM_PERIOD (with_edit n (content.set_at (Uint SYSTEM_PERIOD) 1) v) (set n 1 (Uint SYSTEM_PERIOD) b)
    (shows-set b v s n 1 (Uint SYSTEM_PERIOD)))

-- the beginning and the end

pub shows-none : Shows no_objects no_objects_made
shows-none = record { records = refl; born = refl; pins = refl; notes = none_lem; events = refl; now = refl }

pub all-is_opening : with_all no_objects ≡ opening_board
unfolding types opening_board make add set with_fresh_slots
all-is_opening = refl
