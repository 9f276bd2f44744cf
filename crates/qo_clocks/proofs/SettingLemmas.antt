-- A number written to the slot of a name on a board, and what other names and other objects read.
use Rattle.std.proofs.Common.{◌≡◌, refl, ap, ap₂, subst, sym, ◌∙◌, ℕ, ◌+◌, Bool, true, false, cond, eqb, ◌==◌, List, [], ◌∷◌, map, Option, Some, None, option_map, arith, slice_get}
use Rattle.std.specs.Str.{bytes_eq}
use Rattle.std.proofs.lemmas.Bool.{eqb-true, eq-eqb}
use Rattle.qo_values.specs.declared.properties.Val.{Val}
use Rattle.qo_model.specs.Board.{Board, Record, Slot, record_of, slot_named, slots_at}
use Rattle.qo_model.specs.Changes.{changed_at, set, with_changed, with_val}
use Rattle.qo_model.specs.Objects.{index_from}
use Rattle.qo_model.specs.Paths.{births}
use Rattle.qo_model.specs.Release.{edit, edited}
use Rattle.qo_model.specs.Unplug.{is_named, set_named}
use Rattle.qo_model.proofs.FirstSlotLemmas.{first-changed, found-from, named_in, named-other, none-found, other-name, slots_in}
use Rattle.qo_model.proofs.StepLemmas.{found-edited, found-birth}

-- of another name
other-changed : (g : Slot → Slot) (own name : List ℕ) → bytes_eq own name ≡ false → (slots : List (List ℕ × Slot)) (k j i : ℕ)
    → index_from (is_named own) k slots ≡ Some j → j ≡ i + k → named_in name (changed_at g i slots) ≡ named_in name slots
other-changed g own name apart slots k j i e is =
    let (m, (far, found)) = found-from (is_named own) k j slots e in
    let same : i ≡ m = omega (arith, is, far) in
    named-other g name i slots found.entry (ap (slice_get slots) same ∙ found.at) (other-name own name apart found.entry found.passes)

-- the slots of an object once one is changed

edited-own : (n i : ℕ) (g : Slot → Slot) (o : Option Record) → ((r : Record) → o ≡ Some r → r.birth ≡ n)
    → slots_in (option_map (edited n (with_changed g i)) o) ≡ changed_at g i (slots_in o)
edited-own n i g None own = refl
edited-own n i g (Some r) own =
    let here : (r.birth == n) ≡ true = eq-eqb r.birth n (own r refl) in
    ap (λ (t : Bool). (cond t (with_changed g i r) r).slots) here

edited-other : (n m i : ℕ) (g : Slot → Slot) → eqb m n ≡ false → (o : Option Record) → ((r : Record) → o ≡ Some r → r.birth ≡ m)
    → slots_in (option_map (edited n (with_changed g i)) o) ≡ slots_in o
edited-other n m i g apart None own = refl
edited-other n m i g apart (Some r) own =
    let not : (r.birth == n) ≡ false = ap (λ (k : ℕ). eqb k n) (own r refl) ∙ apart in
    ap (λ (t : Bool). (cond t (with_changed g i r) r).slots) not

module _ (b : Board) (n : ℕ) (own : List ℕ) (v : Val) where
  abbrev new : Board
  new = set_named n own v b

  abbrev into : Option ℕ → Board
  into o = elim o [ None ↦ b | Some i ↦ set n i v b ]

  edit-slots : (m i : ℕ) → slots_at (edit n (with_changed (with_val v) i) b) m ≡ slots_in (option_map (edited n (with_changed (with_val v) i)) (record_of b m))
  edit-slots m i = ap slots_in (found-edited n (with_changed (with_val v) i) (λ r. refl) m b.records)

  -- of another object
  pub slot-elsewhere : (m : ℕ) (name : List ℕ) → eqb m n ≡ false → slot_named new m name ≡ slot_named b m name
  unfolding set
  slot-elsewhere m name apart = go (index_from (is_named own) 0 (slots_at b n))
    where
      go : (o : Option ℕ) → slot_named (into o) m name ≡ slot_named b m name
      go None = refl
      go (Some i) = ap (named_in name) (edit-slots m i ∙ edited-other n m i (with_val v) apart (record_of b m) (found-birth m b.records))

  -- of another name
  pub slot-other : (m : ℕ) (name : List ℕ) → bytes_eq own name ≡ false → slot_named new m name ≡ slot_named b m name
  unfolding set
  slot-other m name apart = by (eqb m n) refl
    where
      here : slot_named new n name ≡ slot_named b n name
      here = go (index_from (is_named own) 0 (slots_at b n)) refl
        where
          go : (o : Option ℕ) → index_from (is_named own) 0 (slots_at b n) ≡ o → slot_named (into o) n name ≡ slot_named b n name
          go None e = refl
          go (Some i) e =
              ap (named_in name) (edit-slots n i ∙ edited-own n i (with_val v) (record_of b n) (found-birth n b.records))
              ∙ other-changed (with_val v) own name apart (slots_at b n) 0 i i e (omega arith)

      by : (t : Bool) → eqb m n ≡ t → slot_named new m name ≡ slot_named b m name
      by true e = subst (λ (k : ℕ). slot_named new k name ≡ slot_named b k name) (sym (eqb-true m n e)) here
      by false e = slot-elsewhere m name e

  -- its own
  pub slot-own : slot_named new n own ≡ option_map (with_val v) (slot_named b n own)
  unfolding set
  slot-own = go (index_from (is_named own) 0 (slots_at b n)) refl
    where
      go : (o : Option ℕ) → index_from (is_named own) 0 (slots_at b n) ≡ o → slot_named (into o) n own ≡ option_map (with_val v) (slot_named b n own)
      go None e =
          let none : slot_named b n own ≡ None = none-found own (slots_at b n) 0 e in
          none ∙ sym (ap (option_map (with_val v)) none)
      go (Some i) e =
          ap (named_in own) (edit-slots n i ∙ edited-own n i (with_val v) (record_of b n) (found-birth n b.records))
          ∙ first-changed (with_val v) own (slots_at b n) 0 i i e (omega arith)

  -- who is there
  births-kept : (g : Record → Record) → ((r : Record) → (g r).birth ≡ r.birth) → (rs : List Record)
      → map (λ (r : Record). r.birth) (map (edited n g) rs) ≡ map (λ (r : Record). r.birth) rs
  births-kept g same [] = refl
  births-kept g same (r ∷ rs) = ap₂ (λ (x : ℕ) (xs : List ℕ). x ∷ xs) (go (r.birth == n)) (births-kept g same rs)
    where
      go : (t : Bool) → (cond t (g r) r).birth ≡ r.birth
      go true = same r
      go false = refl

  pub births-set : births new ≡ births b
  unfolding set
  births-set = go (index_from (is_named own) 0 (slots_at b n))
    where
      go : (o : Option ℕ) → births (into o) ≡ births b
      go None = refl
      go (Some i) = births-kept (with_changed (with_val v) i) (λ r. refl) b.records
