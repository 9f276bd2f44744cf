-- Final notes over lists of changes, from the opening board on.
use Rattle.std.proofs.Common.{◌≡◌, refl, ap, ap₂, sym, ◌∙◌, ℕ, zero, suc, ◌<◌, ◌≤◌, leb, Bool, true, false, ◌||◌, ◌==◌, if◌then◌else◌, List, [], ◌∷◌, ◌++◌, map, Option, Some, None, is_some, arith, rules}
use Rattle.qo_model.proofs.Common.{AllByRecursion, list_any, option_map_or, Act, Init, Realize, Unrealize, Enter, Hold, Exit, Pre, Update, TypeId, Board, Record, is_live, kind_of, beginning, ending, is_bound, is_final, FinalOnce, IsBorn, NotesInOrder, Story, Change, after_changes, changed, FinalOnceLaw, opening_board, notes_on, inits}
use Rattle.qo_values.specs.declared.kinds.Act.TheVariants.{Wake}
use Rattle.qo_model.specs.declared.notes.Deed.{Deed}
use Rattle.qo_model.specs.declared.notes.Deed.TheVariants.{Did, Final}
use Rattle.qo_model.specs.declared.notes.Note.{Note}
use Rattle.std.proofs.lemmas.Bool.{eqb-true}
use Rattle.std.proofs.lemmas.List.Folds.{list_any-append}
use Rattle.qo_model.proofs.FinalNotesLemmas.{finalize-keeps, kind-live, let_go-keeps, live-of-kind, unpin-keeps}
use Rattle.qo_model.proofs.FinalNotesChangesLemmas.{changed-keeps}
use Rattle.qo_model.proofs.FinalNotesGrowthLemmas.{act-keeps}
use Rattle.qo_model.proofs.StepLemmas.{found_at}

-- who is found among records passes what all their births pass
found-all : (P : ℕ → Type 0) (rs : List Record) → AllByRecursion (λ (r : Record). P r.birth) rs → (n : ℕ) → is_some (found_at n rs) ≡ true → P n
found-all P [] h n e = cc
found-all P (r ∷ rs) h n e = go (r.birth == n) refl (found-all P rs h.1 n)
  where
    go : (t : Bool) → (r.birth == n) ≡ t → (is_some (found_at n rs) ≡ true → P n) → P n
    go true p rest = rw (sym (eqb-true r.birth n p)) h.0
    go false p rest = rest (rw p at e)

-- the opening board: births 1 to 8 are there, and nothing was noted
opening-within : (n : ℕ) → is_live opening_board n ≡ true → (0 < n) × (n ≤ 8)
unfolding opening_board
opening-within n e = found-all (λ k. (0 < k) × (k ≤ 8)) opening_board.records (search rules) n e

opening-live : (n : ℕ) → 0 < n → n ≤ 8 → is_live opening_board n ≡ true
unfolding opening_board
opening-live zero low high = absurd (omega arith)
opening-live (suc zero) low high = refl
opening-live (suc (suc zero)) low high = refl
opening-live (suc (suc (suc zero))) low high = refl
opening-live (suc (suc (suc (suc zero)))) low high = refl
opening-live (suc (suc (suc (suc (suc zero))))) low high = refl
opening-live (suc (suc (suc (suc (suc (suc zero)))))) low high = refl
opening-live (suc (suc (suc (suc (suc (suc (suc zero))))))) low high = refl
opening-live (suc (suc (suc (suc (suc (suc (suc (suc zero)))))))) low high = refl
opening-live (suc (suc (suc (suc (suc (suc (suc (suc (suc n))))))))) low high = absurd (omega arith)

opening-born : opening_board.born ≡ 8
unfolding opening_board
opening-born = refl

opening-notes : opening_board.notes ≡ []
unfolding opening_board
opening-notes = refl

pub opening_notes : NotesInOrder opening_board
opening_notes =
    record {
      opened = rw opening-born (omega arith);
      counted = λ n e. rw opening-born (opening-within n e);
      unborn = λ n k. ap (notes_on n) opening-notes;
      living = living;
      gone = λ n born e. gone n (rw opening-born at born) e;
    }
  where
    living : (n : ℕ) (t : TypeId) → kind_of opening_board n ≡ Some t → Story n t false opening_board.notes
    living n t e =
        let within : (0 < n) × (n ≤ 8) = opening-within n (live-of-kind opening_board n t e) in
        let few : n ≤ 8 = within.1 in
        let first : leb n 8 ≡ true = grind arith in
        record { between = []; neither = refl; in_order = ap (notes_on n) opening-notes ∙ rw (beginning, first) refl }

    gone : (n : ℕ) → (0 < n) × (n ≤ 8) → is_live opening_board n ≡ false → (t : TypeId) × Story n t true opening_board.notes
    gone n born e = let clash : true ≡ false = sym (opening-live n born.0 born.1) ∙ e in cc

-- any changes keep the notes in order
pub after_changes-keeps : (changes : List Change) (b : Board) → NotesInOrder b → NotesInOrder (after_changes b changes)
after_changes-keeps [] b o = o
after_changes-keeps (change ∷ changes) b o = after_changes-keeps changes (changed b change) (changed-keeps b change o)

-- init notes, and notes that are neither init nor final, are not final
inits-not-final : (n : ℕ) (ts : List TypeId) → list_any is_final (map (λ (t : TypeId). record { birth = n; deed = Did (Init t) }) ts) ≡ false
inits-not-final n [] = refl
inits-not-final n (t ∷ ts) = inits-not-final n ts

beginning-not-final : (n : ℕ) (t : TypeId) → list_any is_final (beginning n t) ≡ false
beginning-not-final n t = go (leb n 8) refl
  where
    go : (s : Bool) → leb n 8 ≡ s → list_any is_final (beginning n t) ≡ false
    go true p = rw (beginning, p) refl
    go false p = rw (beginning, p) (inits-not-final n (inits t))

unbound-not-final : (xs : List Note) → list_any is_bound xs ≡ false → list_any is_final xs ≡ false
unbound-not-final [] e = refl
unbound-not-final (x ∷ xs) e = go x.deed refl (unbound-not-final xs)
  where
    go : (d : Deed) → x.deed ≡ d → (list_any is_bound xs ≡ false → list_any is_final xs ≡ false) → list_any is_final (x ∷ xs) ≡ false
    go (Did act) p rest = rw (is_final, p) (rest (unbound act p))
      where
        unbound : (act : Act) → x.deed ≡ Did act → list_any is_bound xs ≡ false
        unbound (Init t) q = let clash : true ≡ false = rw (is_bound, q) at e in cc
        unbound Realize q = rw (is_bound, q) at e
        unbound Unrealize q = rw (is_bound, q) at e
        unbound Enter q = rw (is_bound, q) at e
        unbound Wake q = rw (is_bound, q) at e
        unbound Hold q = rw (is_bound, q) at e
        unbound Exit q = rw (is_bound, q) at e
        unbound Pre q = rw (is_bound, q) at e
        unbound Update q = rw (is_bound, q) at e
    go (Final t) p rest = let clash : true ≡ false = rw (is_bound, p) at e in cc

-- so a story has final notes at most once
abbrev last_of : TypeId → Bool → Option TypeId
last_of t true = Some t
last_of t false = None

story-once : (n : ℕ) (t : TypeId) (over : Bool) (notes : List Note) → Story n t over notes → FinalOnce n notes
story-once n t over notes s =
    record {
      before = beginning n t ++ s.between;
      none_final = list_any-append is_final (beginning n t) s.between
          ∙ ap₂ (λ (u v : Bool). u || v) (beginning-not-final n t) (unbound-not-final s.between s.neither);
      last = last_of t over;
      in_order = s.in_order ∙ ap (λ (xs : List Note). beginning n t ++ s.between ++ xs) (ends over);
    }
  where
    ends : (v : Bool) → (if v then ending n t else []) ≡ option_map_or (ending n) (last_of t v) []
    ends true = refl
    ends false = refl

-- where notes are in order, each birth so far has a story, and any birth its final notes at most once
told : (b : Board) → NotesInOrder b → (n : ℕ) → IsBorn b n → (t : Option TypeId) → kind_of b n ≡ t → FinalOnce n b.notes
told b o n born (Some t) p = story-once n t false b.notes (o.living n t p)
told b o n born None p =
    let over : (t : TypeId) × Story n t true b.notes = o.gone n born (sym (kind-live b n) ∙ ap is_some p) in
    story-once n over.0 true b.notes over.1

pub once : (b : Board) → NotesInOrder b → (n : ℕ) → FinalOnce n b.notes
once b o n = go (leb 1 n) refl (leb n b.born) refl
  where
    none : ¬ (IsBorn b n) → FinalOnce n b.notes
    none k = record { before = []; none_final = refl; last = None; in_order = o.unborn n k }

    go : (s : Bool) → leb 1 n ≡ s → (u : Bool) → leb n b.born ≡ u → FinalOnce n b.notes
    go true p true q =
        let low : 0 < n = grind arith in
        let high : n ≤ b.born = grind arith in
        told b o n (low, high) (kind_of b n) refl
    go true p false q = none (λ born. let high : n ≤ b.born = born.1 in absurd (grind arith))
    go false p u q = none (λ born. let low : 0 < n = born.0 in absurd (grind arith))

pub final_once_lem : FinalOnceLaw
final_once_lem =
    record {
      finalized = finalize-keeps;
      slot_let_go = let_go-keeps;
      unpinned = unpin-keeps;
      acted = act-keeps;
      step = changed-keeps;
      opening = opening_notes;
      run = λ changes. after_changes-keeps changes opening_board opening_notes;
      once = once;
      once_in_run = λ changes n. once (after_changes opening_board changes) (after_changes-keeps changes opening_board opening_notes) n;
    }
