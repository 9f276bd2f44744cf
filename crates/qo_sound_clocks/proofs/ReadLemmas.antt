-- What is read of the clocks of a board whose tree is sound, by the slots of each object.
use Rattle.std.proofs.Common.{◌≡◌, refl, ap, sym, ◌∙◌, ℕ, Bool, true, false, List, [], ◌∷◌, Option, Some, None, option_and_then, unwrap_or, codes}
use Rattle.qo_model.proofs.Common.{AllByRecursion, IsDistinct, option_or, bytes_eq, Val, Board, Record, record_of, slots_at, div_of, mul_of, own_period, source_of, number_in, plain_in}
use Rattle.std.proofs.lemmas.Bool.{eqb-true, eq-eqb, or_right}
use Rattle.std.proofs.lemmas.Option.{same_Some}
use Rattle.std.proofs.lemmas.Slice.Eq.{bytes_eq-Decides}
use Rattle.qo_model.specs.Clocks.{weak_in}
use Rattle.qo_model.proofs.FirstSlotLemmas.{slots_in, named_in}
use Rattle.qo_sound.specs.TreeKept.{SoundTree}
use Rattle.qo_sound.proofs.FirmBoardLemmas.{HasNames}
use Rattle.qo_sound.proofs.SearchLemmas.{all-found}
use Rattle.qo_sound.proofs.SlotLemmas.{names_in}
use Rattle.qo_sound.proofs.ViewLemmas.{PinsRootAlone, rest-from_sound}
use Rattle.qo_sound_clocks.proofs.SlotLemmas.{div_in, is_target, mul_in, own_in, plain_of, sees, sees_it, Slots}

-- a source is seen

pub target-seen : (s : ℕ) (o : Option ℕ) → o ≡ Some s → is_target s o ≡ true
target-seen s None e = cc
target-seen s (Some m) e = eq-eqb m s (same_Some m s e)

pub seen-target : (s : ℕ) (o : Option ℕ) → is_target s o ≡ true → o ≡ Some s
seen-target s None e = cc
seen-target s (Some m) e = ap (λ (k : ℕ). Some k) (eqb-true m s e)

seen : (s : ℕ) (slots : Slots) → option_and_then weak_in (named_in (codes "source") slots) ≡ Some s → sees s slots ≡ true
seen s [] e = cc
seen s (x ∷ xs) e = go (bytes_eq x.0 (codes "source")) refl (seen s xs)
  where
    go : (t : Bool) → bytes_eq x.0 (codes "source") ≡ t → (option_and_then weak_in (named_in (codes "source") xs) ≡ Some s → sees s xs ≡ true)
        → sees s (x ∷ xs) ≡ true
    go true p rest =
        let own : weak_in x.1 ≡ Some s = rw p at e in
        let here : sees_it s x ≡ true = rw p (target-seen s (weak_in x.1) own) in
        rw here refl
    go false p rest = or_right (sees_it s x) (sees s xs) (rest (rw p at e))

-- where names differ, no other slot has the name of the first

module _ (own name : List ℕ) (is : own ≡ name) where
  pub none-plain : (xs : Slots) → AllByRecursion (λ m. bytes_eq own m ≡ false) (names_in xs) → plain_of name xs ≡ None
  none-plain [] h = refl
  none-plain (x ∷ xs) h = go (bytes_eq x.0 name) refl (none-plain xs h.1)
    where
      go : (t : Bool) → bytes_eq x.0 name ≡ t → plain_of name xs ≡ None → plain_of name (x ∷ xs) ≡ None
      go true p rest =
          let same : own ≡ x.0 = is ∙ sym ((bytes_eq-Decides x.0 name).0 p) in
          absurd (let clash : true ≡ false = sym ((bytes_eq-Decides own x.0).1 same) ∙ h.0 in cc)
      go false p rest = rw p rest

  none-seen : (s : ℕ) → name ≡ codes "source" → (xs : Slots) → AllByRecursion (λ m. bytes_eq own m ≡ false) (names_in xs) → sees s xs ≡ false
  none-seen s source [] h = refl
  none-seen s source (x ∷ xs) h = go (bytes_eq x.0 (codes "source")) refl (none-seen s source xs h.1)
    where
      go : (t : Bool) → bytes_eq x.0 (codes "source") ≡ t → sees s xs ≡ false → sees s (x ∷ xs) ≡ false
      go true p rest =
          let same : own ≡ x.0 = is ∙ source ∙ sym ((bytes_eq-Decides x.0 (codes "source")).0 p) in
          absurd (let clash : true ≡ false = sym ((bytes_eq-Decides own x.0).1 same) ∙ h.0 in cc)
      go false p rest = rw p rest

pub plain-read : (name : List ℕ) (xs : Slots) → IsDistinct bytes_eq (names_in xs) → option_and_then plain_in (named_in name xs) ≡ plain_of name xs
unfolding IsDistinct
plain-read name [] h = refl
plain-read name (x ∷ xs) h = go (bytes_eq x.0 name) refl (plain-read name xs h.1)
  where
    or-none : (o : Option Val) → plain_of name xs ≡ None → o ≡ option_or o (plain_of name xs)
    or-none None e = sym e
    or-none (Some v) e = refl

    go : (t : Bool) → bytes_eq x.0 name ≡ t → option_and_then plain_in (named_in name xs) ≡ plain_of name xs
        → option_and_then plain_in (named_in name (x ∷ xs)) ≡ plain_of name (x ∷ xs)
    go true p rest = rw p (or-none (plain_in x.1) (none-plain x.0 name ((bytes_eq-Decides x.0 name).0 p) xs h.0))
    go false p rest = rw p rest

seen-back : (s : ℕ) (xs : Slots) → IsDistinct bytes_eq (names_in xs) → sees s xs ≡ true → option_and_then weak_in (named_in (codes "source") xs) ≡ Some s
unfolding IsDistinct
seen-back s [] h e = cc
seen-back s (x ∷ xs) h e = go (bytes_eq x.0 (codes "source")) refl (seen-back s xs h.1)
  where
    go : (t : Bool) → bytes_eq x.0 (codes "source") ≡ t → (sees s xs ≡ true → option_and_then weak_in (named_in (codes "source") xs) ≡ Some s)
        → option_and_then weak_in (named_in (codes "source") (x ∷ xs)) ≡ Some s
    go true p rest = rw p (seen-target s (weak_in x.1) (by (is_target s (weak_in x.1)) refl))
      where
        others : sees s xs ≡ false
        others = none-seen x.0 (codes "source") ((bytes_eq-Decides x.0 (codes "source")).0 p) s refl xs h.0

        by : (t : Bool) → is_target s (weak_in x.1) ≡ t → is_target s (weak_in x.1) ≡ true
        by true q = q
        by false q = absurd (let clash : false ≡ true = sym others ∙ (rw (p, q) at e) in cc)
    go false p rest = rw p (rest (rw p at e))

-- what is read of a board
pub record Reads (b : Board) : Type 0 where
  pub seen : (c s : ℕ) → source_of b c ≡ Some s → sees s (slots_at b c) ≡ true
  pub source : (c s : ℕ) → sees s (slots_at b c) ≡ true → source_of b c ≡ Some s
  pub own : (c : ℕ) → own_period b c ≡ own_in (slots_at b c)
  pub mul : (c : ℕ) → mul_of b c ≡ mul_in (slots_at b c)
  pub div : (c : ℕ) → div_of b c ≡ div_in (slots_at b c)

-- where the names of each object's slots differ
pub named-reads : (b : Board) → AllByRecursion HasNames b.records → Reads b
unfolding IsDistinct
named-reads b named =
    record {
      seen = λ c s e. seen s (slots_at b c) e;
      source = λ c s e. seen-back s (slots_at b c) (names c) e;
      own = λ c. ap (λ (o : Option Val). unwrap_or (option_and_then number_in o) 0) (plain-read (codes "period") (slots_at b c) (names c));
      mul = λ c. ap (λ (o : Option Val). unwrap_or (option_and_then number_in o) 1) (plain-read (codes "mul") (slots_at b c) (names c));
      div = λ c. ap (λ (o : Option Val). unwrap_or (option_and_then number_in o) 1) (plain-read (codes "div") (slots_at b c) (names c));
    }
  where
    names : (c : ℕ) → IsDistinct bytes_eq (names_in (slots_at b c))
    names c = go (record_of b c) refl
      where
        go : (o : Option Record) → record_of b c ≡ o → IsDistinct bytes_eq (names_in (slots_in o))
        go None e = tt
        go (Some r) e = all-found HasNames c b.records named r e

pub tree-named : (b : Board) → SoundTree b → AllByRecursion HasNames b.records
tree-named b tree = let rest : PinsRootAlone b = rest-from_sound b tree in rest.used.firm.named

pub tree-reads : (b : Board) → SoundTree b → Reads b
tree-reads b tree = named-reads b (tree-named b tree)
