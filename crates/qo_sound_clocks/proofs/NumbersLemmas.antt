-- The law: the numbers of clocks stay as wide as their properties.
use Rattle.std.proofs.Common.{◌≡◌, ◌⊎◌, inl, inr, refl, ap, sym, subst, ◌∙◌, rules, ℕ, ◌<◌, ◌≤◌, ◌^◌, Bool, true, false, ◌&&◌, eqb, List, Option, Some, None, is_some, option_and_then, unwrap_or, codes, Ok, Err, arith}
use Rattle.qo_model.proofs.Common.{nat_lt, AllByRecursion, bytes_eq, E45, E46, TypeId, Val, Board, Record, record_of, slots_at, clock_scaled, clock_set, div_of, mul_of, own_period, source_of, number_at, number_in, opening_board, Resources, Wanted, plug, plug_attempt, source_for, with_plugged, is_a, types, set_named}
use Rattle.std.proofs.lemmas.Bool.{and_parts, cases_lt, eqb-true}
use Rattle.std.proofs.lemmas.Bool.Decides.{nat_tests}
use Rattle.qo_values.specs.declared.properties.Val.TheVariants as val
use Rattle.qo_model.proofs.FirstSlotLemmas.{slots_in}
use Rattle.qo_sound.specs.TreeKept.{SoundTree}
use Rattle.qo_sound.proofs.SearchLemmas.{all-found}
use Rattle.qo_sound.proofs.TreeKeptLemmas.{sound_kept_lem}
use Rattle.qo_sound.proofs.QuietStepsLemmas.{quiet-asked, quiet-held, quiet-pulse, quiet-released}
use Rattle.qo_sound_clocks.specs.NumbersKept.{NumbersKeptLaw}
use Rattle.qo_sound_clocks.specs.SoundNumbers.{NumbersFit, SoundNumbers}
use Rattle.qo_sound_clocks.proofs.CommandLemmas.{kept-change}
use Rattle.qo_sound_clocks.proofs.SlotLemmas.{Blank, div_in, Less, mul_in, own_in, Slots}
use Rattle.qo_sound_clocks.proofs.PlugLemmas.{Growing}
use Rattle.qo_sound_clocks.proofs.PlugStageLemmas.{growing, kept-plug}
use Rattle.qo_sound_clocks.proofs.ReadLemmas.{Reads, tree-reads}
use Rattle.qo_sound_clocks.proofs.DependenceLemmas.{kept-acted, kept-beside, kept-detach, kept-reset, KeptByFewer}
use Rattle.qo_sound_clocks.proofs.StepsLemmas.{kept-written, calls-kept}
use Rattle.qo_sound_clocks.proofs.WriteLemmas.{IsSetAt, number-at, number-here, plain_at_name, set-at}

abbrev number_by : List ℕ → ℕ → Slots → ℕ
number_by name none xs = unwrap_or (option_and_then number_in (plain_at_name name xs)) none

-- the opening board

abbrev fits_by : Slots → Bool
fits_by xs =
    nat_lt (number_by (codes "period") 0 xs) (2 ^ 64)
    && (nat_lt (number_by (codes "mul") 1 xs) (2 ^ 32) && nat_lt (number_by (codes "div") 1 xs) (2 ^ 32))

all-fit : AllByRecursion (λ (r : Record). fits_by r.slots ≡ true) opening_board.records
unfolding opening_board types
all-fit = search rules

opening-fits : (c : ℕ) → fits_by (slots_at opening_board c) ≡ true
opening-fits c = go (record_of opening_board c) refl
  where
    go : (o : Option Record) → record_of opening_board c ≡ o → fits_by (slots_in o) ≡ true
    go None e = refl
    go (Some r) e = all-found (λ (x : Record). fits_by x.slots ≡ true) c opening_board.records all-fit r e

opening-numbers : SoundNumbers opening_board
opening-numbers c =
    let one =
    and_parts (nat_lt (own_period opening_board c) (2 ^ 64)) (nat_lt (mul_of opening_board c) (2 ^ 32) && nat_lt (div_of opening_board c) (2 ^ 32))
    (opening-fits c) in
    let two = and_parts (nat_lt (mul_of opening_board c) (2 ^ 32)) (nat_lt (div_of opening_board c) (2 ^ 32)) one.1 in
    record {
      period = below (own_period opening_board c) (2 ^ 64) one.0;
      mul = below (mul_of opening_board c) (2 ^ 32) two.0;
      div = below (div_of opening_board c) (2 ^ 32) two.1;
    }
  where
    below : (m n : ℕ) → nat_lt m n ≡ true → m < n
    below m n e = grind (arith, nat_tests, e)

-- the slots are as before
pub same-numbers : (b c : Board) → ((n : ℕ) → slots_at c n ≡ slots_at b n) → SoundNumbers b → SoundNumbers c
same-numbers b c same h n =
    record {
      period = subst (λ (k : ℕ). k < 2 ^ 64) (number (codes "period") 0) (h n).period;
      mul = subst (λ (k : ℕ). k < 2 ^ 32) (number (codes "mul") 1) (h n).mul;
      div = subst (λ (k : ℕ). k < 2 ^ 32) (number (codes "div") 1) (h n).div;
    }
  where
    number : (name : List ℕ) (none : ℕ) → number_by name none (slots_at b n) ≡ number_by name none (slots_at c n)
    number name none = ap (number_by name none) (sym (same n))

-- an object reads no more
less-numbers : (b c : Board) → Reads b → Reads c → (n : ℕ) → Less (slots_at b n) (slots_at c n) → NumbersFit b n → NumbersFit c n
less-numbers b c on now n less h =
    record {
      period =
          let before : own_period b n ≡ own_in (slots_at b n) = on.own n in
          let after : own_period c n ≡ own_in (slots_at c n) = now.own n in
          omega (arith, before, after, less.own, h.period);
      mul = mul less.scale;
      div = div less.scale;
    }
  where
    mul : ((mul_in (slots_at c n) ≡ mul_in (slots_at b n)) × (div_in (slots_at c n) ≡ div_in (slots_at b n))) ⊎ Blank (slots_at c n)
        → mul_of c n < 2 ^ 32
    mul (inl same) = let is : mul_of c n ≡ mul_of b n = now.mul n ∙ same.0 ∙ sym (on.mul n) in omega (arith, is, h.mul)
    mul (inr blank) = let is : mul_of c n ≡ 1 = now.mul n ∙ blank.mul in omega (arith, is)

    div : ((mul_in (slots_at c n) ≡ mul_in (slots_at b n)) × (div_in (slots_at c n) ≡ div_in (slots_at b n))) ⊎ Blank (slots_at c n)
        → div_of c n < 2 ^ 32
    div (inl same) = let is : div_of c n ≡ div_of b n = now.div n ∙ same.1 ∙ sym (on.div n) in omega (arith, is, h.div)
    div (inr blank) = let is : div_of c n ≡ 1 = now.div n ∙ blank.div in omega (arith, is)

fewer-numbers : KeptByFewer SoundNumbers
fewer-numbers b c on now less h n = less-numbers b c on now n (less n) (h n)

-- a device is added
plugged-numbers : (b : Board) (t : TypeId) (a : Wanted) (resources : Resources) → is_a t (codes "device") ≡ true → SoundTree b
    → SoundTree (with_plugged b t a resources)
    → SoundNumbers b → SoundNumbers (with_plugged b t a resources)
plugged-numbers b t a resources device tree after h n = go (cases_lt b.born n)
  where
    c : Board
    c = with_plugged b t a resources

    g : Growing b (source_for b resources.bus) c
    g = growing b t a resources device tree

    now : Reads c
    now = tree-reads c after

    go : (b.born < n) ⊎ (n ≤ b.born) → NumbersFit c n
    go (inl high) =
        let new = g.new n high in
        record {
          period = let is : own_period c n ≡ 0 = now.own n ∙ new.own in omega (arith, is);
          mul = let is : mul_of c n ≡ 1 = now.mul n ∙ new.mul in omega (arith, is);
          div = let is : div_of c n ≡ 1 = now.div n ∙ new.div in omega (arith, is);
        }
    go (inr low) = less-numbers b c (tree-reads b tree) now n (g.old n low) (h n)

plug-numbers : (b : Board) (a : Wanted) → SoundTree b → SoundNumbers b → SoundNumbers (plug b a).board
plug-numbers b a tree h =
    kept-plug SoundNumbers b a h (λ t bus stage. kept-beside SoundNumbers same-numbers b (plug_attempt b t bus stage) refl h)
    (λ t resources device after. plugged-numbers b t a resources device tree after h) (sound_kept_lem.plugged b a tree)

-- a number is written

-- by its own name it reads so, or as before
abbrev Wide : ℕ → List ℕ → ℕ → Board → ℕ → Type 0
Wide bits name none b n = unwrap_or (number_at b n name) none < 2 ^ bits

set-wide : (bits n : ℕ) (name : List ℕ) (v none : ℕ) (b c : Board) → IsSetAt n name (val.Uint v) b c → v < 2 ^ bits
    → (x : ℕ) → Wide bits name none b x → Wide bits name none c x
set-wide bits n name v none b c h wide x was = go (eqb x n) refl
  where
    here : (plain_at_name name (slots_at c n) ≡ Some (val.Uint v)) ⊎ (plain_at_name name (slots_at c n) ≡ plain_at_name name (slots_at b n))
        → x ≡ n → Wide bits name none c x
    here (inl is) same =
        let reads : unwrap_or (number_at c x name) none ≡ v =
        ap (λ (k : ℕ). unwrap_or (number_at c k name) none) same ∙ ap (λ (o : Option Val). unwrap_or (option_and_then number_in o) none) is in
        subst (λ (k : ℕ). k < 2 ^ bits) (sym reads) wide
    here (inr is) same =
        let reads : unwrap_or (number_at c x name) none ≡ unwrap_or (number_at b x name) none =
        ap (λ (k : ℕ). unwrap_or (number_at c k name) none) same
        ∙ ap (λ (o : Option Val). unwrap_or (option_and_then number_in o) none) is
        ∙ ap (λ (k : ℕ). unwrap_or (number_at b k name) none) (sym same) in
        subst (λ (k : ℕ). k < 2 ^ bits) (sym reads) was

    go : (t : Bool) → eqb x n ≡ t → Wide bits name none c x
    go true p = here h.at.here (eqb-true x n p)
    go false p = subst (λ (o : Option ℕ). unwrap_or o none < 2 ^ bits) (sym (number-at n name (val.Uint v) b c h name x p)) was

-- and by another name as before
set-other : (bits n : ℕ) (name other : List ℕ) (v none : ℕ) (b c : Board) → IsSetAt n name (val.Uint v) b c → bytes_eq name other ≡ false
    → (x : ℕ) → Wide bits other none b x → Wide bits other none c x
set-other bits n name other v none b c h apart x was = subst (λ (o : Option ℕ). unwrap_or o none < 2 ^ bits) (sym (same (eqb x n) refl)) was
  where
    same : (t : Bool) → eqb x n ≡ t → number_at c x other ≡ number_at b x other
    same true p =
        let is : x ≡ n = eqb-true x n p in
        ap (λ (k : ℕ). number_at c k other) is ∙ number-here n name (val.Uint v) b c h other apart ∙ ap (λ (k : ℕ). number_at b k other) (sym is)
    same false p = number-at n name (val.Uint v) b c h other x p

set-numbers : (b d : Board) (c period : ℕ) → period < 2 ^ 64 → clock_set b c period ≡ Ok d → SoundNumbers b → SoundNumbers d
set-numbers b d c period wide e h = go (is_some (source_of b c)) refl
  where
    new : Board
    new = set_named c (codes "period") (val.Uint period) b

    at : IsSetAt c (codes "period") (val.Uint period) b new
    at = set-at c (codes "period") (val.Uint period) b

    fits : SoundNumbers new
    fits n =
        record {
          period = set-wide 64 c (codes "period") period 0 b new at wide n (h n).period;
          mul = set-other 32 c (codes "period") (codes "mul") period 1 b new at refl n (h n).mul;
          div = set-other 32 c (codes "period") (codes "div") period 1 b new at refl n (h n).div;
        }

    go : (t : Bool) → is_some (source_of b c) ≡ t → SoundNumbers d
    go true p = absurd (let clash : Err E45 ≡ Ok d = rw (clock_set, p) at e in cc)
    go false p = kept-written SoundNumbers (calls-kept SoundNumbers (kept-acted SoundNumbers same-numbers)) b new d c fits (rw (clock_set, p) at e)

-- a number that is as wide as its property is written
set-mul : (c mul : ℕ) (b : Board) → mul < 2 ^ 32 → SoundNumbers b → SoundNumbers (set_named c (codes "mul") (val.Uint mul) b)
set-mul c mul b wide h n =
    record {
      period = set-other 64 c (codes "mul") (codes "period") mul 0 b _ at refl n (h n).period;
      mul = set-wide 32 c (codes "mul") mul 1 b _ at wide n (h n).mul;
      div = set-other 32 c (codes "mul") (codes "div") mul 1 b _ at refl n (h n).div;
    }
  where
    at : IsSetAt c (codes "mul") (val.Uint mul) b (set_named c (codes "mul") (val.Uint mul) b)
    at = set-at c (codes "mul") (val.Uint mul) b

set-div : (c div : ℕ) (b : Board) → div < 2 ^ 32 → SoundNumbers b → SoundNumbers (set_named c (codes "div") (val.Uint div) b)
set-div c div b wide h n =
    record {
      period = set-other 64 c (codes "div") (codes "period") div 0 b _ at refl n (h n).period;
      mul = set-other 32 c (codes "div") (codes "mul") div 1 b _ at refl n (h n).mul;
      div = set-wide 32 c (codes "div") div 1 b _ at wide n (h n).div;
    }
  where
    at : IsSetAt c (codes "div") (val.Uint div) b (set_named c (codes "div") (val.Uint div) b)
    at = set-at c (codes "div") (val.Uint div) b

scaled-numbers : (b d : Board) (c mul div : ℕ) → mul < 2 ^ 32 → div < 2 ^ 32 → clock_scaled b c mul div ≡ Ok d → SoundNumbers b → SoundNumbers d
scaled-numbers b d c mul div wide also e h = go (eqb div 0) refl
  where
    mid : Board
    mid = set_named c (codes "mul") (val.Uint mul) b

    go : (t : Bool) → eqb div 0 ≡ t → SoundNumbers d
    go true p = absurd (let clash : Err E46 ≡ Ok d = rw (clock_scaled, p) at e in cc)
    go false p =
        kept-written SoundNumbers (calls-kept SoundNumbers (kept-acted SoundNumbers same-numbers)) b (set_named c (codes "div") (val.Uint div) mid) d c
        (set-div c div mid also (set-mul c mul b wide h)) (rw (clock_scaled, p) at e)

pub numbers_kept_lem : NumbersKeptLaw
numbers_kept_lem =
    record {
      opening = opening-numbers;
      beside = kept-beside SoundNumbers same-numbers;
      asked_for = quiet-asked SoundNumbers (kept-beside SoundNumbers same-numbers) (kept-acted SoundNumbers same-numbers);
      acts = kept-acted SoundNumbers same-numbers;
      held_so = quiet-held SoundNumbers (kept-beside SoundNumbers same-numbers) (kept-acted SoundNumbers same-numbers);
      released_so = quiet-released SoundNumbers (kept-beside SoundNumbers same-numbers) (kept-acted SoundNumbers same-numbers);
      pulsed = quiet-pulse SoundNumbers (kept-beside SoundNumbers same-numbers) (kept-acted SoundNumbers same-numbers);
      set = set-numbers;
      scaled = scaled-numbers;
      change = kept-change SoundNumbers fewer-numbers;
      plugged = plug-numbers;
      detached = kept-detach SoundNumbers same-numbers fewer-numbers;
      reset = kept-reset SoundNumbers same-numbers fewer-numbers;
    }
