-- What is so of the rows of a net, where it is added to and where an input is set.
use Rattle.std.proofs.Common.{◌≡◌, ◌≢◌, refl, ap, sym, subst, ◌∙◌, append-nil, append_assoc, ℕ, suc, ◌+◌, ◌<◌, ◌≤◌, Bool, true, false, ltb, List, [], ◌∷◌, ◌++◌, length, Option, Some, None, ◌⊎◌, inl, inr, ⊎_elim, arith, length-append, length-set, get_or-set_same, get_or-set_other}
use Rattle.std.specs.Prelude.{IfSome}
use Rattle.std.proofs.Math.ListN.{set}
use Rattle.std.proofs.Math.Seq.{get_or-append_seam}
use Rattle.std.proofs.lemmas.Bool.{and_parts, cases_eq, cases_lt, ltb-true, true≢false}
use Rattle.std.proofs.lemmas.List.{get_or_append_left}
use Rattle.std.proofs.lemmas.Option.{same_Some}
use Rattle.qo_irq.specs.Laws.{NamesLower}
use Rattle.qo_irq.specs.Wires.{Wire, input, or, off, is_input, names_below, wire_at}
use Rattle.qo_model.specs.Board.{Board}
use Rattle.qo_model.specs.Reset.{below}
use Rattle.qo_layout.specs.Registers.{registers_at}
use Rattle.qo_layout.specs.Growth.{IsAdded, NameLower, row_for, wires_for, with_input}
use Rattle.qo_layout.specs.Rows.{AreLines, AreRows, AreWired, HasRow, IsDriven, IsJoin, IsSet, input_of, objects_of, row_at, wiring}
use Rattle.qo_layout.specs.declared.wiring.Row.{Row}
use Rattle.qo_layout.specs.declared.wiring.Wiring.{Wiring}
use Rattle.qo_layout.specs.declared.wiring.Wiring.TheVariants.{Own, Masked, Joined}

-- a fact of what is there, if something is
pub if-some : {P : ℕ → Type 0} (o : Option ℕ) → ((x : ℕ) → o ≡ Some x → P x) → IfSome o P
if-some None f = tt
if-some (Some x) f = f x refl

pub of-some : (P : ℕ → Type 0) (o : Option ℕ) (x : ℕ) → o ≡ Some x → IfSome o P → P x
of-some P None x e h = absurd (let no : None ≡ Some x = e in cc)
of-some P (Some y) x e h = subst P (same_Some y x e) h

-- Wires.

-- gates stay, and inputs stay inputs
pub record Keeps (wires more : List Wire) : Type 0 where
  pub longer : length wires ≤ length more
  pub same : (l : ℕ) → l < length wires → is_input (wire_at wires l) ≡ false → wire_at more l ≡ wire_at wires l
  pub inputs : (l : ℕ) → l < length wires → is_input (wire_at wires l) ≡ true → is_input (wire_at more l) ≡ true

grown-keeps : (wires added : List Wire) → Keeps wires (wires ++ added)
grown-keeps wires added = record {
  longer = omega (arith, length-append wires added);
  same = λ l within gate. get_or_append_left wires added (input false) l within;
  inputs = λ l within is. ap is_input (get_or_append_left wires added (input false) l within) ∙ is;
}

set-keeps : (wires : List Wire) (x : ℕ) (high : Bool) → x < length wires → is_input (wire_at wires x) ≡ true → Keeps wires (set wires x (input high))
set-keeps wires x high there settable = record {
  longer = omega (arith, length-set wires x (input high));
  same = λ l within gate. get_or-set_other wires x l (input high) (input false)
      (λ e. absurd (true≢false (sym settable ∙ ap (λ (k : ℕ). is_input (wire_at wires k)) (sym e) ∙ gate)));
  inputs = λ l within is. ⊎_elim
      (λ e. ap (λ (k : ℕ). is_input (wire_at (set wires x (input high)) k)) e ∙ ap is_input (get_or-set_same wires x (input high) (input false) there))
      (λ apart. ap is_input (get_or-set_other wires x l (input high) (input false) apart) ∙ is)
      (cases_eq l x);
}

-- each gate names lower lines

lower-push : (wires : List Wire) (wire : Wire) → NamesLower wires → names_below (length wires) wire ≡ true → NamesLower (wires ++ wire ∷ [])
lower-push wires wire lower last l within = ⊎_elim
    (λ (old : l < length wires). rw (get_or_append_left wires (wire ∷ []) (input false) l old) (lower l old))
    (λ past. let end : l ≡ length wires = omega (arith, past, length-append wires (wire ∷ [])) in rw (end, get_or-append_seam wires wire [] (input false)) last)
    (cases_lt l (length wires))

lower-append : (added wires : List Wire) → NamesLower wires → NameLower (length wires) added → NamesLower (wires ++ added)
lower-append [] wires lower h =
    subst NamesLower (sym (append-nil wires)) lower
lower-append (wire ∷ added) wires lower h =
    let longer : length (wires ++ wire ∷ []) ≡ suc (length wires) = omega (arith, length-append wires (wire ∷ [])) in
    subst NamesLower (append_assoc wires (wire ∷ []) added)
    (lower-append added (wires ++ wire ∷ []) (lower-push wires wire lower h.0) (subst (λ (n : ℕ). NameLower n added) (sym longer) h.1))

lower-set : (wires : List Wire) (x : ℕ) (high : Bool) → x < length wires → NamesLower wires → NamesLower (set wires x (input high))
lower-set wires x high there lower l within = ⊎_elim
    (λ e. let same : wire_at (set wires x (input high)) l ≡ input high =
    ap (λ (k : ℕ). wire_at (set wires x (input high)) k) e ∙ get_or-set_same wires x (input high) (input false) there in
    rw same refl)
    (λ apart. rw (get_or-set_other wires x l (input high) (input false) apart) (lower l (omega (arith, within, length-set wires x (input high)))))
    (cases_eq l x)

-- what stands behind wires
behind : (wires added : List Wire) (k : ℕ) → wire_at (wires ++ added) (length wires + k) ≡ wire_at added k
behind [] added k = let same : length {A = Wire} [] + k ≡ k = omega arith in ap (λ (n : ℕ). wire_at added n) same
behind (wire ∷ wires) added k =
    let more : length (wire ∷ wires) + k ≡ suc (length wires + k) = omega arith in
    ap (λ (n : ℕ). wire_at ((wire ∷ wires) ++ added) n) more ∙ behind wires added k

-- Rows that stay.

module _ (b : Board) (rows others : List Row) (wires more : List Wire) (r : AreRows rows wires) (keeps : Keeps wires more)
    (longer : length rows ≤ length others)
    (extends : (i : ℕ) → i < length rows → row_at others i ≡ row_at rows i) where
  row-kept : (o line : ℕ) → HasRow rows o line → HasRow others o line
  row-kept o line h = record {
    place = h.place;
    within = omega (arith, h.within, longer);
    object = ap (λ (x : Row). x.object) (extends h.place h.within) ∙ h.object;
    line_is = ap (λ (x : Row). x.line) (extends h.place h.within) ∙ h.line_is;
  }

  pub lines-kept : (os lines : List ℕ) → AreLines rows os lines → AreLines others os lines
  lines-kept [] [] h = tt
  lines-kept [] (line ∷ lines) h = absurd h
  lines-kept (o ∷ os) [] h = absurd h
  lines-kept (o ∷ os) (line ∷ lines) h = (row-kept o line h.0, lines-kept os lines h.1)

  join-kept : (o line : ℕ) → line < length wires → IsJoin b rows wires o line → IsJoin b others more o line
  join-kept o line within j = record {
    lines = j.lines;
    wire = keeps.same line within (ap is_input j.wire) ∙ j.wire;
    below_it = lines-kept (below b o) j.lines j.below_it;
  }

  driven-kept : (w : Wiring) (row : Row) → row.line < length wires → IsDriven w b rows wires row → IsDriven w b others more row
  driven-kept Own row within d = d
  driven-kept Masked row within d =
      let lower : names_below row.line (off d.join d.mask) ≡ true = ap (names_below row.line) (sym d.wire) ∙ r.lower row.line within in
      let before : d.join < row.line = ltb-true d.join row.line (and_parts (ltb d.join row.line) (ltb d.mask row.line) lower).0 in
      record {
        join = d.join;
        mask = d.mask;
        wire = keeps.same row.line within (ap is_input d.wire) ∙ d.wire;
        input_is = d.input_is;
        joins = join-kept row.object d.join (omega (arith, before, within)) d.joins;
      }
  driven-kept Joined row within d = (d.0, join-kept row.object row.line within d.1)

  pub wired-kept : AreWired b rows wires → (i : ℕ) → i < length rows → IsDriven (wiring (registers_at b (row_at rows i).object)) b others more (row_at rows i)
  wired-kept wired i within = driven-kept (wiring (registers_at b (row_at rows i).object)) (row_at rows i) (r.within i within) (wired i within)

  settable-kept : (i : ℕ) → i < length rows → IfSome (row_at rows i).input (λ x. (x ≤ (row_at rows i).line) × (is_input (wire_at more x) ≡ true))
  settable-kept i within =
      if-some (row_at rows i).input
      (λ x e.
      let (most, is) = of-some (λ (x : ℕ). (x ≤ (row_at rows i).line) × (is_input (wire_at wires x) ≡ true)) (row_at rows i).input x e (r.settable i within) in
      (most, keeps.inputs x (omega (arith, most, r.within i within)) is))

-- A row more.

abbrev no_row : Row
no_row = record { object = 0; input = None; line = 0 }

row-old : (rows : List Row) (row : Row) (i : ℕ) → i < length rows → row_at (rows ++ row ∷ []) i ≡ row_at rows i
row-old rows row i within = get_or_append_left rows (row ∷ []) no_row i within

row-new : (rows : List Row) (row : Row) (i : ℕ) → i ≡ length rows → row_at (rows ++ row ∷ []) i ≡ row
row-new rows row i last = rw last (get_or-append_seam rows row [] no_row)

old-or-new : (rows : List Row) (row : Row) (i : ℕ) → i < length (rows ++ row ∷ []) → (i < length rows) ⊎ (i ≡ length rows)
old-or-new rows row i within = ⊎_elim (λ old. inl old) (λ past. inr (omega (arith, within, past, length-append rows (row ∷ [])))) (cases_lt i (length rows))

-- of a row that is added, its line and its input
added-line : (w : Wiring) (n o : ℕ) (lines : List ℕ) → (row_for w n o).line < n + length (wires_for w n lines)
added-line Own n o lines = omega arith
added-line Masked n o lines = omega arith
added-line Joined n o lines = omega arith

added-object : (w : Wiring) (n o : ℕ) → (row_for w n o).object ≡ o
added-object Own n o = refl
added-object Masked n o = refl
added-object Joined n o = refl

added-input : (w : Wiring) (wires : List Wire) (o : ℕ) (lines : List ℕ)
    → IfSome (row_for w (length wires) o).input
    (λ x. (x ≤ (row_for w (length wires) o).line) × (is_input (wire_at (wires ++ wires_for w (length wires) lines) x) ≡ true))
added-input Own wires o lines = (omega arith, ap is_input (get_or-append_seam wires (input false) [] (input false)))
added-input Masked wires o lines =
    (omega arith, ap is_input (behind wires (wires_for Masked (length wires) lines) 1))
added-input Joined wires o lines = tt

added-after : (w : Wiring) (n o l : ℕ) → l < n → IfSome (row_for w n o).input (λ x. l < x)
added-after Own n o l less = less
added-after Masked n o l less = omega (arith, less)
added-after Joined n o l less = tt

grown-is : (rows : List Row) (wires : List Wire) (w : Wiring) (o : ℕ) (lines : List ℕ) → AreRows rows wires
    → NameLower (length wires) (wires_for w (length wires) lines)
    → AreRows (rows ++ row_for w (length wires) o ∷ []) (wires ++ wires_for w (length wires) lines)
grown-is rows wires w o lines r h = record {
  lower = lower-append (wires_for w (length wires) lines) wires r.lower h;
  within = λ i there. ⊎_elim
      (λ old. rw (row-old rows row i old) (omega (arith, r.within i old, length-append wires added)))
      (λ last. rw (row-new rows row i last) (omega (arith, added-line w (length wires) o lines, length-append wires added)))
      (old-or-new rows row i there);
  settable = λ i there. ⊎_elim
      (λ old. rw (row-old rows row i old)
      (if-some (row_at rows i).input
      (λ x e.
      let (most, is) = of-some (λ (x : ℕ). (x ≤ (row_at rows i).line) × (is_input (wire_at wires x) ≡ true)) (row_at rows i).input x e (r.settable i old) in
      (most, (grown-keeps wires added).inputs x (omega (arith, most, r.within i old)) is))))
      (λ last. rw (row-new rows row i last) (added-input w wires o lines))
      (old-or-new rows row i there);
  rising = λ i j before there. ⊎_elim
      (λ old. let first : i < length rows = omega (arith, before, old) in rw (row-old rows row i first, row-old rows row j old) (r.rising i j before old))
      (λ last. let first : i < length rows = omega (arith, before, last) in
      rw (row-old rows row i first, row-new rows row j last) (added-after w (length wires) o (row_at rows i).line (r.within i first)))
      (old-or-new rows row j there);
}
  where
    row : Row
    row = row_for w (length wires) o

    added : List Wire
    added = wires_for w (length wires) lines

pub grown-rows : (rows : List Row) (old new : List Wire) (w : Wiring) (o : ℕ) (lines : List ℕ) (row : Row) → AreRows rows old → IsAdded w o lines old new row
    → AreRows (rows ++ row ∷ []) new
grown-rows rows old new w o lines row r a = rw (a.wires, a.row_is) (grown-is rows old w o lines r a.lower)

objects-push : (rows : List Row) (row : Row) → objects_of (rows ++ row ∷ []) ≡ objects_of rows ++ row.object ∷ []
objects-push [] row = refl
objects-push (x ∷ rows) row = ap (λ (os : List ℕ). x.object ∷ os) (objects-push rows row)

pub grown-objects : (rows : List Row) (old new : List Wire) (w : Wiring) (o : ℕ) (lines : List ℕ) (row : Row) → IsAdded w o lines old new row
    → objects_of (rows ++ row ∷ []) ≡ objects_of rows ++ o ∷ []
grown-objects rows old new w o lines row a =
    objects-push rows row ∙ ap (λ (n : ℕ). objects_of rows ++ n ∷ []) (ap (λ (x : Row). x.object) a.row_is ∙ added-object w (length old) o)

pub grown-few : (old new : List Wire) (w : Wiring) (o : ℕ) (lines : List ℕ) (row : Row) → IsAdded w o lines old new row → length new ≤ length old + 3
grown-few old new w o lines row a =
    rw a.wires (omega (arith, length-append old (wires_for w (length old) lines), most w))
  where
    most : (w : Wiring) → length (wires_for w (length old) lines) ≤ 3
    most Own = omega arith
    most Masked = omega arith
    most Joined = omega arith

-- the line of a row that is added is driven as it should
added-driven : (b : Board) (rows : List Row) (wires : List Wire) (w : Wiring) (o : ℕ) (lines : List ℕ) → AreLines rows (below b o) lines
    → IsDriven w b rows (wires ++ wires_for w (length wires) lines) (row_for w (length wires) o)
added-driven b rows wires Own o lines are = refl
added-driven b rows wires Masked o lines are = record {
  join = length wires;
  mask = length wires + 1;
  wire = behind wires (wires_for Masked (length wires) lines) 2;
  input_is = refl;
  joins = record {
    lines = lines;
    wire = get_or-append_seam wires (or lines) (input false ∷ off (length wires) (length wires + 1) ∷ []) (input false);
    below_it = are;
  };
}
added-driven b rows wires Joined o lines are =
    (refl, record { lines = lines; wire = get_or-append_seam wires (or lines) [] (input false); below_it = are })

wired-is : (b : Board) (rows : List Row) (wires : List Wire) (w : Wiring) (o : ℕ) (lines : List ℕ) → AreRows rows wires → wiring (registers_at b o) ≡ w
    → AreLines rows (below b o) lines → AreWired b rows wires → AreWired b (rows ++ row_for w (length wires) o ∷ []) (wires ++ wires_for w (length wires) lines)
wired-is b rows wires w o lines r is are wired i there = ⊎_elim
    (λ old. rw (row-old rows row i old)
    (wired-kept b rows (rows ++ row ∷ []) wires (wires ++ added) r (grown-keeps wires added) (omega (arith, length-append rows (row ∷ []))) (row-old rows row)
    wired i old))
    (λ last. rw (row-new rows row i last, added-object w (length wires) o, is) (added-driven b (rows ++ row ∷ []) wires w o lines
    (lines-kept b rows (rows ++ row ∷ []) wires (wires ++ added) r (grown-keeps wires added) (omega (arith, length-append rows (row ∷ []))) (row-old rows row)
    (below b o) lines are)))
    (old-or-new rows row i there)
  where
    row : Row
    row = row_for w (length wires) o

    added : List Wire
    added = wires_for w (length wires) lines

pub grown-wired : (b : Board) (rows : List Row) (old new : List Wire) (w : Wiring) (o : ℕ) (lines : List ℕ) (row : Row) → AreRows rows old
    → IsAdded w o lines old new row → wiring (registers_at b o) ≡ w → AreLines rows (below b o) lines → AreWired b rows old
    → AreWired b (rows ++ row ∷ []) new
grown-wired b rows old new w o lines row r a is are wired = rw (a.wires, a.row_is) (wired-is b rows old w o lines r is are wired)

-- An input that is set.

set-rows : (rows : List Row) (wires : List Wire) (x : ℕ) (high : Bool) → AreRows rows wires → x < length wires → is_input (wire_at wires x) ≡ true
    → AreRows rows (set wires x (input high))
set-rows rows wires x high r there is = record {
  lower = lower-set wires x high there r.lower;
  within = λ i within. omega (arith, r.within i within, length-set wires x (input high));
  settable = λ i within.
      if-some (row_at rows i).input
      (λ y e.
      let (most, its) = of-some (λ (y : ℕ). (y ≤ (row_at rows i).line) × (is_input (wire_at wires y) ≡ true)) (row_at rows i).input y e (r.settable i within) in
      (most, (set-keeps wires x high there is).inputs y (omega (arith, most, r.within i within)) its));
  rising = r.rising;
}

-- so it is of a row
pub input-there : (rows : List Row) (wires : List Wire) (i : ℕ) → AreRows rows wires → i < length rows
    → IfSome (row_at rows i).input (λ x. (x < length wires) × (is_input (wire_at wires x) ≡ true))
input-there rows wires i r within =
    if-some (row_at rows i).input
    (λ x e.
    let (most, is) = of-some (λ (x : ℕ). (x ≤ (row_at rows i).line) × (is_input (wire_at wires x) ≡ true)) (row_at rows i).input x e (r.settable i within) in
    (omega (arith, most, r.within i within), is))

pub input-rows : (rows : List Row) (wires : List Wire) (o : Option ℕ) (high : Bool) → AreRows rows wires
    → IfSome o (λ x. (x < length wires) × (is_input (wire_at wires x) ≡ true)) → AreRows rows (with_input o high wires)
input-rows rows wires None high r h = r
input-rows rows wires (Some x) high r h = set-rows rows wires x high r h.0 h.1

pub input-length : (wires : List Wire) (o : Option ℕ) (high : Bool) → length (with_input o high wires) ≡ length wires
input-length wires None high = refl
input-length wires (Some x) high = length-set wires x (input high)

pub input-wired : (b : Board) (rows : List Row) (wires : List Wire) (o : Option ℕ) (high : Bool) → AreRows rows wires
    → IfSome o (λ x. (x < length wires) × (is_input (wire_at wires x) ≡ true)) → AreWired b rows wires → AreWired b rows (with_input o high wires)
input-wired b rows wires None high r h wired i within = wired i within
input-wired b rows wires (Some x) high r h wired i within =
    wired-kept b rows rows wires (set wires x (input high)) r (set-keeps wires x high h.0 h.1) (omega arith) (λ k there. refl) wired i within

-- the rows up to one are set
abbrev pub SetTo : Board → List Row → List Wire → ℕ → Type 0
SetTo b rows wires n = (i : ℕ) → i < n → IsSet b wires (row_at rows i)

-- of an earlier row
set-earlier : (b : Board) (rows : List Row) (wires : List Wire) (i k : ℕ) (high : Bool) → AreRows rows wires → k < i → i < length rows
    → (o : Option ℕ) → (row_at rows i).input ≡ o → IsSet b wires (row_at rows k) → IsSet b (with_input o high wires) (row_at rows k)
set-earlier b rows wires i k high r before within None e is = is
set-earlier b rows wires i k high r before within (Some x) e is =
    if-some (row_at rows k).input
    (λ y f.
    let after : (row_at rows k).line < x = of-some (λ (x : ℕ). (row_at rows k).line < x) (row_at rows i).input x e (r.rising k i before within) in
    let first : k < length rows = omega arith in
    let (most, its) = of-some (λ (y : ℕ). (y ≤ (row_at rows k).line) × (is_input (wire_at wires y) ≡ true)) (row_at rows k).input y f (r.settable k first) in
    let apart : y ≢ x = (λ same. absurd (omega (arith, same, after, most))) in
    get_or-set_other wires x y (input high) (input false) apart
    ∙ of-some (λ (y : ℕ). wire_at wires y ≡ input (input_of b (row_at rows k).object)) (row_at rows k).input y f is)

-- and of the row itself
set-own : (b : Board) (wires : List Wire) (o : Option ℕ) (object : ℕ) (high : Bool) → IfSome o (λ x. (x < length wires) × (is_input (wire_at wires x) ≡ true))
    → IfSome o (λ _. high ≡ input_of b object) → IfSome o (λ x. wire_at (with_input o high wires) x ≡ input (input_of b object))
set-own b wires None object high h is = tt
set-own b wires (Some x) object high h is = get_or-set_same wires x (input high) (input false) h.0 ∙ ap input is

pub set-next : (b : Board) (rows : List Row) (wires more : List Wire) (i : ℕ) (high : Bool) → AreRows rows wires → i < length rows
    → more ≡ with_input (row_at rows i).input high wires → IfSome (row_at rows i).input (λ _. high ≡ input_of b (row_at rows i).object) → SetTo b rows wires i
    → SetTo b rows more (i + 1)
set-next b rows wires more i high r within e is before k below = rw e (⊎_elim
    (λ (early : k < i). set-earlier b rows wires i k high r early within (row_at rows i).input refl (before k early))
    (λ past. let same : k ≡ i = omega (arith, past, below) in
    rw same (set-own b wires (row_at rows i).input (row_at rows i).object high (input-there rows wires i r within) is))
    (cases_lt k i))
