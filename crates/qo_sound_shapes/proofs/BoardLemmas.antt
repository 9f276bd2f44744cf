-- A fact of each object that is there: what edits, acts and releases keep. The shape of a board, from such a fact and back.
use Rattle.std.proofs.Common.{◌≡◌, refl, ap, sym, subst, ◌∙◌, ℕ, Bool, true, false, ◌==◌, eqb, List, [], ◌∷◌, ◌++◌, Option, Some, None, is_some, option_map}
use Rattle.qo_model.proofs.Common.{nat_eq_equiv, AllByRecursion, list_any, option_map_or, option_or, nat_eq, MACHINE_BIRTH, OBJECTS_BIRTH, ROOT_BIRTH, TypeId, Container, Board, Record, Slot, is_live, kind_of, record_of, slot_at, slots_at, opening_board, after, drop_slot, edit, edited, finalize, finish, forgotten, let_go, next_index, pin, unpin, with_dropped, without_pin, KeepsRelease, types}
use Rattle.std.proofs.lemmas.Bool.{eqb-true}
use Rattle.std.proofs.lemmas.Option.{same_Some}
use Rattle.qo_model.specs.Board.{referent}
use Rattle.qo_model.proofs.ReleaseInductionLemmas.{after_keeps}
use Rattle.qo_model.proofs.StepLemmas.{drop-record, finish-gone, finish-record, found-edited, found_at, found-birth}
use Rattle.qo_sound.proofs.SearchLemmas.{found-append}
use Rattle.qo_values.proofs.ListLemmas.{all-imply}
use Rattle.qo_sound_shapes.specs.SoundShape.{SoundShape, unvalued}
use Rattle.qo_sound_shapes.proofs.ChildTypeLemmas.{Typed}
use Rattle.qo_sound_shapes.proofs.ShapeLemmas.{Good, is_first}
use Rattle.qo_sound_shapes.proofs.CompletenessLemmas.{Whole}

abbrev pub AllOf : (Record → Type 0) → Board → Type 0
AllOf Q b = (x : ℕ) (r : Record) → record_of b x ≡ Some r → Q r

pub all-imply_of : (P Q : Record → Type 0) → ((r : Record) → P r → Q r) → (b : Board) → AllOf P b → AllOf Q b
all-imply_of P Q f b h x r e = f r (h x r e)

pub all-same : (Q : Record → Type 0) (b c : Board) → c.records ≡ b.records → AllOf Q b → AllOf Q c
all-same Q b c e h x r k = h x r (sym (ap (found_at x) e) ∙ k)

-- an edit of one object
pub all-edit : (Q : Record → Type 0) (n : ℕ) (change : Record → Record) → ((r : Record) → (change r).birth ≡ r.birth) → (c : Board)
    → ((r : Record) → record_of c n ≡ Some r → r.birth ≡ n → Q r → Q (change r)) → AllOf Q c → AllOf Q (edit n change c)
all-edit Q n change same c keeps h x r e = go (record_of c x) refl (sym (found-edited n change same x c.records) ∙ e)
  where
    at_record : (y : Record) → record_of c x ≡ Some y → (t : Bool) → (y.birth == n) ≡ t → Q (edited n change y)
    at_record y p true k =
        let own : y.birth ≡ n = eqb-true y.birth n k in
        let is : x ≡ n = sym (found-birth x c.records y p) ∙ own in
        rw (edited, k) (keeps y (subst (λ (m : ℕ). record_of c m ≡ Some y) is p) own (h x y p))
    at_record y p false k = rw (edited, k) (h x y p)

    go : (o : Option Record) → record_of c x ≡ o → option_map (edited n change) o ≡ Some r → Q r
    go None p q = absurd (let clash : None ≡ Some r = q in cc)
    go (Some y) p q = subst Q (same_Some (edited n change y) r q) (at_record y p (y.birth == n) refl)

-- and where another fact holds after it
pub all-becomes : (P Q : Record → Type 0) (n : ℕ) (change : Record → Record) → ((r : Record) → (change r).birth ≡ r.birth) → (c : Board)
    → ((r : Record) → record_of c n ≡ Some r → r.birth ≡ n → P r → Q (change r)) → ((r : Record) → (r.birth == n) ≡ false → P r → Q r) → AllOf P c
    → AllOf Q (edit n change c)
all-becomes P Q n change same c own other h x r e = go (record_of c x) refl (sym (found-edited n change same x c.records) ∙ e)
  where
    at_record : (y : Record) → record_of c x ≡ Some y → (t : Bool) → (y.birth == n) ≡ t → Q (edited n change y)
    at_record y p true k =
        let its : y.birth ≡ n = eqb-true y.birth n k in
        let is : x ≡ n = sym (found-birth x c.records y p) ∙ its in
        rw (edited, k) (own y (subst (λ (m : ℕ). record_of c m ≡ Some y) is p) its (h x y p))
    at_record y p false k = rw (edited, k) (other y k (h x y p))

    go : (o : Option Record) → record_of c x ≡ o → option_map (edited n change) o ≡ Some r → Q r
    go None p q = absurd (let clash : None ≡ Some r = q in cc)
    go (Some y) p q = subst Q (same_Some (edited n change y) r q) (at_record y p (y.birth == n) refl)

-- an object more after the others
pub all-new : (Q : Record → Type 0) (r : Record) (b c : Board) → c.records ≡ b.records ++ r ∷ [] → Q r → AllOf Q b → AllOf Q c
all-new Q r b c e new h x y k = go (record_of b x) refl (sym (ap (found_at x) e ∙ found-append x b.records (r ∷ [])) ∙ k)
  where
    last : (t : Bool) → (r.birth == x) ≡ t → found_at x (r ∷ []) ≡ Some y → Q y
    last true p q = subst Q (same_Some r y (rw p at q)) new
    last false p q = absurd (let clash : None ≡ Some y = rw p at q in cc)

    go : (o : Option Record) → record_of b x ≡ o → option_or o (found_at x (r ∷ [])) ≡ Some y → Q y
    go None p q = last (r.birth == x) refl q
    go (Some z) p q = h x y (p ∙ q)

-- of each but those that are being finalized
abbrev in_work : List (ℕ × ℕ) → ℕ → Bool
in_work work x = list_any (λ (w : ℕ × ℕ). w.0 == x) work

abbrev AllBut : (Record → Type 0) → List (ℕ × ℕ) → Board → Type 0
AllBut Q work b = (x : ℕ) (r : Record) → record_of b x ≡ Some r → in_work work x ≡ false → Q r

module _ (Q : Record → Type 0) (forgets : (n : ℕ) (r : Record) → Q r → Q (forgotten n r)) where
  finish-all : (c : Board) (n i : ℕ) (work : List (ℕ × ℕ)) → AllBut Q ((n, i) ∷ work) c → AllBut Q work (finish c n)
  finish-all c n i work h x r e out = go (x == n) refl
    where
      other : (x == n) ≡ false → (o : Option Record) → record_of c x ≡ o → option_map (forgotten n) o ≡ Some r → Q r
      other p None q k = absurd (let clash : None ≡ Some r = k in cc)
      other p (Some y) q k = subst Q (same_Some (forgotten n y) r k) (forgets n y (h x y q (rw (nat_eq_equiv.symm n x ∙ p) out)))

      go : (t : Bool) → (x == n) ≡ t → Q r
      go true p =
          absurd (let clash : None ≡ Some r = sym (ap (record_of (finish c n)) (eqb-true x n p) ∙ finish-gone c n) ∙ e in cc)
      go false p = other p (record_of c x) refl (sym (finish-record c n x p) ∙ e)

  drop-all : (c : Board) (n i j : ℕ) (work : List (ℕ × ℕ)) → AllBut Q ((n, i) ∷ work) c → AllBut Q ((n, j) ∷ work) (drop_slot c n i)
  drop-all c n i j work h x r e out = go (record_of c x) refl (sym (drop-record c n i x) ∙ e)
    where
      by : (t : Bool) → (n == x) ≡ t → (n == x) ≡ false
      by true p = absurd (let clash : true ≡ false = rw p at out in cc)
      by false p = p

      apart : (n == x) ≡ false
      apart = by (n == x) refl

      same : (y : Record) → y.birth ≡ x → (y.birth == n) ≡ false
      same y is = ap (λ (m : ℕ). m == n) is ∙ nat_eq_equiv.symm x n ∙ apart

      go : (o : Option Record) → record_of c x ≡ o → option_map (edited n (with_dropped i)) o ≡ Some r → Q r
      go None p q = absurd (let clash : None ≡ Some r = q in cc)
      go (Some y) p q =
          let stays : edited n (with_dropped i) y ≡ y = rw (edited, same y (found-birth x c.records y p)) refl in
          subst Q (sym stays ∙ same_Some (edited n (with_dropped i) y) r q) (h x y p out)

  more-work : (m : ℕ) (work : List (ℕ × ℕ)) (c : Board) → AllBut Q work c → AllBut Q ((m, 0) ∷ work) c
  more-work m work c h x r e out = h x r e (rest (m == x) refl)
    where
      rest : (t : Bool) → (m == x) ≡ t → in_work work x ≡ false
      rest true p = absurd (let clash : true ≡ false = rw p at out in cc)
      rest false p = rw p at out

  release-all : KeepsRelease (AllBut Q)
  release-all =
      record {
        ended = λ c n i work h e. finish-all c n i work h;
        freed = λ c n i work s m h e q free. more-work m ((n, next_index s i) ∷ work) (drop_slot c n i) (drop-all c n i (next_index s i) work h);
        kept = λ c n i work s h e held_on. drop-all c n i (next_index s i) work h;
      }

  pub all-after : (o : Option ℕ) (c : Board) → AllOf Q c → AllOf Q (after finalize c o)
  all-after o c h x r e = after_keeps (AllBut Q) release-all c o [] (λ m q free y s k out. h y s k) (λ held_on y s k out. h y s k) x r e refl

  pub all-unpin : (n : ℕ) (c : Board) → AllOf Q c → AllOf Q (unpin c n)
  unfolding unpin
  all-unpin n c h = go (list_any (nat_eq n) c.pins) refl
    where
      go : (u : Bool) → list_any (nat_eq n) c.pins ≡ u → AllOf Q (unpin c n)
      go true e = rw (unpin, e) (all-after (Some n) (without_pin c n) h)
      go false e = rw (unpin, e) h

  -- a slot is let go
  pub all-let_go : (n i : ℕ) (c : Board) → ((r : Record) → record_of c n ≡ Some r → r.birth ≡ n → Q r → Q (with_dropped i r)) → AllOf Q c
      → AllOf Q (let_go c n i)
  unfolding let_go drop_slot
  all-let_go n i c keeps h = go (slot_at c n i) refl
    where
      go : (o : Option Slot) → slot_at c n i ≡ o → AllOf Q (let_go c n i)
      go None e = rw (let_go, e) h
      go (Some s) e = rw (let_go, e) (all-after (referent s) _ (all-edit Q n (with_dropped i) (λ r. refl) c keeps h))

pub all-pin : (Q : Record → Type 0) (n : ℕ) (c : Board) → AllOf Q c → AllOf Q (pin c n)
unfolding pin
all-pin Q n c h = h

-- the shape of a board

pub container-eight : kind_of opening_board OBJECTS_BIRTH ≡ Some Container
unfolding opening_board types
container-eight = refl

-- an object of the opening board is there, with its type
pub opening-kind : (b : Board) → AllByRecursion (λ (o : Record). kind_of b o.birth ≡ Some o.kind) opening_board.records → (n : ℕ) (t : TypeId)
    → kind_of opening_board n ≡ Some t → kind_of b n ≡ Some t
opening-kind b h n t e = go opening_board.records h e
  where
    go : (rs : List Record) → AllByRecursion (λ (o : Record). kind_of b o.birth ≡ Some o.kind) rs → option_map (λ (r : Record). r.kind) (found_at n rs) ≡ Some t
        → kind_of b n ≡ Some t
    go [] k q = absurd (let clash : None ≡ Some t = q in cc)
    go (r ∷ rs) k q = by (r.birth == n) refl (go rs k.1)
      where
        by : (u : Bool) → (r.birth == n) ≡ u → (option_map (λ (y : Record). y.kind) (found_at n rs) ≡ Some t → kind_of b n ≡ Some t) → kind_of b n ≡ Some t
        by true p rest = sym (ap (kind_of b) (eqb-true r.birth n p)) ∙ k.0 ∙ (rw p at q)
        by false p rest = rest (rw p at q)

pub good-all : (b : Board) → SoundShape b → AllOf Good b
good-all b h x r e =
    record {
      shaped = h.shaped x r e;
      kind = λ t q.
          let is : kind_of b x ≡ Some t = opening-kind b h.opening x t (sym (ap (kind_of opening_board) (found-birth x b.records r e)) ∙ q) in
          same_Some r.kind t (sym (ap (option_map (λ (y : Record). y.kind)) e) ∙ is);
      fixed = λ first.
          let own : r.birth ≡ x = found-birth x b.records r e in
          let is : unvalued (slots_at b x) ≡ unvalued (slots_at opening_board x) = at_first (sym (ap is_first own) ∙ first) in
          ap (λ (o : Option Record). unvalued (option_map_or (λ (y : Record). y.slots) o [])) (sym e) ∙ is
          ∙ ap (λ (m : ℕ). unvalued (slots_at opening_board m)) (sym own);
    }
  where
    at_first : is_first x ≡ true → unvalued (slots_at b x) ≡ unvalued (slots_at opening_board x)
    at_first k = go (eqb x ROOT_BIRTH) refl (eqb x MACHINE_BIRTH) refl
      where
        go : (t : Bool) → eqb x ROOT_BIRTH ≡ t → (u : Bool) → eqb x MACHINE_BIRTH ≡ u → unvalued (slots_at b x) ≡ unvalued (slots_at opening_board x)
        go true p u q = rw (eqb-true x ROOT_BIRTH p) h.fixed.0
        go false p true q = rw (eqb-true x MACHINE_BIRTH q) h.fixed.1.0
        go false p false q = absurd (let clash : false ≡ true = rw (p, q) at k in cc)

-- the machine's objects are there
abbrev pub OpeningLive : Board → Type 0
OpeningLive b = AllByRecursion (λ (o : Record). is_live b o.birth ≡ true) opening_board.records

pub shape-all : (b : Board) → OpeningLive b → Whole b → Typed b → AllOf Good b → SoundShape b
unfolding opening_board types
shape-all b live whole typed h =
    record {
      shaped = λ n r e. (h n r e).shaped;
      children = typed;
      whole = whole;
      opening = (
        kind 1 _ refl live.0,
        (
          kind 2 _ refl live.1.0,
          (
            kind 3 _ refl live.1.1.0,
            (
              kind 4 _ refl live.1.1.1.0,
              (
                kind 5 _ refl live.1.1.1.1.0,
                (kind 6 _ refl live.1.1.1.1.1.0, (kind 7 _ refl live.1.1.1.1.1.1.0, (kind 8 _ refl live.1.1.1.1.1.1.1.0, tt))),
              ),
            ),
          ),
        ),
      );
      fixed = (fixed 1 refl live.0, (fixed 2 refl live.1.0, tt));
    }
  where
    kind : (n : ℕ) (t : TypeId) → kind_of opening_board n ≡ Some t → is_live b n ≡ true → kind_of b n ≡ Some t
    kind n t q there = go (record_of b n) refl
      where
        go : (o : Option Record) → record_of b n ≡ o → kind_of b n ≡ Some t
        go None e = absurd (let clash : false ≡ true = sym (ap is_some e) ∙ there in cc)
        go (Some r) e =
            ap (option_map (λ (y : Record). y.kind)) e ∙ ap Some ((h n r e).kind t (ap (kind_of opening_board) (found-birth n b.records r e) ∙ q))

    fixed : (n : ℕ) → is_first n ≡ true → is_live b n ≡ true → unvalued (slots_at b n) ≡ unvalued (slots_at opening_board n)
    fixed n first there = go (record_of b n) refl
      where
        go : (o : Option Record) → record_of b n ≡ o → unvalued (slots_at b n) ≡ unvalued (slots_at opening_board n)
        go None e = absurd (let clash : false ≡ true = sym (ap is_some e) ∙ there in cc)
        go (Some r) e =
            let own : r.birth ≡ n = found-birth n b.records r e in
            ap (λ (o : Option Record). unvalued (option_map_or (λ (y : Record). y.slots) o [])) e
            ∙ (h n r e).fixed (ap is_first own ∙ first)
            ∙ ap (λ (m : ℕ). unvalued (slots_at opening_board m)) own

-- they are there where the shape is sound
pub shape-live : (b : Board) → SoundShape b → OpeningLive b
shape-live b h =
    all-imply (λ (o : Record). kind_of b o.birth ≡ Some o.kind) (λ (o : Record). is_live b o.birth ≡ true)
    (λ o e. live o.birth o.kind e) opening_board.records h.opening
  where
    live : (n : ℕ) (t : TypeId) → kind_of b n ≡ Some t → is_live b n ≡ true
    live n t e = go (record_of b n) refl
      where
        go : (o : Option Record) → record_of b n ≡ o → is_live b n ≡ true
        go None q = absurd (let clash : None ≡ Some t = sym (ap (option_map (λ (y : Record). y.kind)) q) ∙ e in cc)
        go (Some r) q = ap is_some q
