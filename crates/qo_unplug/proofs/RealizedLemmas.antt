-- Whether each object is realized, as its slots say: what leaves that to all who are still there.
use Rattle.std.proofs.Common.{◌≡◌, refl, ap, sym, subst, ◌∙◌, ℕ, Bool, true, false, ◌==◌, eqb, List, [], ◌∷◌, slice_get, Option, Some, None, option_map, codes, arith}
use Rattle.std.specs.Bool.{⊤}
use Rattle.std.specs.List.{AllByRecursion, IsDistinct}
use Rattle.std.specs.Option.{option_map_or, option_and_then}
use Rattle.std.specs.Str.{bytes_eq}
use Rattle.std.proofs.lemmas.Bool.{eqb-true, eq-eqb}
use Rattle.std.proofs.lemmas.Option.{same_Some}
use Rattle.std.proofs.lemmas.Slice.Eq.{bytes_eq-Decides}
use Rattle.qo_values.specs.declared.kinds.Act.TheVariants.{Unrealize}
use Rattle.qo_values.specs.declared.properties.Val.{Val}
use Rattle.qo_values.specs.declared.properties.Val.TheVariants as val
use Rattle.qo_model.specs.Board.{Board, Record, Slot, plain, child, strong, weak, alias, record_of, slots_at}
use Rattle.qo_model.specs.Changes.{changed_at, cut, set, with_changed, with_cut, with_val}
use Rattle.qo_model.specs.Clocks.{acted, with_act_on}
use Rattle.qo_model.specs.Depth.{among}
use Rattle.qo_model.specs.Devices.{is_true, plain_in}
use Rattle.qo_model.specs.Objects.{index_from}
use Rattle.qo_model.specs.Release.{after, drop_slot, edit, edited, finalize, finish, forgotten, forgotten_in, with_dropped}
use Rattle.qo_model.specs.ReleaseInduction.{KeepsRelease}
use Rattle.qo_model.specs.Unplug.{disconnected, is_named, set_named, unseen, unseen_named}
use Rattle.qo_model.proofs.FirstSlotLemmas.{slots_in, Found, found-at, first-changed, named_in, none-found}
use Rattle.qo_model.proofs.ReleaseInductionLemmas.{after_keeps}
use Rattle.qo_model.proofs.StepLemmas.{drop-record, finish-gone, finish-record, found-edited, found-birth}
use Rattle.qo_sound.proofs.ReadLemmas.{plain-forgotten, plain-unseen}
use Rattle.qo_sound.proofs.SearchLemmas.{all-found}
use Rattle.qo_sound.proofs.SlotLemmas.{each_slot, names-changed, names_in}
use Rattle.qo_sound.proofs.WorkLemmas.{births_of}
use Rattle.qo_sound_devices.proofs.LikenessLemmas.{apart-first, other-record}
use Rattle.qo_sound_clocks.proofs.ReadLemmas.{plain-read}
use Rattle.qo_sound_clocks.proofs.SlotLemmas.{plain-apart, plain-changed, plain-dropped, plain-each, plain-taken, plain_of, Slots}
use Rattle.qo_sound_claims.proofs.SlotLemmas.{lit_in}

-- by plain values under the name

pub lit-same : (xs ys : Slots) → plain_of (codes "realized") ys ≡ plain_of (codes "realized") xs → lit_in ys ≡ lit_in xs
lit-same xs ys e = ap (λ (o : Option Val). option_map_or is_true o false) e

-- an object that is there was there before, and is as much realized as then
abbrev pub LitAt : Option Record → Option Record → Type 0
LitAt o None = ⊤
LitAt None (Some s) = ⊥
LitAt (Some r) (Some s) = lit_in s.slots ≡ lit_in r.slots

lit-none : (o : Option Record) → LitAt o o
lit-none None = tt
lit-none (Some r) = refl

lit-step : (o : Option Record) (r s : Record) → LitAt o (Some r) → lit_in s.slots ≡ lit_in r.slots → LitAt o (Some s)
lit-step None r s h e = absurd h
lit-step (Some x) r s h e = e ∙ h

lit-then : (o p q : Option Record) → LitAt o p → LitAt p q → LitAt o q
lit-then o p None f g = tt
lit-then o None (Some t) f g = absurd g
lit-then None (Some s) (Some t) f g = absurd f
lit-then (Some r) (Some s) (Some t) f g = g ∙ f

abbrev pub SameLit : Board → Board → Type 0
SameLit b c = (x : ℕ) → LitAt (record_of b x) (record_of c x)

pub same_lit-none : (b : Board) → SameLit b b
same_lit-none b x = lit-none (record_of b x)

pub same_lit-then : (b c d : Board) → SameLit b c → SameLit c d → SameLit b d
same_lit-then b c d h k x = lit-then (record_of b x) (record_of c x) (record_of d x) (h x) (k x)

-- one object is changed
pub same_lit-edit : (n : ℕ) (change : Record → Record) → ((r : Record) → (change r).birth ≡ r.birth) → (c : Board)
    → ((r : Record) → record_of c n ≡ Some r → lit_in (change r).slots ≡ lit_in r.slots) → SameLit c (edit n change c)
same_lit-edit n change same_birth c same x = rw (found-edited n change same_birth x c.records) (go (record_of c x) refl)
  where
    at_record : (r : Record) → record_of c x ≡ Some r → (t : Bool) → (r.birth == n) ≡ t → lit_in (edited n change r).slots ≡ lit_in r.slots
    at_record r e true p =
        let is : x ≡ n = sym (found-birth x c.records r e) ∙ eqb-true r.birth n p in
        rw (edited, p) (same r (subst (λ (k : ℕ). record_of c k ≡ Some r) is e))
    at_record r e false p = rw (edited, p) refl

    go : (o : Option Record) → record_of c x ≡ o → LitAt o (option_map (edited n change) o)
    go None e = tt
    go (Some r) e = at_record r e (r.birth == n) refl

pub at-record : (c : Board) (n i : ℕ) (s : List ℕ × Slot) (r : Record) → slice_get (slots_at c n) i ≡ Some s → record_of c n ≡ Some r
    → slice_get r.slots i ≡ Some s
at-record c n i s r at e = sym (ap (λ (o : Option Record). slice_get (slots_in o) i) e) ∙ at

pub same_lit-drop : (c : Board) (n i : ℕ) → SameLit c (drop_slot c n i)
unfolding drop_slot
same_lit-drop c n i =
    same_lit-edit n (with_dropped i) (λ r. refl) c (λ r e. lit-same r.slots (with_dropped i r).slots (plain-dropped (codes "realized") i r.slots))

-- a slot is removed that is no value
pub same_lit-cut : (c : Board) (n i : ℕ) (s : List ℕ × Slot) → slice_get (slots_at c n) i ≡ Some s → plain_in s.1 ≡ None → SameLit c (cut n i c)
unfolding cut
same_lit-cut c n i s at none =
    same_lit-edit n (with_cut i) (λ r. refl) c
    (λ r e. lit-same r.slots (with_cut i r).slots (plain-taken (codes "realized") i r.slots s (at-record c n i s r at e) none))

-- a release: objects of the work end

abbrev LitBut : Board → List (ℕ × ℕ) → Board → Type 0
LitBut b work c = (x : ℕ) → among (births_of work) x ≡ false → LitAt (record_of b x) (record_of c x)

module _ (b : Board) where
  ended : (c : Board) (n i : ℕ) (work : List (ℕ × ℕ)) → LitBut b ((n, i) ∷ work) c → LitBut b work (finish c n)
  ended c n i work h x apart = go (x == n) refl
    where
      other : (o : Option Record) → LitAt (record_of b x) o → LitAt (record_of b x) (option_map (forgotten n) o)
      other None k = tt
      other (Some r) k =
          lit-step (record_of b x) r (forgotten n r) k
          (lit-same r.slots (each_slot (forgotten_in n) r.slots) (plain-each (forgotten_in n) (plain-forgotten n) (codes "realized") r.slots))

      go : (t : Bool) → (x == n) ≡ t → LitAt (record_of b x) (record_of (finish c n) x)
      go true p =
          let gone : record_of (finish c n) x ≡ None = ap (record_of (finish c n)) (eqb-true x n p) ∙ finish-gone c n in
          rw gone tt
      go false p =
          let differs : eqb x n ≡ false = p in
          rw (finish-record c n x p) (other (record_of c x) (h x (rw differs apart)))

  dropped : (c : Board) (n i : ℕ) (work : List (ℕ × ℕ)) → LitBut b ((n, i) ∷ work) c → (x : ℕ) → among (n ∷ births_of work) x ≡ false
      → LitAt (record_of b x) (record_of (drop_slot c n i) x)
  dropped c n i work h x apart =
      let differs : (x == n) ≡ false = (apart-first n x (births_of work) apart).0 in
      let same : record_of (drop_slot c n i) x ≡ record_of c x = drop-record c n i x ∙ other-record n x (with_dropped i) c refl differs (record_of c x) refl in
      subst (LitAt (record_of b x)) (sym same) (h x apart)

  release-lit : KeepsRelease (LitBut b)
  release-lit =
      record {
        ended = λ c n i work h e. ended c n i work h;
        freed = λ c n i work s m h e q free x apart. dropped c n i work h x (apart-first m x (n ∷ births_of work) apart).1;
        kept = λ c n i work s h e held_on x apart. dropped c n i work h x apart;
      }

pub same_lit-after : (c : Board) (o : Option ℕ) → SameLit c (after finalize c o)
same_lit-after c o x =
    after_keeps (LitBut c) (release-lit c) c o [] (λ m e free y apart. same_lit-none c y) (λ held_on y apart. same_lit-none c y) x refl

-- an act, and a clock that stands still

pub same_lit-acted : (n period : ℕ) (c : Board) → SameLit c (acted Unrealize n period c)
unfolding acted
same_lit-acted n period c = same_lit-edit n (with_act_on Unrealize c.now period) (λ r. refl) c (λ r e. refl)

same_lit-set : (n : ℕ) (name : List ℕ) (v : Val) → bytes_eq name (codes "realized") ≡ false → (c : Board) → SameLit c (set_named n name v c)
unfolding set
same_lit-set n name v other c = go (index_from (is_named name) 0 (slots_at c n)) refl
  where
    go : (o : Option ℕ) → index_from (is_named name) 0 (slots_at c n) ≡ o → SameLit c (set_named n name v c)
    go None e = rw (set_named, e) (same_lit-none c)
    go (Some i) e = rw (set_named, e) (same_lit-edit n (with_changed (with_val v) i) (λ r. refl) c at_slots)
      where
        f : Found (is_named name) (slots_at c n) i
        f = found-at (is_named name) i (slots_at c n) e

        is : name ≡ f.entry.0
        is = sym ((bytes_eq-Decides f.entry.0 name).0 f.passes)

        at_slots : (r : Record) → record_of c n ≡ Some r → lit_in (changed_at (with_val v) i r.slots) ≡ lit_in r.slots
        at_slots r q =
            lit-same r.slots (changed_at (with_val v) i r.slots)
            (plain-apart (with_val v) (codes "realized") i r.slots f.entry (at-record c n i f.entry r f.at q)
            (subst (λ (own : List ℕ). bytes_eq own (codes "realized") ≡ false) is other))

same_lit-unseen : (n : ℕ) (name : List ℕ) (c : Board) → SameLit c (unseen_named n name c)
same_lit-unseen n name c = go (index_from (is_named name) 0 (slots_at c n)) refl
  where
    go : (o : Option ℕ) → index_from (is_named name) 0 (slots_at c n) ≡ o → SameLit c (unseen_named n name c)
    go None e = rw (unseen_named, e) (same_lit-none c)
    go (Some i) e =
        rw (unseen_named, e)
        (same_lit-edit n (with_changed unseen i) (λ r. refl) c
        (λ r q. lit-same r.slots (changed_at unseen i r.slots) (plain-changed unseen plain-unseen (codes "realized") i r.slots)))

pub same_lit-disconnected : (o : Option ℕ) (c : Board) → SameLit c (disconnected o c)
same_lit-disconnected None c = same_lit-none c
same_lit-disconnected (Some n) c =
    let d : Board = unseen_named n (codes "source") c in
    same_lit-then c d (disconnected (Some n) c) (same_lit-unseen n (codes "source") c) (same_lit-set n (codes "period") (val.Uint 0) refl d)

-- where names differ, an object of which that it is realized was set to false is not realized

dark-in : (o : Option Slot) → option_map_or is_true (option_and_then plain_in (option_map (with_val (val.Bool false)) o)) false ≡ false
dark-in None = refl
dark-in (Some (plain v)) = refl
dark-in (Some (child m)) = refl
dark-in (Some (strong t target)) = refl
dark-in (Some (weak t target)) = refl
dark-in (Some (alias m property)) = refl

read-lit : (xs : Slots) → IsDistinct bytes_eq (names_in xs)
    → lit_in xs ≡ option_map_or is_true (option_and_then plain_in (named_in (codes "realized") xs)) false
read-lit xs differ = ap (λ (o : Option Val). option_map_or is_true o false) (sym (plain-read (codes "realized") xs differ))

dark-slots : (i : ℕ) (xs : Slots) → IsDistinct bytes_eq (names_in xs) → index_from (is_named (codes "realized")) 0 xs ≡ Some i
    → lit_in (changed_at (with_val (val.Bool false)) i xs) ≡ false
dark-slots i xs differ e =
    let ys : Slots = changed_at (with_val (val.Bool false)) i xs in
    let same : names_in ys ≡ names_in xs = names-changed (with_val (val.Bool false)) i xs in
    read-lit ys (subst (λ (ns : List (List ℕ)). IsDistinct bytes_eq ns) (sym same) differ)
    ∙ ap (λ (o : Option Slot). option_map_or is_true (option_and_then plain_in o) false)
    (first-changed (with_val (val.Bool false)) (codes "realized") xs 0 i i e (omega arith))
    ∙ dark-in (named_in (codes "realized") xs)

dark-none : (xs : Slots) → IsDistinct bytes_eq (names_in xs) → index_from (is_named (codes "realized")) 0 xs ≡ None → lit_in xs ≡ false
dark-none xs differ e =
    read-lit xs differ ∙ ap (λ (o : Option Slot). option_map_or is_true (option_and_then plain_in o) false) (none-found (codes "realized") xs 0 e)

pub dark-set : (d : ℕ) (c : Board) → AllByRecursion (λ (r : Record). IsDistinct bytes_eq (names_in r.slots)) c.records → (s : Record)
    → record_of (set_named d (codes "realized") (val.Bool false) c) d ≡ Some s → lit_in s.slots ≡ false
unfolding set
dark-set d c named s e = go (index_from (is_named (codes "realized")) 0 (slots_at c d)) refl
  where
    go : (o : Option ℕ) → index_from (is_named (codes "realized")) 0 (slots_at c d) ≡ o → lit_in s.slots ≡ false
    go None q =
        let there : record_of c d ≡ Some s = rw (set_named, q) at e in
        dark-none s.slots (all-found (λ (r : Record). IsDistinct bytes_eq (names_in r.slots)) d c.records named s there)
        (sym (ap (λ (o : Option Record). index_from (is_named (codes "realized")) 0 (slots_in o)) there) ∙ q)
    go (Some i) q = by (record_of c d) refl
      where
        change : Record → Record
        change = with_changed (with_val (val.Bool false)) i

        now : record_of (edit d change c) d ≡ Some s
        now = rw (set_named, q) at e

        by : (o : Option Record) → record_of c d ≡ o → lit_in s.slots ≡ false
        by None p =
            absurd
            (let clash : None ≡ Some s = sym (found-edited d change (λ r. refl) d c.records ∙ ap (option_map (edited d change)) p) ∙ now in cc)
        by (Some r) p =
            let own : (r.birth == d) ≡ true = eq-eqb r.birth d (found-birth d c.records r p) in
            let to : Some (edited d change r) ≡ Some s =
            sym (found-edited d change (λ x. refl) d c.records ∙ ap (option_map (edited d change)) p) ∙ now in
            let is : change r ≡ s = rw (edited, own) at (same_Some (edited d change r) s to) in
            ap (λ (x : Record). lit_in x.slots) (sym is)
            ∙ dark-slots i r.slots (all-found (λ (x : Record). IsDistinct bytes_eq (names_in x.slots)) d c.records named r p)
            (sym (ap (λ (o : Option Record). index_from (is_named (codes "realized")) 0 (slots_in o)) p) ∙ q)

-- the others stay as they are, whatever is set
pub other-set : (d x : ℕ) (name : List ℕ) (v : Val) (c : Board) → (x == d) ≡ false → record_of (set_named d name v c) x ≡ record_of c x
unfolding set
other-set d x name v c apart = go (index_from (is_named name) 0 (slots_at c d)) refl
  where
    go : (o : Option ℕ) → index_from (is_named name) 0 (slots_at c d) ≡ o → record_of (set_named d name v c) x ≡ record_of c x
    go None e = rw (set_named, e) refl
    go (Some i) e =
        rw (set_named, e)
        (found-edited d (with_changed (with_val v) i) (λ r. refl) x c.records
        ∙ other-record d x (with_changed (with_val v) i) c refl apart (record_of c x) refl)
